-- The first draws from 0.
use Rattle.std.proofs.Common.{◌≡◌, ◌/◌, ◌%◌, ◌^◌, refl, arith}
use Rattle.std.specs.Prelude.{codes}
use Rattle.pfs_gen.specs.Draws.{step, state_after, draw}
use Rattle.pfs_gen.specs.GeneratedScript.{statement_line}

first_draw : draw 0 0 ≡ 167951807
unfolding draw state_after step
first_draw = refl

-- so the first statement is the last of the four
first_statement : statement_line (draw 0 0 % 4) ≡ codes "start statement/sql/delete DELETE FROM orders WHERE id IN (1, 2, 3)\n"
unfolding statement_line draw state_after step
first_statement = refl

-- with another divisor it would be another number
not_by_two_to_32 : ¬ (state_after 0 1 / 2 ^ 32 ≡ draw 0 0)
unfolding draw state_after step
not_by_two_to_32 same = omega (arith, same)
