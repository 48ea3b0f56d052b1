use Rattle.std.proofs.Common.{ℕ, [], List, length, sym, ap, subst, arith}
use Rattle.atomic_table.specs.Table.{opening}
use Rattle.pfs_switches.specs.Knowledge.{whole}
use Rattle.pfs_switches.specs.Rule.{Ruled}
use Rattle.pfs_switches.proofs.SwitchEnds.{opens}
use Rattle.pfs_switches.proofs.Seats.{parts_with}
use Rattle.pfs_switches.proofs.switches.Switches.open.Goals as goal

pub of_words-requires : goal.of_words-requires
of_words-requires c = let ws : List ℕ = c.in_ok-words.words.items in subst (λ (z : List ℕ). Ruled {S = Unit {0}} ws (opening {S = Unit {0}} z [] (whole ws))) (sym c.as_slice.ensures.value) (opens (Unit {0}) ws c.in_ok-words.ensures.form)

pub split_seat-writer-requires : goal.split_seat-writer-requires
split_seat-writer-requires c = let k = c.in_ok-table.ensures in let form = c.in_ok-words.ensures.form in let some_word = form.some_word in let n = ap (length {A = ℕ}) c.as_slice.ensures.value in let words = k.0 in (
  k.2,
  omega arith,
  parts_with _ c.in_ok-table.table.shared.key.items c.in_ok-table.seat.id c.in_ok-table.seat.me.0 (λ i. (k.4 i).0.live) (λ i. (k.4 i).0.writes),
)
