use Rattle.std.proofs.Common.{◌≡◌, map, take}
use Rattle.pfs_setups.specs.HeldRows.{actor_values}
use Rattle.pfs_check_orders.proofs.held.actor_rows.Given as goal

-- the rows that were passed
abbrev pub invariant-loop-place : goal.invariant-loop-place
invariant-loop-place l = l.rows ≡ map actor_values (take l.place l.actors)
