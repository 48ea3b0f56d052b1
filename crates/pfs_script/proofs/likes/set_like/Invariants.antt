use Rattle.std.proofs.Common.{◌≡◌, ℕ, List}
use Rattle.pfs_classes.specs.Registry.{Registry}
use Rattle.pfs_classes.specs.Settings.{ComesFrom}
use Rattle.pfs_script.proofs.FlagChanges.{front_set}
use Rattle.pfs_script.proofs.likes.set_like.Given as goal

-- the classes so far are set
pub record Passed (names : List (List ℕ)) (before after so_far : Registry) : Type 0 where
  pub value : after ≡ so_far
  pub come : ComesFrom names after

abbrev pub invariant-loop-id : goal.invariant-loop-id
invariant-loop-id l = Passed l.names l.initial.classes l.classes (front_set l.names l.pattern l.enabled l.timed l.initial.classes l.id)
