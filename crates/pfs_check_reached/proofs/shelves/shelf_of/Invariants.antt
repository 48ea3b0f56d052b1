use Rattle.pfs_check_reached.proofs.ShelfFacts.{AreTold}
use Rattle.pfs_check_reached.proofs.shelves.shelf_of.Given as goal

abbrev pub invariant-loop-one : goal.invariant-loop-one
invariant-loop-one l = AreTold l.changes l.reached.kept l.one-index
