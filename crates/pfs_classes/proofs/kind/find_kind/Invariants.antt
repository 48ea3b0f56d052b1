use Rattle.std.proofs.Common.{◌≡◌, ◌<◌, ◌++◌, ◌∷◌, ℕ, List}
use Rattle.std.specs.Prelude.{IsTrue}
use Rattle.pfs_classes.specs.declared.kind.Kind.{Kind}
use Rattle.pfs_classes.specs.Kinds.{kind_name, are_parts}
use Rattle.pfs_classes.proofs.KindLemmas.{order_of}
use Rattle.pfs_classes.proofs.kind.find_kind.Given as goal

-- the name has no kind that was passed
abbrev pub invariant-loop-kind : goal.invariant-loop-kind
invariant-loop-kind l = (k : Kind) → order_of k < l.kind-index → ¬ ((parts : List ℕ) × (l.name ≡ kind_name k ++ 47 ∷ parts) × IsTrue (are_parts parts))
