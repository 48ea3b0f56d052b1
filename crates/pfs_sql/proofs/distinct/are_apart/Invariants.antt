use Rattle.std.proofs.Common.{◌≡◌, drop}
use Rattle.std.specs.Cmp.Lexicographic.{slice_cmp}
use Rattle.std.specs.Ordering.{nat_cmp}
use Rattle.std.specs.BTreeSet.{contains}
use Rattle.pfs_sql.specs.Grammar.{are_apart}
use Rattle.pfs_sql.proofs.FreshNames.{fresh}
use Rattle.pfs_sql.proofs.distinct.are_apart.Given as goal

abbrev pub invariant-names : goal.invariant-names
invariant-names l = are_apart l.names ≡ fresh (contains (slice_cmp nat_cmp) l.seen) (drop l.name-index l.names)
