-- What the blocks so far tell of each session.
use Rattle.std.specs.Prelude.{ℕ, List, Option, Some, None}
use Rattle.std.specs.Ordering.{nat_cmp}
use Rattle.std.specs.BTreeMap.{BTreeMap, get}
use Rattle.pfs_model.specs.Contexts.{Context, fresh}
use Rattle.pfs_model.specs.EntryPlaces.{Block, told_by}
use Rattle.pfs_check_trail.specs.Trails.{IsTrailOf}

-- nothing is told of a session before its first block
abbrev pub told_in : Option Context → Context
told_in None = fresh
told_in (Some trail) = trail

abbrev pub trail_at : BTreeMap ℕ Context → ℕ → Context
trail_at trails session = told_in (get nat_cmp trails session)

-- of each session the trail is the one of these blocks
abbrev pub AreTrailsOf : List Block → BTreeMap ℕ Context → Type 0
AreTrailsOf blocks trails = (session : ℕ) → IsTrailOf (told_by session fresh blocks) (trail_at trails session)
