-- Which rows were released, at which versions.
use Rattle.std.specs.Prelude.{ℕ, ◌≡◌, min, nat_lt, Bool, true, false, List, Option, Some, None}
use Rattle.std.specs.BTreeMap.{BTreeMap, get}
use Rattle.std.specs.declared.cmp.Ordering.{Ordering}
use Rattle.std.specs.Ordering.{nat_cmp, ordering_then}
use Rattle.pfs_check_tops.specs.SortedTops.{AreTopsOf}
use Rattle.pfs_model.specs.declared.changes.Change.{Change}
use Rattle.pfs_model.specs.Chains.{each_of, is_that, release_of, times}
use Rattle.pfs_model.specs.EntryPlaces.{Placed, before_phase}
use Rattle.pfs_check_floors.specs.declared.releases.Releases.{Releases}
use Rattle.pfs_check_floors.specs.KeyedGivens.{by_action}

abbrev pub change_cmp : Change → Change → Ordering
change_cmp one other = ordering_then (nat_cmp one.row other.row) (nat_cmp one.version other.version)

-- a version above the greatest release, where there is one
abbrev pub below_test : Option ℕ → ℕ → Bool
below_test None version = true
below_test (Some last) version = nat_lt last version

abbrev pub earlier_of : Option ℕ → ℕ → ℕ
earlier_of None phase = phase
earlier_of (Some first) phase = min first phase

-- before a phase, where the first release was in this one
abbrev pub freed_by : Option ℕ → ℕ → Bool
freed_by None phase = false
freed_by (Some first) phase = nat_lt first phase

-- a row was released at a version before a phase
abbrev pub was_freed : List Placed → Change → ℕ → Bool
was_freed places change phase = nat_lt 0 (times (is_that change) (each_of release_of (before_phase phase places)))

abbrev pub AreFreed : List Placed → BTreeMap Change ℕ → Type 0
AreFreed places freed = (change : Change) → (phase : ℕ)
    → freed_by (get change_cmp freed change) phase ≡ was_freed places change phase

pub record AreReleasesOf (all : List Placed) (releases : Releases) : Type 0 where
  pub actions : AreTopsOf releases.actions (by_action release_of all)
  pub freed : AreFreed all releases.freed
