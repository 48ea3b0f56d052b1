-- The changes that each session made itself.
use Rattle.std.specs.Prelude.{ℕ, ◌≡◌, ◌<◌, ◌≤◌, ◌==◌, nat_lt, Bool, ◌&&◌, List, IsTrue}
use Rattle.std.specs.BTreeSet.{BTreeSet, contains}
use Rattle.std.specs.declared.cmp.Ordering.{Ordering}
use Rattle.std.specs.Ordering.{nat_cmp, ordering_then}
use Rattle.pfs_model.specs.Chains.{change_at, each_of, is_that, row_change, times}
use Rattle.pfs_model.specs.EntryPlaces.{Placed, by_session}
use Rattle.pfs_check_causes.specs.declared.own.OwnChange.{OwnChange}

abbrev pub own_cmp : OwnChange → OwnChange → Ordering
own_cmp one other =
    ordering_then (nat_cmp one.session other.session)
    (ordering_then (nat_cmp one.row other.row) (nat_cmp one.version other.version))

abbrev pub own_at : ℕ → ℕ → ℕ → OwnChange
own_at session row version = record { session = session; row = row; version = version }

abbrev pub is_same_own : OwnChange → OwnChange → Bool
is_same_own own one =
    (own.session == one.session) && ((own.row == one.row) && (own.version == one.version))

-- an entry of the session is that change
abbrev pub was_made : List Placed → OwnChange → Bool
was_made places one =
    nat_lt 0 (times (is_that (change_at one.row one.version)) (each_of row_change (by_session one.session places)))

abbrev pub AreOwn : List Placed → BTreeSet OwnChange → Type 0
AreOwn places made = (one : OwnChange) → contains own_cmp made one ≡ was_made places one

-- the session made a change of the row above the first version and up to the last
abbrev pub HasBetween : BTreeSet OwnChange → ℕ → ℕ → ℕ → ℕ → Type 0
HasBetween made session row first last =
    (version : ℕ) × (first < version) × (version ≤ last) × IsTrue (contains own_cmp made (own_at session row version))
