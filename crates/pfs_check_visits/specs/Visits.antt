-- Entries visited one after another, with how many they are.
use Rattle.std.specs.Prelude.{ℕ, ◌≡◌, List, length}
use Rattle.pfs_model.specs.EntryPlaces.{Placed}
use Rattle.pfs_check_faults.specs.ReportCases.{AllHave}
use Rattle.pfs_check_walk.specs.Walks.{LacksFirst, onto}
use Rattle.pfs_check_visits.specs.declared.visited.Visited.{Visited}
use Rattle.pfs_check_visits.specs.declared.visited.Visited.TheVariants.{Kept, Lacking}

-- all of these keep the rule, all are known, and they are so many
pub record AreKept (rule : List Placed → Placed → Type 0) (earlier places : List Placed) (knows : List Placed → Type 0)
    (count : ℕ) : Type 0 where
  pub keep : AllHave rule earlier places
  pub known : knows (onto earlier places)
  pub count_is : count ≡ length places

-- where all keep it, this is told too; or this is the place of the first that doesn't
abbrev pub AreVisited : (List Placed → Placed → Type 0) → List Placed → List Placed → (List Placed → Type 0) → Type 0
    → Visited → Type 0
AreVisited rule earlier places knows told (Kept count) = AreKept rule earlier places knows count × told
AreVisited rule earlier places knows told (Lacking at) = LacksFirst rule earlier places at
