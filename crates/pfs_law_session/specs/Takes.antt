-- Whether a take found something counted, as a function of its action's number and its row: there is one, since no
-- action takes a row twice.
use Rattle.std.specs.Prelude.{ℕ, ◌<◌, ◌≤◌, IfSome, ◌≡◌, ◌-◌, ◌==◌, ◌&&◌, not, Bool, false, if◌then◌else◌, List, [], ◌∷◌, ◌++◌, map}
use Rattle.pfs_admin.specs.FoldLaws.{row_of}
use Rattle.pfs_admin.specs.AdministrationStates.{seat_at, seat_in}
use Rattle.pfs_admin.specs.Truncations.{work_of_truncation}
use Rattle.pfs_containers.specs.ContainerState.{IsInRange}
use Rattle.pfs_event.specs.declared.entry.Entry.{Entry}
use Rattle.pfs_event.specs.declared.entry.Entry.TheVariants as says
use Rattle.pfs_levels.specs.Flushes.{Ascends, from_of}
use Rattle.pfs_model.specs.Chains.{Each, times}
use Rattle.pfs_law_session.specs.Deeds.{Deed, Connecting, Starting, Staging, StageEnding, Ending, Spending, Quitting, Truncating, Changing, Showing, Querying, Refusing, Closing, Part, part_entries}
use Rattle.pfs_law_session.specs.Stints.{Stint, IsDoneBy, along}
use Rattle.pfs_stat.specs.Stat.{stat_of_words}
use Rattle.pfs_law_session.specs.Demands.{AreCounted, number_of}
use Rattle.pfs_law_session.specs.AllActions.{all_numbers}

-- a row that an action took, and the version at which it was left
pub record Taken : Type 0 where
  pub action : ℕ
  pub row : ℕ
  pub version : ℕ

abbrev pub taken_at : ℕ → Entry → List Taken
taken_at action (says.Take row version) = record { action = action; row = row; version = version } ∷ []
taken_at action entry = []

abbrev pub taken_in : ℕ → List Entry → List Taken
taken_in action [] = []
taken_in action (entry ∷ entries) = taken_at action entry ++ taken_in action entries

abbrev pub taken_by : List Part → List Taken
taken_by [] = []
taken_by (p ∷ ps) = taken_in (number_of p.deed) (part_entries p) ++ taken_by ps

abbrev pub all_taken : List Stint → List Taken
all_taken stints = along taken_by stints

abbrev pub found_counted : (ℕ → ℕ → List ℕ) → Taken → Bool
found_counted content taken = not ((stat_of_words (content taken.row (taken.version - 1))).count == 0)

abbrev pub is_of : ℕ → ℕ → Taken → Bool
is_of action row taken = (taken.action == action) && (taken.row == row)

abbrev pub counted_by : (ℕ → ℕ → List ℕ) → List Taken → ℕ → ℕ → Bool
counted_by content [] action row = false
counted_by content (taken ∷ others) action row =
    if is_of action row taken then found_counted content taken else counted_by content others action row

-- no action takes a row twice
abbrev pub AreApart : List Taken → Type 0
AreApart [] = Unit {0}
AreApart (taken ∷ others) = Each (λ other. is_of other.action other.row taken ≡ false) others × AreApart others

abbrev pub CountedIn : (ℕ → ℕ → List ℕ) → (ℕ → ℕ → Bool) → List Part → Type 0
CountedIn content counted [] = Unit {0}
CountedIn content counted (p ∷ ps) =
    AreCounted content counted (number_of p.deed) (part_entries p) × CountedIn content counted ps

abbrev pub AllCounted : (ℕ → ℕ → List ℕ) → (ℕ → ℕ → Bool) → List Stint → Type 0
AllCounted content counted stints = Each (λ stint. CountedIn content counted stint.parts) stints

abbrev pub CountedLaw : Type 0
CountedLaw = (content : ℕ → ℕ → List ℕ) (stints : List Stint) → AreApart (all_taken stints)
    → AllCounted content (counted_by content (all_taken stints)) stints

-- no number stands there twice
abbrev pub AreOnce : List ℕ → Type 0
AreOnce numbers = (number : ℕ) → times (λ n. n == number) numbers ≤ 1

-- a session's places are in range, and the cells that a quit moves ascend; a truncation takes no row twice, and the
-- rows that it releases or writes ascend, those of info below those of rings
abbrev pub IsSeated : ℕ → Deed → Type 0
IsSeated session (Quitting admin) = Ascends 0 64 admin.cells × IfSome (seat_in admin session) IsInRange
IsSeated session (Truncating admin what) = AreOnce (map from_of (work_of_truncation admin what).moves)
    × Ascends 1 14242 (map row_of (work_of_truncation admin what).signs)
IsSeated session (Connecting admin user host) = IfSome (seat_at admin session user host) IsInRange
IsSeated session (Changing admin what) = Unit {0}
IsSeated session (Showing admin count) = Unit {0}
IsSeated session (Querying readings count) = Unit {0}
IsSeated session (Refusing error) = Unit {0}
IsSeated session (Starting subject) = Unit {0}
IsSeated session (Staging subject) = Unit {0}
IsSeated session StageEnding = Unit {0}
IsSeated session (Ending numbers) = Unit {0}
IsSeated session (Spending time) = Unit {0}
IsSeated session Closing = Unit {0}

abbrev pub AreSeated : ℕ → List Part → Type 0
AreSeated session [] = Unit {0}
AreSeated session (p ∷ ps) = IsSeated session p.deed × AreSeated session ps

pub record IsSeatedStint (stint : Stint) : Type 0 where
  pub done : IsDoneBy stint.session stint.parts
  pub seated : AreSeated stint.session stint.parts

-- so no action takes a row twice, where no number is that of two
abbrev pub ApartLaw : Type 0
ApartLaw = (stints : List Stint) → Each IsSeatedStint stints
    → ((number : ℕ) → 0 < number → times (λ n. n == number) (all_numbers stints) ≤ 1) → AreApart (all_taken stints)
