-- What actions change: along a row, or a word, their numbers never fall.
use Rattle.std.specs.Prelude.{ℕ, ◌≡◌, ◌⊎◌, ◌<◌, ◌≤◌, ◌==◌, Bool, true, false, not, cond, ◌&&◌, List}
use Rattle.pfs_levels.specs.Calls.{Call}
use Rattle.pfs_levels.specs.JointCalls.{total, one_if}
use Rattle.pfs_levels.specs.CallOrder.{Mark, AreMarked, AreOrdered, AreFloored, AllCalls, all_word_marks}

-- a change or a release of a row by an action, or a set of a word, as whoever records it tells it
pub record Deed : Type 0 where
  pub action : ℕ
  pub row : ℕ
  pub version : ℕ
  pub releases : Bool

abbrev pub is_deed : Deed → Mark → Bool
is_deed d m = (m.row == d.row) && ((m.version == d.version)
    && ((m.action == d.action) && cond d.releases (not m.puts) m.puts))

-- an action did this: it stands in the log
abbrev pub WasDone : List Mark → Deed → Type 0
WasDone log d = 0 < total (λ m. one_if (is_deed d m)) log

-- of two of a row the first is at a lower version, or it is the change at a version and the other its release
abbrev pub StandsBefore : Deed → Deed → Type 0
StandsBefore first next = (first.row ≡ next.row)
    × ((first.version < next.version)
    ⊎ ((first.version ≡ next.version) × (first.releases ≡ false) × (next.releases ≡ true)))

abbrev pub NeverFall : List Mark → Type 0
NeverFall log = (first next : Deed) → WasDone log first → WasDone log next → 0 < next.action
    → StandsBefore first next → first.action ≤ next.action

-- along rows, by the order of all changes
abbrev pub RowsLaw : Type 0
RowsLaw = (log : List Mark) → AreMarked log → AreOrdered log → NeverFall log

-- along words, by the floors of the sets: an action knows those before it as ended, and sets above what they set
abbrev pub WordsLaw : Type 0
WordsLaw = (actors : List (List Call)) (log words : List Mark) → AllCalls (AreFloored log words) actors
    → ((h : Mark → ℕ) → total h (all_word_marks actors) ≡ total h words) → NeverFall words
