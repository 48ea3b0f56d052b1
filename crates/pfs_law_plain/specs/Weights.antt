-- What the entries of a session print weighs as what its calls did, whatever store it has.
use Rattle.std.specs.Prelude.{ℕ, ◌≡◌, ◌+◌, List}
use Rattle.pfs_levels.specs.Calls.{Call}
use Rattle.pfs_levels.specs.JointCalls.{total, At, at_put, at_free, changes_of, Setting, sets_of}
use Rattle.pfs_model.specs.Actions.{settings_of}
use Rattle.pfs_model.specs.Actions.{Setting as PrintedSetting}
use Rattle.pfs_model.specs.Chains.{row_change, release_of, each_of}
use Rattle.pfs_model.specs.Contexts.{Context}
use Rattle.pfs_model.specs.EntryPlaces.{Placed, placed_lines, by_session, places}
use Rattle.pfs_model.specs.declared.changes.Change.{Change}
use Rattle.pfs_law_session.specs.Deeds.{Part, parts_calls}
use Rattle.pfs_law_session.specs.JournalLaws.{AreParts, lines_of, entries_of}
use Rattle.pfs_law_session.specs.Stints.{Stint, AreStints, blocks_of, parts_by}
use Rattle.pfs_session.specs.SessionStates.{State}
use Rattle.pfs_law_plain.specs.SessionNotes.{Sits}

abbrev pub put_at : Change → At
put_at change = at_put change.row change.version

abbrev pub free_at : Change → At
free_at change = at_free change.row change.version

abbrev pub setting_of : PrintedSetting → Setting
setting_of s = record { word = s.word; version = s.version; flags = s.flags }

-- however publications, releases and sets are weighed, those that are printed weigh as those of the calls
pub record AreWeighed (all : List Placed) (calls : List Call) : Type 0 where
  pub rows : (h : At → ℕ)
      → total (λ c. h (put_at c)) (each_of row_change all) + total (λ c. h (free_at c)) (each_of release_of all)
      ≡ total h (changes_of calls)
  pub sets : (h : Setting → ℕ) → total (λ s. h (setting_of s)) (settings_of all) ≡ total h (sets_of calls)

-- of lines one after another, such as a block
abbrev pub WeighedLaw : Type 0
WeighedLaw = (phase session : ℕ) (context : Context) (s : State) (parts : List Part) → Sits context s
    → AreParts s parts
    → AreWeighed (placed_lines phase session context (lines_of parts) (entries_of parts)) (parts_calls parts)

-- of all blocks of each session among those that run
abbrev pub WeighedThroughLaw : Type 0
WeighedThroughLaw = (stack : ℕ) (depths : ℕ → ℕ) (session : ℕ) (stints : List Stint) → AreStints stack depths stints
    → AreWeighed (by_session session (places (blocks_of stints))) (parts_calls (parts_by session stints))
