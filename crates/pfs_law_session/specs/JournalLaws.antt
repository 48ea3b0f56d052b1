-- What stands at a line of a session is what the line asks for, and the session stands behind it as its journal tells.
use Rattle.std.specs.Prelude.{ℕ, ◌≡◌, Bool, List, [], ◌∷◌, Ok}
use Rattle.pfs_event.specs.declared.entry.Entry.{Entry}
use Rattle.pfs_model.specs.Contexts.{Context, turned, after}
use Rattle.pfs_model.specs.Contexts.{fresh as empty}
use Rattle.pfs_model.specs.Cuts.{cut}
use Rattle.pfs_model.specs.JournalCuts.{AreShaped}
use Rattle.pfs_model.specs.EventNumbers.{AreNumbered}
use Rattle.pfs_model.specs.EntryPlaces.{placed_part, placed_lines, after_lines}
use Rattle.pfs_model.specs.SetupFlags.{AreJudged}
use Rattle.pfs_model.specs.Shapes.{shape}
use Rattle.pfs_model.specs.declared.lines.Line.{Line}
use Rattle.pfs_session.specs.SessionStates.{State, fresh}
use Rattle.pfs_session.specs.Turns.{state_after}
use Rattle.pfs_law_session.specs.Agreement.{Agrees, Stands, LoadsAgree}
use Rattle.pfs_law_session.specs.Deeds.{Part, IsPart, MayDo, is_over, line_of, part_calls, part_entries}

-- the entries of a line are those that it asks for; each start has the verdict of the flags that it loaded, each start
-- and end its event's numbers; and the session stands behind them as they tell
pub record IsWritten (flags : ℕ → ℕ → ℕ) (stack : ℕ) (over : Bool) (context : Context) (line : Line)
    (entries : List Entry) (behind : State) : Type 0 where
  pub shaped : cut (shape context line) entries ≡ Ok []
  pub judged : (phase session : ℕ) → AreJudged stack flags (placed_part phase session line (turned context) entries)
  pub numbered : (phase session : ℕ) → AreNumbered (placed_part phase session line (turned context) entries)
  pub stands : Stands flags over (after context line entries) behind

-- of every line of a session, where each load gave the flags of its version
abbrev pub WrittenLaw : Type 0
WrittenLaw = (flags : ℕ → ℕ → ℕ) (over : Bool) (context : Context) (s : State) (p : Part) → Stands flags over context s
    → MayDo over s p.deed → IsPart s p → LoadsAgree flags (part_calls p)
    → IsWritten flags s.stack (is_over over p.deed) context (line_of p.deed) (part_entries p) (state_after s p.turns)

-- lines one after another within a phase, such as a block
abbrev pub AreParts : State → List Part → Type 0
AreParts s [] = Unit {0}
AreParts s (p ∷ ps) = IsPart s p × AreParts (state_after s p.turns) ps

abbrev pub MayDoAll : Bool → State → List Part → Type 0
MayDoAll over s [] = Unit {0}
MayDoAll over s (p ∷ ps) = MayDo over s p.deed × MayDoAll (is_over over p.deed) (state_after s p.turns) ps

abbrev pub AllLoadsAgree : (ℕ → ℕ → ℕ) → List Part → Type 0
AllLoadsAgree flags [] = Unit {0}
AllLoadsAgree flags (p ∷ ps) = LoadsAgree flags (part_calls p) × AllLoadsAgree flags ps

abbrev pub lines_of : List Part → List Line
lines_of [] = []
lines_of (p ∷ ps) = line_of p.deed ∷ lines_of ps

abbrev pub entries_of : List Part → List (List Entry)
entries_of [] = []
entries_of (p ∷ ps) = part_entries p ∷ entries_of ps

abbrev pub state_behind : State → List Part → State
state_behind s [] = s
state_behind s (p ∷ ps) = state_behind (state_after s p.turns) ps

abbrev pub over_behind : Bool → List Part → Bool
over_behind over [] = over
over_behind over (p ∷ ps) = over_behind (is_over over p.deed) ps

-- the parts of a session's journal are what its lines ask for, its verdicts those of the flags that it loaded, and its
-- events have their numbers; so of the next lines too
pub record IsJournaled (flags : ℕ → ℕ → ℕ) (stack : ℕ) (over : Bool) (context : Context) (s : State)
    (parts : List Part) : Type 0 where
  pub shaped : AreShaped context (lines_of parts) (entries_of parts)
  pub judged : (phase session : ℕ)
      → AreJudged stack flags (placed_lines phase session context (lines_of parts) (entries_of parts))
  pub numbered : (phase session : ℕ)
      → AreNumbered (placed_lines phase session context (lines_of parts) (entries_of parts))
  pub stands : Stands flags (over_behind over parts) (after_lines context (lines_of parts) (entries_of parts))
      (state_behind s parts)

abbrev pub JournalLaw : Type 0
JournalLaw = (flags : ℕ → ℕ → ℕ) (over : Bool) (context : Context) (s : State) (parts : List Part)
    → Stands flags over context s → MayDoAll over s parts → AreParts s parts → AllLoadsAgree flags parts
    → IsJournaled flags s.stack over context s parts

-- a session that begins stands as an empty journal tells
abbrev pub FreshLaw : Type 0
FreshLaw = (flags : ℕ → ℕ → ℕ) (number stack depth : ℕ) → Agrees flags empty (fresh number stack depth)
