-- What a block that was played over an actor of its own gives its phase.
use Rattle.std.specs.Prelude.{ℕ, ◌≡◌, ◌+◌, List, length}
use Rattle.pfs_admin.specs.declared.changes.Change.{Change}
use Rattle.pfs_board.specs.declared.view.Label.{Label}
use Rattle.pfs_classes.specs.declared.setting.Setting.{Setting}
use Rattle.pfs_journal.specs.declared.blocks.BlockReport.{BlockReport}
use Rattle.pfs_law_plain.specs.Spells.{Doing, Spell, doings_calls, parts_in}
use Rattle.pfs_law_script.specs.BlocksAhead.{block_at}
use Rattle.pfs_law_script.specs.Course.{session_at}
use Rattle.pfs_law_script.specs.CourseSteps.{IsPlayed, spell_at}
use Rattle.pfs_law_script.specs.ReportSpells.{IsTold}
use Rattle.pfs_law_session.specs.JournalLaws.{entries_of, state_behind}
use Rattle.pfs_levels.specs.Calls.{Call, Opening}
use Rattle.pfs_model.specs.JournalCuts.{joined}
use Rattle.pfs_runs.specs.SelectAnswers.{Answer}
use Rattle.pfs_script.specs.declared.blocks.Block.{Block}
use Rattle.pfs_script.specs.declared.blocks.Phase.{Phase}
use Rattle.pfs_session.specs.SessionStates.{Book}

-- its spell: the block was played as the spells before the phase left its session, and the session is as it leaves it,
-- with its journal; the calls of the spell, and no others, lead to the actor as it is now; and a report with the
-- session's journal and answers tells of it
pub record HasSpell (setting : Setting) (change : Label → Change) (depths : ℕ → ℕ) (spells : List Spell)
    (before : List Phase) (block : Block) (new : Book) (given : List Answer) (start : Opening) (now : Opening → List Call
    → Type 0) : Type 0 where
  pub doings : List Doing
  pub played : IsPlayed setting change depths spells (block_at before block) doings
  pub state : new.state ≡ state_behind (session_at setting depths spells block.session) (parts_in doings)
  pub entries : new.journal.entries ≡ joined (entries_of (parts_in doings))
  pub reached : now start (doings_calls doings)
  pub told : (report : BlockReport) → report.session ≡ block.session → report.entries ≡ new.journal.entries
      → report.answers ≡ given
      → IsTold setting (1 + length before) block (spell_at (block_at before block) doings) report
