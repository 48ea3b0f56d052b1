-- The worked script of pfs_runs, two sessions in two phases, as a course has it.
use Rattle.std.proofs.Common.{ℕ, ◌≡◌, List, [], ◌∷◌, true, false, None, refl, sym, subst}
use Rattle.pfs_admin.specs.AdministrationStates.{State as Administration}
use Rattle.pfs_admin.specs.declared.changes.Change.TheVariants as changes
use Rattle.pfs_law_plain.specs.Spells.{Doing, Spell, parts_in}
use Rattle.pfs_classes.specs.declared.setting.Setting.{Setting}
use Rattle.pfs_event.specs.declared.entry.Entry.{Entry}
use Rattle.pfs_event.specs.declared.entry.Entry.TheVariants as says
use Rattle.pfs_exec.specs.declared.query.Select.{Select}
use Rattle.pfs_law_plain.specs.ToldAnswers.{Answers, IsShow}
use Rattle.pfs_journal.specs.declared.report.PhaseParts.{PhaseParts}
use Rattle.pfs_model.specs.JournalCuts.{joined}
use Rattle.pfs_law_session.specs.Deeds.{Connecting, Starting, Ending, Spending, Quitting, Closing}
use Rattle.pfs_exec.specs.Requests.{request_of}
use Rattle.pfs_exec.specs.declared.requests.Request.TheVariants as requests
use Rattle.pfs_runs.specs.SelectAnswers.{Answer, AreAnswers, selection_in, selections_in}
use Rattle.pfs_runs.specs.ScriptExamples.{waiting, connecting, quitting, asking, phases, wait}
use Rattle.pfs_script.specs.declared.blocks.Block.{Block}
use Rattle.pfs_script.specs.declared.blocks.BlockLine.TheVariants as said
use Rattle.pfs_script.specs.Marks.{written_from, written_out}
use Rattle.pfs_session.specs.Ends.{no_numbers}
use Rattle.pfs_session.specs.SessionStates.{fresh}
use Rattle.pfs_session.specs.Turns.{SettlesHeld}
use Rattle.pfs_law_script.specs.BlocksAhead.{done_before, ahead_of}
use Rattle.pfs_law_script.specs.Course.{asks_of, numbered, own_blocks, own_changes}
use Rattle.pfs_law_script.specs.ReportSpells.{AreTold, ArePhasesTold}

-- the blocks in their phases, those of the first session, and its administration lines
blocks_are : numbered 1 phases
    ≡ record { phase = 1; block = waiting } ∷ record { phase = 1; block = connecting }
    ∷ record { phase = 2; block = quitting } ∷ record { phase = 2; block = asking } ∷ []
blocks_are = refl

own_are : own_blocks 1 (numbered 1 phases) ≡ waiting ∷ quitting ∷ []
own_are = refl

changes_are : own_changes 1 (numbered 1 phases) ≡ changes.Connect 0 1 ∷ changes.Quit ∷ []
unfolding written_from
changes_are = refl

-- what stands before the last block, and behind the first
done_are : done_before (record { blocks = waiting ∷ connecting ∷ [] } ∷ []) []
    ≡ record { phase = 1; block = waiting } ∷ record { phase = 1; block = connecting } ∷ []
done_are = refl

ahead_are : ahead_of [] (connecting ∷ []) (record { blocks = quitting ∷ [] } ∷ [])
    ≡ record { phase = 1; block = connecting } ∷ record { phase = 2; block = quitting } ∷ []
ahead_are = refl

-- the first block asks to connect and to wait, the last one to quit
waiting_asks : asks_of waiting.connect (written_out waiting.lines)
    ≡ (λ (admin : Administration). Connecting admin 0 1) ∷ (λ admin. Spending 7) ∷ (λ admin. Starting wait) ∷ (λ admin. Spending 5) ∷ (λ admin. Ending no_numbers) ∷ (λ admin. Closing) ∷ []
unfolding written_from
waiting_asks = refl

quitting_asks : asks_of quitting.connect (written_out quitting.lines) ≡ (λ (admin : Administration). Quitting admin) ∷ (λ admin. Closing) ∷ []
unfolding written_from
quitting_asks = refl

-- what is told of three spells, two of the first session and one of the other, whose blocks have no SELECT: one wrote an
-- entry, the others nothing
abbrev doing : List Entry → Doing
doing entries = record {
  part = record { deed = Closing; turns = record { step = SettlesHeld; calls = []; entries = entries; after = fresh 1 1 1 } ∷ [] };
  label = record { session = 1; line = 1 };
  labels = [];
  met = None;
}

abbrev quiet : Doing
quiet = doing []

abbrev at_wait : Spell
at_wait = record { phase = 1; session = 1; doings = quiet ∷ quiet ∷ quiet ∷ quiet ∷ quiet ∷ doing (says.Settle ∷ []) ∷ [] }

abbrev at_connect : Spell
at_connect = record { phase = 1; session = 2; doings = quiet ∷ quiet ∷ [] }

abbrev at_quit : Spell
at_quit = record { phase = 2; session = 1; doings = quiet ∷ quiet ∷ [] }

abbrev reports : List PhaseParts
reports =
    record {
      number = 1;
      blocks = record { session = 1; entries = says.Settle ∷ []; answers = [] } ∷ record { session = 2; entries = []; answers = [] } ∷ [];
      tables = [];
      lost = [];
    }
    ∷ record { number = 2; blocks = record { session = 1; entries = []; answers = [] } ∷ []; tables = []; lost = [] } ∷ []

told : (setting : Setting) → ArePhasesTold setting 1 (record { blocks = waiting ∷ connecting ∷ [] } ∷ record { blocks = quitting ∷ [] } ∷ []) reports (at_wait ∷ at_connect ∷ at_quit ∷ [])
unfolding joined written_from
told setting = (
  at_wait ∷ at_connect ∷ [],
  at_quit ∷ [],
  record {
    split = refl;
    numbered = refl;
    blocks = (record { phase = refl; session = refl; reported = refl; entries = refl; answers = refl }, (record { phase = refl; session = refl; reported = refl; entries = refl; answers = refl }, tt));
  },
  (at_quit ∷ [], [], record { split = refl; numbered = refl; blocks = (record { phase = refl; session = refl; reported = refl; entries = refl; answers = refl }, tt) }, refl),
)

-- a report of the other session tells nothing of a block, nor one that answers what no line asks, and one of too many
-- blocks nothing of a phase
not_told : (setting : Setting) → AreTold setting 1 (waiting ∷ []) (at_wait ∷ []) (record { session = 2; entries = []; answers = [] } ∷ []) → ⊥
not_told setting are = let other : 2 ≡ 1 = are.0.reported in absurd (cc)

not_asked : (setting : Setting) (answer : Answer) → AreTold setting 1 (connecting ∷ []) (at_connect ∷ []) (record { session = 2; entries = []; answers = answer ∷ [] } ∷ []) → ⊥
unfolding written_from
not_asked setting answer are = let nothing : answer ∷ [] ≡ [] = are.0.answers in absurd (cc)

not_more : (setting : Setting) → AreTold setting 1 (waiting ∷ []) (at_wait ∷ []) (record { session = 1; entries = []; answers = [] } ∷ record { session = 2; entries = []; answers = [] } ∷ []) → ⊥
not_more setting are = are.1

-- a SELECT on the administration's tables is told by its answer, and not without one
abbrev selecting : List ℕ → Block
selecting text = record { session = 1; connect = None; lines = said.Sql text ∷ [] }

answered : (setting : Setting) (text : List ℕ) (select : Select) (answer : Answer) (shows : Doing) → request_of text ≡ requests.Show select → IsShow select answer shows.part.deed
    → AreAnswers (Answers setting) (selections_in (selecting text)) (parts_in (shows ∷ quiet ∷ [])) (answer ∷ [])
unfolding written_from
answered setting text select answer shows asks is =
    subst (λ z. AreAnswers (Answers setting) (selection_in z ∷ None ∷ []) (parts_in (shows ∷ quiet ∷ [])) (answer ∷ [])) (sym asks) (is, refl)

not_answered : (setting : Setting) (text : List ℕ) (select : Select) (shows : Doing) → request_of text ≡ requests.Show select
    → AreAnswers (Answers setting) (selections_in (selecting text)) (parts_in (shows ∷ quiet ∷ [])) [] → ⊥
unfolding written_from
not_answered setting text select shows asks are = subst (λ z. AreAnswers (Answers setting) (selection_in z ∷ None ∷ []) (parts_in (shows ∷ quiet ∷ [])) []) asks are
