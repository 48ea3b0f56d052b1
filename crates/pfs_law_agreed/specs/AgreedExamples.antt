-- Two sessions that connect in either order, worked: in one run the first has the slot 0, in the other the slot 1.
use Rattle.std.specs.Prelude.{ℕ, ◌≡◌, ◌+◌, ◌*◌, ◌==◌, cond, false, List, [], ◌∷◌, Some, None}
use Rattle.pfs_admin.specs.declared.changes.Change.{Change}
use Rattle.pfs_admin.specs.declared.changes.Change.TheVariants as changes
use Rattle.pfs_board.specs.declared.view.Label.{Label}
use Rattle.pfs_classes.specs.declared.classes.ClassRef.{ClassRef}
use Rattle.pfs_classes.specs.declared.setting.Setting.{Setting}
use Rattle.pfs_event.specs.declared.entry.Entry.{Entry}
use Rattle.pfs_event.specs.declared.entry.Entry.TheVariants as says
use Rattle.pfs_law_conservation.specs.RunTerms.{Run}
use Rattle.pfs_model.specs.Contents.{Facts}
use Rattle.pfs_model.specs.EntryPlaces.{Block}
use Rattle.pfs_model.specs.declared.lines.Line.TheVariants as lines
use Rattle.pfs_script.specs.declared.blocks.Block.{Block as Said}
use Rattle.pfs_script.specs.declared.blocks.BlockLine.{BlockLine}
use Rattle.pfs_script.specs.declared.blocks.BlockLine.TheVariants as said
use Rattle.pfs_script.specs.declared.blocks.Phase.{Phase}
use Rattle.pfs_law_agreed.specs.Agreement.{AgreeBehind}
use Rattle.pfs_law_agreed.specs.FirstPhases.{HasRoom, IsConnecting, connects_of}
use Rattle.pfs_law_agreed.specs.QuietPhases.{IsQuietAt}

-- ---- phases of a script

abbrev pub said_by : ℕ → List BlockLine → Said
said_by number text = record { session = number; connect = None; lines = text }

abbrev pub connecting_by : ℕ → List BlockLine → Said
connecting_by number text = record { session = number; connect = Some (record { user = 24; host = 30 }); lines = text }

abbrev pub both_connect : Phase
both_connect = record { blocks = connecting_by 1 [] ∷ connecting_by 2 [] ∷ [] }

abbrev pub both_wait : ClassRef → Phase
both_wait class = record {
  blocks = said_by 1 (said.Wait class ∷ said.End ∷ []) ∷ said_by 2 (said.Wait class ∷ said.End ∷ []) ∷ [];
}

abbrev pub one_quits : Phase
one_quits = record { blocks = said_by 1 (said.Quit ∷ []) ∷ [] }

pub record WorkedPhases (class : ClassRef) : Type 0 where
  pub connecting : IsConnecting both_connect
  pub two : connects_of both_connect.blocks ≡ 2
  pub quiet : IsQuietAt 2 1 (both_connect ∷ both_wait class ∷ [])
  -- a phase in which a session connects or quits is not quiet, and one in which it waits has more than connects
  pub connects : IsQuietAt 1 1 (both_connect ∷ []) → ⊥
  pub quits : IsQuietAt 2 1 (both_connect ∷ one_quits ∷ []) → ⊥
  pub waits : IsConnecting (both_wait class) → ⊥

-- ---- two runs

-- a connect with this number, that gets the slot below it, and sets its thread's word
abbrev pub connect_part : ℕ → ℕ → List Entry
connect_part action slot =
    says.Connect action (Some slot) (Some slot) (Some slot) (Some slot) ∷ says.Set (1 + slot) 1 3 ∷ []

abbrev pub connected_block : ℕ → ℕ → ℕ → Block
connected_block number action slot = record {
  phase = 1;
  session = number;
  lines = lines.Connect ∷ lines.Close ∷ [];
  parts = connect_part action slot ∷ [] ∷ [];
}

abbrev pub label_of : ℕ → Label
label_of number = record { session = number; line = 1 }

abbrev pub change_by : Label → Change
change_by label = changes.Connect (20 + label.session) 30

abbrev pub no_facts : ℕ → ℕ → Facts
no_facts number index = record {
  start = 0;
  duration = 0;
  lock = 0;
  errors = 0;
  warnings = 0;
  affected = 0;
  sent = 0;
  examined = 0;
}

abbrev pub run_by : Setting → List Label → List Block → (ℕ → ℕ → ℕ) → Run
run_by used ordered told set = record {
  setting = used;
  change = change_by;
  labels = ordered;
  facts = no_facts;
  counted = λ action row. false;
  content = λ row version. [];
  blocks = told;
  flags = set;
}

-- a word has the flags 3 once it was set, or the word of the slot 1 those of 1
abbrev pub three : ℕ → ℕ → ℕ
three word version = 3 * version

abbrev pub one_other : ℕ → ℕ → ℕ
one_other word version = cond (word == 2) version (3 * version)

abbrev pub in_order : Setting → Run
in_order setting = run_by setting (label_of 1 ∷ label_of 2 ∷ []) (connected_block 1 1 0 ∷ connected_block 2 2 1 ∷ [])
    three

abbrev pub turned : Setting → (ℕ → ℕ → ℕ) → Run
turned setting flags =
    run_by setting (label_of 2 ∷ label_of 1 ∷ []) (connected_block 1 2 1 ∷ connected_block 2 1 0 ∷ []) flags

pub record WorkedRuns (setting : Setting) : Type 0 where
  pub agree : AgreeBehind (in_order setting) (turned setting three) 1
  -- where the first session's thread has other flags they don't
  pub differ : AgreeBehind (in_order setting) (turned setting one_other) 1 → ⊥

abbrev pub WorkedAgreement : Type 0
WorkedAgreement = (setting : Setting) → HasRoom setting 2 → WorkedRuns setting

abbrev pub WorkedScripts : Type 0
WorkedScripts = (class : ClassRef) → WorkedPhases class
