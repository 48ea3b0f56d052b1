-- A script of two sessions, worked: in the first phase the first one connects and has a wait, and the second connects;
-- in the second phase the first one quits, and the second one truncates a table, reads one of the store and one of the
-- administration, turns a consumer off, and is refused.
use Rattle.std.specs.Prelude.{◌≡◌, false, List, [], ◌∷◌, Some, None, codes}
use Rattle.pfs_admin.specs.declared.changes.Change.TheVariants as changes
use Rattle.pfs_admin.specs.declared.changes.SetupStatement.TheVariants as statements
use Rattle.pfs_classes.specs.declared.classes.ClassRef.TheVariants as refs
use Rattle.pfs_event.specs.declared.kind.EventKind.TheVariants as kinds
use Rattle.pfs_model.specs.declared.lines.Line.TheVariants as told
use Rattle.pfs_model.specs.declared.lines.Subject.{Subject}
use Rattle.pfs_rows.specs.declared.table.Table.TheVariants.{SetupConsumers}
use Rattle.pfs_script.specs.declared.blocks.Access.TheVariants.{ReadOnly}
use Rattle.pfs_script.specs.declared.blocks.Block.{Block}
use Rattle.pfs_script.specs.declared.blocks.BlockLine.TheVariants as said
use Rattle.pfs_script.specs.declared.blocks.Phase.{Phase}
use Rattle.pfs_rows.specs.declared.truncations.Truncation.TheVariants.{Accounts}
use Rattle.pfs_runs.specs.ScriptLines.{lines_in, change_in, facts_in, no_facts, transaction_on}

-- user 0 of host 1 waits 5 picoseconds, 7 after its connect
abbrev pub waiting : Block
waiting = record {
  session = 1;
  connect = Some (record { user = 0; host = 1 });
  lines = said.Spend 7 ∷ said.Wait (refs.Class 6) ∷ said.Spend 5 ∷ said.End ∷ [];
}

abbrev pub connecting : Block
connecting = record { session = 2; connect = Some (record { user = 0; host = 2 }); lines = [] }

abbrev pub quitting : Block
quitting = record { session = 1; connect = None; lines = said.Quit ∷ [] }

-- no row of `threads` can be deleted
abbrev pub asking : Block
asking = record {
  session = 2;
  connect = None;
  lines = said.Sql (codes "truncate accounts") ∷ said.Sql (codes "SELECT * FROM users")
      ∷ said.Sql (codes "SELECT * FROM setup_actors") ∷ said.Sql (codes "UPDATE setup_consumers SET enabled = 'NO'")
      ∷ said.Sql (codes "DELETE FROM threads") ∷ [];
}

abbrev pub phases : List Phase
phases = record { blocks = waiting ∷ connecting ∷ [] } ∷ record { blocks = quitting ∷ asking ∷ [] } ∷ []

-- a wait of class 6
abbrev pub wait : Subject
wait = record { kind = kinds.Wait; class = Some 6; cell = 6; table = None; digest = None }

-- what the script says: which lines the journals go by, what each label asks for, and the facts of the wait; a label
-- that no line has asks for nothing, as the text that is refused, and an event that isn't there has no facts. The SELECT
-- that reads the store has no label, the one that is answered by the administration has one. A READ ONLY transaction
-- counts in the last cell
pub record WorkedScript : Type 0 where
  pub waits : lines_in waiting ≡ told.Connect ∷ told.Spend ∷ told.Start wait ∷ told.Spend ∷ told.End ∷ told.Close ∷ []
  pub quits : lines_in quitting ≡ told.Quit ∷ told.Close ∷ []
  pub asks : lines_in asking
      ≡ told.Change ∷ told.Query ∷ told.Show ∷ told.Change ∷ told.Refused 1142 ∷ told.Close ∷ []
  pub first : change_in phases (record { session = 1; line = 1 }) ≡ changes.Connect 0 1
  pub second : change_in phases (record { session = 1; line = 2 }) ≡ changes.Quit
  pub other : change_in phases (record { session = 2; line = 1 }) ≡ changes.Connect 0 2
  pub truncates : change_in phases (record { session = 2; line = 2 }) ≡ changes.Truncate Accounts
  pub shows : change_in phases (record { session = 2; line = 3 }) ≡ changes.Setup statements.Show
  pub updates : change_in phases (record { session = 2; line = 4 }) ≡ changes.Setup (statements.Update (record {
    table = SetupConsumers;
    change = record { first = Some false; second = None };
    tests = [];
  }))
  pub nobody : change_in phases (record { session = 2; line = 5 }) ≡ changes.Setup statements.Show
  pub lasts : facts_in phases 1 0 ≡ record no_facts { start = 7; duration = 5 }
  pub nothing : facts_in phases 1 1 ≡ no_facts
  pub read_only : (transaction_on ReadOnly).cell ≡ 63
