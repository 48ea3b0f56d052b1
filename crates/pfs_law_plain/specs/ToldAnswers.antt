-- What a session's SELECTs answer, by what it was told at them.
use Rattle.std.specs.Prelude.{ℕ, ◌≡◌, List, length}
use Rattle.pfs_classes.specs.declared.setting.Setting.{Setting}
use Rattle.pfs_law_session.specs.Deeds.{Deed, Connecting, Starting, Staging, StageEnding, Ending, Spending, Quitting, Truncating, Changing, Showing, Querying, Refusing, Closing, Part}
use Rattle.pfs_readsets.specs.TablePlaces.{scope_of}
use Rattle.pfs_readsets.specs.ReadSets.{IsReadSet}
use Rattle.pfs_rows.specs.declared.table.Reading.{Reading}
use Rattle.pfs_exec.specs.declared.query.Select.{Select}
use Rattle.pfs_runs.specs.SelectAnswers.{Answer, Selection, Stored, Held, AnswersRead, AnswersHeld}

-- what was read is the table's read set, and the answer is that of its rows, of which there are so many
pub record AnswersQuery (setting : Setting) (select : Select) (readings : List Reading) (count : ℕ) (answer : Answer) :
    Type 0 where
  pub whole : IsReadSet (scope_of setting) select.table readings
  pub answered : AnswersRead setting select readings answer
  pub counted : count ≡ length answer

abbrev pub IsQuery : Setting → Select → Answer → Deed → Type 0
IsQuery setting select answer (Querying readings count) = AnswersQuery setting select readings count answer
IsQuery setting select answer (Showing admin count) = ⊥
IsQuery setting select answer (Connecting admin user host) = ⊥
IsQuery setting select answer (Starting subject) = ⊥
IsQuery setting select answer (Staging subject) = ⊥
IsQuery setting select answer StageEnding = ⊥
IsQuery setting select answer (Ending numbers) = ⊥
IsQuery setting select answer (Spending time) = ⊥
IsQuery setting select answer (Quitting admin) = ⊥
IsQuery setting select answer (Truncating admin what) = ⊥
IsQuery setting select answer (Changing admin what) = ⊥
IsQuery setting select answer (Refusing error) = ⊥
IsQuery setting select answer Closing = ⊥

-- the answer is that of the rows which the administration holds
abbrev pub IsShow : Select → Answer → Deed → Type 0
IsShow select answer (Showing admin count) =
    AnswersHeld select admin.actors admin.objects answer × (count ≡ length answer)
IsShow select answer (Querying readings count) = ⊥
IsShow select answer (Connecting admin user host) = ⊥
IsShow select answer (Starting subject) = ⊥
IsShow select answer (Staging subject) = ⊥
IsShow select answer StageEnding = ⊥
IsShow select answer (Ending numbers) = ⊥
IsShow select answer (Spending time) = ⊥
IsShow select answer (Quitting admin) = ⊥
IsShow select answer (Truncating admin what) = ⊥
IsShow select answer (Changing admin what) = ⊥
IsShow select answer (Refusing error) = ⊥
IsShow select answer Closing = ⊥

abbrev pub Answers : Setting → Selection → Part → Answer → Type 0
Answers setting (Stored select) p answer = IsQuery setting select answer p.deed
Answers setting (Held select) p answer = IsShow select answer p.deed
