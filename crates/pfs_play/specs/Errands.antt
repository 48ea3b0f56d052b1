-- What lines of a script ask their session to do, and what it does.
use Rattle.std.specs.Prelude.{ℕ, ◌≡◌, ◌<◌, ◌+◌, Bool, true, false, List, [], ◌∷◌, ◌++◌, length, map, Option, Some, None, IfSome}
use Rattle.pfs_actor.specs.ActorDeeds.{HasDone}
use Rattle.pfs_admin.specs.AdministrationStates.{State as Administration}
use Rattle.pfs_admin.specs.declared.changes.Change.{Change}
use Rattle.pfs_admin.specs.declared.changes.SetupStatement.TheVariants as statements
use Rattle.pfs_board.specs.declared.view.Label.{Label}
use Rattle.pfs_classes.specs.declared.setting.Setting.{Setting}
use Rattle.pfs_event.specs.Nests.{OpenEvents, MayStart}
use Rattle.pfs_event.specs.declared.kind.EventKind.{EventKind}
use Rattle.pfs_event.specs.declared.kind.EventKind.TheVariants.{Wait, Stage, Statement, Transaction}
use Rattle.pfs_levels.specs.Calls.{Call, Opening}
use Rattle.pfs_model.specs.declared.lines.Subject.{Subject}
use Rattle.pfs_law_session.specs.Deeds.{Deed, Starting, Staging, StageEnding, Ending, Spending, Quitting, Truncating, Changing, Showing, Querying, Refusing, IsReplied, Part}
use Rattle.pfs_law_session.specs.JournalLaws.{MayDoAll, over_behind}
use Rattle.pfs_script.specs.declared.blocks.BlockLine.{BlockLine}
use Rattle.pfs_script.specs.declared.blocks.BlockLine.TheVariants as said
use Rattle.pfs_script.specs.Brackets.{kinds_behind, may_stand}
use Rattle.pfs_script.specs.Marks.{mark_of}
use Rattle.pfs_script.specs.KnownClasses.{IsKnown}
use Rattle.pfs_session.specs.SessionStates.{Book, without_stage}
use Rattle.pfs_session.specs.Turns.{StageMayStart}
use Rattle.pfs_session.specs.Ends.{no_numbers}
use Rattle.pfs_runs.specs.ScriptLines.{changes_on, wait_on, statement_on, transaction_on, stage_on}
use Rattle.pfs_runs.specs.SelectAnswers.{Answer, Selection, Stored, Held, AreAnswers, selection_on}
use Rattle.pfs_law_plain.specs.ToldAnswers.{Answers}
use Rattle.pfs_law_plain.specs.LineDeeds.{bare, deed_on}
use Rattle.pfs_law_plain.specs.LineSteps.{numbers_in}
use Rattle.pfs_exec.specs.Requests.{request_of}
use Rattle.pfs_exec.specs.declared.requests.Request.{Request}
use Rattle.pfs_exec.specs.declared.requests.Request.TheVariants as requests
use Rattle.pfs_setups.specs.HeldRows.{IsHeld}
use Rattle.pfs_play.specs.Errand.{Errand}
use Rattle.pfs_play.specs.Errand as ask

-- a text that is refused is no action, and neither is a SELECT whose rows are read of the store
abbrev pub sql_errand : Request → Errand
sql_errand (requests.Refused error) = ask.Refuse error
sql_errand (requests.Truncate what) = ask.Truncate what
sql_errand (requests.Update update) = ask.Change (statements.Update update)
sql_errand (requests.Insert insert) = ask.Change (statements.Insert insert)
sql_errand (requests.Delete delete) = ask.Change (statements.Delete delete)
sql_errand (requests.Query select) = ask.Query select
sql_errand (requests.Show select) = ask.Show select

-- what a line asks its session to do. No line that begins or ends a repeat stands among lines that are written out:
-- these let no time pass
abbrev pub errand_on : BlockLine → Errand
errand_on (said.Wait class) = ask.Start (wait_on class None)
errand_on (said.TableWait class table) = ask.Start (wait_on class (Some table))
errand_on (said.Statement class digest) = ask.Start (statement_on class digest)
errand_on (said.Transaction access) = ask.Start (transaction_on access)
errand_on (said.Stage class) = ask.Stage (Some (stage_on class))
errand_on said.StageEnd = ask.Stage None
errand_on (said.Spend time) = ask.Spend time
errand_on said.End = ask.End no_numbers
errand_on (said.EndStatement numbers) = ask.End (numbers_in numbers)
errand_on said.Quit = ask.Quit
errand_on (said.Sql text) = sql_errand (request_of text)
errand_on (said.Repeat times) = ask.Spend 0
errand_on said.Done = ask.Spend 0

-- how many entries it writes at most, where it isn't the session's end: for an action 194 to settle what is held; for
-- what a truncation changes, its action and its answer 20,000 more, and for those of a statement 66; for a query one for
-- each of 14,242 rows and 160 words, and three more
abbrev pub cost_of : Errand → ℕ
cost_of (ask.Start subject) = 2
cost_of (ask.Stage subject) = 8
cost_of (ask.End numbers) = 14
cost_of (ask.Spend time) = 0
cost_of ask.Quit = 0
cost_of (ask.Truncate what) = 20196
cost_of (ask.Change what) = 260
cost_of (ask.Query select) = 14405
cost_of (ask.Show select) = 260
cost_of (ask.Refuse error) = 1

abbrev pub cost_on : List BlockLine → ℕ
cost_on [] = 0
cost_on (line ∷ lines) = cost_of (errand_on line) + cost_on lines

-- how many actions it is, where it isn't the session's end
abbrev pub actions_of : Errand → ℕ
actions_of (ask.Start subject) = 0
actions_of (ask.Stage subject) = 0
actions_of (ask.End numbers) = 0
actions_of (ask.Spend time) = 0
actions_of ask.Quit = 0
actions_of (ask.Truncate what) = 1
actions_of (ask.Change what) = 1
actions_of (ask.Query select) = 0
actions_of (ask.Show select) = 1
actions_of (ask.Refuse error) = 0

abbrev pub actions_on : List BlockLine → ℕ
actions_on [] = 0
actions_on (line ∷ lines) = actions_of (errand_on line) + actions_on lines

-- the deed that an errand is to its session, before this administration; what a SELECT reads and shows stands in none
abbrev pub deed_of : Administration → Errand → Deed
deed_of admin (ask.Start subject) = Starting subject
deed_of admin (ask.Stage (Some subject)) = Staging subject
deed_of admin (ask.Stage None) = StageEnding
deed_of admin (ask.End numbers) = Ending numbers
deed_of admin (ask.Spend time) = Spending time
deed_of admin ask.Quit = Quitting admin
deed_of admin (ask.Truncate what) = Truncating admin what
deed_of admin (ask.Change what) = Changing admin what
deed_of admin (ask.Query select) = Querying [] 0
deed_of admin (ask.Show select) = Showing admin 0
deed_of admin (ask.Refuse error) = Refusing error

-- the SELECT that it is
abbrev pub selection_of : Errand → Option Selection
selection_of (ask.Query select) = Some (Stored select)
selection_of (ask.Show select) = Some (Held select)
selection_of (ask.Start subject) = None
selection_of (ask.Stage subject) = None
selection_of (ask.End numbers) = None
selection_of (ask.Spend time) = None
selection_of ask.Quit = None
selection_of (ask.Truncate what) = None
selection_of (ask.Change what) = None
selection_of (ask.Refuse error) = None

-- what a start asks of its session
pub record MayBegin (nest : OpenEvents) (subject : Subject) : Type 0 where
  pub order : MayStart nest subject.kind
  pub shallow : length nest.events < nest.depth
  pub class : IfSome subject.class (λ n. n < 63)
  pub table : IfSome subject.table (λ n. n < 64)
  pub digest : IfSome subject.digest (λ n. n < 64)

-- what an errand asks of a session as it stands; an end is an action, and asked of an administration
abbrev pub MayRun : Errand → OpenEvents → Type 0
MayRun (ask.Start subject) nest = MayBegin nest subject
MayRun (ask.Stage subject) nest = StageMayStart (record nest { events = without_stage nest.events }) subject
MayRun (ask.End numbers) nest = 0 < length (without_stage nest.events)
MayRun (ask.Spend time) nest = Unit {0}
MayRun ask.Quit nest = ⊥
MayRun (ask.Truncate what) nest = Unit {0}
MayRun (ask.Change what) nest = IsReplied what
MayRun (ask.Query select) nest = Unit {0}
MayRun (ask.Show select) nest = IsHeld select.table
MayRun (ask.Refuse error) nest = Unit {0}

-- a statement lies around each stage
abbrev pub StagesLie : List EventKind → Type 0
StagesLie [] = Unit {0}
StagesLie (Stage ∷ []) = ⊥
StagesLie (Stage ∷ (Statement ∷ kinds)) = StagesLie (Statement ∷ kinds)
StagesLie (Stage ∷ (Wait ∷ kinds)) = ⊥
StagesLie (Stage ∷ (Stage ∷ kinds)) = ⊥
StagesLie (Stage ∷ (Transaction ∷ kinds)) = ⊥
StagesLie (Wait ∷ kinds) = StagesLie kinds
StagesLie (Statement ∷ kinds) = StagesLie kinds
StagesLie (Transaction ∷ kinds) = StagesLie kinds

abbrev pub is_quit : BlockLine → Bool
is_quit said.Quit = true
is_quit _ = false

abbrev pub is_sql : BlockLine → Bool
is_sql (said.Sql text) = true
is_sql _ = false

-- the table that a line names
abbrev pub IsKnownTable : BlockLine → Type 0
IsKnownTable (said.TableWait class table) = table < 64
IsKnownTable _ = Unit {0}

-- the place of the digest text that a line names
abbrev pub IsKnownDigest : BlockLine → Type 0
IsKnownDigest (said.Statement class digest) = IfSome digest (λ n. n < 64)
IsKnownDigest _ = Unit {0}

-- a line may be played where events of these kinds are open and so many may be: it doesn't end the session, its class,
-- its table and the place of its digest text are known, and it may stand there
pub record MayPlay (classes depth : ℕ) (kinds : List EventKind) (line : BlockLine) : Type 0 where
  pub quits : is_quit line ≡ false
  pub known : IsKnown classes line
  pub table : IsKnownTable line
  pub digest : IsKnownDigest line
  pub stands : may_stand kinds (mark_of line) ≡ true
  pub shallow : length kinds < depth

-- lines one after another
abbrev pub CanPlay : ℕ → ℕ → List EventKind → List BlockLine → Type 0
CanPlay classes depth kinds [] = Unit {0}
CanPlay classes depth kinds (line ∷ lines) =
    MayPlay classes depth kinds line × CanPlay classes depth (kinds_behind (mark_of line) kinds) lines

abbrev pub kinds_after : List EventKind → List BlockLine → List EventKind
kinds_after kinds [] = kinds
kinds_after kinds (line ∷ lines) = kinds_after (kinds_behind (mark_of line) kinds) lines

-- the labels of a session's next actions, of which it has made so many, name these changes
abbrev pub LabelsName : (Label → Change) → ℕ → ℕ → List Change → Type 0
LabelsName change session made [] = Unit {0}
LabelsName change session made (one ∷ others) = (change (record { session = session; line = made + 1 }) ≡ one)
    × LabelsName change session (made + 1) others

-- and those that these lines ask for, of which none but the last ends the session
abbrev pub NamesLines : (Label → Change) → ℕ → ℕ → List BlockLine → Type 0
NamesLines change session made [] = Unit {0}
NamesLines change session made (line ∷ lines) = LabelsName change session made (changes_on line)
    × NamesLines change session (made + actions_of (errand_on line)) lines

-- what is asked of a session is a deed that waits for its administration: one is done where it is that deed before some
-- administration, but for what a SELECT read and how many rows it showed, which nobody asks for
pub record IsFor (ask : Administration → Deed) (deed : Deed) : Type 0 where
  pub admin : Administration
  pub is : bare deed ≡ ask admin

-- parts do what is asked, one after another
abbrev pub AreFor : List (Administration → Deed) → List Part → Type 0
AreFor [] [] = Unit {0}
AreFor (ask ∷ asks) (p ∷ ps) = IsFor ask p.deed × AreFor asks ps
AreFor _ _ = ⊥

-- what lines ask for
abbrev pub asks_on : List BlockLine → List (Administration → Deed)
asks_on lines = map (λ (line : BlockLine) (admin : Administration). deed_on admin line) lines

-- a session did an errand in one part, in a run that fixes this and changes that; where it is a SELECT its answer, in
-- this setting, stands behind those before
pub record HasRun (setting fixed : Setting) (change : Label → Change) (errand : Errand) (old new : Book)
    (before after : List Answer) (was now : Opening → List Call → Type 0) : Type 0 where
  pub part : Part
  pub asked : IsFor (λ admin. deed_of admin errand) part.deed
  pub given : List Answer
  pub given_are : after ≡ before ++ given
  pub answered : AreAnswers (Answers setting) (selection_of errand ∷ []) (part ∷ []) given
  pub done : HasDone fixed change (part ∷ []) old new was now

-- a session did these lines, one after another, and nothing else; the answers of its SELECTs stand behind those before
pub record HavePlayed (setting fixed : Setting) (change : Label → Change) (lines : List BlockLine) (old new : Book)
    (before after : List Answer) (was now : Opening → List Call → Type 0) : Type 0 where
  pub parts : List Part
  pub asked : AreFor (asks_on lines) parts
  pub may : MayDoAll false old.state parts
  pub goes_on : over_behind false parts ≡ false
  pub given : List Answer
  pub given_are : after ≡ before ++ given
  pub answered : AreAnswers (Answers setting) (map selection_on lines) parts given
  pub done : HasDone fixed change parts old new was now
