-- What was played is a part of its errand, and the lines of a script may be played where they may stand.
use Rattle.std.proofs.Common.{ℕ, suc, ◌≡◌, ◌≤◌, ◌<◌, true, List, [], ◌∷◌, ◌++◌, length, drop, Option, Some, None, refl, ap, sym, ◌∙◌, subst, lit<, arith}
use Rattle.std.specs.Prelude.{is_some, IfSome}
use Rattle.std.proofs.lemmas.List.{append-nil}
use Rattle.pfs_actor.specs.ActorDeeds.{HasActed, HasShown}
use Rattle.pfs_admin.specs.AdministrationStates.{State as Administration}
use Rattle.pfs_admin.specs.OpeningState.{opened}
use Rattle.pfs_admin.specs.declared.changes.Change.{Change as Named}
use Rattle.pfs_board.specs.declared.view.Label.{Label}
use Rattle.pfs_law_plain.specs.ActionFolds.{FoldsTo}
use Rattle.pfs_law_plain.specs.Spells.{Doing, around, doings_calls, label_of}
use Rattle.pfs_classes.specs.declared.classes.ClassRef.{ClassRef}
use Rattle.pfs_classes.specs.declared.classes.ClassRef.TheVariants as refs
use Rattle.pfs_event.specs.declared.entry.Entry.{Entry}
use Rattle.pfs_event.specs.Nests.{OpenEvents, innermost_of, kind_of}
use Rattle.pfs_event.specs.StartOrder.{may_start}
use Rattle.pfs_event.specs.declared.kind.EventKind.{EventKind}
use Rattle.pfs_event.specs.declared.kind.EventKind.TheVariants.{Wait, Stage, Statement, Transaction}
use Rattle.pfs_event.specs.declared.open.Open.{Open}
use Rattle.pfs_levels.specs.Calls.{Call, Opening}
use Rattle.pfs_model.specs.JournalCuts.{joined}
use Rattle.pfs_model.specs.declared.lines.Subject.{Subject}
use Rattle.pfs_classes.specs.declared.setting.Setting.{Setting}
use Rattle.pfs_law_session.specs.Deeds.{Deed, Connecting, Quitting, Truncating, Changing, Closing, Ending, Part, Querying, Refusing, Showing, Spending, Staging, StageEnding, Starting, action_of, looks, part_calls, part_entries, remark, steps_for}
use Rattle.pfs_readsets.specs.TablePlaces.{scope_of}
use Rattle.pfs_readsets.specs.ReadSets.{IsReadSet}
use Rattle.pfs_rows.specs.declared.table.Reading.{Reading}
use Rattle.pfs_runs.specs.SelectAnswers.{Answer, Selection, AnswersRead, AreAnswers}
use Rattle.pfs_law_plain.specs.ToldAnswers.{Answers, IsQuery, IsShow}
use Rattle.pfs_law_plain.specs.LineDeeds.{bare}
use Rattle.pfs_runs.specs.ScriptLines.{class_in}
use Rattle.pfs_script.specs.declared.blocks.BlockLine.{BlockLine}
use Rattle.pfs_script.specs.declared.blocks.BlockLine.TheVariants as said
use Rattle.pfs_script.specs.Brackets.{innermost, ended_by}
use Rattle.pfs_script.specs.Marks.{Opens}
use Rattle.pfs_script.specs.KnownClasses.{IsKnownClass}
use Rattle.pfs_session.specs.Inquiries.{Remarks, remark_entry}
use Rattle.pfs_session.specs.declared.remarks.Remark.TheVariants.{Query, Refused, Rows}
use Rattle.pfs_session.specs.CallEnds.{HasStaged}
use Rattle.pfs_session.specs.SessionStates.{Book, without_stage}
use Rattle.pfs_session.specs.Turns.{Step, EndsEvent, Spends, StartsEvent, Inquires, Does, Played, stage_ends, stage_steps}
use Rattle.pfs_session.specs.declared.events.Numbers.{Numbers}
use Rattle.pfs_session.proofs.StepLists.{played_one, played_then}
use Rattle.pfs_law_plain.specs.LineSteps.{kinds_in}
use Rattle.pfs_play.specs.Errand.{Errand}
use Rattle.pfs_play.specs.Errand as ask
use Rattle.pfs_exec.specs.declared.changes.Change.{Change}
use Rattle.pfs_exec.specs.declared.changes.Change.TheVariants as changes
use Rattle.pfs_exec.specs.Plans.{fault_of, plan_of, table_text}
use Rattle.pfs_exec.specs.declared.query.Plan.{Plan}
use Rattle.pfs_exec.specs.declared.query.Plan.TheVariants as plans
use Rattle.pfs_exec.specs.declared.query.Select.{Select}
use Rattle.pfs_exec.specs.Requests.{asks_change, asks_for, asks_on, asks_plan, asks_rows, command_in, request_of, table_in, truncating, unless}
use Rattle.pfs_exec.specs.declared.requests.Request.{Request}
use Rattle.pfs_exec.specs.declared.requests.Request.TheVariants as requests
use Rattle.pfs_rows.specs.declared.table.Table.{Table}
use Rattle.pfs_rows.specs.declared.table.Table.TheVariants as tables
use Rattle.pfs_setups.specs.HeldRows.{IsHeld}
use Rattle.pfs_sql.specs.declared.command.Command.{Command}
use Rattle.pfs_sql.specs.declared.faults.SqlError.{SqlError}
use Rattle.pfs_rows.specs.declared.truncations.Truncation.{Truncation}
use Rattle.pfs_rows.specs.TruncationTables.{truncation_on}
use Rattle.pfs_play.specs.Errands.{HasRun, deed_of, errand_on, selection_of, sql_errand, MayBegin, MayRun, MayPlay, StagesLie}

joined_one : (entries : List Entry) → joined (entries ∷ []) ≡ entries
unfolding joined
joined_one entries = append-nil entries

-- a line with no label of its own
abbrev doing : Part → Doing
doing p = record { part = p; label = record { session = 0; line = 0 }; labels = []; met = None }

one_doing : (p : Part) → action_of p.deed ≡ None → doings_calls (doing p ∷ []) ≡ part_calls p
one_doing p plain = ap (λ (n : Option ℕ). around (doing p).label (doing p).labels None n (part_calls p)) plain

-- a deed that is no action folds nothing
folds_none : (fixed : Setting) (change : Label → Named) (label : Label) (labels : List Label) (deed : Deed) → action_of deed ≡ None → FoldsTo fixed change label labels deed
folds_none fixed change label labels (Connecting admin user host) none = cc
folds_none fixed change label labels (Quitting admin) none = cc
folds_none fixed change label labels (Truncating admin what) none = cc
folds_none fixed change label labels (Changing admin what) none = cc
folds_none fixed change label labels (Showing admin count) none = cc
folds_none fixed change label labels (Querying readings count) none = tt
folds_none fixed change label labels (Refusing error) none = tt
folds_none fixed change label labels (Starting subject) none = tt
folds_none fixed change label labels (Staging subject) none = tt
folds_none fixed change label labels StageEnding none = tt
folds_none fixed change label labels (Ending numbers) none = tt
folds_none fixed change label labels (Spending time) none = tt
folds_none fixed change label labels Closing none = tt

-- steps that are those of a deed which is no action
pub ran : (fixed : Setting) (change : Label → Named) (deed : Deed) (steps : List Step) (old new : Book) (was now : Opening → List Call → Type 0) → action_of deed ≡ None → steps ≡ steps_for old.state deed → Played steps old new was now
    → HasActed fixed change (λ admin. deed) old new was now
ran fixed change deed steps old new was now plain same p =
    let its : Part = record { deed = deed; turns = p.turns } in
    record {
      admin = opened fixed;
      part = its;
      deed_is = refl;
      done = record {
        are_parts = (record { are_turns = p.are_turns; steps_are = p.steps_are ∙ same }, tt);
        state = p.state_is;
        entries_are = p.did.entries_are ∙ ap (λ (z : List Entry). old.journal.entries ++ z) (sym (joined_one (part_entries its)));
        leads = λ start calls h. record {
          doings = doing its ∷ [];
          parts_are = refl;
          labelled = (subst (λ (n : Option ℕ). IfSome n (λ k. (doing its).label ≡ label_of old.state)) (sym plain) tt, tt);
          folded = (folds_none fixed change (doing its).label (doing its).labels deed plain, tt);
          reached = subst (λ (z : List Call). now start (z ++ calls)) (sym (one_doing its plain)) (p.did.goes start calls h);
        };
      };
    }

pub stage_ran : (fixed : Setting) (change : Label → Named) (subject : Option Subject) (old new : Book) (was now : Opening → List Call → Type 0) → Played (stage_steps old.state.opened.events subject) old new was now
    → HasActed fixed change (λ admin. deed_of admin (ask.Stage subject)) old new was now
stage_ran fixed change (Some subject) old new was now p = ran fixed change (Staging subject) _ old new was now refl refl p
stage_ran fixed change None old new was now p = ran fixed change StageEnding _ old new was now refl refl p

pub end_ran : (fixed : Setting) (change : Label → Named) (numbers : Numbers) (old at new : Book) (was mid now : Opening → List Call → Type 0) → Played (stage_steps old.state.opened.events None) old at was mid → Played (EndsEvent numbers ∷ []) at new mid now
    → HasActed fixed change (λ admin. Ending numbers) old new was now
end_ran fixed change numbers old at new was mid now p q =
    ran fixed change (Ending numbers) _ old new was now refl (ap (λ (z : List Step). z ++ EndsEvent numbers ∷ []) (append-nil (stage_ends old.state.opened.events)))
    (played_then (stage_steps old.state.opened.events None) (EndsEvent numbers ∷ []) old at new was mid now p q)

pub spend_ran : (fixed : Setting) (change : Label → Named) (time : ℕ) (old new : Book) (was : Opening → List Call → Type 0) → Does old.state (Spends time) [] [] new.state → new.journal ≡ old.journal → HasActed fixed change (λ admin. Spending time) old new was was
spend_ran fixed change time old new was does same =
    ran fixed change (Spending time) _ old new was was refl refl
    (played_one (Spends time) [] [] new.state old new was was does refl (record { entries_are = ap (λ j. j.entries) same ∙ sym (append-nil old.journal.entries); goes = λ start calls h. h }))

pub refuse_ran : (fixed : Setting) (change : Label → Named) (error : ℕ) (old new : Book) (was : Opening → List Call → Type 0) → Does old.state (Inquires (Remarks (Refused error))) [] (remark_entry (Refused error) ∷ []) new.state
    → new.journal.entries ≡ old.journal.entries ++ remark_entry (Refused error) ∷ [] → HasActed fixed change (λ admin. Refusing error) old new was was
refuse_ran fixed change error old new was does entries =
    ran fixed change (Refusing error) _ old new was was refl refl
    (played_one (Inquires (Remarks (Refused error))) [] (remark_entry (Refused error) ∷ []) new.state old new was was does refl (record { entries_are = entries; goes = λ start calls h. h }))

-- what isn't a SELECT has no answer
pub acted_ran : (setting fixed : Setting) (change : Label → Named) (errand : Errand) (old new : Book) (answers : List Answer) (was now : Opening → List Call → Type 0) → selection_of errand ≡ None
    → ((admin : Administration) → bare (deed_of admin errand) ≡ deed_of admin errand) → HasActed fixed change (λ admin. deed_of admin errand) old new was now → HasRun setting fixed change errand old new answers answers was now
acted_ran setting fixed change errand old new answers was now none plain acted = record {
  part = acted.part;
  asked = record { admin = acted.admin; is = ap bare acted.deed_is ∙ plain acted.admin };
  given = [];
  given_are = sym (append-nil answers);
  answered = subst (λ (one : Option Selection). AreAnswers (Answers setting) (one ∷ []) (acted.part ∷ []) []) (sym none) refl;
  done = acted.done;
}

pub stage_plain : (admin : Administration) (subject : Option Subject) → bare (deed_of admin (ask.Stage subject)) ≡ deed_of admin (ask.Stage subject)
stage_plain admin None = refl
stage_plain admin (Some subject) = refl

-- a line that starts an event, changes the stage, ends an event or lets time pass is run
pub started_ran : (setting fixed : Setting) (change : Label → Named) (line : BlockLine) (subject : Subject) (old new : Book) (answers : List Answer) (was now : Opening → List Call → Type 0) → errand_on line ≡ ask.Start subject
    → Played (StartsEvent subject ∷ []) old new was now → HasRun setting fixed change (errand_on line) old new answers answers was now
started_ran setting fixed change line subject old new answers was now is played =
    subst (λ (errand : Errand). HasRun setting fixed change errand old new answers answers was now) (sym is)
    (acted_ran setting fixed change (ask.Start subject) old new answers was now refl (λ admin. refl) (ran fixed change (Starting subject) _ old new was now refl refl played))

pub staged_ran : (setting fixed : Setting) (change : Label → Named) (line : BlockLine) (subject : Option Subject) (old new : Book) (answers : List Answer) (was now : Opening → List Call → Type 0) → errand_on line ≡ ask.Stage subject
    → Played (stage_steps old.state.opened.events subject) old new was now → HasRun setting fixed change (errand_on line) old new answers answers was now
staged_ran setting fixed change line subject old new answers was now is played =
    subst (λ (errand : Errand). HasRun setting fixed change errand old new answers answers was now) (sym is)
    (acted_ran setting fixed change (ask.Stage subject) old new answers was now refl (λ admin. stage_plain admin subject) (stage_ran fixed change subject old new was now played))

pub ended_ran : (setting fixed : Setting) (change : Label → Named) (line : BlockLine) (numbers : Numbers) (old new : Book) (answers : List Answer) (was now : Opening → List Call → Type 0) → errand_on line ≡ ask.End numbers
    → HasActed fixed change (λ admin. Ending numbers) old new was now → HasRun setting fixed change (errand_on line) old new answers answers was now
ended_ran setting fixed change line numbers old new answers was now is acted =
    subst (λ (errand : Errand). HasRun setting fixed change errand old new answers answers was now) (sym is)
    (acted_ran setting fixed change (ask.End numbers) old new answers was now refl (λ admin. refl) acted)

pub spent_ran : (setting fixed : Setting) (change : Label → Named) (line : BlockLine) (time : ℕ) (old new : Book) (answers : List Answer) (was : Opening → List Call → Type 0) → errand_on line ≡ ask.Spend time
    → Does old.state (Spends time) [] [] new.state → new.journal ≡ old.journal → HasRun setting fixed change (errand_on line) old new answers answers was was
spent_ran setting fixed change line time old new answers was is does same =
    subst (λ (errand : Errand). HasRun setting fixed change errand old new answers answers was was) (sym is)
    (acted_ran setting fixed change (ask.Spend time) old new answers was was refl (λ admin. refl) (spend_ran fixed change time old new was does same))

-- a SELECT's answer stands behind the others
pub query_ran : (setting fixed : Setting) (change : Label → Named) (select : Select) (readings : List Reading) (answer : Answer) (old new : Book) (answers behind : List Answer) (was now : Opening → List Call → Type 0)
    → IsReadSet (scope_of setting) select.table readings → AnswersRead setting select readings answer → behind ≡ answers ++ answer ∷ [] → Played (remark Query ∷ (looks readings ++ remark (Rows (length answer)) ∷ [])) old new was now
    → HasRun setting fixed change (ask.Query select) old new answers behind was now
query_ran setting fixed change select readings answer old new answers behind was now whole answered are played =
    let acted : HasActed fixed change (λ admin. Querying readings (length answer)) old new was now = ran fixed change (Querying readings (length answer)) _ old new was now refl refl played in
    record {
      part = acted.part;
      asked = record { admin = acted.admin; is = ap bare acted.deed_is };
      given = answer ∷ [];
      given_are = are;
      answered = (subst (IsQuery setting select answer) (sym acted.deed_is) (record { whole = whole; answered = answered; counted = refl }), refl);
      done = acted.done;
    }

pub show_ran : (setting fixed : Setting) (change : Label → Named) (select : Select) (answer : Answer) (old new : Book) (answers behind : List Answer) (was now : Opening → List Call → Type 0) → behind ≡ answers ++ answer ∷ []
    → HasShown fixed change select answer old new was now → HasRun setting fixed change (ask.Show select) old new answers behind was now
show_ran setting fixed change select answer old new answers behind was now are shown = record {
  part = shown.part;
  asked = record { admin = shown.admin; is = ap bare shown.deed_is };
  given = answer ∷ [];
  given_are = are;
  answered = (subst (IsShow select answer) (sym shown.deed_is) (shown.answered, refl), refl);
  done = shown.done;
}

pub stage_depth : (subject : Option Subject) (old new : OpenEvents) → HasStaged subject old new → new.depth ≡ old.depth
stage_depth None old new staged = ap (λ (nest : OpenEvents). nest.depth) staged
stage_depth (Some subject) old new staged = staged.depth

-- where a line may stand
inner : (events : List Open) → innermost (kinds_in events) ≡ kind_of (innermost_of events)
inner [] = refl
inner (what ∷ events) = refl

known_class : (class : ClassRef) → IsKnownClass 62 class → IfSome (class_in class) (λ n. n < 63)
known_class (refs.Class id) known = omega arith
known_class (refs.Lost kind) known = tt

begins : (nest : OpenEvents) (subject : Subject) → may_start subject.kind (innermost (kinds_in nest.events)) ≡ true → length nest.events < nest.depth → IfSome subject.class (λ n. n < 63) → IfSome subject.table (λ n. n < 64) → IfSome subject.digest (λ n. n < 64)
    → MayBegin nest subject
begins nest subject order shallow class table digest = record { order = ap (λ (kind : Option EventKind). may_start subject.kind kind) (sym (inner nest.events)) ∙ order; shallow = shallow; class = class; table = table; digest = digest }

-- the kinds of the events without an open stage
stage_inner : (events : List Open) → innermost (drop (ended_by (Opens Stage) (kinds_in events)) (kinds_in events)) ≡ kind_of (innermost_of (without_stage events))
stage_inner [] = refl
stage_inner (what ∷ events) = at what.kind refl
  where
    at : (kind : EventKind) → what.kind ≡ kind → innermost (drop (ended_by (Opens Stage) (what.kind ∷ kinds_in events)) (what.kind ∷ kinds_in events)) ≡ kind_of (innermost_of (without_stage (what ∷ events)))
    at Stage e = rw e (inner events)
    at Wait e = rw e refl
    at Statement e = rw e refl
    at Transaction e = rw e refl

fewer : (events : List Open) → length (without_stage events) ≤ length events
fewer [] = omega arith
fewer (what ∷ events) = at what.kind refl
  where
    at : (kind : EventKind) → what.kind ≡ kind → length (without_stage (what ∷ events)) ≤ length (what ∷ events)
    at Stage e = rw e (omega arith)
    at Wait e = rw e (omega arith)
    at Statement e = rw e (omega arith)
    at Transaction e = rw e (omega arith)

kinds_long : (events : List Open) → length (kinds_in events) ≡ length events
kinds_long [] = refl
kinds_long (what ∷ events) = ap suc (kinds_long events)

-- an end ends something, since no stage is alone
some_open : (events : List Open) → StagesLie (kinds_in events) → is_some (innermost (kinds_in events)) ≡ true → 0 < length (without_stage events)
some_open [] lie stands = cc
some_open (what ∷ events) lie stands = at what.kind events refl lie
  where
    at : (kind : EventKind) (events : List Open) → what.kind ≡ kind → StagesLie (what.kind ∷ kinds_in events) → 0 < length (without_stage (what ∷ events))
    at Stage [] e lie = let none : StagesLie (Stage ∷ []) = subst (λ (k : EventKind). StagesLie (k ∷ [])) e lie in absurd none
    at Stage (next ∷ events) e lie = rw e (omega arith)
    at Wait events e lie = rw e (omega arith)
    at Statement events e lie = rw e (omega arith)
    at Transaction events e lie = rw e (omega arith)

-- a text that asks for what the administration holds names one of its tables
abbrev IsAsked : Request → Type 0
IsAsked (requests.Show select) = IsHeld select.table
IsAsked _ = Unit {0}

rows_asked : (table : Table) (select : Select) → select.table ≡ table → IsAsked (asks_rows table select)
rows_asked tables.SetupActors select on = subst IsHeld (sym on) tt
rows_asked tables.SetupObjects select on = subst IsHeld (sym on) tt
rows_asked (tables.Summary kind which) select on = tt
rows_asked (tables.Events kind which) select on = tt
rows_asked tables.DigestSummary select on = tt
rows_asked tables.Accounts select on = tt
rows_asked tables.Users select on = tt
rows_asked tables.Hosts select on = tt
rows_asked tables.SetupInstruments select on = tt
rows_asked tables.SetupConsumers select on = tt
rows_asked tables.Threads select on = tt

truncation_asked : (what : Option Truncation) → IsAsked (truncating what)
truncation_asked None = tt
truncation_asked (Some what) = tt

change_asked : (change : Change) → IsAsked (asks_change change)
change_asked (changes.Truncate table) = truncation_asked (truncation_on table)
change_asked (changes.Update update) = tt
change_asked (changes.Insert insert) = tt
change_asked (changes.Delete delete) = tt

plan_asked : (plan : Plan) → IsAsked (asks_plan plan)
plan_asked (plans.Select select) = rows_asked select.table select refl
plan_asked (plans.Change change) = change_asked change

unless_asked : (fault : Option SqlError) (table : Table) (command : Command) → IsAsked (unless fault table command)
unless_asked (Some error) table command = tt
unless_asked None table command = plan_asked (plan_of table command)

on_asked : (table : Option Table) (command : Command) → IsAsked (asks_on table command)
on_asked None command = tt
on_asked (Some table) command = unless_asked (fault_of table command) table command

command_asked : (command : Option Command) → IsAsked (asks_for command)
command_asked None = tt
command_asked (Some command) = on_asked (table_in (table_text command)) command

text_asked : (text : List ℕ) → IsAsked (request_of text)
unfolding request_of
text_asked text = command_asked (command_in text)

sql_may_run : (nest : OpenEvents) (what : Request) → IsAsked what → MayRun (sql_errand what) nest
sql_may_run nest (requests.Refused error) asked = tt
sql_may_run nest (requests.Query select) asked = tt
sql_may_run nest (requests.Show select) asked = asked
sql_may_run nest (requests.Truncate what) asked = tt
sql_may_run nest (requests.Update update) asked = tt
sql_may_run nest (requests.Insert insert) asked = tt
sql_may_run nest (requests.Delete delete) asked = tt

pub may_run : (nest : OpenEvents) (line : BlockLine) → StagesLie (kinds_in nest.events) → MayPlay 62 nest.depth (kinds_in nest.events) line → MayRun (errand_on line) nest
may_run nest (said.Wait class) lie may = begins nest _ may.stands (omega (arith, may.shallow, kinds_long nest.events)) (known_class class may.known) tt tt
may_run nest (said.TableWait class table) lie may = begins nest _ may.stands (omega (arith, may.shallow, kinds_long nest.events)) (known_class class may.known) may.table tt
may_run nest (said.Statement class digest) lie may = begins nest _ may.stands (omega (arith, may.shallow, kinds_long nest.events)) (known_class class may.known) tt may.digest
may_run nest (said.Transaction access) lie may = begins nest _ may.stands (omega (arith, may.shallow, kinds_long nest.events)) (lit< tt) tt tt
may_run nest (said.Stage class) lie may =
    let below : length (without_stage nest.events) < nest.depth = omega (arith, may.shallow, kinds_long nest.events, fewer nest.events) in
    (ap (λ (kind : Option EventKind). may_start Stage kind) (sym (stage_inner nest.events)) ∙ may.stands, below, known_class class may.known, tt, tt, refl)
may_run nest said.StageEnd lie may = tt
may_run nest (said.Spend time) lie may = tt
may_run nest said.End lie may = some_open nest.events lie may.stands
may_run nest (said.EndStatement numbers) lie may = some_open nest.events lie may.stands
may_run nest said.Quit lie may = let quits = may.quits in cc
may_run nest (said.Sql text) lie may = sql_may_run nest (request_of text) (text_asked text)
may_run nest (said.Repeat times) lie may = tt
may_run nest said.Done lie may = tt
