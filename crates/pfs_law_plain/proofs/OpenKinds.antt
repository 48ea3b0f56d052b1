-- The kinds of a session's open events, step by step.
use Rattle.std.proofs.Common.{ℕ, ◌≡◌, List, [], ◌∷◌, ◌++◌, drop, Bool, true, false, Option, Some, None, refl, ap, sym, ◌∙◌}
use Rattle.std.specs.Prelude.{if◌then◌else◌}
use Rattle.pfs_event.specs.Verdicts.{is_let_through}
use Rattle.pfs_event.specs.declared.entry.Entry.{Entry}
use Rattle.pfs_event.specs.declared.kind.EventKind.{EventKind}
use Rattle.pfs_event.specs.declared.kind.EventKind.TheVariants.{Wait, Stage, Statement, Transaction}
use Rattle.pfs_event.specs.declared.open.Open.{Open}
use Rattle.pfs_levels.specs.Calls.{Call}
use Rattle.pfs_model.specs.Shapes.{is_stage}
use Rattle.pfs_session.proofs.EndFrames.{through_leaves}
use Rattle.pfs_session.specs.Ends.{EndsIn, no_numbers}
use Rattle.pfs_session.specs.SessionStates.{State}
use Rattle.pfs_session.specs.Turns.{Step, StartsEvent, EndsEvent, Spends, SettlesHeld, Connects, Quits, Truncates, Changes, Inquires, Turn, Does, AreTurns, state_after, steps_of, stage_ends}
use Rattle.pfs_session.specs.declared.events.Numbers.{Numbers}
use Rattle.pfs_session.specs.declared.remarks.Remark.TheVariants.{Rows}
use Rattle.std.proofs.lemmas.List.{append-nil}
use Rattle.pfs_admin.specs.AdministrationStates.{State as Administration}
use Rattle.pfs_classes.specs.declared.classes.ClassRef.{ClassRef}
use Rattle.pfs_law_session.specs.Deeds.{Deed, Connecting, Starting, Staging, StageEnding, Ending, Spending, Quitting, Truncating, Changing, Showing, Querying, Refusing, Closing, Part, IsPart, looks, remark, steps_for}
use Rattle.pfs_rows.specs.declared.table.Reading.{Reading}
use Rattle.pfs_runs.specs.ScriptLines.{stage_on}
use Rattle.pfs_script.specs.declared.blocks.BlockLine.{BlockLine}
use Rattle.pfs_script.specs.declared.blocks.BlockLine.TheVariants as said
use Rattle.pfs_script.specs.Brackets.{kinds_behind}
use Rattle.pfs_script.specs.Marks.{Opens, Ends, EndsStage, mark_of}
use Rattle.pfs_exec.specs.Requests.{request_of}
use Rattle.pfs_exec.specs.declared.requests.Request.{Request}
use Rattle.pfs_exec.specs.declared.requests.Request.TheVariants as requests
use Rattle.pfs_law_plain.specs.LineDeeds.{bare, deed_on, sql_deed}
use Rattle.pfs_law_plain.specs.LineSteps.{kinds_in, kinds_at, numbers_in, stage_ends_in, steps_on}

-- what a step makes of them
abbrev pub kinds_stepped : List EventKind → Step → List EventKind
kinds_stepped kinds (StartsEvent subject) = subject.kind ∷ kinds
kinds_stepped kinds (EndsEvent numbers) = drop 1 kinds
kinds_stepped kinds (Spends time) = kinds
kinds_stepped kinds SettlesHeld = kinds
kinds_stepped kinds (Connects admin user host) = kinds
kinds_stepped kinds (Quits admin) = kinds
kinds_stepped kinds (Truncates admin what) = kinds
kinds_stepped kinds (Changes admin what) = kinds
kinds_stepped kinds (Inquires what) = kinds

abbrev pub all_kinds_stepped : List EventKind → List Step → List EventKind
all_kinds_stepped kinds [] = kinds
all_kinds_stepped kinds (step ∷ steps) = all_kinds_stepped (kinds_stepped kinds step) steps

ended_in : (s : State) (slot : Option ℕ) (through : Bool) (what : Open) (others : List Open) (numbers : Numbers) (calls : List Call) (entries : List Entry) (after : State)
    → EndsIn s slot through what others numbers calls entries after → after.opened.events ≡ others
ended_in s slot false what others numbers calls entries after e = ap (λ (z : State). z.opened.events) e.after_is
ended_in s None true what others numbers calls entries after e = absurd e
ended_in s (Some slot) true what others numbers calls entries after e = ap (λ (z : State). z.opened.events) (through_leaves s slot what others numbers calls entries after e)

pub kinds_does : (s : State) (step : Step) (calls : List Call) (entries : List Entry) (after : State) → Does s step calls entries after → kinds_at after ≡ kinds_stepped (kinds_at s) step
kinds_does s (StartsEvent subject) calls entries after does =
    ap kinds_at does.begins.after_is ∙ ap (λ (kind : EventKind). kind ∷ kinds_at s) does.begins.opened.kind
kinds_does s (EndsEvent numbers) calls entries after does =
    ap kinds_in (ended_in s s.place.thread (is_let_through does.what.verdict) does.what does.others numbers calls entries after does.ends)
    ∙ sym (ap (λ (events : List Open). drop 1 (kinds_in events)) does.innermost)
kinds_does s (Spends time) calls entries after does = ap kinds_at does.2
kinds_does s SettlesHeld calls entries after does = ap kinds_at does.after_is
kinds_does s (Connects admin user host) calls entries after does = ap kinds_at does.1
kinds_does s (Quits admin) calls entries after does = ap kinds_at does.1
kinds_does s (Truncates admin what) calls entries after does = ap kinds_at does.after_is
kinds_does s (Changes admin what) calls entries after does = ap kinds_at does.after_is
kinds_does s (Inquires what) calls entries after does = ap kinds_at does.after_is

kinds_then : (kinds : List EventKind) (xs ys : List Step) → all_kinds_stepped kinds (xs ++ ys) ≡ all_kinds_stepped (all_kinds_stepped kinds xs) ys
kinds_then kinds [] ys = refl
kinds_then kinds (x ∷ xs) ys = kinds_then (kinds_stepped kinds x) xs ys

pub kinds_turns : (s : State) (turns : List Turn) → AreTurns s turns → kinds_at (state_after s turns) ≡ all_kinds_stepped (kinds_at s) (steps_of turns)
kinds_turns s [] are = refl
kinds_turns s (turn ∷ turns) are =
    kinds_does (state_after s turns) turn.step turn.calls turn.entries turn.after are.0
    ∙ (ap (λ (kinds : List EventKind). kinds_stepped kinds turn.step) (kinds_turns s turns are.1) ∙ sym (kinds_then (kinds_at s) (steps_of turns) (turn.step ∷ [])))

-- an open stage ends first, by the events as by their kinds
stage_of : (kind : EventKind) (kinds : List EventKind) → (if is_stage kind then EndsEvent no_numbers ∷ [] else []) ≡ stage_ends_in (kind ∷ kinds)
stage_of Wait kinds = refl
stage_of Stage kinds = refl
stage_of Statement kinds = refl
stage_of Transaction kinds = refl

pub stage_ends_are : (events : List Open) → stage_ends events ≡ stage_ends_in (kinds_in events)
stage_ends_are [] = refl
stage_ends_are (what ∷ events) = stage_of what.kind (kinds_in events)

-- the kinds that a line's steps leave are those that its mark leaves
ends_kinds : (kinds : List EventKind) (step : Step) → ((ks : List EventKind) → kinds_stepped ks step ≡ drop 1 ks) → all_kinds_stepped kinds (stage_ends_in kinds ++ step ∷ []) ≡ kinds_behind Ends kinds
ends_kinds [] step one = one []
ends_kinds (Stage ∷ []) step one = one []
ends_kinds (Stage ∷ kind ∷ kinds) step one = one (kind ∷ kinds)
ends_kinds (Wait ∷ kinds) step one = one (Wait ∷ kinds)
ends_kinds (Statement ∷ kinds) step one = one (Statement ∷ kinds)
ends_kinds (Transaction ∷ kinds) step one = one (Transaction ∷ kinds)

stage_kinds : (kinds : List EventKind) (class : ClassRef) → all_kinds_stepped kinds (stage_ends_in kinds ++ StartsEvent (stage_on class) ∷ []) ≡ kinds_behind (Opens Stage) kinds
stage_kinds [] class = refl
stage_kinds (Stage ∷ kinds) class = refl
stage_kinds (Wait ∷ kinds) class = refl
stage_kinds (Statement ∷ kinds) class = refl
stage_kinds (Transaction ∷ kinds) class = refl

stage_end_kinds : (kinds : List EventKind) → all_kinds_stepped kinds (stage_ends_in kinds) ≡ kinds_behind EndsStage kinds
stage_end_kinds [] = refl
stage_end_kinds (Stage ∷ kinds) = refl
stage_end_kinds (Wait ∷ kinds) = refl
stage_end_kinds (Statement ∷ kinds) = refl
stage_end_kinds (Transaction ∷ kinds) = refl

pub line_kinds : (kinds : List EventKind) (line : BlockLine) → all_kinds_stepped kinds (steps_on kinds line) ≡ kinds_behind (mark_of line) kinds
line_kinds kinds (said.Wait class) = refl
line_kinds kinds (said.TableWait class table) = refl
line_kinds kinds (said.Statement class digest) = refl
line_kinds kinds (said.Transaction access) = refl
line_kinds kinds (said.Stage class) = stage_kinds kinds class
line_kinds kinds said.StageEnd = stage_end_kinds kinds
line_kinds kinds (said.Spend time) = refl
line_kinds kinds said.End = ends_kinds kinds (EndsEvent no_numbers) (λ ks. refl)
line_kinds kinds (said.EndStatement numbers) = ends_kinds kinds (EndsEvent (numbers_in numbers)) (λ ks. refl)
line_kinds kinds said.Quit = refl
line_kinds kinds (said.Sql text) = refl
line_kinds kinds (said.Repeat times) = refl
line_kinds kinds said.Done = refl

-- a line's part leaves open what its mark leaves open
kinds_deed : (s : State) (admin : Administration) (line : BlockLine) → all_kinds_stepped (kinds_at s) (steps_for s (deed_on admin line)) ≡ kinds_behind (mark_of line) (kinds_at s)
kinds_deed s admin (said.Wait class) = refl
kinds_deed s admin (said.TableWait class table) = refl
kinds_deed s admin (said.Statement class digest) = refl
kinds_deed s admin (said.Transaction access) = refl
kinds_deed s admin (said.Stage class) = ap (λ (z : List Step). all_kinds_stepped (kinds_at s) (z ++ StartsEvent (stage_on class) ∷ [])) (stage_ends_are s.opened.events) ∙ stage_kinds (kinds_at s) class
kinds_deed s admin said.StageEnd = ap (λ (z : List Step). all_kinds_stepped (kinds_at s) z) (append-nil (stage_ends s.opened.events) ∙ stage_ends_are s.opened.events) ∙ stage_end_kinds (kinds_at s)
kinds_deed s admin (said.Spend time) = refl
kinds_deed s admin said.End = ap (λ (z : List Step). all_kinds_stepped (kinds_at s) (z ++ EndsEvent no_numbers ∷ [])) (stage_ends_are s.opened.events) ∙ line_kinds (kinds_at s) said.End
kinds_deed s admin (said.EndStatement numbers) =
    ap (λ (z : List Step). all_kinds_stepped (kinds_at s) (z ++ EndsEvent (numbers_in numbers) ∷ [])) (stage_ends_are s.opened.events) ∙ line_kinds (kinds_at s) (said.EndStatement numbers)
kinds_deed s admin said.Quit = refl
kinds_deed s admin (said.Sql text) = by_text (request_of text) where
  by_text : (what : Request) → all_kinds_stepped (kinds_at s) (steps_for s (sql_deed admin what)) ≡ kinds_at s
  by_text (requests.Refused error) = refl
  by_text (requests.Query select) = refl
  by_text (requests.Show select) = refl
  by_text (requests.Truncate what) = refl
  by_text (requests.Update update) = refl
  by_text (requests.Insert insert) = refl
  by_text (requests.Delete delete) = refl
kinds_deed s admin (said.Repeat times) = refl
kinds_deed s admin said.Done = refl

-- what was read opens nothing
kinds_looked : (kinds : List EventKind) (readings : List Reading) (steps : List Step) → all_kinds_stepped kinds (looks readings ++ steps) ≡ all_kinds_stepped kinds steps
kinds_looked kinds [] steps = refl
kinds_looked kinds (reading ∷ readings) steps = kinds_looked kinds readings steps

pub kinds_bare : (kinds : List EventKind) (s : State) (deed : Deed) → all_kinds_stepped kinds (steps_for s deed) ≡ all_kinds_stepped kinds (steps_for s (bare deed))
kinds_bare kinds s (Connecting admin user host) = refl
kinds_bare kinds s (Starting subject) = refl
kinds_bare kinds s (Staging subject) = refl
kinds_bare kinds s StageEnding = refl
kinds_bare kinds s (Ending numbers) = refl
kinds_bare kinds s (Spending time) = refl
kinds_bare kinds s (Quitting admin) = refl
kinds_bare kinds s (Truncating admin what) = refl
kinds_bare kinds s (Changing admin what) = refl
kinds_bare kinds s (Showing admin count) = refl
kinds_bare kinds s (Querying readings count) = kinds_looked kinds readings (remark (Rows count) ∷ [])
kinds_bare kinds s (Refusing error) = refl
kinds_bare kinds s Closing = refl

pub kinds_part : (s : State) (admin : Administration) (line : BlockLine) (p : Part) → IsPart s p → bare p.deed ≡ deed_on admin line → kinds_at (state_after s p.turns) ≡ kinds_behind (mark_of line) (kinds_at s)
kinds_part s admin line p is deed =
    kinds_turns s p.turns is.are_turns ∙ (ap (λ (z : List Step). all_kinds_stepped (kinds_at s) z) is.steps_are ∙ (kinds_bare (kinds_at s) s p.deed
    ∙ (ap (λ (d : Deed). all_kinds_stepped (kinds_at s) (steps_for s d)) deed ∙ kinds_deed s admin line)))
