-- The numbers of a session's events, by its journal and by the brackets of its lines.
use Rattle.std.specs.Prelude.{ℕ, ◌≡◌, ◌+◌, ◌&&◌, nat_lt, cond, List, [], ◌∷◌, ◌++◌, length, map, take, slice_get, Option, Some, None, option_map}
use Rattle.std.specs.List.{flat_map, range_with_len}
use Rattle.pfs_classes.specs.declared.setting.Setting.{Setting}
use Rattle.pfs_event.specs.Verdicts.{is_let_through}
use Rattle.pfs_event.specs.declared.entry.Entry.{Entry}
use Rattle.pfs_event.specs.declared.entry.Entry.TheVariants as says
use Rattle.pfs_event.specs.declared.verdict.Verdict.{Verdict}
use Rattle.pfs_journal.specs.declared.report.ReportParts.{ReportParts}
use Rattle.pfs_law_conservation.specs.RunEvents.{Ended, all_ended}
use Rattle.pfs_model.specs.Chains.{Each, each_of}
use Rattle.pfs_model.specs.Contexts.{subject_of}
use Rattle.pfs_model.specs.EntryPlaces.{Placed, by_session, places}
use Rattle.pfs_model.specs.declared.lines.Opened.{Opened}
use Rattle.pfs_runs.specs.PhaseFinals.{verdict_at}
use Rattle.pfs_runs.specs.Runs.{IsRun, all_blocks}
use Rattle.pfs_runs.specs.ScriptLines.{subject_in}
use Rattle.pfs_script.specs.Brackets.{Opening, closed_at, open_in}
use Rattle.pfs_script.specs.Events.{Event, events_for, lines_for}
use Rattle.pfs_script.specs.Marks.{Mark, mark_of}
use Rattle.pfs_script.specs.declared.blocks.BlockLine.{BlockLine}
use Rattle.pfs_script.specs.declared.blocks.Phase.{Phase}

-- Of the events of a session, in the order of their opening lines, with the verdicts that its start lines gave them:
-- how many were let through that opened before a line
abbrev pub through_before : ℕ → List Event → List Verdict → ℕ
through_before place [] verdicts = 0
through_before place (event ∷ events) [] = 0
through_before place (event ∷ events) (verdict ∷ verdicts) =
    cond (nat_lt event.opened place && is_let_through verdict) 1 0 + through_before place events verdicts

-- EVENT_ID: the position among the session's let-through events
abbrev pub id_of : List Event → List Verdict → Event → Verdict → Option ℕ
id_of events verdicts event verdict =
    cond (is_let_through verdict) (Some (through_before event.opened events verdicts + 1)) None

-- the opening line of an event that stands in a journal's stack, and those of brackets
abbrev pub line_of : List Event → Opened → Option ℕ
line_of events one = option_map (λ (event : Event). event.opened) (slice_get events one.index)

abbrev pub lines_of : List Opening → List (Option ℕ)
lines_of openings = map (λ (opening : Opening). Some opening.place) openings

-- What a start line says of the event that it begins: it is that of its position, of what its opening line says, with
-- its number. Behind the line, it and the events of the journal's stack are those that the brackets leave open
pub record IsBegun (marks : List Mark) (events : List Event) (verdicts : List Verdict) (place : Placed)
    (number : Option ℕ) (verdict : Verdict) : Type 0 where
  pub said : Event
  pub there : slice_get events place.context.begun ≡ Some said
  pub subject : subject_of place.line ≡ Some (subject_in said.subject)
  pub number_is : number ≡ id_of events verdicts said verdict
  pub around : Some said.opened ∷ map (line_of events) place.context.opened
      ≡ lines_of (open_in (take (said.opened + 1) marks))

-- What an end line says of the innermost event of the stack: its number, and END_EVENT_ID, how many let-through events
-- opened before the line where its bracket closes
pub record IsEnded (events : List Event) (verdicts : List Verdict) (event : Opened) (number last : Option ℕ) : Type 0
  where
    pub said : Event
    pub there : slice_get events event.index ≡ Some said
    pub closed : ℕ
    pub closes : said.closed ≡ Some closed
    pub number_is : number ≡ id_of events verdicts said event.verdict
    pub last_is : last ≡ cond (is_let_through event.verdict) (Some (through_before closed events verdicts)) None

abbrev pub EndsFirst : List Event → List Verdict → List Opened → Option ℕ → Option ℕ → Type 0
EndsFirst events verdicts [] number last = ⊥
EndsFirst events verdicts (event ∷ others) number last = IsEnded events verdicts event number last

abbrev pub IsSaid : List Mark → List Event → List Verdict → Placed → Entry → Type 0
IsSaid marks events verdicts place (says.Start number verdict consumers thread class table) =
    IsBegun marks events verdicts place number verdict
IsSaid marks events verdicts place (says.End number last consumers thread) =
    EndsFirst events verdicts place.context.opened number last
IsSaid marks events verdicts place entry = Unit {0}

-- the positions of the events that start lines begin
abbrev pub begun_at : Placed → Entry → List ℕ
begun_at place (says.Start number verdict consumers thread class table) = place.context.begun ∷ []
begun_at place entry = []

abbrev pub all_begun : List Placed → List ℕ
all_begun [] = []
all_begun (place ∷ places) = begun_at place place.entry ++ all_begun places

-- A session's journal over all phases, and its script's lines: each event is begun once, in the order of the opening
-- lines; those that are closed are ended once, in the order in which their brackets close, the innermost first; and
-- each start and end line says its event's numbers
pub record GoByBrackets (lines : List BlockLine) (events : List Event) (mine : List Placed) : Type 0 where
  pub begun : all_begun mine ≡ range_with_len 0 (length events)
  pub ended : map (λ (one : Ended). line_of events one.event) (all_ended mine)
      ≡ lines_of (flat_map (closed_at (map mark_of lines)) (range_with_len 0 (length lines)))
  pub each : Each (λ (place : Placed). IsSaid (map mark_of lines) events (each_of verdict_at mine) place place.entry)
      mine

-- so it is in each run, whatever its phases say
abbrev pub BracketLaw : Type 0
BracketLaw = (setting : Setting) (phases : List Phase) (report : ReportParts) (run : IsRun setting phases report)
    (session : ℕ) → GoByBrackets (lines_for session phases) (events_for session phases)
    (by_session session (places (all_blocks run.blocks)))
