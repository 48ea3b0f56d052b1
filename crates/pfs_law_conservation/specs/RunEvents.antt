-- The events of a run: each with one number, what it adds, and whose it is.
use Rattle.std.specs.Prelude.{ℕ, zero, suc, ◌+◌, ◌*◌, ◌==◌, ◌&&◌, Bool, true, false, cond, List, [], ◌∷◌, ◌++◌, filter, map, Option, Some, None}
use Rattle.pfs_conservation.specs.PlaceFolds.{Session}
use Rattle.pfs_conservation.specs.KindSummaries.{Whose, OfSession, Aside}
use Rattle.pfs_event.specs.Verdicts.{is_let_through}
use Rattle.pfs_event.specs.declared.entry.Entry.{Entry}
use Rattle.pfs_event.specs.declared.entry.Entry.TheVariants as says
use Rattle.pfs_model.specs.Contents.{Given, measure_of}
use Rattle.pfs_model.specs.Contexts.{Context}
use Rattle.pfs_model.specs.EntryPlaces.{Placed}
use Rattle.pfs_model.specs.SetupFlags.{is_timed}
use Rattle.pfs_model.specs.Shapes.{counted_slot}
use Rattle.pfs_model.specs.SummaryCounts.{Names}
use Rattle.pfs_model.specs.declared.lines.Line.{Line}
use Rattle.pfs_model.specs.declared.lines.Line.TheVariants as lines
use Rattle.pfs_model.specs.declared.lines.Opened.{Opened}
use Rattle.pfs_stat.specs.declared.Measure.{Measure}

-- The number of a session's event by its position among the session's starts: 2^session * (2 * index + 1), so no two
-- events of a run have one number. Only conservation goes by it: what is said of a report names events by session and
-- position.
abbrev pub event_number : ℕ → ℕ → ℕ
event_number zero index = 2 * index + 1
event_number (suc session) index = 2 * event_number session index

-- an event that has ended, with its session and what this one's entries told as it ended
pub record Ended : Type 0 where
  pub session : ℕ
  pub event : Opened
  pub context : Context

abbrev pub number_of : Ended → ℕ
number_of one = event_number one.session one.event.index

abbrev pub ended_first : Placed → List Opened → List Ended
ended_first place [] = []
ended_first place (event ∷ others) =
    record { session = place.session; event = event; context = place.context } ∷ []

abbrev pub ended_at : Placed → Entry → List Ended
ended_at place (says.End event last consumers thread) = ended_first place place.context.opened
ended_at place entry = []

-- all events that have ended, whatever their verdicts
abbrev pub all_ended : List Placed → List Ended
all_ended [] = []
all_ended (place ∷ places) = ended_at place place.entry ++ all_ended places

-- an event counts where it is let through, in a cell of its class
abbrev pub counts_in : (ℕ → Bool) → Ended → Bool
counts_in is_cell one = is_let_through one.event.verdict && is_cell one.event.subject.cell

-- the numbers of the events of a kind: those that have ended and count in its cells
abbrev pub events_in : (ℕ → Bool) → List Placed → List ℕ
events_in is_cell places = map number_of (filter (counts_in is_cell) (all_ended places))

-- the event of a number
abbrev pub of_number : ℕ → List Ended → Option Ended
of_number number [] = None
of_number number (one ∷ others) = cond (number_of one == number) (Some one) (of_number number others)

-- what an event adds, by the flags that its start saw and the script's facts of it
abbrev pub measure_for : Given → Ended → Measure
measure_for given one =
    measure_of (is_timed given.flags (given.slots one.session) one.event) (given.facts one.session one.event.index)

abbrev pub no_measure : Measure
no_measure = record {
  timed = false;
  wait = 0;
  lock = 0;
  errors = 0;
  warnings = 0;
  affected = 0;
  sent = 0;
  examined = 0;
}

abbrev pub measure_if : Given → Option Ended → Measure
measure_if given None = no_measure
measure_if given (Some one) = measure_for given one

-- what each event adds, by its number; a number of none adds nothing of its own
abbrev pub measures_in : Given → List Placed → ℕ → Measure
measures_in given places number = measure_if given (of_number number (all_ended places))

-- the numbers of the actions by which sessions connect, and of those by which they quit
abbrev pub connects_at : Placed → Entry → List ℕ
connects_at place (says.Connect action thread account user host) = action ∷ []
connects_at place entry = []

abbrev pub is_quit : Line → Bool
is_quit lines.Quit = true
is_quit line = false

abbrev pub quits_at : Placed → Entry → List ℕ
quits_at place (says.Act action) = cond (is_quit place.line) (action ∷ []) []
quits_at place entry = []

-- those of one session
abbrev pub given_by : (Placed → Entry → List ℕ) → ℕ → List Placed → List ℕ
given_by given session [] = []
given_by given session (place ∷ places) =
    cond (place.session == session) (given place place.entry) [] ++ given_by given session places

abbrev pub first_of : List ℕ → Option ℕ
first_of [] = None
first_of (number ∷ numbers) = Some number

abbrev pub or_none : Option ℕ → ℕ
or_none None = 0
or_none (Some number) = number

-- the action by which a session connected, 0 without one, and that by which it quit, if it did
abbrev pub connect_in : List Placed → ℕ → ℕ
connect_in places session = or_none (first_of (given_by connects_at session places))

abbrev pub quit_in : List Placed → ℕ → Option ℕ
quit_in places session = first_of (given_by quits_at session places)

-- the session of an event: with its names, and the places that its connect printed
abbrev pub session_of : (ℕ → Names) → Ended → Session
session_of names one = record {
  number = one.session;
  user_name = (names one.session).user;
  host_name = (names one.session).host;
  account = one.context.account;
  user = one.context.user;
  host = one.context.host;
}

abbrev pub whose_at : (ℕ → Names) → List Placed → Ended → Option ℕ → Whose
whose_at names places one None = Aside one.event.subject.cell
whose_at names places one (Some slot) =
    OfSession one.event.subject.cell slot (session_of names one) (connect_in places one.session)
    (quit_in places one.session)

-- an attributed event is its session's, at the printed slot; any other is aside
abbrev pub whose_by : (ℕ → Names) → List Placed → Ended → Whose
whose_by names places one = whose_at names places one (counted_slot one.context.slot one.event.verdict)

abbrev pub whose_if : (ℕ → Names) → List Placed → Option Ended → Whose
whose_if names places None = Aside 0
whose_if names places (Some one) = whose_by names places one

-- whose each event is, by its number
abbrev pub whose_in : (ℕ → Names) → List Placed → ℕ → Whose
whose_in names places number = whose_if names places (of_number number (all_ended places))
