-- What the reader keeps of the lines so far.
use Rattle.std.specs.Prelude.{ℕ, zero, suc, ◌≡◌, ◌+◌, ◌*◌, ◌<◌, ◌≤◌, slice_set, Bool, true, false, List, [], ◌∷◌, ◌++◌, ◌||◌, length, nat_lt, Some, is_some, IfSome, count_by, get_or}
use Rattle.std.specs.List.{list_any, list_all}
use Rattle.pfs_rows.specs.declared.limits.Limit.{Limit}
use Rattle.pfs_rows.specs.Limits.{order_of}
use Rattle.pfs_event.specs.declared.kind.EventKind.{EventKind}
use Rattle.pfs_event.specs.declared.kind.EventKind.TheVariants.{Wait, Stage, Statement, Transaction}
use Rattle.pfs_script.specs.declared.forms.Form.{Form}
use Rattle.pfs_script.specs.declared.forms.Form.TheVariants as form
use Rattle.pfs_script.specs.declared.places.Place.{Place}
use Rattle.pfs_script.specs.declared.fronts.Front.{Front}
use Rattle.pfs_script.specs.declared.courses.Course.{Course}
use Rattle.pfs_script.specs.declared.open_kinds.SessionState.{SessionState}
use Rattle.pfs_script.specs.declared.open_kinds.OpenKinds.{OpenKinds}
use Rattle.pfs_script.specs.declared.totals.Totals.{Totals}
use Rattle.pfs_script.specs.Headings.{is_before_limits}
use Rattle.pfs_script.specs.LineCounts.{ahead_of_last, is_repeat, is_in_repeat, counted, once_more, more_times, pending}
use Rattle.pfs_script.specs.Sessions.{is_phase, is_block_of, phase_of, session_now, has_quit}
use Rattle.pfs_script.specs.declared.totals.Tally.{Tally}
use Rattle.pfs_script.specs.declared.finds.Finds.{Finds}
use Rattle.pfs_script.specs.Headings.{limits_of}
use Rattle.pfs_script.specs.Finds.{tables_of, digests_of}
use Rattle.pfs_script.specs.Reasons.{is_class, is_out_of_place, is_too_long, is_too_much, one_select, session_kinds, kinds_open, gives, one_each, weight_of}

-- the flags are true of the lines, and a limit's flag says whether it was given
pub record KnowsFront (front : Front) (before : List Form) : Type 0 where
  pub limits_alone : front.limits_alone ≡ list_all is_before_limits before
  pub phase : front.has_phase ≡ list_any is_phase before
  pub given : (one : Limit) → get_or front.given (order_of one) false ≡ list_any (gives (Some one)) before
  pub limits : length front.given ≡ 13

-- so many events of a kind, and those around them
abbrev pub with_kinds : ℕ → EventKind → List EventKind → List EventKind
with_kinds zero kind more = more
with_kinds (suc number) kind more = kind ∷ with_kinds number kind more

abbrev pub with_kind : Bool → EventKind → List EventKind → List EventKind
with_kind true kind more = kind ∷ more
with_kind false kind more = more

-- from the innermost on, waits, a stage, statements and a transaction
abbrev pub kinds_from : ℕ → Bool → ℕ → Bool → List EventKind
kinds_from waits has_stage statements has_transaction =
    with_kinds waits Wait
    (with_kind has_stage Stage (with_kinds statements Statement (with_kind has_transaction Transaction [])))

abbrev pub kinds_in : OpenKinds → List EventKind
kinds_in events = kinds_from events.waits events.has_stage events.statements events.has_transaction

-- nothing of a session
abbrev pub no_session : SessionState
no_session = record {
  has_begun = false;
  has_quit = false;
  events = record {
    waits = 0;
    has_stage = false;
    statements = 0;
    has_transaction = false;
  };
}

abbrev pub state_at : List SessionState → ℕ → SessionState
state_at sessions number = get_or sessions number no_session

-- the flags tell whether the session has a block at all and whether it quit, and the events are those open behind all
-- its lines
pub record KnowsSession (state : SessionState) (number : ℕ) (before : List Form) : Type 0 where
  pub begun : state.has_begun ≡ list_any (is_block_of number) before
  pub quits : state.has_quit ≡ has_quit number before
  pub kinds : kinds_in state.events ≡ session_kinds number before
  pub inside : state.events.has_stage ≡ true → 1 ≤ state.events.statements
  pub few_waits : state.events.waits ≤ length before
  pub few_statements : state.events.statements ≤ length before

-- each session is known; a flag says whether it has a block in the phase; the blocks of the phase are counted; the
-- session of the block is known; and so are the events that were open where a repeat began that isn't done
pub record KnowsCourse (course : Course) (before : List Form) : Type 0 where
  pub sessions : (number : ℕ) → number < 65 → KnowsSession (state_at course.sessions number) number before
  pub numbers : length course.sessions ≡ 65
  pub here : (number : ℕ) → number < 65
      → get_or course.here number false ≡ list_any (is_block_of number) (phase_of before)
  pub here_numbers : length course.here ≡ 65
  pub present : course.present ≡ session_now before
  pub low : course.present < 65
  pub repeats : is_some course.repeat ≡ is_in_repeat before
  pub first : IfSome course.repeat (λ events. kinds_in events ≡ kinds_open (ahead_of_last is_repeat before))

-- a block of this session has begun
pub record HasBegun (old new : Course) (number : ℕ) : Type 0 where
  pub sessions : new.sessions
      ≡ slice_set old.sessions number (record (state_at old.sessions number) { has_begun = true })
  pub here : new.here ≡ slice_set old.here number true
  pub present : new.present ≡ number
  pub repeat : new.repeat ≡ old.repeat

-- how often more than once the next line runs, behind this one
abbrev pub more_with : Form → ℕ → ℕ
more_with (form.Repeat times) more = once_more (form.Repeat times)
more_with form.Done more = 0
more_with _ more = more

-- what the lines of a repeat come to, with this one of that measure; none where it begins or is done
abbrev pub body_with : Form → ℕ → ℕ → ℕ
body_with (form.Repeat times) measure body = 0
body_with form.Done measure body = 0
body_with _ measure body = body + measure

-- what the lines come to by this measure, and what a `done` would add to it
pub record KnowsTally (tally : Tally) (measure : Form → ℕ) (more : ℕ) (before : List Form) : Type 0 where
  pub total : tally.total ≡ counted measure before
  pub body : pending measure before ≡ more * tally.body
  pub low : tally.body ≤ tally.total

-- the lines, the SELECTs among them and their weight, the phases and classes, each within what a script may have
pub record KnowsTotals (totals : Totals) (before : List Form) : Type 0 where
  pub lines : KnowsTally totals.lines one_each totals.more before
  pub selects : KnowsTally totals.selects one_select totals.more before
  pub weight : KnowsTally totals.weight weight_of totals.more before
  pub phases : totals.phases ≡ count_by is_phase before
  pub classes : totals.classes ≡ count_by is_class before
  pub few_lines : totals.lines.total ≤ 200000
  pub few_selects : totals.selects.total ≤ 256
  pub low_weight : totals.weight.total ≤ 5000000
  pub few_phases : totals.phases ≤ 64
  pub few_classes : totals.classes ≤ 256
  pub more : totals.more ≡ more_times before
  pub alone : is_in_repeat before ≡ false → totals.more ≡ 0

-- there are more than 200,000 lines
abbrev pub has_many_lines : Totals → Bool
has_many_lines totals = nat_lt 200000 totals.lines.total

-- there are more than 64 phases, 256 classes or 256 SELECTs, or the lines weigh more than 5,000,000
abbrev pub has_much : Totals → Bool
has_much totals =
    nat_lt 64 totals.phases
    || (nat_lt 256 totals.classes || (nat_lt 256 totals.selects.total || nat_lt 5000000 totals.weight.total))

-- with this line they tell whether it is one too many or too much, and where it is neither they are known
pub record HasCounted (totals : Totals) (before : List Form) (line : Form) : Type 0 where
  pub long : has_many_lines totals ≡ is_too_long before line
  pub much : has_much totals ≡ is_too_much before line
  pub knows : is_out_of_place before line ≡ false → is_too_long before line ≡ false
      → is_too_much before line ≡ false → KnowsTotals totals (before ++ line ∷ [])

-- the tables and digest texts are those of the lines, under the limit that these give, and there are 64 tables at most
pub record KnowsFinds (finds : Finds) (before : List Form) : Type 0 where
  pub tables : finds.tables ≡ tables_of before
  pub few_tables : length finds.tables ≤ 64
  pub digests : finds.digests ≡ digests_of (limits_of before).digests before

-- the place is that behind these lines
pub record Knows (place : Place) (before : List Form) : Type 0 where
  pub front : KnowsFront place.front before
  pub course : KnowsCourse place.course before
  pub totals : KnowsTotals place.totals before

-- the place is that behind these lines, and its totals count one line more
pub record KnowsCounted (place : Place) (before : List Form) (line : Form) : Type 0 where
  pub front : KnowsFront place.front before
  pub course : KnowsCourse place.course before
  pub totals : HasCounted place.totals before line
