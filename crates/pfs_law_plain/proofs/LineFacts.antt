-- One line: the events that it ends have the facts of their brackets, the one that it starts has its clock, and what is
-- open behind it is what the marks leave open.
use Rattle.std.proofs.Common.{ℕ, zero, suc, ◌≡◌, ◌+◌, ◌-◌, ◌*◌, ◌/◌, ◌%◌, ◌^◌, ◌≤◌, ◌<◌, List, [], ◌∷◌, ◌++◌, length, map, take, Option, Some, None, refl, ap, sym, ◌∙◌, subst, lit<, arith}
use Rattle.std.specs.Prelude.{slice_get, option_map, unwrap_or}
use Rattle.std.specs.List.{sum_by}
use Rattle.std.proofs.Math.Nat.{mod-add-mod, mod-lt, add-mul-mod_self_right}
use Rattle.std.proofs.Math.Seq.{take-append_seam, get_or-append_seam}
use Rattle.std.proofs.lemmas.Nat.{div-add-mod'}
use Rattle.std.proofs.lemmas.List.{length-map, map-append, take-append-le}
use Rattle.std.proofs.lemmas.Option.{slice_get-map}
use Rattle.pfs_event.specs.declared.kind.EventKind.{EventKind}
use Rattle.pfs_event.specs.declared.kind.EventKind.TheVariants.{Wait, Stage, Statement, Transaction}
use Rattle.pfs_model.specs.Chains.{Each}
use Rattle.pfs_model.specs.Contents.{Facts}
use Rattle.pfs_law_session.specs.Amounts.{Going, Clocked, all_stepped, IsMeasured, AreFacts}
use Rattle.pfs_classes.specs.declared.classes.ClassRef.{ClassRef}
use Rattle.pfs_runs.specs.ScriptLines.{facts_of, facts_if, wait_on, statement_on, transaction_on, stage_on}
use Rattle.pfs_script.specs.declared.blocks.BlockLine.{BlockLine}
use Rattle.pfs_script.specs.declared.blocks.BlockLine.TheVariants as said
use Rattle.pfs_script.specs.declared.blocks.StatementNumbers.{StatementNumbers}
use Rattle.pfs_script.specs.Brackets.{Bracket, closing_from, brackets_from, brackets_of, Opening, open_in, closed_at, kinds_of, ended_by}
use Rattle.pfs_script.specs.EventRules.{bracket_of, AreEvents}
use Rattle.pfs_script.specs.Events.{Event, time_of, passed_between, numbers_on, numbers_at, numbers_for, no_numbers}
use Rattle.pfs_model.specs.declared.lines.Subject.{Subject}
use Rattle.pfs_script.specs.Marks.{Mark, Opens, Ends, EndsStage, Passes, mark_of}
use Rattle.pfs_script.proofs.MarkNests.{after, open_is_run, open_more, closed_by}
use Rattle.pfs_session.specs.Ends.{no_numbers as nothing, numbers_for as session_numbers}
use Rattle.pfs_session.specs.Turns.{Step, StartsEvent, EndsEvent, Spends}
use Rattle.pfs_session.specs.declared.events.Numbers.{Numbers}
use Rattle.pfs_law_plain.specs.LineSteps.{numbers_in, steps_on, stage_ends_in}
use Rattle.pfs_law_plain.specs.Tracks.{marks_of, opened_by, passed_in, going_at, Tracks, IsTold, FirstLaw, LineLaw}
use Rattle.pfs_law_plain.proofs.BracketCounts.{opens, opened_is, opened_more, passed_more, standing}
use Rattle.pfs_law_plain.proofs.ClosedEvents.{IsClosed, closing, open_below}

-- clocks that go round at a width
wraps : (width start lasted : ℕ) → 0 < width → lasted % width ≡ ((start + lasted) % width + (width - start % width)) % width
wraps width start lasted some =
    let parts : start / width * width + start % width ≡ start = div-add-mod' start width in
    let below : start % width < width = mod-lt start some in
    let whole : (start + lasted) + (width - start % width) ≡ lasted + (start / width + 1) * width = omega (arith, parts, below) in
    sym (mod-add-mod (start + lasted) width (width - start % width) ∙ (ap (λ n. n % width) whole ∙ add-mul-mod_self_right lasted (start / width + 1) width))

take_map : (n : ℕ) (lines : List BlockLine) → take n (map mark_of lines) ≡ map mark_of (take n lines)
take_map zero lines = refl
take_map (suc n) [] = refl
take_map (suc n) (line ∷ lines) = ap (λ (marks : List Mark). mark_of line ∷ marks) (take_map n lines)

passed_is : (all : List BlockLine) (n : ℕ) → passed_between all 0 n ≡ passed_in (take n all)
passed_is all n = ap (λ k. sum_by time_of (take k all)) (omega arith)

-- where an event lies behind as many lines as are done, all lines and these begin alike
front_is : (done more : List BlockLine) (n : ℕ) → n ≤ length done → take n (done ++ more) ≡ take n done
front_is done more n le = take-append-le n done more le

index_is : (done more : List BlockLine) (index : ℕ) (b : Bracket) → slice_get (brackets_of (marks_of (done ++ more))) index ≡ Some b → b.opened ≤ length done → opened_by (take b.opened done) ≡ index
index_is done more index b there le =
    let stands = standing 0 (marks_of (done ++ more)) index b there in
    let same : b.opened - 0 ≡ b.opened = omega arith in
    opened_is (take b.opened done)
    ∙ (ap (λ (lines : List BlockLine). opens (marks_of lines)) (sym (front_is done more b.opened le))
    ∙ (ap opens (sym (take_map b.opened (done ++ more))) ∙ (ap (λ n. opens (take n (marks_of (done ++ more)))) (sym same) ∙ sym stands.2)))

-- the event of a bracket that closes at a line has the facts that a session's steps tell there
measured_by : (events : List Event) (done : List BlockLine) (line : BlockLine) (more : List BlockLine) (numbers : Numbers) (index : ℕ) (b : Bracket) (event : Event)
    → AreEvents (done ++ line ∷ more) events → slice_get events index ≡ Some event → bracket_of event ≡ b → b.closed ≡ Some (length done) → b.opened ≤ length done
    → session_numbers b.kind numbers ≡ numbers_in (numbers_for b.kind (numbers_on line))
    → IsMeasured (passed_in done % 2 ^ 64) numbers (going_at done (record { place = b.opened; kind = b.kind })) (facts_of event)
measured_by events done line more numbers index b event are at is closed le same = record {
  duration = ap (λ (lasted : Option ℕ). unwrap_or lasted 0 % 2 ^ 64) lasts.1 ∙ (wraps (2 ^ 64) start lasts.0 (lit< tt) ∙ ap (λ n. (n % 2 ^ 64 + (2 ^ 64 - start % 2 ^ 64)) % 2 ^ 64) ends);
  lock = ap (λ (n : StatementNumbers). n.lock) told ∙ sym (ap (λ (n : Numbers). n.lock) same);
  errors = ap (λ (n : StatementNumbers). n.errors) told ∙ sym (ap (λ (n : Numbers). n.errors) same);
  warnings = ap (λ (n : StatementNumbers). n.warnings) told ∙ sym (ap (λ (n : Numbers). n.warnings) same);
  affected = ap (λ (n : StatementNumbers). n.affected) told ∙ sym (ap (λ (n : Numbers). n.affected) same);
  sent = ap (λ (n : StatementNumbers). n.sent) told ∙ sym (ap (λ (n : Numbers). n.sent) same);
  examined = ap (λ (n : StatementNumbers). n.examined) told ∙ sym (ap (λ (n : Numbers). n.examined) same);
}
  where
    all : List BlockLine
    all = done ++ line ∷ more

    start : ℕ
    start = passed_in (take b.opened done)

    event_closed : event.closed ≡ Some (length done)
    event_closed = ap (λ (one : Bracket). one.closed) is ∙ closed

    lasts : (lasted : ℕ) × (event.lasted ≡ Some lasted) × (event.clock + lasted ≡ passed_between all 0 (length done))
    lasts = are.lasts index event (length done) at event_closed

    begins : event.clock ≡ start
    begins = are.clock index event at ∙ (passed_is all event.opened ∙ (ap (λ (one : Bracket). passed_in (take one.opened all)) is ∙ ap passed_in (front_is done (line ∷ more) b.opened le)))

    ends : start + lasts.0 ≡ passed_in done
    ends = ap (λ n. n + lasts.0) (sym begins) ∙ (lasts.2 ∙ (passed_is all (length done) ∙ ap passed_in (take-append_seam done (line ∷ more))))

    told : event.numbers ≡ numbers_for b.kind (numbers_on line)
    told = are.numbers index event at ∙ (ap (λ (c : Option ℕ). numbers_at all event.subject.kind c) event_closed
        ∙ (ap (λ (l : BlockLine). numbers_for event.subject.kind (numbers_on l)) (get_or-append_seam done line more said.Done) ∙ ap (λ (one : Bracket). numbers_for one.kind (numbers_on line)) is))

found_by : (events : List Event) (done : List BlockLine) (line : BlockLine) (more : List BlockLine) (numbers : Numbers) (index : ℕ) (b : Bracket) (found : Option Event)
    → AreEvents (done ++ line ∷ more) events → slice_get events index ≡ found → option_map bracket_of found ≡ Some b → b.closed ≡ Some (length done) → b.opened ≤ length done
    → session_numbers b.kind numbers ≡ numbers_in (numbers_for b.kind (numbers_on line))
    → IsMeasured (passed_in done % 2 ^ 64) numbers (going_at done (record { place = b.opened; kind = b.kind })) (facts_if found)
found_by events done line more numbers index b None are at is closed le same = cc
found_by events done line more numbers index b (Some event) are at is closed le same = measured_by events done line more numbers index b event are at (cc) closed le same

-- an open event that the line closes
pub measured : (events : List Event) (done : List BlockLine) (line : BlockLine) (more : List BlockLine) (numbers : Numbers) (opening : Opening)
    → AreEvents (done ++ line ∷ more) events → IsClosed (marks_of (done ++ line ∷ more)) (length done) opening → opening.place ≤ length done
    → session_numbers opening.kind numbers ≡ numbers_in (numbers_for opening.kind (numbers_on line))
    → IsMeasured (passed_in done % 2 ^ 64) numbers (going_at done opening) (facts_if (slice_get events (going_at done opening).index))
measured events done line more numbers opening are shut le same =
    let b = shut.bracket in
    let place_is : b.opened ≡ opening.place = ap (λ (one : Opening). one.place) shut.is in
    let below : b.opened ≤ length done = subst (λ n. n ≤ length done) (sym place_is) le in
    let kind_is : opening.kind ≡ b.kind = sym (ap (λ (one : Opening). one.kind) shut.is) in
    let numbers_are : session_numbers b.kind numbers ≡ numbers_in (numbers_for b.kind (numbers_on line)) =
    subst (λ (kind : EventKind). session_numbers kind numbers ≡ numbers_in (numbers_for kind (numbers_on line))) kind_is same in
    let found : option_map bracket_of (slice_get events shut.index) ≡ Some b =
    sym (slice_get-map bracket_of events shut.index) ∙ (ap (λ (brackets : List Bracket). slice_get brackets shut.index) are.brackets ∙ shut.there) in
    let here : IsMeasured (passed_in done % 2 ^ 64) numbers (going_at done (record { place = b.opened; kind = b.kind })) (facts_if (slice_get events shut.index)) =
    found_by events done line more numbers shut.index b (slice_get events shut.index) are refl found shut.closed below numbers_are in
    let place_there : IsMeasured (passed_in done % 2 ^ 64) numbers (going_at done opening) (facts_if (slice_get events shut.index)) =
    subst (λ (one : Opening). IsMeasured (passed_in done % 2 ^ 64) numbers (going_at done one) (facts_if (slice_get events shut.index))) shut.is here in
    subst (λ n. IsMeasured (passed_in done % 2 ^ 64) numbers (going_at done opening) (facts_if (slice_get events n)))
    (sym (ap (λ n. opened_by (take n done)) (sym place_is) ∙ index_is done (line ∷ more) shut.index b shut.there below)) place_there

-- the line that opens an event has the bracket behind those that opened before it
bracket_here : (place : ℕ) (before : List Mark) (kind : EventKind) (behind : List Mark)
    → slice_get (brackets_from place (before ++ Opens kind ∷ behind)) (opens before) ≡ Some (record { opened = place + length before; kind = kind; closed = closing_from (place + length before + 1) kind 0 behind })
unfolding brackets_from
bracket_here place [] kind behind =
    let same : place ≡ place + 0 = omega arith in
    ap (λ n. Some (record { opened = n; kind = kind; closed = closing_from (n + 1) kind 0 behind })) same
bracket_here place (Opens other ∷ before) kind behind =
    bracket_here (place + 1) before kind behind ∙ ap (λ n. Some (record { opened = n; kind = kind; closed = closing_from (n + 1) kind 0 behind })) (omega arith)
bracket_here place (Ends ∷ before) kind behind =
    bracket_here (place + 1) before kind behind ∙ ap (λ n. Some (record { opened = n; kind = kind; closed = closing_from (n + 1) kind 0 behind })) (omega arith)
bracket_here place (EndsStage ∷ before) kind behind =
    bracket_here (place + 1) before kind behind ∙ ap (λ n. Some (record { opened = n; kind = kind; closed = closing_from (n + 1) kind 0 behind })) (omega arith)
bracket_here place (Passes ∷ before) kind behind =
    bracket_here (place + 1) before kind behind ∙ ap (λ n. Some (record { opened = n; kind = kind; closed = closing_from (n + 1) kind 0 behind })) (omega arith)

started_by : (events : List Event) (done : List BlockLine) (line : BlockLine) (more : List BlockLine) (index : ℕ) (place : ℕ) (closed : Option ℕ) (kind : EventKind) (found : Option Event)
    → AreEvents (done ++ line ∷ more) events → slice_get events index ≡ found → option_map bracket_of found ≡ Some (record { opened = place; kind = kind; closed = closed }) → place ≡ length done
    → (facts_if found).start ≡ passed_in done % 2 ^ 64
started_by events done line more index place closed kind None are at is here = cc
started_by events done line more index place closed kind (Some event) are at is here =
    let same : bracket_of event ≡ record { opened = place; kind = kind; closed = closed } = cc in
    let all = done ++ line ∷ more in
    ap (λ n. n % 2 ^ 64) (are.clock index event at ∙ (passed_is all event.opened
    ∙ (ap (λ (one : Bracket). passed_in (take one.opened all)) same ∙ (ap (λ n. passed_in (take n all)) here ∙ ap passed_in (take-append_seam done (line ∷ more))))))

-- the event that a line opens starts at the clock there
started : (events : List Event) (done : List BlockLine) (line : BlockLine) (more : List BlockLine) (kind : EventKind) → AreEvents (done ++ line ∷ more) events → mark_of line ≡ Opens kind
    → (facts_if (slice_get events (opened_by done))).start ≡ passed_in done % 2 ^ 64
started events done line more kind are opening =
    let marks : marks_of (done ++ line ∷ more) ≡ marks_of done ++ Opens kind ∷ marks_of more =
    map-append mark_of done (line ∷ more) ∙ ap (λ (mark : Mark). marks_of done ++ mark ∷ marks_of more) opening in
    let there = ap (λ (all : List Mark). slice_get (brackets_of all) (opens (marks_of done))) marks ∙ bracket_here 0 (marks_of done) kind (marks_of more) in
    let at = sym (slice_get-map bracket_of events (opens (marks_of done))) ∙ (ap (λ (brackets : List Bracket). slice_get brackets (opens (marks_of done))) are.brackets ∙ there) in
    let here : 0 + length (marks_of done) ≡ length done = omega (arith, length-map done mark_of) in
    ap (λ n. (facts_if (slice_get events n)).start) (opened_is done)
    ∙ started_by events done line more (opens (marks_of done)) (0 + length (marks_of done)) _ kind (slice_get events (opens (marks_of done))) are refl at here

-- what steps tell where these events are open behind lines
abbrev now : List BlockLine → List Opening → Clocked
now done open_there = record {
  clock = passed_in done % 2 ^ 64;
  begun = opened_by done;
  going = map (going_at done) open_there;
}

abbrev Below : List BlockLine → List Opening → Type 0
Below done open_there = Each (λ opening. opening.place < length (marks_of done)) open_there

going_same : (done : List BlockLine) (line : BlockLine) (opening : Opening) → opening.place ≤ length done → going_at (done ++ line ∷ []) opening ≡ going_at done opening
going_same done line opening le =
    ap (λ (lines : List BlockLine). record { index = opened_by lines; kind = opening.kind; start = passed_in lines % 2 ^ 64 }) (front_is done (line ∷ []) opening.place le)

goings_same : (done : List BlockLine) (line : BlockLine) (open_there : List Opening) → Below done open_there → map (going_at (done ++ line ∷ [])) open_there ≡ map (going_at done) open_there
goings_same done line [] below = refl
goings_same done line (opening ∷ others) below =
    let le : opening.place ≤ length done = omega (arith, below.0, length-map done mark_of) in
    ap (λ (one : Going). one ∷ map (going_at (done ++ line ∷ [])) others) (going_same done line opening le)
    ∙ ap (λ (rest : List Going). going_at done opening ∷ rest) (goings_same done line others below.1)

newest : (done : List BlockLine) (line : BlockLine) (kind : EventKind)
    → going_at (done ++ line ∷ []) (record { place = length (marks_of done); kind = kind }) ≡ record { index = opened_by done; kind = kind; start = passed_in done % 2 ^ 64 }
newest done line kind =
    ap (λ (lines : List BlockLine). record { index = opened_by lines; kind = kind; start = passed_in lines % 2 ^ 64 })
    (ap (λ n. take n (done ++ line ∷ [])) (length-map done mark_of) ∙ take-append_seam done (line ∷ []))

-- behind one line more
tracks_more : (done : List BlockLine) (line : BlockLine) (before : List Opening) (clocked : Clocked) → open_in (marks_of done) ≡ before
    → clocked.clock ≡ (passed_in done + time_of line) % 2 ^ 64 → clocked.begun ≡ opened_by done + opens (mark_of line ∷ [])
    → clocked.going ≡ map (going_at (done ++ line ∷ [])) (after (length (marks_of done)) (mark_of line) before) → Tracks (done ++ line ∷ []) clocked
tracks_more done line before clocked there clock begun going =
    let marks : marks_of (done ++ line ∷ []) ≡ marks_of done ++ mark_of line ∷ [] = map-append mark_of done (line ∷ []) in
    let behind : after (length (marks_of done)) (mark_of line) before ≡ open_in (marks_of (done ++ line ∷ [])) =
    sym (ap open_in marks ∙ (open_more (marks_of done) (mark_of line) ∙ ap (λ (os : List Opening). after (length (marks_of done)) (mark_of line) os) there)) in
    record {
      clock = clock ∙ ap (λ n. n % 2 ^ 64) (sym (passed_more done line));
      begun = begun ∙ sym (opened_more done line);
      going = going ∙ ap (λ (os : List Opening). map (going_at (done ++ line ∷ [])) os) behind;
    }

abbrev pub facts_by : List Event → ℕ → Facts
facts_by events index = facts_if (slice_get events index)

-- a line whose steps start an event where the rest is open
start_told : (events : List Event) (done : List BlockLine) (line : BlockLine) (more : List BlockLine) (subject : Subject) (before rest : List Opening)
    → AreEvents (done ++ line ∷ more) events → open_in (marks_of done) ≡ before → Below done rest → mark_of line ≡ Opens subject.kind
    → after (length (marks_of done)) (mark_of line) before ≡ record { place = length (marks_of done); kind = subject.kind } ∷ rest → time_of line ≡ 0
    → AreFacts (facts_by events) (now done rest) (StartsEvent subject ∷ []) × Tracks (done ++ line ∷ []) (all_stepped (now done rest) (StartsEvent subject ∷ []))
start_told events done line more subject before rest are there below opening behind quiet = (
  (started events done line more subject.kind are opening, tt),
  tracks_more done line before (all_stepped (now done rest) (StartsEvent subject ∷ [])) there
      (ap (λ n. n % 2 ^ 64) (omega (arith, quiet)))
      (ap (λ n. opened_by done + n) (sym (ap (λ (mark : Mark). opens (mark ∷ [])) opening)))
      (sym (ap (λ (os : List Opening). map (going_at (done ++ line ∷ [])) os) behind
      ∙ (ap (λ (one : Going). one ∷ map (going_at (done ++ line ∷ [])) rest) (newest done line subject.kind)
      ∙ ap (λ (others : List Going). record { index = opened_by done; kind = subject.kind; start = passed_in done % 2 ^ 64 } ∷ others) (goings_same done line rest below)))),
)

-- a line behind whose ends the rest is open, and which starts nothing
rest_told : (done : List BlockLine) (line : BlockLine) (before rest : List Opening) → open_in (marks_of done) ≡ before → Below done rest
    → after (length (marks_of done)) (mark_of line) before ≡ rest → opens (mark_of line ∷ []) ≡ 0 → time_of line ≡ 0 → Tracks (done ++ line ∷ []) (now done rest)
rest_told done line before rest there below behind none quiet =
    tracks_more done line before (now done rest) there (ap (λ n. n % 2 ^ 64) (omega (arith, quiet))) (omega (arith, none))
    (sym (ap (λ (os : List Opening). map (going_at (done ++ line ∷ [])) os) behind ∙ goings_same done line rest below))

le_done : (done : List BlockLine) (opening : Opening) → opening.place < length (marks_of done) → opening.place ≤ length done
le_done done opening below = omega (arith, length-map done mark_of)

-- what is told where these events are open
abbrev Tells : List Event → List BlockLine → BlockLine → List Opening → List Step → Type 0
Tells events done line before steps = AreFacts (facts_by events) (now done before) steps × Tracks (done ++ line ∷ []) (all_stepped (now done before) steps)

-- those that close at a place, behind lines
abbrev Shut : List BlockLine → BlockLine → List BlockLine → ℕ → List Opening → Type 0
Shut done line more count before = Each (IsClosed (marks_of (done ++ line ∷ more)) (length done)) (take count before)

-- the numbers of a stage are none
stage_numbers : (line : BlockLine) → session_numbers Stage nothing ≡ numbers_in (numbers_for Stage (numbers_on line))
stage_numbers line = refl

-- an end ends the innermost event, and its statement too where that is a stage
ends_by : (events : List Event) (done : List BlockLine) (line : BlockLine) (more : List BlockLine) (numbers : Numbers) (place : ℕ) (kind : EventKind) (others : List Opening)
    → AreEvents (done ++ line ∷ more) events → mark_of line ≡ Ends → time_of line ≡ 0 → ((one : EventKind) → session_numbers one numbers ≡ numbers_in (numbers_for one (numbers_on line)))
    → open_in (marks_of done) ≡ record { place = place; kind = kind } ∷ others → Below done (record { place = place; kind = kind } ∷ others)
    → Shut done line more (ended_by Ends (kind ∷ kinds_of others)) (record { place = place; kind = kind } ∷ others)
    → Tells events done line (record { place = place; kind = kind } ∷ others) (stage_ends_in (kind ∷ kinds_of others) ++ EndsEvent numbers ∷ [])
ends_by events done line more numbers place Stage [] are mark quiet same there below shut = (
  (measured events done line more nothing (record { place = place; kind = Stage }) are shut.0 (le_done done (record { place = place; kind = Stage }) below.0) (stage_numbers line), (tt, tt)),
  rest_told done line (record { place = place; kind = Stage } ∷ []) [] there tt (ap (λ (m : Mark). after (length (marks_of done)) m (record { place = place; kind = Stage } ∷ [])) mark) (ap (λ (m : Mark). opens (m ∷ [])) mark) quiet,
)
ends_by events done line more numbers place Stage (next ∷ others) are mark quiet same there below shut = (
  (
    measured events done line more nothing (record { place = place; kind = Stage }) are shut.0 (le_done done (record { place = place; kind = Stage }) below.0) (stage_numbers line),
    (measured events done line more numbers next are shut.1.0 (le_done done next below.1.0) (same next.kind), tt),
  ),
  rest_told done line (record { place = place; kind = Stage } ∷ next ∷ others) others there below.1.1 (ap (λ (m : Mark). after (length (marks_of done)) m (record { place = place; kind = Stage } ∷ next ∷ others)) mark)
      (ap (λ (m : Mark). opens (m ∷ [])) mark) quiet,
)
ends_by events done line more numbers place Wait others are mark quiet same there below shut = (
  (measured events done line more numbers (record { place = place; kind = Wait }) are shut.0 (le_done done (record { place = place; kind = Wait }) below.0) (same Wait), tt),
  rest_told done line (record { place = place; kind = Wait } ∷ others) others there below.1 (ap (λ (m : Mark). after (length (marks_of done)) m (record { place = place; kind = Wait } ∷ others)) mark) (ap (λ (m : Mark). opens (m ∷ [])) mark) quiet,
)
ends_by events done line more numbers place Statement others are mark quiet same there below shut = (
  (measured events done line more numbers (record { place = place; kind = Statement }) are shut.0 (le_done done (record { place = place; kind = Statement }) below.0) (same Statement), tt),
  rest_told done line (record { place = place; kind = Statement } ∷ others) others there below.1 (ap (λ (m : Mark). after (length (marks_of done)) m (record { place = place; kind = Statement } ∷ others)) mark) (ap (λ (m : Mark). opens (m ∷ [])) mark) quiet,
)
ends_by events done line more numbers place Transaction others are mark quiet same there below shut = (
  (measured events done line more numbers (record { place = place; kind = Transaction }) are shut.0 (le_done done (record { place = place; kind = Transaction }) below.0) (same Transaction), tt),
  rest_told done line (record { place = place; kind = Transaction } ∷ others) others there below.1 (ap (λ (m : Mark). after (length (marks_of done)) m (record { place = place; kind = Transaction } ∷ others)) mark) (ap (λ (m : Mark). opens (m ∷ [])) mark) quiet,
)

ends_told : (events : List Event) (done : List BlockLine) (line : BlockLine) (more : List BlockLine) (numbers : Numbers) (before : List Opening)
    → AreEvents (done ++ line ∷ more) events → mark_of line ≡ Ends → time_of line ≡ 0 → ((one : EventKind) → session_numbers one numbers ≡ numbers_in (numbers_for one (numbers_on line)))
    → open_in (marks_of done) ≡ before → Below done before → Shut done line more (ended_by Ends (kinds_of before)) before → Tells events done line before (stage_ends_in (kinds_of before) ++ EndsEvent numbers ∷ [])
ends_told events done line more numbers [] are mark quiet same there below shut = (
  (tt, tt),
  rest_told done line [] [] there tt (ap (λ (m : Mark). after (length (marks_of done)) m []) mark) (ap (λ (m : Mark). opens (m ∷ [])) mark) quiet,
)
ends_told events done line more numbers (opening ∷ others) are mark quiet same there below shut = ends_by events done line more numbers opening.place opening.kind others are mark quiet same there below shut

-- a stage line ends the open stage, and may start another
stage_end_by : (events : List Event) (done more : List BlockLine) (place : ℕ) (kind : EventKind) (others : List Opening)
    → AreEvents (done ++ said.StageEnd ∷ more) events → open_in (marks_of done) ≡ record { place = place; kind = kind } ∷ others → Below done (record { place = place; kind = kind } ∷ others)
    → Shut done said.StageEnd more (ended_by EndsStage (kind ∷ kinds_of others)) (record { place = place; kind = kind } ∷ others)
    → Tells events done said.StageEnd (record { place = place; kind = kind } ∷ others) (stage_ends_in (kind ∷ kinds_of others))
stage_end_by events done more place Stage others are there below shut = (
  (measured events done said.StageEnd more nothing (record { place = place; kind = Stage }) are shut.0 (le_done done (record { place = place; kind = Stage }) below.0) refl, tt),
  rest_told done said.StageEnd (record { place = place; kind = Stage } ∷ others) others there below.1 refl refl refl,
)
stage_end_by events done more place Wait others are there below shut = (tt, rest_told done said.StageEnd (record { place = place; kind = Wait } ∷ others) (record { place = place; kind = Wait } ∷ others) there below refl refl refl)
stage_end_by events done more place Statement others are there below shut = (tt, rest_told done said.StageEnd (record { place = place; kind = Statement } ∷ others) (record { place = place; kind = Statement } ∷ others) there below refl refl refl)
stage_end_by events done more place Transaction others are there below shut = (tt, rest_told done said.StageEnd (record { place = place; kind = Transaction } ∷ others) (record { place = place; kind = Transaction } ∷ others) there below refl refl refl)

stage_end_told : (events : List Event) (done more : List BlockLine) (before : List Opening) → AreEvents (done ++ said.StageEnd ∷ more) events → open_in (marks_of done) ≡ before → Below done before
    → Shut done said.StageEnd more (ended_by EndsStage (kinds_of before)) before → Tells events done said.StageEnd before (stage_ends_in (kinds_of before))
stage_end_told events done more [] are there below shut = (tt, rest_told done said.StageEnd [] [] there tt refl refl refl)
stage_end_told events done more (opening ∷ others) are there below shut = stage_end_by events done more opening.place opening.kind others are there below shut

stage_by : (events : List Event) (done more : List BlockLine) (class : ClassRef) (place : ℕ) (kind : EventKind) (others : List Opening)
    → AreEvents (done ++ said.Stage class ∷ more) events → open_in (marks_of done) ≡ record { place = place; kind = kind } ∷ others → Below done (record { place = place; kind = kind } ∷ others)
    → Shut done (said.Stage class) more (ended_by (Opens Stage) (kind ∷ kinds_of others)) (record { place = place; kind = kind } ∷ others)
    → Tells events done (said.Stage class) (record { place = place; kind = kind } ∷ others) (stage_ends_in (kind ∷ kinds_of others) ++ StartsEvent (stage_on class) ∷ [])
stage_by events done more class place Stage others are there below shut =
    let start = start_told events done (said.Stage class) more (stage_on class) (record { place = place; kind = Stage } ∷ others) others are there below.1 refl refl refl in
    ((measured events done (said.Stage class) more nothing (record { place = place; kind = Stage }) are shut.0 (le_done done (record { place = place; kind = Stage }) below.0) refl, start.0), start.1)
stage_by events done more class place Wait others are there below shut = start_told events done (said.Stage class) more (stage_on class) (record { place = place; kind = Wait } ∷ others) (record { place = place; kind = Wait } ∷ others) are there below refl refl refl
stage_by events done more class place Statement others are there below shut =
    start_told events done (said.Stage class) more (stage_on class) (record { place = place; kind = Statement } ∷ others) (record { place = place; kind = Statement } ∷ others) are there below refl refl refl
stage_by events done more class place Transaction others are there below shut =
    start_told events done (said.Stage class) more (stage_on class) (record { place = place; kind = Transaction } ∷ others) (record { place = place; kind = Transaction } ∷ others) are there below refl refl refl

stage_told : (events : List Event) (done more : List BlockLine) (class : ClassRef) (before : List Opening) → AreEvents (done ++ said.Stage class ∷ more) events → open_in (marks_of done) ≡ before → Below done before
    → Shut done (said.Stage class) more (ended_by (Opens Stage) (kinds_of before)) before → Tells events done (said.Stage class) before (stage_ends_in (kinds_of before) ++ StartsEvent (stage_on class) ∷ [])
stage_told events done more class [] are there below shut = start_told events done (said.Stage class) more (stage_on class) [] [] are there below refl refl refl
stage_told events done more class (opening ∷ others) are there below shut = stage_by events done more class opening.place opening.kind others are there below shut

none_same : (kind : EventKind) → session_numbers kind nothing ≡ numbers_in (numbers_for kind no_numbers)
none_same Wait = refl
none_same Stage = refl
none_same Statement = refl
none_same Transaction = refl

numbers_same : (numbers : StatementNumbers) (kind : EventKind) → session_numbers kind (numbers_in numbers) ≡ numbers_in (numbers_for kind numbers)
numbers_same numbers Wait = refl
numbers_same numbers Stage = refl
numbers_same numbers Statement = refl
numbers_same numbers Transaction = refl

quiet_told : (events : List Event) (done : List BlockLine) (line : BlockLine) (before : List Opening) → open_in (marks_of done) ≡ before → Below done before → mark_of line ≡ Passes → time_of line ≡ 0
    → Tells events done line before []
quiet_told events done line before there below passes quiet =
    (tt, rest_told done line before before there below (ap (λ (m : Mark). after (length (marks_of done)) m before) passes) (ap (λ (m : Mark). opens (m ∷ [])) passes) quiet)

told : (events : List Event) (done : List BlockLine) (line : BlockLine) (more : List BlockLine) (before : List Opening) → AreEvents (done ++ line ∷ more) events → open_in (marks_of done) ≡ before → Below done before
    → Shut done line more (ended_by (mark_of line) (kinds_of before)) before → Tells events done line before (steps_on (kinds_of before) line)
told events done (said.Wait class) more before are there below shut = start_told events done (said.Wait class) more (wait_on class None) before before are there below refl refl refl
told events done (said.TableWait class table) more before are there below shut = start_told events done (said.TableWait class table) more (wait_on class (Some table)) before before are there below refl refl refl
told events done (said.Statement class digest) more before are there below shut = start_told events done (said.Statement class digest) more (statement_on class digest) before before are there below refl refl refl
told events done (said.Transaction access) more before are there below shut = start_told events done (said.Transaction access) more (transaction_on access) before before are there below refl refl refl
told events done (said.Stage class) more before are there below shut = stage_told events done more class before are there below shut
told events done said.StageEnd more before are there below shut = stage_end_told events done more before are there below shut
told events done (said.Spend time) more before are there below shut = (
  (tt, tt),
  tracks_more done (said.Spend time) before (all_stepped (now done before) (Spends time ∷ [])) there (mod-add-mod (passed_in done) (2 ^ 64) time) (omega arith) (sym (goings_same done (said.Spend time) before below)),
)
told events done said.End more before are there below shut = ends_told events done said.End more nothing before are refl refl none_same there below shut
told events done (said.EndStatement numbers) more before are there below shut = ends_told events done (said.EndStatement numbers) more (numbers_in numbers) before are refl refl (numbers_same numbers) there below shut
told events done said.Quit more before are there below shut = quiet_told events done said.Quit before there below refl refl
told events done (said.Sql text) more before are there below shut = quiet_told events done (said.Sql text) before there below refl refl
told events done (said.Repeat times) more before are there below shut = quiet_told events done (said.Repeat times) before there below refl refl
told events done said.Done more before are there below shut = quiet_told events done said.Done before there below refl refl

-- the laws
pub first : FirstLaw
first = record { clock = refl; begun = sym (opened_is []); going = sym (ap (λ (os : List Opening). map (going_at []) os) (open_is_run [])) }

shut_there : (done : List BlockLine) (line : BlockLine) (more : List BlockLine) → Shut done line more (ended_by (mark_of line) (kinds_of (open_in (marks_of done)))) (open_in (marks_of done))
shut_there done line more =
    let marks : marks_of (done ++ line ∷ more) ≡ marks_of done ++ mark_of line ∷ marks_of more = map-append mark_of done (line ∷ more) in
    let closed : closed_at (marks_of (done ++ line ∷ more)) (length done) ≡ take (ended_by (mark_of line) (kinds_of (open_in (marks_of done)))) (open_in (marks_of done)) =
    ap (λ (all : List Mark). closed_at all (length done)) marks
    ∙ (ap (λ n. closed_at (marks_of done ++ mark_of line ∷ marks_of more) n) (sym (length-map done mark_of)) ∙ closed_by (marks_of done) (mark_of line) (marks_of more)) in
    subst (Each (IsClosed (marks_of (done ++ line ∷ more)) (length done))) closed (closing (marks_of (done ++ line ∷ more)) (length done))

pub line_law : LineLaw
line_law = λ events done line more clocked are tracks.
    let same : now done (open_in (marks_of done)) ≡ clocked = λ i. record { clock = sym tracks.clock i; begun = sym tracks.begun i; going = sym tracks.going i } in
    let said_there = told events done line more (open_in (marks_of done)) are refl (open_below (marks_of done)) (shut_there done line more) in
    subst (IsTold events done line) same (record { facts = said_there.0; tracks = said_there.1 })
