-- The facts of events by the moments at which they open and close.
use Rattle.std.proofs.Common.{◌≡◌, refl, ℕ, zero, suc, ◌+◌, ◌-◌, ◌*◌, ◌/◌, ◌%◌, ◌^◌, ◌<◌, ◌≤◌, Bool, true, false, cond, List, [], ◌∷◌, ◌++◌, length, map, take, drop, sym, ◌∙◌, ap, subst, append_assoc, lit<, arith, Option, Some, None}
use Rattle.std.specs.Prelude.{option_map}
use Rattle.std.specs.List.{flat_map, sum_by}
use Rattle.std.proofs.Math.Nat.{mod-add-mod, mod-lt, add-mul-mod_self_right}
use Rattle.std.proofs.Math.Seq.{get_or-append_seam, take-add, take-append_seam}
use Rattle.std.proofs.lemmas.List.{length-append}
use Rattle.std.proofs.lemmas.List.Sums.{sum_by-append}
use Rattle.std.proofs.lemmas.Nat.{div-add-mod'}
use Rattle.pfs_event.specs.declared.kind.EventKind.{EventKind}
use Rattle.pfs_model.specs.Contents.{Facts}
use Rattle.pfs_runs.specs.ScriptLines.{facts_of}
use Rattle.pfs_script.specs.declared.blocks.BlockLine.{BlockLine}
use Rattle.pfs_script.specs.declared.blocks.BlockLine.TheVariants as lines
use Rattle.pfs_script.specs.declared.blocks.StatementNumbers.{StatementNumbers}
use Rattle.pfs_script.specs.Brackets.{Bracket, brackets_from, closes, closing_from, depth_behind}
use Rattle.pfs_script.specs.Events.{Event, Subject, as_list, event_of, events_of, line_at, numbers_for, numbers_on, passed_between, subject_of, time_of}
use Rattle.pfs_script.specs.Marks.{Mark, Opens, Ends, EndsStage, Passes, mark_of}
use Rattle.pfs_check_facts.specs.declared.moments.Moment.{Moment}
use Rattle.pfs_check_facts.specs.declared.moments.Turn.TheVariants as turns
use Rattle.pfs_check_facts.specs.Closings.{closing_in, facts_along, facts_between}
use Rattle.pfs_check_facts.specs.Moments.{moment_with, moments_from, turn_in}
use Rattle.pfs_check_facts.specs.SessionFacts.{facts_told}

-- clocks that go round at a width
wraps : (width start lasted : ℕ) → 0 < width → ((start + lasted) % width + (width - start % width)) % width ≡ lasted % width
wraps width start lasted some =
    let parts : start / width * width + start % width ≡ start = div-add-mod' start width in
    let below : start % width < width = mod-lt start some in
    let whole : (start + lasted) + (width - start % width) ≡ lasted + (start / width + 1) * width = omega (arith, parts, below) in
    mod-add-mod (start + lasted) width (width - start % width) ∙ (ap (λ n. n % width) whole ∙ add-mul-mod_self_right lasted (start / width + 1) width)

-- times add up
passed_front : (all : List BlockLine) (n : ℕ) → passed_between all 0 n ≡ sum_by time_of (take n all)
passed_front all n = ap (λ k. sum_by time_of (take k all)) (omega arith)

times_join : (all : List BlockLine) (opened closed : ℕ) → opened ≤ closed → passed_between all 0 opened + passed_between all opened closed ≡ passed_between all 0 closed
times_join all opened closed le =
    let split : take closed all ≡ take opened all ++ take (closed - opened) (drop opened all) = ap (λ n. take n all) (omega arith) ∙ take-add opened (closed - opened) all in
    ap {B = ℕ} (λ n. n + passed_between all opened closed) (passed_front all opened)
    ∙ (sym (sum_by-append time_of (take opened all) (take (closed - opened) (drop opened all))) ∙ (ap (sum_by time_of) (sym split) ∙ sym (passed_front all closed)))

-- a place of these lines: behind those before it, with the clock there
record IsAt (all before rest : List BlockLine) (place clock : ℕ) : Type 0 where
  all_is : all ≡ before ++ rest
  place_is : place ≡ length before
  clock_is : clock ≡ sum_by time_of before

next_at : (all before rest : List BlockLine) (line : BlockLine) (place clock : ℕ) → IsAt all before (line ∷ rest) place clock
    → IsAt all (before ++ line ∷ []) rest (place + 1) (clock + time_of line)
next_at all before rest line place clock at = record {
  all_is = at.all_is ∙ sym (append_assoc before (line ∷ []) rest);
  place_is = omega (arith, at.place_is, length-append before (line ∷ []));
  clock_is = let more : sum_by time_of (before ++ line ∷ []) ≡ sum_by time_of before + (0 + time_of line) = sum_by-append time_of before (line ∷ []) in omega (arith, at.clock_is, more);
}

line_here : (all before rest : List BlockLine) (line : BlockLine) (place clock : ℕ) → IsAt all before (line ∷ rest) place clock → line_at all place ≡ line
line_here all before rest line place clock at =
    ap (λ n. line_at all n) at.place_is ∙ (ap (λ ls. line_at ls (length before)) at.all_is ∙ get_or-append_seam before line rest lines.Done)

passed_here : (all before rest : List BlockLine) (place clock : ℕ) → IsAt all before rest place clock → passed_between all 0 place ≡ clock
passed_here all before rest place clock at =
    passed_front all place ∙ ap (λ n. sum_by time_of (take n all)) at.place_is
    ∙ ap (λ ls. sum_by time_of (take (length before) ls)) at.all_is ∙ ap (sum_by time_of) (take-append_seam before rest) ∙ sym at.clock_is

-- a bracket and a moment close at the same line, from a place on
abbrev IsClosing : List BlockLine → ℕ → Option ℕ → Option Moment → Type 0
IsClosing all from None None = Unit {0}
IsClosing all from None (Some moment) = ⊥
IsClosing all from (Some at) None = ⊥
IsClosing all from (Some at) (Some moment) = (from ≤ at) × (moment.clock ≡ passed_between all 0 at % 2 ^ 64) × (moment.numbers ≡ numbers_on (line_at all at))

earlier : (all : List BlockLine) (from : ℕ) (closed : Option ℕ) (closing : Option Moment) → IsClosing all (from + 1) closed closing → IsClosing all from closed closing
earlier all from None None h = h
earlier all from None (Some moment) h = h
earlier all from (Some at) None h = h
earlier all from (Some at) (Some moment) h = (omega (arith, h.0), h.1, h.2)

by_test : (all : List BlockLine) (place : ℕ) (moment : Moment) (closed : Option ℕ) (closing : Option Moment) → moment.clock ≡ passed_between all 0 place % 2 ^ 64
    → moment.numbers ≡ numbers_on (line_at all place) → IsClosing all (place + 1) closed closing → (test : Bool)
    → IsClosing all place (cond test (Some place) closed) (cond test (Some moment) closing)
by_test all place moment closed closing clock numbers rest true = (omega arith, clock, numbers)
by_test all place moment closed closing clock numbers rest false = earlier all place closed closing rest

never_passes : (kind : EventKind) (depth : ℕ) → closes kind depth Passes ≡ false
never_passes kind zero = refl
never_passes kind (suc depth) = refl

closes_first : (all : List BlockLine) (place clock : ℕ) (kind : EventKind) (depth : ℕ) (line : BlockLine) (rest : List BlockLine) (mark : Mark)
    → clock % 2 ^ 64 ≡ passed_between all 0 place % 2 ^ 64 → numbers_on line ≡ numbers_on (line_at all place)
    → IsClosing all (place + 1) (closing_from (place + 1) kind (depth_behind mark depth) (map mark_of rest)) (closing_in kind (depth_behind mark depth) (moments_from (clock + time_of line) rest))
    → IsClosing all place (closing_from place kind depth (mark ∷ map mark_of rest))
    (closing_in kind depth (moment_with (clock % 2 ^ 64) line (turn_in mark) ++ moments_from (clock + time_of line) rest))
unfolding closing_from
closes_first all place clock kind depth line rest Passes c n next =
    let closed = closing_from (place + 1) kind depth (map mark_of rest) in
    let closing = closing_in kind depth (moments_from (clock + time_of line) rest) in
    subst (λ (b : Bool). IsClosing all place (cond b (Some place) closed) closing) (sym (never_passes kind depth)) (earlier all place closed closing next)
closes_first all place clock kind depth line rest (Opens other) c n next = by_test all place _ _ _ c n next (closes kind depth (Opens other))
closes_first all place clock kind depth line rest Ends c n next = by_test all place _ _ _ c n next (closes kind depth Ends)
closes_first all place clock kind depth line rest EndsStage c n next = by_test all place _ _ _ c n next (closes kind depth EndsStage)

closes_none : (all : List BlockLine) (place : ℕ) (kind : EventKind) (depth : ℕ) → IsClosing all place (closing_from place kind depth []) None
unfolding closing_from
closes_none all place kind depth = tt

closes_there : (all before rest : List BlockLine) (place clock : ℕ) (kind : EventKind) (depth : ℕ) → IsAt all before rest place clock
    → IsClosing all place (closing_from place kind depth (map mark_of rest)) (closing_in kind depth (moments_from clock rest))
closes_there all before [] place clock kind depth at = closes_none all place kind depth
closes_there all before (line ∷ rest) place clock kind depth at =
    closes_first all place clock kind depth line rest (mark_of line) (ap (λ n. n % 2 ^ 64) (sym (passed_here all before (line ∷ rest) place clock at)))
    (ap numbers_on (sym (line_here all before rest line place clock at)))
    (closes_there all (before ++ line ∷ []) rest (place + 1) (clock + time_of line) kind (depth_behind (mark_of line) depth) (next_at all before rest line place clock at))

-- a line that opens an event says of what
opens_subject : (line : BlockLine) (kind : EventKind) → mark_of line ≡ Opens kind → (subject : Subject) × (subject_of line ≡ Some subject) × (subject.kind ≡ kind)
opens_subject (lines.Wait class) kind e = (_, refl, cc)
opens_subject (lines.TableWait class table) kind e = (_, refl, cc)
opens_subject (lines.Statement class digest) kind e = (_, refl, cc)
opens_subject (lines.Transaction access) kind e = (_, refl, cc)
opens_subject (lines.Stage class) kind e = (_, refl, cc)
opens_subject _ kind e = cc

facts_same : (start duration : ℕ) (numbers : StatementNumbers) (other lasted : ℕ) (more : StatementNumbers) → start ≡ other → duration ≡ lasted → numbers ≡ more
    → facts_told (record { start = start; duration = duration; numbers = numbers }) ≡ facts_told (record { start = other; duration = lasted; numbers = more })
facts_same start duration numbers other lasted more s d n = λ i. facts_told (record { start = s i; duration = d i; numbers = n i })

-- an event's facts are the same by its bracket and by its moments
same_facts : (all : List BlockLine) (place clock : ℕ) (kind : EventKind) (moment : Moment) (subject : Subject) (closed : Option ℕ) (closing : Option Moment)
    → moment.clock ≡ clock % 2 ^ 64 → passed_between all 0 place ≡ clock → subject.kind ≡ kind → IsClosing all (place + 1) closed closing
    → facts_told (facts_between moment kind closing) ≡ facts_of (event_of all (record { opened = place; kind = kind; closed = closed }) subject)
same_facts all place clock kind moment subject None None m p k h =
    facts_same _ _ _ _ _ _ (m ∙ ap (λ n. n % 2 ^ 64) (sym p)) refl refl
same_facts all place clock kind moment subject None (Some closing) m p k h = absurd h
same_facts all place clock kind moment subject (Some at) None m p k h = absurd h
same_facts all place clock kind moment subject (Some at) (Some closing) m p k h =
    let joined : passed_between all 0 place + passed_between all place at ≡ passed_between all 0 at = times_join all place at (omega (arith, h.0)) in
    let starts : moment.clock ≡ passed_between all 0 place % 2 ^ 64 = m ∙ ap (λ n. n % 2 ^ 64) (sym p) in
    let lasts : (closing.clock + (2 ^ 64 - moment.clock)) % 2 ^ 64 ≡ passed_between all place at % 2 ^ 64 =
    ap (λ n. (n + (2 ^ 64 - moment.clock)) % 2 ^ 64) (h.1 ∙ ap (λ n. n % 2 ^ 64) (sym joined))
    ∙ ap (λ n. ((passed_between all 0 place + passed_between all place at) % 2 ^ 64 + (2 ^ 64 - n)) % 2 ^ 64) starts
    ∙ wraps (2 ^ 64) (passed_between all 0 place) (passed_between all place at) (lit< tt) in
    facts_same _ _ _ _ _ _ starts lasts
    (ap (numbers_for kind) h.2 ∙ ap (λ (one : EventKind). numbers_for one (numbers_on (line_at all at))) (sym k))

-- all events from a place on
abbrev event_on : List BlockLine → Bracket → List Event
event_on all bracket = as_list (option_map (event_of all bracket) (subject_of (line_at all bracket.opened)))

along_first : (all : List BlockLine) (place clock : ℕ) (line : BlockLine) (rest : List BlockLine) (mark : Mark) → mark_of line ≡ mark → line_at all place ≡ line
    → passed_between all 0 place ≡ clock
    → ((kind : EventKind) → IsClosing all (place + 1) (closing_from (place + 1) kind 0 (map mark_of rest)) (closing_in kind 0 (moments_from (clock + time_of line) rest)))
    → map facts_told (facts_along (moments_from (clock + time_of line) rest)) ≡ map facts_of (flat_map (event_on all) (brackets_from (place + 1) (map mark_of rest)))
    → map facts_told (facts_along (moment_with (clock % 2 ^ 64) line (turn_in mark) ++ moments_from (clock + time_of line) rest))
    ≡ map facts_of (flat_map (event_on all) (brackets_from place (mark ∷ map mark_of rest)))
unfolding brackets_from
along_first all place clock line rest (Opens kind) m at p closed next =
    let said = opens_subject line kind m in
    let there : subject_of (line_at all place) ≡ Some said.0 = ap subject_of at ∙ said.1 in
    let bracket : Bracket = record { opened = place; kind = kind; closed = closing_from (place + 1) kind 0 (map mark_of rest) } in
    let opening : Moment = record { turn = turns.Opens kind; clock = clock % 2 ^ 64; numbers = numbers_on line } in
    let later = moments_from (clock + time_of line) rest in
    let more = flat_map (event_on all) (brackets_from (place + 1) (map mark_of rest)) in
    ap (λ (fs : List Facts). facts_told (facts_between opening kind (closing_in kind 0 later)) ∷ fs) next
    ∙ ap (λ (f : Facts). f ∷ map facts_of more) (same_facts all place clock kind opening said.0 bracket.closed (closing_in kind 0 later) refl p said.2 (closed kind))
    ∙ ap (λ (found : Option Subject). map facts_of (as_list (option_map (event_of all bracket) found) ++ more)) (sym there)
along_first all place clock line rest Ends m at p closed next = next
along_first all place clock line rest EndsStage m at p closed next = next
along_first all place clock line rest Passes m at p closed next = next

along_none : (all : List BlockLine) (place : ℕ) → [] ≡ map facts_of (flat_map (event_on all) (brackets_from place []))
unfolding brackets_from
along_none all place = refl

along : (all before rest : List BlockLine) (place clock : ℕ) → IsAt all before rest place clock
    → map facts_told (facts_along (moments_from clock rest)) ≡ map facts_of (flat_map (event_on all) (brackets_from place (map mark_of rest)))
along all before [] place clock at = along_none all place
along all before (line ∷ rest) place clock at =
    along_first all place clock line rest (mark_of line) refl (line_here all before rest line place clock at) (passed_here all before (line ∷ rest) place clock at)
    (λ kind. closes_there all (before ++ line ∷ []) rest (place + 1) (clock + time_of line) kind 0 (next_at all before rest line place clock at))
    (along all (before ++ line ∷ []) rest (place + 1) (clock + time_of line) (next_at all before rest line place clock at))

-- The facts of the events that lines open are those of their moments.
pub facts_are : (lines : List BlockLine) → map facts_told (facts_along (moments_from 0 lines)) ≡ map facts_of (events_of lines)
unfolding events_of
facts_are all = along all [] all 0 0 (record { all_is = refl; place_is = refl; clock_is = refl })
