-- The events of lines are brackets that lie before or inside one another.
use Rattle.std.proofs.Common.{ℕ, zero, suc, ◌≡◌, ◌+◌, ◌-◌, ◌≤◌, ◌<◌, ◌⊎◌, inl, inr, Bool, true, false, cond, List, [], ◌∷◌, ◌++◌, length, map, take, drop, Option, Some, None, refl, sym, ap, ◌∙◌, subst, append_assoc, arith}
use Rattle.std.specs.Prelude.{slice_get, option_map}
use Rattle.std.specs.List.{sum_by, flat_map}
use Rattle.std.proofs.Math.Seq.{take-add, get_or-append_seam}
use Rattle.std.proofs.lemmas.Bool.{false≢true}
use Rattle.std.proofs.lemmas.List.{length-map, length-append}
use Rattle.std.proofs.lemmas.List.Sums.{sum_by-append}
use Rattle.std.proofs.lemmas.Option.{slice_get-map}
use Rattle.pfs_event.specs.declared.kind.EventKind.{EventKind}
use Rattle.pfs_event.specs.declared.kind.EventKind.TheVariants.{Wait, Stage, Statement, Transaction}
use Rattle.pfs_script.specs.declared.blocks.BlockLine.{BlockLine}
use Rattle.pfs_script.specs.declared.blocks.BlockLine.TheVariants as lines
use Rattle.pfs_script.specs.declared.blocks.Phase.{Phase}
use Rattle.pfs_script.specs.Marks.{Mark, Opens, Ends, EndsStage, Passes, mark_of}
use Rattle.pfs_script.specs.Brackets.{deeper, depth_behind, closes, closing_from, Bracket, brackets_from, brackets_of}
use Rattle.pfs_script.specs.Events.{Event, Subject, time_of, subject_of, line_at, passed_between, numbers_at, event_of, as_list, events_of, lines_for, events_for}
use Rattle.pfs_script.specs.EventRules.{bracket_of, AreEvents}

-- brackets

close_step : (place : ℕ) (kind : EventKind) (depth : ℕ) (mark : Mark) (marks : List Mark)
    → closing_from place kind depth (mark ∷ marks) ≡ cond (closes kind depth mark) (Some place) (closing_from (place + 1) kind (depth_behind mark depth) marks)
unfolding closing_from
close_step place kind depth mark marks = refl

none_closes : (place : ℕ) (kind : EventKind) (depth : ℕ) → closing_from place kind depth [] ≡ None
unfolding closing_from
none_closes place kind depth = refl

-- what closes an event stands among the marks
closed_range : (place : ℕ) (kind : EventKind) (depth : ℕ) (marks : List Mark) (at : ℕ) → closing_from place kind depth marks ≡ Some at → (place ≤ at) × (at < place + length marks)
closed_range place kind depth [] at e = let none = sym (none_closes place kind depth) ∙ e in cc
closed_range place kind depth (mark ∷ marks) at e = range_by (λ c. closed_range (place + 1) kind (depth_behind mark depth) marks at c) (closes kind depth mark) (sym (close_step place kind depth mark marks) ∙ e)
  where
    range_by : (closing_from (place + 1) kind (depth_behind mark depth) marks ≡ Some at → (place + 1 ≤ at) × (at < place + 1 + length marks)) → (here : Bool)
        → cond here (Some place) (closing_from (place + 1) kind (depth_behind mark depth) marks) ≡ Some at → (place ≤ at) × (at < place + length (mark ∷ marks))
    range_by later true e = let same : place ≡ at = cc in (omega arith, omega arith)
    range_by later false e = let rest = later e in (omega (arith, rest.0), omega (arith, rest.1))

-- a bracket opens among the marks, and closes behind that
opened_range : (place : ℕ) (marks : List Mark) (i : ℕ) (b : Bracket) → slice_get (brackets_from place marks) i ≡ Some b → (place ≤ b.opened) × (b.opened < place + length marks)
unfolding brackets_from
opened_range place [] i b e = cc
opened_range place (Opens kind ∷ marks) zero b e =
    let first : ◌≡◌ {A = Bracket} (record { opened = place; kind = kind; closed = closing_from (place + 1) kind 0 marks }) b = cc in
    let same : place ≡ b.opened = ap (λ (one : Bracket). one.opened) first in
    (omega arith, omega arith)
opened_range place (Opens kind ∷ marks) (suc i) b e = let rest = opened_range (place + 1) marks i b e in (omega (arith, rest.0), omega (arith, rest.1))
opened_range place (_ ∷ marks) i b e = let rest = opened_range (place + 1) marks i b e in (omega (arith, rest.0), omega (arith, rest.1))

closed_later : (place : ℕ) (marks : List Mark) (i : ℕ) (b : Bracket) (at : ℕ) → slice_get (brackets_from place marks) i ≡ Some b → b.closed ≡ Some at → (b.opened < at) × (at < place + length marks)
unfolding brackets_from
closed_later place [] i b at e c = cc
closed_later place (Opens kind ∷ marks) zero b at e c =
    let first : ◌≡◌ {A = Bracket} (record { opened = place; kind = kind; closed = closing_from (place + 1) kind 0 marks }) b = cc in
    let same : place ≡ b.opened = ap (λ (one : Bracket). one.opened) first in
    let range = closed_range (place + 1) kind 0 marks at (ap (λ (one : Bracket). one.closed) first ∙ c) in
    (omega (arith, range.0), omega (arith, range.1))
closed_later place (Opens kind ∷ marks) (suc i) b at e c = let rest = closed_later (place + 1) marks i b at e c in (rest.0, omega (arith, rest.1))
closed_later place (_ ∷ marks) i b at e c = let rest = closed_later (place + 1) marks i b at e c in (rest.0, omega (arith, rest.1))

in_order : (place : ℕ) (marks : List Mark) (i j : ℕ) (a b : Bracket) → slice_get (brackets_from place marks) i ≡ Some a → slice_get (brackets_from place marks) j ≡ Some b → i < j → a.opened < b.opened
unfolding brackets_from
in_order place [] i j a b ea eb lt = cc
in_order place (Opens kind ∷ marks) i zero a b ea eb lt = absurd (omega arith)
in_order place (Opens kind ∷ marks) zero (suc j) a b ea eb lt =
    let first : ◌≡◌ {A = Bracket} (record { opened = place; kind = kind; closed = closing_from (place + 1) kind 0 marks }) a = cc in
    let same : place ≡ a.opened = ap (λ (one : Bracket). one.opened) first in
    let rest = opened_range (place + 1) marks j b eb in
    omega (arith, rest.0)
in_order place (Opens kind ∷ marks) (suc i) (suc j) a b ea eb lt = in_order (place + 1) marks i j a b ea eb (omega arith)
in_order place (_ ∷ marks) i j a b ea eb lt = in_order (place + 1) marks i j a b ea eb lt

-- as long as an event is open inside another, a mark that doesn't end it doesn't end the other, and leaves it inside
not_sooner : (outer inner : EventKind) (depth inside : ℕ) (mark : Mark) → deeper inner inside ≤ depth → closes inner inside mark ≡ false → closes outer depth mark ≡ false
not_sooner outer inner (suc depth) inside mark le c = refl
not_sooner outer Stage zero zero Ends le c = cc
not_sooner outer Stage zero zero EndsStage le c = cc
not_sooner Wait Stage zero zero Passes le c = refl
not_sooner Stage Stage zero zero Passes le c = refl
not_sooner Statement Stage zero zero Passes le c = refl
not_sooner Transaction Stage zero zero Passes le c = refl
not_sooner outer Stage zero zero (Opens Stage) le c = cc
not_sooner Wait Stage zero zero (Opens _) le c = refl
not_sooner Stage Stage zero zero (Opens _) le c = refl
not_sooner Statement Stage zero zero (Opens _) le c = refl
not_sooner Transaction Stage zero zero (Opens _) le c = refl
not_sooner outer Stage zero (suc inside) mark le c = absurd (omega arith)
not_sooner outer _ zero inside mark le c = absurd (omega arith)

ends_first : (kind : EventKind) → closes kind zero Ends ≡ true
ends_first Wait = refl
ends_first Stage = refl
ends_first Statement = refl
ends_first Transaction = refl

deeper_more : (kind : EventKind) (depth : ℕ) → deeper kind (suc depth) ≡ suc (deeper kind depth)
deeper_more Wait depth = refl
deeper_more Stage depth = refl
deeper_more Statement depth = refl
deeper_more Transaction depth = refl

still_opens : (inner kind : EventKind) (depth inside : ℕ) → deeper inner inside ≤ depth → deeper inner (deeper kind inside) ≤ deeper kind depth
still_opens inner Stage depth inside le = le
still_opens inner _ depth inside le = omega (arith, deeper_more inner inside)

still_inside : (inner : EventKind) (depth inside : ℕ) (mark : Mark) → deeper inner inside ≤ depth → closes inner inside mark ≡ false → deeper inner (depth_behind mark inside) ≤ depth_behind mark depth
still_inside inner depth inside (Opens kind) le c = still_opens inner kind depth inside le
still_inside inner depth zero Ends le c = let ends = sym (ends_first inner) ∙ c in absurd (false≢true (sym ends))
still_inside inner zero (suc inside) Ends le c = let more = deeper_more inner inside in absurd (omega arith)
still_inside inner (suc depth) (suc inside) Ends le c = omega (arith, deeper_more inner inside)
still_inside inner depth inside EndsStage le c = le
still_inside inner depth inside Passes le c = le

-- the inner event closes where the outer one does at the latest
inner_first : (place : ℕ) (outer inner : EventKind) (depth inside : ℕ) (marks : List Mark) (at : ℕ) → deeper inner inside ≤ depth → closing_from place outer depth marks ≡ Some at
    → (first : ℕ) × (closing_from place inner inside marks ≡ Some first) × (first ≤ at)
inner_first place outer inner depth inside [] at le e = let none = sym (none_closes place outer depth) ∙ e in cc
inner_first place outer inner depth inside (mark ∷ marks) at le e = first_by (λ le e. inner_first (place + 1) outer inner (depth_behind mark depth) (depth_behind mark inside) marks at le e) (closes inner inside mark) refl
  where
    first_by : (deeper inner (depth_behind mark inside) ≤ depth_behind mark depth → closing_from (place + 1) outer (depth_behind mark depth) marks ≡ Some at
        → (first : ℕ) × (closing_from (place + 1) inner (depth_behind mark inside) marks ≡ Some first) × (first ≤ at)) → (here : Bool) → closes inner inside mark ≡ here → (first : ℕ) × (closing_from place inner inside (mark ∷ marks) ≡ Some first) × (first ≤ at)
    first_by later true c =
        let range = closed_range place outer depth (mark ∷ marks) at e in
        (place, close_step place inner inside mark marks ∙ ap (λ here. cond here (Some place) (closing_from (place + 1) inner (depth_behind mark inside) marks)) c, range.0)
    first_by later false c =
        let open_still : closing_from (place + 1) outer (depth_behind mark depth) marks ≡ Some at =
        ap (λ here. cond here (Some place) (closing_from (place + 1) outer (depth_behind mark depth) marks)) (sym (not_sooner outer inner depth inside mark le c)) ∙ (sym (close_step place outer depth mark marks) ∙ e) in
        let rest = later (still_inside inner depth inside mark le c) open_still in
        (rest.0, close_step place inner inside mark marks ∙ (ap (λ here. cond here (Some place) (closing_from (place + 1) inner (depth_behind mark inside) marks)) c ∙ rest.1), rest.2)

-- an open event against those that open behind it
abbrev Lies : Bracket → ℕ → Type 0
Lies b at = (at ≤ b.opened) ⊎ ((inner : ℕ) × (b.closed ≡ Some inner) × (inner ≤ at))

deep_enough : (kind : EventKind) (depth : ℕ) → deeper kind 0 ≤ deeper kind depth
deep_enough Stage depth = omega arith
deep_enough _ depth = omega arith

around : (place : ℕ) (kind : EventKind) (depth : ℕ) (marks : List Mark) (j : ℕ) (b : Bracket) (at : ℕ) → slice_get (brackets_from place marks) j ≡ Some b → closing_from place kind depth marks ≡ Some at → Lies b at
unfolding brackets_from
around place kind depth [] j b at e c = cc
around place kind depth (mark ∷ marks) j b at e c =
    around_by (λ depth j e c. around (place + 1) kind depth marks j b at e c) (closes kind depth mark) (sym (close_step place kind depth mark marks) ∙ c)
  where
    behind : ((depth j : ℕ) → slice_get (brackets_from (place + 1) marks) j ≡ Some b → closing_from (place + 1) kind depth marks ≡ Some at → Lies b at) → (mark : Mark) (j : ℕ)
        → slice_get (brackets_from place (mark ∷ marks)) j ≡ Some b → closing_from (place + 1) kind (depth_behind mark depth) marks ≡ Some at → Lies b at
    behind rest (Opens inner) zero e c =
        let first : ◌≡◌ {A = Bracket} (record { opened = place; kind = inner; closed = closing_from (place + 1) inner 0 marks }) b = cc in
        let found = inner_first (place + 1) kind inner (deeper inner depth) 0 marks at (deep_enough inner depth) c in
        inr (found.0, ap (λ (one : Bracket). one.closed) (sym first) ∙ found.1, found.2)
    behind rest (Opens inner) (suc j) e c = rest (deeper inner depth) j e c
    behind rest Ends j e c = rest (depth_behind Ends depth) j e c
    behind rest EndsStage j e c = rest depth j e c
    behind rest Passes j e c = rest depth j e c

    around_by : ((depth j : ℕ) → slice_get (brackets_from (place + 1) marks) j ≡ Some b → closing_from (place + 1) kind depth marks ≡ Some at → Lies b at) → (here : Bool)
        → cond here (Some place) (closing_from (place + 1) kind (depth_behind mark depth) marks) ≡ Some at → Lies b at
    around_by rest true c = let same : place ≡ at = cc in let range = opened_range place (mark ∷ marks) j b e in inl (omega (arith, range.0))
    around_by rest false c = behind rest mark j e c

nested_from : (place : ℕ) (marks : List Mark) (i j : ℕ) (a b : Bracket) (at : ℕ) → slice_get (brackets_from place marks) i ≡ Some a → slice_get (brackets_from place marks) j ≡ Some b → i < j → a.closed ≡ Some at → Lies b at
unfolding brackets_from
nested_from place [] i j a b at ea eb lt c = cc
nested_from place (Opens kind ∷ marks) i zero a b at ea eb lt c = absurd (omega arith)
nested_from place (Opens kind ∷ marks) zero (suc j) a b at ea eb lt c =
    let first : ◌≡◌ {A = Bracket} (record { opened = place; kind = kind; closed = closing_from (place + 1) kind 0 marks }) a = cc in
    around (place + 1) kind 0 marks j b at eb (ap (λ (one : Bracket). one.closed) first ∙ c)
nested_from place (Opens kind ∷ marks) (suc i) (suc j) a b at ea eb lt c = nested_from (place + 1) marks i j a b at ea eb (omega arith) c
nested_from place (_ ∷ marks) i j a b at ea eb lt c = nested_from (place + 1) marks i j a b at ea eb lt c

-- events

abbrev event_on : List BlockLine → Bracket → List Event
event_on all bracket = as_list (option_map (event_of all bracket) (subject_of (line_at all bracket.opened)))

-- a line that opens an event says of what
opens_subject : (line : BlockLine) (kind : EventKind) → mark_of line ≡ Opens kind → (subject : Subject) × (subject_of line ≡ Some subject) × (subject.kind ≡ kind)
opens_subject (lines.Wait class) kind e = (_, refl, cc)
opens_subject (lines.TableWait class table) kind e = (_, refl, cc)
opens_subject (lines.Statement class digest) kind e = (_, refl, cc)
opens_subject (lines.Transaction access) kind e = (_, refl, cc)
opens_subject (lines.Stage class) kind e = (_, refl, cc)
opens_subject _ kind e = cc

spans_first : (all : List BlockLine) (line : BlockLine) (place : ℕ) (marks : List Mark) (mark : Mark) → mark_of line ≡ mark → line_at all place ≡ line
    → map bracket_of (flat_map (event_on all) (brackets_from (place + 1) marks)) ≡ brackets_from (place + 1) marks
    → map bracket_of (flat_map (event_on all) (brackets_from place (mark ∷ marks))) ≡ brackets_from place (mark ∷ marks)
unfolding brackets_from
spans_first all line place marks (Opens kind) m at rest =
    let bracket : Bracket = record { opened = place; kind = kind; closed = closing_from (place + 1) kind 0 marks } in
    let more = flat_map (event_on all) (brackets_from (place + 1) marks) in
    let said = opens_subject line kind m in
    let there : subject_of (line_at all place) ≡ Some said.0 = ap subject_of at ∙ said.1 in
    ap (λ (found : Option Subject). map bracket_of (as_list (option_map (event_of all bracket) found) ++ more)) there
    ∙ (ap (λ (one : EventKind). record { opened = place; kind = one; closed = bracket.closed } ∷ map bracket_of more) said.2 ∙ ap (λ (brackets : List Bracket). bracket ∷ brackets) rest)
spans_first all line place marks _ m at rest = rest

spans_none : (all : List BlockLine) (place : ℕ) → map bracket_of (flat_map (event_on all) (brackets_from place [])) ≡ brackets_from place []
unfolding brackets_from
spans_none all place = refl

spans : (all before rest : List BlockLine) (place : ℕ) → all ≡ before ++ rest → place ≡ length before
    → map bracket_of (flat_map (event_on all) (brackets_from place (map mark_of rest))) ≡ brackets_from place (map mark_of rest)
spans all before [] place e p = spans_none all place
spans all before (line ∷ rest) place e p =
    let here : line_at all place ≡ line = ap (λ n. line_at all n) p ∙ (ap (λ (lines : List BlockLine). line_at lines (length before)) e ∙ get_or-append_seam before line rest lines.Done) in
    spans_first all line place (map mark_of rest) (mark_of line) refl here
    (spans all (before ++ line ∷ []) rest (place + 1) (e ∙ sym (append_assoc before (line ∷ []) rest)) (omega (arith, length-append before (line ∷ []))))

are_brackets : (all : List BlockLine) → map bracket_of (events_of all) ≡ brackets_of (map mark_of all)
unfolding events_of
are_brackets all = spans all [] all 0 refl refl

-- an event by the bracket that it is made of
record IsMade (all : List BlockLine) (event : Event) : Type 0 where
  bracket : Bracket
  subject : Subject
  said : subject_of (line_at all bracket.opened) ≡ Some subject
  made : event_of all bracket subject ≡ event

made_by : (all : List BlockLine) (bracket : Bracket) (found : Option Subject) (more : List Event) (i : ℕ) (event : Event) → subject_of (line_at all bracket.opened) ≡ found
    → ((k : ℕ) → slice_get more k ≡ Some event → IsMade all event) → slice_get (as_list (option_map (event_of all bracket) found) ++ more) i ≡ Some event → IsMade all event
made_by all bracket None more i event s rest e = rest i e
made_by all bracket (Some subject) more zero event s rest e = record { bracket = bracket; subject = subject; said = s; made = cc }
made_by all bracket (Some subject) more (suc i) event s rest e = rest i e

each_made : (all : List BlockLine) (brackets : List Bracket) (i : ℕ) (event : Event) → slice_get (flat_map (event_on all) brackets) i ≡ Some event → IsMade all event
each_made all [] i event e = cc
each_made all (bracket ∷ brackets) i event e =
    made_by all bracket (subject_of (line_at all bracket.opened)) (flat_map (event_on all) brackets) i event refl (λ k there. each_made all brackets k event there) e

event_made : (all : List BlockLine) (i : ℕ) (event : Event) → slice_get (events_of all) i ≡ Some event → IsMade all event
unfolding events_of
event_made all i event e = each_made all (brackets_of (map mark_of all)) i event e

-- times add up
times_join : (all : List BlockLine) (opened closed : ℕ) → opened ≤ closed → passed_between all 0 opened + passed_between all opened closed ≡ passed_between all 0 closed
times_join all opened closed le =
    let whole : (n : ℕ) → passed_between all 0 n ≡ sum_by time_of (take n all) = λ n. ap (λ k. sum_by time_of (take k all)) (omega arith) in
    let split : take closed all ≡ take opened all ++ take (closed - opened) (drop opened all) = ap (λ n. take n all) (omega arith) ∙ take-add opened (closed - opened) all in
    ap {B = ℕ} (λ n. n + passed_between all opened closed) (whole opened)
    ∙ (sym (sum_by-append time_of (take opened all) (take (closed - opened) (drop opened all))) ∙ (ap (sum_by time_of) (sym split) ∙ sym (whole closed)))

said_of : (all : List BlockLine) (event : Event) → IsMade all event → subject_of (line_at all event.opened) ≡ Some event.subject
said_of all event m = subst (λ (one : Event). subject_of (line_at all one.opened) ≡ Some one.subject) m.made m.said

clock_of : (all : List BlockLine) (event : Event) → IsMade all event → event.clock ≡ passed_between all 0 event.opened
clock_of all event m = subst (λ (one : Event). one.clock ≡ passed_between all 0 one.opened) m.made refl

abbrev LastsTo : List BlockLine → ℕ → Event → Type 0
LastsTo all closed event = event.closed ≡ Some closed → event.opened ≤ closed → (lasted : ℕ) × (event.lasted ≡ Some lasted) × (event.clock + lasted ≡ passed_between all 0 closed)

lasts_made : (all : List BlockLine) (bracket : Bracket) (subject : Subject) (closed : ℕ) → LastsTo all closed (event_of all bracket subject)
lasts_made all bracket subject closed c le = (passed_between all bracket.opened closed, ap (option_map (passed_between all bracket.opened)) c, times_join all bracket.opened closed le)

lasts_of : (all : List BlockLine) (event : Event) (closed : ℕ) → IsMade all event → LastsTo all closed event
lasts_of all event closed m = subst (λ (one : Event). LastsTo all closed one) m.made (lasts_made all m.bracket m.subject closed)

unclosed_of : (all : List BlockLine) (event : Event) → IsMade all event → event.closed ≡ None → event.lasted ≡ None
unclosed_of all event m = subst (λ (one : Event). one.closed ≡ None → one.lasted ≡ None) m.made (λ c. ap (option_map (passed_between all m.bracket.opened)) c)

numbers_of : (all : List BlockLine) (event : Event) → IsMade all event → event.numbers ≡ numbers_at all event.subject.kind event.closed
numbers_of all event m = subst (λ (one : Event). one.numbers ≡ numbers_at all one.subject.kind one.closed) m.made refl

-- an event's bracket
bracket_at : (all : List BlockLine) (i : ℕ) (event : Event) → slice_get (events_of all) i ≡ Some event → slice_get (brackets_of (map mark_of all)) i ≡ Some (bracket_of event)
bracket_at all i event e =
    ap (λ (brackets : List Bracket). slice_get brackets i) (sym (are_brackets all)) ∙ (slice_get-map bracket_of (events_of all) i ∙ ap (option_map bracket_of) e)

later_of : (all : List BlockLine) (i : ℕ) (event : Event) (closed : ℕ) → slice_get (events_of all) i ≡ Some event → event.closed ≡ Some closed → (event.opened < closed) × (closed < length all)
later_of all i event closed e c =
    let range = closed_later 0 (map mark_of all) i (bracket_of event) closed (bracket_at all i event e) c in
    (range.0, omega (arith, range.1, length-map all mark_of))

are_events : (all : List BlockLine) → AreEvents all (events_of all)
are_events all = record {
  brackets = are_brackets all;
  subject = λ i event e. said_of all event (event_made all i event e);
  inside = λ i event e. let range = opened_range 0 (map mark_of all) i (bracket_of event) (bracket_at all i event e) in omega (arith, range.1, length-map all mark_of);
  later = later_of all;
  clock = λ i event e. clock_of all event (event_made all i event e);
  lasts = λ i event closed e c. let range = later_of all i event closed e c in lasts_of all event closed (event_made all i event e) c (omega (arith, range.0));
  numbers = λ i event e. numbers_of all event (event_made all i event e);
  unclosed = λ i event e c. unclosed_of all event (event_made all i event e) c;
  order = λ i j a b ea eb lt. in_order 0 (map mark_of all) i j (bracket_of a) (bracket_of b) (bracket_at all i a ea) (bracket_at all j b eb) lt;
  nested = λ i j a b closed ea eb lt c. nested_from 0 (map mark_of all) i j (bracket_of a) (bracket_of b) closed (bracket_at all i a ea) (bracket_at all j b eb) lt c;
}

pub session_events : (number : ℕ) (phases : List Phase) → AreEvents (lines_for number phases) (events_for number phases)
session_events number phases = are_events (lines_for number phases)
