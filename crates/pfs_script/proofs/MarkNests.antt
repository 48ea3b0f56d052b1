-- Which events are open behind marks, and which a mark ends: what brackets say, as a stack makes it.
use Rattle.std.proofs.Common.{◌≡◌, ℕ, zero, suc, ◌+◌, ◌<◌, ◌≤◌, Bool, true, false, cond, List, [], ◌∷◌, ◌++◌, length, map, filter, reverse, take, drop, Option, Some, None, refl, sym, ap, subst, ◌∙◌, append_assoc, arith}
use Rattle.std.proofs.lemmas.List.{append-nil, reverse-append}
use Rattle.pfs_event.specs.declared.kind.EventKind.{EventKind}
use Rattle.pfs_event.specs.declared.kind.EventKind.TheVariants.{Wait, Stage, Statement, Transaction}
use Rattle.pfs_script.specs.Marks.{Mark, Opens, Ends, EndsStage, Passes, copies}
use Rattle.pfs_script.specs.Brackets.{deeper, depth_behind, closes, closing_from, Bracket, brackets_from, Opening, opening_of, openings_where, is_unclosed, closes_at, open_in, closed_at, kinds_of, stages_first, ended_by, opened_by, kinds_behind, may_stand, may_follow, Follows}

-- the open events behind a mark at this place, where those were open before it
abbrev pub after : ℕ → Mark → List Opening → List Opening
after place mark opens = opened_by place mark ++ drop (ended_by mark (kinds_of opens)) opens

abbrev pub run : ℕ → List Mark → List Opening → List Opening
run place [] opens = opens
run place (mark ∷ marks) opens = run (place + 1) marks (after place mark opens)

-- of open events, those whose closing among the marks to come passes the test, with so many open inside
abbrev pub chosen : (Option ℕ → Bool) → ℕ → ℕ → List Opening → List Mark → List Opening
chosen test place depth [] marks = []
chosen test place depth (event ∷ opens) marks =
    cond (test (closing_from place event.kind depth marks)) (event ∷ []) [] ++ chosen test place (deeper event.kind depth) opens marks

-- no stage lies right inside a stage
abbrev pub Fits : EventKind → List Opening → Type 0
Fits Stage opens = stages_first (kinds_of opens) ≡ 0
Fits Wait opens = Unit {0}
Fits Statement opens = Unit {0}
Fits Transaction opens = Unit {0}

abbrev pub IsApart : List Opening → Type 0
IsApart [] = Unit {0}
IsApart (event ∷ opens) = Fits event.kind opens × IsApart opens

deeper_suc : (kind : EventKind) (depth : ℕ) → deeper kind (suc depth) ≡ suc (deeper kind depth)
deeper_suc Stage depth = refl
deeper_suc Wait depth = refl
deeper_suc Statement depth = refl
deeper_suc Transaction depth = refl

-- one mark, at an event with events open inside
close_ends : (place : ℕ) (kind : EventKind) (depth : ℕ) (marks : List Mark) → closing_from place kind (suc depth) (Ends ∷ marks) ≡ closing_from (place + 1) kind depth marks
unfolding closing_from
close_ends place kind depth marks = refl

close_inside : (place : ℕ) (kind : EventKind) (depth : ℕ) (mark : Mark) (marks : List Mark) → depth_behind mark (suc depth) ≡ suc depth → closing_from place kind (suc depth) (mark ∷ marks) ≡ closing_from (place + 1) kind (suc depth) marks
unfolding closing_from
close_inside place kind depth mark marks same = ap (λ d. closing_from (place + 1) kind d marks) same

close_pass : (place : ℕ) (kind : EventKind) (depth : ℕ) (marks : List Mark) → closing_from place kind depth (Passes ∷ marks) ≡ closing_from (place + 1) kind depth marks
unfolding closing_from
close_pass place kind zero marks = refl
close_pass place kind (suc depth) marks = refl

close_wait : (place : ℕ) (kind : EventKind) (depth : ℕ) (marks : List Mark) → closing_from place kind depth (Opens Wait ∷ marks) ≡ closing_from (place + 1) kind (suc depth) marks
unfolding closing_from
close_wait place kind (suc depth) marks = refl
close_wait place Stage zero marks = refl
close_wait place Wait zero marks = refl
close_wait place Statement zero marks = refl
close_wait place Transaction zero marks = refl

close_statement : (place : ℕ) (kind : EventKind) (depth : ℕ) (marks : List Mark) → closing_from place kind depth (Opens Statement ∷ marks) ≡ closing_from (place + 1) kind (suc depth) marks
unfolding closing_from
close_statement place kind (suc depth) marks = refl
close_statement place Stage zero marks = refl
close_statement place Wait zero marks = refl
close_statement place Statement zero marks = refl
close_statement place Transaction zero marks = refl

close_transaction : (place : ℕ) (kind : EventKind) (depth : ℕ) (marks : List Mark) → closing_from place kind depth (Opens Transaction ∷ marks) ≡ closing_from (place + 1) kind (suc depth) marks
unfolding closing_from
close_transaction place kind (suc depth) marks = refl
close_transaction place Stage zero marks = refl
close_transaction place Wait zero marks = refl
close_transaction place Statement zero marks = refl
close_transaction place Transaction zero marks = refl

-- one mark, at all open events with events open inside
chosen_ends : (test : Option ℕ → Bool) (place depth : ℕ) (opens : List Opening) (marks : List Mark) → chosen test place (suc depth) opens (Ends ∷ marks) ≡ chosen test (place + 1) depth opens marks
chosen_ends test place depth [] marks = refl
chosen_ends test place depth (event ∷ opens) marks =
    rw (deeper_suc event.kind depth, close_ends place event.kind depth marks, chosen_ends test place (deeper event.kind depth) opens marks) refl

chosen_inside : (test : Option ℕ → Bool) (place depth : ℕ) (opens : List Opening) (mark : Mark) (marks : List Mark) → ((d : ℕ) → depth_behind mark (suc d) ≡ suc d) → chosen test place (suc depth) opens (mark ∷ marks) ≡ chosen test (place + 1) (suc depth) opens marks
chosen_inside test place depth [] mark marks same = refl
chosen_inside test place depth (event ∷ opens) mark marks same =
    rw (deeper_suc event.kind depth, close_inside place event.kind depth mark marks (same depth), chosen_inside test place (deeper event.kind depth) opens mark marks same) refl

chosen_pass : (test : Option ℕ → Bool) (place depth : ℕ) (opens : List Opening) (marks : List Mark) → chosen test place depth opens (Passes ∷ marks) ≡ chosen test (place + 1) depth opens marks
chosen_pass test place depth [] marks = refl
chosen_pass test place depth (event ∷ opens) marks =
    rw (close_pass place event.kind depth marks, chosen_pass test place (deeper event.kind depth) opens marks) refl

-- an opening of an event that isn't a stage
abbrev Deepens : Mark → Type 0
Deepens mark = (place : ℕ) (kind : EventKind) (depth : ℕ) (marks : List Mark) → closing_from place kind depth (mark ∷ marks) ≡ closing_from (place + 1) kind (suc depth) marks

chosen_deeper : (mark : Mark) → Deepens mark → (test : Option ℕ → Bool) (place depth : ℕ) (opens : List Opening) (marks : List Mark) → chosen test place depth opens (mark ∷ marks) ≡ chosen test (place + 1) (suc depth) opens marks
chosen_deeper mark deepens test place depth [] marks = refl
chosen_deeper mark deepens test place depth (event ∷ opens) marks =
    rw (deeper_suc event.kind depth, deepens place event.kind depth marks, chosen_deeper mark deepens test place (deeper event.kind depth) opens marks) refl

-- what an end does to the statement of a stage
end_below : (test : Option ℕ → Bool) (place here : ℕ) (kind : EventKind) (opens : List Opening) (marks : List Mark) → test (Some place) ≡ false → stages_first (kind ∷ kinds_of opens) ≡ 0 → chosen test place 0 (record { place = here; kind = kind } ∷ opens) (Ends ∷ marks) ≡ chosen test (place + 1) 0 opens marks
unfolding closing_from
end_below test place here Wait opens marks shut apart = rw shut (chosen_ends test place 0 opens marks)
end_below test place here Statement opens marks shut apart = rw shut (chosen_ends test place 0 opens marks)
end_below test place here Transaction opens marks shut apart = rw shut (chosen_ends test place 0 opens marks)
end_below test place here Stage opens marks shut apart = absurd (cc)

-- what an end does to the open events
end_one : (test : Option ℕ → Bool) (place here : ℕ) (kind : EventKind) (opens : List Opening) (marks : List Mark) → test (Some place) ≡ false → IsApart (record { place = here; kind = kind } ∷ opens) → chosen test place 0 (record { place = here; kind = kind } ∷ opens) (Ends ∷ marks) ≡ chosen test (place + 1) 0 (drop (ended_by Ends (kinds_of (record { place = here; kind = kind } ∷ opens))) (record { place = here; kind = kind } ∷ opens)) marks
unfolding closing_from
end_one test place here Wait opens marks shut apart = rw shut (chosen_ends test place 0 opens marks)
end_one test place here Statement opens marks shut apart = rw shut (chosen_ends test place 0 opens marks)
end_one test place here Transaction opens marks shut apart = rw shut (chosen_ends test place 0 opens marks)
end_one test place here Stage [] marks shut apart = rw shut refl
end_one test place here Stage (next ∷ opens) marks shut apart =
    ap (λ b. cond b (record { place = here; kind = Stage } ∷ []) [] ++ chosen test place 0 (next ∷ opens) (Ends ∷ marks)) shut ∙ end_below test place next.place next.kind opens marks shut apart.0

chosen_end : (test : Option ℕ → Bool) (place : ℕ) (opens : List Opening) (marks : List Mark) → test (Some place) ≡ false → IsApart opens → chosen test place 0 opens (Ends ∷ marks) ≡ chosen test (place + 1) 0 (after place Ends opens) marks
chosen_end test place [] marks shut apart = refl
chosen_end test place (event ∷ opens) marks shut apart = end_one test place event.place event.kind opens marks shut apart

-- what a mark does that ends the open stage alone
abbrev is_stage : EventKind → Bool
is_stage Stage = true
is_stage Wait = false
is_stage Statement = false
is_stage Transaction = false

abbrev EndsAlone : Mark → Type 0
EndsAlone mark = ((kinds : List EventKind) → ended_by mark kinds ≡ stages_first kinds) × ((d : ℕ) → depth_behind mark d ≡ d) × ((kind : EventKind) → closes kind 0 mark ≡ is_stage kind)

close_alone : (place : ℕ) (kind : EventKind) (mark : Mark) (marks : List Mark) → EndsAlone mark → closing_from place kind 0 (mark ∷ marks) ≡ cond (is_stage kind) (Some place) (closing_from (place + 1) kind 0 marks)
unfolding closing_from
close_alone place kind mark marks alone = rw (alone.1 0, alone.2 kind) refl

stage_below : (test : Option ℕ → Bool) (place here : ℕ) (kind : EventKind) (opens : List Opening) (mark : Mark) (marks : List Mark) → EndsAlone mark → stages_first (kind ∷ kinds_of opens) ≡ 0 → chosen test place 0 (record { place = here; kind = kind } ∷ opens) (mark ∷ marks) ≡ chosen test (place + 1) 0 (record { place = here; kind = kind } ∷ opens) marks
stage_below test place here Wait opens mark marks alone apart =
    rw (close_alone place Wait mark marks alone, chosen_inside test place 0 opens mark marks (λ d. alone.1 (suc d))) refl
stage_below test place here Statement opens mark marks alone apart =
    rw (close_alone place Statement mark marks alone, chosen_inside test place 0 opens mark marks (λ d. alone.1 (suc d))) refl
stage_below test place here Transaction opens mark marks alone apart =
    rw (close_alone place Transaction mark marks alone, chosen_inside test place 0 opens mark marks (λ d. alone.1 (suc d))) refl
stage_below test place here Stage opens mark marks alone apart = absurd (cc)

stage_one : (test : Option ℕ → Bool) (place here : ℕ) (kind : EventKind) (opens : List Opening) (mark : Mark) (marks : List Mark) → EndsAlone mark → test (Some place) ≡ false → IsApart (record { place = here; kind = kind } ∷ opens) → chosen test place 0 (record { place = here; kind = kind } ∷ opens) (mark ∷ marks) ≡ chosen test (place + 1) 0 (drop (stages_first (kind ∷ kinds_of opens)) (record { place = here; kind = kind } ∷ opens)) marks
stage_one test place here Wait opens mark marks alone shut apart =
    rw (close_alone place Wait mark marks alone, chosen_inside test place 0 opens mark marks (λ d. alone.1 (suc d))) refl
stage_one test place here Statement opens mark marks alone shut apart =
    rw (close_alone place Statement mark marks alone, chosen_inside test place 0 opens mark marks (λ d. alone.1 (suc d))) refl
stage_one test place here Transaction opens mark marks alone shut apart =
    rw (close_alone place Transaction mark marks alone, chosen_inside test place 0 opens mark marks (λ d. alone.1 (suc d))) refl
stage_one test place here Stage [] mark marks alone shut apart =
    rw (close_alone place Stage mark marks alone, shut) refl
stage_one test place here Stage (next ∷ opens) mark marks alone shut apart =
    rw (close_alone place Stage mark marks alone, shut) (stage_below test place next.place next.kind opens mark marks alone apart.0)

chosen_alone : (test : Option ℕ → Bool) (place : ℕ) (opens : List Opening) (mark : Mark) (marks : List Mark) → EndsAlone mark → test (Some place) ≡ false → IsApart opens → chosen test place 0 opens (mark ∷ marks) ≡ chosen test (place + 1) 0 (drop (stages_first (kinds_of opens)) opens) marks
chosen_alone test place [] mark marks alone shut apart = refl
chosen_alone test place (event ∷ opens) mark marks alone shut apart =
    stage_one test place event.place event.kind opens mark marks alone shut apart

ends_stage_alone : EndsAlone EndsStage
ends_stage_alone = (λ kinds. refl, λ d. refl, λ kind. elim kind as (λ k. closes k 0 EndsStage ≡ is_stage k) [ Wait ↦ refl | Stage ↦ refl | Statement ↦ refl | Transaction ↦ refl ])

stage_alone : EndsAlone (Opens Stage)
stage_alone = (λ kinds. refl, λ d. refl, λ kind. elim kind as (λ k. closes k 0 (Opens Stage) ≡ is_stage k) [ Wait ↦ refl | Stage ↦ refl | Statement ↦ refl | Transaction ↦ refl ])

-- the opening of an event stands in front of those behind it
opened_first : (test : Option ℕ → Bool) (place : ℕ) (kind : EventKind) (marks : List Mark) → openings_where test place (Opens kind ∷ marks) ≡ openings_where test (place + 1) marks ++ cond (test (closing_from (place + 1) kind 0 marks)) (record { place = place; kind = kind } ∷ []) []
unfolding brackets_from
opened_first test place kind marks =
    elim (test (closing_from (place + 1) kind 0 marks)) as (λ b. reverse (map opening_of (cond b (record { opened = place; kind = kind; closed = closing_from (place + 1) kind 0 marks } ∷ filter (λ (bracket : Bracket). test bracket.closed) (brackets_from (place + 1) marks)) (filter (λ (bracket : Bracket). test bracket.closed) (brackets_from (place + 1) marks)))) ≡ openings_where test (place + 1) marks ++ cond b (record { place = place; kind = kind } ∷ []) []) [
      | true ↦ reverse-append (record { place = place; kind = kind } ∷ []) (map opening_of (filter (λ (bracket : Bracket). test bracket.closed) (brackets_from (place + 1) marks)))
      | false ↦ sym (append-nil (openings_where test (place + 1) marks))
    ]

open_deeper : (test : Option ℕ → Bool) (place : ℕ) (kind : EventKind) (marks : List Mark) (opens : List Opening) → Deepens (Opens kind) → deeper kind 0 ≡ 1 → openings_where test place (Opens kind ∷ marks) ++ chosen test place 0 opens (Opens kind ∷ marks) ≡ openings_where test (place + 1) marks ++ chosen test (place + 1) 0 (record { place = place; kind = kind } ∷ opens) marks
open_deeper test place kind marks opens deepens one =
    rw (opened_first test place kind marks, chosen_deeper (Opens kind) deepens test place 0 opens marks, one)
    (append_assoc (openings_where test (place + 1) marks) (cond (test (closing_from (place + 1) kind 0 marks)) (record { place = place; kind = kind } ∷ []) []) (chosen test (place + 1) 1 opens marks))

open_stage : (test : Option ℕ → Bool) (place : ℕ) (marks : List Mark) (opens : List Opening) → test (Some place) ≡ false → IsApart opens → openings_where test place (Opens Stage ∷ marks) ++ chosen test place 0 opens (Opens Stage ∷ marks) ≡ openings_where test (place + 1) marks ++ chosen test (place + 1) 0 (after place (Opens Stage) opens) marks
open_stage test place marks opens shut apart =
    rw (opened_first test place Stage marks, chosen_alone test place opens (Opens Stage) marks stage_alone shut apart)
    (append_assoc (openings_where test (place + 1) marks) (cond (test (closing_from (place + 1) Stage 0 marks)) (record { place = place; kind = Stage } ∷ []) []) (chosen test (place + 1) 0 (drop (stages_first (kinds_of opens)) opens) marks))

-- one mark: what it opens stands before the rest, and what it ends is gone, as far as the test asks for neither
carried_one : (test : Option ℕ → Bool) (place : ℕ) (mark : Mark) (marks : List Mark) (opens : List Opening) → test (Some place) ≡ false → IsApart opens → openings_where test place (mark ∷ marks) ++ chosen test place 0 opens (mark ∷ marks) ≡ openings_where test (place + 1) marks ++ chosen test (place + 1) 0 (after place mark opens) marks
unfolding brackets_from
carried_one test place Ends marks opens shut apart =
    ap (λ events. openings_where test (place + 1) marks ++ events) (chosen_end test place opens marks shut apart)
carried_one test place EndsStage marks opens shut apart =
    ap (λ events. openings_where test (place + 1) marks ++ events) (chosen_alone test place opens EndsStage marks ends_stage_alone shut apart)
carried_one test place Passes marks opens shut apart =
    ap (λ events. openings_where test (place + 1) marks ++ events) (chosen_pass test place 0 opens marks)
carried_one test place (Opens Wait) marks opens shut apart = open_deeper test place Wait marks opens close_wait refl
carried_one test place (Opens Statement) marks opens shut apart = open_deeper test place Statement marks opens close_statement refl
carried_one test place (Opens Transaction) marks opens shut apart = open_deeper test place Transaction marks opens close_transaction refl
carried_one test place (Opens Stage) marks opens shut apart = open_stage test place marks opens shut apart

end_apart : (here : ℕ) (kind : EventKind) (opens : List Opening) → IsApart (record { place = here; kind = kind } ∷ opens) → IsApart (drop (ended_by Ends (kinds_of (record { place = here; kind = kind } ∷ opens))) (record { place = here; kind = kind } ∷ opens))
end_apart here Wait opens apart = apart.1
end_apart here Statement opens apart = apart.1
end_apart here Transaction opens apart = apart.1
end_apart here Stage [] apart = tt
end_apart here Stage (next ∷ opens) apart = apart.1.1

stage_apart : (here : ℕ) (kind : EventKind) (opens : List Opening) → IsApart (record { place = here; kind = kind } ∷ opens) → IsApart (drop (stages_first (kind ∷ kinds_of opens)) (record { place = here; kind = kind } ∷ opens)) × (stages_first (kinds_of (drop (stages_first (kind ∷ kinds_of opens)) (record { place = here; kind = kind } ∷ opens))) ≡ 0)
stage_apart here Wait opens apart = (apart, refl)
stage_apart here Statement opens apart = (apart, refl)
stage_apart here Transaction opens apart = (apart, refl)
stage_apart here Stage opens apart = (apart.1, apart.0)

alone_apart : (opens : List Opening) → IsApart opens → IsApart (drop (stages_first (kinds_of opens)) opens) × (stages_first (kinds_of (drop (stages_first (kinds_of opens)) opens)) ≡ 0)
alone_apart [] apart = (tt, refl)
alone_apart (event ∷ opens) apart = stage_apart event.place event.kind opens apart

apart_after : (place : ℕ) (mark : Mark) (opens : List Opening) → IsApart opens → IsApart (after place mark opens)
apart_after place Ends [] apart = tt
apart_after place Ends (event ∷ opens) apart = end_apart event.place event.kind opens apart
apart_after place EndsStage opens apart = (alone_apart opens apart).0
apart_after place Passes opens apart = apart
apart_after place (Opens Wait) opens apart = (tt, apart)
apart_after place (Opens Statement) opens apart = (tt, apart)
apart_after place (Opens Transaction) opens apart = (tt, apart)
apart_after place (Opens Stage) opens apart = ((alone_apart opens apart).1, (alone_apart opens apart).0)

-- marks one after another
carried : (test : Option ℕ → Bool) (place last : ℕ) (marks more : List Mark) (opens : List Opening) → IsApart opens → last ≡ place + length marks → ((i : ℕ) → place ≤ i → i < last → test (Some i) ≡ false) → openings_where test place (marks ++ more) ++ chosen test place 0 opens (marks ++ more) ≡ openings_where test last more ++ chosen test last 0 (run place marks opens) more
carried test place last [] more opens apart ends shut =
    let same : last ≡ place = omega (arith, ends) in
    rw same refl
carried test place last (mark ∷ marks) more opens apart ends shut =
    let one : openings_where test place (mark ∷ marks ++ more) ++ chosen test place 0 opens (mark ∷ marks ++ more) ≡ openings_where test (place + 1) (marks ++ more) ++ chosen test (place + 1) 0 (after place mark opens) (marks ++ more) = carried_one test place mark (marks ++ more) opens (shut place (omega arith) (omega (arith, ends))) apart in
    one ∙ carried test (place + 1) last marks more (after place mark opens) (apart_after place mark opens apart) (omega (arith, ends)) (λ i low high. shut i (omega arith) high)

-- nothing closes where no mark comes
chosen_all : (place depth : ℕ) (opens : List Opening) → chosen is_unclosed place depth opens [] ≡ opens
unfolding closing_from
chosen_all place depth [] = refl
chosen_all place depth (event ∷ opens) = ap (λ events. event ∷ events) (chosen_all place (deeper event.kind depth) opens)

nothing_from : (test : Option ℕ → Bool) (place : ℕ) → openings_where test place [] ≡ []
unfolding brackets_from
nothing_from test place = refl

pub open_is_run : (marks : List Mark) → open_in marks ≡ run 0 marks []
open_is_run marks =
    let all : openings_where is_unclosed 0 (marks ++ []) ++ [] ≡ openings_where is_unclosed (length marks) [] ++ chosen is_unclosed (length marks) 0 (run 0 marks []) [] = carried is_unclosed 0 (length marks) marks [] [] tt (omega arith) (λ i low high. refl) in
    let left : openings_where is_unclosed 0 (marks ++ []) ++ [] ≡ open_in marks = rw (append-nil marks) (append-nil (open_in marks)) in
    let right : openings_where is_unclosed (length marks) [] ++ chosen is_unclosed (length marks) 0 (run 0 marks []) [] ≡ run 0 marks [] = rw (nothing_from is_unclosed (length marks)) (chosen_all (length marks) 0 (run 0 marks [])) in
    sym left ∙ all ∙ right

run_more : (place last : ℕ) (marks : List Mark) (mark : Mark) (opens : List Opening) → last ≡ place + length marks → run place (marks ++ mark ∷ []) opens ≡ after last mark (run place marks opens)
run_more place last [] mark opens ends =
    let same : last ≡ place = omega (arith, ends) in
    rw same refl
run_more place last (first ∷ marks) mark opens ends =
    run_more (place + 1) last marks mark (after place first opens) (omega (arith, ends))

apart_run : (place : ℕ) (marks : List Mark) (opens : List Opening) → IsApart opens → IsApart (run place marks opens)
apart_run place [] opens apart = apart
apart_run place (mark ∷ marks) opens apart = apart_run (place + 1) marks (after place mark opens) (apart_after place mark opens apart)

-- the first law: what is open behind one more mark
pub open_more : (marks : List Mark) (mark : Mark) → open_in (marks ++ mark ∷ []) ≡ after (length marks) mark (open_in marks)
open_more marks mark =
    open_is_run (marks ++ mark ∷ []) ∙ run_more 0 (length marks) marks mark [] (omega arith) ∙ ap (λ opens. after (length marks) mark opens) (sym (open_is_run marks))

-- at its own place a mark closes what it ends
same_place : (place : ℕ) → closes_at place (Some place) ≡ true
same_place place = grind arith

never : (place depth : ℕ) (opens : List Opening) (mark : Mark) → chosen (closes_at place) place (suc depth) opens (mark ∷ []) ≡ []
unfolding closing_from
never place depth [] mark = refl
never place depth (event ∷ opens) mark = rw deeper_suc (never place (deeper event.kind depth) opens mark)

last_below : (place here : ℕ) (kind : EventKind) (opens : List Opening) → stages_first (kind ∷ kinds_of opens) ≡ 0 → chosen (closes_at place) place 0 (record { place = here; kind = kind } ∷ opens) (Ends ∷ []) ≡ record { place = here; kind = kind } ∷ []
unfolding closing_from
last_below place here Wait opens apart = rw (same_place place, never place 0 opens Ends) refl
last_below place here Statement opens apart = rw (same_place place, never place 0 opens Ends) refl
last_below place here Transaction opens apart = rw (same_place place, never place 0 opens Ends) refl
last_below place here Stage opens apart = absurd (cc)

last_end : (place here : ℕ) (kind : EventKind) (opens : List Opening) → IsApart (record { place = here; kind = kind } ∷ opens) → chosen (closes_at place) place 0 (record { place = here; kind = kind } ∷ opens) (Ends ∷ []) ≡ take (ended_by Ends (kinds_of (record { place = here; kind = kind } ∷ opens))) (record { place = here; kind = kind } ∷ opens)
unfolding closing_from
last_end place here Wait opens apart = rw (same_place place, never place 0 opens Ends) refl
last_end place here Statement opens apart = rw (same_place place, never place 0 opens Ends) refl
last_end place here Transaction opens apart = rw (same_place place, never place 0 opens Ends) refl
last_end place here Stage [] apart = rw (same_place place) refl
last_end place here Stage (next ∷ opens) apart =
    ap (λ b. cond b (record { place = here; kind = Stage } ∷ []) [] ++ chosen (closes_at place) place 0 (next ∷ opens) (Ends ∷ [])) (same_place place)
    ∙ ap (λ events. record { place = here; kind = Stage } ∷ events) (last_below place next.place next.kind opens apart.0)

not_here : (place : ℕ) (kind : EventKind) (mark : Mark) → EndsAlone mark → is_stage kind ≡ false → closing_from place kind 0 (mark ∷ []) ≡ None
unfolding closing_from
not_here place kind mark alone other = rw (alone.2 kind, other) refl

here_alone : (place : ℕ) (mark : Mark) → EndsAlone mark → closing_from place Stage 0 (mark ∷ []) ≡ Some place
unfolding closing_from
here_alone place mark alone = rw (alone.2 Stage) refl

none_alone : (place here : ℕ) (kind : EventKind) (opens : List Opening) (mark : Mark) → EndsAlone mark → stages_first (kind ∷ kinds_of opens) ≡ 0 → chosen (closes_at place) place 0 (record { place = here; kind = kind } ∷ opens) (mark ∷ []) ≡ []
none_alone place here Wait opens mark alone apart = rw (not_here place Wait mark alone refl, never place 0 opens mark) refl
none_alone place here Statement opens mark alone apart = rw (not_here place Statement mark alone refl, never place 0 opens mark) refl
none_alone place here Transaction opens mark alone apart = rw (not_here place Transaction mark alone refl, never place 0 opens mark) refl
none_alone place here Stage opens mark alone apart = absurd (cc)

none_first : (place : ℕ) (opens : List Opening) (mark : Mark) → EndsAlone mark → stages_first (kinds_of opens) ≡ 0 → chosen (closes_at place) place 0 opens (mark ∷ []) ≡ []
none_first place [] mark alone apart = refl
none_first place (event ∷ opens) mark alone apart = none_alone place event.place event.kind opens mark alone apart

last_alone : (place here : ℕ) (kind : EventKind) (opens : List Opening) (mark : Mark) → EndsAlone mark → IsApart (record { place = here; kind = kind } ∷ opens) → chosen (closes_at place) place 0 (record { place = here; kind = kind } ∷ opens) (mark ∷ []) ≡ take (stages_first (kind ∷ kinds_of opens)) (record { place = here; kind = kind } ∷ opens)
last_alone place here Wait opens mark alone apart = none_alone place here Wait opens mark alone refl
last_alone place here Statement opens mark alone apart = none_alone place here Statement opens mark alone refl
last_alone place here Transaction opens mark alone apart = none_alone place here Transaction opens mark alone refl
last_alone place here Stage opens mark alone apart =
    rw (here_alone place mark alone, same_place place, none_first place opens mark alone apart.0) refl

last_all_alone : (place : ℕ) (opens : List Opening) (mark : Mark) → EndsAlone mark → IsApart opens → chosen (closes_at place) place 0 opens (mark ∷ []) ≡ take (stages_first (kinds_of opens)) opens
last_all_alone place [] mark alone apart = refl
last_all_alone place (event ∷ opens) mark alone apart = last_alone place event.place event.kind opens mark alone apart

never_deeper : (kind : EventKind) → Deepens (Opens kind) → (place depth : ℕ) (opens : List Opening) → chosen (closes_at place) place depth opens (Opens kind ∷ []) ≡ []
unfolding closing_from
never_deeper kind deepens place depth [] = refl
never_deeper kind deepens place depth (event ∷ opens) =
    rw (deepens place event.kind depth [], never_deeper kind deepens place (deeper event.kind depth) opens) refl

never_passes : (place depth : ℕ) (opens : List Opening) → chosen (closes_at place) place depth opens (Passes ∷ []) ≡ []
unfolding closing_from
never_passes place depth [] = refl
never_passes place depth (event ∷ opens) = rw (close_pass place event.kind depth [], never_passes place (deeper event.kind depth) opens) refl

last_mark : (place : ℕ) (opens : List Opening) (mark : Mark) → IsApart opens → chosen (closes_at place) place 0 opens (mark ∷ []) ≡ take (ended_by mark (kinds_of opens)) opens
last_mark place [] Ends apart = refl
last_mark place (event ∷ opens) Ends apart = last_end place event.place event.kind opens apart
last_mark place opens EndsStage apart = last_all_alone place opens EndsStage ends_stage_alone apart
last_mark place opens Passes apart = never_passes place 0 opens
last_mark place opens (Opens Wait) apart = never_deeper Wait close_wait place 0 opens
last_mark place opens (Opens Statement) apart = never_deeper Statement close_statement place 0 opens
last_mark place opens (Opens Transaction) apart = never_deeper Transaction close_transaction place 0 opens
last_mark place opens (Opens Stage) apart = last_all_alone place opens (Opens Stage) stage_alone apart

other_place : (place i : ℕ) → i < place → closes_at place (Some i) ≡ false
other_place place i below = grind (arith, below)

later_place : (place i : ℕ) → place < i → closes_at place (Some i) ≡ false
later_place place i above = grind (arith, above)

-- what closes later doesn't close here
closes_later : (place from : ℕ) (kind : EventKind) (depth : ℕ) (marks : List Mark) → place < from → closes_at place (closing_from from kind depth marks) ≡ false
unfolding closing_from
closes_later place from kind depth [] above = refl
closes_later place from kind depth (mark ∷ marks) above =
    elim (closes kind depth mark) as (λ b. closes_at place (cond b (Some from) (closing_from (from + 1) kind (depth_behind mark depth) marks)) ≡ false) [
      | true ↦ later_place place from above
      | false ↦ closes_later place (from + 1) kind (depth_behind mark depth) marks (omega (arith, above))
    ]

opens_later : (place from : ℕ) (marks : List Mark) → place ≤ from → openings_where (closes_at place) from marks ≡ []
unfolding brackets_from
opens_later place from [] above = nothing_from (closes_at place) from
opens_later place from (Opens kind ∷ marks) above =
    rw (opened_first (closes_at place) from kind marks, closes_later place (from + 1) kind 0 marks (omega (arith, above)), opens_later place (from + 1) marks (omega (arith, above))) refl
opens_later place from (Ends ∷ marks) above = opens_later place (from + 1) marks (omega (arith, above))
opens_later place from (EndsStage ∷ marks) above = opens_later place (from + 1) marks (omega (arith, above))
opens_later place from (Passes ∷ marks) above = opens_later place (from + 1) marks (omega (arith, above))

-- whether an event closes at a mark doesn't hang on the marks behind it
closes_now : (place : ℕ) (kind : EventKind) (depth : ℕ) (mark : Mark) (more : List Mark) → closes_at place (closing_from place kind depth (mark ∷ more)) ≡ closes_at place (closing_from place kind depth (mark ∷ []))
unfolding closing_from
closes_now place kind depth mark more =
    elim (closes kind depth mark) as (λ b. closes_at place (cond b (Some place) (closing_from (place + 1) kind (depth_behind mark depth) more)) ≡ closes_at place (cond b (Some place) None)) [
      | true ↦ refl
      | false ↦ closes_later place (place + 1) kind (depth_behind mark depth) more (omega arith)
    ]

chosen_now : (place depth : ℕ) (opens : List Opening) (mark : Mark) (more : List Mark) → chosen (closes_at place) place depth opens (mark ∷ more) ≡ chosen (closes_at place) place depth opens (mark ∷ [])
chosen_now place depth [] mark more = refl
chosen_now place depth (event ∷ opens) mark more =
    rw (closes_now place event.kind depth mark more, chosen_now place (deeper event.kind depth) opens mark more) refl

-- the second law: what a mark closes, whatever stands behind it
pub closed_by : (marks : List Mark) (mark : Mark) (more : List Mark) → closed_at (marks ++ mark ∷ more) (length marks) ≡ take (ended_by mark (kinds_of (open_in marks))) (open_in marks)
closed_by marks mark more =
    let n = length marks in
    let test = closes_at n in
    let all : openings_where test 0 (marks ++ mark ∷ more) ++ [] ≡ openings_where test n (mark ∷ more) ++ chosen test n 0 (run 0 marks []) (mark ∷ more) = carried test 0 n marks (mark ∷ more) [] tt (omega arith) (λ i low high. other_place n i high) in
    let last : chosen test n 0 (run 0 marks []) (mark ∷ more) ≡ take (ended_by mark (kinds_of (run 0 marks []))) (run 0 marks []) = chosen_now n 0 (run 0 marks []) mark more ∙ last_mark n (run 0 marks []) mark (apart_run 0 marks [] tt) in
    sym (append-nil (openings_where test 0 (marks ++ mark ∷ more))) ∙ all ∙ ap (λ events. events ++ chosen test n 0 (run 0 marks []) (mark ∷ more)) (opens_later n n (mark ∷ more) (omega arith))
    ∙ last ∙ ap (λ opens. take (ended_by mark (kinds_of opens)) opens) (sym (open_is_run marks))

kinds-drop : (n : ℕ) (opens : List Opening) → kinds_of (drop n opens) ≡ drop n (kinds_of opens)
kinds-drop zero opens = refl
kinds-drop (suc n) [] = refl
kinds-drop (suc n) (event ∷ opens) = kinds-drop n opens

kinds-after : (place : ℕ) (mark : Mark) (opens : List Opening) → kinds_of (after place mark opens) ≡ kinds_behind mark (kinds_of opens)
kinds-after place (Opens kind) opens = ap (λ kinds. kind ∷ kinds) (kinds-drop (ended_by (Opens kind) (kinds_of opens)) opens)
kinds-after place Ends opens = kinds-drop (ended_by Ends (kinds_of opens)) opens
kinds-after place EndsStage opens = kinds-drop (ended_by EndsStage (kinds_of opens)) opens
kinds-after place Passes opens = refl

-- the third law: the kinds of what is open hang on those before the mark alone
pub kinds_more : (marks : List Mark) (mark : Mark) → kinds_of (open_in (marks ++ mark ∷ [])) ≡ kinds_behind mark (kinds_of (open_in marks))
kinds_more marks mark = ap kinds_of (open_more marks mark) ∙ kinds-after (length marks) mark (open_in marks)

-- where the same kinds are open, the same marks may follow, and leave the same kinds
follows_same : (one other marks : List Mark) → kinds_of (open_in one) ≡ kinds_of (open_in other) → Follows one marks → Follows other marks × (kinds_of (open_in (one ++ marks)) ≡ kinds_of (open_in (other ++ marks)))
follows_same one other [] same follows = (tt, rw (append-nil one, append-nil other) same)
follows_same one other (mark ∷ marks) same follows =
    let first : may_follow other mark ≡ true = ap (λ kinds. may_stand kinds mark) (sym same) ∙ follows.0 in
    let behind : kinds_of (open_in (one ++ mark ∷ [])) ≡ kinds_of (open_in (other ++ mark ∷ [])) = kinds_more one mark ∙ ap (kinds_behind mark) same ∙ sym (kinds_more other mark) in
    let rest : Follows (other ++ mark ∷ []) marks × (kinds_of (open_in ((one ++ mark ∷ []) ++ marks)) ≡ kinds_of (open_in ((other ++ mark ∷ []) ++ marks))) = follows_same (one ++ mark ∷ []) (other ++ mark ∷ []) marks behind follows.1 in
    ((first, rest.0), ap (λ m. kinds_of (open_in m)) (sym (append_assoc one (mark ∷ []) marks)) ∙ rest.1 ∙ ap (λ m. kinds_of (open_in m)) (append_assoc other (mark ∷ []) marks))

-- marks behind marks
pub follows_append : (before one other : List Mark) → Follows before one → Follows (before ++ one) other → Follows before (one ++ other)
follows_append before [] other first second = let P : List Mark → Type 0 = λ m. Follows m other in subst P (append-nil before) second
follows_append before (mark ∷ one) other first second =
    let P : List Mark → Type 0 = λ m. Follows m other in
    (first.0, follows_append (before ++ mark ∷ []) one other first.1 (subst P (sym (append_assoc before (mark ∷ []) one)) second))

-- the fourth law: marks that leave the kinds of the open events as they were may stand so many times as one likes
pub repeats : (before body : List Mark) → Follows before body → kinds_of (open_in (before ++ body)) ≡ kinds_of (open_in before) → (times : ℕ) → Follows before (copies times body) × (kinds_of (open_in (before ++ copies times body)) ≡ kinds_of (open_in before))
unfolding copies
repeats before body follows same zero = (tt, ap (λ m. kinds_of (open_in m)) (append-nil before))
repeats before body follows same (suc times) =
    let rest = repeats before body follows same times in
    let moved : Follows (before ++ body) (copies times body) × (kinds_of (open_in (before ++ copies times body)) ≡ kinds_of (open_in ((before ++ body) ++ copies times body))) = follows_same before (before ++ body) (copies times body) (sym same) rest.0 in
    (follows_append before body (copies times body) follows moved.0, ap (λ m. kinds_of (open_in m)) (sym (append_assoc before body (copies times body))) ∙ sym moved.1 ∙ rest.1)
