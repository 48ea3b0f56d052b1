-- The nest pairs as the brackets do.
use Rattle.std.proofs.Common.{◌≡◌, ℕ, zero, suc, ◌<◌, List, [], ◌∷◌, ◌++◌, length, Some, ◌⊎◌, inl, inr, refl, ap, sym, ◌∙◌, arith}
use Rattle.pfs_event.specs.declared.open.Open.{Open}
use Rattle.pfs_event.specs.NestBrackets.{Step, Starts, Ends, depth_after, IsInside, Took, open_after, ClosesNext}
use Rattle.pfs_event.specs.Nests.{OpenEvents}

-- the event was opened by one of the steps, or it was open before them and they never closed it
abbrev pub Opened : List Step → List Open → Open → List Open → Type 0
Opened steps events what others = (before : List Step) × ((inside : List Step) × ((steps ≡ before ++ Starts what ∷ inside) × IsInside inside × (open_after before events ≡ Some others)))

abbrev pub Kept : List Step → List Open → Open → List Open → Type 0
Kept steps events what others = (inner : List Open) × ((events ≡ inner ++ what ∷ others) × (depth_after (length inner) steps ≡ Some zero))

-- a start before the steps
after_start : (first : Open) (steps : List Step) (events : List Open) (what : Open) (others inner : List Open) → first ∷ events ≡ inner ++ what ∷ others → depth_after (length inner) steps ≡ Some zero → Opened (Starts first ∷ steps) events what others ⊎ Kept (Starts first ∷ steps) events what others
after_start first steps events what others [] is depth =
    let same : first ≡ what = cc in
    let rest : events ≡ others = cc in
    inl ([], (steps, (ap (λ e. Starts e ∷ steps) same, depth, ap (λ x. Some x) rest)))
after_start first steps events what others (other ∷ inner) is depth =
    let rest : events ≡ inner ++ what ∷ others = cc in
    inr (inner, (rest, depth))

pub found : (steps : List Step) (events : List Open) (what : Open) (others : List Open) → open_after steps events ≡ Some (what ∷ others) → Opened steps events what others ⊎ Kept steps events what others
found [] events what others h =
    let same : events ≡ what ∷ others = cc in
    inr ([], (same, refl))
found (Starts first ∷ steps) events what others h =
    elim (found steps (first ∷ events) what others h) [
      | inl (before, (inside, (is, closed, opened))) ↦
          inl (Starts first ∷ before, (inside, (ap (λ s. Starts first ∷ s) is, closed, opened)))
      | inr (inner, (is, depth)) ↦ after_start first steps events what others inner is depth
    ]
found (Ends ∷ steps) [] what others h = absurd (cc)
found (Ends ∷ steps) (last ∷ events) what others h =
    elim (found steps events what others h) [
      | inl (before, (inside, (is, closed, opened))) ↦
          inl (Ends ∷ before, (inside, (ap (λ s. Ends ∷ s) is, closed, opened)))
      | inr (inner, (is, depth)) ↦ inr (last ∷ inner, (ap (λ s. last ∷ s) is, depth))
    ]

-- steps inside which all is closed leave what is below alone
pub left_alone : (steps : List Step) (inner below : List Open) → depth_after (length inner) steps ≡ Some zero → open_after steps (inner ++ below) ≡ Some below
left_alone [] [] below h = refl
left_alone [] (what ∷ inner) below h = absurd (cc)
left_alone (Starts what ∷ steps) inner below h = left_alone steps (what ∷ inner) below h
left_alone (Ends ∷ steps) [] below h = absurd (cc)
left_alone (Ends ∷ steps) (what ∷ inner) below h = left_alone steps inner below h

-- steps one after another
pub open_after-append : (before steps : List Step) (events middle : List Open) → open_after before events ≡ Some middle → open_after (before ++ steps) events ≡ open_after steps middle
open_after-append [] steps events middle h =
    let same : events ≡ middle = cc in
    ap (λ e. open_after steps e) same
open_after-append (Starts what ∷ before) steps events middle h =
    open_after-append before steps (what ∷ events) middle h
open_after-append (Ends ∷ before) steps [] middle h = absurd (cc)
open_after-append (Ends ∷ before) steps (what ∷ events) middle h =
    open_after-append before steps events middle h

pub closes : (steps : List Step) (what : Open) (others : List Open) → open_after steps [] ≡ Some (what ∷ others) → ClosesNext steps what others
closes steps what others h =
    elim (found steps [] what others h) [
      | inl opened ↦ opened
      | inr ([], (is, depth)) ↦ absurd (cc is)
      | inr (other ∷ inner, (is, depth)) ↦ absurd (cc is)
    ]

pub given : (steps : List Step) (what : Open) (others : List Open) → ClosesNext steps what others → open_after steps [] ≡ Some (what ∷ others)
given steps what others (before, (inside, (is, closed, opened))) =
    rw (is, open_after-append before (Starts what ∷ inside) [] others opened) (left_alone inside [] (what ∷ others) closed)

-- what the nest took leaves open what the steps say
pub took_is : (old new : OpenEvents) → (steps : List Step) → Took old steps new → open_after steps old.events ≡ Some new.events
took_is old new [] same = ap (λ n. Some n.events) (sym same)
took_is old new (Starts what ∷ steps) (next, ((may, room, is), rest)) =
    ap (λ n. open_after steps n.events) (sym is) ∙ took_is next new steps rest
took_is old new (Ends ∷ steps) (next, (what, (is, rest))) =
    ap (λ n. open_after (Ends ∷ steps) n.events) is ∙ took_is next new steps rest

-- the same steps don't end at the ground from two depths
deeper : (steps : List Step) (low high : ℕ) → low < high → depth_after low steps ≡ Some zero → depth_after high steps ≡ Some zero → ⊥
deeper [] low high below closed h =
    let ground : high ≡ zero = cc in
    omega (arith, below, ground)
deeper (Starts what ∷ steps) low high below closed h =
    deeper steps (suc low) (suc high) (omega arith) closed h
deeper (Ends ∷ steps) zero high below closed h = absurd (cc)
deeper (Ends ∷ steps) (suc low) zero below closed h = absurd (omega (arith, below))
deeper (Ends ∷ steps) (suc low) (suc high) below closed h =
    deeper steps low high (omega arith) closed h

-- an opening is not closed within the steps after it, if those after a later opening close all of theirs
not_closed : (steps : List Step) (that : Open) (between : List Step) (depth : ℕ) → IsInside between → depth_after depth (steps ++ Starts that ∷ between) ≡ Some zero → ⊥
not_closed [] that between depth inside h = deeper between zero (suc depth) (omega arith) inside h
not_closed (Starts what ∷ steps) that between depth inside h =
    not_closed steps that between (suc depth) inside h
not_closed (Ends ∷ steps) that between zero inside h = absurd (cc)
not_closed (Ends ∷ steps) that between (suc depth) inside h =
    not_closed steps that between depth inside h

pub one_opening : (before inside other between : List Step) (what that : Open) → before ++ Starts what ∷ inside ≡ other ++ Starts that ∷ between → IsInside inside → IsInside between → before ≡ other
one_opening [] inside [] between what that same closed closed' = refl
one_opening [] inside (first ∷ other) between what that same closed closed' =
    let rest : inside ≡ other ++ Starts that ∷ between = cc in
    absurd (not_closed other that between zero closed' (ap (λ s. depth_after zero s) (sym rest) ∙ closed))
one_opening (first ∷ before) inside [] between what that same closed closed' =
    let rest : between ≡ before ++ Starts what ∷ inside = cc in
    absurd (not_closed before what inside zero closed (ap (λ s. depth_after zero s) (sym rest) ∙ closed'))
one_opening (first ∷ before) inside (second ∷ other) between what that same closed closed' =
    let heads : first ≡ second = cc in
    let tails : before ++ Starts what ∷ inside ≡ other ++ Starts that ∷ between = cc in
    let rest : before ≡ other = one_opening before inside other between what that tails closed closed' in
    cc
