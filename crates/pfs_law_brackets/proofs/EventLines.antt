-- Where the events of lines open and close.
use Rattle.std.proofs.Common.{ℕ, zero, suc, ◌≡◌, ◌+◌, ◌<◌, ◌≤◌, ◌&&◌, nat_lt, Bool, true, false, cond, List, [], ◌∷◌, ◌++◌, length, map, reverse, filter, Option, Some, None, refl, ap, sym, ◌∙◌, subst, arith}
use Rattle.std.specs.Prelude.{slice_get}
use Rattle.std.proofs.lemmas.Bool.{eqb-true}
use Rattle.std.proofs.lemmas.List.{reverse-append}
use Rattle.pfs_event.specs.Verdicts.{is_let_through}
use Rattle.pfs_event.specs.declared.kind.EventKind.{EventKind}
use Rattle.pfs_event.specs.declared.verdict.Verdict.{Verdict}
use Rattle.pfs_model.proofs.EachLists.{each_join}
use Rattle.pfs_model.specs.Chains.{Each, times}
use Rattle.pfs_script.specs.Brackets.{Bracket, Opening, brackets_from, closed_at, closes_at, closing_from, opening_of}
use Rattle.pfs_script.specs.EventRules.{AreEvents, bracket_of}
use Rattle.pfs_script.specs.Events.{Event}
use Rattle.pfs_script.specs.Marks.{Mark, Opens, Ends, EndsStage, Passes}
use Rattle.pfs_script.specs.declared.blocks.BlockLine.{BlockLine}
use Rattle.pfs_law_brackets.specs.BracketNumbers.{through_before}

-- how many events marks open
abbrev pub opens : List Mark → ℕ
opens [] = 0
opens (Opens kind ∷ marks) = suc (opens marks)
opens (Ends ∷ marks) = opens marks
opens (EndsStage ∷ marks) = opens marks
opens (Passes ∷ marks) = opens marks

pub opens_then : (xs ys : List Mark) → opens (xs ++ ys) ≡ opens xs + opens ys
opens_then [] ys = omega arith
opens_then (Opens kind ∷ xs) ys = omega (arith, opens_then xs ys)
opens_then (Ends ∷ xs) ys = opens_then xs ys
opens_then (EndsStage ∷ xs) ys = opens_then xs ys
opens_then (Passes ∷ xs) ys = opens_then xs ys

-- the events of marks, each at its mark
abbrev pub Matches : ℕ → List Mark → List Event → Type 0
Matches place [] events = events ≡ []
Matches place (Opens kind ∷ marks) [] = ⊥
Matches place (Opens kind ∷ marks) (event ∷ events) = (event.opened ≡ place) × (event.subject.kind ≡ kind) × Matches (place + 1) marks events
Matches place (Ends ∷ marks) events = Matches (place + 1) marks events
Matches place (EndsStage ∷ marks) events = Matches (place + 1) marks events
Matches place (Passes ∷ marks) events = Matches (place + 1) marks events

pub matches : (place : ℕ) (marks : List Mark) (events : List Event) → map bracket_of events ≡ brackets_from place marks → Matches place marks events
unfolding brackets_from
matches place [] [] e = refl
matches place [] (event ∷ events) e = absurd (cc)
matches place (Opens kind ∷ marks) [] e = absurd (cc)
matches place (Opens kind ∷ marks) (event ∷ events) e =
    let first : bracket_of event ≡ record { opened = place; kind = kind; closed = closing_from (place + 1) kind 0 marks } = cc in
    let rest : map bracket_of events ≡ brackets_from (place + 1) marks = cc in
    (ap (λ (b : Bracket). b.opened) first, ap (λ (b : Bracket). b.kind) first, matches (place + 1) marks events rest)
matches place (Ends ∷ marks) events e = matches (place + 1) marks events e
matches place (EndsStage ∷ marks) events e = matches (place + 1) marks events e
matches place (Passes ∷ marks) events e = matches (place + 1) marks events e

-- the first so many opened before a line, and the others at it or behind
abbrev pub Parted : ℕ → ℕ → List Event → Type 0
Parted zero place events = Each (λ (event : Event). place ≤ event.opened) events
Parted (suc n) place [] = ⊥
Parted (suc n) place (event ∷ events) = (event.opened < place) × Parted n place events

behind : (place low : ℕ) (marks : List Mark) (events : List Event) → low ≤ place → Matches place marks events → Each (λ (event : Event). low ≤ event.opened) events
behind place low [] events l m = subst (Each (λ (event : Event). low ≤ event.opened)) (sym m) tt
behind place low (Opens kind ∷ marks) [] l m = absurd m
behind place low (Opens kind ∷ marks) (event ∷ events) l m = (omega (arith, m.0, l), behind (place + 1) low marks events (omega (arith, l)) m.2)
behind place low (Ends ∷ marks) events l m = behind (place + 1) low marks events (omega (arith, l)) m
behind place low (EndsStage ∷ marks) events l m = behind (place + 1) low marks events (omega (arith, l)) m
behind place low (Passes ∷ marks) events l m = behind (place + 1) low marks events (omega (arith, l)) m

pub parted : (place at : ℕ) (before rest : List Mark) (events : List Event) → at ≡ place + length before → Matches place (before ++ rest) events → Parted (opens before) at events
parted place at [] rest events e m = behind place at rest events (omega (arith, e)) m
parted place at (Opens kind ∷ before) rest [] e m = absurd m
parted place at (Opens kind ∷ before) rest (event ∷ events) e m = (omega (arith, e, m.0), parted (place + 1) at before rest events (omega (arith, e)) m.2)
parted place at (Ends ∷ before) rest events e m = parted (place + 1) at before rest events (omega (arith, e)) m
parted place at (EndsStage ∷ before) rest events e m = parted (place + 1) at before rest events (omega (arith, e)) m
parted place at (Passes ∷ before) rest events e m = parted (place + 1) at before rest events (omega (arith, e)) m

less_true : (a b : ℕ) → a < b → nat_lt a b ≡ true
less_true a b l = grind (arith, l)

less_false : (a b : ℕ) → b ≤ a → nat_lt a b ≡ false
less_false a b l = grind (arith, l)

none_through : (place : ℕ) (verdicts : List Verdict) (events : List Event) → Each (λ (event : Event). place ≤ event.opened) events → through_before place events verdicts ≡ 0
none_through place verdicts [] p = refl
none_through place [] (event ∷ events) p = refl
none_through place (verdict ∷ verdicts) (event ∷ events) p =
    let off = ap (λ b. cond {A = ℕ} (b && is_let_through verdict) 1 0) (less_false event.opened place p.0) in
    omega (arith, off, none_through place verdicts events p.1)

-- so many were let through before the line
pub through_is : (place : ℕ) (front later : List Verdict) (events : List Event) → Parted (length front) place events → through_before place events (front ++ later) ≡ times is_let_through front
through_is place [] later events p = none_through place later events p
through_is place (verdict ∷ front) later [] p = absurd p
through_is place (verdict ∷ front) later (event ∷ events) p =
    ap (λ b. cond (b && is_let_through verdict) 1 0 + through_before place events (front ++ later)) (less_true event.opened place p.0)
    ∙ ap (λ n. cond (is_let_through verdict) 1 0 + n) (through_is place front later events p.1)

-- the event that a line opens stands behind those that opened before it
pub record OpensAt (events : List Event) (index place : ℕ) (kind : EventKind) : Type 0 where
  pub said : Event
  pub there : slice_get events index ≡ Some said
  pub opened : said.opened ≡ place
  pub kind_is : said.subject.kind ≡ kind

pub opens_at : (place at : ℕ) (before : List Mark) (kind : EventKind) (rest : List Mark) (events : List Event) → at ≡ place + length before → Matches place (before ++ Opens kind ∷ rest) events → OpensAt events (opens before) at kind
opens_at place at [] kind rest [] e m = absurd m
opens_at place at [] kind rest (event ∷ events) e m = record { said = event; there = refl; opened = omega (arith, m.0, e); kind_is = m.1 }
opens_at place at (Opens other ∷ before) kind rest [] e m = absurd m
opens_at place at (Opens other ∷ before) kind rest (event ∷ events) e m =
    let o = opens_at (place + 1) at before kind rest events (omega (arith, e)) m.2 in record { said = o.said; there = o.there; opened = o.opened; kind_is = o.kind_is }
opens_at place at (Ends ∷ before) kind rest events e m = opens_at (place + 1) at before kind rest events (omega (arith, e)) m
opens_at place at (EndsStage ∷ before) kind rest events e m = opens_at (place + 1) at before kind rest events (omega (arith, e)) m
opens_at place at (Passes ∷ before) kind rest events e m = opens_at (place + 1) at before kind rest events (omega (arith, e)) m

-- an event whose bracket closes at a line
pub record ClosesAt (events : List Event) (at : ℕ) (opening : Opening) : Type 0 where
  pub index : ℕ
  pub said : Event
  pub there : slice_get events index ≡ Some said
  pub opened : said.opened ≡ opening.place
  pub closes : said.closed ≡ Some at

closed_some : (at : ℕ) (closed : Option ℕ) → closes_at at closed ≡ true → closed ≡ Some at
closed_some at None q = absurd (cc)
closed_some at (Some other) q = ap Some (eqb-true other at q)

each_more : (event : Event) (events : List Event) (at : ℕ) (openings : List Opening) → Each (ClosesAt events at) openings → Each (ClosesAt (event ∷ events) at) openings
each_more event events at [] each = tt
each_more event events at (o ∷ os) each = (record { index = suc each.0.index; said = each.0.said; there = each.0.there; opened = each.0.opened; closes = each.0.closes }, each_more event events at os each.1)

each_reverse : (P : Opening → Type 0) (xs : List Opening) → Each P xs → Each P (reverse xs)
each_reverse P [] each = tt
each_reverse P (x ∷ xs) each = subst (Each P) (sym (reverse-append (x ∷ []) xs)) (each_join P (reverse xs) (x ∷ []) (each_reverse P xs each.1) (each.0, tt))

chosen_close : (events : List Event) (at : ℕ) → Each (ClosesAt events at) (map opening_of (filter (λ (b : Bracket). closes_at at b.closed) (map bracket_of events)))
chosen_close [] at = tt
chosen_close (event ∷ events) at = on (closes_at at event.closed) refl (each_more event events at _ (chosen_close events at)) where
  others : List Bracket
  others = filter (λ (b : Bracket). closes_at at b.closed) (map bracket_of events)

  on : (b : Bool) → closes_at at event.closed ≡ b → Each (ClosesAt (event ∷ events) at) (map opening_of others) → Each (ClosesAt (event ∷ events) at) (map opening_of (cond b (bracket_of event ∷ others) others))
  on true q rest = (record { index = 0; said = event; there = refl; opened = refl; closes = closed_some at event.closed q }, rest)
  on false q rest = rest

pub all_close : (marks : List Mark) (events : List Event) (at : ℕ) → map bracket_of events ≡ brackets_from 0 marks → Each (ClosesAt events at) (closed_at marks at)
all_close marks events at e =
    each_reverse (ClosesAt events at) _ (subst (λ z. Each (ClosesAt events at) (map opening_of (filter (λ (b : Bracket). closes_at at b.closed) z))) e (chosen_close events at))

-- the event of an opening line is one
same_some : {A : Type 0} (a b : A) → Some a ≡ Some b → a ≡ b
same_some a b e = cc

pub same_event : (all : List BlockLine) (events : List Event) (are : AreEvents all events) (i j : ℕ) (a b : Event) → slice_get events i ≡ Some a → slice_get events j ≡ Some b → a.opened ≡ b.opened → a ≡ b
same_event all events are i j a b p q e = on (nat_lt i j) refl (nat_lt j i) refl where
  is_less : (i j : ℕ) → nat_lt i j ≡ true → i < j
  is_less i j x = grind (arith, x)

  equal : (i j : ℕ) → nat_lt i j ≡ false → nat_lt j i ≡ false → i ≡ j
  equal i j x z = grind (arith, x, z)

  on : (x : Bool) → nat_lt i j ≡ x → (y : Bool) → nat_lt j i ≡ y → a ≡ b
  on true x y z = absurd (let l = are.order i j a b p q (is_less i j x) in omega (arith, l, e))
  on false x true z = absurd (let l = are.order j i b a q p (is_less j i z) in omega (arith, l, e))
  on false x false z = same_some a b (sym p ∙ (ap (slice_get events) (equal i j x z) ∙ q))
