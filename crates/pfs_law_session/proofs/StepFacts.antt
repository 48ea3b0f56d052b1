-- The steps of a session have facts.
use Rattle.std.proofs.Common.{ℕ, ◌≡◌, ◌<◌, ◌≤◌, ◌+◌, ◌-◌, ◌%◌, ◌^◌, Bool, true, false, List, [], ◌∷◌, ◌++◌, drop, eq-eqb, ne_eqb, refl, ap, sym, ◌∙◌, subst, arith}
use Rattle.std.specs.Prelude.{◌==◌, if◌then◌else◌}
use Rattle.pfs_model.specs.Contents.{Facts}
use Rattle.pfs_session.specs.Ends.{numbers_for}
use Rattle.pfs_session.specs.Turns.{Step, StartsEvent, EndsEvent, Spends, SettlesHeld, Connects, Quits, Truncates, Changes, Inquires, steps_of}
use Rattle.pfs_session.specs.declared.events.Numbers.{Numbers}
use Rattle.pfs_law_session.specs.Amounts.{Going, Clocked, at_first, stepped, all_stepped, IsMeasured, EndFacts, StepFacts, AreFacts, AllFacts, FactsLaw}
use Rattle.pfs_law_session.specs.Deeds.{Part}

-- all but the start
abbrev apart : Facts → Facts
apart facts = record facts { start = 0 }

abbrev AllApart : (ℕ → Facts) → (ℕ → Facts) → List Going → Type 0
AllApart f g [] = Unit {0}
AllApart f g (e ∷ es) = (apart (f e.index) ≡ apart (g e.index)) × AllApart f g es

measured_same : (clock : ℕ) (numbers : Numbers) (e : Going) (x y : Facts) → apart x ≡ apart y → IsMeasured clock numbers e x → IsMeasured clock numbers e y
measured_same clock numbers e x y same m = record {
  duration = ap (λ (z : Facts). z.duration) (sym same) ∙ m.duration;
  lock = ap (λ (z : Facts). z.lock) (sym same) ∙ m.lock;
  errors = ap (λ (z : Facts). z.errors) (sym same) ∙ m.errors;
  warnings = ap (λ (z : Facts). z.warnings) (sym same) ∙ m.warnings;
  affected = ap (λ (z : Facts). z.affected) (sym same) ∙ m.affected;
  sent = ap (λ (z : Facts). z.sent) (sym same) ∙ m.sent;
  examined = ap (λ (z : Facts). z.examined) (sym same) ∙ m.examined;
}

end_keeps : (f g : ℕ → Facts) (clock : ℕ) (numbers : Numbers) (going : List Going) → AllApart f g going → EndFacts f clock numbers going → EndFacts g clock numbers going
end_keeps f g clock numbers [] a e = tt
end_keeps f g clock numbers (x ∷ xs) a e = measured_same clock numbers x (f x.index) (g x.index) a.0 e

apart_drop : (f g : ℕ → Facts) (going : List Going) → AllApart f g going → AllApart f g (drop 1 going)
apart_drop f g [] a = tt
apart_drop f g (x ∷ xs) a = a.1

-- other facts serve as well where they are the same of the events to come, and but for the start of those that go on
keeps : (f g : ℕ → Facts) (k : Clocked) (steps : List Step) → ((i : ℕ) → k.begun ≤ i → f i ≡ g i) → AllApart f g k.going → AreFacts f k steps → AreFacts g k steps
keeps f g k [] later now a = tt
keeps f g k (StartsEvent subject ∷ steps) later now a =
    let here : f k.begun ≡ g k.begun = later k.begun (omega arith) in (
      ap (λ (z : Facts). z.start) (sym here) ∙ a.0,
      keeps f g (stepped k (StartsEvent subject)) steps (λ i le. later i (omega (arith, le))) (ap apart here, now) a.1,
    )
keeps f g k (EndsEvent numbers ∷ steps) later now a =
    (end_keeps f g k.clock numbers k.going now a.0, keeps f g (stepped k (EndsEvent numbers)) steps later (apart_drop f g k.going now) a.1)
keeps f g k (Spends time ∷ steps) later now a = (tt, keeps f g (stepped k (Spends time)) steps later now a.1)
keeps f g k (SettlesHeld ∷ steps) later now a = (tt, keeps f g k steps later now a.1)
keeps f g k (Connects admin user host ∷ steps) later now a = (tt, keeps f g k steps later now a.1)
keeps f g k (Quits admin ∷ steps) later now a = (tt, keeps f g k steps later now a.1)
keeps f g k (Truncates admin what ∷ steps) later now a = (tt, keeps f g k steps later now a.1)
keeps f g k (Changes admin what ∷ steps) later now a = (tt, keeps f g k steps later now a.1)
keeps f g k (Inquires what ∷ steps) later now a = (tt, keeps f g k steps later now a.1)

-- the positions of the events that go on fall
abbrev Down : ℕ → List Going → Type 0
Down n [] = Unit {0}
Down n (e ∷ es) = (e.index < n) × Down e.index es

down_more : (m n : ℕ) (es : List Going) → m ≤ n → Down m es → Down n es
down_more m n [] le d = tt
down_more m n (e ∷ es) le d = (omega (arith, le, d.0), d.1)

record Exist (k : Clocked) (steps : List Step) : Type 0 where
  pub facts : ℕ → Facts
  pub are : AreFacts facts k steps

abbrev clocked_at : ℕ → ℕ → List Going → Clocked
clocked_at clock begun going = record { clock = clock; begun = begun; going = going }

apart_if : (b : Bool) (x : Facts) (clock : ℕ) → apart x ≡ apart (if b then record x { start = clock } else x)
apart_if true x clock = refl
apart_if false x clock = refl

all_apart : (f g : ℕ → Facts) (going : List Going) → ((i : ℕ) → apart (f i) ≡ apart (g i)) → AllApart f g going
all_apart f g [] same = tt
all_apart f g (e ∷ es) same = (same e.index, all_apart f g es same)

below_apart : (f g : ℕ → Facts) (n : ℕ) (going : List Going) → Down n going → ((i : ℕ) → i < n → f i ≡ g i) → AllApart f g going
below_apart f g n [] d same = tt
below_apart f g n (e ∷ es) d same = (ap apart (same e.index d.0), below_apart f g e.index es d.1 (λ i lt. same i (omega (arith, lt, d.0))))

abbrev measured_at : ℕ → Numbers → Going → ℕ → Facts
measured_at clock numbers e start = record {
  start = start;
  duration = (clock + (2 ^ 64 - e.start)) % 2 ^ 64;
  lock = (numbers_for e.kind numbers).lock;
  errors = (numbers_for e.kind numbers).errors;
  warnings = (numbers_for e.kind numbers).warnings;
  affected = (numbers_for e.kind numbers).affected;
  sent = (numbers_for e.kind numbers).sent;
  examined = (numbers_for e.kind numbers).examined;
}

no_facts : Facts
no_facts = record { start = 0; duration = 0; lock = 0; errors = 0; warnings = 0; affected = 0; sent = 0; examined = 0 }

started_facts : (clock begun : ℕ) (going : List Going) (steps : List Step) (k : Clocked) (step : Step) → stepped (clocked_at clock begun going) step ≡ k
    → k.begun ≡ begun + 1 → ((f : ℕ → Facts) → (f begun).start ≡ clock → StepFacts f (clocked_at clock begun going) step) → Exist k steps → Exist (clocked_at clock begun going) (step ∷ steps)
started_facts clock begun going steps k step s b first r =
    let f : ℕ → Facts = λ i. if i == begun then record (r.facts i) { start = clock } else r.facts i in
    let own : (f begun).start ≡ clock = ap (λ z. (if z then record (r.facts begun) { start = clock } else r.facts begun).start) (eq-eqb begun begun refl) in
    let rest : AreFacts f k steps =
    keeps r.facts f k steps
    (λ i le. sym (ap (λ z. if z then record (r.facts i) { start = clock } else r.facts i) (ne_eqb i begun (λ e. absurd (omega (arith, e, le, b))))))
    (all_apart r.facts f k.going (λ i. apart_if (i == begun) (r.facts i) clock)) r.are in
    record { facts = f; are = (first f own, subst (λ z. AreFacts f z steps) (sym s) rest) }

ended_facts : (clock begun : ℕ) (e : Going) (es : List Going) (numbers : Numbers) (steps : List Step) → Down begun (e ∷ es) → Exist (clocked_at clock begun es) steps
    → Exist (clocked_at clock begun (e ∷ es)) (EndsEvent numbers ∷ steps)
ended_facts clock begun e es numbers steps d r =
    let f : ℕ → Facts = λ i. if i == e.index then measured_at clock numbers e (r.facts i).start else r.facts i in
    let own : f e.index ≡ measured_at clock numbers e (r.facts e.index).start =
    ap (λ z. if z then measured_at clock numbers e (r.facts e.index).start else r.facts e.index) (eq-eqb e.index e.index refl) in
    let other : (i : ℕ) → (i == e.index) ≡ false → r.facts i ≡ f i =
    λ i q. sym (ap (λ z. if z then measured_at clock numbers e (r.facts i).start else r.facts i) q) in
    let rest : AreFacts f (clocked_at clock begun es) steps =
    keeps r.facts f (clocked_at clock begun es) steps (λ i le. other i (ne_eqb i e.index (λ q. absurd (omega (arith, q, le, d.0)))))
    (below_apart r.facts f e.index es d.1 (λ i lt. other i (ne_eqb i e.index (λ q. absurd (omega (arith, q, lt)))))) r.are in
    let first : IsMeasured clock numbers e (measured_at clock numbers e (r.facts e.index).start) =
    record { duration = refl; lock = refl; errors = refl; warnings = refl; affected = refl; sent = refl; examined = refl } in
    record { facts = f; are = (subst (IsMeasured clock numbers e) (sym own) first, rest) }

exist : (clock begun : ℕ) (going : List Going) (steps : List Step) → Down begun going → Exist (clocked_at clock begun going) steps
exist clock begun going [] d = record { facts = λ i. no_facts; are = tt }
exist clock begun going (StartsEvent subject ∷ steps) d =
    let next : Clocked = stepped (clocked_at clock begun going) (StartsEvent subject) in
    started_facts clock begun going steps next (StartsEvent subject) refl refl (λ f own. own) (exist next.clock next.begun next.going steps (omega arith, d))
exist clock begun [] (EndsEvent numbers ∷ steps) d =
    let r = exist clock begun [] steps tt in
    record { facts = r.facts; are = (tt, r.are) }
exist clock begun (e ∷ es) (EndsEvent numbers ∷ steps) d =
    ended_facts clock begun e es numbers steps d (exist clock begun es steps (down_more e.index begun es (omega (arith, d.0)) d.1))
exist clock begun going (Spends time ∷ steps) d =
    let r = exist ((clock + time) % 2 ^ 64) begun going steps d in
    record { facts = r.facts; are = (tt, r.are) }
exist clock begun going (SettlesHeld ∷ steps) d =
    let r = exist clock begun going steps d in
    record { facts = r.facts; are = (tt, r.are) }
exist clock begun going (Connects admin user host ∷ steps) d =
    let r = exist clock begun going steps d in
    record { facts = r.facts; are = (tt, r.are) }
exist clock begun going (Quits admin ∷ steps) d =
    let r = exist clock begun going steps d in
    record { facts = r.facts; are = (tt, r.are) }
exist clock begun going (Truncates admin what ∷ steps) d =
    let r = exist clock begun going steps d in
    record { facts = r.facts; are = (tt, r.are) }
exist clock begun going (Changes admin what ∷ steps) d =
    let r = exist clock begun going steps d in
    record { facts = r.facts; are = (tt, r.are) }
exist clock begun going (Inquires what ∷ steps) d =
    let r = exist clock begun going steps d in
    record { facts = r.facts; are = (tt, r.are) }

-- the steps of parts, one part behind another
abbrev steps_in : List Part → List Step
steps_in [] = []
steps_in (p ∷ ps) = steps_of p.turns ++ steps_in ps

front : (f : ℕ → Facts) (k : Clocked) (xs ys : List Step) → AreFacts f k (xs ++ ys) → AreFacts f k xs
front f k [] ys a = tt
front f k (x ∷ xs) ys a = (a.0, front f (stepped k x) xs ys a.1)

back : (f : ℕ → Facts) (k : Clocked) (xs ys : List Step) → AreFacts f k (xs ++ ys) → AreFacts f (all_stepped k xs) ys
back f k [] ys a = a
back f k (x ∷ xs) ys a = back f (stepped k x) xs ys a.1

of_parts : (f : ℕ → Facts) (k : Clocked) (parts : List Part) → AreFacts f k (steps_in parts) → AllFacts f k parts
of_parts f k [] a = tt
of_parts f k (p ∷ ps) a =
    (front f k (steps_of p.turns) (steps_in ps) a, of_parts f (all_stepped k (steps_of p.turns)) ps (back f k (steps_of p.turns) (steps_in ps) a))

pub given : FactsLaw
given = λ parts. (let r = exist 0 0 [] (steps_in parts) tt in (r.facts, of_parts r.facts at_first parts r.are))
