-- Sessions one after another on a plain store, phase by phase: those up to a phase are the first of them.
use Rattle.std.proofs.Common.{ℕ, ◌≡◌, ◌<◌, ◌≤◌, ◌==◌, Bool, true, false, cond, List, [], ◌∷◌, ◌++◌, inl, inr, refl, ap, sym, ◌∙◌, subst, arith, append-nil, append_assoc, eq-eqb, ne_eqb, lt-ltb, le-ltb}
use Rattle.std.specs.Prelude.{nat_lt}
use Rattle.std.proofs.lemmas.Bool.{cases_order}
use Rattle.pfs_levels.proofs.ActorFloors.{answers_rest}
use Rattle.pfs_levels.specs.Calls.{Call}
use Rattle.pfs_levels.specs.JointCalls.{all_calls}
use Rattle.pfs_levels.specs.PlainCalls.{AllOutside}
use Rattle.pfs_levels.specs.PlainStore.{AllAnswer}
use Rattle.pfs_law_session.proofs.Stints.{done}
use Rattle.pfs_law_session.specs.Stints.{Stint, AreStintsBehind, AreDone, IsDoneBy}
use Rattle.pfs_law_plain.proofs.PhaseFronts.{calls_then}
use Rattle.pfs_law_plain.specs.Spells.{Spell, doings_calls, stint_of, stints_of, calls_of}
use Rattle.pfs_law_joint.specs.Phases.{PlainLaw as JointPlainLaw}
use Rattle.pfs_law_shared.specs.Shares.{actors_of, spells_at, spells_before, PlainLaw}
use Rattle.pfs_law_shared.proofs.WholeActors.{actors_whole, all_outside}

-- phases never fall
abbrev pub Ascend : ℕ → List Spell → Type 0
Ascend phase [] = Unit {0}
Ascend phase (spell ∷ spells) = (phase ≤ spell.phase) × Ascend spell.phase spells

pub ascending : (stack : ℕ) (depths : ℕ → ℕ) (earlier : List Stint) (phase : ℕ) (spells : List Spell) → AreStintsBehind stack depths earlier phase (stints_of spells) → Ascend phase spells
ascending stack depths earlier phase [] are = tt
ascending stack depths earlier phase (spell ∷ spells) are = (are.0, ascending stack depths (earlier ++ stint_of spell ∷ []) spell.phase spells are.2)

abbrev spells_after : ℕ → List Spell → List Spell
spells_after phase [] = []
spells_after phase (spell ∷ spells) = cond (nat_lt phase spell.phase) (spell ∷ []) [] ++ spells_after phase spells

none_before : (p q : ℕ) (spells : List Spell) → Ascend q spells → p ≤ q → spells_before p spells ≡ []
none_before p q [] up low = refl
none_before p q (x ∷ xs) up low =
    ap (λ b. cond b (x ∷ []) [] ++ spells_before p xs) (le-ltb x.phase p (omega (arith, low, up.0))) ∙ none_before p x.phase xs up.1 (omega (arith, low, up.0))

none_at : (p q : ℕ) (spells : List Spell) → Ascend q spells → p < q → spells_at p spells ≡ []
none_at p q [] up low = refl
none_at p q (x ∷ xs) up low =
    ap (λ b. cond b (x ∷ []) [] ++ spells_at p xs) (ne_eqb x.phase p (λ e. omega (arith, low, up.0, e))) ∙ none_at p x.phase xs up.1 (omega (arith, low, up.0))

all_after : (p q : ℕ) (spells : List Spell) → Ascend q spells → p < q → spells_after p spells ≡ spells
all_after p q [] up low = refl
all_after p q (x ∷ xs) up low =
    ap (λ b. cond b (x ∷ []) [] ++ spells_after p xs) (lt-ltb p x.phase (omega (arith, low, up.0))) ∙ ap (λ z. x ∷ z) (all_after p x.phase xs up.1 (omega (arith, low, up.0)))

-- those of the phases before, then those of the phase, then the later ones
split : (p q : ℕ) (spells : List Spell) → Ascend q spells → spells ≡ (spells_before p spells ++ spells_at p spells) ++ spells_after p spells
split p q [] up = refl
split p q (x ∷ xs) up = by (split p x.phase xs up.1) where
  led : (a b c : Bool) → (nat_lt x.phase p) ≡ a → (x.phase == p) ≡ b → (nat_lt p x.phase) ≡ c → x ∷ xs ≡ ((cond a (x ∷ []) [] ++ spells_before p xs) ++ (cond b (x ∷ []) [] ++ spells_at p xs)) ++ (cond c (x ∷ []) [] ++ spells_after p xs)
      → x ∷ xs ≡ (spells_before p (x ∷ xs) ++ spells_at p (x ∷ xs)) ++ spells_after p (x ∷ xs)
  led a b c d e f goal =
      let F : Bool → Bool → Bool → List Spell = λ a b c. ((cond a (x ∷ []) [] ++ spells_before p xs) ++ (cond b (x ∷ []) [] ++ spells_at p xs)) ++ (cond c (x ∷ []) [] ++ spells_after p xs) in
      goal ∙ sym (ap (λ z. F z (x.phase == p) (nat_lt p x.phase)) d ∙ (ap (λ z. F a z (nat_lt p x.phase)) e ∙ ap (F a b) f))

  by : xs ≡ (spells_before p xs ++ spells_at p xs) ++ spells_after p xs → x ∷ xs ≡ (spells_before p (x ∷ xs) ++ spells_at p (x ∷ xs)) ++ spells_after p (x ∷ xs)
  by rest = elim (cases_order x.phase p) [
    | inl same ↦
        let b : spells_before p xs ≡ [] = none_before p x.phase xs up.1 (omega (arith, same)) in
        let r : xs ≡ spells_at p xs ++ spells_after p xs = subst (λ z. xs ≡ (z ++ spells_at p xs) ++ spells_after p xs) b rest in
        led false true false (le-ltb x.phase p (omega (arith, same))) (eq-eqb x.phase p same) (le-ltb p x.phase (omega (arith, same)))
        (ap (λ z. x ∷ z) r ∙ sym (ap (λ z. (z ++ x ∷ spells_at p xs) ++ spells_after p xs) b))
    | inr other ↦ elim other [
      | inl less ↦ led true false false (lt-ltb x.phase p less) (ne_eqb x.phase p (λ e. omega (arith, less, e))) (le-ltb p x.phase (omega (arith, less))) (ap (λ z. x ∷ z) rest)
      | inr more ↦
          let b : spells_before p xs ≡ [] = none_before p x.phase xs up.1 (omega (arith, more)) in
          let a : spells_at p xs ≡ [] = none_at p x.phase xs up.1 more in
          let c : spells_after p xs ≡ xs = all_after p x.phase xs up.1 more in
          led false false true (le-ltb x.phase p (omega (arith, more))) (ne_eqb x.phase p (λ e. omega (arith, more, e))) (lt-ltb p x.phase more)
          (sym (ap (λ z. (z ++ spells_at p xs) ++ x ∷ spells_after p xs) b ∙ (ap (λ z. z ++ x ∷ spells_after p xs) a ∙ ap (λ z. x ∷ z) c)))
    ]
  ]

-- all calls of actors
calls_join : (xs ys : List (List Call)) → all_calls (xs ++ ys) ≡ all_calls xs ++ all_calls ys
unfolding all_calls
calls_join [] ys = refl
calls_join (x ∷ xs) ys = ap (λ z. x ++ z) (calls_join xs ys) ∙ sym (append_assoc x (all_calls xs) (all_calls ys))

one_actor : (calls : List Call) → all_calls (calls ∷ []) ≡ calls
unfolding all_calls
one_actor calls = append-nil calls

actors_calls : (spells : List Spell) → all_calls (actors_of spells) ≡ calls_of spells
unfolding all_calls
actors_calls [] = refl
actors_calls (spell ∷ spells) =
    calls_join (actors_of spells) (doings_calls spell.doings ∷ [])
    ∙ (ap (λ z. z ++ all_calls (doings_calls spell.doings ∷ [])) (actors_calls spells) ∙ ap (λ z. calls_of spells ++ z) (one_actor (doings_calls spell.doings)))

up_to_calls : (before now : List Spell) → all_calls (actors_of now ++ actors_of before) ≡ calls_of (before ++ now)
up_to_calls before now =
    calls_join (actors_of now) (actors_of before)
    ∙ (ap (λ z. z ++ all_calls (actors_of before)) (actors_calls now)
    ∙ (ap (λ z. calls_of now ++ z) (actors_calls before) ∙ sym (calls_then before now)))

-- spells of a phase are done by their sessions
done_picked : (spell : Spell) (b : Bool) (rest : List Spell) → IsDoneBy spell.session (stint_of spell).parts → AreDone (stints_of rest) → AreDone (stints_of (cond b (spell ∷ []) [] ++ rest))
done_picked spell true rest one others = (one, others)
done_picked spell false rest one others = others

pub done_at : (p : ℕ) (spells : List Spell) → AreDone (stints_of spells) → AreDone (stints_of (spells_at p spells))
done_at p [] d = tt
done_at p (spell ∷ spells) d = done_picked spell (spell.phase == p) (spells_at p spells) d.0 (done_at p spells d.1)

done_before : (p : ℕ) (spells : List Spell) → AreDone (stints_of spells) → AreDone (stints_of (spells_before p spells))
done_before p [] d = tt
done_before p (spell ∷ spells) d = done_picked spell (nat_lt spell.phase p) (spells_before p spells) d.0 (done_before p spells d.1)

outside_then : (xs ys : List (List Call)) → AllOutside xs → AllOutside ys → AllOutside (xs ++ ys)
outside_then [] ys a b = b
outside_then (x ∷ xs) ys a b = (a.0, outside_then xs ys a.1 b)

pub plain_shared : JointPlainLaw → PlainLaw
plain_shared law = λ flags stack depths spells are answers p.
    (let before : List Spell = spells_before p spells in
    let now : List Spell = spells_at p spells in
    let cut : spells ≡ (before ++ now) ++ spells_after p spells = split p 0 spells (ascending stack depths [] 0 spells are.stints) in
    let all : AllAnswer flags (calls_of (spells_after p spells) ++ calls_of (before ++ now)) = subst (AllAnswer flags) (ap calls_of cut ∙ calls_then (before ++ now) (spells_after p spells)) answers in
    let some : AllAnswer flags (calls_of (before ++ now)) = answers_rest flags (calls_of (spells_after p spells)) (calls_of (before ++ now)) all in
    let d : AreDone (stints_of spells) = done stack depths (stints_of spells) are.stints in
    law flags (actors_of before) (actors_of now) (subst (AllAnswer flags) (sym (up_to_calls before now)) some)
    (outside_then (actors_of now) (actors_of before) (all_outside (actors_of now) (actors_whole now (done_at p spells d))) (all_outside (actors_of before) (actors_whole before (done_before p spells d)))))
