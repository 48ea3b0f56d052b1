-- The flag of each consumer behind an update of them.
use Rattle.std.proofs.Common.{◌≡◌, ◌≢◌, ℕ, ◌+◌, Bool, true, not, cond, eqb, List, [], ◌∷◌, ◌++◌, take, drop, fold, Some, None, inl, inr, refl, ap, sym, subst, ◌∙◌}
use Rattle.std.specs.Int.{bit_at}
use Rattle.std.specs.List.{list_all}
use Rattle.std.proofs.lemmas.Bool.{cases_Bool, and_parts}
use Rattle.pfs_lemmas.proofs.Numbers.{eq_self}
use Rattle.pfs_text.specs.declared.conditions.Test.{Test}
use Rattle.pfs_consumers.specs.declared.Consumer.{Consumer}
use Rattle.pfs_consumers.specs.declared.Consumer.TheVariants.{StagesCurrent}
use Rattle.pfs_consumers.specs.Tree.{bit_of, is_on}
use Rattle.pfs_consumers.proofs.Bits.{is_on-with_flag_same, is_on-with_flag_other, bit_at-with_flag_last}
use Rattle.pfs_tables.specs.PlaceTables.{consumers}
use Rattle.pfs_setups.specs.ChangeLaws.{SetsConsumers}
use Rattle.pfs_setups.specs.SetupRows.{consumer_meets}
use Rattle.pfs_setups.specs.Updates.{consumer_step, consumers_behind}

-- the consumers of a list are all others than this one
abbrev are_others : Consumer → List Consumer → Bool
are_others c cs = list_all (λ d. not (eqb (bit_of d) (bit_of c))) cs

differs : (c d : Consumer) → not (eqb (bit_of d) (bit_of c)) ≡ true → c ≢ d
differs c d other same =
    let is : eqb (bit_of d) (bit_of c) ≡ true = subst (λ e. eqb (bit_of d) (bit_of e) ≡ true) (sym same) (eq_self (bit_of d)) in
    absurd (cc (ap not is, other))

module _ (tests : List Test) (on : Bool) (before : ℕ) where
  abbrev step : ℕ → Consumer → ℕ
  step flags consumer = consumer_step tests (Some on) before flags consumer

  step_same : (flags : ℕ) (c : Consumer) → is_on (step flags c) c ≡ cond (consumer_meets tests before c) on (is_on flags c)
  step_same flags c = elim (cases_Bool (consumer_meets tests before c)) [
    | inl met ↦ rw met (is_on-with_flag_same flags c on)
    | inr unmet ↦ rw unmet refl
  ]

  step_other : (flags : ℕ) (c d : Consumer) → c ≢ d → is_on (step flags d) c ≡ is_on flags c
  step_other flags c d h = elim (cases_Bool (consumer_meets tests before d)) [
    | inl met ↦ rw met (is_on-with_flag_other flags d c on h)
    | inr unmet ↦ rw unmet refl
  ]

  step_last : (flags : ℕ) (d : Consumer) → bit_at (step flags d) 15 ≡ bit_at flags 15
  step_last flags d = elim (cases_Bool (consumer_meets tests before d)) [
    | inl met ↦ rw met (bit_at-with_flag_last flags d on)
    | inr unmet ↦ rw unmet refl
  ]

  others_stay : (c : Consumer) (cs : List Consumer) (flags : ℕ) → are_others c cs ≡ true → is_on (fold step flags cs) c ≡ is_on flags c
  others_stay c [] flags other = refl
  others_stay c (d ∷ cs) flags other =
      let parts = and_parts _ _ other in
      others_stay c cs (step flags d) parts.1 ∙ step_other flags c d (differs c d parts.0)

  last_stays : (cs : List Consumer) (flags : ℕ) → bit_at (fold step flags cs) 15 ≡ bit_at flags 15
  last_stays [] flags = refl
  last_stays (d ∷ cs) flags = last_stays cs (step flags d) ∙ step_last flags d

  folded : (front back : List Consumer) (flags : ℕ) → fold step flags (front ++ back) ≡ fold step (fold step flags front) back
  folded [] back flags = refl
  folded (d ∷ front) back flags = folded front back (step flags d)

  one : (c : Consumer) (front back : List Consumer) → consumers ≡ front ++ c ∷ back → are_others c front ≡ true → are_others c back ≡ true
      → is_on (fold step before consumers) c ≡ cond (consumer_meets tests before c) on (is_on before c)
  one c front back is ahead behind =
      ap (λ cs. is_on (fold step before cs) c) is
      ∙ (ap (λ flags. is_on flags c) (folded front (c ∷ back) before)
      ∙ (others_stay c back (step (fold step before front) c) behind
      ∙ (step_same (fold step before front) c ∙ ap (λ b. cond (consumer_meets tests before c) on b) (others_stay c front before ahead))))

  each : (c : Consumer) → is_on (fold step before consumers) c ≡ cond (consumer_meets tests before c) on (is_on before c)
  each StagesCurrent = one StagesCurrent (take (bit_of StagesCurrent) consumers) (drop (bit_of StagesCurrent + 1) consumers) refl refl refl
  each c = one c (take (bit_of c) consumers) (drop (bit_of c + 1) consumers) refl refl refl

unnamed_stay : (tests : List Test) (before : ℕ) (cs : List Consumer) (flags : ℕ) → fold (consumer_step tests None before) flags cs ≡ flags
unnamed_stay tests before [] flags = refl
unnamed_stay tests before (d ∷ cs) flags = elim (cases_Bool (consumer_meets tests before d)) [
  | inl met ↦ rw met (unnamed_stay tests before cs flags)
  | inr unmet ↦ rw unmet (unnamed_stay tests before cs flags)
]

pub sets_consumers : (tests : List Test) (flags : ℕ) → SetsConsumers tests flags
unfolding consumers_behind
sets_consumers tests flags = record {
  each = λ on c. each tests on flags c;
  last = λ on. last_stays tests on flags consumers flags;
  unnamed = unnamed_stay tests flags consumers flags;
}
