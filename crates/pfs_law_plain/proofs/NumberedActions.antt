-- What the action of a number gives, where the actions have the numbers 1, 2 and so on in their order.
use Rattle.std.proofs.Common.{ℕ, ◌≡◌, ◌+◌, ◌<◌, ◌≤◌, ◌==◌, Bool, true, false, cond, List, [], ◌∷◌, ◌++◌, length, inl, inr, eq-eqb, ne_eqb, refl, ap, sym, ◌∙◌, subst, length-append, arith}
use Rattle.std.specs.Prelude.{◌⊎◌, IfSome, if◌then◌else◌, Option, Some, None}
use Rattle.std.proofs.lemmas.Bool.{cases_eq}
use Rattle.std.proofs.lemmas.List.{append_assoc, append-nil}
use Rattle.pfs_law_plain.specs.Spells.{Doing, Spell, parts_in, stints_of}
use Rattle.pfs_law_session.specs.Demands.{number_or_none, number_of}
use Rattle.pfs_law_session.specs.AllActions.{numbers_of, all_numbers}
use Rattle.pfs_law_session.specs.Orders.{Acting, actings_of, all_actings, of_number}
use Rattle.pfs_board.specs.declared.view.Label.{Label}
use Rattle.pfs_model.specs.Chains.{Each, times}
use Rattle.pfs_law_session.specs.Deeds.{Deed, Part, action_of}
use Rattle.pfs_law_session.specs.Stints.{Stint}
use Rattle.pfs_law_plain.proofs.ActionCounts.{AreLined, AllLined, more_made, one_of}
use Rattle.pfs_law_plain.proofs.EnteredLabels.{label_by, labels_in, all_labels, AreBehind, AllBehind}

abbrev number_in : Acting → ℕ
number_in one = number_of one.deed

abbrev numbers_in : List Acting → List ℕ
numbers_in [] = []
numbers_in (one ∷ others) = number_in one ∷ numbers_in others

parts_numbers : (session : ℕ) (ps : List Part) (rest : List Acting) → numbers_in (actings_of session ps ++ rest) ≡ numbers_of ps ++ numbers_in rest
parts_numbers session [] rest = refl
parts_numbers session (p ∷ ps) rest = ap (λ z. number_of p.deed ∷ z) (parts_numbers session ps rest)

stints_numbers : (stints : List Stint) → numbers_in (all_actings stints) ≡ all_numbers stints
stints_numbers [] = refl
stints_numbers (stint ∷ stints) = parts_numbers stint.session stint.parts (all_actings stints) ∙ ap (λ z. numbers_of stint.parts ++ z) (stints_numbers stints)

-- from so many on, up to so many: a number is 0, of a line that is no action, or the next one
abbrev pub AreNumbers : ℕ → ℕ → List Acting → Type 0
AreNumbers count last [] = count ≡ last
AreNumbers count last (one ∷ others) =
    ((number_in one ≡ 0) × AreNumbers count last others) ⊎ ((number_in one ≡ count + 1) × AreNumbers (count + 1) last others)

-- what a line gives is what its number does
abbrev pub IsGiven : {A : Type 0} → (Acting → A) → (ℕ → A) → Acting → Type 0
IsGiven give value one = give one ≡ value (number_in one)

pub found : {A : Type 0} (give : Acting → A) (none : A) (value : ℕ → A) (count last : ℕ) (ones : List Acting) → AreNumbers count last ones → Each (IsGiven give value) ones
    → ((n : ℕ) → last < n → none ≡ value n) → (n : ℕ) → count < n → of_number give none ones n ≡ value n
found give none value count last [] are each past n up = past n (omega (arith, are, up))
found {A} give none value count last (one ∷ others) (inl (zero_is, are)) each past n up =
    ap (λ b. if b then give one else of_number give none others n) (ne_eqb (number_in one) n (λ e. absurd (omega (arith, e, zero_is, up))))
    ∙ found give none value count last others are each.1 past n up
found {A} give none value count last (one ∷ others) (inr (next, are)) each past n up = elim (cases_eq (number_in one) n) [
  | inl e ↦ ap (λ b. if b then give one else of_number give none others n) (eq-eqb (number_in one) n e) ∙ (each.0 ∙ ap value e)
  | inr e ↦ ap (λ b. if b then give one else of_number give none others n) (ne_eqb (number_in one) n e)
      ∙ found give none value (count + 1) last others are each.1 past n (above count n (number_in one) next e up)
] where
  above : (count n m : ℕ) → m ≡ count + 1 → (m ≡ n → ⊥) → count < n → count + 1 < n
  above count n m next e up = elim (cases_eq (count + 1) n) [
    | inl f ↦ absurd (e (next ∙ f))
    | inr f ↦ omega (arith, up, f)
  ]

pub found_none : {A : Type 0} (give : Acting → A) (none : A) (value : ℕ → A) (ones : List Acting) → Each (IsGiven give value) ones → none ≡ value 0 → of_number give none ones 0 ≡ value 0
found_none give none value [] each e = e
found_none {A} give none value (one ∷ others) each e = elim (cases_eq (number_in one) 0) [
  | inl z ↦ ap (λ b. if b then give one else of_number give none others 0) (eq-eqb (number_in one) 0 z) ∙ (each.0 ∙ ap value z)
  | inr z ↦ ap (λ b. if b then give one else of_number give none others 0) (ne_eqb (number_in one) 0 z) ∙ found_none give none value others each.1 e
]

-- no number is that of two
abbrev often : ℕ → List ℕ → ℕ
often n ns = times (λ m. m == n) ns

record IsOnce (count n : ℕ) (ns : List ℕ) : Type 0 where
  pub below : n ≤ count → often n ns ≡ 0
  pub once : often n ns ≤ 1

passes : (m n : ℕ) (ns : List ℕ) → (m ≡ n → ⊥) → often n (m ∷ ns) ≡ often n ns
passes m n ns e = ap (λ b. cond b 1 0 + often n ns) (ne_eqb m n e) ∙ none_more (often n ns) where
  none_more : (x : ℕ) → 0 + x ≡ x
  none_more x = omega arith

is_once : (count last n : ℕ) (ones : List Acting) → 0 < n → AreNumbers count last ones → IsOnce count n (numbers_in ones)
is_once count last n [] up are = record { below = λ low. refl; once = omega arith }
is_once count last n (one ∷ others) up (inl (zero_is, are)) =
    let r : IsOnce count n (numbers_in others) = is_once count last n others up are in
    let e : often n (number_in one ∷ numbers_in others) ≡ often n (numbers_in others) = passes (number_in one) n (numbers_in others) (λ e. absurd (omega (arith, e, zero_is, up))) in
    record { below = λ low. e ∙ r.below low; once = omega (arith, e, r.once) }
is_once count last n (one ∷ others) up (inr (next, are)) =
    let r : IsOnce (count + 1) n (numbers_in others) = is_once (count + 1) last n others up are in
    record {
      below = λ low. passes (number_in one) n (numbers_in others) (λ e. absurd (omega (arith, e, next, low))) ∙ r.below (omega (arith, low));
      once = elim (cases_eq (number_in one) n) [
        | inl e ↦ few (number_in one == n) (often n (numbers_in others)) (r.below (omega (arith, e, next)))
        | inr e ↦ omega (arith, passes (number_in one) n (numbers_in others) e, r.once)
      ];
    } where
      few : (b : Bool) (x : ℕ) → x ≡ 0 → cond b 1 0 + x ≤ 1
      few true x e = omega (arith, e)
      few false x e = omega (arith, e)

pub unique : (count last : ℕ) (stints : List Stint) → AreNumbers count last (all_actings stints) → (number : ℕ) → 0 < number → times (λ n. n == number) (all_numbers stints) ≤ 1
unique count last stints are number up =
    subst (λ z. often number z ≤ 1) (stints_numbers stints) (is_once count last number (all_actings stints) up are).once

-- sessions give their actions such numbers
one_more : (before : List Label) (label : Label) → length (before ++ label ∷ []) ≡ length before + 1
one_more before label = length-append before (label ∷ [])

next_numbers : (session last : ℕ) (label : Label) (labels before : List Label) (deed : Deed) (made : ℕ) (others : List Acting)
    → IfSome (action_of deed) (λ number. (number ≡ length labels + 1) × (label ≡ record { session = session; line = made + 1 })) → IfSome (action_of deed) (λ number. labels ≡ before)
    → AreNumbers (length (before ++ label_by (action_of deed) label)) last others → AreNumbers (length before) last (record { session = session; deed = deed } ∷ others)
next_numbers session last label labels before deed made others l b are = by_action (action_of deed) l b are where
  by_action : (action : Option ℕ) → IfSome action (λ number. (number ≡ length labels + 1) × (label ≡ record { session = session; line = made + 1 })) → IfSome action (λ number. labels ≡ before)
      → AreNumbers (length (before ++ label_by action label)) last others
      → ((number_or_none action ≡ 0) × AreNumbers (length before) last others) ⊎ ((number_or_none action ≡ length before + 1) × AreNumbers (length before + 1) last others)
  by_action None l b are = inl (refl, subst (λ z. AreNumbers (length z) last others) (append-nil before) are)
  by_action (Some number) l b are = inr (l.0 ∙ ap (λ z. length z + 1) b, subst (λ z. AreNumbers z last others) (one_more before label) are)

doings_numbers : (session last made : ℕ) (before : List Label) (ds : List Doing) (rest : List Acting) → AreLined session made ds → AreBehind before ds
    → AreNumbers (length (before ++ labels_in ds)) last rest → AreNumbers (length before) last (actings_of session (parts_in ds) ++ rest)
doings_numbers session last made before [] rest l b are = subst (λ z. AreNumbers (length z) last rest) (append-nil before) are
doings_numbers session last made before (d ∷ ds) rest l b are =
    let own : List Label = label_by (action_of d.part.deed) d.label in
    next_numbers session last d.label d.labels before d.part.deed made (actings_of session (parts_in ds) ++ rest) l.0 b.0
    (doings_numbers session last (made + one_of (action_of d.part.deed)) (before ++ own) ds rest l.1 b.1 (subst (λ z. AreNumbers (length z) last rest) (sym (append_assoc before own (labels_in ds))) are))

pub spells_numbers : (made : ℕ → ℕ) (before : List Label) (spells : List Spell) → AllLined made spells → AllBehind before spells
    → AreNumbers (length before) (length (before ++ all_labels spells)) (all_actings (stints_of spells))
spells_numbers made before [] l b = ap length (sym (append-nil before))
spells_numbers made before (spell ∷ spells) l b =
    let own : List Label = labels_in spell.doings in
    let rest : List Acting = all_actings (stints_of spells) in
    let all : ℕ = length (before ++ (own ++ all_labels spells)) in
    doings_numbers spell.session all (made spell.session) before spell.doings rest l.0 b.0
    (subst (λ z. AreNumbers (length (before ++ own)) (length z) rest) (append_assoc before own (all_labels spells)) (spells_numbers (more_made made spell) (before ++ own) spells l.1 b.1))
