-- One event along a chain: it comes once, and the first take after that takes it.
use Rattle.std.proofs.Common.{◌≡◌, ℕ, suc, ◌+◌, ◌*◌, ◌≤◌, ◌==◌, ◌&&◌, Bool, true, false, cond, List, [], ◌∷◌, Option, Some, None, count_by, fold, refl, sym, ap, ◌∙◌, subst, arith}
use Rattle.std.specs.Prelude.{nat_le}
use Rattle.std.proofs.lemmas.List.Sums.{sum_by-cons}
use Rattle.std.proofs.lemmas.Bool.{eqb-true}
use Rattle.pfs_lemmas.proofs.Bools.{and_first}
use Rattle.pfs_conservation.specs.RowChains.{Change, Added, Taken, Given, with_event, changed, found_in}
use Rattle.pfs_conservation.specs.Removals.{first_take, following, is_given, first_from, Ascends}
use Rattle.pfs_conservation.proofs.MergeTotals.{bit_no}
use Rattle.pfs_conservation.proofs.EventSums.{token}

-- 1 where the action is this one
abbrev pub leaves : ℕ → Option ℕ → ℕ
leaves n None = 0
leaves n (Some k) = cond (k == n) 1 0

abbrev pub stays : Option ℕ → ℕ
stays None = 1
stays (Some k) = 0

pub count_cons : {X : Type 0} (p : X → Bool) (x : X) (xs : List X) → count_by p (x ∷ xs) ≡ cond (p x) 1 0 + count_by p xs
count_cons p x xs = sum_by-cons (λ y. cond (p y) 1 0) x xs

module _ (e : ℕ) (w : ℕ → ℕ → ℕ) where
  -- what a change brings of the event
  abbrev pub coming : Change → ℕ
  coming (Added es) = count_by (λ x. x == e) es
  coming (Taken n) = 0
  coming (Given n row) = w n row

  abbrev pub comings : List Change → ℕ
  comings [] = 0
  comings (c ∷ cs) = coming c + comings cs

  added_count : (here : ℕ) (es : List ℕ) → fold (with_event (token e)) here es ≡ here + count_by (λ x. x == e) es
  added_count here [] = omega arith
  added_count here (x ∷ es) = omega (arith, added_count (here + cond (x == e) 1 0) es, count_cons (λ y. y == e) x es)

  -- where nothing more comes
  pub quiet_content : (here : ℕ) (cs : List Change) → comings cs ≡ 0 → fold (changed (token e) w) here cs ≡ here * stays (first_take cs)
  quiet_content here [] h = omega arith
  quiet_content here (Added es ∷ cs) h =
      let same : fold (with_event (token e)) here es ≡ here = omega (arith, added_count here es) in
      ap (λ x. fold (changed (token e) w) x cs) same ∙ quiet_content here cs (omega arith)
  quiet_content here (Taken n ∷ cs) h = omega (arith, quiet_content 0 cs (omega arith))
  quiet_content here (Given n row ∷ cs) h =
      let same : here + w n row ≡ here = omega arith in
      ap (λ x. fold (changed (token e) w) x cs) same ∙ quiet_content here cs (omega arith)

  pub quiet_found : (here n : ℕ) (cs : List Change) → comings cs ≡ 0 → found_in (token e) w here n cs ≡ here * leaves n (first_take cs)
  quiet_found here n [] h = omega arith
  quiet_found here n (Added es ∷ cs) h =
      let same : fold (with_event (token e)) here es ≡ here = omega (arith, added_count here es) in
      ap (λ x. found_in (token e) w x n cs) same ∙ quiet_found here n cs (omega arith)
  quiet_found here n (Taken k ∷ cs) h =
      let rest : found_in (token e) w 0 n cs ≡ 0 = omega (arith, quiet_found 0 n cs (omega arith)) in
      taken (k == n) (found_in (token e) w 0 n cs) rest
    where
      taken : (b : Bool) (x : ℕ) → x ≡ 0 → cond b here x ≡ here * cond b 1 0
      taken true x q = omega arith
      taken false x q = omega arith
  quiet_found here n (Given k row ∷ cs) h =
      let same : here + w k row ≡ here = omega arith in
      ap (λ x. found_in (token e) w x n cs) same ∙ quiet_found here n cs (omega arith)

  changed_zero : (c : Change) → changed (token e) w 0 c ≡ coming c
  changed_zero (Added es) = omega (arith, added_count 0 es)
  changed_zero (Taken n) = refl
  changed_zero (Given n row) = omega arith

  module _ (p : Change → Bool) where
    -- what passes the test brings the event
    abbrev pub Brings : List Change → Type 0
    Brings [] = Unit {0}
    Brings (c ∷ cs) = (p c ≡ true → coming c ≡ 1) × Brings cs

    brings_some : (cs : List Change) → Brings cs → 1 ≤ count_by p cs → 1 ≤ comings cs
    brings_some [] b h = absurd (omega arith)
    brings_some (c ∷ cs) b h = some (p c) refl (brings_some cs b.1)
      where
        some : (t : Bool) → p c ≡ t → (1 ≤ count_by p cs → 1 ≤ comings cs) → 1 ≤ coming c + comings cs
        some true q ih = let one : coming c ≡ 1 = b.0 q in omega arith
        some false q ih = let rest : 1 ≤ comings cs = ih (omega (arith, count_cons p c cs, bit_no (p c) q)) in omega arith

    pub arrive_content : (cs : List Change) → Brings cs → comings cs ≡ 1 → 1 ≤ count_by p cs → fold (changed (token e) w) 0 cs ≡ stays (first_take (following p cs))
    arrive_content [] b one h = absurd (omega arith)
    arrive_content (c ∷ cs) b one h = come (p c) refl (arrive_content cs b.1)
      where
        come : (t : Bool) → p c ≡ t → (comings cs ≡ 1 → 1 ≤ count_by p cs → fold (changed (token e) w) 0 cs ≡ stays (first_take (following p cs)))
            → fold (changed (token e) w) (changed (token e) w 0 c) cs ≡ stays (first_take (cond (p c) cs (following p cs)))
        come true q ih =
            let here : coming c ≡ 1 = b.0 q in
            let now : changed (token e) w 0 c ≡ 1 = changed_zero c ∙ here in
            let rest : fold (changed (token e) w) 1 cs ≡ stays (first_take cs) = omega (arith, quiet_content 1 cs (omega arith)) in
            ap (λ x. fold (changed (token e) w) x cs) now ∙ (rest ∙ ap (λ t. stays (first_take (cond t cs (following p cs)))) (sym q))
        come false q ih =
            let some : 1 ≤ count_by p cs = omega (arith, count_cons p c cs, bit_no (p c) q) in
            let later : 1 ≤ comings cs = brings_some cs b.1 some in
            let now : changed (token e) w 0 c ≡ 0 = omega (arith, changed_zero c) in
            ap (λ x. fold (changed (token e) w) x cs) now ∙ (ih (omega arith) some ∙ ap (λ t. stays (first_take (cond t cs (following p cs)))) (sym q))

    -- the number of a take that comes later isn't that of an earlier one
    abbrev pub Late : ℕ → Option ℕ → Type 0
    Late key None = Unit {0}
    Late key (Some n) = key ≤ 2 * n + 1

    late_weaker : (key more : ℕ) (t : Option ℕ) → key ≤ more → Late more t → Late key t
    late_weaker key more None h l = tt
    late_weaker key more (Some n) h l = omega arith

    pub late_take : (key : ℕ) (cs : List Change) → Ascends key cs → Late key (first_take cs)
    late_take key [] a = tt
    late_take key (Added es ∷ cs) a = late_take key cs a
    late_take key (Taken n ∷ cs) a = a.0
    late_take key (Given n row ∷ cs) a = late_weaker key (2 * n) (first_take cs) a.0 (late_take (2 * n) cs a.1)

    late_cond : (key : ℕ) (t : Bool) (cs ds : List Change) → Late key (first_take cs) → Late key (first_take ds) → Late key (first_take (cond t cs ds))
    late_cond key true cs ds a b = a
    late_cond key false cs ds a b = b

    pub late_following : (key : ℕ) (cs : List Change) → Ascends key cs → Late key (first_take (following p cs))
    late_following key [] a = tt
    late_following key (Added es ∷ cs) a = late_cond key (p (Added es)) cs (following p cs) (late_take key cs a) (late_following key cs a)
    late_following key (Taken n ∷ cs) a =
        late_weaker key (2 * n + 2) (first_take (cond (p (Taken n)) cs (following p cs))) (let low : key ≤ 2 * n + 1 = a.0 in omega arith)
        (late_cond (2 * n + 2) (p (Taken n)) cs (following p cs) (late_take (2 * n + 2) cs a.1) (late_following (2 * n + 2) cs a.1))
    late_following key (Given n row ∷ cs) a =
        late_weaker key (2 * n) (first_take (cond (p (Given n row)) cs (following p cs))) a.0
        (late_cond (2 * n) (p (Given n row)) cs (following p cs) (late_take (2 * n) cs a.1) (late_following (2 * n) cs a.1))

    not_late : (n : ℕ) (t : Option ℕ) → Late (2 * n + 2) t → leaves n t ≡ 0
    not_late n None l = refl
    not_late n (Some k) l = bit_no (k == n) (other k n (λ q. omega arith))
      where
        other : (a b : ℕ) → (a ≡ b → ⊥) → (a == b) ≡ false
        other a b h = grind (arith, h)

    come_found : (n : ℕ) (c : Change) (cs : List Change) → Brings (c ∷ cs) → comings (c ∷ cs) ≡ 1 → 1 ≤ count_by p (c ∷ cs)
        → (comings cs ≡ 1 → 1 ≤ count_by p cs → found_in (token e) w 0 n cs ≡ leaves n (first_take (following p cs)))
        → found_in (token e) w (coming c) n cs ≡ leaves n (first_take (cond (p c) cs (following p cs)))
    come_found n c cs b one h ih = come (p c) refl
      where
        come : (t : Bool) → p c ≡ t → found_in (token e) w (coming c) n cs ≡ leaves n (first_take (cond (p c) cs (following p cs)))
        come true q =
            let here : coming c ≡ 1 = b.0 q in
            let rest : found_in (token e) w 1 n cs ≡ leaves n (first_take cs) = omega (arith, quiet_found 1 n cs (omega arith)) in
            ap (λ x. found_in (token e) w x n cs) here ∙ (rest ∙ ap (λ t. leaves n (first_take (cond t cs (following p cs)))) (sym q))
        come false q =
            let some : 1 ≤ count_by p cs = omega (arith, count_cons p c cs, bit_no (p c) q) in
            let later : 1 ≤ comings cs = brings_some cs b.1 some in
            let now : coming c ≡ 0 = omega arith in
            ap (λ x. found_in (token e) w x n cs) now ∙ (ih (omega arith) some ∙ ap (λ t. leaves n (first_take (cond t cs (following p cs)))) (sym q))

    pub arrive_found : (key n : ℕ) (cs : List Change) → Ascends key cs → Brings cs → comings cs ≡ 1 → 1 ≤ count_by p cs → found_in (token e) w 0 n cs ≡ leaves n (first_take (following p cs))
    arrive_found key n [] a b one h = absurd (omega arith)
    arrive_found key n (Added es ∷ cs) a b one h =
        ap (λ x. found_in (token e) w x n cs) (changed_zero (Added es)) ∙ come_found n (Added es) cs b one h (arrive_found key n cs a b.1)
    arrive_found key n (Taken k ∷ cs) a b one h = taken (p (Taken k)) (k == n) refl refl (come_found n (Taken k) cs b one h (arrive_found (2 * k + 2) n cs a.1 b.1))
      where
        taken : (t u : Bool) → p (Taken k) ≡ t → (k == n) ≡ u
            → found_in (token e) w 0 n cs ≡ leaves n (first_take (cond (p (Taken k)) cs (following p cs)))
            → cond (k == n) 0 (found_in (token e) w 0 n cs) ≡ leaves n (first_take (cond (p (Taken k)) cs (following p cs)))
        taken t false q r ih = ap (λ (u : Bool). cond u 0 (found_in (token e) w 0 n cs)) r ∙ ih
        taken t true q r ih =
            let same : k ≡ n = grind (arith, r) in
            let late : Late (2 * n + 2) (first_take (cond (p (Taken k)) cs (following p cs))) =
            subst (λ (x : ℕ). Late (2 * x + 2) (first_take (cond (p (Taken k)) cs (following p cs)))) same
            (late_cond (2 * k + 2) (p (Taken k)) cs (following p cs) (late_take (2 * k + 2) cs a.1) (late_following (2 * k + 2) cs a.1)) in
            ap (λ (u : Bool). cond u 0 (found_in (token e) w 0 n cs)) r ∙ sym (not_late n (first_take (cond (p (Taken k)) cs (following p cs))) late)
    arrive_found key n (Given k row ∷ cs) a b one h =
        ap (λ x. found_in (token e) w x n cs) (changed_zero (Given k row)) ∙ come_found n (Given k row) cs b one h (arrive_found (2 * k) n cs a.1 b.1)

from_all : (n key : ℕ) (cs : List Change) → Ascends key cs → 2 * n ≤ key → first_take cs ≡ first_from n cs
from_all n key [] a h = refl
from_all n key (Added es ∷ cs) a h = from_all n key cs a h
from_all n key (Taken k ∷ cs) a h =
    let first : key ≤ 2 * k + 1 = a.0 in
    let low : n ≤ k = omega arith in
    ap (λ (t : Bool). cond t (Some k) (first_from n cs)) (sym (yes n k low))
  where
    yes : (x y : ℕ) → x ≤ y → nat_le x y ≡ true
    yes x y h = grind (arith, h)
from_all n key (Given k row ∷ cs) a h = let first : key ≤ 2 * k = a.0 in from_all n (2 * k) cs a.1 (omega arith)

given_above : (n row key : ℕ) (cs : List Change) → Ascends key cs → 1 ≤ count_by (is_given n row) cs → key ≤ 2 * n
given_above n row key [] a h = absurd (omega arith)
given_above n row key (Added es ∷ cs) a h = given_above n row key cs a (omega (arith, count_cons (is_given n row) (Added es) cs))
given_above n row key (Taken k ∷ cs) a h =
    let later : 2 * k + 2 ≤ 2 * n = given_above n row (2 * k + 2) cs a.1 (omega (arith, count_cons (is_given n row) (Taken k) cs)) in
    let now : key ≤ 2 * k + 1 = a.0 in omega arith
given_above n row key (Given k from ∷ cs) a h = here (is_given n row (Given k from)) refl (given_above n row (2 * k) cs a.1)
  where
    here : (t : Bool) → is_given n row (Given k from) ≡ t → (1 ≤ count_by (is_given n row) cs → 2 * k ≤ 2 * n) → key ≤ 2 * n
    here true q ih =
        let same : k ≡ n = eqb-true k n (and_first (k == n) (from == row) q) in
        let now : key ≤ 2 * k = a.0 in omega arith
    here false q ih =
        let later : 2 * k ≤ 2 * n = ih (omega (arith, count_cons (is_given n row) (Given k from) cs, bit_no (is_given n row (Given k from)) q)) in
        let now : key ≤ 2 * k = a.0 in omega arith

-- after an action's give the row is taken first by the first action from its number on
pub first_after_give : (n row key : ℕ) (cs : List Change) → Ascends key cs → 1 ≤ count_by (is_given n row) cs → first_take (following (is_given n row) cs) ≡ first_from n cs
first_after_give n row key [] a h = refl
first_after_give n row key (Added es ∷ cs) a h = first_after_give n row key cs a (omega (arith, count_cons (is_given n row) (Added es) cs))
first_after_give n row key (Taken k ∷ cs) a h =
    let some : 1 ≤ count_by (is_given n row) cs = omega (arith, count_cons (is_given n row) (Taken k) cs) in
    let later : 2 * k + 2 ≤ 2 * n = given_above n row (2 * k + 2) cs a.1 some in
    first_after_give n row (2 * k + 2) cs a.1 some ∙ ap (λ (t : Bool). cond t (Some k) (first_from n cs)) (sym (above n k (omega arith)))
  where
    above : (x y : ℕ) → suc y ≤ x → nat_le x y ≡ false
    above x y l = grind (arith, l)
first_after_give n row key (Given k from ∷ cs) a h = here (is_given n row (Given k from)) refl (first_after_give n row (2 * k) cs a.1)
  where
    here : (t : Bool) → is_given n row (Given k from) ≡ t → (1 ≤ count_by (is_given n row) cs → first_take (following (is_given n row) cs) ≡ first_from n cs)
        → first_take (cond (is_given n row (Given k from)) cs (following (is_given n row) cs)) ≡ first_from n cs
    here true q ih =
        let same : k ≡ n = eqb-true k n (and_first (k == n) (from == row) q) in
        ap (λ (t : Bool). first_take (cond t cs (following (is_given n row) cs))) q ∙ from_all n (2 * k) cs a.1 (omega arith)
    here false q ih =
        ap (λ (t : Bool). first_take (cond t cs (following (is_given n row) cs))) q
        ∙ ih (omega (arith, count_cons (is_given n row) (Given k from) cs, bit_no (is_given n row (Given k from)) q))
