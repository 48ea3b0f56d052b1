-- One action more that gets its label.
use Rattle.std.proofs.Common.{◌≡◌, refl, ℕ, zero, suc, ◌+◌, ◌-◌, ◌<◌, ◌≤◌, ◌==◌, Bool, true, false, cond, List, [], ◌∷◌, ◌++◌, length, get_or, set, take, sym, ◌∙◌, ap, subst, arith, append_assoc, Option, Some, None, inl, inr, length-set}
use Rattle.std.specs.Prelude.{slice_get, ◌⊎◌}
use Rattle.std.specs.BTreeMap.{BTreeMap}
use Rattle.std.proofs.lemmas.Bool.{eqb-true}
use Rattle.std.proofs.lemmas.List.{length-append, take_all, take_more}
use Rattle.std.proofs.lemmas.Option.{same_Some, slice_get-get_or, slice_get_within}
use Rattle.pfs_board.specs.declared.view.Label.{Label}
use Rattle.pfs_model.specs.declared.changes.Change.{Change}
use Rattle.pfs_model.specs.Actions.{IsAmong}
use Rattle.pfs_model.specs.Chains.{Each, is_that, times}
use Rattle.pfs_check_versions.specs.declared.changes.PlacedChange.{PlacedChange}
use Rattle.pfs_check_versions.specs.ActionLabels.{AreLabelled, IsAction, own_changes}
use Rattle.pfs_check_versions.specs.LinkTests.{IsLinkedIn, LinkedAt, count_in, is_same, is_up_to}
use Rattle.pfs_check_versions.proofs.LinkSteps.{some_times, that_self}

pub own_append : (session : ℕ) (xs ys : List PlacedChange) → own_changes session (xs ++ ys) ≡ own_changes session xs ++ own_changes session ys
own_append session [] ys = refl
own_append session (x ∷ xs) ys =
    ap (λ z. cond (x.session == session) (x ∷ []) [] ++ z) (own_append session xs ys)
    ∙ sym (append_assoc (cond (x.session == session) (x ∷ []) []) (own_changes session xs) (own_changes session ys))

-- what stands at a place of two lists
get_either : {A : Type 0} (xs ys : List A) (n : ℕ) (x : A) → slice_get (xs ++ ys) n ≡ Some x
    → (slice_get xs n ≡ Some x) ⊎ ((k : ℕ) × (n ≡ length xs + k) × (slice_get ys k ≡ Some x))
get_either [] ys n x g = inr (n, omega arith, g)
get_either (y ∷ xs) ys zero x g = inl g
get_either (y ∷ xs) ys (suc n) x g = on (get_either xs ys n x g) where
  on : (slice_get xs n ≡ Some x) ⊎ ((k : ℕ) × (n ≡ length xs + k) × (slice_get ys k ≡ Some x))
      → (slice_get xs n ≡ Some x) ⊎ ((k : ℕ) × (suc n ≡ suc (length xs) + k) × (slice_get ys k ≡ Some x))
  on (inl h) = inl h
  on (inr (k, e, h)) = inr (k, omega (arith, e), h)

get_among : {A : Type 0} (xs : List A) (n : ℕ) (x : A) → slice_get xs n ≡ Some x → IsAmong x xs
get_among [] n x g = absurd (cc)
get_among (y ∷ xs) zero x g = inl (same_Some y x g)
get_among (y ∷ xs) (suc n) x g = inr (get_among xs n x g)

among_get : {A : Type 0} (x : A) (xs : List A) → IsAmong x xs → (k : ℕ) × (slice_get xs k ≡ Some x)
among_get x [] i = absurd i
among_get x (y ∷ xs) (inl e) = (0, ap (λ z. Some z) e)
among_get x (y ∷ xs) (inr i) = let rest : (k : ℕ) × (slice_get xs k ≡ Some x) = among_get x xs i in (suc rest.0, rest.1)

own_among : (session : ℕ) (cs : List PlacedChange) (one : PlacedChange) → IsAmong one (own_changes session cs) → IsAmong one cs × (one.session ≡ session)
own_among session [] one i = absurd i
own_among session (c ∷ cs) one i = at (c.session == session) refl i (own_among session cs one) where
  at : (b : Bool) → (c.session == session) ≡ b → IsAmong one (cond b (c ∷ []) [] ++ own_changes session cs)
      → (IsAmong one (own_changes session cs) → IsAmong one cs × (one.session ≡ session)) → IsAmong one (c ∷ cs) × (one.session ≡ session)
  at true e (inl q) go = (inl q, ap (λ (z : PlacedChange). z.session) (sym q) ∙ eqb-true c.session session e)
  at true e (inr m) go = let rest : IsAmong one cs × (one.session ≡ session) = go m in (inr rest.0, rest.1)
  at false e m go = let rest : IsAmong one cs × (one.session ≡ session) = go m in (inr rest.0, rest.1)

set_other : {A : Type 0} (xs : List A) (j k : ℕ) (v w : A) → (k ≡ j → ⊥) → slice_get xs k ≡ Some w → slice_get (set xs j v) k ≡ Some w
set_other [] j k v w ne g = g
set_other (x ∷ xs) zero zero v w ne g = absurd (ne refl)
set_other (x ∷ xs) zero (suc k) v w ne g = g
set_other (x ∷ xs) (suc j) zero v w ne g = g
set_other (x ∷ xs) (suc j) (suc k) v w ne g = set_other xs j k v w (λ e. ne (ap suc e)) g

set_same : {A : Type 0} (xs : List A) (j : ℕ) (v : A) → j < length xs → slice_get (set xs j v) j ≡ Some v
set_same [] j v h = absurd (omega arith)
set_same (x ∷ xs) zero v h = refl
set_same (x ∷ xs) (suc j) v h = set_same xs j v (omega arith)

times_most : {A : Type 0} (test : A → Bool) (xs : List A) → times test xs ≤ length xs
times_most test [] = omega arith
times_most test (x ∷ xs) = at (test x) (times_most test xs) where
  at : (b : Bool) → times test xs ≤ length xs → cond {A = ℕ} b 1 0 + times test xs ≤ suc (length xs)
  at true h = omega (arith, h)
  at false h = omega (arith, h)

-- the number of a linked action is above 0
above_none : (cs : List PlacedChange) (one : PlacedChange) → ((k : ℕ) → k < length cs → LinkedAt cs k) → IsAmong one cs → 0 < one.change.version
above_none cs one all i =
    let here : (k : ℕ) × (slice_get cs k ≡ Some one) = among_get one cs i in
    (all here.0 (slice_get_within cs here.0 one here.1) one here.1).above

-- and at most how many there are
pub number_within : (cs : List PlacedChange) (place : ℕ) (d : PlacedChange) → place < length cs → LinkedAt cs place
    → (0 < (get_or cs place d).change.version) × ((get_or cs place d).change.version ≤ length cs)
number_within cs place d h l =
    let linked : IsLinkedIn cs (take place cs) (get_or cs place d) = l (get_or cs place d) (slice_get-get_or cs place d h) in
    (linked.above, omega (arith, linked.had, times_most (is_up_to (get_or cs place d).change.row (get_or cs place d).phase) cs))

each_there : {A : Type 0} (fact : A → Type 0) (x : A) (xs : List A) → Each fact xs → IsAmong x xs → fact x
each_there fact x [] h i = absurd i
each_there fact x (y ∷ xs) h (inl e) = subst fact e h.0
each_there fact x (y ∷ xs) h (inr i) = each_there fact x xs h.1 i

take_among : {A : Type 0} (n : ℕ) (x : A) (xs : List A) → IsAmong x (take n xs) → IsAmong x xs
take_among zero x xs i = absurd i
take_among (suc n) x [] i = absurd i
take_among (suc n) x (y ∷ xs) (inl e) = inl e
take_among (suc n) x (y ∷ xs) (inr i) = inr (take_among n x xs i)

-- an action before has another number
apart : (cs : List PlacedChange) (place : ℕ) (d one : PlacedChange) → place < length cs → LinkedAt cs place → Each IsAction cs
    → IsAmong one (take place cs) → IsAmong (get_or cs place d) cs → one.change.version ≡ (get_or cs place d).change.version → ⊥
apart cs place d one h l rows i j e =
    let linked : IsLinkedIn cs (take place cs) (get_or cs place d) = l (get_or cs place d) (slice_get-get_or cs place d h) in
    let mine : one.change.row ≡ 0 = each_there IsAction one cs rows (take_among place one cs i) in
    let yours : (get_or cs place d).change.row ≡ 0 = each_there IsAction (get_or cs place d) cs rows j in
    let P : ℕ → Change = λ r. record { row = r; version = one.change.version } in
    let Q : ℕ → Change = λ v. record { row = (get_or cs place d).change.row; version = v } in
    let same : one.change ≡ (get_or cs place d).change = ap P (mine ∙ sym yours) ∙ ap Q e in
    let some : 0 < times (is_same (get_or cs place d).change) (take place cs) =
    some_times (is_same (get_or cs place d).change) one (take place cs) i
    (ap (is_that (get_or cs place d).change) same ∙ that_self (get_or cs place d).change) in
    omega (arith, some, linked.first)

-- What a loop over the actions has.
pub record LabelledSoFar (cs : List PlacedChange) (counts : BTreeMap ℕ ℕ) (labels : List Label) (place : ℕ) : Type 0 where
  pub few : length labels ≡ length cs
  pub counted : (session : ℕ) → count_in counts session ≡ length (own_changes session (take place cs))
  pub each : (session at : ℕ) (one : PlacedChange) → slice_get (own_changes session (take place cs)) at ≡ Some one
      → slice_get labels (one.change.version - 1) ≡ Some (record { session = session; line = at + 1 })

pub none_labelled : (cs : List PlacedChange) (counts : BTreeMap ℕ ℕ) (labels : List Label) → length labels ≡ length cs
    → ((session : ℕ) → count_in counts session ≡ 0) → LabelledSoFar cs counts labels 0
none_labelled cs counts labels f h = record { few = f; counted = h; each = λ session at one g. absurd (cc) }

pub labelled_more : (cs : List PlacedChange) (old new : BTreeMap ℕ ℕ) (labels : List Label) (place line at : ℕ) (d : PlacedChange) → place < length cs
    → ((k : ℕ) → k < length cs → LinkedAt cs k) → Each IsAction cs → at ≡ (get_or cs place d).change.version - 1
    → line ≡ count_in old (get_or cs place d).session + 1
    → ((session : ℕ) → count_in new session ≡ cond ((get_or cs place d).session == session) (count_in old session + 1) (count_in old session))
    → LabelledSoFar cs old labels place
    → LabelledSoFar cs new (set labels at (record { session = (get_or cs place d).session; line = line })) (place + 1)
labelled_more cs old new labels place line at d h all rows a n step before = record {
  few = length-set labels at (record { session = (get_or cs place d).session; line = line }) ∙ before.few;
  counted = counted;
  each = each;
} where
  number : (0 < (get_or cs place d).change.version) × ((get_or cs place d).change.version ≤ length cs)
  number = number_within cs place d h (all place h)

  own_next : (session : ℕ) → own_changes session (take (place + 1) cs)
      ≡ own_changes session (take place cs) ++ cond ((get_or cs place d).session == session) (get_or cs place d ∷ []) []
  own_next session =
      ap (own_changes session) (take_more cs place d h) ∙ own_append session (take place cs) (get_or cs place d ∷ [])
      ∙ ap (λ z. own_changes session (take place cs) ++ z) (end (cond ((get_or cs place d).session == session) (get_or cs place d ∷ []) [])) where
        end : (xs : List PlacedChange) → xs ++ [] ≡ xs
        end [] = refl
        end (x ∷ xs) = ap (λ z. x ∷ z) (end xs)

  bit : (b : Bool) (m : ℕ) (xs : List PlacedChange) → m ≡ length xs → cond b (m + 1) m ≡ length (xs ++ cond b (get_or cs place d ∷ []) [])
  bit true m xs e = omega (arith, e, length-append xs (get_or cs place d ∷ []))
  bit false m xs e = omega (arith, e, length-append xs [])

  counted : (session : ℕ) → count_in new session ≡ length (own_changes session (take (place + 1) cs))
  counted session =
      step session
      ∙ bit ((get_or cs place d).session == session) (count_in old session) (own_changes session (take place cs)) (before.counted session)
      ∙ sym (ap length (own_next session))

  there : IsAmong (get_or cs place d) cs
  there = get_among cs place (get_or cs place d) (slice_get-get_or cs place d h)

  was : (session k : ℕ) (one : PlacedChange) → slice_get (own_changes session (take place cs)) k ≡ Some one
      → slice_get (set labels at (record { session = (get_or cs place d).session; line = line })) (one.change.version - 1)
      ≡ Some (record { session = session; line = k + 1 })
  was session k one g =
      let i : IsAmong one (take place cs) × (one.session ≡ session) = own_among session (take place cs) one (get_among (own_changes session (take place cs)) k one g) in
      set_other labels at (one.change.version - 1) (record { session = (get_or cs place d).session; line = line }) (record { session = session; line = k + 1 })
      (λ e. apart cs place d one h (all place h) rows i.0 there
      (numbers one.change.version (get_or cs place d).change.version (above_none cs one all (take_among place one cs i.0)) number.0 (e ∙ a)))
      (before.each session k one g) where
        numbers : (x y : ℕ) → 0 < x → 0 < y → x - 1 ≡ y - 1 → x ≡ y
        numbers x y p q e = omega (arith, p, q, e)

  comes : (session k : ℕ) (one : PlacedChange) (b : Bool) → ((get_or cs place d).session == session) ≡ b → (m : ℕ) → k ≡ length (own_changes session (take place cs)) + m
      → slice_get (cond b (get_or cs place d ∷ []) []) m ≡ Some one
      → slice_get (set labels at (record { session = (get_or cs place d).session; line = line })) (one.change.version - 1)
      ≡ Some (record { session = session; line = k + 1 })
  comes session k one true e zero q g =
      let label : ℕ → ℕ → Option Label = λ s l. Some (record { session = s; line = l }) in
      let same : get_or cs place d ≡ one = same_Some (get_or cs place d) one g in
      let own : (get_or cs place d).session ≡ session = eqb-true (get_or cs place d).session session e in
      let here : one.change.version - 1 ≡ at = ap (λ (z : PlacedChange). z.change.version - 1) (sym same) ∙ sym a in
      let many : count_in old (get_or cs place d).session ≡ length (own_changes session (take place cs)) =
      before.counted (get_or cs place d).session ∙ ap (λ z. length (own_changes z (take place cs))) own in
      let next : line ≡ k + 1 = omega (arith, n, many, q) in
      ap (slice_get (set labels at (record { session = (get_or cs place d).session; line = line }))) here
      ∙ set_same labels at (record { session = (get_or cs place d).session; line = line }) (omega (arith, a, number.0, number.1, before.few))
      ∙ ap (λ z. label z line) own
      ∙ ap (label session) next
  comes session k one true e (suc m) q g = absurd (cc)
  comes session k one false e m q g = absurd (cc)

  each : (session k : ℕ) (one : PlacedChange) → slice_get (own_changes session (take (place + 1) cs)) k ≡ Some one
      → slice_get (set labels at (record { session = (get_or cs place d).session; line = line })) (one.change.version - 1)
      ≡ Some (record { session = session; line = k + 1 })
  each session k one g =
      on (get_either (own_changes session (take place cs)) (cond ((get_or cs place d).session == session) (get_or cs place d ∷ []) []) k one
      (sym (ap (λ z. slice_get z k) (own_next session)) ∙ g)) where
        on : (slice_get (own_changes session (take place cs)) k ≡ Some one)
            ⊎ ((m : ℕ) × (k ≡ length (own_changes session (take place cs)) + m) × (slice_get (cond ((get_or cs place d).session == session) (get_or cs place d ∷ []) []) m ≡ Some one))
            → slice_get (set labels at (record { session = (get_or cs place d).session; line = line })) (one.change.version - 1)
            ≡ Some (record { session = session; line = k + 1 })
        on (inl s) = was session k one s
        on (inr (m, q, s)) = comes session k one ((get_or cs place d).session == session) refl m q s

pub labelled_all : (cs : List PlacedChange) (counts : BTreeMap ℕ ℕ) (labels : List Label) (place : ℕ) → length cs ≤ place
    → LabelledSoFar cs counts labels place → AreLabelled cs labels
labelled_all cs counts labels place h before = record {
  few = before.few;
  each = λ session at one g. before.each session at one (ap (λ z. slice_get (own_changes session z) at) (take_all place cs h) ∙ g);
}
