-- A list has one stable order.
use Rattle.std.proofs.Common.{◌≡◌, ◌<◌, ◌≤◌, ◌+◌, ℕ, zero, suc, Bool, true, false, not, ◌&&◌, cond, List, [], ◌∷◌, map, filter, length, get_or, refl, sym, ◌∙◌, ap, subst, arith}
use Rattle.std.specs.Cmp.{IsStrictWeakOrder}
use Rattle.std.specs.List.Sorted.{IsSortedBy, ties}
use Rattle.std.proofs.lemmas.List.Sorted.{ranks_by, sorted_far}
use Rattle.pfs_text.specs.declared.values.RowValue.{RowValue}
use Rattle.pfs_exec.specs.declared.query.Order.{Order}
use Rattle.pfs_exec.specs.declared.query.Select.{Select}
use Rattle.pfs_exec.specs.Selections.{IsAnswer, limited, named_columns}
use Rattle.pfs_exec.proofs.RowOrders.{is_before, row_total}

not_before_at : {X : Type 0} (lt : X → X → Bool) → IsStrictWeakOrder lt → (x : X) (b : Bool) → lt x x ≡ b → lt x x ≡ false
not_before_at lt o x true e = o.one_way x x e
not_before_at lt o x false e = e

not_before : {X : Type 0} (lt : X → X → Bool) → IsStrictWeakOrder lt → (x : X) → lt x x ≡ false
not_before lt o x = not_before_at lt o x (lt x x) refl

ties_is : {X : Type 0} (lt : X → X → Bool) (x y : X) → lt x y ≡ false → lt y x ≡ false → ties lt x y ≡ true
ties_is lt x y e f = rw (e, f) refl

no_tie : {X : Type 0} (lt : X → X → Bool) (x y : X) → lt x y ≡ true → ties lt x y ≡ false
no_tie lt x y e = rw e refl

kept_head : {X : Type 0} (p : X → Bool) (x : X) (xs : List X) → p x ≡ true → filter p (x ∷ xs) ≡ x ∷ filter p xs
kept_head p x xs e = rw e refl

none_kept : {X : Type 0} (p : X → Bool) (xs : List X) → ((j : ℕ) (d : X) → j < length xs → p (get_or xs j d) ≡ false) → filter p xs ≡ []
none_kept p [] none = refl
none_kept p (x ∷ xs) none =
    let first : p x ≡ false = none 0 x (omega arith) in
    let rest : filter p xs ≡ [] = none_kept p xs (λ j d h. none (suc j) d (omega arith)) in
    rw first rest

-- what comes before the first of an order comes before all of it
before_at : {X : Type 0} (lt : X → X → Bool) → IsStrictWeakOrder lt → (y z w : X) → lt y z ≡ true → lt w z ≡ false → (b : Bool) → lt y w ≡ b → lt y w ≡ true
before_at lt o y z w first last true e = e
before_at lt o y z w first last false e = let chained : lt y z ≡ false = o.chain y w z e last in absurd (cc)

before_all : {X : Type 0} (lt : X → X → Bool) → IsStrictWeakOrder lt → (y z : X) (zs : List X) → IsSortedBy lt (z ∷ zs) → lt y z ≡ true → filter (ties lt y) (z ∷ zs) ≡ []
before_all lt o y z zs sorted first =
    none_kept (ties lt y) (z ∷ zs) (λ j d h. no_tie lt y (get_or (z ∷ zs) j d) (before_at lt o y z (get_or (z ∷ zs) j d) first (sorted_far lt o (z ∷ zs) sorted 0 j d (omega arith) h) (lt y (get_or (z ∷ zs) j d)) refl))

tail_sorted : {X : Type 0} (lt : X → X → Bool) (x : X) (xs : List X) → IsSortedBy lt (x ∷ xs) → IsSortedBy lt xs
tail_sorted lt x xs sorted k d low high =
    let next : suc k + 1 ≡ suc (k + 1) = omega arith in
    ap (λ n. lt (get_or (x ∷ xs) n d) (get_or xs k d)) (sym next) ∙ sorted (suc k) d (omega arith) (omega arith)

tail_at : {X : Type 0} (y : X) (ys zs : List X) (b : Bool) → cond b (y ∷ ys) ys ≡ cond b (y ∷ zs) zs → ys ≡ zs
tail_at y ys zs true e = cc
tail_at y ys zs false e = e

no_cons : {X : Type 0} {P : Type 0} (x : X) (xs ys : List X) → ys ≡ x ∷ xs → ys ≡ [] → P
no_cons x xs ys e f = absurd (cc)

heads : {X : Type 0} (lt : X → X → Bool) → IsStrictWeakOrder lt → (y z : X) (ys zs : List X) → IsSortedBy lt (y ∷ ys) → IsSortedBy lt (z ∷ zs) → ((x : X) → filter (ties lt x) (y ∷ ys) ≡ filter (ties lt x) (z ∷ zs)) → (z ≡ y → ys ≡ zs) → (b : Bool) → lt y z ≡ b → (c : Bool) → lt z y ≡ c → y ∷ ys ≡ z ∷ zs
heads lt o y z ys zs up also same again true e c f = no_cons y (filter (ties lt y) ys) (filter (ties lt y) (y ∷ ys)) (kept_head (ties lt y) y ys (ties_is lt y y (not_before lt o y) (not_before lt o y))) (same y ∙ before_all lt o y z zs also e)
heads lt o y z ys zs up also same again false e true f = no_cons z (filter (ties lt z) zs) (filter (ties lt z) (z ∷ zs)) (kept_head (ties lt z) z zs (ties_is lt z z (not_before lt o z) (not_before lt o z))) (sym (same z) ∙ before_all lt o z y ys up f)
heads lt o y z ys zs up also same again false e false f =
    let left : filter (ties lt y) (y ∷ ys) ≡ y ∷ filter (ties lt y) ys = kept_head (ties lt y) y ys (ties_is lt y y (not_before lt o y) (not_before lt o y)) in
    let right : filter (ties lt y) (z ∷ zs) ≡ z ∷ filter (ties lt y) zs = kept_head (ties lt y) z zs (ties_is lt y z e f) in
    let both : y ∷ filter (ties lt y) ys ≡ z ∷ filter (ties lt y) zs = sym left ∙ (same y ∙ right) in
    let head : z ≡ y = cc in
    let rest : ys ≡ zs = again head in
    cc

-- two lists in the order of a test in which equal elements stand alike are one
pub one_order : {X : Type 0} (lt : X → X → Bool) → IsStrictWeakOrder lt → (ys zs : List X) → IsSortedBy lt ys → IsSortedBy lt zs → ((x : X) → filter (ties lt x) ys ≡ filter (ties lt x) zs) → ys ≡ zs
one_order lt o [] [] up also same = refl
one_order lt o [] (z ∷ zs) up also same = no_cons z (filter (ties lt z) zs) (filter (ties lt z) (z ∷ zs)) (kept_head (ties lt z) z zs (ties_is lt z z (not_before lt o z) (not_before lt o z))) (sym (same z))
one_order lt o (y ∷ ys) [] up also same = no_cons y (filter (ties lt y) ys) (filter (ties lt y) (y ∷ ys)) (kept_head (ties lt y) y ys (ties_is lt y y (not_before lt o y) (not_before lt o y))) (same y)
one_order {X} lt o (y ∷ ys) (z ∷ zs) up also same =
    heads lt o y z ys zs up also same (λ head. one_order lt o ys zs (tail_sorted lt y ys up) (tail_sorted lt z zs also) (λ x. tail_at y (filter (ties lt x) ys) (filter (ties lt x) zs) (ties lt x y) (same x ∙ ap (λ (v : X). cond (ties lt x v) (v ∷ filter (ties lt x) zs) (filter (ties lt x) zs)) head))) (lt y z) refl (lt z y) refl

pub one_answer : (query : Select) (rows a b : List (List RowValue)) → IsAnswer query rows a → IsAnswer query rows b → a ≡ b
one_answer query rows a b first second =
    let same : first.sorted ≡ second.sorted = one_order (is_before query.order) (ranks_by (row_total query.order) (λ (row : List RowValue). row)) first.sorted second.sorted first.in_order.ascending second.in_order.ascending (λ x. first.in_order.stable x ∙ sym (second.in_order.stable x)) in
    first.shown ∙ (ap (λ (sorted : List (List RowValue)). map (named_columns query.columns) (limited query.limit sorted)) same ∙ sym second.shown)
