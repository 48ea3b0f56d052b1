-- The tops of givens in their order, one more.
use Rattle.std.proofs.Common.{◌≡◌, refl, ℕ, zero, suc, ◌+◌, ◌-◌, ◌<◌, ◌≤◌, ◌==◌, max, Bool, true, false, List, [], ◌∷◌, ◌++◌, length, get_or, nat_lt, cond, sym, ◌∙◌, ap, subst, arith, add-one, Some, inl, inr}
use Rattle.std.specs.Prelude.{slice_get, if◌then◌else◌, ◌⊎◌}
use Rattle.std.specs.Ordering.{is_lt, nat_cmp, ordering_then}
use Rattle.std.specs.declared.cmp.Ordering.{Ordering}
use Rattle.std.specs.declared.cmp.Ordering.TheVariants.{Less, Equal, Greater}
use Rattle.std.specs.List.{Contains}
use Rattle.std.specs.List.Sorted.{IsPermutation, IsSorted}
use Rattle.std.proofs.lemmas.Bool.{cases_lt, eqb-false, eqb-true}
use Rattle.std.proofs.lemmas.Bool.Decides.{nat_tests}
use Rattle.std.proofs.lemmas.List.{length_push}
use Rattle.std.proofs.lemmas.List.Sorted.{Contains-permutation, IsPermutation-sym}
use Rattle.std.proofs.lemmas.Option.{get_or_from_slice_get, same_Some, slice_get-get_or, slice_get_within}
use Rattle.pfs_check_tops.specs.declared.tops.Given.{Given}
use Rattle.pfs_check_tops.specs.SortedTops.{AreInOrder, AreTops, Covers, IsGiven, IsOneOf, IsUpTo, next_top}

get_pushed : (xs : List Given) (x : Given) (i : ℕ) (a : Given) → slice_get (xs ++ x ∷ []) i ≡ Some a
    → (slice_get xs i ≡ Some a) ⊎ ((i ≡ length xs) × (x ≡ a))
get_pushed [] x zero a g = inr (refl, same_Some x a g)
get_pushed [] x (suc i) a g = absurd (cc)
get_pushed (y ∷ xs) x zero a g = inl g
get_pushed (y ∷ xs) x (suc i) a g = on (get_pushed xs x i a g) where
  on : (slice_get xs i ≡ Some a) ⊎ ((i ≡ length xs) × (x ≡ a)) → (slice_get xs i ≡ Some a) ⊎ ((suc i ≡ suc (length xs)) × (x ≡ a))
  on (inl h) = inl h
  on (inr (e, h)) = inr (ap suc e, h)

-- a top and the given of its place
pub record IsLike (xs : List Given) (i : ℕ) (top : Given) : Type 0 where
  pub one : Given
  pub there : slice_get xs i ≡ Some one
  pub row : one.row ≡ top.row
  pub at : one.at ≡ top.at
  pub version : one.version ≤ top.version

-- and one up to there of the same row that has its version
pub record IsFrom (xs : List Given) (i : ℕ) (top : Given) : Type 0 where
  pub from : ℕ
  pub one : Given
  pub within : from ≤ i
  pub there : slice_get xs from ≡ Some one
  pub row : one.row ≡ top.row
  pub version : one.version ≡ top.version

pub record RankedSoFar (xs ts : List Given) (last : Given) (k : ℕ) : Type 0 where
  pub many : length ts ≡ k
  pub alike : (i : ℕ) (top : Given) → slice_get ts i ≡ Some top → IsLike xs i top
  pub rising : (i j : ℕ) (a b : Given) → i ≤ j → slice_get ts i ≡ Some a → slice_get ts j ≡ Some b → a.row ≡ b.row → a.version ≤ b.version
  pub given : (i : ℕ) (top : Given) → slice_get ts i ≡ Some top → IsFrom xs i top
  pub first : k ≡ 0 → last.version ≡ 0
  pub last_is : 0 < k → slice_get ts (k - 1) ≡ Some last

pub none_ranked : (xs ts : List Given) (last : Given) → ts ≡ [] → last.version ≡ 0 → RankedSoFar xs ts last 0
none_ranked xs ts last e v = record {
  many = ap length e;
  alike = λ i top g. absurd (empty i top (sym (ap (λ z. slice_get z i) e) ∙ g));
  rising = λ i j a b l g h r. absurd (empty i a (sym (ap (λ z. slice_get z i) e) ∙ g));
  given = λ i top g. absurd (empty i top (sym (ap (λ z. slice_get z i) e) ∙ g));
  first = λ z. v;
  last_is = λ z. absurd (omega (arith, z));
} where
  empty : (i : ℕ) (top : Given) → slice_get {X = Given} [] i ≡ Some top → ⊥
  empty i top g = cc

-- the next top: its version is one that stands so far, and no lower than the given's own
next_most : (last x : Given) (b : Bool) → x.version ≤ (if b then max last.version x.version else x.version)
next_most last x true = omega arith
next_most last x false = omega arith

next_above : (last x : Given) (b : Bool) → b ≡ true → last.version ≤ (if b then max last.version x.version else x.version)
next_above last x true e = omega arith
next_above last x false e = absurd (cc)

pub rank_more : (xs ts : List Given) (last : Given) (k : ℕ) (x : Given) → AreInOrder xs → slice_get xs k ≡ Some x → RankedSoFar xs ts last k
    → RankedSoFar xs (ts ++ next_top last x ∷ []) (next_top last x) (k + 1)
rank_more xs ts last k x order g before = record {
  many = length_push ts (next_top last x) ∙ ap (λ z. z + 1) before.many;
  alike = λ i top h. like i top (get_pushed ts (next_top last x) i top h);
  rising = λ i j a b l p q r. rises i j a b l (get_pushed ts (next_top last x) i a p) (get_pushed ts (next_top last x) j b q) r;
  given = λ i top h. comes i top (get_pushed ts (next_top last x) i top h);
  first = λ z. absurd (omega (arith, z));
  last_is = λ z. behind ts (next_top last x) ((k + 1) - 1) (omega (arith, before.many));
} where
  behind : (ys : List Given) (y : Given) (n : ℕ) → n ≡ length ys → slice_get (ys ++ y ∷ []) n ≡ Some y
  behind [] y zero e = refl
  behind [] y (suc n) e = absurd (omega (arith, e))
  behind (z ∷ ys) y zero e = absurd (omega (arith, e))
  behind (z ∷ ys) y (suc n) e = behind ys y n (omega (arith, e))

  like : (i : ℕ) (top : Given) → (slice_get ts i ≡ Some top) ⊎ ((i ≡ length ts) × (next_top last x ≡ top)) → IsLike xs i top
  like i top (inl h) = before.alike i top h
  like i top (inr (e, q)) = subst (IsLike xs i) q (record {
    one = x;
    there = ap (slice_get xs) (e ∙ before.many) ∙ g;
    row = refl;
    at = refl;
    version = next_most last x (last.row == x.row);
  })

  -- the last top is of the row, where one before it is
  last_row : (i : ℕ) (a : Given) → slice_get ts i ≡ Some a → a.row ≡ x.row → (last.row ≡ x.row) × (a.version ≤ last.version)
  last_row i a p r =
      let within : i < k = omega (arith, slice_get_within ts i a p, before.many) in
      let there : slice_get ts (k - 1) ≡ Some last = before.last_is (omega (arith, within)) in
      let mine : IsLike xs i a = before.alike i a p in
      let yours : IsLike xs (k - 1) last = before.alike (k - 1) last there in
      let low : IsUpTo mine.one yours.one = order i (k - 1) mine.one yours.one (omega (arith, within)) mine.there yours.there in
      let high : IsUpTo yours.one x = order (k - 1) k yours.one x (omega (arith, within)) yours.there g in
      let same : last.row ≡ x.row = omega (arith, low.row, high.row, mine.row, yours.row, r) in
      (same, before.rising i (k - 1) a last (omega (arith, within)) p there (r ∙ sym same))

  rises : (i j : ℕ) (a b : Given) → i ≤ j → (slice_get ts i ≡ Some a) ⊎ ((i ≡ length ts) × (next_top last x ≡ a))
      → (slice_get ts j ≡ Some b) ⊎ ((j ≡ length ts) × (next_top last x ≡ b)) → a.row ≡ b.row → a.version ≤ b.version
  rises i j a b l (inl p) (inl q) r = before.rising i j a b l p q r
  rises i j a b l (inl p) (inr (e, q)) r =
      let own : x.row ≡ b.row = ap (λ (z : Given). z.row) q in
      let is : (last.row ≡ x.row) × (a.version ≤ last.version) = last_row i a p (r ∙ sym own) in
      let more : last.version ≤ (next_top last x).version = next_above last x (last.row == x.row) (same_test last.row x.row is.0) in
      let version : (next_top last x).version ≡ b.version = ap (λ (z : Given). z.version) q in
      omega (arith, is.1, more, version) where
        same_test : (m n : ℕ) → m ≡ n → (m == n) ≡ true
        same_test m n e = grind (arith, nat_tests)
  rises i j a b l (inr (e, p)) (inl q) r = absurd (omega (arith, slice_get_within ts j b q, e, l))
  rises i j a b l (inr (e, p)) (inr (f, q)) r =
      let version : a.version ≡ b.version = ap (λ (z : Given). z.version) (sym p ∙ q) in omega (arith, version)

  own : (version : ℕ) → x.version ≡ version → IsFrom xs k (record { row = x.row; at = x.at; version = version })
  own version v = record { from = k; one = x; within = omega arith; there = g; row = refl; version = v }

  next : (b : Bool) → (last.row == x.row) ≡ b → (last.version < x.version) ⊎ (x.version ≤ last.version)
      → IsFrom xs k (record { row = x.row; at = x.at; version = if b then max last.version x.version else x.version })
  next false e c = own x.version refl
  next true e (inl less) = own (max last.version x.version) (omega (arith, less))
  next true e (inr most) = on (cases_lt 0 k) where
    on : (0 < k) ⊎ (k ≤ 0) → IsFrom xs k (record { row = x.row; at = x.at; version = max last.version x.version })
    on (inl some) =
        let old : IsFrom xs (k - 1) last = before.given (k - 1) last (before.last_is some) in
        record {
          from = old.from;
          one = old.one;
          within = omega (arith, old.within);
          there = old.there;
          row = old.row ∙ eqb-true last.row x.row e;
          version = omega (arith, old.version, most);
        }
    on (inr none) =
        let zeroth : last.version ≡ 0 = before.first (omega (arith, none)) in own (max last.version x.version) (omega (arith, zeroth))

  comes : (i : ℕ) (top : Given) → (slice_get ts i ≡ Some top) ⊎ ((i ≡ length ts) × (next_top last x ≡ top)) → IsFrom xs i top
  comes i top (inl h) = before.given i top h
  comes i top (inr (e, q)) =
      subst (IsFrom xs i) q (subst (λ z. IsFrom xs z (next_top last x)) (sym (e ∙ before.many))
      (next (last.row == x.row) refl (cases_lt last.version x.version)))

pub ranked : (xs ts : List Given) (last : Given) (k : ℕ) → AreInOrder xs → length xs ≤ k → k ≤ length xs → RankedSoFar xs ts last k → AreTops ts xs
ranked xs ts last k order h w all = record { order = ordered; rising = all.rising; covers = covers; given = given } where
  ordered : (i j : ℕ) (one other : Given) → i ≤ j → slice_get ts i ≡ Some one → slice_get ts j ≡ Some other → IsUpTo one other
  ordered i j one other l p q =
      let mine : IsLike xs i one = all.alike i one p in
      let yours : IsLike xs j other = all.alike j other q in
      let up : IsUpTo mine.one yours.one = order i j mine.one yours.one l mine.there yours.there in
      record {
        row = omega (arith, up.row, mine.row, yours.row);
        at = λ e. omega (arith, up.at (mine.row ∙ e ∙ sym yours.row), mine.at, yours.at);
      }

  covers : (one : Given) → IsOneOf one xs → Covers ts one
  covers one i =
      let here : IsOneOf one xs = i in
      let within : here.0 < length ts = omega (arith, slice_get_within xs here.0 one here.1, all.many, h, w) in
      let there : slice_get ts here.0 ≡ Some (get_or ts here.0 one) = slice_get-get_or ts here.0 one within in
      let mine : IsLike xs here.0 (get_or ts here.0 one) = all.alike here.0 (get_or ts here.0 one) there in
      let same : mine.one ≡ one = same_Some mine.one one (sym mine.there ∙ here.1) in
      record {
        place = here.0;
        top = get_or ts here.0 one;
        there = there;
        row = sym mine.row ∙ ap (λ (z : Given). z.row) same;
        at = sym mine.at ∙ ap (λ (z : Given). z.at) same;
        version = subst (λ (z : Given). z.version ≤ (get_or ts here.0 one).version) same mine.version;
      }

  given : (i : ℕ) (top : Given) → slice_get ts i ≡ Some top → IsGiven xs top
  given i top p =
      let from : IsFrom xs i top = all.given i top p in
      let mine : IsLike xs i top = all.alike i top p in
      let up : IsUpTo from.one mine.one = order from.from i from.one mine.one from.within from.there mine.there in
      record {
        one = from.one;
        there = (from.from, from.there);
        row = from.row;
        at = omega (arith, up.at (from.row ∙ sym mine.row), mine.at);
        version = from.version;
      }

-- the same of the givens in any order
read_at : (xs : List Given) (k : ℕ) (x : Given) → k < length xs → get_or xs k x ≡ x → slice_get xs k ≡ Some x
read_at xs k x h e = slice_get-get_or xs k x h ∙ ap (λ z. Some z) e

among_moved : (x : Given) (xs ys : List Given) → IsPermutation xs ys → IsOneOf x xs → IsOneOf x ys
among_moved x xs ys p i =
    let there : Contains ys x =
    Contains-permutation xs ys x p (i.0, slice_get_within xs i.0 x i.1, get_or_from_slice_get xs i.0 x x i.1) in
    (there.0, read_at ys there.0 x there.1 there.2)

pub tops_moved : (ts xs ys : List Given) → IsPermutation xs ys → AreTops ts ys → AreTops ts xs
tops_moved ts xs ys p all = record {
  order = all.order;
  rising = all.rising;
  covers = λ one i. all.covers one (among_moved one xs ys p i);
  given = λ i top g. on (all.given i top g);
} where
  on : {top : Given} → IsGiven ys top → IsGiven xs top
  on {top} is = record { one = is.one; there = among_moved is.one ys xs (IsPermutation-sym xs ys p) is.there; row = is.row; at = is.at; version = is.version }

-- a sorted list is in order
abbrev pub given_cmp : Given → Given → Ordering
given_cmp one other = ordering_then (nat_cmp one.row other.row) (ordering_then (nat_cmp one.at other.at) (nat_cmp one.version other.version))

not_less : (a b : Given) → is_lt (given_cmp b a) ≡ false → IsUpTo a b
not_less a b e = record { row = row (nat_lt b.row a.row) refl e; at = λ q. at q (nat_lt b.row a.row) (b.row == a.row) (nat_lt b.at a.at) refl refl refl e } where
  row : (t : Bool) → nat_lt b.row a.row ≡ t → is_lt (ordering_then (cond t Less (cond (b.row == a.row) Equal Greater)) (ordering_then (nat_cmp b.at a.at) (nat_cmp b.version a.version))) ≡ false → a.row ≤ b.row
  row true q f = absurd (cc)
  row false q f = grind (arith, nat_tests)

  at : a.row ≡ b.row → (t u v : Bool) → nat_lt b.row a.row ≡ t → (b.row == a.row) ≡ u → nat_lt b.at a.at ≡ v
      → is_lt (ordering_then (cond t Less (cond u Equal Greater)) (ordering_then (cond v Less (cond (b.at == a.at) Equal Greater)) (nat_cmp b.version a.version))) ≡ false → a.at ≤ b.at
  at q true u v l m n f = absurd (cc)
  at q false false v l m n f = absurd (eqb-false b.row a.row m (sym q))
  at q false true true l m n f = absurd (cc)
  at q false true false l m n f = grind (arith, nat_tests)

up_trans : (a b c : Given) → IsUpTo a b → IsUpTo b c → IsUpTo a c
up_trans a b c p q = record {
  row = omega (arith, p.row, q.row);
  at = λ e.
      let same : a.row ≡ b.row = omega (arith, p.row, q.row, e) in
      omega (arith, p.at same, q.at (sym same ∙ e));
}

pub sorted_order : (xs : List Given) → IsSorted given_cmp xs → AreInOrder xs
sorted_order xs sorted i j one other l p q = on (j - i) j other (omega (arith, l)) q where
  on : (n j : ℕ) (other : Given) → j ≡ i + n → slice_get xs j ≡ Some other → IsUpTo one other
  on zero j other e h =
      let same : one ≡ other = same_Some one other (sym p ∙ ap (slice_get xs) (sym (e ∙ none i)) ∙ h) in
      subst (IsUpTo one) same (record { row = omega arith; at = λ z. omega arith }) where
        none : (m : ℕ) → m + 0 ≡ m
        none m = omega arith
  on (suc n) zero other e h = absurd (omega (arith, e))
  on (suc n) (suc j) other e h =
      let within : suc j < length xs = slice_get_within xs (suc j) other h in
      let there : slice_get xs j ≡ Some (get_or xs j other) = slice_get-get_or xs j other (omega (arith, within)) in
      let before : IsUpTo one (get_or xs j other) = on n j (get_or xs j other) (omega (arith, e)) there in
      let step : is_lt (given_cmp (get_or xs (j + 1) other) (get_or xs j other)) ≡ false = sorted j other (omega arith) (omega (arith, within)) in
      let is : get_or xs (j + 1) other ≡ other = ap (λ z. get_or xs z other) (add-one j) ∙ get_or_from_slice_get xs (suc j) other other h in
      up_trans one (get_or xs j other) other before (not_less (get_or xs j other) other (sym (ap (λ z. is_lt (given_cmp z (get_or xs j other))) is) ∙ step))
