-- Values in the order of their first appearance, with one more that is named.
use Rattle.std.proofs.Common.{ℕ, zero, suc, ◌≡◌, ◌≤◌, ◌<◌, ◌⊎◌, inl, inr, Bool, true, false, cond, nat_lt, List, [], ◌∷◌, ◌++◌, length, get_or, Option, Some, None, Contains, refl, sym, ap, ◌∙◌, subst, arith}
use Rattle.std.specs.Prelude.{slice_get, position}
use Rattle.std.specs.List.{position_or_len}
use Rattle.std.proofs.lemmas.Bool.Decides.{nat_tests}
use Rattle.std.proofs.lemmas.List.Elements.{Contains-append_left, Contains-push_cases}
use Rattle.std.proofs.lemmas.List.Quantifiers.{position-Some}
use Rattle.std.proofs.lemmas.List.Sums.{fails_before_first}
use Rattle.std.proofs.lemmas.Option.{slice_get-get_or, slice_get_within, get_or_from_slice_get}
use Rattle.pfs_script.specs.Appearances.{IsFirstAt, AreInOrder}

-- an element by its place
pub contains_at : {X : Type 0} (xs : List X) (k : ℕ) (x : X) → slice_get xs k ≡ Some x → Contains xs x
contains_at xs k x e = (k, slice_get_within xs k x e, get_or_from_slice_get xs k x x e)

pub at_contains : {X : Type 0} (xs : List X) (x : X) → Contains xs x → (k : ℕ) × (slice_get xs k ≡ Some x)
at_contains xs x (k, within, is) = (k, slice_get-get_or xs k x within ∙ ap Some is)

push_cases : {X : Type 0} (xs : List X) (y x : X) (k : ℕ) → slice_get (xs ++ y ∷ []) k ≡ Some x → (slice_get xs k ≡ Some x) ⊎ ((k ≡ length xs) × (y ≡ x))
push_cases [] y x zero e = inr (refl, cc)
push_cases [] y x (suc k) e = cc
push_cases (first ∷ xs) y x zero e = inl e
push_cases (first ∷ xs) y x (suc k) e = elim (push_cases xs y x k e) [
  | inl old ↦ inl old
  | inr new ↦ inr (omega (arith, new.0), new.1)
]

pub push_old : {X : Type 0} (xs : List X) (y x : X) (k : ℕ) → slice_get xs k ≡ Some x → slice_get (xs ++ y ∷ []) k ≡ Some x
push_old [] y x k e = cc
push_old (first ∷ xs) y x zero e = e
push_old (first ∷ xs) y x (suc k) e = push_old xs y x k e

pub push_new : {X : Type 0} (xs : List X) (y : X) → slice_get (xs ++ y ∷ []) (length xs) ≡ Some y
push_new [] y = refl
push_new (first ∷ xs) y = push_new xs y

-- what a test finds, and what it doesn't
pub position_hit : {X : Type 0} (p : X → Bool) (xs : List X) (i : ℕ) (d : X) → position p xs ≡ Some i → (x : X) × (slice_get xs i ≡ Some x) × (p x ≡ true)
position_hit p xs i d e = let found = position-Some p xs i d e in (get_or xs i d, slice_get-get_or xs i d found.0, found.1)

pub miss_by : {X : Type 0} (p : X → Bool) (xs : List X) (here : Bool) → nat_lt (position_or_len p xs) (length xs) ≡ here → cond here (Some (position_or_len p xs)) None ≡ None → length xs ≤ position_or_len p xs
miss_by p xs true e none = cc
miss_by p xs false e none = grind (arith, nat_tests, e)

pub position_miss : {X : Type 0} (p : X → Bool) (xs : List X) (i : ℕ) (x : X) → position p xs ≡ None → slice_get xs i ≡ Some x → p x ≡ false
position_miss p xs i x none at =
    let all = miss_by p xs (nat_lt (position_or_len p xs) (length xs)) refl none in
    let within = slice_get_within xs i x at in
    ap p (sym (get_or_from_slice_get xs i x x at)) ∙ fails_before_first p xs i x (omega arith)

module _ {A : Type 0} where
  -- a value has one first place
  pub first_once : (named : List (Option A)) (value : A) (m n : ℕ) → IsFirstAt named value m → IsFirstAt named value n → m ≡ n
  first_once named value m n a b =
      let above : m < n → ⊥ = λ lt. b.first m lt a.here in
      let below : n < m → ⊥ = λ lt. a.first n lt b.here in
      omega (arith, above, below)

  first_within : (named : List (Option A)) (value : A) (m : ℕ) → IsFirstAt named value m → m < length named
  first_within named value m a = slice_get_within named m (Some value) a.here

  -- behind one more line it is the same
  first_push : (named : List (Option A)) (one : Option A) (value : A) (m : ℕ) → IsFirstAt named value m → IsFirstAt (named ++ one ∷ []) value m
  first_push named one value m a = record {
    here = push_old named one (Some value) m a.here;
    first = λ earlier lt at. elim (push_cases named one (Some value) earlier at) [
      | inl old ↦ a.first earlier lt old
      | inr new ↦ let within = first_within named value m a in absurd (omega (arith, new.0))
    ];
  }

  first_new : (named : List (Option A)) (value : A) → ((place : ℕ) → ¬ (slice_get named place ≡ Some (Some value))) → IsFirstAt (named ++ Some value ∷ []) value (length named)
  first_new named value unnamed = record {
    here = push_new named (Some value);
    first = λ earlier lt at. elim (push_cases named (Some value) (Some value) earlier at) [
      | inl old ↦ unnamed earlier old
      | inr new ↦ absurd (omega (arith, new.0))
    ];
  }

  -- the values are in order, and one that is named and isn't among them came behind them when there was no room
  pub record Kept (Full : List A → Type 0) (named : List (Option A)) (values : List A) : Type 0 where
    pub listed : AreInOrder named values
    pub missing : (place : ℕ) (value : A) → slice_get named place ≡ Some (Some value)
        → Contains values value ⊎ (Full values × ((other : A) (at : ℕ) → Contains values other → IsFirstAt named other at → at < place))

  pub kept_none : (Full : List A → Type 0) → Kept Full [] []
  kept_none Full = record {
    listed = record {
      once = λ i j value a b. cc;
      each = λ value has. let within = has.1 in absurd (omega arith);
      order = λ a b i j m n at. cc;
    };
    missing = λ place value at. cc;
  }

  -- a value's first place was there before one more line
  held_first : (named : List (Option A)) (values : List A) (one : Option A) (value : A) (m : ℕ) → AreInOrder named values → Contains values value → IsFirstAt (named ++ one ∷ []) value m → IsFirstAt named value m
  held_first named values one value m listed has a =
      let before = listed.each value has in
      subst (λ n. IsFirstAt named value n) (first_once (named ++ one ∷ []) value before.0 m (first_push named one value before.0 before.1) a) before.1

  -- with a line that names nothing, or what is there, or what has no room
  pub kept_same : (Full : List A → Type 0) (named : List (Option A)) (values : List A) (one : Option A) → Kept Full named values
      → ((value : A) → one ≡ Some value → Contains values value ⊎ Full values) → Kept Full (named ++ one ∷ []) values
  kept_same Full named values one k known = record {
    listed = record {
      once = k.listed.once;
      each = λ value has. let before = k.listed.each value has in (before.0, first_push named one value before.0 before.1);
      order = λ a b i j m n at bt fa fb.
          k.listed.order a b i j m n at bt
          (held_first named values one a m k.listed (contains_at values i a at) fa)
          (held_first named values one b n k.listed (contains_at values j b bt) fb);
    };
    missing = λ place value at. elim (push_cases named one (Some value) place at) [
      | inl old ↦ elim (k.missing place value old) [
        | inl has ↦ inl has
        | inr full ↦ inr (full.0, λ other n has f. full.1 other n has (held_first named values one other n k.listed has f))
      ]
      | inr new ↦ elim (known value new.1) [
        | inl has ↦ inl has
        | inr full ↦ inr (full, λ other n has f. let within = first_within named other n (held_first named values one other n k.listed has f) in omega (arith, new.0))
      ]
    ];
  }

  -- with a line that names what isn't there, where there is room
  module _ (Full : List A → Type 0) (named : List (Option A)) (values : List A) (value : A) (k : Kept Full named values) (absent : ¬ Contains values value) (room : ¬ Full values) where
    unnamed : (place : ℕ) → ¬ (slice_get named place ≡ Some (Some value))
    unnamed place at = elim (k.missing place value at) [
      | inl has ↦ absent has
      | inr full ↦ room full.0
    ]

    abbrev more : List (Option A)
    more = named ++ Some value ∷ []

    held : (other : A) (i m : ℕ) → slice_get values i ≡ Some other → IsFirstAt more other m → m < length named
    held other i m at f = first_within named other m (held_first named values (Some value) other m k.listed (contains_at values i other at) f)

    last : (other : A) (m : ℕ) → value ≡ other → IsFirstAt more other m → m ≡ length named
    last other m same f = first_once more other m (length named) f (subst (λ one. IsFirstAt more one (length named)) same (first_new named value unnamed))

    once_more : (i j : ℕ) (other : A) → slice_get (values ++ value ∷ []) i ≡ Some other → slice_get (values ++ value ∷ []) j ≡ Some other → i ≡ j
    once_more i j other at bt = elim (push_cases values value other i at) [
      | inl old ↦ elim (push_cases values value other j bt) [
        | inl old_too ↦ k.listed.once i j other old old_too
        | inr new ↦ absurd (absent (subst (λ one. Contains values one) (sym new.1) (contains_at values i other old)))
      ]
      | inr new ↦ elim (push_cases values value other j bt) [
        | inl old ↦ absurd (absent (subst (λ one. Contains values one) (sym new.1) (contains_at values j other old)))
        | inr new_too ↦ new.0 ∙ sym new_too.0
      ]
    ]

    order_more : (a b : A) (i j m n : ℕ) → slice_get (values ++ value ∷ []) i ≡ Some a → slice_get (values ++ value ∷ []) j ≡ Some b → IsFirstAt more a m → IsFirstAt more b n
        → (i < j → m < n) × (m < n → i < j)
    order_more a b i j m n at bt fa fb = elim (push_cases values value a i at) [
      | inl old ↦ elim (push_cases values value b j bt) [
        | inl old_too ↦ k.listed.order a b i j m n old old_too (held_first named values (Some value) a m k.listed (contains_at values i a old) fa) (held_first named values (Some value) b n k.listed (contains_at values j b old_too) fb)
        | inr new ↦
            let low = held a i m old fa in
            let high = last b n new.1 fb in
            let inside = slice_get_within values i a old in
            (λ lt. omega arith, λ lt. omega (arith, new.0))
      ]
      | inr new ↦ elim (push_cases values value b j bt) [
        | inl old ↦
            let low = held b j n old fb in
            let high = last a m new.1 fa in
            let inside = slice_get_within values j b old in
            (λ lt. absurd (omega (arith, new.0)), λ lt. absurd (omega arith))
        | inr new_too ↦
            let high = last a m new.1 fa in
            let high_too = last b n new_too.1 fb in
            (λ lt. absurd (omega (arith, new.0, new_too.0)), λ lt. absurd (omega arith))
      ]
    ]

    pub kept_more : Kept Full more (values ++ value ∷ [])
    kept_more = record {
      listed = record {
        once = once_more;
        each = λ other has. elim (Contains-push_cases values value other has) [
          | inl old ↦ let before = k.listed.each other old in (before.0, first_push named (Some value) other before.0 before.1)
          | inr same ↦ (length named, subst (λ one. IsFirstAt more one (length named)) same (first_new named value unnamed))
        ];
        order = order_more;
      };
      missing = λ place other at. elim (push_cases named (Some value) (Some other) place at) [
        | inl old ↦ elim (k.missing place other old) [
          | inl has ↦ inl (Contains-append_left values (value ∷ []) other has)
          | inr full ↦ absurd (room full.0)
        ]
        | inr new ↦ let same : value ≡ other = cc in inl (contains_at (values ++ value ∷ []) (length values) other (push_new values value ∙ ap Some same))
      ];
    }
