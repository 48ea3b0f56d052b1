-- Setting the flags of the first classes of a register, one after another.
use Rattle.std.proofs.Common.{◌≡◌, ℕ, zero, suc, ◌<◌, ◌≤◌, Bool, true, false, cond, eqb, List, [], ◌∷◌, length, map, Some, refl, sym, ap, ◌∙◌, arith}
use Rattle.std.specs.Prelude.{slice_get, slice_set, slice_index_or}
use Rattle.std.proofs.lemmas.Bool.{ne_eqb}
use Rattle.pfs_classes.specs.declared.classes.Class.{Class}
use Rattle.pfs_classes.specs.Registry.{Registry, class_at, text_of, with_flags}
use Rattle.pfs_text.specs.Likes.{is_like}
use Rattle.pfs_script.specs.Headings.{set_if_like, flags_set_like}

-- the first so many classes made others
abbrev pub map_front : (Class → Class) → ℕ → List Class → List Class
map_front f zero xs = xs
map_front f (suc i) [] = []
map_front f (suc i) (x ∷ xs) = f x ∷ map_front f i xs

pub map_front-all : (f : Class → Class) (n : ℕ) (xs : List Class) → n ≡ length xs → map_front f n xs ≡ map f xs
map_front-all f zero [] e = refl
map_front-all f (suc n) [] e = refl
map_front-all f zero (x ∷ xs) e = absurd (omega arith)
map_front-all f (suc n) (x ∷ xs) e = ap (λ (ys : List Class). f x ∷ ys) (map_front-all f n xs (omega arith))

pub length-map_front : (f : Class → Class) (i : ℕ) (xs : List Class) → length (map_front f i xs) ≡ length xs
length-map_front f zero xs = refl
length-map_front f (suc i) [] = refl
length-map_front f (suc i) (x ∷ xs) = ap suc (length-map_front f i xs)

get-map_front : (f : Class → Class) (i : ℕ) (xs : List Class) → slice_get (map_front f i xs) i ≡ slice_get xs i
get-map_front f zero xs = refl
get-map_front f (suc i) [] = refl
get-map_front f (suc i) (x ∷ xs) = get-map_front f i xs

index-map_front : (f : Class → Class) (i : ℕ) (xs : List Class) (d : Class) → slice_index_or (map_front f i xs) i d ≡ slice_index_or xs i d
index-map_front f zero xs d = refl
index-map_front f (suc i) [] d = refl
index-map_front f (suc i) (x ∷ xs) d = index-map_front f i xs d

get_there : (xs : List Class) (i : ℕ) (d : Class) → i < length xs → slice_get xs i ≡ Some (slice_index_or xs i d)
get_there [] i d lt = absurd (omega arith)
get_there (x ∷ xs) zero d lt = refl
get_there (x ∷ xs) (suc i) d lt = get_there xs i d (omega arith)

set-map_front : (f : Class → Class) (i : ℕ) (xs : List Class) (d y : Class) → i < length xs → y ≡ f (slice_index_or xs i d) → slice_set (map_front f i xs) i y ≡ map_front f (suc i) xs
set-map_front f i [] d y lt e = absurd (omega arith)
set-map_front f zero (x ∷ xs) d y lt e = ap (λ (one : Class). one ∷ xs) e
set-map_front f (suc i) (x ∷ xs) d y lt e = ap (λ (ys : List Class). f x ∷ ys) (set-map_front f i xs d y (omega arith) e)

skip-map_front : (f : Class → Class) (i : ℕ) (xs : List Class) (d : Class) → i < length xs → slice_index_or xs i d ≡ f (slice_index_or xs i d) → map_front f i xs ≡ map_front f (suc i) xs
skip-map_front f i [] d lt e = absurd (omega arith)
skip-map_front f zero (x ∷ xs) d lt e = ap (λ (one : Class). one ∷ xs) e
skip-map_front f (suc i) (x ∷ xs) d lt e = ap (λ (ys : List Class). f x ∷ ys) (skip-map_front f i xs d (omega arith) e)

-- with the first so many classes set where their names are like the pattern
module _ (names : List (List ℕ)) (pattern : List ℕ) (enabled timed : Bool) where
  abbrev pub front_set : Registry → ℕ → Registry
  front_set r i = record r { classes = map_front (set_if_like names pattern enabled timed) i r.classes }

  abbrev pub set_at : Registry → ℕ → Class → Registry
  set_at r id class = cond (is_like pattern (text_of names class.name)) (with_flags r id enabled timed) r

  step_by : (r : Registry) (i : ℕ) (class : Class) (b : Bool) → is_like pattern (text_of names class.name) ≡ b → i < length r.classes → eqb i 62 ≡ false → class ≡ slice_index_or r.classes i r.transaction
      → cond b (cond (eqb i 62) (record r { transaction = record r.transaction { enabled = enabled; timed = timed }; classes = map_front (set_if_like names pattern enabled timed) i r.classes })
      (record r { classes = slice_set (map_front (set_if_like names pattern enabled timed) i r.classes) i (record class { enabled = enabled; timed = timed }) })) (front_set r i) ≡ front_set r (suc i)
  step_by r i class true e lt other here =
      let f : Class → Class = set_if_like names pattern enabled timed in
      let set : record class { enabled = enabled; timed = timed } ≡ f class = ap (λ (b : Bool). cond b (record class { enabled = enabled; timed = timed }) class) (sym e) in
      rw other (ap (λ (xs : List Class). record r { classes = xs }) (set-map_front f i r.classes r.transaction (record class { enabled = enabled; timed = timed }) lt (set ∙ ap f here)))
  step_by r i class false e lt other here =
      let f : Class → Class = set_if_like names pattern enabled timed in
      let same : class ≡ f class = ap (λ (b : Bool). cond b (record class { enabled = enabled; timed = timed }) class) (sym e) in
      ap (λ (xs : List Class). record r { classes = xs }) (skip-map_front f i r.classes r.transaction lt (sym here ∙ (same ∙ ap f here)))

  below_62 : (i n : ℕ) → i < n → n ≤ 62 → eqb i 62 ≡ false
  below_62 i n lt few = ne_eqb i 62 (λ e. omega arith)

  pub set_next : (r after : Registry) (i : ℕ) → i < length r.classes → length r.classes ≤ 62
      → ((class : Class) → class_at (front_set r i) i ≡ Some class → after ≡ set_at (front_set r i) i class) → after ≡ front_set r (suc i)
  set_next r after i lt few told =
      let class : Class = slice_index_or r.classes i r.transaction in
      let f : Class → Class = set_if_like names pattern enabled timed in
      let other : eqb i 62 ≡ false = below_62 i (length r.classes) lt few in
      let at : class_at (front_set r i) i ≡ Some class =
      ap (λ (b : Bool). cond b (Some r.transaction) (slice_get (map_front f i r.classes) i)) other ∙ (get-map_front f i r.classes ∙ get_there r.classes i r.transaction lt) in
      let same : slice_index_or (map_front f i r.classes) i r.transaction ≡ class = index-map_front f i r.classes r.transaction in
      told class at
      ∙ (ap (λ (one : Class). cond (is_like pattern (text_of names class.name)) (cond (eqb i 62) (record r { transaction = record r.transaction { enabled = enabled; timed = timed }; classes = map_front f i r.classes })
      (record r { classes = slice_set (map_front f i r.classes) i (record one { enabled = enabled; timed = timed }) })) (front_set r i)) same
      ∙ step_by r i class (is_like pattern (text_of names class.name)) refl lt other refl)

  last_by : (r : Registry) (b : Bool) (xs : List Class) → is_like pattern (text_of names r.transaction.name) ≡ b
      → cond b (record r { transaction = record r.transaction { enabled = enabled; timed = timed }; classes = xs }) (record r { classes = xs })
      ≡ record r { classes = xs; transaction = set_if_like names pattern enabled timed r.transaction }
  last_by r true xs e = ap (λ (one : Class). record r { classes = xs; transaction = one }) (ap (λ (b : Bool). cond b (record r.transaction { enabled = enabled; timed = timed }) r.transaction) (sym e))
  last_by r false xs e = ap (λ (one : Class). record r { classes = xs; transaction = one }) (ap (λ (b : Bool). cond b (record r.transaction { enabled = enabled; timed = timed }) r.transaction) (sym e))

  pub set_last : (r after : Registry) (n : ℕ) → n ≡ length r.classes
      → ((class : Class) → class_at (front_set r n) 62 ≡ Some class → after ≡ set_at (front_set r n) 62 class) → after ≡ flags_set_like r names pattern enabled timed
  set_last r after n all told =
      let f : Class → Class = set_if_like names pattern enabled timed in
      told r.transaction refl
      ∙ (last_by r (is_like pattern (text_of names r.transaction.name)) (map_front f n r.classes) refl
      ∙ ap (λ (xs : List Class). record r { classes = xs; transaction = f r.transaction }) (map_front-all f n r.classes all))
