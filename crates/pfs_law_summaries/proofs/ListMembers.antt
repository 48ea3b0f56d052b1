-- What lists contain that are made of others.
use Rattle.std.proofs.Common.{◌≡◌, Bool, true, false, cond, List, [], ◌∷◌, map, filter, refl, sym, ap, subst, ◌∙◌}
use Rattle.std.specs.Prelude.{All, Contains}
use Rattle.std.proofs.lemmas.List.Elements.{All-nil, All-cons, All-head, All-tail, All-map, All-filter, All-weaker, All-contains, All-contains_itself, Contains-append_right}

-- an element of a list with one more in front
pub later : {X : Type 0} (x : X) (xs : List X) (y : X) → Contains xs y → Contains (x ∷ xs) y
later x xs y h = Contains-append_right (x ∷ []) xs y h

pub first : {X : Type 0} (x : X) (xs : List X) → Contains (x ∷ xs) x
first x xs = All-head (Contains (x ∷ xs)) x xs (All-contains_itself (x ∷ xs))

each_mapped : {X Y : Type 0} (f : X → Y) (P : Y → Type 0) (xs : List X) → All P (map f xs) → All (λ x. P (f x)) xs
each_mapped f P [] h = All-nil (λ x. P (f x))
each_mapped f P (x ∷ xs) h = All-cons (λ x. P (f x)) x xs (All-head P (f x) (map f xs) h) (each_mapped f P xs (All-tail P (f x) (map f xs) h))

pub contains_map : {X Y : Type 0} (f : X → Y) (xs : List X) (x : X) → Contains xs x → Contains (map f xs) (f x)
contains_map f xs x h = All-contains (λ x. Contains (map f xs) (f x)) xs x (each_mapped f (Contains (map f xs)) xs (All-contains_itself (map f xs))) h

pub map_contains : {X Y : Type 0} (f : X → Y) (xs : List X) (y : Y) → Contains (map f xs) y → (x : X) × Contains xs x × (f x ≡ y)
map_contains {X} f xs y h =
    All-contains (λ y. (x : X) × Contains xs x × (f x ≡ y)) (map f xs) y (All-map (λ y. (x : X) × Contains xs x × (f x ≡ y)) f xs (All-weaker (Contains xs) (λ x. (z : X) × Contains xs z × (f z ≡ f x)) (λ x c. (x, c, refl)) xs (All-contains_itself xs))) h

pub contains_filter : {X : Type 0} (p : X → Bool) (xs : List X) (x : X) → Contains xs x → p x ≡ true → Contains (filter p xs) x
contains_filter {X} p xs x h q = All-contains (λ x. p x ≡ true → Contains (filter p xs) x) xs x (each xs) h q where
  each : (xs : List X) → All (λ x. p x ≡ true → Contains (filter p xs) x) xs
  each [] = All-nil (λ x. p x ≡ true → Contains (filter p []) x)
  each (x ∷ xs) = at (p x) refl (each xs) where
    at : (b : Bool) → p x ≡ b → All (λ x. p x ≡ true → Contains (filter p xs) x) xs → All (λ y. p y ≡ true → Contains (filter p (x ∷ xs)) y) (x ∷ xs)
    at true e rest =
        let f : filter p (x ∷ xs) ≡ x ∷ filter p xs = ap (λ b. cond b (x ∷ filter p xs) (filter p xs)) e in
        All-cons (λ y. p y ≡ true → Contains (filter p (x ∷ xs)) y) x xs (λ w. subst (λ l. Contains l x) (sym f) (first x (filter p xs)))
        (All-weaker (λ y. p y ≡ true → Contains (filter p xs) y) (λ y. p y ≡ true → Contains (filter p (x ∷ xs)) y) (λ y c w. subst (λ l. Contains l y) (sym f) (later x (filter p xs) y (c w))) xs rest)
    at false e rest =
        let f : filter p (x ∷ xs) ≡ filter p xs = ap (λ b. cond b (x ∷ filter p xs) (filter p xs)) e in
        All-cons (λ y. p y ≡ true → Contains (filter p (x ∷ xs)) y) x xs (λ w. absurd (let z : true ≡ false = sym w ∙ e in cc))
        (All-weaker (λ y. p y ≡ true → Contains (filter p xs) y) (λ y. p y ≡ true → Contains (filter p (x ∷ xs)) y) (λ y c w. subst (λ l. Contains l y) (sym f) (c w)) xs rest)

passes_all : {X : Type 0} (p : X → Bool) (xs : List X) → All (λ x. p x ≡ true) (filter p xs)
passes_all p [] = All-nil (λ x. p x ≡ true)
passes_all p (x ∷ xs) = at (p x) refl (passes_all p xs) where
  at : (b : Bool) → p x ≡ b → All (λ x. p x ≡ true) (filter p xs) → All (λ x. p x ≡ true) (filter p (x ∷ xs))
  at true e rest = subst (λ l. All (λ x. p x ≡ true) l) (sym (ap (λ b. cond b (x ∷ filter p xs) (filter p xs)) e)) (All-cons (λ x. p x ≡ true) x (filter p xs) e rest)
  at false e rest = subst (λ l. All (λ x. p x ≡ true) l) (sym (ap (λ b. cond b (x ∷ filter p xs) (filter p xs)) e)) rest

pub filter_contains : {X : Type 0} (p : X → Bool) (xs : List X) (x : X) → Contains (filter p xs) x → Contains xs x × (p x ≡ true)
filter_contains p xs x h =
    (All-contains (Contains xs) (filter p xs) x (All-filter p (Contains xs) xs (All-contains_itself xs)) h, All-contains (λ x. p x ≡ true) (filter p xs) x (passes_all p xs) h)

-- what holds of each element that a list contains
pub each_contained : {X : Type 0} (P : X → Type 0) (xs : List X) → ((x : X) → Contains xs x → P x) → All P xs
each_contained P xs h = All-weaker (Contains xs) P h xs (All-contains_itself xs)

pub filter_mapped : {X Y : Type 0} (p : Y → Bool) (f : X → Y) (xs : List X) → filter p (map f xs) ≡ map f (filter (λ x. p (f x)) xs)
filter_mapped p f [] = refl
filter_mapped {X} {Y} p f (x ∷ xs) = at (p (f x)) refl (filter_mapped p f xs) where
  at : (b : Bool) → p (f x) ≡ b → filter p (map f xs) ≡ map f (filter (λ x. p (f x)) xs) → filter p (map f (x ∷ xs)) ≡ map f (filter (λ x. p (f x)) (x ∷ xs))
  at true e rest =
      ap (λ b. cond b (f x ∷ filter p (map f xs)) (filter p (map f xs))) e
      ∙ (ap (λ (l : List Y). f x ∷ l) rest ∙ ap (map f) (sym (ap (λ b. cond b (x ∷ filter (λ x. p (f x)) xs) (filter (λ x. p (f x)) xs)) e)))
  at false e rest =
      ap (λ b. cond b (f x ∷ filter p (map f xs)) (filter p (map f xs))) e
      ∙ (rest ∙ ap (map f) (sym (ap (λ b. cond b (x ∷ filter (λ x. p (f x)) xs) (filter (λ x. p (f x)) xs)) e)))

pub map_agrees : {X Y : Type 0} (f g : X → Y) (xs : List X) → All (λ x. f x ≡ g x) xs → map f xs ≡ map g xs
map_agrees f g [] h = refl
map_agrees {X} {Y} f g (x ∷ xs) h = ap (λ (y : Y). y ∷ map f xs) (All-head (λ x. f x ≡ g x) x xs h) ∙ ap (λ (l : List Y). g x ∷ l) (map_agrees f g xs (All-tail (λ x. f x ≡ g x) x xs h))

pub map_map : {X Y Z : Type 0} (f : X → Y) (g : Y → Z) (xs : List X) → map g (map f xs) ≡ map (λ x. g (f x)) xs
map_map f g [] = refl
map_map {X} {Y} {Z} f g (x ∷ xs) = ap (λ (l : List Z). g (f x) ∷ l) (map_map f g xs)
