-- The turns of one step, of two, of three, and of none.
use Rattle.std.proofs.Common.{◌≡◌, List, [], ◌∷◌, ◌++◌, refl, ap, ◌∙◌}
use Rattle.pfs_session.specs.Turns.{Step, Turn, steps_of}

record Last {A : Type 0} (xs : List A) (a : A) (ys : List A) (b : A) : Type 0 where
  pub front : xs ≡ ys
  pub last : a ≡ b

snoc_same : {A : Type 0} (xs ys : List A) (a b : A) → (xs ++ a ∷ []) ≡ (ys ++ b ∷ []) → Last xs a ys b
snoc_same [] [] a b e = record { front = refl; last = cc }
snoc_same [] (y ∷ []) a b e = absurd (cc)
snoc_same [] (y ∷ z ∷ zs) a b e = absurd (cc)
snoc_same (x ∷ []) [] a b e = absurd (cc)
snoc_same (x ∷ z ∷ zs) [] a b e = absurd (cc)
snoc_same {A} (x ∷ xs) (y ∷ ys) a b e =
    let head : x ≡ y = cc in
    let tail : (xs ++ a ∷ []) ≡ (ys ++ b ∷ []) = cc in
    let r : Last xs a ys b = snoc_same xs ys a b tail in
    record { front = ap (λ z. z ∷ xs) head ∙ ap (λ z. y ∷ z) r.front; last = r.last }

pub snoc_nil : {A : Type 0} (xs : List A) (a : A) → (xs ++ a ∷ []) ≡ [] → ⊥
snoc_nil [] a e = absurd (cc)
snoc_nil (x ∷ xs) a e = absurd (cc)

pub no_turns : (turns : List Turn) → steps_of turns ≡ [] → turns ≡ []
no_turns [] e = refl
no_turns (t ∷ ts) e = absurd (snoc_nil (steps_of ts) t.step e)

pub record OneTurn (turns : List Turn) (a : Step) : Type 0 where
  pub turn : Turn
  pub is : turns ≡ turn ∷ []
  pub step_is : turn.step ≡ a

pub one_turn : (turns : List Turn) (a : Step) → steps_of turns ≡ a ∷ [] → OneTurn turns a
one_turn [] a e = absurd (cc)
one_turn (t ∷ ts) a e =
    let r : Last (steps_of ts) t.step [] a = snoc_same (steps_of ts) [] t.step a e in
    record { turn = t; is = ap (λ z. t ∷ z) (no_turns ts r.front); step_is = r.last }

pub record TwoTurns (turns : List Turn) (a b : Step) : Type 0 where
  pub first : Turn
  pub second : Turn
  pub is : turns ≡ second ∷ first ∷ []
  pub first_is : first.step ≡ a
  pub second_is : second.step ≡ b

pub two_turns : (turns : List Turn) (a b : Step) → steps_of turns ≡ a ∷ b ∷ [] → TwoTurns turns a b
two_turns [] a b e = absurd (cc)
two_turns (t ∷ ts) a b e =
    let r : Last (steps_of ts) t.step (a ∷ []) b = snoc_same (steps_of ts) (a ∷ []) t.step b e in
    let o : OneTurn ts a = one_turn ts a r.front in
    record { first = o.turn; second = t; is = ap (λ z. t ∷ z) o.is; first_is = o.step_is; second_is = r.last }

pub record ThreeTurns (turns : List Turn) (a b c : Step) : Type 0 where
  pub first : Turn
  pub second : Turn
  pub third : Turn
  pub is : turns ≡ third ∷ second ∷ first ∷ []
  pub first_is : first.step ≡ a
  pub second_is : second.step ≡ b
  pub third_is : third.step ≡ c

pub three_turns : (turns : List Turn) (a b c : Step) → steps_of turns ≡ a ∷ b ∷ c ∷ [] → ThreeTurns turns a b c
three_turns [] a b c e = absurd (cc)
three_turns (t ∷ ts) a b c e =
    let r : Last (steps_of ts) t.step (a ∷ b ∷ []) c = snoc_same (steps_of ts) (a ∷ b ∷ []) t.step c e in
    let o : TwoTurns ts a b = two_turns ts a b r.front in
    record {
      first = o.first;
      second = o.second;
      third = t;
      is = ap (λ z. t ∷ z) o.is;
      first_is = o.first_is;
      second_is = o.second_is;
      third_is = r.last;
    }
