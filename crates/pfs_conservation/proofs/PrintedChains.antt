-- A chain whose takes and gives rise, and are those that the moves ask for, follows the moves.
use Rattle.std.proofs.Common.{inl, inr, ◌≡◌, ℕ, suc, ◌+◌, ◌*◌, ◌<◌, ◌≤◌, ◌==◌, ◌&&◌, Bool, true, false, cond, List, [], ◌∷◌, ◌++◌, map, refl, sym, ap, ◌∙◌, subst, arith}
use Rattle.pfs_conservation.specs.RowChains.{Change, Added, Taken, Given}
use Rattle.pfs_conservation.specs.RowMoves.{Move, goes_to, touches, moved, IsLater, AllLater, InOrder}
use Rattle.pfs_conservation.proofs.RisingLists.{Rising, Members, rising_same}

-- an action's number, and within an action the row that is taken
abbrev pub key_at : ℕ → Change → ℕ
key_at row (Added events) = 0
key_at row (Taken action) = action * 16384 + row
key_at row (Given action from) = action * 16384 + from

-- takes of the row, and gives from lower rows
abbrev pub AreAt : ℕ → List Change → Type 0
AreAt row [] = Unit {0}
AreAt row (Added events ∷ cs) = ⊥
AreAt row (Taken action ∷ cs) = AreAt row cs
AreAt row (Given action from ∷ cs) = (from < row) × AreAt row cs

cons_first : (x y : ℕ) (xs ys : List ℕ) → x ∷ xs ≡ y ∷ ys → x ≡ y
cons_first x y xs ys h = cc

cons_rest : (x y : ℕ) (xs ys : List ℕ) → x ∷ xs ≡ y ∷ ys → xs ≡ ys
cons_rest x y xs ys h = cc

nil_cons : {X : Type 0} (x : ℕ) (xs : List ℕ) → ◌≡◌ {A = List ℕ} [] (x ∷ xs) → X
nil_cons x xs h = absurd (cc)

keys_same : (row : ℕ) → row < 16384 → (xs ys : List Change) → AreAt row xs → AreAt row ys → map (key_at row) xs ≡ map (key_at row) ys → xs ≡ ys
keys_same row low [] [] a b h = refl
keys_same row low [] (y ∷ ys) a b h = nil_cons (key_at row y) (map (key_at row) ys) h
keys_same row low (x ∷ xs) [] a b h = nil_cons (key_at row x) (map (key_at row) xs) (sym h)
keys_same row low (Added es ∷ xs) ys a b h = absurd a
keys_same row low xs (Added es ∷ ys) a b h = absurd b
keys_same row low (Taken n ∷ xs) (Taken k ∷ ys) a b h =
    let e : n * 16384 + row ≡ k * 16384 + row = cons_first (n * 16384 + row) (k * 16384 + row) (map (key_at row) xs) (map (key_at row) ys) h in
    let same : n ≡ k = omega arith in
    ap (λ z. Taken z ∷ xs) same ∙ ap (λ zs. Taken k ∷ zs) (keys_same row low xs ys a b (cons_rest (n * 16384 + row) (k * 16384 + row) (map (key_at row) xs) (map (key_at row) ys) h))
keys_same row low (Taken n ∷ xs) (Given k from ∷ ys) a b h =
    absurd (let below : from < row = b.0 in let e : n * 16384 + row ≡ k * 16384 + from = cons_first (n * 16384 + row) (k * 16384 + from) (map (key_at row) xs) (map (key_at row) ys) h in omega arith)
keys_same row low (Given n from ∷ xs) (Taken k ∷ ys) a b h =
    absurd (let below : from < row = a.0 in let e : n * 16384 + from ≡ k * 16384 + row = cons_first (n * 16384 + from) (k * 16384 + row) (map (key_at row) xs) (map (key_at row) ys) h in omega arith)
keys_same row low (Given n from ∷ xs) (Given k to ∷ ys) a b h =
    let f : from < row = a.0 in let t : to < row = b.0 in
    let e : n * 16384 + from ≡ k * 16384 + to = cons_first (n * 16384 + from) (k * 16384 + to) (map (key_at row) xs) (map (key_at row) ys) h in
    let same : n ≡ k = omega arith in
    let source : from ≡ to = omega arith in
    ap (λ z. Given z from ∷ xs) same ∙ (ap (λ z. Given k z ∷ xs) source ∙ ap (λ zs. Given k to ∷ zs) (keys_same row low xs ys a.1 b.1 (cons_rest (n * 16384 + from) (k * 16384 + to) (map (key_at row) xs) (map (key_at row) ys) h)))

module _ (kept : ℕ → ℕ → Bool) (row : ℕ) where
  abbrev pub KeysFrom : ℕ → List Move → Type 0
  KeysFrom low [] = Unit {0}
  KeysFrom low (m ∷ ms) = (low ≤ m.action * 16384 + m.from) × KeysFrom low ms

  abbrev pub RowsLow : List Move → Type 0
  RowsLow [] = Unit {0}
  RowsLow (m ∷ ms) = (m.from < 16384) × RowsLow ms

  keys_later : (first : Move) (ms : List Move) → first.from < 16384 → AllLater (λ r. r) first ms → KeysFrom (suc (first.action * 16384 + first.from)) ms
  keys_later first [] f l = tt
  keys_later first (m ∷ ms) f l = (one l.0, keys_later first ms f l.1)
    where
      one : IsLater (λ r. r) first m → suc (first.action * 16384 + first.from) ≤ m.action * 16384 + m.from
      one (inl less) = omega arith
      one (inr same) = at (first.from == m.from) refl
        where
          number : (a b : ℕ) → (a == b) ≡ true → a ≡ b
          number a b q = grind (arith, q)

          other : (a b : ℕ) → (a == b) ≡ false → a ≤ b → suc a ≤ b
          other a b q h = grind (arith, q, h)

          at : (b : Bool) → (first.from == m.from) ≡ b → suc (first.action * 16384 + first.from) ≤ m.action * 16384 + m.from
          at true q = absurd (same.2 (number first.from m.from q))
          at false q = omega (arith, same.0, other first.from m.from q same.1)

  touches_rise : (low : ℕ) (ms : List Move) → InOrder (λ r. r) ms → RowsLow ms → KeysFrom low ms → Rising low (map (key_at row) (touches kept row ms))
  touches_rise low [] o r k = tt
  touches_rise low (m ∷ ms) o r k = at (m.from == row) (goes_to row m.to && kept m.action m.from) refl (touches_rise low ms o.2 r.1 k.1) (touches_rise (suc (m.action * 16384 + m.from)) ms o.2 r.1 (keys_later m ms r.0 o.1))
    where
      number : (a b : ℕ) → (a == b) ≡ true → a ≡ b
      number a b q = grind (arith, q)

      at : (b c : Bool) → (m.from == row) ≡ b → Rising low (map (key_at row) (touches kept row ms)) → Rising (suc (m.action * 16384 + m.from)) (map (key_at row) (touches kept row ms))
          → Rising low (map (key_at row) (cond {A = List Change} b (Taken m.action ∷ []) (cond c (Given m.action m.from ∷ []) []) ++ touches kept row ms))
      at true c q same rest = subst (λ x. Rising low ((m.action * 16384 + x) ∷ map (key_at row) (touches kept row ms))) (number m.from row q) (k.0, rest)
      at false true q same rest = (k.0, rest)
      at false false q same rest = same

  pub touches_at : (ms : List Move) → InOrder (λ r. r) ms → AreAt row (touches kept row ms)
  touches_at [] o = tt
  touches_at (m ∷ ms) o = at (m.from == row) (goes_to row m.to && kept m.action m.from) refl (touches_at ms o.2)
    where
      left : (a b : Bool) → (a && b) ≡ true → a ≡ true
      left true b h = refl
      left false b h = h

      at : (b c : Bool) → (goes_to row m.to && kept m.action m.from) ≡ c → AreAt row (touches kept row ms) → AreAt row (cond {A = List Change} b (Taken m.action ∷ []) (cond c (Given m.action m.from ∷ []) []) ++ touches kept row ms)
      at true c q ih = ih
      at false true q ih = (o.0 row (left (goes_to row m.to) (kept m.action m.from) q), ih)
      at false false q ih = ih

  keys_none : (ms : List Move) → KeysFrom 0 ms
  keys_none [] = tt
  keys_none (m ∷ ms) = (omega arith, keys_none ms)

  -- the printed takes and gives of a row are the moves', where they rise and are the same
  pub follows_printed : row < 16384 → (ms : List Move) → InOrder (λ r. r) ms → RowsLow ms → (cs : List Change) → AreAt row (moved cs) → Rising 0 (map (key_at row) (moved cs))
      → Members (map (key_at row) (moved cs)) (map (key_at row) (touches kept row ms)) → Members (map (key_at row) (touches kept row ms)) (map (key_at row) (moved cs)) → moved cs ≡ touches kept row ms
  follows_printed low ms o r cs at rise m n =
      keys_same row low (moved cs) (touches kept row ms) at (touches_at ms o) (rising_same 0 (map (key_at row) (moved cs)) (map (key_at row) (touches kept row ms)) rise (touches_rise 0 ms o r (keys_none ms)) m n)
