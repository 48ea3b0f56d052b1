-- Rows of one cell: threads from 0, accounts from 32, users from 64, hosts from 96, and the global row 128.
use Rattle.std.proofs.Common.{◌⊎◌, inl, inr, ◌≡◌, ℕ, zero, suc, ◌+◌, ◌-◌, ◌<◌, ◌≤◌, ◌==◌, Bool, true, false, cond, List, [], ◌∷◌, Some, None, count_by, refl, sym, ap, ◌∙◌, subst, arith}
use Rattle.std.specs.Prelude.{nat_lt}
use Rattle.std.proofs.lemmas.Bool.{eqb-true, ltb-false, ltb-true}
use Rattle.pfs_conservation.specs.ActionMoves.{RowsAfter, Ranked}
use Rattle.pfs_conservation.specs.PlaceFolds.{Place, Thread, Account, User, Host, Global, Elsewhere, State, entry_at}
use Rattle.pfs_conservation.specs.CellHolders.{Seat, Numbering, IsIn, Between, IsNumbering, place_level}
use Rattle.pfs_conservation.specs.KindFacts.{IsListing}
use Rattle.pfs_conservation.proofs.MergeTotals.{bit_yes, bit_no}
use Rattle.pfs_conservation.proofs.ChainEvents.{count_cons}
use Rattle.pfs_conservation.proofs.RowOwners.{clash}
use Rattle.pfs_conservation.proofs.Connects.{Sound}
use Rattle.pfs_conservation.proofs.KindSummaries.{Base}

abbrev pub row_of : ℕ → Place → ℕ
row_of cell (Thread t) = t
row_of cell (Account a) = 32 + a
row_of cell (User u) = 64 + u
row_of cell (Host h) = 96 + h
row_of cell Global = 128
row_of cell Elsewhere = 129

abbrev pub place_of : ℕ → Place
place_of row = cond (nat_lt row 32) (Thread row) (cond (nat_lt row 64) (Account (row - 32)) (cond (nat_lt row 96) (User (row - 64)) (cond (nat_lt row 128) (Host (row - 96)) (cond (row == 128) Global Elsewhere))))

abbrev pub numbering : Numbering
numbering = record { is_cell = λ cell. cell == 0; row = row_of; seat = λ row. record { cell = 0; place = place_of row }; accounts = 32; users = 64; hosts = 96; globals = 128 }

place_is : (p : Place) → IsIn p → place_of (row_of 0 p) ≡ p
place_is (Thread t) i = ap (λ b. cond b (Thread t) (cond (nat_lt t 64) (Account (t - 32)) (cond (nat_lt t 96) (User (t - 64)) (cond (nat_lt t 128) (Host (t - 96)) (cond (t == 128) Global Elsewhere))))) (low t i)
  where
    low : (t : ℕ) → t < 32 → nat_lt t 32 ≡ true
    low t i = grind (arith, i)
place_is (Account t) i = rw (a t i, b t i) (ap (λ z. Account z) (c t))
  where
    a : (t : ℕ) → t < 32 → nat_lt (32 + t) 32 ≡ false
    a t i = grind (arith, i)

    b : (t : ℕ) → t < 32 → nat_lt (32 + t) 64 ≡ true
    b t i = grind (arith, i)

    c : (t : ℕ) → (32 + t) - 32 ≡ t
    c t = omega arith
place_is (User t) i = rw (a t i, b t i, d t i) (ap (λ z. User z) (c t))
  where
    a : (t : ℕ) → t < 32 → nat_lt (64 + t) 32 ≡ false
    a t i = grind (arith, i)

    b : (t : ℕ) → t < 32 → nat_lt (64 + t) 64 ≡ false
    b t i = grind (arith, i)

    d : (t : ℕ) → t < 32 → nat_lt (64 + t) 96 ≡ true
    d t i = grind (arith, i)

    c : (t : ℕ) → (64 + t) - 64 ≡ t
    c t = omega arith
place_is (Host t) i = rw (a t i, b t i, d t i, e t i) (ap (λ z. Host z) (c t))
  where
    a : (t : ℕ) → t < 32 → nat_lt (96 + t) 32 ≡ false
    a t i = grind (arith, i)

    b : (t : ℕ) → t < 32 → nat_lt (96 + t) 64 ≡ false
    b t i = grind (arith, i)

    d : (t : ℕ) → t < 32 → nat_lt (96 + t) 96 ≡ false
    d t i = grind (arith, i)

    e : (t : ℕ) → t < 32 → nat_lt (96 + t) 128 ≡ true
    e t i = grind (arith, i)

    c : (t : ℕ) → (96 + t) - 96 ≡ t
    c t = omega arith
place_is Global i = refl
place_is Elsewhere i = absurd i

-- what a row is
data Range (row : ℕ) : Type 0 where
  Threads : row < 32 → place_of row ≡ Thread row → Range row
  Accounts : 32 ≤ row → row < 64 → place_of row ≡ Account (row - 32) → Range row
  Users : 64 ≤ row → row < 96 → place_of row ≡ User (row - 64) → Range row
  Hosts : 96 ≤ row → row < 128 → place_of row ≡ Host (row - 96) → Range row
  All : row ≡ 128 → place_of row ≡ Global → Range row
  Past : 129 ≤ row → place_of row ≡ Elsewhere → Range row

apart : (a : ℕ) → 128 ≤ a → (a == 128) ≡ false → 129 ≤ a
apart a l q = grind (arith, l, q)

range : (row : ℕ) → Range row
range row = at (nat_lt row 32) (nat_lt row 64) (nat_lt row 96) (nat_lt row 128) (row == 128) refl refl refl refl refl
  where
    at : (a b c d e : Bool) → nat_lt row 32 ≡ a → nat_lt row 64 ≡ b → nat_lt row 96 ≡ c → nat_lt row 128 ≡ d → (row == 128) ≡ e → Range row
    at true b c d e p q r s t = Threads (ltb-true row 32 p) (rw p refl)
    at false true c d e p q r s t = Accounts (ltb-false row 32 p) (ltb-true row 64 q) (rw (p, q) refl)
    at false false true d e p q r s t = Users (ltb-false row 64 q) (ltb-true row 96 r) (rw (p, q, r) refl)
    at false false false true e p q r s t = Hosts (ltb-false row 96 r) (ltb-true row 128 s) (rw (p, q, r, s) refl)
    at false false false false true p q r s t = All (eqb-true row 128 t) (rw (p, q, r, s, t) refl)
    at false false false false false p q r s t = Past (apart row (ltb-false row 128 s) t) (rw (p, q, r, s, t) refl)

is_zero : (cell : ℕ) → (cell == 0) ≡ true → cell ≡ 0
is_zero cell q = eqb-true cell 0 q

pub good : IsNumbering numbering
good = record {
  seats = λ cell p low i. seat_is cell (is_zero cell low) p i;
  rows = λ row i. row_is row (range row) i;
  between = λ cell p low i. bounds p i;
  users = omega arith;
  hosts = omega arith;
  globals = omega arith;
}
  where
    row_zero : (cell : ℕ) (p : Place) → row_of cell p ≡ row_of 0 p
    row_zero cell (Thread t) = refl
    row_zero cell (Account t) = refl
    row_zero cell (User t) = refl
    row_zero cell (Host t) = refl
    row_zero cell Global = refl
    row_zero cell Elsewhere = refl

    seat_is : (cell : ℕ) → cell ≡ 0 → (p : Place) → IsIn p → ◌≡◌ {A = Seat} (record { cell = 0; place = place_of (row_of cell p) }) (record { cell = cell; place = p })
    seat_is cell z p i = ap (λ (q : Place). record { cell = 0; place = q }) (ap place_of (row_zero cell p) ∙ place_is p i) ∙ ap (λ c. record { cell = c; place = p }) (sym z)

    row_is : (row : ℕ) → Range row → IsIn (place_of row) → row_of 0 (place_of row) ≡ row
    row_is row (Threads l q) i = ap (row_of 0) q
    row_is row (Accounts l m q) i = ap (row_of 0) q ∙ omega arith
    row_is row (Users l m q) i = ap (row_of 0) q ∙ omega arith
    row_is row (Hosts l m q) i = ap (row_of 0) q ∙ omega arith
    row_is row (All l q) i = ap (row_of 0) q ∙ sym l
    row_is row (Past l q) i = absurd (subst IsIn q i)

    bounds : (p : Place) → IsIn p → Between numbering p (row_of 0 p)
    bounds (Thread t) i = i
    bounds (Account t) i = (omega arith, omega arith)
    bounds (User t) i = (omega arith, omega arith)
    bounds (Host t) i = (omega arith, omega arith)
    bounds Global i = omega arith
    bounds Elsewhere i = i

abbrev pub upto : ℕ → ℕ → List ℕ
upto n zero = []
upto n (suc k) = n ∷ upto (suc n) k

upto_none : (n k row : ℕ) → row < n → count_by (λ r. r == row) (upto n k) ≡ 0
upto_none n zero row l = refl
upto_none n (suc k) row l = omega (arith, count_cons (λ r. r == row) n (upto (suc n) k), bit_no (n == row) (above n row l), upto_none (suc n) k row (omega arith))
  where
    above : (a b : ℕ) → b < a → (a == b) ≡ false
    above a b l = grind (arith, l)

upto_one : (n k row : ℕ) → n ≤ row → row < n + k → count_by (λ r. r == row) (upto n k) ≡ 1
upto_one n zero row l h = absurd (omega arith)
upto_one n (suc k) row l h = at (n == row) refl (λ low. upto_one (suc n) k row low (omega arith))
  where
    less : (a b : ℕ) → a ≤ b → (a == b) ≡ false → suc a ≤ b
    less a b l q = grind (arith, l, q)

    at : (b : Bool) → (n == row) ≡ b → (suc n ≤ row → count_by (λ r. r == row) (upto (suc n) k) ≡ 1) → count_by (λ r. r == row) (upto n (suc k)) ≡ 1
    at true q ih = let is : n ≡ row = eqb-true n row q in omega (arith, count_cons (λ r. r == row) n (upto (suc n) k), bit_yes (n == row) q, upto_none (suc n) k row (omega arith))
    at false q ih = omega (arith, count_cons (λ r. r == row) n (upto (suc n) k), bit_no (n == row) q, ih (less n row l q))

rows_after : (level : ℕ → ℕ) → ((a b : ℕ) → a ≤ b → b < 129 → level a ≤ level b) → (row n k : ℕ) → row < n → n + k ≤ 129 → RowsAfter level row (upto n k)
rows_after level up row n zero l h = tt
rows_after level up row n (suc k) l h = (up row n (omega arith) (omega arith), (λ e. (let e : row ≡ n = e in omega arith)), rows_after level up row (suc n) k (omega arith) (omega arith))

ranked : (level : ℕ → ℕ) → ((a b : ℕ) → a ≤ b → b < 129 → level a ≤ level b) → (n k : ℕ) → n + k ≤ 129 → Ranked level (upto n k)
ranked level up n zero h = tt
ranked level up n (suc k) h = (rows_after level up n (suc n) k (omega arith) (omega arith), ranked level up (suc n) k (omega arith))

level_up : (a b : ℕ) → a ≤ b → b < 129 → place_level (place_of a) ≤ place_level (place_of b)
level_up a b l h = by (range a) (range b)
  where
    level_is : (row n : ℕ) (p : Place) → place_of row ≡ p → place_level p ≡ n → place_level (place_of row) ≡ n
    level_is row n p q r = ap place_level q ∙ r

    low : (row n : ℕ) (p : Place) → place_of row ≡ p → place_level p ≡ n → n ≤ place_level (place_of b) → place_level (place_of row) ≤ place_level (place_of b)
    low row n p q r k = let e : place_level (place_of row) ≡ n = level_is row n p q r in omega arith

    by : Range a → Range b → place_level (place_of a) ≤ place_level (place_of b)
    by (Threads i q) rb = low a 0 (Thread a) q refl (omega arith)
    by (Accounts i j q) (Threads k r) = absurd (omega arith)
    by (Accounts i j q) (Accounts k m r) = low a 1 (Account (a - 32)) q refl (let e : place_level (place_of b) ≡ 1 = level_is b 1 (Account (b - 32)) r refl in omega arith)
    by (Accounts i j q) (Users k m r) = low a 1 (Account (a - 32)) q refl (let e : place_level (place_of b) ≡ 2 = level_is b 2 (User (b - 64)) r refl in omega arith)
    by (Accounts i j q) (Hosts k m r) = low a 1 (Account (a - 32)) q refl (let e : place_level (place_of b) ≡ 2 = level_is b 2 (Host (b - 96)) r refl in omega arith)
    by (Accounts i j q) (All k r) = low a 1 (Account (a - 32)) q refl (let e : place_level (place_of b) ≡ 3 = level_is b 3 Global r refl in omega arith)
    by (Users i j q) (Threads k r) = absurd (omega arith)
    by (Users i j q) (Accounts k m r) = absurd (omega arith)
    by (Users i j q) (Users k m r) = low a 2 (User (a - 64)) q refl (let e : place_level (place_of b) ≡ 2 = level_is b 2 (User (b - 64)) r refl in omega arith)
    by (Users i j q) (Hosts k m r) = low a 2 (User (a - 64)) q refl (let e : place_level (place_of b) ≡ 2 = level_is b 2 (Host (b - 96)) r refl in omega arith)
    by (Users i j q) (All k r) = low a 2 (User (a - 64)) q refl (let e : place_level (place_of b) ≡ 3 = level_is b 3 Global r refl in omega arith)
    by (Hosts i j q) (Threads k r) = absurd (omega arith)
    by (Hosts i j q) (Accounts k m r) = absurd (omega arith)
    by (Hosts i j q) (Users k m r) = absurd (omega arith)
    by (Hosts i j q) (Hosts k m r) = low a 2 (Host (a - 96)) q refl (let e : place_level (place_of b) ≡ 2 = level_is b 2 (Host (b - 96)) r refl in omega arith)
    by (Hosts i j q) (All k r) = low a 2 (Host (a - 96)) q refl (let e : place_level (place_of b) ≡ 3 = level_is b 3 Global r refl in omega arith)
    by (All i q) (All k r) = low a 3 Global q refl (let e : place_level (place_of b) ≡ 3 = level_is b 3 Global r refl in omega arith)
    by (All i q) rb = other rb
      where
        other : Range b → place_level (place_of a) ≤ place_level (place_of b)
        other (Threads k r) = absurd (omega arith)
        other (Accounts k m r) = absurd (omega arith)
        other (Users k m r) = absurd (omega arith)
        other (Hosts k m r) = absurd (omega arith)
        other (All k r) = low a 3 Global q refl (let e : place_level (place_of b) ≡ 3 = level_is b 3 Global r refl in omega arith)
        other (Past k r) = absurd (omega arith)
    by (Past i q) rb = absurd (omega arith)
    by ra (Past k r) = absurd (omega arith)

pub listing : IsListing numbering (upto 0 129)
listing = record {
  once = λ row i. once_is row (range row) i;
  ranked = ranked (λ row. place_level (place_of row)) level_up 0 129 (omega arith);
  rises = ranked (λ row. row) (λ a b l h. l) 0 129 (omega arith);
  known = λ row i. refl;
  places = λ row. where_is row (range row);
}
  where
    once_is : (row : ℕ) → Range row → IsIn (place_of row) → count_by (λ r. r == row) (upto 0 129) ≡ 1
    once_is row (Threads l q) i = upto_one 0 129 row (omega arith) (omega arith)
    once_is row (Accounts l m q) i = upto_one 0 129 row (omega arith) (omega arith)
    once_is row (Users l m q) i = upto_one 0 129 row (omega arith) (omega arith)
    once_is row (Hosts l m q) i = upto_one 0 129 row (omega arith) (omega arith)
    once_is row (All l q) i = upto_one 0 129 row (omega arith) (omega arith)
    once_is row (Past l q) i = absurd (subst IsIn q i)

    where_is : (row : ℕ) → Range row → IsIn (place_of row) ⊎ (place_of row ≡ Elsewhere)
    where_is row (Threads l q) = inl (subst IsIn (sym q) l)
    where_is row (Accounts l m q) = inl (subst IsIn (sym q) (less (row - 32) (omega arith)))
      where
        less : (a : ℕ) → a < 32 → a < 32
        less a h = h
    where_is row (Users l m q) = inl (subst IsIn (sym q) (less (row - 64) (omega arith)))
      where
        less : (a : ℕ) → a < 32 → a < 32
        less a h = h
    where_is row (Hosts l m q) = inl (subst IsIn (sym q) (less (row - 96) (omega arith)))
      where
        less : (a : ℕ) → a < 32 → a < 32
        less a h = h
    where_is row (All l q) = inl (subst IsIn (sym q) tt)
    where_is row (Past l q) = inr q

-- two places of each, all free
abbrev pub opened : State
opened = record { threads = None ∷ (None ∷ []); accounts = None ∷ (None ∷ []); users = None ∷ (None ∷ []); hosts = None ∷ (None ∷ []) }

free : {X : Type 0} (n : ℕ) (x : X) → entry_at {X = X} (None ∷ (None ∷ [])) n ≡ Some x → ⊥
free zero x h = clash x h
free (suc zero) x h = clash x h
free (suc (suc n)) x h = clash x h

pub sound : Sound opened
sound = record { lives = λ t x h. absurd (free t x h); user = λ a e u h w. absurd (free a e h); host = λ a e u h w. absurd (free a e h) }

pub base : Base numbering opened (upto 0 129)
base = record { good = good; sound = sound; small = record { threads = omega arith; accounts = omega arith; users = omega arith; hosts = omega arith }; listing = listing }
