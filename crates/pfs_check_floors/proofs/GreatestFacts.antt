-- The greatest versions of rows among changes.
use Rattle.std.proofs.Common.{◌≡◌, refl, ℕ, ◌+◌, ◌<◌, ◌≤◌, ◌==◌, max, Bool, true, false, ◌&&◌, cond, nat_lt, nat_le, List, [], ◌∷◌, ◌++◌, map, sym, ◌∙◌, ap, subst, arith, Option, Some, None, inl, inr}
use Rattle.std.specs.Prelude.{if◌then◌else◌, unwrap_or}
use Rattle.std.proofs.lemmas.Bool.{and_parts, eqb-false, eqb-true, leb-true, lt-ltb, ltb-false, ltb-true}
use Rattle.std.proofs.lemmas.Bool.Decides.{nat_tests}
use Rattle.pfs_event.specs.declared.entry.Entry.{Entry}
use Rattle.pfs_check_tops.specs.declared.tops.Given.{Given}
use Rattle.pfs_check_tops.specs.Greatest.{greater_of, greatest_up_to}
use Rattle.pfs_lemmas.proofs.Numbers.{eq_self}
use Rattle.pfs_model.specs.declared.changes.Change.{Change}
use Rattle.pfs_model.specs.Actions.{IsAmong}
use Rattle.pfs_model.specs.Chains.{IsChained, change_at, each_of, is_of, is_that, times}
use Rattle.pfs_model.specs.EntryPlaces.{Placed, chosen}
use Rattle.pfs_model.specs.Floors.{AllBelow, greatest}
use Rattle.pfs_check_floors.specs.KeyedGivens.{given_at, keyed}
use Rattle.pfs_check_floors.specs.KnownFloors.{Tells}
use Rattle.pfs_check_floors.specs.ReleasedRows.{below_test}

-- the greatest version of a row among changes; None where none is of it
abbrev pub top_of : ℕ → List Change → Option ℕ
top_of row [] = None
top_of row (c ∷ cs) = if c.row == row then greater_of c.version (top_of row cs) else top_of row cs

-- the entries up to a number
abbrev pub up_to : (Placed → Bool) → (Placed → ℕ) → ℕ → List Placed → List Placed
up_to test key n ps = chosen (λ p. test p && nat_le (key p) n) ps

-- those that are given up to the number
tops_front : (row n at : ℕ) (cs : List Change) (gs : List Given) (ds : List Change) → nat_le at n ≡ true → greatest_up_to row n gs ≡ top_of row ds
    → greatest_up_to row n (map (given_at at) cs ++ gs) ≡ top_of row (cs ++ ds)
tops_front row n at [] gs ds l e = e
tops_front row n at (c ∷ cs) gs ds l e = on (c.row == row) (tops_front row n at cs gs ds l e) where
  on : (b : Bool) → greatest_up_to row n (map (given_at at) cs ++ gs) ≡ top_of row (cs ++ ds)
      → (if b && nat_le at n then greater_of c.version (greatest_up_to row n (map (given_at at) cs ++ gs))
      else greatest_up_to row n (map (given_at at) cs ++ gs))
      ≡ (if b then greater_of c.version (top_of row (cs ++ ds)) else top_of row (cs ++ ds))
  on true h =
      subst (λ z. (if z then greater_of c.version (greatest_up_to row n (map (given_at at) cs ++ gs)) else greatest_up_to row n (map (given_at at) cs ++ gs))
      ≡ greater_of c.version (top_of row (cs ++ ds))) (sym l) (ap (greater_of c.version) h)
  on false h = h

-- and those behind it
tops_past : (row n at : ℕ) (cs : List Change) (gs : List Given) → nat_le at n ≡ false
    → greatest_up_to row n (map (given_at at) cs ++ gs) ≡ greatest_up_to row n gs
tops_past row n at [] gs l = refl
tops_past row n at (c ∷ cs) gs l = on (c.row == row) (tops_past row n at cs gs l) where
  on : (b : Bool) → greatest_up_to row n (map (given_at at) cs ++ gs) ≡ greatest_up_to row n gs
      → (if b && nat_le at n then greater_of c.version (greatest_up_to row n (map (given_at at) cs ++ gs))
      else greatest_up_to row n (map (given_at at) cs ++ gs))
      ≡ greatest_up_to row n gs
  on true h =
      subst (λ z. (if z then greater_of c.version (greatest_up_to row n (map (given_at at) cs ++ gs)) else greatest_up_to row n (map (given_at at) cs ++ gs))
      ≡ greatest_up_to row n gs) (sym l) h
  on false h = h

pub keyed_tops : (test : Placed → Bool) (key : Placed → ℕ) (given : Entry → List Change) (ps : List Placed) (row n : ℕ)
    → greatest_up_to row n (keyed test key given ps) ≡ top_of row (each_of given (up_to test key n ps))
keyed_tops test key given [] row n = refl
keyed_tops test key given (p ∷ ps) row n = on (test p) (nat_le (key p) n) refl (keyed_tops test key given ps row n) where
  on : (a b : Bool) → nat_le (key p) n ≡ b → greatest_up_to row n (keyed test key given ps) ≡ top_of row (each_of given (up_to test key n ps))
      → greatest_up_to row n (cond a (map (given_at (key p)) (given p.entry)) [] ++ keyed test key given ps)
      ≡ top_of row (each_of given (cond (a && b) (p ∷ []) [] ++ up_to test key n ps))
  on true true e h = tops_front row n (key p) (given p.entry) (keyed test key given ps) (each_of given (up_to test key n ps)) e h
  on true false e h = tops_past row n (key p) (given p.entry) (keyed test key given ps) e ∙ h
  on false b e h = h

pub top_greatest : (row : ℕ) (cs : List Change) → unwrap_or (top_of row cs) 0 ≡ greatest row cs
top_greatest row [] = refl
top_greatest row (c ∷ cs) = on (c.row == row) (top_of row cs) (greatest row cs) (top_greatest row cs) where
  on : (b : Bool) (o : Option ℕ) (g : ℕ) → unwrap_or o 0 ≡ g
      → unwrap_or (if b then greater_of c.version o else o) 0 ≡ max (cond b c.version 0) g
  on true None g h = omega (arith, h)
  on true (Some w) g h = omega (arith, h)
  on false o g h = omega (arith, h)

-- a version above the greatest of a row
pub top_below : (row version : ℕ) (cs : List Change) → Tells (AllBelow row version cs) (below_test (top_of row cs) version)
top_below row version [] = tt
top_below row version (c ∷ cs) = on (c.row == row) refl (top_of row cs) (top_below row version cs) where
  on : (b : Bool) → (c.row == row) ≡ b → (o : Option ℕ) → Tells (AllBelow row version cs) (below_test o version)
      → Tells (AllBelow row version (c ∷ cs)) (below_test (if b then greater_of c.version o else o) version)
  on false e o t = skip (below_test o version) t where
    skip : (a : Bool) → Tells (AllBelow row version cs) a → Tells (AllBelow row version (c ∷ cs)) a
    skip true t = ((λ q. absurd (eqb-false c.row row e q)), t)
    skip false t = λ both. t both.1
  on true e None t = own (nat_lt c.version version) refl where
    own : (a : Bool) → nat_lt c.version version ≡ a → Tells (AllBelow row version (c ∷ cs)) a
    own true f = ((λ q. ltb-true c.version version f), t)
    own false f = λ both.
        let low : c.version < version = both.0 (eqb-true c.row row e) in
        omega (arith, low, ltb-false c.version version f)
  on true e (Some last) t = own (nat_lt (max c.version last) version) refl where
    rest : (a : Bool) → a ≡ true → Tells (AllBelow row version cs) a → AllBelow row version cs
    rest true q u = u
    rest false q u = absurd (cc)

    none : (a : Bool) → nat_lt last version ≡ a → Tells (AllBelow row version cs) a → AllBelow row version cs → version ≤ last → ⊥
    none true q u x l = omega (arith, ltb-true last version q, l)
    none false q u x l = u x

    own : (a : Bool) → nat_lt (max c.version last) version ≡ a → Tells (AllBelow row version (c ∷ cs)) a
    own true f =
        let high : max c.version last < version = ltb-true (max c.version last) version f in
        ((λ q. omega (arith, high)), rest (nat_lt last version) (lt-ltb last version (omega (arith, high))) t)
    own false f = λ both.
        let low : c.version < version = both.0 (eqb-true c.row row e) in
        none (nat_lt last version) refl t both.1 (omega (arith, low, ltb-false (max c.version last) version f))

pub greatest_append : (row : ℕ) (cs ds : List Change) → greatest row (cs ++ ds) ≡ max (greatest row cs) (greatest row ds)
greatest_append row [] ds = omega arith
greatest_append row (c ∷ cs) ds = let e : greatest row (cs ++ ds) ≡ max (greatest row cs) (greatest row ds) = greatest_append row cs ds in omega (arith, e)

-- the greatest of a list, by its members
greatest_most : (row n : ℕ) (cs : List Change) → ((c : Change) → IsAmong c cs → c.row ≡ row → c.version ≤ n) → greatest row cs ≤ n
greatest_most row n [] h = omega arith
greatest_most row n (c ∷ cs) h = at (c.row == row) refl (greatest_most row n cs (λ d i. h d (inr i))) where
  at : (b : Bool) → (c.row == row) ≡ b → greatest row cs ≤ n → max (cond b c.version 0) (greatest row cs) ≤ n
  at true e m = omega (arith, m, h c (inl refl) (eqb-true c.row row e))
  at false e m = omega (arith, m)

greatest_least : (row : ℕ) (c : Change) (cs : List Change) → IsAmong c cs → c.row ≡ row → c.version ≤ greatest row cs
greatest_least row c [] i e = absurd i
greatest_least row c (d ∷ cs) (inl s) e =
    let same : (d.row == row) ≡ true = ap (λ (z : Change). z.row == row) s ∙ ap (λ z. z == row) e ∙ eq_self row in
    let version : d.version ≡ c.version = ap (λ (z : Change). z.version) s in
    at (d.row == row) same version where
      at : (b : Bool) → b ≡ true → d.version ≡ c.version → c.version ≤ max (cond b d.version 0) (greatest row cs)
      at true q v = omega (arith, v)
      at false q v = absurd (cc)
greatest_least row c (d ∷ cs) (inr i) e = let more : c.version ≤ greatest row cs = greatest_least row c cs i e in omega (arith, more)

pub that_is : (one other : Change) → is_that one other ≡ true → other ≡ one
that_is one other h =
    let both : ((other.row == one.row) ≡ true) × ((other.version == one.version) ≡ true) = and_parts (other.row == one.row) (other.version == one.version) h in
    let P : ℕ → Change = λ r. record { row = r; version = other.version } in
    let Q : ℕ → Change = λ v. record { row = one.row; version = v } in
    ap P (eqb-true other.row one.row both.0) ∙ ap Q (eqb-true other.version one.version both.1)

pub that_self : (change : Change) → is_that change change ≡ true
that_self change = rw (eq_self change.row, eq_self change.version) refl

pub some_times : (test : Change → Bool) (x : Change) (xs : List Change) → IsAmong x xs → test x ≡ true → 0 < times test xs
some_times test x [] i e = absurd i
some_times test x (y ∷ xs) (inl s) e = rw (ap test s ∙ e) (omega arith)
some_times test x (y ∷ xs) (inr i) e = let more : 0 < times test xs = some_times test x xs i e in omega (arith, more)

pub among_times : (c : Change) (ds : List Change) → 0 < times (is_that c) ds → IsAmong c ds
among_times c [] h = absurd (omega (arith, h))
among_times c (d ∷ ds) h = at (is_that c d) refl h (among_times c ds) where
  at : (b : Bool) → is_that c d ≡ b → 0 < cond {A = ℕ} b 1 0 + times (is_that c) ds → (0 < times (is_that c) ds → IsAmong c ds) → IsAmong c (d ∷ ds)
  at true e h go = inl (that_is c d e)
  at false e h go = inr (go (omega (arith, h)))

-- of a chain the greatest is how many there are
pub chain_top : (cs : List Change) → IsChained cs → (row : ℕ) → greatest row cs ≡ times (is_of row) cs
chain_top cs chained row = omega (arith, most, least) where
  bit : (v n : ℕ) → 0 < cond {A = ℕ} (nat_lt 0 v && nat_le v n) 1 0 → v ≤ n
  bit v n h = at (nat_lt 0 v) (nat_le v n) refl h where
    at : (a b : Bool) → nat_le v n ≡ b → 0 < cond {A = ℕ} (a && b) 1 0 → v ≤ n
    at true true e h = leb-true v n e
    at true false e h = absurd (omega (arith, h))
    at false b e h = absurd (omega (arith, h))

  below : (c : Change) → 0 < times (is_that c) cs → c.row ≡ row → c.version ≤ times (is_of row) cs
  below c some e =
      let is : times (is_that c) cs ≡ cond (nat_lt 0 c.version && nat_le c.version (times (is_of c.row) cs)) 1 0 = chained c in
      let within : c.version ≤ times (is_of c.row) cs = bit c.version (times (is_of c.row) cs) (omega (arith, some, is)) in
      subst (λ z. c.version ≤ times (is_of z) cs) e within

  most : greatest row cs ≤ times (is_of row) cs
  most = greatest_most row (times (is_of row) cs) cs (λ c i e. below c (some_times (is_that c) c cs i (that_self c)) e)

  whole : (n : ℕ) → nat_lt 0 n ≡ true → cond {A = ℕ} (nat_lt 0 n && nat_le n n) 1 0 ≡ 1
  whole n e = grind (arith, nat_tests)

  least : times (is_of row) cs ≤ greatest row cs
  least = on (nat_lt 0 (times (is_of row) cs)) refl where
    on : (b : Bool) → nat_lt 0 (times (is_of row) cs) ≡ b → times (is_of row) cs ≤ greatest row cs
    on false e = omega (arith, ltb-false 0 (times (is_of row) cs) e)
    on true e =
        let is : times (is_that (change_at row (times (is_of row) cs))) cs
        ≡ cond (nat_lt 0 (times (is_of row) cs) && nat_le (times (is_of row) cs) (times (is_of row) cs)) 1 0 = chained (change_at row (times (is_of row) cs)) in
        greatest_least row (change_at row (times (is_of row) cs)) cs
        (among_times (change_at row (times (is_of row) cs)) cs (omega (arith, is, whole (times (is_of row) cs) e))) refl
