-- From printed changes to chains that follow the moves, and the five summaries from them.
use Rattle.std.proofs.Common.{◌⊎◌, inl, inr, ◌≡◌, ℕ, zero, suc, ◌+◌, ◌*◌, ◌<◌, ◌≤◌, ◌==◌, ◌&&◌, Bool, true, false, cond, List, [], ◌∷◌, ◌++◌, length, map, Option, Some, None, count_by, refl, sym, ap, ◌∙◌, subst, arith}
use Rattle.std.specs.Prelude.{nat_lt, nat_le}
use Rattle.std.proofs.lemmas.Bool.{eqb-true}
use Rattle.pfs_lemmas.proofs.Numbers.{eq_self}
use Rattle.pfs_conservation.specs.RowChains.{Change, Added, Taken, Given}
use Rattle.pfs_conservation.specs.Removals.{removal, following, counts_event, Ascends}
use Rattle.pfs_conservation.specs.Journeys.{times_counted}
use Rattle.pfs_conservation.specs.RowMoves.{Move, goes_to, moved, touch, touches, AreMoved, InOrder}
use Rattle.pfs_conservation.specs.Conservation.{AddsOnce, takes_of}
use Rattle.pfs_conservation.specs.Tenures.{IsBy}
use Rattle.pfs_conservation.specs.PrintedChanges.{Kind, Adds, Takes, Gives, Tagged, as_change, change_of, is_at, standing, changes_of, chain_from, chain_of, Stands, IsAmong, IsMove, action_of, source_of, Within, KindOnce, AllOnce, times_in, times_added, AreChained, Adding, QuitAbove}
use Rattle.pfs_conservation.proofs.MergeTotals.{bit_yes, bit_no}
use Rattle.pfs_conservation.proofs.ChainEvents.{count_cons}
use Rattle.pfs_conservation.proofs.RisingLists.{Rising, Members}
use Rattle.pfs_conservation.proofs.PrintedChains.{key_at, AreAt, RowsLow, touches_at, follows_printed}
use Rattle.pfs_conservation.proofs.RemovalBounds.{AfterAction, QuitIn, bound_from, unquit_from}
use Rattle.pfs_conservation.proofs.RowOwners.{differ}

-- what stands at a version of a row
pub among_joined : (c : Change) (xs ys : List Change) → IsAmong c (xs ++ ys) → IsAmong c xs ⊎ IsAmong c ys
among_joined c [] ys h = inr h
among_joined c (x ∷ xs) ys (inl q) = inl (inl q)
among_joined c (x ∷ xs) ys (inr h) = up (among_joined c xs ys h)
  where
    up : IsAmong c xs ⊎ IsAmong c ys → IsAmong c (x ∷ xs) ⊎ IsAmong c ys
    up (inl k) = inl (inr k)
    up (inr k) = inr k

pub among_left : (c : Change) (xs ys : List Change) → IsAmong c xs → IsAmong c (xs ++ ys)
among_left c [] ys h = absurd h
among_left c (x ∷ xs) ys (inl q) = inl q
among_left c (x ∷ xs) ys (inr h) = inr (among_left c xs ys h)

pub among_right : (c : Change) (xs ys : List Change) → IsAmong c ys → IsAmong c (xs ++ ys)
among_right c [] ys h = h
among_right c (x ∷ xs) ys h = inr (among_right c xs ys h)

stands_among : (lines : List Tagged) (row v : ℕ) (c : Change) → Stands lines row v c → IsAmong c (standing lines row v)
stands_among [] row v c h = h
stands_among (l ∷ ls) row v c (inl q) = among_left c (cond (is_at l row v) (change_of l ∷ []) []) (standing ls row v) (rw q.0 (inl q.1))
stands_among (l ∷ ls) row v c (inr h) = among_right c (cond (is_at l row v) (change_of l ∷ []) []) (standing ls row v) (stands_among ls row v c h)

among_stands : (lines : List Tagged) (row v : ℕ) (c : Change) → IsAmong c (standing lines row v) → Stands lines row v c
among_stands [] row v c h = h
among_stands (l ∷ ls) row v c h = at (is_at l row v) refl (among_joined c (cond (is_at l row v) (change_of l ∷ []) []) (standing ls row v) h) (among_stands ls row v c)
  where
    at : (b : Bool) → is_at l row v ≡ b → IsAmong c (cond b (change_of l ∷ []) []) ⊎ IsAmong c (standing ls row v) → (IsAmong c (standing ls row v) → Stands ls row v c) → Stands (l ∷ ls) row v c
    at b q (inr k) ih = inr (ih k)
    at true q (inl (inl e)) ih = inl (q, e)
    at true q (inl (inr e)) ih = absurd e
    at false q (inl e) ih = absurd e

-- what a chain has stands at a version
among_chain : (lines : List Tagged) (row v k : ℕ) (c : Change) → IsAmong c (chain_from lines row v k) → (w : ℕ) × (v ≤ w) × (w < v + k) × Stands lines row w c
among_chain lines row v zero c h = absurd h
among_chain lines row v (suc k) c h = at (among_joined c (standing lines row v) (chain_from lines row (suc v) k) h) (among_chain lines row (suc v) k c)
  where
    at : IsAmong c (standing lines row v) ⊎ IsAmong c (chain_from lines row (suc v) k) → (IsAmong c (chain_from lines row (suc v) k) → (w : ℕ) × (suc v ≤ w) × (w < suc v + k) × Stands lines row w c) → (w : ℕ) × (v ≤ w) × (w < v + suc k) × Stands lines row w c
    at (inl q) ih = (v, omega arith, omega arith, among_stands lines row v c q)
    at (inr q) ih = let r : (w : ℕ) × (suc v ≤ w) × (w < suc v + k) × Stands lines row w c = ih q in let l : suc v ≤ r.0 = r.1 in let m : r.0 < suc v + k = r.2 in (r.0, omega arith, omega arith, r.3)

chain_among : (lines : List Tagged) (row v k w : ℕ) (c : Change) → v ≤ w → w < v + k → Stands lines row w c → IsAmong c (chain_from lines row v k)
chain_among lines row v zero w c l m s = absurd (omega arith)
chain_among lines row v (suc k) w c l m s = at (v == w) refl (λ low. chain_among lines row (suc v) k w c low (omega arith) s)
  where
    apart : (a b : ℕ) → a ≤ b → (a == b) ≡ false → suc a ≤ b
    apart a b l q = grind (arith, l, q)

    at : (b : Bool) → (v == w) ≡ b → (suc v ≤ w → IsAmong c (chain_from lines row (suc v) k)) → IsAmong c (standing lines row v ++ chain_from lines row (suc v) k)
    at true q ih = among_left c (standing lines row v) (chain_from lines row (suc v) k) (subst (λ z. IsAmong c (standing lines row z)) (sym (eqb-true v w q)) (stands_among lines row w c s))
    at false q ih = among_right c (standing lines row v) (chain_from lines row (suc v) k) (ih (apart v w l q))

-- each line is within its row's versions
in_range : (all lines : List Tagged) → Within all lines → (row v : ℕ) (c : Change) → Stands lines row v c → (1 ≤ v) × (v ≤ changes_of all row)
in_range all [] k row v c h = absurd h
in_range all (l ∷ ls) k row v c (inr h) = in_range all ls k.2 row v c h
in_range all (l ∷ ls) k row v c (inl q) =
    let r : l.row ≡ row = eqb-true l.row row (left (l.row == row) (l.version == v) q.0) in
    let e : l.version ≡ v = eqb-true l.version v (right (l.row == row) (l.version == v) q.0) in
    (subst (λ z. 1 ≤ z) e k.0, subst (λ z. v ≤ changes_of all z) r (subst (λ z. z ≤ changes_of all l.row) e k.1))
  where
    left : (a b : Bool) → (a && b) ≡ true → a ≡ true
    left true b h = refl
    left false b h = h

    right : (a b : Bool) → (a && b) ≡ true → b ≡ true
    right true b h = h
    right false b h = differ (sym h)

pub stands_chain : (lines : List Tagged) → Within lines lines → (row v : ℕ) (c : Change) → Stands lines row v c → IsAmong c (chain_of lines row)
stands_chain lines k row v c s = let r : (1 ≤ v) × (v ≤ changes_of lines row) = in_range lines lines k row v c s in let low : 1 ≤ v = r.0 in let high : v ≤ changes_of lines row = r.1 in chain_among lines row 1 (changes_of lines row) v c low (omega arith) s

-- how often a chain counts an event
times_joined : (e : ℕ) (xs ys : List Change) → times_counted e (xs ++ ys) ≡ times_counted e xs + times_counted e ys
times_joined e [] ys = omega arith
times_joined e (Added es ∷ xs) ys = omega (arith, times_joined e xs ys)
times_joined e (Taken n ∷ xs) ys = times_joined e xs ys
times_joined e (Given n r ∷ xs) ys = times_joined e xs ys

times_kind : (e action : ℕ) (k : Kind) → times_counted e (as_change action k ∷ []) ≡ times_in e k
times_kind e action (Adds es) = omega arith
times_kind e action Takes = refl
times_kind e action (Gives r) = refl

times_nil : (row v k : ℕ) (e : ℕ) → times_counted e (chain_from [] row v k) ≡ 0
times_nil row v zero e = refl
times_nil row v (suc k) e = times_nil row (suc v) k e

-- a line's part in a chain: once where its version is in range
times_line : (e : ℕ) (l : Tagged) (ls : List Tagged) (row v k : ℕ) → times_counted e (chain_from (l ∷ ls) row v k) ≡ cond ((l.row == row) && (nat_le v l.version && nat_lt l.version (v + k))) (times_in e l.kind) 0 + times_counted e (chain_from ls row v k)
times_line e l ls row v zero = at (l.row == row)
  where
    none : (a b : ℕ) → (nat_le a b && nat_lt b (a + 0)) ≡ false
    none a b = grind arith

    at : (b : Bool) → 0 ≡ cond {A = ℕ} (b && (nat_le v l.version && nat_lt l.version (v + 0))) (times_in e l.kind) 0 + 0
    at true = sym (ap (λ c. cond {A = ℕ} c (times_in e l.kind) 0 + 0) (none v l.version))
    at false = refl
times_line e l ls row v (suc k) =
    let here : times_counted e (cond (is_at l row v) (change_of l ∷ []) []) ≡ cond (is_at l row v) (times_in e l.kind) 0 = one (is_at l row v) in
    let ih : times_counted e (chain_from (l ∷ ls) row (suc v) k) ≡ cond ((l.row == row) && (nat_le (suc v) l.version && nat_lt l.version (suc v + k))) (times_in e l.kind) 0 + times_counted e (chain_from ls row (suc v) k) = times_line e l ls row (suc v) k in
    let a : times_counted e (standing (l ∷ ls) row v ++ chain_from (l ∷ ls) row (suc v) k) ≡ times_counted e (standing (l ∷ ls) row v) + times_counted e (chain_from (l ∷ ls) row (suc v) k) = times_joined e (standing (l ∷ ls) row v) (chain_from (l ∷ ls) row (suc v) k) in
    let b : times_counted e (standing (l ∷ ls) row v) ≡ times_counted e (cond (is_at l row v) (change_of l ∷ []) []) + times_counted e (standing ls row v) = times_joined e (cond (is_at l row v) (change_of l ∷ []) []) (standing ls row v) in
    let c : times_counted e (standing ls row v ++ chain_from ls row (suc v) k) ≡ times_counted e (standing ls row v) + times_counted e (chain_from ls row (suc v) k) = times_joined e (standing ls row v) (chain_from ls row (suc v) k) in
    omega (arith, here, ih, a, b, c, split (l.row == row) (times_in e l.kind) l.version)
  where
    one : (b : Bool) → times_counted e (cond b (change_of l ∷ []) []) ≡ cond {A = ℕ} b (times_in e l.kind) 0
    one true = times_kind e l.action l.kind
    one false = refl

    first : (u v k : ℕ) → (u == v) ≡ true → ((nat_le v u && nat_lt u (v + suc k)) ≡ true) × ((nat_le (suc v) u && nat_lt u (suc v + k)) ≡ false)
    first u v k q = (grind (arith, q), grind (arith, q))

    later : (u v k : ℕ) → (u == v) ≡ false → (nat_le v u && nat_lt u (v + suc k)) ≡ (nat_le (suc v) u && nat_lt u (suc v + k))
    later u v k q = grind (arith, q)

    split : (b : Bool) (x u : ℕ) → cond {A = ℕ} (b && (nat_le v u && nat_lt u (v + suc k))) x 0 ≡ cond {A = ℕ} (b && (u == v)) x 0 + cond {A = ℕ} (b && (nat_le (suc v) u && nat_lt u (suc v + k))) x 0
    split false x u = refl
    split true x u = at (u == v) refl
      where
        at : (c : Bool) → (u == v) ≡ c → cond {A = ℕ} (nat_le v u && nat_lt u (v + suc k)) x 0 ≡ cond {A = ℕ} c x 0 + cond {A = ℕ} (nat_le (suc v) u && nat_lt u (suc v + k)) x 0
        at true q = ap (λ b. cond {A = ℕ} b x 0) (first u v k q).0 ∙ (plus x ∙ ap (λ b. x + cond {A = ℕ} b x 0) (sym (first u v k q).1))
          where
            plus : (x : ℕ) → x ≡ x + 0
            plus x = omega arith
        at false q = ap (λ b. cond {A = ℕ} b x 0) (later u v k q) ∙ zero_plus (cond {A = ℕ} (nat_le (suc v) u && nat_lt u (suc v + k)) x 0)
          where
            zero_plus : (y : ℕ) → y ≡ 0 + y
            zero_plus y = omega arith

pub times_all : (e : ℕ) (all lines : List Tagged) (row : ℕ) → Within all lines → times_counted e (chain_from lines row 1 (changes_of all row)) ≡ times_added e lines row
times_all e all [] row k = times_nil row 1 (changes_of all row) e
times_all e all (l ∷ ls) row k =
    times_line e l ls row 1 (changes_of all row)
    ∙ (ap (λ z. cond {A = ℕ} ((l.row == row) && (nat_le 1 l.version && nat_lt l.version (1 + changes_of all row))) (times_in e l.kind) 0 + z) (times_all e all ls row k.2)
    ∙ ap (λ z. z + times_added e ls row) (at (l.row == row) refl))
  where
    yes_in : (u n : ℕ) → 1 ≤ u → u ≤ n → (nat_le 1 u && nat_lt u (1 + n)) ≡ true
    yes_in u n a b = grind (arith, a, b)

    at : (b : Bool) → (l.row == row) ≡ b → cond {A = ℕ} (b && (nat_le 1 l.version && nat_lt l.version (1 + changes_of all row))) (times_in e l.kind) 0 ≡ cond {A = ℕ} b (times_in e l.kind) 0
    at false q = refl
    at true q = ap (λ b. cond {A = ℕ} b (times_in e l.kind) 0) (yes_in l.version (changes_of all row) k.0 (subst (λ z. l.version ≤ changes_of all z) (eqb-true l.row row q) k.1))

-- each event that a chain counts is one of the list
once_joined : (all : List ℕ) (xs ys : List Change) → AddsOnce all xs → AddsOnce all ys → AddsOnce all (xs ++ ys)
once_joined all [] ys a b = b
once_joined all (Added es ∷ xs) ys a b = (a.0, once_joined all xs ys a.1 b)
once_joined all (Taken n ∷ xs) ys a b = once_joined all xs ys a b
once_joined all (Given n r ∷ xs) ys a b = once_joined all xs ys a b

once_kind : (all : List ℕ) (action : ℕ) (k : Kind) → KindOnce all k → AddsOnce all (as_change action k ∷ [])
once_kind all action (Adds es) h = (h, tt)
once_kind all action Takes h = tt
once_kind all action (Gives r) h = tt

once_standing : (all : List ℕ) (lines : List Tagged) (row v : ℕ) → AllOnce all lines → AddsOnce all (standing lines row v)
once_standing all [] row v h = tt
once_standing all (l ∷ ls) row v h = once_joined all (cond (is_at l row v) (change_of l ∷ []) []) (standing ls row v) (at (is_at l row v)) (once_standing all ls row v h.1)
  where
    at : (b : Bool) → AddsOnce all (cond b (change_of l ∷ []) [])
    at true = once_kind all l.action l.kind h.0
    at false = tt

pub once_chain : (all : List ℕ) (lines : List Tagged) (row v k : ℕ) → AllOnce all lines → AddsOnce all (chain_from lines row v k)
once_chain all lines row v zero h = tt
once_chain all lines row v (suc k) h = once_joined all (standing lines row v) (chain_from lines row (suc v) k) (once_standing all lines row v h) (once_chain all lines row (suc v) k h)

-- the takes and gives of a chain
moved_among : (c : Change) (cs : List Change) → IsAmong c (moved cs) → IsAmong c cs × IsMove c
moved_among c [] h = absurd h
moved_among c (Added es ∷ cs) h = let r : IsAmong c cs × IsMove c = moved_among c cs h in (inr r.0, r.1)
moved_among c (Taken n ∷ cs) (inl q) = (inl q, subst IsMove q tt)
moved_among c (Taken n ∷ cs) (inr h) = let r : IsAmong c cs × IsMove c = moved_among c cs h in (inr r.0, r.1)
moved_among c (Given n f ∷ cs) (inl q) = (inl q, subst IsMove q tt)
moved_among c (Given n f ∷ cs) (inr h) = let r : IsAmong c cs × IsMove c = moved_among c cs h in (inr r.0, r.1)

among_moved : (c : Change) (cs : List Change) → IsMove c → IsAmong c cs → IsAmong c (moved cs)
among_moved c [] m h = h
among_moved c (Added es ∷ cs) m (inl q) = absurd (subst IsMove (sym q) m)
among_moved c (Added es ∷ cs) m (inr h) = among_moved c cs m h
among_moved c (Taken n ∷ cs) m (inl q) = inl q
among_moved c (Taken n ∷ cs) m (inr h) = inr (among_moved c cs m h)
among_moved c (Given n f ∷ cs) m (inl q) = inl q
among_moved c (Given n f ∷ cs) m (inr h) = inr (among_moved c cs m h)

none_nil : (cs : List Change) → ((c : Change) → IsAmong c cs → ⊥) → cs ≡ []
none_nil [] h = refl
none_nil (c ∷ cs) h = absurd (h c (inl refl))

touches_move : (kept : ℕ → ℕ → Bool) (row : ℕ) (ms : List Move) (c : Change) → IsAmong c (touches kept row ms) → IsMove c
touches_move kept row [] c h = absurd h
touches_move kept row (m ∷ ms) c h = by (among_joined c (touch kept row m) (touches kept row ms) h) (touches_move kept row ms c)
  where
    at : (b d : Bool) → IsAmong c (cond {A = List Change} b (Taken m.action ∷ []) (cond d (Given m.action m.from ∷ []) [])) → IsMove c
    at true d (inl q) = subst IsMove q tt
    at true d (inr q) = absurd q
    at false true (inl q) = subst IsMove q tt
    at false true (inr q) = absurd q
    at false false q = absurd q

    by : IsAmong c (touch kept row m) ⊎ IsAmong c (touches kept row ms) → (IsAmong c (touches kept row ms) → IsMove c) → IsMove c
    by (inl q) ih = at (m.from == row) (goes_to row m.to && kept m.action m.from) q
    by (inr q) ih = ih q

AtOne : ℕ → Change → Type 0
AtOne row (Added es) = ⊥
AtOne row (Taken n) = Unit {0}
AtOne row (Given n from) = from < row

at_all : (row : ℕ) (cs : List Change) (c : Change) → AreAt row cs → IsAmong c cs → AtOne row c
unfolding AtOne
at_all row [] c a h = absurd h
at_all row (Added es ∷ cs) c a h = absurd a
at_all row (Taken n ∷ cs) c a (inl q) = subst (AtOne row) q tt
at_all row (Taken n ∷ cs) c a (inr h) = at_all row cs c a h
at_all row (Given n f ∷ cs) c a (inl q) = subst (AtOne row) q a.0
at_all row (Given n f ∷ cs) c a (inr h) = at_all row cs c a.1 h

at_by : (row : ℕ) (cs : List Change) → ((c : Change) → IsAmong c cs → AtOne row c) → AreAt row cs
unfolding AtOne
at_by row [] h = tt
at_by row (Added es ∷ cs) h = h (Added es) (inl refl)
at_by row (Taken n ∷ cs) h = at_by row cs (λ c k. h c (inr k))
at_by row (Given n f ∷ cs) h = (h (Given n f) (inl refl), at_by row cs (λ c k. h c (inr k)))

key_among : (row n : ℕ) (cs : List Change) → 1 ≤ count_by (λ x. x == n) (map (key_at row) cs) → (c : Change) × IsAmong c cs × (key_at row c ≡ n)
key_among row n [] h = absurd (omega arith)
key_among row n (c ∷ cs) h = at (key_at row c == n) refl (key_among row n cs)
  where
    at : (b : Bool) → (key_at row c == n) ≡ b → (1 ≤ count_by (λ x. x == n) (map (key_at row) cs) → (d : Change) × IsAmong d cs × (key_at row d ≡ n)) → (d : Change) × IsAmong d (c ∷ cs) × (key_at row d ≡ n)
    at true q ih = (c, inl refl, eqb-true (key_at row c) n q)
    at false q ih = let r : (d : Change) × IsAmong d cs × (key_at row d ≡ n) = ih (omega (arith, h, count_cons (λ x. x == n) (key_at row c) (map (key_at row) cs), bit_no (key_at row c == n) q)) in (r.0, inr r.1, r.2)

among_key : (row : ℕ) (cs : List Change) (c : Change) → IsAmong c cs → 1 ≤ count_by (λ x. x == key_at row c) (map (key_at row) cs)
among_key row [] c h = absurd h
among_key row (d ∷ cs) c (inl q) = omega (arith, count_cons (λ x. x == key_at row c) (key_at row d) (map (key_at row) cs), bit_yes (key_at row d == key_at row c) (ap (λ z. key_at row z == key_at row c) q ∙ eq_self (key_at row c)))
among_key row (d ∷ cs) c (inr h) = let k : 1 ≤ count_by (λ x. x == key_at row c) (map (key_at row) cs) = among_key row cs c h in omega (arith, k, count_cons (λ x. x == key_at row c) (key_at row d) (map (key_at row) cs))

members_by : (row : ℕ) (xs ys : List Change) → ((c : Change) → IsAmong c xs → IsAmong c ys) → Members (map (key_at row) xs) (map (key_at row) ys)
members_by row xs ys h n some = let r : (c : Change) × IsAmong c xs × (key_at row c ≡ n) = key_among row n xs some in subst (λ z. 1 ≤ count_by (λ x. x == z) (map (key_at row) ys)) r.2 (among_key row ys r.0 (h r.0 r.1))

rows_low : (kept : ℕ → ℕ → Bool) (row : ℕ) (ms : List Move) → ((r : ℕ) (c : Change) → IsAmong c (touches kept r ms) → r < 16384) → RowsLow kept row ms
rows_low kept row [] h = tt
rows_low kept row (m ∷ ms) h = (h m.from (Taken m.action) (among_left (Taken m.action) (touch kept m.from m) (touches kept m.from ms) (rw (eq_self m.from) (inl refl))), rows_low kept row ms (λ r c k. h r c (among_right c (touch kept r m) (touches kept r ms) k)))

module _ (kept : ℕ → ℕ → Bool) (moves : List Move) (order : InOrder (λ r. r) moves) (lines : List Tagged) (ok : AreChained kept moves lines) where
  chain_stands : (row : ℕ) (c : Change) → IsAmong c (chain_of lines row) → (w : ℕ) × Stands lines row w c
  chain_stands row c h = let r : (w : ℕ) × (1 ≤ w) × (w < 1 + changes_of lines row) × Stands lines row w c = among_chain lines row 1 (changes_of lines row) c h in (r.0, r.3)

  to_touches : (row : ℕ) (c : Change) → IsAmong c (moved (chain_of lines row)) → IsAmong c (touches kept row moves)
  to_touches row c h =
      let r : IsAmong c (chain_of lines row) × IsMove c = moved_among c (chain_of lines row) h in
      let s : (w : ℕ) × Stands lines row w c = chain_stands row c r.0 in
      ok.asked row s.0 c s.1 r.1

  to_moved : (row : ℕ) (c : Change) → IsAmong c (touches kept row moves) → IsAmong c (moved (chain_of lines row))
  to_moved row c h =
      let s : (w : ℕ) × Stands lines row w c = ok.printed row c h in
      among_moved c (chain_of lines row) (touches_move kept row moves c h) (stands_chain lines ok.within row s.0 c s.1)

  source_low : (row w : ℕ) (c : Change) → row < 16384 → Stands lines row w c → IsMove c → source_of row c < 16384
  unfolding AtOne
  source_low row w c low s m = at c (at_all row (touches kept row moves) c (touches_at kept row moves order) (ok.asked row w c s m))
    where
      at : (c : Change) → AtOne row c → source_of row c < 16384
      at (Added es) h = absurd h
      at (Taken n) h = low
      at (Given n from) h = omega arith

  key_is : (row : ℕ) (c : Change) → IsMove c → key_at row c ≡ action_of c * 16384 + source_of row c
  key_is row (Added es) m = absurd m
  key_is row (Taken n) m = refl
  key_is row (Given n f) m = refl

  keys_rise : (row v w : ℕ) (c d : Change) → row < 16384 → v < w → Stands lines row v c → Stands lines row w d → IsMove c → IsMove d → suc (key_at row c) ≤ key_at row d
  keys_rise row v w c d low l s t m k = at (action_of c == action_of d) refl
    where
      apart : (a b : ℕ) → a ≤ b → (a == b) ≡ false → suc a ≤ b
      apart a b l q = grind (arith, l, q)

      up : action_of c ≤ action_of d
      up = ok.never_fall row v w c d l s t m k

      at : (b : Bool) → (action_of c == action_of d) ≡ b → suc (key_at row c) ≤ key_at row d
      at true q =
          let is : action_of c ≡ action_of d = eqb-true (action_of c) (action_of d) q in
          let less : source_of row c < source_of row d = ok.in_order row v w c d l s t m k is in
          omega (arith, key_is row c m, key_is row d k, is, less)
      at false q =
          let less : suc (action_of c) ≤ action_of d = apart (action_of c) (action_of d) up q in
          let low_c : source_of row c < 16384 = source_low row v c low s m in
          omega (arith, key_is row c m, key_is row d k, less, low_c)

  rising_from : (row bound v k : ℕ) → row < 16384 → ((w : ℕ) (c : Change) → v ≤ w → Stands lines row w c → IsMove c → bound ≤ key_at row c) → Rising bound (map (key_at row) (moved (chain_from lines row v k)))
  rising_from row bound v zero low h = tt
  rising_from row bound v (suc k) low h = at (standing lines row v) refl (ok.once row v) (λ b g. rising_from row b (suc v) k low g)
    where
      at : (cs : List Change) → standing lines row v ≡ cs → length cs ≤ 1 → ((b : ℕ) → ((w : ℕ) (c : Change) → suc v ≤ w → Stands lines row w c → IsMove c → b ≤ key_at row c) → Rising b (map (key_at row) (moved (chain_from lines row (suc v) k))))
          → Rising bound (map (key_at row) (moved (cs ++ chain_from lines row (suc v) k)))
      at [] q one ih = ih bound (λ w c l s m. h w c (omega arith) s m)
      at (Added es ∷ []) q one ih = ih bound (λ w c l s m. h w c (omega arith) s m)
      at (Taken n ∷ []) q one ih = let s : Stands lines row v (Taken n) = among_stands lines row v (Taken n) (subst (IsAmong (Taken n)) (sym q) (inl refl)) in
          (h v (Taken n) (omega arith) s tt, ih (suc (n * 16384 + row)) (λ w c l t m. keys_rise row v w (Taken n) c low l s t tt m))
      at (Given n f ∷ []) q one ih = let s : Stands lines row v (Given n f) = among_stands lines row v (Given n f) (subst (IsAmong (Given n f)) (sym q) (inl refl)) in
          (h v (Given n f) (omega arith) s tt, ih (suc (n * 16384 + f)) (λ w c l t m. keys_rise row v w (Given n f) c low l s t tt m))
      at (c ∷ (d ∷ cs)) q one ih = absurd (omega arith)

  -- the chains of the printed lines follow the moves
  pub lines_moved : AreMoved (chain_of lines) kept moves
  lines_moved = record { is = λ row. at row (nat_lt row 16384) refl }
    where
      yes_lt : (a b : ℕ) → nat_lt a b ≡ true → a < b
      yes_lt a b q = grind (arith, q)

      no_lt : (a b : ℕ) → nat_lt a b ≡ false → b ≤ a
      no_lt a b q = grind (arith, q)

      at : (row : ℕ) (b : Bool) → nat_lt row 16384 ≡ b → moved (chain_of lines row) ≡ touches kept row moves
      at row true q =
          let low : row < 16384 = yes_lt row 16384 q in
          follows_printed kept row low moves order (rows_low kept row moves (λ r c h. (let s : (w : ℕ) × Stands lines r w c = ok.printed r c h in ok.low r s.0 c s.1))) (chain_of lines row)
          (at_by row (moved (chain_of lines row)) (λ c h. at_all row (touches kept row moves) c (touches_at kept row moves order) (to_touches row c h)))
          (rising_from row 0 1 (changes_of lines row) low (λ w c l s m. omega arith))
          (members_by row (moved (chain_of lines row)) (touches kept row moves) (to_touches row))
          (members_by row (touches kept row moves) (moved (chain_of lines row)) (to_moved row))
      at row false q =
          let high : 16384 ≤ row = no_lt row 16384 q in
          none_nil (moved (chain_of lines row)) (λ c h. (let r : IsAmong c (chain_of lines row) × IsMove c = moved_among c (chain_of lines row) h in let s : (w : ℕ) × Stands lines row w c = chain_stands row c r.0 in let l : row < 16384 = ok.low row s.0 c s.1 in omega arith))
          ∙ sym (none_nil (touches kept row moves) (λ c h. (let s : (w : ℕ) × Stands lines row w c = ok.printed row c h in let l : row < 16384 = ok.low row s.0 c s.1 in omega arith)))

  -- what follows an event's addition in its row's chain
  record Later (event row v k : ℕ) : Type 0 where
    at : ℕ
    more : ℕ
    adds : Adding lines event row at
    is : following (counts_event event) (chain_from lines row v k) ≡ chain_from lines row (suc at) more
    whole : suc at + more ≡ v + k

  later : (event row v k : ℕ) → Later event row v k ⊎ (times_counted event (chain_from lines row v k) ≡ 0)
  later event row v zero = inr refl
  later event row v (suc k) = at (standing lines row v) refl (ok.once row v) (later event row (suc v) k)
    where
      Goal : List Change → Type 0
      Goal cs = ((p : ℕ) × (more : ℕ) × Adding lines event row p × (following (counts_event event) (cs ++ chain_from lines row (suc v) k) ≡ chain_from lines row (suc p) more) × (suc p + more ≡ v + suc k)) ⊎ (times_counted event (cs ++ chain_from lines row (suc v) k) ≡ 0)

      skip : (c : Change) → counts_event event c ≡ false → times_counted event (c ∷ []) ≡ 0 → Later event row (suc v) k ⊎ (times_counted event (chain_from lines row (suc v) k) ≡ 0) → Goal (c ∷ [])
      skip c q t (inl r) = inl (r.at, r.more, r.adds, ap (λ b. cond b (chain_from lines row (suc v) k) (following (counts_event event) (chain_from lines row (suc v) k))) q ∙ r.is, (let w : suc r.at + r.more ≡ suc v + k = r.whole in omega arith))
      skip c q t (inr z) = inr (omega (arith, times_joined event (c ∷ []) (chain_from lines row (suc v) k), t, z))

      no_count : (es : List ℕ) → nat_lt 0 (count_by (λ x. x == event) es) ≡ false → count_by (λ x. x == event) es ≡ 0
      no_count es q = zero_of (count_by (λ x. x == event) es) q
        where
          zero_of : (n : ℕ) → nat_lt 0 n ≡ false → n ≡ 0
          zero_of n q = grind (arith, q)

      some_count : (n : ℕ) → nat_lt 0 n ≡ true → 1 ≤ n
      some_count n q = grind (arith, q)

      by : (cs : List Change) → standing lines row v ≡ cs → length cs ≤ 1 → Later event row (suc v) k ⊎ (times_counted event (chain_from lines row (suc v) k) ≡ 0) → Goal cs
      by [] q one (inl r) = inl (r.at, r.more, r.adds, r.is, (let w : suc r.at + r.more ≡ suc v + k = r.whole in omega arith))
      by [] q one (inr z) = inr z
      by (Taken n ∷ []) q one ih = skip (Taken n) refl refl ih
      by (Given n f ∷ []) q one ih = skip (Given n f) refl refl ih
      by (Added es ∷ []) q one ih = here (nat_lt 0 (count_by (λ x. x == event) es)) refl
        where
          here : (b : Bool) → nat_lt 0 (count_by (λ x. x == event) es) ≡ b → Goal (Added es ∷ [])
          here true e = inl (v, k, (es, among_stands lines row v (Added es) (subst (IsAmong (Added es)) (sym q) (inl refl)), some_count (count_by (λ x. x == event) es) e), ap (λ b. cond b (chain_from lines row (suc v) k) (following (counts_event event) (chain_from lines row (suc v) k))) e, omega arith)
          here false e = skip (Added es) e (omega (arith, no_count es e)) ih
      by (c ∷ (d ∷ cs)) q one ih = absurd (omega arith)

      at : (cs : List Change) → standing lines row v ≡ cs → length cs ≤ 1 → Later event row (suc v) k ⊎ (times_counted event (chain_from lines row (suc v) k) ≡ 0) → Later event row v (suc k) ⊎ (times_counted event (standing lines row v ++ chain_from lines row (suc v) k) ≡ 0)
      at cs q one ih = final (by cs q one ih)
        where
          final : Goal cs → Later event row v (suc k) ⊎ (times_counted event (standing lines row v ++ chain_from lines row (suc v) k) ≡ 0)
          final (inl r) = inl (record { at = r.0; more = r.1; adds = r.2; is = ap (λ z. following (counts_event event) (z ++ chain_from lines row (suc v) k)) q ∙ r.3; whole = r.4 })
          final (inr z) = inr (ap (λ y. times_counted event (y ++ chain_from lines row (suc v) k)) q ∙ z)

  after_by : (connect : ℕ) (cs : List Change) → ((c : Change) → IsAmong c cs → IsMove c → suc connect ≤ action_of c) → AfterAction connect cs
  after_by connect [] h = tt
  after_by connect (Added es ∷ cs) h = after_by connect cs (λ c k m. h c (inr k) m)
  after_by connect (Taken n ∷ cs) h = (h (Taken n) (inl refl) tt, after_by connect cs (λ c k m. h c (inr k) m))
  after_by connect (Given n f ∷ cs) h = (h (Given n f) (inl refl) tt, after_by connect cs (λ c k m. h c (inr k) m))

  taken_in : (n : ℕ) (cs : List Change) → IsAmong (Taken n) cs → 1 ≤ count_by (λ t. t == n) (takes_of cs)
  taken_in n [] h = absurd h
  taken_in n (Added es ∷ cs) (inl q) = absurd (cc)
  taken_in n (Added es ∷ cs) (inr h) = taken_in n cs h
  taken_in n (Given a f ∷ cs) (inl q) = absurd (cc)
  taken_in n (Given a f ∷ cs) (inr h) = taken_in n cs h
  taken_in n (Taken a ∷ cs) (inl q) = omega (arith, count_cons (λ t. t == n) a (takes_of cs), bit_yes (a == n) (ap (λ z. z == n) (let e : a ≡ n = cc in e) ∙ eq_self n))
  taken_in n (Taken a ∷ cs) (inr h) = let k : 1 ≤ count_by (λ t. t == n) (takes_of cs) = taken_in n cs h in omega (arith, k, count_cons (λ t. t == n) a (takes_of cs))

  -- an event's removal lies between the connect and the quit of its session
  module _ (event row connect : ℕ) (quit : Option ℕ) (counted : times_counted event (chain_of lines row) ≡ 1) (ascends : Ascends 0 (chain_of lines row))
      (floor : (version : ℕ) → Adding lines event row version → (at : ℕ) (change : Change) → Stands lines row at change → IsMove change → action_of change ≤ connect → at < version)
      (above : (version : ℕ) → Adding lines event row version → QuitAbove quit lines row version) where
    found_later : Later event row 1 (changes_of lines row)
    found_later = at (later event row 1 (changes_of lines row))
      where
        at : Later event row 1 (changes_of lines row) ⊎ (times_counted event (chain_from lines row 1 (changes_of lines row)) ≡ 0) → Later event row 1 (changes_of lines row)
        at (inl r) = r
        at (inr z) = absurd (omega (arith, z, counted))

    after_is : AfterAction connect (following (counts_event event) (chain_of lines row))
    after_is = subst (AfterAction connect) (sym found_later.is) (after_by connect (chain_from lines row (suc found_later.at) found_later.more) one)
      where
        one : (c : Change) → IsAmong c (chain_from lines row (suc found_later.at) found_later.more) → IsMove c → suc connect ≤ action_of c
        one c h m = at (nat_le (action_of c) connect) refl
          where
            s : (w : ℕ) × (suc found_later.at ≤ w) × (w < suc found_later.at + found_later.more) × Stands lines row w c
            s = among_chain lines row (suc found_later.at) found_later.more c h

            yes_le : (a b : ℕ) → nat_le a b ≡ true → a ≤ b
            yes_le a b q = grind (arith, q)

            no_le : (a b : ℕ) → nat_le a b ≡ false → suc b ≤ a
            no_le a b q = grind (arith, q)

            at : (b : Bool) → nat_le (action_of c) connect ≡ b → suc connect ≤ action_of c
            at false q = no_le (action_of c) connect q
            at true q = absurd (let l : s.0 < found_later.at = floor found_later.at found_later.adds s.0 c s.3 m (yes_le (action_of c) connect q) in let k : suc found_later.at ≤ s.0 = s.1 in omega arith)

    quit_in : QuitIn quit (following (counts_event event) (chain_of lines row))
    quit_in = subst (QuitIn quit) (sym found_later.is) (by quit (above found_later.at found_later.adds))
      where
        by : (q : Option ℕ) → QuitAbove q lines row found_later.at → QuitIn q (chain_from lines row (suc found_later.at) found_later.more)
        by None h = tt
        by (Some q) h = taken_in q (chain_from lines row (suc found_later.at) found_later.more)
            (let r : (1 ≤ h.0) × (h.0 ≤ changes_of lines row) = in_range lines lines ok.within row h.0 (Taken q) h.2 in let high : h.0 ≤ changes_of lines row = r.1 in let w : suc found_later.at + found_later.more ≡ 1 + changes_of lines row = found_later.whole in
            chain_among lines row (suc found_later.at) found_later.more h.0 (Taken q) h.1 (omega arith) h.2)

    pub bound_is : (number : ℕ) → removal event (chain_of lines row) ≡ Some number → (suc connect ≤ number) × IsBy quit number
    bound_is = bound_from (chain_of lines row) event connect quit ascends after_is quit_in

    pub unquit_is : removal event (chain_of lines row) ≡ None → quit ≡ None
    unquit_is = unquit_from (chain_of lines row) event quit quit_in
