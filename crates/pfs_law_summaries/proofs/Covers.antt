-- What covers an event by the actions' states is what covers it by the actions alone, and it leads where it did.
use Rattle.std.proofs.Common.{◌≡◌, refl, ℕ, zero, suc, ◌+◌, ◌≤◌, ◌==◌, ◌&&◌, ◌||◌, not, ◌⊎◌, inl, inr, Bool, true, false, cond, nat_lt, nat_le, List, [], ◌∷◌, ◌++◌, Option, Some, None, is_some, count_by, sym, ap, subst, ◌∙◌, arith}
use Rattle.std.proofs.lemmas.List.Sums.{sum_by-cons}
use Rattle.std.proofs.lemmas.Bool.{and_parts, eqb-true}
use Rattle.pfs_conservation.specs.ActionMoves.{moved_by, moves_of}
use Rattle.pfs_conservation.specs.RowChains.{Change, Taken, Given}
use Rattle.pfs_conservation.specs.Conservation.{counts_after}
use Rattle.pfs_conservation.specs.PrintedChanges.{Kind, Adds, Takes, Gives, Tagged, as_change, change_of, Stands}
use Rattle.pfs_conservation.specs.RowMoves.{Move}
use Rattle.pfs_conservation.specs.Prints.{Print, gives_of, prints_all, is_move, printed_by}
use Rattle.pfs_conservation.specs.KindSummaries.{Key, KeyThread, KeyAccount, KeyUser, KeyHost, KeyAll, is_of, is_all, leads_key, leads_at, those_to}
use Rattle.pfs_conservation.specs.Tenures.{Owner}
use Rattle.pfs_model.specs.EntryPlaces.{Placed}
use Rattle.pfs_model.specs.SummaryCounts.{Names, some_action, stays_counted}
use Rattle.pfs_law_conservation.specs.RunEvents.{Ended, session_of, whose_at, whose_by}
use Rattle.pfs_law_summaries.specs.Counts.{own_slot, leads_to}

-- ---- covering actions

pub counts_stays : (test : ℕ → Bool) (n : ℕ) (removal : Option ℕ) → counts_after removal (those_to test n) ≡ stays_counted test n removal
counts_stays test n None = refl
counts_stays test zero (Some a) = refl
counts_stays test (suc n) (Some a) = at (test (suc n)) (counts_stays test n (Some a)) where
  flip : nat_lt (suc n) a ≡ not (nat_le a (suc n))
  flip = grind arith

  joined : (l c s : Bool) → c ≡ not s → (not l && c) ≡ not ((l && true) || s)
  joined true c s e = refl
  joined false c s e = e

  alone : (l c s : Bool) → c ≡ not s → c ≡ not ((l && false) || s)
  alone true c s e = e
  alone false c s e = e

  at : (b : Bool) → counts_after (Some a) (those_to test n) ≡ not (some_action test a n) → counts_after (Some a) (cond b (suc n ∷ []) [] ++ those_to test n) ≡ not ((nat_le a (suc n) && b) || some_action test a n)
  at true e = ap (λ b. b && counts_after (Some a) (those_to test n)) flip ∙ joined (nat_le a (suc n)) (counts_after (Some a) (those_to test n)) (some_action test a n) e
  at false e = alone (nat_le a (suc n)) (counts_after (Some a) (those_to test n)) (some_action test a n) e

-- an action that passes the test is one of those
pub some_here : (test : ℕ → Bool) (a n : ℕ) → test a ≡ true → 1 ≤ a → a ≤ n → some_action test a n ≡ true
some_here test a zero q l h = absurd (omega (arith, l, h))
some_here test a (suc n) q l h = at (a == suc n) refl (some_here test a n q l) where
  low : nat_le a (suc n) ≡ true
  low = grind (arith, h)

  less : (a == suc n) ≡ false → a ≤ n
  less e = grind (arith, h, e)

  or_right : (x y : Bool) → y ≡ true → (x || y) ≡ true
  or_right true y e = refl
  or_right false y e = e

  at : (b : Bool) → (a == suc n) ≡ b → (a ≤ n → some_action test a n ≡ true) → ((nat_le a (suc n) && test (suc n)) || some_action test a n) ≡ true
  at true e go = rw low (rw (ap test (sym (eqb-true a (suc n) e)) ∙ q) refl)
  at false e go = or_right (nat_le a (suc n) && test (suc n)) (some_action test a n) (go (less e))

-- ---- what takes a row

-- a take of a row by an action is printed
abbrev IsPrint : ℕ → ℕ → List Print → Type 0
IsPrint row action [] = ⊥
IsPrint row action (p ∷ ps) = ((p.row ≡ row) × (p.change ≡ Taken action)) ⊎ IsPrint row action ps

print_back : (row action : ℕ) (xs ys : List Print) → IsPrint row action ys → IsPrint row action (xs ++ ys)
print_back row action [] ys h = h
print_back row action (x ∷ xs) ys h = inr (print_back row action xs ys h)

stands_print : (row version action : ℕ) (lines : List Tagged) → Stands lines row version (Taken action) → IsPrint row action (printed_by lines action)
stands_print row version action [] s = s
stands_print row version action (line ∷ lines) (inr s) = print_back row action (cond (is_move line.kind && (line.action == action)) (record { row = line.row; change = change_of line } ∷ []) []) (printed_by lines action) (stands_print row version action lines s)
stands_print row version action (line ∷ lines) (inl q) = by line.kind q.1 where
  untake : (a b : ℕ) → ◌≡◌ {A = Change} (Taken a) (Taken b) → a ≡ b
  untake a b e = cc

  self : (a b : ℕ) → a ≡ b → (a == b) ≡ true
  self a b e = grind (arith, e)

  by : (kind : Kind) → as_change line.action kind ≡ Taken action → IsPrint row action (cond (is_move kind && (line.action == action)) (record { row = line.row; change = as_change line.action kind } ∷ []) [] ++ printed_by lines action)
  by (Adds es) e = absurd (cc)
  by Takes e = rw (self line.action action (untake line.action action e)) (inl (eqb-true line.row row (and_parts (line.row == row) (line.version == version) q.0).0, e))
  by (Gives from) e = absurd (cc)

gives_not : (kept : ℕ → ℕ → Bool) (m : Move) (row action : ℕ) (to : List ℕ) (rest : List Print) → IsPrint row action (gives_of kept m to ++ rest) → IsPrint row action rest
gives_not kept m row action [] rest h = h
gives_not kept m row action (r ∷ to) rest h = at (kept m.action m.from) h (gives_not kept m row action to rest) where
  at : (b : Bool) → IsPrint row action ((cond b (record { row = r; change = Given m.action m.from } ∷ []) [] ++ gives_of kept m to) ++ rest) → (IsPrint row action (gives_of kept m to ++ rest) → IsPrint row action rest) → IsPrint row action rest
  at true (inl q) go = absurd (let e : ◌≡◌ {A = Change} (Given m.action m.from) (Taken action) = q.1 in cc)
  at true (inr k) go = go k
  at false k go = go k

print_taken : (holder : ℕ → ℕ → Option Owner) (takes : ℕ → ℕ → Bool) (kept : ℕ → ℕ → Bool) (row action : ℕ) (rows : List ℕ) → IsPrint row action (prints_all kept (moves_of holder takes action rows)) → takes action row ≡ true
print_taken holder takes kept row action [] h = absurd h
print_taken holder takes kept row action (r ∷ rows) h = at (takes action r) refl (holder action r) h (print_taken holder takes kept row action rows) where
  at : (b : Bool) → takes action r ≡ b → (o : Option Owner) → IsPrint row action (prints_all kept (cond b (moved_by o action r) [] ++ moves_of holder takes action rows)) → (IsPrint row action (prints_all kept (moves_of holder takes action rows)) → takes action row ≡ true) → takes action row ≡ true
  at true q None k go = go k
  at true q (Some owner) (inl e) go = ap (takes action) (sym e.0) ∙ q
  at true q (Some owner) (inr k) go = go (gives_not kept (record { action = action; from = r; to = owner.nexts }) row action owner.nexts (prints_all kept (moves_of holder takes action rows)) k)
  at false q o k go = go k

-- an action of which a take of a row is printed takes the row
pub takes_it : (holder : ℕ → ℕ → Option Owner) (takes : ℕ → ℕ → Bool) (kept : ℕ → ℕ → Bool) (rows : List ℕ) (lines : List Tagged) (row version action : ℕ) → printed_by lines action ≡ prints_all kept (moves_of holder takes action rows)
    → Stands lines row version (Taken action) → takes action row ≡ true
takes_it holder takes kept rows lines row version action asks s = print_taken holder takes kept row action rows (subst (IsPrint row action) asks (stands_print row version action lines s))

-- ---- where an event leads

is_one : (cell other : ℕ) → is_of (cell ∷ []) other ≡ (other == cell)
is_one cell other = at (cell == other) refl where
  swap : (other == cell) ≡ (cell == other)
  swap = grind arith

  count : count_by (λ c. c == other) (cell ∷ []) ≡ cond (cell == other) 1 0 + count_by (λ c. c == other) []
  count = sum_by-cons (λ y. cond (y == other) 1 0) cell []

  one : (n : ℕ) → n ≡ 1 + 0 → nat_lt 0 n ≡ true
  one n e = grind (arith, e)

  none : (n : ℕ) → n ≡ 0 + 0 → nat_lt 0 n ≡ false
  none n e = grind (arith, e)

  at : (b : Bool) → (cell == other) ≡ b → is_of (cell ∷ []) other ≡ (other == cell)
  at true q = one (count_by (λ c. c == other) (cell ∷ [])) (count ∙ ap (λ b. cond {A = ℕ} b 1 0 + count_by (λ c. c == other) []) q) ∙ sym (swap ∙ q)
  at false q = none (count_by (λ c. c == other) (cell ∷ [])) (count ∙ ap (λ b. cond {A = ℕ} b 1 0 + count_by (λ c. c == other) []) q) ∙ sym (swap ∙ q)

pub leads_same : (names : ℕ → Names) (ps : List Placed) (key : Key) (cell : ℕ) (one : Ended) → leads_at key (cell ∷ []) (whose_by names ps one) ≡ ((one.event.subject.cell == cell) && leads_to names key one)
leads_same names ps key cell one = by (own_slot one) where
  own : (key : Key) → leads_key key (session_of names one) ≡ (is_all key || (true && leads_key key (session_of names one)))
  own (KeyThread number slot) = refl
  own (KeyAccount user host) = refl
  own (KeyUser user) = refl
  own (KeyHost host) = refl
  own KeyAll = refl

  none : (b : Bool) → b ≡ (b || (false && leads_key key (session_of names one)))
  none true = refl
  none false = refl

  by : (o : Option ℕ) → leads_at key (cell ∷ []) (whose_at names ps one o) ≡ ((one.event.subject.cell == cell) && (is_all key || (is_some o && leads_key key (session_of names one))))
  by None = ap (λ b. b && is_all key) (is_one cell one.event.subject.cell) ∙ ap (λ b. (one.event.subject.cell == cell) && b) (none (is_all key))
  by (Some slot) = ap (λ b. b && leads_key key (session_of names one)) (is_one cell one.event.subject.cell) ∙ ap (λ b. (one.event.subject.cell == cell) && b) (own key)
