-- Moves one after another.
use Rattle.std.proofs.Common.{ℕ, ◌≡◌, ◌==◌, cond, Bool, true, false, eq-eqb, ne_eqb, List, [], ◌∷◌, ◌++◌, refl, ap, sym, ◌∙◌, subst}
use Rattle.std.proofs.lemmas.List.{append_assoc, append-nil}
use Rattle.pfs_event.specs.declared.entry.Entry.{Entry}
use Rattle.pfs_event.specs.declared.entry.Entry.TheVariants as says
use Rattle.pfs_stat.specs.declared.Stat.{Stat}
use Rattle.pfs_levels.specs.Calls.{Call, Puts, Takes, Frees, Opening, Goes}
use Rattle.pfs_event.specs.Logs.{Journal}
use Rattle.pfs_levels.specs.Moves.{Ask, ask, Gift, Move, AreGifts, receivers, IsMove, gift_calls, gift_entries, empty_calls, move_calls, move_entries, AreMoves, moves_calls, moves_entries, Did, Moved, Emptied, Given, Purged}

pub did_none : (log : Journal) (was : Opening → List Call → Type 0) → Did [] [] log log was was
did_none log was = record { entries_are = sym (append-nil log.entries); goes = λ start calls h. h }

pub did_then : (xs ys : List Call) (es fs : List Entry) (old at new : Journal) (was mid now : Opening → List Call → Type 0) → Did xs es old at was mid → Did ys fs at new mid now → Did (ys ++ xs) (es ++ fs) old new was now
did_then xs ys es fs old at new was mid now p q = record {
  entries_are = q.entries_are ∙ ap (λ z. z ++ fs) p.entries_are ∙ append_assoc old.entries es fs;
  goes = λ start calls h. subst (now start) (sym (append_assoc ys xs calls)) (q.goes start (xs ++ calls) (p.goes start calls h));
}

pub did_as : (xs ys : List Call) (es fs : List Entry) (old new : Journal) (was now : Opening → List Call → Type 0) → xs ≡ ys → es ≡ fs → Did xs es old new was now → Did ys fs old new was now
did_as xs ys es fs old new was now x e d = record {
  entries_are = d.entries_are ∙ ap (λ z. old.entries ++ z) e;
  goes = subst (Goes was now) x d.goes;
}

-- gifts
gifts_then : (xs ys : List Gift) → AreGifts xs → AreGifts ys → AreGifts (xs ++ ys)
gifts_then [] ys f g = g
gifts_then (x ∷ xs) ys f g = (f.0, gifts_then xs ys f.1 g)

receivers_then : (xs ys : List Gift) → receivers (xs ++ ys) ≡ receivers xs ++ receivers ys
receivers_then [] ys = refl
receivers_then (x ∷ xs) ys = ap (λ z. x.to ∷ z) (receivers_then xs ys)

gift_calls_then : (amount : Stat) (xs ys : List Gift) → gift_calls amount (xs ++ ys) ≡ gift_calls amount ys ++ gift_calls amount xs
gift_calls_then amount [] ys = sym (append-nil (gift_calls amount ys))
gift_calls_then amount (x ∷ xs) ys = ap (λ z. z ++ gift_calls amount (x ∷ [])) (gift_calls_then amount xs ys) ∙ append_assoc (gift_calls amount ys) (gift_calls amount xs) (gift_calls amount (x ∷ []))

gift_entries_then : (from : ℕ) (xs ys : List Gift) → gift_entries from (xs ++ ys) ≡ gift_entries from xs ++ gift_entries from ys
gift_entries_then from [] ys = refl
gift_entries_then from (x ∷ xs) ys = ap (λ z. gift_entries from (x ∷ []) ++ z) (gift_entries_then from xs ys)

pub given_none : (from : ℕ) (amount : Stat) (log : Journal) (was : Opening → List Call → Type 0) → Given from [] amount log log was was
given_none from amount log was = record { gifts = []; are_gifts = tt; to_is = refl; did = did_none log was }

pub given_then : (from : ℕ) (xs ys : List ℕ) (amount : Stat) (old at new : Journal) (was mid now : Opening → List Call → Type 0) → Given from xs amount old at was mid → Given from ys amount at new mid now → Given from (xs ++ ys) amount old new was now
given_then from xs ys amount old at new was mid now p q = record {
  gifts = p.gifts ++ q.gifts;
  are_gifts = gifts_then p.gifts q.gifts p.are_gifts q.are_gifts;
  to_is = receivers_then p.gifts q.gifts ∙ ap (λ z. z ++ receivers q.gifts) p.to_is ∙ ap (λ z. xs ++ z) q.to_is;
  did = did_as _ _ _ _ old new was now (sym (gift_calls_then amount p.gifts q.gifts)) (sym (gift_entries_then from p.gifts q.gifts)) (did_then _ _ _ _ old at new was mid now p.did q.did);
}

-- one move
one : (a : Ask) (m : Move) → IsMove a m → AreMoves (a ∷ []) (m ∷ [])
one a m is = ([], (a, (refl, (is, refl))))

pub moved_one : (from : ℕ) (to given : List ℕ) (amount : Stat) (old at new : Journal) (was mid now : Opening → List Call → Type 0) → given ≡ (cond (amount.count == 0) [] to) → Emptied from amount old at was mid → Given from given amount at new mid now → Moved (ask from to ∷ []) old new was now
moved_one from to given amount old at new was mid now e p q =
    let m : Move = record { from = from; before = p.before; version = p.version; found = p.found; gifts = q.gifts } in
    record {
      moves = m ∷ [];
      are_moves = one (ask from to) m (record { from_is = refl; next = p.next; gifts_are = q.are_gifts; to_is = q.to_is ∙ e ∙ ap (λ (z : Stat). cond (z.count == 0) [] to) p.amount_is });
      did = did_as _ _ _ _ old new was now (ap (λ z. gift_calls z q.gifts ++ empty_calls from p.before p.version p.found) p.amount_is ∙ sym (append-nil (move_calls m))) refl (did_then _ _ _ _ old at new was mid now p.did q.did);
    }

-- moves after others
moves_then : (xs ys : List Ask) (ms ns : List Move) → AreMoves xs ms → AreMoves ys ns → AreMoves (xs ++ ys) (ns ++ ms)
moves_then xs ys ms [] f g = subst (λ z. AreMoves z ms) (sym (append-nil xs) ∙ ap (λ z. xs ++ z) (sym g)) f
moves_then xs ys ms (n ∷ ns) f g = (xs ++ g.0, (g.1.0, (ap (λ z. xs ++ z) g.1.1.0 ∙ sym (append_assoc xs g.0 (g.1.0 ∷ [])), (g.1.1.1.0, moves_then xs g.0 ms ns f g.1.1.1.1))))

calls_then : (ms ns : List Move) → moves_calls (ns ++ ms) ≡ moves_calls ns ++ moves_calls ms
calls_then ms [] = refl
calls_then ms (n ∷ ns) = ap (λ z. move_calls n ++ z) (calls_then ms ns) ∙ sym (append_assoc (move_calls n) (moves_calls ns) (moves_calls ms))

entries_then : (ms ns : List Move) → moves_entries (ns ++ ms) ≡ moves_entries ms ++ moves_entries ns
entries_then ms [] = sym (append-nil (moves_entries ms))
entries_then ms (n ∷ ns) = ap (λ z. z ++ move_entries n) (entries_then ms ns) ∙ append_assoc (moves_entries ms) (moves_entries ns) (move_entries n)

pub moved_none : (log : Journal) (was : Opening → List Call → Type 0) → Moved [] log log was was
moved_none log was = record { moves = []; are_moves = refl; did = did_none log was }

pub moved_then : (xs ys : List Ask) (old at new : Journal) (was mid now : Opening → List Call → Type 0) → Moved xs old at was mid → Moved ys at new mid now → Moved (xs ++ ys) old new was now
moved_then xs ys old at new was mid now p q = record {
  moves = q.moves ++ p.moves;
  are_moves = moves_then xs ys p.moves q.moves p.are_moves q.are_moves;
  did = did_as _ _ _ _ old new was now (sym (calls_then p.moves q.moves)) (sym (entries_then p.moves q.moves)) (did_then _ _ _ _ old at new was mid now p.did q.did);
}

-- two calls in one go
pub goes_two : (x y : Call) (was mid now : Opening → List Call → Type 0) → Goes was mid (x ∷ []) → Goes mid now (y ∷ []) → Goes was now (y ∷ x ∷ [])
goes_two x y was mid now p q = λ start calls h. q start (x ∷ calls) (p start calls h)

pub put_as : (row version : ℕ) (a b : List ℕ) (was now : Opening → List Call → Type 0) → a ≡ b → Goes was now (Puts row a version ∷ []) → Goes was now (Puts row b version ∷ [])
put_as row version a b was now e g = subst (λ z. Goes was now (Puts row z version ∷ [])) e g

-- what is due
abbrev pub no_rows : List ℕ
no_rows = []

pub due_none : (amount : Stat) (to : List ℕ) → amount.count ≡ 0 → no_rows ≡ cond (amount.count == 0) [] to
due_none amount to e = sym (ap (λ b. cond b [] to) (eq-eqb amount.count 0 e))

pub due_all : (amount : Stat) (to : List ℕ) → (amount.count ≡ 0 → ⊥) → to ≡ cond (amount.count == 0) [] to
due_all amount to e = sym (ap (λ b. cond b [] to) (ne_eqb amount.count 0 e))

pub due_nobody : (b : Bool) → no_rows ≡ cond b [] []
due_nobody true = refl
due_nobody false = refl

pub purged_row : (row number version : ℕ) (found : List ℕ) (old new : Journal) (was mid now : Opening → List Call → Type 0) → row ≡ number → Goes was mid (Takes row version found ∷ []) → Goes mid now (Frees row version ∷ [])
    → new.entries ≡ old.entries ++ says.Free row version ∷ [] → Purged number old new was now
purged_row row number version found old new was mid now e p q entries = subst (λ z. Purged z old new was now) e (record {
  version = version;
  found = found;
  did = record { entries_are = entries; goes = goes_two _ _ was mid now p q };
})
