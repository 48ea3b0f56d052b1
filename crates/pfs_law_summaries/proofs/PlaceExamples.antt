-- The current places and a place of the long history, worked.
use Rattle.std.proofs.Common.{◌≡◌, refl, ℕ, ◌≤◌, List, [], ◌∷◌, ap, inl, inr, arith}
use Rattle.pfs_model.specs.Actions.{IsAmong}
use Rattle.pfs_model.specs.Chains.{Each, change_at, each_of}
use Rattle.pfs_model.specs.EntryPlaces.{places_behind}
use Rattle.pfs_model.specs.Rings.{Ticketed, ticketed_at}
use Rattle.pfs_model.specs.declared.changes.Change.{Change}
use Rattle.pfs_law_summaries.specs.CurrentPlaces.{put_at}
use Rattle.pfs_law_summaries.specs.LongHistory.{ticketed}
use Rattle.pfs_law_summaries.specs.PlaceExamples.{WorkedPlaces, to}

versions_to : (row version : ℕ) (xs : List Change) → Each (λ (x : Change). x.row ≡ row → x.version ≤ version) xs → (other : ℕ) → IsAmong (change_at row other) xs → other ≤ version
versions_to row version [] h other m = absurd m
versions_to row version (x ∷ xs) h other (inl e) = let l : x.version ≤ version = h.0 (ap (λ (c : Change). c.row) e) in let k : x.version ≡ other = ap (λ (c : Change). c.version) e in omega (arith, l, k)
versions_to row version (x ∷ xs) h other (inr m) = versions_to row version xs h.1 other m

tickets_to : (row ticket : ℕ) (xs : List Ticketed) → Each (λ (x : Ticketed). x.ticket ≤ ticket) xs → (at other : ℕ) → IsAmong (ticketed row at other) xs → other ≤ ticket
tickets_to row ticket [] h at other m = absurd m
tickets_to row ticket (x ∷ xs) h at other (inl e) = let l : x.ticket ≤ ticket = h.0 in let k : x.ticket ≡ other = ap (λ (c : Ticketed). c.ticket) e in omega (arith, l, k)
tickets_to row ticket (x ∷ xs) h at other (inr m) = tickets_to row ticket xs h.1 at other m

ticket_in : (row ticket : ℕ) (xs : List Ticketed) → Each (λ (x : Ticketed). x.ticket ≡ ticket → ⊥) xs → (at : ℕ) → IsAmong (ticketed row at ticket) xs → ⊥
ticket_in row ticket [] h at m = absurd m
ticket_in row ticket (x ∷ xs) h at (inl e) = h.0 (ap (λ (c : Ticketed). c.ticket) e)
ticket_in row ticket (x ∷ xs) h at (inr m) = ticket_in row ticket xs h.1 at m

pub worked_places : WorkedPlaces
unfolding places_behind
worked_places = record {
  current = record { put = inr (inl refl); last = versions_to 8455 2 (each_of put_at (to 1)) (λ e. omega arith, (λ e. omega arith, (λ e. omega arith, tt))); kept = refl };
  current_shown = refl;
  earlier = λ p. absurd (let l : 2 ≤ 1 = p.last 2 (inr (inl refl)) in omega (arith, l));
  next = record { put = inr (inr (inr (inr (inl refl)))); last = versions_to 8455 4 (each_of put_at (to 2)) (λ e. omega arith, (λ e. omega arith, (λ e. omega arith, (λ e. omega arith, (λ e. omega arith, (λ e. omega arith, (λ e. omega arith, (λ e. omega arith, (λ e. omega arith, tt))))))))); kept = refl };
  next_shown = refl;
  freed = λ p. absurd (let e = p.kept in cc);
  freed_shown = refl;
  other = record { put = inr (inr (inr (inr (inr (inr (inr (inl refl))))))); last = versions_to 8511 2 (each_of put_at (to 3)) (λ e. absurd (omega (arith, e)), (λ e. absurd (omega (arith, e)), (λ e. absurd (omega (arith, e)), (λ e. absurd (omega (arith, e)), (λ e. absurd (omega (arith, e)), (λ e. absurd (omega (arith, e)), (λ e. omega arith, (λ e. omega arith, (λ e. absurd (omega (arith, e)), tt))))))))); kept = refl };
  other_shown = refl;
  long = record { put = record { put = inl refl; kept = refl }; greatest = λ at other p. tickets_to 12242 0 (each_of ticketed_at (to 1)) (omega arith, tt) at other p.put };
  long_shown = refl;
  greater = record { put = record { put = inr (inl refl); kept = refl }; greatest = λ at other p. tickets_to 12242 2000 (each_of ticketed_at (to 2)) (omega arith, (omega arith, tt)) at other p.put };
  greater_shown = refl;
  lesser = λ p. absurd (let l : 2000 ≤ 0 = p.greatest 2 2000 (record { put = inr (inl refl); kept = refl }) in omega (arith, l));
  late = λ version p. ticket_in 12242 1000 (each_of ticketed_at (to 2)) (λ e. absurd (omega (arith, e)), (λ e. absurd (omega (arith, e)), tt)) version p.put;
  emptied = λ p. absurd (let e = p.put.kept in cc);
  emptied_shown = refl;
  since = record { put = record { put = inr (inr (inl refl)); kept = refl }; greatest = λ at other p. tickets_to 12242 3000 (each_of ticketed_at (to 4)) (omega arith, (omega arith, (omega arith, tt))) at other p.put };
  since_shown = refl;
}
