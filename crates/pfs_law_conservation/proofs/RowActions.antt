-- Along a row the numbers of the actions of its lines never fall.
use Rattle.std.proofs.Common.{◌≡◌, refl, ℕ, ◌<◌, ◌≤◌, ◌==◌, ◌&&◌, Bool, true, false, cond, List, [], ◌∷◌, ◌++◌, sym, ap, subst, ◌∙◌, ◌⊎◌, inl, inr}
use Rattle.std.proofs.lemmas.Bool.{and_parts, eqb-true}
use Rattle.pfs_conservation.specs.RowChains.{Change}
use Rattle.pfs_conservation.specs.PrintedChanges.{Stands, IsMove, action_of}
use Rattle.pfs_event.specs.declared.entry.Entry.{Entry}
use Rattle.pfs_event.specs.declared.entry.Entry.TheVariants as says
use Rattle.pfs_model.specs.Actions.{Deed, deed_at, deeds_of, IsAmong, NeverFall}
use Rattle.pfs_model.specs.EntryPlaces.{Placed, chosen}
use Rattle.pfs_law_conservation.specs.KindLines.{lines_at, all_lines, lines_on}
use Rattle.pfs_law_conservation.proofs.RowLines.{sifted}
use Rattle.pfs_model.proofs.Members.{among_front, among_back, among_either}

abbrev pub changing : ℕ → ℕ → ℕ → Deed
changing action row version = record { action = action; row = row; version = version; releases = false }

same_deed : (a b r s v w : ℕ) → a ≡ b → r ≡ s → v ≡ w → changing a r v ≡ changing b s w
same_deed a b r s v w e f g = ap (λ n. changing n r v) e ∙ (ap (λ n. changing b n v) f ∙ ap (λ n. changing b s n) g)

-- a take or a give is a deed
pub stood_deed : (ps : List Placed) (row version : ℕ) (change : Change) → Stands (all_lines ps) row version change → IsMove change → IsAmong (changing (action_of change) row version) (deeds_of ps)
stood_deed [] row version change s m = absurd s
stood_deed (p ∷ ps) row version change s m = by p.entry s (stood_deed ps row version change) where
  here : (at v : ℕ) (own : Change) → action_of own ≡ p.context.action → ((at == row) && (v == version) ≡ true) × (own ≡ change) → changing p.context.action at v ≡ changing (action_of change) row version
  here at v own a h = same_deed p.context.action (action_of change) at row v version (sym a ∙ ap action_of h.1) (eqb-true at row (and_parts (at == row) (v == version) h.0).0) (eqb-true v version (and_parts (at == row) (v == version) h.0).1)

  added : (own : Change) → (IsMove own → ⊥) → own ≡ change → ⊥
  added own n e = n (subst IsMove (sym e) m)

  by : (e : Entry) → Stands (lines_at p e ++ all_lines ps) row version change → (Stands (all_lines ps) row version change → IsMove change → IsAmong (changing (action_of change) row version) (deeds_of ps)) → IsAmong (changing (action_of change) row version) (deed_at p.context.action e ++ deeds_of ps)
  by (says.Add at v) (inl h) go = absurd (added _ (λ n. n) h.1)
  by (says.Add at v) (inr s) go = go s m
  by (says.Take at v) (inl h) go = inl (here at v _ refl h)
  by (says.Take at v) (inr s) go = inr (go s m)
  by (says.Give at v from) (inl h) go = inl (here at v _ refl h)
  by (says.Give at v from) (inr s) go = inr (go s m)
  by (says.Tag at v) s go = inr (go s m)
  by (says.Free at v) s go = inr (go s m)
  by _ s go = go s m

-- and one of all entries, whichever are chosen
pub chosen_deed : (test : Placed → Bool) (d : Deed) (ps : List Placed) → IsAmong d (deeds_of (chosen test ps)) → IsAmong d (deeds_of ps)
chosen_deed test d [] m = m
chosen_deed test d (p ∷ ps) m = at (test p) m (chosen_deed test d ps) where
  at : (b : Bool) → IsAmong d (deeds_of (cond b (p ∷ []) [] ++ chosen test ps)) → (IsAmong d (deeds_of (chosen test ps)) → IsAmong d (deeds_of ps)) → IsAmong d (deed_at p.context.action p.entry ++ deeds_of ps)
  at true m go = on (among_either d (deed_at p.context.action p.entry) (deeds_of (chosen test ps)) m) where
    on : IsAmong d (deed_at p.context.action p.entry) ⊎ IsAmong d (deeds_of (chosen test ps)) → IsAmong d (deed_at p.context.action p.entry ++ deeds_of ps)
    on (inl m) = among_front d (deed_at p.context.action p.entry) (deeds_of ps) m
    on (inr m) = among_back d (deed_at p.context.action p.entry) (deeds_of ps) (go m)
  at false m go = among_back d (deed_at p.context.action p.entry) (deeds_of ps) (go m)

pub never_falls : (test : ℕ → Bool) (choose : Placed → Bool) (ps : List Placed) → NeverFall (deeds_of ps)
    → (row low high : ℕ) (first next : Change) → low < high
    → Stands (lines_on test (all_lines (chosen choose ps))) row low first → Stands (lines_on test (all_lines (chosen choose ps))) row high next
    → IsMove first → IsMove next → action_of first ≤ action_of next
never_falls test choose ps never row low high first next l s t m n =
    never (changing (action_of first) row low) (changing (action_of next) row high)
    (chosen_deed choose _ ps (stood_deed (chosen choose ps) row low first (sifted test (all_lines (chosen choose ps)) row low first s).1 m))
    (chosen_deed choose _ ps (stood_deed (chosen choose ps) row high next (sifted test (all_lines (chosen choose ps)) row high next t).1 n))
    (refl, inl l)
