-- Steps one after another.
use Rattle.std.proofs.Common.{◌≡◌, List, [], ◌∷◌, ◌++◌, refl, ap, sym, ◌∙◌, subst}
use Rattle.std.proofs.lemmas.List.{append_assoc, append-nil}
use Rattle.pfs_event.specs.declared.entry.Entry.{Entry}
use Rattle.pfs_levels.specs.Calls.{Call, Opening}
use Rattle.pfs_levels.specs.Moves.{Did}
use Rattle.pfs_levels.proofs.MoveLists.{did_none, did_then, did_as}
use Rattle.pfs_session.specs.SessionStates.{State, Book}
use Rattle.pfs_session.specs.Turns.{Step, Does, Turn, AreTurns, state_after, turns_calls, turns_entries, steps_of, Played}

pub played_none : (book : Book) (was : Opening → List Call → Type 0) → Played [] book book was was
played_none book was = record { turns = []; are_turns = tt; steps_are = refl; state_is = refl; did = did_none book.journal was }

pub played_one : (step : Step) (calls : List Call) (entries : List Entry) (after : State) (old new : Book) (was now : Opening → List Call → Type 0)
    → Does old.state step calls entries after → new.state ≡ after → Did calls entries old.journal new.journal was now → Played (step ∷ []) old new was now
played_one step calls entries after old new was now does same did = record {
  turns = record { step = step; calls = calls; entries = entries; after = after } ∷ [];
  are_turns = (does, tt);
  steps_are = refl;
  state_is = same;
  did = did_as calls (calls ++ []) entries entries old.journal new.journal was now (sym (append-nil calls)) refl did;
}

state_then : (s : State) (ps qs : List Turn) → state_after s (qs ++ ps) ≡ state_after (state_after s ps) qs
state_then s ps [] = refl
state_then s ps (q ∷ qs) = refl

turns_then : (s : State) (ps qs : List Turn) → AreTurns s ps → AreTurns (state_after s ps) qs → AreTurns s (qs ++ ps)
turns_then s ps [] are more = are
turns_then s ps (q ∷ qs) are more =
    (subst (λ z. Does z q.step q.calls q.entries q.after) (sym (state_then s ps qs)) more.0, turns_then s ps qs are more.1)

calls_then : (ps qs : List Turn) → turns_calls (qs ++ ps) ≡ turns_calls qs ++ turns_calls ps
calls_then ps [] = refl
calls_then ps (q ∷ qs) = ap (λ z. q.calls ++ z) (calls_then ps qs) ∙ sym (append_assoc q.calls (turns_calls qs) (turns_calls ps))

entries_then : (ps qs : List Turn) → turns_entries (qs ++ ps) ≡ turns_entries ps ++ turns_entries qs
entries_then ps [] = sym (append-nil (turns_entries ps))
entries_then ps (q ∷ qs) = ap (λ z. z ++ q.entries) (entries_then ps qs) ∙ append_assoc (turns_entries ps) (turns_entries qs) q.entries

steps_then : (ps qs : List Turn) → steps_of (qs ++ ps) ≡ steps_of ps ++ steps_of qs
steps_then ps [] = sym (append-nil (steps_of ps))
steps_then ps (q ∷ qs) = ap (λ z. z ++ q.step ∷ []) (steps_then ps qs) ∙ append_assoc (steps_of ps) (steps_of qs) (q.step ∷ [])

pub played_then : (xs ys : List Step) (old at new : Book) (was mid now : Opening → List Call → Type 0) → Played xs old at was mid → Played ys at new mid now
    → Played (xs ++ ys) old new was now
played_then xs ys old at new was mid now p q = record {
  turns = q.turns ++ p.turns;
  are_turns = turns_then old.state p.turns q.turns p.are_turns (subst (λ z. AreTurns z q.turns) p.state_is q.are_turns);
  steps_are = steps_then p.turns q.turns ∙ (ap (λ z. z ++ steps_of q.turns) p.steps_are ∙ ap (λ z. xs ++ z) q.steps_are);
  state_is = q.state_is ∙ (ap (λ z. state_after z q.turns) p.state_is ∙ sym (state_then old.state p.turns q.turns));
  did = did_as _ _ _ _ old.journal new.journal was now (sym (calls_then p.turns q.turns)) (sym (entries_then p.turns q.turns))
      (did_then _ _ _ _ old.journal at.journal new.journal was mid now p.did q.did);
}
