-- What a session did, and then did more.
use Rattle.std.proofs.Common.{◌≡◌, List, [], ◌∷◌, ◌++◌, refl, ap, sym, ◌∙◌, subst, append_assoc}
use Rattle.std.proofs.lemmas.List.{append-nil}
use Rattle.pfs_actor.specs.ActorDeeds.{AreLabelled, HaveLed, HasDone}
use Rattle.pfs_admin.specs.declared.changes.Change.{Change}
use Rattle.pfs_board.specs.declared.view.Label.{Label}
use Rattle.pfs_classes.specs.declared.setting.Setting.{Setting}
use Rattle.pfs_law_plain.specs.ActionFolds.{DoingsFolded}
use Rattle.pfs_law_plain.specs.Spells.{Doing, doings_calls, doing_calls, parts_in}
use Rattle.pfs_event.specs.declared.entry.Entry.{Entry}
use Rattle.pfs_levels.specs.Calls.{Call, Opening}
use Rattle.pfs_model.specs.JournalCuts.{joined}
use Rattle.pfs_law_session.specs.Deeds.{Part, part_entries}
use Rattle.pfs_law_session.specs.JournalLaws.{AreParts, entries_of, state_behind}
use Rattle.pfs_session.specs.SessionStates.{State, Book}
use Rattle.pfs_session.specs.Turns.{state_after}

parts_then : (s : State) (ps qs : List Part) → AreParts s ps → AreParts (state_behind s ps) qs → AreParts s (ps ++ qs)
parts_then s [] qs are more = more
parts_then s (p ∷ ps) qs are more = (are.0, parts_then (state_after s p.turns) ps qs are.1 more)

state_then : (s : State) (ps qs : List Part) → state_behind s (ps ++ qs) ≡ state_behind (state_behind s ps) qs
state_then s [] qs = refl
state_then s (p ∷ ps) qs = state_then (state_after s p.turns) ps qs

entries_then : (ps qs : List Part) → joined (entries_of (ps ++ qs)) ≡ joined (entries_of ps) ++ joined (entries_of qs)
unfolding joined
entries_then [] qs = refl
entries_then (p ∷ ps) qs = ap (λ (z : List Entry). part_entries p ++ z) (entries_then ps qs) ∙ sym (append_assoc (part_entries p) (joined (entries_of ps)) (joined (entries_of qs)))

calls_then : (ds es : List Doing) → doings_calls (ds ++ es) ≡ doings_calls es ++ doings_calls ds
calls_then [] es = sym (append-nil (doings_calls es))
calls_then (d ∷ ds) es = ap (λ (z : List Call). z ++ doing_calls d) (calls_then ds es) ∙ append_assoc (doings_calls es) (doings_calls ds) (doing_calls d)

in_then : (ds es : List Doing) → parts_in (ds ++ es) ≡ parts_in ds ++ parts_in es
in_then [] es = refl
in_then (d ∷ ds) es = ap (λ (z : List Part). d.part ∷ z) (in_then ds es)

labelled_then : (s : State) (ds es : List Doing) → AreLabelled s ds → AreLabelled (state_behind s (parts_in ds)) es → AreLabelled s (ds ++ es)
labelled_then s [] es are more = more
labelled_then s (d ∷ ds) es are more = (are.0, labelled_then (state_after s d.part.turns) ds es are.1 more)

folded_then : (fixed : Setting) (change : Label → Change) (ds es : List Doing) → DoingsFolded fixed change ds → DoingsFolded fixed change es → DoingsFolded fixed change (ds ++ es)
folded_then fixed change [] es are more = more
folded_then fixed change (d ∷ ds) es are more = (are.0, folded_then fixed change ds es are.1 more)

led_then : (fixed : Setting) (change : Label → Change) (s : State) (ps qs : List Part) (start : Opening) (calls : List Call) (mid now : Opening → List Call → Type 0) → HaveLed fixed change s ps start calls mid
    → ((more : List Call) → mid start more → HaveLed fixed change (state_behind s ps) qs start more now) → HaveLed fixed change s (ps ++ qs) start calls now
led_then fixed change s ps qs start calls mid now first next =
    let ds : List Doing = first.doings in
    let then : HaveLed fixed change (state_behind s ps) qs start (doings_calls ds ++ calls) now = next (doings_calls ds ++ calls) first.reached in
    let es : List Doing = then.doings in
    record {
      doings = ds ++ es;
      parts_are = in_then ds es ∙ (ap (λ (z : List Part). z ++ parts_in es) first.parts_are ∙ ap (λ (z : List Part). ps ++ z) then.parts_are);
      labelled = labelled_then s ds es first.labelled (subst (λ (z : List Part). AreLabelled (state_behind s z) es) (sym first.parts_are) then.labelled);
      folded = folded_then fixed change ds es first.folded then.folded;
      reached = subst (λ (z : List Call). now start z) (sym (ap (λ (z : List Call). z ++ calls) (calls_then ds es) ∙ append_assoc (doings_calls es) (doings_calls ds) calls)) then.reached;
    }

-- a session that did nothing did no parts
pub nothing : (fixed : Setting) (change : Label → Change) (book : Book) (was : Opening → List Call → Type 0) → HasDone fixed change [] book book was was
unfolding joined
nothing fixed change book was = record {
  are_parts = tt;
  state = refl;
  entries_are = sym (append-nil book.journal.entries);
  leads = λ start calls h. record { doings = []; parts_are = refl; labelled = tt; folded = tt; reached = h };
}

-- and one that did parts, and then others, did all of them, one after another
pub then : (fixed : Setting) (change : Label → Change) (ps qs : List Part) (old at new : Book) (was mid now : Opening → List Call → Type 0) → HasDone fixed change ps old at was mid → HasDone fixed change qs at new mid now
    → HasDone fixed change (ps ++ qs) old new was now
then fixed change ps qs old at new was mid now p q = record {
  are_parts = parts_then old.state ps qs p.are_parts (subst (λ (s : State). AreParts s qs) p.state q.are_parts);
  state = q.state ∙ (ap (λ (s : State). state_behind s qs) p.state ∙ sym (state_then old.state ps qs));
  entries_are = q.entries_are ∙ (ap (λ (z : List Entry). z ++ joined (entries_of qs)) p.entries_are ∙ (append_assoc old.journal.entries (joined (entries_of ps)) (joined (entries_of qs)) ∙ ap (λ (z : List Entry). old.journal.entries ++ z) (sym (entries_then ps qs))));
  leads = λ start calls h. led_then fixed change old.state ps qs start calls mid now (p.leads start calls h)
      (λ more g. subst (λ (s : State). HaveLed fixed change s qs start more now) p.state (q.leads start more g));
}
