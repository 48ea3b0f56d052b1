-- What is done over a store that finds everything is all that was asked for.
use Rattle.std.proofs.Common.{◌≡◌, refl, ℕ, ◌==◌, List, [], ◌∷◌, ◌++◌, sym, ◌∙◌, ap, subst, append_assoc}
use Rattle.std.proofs.lemmas.List.{append-nil}
use Rattle.std.specs.Prelude.{if◌then◌else◌}
use Rattle.std.specs.List.{flat_map}
use Rattle.pfs_event.specs.declared.entry.Entry.{Entry}
use Rattle.pfs_levels.specs.declared.answers.Word.{Word}
use Rattle.pfs_levels.specs.Calls.{Call, Adds, Rings, Reads, Loads, Draws, Takes, Puts, Frees, Sets, Enters, Leaves, Meets, Opening, Start}
use Rattle.pfs_levels.specs.Moves.{Ask, Move, Gift, AreMoves, IsMove, receivers, gift_calls, gift_entries, empty_calls, move_entries, moves_calls, moves_entries}
use Rattle.pfs_stat.specs.Stat.{stat_of_words}
use Rattle.pfs_model.specs.Chains.{Each}
use Rattle.pfs_model.specs.ActionAsks.{Took, Gave, Freed, Tagged, Flagged, did, flagged_by, given_to, moved_by, signed_by}
use Rattle.pfs_admin.specs.Works.{Sign, Releases, Tags, Made, Flagging, made_entries, sign_entry, signs_of, signs_calls, signs_entries, flagging_calls, flagging_entries}
use Rattle.pfs_law_session.specs.Demands.{moves_asked, signs_asked, sets_asked}
use Rattle.pfs_check_blank.specs.AllAsked.{AsksLaw, TellsOne, WholeLaw, every}
use Rattle.pfs_check_blank.specs.BlankStores.{AllFound, AreCalls}

right : (xs ys : List Call) → AllFound (xs ++ ys) → AllFound ys
right [] ys a = a
right (Takes row version found ∷ xs) ys a = right xs ys a.1
right (Adds row amount answer ∷ xs) ys a = right xs ys a
right (Rings row content answer ∷ xs) ys a = right xs ys a
right (Reads row seen ∷ xs) ys a = right xs ys a
right (Loads at version flags ∷ xs) ys a = right xs ys a
right (Draws kind ticket ∷ xs) ys a = right xs ys a
right (Meets versions ∷ xs) ys a = right xs ys a
right (Puts row content version ∷ xs) ys a = right xs ys a
right (Frees row version ∷ xs) ys a = right xs ys a
right (Sets at flags version ∷ xs) ys a = right xs ys a
right (Enters label labels ∷ xs) ys a = right xs ys a
right (Leaves ∷ xs) ys a = right xs ys a

did_join : (xs ys : List Entry) → flat_map did (xs ++ ys) ≡ flat_map did xs ++ flat_map did ys
did_join [] ys = refl
did_join (x ∷ xs) ys = ap (λ z. did x ++ z) (did_join xs ys) ∙ sym (append_assoc (did x) (flat_map did xs) (flat_map did ys))

moves_join : (xs ys : List Ask) → moved_by every (moves_asked (xs ++ ys)) ≡ moved_by every (moves_asked xs) ++ moved_by every (moves_asked ys)
moves_join [] ys = refl
moves_join (x ∷ xs) ys =
    ap (λ z. Took x.from ∷ (given_to x.from x.to ++ z)) (moves_join xs ys)
    ∙ ap (λ z. Took x.from ∷ z) (sym (append_assoc (given_to x.from x.to) (moved_by every (moves_asked xs)) (moved_by every (moves_asked ys))))

signs_join : (xs ys : List Sign) → signed_by (signs_asked (xs ++ ys)) ≡ signed_by (signs_asked xs) ++ signed_by (signs_asked ys)
signs_join [] ys = refl
signs_join (Releases row ∷ xs) ys = ap (λ z. Freed row ∷ z) (signs_join xs ys)
signs_join (Tags row content ∷ xs) ys = ap (λ z. Tagged row ∷ z) (signs_join xs ys)

gifts_did : (from : ℕ) (gifts : List Gift) → flat_map did (gift_entries from gifts) ≡ given_to from (receivers gifts)
gifts_did from [] = refl
gifts_did from (g ∷ gs) = ap (λ z. Gave g.to from ∷ z) (gifts_did from gs)

move_did : (a : Ask) (m : Move) → IsMove a m → (stat_of_words m.found).count ≡ 1 → flat_map did (move_entries m) ≡ moved_by every (moves_asked (a ∷ []))
move_did a m i n =
    ap (λ z. Took m.from ∷ z) (gifts_did m.from m.gifts ∙ ap (given_to m.from) (i.to_is ∙ all (stat_of_words m.found).count n))
    ∙ ap (λ f. Took f ∷ given_to f a.to) i.from_is
    ∙ ap (λ z. Took a.from ∷ z) (sym (append-nil (given_to a.from a.to))) where
      all : (count : ℕ) → count ≡ 1 → (if count == 0 then [] else a.to) ≡ a.to
      all count e = ap (λ (z : ℕ). if z == 0 then [] else a.to) e

moves_did : (asks : List Ask) (ms : List Move) → AreMoves asks ms → AllFound (moves_calls ms) → flat_map did (moves_entries ms) ≡ moved_by every (moves_asked asks)
moves_did asks [] a c = sym (ap (λ z. moved_by every (moves_asked z)) a)
moves_did asks (m ∷ ms) (before, (last, (e, (i, a)))) c =
    let gifts : List Call = gift_calls (stat_of_words m.found) m.gifts in
    let some : AllFound (empty_calls m.from m.before m.version m.found ++ moves_calls ms) = right gifts _ (subst AllFound (append_assoc gifts (empty_calls m.from m.before m.version m.found) (moves_calls ms)) c) in
    did_join (moves_entries ms) (move_entries m)
    ∙ ap (λ z. z ++ flat_map did (move_entries m)) (moves_did before ms a some.1)
    ∙ ap (λ z. moved_by every (moves_asked before) ++ z) (move_did last m i some.0)
    ∙ sym (ap (λ z. moved_by every (moves_asked z)) e ∙ moves_join before (last ∷ []))

signs_did : (made : List Made) → flat_map did (signs_entries made) ≡ signed_by (signs_asked (signs_of made))
signs_did [] = refl
signs_did (m ∷ ms) =
    did_join (signs_entries ms) (made_entries m)
    ∙ ap (λ z. z ++ flat_map did (made_entries m)) (signs_did ms)
    ∙ ap (λ z. signed_by (signs_asked (signs_of ms)) ++ z) (one m)
    ∙ sym (signs_join (signs_of ms) (m.sign ∷ [])) where
      one : (m : Made) → flat_map did (made_entries m) ≡ signed_by (signs_asked (m.sign ∷ []))
      one m = at m.sign refl where
        at : (s : Sign) → m.sign ≡ s → flat_map did (made_entries m) ≡ signed_by (signs_asked (m.sign ∷ []))
        at (Releases row) e = rw e refl
        at (Tags row content) e = rw e refl

sets_did : (words : List Word) (flags : List Flagging) → flat_map did (flagging_entries words flags) ≡ flagged_by (sets_asked flags)
sets_did words [] = refl
sets_did words (f ∷ fs) = ap (λ z. Flagged f.word f.flags ∷ z) (sets_did words fs)

tell_both : (xs ys : List Entry) → Each TellsOne xs → Each TellsOne ys → Each TellsOne (xs ++ ys)
tell_both [] ys a b = b
tell_both (x ∷ xs) ys a b = (a.0, tell_both xs ys a.1 b)

gifts_tell : (from : ℕ) (gifts : List Gift) → Each TellsOne (gift_entries from gifts)
gifts_tell from [] = tt
gifts_tell from (g ∷ gs) = ((Gave g.to from, refl), gifts_tell from gs)

moves_tell : (ms : List Move) → Each TellsOne (moves_entries ms)
moves_tell [] = tt
moves_tell (m ∷ ms) = tell_both (moves_entries ms) (move_entries m) (moves_tell ms) ((Took m.from, refl), gifts_tell m.from m.gifts)

signs_tell : (made : List Made) → Each TellsOne (signs_entries made)
signs_tell [] = tt
signs_tell (m ∷ ms) = tell_both (signs_entries ms) (made_entries m) (signs_tell ms) (at m.sign refl, tt) where
  at : (s : Sign) → m.sign ≡ s → TellsOne (sign_entry m.sign m.version)
  at (Releases row) e = rw e (Freed row, refl)
  at (Tags row content) e = rw e (Tagged row, refl)

-- some place where a store begins
nowhere : Start
nowhere = record {
  table = record { words = 0; slots = 0; views_name = 0; atom = 0; block = 0; offset = 0; slot_names = [] };
  number = 0;
  stake = 0;
  base = 0;
}

pub some_start : Opening
some_start = record { flags = []; board = nowhere; switches = nowhere; tickets = nowhere; words = [] }

-- before any call a store may have any contents
pub nothing_called : {contents : List (List ℕ)} → AreCalls contents []
nothing_called = record { found = tt; are_put = λ row words e. absurd (cc) }

pub asks_law : AsksLaw
asks_law work words head old new was now w = record {
  asked = moves_entries w.moves ++ (signs_entries w.made ++ flagging_entries words work.flags);
  grown = w.did.entries_are;
  are = record {
    changes = moves_entries w.moves ++ signs_entries w.made;
    entries_are = sym (append_assoc (moves_entries w.moves) (signs_entries w.made) (flagging_entries words work.flags));
    tell = tell_both (moves_entries w.moves) (signs_entries w.made) (moves_tell w.moves) (signs_tell w.made);
    changes_are =
        did_join (moves_entries w.moves) (signs_entries w.made)
        ∙ ap (λ z. z ++ flat_map did (signs_entries w.made)) (moves_did work.moves w.moves w.are_moves found)
        ∙ ap (λ z. moved_by every (moves_asked work.moves) ++ z) (signs_did w.made ∙ ap (λ z. signed_by (signs_asked z)) w.signs_are);
  };
} where
  found : AllFound (moves_calls w.moves)
  found =
      right (signs_calls w.made) (moves_calls w.moves)
      (right (flagging_calls words work.flags) (signs_calls w.made ++ moves_calls w.moves)
      (subst AllFound (append-nil (flagging_calls words work.flags ++ (signs_calls w.made ++ moves_calls w.moves)))
      (w.did.goes some_start [] nothing_called).found))

pub whole_law : WholeLaw
whole_law work words entries a =
    ap (flat_map did) a.entries_are
    ∙ did_join a.changes (flagging_entries words work.flags)
    ∙ ap (λ z. z ++ flat_map did (flagging_entries words work.flags)) a.changes_are
    ∙ ap (λ z. (moved_by every (moves_asked work.moves) ++ signed_by (signs_asked work.signs)) ++ z) (sets_did words work.flags)
    ∙ append_assoc (moved_by every (moves_asked work.moves)) (signed_by (signs_asked work.signs)) (flagged_by (sets_asked work.flags))
