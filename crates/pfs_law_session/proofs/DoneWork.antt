-- What the entries of an action's work say was done is what was asked for.
use Rattle.std.proofs.Common.{ℕ, ◌≡◌, ◌==◌, Bool, true, false, cond, List, [], ◌∷◌, ◌++◌, refl, ap, sym, ◌∙◌}
use Rattle.std.specs.Prelude.{if◌then◌else◌, not}
use Rattle.std.proofs.lemmas.List.{append_assoc, append-nil}
use Rattle.pfs_admin.specs.Works.{Sign, Releases, Tags, Made, Flagging, signs_of, signs_entries, made_entries, sign_entry, flagging_entries}
use Rattle.pfs_event.specs.declared.entry.Entry.{Entry}
use Rattle.pfs_event.specs.declared.entry.Entry.TheVariants as says
use Rattle.pfs_levels.specs.Moves.{Ask, Gift, Move, IsMove, due, receivers, gift_entries, move_entries}
use Rattle.pfs_levels.specs.declared.answers.Word.{Word}
use Rattle.pfs_model.specs.ActionAsks.{Did, Took, Gave, did, given_to, moved_by, signed_by, flagged_by}
use Rattle.pfs_model.specs.ActionAsks.{Move as Moving}
use Rattle.pfs_stat.specs.Stat.{stat_of_words}
use Rattle.pfs_law_session.specs.Demands.{moves_asked, signs_asked, sets_asked}

abbrev pub dids : List Entry → List Did
dids [] = []
dids (e ∷ es) = did e ++ dids es

pub dids_then : (xs ys : List Entry) → dids (xs ++ ys) ≡ dids xs ++ dids ys
dids_then [] ys = refl
dids_then (x ∷ xs) ys = ap (λ z. did x ++ z) (dids_then xs ys) ∙ sym (append_assoc (did x) (dids xs) (dids ys))

gifts_done : (from : ℕ) (gs : List Gift) → dids (gift_entries from gs) ≡ given_to from (receivers gs)
gifts_done from [] = refl
gifts_done from (g ∷ gs) = ap (λ z. Gave g.to from ∷ z) (gifts_done from gs)

due_given : (from : ℕ) (to : List ℕ) (b : Bool) → given_to from (if b then [] else to) ≡ cond (not b) (given_to from to) [] ++ []
due_given from to true = refl
due_given from to false = sym (append-nil (given_to from to))

pub move_done : (counted : ℕ → Bool) (a : Ask) (m : Move) → IsMove a m → counted a.from ≡ not ((stat_of_words m.found).count == 0)
    → dids (move_entries m) ≡ moved_by counted (moves_asked (a ∷ []))
move_done counted a m is e =
    ap (λ z. Took m.from ∷ z) (gifts_done m.from m.gifts)
    ∙ (ap (λ z. Took m.from ∷ given_to m.from z) is.to_is
    ∙ (ap (λ z. Took z ∷ given_to z (due m.found a.to)) is.from_is
    ∙ (ap (λ z. Took a.from ∷ z) (due_given a.from a.to ((stat_of_words m.found).count == 0))
    ∙ ap (λ b. Took a.from ∷ (cond b (given_to a.from a.to) [] ++ [])) (sym e))))

pub moved_then : (counted : ℕ → Bool) (xs ys : List Moving) → moved_by counted (xs ++ ys) ≡ moved_by counted xs ++ moved_by counted ys
moved_then counted [] ys = refl
moved_then counted (x ∷ xs) ys =
    let given : List Did = cond (counted x.from) (given_to x.from x.to) [] in
    ap (λ z. Took x.from ∷ (given ++ z)) (moved_then counted xs ys) ∙ ap (λ z. Took x.from ∷ z) (sym (append_assoc given (moved_by counted xs) (moved_by counted ys)))

pub asked_then : (xs ys : List Ask) → moves_asked (xs ++ ys) ≡ moves_asked xs ++ moves_asked ys
asked_then [] ys = refl
asked_then (x ∷ xs) ys = ap (λ z. record { from = x.from; to = x.to } ∷ z) (asked_then xs ys)

signed_then : (xs ys : List Sign) → signed_by (signs_asked (xs ++ ys)) ≡ signed_by (signs_asked xs) ++ signed_by (signs_asked ys)
signed_then [] ys = refl
signed_then (Releases row ∷ xs) ys = ap (λ z. did (says.Free row 0) ++ z) (signed_then xs ys)
signed_then (Tags row content ∷ xs) ys = ap (λ z. did (says.Tag row 0) ++ z) (signed_then xs ys)

sign_done : (sign : Sign) (version : ℕ) → did (sign_entry sign version) ++ [] ≡ signed_by (signs_asked (sign ∷ []))
sign_done (Releases row) version = refl
sign_done (Tags row content) version = refl

pub signs_done : (ms : List Made) → dids (signs_entries ms) ≡ signed_by (signs_asked (signs_of ms))
signs_done [] = refl
signs_done (m ∷ ms) =
    dids_then (signs_entries ms) (made_entries m)
    ∙ (ap (λ z. z ++ dids (made_entries m)) (signs_done ms)
    ∙ (ap (λ z. signed_by (signs_asked (signs_of ms)) ++ z) (sign_done m.sign m.version) ∙ sym (signed_then (signs_of ms) (m.sign ∷ []))))

pub sets_done : (words : List Word) (fs : List Flagging) → dids (flagging_entries words fs) ≡ flagged_by (sets_asked fs)
sets_done words [] = refl
sets_done words (f ∷ fs) = ap (λ z. did (says.Set f.word 0 f.flags) ++ z) (sets_done words fs)
