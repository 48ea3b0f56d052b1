-- Signs one after another, and the parts of an action put together.
use Rattle.std.proofs.Common.{ℕ, ◌≡◌, ◌+◌, List, [], ◌∷◌, ◌++◌, refl, ap, sym, ◌∙◌, subst}
use Rattle.std.proofs.lemmas.List.{append_assoc, append-nil}
use Rattle.pfs_event.specs.declared.entry.Entry.{Entry}
use Rattle.pfs_event.specs.declared.entry.Entry.TheVariants as says
use Rattle.pfs_levels.specs.Calls.{Call, Puts, Takes, Frees, Opening, Goes}
use Rattle.pfs_event.specs.Logs.{Journal}
use Rattle.pfs_levels.specs.declared.answers.Word.{Word}
use Rattle.pfs_levels.specs.Moves.{Ask, Did, Moved, moves_entries}
use Rattle.pfs_levels.proofs.MoveLists.{did_none, did_then, did_as, goes_two}
use Rattle.pfs_admin.specs.Works.{Sign, Releases, Tags, Made, made_calls, made_entries, signs_calls, signs_entries, signs_of, Signed, Flagging, flagging_calls, flagging_entries, Work, no_work, Worked}

pub signed_release : (row version : ℕ) (found : List ℕ) (old new : Journal) (was mid now : Opening → List Call → Type 0)
    → Goes was mid (Takes row version found ∷ []) → Goes mid now (Frees row version ∷ [])
    → new.entries ≡ old.entries ++ says.Free row version ∷ [] → Signed (Releases row ∷ []) old new was now
signed_release row version found old new was mid now t f e = record {
  made = record { sign = Releases row; version = version; found = found } ∷ [];
  signs_are = refl;
  did = record { entries_are = e; goes = goes_two (Takes row version found) (Frees row version) was mid now t f };
}

pub signed_tag : (row version next : ℕ) (found content : List ℕ) (old new : Journal) (was mid now : Opening → List Call → Type 0)
    → Goes was mid (Takes row version found ∷ []) → Goes mid now (Puts row content next ∷ []) → next ≡ version + 1
    → new.entries ≡ old.entries ++ says.Tag row next ∷ [] → Signed (Tags row content ∷ []) old new was now
signed_tag row version next found content old new was mid now t p n e = record {
  made = record { sign = Tags row content; version = version; found = found } ∷ [];
  signs_are = refl;
  did = record {
    entries_are = subst (λ z. new.entries ≡ old.entries ++ says.Tag row z ∷ []) n e;
    goes = goes_two (Takes row version found) (Puts row content (version + 1)) was mid now t
        (subst (λ z. Goes mid now (Puts row content z ∷ [])) n p);
  };
}

calls_then : (ys xs : List Made) → signs_calls (ys ++ xs) ≡ signs_calls ys ++ signs_calls xs
calls_then [] xs = refl
calls_then (y ∷ ys) xs = ap (λ z. made_calls y ++ z) (calls_then ys xs) ∙ sym (append_assoc (made_calls y) (signs_calls ys) (signs_calls xs))

entries_then : (ys xs : List Made) → signs_entries (ys ++ xs) ≡ signs_entries xs ++ signs_entries ys
entries_then [] xs = sym (append-nil (signs_entries xs))
entries_then (y ∷ ys) xs =
    ap (λ z. z ++ made_entries y) (entries_then ys xs) ∙ append_assoc (signs_entries xs) (signs_entries ys) (made_entries y)

of_then : (ys xs : List Made) → signs_of (ys ++ xs) ≡ signs_of xs ++ signs_of ys
of_then [] xs = sym (append-nil (signs_of xs))
of_then (y ∷ ys) xs = ap (λ z. z ++ y.sign ∷ []) (of_then ys xs) ∙ append_assoc (signs_of xs) (signs_of ys) (y.sign ∷ [])

pub signed_none : (log : Journal) (was : Opening → List Call → Type 0) → Signed [] log log was was
signed_none log was = record { made = []; signs_are = refl; did = did_none log was }

pub signed_then : (a b : List Sign) (old at new : Journal) (was mid now : Opening → List Call → Type 0) → Signed a old at was mid → Signed b at new mid now
    → Signed (a ++ b) old new was now
signed_then a b old at new was mid now p q = record {
  made = q.made ++ p.made;
  signs_are = of_then q.made p.made ∙ (ap (λ z. z ++ signs_of q.made) p.signs_are ∙ ap (λ z. a ++ z) q.signs_are);
  did = did_as _ _ _ _ old new was now (sym (calls_then q.made p.made)) (sym (entries_then q.made p.made))
      (did_then _ _ _ _ old at new was mid now p.did q.did);
}

-- moves, then signs, then words
pub worked_all : (asks : List Ask) (signs : List Sign) (flags : List Flagging) (words : List Word) (old a b new : Journal) (was m n now : Opening → List Call → Type 0)
    → Moved asks old a was m → Signed signs a b m n → Did (flagging_calls words flags) (flagging_entries words flags) b new n now
    → Worked (record { moves = asks; signs = signs; flags = flags }) words [] old new was now
worked_all asks signs flags words old a b new was m n now p q r = record {
  moves = p.moves;
  made = q.made;
  are_moves = p.are_moves;
  signs_are = q.signs_are;
  did = did_as _ _ _ _ old new was now refl
      (append_assoc (moves_entries p.moves) (signs_entries q.made) (flagging_entries words flags))
      (did_then _ _ _ _ old b new was n now (did_then _ _ _ _ old a b was m n p.did q.did) r);
}

pub moved_none : (log : Journal) (was : Opening → List Call → Type 0) → Moved [] log log was was
moved_none log was = record { moves = []; are_moves = refl; did = did_none log was }

-- behind an entry that no call goes with
pub worked_behind : (work : Work) (words : List Word) (entry : Entry) (old mid new : Journal) (was now : Opening → List Call → Type 0)
    → mid.entries ≡ old.entries ++ entry ∷ [] → Worked work words [] mid new was now → Worked work words (entry ∷ []) old new was now
worked_behind work words entry old mid new was now e w = record {
  moves = w.moves;
  made = w.made;
  are_moves = w.are_moves;
  signs_are = w.signs_are;
  did = record {
    entries_are = w.did.entries_are
        ∙ (ap (λ z. z ++ (moves_entries w.moves ++ (signs_entries w.made ++ flagging_entries words work.flags))) e
        ∙ append_assoc old.entries (entry ∷ []) (moves_entries w.moves ++ (signs_entries w.made ++ flagging_entries words work.flags)));
    goes = w.did.goes;
  };
}

-- words alone are set
pub worked_words : (words : List Word) (flags : List Flagging) (old new : Journal) (was now : Opening → List Call → Type 0)
    → Did (flagging_calls words flags) (flagging_entries words flags) old new was now
    → Worked (record { moves = []; signs = []; flags = flags }) words [] old new was now
worked_words words flags old new was now did = record {
  moves = [];
  made = [];
  are_moves = refl;
  signs_are = refl;
  did = did_as _ _ _ _ old new was now (sym (append-nil (flagging_calls words flags))) refl did;
}

pub worked_nothing : (words : List Word) (log : Journal) (was : Opening → List Call → Type 0) → Worked no_work words [] log log was was
worked_nothing words log was = record { moves = []; made = []; are_moves = refl; signs_are = refl; did = did_none log was }
