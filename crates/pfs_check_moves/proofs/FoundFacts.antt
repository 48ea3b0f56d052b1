-- What the takes of an action find, and what is due of it by that.
use Rattle.std.proofs.Common.{◌≡◌, refl, ℕ, zero, suc, ◌+◌, ◌-◌, ◌<◌, ◌==◌, Bool, true, false, cond, List, [], ◌∷◌, ◌++◌, get_or, length, take, sym, ◌∙◌, ap, subst, inl, inr, arith, Option, Some, None, unwrap_or}
use Rattle.std.specs.List.{AllZip, flat_map}
use Rattle.std.proofs.lemmas.Bool.{eqb-true}
use Rattle.std.proofs.lemmas.List.{take_more}
use Rattle.pfs_event.specs.declared.entry.Entry.{Entry}
use Rattle.pfs_event.specs.declared.entry.Entry.TheVariants as says
use Rattle.pfs_model.specs.ActionAsks.{Did, Move, Took, did, given_to, moved_by}
use Rattle.pfs_model.specs.Actions.{IsAmong}
use Rattle.pfs_model.specs.Chains.{Each}
use Rattle.pfs_check_blank.specs.AllAsked.{TellsOne}
use Rattle.pfs_check_contents.specs.declared.shelf.Shelf.{Shelf}
use Rattle.pfs_law_made.specs.MadeContents.{counts_at}
use Rattle.pfs_check_moves.specs.DueMoves.{AreAsDue, IsAsDue, Misses}
use Rattle.pfs_check_moves.specs.FoundTakes.{FindsAs, counted_by, first_of, found_at, found_in}
use Rattle.pfs_check_moves.proofs.CompareFacts.{zip_shorter}

-- what the takes so far find, with one entry more
first_none : (found : Option Bool) → first_of found None ≡ found
first_none None = refl
first_none (Some found) = refl

first_assoc : (one other third : Option Bool) → first_of one (first_of other third) ≡ first_of (first_of one other) third
first_assoc None other third = refl
first_assoc (Some found) other third = refl

found_behind : (shelf : Shelf) (xs : List Entry) (entry : Entry) (row : ℕ)
    → found_in shelf (xs ++ entry ∷ []) row ≡ first_of (found_in shelf xs row) (found_at shelf entry row)
found_behind shelf [] entry row = first_none (found_at shelf entry row)
found_behind shelf (x ∷ xs) entry row =
    ap (first_of (found_at shelf x row)) (found_behind shelf xs entry row)
    ∙ first_assoc (found_at shelf x row) (found_in shelf xs row) (found_at shelf entry row)

pub found_more : (shelf : Shelf) (xs : List Entry) (at : ℕ) (fill : Entry) (old new : ℕ → Option Bool) → at < length xs
    → ((row : ℕ) → new row ≡ first_of (old row) (found_at shelf (get_or xs at fill) row)) → ((row : ℕ) → old row ≡ found_in shelf (take at xs) row)
    → (row : ℕ) → new row ≡ found_in shelf (take (at + 1) xs) row
found_more shelf xs at fill old new high grown so row =
    grown row ∙ ap (λ z. first_of z (found_at shelf (get_or xs at fill) row)) (so row)
    ∙ sym (found_behind shelf (take at xs) (get_or xs at fill) row) ∙ ap (λ z. found_in shelf z row) (sym (take_more xs at fill high))

-- entries that each do one thing
pub each_taken : {A : Type 0} (fact : A → Type 0) (n : ℕ) (xs : List A) → Each fact xs → Each fact (take n xs)
each_taken fact zero xs h = tt
each_taken fact (suc n) [] h = tt
each_taken fact (suc n) (x ∷ xs) h = (h.0, each_taken fact n xs h.1)

pub take_did : (n : ℕ) (xs : List Entry) → Each TellsOne xs → take n (flat_map did xs) ≡ flat_map did (take n xs)
take_did zero xs h = refl
take_did (suc n) [] h = refl
take_did (suc n) (x ∷ xs) h = on (did x) h.0.1 (take_did n xs h.1) where
  on : (ds : List Did) → ds ≡ h.0.0 ∷ [] → take n (flat_map did xs) ≡ flat_map did (take n xs)
      → take (suc n) (ds ++ flat_map did xs) ≡ ds ++ flat_map did (take n xs)
  on ds e rest = subst (λ z. take (suc n) (z ++ flat_map did xs) ≡ z ++ flat_map did (take n xs)) (sym e) (ap (λ z. h.0.0 ∷ z) rest)

pub length_did : (xs : List Entry) → Each TellsOne xs → length (flat_map did xs) ≡ length xs
length_did [] h = refl
length_did (x ∷ xs) h = subst (λ z. length (z ++ flat_map did xs) ≡ suc (length xs)) (sym h.0.1) (ap suc (length_did xs h.1))

module _ (shelf : Shelf) (counted : ℕ → Bool) where
  pub due_alike : (xs ys : List Entry) → AllZip (IsAsDue shelf counted) xs ys → flat_map did xs ≡ flat_map did ys
  due_alike [] [] z = refl
  due_alike [] (y ∷ ys) z = absurd z
  due_alike (x ∷ xs) [] z = absurd z
  due_alike (x ∷ xs) (y ∷ ys) z = ap (λ w. w ++ flat_map did xs) z.0.0 ∙ ap (λ w. did y ++ w) (due_alike xs ys z.1)

  pub due_finds : (xs ys : List Entry) → AllZip (IsAsDue shelf counted) xs ys → Each (FindsAs shelf counted) ys
  due_finds [] [] z = tt
  due_finds [] (y ∷ ys) z = absurd z
  due_finds (x ∷ xs) [] z = absurd z
  due_finds (x ∷ xs) (y ∷ ys) z = (z.0.1, due_finds xs ys z.1)

  alike_due : (xs ys : List Entry) → Each TellsOne xs → Each TellsOne ys → flat_map did xs ≡ flat_map did ys → Each (FindsAs shelf counted) ys
      → AllZip (IsAsDue shelf counted) xs ys
  alike_due [] [] t u e f = tt
  alike_due [] (y ∷ ys) t u e f = absurd (none (did y) u.0.1 e) where
    none : (ds : List Did) → ds ≡ u.0.0 ∷ [] → [] ≡ ds ++ flat_map did ys → ⊥
    none [] q e = absurd (cc)
    none (d ∷ ds) q e = absurd (cc)
  alike_due (x ∷ xs) [] t u e f = absurd (none (did x) t.0.1 e) where
    none : (ds : List Did) → ds ≡ t.0.0 ∷ [] → ds ++ flat_map did xs ≡ [] → ⊥
    none [] q e = absurd (cc)
    none (d ∷ ds) q e = absurd (cc)
  alike_due (x ∷ xs) (y ∷ ys) t u e f = ((t.0.1 ∙ ap (λ z. z ∷ []) heads ∙ sym u.0.1, f.0), alike_due xs ys t.1 u.1 tails f.1) where
    both : t.0.0 ∷ flat_map did xs ≡ u.0.0 ∷ flat_map did ys
    both = sym (ap (λ z. z ++ flat_map did xs) t.0.1) ∙ e ∙ ap (λ z. z ++ flat_map did ys) u.0.1

    first : (d g : Did) (ds gs : List Did) → d ∷ ds ≡ g ∷ gs → d ≡ g
    first d g ds gs e = cc

    rest : (d g : Did) (ds gs : List Did) → d ∷ ds ≡ g ∷ gs → ds ≡ gs
    rest d g ds gs e = cc

    heads : t.0.0 ≡ u.0.0
    heads = first t.0.0 u.0.0 (flat_map did xs) (flat_map did ys) both

    tails : flat_map did xs ≡ flat_map did ys
    tails = rest t.0.0 u.0.0 (flat_map did xs) (flat_map did ys) both

-- what is said of the rows that are taken is what their first takes find
agrees : (shelf : Shelf) (counted : ℕ → Bool) (n : ℕ) (xs : List Entry) (row : ℕ) → Each (FindsAs shelf counted) (take n xs)
    → IsAmong (Took row) (flat_map did (take n xs)) → counted row ≡ counted_by shelf xs row
agrees shelf counted zero xs row f i = absurd i
agrees shelf counted (suc n) [] row f i = absurd i
agrees shelf counted (suc n) (x ∷ xs) row f i = on x f.0 i (agrees shelf counted n xs row f.1) where
  on : (entry : Entry) → FindsAs shelf counted entry → IsAmong (Took row) (did entry ++ flat_map did (take n xs))
      → (IsAmong (Took row) (flat_map did (take n xs)) → counted row ≡ counted_by shelf xs row)
      → counted row ≡ unwrap_or (first_of (found_at shelf entry row) (found_in shelf xs row)) false
  on (says.Take at version) h i go = by (at == row) refl i where
    self : (m n : ℕ) → m ≡ n → (m == n) ≡ false → ⊥
    self m n e f = grind arith

    by : (b : Bool) → (at == row) ≡ b → IsAmong (Took row) (Took at ∷ flat_map did (take n xs))
        → counted row ≡ unwrap_or (first_of (cond b (Some (counts_at shelf at (version - 1))) None) (found_in shelf xs row)) false
    by true e i = ap counted (sym (eqb-true at row e)) ∙ h
    by false e (inl q) = absurd (self at row (row_of q) e) where
      row_of : Took at ≡ Took row → at ≡ row
      row_of q = cc
    by false e (inr j) = go j
  on (says.Give at version from) h (inl q) go = absurd (cc)
  on (says.Give at version from) h (inr j) go = go j
  on (says.Free at version) h (inl q) go = absurd (cc)
  on (says.Free at version) h (inr j) go = go j
  on (says.Tag at version) h (inl q) go = absurd (cc)
  on (says.Tag at version) h (inr j) go = go j
  on (says.Set word version flags) h (inl q) go = absurd (cc)
  on (says.Set word version flags) h (inr j) go = go j
  on _ h j go = go j

finds_too : (shelf : Shelf) (one other : ℕ → Bool) (xs : List Entry) → ((row : ℕ) → IsAmong (Took row) (flat_map did xs) → one row ≡ other row)
    → Each (FindsAs shelf one) xs → Each (FindsAs shelf other) xs
finds_too shelf one other [] same f = tt
finds_too shelf one other (x ∷ xs) same f = (on x f.0 (λ row i. same row i), finds_too shelf one other xs (λ row i. same row (behind (Took row) (did x) i)) f.1) where
  behind : (d : Did) (ds : List Did) → IsAmong d (flat_map did xs) → IsAmong d (ds ++ flat_map did xs)
  behind d [] i = i
  behind d (g ∷ ds) i = inr (behind d ds i)

  on : (entry : Entry) → FindsAs shelf one entry → ((row : ℕ) → IsAmong (Took row) (did entry ++ flat_map did xs) → one row ≡ other row) → FindsAs shelf other entry
  on (says.Take row version) h same = sym (same row (inl refl)) ∙ h
  on _ h same = tt

-- what is due up to a place goes by what is said of the rows that are taken up to there
moved_same : (one other : ℕ → Bool) (moves : List Move) (rest : List Did) (n : ℕ)
    → ((row : ℕ) → IsAmong (Took row) (take n (moved_by one moves ++ rest)) → one row ≡ other row)
    → take n (moved_by other moves ++ rest) ≡ take n (moved_by one moves ++ rest)
moved_same one other moves rest zero same = refl
moved_same one other [] rest (suc n) same = refl
moved_same one other (move ∷ moves) rest (suc n) same =
    ap (λ z. Took move.from ∷ z)
    (ap (λ b. take n ((cond b (given_to move.from move.to) [] ++ moved_by other moves) ++ rest)) (sym (same move.from (inl refl)))
    ∙ behind (cond (one move.from) (given_to move.from move.to) []) n (λ row i. same row (inr i)) (λ m h. moved_same one other moves rest m h)) where
      behind : (ds : List Did) (n : ℕ) → ((row : ℕ) → IsAmong (Took row) (take n ((ds ++ moved_by one moves) ++ rest)) → one row ≡ other row)
          → ((m : ℕ) → ((row : ℕ) → IsAmong (Took row) (take m (moved_by one moves ++ rest)) → one row ≡ other row)
          → take m (moved_by other moves ++ rest) ≡ take m (moved_by one moves ++ rest))
          → take n ((ds ++ moved_by other moves) ++ rest) ≡ take n ((ds ++ moved_by one moves) ++ rest)
      behind [] n same go = go n same
      behind (d ∷ ds) zero same go = refl
      behind (d ∷ ds) (suc n) same go = ap (λ z. d ∷ z) (behind ds n (λ row i. same row (inr i)) go)

module _ (shelf : Shelf) (moves : List Move) (signs : List Did) (due printed : List Entry) (tell : Each TellsOne due) (own : Each TellsOne printed)
    (dues : flat_map did due ≡ moved_by (counted_by shelf printed) moves ++ signs) where
  -- where the first ones aren't as they are due, nothing else that may be said of the takes makes them so
  pub none_finds : (at : ℕ) → Misses shelf (counted_by shelf printed) due printed at → (counted : ℕ → Bool) → Each (FindsAs shelf counted) (take (at + 1) printed)
      → take (at + 1) (moved_by counted moves ++ signs) ≡ take (at + 1) (flat_map did printed) → ⊥
  none_finds at miss counted f e =
      miss.wrong (alike_due shelf (counted_by shelf printed) (take (at + 1) due) (take (at + 1) printed)
      (each_taken TellsOne (at + 1) due tell) (each_taken TellsOne (at + 1) printed own) alike
      (finds_too shelf counted (counted_by shelf printed) (take (at + 1) printed) same f)) where
        same : (row : ℕ) → IsAmong (Took row) (flat_map did (take (at + 1) printed)) → counted row ≡ counted_by shelf printed row
        same row i = agrees shelf counted (at + 1) printed row f i

        taken : (row : ℕ) → IsAmong (Took row) (take (at + 1) (moved_by counted moves ++ signs)) → counted row ≡ counted_by shelf printed row
        taken row i = same row (subst (IsAmong (Took row)) (e ∙ take_did (at + 1) printed own) i)

        alike : flat_map did (take (at + 1) due) ≡ flat_map did (take (at + 1) printed)
        alike =
            sym (take_did (at + 1) due tell) ∙ ap (take (at + 1)) dues
            ∙ moved_same counted (counted_by shelf printed) moves signs (at + 1) taken ∙ e ∙ take_did (at + 1) printed own

  -- and before they are by what the first takes find
  pub all_before : (at other : ℕ) → Misses shelf (counted_by shelf printed) due printed at → other < at
      → Each (FindsAs shelf (counted_by shelf printed)) (take (other + 1) printed)
      × (take (other + 1) (moved_by (counted_by shelf printed) moves ++ signs) ≡ take (other + 1) (flat_map did printed))
  all_before at other miss less = (due_finds shelf (counted_by shelf printed) (take (other + 1) due) (take (other + 1) printed) zip, alike) where
    zip : AreAsDue shelf (counted_by shelf printed) (other + 1) due printed
    zip = zip_shorter (IsAsDue shelf (counted_by shelf printed)) due printed (other + 1) at (omega (arith, less)) miss.before

    alike : take (other + 1) (moved_by (counted_by shelf printed) moves ++ signs) ≡ take (other + 1) (flat_map did printed)
    alike =
        sym (ap (take (other + 1)) dues) ∙ take_did (other + 1) due tell
        ∙ due_alike shelf (counted_by shelf printed) (take (other + 1) due) (take (other + 1) printed) zip ∙ sym (take_did (other + 1) printed own)
