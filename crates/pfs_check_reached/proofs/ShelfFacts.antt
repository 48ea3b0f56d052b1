-- Where all changes are made, what is kept of them is what is made.
use Rattle.std.proofs.Common.{◌≡◌, refl, ℕ, ◌+◌, ◌<◌, ◌≤◌, ◌==◌, Bool, true, false, cond, List, [], ◌∷◌, ◌++◌, get_or, length, sym, ◌∙◌, ap, subst, ◌⊎◌, inl, inr, arith, Option, Some, None}
use Rattle.std.specs.Prelude.{is_some, slice_get}
use Rattle.std.specs.BTreeMap.{BTreeMap, get}
use Rattle.std.proofs.lemmas.Bool.{eqb-true}
use Rattle.std.proofs.lemmas.Bool.Decides.{nat_tests}
use Rattle.std.proofs.lemmas.Option.{same_Some, slice_get-get_or, slice_get_within}
use Rattle.pfs_event.specs.declared.entry.Entry.{Entry}
use Rattle.pfs_event.specs.declared.entry.Entry.TheVariants as says
use Rattle.pfs_model.specs.declared.changes.Change.{Change}
use Rattle.pfs_model.specs.Actions.{IsAmong}
use Rattle.pfs_model.specs.Chains.{change_at, each_of, row_change}
use Rattle.pfs_model.specs.Contents.{Given, opening_words}
use Rattle.pfs_model.specs.EntryPlaces.{Placed}
use Rattle.pfs_check_contents.specs.declared.changes.RowChange.{RowChange}
use Rattle.pfs_check_contents.specs.declared.shelf.Shelf.{Shelf}
use Rattle.pfs_check_contents.specs.ChangeReplays.{change_of}
use Rattle.pfs_check_contents.specs.KeptContents.{IsHad, change_cmp, content_at, or_zeros}
use Rattle.pfs_check_contents.specs.OrderlyChanges.{StandsAt}
use Rattle.pfs_check_contents.specs.PlacedChanges.{AreMadeOf, IsChangeOf, changing}
use Rattle.pfs_check_faults.specs.ActionFaults.{IsMade}
use Rattle.pfs_law_made.specs.MadeContents.{IsKeptAsMade}
use Rattle.pfs_check_reached.specs.MadeWords.{TellsMade, told_in}
use Rattle.pfs_check_reached.specs.ReachedChanges.{IsTold}
use Rattle.pfs_check_reached.specs.declared.reached.Reached.{Reached}
use Rattle.pfs_check_reached.proofs.WalkFacts.{changing_there, head, of_change}

-- so many are made
abbrev pub AreTold : List RowChange → BTreeMap Change (List ℕ) → ℕ → Type 0
AreTold changes kept count = (place : ℕ) (one : RowChange) → place < count → StandsAt changes place one → IsTold kept one

some_told : (kept : BTreeMap Change (List ℕ)) (one : RowChange) (told : Option (List ℕ)) → told ≡ told_in kept one.row one.version → is_some told ≡ true → IsTold kept one
some_told kept one None e n = absurd (cc)
some_told kept one (Some words) e n = record { words = words; told = sym e }

pub told_one : (changes : List RowChange) (kept : BTreeMap Change (List ℕ)) (at : ℕ) (fill : RowChange) (told : Option (List ℕ)) → at < length changes
    → told ≡ told_in kept (get_or changes at fill).row (get_or changes at fill).version → is_some told ≡ true → AreTold changes kept at
    → AreTold changes kept (at + 1)
told_one changes kept at fill told high e n so place one low g = on (place == at) refl where
  on : (b : Bool) → (place == at) ≡ b → IsTold kept one
  on true q =
      subst (IsTold kept) (same_Some (get_or changes at fill) one
      (sym (slice_get-get_or changes at fill high) ∙ ap (slice_get changes) (sym (eqb-true place at q)) ∙ g)) (some_told kept (get_or changes at fill) told e n)
  on false q = so place one (less place at low q) g where
    less : (m n : ℕ) → m < n + 1 → (m == n) ≡ false → m < n
    less m n l f = grind (arith, nat_tests)

-- the content that is kept
told_content : (shelf : Shelf) (row version : ℕ) (words : List ℕ) → told_in shelf.kept row version ≡ Some words → content_at shelf row version ≡ words
told_content shelf row version words e = on (version == 0) e where
  on : (b : Bool) → cond b (Some (opening_words row)) (get change_cmp shelf.kept (change_at row version)) ≡ Some words
      → cond b (opening_words row) (or_zeros (get change_cmp shelf.kept (change_at row version))) ≡ words
  on true f = same_Some (opening_words row) words f
  on false f = ap or_zeros f

of_list : (xs : List Placed) (change : Change) → IsAmong change (each_of row_change xs)
    → (place : Placed) × IsAmong place xs × (row_change place.entry ≡ change ∷ [])
of_list [] change i = absurd i
of_list (x ∷ xs) change i = on (row_change x.entry) (one x.entry) refl i (of_list xs change) where
  one : (entry : Entry) → (row_change entry ≡ []) ⊎ ((c : Change) × (row_change entry ≡ c ∷ []))
  one (says.Add row version) = inr (change_at row version, refl)
  one (says.Ring row version) = inr (change_at row version, refl)
  one (says.Long row version ticket) = inr (change_at row version, refl)
  one (says.Take row version) = inr (change_at row version, refl)
  one (says.Give row version from) = inr (change_at row version, refl)
  one (says.Tag row version) = inr (change_at row version, refl)
  one _ = inl refl

  behind : (place : Placed) × IsAmong place xs × (row_change place.entry ≡ change ∷ []) → (place : Placed) × IsAmong place (x ∷ xs) × (row_change place.entry ≡ change ∷ [])
  behind h = (h.0, inr h.1, h.2)

  on : (cs : List Change) → (cs ≡ []) ⊎ ((c : Change) × (cs ≡ c ∷ [])) → row_change x.entry ≡ cs → IsAmong change (cs ++ each_of row_change xs)
      → (IsAmong change (each_of row_change xs) → (place : Placed) × IsAmong place xs × (row_change place.entry ≡ change ∷ []))
      → (place : Placed) × IsAmong place (x ∷ xs) × (row_change place.entry ≡ change ∷ [])
  on [] k q j go = behind (go j)
  on (c ∷ cs) (inl k) q j go = absurd (cc)
  on (c ∷ []) (inr k) q (inl e) go = (x, inl refl, q ∙ ap (λ z. z ∷ []) e)
  on (c ∷ []) (inr k) q (inr j) go = behind (go j)
  on (c ∷ d ∷ cs) (inr k) q j go = absurd (no k.1) where
    no : c ∷ d ∷ cs ≡ k.0 ∷ [] → ⊥
    no e = cc

pub all_kept : (changes : List RowChange) (reached : Reached) (shelf : Shelf) (at : ℕ) → length changes ≤ at → shelf.kept ≡ reached.kept
    → AreTold changes reached.kept at → (given : Given) (all : List Placed) → AreMadeOf given all changes → TellsMade given all reached → IsKeptAsMade given all shelf
all_kept changes reached shelf at over same told given all made tells = record { made = had; only = only } where
  only : (row version : ℕ) (words : List ℕ) → IsMade given all row version words → content_at shelf row version ≡ words
  only row version words m =
      told_content shelf row version words (subst (λ z. told_in z row version ≡ Some words) (sym same) (tells.only row version words m))

  of_told : (row version : ℕ) (words : List ℕ) → told_in reached.kept row version ≡ Some words → IsMade given all row version (content_at shelf row version)
  of_told row version words e =
      let m : IsMade given all row version words = tells.made row version words e in
      subst (IsMade given all row version) (sym (only row version words m)) m

  had : (row version : ℕ) → IsHad all row version → IsMade given all row version (content_at shelf row version)
  had row version (inl e) =
      subst (λ n. IsMade given all row n (content_at shelf row n)) (sym e) (of_told row 0 (opening_words row) refl)
  had row version (inr i) =
      let p : (place : Placed) × IsAmong place all × (row_change place.entry ≡ change_at row version ∷ []) = of_list all (change_at row version) i in
      let h : (i : ℕ) × (one : RowChange) × StandsAt changes i one × IsChangeOf given p.0 one =
      of_change given (changing all) changes p.0 made (changing_there all p.0 (change_at row version) p.1 p.2) in
      let is : change_of h.1 ≡ change_at row version = head (sym h.3.change ∙ p.2) in
      let low : h.0 < length changes = slice_get_within changes h.0 h.1 h.2 in
      let t : IsTold reached.kept h.1 = told h.0 h.1 (omega (arith, low, over)) h.2 in
      of_told row version t.words (subst (λ (z : Change). told_in reached.kept z.row z.version ≡ Some t.words) is t.told)
