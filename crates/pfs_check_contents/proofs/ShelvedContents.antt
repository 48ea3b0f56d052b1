-- What was replayed of all changes of entries has their contents.
use Rattle.std.proofs.Common.{◌≡◌, refl, ℕ, ◌+◌, ◌<◌, ◌≤◌, Bool, true, false, cond, List, [], ◌∷◌, ◌++◌, map, length, sym, ◌∙◌, ap, subst, ◌⊎◌, inl, inr, arith}
use Rattle.std.specs.Prelude.{slice_get, Some}
use Rattle.std.specs.List.{AllZip}
use Rattle.pfs_model.specs.declared.changes.Change.{Change}
use Rattle.pfs_model.specs.Actions.{IsAmong}
use Rattle.pfs_model.specs.Chains.{Each, change_at, each_of, row_change}
use Rattle.pfs_model.specs.Contents.{AreContents, Given}
use Rattle.pfs_model.specs.EntryPlaces.{Placed, chosen}
use Rattle.pfs_model.specs.PlainAgreement.{last_of}
use Rattle.pfs_law_replay.specs.ContentReplays.{IsReplayOf, WholeLaw, content_in}
use Rattle.pfs_check_contents.specs.declared.changes.RowChange.{RowChange}
use Rattle.pfs_check_contents.specs.declared.shelf.Shelf.{Shelf}
use Rattle.pfs_check_contents.specs.ChangeReplays.{AllFollow, IsShelfFor, change_of, done_of, last_in}
use Rattle.pfs_check_contents.specs.KeptContents.{IsHad, IsShelfOf, content_at}
use Rattle.pfs_check_contents.specs.PlacedChanges.{AreMadeOf, IsChangeOf, ShelvedLaw, changing, is_changing, is_some_of}
use Rattle.pfs_check_contents.proofs.PickedPlaces.{IsPicked, among_at, at_among, picked_from, picked_there, picked_zip, zip_length}
use Rattle.pfs_check_contents.proofs.ReplayedChanges.{last_most, same_changes, same_replay, same_words}

-- an entry that changes a row is among those that do
pub changing_there : (places : List Placed) (place : Placed) → IsAmong place places → (row_change place.entry ≡ []) ⊎ IsAmong place (changing places)
changing_there [] place i = absurd i
changing_there (p ∷ ps) place (inl e) = subst (λ (z : Placed). (row_change z.entry ≡ []) ⊎ IsAmong z (changing (p ∷ ps))) e (on (row_change p.entry) refl) where
  on : (changes : List Change) → row_change p.entry ≡ changes → (row_change p.entry ≡ []) ⊎ IsAmong p (changing (p ∷ ps))
  on [] q = inl q
  on (change ∷ changes) q = inr (subst (λ z. IsAmong p (cond z (p ∷ []) [] ++ changing ps)) (sym (ap is_some_of q)) (inl refl))
changing_there (p ∷ ps) place (inr i) = on (changing_there ps place i) where
  back : (b : Bool) → IsAmong place (changing ps) → IsAmong place (cond b (p ∷ []) [] ++ changing ps)
  back true j = inr j
  back false j = j

  on : (row_change place.entry ≡ []) ⊎ IsAmong place (changing ps) → (row_change place.entry ≡ []) ⊎ IsAmong place (changing (p ∷ ps))
  on (inl q) = inl q
  on (inr j) = inr (back (is_changing p) j)

pub changing_own : (places : List Placed) (place : Placed) → IsAmong place (changing places) → IsAmong place places
changing_own [] place i = absurd i
changing_own (p ∷ ps) place i = on (is_changing p) i (changing_own ps place) where
  on : (b : Bool) → IsAmong place (cond b (p ∷ []) [] ++ changing ps) → (IsAmong place (changing ps) → IsAmong place ps) → IsAmong place (p ∷ ps)
  on true (inl e) rest = inl e
  on true (inr j) rest = inr (rest j)
  on false j rest = inr (rest j)

each_among : {F : Placed → Type 0} (places : List Placed) → ((place : Placed) → IsAmong place places → F place) → Each F places
each_among [] h = tt
each_among (p ∷ ps) h = (h p (inl refl), each_among ps (λ place i. h place (inr i)))

-- all changes of the entries were replayed
whole : (all : List Placed) (given : Given) (changes : List RowChange) (order : List ℕ) → AreMadeOf given all changes
    → ((place : ℕ) → place < length changes → IsAmong place order) → (place : Placed) → IsAmong place all
    → (row_change place.entry ≡ []) ⊎ IsAmong place (done_of (changing all) order)
whole all given changes order made covers place i = on (changing_there all place i) where
  on : (row_change place.entry ≡ []) ⊎ IsAmong place (changing all) → (row_change place.entry ≡ []) ⊎ IsAmong place (done_of (changing all) order)
  on (inl q) = inl q
  on (inr j) =
      let h : (at : ℕ) × (at < length (changing all)) × (slice_get (changing all) at ≡ Some place) = among_at (changing all) place j in
      let many : length (changing all) ≡ length changes = zip_length (IsChangeOf given) (changing all) changes made in
      let l : h.0 < length (changing all) = h.1 in
      inr (picked_there (changing all) order [] h.0 place (covers h.0 (omega (arith, l, many))) h.2)

own : (all : List Placed) (order : List ℕ) (place : Placed) → IsAmong place (done_of (changing all) order) → IsAmong place all
own all order place i = on (picked_from (changing all) order [] place i) where
  on : IsPicked (changing all) order place ⊎ IsAmong place [] → IsAmong place all
  on (inl h) = changing_own all place (at_among (changing all) h.place place h.there)
  on (inr j) = absurd j

change_among : (done : List RowChange) (change : Change) → IsAmong change (map change_of done)
    → (one : RowChange) × IsAmong one done × (change_of one ≡ change)
change_among [] change i = absurd i
change_among (c ∷ done) change (inl e) = (c, inl refl, e)
change_among (c ∷ done) change (inr i) = let h : (one : RowChange) × IsAmong one done × (change_of one ≡ change) = change_among done change i in (h.0, inr h.1, h.2)

each_changing : (places : List Placed) → each_of row_change (changing places) ≡ each_of row_change places
each_changing [] = refl
each_changing (p ∷ ps) = at (row_change p.entry) refl (each_changing ps) where
  at : (changes : List Change) → row_change p.entry ≡ changes → each_of row_change (changing ps) ≡ each_of row_change ps
      → each_of row_change (cond (is_some_of changes) (p ∷ []) [] ++ changing ps) ≡ row_change p.entry ++ each_of row_change ps
  at [] q rest = rest ∙ sym (ap (λ z. z ++ each_of row_change ps) q)
  at (change ∷ changes) q rest = ap (λ z. row_change p.entry ++ z) rest

-- each version that a row had is up to its last one
had_low : (given : Given) (all : List Placed) (changes : List RowChange) (order : List ℕ) (row version : ℕ) → AreMadeOf given all changes
    → ((place : ℕ) → place < length changes → IsAmong place order) → AllFollow (done_of changes order) → IsHad all row version
    → version ≤ last_in row (done_of changes order)
had_low given all changes order row version made covers follow (inl e) = omega (arith, e)
had_low given all changes order row version made covers follow (inr i) =
    let same : each_of row_change all ≡ map change_of changes = sym (each_changing all) ∙ same_changes given (changing all) changes made in
    let h : (one : RowChange) × IsAmong one changes × (change_of one ≡ change_at row version)
    = change_among changes (change_at row version) (subst (IsAmong (change_at row version)) same i) in
    let g : (at : ℕ) × (at < length changes) × (slice_get changes at ≡ Some h.0) = among_at changes h.0 h.1 in
    let most : h.0.version ≤ last_in h.0.row (done_of changes order) =
    last_most (done_of changes order) h.0 follow (picked_there changes order [] g.0 h.0 (covers g.0 g.1) g.2) in
    subst (λ (z : Change). z.version ≤ last_in z.row (done_of changes order)) h.2 most

pub shelved : WholeLaw → ShelvedLaw
shelved law given all changes order shelf made covers is = record {
  content = content_in given (done_of (changing all) order);
  are = law.contents given all (done_of (changing all) order) replay;
  only = only;
} where
  zipped : AllZip (IsChangeOf given) (done_of (changing all) order) (done_of changes order)
  zipped = picked_zip (IsChangeOf given) (changing all) changes order [] [] made tt

  replay : IsReplayOf all (done_of (changing all) order)
  replay = record {
    replayed = same_replay given (done_of (changing all) order) (done_of changes order) zipped is.follow;
    whole = each_among all (λ place i. whole all given changes order made covers place i);
    own = each_among (done_of (changing all) order) (λ place i. own all order place i);
  }

  only : (other : ℕ → ℕ → List ℕ) → AreContents given other all → (row version : ℕ) → IsHad all row version
      → content_at shelf row version ≡ other row version
  only other are row version had =
      let low : version ≤ last_in row (done_of changes order) = had_low given all changes order row version made covers is.follow had in
      is.kept row version low
      ∙ sym (same_words given (done_of (changing all) order) (done_of changes order) zipped row version)
      ∙ sym (law.only given other all (done_of (changing all) order) replay are row version
      (subst (λ z. version ≤ last_of row z) (sym (same_changes given (done_of (changing all) order) (done_of changes order) zipped)) low))
