-- Changes collected entry by entry.
use Rattle.std.proofs.Common.{◌≡◌, refl, ℕ, ◌==◌, Bool, true, false, cond, List, [], ◌∷◌, ◌++◌, sym, ◌∙◌, ap, subst, ◌⊎◌, inl, inr, append_assoc, Option, Some, None}
use Rattle.std.specs.BTreeMap.{BTreeMap, IsEmpty, get, is_at}
use Rattle.std.specs.Map.{lookup}
use Rattle.std.specs.List.{AllZip}
use Rattle.std.specs.Ordering.{nat_cmp}
use Rattle.std.proofs.lemmas.Bool.{eqb-true}
use Rattle.pfs_event.specs.declared.entry.Entry.{Entry}
use Rattle.pfs_model.specs.declared.changes.Change.{Change}
use Rattle.pfs_model.specs.Chains.{Each, row_change}
use Rattle.pfs_model.specs.Contents.{Given}
use Rattle.pfs_model.specs.Contexts.{Context, fresh, noted, subject_of, turned}
use Rattle.pfs_model.specs.EntryAsks.{is_head}
use Rattle.pfs_model.specs.EntryPlaces.{Placed, chosen}
use Rattle.pfs_model.proofs.EachLists.{each_behind, each_front}
use Rattle.pfs_law_contexts.specs.TakenSources.{AreTakenBehind, in_action, taken_behind, taken_in}
use Rattle.pfs_law_contexts.specs.ToldContexts.{AreToldBehind, GoesOn, IsToldOf, is_quiet, left_by, left_in}
use Rattle.pfs_law_orderly.specs.HeldEvents.{AreHeldBehind}
use Rattle.pfs_check_contents.specs.declared.changes.RowChange.{RowChange}
use Rattle.pfs_check_contents.specs.ChangeReplays.{change_of}
use Rattle.pfs_check_contents.specs.PlacedChanges.{AreMadeOf, IsChangeOf, changing, is_changing, is_some_of}
use Rattle.pfs_check_made.specs.MadeChanges.{IsKnownIn, IsNotedAt}
use Rattle.pfs_check_notes.specs.SessionNotes.{AreNotesOf, StepsFrom}
use Rattle.pfs_check_notes.specs.declared.notes.SessionNotes.{SessionNotes}
use Rattle.pfs_check_walk.specs.Walks.{onto}
use Rattle.pfs_check_collected.specs.CollectedChanges.{AllKnown, AllNoted, AreChangesTold, AreCollected, AreFramed, AreNotesFor, IsFramed, IsGathered, Knows, in_order}
use Rattle.pfs_check_collected.specs.declared.collecting.Collecting.{Collecting}
use Rattle.pfs_check_faults.specs.ReportCases.{Findings, entries_of}
use Rattle.pfs_check_visits.specs.Visits.{AreVisited}
use Rattle.pfs_check_visits.specs.declared.visited.Visited.{Visited}
use Rattle.pfs_check_visits.proofs.EntryCounts.{all_known}

-- the changing entries, one more
changing_then : (all : List Placed) (place : Placed) → changing (all ++ place ∷ []) ≡ changing all ++ cond (is_changing place) (place ∷ []) []
changing_then [] place = nil (cond (is_changing place) (place ∷ []) []) where
  nil : (xs : List Placed) → xs ++ [] ≡ xs
  nil [] = refl
  nil (x ∷ xs) = ap (λ z. x ∷ z) (nil xs)
changing_then (one ∷ all) place =
    ap (λ z. cond (is_changing one) (one ∷ []) [] ++ z) (changing_then all place)
    ∙ sym (append_assoc (cond (is_changing one) (one ∷ []) []) (changing all) (cond (is_changing place) (place ∷ []) []))

zip_more : (given : Given) (places : List Placed) (changes : List RowChange) (place : Placed) (one : RowChange) → AllZip (IsChangeOf given) places changes
    → IsChangeOf given place one → AllZip (IsChangeOf given) (places ++ place ∷ []) (changes ++ one ∷ [])
zip_more given [] [] place one z c = (c, tt)
zip_more given [] (x ∷ changes) place one z c = absurd z
zip_more given (p ∷ places) [] place one z c = absurd z
zip_more given (p ∷ places) (x ∷ changes) place one z c = (z.0, zip_more given places changes place one z.1 c)

pub nothing_more : (given : Given) (all : List Placed) (place : Placed) (changes : List RowChange) (known : Bool)
    → AreChangesTold given all changes known → row_change place.entry ≡ [] → AreChangesTold given (all ++ place ∷ []) changes known
nothing_more given all place changes true told none = subst (λ z. AllZip (IsChangeOf given) z changes) (sym same) told where
  none_more : (xs : List Placed) → xs ++ [] ≡ xs
  none_more [] = refl
  none_more (x ∷ xs) = ap (λ z. x ∷ z) (none_more xs)

  same : changing (all ++ place ∷ []) ≡ changing all
  same = changing_then all place ∙ ap (λ z. changing all ++ cond (is_some_of z) (place ∷ []) []) none ∙ none_more (changing all)
nothing_more given all place changes false told none = λ known. told (each_front (λ p. IsKnownIn given p p.entry) all (place ∷ []) known)

pub change_more : (given : Given) (all : List Placed) (place : Placed) (changes : List RowChange) (one : RowChange) (known : Bool)
    → AreChangesTold given all changes known → IsChangeOf given place one → AreChangesTold given (all ++ place ∷ []) (changes ++ one ∷ []) known
change_more given all place changes one true told is =
    subst (λ z. AllZip (IsChangeOf given) z (changes ++ one ∷ [])) (sym same) (zip_more given (changing all) changes place one told is) where
      same : changing (all ++ place ∷ []) ≡ changing all ++ place ∷ []
      same = changing_then all place ∙ ap (λ z. changing all ++ cond (is_some_of z) (place ∷ []) []) is.change
change_more given all place changes one false told is = λ known. told (each_front (λ p. IsKnownIn given p p.entry) all (place ∷ []) known)

pub unknown_more : (given : Given) (all : List Placed) (place : Placed) (changes : List RowChange)
    → (IsKnownIn given place place.entry → ⊥) → AreChangesTold given (all ++ place ∷ []) changes false
unknown_more given all place changes never = λ known. never (each_behind (λ p. IsKnownIn given p p.entry) all (place ∷ []) known).0

-- how a context goes on
opened_on : (left context : Context) → GoesOn left context → context.opened ≡ left.opened
opened_on left context (inl e) = ap (λ (z : Context). z.opened) e
opened_on left context (inr e) = ap (λ (z : Context). z.opened) e

pub steps_on : (earlier : List Placed) (place : Placed) → IsToldOf earlier place → StepsFrom (left_in earlier place.session) place.context place.entry
steps_on earlier place told = record {
  opened = opened_on (left_in earlier place.session) place.context told.goes;
  inside = λ h. ap (λ (z : Context). z.ended) (told.inside h);
  quiet = told.quiet;
}

pub noted_at : (earlier : List Placed) (place : Placed) (notes : SessionNotes) → IsFramed earlier place
    → AreNotesOf (left_in earlier place.session) (taken_in earlier place.session) notes → IsNotedAt earlier place notes
noted_at earlier place notes frame are = record {
  taken = taken_in earlier place.session;
  notes_are = λ h. subst (λ z. AreNotesOf z (taken_in earlier place.session) notes) (sym (frame.told.inside h)) are;
  source = frame.source;
  waiting = frame.waiting;
}

-- the notes of all sessions
pub all_noted : (earlier : List Placed) (place : Placed) (old mid new : BTreeMap ℕ SessionNotes) (own : SessionNotes) → AllNoted earlier old
    → AreNotesOf (left_by place) (taken_behind place.entry (in_action place.context.action (taken_in earlier place.session))) own
    → ((other : ℕ) → (place.session == other) ≡ false → get nat_cmp mid other ≡ get nat_cmp old other)
    → ((other : ℕ) → get nat_cmp new other ≡ cond (place.session == other) (Some own) (get nat_cmp mid other)) → AllNoted (place ∷ earlier) new
all_noted earlier place old mid new own all are others kept session =
    subst (AreNotesFor (left_in (place ∷ earlier) session) (taken_in (place ∷ earlier) session)) (sym (kept session)) (on (place.session == session) refl) where
      on : (b : Bool) → (place.session == session) ≡ b
          → AreNotesFor (cond b (left_by place) (left_in earlier session))
          (cond b (taken_behind place.entry (in_action place.context.action (taken_in earlier session))) (taken_in earlier session))
          (cond b (Some own) (get nat_cmp mid session))
      on true e = subst (λ z. AreNotesOf (left_by place) (taken_behind place.entry (in_action place.context.action (taken_in earlier z))) own) (eqb-true place.session session e) are
      on false e = subst (AreNotesFor (left_in earlier session) (taken_in earlier session)) (sym (others session e)) (all session)

-- all entries are framed by those before them
pub framed_onto : (earlier xs : List Placed) → AreFramed earlier → AreToldBehind earlier xs → AreTakenBehind earlier xs → AreHeldBehind earlier xs → AreFramed (onto earlier xs)
framed_onto earlier [] framed told taken held = framed
framed_onto earlier (x ∷ xs) framed told taken held =
    framed_onto (x ∷ earlier) xs (record { told = told.0; source = taken.0; waiting = held.0 }, framed) told.1 taken.1 held.1

pub order_onto : (earlier xs : List Placed) → in_order (onto earlier xs) ≡ in_order earlier ++ xs
order_onto earlier [] = sym (nil (in_order earlier)) where
  nil : (xs : List Placed) → xs ++ [] ≡ xs
  nil [] = refl
  nil (x ∷ xs) = ap (λ z. x ∷ z) (nil xs)
order_onto earlier (x ∷ xs) = order_onto (x ∷ earlier) xs ∙ append_assoc (in_order earlier) (x ∷ []) xs

pub none_noted : (notes : BTreeMap ℕ SessionNotes) → IsEmpty notes → AllNoted [] notes
none_noted notes empty session = subst (λ (z : List (ℕ × SessionNotes)). AreNotesFor fresh None (lookup (is_at (nat_cmp session)) z)) (sym empty)
    (record { left_is = refl; taken_is = refl })

pub all_collected : (given : Given) (found : Findings) (all : List Placed) (collecting : Collecting) (visited : Visited) → entries_of found ≡ all
    → AreToldBehind [] all → AreTakenBehind [] all → AreHeldBehind [] all
    → AreVisited (λ earlier place. Unit {0}) [] all (λ earlier. Knows given earlier collecting) (Unit {0}) visited
    → AreCollected given (entries_of found) collecting.collected
all_collected given found all collecting visited e told taken held v =
    let known : Knows given (onto [] all) collecting = all_known all (λ earlier. Knows given earlier collecting) (Unit {0}) visited v in
    let gathered : IsGathered given (onto [] all) collecting = known.gathered (framed_onto [] all tt told taken held) in
    subst (λ z. AreCollected given z collecting.collected) (order_onto [] all ∙ sym e) gathered.collected
