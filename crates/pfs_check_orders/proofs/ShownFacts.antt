-- Copies of the rows of the setup tables.
use Rattle.std.proofs.Common.{◌≡◌, refl, ℕ, zero, suc, ◌+◌, ◌-◌, Bool, false, List, [], ◌∷◌, ◌++◌, length, map, take, sym, ◌∙◌, ap, subst, arith, Some}
use Rattle.std.specs.Prelude.{slice_get, IfOk, Result}
use Rattle.std.proofs.lemmas.List.{length-append}
use Rattle.pfs_admin.specs.AdministrationStates.{State}
use Rattle.pfs_admin.specs.Fold.{stepped}
use Rattle.pfs_admin.specs.declared.changes.Change.{Change}
use Rattle.pfs_board.specs.declared.view.Label.{Label}
use Rattle.pfs_classes.specs.declared.setting.Setting.{Setting}
use Rattle.pfs_setups.specs.HeldRows.{actor_values, held_rows, object_values}
use Rattle.pfs_exec.specs.Selections.{IsAnswer}
use Rattle.pfs_exec.specs.declared.query.Select.{Select}
use Rattle.pfs_rows.specs.declared.table.Table.TheVariants.{SetupActors, SetupObjects}
use Rattle.pfs_runs.specs.SelectAnswers.{AnswersHeld}
use Rattle.pfs_text.specs.declared.values.RowValue.{RowValue}
use Rattle.pfs_check_orders.specs.HeldCopies.{AreHeld, AreShown, IsCurrent, IsSame, StandsAt}
use Rattle.pfs_check_orders.specs.declared.held.HeldTables.{HeldTables}
use Rattle.pfs_check_orders.specs.declared.shows.HeldCopies.{HeldCopies}

get_front : {A : Type 0} (xs more : List A) (at : ℕ) (x : A) → slice_get xs at ≡ Some x → slice_get (xs ++ more) at ≡ Some x
get_front [] more zero x e = absurd (cc)
get_front [] more (suc at) x e = absurd (cc)
get_front (y ∷ xs) more zero x e = e
get_front (y ∷ xs) more (suc at) x e = get_front xs more at x e

get_last : {A : Type 0} (xs : List A) (x : A) → slice_get (xs ++ x ∷ []) (length xs) ≡ Some x
get_last [] x = refl
get_last (y ∷ xs) x = get_last xs x

-- a copy stays where it stands
pub at_stays : (s : State) (copies more : List HeldTables) (place : ℕ) → StandsAt s copies place → StandsAt s (copies ++ more) place
at_stays s copies more place h = record {
  tables = h.tables;
  there = get_front copies more place h.tables h.there;
  held = h.held;
}

-- one that is made stands last
pub made_last : (s : State) (copies new : List HeldTables) (tables : HeldTables) → new ≡ copies ++ tables ∷ [] → AreHeld s tables
    → StandsAt s new (length new - 1)
made_last s copies new tables grown held = record {
  tables = tables;
  there = ap (λ z. slice_get z (length z - 1)) grown ∙ ap (slice_get (copies ++ tables ∷ [])) last ∙ get_last copies tables;
  held = held;
} where
  last : length (copies ++ tables ∷ []) - 1 ≡ length copies
  last = omega (arith, length-append copies (tables ∷ []))

-- and stays current where no row changes
pub still_current : (s : State) (session : ℕ) (what : Change) (copies : HeldCopies) (changed : Bool) → IsSame what changed s session → changed ≡ false
    → IsCurrent s copies → IsCurrent (stepped s session what) copies
still_current s session what copies changed same none current is =
    let h : StandsAt s copies.tables.items (length copies.tables.items - 1) = current is in
    record {
      tables = h.tables;
      there = h.there;
      held = record {
        actors = h.held.actors ∙ sym (ap (map actor_values) (same none).0);
        objects = h.held.objects ∙ sym (ap (map object_values) (same none).1);
      };
    }

pub none_shown : (setting : Setting) (change : Label → Change) (copies : List HeldTables) → AreShown setting change [] copies []
none_shown setting change copies = record { count = refl; each = λ before label order e f. absurd (no before label e) } where
  no : (before : ℕ) (label : Label) → slice_get [] before ≡ Some label → ⊥
  no zero label e = absurd (cc)
  no (suc before) label e = absurd (cc)

-- rows that were copied, with one more
one_more : {X : Type 0} (make : X → List RowValue) (xs : List X) (k : ℕ) (x : X) → slice_get xs k ≡ Some x → map make (take (suc k) xs) ≡ map make (take k xs) ++ make x ∷ []
one_more make [] k x e = absurd (cc (e))
one_more make (y ∷ ys) zero x e = ap (λ z. make z ∷ []) (cc (e))
one_more make (y ∷ ys) (suc k) x e = ap (λ z. make y ∷ z) (one_more make ys k x e)

pub rows_more : {X : Type 0} (make : X → List RowValue) (xs : List X) (k : ℕ) (x : X) (row : List RowValue) (old new : List (List RowValue)) → slice_get xs k ≡ Some x
    → row ≡ make x → new ≡ old ++ row ∷ [] → old ≡ map make (take k xs) → new ≡ map make (take (k + 1) xs)
rows_more make xs k x row old new there is push before =
    let next : suc k ≡ k + 1 = omega arith in
    push ∙ (ap (λ z. z ++ row ∷ []) before ∙ (ap (λ z. map make (take k xs) ++ z ∷ []) is ∙ (sym (one_more make xs k x there) ∙ ap (λ n. map make (take n xs)) next)))

-- what is answered over a copy
pub over_actors : {E : Type 0} (query : Select) (s : State) (tables : HeldTables) (result : Result (List (List RowValue)) E) → query.table ≡ SetupActors
    → AreHeld s tables → IfOk result (IsAnswer query tables.actors) → IfOk result (AnswersHeld query s.actors s.objects)
over_actors query s tables result e held h =
    subst (λ z. IfOk result (IsAnswer query z)) (held.actors ∙ sym (ap (λ t. held_rows t s.actors s.objects) e)) h

pub over_objects : {E : Type 0} (query : Select) (s : State) (tables : HeldTables) (result : Result (List (List RowValue)) E) → query.table ≡ SetupObjects
    → AreHeld s tables → IfOk result (IsAnswer query tables.objects) → IfOk result (AnswersHeld query s.actors s.objects)
over_objects query s tables result e held h =
    subst (λ z. IfOk result (IsAnswer query z)) (held.objects ∙ sym (ap (λ t. held_rows t s.actors s.objects) e)) h
