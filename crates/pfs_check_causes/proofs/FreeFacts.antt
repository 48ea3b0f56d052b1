-- A row that stood FREE.
use Rattle.std.proofs.Common.{◌≡◌, refl, ℕ, ◌≤◌, ◌==◌, max, Bool, true, false, ◌&&◌, ◌||◌, nat_le, List, [], ◌∷◌, sym, ◌∙◌, ap, subst, arith, Option, Some, None, inl, inr}
use Rattle.std.specs.Prelude.{if◌then◌else◌}
use Rattle.std.proofs.lemmas.Bool.{eqb-false, eqb-true, le-leb, leb-false, leb-true, true≢false}
use Rattle.pfs_check_floors.proofs.GreatestFacts.{keyed_tops, top_of}
use Rattle.pfs_check_floors.specs.declared.floors.Seat.{Seat}
use Rattle.pfs_check_floors.specs.KeyedGivens.{by_phase, in_any, phase_of}
use Rattle.pfs_check_floors.specs.KnownFloors.{IsSeatOf, Tells}
use Rattle.pfs_check_tops.specs.Greatest.{greater_of, greatest_up_to}
use Rattle.pfs_model.specs.Causes.{SomeReleased, WasFree}
use Rattle.pfs_model.specs.Chains.{each_of, opens_free, release_of}
use Rattle.pfs_model.specs.declared.changes.Change.{Change}
use Rattle.pfs_model.specs.EntryPlaces.{Placed, up_to_phase}
use Rattle.pfs_model.specs.Floors.{floor_of}
use Rattle.pfs_check_causes.specs.FreeReleases.{reaches}

-- a release at the floor or above
pub top_reaches : (row floor : ℕ) (cs : List Change) → Tells (SomeReleased row floor cs) (reaches (top_of row cs) floor)
top_reaches row floor [] = λ s. s
top_reaches row floor (c ∷ cs) = on (c.row == row) refl (top_of row cs) (top_reaches row floor cs) where
  on : (b : Bool) → (c.row == row) ≡ b → (o : Option ℕ) → Tells (SomeReleased row floor cs) (reaches o floor)
      → Tells (SomeReleased row floor (c ∷ cs)) (reaches (if b then greater_of c.version o else o) floor)
  on false e o t = skip (reaches o floor) t where
    none : (SomeReleased row floor cs → ⊥) → SomeReleased row floor (c ∷ cs) → ⊥
    none u (inl p) = eqb-false c.row row e p.0
    none u (inr r) = u r

    skip : (a : Bool) → Tells (SomeReleased row floor cs) a → Tells (SomeReleased row floor (c ∷ cs)) a
    skip true t = inr t
    skip false t = λ s. none t s
  on true e None t = own (nat_le floor c.version) refl where
    none : nat_le floor c.version ≡ false → SomeReleased row floor (c ∷ cs) → ⊥
    none f (inl p) = omega (arith, leb-false floor c.version f, p.1)
    none f (inr r) = t r

    own : (a : Bool) → nat_le floor c.version ≡ a → Tells (SomeReleased row floor (c ∷ cs)) a
    own true f = inl (eqb-true c.row row e, leb-true floor c.version f)
    own false f = λ s. none f s
  on true e (Some last) t = own (nat_le floor (max c.version last)) refl where
    rest : (a : Bool) → a ≡ true → Tells (SomeReleased row floor cs) a → SomeReleased row floor cs
    rest true q u = u
    rest false q u = absurd (cc)

    there : (a : Bool) → nat_le floor c.version ≡ a → floor ≤ max c.version last → SomeReleased row floor (c ∷ cs)
    there true f h = inl (eqb-true c.row row e, leb-true floor c.version f)
    there false f h = inr (rest (nat_le floor last) (le-leb floor last (omega (arith, h, leb-false floor c.version f))) t)

    lacks : (a : Bool) → nat_le floor last ≡ a → Tells (SomeReleased row floor cs) a → nat_le floor (max c.version last) ≡ false → SomeReleased row floor cs → ⊥
    lacks true q u f r = omega (arith, leb-true floor last q, leb-false floor (max c.version last) f)
    lacks false q u f r = u r

    none : nat_le floor (max c.version last) ≡ false → SomeReleased row floor (c ∷ cs) → ⊥
    none f (inl p) = omega (arith, leb-false floor (max c.version last) f, p.1)
    none f (inr r) = lacks (nat_le floor last) refl t f r

    own : (a : Bool) → nat_le floor (max c.version last) ≡ a → Tells (SomeReleased row floor (c ∷ cs)) a
    own true f = there (nat_le floor c.version) refl (leb-true floor (max c.version last) f)
    own false f = λ s. none f s

pub free_tells : (all earlier : List Placed) (place : Placed) (seat : Seat) (row floor : ℕ) (top : Option ℕ) (opens b : Bool) → IsSeatOf seat place
    → floor ≡ floor_of all earlier place row → top ≡ greatest_up_to row seat.phase (by_phase release_of all) → opens ≡ opens_free row
    → b ≡ ((opens && (floor == 0)) || reaches top floor) → Tells (WasFree all earlier place row) b
free_tells all earlier place seat row floor top opens b at f t o e =
    subst (Tells (WasFree all earlier place row)) (sym e) (on opens (floor == 0) (reaches top floor) o refl released) where
      top_is : top ≡ top_of row (each_of release_of (up_to_phase place.phase all))
      top_is =
          t ∙ keyed_tops in_any phase_of release_of all row seat.phase
          ∙ ap (λ z. top_of row (each_of release_of (up_to_phase z all))) at.phase

      released : Tells (SomeReleased row (floor_of all earlier place row) (each_of release_of (up_to_phase place.phase all))) (reaches top floor)
      released =
          subst (λ z. Tells (SomeReleased row (floor_of all earlier place row) (each_of release_of (up_to_phase place.phase all))) z)
          (sym (ap (λ z. reaches z floor) top_is ∙ ap (reaches (top_of row (each_of release_of (up_to_phase place.phase all)))) f))
          (top_reaches row (floor_of all earlier place row) (each_of release_of (up_to_phase place.phase all)))

      none : (x y : Bool) → x ≡ opens_free row → (floor == 0) ≡ y → (x && y) ≡ false
          → (SomeReleased row (floor_of all earlier place row) (each_of release_of (up_to_phase place.phase all)) → ⊥)
          → WasFree all earlier place row → ⊥
      none x y p q n u (inr w) = u w
      none true true p q n u (inl w) = true≢false n
      none true false p q n u (inl w) = eqb-false floor 0 q (f ∙ w.1)
      none false y p q n u (inl w) = true≢false (sym w.0 ∙ sym p)

      on : (x y z : Bool) → x ≡ opens_free row → (floor == 0) ≡ y
          → Tells (SomeReleased row (floor_of all earlier place row) (each_of release_of (up_to_phase place.phase all))) z
          → Tells (WasFree all earlier place row) ((x && y) || z)
      on true true z p q u = inl (sym p, sym f ∙ eqb-true floor 0 q)
      on true false true p q u = inr u
      on true false false p q u = λ w. none true false p q refl u w
      on false y true p q u = inr u
      on false y false p q u = λ w. none false y p q refl u w
