-- What lines may name of rows.
use Rattle.std.proofs.Common.{◌≡◌, refl, ℕ, ◌<◌, ◌≤◌, ◌==◌, Bool, true, false, ◌&&◌, ◌||◌, not, nat_lt, List, sym, ◌∙◌, ap, subst, arith, Option}
use Rattle.std.proofs.lemmas.Bool.{ltb-false, ltb-true, true≢false}
use Rattle.pfs_check_tops.specs.Greatest.{greatest_up_to}
use Rattle.pfs_model.specs.Chains.{change_at, each_of, is_free_after, is_that, opens_free, release_of, row_change, times}
use Rattle.pfs_model.specs.EntryPlaces.{Placed, before_phase}
use Rattle.pfs_model.specs.Floors.{AllBelow, Changes, Frees, IsAboveReleases, NamingsKeep, Sees, by_actions, floor_of, naming}
use Rattle.pfs_check_floors.specs.declared.floors.Seat.{Seat}
use Rattle.pfs_check_floors.specs.KeyedGivens.{action_of, by_action, in_action}
use Rattle.pfs_check_floors.specs.KnownFloors.{IsSeatOf, Tells, begun_by, had_by}
use Rattle.pfs_check_floors.specs.ReleasedRows.{below_test, was_freed}
use Rattle.pfs_check_floors.proofs.GreatestFacts.{keyed_tops, top_below, top_of}

pub stood_is : (all : List Placed) (phase row start : ℕ) (b : Bool) → start ≡ begun_by row_change all phase row → b ≡ was_freed all (change_at row start) phase
    → (b || ((start == 0) && opens_free row)) ≡ is_free_after (before_phase phase all) row
stood_is all phase row start b s f =
    ap (λ z. z || ((start == 0) && opens_free row)) f
    ∙ ap (λ z. nat_lt 0 (times (is_that (change_at row z)) (each_of release_of (before_phase phase all))) || ((z == 0) && opens_free row)) s

pub clear_tells : (all : List Placed) (place : Placed) (seat : Seat) (row version start : ℕ) (top : Option ℕ) (free b : Bool) → IsSeatOf seat place
    → top ≡ greatest_up_to row seat.done (by_action release_of all) → start ≡ begun_by row_change all seat.phase row
    → free ≡ is_free_after (before_phase seat.phase all) row → b ≡ (below_test top version && (nat_lt start version || not free))
    → Tells (IsAboveReleases all place row version) b
clear_tells all place seat row version start top free b at t s f e =
    subst (Tells (IsAboveReleases all place row version)) (sym e)
    (on (below_test top version) (nat_lt start version) free below refl stands) where
      top_is : top ≡ top_of row (each_of release_of (by_actions place.context.done all))
      top_is =
          t ∙ keyed_tops in_action action_of release_of all row seat.done
          ∙ ap (λ z. top_of row (each_of release_of (by_actions z all))) at.done

      below : Tells (AllBelow row version (each_of release_of (by_actions place.context.done all))) (below_test top version)
      below =
          subst (λ z. Tells (AllBelow row version (each_of release_of (by_actions place.context.done all))) (below_test z version)) (sym top_is)
          (top_below row version (each_of release_of (by_actions place.context.done all)))

      begins : start ≡ begun_by row_change all place.phase row
      begins = s ∙ ap (λ z. begun_by row_change all z row) at.phase

      stands : free ≡ is_free_after (before_phase place.phase all) row
      stands = f ∙ ap (λ z. is_free_after (before_phase z all) row) at.phase

      on : (x y z : Bool) → Tells (AllBelow row version (each_of release_of (by_actions place.context.done all))) x → nat_lt start version ≡ y
          → z ≡ is_free_after (before_phase place.phase all) row → Tells (IsAboveReleases all place row version) (x && (y || not z))
      on false y z u l g = λ above. u above.released
      on true true z u l g =
          let low : start < version = ltb-true start version l in
          record { released = u; stood = λ h. omega (arith, low, begins) }
      on true false true u l g = λ above.
          let low : begun_by row_change all place.phase row < version = above.stood (sym g) in
          omega (arith, low, begins, ltb-false start version l)
      on true false false u l g = record { released = u; stood = λ h. absurd (true≢false (sym h ∙ sym g)) }

pub changed_tells : (all earlier : List Placed) (place : Placed) (row version : ℕ) (a b c : Bool)
    → Tells ((floor_of all earlier place row < version) × (version ≤ had_by row_change all place.phase row)) a
    → Tells (IsAboveReleases all place row version) b → c ≡ (a && b) → Tells (NamingsKeep all earlier place (naming Changes row version)) c
changed_tells all earlier place row version a b c t u e = subst (Tells (NamingsKeep all earlier place (naming Changes row version))) (sym e) (on a b t u) where
  on : (a b : Bool) → Tells ((floor_of all earlier place row < version) × (version ≤ had_by row_change all place.phase row)) a
      → Tells (IsAboveReleases all place row version) b → Tells (NamingsKeep all earlier place (naming Changes row version)) (a && b)
  on true true t u = ((t.0, u), t.1, tt)
  on true false t u = λ n. u n.0.1
  on false b t u = λ n. t (n.0.0, n.1)

pub seen_tells : (all earlier : List Placed) (place : Placed) (row version : ℕ) (a b c : Bool)
    → Tells ((floor_of all earlier place row ≤ version) × (version ≤ had_by row_change all place.phase row)) a
    → Tells (IsAboveReleases all place row version) b → c ≡ (a && b) → Tells (NamingsKeep all earlier place (naming Sees row version)) c
seen_tells all earlier place row version a b c t u e = subst (Tells (NamingsKeep all earlier place (naming Sees row version))) (sym e) (on a b t u) where
  on : (a b : Bool) → Tells ((floor_of all earlier place row ≤ version) × (version ≤ had_by row_change all place.phase row)) a
      → Tells (IsAboveReleases all place row version) b → Tells (NamingsKeep all earlier place (naming Sees row version)) (a && b)
  on true true t u = ((t.0, u), t.1, tt)
  on true false t u = λ n. u n.0.1
  on false b t u = λ n. t (n.0.0, n.1)

pub freed_tells : (all earlier : List Placed) (place : Placed) (row version : ℕ) (a : Bool)
    → Tells ((floor_of all earlier place row ≤ version) × (version ≤ had_by row_change all place.phase row)) a
    → Tells (NamingsKeep all earlier place (naming Frees row version)) a
freed_tells all earlier place row version true t = (t.0, t.1, tt)
freed_tells all earlier place row version false t = λ n. t (n.0, n.1)
