-- A place past the summaries shows a version just where it is the last of its row, and no release stands at it.
use Rattle.std.proofs.Common.{◌≡◌, refl, ℕ, ◌≤◌, ◌<◌, ◌==◌, Bool, true, false, cond, List, Some, None, sym, ap, subst, ◌∙◌, inl, inr, arith}
use Rattle.std.specs.Prelude.{◌⊎◌}
use Rattle.pfs_lemmas.proofs.Options.{some_same}
use Rattle.pfs_model.specs.Chains.{Each, change_at, each_of, is_free_after, is_that, opens_free, release_of, times}
use Rattle.pfs_model.specs.EntryPlaces.{Placed}
use Rattle.pfs_model.specs.Rings.{is_kept, shown_at}
use Rattle.pfs_model.specs.declared.changes.Change.{Change}
use Rattle.pfs_law_conservation.proofs.EventNumbers.{which}
use Rattle.pfs_law_summaries.proofs.HistoryPlaces.{is_zero, last_version, none_above, not_free, not_freed, zero_is}
use Rattle.pfs_law_summaries.proofs.SessionHistories.{opening_free}

-- the row's last version, not released
pub record IsLasting (all : List Placed) (row version : ℕ) : Type 0 where
  pub last : version ≡ last_version all row
  pub positive : 1 ≤ version
  pub kept : is_kept (each_of release_of all) (change_at row version) ≡ true

module _ (all : List Placed) (row : ℕ) (low : 8450 ≤ row) (had : Each (λ (release : Change). release.row ≡ row → release.version ≤ last_version all row) (each_of release_of all)) where
  abbrev freed : ℕ
  freed = times (is_that (change_at row (last_version all row))) (each_of release_of all)

  kept_is : is_kept (each_of release_of all) (change_at row (last_version all row)) ≡ (times (is_that (change_at row (last_version all row))) (each_of release_of all) == 0)
  kept_is = ap (λ k. k == 0) (none_above row (last_version all row) (each_of release_of all) had)

  pub shown_lasting : (version : ℕ) → shown_at all row ≡ Some version → IsLasting all row version
  shown_lasting version s = on (is_free_after all row) refl s where
    on : (b : Bool) → is_free_after all row ≡ b → cond b None (Some (last_version all row)) ≡ Some version → IsLasting all row version
    on true q e = absurd (cc)
    on false q e = subst (IsLasting all row) (some_same (last_version all row) version e) (record { last = refl; positive = positive (which 1 (last_version all row)); kept = kept }) where
      positive : (1 ≤ last_version all row) ⊎ (last_version all row < 1) → 1 ≤ last_version all row
      positive (inl l) = l
      positive (inr l) = absurd (let f : true ≡ false = sym (opening_free freed (last_version all row) row (omega (arith, l)) low) ∙ q in cc)

      kept : is_kept (each_of release_of all) (change_at row (last_version all row)) ≡ true
      kept = kept_is ∙ zero_is freed (not_freed freed (last_version all row) (opens_free row) q)

  pub lasting_shown : (version : ℕ) → version ≡ last_version all row → 1 ≤ version → is_kept (each_of release_of all) (change_at row version) ≡ true → shown_at all row ≡ Some version
  lasting_shown version e l k =
      let z : (freed == 0) ≡ true = sym kept_is ∙ subst (λ w. is_kept (each_of release_of all) (change_at row w) ≡ true) e k in
      let q : is_free_after all row ≡ false = not_free freed (last_version all row) (opens_free row) (is_zero freed z) (subst (λ w. 1 ≤ w) e l) in
      ap (λ b. cond b None (Some (last_version all row))) q ∙ ap (λ w. Some w) (sym e)
