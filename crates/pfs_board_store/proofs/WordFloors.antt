-- What an actor met of the words is not below what the actions set that it knew as ended, and so no load and no set is.
use Rattle.std.proofs.Common.{ℕ, ◌≡◌, ◌==◌, ◌<◌, ◌≤◌, nat_lt, nat_le, ◌&&◌, Bool, true, false, cond, List, [], ◌∷◌, refl, ap, sym, subst, inl, inr, arith, eq-eqb, ne_eqb}
use Rattle.std.proofs.lemmas.Bool.{cases_eq}
use Rattle.std.proofs.lemmas.Bool.Decides.{nat_tests}
use Rattle.pfs_levels.specs.Calls.{Call, Adds, Rings, Reads, Loads, Draws, Takes, Puts, Frees, Sets, Enters, Leaves, Meets, after_in}
use Rattle.pfs_levels.specs.JointCalls.{total, one_if}
use Rattle.pfs_levels.specs.CallOrder.{Mark, is_past, above, reaching, AllCalls, AreFloored, top_word, AreRising}
use Rattle.pfs_levels.specs.declared.answers.Added.TheVariants.{Counted, Held}
use Rattle.pfs_levels.specs.declared.answers.RingPut.TheVariants.{Done, Busy, Late}
use Rattle.pfs_rows.specs.declared.table.Seen.TheVariants.{Whole, Free}
use Rattle.pfs_rows.specs.declared.table.Seen.TheVariants as sees
use Rattle.pfs_board_store.specs.RootLaws.{has_met, AllKnowSets}

-- a sum of ones over fewer is no greater
fewer : (f g : Mark → Bool) → ((m : Mark) → f m ≡ true → g m ≡ true) → (ms : List Mark) → total (λ m. one_if (f m)) ms ≤ total (λ m. one_if (g m)) ms
unfolding total
fewer f g h [] = omega arith
fewer f g h (m ∷ ms) = omega (arith, step (f m) (g m) (h m), fewer f g h ms) where
  step : (a b : Bool) → (a ≡ true → b ≡ true) → one_if a ≤ one_if b
  step true true k = omega arith
  step true false k = absurd (let e = k refl in cc)
  step false b k = omega arith

higher : (a : Bool) (low high v : ℕ) → low ≤ high → a && nat_lt high v ≡ true → a && nat_lt low v ≡ true
higher true low high v e h = grind (arith, nat_tests)
higher false low high v e h = absurd (cc)

reached : (a : Bool) (low high v : ℕ) → low < high → a && nat_le high v ≡ true → a && nat_lt low v ≡ true
reached true low high v e h = grind (arith, nat_tests)
reached false low high v e h = absurd (cc)

above_up : (marks : List Mark) (at low high after : ℕ) → low ≤ high → above marks at low after ≡ 0 → above marks at high after ≡ 0
above_up marks at low high after e none =
    omega (arith, none, fewer (λ m. is_past at after m && nat_lt high m.version) (λ m. is_past at after m && nat_lt low m.version) (λ m h. higher (is_past at after m) low high m.version e h) marks)

reaching_up : (marks : List Mark) (at low high after : ℕ) → low < high → above marks at low after ≡ 0 → reaching marks at high after ≡ 0
reaching_up marks at low high after e none =
    omega (arith, none, fewer (λ m. is_past at after m && nat_le high m.version) (λ m. is_past at after m && nat_lt low m.version) (λ m h. reached (is_past at after m) low high m.version e h) marks)

-- no action has ended at first
nothing : (b c : Bool) (a : ℕ) → (b && nat_lt 0 a && nat_le a 0) && c ≡ false
nothing true c a = grind (arith, nat_tests)
nothing false c a = refl

none_ended : (marks : List Mark) (at k : ℕ) → above marks at k 0 ≡ 0
unfolding total
none_ended [] at k = refl
none_ended (m ∷ ms) at k = omega (arith, ap one_if (nothing (m.row == at) (nat_lt k m.version) m.action), none_ended ms at k)

no_true : false ≡ true → ⊥
no_true e = cc

module _ (marks : List Mark) where
  -- behind these calls the actor's calls name no version below what is known to be set
  abbrev Sure : List Call → Type 0
  Sure calls = has_met calls ≡ true → (at : ℕ) → at < 160 → above marks at (top_word calls at) (after_in calls) ≡ 0

  named_up : (calls : List Call) (w k : ℕ) → top_word calls w ≤ k → Sure calls → has_met calls ≡ true → (at : ℕ) → at < 160 → above marks at (cond (w == at) k (top_word calls at)) (after_in calls) ≡ 0
  named_up calls w k up s met at low = elim (cases_eq w at) [
    | inl e ↦ let P : ℕ → Type 0 = λ z. above marks at z (after_in calls) ≡ 0 in
        subst P (sym (ap (λ b. cond b k (top_word calls at)) (eq-eqb w at e))) (above_up marks at (top_word calls at) k (after_in calls) (omega (arith, up, ap (top_word calls) e)) (s met at low))
    | inr e ↦ let P : ℕ → Type 0 = λ z. above marks at z (after_in calls) ≡ 0 in
        subst P (sym (ap (λ b. cond b k (top_word calls at)) (ne_eqb w at e))) (s met at low)
  ]

  sure : (calls : List Call) → AreRising calls → AllKnowSets marks calls → Sure calls
  sure [] r f met at low = none_ended marks at 0
  sure (Loads w k found ∷ calls) r f met at low = named_up calls w k r.0 (sure calls r.1 f.1) met at low
  sure (Sets w to k ∷ calls) r f met at low = named_up calls w k (omega (arith, r.0)) (sure calls r.1 f.1) met at low
  sure (Meets versions ∷ calls) r f met at low = f.0 at low
  sure (Enters label labels ∷ calls) r f met at low = absurd (no_true met)
  sure (Leaves ∷ calls) r f met at low = f.0 met at low
  sure (Adds row amount answer ∷ calls) r f met at low = sure calls r.1 f.1 met at low
  sure (Rings row put answer ∷ calls) r f met at low = sure calls r.1 f.1 met at low
  sure (Reads row seen ∷ calls) r f met at low = sure calls r.1 f.1 met at low
  sure (Draws kind ticket ∷ calls) r f met at low = sure calls r.1 f.1 met at low
  sure (Takes row k found ∷ calls) r f met at low = sure calls r.1 f.1 met at low
  sure (Puts row put k ∷ calls) r f met at low = sure calls r.1 f.1 met at low
  sure (Frees row k ∷ calls) r f met at low = sure calls r.1 f.1 met at low

  -- no change is a word's, so only what is said of words is to be shown
  floors : (calls : List Call) → AreRising calls → AllKnowSets marks calls → AreFloored [] marks calls
  unfolding total
  floors [] r f = tt
  floors (Loads at k found ∷ calls) r f = (above_up marks at (top_word calls at) k (after_in calls) r.0 (sure calls r.1 f.1 f.0.1 at f.0.0), floors calls r.1 f.1)
  floors (Sets at to k ∷ calls) r f = (reaching_up marks at (top_word calls at) k (after_in calls) r.0 (sure calls r.1 f.1 f.0.1 at f.0.0), floors calls r.1 f.1)
  floors (Meets versions ∷ calls) r f = (f.0, floors calls r.1 f.1)
  floors (Adds row amount (Counted q k) ∷ calls) r f = (refl, floors calls r.1 f.1)
  floors (Adds row amount (Held q first second) ∷ calls) r f = (tt, floors calls r.1 f.1)
  floors (Rings row put (Done k) ∷ calls) r f = (refl, floors calls r.1 f.1)
  floors (Rings row put (Busy first second) ∷ calls) r f = (tt, floors calls r.1 f.1)
  floors (Rings row put (Late ticket version) ∷ calls) r f = (refl, floors calls r.1 f.1)
  floors (Reads row (Whole k found) ∷ calls) r f = ((refl, refl), floors calls r.1 f.1)
  floors (Reads row (Free n) ∷ calls) r f = (refl, floors calls r.1 f.1)
  floors (Reads row (sees.Busy first second) ∷ calls) r f = (tt, floors calls r.1 f.1)
  floors (Draws kind ticket ∷ calls) r f = (tt, floors calls r.1 f.1)
  floors (Takes row k found ∷ calls) r f = (refl, floors calls r.1 f.1)
  floors (Puts row put k ∷ calls) r f = (refl, floors calls r.1 f.1)
  floors (Frees row k ∷ calls) r f = (refl, floors calls r.1 f.1)
  floors (Enters label labels ∷ calls) r f = (tt, floors calls r.1 f.1)
  floors (Leaves ∷ calls) r f = (tt, floors calls r.1 f.1)

  pub all_floors : (actors : List (List Call)) → AllCalls AreRising actors → AllCalls (AllKnowSets marks) actors → AllCalls (AreFloored [] marks) actors
  all_floors [] r f = tt
  all_floors (calls ∷ actors) r f = (floors calls r.0 f.0, all_floors actors r.1 f.1)
