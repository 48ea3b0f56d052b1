-- What each kind of call adds to what a seat of the board has kept of its actor's looks.
use Rattle.std.proofs.Common.{ℕ, ◌≡◌, ◌+◌, ◌*◌, ◌/◌, ◌%◌, ◌≤◌, List, [], ◌∷◌, ◌++◌, slice_index, refl, ap, sym, ◌∙◌, subst, inl, inr, ⊎_elim, arith}
use Rattle.pfs_board.specs.declared.view.Finished.{Finished}
use Rattle.pfs_board.specs.declared.view.Sight.{Sight}
use Rattle.pfs_board.specs.declared.view.View.{View}
use Rattle.pfs_board.specs.History.{Each, Some_of}
use Rattle.pfs_board.specs.Knowledge.{read_of, sight_of}
use Rattle.pfs_levels.specs.Calls.{Call, Rings, Start, Takes, action_in, after_in}
use Rattle.pfs_levels.specs.declared.answers.RingPut.TheVariants.{Done, Busy}
use Rattle.pfs_board_store.specs.ActorCalls.{OnBoard}
use Rattle.pfs_board_store.specs.Looks.{AreLooked, HasFound, HasLooked, HasReadOn, ReadOnce, SawOnce}
use Rattle.pfs_board_store.specs.Ties.{IsFinished, IsSighted, WasOlder}
use Rattle.pfs_board_store.proofs.CallTies.{finished_now, sighted_now}

pub looked_none : (start : Start) → AreLooked start [] [] []
unfolding AreLooked
looked_none start = (refl, refl)

pub looked_first : (start : Start) (reads : List Finished) (sights : List Sight) → reads ≡ [] → sights ≡ [] → AreLooked start [] reads sights
unfolding AreLooked
looked_first start reads sights r s = (r, s)

-- a call with these looks
pub looked_more : (start : Start) (calls : List Call) (call : Call) (mine : List Finished) (seen : List Sight) (v w : View) → w.reads ≡ mine ++ v.reads → w.sights ≡ seen ++ v.sights → HasLooked start calls call mine seen
    → AreLooked start calls v.reads v.sights → AreLooked start (call ∷ calls) w.reads w.sights
unfolding AreLooked
looked_more start calls call mine seen v w reads sights has l = (mine, v.reads, reads, seen, v.sights, sights, has, l)

-- a call without any
pub looked_on : (start : Start) (calls : List Call) (call : Call) (v w : View) → w.reads ≡ v.reads → w.sights ≡ v.sights → HasLooked start calls call [] [] → AreLooked start calls v.reads v.sights → AreLooked start (call ∷ calls) w.reads w.sights
looked_on start calls call v w reads sights has l = looked_more start calls call [] [] v w reads sights has l

-- two words that a seat saw, and a row that it read
pub saw_now : (start : Start) (calls : List Call) (v : View) (row first second : ℕ) → OnBoard start calls v → SawOnce start calls row first second (sight_of v row first second ∷ [])
saw_now start calls v row first second b = (sight_of v row first second, refl, sighted_now start calls v row first second b)

pub read_now : (start : Start) (calls : List Call) (v : View) (row version : ℕ) (content : List ℕ) (P : List ℕ → Type 0) → OnBoard start calls v → P content → ReadOnce start calls row version P (read_of v row version content ∷ [])
read_now start calls v row version content P b is = (read_of v row version content, refl, finished_now start calls v row version content b, is)

-- a take that waited
pub looked_waiting : (start : Start) (calls : List Call) (row version : ℕ) (found : List ℕ) (v w : View) → w.reads ≡ v.reads
    → (seen : List Sight) × (w.sights ≡ seen ++ v.sights) × Each (λ (x : Sight). IsSighted start row x.first x.second (action_in calls) (after_in calls) x) seen
    → AreLooked start calls v.reads v.sights → AreLooked start (Takes row version found ∷ calls) w.reads w.sights
looked_waiting start calls row version found v w reads t l = looked_more start calls (Takes row version found) [] t.0 v w reads t.1 (refl, t.2) l

module _ (start : Start) (calls : List Call) (row : ℕ) (content : List ℕ) (word : ℕ) (reads : List Finished) (sights : List Sight) (h : HasReadOn start calls row content word reads sights) where
  abbrev Saw : Sight → Type 0
  Saw x = IsSighted start row (4 * (word / 4)) (4 * (word / 4)) (action_in calls) (after_in calls) x

  abbrev Read : Finished → Type 0
  Read f = IsFinished start row (word / 4) (action_in calls) (after_in calls) f × (slice_index f.content 15 ≤ slice_index content 15)

  found_free : (word % 4 ≡ 0) × (h.mine ≡ []) × SawOnce start calls row word word h.seen → WasOlder start reads sights row (word / 4) content (action_in calls) (after_in calls)
  found_free f =
      let e : word ≡ 4 * (word / 4) = omega (arith, f.0) in
      let P : ℕ → Type 0 = λ w. IsSighted start row w w (action_in calls) (after_in calls) f.2.0 in
      inl (subst (Some_of Saw) (sym (h.sights_are ∙ ap (λ (z : List Sight). z ++ h.others) f.2.1)) (inl (subst P e f.2.2)))

  found_whole : (version : ℕ) × (word ≡ 4 * version + 2) × ReadOnce start calls row version (λ found. slice_index found 15 ≤ slice_index content 15) h.mine × (h.seen ≡ []) → WasOlder start reads sights row (word / 4) content (action_in calls) (after_in calls)
  found_whole f =
      let e : f.0 ≡ word / 4 = omega (arith, f.1) in
      let P : ℕ → Type 0 = λ k. IsFinished start row k (action_in calls) (after_in calls) f.2.0 in
      inr (subst (Some_of Read) (sym (h.reads_are ∙ ap (λ (z : List Finished). z ++ h.rest) f.2.1)) (inl (subst P e f.2.2, f.2.3)))

  -- what an event for the long history is written on from
  pub was_older : WasOlder start reads sights row (word / 4) content (action_in calls) (after_in calls)
  was_older = ⊎_elim found_free found_whole h.found

-- it was written
pub looked_written : (start : Start) (calls : List Call) (row version : ℕ) (content : List ℕ) (word : ℕ) (v w : View) → 10242 ≤ row → version ≡ word / 4 + 1 → w.reads ≡ v.reads → w.sights ≡ v.sights → HasReadOn start calls row content word v.reads v.sights
    → AreLooked start (Rings row content (Done version) ∷ calls) w.reads w.sights
unfolding AreLooked
looked_written start calls row version content word v w long next reads sights h =
    (h.mine, h.rest, reads ∙ h.reads_are, h.seen, h.others, sights ∙ h.sights_are, ((λ low. absurd (omega (arith, low, long))), λ _. (word, next, h.found)), h.looked)

-- or another had the place by then
pub looked_missed : (start : Start) (calls : List Call) (row first second : ℕ) (content : List ℕ) (word : ℕ) (v w : View) → 10242 ≤ row → first ≡ word → w.reads ≡ v.reads → w.sights ≡ sight_of v row first second ∷ v.sights → OnBoard start calls v → HasReadOn start calls row content word v.reads v.sights
    → AreLooked start (Rings row content (Busy first second) ∷ calls) w.reads w.sights
unfolding AreLooked
looked_missed start calls row first second content word v w long from reads sights b h =
    let x : Sight = sight_of v row first second in
    let F : ℕ → Type 0 = λ n. HasFound start calls row content n h.mine h.seen in (
      h.mine,
      h.rest,
      reads ∙ h.reads_are,
      x ∷ h.seen,
      h.others,
      sights ∙ ap (λ (z : List Sight). x ∷ z) h.sights_are,
      (x, h.seen, refl, sighted_now start calls v row first second b, inr (long, subst F (sym from) h.found)),
      h.looked,
    )
