-- Floors of a plain store's calls, actor by actor.
use Rattle.std.proofs.Common.{ℕ, ◌⊎◌, inl, inr, ◌≡◌, ◌<◌, ◌≤◌, ◌/◌, ◌==◌, false, true, List, [], ◌∷◌, ◌++◌, length, refl, ap, sym, ◌∙◌, subst, arith, append_assoc}
use Rattle.pfs_rows.specs.declared.table.Seen.TheVariants.{Whole, Free}
use Rattle.pfs_rows.specs.declared.table.Seen.TheVariants as sees
use Rattle.pfs_levels.specs.declared.answers.Added.TheVariants.{Counted, Held}
use Rattle.pfs_levels.specs.declared.answers.RingPut.TheVariants.{Done, Busy, Late}
use Rattle.pfs_levels.specs.declared.plain.Slot.{Slot}
use Rattle.pfs_levels.specs.declared.answers.Word.{Word}
use Rattle.pfs_levels.specs.Calls.{Call, Adds, Rings, Reads, Loads, Draws, Takes, Puts, Frees, Sets, Enters, Leaves, Meets, action_in, after_in, label_in}
use Rattle.pfs_levels.specs.JointCalls.{total, sets_of, word_version, all_calls}
use Rattle.pfs_levels.specs.CallOrder.{Mark, mark, marks_by, marks_of, all_marks, word_marks_by, word_marks_of, all_word_marks, marked, AreMarked, reaching, freed, IsFloored, AreFloored, AllCalls}
use Rattle.pfs_levels.specs.PlainStore.{ops_of, slot_after, AllAnswer, puts_in, labels_after}
use Rattle.pfs_levels.specs.PlainCalls.{AllOutside}
use Rattle.pfs_levels.proofs.PlainFloors.{not_past, above_more, reaching_more, none_above, none_reaching, KnowUpTo, know_more, all_know_more, floors_kept, all_floors_kept, marks_later, word_marks_later, unfreed_put, unfreed_hold, unfreed_free}
use Rattle.pfs_levels.proofs.PlainChanges.{plain_words}
use Rattle.pfs_levels.proofs.PlainOrder.{marks_count, word_marks_count, IsInside, inside, after_low, at_count, marks_chain, word_marks_chain, ended_more}
use Rattle.pfs_levels.proofs.PlainContents.{versions, word_versions}

-- what earlier actors left: their marks count as the fold does, and none of them is in an action
pub record Left (flags : List ℕ) (rest : List Call) (log words : List Mark) : Type 0 where
  pub idle : (slot_after (ops_of rest) 0).taken ≡ false
  pub rows : (r : ℕ) → marked log r ≡ puts_in (ops_of rest) r
  pub sets : (w : ℕ) → marked words w ≡ word_version (sets_of rest) w
  pub chain : AreMarked log
  pub word_chain : AreMarked words
  pub unfreed : (row after : ℕ) → (slot_after (ops_of rest) row).allocated ≡ true → freed log row (puts_in (ops_of rest) row) after ≡ 0

unfreed : (flags : List ℕ) (calls rest : List Call) (log words : List Mark) → AllAnswer flags (calls ++ rest) → Left flags rest log words → (row after : ℕ)
    → (slot_after (ops_of (calls ++ rest)) row).allocated ≡ true → freed (marks_of calls ++ log) row (puts_in (ops_of (calls ++ rest)) row) after ≡ 0
unfolding ops_of marks_of slot_after puts_in
unfreed flags [] rest log words a l row after whole = l.unfreed row after whole
unfreed flags (Adds at amount (Counted r v) ∷ calls) rest log words a l row after whole =
    unfreed_put row r _ after _ (marks_of calls ++ log) _ _ refl refl (marks_chain flags calls rest log a.1 l.idle l.rows l.chain) (marks_count calls rest log row (l.rows row)) (unfreed flags calls rest log words a.1 l row after) whole
unfreed flags (Adds at amount (Held r v w) ∷ calls) rest log words a l row after whole = absurd a.0
unfreed flags (Rings at content (Done v) ∷ calls) rest log words a l row after whole =
    unfreed_put row at _ after _ (marks_of calls ++ log) _ _ refl refl (marks_chain flags calls rest log a.1 l.idle l.rows l.chain) (marks_count calls rest log row (l.rows row)) (unfreed flags calls rest log words a.1 l row after) whole
unfreed flags (Rings at content (Busy v w) ∷ calls) rest log words a l row after whole = absurd a.0
unfreed flags (Rings at content (Late t v) ∷ calls) rest log words a l row after whole = unfreed flags calls rest log words a.1 l row after whole
unfreed flags (Reads at seen ∷ calls) rest log words a l row after whole = unfreed flags calls rest log words a.1 l row after whole
unfreed flags (Loads at v found ∷ calls) rest log words a l row after whole = unfreed flags calls rest log words a.1 l row after whole
unfreed flags (Draws kind ticket ∷ calls) rest log words a l row after whole = unfreed flags calls rest log words a.1 l row after whole
unfreed flags (Meets versions ∷ calls) rest log words a l row after whole = unfreed flags calls rest log words a.1 l row after whole
unfreed flags (Takes at v found ∷ calls) rest log words a l row after whole = unfreed_hold (at == row) _ row after (marks_of calls ++ log) _ (unfreed flags calls rest log words a.1 l row after) whole
unfreed flags (Puts at content v ∷ calls) rest log words a l row after whole =
    unfreed_put row at _ after _ (marks_of calls ++ log) _ _ refl refl (marks_chain flags calls rest log a.1 l.idle l.rows l.chain) (marks_count calls rest log row (l.rows row)) (unfreed flags calls rest log words a.1 l row after) whole
unfreed flags (Frees at v ∷ calls) rest log words a l row after whole = unfreed_free row at _ after _ (marks_of calls ++ log) _ refl (unfreed flags calls rest log words a.1 l row after) whole
unfreed flags (Sets at to v ∷ calls) rest log words a l row after whole = unfreed flags calls rest log words a.1 l row after whole
unfreed flags (Enters label labels ∷ calls) rest log words a l row after whole = unfreed_hold (0 == row) _ row after (marks_of calls ++ log) _ (unfreed flags calls rest log words a.1 l row after) whole
unfreed flags (Leaves ∷ calls) rest log words a l row after whole =
    unfreed_put row 0 _ after _ (marks_of calls ++ log) _ _ refl refl (marks_chain flags calls rest log a.1 l.idle l.rows l.chain) (marks_count calls rest log row (l.rows row)) (unfreed flags calls rest log words a.1 l row after) whole

-- no action is above those that ended but the actor's own
pub later_is : (s : Slot) (action ended : ℕ) → IsInside s action ended → (action ≡ 0) ⊎ (ended < action)
later_is s action ended (inl h) = inl h.1
later_is s action ended (inr h) = inr (omega (arith, h.1))

-- the floor of the newest call
newest : (flags : List ℕ) (call : Call) (calls rest : List Call) (log words : List Mark) → AllAnswer flags (call ∷ (calls ++ rest)) → Left flags rest log words
    → IsFloored (marks_by (action_in calls) (after_in calls) call ++ (marks_of calls ++ log)) (word_marks_by (action_in calls) (after_in calls) call ++ (word_marks_of calls ++ words)) (after_in calls) call
newest flags (Adds at amount (Counted r v)) calls rest log words a l =
    let m = marks_chain flags calls rest log a.1 l.idle l.rows l.chain in
    let known = after_low flags calls rest a.1 l.idle in
    let later = later_is (slot_after (ops_of (calls ++ rest)) 0) (action_in calls) (length (labels_after (calls ++ rest))) (inside flags calls rest a.1 l.idle) in
    let P : ℕ → Type 0 = λ z. reaching (mark z v true (action_in calls) (after_in calls) ∷ (marks_of calls ++ log)) z v (after_in calls) ≡ 0 in
    subst P (sym a.0.1) (reaching_more (mark at v true (action_in calls) (after_in calls)) (marks_of calls ++ log) at v (after_in calls) (not_past at (after_in calls) (length (labels_after (calls ++ rest))) (mark at v true (action_in calls) (after_in calls)) known later)
    (none_reaching (marks_of calls ++ log) at v (after_in calls) m (omega (arith, a.0.3, at_count calls rest log at l.rows))))
newest flags (Adds at amount (Held r v w)) calls rest log words a l = tt
newest flags (Rings at content (Done v)) calls rest log words a l =
    let m = marks_chain flags calls rest log a.1 l.idle l.rows l.chain in
    let known = after_low flags calls rest a.1 l.idle in
    let later = later_is (slot_after (ops_of (calls ++ rest)) 0) (action_in calls) (length (labels_after (calls ++ rest))) (inside flags calls rest a.1 l.idle) in
    reaching_more (mark at v true (action_in calls) (after_in calls)) (marks_of calls ++ log) at v (after_in calls) (not_past at (after_in calls) (length (labels_after (calls ++ rest))) (mark at v true (action_in calls) (after_in calls)) known later)
    (none_reaching (marks_of calls ++ log) at v (after_in calls) m (omega (arith, a.0.2, at_count calls rest log at l.rows)))
newest flags (Rings at content (Busy v w)) calls rest log words a l = tt
newest flags (Rings at content (Late t v)) calls rest log words a l =
    none_above (marks_of calls ++ log) at v (after_in calls) (marks_chain flags calls rest log a.1 l.idle l.rows l.chain) (omega (arith, a.0.5, at_count calls rest log at l.rows))
newest flags (Reads at (Whole v found)) calls rest log words a l =
    let m = marks_chain flags calls rest log a.1 l.idle l.rows l.chain in
    let F : ℕ → Type 0 = λ k. freed (marks_of calls ++ log) at k (after_in calls) ≡ 0 in (
      none_above (marks_of calls ++ log) at v (after_in calls) m (omega (arith, a.0.2, at_count calls rest log at l.rows)),
      subst F (sym (a.0.2 ∙ versions (ops_of (calls ++ rest)) at)) (unfreed flags calls rest log words a.1 l at (after_in calls) a.0.1),
    )
newest flags (Reads at (Free w)) calls rest log words a l =
    none_above (marks_of calls ++ log) at (w / 4) (after_in calls) (marks_chain flags calls rest log a.1 l.idle l.rows l.chain) (omega (arith, a.0.2, at_count calls rest log at l.rows))
newest flags (Reads at (sees.Busy v w)) calls rest log words a l = tt
newest flags (Loads at v found) calls rest log words a l =
    none_above (word_marks_of calls ++ words) at v (after_in calls) (word_marks_chain flags calls rest words a.1 l.sets l.word_chain)
    (omega (arith, ap (λ (y : Word). y.version) a.0.1, word_versions flags (sets_of (calls ++ rest)) at (plain_words flags (calls ++ rest) a.1), word_marks_count calls rest words at (l.sets at)))
newest flags (Draws kind ticket) calls rest log words a l = tt
newest flags (Meets versions) calls rest log words a l = absurd a.0
newest flags (Takes at v found) calls rest log words a l =
    none_above (marks_of calls ++ log) at v (after_in calls) (marks_chain flags calls rest log a.1 l.idle l.rows l.chain) (omega (arith, a.0.2, at_count calls rest log at l.rows))
newest flags (Puts at content v) calls rest log words a l =
    let m = marks_chain flags calls rest log a.1 l.idle l.rows l.chain in
    let known = after_low flags calls rest a.1 l.idle in
    let later = later_is (slot_after (ops_of (calls ++ rest)) 0) (action_in calls) (length (labels_after (calls ++ rest))) (inside flags calls rest a.1 l.idle) in
    reaching_more (mark at v true (action_in calls) (after_in calls)) (marks_of calls ++ log) at v (after_in calls) (not_past at (after_in calls) (length (labels_after (calls ++ rest))) (mark at v true (action_in calls) (after_in calls)) known later)
    (none_reaching (marks_of calls ++ log) at v (after_in calls) m (omega (arith, a.0.2, at_count calls rest log at l.rows)))
newest flags (Frees at v) calls rest log words a l =
    let m = marks_chain flags calls rest log a.1 l.idle l.rows l.chain in
    let known = after_low flags calls rest a.1 l.idle in
    let later = later_is (slot_after (ops_of (calls ++ rest)) 0) (action_in calls) (length (labels_after (calls ++ rest))) (inside flags calls rest a.1 l.idle) in
    above_more (mark at v false (action_in calls) (after_in calls)) (marks_of calls ++ log) at v (after_in calls) (not_past at (after_in calls) (length (labels_after (calls ++ rest))) (mark at v false (action_in calls) (after_in calls)) known later)
    (none_above (marks_of calls ++ log) at v (after_in calls) m (omega (arith, a.0.2, at_count calls rest log at l.rows)))
newest flags (Sets at to v) calls rest log words a l =
    let m = word_marks_chain flags calls rest words a.1 l.sets l.word_chain in
    let known = after_low flags calls rest a.1 l.idle in
    let later = later_is (slot_after (ops_of (calls ++ rest)) 0) (action_in calls) (length (labels_after (calls ++ rest))) (inside flags calls rest a.1 l.idle) in
    reaching_more (mark at v true (action_in calls) (after_in calls)) (word_marks_of calls ++ words) at v (after_in calls) (not_past at (after_in calls) (length (labels_after (calls ++ rest))) (mark at v true (action_in calls) (after_in calls)) known later)
    (none_reaching (word_marks_of calls ++ words) at v (after_in calls) m
    (omega (arith, a.0.1, word_versions flags (sets_of (calls ++ rest)) at (plain_words flags (calls ++ rest) a.1), word_marks_count calls rest words at (l.sets at))))
newest flags (Enters label labels) calls rest log words a l = tt
newest flags Leaves calls rest log words a l = tt

-- labels are only added
pub labels_grow : (call : Call) (calls : List Call) → length (labels_after calls) ≤ length (labels_after (call ∷ calls))
unfolding labels_after
labels_grow Leaves calls = omega (arith, ended_more (labels_after calls) (label_in calls))
labels_grow (Adds at amount answer) calls = omega arith
labels_grow (Rings at content answer) calls = omega arith
labels_grow (Reads at seen) calls = omega arith
labels_grow (Loads at v found) calls = omega arith
labels_grow (Draws kind ticket) calls = omega arith
labels_grow (Meets versions) calls = omega arith
labels_grow (Takes at v found) calls = omega arith
labels_grow (Puts at content v) calls = omega arith
labels_grow (Frees at v) calls = omega arith
labels_grow (Sets at to v) calls = omega arith
labels_grow (Enters label labels) calls = omega arith

pub answers_rest : (flags : List ℕ) (calls rest : List Call) → AllAnswer flags (calls ++ rest) → AllAnswer flags rest
answers_rest flags [] rest a = a
answers_rest flags (call ∷ calls) rest a = answers_rest flags calls rest a.1

abbrev pub Floors : List (List Call) → List Mark → List Mark → Type 0
Floors actors log words = AllCalls (AreFloored log words) actors

-- one actor after those before it
pub floors_of : (flags : List ℕ) (calls rest : List Call) (before : List (List Call)) (log words : List Mark) → AllAnswer flags (calls ++ rest) → Left flags rest log words → Floors before log words → AllCalls (KnowUpTo (length (labels_after rest))) before
    → Floors (calls ∷ before) (marks_of calls ++ log) (word_marks_of calls ++ words) × AllCalls (KnowUpTo (length (labels_after (calls ++ rest)))) (calls ∷ before)
unfolding marks_of word_marks_of
floors_of flags [] rest before log words a l f k = ((tt, f), (tt, k))
floors_of flags (call ∷ calls) rest before log words a l f k =
    let old = floors_of flags calls rest before log words a.1 l f k in
    let ended = length (labels_after (calls ++ rest)) in
    let later = later_is (slot_after (ops_of (calls ++ rest)) 0) (action_in calls) ended (inside flags calls rest a.1 l.idle) in
    let ps = marks_by (action_in calls) (after_in calls) call in
    let qs = word_marks_by (action_in calls) (after_in calls) call in
    let lp = marks_later (action_in calls) (after_in calls) ended call later in
    let lq = word_marks_later (action_in calls) (after_in calls) ended call later in
    let grown : ended ≤ length (labels_after (call ∷ (calls ++ rest))) = labels_grow call (calls ++ rest) in
    let now : Floors ((call ∷ calls) ∷ before) (ps ++ (marks_of calls ++ log)) (qs ++ (word_marks_of calls ++ words)) = (
      (newest flags call calls rest log words a l, floors_kept ps qs (marks_of calls ++ log) (word_marks_of calls ++ words) ended calls old.1.0 lp lq old.0.0),
      all_floors_kept ps qs (marks_of calls ++ log) (word_marks_of calls ++ words) ended before old.1.1 lp lq old.0.1,
    ) in
    let P : List Mark → Type 0 = λ z. Floors ((call ∷ calls) ∷ before) z (qs ++ (word_marks_of calls ++ words)) in
    let Q : List Mark → Type 0 = λ z. Floors ((call ∷ calls) ∷ before) ((ps ++ marks_of calls) ++ log) z in (
      subst Q (sym (append_assoc qs (word_marks_of calls) words)) (subst P (sym (append_assoc ps (marks_of calls) log)) now),
      ((omega (arith, after_low flags calls rest a.1 l.idle, grown), know_more ended _ calls grown old.1.0), all_know_more ended _ before grown old.1.1),
    )

ended_idle : (s : Slot) (action ended : ℕ) → action ≡ 0 → IsInside s action ended → s.taken ≡ false
ended_idle s action ended out (inl h) = h.0
ended_idle s action ended out (inr h) = absurd (omega (arith, out, h.1))

-- an actor that ended leaves it so
left_by : (flags : List ℕ) (calls rest : List Call) (log words : List Mark) → AllAnswer flags (calls ++ rest) → action_in calls ≡ 0 → Left flags rest log words → Left flags (calls ++ rest) (marks_of calls ++ log) (word_marks_of calls ++ words)
left_by flags calls rest log words a out l = record {
  idle = ended_idle (slot_after (ops_of (calls ++ rest)) 0) (action_in calls) (length (labels_after (calls ++ rest))) out (inside flags calls rest a l.idle);
  rows = λ r. marks_count calls rest log r (l.rows r);
  sets = λ w. word_marks_count calls rest words w (l.sets w);
  chain = marks_chain flags calls rest log a l.idle l.rows l.chain;
  word_chain = word_marks_chain flags calls rest words a l.sets l.word_chain;
  unfreed = unfreed flags calls rest log words a l;
}

left_none : (flags : List ℕ) → Left flags [] [] []
unfolding ops_of sets_of slot_after puts_in marked word_version total
left_none flags = record {
  idle = refl;
  rows = λ r. refl;
  sets = λ w. refl;
  chain = tt;
  word_chain = tt;
  unfreed = λ row after whole. refl;
}

pub record Stood (flags : List ℕ) (actors : List (List Call)) : Type 0 where
  pub left : Left flags (all_calls actors) (all_marks actors) (all_word_marks actors)
  pub floors : AllCalls (AreFloored (all_marks actors) (all_word_marks actors)) actors
  pub knows : AllCalls (KnowUpTo (length (labels_after (all_calls actors)))) actors

pub stood : (flags : List ℕ) (actors : List (List Call)) → AllAnswer flags (all_calls actors) → AllOutside actors → Stood flags actors
unfolding all_calls all_marks all_word_marks
stood flags [] a out = record { left = left_none flags; floors = tt; knows = tt }
stood flags (calls ∷ actors) a out =
    let s = stood flags actors (answers_rest flags calls (all_calls actors) a) out.1 in
    let f = floors_of flags calls (all_calls actors) actors (all_marks actors) (all_word_marks actors) a s.left s.floors s.knows in
    record {
      left = left_by flags calls (all_calls actors) (all_marks actors) (all_word_marks actors) a out.0 s.left;
      floors = f.0;
      knows = f.1;
    }
