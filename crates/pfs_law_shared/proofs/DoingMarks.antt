-- What a session's actions change, by their numbers: the marks of its calls are the changes of each line under the number
-- of its action.
use Rattle.std.proofs.Common.{ℕ, ◌≡◌, ◌+◌, List, [], ◌∷◌, ◌++◌, length, Option, Some, None, IfSome, refl, ap, sym, ◌∙◌, arith, append-nil}
use Rattle.pfs_board.specs.declared.view.Label.{Label}
use Rattle.pfs_levels.specs.Calls.{Call, Adds, Rings, Reads, Loads, Draws, Takes, Puts, Frees, Sets, Enters, Leaves, Meets, action_in}
use Rattle.pfs_levels.specs.JointCalls.{total, At, at_put, at_free, changes_of, sets_of}
use Rattle.pfs_levels.specs.CallOrder.{Mark, marks_of, word_marks_of}
use Rattle.pfs_levels.specs.declared.answers.Added.TheVariants.{Counted, Held}
use Rattle.pfs_levels.specs.declared.answers.RingPut.TheVariants.{Done, Busy, Late}
use Rattle.pfs_session.specs.SessionStates.{State}
use Rattle.pfs_session.specs.Turns.{state_after}
use Rattle.pfs_law_session.specs.Deeds.{action_of, part_calls}
use Rattle.pfs_law_session.specs.JournalLaws.{AreParts}
use Rattle.pfs_law_plain.specs.Spells.{Doing, around, entering, doing_calls, doings_calls, parts_in, label_of, AreEntered}
use Rattle.pfs_law_joint.specs.Phases.{AreWhole}
use Rattle.pfs_law_joint.specs.Versions.{at_mark, at_set}
use Rattle.pfs_law_shared.proofs.InnerCalls.{AreWithin, turns_within, calls_within}
use Rattle.pfs_law_shared.proofs.WholeActors.{around_whole}

action_then : (xs ys : List Call) → action_in ys ≡ 0 → action_in (xs ++ ys) ≡ action_in xs
action_then [] ys e = e
action_then (Enters label labels ∷ xs) ys e = refl
action_then (Leaves ∷ xs) ys e = refl
action_then (Adds row amount answer ∷ xs) ys e = action_then xs ys e
action_then (Rings row content answer ∷ xs) ys e = action_then xs ys e
action_then (Reads row seen ∷ xs) ys e = action_then xs ys e
action_then (Loads at version flags ∷ xs) ys e = action_then xs ys e
action_then (Draws kind ticket ∷ xs) ys e = action_then xs ys e
action_then (Meets versions ∷ xs) ys e = action_then xs ys e
action_then (Takes row version found ∷ xs) ys e = action_then xs ys e
action_then (Puts row content version ∷ xs) ys e = action_then xs ys e
action_then (Frees row version ∷ xs) ys e = action_then xs ys e
action_then (Sets at flags version ∷ xs) ys e = action_then xs ys e

-- calls that neither begin nor end an action stay in the one that they are in
pub within_action : (xs ys : List Call) → AreWithin xs → action_in (xs ++ ys) ≡ action_in ys
within_action [] ys w = refl
within_action (Enters label labels ∷ xs) ys w = absurd w.0
within_action (Leaves ∷ xs) ys w = absurd w.0
within_action (Adds row amount answer ∷ xs) ys w = within_action xs ys w.1
within_action (Rings row content answer ∷ xs) ys w = within_action xs ys w.1
within_action (Reads row seen ∷ xs) ys w = within_action xs ys w.1
within_action (Loads at version flags ∷ xs) ys w = within_action xs ys w.1
within_action (Draws kind ticket ∷ xs) ys w = within_action xs ys w.1
within_action (Meets versions ∷ xs) ys w = within_action xs ys w.1
within_action (Takes row version found ∷ xs) ys w = within_action xs ys w.1
within_action (Puts row content version ∷ xs) ys w = within_action xs ys w.1
within_action (Frees row version ∷ xs) ys w = within_action xs ys w.1
within_action (Sets at flags version ∷ xs) ys w = within_action xs ys w.1

-- each action's number is that of the labels that it found and its own
abbrev pub AreCounted : List Doing → Type 0
AreCounted [] = Unit {0}
AreCounted (d ∷ ds) = IfSome (action_of d.part.deed) (λ number. number ≡ length d.labels + 1) × AreCounted ds

numbered : (action : Option ℕ) (s : State) (label : Label) (labels : List Label) → IfSome action (λ number. (number ≡ length labels + 1) × (label ≡ label_of s)) → IfSome action (λ number. number ≡ length labels + 1)
numbered None s label labels e = tt
numbered (Some number) s label labels e = e.0

-- the action that such a beginning enters
pub entering_action : (past : List Call) (label : Label) (labels : List Label) (met : Option (List ℕ)) → action_in (entering label labels met ++ past) ≡ length labels + 1
entering_action past label labels None = refl
entering_action past label labels (Some versions) = refl

entered_counted : (s : State) (ds : List Doing) → AreEntered s ds → AreCounted ds
entered_counted s [] entered = tt
entered_counted s (d ∷ ds) entered = (numbered (action_of d.part.deed) s d.label d.labels entered.0, entered_counted (state_after s d.part.turns) ds entered.1)

module _ (g : At → ℕ → ℕ) where
  abbrev pub acted : Mark → ℕ
  acted m = g (at_mark m) m.action

  -- one after another, where the earlier ones end outside an action
  marks_then : (xs ys : List Call) → action_in ys ≡ 0 → total acted (marks_of (xs ++ ys)) ≡ total acted (marks_of xs) + total acted (marks_of ys)
  unfolding total marks_of
  marks_then [] ys e = omega arith
  marks_then (Adds at amount (Counted r v) ∷ xs) ys e = omega (arith, ap (g (at_put r v)) (action_then xs ys e), marks_then xs ys e)
  marks_then (Adds at amount (Held r v w) ∷ xs) ys e = marks_then xs ys e
  marks_then (Rings at content (Done v) ∷ xs) ys e = omega (arith, ap (g (at_put at v)) (action_then xs ys e), marks_then xs ys e)
  marks_then (Rings at content (Busy v w) ∷ xs) ys e = marks_then xs ys e
  marks_then (Rings at content (Late t v) ∷ xs) ys e = marks_then xs ys e
  marks_then (Reads at seen ∷ xs) ys e = marks_then xs ys e
  marks_then (Loads at v found ∷ xs) ys e = marks_then xs ys e
  marks_then (Draws kind ticket ∷ xs) ys e = marks_then xs ys e
  marks_then (Meets versions ∷ xs) ys e = marks_then xs ys e
  marks_then (Takes at v found ∷ xs) ys e = marks_then xs ys e
  marks_then (Puts at content v ∷ xs) ys e = omega (arith, ap (g (at_put at v)) (action_then xs ys e), marks_then xs ys e)
  marks_then (Frees at v ∷ xs) ys e = omega (arith, ap (g (at_free at v)) (action_then xs ys e), marks_then xs ys e)
  marks_then (Sets at to v ∷ xs) ys e = marks_then xs ys e
  marks_then (Enters label labels ∷ xs) ys e = marks_then xs ys e
  marks_then (Leaves ∷ xs) ys e = omega (arith, ap (λ n. g (at_put 0 n) n) (action_then xs ys e), marks_then xs ys e)

  words_then : (xs ys : List Call) → action_in ys ≡ 0 → total acted (word_marks_of (xs ++ ys)) ≡ total acted (word_marks_of xs) + total acted (word_marks_of ys)
  unfolding total word_marks_of
  words_then [] ys e = omega arith
  words_then (Sets at to v ∷ xs) ys e = omega (arith, ap (g (at_put at v)) (action_then xs ys e), words_then xs ys e)
  words_then (Adds at amount answer ∷ xs) ys e = words_then xs ys e
  words_then (Rings at content answer ∷ xs) ys e = words_then xs ys e
  words_then (Reads at seen ∷ xs) ys e = words_then xs ys e
  words_then (Loads at v found ∷ xs) ys e = words_then xs ys e
  words_then (Draws kind ticket ∷ xs) ys e = words_then xs ys e
  words_then (Meets versions ∷ xs) ys e = words_then xs ys e
  words_then (Takes at v found ∷ xs) ys e = words_then xs ys e
  words_then (Puts at content v ∷ xs) ys e = words_then xs ys e
  words_then (Frees at v ∷ xs) ys e = words_then xs ys e
  words_then (Enters label labels ∷ xs) ys e = words_then xs ys e
  words_then (Leaves ∷ xs) ys e = words_then xs ys e

  -- all in one action, or in none
  within_marks : (number : ℕ) (past calls : List Call) → AreWithin calls → action_in past ≡ number → total acted (marks_of past) ≡ 0
      → total acted (marks_of (calls ++ past)) ≡ total (λ x. g x number) (changes_of calls)
  unfolding total marks_of changes_of
  within_marks number past [] w e none = none
  within_marks number past (Enters label labels ∷ calls) w e none = absurd w.0
  within_marks number past (Leaves ∷ calls) w e none = absurd w.0
  within_marks number past (Adds at amount (Counted r v) ∷ calls) w e none = omega (arith, ap (g (at_put r v)) (within_action calls past w.1 ∙ e), within_marks number past calls w.1 e none)
  within_marks number past (Adds at amount (Held r v x) ∷ calls) w e none = within_marks number past calls w.1 e none
  within_marks number past (Rings at content (Done v) ∷ calls) w e none = omega (arith, ap (g (at_put at v)) (within_action calls past w.1 ∙ e), within_marks number past calls w.1 e none)
  within_marks number past (Rings at content (Busy v x) ∷ calls) w e none = within_marks number past calls w.1 e none
  within_marks number past (Rings at content (Late t v) ∷ calls) w e none = within_marks number past calls w.1 e none
  within_marks number past (Reads at seen ∷ calls) w e none = within_marks number past calls w.1 e none
  within_marks number past (Loads at v found ∷ calls) w e none = within_marks number past calls w.1 e none
  within_marks number past (Draws kind ticket ∷ calls) w e none = within_marks number past calls w.1 e none
  within_marks number past (Meets versions ∷ calls) w e none = within_marks number past calls w.1 e none
  within_marks number past (Takes at v found ∷ calls) w e none = within_marks number past calls w.1 e none
  within_marks number past (Puts at content v ∷ calls) w e none = omega (arith, ap (g (at_put at v)) (within_action calls past w.1 ∙ e), within_marks number past calls w.1 e none)
  within_marks number past (Frees at v ∷ calls) w e none = omega (arith, ap (g (at_free at v)) (within_action calls past w.1 ∙ e), within_marks number past calls w.1 e none)
  within_marks number past (Sets at to v ∷ calls) w e none = within_marks number past calls w.1 e none

  within_words : (number : ℕ) (past calls : List Call) → AreWithin calls → action_in past ≡ number → total acted (word_marks_of past) ≡ 0
      → total acted (word_marks_of (calls ++ past)) ≡ total (λ s. g (at_set s) number) (sets_of calls)
  unfolding total word_marks_of sets_of
  within_words number past [] w e none = none
  within_words number past (Enters label labels ∷ calls) w e none = absurd w.0
  within_words number past (Leaves ∷ calls) w e none = absurd w.0
  within_words number past (Sets at to v ∷ calls) w e none = omega (arith, ap (g (at_put at v)) (within_action calls past w.1 ∙ e), within_words number past calls w.1 e none)
  within_words number past (Adds at amount answer ∷ calls) w e none = within_words number past calls w.1 e none
  within_words number past (Rings at content answer ∷ calls) w e none = within_words number past calls w.1 e none
  within_words number past (Reads at seen ∷ calls) w e none = within_words number past calls w.1 e none
  within_words number past (Loads at v found ∷ calls) w e none = within_words number past calls w.1 e none
  within_words number past (Draws kind ticket ∷ calls) w e none = within_words number past calls w.1 e none
  within_words number past (Meets versions ∷ calls) w e none = within_words number past calls w.1 e none
  within_words number past (Takes at v found ∷ calls) w e none = within_words number past calls w.1 e none
  within_words number past (Puts at content v ∷ calls) w e none = within_words number past calls w.1 e none
  within_words number past (Frees at v ∷ calls) w e none = within_words number past calls w.1 e none

  -- the number under which a line changes something, and the version that its action makes of row 0
  abbrev pub number_of : Option ℕ → ℕ
  number_of None = 0
  number_of (Some number) = number

  abbrev pub own_number : Option ℕ → ℕ
  own_number None = 0
  own_number (Some number) = g (at_put 0 number) number

  abbrev pub doing_weigh : Doing → ℕ
  doing_weigh d = own_number (action_of d.part.deed) + total (λ x. g x (number_of (action_of d.part.deed))) (changes_of (part_calls d.part))

  abbrev pub doing_sets : Doing → ℕ
  doing_sets d = total (λ s. g (at_set s) (number_of (action_of d.part.deed))) (sets_of (part_calls d.part))

  around_marks : (label : Label) (labels : List Label) (met : Option (List ℕ)) (action : Option ℕ) (calls : List Call) → AreWithin calls → IfSome action (λ number. number ≡ length labels + 1)
      → total acted (marks_of (around label labels met action calls)) ≡ own_number action + total (λ x. g x (number_of action)) (changes_of calls)
  unfolding total marks_of
  around_marks label labels met None calls w e =
      let here : total acted (marks_of (calls ++ [])) ≡ total (λ x. g x 0) (changes_of calls) = within_marks 0 [] calls w refl refl in
      let same = ap (λ z. total acted (marks_of z)) (append-nil calls) in
      omega (arith, here, same)
  around_marks label labels None (Some number) calls w e =
      let here = within_marks number (entering label labels None) calls w (sym e) refl in
      omega (arith, here, ap (λ n. g (at_put 0 n) n) (within_action calls (entering label labels None) w ∙ sym e))
  around_marks label labels (Some versions) (Some number) calls w e =
      let here = within_marks number (entering label labels (Some versions)) calls w (sym e) refl in
      omega (arith, here, ap (λ n. g (at_put 0 n) n) (within_action calls (entering label labels (Some versions)) w ∙ sym e))

  around_words : (label : Label) (labels : List Label) (met : Option (List ℕ)) (action : Option ℕ) (calls : List Call) → AreWithin calls → IfSome action (λ number. number ≡ length labels + 1)
      → total acted (word_marks_of (around label labels met action calls)) ≡ total (λ s. g (at_set s) (number_of action)) (sets_of calls)
  unfolding total word_marks_of
  around_words label labels met None calls w e = sym (ap (λ z. total acted (word_marks_of z)) (append-nil calls)) ∙ within_words 0 [] calls w refl refl
  around_words label labels None (Some number) calls w e = within_words number (entering label labels None) calls w (sym e) refl
  around_words label labels (Some versions) (Some number) calls w e = within_words number (entering label labels (Some versions)) calls w (sym e) refl

  abbrev pub doings_weigh : List Doing → ℕ
  doings_weigh [] = 0
  doings_weigh (d ∷ ds) = doing_weigh d + doings_weigh ds

  abbrev pub doings_sets : List Doing → ℕ
  doings_sets [] = 0
  doings_sets (d ∷ ds) = doing_sets d + doings_sets ds

  pub counted_marks : (s : State) (ds : List Doing) → AreParts s (parts_in ds) → AreCounted ds → total acted (marks_of (doings_calls ds)) ≡ doings_weigh ds
  unfolding total marks_of
  counted_marks s [] are counts = refl
  counted_marks s (d ∷ ds) are counts =
      let w = calls_within d.part.turns (turns_within s d.part.turns are.0.are_turns) in
      let whole : AreWhole (doing_calls d) = around_whole d.label d.labels d.met (action_of d.part.deed) (part_calls d.part) w in
      let a = marks_then (doings_calls ds) (doing_calls d) whole.ended in
      let b = around_marks d.label d.labels d.met (action_of d.part.deed) (part_calls d.part) w counts.0 in
      omega (arith, a, b, counted_marks (state_after s d.part.turns) ds are.1 counts.1)

  pub doings_marks : (s : State) (ds : List Doing) → AreParts s (parts_in ds) → AreEntered s ds → total acted (marks_of (doings_calls ds)) ≡ doings_weigh ds
  doings_marks s ds are entered = counted_marks s ds are (entered_counted s ds entered)

  pub doings_words : (s : State) (ds : List Doing) → AreParts s (parts_in ds) → AreEntered s ds → total acted (word_marks_of (doings_calls ds)) ≡ doings_sets ds
  unfolding total word_marks_of
  doings_words s [] are entered = refl
  doings_words s (d ∷ ds) are entered =
      let w = calls_within d.part.turns (turns_within s d.part.turns are.0.are_turns) in
      let whole : AreWhole (doing_calls d) = around_whole d.label d.labels d.met (action_of d.part.deed) (part_calls d.part) w in
      let a = words_then (doings_calls ds) (doing_calls d) whole.ended in
      let b = around_words d.label d.labels d.met (action_of d.part.deed) (part_calls d.part) w (numbered (action_of d.part.deed) s d.label d.labels entered.0) in
      omega (arith, a, b, doings_words (state_after s d.part.turns) ds are.1 entered.1)
