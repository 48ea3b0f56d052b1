-- Three actors in two phases, worked: one adds to a row; then one takes the row and puts it back in an action, and puts
-- an event with a greater ticket to a long place, while another is held there, comes late, and adds the amount behind
-- both, in an action that knows the other's as ended. All that the laws ask of them holds.
use Rattle.std.proofs.Common.{ℕ, ◌≡◌, ◌+◌, ◌==◌, ◌&&◌, ◌||◌, Bool, true, false, cond, List, [], ◌∷◌, ◌++◌, inl, inr, replicate, refl, ap, sym, arith, lit<, lit≤, eqb-true}
use Rattle.pfs_board.specs.declared.view.Label.{Label}
use Rattle.pfs_stat.specs.declared.Stat.{Stat}
use Rattle.pfs_levels.specs.declared.answers.Added.TheVariants.{Counted, Held}
use Rattle.pfs_levels.specs.declared.answers.RingPut.TheVariants.{Done, Late}
use Rattle.pfs_levels.specs.Calls.{Call, Adds, Rings, Takes, Puts, Enters, Leaves}
use Rattle.pfs_levels.specs.RowWords.{merged, zero_words, opening_content}
use Rattle.pfs_levels.specs.JointCalls.{total, At, at_put, count, changes_of, sets_of, draws_of, all_calls, Joint}
use Rattle.pfs_levels.specs.CallOrder.{Mark, mark, marked, marks_of, all_marks, word_marks_of, all_word_marks, IsCaused, Order}
use Rattle.pfs_law_joint.specs.Phases.{IsShared, HaveEnded, AreWhole, Moment}
use Rattle.pfs_law_joint.specs.Causes.{WasOthers}
use Rattle.pfs_law_joint.specs.Floors.{IsAbove}
use Rattle.pfs_law_joint.proofs.Causes.{causes, others}
use Rattle.pfs_law_joint.proofs.Floors.{floors_kept}

abbrev event : ℕ → List ℕ
event ticket = replicate 15 0 ++ (ticket + 1) ∷ []

module _ (amount : Stat) (one two three : Label) where
  -- the first adds, and does the first action
  abbrev pub first : List Call
  first = Leaves ∷ Enters one [] ∷ Adds 129 amount (Counted 129 1) ∷ []

  -- the second puts ticket 1000, and takes the row and puts it back in the second action
  abbrev pub second : List Call
  second = Leaves ∷ Puts 129 zero_words 2 ∷ Takes 129 1 (merged zero_words amount) ∷ Enters two (one ∷ []) ∷ Rings 10242 (event 1000) (Done 1) ∷ []

  -- the third finds the row in its hand, comes late with ticket 0, and adds in the third action
  abbrev pub third : List Call
  third = Leaves ∷ Adds 129 amount (Counted 129 3) ∷ Enters three (one ∷ two ∷ []) ∷ Rings 10242 (event 0) (Late 1000 1) ∷ Adds 129 amount (Held 129 5 5) ∷ []

  abbrev pub before : List (List Call)
  before = first ∷ []

  abbrev pub now : List (List Call)
  now = third ∷ second ∷ []

  abbrev content : ℕ → ℕ → List ℕ
  content row version =
      cond (row == 129) (cond ((version == 1) || (version == 3)) (merged zero_words amount) zero_words)
      (cond ((row == 10242) && (version == 1)) (event 1000) (opening_content row))

  abbrev changes : List At
  changes = at_put 129 3 ∷ at_put 129 2 ∷ at_put 10242 1 ∷ at_put 129 1 ∷ []

  abbrev marks : List Mark
  marks = mark 0 3 true 3 2 ∷ mark 129 3 true 3 2 ∷ mark 0 2 true 2 1 ∷ mark 129 2 true 2 1 ∷ mark 10242 1 true 0 0 ∷ mark 0 1 true 1 0 ∷ mark 129 1 true 0 0 ∷ []

  opens : (row : ℕ) → content row 0 ≡ opening_content row
  opens row = at (row == 129) refl (row == 10242) where
    at : (b : Bool) → (row == 129) ≡ b → (c : Bool)
        → cond b (cond ((0 == 1) || (0 == 3)) (merged zero_words amount) zero_words) (cond (c && (0 == 1)) (event 1000) (opening_content row)) ≡ opening_content row
    at true e c = sym (ap opening_content (eqb-true row 129 e))
    at false e true = refl
    at false e false = refl

  joint : Joint [] (now ++ before) content changes [] []
  unfolding total count changes_of sets_of draws_of all_calls
  joint = record {
    chain = (refl, (refl, (refl, (refl, tt))));
    words = tt;
    tickets = tt;
    opens = λ row up low. opens row;
    once = λ h. refl;
    sets_once = λ h. refl;
    draws_once = λ h. refl;
    agrees = (tt, ((2, (refl, refl)), (tt, ((refl, lit≤ tt), (tt, (tt, (refl, ((refl, lit≤ tt), (tt, ((0, (refl, refl, λ high. inl (lit< tt))), (tt, (tt, ((0, (refl, refl)), tt)))))))))))));
  }

  was_held : IsCaused marks (marks_of third) 129 5 5 0
  unfolding total marked marks_of
  was_held = record {
    states = (lit< tt, lit< tt);
    order = inl (refl, refl);
    known = lit≤ tt;
    floor = refl;
    between = refl;
    first_dirty = λ dirty. inl (refl, lit< tt);
    second_dirty = λ dirty. inl (refl, lit< tt);
    second_free = λ free. absurd (omega (arith, free));
  }

  order : Order (now ++ before) marks [] (one ∷ two ∷ three ∷ [])
  unfolding total marked marks_of all_marks word_marks_of all_word_marks
  order = record {
    chain = (refl, (refl, (refl, (refl, (refl, (refl, (refl, tt)))))));
    word_chain = tt;
    ordered = (refl, (refl, (refl, (refl, (refl, (refl, (refl, tt)))))));
    once = λ h. refl;
    words_once = λ h. refl;
    ended = refl;
    floored = ((tt, (refl, (tt, (refl, (tt, tt))))), ((tt, (refl, (refl, (tt, (refl, tt))))), ((tt, (tt, (refl, tt))), tt)));
    rising = ((lit< tt, (lit< tt, (lit≤ tt, (lit≤ tt, ((lit≤ tt, lit≤ tt), tt))))), ((lit< tt, (lit< tt, (lit≤ tt, (lit≤ tt, (lit< tt, tt))))), ((lit< tt, (lit≤ tt, (lit< tt, tt))), tt)));
    there = ((tt, (lit< tt, (tt, (lit< tt, (lit< tt, tt))))), ((tt, (lit< tt, (lit< tt, (tt, (lit< tt, tt))))), ((tt, (tt, (lit< tt, tt))), tt)));
    caused = ((tt, (tt, (tt, (tt, (was_held, tt))))), ((tt, (tt, (tt, (tt, (tt, tt))))), ((tt, (tt, (tt, tt))), tt)));
    named = ((refl, (tt, ((three ∷ [], refl), (tt, (tt, tt))))), ((refl, (tt, (tt, ((two ∷ three ∷ [], refl), (tt, tt))))), ((refl, ((one ∷ two ∷ three ∷ [], refl), (tt, tt))), tt)));
  }

  pub shared : IsShared [] before now
  unfolding count changes_of sets_of all_calls
  shared = record {
    content = content;
    log = changes;
    sets = [];
    draws = [];
    marks = marks;
    words = [];
    labels = one ∷ two ∷ three ∷ [];
    joint = joint;
    order = order;
    since = ((tt, (lit< tt, (tt, (lit≤ tt, (lit≤ tt, tt))))), ((tt, (lit< tt, (lit≤ tt, (tt, (lit< tt, tt))))), tt));
  }

  pub ended : HaveEnded before
  unfolding total marked marks_of all_marks word_marks_of all_word_marks
  ended = record {
    marks = mark 0 1 true 1 0 ∷ mark 129 1 true 0 0 ∷ [];
    words = [];
    chain = (refl, (refl, tt));
    word_chain = tt;
    once = λ h. refl;
    words_once = λ h. refl;
  }

  pub third_whole : AreWhole third
  third_whole = record { outside = (tt, (tt, (refl, (tt, (tt, tt))))); ended = refl }

  pub second_whole : AreWhole second
  second_whole = record { outside = (tt, (tt, (tt, (refl, (tt, tt))))); ended = refl }

  -- the addition that was held, and the one that was counted behind it
  abbrev pub held : Moment
  held = record {
    front = [];
    later = Leaves ∷ Adds 129 amount (Counted 129 3) ∷ Enters three (one ∷ two ∷ []) ∷ Rings 10242 (event 0) (Late 1000 1) ∷ [];
    call = Adds 129 amount (Held 129 5 5);
    earlier = [];
    behind = second ∷ [];
  }

  abbrev pub counted : Moment
  counted = record {
    front = [];
    later = Leaves ∷ [];
    call = Adds 129 amount (Counted 129 3);
    earlier = Enters three (one ∷ two ∷ []) ∷ Rings 10242 (event 0) (Late 1000 1) ∷ Adds 129 amount (Held 129 5 5) ∷ [];
    behind = second ∷ [];
  }

  -- so the second actor made version 2, and the addition is above that and all that the action that it knew as ended gave
  pub held_by_another : WasOthers before held 1 129 5 5
  unfolding marked marks_of all_marks
  held_by_another = causes others [] before held 1 shared ended (third_whole, (second_whole, tt)) (inr (lit≤ tt)) (lit< tt)

  pub counted_above : IsAbove before counted 2 129 3
  counted_above = floors_kept [] before counted 2 shared ended (third_whole, (second_whole, tt)) (inl (lit≤ tt)) (lit< tt)
