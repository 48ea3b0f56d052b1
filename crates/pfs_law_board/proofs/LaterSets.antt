-- The actors of a later phase met the writer of the words, and set words, behind the sets of the earlier ones: their
-- actions have greater numbers, and no meet in an action and no set is below what the actions before set.
use Rattle.std.proofs.Common.{ℕ, ◌≡◌, ◌+◌, ◌<◌, ◌≤◌, ◌==◌, Bool, true, false, ◌&&◌, List, [], ◌∷◌, ◌++◌, length, inl, inr, refl, ap, sym, ◌∙◌, subst, arith, append_assoc, eq-eqb, eqb-true}
use Rattle.std.specs.Prelude.{nat_lt, nat_le, ◌⊎◌}
use Rattle.std.proofs.lemmas.Bool.{cases_lt, le-leb, lt-ltb}
use Rattle.pfs_lemmas.proofs.Bools.{and_first, and_second}
use Rattle.pfs_board.specs.History.{Each}
use Rattle.pfs_board.specs.declared.view.Label.{Label}
use Rattle.pfs_law_joint.specs.Phases.{BeginOutside, HaveEnded}
use Rattle.pfs_law_joint.proofs.MarkSums.{marked_same, marks_then, word_marks_then, words_marked_is}
use Rattle.pfs_law_joint.proofs.Sums.{one_low, so_low, total_then}
use Rattle.pfs_law_joint.proofs.VersionChains.{mark_chain, not_there, there}
use Rattle.pfs_levels.specs.declared.answers.Added.TheVariants.{Counted, Held}
use Rattle.pfs_levels.specs.declared.answers.RingPut.TheVariants.{Done, Busy, Late}
use Rattle.pfs_levels.specs.Calls.{Call, Adds, Rings, Reads, Loads, Draws, Takes, Puts, Frees, Sets, Enters, Leaves, Meets, action_in, after_in}
use Rattle.pfs_levels.specs.JointCalls.{Setting as WordSet, total, one_if, all_calls, sets_of, word_version}
use Rattle.pfs_levels.specs.CallOrder.{Mark, mark, Order, AllCalls, marks_of, all_marks, word_marks_of, all_word_marks, marked, is_past, above, reaching, published}

-- a set stands inside an action
abbrev pub SetsInside : List Call → Type 0
SetsInside [] = Unit {0}
SetsInside (Sets at flags version ∷ calls) = (0 < action_in calls) × SetsInside calls
SetsInside (Adds row amount answer ∷ calls) = SetsInside calls
SetsInside (Rings row content answer ∷ calls) = SetsInside calls
SetsInside (Reads row seen ∷ calls) = SetsInside calls
SetsInside (Loads at version flags ∷ calls) = SetsInside calls
SetsInside (Draws kind ticket ∷ calls) = SetsInside calls
SetsInside (Meets versions ∷ calls) = SetsInside calls
SetsInside (Takes row version found ∷ calls) = SetsInside calls
SetsInside (Puts row content version ∷ calls) = SetsInside calls
SetsInside (Frees row version ∷ calls) = SetsInside calls
SetsInside (Enters label labels ∷ calls) = SetsInside calls
SetsInside (Leaves ∷ calls) = SetsInside calls

-- an action that is under way, or has ended
abbrev IsActing : ℕ → List Call → Type 0
IsActing number calls = (action_in calls ≡ number) ⊎ (0 < published (marks_of calls) 0 number)

kept : (number : ℕ) (x : Mark) (rest : List Mark) (P : Type 0) → P ⊎ (0 < published rest 0 number) → P ⊎ (0 < published (x ∷ rest) 0 number)
unfolding total
kept number x rest P (inl s) = inl s
kept number x rest P (inr p) = inr (omega (arith, p))

entered : (number n m : ℕ) (P : Type 0) → 0 < number → n ≡ 0 → (n ≡ number) ⊎ P → (m ≡ number) ⊎ P
entered number n m P up out (inl s) = absurd (omega (arith, up, out, s))
entered number n m P up out (inr p) = inr p

ended : (number n after : ℕ) (rest : List Mark) (P : Type 0) → (n ≡ number) ⊎ (0 < published rest 0 number) → P ⊎ (0 < published (mark 0 n true n after ∷ rest) 0 number)
unfolding total
ended number n after rest P (inl s) = inr (omega (arith, ap one_if (eq-eqb n number s)))
ended number n after rest P (inr p) = inr (omega (arith, p))

goes_on : (number : ℕ) → 0 < number → (more earlier : List Call) → BeginOutside (more ++ earlier) → IsActing number earlier → IsActing number (more ++ earlier)
unfolding marks_of
goes_on number up [] earlier out a = a
goes_on number up (Adds at amount (Counted r v) ∷ more) earlier out a =
    let calls : List Call = more ++ earlier in
    kept number (mark r v true (action_in calls) (after_in calls)) (marks_of calls) (action_in calls ≡ number) (goes_on number up more earlier out.1 a)
goes_on number up (Adds at amount (Held r v w) ∷ more) earlier out a = goes_on number up more earlier out.1 a
goes_on number up (Rings at content (Done v) ∷ more) earlier out a =
    let calls : List Call = more ++ earlier in
    kept number (mark at v true (action_in calls) (after_in calls)) (marks_of calls) (action_in calls ≡ number) (goes_on number up more earlier out.1 a)
goes_on number up (Rings at content (Busy v w) ∷ more) earlier out a = goes_on number up more earlier out.1 a
goes_on number up (Rings at content (Late t v) ∷ more) earlier out a = goes_on number up more earlier out.1 a
goes_on number up (Reads at seen ∷ more) earlier out a = goes_on number up more earlier out.1 a
goes_on number up (Loads at v found ∷ more) earlier out a = goes_on number up more earlier out.1 a
goes_on number up (Draws kind ticket ∷ more) earlier out a = goes_on number up more earlier out.1 a
goes_on number up (Meets versions ∷ more) earlier out a = goes_on number up more earlier out.1 a
goes_on number up (Takes at v found ∷ more) earlier out a = goes_on number up more earlier out.1 a
goes_on number up (Puts at content v ∷ more) earlier out a =
    let calls : List Call = more ++ earlier in
    kept number (mark at v true (action_in calls) (after_in calls)) (marks_of calls) (action_in calls ≡ number) (goes_on number up more earlier out.1 a)
goes_on number up (Frees at v ∷ more) earlier out a =
    let calls : List Call = more ++ earlier in
    kept number (mark at v false (action_in calls) (after_in calls)) (marks_of calls) (action_in calls ≡ number) (goes_on number up more earlier out.1 a)
goes_on number up (Sets at to v ∷ more) earlier out a = goes_on number up more earlier out.1 a
goes_on number up (Enters label labels ∷ more) earlier out a =
    let calls : List Call = more ++ earlier in
    entered number (action_in calls) (length labels + 1) (0 < published (marks_of calls) 0 number) up out.0 (goes_on number up more earlier out.1 a)
goes_on number up (Leaves ∷ more) earlier out a =
    let calls : List Call = more ++ earlier in
    ended number (action_in calls) (after_in calls) (marks_of calls) (◌≡◌ {A = ℕ} 0 number) (goes_on number up more earlier out.1 a)

-- an action that an actor began has ended once its calls are over
pub has_ended : (calls more earlier : List Call) → calls ≡ more ++ earlier → BeginOutside calls → action_in calls ≡ 0 → 0 < action_in earlier → 0 < published (marks_of calls) 0 (action_in earlier)
has_ended calls more earlier is out done up =
    let number : ℕ = action_in earlier in
    let went : IsActing number calls = subst (IsActing number) (sym is) (goes_on number up more earlier (subst BeginOutside is out) (inl refl)) in
    at went where
      at : IsActing (action_in earlier) calls → 0 < published (marks_of calls) 0 (action_in earlier)
      at (inl s) = absurd (omega (arith, up, done, s))
      at (inr p) = p

-- inside an action each of a smaller number has ended
pub after_is : (calls : List Call) → 0 < action_in calls → after_in calls + 1 ≡ action_in calls
after_is [] up = absurd (omega (arith, up))
after_is (Enters label labels ∷ calls) up = refl
after_is (Leaves ∷ calls) up = absurd (omega (arith, up))
after_is (Adds row amount answer ∷ calls) up = after_is calls up
after_is (Rings row content answer ∷ calls) up = after_is calls up
after_is (Reads row seen ∷ calls) up = after_is calls up
after_is (Loads at v found ∷ calls) up = after_is calls up
after_is (Draws kind ticket ∷ calls) up = after_is calls up
after_is (Meets versions ∷ calls) up = after_is calls up
after_is (Takes row v found ∷ calls) up = after_is calls up
after_is (Puts row content v ∷ calls) up = after_is calls up
after_is (Frees row v ∷ calls) up = after_is calls up
after_is (Sets at to v ∷ calls) up = after_is calls up

-- an actor whose actions have all ended, and that sets words inside them alone
pub record IsOver (calls : List Call) : Type 0 where
  pub outside : BeginOutside calls
  pub ended : action_in calls ≡ 0
  pub sets : SetsInside calls

-- the sum over an actor's marks is not above that over those of all
under : (test other : Mark → Bool) (xs : List Mark) → Each (λ (x : Mark). test x ≡ true → other x ≡ true) xs → total (λ x. one_if (test x)) xs ≤ total (λ x. one_if (other x)) xs
unfolding total
under test other [] e = omega arith
under test other (x ∷ xs) e = omega (arith, so_low (test x) (other x) e.0, under test other xs e.1)

each_both : (P : Mark → Type 0) (xs ys : List Mark) → Each P xs → Each P ys → Each P (xs ++ ys)
each_both P [] ys e f = f
each_both P (x ∷ xs) ys e f = (e.0, each_both P xs ys e.1 f)

each_into : (P Q : Mark → Type 0) → ((x : Mark) → P x → Q x) → (xs : List Mark) → Each P xs → Each Q xs
each_into P Q step [] e = tt
each_into P Q step (x ∷ xs) e = (step x e.0, each_into P Q step xs e.1)

module _ (before now : List (List Call)) (log words : List Mark) (labels : List Label) (o : Order (now ++ before) log words labels) (e : HaveEnded before) where
  abbrev last : ℕ
  last = marked (all_marks before) 0

  last_is : last ≡ marked e.marks 0
  last_is = marked_same (all_marks before) e.marks 0 e.once

  -- an earlier actor's actions are up to the last of theirs
  low_number : (number : ℕ) → 0 < published (all_marks before) 0 number → number ≤ last
  low_number number some = at (cases_lt last number) where
    at : (last < number) ⊎ (number ≤ last) → number ≤ last
    at (inl high) =
        let test : Mark → ℕ = λ p. one_if ((p.row == 0) && p.puts && (p.version == number)) in
        absurd (omega (arith, some, e.once test, mark_chain e.marks 0 number e.chain, not_there number (marked e.marks 0) (omega (arith, high, last_is))))
    at (inr low) = low

  -- a later one's are above
  pub high_number : (number : ℕ) → 0 < number → 0 < published (all_marks now) 0 number → last < number
  high_number number up some = at (cases_lt last number) where
    at : (last < number) ⊎ (number ≤ last) → last < number
    at (inl high) = high
    at (inr low) =
        let test : Mark → ℕ = λ p. one_if ((p.row == 0) && p.puts && (p.version == number)) in
        let old : published e.marks 0 number ≡ 1 = mark_chain e.marks 0 number e.chain ∙ there number (marked e.marks 0) up (omega (arith, low, last_is)) in
        absurd (omega (arith, some, old, mark_chain log 0 number o.chain, one_low (nat_lt 0 number && nat_le number (marked log 0)), marks_then test now before, e.once test, o.once test))

  abbrev IsEarlier : Mark → Type 0
  IsEarlier x = (0 < x.action) × (x.action ≤ last)

  abbrev Part : List Call → List (List Call) → Type 0
  Part calls actors = (h : Mark → ℕ) → total h (marks_of calls) ≤ total h (all_marks actors)

  -- the sets of an earlier actor
  earlier_marks : (whole front calls : List Call) → whole ≡ front ++ calls → IsOver whole → Part whole before → SetsInside calls → Each IsEarlier (word_marks_of calls)
  unfolding word_marks_of
  earlier_marks whole front [] is over part s = tt
  earlier_marks whole front (Sets at to v ∷ calls) is over part s =
      let behind : whole ≡ (front ++ Sets at to v ∷ []) ++ calls = is ∙ sym (append_assoc front (Sets at to v ∷ []) calls) in
      let some = has_ended whole (front ++ Sets at to v ∷ []) calls behind over.outside over.ended s.0 in
      let low = part (λ p. one_if ((p.row == 0) && p.puts && (p.version == action_in calls))) in
      ((s.0, low_number (action_in calls) (omega (arith, some, low))), earlier_marks whole (front ++ Sets at to v ∷ []) calls behind over part s.1)
  earlier_marks whole front (Adds row amount answer ∷ calls) is over part s = earlier_marks whole (front ++ Adds row amount answer ∷ []) calls (is ∙ sym (append_assoc front (Adds row amount answer ∷ []) calls)) over part s
  earlier_marks whole front (Rings row content answer ∷ calls) is over part s = earlier_marks whole (front ++ Rings row content answer ∷ []) calls (is ∙ sym (append_assoc front (Rings row content answer ∷ []) calls)) over part s
  earlier_marks whole front (Reads row seen ∷ calls) is over part s = earlier_marks whole (front ++ Reads row seen ∷ []) calls (is ∙ sym (append_assoc front (Reads row seen ∷ []) calls)) over part s
  earlier_marks whole front (Loads at v found ∷ calls) is over part s = earlier_marks whole (front ++ Loads at v found ∷ []) calls (is ∙ sym (append_assoc front (Loads at v found ∷ []) calls)) over part s
  earlier_marks whole front (Draws kind ticket ∷ calls) is over part s = earlier_marks whole (front ++ Draws kind ticket ∷ []) calls (is ∙ sym (append_assoc front (Draws kind ticket ∷ []) calls)) over part s
  earlier_marks whole front (Meets versions ∷ calls) is over part s = earlier_marks whole (front ++ Meets versions ∷ []) calls (is ∙ sym (append_assoc front (Meets versions ∷ []) calls)) over part s
  earlier_marks whole front (Takes row v found ∷ calls) is over part s = earlier_marks whole (front ++ Takes row v found ∷ []) calls (is ∙ sym (append_assoc front (Takes row v found ∷ []) calls)) over part s
  earlier_marks whole front (Puts row content v ∷ calls) is over part s = earlier_marks whole (front ++ Puts row content v ∷ []) calls (is ∙ sym (append_assoc front (Puts row content v ∷ []) calls)) over part s
  earlier_marks whole front (Frees row v ∷ calls) is over part s = earlier_marks whole (front ++ Frees row v ∷ []) calls (is ∙ sym (append_assoc front (Frees row v ∷ []) calls)) over part s
  earlier_marks whole front (Enters label labels ∷ calls) is over part s = earlier_marks whole (front ++ Enters label labels ∷ []) calls (is ∙ sym (append_assoc front (Enters label labels ∷ []) calls)) over part s
  earlier_marks whole front (Leaves ∷ calls) is over part s = earlier_marks whole (front ++ Leaves ∷ []) calls (is ∙ sym (append_assoc front (Leaves ∷ []) calls)) over part s

  all_earlier : (actors : List (List Call)) → AllCalls IsOver actors → ((h : Mark → ℕ) → total h (all_marks actors) ≤ total h (all_marks before)) → Each IsEarlier (all_word_marks actors)
  unfolding all_word_marks all_marks
  all_earlier [] over part = tt
  all_earlier (calls ∷ actors) over part =
      let sums : (h : Mark → ℕ) → total h (marks_of calls ++ all_marks actors) ≡ total h (marks_of calls) + total h (all_marks actors) = λ h. total_then h (marks_of calls) (all_marks actors) in
      each_both IsEarlier (word_marks_of calls) (all_word_marks actors)
      (earlier_marks calls [] calls refl over.0 (λ h. omega (arith, part h, sums h)) over.0.sets)
      (all_earlier actors over.1 (λ h. omega (arith, part h, sums h)))

  module _ (over : AllCalls IsOver before) where
    abbrev sets : List WordSet
    sets = sets_of (all_calls before)

    -- the newest set of a word that an earlier actor made is one of the marks
    newest : (at : ℕ) (other : Mark → Bool) → 0 < word_version sets at → ((x : Mark) → IsEarlier x → ((x.row == at) && x.puts && (x.version == word_version sets at)) ≡ true → other x ≡ true) → 0 < total (λ x. one_if (other x)) words
    newest at other up step =
        let m : ℕ = word_version sets at in
        let test : Mark → Bool = λ p. (p.row == at) && p.puts && (p.version == m) in
        let many : marked e.words at ≡ m = words_marked_is e.words before at e.words_once in
        let one : published e.words at m ≡ 1 = mark_chain e.words at m e.word_chain ∙ there m (marked e.words at) up (omega (arith, many)) in
        let earlier : Each IsEarlier (all_word_marks before) = all_earlier before over (λ h. omega arith) in
        let low = under test other (all_word_marks before) (each_into IsEarlier (λ x. test x ≡ true → other x ≡ true) step (all_word_marks before) earlier) in
        omega (arith, one, e.words_once (λ x. one_if (test x)), low, word_marks_then (λ x. one_if (other x)) now before, o.words_once (λ x. one_if (other x)))

    past : (at after : ℕ) (x : Mark) → last ≤ after → IsEarlier x → (x.row == at) ≡ true → is_past at after x ≡ true
    past at after x high is row = rw (row, lt-ltb 0 x.action is.0, le-leb x.action after (omega (arith, high, is.1))) refl

    version_of : (at m : ℕ) (x : Mark) → ((x.row == at) && x.puts && (x.version == m)) ≡ true → ((x.row == at) ≡ true) × (x.version ≡ m)
    version_of at m x t = (
      and_first (x.row == at) x.puts (and_first ((x.row == at) && x.puts) (x.version == m) t),
      eqb-true x.version m (and_second ((x.row == at) && x.puts) (x.version == m) t),
    )

    -- a meet shows no version below it, a set makes one above
    pub met_behind : (at k after : ℕ) → last ≤ after → above words at k after ≡ 0 → word_version sets at ≤ k
    met_behind at k after high none = at_case (cases_lt k (word_version sets at)) where
      at_case : (k < word_version sets at) ⊎ (word_version sets at ≤ k) → word_version sets at ≤ k
      at_case (inr low) = low
      at_case (inl more) =
          let step : (x : Mark) → IsEarlier x → ((x.row == at) && x.puts && (x.version == word_version sets at)) ≡ true → (is_past at after x && nat_lt k x.version) ≡ true = λ x is t.
          let v = version_of at (word_version sets at) x t in
          rw (past at after x high is v.0, lt-ltb k x.version (omega (arith, more, v.1))) refl in
          absurd (omega (arith, none, newest at (λ x. is_past at after x && nat_lt k x.version) (omega (arith, more)) step))

    pub set_behind : (at k after : ℕ) → last ≤ after → 0 < k → reaching words at k after ≡ 0 → word_version sets at < k
    set_behind at k after high some none = at_case (cases_lt (word_version sets at) k) where
      at_case : (word_version sets at < k) ⊎ (k ≤ word_version sets at) → word_version sets at < k
      at_case (inl low) = low
      at_case (inr more) =
          let step : (x : Mark) → IsEarlier x → ((x.row == at) && x.puts && (x.version == word_version sets at)) ≡ true → (is_past at after x && nat_le k x.version) ≡ true = λ x is t.
          let v = version_of at (word_version sets at) x t in
          rw (past at after x high is v.0, le-leb k x.version (omega (arith, more, v.1))) refl in
          absurd (omega (arith, none, newest at (λ x. is_past at after x && nat_le k x.version) (omega (arith, some, more)) step))
