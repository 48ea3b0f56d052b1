-- What the clauses exclude: answers that no table gives, and that a wrong body would.
use Rattle.std.proofs.Common.{◌≡◌, ℕ, ◌+◌, ◌*◌, ◌≤◌, true, false, List, [], ◌∷◌, slice_index, refl, sym, ◌∙◌, arith}
use Rattle.pfs_board.specs.declared.answers.Taken.TheVariants.{Busy}
use Rattle.pfs_board.specs.declared.view.Change.{Change}
use Rattle.pfs_board.specs.declared.view.Finished.{Finished}
use Rattle.pfs_board.specs.declared.view.Sight.{Sight}
use Rattle.pfs_board.specs.declared.view.View.{View}
use Rattle.pfs_board.specs.History.{lock_at, shows_to, Floor}
use Rattle.pfs_board.specs.Knowledge.{corner, newcomer, change_of, no_label, root}
use Rattle.pfs_board.specs.SeatViews.{HasSeenItsOwn}
use Rattle.pfs_board.specs.Rule.{Moment, IsRead, IsSight}
use Rattle.pfs_board.specs.TakeAnswers.{IsTaken}

-- To a seat that saw version 7 no take shows a first word at version 0
pub example_below_seen : (v w : View) → (corner v 1).seen ≡ 7 → ¬ (IsTaken v 1 (Busy 2 30) w)
example_below_seen v w seven a = let low = a.6 in omega (arith, seven, low)

-- A row that was free is not allocated again at its version
pub example_free_again : (v w : View) (k : ℕ) → ¬ (IsTaken v 1 (Busy (4 * k) (4 * k + 2)) w)
example_free_again v w k a = let more = a.8 (omega arith) (omega arith) in omega (arith, more)

-- No read of a row that opened free is whole at version 0
pub example_whole_of_free : (start : List ℕ) (t : Moment) (f : Finished) → f.version ≡ 0 → slice_index start (lock_at f.row) ≡ 0 → ¬ (IsRead start t f)
example_whole_of_free start t f zero_is free r = r.opened zero_is free

-- No sight shows a word that is no lock word, nor a row that opened free as allocated at version 0, nor a free row
-- that is allocated again at its version, nor an allocated word twice, nor a dirty word and then another, nor a second
-- word at a lower version
pub example_no_lock_word : (start : List ℕ) (t : Moment) (x : Sight) → x.first ≡ 3 → ¬ (IsSight start t x)
example_no_lock_word start t x is s = let low = s.one.known.state in omega (arith, is, low)

pub example_sight_of_free : (start : List ℕ) (t : Moment) (x : Sight) → x.first ≡ 2 → slice_index start (lock_at x.row) ≡ 0 → ¬ (IsSight start t x)
example_sight_of_free start t x is free s = s.one.known.opened is free

pub example_sight_again : (start : List ℕ) (t : Moment) (x : Sight) (k : ℕ) → x.first ≡ 4 * k → x.second ≡ 4 * k + 2 → ¬ (IsSight start t x)
example_sight_again start t x k one two s = let more = s.again (omega (arith, one)) (omega (arith, two)) in omega (arith, more, one, two)

pub example_twice_allocated : (start : List ℕ) (t : Moment) (x : Sight) → x.first ≡ 6 → x.second ≡ 6 → ¬ (IsSight start t x)
example_twice_allocated start t x one two s = s.shape.0 (two ∙ sym one) (omega (arith, one))

pub example_dirty_then_free : (start : List ℕ) (t : Moment) (x : Sight) → x.first ≡ 5 → x.second ≡ 8 → ¬ (IsSight start t x)
example_dirty_then_free start t x one two s = let e = s.shape.1 (omega (arith, one)) in omega (arith, e, one, two)

pub example_sight_falls : (start : List ℕ) (t : Moment) (x : Sight) → x.first ≡ 14 → x.second ≡ 10 → ¬ (IsSight start t x)
example_sight_falls start t x one two s = let up = s.order in omega (arith, up, one, two)

-- What the root had when a seat was split off, version 1 of row 1: no release by that seat is at version 0, and one at
-- version 1 may be
abbrev had_once : List Change
had_once = change_of (root []) 1 1 true no_label [] [] ∷ []

abbrev released_at : ℕ → Change
released_at k = record (change_of (root []) 1 k false no_label [] []) { by = 2; base = 1 }

abbrev is_floored : ℕ → Type 0
is_floored k = Floor (shows_to (released_at k)) had_once had_once 1 k 0 1

pub example_floored : is_floored 1
example_floored = record { ended = omega arith; split_at = omega arith; actions = ((λ _ some _. absurd (omega (arith, some))), tt); first = ((λ _. omega arith), tt) }

pub example_below_split : ¬ (is_floored 0)
example_below_split f = let low : 1 ≤ 0 = f.first.0 refl in omega (arith, low)

-- the root of a board of two rows, that would have published row 1 at version 1
abbrev published_once : ℕ → View
published_once seen = record (root []) {
  made = change_of (root []) 1 1 true no_label [] [] ∷ [];
  rows = newcomer ∷ record newcomer { seen = seen } ∷ [];
}

-- It has seen its own publication, and has not where it saw version 0 alone
pub example_own : HasSeenItsOwn (published_once 1)
example_own = (omega arith, tt)

pub example_not_own : ¬ (HasSeenItsOwn (published_once 0))
example_not_own own = let low = own.0 in omega (arith, low)
