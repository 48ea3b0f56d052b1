-- Worked examples, by computation.
use Rattle.std.proofs.Common.{ℕ, List, ◌≡◌, ◌≤◌, inl, inr, true, [], ◌∷◌, replicate, Some, None, refl, arith, lit<, lit≤}
use Rattle.pfs_stat.specs.declared.Stat.{Stat}
use Rattle.pfs_board.specs.declared.view.Label.{Label}
use Rattle.pfs_rows.specs.declared.table.Seen.TheVariants.{Free}
use Rattle.pfs_levels.specs.declared.answers.Added.TheVariants.{Counted, Held}
use Rattle.pfs_levels.specs.declared.flushes.Source.TheVariants as of
use Rattle.pfs_levels.specs.Calls.{Adds, Reads, Loads, Takes, Puts, Enters, Meets, hand_in, IsLongPlace}
use Rattle.pfs_levels.specs.RowWords.{merged, zero_words, opening_content}
use Rattle.pfs_levels.specs.Flushes.{asks_of, Ascends}
use Rattle.pfs_levels.specs.JointCalls.{total, at_put, at_free, count, IsCounted, frees_at, word_version, Agrees}
use Rattle.pfs_levels.specs.Moves.{ask, due, cost}
use Rattle.pfs_levels.specs.CallOrder.{mark, marked, AreMarked, AreOrdered, IsFloored, IsOthers, IsRising}
use Rattle.pfs_levels.specs.PlainStore.{op, Merges, Becomes, Holds, puts_in, content_at}

-- a cell opens with nothing counted, a thread's information with zeros
pub cell_opens : opening_content 129 ≡ zero_words
cell_opens = refl

pub info_opens : opening_content 1 ≡ replicate 16 0
info_opens = refl

-- a row that was published twice and released between; a version given twice is no chain, nor is a release at a version that is to come
pub chain : IsCounted (at_put 1 2 ∷ at_free 1 1 ∷ at_put 1 1 ∷ [])
unfolding count
chain = (refl, (refl, (refl, tt)))

pub twice : ¬ IsCounted (at_put 129 1 ∷ at_put 129 1 ∷ [])
unfolding count
twice h = omega (arith, h.0)

pub early_release : ¬ IsCounted (at_free 1 1 ∷ [])
unfolding count
early_release h = omega (arith, h.0)

-- a thread's information is free at first, and at the version at which it was released; a cell never is at first
pub free_at_first : frees_at [] 1 0 ≡ 1
unfolding total
free_at_first = refl

pub released_once : frees_at (at_free 1 1 ∷ at_put 1 1 ∷ []) 1 1 ≡ 1
unfolding total
released_once = refl

pub cell_not_free : frees_at [] 129 0 ≡ 0
unfolding total
cell_not_free = refl

-- an addition, a take that leaves zero, and what stood there after each
pub after_addition : (amount : Stat) → content_at (op 129 (Becomes zero_words) ∷ op 129 Holds ∷ op 129 (Merges amount) ∷ []) 129 1 ≡ merged zero_words amount
unfolding content_at puts_in
after_addition amount = refl

pub after_take : (amount : Stat) → content_at (op 129 (Becomes zero_words) ∷ op 129 Holds ∷ op 129 (Merges amount) ∷ []) 129 2 ≡ zero_words
unfolding content_at puts_in
after_take amount = refl

-- numbers of actions
pub numbers : AreMarked (mark 0 2 true 2 1 ∷ mark 129 1 true 2 1 ∷ mark 0 1 true 1 0 ∷ [])
unfolding marked
numbers = (refl, (refl, (refl, tt)))

pub skipped_number : ¬ AreMarked (mark 0 2 true 2 1 ∷ [])
unfolding marked
skipped_number h = omega (arith, h.0)

-- along a row actions don't fall: the take of action 1 can't stand after that of action 2
pub fallen : ¬ AreOrdered (mark 129 2 true 1 0 ∷ mark 129 1 true 2 1 ∷ [])
unfolding total
fallen h = omega (arith, h.0)

-- an actor that knows action 1, which made version 3 of a row, as ended adds above that, not at it
pub above_floor : (amount : Stat) → IsFloored (mark 129 3 true 1 0 ∷ []) [] 1 (Adds 129 amount (Counted 129 4))
unfolding total
above_floor amount = refl

pub below_floor : (amount : Stat) → ¬ IsFloored (mark 129 3 true 1 0 ∷ []) [] 1 (Adds 129 amount (Counted 129 3))
unfolding total
below_floor amount h = omega (arith, h)

-- nor does it find the row free below it
pub free_below_floor : ¬ IsFloored (mark 129 3 true 1 0 ∷ []) [] 1 (Reads 129 (Free 8))
unfolding total
free_below_floor h = omega (arith, h)

-- a load behind a meet can't name a version below the one that was met, and a meet none below an earlier load
pub below_the_meet : ¬ IsRising (Meets (7 ∷ 2 ∷ []) ∷ []) (Loads 1 1 0)
below_the_meet h = omega (arith, h)

pub meets_below : ¬ IsRising (Loads 1 3 0 ∷ []) (Meets (7 ∷ 2 ∷ []))
meets_below h = let low : 3 ≤ 2 = h 1 (lit< tt) in omega (arith, low)

-- nor is a meet in action 3 below what action 2 set, and no meet has a version that the word never had
pub meets_too_little : ¬ IsFloored [] (mark 1 3 true 2 1 ∷ []) 2 (Meets (7 ∷ 2 ∷ []))
unfolding total
meets_too_little h = let e : 1 ≡ 0 = h 1 (lit< tt) in omega (arith, e)

pub meets_too_much : (content : ℕ → ℕ → List ℕ) → ¬ Agrees [] content [] [] (Meets (7 ∷ 2 ∷ []))
unfolding word_version
meets_too_much content h = let low : 2 ≤ 0 = h 1 (lit< tt) in omega (arith, low)

-- a held word counts for the floor of what follows
pub forgets_a_held_word : (amount : Stat) → ¬ IsRising (Adds 129 amount (Held 129 13 13) ∷ []) (Adds 129 amount (Counted 129 3))
forgets_a_held_word amount h = omega (arith, h)

-- a row that was found dirty at version 1 was in the hand of another, who made version 2; it can't have been in one's own
pub another_had_it : IsOthers (mark 129 2 true 0 0 ∷ mark 129 1 true 0 0 ∷ []) [] 129 1
unfolding total
another_had_it = inl (refl, lit< tt)

pub nobody_had_it : ¬ IsOthers (mark 129 2 true 0 0 ∷ mark 129 1 true 0 0 ∷ []) (mark 129 2 true 0 0 ∷ []) 129 1
unfolding total
nobody_had_it (inl h) = omega (arith, h.0)
nobody_had_it (inr h) = omega (arith, h)

-- ticket 1000 belongs to the first place of a kind; the second isn't its place
pub first_place : IsLongPlace 11242 (0 ∷ 0 ∷ 0 ∷ 0 ∷ 0 ∷ 0 ∷ 0 ∷ 0 ∷ 0 ∷ 0 ∷ 0 ∷ 0 ∷ 0 ∷ 0 ∷ 0 ∷ 1001 ∷ [])
first_place = (lit≤ tt, lit< tt, lit< tt, refl)

pub not_its_place : ¬ IsLongPlace 11243 (0 ∷ 0 ∷ 0 ∷ 0 ∷ 0 ∷ 0 ∷ 0 ∷ 0 ∷ 0 ∷ 0 ∷ 0 ∷ 0 ∷ 0 ∷ 0 ∷ 0 ∷ 1001 ∷ [])
not_its_place h = omega (arith, h.3)

-- nothing is given of a row that counted nothing; a thread without an account, of a user alone, gives to the user and the global cell
pub nothing_due : due zero_words (4225 ∷ 8321 ∷ []) ≡ []
nothing_due = refl

pub user_alone : asks_of (3 ∷ 5 ∷ []) (of.Thread (record { place = 2; account = None; user = Some 0; host = None })) ≡ ask 260 (4228 ∷ 8324 ∷ []) ∷ ask 262 (4230 ∷ 8326 ∷ []) ∷ []
user_alone = refl

-- a user's cells are dropped
pub user_dropped : asks_of (3 ∷ []) (of.User 1) ≡ ask 4292 [] ∷ []
user_dropped = refl

pub cost_of_two : cost (ask 260 (4228 ∷ 8324 ∷ []) ∷ ask 4292 [] ∷ []) ≡ 4
cost_of_two = refl

pub descends : ¬ Ascends 0 32 (2 ∷ 1 ∷ [])
descends h = omega (arith, h.1.1.0)

-- inside an action a row is in hand until it is put
pub in_hand_inside : (label : Label) → hand_in (Takes 129 7 zero_words ∷ Enters label [] ∷ []) 129 ≡ Some 7
in_hand_inside label = refl

pub put_back : (label : Label) → hand_in (Puts 129 zero_words 8 ∷ Takes 129 7 zero_words ∷ Enters label [] ∷ []) 129 ≡ None
put_back label = refl
