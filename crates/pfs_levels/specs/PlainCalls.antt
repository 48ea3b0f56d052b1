-- What the calls have in common that actors made of a plain store one after another, the last actor first.
use Rattle.std.specs.Prelude.{ℕ, ◌≡◌, ◌++◌, List}
use Rattle.pfs_levels.specs.Calls.{Call, action_in}
use Rattle.pfs_levels.specs.JointCalls.{Joint, all_calls, changes_of, sets_of, draws_of}
use Rattle.pfs_levels.specs.CallOrder.{AllCalls, Order, all_marks, all_word_marks}
use Rattle.pfs_levels.specs.PlainStore.{AllAnswer, content_at, labels_after, ops_of}
use Rattle.pfs_levels.specs.PhaseFloors.{AllSince}

-- no actor is in an action at its end
abbrev pub AllOutside : List (List Call) → Type 0
AllOutside actors = AllCalls (λ calls. action_in calls ≡ 0) actors

-- one order of all changes, one of all sets of words and one of all tickets, and each call agrees with them
abbrev pub JointLaw : Type 0
JointLaw = (flags : List ℕ) (actors : List (List Call)) → AllAnswer flags (all_calls actors)
    → Joint flags actors (content_at (ops_of (all_calls actors))) (changes_of (all_calls actors)) (sets_of (all_calls actors)) (draws_of (all_calls actors))

-- and one of all actions, which no call is below that its actor knew as ended, with the causes of what came late
abbrev pub OrderLaw : Type 0
OrderLaw = (flags : List ℕ) (actors : List (List Call)) → AllAnswer flags (all_calls actors) → AllOutside actors
    → Order actors (all_marks actors) (all_word_marks actors) (labels_after (all_calls actors))

-- no call of later actors is below what earlier ones left
abbrev pub SinceLaw : Type 0
SinceLaw = (flags : List ℕ) (now before : List (List Call)) → AllAnswer flags (all_calls (now ++ before))
    → AllSince before now
