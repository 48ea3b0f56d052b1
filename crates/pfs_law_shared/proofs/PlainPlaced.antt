-- The puts of a plain store go to places of rings.
use Rattle.std.proofs.Common.{ℕ, List, [], ◌∷◌, ◌++◌}
use Rattle.pfs_levels.specs.Calls.{Call, Adds, Rings, Reads, Loads, Draws, Takes, Puts, Frees, Sets, Enters, Leaves, Meets}
use Rattle.pfs_levels.specs.CallOrder.{AllCalls}
use Rattle.pfs_levels.specs.PlainStore.{AllAnswer, Answers}
use Rattle.pfs_levels.specs.declared.answers.RingPut.TheVariants.{Done, Busy, Late}
use Rattle.pfs_model.proofs.EachLists.{each_front, each_behind}
use Rattle.pfs_model.specs.Chains.{Each}
use Rattle.pfs_law_plain.specs.Spells.{Spell, doings_calls, calls_of}
use Rattle.pfs_law_shared.specs.Shares.{actors_of}
use Rattle.pfs_law_shared.specs.Tickets.{IsPlaced, PlacedLaw}

placed : (flags : List ℕ) (calls : List Call) (call : Call) → Answers flags calls call → IsPlaced call
placed flags calls (Rings at content (Done v)) a = a.0
placed flags calls (Rings at content (Busy v w)) a = absurd a
placed flags calls (Rings at content (Late t v)) a = a.0
placed flags calls (Adds at amount answer) a = tt
placed flags calls (Reads at seen) a = tt
placed flags calls (Loads at v found) a = tt
placed flags calls (Draws kind ticket) a = tt
placed flags calls (Meets versions) a = tt
placed flags calls (Takes at v found) a = tt
placed flags calls (Puts at content v) a = tt
placed flags calls (Frees at v) a = tt
placed flags calls (Sets at to v) a = tt
placed flags calls (Enters label labels) a = tt
placed flags calls Leaves a = tt

all_placed : (flags : List ℕ) (calls : List Call) → AllAnswer flags calls → Each IsPlaced calls
all_placed flags [] a = tt
all_placed flags (x ∷ xs) a = (placed flags xs x a.0, all_placed flags xs a.1)

both : (xs ys : List (List Call)) → AllCalls (Each IsPlaced) xs → AllCalls (Each IsPlaced) ys → AllCalls (Each IsPlaced) (xs ++ ys)
both [] ys a b = b
both (x ∷ xs) ys a b = (a.0, both xs ys a.1 b)

actors_placed : (spells : List Spell) → Each IsPlaced (calls_of spells) → AllCalls (Each IsPlaced) (actors_of spells)
actors_placed [] a = tt
actors_placed (spell ∷ spells) a =
    both (actors_of spells) (doings_calls spell.doings ∷ []) (actors_placed spells (each_front IsPlaced (calls_of spells) (doings_calls spell.doings) a))
    (each_behind IsPlaced (calls_of spells) (doings_calls spell.doings) a, tt)

pub plain_placed : PlacedLaw
plain_placed = λ flags spells answers. actors_placed spells (all_placed flags (calls_of spells) answers)
