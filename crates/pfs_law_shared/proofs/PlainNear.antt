-- The calls of a plain store name its rows and words.
use Rattle.std.proofs.Common.{ℕ, List, [], ◌∷◌, ◌++◌, Option, Some, None, inl, inr, sym, subst, arith}
use Rattle.pfs_board.specs.declared.view.Label.{Label}
use Rattle.pfs_levels.specs.Calls.{Call, Adds, Rings, Reads, Loads, Draws, Takes, Puts, Frees, Sets, Enters, Leaves, Meets, IsRow, IsCell, IsRing}
use Rattle.pfs_levels.specs.CallOrder.{AllCalls}
use Rattle.pfs_levels.specs.PlainStore.{AllAnswer, Answers}
use Rattle.pfs_levels.specs.declared.answers.Added.TheVariants.{Counted, Held}
use Rattle.pfs_levels.specs.declared.answers.RingPut.TheVariants.{Done, Busy, Late}
use Rattle.pfs_rows.specs.declared.table.Seen.TheVariants as seen
use Rattle.pfs_model.specs.Chains.{Each}
use Rattle.pfs_law_plain.specs.Spells.{Spell, around, entering, doings_calls, calls_of}
use Rattle.pfs_law_shared.specs.Shares.{actors_of}
use Rattle.pfs_law_shared.specs.Order.{IsNear, NearLaw}

cell_row : (row : ℕ) → IsCell row → IsRow row
cell_row row c = (omega (arith, c.0), omega (arith, c.1))

ring_row : (row : ℕ) (content : List ℕ) → IsRing row content → IsRow row
ring_row row content (inl r) = (omega (arith, r.0), omega (arith, r.1))
ring_row row content (inr r) = (omega (arith, r.0), omega (arith, r.1))

near : (flags : List ℕ) (calls : List Call) (call : Call) → Answers flags calls call → IsNear call
near flags calls (Adds at amount (Counted r v)) a = subst IsRow (sym a.1) (cell_row at a.0)
near flags calls (Adds at amount (Held r v w)) a = absurd a
near flags calls (Rings at content (Done v)) a = ring_row at content a.0
near flags calls (Rings at content (Busy v w)) a = absurd a
near flags calls (Rings at content (Late t v)) a = ring_row at content a.0
near flags calls (Reads at (seen.Whole v found)) a = a.0
near flags calls (Reads at (seen.Free w)) a = a.0
near flags calls (Reads at (seen.Busy v w)) a = absurd a
near flags calls (Loads at v found) a = a.0
near flags calls (Draws kind ticket) a = tt
near flags calls (Meets versions) a = tt
near flags calls (Takes at v found) a = a.0
near flags calls (Puts at content v) a = a.0
near flags calls (Frees at v) a = a.0
near flags calls (Sets at to v) a = a.0
near flags calls (Enters label labels) a = tt
near flags calls Leaves a = tt

all_near : (flags : List ℕ) (calls : List Call) → AllAnswer flags calls → Each IsNear calls
all_near flags [] a = tt
all_near flags (x ∷ xs) a = (near flags xs x a.0, all_near flags xs a.1)

pub near_back : (xs ys : List Call) → Each IsNear (xs ++ ys) → Each IsNear ys
near_back [] ys a = a
near_back (x ∷ xs) ys a = near_back xs ys a.1

pub near_front : (xs ys : List Call) → Each IsNear (xs ++ ys) → Each IsNear xs
near_front [] ys a = tt
near_front (x ∷ xs) ys a = (a.0, near_front xs ys a.1)

pub around_near : (label : Label) (labels : List Label) (met : Option (List ℕ)) (action : Option ℕ) (calls : List Call) → Each IsNear (around label labels met action calls) → Each IsNear calls
around_near label labels met None calls a = a
around_near label labels met (Some number) calls a = near_front calls (entering label labels met) a.1

both : (xs ys : List (List Call)) → AllCalls (Each IsNear) xs → AllCalls (Each IsNear) ys → AllCalls (Each IsNear) (xs ++ ys)
both [] ys a b = b
both (x ∷ xs) ys a b = (a.0, both xs ys a.1 b)

actors_near : (spells : List Spell) → Each IsNear (calls_of spells) → AllCalls (Each IsNear) (actors_of spells)
actors_near [] a = tt
actors_near (spell ∷ spells) a =
    both (actors_of spells) (doings_calls spell.doings ∷ []) (actors_near spells (near_front (calls_of spells) (doings_calls spell.doings) a))
    (near_back (calls_of spells) (doings_calls spell.doings) a, tt)

pub plain_near : NearLaw
plain_near = λ flags spells answers. actors_near spells (all_near flags (calls_of spells) answers)
