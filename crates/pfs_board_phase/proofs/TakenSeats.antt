-- Sessions of blocks that are taken from their seats, block by block.
use Rattle.std.proofs.Common.{ℕ, ◌≡◌, ◌+◌, ◌-◌, ◌<◌, List, [], ◌∷◌, ◌++◌, Option, None, length, take, get_or, slice_set, refl, ap, sym, ◌∙◌}
use Rattle.std.proofs.lemmas.List.{length-set, take_more}
use Rattle.pfs_script.specs.declared.blocks.Block.{Block}
use Rattle.pfs_script.specs.declared.blocks.Phase.{Phase}
use Rattle.pfs_session.specs.SessionStates.{Book}
use Rattle.pfs_seats.specs.Seats.{GoesOn, depth_of, seat_of}
use Rattle.pfs_board_phase.specs.TakenSeats.{AreTaken, emptied}

pub emptied_more : (seats : List (Option Book)) (blocks : List Block) (block : Block) → emptied seats (blocks ++ block ∷ []) ≡ slice_set (emptied seats blocks) (block.session - 1) None
emptied_more seats [] block = refl
emptied_more seats (b ∷ bs) block = emptied_more (slice_set seats (b.session - 1) None) bs block

pub emptied_long : (seats : List (Option Book)) (blocks : List Block) → length (emptied seats blocks) ≡ length seats
emptied_long seats [] = refl
emptied_long seats (b ∷ bs) = emptied_long (slice_set seats (b.session - 1) None) bs ∙ length-set seats (b.session - 1) None

pub taken_more : (stack : ℕ) (phases : List Phase) (seats : List (Option Book)) (blocks : List Block) (books : List Book) (block : Block) (book : Book) → AreTaken stack phases seats blocks books
    → GoesOn (seat_of (emptied seats blocks) block.session) block.session stack (depth_of phases block.session) book → AreTaken stack phases seats (blocks ++ block ∷ []) (books ++ book ∷ [])
taken_more stack phases seats [] [] block book are goes = (goes, tt)
taken_more stack phases seats [] (y ∷ ys) block book are goes = absurd are
taken_more stack phases seats (b ∷ bs) [] block book are goes = absurd are
taken_more stack phases seats (b ∷ bs) (y ∷ ys) block book are goes = (are.0, taken_more stack phases (slice_set seats (b.session - 1) None) bs ys block book are.1 goes)

-- the first blocks, with one more
pub first_more : (blocks : List Block) (i : ℕ) (block : Block) → i < length blocks → block ≡ get_or blocks i block → take (i + 1) blocks ≡ take i blocks ++ block ∷ []
first_more blocks i block within is = take_more blocks i block within ∙ ap (λ (y : Block). take i blocks ++ y ∷ []) (sym is)
