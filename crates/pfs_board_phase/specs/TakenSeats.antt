-- The sessions of a phase's blocks, taken from their seats.
use Rattle.std.specs.Prelude.{ℕ, ◌-◌, List, [], ◌∷◌, Option, None, slice_set}
use Rattle.pfs_script.specs.declared.blocks.Block.{Block}
use Rattle.pfs_script.specs.declared.blocks.Phase.{Phase}
use Rattle.pfs_session.specs.SessionStates.{Book}
use Rattle.pfs_seats.specs.Seats.{GoesOn, depth_of, seat_of}

-- each session as it goes on from its seat, one block after another
abbrev pub AreTaken : ℕ → List Phase → List (Option Book) → List Block → List Book → Type 0
AreTaken stack phases seats [] [] = Unit {0}
AreTaken stack phases seats (block ∷ blocks) (book ∷ books) =
    GoesOn (seat_of seats block.session) block.session stack (depth_of phases block.session) book
    × AreTaken stack phases (slice_set seats (block.session - 1) None) blocks books
AreTaken stack phases seats _ _ = ⊥

-- the seats without them
abbrev pub emptied : List (Option Book) → List Block → List (Option Book)
emptied seats [] = seats
emptied seats (block ∷ blocks) = emptied (slice_set seats (block.session - 1) None) blocks
