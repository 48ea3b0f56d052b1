-- What the sessions of a phase left behind their blocks: in the report of the phase, and in their seats.
use Rattle.std.specs.Prelude.{ℕ, ◌≡◌, ◌≢◌, ◌≤◌, ◌+◌, ◌<◌, ◌^◌, List, [], ◌∷◌, length, Option, Some}
use Rattle.std.specs.List.{sum_by}
use Rattle.pfs_journal.specs.declared.blocks.BlockReport.{BlockReport}
use Rattle.pfs_law_report.specs.LostCounts.{lost_digests, lost_statements, lost_waits}
use Rattle.pfs_law_report.specs.declared.counts.LostEvents.{LostEvents}
use Rattle.pfs_model.specs.Chains.{Each}
use Rattle.pfs_script.specs.declared.blocks.Block.{Block}
use Rattle.pfs_seats.specs.Seats.{seat_of}
use Rattle.pfs_session.specs.SessionStates.{Book}
use Rattle.pfs_board_run.specs.declared.board.Ran.{Ran}

-- the session of a block has one of the 64 seats
abbrev pub HasSeat : Block → Type 0
HasSeat block = (1 ≤ block.session) × (block.session ≤ 64)

-- a paused session without its journal
abbrev pub handed_out : Book → Book
handed_out book = record book { journal = record { entries = []; room = 0 } }

-- the report of a block: who played it, its journal, and the answers of its SELECTs
abbrev pub report_of : Block → Ran → BlockReport
report_of block ran = record {
  session = block.session;
  entries = ran.paused.journal.entries;
  answers = ran.answers.items;
}

abbrev pub AreReported : List Block → List Ran → List BlockReport → Type 0
AreReported [] [] [] = Unit {0}
AreReported (block ∷ blocks) (ran ∷ rans) (report ∷ reports) =
    (report ≡ report_of block ran) × AreReported blocks rans reports
AreReported _ _ _ = ⊥

-- each block's session waits in its seat, its journal handed out
abbrev pub AreSeated : List (Option Book) → List Block → List Ran → Type 0
AreSeated seats [] [] = Unit {0}
AreSeated seats (block ∷ blocks) (ran ∷ rans) =
    (seat_of seats block.session ≡ Some (handed_out ran.paused)) × AreSeated seats blocks rans
AreSeated seats _ _ = ⊥

-- all these sessions were kept in their seats, and no other seat was touched
pub record AreKept (blocks : List Block) (rans : List Ran) (old new : List (Option Book)) : Type 0 where
  pub wide : length new ≡ length old
  pub seated : AreSeated new blocks rans
  pub others : (session : ℕ) → 1 ≤ session → Each (λ (block : Block). block.session ≢ session) blocks
      → seat_of new session ≡ seat_of old session

-- what their journals say was lost has been counted, besides what was lost before
pub record AreCounted (rans : List Ran) (old new : LostEvents) : Type 0 where
  pub digests : new.digests ≡ old.digests + sum_by (λ (ran : Ran). lost_digests ran.paused.journal.entries) rans
  pub statements : new.statements
      ≡ old.statements + sum_by (λ (ran : Ran). lost_statements ran.paused.journal.entries) rans
  pub waits : new.waits ≡ old.waits + sum_by (λ (ran : Ran). lost_waits ran.paused.journal.entries) rans

-- with all of them it can be counted
pub record AreFew (rans : List Ran) (lost : LostEvents) : Type 0 where
  pub digests : lost.digests + sum_by (λ (ran : Ran). lost_digests ran.paused.journal.entries) rans < 2 ^ 63
  pub statements : lost.statements + sum_by (λ (ran : Ran). lost_statements ran.paused.journal.entries) rans < 2 ^ 63
  pub waits : lost.waits + sum_by (λ (ran : Ran). lost_waits ran.paused.journal.entries) rans < 2 ^ 63
