-- Places, worked: of threads 0 and 1, and of the long history.
use Rattle.std.specs.Prelude.{◌≡◌, Some, None}
use Rattle.pfs_event.specs.declared.entry.Entry.TheVariants as says
use Rattle.pfs_event.specs.declared.kind.EventKind.TheVariants.{Wait, Stage, Statement, Transaction}
use Rattle.pfs_model.specs.Causes.{long_row}
use Rattle.pfs_model.specs.Rings.{ring_number, history_row}
use Rattle.pfs_rings.specs.declared.puts.Put.TheVariants.{Done, Busy, Late}
use Rattle.pfs_rings.specs.declared.rings.Ring.TheVariants.{Current, History}
use Rattle.pfs_rings.specs.Offers.{put_entry, ticket_word}
use Rattle.pfs_rings.specs.RingPlaces.{row_of}

pub record WorkedPlaces : Type 0 where
  -- thread 0 has four current places for waits, one for a stage, ten for statements, one for a transaction
  pub wait : row_of (Current 0 Wait 3) ≡ Some 8453
  pub stage : row_of (Current 0 Stage 0) ≡ Some 8454
  pub statement : row_of (Current 0 Statement 9) ≡ Some 8464
  pub transaction : row_of (Current 0 Transaction 0) ≡ Some 8465
  -- then ten of each kind's history; behind them those of thread 1 begin
  pub oldest : row_of (History 0 Wait 0) ≡ Some 8466
  pub newest : row_of (History 0 Transaction 9) ≡ Some 8505
  pub next : row_of (Current 1 Wait 0) ≡ Some 8506
  -- the eleventh put of a history goes where the first went
  pub eleventh : history_row 0 (ring_number Wait) 10 ≡ history_row 0 (ring_number Wait) 0
  -- so does the 1001st of a long history; ticket 0 of statements has row 12242
  pub thousandth : long_row (ring_number Stage) 1000 ≡ long_row (ring_number Stage) 0
  pub long : long_row (ring_number Statement) 0 ≡ 12242
  -- a ticket is kept as one more, so that 0 says that there is none
  pub first_ticket : ticket_word (Some 0) ≡ 1
  pub no_ticket : ticket_word None ≡ 0
  pub ring : put_entry (Done 8453 7 None) ≡ says.Ring 8453 7
  pub long_put : put_entry (Done 12242 1 (Some 0)) ≡ says.Long 12242 1 0
  pub busy : put_entry (Busy 8453 29 29) ≡ says.Busy 8453 29 29
  pub late : put_entry (Late 12242 0 1000) ≡ says.Late 12242 0 1000
