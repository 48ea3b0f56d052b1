-- Worked examples, by computation.
use Rattle.std.proofs.Common.{◌≡◌, Some, None, refl, arith}
use Rattle.std.specs.Prelude.{codes}
use Rattle.pfs_rows.specs.declared.place.Place.TheVariants.{ThreadInfo, ThreadCell, GlobalCell, Ring, Long}
use Rattle.pfs_rows.specs.declared.table.TableKind.TheVariants.{Waits}
use Rattle.pfs_rows.specs.declared.table.SummaryTable.TheVariants.{Global}
use Rattle.pfs_rows.specs.declared.table.Table.TheVariants.{Summary}
use Rattle.pfs_rows.specs.Rows.{IsPlace, row_number, place_at}
use Rattle.pfs_rows.specs.Tables.{table_name}

-- class 6 of the first thread, and of the global level
pub first_thread : row_number (ThreadCell 0 6) ≡ 135
first_thread = refl

pub global : row_number (GlobalCell 6) ≡ 8327
global = refl

-- the first history place of transactions of the last thread
pub history : place_at 10232 ≡ Some (Ring 31 46)
history = refl

-- the last row, and the one after it, which is none
pub last : place_at 14241 ≡ Some (Long 3 999)
last = refl

pub past : place_at 14242 ≡ None
past = refl

-- there is no thread 32
pub no_thread : ¬ IsPlace (ThreadInfo 32)
no_thread h = omega arith

pub name : table_name (Summary Waits Global) ≡ codes "events_waits_summary_global_by_event_name"
name = refl
