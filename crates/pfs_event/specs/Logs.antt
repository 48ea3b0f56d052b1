-- A log: its entries in their order, and how many more have room.
use Rattle.std.specs.Prelude.{ℕ, List}
use Rattle.pfs_event.specs.declared.entry.Entry.{Entry}

pub record Journal : Type 0 where
  pub entries : List Entry
  pub room : ℕ
