-- What was collected of entries, in their order.
use Rattle.std.specs.Prelude.{◌≡◌, List}
use Rattle.pfs_event.specs.declared.entry.Entry.{Entry}
use Rattle.pfs_model.specs.declared.changes.Change.{Change}
use Rattle.pfs_model.specs.Chains.{release_of, row_change, word_change}
use Rattle.pfs_model.specs.EntryPlaces.{Placed}
use Rattle.pfs_check_floors.specs.declared.collecting.Collected.{Collected}
use Rattle.pfs_check_floors.specs.declared.collecting.Givens.{Givens}
use Rattle.pfs_check_floors.specs.KeyedGivens.{by_action, by_phase}
use Rattle.pfs_check_floors.specs.ReleasedRows.{AreFreed}

pub record AreGivenBy (given : Entry → List Change) (places : List Placed) (givens : Givens) : Type 0 where
  pub phases : givens.by_phase.items ≡ by_phase given places
  pub actions : givens.by_action.items ≡ by_action given places

pub record AreCollected (places : List Placed) (collected : Collected) : Type 0 where
  pub rows : AreGivenBy row_change places collected.rows
  pub words : AreGivenBy word_change places collected.words
  pub releases : collected.releases.items ≡ by_action release_of places
  pub freed : AreFreed places collected.freed
