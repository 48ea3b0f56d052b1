-- The switch words that an entry names, as a list.
use Rattle.std.specs.Prelude.{List, [], ◌∷◌, ◌++◌, Option, Some, None}
use Rattle.pfs_model.specs.declared.changes.Change.{Change}
use Rattle.pfs_model.specs.Chains.{change_at}
use Rattle.pfs_check_floors.specs.declared.loads.Load.{Load}
use Rattle.pfs_check_floors.specs.declared.loads.Loads.{Loads}

abbrev pub load_list : Option Load → List Change
load_list None = []
load_list (Some load) = change_at load.word load.version ∷ []

abbrev pub loads_list : Loads → List Change
loads_list loads =
    load_list loads.consumers ++ (load_list loads.thread ++ (load_list loads.class ++ load_list loads.table))
