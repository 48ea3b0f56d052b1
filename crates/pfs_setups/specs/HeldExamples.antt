-- The rows of an opening, and an actor that was added and isn't instrumented.
use Rattle.std.specs.Prelude.{◌≡◌, false, true, [], ◌∷◌, ◌++◌, codes, take}
use Rattle.pfs_matching.specs.ActorRules.{opening_actors}
use Rattle.pfs_matching.specs.ObjectRules.{opening_objects}
use Rattle.pfs_rows.specs.declared.table.Table.TheVariants.{SetupActors, SetupObjects}
use Rattle.pfs_text.specs.declared.values.RowValue.TheVariants.{Text}
use Rattle.pfs_setups.specs.HeldRows.{held_rows}

pub record WorkedRows : Type 0 where
  pub actors : held_rows SetupActors (opening_actors ++ record {
    host = codes "h";
    user = codes "u";
    role = codes "%";
    enabled = false;
    history = true;
  } ∷ []) []
      ≡ (Text (codes "%") ∷ Text (codes "%") ∷ Text (codes "%") ∷ Text (codes "YES") ∷ Text (codes "YES") ∷ [])
      ∷ (Text (codes "h") ∷ Text (codes "u") ∷ Text (codes "%") ∷ Text (codes "NO") ∷ Text (codes "YES") ∷ []) ∷ []
  pub objects : take 2 (held_rows SetupObjects [] opening_objects)
      ≡ (Text (codes "EVENT") ∷ Text (codes "%") ∷ Text (codes "%") ∷ Text (codes "YES") ∷ Text (codes "YES") ∷ [])
      ∷ (Text (codes "EVENT") ∷ Text (codes "information_schema") ∷ Text (codes "%") ∷ Text (codes "NO")
      ∷ Text (codes "NO") ∷ []) ∷ []
  pub none : held_rows SetupActors [] opening_objects ≡ []
