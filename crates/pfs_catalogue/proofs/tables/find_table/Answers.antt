use Rattle.std.proofs.Common.{◌≡◌, List, ℕ, ◌∙◌, ap}
use Rattle.std.specs.List.{find}
use Rattle.pfs_rows.specs.declared.table.Table.{Table}
use Rattle.pfs_rows.specs.Tables.{table_name}
use Rattle.pfs_catalogue.specs.LetterCases.{is_same_name}
use Rattle.pfs_catalogue.specs.declared.tables.TheConstants.{TABLES}
use Rattle.pfs_catalogue.proofs.TableLookups.{table_found}
use Rattle.pfs_catalogue.proofs.tables.find_table.Goals as goal

pub returns : goal.returns
returns c = table_found c.args.name.now c.named.result (c.named.ensures ∙ ap (λ (bare : List ℕ). find (λ (t : Table). is_same_name (table_name t) bare) TABLES) c.without_schema.ensures)
