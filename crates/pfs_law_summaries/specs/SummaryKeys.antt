-- Whose rows a summary has, and what they begin with.
use Rattle.std.specs.Prelude.{ℕ, Bool, true, false, List, [], ◌∷◌}
use Rattle.pfs_classes.specs.Registry.{text_of}
use Rattle.pfs_conservation.specs.KindSummaries.{Key, KeyThread, KeyAccount, KeyUser, KeyHost, KeyAll}
use Rattle.pfs_rows.specs.declared.table.SummaryTable.{SummaryTable}
use Rattle.pfs_rows.specs.declared.table.SummaryTable.TheVariants.{ByThread, ByAccount, ByUser, ByHost, Global}
use Rattle.pfs_text.specs.declared.values.RowValue.{RowValue}
use Rattle.pfs_text.specs.declared.values.RowValue.TheVariants as value

-- by thread the rows of sessions, by account, user and host those of names, globally those of all
abbrev pub is_key_of : SummaryTable → Key → Bool
is_key_of ByThread (KeyThread session slot) = true
is_key_of ByAccount (KeyAccount user host) = true
is_key_of ByUser (KeyUser user) = true
is_key_of ByHost (KeyHost host) = true
is_key_of Global KeyAll = true
is_key_of which key = false

-- the values that a key's rows begin with
abbrev pub heading_of_key : List (List ℕ) → Key → List RowValue
heading_of_key names (KeyThread session slot) = value.Number session ∷ []
heading_of_key names (KeyAccount user host) = value.Text (text_of names user) ∷ value.Text (text_of names host) ∷ []
heading_of_key names (KeyUser user) = value.Text (text_of names user) ∷ []
heading_of_key names (KeyHost host) = value.Text (text_of names host) ∷ []
heading_of_key names KeyAll = []
