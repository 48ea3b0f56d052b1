-- The entries of a SELECT.
use Rattle.std.specs.Prelude.{ℕ, ◌≡◌, true, false, List, [], ◌∷◌, ◌++◌, All, map}
use Rattle.pfs_classes.specs.declared.setting.Setting.{Setting}
use Rattle.pfs_event.specs.declared.entry.Entry.{Entry}
use Rattle.pfs_event.specs.declared.entry.Entry.TheVariants as says
use Rattle.pfs_exec.specs.declared.query.Select.{Select}
use Rattle.pfs_journal.specs.Spelling.{is_answered}
use Rattle.pfs_model.specs.EntryAsks.{is_reading}
use Rattle.pfs_readsets.specs.ReadSets.{IsReadSet}
use Rattle.pfs_readsets.specs.TablePlaces.{scope_of}
use Rattle.pfs_rows.specs.declared.table.Reading.{Reading}
use Rattle.pfs_session.specs.Inquiries.{reading_entry}

-- the last one says how many rows answer it, and none before
pub record IsCounted (part : List Entry) : Type 0 where
  pub opening : List Entry
  pub number : ℕ
  pub none : All (λ entry. is_answered entry ≡ false) opening
  pub told : part ≡ opening ++ says.Rows number ∷ []

-- that of one that reads the store: what it reads stands between `query` and the number of rows
pub record IsQueryPart (part : List Entry) : Type 0 where
  pub readings : List Entry
  pub number : ℕ
  pub each : All (λ entry. is_reading entry ≡ true) readings
  pub told : part ≡ says.Query ∷ (readings ++ says.Rows number ∷ [])

-- between them stand these readings, the table's read set
pub record IsReadAs (setting : Setting) (select : Select) (readings : List Reading) (part : List Entry) : Type 0 where
  pub whole : IsReadSet (scope_of setting) select.table readings
  pub number : ℕ
  pub told : part ≡ says.Query ∷ (map reading_entry readings ++ says.Rows number ∷ [])

-- the last of some entries says an action of this number, or none
abbrev pub ActsAt : List Entry → ℕ → Type 0
ActsAt opening action = (settled : List Entry) × (opening ≡ settled ++ says.Act action ∷ [])

abbrev pub ActsNowhere : List Entry → Type 0
ActsNowhere opening = (action : ℕ) → ActsAt opening action → ⊥
