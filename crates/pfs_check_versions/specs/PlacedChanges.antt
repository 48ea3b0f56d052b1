-- The changes that entries give, each with where it stands.
use Rattle.std.specs.Prelude.{ℕ, ◌≡◌, ◌+◌, ◌≤◌, List, [], ◌∷◌, ◌++◌, map}
use Rattle.std.specs.List.{flat_map}
use Rattle.pfs_event.specs.declared.entry.Entry.{Entry}
use Rattle.pfs_model.specs.declared.changes.Change.{Change}
use Rattle.pfs_model.specs.Chains.{action_change, row_change, word_change}
use Rattle.pfs_check_versions.specs.declared.changes.Chained.{Chained}
use Rattle.pfs_check_versions.specs.declared.changes.Chained.TheVariants.{Actions, Rows, Words}
use Rattle.pfs_check_versions.specs.declared.changes.PlacedChange.{PlacedChange}
use Rattle.pfs_check_versions.specs.PrintedEntries.{Printed}

abbrev pub given_by : Chained → Entry → List Change
given_by Rows = row_change
given_by Words = word_change
given_by Actions = action_change

abbrev pub placed_at : Printed → Change → PlacedChange
placed_at printed change =
    record { line = printed.line; phase = printed.phase; session = printed.session; change = change }

abbrev pub changes_at : (Entry → List Change) → Printed → List PlacedChange
changes_at given printed = map (placed_at printed) (given printed.entry)

abbrev pub changes_of : (Entry → List Change) → List Printed → List PlacedChange
changes_of given printed = flat_map (changes_at given) printed

-- the changes of these entries are put behind those, and so many lines lead from one line to another
pub record IsGathered (given : Entry → List Change) (old new : List PlacedChange) (printed : List Printed)
    (line lines end : ℕ) : Type 0 where
  pub changes : new ≡ old ++ changes_of given printed
  pub line_is : end ≡ line + lines

-- from this phase on they never fall behind a phase
abbrev pub AreInOrder : ℕ → List PlacedChange → Type 0
AreInOrder phase [] = Unit {0}
AreInOrder phase (one ∷ others) = (phase ≤ one.phase) × AreInOrder one.phase others
