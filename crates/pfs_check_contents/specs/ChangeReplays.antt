-- A replay of changes, one after another. Those that were replayed stand in a list, the last first.
use Rattle.std.specs.Prelude.{ℕ, ◌≡◌, ◌+◌, ◌-◌, ◌≤◌, cond, List, [], ◌∷◌, ◌++◌, map, slice_get, Option, Some, None}
use Rattle.std.specs.Option.{option_to_list}
use Rattle.pfs_model.specs.declared.changes.Change.{Change}
use Rattle.pfs_model.specs.Chains.{change_at, is_that}
use Rattle.pfs_model.specs.Contents.{opening_words}
use Rattle.pfs_model.specs.PlainAgreement.{last_of}
use Rattle.pfs_check_contents.specs.declared.changes.Effect.{Effect}
use Rattle.pfs_check_contents.specs.declared.changes.Effect.TheVariants as effects
use Rattle.pfs_check_contents.specs.declared.changes.RowChange.{RowChange}
use Rattle.pfs_check_contents.specs.declared.shelf.Shelf.{Shelf}
use Rattle.pfs_check_contents.specs.KeptContents.{content_at}
use Rattle.pfs_check_contents.specs.RowEffects.{effect_on}

abbrev pub change_of : RowChange → Change
change_of one = change_at one.row one.version

-- the last version that a row had
abbrev pub last_in : ℕ → List RowChange → ℕ
last_in row done = last_of row (map change_of done)

-- what is given was taken before
abbrev pub HasGiven : List RowChange → Effect → Type 0
HasGiven done (effects.Give from version) = version ≤ last_in from done
HasGiven done _ = Unit {0}

-- the change is the next version of its row
pub record Follows (done : List RowChange) (one : RowChange) : Type 0 where
  pub next : one.version ≡ last_in one.row done + 1
  pub source : HasGiven done one.effect

abbrev pub AllFollow : List RowChange → Type 0
AllFollow [] = Unit {0}
AllFollow (one ∷ done) = Follows done one × AllFollow done

-- what stands in the rows at their versions
unfoldable pub words_in : List RowChange → ℕ → ℕ → List ℕ
words_in [] row version = opening_words row
words_in (one ∷ done) row version =
    cond (is_that (change_at row version) (change_of one))
    (effect_on one.effect (words_in done) (words_in done row (version - 1)))
    (words_in done row version)

-- each version that a row had has its content
abbrev pub AreKept : List RowChange → Shelf → Type 0
AreKept done shelf = (row version : ℕ) → version ≤ last_in row done
    → content_at shelf row version ≡ words_in done row version

-- those at some places of a list, one after another, the last first, and behind them what there was
abbrev pub picked_onto : {A : Type 0} → List A → List ℕ → List A → List A
picked_onto all [] done = done
picked_onto all (place ∷ places) done = picked_onto all places (option_to_list (slice_get all place) ++ done)

-- the changes in the order of their places
abbrev pub done_of : {A : Type 0} → List A → List ℕ → List A
done_of all order = picked_onto all order []

-- All that were replayed are each the next version of their row, and have their contents.
pub record IsShelfFor (done : List RowChange) (shelf : Shelf) : Type 0 where
  pub follow : AllFollow done
  pub kept : AreKept done shelf

-- the answer of a replay: None where one of the changes isn't the next version of its row, or has no source
abbrev pub IsReplayTold : List RowChange → List ℕ → Option Shelf → Type 0
IsReplayTold changes order None = AllFollow (done_of changes order) → ⊥
IsReplayTold changes order (Some shelf) = IsShelfFor (done_of changes order) shelf
