-- The actions of a script by numbers: what each line that is one changes, kept once, and which of these each session
-- does.
use Rattle.std.specs.Prelude.{ℕ, ◌≡◌, ◌<◌, ◌==◌, All, List, [], ◌++◌, filter, length, map, Option, Some, None, Vec, unwrap_or}
use Rattle.std.specs.BTreeMap.{BTreeMap, get}
use Rattle.std.specs.List.{flat_map, slice_index_or}
use Rattle.std.specs.Ordering.{nat_cmp}
use Rattle.std.specs.declared.alloc.Global.{Global}
use Rattle.pfs_admin.specs.declared.changes.Change.{Change}
use Rattle.pfs_admin.specs.declared.changes.Change.TheVariants as changes
use Rattle.pfs_admin.specs.declared.changes.SetupStatement.TheVariants.{Show}
use Rattle.pfs_runs.specs.ScriptLines.{changes_in}
use Rattle.pfs_script.specs.declared.blocks.Block.{Block}
use Rattle.pfs_script.specs.declared.blocks.Phase.{Phase}
use Rattle.pfs_check_changes.specs.declared.actions.Actions.{Actions}

-- an action that no line of the script has only reads
abbrev pub show_if : Option Change → Change
show_if change = unwrap_or change (changes.Setup Show)

abbrev pub change_at : List Change → ℕ → Change
change_at kept number = slice_index_or kept number (changes.Setup Show)

-- these are numbers of changes that are kept, and stand for these
pub record StandFor (kept : List Change) (numbers : List ℕ) (made : List Change) : Type 0 where
  pub within : All (λ number. number < length kept) numbers
  pub made_are : map (change_at kept) numbers ≡ made

-- no change that was kept is another now
abbrev pub Grows : List Change → List Change → Type 0
Grows old new = (more : List Change) × (new ≡ old ++ more)

abbrev pub items_or : Option (Vec ℕ Global) → List ℕ
items_or None = []
items_or (Some numbers) = numbers.items

abbrev pub numbers_at : BTreeMap ℕ (Vec ℕ Global) → ℕ → List ℕ
numbers_at numbers session = items_or (get nat_cmp numbers session)

-- the numbers of each session stand for the changes of its blocks among these, in their order
abbrev pub AreListedTo : List Block → Actions → Type 0
AreListedTo blocks actions = (session : ℕ)
    → StandFor actions.changes.items (numbers_at actions.numbers session)
    (flat_map changes_in (filter (λ (block : Block). block.session == session) blocks))

abbrev pub AreListed : List Phase → Actions → Type 0
AreListed phases actions = AreListedTo (flat_map (λ (phase : Phase). phase.blocks) phases) actions
