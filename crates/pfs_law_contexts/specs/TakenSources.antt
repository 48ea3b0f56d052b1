-- What a gift is of: the last take of its action.
use Rattle.std.specs.Prelude.{ℕ, ◌≡◌, ◌==◌, cond, List, [], ◌∷◌, Option, Some, None}
use Rattle.pfs_event.specs.declared.entry.Entry.{Entry}
use Rattle.pfs_event.specs.declared.entry.Entry.TheVariants as says
use Rattle.pfs_model.specs.declared.changes.Change.{Change}
use Rattle.pfs_model.specs.Chains.{AreChained, action_change, change_at}
use Rattle.pfs_model.specs.Contexts.{Context}
use Rattle.pfs_model.specs.EntryPlaces.{Block, IsShaped, Placed, places}

-- the row and the version of a context's source
abbrev pub source_at : Option ℕ → ℕ → Option Change
source_at None version = None
source_at (Some row) version = Some (change_at row version)

abbrev pub source_of : Context → Option Change
source_of context = source_at context.source context.source_version

-- before an action has its number it has taken nothing
abbrev pub in_action : ℕ → Option Change → Option Change
in_action action source = cond (action == 0) None source

abbrev pub taken_behind : Entry → Option Change → Option Change
taken_behind (says.Take row version) source = Some (change_at row version)
taken_behind _ source = source

-- what a session took last in an action, of these entries, the last first
abbrev pub taken_in : List Placed → ℕ → Option Change
taken_in [] session = None
taken_in (place ∷ earlier) session =
    cond (place.session == session)
    (taken_behind place.entry (in_action place.context.action (taken_in earlier session)))
    (taken_in earlier session)

abbrev pub IsTakenLast : List Placed → Placed → Type 0
IsTakenLast earlier place =
    source_of place.context ≡ in_action place.context.action (taken_in earlier place.session)

-- of all entries from here on
abbrev pub AreTakenBehind : List Placed → List Placed → Type 0
AreTakenBehind earlier [] = Unit {0}
AreTakenBehind earlier (place ∷ places) = IsTakenLast earlier place × AreTakenBehind (place ∷ earlier) places

-- where the journals have the right shape and each action has its number once, from 1 on
abbrev pub SourceLaw : Type 0
SourceLaw = (blocks : List Block) → IsShaped blocks → AreChained action_change (places blocks)
    → AreTakenBehind [] (places blocks)
