-- The tickets in the journals of sessions at once.
use Rattle.std.specs.Prelude.{ℕ, ◌≤◌, ◌<◌, List}
use Rattle.pfs_admin.specs.declared.changes.Change.{Change}
use Rattle.pfs_board.specs.declared.view.Label.{Label}
use Rattle.pfs_classes.specs.declared.setting.Setting.{Setting}
use Rattle.pfs_levels.specs.Calls.{Call, Adds, Rings, Reads, Loads, Draws, Takes, Puts, Frees, Sets, Enters, Leaves, Meets, IsRing}
use Rattle.pfs_levels.specs.CallOrder.{AllCalls}
use Rattle.pfs_levels.specs.PlainStore.{AllAnswer}
use Rattle.pfs_levels.specs.declared.answers.Added.TheVariants.{Counted, Held}
use Rattle.pfs_law_plain.specs.ActionFolds.{AreFolded}
use Rattle.pfs_law_plain.specs.RunRules.{entries_of}
use Rattle.pfs_law_plain.specs.Spells.{Spell, AreSpells, calls_of}
use Rattle.pfs_law_shared.specs.Order.{AreSingle}
use Rattle.pfs_law_shared.specs.Shares.{actors_of, AreShared}
use Rattle.pfs_model.specs.Chains.{Each}
use Rattle.pfs_model.specs.Rings.{AreTickets, LongRises}

-- an event is put to a place of a thread's ring, or to the long place of its ticket
abbrev pub IsPlaced : Call → Type 0
IsPlaced (Rings row content answer) = IsRing row content
IsPlaced (Adds row amount answer) = Unit {0}
IsPlaced (Reads row seen) = Unit {0}
IsPlaced (Loads word version flags) = Unit {0}
IsPlaced (Draws kind ticket) = Unit {0}
IsPlaced (Takes row version found) = Unit {0}
IsPlaced (Puts row content version) = Unit {0}
IsPlaced (Frees row version) = Unit {0}
IsPlaced (Sets word flags version) = Unit {0}
IsPlaced (Enters label labels) = Unit {0}
IsPlaced Leaves = Unit {0}
IsPlaced (Meets versions) = Unit {0}

abbrev pub AllPlaced : List Spell → Type 0
AllPlaced spells = AllCalls (Each IsPlaced) (actors_of spells)

-- so do the calls of a plain store
abbrev pub PlacedLaw : Type 0
PlacedLaw = (flags : List ℕ) (spells : List Spell) → AllAnswer flags (calls_of spells) → AllPlaced spells

-- an addition, and what an action puts, names no place of the long history
abbrev pub IsApart : Call → Type 0
IsApart (Adds at amount (Counted row version)) = row < 10242
IsApart (Adds at amount (Held row first second)) = Unit {0}
IsApart (Puts row content version) = row < 10242
IsApart (Rings row content answer) = Unit {0}
IsApart (Reads row seen) = Unit {0}
IsApart (Loads word version flags) = Unit {0}
IsApart (Draws kind ticket) = Unit {0}
IsApart (Takes row version found) = Unit {0}
IsApart (Frees row version) = Unit {0}
IsApart (Sets word flags version) = Unit {0}
IsApart (Enters label labels) = Unit {0}
IsApart Leaves = Unit {0}
IsApart (Meets versions) = Unit {0}

abbrev pub AllApart : List Spell → Type 0
AllApart spells = AllCalls (Each IsApart) (actors_of spells)

-- so it is of sessions whose actions are those of the fold, whatever their store: they name cells, rows of digests and
-- info rows
abbrev pub ApartLaw : Type 0
ApartLaw = (setting : Setting) (change : Label → Change) (stack : ℕ) (depths : ℕ → ℕ) (spells : List Spell)
    → AreSpells stack depths spells → AreFolded setting change spells → AllApart spells

-- along a place of a long history tickets rise with the versions, between two releases
abbrev pub RisenLaw : Type 0
RisenLaw = (flags : List ℕ) (stack : ℕ) (depths : ℕ → ℕ) (spells : List Spell) (last : ℕ)
    → AreSpells stack depths spells → AreShared flags spells → AllApart spells
    → Each (λ spell. spell.phase ≤ last) spells → LongRises (entries_of spells)

-- phase by phase each place of a long history has as many puts as tickets, these stand at their places, each once, and
-- rise along a session
abbrev pub TicketedLaw : Type 0
TicketedLaw = (flags : List ℕ) (stack : ℕ) (depths : ℕ → ℕ) (spells : List Spell) (last : ℕ)
    → AreSpells stack depths spells → AreShared flags spells → AllPlaced spells → AreSingle spells
    → Each (λ spell. spell.phase ≤ last) spells
    → (phase kind : ℕ) → kind < 4 → AreTickets (entries_of spells) phase kind
