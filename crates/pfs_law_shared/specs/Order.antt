-- The order of the actions in the journals of sessions at once.
use Rattle.std.specs.Prelude.{ℕ, ◌≡◌, ◌≤◌, ◌<◌, List, [], ◌∷◌}
use Rattle.pfs_admin.specs.declared.changes.Change.{Change}
use Rattle.pfs_board.specs.declared.view.Label.{Label}
use Rattle.pfs_classes.specs.declared.setting.Setting.{Setting}
use Rattle.pfs_levels.specs.Calls.{Call, Adds, Rings, Reads, Loads, Draws, Takes, Puts, Frees, Sets, Enters, Leaves, Meets, IsRow}
use Rattle.pfs_levels.specs.CallOrder.{AllCalls}
use Rattle.pfs_levels.specs.PlainStore.{AllAnswer}
use Rattle.pfs_levels.specs.declared.answers.Added.TheVariants.{Counted, Held}
use Rattle.pfs_law_plain.specs.ActionFolds.{AreFolded}
use Rattle.pfs_law_plain.specs.RunRules.{entries_of}
use Rattle.pfs_law_plain.specs.Spells.{Spell, AreSpells, calls_of, stints_of}
use Rattle.pfs_law_session.specs.Stints.{AreStints}
use Rattle.pfs_law_shared.specs.Shares.{actors_of, AreShared}
use Rattle.pfs_model.specs.Actions.{NeverFall, deeds_of, sets_of, numbers_by, AreRising}
use Rattle.pfs_model.specs.Chains.{Each, AreChained, action_change}
use Rattle.pfs_model.specs.Floors.{AreThere}

-- a call names a row of the store above row 0, and a word of it
abbrev pub IsNear : Call → Type 0
IsNear (Adds at amount (Counted row version)) = IsRow row
IsNear (Adds at amount (Held row first second)) = IsRow row
IsNear (Rings row content answer) = IsRow row
IsNear (Reads row seen) = IsRow row
IsNear (Loads word version flags) = word < 160
IsNear (Draws kind ticket) = Unit {0}
IsNear (Takes row version found) = IsRow row
IsNear (Puts row content version) = IsRow row
IsNear (Frees row version) = IsRow row
IsNear (Sets word flags version) = word < 160
IsNear (Enters label labels) = Unit {0}
IsNear Leaves = Unit {0}
IsNear (Meets versions) = Unit {0}

abbrev pub AllNear : List Spell → Type 0
AllNear spells = AllCalls (Each IsNear) (actors_of spells)

-- so do the calls of a plain store
abbrev pub NearLaw : Type 0
NearLaw = (flags : List ℕ) (spells : List Spell) → AllAnswer flags (calls_of spells) → AllNear spells

-- and those of sessions of the fold, whatever their store, by what they have in common
abbrev pub NearbyLaw : Type 0
NearbyLaw = (setting : Setting) (change : Label → Change) (flags : List ℕ) (stack : ℕ) (depths : ℕ → ℕ)
    (spells : List Spell) (last : ℕ) → AreSpells stack depths spells → AreFolded setting change spells
    → AreShared flags spells → Each (λ spell. spell.phase ≤ last) spells → AllNear spells

-- at each phase's end the numbers that are printed are 1 to n, each once; along a row, and a word, they never fall
pub record HaveOrder (spells : List Spell) : Type 0 where
  pub numbers : AreChained action_change (entries_of spells)
  pub deeds : NeverFall (deeds_of (entries_of spells))
  pub sets : NeverFall (sets_of (entries_of spells))

-- of sessions whose actions enter with their labels, held and settled additions among what they do
abbrev pub OrderedLaw : Type 0
OrderedLaw = (flags : List ℕ) (stack : ℕ) (depths : ℕ → ℕ) (spells : List Spell) (last : ℕ)
    → AreSpells stack depths spells → AreShared flags spells → AllNear spells
    → Each (λ spell. spell.phase ≤ last) spells → HaveOrder spells

-- a session does what it does in a phase as one
abbrev pub AreSingle : List Spell → Type 0
AreSingle [] = Unit {0}
AreSingle (spell ∷ spells) = Each (λ other. other.session ≡ spell.session → other.phase ≡ spell.phase → ⊥) spells
    × AreSingle spells

-- along each session they rise
abbrev pub RisingLaw : Type 0
RisingLaw = (flags : List ℕ) (stack : ℕ) (depths : ℕ → ℕ) (spells : List Spell) (last : ℕ)
    → AreSpells stack depths spells → AreShared flags spells → AreSingle spells
    → Each (λ spell. spell.phase ≤ last) spells → (session : ℕ) → AreRising (numbers_by session (entries_of spells))

-- the rows and words that are named are there
abbrev pub ThereLaw : Type 0
ThereLaw = (stack : ℕ) (depths : ℕ → ℕ) (spells : List Spell) → AreStints stack depths (stints_of spells)
    → AllNear spells → AreThere (entries_of spells)
