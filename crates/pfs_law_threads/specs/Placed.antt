-- Sessions put their events to places of rings, whatever their store.
use Rattle.std.specs.Prelude.{ℕ, ◌≤◌, List}
use Rattle.pfs_law_plain.specs.Spells.{Spell, AreSpells}
use Rattle.pfs_law_shared.specs.Tickets.{AllPlaced}

-- of sessions whose statements lie at most ten deep, as the limit of a run says
abbrev pub PlacedLaw : Type 0
PlacedLaw = (stack : ℕ) (depths : ℕ → ℕ) (spells : List Spell) → stack ≤ 10 → AreSpells stack depths spells
    → AllPlaced spells
