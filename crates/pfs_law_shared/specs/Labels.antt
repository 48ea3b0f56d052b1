-- The labels that sessions at once have in common are those of the printed actions.
use Rattle.std.specs.Prelude.{ℕ, ◌≡◌, ◌≤◌, List, length}
use Rattle.pfs_board.specs.declared.view.Label.{Label}
use Rattle.pfs_law_plain.specs.RunRules.{entries_of}
use Rattle.pfs_law_plain.specs.Spells.{Spell, AreSpells}
use Rattle.pfs_law_shared.specs.Order.{AllNear}
use Rattle.pfs_law_shared.specs.Shares.{actors_of, AreShared}
use Rattle.pfs_levels.specs.CallOrder.{AllCalls, AreNamed}
use Rattle.pfs_model.specs.Chains.{Each}
use Rattle.pfs_runs.specs.Labels.{AreLabels}

-- by their numbers, each with its session and its place among this one's actions: any labels, as many as these, that
-- the actions found as they began and ended with, as those in common are
abbrev pub LabelledLaw : Type 0
LabelledLaw = (flags : List ℕ) (stack : ℕ) (depths : ℕ → ℕ) (spells : List Spell) (last : ℕ)
    → AreSpells stack depths spells → (shared : AreShared flags spells) → AllNear spells
    → Each (λ spell. spell.phase ≤ last) spells → (labels : List Label) → length labels ≡ length (shared last).labels
    → AllCalls (AreNamed labels) (actors_of spells) → AreLabels labels (entries_of spells)
