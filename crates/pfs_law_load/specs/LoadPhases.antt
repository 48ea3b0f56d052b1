-- The two phases of a generated script.
use Rattle.std.specs.Prelude.{ℕ, ◌≡◌, List, [], ◌∷◌}
use Rattle.pfs_classes.specs.declared.setting.Setting.{Setting}
use Rattle.pfs_gen.specs.GeneratedScript.{script_text}
use Rattle.pfs_law_agreed.specs.FirstPhases.{HasRoom, IsConnecting, connects_of}
use Rattle.pfs_law_agreed.specs.QuietPhases.{IsQuietAt}
use Rattle.pfs_script.specs.Scripts.{IsScript}
use Rattle.pfs_script.specs.declared.blocks.Phase.{Phase}

-- in the first are nothing but connects, and each finds room; the second is quiet
pub record HasLoadPhases (setting : Setting) (phases : List Phase) : Type 0 where
  pub first : Phase
  pub second : Phase
  pub two : phases ≡ first ∷ second ∷ []
  pub connecting : IsConnecting first
  pub room : HasRoom setting (connects_of first.blocks)
  pub quiet : IsQuietAt 2 1 phases

-- the script of each number has such phases
abbrev pub GeneratedLaw : Type 0
GeneratedLaw = (number : ℕ) (setting : Setting) (phases : List Phase) → IsScript (script_text number) setting phases
    → HasLoadPhases setting phases
