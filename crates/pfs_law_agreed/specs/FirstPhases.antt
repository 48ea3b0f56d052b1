-- First phases of connects alone, where each finds room.
use Rattle.std.specs.Prelude.{ℕ, ◌≡◌, ◌≤◌, List, [], ◌∷◌, is_some}
use Rattle.pfs_classes.specs.declared.setting.Setting.{Setting}
use Rattle.pfs_journal.specs.declared.report.ReportParts.{ReportParts}
use Rattle.pfs_law_summaries.specs.OrderlyRuns.{run_of}
use Rattle.pfs_model.specs.Chains.{Each, times}
use Rattle.pfs_runs.specs.Runs.{IsRun}
use Rattle.pfs_script.specs.Marks.{written_out}
use Rattle.pfs_script.specs.Scripts.{IsScript}
use Rattle.pfs_script.specs.declared.blocks.Block.{Block as Said}
use Rattle.pfs_script.specs.declared.blocks.Phase.{Phase}
use Rattle.pfs_law_agreed.specs.Agreement.{AgreeBehind, ShowTheSame}
use Rattle.pfs_law_agreed.specs.QuietPhases.{IsQuietAt}

-- no block of the phase has a line beside its connect
abbrev pub IsConnecting : Phase → Type 0
IsConnecting phase = Each (λ (block : Said). written_out block.lines ≡ []) phase.blocks

-- how many of these connect
abbrev pub connects_of : List Said → ℕ
connects_of blocks = times (λ (block : Said). is_some block.connect) blocks

-- so many connects find a slot, an account, a user and a host each
abbrev pub HasRoom : Setting → ℕ → Type 0
HasRoom setting count = (count ≤ setting.limits.thread_instances) × (count ≤ setting.limits.accounts)
    × (count ≤ setting.limits.users) × (count ≤ setting.limits.hosts)

-- two runs of a script agree behind its first phase, if that has nothing but connects and each finds room
abbrev pub FirstPhaseLaw : Type 0
FirstPhaseLaw = (text : List ℕ) (setting : Setting) (phase : Phase) (phases : List Phase) (report other : ReportParts)
    → IsScript text setting (phase ∷ phases) → IsConnecting phase → HasRoom setting (connects_of phase.blocks)
    → (run : IsRun setting (phase ∷ phases) report) (second : IsRun setting (phase ∷ phases) other)
    → AgreeBehind (run_of setting (phase ∷ phases) report run) (run_of setting (phase ∷ phases) other second) 1

-- so they show the same behind the second, if that is quiet
abbrev pub SecondPhaseLaw : Type 0
SecondPhaseLaw = (text : List ℕ) (setting : Setting) (phase : Phase) (phases : List Phase) (report other : ReportParts)
    → IsScript text setting (phase ∷ phases) → IsConnecting phase → HasRoom setting (connects_of phase.blocks)
    → IsQuietAt 2 1 (phase ∷ phases)
    → (run : IsRun setting (phase ∷ phases) report) (second : IsRun setting (phase ∷ phases) other)
    → ShowTheSame (run_of setting (phase ∷ phases) report run) (run_of setting (phase ∷ phases) other second) 2
