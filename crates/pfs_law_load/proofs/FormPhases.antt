-- The phases of lines of which some connect and the others start, spend and end.
use Rattle.std.proofs.Common.{ℕ, ◌≡◌, ◌+◌, ◌≤◌, Bool, true, false, cond, List, [], ◌∷◌, ◌++◌, length, Option, Some, None, refl, ap, ◌∙◌, arith}
use Rattle.std.specs.Prelude.{IfSome, fold, option_map}
use Rattle.std.specs.List.{flat_map}
use Rattle.pfs_law_agreed.specs.FirstPhases.{IsConnecting, connects_of}
use Rattle.pfs_law_agreed.specs.QuietPhases.{IsQuietPhase}
use Rattle.pfs_model.specs.Chains.{Each}
use Rattle.pfs_rows.specs.declared.limits.Limits.{Limits}
use Rattle.pfs_runs.specs.ScriptLines.{changes_in, changes_on}
use Rattle.pfs_script.specs.Blocks.{Sense, block_line, block_lines, blocks_of, phases_of, with_front}
use Rattle.pfs_script.specs.Finds.{digest_place}
use Rattle.pfs_script.specs.Headings.{limits_behind}
use Rattle.pfs_script.specs.Marks.{written_from, written_out}
use Rattle.pfs_script.specs.Sessions.{ends_block}
use Rattle.pfs_script.specs.declared.blocks.Block.{Block}
use Rattle.pfs_script.specs.declared.blocks.BlockLine.{BlockLine}
use Rattle.pfs_script.specs.declared.blocks.BlockLine.TheVariants as said
use Rattle.pfs_script.specs.declared.blocks.Phase.{Phase}
use Rattle.pfs_script.specs.declared.forms.Form.{Form}
use Rattle.pfs_script.specs.declared.forms.Form.TheVariants as lines
use Rattle.pfs_law_load.proofs.GeneratedForms.{IsConnect}
use Rattle.pfs_law_load.proofs.SaidLines.{IsInside}

-- ---- the second phase

-- what such a line says to its session
abbrev IsCalm : BlockLine → Type 0
IsCalm (said.Wait class) = Unit {0}
IsCalm (said.Statement class digest) = Unit {0}
IsCalm (said.Spend time) = Unit {0}
IsCalm said.End = Unit {0}
IsCalm _ = ⊥

calm_changes : (lines : List BlockLine) → Each IsCalm lines → flat_map changes_on (written_from None lines) ≡ []
unfolding written_from
calm_changes [] calm = refl
calm_changes (said.Wait class ∷ lines) calm = calm_changes lines calm.1
calm_changes (said.Statement class digest ∷ lines) calm = calm_changes lines calm.1
calm_changes (said.Spend time ∷ lines) calm = calm_changes lines calm.1
calm_changes (said.End ∷ lines) calm = calm_changes lines calm.1
calm_changes (_ ∷ lines) calm = absurd calm.0

mapped : {A : Type 0} (f : A → BlockLine) (one : Option A) → ((x : A) → IsCalm (f x)) → IfSome (option_map f one) IsCalm
mapped f None calm = tt
mapped f (Some x) calm = calm x

line_calm : (sense : Sense) (line : Form) → IsInside line → IfSome (block_line sense line) IsCalm
line_calm sense (lines.Resume session) inside = tt
line_calm sense (lines.Statement class text) inside = mapped (λ ref. said.Statement ref (digest_place sense.digests text)) (sense.class class) (λ ref. tt)
line_calm sense (lines.Wait class) inside = mapped said.Wait (sense.class class) (λ ref. tt)
line_calm sense (lines.Spend time) inside = mapped said.Spend time (λ n. tt)
line_calm sense lines.End inside = tt
line_calm sense _ inside = absurd inside

front_calm : (one : Option BlockLine) (more : List BlockLine) → IfSome one IsCalm → Each IsCalm more → Each IsCalm (with_front one more)
front_calm None more calm rest = rest
front_calm (Some line) more calm rest = (calm, rest)

unless : (ends : Bool) (some : List BlockLine) → Each IsCalm some → Each IsCalm (cond ends [] some)
unless true some calm = tt
unless false some calm = calm

lines_calm : (sense : Sense) (lines : List Form) → Each IsInside lines → Each IsCalm (block_lines sense lines)
unfolding block_lines
lines_calm sense [] inside = tt
lines_calm sense (line ∷ lines) inside =
    unless (ends_block line) (with_front (block_line sense line) (block_lines sense lines))
    (front_calm (block_line sense line) (block_lines sense lines) (line_calm sense line inside.0) (lines_calm sense lines inside.1))

abbrev IsQuiet : Block → Type 0
IsQuiet block = changes_in block ≡ []

block_quiet : (session : Option ℕ) (said : List BlockLine) (blocks : List Block) → flat_map changes_on (written_from None said) ≡ [] → Each IsQuiet blocks
    → Each IsQuiet (with_front (option_map (λ number. record { session = number; connect = None; lines = said }) session) blocks)
block_quiet None said blocks none rest = rest
block_quiet (Some number) said blocks none rest = (none, rest)

blocks_quiet : (sense : Sense) (lines : List Form) → Each IsInside lines → Each IsQuiet (blocks_of sense lines)
unfolding blocks_of
blocks_quiet sense [] inside = tt
blocks_quiet sense (lines.Resume session ∷ rest) inside =
    block_quiet session (block_lines sense rest) (blocks_of sense rest) (calm_changes (block_lines sense rest) (lines_calm sense rest inside.1)) (blocks_quiet sense rest inside.1)
blocks_quiet sense (lines.Statement class text ∷ rest) inside = blocks_quiet sense rest inside.1
blocks_quiet sense (lines.Wait class ∷ rest) inside = blocks_quiet sense rest inside.1
blocks_quiet sense (lines.Spend time ∷ rest) inside = blocks_quiet sense rest inside.1
blocks_quiet sense (lines.End ∷ rest) inside = blocks_quiet sense rest inside.1
blocks_quiet sense (_ ∷ rest) inside = absurd inside.0

no_phases : (sense : Sense) (lines : List Form) → Each IsInside lines → phases_of sense lines ≡ []
unfolding phases_of
no_phases sense [] inside = refl
no_phases sense (lines.Resume session ∷ rest) inside = no_phases sense rest inside.1
no_phases sense (lines.Statement class text ∷ rest) inside = no_phases sense rest inside.1
no_phases sense (lines.Wait class ∷ rest) inside = no_phases sense rest inside.1
no_phases sense (lines.Spend time ∷ rest) inside = no_phases sense rest inside.1
no_phases sense (lines.End ∷ rest) inside = no_phases sense rest inside.1
no_phases sense (_ ∷ rest) inside = absurd inside.0

-- ---- the first phase

-- a connect has no line behind it
no_lines : (sense : Sense) (first second : List Form) → Each IsConnect first → block_lines sense (first ++ lines.Phase ∷ second) ≡ []
unfolding block_lines
no_lines sense [] second connects = refl
no_lines sense (lines.Connect session user host ∷ first) second connects = refl
no_lines sense (_ ∷ first) second connects = absurd connects.0

abbrev IsBare : Block → Type 0
IsBare block = written_out block.lines ≡ []

bare : (said : List BlockLine) → said ≡ [] → written_out said ≡ []
unfolding written_from
bare said none = ap (written_from None) none

blocks_bare : (sense : Sense) (first second : List Form) → Each IsConnect first → Each IsBare (blocks_of sense (first ++ lines.Phase ∷ second))
unfolding blocks_of
blocks_bare sense [] second connects = tt
blocks_bare sense (lines.Connect None user host ∷ first) second connects = blocks_bare sense first second connects.1
blocks_bare sense (lines.Connect (Some number) user host ∷ first) second connects =
    (bare (block_lines sense (first ++ lines.Phase ∷ second)) (no_lines sense first second connects.1), blocks_bare sense first second connects.1)
blocks_bare sense (_ ∷ first) second connects = absurd connects.0

blocks_few : (sense : Sense) (first second : List Form) → Each IsConnect first → connects_of (blocks_of sense (first ++ lines.Phase ∷ second)) ≤ length first
unfolding blocks_of
blocks_few sense [] second connects = omega arith
blocks_few sense (lines.Connect None user host ∷ first) second connects = omega (arith, blocks_few sense first second connects.1)
blocks_few sense (lines.Connect (Some number) user host ∷ first) second connects = omega (arith, blocks_few sense first second connects.1)
blocks_few sense (_ ∷ first) second connects = absurd connects.0

phases_behind : (sense : Sense) (first second : List Form) → Each IsConnect first → phases_of sense (first ++ lines.Phase ∷ second) ≡ record { blocks = blocks_of sense second } ∷ phases_of sense second
unfolding phases_of
phases_behind sense [] second connects = refl
phases_behind sense (lines.Connect session user host ∷ first) second connects = phases_behind sense first second connects.1
phases_behind sense (_ ∷ first) second connects = absurd connects.0

-- ---- both

module _ (sense : Sense) (first second : List Form) (connects : Each IsConnect first) (inside : Each IsInside second) where
  abbrev pub connecting_phase : Phase
  connecting_phase = record { blocks = blocks_of sense (first ++ lines.Phase ∷ second) }

  abbrev pub quiet_phase : Phase
  quiet_phase = record { blocks = blocks_of sense second }

  pub two_phases : phases_of sense (lines.Phase ∷ (first ++ lines.Phase ∷ second)) ≡ connecting_phase ∷ quiet_phase ∷ []
  unfolding phases_of
  two_phases = ap (λ (more : List Phase). connecting_phase ∷ more) (phases_behind sense first second connects ∙ ap (λ (more : List Phase). quiet_phase ∷ more) (no_phases sense second inside))

  pub is_connecting : IsConnecting connecting_phase
  is_connecting = blocks_bare sense first second connects

  pub few_connects : connects_of connecting_phase.blocks ≤ length first
  few_connects = blocks_few sense first second connects

  pub is_quiet : IsQuietPhase quiet_phase
  is_quiet = blocks_quiet sense second inside

-- ---- none of these lines sets a limit

inside_limits : (limits : Limits) (second : List Form) → Each IsInside second → fold limits_behind limits second ≡ limits
inside_limits limits [] inside = refl
inside_limits limits (lines.Resume session ∷ rest) inside = inside_limits limits rest inside.1
inside_limits limits (lines.Statement class text ∷ rest) inside = inside_limits limits rest inside.1
inside_limits limits (lines.Wait class ∷ rest) inside = inside_limits limits rest inside.1
inside_limits limits (lines.Spend time ∷ rest) inside = inside_limits limits rest inside.1
inside_limits limits (lines.End ∷ rest) inside = inside_limits limits rest inside.1
inside_limits limits (_ ∷ rest) inside = absurd inside.0

pub limits_stay : (limits : Limits) (first second : List Form) → Each IsConnect first → Each IsInside second → fold limits_behind limits (first ++ lines.Phase ∷ second) ≡ limits
limits_stay limits [] second connects inside = inside_limits limits second inside
limits_stay limits (lines.Connect session user host ∷ first) second connects inside = limits_stay limits first second connects.1 inside
limits_stay limits (_ ∷ first) second connects inside = absurd connects.0
