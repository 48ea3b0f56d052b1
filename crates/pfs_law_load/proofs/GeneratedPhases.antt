-- The phases of a generated script.
use Rattle.std.proofs.Common.{ℕ, ◌≡◌, ◌≤◌, List, [], ◌∷◌, ◌++◌, ap, sym, subst, ◌∙◌, arith}
use Rattle.pfs_classes.specs.declared.setting.Setting.{Setting}
use Rattle.pfs_gen.specs.GeneratedScript.{script_text}
use Rattle.pfs_law_agreed.specs.FirstPhases.{connects_of}
use Rattle.pfs_law_agreed.specs.QuietPhases.{IsQuietAt}
use Rattle.pfs_rows.specs.Limits.{default_limits}
use Rattle.pfs_rows.specs.declared.limits.Limits.{Limits}
use Rattle.pfs_script.proofs.NextFinds.{head_limits}
use Rattle.pfs_script.specs.Blocks.{phases_of, sense_of}
use Rattle.pfs_script.specs.Headings.{limits_of}
use Rattle.pfs_script.specs.Scripts.{IsScript}
use Rattle.pfs_script.specs.declared.blocks.Phase.{Phase}
use Rattle.pfs_script.specs.declared.forms.Form.{Form}
use Rattle.pfs_script.specs.declared.forms.Form.TheVariants as lines
use Rattle.pfs_law_load.specs.LoadPhases.{GeneratedLaw, HasLoadPhases}
use Rattle.pfs_law_load.proofs.FormPhases.{connecting_phase, few_connects, is_connecting, is_quiet, limits_stay, quiet_phase, two_phases}
use Rattle.pfs_law_load.proofs.GeneratedForms.{SaysLoad, script_said}
use Rattle.pfs_law_load.proofs.LineTexts.{same_lines}

limits_same : (text : List ℕ) (says : SaysLoad text) → limits_of (lines.Phase ∷ (says.first ++ lines.Phase ∷ says.second)) ≡ default_limits
unfolding limits_of
limits_same text says = limits_stay default_limits says.first says.second says.connects says.inside

room_of : (limits : Limits) (count : ℕ) → count ≤ 8 → limits ≡ default_limits → (count ≤ limits.thread_instances) × (count ≤ limits.accounts) × (count ≤ limits.users) × (count ≤ limits.hosts)
room_of limits count few same = subst (λ (l : Limits). (count ≤ l.thread_instances) × (count ≤ l.accounts) × (count ≤ l.users) × (count ≤ l.hosts)) (sym same) (omega (arith, few), omega (arith, few), omega (arith, few), omega (arith, few))

phases_by : (setting : Setting) (phases : List Phase) (all : List Form) (text : List ℕ) (says : SaysLoad text) → all ≡ lines.Phase ∷ (says.first ++ lines.Phase ∷ says.second)
    → setting.limits ≡ default_limits → phases ≡ phases_of (sense_of all) all → HasLoadPhases setting phases
phases_by setting phases all text says same limits are =
    let sense = sense_of all in
    let one = connecting_phase sense says.first says.second says.connects says.inside in
    let other = quiet_phase sense says.first says.second says.connects says.inside in
    let two : phases ≡ one ∷ other ∷ [] = are ∙ (ap (phases_of sense) same ∙ two_phases sense says.first says.second says.connects says.inside) in
    let few : connects_of one.blocks ≤ 8 = omega (arith, few_connects sense says.first says.second says.connects says.inside, says.few) in
    record {
      first = one;
      second = other;
      two = two;
      connecting = is_connecting sense says.first says.second says.connects says.inside;
      room = room_of setting.limits (connects_of one.blocks) few limits;
      quiet = subst (IsQuietAt 2 1) (sym two) ((λ e. absurd (omega (arith, e))), ((λ e. is_quiet sense says.first says.second says.connects says.inside), tt));
    }

pub generated_law : GeneratedLaw
unfolding IsScript
generated_law number setting phases script =
    let all = script.0 in
    let says = script_said number in
    let same : all ≡ lines.Phase ∷ (says.first ++ lines.Phase ∷ says.second) = same_lines (script_text number) all (lines.Phase ∷ (says.first ++ lines.Phase ∷ says.second)) script.1 says.spells in
    let limits : setting.limits ≡ default_limits = script.2.limits ∙ (head_limits all ∙ (ap limits_of same ∙ limits_same (script_text number) says)) in
    phases_by setting phases all (script_text number) says same limits script.3
