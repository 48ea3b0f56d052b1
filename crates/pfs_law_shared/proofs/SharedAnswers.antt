-- What sessions at once answered as they ran, their journals show.
use Rattle.std.proofs.Common.{ℕ, List, [], ◌∷◌, ◌++◌, slice_index, ap, sym, ◌∙◌, subst}
use Rattle.pfs_admin.specs.OpeningState.{opening_flags}
use Rattle.pfs_levels.specs.Calls.{Call, Adds, Rings, Reads, Loads, Draws, Takes, Puts, Frees, Sets, Enters, Leaves, Meets}
use Rattle.pfs_levels.specs.JointCalls.{At, Setting, IsNewer, frees_at, Agrees, AllAgree}
use Rattle.pfs_levels.specs.RowWords.{merged}
use Rattle.pfs_levels.specs.declared.answers.Added.TheVariants.{Counted, Held}
use Rattle.pfs_levels.specs.declared.answers.RingPut.TheVariants.{Done, Busy, Late}
use Rattle.pfs_matching.specs.ObjectRules.{opening_objects}
use Rattle.pfs_model.specs.Chains.{Each}
use Rattle.pfs_rows.specs.declared.table.Seen.TheVariants as sees
use Rattle.pfs_runs.specs.Labels.{terms_of}
use Rattle.pfs_runs.specs.Rules.{flags_by}
use Rattle.pfs_law_plain.proofs.QueryReadings.{Made, Finds, SameFlags}
use Rattle.pfs_law_plain.proofs.ShownAnswers.{spells_answered}
use Rattle.pfs_law_plain.specs.RunRules.{entries_of}
use Rattle.pfs_law_plain.specs.Spells.{doings_calls}
use Rattle.pfs_law_joint.specs.Phases.{IsShared}
use Rattle.pfs_law_shared.specs.Answers.{ShownLaw}
use Rattle.pfs_law_shared.specs.Journals.{AgreedLaw, HaveAgreed}
use Rattle.pfs_law_shared.specs.Order.{IsNear}
use Rattle.pfs_law_shared.specs.Rules.{of_rows}
use Rattle.pfs_law_shared.specs.Shares.{actors_of, spells_at, spells_before}
use Rattle.pfs_law_shared.proofs.ActedPlaces.{each_both}
use Rattle.pfs_law_shared.proofs.AgreedCalls.{agree_each, calls_front, calls_back, each_spell}
use Rattle.pfs_law_shared.proofs.OrderedActions.{each_near}
use Rattle.pfs_law_shared.proofs.PrintedLabels.{among}
use Rattle.pfs_law_shared.proofs.RunRules.{in_rows}

-- what calls of rows of the store found, they found by the contents of these alone
module _ (flags : List ℕ) (content : ℕ → ℕ → List ℕ) (log : List At) (sets : List Setting) where
  call_found : (call : Call) → IsNear call → Agrees flags content log sets call → Agrees flags (of_rows content) log sets call
  call_found (Adds at amount (Counted r k)) near a =
      (a.0, (a.1.0, in_rows content r k near ∙ (a.1.1 ∙ ap (λ z. merged z amount) (sym (in_rows content r a.0 near)))))
  call_found (Adds at amount (Held r v w)) near a = tt
  call_found (Rings at put (Done k)) near a =
      (a.0, (a.1.0, in_rows content at k near ∙ a.1.1, subst (λ z. IsNewer at z put (frees_at log at a.0)) (sym (in_rows content at a.0 near)) a.1.2))
  call_found (Rings at put (Busy v w)) near a = tt
  call_found (Rings at put (Late t k)) near a = (ap (λ z. slice_index z 15) (in_rows content at k near) ∙ a.0, a.1)
  call_found (Reads at (sees.Whole k found)) near a = (a.0 ∙ sym (in_rows content at k near), a.1)
  call_found (Reads at (sees.Free w)) near a = a
  call_found (Reads at (sees.Busy v w)) near a = tt
  call_found (Loads at k found) near a = a
  call_found (Draws kind ticket) near a = tt
  call_found (Meets versions) near a = a
  call_found (Takes at k found) near a = (a.0 ∙ sym (in_rows content at k near), a.1)
  call_found (Puts at put k) near a = in_rows content at k near ∙ a
  call_found (Frees at k) near a = tt
  call_found (Sets at to k) near a = a
  call_found (Enters label labels) near a = tt
  call_found Leaves near a = tt

  calls_found : (calls : List Call) → Each IsNear calls → AllAgree flags content log sets calls → AllAgree flags (of_rows content) log sets calls
  calls_found [] near a = tt
  calls_found (call ∷ calls) near a = (call_found call near.0 a.0, calls_found calls near.1 a.1)

pub shown : AgreedLaw → ShownLaw
shown agreed = λ setting change facts depths spells last are shared near low folds.
    (let opening : List ℕ = opening_flags setting opening_objects in
    let stack : ℕ = setting.limits.statement_stack in
    let now : List (List Call) = actors_of (spells_at last spells) in
    let before : List (List Call) = actors_of (spells_before last spells) in
    let s : IsShared opening before now = shared last in
    let all : Made = record { content = of_rows s.content; log = s.log; sets = s.sets } in
    let flags : ℕ → ℕ → ℕ = flags_by (terms_of setting change facts s.labels) (entries_of spells) in
    let agree : HaveAgreed opening stack last spells shared = agreed opening stack depths spells last are.stints shared low in
    let same : SameFlags opening all flags = λ at k. sym (agree.flagged at k) in
    let P : List Call → Type 0 = AllAgree opening s.content s.log s.sets in
    let each = agree_each opening s.content s.log s.sets (now ++ before) s.joint.agrees in
    let found : Each (λ spell. P (doings_calls spell.doings)) spells = each_spell P last spells low (calls_front P now before each) (calls_back P now before each) in
    let finds : Each (λ spell. Finds opening all (doings_calls spell.doings)) spells =
    each_both (λ spell. Each IsNear (doings_calls spell.doings)) (λ spell. P (doings_calls spell.doings)) (λ spell. Finds opening all (doings_calls spell.doings))
    (λ spell there a. calls_found opening s.content s.log s.sets (doings_calls spell.doings) there a) spells (each_near spells near) found in
    spells_answered setting change s.labels opening all flags stack depths [] 0 spells same are.stints are.entered finds folds (among opening stack depths spells last are shared low))
