-- The blocks of a phase that were played at once are a course, one after another.
use Rattle.std.proofs.Common.{ℕ, zero, suc, ◌≡◌, ◌+◌, ◌==◌, true, false, List, [], ◌∷◌, ◌++◌, length, map, ap, sym, ◌∙◌, subst, arith, append_assoc, append-nil, eq-eqb, ne_eqb}
use Rattle.std.specs.Prelude.{Contains}
use Rattle.std.proofs.lemmas.Bool.{false≢true}
use Rattle.pfs_actor.specs.ActorDeeds.{AreLabelled}
use Rattle.pfs_admin.specs.declared.changes.Change.{Change}
use Rattle.pfs_board.specs.declared.view.Label.{Label}
use Rattle.pfs_classes.specs.declared.setting.Setting.{Setting}
use Rattle.pfs_law_plain.specs.Spells.{Doing, Spell, parts_in}
use Rattle.pfs_law_script.proofs.BlocksAhead.{done_block}
use Rattle.pfs_law_script.specs.BlocksAhead.{IsReached, NoneIsOver, ReachedLaw, ahead_of, block_at, done_before}
use Rattle.pfs_law_script.specs.Course.{IsCourse, PhasedBlock}
use Rattle.pfs_law_script.specs.CourseSteps.{IsOneMore, IsPlayed, OneMoreLaw, spell_at}
use Rattle.pfs_law_script.specs.PlayableBlocks.{IsPlayable}
use Rattle.pfs_law_session.specs.JournalLaws.{AreParts, MayDoAll}
use Rattle.pfs_law_shared.specs.Order.{AreSingle}
use Rattle.pfs_model.specs.Chains.{Each}
use Rattle.pfs_runs.specs.ScriptLines.{change_in}
use Rattle.pfs_script.specs.KnownClasses.{AreDistinct}
use Rattle.pfs_script.specs.declared.blocks.Block.{Block}
use Rattle.pfs_script.specs.declared.blocks.Phase.{Phase}
use Rattle.pfs_law_phases.specs.Behind.{ArePlayed}

-- the sessions of blocks
abbrev pub sessions : List Block → List ℕ
sessions blocks = map (λ (block : Block). block.session) blocks

-- blocks of other sessions than this one
abbrev AreOthers : ℕ → List Block → Type 0
AreOthers session blocks = Each (λ (block : Block). (session == block.session) ≡ false) blocks

others : (session : ℕ) (blocks : List Block) → (Contains (sessions blocks) session → ⊥) → AreOthers session blocks
others session [] none = tt
others session (block ∷ blocks) none = (
  ne_eqb session block.session (λ e. none (zero, omega arith, sym e)),
  others session blocks (λ has. none (suc has.0, omega (arith, has.1), has.2)),
)

-- a spell of another session changes nothing for a block
other_on : (setting : Setting) (change : Label → Change) (depths : ℕ → ℕ) (dones : List PhasedBlock) (spells : List Spell) (one next : PhasedBlock) (doings theirs : List Doing)
    → IsOneMore setting change depths dones spells one doings → (one.block.session == next.block.session) ≡ false → IsPlayed setting change depths spells next theirs
    → IsPlayed setting change depths (spells ++ spell_at one doings ∷ []) next theirs
other_on setting change depths dones spells one next doings theirs step off p =
    let same = step.others next.block.session off in
    record {
      goes_on = step.others_over next.block.session off ∙ p.goes_on;
      are_parts = subst (λ z. AreParts z (parts_in theirs)) (sym same) p.are_parts;
      may = subst (λ z. MayDoAll false z (parts_in theirs)) (sym same) p.may;
      labelled = subst (λ z. AreLabelled z theirs) (sym same) p.labelled;
      folded = p.folded;
      asked = p.asked;
    }

-- so for blocks of other sessions
others_on : (setting : Setting) (change : Label → Change) (depths : ℕ → ℕ) (dones : List PhasedBlock) (spells : List Spell) (before : List Phase) (one : PhasedBlock) (doings : List Doing) (blocks : List Block) (now : List Spell)
    → IsOneMore setting change depths dones spells one doings → AreOthers one.block.session blocks → ArePlayed setting change depths spells before blocks now
    → ArePlayed setting change depths (spells ++ spell_at one doings ∷ []) before blocks now
others_on setting change depths dones spells before one doings [] [] step off p = tt
others_on setting change depths dones spells before one doings [] (spell ∷ now) step off p = absurd p
others_on setting change depths dones spells before one doings (block ∷ blocks) [] step off p = absurd p
others_on setting change depths dones spells before one doings (block ∷ blocks) (spell ∷ now) step off p = (
  p.0,
  other_on setting change depths dones spells one (block_at before block) doings spell.doings step off.0 p.1,
  others_on setting change depths dones spells before one doings blocks now step off.1 p.2,
)

-- the sessions of a phase do what they do there as one
others_single : (setting : Setting) (change : Label → Change) (depths : ℕ → ℕ) (spells : List Spell) (before : List Phase) (session phase : ℕ) (blocks : List Block) (now : List Spell)
    → AreOthers session blocks → ArePlayed setting change depths spells before blocks now → Each (λ other. other.session ≡ session → other.phase ≡ phase → ⊥) now
others_single setting change depths spells before session phase [] [] off p = tt
others_single setting change depths spells before session phase [] (spell ∷ now) off p = absurd p
others_single setting change depths spells before session phase (block ∷ blocks) [] off p = absurd p
others_single setting change depths spells before session phase (block ∷ blocks) (spell ∷ now) off p = (
  (λ e f. false≢true (sym off.0 ∙ eq-eqb session block.session (sym e ∙ ap (λ (z : Spell). z.session) p.0))),
  others_single setting change depths spells before session phase blocks now off.1 p.2,
)

pub played_single : (setting : Setting) (change : Label → Change) (depths : ℕ → ℕ) (spells : List Spell) (before : List Phase) (blocks : List Block) (now : List Spell)
    → AreDistinct (sessions blocks) → ArePlayed setting change depths spells before blocks now → AreSingle now
played_single setting change depths spells before [] [] apart p = tt
played_single setting change depths spells before [] (spell ∷ now) apart p = absurd p
played_single setting change depths spells before (block ∷ blocks) [] apart p = absurd p
played_single setting change depths spells before (block ∷ blocks) (spell ∷ now) apart p =
    let off : AreOthers spell.session blocks = subst (λ n. AreOthers n blocks) (sym (ap (λ (z : Spell). z.session) p.0)) (others block.session blocks apart.0) in (
      others_single setting change depths spells before spell.session spell.phase blocks now off p.2,
      played_single setting change depths spells before blocks now apart.1 p.2,
    )

-- they are of this phase
pub played_here : (setting : Setting) (change : Label → Change) (depths : ℕ → ℕ) (spells : List Spell) (before : List Phase) (blocks : List Block) (now : List Spell)
    → ArePlayed setting change depths spells before blocks now → Each (λ spell. spell.phase ≡ 1 + length before) now
played_here setting change depths spells before [] [] p = tt
played_here setting change depths spells before [] (spell ∷ now) p = absurd p
played_here setting change depths spells before (block ∷ blocks) [] p = absurd p
played_here setting change depths spells before (block ∷ blocks) (spell ∷ now) p = (ap (λ (z : Spell). z.phase) p.0, played_here setting change depths spells before blocks now p.2)

-- behind the blocks of a phase
module _ (one_more : OneMoreLaw) (reached : ReachedLaw) (setting : Setting) (phases : List Phase) (depths : ℕ → ℕ) (before : List Phase) (phase : Phase) (after : List Phase)
    (parted : phases ≡ before ++ phase ∷ after) (playable : IsPlayable before phase after) where
  abbrev Played : List Spell → List Block → List Spell → Type 0
  Played spells blocks now = ArePlayed setting (change_in phases) depths spells before blocks now

  abbrev Course : List PhasedBlock → List Spell → Type 0
  Course dones spells = IsCourse setting (change_in phases) depths dones spells

  pub record IsWalked (spells : List Spell) : Type 0 where
    pub course : IsCourse setting (change_in phases) depths (done_before before phase.blocks) spells
    pub none_over : NoneIsOver spells (ahead_of before [] after)

  pub walked : (first blocks : List Block) (spells now : List Spell) → phase.blocks ≡ first ++ blocks → AreDistinct (sessions blocks) → Course (done_before before first) spells
      → NoneIsOver spells (ahead_of before blocks after) → Played spells blocks now → IsWalked (spells ++ now)
  walked first [] spells [] all apart course over p = record {
    course = subst (λ z. Course (done_before before phase.blocks) z) (sym (append-nil spells)) (subst (λ z. Course (done_before before z) spells) (sym (all ∙ append-nil first)) course);
    none_over = subst (λ z. NoneIsOver z (ahead_of before [] after)) (sym (append-nil spells)) over;
  }
  walked first [] spells (spell ∷ now) all apart course over p = absurd p
  walked first (block ∷ blocks) spells [] all apart course over p = absurd p
  walked first (block ∷ blocks) spells (spell ∷ now) all apart course over p =
      let one : PhasedBlock = block_at before block in
      let r : IsReached phases before first block blocks after = reached phases before phase after first block blocks parted all playable in
      let step : IsOneMore setting (change_in phases) depths (done_before before first) spells one spell.doings = one_more setting phases depths (done_before before first) spells one spell.doings course r.next p.1 in
      let next : List Spell = spells ++ spell_at one spell.doings ∷ [] in
      let there : IsWalked (next ++ now) =
      walked (first ++ block ∷ []) blocks next now (all ∙ sym (append_assoc first (block ∷ []) blocks)) apart.1
      (subst (λ z. Course z next) (sym (done_block before first block)) step.course) (r.ahead setting depths spells spell.doings over p.1 step)
      (others_on setting (change_in phases) depths (done_before before first) spells before one spell.doings blocks now step (others block.session blocks apart.0) p.2) in
      subst IsWalked (append_assoc spells (spell_at one spell.doings ∷ []) now ∙ ap (λ (z : Spell). spells ++ z ∷ now) (sym p.0)) there
