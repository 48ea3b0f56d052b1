-- The rules of a run that sessions at once keep by what they have in common: all but floors, causes, and those of the
-- long history.
use Rattle.std.specs.Prelude.{ℕ, ◌≤◌, Bool, nat_lt, ◌&&◌, cond, List}
use Rattle.pfs_admin.specs.OpeningState.{opening_flags}
use Rattle.pfs_admin.specs.declared.changes.Change.{Change}
use Rattle.pfs_board.specs.declared.view.Label.{Label}
use Rattle.pfs_classes.specs.declared.setting.Setting.{Setting}
use Rattle.pfs_law_plain.specs.ActionFolds.{AreFolded, AllConnectFirst}
use Rattle.pfs_law_plain.specs.RunRules.{journals_of, entries_of}
use Rattle.pfs_law_plain.specs.Spells.{Spell, AreSpells, stints_of}
use Rattle.pfs_law_session.specs.Amounts.{AllFacts, at_first}
use Rattle.pfs_law_session.specs.Stints.{parts_by}
use Rattle.pfs_law_session.specs.Takes.{all_taken, counted_by}
use Rattle.pfs_law_shared.specs.Order.{AllNear, AreSingle}
use Rattle.pfs_law_shared.specs.Shares.{AreShared}
use Rattle.pfs_matching.specs.ObjectRules.{opening_objects}
use Rattle.pfs_model.specs.ActionAsks.{AreAnswered, DoAsAsked}
use Rattle.pfs_model.specs.Actions.{IsOrdered}
use Rattle.pfs_model.specs.Chains.{Each, AreChained, row_change, word_change}
use Rattle.pfs_model.specs.Contents.{Facts, AreContents, AreFoundAsCounted, opening_words}
use Rattle.pfs_model.specs.EntryPlaces.{Block, places, IsShaped}
use Rattle.pfs_model.specs.EventNumbers.{AreNumbered}
use Rattle.pfs_model.specs.Floors.{AreThere}
use Rattle.pfs_model.specs.SetupFlags.{AreJudged}
use Rattle.pfs_runs.specs.Labels.{AreLabels, terms_of}
use Rattle.pfs_runs.specs.Rules.{Terms, flags_by, given_by}

-- the contents of the store's rows; where there is no row, what rows open with
abbrev pub of_rows : (ℕ → ℕ → List ℕ) → ℕ → ℕ → List ℕ
of_rows content row version = cond (nat_lt 0 row && nat_lt row 14242) (content row version) (opening_words row)

-- as `AreRules` of a run has them
pub record HaveRules (terms : Terms) (counted : ℕ → ℕ → Bool) (content : ℕ → ℕ → List ℕ) (blocks : List Block) : Type
    0 where
  pub shaped : IsShaped blocks
  pub rows : AreChained row_change (places blocks)
  pub words : AreChained word_change (places blocks)
  pub ordered : IsOrdered (places blocks)
  pub there : AreThere (places blocks)
  pub judged : AreJudged terms.stack (flags_by terms (places blocks)) (places blocks)
  pub numbered : AreNumbered (places blocks)
  pub answered : AreAnswered terms.rooms terms.answers (places blocks)
  pub done : DoAsAsked terms.asked counted (places blocks)
  pub found : AreFoundAsCounted content counted (places blocks)
  pub contents : AreContents (given_by terms blocks) content (places blocks)

-- with the labels and the contents that the sessions have in common at the end of their last phase
pub record AreRuled (setting : Setting) (change : Label → Change) (facts : ℕ → ℕ → Facts) (labels : List Label)
    (content : ℕ → ℕ → List ℕ) (spells : List Spell) : Type 0 where
  pub labelled : AreLabels labels (entries_of spells)
  pub rules : HaveRules (terms_of setting change facts labels) (counted_by content (all_taken (stints_of spells)))
      content (journals_of spells)

-- of sessions at once with the administration that is the fold of their actions
abbrev pub RuledLaw : Type 0
RuledLaw = (setting : Setting) (change : Label → Change) (facts : ℕ → ℕ → Facts) (depths : ℕ → ℕ) (spells : List Spell)
    (last : ℕ) → AreSpells setting.limits.statement_stack depths spells
    → (shared : AreShared (opening_flags setting opening_objects) spells) → AllNear spells → AreSingle spells
    → Each (λ spell. spell.phase ≤ last) spells → AreFolded setting change spells → AllConnectFirst spells
    → ((session : ℕ) → AllFacts (facts session) at_first (parts_by session (stints_of spells)))
    → AreRuled setting change facts (shared last).labels (of_rows (shared last).content) spells
