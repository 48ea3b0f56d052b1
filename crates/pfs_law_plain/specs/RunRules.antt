-- Sessions that run one after another keep the rules of a run.
use Rattle.std.specs.Prelude.{ℕ, List}
use Rattle.pfs_admin.specs.OpeningState.{opening_flags}
use Rattle.pfs_admin.specs.declared.changes.Change.{Change}
use Rattle.pfs_law_plain.specs.Spells.{Spell, AreSpells, stints_of, calls_of}
use Rattle.pfs_law_session.specs.Takes.{all_taken, counted_by}
use Rattle.pfs_board.specs.declared.view.Label.{Label}
use Rattle.pfs_classes.specs.declared.setting.Setting.{Setting}
use Rattle.pfs_levels.specs.PlainStore.{AllAnswer, ops_of, content_at, labels_after}
use Rattle.pfs_matching.specs.ObjectRules.{opening_objects}
use Rattle.pfs_model.specs.Contents.{Facts}
use Rattle.pfs_model.specs.EntryPlaces.{Placed, Block, places}
use Rattle.pfs_model.specs.PlainAgreement.{IsPlain}
use Rattle.pfs_law_session.specs.Amounts.{AllFacts, at_first}
use Rattle.pfs_law_session.specs.Stints.{blocks_of, parts_by}
use Rattle.pfs_runs.specs.Labels.{AreLabels, terms_of}
use Rattle.pfs_runs.specs.Rules.{AreRules}
use Rattle.pfs_law_plain.specs.ActionFolds.{AreFolded, AllConnectFirst}

-- their blocks of the journals, and all entries of these
abbrev pub journals_of : List Spell → List Block
journals_of spells = blocks_of (stints_of spells)

abbrev pub entries_of : List Spell → List Placed
entries_of spells = places (journals_of spells)

-- the labels of their actions, and the contents of the rows by their versions, as the store has them
abbrev pub labels_of : List Spell → List Label
labels_of spells = labels_after (calls_of spells)

abbrev pub contents_of : List Spell → ℕ → ℕ → List ℕ
contents_of spells = content_at (ops_of (calls_of spells))

-- the labels are those of the printed actions; the journals keep the rules of a run; and each line agrees with those
-- before it
pub record IsRuled (setting : Setting) (change : Label → Change) (facts : ℕ → ℕ → Facts) (spells : List Spell) : Type 0
  where
    pub labelled : AreLabels (labels_of spells) (entries_of spells)
    pub rules : AreRules (terms_of setting change facts (labels_of spells))
        (counted_by (contents_of spells) (all_taken (stints_of spells))) (contents_of spells) (journals_of spells)
    pub plain : IsPlain (entries_of spells)

abbrev pub RuledLaw : Type 0
RuledLaw = (setting : Setting) (change : Label → Change) (facts : ℕ → ℕ → Facts) (depths : ℕ → ℕ) (spells : List Spell)
    → AreSpells setting.limits.statement_stack depths spells
    → AllAnswer (opening_flags setting opening_objects) (calls_of spells) → AreFolded setting change spells
    → AllConnectFirst spells → ((session : ℕ) → AllFacts (facts session) at_first (parts_by session (stints_of spells)))
    → IsRuled setting change facts spells
