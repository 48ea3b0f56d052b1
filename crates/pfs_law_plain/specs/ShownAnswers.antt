-- What sessions answered as they ran, their journals show.
use Rattle.std.specs.Prelude.{ℕ, List, Option}
use Rattle.pfs_admin.specs.OpeningState.{opening_flags}
use Rattle.pfs_admin.specs.declared.changes.Change.{Change}
use Rattle.pfs_law_plain.specs.Spells.{Spell, AreSpells, calls_of, parts_in}
use Rattle.pfs_board.specs.declared.view.Label.{Label}
use Rattle.pfs_classes.specs.declared.setting.Setting.{Setting}
use Rattle.pfs_event.specs.declared.entry.Entry.{Entry}
use Rattle.pfs_law_plain.specs.ToldAnswers.{Answers}
use Rattle.pfs_levels.specs.PlainStore.{AllAnswer}
use Rattle.pfs_matching.specs.ObjectRules.{opening_objects}
use Rattle.pfs_model.specs.Chains.{Each}
use Rattle.pfs_model.specs.Contents.{Facts}
use Rattle.pfs_law_session.specs.JournalLaws.{entries_of as part_entries_of}
use Rattle.pfs_law_plain.specs.ActionFolds.{AreFolded}
use Rattle.pfs_law_plain.specs.RunRules.{entries_of, labels_of, contents_of}
use Rattle.pfs_runs.specs.SelectAnswers.{Answer, Selection, AreAnswers, IsAnswered}
use Rattle.pfs_runs.specs.Labels.{before_action, terms_of}
use Rattle.pfs_runs.specs.Rules.{flags_by}

-- an answer by these labels and contents, and by the flags that all these spells print
abbrev pub IsAnsweredBy : Setting → (Label → Change) → (ℕ → ℕ → Facts) → List Label → (ℕ → ℕ → List ℕ) → List Spell
    → Selection → List Entry → Answer → Type 0
IsAnsweredBy setting change facts labels content spells =
    IsAnswered setting content (flags_by (terms_of setting change facts labels) (entries_of spells))
    (before_action setting change labels)

-- where the parts of a spell answer these SELECTs by what they were told, their entries in the journal answer them by
-- what the whole run's rows and words hold at the versions that stand there, and by the fold of the actions before each
abbrev pub IsShownIn : Setting → (Label → Change) → (ℕ → ℕ → Facts) → List Label → (ℕ → ℕ → List ℕ) → List Spell
    → Spell → Type 0
IsShownIn setting change facts labels content spells spell =
    (selections : List (Option Selection)) (answers : List Answer)
    → AreAnswers (Answers setting) selections (parts_in spell.doings) answers
    → AreAnswers (IsAnsweredBy setting change facts labels content spells) selections
    (part_entries_of (parts_in spell.doings)) answers

-- so of all sessions that run one after another on a plain store, with the administration that is the fold of their
-- actions
abbrev pub AnsweredLaw : Type 0
AnsweredLaw = (setting : Setting) (change : Label → Change) (facts : ℕ → ℕ → Facts) (depths : ℕ → ℕ)
    (spells : List Spell) → AreSpells setting.limits.statement_stack depths spells
    → AllAnswer (opening_flags setting opening_objects) (calls_of spells) → AreFolded setting change spells
    → Each (IsShownIn setting change facts (labels_of spells) (contents_of spells) spells) spells
