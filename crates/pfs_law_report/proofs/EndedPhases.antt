-- Of all phases that ended.
use Rattle.std.proofs.Common.{ℕ, List, [], ◌∷◌, sym, subst}
use Rattle.pfs_admin.specs.OpeningState.{opening_flags}
use Rattle.pfs_admin.specs.declared.changes.Change.{Change}
use Rattle.pfs_law_plain.specs.Spells.{Spell, AreSpells, calls_of}
use Rattle.pfs_board.specs.declared.view.Label.{Label}
use Rattle.pfs_classes.specs.declared.setting.Setting.{Setting}
use Rattle.pfs_journal.specs.declared.report.PhaseParts.{PhaseParts}
use Rattle.pfs_levels.specs.PlainStore.{AllAnswer}
use Rattle.pfs_matching.specs.ObjectRules.{opening_objects}
use Rattle.pfs_model.specs.Contents.{Facts}
use Rattle.pfs_runs.specs.Runs.{AreFinal}
use Rattle.pfs_law_report.proofs.PhaseEnds.{ends}
use Rattle.pfs_law_report.specs.PhaseEnds.{HasEnded, IsFinalOf, AllEndLaw}

pub one_ended : (setting : Setting) (change : Label → Change) (facts : ℕ → ℕ → Facts) (depths : ℕ → ℕ) (spells : List Spell) (report : PhaseParts)
    → AreSpells setting.limits.statement_stack depths spells → AllAnswer (opening_flags setting opening_objects) (calls_of spells) → HasEnded setting change spells report
    → IsFinalOf setting change facts spells report
one_ended setting change facts depths spells report are answer h =
    subst (λ z. IsFinalOf setting change facts z report) (sym h.parted)
    (ends setting change facts depths h.first h.later h.calls report (subst (AreSpells setting.limits.statement_stack depths) h.parted are)
    (subst (λ z. AllAnswer (opening_flags setting opening_objects) (calls_of z)) h.parted answer) h.low h.high h.ended)

each_ended : (setting : Setting) (change : Label → Change) (facts : ℕ → ℕ → Facts) (depths : ℕ → ℕ) (spells : List Spell) (reports : List PhaseParts)
    → AreSpells setting.limits.statement_stack depths spells → AllAnswer (opening_flags setting opening_objects) (calls_of spells) → AreFinal (HasEnded setting change spells) reports
    → AreFinal (IsFinalOf setting change facts spells) reports
each_ended setting change facts depths spells [] are answer h = tt
each_ended setting change facts depths spells (r ∷ rs) are answer h =
    (one_ended setting change facts depths spells r are answer h.0, each_ended setting change facts depths spells rs are answer h.1)

pub all_end : AllEndLaw
all_end = λ setting change facts depths spells reports are answer h. each_ended setting change facts depths spells reports are answer h
