-- The blocks and tables that a phase reports are such as a report can have.
use Rattle.std.proofs.Common.{ℕ, suc, ◌≡◌, ◌+◌, List, [], ◌∷◌, length, refl, ap, sym, ◌∙◌, subst}
use Rattle.std.specs.List.{All, AllByRecursion, filter_map}
use Rattle.pfs_law_plain.specs.Spells.{Spell, parts_in}
use Rattle.pfs_classes.specs.declared.setting.DigestText.{DigestText}
use Rattle.pfs_classes.specs.declared.setting.Setting.{Setting}
use Rattle.pfs_law_script.specs.ReportSpells.{ArePhasesTold, AreTold, IsTold}
use Rattle.pfs_finals.specs.Finals.{AreFinal as AreTables}
use Rattle.pfs_journal.specs.Reports.{IsBlock, IsTable, IsText, rows_asked}
use Rattle.pfs_journal.specs.declared.blocks.BlockReport.{BlockReport}
use Rattle.pfs_journal.specs.declared.report.PhaseParts.{PhaseParts}
use Rattle.pfs_journal.specs.declared.values.TableReport.{TableReport}
use Rattle.pfs_levels.specs.Calls.{Call, Opening}
use Rattle.pfs_model.specs.Chains.{Each}
use Rattle.pfs_model.specs.JournalCuts.{joined}
use Rattle.pfs_law_session.specs.JournalLaws.{entries_of}
use Rattle.pfs_law_script.specs.Course.{AreSpellsOf, IsSpellOf, phased}
use Rattle.pfs_law_report.specs.ReportableRuns.{AreReportable, IsNamedTable, IsReportable, TablesLaw}
use Rattle.pfs_runs.specs.SelectAnswers.{selections_in}
use Rattle.pfs_script.specs.declared.blocks.Block.{Block}
use Rattle.pfs_script.specs.declared.blocks.Phase.{Phase}
use Rattle.pfs_seats.proofs.SelectLines.{spell_asked}

one_good : (setting : Setting) (number : ℕ) (block : Block) (spell : Spell) (report : BlockReport) → IsTold setting number block spell report → IsSpellOf (record { phase = number; block = block }) spell → IsReportable setting spell → IsBlock report
one_good setting number block spell report told of good =
    let shown : AreReportable (joined (entries_of (parts_in spell.doings))) report.answers =
    good (selections_in block) report.answers (spell_asked (record { phase = number; block = block }) spell of) told.answers in
    record { answered = shown.answered ∙ ap (filter_map rows_asked) (sym told.entries); rows = shown.rows }

pub told_good : (setting : Setting) (number : ℕ) (blocks : List Block) (spells : List Spell) (reports : List BlockReport) → AreTold setting number blocks spells reports → AreSpellsOf (phased number blocks) spells
    → Each (IsReportable setting) spells → AllByRecursion IsBlock reports
told_good setting number [] [] [] told of good = tt
told_good setting number [] [] (z ∷ zs) told of good = absurd told
told_good setting number [] (y ∷ ys) reports told of good = absurd told
told_good setting number (x ∷ xs) [] reports told of good = absurd told
told_good setting number (x ∷ xs) (y ∷ ys) [] told of good = absurd told
told_good setting number (x ∷ xs) (y ∷ ys) (z ∷ zs) told of good = (one_good setting number x y z told.0 of.0 good.0, told_good setting number xs ys zs told.1 of.1 good.1)

pub tables_good : TablesLaw → (setting : Setting) (tables : List TableReport) (was now : Opening → List Call → Type 0) → All IsText setting.names
    → All (λ (digest : DigestText). IsText digest.text) setting.digests → All IsNamedTable setting.tables → AreTables setting tables was now → All IsTable tables
tables_good law setting tables was now names texts named are = subst (All IsTable) (sym are.tables_are) (law setting are.reads names texts named are.order_is)

-- the reports of phases are as many as these
pub told_long : (setting : Setting) (number : ℕ) (phases : List Phase) (reports : List PhaseParts) (spells : List Spell) → ArePhasesTold setting number phases reports spells → length reports ≡ length phases
told_long setting number [] [] spells are = refl
told_long setting number [] (y ∷ ys) spells are = absurd are
told_long setting number (x ∷ xs) [] spells are = absurd are
told_long setting number (x ∷ xs) (y ∷ ys) spells are = ap suc (told_long setting (number + 1) xs ys are.1 are.3)
