-- What the SELECTs of a run answer goes with its journals as a report can have it.
use Rattle.std.proofs.Common.{ℕ, List, [], ◌∷◌, ◌++◌, Option, None, Some, sym, subst}
use Rattle.std.specs.List.{All}
use Rattle.std.proofs.lemmas.List.Elements.{All-cons, All-nil, All-same}
use Rattle.pfs_admin.specs.Fold.{state_of}
use Rattle.pfs_admin.specs.AdministrationStates.{State as Administration}
use Rattle.pfs_admin.specs.declared.changes.Change.{Change}
use Rattle.pfs_law_plain.specs.Spells.{Doing, Spell, parts_in, stint_of, stints_of}
use Rattle.pfs_board.specs.declared.view.Label.{Label}
use Rattle.pfs_classes.specs.declared.setting.DigestText.{DigestText}
use Rattle.pfs_classes.specs.declared.setting.Setting.{Setting}
use Rattle.pfs_exec.specs.declared.query.Select.{Select}
use Rattle.pfs_law_plain.specs.ToldAnswers.{Answers, IsQuery, IsShow}
use Rattle.pfs_journal.specs.Reports.{IsRow, IsText}
use Rattle.pfs_model.specs.Chains.{Each}
use Rattle.pfs_model.specs.Contexts.{fresh as empty}
use Rattle.pfs_model.specs.EntryPlaces.{Block, AreShapedBehind, told_by}
use Rattle.pfs_law_session.specs.Deeds.{Showing, Querying, Deed, Part}
use Rattle.pfs_law_session.specs.Stints.{AreStintsBehind, Stint, block_of, blocks_of, state_by}
use Rattle.pfs_exec.specs.RequestLaws.{RowLaw}
use Rattle.pfs_law_plain.specs.ActionFolds.{AreFolded, DoingsFolded, FoldsTo}
use Rattle.pfs_runs.specs.SelectAnswers.{Answer, AreAnswers, Held, Selection, Stored}
use Rattle.pfs_runs.specs.ScriptLines.{change_in}
use Rattle.pfs_session.specs.SessionStates.{fresh}
use Rattle.pfs_setups.specs.HeldRows.{held_rows}
use Rattle.pfs_tables.specs.ListedRows.{listed_rows}
use Rattle.pfs_law_report.proofs.AnswerCounts.{answers_told}
use Rattle.pfs_law_report.proofs.HeldRows.{IsCleanState, held_good, state_clean}
use Rattle.pfs_law_report.proofs.TableRows.{listed_good}
use Rattle.pfs_law_report.proofs.NameTexts.{all_digests, all_tables_named, all_texts}
use Rattle.pfs_law_report.proofs.SqlTexts.{change_clean, script_texted}
use Rattle.pfs_law_report.proofs.SelectRows.{answer_good}
use Rattle.pfs_law_report.specs.ReportableRuns.{BlocksLaw, IsNamedTable, IsReportable}

-- what a SELECT on the administration's own tables is shown has texts of a report
abbrev IsCleanDeed : Deed → Type 0
IsCleanDeed (Showing admin count) = IsCleanState admin
IsCleanDeed _ = Unit {0}

abbrev AreCleanParts : List Part → Type 0
AreCleanParts parts = Each (λ (part : Part). IsCleanDeed part.deed) parts

module _ (setting : Setting) (change : Label → Change)
    (clean : (labels : List Label) → IsCleanState (state_of setting change labels)) where
  deed_clean : (label : Label) (labels : List Label) (deed : Deed) → FoldsTo setting change label labels deed
      → IsCleanDeed deed
  deed_clean label labels (Showing admin count) folds = subst (λ (z : Administration). IsCleanState z) (sym folds.0)
      (clean labels)
  deed_clean label labels _ folds = tt

  doings_clean : (doings : List Doing) → DoingsFolded setting change doings → AreCleanParts (parts_in doings)
  doings_clean [] folded = tt
  doings_clean (doing ∷ doings) folded = (deed_clean doing.label doing.labels doing.part.deed folded.0, doings_clean doings folded.1)

module _ (setting : Setting) (all : All IsText setting.names)
    (texts : All (λ (digest : DigestText). IsText digest.text) setting.digests)
    (named : All IsNamedTable setting.tables) where
  query_good : (select : Select) (answer : Answer) (deed : Deed) → IsQuery setting select answer deed → All IsRow answer
  query_good select answer (Querying readings count) is =
      answer_good select (listed_rows setting select.table readings) answer is.answered
      (listed_good setting all texts named select.table readings)
  query_good select answer _ is = absurd is

  show_good : (select : Select) (answer : Answer) (deed : Deed) → IsCleanDeed deed → IsShow select answer deed
      → All IsRow answer
  show_good select answer (Showing admin count) clean is =
      answer_good select (held_rows select.table admin.actors admin.objects) answer is.0
      (held_good select.table admin.actors admin.objects clean)
  show_good select answer _ clean is = absurd is

  selection_good : (selection : Selection) (part : Part) (answer : Answer) → IsCleanDeed part.deed
      → Answers setting selection part answer → All IsRow answer
  selection_good (Stored select) part answer clean is = query_good select answer part.deed is
  selection_good (Held select) part answer clean is = show_good select answer part.deed clean is

  answers_good : (selections : List (Option Selection)) (parts : List Part) (answers : List Answer)
      → AreCleanParts parts → AreAnswers (Answers setting) selections parts answers → All (All IsRow) answers
  answers_good [] [] answers clean are = All-same (All IsRow) answers [] are (All-nil (All IsRow))
  answers_good [] (part ∷ parts) answers clean are = absurd are
  answers_good (None ∷ selections) [] answers clean are = absurd are
  answers_good (None ∷ selections) (part ∷ parts) answers clean are = answers_good selections parts answers clean.1 are
  answers_good (Some selection ∷ selections) [] answers clean are = absurd are
  answers_good (Some selection ∷ selections) (part ∷ parts) [] clean are = absurd are
  answers_good (Some selection ∷ selections) (part ∷ parts) (answer ∷ answers) clean are =
      All-cons (All IsRow) answer answers (selection_good selection part answer clean.0 are.0)
      (answers_good selections parts answers clean.1 are.1)

  -- along the spells, behind those before them
  spells_good : (change : Label → Change) → ((labels : List Label) → IsCleanState (state_of setting change labels))
      → (stack : ℕ) (depths : ℕ → ℕ) (earlier : List Block) (before : List Stint) (phase at_phase : ℕ)
      (spells : List Spell)
      → AreShapedBehind earlier phase (blocks_of (stints_of spells))
      → AreStintsBehind stack depths before at_phase (stints_of spells) → AreFolded setting change spells
      → Each (IsReportable setting) spells
  spells_good change clean stack depths earlier before phase at_phase [] shaped stints folded = tt
  spells_good change clean stack depths earlier before phase at_phase (spell ∷ spells) shaped stints folded = (
    λ selections answers asked are.
        record {
          answered = answers_told setting (told_by spell.session empty earlier)
              (state_by spell.session (fresh spell.session stack (depths spell.session)) before) selections
              (parts_in spell.doings) answers shaped.1 stints.1.are_parts asked are;
          rows = answers_good selections (parts_in spell.doings) answers
              (doings_clean setting change clean spell.doings folded.0) are;
        },
    spells_good change clean stack depths (earlier ++ block_of (stint_of spell) ∷ [])
        (before ++ stint_of spell ∷ []) spell.phase spell.phase spells shaped.2 stints.2 folded.1,
  )

pub all_reportable : RowLaw → BlocksLaw
all_reportable rows = λ text setting phases depths spells script are shaped folded.
    let clean : (labels : List Label) → IsCleanState (state_of setting (change_in phases) labels) =
    state_clean setting (change_in phases) (λ label. change_clean rows phases label
    (script_texted text setting phases script)) in
    spells_good setting (all_texts text setting phases script) (all_digests text setting phases script)
    (all_tables_named text setting phases script)
    (change_in phases) clean setting.limits.statement_stack depths [] [] 0 0 spells
    shaped are.stints folded
