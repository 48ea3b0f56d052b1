-- What a run reports is such as a report can have.
use Rattle.std.specs.Prelude.{ℕ, ◌≡◌, List, [], ◌∷◌, map, Option, Some, None}
use Rattle.std.specs.List.{All, flat_map}
use Rattle.pfs_law_plain.specs.RunRules.{journals_of}
use Rattle.pfs_law_plain.specs.Spells.{Spell, AreSpells, parts_in}
use Rattle.pfs_classes.specs.declared.setting.Setting.{Setting}
use Rattle.pfs_classes.specs.declared.setting.TableName.{TableName}
use Rattle.pfs_event.specs.declared.entry.Entry.{Entry}
use Rattle.pfs_law_plain.specs.ToldAnswers.{Answers}
use Rattle.pfs_finals.specs.Finals.{TableRead, final_order, table_report}
use Rattle.pfs_journal.specs.Reports.{AreAnswered, IsRow, IsTable, IsText}
use Rattle.pfs_model.specs.Chains.{Each}
use Rattle.pfs_model.specs.EntryPlaces.{IsShaped}
use Rattle.pfs_model.specs.JournalCuts.{joined}
use Rattle.pfs_law_session.specs.Deeds.{Deed, Part, Querying, Showing}
use Rattle.pfs_law_session.specs.JournalLaws.{entries_of}
use Rattle.pfs_law_plain.specs.ActionFolds.{AreFolded}
use Rattle.pfs_runs.specs.SelectAnswers.{Answer, Selection, AreAnswers}
use Rattle.pfs_runs.specs.ScriptLines.{change_in}
use Rattle.pfs_script.specs.Scripts.{IsScript}
use Rattle.pfs_script.specs.declared.blocks.Phase.{Phase}

-- the names of any script's setting are texts of a report
abbrev pub NamesLaw : Type 0
NamesLaw = (text : List ℕ) (setting : Setting) (phases : List Phase)
    → IsScript text setting phases → All IsText setting.names

-- and so are its digest texts
abbrev pub TextsLaw : Type 0
TextsLaw = (text : List ℕ) (setting : Setting) (phases : List Phase)
    → IsScript text setting phases → All (λ digest. IsText digest.text) setting.digests

-- and so are the schemas and the names of its tables
abbrev pub IsNamedTable : TableName → Type 0
IsNamedTable table = IsText table.schema × IsText table.name

abbrev pub TableNamesLaw : Type 0
TableNamesLaw = (text : List ℕ) (setting : Setting) (phases : List Phase)
    → IsScript text setting phases → All IsNamedTable setting.tables

-- whatever was read of the tables at a phase's end, what they show under such names and texts are tables of a report
abbrev pub TablesLaw : Type 0
TablesLaw = (setting : Setting) (reads : List TableRead) → All IsText setting.names
    → All (λ digest. IsText digest.text) setting.digests → All IsNamedTable setting.tables
    → map (λ (read : TableRead). read.table) reads ≡ final_order
    → All IsTable (flat_map (table_report setting) reads)

-- answers go with a journal as a report has them: each has so many rows as its entry says, of values that a report can
-- have
pub record AreReportable (entries : List Entry) (answers : List Answer) : Type 0 where
  pub answered : AreAnswered entries answers
  pub rows : All (All IsRow) answers

-- a deed that is no SELECT
abbrev pub IsRowless : Deed → Type 0
IsRowless (Showing admin count) = ⊥
IsRowless (Querying readings count) = ⊥
IsRowless _ = Unit {0}

-- SELECTs stand only at the lines that are some
abbrev pub AreAsked : List (Option Selection) → List Part → Type 0
AreAsked [] parts = Unit {0}
AreAsked (None ∷ selections) [] = Unit {0}
AreAsked (None ∷ selections) (part ∷ parts) = IsRowless part.deed × AreAsked selections parts
AreAsked (Some selection ∷ selections) [] = Unit {0}
AreAsked (Some selection ∷ selections) (part ∷ parts) = AreAsked selections parts

-- where the parts of a spell answer these SELECTs, and no others stand there, the answers go with its journal
abbrev pub IsReportable : Setting → Spell → Type 0
IsReportable setting spell = (selections : List (Option Selection)) (answers : List Answer)
    → AreAsked selections (parts_in spell.doings)
    → AreAnswers (Answers setting) selections (parts_in spell.doings) answers
    → AreReportable (joined (entries_of (parts_in spell.doings))) answers

-- so of all sessions whose blocks are what their lines ask for, whatever their store, with the administration that is
-- the fold of the actions of a script
abbrev pub BlocksLaw : Type 0
BlocksLaw = (text : List ℕ) (setting : Setting) (phases : List Phase) (depths : ℕ → ℕ) (spells : List Spell)
    → IsScript text setting phases → AreSpells setting.limits.statement_stack depths spells
    → IsShaped (journals_of spells)
    → AreFolded setting (change_in phases) spells → Each (IsReportable setting) spells
