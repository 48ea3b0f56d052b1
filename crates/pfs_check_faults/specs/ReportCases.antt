-- What the rules are asked of, what is found as they are asked one after another, and the lines of the entries.
use Rattle.std.specs.Prelude.{ℕ, zero, suc, ◌≡◌, ◌+◌, Bool, true, false, cond, List, [], ◌∷◌, ◌++◌, slice_get, take, Some}
use Rattle.pfs_board.specs.declared.view.Label.{Label}
use Rattle.pfs_classes.specs.declared.setting.Setting.{Setting}
use Rattle.pfs_journal.specs.ReportLines.{report_lines}
use Rattle.pfs_journal.specs.declared.line.Line.{Line}
use Rattle.pfs_journal.specs.declared.line.Line.TheVariants as says
use Rattle.pfs_journal.specs.declared.report.ReportParts.{ReportParts}
use Rattle.pfs_model.specs.EntryPlaces.{Block, Placed, places}
use Rattle.pfs_runs.specs.Labels.{terms_of}
use Rattle.pfs_runs.specs.Rules.{Terms, flags_by}
use Rattle.pfs_runs.specs.Runs.{all_blocks}
use Rattle.pfs_runs.specs.ScriptLines.{change_in, facts_in}
use Rattle.pfs_script.specs.declared.blocks.Phase.{Phase}

-- a script, by its setting and its phases, and a report by anybody
pub record Case : Type 0 where
  pub setting : Setting
  pub phases : List Phase
  pub report : ReportParts

-- What is found as the rules are asked: by the first the blocks, by the second the labels of the actions, by the eighth
-- whether a take found something counted, and the contents of the rows.
pub record Findings : Type 0 where
  pub blocks : List (List Block)
  pub labels : List Label
  pub counted : ℕ → ℕ → Bool
  pub content : ℕ → ℕ → List ℕ

-- the entries of all journals, in the order of the report
abbrev pub entries_of : Findings → List Placed
entries_of found = places (all_blocks found.blocks)

-- what the rules go by beside the entries
abbrev pub terms_in : Case → Findings → Terms
terms_in case found = terms_of case.setting (change_in case.phases) (facts_in case.phases) found.labels

-- the flags of the switch words at their versions
abbrev pub flags_in : Case → Findings → ℕ → ℕ → ℕ
flags_in case found = flags_by (terms_in case found) (entries_of found)

-- the numbers of those of the lines that pass a test, where the first has this number
abbrev pub numbers_where : (Line → Bool) → ℕ → List Line → List ℕ
numbers_where test number [] = []
numbers_where test number (line ∷ lines) = cond (test line) (number ∷ []) [] ++ numbers_where test (number + 1) lines

abbrev pub is_entry_line : Line → Bool
is_entry_line (says.Entry entry) = true
is_entry_line _ = false

-- the lines of all entries, in the order of the report. Lines are counted from 1
abbrev pub entry_lines : ReportParts → List ℕ
entry_lines report = numbers_where is_entry_line 1 (report_lines report)

-- the entry of this place, counted from 0 over all journals, stands on this line
abbrev pub StandsOn : ReportParts → ℕ → ℕ → Type 0
StandsOn report at line = slice_get (entry_lines report) at ≡ Some line

-- Two lists are alike up to a place, counted from 0, where the end of a list counts as one place more. What isn't so is
-- wrong there, or before.
abbrev pub AlikeUpTo : {A : Type 0} → List A → List A → ℕ → Type 0
AlikeUpTo due printed at = take (at + 1) due ≡ take (at + 1) printed

-- A fact of an entry: of those before it, the last first, of itself, and of those behind it. All from here on have it.
abbrev pub AllHave : (List Placed → Placed → Type 0) → List Placed → List Placed → Type 0
AllHave fact earlier [] = Unit {0}
AllHave fact earlier (place ∷ places) = fact earlier place × AllHave fact (place ∷ earlier) places

-- the entry of this place lacks it
abbrev pub Lacks : (List Placed → Placed → Type 0) → List Placed → List Placed → ℕ → Type 0
Lacks fact earlier [] at = ⊥
Lacks fact earlier (place ∷ places) zero = fact earlier place → ⊥
Lacks fact earlier (place ∷ places) (suc at) = Lacks fact (place ∷ earlier) places at

-- an entry that lacks it stands on this line
abbrev pub LacksOn : ReportParts → (List Placed → Placed → Type 0) → List Placed → ℕ → Type 0
LacksOn report fact all line = (at : ℕ) × StandsOn report at line × Lacks fact [] all at
