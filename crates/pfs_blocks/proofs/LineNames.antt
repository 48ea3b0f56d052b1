-- The labels that a block names are those of its lines.
use Rattle.std.proofs.Common.{ℕ, ◌≡◌, ◌≤◌, ◌+◌, Bool, true, false, List, [], ◌∷◌, ◌++◌, length, Option, Some, None, refl, ap, sym, ◌∙◌, subst, arith}
use Rattle.std.specs.List.{flat_map}
use Rattle.pfs_admin.specs.declared.changes.Change.{Change}
use Rattle.pfs_board.specs.declared.view.Label.{Label}
use Rattle.pfs_event.specs.declared.kind.EventKind.{EventKind}
use Rattle.pfs_law_script.proofs.AskedLabels.{asked_split}
use Rattle.pfs_law_script.proofs.QuietLines.{AreQuiet, may_quiet, written_quiet, written_end}
use Rattle.pfs_law_script.specs.PlayableBlocks.{end_of}
use Rattle.pfs_play.specs.Errands.{LabelsName, NamesLines, actions_of, errand_on, is_quit, sql_errand}
use Rattle.pfs_runs.specs.ScriptLines.{changes_in, changes_on, connect_changes, sql_changes}
use Rattle.pfs_script.specs.Marks.{written_out}
use Rattle.pfs_script.specs.declared.blocks.Block.{Block}
use Rattle.pfs_script.specs.declared.blocks.BlockLine.{BlockLine}
use Rattle.pfs_script.specs.declared.blocks.BlockLine.TheVariants as said
use Rattle.pfs_script.specs.declared.blocks.Connect.{Connect}
use Rattle.pfs_exec.specs.Requests.{request_of}
use Rattle.pfs_exec.specs.declared.requests.Request.{Request}
use Rattle.pfs_exec.specs.declared.requests.Request.TheVariants as requests
use Rattle.pfs_blocks.specs.PlayedBlocks.{MayEnd}

-- a line that ends no session makes as many actions as it names changes
sql_counts : (asks : Request) → length (sql_changes asks) ≡ actions_of (sql_errand asks)
sql_counts (requests.Refused error) = refl
sql_counts (requests.Truncate what) = refl
sql_counts (requests.Update update) = refl
sql_counts (requests.Insert insert) = refl
sql_counts (requests.Delete delete) = refl
sql_counts (requests.Query select) = refl
sql_counts (requests.Show select) = refl

line_counts : (line : BlockLine) → is_quit line ≡ false → length (changes_on line) ≡ actions_of (errand_on line)
line_counts said.Quit q = cc
line_counts (said.Sql text) q = sql_counts (request_of text)
line_counts (said.Stage class) q = refl
line_counts said.StageEnd q = refl
line_counts _ q = refl

-- so the labels of all changes that lines ask for are those of the lines, a quit at their end among them
names_end : (change : Label → Change) (session made : ℕ) (lines : List BlockLine) (quits : Bool) → AreQuiet lines → LabelsName change session made (flat_map changes_on (lines ++ end_of quits)) → NamesLines change session made (lines ++ end_of quits)
names_end change session made [] true quiet n = (n, tt)
names_end change session made [] false quiet n = tt
names_end change session made (line ∷ lines) quits quiet n =
    let both = asked_split change session made (changes_on line) (flat_map changes_on (lines ++ end_of quits)) n in
    let same : made + length (changes_on line) ≡ made + actions_of (errand_on line) = ap (λ k. made + k) (line_counts line quiet.0) in
    (both.0, names_end change session (made + actions_of (errand_on line)) lines quits quiet.1 (subst (λ k. LabelsName change session k (flat_map changes_on (lines ++ end_of quits))) same both.1))

lines_named : (change : Label → Change) (session made depth : ℕ) (kinds : List EventKind) (lines : List BlockLine) (m : MayEnd depth kinds lines) → LabelsName change session made (flat_map changes_on (written_out lines)) → NamesLines change session made (written_out lines)
lines_named change session made depth kinds lines m n =
    let are : written_out lines ≡ written_out m.body ++ end_of m.quits = ap written_out m.are ∙ written_end m.body m.quits in
    subst (λ (z : List BlockLine). NamesLines change session made z) (sym are)
    (names_end change session made (written_out m.body) m.quits (written_quiet None m.body tt (may_quiet 62 depth kinds None m.body m.may))
    (subst (λ (z : List BlockLine). LabelsName change session made (flat_map changes_on z)) are n))

-- of a block: those of its connect, and behind them those of its lines
pub connect_named : (change : Label → Change) (session made : ℕ) (block : Block) → LabelsName change session made (changes_in block) → LabelsName change session made (connect_changes block.connect)
connect_named change session made block n = (asked_split change session made (connect_changes block.connect) (flat_map changes_on (written_out block.lines)) n).0

pub block_named : (change : Label → Change) (session made depth : ℕ) (kinds : List EventKind) (block : Block) → MayEnd depth kinds block.lines → LabelsName change session made (changes_in block)
    → NamesLines change session (made + length (connect_changes block.connect)) (written_out block.lines)
block_named change session made depth kinds block m n =
    lines_named change session (made + length (connect_changes block.connect)) depth kinds block.lines m
    (asked_split change session made (connect_changes block.connect) (flat_map changes_on (written_out block.lines)) n).1

-- a connect is one action at most
pub connect_least : (names : Option Connect) (old new : ℕ) → new ≡ old + length (connect_changes names) → new ≤ old + 1
connect_least None old new is = omega (arith, is)
connect_least (Some names) old new is = omega (arith, is)
