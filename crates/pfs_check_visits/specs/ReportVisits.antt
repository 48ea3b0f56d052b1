-- The entries of a report by the places at which it is cut.
use Rattle.std.specs.Prelude.{ℕ, ◌<◌, List, [], Option, Some, None}
use Rattle.pfs_journal.specs.declared.report.ReportParts.{ReportParts}
use Rattle.pfs_model.specs.EntryPlaces.{Block, Placed, places, placed_lines, told_by}
use Rattle.pfs_model.specs.EventNumbers.{AreNumbered, IsNumbered}
use Rattle.pfs_model.specs.Contexts.{fresh}
use Rattle.pfs_runs.specs.Runs.{all_blocks}
use Rattle.pfs_check_cut.specs.CutReports.{phases_by}
use Rattle.pfs_check_cut.specs.declared.blocks.CutPhase.{CutPhase}
use Rattle.pfs_check_faults.specs.ReportCases.{AllHave, LacksOn}
use Rattle.pfs_check_walk.specs.Walks.{LacksFirst, onto}
use Rattle.pfs_check_visits.specs.declared.visited.Visited.{Visited}
use Rattle.pfs_check_visits.specs.declared.visited.Visited.TheVariants.{Kept, Lacking}

-- the entries of a block, behind earlier blocks
abbrev pub block_places : List Block → Block → List Placed
block_places earlier block =
    placed_lines block.phase block.session (told_by block.session fresh earlier) block.lines block.parts

-- the entries of all journals, in the order of the report
abbrev pub entries_by : List CutPhase → ReportParts → List Placed
entries_by cuts report = places (all_blocks (phases_by cuts report.phases))

-- the events of all these entries are numbered, or this is the place of the first entry with another number
abbrev pub AreNumbersAsked : List Placed → Visited → Type 0
AreNumbersAsked all (Kept count) = AreNumbered all
AreNumbersAsked all (Lacking at) = LacksFirst (λ earlier place. IsNumbered place.context place.entry) [] all at

-- this is the first line with an entry that lacks the rule
pub record IsFirstLacking (report : ReportParts) (rule : List Placed → Placed → Type 0) (all : List Placed) (line : ℕ)
    : Type 0 where
  pub fails : LacksOn report rule all line
  pub first : (other : ℕ) → other < line → LacksOn report rule all other → ⊥

-- all keep the rule, and all are known; or this is the first line with an entry that lacks it
abbrev pub IsAsked : ReportParts → (List Placed → Placed → Type 0) → List Placed → (List Placed → Type 0) → Option ℕ
    → Type 0
IsAsked report rule all knows None = AllHave rule [] all × knows (onto [] all)
IsAsked report rule all knows (Some line) = IsFirstLacking report rule all line
