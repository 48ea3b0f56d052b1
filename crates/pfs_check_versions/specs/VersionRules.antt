-- What it means that the second and the third rule were asked of a report.
use Rattle.std.specs.Prelude.{ℕ, ◌≡◌, List, [], ◌∷◌, slice_get, Option, Some, None}
use Rattle.std.specs.BTreeMap.{BTreeMap, get}
use Rattle.pfs_board.specs.declared.view.Label.{Label}
use Rattle.pfs_event.specs.declared.entry.Entry.{Entry}
use Rattle.pfs_journal.specs.declared.report.ReportParts.{ReportParts}
use Rattle.pfs_model.specs.declared.changes.Change.{Change}
use Rattle.pfs_model.specs.Chains.{action_change, each_of, is_that, row_change, times}
use Rattle.pfs_model.specs.EntryPlaces.{Placed}
use Rattle.pfs_check_faults.specs.declared.rules.Rule.TheVariants as rules
use Rattle.pfs_check_faults.specs.Judgements.{IsFirstFault, Keeps}
use Rattle.pfs_check_faults.specs.ReportCases.{Case, Findings, StandsOn, entries_of}
use Rattle.pfs_check_versions.specs.declared.changes.Made.{Made}
use Rattle.pfs_check_versions.specs.declared.judging.ActionRule.{ActionRule}
use Rattle.pfs_check_versions.specs.declared.judging.ActionRule.TheVariants as acts
use Rattle.pfs_check_versions.specs.declared.judging.ChainRule.{ChainRule}
use Rattle.pfs_check_versions.specs.declared.judging.ChainRule.TheVariants as chains
use Rattle.pfs_check_versions.specs.LinkTests.{change_cmp}

-- a change stands there: an entry gives it, on this line, in this phase and in the journal of this session
pub record StandsAt (given : Entry → List Change) (report : ReportParts) (all : List Placed) (change : Change)
    (made : Made) : Type 0 where
  pub at : ℕ
  pub place : Placed
  pub there : slice_get all at ≡ Some place
  pub gives : given place.entry ≡ change ∷ []
  pub line : StandsOn report at made.line
  pub phase : place.phase ≡ made.phase
  pub session : place.session ≡ made.session

-- it is found where it stands, or it stands nowhere
abbrev pub IsFound : (Entry → List Change) → ReportParts → List Placed → Change → Option Made → Type 0
IsFound given report all change None = times (is_that change) (each_of given all) ≡ 0
IsFound given report all change (Some made) = StandsAt given report all change made

pub record IsIndex (given : Entry → List Change) (report : ReportParts) (all : List Placed)
    (made : BTreeMap Change Made) : Type 0 where
  pub each : (change : Change) → IsFound given report all change (get change_cmp made change)

-- the third rule
abbrev pub IsChainJudged : Case → Findings → ChainRule → Type 0
IsChainJudged case found (chains.Kept versions) =
    Keeps rules.Chain case found × IsIndex row_change case.report (entries_of found) versions.made
IsChainJudged case found (chains.Wrong line) = IsFirstFault rules.Chain case found line

-- what was found before, with the labels of the actions
abbrev pub with_labels : Findings → List Label → Findings
with_labels found labels = record found { labels = labels }

-- the second rule
abbrev pub IsActionsJudged : Case → Findings → ActionRule → Type 0
IsActionsJudged case found (acts.Kept actions) =
    Keeps rules.Actions case (with_labels found actions.labels.items)
    × IsIndex action_change case.report (entries_of found) actions.actions.made
IsActionsJudged case found (acts.Wrong line) = IsFirstFault rules.Actions case found line
