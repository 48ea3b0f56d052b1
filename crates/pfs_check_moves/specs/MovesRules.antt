-- What it means that the eighth rule was asked of a report.
use Rattle.std.specs.Prelude.{ℕ, ◌≡◌, ◌-◌, ◌<◌, ◌≤◌, nat_le, Bool, cond, List, ◌++◌, length, Option, Some, None, Vec}
use Rattle.std.specs.BTreeMap.{BTreeMap}
use Rattle.std.specs.declared.alloc.Global.{Global}
use Rattle.pfs_event.specs.declared.entry.Entry.{Entry}
use Rattle.pfs_event.specs.declared.entry.Entry.TheVariants as says
use Rattle.pfs_journal.specs.declared.report.ReportParts.{ReportParts}
use Rattle.pfs_model.specs.ActionAsks.{Asked, moved_by, of_action, signed_by}
use Rattle.pfs_model.specs.Actions.{IsAmong}
use Rattle.pfs_model.specs.Chains.{AreChained, Each, action_change, each_of}
use Rattle.pfs_model.specs.Contents.{Given}
use Rattle.pfs_model.specs.EntryPlaces.{Placed}
use Rattle.pfs_runs.specs.Rules.{given_by}
use Rattle.pfs_runs.specs.Runs.{all_blocks}
use Rattle.pfs_runs.specs.ScriptLines.{change_in}
use Rattle.pfs_check_contents.specs.declared.changes.RowChange.{RowChange}
use Rattle.pfs_check_contents.specs.declared.shelf.Shelf.{Shelf}
use Rattle.pfs_check_contents.specs.KeptContents.{IsHad, IsShelfOf}
use Rattle.pfs_check_contents.specs.OrderlyChanges.{AreOrderly}
use Rattle.pfs_check_contents.specs.PlacedChanges.{AreMadeOf}
use Rattle.pfs_check_faults.specs.declared.rules.Rule.TheVariants as rules
use Rattle.pfs_check_faults.specs.ActionFaults.{MovesFail, MovesUpTo, moving_at}
use Rattle.pfs_check_faults.specs.Judgements.{IsFirstFault, Keeps}
use Rattle.pfs_check_faults.specs.ReportCases.{Case, Findings, entries_of, terms_in}
use Rattle.pfs_check_orders.specs.ActionOrders.{AreOrders}
use Rattle.pfs_check_orders.specs.declared.orders.Orders.{Orders}
use Rattle.pfs_law_made.specs.MadeContents.{IsKeptAsMade}
use Rattle.pfs_check_versions.specs.VersionRules.{IsIndex}
use Rattle.pfs_check_versions.specs.declared.judging.Versions.{Versions}
use Rattle.pfs_check_moves.specs.FoundTakes.{FindsAs, counted_by}
use Rattle.pfs_check_moves.specs.PrintedMoves.{ArePrinted, moving}
use Rattle.pfs_check_moves.specs.declared.judging.MovesRule.{MovesRule}
use Rattle.pfs_check_moves.specs.declared.judging.MovesRule.TheVariants.{Kept, Wrong}

-- what a run goes by in its contents
abbrev pub given_in : Case → Findings → Given
given_in case found = given_by (terms_in case found) (all_blocks found.blocks)

-- it is known where each action begins, and what each may ask for
abbrev pub AreFoundIn : Case → Findings → Versions → Type 0
AreFoundIn case found actions = IsIndex action_change case.report (entries_of found) actions.made

abbrev pub AreOrdersIn : Case → Findings → Orders → Type 0
AreOrdersIn case found orders =
    AreOrders case.setting (change_in case.phases) found.labels orders.entries.entries orders.orders.items

-- what is kept are the contents of a report, whose changes are orderly
pub record IsShelfIn (case : Case) (found : Findings) (shelf : Shelf) : Type 0 where
  pub changes : List RowChange
  pub made_of : AreMadeOf (given_in case found) (entries_of found) changes
  pub orderly : AreOrderly changes
  pub shelf_is : IsShelfOf (given_in case found) (entries_of found) shelf

-- the entries of an action other than sets, and whether its takes find something, by what is kept
abbrev pub own_moves : List Placed → ℕ → List Entry
own_moves all number = moving (of_action number all)

abbrev pub counted_of : Shelf → List Placed → ℕ → ℕ → Bool
counted_of shelf all number row = counted_by shelf (own_moves all number) row

-- an action changes just what it asks for, by what its takes find
pub record AreMoved (shelf : Shelf) (asked : ℕ → Asked) (all : List Placed) (number : ℕ) : Type 0 where
  pub alike : moved_by (counted_of shelf all number) (asked number).moves ++ signed_by (asked number).signs
      ≡ each_of moving_at (of_action number all)
  pub found : Each (FindsAs shelf (counted_of shelf all number)) (own_moves all number)

-- this is the first place at which the changes of an action fail; their end counts as a place
pub record FailsAt (given : Given) (asked : ℕ → Asked) (all : List Placed) (number at : ℕ) : Type 0 where
  pub within : at ≤ length (each_of moving_at (of_action number all))
  pub wrong : MovesUpTo given asked all number at → ⊥
  pub before : (other : ℕ) → other < at → MovesUpTo given asked all number other

-- this is the first line at which the changes of one of these actions fail
pub record FailsFirst (report : ReportParts) (given : Given) (asked : ℕ → Asked) (all : List Placed) (mine : ℕ → Type 0)
    (line : ℕ) : Type 0 where
  pub fails : MovesFail report given asked all line
  pub first : (other : ℕ) → other < line → (fault : MovesFail report given asked all other) → mine fault.number → ⊥

-- what is known of a report beside its actions' orders
pub record KnowsMoves (report : ReportParts) (given : Given) (shelf : Shelf) (all : List Placed)
    (printed : BTreeMap ℕ (Vec Entry Global)) (actions : Versions) : Type 0 where
  pub printed_are : ArePrinted all printed
  pub index : IsIndex action_change report all actions.made
  pub chained : AreChained action_change all
  pub kept : IsKeptAsMade given all shelf
  pub before : (place : Placed) (row version : ℕ) → IsAmong place all → place.entry ≡ says.Take row version
      → IsHad all row (version - 1)

-- the changes of an action are those that it asks for, or this is the first line at which they fail
abbrev pub IsActionMoved : ReportParts → Given → Shelf → (ℕ → Asked) → List Placed → ℕ → Option ℕ → Type 0
IsActionMoved report given shelf asked all number None = AreMoved shelf asked all number
IsActionMoved report given shelf asked all number (Some line) =
    FailsFirst report given asked all (λ other. other ≡ number) line

-- so of all actions from 1 up to one
abbrev pub AreActionsMoved : ReportParts → Given → Shelf → (ℕ → Asked) → List Placed → ℕ → Option ℕ → Type 0
AreActionsMoved report given shelf asked all count None = (number : ℕ) → 0 < number → number ≤ count
    → AreMoved shelf asked all number
AreActionsMoved report given shelf asked all count (Some line) =
    FailsFirst report given asked all (λ number. number ≤ count) line

-- the lower of two lines, where they are some
abbrev pub lower_line : Option ℕ → Option ℕ → Option ℕ
lower_line None other = other
lower_line (Some one) None = Some one
lower_line (Some one) (Some other) = Some (cond (nat_le one other) one other)

abbrev pub lower_of : ℕ → Option ℕ → ℕ
lower_of fall None = fall
lower_of fall (Some line) = cond (nat_le line fall) line fall

-- what was found before, with what the takes find and with the contents
abbrev pub with_contents : Findings → (ℕ → ℕ → Bool) → (ℕ → ℕ → List ℕ) → Findings
with_contents found counted content = record found { counted = counted; content = content }

-- The rule is kept, by what the kept contents tell of each take, and by contents of which they are kept.
pub record KeepsMovesBy (case : Case) (found : Findings) (shelf : Shelf) : Type 0 where
  pub contents : IsShelfOf (given_in case found) (entries_of found) shelf
  pub keeps : Keeps rules.Moves case (with_contents found (counted_of shelf (entries_of found)) contents.content)

-- the rule is kept, or this is the first line at which it fails
abbrev pub IsMovesJudged : Case → Findings → Shelf → MovesRule → Type 0
IsMovesJudged case found shelf Kept = KeepsMovesBy case found shelf
IsMovesJudged case found shelf (Wrong line) = IsFirstFault rules.Moves case found line
