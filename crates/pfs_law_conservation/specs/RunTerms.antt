-- What is said of a run, and what conservation goes by up to a phase's end.
use Rattle.std.specs.Prelude.{ℕ, ◌≡◌, ◌-◌, ◌==◌, ◌&&◌, nat_lt, cond, Bool, List, [], ◌∷◌, length, fold, filter, Some}
use Rattle.pfs_admin.specs.declared.changes.Change.{Change}
use Rattle.pfs_board.specs.declared.view.Label.{Label}
use Rattle.pfs_classes.specs.declared.setting.Setting.{Setting}
use Rattle.pfs_conservation.specs.AdministrationFold.{Summary, Action, Truncate, numbered}
use Rattle.pfs_conservation.specs.RowChains.{Sums, with_event, found_by}
use Rattle.pfs_conservation.specs.Conservation.{counts_after}
use Rattle.pfs_conservation.specs.PlaceFolds.{ByAll}
use Rattle.pfs_conservation.specs.ConservedSums.{stats}
use Rattle.pfs_conservation.specs.PrintedChanges.{Tagged, chain_of}
use Rattle.pfs_conservation.specs.Removals.{removal}
use Rattle.pfs_conservation.specs.CellHolders.{Numbering, opened_by}
use Rattle.pfs_conservation.specs.KindSummaries.{Key, KeyThread, KeyAccount, KeyUser, KeyHost, KeyAll, Whose, home_at, leads_at, covers_to}
use Rattle.pfs_event.specs.declared.entry.Entry.{Entry}
use Rattle.pfs_event.specs.declared.entry.Entry.TheVariants as says
use Rattle.pfs_model.specs.Chains.{each_of}
use Rattle.pfs_model.specs.Contents.{Facts, Given}
use Rattle.pfs_model.specs.EntryPlaces.{Block, Placed, places, up_to_phase}
use Rattle.pfs_rows.specs.Tables.{kind_number}
use Rattle.pfs_rows.specs.declared.table.TableKind.{TableKind}
use Rattle.pfs_runs.specs.PhaseFinals.{row_version}
use Rattle.pfs_runs.specs.Labels.{terms_of}
use Rattle.pfs_runs.specs.Rules.{Terms, slot_in, given_by}
use Rattle.pfs_stat.specs.Stat.{zero_of, stat_of_words}
use Rattle.pfs_stat.specs.declared.Stat.{Stat}
use Rattle.pfs_law_conservation.specs.RunActions.{labels_so_far, actions_of, names_by}
use Rattle.pfs_law_conservation.specs.KindRows.{cells_of, board, limits_of}
use Rattle.pfs_law_conservation.specs.RunEvents.{events_in, measures_in, whose_in}
use Rattle.pfs_law_conservation.specs.KindLines.{lines_in}

-- A run: its setting; the change of each label, and the labels of its actions; the script's facts of the events; which
-- takes found something counted, and the contents of rows at their versions; its blocks; and the flags by which events
-- are put into rings and rows of digests.
pub record Run : Type 0 where
  pub setting : Setting
  pub change : Label → Change
  pub labels : List Label
  pub facts : ℕ → ℕ → Facts
  pub counted : ℕ → ℕ → Bool
  pub content : ℕ → ℕ → List ℕ
  pub blocks : List Block
  pub flags : ℕ → ℕ → ℕ

abbrev pub terms_by : Run → Terms
terms_by run = terms_of run.setting run.change run.facts run.labels

abbrev pub given_in : Run → Given
given_in run = given_by (terms_by run) run.blocks

-- the entries up to a phase
abbrev pub entries_to : Run → ℕ → List Placed
entries_to run phase = up_to_phase phase (places run.blocks)

-- the actions up to there
abbrev pub actions_to : Run → ℕ → List Action
actions_to run phase = actions_of run.change (labels_so_far run.labels (entries_to run phase))

-- of a kind: its rows, the lines that change them, and its events
abbrev pub rows_by : Run → TableKind → Numbering
rows_by run kind = board (cells_of run.setting kind)

abbrev pub lines_to : Run → TableKind → ℕ → List Tagged
lines_to run kind phase = lines_in (cells_of run.setting kind) (entries_to run phase)

abbrev pub events_to : Run → TableKind → ℕ → List ℕ
events_to run kind phase = events_in (cells_of run.setting kind) (entries_to run phase)

-- what each event adds, and whose it is
abbrev pub sums_to : Run → ℕ → Sums Stat
sums_to run phase = stats (measures_in (given_in run) (entries_to run phase))

abbrev pub whose_to : Run → ℕ → ℕ → Whose
whose_to run phase = whose_in (names_by run.change) (entries_to run phase)

-- what an action's take of a row found by these lines, and whether that has counted something
abbrev pub found_to : Run → TableKind → ℕ → ℕ → ℕ → Stat
found_to run kind phase = found_by (sums_to run phase) (chain_of (lines_to run kind phase)) 4

abbrev pub kept_to : Run → TableKind → ℕ → ℕ → ℕ → Bool
kept_to run kind phase action row = nat_lt 0 (found_to run kind phase action row).count

-- what stands in a row under the phase's end
abbrev pub stands_to : Run → ℕ → ℕ → Stat
stands_to run phase row = stat_of_words (run.content row (row_version (entries_to run phase) row))

-- what the printed takes of a row found: what stood there one version before each
abbrev pub found_at : (ℕ → ℕ → List ℕ) → ℕ → Entry → List Stat
found_at content row (says.Take taken version) =
    cond (taken == row) (stat_of_words (content row (version - 1)) ∷ []) []
found_at content row entry = []

abbrev pub found_takes : Run → ℕ → ℕ → List Stat
found_takes run phase row = each_of (found_at run.content row) (entries_to run phase)

-- a take of the row is of a TRUNCATE of the kind's global summary
abbrev pub IsCleared : Run → TableKind → ℕ → ℕ → Placed → Entry → Type 0
IsCleared run kind phase row place (says.Take taken version) = taken ≡ row
    → numbered (actions_to run phase) place.context.action ≡ Truncate (Summary (kind_number kind) ByAll)
IsCleared run kind phase row place entry = Unit {0}

-- the slot of a thread's key is the one that its session's connect printed
abbrev pub IsKeyOf : Run → Key → Type 0
IsKeyOf run (KeyThread session slot) = slot_in run.blocks session ≡ Some slot
IsKeyOf run (KeyAccount user host) = Unit {0}
IsKeyOf run (KeyUser user) = Unit {0}
IsKeyOf run (KeyHost host) = Unit {0}
IsKeyOf run KeyAll = Unit {0}

-- an event of these cells counts for a key where it leads to the key, and no action that covers the key has the number
-- of the event's removal, which is the first take of its row behind its addition, or a later one
abbrev pub counts_to : Run → TableKind → ℕ → Key → List ℕ → ℕ → Bool
counts_to run kind phase key cells event =
    leads_at key cells (whose_to run phase event)
    && counts_after (removal event (chain_of (lines_to run kind phase) (home_at (rows_by run kind)
    (whose_to run phase event))))
    (covers_to (kind_number kind) key (opened_by (limits_of run.setting)) (numbered (actions_to run phase))
    (length (actions_to run phase)))

-- what all these events add up to: how many they are, and the sums, the least and the greatest of their numbers
abbrev pub counted_to : Run → TableKind → ℕ → Key → List ℕ → Stat
counted_to run kind phase key cells =
    fold (with_event (sums_to run phase)) zero_of
    (filter (counts_to run kind phase key cells) (events_to run kind phase))
