-- The actions of a run, in the order of their numbers, as the administration's fold has them.
use Rattle.std.specs.Prelude.{ℕ, List, length, map, take}
use Rattle.pfs_admin.specs.declared.changes.Change.{Change}
use Rattle.pfs_admin.specs.declared.changes.Change.TheVariants as changes
use Rattle.pfs_admin.specs.Truncations.{action_of}
use Rattle.pfs_board.specs.declared.view.Label.{Label}
use Rattle.pfs_classes.specs.declared.setting.Setting.{Setting}
use Rattle.pfs_conservation.specs.ActionMoves.{moves_of}
use Rattle.pfs_conservation.specs.AdministrationFold.{Action, Connect, Quit, Other, numbered, state_after}
use Rattle.pfs_conservation.specs.PlaceFolds.{State}
use Rattle.pfs_conservation.specs.RowMoves.{Move}
use Rattle.pfs_conservation.specs.CellHolders.{holder_of, takes_by, opened_by}
use Rattle.pfs_model.specs.Chains.{action_change, each_of}
use Rattle.pfs_model.specs.EntryPlaces.{Placed}
use Rattle.pfs_model.specs.SummaryCounts.{Names}
use Rattle.pfs_rows.specs.Tables.{kind_number}
use Rattle.pfs_rows.specs.declared.table.TableKind.{TableKind}
use Rattle.pfs_law_conservation.specs.KindRows.{cells_of, board, kind_rows, limits_of}

-- the labels of the actions that these entries tell
abbrev pub labels_so_far : List Label → List Placed → List Label
labels_so_far labels so_far = take (length (each_of action_change so_far)) labels

-- the action of a session's change
abbrev pub action_for : ℕ → Change → Action
action_for session (changes.Connect user host) = Connect session user host
action_for session changes.Quit = Quit session
action_for session (changes.Truncate what) = action_of what
action_for session (changes.Setup what) = Other

-- the actions of these labels
abbrev pub actions_of : (Label → Change) → List Label → List Action
actions_of change labels = map (λ (label : Label). action_for label.session (change label)) labels

-- the ids of a session's names: those of its first action, which is its connect
abbrev pub names_in : Change → Names
names_in (changes.Connect user host) = record { user = user; host = host }
names_in changes.Quit = record { user = 0; host = 0 }
names_in (changes.Truncate what) = record { user = 0; host = 0 }
names_in (changes.Setup what) = record { user = 0; host = 0 }

abbrev pub names_by : (Label → Change) → ℕ → Names
names_by change session = names_in (change (record { session = session; line = 1 }))

-- who is connected where behind all actions
abbrev pub places_behind : Setting → List Action → State
places_behind setting actions = state_after (opened_by (limits_of setting)) (numbered actions) (length actions)

-- what an action moves among the rows of a kind
abbrev pub moves_at : Setting → TableKind → List Action → ℕ → List Move
moves_at setting kind actions action =
    moves_of (holder_of (board (cells_of setting kind)) (opened_by (limits_of setting)) (numbered actions))
    (takes_by (board (cells_of setting kind)) (opened_by (limits_of setting)) (numbered actions) (kind_number kind))
    action (kind_rows (cells_of setting kind))
