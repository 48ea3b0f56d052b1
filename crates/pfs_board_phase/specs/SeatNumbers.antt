-- What each actor of a run over a board did, and the number of its board seat.
use Rattle.std.specs.Prelude.{ℕ, ◌≡◌, ◌⊎◌, List, [], ◌∷◌, ◌++◌, drop, length}
use Rattle.pfs_board_root.specs.Roots.{RootView}
use Rattle.pfs_board_store.specs.RootActors.{Worked}
use Rattle.pfs_board_tables.specs.EndTables.{AreListed, HasMet}
use Rattle.pfs_classes.specs.declared.setting.Setting.{Setting}
use Rattle.pfs_journal.specs.declared.report.PhaseParts.{PhaseParts}
use Rattle.pfs_journal.specs.declared.values.TableReport.{TableReport}
use Rattle.pfs_law_board.specs.PhaseEnds.{IsQuiet}
use Rattle.pfs_law_plain.specs.Spells.{Spell}
use Rattle.pfs_law_shared.specs.Shares.{actors_of}
use Rattle.pfs_levels.specs.Calls.{Call}

-- the root itself, as an actor: its board seat has the number 0, and it changed nothing
pub record IsOwn (w : Worked) : Type 0 where
  pub number : w.start.board.number ≡ 0
  pub quiet : IsQuiet w.calls

-- it made the calls that were made at the newest of these blocks, and its board seat has the number of that block among
-- all, counted from 1
abbrev pub PlayedNewest : List (List Call) → Worked → Type 0
PlayedNewest [] w = ⊥
PlayedNewest (calls ∷ blocks) w = (w.calls ≡ calls) × (w.start.board.number ≡ length (calls ∷ blocks))

-- it is the root, which read the newest of these phases' tables, each its read set, and made no other call
abbrev pub ReadNewest : Setting → List (List TableReport) → Worked → Type 0
ReadNewest setting [] w = ⊥
ReadNewest setting (tables ∷ shown) w = (w.start.board.number ≡ 0) × AreListed setting tables w.calls

-- Of a root's actors, newest first, each is of one block; or it is the root itself, which met the writer of the setup
-- words, or read the tables that one phase shows. Each block and each phase's tables have one, in their order
abbrev pub AreNumbered : Setting → List (List TableReport) → List (List Call) → List Worked → Type 0
AreNumbered setting shown blocks [] = (shown ≡ []) × (blocks ≡ [])
AreNumbered setting shown blocks (w ∷ ws) = (PlayedNewest blocks w × AreNumbered setting shown (drop 1 blocks) ws)
    ⊎ (ReadNewest setting shown w × AreNumbered setting (drop 1 shown) blocks ws)
    ⊎ ((w.start.board.number ≡ 0) × HasMet w × AreNumbered setting shown blocks ws)

-- the tables that these phases show, the newest phase's first
abbrev pub newest_tables : List PhaseParts → List (List TableReport)
newest_tables [] = []
newest_tables (phase ∷ phases) = newest_tables phases ++ phase.tables ∷ []

-- one seat was split off for each block, and these actors are of the blocks and phases so far, and numbered so
pub record HasNumbered (setting : Setting) (reports : List PhaseParts) (spells : List Spell) (actors : List Worked)
    (r : RootView) : Type 0 where
  pub seats : r.seat.seats ≡ length spells
  pub theirs : AreNumbered setting (newest_tables reports) (actors_of spells) actors
