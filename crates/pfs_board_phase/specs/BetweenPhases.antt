-- Where a run over a board stands between two phases.
use Rattle.std.specs.Prelude.{ℕ, ◌≡◌, ◌<◌, ◌≤◌, ◌+◌, ◌*◌, ◌^◌, List, ◌++◌, length, slice_index, Option}
use Rattle.std.specs.List.{All}
use Rattle.atomic_table.specs.Seated.{TableId}
use Rattle.pfs_admin.specs.declared.changes.Change.{Change}
use Rattle.pfs_board.specs.History.{Each}
use Rattle.pfs_board.specs.Knowledge.{IsWhole}
use Rattle.pfs_board.specs.declared.view.Label.{Label}
use Rattle.pfs_board_admin.specs.LabelWords.{AllKeepWords, version_after}
use Rattle.pfs_board_root.specs.Roots.{RootView}
use Rattle.pfs_board_store.specs.RootActors.{AreGathered, Worked, calls_of_all}
use Rattle.pfs_board_store.specs.RootLaws.{IsRunsBoard}
use Rattle.pfs_classes.specs.declared.setting.Setting.{Setting}
use Rattle.pfs_containers.specs.declared.containers.Lost.{Lost}
use Rattle.pfs_finals.specs.declared.counters.LostCounters.{LostCounters}
use Rattle.pfs_journal.specs.Reports.{IsPhase}
use Rattle.pfs_journal.specs.declared.report.PhaseParts.{PhaseParts}
use Rattle.pfs_law_board.specs.PhaseEnds.{PhaseEnd, all_of}
use Rattle.pfs_law_board.specs.PhaseEnds.{Phase as Ended}
use Rattle.pfs_law_phases.specs.Behind.{IsBehind, Standing}
use Rattle.pfs_law_plain.specs.RunRules.{entries_of}
use Rattle.pfs_law_plain.specs.Spells.{Spell}
use Rattle.pfs_law_report.specs.declared.counts.LostEvents.{LostEvents}
use Rattle.pfs_law_script.specs.Course.{PhasedBlock, numbered}
use Rattle.pfs_levels.specs.CallOrder.{AllCalls}
use Rattle.pfs_model.specs.Chains.{each_of, times}
use Rattle.pfs_rows.specs.Limits.{AreInRange}
use Rattle.pfs_runs.specs.PhaseFinals.{is_digest_lost, is_lost_nested, is_lost_locker, verdict_at}
use Rattle.pfs_runs.specs.ScriptLines.{change_in}
use Rattle.pfs_script.specs.declared.blocks.Phase.{Phase}
use Rattle.pfs_seats.specs.Seats.{Sits, depth_of, seat_of}
use Rattle.pfs_session.specs.SessionStates.{Book}
use Rattle.pfs_tickets.specs.Knowledge.{IsWhole as HasAllDraws}
use Rattle.pfs_board_phase.specs.SeatNumbers.{HasNumbered, IsOwn}

-- The root as its last settlement left it: all seats are in. It has gathered the actors of the phases so far, and
-- before them what it did itself since the last of them ended, under the number 0, which changed nothing. It was told
-- that end; since then no row was changed, and it has seen no word below where the writer was then
pub record IsSettled (setting : Setting) (change : Label → Change) (switches : TableId) (ended : List Ended)
    (r : RootView) : Type 0 where
  pub own : List Worked
  pub gathered : AreGathered (own ++ all_of ended) r.seat r.words r.draws
  pub number : r.seat.number ≡ 0
  pub alone : Each IsOwn own
  pub keeps : AllCalls (AllKeepWords (version_after setting change)) (calls_of_all (own ++ all_of ended))
  pub first : PhaseEnd setting change switches r.seat.start (all_of ended)
  pub made : r.seat.made ≡ first.seat.made
  pub seen : (at : ℕ) → at < 160 → slice_index first.pen.view.seen at ≤ slice_index r.words.seen at
  pub whole : IsWhole r.seat
  pub all_draws : HasAllDraws r.draws

-- These blocks left it so many publications and tickets: none used more than a script's longest block may
pub record IsSpared (done : List PhasedBlock) (r : RootView) : Type 0 where
  pub publications : 2 ^ 47 ≤ r.seat.allowance + 340000000 * length done
  pub tickets : 2 ^ 47 ≤ r.draws.draws + 400000 * length done

-- so many events found no room behind these blocks: those that the spells say, and each block's are few
pub record AreLost (done : List PhasedBlock) (spells : List Spell) (lost : LostEvents) : Type 0 where
  pub digests : lost.digests ≡ times is_digest_lost (entries_of spells)
  pub statements : lost.statements ≡ times is_lost_nested (each_of verdict_at (entries_of spells))
  pub waits : lost.waits ≡ times is_lost_locker (each_of verdict_at (entries_of spells))
  pub few_digests : lost.digests ≤ 1200012 * length done
  pub few_statements : lost.statements ≤ 200002 * length done
  pub few_waits : lost.waits ≤ 200002 * length done

-- the counters of a phase's end: of containers, and of events
abbrev pub counters_of : Lost → LostEvents → LostCounters
counters_of lost events = record {
  threads = lost.threads;
  accounts = lost.accounts;
  users = lost.users;
  hosts = lost.hosts;
  digests = events.digests;
  statements = events.statements;
  waits = events.waits;
}

-- Behind the phases before, with those after ahead: the run of them over this board, and its reports, which a report
-- can have; a root that has settled, with enough left, and that split a seat off for each block and read the tables of
-- each phase, its actors numbered so; and each session in its seat. `run` is what is known of the run
pub record IsBetweenPhases (setting : Setting) (phases : List Phase) (switches : TableId) (before after : List Phase)
    (root : RootView) (seats : List (Option Book)) (lost : LostEvents) (reports : List PhaseParts) : Type 0 where
  pub limits : AreInRange setting.limits
  pub board : IsRunsBoard root.seat.start
  pub run : Standing
  pub behind : IsBehind setting phases (depth_of phases) switches root.seat.start before after run
  pub told : run.reports ≡ reports
  pub good : All IsPhase reports
  pub settled : IsSettled setting (change_in phases) switches run.ended root
  pub by_number : HasNumbered setting reports run.spells (settled.own ++ all_of run.ended) root
  pub spared : IsSpared (numbered 1 before) root
  pub wide : length seats ≡ 64
  pub seated : (session : ℕ) → 1 ≤ session → session ≤ 64
      → Sits setting phases (numbered 1 before) run.spells session (seat_of seats session)
  pub counted : AreLost (numbered 1 before) run.spells lost
