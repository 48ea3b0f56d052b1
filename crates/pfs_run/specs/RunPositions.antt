-- Where a run of a script stands behind some of its blocks.
use Rattle.std.specs.Prelude.{ℕ, ◌≡◌, ◌≤◌, ◌+◌, ◌*◌, ◌^◌, List, ◌++◌, length, Option}
use Rattle.std.specs.List.{All}
use Rattle.pfs_admin.specs.OpeningState.{opening_flags}
use Rattle.pfs_law_plain.specs.Spells.{Spell, calls_of}
use Rattle.pfs_classes.specs.declared.setting.Setting.{Setting}
use Rattle.pfs_law_script.specs.BlocksAhead.{NoneIsOver, done_before}
use Rattle.pfs_law_script.specs.Course.{IsCourse, PhasedBlock}
use Rattle.pfs_law_script.specs.ReportSpells.{ArePhasesTold, AreTold}
use Rattle.pfs_law_report.specs.PhaseEnds.{HasEnded}
use Rattle.pfs_law_report.specs.declared.counts.LostEvents.{LostEvents}
use Rattle.pfs_journal.specs.Reports.{IsPhase}
use Rattle.pfs_journal.specs.declared.blocks.BlockReport.{BlockReport}
use Rattle.pfs_journal.specs.declared.report.PhaseParts.{PhaseParts}
use Rattle.pfs_levels.specs.Calls.{Call, Opening}
use Rattle.pfs_levels.specs.PlainStore.{AllAnswer}
use Rattle.pfs_levels.specs.Views.{Store}
use Rattle.pfs_matching.specs.ObjectRules.{opening_objects}
use Rattle.pfs_model.specs.Chains.{each_of, times}
use Rattle.pfs_rows.specs.Limits.{AreInRange}
use Rattle.pfs_law_plain.proofs.ReadCalls.{LeadAlike}
use Rattle.pfs_law_plain.specs.RunRules.{entries_of}
use Rattle.pfs_runs.specs.PhaseFinals.{is_digest_lost, is_lost_nested, is_lost_locker, verdict_at}
use Rattle.pfs_runs.specs.ScriptLines.{change_in}
use Rattle.pfs_runs.specs.Runs.{AreFinal}
use Rattle.pfs_script.specs.declared.blocks.Block.{Block}
use Rattle.pfs_script.specs.declared.blocks.Phase.{Phase}
use Rattle.pfs_session.specs.SessionStates.{Book}
use Rattle.pfs_seats.specs.Seats.{Sits, depth_of, seat_of}
use Rattle.pfs_run.specs.declared.runner.Progress.{Progress}

-- between two blocks: behind these phases, and these blocks of the one behind them, with those blocks ahead
pub record Position : Type 0 where
  pub before : List Phase
  pub first : List Block
  pub ahead : List PhasedBlock

abbrev pub position : List Phase → List Block → List PhasedBlock → Position
position before first ahead = record { before = before; first = first; ahead = ahead }

-- a run as its runner has it: the store, the seats of the sessions, what was lost so far, the phases that ended, and the
-- blocks of the one under way
pub record Standing : Type 1 where
  pub store : Store
  pub seats : List (Option Book)
  pub lost : LostEvents
  pub ended : List PhaseParts
  pub told : List BlockReport

abbrev pub standing : Store → Progress → Standing
standing store progress = record {
  store = store;
  seats = progress.seats.items;
  lost = progress.lost;
  ended = progress.phases.items;
  told = progress.blocks.items;
}

-- At this position: what the sessions did, that the store was led there by just that and by reads between, which it
-- answered as a plain store does, what is told of it, the phases that ended, and the sessions that wait for their next
-- blocks.
pub record IsAlong (setting : Setting) (phases : List Phase) (at : Position) (run : Standing) : Type 0 where
  pub limits : AreInRange setting.limits
  pub earlier : List Spell
  pub current : List Spell
  pub course : IsCourse setting (change_in phases) (depth_of phases) (done_before at.before at.first)
      (earlier ++ current)
  pub answer : AllAnswer (opening_flags setting opening_objects) (calls_of (earlier ++ current))
  pub none_over : NoneIsOver (earlier ++ current) at.ahead
  pub phases_told : ArePhasesTold setting 1 at.before run.ended earlier
  pub blocks_told : AreTold setting (1 + length at.before) at.first current run.told
  pub finals : AreFinal (HasEnded setting (change_in phases) (earlier ++ current)) run.ended
  pub numbers : AreFinal (λ (report : PhaseParts). report.number ≤ length at.before) run.ended
  pub good : All IsPhase run.ended
  pub start : Opening
  pub opens : start.flags ≡ opening_flags setting opening_objects
  pub calls : List Call
  pub led : run.store.reached start calls
  pub alike : LeadAlike calls (calls_of (earlier ++ current))
  pub spare : 2 ^ 47 ≤ run.store.left + 340000000 * length (done_before at.before at.first)
  pub tickets : 2 ^ 47 ≤ run.store.draws + 400000 * length (done_before at.before at.first)
  pub wide : length run.seats ≡ 64
  pub seated : (session : ℕ) → 1 ≤ session → session ≤ 64
      → Sits setting phases (done_before at.before at.first) (earlier ++ current) session (seat_of run.seats session)
  pub digests : run.lost.digests ≡ times is_digest_lost (entries_of (earlier ++ current))
  pub statements : run.lost.statements ≡ times is_lost_nested (each_of verdict_at (entries_of (earlier ++ current)))
  pub waits : run.lost.waits ≡ times is_lost_locker (each_of verdict_at (entries_of (earlier ++ current)))
  pub few_digests : run.lost.digests ≤ 1200012 * length (done_before at.before at.first)
  pub few_statements : run.lost.statements ≤ 200002 * length (done_before at.before at.first)
  pub few_waits : run.lost.waits ≤ 200002 * length (done_before at.before at.first)
