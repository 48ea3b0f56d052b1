use Rattle.pfs_runs.specs.ScriptLines.{change_in}
use Rattle.pfs_run.proofs.run.run_plain.Given as goal

-- the run is that of this script
abbrev pub ghosts-run_picked : goal.ghosts-run_picked
ghosts-run_picked a = record { setting = a.setting.now; change = change_in a.phases.now }
