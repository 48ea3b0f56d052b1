use Rattle.pfs_runs.specs.ScriptLines.{change_in}
use Rattle.pfs_threads.proofs.run.run_threads.Given as goal

-- the run is that of this script, over these setup words
abbrev pub ghosts-run_picked : goal.ghosts-run_picked
ghosts-run_picked a b = record { setting = b.setting.now; change = change_in b.phases.now; switches = b.words.switches.id }
