use Rattle.std.proofs.Common.{◌≡◌, map}
use Rattle.pfs_script.specs.Drafts.{phase_named}
use Rattle.pfs_script.proofs.drafts.name_phases.Given as goal

abbrev pub invariant-loop-draft : goal.invariant-loop-draft
invariant-loop-draft l = l.phases.items ≡ map (phase_named l.heading.names) l.yielded
