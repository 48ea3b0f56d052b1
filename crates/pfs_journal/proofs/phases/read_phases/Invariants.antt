use Rattle.std.proofs.Common.{length}
use Rattle.std.specs.List.{All, flat_map}
use Rattle.pfs_journal.specs.ReportPlaces.{Phases, step, Leads}
use Rattle.pfs_journal.specs.ReportReadings.{IsRead}
use Rattle.pfs_journal.specs.Reports.{IsPhase}
use Rattle.pfs_journal.specs.Spelling.{phase_text}
use Rattle.pfs_journal.proofs.phases.read_phases.Given as goal

abbrev pub invariant-each_phase : goal.invariant-each_phase
invariant-each_phase l = (IsRead (flat_map phase_text l.phases.items) (All IsPhase l.phases.items) l.initial.line l.initial.lines.rest.now l.line l.lines.rest.now) × (Leads (step Phases l.initial.line) l.initial.lines.rest.now l.initial.lines.taken (step Phases l.line) l.lines.rest.now l.lines.taken)

abbrev pub decreases-each_phase : goal.decreases-each_phase
decreases-each_phase l = length l.lines.rest.now
