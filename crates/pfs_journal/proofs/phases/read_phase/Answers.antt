use Rattle.pfs_journal.proofs.PhaseReadings.{phase_answered, phase_shorter}
use Rattle.pfs_journal.proofs.phases.read_phase.Goals as goal

pub returns-in-Final-clause-read : goal.returns-in-Final-clause-read
returns-in-Final-clause-read c =
    phase_answered c.end_phase.result c.args.number c.in_ok-blocks.blocks c.args.lines.now.rest.now c.next.new.lines.rest.now c.read_blocks.new.lines.rest.now c.end_phase.new.lines.rest.now c.in_ok-first.first c.in_ok-blocks.line c.in_ok-first.ensures.taken c.in_ok-blocks.ensures.read c.in-Final.is c.end_phase.ensures.ends

pub returns-in-Final-clause-shorter : goal.returns-in-Final-clause-shorter
returns-in-Final-clause-shorter c =
    phase_shorter c.end_phase.result c.args.number c.in_ok-blocks.blocks c.args.lines.now.rest.now c.next.new.lines.rest.now c.read_blocks.new.lines.rest.now c.end_phase.new.lines.rest.now c.in_ok-first.first c.in_ok-blocks.line c.in_ok-first.ensures.taken c.in_ok-blocks.ensures.read c.end_phase.ensures.ends
