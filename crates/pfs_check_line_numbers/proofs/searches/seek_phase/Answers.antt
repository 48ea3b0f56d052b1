use Rattle.pfs_check_line_numbers.proofs.EntryNumbers.{phase_found, phase_passed}
use Rattle.pfs_check_line_numbers.proofs.searches.seek_phase.Goals as goal

pub returns-in-On-clause-found : goal.returns-in-On-clause-found
returns-in-On-clause-found c = phase_found c.args.search c.in_ok-first.first c.in-On.line c.args.phase.now c.as_slice-blocks.result.now c.in_ok-first.ensures
    c.as_slice-blocks.ensures (rw c.in-On.is at c.in_ok-found.ensures.found)

pub returns-in_ok-end-in-Behind-clause-found : goal.returns-in_ok-end-in-Behind-clause-found
returns-in_ok-end-in-Behind-clause-found c = phase_passed c.args.search c.in-Behind.rest c.in_ok-first.first c.in_ok-end-in-Behind.end c.args.phase.now
    c.as_slice-blocks.result.now c.in_ok-first.ensures c.as_slice-blocks.ensures (rw c.in-Behind.is at c.in_ok-found.ensures.found)
    c.in_ok-end-in-Behind.ensures
