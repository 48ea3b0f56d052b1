use Rattle.std.proofs.Common.{◌<◌, length, arith}
use Rattle.pfs_journal.proofs.WrittenFits.{entries_more, entries_all}
use Rattle.pfs_journal.proofs.WrittenJournals.{from_there}
use Rattle.pfs_journal.proofs.EntryLines.{leaving_more, leaving_stop, leaving_none}
use Rattle.pfs_journal.proofs.writing.put_entries.Goals as goal

pub loop-at-preserved : goal.loop-at-preserved
loop-at-preserved g c =
    let entries = c.args.entries.now in
    let within : c.loop-at.at < length entries = omega (arith, c.loop-at-test.true, c.count-at-end.ensures) in (
      leaving_more _ _ _ _ _ _ entries c.loop-at.at c.entry.result within (from_there entries c.loop-at.at c.entry.result within c.entry.ensures) c.loop-at.invariant.0 c.in-Ok.ensures.puts,
      entries_more entries c.loop-at.at c.entry.result within c.entry.ensures c.put_entry_line.ensures.fits c.loop-at.invariant.1,
    )

pub returns-in-Err-clause-puts : goal.returns-in-Err-clause-puts
returns-in-Err-clause-puts g c =
    let entries = c.args.entries.now in
    let within : c.loop-at.at < length entries = omega (arith, c.loop-at-test.true, c.count-at-end.ensures) in
    leaving_stop _ _ _ _ _ _ entries c.loop-at.at c.entry.result c.in-Err.stop (from_there entries c.loop-at.at c.entry.result within c.entry.ensures) c.loop-at.invariant.0 c.in-Err.ensures.puts

pub returns-clause-puts : goal.returns-clause-puts
returns-clause-puts g c = leaving_none _ _ _ _ c.args.entries.now c.loop-at.at (omega (arith, c.loop-at-test.false, c.count-at-end.ensures)) c.loop-at.invariant.0

pub returns-clause-fits : goal.returns-clause-fits
returns-clause-fits g c = entries_all c.args.entries.now c.loop-at.at (omega (arith, c.loop-at-test.false, c.count-at-end.ensures)) c.loop-at.invariant.1
