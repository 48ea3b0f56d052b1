use Rattle.std.proofs.Common.{◌<◌, length, arith}
use Rattle.pfs_journal.proofs.WrittenFits.{rests_more, rests_none}
use Rattle.pfs_journal.proofs.WrittenJournals.{from_there, leaves_more, leaves_stop, leaves_none}
use Rattle.pfs_journal.proofs.writing.put_answered.Goals as goal

pub loop-at-preserved : goal.loop-at-preserved
loop-at-preserved g c =
    let within : c.loop-at.at < length c.args.entries.now = omega (arith, c.loop-at-test.true, c.count-at-end.ensures) in (
      leaves_more _ _ _ _ _ _ c.args.entries.now c.args.answers.now c.loop-at.at c.loop-at.place c.entry-said.result within (from_there c.args.entries.now c.loop-at.at c.entry-said.result within c.entry-said.ensures)
          c.loop-at.invariant.0 c.in-Ok.ensures.puts c.place_behind-place.result c.place_behind-place.ensures,
      rests_more c.args.entries.now c.args.answers.now c.loop-at.at c.loop-at.place c.entry-said.result within c.entry-said.ensures c.in-Ok.ensures.fits c.loop-at.invariant.1 c.place_behind-place.result c.place_behind-place.ensures,
    )

pub returns-in-Err-clause-puts : goal.returns-in-Err-clause-puts
returns-in-Err-clause-puts g c =
    let within : c.loop-at.at < length c.args.entries.now = omega (arith, c.loop-at-test.true, c.count-at-end.ensures) in
    leaves_stop _ _ _ _ _ _ c.args.entries.now c.args.answers.now c.loop-at.at c.loop-at.place c.entry-said.result c.in-Err.stop within (from_there c.args.entries.now c.loop-at.at c.entry-said.result within c.entry-said.ensures)
    c.loop-at.invariant.0 c.in-Err.ensures.puts

pub returns-clause-puts : goal.returns-clause-puts
returns-clause-puts g c = leaves_none _ _ _ _ c.args.entries.now c.args.answers.now c.loop-at.at c.loop-at.place (omega (arith, c.loop-at-test.false, c.count-at-end.ensures)) c.loop-at.invariant.0

pub returns-clause-fits : goal.returns-clause-fits
returns-clause-fits g c = rests_none c.args.entries.now c.args.answers.now c.loop-at.at c.loop-at.place (omega (arith, c.loop-at-test.false, c.count-at-end.ensures)) c.loop-at.invariant.1
