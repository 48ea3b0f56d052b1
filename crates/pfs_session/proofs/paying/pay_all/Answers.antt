use Rattle.std.proofs.Common.{rules, None, length, ap, sym}
use Rattle.pfs_levels.proofs.FlushSteps.{stays_then, stays_as}
use Rattle.pfs_session.proofs.HeldAmounts.{enough, length_more, owed_nothing, pays_none, pays_more, pays_as}
use Rattle.pfs_session.proofs.paying.pay_all.Goals as goal

pub loop-cell-init : goal.loop-cell-init
loop-cell-init g c = record {
  pays = pays_as _ _ _ _ _ _ (sym (owed_nothing c.args.slot 0)) (pays_none c.args.log.now (g.H.Readable.seen c.args.rows.now).reached);
  stays = stays_as 0 _ _ _ _ _ (sym (ap length (owed_nothing c.args.slot 0))) (search rules);
}

pub pay_some-requires-clause-spare : goal.pay_some-requires-clause-spare
pay_some-requires-clause-spare g c =
    enough c.args.slot c.args.held.now c.loop-cell.cell (g.H.Readable.seen c.args.rows.now).left (g.H.Readable.seen c.loop-cell.rows).left None
    c.loop-cell-test.true c.requires.spare c.loop-cell.invariant.stays.left

pub pay_some-requires-clause-room : goal.pay_some-requires-clause-room
pay_some-requires-clause-room g c =
    enough c.args.slot c.args.held.now c.loop-cell.cell c.args.log.now.room c.loop-cell.log.room None
    c.loop-cell-test.true c.requires.room c.loop-cell.invariant.stays.room

pub loop-cell-preserved : goal.loop-cell-preserved
loop-cell-preserved g c = record {
  pays = pays_more c.args.slot c.args.held.now c.loop-cell.cell None _ _ _ _ _ _ c.loop-cell-test.true c.loop-cell.invariant.pays c.pay_some.ensures.pays;
  stays = stays_as _ _ _ _ _ _ (length_more c.args.slot c.args.held.now c.loop-cell.cell None c.loop-cell-test.true)
      (stays_then _ _ _ _ _ _ _ _ c.loop-cell.invariant.stays c.pay_some.ensures.stays);
}
