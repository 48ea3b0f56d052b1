use Rattle.std.proofs.Common.{ap, ◌+◌}
use Rattle.pfs_script.proofs.RunningTotals.{totals_counted}
use Rattle.pfs_script.proofs.totals.Totals.count.Goals as goal

pub returns : goal.returns
returns c before knows =
    totals_counted c.args.self.now _ before c.args.line.now c.selects.result c.weight.result knows (record {
      lines = record { total = c.with.ensures.total; body = c.with.ensures.body };
      selects_are = c.selects.ensures.value;
      selected = record { total = c.with-2.ensures.total; body = c.with-2.ensures.body };
      weight_is = c.weight.ensures.value;
      weighed = record { total = c.with-3.ensures.total; body = c.with-3.ensures.body };
      phases = ap (λ n. c.args.self.now.phases + n) c.phases.ensures.value;
      classes = ap (λ n. c.args.self.now.classes + n) c.classes.ensures.value;
      more = c.more_behind.ensures;
    })
