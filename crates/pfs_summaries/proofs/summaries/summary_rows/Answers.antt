use Rattle.std.proofs.Common.{sym, ◌∙◌}
use Rattle.pfs_summaries.proofs.SameRows.{shown_at}
use Rattle.pfs_summaries.proofs.summaries.summary_rows.Goals as goal

pub returns : goal.returns
returns c =
    shown_at c.args.setting.now c.args.kind c.args.which c.args.readings.now c.in_ok-infos.infos.items c.deref.result.now c.deref-2.result.now c.in_ok-tallies.tallies.items c.deref-3.result.now c.in_ok-rows.rows.items c.new-2.result
    (sym c.is_hidden.ensures ∙ c.if-is_hidden.false) c.in_ok-infos.ensures c.deref.ensures.value c.in_ok-tallies.ensures c.deref-2.ensures.value c.deref-3.ensures.value c.in_ok-rows.ensures c.new-2.ensures
