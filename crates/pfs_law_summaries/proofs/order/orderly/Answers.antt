use Rattle.pfs_law_summaries.proofs.order.orderly.Goals as goal

pub returns : goal.returns
returns c text setting phases report script run = record {
  actions = c.actions.ensures setting phases report run;
  first = c.first.ensures text setting phases report script run;
  last = c.last.ensures text setting phases report script run;
  closed = c.closed.ensures setting phases report run;
  small = c.small.ensures text setting phases report script run;
  texted = c.texted.ensures text setting phases report script run;
}
