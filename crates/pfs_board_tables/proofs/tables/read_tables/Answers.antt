use Rattle.std.proofs.Common.{subst, sym}
use Rattle.pfs_tickets.specs.Knowledge.{IsWhole as HasAllDraws}
use Rattle.pfs_tickets.specs.declared.view.View.{View as TicketView}
use Rattle.pfs_board_tables.proofs.EndTables.{all_read}
use Rattle.pfs_board_tables.proofs.tables.read_tables.Goals as goal

pub settle-lost-requires : goal.settle-lost-requires
settle-lost-requires g c = record {
  whole =
      let h = c.in_ok-root.ensures in
      (h.whole, subst (λ (t : TicketView). HasAllDraws t) (sym h.read.kept.draws) c.settle.ensures.whole.1);
}

pub returns : goal.returns
returns g c = λ actors gathered keep.
    all_read g.N.Named.setting c.args.setting.now g.N.Named.change g.N.Shared.switches _ _ _ _ _ _ _ c.settle.ensures.settled c.settle-lost.ensures.settled
    c.last.ensures c.requires.setting c.requires.wide c.requires.whole.1 c.in_ok-root.ensures actors gathered keep
