use Rattle.std.proofs.Common.{◌∙◌, refl}
use Rattle.pfs_switches.proofs.ReadySeats.{ready_view, writing_view}
use Rattle.pfs_switches.proofs.Seats.{gathers}
use Rattle.pfs_switches.proofs.both.gather.Goals as goal

pub join_seat-requires : goal.join_seat-requires
join_seat-requires c = let s = c.into_seat-both.ensures in let o = c.into_seat.ensures in
    let rv = ready_view c.args.badge.table_id c.args.badge.views c.args.badge.views c.into_seat-both.result.me.0 s.2 refl c.requires.seat in
    let rw_ = writing_view c.args.pen.table_id c.args.pen.views c.args.pen.views c.into_seat.result.me.0 o.2 refl c.requires.writer in (
      s.0 ∙ c.requires.tables.0,
      o.0 ∙ c.requires.tables.1,
      o.3,
      c.requires.tables.2,
      gathers _ c.args.top.now.key.items c.into_seat-both.result.id c.into_seat-both.result.me.0 c.into_seat.result.id c.into_seat.result.me.0 rv.live rw_.live rw_.writes rw_.stands,
    )
