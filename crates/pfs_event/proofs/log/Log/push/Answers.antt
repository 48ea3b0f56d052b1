use Rattle.std.proofs.Common.{◌≡◌, ◌<◌, ◌+◌, ◌-◌, ◌≤◌, length, sym, subst, arith}
use Rattle.std.specs.List.{All}
use Rattle.pfs_event.proofs.Logs.{short_among}
use Rattle.pfs_event.specs.PackedEntries.{IsAmong}
use Rattle.pfs_event.proofs.log.Log.push.Goals as goal

pub invariant_of-self : goal.invariant_of-self
invariant_of-self c = (
  omega (arith, c.self.invariant.0, c.push_reserved.ensures.len, c.push_reserved.ensures.capacity),
  omega (arith, c.self.invariant.1),
  subst (All (IsAmong (length c.self.inside.others.items))) (sym c.push_reserved.ensures.items)
      (short_among (length c.self.inside.others.items) c.self.inside.shorts.items c.in-Some.short c.args.entry c.in-Some.ensures c.self.invariant.2),
)
