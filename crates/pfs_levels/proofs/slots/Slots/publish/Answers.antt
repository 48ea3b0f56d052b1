use Rattle.pfs_levels.proofs.RowWrites.{published, published_kept}
use Rattle.pfs_levels.proofs.slots.Slots.publish.Goals as goal

pub invariant_of-self : goal.invariant_of-self
invariant_of-self c = rw (c.published.ensures, c.keep-place.ensures.items, c.keep-place.ensures.place, c.keep-place.ensures.capacity)
    (published_kept c.self.inside.heads.items c.self.inside.contents.items _ c.args.at c.index-head.result.now c.args.content.now c.requires.known c.index-head.ensures c.self.invariant)

pub returns : goal.returns
returns c = rw (c.published.ensures, c.keep-place.ensures.items, c.keep-place.ensures.place)
    (published c.args.self.now c.self.inside.heads.items c.self.inside.contents.items _ c.args.at c.index-head.result.now c.args.content.now c.self.view_is c.requires.known c.index-head.ensures c.self.invariant)
