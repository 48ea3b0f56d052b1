use Rattle.pfs_levels.specs.RowWords.{merged}
use Rattle.pfs_levels.specs.RowHeads.{words_at}
use Rattle.pfs_levels.proofs.RowWrites.{merged_in, published_kept}
use Rattle.pfs_levels.proofs.slots.Slots.merge.Goals as goal

pub invariant_of-self : goal.invariant_of-self
invariant_of-self c = rw (c.published.ensures, c.merge_kept-place.ensures.items, c.merge_kept-place.ensures.place, c.merge_kept-place.ensures.capacity)
    (published_kept c.self.inside.heads.items c.self.inside.contents.items _ c.args.at c.index-head.result.now (merged (words_at c.self.inside.contents.items c.index-head.result.now.home) c.args.amount.now) c.requires.known c.index-head.ensures c.self.invariant)

pub returns : goal.returns
returns c = rw (c.published.ensures, c.merge_kept-place.ensures.items, c.merge_kept-place.ensures.place)
    (merged_in c.args.self.now c.self.inside.heads.items c.self.inside.contents.items _ c.args.at c.index-head.result.now c.args.amount.now c.self.view_is c.requires.known c.index-head.ensures c.self.invariant)
