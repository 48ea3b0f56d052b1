use Rattle.std.proofs.Common.{◌≡◌, ℕ, ap, ◌∙◌, length, get_or, None, List, Option, arith}
use Rattle.std.proofs.lemmas.List.{length-replicate, get_or-replicate}
use Rattle.pfs_summaries.proofs.ContentSteps.{contents_more, contents_none}
use Rattle.pfs_summaries.proofs.contents.contents_of.Goals as goal

pub loop-reading-init : goal.loop-reading-init
loop-reading-init c =
    contents_none c.args.first c.args.count c.in_ok-contents.contents.items (ap length c.in_ok-contents.ensures ∙ length-replicate c.args.count None)
    (λ i h. ap (λ (xs : List (Option (List ℕ))). get_or xs i None) c.in_ok-contents.ensures ∙ get_or-replicate c.args.count i None None h)

pub loop-reading-preserved : goal.loop-reading-preserved
loop-reading-preserved c =
    let long : c.loop-reading.contents.len ≡ length c.loop-reading.contents.items = omega (arith, c.loop-reading.contents.ok) in
    contents_more c.args.first c.args.count c.args.readings.now c.loop-reading.reading-index _ c.loop-reading.contents.items c.deref_mut.result.now c.put_reading.new.contents c.loop-reading.contents.len
    c.loop-reading-test.true c.loop-reading.invariant c.deref_mut.ensures.value c.put_reading.ensures c.put_reading.auto.contents long
