use Rattle.std.proofs.Common.{◌+◌, [], ◌∷◌, ◌++◌, get_or, sym, subst, arith}
use Rattle.std.proofs.lemmas.Option.{slice_get-get_or}
use Rattle.pfs_check_tops.proofs.TopRanks.{RankedSoFar, rank_more, ranked}
use Rattle.pfs_check_tops.proofs.tops.rank.Goals as goal

pub loop-given-preserved : goal.loop-given-preserved
loop-given-preserved c = rw c.in_ok-push.ensures.items
    (subst (λ z. RankedSoFar c.args.givens.now (c.loop-given.tops.items ++ z ∷ []) z (c.loop-given.given-index + 1)) (sym c.next_top-last.ensures)
    (rank_more c.args.givens.now c.loop-given.tops.items c.loop-given.last c.loop-given.given-index
    (get_or c.args.givens.now c.loop-given.given-index (record { row = 0; at = 0; version = 0 })) c.requires
    (slice_get-get_or c.args.givens.now c.loop-given.given-index (record { row = 0; at = 0; version = 0 }) c.loop-given-test.true)
    c.loop-given.invariant))

pub returns : goal.returns
returns c =
    ranked c.args.givens.now c.loop-given.tops.items c.loop-given.last c.loop-given.given-index c.requires c.loop-given-test.false
    (omega (arith, c.loop-given.auto.given-index-end)) c.loop-given.invariant
