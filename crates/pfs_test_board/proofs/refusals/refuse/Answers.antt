use Rattle.std.proofs.Common.{◌∙◌, arith}
use Rattle.pfs_test_board.proofs.refusals.refuse.Goals as goal

pub ring_try-requires-clause-away : goal.ring_try-requires-clause-away
ring_try-requires-clause-away g c =
    c.add_try.ensures.kept.hand 8450 ∙ c.read.ensures.kept.hand 8450 ∙ c.ring_try-put.ensures.kept.hand 8450 ∙ c.add_try-added.ensures.kept.hand 8450 ∙ c.read-seen.ensures.kept.hand 8450 ∙ c.requires.idle 8450

pub returns : goal.returns
returns g c = record {
  left = omega (arith, c.read-seen.ensures.kept.left, c.add_try-added.ensures.kept.left, c.ring_try-put.ensures.kept.left, c.read.ensures.kept.left, c.add_try.ensures.kept.left, c.ring_try.ensures.kept.left);
}
