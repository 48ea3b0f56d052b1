use Rattle.pfs_text.specs.Likes.{is_like}
use Rattle.pfs_text.specs.Patterns.{IsLike}
use Rattle.pfs_text.proofs.LikeLemmas.{like_tells, same_test}
use Rattle.pfs_text.proofs.pattern.like.Goals as goal

pub returns-clause-test : goal.returns-clause-test
returns-clause-test c =
    same_test c.like_by_steps.result (is_like c.args.pattern.now c.args.text.now) (IsLike c.args.pattern.now c.args.text.now) c.like_by_steps.ensures (like_tells c.args.pattern.now c.args.text.now)
