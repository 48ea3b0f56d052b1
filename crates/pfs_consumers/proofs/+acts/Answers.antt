use Rattle.std.proofs.Common.{rules, ◌≡◌, Some}
use Rattle.std.specs.Prelude.{IsTrue}
use Rattle.pfs_consumers.specs.Tree.{is_on, parent_of}
use Rattle.pfs_consumers.proofs.Levels.{Acts-below, Acts-above}
use Rattle.pfs_consumers.proofs.+acts.Goals as goal

pub returns-in-Some-clause-all_above : goal.returns-in-Some-clause-all_above
returns-in-Some-clause-all_above t c =
    let up : parent_of c.args.c ≡ Some c.in-Some.above = search rules in
    let own : IsTrue (is_on c.args.flags.0 c.args.c) = search rules in (
      λ b. Acts-below c.args.flags.0 c.args.c c.in-Some.above up own (c.acts.ensures.all_above.0 b),
      λ acts. c.acts.ensures.all_above.1 (Acts-above c.args.flags.0 c.args.c c.in-Some.above up acts),
    )
