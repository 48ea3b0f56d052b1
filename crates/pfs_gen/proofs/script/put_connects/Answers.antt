use Rattle.std.proofs.Common.{arith, ◌+◌}
use Rattle.pfs_gen.specs.GeneratedScript.{connect_line}
use Rattle.pfs_gen.proofs.NumberLists.{text_more}
use Rattle.pfs_gen.proofs.script.put_connects.Goals as goal

pub loop-below-preserved : goal.loop-below-preserved
loop-below-preserved c =
    text_more connect_line 1 c.loop-below.below (c.loop-below.below + 1) c.args.out.now.items c.loop-below.out.items c.put_connect.new.out.items (omega arith) c.loop-below.invariant c.in-Ok.ensures
