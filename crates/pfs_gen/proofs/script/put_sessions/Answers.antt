use Rattle.std.proofs.Common.{◌+◌, sym, append-nil, arith}
use Rattle.pfs_gen.specs.GeneratedScript.{session_text}
use Rattle.pfs_gen.proofs.Draws.{state_first}
use Rattle.pfs_gen.proofs.NumberLists.{text_more}
use Rattle.pfs_gen.proofs.script.put_sessions.Goals as goal

pub loop-below-init : goal.loop-below-init
loop-below-init c = (sym (append-nil c.args.out.now.items), state_first c.args.number)

pub loop-below-preserved : goal.loop-below-preserved
loop-below-preserved c = (
  text_more (session_text c.args.number) 1 c.loop-below.below (c.loop-below.below + 1) c.args.out.now.items c.loop-below.out.items c.put_session.new.out.items (omega arith) c.loop-below.invariant.0 (c.in-Ok.ensures.text c.args.number c.loop-below.invariant.1),
  c.in-Ok.ensures.next c.args.number c.loop-below.invariant.1,
)
