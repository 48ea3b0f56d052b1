use Rattle.std.proofs.Common.{[], ap, arith, length}
use Rattle.pfs_classes.specs.declared.setting.Setting.{Setting}
use Rattle.pfs_test_board.proofs.QuietBlock.{connects, ends, named, ready}
use Rattle.pfs_test_board.proofs.gates.play_before_a_gate.Goals as goal

pub play_block-requires-clause-named : goal.play_block-requires-clause-named
play_block-requires-clause-named g c = named c.args.session c.requires.state c.in_ok-block.block c.in_ok-block.ensures g.P.Picked.change c.requires.changes

pub play_block-requires-clause-connects : goal.play_block-requires-clause-connects
play_block-requires-clause-connects g c =
    connects c.args.session c.requires.state c.in_ok-block.block c.in_ok-block.ensures g.P.Picked.setting (omega (arith, ap (λ (s : Setting). length s.names) c.requires.run.0, c.requires.names))

pub play_block-requires-clause-may : goal.play_block-requires-clause-may
play_block-requires-clause-may g c = ends c.args.session c.requires.state c.in_ok-block.block c.in_ok-block.ensures

pub play_block-requires-clause-ready : goal.play_block-requires-clause-ready
play_block-requires-clause-ready g c =
    ready c.args.session c.requires.state c.in_ok-block.block c.in_ok-block.ensures _ (_, [], c.split-actor.ensures.began) (omega (arith, c.split-actor.ensures.left)) (omega (arith, c.split-actor.ensures.draws)) (omega (arith, c.requires.room))
