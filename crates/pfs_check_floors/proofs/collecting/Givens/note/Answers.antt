use Rattle.std.specs.Option.{option_to_list}
use Rattle.pfs_check_floors.proofs.CollectFacts.{action_more, phase_more}
use Rattle.pfs_check_floors.proofs.collecting.Givens.note.Goals as goal

pub returns : goal.returns
returns c = λ given places place phase action change before. record {
  phases = phase_more given places place c.args.phase (option_to_list c.args.change) c.args.self.now.by_phase.items _ phase change
      c.in_ok-push_given.ensures before.phases;
  actions = action_more given places place c.args.action (option_to_list c.args.change) c.args.self.now.by_action.items _ action change
      c.in_ok-push_acted.ensures before.actions;
}
