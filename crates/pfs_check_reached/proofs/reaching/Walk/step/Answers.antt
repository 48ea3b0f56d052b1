use Rattle.pfs_check_reached.proofs.WalkFacts.{open_none, past_all}
use Rattle.pfs_check_reached.proofs.reaching.Walk.step.Goals as goal

pub returns-in-None : goal.returns-in-None
returns-in-None c = λ walked. record {
  sound = walked.sound;
  opened = open_none c.args.changes.now c.args.self.now.reached.kept c.args.self.now.waiting.kept c.args.self.now.ready.items c.args.place
      (past_all c.args.changes.now c.args.place c.in-None.ensures.lookup.3) walked.opened;
}
