use Rattle.pfs_check_reached.proofs.WalkFacts.{open_waits}
use Rattle.pfs_check_reached.proofs.reaching.Walk.wait.Goals as goal

pub returns : goal.returns
returns c = λ changes one there needs untold walked. record {
  sound = walked.sound;
  opened = open_waits changes c.args.self.now.reached.kept c.args.self.now.waiting.kept c.push.new.self.kept c.args.self.now.ready.items c.args.place one c.args.key
      there needs untold c.in_ok-push.ensures walked.opened;
}
