use Rattle.std.proofs.Common.{sym, subst}
use Rattle.pfs_check_reached.specs.ReachedChanges.{AreOpen, AreSound}
use Rattle.pfs_check_reached.specs.declared.reached.Reached.{Reached}
use Rattle.pfs_check_reached.proofs.WalkFacts.{open_made, sound_more}
use Rattle.pfs_check_reached.proofs.reaching.Walk.make.Goals as goal

pub returns : goal.returns
returns c = λ changes place there new_is walked. record {
  sound = subst (λ (z : Reached). AreSound changes z.kept) (sym c.in_ok-wake.ensures.reached)
      (sound_more changes c.args.self.now.reached.kept c.keep.new.self.kept c.args.one.now place c.args.words c.in_ok-keep.ensures there new_is walked.sound);
  opened = subst (λ (z : Reached). AreOpen changes z.kept c.wake.new.self.waiting.kept c.wake.new.self.ready.items) (sym c.in_ok-wake.ensures.reached)
      (open_made changes c.args.self.now.reached.kept c.keep.new.self.kept c.args.one.now place c.args.words c.in_ok-keep.ensures there new_is
      c.args.self.now.waiting.kept c.wake.new.self.waiting.kept c.args.self.now.ready.items c.wake.new.self.ready.items c.in_ok-wake.ensures.ready
      c.in_ok-wake.ensures.others walked.opened);
}
