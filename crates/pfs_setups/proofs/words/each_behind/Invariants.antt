use Rattle.std.proofs.Common.{◌≡◌, fold, take}
use Rattle.pfs_setups.specs.Updates.{consumer_step}
use Rattle.pfs_setups.proofs.words.each_behind.Given as goal

abbrev pub invariant-loop-consumer : goal.invariant-loop-consumer
invariant-loop-consumer l = l.flags.0 ≡ fold (consumer_step l.tests l.on l.before) l.before (take l.consumer-index l.consumers)
