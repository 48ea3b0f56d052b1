use Rattle.pfs_consumers.proofs.Levels.{level_of}
use Rattle.pfs_consumers.proofs.+acts.Given as goal

abbrev pub decreases-acts : goal.decreases-acts
decreases-acts l = level_of l.c
