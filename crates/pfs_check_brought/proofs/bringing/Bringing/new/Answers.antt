use Rattle.std.proofs.Common.{refl}
use Rattle.pfs_check_brought.proofs.WalkFacts.{walk_begins}
use Rattle.pfs_check_brought.proofs.bringing.Bringing.new.Goals as goal

pub returns : goal.returns
returns c = λ given gives. walk_begins given _ gives c.new.ensures refl refl refl refl
