use Rattle.std.proofs.Common.{rules}
use Rattle.pfs_event.proofs.WordLemmas.{rebuilt_is}
use Rattle.pfs_event.proofs.event.Event.of_words.Goals as goal

pub returns : goal.returns
returns c = rebuilt_is _ (search rules) (search rules)
