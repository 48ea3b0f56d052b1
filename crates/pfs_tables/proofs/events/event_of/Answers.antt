use Rattle.std.proofs.Common.{rules}
use Rattle.pfs_tables.proofs.EventWords.{event_matches}
use Rattle.pfs_tables.proofs.events.event_of.Goals as goal

pub returns : goal.returns
returns c = event_matches c.args.words.now (search rules) _ c.of_words.ensures
