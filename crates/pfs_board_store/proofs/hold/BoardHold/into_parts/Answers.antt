use Rattle.pfs_board_store.proofs.LentHolds.{had_set}
use Rattle.pfs_board_store.proofs.hold.BoardHold.into_parts.Goals as goal

pub returns-clause-sets : goal.returns-clause-sets
returns-clause-sets g c = λ start calls reached had named. had_set c.args.self.lent.value calls c.args.self.writer had reached.1 named
