use Rattle.pfs_board_store.proofs.hold.BoardHoldHold.free.Goals as goal

pub returns-clause-call : goal.returns-clause-call
returns-clause-call g c = λ version held start calls reached. (c.free_row.ensures.call version held start calls reached.0, reached.1)
