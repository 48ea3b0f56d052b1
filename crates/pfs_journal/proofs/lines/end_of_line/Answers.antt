use Rattle.std.proofs.Common.{◌≡◌, ◌+◌, ◌-◌, ◌<◌, length, arith}
use Rattle.std.proofs.lemmas.List.{drop-set}
use Rattle.pfs_journal.proofs.lines.end_of_line.Goals as goal

pub returns-clause-text : goal.returns-clause-text
returns-clause-text c =
    let within : c.args.end - 1 < length c.args.buffer.now = omega (arith, c.requires.room, c.requires.within) in
    let next : c.args.end - 1 + 1 ≡ c.args.end = omega (arith, c.requires.room) in
    rw (drop-set c.args.buffer.now (c.args.end - 1) 10 within, next)
