use Rattle.std.proofs.Common.{sym}
use Rattle.pfs_script.proofs.FirstLines.{split_found, rest_shorter, split_missing}
use Rattle.pfs_script.proofs.reading.split_line.Goals as goal

pub returns-in-Some : goal.returns-in-Some
returns-in-Some c =
    let e = sym c.in-Some.ensures in
    (split_found _ c.args.bytes.now c.in-Some.at e, rest_shorter _ c.args.bytes.now c.in-Some.at e)

pub returns-in-None : goal.returns-in-None
returns-in-None c = split_missing _ c.args.bytes.now (sym c.in-None.ensures)
