use Rattle.std.proofs.Common.{arith, ◌++◌, ◌∷◌, []}
use Rattle.pfs_script.proofs.ReaderCounts.{push_count}
use Rattle.pfs_script.proofs.FaultlessLines.{passes}
use Rattle.pfs_script.proofs.WrittenLengths.{length_counted}
use Rattle.pfs_script.proofs.places.Place.pass.Goals as goal

pub returns : goal.returns
returns c before knows none =
    let line = c.args.line.now in
    let p = passes before line none in
    let totals = knows.totals.knows p.place p.long p.much in
    record {
      front = c.pass.ensures before knows.front;
      course = c.pass-2.ensures before (omega (arith, push_count before line, length_counted (before ++ line ∷ []), totals.lines.total, totals.few_lines)) knows.course p.number p.session p.nesting;
      totals = totals;
    }
