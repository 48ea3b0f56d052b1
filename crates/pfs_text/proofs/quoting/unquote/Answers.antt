use Rattle.std.proofs.Common.{◌+◌, arith}
use Rattle.pfs_text.proofs.QuoteEnds.{plain_at, plain_past, scanned_double, scanned_end, scanned_first, scanned_more, scanned_past}
use Rattle.pfs_text.proofs.quoting.unquote.Goals as goal
use Rattle.pfs_text.proofs.quoting.unquote.Goals.{else-at-bytes-via-then-at-bytes+else-bytes-at-eq39, else-at-bytes-via-else-at-bytes}

pub loop-at-init : goal.loop-at-init
loop-at-init c = scanned_first c.args.bytes.now (grind arith) (grind arith)

pub loop-at-preserved-then-bytes-at-ne39 : goal.loop-at-preserved-then-bytes-at-ne39
loop-at-preserved-then-bytes-at-ne39 c = scanned_more c.args.bytes.now c.loop-at.at c.loop-at.invariant c.loop-at-test.true c.if-bytes-at-ne39.true

pub loop-at-preserved : goal.loop-at-preserved
loop-at-preserved c = scanned_double c.args.bytes.now c.loop-at.at c.loop-at.invariant c.if-at-bytes.true c.if-bytes-at-ne39.false c.if-bytes-at-eq39.true

-- this quote closes the text
pub returns-else-at-bytes : goal.returns-else-at-bytes
returns-else-at-bytes c =
    let ends = scanned_end c.args.bytes.now c.loop-at.at c.loop-at.invariant c.loop-at-test.true c.if-bytes-at-ne39.false in
    elim c.else-at-bytes.branch [
      | else-at-bytes-via-then-at-bytes+else-bytes-at-eq39 w ↦ ends (plain_at c.args.bytes.now (c.loop-at.at + 1) w.if-at-bytes.true w.if-bytes-at-eq39.false)
      | else-at-bytes-via-else-at-bytes w ↦ ends (plain_past c.args.bytes.now (c.loop-at.at + 1) w.if-at-bytes.false)
    ]

pub returns : goal.returns
returns c = scanned_past c.args.bytes.now c.loop-at.at c.loop-at.invariant c.loop-at-test.false
