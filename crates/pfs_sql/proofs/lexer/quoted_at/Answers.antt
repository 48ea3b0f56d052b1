use Rattle.std.proofs.Common.{arith, sym}
use Rattle.pfs_sql.proofs.QuotedTexts.{quoted_more, quoted_all}
use Rattle.pfs_sql.specs.TextCuts.{inside_of}
use Rattle.pfs_sql.proofs.lexer.quoted_at.Goals as goal

pub bytes-preserved : goal.bytes-preserved
bytes-preserved c = record {
  same = rw c.in_ok-push-in-Some.ensures.items (quoted_more c.bytes.text.items c.bytes.rest.now c.in-Some.byte c.in-Some.more.now (inside_of c.args.bytes.now) c.bytes.invariant.same (sym c.in-Some.ensures.read));
  within = omega (arith, c.in-Some.ensures.shorter);
}

pub returns-in-None-clause-read : goal.returns-in-None-clause-read
returns-in-None-clause-read c =
    rw (quoted_all c.bytes.text.items c.bytes.rest.now c.args.bytes.now c.bytes.invariant.same (sym c.in-None.ensures.read)) c.closed_at.ensures.read
