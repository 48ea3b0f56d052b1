use Rattle.std.proofs.Common.{sym, ◌∙◌}
use Rattle.pfs_model.specs.EntryAsks.{digest_row}
use Rattle.pfs_model.specs.Puts.{Adds}
use Rattle.pfs_model.specs.SetupFlags.{is_digested}
use Rattle.pfs_check_brought.proofs.DueFacts.{where_asked, where_not}
use Rattle.pfs_check_brought.proofs.ends.digest_due.Goals as goal

pub returns-then-is_digested : goal.returns-then-is_digested
returns-then-is_digested c = λ flags slot gives.
    where_asked Adds (is_digested flags slot c.args.event.now) c.digest_row.result (digest_row c.args.event.now.subject.digest)
    (sym (c.is_digested.ensures flags slot gives) ∙ c.if-is_digested.true) c.digest_row.ensures

pub returns : goal.returns
returns c = λ flags slot gives.
    where_not (Adds (digest_row c.args.event.now.subject.digest)) (is_digested flags slot c.args.event.now)
    (sym (c.is_digested.ensures flags slot gives) ∙ c.if-is_digested.false)
