use Rattle.std.proofs.Common.{append_assoc}
use Rattle.std.proofs.lemmas.Fmt.{decimal_digit}
use Rattle.pfs_journal.specs.Spelling.{field_text}
use Rattle.pfs_journal.proofs.lines.put_field.Goals as goal

pub returns-in_ok-push-2 : goal.returns-in_ok-push-2
unfolding field_text
returns-in_ok-push-2 c = rw (c.in_ok-push-2.ensures.items, c.in_ok-push.ensures.items, append_assoc, decimal_digit c.args.number c.if-number-lt10.true)
