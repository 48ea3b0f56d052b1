use Rattle.std.proofs.Common.{None, refl, sym, subst}
use Rattle.pfs_journal.specs.declared.line.Line.{Line}
use Rattle.pfs_journal.specs.ReportPlaces.{Start, step, StopsAfter}
use Rattle.pfs_journal.proofs.FirstWrongLine.{first_wrong}
use Rattle.pfs_journal.proofs.ReaderStops.{passed, bad_at, bad_of, along, start_wrong}
use Rattle.pfs_journal.proofs.phases.read.Goals as goal

pub returns-in_err-format-clause-wrong : goal.returns-in_err-format-clause-wrong
returns-in_err-format-clause-wrong c =
    passed c.from_residual.result c.in_err-format.field-0.0 _ _ c.from_residual.ensures
    (λ at told. first_wrong c.args.bytes.now at c.next.ensures.size (told Start (λ same. absurd (cc same)))) c.in_err-format.ensures.stops

pub returns-in-Head-clause-wrong : goal.returns-in-Head-clause-wrong
returns-in-Head-clause-wrong c =
    bad_of c.read_report.result _ _
    (λ at told. first_wrong c.args.bytes.now at c.next.ensures.size (c.in_ok-format.ensures.leads Start at (subst (λ (line : Line). StopsAfter (step Start line) c.next.new.lines.rest.now c.next.new.lines.taken at) (sym c.in-Head.is) told)))
    c.read_report.ensures.stops

pub returns-clause-wrong : goal.returns-clause-wrong
returns-clause-wrong c =
    bad_at c.last_is_wrong.result c.next.new.lines.taken _ c.last_is_wrong.ensures
    (first_wrong c.args.bytes.now c.next.new.lines.taken c.next.ensures.size (c.in_ok-format.ensures.leads Start c.next.new.lines.taken
    (along (step Start c.in_ok-format.field-0) None c.next.new.lines.rest.now c.next.new.lines.taken c.next.new.lines.taken (start_wrong c.in_ok-format.field-0 (λ x same. c.in_default.not-Head x same)) refl)))
