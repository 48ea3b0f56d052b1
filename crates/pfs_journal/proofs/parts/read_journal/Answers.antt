use Rattle.std.proofs.Common.{rules}
use Rattle.pfs_journal.proofs.JournalReadings.{journal_none, journal_more}
use Rattle.std.proofs.Common.{sym, subst}
use Rattle.pfs_journal.specs.declared.line.Line.{Line}
use Rattle.pfs_journal.specs.ReportPlaces.{Journal, Blocks, step, StopsAfter}
use Rattle.pfs_journal.proofs.ReaderStops.{passed, along, journal_end}
use Rattle.pfs_journal.proofs.parts.read_journal.Goals as goal

pub entries-init : goal.entries-init
entries-init c = (rw (c.new-entries.ensures, c.new-answers.ensures.items) (journal_none c.args.first c.args.lines.now.rest.now (search rules) c.requires), λ at stop. stop)

pub entries-preserved : goal.entries-preserved
entries-preserved c = (
  journal_more c.entries.entries.entries c.take_entry.new.entries.entries c.entries.answers.items c.take_entry.new.answers.items c.in-Entry.entry c.args.first c.args.lines.now.rest.now c.entries.lines.rest.now c.entries.line c.in_ok-line-in-Entry.line c.take_entry.new.lines.rest.now c.in-Entry.is c.entries.invariant.0 c.in_ok-line-in-Entry.ensures.grows,
  λ at stop. c.entries.invariant.1 at (subst (λ (line : Line). StopsAfter (step (Journal 0) line) c.entries.lines.rest.now c.entries.lines.taken at) (sym c.in-Entry.is) (c.in_ok-line-in-Entry.ensures.leads at stop)),
)

pub returns-in_err-line-in-Entry-clause-stops : goal.returns-in_err-line-in-Entry-clause-stops
returns-in_err-line-in-Entry-clause-stops c = passed c.from_residual.result c.in_err-line-in-Entry.field-0.0 _ _ c.from_residual.ensures
    (λ at told. c.entries.invariant.1 at (subst (λ (line : Line). StopsAfter (step (Journal 0) line) c.entries.lines.rest.now c.entries.lines.taken at) (sym c.in-Entry.is) told)) c.in_err-line-in-Entry.ensures.stops

pub returns-in_default-clause-leads : goal.returns-in_default-clause-leads
returns-in_default-clause-leads c = λ at stop. c.entries.invariant.1 at (along (step (Journal 0) c.entries.line) (step Blocks c.entries.line) c.entries.lines.rest.now c.entries.lines.taken at (journal_end c.entries.line (λ x same. c.in_default.not-Entry x same)) stop)
