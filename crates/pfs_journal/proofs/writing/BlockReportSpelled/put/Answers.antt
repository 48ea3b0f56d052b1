use Rattle.std.proofs.Common.{subst}
use Rattle.std.proofs.lemmas.List.Elements.{All-cons}
use Rattle.std.specs.List.{All}
use Rattle.std.proofs.lemmas.Result.{on_ok_weaker}
use Rattle.pfs_journal.specs.LineWords.{FitsLine}
use Rattle.pfs_journal.specs.ReportLines.{journal_lines}
use Rattle.pfs_journal.proofs.writing.BlockReportSpelled.put.Goals as goal

pub returns-clause-fits : goal.returns-clause-fits
returns-clause-fits g c =
    on_ok_weaker c.put_journal.result (λ rest. All-cons FitsLine _ _ c.put_session_line.ensures.fits (subst (λ answers. All FitsLine (journal_lines c.args.self.now.entries answers)) c.as_slice.ensures rest)) c.put_journal.ensures.fits
