use Rattle.std.proofs.Common.{ℕ, List, ◌≡◌, ◌∙◌, [], ap, sym, subst}
use Rattle.std.specs.List.{All}
use Rattle.std.proofs.lemmas.Result.{on_ok_weaker}
use Rattle.pfs_outside.specs.WholeStreams.{Puts}
use Rattle.pfs_journal.specs.LineWords.{FitsLine}
use Rattle.pfs_journal.specs.ReportLines.{journal_lines}
use Rattle.pfs_journal.specs.Spelling.{journal_text}
use Rattle.pfs_journal.proofs.WrittenFits.{unanswered_fit}
use Rattle.pfs_journal.proofs.WrittenJournals.{Answers}
use Rattle.pfs_journal.proofs.EntryLines.{unanswered}
use Rattle.pfs_journal.proofs.PartReadings.{is_empty}
use Rattle.pfs_journal.proofs.writing.put_journal.Goals as goal

pub returns-then-is_empty-clause-puts : goal.returns-then-is_empty-clause-puts
returns-then-is_empty-clause-puts g c =
    let none : c.args.answers.now ≡ [] = is_empty c.args.answers.now (sym (c.if-is_empty.ensures)) in
    subst (λ (z : List ℕ). Puts (g.K.Sink.written c.args.sink.now) (g.K.Sink.written c.put_entries.new.sink) (g.K.Sink.faults c.args.sink.now) (g.K.Sink.faults c.put_entries.new.sink) z c.put_entries.result)
    (sym (ap (λ (answers : Answers). journal_text c.args.entries.now answers) none ∙ unanswered c.args.entries.now)) c.put_entries.ensures.puts

pub returns-then-is_empty-clause-fits : goal.returns-then-is_empty-clause-fits
returns-then-is_empty-clause-fits g c =
    let none : c.args.answers.now ≡ [] = is_empty c.args.answers.now (sym (c.if-is_empty.ensures)) in
    on_ok_weaker c.put_entries.result (λ a. subst (λ (answers : Answers). All FitsLine (journal_lines c.args.entries.now answers)) (sym none) (unanswered_fit c.args.entries.now a)) c.put_entries.ensures.fits
