use Rattle.std.proofs.Common.{◌≡◌, Some, IfOk, ap, sym, subst, ◌∙◌}
use Rattle.pfs_journal.specs.declared.line.Line.{Line}
use Rattle.pfs_journal.specs.SingleLines.{line_text, IsLine}
use Rattle.pfs_journal.proofs.LineReadings.{line_front}
use Rattle.pfs_journal.proofs.reading.read_line.Goals as goal

pub returns-in-Some-clause-taken : goal.returns-in-Some-clause-taken
returns-in-Some-clause-taken c = λ line good fits same.
    let told = rw c.in-Some.is at (c.in_ok-says.ensures line good fits (line_front c.args.line.now line same)) in
    let is : c.in-Some.says ≡ line = cc told in
    let kept = c.keep_spelled.ensures.kept (subst (λ (l : Line). IsLine l) (sym is) good) (same ∙ ap line_text (sym is)) in
    subst (λ (l : Line). IfOk c.keep_spelled.result (λ found. found ≡ Some l)) is kept

pub returns-in-None-clause-taken : goal.returns-in-None-clause-taken
returns-in-None-clause-taken c = λ line good fits same. rw c.in-None.is at (c.in_ok-says.ensures line good fits (line_front c.args.line.now line same))
