use Rattle.std.proofs.Common.{◌≡◌, ◌<◌, ◌+◌, ◌∷◌, List, drop, length, subst, sym, arith}
use Rattle.std.proofs.lemmas.Bool.{false≢true}
use Rattle.pfs_event.specs.declared.entry.Entry.{Entry}
use Rattle.pfs_journal.specs.Reports.{AreAnswered}
use Rattle.pfs_journal.proofs.AnswerFits.{fits_end}
use Rattle.pfs_journal.proofs.WrittenJournals.{from_there}
use Rattle.pfs_journal.proofs.checks.are_answered.Goals as goal

pub returns-in-None : goal.returns-in-None
returns-in-None c =
    let xs : List Entry = c.args.entries.now in
    let here : drop c.loop-at.at xs ≡ c.entry.result ∷ drop (c.loop-at.at + 1) xs = from_there xs c.loop-at.at c.entry.result (omega (arith, c.loop-at-test.true, c.count-at-end.ensures)) c.entry.ensures in
    let left : List Entry → Type 0 = λ es. AreAnswered es (drop c.loop-at.place c.args.answers.now) in
    (λ yes. absurd (false≢true yes), λ all. absurd (c.in-None.ensures (drop (c.loop-at.at + 1) xs) (subst left here (c.loop-at.invariant.1.0 all))))

pub loop-at-preserved : goal.loop-at-preserved
loop-at-preserved c =
    let xs : List Entry = c.args.entries.now in
    let here : drop c.loop-at.at xs ≡ c.entry.result ∷ drop (c.loop-at.at + 1) xs = from_there xs c.loop-at.at c.entry.result (omega (arith, c.loop-at-test.true, c.count-at-end.ensures)) c.entry.ensures in
    let left : List Entry → Type 0 = λ es. AreAnswered es (drop c.loop-at.place c.args.answers.now) in
    let next = c.in-Some.ensures (drop (c.loop-at.at + 1) xs) in
    (next.0, (λ all. next.1.0 (subst left here (c.loop-at.invariant.1.0 all)), λ rest. c.loop-at.invariant.1.1 (subst left (sym here) (next.1.1 rest))))

pub returns : goal.returns
returns c = fits_end c.args.entries.now c.args.answers.now c.loop-at.at c.loop-at.place (omega (arith, c.loop-at-test.false, c.count-at-end.ensures)) c.loop-at.invariant.0 c.loop-at.invariant.1
