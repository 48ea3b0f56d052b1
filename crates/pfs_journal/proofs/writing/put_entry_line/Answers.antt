use Rattle.std.proofs.Common.{ℕ, List, ◌≡◌, ◌∙◌, subst, length, refl, rules, arith}
use Rattle.pfs_outside.specs.WholeStreams.{Puts}
use Rattle.pfs_journal.specs.Spelling.{entry_text}
use Rattle.pfs_journal.proofs.EntryLines.{alone, to_the_end}
use Rattle.pfs_journal.proofs.writing.put_entry_line.Goals as goal

pub returns-clause-puts : goal.returns-clause-puts
returns-clause-puts g c =
    let line = c.entry_before-start in
    let whole : length c.args.buffer.now ≡ 124 = search (rules, c.told-buffer) in
    let long : length line.new.buffer ≡ 124 = omega (arith, whole, line.auto.buffer) in
    subst (λ (z : List ℕ). Puts (g.K.Sink.written c.args.sink.now) (g.K.Sink.written c.write_all.new.sink) (g.K.Sink.faults c.args.sink.now) (g.K.Sink.faults c.write_all.new.sink) z c.write_all.result)
    (to_the_end line.new.buffer line.result 124 long ∙ (line.ensures.text ∙ alone (entry_text c.args.entry.now) c.args.buffer.now 124 (omega (arith, whole)))) c.write_all.ensures.puts
