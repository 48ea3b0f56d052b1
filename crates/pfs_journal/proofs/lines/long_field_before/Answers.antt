use Rattle.std.proofs.Common.{◌≡◌, ◌+◌, ◌-◌, ◌<◌, ◌≤◌, length, refl, arith}
use Rattle.std.proofs.lemmas.Fmt.{length-decimal-le}
use Rattle.std.proofs.lemmas.List.{drop-set}
use Rattle.pfs_journal.specs.Spelling.{field_text}
use Rattle.pfs_journal.specs.declared.lines.TheConstants.{FIELD}
use Rattle.pfs_journal.proofs.lines.long_field_before.Goals as goal

pub write_digits-start-requires : goal.write_digits-start-requires
write_digits-start-requires c =
    let field : FIELD ≡ 21 = refl in
    let short = length-decimal-le 20 c.args.number (omega arith) (omega arith) (omega arith) in (omega (arith, short, field), c.requires.within)

pub overflow_sub-buffer : goal.overflow_sub-buffer
overflow_sub-buffer c =
    let field : FIELD ≡ 21 = refl in
    let short = length-decimal-le 20 c.args.number (omega arith) (omega arith) (omega arith) in omega (arith, short, field, c.write_digits-start.ensures.start)

pub overflow_sub-result : goal.overflow_sub-result
overflow_sub-result c =
    let field : FIELD ≡ 21 = refl in
    let short = length-decimal-le 20 c.args.number (omega arith) (omega arith) (omega arith) in omega (arith, short, field, c.write_digits-start.ensures.start)

pub returns-clause-text : goal.returns-clause-text
unfolding field_text
returns-clause-text c =
    let field : FIELD ≡ 21 = refl in
    let short = length-decimal-le 20 c.args.number (omega arith) (omega arith) (omega arith) in
    let w = c.write_digits-start in
    let some : 1 ≤ w.result = omega (arith, short, field, w.ensures.start) in
    let next : w.result - 1 + 1 ≡ w.result = omega arith in
    let within : w.result - 1 < length w.new.buf = omega (arith, some, w.ensures.start, c.requires.within, w.auto.buf) in
    rw (drop-set w.new.buf (w.result - 1) 32 within, next, w.ensures.written)

pub returns-clause-low : goal.returns-clause-low
returns-clause-low c =
    let field : FIELD ≡ 21 = refl in
    let short = length-decimal-le 20 c.args.number (omega arith) (omega arith) (omega arith) in omega (arith, short, field, c.write_digits-start.ensures.start)
