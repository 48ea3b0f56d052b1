use Rattle.std.proofs.Common.{◌≡◌, ◌+◌, ◌-◌, ◌<◌, ◌≤◌, set, length, refl, arith}
use Rattle.std.proofs.lemmas.Fmt.{decimal_digit}
use Rattle.std.proofs.lemmas.List.{drop-set, length-set}
use Rattle.pfs_journal.specs.Spelling.{field_text}
use Rattle.pfs_journal.specs.declared.lines.TheConstants.{FIELD}
use Rattle.pfs_journal.proofs.lines.field_before.Goals as goal

pub returns-then-number-lt10-clause-text : goal.returns-then-number-lt10-clause-text
unfolding field_text
returns-then-number-lt10-clause-text c =
    let field : FIELD ≡ 21 = refl in
    let room : 21 ≤ c.args.end = omega (arith, field, c.requires.room) in
    let once = set c.args.buffer.now (c.args.end - 1) (48 + c.args.number) in
    let last : c.args.end - 1 < length c.args.buffer.now = omega (arith, room, c.requires.within) in
    let long = length-set c.args.buffer.now (c.args.end - 1) (48 + c.args.number) in
    let before : c.args.end - 2 < length once = omega (arith, room, c.requires.within, long) in
    let next : c.args.end - 2 + 1 ≡ c.args.end - 1 = omega (arith, room) in
    let behind : c.args.end - 1 + 1 ≡ c.args.end = omega (arith, room) in
    rw (drop-set once (c.args.end - 2) 32 before, next, drop-set c.args.buffer.now (c.args.end - 1) (48 + c.args.number) last, behind, decimal_digit c.args.number c.if-number-lt10.true)
