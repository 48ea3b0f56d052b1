use Rattle.std.proofs.Common.{◌<◌, ◌≤◌, ◌^◌, get_or, length, arith}
use Rattle.std.specs.Str.Parse.{digits_value}
use Rattle.pfs_text.proofs.Digits.{reads_all, reads_too_large}
use Rattle.pfs_text.proofs.numbers.read_u64.Goals as goal

-- the digits so far with this one are over the limit, and further digits make no number smaller
pub returns-in_err-number : goal.returns-in_err-number
returns-in_err-number c =
    let digit = c.if-not-is_ascii_digit.ensures.cases in
    let low : 48 ≤ get_or c.args.text.now c.loop-byte.byte-index 0 = omega arith in
    let high : get_or c.args.text.now c.loop-byte.byte-index 0 < 58 = omega arith in
    let least = reads_too_large c.args.text.now c.loop-byte.byte-index c.loop-byte.number c.loop-byte-test.true low high c.loop-byte.invariant.0 in
    rw c.from_residual.ensures (λ p. c.in_err-number.ensures (let below = p.1 in omega (arith, least)))

-- every byte was read
pub returns : goal.returns
returns c =
    let all = reads_all c.args.text.now c.loop-byte.byte-index c.loop-byte.number c.loop-byte-test.false c.loop-byte.invariant.0 in
    let some : 0 < length c.args.text.now = grind arith in
    let fits : digits_value 10 c.args.text.now < 2 ^ 64 = omega (arith, all.1) in
    (((some, all.0), fits), all.1)
