use Rattle.std.proofs.Common.{◌≡◌, ◌∷◌, ◌+◌, ◌<◌, drop, length, refl, arith}
use Rattle.pfs_text.specs.Patterns.{parts_of}
use Rattle.pfs_text.specs.declared.pattern.Part.TheVariants.{AnyBytes}
use Rattle.pfs_text.proofs.Scans.{any_moves, byte_moves, stuck_at_end}
use Rattle.pfs_text.proofs.pattern.next_step.Goals as goal

-- the pattern is at its end and the text isn't
pub later_start-requires-clause-stuck : goal.later_start-requires-clause-stuck
later_start-requires-clause-stuck c =
    let within : c.args.scan.start + c.args.scan.passed < length c.args.text.now = omega (arith, c.requires.in_text) in
    let ended = c.in_default.ensures.part in
    stuck_at_end c.args.pattern.now c.args.text.now c.args.scan.place (c.args.scan.start + c.args.scan.passed) ended within

pub returns-in-AnyBytes : goal.returns-in-AnyBytes
returns-in-AnyBytes c =
    let found = c.in-Some.ensures in
    let is : parts_of (drop c.args.scan.place c.args.pattern.now) ≡ AnyBytes ∷ parts_of (drop c.in-Some.after c.args.pattern.now) = rw c.in-AnyBytes.is at found.part in
    any_moves c.args.pattern.now c.args.text.now c.args.scan c.in-Some.after c.requires found.none found.inside is

pub returns-then-stands_at : goal.returns-then-stands_at
returns-then-stands_at c =
    let found = c.in-Some.ensures in
    byte_moves c.args.pattern.now c.args.text.now c.args.scan c.in-Some.part c.in-Some.after c.requires found.none found.inside c.if-stands_at.ensures.inside (c.if-stands_at.ensures.stands.0 refl) found.part
