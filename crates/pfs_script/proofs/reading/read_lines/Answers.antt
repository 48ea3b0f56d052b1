use Rattle.std.proofs.Common.{◌≡◌, ◌∙◌, ◌++◌, ◌∷◌, [], ◌<◌, length, sym, arith}
use Rattle.std.proofs.lemmas.Bool.Decides.{nat_tests}
use Rattle.pfs_script.proofs.ReaderCounts.{few_count}
use Rattle.pfs_script.proofs.FirstLines.{some_parts}
use Rattle.pfs_script.proofs.PassSteps.{says_line, next_bad, says_all, says_undone, says_open}
use Rattle.pfs_script.proofs.reading.read_lines.Goals as goal

pub bad-requires : goal.bad-requires
bad-requires c = omega (arith, few_count c.loop-line.reader c.loop-line.invariant.0 c.loop-line.invariant.2)

pub bad-requires-then-is_in_repeat : goal.bad-requires-then-is_in_repeat
bad-requires-then-is_in_repeat c = omega (arith, few_count c.loop-line.reader c.loop-line.invariant.0 c.loop-line.invariant.2)

pub returns-in-Err : goal.returns-in-Err
returns-in-Err c =
    let v = c.loop-line.invariant in
    let i = rw c.in-Some.ensures.0 at v.1 in
    next_bad c.args.bytes.now c.read_line.new.reader c.read_line.new.known v.0 c.in-Some.line.now _ c.in-Err.fault (some_parts _ c.in-Some.after.now)
    (c.in-Err.ensures v.0 v.2 v.3) i

pub loop-line-preserved : goal.loop-line-preserved
loop-line-preserved c =
    let v = c.loop-line.invariant in
    let i = rw c.in-Some.ensures.0 at v.1 in
    let says = c.in-Ok.ensures v.0 v.2 v.3 in
    let more = says_line v.0 c.in-Some.line.now _ says.0 (some_parts _ c.in-Some.after.now) says.1 in
    (v.0 ++ says.0 ∷ [], sym more ∙ i, says.2, says.3)

pub returns-then-not-is_empty : goal.returns-then-not-is_empty
returns-then-not-is_empty c =
    let v = c.loop-line.invariant in
    let i = rw c.in_default.ensures at v.1 in
    let some : 0 < length c.loop-line.rest.now = grind (arith, nat_tests, c.if-not-is_empty.ensures) in
    rw (c.bad.ensures, c.open_reason.ensures) (sym i ∙ says_open v.0 c.loop-line.rest.now _ (omega (arith, v.2.count)) some)

pub returns-then-is_in_repeat : goal.returns-then-is_in_repeat
returns-then-is_in_repeat c =
    let v = c.loop-line.invariant in
    let i = rw c.in_default.ensures at v.1 in
    let none : length c.loop-line.rest.now ≡ 0 = grind (arith, nat_tests, c.if-not-is_empty.ensures) in
    let undone = c.if-is_in_repeat.ensures v.0 v.2.place.course in
    rw c.bad-then-is_in_repeat.ensures (sym i ∙ says_undone v.0 c.loop-line.rest.now _ (omega (arith, v.2.count)) none (sym undone))

pub returns : goal.returns
returns c =
    let v = c.loop-line.invariant in
    let i = rw c.in_default.ensures at v.1 in
    let none : length c.loop-line.rest.now ≡ 0 = grind (arith, nat_tests, c.if-not-is_empty.ensures) in
    let done = c.if-is_in_repeat.ensures v.0 v.2.place.course in
    (v.0, sym i ∙ says_all v.0 c.loop-line.rest.now none (sym done), v.2)
