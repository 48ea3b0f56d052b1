use Rattle.std.proofs.Common.{List, ap, sym, ◌∙◌}
use Rattle.std.specs.Prelude.{slice_get}
use Rattle.pfs_script.specs.declared.known.KnownLine.{KnownLine}
use Rattle.pfs_script.proofs.KnownLines.{known_more, known_is, known_same, next_says, says_fault}
use Rattle.pfs_script.proofs.reading.read_line.Goals as goal

pub returns-in-Ok : goal.returns-in-Ok
returns-in-Ok c before b k =
    let old = c.args.reader.now in
    let line = c.line-line.result.now.form in
    let place = c.in-Some.place in
    let stands = ap (λ (lines : List KnownLine). slice_get lines place) (sym c.find.ensures.lines) ∙ c.line-line.ensures in
    let known = known_is old.heading old.finds before c.args.known.now c.args.bytes.now place c.line-line.result.now c.in-Some.ensures.place stands k in
    let took = c.in-Ok.ensures before b in
    let more = known_more old c.take.new.self before line b took.1 c.args.known.now took.0 k in
    (line, next_says before c.args.bytes.now line known.said took.0, took.1, known_same _ _ _ c.args.known.now c.find.new.self c.find.ensures.lines more)

pub returns-in-Err : goal.returns-in-Err
returns-in-Err c before b k =
    let old = c.args.reader.now in
    let place = c.in-Some.place in
    let stands = ap (λ (lines : List KnownLine). slice_get lines place) (sym c.find.ensures.lines) ∙ c.line-line.ensures in
    let known = known_is old.heading old.finds before c.args.known.now c.args.bytes.now place c.line-line.result.now c.in-Some.ensures.place stands k in
    says_fault c.take.new.self c.take.new.self c.find.new.self before c.args.bytes.now c.line-line.result.now.form c.in-Err.fault known.said (c.in-Err.ensures before b)

pub returns : goal.returns
returns c before b k = c.read_new.ensures before b (known_same _ _ _ c.args.known.now c.find.new.self c.find.ensures.lines k)
