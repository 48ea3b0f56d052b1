use Rattle.std.proofs.Common.{arith, sym, ap, ◌∙◌, ◌+◌, ◌++◌, ◌∷◌, [], nat_lt, length}
use Rattle.pfs_script.proofs.ReaderCounts.{few_count}
use Rattle.pfs_script.proofs.KnownLines.{known_more, known_new, known_kept, next_says, next_unsaid, says_fault}
use Rattle.pfs_script.proofs.reading.read_new.Goals as goal

pub bad-requires : goal.bad-requires
bad-requires c = omega (arith, few_count c.args.reader.now c.requires.0 c.requires.1)

pub returns-in-Err : goal.returns-in-Err
returns-in-Err c before b k = rw c.bad.ensures (ap (λ n. n + 1) b.count, next_unsaid before c.args.bytes.now c.in-Err.reason (sym c.in-Err.ensures.form))

pub returns-in-Err-take : goal.returns-in-Err-take
returns-in-Err-take c before b k =
    says_fault c.take.new.self c.take.new.self c.args.known.now before c.args.bytes.now c.in-Ok.form c.in-Err-take.fault (sym c.in-Ok.ensures.form) (c.in-Err-take.ensures before b)

pub returns-in_ok-keep : goal.returns-in_ok-keep
returns-in_ok-keep c before b k =
    let old = c.args.reader.now in
    let new = c.take.new.self in
    let line = c.in-Ok.form in
    let said = sym c.in-Ok.ensures.form in
    let took = c.in-Ok-take.ensures before b in
    let more = known_more old new before line b took.1 c.args.known.now took.0 k in
    let own = known_new old new before line b took.1 c.args.bytes.now c.new.result c.class_of-class.result c.in-Ok-take.number took.0 said c.in-Ok.ensures.kind c.class_of-class.ensures c.is_some.result (nat_lt (length c.args.known.now.lines.items) 4096) (sym c.wants.ensures ∙ c.if-wants.true) took.2 c.new.ensures in
    (line, next_says before c.args.bytes.now line said took.0, took.1, known_kept new (before ++ line ∷ []) c.args.known.now c.keep.new.self _ c.in_ok-keep.ensures more own)

pub returns-else-wants : goal.returns-else-wants
returns-else-wants c before b k =
    let old = c.args.reader.now in
    let line = c.in-Ok.form in
    let took = c.in-Ok-take.ensures before b in
    (line, next_says before c.args.bytes.now line (sym c.in-Ok.ensures.form) took.0, took.1, known_more old c.take.new.self before line b took.1 c.args.known.now took.0 k)
