use Rattle.std.proofs.Common.{◌≡◌, ◌∙◌, ◌∷◌, [], length, sym, arith, string_bytes}
use Rattle.std.specs.Prelude.{map}
use Rattle.pfs_top.proofs.CommandWords.{two_are, load_asked}
use Rattle.pfs_top.proofs.words.load_number.Goals as goal

pub returns-then-eq : goal.returns-then-eq
returns-then-eq c =
    let two : length c.args.words.now ≡ 2 = omega arith in
    let word = c.word-item.result in
    let digits = c.digits-item.result in
    let m : map string_bytes c.args.words.now ≡ string_bytes word ∷ (string_bytes digits ∷ []) =
    two_are string_bytes c.args.words.now word digits two c.word-item.is c.digits-item.is in
    let e = rw c.as_str.ensures.value at (sym c.eq.ensures ∙ c.if-eq.true) in
    load_asked c.args.words.now word digits c.read_u64.result m e (rw c.as_bytes.ensures.value at c.read_u64.ensures)
