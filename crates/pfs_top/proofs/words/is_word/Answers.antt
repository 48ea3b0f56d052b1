use Rattle.std.proofs.Common.{◌≡◌, ◌∙◌, ◌∷◌, [], length, sym, ap, arith, string_bytes}
use Rattle.std.specs.Prelude.{map}
use Rattle.pfs_top.proofs.CommandWords.{map_one, one_word}
use Rattle.pfs_top.proofs.words.is_word.Goals as goal

pub returns-in-len1 : goal.returns-in-len1
returns-in-len1 c =
    let one : length c.args.words.now ≡ 1 = omega arith in
    let word = c.word-item.result in
    let m : map string_bytes c.args.words.now ≡ string_bytes word ∷ [] = map_one string_bytes c.args.words.now word one ∙ ap (λ w. string_bytes w ∷ []) (sym c.word-item.is) in
    let e = rw c.as_str.ensures.value at c.eq.ensures in
    one_word string_bytes c.args.words.now word _ c.eq.result m e
