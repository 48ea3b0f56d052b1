use Rattle.std.proofs.Common.{refl, ◌≡◌, ◌<◌, ◌≤◌, ◌+◌, ◌^◌, List, Option, Some, length, ap, sym, ◌∙◌, subst, arith}
use Rattle.std.specs.Prelude.{IfSome, option_map}
use Rattle.pfs_levels.specs.Calls.{known_version, with_set}
use Rattle.pfs_levels.specs.declared.answers.Word.{Word}
use Rattle.pfs_switches.specs.declared.switches.Writer.{Writer}
use Rattle.pfs_switches.specs.declared.view.View.{View}
use Rattle.pfs_board_store.specs.WriterWords.{words_of}
use Rattle.pfs_board_store.proofs.WriterWords.{known_word, word_was_set}
use Rattle.pfs_board_store.proofs.hold.BoardHoldHold.set.Goals as goal

pub set_word-requires-clause-early : goal.set_word-requires-clause-early
set_word-requires-clause-early g c = let is = c.in-Some.is in let v = c.in-Some.writer.view in
    let early : (known_version (Some (words_of v)) c.args.word) + 1 < 2 ^ 48 = subst (λ (z : Option Writer). known_version (option_map (λ w. words_of w.view) z) c.args.word + 1 < 2 ^ 48) is c.requires.early in
    omega (arith, early, known_word c.args.word v c.requires.known)

pub returns-clause-next : goal.returns-clause-next
returns-clause-next g c = let is = c.in-Some.is in let v = c.in-Some.writer.view in
    subst (λ (z : Option Writer). c.set_word.result ≡ known_version (option_map (λ w. words_of w.view) z) c.args.word + 1) (sym is)
    (c.set_word.ensures.next ∙ ap (λ n. n + 1) (sym (known_word c.args.word v c.requires.known)))

pub returns-clause-kept : goal.returns-clause-kept
returns-clause-kept g c = let is = c.in-Some.is in let v = c.in-Some.writer.view in let k = c.set_word.result in
    let wide : 160 ≤ length v.seen = subst (λ (z : Option Writer). IfSome z (λ w. 160 ≤ length w.view.seen)) is c.args.self.now.wide in
    let words : Some (words_of c.set_word.new.writer.view) ≡ with_set (option_map (λ w. words_of w.view) c.args.self.now.writer) c.args.word k c.args.flags =
    subst (λ (z : Option Writer). Some (words_of c.set_word.new.writer.view) ≡ with_set (option_map (λ w. words_of w.view) z) c.args.word k c.args.flags) (sym is)
    (ap (λ (w : View). Some (words_of w)) c.set_word.ensures.writer.1 ∙ ap (λ (ws : List Word). Some ws) (word_was_set c.args.word k c.args.flags v c.requires.known (omega (arith, wide, c.requires.known)))) in
    record {
      left = c.set_word.ensures.kept.left;
      draws = c.set_word.ensures.kept.draws;
      hand = c.set_word.ensures.kept.hand;
      words = words;
      name = refl;
    }
