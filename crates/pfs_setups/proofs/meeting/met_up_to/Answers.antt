use Rattle.std.proofs.Common.{ℕ, Bool, ◌≡◌, ◌∙◌, ◌+◌, cond, count_by, sym, ap, arith}
use Rattle.std.specs.List.{range_with_len}
use Rattle.pfs_setups.specs.SetupRows.{is_met, is_word_met, word_values}
use Rattle.pfs_setups.proofs.LoopRows.{counts}
use Rattle.pfs_setups.proofs.meeting.met_up_to.Goals as goal

pub loop-word-preserved : goal.loop-word-preserved
loop-word-preserved c =
    let test = is_word_met c.args.names.now c.args.containers.now.now.places.threads c.args.table c.args.tests.now c.args.flags.now in
    let at : ℕ → Bool = λ flags. is_met c.args.tests.now (word_values c.args.names.now c.args.containers.now.now.places.threads c.args.table c.loop-word.word flags) in
    let met : c.word_meets-counts.result ≡ test c.loop-word.word = c.word_meets-counts.ensures ∙ ap at c.flags_at.ensures in
    let one : c.one_if-met.result ≡ cond (test c.loop-word.word) 1 0 = c.one_if-met.ensures.number ∙ ap (λ b. cond b 1 0) met in (
      ap (λ n. n + c.one_if-met.result) c.loop-word.invariant.0 ∙ (ap (λ n. count_by test (range_with_len 0 c.loop-word.word) + n) one ∙ sym (counts test c.loop-word.word)),
      omega (arith, c.loop-word.invariant.1, c.one_if-met.ensures.few),
    )
