use Rattle.std.proofs.Common.{◌≡◌, ◌-◌, length, take, reverse, refl, sym, ap, ◌∙◌, arith}
use Rattle.pfs_digest.specs.Stack.{brackets}
use Rattle.std.proofs.lemmas.Result.{on_ok_weaker}
use Rattle.pfs_digest.proofs.StackSteps.{close-brackets}
use Rattle.pfs_digest.proofs.stack.close.Goals as goal

pub returns-in-Some : goal.returns-in-Some
returns-in-Some c =
    let same = c.deref.ensures.value in
    let len : c.len.result ≡ length c.args.stack.now.items = omega (arith, c.len.ensures, c.deref.ensures.len, ap length same) in
    on_ok_weaker c.put.result
    (close-brackets c.in-Some.shape c.args.stack.now.items c.truncate.new.self.items c.put.new.stack.items
    (omega (arith, c.in-Some.ensures.two refl, ap length same))
    (c.truncate.ensures.items ∙ ap (λ n. take (n - 2) c.args.stack.now.items) len)
    (ap (λ ys. brackets (reverse ys)) (sym same) ∙ sym c.in-Some.ensures.shape))
    c.put.ensures
