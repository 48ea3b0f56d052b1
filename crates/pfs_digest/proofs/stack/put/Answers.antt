use Rattle.std.proofs.Common.{◌≡◌, ◌-◌, length, take, refl, sym, ap, ◌∙◌, arith}
use Rattle.pfs_digest.specs.Stack.{awaits}
use Rattle.std.proofs.Common.{reverse}
use Rattle.pfs_digest.proofs.StackSteps.{put-run}
use Rattle.pfs_digest.proofs.stack.put.Goals as goal

pub returns-in_ok-push : goal.returns-in_ok-push
returns-in_ok-push c =
    let same = c.deref.ensures.value in
    let len : c.len.result ≡ length c.args.stack.now.items = omega (arith, c.len.ensures, c.deref.ensures.len, ap length same) in
    put-run c.args.shape c.args.stack.now.items c.truncate.new.self.items c.push.new.self.items
    (omega (arith, c.if-awaits.ensures.two refl, ap length same))
    (c.truncate.ensures.items ∙ ap (λ n. take (n - 2) c.args.stack.now.items) len)
    c.in_ok-push.ensures.items
    (ap (λ ys. awaits c.args.shape (reverse ys)) (sym same) ∙ sym c.if-awaits.ensures.end)
