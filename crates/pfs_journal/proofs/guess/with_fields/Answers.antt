use Rattle.std.proofs.Common.{ℕ, ◌≡◌, take, subst, arith}
use Rattle.pfs_journal.specs.LineWords.{plain_says}
use Rattle.pfs_journal.proofs.guess.with_fields.Goals as goal

pub returns-in_default : goal.returns-in_default
returns-in_default c =
    let five : 5 ≡ c.args.fields.count = omega arith in
    subst (λ (n : ℕ). c.connect.result ≡ plain_says c.args.word.now (take n c.args.fields.numbers)) five c.connect.ensures
