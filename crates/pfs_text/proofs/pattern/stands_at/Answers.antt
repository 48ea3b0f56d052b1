use Rattle.std.proofs.Common.{refl, arith}
use Rattle.std.proofs.lemmas.List.{drop_more}
use Rattle.pfs_text.proofs.pattern.stands_at.Goals as goal

pub returns-in-OneByte-clause-stands : goal.returns-in-OneByte-clause-stands
returns-in-OneByte-clause-stands c =
    let here = drop_more c.args.text.now c.args.at 0 (omega arith) in
    rw (c.in-OneByte.is, here) ((λ _. tt), (λ _. refl))
