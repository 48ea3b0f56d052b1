use Rattle.std.proofs.Common.{subst, List, ℕ}
use Rattle.memchr.specs.Find.{FindsNeedle}
use Rattle.pfs_text.proofs.Literals.{begins_at}
use Rattle.pfs_text.proofs.pattern.next_place.Goals as goal

pub returns : goal.returns
returns c =
    begins_at c.args.pattern.now c.args.text.now c.find.result (subst (λ (needle : List ℕ). FindsNeedle c.args.text.now needle 0 c.find.result) c.literal_front.ensures c.find.ensures)
