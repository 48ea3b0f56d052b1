use Rattle.std.proofs.Common.{◌≡◌, false, replicate, ap, Some}
use Rattle.pfs_check_blank.proofs.OpenStores.{free_at}
use Rattle.pfs_check_blank.proofs.blank.Blank.open.Goals as goal

pub returns : goal.returns
returns c =
    let free : c.in_ok-taken.taken.items ≡ replicate 14242 false = c.in_ok-taken.ensures.items_if_clones_equal (λ y same. same) in
    record {
      alone = λ row above. free_at c.in_ok-taken.taken.items 14242 row free;
      lent = ap Some c.in_ok-words.ensures;
    }
