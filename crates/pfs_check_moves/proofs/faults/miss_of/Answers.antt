use Rattle.std.proofs.Common.{◌≡◌, false, ◌∙◌, subst, unwrap_or}
use Rattle.pfs_check_orders.specs.ActionOrders.{entries_in}
use Rattle.pfs_check_moves.specs.DueMoves.{IsFirstMiss, due_of}
use Rattle.pfs_check_moves.specs.FoundTakes.{counted_by, counted_in}
use Rattle.pfs_check_moves.proofs.faults.miss_of.Goals as goal

pub returns : goal.returns
returns c = λ within.
    let same : counted_in c.in_ok-found.found ≡ counted_by c.args.shelf.now c.args.printed.now =
    λ i row. unwrap_or (c.in_ok-found.ensures row i) false in
    subst (λ z. IsFirstMiss c.args.shelf.now z (due_of z (entries_in c.args.entries.now.entries c.args.order)) c.args.printed.now c.first_miss.result) same
    (subst (λ z. IsFirstMiss c.args.shelf.now (counted_in c.in_ok-found.found) z c.args.printed.now c.first_miss.result)
    (c.as_slice.ensures.value ∙ c.in_ok-due.ensures within) c.first_miss.ensures)
