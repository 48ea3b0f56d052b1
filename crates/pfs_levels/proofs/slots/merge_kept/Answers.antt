use Rattle.std.proofs.Common.{◌∙◌, ◌++◌, ◌∷◌, [], ap, ℕ, List}
use Rattle.pfs_levels.specs.declared.slots.Kept.{Kept}
use Rattle.pfs_levels.proofs.RowWrites.{merged_at}
use Rattle.pfs_levels.proofs.slots.merge_kept.Goals as goal

with_one : List Kept → ℕ → List ℕ → List Kept
with_one contents row words = contents ++ record { row = row; words = words } ∷ []

pub returns-in-At-clause-items : goal.returns-in-At-clause-items
returns-in-At-clause-items c = merged_at c.args.contents.now.items c.args.home c.args.row c.args.amount.now c.in-At.place c.index.result.now c.with_amount-words.result c.in-At.is c.requires.own c.index.ensures c.with_amount-words.ensures

pub returns-in-ZeroStat-clause-items : goal.returns-in-ZeroStat-clause-items
unfolding with_one
returns-in-ZeroStat-clause-items c = rw c.in-ZeroStat.is (c.keep_first.ensures.items ∙ ap (with_one c.args.contents.now.items c.args.row) c.with_amount.ensures)

pub returns-in-Zeros-clause-items : goal.returns-in-Zeros-clause-items
unfolding with_one
returns-in-Zeros-clause-items c = rw c.in-Zeros.is (c.keep_first-in-Zeros.ensures.items ∙ ap (with_one c.args.contents.now.items c.args.row) c.with_amount-in-Zeros.ensures)
