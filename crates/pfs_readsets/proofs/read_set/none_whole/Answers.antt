use Rattle.std.proofs.Common.{◌≡◌, ℕ, zero, suc, false, refl, replicate, slice_index_or}
use Rattle.pfs_readsets.proofs.read_set.none_whole.Goals as goal

all_false : (n row : ℕ) → slice_index_or (replicate n false) row false ≡ false
all_false zero row = refl
all_false (suc n) zero = refl
all_false (suc n) (suc row) = all_false n row

pub returns-clause-none : goal.returns-clause-none
returns-clause-none c = λ row. all_false 129 row
