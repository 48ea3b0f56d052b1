-- A store of which no row is in hand.
use Rattle.std.proofs.Common.{◌≡◌, refl, ℕ, zero, suc, Bool, false, List, replicate, ◌∙◌, ap, None}
use Rattle.pfs_check_blank.specs.BlankStores.{hand_at}

none_in_hand : (n row : ℕ) → hand_at (replicate n false) row ≡ None
none_in_hand zero zero = refl
none_in_hand zero (suc row) = refl
none_in_hand (suc n) zero = refl
none_in_hand (suc n) (suc row) = none_in_hand n row

pub free_at : (taken : List Bool) (n row : ℕ) → taken ≡ replicate n false → hand_at taken row ≡ None
free_at taken n row same = ap (λ z. hand_at z row) same ∙ none_in_hand n row
