-- How many sessions have a place, as a count over the slots.
use Rattle.std.proofs.Common.{ℕ, ◌≡◌, ◌≤◌, ◌+◌, Bool, true, false, cond, List, [], ◌∷◌, length, Option, ◌∙◌, arith}
use Rattle.std.specs.List.{count_by, fold}
use Rattle.pfs_containers.specs.declared.containers.Connection.{Connection}
use Rattle.pfs_containers.specs.Connections.{has_by}
use Rattle.pfs_containers.specs.Administration.{current}

counted_from : (which : Connection → Option ℕ) (threads : List (Option Connection)) (place n : ℕ)
    → n + current which threads place ≡ fold (λ a entry. a + cond (has_by which place entry) 1 0) n threads
counted_from which [] place n = omega arith
counted_from which (x ∷ xs) place n = omega arith ∙ (counted_from which xs place (n + cond (has_by which place x) 1 0))

pub current_is : (which : Connection → Option ℕ) (threads : List (Option Connection)) (place : ℕ)
    → current which threads place ≡ count_by (λ entry. has_by which place entry) threads
current_is which threads place = omega arith ∙ (counted_from which threads place 0)
