-- The versions that rows had by a phase's end.
use Rattle.std.proofs.Common.{◌≡◌, refl, ℕ, zero, suc, Bool, true, false, cond, nat_le, List, [], ◌∷◌, ◌++◌, ◌⊎◌, inl, inr, arith, Some}
use Rattle.std.specs.Prelude.{slice_get}
use Rattle.pfs_model.specs.declared.changes.Change.{Change}
use Rattle.pfs_model.specs.Actions.{IsAmong}
use Rattle.pfs_model.specs.Chains.{change_at, each_of, row_change}
use Rattle.pfs_model.specs.EntryPlaces.{Placed, up_to_phase}
use Rattle.pfs_model.proofs.Members.{among_back, among_either, among_front}
use Rattle.pfs_check_contents.proofs.PickedPlaces.{at_among}
use Rattle.pfs_law_orderly.specs.HadVersions.{HadLaw}
use Rattle.pfs_law_orderly.proofs.RowChains.{chain_there}

within_all : (phase : ℕ) (ps : List Placed) (c : Change) → IsAmong c (each_of row_change (up_to_phase phase ps)) → IsAmong c (each_of row_change ps)
within_all phase [] c i = absurd i
within_all phase (p ∷ ps) c i = at (nat_le p.phase phase) i (within_all phase ps c) where
  at : (b : Bool) → IsAmong c (each_of row_change (cond b (p ∷ []) [] ++ up_to_phase phase ps))
      → (IsAmong c (each_of row_change (up_to_phase phase ps)) → IsAmong c (each_of row_change ps)) → IsAmong c (row_change p.entry ++ each_of row_change ps)
  at true j rest = on (among_either c (row_change p.entry) (each_of row_change (up_to_phase phase ps)) j) where
    on : IsAmong c (row_change p.entry) ⊎ IsAmong c (each_of row_change (up_to_phase phase ps)) → IsAmong c (row_change p.entry ++ each_of row_change ps)
    on (inl k) = among_front c (row_change p.entry) (each_of row_change ps) k
    on (inr k) = among_back c (row_change p.entry) (each_of row_change ps) (rest k)
  at false j rest = among_back c (row_change p.entry) (each_of row_change ps) (rest j)

pub had : HadLaw
had all phase row zero chained l = inl refl
had all phase row (suc version) chained l =
    let h : (i : ℕ) × (slice_get (each_of row_change (up_to_phase phase all)) i ≡ Some (change_at row (suc version))) =
    chain_there (each_of row_change (up_to_phase phase all)) (chained phase) (change_at row (suc version)) (omega arith) l in
    inr (within_all phase all (change_at row (suc version))
    (at_among (each_of row_change (up_to_phase phase all)) h.0 (change_at row (suc version)) h.1))
