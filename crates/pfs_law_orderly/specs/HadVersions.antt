-- The versions that rows had by a phase's end.
use Rattle.std.specs.Prelude.{ℕ, ◌≤◌, List}
use Rattle.pfs_model.specs.Chains.{AreChained, each_of, is_of, row_change, times}
use Rattle.pfs_model.specs.EntryPlaces.{Placed, up_to_phase}
use Rattle.pfs_check_contents.specs.KeptContents.{IsHad}

abbrev pub HadLaw : Type 0
HadLaw = (all : List Placed) (phase row version : ℕ) → AreChained row_change all
    → version ≤ times (is_of row) (each_of row_change (up_to_phase phase all)) → IsHad all row version
