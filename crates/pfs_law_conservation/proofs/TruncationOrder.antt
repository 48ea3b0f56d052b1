-- No truncation takes a row twice, and the rows that it releases or writes ascend.
use Rattle.std.proofs.Common.{ℕ, Bool, map}
use Rattle.pfs_admin.specs.Fold.{state_of}
use Rattle.pfs_admin.specs.FoldLaws.{row_of}
use Rattle.pfs_admin.specs.AdministrationStates.{State}
use Rattle.pfs_admin.specs.Truncations.{is_there, kept_behind, truncation_signs}
use Rattle.pfs_containers.specs.Administration.{Containers}
use Rattle.pfs_levels.specs.declared.places.Level.{Level}
use Rattle.pfs_levels.specs.declared.places.Level.TheVariants.{Thread}
use Rattle.pfs_law_plain.proofs.CellKinds.{fold_kinds}
use Rattle.pfs_law_plain.proofs.TruncationRows.{events_ascend, infos_ascend, takes_once}
use Rattle.pfs_rows.specs.declared.truncations.Truncation.{Truncation}
use Rattle.pfs_rows.specs.declared.truncations.Truncation.TheVariants.{Events, Summary, DigestSummary, Accounts, Users, Hosts, SetupActors, SetupObjects}
use Rattle.pfs_law_conservation.specs.TruncationLaws.{OrderLaw, SignsAscend}

signs : (was : Level → ℕ → Bool) (after : Containers) (what : Truncation) → SignsAscend what (map row_of (truncation_signs was after what))
signs was after (Events kind table) = events_ascend (is_there after.places Thread) kind table
signs was after (Summary kind table) = infos_ascend was after (Summary kind table)
signs was after DigestSummary = infos_ascend was after DigestSummary
signs was after Accounts = infos_ascend was after Accounts
signs was after Users = infos_ascend was after Users
signs was after Hosts = infos_ascend was after Hosts
signs was after SetupActors = infos_ascend was after SetupActors
signs was after SetupObjects = infos_ascend was after SetupObjects

pub order_law : OrderLaw
order_law setting change labels what =
    let s : State = state_of setting change labels in
    (takes_once s.kinds s.kept.now.places what (fold_kinds setting change labels), signs (is_there s.kept.now.places) (kept_behind s.kept what).now what)
