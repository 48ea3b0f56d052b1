-- What is kept of all entries, to tell the causes of lines.
use Rattle.std.specs.Prelude.{◌≡◌, List}
use Rattle.pfs_check_floors.specs.KeyedGivens.{by_phase}
use Rattle.pfs_check_tops.specs.SortedTops.{AreTopsOf}
use Rattle.pfs_model.specs.Chains.{release_of}
use Rattle.pfs_model.specs.EntryPlaces.{Placed}
use Rattle.pfs_check_causes.specs.declared.causes.CauseGivens.{CauseGivens}
use Rattle.pfs_check_causes.specs.declared.causes.Causes.{Causes}
use Rattle.pfs_check_causes.specs.OwnVersions.{AreOwn}
use Rattle.pfs_check_causes.specs.TicketPuts.{ArePuts}

-- as it is collected
pub record AreNoted (places : List Placed) (givens : CauseGivens) : Type 0 where
  pub own : AreOwn places givens.own
  pub free : givens.free.releases.items ≡ by_phase release_of places
  pub puts : ArePuts places givens.puts

pub record AreCauses (all : List Placed) (causes : Causes) : Type 0 where
  pub own : AreOwn all causes.own
  pub free : AreTopsOf causes.free.releases (by_phase release_of all)
  pub puts : ArePuts all causes.puts
