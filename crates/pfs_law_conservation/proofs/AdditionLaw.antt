-- Where the lines of a kind are acted, each event of the kind is added once.
use Rattle.pfs_law_conservation.specs.ConservationLaws.{ActedLaw, AddedLaw}
use Rattle.pfs_law_conservation.proofs.QuitTakes.{quits_above}
use Rattle.pfs_law_conservation.proofs.HomeRows.{AreNone}
use Rattle.pfs_law_conservation.proofs.HomeAdditions.{are_added}
use Rattle.pfs_law_conservation.proofs.SlotMoves.{AreBack, AreFound}

pub added_law : AreBack → AreFound → AreNone → ActedLaw → AddedLaw
added_law back found none acted run kind phase kept orderly few =
    are_added back found none run kind phase kept orderly (acted run kind phase kept) (quits_above back found none run kind phase kept orderly (acted run kind phase kept)) few
