-- What sessions hold, entry by entry.
use Rattle.std.specs.Prelude.{◌≡◌, List, [], ◌∷◌}
use Rattle.pfs_model.specs.EntryPlaces.{Block, Placed, places}
use Rattle.pfs_check_contents.specs.HeldEvents.{waiting_in}

-- of all entries from here on, those before them in a list with the last first
abbrev pub AreHeldBehind : List Placed → List Placed → Type 0
AreHeldBehind earlier [] = Unit {0}
AreHeldBehind earlier (place ∷ places) =
    (place.context.waiting ≡ waiting_in earlier place.session) × AreHeldBehind (place ∷ earlier) places

abbrev pub HeldLaw : Type 0
HeldLaw = (blocks : List Block) → AreHeldBehind [] (places blocks)
