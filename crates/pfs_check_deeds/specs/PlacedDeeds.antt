-- The deeds of entries, each with the place of its entry.
use Rattle.std.specs.Prelude.{ℕ, ◌≡◌, ◌+◌, Bool, true, false, length, List, [], ◌∷◌, ◌++◌}
use Rattle.pfs_event.specs.declared.entry.Entry.{Entry}
use Rattle.pfs_event.specs.declared.entry.Entry.TheVariants as says
use Rattle.pfs_model.specs.EntryPlaces.{Placed}
use Rattle.pfs_check_falls.specs.declared.falls.PlacedDeed.{PlacedDeed}
use Rattle.pfs_check_deeds.specs.declared.collecting.Collecting.{Collecting}

abbrev pub one_deed : ℕ → ℕ → ℕ → ℕ → Bool → List PlacedDeed
one_deed place action row version releases = record {
  row = row;
  version = version;
  releases = releases;
  action = action;
  place = place;
} ∷ []

-- of an entry at a place, by an action
abbrev pub placed_at : ℕ → ℕ → Entry → List PlacedDeed
placed_at place action (says.Take row version) = one_deed place action row version false
placed_at place action (says.Give row version from) = one_deed place action row version false
placed_at place action (says.Tag row version) = one_deed place action row version false
placed_at place action (says.Free row version) = one_deed place action row version true
placed_at place action _ = []

-- of entries from a place on
abbrev pub placed_deeds : ℕ → List Placed → List PlacedDeed
placed_deeds at [] = []
placed_deeds at (place ∷ places) = placed_at at place.context.action place.entry ++ placed_deeds (at + 1) places

-- entries that stand with the last first, in their order
abbrev pub in_order : List Placed → List Placed
in_order [] = []
in_order (place ∷ earlier) = in_order earlier ++ place ∷ []

pub record AreDeedsOf (places : List Placed) (collecting : Collecting) : Type 0 where
  pub deeds : collecting.deeds.items ≡ placed_deeds 0 places
  pub count : collecting.count ≡ length places
