-- How a cut is told by places.
use Rattle.std.specs.Prelude.{Bool, false, if◌then◌else◌, List, [], ◌∷◌, drop, Result, Ok, Err}
use Rattle.pfs_event.specs.declared.entry.Entry.{Entry}
use Rattle.pfs_check_parts.specs.declared.cuts.Stop.{Stop}
use Rattle.pfs_model.specs.declared.shapes.Ask.{Ask}
use Rattle.pfs_model.specs.EntryAsks.{fits}

-- what is left behind a shape, or from the first entry on that doesn't fit
abbrev pub stopped : Stop → List Entry → Result (List Entry) (List Entry)
stopped stop entries = if stop.whole then Ok (drop stop.at entries) else Err (drop stop.at entries)

-- there is an entry, and it is what is asked
abbrev pub fits_first : Ask → List Entry → Bool
fits_first ask [] = false
fits_first ask (entry ∷ entries) = fits ask entry
