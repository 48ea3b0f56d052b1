-- A journal cut into the parts of its lines, told by places.
use Rattle.std.specs.Prelude.{ℕ, ◌≡◌, ◌-◌, ◌≤◌, true, List, [], ◌∷◌, take, drop, length, Ok, Err}
use Rattle.pfs_event.specs.declared.entry.Entry.{Entry}
use Rattle.pfs_model.specs.declared.lines.Line.{Line}
use Rattle.pfs_model.specs.Contexts.{Context, after}
use Rattle.pfs_model.specs.Cuts.{cut}
use Rattle.pfs_model.specs.EntryPlaces.{after_lines}
use Rattle.pfs_model.specs.JournalCuts.{parts_of}
use Rattle.pfs_model.specs.Shapes.{shape}
use Rattle.pfs_check_parts.specs.declared.cuts.Stop.{Stop}
use Rattle.pfs_check_parts.specs.declared.journals.Cut.{Cut}
use Rattle.pfs_check_parts.specs.declared.journals.Cut.TheVariants.{Parts, Misfit}
use Rattle.pfs_check_parts.specs.Stops.{stopped}
use Rattle.pfs_check_trail.specs.Trails.{IsTrailOf}

-- the parts that end at these places
unfoldable pub pieces : ℕ → List ℕ → List Entry → List (List Entry)
pieces start [] entries = []
pieces start (end ∷ ends) entries = take (end - start) (drop start entries) ∷ pieces end ends entries

-- Where the entries before tell this, a journal is cut into the parts of its lines, and what they tell too is kept; or
-- it has a misfit, the one of the definition.
abbrev pub IsJournalCut : Context → List Line → List Entry → Context → Cut → Type 0
IsJournalCut context lines entries trail (Parts ends) =
    (parts_of context lines entries ≡ Ok (pieces 0 ends.items entries))
    × IsTrailOf (after_lines context lines (pieces 0 ends.items entries)) trail
IsJournalCut context lines entries trail (Misfit place) =
    (place ≤ length entries) × (parts_of context lines entries ≡ Err (drop place entries))

-- a line's entries from a place on are cut off, and noted where they are whole
pub record IsLineCut (old : Context) (line : Line) (entries : List Entry) (at : ℕ) (stop : Stop) (new : Context) : Type
    0 where
  pub cut_is : cut (shape old line) (drop at entries) ≡ stopped stop entries
  pub within : stop.at ≤ length entries
  pub onward : at ≤ stop.at
  pub noted : stop.whole ≡ true → IsTrailOf (after old line (take (stop.at - at) (drop at entries))) new
