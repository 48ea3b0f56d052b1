-- The lines behind the first phase, each read once.
use Rattle.std.specs.Prelude.{ℕ, ◌≡◌, ◌<◌, true, List, All, length, slice_get, Some, Ok}
use Rattle.std.specs.List.{list_any}
use Rattle.pfs_script.specs.declared.finds.Finds.{Finds}
use Rattle.pfs_script.specs.declared.finds.Found.TheVariants.{Before}
use Rattle.pfs_script.specs.declared.forms.Form.{Form}
use Rattle.pfs_script.specs.declared.known.KnownLine.{KnownLine}
use Rattle.pfs_script.specs.declared.known.KnownLines.{KnownLines}
use Rattle.pfs_script.specs.Forms.{form, HasItsKind}
use Rattle.pfs_script.specs.Headings.{Head, resolved}
use Rattle.pfs_script.specs.Senses.{class_in, IsFound}
use Rattle.pfs_script.specs.Sessions.{is_phase}

-- at the place stands a line that has these bytes
abbrev pub IsAt : KnownLines → List ℕ → ℕ → Type 0
IsAt known bytes place =
    (place < length known.lines.items)
    × ((line : KnownLine) → slice_get known.lines.items place ≡ Some line → line.text ≡ bytes)

-- behind these lines, what is known of a line is what its bytes say, and what names and texts stand for
pub record IsKnown (heading : Head) (finds : Finds) (before : List Form) (bytes : List ℕ) (line : KnownLine) : Type 0
  where
    pub said : form bytes ≡ Ok line.form
    pub kind : HasItsKind line.form
    pub class : line.class ≡ class_in (resolved heading) line.form
    pub found : IsFound heading.limits.digests finds line.form (Before line.number)
    pub behind : list_any is_phase before ≡ true

-- so of all lines that are known
abbrev pub AreKnown : Head → Finds → List Form → KnownLines → Type 0
AreKnown heading finds before known =
    All (λ (line : KnownLine). IsKnown heading finds before line.text line) known.lines.items
