-- How a reader of a page takes a table apart.
use Rattle.std.specs.Prelude.{ℕ, ◌==◌, nat_eq, Bool, ◌||◌, if◌then◌else◌, List, [], ◌∷◌, ◌++◌, codes, decimal}
use Rattle.std.specs.List.{starts_with}
use Rattle.pfs_journal.specs.declared.report.PhaseParts.{PhaseParts}
use Rattle.pfs_html.specs.Escapes.{seen}

-- what stands before the first `<`, and what behind each: of `a<td>b</td>` this is `a`, and `td>b` and `/td>`
abbrev pub cut_more : ℕ → List ℕ × List (List ℕ) → List ℕ × List (List ℕ)
cut_more byte cut = if byte == 60 then ([], cut.0 ∷ cut.1) else (byte ∷ cut.0, cut.1)

abbrev pub cut : List ℕ → List ℕ × List (List ℕ)
cut [] = ([], [])
cut (byte ∷ rest) = cut_more byte (cut rest)

-- what stands behind the end of a tag
abbrev pub behind_tag : List ℕ → List ℕ
behind_tag [] = []
behind_tag (byte ∷ rest) = if byte == 62 then rest else behind_tag rest

-- a tag that begins a row, and one that begins a cell or a heading
abbrev pub is_row_tag : List ℕ → Bool
is_row_tag tag = starts_with nat_eq tag (codes "tr")

abbrev pub is_cell_tag : List ℕ → Bool
is_cell_tag tag = starts_with nat_eq tag (codes "td") || starts_with nat_eq tag (codes "th")

-- a further tag before the cells of a row that is begun, and the rows behind it
abbrev pub grouped_more : List ℕ → List (List ℕ) × List (List (List ℕ)) → List (List ℕ) × List (List (List ℕ))
grouped_more tag group =
    if is_row_tag tag then ([], group.0 ∷ group.1)
    else if is_cell_tag tag then (seen (behind_tag tag) ∷ group.0, group.1) else group

abbrev pub grouped : List (List ℕ) → List (List ℕ) × List (List (List ℕ))
grouped [] = ([], [])
grouped (tag ∷ tags) = grouped_more tag (grouped tags)

abbrev pub groups_of : List ℕ → List (List ℕ) × List (List (List ℕ))
groups_of html = grouped (cut html).1

-- the rows of a table, each as the texts of its cells; the row of the headings is one of them
abbrev pub rows_seen : List ℕ → List (List (List ℕ))
rows_seen html = (groups_of html).1

-- the texts behind the tags that begin so, in their order
abbrev pub found_more : List ℕ → List ℕ → List (List ℕ) → List (List ℕ)
found_more name tag more = if starts_with nat_eq tag name then seen (behind_tag tag) ∷ more else more

abbrev pub found : List ℕ → List (List ℕ) → List (List ℕ)
found name [] = []
found name (tag ∷ tags) = found_more name tag (found name tags)

-- the headings of the phases of a page
abbrev pub phases_seen : List ℕ → List (List ℕ)
phases_seen html = found (codes "h2>") (cut html).1

abbrev pub phase_title : PhaseParts → List ℕ
phase_title phase = codes "Phase " ++ decimal phase.number
