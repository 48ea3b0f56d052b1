-- A table of a page, read again.
use Rattle.std.proofs.Common.{ℕ, ◌≡◌, Bool, true, false, List, [], ◌∷◌, ◌++◌, length, map, refl, ap, ◌∙◌, append_assoc, append-nil, arith}
use Rattle.std.specs.Prelude.{◌==◌, if◌then◌else◌, codes}
use Rattle.std.specs.List.{flat_map, list_all}
use Rattle.std.proofs.lemmas.Bool.{and_parts}
use Rattle.std.proofs.lemmas.List.Concat.{flat_map-cons}
use Rattle.pfs_text.specs.declared.values.RowValue.{RowValue}
use Rattle.pfs_view.specs.ColumnHeadings.{heading_text}
use Rattle.pfs_view.specs.Grids.{cell_text, is_right}
use Rattle.pfs_view.specs.declared.columns.Headings.{Headings}
use Rattle.pfs_view.specs.declared.columns.Times.TheVariants.{Units}
use Rattle.pfs_html.specs.Cells.{cell_html, cell_tag, heading_html, headings_html, places_below, row_cells_html, row_html}
use Rattle.pfs_html.specs.Escapes.{escaped, is_plain, seen}
use Rattle.pfs_html.specs.Readings.{cut, cut_more, grouped, groups_of, rows_seen}
use Rattle.pfs_html.specs.Tables.{all_places, head_html, rows_html, sheet_html, table_html}
use Rattle.pfs_html.proofs.EscapeLaws.{all_plain, all_seen}

-- a row that is begun, and the rows behind it
abbrev Group : Type 0
Group = List (List ℕ) × List (List (List ℕ))

no_opening : (byte : ℕ) → is_plain byte ≡ true → (byte == 60) ≡ false
no_opening byte plain = grind arith

-- a text with no `<` before something
pub cut_plain : (text rest : List ℕ) → list_all is_plain text ≡ true → cut (text ++ rest) ≡ (text ++ (cut rest).0, (cut rest).1)
cut_plain [] rest plain = refl
cut_plain (byte ∷ text) rest plain =
    let both = and_parts (is_plain byte) (list_all is_plain text) plain in
    ap (cut_more byte) (cut_plain text rest both.1)
    ∙ ap (λ (opens : Bool). if opens then ([], (text ++ (cut rest).0) ∷ (cut rest).1) else (byte ∷ (text ++ (cut rest).0), (cut rest).1)) (no_opening byte both.0)

-- an escaped text before a tag
cut_text : (text rest : List ℕ) → cut (escaped text ++ 60 ∷ rest) ≡ (escaped text, (cut rest).0 ∷ (cut rest).1)
cut_text text rest = cut_plain (escaped text) (60 ∷ rest) (all_plain text) ∙ ap (λ (z : List ℕ). (z, (cut rest).0 ∷ (cut rest).1)) (append-nil (escaped text))

-- a cell that is begun by one of the tags
begun : (right : Bool) (text rest : List ℕ) → groups_of (cell_tag right ++ (escaped text ++ 60 ∷ rest)) ≡ (seen (escaped text) ∷ (grouped ((cut rest).0 ∷ (cut rest).1)).0, (grouped ((cut rest).0 ∷ (cut rest).1)).1)
begun true text rest = ap (λ (c : List ℕ × List (List ℕ)). grouped ((codes "td class=\"n\">" ++ c.0) ∷ c.1)) (cut_text text rest)
begun false text rest = ap (λ (c : List ℕ × List (List ℕ)). grouped ((codes "td>" ++ c.0) ∷ c.1)) (cut_text text rest)

seen_first : (text : List ℕ) (group : Group) → ◌≡◌ {A = Group} (seen (escaped text) ∷ group.0, group.1) (text ∷ group.0, group.1)
seen_first text group =
    let with_text : List ℕ → Group = λ z. (z ∷ group.0, group.1) in
    ap with_text (all_seen text)

three : (a b c d : List ℕ) → ((a ++ b) ++ c) ++ d ≡ a ++ (b ++ (c ++ d))
three a b c d = append_assoc (a ++ b) c d ∙ append_assoc a b (c ++ d)

-- a cell before something adds its text
cell_read : (headings : Headings) (row : List RowValue) (place : ℕ) (rest : List ℕ) → groups_of (cell_html headings row place ++ rest) ≡ (cell_text headings Units row place ∷ (groups_of rest).0, (groups_of rest).1)
unfolding cell_html
cell_read headings row place rest =
    let text = cell_text headings Units row place in
    ap groups_of (three (cell_tag (is_right row place)) (escaped text) (codes "</td>") rest)
    ∙ (begun (is_right row place) text (codes "/td>" ++ rest)
    ∙ seen_first text (groups_of rest))

heading_read : (headings : Headings) (place : ℕ) (rest : List ℕ) → groups_of (heading_html headings place ++ rest) ≡ (heading_text headings place ∷ (groups_of rest).0, (groups_of rest).1)
unfolding heading_html
heading_read headings place rest =
    let text = heading_text headings place in
    ap groups_of (three (codes "<th>") (escaped text) (codes "</th>") rest)
    ∙ (ap (λ (c : List ℕ × List (List ℕ)). grouped ((codes "th>" ++ c.0) ∷ c.1)) (cut_text text (codes "/th>" ++ rest))
    ∙ seen_first text (groups_of rest))

-- what adds a text for each of a list
each_read : (html : ℕ → List ℕ) (text : ℕ → List ℕ) → ((place : ℕ) (rest : List ℕ) → groups_of (html place ++ rest) ≡ (text place ∷ (groups_of rest).0, (groups_of rest).1))
    → (places rest : List ℕ) → groups_of (flat_map html places ++ rest) ≡ (map text places ++ (groups_of rest).0, (groups_of rest).1)
each_read html text one [] rest = refl
each_read html text one (place ∷ places) rest =
    ap (λ (z : List ℕ). groups_of (z ++ rest)) (flat_map-cons html place places)
    ∙ (ap groups_of (append_assoc (html place) (flat_map html places) rest)
    ∙ (one place (flat_map html places ++ rest)
    ∙ ap (λ (g : Group). (text place ∷ g.0, g.1)) (each_read html text one places rest)))

-- a row before rows
row_read : (headings : Headings) (row : List RowValue) (rest : List ℕ) → groups_of (row_html headings row ++ rest) ≡ ([], (map (cell_text headings Units row) (places_below (length row)) ++ (groups_of rest).0) ∷ (groups_of rest).1)
unfolding row_html row_cells_html
row_read headings row rest =
    let places = places_below (length row) in
    ap groups_of (three (codes "<tr>") (flat_map (cell_html headings row) places) (codes "</tr>\n") rest)
    ∙ ap (λ (g : Group). ([], g.0 ∷ g.1)) (each_read (cell_html headings row) (cell_text headings Units row) (cell_read headings row) places (codes "</tr>\n" ++ rest))

rows_read : (headings : Headings) (rows : List (List RowValue)) → groups_of (flat_map (row_html headings) rows ++ codes "</table></div>\n") ≡ ([], map (λ (row : List RowValue). map (cell_text headings Units row) (places_below (length row))) rows)
rows_read headings [] = refl
rows_read headings (row ∷ rows) =
    let tail = codes "</table></div>\n" in
    let texts : List RowValue → List (List ℕ) = λ r. map (cell_text headings Units r) (places_below (length r)) in
    ap (λ (z : List ℕ). groups_of (z ++ tail)) (flat_map-cons (row_html headings) row rows)
    ∙ (ap groups_of (append_assoc (row_html headings row) (flat_map (row_html headings) rows) tail)
    ∙ (row_read headings row (flat_map (row_html headings) rows ++ tail)
    ∙ (ap (λ (g : Group). ([], (texts row ++ g.0) ∷ g.1)) (rows_read headings rows)
    ∙ ap (λ (cells : List (List ℕ)). ([], cells ∷ map texts rows)) (append-nil (texts row)))))

head_read : (headings : Headings) (places rest : List ℕ) → groups_of (head_html headings places ++ rest) ≡ ([], (map (heading_text headings) places ++ (groups_of rest).0) ∷ (groups_of rest).1)
unfolding head_html headings_html
head_read headings places rest =
    ap groups_of (three (codes "<div><table>\n<tr>") (flat_map (heading_html headings) places) (codes "</tr>\n") rest)
    ∙ ap (λ (g : Group). ([], g.0 ∷ g.1)) (each_read (heading_html headings) (heading_text headings) (heading_read headings) places (codes "</tr>\n" ++ rest))

pub table_read : (headings : Headings) (rows : List (List RowValue)) → rows_seen (table_html headings rows) ≡ map (heading_text headings) (all_places headings rows) ∷ map (λ (row : List RowValue). map (cell_text headings Units row) (places_below (length row))) rows
unfolding table_html sheet_html rows_html
table_read headings rows =
    let places = all_places headings rows in
    ap rows_seen (append_assoc (head_html headings places) (flat_map (row_html headings) rows) (codes "</table></div>\n"))
    ∙ ap (λ (g : Group). g.1) (head_read headings places (flat_map (row_html headings) rows ++ codes "</table></div>\n")
    ∙ ap (λ (g : Group). ([], (map (heading_text headings) places ++ g.0) ∷ g.1)) (rows_read headings rows))
    ∙ ap (λ (heads : List (List ℕ)). heads ∷ map (λ (row : List RowValue). map (cell_text headings Units row) (places_below (length row))) rows) (append-nil (map (heading_text headings) places))
