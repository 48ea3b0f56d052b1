-- The headings of the phases of a page, read again.
use Rattle.std.proofs.Common.{ℕ, zero, suc, ◌≡◌, ◌+◌, ◌<◌, ◌/◌, ◌%◌, Bool, true, false, List, [], ◌∷◌, ◌++◌, length, map, refl, sym, ap, ◌∙◌, append_assoc, append-nil, arith, Option, Some, None}
use Rattle.std.specs.Prelude.{◌==◌, ◌&&◌, if◌then◌else◌, not, codes, decimal, slice_get, slice_index_or}
use Rattle.std.specs.Fmt.{digit_glyph, digits, digits_onto}
use Rattle.std.specs.List.{flat_map, list_all}
use Rattle.std.specs.Option.{option_map_or}
use Rattle.std.proofs.lemmas.Bool.{and_parts}
use Rattle.std.proofs.lemmas.Bool.Decides.{nat_tests}
use Rattle.std.proofs.lemmas.List.Concat.{flat_map-cons}
use Rattle.pfs_event.specs.declared.entry.Entry.{Entry}
use Rattle.pfs_journal.specs.Spelling.{entry_text}
use Rattle.pfs_journal.specs.declared.blocks.BlockReport.{BlockReport}
use Rattle.pfs_journal.specs.declared.report.PhaseParts.{PhaseParts}
use Rattle.pfs_journal.specs.declared.values.LostReport.{LostReport}
use Rattle.pfs_journal.specs.declared.values.TableReport.{TableReport}
use Rattle.pfs_rows.specs.Tables.{table_name}
use Rattle.pfs_rows.specs.declared.table.Table.TheVariants.{Accounts}
use Rattle.pfs_text.specs.declared.values.RowValue.{RowValue}
use Rattle.pfs_view.specs.ColumnHeadings.{heading_text}
use Rattle.pfs_view.specs.Grids.{cell_text, greatest, is_right}
use Rattle.pfs_view.specs.ShownReports.{counter_row, headings_of}
use Rattle.pfs_view.specs.declared.columns.Headings.{Headings}
use Rattle.pfs_view.specs.declared.columns.Headings.TheVariants.{Of, Counters, Numbered}
use Rattle.pfs_view.specs.declared.columns.Times.TheVariants.{Units}
use Rattle.pfs_html.specs.Cells.{cell_html, cell_tag, cells_html, heading_html, headings_html, places_below, row_cells_html, row_html}
use Rattle.pfs_html.specs.Escapes.{escaped, is_plain, read_on, seen}
use Rattle.pfs_html.specs.Journals.{answer_head_html, answer_html, answers_html, entries_html, entry_html, journal_end_html, journal_head_html, journal_html, journals_html, session_html}
use Rattle.pfs_html.specs.Pages.{accounts_html, blocks_html, connected_html, details_html, findings_html, phase_head_html, phase_html, phases_html, results_html, some_accounts_html, statements_html}
use Rattle.pfs_html.specs.Rankings.{bar_and_cells_html, bar_html, by_time, columns_of, full_html, ranked_html, ranked_row_html, ranked_rows_html, ranking_head_html, ranking_html, ranking_of, number_at, rows_named, some_ranking, table_of, time_column, title_html}
use Rattle.pfs_html.specs.Readings.{cut, found, phase_title, phases_seen}
use Rattle.pfs_html.specs.Tables.{all_places, count_html, fold_html, folded_html, head_html, lost_html, name_html, named_html, rows_html, sheet_html, table_html, tables_html}
use Rattle.pfs_html.specs.declared.rankings.Ranking.{Ranking}
use Rattle.pfs_html.specs.declared.rankings.Ranking.TheVariants.{Waits, Statements, Digests}
use Rattle.pfs_html.proofs.EscapeLaws.{all_plain}
use Rattle.pfs_html.proofs.TableReadings.{cut_plain}

-- what has no heading of a phase, and ends none
abbrev Quiet : List ℕ → Type 0
Quiet html = (rest : List ℕ) → phases_seen (html ++ rest) ≡ phases_seen rest

both : (a b : List ℕ) → Quiet a → Quiet b → Quiet (a ++ b)
both a b qa qb rest = ap phases_seen (append_assoc a b rest) ∙ (qa (b ++ rest) ∙ qb rest)

each : {X : Type 0} (f : X → List ℕ) → ((x : X) → Quiet (f x)) → (xs : List X) → Quiet (flat_map f xs)
each f quiet [] rest = refl
each f quiet (x ∷ xs) rest =
    ap (λ (z : List ℕ). phases_seen (z ++ rest)) (flat_map-cons f x xs) ∙ both (f x) (flat_map f xs) (quiet x) (each f quiet xs) rest

plain : (text : List ℕ) → list_all is_plain text ≡ true → Quiet text
plain text h rest = ap (λ (c : List ℕ × List (List ℕ)). found (codes "h2>") c.1) (cut_plain text rest h)

plain_text : (text : List ℕ) → Quiet (escaped text)
plain_text text = plain (escaped text) (all_plain text)

-- no reference begins there
is_bare : ℕ → Bool
is_bare byte = not (byte == 38)

glyph_plain : (d : ℕ) → d < 10 → is_plain (digit_glyph false d) ≡ true
glyph_plain d h = grind (arith, nat_tests)

glyph_bare : (d : ℕ) → d < 10 → is_bare (digit_glyph false d) ≡ true
unfolding is_bare
glyph_bare d h = grind (arith, nat_tests)

one_of : (test : ℕ → Bool) (last : Bool) (here more : List ℕ) → list_all test here ≡ true → list_all test more ≡ true → list_all test (if last then here else more) ≡ true
one_of test true here more h m = h
one_of test false here more h m = m

-- what is true of each digit is true of a number's text
digits_are : (test : ℕ → Bool) → ((d : ℕ) → d < 10 → test (digit_glyph false d) ≡ true) → (k n : ℕ) (behind : List ℕ) → list_all test behind ≡ true → list_all test (digits_onto k 10 false n behind) ≡ true
digits_are test glyph zero n behind h = h
digits_are test glyph (suc k) n behind h =
    let more : list_all test (digit_glyph false (n % 10) ∷ behind) ≡ true = ap (λ (b : Bool). b && list_all test behind) (glyph (n % 10) (omega arith)) ∙ h in
    one_of test (n / 10 == 0) (digit_glyph false (n % 10) ∷ behind) (digits_onto k 10 false (n / 10) (digit_glyph false (n % 10) ∷ behind)) more
    (digits_are test glyph k (n / 10) (digit_glyph false (n % 10) ∷ behind) more)

decimal_plain : (n : ℕ) → list_all is_plain (decimal n) ≡ true
unfolding digits
decimal_plain n = digits_are is_plain glyph_plain 64 n [] refl

decimal_bare : (n : ℕ) → list_all is_bare (decimal n) ≡ true
unfolding digits
decimal_bare n = digits_are is_bare glyph_bare 64 n [] refl

number : (n : ℕ) → Quiet (decimal n)
number n = plain (decimal n) (decimal_plain n)

cell : (headings : Headings) (row : List RowValue) (place : ℕ) → Quiet (cell_html headings row place)
unfolding cell_html
cell headings row place = both (cell_tag (is_right row place) ++ escaped (cell_text headings Units row place)) (codes "</td>") (both (cell_tag (is_right row place)) (escaped (cell_text headings Units row place)) (tag (is_right row place)) (plain_text (cell_text headings Units row place))) (λ rest. refl)
  where
    tag : (right : Bool) → Quiet (cell_tag right)
    tag true rest = refl
    tag false rest = refl

heading : (headings : Headings) (place : ℕ) → Quiet (heading_html headings place)
unfolding heading_html
heading headings place = both (codes "<th>" ++ escaped (heading_text headings place)) (codes "</th>") (both (codes "<th>") (escaped (heading_text headings place)) (λ rest. refl) (plain_text (heading_text headings place))) (λ rest. refl)

cells : (headings : Headings) (places : List ℕ) (row : List RowValue) → Quiet (cells_html headings places row)
unfolding cells_html
cells headings places row = each (cell_html headings row) (cell headings row) places

heads : (headings : Headings) (places : List ℕ) → Quiet (headings_html headings places)
unfolding headings_html
heads headings places = each (heading_html headings) (heading headings) places

one_row : (headings : Headings) (row : List RowValue) → Quiet (row_html headings row)
unfolding row_html row_cells_html
one_row headings row = both (codes "<tr>" ++ flat_map (cell_html headings row) (places_below (length row))) (codes "</tr>\n") (both (codes "<tr>") (flat_map (cell_html headings row) (places_below (length row))) (λ rest. refl) (each (cell_html headings row) (cell headings row) (places_below (length row)))) (λ rest. refl)

head : (headings : Headings) (places : List ℕ) → Quiet (head_html headings places)
unfolding head_html
head headings places = both (codes "<div><table>\n<tr>" ++ headings_html headings places) (codes "</tr>\n") (both (codes "<div><table>\n<tr>") (headings_html headings places) (λ rest. refl) (heads headings places)) (λ rest. refl)

table : (headings : Headings) (rows : List (List RowValue)) → Quiet (table_html headings rows)
unfolding table_html sheet_html rows_html
table headings rows =
    let places = all_places headings rows in
    both (head_html headings places ++ flat_map (row_html headings) rows) (codes "</table></div>\n") (both (head_html headings places) (flat_map (row_html headings) rows) (head headings places) (each (row_html headings) (one_row headings) rows)) (λ rest. refl)

count : (n : ℕ) → Quiet (count_html n)
unfolding count_html
count n = both (codes "<i>" ++ decimal n) (codes "</i></summary>\n") (both (codes "<i>") (decimal n) (λ rest. refl) (number n)) (λ rest. refl)

folded : (name : List ℕ) (headings : Headings) (rows : List (List RowValue)) → Quiet (folded_html name headings rows)
unfolding folded_html fold_html name_html
folded name headings rows =
    let front = codes "<details><summary>" ++ escaped name in
    let named = both front (codes " ") (both (codes "<details><summary>") (escaped name) (λ rest. refl) (plain_text name)) (plain (codes " ") refl) in
    let fold = both (front ++ codes " ") (count_html (length rows)) named (count (length rows)) in
    both (fold_html name (length rows) ++ table_html headings rows) (codes "</details>\n") (both (fold_html name (length rows)) (table_html headings rows) fold (table headings rows)) (λ rest. refl)

one_table : (one : TableReport) → Quiet (named_html one)
unfolding named_html
one_table one = folded one.name (headings_of one.name) one.rows

tables : (all : List TableReport) → Quiet (tables_html all)
unfolding tables_html
tables all = each named_html one_table all

lost : (all : List LostReport) → Quiet (lost_html all)
unfolding lost_html
lost [] rest = refl
lost (one ∷ all) rest = folded (codes "lost") Counters (map counter_row (one ∷ all)) rest

results : (all : List TableReport) (counters : List LostReport) → Quiet (results_html all counters)
unfolding results_html
results all counters = both (codes "<h3>All tables</h3>\n" ++ tables_html all) (lost_html counters) (both (codes "<h3>All tables</h3>\n") (tables_html all) (λ rest. refl) (tables all)) (lost counters)

bar : (most time : ℕ) → Quiet (bar_html most time)
unfolding bar_html full_html
bar most time =
    let full = both (codes "<td><meter max=\"" ++ decimal most) (codes "\" value=\"") (both (codes "<td><meter max=\"") (decimal most) (λ rest. refl) (number most)) (λ rest. refl) in
    both (full_html most ++ decimal time) (codes "\"></meter></td>") (both (full_html most) (decimal time) full (number time)) (λ rest. refl)

ranked_row : (ranking : Ranking) (most : ℕ) (row : List RowValue) → Quiet (ranked_row_html ranking most row)
unfolding ranked_row_html bar_and_cells_html
ranked_row ranking most row =
    let time = number_at (time_column ranking) row in
    let own = cells_html (Of (table_of ranking)) (columns_of ranking) row in
    let inner = both (bar_html most time) own (bar most time) (cells (Of (table_of ranking)) (columns_of ranking) row) in
    both (codes "<tr>" ++ (bar_html most time ++ own)) (codes "</tr>\n") (both (codes "<tr>") (bar_html most time ++ own) (λ rest. refl) inner) (λ rest. refl)

ranked : (ranking : Ranking) (most : ℕ) (rows : List (List RowValue)) (place : ℕ) → Quiet (ranked_html ranking most rows place)
unfolding ranked_html
ranked ranking most rows place = there (slice_get rows place)
  where
    there : (row : Option (List RowValue)) → Quiet (option_map_or (ranked_row_html ranking most) row [])
    there None rest = refl
    there (Some row) rest = ranked_row ranking most row rest

title : (ranking : Ranking) → Quiet (title_html ranking)
unfolding title_html
title Waits rest = refl
title Statements rest = refl
title Digests rest = refl

ranking_rows : (ranking : Ranking) (rows : List (List RowValue)) → Quiet (ranking_html ranking rows)
unfolding ranking_html ranking_head_html ranked_rows_html
ranking_rows ranking rows =
    let own = headings_html (Of (table_of ranking)) (columns_of ranking) in
    let most = greatest (number_at (time_column ranking)) rows in
    let opening = both (title_html ranking ++ own) (codes "</tr>\n") (both (title_html ranking) own (title ranking) (heads (Of (table_of ranking)) (columns_of ranking))) (λ rest. refl) in
    let body = each (ranked_html ranking most rows) (ranked ranking most rows) (by_time (time_column ranking) rows) in
    both (ranking_head_html ranking ++ ranked_rows_html ranking most rows) (codes "</table></div>\n") (both (ranking_head_html ranking) (ranked_rows_html ranking most rows) opening body) (λ rest. refl)

by_ranking : (ranking : Ranking) (all : List TableReport) → Quiet (ranking_of ranking all)
unfolding ranking_of some_ranking
by_ranking ranking all = some (rows_named (table_name (table_of ranking)) all)
  where
    some : (rows : List (List RowValue)) → Quiet (some_ranking ranking rows)
    some [] rest = refl
    some (row ∷ rows) rest = ranking_rows ranking (row ∷ rows) rest

accounts : (rows : List (List RowValue)) → Quiet (accounts_html rows)
unfolding accounts_html some_accounts_html
accounts [] rest = refl
accounts (row ∷ rows) rest = both (codes "<h3>Who was connected</h3>\n") (table_html (Of Accounts) (row ∷ rows)) (λ more. refl) (table (Of Accounts) (row ∷ rows)) rest

findings : (all : List TableReport) → Quiet (findings_html all)
unfolding findings_html statements_html
findings all = both (connected_html all ++ ranking_of Waits all) (ranking_of Statements all ++ ranking_of Digests all) (both (connected_html all) (ranking_of Waits all) (accounts (rows_named (table_name Accounts) all)) (by_ranking Waits all)) (both (ranking_of Statements all) (ranking_of Digests all) (by_ranking Statements all) (by_ranking Digests all))

entries : (all : List Entry) → Quiet (entries_html all)
unfolding entries_html entry_html
entries all = each (λ (entry : Entry). escaped (entry_text entry)) (λ entry. plain_text (entry_text entry)) all

one_answer : (answers : List (List (List RowValue))) (place : ℕ) → Quiet (answer_html answers place)
unfolding answer_html answer_head_html
one_answer answers place =
    let opening = both (codes "<h4>Answer " ++ decimal (place + 1)) (codes "</h4>\n") (both (codes "<h4>Answer ") (decimal (place + 1)) (λ rest. refl) (number (place + 1))) (λ rest. refl) in
    both (answer_head_html (place + 1)) (table_html Numbered (slice_index_or answers place [])) opening (table Numbered (slice_index_or answers place []))

journal : (block : BlockReport) → Quiet (journal_html block)
unfolding journal_html journal_head_html session_html journal_end_html answers_html
journal block =
    let session = both (codes "<details><summary>Session " ++ decimal block.session) (codes " ") (both (codes "<details><summary>Session ") (decimal block.session) (λ rest. refl) (number block.session)) (plain (codes " ") refl) in
    let opening = both (session_html block.session ++ count_html (length block.entries)) (codes "<pre>") (both (session_html block.session) (count_html (length block.entries)) session (count (length block.entries))) (λ rest. refl) in
    let answers = each (answer_html block.answers) (one_answer block.answers) (places_below (length block.answers)) in
    let ending = both (codes "</pre>\n" ++ answers_html block.answers) (codes "</details>\n") (both (codes "</pre>\n") (answers_html block.answers) (λ rest. refl) answers) (λ rest. refl) in
    both (journal_head_html block.session (length block.entries) ++ entries_html block.entries) (journal_end_html block.answers) (both (journal_head_html block.session (length block.entries)) (entries_html block.entries) opening (entries block.entries)) ending

blocks : (all : List BlockReport) → Quiet (blocks_html all)
unfolding blocks_html journals_html
blocks all = both (codes "<h3>Journals</h3>\n" ++ flat_map journal_html all) (codes "</section>\n") (both (codes "<h3>Journals</h3>\n") (flat_map journal_html all) (λ rest. refl) (each journal_html journal all)) (λ rest. refl)

details : (phase : PhaseParts) → Quiet (details_html phase)
unfolding details_html
details phase = both (results_html phase.tables phase.lost) (blocks_html phase.blocks) (results phase.tables phase.lost) (blocks phase.blocks)

no_reference : (byte : ℕ) → is_bare byte ≡ true → (byte == 38) ≡ false
unfolding is_bare
no_reference byte bare = grind arith

-- a text without references is seen as it is
seen_bare : (text : List ℕ) → list_all is_bare text ≡ true → seen text ≡ text
seen_bare [] bare = refl
seen_bare (byte ∷ text) bare =
    let parts = and_parts (is_bare byte) (list_all is_bare text) bare in
    ap (λ (opens : Bool). if opens then read_on (Some []) text else byte ∷ read_on None text) (no_reference byte parts.0) ∙ ap (λ (z : List ℕ). byte ∷ z) (seen_bare text parts.1)

-- the opening of a phase
opened : (text behind : List ℕ) → list_all is_plain text ≡ true → list_all is_bare text ≡ true
    → phases_seen (codes "<section>\n<h2>Phase " ++ (text ++ (codes "</h2>\n" ++ behind))) ≡ (codes "Phase " ++ text) ∷ phases_seen behind
unfolding is_bare
opened text behind plain bare =
    ap (λ (c : List ℕ × List (List ℕ)). found (codes "h2>") (codes "section>\n" ∷ (codes "h2>Phase " ++ c.0) ∷ c.1)) (cut_plain text (codes "</h2>\n" ++ behind) plain)
    ∙ (ap (λ (z : List ℕ). seen (codes "Phase " ++ z) ∷ phases_seen behind) (append-nil text)
    ∙ ap (λ (z : List ℕ). z ∷ phases_seen behind) (seen_bare (codes "Phase " ++ text) bare))

regrouped : (a b c d e f : List ℕ) → ((((a ++ b) ++ c) ++ d) ++ e) ++ f ≡ a ++ (b ++ (c ++ (d ++ (e ++ f))))
regrouped a b c d e f = simp append_assoc

-- a phase before something
one_phase : (one : PhaseParts) (rest : List ℕ) → phases_seen (phase_html one ++ rest) ≡ phase_title one ∷ phases_seen rest
unfolding phase_html phase_head_html
one_phase one rest =
    ap phases_seen (regrouped (codes "<section>\n<h2>Phase ") (decimal one.number) (codes "</h2>\n") (findings_html one.tables) (details_html one) rest)
    ∙ (opened (decimal one.number) (findings_html one.tables ++ (details_html one ++ rest)) (decimal_plain one.number) (decimal_bare one.number)
    ∙ ap (λ (titles : List (List ℕ)). phase_title one ∷ titles) (findings one.tables (details_html one ++ rest) ∙ details one rest))

-- all phases
pub phases_read : (all : List PhaseParts) → phases_seen (phases_html all) ≡ map phase_title all
unfolding phases_html
phases_read [] = refl
phases_read (one ∷ all) = ap phases_seen (flat_map-cons phase_html one all) ∙ (one_phase one (flat_map phase_html all) ∙ ap (λ (titles : List (List ℕ)). phase_title one ∷ titles) (phases_read all))
