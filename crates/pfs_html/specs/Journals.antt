-- The journals of a phase in a page.
use Rattle.std.specs.Prelude.{ℕ, ◌+◌, List, [], ◌++◌, length, slice_index_or, codes, decimal}
use Rattle.std.specs.List.{flat_map}
use Rattle.pfs_event.specs.declared.entry.Entry.{Entry}
use Rattle.pfs_journal.specs.Spelling.{entry_text}
use Rattle.pfs_journal.specs.declared.blocks.BlockReport.{BlockReport}
use Rattle.pfs_text.specs.declared.values.RowValue.{RowValue}
use Rattle.pfs_view.specs.declared.columns.Headings.TheVariants.{Numbered}
use Rattle.pfs_html.specs.Cells.{places_below}
use Rattle.pfs_html.specs.Escapes.{escaped}
use Rattle.pfs_html.specs.Tables.{count_html, table_html}

-- an entry as its line in the report
unfoldable pub entry_html : Entry → List ℕ
entry_html entry = escaped (entry_text entry)

unfoldable pub entries_html : List Entry → List ℕ
entries_html entries = flat_map entry_html entries

unfoldable pub answer_head_html : ℕ → List ℕ
answer_head_html number = codes "<h4>Answer " ++ decimal number ++ codes "</h4>\n"

-- the answer at a place, under its number from 1
unfoldable pub answer_html : List (List (List RowValue)) → ℕ → List ℕ
answer_html answers place =
    answer_head_html (place + 1) ++ table_html Numbered (slice_index_or answers place [])

unfoldable pub answers_html : List (List (List RowValue)) → List ℕ
answers_html answers = flat_map (answer_html answers) (places_below (length answers))

unfoldable pub session_html : ℕ → List ℕ
session_html session = codes "<details><summary>Session " ++ decimal session ++ codes " "

unfoldable pub journal_head_html : ℕ → ℕ → List ℕ
journal_head_html session count = session_html session ++ count_html count ++ codes "<pre>"

unfoldable pub journal_end_html : List (List (List RowValue)) → List ℕ
journal_end_html answers = codes "</pre>\n" ++ answers_html answers ++ codes "</details>\n"

-- a session's journal, folded, and the answers of its SELECTs
unfoldable pub journal_html : BlockReport → List ℕ
journal_html block =
    journal_head_html block.session (length block.entries) ++ entries_html block.entries
    ++ journal_end_html block.answers

unfoldable pub journals_html : List BlockReport → List ℕ
journals_html blocks = flat_map journal_html blocks
