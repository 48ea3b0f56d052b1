-- A line's text is its word, what stands behind it, and a line feed.
use Rattle.std.proofs.Common.{ℕ, ◌≡◌, ◌-◌, List, [], ◌∷◌, ◌++◌, length, take, Option, Some, None, append_assoc, length-append, ap, ◌∙◌, refl, arith}
use Rattle.std.specs.Prelude.{codes}
use Rattle.std.specs.List.{flat_map}
use Rattle.pfs_event.specs.declared.entry.Entry.{Entry}
use Rattle.pfs_event.specs.declared.entry.Entry.TheVariants as entry
use Rattle.pfs_event.specs.Verdicts.{verdict_name}
use Rattle.pfs_text.specs.declared.values.RowValue.{RowValue}
use Rattle.pfs_text.specs.declared.values.RowValue.TheVariants as value
use Rattle.pfs_journal.specs.declared.line.Line.{Line}
use Rattle.pfs_journal.specs.declared.line.Line.TheVariants as says
use Rattle.pfs_journal.specs.SingleLines.{line_text}
use Rattle.pfs_journal.specs.Spelling.{field_text, optional_text, numbers_text, entry_text, value_text, row_text, table_line, lost_text, final_line, phase_line, session_line, first_line}
use Rattle.pfs_journal.specs.LineWords.{IsBehind, entry_word, entry_numbers, entry_rest, line_word, line_rest}
use Rattle.pfs_journal.proofs.WordReadings.{fields_behind}

numbers_line : (word : List ℕ) (numbers : List (Option ℕ)) → numbers_text word numbers ≡ (word ++ flat_map optional_text numbers) ++ codes "\n"
unfolding numbers_text
numbers_line word numbers = refl

regroup : (s event gap name numbers : List ℕ) → (((s ++ event) ++ gap) ++ name) ++ numbers ≡ s ++ (event ++ ((gap ++ name) ++ numbers))
regroup s event gap name numbers = simp append_assoc

start_line : (event : Option ℕ) (name : List ℕ) (numbers : List (Option ℕ))
    → numbers_text (codes "start" ++ optional_text event ++ codes " " ++ name) numbers ≡ (codes "start" ++ (optional_text event ++ ((codes " " ++ name) ++ flat_map optional_text numbers))) ++ codes "\n"
start_line event name numbers =
    numbers_line (codes "start" ++ optional_text event ++ codes " " ++ name) numbers
    ∙ ap (λ (z : List ℕ). z ++ codes "\n") (regroup (codes "start") (optional_text event) (codes " ") name (flat_map optional_text numbers))

entry_line : (e : Entry) → entry_text e ≡ (entry_word e ++ entry_rest e) ++ codes "\n"
entry_line (entry.Start event verdict a b c d) = start_line event (verdict_name verdict) (a ∷ b ∷ c ∷ d ∷ [])
entry_line e = numbers_line (entry_word e) (entry_numbers e)

pub line_is : (line : Line) → line_text line ≡ (line_word line ++ line_rest line) ++ codes "\n"
unfolding line_text first_line phase_line session_line row_text final_line table_line lost_text
line_is (says.Head format) = numbers_line (codes "pfs-report") (Some format ∷ [])
line_is (says.Phase number) = numbers_line (codes "phase") (Some number ∷ [])
line_is (says.Session number) = numbers_line (codes "session") (Some number ∷ [])
line_is (says.Entry e) = entry_line e
line_is (says.Row row) = refl
line_is says.Final = refl
line_is (says.Table name) = refl
line_is (says.Lost lost) = numbers_line (codes "lost " ++ lost.name) (Some lost.number ∷ [])
line_is says.End = refl

pub values_behind : (values : List RowValue) → IsBehind (flat_map value_text values)
unfolding value_text field_text
values_behind [] = tt
values_behind (value.Null ∷ values) = refl
values_behind (value.Number n ∷ values) = refl
values_behind (value.Text text ∷ values) = refl

entry_behind : (e : Entry) → IsBehind (entry_rest e)
unfolding field_text
entry_behind (entry.Start None verdict a b c d) = refl
entry_behind (entry.Start (Some event) verdict a b c d) = refl
entry_behind e = fields_behind (entry_numbers e)

-- nothing or a space stands behind a line's word
pub line_behind : (line : Line) → IsBehind (line_rest line)
line_behind (says.Entry e) = entry_behind e
line_behind (says.Row row) = values_behind row
line_behind (says.Table name) = refl
line_behind (says.Lost lost) = refl
line_behind (says.Head format) = fields_behind (Some format ∷ [])
line_behind (says.Phase number) = fields_behind (Some number ∷ [])
line_behind (says.Session number) = fields_behind (Some number ∷ [])
line_behind says.Final = tt
line_behind says.End = tt

pub take_front : (a : List ℕ) (n : ℕ) (b : List ℕ) → n ≡ length a → take n (a ++ b) ≡ a
take_front [] n b e = ap (λ (k : ℕ). take k b) e
take_front (x ∷ a) n b e = ap (λ (k : ℕ). take k (x ∷ (a ++ b))) e ∙ ap (λ (z : List ℕ). x ∷ z) (take_front a (length a) b refl)

-- a line without its line feed
pub line_front : (bytes : List ℕ) (line : Line) → bytes ≡ line_text line → take (length bytes - 1) bytes ≡ line_word line ++ line_rest line
line_front bytes line same =
    let body = line_word line ++ line_rest line in
    let whole : bytes ≡ body ++ codes "\n" = same ∙ line_is line in
    let size = ap length whole in
    let sum = length-append body (codes "\n") in
    let count : length bytes - 1 ≡ length body = omega (arith, size, sum) in
    ap (λ (z : List ℕ). take (length bytes - 1) z) whole ∙ take_front body (length bytes - 1) (codes "\n") count
