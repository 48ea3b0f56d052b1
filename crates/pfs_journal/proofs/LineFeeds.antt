-- A line feed ends each line, and stands nowhere else in it.
use Rattle.std.proofs.Common.{ℕ, ◌≡◌, ◌≢◌, ◌+◌, ◌≤◌, Bool, true, eqb, cond, List, [], ◌∷◌, ◌++◌, length, take, Some, append_assoc, length-append, ap, ◌∙◌, refl, arith}
use Rattle.std.specs.Prelude.{codes, not}
use Rattle.std.specs.List.{flat_map, prefix_len}
use Rattle.std.proofs.lemmas.Bool.{and_parts}
use Rattle.pfs_lemmas.proofs.Numbers.{one_plus}
use Rattle.pfs_event.specs.declared.entry.Entry.{Entry}
use Rattle.pfs_event.specs.declared.entry.Entry.TheVariants as entry
use Rattle.pfs_event.specs.Verdicts.{verdict_name}
use Rattle.pfs_journal.specs.declared.line.Line.{Line}
use Rattle.pfs_journal.specs.declared.line.Line.TheVariants as says
use Rattle.pfs_journal.specs.SingleLines.{line_text, IsLine}
use Rattle.pfs_journal.specs.Reports.{IsValue, is_name_byte}
use Rattle.pfs_journal.specs.Spelling.{optional_text, value_text}
use Rattle.pfs_journal.specs.LineWords.{is_line_byte, entry_word, entry_numbers, entry_rest, line_word, line_rest}
use Rattle.pfs_journal.proofs.LastLines.{no_feed, clean_append, clean_flat, numbers_clean, optional_clean, verdict_clean, bytes_clean, value_clean}
use Rattle.pfs_journal.proofs.LineReadings.{line_is, take_front}

entry_clean : (e : Entry) → no_feed (entry_word e ++ entry_rest e) ≡ true
unfolding no_feed
entry_clean (entry.Start event verdict a b c d) =
    clean_append (codes "start") (entry_rest (entry.Start event verdict a b c d)) refl
    (clean_append (optional_text event) ((codes " " ++ verdict_name verdict) ++ flat_map optional_text (a ∷ b ∷ c ∷ d ∷ [])) (optional_clean event)
    (clean_append (codes " " ++ verdict_name verdict) (flat_map optional_text (a ∷ b ∷ c ∷ d ∷ [])) (clean_append (codes " ") (verdict_name verdict) refl (verdict_clean verdict)) (numbers_clean (a ∷ b ∷ c ∷ d ∷ []))))
entry_clean e = clean_append (entry_word e) (flat_map optional_text (entry_numbers e)) refl (numbers_clean (entry_numbers e))

-- no line feed stands inside a line
pub feedless : (line : Line) → IsLine line → no_feed (line_word line ++ line_rest line) ≡ true
unfolding no_feed
feedless (says.Entry e) good = entry_clean e
feedless (says.Row row) good = clean_append (codes "row") (flat_map value_text row) refl (clean_flat value_text IsValue value_clean row good)
feedless (says.Table name) good = clean_append (codes "table ") name refl (bytes_clean is_name_byte refl name good.bytes)
feedless (says.Lost lost) good =
    clean_append (codes "lost ") (lost.name ++ flat_map optional_text (Some lost.number ∷ [])) refl
    (clean_append lost.name (flat_map optional_text (Some lost.number ∷ [])) (bytes_clean is_name_byte refl lost.name good.bytes) (numbers_clean (Some lost.number ∷ [])))
feedless (says.Head format) good = clean_append (codes "pfs-report") (flat_map optional_text (Some format ∷ [])) refl (numbers_clean (Some format ∷ []))
feedless (says.Phase number) good = clean_append (codes "phase") (flat_map optional_text (Some number ∷ [])) refl (numbers_clean (Some number ∷ []))
feedless (says.Session number) good = clean_append (codes "session") (flat_map optional_text (Some number ∷ [])) refl (numbers_clean (Some number ∷ []))
feedless says.Final good = refl
feedless says.End good = refl

feed_at : (body more : List ℕ) → no_feed body ≡ true → prefix_len is_line_byte (body ++ 10 ∷ more) ≡ length body
unfolding no_feed
feed_at [] more clean = refl
feed_at (b ∷ body) more clean =
    let both = and_parts (not (eqb b 10)) (no_feed body) clean in
    ap (λ (v : Bool). cond v (1 + prefix_len is_line_byte (body ++ 10 ∷ more)) 0) both.0
    ∙ (ap (λ (n : ℕ). 1 + n) (feed_at body more both.1) ∙ one_plus (length body))

-- where the line feed of a line in front stands
line_at : (line : Line) (rest more : List ℕ) → IsLine line → rest ≡ line_text line ++ more → prefix_len is_line_byte rest ≡ length (line_word line ++ line_rest line)
line_at line rest more good same =
    ap (prefix_len is_line_byte) (same ∙ (ap (λ (z : List ℕ). z ++ more) (line_is line) ∙ append_assoc (line_word line ++ line_rest line) (codes "\n") more))
    ∙ feed_at (line_word line ++ line_rest line) more (feedless line good)

-- no line stands in front where there is no line feed
pub no_line : (line : Line) (rest more : List ℕ) → IsLine line → length rest ≤ prefix_len is_line_byte rest → rest ≢ line_text line ++ more
no_line line rest more good none same =
    let at = line_at line rest more good same in
    let body = line_word line ++ line_rest line in
    let whole = ap length (same ∙ ap (λ (z : List ℕ). z ++ more) (line_is line)) in
    let outer = length-append (body ++ codes "\n") more in
    let inner = length-append body (codes "\n") in
    omega (arith, at, none, whole, outer, inner)

-- the line in front is what stands up to the first line feed
pub line_found : (line : Line) (rest more : List ℕ) (at : ℕ) → IsLine line → at ≡ prefix_len is_line_byte rest → rest ≡ line_text line ++ more → take (at + 1) rest ≡ line_text line
line_found line rest more at good is same =
    let here = line_at line rest more good same in
    let body = line_word line ++ line_rest line in
    let inner = length-append body (codes "\n") in
    let size = ap length (line_is line) in
    let count : at + 1 ≡ length (line_text line) = omega (arith, is, here, inner, size) in
    ap (take (at + 1)) same ∙ take_front (line_text line) (at + 1) more count
