-- What a line says is told from its word and what stands behind it.
use Rattle.std.proofs.Common.{ℕ, ◌≡◌, ◌≤◌, Bool, true, false, List, [], ◌∷◌, length, Option, Some, Result, IfOk, sym, ap, ◌∙◌, refl, arith}
use Rattle.std.specs.Prelude.{codes}
use Rattle.std.specs.List.{All, flat_map}
use Rattle.std.specs.Str.{bytes_eq}
use Rattle.std.proofs.lemmas.Bool.{false≢true}
use Rattle.std.proofs.lemmas.List.Elements.{All-head}
use Rattle.pfs_event.specs.declared.entry.Entry.{Entry}
use Rattle.pfs_event.specs.declared.entry.Entry.TheVariants as entry
use Rattle.pfs_event.specs.declared.verdict.Verdict.{Verdict}
use Rattle.pfs_text.specs.declared.values.RowValue.{RowValue}
use Rattle.pfs_journal.specs.declared.line.Line.{Line}
use Rattle.pfs_journal.specs.declared.line.Line.TheVariants as says
use Rattle.pfs_journal.specs.declared.values.LostReport.{LostReport}
use Rattle.pfs_journal.specs.SingleLines.{IsLine}
use Rattle.pfs_journal.specs.Reports.{IsName}
use Rattle.pfs_journal.specs.Spelling.{optional_text, value_text}
use Rattle.pfs_journal.specs.LineWords.{is_word_byte, Fits, FitsField, FitsValue, FitsLine, entry_word, entry_numbers, entry_rest, line_word, line_rest, plain_says}
use Rattle.pfs_journal.proofs.WordReadings.{is_start, entry_says, clean_test, clean_told}

-- no entry's line begins with a word of the lines with values and names, and a start's alone begins with its word
pub record Apart (word : List ℕ) (starts : Bool) : Type 0 where
  pub row : bytes_eq word (codes "row") ≡ false
  pub table : bytes_eq word (codes "table") ≡ false
  pub lost : bytes_eq word (codes "lost") ≡ false
  pub start : bytes_eq word (codes "start") ≡ starts
  pub clean : clean_test word ≡ true

pub apart : (e : Entry) → Apart (entry_word e) (is_start e)
apart (entry.Start event verdict a b c d) = record { row = refl; table = refl; lost = refl; start = refl; clean = refl }
apart e = record { row = refl; table = refl; lost = refl; start = refl; clean = refl }

few : (e : Entry) → length (entry_numbers e) ≤ 5
few entry.Settle = omega arith
few e = omega arith

plain_rest : (e : Entry) → is_start e ≡ false → entry_rest e ≡ flat_map optional_text (entry_numbers e)
plain_rest (entry.Start event verdict a b c d) h = absurd (false≢true (sym h))
plain_rest e h = refl

impossible : {A : Type 0} → false ≡ true → A
impossible e = absurd (false≢true e)

-- by its word a line is a row
pub row_told : {Stop : Type 0} (line : Line) (w b : List ℕ) (r : Result (Option Line) Stop) → w ≡ line_word line → bytes_eq w (codes "row") ≡ true → FitsLine line → b ≡ line_rest line
    → ((values : List RowValue) → All FitsValue values → b ≡ flat_map value_text values → IfOk r (λ found. found ≡ Some (says.Row values))) → IfOk r (λ found. found ≡ Some line)
row_told (says.Row values) w b r word test fits rest told = told values fits rest
row_told (says.Entry e) w b r word test fits rest told = impossible (sym (apart e).row ∙ (ap (λ (z : List ℕ). bytes_eq z (codes "row")) (sym word) ∙ test))
row_told line w b r word test fits rest told = impossible (ap (λ (z : List ℕ). bytes_eq z (codes "row")) (sym word) ∙ test)

pub table_told : {Stop : Type 0} (line : Line) (w b : List ℕ) (r : Result (Option Line) Stop) → w ≡ line_word line → bytes_eq w (codes "table") ≡ true → IsLine line → b ≡ line_rest line
    → ((name : List ℕ) → IsName name → b ≡ line_rest (says.Table name) → IfOk r (λ found. found ≡ Some (says.Table name))) → IfOk r (λ found. found ≡ Some line)
table_told (says.Table name) w b r word test good rest told = told name good rest
table_told (says.Entry e) w b r word test good rest told = impossible (sym (apart e).table ∙ (ap (λ (z : List ℕ). bytes_eq z (codes "table")) (sym word) ∙ test))
table_told line w b r word test good rest told = impossible (ap (λ (z : List ℕ). bytes_eq z (codes "table")) (sym word) ∙ test)

pub lost_told : {Stop : Type 0} (line : Line) (w b : List ℕ) (r : Result (Option Line) Stop) → w ≡ line_word line → bytes_eq w (codes "lost") ≡ true → IsLine line → FitsLine line → b ≡ line_rest line
    → ((lost : LostReport) → IsName lost.name → Fits lost.number → b ≡ line_rest (says.Lost lost) → IfOk r (λ found. found ≡ Some (says.Lost lost))) → IfOk r (λ found. found ≡ Some line)
lost_told (says.Lost lost) w b r word test good fits rest told = told lost good (All-head FitsField (Some lost.number) [] fits) rest
lost_told (says.Entry e) w b r word test good fits rest told = impossible (sym (apart e).lost ∙ (ap (λ (z : List ℕ). bytes_eq z (codes "lost")) (sym word) ∙ test))
lost_told line w b r word test good fits rest told = impossible (ap (λ (z : List ℕ). bytes_eq z (codes "lost")) (sym word) ∙ test)

start_entry : (e : Entry) (b : List ℕ) (r : Option Line) → bytes_eq (entry_word e) (codes "start") ≡ true → All FitsField (entry_numbers e) → b ≡ entry_rest e
    → ((event : Option ℕ) (verdict : Verdict) (p q s t : Option ℕ) → All FitsField (event ∷ p ∷ q ∷ s ∷ t ∷ []) → b ≡ entry_rest (entry.Start event verdict p q s t) → r ≡ Some (says.Entry (entry.Start event verdict p q s t))) → r ≡ Some (says.Entry e)
start_entry (entry.Start event verdict p q s t) b r test fits rest told = told event verdict p q s t fits rest
start_entry e b r test fits rest told = impossible test

-- by its word a line is a start
pub start_told : (line : Line) (w b : List ℕ) (r : Option Line) → w ≡ line_word line → bytes_eq w (codes "start") ≡ true → FitsLine line → b ≡ line_rest line
    → ((event : Option ℕ) (verdict : Verdict) (p q s t : Option ℕ) → All FitsField (event ∷ p ∷ q ∷ s ∷ t ∷ []) → b ≡ entry_rest (entry.Start event verdict p q s t) → r ≡ Some (says.Entry (entry.Start event verdict p q s t))) → r ≡ Some line
start_told (says.Entry e) w b r word test fits rest told = start_entry e b r (ap (λ (z : List ℕ). bytes_eq z (codes "start")) (sym word) ∙ test) fits rest told
start_told line w b r word test fits rest told = impossible (ap (λ (z : List ℕ). bytes_eq z (codes "start")) (sym word) ∙ test)

-- the tests of the other words failed
pub record IsPlain (w : List ℕ) : Type 0 where
  pub row : bytes_eq w (codes "row") ≡ false
  pub table : bytes_eq w (codes "table") ≡ false
  pub lost : bytes_eq w (codes "lost") ≡ false
  pub start : bytes_eq w (codes "start") ≡ false

plain_by : (line : Line) (w b : List ℕ) (r : Option Line) (numbers : List (Option ℕ)) → w ≡ line_word line → plain_says (line_word line) numbers ≡ Some line → All FitsField numbers → length numbers ≤ 5 → b ≡ flat_map optional_text numbers
    → ((ns : List (Option ℕ)) → All FitsField ns → length ns ≤ 5 → b ≡ flat_map optional_text ns → r ≡ plain_says w ns) → r ≡ Some line
plain_by line w b r numbers word said fits size rest told = told numbers fits size rest ∙ (ap (λ (z : List ℕ). plain_says z numbers) word ∙ said)

-- any other line is told by its word and its numbers
pub plain_told : (line : Line) (w b : List ℕ) (r : Option Line) → w ≡ line_word line → IsPlain w → FitsLine line → b ≡ line_rest line
    → ((ns : List (Option ℕ)) → All FitsField ns → length ns ≤ 5 → b ≡ flat_map optional_text ns → r ≡ plain_says w ns) → r ≡ Some line
plain_told (says.Row values) w b r word plain fits rest told = impossible (sym plain.row ∙ ap (λ (z : List ℕ). bytes_eq z (codes "row")) word)
plain_told (says.Table name) w b r word plain fits rest told = impossible (sym plain.table ∙ ap (λ (z : List ℕ). bytes_eq z (codes "table")) word)
plain_told (says.Lost lost) w b r word plain fits rest told = impossible (sym plain.lost ∙ ap (λ (z : List ℕ). bytes_eq z (codes "lost")) word)
plain_told (says.Entry e) w b r word plain fits rest told =
    let starts : is_start e ≡ false = sym (apart e).start ∙ (ap (λ (z : List ℕ). bytes_eq z (codes "start")) (sym word) ∙ plain.start) in
    plain_by (says.Entry e) w b r (entry_numbers e) word (entry_says e starts) fits (few e) (rest ∙ plain_rest e starts) told
plain_told (says.Head format) w b r word plain fits rest told = plain_by (says.Head format) w b r (Some format ∷ []) word refl fits (omega arith) rest told
plain_told (says.Phase number) w b r word plain fits rest told = plain_by (says.Phase number) w b r (Some number ∷ []) word refl fits (omega arith) rest told
plain_told (says.Session number) w b r word plain fits rest told = plain_by (says.Session number) w b r (Some number ∷ []) word refl fits (omega arith) rest told
plain_told says.Final w b r word plain fits rest told = plain_by says.Final w b r [] word refl fits (omega arith) rest told
plain_told says.End w b r word plain fits rest told = plain_by says.End w b r [] word refl fits (omega arith) rest told

-- a line's word has no space
pub line_clean : (line : Line) → All (λ b. is_word_byte b ≡ true) (line_word line)
line_clean (says.Entry e) = clean_told (entry_word e) (apart e).clean
line_clean (says.Row values) = clean_told (codes "row") refl
line_clean (says.Table name) = clean_told (codes "table") refl
line_clean (says.Lost lost) = clean_told (codes "lost") refl
line_clean (says.Head format) = clean_told (codes "pfs-report") refl
line_clean (says.Phase number) = clean_told (codes "phase") refl
line_clean (says.Session number) = clean_told (codes "session") refl
line_clean says.Final = clean_told (codes "final") refl
line_clean says.End = clean_told (codes "end") refl
