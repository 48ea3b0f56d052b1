-- The line `end` stands last in a report and nowhere else, so what stands behind it can be told.
use Rattle.std.proofs.Common.{ℕ, zero, suc, ◌≡◌, ◌+◌, ◌/◌, ◌%◌, ◌<◌, Bool, true, false, eqb, List, [], ◌∷◌, ◌++◌, drop, Option, Some, None, append_assoc, append-nil, sym, ap, ◌∙◌, refl, arith}
use Rattle.std.specs.Prelude.{codes, not, ◌&&◌, if◌then◌else◌, decimal, nat_lt}
use Rattle.std.specs.Fmt.{digits, digits_onto, digit_glyph}
use Rattle.std.specs.List.{All, flat_map, slice_index_or}
use Rattle.std.specs.Str.{bytes_eq}
use Rattle.std.proofs.lemmas.Bool.{false≢true, and_from, and_parts, not-true}
use Rattle.std.proofs.lemmas.Bool.Decides.{Decides-eqb}
use Rattle.std.proofs.lemmas.List.Elements.{All-head, All-tail, All-nil}
use Rattle.pfs_text.specs.QuotedTexts.{doubled, quoted}
use Rattle.pfs_event.specs.declared.entry.Entry.{Entry}
use Rattle.pfs_event.specs.declared.entry.Entry.TheVariants as entry
use Rattle.pfs_event.specs.declared.verdict.Verdict.{Verdict}
use Rattle.pfs_event.specs.declared.verdict.Verdict.TheVariants.{LostThread, LostClass, OffGlobal, OffClass, OffTable, OffThread, LostNested, LostLocker, Aside, Attributed}
use Rattle.pfs_event.specs.Verdicts.{verdict_name}
use Rattle.pfs_text.specs.declared.values.RowValue.{RowValue}
use Rattle.pfs_text.specs.declared.values.RowValue.TheVariants as value
use Rattle.pfs_journal.specs.declared.values.TableReport.{TableReport}
use Rattle.pfs_journal.specs.declared.values.LostReport.{LostReport}
use Rattle.pfs_journal.specs.declared.blocks.BlockReport.{BlockReport}
use Rattle.pfs_journal.specs.declared.report.PhaseParts.{PhaseParts}
use Rattle.pfs_journal.specs.declared.report.ReportParts.{ReportParts}
use Rattle.pfs_journal.specs.Reports.{is_text_byte, is_name_byte, IsValue, IsRow, IsTable, IsLost, IsBlock, IsPhase, IsReport}
use Rattle.pfs_journal.specs.Spelling.{field_text, optional_text, numbers_text, entry_text, value_text, row_text, is_answered, answered_text, journal_text, session_line, block_text, table_line, table_text, lost_text, results_text, final_line, final_text, body_text, phase_line, phase_text, phases_text, first_line, spelling}

-- no line feed is in a text
unfoldable pub no_feed : List ℕ → Bool
no_feed [] = true
no_feed (b ∷ bs) = not (eqb b 10) && no_feed bs

not_false : (a : Bool) → a ≡ false → not a ≡ true
not_false a e = ap not e

no_feed_more : (b : ℕ) (bs : List ℕ) → eqb b 10 ≡ false → no_feed bs ≡ true → no_feed (b ∷ bs) ≡ true
unfolding no_feed
no_feed_more b bs e h = and_from (not (eqb b 10)) (no_feed bs) (not_false (eqb b 10) e) h

pub clean_append : (a b : List ℕ) → no_feed a ≡ true → no_feed b ≡ true → no_feed (a ++ b) ≡ true
unfolding no_feed
clean_append [] b p q = q
clean_append (x ∷ a) b p q = let h = and_parts (not (eqb x 10)) (no_feed a) p in and_from (not (eqb x 10)) (no_feed (a ++ b)) h.0 (clean_append a b h.1 q)

pub clean_flat : {X : Type 0} (f : X → List ℕ) (P : X → Type 0) → ((x : X) → P x → no_feed (f x) ≡ true) → (xs : List X) → All P xs → no_feed (flat_map f xs) ≡ true
unfolding no_feed
clean_flat f P clean [] all = refl
clean_flat f P clean (x ∷ xs) all = clean_append (f x) (flat_map f xs) (clean x (All-head P x xs all)) (clean_flat f P clean xs (All-tail P x xs all))

not_ten : (b : ℕ) → 10 < b → eqb b 10 ≡ false
not_ten b h = by_value (eqb b 10) refl
  where
    by_value : (v : Bool) → eqb b 10 ≡ v → eqb b 10 ≡ false
    by_value true e = let same : b ≡ 10 = (Decides-eqb b 10).0 e in absurd (omega (arith, h, same))
    by_value false e = e

glyph_clean : (d : ℕ) → eqb (digit_glyph false d) 10 ≡ false
glyph_clean d = by_test (nat_lt d 10)
  where
    by_test : (b : Bool) → eqb (if b then 48 + d else 87 + d) 10 ≡ false
    by_test true = not_ten (48 + d) (omega arith)
    by_test false = not_ten (87 + d) (omega arith)

clean_by : (b : Bool) (now later : List ℕ) → no_feed now ≡ true → no_feed later ≡ true → no_feed (if b then now else later) ≡ true
clean_by true now later p q = p
clean_by false now later p q = q

digits_clean : (k n : ℕ) (acc : List ℕ) → no_feed acc ≡ true → no_feed (digits_onto k 10 false n acc) ≡ true
digits_clean zero n acc h = h
digits_clean (suc k) n acc h =
    let more = no_feed_more (digit_glyph false (n % 10)) acc (glyph_clean (n % 10)) h in
    clean_by (eqb (n / 10) 0) (digit_glyph false (n % 10) ∷ acc) (digits_onto k 10 false (n / 10) (digit_glyph false (n % 10) ∷ acc)) more (digits_clean k (n / 10) (digit_glyph false (n % 10) ∷ acc) more)

decimal_clean : (n : ℕ) → no_feed (decimal n) ≡ true
unfolding digits no_feed
decimal_clean n = digits_clean 64 n [] refl

field_clean : (n : ℕ) → no_feed (field_text n) ≡ true
unfolding field_text no_feed
field_clean n = clean_append (codes " ") (decimal n) refl (decimal_clean n)

pub optional_clean : (o : Option ℕ) → no_feed (optional_text o) ≡ true
unfolding no_feed
optional_clean None = refl
optional_clean (Some n) = field_clean n

pub numbers_clean : (ns : List (Option ℕ)) → no_feed (flat_map optional_text ns) ≡ true
unfolding no_feed
numbers_clean [] = refl
numbers_clean (n ∷ ns) = clean_append (optional_text n) (flat_map optional_text ns) (optional_clean n) (numbers_clean ns)

pub verdict_clean : (v : Verdict) → no_feed (verdict_name v) ≡ true
unfolding no_feed
verdict_clean LostThread = refl
verdict_clean LostClass = refl
verdict_clean OffGlobal = refl
verdict_clean OffClass = refl
verdict_clean OffTable = refl
verdict_clean OffThread = refl
verdict_clean LostNested = refl
verdict_clean LostLocker = refl
verdict_clean Aside = refl
verdict_clean Attributed = refl

tested : (test : ℕ → Bool) (b : ℕ) → test 10 ≡ false → test b ≡ true → eqb b 10 ≡ false
tested test b none h = by_value (eqb b 10) refl
  where
    by_value : (v : Bool) → eqb b 10 ≡ v → eqb b 10 ≡ false
    by_value true e = let same : b ≡ 10 = (Decides-eqb b 10).0 e in absurd (false≢true (sym none ∙ (ap test (sym same) ∙ h)))
    by_value false e = e

doubled_clean : (b : ℕ) → is_text_byte b ≡ true → no_feed (doubled b) ≡ true
unfolding no_feed
doubled_clean b h = by_test (eqb b 39)
  where
    plain : eqb b 10 ≡ false
    plain = tested is_text_byte b refl h

    by_test : (q : Bool) → no_feed (if q then b ∷ b ∷ [] else b ∷ []) ≡ true
    by_test true = no_feed_more b (b ∷ []) plain (no_feed_more b [] plain refl)
    by_test false = no_feed_more b [] plain refl

pub bytes_clean : (test : ℕ → Bool) → test 10 ≡ false → (bs : List ℕ) → All (λ b. test b ≡ true) bs → no_feed bs ≡ true
unfolding no_feed
bytes_clean test none [] all = refl
bytes_clean test none (b ∷ bs) all = no_feed_more b bs (tested test b none (All-head (λ b. test b ≡ true) b bs all)) (bytes_clean test none bs (All-tail (λ b. test b ≡ true) b bs all))

pub value_clean : (v : RowValue) → IsValue v → no_feed (value_text v) ≡ true
unfolding value_text no_feed
value_clean value.Null good = refl
value_clean (value.Number n) good = field_clean n
value_clean (value.Text text) good =
    clean_append (codes " ") (quoted text) refl (no_feed_more 39 (flat_map doubled text ++ 39 ∷ []) refl (clean_append (flat_map doubled text) (39 ∷ []) (clean_flat doubled (λ b. is_text_byte b ≡ true) doubled_clean text good) refl))

-- what stands behind the first line that is `end`, where so much of a line was passed
behind_end : List ℕ → List ℕ → Option (List ℕ)
behind_end line [] = None
behind_end line (b ∷ bs) = if eqb b 10 then (if bytes_eq line (codes "end") then Some bs else behind_end [] bs) else behind_end (line ++ b ∷ []) bs

line_end : (line body s : List ℕ) → no_feed body ≡ true → behind_end line (body ++ 10 ∷ s) ≡ (if bytes_eq (line ++ body) (codes "end") then Some s else behind_end [] s)
unfolding behind_end no_feed
line_end line [] s h = ap (λ (z : List ℕ). if bytes_eq z (codes "end") then Some s else behind_end [] s) (sym (append-nil line))
line_end line (b ∷ body) s h =
    let p = and_parts (not (eqb b 10)) (no_feed body) h in
    ap (λ (v : Bool). if v then (if bytes_eq line (codes "end") then Some (body ++ 10 ∷ s) else behind_end [] (body ++ 10 ∷ s)) else behind_end (line ++ b ∷ []) (body ++ 10 ∷ s)) (not-true (eqb b 10) p.0)
    ∙ (line_end (line ++ b ∷ []) body s p.1
    ∙ ap (λ (z : List ℕ). if bytes_eq z (codes "end") then Some s else behind_end [] s) (append_assoc line (b ∷ []) body))

-- lines among which none is `end`
abbrev Passes : List ℕ → Type 0
Passes text = (s : List ℕ) → behind_end [] (text ++ s) ≡ behind_end [] s

passes_line : (body : List ℕ) → no_feed body ≡ true → bytes_eq body (codes "end") ≡ false → Passes (body ++ codes "\n")
passes_line body clean other s = ap (behind_end []) (append_assoc body (codes "\n") s) ∙ (line_end [] body s clean ∙ ap (λ (v : Bool). if v then Some s else behind_end [] s) other)

passes_none : Passes []
passes_none s = refl

passes_append : (a b : List ℕ) → Passes a → Passes b → Passes (a ++ b)
passes_append a b p q s = ap (behind_end []) (append_assoc a b s) ∙ (p (b ++ s) ∙ q s)

passes_flat : {X : Type 0} (f : X → List ℕ) (P : X → Type 0) → ((x : X) → P x → Passes (f x)) → (xs : List X) → All P xs → Passes (flat_map f xs)
passes_flat f P passes [] all = passes_none
passes_flat f P passes (x ∷ xs) all = passes_append (f x) (flat_map f xs) (passes x (All-head P x xs all)) (passes_flat f P passes xs (All-tail P x xs all))

numbers_pass : (word : List ℕ) (ns : List (Option ℕ)) → no_feed word ≡ true → bytes_eq (word ++ flat_map optional_text ns) (codes "end") ≡ false → Passes (numbers_text word ns)
unfolding numbers_text
numbers_pass word ns clean other = passes_line (word ++ flat_map optional_text ns) (clean_append word (flat_map optional_text ns) clean (numbers_clean ns)) other

entry_passes : (e : Entry) → Passes (entry_text e)
unfolding field_text no_feed
entry_passes (entry.Connect action thread account user host) = numbers_pass (codes "connect") (Some action ∷ thread ∷ account ∷ user ∷ host ∷ []) refl refl
entry_passes (entry.Start event verdict consumers thread class table) =
    numbers_pass (codes "start" ++ optional_text event ++ codes " " ++ verdict_name verdict) (consumers ∷ thread ∷ class ∷ table ∷ [])
    (clean_append (codes "start" ++ optional_text event ++ codes " ") (verdict_name verdict) (clean_append (codes "start" ++ optional_text event) (codes " ") (clean_append (codes "start") (optional_text event) refl (optional_clean event)) refl) (verdict_clean verdict))
    refl
entry_passes (entry.End None last consumers thread) = numbers_pass (codes "end") (None ∷ last ∷ consumers ∷ thread ∷ []) refl refl
entry_passes (entry.End (Some event) last consumers thread) = numbers_pass (codes "end") (Some event ∷ last ∷ consumers ∷ thread ∷ []) refl refl
entry_passes (entry.Add row version) = numbers_pass (codes "add") (Some row ∷ Some version ∷ []) refl refl
entry_passes (entry.Held row first second) = numbers_pass (codes "held") (Some row ∷ Some first ∷ Some second ∷ []) refl refl
entry_passes (entry.Ring row version) = numbers_pass (codes "ring") (Some row ∷ Some version ∷ []) refl refl
entry_passes (entry.Long row version ticket) = numbers_pass (codes "long") (Some row ∷ Some version ∷ Some ticket ∷ []) refl refl
entry_passes (entry.Busy row first second) = numbers_pass (codes "busy") (Some row ∷ Some first ∷ Some second ∷ []) refl refl
entry_passes (entry.Late row ticket greater) = numbers_pass (codes "late") (Some row ∷ Some ticket ∷ Some greater ∷ []) refl refl
entry_passes entry.Settle = numbers_pass (codes "settle") [] refl refl
entry_passes (entry.Act action) = numbers_pass (codes "act") (Some action ∷ []) refl refl
entry_passes (entry.Take row version) = numbers_pass (codes "take") (Some row ∷ Some version ∷ []) refl refl
entry_passes (entry.Give row version source) = numbers_pass (codes "give") (Some row ∷ Some version ∷ Some source ∷ []) refl refl
entry_passes (entry.Tag row version) = numbers_pass (codes "tag") (Some row ∷ Some version ∷ []) refl refl
entry_passes (entry.Free row version) = numbers_pass (codes "free") (Some row ∷ Some version ∷ []) refl refl
entry_passes (entry.Set word version flags) = numbers_pass (codes "set") (Some word ∷ Some version ∷ Some flags ∷ []) refl refl
entry_passes (entry.Reply number) = numbers_pass (codes "reply") (Some number ∷ []) refl refl
entry_passes (entry.Error number) = numbers_pass (codes "error") (Some number ∷ []) refl refl
entry_passes entry.Query = numbers_pass (codes "query") [] refl refl
entry_passes (entry.Seen row version) = numbers_pass (codes "seen") (Some row ∷ Some version ∷ []) refl refl
entry_passes (entry.Vacant row) = numbers_pass (codes "vacant") (Some row ∷ []) refl refl
entry_passes (entry.Saw word version) = numbers_pass (codes "saw") (Some word ∷ Some version ∷ []) refl refl
entry_passes (entry.Rows number) = numbers_pass (codes "rows") (Some number ∷ []) refl refl

row_passes : (row : List RowValue) → IsRow row → Passes (row_text row)
unfolding row_text no_feed
row_passes row good = passes_line (codes "row" ++ flat_map value_text row) (clean_append (codes "row") (flat_map value_text row) refl (clean_flat value_text IsValue value_clean row good)) refl

table_passes : (table : TableReport) → IsTable table → Passes (table_text table)
unfolding table_text table_line no_feed
table_passes table good =
    passes_append (codes "table " ++ table.name ++ codes "\n") (flat_map row_text table.rows)
    (passes_line (codes "table " ++ table.name) (clean_append (codes "table ") table.name refl (bytes_clean is_name_byte refl table.name good.name.bytes)) refl)
    (passes_flat row_text IsRow row_passes table.rows good.rows)

lost_passes : (lost : LostReport) → IsLost lost → Passes (lost_text lost)
unfolding lost_text no_feed
lost_passes lost good = numbers_pass (codes "lost " ++ lost.name) (Some lost.number ∷ []) (clean_append (codes "lost ") lost.name refl (bytes_clean is_name_byte refl lost.name good.bytes)) refl

abbrev Answers : Type 0
Answers = List (List (List RowValue))

if_passes : (b : Bool) (text : List ℕ) → Passes text → Passes (if b then text else [])
if_passes true text p = p
if_passes false text p = passes_none

first_good : (answers : Answers) → All (All IsRow) answers → All IsRow (slice_index_or answers 0 [])
first_good [] all = All-nil IsRow
first_good (a ∷ answers) all = All-head (All IsRow) a answers all

rest_good : (b : Bool) (answers : Answers) → All (All IsRow) answers → All (All IsRow) (if b then drop 1 answers else answers)
rest_good true [] all = all
rest_good true (a ∷ answers) all = All-tail (All IsRow) a answers all
rest_good false answers all = all

journal_passes : (entries : List Entry) (answers : Answers) → All (All IsRow) answers → Passes (journal_text entries answers)
unfolding journal_text answered_text
journal_passes [] answers all = passes_none
journal_passes (e ∷ entries) answers all =
    passes_append (answered_text e answers) (journal_text entries (if is_answered e then drop 1 answers else answers))
    (passes_append (entry_text e) (if is_answered e then flat_map row_text (slice_index_or answers 0 []) else []) (entry_passes e)
    (if_passes (is_answered e) (flat_map row_text (slice_index_or answers 0 [])) (passes_flat row_text IsRow row_passes (slice_index_or answers 0 []) (first_good answers all))))
    (journal_passes entries (if is_answered e then drop 1 answers else answers) (rest_good (is_answered e) answers all))

block_passes : (block : BlockReport) → IsBlock block → Passes (block_text block)
unfolding block_text session_line no_feed
block_passes block good = passes_append (session_line block.session) (journal_text block.entries block.answers) (numbers_pass (codes "session") (Some block.session ∷ []) refl refl) (journal_passes block.entries block.answers good.rows)

phase_passes : (phase : PhaseParts) → IsPhase phase → Passes (phase_text phase)
unfolding phase_text phase_line body_text final_text final_line results_text no_feed
phase_passes phase good =
    passes_append (phase_line phase.number) (body_text phase) (numbers_pass (codes "phase") (Some phase.number ∷ []) refl refl)
    (passes_append (flat_map block_text phase.blocks) (final_text phase.tables phase.lost) (passes_flat block_text IsBlock block_passes phase.blocks good.blocks)
    (passes_append final_line (results_text phase.tables phase.lost) (passes_line (codes "final") refl refl)
    (passes_append (flat_map table_text phase.tables) (flat_map lost_text phase.lost) (passes_flat table_text IsTable table_passes phase.tables good.tables) (passes_flat lost_text IsLost lost_passes phase.lost good.lost))))

-- what stands behind a report
report_ends : (report : ReportParts) → IsReport report → (s : List ℕ) → behind_end [] (spelling report ++ s) ≡ Some s
unfolding spelling first_line phases_text behind_end no_feed
report_ends report good s =
    ap (behind_end []) (append_assoc (first_line report.format) (flat_map phase_text report.phases ++ codes "end\n") s)
    ∙ (numbers_pass (codes "pfs-report") (Some report.format ∷ []) refl refl ((flat_map phase_text report.phases ++ codes "end\n") ++ s)
    ∙ (ap (behind_end []) (append_assoc (flat_map phase_text report.phases) (codes "end\n") s)
    ∙ passes_flat phase_text IsPhase phase_passes report.phases good.phases (codes "end\n" ++ s)))

-- no report's spelling is a proper front of another's
pub no_front : (a b : ReportParts) (more : List ℕ) → IsReport a → IsReport b → spelling b ≡ spelling a ++ more → more ≡ []
no_front a b more good_a good_b e =
    let x : Some more ≡ Some [] = sym (report_ends a good_a more) ∙ (ap (behind_end []) (sym e ∙ sym (append-nil (spelling b))) ∙ report_ends b good_b []) in
    cc
