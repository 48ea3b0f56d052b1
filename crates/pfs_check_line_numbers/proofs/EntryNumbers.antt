-- The lines of the entries of a report.
use Rattle.std.proofs.Common.{◌≡◌, refl, ℕ, zero, suc, ◌+◌, ◌-◌, ◌<◌, ◌≤◌, Bool, true, false, cond, List, [], ◌∷◌, ◌++◌, length, map, get_or, take, drop, sym, ◌∙◌, ap, arith, append_assoc, Some, None, IsErrAnd}
use Rattle.std.specs.Prelude.{◌^◌, OnErr, Result, Ok, Err, slice_get, if◌then◌else◌}
use Rattle.std.specs.List.{flat_map, slice_index_or}
use Rattle.std.proofs.lemmas.List.{drop_all, drop_more, length-append}
use Rattle.std.proofs.lemmas.Option.{same_Some}
use Rattle.pfs_event.specs.declared.entry.Entry.{Entry}
use Rattle.pfs_journal.specs.ReportLines.{block_lines, journal_lines, phase_lines, report_lines, row_lines, table_lines}
use Rattle.pfs_journal.specs.Spelling.{is_answered}
use Rattle.pfs_journal.specs.declared.blocks.BlockReport.{BlockReport}
use Rattle.pfs_journal.specs.declared.line.Line.{Line}
use Rattle.pfs_journal.specs.declared.line.Line.TheVariants as says
use Rattle.pfs_journal.specs.declared.report.PhaseParts.{PhaseParts}
use Rattle.pfs_journal.specs.declared.report.ReportParts.{ReportParts}
use Rattle.pfs_journal.specs.declared.values.LostReport.{LostReport}
use Rattle.pfs_journal.specs.declared.values.TableReport.{TableReport}
use Rattle.pfs_text.specs.declared.values.RowValue.{RowValue}
use Rattle.pfs_check_faults.specs.ReportCases.{entry_lines, is_entry_line, numbers_where}
use Rattle.pfs_check_line_numbers.specs.EntryLines.{GoesOn, IsFound, sought}
use Rattle.pfs_check_line_numbers.specs.LineCounts.{result_lines}
use Rattle.pfs_check_line_numbers.proofs.LineSteps.{take_fits}
use Rattle.pfs_check_line_numbers.specs.declared.searches.Found.{Found}
use Rattle.pfs_check_line_numbers.specs.declared.searches.Found.TheVariants.{On, Behind}
use Rattle.pfs_check_line_numbers.specs.declared.searches.Search.{Search}

pub where_append : (test : Line → Bool) (n : ℕ) (xs ys : List Line)
    → numbers_where test n (xs ++ ys) ≡ numbers_where test n xs ++ numbers_where test (n + length xs) ys
where_append test n [] ys = let same : n ≡ n + 0 = omega arith in ap (λ (z : ℕ). numbers_where test z ys) same
where_append test n (x ∷ xs) ys =
    let reach : (n + 1) + length xs ≡ n + suc (length xs) = omega arith in
    ap (λ (z : List ℕ). cond (test x) (n ∷ []) [] ++ z) (where_append test (n + 1) xs ys)
    ∙ ap (λ (z : ℕ). cond (test x) (n ∷ []) [] ++ (numbers_where test (n + 1) xs ++ numbers_where test z ys)) reach
    ∙ sym (append_assoc (cond (test x) (n ∷ []) []) (numbers_where test (n + 1) xs) (numbers_where test (n + suc (length xs)) ys))

pub no_row : (n : ℕ) (rows : List (List RowValue)) → numbers_where is_entry_line n (row_lines rows) ≡ []
no_row n [] = refl
no_row n (row ∷ rows) = no_row (n + 1) rows

no_lost : (n : ℕ) (lost : List LostReport) → numbers_where is_entry_line n (map says.Lost lost) ≡ []
no_lost n [] = refl
no_lost n (one ∷ lost) = no_lost (n + 1) lost

no_table : (n : ℕ) (tables : List TableReport) → numbers_where is_entry_line n (flat_map table_lines tables) ≡ []
no_table n [] = refl
no_table n (table ∷ tables) =
    where_append is_entry_line n (table_lines table) (flat_map table_lines tables)
    ∙ ap (λ (z : List ℕ). z ++ numbers_where is_entry_line (n + length (table_lines table)) (flat_map table_lines tables)) (no_row (n + 1) table.rows)
    ∙ no_table (n + length (table_lines table)) tables

pub no_result : (n : ℕ) (phase : PhaseParts) → numbers_where is_entry_line n (result_lines phase) ≡ []
no_result n phase =
    where_append is_entry_line (n + 1) (flat_map table_lines phase.tables) (map says.Lost phase.lost)
    ∙ ap (λ (z : List ℕ). z ++ numbers_where is_entry_line ((n + 1) + length (flat_map table_lines phase.tables)) (map says.Lost phase.lost)) (no_table (n + 1) phase.tables)
    ∙ no_lost ((n + 1) + length (flat_map table_lines phase.tables)) phase.lost

-- a list with another behind it
in_front : (xs ys : List ℕ) (i : ℕ) → i < length xs → slice_get (xs ++ ys) i ≡ slice_get xs i
in_front [] ys i h = absurd (omega (arith, h))
in_front (x ∷ xs) ys zero h = refl
in_front (x ∷ xs) ys (suc i) h = in_front xs ys i (omega (arith, h))

in_behind : (xs ys : List ℕ) (i : ℕ) → length xs ≤ i → slice_get (xs ++ ys) i ≡ slice_get ys (i - length xs)
in_behind [] ys i h = let same : i ≡ i - 0 = omega arith in ap (slice_get ys) same
in_behind (x ∷ xs) ys zero h = absurd (omega (arith, h))
in_behind (x ∷ xs) ys (suc i) h =
    let same : i - length xs ≡ suc i - suc (length xs) = omega arith in
    in_behind xs ys i (omega (arith, h)) ∙ ap (slice_get ys) same

abbrev Answers : Type 0
Answers = List (List (List RowValue))

-- the rows of an entry's answer, and the answers that are left
abbrev rows_at : Bool → Answers → List Line
rows_at b answers = if b then row_lines (slice_index_or answers 0 []) else []

abbrev left_at : Bool → Answers → Answers
left_at b answers = if b then drop 1 answers else answers

no_answer : (b : Bool) (n : ℕ) (answers : Answers) → numbers_where is_entry_line n (rows_at b answers) ≡ []
no_answer true n answers = no_row n (slice_index_or answers 0 [])
no_answer false n answers = refl

-- the entries of a journal behind its first
journal_behind : (n : ℕ) (e : Entry) (es : List Entry) (answers : Answers)
    → numbers_where is_entry_line n (journal_lines (e ∷ es) answers)
    ≡ n ∷ numbers_where is_entry_line ((n + 1) + length (rows_at (is_answered e) answers)) (journal_lines es (left_at (is_answered e) answers))
journal_behind n e es answers =
    ap (λ (z : List ℕ). n ∷ z) (where_append is_entry_line (n + 1) (rows_at (is_answered e) answers) (journal_lines es (left_at (is_answered e) answers))
    ∙ ap (λ (z : List ℕ). z ++ numbers_where is_entry_line ((n + 1) + length (rows_at (is_answered e) answers)) (journal_lines es (left_at (is_answered e) answers)))
    (no_answer (is_answered e) (n + 1) answers))

pub journal_count : (n : ℕ) (es : List Entry) (answers : Answers) → length (numbers_where is_entry_line n (journal_lines es answers)) ≡ length es
journal_count n [] answers = refl
journal_count n (e ∷ es) answers =
    ap length (journal_behind n e es answers)
    ∙ ap suc (journal_count ((n + 1) + length (rows_at (is_answered e) answers)) es (left_at (is_answered e) answers))

journal_line : (n : ℕ) (es : List Entry) (answers : Answers) (i : ℕ) → i < length es
    → slice_get (numbers_where is_entry_line n (journal_lines es answers)) i ≡ Some (n + length (journal_lines (take i es) answers))
journal_line n [] answers i h = absurd (omega (arith, h))
journal_line n (e ∷ es) answers zero h = let same : n ≡ n + 0 = omega arith in ap (λ (z : ℕ). Some z) same
journal_line n (e ∷ es) answers (suc i) h =
    let first = (n + 1) + length (rows_at (is_answered e) answers) in
    let inner = journal_lines (take i es) (left_at (is_answered e) answers) in
    let both = length-append (rows_at (is_answered e) answers) inner in
    let same : first + length inner ≡ n + suc (length (rows_at (is_answered e) answers ++ inner)) = omega (arith, both) in
    ap (λ (z : List ℕ). slice_get z (suc i)) (journal_behind n e es answers)
    ∙ journal_line first es (left_at (is_answered e) answers) i (omega (arith, h))
    ∙ ap (λ (z : ℕ). Some z) same

-- the lines of a block with others behind it
block_then : (n : ℕ) (block : BlockReport) (tail : List Line) → numbers_where is_entry_line n (block_lines block ++ tail)
    ≡ numbers_where is_entry_line (n + 1) (journal_lines block.entries block.answers) ++ numbers_where is_entry_line (n + length (block_lines block)) tail
block_then n block tail = where_append is_entry_line n (block_lines block) tail

pub block_found : (search : Search) (block : BlockReport) (first line : ℕ) (answers : Answers) (place : ℕ) → search.left < length block.entries
    → first ≡ search.line + 1 → answers ≡ block.answers → place ≡ search.left
    → line ≡ first + length (journal_lines (take place block.entries) answers) → IsFound search (block_lines block) (On line)
block_found search block first line answers place h f a p l = λ tail.
    let numbers = numbers_where is_entry_line (search.line + 1) (journal_lines block.entries block.answers) in
    let count : length numbers ≡ length block.entries = journal_count (search.line + 1) block.entries block.answers in
    let own = ap (λ (z : Answers). length (journal_lines (take place block.entries) z)) a in
    let at = ap (λ (z : ℕ). length (journal_lines (take z block.entries) block.answers)) p in
    let same : (search.line + 1) + length (journal_lines (take search.left block.entries) block.answers) ≡ line = omega (arith, f, own, at, l) in
    ap (λ (z : List ℕ). slice_get z search.left) (block_then search.line block tail)
    ∙ in_front numbers (numbers_where is_entry_line (search.line + length (block_lines block)) tail) search.left (omega (arith, h, count))
    ∙ journal_line (search.line + 1) block.entries block.answers search.left h
    ∙ ap (λ (z : ℕ). Some z) same

pub block_passed : (search : Search) (block : BlockReport) (end left : ℕ) → length block.entries ≤ search.left
    → end ≡ search.line + length (block_lines block) → left ≡ search.left - length block.entries
    → IsFound search (block_lines block) (Behind (record { line = end; left = left }))
block_passed search block end left h e l = λ tail.
    let numbers = numbers_where is_entry_line (search.line + 1) (journal_lines block.entries block.answers) in
    let count : length numbers ≡ length block.entries = journal_count (search.line + 1) block.entries block.answers in
    let same : search.left - length numbers ≡ left = omega (arith, count, l) in
    ap (λ (z : List ℕ). slice_get z search.left) (block_then search.line block tail)
    ∙ in_behind numbers (numbers_where is_entry_line (search.line + length (block_lines block)) tail) search.left (omega (arith, h, count))
    ∙ ap (λ (z : ℕ). slice_get (numbers_where is_entry_line (search.line + length (block_lines block)) tail) z) same
    ∙ ap (λ (z : ℕ). slice_get (numbers_where is_entry_line z tail) left) (sym e)

next_is : {A : Type 0} (xs : List A) (i : ℕ) (x : A) → i < length xs → x ≡ get_or xs i x → drop i xs ≡ x ∷ drop (i + 1) xs
next_is {A} xs i x h e = drop_more xs i x h ∙ ap (λ (y : A). y ∷ drop (i + 1) xs) (sym e)

-- what is the same as an element is that element too
pub same_read : {A : Type 0} (xs : List A) (i : ℕ) (x y : A) → y ≡ x → x ≡ get_or xs i x → y ≡ get_or xs i y
same_read {A} xs i x y same is = same ∙ is ∙ ap (λ (z : A). get_or xs i z) (sym same)

-- What is looked for among the lines of all is looked for among those that are left.
abbrev pub IsLeft : {A : Type 0} → (A → List Line) → Search → Search → List A → ℕ → Type 0
IsLeft lines search rest all i =
    (tail : List Line) → sought search (flat_map lines all ++ tail) ≡ sought rest (flat_map lines (drop i all) ++ tail)

left_then : {A : Type 0} (lines : A → List Line) (rest : Search) (all : List A) (i : ℕ) (x : A) (tail : List Line) → i < length all
    → x ≡ get_or all i x → sought rest (flat_map lines (drop i all) ++ tail) ≡ sought rest (lines x ++ (flat_map lines (drop (i + 1) all) ++ tail))
left_then {A} lines rest all i x tail h e =
    ap (λ (z : List A). sought rest (flat_map lines z ++ tail)) (next_is all i x h e)
    ∙ ap (sought rest) (append_assoc (lines x) (flat_map lines (drop (i + 1) all)) tail)

pub left_more : {A : Type 0} (lines : A → List Line) (search rest next : Search) (all : List A) (i : ℕ) (x : A) → i < length all
    → x ≡ get_or all i x → IsLeft lines search rest all i → IsFound rest (lines x) (Behind next) → IsLeft lines search next all (i + 1)
left_more lines search rest next all i x h e a found = λ tail.
    a tail ∙ left_then lines rest all i x tail h e ∙ found (flat_map lines (drop (i + 1) all) ++ tail)

pub left_found : {A : Type 0} (lines : A → List Line) (search rest : Search) (all : List A) (i : ℕ) (x : A) (line : ℕ) → i < length all
    → x ≡ get_or all i x → IsLeft lines search rest all i → IsFound rest (lines x) (On line) → IsFound search (flat_map lines all) (On line)
left_found lines search rest all i x line h e a found = λ tail.
    a tail ∙ left_then lines rest all i x tail h e ∙ found (flat_map lines (drop (i + 1) all) ++ tail)

pub left_over : {A : Type 0} (lines : A → List Line) (search rest : Search) (all : List A) (i : ℕ) → length all ≤ i
    → IsLeft lines search rest all i → IsFound search (flat_map lines all) (Behind rest)
left_over {A} lines search rest all i h a = λ tail.
    a tail ∙ ap (λ (z : List A). sought rest (flat_map lines z ++ tail)) (drop_all i all h)

-- a phase: its line, its blocks, and the results
phase_then : (search : Search) (first : ℕ) (phase : PhaseParts) (tail : List Line) → first ≡ search.line + 1
    → sought search (phase_lines phase ++ tail)
    ≡ sought (record { line = first; left = search.left }) (flat_map block_lines phase.blocks ++ (result_lines phase ++ tail))
phase_then search first phase tail f =
    ap (λ (z : List Line). slice_get (numbers_where is_entry_line (search.line + 1) z) search.left)
    (append_assoc (flat_map block_lines phase.blocks) (result_lines phase) tail)
    ∙ ap (λ (z : ℕ). slice_get (numbers_where is_entry_line z (flat_map block_lines phase.blocks ++ (result_lines phase ++ tail))) search.left) (sym f)

pub phase_found : (search : Search) (first line : ℕ) (phase : PhaseParts) (blocks : List BlockReport) → first ≡ search.line + 1
    → blocks ≡ phase.blocks → IsFound (record { line = first; left = search.left }) (flat_map block_lines blocks) (On line)
    → IsFound search (phase_lines phase) (On line)
phase_found search first line phase blocks f b found = λ tail.
    phase_then search first phase tail f
    ∙ sym (ap (λ (z : List BlockReport). sought (record { line = first; left = search.left }) (flat_map block_lines z ++ (result_lines phase ++ tail))) b)
    ∙ found (result_lines phase ++ tail)

pub phase_passed : (search rest : Search) (first end : ℕ) (phase : PhaseParts) (blocks : List BlockReport) → first ≡ search.line + 1
    → blocks ≡ phase.blocks → IsFound (record { line = first; left = search.left }) (flat_map block_lines blocks) (Behind rest)
    → end ≡ rest.line + length (result_lines phase) → IsFound search (phase_lines phase) (Behind (record { line = end; left = rest.left }))
phase_passed search rest first end phase blocks f b found e = λ tail.
    phase_then search first phase tail f
    ∙ sym (ap (λ (z : List BlockReport). sought (record { line = first; left = search.left }) (flat_map block_lines z ++ (result_lines phase ++ tail))) b)
    ∙ found (result_lines phase ++ tail)
    ∙ ap (λ (z : List ℕ). slice_get z rest.left) (where_append is_entry_line rest.line (result_lines phase) tail
    ∙ ap (λ (z : List ℕ). z ++ numbers_where is_entry_line (rest.line + length (result_lines phase)) tail) (no_result rest.line phase))
    ∙ ap (λ (z : ℕ). slice_get (numbers_where is_entry_line z tail) rest.left) (sym e)

-- so of a report
pub report_found : (report : ReportParts) (phases : List PhaseParts) (place line : ℕ) → phases ≡ report.phases
    → IsFound (record { line = 2; left = place }) (flat_map phase_lines phases) (On line) → Some line ≡ slice_get (entry_lines report) place
report_found report phases place line p found =
    sym (sym (ap (λ (z : List PhaseParts). sought (record { line = 2; left = place }) (flat_map phase_lines z ++ says.End ∷ [])) p) ∙ found (says.End ∷ []))

pub report_passed : (report : ReportParts) (phases : List PhaseParts) (place : ℕ) (rest : Search) → phases ≡ report.phases
    → IsFound (record { line = 2; left = place }) (flat_map phase_lines phases) (Behind rest) → None ≡ slice_get (entry_lines report) place
report_passed report phases place rest p found =
    sym (sym (ap (λ (z : List PhaseParts). sought (record { line = 2; left = place }) (flat_map phase_lines z ++ says.End ∷ [])) p) ∙ found (says.End ∷ []))

-- What reaches 2^64 or more: a block whose first entries do, and a report whose phases do. An Err says so.
pub block_long : (search : Search) (block : BlockReport) (first place : ℕ) (answers : Answers) → first ≡ search.line + 1 → answers ≡ block.answers
    → 2 ^ 64 ≤ first + length (journal_lines (take place block.entries) answers) → 2 ^ 64 ≤ search.line + length (block_lines block)
block_long search block first place answers f a long =
    let own = ap (λ (z : Answers). length (journal_lines (take place block.entries) z)) a in
    omega (arith, f, own, take_fits block.entries block.answers place, long)

pub report_long : (report : ReportParts) (phases : List PhaseParts) → phases ≡ report.phases → 2 ^ 64 ≤ 2 + length (flat_map phase_lines phases)
    → 2 ^ 64 ≤ length (report_lines report)
report_long report phases p long =
    let same = ap (λ (z : List PhaseParts). length (flat_map phase_lines z)) p in
    omega (arith, same, length-append (flat_map phase_lines report.phases) (says.End ∷ []), long)

pub goes_too_far : {E : Type 0} (P : E → Type 0) (search : Search) (lines : List Line) (r : Result Found E) → IsErrAnd r P
    → 2 ^ 64 ≤ search.line + length lines → GoesOn search lines r
goes_too_far P search lines (Ok found) is long = absurd is
goes_too_far P search lines (Err fault) is long = long

pub at_err : {A E : Type 0} (r : Result A E) {X : Type 0} → X → OnErr r X
at_err (Ok value) x = tt
at_err (Err fault) x = x

-- the numbers of lines rise
from_here : (test : Line → Bool) (n : ℕ) (ls : List Line) (i a : ℕ) → slice_get (numbers_where test n ls) i ≡ Some a → n ≤ a
from_here test n [] i a g = absurd (cc)
from_here test n (l ∷ ls) i a g = at (test l) i g (λ j h. from_here test (n + 1) ls j a h) where
  at : (b : Bool) (i : ℕ) → slice_get (cond b (n ∷ []) [] ++ numbers_where test (n + 1) ls) i ≡ Some a
      → ((j : ℕ) → slice_get (numbers_where test (n + 1) ls) j ≡ Some a → n + 1 ≤ a) → n ≤ a
  at false i g go = let more : n + 1 ≤ a = go i g in omega (arith, more)
  at true zero g go = let same : n ≡ a = same_Some n a g in omega (arith, same)
  at true (suc i) g go = let more : n + 1 ≤ a = go i g in omega (arith, more)

pub lines_rise : (test : Line → Bool) (n : ℕ) (ls : List Line) (i j a b : ℕ) → slice_get (numbers_where test n ls) i ≡ Some a
    → slice_get (numbers_where test n ls) j ≡ Some b → i ≤ j → a ≤ b
lines_rise test n [] i j a b g h l = absurd (cc)
lines_rise test n (x ∷ ls) i j a b g h l =
    at (test x) i j g h l (λ k m p q o. lines_rise test (n + 1) ls k m a b p q o) (λ k p. from_here test (n + 1) ls k b p) where
      at : (t : Bool) (i j : ℕ) → slice_get (cond t (n ∷ []) [] ++ numbers_where test (n + 1) ls) i ≡ Some a
          → slice_get (cond t (n ∷ []) [] ++ numbers_where test (n + 1) ls) j ≡ Some b → i ≤ j
          → ((k m : ℕ) → slice_get (numbers_where test (n + 1) ls) k ≡ Some a → slice_get (numbers_where test (n + 1) ls) m ≡ Some b → k ≤ m → a ≤ b)
          → ((k : ℕ) → slice_get (numbers_where test (n + 1) ls) k ≡ Some b → n + 1 ≤ b) → a ≤ b
      at false i j g h l go low = go i j g h l
      at true zero zero g h l go low = let same : a ≡ b = same_Some a b (sym g ∙ h) in omega (arith, same)
      at true zero (suc j) g h l go low =
          let first : n ≡ a = same_Some n a g in
          let more : n + 1 ≤ b = low j h in omega (arith, more, first)
      at true (suc i) zero g h l go low = absurd (omega (arith, l))
      at true (suc i) (suc j) g h l go low = go i j g h (omega (arith, l))
