-- Lines of a report counted, part by part.
use Rattle.std.proofs.Common.{◌≡◌, refl, ℕ, zero, suc, ◌+◌, ◌-◌, ◌<◌, ◌≤◌, Bool, true, false, List, [], ◌∷◌, ◌++◌, length, map, get_or, take, drop, sym, ◌∙◌, ap, arith, Some, IsErrAnd}
use Rattle.std.specs.Prelude.{◌^◌, Result, Ok, Err, slice_get, if◌then◌else◌}
use Rattle.std.specs.List.{flat_map, slice_index_or}
use Rattle.std.proofs.lemmas.Grind.{flat_map-append}
use Rattle.std.proofs.lemmas.List.{append-nil, drop-drop, drop_all, drop_more, length-append, length-map, take_all, take_more}
use Rattle.std.proofs.lemmas.Option.{get_or_from_slice_get}
use Rattle.pfs_event.specs.declared.entry.Entry.{Entry}
use Rattle.pfs_text.specs.declared.values.RowValue.{RowValue}
use Rattle.pfs_journal.specs.ReportLines.{block_lines, journal_lines, phase_lines, row_lines, table_lines}
use Rattle.pfs_journal.specs.Spelling.{is_answered}
use Rattle.pfs_journal.specs.declared.line.Line.{Line}
use Rattle.pfs_journal.specs.declared.line.Line.TheVariants as says
use Rattle.pfs_journal.specs.declared.blocks.BlockReport.{BlockReport}
use Rattle.pfs_journal.specs.declared.report.PhaseParts.{PhaseParts}
use Rattle.pfs_journal.specs.declared.values.LostReport.{LostReport}
use Rattle.pfs_journal.specs.declared.values.TableReport.{TableReport}
use Rattle.pfs_check_line_numbers.specs.LineCounts.{IsLineOf, Reaches, result_lines}
use Rattle.pfs_check_line_numbers.specs.declared.line_counts.Spot.{Spot}

-- an entry without an answer, and one with its answer
plain_entry : (e : Entry) (es : List Entry) (answers : List (List (List RowValue))) → is_answered e ≡ false → length (journal_lines (e ∷ es) answers) ≡ 1 + length (journal_lines es answers)
plain_entry e es answers h = at (is_answered e) h where
  at : (b : Bool) → b ≡ false
      → length ((says.Entry e ∷ (if b then row_lines (slice_index_or answers 0 []) else [])) ++ journal_lines es (if b then drop 1 answers else answers))
      ≡ 1 + length (journal_lines es answers)
  at true h = absurd (cc)
  at false h = omega arith

answered_entry : (e : Entry) (es : List Entry) (answers : List (List (List RowValue))) → is_answered e ≡ true → length (journal_lines (e ∷ es) answers) ≡ 1 + (length (row_lines (slice_index_or answers 0 [])) + length (journal_lines es (drop 1 answers)))
answered_entry e es answers h = at (is_answered e) h where
  at : (b : Bool) → b ≡ true
      → length ((says.Entry e ∷ (if b then row_lines (slice_index_or answers 0 []) else [])) ++ journal_lines es (if b then drop 1 answers else answers))
      ≡ 1 + (length (row_lines (slice_index_or answers 0 [])) + length (journal_lines es (drop 1 answers)))
  at false h = absurd (cc)
  at true h = omega (arith, length-append (row_lines (slice_index_or answers 0 [])) (journal_lines es (drop 1 answers)))

pub behind_plain : (spot : Spot) (line : ℕ) (e : Entry) (rest : List Entry) (answers : List (List (List RowValue))) → is_answered e ≡ false → line ≡ spot.line + 1 → IsLineOf (record { line = line; place = spot.place }) rest answers spot (e ∷ rest)
behind_plain spot line e rest answers h l = record {
  same = omega (arith, plain_entry e rest (drop spot.place answers) h, l);
}

pub behind_answered : (spot : Spot) (line end : ℕ) (e : Entry) (rest : List Entry) (answers : List (List (List RowValue))) → is_answered e ≡ true → line ≡ spot.line + 1 → end ≡ line + length (row_lines (slice_index_or (drop spot.place answers) 0 [])) → IsLineOf (record { line = end; place = spot.place + 1 }) rest answers spot (e ∷ rest)
behind_answered spot line end e rest answers h l n = record {
  same = omega (
    arith,
    answered_entry e rest (drop spot.place answers) h,
    l,
    n,
    ap (λ z. length (journal_lines rest z)) (drop-drop 1 spot.place answers),
  );
}

-- the lines of an answer that isn't there, and of one that is
pub no_answer : (answers : List (List (List RowValue))) (place line : ℕ) → length answers ≤ place → line ≡ line + length (row_lines (slice_index_or (drop place answers) 0 []))
no_answer answers place line h =
    let none = ap (λ (z : List (List (List RowValue))). length (row_lines (slice_index_or z 0 []))) (drop_all place answers h) in
    omega (arith, none)

pub one_answer : (answers : List (List (List RowValue))) (place : ℕ) (answer : List (List RowValue)) → place < length answers → answer ≡ get_or answers place answer → length answer ≡ length (row_lines (slice_index_or (drop place answers) 0 []))
one_answer answers place answer h is =
    ap length is
    ∙ sym (length-map (get_or answers place answer) says.Row)
    ∙ sym (ap (λ (z : List (List (List RowValue))). length (row_lines (slice_index_or z 0 []))) (drop_more answers place answer h))

-- a phase's lines: its own, those of its blocks, and the results
pub phase_reaches : (report : PhaseParts) (line first last : ℕ) → first ≡ line + 1 → last ≡ first + length (flat_map block_lines report.blocks) → last + length (result_lines report) ≡ line + length (phase_lines report)
phase_reaches report line first last f l =
    omega (arith, f, l, length-append (flat_map block_lines report.blocks) (result_lines report))

-- a block's: its own, and its journal
pub block_reaches : (report : BlockReport) (line first count : ℕ) (answers : List (List (List RowValue))) → answers ≡ report.answers → count ≡ length report.entries → first ≡ line + 1 → first + length (journal_lines (take count report.entries) answers) ≡ line + length (block_lines report)
block_reaches report line first count answers a n f =
    let all : take count report.entries ≡ report.entries = take_all count report.entries (omega (arith, n)) in
    let entries = ap (λ (z : List Entry). length (journal_lines z answers)) all in
    let same = ap (λ (z : List (List (List RowValue))). length (journal_lines report.entries z)) a in
    omega (arith, f, entries, same)

-- a table's: its own, and its rows
pub table_reaches : (table : TableReport) (rows : List (List RowValue)) (line first : ℕ) → rows ≡ table.rows → first ≡ line + 1 → first + length rows ≡ line + length (table_lines table)
table_reaches table rows line first r f =
    let same = ap length r in
    omega (arith, f, same, length-map table.rows says.Row)

-- Of parts that are counted one after another: the line behind one more, behind all, and what is so if one of them
-- reaches too far.
pub reach_more : {A : Type 0} (lines : A → List Line) (from end next at : ℕ) (all : List A) (x : A) → at < length all → x ≡ get_or all at x
    → end ≡ from + length (flat_map lines (take at all)) → next ≡ end + length (lines x) → next ≡ from + length (flat_map lines (take (at + 1) all))
reach_more {A} lines from end next at all x h is before n =
    let one = get_or all at x in
    let more : length (flat_map lines (take (at + 1) all)) ≡ length (flat_map lines (take at all)) + length (flat_map lines (one ∷ [])) =
    ap (λ (z : List A). length (flat_map lines z)) (take_more all at x h)
    ∙ ap length (flat_map-append lines (take at all) (one ∷ []))
    ∙ length-append (flat_map lines (take at all)) (flat_map lines (one ∷ [])) in
    let alone : length (flat_map lines (one ∷ [])) ≡ length (lines one) = ap length (append-nil (lines one)) in
    let own = ap (λ (z : A). length (lines z)) is in
    omega (arith, more, alone, own, before, n)

pub reach_over : {A : Type 0} (lines : A → List Line) (from end at : ℕ) (all : List A) → length all ≤ at
    → end ≡ from + length (flat_map lines (take at all)) → end ≡ from + length (flat_map lines all)
reach_over {A} lines from end at all h before =
    let whole = ap (λ (z : List A). length (flat_map lines z)) (take_all at all h) in
    omega (arith, whole, before)

front_fits : {A : Type 0} (lines : A → List Line) (all : List A) (at : ℕ) (x : A) → at < length all → x ≡ get_or all at x
    → length (flat_map lines (take at all)) + length (lines x) ≤ length (flat_map lines all)
front_fits lines [] at x h is = absurd (omega (arith, h))
front_fits {A} lines (y ∷ ys) zero x h is =
    let own = ap (λ (z : A). length (lines z)) is in
    omega (arith, own, length-append (lines y) (flat_map lines ys))
front_fits lines (y ∷ ys) (suc at) x h is =
    let rest = front_fits lines ys at x (omega (arith, h)) is in
    omega (arith, rest, length-append (lines y) (flat_map lines (take at ys)), length-append (lines y) (flat_map lines ys))

pub part_long : {A : Type 0} (lines : A → List Line) (from end at : ℕ) (all : List A) (x : A) → at < length all → x ≡ get_or all at x
    → end ≡ from + length (flat_map lines (take at all)) → 2 ^ 64 ≤ end + length (lines x) → 2 ^ 64 ≤ from + length (flat_map lines all)
part_long lines from end at all x h is before long =
    let fits = front_fits lines all at x h is in
    omega (arith, fits, before, long)

-- the results: their own line, the tables and the counters
pub results_reach : (report : PhaseParts) (tables : List TableReport) (counters : List LostReport) (line first lost : ℕ) → tables ≡ report.tables → counters ≡ report.lost → first ≡ line + 1 → lost ≡ first + length (flat_map table_lines tables) → lost + length counters ≡ line + length (result_lines report)
results_reach report tables counters line first lost t c f l =
    let own = ap (λ (z : List TableReport). length (flat_map table_lines z)) t in
    let same = ap length c in
    omega (
      arith,
      f,
      l,
      own,
      same,
      length-map report.lost says.Lost,
      length-append (flat_map table_lines report.tables) (map says.Lost report.lost),
    )

-- as many entries as are counted, from the first one on
pub spot_begun : (spot : Spot) (es : List Entry) (answers : List (List (List RowValue))) (count : ℕ) → IsLineOf spot (take (count - 0) (drop 0 es)) answers spot (take count es)
spot_begun spot es answers count =
    let all : count - 0 ≡ count = omega arith in
    record { same = ap (λ n. spot.line + length (journal_lines (take n es) (drop spot.place answers))) all }

-- one entry more of a part
part_step : (es : List Entry) (place to : ℕ) (e : Entry) → slice_get es place ≡ Some e → place < length es → place < to
    → take (to - place) (drop place es) ≡ e ∷ take (to - (place + 1)) (drop (place + 1) es)
part_step es place to e s h k =
    let more : to - place ≡ suc (to - (place + 1)) = omega arith in
    rw (drop_more es place e h, get_or_from_slice_get es place e e s, more) refl

-- a part of a journal without its first entry
pub spot_step : (spot next from : Spot) (es : List Entry) (answers : List (List (List RowValue))) (whole : List Entry) (at count : ℕ) (e : Entry) → slice_get es at ≡ Some e → at < length es → at < count → IsLineOf next (take (count - (at + 1)) (drop (at + 1) es)) answers spot (e ∷ take (count - (at + 1)) (drop (at + 1) es)) → IsLineOf spot (take (count - at) (drop at es)) answers from whole → IsLineOf next (take (count - (at + 1)) (drop (at + 1) es)) answers from whole
spot_step spot next from es answers whole at count e s h k one before = record {
  same = one.same
      ∙ sym (ap (λ z. spot.line + length (journal_lines z (drop spot.place answers))) (part_step es at count e s h k))
      ∙ before.same;
}

-- and without all that are counted
pub spot_ended : (spot : Spot) (line : ℕ) (es : List Entry) (answers : List (List (List RowValue))) (whole : List Entry) (at count : ℕ) → count ≤ at → IsLineOf spot (take (count - at) (drop at es)) answers (record { line = line; place = 0 }) whole → spot.line ≡ line + length (journal_lines whole answers)
spot_ended spot line es answers whole at count h before =
    let none : count - at ≡ 0 = omega arith in
    let left = ap (λ (n : ℕ). length (journal_lines (take n (drop at es)) (drop spot.place answers))) none in
    omega (arith, left, before.same)

-- a journal in which an entry reaches too far
pub spot_long : (spot : Spot) (line : ℕ) (es : List Entry) (answers : List (List (List RowValue))) (at count : ℕ) (e : Entry) → slice_get es at ≡ Some e
    → at < length es → at < count → 2 ^ 64 ≤ spot.line + length (journal_lines (e ∷ take (count - (at + 1)) (drop (at + 1) es)) (drop spot.place answers))
    → IsLineOf spot (take (count - at) (drop at es)) answers (record { line = line; place = 0 }) (take count es)
    → 2 ^ 64 ≤ line + length (journal_lines (take count es) answers)
spot_long spot line es answers at count e s h k long before =
    let step = ap (λ z. spot.line + length (journal_lines z (drop spot.place answers))) (part_step es at count e s h k) in
    omega (arith, long, step, before.same)

-- the entries of a journal before a place reach no further than all
pub take_fits : (es : List Entry) (answers : List (List (List RowValue))) (n : ℕ) → length (journal_lines (take n es) answers) ≤ length (journal_lines es answers)
take_fits es answers zero = omega arith
take_fits [] answers (suc n) = omega arith
take_fits (e ∷ es) answers (suc n) = on (is_answered e) (λ left. take_fits es left n) where
  rows : List Line
  rows = row_lines (slice_index_or answers 0 [])

  on : (b : Bool) → ((left : List (List (List RowValue))) → length (journal_lines (take n es) left) ≤ length (journal_lines es left))
      → length ((says.Entry e ∷ (if b then rows else [])) ++ journal_lines (take n es) (if b then drop 1 answers else answers))
      ≤ length ((says.Entry e ∷ (if b then rows else [])) ++ journal_lines es (if b then drop 1 answers else answers))
  on true go =
      let fits = go (drop 1 answers) in
      omega (arith, fits, length-append rows (journal_lines (take n es) (drop 1 answers)), length-append rows (journal_lines es (drop 1 answers)))
  on false go = let fits = go answers in omega (arith, fits)

-- an Err says so
pub too_many : {E : Type 0} (P : E → Type 0) (r : Result ℕ E) (due : ℕ) → IsErrAnd r P → 2 ^ 64 ≤ due → Reaches r due
too_many P (Ok line) due is long = absurd is
too_many P (Err fault) due is long = long
