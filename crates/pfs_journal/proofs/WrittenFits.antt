-- Each number on the lines that were written is below 2^64.
use Rattle.std.proofs.Common.{ℕ, ◌≡◌, ◌+◌, ◌<◌, ◌≤◌, Bool, true, false, List, [], ◌∷◌, ◌++◌, length, take, drop, Result, Ok, Err, OnOk, sym, ap, ◌∙◌, subst, refl}
use Rattle.std.specs.Prelude.{if◌then◌else◌, IsOk, Some, slice_get}
use Rattle.std.specs.List.{All, flat_map}
use Rattle.std.proofs.lemmas.List.{drop-drop, drop_all, take_all}
use Rattle.std.proofs.lemmas.List.Concat.{flat_map-cons}
use Rattle.std.proofs.lemmas.List.Elements.{All-nil, All-cons, All-head, All-tail, All-append, All-map, All-more}
use Rattle.std.proofs.lemmas.Option.{get_or_from_slice_get}
use Rattle.pfs_event.specs.declared.entry.Entry.{Entry}
use Rattle.pfs_text.specs.declared.values.RowValue.{RowValue}
use Rattle.pfs_journal.specs.declared.line.Line.{Line}
use Rattle.pfs_journal.specs.declared.line.Line.TheVariants as says
use Rattle.pfs_journal.specs.declared.values.LostReport.{LostReport}
use Rattle.pfs_journal.specs.Spelling.{is_answered}
use Rattle.pfs_journal.specs.LineWords.{FitsField, FitsLine}
use Rattle.pfs_journal.specs.ReportLines.{answered_lines, journal_lines, row_lines}
use Rattle.pfs_journal.proofs.WrittenJournals.{Answers, from_there}

-- what was written was built
pub built_fits : {E F : Type 0} (P Q : Type 0) (built : Result (Unit {0}) E) (result : Result (Unit {0}) F) → (P → Q) → OnOk result (IsOk built) → OnOk built P → OnOk result Q
built_fits P Q built (Err e) f ok p = tt
built_fits P Q (Ok x) (Ok y) f ok p = f p
built_fits P Q (Err e) (Ok y) f ok p = absurd (cc ok)

pub so_ok : {E : Type 0} (P : Type 0) (result : Result (Unit {0}) E) → P → OnOk result P
so_ok P (Ok x) p = p
so_ok P (Err e) p = tt

-- the lines of each part of a list
pub each_fits : {A : Type 0} (lines : A → List Line) (xs : List A) → All (λ x. All FitsLine (lines x)) xs → All FitsLine (flat_map lines xs)
each_fits lines [] a = All-nil FitsLine
each_fits {A} lines (x ∷ xs) a =
    let P : A → Type 0 = λ y. All FitsLine (lines y) in
    subst (All FitsLine) (sym (flat_map-cons lines x xs)) (All-append FitsLine (lines x) (flat_map lines xs) (All-head P x xs a) (each_fits lines xs (All-tail P x xs a)))

pub rows_fit : (rows : List (List RowValue)) → All (λ row. FitsLine (says.Row row)) rows → All FitsLine (row_lines rows)
rows_fit rows a = All-map FitsLine says.Row rows a

pub lost_fits : (lost : LostReport) → FitsField (Some lost.number) → FitsLine (says.Lost lost)
lost_fits lost fits = All-cons FitsField (Some lost.number) [] fits (All-nil FitsField)

-- an answer, where one is due
pub answer_fits : (b : Bool) (rows : List (List RowValue)) → b ≡ true → All FitsLine (row_lines rows) → All FitsLine (if b then row_lines rows else [])
answer_fits true rows is a = a
answer_fits false rows is a = All-nil FitsLine

pub no_answer_fits : (b : Bool) (rows : List (List RowValue)) → b ≡ false → All FitsLine (if b then row_lines rows else [])
no_answer_fits true rows is = absurd (cc is)
no_answer_fits false rows is = All-nil FitsLine

-- a journal without answers is its entries' lines
without : (b : Bool) (entry : Entry) (entries : List Entry) → FitsLine (says.Entry entry) → All FitsLine (journal_lines entries [])
    → All FitsLine ((says.Entry entry ∷ (if b then [] else [])) ++ journal_lines entries (if b then [] else []))
without true entry entries h rest = All-cons FitsLine (says.Entry entry) (journal_lines entries []) h rest
without false entry entries h rest = All-cons FitsLine (says.Entry entry) (journal_lines entries []) h rest

pub unanswered_fit : (entries : List Entry) → All (λ entry. FitsLine (says.Entry entry)) entries → All FitsLine (journal_lines entries [])
unanswered_fit [] a = All-nil FitsLine
unanswered_fit (entry ∷ entries) a =
    let P : Entry → Type 0 = λ e. FitsLine (says.Entry e) in
    without (is_answered entry) entry entries (All-head P entry entries a) (unanswered_fit entries (All-tail P entry entries a))

-- one entry more
pub entries_more : (entries : List Entry) (at : ℕ) (entry : Entry) → at < length entries → slice_get entries at ≡ Some entry → FitsLine (says.Entry entry)
    → All (λ e. FitsLine (says.Entry e)) (take at entries) → All (λ e. FitsLine (says.Entry e)) (take (at + 1) entries)
entries_more entries at entry within stands fits a =
    let P : Entry → Type 0 = λ e. FitsLine (says.Entry e) in
    All-more P entries at entry within a (subst P (sym (get_or_from_slice_get entries at entry entry stands)) fits)

pub entries_all : (entries : List Entry) (at : ℕ) → length entries ≤ at → All (λ e. FitsLine (says.Entry e)) (take at entries) → All (λ e. FitsLine (says.Entry e)) entries
entries_all entries at past a = subst (All (λ (e : Entry). FitsLine (says.Entry e))) (take_all at entries past) a

-- where what is left of a journal fits, so does all
abbrev pub Rests : List Entry → Answers → ℕ → ℕ → Type 0
Rests entries answers at place = All FitsLine (journal_lines (drop at entries) (drop place answers)) → All FitsLine (journal_lines entries answers)

next_answers : (answers : Answers) (place : ℕ) (b : Bool) → (if b then drop 1 (drop place answers) else drop place answers) ≡ drop (if b then place + 1 else place) answers
next_answers answers place true = drop-drop 1 place answers
next_answers answers place false = refl

pub rests_more : (entries : List Entry) (answers : Answers) (at place : ℕ) (entry : Entry) → at < length entries → slice_get entries at ≡ Some entry → All FitsLine (answered_lines entry (drop place answers))
    → Rests entries answers at place → (next : ℕ) → next ≡ (if is_answered entry then place + 1 else place) → Rests entries answers (at + 1) next
rests_more entries answers at place entry within stands here rests next is = λ behind.
    let left = drop (at + 1) entries in
    let a : All FitsLine (journal_lines left (if is_answered entry then drop 1 (drop place answers) else drop place answers)) =
    subst (λ (z : Answers). All FitsLine (journal_lines left z)) (ap (λ n. drop n answers) is ∙ sym (next_answers answers place (is_answered entry))) behind in
    rests (subst (λ (es : List Entry). All FitsLine (journal_lines es (drop place answers))) (sym (from_there entries at entry within stands))
    (All-append FitsLine (answered_lines entry (drop place answers)) (journal_lines left (if is_answered entry then drop 1 (drop place answers) else drop place answers)) here a))

pub rests_none : (entries : List Entry) (answers : Answers) (at place : ℕ) → length entries ≤ at → Rests entries answers at place → All FitsLine (journal_lines entries answers)
rests_none entries answers at place past rests = rests (subst (λ (es : List Entry). All FitsLine (journal_lines es (drop place answers))) (sym (drop_all at entries past)) (All-nil FitsLine))
