-- A SELECT that reads the store is answered by one list of rows, and where its readings are wrong it is so first.
use Rattle.std.proofs.Common.{◌≡◌, refl, ℕ, suc, ◌+◌, ◌<◌, ◌≤◌, true, false, List, [], ◌∷◌, ◌++◌, length, map, sym, ◌∙◌, ap, subst, ◌⊎◌, inl, inr, arith}
use Rattle.std.specs.Prelude.{All}
use Rattle.std.proofs.lemmas.List.Elements.{All-cons, All-nil, All-tail, All-take}
use Rattle.std.proofs.Math.Seq.{take-append_seam}
use Rattle.pfs_admin.specs.AdministrationStates.{State}
use Rattle.pfs_classes.specs.declared.setting.Setting.{Setting}
use Rattle.pfs_event.specs.declared.entry.Entry.{Entry}
use Rattle.pfs_event.specs.declared.entry.Entry.TheVariants as says
use Rattle.pfs_exec.specs.Selections.{IsAnswer}
use Rattle.pfs_exec.specs.declared.query.Select.{Select}
use Rattle.pfs_journal.specs.Spelling.{is_answered}
use Rattle.pfs_model.specs.EntryAsks.{is_reading}
use Rattle.pfs_readsets.specs.ReadSets.{IsReadSet}
use Rattle.pfs_readsets.specs.TablePlaces.{scope_of}
use Rattle.pfs_readsets.proofs.EqualReadings.{RowsArePlaces}
use Rattle.pfs_rows.specs.declared.table.Reading.{Reading}
use Rattle.pfs_rows.specs.declared.table.Reading.TheVariants as readings
use Rattle.pfs_rows.specs.declared.table.Seen.TheVariants.{Whole, Free, Busy}
use Rattle.pfs_runs.specs.SelectAnswers.{Answer, IsAnswered, IsQueried, IsShown, Stored}
use Rattle.pfs_session.specs.Inquiries.{reading_entry}
use Rattle.pfs_text.specs.declared.values.RowValue.{RowValue}
use Rattle.pfs_tables.specs.ListedRows.{listed_rows}
use Rattle.pfs_check_faults.specs.AnswerFaults.{AnswerFails, AnswersUpTo, ReadsUpTo}
use Rattle.pfs_check_answers.specs.AnswerJudgements.{IsFirstWrong, IsJudged}
use Rattle.pfs_check_answers.specs.RowCounts.{IsCompared}
use Rattle.pfs_check_answers.specs.SelectReadings.{IsMisread}
use Rattle.pfs_check_answers.specs.declared.answered.Answered.{Answered}
use Rattle.pfs_check_answers.proofs.AnswerLines.{AreRowsDue, NoneAnswered, judged, lines_long}
use Rattle.pfs_check_answers.proofs.EntryReadings.{told_same}
use Rattle.pfs_check_answers.proofs.FreeWords.{listed_told}
use Rattle.pfs_check_answers.proofs.Misreads.{misread_before, misread_fails, misread_within, query_part}

-- what ends alike is alike before its end too
pub ends_alike : (xs ys : List Entry) (a b : Entry) → xs ++ a ∷ [] ≡ ys ++ b ∷ [] → (xs ≡ ys) × (a ≡ b)
ends_alike [] [] a b e = (refl, let f : a ≡ b = cc in f)
ends_alike [] (y ∷ []) a b e = absurd (cc)
ends_alike [] (y ∷ other ∷ ys) a b e = absurd (cc)
ends_alike (x ∷ []) [] a b e = absurd (cc)
ends_alike (x ∷ other ∷ xs) [] a b e = absurd (cc)
ends_alike (x ∷ xs) (y ∷ ys) a b e =
    let head : x ≡ y = cc in
    let rest = ends_alike xs ys a b (let f : xs ++ a ∷ [] ≡ ys ++ b ∷ [] = cc in f) in
    (ap (λ z. z ∷ xs) head ∙ ap (λ z. y ∷ z) rest.0, rest.1)

pub same_count : (a b : ℕ) → says.Rows a ≡ says.Rows b → a ≡ b
same_count a b e = cc

reading_unanswered : (r : Reading) → is_answered (reading_entry r) ≡ false
reading_unanswered (readings.Slot row (Whole version content)) = refl
reading_unanswered (readings.Slot row (Free word)) = refl
reading_unanswered (readings.Slot row (Busy first second)) = refl
reading_unanswered (readings.Word word version flags) = refl

readings_unanswered : (rs : List Reading) → NoneAnswered (map reading_entry rs)
readings_unanswered [] = All-nil (λ entry. is_answered entry ≡ false)
readings_unanswered (r ∷ rs) = All-cons (λ entry. is_answered entry ≡ false) (reading_entry r) (map reading_entry rs) (reading_unanswered r) (readings_unanswered rs)

-- a query has one answer over the same rows
abbrev pub OneAnswer : Type 0
OneAnswer = (query : Select) (rows a b : List (List RowValue)) → IsAnswer query rows a → IsAnswer query rows b → a ≡ b

module _ (one_answer : OneAnswer) (setting : Setting) (content : ℕ → ℕ → List ℕ) (flags : ℕ → ℕ → ℕ) (before : ℕ → State) (select : Select) where
  -- by whole readings that show what stood there
  pub record IsReadRightly (rs : List Reading) : Type 0 where
    pub whole : IsReadSet (scope_of setting) select.table rs
    pub shown : All (IsShown content flags) rs

  same_listed : (xs ys : List Reading) → map reading_entry xs ≡ map reading_entry ys → All (IsShown content flags) xs → All (IsShown content flags) ys
      → listed_rows setting select.table xs ≡ listed_rows setting select.table ys
  same_listed xs ys same all every =
      sym (listed_told setting select.table xs) ∙ (ap (listed_rows setting select.table) (told_same content flags xs ys same all every) ∙ listed_told setting select.table ys)

  none : (rs : List Reading) → NoneAnswered (says.Query ∷ map reading_entry rs)
  none rs = All-cons (λ entry. is_answered entry ≡ false) says.Query (map reading_entry rs) refl (readings_unanswered rs)

  due_read : (rs : List Reading) (due : Answer) → IsReadRightly rs → IsAnswer select (listed_rows setting select.table rs) due
      → AreRowsDue setting (IsAnswered setting content flags before) (Stored select) (says.Query ∷ map reading_entry rs) (none rs) due
  due_read rs due read is = record {
    right = record { readings = rs; whole = read.whole; shown = read.shown; told = refl; answered = is };
    only = λ number rows q. only number rows q;
  } where
    only : (number : ℕ) (rows : Answer) → IsQueried setting content flags select (says.Query ∷ (map reading_entry rs ++ says.Rows number ∷ [])) rows → (number ≡ length due) × (rows ≡ due)
    only number rows q =
        let e = ends_alike (says.Query ∷ map reading_entry rs) (says.Query ∷ map reading_entry q.readings) (says.Rows number) (says.Rows (length rows)) q.told in
        let same : map reading_entry q.readings ≡ map reading_entry rs = sym (tail says.Query (map reading_entry rs) (map reading_entry q.readings) e.0) in
        let rows_are : rows ≡ due =
        one_answer select (listed_rows setting select.table rs) rows due
        (subst (λ z. IsAnswer select z rows) (same_listed q.readings rs same q.shown read.shown) q.answered) is in
        (same_count number (length rows) e.1 ∙ ap length rows_are, rows_are) where
          tail : (x : Entry) (ys zs : List Entry) → x ∷ ys ≡ x ∷ zs → ys ≡ zs
          tail x ys zs e = cc

  pub read_judged : (rs : List Reading) (due answer : Answer) (number : ℕ) (part : List Entry) (result : Answered) → IsReadRightly rs
      → IsAnswer select (listed_rows setting select.table rs) due → part ≡ query_part (map reading_entry rs) number
      → IsCompared (length (says.Query ∷ map reading_entry rs)) number due answer result
      → IsJudged setting (IsAnswered setting content flags before) (Stored select) part answer result
  read_judged rs due answer number part result read is part_is compared =
      judged setting (IsAnswered setting content flags before) (Stored select) (says.Query ∷ map reading_entry rs) (none rs) number due answer part result part_is
      (λ at. record { readings = rs; whole = read.whole; number = number; alike = refl }) (due_read rs due read is) compared

  -- and where it isn't read so
  pub misread_judged : RowsArePlaces → (entries : List Entry) (number at : ℕ) (answer : Answer) (part : List Entry) → IsMisread (scope_of setting) select.table entries at
      → All (λ entry. is_reading entry ≡ true) entries → part ≡ query_part entries number
      → IsFirstWrong setting (IsAnswered setting content flags before) (Stored select) part answer (1 + at)
  misread_judged places entries number at answer part m all part_is =
      subst (λ z. IsFirstWrong setting (IsAnswered setting content flags before) (Stored select) z answer (1 + at)) (sym part_is) (record {
        fails = record {
          at = suc at;
          line_is = omega arith;
          within = let e = lines_long (query_part entries number) (answer ∷ []) in let f = long entries in let g = misread_within places setting select entries number at m in omega (arith, e, f, g);
          wrong = inl (λ up. misread_fails places setting select entries number at m all up);
        };
        first = λ other low fail. before_fails other low fail;
      }) where
        long : (es : List Entry) → length (query_part es number) ≡ length es + 2
        long [] = omega arith
        long (e ∷ es) = let rest = long es in omega (arith, rest)

        before_fails : (other : ℕ) → other < 1 + at → AnswerFails setting (IsAnswered setting content flags before) (Stored select) (query_part entries number) answer 0 other → ⊥
        before_fails other low fail = on fail.wrong where
          on : (ReadsUpTo setting (Stored select) (query_part entries number) fail.at → ⊥)
              ⊎ ((length (query_part entries number) ≤ fail.at + 1) × (AnswersUpTo (IsAnswered setting content flags before) (Stored select) (query_part entries number) answer fail.at → ⊥)) → ⊥
          on (inl never) = never (misread_before places setting select entries number at m fail.at (omega (arith, low, fail.line_is)))
          on (inr never) =
              let f = long entries in
              let g = misread_within places setting select entries number at m in
              omega (arith, f, g, never.0, low, fail.line_is)

-- what holds of all its entries holds of those between
pub all_between : (P : Entry → Type 0) (part entries : List Entry) (number : ℕ) → part ≡ query_part entries number → All P part → All P entries
all_between P part entries number is all =
    let behind = All-tail P says.Query (entries ++ says.Rows number ∷ []) (subst (All P) is all) in
    subst (All P) (take-append_seam entries (says.Rows number ∷ [])) (All-take P (length entries) (entries ++ says.Rows number ∷ []) behind)
