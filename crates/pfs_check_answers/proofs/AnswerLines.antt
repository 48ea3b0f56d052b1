-- The entries and rows of a SELECT against those that are due: where the first of them is wrong.
use Rattle.std.proofs.Common.{◌≡◌, refl, ℕ, zero, suc, ◌+◌, ◌≤◌, Bool, true, false, List, [], ◌∷◌, ◌++◌, length, map, take, drop, get_or, sym, ◌∙◌, ap, subst, ◌⊎◌, inl, inr, arith}
use Rattle.std.specs.Prelude.{All, if◌then◌else◌}
use Rattle.std.proofs.lemmas.List.{append-nil, length-append, length-map}
use Rattle.std.proofs.lemmas.List.Elements.{All-head, All-tail}
use Rattle.pfs_classes.specs.declared.setting.Setting.{Setting}
use Rattle.pfs_event.specs.declared.entry.Entry.{Entry}
use Rattle.pfs_event.specs.declared.entry.Entry.TheVariants as says
use Rattle.pfs_journal.specs.ReportLines.{journal_lines, row_lines}
use Rattle.pfs_journal.specs.Spelling.{is_answered}
use Rattle.pfs_journal.specs.declared.line.Line.{Line}
use Rattle.pfs_journal.specs.declared.line.Line.TheVariants as lines
use Rattle.pfs_runs.specs.SelectAnswers.{Answer, Selection}
use Rattle.pfs_text.specs.declared.values.RowValue.{RowValue}
use Rattle.pfs_check_faults.specs.AnswerFaults.{AnswerFails, AnswersUpTo, ReadsUpTo}
use Rattle.pfs_check_faults.specs.ReportCases.{AlikeUpTo}
use Rattle.pfs_check_finals.specs.Differences.{DifferAt}
use Rattle.pfs_check_answers.proofs.RowDifferences.{alike_before, differ_behind, differ_within, not_alike}
use Rattle.pfs_check_answers.specs.AnswerJudgements.{IsFirstWrong, IsJudged}
use Rattle.pfs_check_answers.specs.RowCounts.{IsCompared}
use Rattle.pfs_check_answers.specs.declared.answered.Answered.{Answered}
use Rattle.pfs_check_answers.specs.declared.answered.Answered.TheVariants.{Kept, Wrong}

abbrev pub NoneAnswered : List Entry → Type 0
NoneAnswered entries = All (λ entry. is_answered entry ≡ false) entries

-- ---- the lines of a SELECT: its entries, and then the rows of its answer

unanswered : (entry : Entry) (entries : List Entry) (answers : List Answer) → is_answered entry ≡ false
    → journal_lines (entry ∷ entries) answers ≡ lines.Entry entry ∷ journal_lines entries answers
unanswered entry entries answers none =
    ap (λ b. (lines.Entry entry ∷ (if b then row_lines (get_or answers 0 []) else [])) ++ journal_lines entries (if b then drop 1 answers else answers)) none

fronts : List Entry → ℕ → List Line
fronts opening number = map lines.Entry opening ++ lines.Entry (says.Rows number) ∷ []

front_lines : (opening : List Entry) (number : ℕ) (rows : Answer) → NoneAnswered opening
    → journal_lines (opening ++ says.Rows number ∷ []) (rows ∷ []) ≡ fronts opening number ++ row_lines rows
unfolding fronts
front_lines [] number rows none = ap (λ z. lines.Entry (says.Rows number) ∷ z) (append-nil (row_lines rows))
front_lines (entry ∷ opening) number rows none =
    unanswered entry (opening ++ says.Rows number ∷ []) (rows ∷ []) (All-head (λ e. is_answered e ≡ false) entry opening none)
    ∙ ap (λ z. lines.Entry entry ∷ z) (front_lines opening number rows (All-tail (λ e. is_answered e ≡ false) entry opening none))

fronts_long : (opening : List Entry) (number : ℕ) → length (fronts opening number) ≡ length opening + 1
unfolding fronts
fronts_long [] number = omega arith
fronts_long (entry ∷ opening) number = let rest = fronts_long opening number in omega (arith, rest)

part_long : (opening : List Entry) (number : ℕ) → length (opening ++ says.Rows number ∷ []) ≡ length opening + 1
part_long [] number = omega arith
part_long (entry ∷ opening) number = let rest = part_long opening number in omega (arith, rest)

row_in : Line → List RowValue
row_in (lines.Row row) = row
row_in _ = []

rows_differ : (xs ys : Answer) (at : ℕ) → DifferAt xs ys at → DifferAt (row_lines xs) (row_lines ys) at
unfolding row_in
rows_differ [] [] at d = absurd d
rows_differ [] (y ∷ ys) zero d = tt
rows_differ [] (y ∷ ys) (suc at) d = absurd d
rows_differ (x ∷ xs) [] zero d = tt
rows_differ (x ∷ xs) [] (suc at) d = absurd d
rows_differ (x ∷ xs) (y ∷ ys) zero d = λ e. d (ap row_in e)
rows_differ (x ∷ xs) (y ∷ ys) (suc at) d = (ap lines.Row d.0, rows_differ xs ys at d.1)

-- as many lines as it has entries, and more
pub lines_long : (part : List Entry) (answers : List Answer) → length part ≤ length (journal_lines part answers)
lines_long [] answers = omega arith
lines_long (entry ∷ part) answers = on (is_answered entry) (λ given. lines_long part given) where
  on : (b : Bool) → ((given : List Answer) → length part ≤ length (journal_lines part given))
      → suc (length part) ≤ length ((lines.Entry entry ∷ (if b then row_lines (get_or answers 0 []) else [])) ++ journal_lines part (if b then drop 1 answers else answers))
  on false rest = let r = rest answers in omega (arith, r)
  on true rest =
      let r = rest (drop 1 answers) in
      let e : length ((lines.Entry entry ∷ row_lines (get_or answers 0 [])) ++ journal_lines part (drop 1 answers)) ≡ suc (length (row_lines (get_or answers 0 [])) + length (journal_lines part (drop 1 answers))) =
      ap suc (length-append (row_lines (get_or answers 0 [])) (journal_lines part (drop 1 answers))) in
      omega (arith, r, e)

-- as many as its entries and rows
pub lines_count : (opening : List Entry) (number : ℕ) (rows : Answer) → NoneAnswered opening
    → length (journal_lines (opening ++ says.Rows number ∷ []) (rows ∷ [])) ≡ length (opening ++ says.Rows number ∷ []) + length rows
lines_count opening number rows none =
    ap length (front_lines opening number rows none)
    ∙ (length-append (fronts opening number) (row_lines rows)
    ∙ (ap (λ n. n + length (row_lines rows)) (fronts_long opening number ∙ sym (part_long opening number))
    ∙ ap (λ n. length (opening ++ says.Rows number ∷ []) + n) (length-map rows lines.Row)))

-- and of entries without an answer as many as they are
pub silent_long : (part : List Entry) → length (journal_lines part []) ≡ length part
silent_long [] = refl
silent_long (entry ∷ part) = on (is_answered entry) (silent_long part) where
  on : (b : Bool) → length (journal_lines part []) ≡ length part
      → length ((lines.Entry entry ∷ (if b then row_lines (get_or {A = Answer} [] 0 []) else [])) ++ journal_lines part (if b then drop 1 [] else [])) ≡ suc (length part)
  on true rest = ap suc rest
  on false rest = ap suc rest

entry_in : Line → Entry
entry_in (lines.Entry entry) = entry
entry_in _ = says.Query

-- as many entries with the same lines are the same
same_entries : (opening due : List Entry) (number : ℕ) (answers given : List Answer) → NoneAnswered opening → length due ≡ suc (length opening)
    → take (suc (length opening)) (journal_lines due answers) ≡ take (suc (length opening)) (journal_lines (opening ++ says.Rows number ∷ []) given)
    → due ≡ opening ++ says.Rows number ∷ []
unfolding entry_in
same_entries opening [] number answers given none long e = absurd (omega (arith, long))
same_entries [] (d ∷ []) number answers given none long e = let f : lines.Entry d ≡ lines.Entry (says.Rows number) = cc in ap (λ z. z ∷ []) (ap entry_in f)
same_entries [] (d ∷ other ∷ due) number answers given none long e = absurd (omega (arith, long))
same_entries (entry ∷ opening) (d ∷ due) number answers given none long e =
    let no : is_answered entry ≡ false = All-head (λ e. is_answered e ≡ false) entry opening none in
    let f : lines.Entry d ≡ lines.Entry entry = cc in
    let same : d ≡ entry = ap entry_in f in
    let left : journal_lines (d ∷ due) answers ≡ lines.Entry d ∷ journal_lines due answers = unanswered d due answers (ap is_answered same ∙ no) in
    let right : journal_lines (entry ∷ (opening ++ says.Rows number ∷ [])) given ≡ lines.Entry entry ∷ journal_lines (opening ++ says.Rows number ∷ []) given =
    unanswered entry (opening ++ says.Rows number ∷ []) given no in
    let both : take (suc (suc (length opening))) (lines.Entry d ∷ journal_lines due answers) ≡ take (suc (suc (length opening))) (lines.Entry entry ∷ journal_lines (opening ++ says.Rows number ∷ []) given) =
    sym (ap (take (suc (suc (length opening)))) left) ∙ (e ∙ ap (take (suc (suc (length opening)))) right) in
    ap (λ z. z ∷ due) same
    ∙ ap (λ z. entry ∷ z) (same_entries opening due number answers given (All-tail (λ e. is_answered e ≡ false) entry opening none) (omega (arith, long)) (tail (lines.Entry d) (lines.Entry entry)
    (take (suc (length opening)) (journal_lines due answers)) (take (suc (length opening)) (journal_lines (opening ++ says.Rows number ∷ []) given)) both))
  where
    tail : (x y : Line) (xs ys : List Line) → x ∷ xs ≡ y ∷ ys → xs ≡ ys
    tail x y xs ys e = cc

fewer_alike : (few more : ℕ) (xs ys : List Line) → few ≤ more → take more xs ≡ take more ys → take few xs ≡ take few ys
fewer_alike zero more xs ys low e = refl
fewer_alike (suc few) zero xs ys low e = absurd (omega (arith, low))
fewer_alike (suc few) (suc more) [] [] low e = refl
fewer_alike (suc few) (suc more) [] (y ∷ ys) low e = absurd (cc)
fewer_alike (suc few) (suc more) (x ∷ xs) [] low e = absurd (cc)
fewer_alike (suc few) (suc more) (x ∷ xs) (y ∷ ys) low e =
    let head : x ≡ y = cc in
    ap (λ z. z ∷ take few xs) head ∙ ap (λ z. y ∷ z) (fewer_alike few more xs ys (omega (arith, low)) (let f : take more xs ≡ take more ys = cc in f))

-- ---- what is due of a SELECT

module _ (setting : Setting) (answers : Selection → List Entry → Answer → Type 0) (selection : Selection) (opening : List Entry) (none : NoneAnswered opening) where
  -- behind these entries these rows answer it, and no others
  pub record AreRowsDue (due : Answer) : Type 0 where
    pub right : answers selection (opening ++ says.Rows (length due) ∷ []) due
    pub only : (number : ℕ) (rows : Answer) → answers selection (opening ++ says.Rows number ∷ []) rows → (number ≡ length due) × (rows ≡ due)

  -- what an answer up to the last entry, or farther, says: it is that of these entries
  record IsAnsweredUpTo (number : ℕ) (answer : Answer) (at : ℕ) : Type 0 where
    pub rows : Answer
    pub right : answers selection (opening ++ says.Rows number ∷ []) rows
    pub alike : AlikeUpTo (fronts opening number ++ row_lines rows) (fronts opening number ++ row_lines answer) at

  up_to : (number : ℕ) (answer : Answer) (at : ℕ) → length opening ≤ at → AnswersUpTo answers selection (opening ++ says.Rows number ∷ []) answer at → IsAnsweredUpTo number answer at
  up_to number answer at low up =
      let long : length up.due ≡ suc (length opening) = let e = part_long opening number in omega (arith, e, up.long) in
      let same : up.due ≡ opening ++ says.Rows number ∷ [] =
      same_entries opening up.due number (up.rows ∷ []) (answer ∷ []) none long
      (fewer_alike (suc (length opening)) (at + 1) (journal_lines up.due (up.rows ∷ [])) (journal_lines (opening ++ says.Rows number ∷ []) (answer ∷ [])) (omega (arith, low)) up.alike) in
      record {
        rows = up.rows;
        right = subst (λ z. answers selection z up.rows) same up.right;
        alike = sym (ap (take (at + 1)) (ap (λ z. journal_lines z (up.rows ∷ [])) same ∙ front_lines opening number up.rows none)) ∙ (up.alike ∙ ap (take (at + 1)) (front_lines opening number answer none));
      }

  reads_before : (number : ℕ) (answer : Answer) (other : ℕ) → ((at : ℕ) → ReadsUpTo setting selection (opening ++ says.Rows number ∷ []) at)
      → (length opening ≤ other → AnswersUpTo answers selection (opening ++ says.Rows number ∷ []) answer other)
      → AnswerFails setting answers selection (opening ++ says.Rows number ∷ []) answer 0 other → ⊥
  reads_before number answer other reads up fail = on fail.wrong where
    same : fail.at ≡ other
    same = omega (arith, fail.line_is)

    on : (ReadsUpTo setting selection (opening ++ says.Rows number ∷ []) fail.at → ⊥)
        ⊎ ((length (opening ++ says.Rows number ∷ []) ≤ fail.at + 1) × (AnswersUpTo answers selection (opening ++ says.Rows number ∷ []) answer fail.at → ⊥)) → ⊥
    on (inl never) = never (reads fail.at)
    on (inr never) =
        let e = part_long opening number in
        never.1 (subst (λ z. AnswersUpTo answers selection (opening ++ says.Rows number ∷ []) answer z) (sym same) (up (omega (arith, e, never.0, same))))

  -- no row can answer what is read so: it is wrong at the last entry
  pub never_answered : (number : ℕ) (answer : Answer) → ((at : ℕ) → ReadsUpTo setting selection (opening ++ says.Rows number ∷ []) at)
      → ((rows : Answer) → answers selection (opening ++ says.Rows number ∷ []) rows → ⊥)
      → IsFirstWrong setting answers selection (opening ++ says.Rows number ∷ []) answer (length opening)
  never_answered number answer reads never = record {
    fails = record {
      at = length opening;
      line_is = omega arith;
      within = let e = lines_long (opening ++ says.Rows number ∷ []) (answer ∷ []) in let f = part_long opening number in omega (arith, e, f);
      wrong = inr ((let f = part_long opening number in omega (arith, f)), λ up. let u = up_to number answer (length opening) (omega arith) up in never u.rows u.right);
    };
    first = λ other low fail. reads_before number answer other reads (λ high. absurd (omega (arith, low, high))) fail;
  }

  -- another row is printed: it is wrong there
  other_row : (number : ℕ) (due answer : Answer) (row : ℕ) → ((at : ℕ) → ReadsUpTo setting selection (opening ++ says.Rows number ∷ []) at)
      → AreRowsDue due → number ≡ length due → DifferAt due answer row
      → IsFirstWrong setting answers selection (opening ++ says.Rows number ∷ []) answer (length opening + 1 + row)
  other_row number due answer row reads are count differ = record {
    fails = record {
      at = length opening + 1 + row;
      line_is = omega arith;
      within = let f = differ_within (fronts opening number ++ row_lines due) (fronts opening number ++ row_lines answer) (length opening + 1 + row) lines_differ in
          subst (λ z. length opening + 1 + row ≤ length z) (sym (front_lines opening number answer none)) f;
      wrong = inr (
        (let f = part_long opening number in omega (arith, f)),
        λ up.
            let u = up_to number answer (length opening + 1 + row) (omega arith) up in
            not_alike (fronts opening number ++ row_lines due) (fronts opening number ++ row_lines answer) (length opening + 1 + row) lines_differ
            (subst (λ z. AlikeUpTo (fronts opening number ++ row_lines z) (fronts opening number ++ row_lines answer) (length opening + 1 + row)) (are.only number u.rows u.right).1 u.alike),
      );
    };
    first = λ other low fail. reads_before number answer other reads (λ high. record {
      due = opening ++ says.Rows number ∷ [];
      rows = due;
      right = subst (λ z. answers selection (opening ++ says.Rows z ∷ []) due) (sym count) are.right;
      long = refl;
      alike = ap (take (other + 1)) (front_lines opening number due none)
          ∙ (alike_before (fronts opening number ++ row_lines due) (fronts opening number ++ row_lines answer) (length opening + 1 + row) other lines_differ low
          ∙ sym (ap (take (other + 1)) (front_lines opening number answer none)));
    }) fail;
  } where
    lines_differ : DifferAt (fronts opening number ++ row_lines due) (fronts opening number ++ row_lines answer) (length opening + 1 + row)
    lines_differ =
        subst (DifferAt (fronts opening number ++ row_lines due) (fronts opening number ++ row_lines answer)) (ap (λ n. n + row) (fronts_long opening number))
        (differ_behind (fronts opening number) (row_lines due) (row_lines answer) row (rows_differ due answer row differ))

  -- so how they compare is what is judged
  pub judged : (number : ℕ) (due answer : Answer) (part : List Entry) (result : Answered) → part ≡ opening ++ says.Rows number ∷ []
      → ((at : ℕ) → ReadsUpTo setting selection (opening ++ says.Rows number ∷ []) at) → AreRowsDue due
      → IsCompared (length opening) number due answer result → IsJudged setting answers selection part answer result
  judged number due answer part Kept part_is reads are compared =
      subst (λ z. answers selection z answer) (sym part_is)
      (subst (λ z. answers selection (opening ++ says.Rows number ∷ []) z) compared.1 (subst (λ z. answers selection (opening ++ says.Rows z ∷ []) due) (sym compared.0) are.right))
  judged number due answer part (Wrong at) part_is reads are (inl compared) =
      subst (λ z. IsFirstWrong setting answers selection z answer at) (sym part_is)
      (subst (IsFirstWrong setting answers selection (opening ++ says.Rows number ∷ []) answer) (sym compared.1)
      (never_answered number answer reads (λ rows right. compared.0 (are.only number rows right).0)))
  judged number due answer part (Wrong at) part_is reads are (inr compared) =
      subst (λ z. IsFirstWrong setting answers selection z answer at) (sym part_is)
      (subst (IsFirstWrong setting answers selection (opening ++ says.Rows number ∷ []) answer) (sym compared.at_is)
      (other_row number due answer compared.row reads are compared.count compared.differ))
