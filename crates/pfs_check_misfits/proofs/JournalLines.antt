-- Lists of lines that begin alike: journals, each with the line that ends it.
use Rattle.std.proofs.Common.{◌≡◌, refl, ℕ, zero, suc, ◌-◌, ◌<◌, Bool, true, false, List, [], ◌∷◌, ◌++◌, length, map, take, drop, sym, ◌∙◌, ap, subst, arith, append_assoc}
use Rattle.std.specs.Prelude.{if◌then◌else◌}
use Rattle.std.specs.List.{flat_map, slice_index_or}
use Rattle.std.proofs.lemmas.List.{length-append, take_at}
use Rattle.pfs_event.specs.declared.entry.Entry.{Entry}
use Rattle.pfs_text.specs.declared.values.RowValue.{RowValue}
use Rattle.pfs_journal.specs.ReportLines.{journal_lines, row_lines, table_lines}
use Rattle.pfs_journal.specs.Spelling.{is_answered}
use Rattle.pfs_journal.specs.declared.line.Line.{Line}
use Rattle.pfs_journal.specs.declared.line.Line.TheVariants as says
use Rattle.pfs_journal.specs.declared.values.LostReport.{LostReport}
use Rattle.pfs_journal.specs.declared.values.TableReport.{TableReport}
use Rattle.pfs_model.specs.Cuts.{front}
use Rattle.pfs_model.specs.JournalCuts.{Alike}

abbrev pub Answers : Type 0
Answers = List (List (List RowValue))

-- a line that ends a journal
abbrev pub ends_journal : Line → Bool
ends_journal (says.Entry entry) = false
ends_journal (says.Row row) = false
ends_journal _ = true

-- and one that ends a phase's results
abbrev pub ends_results : Line → Bool
ends_results (says.Phase number) = true
ends_results says.End = true
ends_results _ = false

-- none of these lines is such a one
abbrev pub AreInner : (Line → Bool) → List Line → Type 0
AreInner ends [] = Unit {0}
AreInner ends (line ∷ lines) = (ends line ≡ false) × AreInner ends lines

pub inner_both : (ends : Line → Bool) (xs ys : List Line) → AreInner ends xs → AreInner ends ys → AreInner ends (xs ++ ys)
inner_both ends [] ys a b = b
inner_both ends (x ∷ xs) ys a b = (a.0, inner_both ends xs ys a.1 b)

inner_behind : (ends : Line → Bool) (xs ys : List Line) → AreInner ends (xs ++ ys) → AreInner ends ys
inner_behind ends [] ys a = a
inner_behind ends (x ∷ xs) ys a = inner_behind ends xs ys a.1

pub rows_inner : (ends : Line → Bool) → ((row : List RowValue) → ends (says.Row row) ≡ false) → (rows : List (List RowValue)) → AreInner ends (row_lines rows)
rows_inner ends h [] = tt
rows_inner ends h (row ∷ rows) = (h row, rows_inner ends h rows)

apart : (ends : Line → Bool) (x y : Line) → ends x ≡ true → ends y ≡ false → x ≡ y → ⊥
apart ends x y a b e = false_true (sym a ∙ ap ends e ∙ b) where
  false_true : true ≡ false → ⊥
  false_true h = cc

first_of : (n : ℕ) (x y : Line) (xs ys : List Line) → take (suc n) (x ∷ xs) ≡ take (suc n) (y ∷ ys) → x ≡ y
first_of n x y xs ys e = cc

rest_of : (n : ℕ) (x y : Line) (xs ys : List Line) → take (suc n) (x ∷ xs) ≡ take (suc n) (y ∷ ys) → take n xs ≡ take n ys
rest_of n x y xs ys e = cc

-- two lists of inner lines that begin alike past the end of the first are the same, and so is what stands behind them
pub record AreAlong (xs ys : List Line) (n : ℕ) (us vs : List Line) : Type 0 where
  pub same : xs ≡ ys
  pub behind : take (n - length xs) us ≡ take (n - length xs) vs

pub along : (ends : Line → Bool) (xs ys : List Line) (n : ℕ) (u v : Line) (us vs : List Line) → AreInner ends xs → AreInner ends ys → ends u ≡ true → ends v ≡ true → length xs < n → take n (xs ++ u ∷ us) ≡ take n (ys ++ v ∷ vs) → AreAlong xs ys n (u ∷ us) (v ∷ vs)
along ends [] [] n u v us vs a b s t h e =
    let none : n ≡ n - 0 = omega arith in
    record { same = refl; behind = subst (λ (m : ℕ). take m (u ∷ us) ≡ take m (v ∷ vs)) none e }
along ends [] (y ∷ ys) zero u v us vs a b s t h e = absurd (omega (arith, h))
along ends [] (y ∷ ys) (suc n) u v us vs a b s t h e = absurd (apart ends u y s b.0 (first_of n u y us (ys ++ v ∷ vs) e))
along ends (x ∷ xs) [] zero u v us vs a b s t h e = absurd (omega (arith, h))
along ends (x ∷ xs) [] (suc n) u v us vs a b s t h e = absurd (apart ends v x t a.0 (sym (first_of n x v (xs ++ u ∷ us) vs e)))
along ends (x ∷ xs) (y ∷ ys) zero u v us vs a b s t h e = absurd (omega (arith, h))
along ends (x ∷ xs) (y ∷ ys) (suc n) u v us vs a b s t h e =
    let more : AreAlong xs ys n (u ∷ us) (v ∷ vs) = along ends xs ys n u v us vs a.1 b.1 s t (omega (arith, h)) (rest_of n x y (xs ++ u ∷ us) (ys ++ v ∷ vs) e) in
    let left : suc n - length (x ∷ xs) ≡ n - length xs = omega arith in
    record {
      same = ap (λ (z : List Line). x ∷ z) more.same ∙ ap (λ (z : Line). z ∷ ys) (first_of n x y (xs ++ u ∷ us) (ys ++ v ∷ vs) e);
      behind = subst (λ (m : ℕ). take m (u ∷ us) ≡ take m (v ∷ vs)) (sym left) more.behind;
    }

-- lists that begin alike up to the line behind the first: the other goes on with that line
pub record GoesOn (xs ys : List Line) (u v : Line) (vs : List Line) : Type 0 where
  pub more : List Line
  pub is : ys ≡ xs ++ more
  pub next : take 1 (more ++ v ∷ vs) ≡ u ∷ []

pub goes_on : (ends : Line → Bool) (xs ys : List Line) (u v : Line) (us vs : List Line) → AreInner ends xs → ends v ≡ true → take (suc (length xs)) (xs ++ u ∷ us) ≡ take (suc (length xs)) (ys ++ v ∷ vs) → GoesOn xs ys u v vs
goes_on ends [] ys u v us vs a t e = record { more = ys; is = refl; next = sym e }
goes_on ends (x ∷ xs) [] u v us vs a t e = absurd (apart ends v x t a.0 (sym (first_of (length (x ∷ xs)) x v (xs ++ u ∷ us) vs e)))
goes_on ends (x ∷ xs) (y ∷ ys) u v us vs a t e =
    let more : GoesOn xs ys u v vs = goes_on ends xs ys u v us vs a.1 t (rest_of (suc (length xs)) x y (xs ++ u ∷ us) (ys ++ v ∷ vs) e) in
    record {
      more = more.more;
      is = ap (λ (z : Line). z ∷ ys) (sym (first_of (suc (length xs)) x y (xs ++ u ∷ us) (ys ++ v ∷ vs) e)) ∙ ap (λ (z : List Line). x ∷ z) more.is;
      next = more.next;
    }

-- the entries among lines
abbrev pub entries_of : List Line → List Entry
entries_of [] = []
entries_of (says.Entry entry ∷ lines) = entry ∷ entries_of lines
entries_of (_ ∷ lines) = entries_of lines

entries_both : (xs ys : List Line) → entries_of (xs ++ ys) ≡ entries_of xs ++ entries_of ys
entries_both [] ys = refl
entries_both (says.Entry entry ∷ xs) ys = ap (λ (z : List Entry). entry ∷ z) (entries_both xs ys)
entries_both (_ ∷ xs) ys = entries_both xs ys

no_entries : (rows : List (List RowValue)) (lines : List Line) → entries_of (row_lines rows ++ lines) ≡ entries_of lines
no_entries [] lines = refl
no_entries (row ∷ rows) lines = no_entries rows lines

-- the rows of an entry's answer, and the answers that are left
abbrev rows_at : Bool → Answers → List Line
rows_at b answers = if b then row_lines (slice_index_or answers 0 []) else []

abbrev left_at : Bool → Answers → Answers
left_at b answers = if b then drop 1 answers else answers

rows_at_inner : (b : Bool) (answers : Answers) → AreInner ends_journal (rows_at b answers)
rows_at_inner true answers = rows_inner ends_journal (λ row. refl) (slice_index_or answers 0 [])
rows_at_inner false answers = tt

pub journal_inner : (es : List Entry) (answers : Answers) → AreInner ends_journal (journal_lines es answers)
journal_inner [] answers = tt
journal_inner (e ∷ es) answers = (
  refl,
  inner_both ends_journal (rows_at (is_answered e) answers) (journal_lines es (left_at (is_answered e) answers))
      (rows_at_inner (is_answered e) answers) (journal_inner es (left_at (is_answered e) answers)),
)

rows_at_none : (b : Bool) (answers : Answers) (lines : List Line) → entries_of (rows_at b answers ++ lines) ≡ entries_of lines
rows_at_none true answers lines = no_entries (slice_index_or answers 0 []) lines
rows_at_none false answers lines = refl

pub journal_entries : (es : List Entry) (answers : Answers) → entries_of (journal_lines es answers) ≡ es
journal_entries [] answers = refl
journal_entries (e ∷ es) answers =
    ap (λ (z : List Entry). e ∷ z) (rows_at_none (is_answered e) answers (journal_lines es (left_at (is_answered e) answers))
    ∙ journal_entries es (left_at (is_answered e) answers))

-- a journal in two parts: which answers are left to the second
pub record IsSplit (before rest : List Entry) (answers : Answers) : Type 0 where
  pub left : Answers
  pub is : journal_lines (before ++ rest) answers ≡ journal_lines before answers ++ journal_lines rest left

pub split : (before rest : List Entry) (answers : Answers) → IsSplit before rest answers
split [] rest answers = record { left = answers; is = refl }
split (e ∷ es) rest answers =
    let more : IsSplit es rest (left_at (is_answered e) answers) = split es rest (left_at (is_answered e) answers) in
    record {
      left = more.left;
      is = ap (λ (z : List Line). (says.Entry e ∷ rows_at (is_answered e) answers) ++ z) more.is
          ∙ sym (append_assoc (says.Entry e ∷ rows_at (is_answered e) answers) (journal_lines es (left_at (is_answered e) answers)) (journal_lines rest more.left));
    }

-- the entries before those that are left
pub front_is : (before rest : List Entry) → front (before ++ rest) rest ≡ before
front_is before rest =
    let count : length (before ++ rest) - length rest ≡ length before = omega (arith, length-append before rest) in
    ap (λ (n : ℕ). take n (before ++ rest)) count ∙ take_at before rest (length before) refl

-- what another journal has behind the entries that both begin with, where both go on with the same line
pub record BeginsAlike (before rest : List Entry) (all : List Entry) : Type 0 where
  pub others : List Entry
  pub is : all ≡ before ++ others
  pub alike : Alike rest others

alike_at : (rest : List Entry) (left : Answers) (u v : Line) (us vs more : List Line) → ends_journal u ≡ true → ends_journal v ≡ true → AreInner ends_journal more → take 1 (journal_lines rest left ++ u ∷ us) ≡ take 1 (more ++ v ∷ vs) → Alike rest (entries_of more)
alike_at [] left u v us vs [] s t a e = tt
alike_at [] left u v us vs (m ∷ more) s t a e = absurd (apart ends_journal u m s a.0 (first_of 0 u m us (more ++ v ∷ vs) e))
alike_at (r ∷ rest) left u v us vs [] s t a e =
    absurd (apart ends_journal v (says.Entry r) t refl (sym (first_of 0 (says.Entry r) v ((rows_at (is_answered r) left ++ journal_lines rest (left_at (is_answered r) left)) ++ u ∷ us) vs e)))
alike_at (r ∷ rest) left u v us vs (m ∷ more) s t a e =
    at m (first_of 0 (says.Entry r) m ((rows_at (is_answered r) left ++ journal_lines rest (left_at (is_answered r) left)) ++ u ∷ us) (more ++ v ∷ vs) e) where
      at : (m : Line) → says.Entry r ≡ m → Alike (r ∷ rest) (entries_of (m ∷ more))
      at (says.Entry own) h = let same : r ≡ own = cc in same
      at _ h = absurd (cc)

follows_at : (before rest all : List Entry) (answers given left : Answers) (u v : Line) (us vs ws : List Line) → ends_journal u ≡ true → ends_journal v ≡ true → journal_lines rest left ++ u ∷ us ≡ ws → take (suc (length (journal_lines before answers))) (journal_lines before answers ++ ws) ≡ take (suc (length (journal_lines before answers))) (journal_lines all given ++ v ∷ vs) → BeginsAlike before rest all
follows_at before rest all answers given left u v us vs [] s t h e = absurd (some rest left h) where
  some : (rest : List Entry) (left : Answers) → journal_lines rest left ++ u ∷ us ≡ [] → ⊥
  some [] left h = cc
  some (r ∷ rest) left h = cc
follows_at before rest all answers given left u v us vs (w ∷ ws) s t h e =
    let on : GoesOn (journal_lines before answers) (journal_lines all given) w v vs =
    goes_on ends_journal (journal_lines before answers) (journal_lines all given) w v ws vs (journal_inner before answers) t e in
    record {
      others = entries_of on.more;
      is = sym (journal_entries all given) ∙ ap entries_of on.is ∙ entries_both (journal_lines before answers) on.more
          ∙ ap (λ (z : List Entry). z ++ entries_of on.more) (journal_entries before answers);
      alike = alike_at rest left u v us vs on.more s t
          (inner_behind ends_journal (journal_lines before answers) on.more (subst (AreInner ends_journal) on.is (journal_inner all given)))
          (ap (λ (z : List Line). take 1 z) h ∙ sym on.next);
    }

pub follows : (before rest all : List Entry) (answers given : Answers) (u v : Line) (us vs : List Line) → ends_journal u ≡ true → ends_journal v ≡ true → take (suc (length (journal_lines before answers))) (journal_lines (before ++ rest) answers ++ u ∷ us) ≡ take (suc (length (journal_lines before answers))) (journal_lines all given ++ v ∷ vs) → BeginsAlike before rest all
follows before rest all answers given u v us vs s t e =
    let parts : IsSplit before rest answers = split before rest answers in
    let whole : journal_lines (before ++ rest) answers ++ u ∷ us ≡ journal_lines before answers ++ (journal_lines rest parts.left ++ u ∷ us) =
    ap (λ (z : List Line). z ++ u ∷ us) parts.is ∙ append_assoc (journal_lines before answers) (journal_lines rest parts.left) (u ∷ us) in
    follows_at before rest all answers given parts.left u v us vs (journal_lines rest parts.left ++ u ∷ us) s t refl
    (sym (ap (λ (z : List Line). take (suc (length (journal_lines before answers))) z) whole) ∙ e)

-- the results of a phase end before the next phase, or the report's end
pub results_inner : (tables : List TableReport) (counters : List LostReport) → AreInner ends_results (flat_map table_lines tables ++ map says.Lost counters)
results_inner tables counters = inner_both ends_results (flat_map table_lines tables) (map says.Lost counters) (of_tables tables) (of_counters counters) where
  of_tables : (tables : List TableReport) → AreInner ends_results (flat_map table_lines tables)
  of_tables [] = tt
  of_tables (table ∷ tables) =
      (refl, inner_both ends_results (row_lines table.rows) (flat_map table_lines tables) (rows_inner ends_results (λ row. refl) table.rows) (of_tables tables))

  of_counters : (counters : List LostReport) → AreInner ends_results (map says.Lost counters)
  of_counters [] = tt
  of_counters (counter ∷ counters) = (refl, of_counters counters)
