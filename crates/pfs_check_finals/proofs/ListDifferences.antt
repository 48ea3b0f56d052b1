-- Two lists that differ first at a place.
use Rattle.std.proofs.Common.{◌≡◌, refl, ℕ, zero, suc, ◌+◌, ◌<◌, ◌≤◌, nat_eq, ◌&&◌, Bool, true, false, not, List, [], ◌∷◌, ◌++◌, get_or, length, take, sym, ◌∙◌, ap, subst, arith, Option, Some, None}
use Rattle.std.specs.List.{flat_map}
use Rattle.std.specs.Option.{is_some}
use Rattle.std.specs.Cmp.Lexicographic.{pointwise}
use Rattle.std.proofs.lemmas.Bool.{eqb-true, false≢true}
use Rattle.pfs_journal.specs.ReportLines.{row_lines, table_lines}
use Rattle.pfs_journal.specs.declared.line.Line.{Line}
use Rattle.pfs_journal.specs.declared.line.Line.TheVariants as says
use Rattle.pfs_journal.specs.declared.values.TableReport.{TableReport}
use Rattle.pfs_text.specs.declared.values.RowValue.{RowValue}
use Rattle.pfs_check_faults.specs.ReportCases.{AlikeUpTo}
use Rattle.pfs_check_finals.specs.Differences.{AreCompared, DifferAt}

-- texts are the same where they have the same bytes
pub same_bytes : (xs ys : List ℕ) → pointwise nat_eq xs ys ≡ true → xs ≡ ys
same_bytes [] [] q = refl
same_bytes [] (y ∷ ys) q = absurd (false≢true q)
same_bytes (x ∷ xs) [] q = absurd (false≢true q)
same_bytes (x ∷ xs) (y ∷ ys) q = on (nat_eq x y) refl q (same_bytes xs ys) where
  on : (b : Bool) → nat_eq x y ≡ b → (b && pointwise nat_eq xs ys) ≡ true → (pointwise nat_eq xs ys ≡ true → xs ≡ ys) → x ∷ xs ≡ y ∷ ys
  on true e q rest = ap (λ z. z ∷ xs) (eqb-true x y e) ∙ ap (λ z. y ∷ z) (rest q)
  on false e q rest = absurd (false≢true q)

head : {A : Type 0} (x y : A) (xs ys : List A) → x ∷ xs ≡ y ∷ ys → x ≡ y
head x y xs ys e = cc

tail : {A : Type 0} (x y : A) (xs ys : List A) → x ∷ xs ≡ y ∷ ys → xs ≡ ys
tail x y xs ys e = cc

-- alike before a place, and different there
pub differ_here : {A : Type 0} (xs ys : List A) (at : ℕ) (a b : A) → at < length xs → at < length ys → a ≡ get_or xs at a → b ≡ get_or ys at b
    → take at xs ≡ take at ys → (a ≡ b → ⊥) → DifferAt xs ys at
differ_here [] ys at a b low high p q same other = absurd (omega (arith, low))
differ_here (x ∷ xs) [] at a b low high p q same other = absurd (omega (arith, high))
differ_here (x ∷ xs) (y ∷ ys) zero a b low high p q same other = λ e. other (p ∙ e ∙ sym q)
differ_here (x ∷ xs) (y ∷ ys) (suc at) a b low high p q same other =
    (head x y (take at xs) (take at ys) same, differ_here xs ys at a b (omega (arith, low)) (omega (arith, high)) p q (tail x y (take at xs) (take at ys) same) other)

-- alike as far as the shorter one goes
pub differ_end : {A : Type 0} (xs ys : List A) (at : ℕ) → at ≤ length xs → at ≤ length ys → ((at ≡ length xs) → (at ≡ length ys) → ⊥)
    → (at < length xs → at < length ys → ⊥) → take at xs ≡ take at ys → DifferAt xs ys at
differ_end [] [] zero low high apart ended same = apart refl refl
differ_end [] (y ∷ ys) zero low high apart ended same = tt
differ_end (x ∷ xs) [] zero low high apart ended same = tt
differ_end (x ∷ xs) (y ∷ ys) zero low high apart ended same = absurd (ended (omega arith) (omega arith))
differ_end [] ys (suc at) low high apart ended same = absurd (omega (arith, low))
differ_end (x ∷ xs) [] (suc at) low high apart ended same = absurd (omega (arith, high))
differ_end (x ∷ xs) (y ∷ ys) (suc at) low high apart ended same = (
  head x y (take at xs) (take at ys) same,
  differ_end xs ys at (omega (arith, low)) (omega (arith, high)) (λ p q. apart (ap suc p) (ap suc q)) (λ p q. ended (omega (arith, p)) (omega (arith, q)))
      (tail x y (take at xs) (take at ys) same),
)

-- what differs isn't the same
differ_apart : {A : Type 0} (xs : List A) (at : ℕ) → DifferAt xs xs at → ⊥
differ_apart [] at d = d
differ_apart (x ∷ xs) zero d = d refl
differ_apart (x ∷ xs) (suc at) d = differ_apart xs at d.1

pub some_differs : {A : Type 0} (xs ys : List A) (found : Option ℕ) (none : Bool) → AreCompared xs ys found → is_some found ≡ not none → none ≡ false
    → xs ≡ ys → ⊥
some_differs xs ys None none compared is q e = false≢true (is ∙ ap not q)
some_differs xs ys (Some at) none compared is q e = differ_apart xs at (subst (λ z. DifferAt xs z at) (sym e) compared)

-- names that aren't told apart
pub same_names : (a b : List ℕ) (other : Bool) → other ≡ not (pointwise nat_eq a b) → other ≡ false → a ≡ b
same_names a b other is q = same_bytes a b (on (pointwise nat_eq a b) (sym is ∙ q)) where
  on : (t : Bool) → not t ≡ false → t ≡ true
  on true e = refl
  on false e = absurd (false≢true (sym e))

-- what differs isn't alike up to there, but up to any place before
pub not_alike : {A : Type 0} (xs ys : List A) (at : ℕ) → DifferAt xs ys at → AlikeUpTo xs ys at → ⊥
not_alike {A} xs ys at differ alike = on xs ys at differ (subst (λ n. take n xs ≡ take n ys) (let e : at + 1 ≡ suc at = omega arith in e) alike) where
  on : (xs ys : List A) (at : ℕ) → DifferAt xs ys at → take (suc at) xs ≡ take (suc at) ys → ⊥
  on [] [] at d e = d
  on [] (y ∷ ys) zero d e = cc
  on [] (y ∷ ys) (suc at) d e = d
  on (x ∷ xs) [] zero d e = cc
  on (x ∷ xs) [] (suc at) d e = d
  on (x ∷ xs) (y ∷ ys) zero d e = d (head x y (take zero xs) (take zero ys) e)
  on (x ∷ xs) (y ∷ ys) (suc at) d e = on xs ys at d.1 (tail x y (take (suc at) xs) (take (suc at) ys) e)

pub alike_before : {A : Type 0} (xs ys : List A) (at other : ℕ) → DifferAt xs ys at → other < at → AlikeUpTo xs ys other
alike_before {A} xs ys at other differ low = subst (λ n. take n xs ≡ take n ys) (let e : suc other ≡ other + 1 = omega arith in e) (on xs ys at other differ low) where
  on : (xs ys : List A) (at other : ℕ) → DifferAt xs ys at → other < at → take (suc other) xs ≡ take (suc other) ys
  on xs ys zero other d low = absurd (omega (arith, low))
  on [] [] (suc at) other d low = absurd d
  on [] (y ∷ ys) (suc at) other d low = absurd d
  on (x ∷ xs) [] (suc at) other d low = absurd d
  on (x ∷ xs) (y ∷ ys) (suc at) zero d low = ap (λ z. z ∷ []) d.0
  on (x ∷ xs) (y ∷ ys) (suc at) (suc other) d low = ap (λ z. z ∷ take (suc other) xs) d.0 ∙ ap (λ z. y ∷ z) (on xs ys at other d.1 (omega (arith, low)))

-- it isn't behind the end of the printed ones
pub differ_within : {A : Type 0} (xs ys : List A) (at : ℕ) → DifferAt xs ys at → at ≤ length ys
differ_within [] [] at d = absurd d
differ_within [] (y ∷ ys) zero d = omega arith
differ_within [] (y ∷ ys) (suc at) d = absurd d
differ_within (x ∷ xs) [] zero d = omega arith
differ_within (x ∷ xs) [] (suc at) d = absurd d
differ_within (x ∷ xs) (y ∷ ys) zero d = omega arith
differ_within (x ∷ xs) (y ∷ ys) (suc at) d = let rest = differ_within xs ys at d.1 in omega (arith, rest)

-- behind the same front
pub differ_behind : {A : Type 0} (front xs ys : List A) (at : ℕ) → DifferAt xs ys at → DifferAt (front ++ xs) (front ++ ys) (length front + at)
differ_behind [] xs ys at d = subst (DifferAt xs ys) (let e : at ≡ 0 + at = omega arith in e) d
differ_behind (z ∷ front) xs ys at d =
    subst (DifferAt (z ∷ (front ++ xs)) (z ∷ (front ++ ys))) (let e : suc (length front + at) ≡ length (z ∷ front) + at = omega arith in e)
    (refl, differ_behind front xs ys at d)

-- no row comes first
abbrev pub NoRowFirst : List Line → Type 0
NoRowFirst [] = Unit {0}
NoRowFirst (says.Row row ∷ lines) = ⊥
NoRowFirst (line ∷ lines) = Unit {0}

pub tables_first : (tables : List TableReport) → NoRowFirst (flat_map table_lines tables)
tables_first [] = tt
tables_first (table ∷ tables) = tt

-- rows that differ, before lines that are no rows
rows_differ : (xs ys : List (List RowValue)) (us vs : List Line) (at : ℕ) → NoRowFirst us → NoRowFirst vs → DifferAt xs ys at
    → DifferAt (row_lines xs ++ us) (row_lines ys ++ vs) at
rows_differ [] [] us vs at p q d = absurd d
rows_differ [] (y ∷ ys) us vs zero p q d = short us p where
  short : (us : List Line) → NoRowFirst us → DifferAt us (says.Row y ∷ (row_lines ys ++ vs)) 0
  short [] p = tt
  short (says.Row row ∷ us) p = absurd p
  short (u ∷ us) p = λ e. other u e p where
    other : (u : Line) → u ≡ says.Row y → NoRowFirst (u ∷ us) → ⊥
    other u e p = subst (λ z. NoRowFirst (z ∷ us)) e p
rows_differ [] (y ∷ ys) us vs (suc at) p q d = absurd d
rows_differ (x ∷ xs) [] us vs zero p q d = short vs q where
  short : (vs : List Line) → NoRowFirst vs → DifferAt (says.Row x ∷ (row_lines xs ++ us)) vs 0
  short [] q = tt
  short (v ∷ vs) q = λ e. other v (sym e) q where
    other : (v : Line) → v ≡ says.Row x → NoRowFirst (v ∷ vs) → ⊥
    other v e q = subst (λ z. NoRowFirst (z ∷ vs)) e q
rows_differ (x ∷ xs) [] us vs (suc at) p q d = absurd d
rows_differ (x ∷ xs) (y ∷ ys) us vs zero p q d = λ e. d (row_in x y e) where
  row_of : Line → List RowValue
  row_of (says.Row row) = row
  row_of _ = []

  row_in : (x y : List RowValue) → says.Row x ≡ says.Row y → x ≡ y
  row_in x y e = ap row_of e
rows_differ (x ∷ xs) (y ∷ ys) us vs (suc at) p q d = (ap says.Row d.0, rows_differ xs ys us vs at p q d.1)

-- tables with other names
pub names_differ : (due printed : TableReport) (dues prints : List TableReport) → (due.name ≡ printed.name → ⊥)
    → DifferAt (flat_map table_lines (due ∷ dues)) (flat_map table_lines (printed ∷ prints)) 0
names_differ due printed dues prints other = λ e. other (ap name_of e) where
  name_of : Line → List ℕ
  name_of (says.Table name) = name
  name_of _ = []

-- tables with the same name whose rows differ
pub table_rows_differ : (due printed : TableReport) (dues prints : List TableReport) (at : ℕ) → due.name ≡ printed.name → DifferAt due.rows printed.rows at
    → DifferAt (flat_map table_lines (due ∷ dues)) (flat_map table_lines (printed ∷ prints)) (suc at)
table_rows_differ due printed dues prints at name d = (
  ap says.Table name,
  rows_differ due.rows printed.rows (flat_map table_lines dues) (flat_map table_lines prints) at (tables_first dues) (tables_first prints) d,
)
