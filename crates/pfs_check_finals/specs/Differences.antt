-- Where two lists differ first.
use Rattle.std.specs.Prelude.{ℕ, zero, suc, ◌≡◌, ◌+◌, List, [], ◌∷◌, Option, Some, None}
use Rattle.std.specs.List.{flat_map}
use Rattle.pfs_journal.specs.ReportLines.{table_lines}
use Rattle.pfs_journal.specs.declared.values.TableReport.{TableReport}

-- they are alike before this place, and here they aren't, or one of them has ended
abbrev pub DifferAt : {A : Type 0} → List A → List A → ℕ → Type 0
DifferAt [] [] at = ⊥
DifferAt [] (y ∷ ys) zero = Unit {0}
DifferAt [] (y ∷ ys) (suc at) = ⊥
DifferAt (x ∷ xs) [] zero = Unit {0}
DifferAt (x ∷ xs) [] (suc at) = ⊥
DifferAt (x ∷ xs) (y ∷ ys) zero = x ≡ y → ⊥
DifferAt (x ∷ xs) (y ∷ ys) (suc at) = (x ≡ y) × DifferAt xs ys at

-- they are the same, or this is the first place where they differ
abbrev pub AreCompared : {A : Type 0} → List A → List A → Option ℕ → Type 0
AreCompared due printed None = due ≡ printed
AreCompared due printed (Some at) = DifferAt due printed at

-- the same, where the first element stands on a line
abbrev pub AreComparedFrom : {A : Type 0} → ℕ → List A → List A → Option ℕ → Type 0
AreComparedFrom first due printed None = due ≡ printed
AreComparedFrom first due printed (Some line) = (at : ℕ) × (line ≡ first + at) × DifferAt due printed at

-- tables are the same, or this is the first line where theirs differ
abbrev pub AreTablesCompared : ℕ → List TableReport → List TableReport → Option ℕ → Type 0
AreTablesCompared first due printed None = due ≡ printed
AreTablesCompared first due printed (Some line) =
    (at : ℕ) × (line ≡ first + at) × DifferAt (flat_map table_lines due) (flat_map table_lines printed) at

-- a table is the same, or this is the first line where it differs, whichever tables come behind it
abbrev pub IsTableCompared : ℕ → TableReport → TableReport → Option ℕ → Type 0
IsTableCompared first due printed None = due ≡ printed
IsTableCompared first due printed (Some line) = (at : ℕ) × (line ≡ first + at)
    × ((dues prints : List TableReport)
    → DifferAt (flat_map table_lines (due ∷ dues)) (flat_map table_lines (printed ∷ prints)) at)
