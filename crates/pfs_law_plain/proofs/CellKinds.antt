-- The cells of the registered classes: no cell is of two kinds.
use Rattle.std.proofs.Common.{ℕ, zero, suc, ◌≡◌, ◌<◌, ◌≤◌, ◌+◌, ◌==◌, Bool, true, false, cond, List, [], ◌∷◌, length, Option, Some, None, ne_eqb, refl, ap, sym, ◌∙◌, subst, arith}
use Rattle.std.specs.Prelude.{nat_lt, nat_le, ◌&&◌, filter, slice_get}
use Rattle.std.specs.List.{range_with_len}
use Rattle.std.proofs.lemmas.Bool.{false≢true, eqb-true, leb-true}
use Rattle.std.proofs.lemmas.Option.{slice_get_past}
use Rattle.pfs_admin.proofs.KindCells.{kinds_fit}
use Rattle.pfs_admin.proofs.FoldSteps.{fixed_law}
use Rattle.pfs_admin.specs.Fold.{state_of}
use Rattle.pfs_admin.specs.OpeningState.{cells_of_kind, kinds_of}
use Rattle.pfs_admin.specs.declared.changes.Change.{Change}
use Rattle.pfs_board.specs.declared.view.Label.{Label}
use Rattle.pfs_classes.specs.declared.classes.Class.{Class}
use Rattle.pfs_classes.specs.declared.setting.Setting.{Setting}
use Rattle.pfs_model.specs.Chains.{times}
use Rattle.pfs_readsets.specs.TablePlaces.{is_kind_cell, is_class_of, table_kind}
use Rattle.pfs_rows.specs.declared.table.TableKind.{TableKind}
use Rattle.pfs_rows.specs.declared.table.TableKind.TheVariants.{Waits, Stages, Statements, Transactions}
use Rattle.pfs_rows.specs.Tables.{kind_number}
use Rattle.pfs_law_plain.proofs.ClassCount.{few_classes}
use Rattle.pfs_law_plain.proofs.TruncationRows.{AreKindsOnce, AreFit}

abbrev count : ℕ → List ℕ → ℕ
count cell xs = times (λ n. n == cell) xs

filtered : (test : ℕ → Bool) (cell : ℕ) (xs : List ℕ) → count cell (filter test xs) ≤ cond (test cell) (count cell xs) 0
filtered test cell [] = at (test cell) where
  at : (b : Bool) → 0 ≤ cond b 0 0
  at true = omega arith
  at false = omega arith
filtered test cell (x ∷ xs) = at (test x) refl (x == cell) refl (filtered test cell xs) where
  more : (b : Bool) (n k : ℕ) → k ≤ 1 → n ≤ cond b (count cell xs) 0 → n ≤ cond b (k + count cell xs) 0
  more true n k few r = omega (arith, r)
  more false n k few r = r

  at : (b : Bool) → test x ≡ b → (c : Bool) → (x == cell) ≡ c → count cell (filter test xs) ≤ cond (test cell) (count cell xs) 0
      → count cell (cond b (x ∷ filter test xs) (filter test xs)) ≤ cond (test cell) (cond c 1 0 + count cell xs) 0
  at true e true f rest =
      let here : test cell ≡ true = ap test (sym (eqb-true x cell f)) ∙ e in
      let r : count cell (filter test xs) ≤ count cell xs = subst (λ b. count cell (filter test xs) ≤ cond b (count cell xs) 0) here rest in
      subst (λ b. count cell (x ∷ filter test xs) ≤ cond b (1 + count cell xs) 0) (sym here)
      (subst (λ b. (cond b 1 0 + count cell (filter test xs)) ≤ (1 + count cell xs)) (sym f) (omega (arith, r)))
  at true e false f rest =
      let r : (0 + count cell (filter test xs)) ≤ cond (test cell) (count cell xs) 0 = omega (arith, rest) in
      subst (λ b. (cond b 1 0 + count cell (filter test xs)) ≤ cond (test cell) (0 + count cell xs) 0) (sym f)
      (more (test cell) (0 + count cell (filter test xs)) 0 (omega arith) r)
  at false e true f rest = more (test cell) (count cell (filter test xs)) 1 (omega arith) rest
  at false e false f rest = more (test cell) (count cell (filter test xs)) 0 (omega arith) rest

-- numbers that ascend one by one
ranged : (cell a n : ℕ) → (count cell (range_with_len a n) ≤ 1) × (cell < a → count cell (range_with_len a n) ≡ 0)
ranged cell a zero = (omega arith, λ l. refl)
ranged cell a (suc n) =
    let rest = ranged cell (a + 1) n in
    (at (a == cell) refl rest, λ l. one (a == cell) (ne_eqb a cell (λ q. absurd (omega (arith, q, l)))) (rest.1 (omega (arith, l)))) where
      one : (b : Bool) → b ≡ false → count cell (range_with_len (a + 1) n) ≡ 0 → cond b 1 0 + count cell (range_with_len (a + 1) n) ≡ 0
      one true e r = absurd (false≢true (sym e))
      one false e r = omega (arith, r)

      at : (b : Bool) → (a == cell) ≡ b → (count cell (range_with_len (a + 1) n) ≤ 1) × (cell < a + 1 → count cell (range_with_len (a + 1) n) ≡ 0) → (cond b 1 0 + count cell (range_with_len (a + 1) n)) ≤ 1
      at true e r = let none : count cell (range_with_len (a + 1) n) ≡ 0 = r.1 (omega (arith, eqb-true a cell e)) in omega (arith, none)
      at false e r = omega (arith, r.0)

-- a class is of one kind, and a cell from 62 on of none but `transaction`
abbrev once_of : Bool → ℕ → ℕ
once_of b n = cond b n 0

one_kind : (kind : TableKind) (n : ℕ) → n ≤ 1
    → once_of (kind_number kind == kind_number Waits) n + (once_of (kind_number kind == kind_number Stages) n + once_of (kind_number kind == kind_number Statements) n) ≤ 1
one_kind Waits n few = omega (arith, few)
one_kind Stages n few = omega (arith, few)
one_kind Statements n few = omega (arith, few)
one_kind Transactions n few = omega arith

cell_kinds : (classes : List Class) (cell n : ℕ) → length classes ≤ 62 → n ≤ 1
    → once_of (is_kind_cell classes Waits cell) n + (once_of (is_kind_cell classes Stages cell) n
    + (once_of (is_kind_cell classes Statements cell) n + once_of (is_kind_cell classes Transactions cell) n)) ≤ 1
cell_kinds classes cell n few one = at (nat_le 62 cell) refl where
  low : (b : Bool) → nat_le 62 cell ≡ false → b ≡ (nat_le 62 cell && nat_lt cell 64) → once_of b n ≡ 0
  low true e q = absurd (false≢true (sym (q ∙ ap (λ z. z && nat_lt cell 64) e)))
  low false e q = refl

  by_class : (o : Option Class) → nat_le 62 cell ≡ false → o ≡ slice_get classes cell
      → once_of (is_class_of Waits o) n + (once_of (is_class_of Stages o) n + (once_of (is_class_of Statements o) n + once_of (nat_le 62 cell && nat_lt cell 64) n)) ≤ 1
  by_class None e q = let z : once_of (nat_le 62 cell && nat_lt cell 64) n ≡ 0 = low _ e refl in omega (arith, z)
  by_class (Some class) e q =
      let z : once_of (nat_le 62 cell && nat_lt cell 64) n ≡ 0 = low _ e refl in
      let k = one_kind (table_kind class.kind) n one in
      omega (arith, z, k)

  highest : (b : Bool) → once_of b n ≤ 1
  highest true = one
  highest false = omega arith

  at : (b : Bool) → nat_le 62 cell ≡ b → once_of (is_kind_cell classes Waits cell) n + (once_of (is_kind_cell classes Stages cell) n
      + (once_of (is_kind_cell classes Statements cell) n + once_of (is_kind_cell classes Transactions cell) n)) ≤ 1
  at false e = by_class (slice_get classes cell) e refl
  at true e =
      let none : slice_get classes cell ≡ None = slice_get_past classes cell (omega (arith, few, leb cell e)) in
      subst (λ o. once_of (is_class_of Waits o) n + (once_of (is_class_of Stages o) n + (once_of (is_class_of Statements o) n + once_of (nat_le 62 cell && nat_lt cell 64) n)) ≤ 1) (sym none)
      (let h : once_of (nat_le 62 cell && nat_lt cell 64) n ≤ 1 = highest (nat_le 62 cell && nat_lt cell 64) in omega (arith, h)) where
        leb : (c : ℕ) → nat_le 62 c ≡ true → 62 ≤ c
        leb c h = leb-true 62 c h

kinds_once : (setting : Setting) → AreKindsOnce (kinds_of setting)
unfolding kinds_of cells_of_kind
kinds_once setting cell =
    let classes : List Class = setting.classes.classes in
    let n : ℕ = count cell (range_with_len 0 64) in
    let a = filtered (is_kind_cell classes Waits) cell (range_with_len 0 64) in
    let b = filtered (is_kind_cell classes Stages) cell (range_with_len 0 64) in
    let c = filtered (is_kind_cell classes Statements) cell (range_with_len 0 64) in
    let d = filtered (is_kind_cell classes Transactions) cell (range_with_len 0 64) in
    omega (arith, a, b, c, d, cell_kinds classes cell n (few_classes setting) (ranged cell 0 64).0)

pub fold_kinds : (setting : Setting) (change : Label → Change) (labels : List Label) → AreFit (state_of setting change labels).kinds
fold_kinds setting change labels =
    subst AreFit (sym (fixed_law setting change labels (state_of setting change labels) refl).2) (record { small = kinds_fit setting; once = kinds_once setting })
