-- A row that an action takes is printed as taken.
use Rattle.std.proofs.Common.{◌≡◌, refl, ℕ, zero, suc, ◌+◌, ◌<◌, ◌≤◌, ◌==◌, ◌&&◌, Bool, true, false, cond, List, [], ◌∷◌, ◌++◌, Option, Some, sym, ap, subst, ◌∙◌, inl, inr, arith}
use Rattle.std.proofs.lemmas.Bool.{eqb-true}
use Rattle.pfs_lemmas.proofs.Numbers.{eq_self}
use Rattle.pfs_conservation.specs.ActionMoves.{moved_by, moves_of}
use Rattle.pfs_conservation.specs.RowChains.{Taken}
use Rattle.pfs_conservation.specs.PrintedChanges.{Tagged, change_of, Stands}
use Rattle.pfs_conservation.specs.RowMoves.{Move}
use Rattle.pfs_conservation.specs.Prints.{Print, prints_of, prints_all, is_move, printed_by}
use Rattle.pfs_conservation.specs.Tenures.{Owner}
use Rattle.pfs_model.specs.Actions.{IsAmong}
use Rattle.pfs_law_conservation.specs.KindRows.{is_kind_row, kind_rows_from, kind_rows}
use Rattle.pfs_model.proofs.Members.{among_back}

-- the kind's rows have each of them
rows_among : (is_cell : ℕ → Bool) (target row more : ℕ) → row ≤ target → target < row + more → is_kind_row is_cell target ≡ true → IsAmong target (kind_rows_from is_cell row more)
rows_among is_cell target row zero l m k = absurd (omega (arith, l, m))
rows_among is_cell target row (suc more) l m k = on (row == target) refl (λ h. rows_among is_cell target (suc row) more h (omega (arith, m)) k) where
  apart : (a b : ℕ) → (a == b) ≡ false → a ≤ b → suc a ≤ b
  apart a b q l = grind arith

  on : (b : Bool) → (row == target) ≡ b → (suc row ≤ target → IsAmong target (kind_rows_from is_cell (suc row) more)) → IsAmong target (kind_rows_from is_cell row (suc more))
  on true q go = subst (λ b. IsAmong target (cond b (row ∷ []) [] ++ kind_rows_from is_cell (suc row) more)) (sym (ap (is_kind_row is_cell) (eqb-true row target q) ∙ k)) (inl (eqb-true row target q))
  on false q go = among_back target (cond (is_kind_row is_cell row) (row ∷ []) []) (kind_rows_from is_cell (suc row) more) (go (apart row target q l))

pub in_kind_rows : (is_cell : ℕ → Bool) (target : ℕ) → 129 ≤ target → target < 8385 → is_kind_row is_cell target ≡ true → IsAmong target (kind_rows is_cell)
unfolding kind_rows
in_kind_rows is_cell target l m k = rows_among is_cell target 129 8256 l (omega (arith, m)) k

-- a row that is held and taken is printed
prints_then : (kept : ℕ → ℕ → Bool) (xs ys : List Move) → prints_all kept (xs ++ ys) ≡ prints_all kept xs ++ prints_all kept ys
prints_then kept [] ys = refl
prints_then kept (x ∷ xs) ys = ap (λ (z : List Print). prints_of kept x ++ z) (prints_then kept xs ys) ∙ assoc (prints_of kept x) (prints_all kept xs) (prints_all kept ys) where
  assoc : (xs ys zs : List Print) → xs ++ (ys ++ zs) ≡ (xs ++ ys) ++ zs
  assoc [] ys zs = refl
  assoc (x ∷ xs) ys zs = ap (λ (z : List Print). x ∷ z) (assoc xs ys zs)

abbrev pub taken_print : ℕ → ℕ → Print
taken_print row action = record { row = row; change = Taken action }

module _ (kept : ℕ → ℕ → Bool) (holder : ℕ → ℕ → Option Owner) (takes : ℕ → ℕ → Bool) (action : ℕ) where
  pub taken_printed : (row : ℕ) (owner : Owner) (rows : List ℕ) → IsAmong row rows → takes action row ≡ true → holder action row ≡ Some owner → IsAmong (taken_print row action) (prints_all kept (moves_of holder takes action rows))
  taken_printed row owner [] m t h = absurd m
  taken_printed row owner (r ∷ rows) (inl e) t h =
      subst (λ zs. IsAmong (taken_print row action) (prints_all kept (zs ++ moves_of holder takes action rows)))
      (sym (ap (λ b. cond b (moved_by (holder action r) action r) []) (ap (takes action) e ∙ t) ∙ ap (λ o. moved_by o action r) (ap (holder action) e ∙ h)))
      (inl (ap (λ z. taken_print z action) e))
  taken_printed row owner (r ∷ rows) (inr m) t h =
      subst (IsAmong (taken_print row action)) (sym (prints_then kept (cond (takes action r) (moved_by (holder action r) action r) []) (moves_of holder takes action rows)))
      (among_back (taken_print row action) (prints_all kept (cond (takes action r) (moved_by (holder action r) action r) [])) (prints_all kept (moves_of holder takes action rows)) (taken_printed row owner rows m t h))

-- and what is printed stands
pub print_stands : (row action : ℕ) (lines : List Tagged) → IsAmong (taken_print row action) (printed_by lines action) → (version : ℕ) × Stands lines row version (Taken action)
print_stands row action [] m = absurd m
print_stands row action (line ∷ lines) m = on (is_move line.kind && (line.action == action)) m (λ k. print_stands row action lines k) where
  later : (version : ℕ) × Stands lines row version (Taken action) → (version : ℕ) × Stands (line ∷ lines) row version (Taken action)
  later (version, s) = (version, inr s)

  here : ◌≡◌ {A = Print} (record { row = line.row; change = change_of line }) (record { row = row; change = Taken action }) → (version : ℕ) × Stands (line ∷ lines) row version (Taken action)
  here e =
      let r : line.row ≡ row = ap (λ (p : Print). p.row) e in
      let c : change_of line ≡ Taken action = ap (λ (p : Print). p.change) e in
      (line.version, inl (ap (λ n. (n == row) && (line.version == line.version)) r ∙ (ap (λ b. b && (line.version == line.version)) (eq_self row) ∙ eq_self line.version), c))

  on : (b : Bool) → IsAmong (taken_print row action) (cond b (record { row = line.row; change = change_of line } ∷ []) [] ++ printed_by lines action) → (IsAmong (taken_print row action) (printed_by lines action) → (version : ℕ) × Stands lines row version (Taken action))
      → (version : ℕ) × Stands (line ∷ lines) row version (Taken action)
  on true (inl e) go = here e
  on true (inr m) go = later (go m)
  on false m go = later (go m)
