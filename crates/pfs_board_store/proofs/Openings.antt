-- A board that opens with the rows of a run has the opening words of one.
use Rattle.std.proofs.Common.{ℕ, suc, ◌≡◌, ◌*◌, ◌<◌, nat_lt, nat_le, ◌&&◌, ◌||◌, not, Bool, true, false, cond, List, [], ◌∷◌, length, slice_index, refl, ap, sym, ◌∙◌, inl, inr, arith, ne_eqb, length-append}
use Rattle.std.proofs.lemmas.Bool.{cases_eq}
use Rattle.std.proofs.lemmas.Bool.Decides.{nat_tests}
use Rattle.pfs_board.specs.declared.answers.Opening.{Opening}
use Rattle.pfs_board.specs.History.{lock_at}
use Rattle.pfs_board.specs.OpeningWords.{words_of, opening_words, row_of, AreWide, AreOpened}
use Rattle.pfs_board.proofs.OpeningFacts.{opening_law}
use Rattle.pfs_levels.specs.RowWords.{is_cell}
use Rattle.pfs_levels.specs.JointCalls.{opens_free}
use Rattle.pfs_board_store.specs.RootLaws.{OpenedLaw}
use Rattle.pfs_board_store.proofs.VersionContents.{opening_wide}

words_long : (rows : List Opening) → AreWide rows → length (words_of rows) ≡ 17 * length rows
words_long [] w = refl
words_long (o ∷ os) w = omega (arith, w.0, length-append o.content (words_of os), words_long os w.1)

pub board_long : (rows : List Opening) → AreWide rows → length (opening_words rows) ≡ 17 * length rows
board_long [] w = refl
board_long (o ∷ os) w = omega (arith, w.0, length-append o.content (words_of os), words_long os w.1)

pub all_wide : (rows : List Opening) → ((row : ℕ) → row < length rows → length (row_of rows row).content ≡ 16) → AreWide rows
all_wide [] f = tt
all_wide (o ∷ os) f = (f 0 (omega arith), all_wide os (λ row low. f (suc row) (omega (arith, low))))

cell_low : (row : ℕ) → nat_le 129 row && nat_lt row 8450 ≡ true → row < 14242
cell_low row e = grind (arith, nat_tests)

-- a row that doesn't open free is row 0 or a cell
not_free : (row : ℕ) → 0 < row → opens_free row ≡ false → is_cell row ≡ true
not_free row some e = at (is_cell row) (sym (ap (λ b. not (b || is_cell row)) (ne_eqb row 0 (λ z. absurd (omega (arith, some, z))))) ∙ e) where
  at : (b : Bool) → not (false || b) ≡ false → b ≡ true
  at true f = refl
  at false f = absurd (cc)

first_shut : (row : ℕ) → row ≡ 0 → opens_free row ≡ true → ⊥
first_shut row e f = let g : opens_free 0 ≡ true = sym (ap opens_free e) ∙ f in cc

pub opened : OpenedLaw
opened rows many each =
    let wide : AreWide rows = all_wide rows (λ row low. ap (λ (z : List ℕ). length z) (each row (omega (arith, low, many))).1 ∙ opening_wide (is_cell row)) in
    let a : AreOpened rows = opening_law rows (omega (arith, many)) wide in
    record {
      wide = omega (arith, board_long rows wide, many);
      contents = λ row i some low small. a.contents row i (omega (arith, low, many)) small ∙ ap (λ z. slice_index z i) (each row low).1;
      allocated = λ row shut e. elim (cases_eq row 0) [
        | inl z ↦ omega (arith, a.first, e, ap (λ n. slice_index (opening_words rows) (lock_at n)) z)
        | inr z ↦ let low : row < 14242 = cell_low row (not_free row (omega (arith, z)) shut) in
            let taken : (row_of rows row).allocated ≡ true = (each row low).0 ∙ ap not shut in
            omega (arith, a.locks row (omega (arith, z)) (omega (arith, low, many)), e, ap (λ b. cond {A = ℕ} b 2 0) taken)
      ];
      free = λ row low unlocked. elim (cases_eq row 0) [
        | inl z ↦ absurd (first_shut row z unlocked)
        | inr z ↦ a.locks row (omega (arith, z)) (omega (arith, low, many)) ∙ ap (λ b. cond {A = ℕ} b 2 0) ((each row low).0 ∙ ap not unlocked)
      ];
    }
