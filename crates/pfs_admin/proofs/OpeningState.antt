-- What always holds, at first.
use Rattle.std.proofs.Common.{ℕ, zero, suc, ◌≡◌, ◌<◌, ◌≤◌, ◌+◌, List, [], ◌∷◌, ◌++◌, length, map, All, Some, None, refl, ap, ◌∙◌, arith}
use Rattle.std.specs.List.{range_with_len}
use Rattle.std.proofs.lemmas.List.FromFn.{length-map-range_with_len}
use Rattle.pfs_classes.specs.declared.setting.Setting.{Setting}
use Rattle.pfs_matching.specs.declared.object_rows.ObjectRow.{ObjectRow}
use Rattle.pfs_matching.specs.ObjectRules.{opening_objects}
use Rattle.pfs_levels.specs.PlainStore.{word}
use Rattle.pfs_setups.specs.SetupRows.{naming_of}
use Rattle.pfs_admin.specs.FoldLaws.{NoRowLaw}
use Rattle.pfs_admin.specs.AdministrationStates.{AreEarly, AreKindCells, IsState}
use Rattle.pfs_admin.specs.OpeningState.{word_flags, opening_flags, opened}

pub all_cons : {X : Type 0} (P : X → Type 0) (x : X) (xs : List X) → P x → All P xs → All P (x ∷ xs)
all_cons P x xs p all zero d l = p
all_cons P x xs p all (suc k) d l = all k d (omega (arith, l))

pub small_cells : (a n : ℕ) → a + n ≤ 62 → All (λ cell. cell < 64) (range_with_len a n ++ 62 ∷ 63 ∷ [])
small_cells a zero h =
    all_cons (λ cell. cell < 64) 62 (63 ∷ []) (omega arith)
    (all_cons (λ cell. cell < 64) 63 [] (omega arith) (λ k d l. absurd (omega (arith, l))))
small_cells a (suc n) h =
    all_cons (λ cell. cell < 64) a (range_with_len (a + 1) n ++ 62 ∷ 63 ∷ []) (omega (arith, h)) (small_cells (a + 1) n (omega (arith, h)))

pub few_cells : (a n : ℕ) → length (range_with_len a n ++ 62 ∷ 63 ∷ []) ≡ n + 2
few_cells a zero = refl
few_cells a (suc n) = let more : length (range_with_len (a + 1) n ++ 62 ∷ 63 ∷ []) ≡ n + 2 = few_cells (a + 1) n in omega (arith, more)

early_words : (flags : List ℕ) → AreEarly 0 (map (word 0) flags)
early_words [] = tt
early_words (f ∷ flags) = (omega arith, early_words flags)

len_words : (flags : List ℕ) → length (map (word 0) flags) ≡ length flags
len_words [] = refl
len_words (f ∷ flags) = ap suc (len_words flags)

pub opened_early : (setting : Setting) → AreEarly (opened setting).actions (opened setting).words
opened_early setting = early_words (opening_flags setting opening_objects)

pub flags_count : (setting : Setting) (objects : List ObjectRow) → length (opening_flags setting objects) ≡ 160
unfolding opening_flags
flags_count setting objects = length-map-range_with_len (word_flags setting objects) 0 160

pub opened_holds : (setting : Setting) → All (λ cell. cell < 64) (opened setting).cells → length (opened setting).cells ≤ 64 → AreKindCells (opened setting).kinds → IsState (opened setting)
opened_holds setting small few kinds = record {
  words_wide = len_words (opening_flags setting opening_objects) ∙ flags_count setting opening_objects;
  words_early = early_words (opening_flags setting opening_objects);
  connects_few = omega arith;
  cells_small = small;
  cells_few = few;
  kinds_are = kinds;
}

-- without any row of `setup_objects` a table is off
pub none_on : NoRowLaw
none_on None = refl
none_on (Some table) = refl

-- what a setting fixes of the rows' names
pub fixed_names : (setting : Setting) → ((naming_of setting).names ≡ setting.names) × ((naming_of setting).tables ≡ setting.tables)
unfolding naming_of
fixed_names setting = (refl, refl)
