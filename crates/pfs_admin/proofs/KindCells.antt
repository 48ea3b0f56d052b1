-- The cells of each kind: those of the registered classes, below 64, and few together.
use Rattle.std.proofs.Common.{ℕ, zero, suc, ◌≡◌, ◌<◌, ◌≤◌, ◌+◌, Bool, true, false, cond, List, [], ◌∷◌, ◌++◌, length, All, Option, Some, None, refl, ap, ◌∙◌, arith}
use Rattle.std.specs.Prelude.{filter, slice_get}
use Rattle.std.specs.List.{range_with_len}
use Rattle.std.proofs.lemmas.List.Elements.{filter-append}
use Rattle.std.proofs.lemmas.List.FromFn.{length-range_with_len}
use Rattle.pfs_lemmas.proofs.Bools.{cond_at_most_one}
use Rattle.pfs_classes.specs.declared.classes.Class.{Class}
use Rattle.pfs_classes.specs.declared.kind.Kind.{Kind}
use Rattle.pfs_classes.specs.declared.kind.Kind.TheVariants as kinds
use Rattle.pfs_classes.specs.Registry.{Registry}
use Rattle.pfs_classes.specs.declared.setting.Setting.{Setting}
use Rattle.pfs_readsets.specs.TablePlaces.{is_class_of, is_kind_cell}
use Rattle.pfs_rows.specs.declared.table.TableKind.{TableKind}
use Rattle.pfs_rows.specs.declared.table.TableKind.TheVariants.{Waits, Stages, Statements, Transactions}
use Rattle.pfs_admin.specs.OpeningState.{cells_of_kind, kinds_of}
use Rattle.pfs_admin.specs.AdministrationStates.{kind_cells, AreKindCells}
use Rattle.pfs_admin.proofs.LoopLists.{numbers_next}
use Rattle.pfs_admin.proofs.OpeningState.{all_cons}

-- one number more
pub chosen_next : (p : ℕ → Bool) (n : ℕ) → filter p (range_with_len 0 (n + 1)) ≡ filter p (range_with_len 0 n) ++ cond (p n) (n ∷ []) []
chosen_next p n = ap (filter p) (numbers_next n) ∙ filter-append p (range_with_len 0 n) (n ∷ [])

pub chosen_whole : (r : Registry) (kind : TableKind) (n : ℕ) → n ≡ 64 → filter (is_kind_cell r.classes kind) (range_with_len 0 n) ≡ cells_of_kind r kind
unfolding cells_of_kind
chosen_whole r kind n e = ap (λ z. filter (is_kind_cell r.classes kind) (range_with_len 0 z)) e

low_numbers : (a n limit : ℕ) → a + n ≤ limit → All (λ cell. cell < limit) (range_with_len a n)
low_numbers a zero limit h = λ k d l. absurd (omega (arith, l))
low_numbers a (suc n) limit h = all_cons (λ cell. cell < limit) a (range_with_len (a + 1) n) (omega (arith, h)) (low_numbers (a + 1) n limit (omega (arith, h)))

all_if : {X : Type 0} (P : X → Type 0) (b : Bool) (x : X) (xs : List X) → P x → All P xs → All P (cond b (x ∷ xs) xs)
all_if P true x xs p all = all_cons P x xs p all
all_if P false x xs p all = all

all_chosen : {X : Type 0} (P : X → Type 0) (p : X → Bool) (xs : List X) → All P xs → All P (filter p xs)
all_chosen P p [] all = all
all_chosen P p (x ∷ xs) all =
    all_if P (p x) x (filter p xs) (all zero x (omega arith)) (all_chosen P p xs (λ k d l. all (suc k) d (omega (arith, l))))

len_if : {X : Type 0} (b : Bool) (x : X) (xs : List X) → length (cond b (x ∷ xs) xs) ≡ cond b 1 0 + length xs
len_if true x xs = omega arith
len_if false x xs = omega arith

few_chosen : {X : Type 0} (p : X → Bool) (xs : List X) → length (filter p xs) ≤ length xs
few_chosen p [] = omega arith
few_chosen p (x ∷ xs) = omega (arith, len_if (p x) x (filter p xs), cond_at_most_one (p x), few_chosen p xs)

-- a class is of one kind
one_kind : (k : Kind) (name : ℕ) (enabled timed : Bool)
    → cond (is_class_of Waits (Some (record { name = name; kind = k; enabled = enabled; timed = timed }))) 1 0
    + (cond (is_class_of Stages (Some (record { name = name; kind = k; enabled = enabled; timed = timed }))) 1 0
    + cond (is_class_of Statements (Some (record { name = name; kind = k; enabled = enabled; timed = timed }))) 1 0) ≤ 1
one_kind kinds.Mutex name enabled timed = omega arith
one_kind kinds.Rwlock name enabled timed = omega arith
one_kind kinds.Cond name enabled timed = omega arith
one_kind kinds.File name enabled timed = omega arith
one_kind kinds.Socket name enabled timed = omega arith
one_kind kinds.TableIo name enabled timed = omega arith
one_kind kinds.TableLock name enabled timed = omega arith
one_kind kinds.Stage name enabled timed = omega arith
one_kind kinds.Statement name enabled timed = omega arith
one_kind kinds.Transaction name enabled timed = omega arith

one_of : (class : Option Class)
    → cond (is_class_of Waits class) 1 0 + (cond (is_class_of Stages class) 1 0 + cond (is_class_of Statements class) 1 0) ≤ 1
one_of None = omega arith
one_of (Some class) = one_kind class.kind class.name class.enabled class.timed

three_kinds : (classes : List Class) (cells : List ℕ)
    → length (filter (is_kind_cell classes Waits) cells)
    + (length (filter (is_kind_cell classes Stages) cells) + length (filter (is_kind_cell classes Statements) cells)) ≤ length cells
three_kinds classes [] = omega arith
three_kinds classes (cell ∷ cells) =
    omega (
      arith,
      len_if (is_kind_cell classes Waits cell) cell (filter (is_kind_cell classes Waits) cells),
      len_if (is_kind_cell classes Stages cell) cell (filter (is_kind_cell classes Stages) cells),
      len_if (is_kind_cell classes Statements cell) cell (filter (is_kind_cell classes Statements) cells),
      one_of (slice_get classes cell),
      three_kinds classes cells,
    )

two_transactions : (r : Registry) → length (cells_of_kind r Transactions) ≡ 2
unfolding cells_of_kind
two_transactions r = refl

small_kind : (r : Registry) (kind : TableKind) → All (λ cell. cell < 64) (cells_of_kind r kind)
unfolding cells_of_kind
small_kind r kind = all_chosen (λ cell. cell < 64) (is_kind_cell r.classes kind) (range_with_len 0 64) (low_numbers 0 64 64 (omega arith))

few_kind : (r : Registry) (kind : TableKind) → length (cells_of_kind r kind) ≤ 64
unfolding cells_of_kind
few_kind r kind =
    let all : length (range_with_len 0 64) ≡ 64 = length-range_with_len 0 64 in
    omega (arith, few_chosen (is_kind_cell r.classes kind) (range_with_len 0 64), all)

-- the digest texts of a setting are as many as its limit allows
places_fit : (setting : Setting) → length setting.digests ≤ 64
places_fit setting = omega (arith, setting.few_digests, setting.in_range.digests)

pub kinds_fit : (setting : Setting) → AreKindCells (kinds_of setting)
unfolding kinds_of cells_of_kind
kinds_fit setting = record {
  small = by_small;
  few = by_few;
  few_together = omega (arith, three_kinds setting.classes.classes (range_with_len 0 64), two_transactions setting.classes, length-range_with_len 0 64);
  digests_few = places_fit setting;
} where
  by_small : (kind : TableKind) → All (λ cell. cell < 64) (kind_cells (kinds_of setting) kind)
  by_small Waits = small_kind setting.classes Waits
  by_small Stages = small_kind setting.classes Stages
  by_small Statements = small_kind setting.classes Statements
  by_small Transactions = small_kind setting.classes Transactions

  by_few : (kind : TableKind) → length (kind_cells (kinds_of setting) kind) ≤ 64
  by_few Waits = few_kind setting.classes Waits
  by_few Stages = few_kind setting.classes Stages
  by_few Statements = few_kind setting.classes Statements
  by_few Transactions = few_kind setting.classes Transactions
