-- The class `transaction` is of the kind of transactions, whatever a script registers; and which cells a class's row has.
use Rattle.std.proofs.Common.{ℕ, ◌≡◌, ◌<◌, ◌≤◌, ◌==◌, Bool, true, false, List, [], ◌∷◌, ◌++◌, length, map, Some, refl, ap, sym, ◌∙◌, arith}
use Rattle.std.specs.Prelude.{nat_lt, fold, slice_get, if◌then◌else◌}
use Rattle.std.proofs.lemmas.Grind.{not_there}
use Rattle.std.proofs.lemmas.Option.{slice_get_past}
use Rattle.std.proofs.lemmas.Bool.{eqb-true}
use Rattle.pfs_classes.specs.Builtins.{builtins, class_of, start_of}
use Rattle.pfs_classes.specs.Registry.{Registry, class_at, has_room, registered, with_flags}
use Rattle.pfs_classes.specs.Settings.{ComesFrom, builtin, register, set}
use Rattle.pfs_classes.specs.declared.classes.Class.{Class}
use Rattle.pfs_classes.specs.declared.kind.Kind.TheVariants.{Transaction}
use Rattle.pfs_classes.specs.declared.setting.Setting.{Setting}
use Rattle.pfs_readsets.specs.TablePlaces.{is_class_of, is_kind_cell, table_kind}
use Rattle.pfs_rows.specs.Tables.{kind_number}
use Rattle.pfs_rows.specs.declared.table.TableKind.{TableKind}
use Rattle.pfs_rows.specs.declared.table.TableKind.TheVariants.{Waits, Stages, Statements, Transactions}
use Rattle.pfs_law_plain.proofs.ClassCount.{few_classes}
use Rattle.pfs_stat.specs.Stat.{zero_of}
use Rattle.pfs_stat.specs.declared.Stat.{Stat}
use Rattle.pfs_summaries.specs.RowValues.{count_of}
use Rattle.pfs_summaries.specs.Summaries.{numbers_of, is_skipped}
use Rattle.pfs_summaries.specs.declared.numbers.Numbers.TheVariants as numbers
use Rattle.pfs_summaries.specs.declared.tallies.Tally.{Tally}
use Rattle.pfs_law_summaries.specs.SummaryRows.{class_numbers}

still : (r : Registry) (class : Class) → (registered r class).transaction.kind ≡ r.transaction.kind
unfolding registered
still r class = at (has_room r class.kind) where
  at : (b : Bool) → (if b then record r { classes = r.classes ++ class ∷ [] } else record r { lost = r.lost ++ record { name = class.name; kind = class.kind } ∷ [] }).transaction.kind ≡ r.transaction.kind
  at true = refl
  at false = refl

all_still : (r : Registry) (classes : List Class) → (fold registered r classes).transaction.kind ≡ r.transaction.kind
all_still r [] = refl
all_still r (class ∷ classes) = all_still (registered r class) classes ∙ still r class

set_still : (r : Registry) (id : ℕ) (enabled timed : Bool) → (with_flags r id enabled timed).transaction.kind ≡ r.transaction.kind
set_still r id enabled timed = grind (arith)

comes_kind : (texts : List (List ℕ)) (r : Registry) → ComesFrom texts r → r.transaction.kind ≡ Transaction
comes_kind texts r (builtin limits range has) = all_still (start_of texts limits) (map (class_of texts) builtins)
comes_kind texts r (register before class comes known fits ordinary fresh) = still before class ∙ comes_kind texts before comes
comes_kind texts r (set before id enabled timed comes given) = set_still before id enabled timed ∙ comes_kind texts before comes

pub transaction_kind : (setting : Setting) → table_kind setting.classes.transaction.kind ≡ Transactions
transaction_kind setting = at (table_kind setting.classes.transaction.kind) refl where
  not_other : (k : TableKind) → table_kind setting.classes.transaction.kind ≡ k → (k ≡ Transactions → ⊥) → ⊥
  not_other k q n = not_there setting.come (λ comes. absurd (n (sym q ∙ ap table_kind (comes_kind setting.names setting.classes comes))))

  at : (k : TableKind) → table_kind setting.classes.transaction.kind ≡ k → table_kind setting.classes.transaction.kind ≡ Transactions
  at Transactions q = q
  at Waits q = absurd (not_other Waits q (λ e. absurd (cc)))
  at Stages q = absurd (not_other Stages q (λ e. absurd (cc)))
  at Statements q = absurd (not_other Statements q (λ e. absurd (cc)))

-- what stands at an id is a registered class, or `transaction`
pub class_cases : (setting : Setting) (kind : TableKind) (id : ℕ) → (kind ≡ Transactions → ⊥) → is_class_of kind (class_at setting.classes id) ≡ true → is_class_of kind (slice_get setting.classes.classes id) ≡ true
class_cases setting kind id n h = at (id == 62) refl where
  at : (b : Bool) → (id == 62) ≡ b → is_class_of kind (slice_get setting.classes.classes id) ≡ true
  at false q = ap (λ (b : Bool). is_class_of kind (if b then Some setting.classes.transaction else slice_get setting.classes.classes id)) (sym q) ∙ h
  at true q =
      let e : is_class_of kind (Some setting.classes.transaction) ≡ true = ap (λ (b : Bool). is_class_of kind (if b then Some setting.classes.transaction else slice_get setting.classes.classes id)) (sym q) ∙ h in
      absurd (other kind n (ap (λ (k : TableKind). kind_number k == kind_number kind) (sym (transaction_kind setting)) ∙ e)) where
        other : (kind : TableKind) → (kind ≡ Transactions → ⊥) → (kind_number Transactions == kind_number kind) ≡ true → ⊥
        other Waits n h = absurd (cc)
        other Stages n h = absurd (cc)
        other Statements n h = absurd (cc)
        other Transactions n h = n refl

pub few_ids : (setting : Setting) (kind : TableKind) (id : ℕ) → is_class_of kind (class_at setting.classes id) ≡ true → id < 63
few_ids setting kind id h = at (id == 62) refl where
  under : (a b : ℕ) → nat_lt a b ≡ true → a < b
  under a b q = grind arith

  over : (a b : ℕ) → nat_lt a b ≡ false → b ≤ a
  over a b q = grind arith

  at : (b : Bool) → (id == 62) ≡ b → id < 63
  at true q = omega (arith, eqb-true id 62 q)
  at false q = on (nat_lt id (length setting.classes.classes)) refl where
    e : is_class_of kind (slice_get setting.classes.classes id) ≡ true
    e = ap (λ (b : Bool). is_class_of kind (if b then Some setting.classes.transaction else slice_get setting.classes.classes id)) (sym q) ∙ h

    on : (b : Bool) → nat_lt id (length setting.classes.classes) ≡ b → id < 63
    on true w = omega (arith, under id (length setting.classes.classes) w, few_classes setting)
    on false w = absurd (let z : true ≡ false = sym e ∙ ap (is_class_of kind) (slice_get_past setting.classes.classes id (over id (length setting.classes.classes) w)) in cc)

-- a row's numbers go by its cells alone
pub same_numbers : (setting : Setting) (kind : TableKind) (id : ℕ) (tally : ℕ → Tally) (counts : ℕ → Stat) → is_class_of kind (class_at setting.classes id) ≡ true
    → ((cell : ℕ) → cell < 64 → is_kind_cell setting.classes.classes kind cell ≡ true → (tally cell).stat ≡ counts cell) → numbers_of kind tally id ≡ class_numbers kind counts id
same_numbers setting Waits id tally counts h same = ap (λ s. numbers.Times s) (same id (let l : id < 63 = few_ids setting Waits id h in omega (arith, l)) (class_cases setting Waits id (λ e. absurd (cc)) h))
same_numbers setting Stages id tally counts h same = ap (λ s. numbers.Times s) (same id (let l : id < 63 = few_ids setting Stages id h in omega (arith, l)) (class_cases setting Stages id (λ e. absurd (cc)) h))
same_numbers setting Statements id tally counts h same = ap (λ s. numbers.Statements s) (same id (let l : id < 63 = few_ids setting Statements id h in omega (arith, l)) (class_cases setting Statements id (λ e. absurd (cc)) h))
same_numbers setting Transactions id tally counts h same = two (same 62 (omega arith) refl) (same 63 (omega arith) refl) where
  two : (tally 62).stat ≡ counts 62 → (tally 63).stat ≡ counts 63 → numbers.Transactions (tally 62).stat (tally 63).stat ≡ numbers.Transactions (counts 62) (counts 63)
  two p q = cc

-- where its cells counted nothing, a row has counted nothing
pub zero_numbers : (setting : Setting) (kind : TableKind) (id : ℕ) (counts : ℕ → Stat) → is_class_of kind (class_at setting.classes id) ≡ true
    → ((cell : ℕ) → cell < 64 → is_kind_cell setting.classes.classes kind cell ≡ true → counts cell ≡ zero_of) → (count_of (class_numbers kind counts id) == 0) ≡ true
zero_numbers setting kind id counts h none =
    ap (λ n. count_of n == 0) (sym (same_numbers setting kind id (λ cell. record { stat = zero_of; busy = false }) counts h (λ cell l is. sym (none cell l is)))) ∙ by kind where
      by : (kind : TableKind) → (count_of (numbers_of kind (λ cell. record { stat = zero_of; busy = false }) id) == 0) ≡ true
      by Waits = refl
      by Stages = refl
      by Statements = refl
      by Transactions = refl

pub never_skipped : (kind : TableKind) (tally : ℕ → Tally) (id : ℕ) → ((cell : ℕ) → (tally cell).busy ≡ false) → is_skipped kind tally id ≡ false
never_skipped Waits tally id idle = idle id
never_skipped Stages tally id idle = idle id
never_skipped Statements tally id idle = idle id
never_skipped Transactions tally id idle = let p : (tally 62).busy ≡ false = idle 62 in let q : (tally 63).busy ≡ false = idle 63 in grind (arith, p, q)
