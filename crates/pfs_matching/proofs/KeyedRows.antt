-- Rows in key order, and a new row among them.
use Rattle.std.proofs.Common.{◌≡◌, ◌≢◌, ℕ, ◌+◌, ◌≤◌, ◌↔◌, inl, inr, zero, suc, Bool, true, false, List, [], ◌∷◌, length, map, Contains, IsTrue, sym, ap, ◌∙◌, refl, arith}
use Rattle.std.specs.declared.cmp.Ordering.{Ordering}
use Rattle.std.specs.declared.cmp.Ordering.TheVariants.{Less, Equal, Greater}
use Rattle.std.specs.Cmp.{IsTotalOrder}
use Rattle.std.specs.Cmp.Lexicographic.{slice_cmp, lists_total, nat_list_cmp_total, bytes_decides}
use Rattle.std.specs.List.{AllByRecursion, insert, list_any, prefix_len}
use Rattle.std.specs.Ordering.{is_eq, is_lt, nat_cmp, ordering_reverse, ordering_then}
use Rattle.std.proofs.lemmas.Bool.{or_cases, cases_Bool}
use Rattle.std.proofs.lemmas.Cmp.{tied_itself}
use Rattle.std.proofs.lemmas.Map.Text.{is_eq-slice_cmp}
use Rattle.pfs_lemmas.proofs.Numbers.{one_plus}
use Rattle.pfs_matching.specs.KeyedRows.{AreOrdered, AreRows, comes_before, key_cmp, with_row}

pub key_total : IsTotalOrder key_cmp
key_total = lists_total nat_list_cmp_total

-- keys that compare as equal are the same
texts_same : (a b : List ℕ) → slice_cmp nat_cmp a b ≡ Equal → a ≡ b
texts_same a b e = (bytes_decides a b).0 (sym (is_eq-slice_cmp a b) ∙ ap is_eq e)

both_equal : (o rest : Ordering) → is_eq (ordering_then o rest) ≡ true → (o ≡ Equal) × (is_eq rest ≡ true)
both_equal Less rest e = cc
both_equal Equal rest e = (refl, e)
both_equal Greater rest e = cc

pub keys_same : (a b : List (List ℕ)) → is_eq (key_cmp a b) ≡ true → a ≡ b
keys_same [] [] e = refl
keys_same [] (y ∷ b) e = cc
keys_same (x ∷ a) [] e = cc
keys_same (x ∷ a) (y ∷ b) e =
    let parts = both_equal (slice_cmp nat_cmp x y) (slice_cmp (slice_cmp nat_cmp) a b) e in
    let first = texts_same x y parts.0 in
    let rest = keys_same a b parts.1 in
    cc

pub keys_itself : (a : List (List ℕ)) → is_eq (key_cmp a a) ≡ true
keys_itself a = ap is_eq (tied_itself key_total a)

module _ {R : Type 0} (key : R → List (List ℕ)) where
  -- the test of all rows for a key
  pub Contains-from_any : (rows : List R) (k : List (List ℕ)) → list_any (λ row. is_eq (key_cmp (key row) k)) rows ≡ true → Contains (map key rows) k
  Contains-from_any [] k found = cc
  Contains-from_any (row ∷ rows) k found = elim (or_cases (is_eq (key_cmp (key row) k)) (list_any (λ row. is_eq (key_cmp (key row) k)) rows) found) [
    | inl here ↦ (zero, omega arith, keys_same (key row) k here)
    | inr later ↦ let more = Contains-from_any rows k later in (suc more.0, omega (arith, more.1), more.2)
  ]

  pub any-from_Contains : (rows : List R) (k : List (List ℕ)) → Contains (map key rows) k → list_any (λ row. is_eq (key_cmp (key row) k)) rows ≡ true
  any-from_Contains [] k (i, within, is) = absurd (omega arith)
  any-from_Contains (row ∷ rows) k (zero, within, is) = rw (is, keys_itself k) refl
  any-from_Contains (row ∷ rows) k (suc i, within, is) =
      let later = any-from_Contains rows k (i, omega arith, is) in
      elim (cases_Bool (is_eq (key_cmp (key row) k))) [ inl same ↦ rw same refl | inr other ↦ rw (other, later) refl ]

  -- where the new row stands
  pub place-le : (new : R) (rows : List R) → prefix_len (λ row. comes_before key row new) rows ≤ length rows
  place-le new [] = omega arith
  place-le new (row ∷ rows) = elim (cases_Bool (comes_before key row new)) [
    | inl before ↦ rw before (omega (arith, place-le new rows))
    | inr after ↦ rw after (omega arith)
  ]

  pub with_row-insert : (new : R) (rows : List R) → insert rows (prefix_len (λ row. comes_before key row new) rows) new ≡ with_row key new rows
  with_row-insert new [] = refl
  with_row-insert new (row ∷ rows) = elim (cases_Bool (comes_before key row new)) [
    | inl before ↦ rw (before, one_plus (prefix_len (λ row. comes_before key row new) rows)) (ap (λ rs. row ∷ rs) (with_row-insert new rows))
    | inr after ↦ rw after refl
  ]

  pub length-with_row : (new : R) (rows : List R) → length (with_row key new rows) ≡ length rows + 1
  length-with_row new [] = refl
  length-with_row new (row ∷ rows) = elim (cases_Bool (comes_before key row new)) [
    | inl before ↦ rw before (omega (arith, length-with_row new rows))
    | inr after ↦ rw after (omega arith)
  ]

  -- a row that is not before another with another key comes after it
  after_other : (a b : R) → comes_before key a b ≡ false → key a ≢ key b → comes_before key b a ≡ true
  after_other a b late differs = by (key_cmp (key a) (key b)) refl late
    where
      by : (o : Ordering) → key_cmp (key a) (key b) ≡ o → is_lt o ≡ false → comes_before key b a ≡ true
      by Less is late = cc
      by Equal is late = absurd (differs (keys_same (key a) (key b) (ap is_eq is)))
      by Greater is late = ap is_lt (key_total.antisymm (key b) (key a) ∙ ap ordering_reverse is)

  is_less : (o : Ordering) → is_lt o ≡ true → o ≡ Less
  is_less Less e = refl
  is_less Equal e = cc
  is_less Greater e = cc

  pub before_trans : (a b c : R) → comes_before key a b ≡ true → comes_before key b c ≡ true → comes_before key a c ≡ true
  before_trans a b c first second = ap is_lt (key_total.trans (key a) (key b) (key c) (is_less (key_cmp (key a) (key b)) first) (is_less (key_cmp (key b) (key c)) second))

  all_with_row : (P : R → Type 0) (new : R) (rows : List R) → P new → AllByRecursion P rows → AllByRecursion P (with_row key new rows)
  all_with_row P new [] holds all = (holds, all)
  all_with_row P new (row ∷ rows) holds all = elim (cases_Bool (comes_before key row new)) as (λ _. AllByRecursion P (with_row key new (row ∷ rows))) [
    | inl before ↦ rw before (all.0, all_with_row P new rows holds all.1)
    | inr after ↦ rw after (holds, all)
  ]

  all_after : (new row : R) (rows : List R) → comes_before key new row ≡ true → AllByRecursion (λ later. IsTrue (comes_before key row later)) rows → AllByRecursion (λ later. IsTrue (comes_before key new later)) rows
  all_after new row [] first all = all
  all_after new row (other ∷ rows) first all = (before_trans new row other first all.0, all_after new row rows first all.1)

  pub AreOrdered-with_row : (new : R) (rows : List R) → AreOrdered key rows → ¬ Contains (map key rows) (key new) → AreOrdered key (with_row key new rows)
  AreOrdered-with_row new [] ordered absent = (ordered, ordered)
  AreOrdered-with_row new (row ∷ rows) ordered absent =
      let absent_later : ¬ Contains (map key rows) (key new) = λ has. absent (suc has.0, omega (arith, has.1), has.2) in
      let differs : key row ≢ key new = λ same. absent (zero, omega arith, same) in
      elim (cases_Bool (comes_before key row new)) as (λ _. AreOrdered key (with_row key new (row ∷ rows))) [
        | inl before ↦ rw before (all_with_row (λ later. IsTrue (comes_before key row later)) new rows before ordered.0, AreOrdered-with_row new rows ordered.1 absent_later)
        | inr after ↦ let first = after_other row new after differs in rw after ((first, all_after new row rows first ordered.0), ordered)
      ]

  -- what an insertion keeps
  pub AreRows-with_row : (new : R) (rows : List R) → AreRows key rows → ¬ Contains (map key rows) (key new) → length rows ≢ 100 → AreRows key (with_row key new rows)
  AreRows-with_row new rows are absent room = record {
    ordered = AreOrdered-with_row new rows are.ordered absent;
    few = omega (arith, are.few, length-with_row new rows);
  }

  -- what the test of all rows says
  pub has_key-tells : (rows : List R) (k : List (List ℕ)) (found : Bool) → found ≡ list_any (λ row. is_eq (key_cmp (key row) k)) rows → IsTrue found ↔ Contains (map key rows) k
  has_key-tells rows k found is = (λ holds. Contains-from_any rows k (sym is ∙ holds), λ has. is ∙ any-from_Contains rows k has)
