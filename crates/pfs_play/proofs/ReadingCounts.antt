-- Readings one after another, and how many there are.
use Rattle.std.proofs.Common.{ℕ, zero, suc, ◌≡◌, ◌≤◌, ◌+◌, Bool, true, false, List, [], ◌∷◌, ◌++◌, Option, length, map, refl, ap, sym, ◌∙◌, subst, arith}
use Rattle.std.specs.Prelude.{Some, None}
use Rattle.std.proofs.lemmas.List.{append-nil, length-append, length-map}
use Rattle.pfs_levels.specs.Calls.{Call, Opening}
use Rattle.pfs_law_session.specs.Deeds.{looks, remark}
use Rattle.pfs_readsets.proofs.TestedNumbers.{passing_none, passing_no, passing_yes}
use Rattle.pfs_readsets.specs.TablePlaces.{Scope}
use Rattle.pfs_readsets.specs.ReadSets.{passing, row_test, target_of, word_test}
use Rattle.pfs_readsets.specs.ReadProgress.{Reached}
use Rattle.pfs_readsets.specs.declared.read_set.ReadSet.{ReadSet}
use Rattle.pfs_readsets.specs.declared.target.Target.TheVariants as targets
use Rattle.pfs_rows.specs.declared.table.Reading.{Reading}
use Rattle.pfs_rows.specs.declared.table.Table.{Table}
use Rattle.pfs_session.proofs.StepLists.{played_then}
use Rattle.pfs_session.specs.Inquiries.{Looks}
use Rattle.pfs_session.specs.SessionStates.{Book}
use Rattle.pfs_session.specs.Turns.{Inquires, Played, Step, looks_at}
use Rattle.pfs_session.specs.declared.remarks.Remark.TheVariants.{Query, Rows}

few : (test : ℕ → Bool) (from count : ℕ) → length (passing test from count) ≤ count
few test from zero = let e = ap length (passing_none test from) in omega (arith, e)
few test from (suc count) = on test from count (few test (from + 1) count) (test from) refl
  where
    on : (test : ℕ → Bool) (from count : ℕ) → length (passing test (from + 1) count) ≤ count → (b : Bool) → test from ≡ b → length (passing test from (suc count)) ≤ suc count
    on test from count low false is = let e = ap length (passing_no test from count is) in omega (arith, e, low)
    on test from count low true is = let e = ap length (passing_yes test from count is) in omega (arith, e, low)

-- a table has no more readings than there are rows and words
pub reached_few : (set : ReadSet) (scope : Scope) (table : Table) (readings : List Reading) → Reached set scope table readings → length readings ≤ 14402
reached_few set scope table readings reached =
    let rows = passing (row_test scope table readings) 0 set.row in
    let words = passing (word_test scope table readings) 0 set.word in
    let made = ap length reached.made in
    let count = length-map readings target_of in
    let both = length-append (map targets.Row rows) (map targets.Word words) in
    let a = length-map rows targets.Row in
    let b = length-map words targets.Word in
    omega (arith, made, count, both, a, b, few (row_test scope table readings) 0 set.row, few (word_test scope table readings) 0 set.word, reached.row, reached.word)

looks_then : (xs ys : List Reading) → looks (xs ++ ys) ≡ looks xs ++ looks ys
looks_then [] ys = refl
looks_then (x ∷ xs) ys = ap (λ (z : List Step). Inquires (Looks x) ∷ z) (looks_then xs ys)

-- one reading more, and the call that finds none
pub look_more : (readings : List Reading) (reading : Reading) (old at new : Book) (was mid now : Opening → List Call → Type 0) → Played (looks readings) old at was mid → Played (looks_at (Some reading)) at new mid now
    → Played (looks (readings ++ reading ∷ [])) old new was now
look_more readings reading old at new was mid now p q =
    subst (λ (z : List Step). Played z old new was now) (sym (looks_then readings (reading ∷ []))) (played_then (looks readings) (looks_at (Some reading)) old at new was mid now p q)

pub look_last : (readings : List Reading) (old at new : Book) (was mid now : Opening → List Call → Type 0) → Played (looks readings) old at was mid → Played (looks_at None) at new mid now → Played (looks readings) old new was now
look_last readings old at new was mid now p q =
    subst (λ (z : List Step). Played z old new was now) (append-nil (looks readings)) (played_then (looks readings) [] old at new was mid now p q)

-- a query's remark, its readings, and how many rows answer it
pub queried : (readings : List Reading) (count : ℕ) (old one two new : Book) (was now : Opening → List Call → Type 0) → Played (remark Query ∷ []) old one was was → Played (looks readings) one two was now → Played (remark (Rows count) ∷ []) two new now now
    → Played (remark Query ∷ (looks readings ++ remark (Rows count) ∷ [])) old new was now
queried readings count old one two new was now begin read end =
    played_then (remark Query ∷ []) (looks readings ++ remark (Rows count) ∷ []) old one new was was now begin (played_then (looks readings) (remark (Rows count) ∷ []) one two new was now now read end)
