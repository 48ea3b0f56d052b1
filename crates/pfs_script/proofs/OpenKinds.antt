-- The kinds of the open events, by how many of each kind there are.
use Rattle.std.proofs.Common.{ℕ, zero, suc, ◌≡◌, Bool, true, false, ◌&&◌, ◌==◌, eqb, not, List, [], ◌∷◌, refl, ap, sym, arith}
use mathlib.Core.Bool.{beq}
use Rattle.std.proofs.lemmas.Bool.{eqb-true, eq-eqb}
use Rattle.std.proofs.lemmas.Bool.Decides.{nat_tests}
use Rattle.pfs_lemmas.proofs.Bools.{and_first, and_second}
use Rattle.pfs_event.specs.declared.kind.EventKind.{EventKind}
use Rattle.pfs_event.specs.declared.kind.EventKind.TheVariants.{Wait, Stage, Statement, Transaction}
use Rattle.pfs_script.specs.declared.open_kinds.OpenKinds.{OpenKinds}
use Rattle.pfs_script.specs.Marks.{Ends}
use Rattle.pfs_script.specs.Brackets.{may_stand}
use Rattle.pfs_script.specs.Reasons.{same_kind, same_kinds}
use Rattle.pfs_script.specs.ReaderState.{with_kinds, with_kind, kinds_from, kinds_in}

-- lists of the same kinds are the same

kind_same : (kind : EventKind) → same_kind kind kind ≡ true
kind_same Wait = refl
kind_same Stage = refl
kind_same Statement = refl
kind_same Transaction = refl

pub kinds_same : (kinds : List EventKind) → same_kinds kinds kinds ≡ true
kinds_same [] = refl
kinds_same (kind ∷ kinds) = rw (kind_same kind, kinds_same kinds) refl

same_one : (kind other : EventKind) → same_kind kind other ≡ true → kind ≡ other
same_one Wait Wait h = refl
same_one Stage Stage h = refl
same_one Statement Statement h = refl
same_one Transaction Transaction h = refl
same_one _ _ h = cc

pub same_all : (kinds others : List EventKind) → same_kinds kinds others ≡ true → kinds ≡ others
same_all [] [] h = refl
same_all [] (other ∷ others) h = cc
same_all (kind ∷ kinds) [] h = cc
same_all (kind ∷ kinds) (other ∷ others) h =
    let first = same_one kind other (and_first (same_kind kind other) (same_kinds kinds others) h) in
    let rest = same_all kinds others (and_second (same_kind kind other) (same_kinds kinds others) h) in
    rw (first, rest) refl

-- the numbers are those of the list

same_last : (g h x y : Bool) → with_kind g Transaction [] ≡ with_kind h Transaction [] → g ≡ h
same_last true true x y e = refl
same_last false false x y e = refl
same_last true false x y e = cc
same_last false true x y e = cc

same_statements : (s t : ℕ) (x y : Bool) → with_kinds s Statement (with_kind x Transaction []) ≡ with_kinds t Statement (with_kind y Transaction []) → (s ≡ t) × (x ≡ y)
same_statements zero zero x y e = (refl, same_last x y x y e)
same_statements zero (suc t) true y e = cc
same_statements zero (suc t) false y e = cc
same_statements (suc s) zero x true e = cc
same_statements (suc s) zero x false e = cc
same_statements (suc s) (suc t) x y e =
    let rest : with_kinds s Statement (with_kind x Transaction []) ≡ with_kinds t Statement (with_kind y Transaction []) = cc in
    let both = same_statements s t x y rest in
    (ap suc both.0, both.1)

no_stage : (t : ℕ) (y : Bool) (more : List EventKind) → with_kinds t Statement (with_kind y Transaction []) ≡ Stage ∷ more → ⊥
no_stage zero true more e = cc
no_stage zero false more e = cc
no_stage (suc t) y more e = cc

same_stage : (g h : Bool) (s t : ℕ) (x y : Bool) → with_kind g Stage (with_kinds s Statement (with_kind x Transaction [])) ≡ with_kind h Stage (with_kinds t Statement (with_kind y Transaction []))
    → (g ≡ h) × ((s ≡ t) × (x ≡ y))
same_stage true true s t x y e = (refl, same_statements s t x y (cc))
same_stage false false s t x y e = (refl, same_statements s t x y e)
same_stage true false s t x y e = absurd (no_stage t y (with_kinds s Statement (with_kind x Transaction [])) (sym e))
same_stage false true s t x y e = absurd (no_stage s x (with_kinds t Statement (with_kind y Transaction [])) e)

no_wait_below : (t : ℕ) (y : Bool) (more : List EventKind) → with_kinds t Statement (with_kind y Transaction []) ≡ Wait ∷ more → ⊥
no_wait_below zero true more e = cc
no_wait_below zero false more e = cc
no_wait_below (suc t) y more e = cc

no_wait : (h : Bool) (t : ℕ) (y : Bool) (more : List EventKind) → with_kind h Stage (with_kinds t Statement (with_kind y Transaction [])) ≡ Wait ∷ more → ⊥
no_wait true t y more e = cc
no_wait false t y more e = no_wait_below t y more e

same_numbers : (m n : ℕ) (g h : Bool) (s t : ℕ) (x y : Bool) → kinds_from m g s x ≡ kinds_from n h t y → (m ≡ n) × ((g ≡ h) × ((s ≡ t) × (x ≡ y)))
same_numbers zero zero g h s t x y e = (refl, same_stage g h s t x y e)
same_numbers zero (suc n) g h s t x y e = absurd (no_wait g s x (with_kinds n Wait (with_kind h Stage (with_kinds t Statement (with_kind y Transaction [])))) e)
same_numbers (suc m) zero g h s t x y e = absurd (no_wait h t y (with_kinds m Wait (with_kind g Stage (with_kinds s Statement (with_kind x Transaction [])))) (sym e))
same_numbers (suc m) (suc n) g h s t x y e =
    let rest : kinds_from m g s x ≡ kinds_from n h t y = cc in
    let all = same_numbers m n g h s t x y rest in
    (ap suc all.0, all.1)

-- nothing is open

pub end_may : (m : ℕ) (g : Bool) (s : ℕ) (x : Bool) → not (m == 0 && not g && s == 0 && not x) ≡ may_stand (kinds_from m g s x) Ends
end_may zero false zero false = refl
end_may zero false zero true = refl
end_may zero true s x = refl
end_may zero false (suc s) x = grind (arith, nat_tests)
end_may (suc m) g s x = grind (arith, nat_tests)

-- two tests of all four numbers

one_or_other : (a b : Bool) → (a ≡ true → b ≡ true) → (b ≡ true → a ≡ true) → a ≡ b
one_or_other true true first second = refl
one_or_other false false first second = refl
one_or_other true false first second = sym (first refl)
one_or_other false true first second = second refl

same_flag : (a b : Bool) → beq a b ≡ true → a ≡ b
same_flag true true h = refl
same_flag false false h = refl
same_flag true false h = cc
same_flag false true h = cc

flag_same : (a b : Bool) → a ≡ b → beq a b ≡ true
flag_same true true h = refl
flag_same false false h = refl
flag_same true false h = cc
flag_same false true h = cc

abbrev test : OpenKinds → OpenKinds → Bool
test a b = eqb a.waits b.waits && (beq a.has_stage b.has_stage && (eqb a.statements b.statements && beq a.has_transaction b.has_transaction))

tested : (a b : OpenKinds) → test a b ≡ true → same_kinds (kinds_in a) (kinds_in b) ≡ true
tested a b h =
    let waits = and_first (eqb a.waits b.waits) _ h in
    let rest = and_second (eqb a.waits b.waits) _ h in
    let stage = and_first (beq a.has_stage b.has_stage) _ rest in
    let more = and_second (beq a.has_stage b.has_stage) _ rest in
    let statements = and_first (eqb a.statements b.statements) _ more in
    let last = and_second (eqb a.statements b.statements) _ more in
    rw (eqb-true a.waits b.waits waits, same_flag a.has_stage b.has_stage stage, eqb-true a.statements b.statements statements, same_flag a.has_transaction b.has_transaction last) (kinds_same (kinds_in b))

test_of : (a b : OpenKinds) → same_kinds (kinds_in a) (kinds_in b) ≡ true → test a b ≡ true
test_of a b h =
    let all = same_numbers a.waits b.waits a.has_stage b.has_stage a.statements b.statements a.has_transaction b.has_transaction (same_all (kinds_in a) (kinds_in b) h) in
    rw (eq-eqb a.waits b.waits all.0, flag_same a.has_stage b.has_stage all.1.0, eq-eqb a.statements b.statements all.1.1.0, flag_same a.has_transaction b.has_transaction all.1.1.1) refl

pub same_test : (a b : OpenKinds) → test a b ≡ same_kinds (kinds_in a) (kinds_in b)
same_test a b = one_or_other (test a b) (same_kinds (kinds_in a) (kinds_in b)) (tested a b) (test_of a b)
