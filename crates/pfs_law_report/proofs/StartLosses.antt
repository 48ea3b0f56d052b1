-- How many events entries say were lost: one entry more, and at most so many as there are entries.
use Rattle.std.proofs.Common.{ℕ, ◌≡◌, ◌+◌, ◌≤◌, Bool, true, false, cond, List, [], ◌∷◌, ◌++◌, length, ap, ◌∙◌, arith}
use Rattle.std.specs.List.{flat_map}
use Rattle.std.proofs.lemmas.List.Concat.{flat_map-append}
use Rattle.pfs_event.specs.declared.entry.Entry.{Entry}
use Rattle.pfs_event.specs.declared.entry.Entry.TheVariants as says
use Rattle.pfs_event.specs.declared.verdict.Verdict.{Verdict}
use Rattle.pfs_model.specs.Chains.{times}
use Rattle.pfs_law_report.specs.LostCounts.{started}
use Rattle.pfs_runs.specs.PhaseFinals.{verdict_at}

pub times_then : {A : Type 0} (test : A → Bool) (xs ys : List A) → times test (xs ++ ys) ≡ times test xs + times test ys
times_then test [] ys = none_first (times test ys) where
  none_first : (n : ℕ) → n ≡ 0 + n
  none_first n = omega arith
times_then test (x ∷ xs) ys = ap (λ z. cond (test x) 1 0 + z) (times_then test xs ys) ∙ regroup (cond (test x) 1 0) (times test xs) (times test ys) where
  regroup : (a b c : ℕ) → a + (b + c) ≡ (a + b) + c
  regroup a b c = omega arith

pub started_then : (test : Verdict → Bool) (xs ys : List Entry) → started test (xs ++ ys) ≡ started test xs + started test ys
started_then test xs ys = ap (times test) (flat_map-append verdict_at xs ys) ∙ times_then test (flat_map verdict_at xs) (flat_map verdict_at ys)

one_at_most : (b : Bool) (n : ℕ) → cond b 1 0 + n ≤ n + 1
one_at_most true n = omega arith
one_at_most false n = omega arith

pub started_one : (test : Verdict → Bool) (x : Entry) → started test (x ∷ []) ≤ 1
started_one test (says.Start event verdict consumers thread class table) = one_at_most (test verdict) 0
started_one test _ = omega arith

pub started_few : (test : Verdict → Bool) (xs : List Entry) → started test xs ≤ length xs
started_few test [] = omega arith
started_few test (x ∷ xs) = omega (arith, started_then test (x ∷ []) xs, started_one test x, started_few test xs)
