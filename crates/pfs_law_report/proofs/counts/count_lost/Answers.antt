-- With each entry what it says was lost is one at most, and more than what those before it say.
use Rattle.std.proofs.Common.{ℕ, ◌≡◌, ◌+◌, ◌<◌, ◌≤◌, Bool, false, cond, List, [], ◌∷◌, ◌++◌, Some, length, take, get_or, slice_get, ap, sym, ◌∙◌, arith}
use Rattle.std.proofs.lemmas.List.{length-take-le, take_more}
use Rattle.std.proofs.lemmas.Option.{get_or_from_slice_get}
use Rattle.pfs_lemmas.proofs.Bools.{cond_at_most_one}
use Rattle.pfs_event.specs.declared.entry.Entry.{Entry}
use Rattle.pfs_event.specs.declared.verdict.Verdict.{Verdict}
use Rattle.pfs_runs.specs.PhaseFinals.{is_lost_nested, is_lost_locker, is_unplaced}
use Rattle.pfs_law_report.specs.LostCounts.{ends_behind, started, unplaced_in}
use Rattle.pfs_law_report.proofs.StartLosses.{started_then, started_one, started_few}
use Rattle.pfs_law_report.proofs.DigestLosses.{behind_all, behind_last, unplaced_few, unplaced_last}
use Rattle.pfs_law_report.proofs.counts.count_lost.Goals as goal

-- counted over the first entries, and in one
record IsAt (test : Verdict → Bool) (xs : List Entry) (i first now one : ℕ) : Type 0 where
  more : now + one ≡ first + started test (take (i + 1) xs)
  few : now + one ≤ first + length xs

step : (test : Verdict → Bool) (xs : List Entry) (i : ℕ) (there : Entry) (first now one : ℕ) → i < length xs → slice_get xs i ≡ Some there → now ≡ first + started test (take i xs) → one ≡ started test (there ∷ [])
    → IsAt test xs i first now one
step test xs i there first now one within stands was is =
    let more : started test (take (i + 1) xs) ≡ started test (take i xs) + started test (there ∷ []) =
    ap (started test) (take_more xs i there within) ∙ started_then test (take i xs) (get_or xs i there ∷ []) ∙ ap (λ (e : Entry). started test (take i xs) + started test (e ∷ [])) (get_or_from_slice_get xs i there there stands) in
    record {
      more = omega (arith, more, was, is);
      few = omega (arith, was, is, started_one test there, started_few test (take i xs), length-take-le i xs (omega arith));
    }

-- the same of digests, by what additions behind the first entries bring
record IsAfter (xs : List Entry) (i first now one : ℕ) (behind : Bool) : Type 0 where
  more : now + one ≡ first + unplaced_in false (take (i + 1) xs)
  few : now + one ≤ first + length xs
  ends : behind ≡ behind_all false (take (i + 1) xs)

after : (xs : List Entry) (i : ℕ) (there : Entry) (first now one : ℕ) (ends behind : Bool) → i < length xs → slice_get xs i ≡ Some there → now ≡ first + unplaced_in false (take i xs)
    → ends ≡ behind_all false (take i xs) → one ≡ cond (is_unplaced ends there) 1 0 → behind ≡ ends_behind ends there → IsAfter xs i first now one behind
after xs i there first now one ends behind within stands was before is next =
    let front : take (i + 1) xs ≡ take i xs ++ there ∷ [] = take_more xs i there within ∙ ap (λ (e : Entry). take i xs ++ e ∷ []) (get_or_from_slice_get xs i there there stands) in
    let own : one ≡ cond (is_unplaced (behind_all false (take i xs)) there) 1 0 = is ∙ ap (λ b. cond (is_unplaced b there) 1 0) before in
    let more : unplaced_in false (take (i + 1) xs) ≡ unplaced_in false (take i xs) + cond (is_unplaced (behind_all false (take i xs)) there) 1 0 =
    ap (unplaced_in false) front ∙ unplaced_last false (take i xs) there in
    let most : cond (is_unplaced (behind_all false (take i xs)) there) 1 0 ≤ 1 = cond_at_most_one (is_unplaced (behind_all false (take i xs)) there) in
    record {
      more = omega (arith, more, was, own);
      few = omega (arith, was, own, most, unplaced_few false (take i xs), length-take-le i xs (omega arith));
      ends = next ∙ (ap (λ b. ends_behind b there) before ∙ (sym (behind_last false (take i xs) there) ∙ ap (behind_all false) (sym front)));
    }

pub overflow_add-digests : goal.overflow_add-digests
overflow_add-digests c =
    let xs : List Entry = c.args.entries.now.entries in
    let s = after xs c.loop-at.at c.entry-entry.result c.args.so_far.digests c.loop-at.digests c.unplaced_at-unplaced.result c.loop-at.ends c.ends_behind-behind.result (omega (arith, c.loop-at-test.true, c.count-at-end.ensures.count))
    c.entry-entry.ensures c.loop-at.invariant.digests c.loop-at.invariant.ends c.unplaced_at-unplaced.ensures.is c.ends_behind-behind.ensures.is in
    omega (arith, s.few, c.requires.digests, c.count-at-end.ensures.count, c.count-at-end.ensures.few)

pub overflow_add-statements : goal.overflow_add-statements
overflow_add-statements c =
    let s = step is_lost_nested c.args.entries.now.entries c.loop-at.at c.entry-entry.result c.args.so_far.statements c.loop-at.statements c.lost_at-lost.result.statements (omega (arith, c.loop-at-test.true, c.count-at-end.ensures.count))
    c.entry-entry.ensures c.loop-at.invariant.statements c.lost_at-lost.ensures.statements in
    omega (arith, s.few, c.requires.statements, c.count-at-end.ensures.count, c.count-at-end.ensures.few)

pub overflow_add-waits : goal.overflow_add-waits
overflow_add-waits c =
    let s = step is_lost_locker c.args.entries.now.entries c.loop-at.at c.entry-entry.result c.args.so_far.waits c.loop-at.waits c.lost_at-lost.result.waits (omega (arith, c.loop-at-test.true, c.count-at-end.ensures.count))
    c.entry-entry.ensures c.loop-at.invariant.waits c.lost_at-lost.ensures.waits in
    omega (arith, s.few, c.requires.waits, c.count-at-end.ensures.count, c.count-at-end.ensures.few)

pub loop-at-preserved : goal.loop-at-preserved
loop-at-preserved c =
    let xs : List Entry = c.args.entries.now.entries in
    let within : c.loop-at.at < length xs = omega (arith, c.loop-at-test.true, c.count-at-end.ensures.count) in
    let s = after xs c.loop-at.at c.entry-entry.result c.args.so_far.digests c.loop-at.digests c.unplaced_at-unplaced.result c.loop-at.ends c.ends_behind-behind.result within
    c.entry-entry.ensures c.loop-at.invariant.digests c.loop-at.invariant.ends c.unplaced_at-unplaced.ensures.is c.ends_behind-behind.ensures.is in
    record {
      ends = s.ends;
      digests = s.more;
      statements = (step is_lost_nested xs c.loop-at.at c.entry-entry.result c.args.so_far.statements c.loop-at.statements c.lost_at-lost.result.statements within
          c.entry-entry.ensures c.loop-at.invariant.statements c.lost_at-lost.ensures.statements).more;
      waits = (step is_lost_locker xs c.loop-at.at c.entry-entry.result c.args.so_far.waits c.loop-at.waits c.lost_at-lost.result.waits within
          c.entry-entry.ensures c.loop-at.invariant.waits c.lost_at-lost.ensures.waits).more;
    }
