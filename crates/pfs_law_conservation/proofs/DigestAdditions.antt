-- Each digested statement is added once, to the row of its digest, which is one of the setting's.
use Rattle.std.proofs.Common.{◌≡◌, refl, ℕ, ◌≤◌, ◌==◌, ◌&&◌, Bool, true, false, cond, List, length, count_by, sym, ap, subst, ◌∙◌, arith}
use Rattle.std.proofs.lemmas.Bool.{and_parts, eqb-true}
use Rattle.pfs_lemmas.proofs.Numbers.{eq_swap}
use Rattle.pfs_conservation.specs.PrintedChanges.{times_added, AllOnce}
use Rattle.pfs_model.specs.EntryAsks.{digest_row}
use Rattle.pfs_model.specs.Chains.{times}
use Rattle.pfs_model.specs.SetupFlags.{is_digested}
use Rattle.pfs_model.specs.SummaryCounts.{is_digest_row}
use Rattle.pfs_law_conservation.specs.RunDigests.{digest_rows, is_of_digest, digest_home, digest_lines_to, digested_to, digest_home_to, AreAddedOnce, DigestAddedLaw}
use Rattle.pfs_law_conservation.specs.RunEvents.{event_number, Ended, all_ended}
use Rattle.pfs_law_conservation.specs.Premises.{AreKept, IsOrderly}
use Rattle.pfs_law_conservation.specs.RunTerms.{Run, entries_to}
use Rattle.pfs_law_conservation.specs.KindLines.{all_lines}
use Rattle.pfs_law_conservation.proofs.AdditionCounts.{numbers_count, IsOne, one_is, one_of, each_among}
use Rattle.pfs_law_conservation.proofs.HeldAdditions.{added_on, added_off}
use Rattle.pfs_law_conservation.proofs.SingleAdditions.{all_once}
use Rattle.pfs_law_conservation.proofs.RunEntries.{HasText, run_once, run_digests, run_texted}
use Rattle.pfs_law_conservation.proofs.DigestRanges.{row_range, home_listed, home_inside}
use Rattle.pfs_law_conservation.proofs.EventOffers.{comes_beside}
use Rattle.pfs_law_conservation.proofs.RowLines.{bit_yes, bit_no}

module _ (run : Run) (phase : ℕ) (kept : AreKept run) (orderly : IsOrderly run) where
  abbrev ends : List Ended
  ends = all_ended (entries_to run phase)

  -- the statement of a number
  abbrev IsEvent : ℕ → Type 0
  IsEvent event = IsOne event (is_of_digest run.flags) (all_ended (entries_to run phase))

  abbrev leads : ℕ → Ended → Bool
  leads row one = is_digested run.flags one.context.slot one.event && (digest_row one.event.subject.digest == row)

  -- an event that is added to a row of a digest is a digested statement
  known_once : (session index row : ℕ) → is_digest_row row ≡ true → 1 ≤ times_added (event_number session index) (all_lines (entries_to run phase)) row → count_by (λ y. event_number session index == y) (digested_to run phase) ≡ 1
  known_once session index row t l =
      let c : times_added (event_number session index) (all_lines (entries_to run phase)) row ≡ times (comes_beside run.flags (event_number session index) row) ends = run_digests run kept orderly phase session index row (row_range row t).0 in
      let o : IsOne (event_number session index) (leads row) ends = one_is (event_number session index) (leads row) ends (run_once run kept orderly phase session index) (omega (arith, c, l)) in
      let p : (is_digested run.flags o.one.context.slot o.one.event ≡ true) × ((digest_row o.one.event.subject.digest == row) ≡ true) = and_parts (is_digested run.flags o.one.context.slot o.one.event) (digest_row o.one.event.subject.digest == row) o.passes in
      numbers_count (event_number session index) (is_of_digest run.flags) ends ∙ (o.those (is_of_digest run.flags) ∙ bit_yes (is_digested run.flags o.one.context.slot o.one.event) p.0)

  once_all : AllOnce (digested_to run phase) (digest_lines_to run phase)
  once_all = all_once (digested_to run phase) is_digest_row (entries_to run phase) known_once

  event_of : (event : ℕ) → 1 ≤ count_by (λ y. event == y) (digested_to run phase) → IsEvent event
  event_of event l = one_of event (is_of_digest run.flags) ends (run_once run kept orderly phase) l

  home_of : (event : ℕ) (o : IsEvent event) → digest_home_to run phase event ≡ digest_row o.one.event.subject.digest
  home_of event o = ap digest_home o.found

  text_of : (event : ℕ) (o : IsEvent event) → HasText (length run.setting.digests) o.one.event.subject
  text_of event o = each_among (λ (one : Ended). HasText (length run.setting.digests) one.event.subject) o.one ends o.among (run_texted run kept orderly phase)

  counted_of : (event row : ℕ) (o : IsEvent event) → times_added event (digest_lines_to run phase) row ≡ cond {A = ℕ} (row == digest_row o.one.event.subject.digest) 1 0
  counted_of event row o = at (is_digest_row row) refl where
    home : ℕ
    home = digest_row o.one.event.subject.digest

    at : (b : Bool) → is_digest_row row ≡ b → times_added event (digest_lines_to run phase) row ≡ cond {A = ℕ} (row == home) 1 0
    at true t =
        added_on is_digest_row event row (all_lines (entries_to run phase)) t
        ∙ (subst (λ n. times_added n (all_lines (entries_to run phase)) row ≡ times (comes_beside run.flags n row) ends) o.number (run_digests run kept orderly phase o.one.session o.one.event.index row (row_range row t).0)
        ∙ (o.those (leads row)
        ∙ (ap (λ b. cond {A = ℕ} (b && (home == row)) 1 0) o.passes ∙ ap (λ b. cond {A = ℕ} b 1 0) (eq_swap home row))))
    at false t =
        added_off is_digest_row event row (all_lines (entries_to run phase)) t
        ∙ sym (bit_no (row == home) (apart (row == home) refl)) where
          apart : (b : Bool) → (row == home) ≡ b → b ≡ false
          apart true q = absurd (let k : false ≡ true = sym t ∙ (ap is_digest_row (eqb-true row home q) ∙ home_inside run.setting o.one.event.subject.digest (text_of event o)) in cc)
          apart false q = refl

  pub added_once : AreAddedOnce run phase
  added_once = record {
    once = once_all;
    counted = λ event l row. (let o : IsEvent event = event_of event l in counted_of event row o ∙ ap (λ n. cond {A = ℕ} (row == n) 1 0) (sym (home_of event o)));
    known = λ event l. (let o : IsEvent event = event_of event l in subst (λ n. 1 ≤ count_by (λ r. r == n) (digest_rows run.setting)) (sym (home_of event o)) (home_listed run.setting o.one.event.subject.digest (text_of event o)));
  }

pub digest_added_law : DigestAddedLaw
digest_added_law run phase kept orderly = added_once run phase kept orderly
