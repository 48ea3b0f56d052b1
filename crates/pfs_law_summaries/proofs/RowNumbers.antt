-- The numbers of rows are those of the events that count there.
use Rattle.std.proofs.Common.{◌≡◌, refl, ℕ, ◌+◌, ◌%◌, ◌^◌, ◌<◌, ◌≤◌, ◌==◌, ◌&&◌, Bool, true, false, cond, List, [], ◌∷◌, ◌++◌, length, map, filter, sym, ap, ◌∙◌, arith}
use Rattle.std.specs.Prelude.{◌↔◌}
use Rattle.std.proofs.lemmas.Bool.{and_parts, eqb-true}
use Rattle.pfs_classes.specs.Registry.{class_at}
use Rattle.pfs_conservation.specs.KindSummaries.{Key}
use Rattle.pfs_event.specs.Verdicts.{is_let_through}
use Rattle.pfs_law_summaries.specs.OrderlyRuns.{run_of}
use Rattle.pfs_law_summaries.specs.EventRanges.{FewLaw, InRangeLaw}
use Rattle.pfs_readsets.specs.TablePlaces.{is_class_of}
use Rattle.pfs_rows.specs.declared.table.TableKind.{TableKind}
use Rattle.pfs_rows.specs.declared.table.TableKind.TheVariants.{Waits, Stages, Statements, Transactions}
use Rattle.pfs_stat.specs.Stat.{zero_of}
use Rattle.pfs_summaries.specs.RowValues.{count_of}
use Rattle.pfs_law_conservation.specs.KindRows.{cells_of}
use Rattle.pfs_law_conservation.specs.RunEvents.{Ended, number_of, all_ended, counts_in}
use Rattle.pfs_law_conservation.specs.Premises.{AreInRange}
use Rattle.pfs_law_conservation.specs.RunTerms.{Run, entries_to, events_to}
use Rattle.pfs_law_summaries.specs.PhaseSummaries.{past_to}
use Rattle.pfs_law_summaries.specs.Counts.{Past, leads_to, stays_in, counts_at, counted_events, counted_at}
use Rattle.pfs_law_summaries.specs.RowNumbers.{class_events, row_numbers, AreNumbers, NumbersLaw}
use Rattle.pfs_law_summaries.proofs.ClassCells.{class_cases}
use Rattle.pfs_law_summaries.proofs.Extremes.{count_is, one_extremes, both_extremes}

-- events of two sorts that are both of a third, and none of both, are no more than those of the third
two_sorts : (p q r : Ended → Bool) → ((one : Ended) → p one ≡ true → r one ≡ true) → ((one : Ended) → q one ≡ true → r one ≡ true) → ((one : Ended) → p one ≡ true → q one ≡ true → ⊥)
    → (xs : List Ended) → length (filter p xs) + length (filter q xs) ≤ length (map number_of (filter r xs))
two_sorts p q r f g h [] = omega arith
two_sorts p q r f g h (x ∷ xs) = at (p x) refl (q x) refl (r x) refl (two_sorts p q r f g h xs) where
  at : (a : Bool) → p x ≡ a → (b : Bool) → q x ≡ b → (c : Bool) → r x ≡ c → length (filter p xs) + length (filter q xs) ≤ length (map number_of (filter r xs))
      → length (cond a (x ∷ filter p xs) (filter p xs)) + length (cond b (x ∷ filter q xs) (filter q xs)) ≤ length (map number_of (cond c (x ∷ filter r xs) (filter r xs)))
  at true u true v c w l = absurd (h x u v)
  at true u false v true w l = omega (arith, l)
  at true u false v false w l = absurd (let z : true ≡ false = sym (f x u) ∙ w in cc)
  at false u true v true w l = omega (arith, l)
  at false u true v false w l = absurd (let z : true ≡ false = sym (g x v) ∙ w in cc)
  at false u false v true w l = omega (arith, l)
  at false u false v false w l = l

length_joined : (xs ys : List Ended) → length (xs ++ ys) ≡ length xs + length ys
length_joined [] ys = omega arith
length_joined (x ∷ xs) ys = let e : length (xs ++ ys) ≡ length xs + length ys = length_joined xs ys in omega (arith, e)

module _ (run : Run) (phase : ℕ) (kind : TableKind) (key : Key) (range : AreInRange run.facts) (few : length (events_to run kind phase) < 2 ^ 64) where
  abbrev past : Past
  past = past_to run phase

  in_range : (session index : ℕ) → (run.facts session index).duration < 2 ^ 64
  in_range session index = (range session index).wait

  abbrev events : ℕ → List Ended
  events cell = counted_events (past_to run phase) kind key cell

  -- an event that counts in a cell of the kind is one of the kind's
  of_kind : (cell : ℕ) → cells_of run.setting kind cell ≡ true → (one : Ended) → counts_at (past_to run phase) kind key cell one ≡ true → counts_in (cells_of run.setting kind) one ≡ true
  of_kind cell is one h =
      let a : (is_let_through one.event.verdict ≡ true) × (((one.event.subject.cell == cell) && (leads_to (past_to run phase).names key one && stays_in (past_to run phase) kind key one)) ≡ true) = and_parts _ _ h in
      let b : ((one.event.subject.cell == cell) ≡ true) × ((leads_to (past_to run phase).names key one && stays_in (past_to run phase) kind key one) ≡ true) = and_parts _ _ a.1 in
      ap (λ x. x && cells_of run.setting kind one.event.subject.cell) a.0 ∙ (ap (cells_of run.setting kind) (eqb-true one.event.subject.cell cell b.0) ∙ is)

  cell_is : (cell : ℕ) (one : Ended) → counts_at (past_to run phase) kind key cell one ≡ true → one.event.subject.cell ≡ cell
  cell_is cell one h = eqb-true one.event.subject.cell cell (and_parts _ _ (and_parts (is_let_through one.event.verdict) _ h).1).0

  few_events : (cell : ℕ) → cells_of run.setting kind cell ≡ true → length (events cell) < 2 ^ 64
  few_events cell is =
      let l : length (counted_events (past_to run phase) kind key cell) + length (filter (λ (one : Ended). false) (all_ended (entries_to run phase))) ≤ length (events_to run kind phase)
      = two_sorts (counts_at (past_to run phase) kind key cell) (λ one. false) (counts_in (cells_of run.setting kind)) (of_kind cell is) (λ one q. absurd (cc)) (λ one p q. absurd (cc)) (all_ended (entries_to run phase)) in
      omega (arith, l, few)

  count_one : (cell : ℕ) → length (events cell) < 2 ^ 64 → (counted_at (past_to run phase) kind key cell).count ≡ length (events cell)
  count_one cell l =
      count_is (past_to run phase).given (counted_events (past_to run phase) kind key cell) zero_of (omega (arith, l)) ∙ (omega arith)

  both_few : (a b : ℕ) → (a ≡ b → ⊥) → cells_of run.setting kind a ≡ true → cells_of run.setting kind b ≡ true → length (events a) + length (events b) < 2 ^ 64
  both_few a b apart p q =
      let l : length (counted_events (past_to run phase) kind key a) + length (counted_events (past_to run phase) kind key b) ≤ length (events_to run kind phase)
      = two_sorts (counts_at (past_to run phase) kind key a) (counts_at (past_to run phase) kind key b) (counts_in (cells_of run.setting kind)) (of_kind a p) (of_kind b q) (λ one u v. apart (sym (cell_is a one u) ∙ cell_is b one v)) (all_ended (entries_to run phase)) in
      omega (arith, l, few)

  count_both : (a b : ℕ) → length (events a) + length (events b) < 2 ^ 64 → ((counted_at (past_to run phase) kind key a).count + (counted_at (past_to run phase) kind key b).count) % 2 ^ 64 ≡ length (events a ++ events b)
  count_both a b l =
      let p : (counted_at (past_to run phase) kind key a).count ≡ length (events a) = count_one a (omega (arith, l)) in
      let q : (counted_at (past_to run phase) kind key b).count ≡ length (events b) = count_one b (omega (arith, l)) in
      let e : length (events a ++ events b) ≡ length (events a) + length (events b) = length_joined (events a) (events b) in
      omega (arith, p, q, e, l)

  some_shown : (count many : ℕ) → count ≡ many → ((count == 0) ≡ false) ↔ (0 < many)
  some_shown count many e = ((λ q. grind (arith, e, q)), (λ l. grind (arith, e, l)))

numbers_of_run : (run : Run) (phase : ℕ) (kind : TableKind) (key : Key) (id : ℕ) → AreInRange run.facts → length (events_to run kind phase) < 2 ^ 64 → is_class_of kind (class_at run.setting.classes id) ≡ true → AreNumbers (past_to run phase) kind key id
numbers_of_run run phase Waits key id range few is = record { count = count; shown = some_shown run phase Waits key range few _ _ count; extremes = one_extremes (past_to run phase).given (in_range run phase Waits key range few) (counted_events (past_to run phase) Waits key id); cells = λ cell. one_extremes (past_to run phase).given (in_range run phase Waits key range few) (counted_events (past_to run phase) Waits key cell) } where
  count : count_of (row_numbers (past_to run phase) Waits key id) ≡ length (class_events (past_to run phase) Waits key id)
  count = count_one run phase Waits key range few id (few_events run phase Waits key range few id (class_cases run.setting Waits id (λ e. absurd (cc)) is))
numbers_of_run run phase Stages key id range few is = record { count = count; shown = some_shown run phase Stages key range few _ _ count; extremes = one_extremes (past_to run phase).given (in_range run phase Stages key range few) (counted_events (past_to run phase) Stages key id); cells = λ cell. one_extremes (past_to run phase).given (in_range run phase Stages key range few) (counted_events (past_to run phase) Stages key cell) } where
  count : count_of (row_numbers (past_to run phase) Stages key id) ≡ length (class_events (past_to run phase) Stages key id)
  count = count_one run phase Stages key range few id (few_events run phase Stages key range few id (class_cases run.setting Stages id (λ e. absurd (cc)) is))
numbers_of_run run phase Statements key id range few is = record { count = count; shown = some_shown run phase Statements key range few _ _ count; extremes = one_extremes (past_to run phase).given (in_range run phase Statements key range few) (counted_events (past_to run phase) Statements key id); cells = λ cell. one_extremes (past_to run phase).given (in_range run phase Statements key range few) (counted_events (past_to run phase) Statements key cell) } where
  count : count_of (row_numbers (past_to run phase) Statements key id) ≡ length (class_events (past_to run phase) Statements key id)
  count = count_one run phase Statements key range few id (few_events run phase Statements key range few id (class_cases run.setting Statements id (λ e. absurd (cc)) is))
numbers_of_run run phase Transactions key id range few is = record { count = count; shown = some_shown run phase Transactions key range few _ _ count; extremes = both_extremes (past_to run phase).given (in_range run phase Transactions key range few) (counted_events (past_to run phase) Transactions key 62) (counted_events (past_to run phase) Transactions key 63); cells = λ cell. one_extremes (past_to run phase).given (in_range run phase Transactions key range few) (counted_events (past_to run phase) Transactions key cell) } where
  count : count_of (row_numbers (past_to run phase) Transactions key id) ≡ length (class_events (past_to run phase) Transactions key id)
  count = count_both run phase Transactions key range few 62 63 (both_few run phase Transactions key range few 62 63 (λ e. absurd (omega (arith, e))) refl refl)

pub numbers_law : FewLaw → InRangeLaw → NumbersLaw
numbers_law few in_range text setting phases report script run phase kind key id is =
    numbers_of_run (run_of setting phases report run) phase kind key id (in_range text setting phases script) (few text setting phases report script run kind phase) is
