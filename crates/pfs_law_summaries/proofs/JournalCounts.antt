-- What counts by conservation's numbers of events is what counts by the journals.
use Rattle.std.proofs.Common.{◌≡◌, refl, ℕ, ◌<◌, ◌≤◌, ◌==◌, ◌&&◌, not, Bool, true, false, List, [], ◌∷◌, length, Option, Some, None, IfSome, is_some, count_by, sym, ap, subst, ◌∙◌, arith}
use Rattle.std.specs.Prelude.{nat_le}
use Rattle.std.proofs.lemmas.Bool.{and_parts, eqb-true}
use Rattle.pfs_conservation.specs.AdministrationFold.{Action, line_of, numbered, state_before}
use Rattle.pfs_conservation.specs.RowChains.{Taken}
use Rattle.pfs_conservation.specs.Conservation.{counts_after}
use Rattle.pfs_conservation.specs.PlaceFolds.{Thread, line_takes}
use Rattle.pfs_conservation.specs.PrintedChanges.{chain_of, Stands, AreAdded, times_added}
use Rattle.pfs_conservation.specs.Prints.{AreActed}
use Rattle.pfs_conservation.specs.Removals.{removal}
use Rattle.pfs_conservation.specs.CellHolders.{Seat, opened_by, holder_of, takes_by}
use Rattle.pfs_containers.specs.Connections.{State}
use Rattle.pfs_conservation.specs.KindSummaries.{Key, KeyThread, KeyAccount, KeyUser, KeyHost, KeyAll, leads_at, home_at, covers_at, covers_to}
use Rattle.pfs_event.specs.Verdicts.{is_let_through}
use Rattle.pfs_event.specs.declared.verdict.Verdict.{Verdict}
use Rattle.pfs_event.specs.declared.verdict.Verdict.TheVariants.{Attributed}
use Rattle.pfs_model.specs.Actions.{IsAmong}
use Rattle.pfs_model.specs.EntryAsks.{cell_row}
use Rattle.pfs_model.specs.Chains.{times}
use Rattle.pfs_model.specs.Contents.{amount_of}
use Rattle.pfs_model.specs.EntryPlaces.{Placed, places}
use Rattle.pfs_model.specs.Shapes.{counted_slot}
use Rattle.pfs_model.specs.SummaryCounts.{stays_counted}
use Rattle.pfs_rows.specs.Tables.{kind_number}
use Rattle.pfs_rows.specs.declared.table.TableKind.{TableKind}
use Rattle.pfs_runs.specs.Rules.{slot_in}
use Rattle.pfs_stat.specs.Stat.{zero_of, stat_of}
use Rattle.pfs_law_conservation.proofs.ChosenLines.{each_chosen, each_map}
use Rattle.pfs_law_conservation.proofs.AdditionCounts.{numbers_count, each_among}
use Rattle.pfs_law_conservation.proofs.HomeRows.{AreNone, IsLowEnded, home_kind, home_is}
use Rattle.pfs_law_conservation.proofs.RunEntries.{run_once, run_ended_low}
use Rattle.pfs_law_conservation.proofs.KindRows.{low_cell, seats}
use Rattle.pfs_law_conservation.proofs.EventNumbers.{is_number}
use Rattle.pfs_law_conservation.proofs.LastSlots.{HasLast, EndsLast, all_lasting, ends_lasting}
use Rattle.pfs_law_conservation.proofs.SlotMoves.{AreBack, AreFound}
use Rattle.pfs_law_conservation.proofs.RowLines.{bit_yes}
use Rattle.pfs_law_conservation.specs.RunActions.{moves_at, names_by}
use Rattle.pfs_law_conservation.specs.KindRows.{cells_of, board, limits_of, is_kind_row, kind_rows, seat_in}
use Rattle.pfs_law_conservation.specs.RunEvents.{Ended, number_of, all_ended, of_number, counts_in, measure_if, whose_by, whose_if}
use Rattle.pfs_law_conservation.specs.ConservationLaws.{ActedLaw, AddedLaw}
use Rattle.pfs_law_conservation.specs.Premises.{AreKept, IsOrderly}
use Rattle.pfs_law_conservation.specs.RunTerms.{Run, given_in, entries_to, actions_to, rows_by, lines_to, events_to, sums_to, whose_to, counts_to, counted_to, IsKeyOf}
use Rattle.pfs_law_conservation.specs.KindLines.{all_lines}
use Rattle.pfs_law_summaries.specs.PhaseSummaries.{past_to}
use Rattle.pfs_law_summaries.specs.Counts.{own_slot, own_row, removal_in, leads_to, stays_in, counts_at, counted_at}
use Rattle.pfs_law_summaries.specs.SummaryLaws.{AgreedLaw}
use Rattle.pfs_law_summaries.proofs.Covers.{counts_stays, some_here, takes_it, leads_same}
use Rattle.pfs_law_summaries.proofs.EventMerges.{IsSame, some_times, each_self, found_self, merged_same}
use Rattle.pfs_law_summaries.proofs.Removals.{removed, removal_stands}
use Rattle.pfs_law_summaries.proofs.FirstTakes.{kept_on}

module _ (back : AreBack) (found : AreFound) (none : AreNone) (run : Run) (kind : TableKind) (phase : ℕ) (kept : AreKept run) (orderly : IsOrderly run)
    (acted : AreActed run.counted (moves_at run.setting kind (actions_to run phase)) (length (actions_to run phase)) (lines_to run kind phase))
    (added : AreAdded (rows_by run kind) (opened_by (limits_of run.setting)) (actions_to run phase) (events_to run kind phase) (lines_to run kind phase) (whose_to run phase))
    (key : Key) (is : IsKeyOf run key) (cell : ℕ) (low : cells_of run.setting kind cell ≡ true) where
  abbrev ends : List Ended
  ends = all_ended (entries_to run phase)

  abbrev is_cell : ℕ → Bool
  is_cell = cells_of run.setting kind

  abbrev action_at : ℕ → Action
  action_at = numbered (actions_to run phase)

  abbrev last_action : ℕ
  last_action = length (actions_to run phase)

  abbrev state_at : ℕ → State
  state_at = state_before (opened_by (limits_of run.setting)) (numbered (actions_to run phase))

  abbrev covering : Key → ℕ → Bool
  covering k action = covers_at (kind_number kind) k (state_before (opened_by (limits_of run.setting)) (numbered (actions_to run phase)) action) (numbered (actions_to run phase) action)

  abbrev covers_all : Key → List ℕ
  covers_all k = covers_to (kind_number kind) k (opened_by (limits_of run.setting)) (numbered (actions_to run phase)) (length (actions_to run phase))

  -- one event of those that have ended
  module _ (one : Ended) (among : IsAmong one ends) where
    found_one : of_number (number_of one) ends ≡ Some one
    found_one = found_self one ends among (run_once run kept orderly phase one.session one.event.index)

    whose_is : whose_to run phase (number_of one) ≡ whose_by (names_by run.change) (entries_to run phase) one
    whose_is = ap (whose_if (names_by run.change) (entries_to run phase)) found_one

    home : home_at (rows_by run kind) (whose_to run phase (number_of one)) ≡ own_row one
    home = ap (home_at (rows_by run kind)) whose_is ∙ home_is is_cell (names_by run.change) (entries_to run phase) one

    low_one : IsLowEnded one
    low_one = each_among IsLowEnded one ends among (run_ended_low run kept orderly phase)

    last : EndsLast run.blocks one
    last = each_among (EndsLast run.blocks) one ends among
        (ends_lasting run.blocks (entries_to run phase)
        (each_map (λ (p : Placed). (nat_le p.phase phase ≡ true) × HasLast run.blocks p) (HasLast run.blocks) (entries_to run phase) (λ p h. h.1)
        (each_chosen (HasLast run.blocks) (λ (p : Placed). nat_le p.phase phase) (places run.blocks) (all_lasting run.blocks orderly.first))))

    passes : is_cell one.event.subject.cell ≡ true → is_kind_row is_cell (own_row one) ≡ true
    passes q = home_kind back is_cell one low_one ∙ q

    added_once : counts_in is_cell one ≡ true → times_added (number_of one) (lines_to run kind phase) (own_row one) ≡ 1
    added_once q =
        added.counted (number_of one)
        (let c : count_by (λ y. number_of one == y) (events_to run kind phase) ≡ times (λ o. is_number (number_of one) o && counts_in is_cell o) ends = numbers_count (number_of one) (counts_in is_cell) ends in
        let l : 1 ≤ times (λ o. is_number (number_of one) o && counts_in is_cell o) ends = some_times one (counts_in is_cell) ends among q in
        omega (arith, c, l)) (own_row one)
        ∙ bit_yes (own_row one == home_at (rows_by run kind) (whose_to run phase (number_of one))) (eq_true (own_row one) (home_at (rows_by run kind) (whose_to run phase (number_of one))) (sym home)) where
          eq_true : (a b : ℕ) → a ≡ b → (a == b) ≡ true
          eq_true a b e = grind (arith, e)

    -- its removal is that of the printed lines
    removal_is : counts_in is_cell one ≡ true → removal (number_of one) (chain_of (lines_to run kind phase) (home_at (rows_by run kind) (whose_to run phase (number_of one)))) ≡ removal_in (entries_to run phase) one
    removal_is q =
        ap (λ row. removal (number_of one) (chain_of (lines_to run kind phase) row)) home
        ∙ removed (is_kind_row is_cell) (entries_to run phase) (own_row one) (passes (and_parts (is_let_through one.event.verdict) (is_cell one.event.subject.cell) q).1) acted.within (acted.once (own_row one)) one refl (added_once q)

    -- the action that took a session's row takes its slot's cells
    slot_taken : (slot action version : ℕ) → is_cell one.event.subject.cell ≡ true → own_slot one ≡ Some slot → Stands (lines_to run kind phase) (own_row one) version (Taken action)
        → line_takes (line_of (kind_number kind) (state_at action) (action_at action)) (Thread slot) ≡ true
    slot_taken slot action version q e s =
        ap (λ (seat : Seat). line_takes (line_of (kind_number kind) (state_at action) (action_at action)) seat.place)
        (sym (ap (seat_in is_cell) (ap (λ o. cell_row o one.event.subject.cell) e) ∙ seats back found none is_cell (low_cell run.setting kind) one.event.subject.cell (Thread slot) q (few_slots (own_slot one) (low_slot one.event.verdict) e)))
        ∙ takes_it (holder_of (board is_cell) (opened_by (limits_of run.setting)) (numbered (actions_to run phase)))
        (takes_by (board is_cell) (opened_by (limits_of run.setting)) (numbered (actions_to run phase)) (kind_number kind)) run.counted (kind_rows is_cell) (lines_to run kind phase) (own_row one) version action (acted.asks action) s where
          low_slot : (v : Verdict) → IfSome (counted_slot one.context.slot v) (λ n. n < 32)
          low_slot Attributed = low_one.1
          low_slot _ = tt

          few_slots : (o : Option ℕ) → IfSome o (λ n. n < 32) → o ≡ Some slot → slot < 32
          few_slots None l e = absurd (cc)
          few_slots (Some n) l e = (let f : n ≡ slot = unsome n slot e in subst (λ k. k < 32) f l) where
            unsome : (a b : ℕ) → ◌≡◌ {A = Option ℕ} (Some a) (Some b) → a ≡ b
            unsome a b e = cc

    attributed : (slot : Option ℕ) (v : Verdict) (n : ℕ) → counted_slot slot v ≡ Some n → slot ≡ Some n
    attributed slot Attributed n e = e
    attributed slot _ n e = absurd (cc)

    -- it stays where it stayed
    stays_same : counts_in is_cell one ≡ true → (k : Key) → IsKeyOf run k → leads_to (names_by run.change) k one ≡ true
        → counts_after (removal_in (entries_to run phase) one) (covers_all k)
        ≡ stays_in (past_to run phase) kind k one
    stays_same q (KeyAccount user host) i leads = counts_stays (covering (KeyAccount user host)) last_action (removal_in (entries_to run phase) one)
    stays_same q (KeyUser user) i leads = counts_stays (covering (KeyUser user)) last_action (removal_in (entries_to run phase) one)
    stays_same q (KeyHost host) i leads = counts_stays (covering (KeyHost host)) last_action (removal_in (entries_to run phase) one)
    stays_same q KeyAll i leads = counts_stays (covering KeyAll) last_action (removal_in (entries_to run phase) one)
    stays_same q (KeyThread number slot) i leads = on (removal_in (entries_to run phase) one) refl where
      own : is_some (own_slot one) && (one.session == number) ≡ true
      own = leads

      seated : (o : Option ℕ) → own_slot one ≡ o → is_some o && (one.session == number) ≡ true → own_slot one ≡ Some slot
      seated None e l = absurd (cc)
      seated (Some n) e l =
          e ∙ (sym (last n (attributed one.context.slot one.event.verdict n e)) ∙ (ap (slot_in run.blocks) (eqb-true one.session number (and_parts true (one.session == number) l).1) ∙ i))

      cells : is_cell one.event.subject.cell ≡ true
      cells = (and_parts (is_let_through one.event.verdict) (is_cell one.event.subject.cell) q).1

      on : (r : Option ℕ) → removal_in (entries_to run phase) one ≡ r
          → counts_after r (covers_all (KeyThread number slot)) ≡ stays_counted (λ action. true) last_action r
      on None e = refl
      on (Some a) e = by (removal_stands (entries_to run phase) one a e) where
        by : (version : ℕ) × Stands (all_lines (entries_to run phase)) (own_row one) version (Taken a)
            → counts_after (Some a) (covers_all (KeyThread number slot)) ≡ stays_counted (λ action. true) last_action (Some a)
        by s =
            let t : Stands (lines_to run kind phase) (own_row one) s.0 (Taken a) = kept_on (is_kind_row is_cell) (all_lines (entries_to run phase)) (own_row one) s.0 (Taken a) (passes cells) s.1 in
            let n : (1 ≤ a) × (a ≤ last_action) = acted.numbers (own_row one) s.0 (Taken a) t tt in
            counts_stays (covering (KeyThread number slot)) last_action (Some a)
            ∙ ap not (some_here (covering (KeyThread number slot)) a last_action (slot_taken slot a s.0 cells (seated (own_slot one) refl own) t) n.0 n.1
            ∙ sym (some_here (λ action. true) a last_action refl n.0 n.1))

    -- so it counts by its number just where it counts
    same_count : (counts_in is_cell one && counts_to run kind phase key (cell ∷ []) (number_of one)) ≡ counts_at (past_to run phase) kind key cell one
    same_count = at (is_let_through one.event.verdict) refl (is_cell one.event.subject.cell) refl where
      leads : leads_at key (cell ∷ []) (whose_to run phase (number_of one)) ≡ ((one.event.subject.cell == cell) && leads_to (names_by run.change) key one)
      leads = ap (leads_at key (cell ∷ [])) whose_is ∙ leads_same (names_by run.change) (entries_to run phase) key cell one

      other : is_cell one.event.subject.cell ≡ false → (one.event.subject.cell == cell) ≡ false
      other q = to (one.event.subject.cell == cell) refl where
        to : (b : Bool) → (one.event.subject.cell == cell) ≡ b → b ≡ false
        to true e = absurd (let z : true ≡ false = sym (ap is_cell (eqb-true one.event.subject.cell cell e) ∙ low) ∙ q in cc)
        to false e = refl

      joined : (c l s t : Bool) → (l ≡ true → s ≡ t) → ((c && l) && s) ≡ (c && (l && t))
      joined true true s t h = h refl
      joined true false s t h = refl
      joined false l s t h = refl

      at : (a : Bool) → is_let_through one.event.verdict ≡ a → (b : Bool) → is_cell one.event.subject.cell ≡ b
          → (counts_in is_cell one && counts_to run kind phase key (cell ∷ []) (number_of one)) ≡ counts_at (past_to run phase) kind key cell one
      at true p true q =
          let w : counts_in is_cell one ≡ true = ap (λ x. x && is_cell one.event.subject.cell) p ∙ q in
          ap (λ x. x && counts_to run kind phase key (cell ∷ []) (number_of one)) w
          ∙ (ap (λ x. x && counts_after (removal (number_of one) (chain_of (lines_to run kind phase) (home_at (rows_by run kind) (whose_to run phase (number_of one))))) (covers_all key)) leads
          ∙ (ap (λ r. ((one.event.subject.cell == cell) && leads_to (names_by run.change) key one) && counts_after r (covers_all key)) (removal_is w)
          ∙ (joined (one.event.subject.cell == cell) (leads_to (names_by run.change) key one) _ _ (stays_same w key is)
          ∙ ap (λ x. x && ((one.event.subject.cell == cell) && (leads_to (names_by run.change) key one && stays_in (past_to run phase) kind key one))) (sym p))))
      at true p false q =
          ap (λ x. x && counts_to run kind phase key (cell ∷ []) (number_of one)) (ap (λ x. x && is_cell one.event.subject.cell) p ∙ q)
          ∙ sym (ap (λ x. x && ((one.event.subject.cell == cell) && (leads_to (names_by run.change) key one && stays_in (past_to run phase) kind key one))) p
          ∙ ap (λ x. x && (leads_to (names_by run.change) key one && stays_in (past_to run phase) kind key one)) (other q))
      at false p b q =
          ap (λ x. (x && is_cell one.event.subject.cell) && counts_to run kind phase key (cell ∷ []) (number_of one)) p
          ∙ sym (ap (λ x. x && ((one.event.subject.cell == cell) && (leads_to (names_by run.change) key one && stays_in (past_to run phase) kind key one))) p)

    same_amount : (sums_to run phase).of_event (number_of one) ≡ amount_of (given_in run) one.session one.event
    same_amount = ap (λ o. stat_of (measure_if (given_in run) o)) found_one

  agreed : counted_to run kind phase key (cell ∷ []) ≡ counted_at (past_to run phase) kind key cell
  agreed =
      merged_same (sums_to run phase) (λ a b. refl) (λ one. amount_of (given_in run) one.session one.event) (counts_in is_cell) (counts_to run kind phase key (cell ∷ [])) (counts_at (past_to run phase) kind key cell) ends
      (each_self (IsSame (sums_to run phase) (λ a b. refl) (λ one. amount_of (given_in run) one.session one.event) (counts_in is_cell) (counts_to run kind phase key (cell ∷ [])) (counts_at (past_to run phase) kind key cell)) ends
      (λ one m. record { same = same_count one m; adds = λ q. same_amount one m })) zero_of

pub agreed_law : AreBack → AreFound → AreNone → ActedLaw → AddedLaw → AgreedLaw
agreed_law back found none acted added run kind phase kept orderly few key is cell low =
    agreed back found none run kind phase kept orderly (acted run kind phase kept) (added run kind phase kept orderly few) key is cell low
