-- What the global key shows of a cell and what the printed takes of its global row found is every event of the cell.
use Rattle.std.proofs.Common.{◌≡◌, refl, ℕ, ◌+◌, ◌<◌, ◌≤◌, ◌^◌, ◌==◌, ◌&&◌, inl, inr, Bool, true, false, cond, List, [], ◌∷◌, map, length, fold, filter, Option, Some, None, sym, ap, subst, ◌∙◌, arith}
use Rattle.std.proofs.lemmas.Bool.{eqb-true}
use Rattle.pfs_lemmas.proofs.Numbers.{eq_self}
use Rattle.pfs_conservation.specs.RowChains.{Taken, with_event, content}
use Rattle.pfs_conservation.specs.Conservation.{takes_of}
use Rattle.pfs_conservation.specs.PlaceFolds.{Global}
use Rattle.pfs_conservation.specs.ConservedSums.{ReportedDiscarded}
use Rattle.pfs_conservation.specs.PrintedChanges.{Tagged, change_of, changes_of, chain_of, Stands}
use Rattle.pfs_conservation.specs.KindSummaries.{KeyAll, home_cell, shown_in}
use Rattle.pfs_event.specs.Verdicts.{is_let_through}
use Rattle.pfs_model.specs.Actions.{IsAmong}
use Rattle.pfs_model.specs.Chains.{Each}
use Rattle.pfs_model.specs.EntryPlaces.{Placed}
use Rattle.pfs_model.specs.Shapes.{counted_slot}
use Rattle.pfs_model.specs.SummaryCounts.{Names}
use Rattle.pfs_rows.specs.Rows.{row_number}
use Rattle.pfs_rows.specs.Tables.{kind_number}
use Rattle.pfs_rows.specs.declared.place.Place.TheVariants.{GlobalCell}
use Rattle.pfs_rows.specs.declared.table.TableKind.{TableKind}
use Rattle.pfs_stat.specs.Stat.{WordsAgree, MergeIsMonoid, zero_of, merge_of}
use Rattle.pfs_stat.specs.declared.Stat.{Stat}
use Rattle.pfs_law_conservation.specs.RunActions.{names_by, places_behind}
use Rattle.pfs_law_conservation.specs.KindRows.{cells_of, board, limits_of, is_kind_row, kind_rows}
use Rattle.pfs_law_conservation.specs.RunEvents.{Ended, number_of, all_ended, counts_in, events_in, of_number, measures_in, whose_at, whose_by, whose_if}
use Rattle.pfs_law_conservation.specs.ConservationLaws.{AddedLaw, DiscardedLaw}
use Rattle.pfs_law_conservation.specs.Premises.{AreKept, IsOrderly, AreInRange}
use Rattle.pfs_law_conservation.specs.RunTerms.{Run, given_in, entries_to, actions_to, rows_by, lines_to, events_to, sums_to, whose_to, found_to, stands_to, found_takes}
use Rattle.pfs_law_conservation.proofs.ChosenLines.{each_map}
use Rattle.pfs_law_conservation.proofs.RunEntries.{run_once}
use Rattle.pfs_law_conservation.proofs.KindRows.{low_cell, board_good, board_listing, row_here}
use Rattle.pfs_law_conservation.proofs.KindContents.{contented, found_stood, lines_ranged}
use Rattle.pfs_law_conservation.proofs.ChainTakes.{by_takes, chain_lines, printed}
use Rattle.pfs_law_conservation.proofs.EventNumbers.{times_ended}
use Rattle.pfs_law_conservation.proofs.RowRanges.{AreNone}
use Rattle.pfs_law_conservation.proofs.SlotMoves.{AreBack, AreFound}
use Rattle.pfs_law_conservation.proofs.RowLines.{bit_yes}
use Rattle.pfs_law_conservation.proofs.KeySums.{fold_same, lines_stand, fitting, acted_by, limits, well, shown_here}

among_times : (one : Ended) (xs : List Ended) → IsAmong one xs → 1 ≤ times_ended (number_of one) xs
among_times one [] m = absurd m
among_times one (x ∷ xs) (inl e) = omega (arith, bit_yes (number_of x == number_of one) (ap (λ (y : Ended). number_of y == number_of one) e ∙ eq_self (number_of one)))
among_times one (x ∷ xs) (inr m) = let l : 1 ≤ times_ended (number_of one) xs = among_times one xs m in omega (arith, l)

-- an event whose number ends once is the one of its number
found_self : (one : Ended) (xs : List Ended) → IsAmong one xs → times_ended (number_of one) xs ≤ 1 → of_number (number_of one) xs ≡ Some one
found_self one [] m few = absurd m
found_self one (x ∷ xs) (inl e) few = rw (ap (λ (y : Ended). number_of y == number_of one) e ∙ eq_self (number_of one)) (ap (λ (y : Ended). Some y) e)
found_self one (x ∷ xs) (inr m) few = at (number_of x == number_of one) refl few (found_self one xs m) where
  at : (b : Bool) → (number_of x == number_of one) ≡ b → cond {A = ℕ} b 1 0 + times_ended (number_of one) xs ≤ 1 → (times_ended (number_of one) xs ≤ 1 → of_number (number_of one) xs ≡ Some one) → cond b (Some x) (of_number (number_of one) xs) ≡ Some one
  at true q few go = absurd (let l : 1 ≤ times_ended (number_of one) xs = among_times one xs m in omega (arith, l, few))
  at false q few go = go (omega (arith, few))

each_among : (P : Ended → Type 0) (xs : List Ended) → ((one : Ended) → IsAmong one xs → P one) → Each P xs
each_among P [] h = tt
each_among P (x ∷ xs) h = (h x (inl refl), each_among P xs (λ one m. h one (inr m)))

-- an event's cell, whoever's it is
cell_is : (names : ℕ → Names) (ps : List Placed) (one : Ended) → home_cell (whose_by names ps one) ≡ one.event.subject.cell
cell_is names ps one = on (counted_slot one.context.slot one.event.verdict) where
  on : (slot : Option ℕ) → home_cell (whose_at names ps one slot) ≡ one.event.subject.cell
  on None = refl
  on (Some slot) = refl

-- those of a kind whose home is one of its cells are those of the cell
in_cell : (is_cell : ℕ → Bool) (home : ℕ → ℕ) (cell : ℕ) → is_cell cell ≡ true → (xs : List Ended) → Each (λ (one : Ended). home (number_of one) ≡ one.event.subject.cell) xs
    → filter (λ event. home event == cell) (map number_of (filter (counts_in is_cell) xs)) ≡ map number_of (filter (counts_in (λ c. c == cell)) xs)
in_cell is_cell home cell low [] h = refl
in_cell is_cell home cell low (x ∷ xs) h =
    at (is_let_through x.event.verdict) (x.event.subject.cell == cell) refl (is_cell x.event.subject.cell) refl (in_cell is_cell home cell low xs h.1) where
      at : (a b : Bool) → (x.event.subject.cell == cell) ≡ b → (c : Bool) → is_cell x.event.subject.cell ≡ c
          → filter (λ event. home event == cell) (map number_of (filter (counts_in is_cell) xs)) ≡ map number_of (filter (counts_in (λ c. c == cell)) xs)
          → filter (λ event. home event == cell) (map number_of (cond (a && c) (x ∷ filter (counts_in is_cell) xs) (filter (counts_in is_cell) xs)))
          ≡ map number_of (cond (a && b) (x ∷ filter (counts_in (λ c. c == cell)) xs) (filter (counts_in (λ c. c == cell)) xs))
      at false b q c r ih = ih
      at true true q true r ih =
          ap (λ (k : ℕ). cond (k == cell) (number_of x ∷ filter (λ event. home event == cell) (map number_of (filter (counts_in is_cell) xs))) (filter (λ event. home event == cell) (map number_of (filter (counts_in is_cell) xs)))) h.0
          ∙ (ap (λ b. cond b (number_of x ∷ filter (λ event. home event == cell) (map number_of (filter (counts_in is_cell) xs))) (filter (λ event. home event == cell) (map number_of (filter (counts_in is_cell) xs)))) q
          ∙ ap (λ (z : List ℕ). number_of x ∷ z) ih)
      at true true q false r ih = absurd (let z : false ≡ true = sym r ∙ (ap is_cell (eqb-true x.event.subject.cell cell q) ∙ low) in cc)
      at true false q true r ih =
          ap (λ (k : ℕ). cond (k == cell) (number_of x ∷ filter (λ event. home event == cell) (map number_of (filter (counts_in is_cell) xs))) (filter (λ event. home event == cell) (map number_of (filter (counts_in is_cell) xs)))) h.0
          ∙ (ap (λ b. cond b (number_of x ∷ filter (λ event. home event == cell) (map number_of (filter (counts_in is_cell) xs))) (filter (λ event. home event == cell) (map number_of (filter (counts_in is_cell) xs)))) q ∙ ih)
      at true false q false r ih = ih

module _ (back : AreBack) (found : AreFound) (none : AreNone) (words : WordsAgree) (monoid : MergeIsMonoid) (run : Run) (kind : TableKind) (phase : ℕ) (kept : AreKept run) (orderly : IsOrderly run)
    (cell : ℕ) (low : cells_of run.setting kind cell ≡ true) where
  abbrev so_far : List Placed
  so_far = entries_to run phase

  abbrev is_cell : ℕ → Bool
  is_cell = cells_of run.setting kind

  abbrev lines : List Tagged
  lines = lines_to run kind phase

  abbrev row : ℕ
  row = row_number (GlobalCell cell)

  here : is_kind_row (cells_of run.setting kind) (row_number (GlobalCell cell)) ≡ true
  here = row_here back found none (cells_of run.setting kind) (low_cell run.setting kind) cell Global low tt

  abbrev finds : ℕ → Stat
  finds action = found_to run kind phase action (row_number (GlobalCell cell))

  -- the takes of the chain found what stood before the printed ones
  takes_printed : (there : Stat) → fold (λ sum action. merge_of sum (found_to run kind phase action (row_number (GlobalCell cell)))) there (takes_of (chain_of (lines_to run kind phase) (row_number (GlobalCell cell)))) ≡ fold merge_of there (found_takes run phase (row_number (GlobalCell cell)))
  takes_printed there =
      by_takes finds row monoid (chain_of lines row) there
      ∙ (chain_lines finds row monoid (changes_of lines row) lines
      (each_map (λ (line : Tagged). (1 ≤ line.version) × (line.version ≤ changes_of lines line.row)) (λ (line : Tagged). line.row ≡ row → (1 ≤ line.version) × (line.version ≤ changes_of lines row)) lines
      (λ line r e. (r.0, (let c : changes_of lines line.row ≡ changes_of lines row = ap (changes_of lines) e in let l : line.version ≤ changes_of lines line.row = r.1 in omega (arith, c, l)))) (lines_ranged back found none words run kind phase kept)) there
      ∙ printed finds row monoid run.content (is_kind_row is_cell) here so_far
      (each_map _ _ lines (λ line s action r c. found_stood back found none words run kind phase kept action row line.version here (at line action r c s)) (lines_stand lines lines (λ at version change s. s))) there) where
        at : (line : Tagged) (action : ℕ) → line.row ≡ row → change_of line ≡ Taken action → Stands lines line.row line.version (change_of line) → Stands lines row line.version (Taken action)
        at line action r c s = subst (λ x. Stands lines row line.version x) c (subst (λ x. Stands lines x line.version (change_of line)) r s)

  -- the events of the cell
  own : filter (λ event. home_cell (whose_to run phase event) == cell) (events_to run kind phase) ≡ events_in (λ c. c == cell) (entries_to run phase)
  own = in_cell is_cell (λ event. home_cell (whose_to run phase event)) cell low (all_ended so_far)
      (each_among (λ (one : Ended). home_cell (whose_to run phase (number_of one)) ≡ one.event.subject.cell) (all_ended so_far)
      (λ one m. ap (λ o. home_cell (whose_if (names_by run.change) so_far o)) (found_self one (all_ended so_far) m (run_once run kept orderly phase one.session one.event.index)) ∙ cell_is (names_by run.change) so_far one))

  pub discarded : ReportedDiscarded → AddedLaw → AreInRange run.facts → length (events_to run kind phase) < 2 ^ 64
      → fold merge_of
      (fold (λ sum row. merge_of sum (stands_to run phase row)) zero_of (shown_in (rows_by run kind) KeyAll (cell ∷ []) (places_behind run.setting (actions_to run phase))))
      (found_takes run phase (row_number (GlobalCell cell)))
      ≡ fold (with_event (sums_to run phase)) zero_of (events_in (λ c. c == cell) (entries_to run phase))
  discarded reported added range few =
      ap (λ x. fold merge_of x (found_takes run phase row))
      (sym (fold_same (λ r. content (sums_to run phase) (found_to run kind phase) (chain_of lines r)) (stands_to run phase) zero_of
      (shown_in (rows_by run kind) KeyAll (cell ∷ []) (places_behind run.setting (actions_to run phase)))
      (each_map (λ r. is_kind_row is_cell r ≡ true) (λ r. content (sums_to run phase) (found_to run kind phase) (chain_of lines r) ≡ stands_to run phase r)
      (shown_in (rows_by run kind) KeyAll (cell ∷ []) (places_behind run.setting (actions_to run phase))) (λ r t. contented back found none words run kind phase kept r t)
      (shown_here back found none words monoid run kind phase kept KeyAll (places_behind run.setting (actions_to run phase)) (well back found none words monoid run kind phase kept) (cell ∷ []) (low, tt)))))
      ∙ (sym (takes_printed _)
      ∙ (reported (measures_in (given_in run) so_far) (fitting monoid run phase range) (board is_cell) (board_good back found none is_cell (low_cell run.setting kind)) (kind_rows is_cell) (board_listing back found none is_cell (low_cell run.setting kind))
      (limits_of run.setting) (limits back found none words monoid run kind phase kept) (actions_to run phase) (kind_number kind) (events_to run kind phase) lines (whose_to run phase) (acted_by back found none words monoid run kind phase kept) (added run kind phase kept orderly few) cell low
      ∙ ap (λ (events : List ℕ). fold (with_event (sums_to run phase)) zero_of events) own))

pub discarded_law : AreBack → AreFound → AreNone → WordsAgree → MergeIsMonoid → ReportedDiscarded → AddedLaw → DiscardedLaw
discarded_law back found none words monoid reported added run kind phase kept orderly range few cell low =
    discarded back found none words monoid run kind phase kept orderly cell low reported added range few
