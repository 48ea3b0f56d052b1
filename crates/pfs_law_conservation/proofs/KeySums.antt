-- What the rows of a key show is the merge of the events that lead there, where each event is added as it should be.
use Rattle.std.proofs.Common.{◌≡◌, refl, ℕ, suc, ◌+◌, ◌<◌, ◌≤◌, ◌^◌, ◌==◌, ◌&&◌, Bool, true, false, cond, nat_le, List, [], ◌∷◌, ◌++◌, length, take, fold, filter, count_by, Option, Some, None, sym, ap, subst, ◌∙◌, inl, inr, arith}
use Rattle.std.proofs.lemmas.Bool.{eqb-true}
use Rattle.pfs_model.proofs.EachLists.{each_join}
use Rattle.pfs_conservation.specs.AdministrationFold.{numbered, state_after}
use Rattle.pfs_conservation.specs.RowChains.{Change, Added, Taken, Given, with_event, content}
use Rattle.pfs_conservation.specs.Conservation.{counts_after}
use Rattle.pfs_conservation.specs.KindFacts.{HasSlot}
use Rattle.pfs_conservation.specs.PlaceFolds.{State, Place, Thread, Account, User, Host, Global}
use Rattle.pfs_conservation.specs.ConservedSums.{Reported}
use Rattle.pfs_conservation.specs.PrintedChanges.{Tagged, change_of, chain_of, Stands}
use Rattle.pfs_conservation.specs.RowMoves.{Move}
use Rattle.pfs_conservation.specs.Prints.{Print, gives_of, prints_of, prints_all, is_move, printed_by, AreActed}
use Rattle.pfs_conservation.specs.Removals.{removal}
use Rattle.pfs_conservation.specs.CellHolders.{AreLimits, IsIn, opened_by, rows_of}
use Rattle.pfs_conservation.specs.KindSummaries.{Key, AreLow, leads_key, home_at, passes, listed_from, shown_by, shown_cell, shown_in, leads_at, covers_to}
use Rattle.pfs_containers.specs.ContainerState.{AreWell}
use Rattle.pfs_event.specs.declared.verdict.Verdict.{Verdict}
use Rattle.pfs_event.specs.declared.verdict.Verdict.TheVariants.{Attributed}
use Rattle.pfs_model.specs.Chains.{Each}
use Rattle.pfs_model.specs.Contents.{Facts, measure_of}
use Rattle.pfs_model.specs.EntryPlaces.{Block, Placed, places}
use Rattle.pfs_model.specs.Shapes.{counted_slot}
use Rattle.pfs_rows.specs.Tables.{kind_number}
use Rattle.pfs_rows.specs.declared.table.TableKind.{TableKind}
use Rattle.pfs_runs.specs.Rules.{slot_in}
use Rattle.pfs_stat.specs.Stat.{WordsAgree, MergeIsMonoid, IsInRange, Fits, zero_of, stat_of, merge_of}
use Rattle.pfs_stat.specs.declared.Stat.{Stat}
use Rattle.pfs_law_conservation.specs.RunActions.{labels_so_far, actions_of, moves_at, names_by, places_behind}
use Rattle.pfs_law_conservation.specs.KindRows.{cells_of, board, limits_of, is_kind_row, kind_rows, row_in}
use Rattle.pfs_law_conservation.specs.RunEvents.{Ended, number_of, session_of, all_ended, of_number, no_measure, measure_if, measures_in, whose_at, whose_if}
use Rattle.pfs_law_conservation.specs.ConservationLaws.{AddedLaw, SummedLaw}
use Rattle.pfs_law_conservation.specs.Premises.{AreKept, IsOrderly, AreInRange}
use Rattle.pfs_law_conservation.specs.RunTerms.{Run, given_in, entries_to, actions_to, rows_by, lines_to, events_to, sums_to, whose_to, found_to, kept_to, stands_to, IsKeyOf}
use Rattle.pfs_law_conservation.proofs.ActedLines.{acted}
use Rattle.pfs_law_conservation.proofs.ChosenLines.{each_map, each_chosen}
use Rattle.pfs_law_conservation.proofs.KindRows.{low_cell, board_good, board_listing, row_here}
use Rattle.pfs_law_conservation.proofs.KindContents.{contented, counted_found}
use Rattle.pfs_law_conservation.proofs.PlaceFolds.{fold_places, length_as}
use Rattle.pfs_law_conservation.proofs.LastSlots.{HasLast, EndsLast, all_lasting, ends_lasting}
use Rattle.pfs_law_conservation.proofs.RowRanges.{AreNone}
use Rattle.pfs_law_conservation.proofs.SlotMoves.{AreBack, AreFound}
use Rattle.pfs_law_plain.proofs.SessionPlaces.{fold_well}

-- what is printed goes by what takes found alone
prints_agree : (kept other : ℕ → ℕ → Bool) (moves : List Move) → Each (λ (m : Move). kept m.action m.from ≡ other m.action m.from) moves → prints_all kept moves ≡ prints_all other moves
prints_agree kept other [] h = refl
prints_agree kept other (m ∷ ms) h =
    ap (λ (z : List Print). record { row = m.from; change = Taken m.action } ∷ (z ++ prints_all kept ms)) (gives m.to)
    ∙ ap (λ (z : List Print). prints_of other m ++ z) (prints_agree kept other ms h.1) where
      gives : (to : List ℕ) → gives_of kept m to ≡ gives_of other m to
      gives [] = refl
      gives (row ∷ to) =
          ap (λ b. cond b (record { row = row; change = Given m.action m.from } ∷ []) [] ++ gives_of kept m to) h.0
          ∙ ap (λ (z : List Print). cond (other m.action m.from) (record { row = row; change = Given m.action m.from } ∷ []) [] ++ z) (gives to)

abbrev IsAgreed : (ℕ → ℕ → Bool) → (ℕ → ℕ → Bool) → ℕ → Change → Type 0
IsAgreed kept other row (Taken action) = kept action row ≡ other action row
IsAgreed kept other row (Added events) = Unit {0}
IsAgreed kept other row (Given action from) = Unit {0}

moves_agree : (kept other : ℕ → ℕ → Bool) (moves : List Move) → Each (λ (x : Print). IsAgreed kept other x.row x.change) (prints_all kept moves) → Each (λ (m : Move). kept m.action m.from ≡ other m.action m.from) moves
moves_agree kept other [] h = tt
moves_agree kept other (m ∷ ms) h = (h.0, moves_agree kept other ms (each_back (gives_of kept m m.to) (prints_all kept ms) h.1)) where
  each_back : (xs ys : List Print) → Each (λ (x : Print). IsAgreed kept other x.row x.change) (xs ++ ys) → Each (λ (x : Print). IsAgreed kept other x.row x.change) ys
  each_back [] ys h = h
  each_back (x ∷ xs) ys h = each_back xs ys h.1

printed_agree : (kept other : ℕ → ℕ → Bool) (action : ℕ) (lines : List Tagged) → Each (λ (line : Tagged). IsAgreed kept other line.row (change_of line)) lines → Each (λ (x : Print). IsAgreed kept other x.row x.change) (printed_by lines action)
printed_agree kept other action [] h = tt
printed_agree kept other action (line ∷ lines) h = at (is_move line.kind && (line.action == action)) (printed_agree kept other action lines h.1) where
  at : (b : Bool) → Each (λ (x : Print). IsAgreed kept other x.row x.change) (printed_by lines action) → Each (λ (x : Print). IsAgreed kept other x.row x.change) (cond b (record { row = line.row; change = change_of line } ∷ []) [] ++ printed_by lines action)
  at true r = (h.0, r)
  at false r = r

-- each line stands
pub lines_stand : (all lines : List Tagged) → ((row version : ℕ) (change : Change) → Stands lines row version change → Stands all row version change)
    → Each (λ (line : Tagged). Stands all line.row line.version (change_of line)) lines
lines_stand all [] h = tt
lines_stand all (line ∷ lines) h = (h line.row line.version (change_of line) (inl (own line.row line.version, refl)), lines_stand all lines (λ row version change s. h row version change (inr s))) where
  own : (a b : ℕ) → (a == a) && (b == b) ≡ true
  own a b = grind arith

-- what merges the same merges alike
pub fold_same : (f g : ℕ → Stat) (here : Stat) (rows : List ℕ) → Each (λ row. f row ≡ g row) rows → fold (λ sum row. merge_of sum (f row)) here rows ≡ fold (λ sum row. merge_of sum (g row)) here rows
fold_same f g here [] h = refl
fold_same f g here (row ∷ rows) h = ap (λ x. fold (λ sum row. merge_of sum (f row)) (merge_of here x) rows) h.0 ∙ fold_same f g (merge_of here (g row)) rows h.1

each_listed : {X : Type 0} (P : ℕ → Type 0) (test : X → Bool) (row : ℕ → ℕ) (n : ℕ) (xs : List (Option X)) → ((k : ℕ) → n ≤ k → k < n + length xs → P (row k)) → Each P (listed_from test row n xs)
each_listed P test row n [] h = tt
each_listed P test row n (x ∷ xs) h = at (passes test x) (each_listed P test row (suc n) xs (λ k l m. h k (omega (arith, l)) (omega (arith, m)))) where
  at : (b : Bool) → Each P (listed_from test row (suc n) xs) → Each P (cond b (row n ∷ []) [] ++ listed_from test row (suc n) xs)
  at true r = (h n (omega arith) (omega arith), r)
  at false r = r

each_if : (P : ℕ → Type 0) (b : Bool) (xs : List ℕ) → Each P xs → Each P (cond b xs [])
each_if P true xs h = h
each_if P false xs h = tt

-- what holds of each event holds of that of a number
numbered_in : (blocks : List Block) (number : ℕ) (all : List Ended) (one : Ended) → Each (EndsLast blocks) all → of_number number all ≡ Some one → EndsLast blocks one
numbered_in blocks number [] one h e = absurd (cc)
numbered_in blocks number (x ∷ all) one h e = at (number_of x == number) e (numbered_in blocks number all one h.1) where
  same : Some x ≡ Some one → x ≡ one
  same e = cc

  at : (b : Bool) → cond b (Some x) (of_number number all) ≡ Some one → (of_number number all ≡ Some one → EndsLast blocks one) → EndsLast blocks one
  at true e go = subst (EndsLast blocks) (same e) h.0
  at false e go = go e

-- an event's numbers fit
pub fitting : MergeIsMonoid → (run : Run) (phase : ℕ) → AreInRange run.facts → (event : ℕ) → Fits (stat_of (measures_in (given_in run) (entries_to run phase) event))
fitting monoid run phase range event = on (of_number event (all_ended (entries_to run phase))) where
  timed : (b : Bool) (f : Facts) → IsInRange (measure_of false f) → IsInRange (measure_of b f)
  timed b f r = record { wait = r.wait; lock = r.lock; errors = r.errors; warnings = r.warnings; affected = r.affected; sent = r.sent; examined = r.examined }

  on : (o : Option Ended) → Fits (stat_of (measure_if (given_in run) o))
  on None = monoid.event_fits no_measure (record { wait = omega arith; lock = omega arith; errors = omega arith; warnings = omega arith; affected = omega arith; sent = omega arith; examined = omega arith })
  on (Some one) = monoid.event_fits _ (timed _ (run.facts one.session one.event.index) (range one.session one.event.index))

module _ (back : AreBack) (found : AreFound) (none : AreNone) (words : WordsAgree) (monoid : MergeIsMonoid) (run : Run) (kind : TableKind) (phase : ℕ) (kept : AreKept run) where
  abbrev so_far : List Placed
  so_far = entries_to run phase

  abbrev is_cell : ℕ → Bool
  is_cell = cells_of run.setting kind

  abbrev test : ℕ → Bool
  test = is_kind_row is_cell

  abbrev lines : List Tagged
  lines = lines_to run kind phase

  -- each action prints what it moves by what its takes found
  agreed : Each (λ (line : Tagged). IsAgreed run.counted (kept_to run kind phase) line.row (change_of line)) lines
  agreed = each_map (λ (line : Tagged). Stands lines line.row line.version (change_of line)) (λ (line : Tagged). IsAgreed run.counted (kept_to run kind phase) line.row (change_of line)) lines
      (λ line s. by (change_of line) line.row line.version s) (lines_stand lines lines (λ row version change s. s)) where
        by : (change : Change) (row version : ℕ) → Stands lines row version change → IsAgreed run.counted (kept_to run kind phase) row change
        by (Added events) row version s = tt
        by (Taken action) row version s = counted_found back found none words run kind phase kept action row version s
        by (Given action from) row version s = tt

  pub acted_by : AreActed (kept_to run kind phase) (moves_at run.setting kind (actions_to run phase)) (length (actions_to run phase)) lines
  acted_by =
      let a : AreActed run.counted (moves_at run.setting kind (actions_to run phase)) (length (actions_to run phase)) lines = acted back found none run kind phase kept in
      record {
        low = a.low;
        within = a.within;
        once = a.once;
        numbers = a.numbers;
        never_fall = a.never_fall;
        by = a.by;
        are_by = a.are_by;
        rises = a.rises;
        asks = λ action. a.asks action
            ∙ prints_agree run.counted (kept_to run kind phase) (moves_at run.setting kind (actions_to run phase) action)
            (moves_agree run.counted (kept_to run kind phase) (moves_at run.setting kind (actions_to run phase) action)
            (subst (Each (λ (x : Print). IsAgreed run.counted (kept_to run kind phase) x.row x.change)) (a.asks action) (printed_agree run.counted (kept_to run kind phase) action lines agreed)));
      }

  -- the slot of a thread's key is its session's
  slots : IsOrderly run → (key : Key) → IsKeyOf run key → (event : ℕ) → HasSlot key (whose_to run phase event)
  slots orderly key is event = on (of_number event (all_ended so_far)) refl where
    ends : Each (EndsLast run.blocks) (all_ended so_far)
    ends = ends_lasting run.blocks so_far
        (each_map (λ (p : Placed). (nat_le p.phase phase ≡ true) × HasLast run.blocks p) (HasLast run.blocks) so_far (λ p h. h.1) (each_chosen (HasLast run.blocks) (λ (p : Placed). nat_le p.phase phase) (places run.blocks) (all_lasting run.blocks orderly.first)))

    of_slot : (slot : Option ℕ) (v : Verdict) (own : ℕ) → counted_slot slot v ≡ Some own → slot ≡ Some own
    of_slot slot Attributed own e = e
    of_slot slot _ own e = absurd (cc)

    one_slot : (a b : ℕ) (o : Option ℕ) → o ≡ Some a → o ≡ Some b → a ≡ b
    one_slot a b o e f = let g : Some a ≡ Some b = sym e ∙ f in cc

    by : (one : Ended) → EndsLast run.blocks one → (s : Option ℕ) → counted_slot one.context.slot one.event.verdict ≡ s → HasSlot key (whose_at (names_by run.change) so_far one s)
    by one last None e = tt
    by one last (Some slot) e = λ number at q leads.
        let k : slot_in run.blocks number ≡ Some at = subst (IsKeyOf run) q is in
        let s : one.session ≡ number = eqb-true one.session number (subst (λ z. leads_key z (session_of (names_by run.change) one) ≡ true) q leads) in
        let l : slot_in run.blocks one.session ≡ Some slot = last slot (of_slot one.context.slot one.event.verdict slot e) in
        one_slot at slot (slot_in run.blocks number) k (subst (λ z. slot_in run.blocks z ≡ Some slot) s l)

    on : (o : Option Ended) → of_number event (all_ended so_far) ≡ o → HasSlot key (whose_if (names_by run.change) so_far o)
    on None e = tt
    on (Some one) e = by one (numbered_in run.blocks event (all_ended so_far) one ends e) (counted_slot one.context.slot one.event.verdict) refl

  pub limits : AreLimits (limits_of run.setting)
  limits = record { threads = run.setting.in_range.thread_instances; accounts = run.setting.in_range.accounts; users = run.setting.in_range.users; hosts = run.setting.in_range.hosts }

  -- the rows that a key shows are of the kind
  pub well : AreWell (places_behind run.setting (actions_to run phase))
  well =
      let labels = labels_so_far run.labels so_far in
      subst AreWell
      (fold_places run.setting run.change labels (length labels) (omega arith) ∙ ap (state_after (opened_by (limits_of run.setting)) (numbered (actions_of run.change labels))) (sym (length_as _ labels)))
      (fold_well run.setting run.change (take (length labels) labels))

  pub shown_here : (key : Key) (s : State) → AreWell s → (cells : List ℕ) → AreLow (board is_cell) cells → Each (λ row. test row ≡ true) (shown_in (board is_cell) key cells s)
  shown_here key s w [] l = tt
  shown_here key s w (cell ∷ cells) l =
      each_join Here (shown_cell key (rows_of (board is_cell) cell) s) (shown_in (board is_cell) key cells s)
      (each_join Here (listed_from _ (rows_of (board is_cell) cell).thread 0 s.threads) _ (listed _ (rows_of (board is_cell) cell).thread s.threads w.threads_few (λ k m. here (Thread k) m))
      (each_join Here (cond (shown_by key).accounts (listed_from _ (rows_of (board is_cell) cell).account 0 s.accounts) []) _ (each_if Here (shown_by key).accounts _ (listed _ (rows_of (board is_cell) cell).account s.accounts w.accounts_few (λ k m. here (Account k) m)))
      (each_join Here (cond (shown_by key).users (listed_from _ (rows_of (board is_cell) cell).user 0 s.users) []) _ (each_if Here (shown_by key).users _ (listed _ (rows_of (board is_cell) cell).user s.users w.users_few (λ k m. here (User k) m)))
      (each_join Here (cond (shown_by key).hosts (listed_from _ (rows_of (board is_cell) cell).host 0 s.hosts) []) _ (each_if Here (shown_by key).hosts _ (listed _ (rows_of (board is_cell) cell).host s.hosts w.hosts_few (λ k m. here (Host k) m)))
      (each_if Here (shown_by key).global ((rows_of (board is_cell) cell).global ∷ []) (here Global tt, tt))))))
      (shown_here key s w cells l.1) where
        Here : ℕ → Type 0
        Here row = test row ≡ true

        here : (place : Place) → IsIn place → is_kind_row (cells_of run.setting kind) (row_in cell place) ≡ true
        here place i = row_here back found none is_cell (low_cell run.setting kind) cell place l.0 i

        listed : {X : Type 0} (t : X → Bool) (row : ℕ → ℕ) (xs : List (Option X)) → length xs ≤ 32 → ((k : ℕ) → k < 32 → is_kind_row (cells_of run.setting kind) (row k) ≡ true) → Each Here (listed_from t row 0 xs)
        listed t row xs few h = each_listed Here t row 0 xs (λ k a m. h k (omega (arith, m, few)))

  pub summed : Reported → AddedLaw → IsOrderly run → AreInRange run.facts → length (events_to run kind phase) < 2 ^ 64
      → (key : Key) → IsKeyOf run key → (cells : List ℕ) → AreLow (rows_by run kind) cells
      → ((cell : ℕ) → count_by (λ c. c == cell) cells ≤ 1)
      → fold (λ sum row. merge_of sum (stands_to run phase row)) zero_of
      (shown_in (rows_by run kind) key cells (places_behind run.setting (actions_to run phase)))
      ≡ fold (with_event (sums_to run phase)) zero_of (filter (λ event.
      leads_at key cells (whose_to run phase event)
      && counts_after (removal event (chain_of (lines_to run kind phase) (home_at (rows_by run kind)
      (whose_to run phase event))))
      (covers_to (kind_number kind) key (opened_by (limits_of run.setting)) (numbered (actions_to run phase))
      (length (actions_to run phase)))) (events_to run kind phase))
  summed reported added orderly range few key is cells low once =
      sym (fold_same (λ row. content (sums_to run phase) (found_to run kind phase) (chain_of (lines_to run kind phase) row)) (stands_to run phase) zero_of
      (shown_in (rows_by run kind) key cells (places_behind run.setting (actions_to run phase)))
      (each_map (λ row. test row ≡ true) (λ row. content (sums_to run phase) (found_to run kind phase) (chain_of (lines_to run kind phase) row) ≡ stands_to run phase row)
      (shown_in (rows_by run kind) key cells (places_behind run.setting (actions_to run phase))) (λ row t. contented back found none words run kind phase kept row t)
      (shown_here key (places_behind run.setting (actions_to run phase)) well cells low)))
      ∙ reported (measures_in (given_in run) so_far) (fitting monoid run phase range) (board is_cell) (board_good back found none is_cell (low_cell run.setting kind)) (kind_rows is_cell) (board_listing back found none is_cell (low_cell run.setting kind))
      (limits_of run.setting) limits (actions_to run phase) (kind_number kind) (events_to run kind phase) lines (whose_to run phase) acted_by (added run kind phase kept orderly few) key cells low once (λ event h. slots orderly key is event)

pub summed_law : AreBack → AreFound → AreNone → WordsAgree → MergeIsMonoid → Reported → AddedLaw → SummedLaw
summed_law back found none words monoid reported added run kind phase kept orderly range few key is cells low once =
    summed back found none words monoid run kind phase kept reported added orderly range few key is cells low once
