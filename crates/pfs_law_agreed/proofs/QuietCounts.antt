-- What counts behind a quiet phase is what counted before it, and the phase's own events.
use Rattle.std.proofs.Common.{ℕ, ◌≡◌, ◌+◌, ◌<◌, ◌≤◌, ◌==◌, ◌&&◌, ◌||◌, Bool, true, false, cond, List, [], ◌∷◌, ◌++◌, length, map, fold, filter, Option, Some, None, inl, inr, refl, ap, sym, ◌∙◌, subst, arith, append_assoc}
use Rattle.std.specs.Prelude.{is_none, is_some, take}
use Rattle.pfs_lemmas.proofs.Numbers.{eq_self}
use Rattle.pfs_board.specs.declared.view.Label.{Label}
use Rattle.pfs_conservation.specs.AdministrationFold.{Action, numbered}
use Rattle.pfs_conservation.specs.KindSummaries.{Key}
use Rattle.pfs_event.specs.Verdicts.{is_let_through}
use Rattle.pfs_event.specs.declared.entry.Entry.{Entry}
use Rattle.pfs_event.specs.declared.entry.Entry.TheVariants as says
use Rattle.pfs_law_conservation.proofs.AdditionCounts.{each_among, times_and}
use Rattle.pfs_law_conservation.proofs.EventNumbers.{is_number, times_ended}
use Rattle.pfs_law_conservation.proofs.EventOffers.{comes_beside, comes_to, home_row}
use Rattle.pfs_law_conservation.proofs.HomeRows.{IsLowEnded, home_low}
use Rattle.pfs_law_conservation.proofs.RunEntries.{run_counts, run_digests, run_ended_low, run_once}
use Rattle.pfs_law_conservation.specs.Premises.{AreKept, IsOrderly}
use Rattle.pfs_law_conservation.specs.RunActions.{actions_of, labels_so_far, names_by}
use Rattle.pfs_law_conservation.specs.RunDigests.{clears_by}
use Rattle.pfs_law_conservation.specs.RunEvents.{Ended, all_ended, ended_at, event_number, number_of}
use Rattle.pfs_law_conservation.specs.RunTerms.{Run, actions_to, entries_to, given_in}
use Rattle.pfs_law_summaries.proofs.EventMerges.{each_self, some_times}
use Rattle.pfs_law_summaries.specs.Counts.{counted_at, counts_at, covers, is_addition_of, leads_to, own_row, removal_behind, removal_in, stays_in}
use Rattle.pfs_law_summaries.specs.DigestSummary.{counts_digest, digest_removal_in, digested_at, is_digest_addition_of, stays_digested}
use Rattle.pfs_law_summaries.specs.PhaseSummaries.{past_to}
use Rattle.pfs_model.proofs.EachLists.{each_behind, each_front}
use Rattle.pfs_model.specs.Actions.{IsAmong}
use Rattle.pfs_model.specs.Chains.{Each, action_change, each_of, times}
use Rattle.pfs_model.specs.Contents.{amount_of}
use Rattle.pfs_model.specs.EntryAsks.{digest_row}
use Rattle.pfs_model.specs.EntryPlaces.{Placed}
use Rattle.pfs_model.specs.SetupFlags.{is_digested}
use Rattle.pfs_model.specs.SummaryCounts.{Addition, Names, additions_of, first_taking, stays_counted, takings_of}
use Rattle.pfs_model.specs.declared.changes.Change.{Change}
use Rattle.pfs_rows.specs.declared.table.TableKind.{TableKind}
use Rattle.pfs_runs.specs.Labels.{label_at}
use Rattle.pfs_stat.specs.Stat.{merge_all, merge_of, zero_of}
use Rattle.pfs_stat.specs.declared.Stat.{Stat}
use Rattle.pfs_law_agreed.proofs.QuietLoads.{is_calm}
use Rattle.pfs_law_agreed.proofs.QuietRemovals.{behind_none, behind_same, filter_then, own_times, times_then}

-- ---- lists

filter_same : (p q : Ended → Bool) (xs : List Ended) → Each (λ (x : Ended). p x ≡ q x) xs → filter p xs ≡ filter q xs
filter_same p q [] h = refl
filter_same p q (x ∷ xs) h = ap (λ b. cond b (x ∷ filter p xs) (filter p xs)) h.0 ∙ ap (λ (z : List Ended). cond (q x) (x ∷ z) z) (filter_same p q xs h.1)

map_then : (f : Ended → Stat) (xs ys : List Ended) → map f (xs ++ ys) ≡ map f xs ++ map f ys
map_then f [] ys = refl
map_then f (x ∷ xs) ys = ap (λ (z : List Stat). f x ∷ z) (map_then f xs ys)

fold_then : (s : Stat) (xs ys : List Stat) → fold merge_of s (xs ++ ys) ≡ fold merge_of (fold merge_of s xs) ys
fold_then s [] ys = refl
fold_then s (x ∷ xs) ys = fold_then (merge_of s x) xs ys

-- of two lists, of which the first counts as before
merged_then : (f : Ended → Stat) (c d e : Ended → Bool) (xs ys : List Ended) → Each (λ (x : Ended). c x ≡ d x) xs → Each (λ (y : Ended). c y ≡ e y) ys
    → merge_all (map f (filter c (xs ++ ys))) ≡ fold merge_of (merge_all (map f (filter d xs))) (map f (filter e ys))
merged_then f c d e xs ys old fresh =
    ap (λ z. fold merge_of zero_of (map f z)) (filter_then c xs ys ∙ (ap (λ z. z ++ filter c ys) (filter_same c d xs old) ∙ ap (λ z. filter d xs ++ z) (filter_same c e ys fresh)))
    ∙ (ap (fold merge_of zero_of) (map_then f (filter d xs) (filter e ys)) ∙ fold_then zero_of (map f (filter d xs)) (map f (filter e ys)))

and_same : (b x y : Bool) → (b ≡ true → x ≡ y) → (b && x) ≡ (b && y)
and_same true x y h = h refl
and_same false x y h = refl

and_true : (b : Bool) → (b && true) ≡ b
and_true true = refl
and_true false = refl

pub ended_then : (xs ys : List Placed) → all_ended (xs ++ ys) ≡ all_ended xs ++ all_ended ys
ended_then [] ys = refl
ended_then (x ∷ xs) ys = ap (λ z. ended_at x x.entry ++ z) (ended_then xs ys) ∙ sym (append_assoc (ended_at x x.entry) (all_ended xs) (all_ended ys))

calm_action : (e : Entry) → is_calm e ≡ true → action_change e ≡ []
calm_action (says.Connect action thread account user host) q = absurd (cc)
calm_action (says.Act action) q = absurd (cc)
calm_action _ q = refl

calm_actions : (ps : List Placed) → Each (λ (p : Placed). is_calm p.entry ≡ true) ps → each_of action_change ps ≡ []
calm_actions [] h = refl
calm_actions (p ∷ ps) h = ap (λ z. z ++ each_of action_change ps) (calm_action p.entry h.0) ∙ calm_actions ps h.1

pub actions_stay : (xs ys : List Placed) → Each (λ (p : Placed). is_calm p.entry ≡ true) ys → each_of action_change (xs ++ ys) ≡ each_of action_change xs
actions_stay [] ys h = calm_actions ys h
actions_stay (x ∷ xs) ys h = ap (λ z. action_change x.entry ++ z) (actions_stay xs ys h)

among_ended : (one : Ended) (xs : List Ended) → IsAmong one xs → 1 ≤ times_ended (number_of one) xs
among_ended one [] m = absurd m
among_ended one (x ∷ xs) (inl e) = rw (ap (λ (y : Ended). number_of y == number_of one) e ∙ eq_self (number_of one)) (omega arith)
among_ended one (x ∷ xs) (inr m) = let l : 1 ≤ times_ended (number_of one) xs = among_ended one xs m in omega (arith, l)

-- an event of the phase counts for a key and a cell
abbrev pub counts_fresh : (ℕ → Names) → Key → ℕ → Ended → Bool
counts_fresh names key cell one = is_let_through one.event.verdict && ((one.event.subject.cell == cell) && leads_to names key one)

-- and in the row of a digest
abbrev pub counts_text : (ℕ → ℕ → ℕ) → Option ℕ → Ended → Bool
counts_text flags digest one = is_digested flags one.context.slot one.event && (digest_row one.event.subject.digest == digest_row digest)

module _ (run : Run) (kept : AreKept run) (orderly : IsOrderly run) (number : ℕ) (news : List Placed) (up_is : entries_to run (number + 1) ≡ entries_to run number ++ news) (calm : Each (λ (p : Placed). is_calm p.entry ≡ true) news)
    (late : Each (λ (x : Addition). first_taking x.row x.version (takings_of (entries_to run number)) ≡ None) (additions_of news)) (flags_are : (given_in run).flags ≡ run.flags) where
  abbrev front : List Placed
  front = entries_to run number

  abbrev next : List Placed
  next = entries_to run (number + 1)

  pub labels_same : labels_so_far run.labels next ≡ labels_so_far run.labels front
  labels_same = ap (λ (cs : List Change). take (length cs) run.labels) (ap (each_of action_change) up_is ∙ actions_stay front news calm)

  pub ends_are : all_ended next ≡ all_ended front ++ all_ended news
  ends_are = ap all_ended up_is ∙ ended_then front news

  low : (one : Ended) → IsAmong one (all_ended front ++ all_ended news) → own_row one < 8385
  low one m = home_low one (each_among IsLowEnded one (all_ended front ++ all_ended news) m (subst (Each IsLowEnded) ends_are (run_ended_low run kept orderly (number + 1))))

  among_first : (one : Ended) (xs ys : List Ended) → IsAmong one xs → IsAmong one (xs ++ ys)
  among_first one [] ys m = absurd m
  among_first one (x ∷ xs) ys (inl e) = inl e
  among_first one (x ∷ xs) ys (inr m) = inr (among_first one xs ys m)

  among_later : (one : Ended) (xs ys : List Ended) → IsAmong one ys → IsAmong one (xs ++ ys)
  among_later one [] ys m = m
  among_later one (x ∷ xs) ys m = inr (among_later one xs ys m)

  -- an event of the phase has not ended before
  none_before : (one : Ended) → IsAmong one (all_ended news) → times_ended (number_of one) (all_ended front) ≡ 0
  none_before one m =
      let once : times_ended (number_of one) (all_ended front ++ all_ended news) ≤ 1 = subst (λ es. times_ended (number_of one) es ≤ 1) ends_are (run_once run kept orderly (number + 1) one.session one.event.index) in
      let both : times_ended (number_of one) (all_ended front ++ all_ended news) ≡ times_ended (number_of one) (all_ended front) + times_ended (number_of one) (all_ended news) = times_then (is_number (number_of one)) (all_ended front) (all_ended news) in
      let here : 1 ≤ times_ended (number_of one) (all_ended news) = among_ended one (all_ended news) m in
      omega (arith, once, both, here)

  self_row : (through : Bool) (row : ℕ) → through ≡ true → (through && (row == row)) ≡ true
  self_row through row q = ap (λ b. b && (row == row)) q ∙ eq_self row

  -- ---- summaries

  old_removal : (one : Ended) → IsAmong one (all_ended front) → is_let_through one.event.verdict ≡ true → removal_in next one ≡ removal_in front one
  old_removal one m q = ap (λ ps. removal_in ps one) up_is ∙ behind_same (is_addition_of one) front news calm some where
    some : 1 ≤ times (is_addition_of one) (additions_of front)
    some =
        let e : times (is_addition_of one) (additions_of front) ≡ times (comes_to (event_number one.session one.event.index) (own_row one)) (all_ended front) =
        own_times (own_row one) one.session one.event.index front ∙ run_counts run kept orderly number one.session one.event.index (own_row one) (low one (among_first one (all_ended front) (all_ended news) m)) in
        let l : 1 ≤ times (comes_to (event_number one.session one.event.index) (own_row one)) (all_ended front) =
        some_times one (λ o. is_let_through o.event.verdict && (home_row o == own_row one)) (all_ended front) m (self_row (is_let_through one.event.verdict) (own_row one) q) in
        omega (arith, e, l)

  new_removal : (one : Ended) → IsAmong one (all_ended news) → removal_in next one ≡ None
  new_removal one m = ap (λ ps. removal_in ps one) up_is ∙ behind_none (is_addition_of one) front news calm none late where
    none : times (is_addition_of one) (additions_of front) ≡ 0
    none =
        let e : times (is_addition_of one) (additions_of front) ≡ times (comes_to (event_number one.session one.event.index) (own_row one)) (all_ended front) =
        own_times (own_row one) one.session one.event.index front ∙ run_counts run kept orderly number one.session one.event.index (own_row one) (low one (among_later one (all_ended front) (all_ended news) m)) in
        let l : times (comes_to (event_number one.session one.event.index) (own_row one)) (all_ended front) ≤ times_ended (number_of one) (all_ended front) =
        times_and (number_of one) (λ o. is_let_through o.event.verdict && (home_row o == own_row one)) (all_ended front) in
        let z : times_ended (number_of one) (all_ended front) ≡ 0 = none_before one m in
        omega (arith, e, l, z)

  abbrev stays_by : TableKind → Key → List Label → Option ℕ → Bool
  stays_by kind key labels removal = stays_counted (λ action. covers kind key (numbered (actions_of run.change labels) action)) (length (actions_of run.change labels)) removal

  old_counts : (kind : TableKind) (key : Key) (cell : ℕ) (one : Ended) → IsAmong one (all_ended front) → counts_at (past_to run (number + 1)) kind key cell one ≡ counts_at (past_to run number) kind key cell one
  old_counts kind key cell one m =
      and_same (is_let_through one.event.verdict) _ _
      (λ q. ap (λ s. (one.event.subject.cell == cell) && (leads_to (names_by run.change) key one && s))
      (ap (λ ls. stays_by kind key ls (removal_in next one)) labels_same ∙ ap (stays_by kind key (labels_so_far run.labels front)) (old_removal one m q)))

  new_counts : (kind : TableKind) (key : Key) (cell : ℕ) (one : Ended) → IsAmong one (all_ended news) → counts_at (past_to run (number + 1)) kind key cell one ≡ counts_fresh (names_by run.change) key cell one
  new_counts kind key cell one m =
      ap (λ s. is_let_through one.event.verdict && ((one.event.subject.cell == cell) && (leads_to (names_by run.change) key one && s))) (ap (stays_by kind key (labels_so_far run.labels next)) (new_removal one m))
      ∙ ap (λ s. is_let_through one.event.verdict && ((one.event.subject.cell == cell) && s)) (and_true (leads_to (names_by run.change) key one))

  abbrev amount : Ended → Stat
  amount one = amount_of (given_in run) one.session one.event

  pub grown : (kind : TableKind) (key : Key) (cell : ℕ) → counted_at (past_to run (number + 1)) kind key cell
      ≡ fold merge_of (counted_at (past_to run number) kind key cell) (map (λ (one : Ended). amount_of (given_in run) one.session one.event) (filter (counts_fresh (names_by run.change) key cell) (all_ended news)))
  grown kind key cell =
      ap (λ es. merge_all (map amount (filter (counts_at (past_to run (number + 1)) kind key cell) es))) ends_are
      ∙ merged_then amount (counts_at (past_to run (number + 1)) kind key cell) (counts_at (past_to run number) kind key cell) (counts_fresh (names_by run.change) key cell) (all_ended front) (all_ended news)
      (each_self (λ (x : Ended). counts_at (past_to run (number + 1)) kind key cell x ≡ counts_at (past_to run number) kind key cell x) (all_ended front) (old_counts kind key cell))
      (each_self (λ (x : Ended). counts_at (past_to run (number + 1)) kind key cell x ≡ counts_fresh (names_by run.change) key cell x) (all_ended news) (new_counts kind key cell))

  -- ---- digests

  old_text : (one : Ended) → IsAmong one (all_ended front) → is_digested run.flags one.context.slot one.event ≡ true → digest_removal_in next one ≡ digest_removal_in front one
  old_text one m q = ap (λ ps. digest_removal_in ps one) up_is ∙ behind_same (is_digest_addition_of one) front news calm some where
    some : 1 ≤ times (is_digest_addition_of one) (additions_of front)
    some =
        let e : times (is_digest_addition_of one) (additions_of front) ≡ times (comes_beside run.flags (event_number one.session one.event.index) (digest_row one.event.subject.digest)) (all_ended front) =
        own_times (digest_row one.event.subject.digest) one.session one.event.index front ∙ run_digests run kept orderly number one.session one.event.index (digest_row one.event.subject.digest) (high one.event.subject.digest) in
        let l : 1 ≤ times (comes_beside run.flags (event_number one.session one.event.index) (digest_row one.event.subject.digest)) (all_ended front) =
        some_times one (λ o. is_digested run.flags o.context.slot o.event && (digest_row o.event.subject.digest == digest_row one.event.subject.digest)) (all_ended front) m (self_row (is_digested run.flags one.context.slot one.event) (digest_row one.event.subject.digest) q) in
        omega (arith, e, l) where
          high : (d : Option ℕ) → 8385 ≤ digest_row d
          high None = omega arith
          high (Some d) = omega arith

  new_text : (one : Ended) → IsAmong one (all_ended news) → digest_removal_in next one ≡ None
  new_text one m = ap (λ ps. digest_removal_in ps one) up_is ∙ behind_none (is_digest_addition_of one) front news calm none late where
    none : times (is_digest_addition_of one) (additions_of front) ≡ 0
    none =
        let e : times (is_digest_addition_of one) (additions_of front) ≡ times (comes_beside run.flags (event_number one.session one.event.index) (digest_row one.event.subject.digest)) (all_ended front) =
        own_times (digest_row one.event.subject.digest) one.session one.event.index front ∙ run_digests run kept orderly number one.session one.event.index (digest_row one.event.subject.digest) (high one.event.subject.digest) in
        let l : times (comes_beside run.flags (event_number one.session one.event.index) (digest_row one.event.subject.digest)) (all_ended front) ≤ times_ended (number_of one) (all_ended front) =
        times_and (number_of one) (λ o. is_digested run.flags o.context.slot o.event && (digest_row o.event.subject.digest == digest_row one.event.subject.digest)) (all_ended front) in
        let z : times_ended (number_of one) (all_ended front) ≡ 0 = none_before one m in
        omega (arith, e, l, z) where
          high : (d : Option ℕ) → 8385 ≤ digest_row d
          high None = omega arith
          high (Some d) = omega arith

  abbrev clears_stay : List Label → Option ℕ → Bool
  clears_stay labels removal = stays_counted (λ action. clears_by run.change (label_at labels action)) (length (actions_of run.change labels)) removal

  old_digest : (digest : Option ℕ) (one : Ended) → IsAmong one (all_ended front) → counts_digest (past_to run (number + 1)) digest one ≡ counts_digest (past_to run number) digest one
  old_digest digest one m =
      and_same (is_digested (given_in run).flags one.context.slot one.event) _ _
      (λ q. ap (λ s. (digest_row one.event.subject.digest == digest_row digest) && s)
      (ap (λ ls. clears_stay ls (digest_removal_in next one)) labels_same
      ∙ ap (clears_stay (labels_so_far run.labels front)) (old_text one m (subst (λ (flags : ℕ → ℕ → ℕ). is_digested flags one.context.slot one.event ≡ true) flags_are q))))

  new_digest : (digest : Option ℕ) (one : Ended) → IsAmong one (all_ended news) → counts_digest (past_to run (number + 1)) digest one ≡ counts_text (given_in run).flags digest one
  new_digest digest one m =
      ap (λ s. is_digested (given_in run).flags one.context.slot one.event && ((digest_row one.event.subject.digest == digest_row digest) && s)) (ap (clears_stay (labels_so_far run.labels next)) (new_text one m))
      ∙ ap (λ s. is_digested (given_in run).flags one.context.slot one.event && s) (and_true (digest_row one.event.subject.digest == digest_row digest))

  pub digests_grown : (digest : Option ℕ) → digested_at (past_to run (number + 1)) digest
      ≡ fold merge_of (digested_at (past_to run number) digest) (map (λ (one : Ended). amount_of (given_in run) one.session one.event) (filter (counts_text (given_in run).flags digest) (all_ended news)))
  digests_grown digest =
      ap (λ es. merge_all (map amount (filter (counts_digest (past_to run (number + 1)) digest) es))) ends_are
      ∙ merged_then amount (counts_digest (past_to run (number + 1)) digest) (counts_digest (past_to run number) digest) (counts_text (given_in run).flags digest) (all_ended front) (all_ended news)
      (each_self (λ (x : Ended). counts_digest (past_to run (number + 1)) digest x ≡ counts_digest (past_to run number) digest x) (all_ended front) (old_digest digest))
      (each_self (λ (x : Ended). counts_digest (past_to run (number + 1)) digest x ≡ counts_text (given_in run).flags digest x) (all_ended news) (new_digest digest))
