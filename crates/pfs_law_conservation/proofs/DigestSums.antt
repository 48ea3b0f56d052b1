-- What a row of digests shows is the merge of the digested statements that lead there, but for those that a TRUNCATE of
-- the table took.
use Rattle.std.proofs.Common.{◌≡◌, refl, ℕ, zero, suc, ◌+◌, ◌<◌, ◌≤◌, ◌^◌, ◌==◌, ◌&&◌, inl, inr, Bool, true, false, cond, nat_lt, nat_le, List, [], ◌∷◌, ◌++◌, length, fold, filter, count_by, Some, sym, ap, subst, ◌∙◌, arith}
use Rattle.std.proofs.lemmas.List.Sums.{sum_by-cons}
use Rattle.std.proofs.lemmas.Bool.{and_parts, eqb-true}
use Rattle.pfs_model.proofs.EachLists.{each_join}
use Rattle.pfs_lemmas.proofs.Numbers.{eq_self, eq_swap}
use Rattle.pfs_conservation.specs.ActionMoves.{moves_of}
use Rattle.pfs_conservation.specs.RowChains.{Change, Added, Taken, Given, with_event}
use Rattle.pfs_conservation.specs.Conservation.{Once, AddsOnce, counts_after}
use Rattle.pfs_conservation.specs.DigestClears.{held, clears}
use Rattle.pfs_conservation.specs.Journeys.{times_counted}
use Rattle.pfs_conservation.specs.ConservedSums.{Conserved}
use Rattle.pfs_conservation.specs.PrintedChanges.{Kind, Adds, Takes, Gives, Tagged, as_change, change_of, is_at, standing, changes_of, chain_from, chain_of, Stands, IsMove, action_of, KindOnce, AllOnce, times_in, times_added, Within}
use Rattle.pfs_conservation.specs.RowMoves.{Move}
use Rattle.pfs_conservation.specs.Prints.{is_move, printed_by, prints_all, AreActed}
use Rattle.pfs_conservation.specs.Removals.{removal}
use Rattle.pfs_conservation.specs.KindSummaries.{those_to}
use Rattle.pfs_model.specs.Chains.{Each, times}
use Rattle.pfs_model.specs.SummaryCounts.{is_digest_row}
use Rattle.pfs_stat.specs.Stat.{WordsAgree, MergeIsMonoid, zero_of}
use Rattle.pfs_law_conservation.specs.RunDigests.{digest_rows, digest_lines_to, digested_to, digest_home_to, clears_to, digest_found_to, digest_counts_to, AreAddedOnce, DigestSummedLaw}
use Rattle.pfs_law_conservation.specs.RunEvents.{measures_in}
use Rattle.pfs_law_conservation.specs.Premises.{AreKept, IsOrderly, AreInRange}
use Rattle.pfs_law_conservation.specs.RunTerms.{Run, given_in, entries_to, actions_to, sums_to, stands_to}
use Rattle.pfs_law_conservation.proofs.ClearedRows.{IsPlain, AreLater, AreRising, row_shows}
use Rattle.pfs_law_conservation.proofs.DigestLines.{IsClearing, digest_acted, clearing_lines}
use Rattle.pfs_law_conservation.proofs.DigestAdditions.{added_once}
use Rattle.pfs_law_conservation.proofs.DigestContents.{contented}
use Rattle.pfs_law_conservation.proofs.DigestRanges.{rows_once}
use Rattle.pfs_law_conservation.proofs.ChosenLines.{each_map, each_both}
use Rattle.pfs_law_conservation.proofs.RowLines.{bit_yes, bit_most}
use Rattle.pfs_law_conservation.proofs.KeySums.{fitting, lines_stand}
use Rattle.pfs_law_conservation.proofs.SingleTakes.{is_take, is_take_at, is_taken, two_takes, take_stands, takes_printed, takes_moved, moves_few}
use Rattle.pfs_law_conservation.proofs.AnyOrder as unordered

-- each change of a row's chain stands there as a line
standing_each : (P : Change → Type 0) (row version : ℕ) (lines : List Tagged) → Each (λ (line : Tagged). line.row ≡ row → P (change_of line)) lines → Each P (standing lines row version)
standing_each P row version [] h = tt
standing_each P row version (line ∷ lines) h = at (is_at line row version) refl (standing_each P row version lines h.1) where
  at : (b : Bool) → is_at line row version ≡ b → Each P (standing lines row version) → Each P (cond b (change_of line ∷ []) [] ++ standing lines row version)
  at true q r = (h.0 (eqb-true line.row row (and_parts (line.row == row) (line.version == version) q).0), r)
  at false q r = r

chain_each : (P : Change → Type 0) (row : ℕ) (lines : List Tagged) → Each (λ (line : Tagged). line.row ≡ row → P (change_of line)) lines → (version more : ℕ) → Each P (chain_from lines row version more)
chain_each P row lines h version zero = tt
chain_each P row lines h version (suc more) = each_join P (standing lines row version) (chain_from lines row (suc version) more) (standing_each P row version lines h) (chain_each P row lines h (suc version) more)

stands_each : (all : List Tagged) (row version : ℕ) (lines : List Tagged) → ((change : Change) → Stands lines row version change → Stands all row version change) → Each (λ change. Stands all row version change) (standing lines row version)
stands_each all row version [] h = tt
stands_each all row version (line ∷ lines) h = at (is_at line row version) refl (stands_each all row version lines (λ change s. h change (inr s))) where
  at : (b : Bool) → is_at line row version ≡ b → Each (λ change. Stands all row version change) (standing lines row version) → Each (λ change. Stands all row version change) (cond b (change_of line ∷ []) [] ++ standing lines row version)
  at true q r = (h (change_of line) (inl (q, refl)), r)
  at false q r = r

-- along a row the numbers of its takes rise
module _ (row : ℕ) (lines : List Tagged) (one : (version : ℕ) → length (standing lines row version) ≤ 1)
    (strict : (low high first next : ℕ) → low < high → Stands lines row low (Taken first) → Stands lines row high (Taken next) → first < next) where
  later_then : (action : ℕ) (xs ys : List Change) → AreLater action xs → AreLater action ys → AreLater action (xs ++ ys)
  later_then action [] ys a b = b
  later_then action (Added events ∷ xs) ys a b = later_then action xs ys a b
  later_then action (Taken next ∷ xs) ys a b = (a.0, later_then action xs ys a.1 b)
  later_then action (Given next from ∷ xs) ys a b = later_then action xs ys a b

  later_at : (action low high : ℕ) → low < high → Stands lines row low (Taken action) → (cs : List Change) → Each (λ change. Stands lines row high change) cs → AreLater action cs
  later_at action low high l s [] h = tt
  later_at action low high l s (Added events ∷ cs) h = later_at action low high l s cs h.1
  later_at action low high l s (Taken next ∷ cs) h = (strict low high action next l s h.0, later_at action low high l s cs h.1)
  later_at action low high l s (Given next from ∷ cs) h = later_at action low high l s cs h.1

  later_from : (action low : ℕ) → Stands lines row low (Taken action) → (version more : ℕ) → low < version → AreLater action (chain_from lines row version more)
  later_from action low s version zero l = tt
  later_from action low s version (suc more) l =
      later_then action (standing lines row version) (chain_from lines row (suc version) more)
      (later_at action low version l s (standing lines row version) (stands_each lines row version lines (λ change k. k)))
      (later_from action low s (suc version) more (omega (arith, l)))

  rising_from : (version more : ℕ) → AreRising (chain_from lines row version more)
  rising_from version zero = tt
  rising_from version (suc more) = at (standing lines row version) (one version) (stands_each lines row version lines (λ change k. k)) (rising_from (suc version) more) where
    rest : List Change
    rest = chain_from lines row (suc version) more

    at : (cs : List Change) → length cs ≤ 1 → Each (λ change. Stands lines row version change) cs → AreRising rest → AreRising (cs ++ rest)
    at [] l h r = r
    at (Added events ∷ []) l h r = r
    at (Taken action ∷ []) l h r = (later_from action version h.0 (suc version) more (omega arith), r)
    at (Given action from ∷ []) l h r = r
    at (c ∷ (d ∷ cs)) l h r = absurd (omega (arith, l))

-- how often a chain counts an event, by the lines in any order
module _ (event row : ℕ) where
  abbrev counted : ℕ → Change → ℕ
  counted here (Added events) = here + count_by (λ x. x == event) events
  counted here (Taken action) = here
  counted here (Given action from) = here

  swapped : (here : ℕ) (c d : Change) → counted (counted here c) d ≡ counted (counted here d) c
  swapped here (Added events) (Added others) = omega arith
  swapped here (Added events) (Taken action) = refl
  swapped here (Added events) (Given action from) = refl
  swapped here (Taken action) d = refl
  swapped here (Given action from) d = refl

  by_chain : (cs : List Change) (here : ℕ) → fold counted here cs ≡ here + times_counted event cs
  by_chain [] here = omega arith
  by_chain (Added events ∷ cs) here =
      let e : fold counted (here + count_by (λ x. x == event) events) cs ≡ here + count_by (λ x. x == event) events + times_counted event cs = by_chain cs (here + count_by (λ x. x == event) events) in
      e ∙ assoc here (count_by (λ x. x == event) events) (times_counted event cs) where
        assoc : (a b c : ℕ) → a + b + c ≡ a + (b + c)
        assoc a b c = omega arith
  by_chain (Taken action ∷ cs) here = by_chain cs here
  by_chain (Given action from ∷ cs) here = by_chain cs here

  by_line : (action : ℕ) (kind : Kind) (here : ℕ) → counted here (as_change action kind) ≡ here + times_in event kind
  by_line action (Adds events) here = refl
  by_line action Takes here = omega arith
  by_line action (Gives from) here = omega arith

  by_lines : (lines : List Tagged) (here : ℕ) → fold (unordered.of_line counted row swapped) here lines ≡ here + times_added event lines row
  by_lines [] here = omega arith
  by_lines (line ∷ lines) here = at (line.row == row) (by_lines lines) where
    assoc : (a b c : ℕ) → a + b + c ≡ a + (b + c)
    assoc a b c = omega arith

    zero_plus : (n : ℕ) → n ≡ 0 + n
    zero_plus n = omega arith

    at : (b : Bool) → ((there : ℕ) → fold (unordered.of_line counted row swapped) there lines ≡ there + times_added event lines row)
        → fold (unordered.of_line counted row swapped) (cond b (counted here (change_of line)) here) lines ≡ here + (cond b (times_in event line.kind) 0 + times_added event lines row)
    at true ih = ih (counted here (change_of line)) ∙ (ap (λ n. n + times_added event lines row) (by_line line.action line.kind here) ∙ assoc here (times_in event line.kind) (times_added event lines row))
    at false ih = ih here ∙ ap (λ n. here + n) (zero_plus (times_added event lines row))

  times_chain : (lines : List Tagged) → Each (λ (line : Tagged). line.row ≡ row → (1 ≤ line.version) × (line.version ≤ changes_of lines row)) lines → times_counted event (chain_of lines row) ≡ times_added event lines row
  times_chain lines h =
      plus (times_counted event (chain_of lines row)) ∙ (sym (by_chain (chain_of lines row) 0) ∙ (unordered.chain_lines counted row swapped (changes_of lines row) lines h 0 ∙ (by_lines lines 0 ∙ sym (plus (times_added event lines row))))) where
        plus : (n : ℕ) → n ≡ 0 + n
        plus n = omega arith

-- those of a list that pass
count_cons : (n x : ℕ) (xs : List ℕ) → count_by (λ y. n == y) (x ∷ xs) ≡ cond (n == x) 1 0 + count_by (λ y. n == y) xs
count_cons n x xs = sum_by-cons (λ y. cond (n == y) 1 0) x xs

own_cons : (n x : ℕ) (xs : List ℕ) → count_by (λ y. y == n) (x ∷ xs) ≡ cond (x == n) 1 0 + count_by (λ y. y == n) xs
own_cons n x xs = sum_by-cons (λ y. cond (y == n) 1 0) x xs

filter_count : (test : ℕ → Bool) (n : ℕ) (xs : List ℕ) → count_by (λ y. n == y) (filter test xs) ≡ cond (test n) (count_by (λ y. n == y) xs) 0
filter_count test n [] = at (test n) where
  at : (b : Bool) → 0 ≡ cond {A = ℕ} b 0 0
  at true = refl
  at false = refl
filter_count test n (x ∷ xs) = at (test x) refl (test n) refl (filter_count test n xs) where
  apart : (a b : Bool) → test x ≡ a → test n ≡ b → (a ≡ b → ⊥) → (n == x) ≡ false
  apart a b q r d = on (n == x) refl where
    on : (c : Bool) → (n == x) ≡ c → c ≡ false
    on true e = absurd (d (sym q ∙ (ap test (sym (eqb-true n x e)) ∙ r)))
    on false e = refl

  at : (a : Bool) → test x ≡ a → (b : Bool) → test n ≡ b → count_by (λ y. n == y) (filter test xs) ≡ cond b (count_by (λ y. n == y) xs) 0
      → count_by (λ y. n == y) (cond a (x ∷ filter test xs) (filter test xs)) ≡ cond b (count_by (λ y. n == y) (x ∷ xs)) 0
  at true q true r e = count_cons n x (filter test xs) ∙ (ap (λ k. cond {A = ℕ} (n == x) 1 0 + k) e ∙ sym (count_cons n x xs))
  at true q false r e = count_cons n x (filter test xs) ∙ (ap (λ b. cond {A = ℕ} b 1 0 + count_by (λ y. n == y) (filter test xs)) (apart true false q r (λ z. cc)) ∙ (zero_plus (count_by (λ y. n == y) (filter test xs)) ∙ e)) where
    zero_plus : (k : ℕ) → 0 + k ≡ k
    zero_plus k = omega arith
  at false q true r e = e ∙ sym (count_cons n x xs ∙ (ap (λ b. cond {A = ℕ} b 1 0 + count_by (λ y. n == y) xs) (apart false true q r (λ z. cc)) ∙ zero_plus (count_by (λ y. n == y) xs))) where
    zero_plus : (k : ℕ) → 0 + k ≡ k
    zero_plus k = omega arith
  at false q false r e = e

filter_few : (test : ℕ → Bool) (xs : List ℕ) → length (filter test xs) ≤ length xs
filter_few test [] = omega arith
filter_few test (x ∷ xs) = at (test x) (filter_few test xs) where
  at : (b : Bool) → length (filter test xs) ≤ length xs → length (cond b (x ∷ filter test xs) (filter test xs)) ≤ suc (length xs)
  at true l = omega (arith, l)
  at false l = omega (arith, l)

filter_both : (first next both : ℕ → Bool) (xs : List ℕ) → ((x : ℕ) → both x ≡ first x && next x) → filter next (filter first xs) ≡ filter both xs
filter_both first next both [] h = refl
filter_both first next both (x ∷ xs) h = at (first x) (h x) (filter_both first next both xs h) where
  at : (a : Bool) → both x ≡ a && next x → filter next (filter first xs) ≡ filter both xs
      → filter next (cond a (x ∷ filter first xs) (filter first xs)) ≡ cond (both x) (x ∷ filter both xs) (filter both xs)
  at true q e = ap (λ (z : List ℕ). cond (next x) (x ∷ z) z) e ∙ ap (λ c. cond c (x ∷ filter both xs) (filter both xs)) (sym q)
  at false q e = e ∙ ap (λ c. cond c (x ∷ filter both xs) (filter both xs)) (sym q)

-- an action that clears the table covers its rows
those_covered : (cleared : ℕ → Bool) (last action : ℕ) → cleared action ≡ true → 1 ≤ action → action ≤ last → counts_after (Some action) (those_to cleared last) ≡ false
those_covered cleared zero action q l h = absurd (omega (arith, l, h))
those_covered cleared (suc last) action q l h = at (action == suc last) refl (cleared (suc last)) refl (those_covered cleared last action q l) where
  past : (a b : ℕ) → a ≤ suc b → (a == suc b) ≡ false → a ≤ b
  past a b l q = grind arith

  none : (b : Bool) → (b && false) ≡ false
  none true = refl
  none false = refl

  less : (n : ℕ) → nat_lt n n ≡ false
  less n = grind arith

  at : (a : Bool) → (action == suc last) ≡ a → (b : Bool) → cleared (suc last) ≡ b → (action ≤ last → counts_after (Some action) (those_to cleared last) ≡ false)
      → counts_after (Some action) (cond b (suc last ∷ []) [] ++ those_to cleared last) ≡ false
  at true e true c go = ap (λ n. nat_lt (suc last) n && counts_after (Some action) (those_to cleared last)) (eqb-true action (suc last) e) ∙ ap (λ b. b && counts_after (Some action) (those_to cleared last)) (less (suc last))
  at true e false c go = absurd (let z : false ≡ true = sym c ∙ (ap cleared (sym (eqb-true action (suc last) e)) ∙ q) in cc)
  at false e true c go = ap (λ b. nat_lt (suc last) action && b) (go (past action last h e)) ∙ none (nat_lt (suc last) action)
  at false e false c go = go (past action last h e)

module _ (words : WordsAgree) (monoid : MergeIsMonoid) (conserved : Conserved) (run : Run) (phase : ℕ) (kept : AreKept run) (orderly : IsOrderly run) (range : AreInRange run.facts)
    (few : length (digested_to run phase) < 2 ^ 64) (row : ℕ) (t : is_digest_row row ≡ true) where
  abbrev lines : List Tagged
  lines = digest_lines_to run phase

  abbrev last : ℕ
  last = length (actions_to run phase)

  abbrev covers : List ℕ
  covers = those_to (clears_to run phase) last

  abbrev leads : ℕ → Bool
  leads event = digest_home_to run phase event == row

  abbrev events : List ℕ
  events = filter (λ event. digest_home_to run phase event == row) (digested_to run phase)

  abbrev moves : ℕ → List Move
  moves action = moves_of held (clears (clears_to run phase) (digest_rows run.setting)) action (digest_rows run.setting)

  acted : AreActed run.counted moves last lines
  acted = digest_acted run phase kept

  added : AreAddedOnce run phase
  added = added_once run phase kept orderly

  -- the changes of the row
  plain : Each (IsPlain covers) (chain_of lines row)
  plain =
      chain_each (IsPlain covers) row lines
      (each_map (λ (line : Tagged). Stands lines line.row line.version (change_of line) × (is_move line.kind ≡ true → IsClearing (clears_to run phase) (change_of line))) (λ (line : Tagged). line.row ≡ row → IsPlain covers (change_of line)) lines
      (λ line h e. by line.kind line.action h.1 (λ m. acted.numbers line.row line.version (change_of line) h.0 m))
      (each_both (λ (line : Tagged). Stands lines line.row line.version (change_of line)) (λ (line : Tagged). is_move line.kind ≡ true → IsClearing (clears_to run phase) (change_of line)) lines
      (lines_stand lines lines (λ r v c s. s)) (clearing_lines run phase kept)))
      1 (changes_of lines row) where
        by : (kind : Kind) (action : ℕ) → (is_move kind ≡ true → IsClearing (clears_to run phase) (as_change action kind))
            → (IsMove (as_change action kind) → (1 ≤ action_of (as_change action kind)) × (action_of (as_change action kind) ≤ length (actions_to run phase))) → IsPlain covers (as_change action kind)
        by (Adds es) action m n = tt
        by Takes action m n = those_covered (clears_to run phase) last action (m refl) (n tt).0 (n tt).1
        by (Gives from) action m n = m refl

  ranged : Each (λ (line : Tagged). line.row ≡ row → (1 ≤ line.version) × (line.version ≤ changes_of lines row)) lines
  ranged = ranges lines acted.within where
    ranges : (some : List Tagged) → Within lines some → Each (λ (line : Tagged). line.row ≡ row → (1 ≤ line.version) × (line.version ≤ changes_of lines row)) some
    ranges [] w = tt
    ranges (line ∷ some) w = ((λ e. (w.0, (let c : changes_of lines line.row ≡ changes_of lines row = ap (changes_of lines) e in let l : line.version ≤ changes_of lines line.row = w.1 in omega (arith, c, l)))), ranges some w.2)

  -- no action takes the row twice
  taken_once : (action : ℕ) → times (is_take action row) lines ≤ 1
  unfolding digest_rows
  taken_once action =
      let a : times (is_take action row) lines ≤ times (is_taken action row) (printed_by lines action) = takes_printed action row lines in
      let e : times (is_taken action row) (printed_by lines action) ≡ times (is_taken action row) (prints_all run.counted (moves action)) = ap (times (is_taken action row)) (acted.asks action) in
      let b : times (is_taken action row) (prints_all run.counted (moves action)) ≤ times (λ (m : Move). m.from == row) (moves action) = takes_moved run.counted action row (moves action) in
      let c : times (λ (m : Move). m.from == row) (moves action) ≤ times (λ r. r == row) (digest_rows run.setting) = moves_few held (clears (clears_to run phase) (digest_rows run.setting)) action row (digest_rows run.setting) in
      let d : times (λ r. r == row) (digest_rows run.setting) ≤ cond {A = ℕ} (nat_le 8385 row) 1 0 = rows_once 8385 (suc (length run.setting.digests)) row in
      omega (arith, a, e, b, c, d, bit_most (nat_le 8385 row))

  strict : (low high first next : ℕ) → low < high → Stands lines row low (Taken first) → Stands lines row high (Taken next) → first < next
  strict low high first next l s u = at (first == next) refl where
    never : first ≤ next
    never = acted.never_fall row low high (Taken first) (Taken next) l s u tt tt

    past : (a b : ℕ) → a ≤ b → (a == b) ≡ false → a < b
    past a b l q = grind arith

    at : (b : Bool) → (first == next) ≡ b → first < next
    at false q = past first next never q
    at true q =
        let v : Stands lines row high (Taken first) = subst (λ n. Stands lines row high (Taken n)) (sym (eqb-true first next q)) u in
        let a : 1 ≤ times (is_take_at first row low) lines = take_stands first row low lines s in
        let b : 1 ≤ times (is_take_at first row high) lines = take_stands first row high lines v in
        let c : times (is_take_at first row low) lines + times (is_take_at first row high) lines ≤ times (is_take first row) lines = two_takes first row low high lines l in
        let d : times (is_take first row) lines ≤ 1 = taken_once first in
        absurd (omega (arith, a, b, c, d))

  rising : AreRising (chain_of lines row)
  rising = rising_from row lines (acted.once row) strict 1 (changes_of lines row)

  -- the events that lead to the row
  positive : (b : Bool) (n : ℕ) → 1 ≤ cond b n 0 → (b ≡ true) × (1 ≤ n)
  positive true n l = (refl, l)
  positive false n l = absurd (omega (arith, l))

  counted_here : (event : ℕ) → 1 ≤ count_by (λ e. event == e) events → times_counted event (chain_of lines row) ≡ 1
  counted_here event l =
      let c : count_by (λ e. event == e) events ≡ cond (leads event) (count_by (λ e. event == e) (digested_to run phase)) 0 = filter_count leads event (digested_to run phase) in
      let p : (leads event ≡ true) × (1 ≤ count_by (λ e. event == e) (digested_to run phase)) = positive (leads event) (count_by (λ e. event == e) (digested_to run phase)) (omega (arith, c, l)) in
      times_chain event row lines ranged ∙ (added.counted event p.1 row ∙ bit_yes (row == digest_home_to run phase event) (eq_swap row (digest_home_to run phase event) ∙ p.0))

  -- and no other is added to it
  abbrev AddsBelow : List Tagged → Type 0
  AddsBelow some = (n : ℕ) → times_added n some row ≤ times_added n lines row

  below : (some : List Tagged) → AddsBelow some → Each (λ (line : Tagged). line.row ≡ row → (n : ℕ) → times_in n line.kind ≤ times_added n lines row) some
  below [] h = tt
  below (line ∷ some) h = (
    (λ e n. (let l : cond (line.row == row) (times_in n line.kind) 0 + times_added n some row ≤ times_added n lines row = h n in let k : cond (line.row == row) (times_in n line.kind) 0 ≡ times_in n line.kind = ap (λ b. cond b (times_in n line.kind) 0) (ap (λ r. r == row) e ∙ eq_self row) in omega (arith, l, k))),
    below some (λ n. (let l : cond (line.row == row) (times_in n line.kind) 0 + times_added n some row ≤ times_added n lines row = h n in omega (arith, l))),
  )

  once_in : (es : List ℕ) → Once (digested_to run phase) es → ((n : ℕ) → 1 ≤ count_by (λ x. x == n) es → 1 ≤ times_added n lines row) → Once events es
  once_in [] o h = tt
  once_in (e ∷ es) o h = (filter_count leads e (digested_to run phase) ∙ (ap (λ b. cond b (count_by (λ y. e == y) (digested_to run phase)) 0) (leads_here (row == digest_home_to run phase e) refl) ∙ o.0), once_in es o.1 (λ n l. h n (let c : count_by (λ x. x == n) (e ∷ es) ≡ cond (e == n) 1 0 + count_by (λ x. x == n) es = own_cons n e es in omega (arith, c, l)))) where
    one : count_by (λ y. e == y) (digested_to run phase) ≡ 1
    one = o.0

    here : 1 ≤ times_added e lines row
    here = h e (let c : count_by (λ x. x == e) (e ∷ es) ≡ cond (e == e) 1 0 + count_by (λ x. x == e) es = own_cons e e es in let y : cond {A = ℕ} (e == e) 1 0 ≡ 1 = bit_yes (e == e) (eq_self e) in omega (arith, c, y))

    times : times_added e lines row ≡ cond {A = ℕ} (row == digest_home_to run phase e) 1 0
    times = added.counted e (omega (arith, one)) row

    leads_here : (b : Bool) → (row == digest_home_to run phase e) ≡ b → leads e ≡ true
    leads_here true q = eq_swap (digest_home_to run phase e) row ∙ q
    leads_here false q = absurd (let z : times_added e lines row ≡ 0 = times ∙ ap (λ b. cond {A = ℕ} b 1 0) q in omega (arith, z, here))

  abbrev IsOnceIn : Change → Type 0
  IsOnceIn (Added es) = Once events es
  IsOnceIn (Taken action) = Unit {0}
  IsOnceIn (Given action from) = Unit {0}

  all_kinds : (some : List Tagged) → AllOnce (digested_to run phase) some → Each (λ (line : Tagged). KindOnce (digested_to run phase) line.kind) some
  all_kinds [] h = tt
  all_kinds (line ∷ some) h = (h.0, all_kinds some h.1)

  adds_once : (cs : List Change) → Each IsOnceIn cs → AddsOnce events cs
  adds_once [] h = tt
  adds_once (Added es ∷ cs) h = (h.0, adds_once cs h.1)
  adds_once (Taken action ∷ cs) h = adds_once cs h.1
  adds_once (Given action from ∷ cs) h = adds_once cs h.1

  once : AddsOnce events (chain_of lines row)
  once =
      adds_once (chain_of lines row)
      (chain_each IsOnceIn row lines
      (each_map (λ (line : Tagged). KindOnce (digested_to run phase) line.kind × (line.row ≡ row → (n : ℕ) → times_in n line.kind ≤ times_added n lines row)) (λ (line : Tagged). line.row ≡ row → IsOnceIn (change_of line)) lines
      (λ line h e. by line.action line.kind h.0 (h.1 e))
      (each_both (λ (line : Tagged). KindOnce (digested_to run phase) line.kind) (λ (line : Tagged). line.row ≡ row → (n : ℕ) → times_in n line.kind ≤ times_added n lines row) lines (all_kinds lines added.once)
      (below lines (λ n. same (times_added n lines row)))))
      1 (changes_of lines row)) where
        same : (n : ℕ) → n ≤ n
        same n = omega arith

        by : (action : ℕ) (kind : Kind) → KindOnce (digested_to run phase) kind → ((n : ℕ) → times_in n kind ≤ times_added n lines row) → IsOnceIn (as_change action kind)
        by action (Adds es) o l = once_in es o (λ n k. (let m : count_by (λ x. x == n) es ≤ times_added n lines row = l n in omega (arith, m, k)))
        by action Takes o l = tt
        by action (Gives from) o l = tt

  few_here : length events < 2 ^ 64
  few_here = let l : length events ≤ length (digested_to run phase) = filter_few leads (digested_to run phase) in omega (arith, l, few)

  -- by its home or by the row, it is the same removal
  both : (event : ℕ) → digest_counts_to run phase row event ≡ leads event && counts_after (removal event (chain_of lines row)) covers
  both event = at (leads event) refl where
    at : (b : Bool) → (digest_home_to run phase event == row) ≡ b
        → b && counts_after (removal event (chain_of lines (digest_home_to run phase event))) covers ≡ b && counts_after (removal event (chain_of lines row)) covers
    at true q = ap (λ r. counts_after (removal event (chain_of lines r)) covers) (eqb-true (digest_home_to run phase event) row q)
    at false q = refl

  pub summed : stands_to run phase row ≡ fold (with_event (sums_to run phase)) zero_of (filter (digest_counts_to run phase row) (digested_to run phase))
  summed =
      sym (contented words run phase kept row t)
      ∙ (row_shows row (measures_in (given_in run) (entries_to run phase)) monoid (fitting monoid run phase range) covers events (chain_of lines row) few_here plain rising once counted_here conserved (digest_found_to run phase)
      ∙ ap (λ (es : List ℕ). fold (with_event (sums_to run phase)) zero_of es)
      (filter_both leads (λ event. counts_after (removal event (chain_of lines row)) covers) (digest_counts_to run phase row) (digested_to run phase) both))

pub digest_summed_law : WordsAgree → MergeIsMonoid → Conserved → DigestSummedLaw
digest_summed_law words monoid conserved run phase kept orderly range few row t = summed words monoid conserved run phase kept orderly range few row t
