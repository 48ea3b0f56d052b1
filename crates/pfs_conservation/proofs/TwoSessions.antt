-- Two sessions: their connects, a TRUNCATE of the summary by thread, and the first one's quit; the printed lines keep the rules.
use Rattle.std.proofs.Common.{inl, inr, ◌≡◌, ℕ, zero, suc, ◌+◌, ◌%◌, ◌^◌, ◌<◌, ◌≤◌, ◌==◌, ◌&&◌, Bool, true, false, cond, List, [], ◌∷◌, ◌++◌, length, fold, Some, None, count_by, refl, sym, ap, subst, arith}
use Rattle.std.specs.Prelude.{nat_lt}
use Rattle.std.proofs.lemmas.Bool.{eqb-true}
use Rattle.pfs_conservation.specs.RowChains.{Change, Added, Taken, Given, Sums, content, found_by}
use Rattle.pfs_conservation.specs.RowMoves.{Move}
use Rattle.pfs_conservation.specs.ActionMoves.{moves_of, moves_to}
use Rattle.pfs_conservation.specs.PlaceFolds.{ByThread, Session}
use Rattle.pfs_conservation.specs.AdministrationFold.{Action, Connect, Quit, Truncate, Summary, numbered, state_after}
use Rattle.pfs_conservation.specs.CellHolders.{holder_of, takes_by}
use Rattle.pfs_conservation.specs.KindSummaries.{Key, KeyThread, KeyAccount, KeyAll, Whose, OfSession, home_at, shown_in, covers_to}
use Rattle.pfs_conservation.specs.PrintedChanges.{Adds, Takes, Gives, Tagged, change_of, is_at, standing, chain_of, Stands, IsMove, action_of, source_of, times_added, AreChained, Adding, IsAdded, AreAdded}
use Rattle.pfs_conservation.proofs.RowOwners.{differ}
use Rattle.pfs_conservation.proofs.CellNumbers.{numbering, upto, opened, base}
use Rattle.pfs_conservation.specs.KindFacts.{HasSlot}
use Rattle.pfs_conservation.proofs.MergeTotals.{Merges}
use Rattle.pfs_conservation.proofs.Conservation.{Sized}
use Rattle.pfs_conservation.proofs.Ledger.{report_conserved}
use Rattle.pfs_conservation.proofs.PrintedLaw.{lines_chained}
use Rattle.pfs_conservation.specs.Prints.{prints_all, printed_by, Rises, AreActed}

abbrev actions : List Action
actions = Connect 1 7 8 ∷ (Connect 2 9 10 ∷ (Truncate (Summary 0 ByThread) ∷ (Quit 1 ∷ [])))

abbrev lines : List Tagged
lines =
    record { session = 1; action = 0; row = 0; version = 1; kind = Adds (0 ∷ []) }
    ∷ (record { session = 2; action = 3; row = 0; version = 2; kind = Takes }
    ∷ (record { session = 2; action = 3; row = 32; version = 1; kind = Gives 0 }
    ∷ (record { session = 2; action = 3; row = 1; version = 1; kind = Takes }
    ∷ (record { session = 2; action = 0; row = 1; version = 2; kind = Adds (1 ∷ []) }
    ∷ (record { session = 1; action = 4; row = 0; version = 3; kind = Takes } ∷ [])))))

-- how many events there are
abbrev counting : Sums ℕ
counting = record { nothing = 0; merge = λ a b. (a + b) % 2 ^ 64; of_event = λ e. 1 }

abbrev kept : ℕ → ℕ → Bool
kept = λ action row. nat_lt 0 (found_by counting (chain_of lines) 4 action row)

abbrev moves : List Move
moves = moves_to (holder_of numbering opened (numbered actions)) (takes_by numbering opened (numbered actions) 0) (upto 0 129) (length actions)

abbrev first : Session
first = record { number = 1; user_name = 7; host_name = 8; account = Some 0; user = Some 0; host = Some 0 }

abbrev second : Session
second = record { number = 2; user_name = 9; host_name = 10; account = Some 1; user = Some 1; host = Some 1 }

abbrev whose : ℕ → Whose
whose event = cond (0 == event) (OfSession 0 0 first 1 (Some 4)) (OfSession 0 1 second 2 None)

moves_are : moves ≡ record { action = 3; from = 0; to = 32 ∷ [] } ∷ (record { action = 3; from = 1; to = 33 ∷ [] } ∷ (record { action = 4; from = 0; to = 32 ∷ [] } ∷ []))
moves_are = refl

is_row : (line : Tagged) (row v : ℕ) → is_at line row v ≡ true → (line.row ≡ row) × (line.version ≡ v)
is_row line row v h = (eqb-true line.row row (left (line.row == row) (line.version == v) h), eqb-true line.version v (right (line.row == row) (line.version == v) h))
  where
    left : (a b : Bool) → (a && b) ≡ true → a ≡ true
    left true b h = refl
    left false b h = h

    right : (a b : Bool) → (a && b) ≡ true → b ≡ true
    right true b h = h
    right false b h = differ (sym h)

one : (P : ℕ → ℕ → Change → Type 0) (line : Tagged) → P line.row line.version (change_of line) → (row v : ℕ) (c : Change) → (is_at line row v ≡ true) × (change_of line ≡ c) → P row v c
one P line p row v c h = let e : (line.row ≡ row) × (line.version ≡ v) = is_row line row v h.0 in subst (λ r. P r v c) e.0 (subst (λ w. P line.row w c) e.1 (subst (λ d. P line.row line.version d) h.1 p))

stand : (P : ℕ → ℕ → Change → Type 0) → P 0 1 (Added (0 ∷ [])) → P 1 2 (Added (1 ∷ [])) → P 0 2 (Taken 3) → P 32 1 (Given 3 0) → P 1 1 (Taken 3) → P 0 3 (Taken 4) → (row v : ℕ) (c : Change) → Stands lines row v c → P row v c
stand P a b d e f g row v c (inl h) = one P (record { session = 1; action = 0; row = 0; version = 1; kind = Adds (0 ∷ []) }) a row v c h
stand P a b d e f g row v c (inr (inl h)) = one P (record { session = 2; action = 3; row = 0; version = 2; kind = Takes }) d row v c h
stand P a b d e f g row v c (inr (inr (inl h))) = one P (record { session = 2; action = 3; row = 32; version = 1; kind = Gives 0 }) e row v c h
stand P a b d e f g row v c (inr (inr (inr (inl h)))) = one P (record { session = 2; action = 3; row = 1; version = 1; kind = Takes }) f row v c h
stand P a b d e f g row v c (inr (inr (inr (inr (inl h))))) = one P (record { session = 2; action = 0; row = 1; version = 2; kind = Adds (1 ∷ []) }) b row v c h
stand P a b d e f g row v c (inr (inr (inr (inr (inr (inl h)))))) = one P (record { session = 1; action = 4; row = 0; version = 3; kind = Takes }) g row v c h
stand P a b d e f g row v c (inr (inr (inr (inr (inr (inr h)))))) = absurd h

once_bits : (row v : ℕ) → cond {A = ℕ} ((0 == row) && (1 == v)) 1 0 + (cond {A = ℕ} ((0 == row) && (2 == v)) 1 0 + (cond {A = ℕ} ((32 == row) && (1 == v)) 1 0 + (cond {A = ℕ} ((1 == row) && (1 == v)) 1 0 + (cond {A = ℕ} ((1 == row) && (2 == v)) 1 0 + (cond {A = ℕ} ((0 == row) && (3 == v)) 1 0 + 0))))) ≤ 1
once_bits row v = grind arith

length_if : {X : Type 0} (b : Bool) (x : X) (ys : List X) → length (cond b (x ∷ []) [] ++ ys) ≡ cond {A = ℕ} b 1 0 + length ys
length_if true x ys = omega arith
length_if false x ys = omega arith

once_is : (row v : ℕ) → length (standing lines row v) ≤ 1
once_is row v = simp length_if (once_bits row v)

chained_rises : (row low high : ℕ) (c d : Change) → low < high → Stands lines row low c → Stands lines row high d → IsMove c → IsMove d → (action_of c ≤ action_of d) × (action_of c ≡ action_of d → source_of row c < source_of row d)
chained_rises row low high c d l s t m k =
    stand (λ row low c. (high : ℕ) → low < high → Stands lines row high d → IsMove c → (action_of c ≤ action_of d) × (action_of c ≡ action_of d → source_of row c < source_of row d)) (λ high l t m. absurd m) (λ high l t m. absurd m)
    (λ high l t m. stand (λ row w d. row ≡ 0 → 2 < w → IsMove d → (3 ≤ action_of d) × (3 ≡ action_of d → 0 < source_of 0 d)) (λ e l k. absurd k) (λ e l k. absurd k) (λ e l k. (omega arith, (λ q. omega arith))) (λ e l k. (omega arith, (λ q. omega arith))) (λ e l k. (omega arith, (λ q. omega arith))) (λ e l k. (omega arith, (λ q. omega arith))) 0 high d t refl l k)
    (λ high l t m. stand (λ row w d. row ≡ 32 → 1 < w → IsMove d → (3 ≤ action_of d) × (3 ≡ action_of d → 0 < source_of 32 d)) (λ e l k. absurd k) (λ e l k. absurd k) (λ e l k. (omega arith, (λ q. omega arith))) (λ e l k. (omega arith, (λ q. omega arith))) (λ e l k. (omega arith, (λ q. omega arith))) (λ e l k. (omega arith, (λ q. omega arith))) 32 high d t refl l k)
    (λ high l t m. stand (λ row w d. row ≡ 1 → 1 < w → IsMove d → (3 ≤ action_of d) × (3 ≡ action_of d → 1 < source_of 1 d)) (λ e l k. absurd k) (λ e l k. absurd k) (λ e l k. (omega arith, (λ q. omega arith))) (λ e l k. (omega arith, (λ q. omega arith))) (λ e l k. (omega arith, (λ q. omega arith))) (λ e l k. (omega arith, (λ q. omega arith))) 1 high d t refl l k)
    (λ high l t m. stand (λ row w d. row ≡ 0 → 3 < w → IsMove d → (4 ≤ action_of d) × (4 ≡ action_of d → 0 < source_of 0 d)) (λ e l k. absurd k) (λ e l k. absurd k) (λ e l k. (omega arith, (λ q. omega arith))) (λ e l k. (omega arith, (λ q. omega arith))) (λ e l k. (omega arith, (λ q. omega arith))) (λ e l k. (omega arith, (λ q. omega arith))) 0 high d t refl l k)
    row low c s high l t m

rises_all : Rises lines
rises_all = ((λ q r. absurd (omega arith), ((λ q r. absurd (omega arith)), ((λ q r. absurd (omega arith)), ((λ q r. absurd (omega arith)), ((λ q r. omega arith), tt))))), (((λ q r. absurd (omega arith)), ((λ q r. absurd (omega arith)), ((λ q r. absurd (omega arith)), ((λ q r. absurd (omega arith)), tt)))), (((λ q r. absurd (omega arith)), ((λ q r. absurd (omega arith)), ((λ q r. absurd (omega arith)), tt))), (((λ q r. omega arith), ((λ q r. absurd (omega arith)), tt)), (((λ q r. absurd (omega arith)), tt), (tt, tt))))))

asks_all : (action : ℕ) → printed_by lines action ≡ prints_all kept (moves_of (holder_of numbering opened (numbered actions)) (takes_by numbering opened (numbered actions) 0) action (upto 0 129))
asks_all zero = refl
asks_all (suc zero) = refl
asks_all (suc (suc zero)) = refl
asks_all (suc (suc (suc zero))) = refl
asks_all (suc (suc (suc (suc zero)))) = refl
asks_all (suc (suc (suc (suc (suc k))))) = rw (three k, four k) refl
  where
    three : (k : ℕ) → (3 == suc (suc (suc (suc (suc k))))) ≡ false
    three k = grind arith

    four : (k : ℕ) → (4 == suc (suc (suc (suc (suc k))))) ≡ false
    four k = grind arith

pub are_acted : AreActed kept (λ action. moves_of (holder_of numbering opened (numbered actions)) (takes_by numbering opened (numbered actions) 0) action (upto 0 129)) 4 lines
are_acted = record {
  low = stand (λ row v c. row < 16384) (omega arith) (omega arith) (omega arith) (omega arith) (omega arith) (omega arith);
  within = (omega arith, omega arith, (omega arith, omega arith, (omega arith, omega arith, (omega arith, omega arith, (omega arith, omega arith, (omega arith, omega arith, tt))))));
  once = once_is;
  numbers = stand (λ row v c. IsMove c → (1 ≤ action_of c) × (action_of c ≤ 4)) (λ m. absurd m) (λ m. absurd m) (λ m. (omega arith, omega arith)) (λ m. (omega arith, omega arith)) (λ m. (omega arith, omega arith)) (λ m. (omega arith, omega arith));
  never_fall = λ row low high c d l s t m k. (chained_rises row low high c d l s t m k).0;
  by = λ action. cond (action == 3) 2 1;
  are_by = ((λ q. differ (sym q)), ((λ q. refl), ((λ q. refl), ((λ q. refl), ((λ q. differ (sym q)), ((λ q. refl), tt))))));
  rises = rises_all;
  asks = asks_all;
}

pub are_chained : AreChained kept moves lines
are_chained = lines_chained numbering opened (upto 0 129) base actions 0 kept lines are_acted

-- the two events
events : (P : ℕ → Type 0) → P 0 → P 1 → (event : ℕ) → 1 ≤ count_by (λ e. event == e) (0 ∷ (1 ∷ [])) → P event
events P zero_is one_is event h = at (event == 0) (event == 1) refl refl h
  where
    at : (b c : Bool) → (event == 0) ≡ b → (event == 1) ≡ c → 1 ≤ (0 + cond b 1 0) + cond c 1 0 → P event
    at true c p q l = subst P (sym (eqb-true event 0 p)) zero_is
    at false true p q l = subst P (sym (eqb-true event 1 q)) one_is
    at false false p q l = absurd (omega arith)

first_quiet : (k : ℕ) → 2 ≤ k → suc k ≤ 4 → numbered actions k ≡ Quit 1 → ⊥
first_quiet zero l h q = omega arith
first_quiet (suc zero) l h q = omega arith
first_quiet (suc (suc zero)) l h q = cc
first_quiet (suc (suc (suc zero))) l h q = cc
first_quiet (suc (suc (suc (suc k)))) l h q = omega arith

second_quiet : (k : ℕ) → 3 ≤ k → numbered actions k ≡ Quit 2 → ⊥
second_quiet zero l q = omega arith
second_quiet (suc zero) l q = omega arith
second_quiet (suc (suc zero)) l q = omega arith
second_quiet (suc (suc (suc zero))) l q = cc
second_quiet (suc (suc (suc (suc zero)))) l q = (let e : ◌≡◌ {A = ℕ} 1 2 = number 1 2 q in omega arith)
  where
    number : (a b : ℕ) → Quit a ≡ Quit b → a ≡ b
    number a b h = cc
second_quiet (suc (suc (suc (suc (suc k))))) l q = cc

-- above an event's addition stands the quit's take
before_quit : (version : ℕ) → Adding lines 0 0 version → version < 3
before_quit version a = stand (λ row v c. row ≡ 0 → c ≡ Added a.0 → v < 3) (λ e q. omega arith) (λ e q. absurd (omega arith)) (λ e q. absurd (cc)) (λ e q. absurd (cc)) (λ e q. absurd (cc)) (λ e q. absurd (cc)) 0 version (Added a.0) a.1 refl refl

no_floor : (connect row : ℕ) → connect < 3 → (version at : ℕ) (c : Change) → Stands lines row at c → IsMove c → action_of c ≤ connect → at < version
no_floor connect row low version at c s m l = stand (λ r v c. IsMove c → action_of c ≤ connect → v < version) (λ m l. absurd m) (λ m l. absurd m) (λ m l. absurd (omega arith)) (λ m l. absurd (omega arith)) (λ m l. absurd (omega arith)) (λ m l. absurd (omega arith)) row at c s m l

pub are_added : AreAdded numbering opened actions (0 ∷ (1 ∷ [])) lines whose
are_added = record {
  few = omega arith;
  once = ((refl, tt), (tt, (tt, (tt, ((refl, tt), (tt, tt))))));
  counted = events (λ e. (row : ℕ) → times_added e lines row ≡ cond {A = ℕ} (row == home_at numbering (whose e)) 1 0) first_counted second_counted;
  added = events (λ e. IsAdded opened actions lines numbering e (whose e))
      (refl, refl, omega arith, first_quiet, (λ version a at c s m l. no_floor 1 0 (omega arith) version at c s m l), (λ version a. (3, before_quit version a, inr (inr (inr (inr (inr (inl (refl, refl)))))))))
      (refl, refl, omega arith, (λ k l b q. second_quiet k l q), (λ version a at c s m l. no_floor 2 1 (omega arith) version at c s m l), (λ version a. tt));
}
  where
    first_counted : (row : ℕ) → times_added 0 lines row ≡ cond {A = ℕ} (row == 0) 1 0
    first_counted row = grind arith

    second_counted : (row : ℕ) → times_added 1 lines row ≡ cond {A = ℕ} (row == 1) 1 0
    second_counted row = grind arith

merges : Merges counting
merges = record { nothing_twice = refl; event = λ e. refl; commutes = λ a b. ap (λ n. n % 2 ^ 64) (turned a b); associates = λ a b c. regrouped a b c }
  where
    turned : (a b : ℕ) → a + b ≡ b + a
    turned a b = omega arith

    regrouped : (a b c : ℕ) → ((a + b) % 2 ^ 64 + c) % 2 ^ 64 ≡ (a + (b + c) % 2 ^ 64) % 2 ^ 64
    regrouped a b c = omega arith

sized : Sized counting (λ n. n)
sized = record { nothing = refl; merge = λ a b. refl; event = λ e. refl }

no_slot : (key : Key) → ((number at : ℕ) → key ≡ KeyThread number at → ⊥) → (event : ℕ) → 1 ≤ count_by (λ e. event == e) (0 ∷ (1 ∷ [])) → HasSlot key (whose event)
no_slot key other = events (λ e. HasSlot key (whose e)) (λ number at q l. absurd (other number at q)) (λ number at q l. absurd (other number at q))

one_cell : (c : ℕ) → count_by (λ x. x == c) (0 ∷ []) ≤ 1
one_cell c = grind arith

-- what each key shows, and what covers it, computed
shows_first : shown_in numbering (KeyAccount 7 8) (0 ∷ []) (state_after opened (numbered actions) 4) ≡ 32 ∷ []
shows_first = refl

shows_second : shown_in numbering (KeyAccount 9 10) (0 ∷ []) (state_after opened (numbered actions) 4) ≡ 1 ∷ (33 ∷ [])
shows_second = refl

shows_all : shown_in numbering KeyAll (0 ∷ []) (state_after opened (numbered actions) 4) ≡ 1 ∷ (32 ∷ (33 ∷ (96 ∷ (97 ∷ (128 ∷ [])))))
shows_all = refl

covers_thread : covers_to 0 (KeyThread 1 0) opened (numbered actions) 4 ≡ 4 ∷ (3 ∷ [])
covers_thread = refl

covers_account : covers_to 0 (KeyAccount 7 8) opened (numbered actions) 4 ≡ []
covers_account = refl

-- one event counts by the first account, and both globally
pub by_account : fold (λ sum row. (sum + content counting (found_by counting (chain_of lines) 4) (chain_of lines row)) % 2 ^ 64) 0 (32 ∷ []) ≡ 1
by_account = report_conserved numbering opened (upto 0 129) base actions 0 counting merges (λ n. n) sized (0 ∷ (1 ∷ [])) lines whose are_chained are_added (KeyAccount 7 8) (0 ∷ []) (refl, tt) one_cell (no_slot (KeyAccount 7 8) (λ number at q. cc))

pub globally : fold (λ sum row. (sum + content counting (found_by counting (chain_of lines) 4) (chain_of lines row)) % 2 ^ 64) 0 (1 ∷ (32 ∷ (33 ∷ (96 ∷ (97 ∷ (128 ∷ [])))))) ≡ 2
globally = report_conserved numbering opened (upto 0 129) base actions 0 counting merges (λ n. n) sized (0 ∷ (1 ∷ [])) lines whose are_chained are_added KeyAll (0 ∷ []) (refl, tt) one_cell (no_slot KeyAll (λ number at q. cc))
