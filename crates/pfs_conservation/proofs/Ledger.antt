-- For printed lines that keep the rules, each of the five summaries of a kind is conserved.
use Rattle.std.proofs.Common.{◌≡◌, ℕ, zero, suc, ◌≤◌, ◌==◌, Bool, cond, List, [], ◌∷◌, length, Some, count_by, refl, sym, ap, ◌∙◌, subst, arith, true}
use Rattle.std.specs.Prelude.{nat_lt}
use Rattle.pfs_lemmas.proofs.Numbers.{eq_self}
use Rattle.pfs_conservation.specs.RowChains.{Sums, found_by, Finds, Below}
use Rattle.pfs_conservation.specs.Removals.{Ascends}
use Rattle.pfs_conservation.specs.Journeys.{times_counted}
use Rattle.pfs_conservation.specs.RowMoves.{Move, AreMoved}
use Rattle.pfs_conservation.specs.Conservation.{IsConserved, IsShownOrTaken}
use Rattle.pfs_conservation.specs.ActionMoves.{moves_to}
use Rattle.pfs_conservation.specs.PlaceFolds.{entry_at, Session, Entry, Place, Thread, Account, User, Host, Global, Elsewhere, State}
use Rattle.pfs_conservation.specs.AdministrationFold.{Action, numbered, state_after}
use Rattle.pfs_conservation.specs.CellHolders.{all_free, Limits, AreLimits, opened_by, IsSmall, Numbering, place_level, holder_of, takes_by}
use Rattle.pfs_conservation.specs.KindSummaries.{AreLow, Key, KeyAll, home_cell, shown_in, Whose, OfSession, Aside, home_at, leads_at, covers_to}
use Rattle.pfs_conservation.specs.KindFacts.{IsOf, journals_of, AreOf, HasSlot}
use Rattle.pfs_conservation.specs.PrintedChanges.{Tagged, changes_of, chain_of, AreChained, IsAdded, AreAdded}
use Rattle.pfs_conservation.proofs.MergeTotals.{Merges, bit_yes}
use Rattle.pfs_conservation.proofs.ChainOrder.{follows_ascends, follows_below}
use Rattle.pfs_conservation.proofs.EventSums.{found_is}
use Rattle.pfs_conservation.proofs.Conservation.{Sized}
use Rattle.pfs_conservation.proofs.Connects.{Sound}
use Rattle.pfs_conservation.proofs.MoveOrder.{to_order}
use Rattle.pfs_conservation.proofs.KindSummaries.{Base, acts_rising, order_all, five, all_discarded}
use Rattle.pfs_conservation.proofs.ChainLines.{times_all, once_chain, lines_moved, bound_is, unquit_is}

module _ (n : Numbering) (opening : State) (rows : List ℕ) (base : Base n opening rows) (actions : List Action) (kind : ℕ) {A : Type 0} (s : Sums A) (m : Merges s) (size : A → ℕ) (z : Sized s size)
    (events : List ℕ) (lines : List Tagged) (found : ℕ → ℕ → A) (whose : ℕ → Whose)
    (chained : AreChained (λ action row. nat_lt 0 (size (found action row))) (moves_to (holder_of n opening (numbered actions)) (takes_by n opening (numbered actions) kind) rows (length actions)) lines)
    (finds : Finds s (chain_of lines) found) (added : AreAdded n opening actions events lines whose) where
  kept : ℕ → ℕ → Bool
  kept = λ action row. nat_lt 0 (size (found action row))

  abbrev moves : List Move
  moves = moves_to (holder_of n opening (numbered actions)) (takes_by n opening (numbered actions) kind) rows (length actions)

  are_moved : AreMoved (chain_of lines) (λ action row. nat_lt 0 (size (found action row))) moves
  are_moved = lines_moved (λ action row. nat_lt 0 (size (found action row))) moves
      (to_order (holder_of n opening (numbered actions)) (takes_by n opening (numbered actions) kind) (λ row. row) rows (length actions) (acts_rising n opening rows base actions kind) (length actions)) lines chained

  ascends : (row : ℕ) → Ascends 0 (chain_of lines row)
  ascends row = follows_ascends (λ r. place_level (n.seat r).place) (λ action row. nat_lt 0 (size (found action row))) row moves (chain_of lines row) (order_all n opening rows base actions kind) (are_moved.is row)

  counted : (event : ℕ) → 1 ≤ count_by (λ e. event == e) events → (row : ℕ) → times_counted event (chain_of lines row) ≡ cond (row == home_at n (whose event)) 1 0
  counted event is row = times_all event lines lines row chained.within ∙ added.counted event is row

  of_event : (event : ℕ) (w : Whose) → times_counted event (chain_of lines (home_at n w)) ≡ 1 → IsAdded opening actions lines n event w → IsOf opening actions (chain_of lines) n event w
  of_event event (OfSession cell slot x connect quit) one f = (
    f.0,
    f.1,
    f.2,
    f.3,
    bound_is (λ action row. nat_lt 0 (size (found action row))) moves (to_order (holder_of n opening (numbered actions)) (takes_by n opening (numbered actions) kind) (λ row. row) rows (length actions) (acts_rising n opening rows base actions kind) (length actions)) lines chained event (home_at n (OfSession cell slot x connect quit)) connect quit one (ascends (home_at n (OfSession cell slot x connect quit))) f.4 f.5,
    unquit_is (λ action row. nat_lt 0 (size (found action row))) moves (to_order (holder_of n opening (numbered actions)) (takes_by n opening (numbered actions) kind) (λ row. row) rows (length actions) (acts_rising n opening rows base actions kind) (length actions)) lines chained event (home_at n (OfSession cell slot x connect quit)) connect quit one (ascends (home_at n (OfSession cell slot x connect quit))) f.4 f.5,
  )
  of_event event (Aside cell) one f = f

  are_of : AreOf n opening actions events (chain_of lines) whose
  are_of = record {
    counted = counted;
    is_of = λ event is. of_event event (whose event) (counted event is (home_at n (whose event)) ∙ bit_yes (home_at n (whose event) == home_at n (whose event)) (eq_self (home_at n (whose event)))) (added.added event is);
  }

  flat : (row : ℕ) → place_level (n.seat row).place ≤ 3
  flat row = low (n.seat row).place
    where
      low : (p : Place) → place_level p ≤ 3
      low (Thread t) = omega arith
      low (Account t) = omega arith
      low (User t) = omega arith
      low (Host t) = omega arith
      low Global = omega arith
      low Elsewhere = omega arith

  -- what a key's rows show, put together, is what counts there, put together
  pub lines_conserved : (key : Key) (cells : List ℕ) → AreLow n cells → ((c : ℕ) → count_by (λ x. x == c) cells ≤ 1) → ((event : ℕ) → 1 ≤ count_by (λ e. event == e) events → HasSlot key (whose event))
      → IsConserved s (journals_of n opening actions kind rows events (chain_of lines) found whose) (shown_in n key cells (state_after opening (numbered actions) (length actions))) (covers_to kind key opening (numbered actions) (length actions)) (λ event. leads_at key cells (whose event))
  lines_conserved key cells lows once slots =
      five n opening rows base actions kind events (chain_of lines) found whose are_of s m size z
      (record { few = added.few; flat = flat; moved = are_moved; finds = finds; once = λ row. once_chain events lines row 1 (changes_of lines row) added.once }) key cells lows once slots

  -- what the global key shows and what the takes of the global cell found, put together, is every event of the cell
  pub lines_discarded : (cell : ℕ) → n.is_cell cell ≡ true
      → IsShownOrTaken s (journals_of n opening actions kind rows events (chain_of lines) found whose) (shown_in n KeyAll (cell ∷ []) (state_after opening (numbered actions) (length actions))) (n.row cell Global) (λ event. home_cell (whose event) == cell)
  lines_discarded cell low =
      all_discarded n opening rows base actions kind events (chain_of lines) found whose are_of s m size z
      (record { few = added.few; flat = flat; moved = are_moved; finds = finds; once = λ row. once_chain events lines row 1 (changes_of lines row) added.once }) cell low

-- what the takes found follows from the lines
module _ (n : Numbering) (opening : State) (rows : List ℕ) (base : Base n opening rows) (actions : List Action) (kind : ℕ) {A : Type 0} (s : Sums A) (m : Merges s) (size : A → ℕ) (z : Sized s size)
    (events : List ℕ) (lines : List Tagged) (whose : ℕ → Whose)
    (chained : AreChained (λ action row. nat_lt 0 (size (found_by s (chain_of lines) 4 action row))) (moves_to (holder_of n opening (numbered actions)) (takes_by n opening (numbered actions) kind) rows (length actions)) lines)
    (added : AreAdded n opening actions events lines whose) where
  moves_all : List Move
  moves_all = moves_to (holder_of n opening (numbered actions)) (takes_by n opening (numbered actions) kind) rows (length actions)

  moved_all : AreMoved (chain_of lines) (λ action row. nat_lt 0 (size (found_by s (chain_of lines) 4 action row))) (moves_to (holder_of n opening (numbered actions)) (takes_by n opening (numbered actions) kind) rows (length actions))
  moved_all = lines_moved (λ action row. nat_lt 0 (size (found_by s (chain_of lines) 4 action row))) (moves_to (holder_of n opening (numbered actions)) (takes_by n opening (numbered actions) kind) rows (length actions))
      (to_order (holder_of n opening (numbered actions)) (takes_by n opening (numbered actions) kind) (λ row. row) rows (length actions) (acts_rising n opening rows base actions kind) (length actions)) lines chained

  below : (row : ℕ) → Below (λ r. place_level (n.seat r).place) (place_level (n.seat row).place) (chain_of lines row)
  below row = follows_below (λ r. place_level (n.seat r).place) (λ action row. nat_lt 0 (size (found_by s (chain_of lines) 4 action row))) row (moves_to (holder_of n opening (numbered actions)) (takes_by n opening (numbered actions) kind) rows (length actions)) (chain_of lines row) (order_all n opening rows base actions kind) (moved_all.is row)

  low : (p : Place) → suc (place_level p) ≤ 4
  low (Thread t) = omega arith
  low (Account t) = omega arith
  low (User t) = omega arith
  low (Host t) = omega arith
  low Global = omega arith
  low Elsewhere = omega arith

  -- the printed lines alone, with their rules
  pub report_conserved : (key : Key) (cells : List ℕ) → AreLow n cells → ((c : ℕ) → count_by (λ x. x == c) cells ≤ 1) → ((event : ℕ) → 1 ≤ count_by (λ e. event == e) events → HasSlot key (whose event))
      → IsConserved s (journals_of n opening actions kind rows events (chain_of lines) (found_by s (chain_of lines) 4) whose) (shown_in n key cells (state_after opening (numbered actions) (length actions))) (covers_to kind key opening (numbered actions) (length actions)) (λ event. leads_at key cells (whose event))
  report_conserved =
      lines_conserved n opening rows base actions kind s m size z events lines (found_by s (chain_of lines) 4) whose chained
      (record { is = λ action row. found_is s (chain_of lines) (λ r. place_level (n.seat r).place) below 4 action row (low (n.seat row).place) }) added

  pub report_discarded : (cell : ℕ) → n.is_cell cell ≡ true
      → IsShownOrTaken s (journals_of n opening actions kind rows events (chain_of lines) (found_by s (chain_of lines) 4) whose) (shown_in n KeyAll (cell ∷ []) (state_after opening (numbered actions) (length actions))) (n.row cell Global) (λ event. home_cell (whose event) == cell)
  report_discarded =
      lines_discarded n opening rows base actions kind s m size z events lines (found_by s (chain_of lines) 4) whose chained
      (record { is = λ action row. found_is s (chain_of lines) (λ r. place_level (n.seat r).place) below 4 action row (low (n.seat row).place) }) added

entry_free : {X : Type 0} (n t : ℕ) (x : X) → entry_at (all_free n) t ≡ Some x → ⊥
entry_free zero t x h = absurd (cc)
entry_free (suc n) zero x h = absurd (cc)
entry_free (suc n) (suc t) x h = entry_free n t x h

free_long : (X : Type 0) (n : ℕ) → length (all_free {X = X} n) ≡ n
free_long X zero = refl
free_long X (suc n) = ap suc (free_long X n)

pub opened_sound : (limits : Limits) → Sound (opened_by limits)
opened_sound limits = record { lives = λ t x h. absurd (entry_free limits.threads t x h); user = λ a e u h w. absurd (entry_free limits.accounts a e h); host = λ a e u h w. absurd (entry_free limits.accounts a e h) }

pub opened_small : (limits : Limits) → AreLimits limits → IsSmall (opened_by limits)
opened_small limits l = record {
  threads = subst (λ z. z ≤ 32) (sym (free_long Session limits.threads)) l.threads;
  accounts = subst (λ z. z ≤ 32) (sym (free_long Entry limits.accounts)) l.accounts;
  users = subst (λ z. z ≤ 32) (sym (free_long ℕ limits.users)) l.users;
  hosts = subst (λ z. z ≤ 32) (sym (free_long ℕ limits.hosts)) l.hosts;
}
