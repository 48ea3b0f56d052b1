-- The digest summary is conserved.
use Rattle.std.proofs.Common.{◌≡◌, ℕ, suc, ◌^◌, ◌<◌, ◌≤◌, ◌==◌, ◌&&◌, Bool, true, false, cond, List, [], ◌∷◌, length, Option, Some, None, count_by, refl, sym, ap, ◌∙◌, arith}
use Rattle.std.specs.Prelude.{nat_lt}
use Rattle.pfs_lemmas.proofs.Numbers.{eq_self}
use Rattle.pfs_conservation.specs.RowChains.{Sums, Finds}
use Rattle.pfs_conservation.specs.Removals.{removal, counts_event, Ascends}
use Rattle.pfs_conservation.specs.RowMoves.{AreMoved, InOrder}
use Rattle.pfs_conservation.specs.Conservation.{IsConserved}
use Rattle.pfs_conservation.specs.Tenures.{Owner, Keeps, HasTenants, IsTable}
use Rattle.pfs_conservation.specs.ActionMoves.{moves_to, Ranked, Acts}
use Rattle.pfs_conservation.specs.PlaceFolds.{global_owner}
use Rattle.pfs_conservation.specs.KindSummaries.{those_to}
use Rattle.pfs_conservation.specs.PrintedChanges.{Tagged, changes_of, chain_of, AllOnce, times_added, AreChained}
use Rattle.pfs_conservation.specs.DigestClears.{held, clears, digests_of}
use Rattle.pfs_conservation.proofs.MergeTotals.{Merges}
use Rattle.pfs_conservation.proofs.ChainEvents.{count_cons}
use Rattle.pfs_conservation.proofs.ChainOrder.{follows_ascends}
use Rattle.pfs_conservation.proofs.Conservation.{Sized, moving_from}
use Rattle.pfs_conservation.proofs.SessionEvents.{removal_first}
use Rattle.pfs_conservation.proofs.MoveOrder.{keeps, to_order}
use Rattle.pfs_conservation.proofs.WholeLaw.{whole}
use Rattle.pfs_conservation.proofs.RowOwners.{clash, differ}
use Rattle.pfs_conservation.proofs.EventWays.{those_in, those_has}
use Rattle.pfs_conservation.proofs.ChainLines.{times_all, once_chain, lines_moved}

module _ (cleared : ℕ → Bool) (rows : List ℕ) (last : ℕ) (within : (action : ℕ) → cleared action ≡ true → (1 ≤ action) × (action ≤ last)) (once : (row : ℕ) → count_by (λ r. r == row) rows ≤ 1) (flat : Ranked (λ r. 0) rows) (rising : Ranked (λ r. r) rows) where
  left : (a b : Bool) → (a && b) ≡ true → a ≡ true
  left true b h = refl
  left false b h = h

  right : (a b : Bool) → (a && b) ≡ true → b ≡ true
  right true b h = h
  right false b h = differ (sym h)

  some : (n : ℕ) → nat_lt 0 n ≡ true → n ≤ 1 → n ≡ 1
  some n q l = grind (arith, q, l)

  in_actions : (action row : ℕ) → clears cleared rows action row ≡ true → (1 ≤ action) × (action ≤ last) × (count_by (λ r. r == row) rows ≡ 1)
  in_actions action row t =
      let w : (1 ≤ action) × (action ≤ last) = within action (left (cleared action) (nat_lt 0 (count_by (λ r. r == row) rows)) t) in
      (w.0, w.1, some (count_by (λ r. r == row) rows) (right (cleared action) (nat_lt 0 (count_by (λ r. r == row) rows)) t) (once row))

  owner_is : (o : Owner) → ◌≡◌ {A = Option Owner} (Some global_owner) (Some o) → global_owner ≡ o
  owner_is o h = cc

  acts : Acts held (clears cleared rows) (λ r. 0) rows last
  acts = record { within = in_actions; ranked = flat; climbs = λ action row owner t h next g. differ (sym (ap (λ (o : Owner). nat_lt 0 (count_by (λ r. r == next) o.nexts)) (owner_is owner h) ∙ g)) }

  acts_rising : Acts held (clears cleared rows) (λ r. r) rows last
  acts_rising = record { within = in_actions; ranked = rising; climbs = λ action row owner t h next g. differ (sym (ap (λ (o : Owner). nat_lt 0 (count_by (λ r. r == next) o.nexts)) (owner_is owner h) ∙ g)) }

  module _ {A : Type 0} (s : Sums A) (m : Merges s) (size : A → ℕ) (z : Sized s size) (events : List ℕ) (lines : List Tagged) (found : ℕ → ℕ → A) (home : ℕ → ℕ)
      (chained : AreChained (λ action row. nat_lt 0 (size (found action row))) (moves_to held (clears cleared rows) rows last) lines) (finds : Finds s (chain_of lines) found)
      (few : length events < 2 ^ 64) (added : AllOnce events lines) (counted : (event : ℕ) → 1 ≤ count_by (λ e. event == e) events → (row : ℕ) → times_added event lines row ≡ cond (row == home event) 1 0)
      (known : (event : ℕ) → 1 ≤ count_by (λ e. event == e) events → 1 ≤ count_by (λ r. r == home event) rows) where
    moved : AreMoved (chain_of lines) (λ action row. nat_lt 0 (size (found action row))) (moves_to held (clears cleared rows) rows last)
    moved = lines_moved (λ action row. nat_lt 0 (size (found action row))) (moves_to held (clears cleared rows) rows last) (to_order held (clears cleared rows) (λ r. r) rows last acts_rising last) lines chained

    order : InOrder (λ r. 0) (moves_to held (clears cleared rows) rows last)
    order = to_order held (clears cleared rows) (λ r. 0) rows last acts last

    all_kept : Keeps held (clears cleared rows) (moves_to held (clears cleared rows) rows last)
    all_kept = keeps held (clears cleared rows) (λ r. 0) rows last acts (λ action row owner h t. h)

    removed : (event row least : ℕ) → removal event (chain_of lines row) ≡ Some least → (1 ≤ least) × (least ≤ last)
    removed event row least q =
        let up : Ascends 0 (chain_of lines row) = follows_ascends (λ r. 0) (λ action row. nat_lt 0 (size (found action row))) row (moves_to held (clears cleared rows) rows last) (chain_of lines row) order (moved.is row) in
        let w : (1 ≤ least) × (least ≤ last) × (count_by (λ r. r == row) rows ≡ 1) = in_actions least row (all_kept.listed least row least (sym (moving_from (λ action row. nat_lt 0 (size (found action row))) (chain_of lines) (moves_to held (clears cleared rows) rows last) moved least row) ∙ removal_first (counts_event event) 0 (chain_of lines row) least up q)) in
        (w.0, w.1)

    tenants : HasTenants (digests_of cleared rows last events (chain_of lines) found home) held (clears cleared rows) (λ event row. global_owner) (λ event. 0) (λ event. None)
    tenants = record {
      keeps = all_kept;
      counted = λ event is row. times_all event lines lines row chained.within ∙ counted event is row;
      leads = λ event is. tt;
      climb = λ event is. tt;
      tenant = λ event is. record {
        holds_home = λ action l b. refl;
        holds = λ action row from come l b. clash from come;
        nexts_home = λ row. refl;
        nexts = λ from below row come. clash below come;
        bound = λ action q. ((removed event (home event) action q).0, tt);
        sweeps = λ action row from come. clash from come;
        joins = λ row from come. clash from come;
        stays_home = λ none action l. refl;
      };
    }

    turned : (a b : ℕ) → count_by (λ r. r == b) (a ∷ []) ≡ cond {A = ℕ} (b == a) 1 0
    turned a b = omega (arith, count_cons (λ r. r == b) a [], ap (λ c. cond {A = ℕ} c 1 0) (swap a b))
      where
        swap : (a b : ℕ) → (a == b) ≡ (b == a)
        swap a b = grind arith

    goes : (n : ℕ) → 1 ≤ n → nat_lt 0 n ≡ true
    goes n h = grind (arith, h)

    table : (row : ℕ) → IsTable (digests_of cleared rows last events (chain_of lines) found home) held (clears cleared rows) (λ event r. global_owner) (λ event. 0) (suc last) (λ r owner. r == row) (row ∷ []) (those_to cleared last) (λ event. []) (λ event. home event == row)
    table row = record {
      shows = λ r owner h. turned row r;
      mine_home = λ event is. ap (λ n. cond (home event == row) n 0) (sym (turned (home event) (home event) ∙ ap (λ c. cond {A = ℕ} c 1 0) (eq_self (home event))));
      mine = λ event is r from come. clash from come;
      follows = λ event is. tt;
      covers_are = λ event is lead t. (
        (λ h. rw ((those_in cleared last t h).0, goes (count_by (λ r. r == home event) rows) (known event is)) refl),
        (λ h. (let c : cleared t ≡ true = left (cleared t) (nat_lt 0 (count_by (λ r. r == home event) rows)) h in let w : (1 ≤ t) × (t ≤ last) = within t c in those_has cleared last t c w.0 w.1)),
      );
      ended = λ event is least q. (let l : least ≤ last = (removed event (home event) least q).1 in omega arith);
      begun = λ event is. omega arith;
    }

    -- a digest row shows what was counted there since the table was last cleared
    pub digest_conserved : (row : ℕ) → IsConserved s (digests_of cleared rows last events (chain_of lines) found home) (row ∷ []) (those_to cleared last) (λ event. home event == row)
    digest_conserved row =
        whole s m size z (digests_of cleared rows last events (chain_of lines) found home)
        (record { few = few; flat = λ r. omega arith; moved = moved; finds = finds; once = λ r. once_chain events lines r 1 (changes_of lines r) added })
        held (clears cleared rows) (λ event r. global_owner) (λ event. 0) (λ event. None) order tenants (suc last) (λ r owner. r == row) (row ∷ []) (those_to cleared last) (λ event. []) (λ event. home event == row) (table row)
