-- The five summaries of a kind are conserved, by the fold of the administration.
use Rattle.std.proofs.Common.{◌⊎◌, inl, inr, ◌≡◌, ℕ, zero, suc, ◌<◌, ◌≤◌, ◌==◌, ◌&&◌, Bool, true, false, cond, List, [], ◌∷◌, length, Option, Some, None, count_by, refl, sym, ap, ◌∙◌, subst, arith, ◌+◌}
use Rattle.std.specs.Prelude.{nat_lt}
use Rattle.std.proofs.lemmas.Bool.{eqb-true}
use Rattle.pfs_lemmas.proofs.Numbers.{eq_self}
use Rattle.pfs_conservation.specs.RowChains.{Change, Sums}
use Rattle.pfs_conservation.specs.Removals.{removal, counts_event, Ascends}
use Rattle.pfs_conservation.specs.RowMoves.{AreMoved, InOrder, goes_to}
use Rattle.pfs_conservation.specs.Journeys.{first_from_one}
use Rattle.pfs_conservation.specs.Ways.{Step, before_by, leave_by, Leads, StepsClimb}
use Rattle.pfs_conservation.specs.Conservation.{Journals, IsConserved, IsShownOrTaken, Shows, Follows, last_of}
use Rattle.pfs_conservation.specs.Tenures.{Owner, Keeps, IsTenant, HasTenants, IsTable}
use Rattle.pfs_conservation.specs.ActionMoves.{moves_to, Acts}
use Rattle.pfs_conservation.specs.PlaceFolds.{Line, Connects, Quits, Truncates, FreesAccounts, FreesUsers, FreesHosts, Others, Level, level_takes, Place, Thread, Account, User, Host, Global, Elsewhere, Session, Entry, State, entry_at, line_takes, CellRows, ups, thread_ups, thread_owner, account_owner, user_owner, host_owner, global_owner, owner_of, holder_in}
use Rattle.pfs_conservation.specs.AdministrationFold.{Action, line_of, numbered, state_after, state_before}
use Rattle.pfs_conservation.specs.CellHolders.{Seat, Numbering, IsIn, IsNumbering, rows_of, place_level, holder_at, holder_of, takes_by, map_row, IsSmall}
use Rattle.pfs_conservation.specs.KindSummaries.{home_cell, path_in, AreLow, Key, KeyThread, KeyAccount, KeyUser, KeyHost, KeyAll, matches, shown_by, shows_at, shown_in, is_of, belongs_to, Whose, OfSession, Aside, home_at, steps_at, own_by, connect_of, quit_of, is_all, leads_at, path_at, covers_at, those_to, covers_to}
use Rattle.pfs_conservation.specs.KindFacts.{IsListing, IsOf, journals_of, AreOf, HasSlot}
use Rattle.pfs_conservation.proofs.MergeTotals.{Merges, bit_yes}
use Rattle.pfs_conservation.proofs.ChainEvents.{count_cons}
use Rattle.pfs_conservation.proofs.ChainOrder.{follows_ascends}
use Rattle.pfs_conservation.proofs.Conservation.{Sized, moving_from, shown_or_taken}
use Rattle.pfs_conservation.proofs.SessionEvents.{removal_first, tenants_placed, table_is}
use Rattle.pfs_conservation.proofs.MoveOrder.{keeps, to_order}
use Rattle.pfs_conservation.proofs.WholeLaw.{Stores, whole}
use Rattle.pfs_conservation.proofs.WayCases.{climb_way, Has}
use Rattle.pfs_conservation.proofs.RowOwners.{clash, differ, owner_stays}
use Rattle.pfs_conservation.proofs.Connects.{Sound, sound_after, same_step}
use Rattle.pfs_conservation.proofs.Tenancy.{tenant, leads_all, slot_low, account_low, user_low, host_low, small_after, entry_low}
use Rattle.pfs_conservation.proofs.KeyRows.{shown_once}
use Rattle.pfs_conservation.proofs.EventWays.{mine_home, mine_way, follows_path, covers_last, all_covers, those_in, those_has, takes_within}

-- what the administration and the numbers of the rows give
pub record Base (n : Numbering) (opening : State) (rows : List ℕ) : Type 0 where
  pub good : IsNumbering n
  pub sound : Sound opening
  pub small : IsSmall opening
  pub listing : IsListing n rows

-- an event leaves no row that its way doesn't come to
leave_none : (chains : ℕ → List Change) (event home : ℕ) (steps : List Step) (row : ℕ) → (row == home) ≡ false → before_by steps row ≡ None → leave_by chains event home steps row ≡ None
leave_none chains event home [] row away none = ap (λ (b : Bool). cond b (removal event (chains home)) None) away
leave_none chains event home (step ∷ steps) row away none = at (step.to == row) none (leave_none chains event home steps row away)
  where
    at : (b : Bool) → cond b (Some step.from) (before_by steps row) ≡ None → (before_by steps row ≡ None → leave_by chains event home steps row ≡ None)
        → cond b (first_from_one (leave_by chains event home steps step.from) (chains step.to)) (leave_by chains event home steps row) ≡ None
    at true none ih = absurd (cc)
    at false none ih = ih none

small_before : (opening : State) → IsSmall opening → (action : ℕ → Action) (number : ℕ) → IsSmall (state_before opening action number)
small_before opening k action zero = k
small_before opening k action (suc number) = small_after opening k action number

sound_before : (opening : State) → Sound opening → (action : ℕ → Action) (number : ℕ) → Sound (state_before opening action number)
sound_before opening k action zero = k
sound_before opening k action (suc number) = sound_after opening k action number

held_entry : {X : Type 0} (make : X → Owner) (e : Option X) (o : Owner) → owner_of make e ≡ Some o → (x : X) × (e ≡ Some x) × (make x ≡ o)
held_entry make None o h = clash o h
held_entry make (Some x) o h = (x, refl, some_is (make x) o h)
  where
    some_is : (a b : Owner) → ◌≡◌ {A = Option Owner} (Some a) (Some b) → a ≡ b
    some_is a b h = cc

-- what is held is within the limits
held_in : (s : State) → IsSmall s → (rows : CellRows) (p : Place) (o : Owner) → holder_in rows s p ≡ Some o → IsIn p
held_in s k rows (Thread t) o h = let e : (x : Session) × (entry_at s.threads t ≡ Some x) × (thread_owner rows x ≡ o) = held_entry (thread_owner rows) (entry_at s.threads t) o h in let l : suc t ≤ length s.threads = entry_low s.threads t e.0 e.1 in let m : length s.threads ≤ 32 = k.threads in omega arith
held_in s k rows (Account t) o h = let e : (x : Entry) × (entry_at s.accounts t ≡ Some x) × (account_owner rows x ≡ o) = held_entry (account_owner rows) (entry_at s.accounts t) o h in let l : suc t ≤ length s.accounts = entry_low s.accounts t e.0 e.1 in let m : length s.accounts ≤ 32 = k.accounts in omega arith
held_in s k rows (User t) o h = let e : (x : ℕ) × (entry_at s.users t ≡ Some x) × (user_owner x ≡ o) = held_entry user_owner (entry_at s.users t) o h in let l : suc t ≤ length s.users = entry_low s.users t e.0 e.1 in let m : length s.users ≤ 32 = k.users in omega arith
held_in s k rows (Host t) o h = let e : (x : ℕ) × (entry_at s.hosts t ≡ Some x) × (host_owner rows x ≡ o) = held_entry (host_owner rows) (entry_at s.hosts t) o h in let l : suc t ≤ length s.hosts = entry_low s.hosts t e.0 e.1 in let m : length s.hosts ≤ 32 = k.hosts in omega arith
held_in s k rows Global o h = tt
held_in s k rows Elsewhere o h = clash o h

module _ (n : Numbering) (opening : State) (rows : List ℕ) (base : Base n opening rows) (actions : List Action) (kind : ℕ) where
  action : ℕ → Action
  action = numbered actions

  abbrev holder : ℕ → ℕ → Option Owner
  holder = holder_of n opening (numbered actions)

  abbrev takes : ℕ → ℕ → Bool
  takes = takes_by n opening (numbered actions) kind

  -- an owner goes only at an action that takes its row
  stays : (number row : ℕ) (owner : Owner) → holder number row ≡ Some owner → takes number row ≡ false → holder (suc number) row ≡ Some owner
  stays zero row owner h t = h
  stays (suc number) row owner h t =
      ap (λ s. holder_at n s (n.seat row)) (sym (same_step kind (state_after opening (numbered actions) number) (numbered actions (suc number))))
      ∙ owner_stays (rows_of n (n.seat row).cell) (state_after opening (numbered actions) number) (line_of kind (state_after opening (numbered actions) number) (numbered actions (suc number))) (n.seat row).place owner h t

  row_of_seat : (row : ℕ) → IsIn (n.seat row).place → n.row (n.seat row).cell (n.seat row).place ≡ row
  row_of_seat row = base.good.rows row

  level_of : (cell : ℕ) (p : Place) → n.is_cell cell ≡ true → IsIn p → place_level (n.seat (n.row cell p)).place ≡ place_level p
  level_of cell p low within = ap (λ (s : Seat). place_level s.place) (base.good.seats cell p low within)

  -- what an action takes goes up
  in_ups : (cell : ℕ) (user host : Option ℕ) (next : ℕ) → goes_to next (ups (rows_of n cell) user host) ≡ true → ((u : ℕ) × (user ≡ Some u) × (n.row cell (User u) ≡ next)) ⊎ (((h : ℕ) × (host ≡ Some h) × (n.row cell (Host h) ≡ next)) ⊎ (n.row cell Global ≡ next))
  in_ups cell None None next h = inr (inr (only (n.row cell Global) next h))
    where
      only : (a b : ℕ) → nat_lt 0 (count_by (λ r. r == b) (a ∷ [])) ≡ true → a ≡ b
      only a b h = grind (arith, h, count_cons (λ r. r == b) a [])
  in_ups cell None (Some y) next h = inr (inl (y, refl, only (n.row cell (Host y)) next h))
    where
      only : (a b : ℕ) → nat_lt 0 (count_by (λ r. r == b) (a ∷ [])) ≡ true → a ≡ b
      only a b h = grind (arith, h, count_cons (λ r. r == b) a [])
  in_ups cell (Some x) None next h = at (n.row cell (User x) == next) refl
    where
      second : (a b c : ℕ) → (a == b) ≡ false → nat_lt 0 (count_by (λ r. r == b) (a ∷ (c ∷ []))) ≡ true → c ≡ b
      second a b c q h = grind (arith, q, h, count_cons (λ r. r == b) a (c ∷ []), count_cons (λ r. r == b) c [])

      at : (b : Bool) → (n.row cell (User x) == next) ≡ b → ((u : ℕ) × (Some x ≡ Some u) × (n.row cell (User u) ≡ next)) ⊎ (((h : ℕ) × (None ≡ Some h) × (n.row cell (Host h) ≡ next)) ⊎ (n.row cell Global ≡ next))
      at true q = inl (x, refl, eqb-true (n.row cell (User x)) next q)
      at false q = inr (inr (second (n.row cell (User x)) next (n.row cell Global) q h))
  in_ups cell (Some x) (Some y) next h = at (n.row cell (User x) == next) refl
    where
      second : (a b c : ℕ) → (a == b) ≡ false → nat_lt 0 (count_by (λ r. r == b) (a ∷ (c ∷ []))) ≡ true → c ≡ b
      second a b c q h = grind (arith, q, h, count_cons (λ r. r == b) a (c ∷ []), count_cons (λ r. r == b) c [])

      at : (b : Bool) → (n.row cell (User x) == next) ≡ b → ((u : ℕ) × (Some x ≡ Some u) × (n.row cell (User u) ≡ next)) ⊎ (((h : ℕ) × (Some y ≡ Some h) × (n.row cell (Host h) ≡ next)) ⊎ (n.row cell Global ≡ next))
      at true q = inl (x, refl, eqb-true (n.row cell (User x)) next q)
      at false q = inr (inl (y, refl, second (n.row cell (User x)) next (n.row cell (Host y)) q h))

  above : (cell : ℕ) → n.is_cell cell ≡ true → (p q : Place) → IsIn p → IsIn q → suc (place_level p) ≤ place_level q → n.row cell p < n.row cell q
  above cell low (Thread t) (Account a) i j h = let x : n.row cell (Thread t) < n.accounts = base.good.between cell (Thread t) low i in let y : (n.accounts ≤ n.row cell (Account a)) × (n.row cell (Account a) < n.users) = base.good.between cell (Account a) low j in let z : n.accounts ≤ n.row cell (Account a) = y.0 in omega arith
  above cell low (Thread t) (User a) i j h = let x : n.row cell (Thread t) < n.accounts = base.good.between cell (Thread t) low i in let y : (n.users ≤ n.row cell (User a)) × (n.row cell (User a) < n.hosts) = base.good.between cell (User a) low j in let z : n.users ≤ n.row cell (User a) = y.0 in let u : n.accounts ≤ n.users = base.good.users in omega arith
  above cell low (Thread t) (Host a) i j h = let x : n.row cell (Thread t) < n.accounts = base.good.between cell (Thread t) low i in let y : (n.hosts ≤ n.row cell (Host a)) × (n.row cell (Host a) < n.globals) = base.good.between cell (Host a) low j in let z : n.hosts ≤ n.row cell (Host a) = y.0 in let u : n.accounts ≤ n.users = base.good.users in let v : n.users ≤ n.hosts = base.good.hosts in omega arith
  above cell low (Thread t) Global i j h = let x : n.row cell (Thread t) < n.accounts = base.good.between cell (Thread t) low i in let y : n.globals ≤ n.row cell Global = base.good.between cell Global low j in let u : n.accounts ≤ n.users = base.good.users in let v : n.users ≤ n.hosts = base.good.hosts in let w : n.hosts ≤ n.globals = base.good.globals in omega arith
  above cell low (Account t) (User a) i j h = let x : (n.accounts ≤ n.row cell (Account t)) × (n.row cell (Account t) < n.users) = base.good.between cell (Account t) low i in let k : n.row cell (Account t) < n.users = x.1 in let y : (n.users ≤ n.row cell (User a)) × (n.row cell (User a) < n.hosts) = base.good.between cell (User a) low j in let z : n.users ≤ n.row cell (User a) = y.0 in omega arith
  above cell low (Account t) (Host a) i j h = let x : (n.accounts ≤ n.row cell (Account t)) × (n.row cell (Account t) < n.users) = base.good.between cell (Account t) low i in let k : n.row cell (Account t) < n.users = x.1 in let y : (n.hosts ≤ n.row cell (Host a)) × (n.row cell (Host a) < n.globals) = base.good.between cell (Host a) low j in let z : n.hosts ≤ n.row cell (Host a) = y.0 in let v : n.users ≤ n.hosts = base.good.hosts in omega arith
  above cell low (Account t) Global i j h = let x : (n.accounts ≤ n.row cell (Account t)) × (n.row cell (Account t) < n.users) = base.good.between cell (Account t) low i in let k : n.row cell (Account t) < n.users = x.1 in let y : n.globals ≤ n.row cell Global = base.good.between cell Global low j in let v : n.users ≤ n.hosts = base.good.hosts in let w : n.hosts ≤ n.globals = base.good.globals in omega arith
  above cell low (User t) Global i j h = let x : (n.users ≤ n.row cell (User t)) × (n.row cell (User t) < n.hosts) = base.good.between cell (User t) low i in let k : n.row cell (User t) < n.hosts = x.1 in let y : n.globals ≤ n.row cell Global = base.good.between cell Global low j in let w : n.hosts ≤ n.globals = base.good.globals in omega arith
  above cell low (Host t) Global i j h = let x : (n.hosts ≤ n.row cell (Host t)) × (n.row cell (Host t) < n.globals) = base.good.between cell (Host t) low i in let k : n.row cell (Host t) < n.globals = x.1 in let y : n.globals ≤ n.row cell Global = base.good.between cell Global low j in omega arith
  above cell low p Elsewhere i j h = absurd j
  above cell low Elsewhere q i j h = absurd i
  above cell low p q i j h = absurd (omega arith)

  -- where what leaves a place goes
  record Up (cell : ℕ) (p : Place) (next : ℕ) : Type 0 where
    to : Place
    within : IsIn to
    is : n.row cell to ≡ next
    higher : suc (place_level p) ≤ place_level to

  ups_up : (s : State) → IsSmall s → (cell : ℕ) (p : Place) (user host : Option ℕ) → suc (place_level p) ≤ 2 → ((u : ℕ) → user ≡ Some u → u < 32) → ((h : ℕ) → host ≡ Some h → h < 32) → (next : ℕ) → goes_to next (ups (rows_of n cell) user host) ≡ true → Up cell p next
  ups_up s k cell p user host l fu fh next h = by (in_ups cell user host next h)
    where
      by : ((u : ℕ) × (user ≡ Some u) × (n.row cell (User u) ≡ next)) ⊎ (((h : ℕ) × (host ≡ Some h) × (n.row cell (Host h) ≡ next)) ⊎ (n.row cell Global ≡ next)) → Up cell p next
      by (inl u) = record { to = User u.0; within = fu u.0 u.1; is = u.2; higher = l }
      by (inr (inl u)) = record { to = Host u.0; within = fh u.0 u.1; is = u.2; higher = l }
      by (inr (inr u)) = record { to = Global; within = tt; is = u; higher = omega arith }

  up_from : (s : State) → Sound s → IsSmall s → (cell : ℕ) (p : Place) (o : Owner) → holder_in (rows_of n cell) s p ≡ Some o → (next : ℕ) → goes_to next o.nexts ≡ true → Up cell p next
  up_from s ok k cell (Thread t) o h next g =
      let e : (x : Session) × (entry_at s.threads t ≡ Some x) × (thread_owner (rows_of n cell) x ≡ o) = held_entry (thread_owner (rows_of n cell)) (entry_at s.threads t) o h in
      by e.0 (ok.lives t e.0 e.1).account (ok.lives t e.0 e.1).user (ok.lives t e.0 e.1).host e.0.account refl (ap (λ (z : Owner). goes_to next z.nexts) e.2 ∙ g)
    where
      low_of : {X : Type 0} (xs : List (Option X)) (m : ℕ) (x : X) → length xs ≤ 32 → entry_at xs m ≡ Some x → m < 32
      low_of xs m x long q = let l : suc m ≤ length xs = entry_low xs m x q in omega arith

      only : (a b : ℕ) → nat_lt 0 (count_by (λ r. r == b) (a ∷ [])) ≡ true → a ≡ b
      only a b h = grind (arith, h, count_cons (λ r. r == b) a [])

      by : (x : Session) → ((a : ℕ) → x.account ≡ Some a → entry_at s.accounts a ≡ Some (record { user_name = x.user_name; host_name = x.host_name; user = x.user; host = x.host })) → ((u : ℕ) → x.user ≡ Some u → entry_at s.users u ≡ Some x.user_name) → ((u : ℕ) → x.host ≡ Some u → entry_at s.hosts u ≡ Some x.host_name)
          → (a : Option ℕ) → x.account ≡ a → goes_to next (thread_owner (rows_of n cell) x).nexts ≡ true → Up cell (Thread t) next
      by x fa fu fh None q h = ups_up s k cell (Thread t) x.user x.host (omega arith) (λ u w. low_of s.users u x.user_name k.users (fu u w)) (λ u w. low_of s.hosts u x.host_name k.hosts (fh u w)) next (without x.account q h)
        where
          without : (a : Option ℕ) → a ≡ None → goes_to next (thread_ups (rows_of n cell) (record { number = x.number; user_name = x.user_name; host_name = x.host_name; account = a; user = x.user; host = x.host })) ≡ true → goes_to next (ups (rows_of n cell) x.user x.host) ≡ true
          without None q h = h
          without (Some a) q h = absurd (cc)
      by x fa fu fh (Some a) q h = record { to = Account a; within = low_of s.accounts a (record { user_name = x.user_name; host_name = x.host_name; user = x.user; host = x.host }) k.accounts (fa a q); is = only (n.row cell (Account a)) next (with_it x.account q h); higher = omega arith }
        where
          with_it : (b : Option ℕ) → b ≡ Some a → goes_to next (thread_ups (rows_of n cell) (record { number = x.number; user_name = x.user_name; host_name = x.host_name; account = b; user = x.user; host = x.host })) ≡ true → goes_to next (n.row cell (Account a) ∷ []) ≡ true
          with_it None q h = absurd (cc)
          with_it (Some b) q h = ap (λ z. goes_to next (n.row cell (Account z) ∷ [])) (let e : a ≡ b = cc in e) ∙ h
  up_from s ok k cell (Account t) o h next g =
      let e : (x : Entry) × (entry_at s.accounts t ≡ Some x) × (account_owner (rows_of n cell) x ≡ o) = held_entry (account_owner (rows_of n cell)) (entry_at s.accounts t) o h in
      ups_up s k cell (Account t) e.0.user e.0.host (omega arith) (λ u w. low_of s.users u e.0.user_name k.users (ok.user t e.0 u e.1 w)) (λ u w. low_of s.hosts u e.0.host_name k.hosts (ok.host t e.0 u e.1 w)) next (ap (λ (z : Owner). goes_to next z.nexts) e.2 ∙ g)
    where
      low_of : {X : Type 0} (xs : List (Option X)) (m : ℕ) (x : X) → length xs ≤ 32 → entry_at xs m ≡ Some x → m < 32
      low_of xs m x long q = let l : suc m ≤ length xs = entry_low xs m x q in omega arith
  up_from s ok k cell (User t) o h next g =
      let e : (x : ℕ) × (entry_at s.users t ≡ Some x) × (user_owner x ≡ o) = held_entry user_owner (entry_at s.users t) o h in
      differ (sym (ap (λ (z : Owner). goes_to next z.nexts) e.2 ∙ g))
  up_from s ok k cell (Host t) o h next g =
      let e : (x : ℕ) × (entry_at s.hosts t ≡ Some x) × (host_owner (rows_of n cell) x ≡ o) = held_entry (host_owner (rows_of n cell)) (entry_at s.hosts t) o h in
      record { to = Global; within = tt; is = only (n.row cell Global) next (ap (λ (z : Owner). goes_to next z.nexts) e.2 ∙ g); higher = omega arith }
    where
      only : (a b : ℕ) → nat_lt 0 (count_by (λ r. r == b) (a ∷ [])) ≡ true → a ≡ b
      only a b h = grind (arith, h, count_cons (λ r. r == b) a [])
  up_from s ok k cell Global o h next g = differ (sym (ap (λ (z : Owner). goes_to next z.nexts) (some_is global_owner o h) ∙ g))
    where
      some_is : (a b : Owner) → ◌≡◌ {A = Option Owner} (Some a) (Some b) → a ≡ b
      some_is a b h = cc
  up_from s ok k cell Elsewhere o h next g = clash o h

  climbs_row : (number row : ℕ) (owner : Owner) → holder number row ≡ Some owner → (next : ℕ) → goes_to next owner.nexts ≡ true → (suc (place_level (n.seat row).place) ≤ place_level (n.seat next).place) × (suc row ≤ next)
  climbs_row number row owner h next g =
      let s : State = state_before opening (numbered actions) number in
      let small : IsSmall s = small_before opening base.small (numbered actions) number in
      let here : IsIn (n.seat row).place = held_in s small (rows_of n (n.seat row).cell) (n.seat row).place owner h in
      let low : n.is_cell (n.seat row).cell ≡ true = base.listing.known row here in
      let u : Up (n.seat row).cell (n.seat row).place next = up_from s (sound_before opening base.sound (numbered actions) number) small (n.seat row).cell (n.seat row).place owner h next g in
      let seat : n.seat next ≡ record { cell = (n.seat row).cell; place = u.to } = ap n.seat (sym u.is) ∙ base.good.seats (n.seat row).cell u.to low u.within in (
        subst (λ (z : Seat). suc (place_level (n.seat row).place) ≤ place_level z.place) (sym seat) u.higher,
        subst (λ z. suc z ≤ next) (base.good.rows row here) (subst (λ z. suc (n.row (n.seat row).cell (n.seat row).place) ≤ z) u.is (above (n.seat row).cell low (n.seat row).place u.to here u.within u.higher)),
      )

  -- what is held gives a row at most once
  ups_once : (cell : ℕ) (user host : Option ℕ) → n.is_cell cell ≡ true → ((u : ℕ) → user ≡ Some u → u < 32) → ((h : ℕ) → host ≡ Some h → h < 32) → (r : ℕ) → count_by (λ x. x == r) (ups (rows_of n cell) user host) ≤ 1
  ups_once cell None None low fu fh r = single (n.row cell Global) r
    where
      single : (a r : ℕ) → count_by (λ x. x == r) (a ∷ []) ≤ 1
      single a r = grind (arith, count_cons (λ x. x == r) a [])
  ups_once cell None (Some h) low fu fh r = single (n.row cell (Host h)) r
    where
      single : (a r : ℕ) → count_by (λ x. x == r) (a ∷ []) ≤ 1
      single a r = grind (arith, count_cons (λ x. x == r) a [])
  ups_once cell (Some u) None low fu fh r = two (n.row cell (User u)) (n.row cell Global) r (above cell low (User u) Global (fu u refl) tt (omega arith))
    where
      two : (a b r : ℕ) → a < b → count_by (λ x. x == r) (a ∷ (b ∷ [])) ≤ 1
      two a b r l = grind (arith, l, count_cons (λ x. x == r) a (b ∷ []), count_cons (λ x. x == r) b [])
  ups_once cell (Some u) (Some h) low fu fh r =
      let p : (n.users ≤ n.row cell (User u)) × (n.row cell (User u) < n.hosts) = base.good.between cell (User u) low (fu u refl) in
      let q : (n.hosts ≤ n.row cell (Host h)) × (n.row cell (Host h) < n.globals) = base.good.between cell (Host h) low (fh h refl) in
      let x : n.row cell (User u) < n.hosts = p.1 in
      let y : n.hosts ≤ n.row cell (Host h) = q.0 in
      two (n.row cell (User u)) (n.row cell (Host h)) r (omega arith)
    where
      two : (a b r : ℕ) → a < b → count_by (λ x. x == r) (a ∷ (b ∷ [])) ≤ 1
      two a b r l = grind (arith, l, count_cons (λ x. x == r) a (b ∷ []), count_cons (λ x. x == r) b [])

  nexts_in : (s : State) → Sound s → IsSmall s → (cell : ℕ) → n.is_cell cell ≡ true → (p : Place) (o : Owner) → holder_in (rows_of n cell) s p ≡ Some o → (r : ℕ) → count_by (λ x. x == r) o.nexts ≤ 1
  nexts_in s ok k cell low (Thread t) o h r =
      let e : (x : Session) × (entry_at s.threads t ≡ Some x) × (thread_owner (rows_of n cell) x ≡ o) = held_entry (thread_owner (rows_of n cell)) (entry_at s.threads t) o h in
      subst (λ (z : Owner). count_by (λ x. x == r) z.nexts ≤ 1) e.2 (by e.0.account e.0 (ok.lives t e.0 e.1).user (ok.lives t e.0 e.1).host refl)
    where
      single : (a r : ℕ) → count_by (λ x. x == r) (a ∷ []) ≤ 1
      single a r = grind (arith, count_cons (λ x. x == r) a [])

      low_of : {X : Type 0} (xs : List (Option X)) (m : ℕ) (x : X) → length xs ≤ 32 → entry_at xs m ≡ Some x → m < 32
      low_of xs m x long q = let l : suc m ≤ length xs = entry_low xs m x q in omega arith

      by : (a : Option ℕ) (x : Session) → ((u : ℕ) → x.user ≡ Some u → entry_at s.users u ≡ Some x.user_name) → ((u : ℕ) → x.host ≡ Some u → entry_at s.hosts u ≡ Some x.host_name) → x.account ≡ a → count_by (λ y. y == r) (thread_ups (rows_of n cell) (record { number = x.number; user_name = x.user_name; host_name = x.host_name; account = a; user = x.user; host = x.host })) ≤ 1
      by None x fu fh q = ups_once cell x.user x.host low (λ u w. low_of s.users u x.user_name k.users (fu u w)) (λ u w. low_of s.hosts u x.host_name k.hosts (fh u w)) r
      by (Some a) x fu fh q = single (n.row cell (Account a)) r
  nexts_in s ok k cell low (Account t) o h r =
      let e : (x : Entry) × (entry_at s.accounts t ≡ Some x) × (account_owner (rows_of n cell) x ≡ o) = held_entry (account_owner (rows_of n cell)) (entry_at s.accounts t) o h in
      subst (λ (z : Owner). count_by (λ x. x == r) z.nexts ≤ 1) e.2 (ups_once cell e.0.user e.0.host low (λ u w. low_of s.users u e.0.user_name k.users (ok.user t e.0 u e.1 w)) (λ u w. low_of s.hosts u e.0.host_name k.hosts (ok.host t e.0 u e.1 w)) r)
    where
      low_of : {X : Type 0} (xs : List (Option X)) (m : ℕ) (x : X) → length xs ≤ 32 → entry_at xs m ≡ Some x → m < 32
      low_of xs m x long q = let l : suc m ≤ length xs = entry_low xs m x q in omega arith
  nexts_in s ok k cell low (User t) o h r =
      let e : (x : ℕ) × (entry_at s.users t ≡ Some x) × (user_owner x ≡ o) = held_entry user_owner (entry_at s.users t) o h in
      subst (λ (z : Owner). count_by (λ x. x == r) z.nexts ≤ 1) e.2 (omega arith)
  nexts_in s ok k cell low (Host t) o h r =
      let e : (x : ℕ) × (entry_at s.hosts t ≡ Some x) × (host_owner (rows_of n cell) x ≡ o) = held_entry (host_owner (rows_of n cell)) (entry_at s.hosts t) o h in
      subst (λ (z : Owner). count_by (λ x. x == r) z.nexts ≤ 1) e.2 (single (n.row cell Global) r)
    where
      single : (a r : ℕ) → count_by (λ x. x == r) (a ∷ []) ≤ 1
      single a r = grind (arith, count_cons (λ x. x == r) a [])
  nexts_in s ok k cell low Global o h r = subst (λ (z : Owner). count_by (λ x. x == r) z.nexts ≤ 1) (some_is global_owner o h) (omega arith)
    where
      some_is : (a b : Owner) → ◌≡◌ {A = Option Owner} (Some a) (Some b) → a ≡ b
      some_is a b h = cc
  nexts_in s ok k cell low Elsewhere o h r = clash o h

  pub nexts_once : (number row : ℕ) (owner : Owner) → holder number row ≡ Some owner → (r : ℕ) → count_by (λ x. x == r) owner.nexts ≤ 1
  nexts_once number row owner h =
      let s : State = state_before opening (numbered actions) number in
      let small : IsSmall s = small_before opening base.small (numbered actions) number in
      let here : IsIn (n.seat row).place = held_in s small (rows_of n (n.seat row).cell) (n.seat row).place owner h in
      nexts_in s (sound_before opening base.sound (numbered actions) number) small (n.seat row).cell (base.listing.known row here) (n.seat row).place owner h

  taken_once : (number row : ℕ) → takes number row ≡ true → count_by (λ r. r == row) rows ≡ 1
  taken_once number row t = by (base.listing.places row)
    where
      none : (p : Place) → p ≡ Elsewhere → line_takes (line_of kind (state_before opening (numbered actions) number) (numbered actions number)) p ≡ false
      none p q = ap (line_takes (line_of kind (state_before opening (numbered actions) number) (numbered actions number))) q ∙ nothing (line_of kind (state_before opening (numbered actions) number) (numbered actions number))
        where
          nothing : (line : Line) → line_takes line Elsewhere ≡ false
          nothing (Connects slot x) = refl
          nothing (Quits slot) = refl
          nothing (Truncates level) = level_nothing level
            where
              level_nothing : (level : Level) → level_takes level Elsewhere ≡ false
              level_nothing level = refl
          nothing FreesAccounts = refl
          nothing FreesUsers = refl
          nothing FreesHosts = refl
          nothing Others = refl

      by : IsIn (n.seat row).place ⊎ ((n.seat row).place ≡ Elsewhere) → count_by (λ r. r == row) rows ≡ 1
      by (inl i) = base.listing.once row i
      by (inr q) = differ (sym t ∙ none (n.seat row).place q)

  acts : Acts holder takes (λ row. place_level (n.seat row).place) rows (length actions)
  acts = record {
    within = λ number row t. (let w : (1 ≤ number) × (number ≤ length actions) = takes_within n opening actions kind number row t in (w.0, w.1, taken_once number row t));
    ranked = base.listing.ranked;
    climbs = λ number row owner t h next g. (climbs_row number row owner h next g).0;
  }

  -- the eqb-true by the rows' numbers
  pub acts_rising : Acts holder takes (λ row. row) rows (length actions)
  acts_rising = record {
    within = λ number row t. (let w : (1 ≤ number) × (number ≤ length actions) = takes_within n opening actions kind number row t in (w.0, w.1, taken_once number row t));
    ranked = base.listing.rises;
    climbs = λ number row owner t h next g. (climbs_row number row owner h next g).1;
  }

  pub keeps_all : Keeps holder takes (moves_to holder takes rows (length actions))
  keeps_all = keeps holder takes (λ row. place_level (n.seat row).place) rows (length actions) acts stays

  pub order_all : InOrder (λ row. place_level (n.seat row).place) (moves_to holder takes rows (length actions))
  order_all = to_order holder takes (λ row. place_level (n.seat row).place) rows (length actions) acts (length actions)

  level_has : (cell level : ℕ) (make : ℕ → Place) (o : Option ℕ) → ((y : ℕ) → o ≡ Some y → place_level (n.seat (n.row cell (make y))).place ≡ level) → Has (λ row. place_level (n.seat row).place) level (map_row (λ y. n.row cell (make y)) o)
  level_has cell level make None h = tt
  level_has cell level make (Some y) h = h y refl

  module _ {A : Type 0} (events : List ℕ) (chains : ℕ → List Change) (found : ℕ → ℕ → A) (whose : ℕ → Whose) (are : AreOf n opening actions events chains whose) where
    abbrev j : Journals A
    j = journals_of n opening actions kind rows events chains found whose

    tenant_at : (event : ℕ) (w : Whose) → IsOf opening actions chains n event w → ((number : ℕ) → removal event (chains (home_at n w)) ≡ Some number → 1 ≤ number)
        → IsTenant chains holder takes event (home_at n w) (steps_at n w) (own_by n w) (connect_of w) (quit_of w)
    tenant_at event (OfSession cell slot x connect quit) f first = tenant n base.good opening base.sound base.small (numbered actions) kind cell slot x connect quit f.0 f.1 f.3 chains event f.4 f.5
    tenant_at event (Aside cell) f first = record {
      holds_home = λ number l b. global_held number;
      holds = λ number row from come l b. clash from come;
      nexts_home = λ row. refl;
      nexts = λ from below row come. clash below come;
      bound = λ number q. (first number q, tt);
      sweeps = λ number row from come. clash from come;
      joins = λ row from come. clash from come;
      stays_home = λ none number l. global_held number;
    }
      where
        global_held : (number : ℕ) → holder number (n.row cell Global) ≡ Some global_owner
        global_held number = ap (λ (z : Seat). holder_at n (state_before opening (numbered actions) number) z) (base.good.seats cell Global f tt)

    leads_w : (event : ℕ) (w : Whose) → IsOf opening actions chains n event w → Leads (home_at n w) (steps_at n w)
    leads_w event (OfSession cell slot x connect quit) f = leads_all n base.good opening base.sound base.small (numbered actions) kind cell slot x connect quit f.0 f.1 f.3
    leads_w event (Aside cell) f = tt

    climbs_w : (event : ℕ) (w : Whose) → IsOf opening actions chains n event w → StepsClimb (λ row. place_level (n.seat row).place) (steps_at n w)
    climbs_w event (Aside cell) f = tt
    climbs_w event (OfSession cell slot x connect quit) f =
        climb_way (λ row. place_level (n.seat row).place) (n.row cell (Thread slot)) (map_row (rows_of n cell).account x.account) (map_row (rows_of n cell).user x.user) (map_row (rows_of n cell).host x.host) (n.row cell Global)
        (level_of cell (Thread slot) f.0 (slot_low n base.good opening base.sound base.small (numbered actions) kind cell slot x connect quit f.0 f.1 f.3))
        (level_has cell 1 (λ y. Account y) x.account (λ y q. level_of cell (Account y) f.0 (account_low n base.good opening base.sound base.small (numbered actions) kind cell slot x connect quit f.0 f.1 f.3 y q)))
        (level_has cell 2 (λ y. User y) x.user (λ y q. level_of cell (User y) f.0 (user_low n base.good opening base.sound base.small (numbered actions) kind cell slot x connect quit f.0 f.1 f.3 y q)))
        (level_has cell 2 (λ y. Host y) x.host (λ y q. level_of cell (Host y) f.0 (host_low n base.good opening base.sound base.small (numbered actions) kind cell slot x connect quit f.0 f.1 f.3 y q)))
        (level_of cell Global f.0 tt)

    begun_w : (event : ℕ) (w : Whose) → IsOf opening actions chains n event w → suc (connect_of w) ≤ suc (length actions)
    begun_w event (OfSession cell slot x connect quit) f = let l : connect ≤ length actions = f.2 in omega arith
    begun_w event (Aside cell) f = omega arith

    module _ (kept : ℕ → ℕ → Bool) (moved : AreMoved chains kept (moves_to (holder_of n opening (numbered actions)) (takes_by n opening (numbered actions) kind) rows (length actions))) where
      ascends : (row : ℕ) → Ascends 0 (chains row)
      ascends row = follows_ascends (λ r. place_level (n.seat r).place) kept row (moves_to holder takes rows (length actions)) (chains row) order_all (moved.is row)

      removed_taken : (event home least : ℕ) → removal event (chains home) ≡ Some least → takes least home ≡ true
      removed_taken event home least q = keeps_all.listed least home least (sym (moving_from kept chains (moves_to holder takes rows (length actions)) moved least home) ∙ removal_first (counts_event event) 0 (chains home) least (ascends home) q)

      removed_within : (event home least : ℕ) → removal event (chains home) ≡ Some least → (1 ≤ least) × (least ≤ length actions)
      removed_within event home least q = takes_within n opening actions kind least home (removed_taken event home least q)

      pub tenants : HasTenants (journals_of n opening actions kind rows events chains found whose) (holder_of n opening (numbered actions)) (takes_by n opening (numbered actions) kind) (λ event. own_by n (whose event)) (λ event. connect_of (whose event)) (λ event. quit_of (whose event))
      tenants = record {
        keeps = keeps_all;
        counted = are.counted;
        leads = λ event is. leads_w event (whose event) (are.is_of event is);
        climb = λ event is. climbs_w event (whose event) (are.is_of event is);
        tenant = λ event is. tenant_at event (whose event) (are.is_of event is) (λ number q. (removed_within event (home_at n (whose event)) number q).0);
      }

      module _ (key : Key) (cells : List ℕ) (lows : AreLow n cells) (once : (c : ℕ) → count_by (λ x. x == c) cells ≤ 1) (slots : (event : ℕ) → 1 ≤ count_by (λ e. event == e) events → HasSlot key (whose event)) where
        mine_home_w : (event : ℕ) (w : Whose) → IsOf opening actions chains n event w → cond (belongs_to n key cells (home_at n w) (own_by n w (home_at n w))) 1 0 ≡ cond (leads_at key cells w) (count_by (λ r. r == home_at n w) (home_at n w ∷ path_at n key w)) 0
        mine_home_w event (OfSession cell slot x connect quit) f = mine_home n base.good opening base.sound base.small (numbered actions) kind cell slot x connect quit f.0 f.1 f.3 key cells
        mine_home_w event (Aside cell) f =
            ap (λ (z : Seat). cond {A = ℕ} (is_of cells z.cell && (shows_at key z.place && matches key global_owner)) 1 0) (base.good.seats cell Global f tt)
            ∙ (by key (is_of cells cell) ∙ ap (λ z. cond (is_of cells cell && is_all key) z 0) (sym one))
          where
            g : ℕ
            g = n.row cell Global

            one : count_by (λ r. r == n.row cell Global) (n.row cell Global ∷ []) ≡ 1
            one = omega (arith, count_cons (λ r. r == n.row cell Global) (n.row cell Global) [], bit_yes (n.row cell Global == n.row cell Global) (eq_self (n.row cell Global)))

            no_and : (b : Bool) → cond {A = ℕ} (b && false) 1 0 ≡ cond {A = ℕ} (b && false) 1 0
            no_and b = refl

            by : (key : Key) (b : Bool) → cond {A = ℕ} (b && ((shown_by key).global && matches key global_owner)) 1 0 ≡ cond {A = ℕ} (b && is_all key) 1 0
            by (KeyThread number slot) b = refl
            by (KeyAccount user host) b = refl
            by (KeyUser user) b = refl
            by (KeyHost host) b = refl
            by KeyAll b = refl

        mine_w : (event : ℕ) (w : Whose) → IsOf opening actions chains n event w → (row from : ℕ) → before_by (steps_at n w) row ≡ Some from → cond (belongs_to n key cells row (own_by n w row)) 1 0 ≡ cond (leads_at key cells w) (count_by (λ r. r == row) (home_at n w ∷ path_at n key w)) 0
        mine_w event (OfSession cell slot x connect quit) f row from come = mine_way n base.good opening base.sound base.small (numbered actions) kind cell slot x connect quit f.0 f.1 f.3 key cells row from come
        mine_w event (Aside cell) f row from come = clash from come

        follows_w : (event : ℕ) (w : Whose) → IsOf opening actions chains n event w → Follows (before_by (steps_at n w)) (home_at n w) (home_at n w) (path_at n key w)
        follows_w event (OfSession cell slot x connect quit) f = follows_path n base.good opening base.sound base.small (numbered actions) kind cell slot x connect quit f.0 f.1 f.3 key cells
        follows_w event (Aside cell) f = tt

        covers_w : (event : ℕ) (w : Whose) → IsOf opening actions chains n event w → HasSlot key w → leads_at key cells w ≡ true → (t : ℕ)
            → covers_at kind key (state_before opening (numbered actions) t) (numbered actions t) ≡ takes t (last_of (home_at n w) (path_at n key w))
        covers_w event (OfSession cell slot x connect quit) f has lead t = covers_last n base.good opening base.sound base.small (numbered actions) kind cell slot x connect quit f.0 f.1 f.3 key cells lead has (state_before opening (numbered actions) t) (numbered actions t)
        covers_w event (Aside cell) f has lead t = by key lead ∙ ap (λ (z : Seat). line_takes (line_of kind (state_before opening (numbered actions) t) (numbered actions t)) z.place) (sym (base.good.seats cell Global f tt))
          where
            s : State
            s = state_before opening (numbered actions) t

            no_and : {X : Type 0} (b : Bool) → (b && false) ≡ true → X
            no_and true h = differ (sym h)
            no_and false h = differ (sym h)

            by : (key : Key) → (is_of cells cell && is_all key) ≡ true → covers_at kind key (state_before opening (numbered actions) t) (numbered actions t) ≡ line_takes (line_of kind (state_before opening (numbered actions) t) (numbered actions t)) Global
            by (KeyThread number slot) h = no_and (is_of cells cell) h
            by (KeyAccount user host) h = no_and (is_of cells cell) h
            by (KeyUser user) h = no_and (is_of cells cell) h
            by (KeyHost host) h = no_and (is_of cells cell) h
            by KeyAll h = all_covers kind (state_before opening (numbered actions) t) (numbered actions t)

        covers_iff : (test : ℕ → Bool) (row : ℕ) → ((t : ℕ) → test t ≡ takes t row) → (t : ℕ) → (1 ≤ count_by (λ c. c == t) (those_to test (length actions)) → takes t row ≡ true) × (takes t row ≡ true → 1 ≤ count_by (λ c. c == t) (those_to test (length actions)))
        covers_iff test row same_test t = (
          (λ h. sym (same_test t) ∙ (those_in test (length actions) t h).0),
          (λ h. (let w : (1 ≤ t) × (t ≤ length actions) = takes_within n opening actions kind t row h in those_has test (length actions) t (same_test t ∙ h) w.0 w.1)),
        )

        pub table : IsTable (journals_of n opening actions kind rows events chains found whose) (holder_of n opening (numbered actions)) (takes_by n opening (numbered actions) kind) (λ event. own_by n (whose event)) (λ event. connect_of (whose event)) (suc (length actions))
            (belongs_to n key cells) (shown_in n key cells (state_after opening (numbered actions) (length actions))) (covers_to kind key opening (numbered actions) (length actions)) (λ event. path_at n key (whose event)) (λ event. leads_at key cells (whose event))
        table = record {
          shows = λ row owner h. shown_once n base.good key (state_after opening (numbered actions) (length actions)) (small_after opening base.small (numbered actions) (length actions)) cells lows once row owner h;
          mine_home = λ event is. mine_home_w event (whose event) (are.is_of event is);
          mine = λ event is row from come. mine_w event (whose event) (are.is_of event is) row from come;
          follows = λ event is. follows_w event (whose event) (are.is_of event is);
          covers_are = λ event is lead t. covers_iff (λ k. covers_at kind key (state_before opening (numbered actions) k) (numbered actions k)) (last_of (home_at n (whose event)) (path_at n key (whose event))) (λ k. covers_w event (whose event) (are.is_of event is) (slots event is) lead k) t;
          ended = λ event is least q. (let w : (1 ≤ least) × (least ≤ length actions) = removed_within event (home_at n (whose event)) least q in let l : least ≤ length actions = w.1 in omega arith);
          begun = λ event is. begun_w event (whose event) (are.is_of event is);
        }

    -- each of the five summaries of a kind is conserved
    pub five : (s : Sums A) (m : Merges s) (size : A → ℕ) (z : Sized s size) → Stores s size (journals_of n opening actions kind rows events chains found whose)
        → (key : Key) (cells : List ℕ) → AreLow n cells → ((c : ℕ) → count_by (λ x. x == c) cells ≤ 1) → ((event : ℕ) → 1 ≤ count_by (λ e. event == e) events → HasSlot key (whose event))
        → IsConserved s (journals_of n opening actions kind rows events chains found whose) (shown_in n key cells (state_after opening (numbered actions) (length actions))) (covers_to kind key opening (numbered actions) (length actions)) (λ event. leads_at key cells (whose event))
    five s m size z st key cells lows once slots =
        whole s m size z (journals_of n opening actions kind rows events chains found whose) st holder takes (λ event. own_by n (whose event)) (λ event. connect_of (whose event)) (λ event. quit_of (whose event)) order_all
        (tenants (λ action row. nat_lt 0 (size (found action row))) st.moved) (suc (length actions)) (belongs_to n key cells) (shown_in n key cells (state_after opening (numbered actions) (length actions)))
        (covers_to kind key opening (numbered actions) (length actions)) (λ event. path_at n key (whose event)) (λ event. leads_at key cells (whose event))
        (table (λ action row. nat_lt 0 (size (found action row))) st.moved key cells lows once slots)

    -- and what the takes of the global cell found besides is every event of the cell
    ends_global : (cell : ℕ) (w : Whose) → home_cell w ≡ cell → last_of (home_at n w) (path_at n KeyAll w) ≡ n.row cell Global
    ends_global cell (OfSession c slot x connect quit) q = ap (λ k. last_of (n.row k (Thread slot)) (path_at n KeyAll (OfSession k slot x connect quit))) q ∙ all (map_row (rows_of n cell).account x.account) (map_row (rows_of n cell).host x.host)
      where
        all : (account host : Option ℕ) → last_of (n.row cell (Thread slot)) (path_in (shown_by KeyAll) account (map_row (rows_of n cell).user x.user) host (n.row cell Global)) ≡ n.row cell Global
        all None None = refl
        all None (Some h) = refl
        all (Some a) None = refl
        all (Some a) (Some h) = refl
    ends_global cell (Aside c) q = ap (λ k. n.row k Global) q

    is_one : (cell c : ℕ) → is_of (cell ∷ []) c ≡ (c == cell)
    is_one cell c = at (cell == c) refl
      where
        turned : (a b : ℕ) → (b == a) ≡ (a == b)
        turned a b = grind arith

        at : (b : Bool) → (cell == c) ≡ b → nat_lt 0 (0 + cond {A = ℕ} (cell == c) 1 0) ≡ (c == cell)
        at true q = ap (λ b. nat_lt 0 (0 + cond {A = ℕ} b 1 0)) q ∙ sym (turned cell c ∙ q)
        at false q = ap (λ b. nat_lt 0 (0 + cond {A = ℕ} b 1 0)) q ∙ sym (turned cell c ∙ q)

    leads_one : (cell : ℕ) (w : Whose) → leads_at KeyAll (cell ∷ []) w ≡ (home_cell w == cell)
    leads_one cell (OfSession c slot x connect quit) = and_true (is_of (cell ∷ []) c) ∙ is_one cell c
      where
        and_true : (b : Bool) → (b && true) ≡ b
        and_true true = refl
        and_true false = refl
    leads_one cell (Aside c) = and_true (is_of (cell ∷ []) c) ∙ is_one cell c
      where
        and_true : (b : Bool) → (b && true) ≡ b
        and_true true = refl
        and_true false = refl

    one_cell : (cell c : ℕ) → count_by (λ x. x == c) (cell ∷ []) ≤ 1
    one_cell cell c = at (cell == c) (count_cons (λ x. x == c) cell [])
      where
        at : (b : Bool) → count_by (λ x. x == c) (cell ∷ []) ≡ cond {A = ℕ} b 1 0 + 0 → count_by (λ x. x == c) (cell ∷ []) ≤ 1
        at true q = omega arith
        at false q = omega arith

    all_slots : (w : Whose) → HasSlot KeyAll w
    all_slots (OfSession c slot x connect quit) = λ number at q l. absurd (cc)
    all_slots (Aside c) = tt

    -- whoever holds a global row, it belongs to the global key
    belongs_here : (cell : ℕ) → n.is_cell cell ≡ true → (o : Owner) → belongs_to n KeyAll (cell ∷ []) (n.row cell Global) o ≡ true
    belongs_here cell low o =
        ap (λ (z : Seat). is_of (cell ∷ []) z.cell && (shows_at KeyAll z.place && matches KeyAll o)) (base.good.seats cell Global low tt)
        ∙ ap (λ b. b && true) (is_one cell cell ∙ eq_self cell)

    -- the way of an event of another cell never comes to this global row
    never_comes : (cell : ℕ) → n.is_cell cell ≡ true → IsTable (journals_of n opening actions kind rows events chains found whose) (holder_of n opening (numbered actions)) (takes_by n opening (numbered actions) kind) (λ event. own_by n (whose event)) (λ event. connect_of (whose event)) (suc (length actions)) (belongs_to n KeyAll (cell ∷ [])) (shown_in n KeyAll (cell ∷ []) (state_after opening (numbered actions) (length actions))) (covers_to kind KeyAll opening (numbered actions) (length actions)) (λ event. path_at n KeyAll (whose event)) (λ event. leads_at KeyAll (cell ∷ []) (whose event))
        → (event : ℕ) → 1 ≤ count_by (λ e. event == e) events → leads_at KeyAll (cell ∷ []) (whose event) ≡ false
        → leave_by chains event (home_at n (whose event)) (steps_at n (whose event)) (n.row cell Global) ≡ None
    never_comes cell low t event is other = leave_none chains event (home_at n (whose event)) (steps_at n (whose event)) (n.row cell Global) (away (n.row cell Global == home_at n (whose event)) refl) (unstepped (before_by (steps_at n (whose event)) (n.row cell Global)) refl)
      where
        none : (k : ℕ) → cond (leads_at KeyAll (cell ∷ []) (whose event)) k 0 ≡ 0
        none k = ap (λ (b : Bool). cond b k 0) other

        away : (b : Bool) → (n.row cell Global == home_at n (whose event)) ≡ b → (n.row cell Global == home_at n (whose event)) ≡ false
        away false q = q
        away true q = absurd
            (let mine : belongs_to n KeyAll (cell ∷ []) (home_at n (whose event)) (own_by n (whose event) (home_at n (whose event))) ≡ true =
            subst (λ r. belongs_to n KeyAll (cell ∷ []) r (own_by n (whose event) (home_at n (whose event))) ≡ true) (eqb-true (n.row cell Global) (home_at n (whose event)) q) (belongs_here cell low (own_by n (whose event) (home_at n (whose event)))) in
            omega (arith, bit_yes (belongs_to n KeyAll (cell ∷ []) (home_at n (whose event)) (own_by n (whose event) (home_at n (whose event)))) mine, t.mine_home event is, none (count_by (λ r. r == home_at n (whose event)) (home_at n (whose event) ∷ path_at n KeyAll (whose event)))))

        unstepped : (o : Option ℕ) → before_by (steps_at n (whose event)) (n.row cell Global) ≡ o → before_by (steps_at n (whose event)) (n.row cell Global) ≡ None
        unstepped None q = q
        unstepped (Some from) q = absurd
            (omega (arith, bit_yes (belongs_to n KeyAll (cell ∷ []) (n.row cell Global) (own_by n (whose event) (n.row cell Global))) (belongs_here cell low (own_by n (whose event) (n.row cell Global))), t.mine event is (n.row cell Global) from q, none (count_by (λ r. r == n.row cell Global) (home_at n (whose event) ∷ path_at n KeyAll (whose event)))))

    pub all_discarded : (s : Sums A) (m : Merges s) (size : A → ℕ) (z : Sized s size) → Stores s size (journals_of n opening actions kind rows events chains found whose)
        → (cell : ℕ) → n.is_cell cell ≡ true
        → IsShownOrTaken s (journals_of n opening actions kind rows events chains found whose) (shown_in n KeyAll (cell ∷ []) (state_after opening (numbered actions) (length actions))) (n.row cell Global) (λ event. home_cell (whose event) == cell)
    all_discarded s m size z st cell low =
        let has : HasTenants (journals_of n opening actions kind rows events chains found whose) (holder_of n opening (numbered actions)) (takes_by n opening (numbered actions) kind) (λ event. own_by n (whose event)) (λ event. connect_of (whose event)) (λ event. quit_of (whose event)) = tenants (λ action row. nat_lt 0 (size (found action row))) st.moved in
        let up : (row : ℕ) → Ascends 0 (chains row) = ascends (λ action row. nat_lt 0 (size (found action row))) st.moved in
        let t : IsTable (journals_of n opening actions kind rows events chains found whose) (holder_of n opening (numbered actions)) (takes_by n opening (numbered actions) kind) (λ event. own_by n (whose event)) (λ event. connect_of (whose event)) (suc (length actions)) (belongs_to n KeyAll (cell ∷ [])) (shown_in n KeyAll (cell ∷ []) (state_after opening (numbered actions) (length actions))) (covers_to kind KeyAll opening (numbered actions) (length actions)) (λ event. path_at n KeyAll (whose event)) (λ event. leads_at KeyAll (cell ∷ []) (whose event)) =
        table (λ action row. nat_lt 0 (size (found action row))) st.moved KeyAll (cell ∷ []) (low, tt) (one_cell cell) (λ event is. all_slots (whose event)) in
        shown_or_taken s m size z (journals_of n opening actions kind rows events chains found whose)
        (record { few = st.few; flat = st.flat; order = order_all; moved = st.moved; finds = st.finds; once = st.once; placed = tenants_placed (journals_of n opening actions kind rows events chains found whose) (λ action row. nat_lt 0 (size (found action row))) st.moved up (holder_of n opening (numbered actions)) (takes_by n opening (numbered actions) kind) (λ event. own_by n (whose event)) (λ event. connect_of (whose event)) (λ event. quit_of (whose event)) has })
        (shown_in n KeyAll (cell ∷ []) (state_after opening (numbered actions) (length actions))) (covers_to kind KeyAll opening (numbered actions) (length actions)) (λ event. path_at n KeyAll (whose event)) (λ event. home_cell (whose event) == cell) (n.row cell Global)
        (record {
          shows = λ event is. subst (λ b. Shows chains (moves_to (holder_of n opening (numbered actions)) (takes_by n opening (numbered actions) kind) rows (length actions)) event (home_at n (whose event)) (steps_at n (whose event)) (shown_in n KeyAll (cell ∷ []) (state_after opening (numbered actions) (length actions))) (covers_to kind KeyAll opening (numbered actions) (length actions)) (path_at n KeyAll (whose event)) b)
              (leads_one cell (whose event))
              ((table_is (journals_of n opening actions kind rows events chains found whose) (λ action row. nat_lt 0 (size (found action row))) st.moved up (holder_of n opening (numbered actions)) (takes_by n opening (numbered actions) kind) (λ event. own_by n (whose event)) (λ event. connect_of (whose event)) (λ event. quit_of (whose event)) has (suc (length actions)) (belongs_to n KeyAll (cell ∷ []))
              (shown_in n KeyAll (cell ∷ []) (state_after opening (numbered actions) (length actions))) (covers_to kind KeyAll opening (numbered actions) (length actions)) (λ event. path_at n KeyAll (whose event)) (λ event. leads_at KeyAll (cell ∷ []) (whose event)) t).shows event is);
        })
        (λ event is q. ends_global cell (whose event) (eqb-true (home_cell (whose event)) cell q))
        (λ event is q. never_comes cell low t event is (leads_one cell (whose event) ∙ q))
