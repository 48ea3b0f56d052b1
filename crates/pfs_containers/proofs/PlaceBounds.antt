-- What always holds of the places and of the counters, behind each call.
use Rattle.std.proofs.Common.{ℕ, zero, suc, ◌≡◌, ◌<◌, ◌≤◌, ◌+◌, ◌==◌, Bool, true, false, cond, List, [], ◌∷◌, length, replicate, slice_set, slice_index_or, Option, Some, None, IfSome, refl, sym, ap, subst, ◌∙◌, arith}
use Rattle.pfs_rows.specs.declared.limits.Limits.{Limits}
use Rattle.pfs_containers.specs.declared.containers.Account.{Account}
use Rattle.pfs_containers.specs.declared.containers.Connection.{Connection}
use Rattle.pfs_containers.specs.Connections.{State, Connects, Quits, entry_of, fill, fill_at, emptied_at, stepped}
use Rattle.pfs_containers.specs.Administration.{Found, found_where, one_up, next_place, lowest_free, found_or, named_place, is_account, session_by, session_of, quit_line, lost_by, missing, added_from, connected}
use Rattle.pfs_containers.specs.ContainerState.{Kept, AllEntries, HasPlaces, HasUppers, IsSeated, IsInRange, AreWell, AreCounted, opening, opening_places, with_quit, as_found}
use Rattle.pfs_containers.proofs.FilledPlaces.{emptied_is, up_to_wider, up_to_added, zeroes_are}
use Rattle.pfs_containers.proofs.SlotOwners.{within_seat, within_empty, within_free}

-- places that are found are there
some_up : (n : ℕ) (place : Option ℕ) → IfSome place (λ p. p < n) → IfSome (next_place place) (λ p. p < suc n)
some_up n None h = tt
some_up n (Some p) h = omega (arith, h)

pub free_inside : {X : Type 0} (xs : List (Option X)) → IfSome (lowest_free xs) (λ p. p < length xs)
free_inside [] = tt
free_inside (None ∷ xs) = omega arith
free_inside (Some x ∷ xs) = some_up (length xs) (lowest_free xs) (free_inside xs)

abbrev pub IfFound : {X : Type 0} → Option (Found X) → (Found X → Type 0) → Type 0
IfFound None P = Unit {0}
IfFound (Some found) P = P found

-- an entry that is found is one of the list
abbrev pub IsThere : {X : Type 0} → (X → Type 0) → ℕ → Found X → Type 0
IsThere P n found = (found.place < n) × P found.entry

found_up : {X : Type 0} (P : X → Type 0) (n : ℕ) (found : Option (Found X)) → IfFound found (IsThere P n) → IfFound (one_up found) (IsThere P (suc n))
found_up P n None h = tt
found_up P n (Some found) h = (omega (arith, h.0), h.1)

found_first : {X : Type 0} (P : X → Type 0) (n : ℕ) (b : Bool) (x : X) (found : Option (Found X)) → P x → IfFound found (IsThere P n)
    → IfFound (cond b (Some (record { place = 0; entry = x })) (one_up found)) (IsThere P (suc n))
found_first P n true x found p h = (omega arith, p)
found_first P n false x found p h = found_up P n found h

pub found_inside : {X : Type 0} (P : X → Type 0) (test : X → Bool) (xs : List (Option X)) → AllEntries P xs
    → IfFound (found_where test xs) (IsThere P (length xs))
found_inside P test [] all = tt
found_inside P test (None ∷ xs) all = found_up P (length xs) (found_where test xs) (found_inside P test xs all)
found_inside P test (Some x ∷ xs) all =
    found_first P (length xs) (test x) x (found_where test xs) all.0 (found_inside P test xs all.1)

any_entries : {X : Type 0} (xs : List (Option X)) → AllEntries (λ x. Unit {0}) xs
any_entries [] = tt
any_entries (None ∷ xs) = any_entries xs
any_entries (Some x ∷ xs) = (tt, any_entries xs)

or_inside : {X : Type 0} (n : ℕ) (found : Option (Found X)) (free : Option ℕ) → IfFound found (IsThere (λ x. Unit {0}) n) → IfSome free (λ p. p < n)
    → IfSome (found_or found free) (λ p. p < n)
or_inside n None free h f = f
or_inside n (Some found) free h f = h.0

pub named_inside : (name : ℕ) (xs : List (Option ℕ)) → IfSome (named_place name xs) (λ p. p < length xs)
named_inside name xs =
    or_inside (length xs) (found_where (λ x. x == name) xs) (lowest_free xs) (found_inside (λ x. Unit {0}) (λ x. x == name) xs (any_entries xs)) (free_inside xs)

-- a session's places are there
session_inside : (s : State) (number user host : ℕ) (found : Option (Found Account))
    → IfFound found (IsThere (HasUppers (length s.users) (length s.hosts)) (length s.accounts)) → IsSeated s (session_by s number user host found)
session_inside s number user host None h =
    record { account = free_inside s.accounts; user = named_inside user s.users; host = named_inside host s.hosts }
session_inside s number user host (Some found) h = record { account = h.0; user = h.1.user; host = h.1.host }

pub session_there : (s : State) → AllEntries (HasUppers (length s.users) (length s.hosts)) s.accounts → (number user host : ℕ) → IsSeated s (session_of s number user host)
session_there s all number user host =
    session_inside s number user host _ (found_inside (HasUppers (length s.users) (length s.hosts)) (is_account user host) s.accounts all)

pub session_has : (s : State) → AreWell s → (number user host : ℕ) → IsSeated s (session_of s number user host)
session_has s well number user host = session_there s well.accounts number user host

-- filling and emptying keep how many places there are, and what holds of each entry
pub len_fill_at : {X : Type 0} (n : ℕ) (new : X) (xs : List (Option X)) → length (fill_at n new xs) ≡ length xs
len_fill_at n new [] = refl
len_fill_at zero new (x ∷ xs) = refl
len_fill_at (suc n) new (x ∷ xs) = ap suc (len_fill_at n new xs)

pub len_fill : {X : Type 0} (place : Option ℕ) (new : X) (xs : List (Option X)) → length (fill place new xs) ≡ length xs
len_fill None new xs = refl
len_fill (Some n) new xs = len_fill_at n new xs

len_emptied : {X : Type 0} (n : ℕ) (xs : List (Option X)) → length (emptied_at n xs) ≡ length xs
len_emptied n [] = refl
len_emptied zero (x ∷ xs) = refl
len_emptied (suc n) (x ∷ xs) = ap suc (len_emptied n xs)

pub len_added : (n : ℕ) (place : Option ℕ) (xs : List ℕ) → length (added_from n place xs) ≡ length xs
len_added n place [] = refl
len_added n place (x ∷ xs) = ap suc (len_added (suc n) place xs)

filled_all : {X : Type 0} (P : X → Type 0) (n : ℕ) (new : X) (xs : List (Option X)) → P new → AllEntries P xs → AllEntries P (fill_at n new xs)
filled_all P n new [] p all = tt
filled_all P zero new (None ∷ xs) p all = (p, all)
filled_all P zero new (Some x ∷ xs) p all = all
filled_all P (suc n) new (None ∷ xs) p all = filled_all P n new xs p all
filled_all P (suc n) new (Some x ∷ xs) p all = (all.0, filled_all P n new xs p all.1)

pub fill_all : {X : Type 0} (P : X → Type 0) (place : Option ℕ) (new : X) (xs : List (Option X)) → P new → AllEntries P xs → AllEntries P (fill place new xs)
fill_all P None new xs p all = all
fill_all P (Some n) new xs p all = filled_all P n new xs p all

emptied_all : {X : Type 0} (P : X → Type 0) (n : ℕ) (xs : List (Option X)) → AllEntries P xs → AllEntries P (emptied_at n xs)
emptied_all P n [] all = tt
emptied_all P zero (None ∷ xs) all = all
emptied_all P zero (Some x ∷ xs) all = all.1
emptied_all P (suc n) (None ∷ xs) all = emptied_all P n xs all
emptied_all P (suc n) (Some x ∷ xs) all = (all.0, emptied_all P n xs all.1)

-- the same with the numbers of places as they are afterwards
pub seats_moved : (a u h b v g : ℕ) (xs : List (Option Connection)) → b ≡ a → v ≡ u → g ≡ h → AllEntries (HasPlaces a u h) xs → AllEntries (HasPlaces b v g) xs
seats_moved a u h b v g xs p q r all =
    subst (λ z. AllEntries (HasPlaces z v g) xs) (sym p) (subst (λ z. AllEntries (HasPlaces a z g) xs) (sym q) (subst (λ z. AllEntries (HasPlaces a u z) xs) (sym r) all))

pub uppers_moved : (u h v g : ℕ) (xs : List (Option Account)) → v ≡ u → g ≡ h → AllEntries (HasUppers u h) xs → AllEntries (HasUppers v g) xs
uppers_moved u h v g xs q r all = subst (λ z. AllEntries (HasUppers z g) xs) (sym q) (subst (λ z. AllEntries (HasUppers u z) xs) (sym r) all)

pub seat_keeps : (s : State) (slot : ℕ) (x : Connection) → AreWell s → IsSeated s x → AreWell (stepped s (Connects slot x))
seat_keeps s slot x well has = record {
  threads_few = omega (arith, len_fill_at slot x s.threads, well.threads_few);
  accounts_few = omega (arith, len_fill x.account (entry_of x) s.accounts, well.accounts_few);
  users_few = omega (arith, len_fill x.user x.user_name s.users, well.users_few);
  hosts_few = omega (arith, len_fill x.host x.host_name s.hosts, well.hosts_few);
  connections = seats_moved _ _ _ _ _ _ (fill_at slot x s.threads) (len_fill x.account (entry_of x) s.accounts) (len_fill x.user x.user_name s.users) (len_fill x.host x.host_name s.hosts)
      (filled_all (IsSeated s) slot x s.threads has well.connections);
  accounts = uppers_moved _ _ _ _ (fill x.account (entry_of x) s.accounts) (len_fill x.user x.user_name s.users) (len_fill x.host x.host_name s.hosts)
      (fill_all (HasUppers (length s.users) (length s.hosts)) x.account (entry_of x) s.accounts (record { user = has.user; host = has.host }) well.accounts);
}

pub seat_keeps_all : (s : State) (slot : ℕ) (x : Connection) (t : List (Option Connection)) (a : List (Option Account)) (u h : List (Option ℕ))
    → t ≡ fill_at slot x s.threads → a ≡ fill x.account (entry_of x) s.accounts → u ≡ fill x.user x.user_name s.users → h ≡ fill x.host x.host_name s.hosts
    → AreWell s → IsSeated s x → AreWell (record { threads = t; accounts = a; users = u; hosts = h })
seat_keeps_all s slot x t a u h p q r w well has =
    let same : record { threads = t; accounts = a; users = u; hosts = h } ≡ stepped s (Connects slot x) =
    ap (λ z. record { threads = z; accounts = a; users = u; hosts = h }) p
    ∙ (ap (λ z. record { threads = fill_at slot x s.threads; accounts = z; users = u; hosts = h }) q
    ∙ (ap (λ z. record { threads = fill_at slot x s.threads; accounts = fill x.account (entry_of x) s.accounts; users = z; hosts = h }) r
    ∙ ap (λ z. record { threads = fill_at slot x s.threads; accounts = fill x.account (entry_of x) s.accounts; users = fill x.user x.user_name s.users; hosts = z }) w)) in
    subst AreWell (sym same) (seat_keeps s slot x well has)

pub quit_keeps : (s : State) (slot : ℕ) → AreWell s → AreWell (stepped s (Quits slot))
quit_keeps s slot well = record {
  threads_few = omega (arith, len_emptied slot s.threads, well.threads_few);
  accounts_few = well.accounts_few;
  users_few = well.users_few;
  hosts_few = well.hosts_few;
  connections = emptied_all (IsSeated s) slot s.threads well.connections;
  accounts = well.accounts;
}

pub len_free : (X : Type 0) (n : ℕ) → (let none : Option X = None in length (replicate n none)) ≡ n
len_free X zero = refl
len_free X (suc n) = ap suc (len_free X n)

pub all_of_free : {X : Type 0} (P : X → Type 0) (n : ℕ) → AllEntries P (replicate n None)
all_of_free P zero = tt
all_of_free P (suc n) = all_of_free P n

pub len_zeroes : (n : ℕ) → length {A = ℕ} (replicate n 0) ≡ n
len_zeroes zero = refl
len_zeroes (suc n) = ap suc (len_zeroes n)

pub opens_well : (l : Limits) → l.thread_instances ≤ 32 → l.accounts ≤ 32 → l.users ≤ 32 → l.hosts ≤ 32 → AreWell (opening_places l)
opens_well l t a u h = record {
  threads_few = omega (arith, len_free Connection l.thread_instances, t);
  accounts_few = omega (arith, len_free Account l.accounts, a);
  users_few = omega (arith, len_free ℕ l.users, u);
  hosts_few = omega (arith, len_free ℕ l.hosts, h);
  connections = all_of_free _ l.thread_instances;
  accounts = all_of_free _ l.accounts;
}

pub opens_counted : (l : Limits) → AreCounted (opening l)
opens_counted l = record {
  account_numbers = len_zeroes l.accounts ∙ sym (len_free Account l.accounts);
  user_numbers = len_zeroes l.users ∙ sym (len_free ℕ l.users);
  host_numbers = len_zeroes l.hosts ∙ sym (len_free ℕ l.hosts);
  lost_threads = omega arith;
  lost_accounts = omega arith;
  lost_users = omega arith;
  lost_hosts = omega arith;
  account_totals = zeroes_are 0 l.accounts;
  user_totals = zeroes_are 0 l.users;
  host_totals = zeroes_are 0 l.hosts;
  accounts_within = within_free (λ x. x.account) l.thread_instances (replicate l.accounts 0);
  users_within = within_free (λ x. x.user) l.thread_instances (replicate l.users 0);
  hosts_within = within_free (λ x. x.host) l.thread_instances (replicate l.hosts 0);
}

missing_one : (place : Option ℕ) → missing place ≤ 1
missing_one None = omega arith
missing_one (Some place) = omega arith

lost_one : (account : Option (Found Account)) (place : Option ℕ) → lost_by account place ≤ 1
lost_one None place = missing_one place
lost_one (Some account) place = omega arith

-- one connect more, at the lowest free slot
pub seat_counts : (k : Kept) (slot : ℕ) (x : Connection) (account : Option (Found Account)) → lowest_free k.now.places.threads ≡ Some slot
    → HasPlaces (length k.now.account_totals) (length k.now.user_totals) (length k.now.host_totals) x → AreCounted k
    → AreCounted (record { now = connected k.now slot x account; connects = k.connects + 1 })
seat_counts k slot x account free has are = record {
  account_numbers = len_added 0 x.account k.now.account_totals ∙ (are.account_numbers ∙ sym (len_fill x.account (entry_of x) k.now.places.accounts));
  user_numbers = len_added 0 x.user k.now.user_totals ∙ (are.user_numbers ∙ sym (len_fill x.user x.user_name k.now.places.users));
  host_numbers = len_added 0 x.host k.now.host_totals ∙ (are.host_numbers ∙ sym (len_fill x.host x.host_name k.now.places.hosts));
  lost_threads = omega (arith, are.lost_threads);
  lost_accounts = omega (arith, are.lost_accounts, lost_one account x.account);
  lost_users = omega (arith, are.lost_users, lost_one account x.user);
  lost_hosts = omega (arith, are.lost_hosts, lost_one account x.host);
  account_totals = up_to_added k.connects 0 x.account k.now.account_totals are.account_totals;
  user_totals = up_to_added k.connects 0 x.user k.now.user_totals are.user_totals;
  host_totals = up_to_added k.connects 0 x.host k.now.host_totals are.host_totals;
  accounts_within = within_seat (λ y. y.account) slot x k.now.places.threads k.now.account_totals free has.account are.accounts_within;
  users_within = within_seat (λ y. y.user) slot x k.now.places.threads k.now.user_totals free has.user are.users_within;
  hosts_within = within_seat (λ y. y.host) slot x k.now.places.threads k.now.host_totals free has.host are.hosts_within;
}

pub lost_counts : (k : Kept) → AreCounted k → AreCounted (record { now = record k.now { lost_threads = k.now.lost_threads + 1 }; connects = k.connects + 1 })
lost_counts k are = record {
  account_numbers = are.account_numbers;
  user_numbers = are.user_numbers;
  host_numbers = are.host_numbers;
  lost_threads = omega (arith, are.lost_threads);
  lost_accounts = omega (arith, are.lost_accounts);
  lost_users = omega (arith, are.lost_users);
  lost_hosts = omega (arith, are.lost_hosts);
  account_totals = up_to_wider _ _ _ (omega arith) are.account_totals;
  user_totals = up_to_wider _ _ _ (omega arith) are.user_totals;
  host_totals = up_to_wider _ _ _ (omega arith) are.host_totals;
  accounts_within = are.accounts_within;
  users_within = are.users_within;
  hosts_within = are.hosts_within;
}

-- a quit
abbrev left_with : Kept → Option (Found Connection) → Kept
left_with k found = record k { now = record k.now { places = stepped k.now.places (quit_line found) } }

quit_found : (k : Kept) (found : Option (Found Connection)) → AreCounted k → AreCounted (left_with k found)
quit_found k None are = are
quit_found k (Some found) are = record {
  account_numbers = are.account_numbers;
  user_numbers = are.user_numbers;
  host_numbers = are.host_numbers;
  lost_threads = are.lost_threads;
  lost_accounts = are.lost_accounts;
  lost_users = are.lost_users;
  lost_hosts = are.lost_hosts;
  account_totals = are.account_totals;
  user_totals = are.user_totals;
  host_totals = are.host_totals;
  accounts_within = within_empty (λ x. x.account) found.place k.now.places.threads k.now.account_totals are.accounts_within;
  users_within = within_empty (λ x. x.user) found.place k.now.places.threads k.now.user_totals are.users_within;
  hosts_within = within_empty (λ x. x.host) found.place k.now.places.threads k.now.host_totals are.hosts_within;
}

pub quit_counts : (k : Kept) (number : ℕ) → AreCounted k → AreCounted (with_quit k number)
quit_counts k number are = quit_found k (found_where (λ x. x.number == number) k.now.places.threads) are

-- an empty slot
pub quit_keeps_set : (s : State) (slot : ℕ) → AreWell s → AreWell (record s { threads = slice_set s.threads slot None })
quit_keeps_set s slot well = subst (λ z. AreWell (record s { threads = z })) (emptied_is slot s.threads) (quit_keeps s slot well)

pub quit_is : (s : State) (number : ℕ) (pair : ℕ × Connection) → as_found (Some pair) ≡ found_where (λ x. x.number == number) s.threads
    → record s { threads = slice_set s.threads pair.0 None } ≡ stepped s (quit_line (found_where (λ x. x.number == number) s.threads))
quit_is s number pair h =
    ap (λ z. record s { threads = z }) (sym (emptied_is pair.0 s.threads)) ∙ ap (λ z. stepped s (quit_line z)) h

-- a session that is seated has a number at each of its places
pub counted_places : (k : Kept) (x : Connection) → AreCounted k → IsSeated k.now.places x
    → HasPlaces (length k.now.account_totals) (length k.now.user_totals) (length k.now.host_totals) x
counted_places k x are has =
    subst (λ z. HasPlaces z (length k.now.user_totals) (length k.now.host_totals) x) (sym are.account_numbers)
    (subst (λ z. HasPlaces (length k.now.places.accounts) z (length k.now.host_totals) x) (sym are.user_numbers)
    (subst (λ z. HasPlaces (length k.now.places.accounts) (length k.now.places.users) z x) (sym are.host_numbers) has))

-- places that are there are below 32
some_wider : (n m : ℕ) (place : Option ℕ) → n ≤ m → IfSome place (λ p. p < n) → IfSome place (λ p. p < m)
some_wider n m None le h = tt
some_wider n m (Some p) le h = omega (arith, le, h)

pub seat_in_range : (s : State) (x : Connection) → AreWell s → IsSeated s x → HasPlaces 32 32 32 x
seat_in_range s x well has = record {
  account = some_wider _ 32 x.account well.accounts_few has.account;
  user = some_wider _ 32 x.user well.users_few has.user;
  host = some_wider _ 32 x.host well.hosts_few has.host;
}

uppers_in_range : (s : State) (x : Account) → AreWell s → HasUppers (length s.users) (length s.hosts) x → HasUppers 32 32 x
uppers_in_range s x well has = record {
  user = some_wider _ 32 x.user well.users_few has.user;
  host = some_wider _ 32 x.host well.hosts_few has.host;
}

entry_has : {X : Type 0} (P : X → Type 0) (xs : List (Option X)) (n : ℕ) → AllEntries P xs → IfSome (slice_index_or xs n None) P
entry_has P [] n all = tt
entry_has P (None ∷ xs) zero all = tt
entry_has P (Some x ∷ xs) zero all = all.0
entry_has P (None ∷ xs) (suc n) all = entry_has P xs n all
entry_has P (Some x ∷ xs) (suc n) all = entry_has P xs n all.1

pub account_in_range : (s : State) (place : ℕ) (x : Account) → AreWell s → slice_index_or s.accounts place None ≡ Some x → HasUppers 32 32 x
account_in_range s place x well is =
    uppers_in_range s x well (subst (λ z. IfSome z (HasUppers (length s.users) (length s.hosts))) is (entry_has _ s.accounts place well.accounts))

pub session_in_range : (s : State) (place : ℕ) (x : Connection) → AreWell s → slice_index_or s.threads place None ≡ Some x → HasPlaces 32 32 32 x
session_in_range s place x well is =
    seat_in_range s x well (subst (λ z. IfSome z (IsSeated s)) is (entry_has (IsSeated s) s.threads place well.connections))

-- a session that is found has its slot and its places below 32
found_there : (s : State) (number : ℕ) (slot : ℕ) (x : Connection) → AreWell s → as_found (Some (slot, x)) ≡ found_where (λ y. y.number == number) s.threads
    → IsThere (IsSeated s) (length s.threads) (record { place = slot; entry = x })
found_there s number slot x well is =
    subst (λ z. IfFound z (IsThere (IsSeated s) (length s.threads))) (sym is) (found_inside (IsSeated s) (λ y. y.number == number) s.threads well.connections)

pub quit_in_range : (s : State) (number slot : ℕ) (x : Connection) → AreWell s → as_found (Some (slot, x)) ≡ found_where (λ y. y.number == number) s.threads
    → IsInRange (record { slot = slot; connection = x })
quit_in_range s number slot x well is =
    let there : IsThere (IsSeated s) (length s.threads) (record { place = slot; entry = x }) = found_there s number slot x well is in
    record { slot = omega (arith, there.0, well.threads_few); places = seat_in_range s x well there.1 }
