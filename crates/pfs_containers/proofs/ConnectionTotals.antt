-- After any connects, quits and truncations no place has more connections than it has had.
use Rattle.std.proofs.Common.{ℕ, zero, suc, ◌≡◌, ◌≤◌, ◌<◌, ◌+◌, ◌==◌, ◌||◌, Bool, true, false, cond, List, [], ◌∷◌, length, Option, Some, None, slice_index_or, refl, sym, ap, subst, ◌∙◌, arith, inl, inr}
use Rattle.std.proofs.lemmas.Bool.{cases_lt}
use Rattle.pfs_rows.specs.declared.limits.Limits.{Limits}
use Rattle.pfs_containers.specs.declared.containers.Account.{Account}
use Rattle.pfs_containers.specs.declared.containers.Connection.{Connection}
use Rattle.pfs_containers.specs.Connections.{fill, has_by, in_use, kept_if, kept_from, entry_of, stepped}
use Rattle.pfs_containers.specs.Administration.{Containers, Action, Connect, Quit, Truncate, Other, Summary, Accounts, Users, Hosts, Table, Found, found_where, lowest_free, session_of, current, totals_kept_from, currents_from, connect_at, quit_line, truncated, advanced, admin_after}
use Rattle.pfs_containers.specs.ContainerState.{AllEntries, HasUppers, HasPlaces, AreWithin, IsSeated, opening}
use Rattle.pfs_containers.specs.PlaceLaws.{AreAllWithin, WithinLaw}
use Rattle.pfs_containers.proofs.PlaceBounds.{session_there, len_fill, len_added, fill_all, len_free, len_zeroes, all_of_free, uppers_moved}
use Rattle.pfs_containers.proofs.SlotOwners.{within_seat, within_empty, within_free, past_read}

-- a place without a connection isn't in use
unused : (which : Connection → Option ℕ) (xs : List (Option Connection)) (place : ℕ) → in_use which xs place ≡ false → current which xs place ≡ 0
unused which [] place h = refl
unused which (x ∷ xs) place h = at (has_by which place x) h (λ e. unused which xs place e)
  where
    at : (b : Bool) → (b || in_use which xs place) ≡ false → (in_use which xs place ≡ false → current which xs place ≡ 0) → cond b 1 0 + current which xs place ≡ 0
    at true e ih = absurd (cc)
    at false e ih = omega (arith, ih e)

kept_read : (n k : ℕ) (used : ℕ → Bool) (totals : List ℕ) → k < length totals
    → slice_index_or (totals_kept_from n used totals) k 0 ≡ cond (used (n + k)) (slice_index_or totals k 0) 0
kept_read n k used [] l = absurd (omega (arith, l))
kept_read n zero used (total ∷ totals) l = let same : n ≡ n + 0 = omega arith in ap (λ z. cond (used z) total 0) same
kept_read n (suc k) used (total ∷ totals) l =
    let same : suc n + k ≡ n + suc k = omega arith in
    kept_read (suc n) k used totals (omega (arith, l)) ∙ ap (λ z. cond (used z) (slice_index_or totals k 0) 0) same

currents_read : (n k : ℕ) (counts : ℕ → ℕ) (totals : List ℕ) → k < length totals → slice_index_or (currents_from n counts totals) k 0 ≡ counts (n + k)
currents_read n k counts [] l = absurd (omega (arith, l))
currents_read n zero counts (total ∷ totals) l = let same : n ≡ n + 0 = omega arith in ap counts same
currents_read n (suc k) counts (total ∷ totals) l =
    let same : suc n + k ≡ n + suc k = omega arith in currents_read (suc n) k counts totals (omega (arith, l)) ∙ ap counts same

pub len_kept_totals : (n : ℕ) (used : ℕ → Bool) (totals : List ℕ) → length (totals_kept_from n used totals) ≡ length totals
len_kept_totals n used [] = refl
len_kept_totals n used (total ∷ totals) = ap suc (len_kept_totals (suc n) used totals)

pub len_currents : (n : ℕ) (counts : ℕ → ℕ) (totals : List ℕ) → length (currents_from n counts totals) ≡ length totals
len_currents n counts [] = refl
len_currents n counts (total ∷ totals) = ap suc (len_currents (suc n) counts totals)

kept_at : (which : Connection → Option ℕ) (xs : List (Option Connection)) (place total : ℕ) → current which xs place ≤ total
    → current which xs place ≤ cond (in_use which xs place) total 0
kept_at which xs place total h = at (in_use which xs place) refl
  where
    at : (b : Bool) → in_use which xs place ≡ b → current which xs place ≤ cond b total 0
    at true e = h
    at false e = omega (arith, unused which xs place e)

pub within_kept : (which : Connection → Option ℕ) (xs : List (Option Connection)) (totals : List ℕ) → AreWithin which xs totals
    → AreWithin which xs (totals_kept_from 0 (in_use which xs) totals)
within_kept which xs totals within place = elim (cases_lt place (length totals)) [
  | inl l ↦ let same : 0 + place ≡ place = omega arith in
      omega (
        arith,
        kept_at which xs place (slice_index_or totals place 0) (within place),
        kept_read 0 place (in_use which xs) totals l ∙ ap (λ z. cond (in_use which xs z) (slice_index_or totals place 0) 0) same,
      )
  | inr l ↦ omega (arith, within place, past_read place totals l)
]

pub within_currents : (which : Connection → Option ℕ) (xs : List (Option Connection)) (totals : List ℕ) → AreWithin which xs totals
    → AreWithin which xs (currents_from 0 (current which xs) totals)
within_currents which xs totals within place = elim (cases_lt place (length totals)) [
  | inl l ↦ let same : 0 + place ≡ place = omega arith in
      omega (arith, currents_read 0 place (current which xs) totals l ∙ ap (current which xs) same)
  | inr l ↦ omega (arith, within place, past_read place totals l)
]

pub len_kept : {X : Type 0} (n : ℕ) (used : ℕ → Bool) (xs : List (Option X)) → length (kept_from n used xs) ≡ length xs
len_kept n used [] = refl
len_kept n used (x ∷ xs) = ap suc (len_kept (suc n) used xs)

pub kept_all : {X : Type 0} (P : X → Type 0) (n : ℕ) (used : ℕ → Bool) (xs : List (Option X)) → AllEntries P xs → AllEntries P (kept_from n used xs)
kept_all P n used [] all = tt
kept_all P n used (None ∷ xs) all = free (used n) (kept_all P (suc n) used xs all)
  where
    free : (b : Bool) → AllEntries P (kept_from (suc n) used xs) → AllEntries P (kept_if b None ∷ kept_from (suc n) used xs)
    free true rest = rest
    free false rest = rest
kept_all P n used (Some x ∷ xs) all = taken (used n) (kept_all P (suc n) used xs all.1)
  where
    taken : (b : Bool) → AllEntries P (kept_from (suc n) used xs) → AllEntries P (kept_if b (Some x) ∷ kept_from (suc n) used xs)
    taken true rest = (all.0, rest)
    taken false rest = rest

-- what each action keeps
record IsKept (a : Containers) : Type 0 where
  uppers : AllEntries (HasUppers (length a.places.users) (length a.places.hosts)) a.places.accounts
  account_numbers : length a.account_totals ≡ length a.places.accounts
  user_numbers : length a.user_totals ≡ length a.places.users
  host_numbers : length a.host_totals ≡ length a.places.hosts
  within : AreAllWithin a

moved : {a u h b v g : ℕ} (x : Connection) → a ≡ b → u ≡ v → h ≡ g → HasPlaces b v g x → HasPlaces a u h x
moved {a} {u} {h} {b} {v} {g} x p q r has =
    subst (λ z. HasPlaces z u h x) (sym p) (subst (λ z. HasPlaces b z h x) (sym q) (subst (λ z. HasPlaces b v z x) (sym r) has))

connect_keeps : (a : Containers) (number user host : ℕ) (o : Option ℕ) → lowest_free a.places.threads ≡ o → IsKept a → IsKept (connect_at a number user host o)
connect_keeps a number user host None free is = record {
  uppers = is.uppers;
  account_numbers = is.account_numbers;
  user_numbers = is.user_numbers;
  host_numbers = is.host_numbers;
  within = record { accounts = is.within.accounts; users = is.within.users; hosts = is.within.hosts };
}
connect_keeps a number user host (Some slot) free is =
    let x : Connection = session_of a.places number user host in
    let seated : IsSeated a.places x = session_there a.places is.uppers number user host in
    let has : HasPlaces (length a.account_totals) (length a.user_totals) (length a.host_totals) x =
    moved x is.account_numbers is.user_numbers is.host_numbers seated in
    record {
      uppers = uppers_moved _ _ _ _ (fill x.account (entry_of x) a.places.accounts) (len_fill x.user x.user_name a.places.users) (len_fill x.host x.host_name a.places.hosts)
          (fill_all (HasUppers (length a.places.users) (length a.places.hosts)) x.account (entry_of x) a.places.accounts (record { user = seated.user; host = seated.host }) is.uppers);
      account_numbers = len_added 0 x.account a.account_totals ∙ (is.account_numbers ∙ sym (len_fill x.account (entry_of x) a.places.accounts));
      user_numbers = len_added 0 x.user a.user_totals ∙ (is.user_numbers ∙ sym (len_fill x.user x.user_name a.places.users));
      host_numbers = len_added 0 x.host a.host_totals ∙ (is.host_numbers ∙ sym (len_fill x.host x.host_name a.places.hosts));
      within = record {
        accounts = within_seat (λ y. y.account) slot x a.places.threads a.account_totals free has.account is.within.accounts;
        users = within_seat (λ y. y.user) slot x a.places.threads a.user_totals free has.user is.within.users;
        hosts = within_seat (λ y. y.host) slot x a.places.threads a.host_totals free has.host is.within.hosts;
      };
    }

quit_keeps : (a : Containers) (found : Option (Found Connection)) → IsKept a → IsKept (record a { places = stepped a.places (quit_line found) })
quit_keeps a None is = record {
  uppers = is.uppers;
  account_numbers = is.account_numbers;
  user_numbers = is.user_numbers;
  host_numbers = is.host_numbers;
  within = record { accounts = is.within.accounts; users = is.within.users; hosts = is.within.hosts };
}
quit_keeps a (Some found) is = record {
  uppers = is.uppers;
  account_numbers = is.account_numbers;
  user_numbers = is.user_numbers;
  host_numbers = is.host_numbers;
  within = record {
    accounts = within_empty (λ y. y.account) found.place a.places.threads a.account_totals is.within.accounts;
    users = within_empty (λ y. y.user) found.place a.places.threads a.user_totals is.within.users;
    hosts = within_empty (λ y. y.host) found.place a.places.threads a.host_totals is.within.hosts;
  };
}

abbrev used_accounts : Containers → List (Option Account)
used_accounts a = kept_from 0 (in_use (λ x. x.account) a.places.threads) a.places.accounts

abbrev HasAllUppers : Containers → List (Option Account) → Type 0
HasAllUppers a xs = AllEntries (HasUppers (length a.places.users) (length a.places.hosts)) xs

used_uppers : (a : Containers) → HasAllUppers a a.places.accounts → HasAllUppers a (used_accounts a)
used_uppers a all = kept_all (HasUppers (length a.places.users) (length a.places.hosts)) 0 (in_use (λ x. x.account) a.places.threads) a.places.accounts all

truncate_keeps : (a : Containers) (table : Table) → IsKept a → IsKept (truncated a table)
truncate_keeps a (Summary kind level) is = is
truncate_keeps a Accounts is = record {
  uppers = used_uppers a is.uppers;
  account_numbers = len_currents 0 _ a.account_totals ∙ (is.account_numbers ∙ sym (len_kept 0 _ a.places.accounts));
  user_numbers = is.user_numbers;
  host_numbers = is.host_numbers;
  within = record {
    accounts = within_currents (λ y. y.account) a.places.threads a.account_totals is.within.accounts;
    users = is.within.users;
    hosts = is.within.hosts;
  };
}
truncate_keeps a Users is = record {
  uppers = uppers_moved _ (length a.places.hosts) _ _ (used_accounts a) (len_kept 0 (in_use (λ x. x.user) a.places.threads) a.places.users) refl (used_uppers a is.uppers);
  account_numbers = len_kept_totals 0 _ a.account_totals ∙ (is.account_numbers ∙ sym (len_kept 0 _ a.places.accounts));
  user_numbers = len_currents 0 _ a.user_totals ∙ (is.user_numbers ∙ sym (len_kept 0 _ a.places.users));
  host_numbers = is.host_numbers;
  within = record {
    accounts = within_kept (λ y. y.account) a.places.threads a.account_totals is.within.accounts;
    users = within_currents (λ y. y.user) a.places.threads a.user_totals is.within.users;
    hosts = is.within.hosts;
  };
}
truncate_keeps a Hosts is = record {
  uppers = uppers_moved (length a.places.users) _ _ _ (used_accounts a) refl (len_kept 0 (in_use (λ x. x.host) a.places.threads) a.places.hosts) (used_uppers a is.uppers);
  account_numbers = len_kept_totals 0 _ a.account_totals ∙ (is.account_numbers ∙ sym (len_kept 0 _ a.places.accounts));
  user_numbers = is.user_numbers;
  host_numbers = len_currents 0 _ a.host_totals ∙ (is.host_numbers ∙ sym (len_kept 0 _ a.places.hosts));
  within = record {
    accounts = within_kept (λ y. y.account) a.places.threads a.account_totals is.within.accounts;
    users = is.within.users;
    hosts = within_currents (λ y. y.host) a.places.threads a.host_totals is.within.hosts;
  };
}

step_keeps : (a : Containers) (action : Action) → IsKept a → IsKept (advanced a action)
step_keeps a (Connect number user host) is = connect_keeps a number user host (lowest_free a.places.threads) refl is
step_keeps a (Quit number) is = quit_keeps a (found_where (λ x. x.number == number) a.places.threads) is
step_keeps a (Truncate table) is = truncate_keeps a table is
step_keeps a Other is = is

opens_kept : (l : Limits) → IsKept (opening l).now
opens_kept l = record {
  uppers = all_of_free _ l.accounts;
  account_numbers = len_zeroes l.accounts ∙ sym (len_free Account l.accounts);
  user_numbers = len_zeroes l.users ∙ sym (len_free ℕ l.users);
  host_numbers = len_zeroes l.hosts ∙ sym (len_free ℕ l.hosts);
  within = record {
    accounts = within_free (λ x. x.account) l.thread_instances (opening l).now.account_totals;
    users = within_free (λ x. x.user) l.thread_instances (opening l).now.user_totals;
    hosts = within_free (λ x. x.host) l.thread_instances (opening l).now.host_totals;
  };
}

kept_after : (l : Limits) (action : ℕ → Action) (n : ℕ) → IsKept (admin_after (opening l).now action n)
kept_after l action zero = opens_kept l
kept_after l action (suc n) = step_keeps (admin_after (opening l).now action n) (action (suc n)) (kept_after l action n)

pub within_law : WithinLaw
within_law l action n = (kept_after l action n).within
