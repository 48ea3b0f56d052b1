-- What always holds of the places and of the counters, behind a truncation.
use Rattle.std.proofs.Common.{ℕ, suc, ◌≡◌, ◌≤◌, Bool, true, false, cond, List, [], ◌∷◌, length, Option, refl, sym, subst, ap, ◌∙◌, arith}
use Rattle.pfs_containers.specs.declared.containers.Account.{Account}
use Rattle.pfs_containers.specs.declared.containers.Connection.{Connection}
use Rattle.pfs_containers.specs.Connections.{State, in_use, kept_from}
use Rattle.pfs_containers.specs.Administration.{Table, Summary, Accounts, Users, Hosts, current, totals_kept_from, currents_from}
use Rattle.pfs_containers.specs.ContainerState.{Kept, AllEntries, HasUppers, AreWell, AreCounted, AreUpTo, AreWithin, with_truncation}
use Rattle.pfs_containers.proofs.FilledPlaces.{up_to_at}
use Rattle.pfs_containers.proofs.PlaceBounds.{seats_moved, uppers_moved}
use Rattle.pfs_containers.proofs.ConnectionTotals.{len_kept, len_kept_totals, len_currents, kept_all, within_kept, within_currents}

-- places that are freed
pub accounts_freed : (s : State) (used : ℕ → Bool) (a : List (Option Account)) → a ≡ kept_from 0 used s.accounts → AreWell s → AreWell (record s { accounts = a })
accounts_freed s used a same well =
    let len : length a ≡ length s.accounts = ap length same ∙ len_kept 0 used s.accounts in
    record {
      threads_few = well.threads_few;
      accounts_few = omega (arith, len, well.accounts_few);
      users_few = well.users_few;
      hosts_few = well.hosts_few;
      connections = seats_moved _ _ _ _ _ _ s.threads len refl refl well.connections;
      accounts = subst (AllEntries (HasUppers (length s.users) (length s.hosts))) (sym same)
          (kept_all (HasUppers (length s.users) (length s.hosts)) 0 used s.accounts well.accounts);
    }

pub users_freed : (s : State) (used : ℕ → Bool) (u : List (Option ℕ)) → u ≡ kept_from 0 used s.users → AreWell s → AreWell (record s { users = u })
users_freed s used u same well =
    let len : length u ≡ length s.users = ap length same ∙ len_kept 0 used s.users in
    record {
      threads_few = well.threads_few;
      accounts_few = well.accounts_few;
      users_few = omega (arith, len, well.users_few);
      hosts_few = well.hosts_few;
      connections = seats_moved _ _ _ _ _ _ s.threads refl len refl well.connections;
      accounts = uppers_moved _ _ _ _ s.accounts len refl well.accounts;
    }

pub hosts_freed : (s : State) (used : ℕ → Bool) (h : List (Option ℕ)) → h ≡ kept_from 0 used s.hosts → AreWell s → AreWell (record s { hosts = h })
hosts_freed s used h same well =
    let len : length h ≡ length s.hosts = ap length same ∙ len_kept 0 used s.hosts in
    record {
      threads_few = well.threads_few;
      accounts_few = well.accounts_few;
      users_few = well.users_few;
      hosts_few = omega (arith, len, well.hosts_few);
      connections = seats_moved _ _ _ _ _ _ s.threads refl refl len well.connections;
      accounts = uppers_moved _ _ _ _ s.accounts refl len well.accounts;
    }

-- numbers that are kept or counted anew are up to the same bound
kept_one : (b : Bool) (total most : ℕ) → total ≤ most → cond b total 0 ≤ most
kept_one true total most le = le
kept_one false total most le = omega arith

up_to_kept : (most n : ℕ) (used : ℕ → Bool) (totals : List ℕ) → AreUpTo most totals → AreUpTo most (totals_kept_from n used totals)
up_to_kept most n used [] are = tt
up_to_kept most n used (total ∷ totals) are = (kept_one (used n) total most are.0, up_to_kept most (suc n) used totals are.1)

up_to_currents : (most n : ℕ) (counts : ℕ → ℕ) (totals : List ℕ) → ((place : ℕ) → counts place ≤ most) → AreUpTo most (currents_from n counts totals)
up_to_currents most n counts [] few = tt
up_to_currents most n counts (total ∷ totals) few = (few n, up_to_currents most (suc n) counts totals few)

up_to_now : (most : ℕ) (which : Connection → Option ℕ) (threads : List (Option Connection)) (totals : List ℕ) → AreUpTo most totals → AreWithin which threads totals
    → AreUpTo most (currents_from 0 (current which threads) totals)
up_to_now most which threads totals are within =
    up_to_currents most 0 (current which threads) totals (λ place. omega (arith, within place, up_to_at most place totals are))

pub truncation_counts : (k : Kept) (table : Table) → AreCounted k → AreCounted (with_truncation k table)
truncation_counts k (Summary kind level) are = are
truncation_counts k Accounts are =
    let threads = k.now.places.threads in
    record {
      account_numbers = len_currents 0 (current (λ x. x.account) threads) k.now.account_totals
          ∙ (are.account_numbers ∙ sym (len_kept 0 (in_use (λ x. x.account) threads) k.now.places.accounts));
      user_numbers = are.user_numbers;
      host_numbers = are.host_numbers;
      lost_threads = are.lost_threads;
      lost_accounts = are.lost_accounts;
      lost_users = are.lost_users;
      lost_hosts = are.lost_hosts;
      account_totals = up_to_now k.connects (λ x. x.account) threads k.now.account_totals are.account_totals are.accounts_within;
      user_totals = are.user_totals;
      host_totals = are.host_totals;
      accounts_within = within_currents (λ x. x.account) threads k.now.account_totals are.accounts_within;
      users_within = are.users_within;
      hosts_within = are.hosts_within;
    }
truncation_counts k Users are =
    let threads = k.now.places.threads in
    record {
      account_numbers = len_kept_totals 0 (in_use (λ x. x.account) threads) k.now.account_totals
          ∙ (are.account_numbers ∙ sym (len_kept 0 (in_use (λ x. x.account) threads) k.now.places.accounts));
      user_numbers = len_currents 0 (current (λ x. x.user) threads) k.now.user_totals
          ∙ (are.user_numbers ∙ sym (len_kept 0 (in_use (λ x. x.user) threads) k.now.places.users));
      host_numbers = are.host_numbers;
      lost_threads = are.lost_threads;
      lost_accounts = are.lost_accounts;
      lost_users = are.lost_users;
      lost_hosts = are.lost_hosts;
      account_totals = up_to_kept k.connects 0 (in_use (λ x. x.account) threads) k.now.account_totals are.account_totals;
      user_totals = up_to_now k.connects (λ x. x.user) threads k.now.user_totals are.user_totals are.users_within;
      host_totals = are.host_totals;
      accounts_within = within_kept (λ x. x.account) threads k.now.account_totals are.accounts_within;
      users_within = within_currents (λ x. x.user) threads k.now.user_totals are.users_within;
      hosts_within = are.hosts_within;
    }
truncation_counts k Hosts are =
    let threads = k.now.places.threads in
    record {
      account_numbers = len_kept_totals 0 (in_use (λ x. x.account) threads) k.now.account_totals
          ∙ (are.account_numbers ∙ sym (len_kept 0 (in_use (λ x. x.account) threads) k.now.places.accounts));
      user_numbers = are.user_numbers;
      host_numbers = len_currents 0 (current (λ x. x.host) threads) k.now.host_totals
          ∙ (are.host_numbers ∙ sym (len_kept 0 (in_use (λ x. x.host) threads) k.now.places.hosts));
      lost_threads = are.lost_threads;
      lost_accounts = are.lost_accounts;
      lost_users = are.lost_users;
      lost_hosts = are.lost_hosts;
      account_totals = up_to_kept k.connects 0 (in_use (λ x. x.account) threads) k.now.account_totals are.account_totals;
      user_totals = are.user_totals;
      host_totals = up_to_now k.connects (λ x. x.host) threads k.now.host_totals are.host_totals are.hosts_within;
      accounts_within = within_kept (λ x. x.account) threads k.now.account_totals are.accounts_within;
      users_within = are.users_within;
      hosts_within = within_currents (λ x. x.host) threads k.now.host_totals are.hosts_within;
    }
