-- Truncations of accounts, users and hosts.
use Rattle.std.proofs.Common.{refl}
use Rattle.pfs_containers.specs.declared.containers.Account.{Account}
use Rattle.pfs_law_conservation.specs.TruncationLaws.{AccountsLaw, UsersLaw, HostsLaw}
use Rattle.pfs_law_conservation.proofs.KeptPlaces.{are_freed, are_counted_anew, are_counted_on}

pub accounts_law : AccountsLaw
accounts_law s = (
  record {
    sessions = record { threads = refl; lost_threads = refl; lost_accounts = refl; lost_users = refl; lost_hosts = refl };
    accounts = are_freed Account (λ x. x.account) s.kept.now.places.threads s.kept.now.places.accounts;
    account_totals = are_counted_anew (λ x. x.account) s.kept.now.places.threads s.kept.now.account_totals;
    users = refl;
    user_totals = refl;
    hosts = refl;
    host_totals = refl;
  },
  record { connects = refl; words = refl; actors = refl; objects = refl; names = refl; classes = refl; tables = refl; cells = refl; kinds = refl; actions = refl },
)

pub users_law : UsersLaw
users_law s = (
  record {
    sessions = record { threads = refl; lost_threads = refl; lost_accounts = refl; lost_users = refl; lost_hosts = refl };
    accounts = are_freed Account (λ x. x.account) s.kept.now.places.threads s.kept.now.places.accounts;
    account_totals = are_counted_on (λ x. x.account) s.kept.now.places.threads s.kept.now.account_totals;
    users = are_freed _ (λ x. x.user) s.kept.now.places.threads s.kept.now.places.users;
    user_totals = are_counted_anew (λ x. x.user) s.kept.now.places.threads s.kept.now.user_totals;
    hosts = refl;
    host_totals = refl;
  },
  record { connects = refl; words = refl; actors = refl; objects = refl; names = refl; classes = refl; tables = refl; cells = refl; kinds = refl; actions = refl },
)

pub hosts_law : HostsLaw
hosts_law s = (
  record {
    sessions = record { threads = refl; lost_threads = refl; lost_accounts = refl; lost_users = refl; lost_hosts = refl };
    accounts = are_freed Account (λ x. x.account) s.kept.now.places.threads s.kept.now.places.accounts;
    account_totals = are_counted_on (λ x. x.account) s.kept.now.places.threads s.kept.now.account_totals;
    users = refl;
    user_totals = refl;
    hosts = are_freed _ (λ x. x.host) s.kept.now.places.threads s.kept.now.places.hosts;
    host_totals = are_counted_anew (λ x. x.host) s.kept.now.places.threads s.kept.now.host_totals;
  },
  record { connects = refl; words = refl; actors = refl; objects = refl; names = refl; classes = refl; tables = refl; cells = refl; kinds = refl; actions = refl },
)
