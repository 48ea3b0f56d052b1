-- What the info rows say of who is connected where.
use Rattle.std.specs.Prelude.{ℕ, Option, None}
use Rattle.std.specs.List.{slice_index_or}
use Rattle.std.specs.Option.{option_map}
use Rattle.pfs_containers.specs.declared.infos.ThreadInfo.{ThreadInfo}
use Rattle.pfs_containers.specs.declared.infos.AccountInfo.{AccountInfo}
use Rattle.pfs_containers.specs.declared.infos.NameInfo.{NameInfo}
use Rattle.pfs_containers.specs.declared.containers.Account.{Account}
use Rattle.pfs_containers.specs.declared.containers.Connection.{Connection}
use Rattle.pfs_containers.specs.Administration.{Containers, current}

abbrev pub thread_info_of : Connection → ThreadInfo
thread_info_of x = record {
  session = x.number;
  account = x.account;
  user = x.user;
  host = x.host;
  user_name = x.user_name;
  host_name = x.host_name;
}

abbrev pub account_info_of : Containers → ℕ → Account → AccountInfo
account_info_of c place account = record {
  user_name = account.user_name;
  host_name = account.host_name;
  user = account.user;
  host = account.host;
  current = current (λ x. x.account) c.places.threads place;
  total = slice_index_or c.account_totals place 0;
}

abbrev pub user_info_of : Containers → ℕ → ℕ → NameInfo
user_info_of c place name = record {
  name = name;
  current = current (λ x. x.user) c.places.threads place;
  total = slice_index_or c.user_totals place 0;
}

abbrev pub host_info_of : Containers → ℕ → ℕ → NameInfo
host_info_of c place name = record {
  name = name;
  current = current (λ x. x.host) c.places.threads place;
  total = slice_index_or c.host_totals place 0;
}

-- what stands at a place is said, and a place that is free says nothing
abbrev pub account_info_at : Containers → ℕ → Option AccountInfo
account_info_at c place = option_map (account_info_of c place) (slice_index_or c.places.accounts place None)

abbrev pub user_info_at : Containers → ℕ → Option NameInfo
user_info_at c place = option_map (user_info_of c place) (slice_index_or c.places.users place None)

abbrev pub host_info_at : Containers → ℕ → Option NameInfo
host_info_at c place = option_map (host_info_of c place) (slice_index_or c.places.hosts place None)
