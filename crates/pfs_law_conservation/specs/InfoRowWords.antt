-- What an info row is to say by who is connected where: the words of what stands at its place, and nothing where the
-- place is free.
use Rattle.std.specs.Prelude.{ℕ, List, Option, None}
use Rattle.std.specs.List.{slice_index_or}
use Rattle.std.specs.Option.{option_map}
use Rattle.pfs_containers.specs.Administration.{Containers}
use Rattle.pfs_containers.specs.PlaceInfos.{thread_info_of, account_info_at, user_info_at, host_info_at}
use Rattle.pfs_containers.specs.declared.containers.Connection.{Connection}
use Rattle.pfs_containers.specs.InfoWords.{thread_words, account_words, name_words}

abbrev pub thread_said : Containers → ℕ → Option (List ℕ)
thread_said c slot =
    option_map (λ (x : Connection). thread_words (thread_info_of x)) (slice_index_or c.places.threads slot None)

abbrev pub account_said : Containers → ℕ → Option (List ℕ)
account_said c place = option_map account_words (account_info_at c place)

abbrev pub user_said : Containers → ℕ → Option (List ℕ)
user_said c place = option_map name_words (user_info_at c place)

abbrev pub host_said : Containers → ℕ → Option (List ℕ)
host_said c place = option_map name_words (host_info_at c place)
