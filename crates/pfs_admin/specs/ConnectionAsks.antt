-- What a connect and a quit ask for.
use Rattle.std.specs.Prelude.{ℕ, ◌+◌, List, [], ◌∷◌, ◌++◌, Option, Some, None}
use Rattle.std.specs.Option.{option_map}
use Rattle.pfs_event.specs.declared.entry.Entry.{Entry}
use Rattle.pfs_event.specs.declared.entry.Entry.TheVariants as says
use Rattle.pfs_containers.specs.declared.containers.Connection.{Connection}
use Rattle.pfs_containers.specs.declared.containers.Seated.{Seated}
use Rattle.pfs_containers.specs.Administration.{Containers}
use Rattle.pfs_containers.specs.PlaceInfos.{thread_info_of, account_info_at, user_info_at, host_info_at}
use Rattle.pfs_containers.specs.InfoWords.{thread_words, account_words, name_words}
use Rattle.pfs_levels.specs.declared.places.Up.{Up}
use Rattle.pfs_levels.specs.declared.flushes.Source.TheVariants as of
use Rattle.pfs_levels.specs.declared.answers.Word.{Word}
use Rattle.pfs_levels.specs.Flushes.{asks_of}
use Rattle.pfs_admin.specs.declared.admin.Placed.{Placed}
use Rattle.pfs_admin.specs.Works.{Sign, Releases, Tags, Work, no_work, flagging}
use Rattle.pfs_admin.specs.Truncations.{free_ring}
use Rattle.pfs_admin.specs.AdministrationStates.{State, thread_flags, seat_at, seat_in, connected, has_quit}

abbrev pub tag_of : ℕ → Option (List ℕ) → List Sign
tag_of row None = []
tag_of row (Some content) = Tags row content ∷ []

abbrev pub account_tag : Containers → Option ℕ → List Sign
account_tag c None = []
account_tag c (Some place) = tag_of (33 + place) (option_map account_words (account_info_at c place))

abbrev pub user_tag : Containers → Option ℕ → List Sign
user_tag c None = []
user_tag c (Some place) = tag_of (65 + place) (option_map name_words (user_info_at c place))

abbrev pub host_tag : Containers → Option ℕ → List Sign
host_tag c None = []
host_tag c (Some place) = tag_of (97 + place) (option_map name_words (host_info_at c place))

-- the info rows of a session's account, user and host, as they stand behind the action
abbrev pub upper_tags : Containers → Connection → List Sign
upper_tags c x = account_tag c x.account ++ (user_tag c x.user ++ host_tag c x.host)

-- a connect writes the infos of all its places, and sets its thread's flags; without a slot it does nothing
abbrev pub connect_work : List Word → ℕ → Containers → Option Seated → Work
connect_work words flags after None = no_work
connect_work words flags after (Some seat) = record {
  moves = [];
  signs = Tags (1 + seat.slot) (thread_words (thread_info_of seat.connection)) ∷ upper_tags after seat.connection;
  flags = flagging words (1 + seat.slot) flags;
}

-- a session's upper places
abbrev pub up_of : Seated → Up
up_of seat = record {
  place = seat.slot;
  account = seat.connection.account;
  user = seat.connection.user;
  host = seat.connection.host;
}

-- a quit moves each cell of its slot up, cell by cell; it releases the slot's info, writes those of its other places,
-- releases all places of its thread's ring, and clears its thread's flags; without a slot it does nothing
abbrev pub quit_work : List Word → List ℕ → Containers → Option Seated → Work
quit_work words cells after None = no_work
quit_work words cells after (Some seat) = record {
  moves = asks_of cells (of.Thread (up_of seat));
  signs = Releases (1 + seat.slot) ∷ (upper_tags after seat.connection ++ free_ring seat.slot);
  flags = flagging words (1 + seat.slot) 0;
}

abbrev pub work_of_connect : State → ℕ → ℕ → ℕ → Work
work_of_connect s number user host = connect_work s.words (thread_flags s user host)
    (connected s number user host).kept.now (seat_at s number user host)

abbrev pub work_of_quit : State → ℕ → Work
work_of_quit s number = quit_work s.words s.cells (has_quit s number).kept.now (seat_in s number)

-- the entry of a connect: its action's number and its places
abbrev pub connect_entry : ℕ → Option Seated → Entry
connect_entry action None = says.Connect action None None None None
connect_entry action (Some seat) = says.Connect action (Some seat.slot) seat.connection.account seat.connection.user
    seat.connection.host

-- a session's places, each where it has it
abbrev pub placed_of : Option Seated → Placed
placed_of None = record { thread = None; account = None; user = None; host = None }
placed_of (Some seat) = record {
  thread = Some seat.slot;
  account = seat.connection.account;
  user = seat.connection.user;
  host = seat.connection.host;
}
