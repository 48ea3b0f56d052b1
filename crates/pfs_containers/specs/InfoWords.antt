-- The words of info rows, and what they say.
use Rattle.std.specs.Prelude.{ℕ, ◌+◌, ◌-◌, ◌==◌, List, [], ◌∷◌, slice_index, if◌then◌else◌, Option, Some, None}
use Rattle.pfs_containers.specs.declared.infos.ThreadInfo.{ThreadInfo}
use Rattle.pfs_containers.specs.declared.infos.AccountInfo.{AccountInfo}
use Rattle.pfs_containers.specs.declared.infos.NameInfo.{NameInfo}

-- the word for a place: the place plus one, and 0 for none
abbrev pub link_of : Option ℕ → ℕ
link_of None = 0
link_of (Some place) = place + 1

-- the place that a word says
abbrev pub place_of : ℕ → Option ℕ
place_of word = if word == 0 then None else Some (word - 1)

-- six words, or three, and then zeroes
abbrev pub six_words : ℕ → ℕ → ℕ → ℕ → ℕ → ℕ → List ℕ
six_words a b c d e f = a ∷ b ∷ c ∷ d ∷ e ∷ f ∷ 0 ∷ 0 ∷ 0 ∷ 0 ∷ 0 ∷ 0 ∷ 0 ∷ 0 ∷ 0 ∷ 0 ∷ []

abbrev pub three_words : ℕ → ℕ → ℕ → List ℕ
three_words a b c = a ∷ b ∷ c ∷ 0 ∷ 0 ∷ 0 ∷ 0 ∷ 0 ∷ 0 ∷ 0 ∷ 0 ∷ 0 ∷ 0 ∷ 0 ∷ 0 ∷ 0 ∷ []

-- a thread's info row: session, account, user, host, and the names
abbrev pub thread_words : ThreadInfo → List ℕ
thread_words info = six_words info.session (link_of info.account) (link_of info.user) (link_of info.host)
    info.user_name info.host_name

abbrev pub thread_of : List ℕ → ThreadInfo
thread_of words = record {
  session = slice_index words 0;
  account = place_of (slice_index words 1);
  user = place_of (slice_index words 2);
  host = place_of (slice_index words 3);
  user_name = slice_index words 4;
  host_name = slice_index words 5;
}

-- an account's: the names, user and host, and the connections now and in all
abbrev pub account_words : AccountInfo → List ℕ
account_words info = six_words info.user_name info.host_name (link_of info.user) (link_of info.host) info.current
    info.total

abbrev pub account_of : List ℕ → AccountInfo
account_of words = record {
  user_name = slice_index words 0;
  host_name = slice_index words 1;
  user = place_of (slice_index words 2);
  host = place_of (slice_index words 3);
  current = slice_index words 4;
  total = slice_index words 5;
}

-- a user's or a host's: the name, and the connections now and in all
abbrev pub name_words : NameInfo → List ℕ
name_words info = three_words info.name info.current info.total

abbrev pub name_of : List ℕ → NameInfo
name_of words = record { name = slice_index words 0; current = slice_index words 1; total = slice_index words 2 }
