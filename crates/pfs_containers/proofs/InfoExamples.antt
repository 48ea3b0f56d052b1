-- Worked examples, by computation.
use Rattle.std.proofs.Common.{◌≡◌, Some, None, refl}
use Rattle.pfs_containers.specs.InfoWords.{six_words, three_words, link_of, place_of, thread_words, account_of, name_of}

-- session 1 in the first slot, without an account, with the first user and the third host
pub thread : thread_words (record { session = 1; account = None; user = Some 0; host = Some 2; user_name = 30; host_name = 31 }) ≡ six_words 1 0 1 3 30 31
thread = refl

pub account : account_of (six_words 30 31 1 0 1 4) ≡ record { user_name = 30; host_name = 31; user = Some 0; host = None; current = 1; total = 4 }
account = refl

pub name : name_of (three_words 30 0 5) ≡ record { name = 30; current = 0; total = 5 }
name = refl

-- the first place isn't none
pub first_place : ¬ (link_of (Some 0) ≡ link_of None)
first_place h = cc h

-- a word above 32 says a place that no level has
pub no_place : place_of 33 ≡ Some 32
no_place = refl
