-- The administration computes: what a few lists of actions leave.
use Rattle.std.proofs.Common.{◌≡◌, ℕ, List, [], ◌∷◌, Option, Some, None, refl}
use Rattle.pfs_conservation.specs.PlaceFolds.{Session, entry_at}
use Rattle.pfs_conservation.specs.PrintedChanges.{Adds, Takes, Gives}
use Rattle.pfs_conservation.specs.TaggedEntries.{Acts, Ends, Add, Held, Settle, Take, Give, lines_of}
use Rattle.pfs_conservation.specs.AdministrationFold.{Action, Connect, Quit, Truncate, Accounts, numbered, Admin, admin_after}

abbrev empty : List (Option Session)
empty = None ∷ (None ∷ [])

-- two slots, one account, two users and hosts
abbrev opened : Admin
opened = record {
  places = record { threads = None ∷ (None ∷ []); accounts = None ∷ []; users = None ∷ (None ∷ []); hosts = None ∷ (None ∷ []) };
  lost_threads = 0;
  lost_accounts = 0;
  lost_users = 0;
  lost_hosts = 0;
  account_totals = 0 ∷ [];
  user_totals = 0 ∷ (0 ∷ []);
  host_totals = 0 ∷ (0 ∷ []);
}

-- session 1 is user 7 from host 8, session 2 user 9 from host 10: the second finds no account place, a third no slot
abbrev two : ℕ → Action
two = numbered (Connect 1 7 8 ∷ (Connect 2 9 10 ∷ (Connect 3 7 8 ∷ (Quit 1 ∷ (Truncate Accounts ∷ (Connect 4 9 10 ∷ []))))))

first_account : (entry_at (admin_after opened two 1).places.threads 0) ≡ Some (record { number = 1; user_name = 7; host_name = 8; account = Some 0; user = Some 0; host = Some 0 })
first_account = refl

second_lost : (entry_at (admin_after opened two 2).places.threads 1) ≡ Some (record { number = 2; user_name = 9; host_name = 10; account = None; user = Some 1; host = Some 1 })
second_lost = refl

accounts_lost : (admin_after opened two 2).lost_accounts ≡ 1
accounts_lost = refl

no_slot : (admin_after opened two 3).lost_threads ≡ 1
no_slot = refl

-- after the quit the account stays until TRUNCATE accounts; its user stays
account_stays : (admin_after opened two 4).places.accounts ≡ Some (record { user_name = 7; host_name = 8; user = Some 0; host = Some 0 }) ∷ []
account_stays = refl

account_goes : (admin_after opened two 5).places.accounts ≡ None ∷ []
account_goes = refl

user_stays : (admin_after opened two 5).places.users ≡ Some 7 ∷ (Some 9 ∷ [])
user_stays = refl

-- the place is used again, by names that have their user and host places
again : (entry_at (admin_after opened two 6).places.threads 0) ≡ Some (record { number = 4; user_name = 9; host_name = 10; account = Some 0; user = Some 1; host = Some 1 })
again = refl

totals : (admin_after opened two 6).account_totals ≡ 1 ∷ []
totals = refl

user_totals : (admin_after opened two 6).user_totals ≡ 1 ∷ (2 ∷ [])
user_totals = refl

-- two events are held for row 5 and added together as they are settled; a third is added at its end
held_lines : lines_of (record { session = 1; action = 0; event = None; held = [] }) (Acts 1 ∷ (Ends 0 ∷ (Held 5 ∷ (Ends 1 ∷ (Held 5 ∷ (Ends 2 ∷ (Add 6 1 ∷ (Settle ∷ (Add 5 7 ∷ (Acts 2 ∷ (Take 5 8 ∷ (Give 40 1 5 ∷ []))))))))))))
    ≡ record { session = 1; action = 0; row = 6; version = 1; kind = Adds (2 ∷ []) }
    ∷ (record { session = 1; action = 0; row = 5; version = 7; kind = Adds (1 ∷ (0 ∷ [])) } ∷ (record { session = 1; action = 2; row = 5; version = 8; kind = Takes } ∷ (record { session = 1; action = 2; row = 40; version = 1; kind = Gives 5 } ∷ [])))
held_lines = refl
