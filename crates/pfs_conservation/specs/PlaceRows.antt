-- What a row of the tables by account, user and host shows, by its place: its cell, and those of the accounts and
-- threads that have the place.
use Rattle.std.specs.Prelude.{◌≡◌, ℕ, List, [], ◌∷◌, ◌++◌, Option, Some}
use Rattle.pfs_conservation.specs.Journeys.{is_from}
use Rattle.pfs_conservation.specs.PlaceFolds.{Entry, State, entry_at, CellRows}
use Rattle.pfs_conservation.specs.KindSummaries.{listed_from}

abbrev pub account_place : CellRows → State → ℕ → List ℕ
account_place rows s a = listed_from (λ x. is_from a x.account) rows.thread 0 s.threads ++ (rows.account a ∷ [])

abbrev pub user_place : CellRows → State → ℕ → List ℕ
user_place rows s u =
    listed_from (λ x. is_from u x.user) rows.thread 0 s.threads
    ++ (listed_from (λ e. is_from u e.user) rows.account 0 s.accounts ++ (rows.user u ∷ []))

abbrev pub host_place : CellRows → State → ℕ → List ℕ
host_place rows s h =
    listed_from (λ x. is_from h x.host) rows.thread 0 s.threads
    ++ (listed_from (λ e. is_from h e.host) rows.account 0 s.accounts ++ (rows.host h ∷ []))

-- no two places have one name
abbrev pub IsApart : {X K : Type 0} → (X → K) → List (Option X) → Type 0
IsApart {X = X} name xs = (i j : ℕ) (x y : X) → entry_at xs i ≡ Some x → entry_at xs j ≡ Some y → name x ≡ name y
    → i ≡ j

pub record Names : Type 0 where
  pub user : ℕ
  pub host : ℕ

abbrev pub names_of : Entry → Names
names_of e = record { user = e.user_name; host = e.host_name }

pub record AreApart (s : State) : Type 0 where
  pub accounts : IsApart names_of s.accounts
  pub users : IsApart (λ x. x) s.users
  pub hosts : IsApart (λ x. x) s.hosts
