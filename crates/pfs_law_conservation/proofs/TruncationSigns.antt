-- A truncation's signs say of each info row what stands at its place behind it: a place that was freed nothing, and one
-- that remains its connections now and in all. A row that isn't signed says the same as before.
use Rattle.std.proofs.Common.{◌≡◌, refl, ℕ, ◌+◌, ◌<◌, Bool, true, false, List, ◌++◌, map, Option, Some, None, slice_index_or, sym, ap, ◌∙◌, arith}
use Rattle.pfs_admin.specs.FoldLaws.{row_of}
use Rattle.pfs_admin.specs.AdministrationStates.{State}
use Rattle.pfs_admin.specs.Truncations.{account_source, user_source, host_source, is_there, event_signs, level_signs, work_of_truncation, has_truncated}
use Rattle.pfs_admin.specs.Works.{Sign}
use Rattle.pfs_containers.specs.Administration.{Containers, totals_kept_from, truncated}
use Rattle.pfs_containers.specs.Administration as fold
use Rattle.pfs_containers.specs.Connections.{in_use, kept_from}
use Rattle.pfs_levels.specs.Flushes.{Ascends}
use Rattle.pfs_levels.specs.declared.places.Level.{Level}
use Rattle.pfs_levels.specs.declared.places.Level.TheVariants as levels
use Rattle.pfs_law_plain.proofs.TruncationRows.{events_ascend}
use Rattle.pfs_rows.specs.declared.truncations.Truncation.{Truncation}
use Rattle.pfs_rows.specs.declared.truncations.Truncation.TheVariants.{Events, Summary, DigestSummary, Accounts, Users, Hosts, SetupActors, SetupObjects}
use Rattle.pfs_law_conservation.specs.InfoRowWords.{thread_said, account_said, user_said, host_said}
use Rattle.pfs_law_conservation.proofs.LevelSigns.{ascends_miss, news_front, signs_news, signs_miss}
use Rattle.pfs_law_conservation.proofs.FreedPlaces.{free_stays, not_there, kept_same}
use Rattle.pfs_law_conservation.proofs.LevelPlaces.{level_said}
use Rattle.pfs_law_conservation.proofs.InfoNews.{news, Misses, news_miss, news_none, misses_then}
use Rattle.pfs_law_conservation.proofs.ActionSigns.{AreSaid, unsigned, account_make, of_account, account_is, account_none, user_none, host_none}

-- a level whose remaining places are all written leaves none
all_written : (a b : Option (List ℕ)) → true ≡ false → a ≡ b
all_written a b e = absurd (cc)

module _ (c : Containers) where
  abbrev was : Level → ℕ → Bool
  was = is_there c.places

  abbrev with_account : ℕ → Bool
  with_account = in_use (λ x. x.account) c.places.threads

  abbrev with_user : ℕ → Bool
  with_user = in_use (λ x. x.user) c.places.threads

  abbrev with_host : ℕ → Bool
  with_host = in_use (λ x. x.host) c.places.threads

  -- a place where nothing stood says nothing
  account_free : (after : Containers) (q : ℕ) → after.places.accounts ≡ kept_from 0 with_account c.places.accounts → was levels.Account q ≡ false → account_said after q ≡ account_said c q
  account_free after q is n =
      let none : slice_index_or c.places.accounts q None ≡ None = not_there (account_source q) (slice_index_or c.places.accounts q None) n in
      account_none after q (ap (λ xs. slice_index_or xs q None) is ∙ free_stays q with_account c.places.accounts none) ∙ sym (account_none c q none)

  user_free : (after : Containers) (q : ℕ) → after.places.users ≡ kept_from 0 with_user c.places.users → was levels.User q ≡ false → user_said after q ≡ user_said c q
  user_free after q is n =
      let none : slice_index_or c.places.users q None ≡ None = not_there (user_source q) (slice_index_or c.places.users q None) n in
      user_none after q (ap (λ xs. slice_index_or xs q None) is ∙ free_stays q with_user c.places.users none) ∙ sym (user_none c q none)

  host_free : (after : Containers) (q : ℕ) → after.places.hosts ≡ kept_from 0 with_host c.places.hosts → was levels.Host q ≡ false → host_said after q ≡ host_said c q
  host_free after q is n =
      let none : slice_index_or c.places.hosts q None ≡ None = not_there (host_source q) (slice_index_or c.places.hosts q None) n in
      host_none after q (ap (λ xs. slice_index_or xs q None) is ∙ free_stays q with_host c.places.hosts none) ∙ sym (host_none c q none)

  -- behind `users` and `hosts` an account that remains says the same as before
  abbrev left : Containers
  left = record c { places = record c.places { accounts = kept_from 0 with_account c.places.accounts }; account_totals = totals_kept_from 0 with_account c.account_totals }

  account_kept : (after : Containers) (q : ℕ) (words : List ℕ) → account_said after q ≡ Some words → account_said after q ≡ account_said left q → account_said after q ≡ account_said c q
  account_kept after q words says is =
      let there : account_said after q ≡ level_said of_account account_make (kept_from 0 with_account c.places.accounts) c.places.threads (totals_kept_from 0 with_account c.account_totals) q
      = is ∙ account_is left q in
      there ∙ (kept_same of_account account_make with_account c.places.accounts c.places.threads c.account_totals q words (sym there ∙ says) ∙ sym (account_is c q))

  -- behind a truncation of `accounts`
  abbrev after_accounts : Containers
  after_accounts = truncated c fold.Accounts

  abbrev account_signs : List Sign
  account_signs = level_signs true (was levels.Account) after_accounts levels.Account

  accounts_none : (row : ℕ) (old : Option (List ℕ)) → ((place : ℕ) → place < 32 → 33 + place ≡ row → ⊥) → old ≡ news account_signs row old
  accounts_none row old m = sym (news_none row old account_signs (signs_miss true (was levels.Account) after_accounts levels.Account row m))

  accounts_said : AreSaid c account_signs after_accounts
  accounts_said = record {
    threads = λ q l. accounts_none (1 + q) (thread_said c q) (λ place h e. omega (arith, l, h, e));
    accounts = λ q l. signs_news true (was levels.Account) after_accounts levels.Account q (account_said c q) l (account_free after_accounts q refl) (λ e words says. all_written (account_said after_accounts q) (account_said c q) e);
    users = λ q l. accounts_none (65 + q) (user_said c q) (λ place h e. omega (arith, l, h, e));
    hosts = λ q l. accounts_none (97 + q) (host_said c q) (λ place h e. omega (arith, l, h, e));
  }

  -- behind a truncation of `users`
  abbrev after_users : Containers
  after_users = truncated c fold.Users

  abbrev users_lower : List Sign
  users_lower = level_signs false (was levels.Account) after_users levels.Account

  abbrev users_upper : List Sign
  users_upper = level_signs true (was levels.User) after_users levels.User

  users_lower_miss : (row : ℕ) → ((place : ℕ) → place < 32 → 33 + place ≡ row → ⊥) → Misses row users_lower
  users_lower_miss = signs_miss false (was levels.Account) after_users levels.Account

  users_upper_miss : (row : ℕ) → ((place : ℕ) → place < 32 → 65 + place ≡ row → ⊥) → Misses row users_upper
  users_upper_miss = signs_miss true (was levels.User) after_users levels.User

  users_none : (row : ℕ) (old : Option (List ℕ)) → ((place : ℕ) → place < 32 → 33 + place ≡ row → ⊥) → ((place : ℕ) → place < 32 → 65 + place ≡ row → ⊥) → old ≡ news (users_lower ++ users_upper) row old
  users_none row old m n = sym (news_none row old (users_lower ++ users_upper) (misses_then row users_lower users_upper (users_lower_miss row m) (users_upper_miss row n)))

  users_account : (q : ℕ) → q < 32 → account_said after_users q ≡ news (users_lower ++ users_upper) (33 + q) (account_said c q)
  users_account q l =
      signs_news false (was levels.Account) after_users levels.Account q (account_said c q) l (account_free after_users q refl) (λ e words says. account_kept after_users q words says refl)
      ∙ sym (news_front (33 + q) (account_said c q) users_lower users_upper (users_upper_miss (33 + q) (λ place h e. omega (arith, l, h, e))))

  users_own : (q : ℕ) → q < 32 → user_said after_users q ≡ news (users_lower ++ users_upper) (65 + q) (user_said c q)
  users_own q l =
      signs_news true (was levels.User) after_users levels.User q (user_said c q) l (user_free after_users q refl) (λ e words says. all_written (user_said after_users q) (user_said c q) e)
      ∙ sym (news_miss (65 + q) (user_said c q) users_lower users_upper (users_lower_miss (65 + q) (λ place h e. omega (arith, l, h, e))))

  users_said : AreSaid c (users_lower ++ users_upper) after_users
  users_said = record {
    threads = λ q l. users_none (1 + q) (thread_said c q) (λ place h e. omega (arith, l, h, e)) (λ place h e. omega (arith, l, h, e));
    accounts = users_account;
    users = users_own;
    hosts = λ q l. users_none (97 + q) (host_said c q) (λ place h e. omega (arith, l, h, e)) (λ place h e. omega (arith, l, h, e));
  }

  -- behind a truncation of `hosts`
  abbrev after_hosts : Containers
  after_hosts = truncated c fold.Hosts

  abbrev hosts_lower : List Sign
  hosts_lower = level_signs false (was levels.Account) after_hosts levels.Account

  abbrev hosts_upper : List Sign
  hosts_upper = level_signs true (was levels.Host) after_hosts levels.Host

  hosts_lower_miss : (row : ℕ) → ((place : ℕ) → place < 32 → 33 + place ≡ row → ⊥) → Misses row hosts_lower
  hosts_lower_miss = signs_miss false (was levels.Account) after_hosts levels.Account

  hosts_upper_miss : (row : ℕ) → ((place : ℕ) → place < 32 → 97 + place ≡ row → ⊥) → Misses row hosts_upper
  hosts_upper_miss = signs_miss true (was levels.Host) after_hosts levels.Host

  hosts_none : (row : ℕ) (old : Option (List ℕ)) → ((place : ℕ) → place < 32 → 33 + place ≡ row → ⊥) → ((place : ℕ) → place < 32 → 97 + place ≡ row → ⊥) → old ≡ news (hosts_lower ++ hosts_upper) row old
  hosts_none row old m n = sym (news_none row old (hosts_lower ++ hosts_upper) (misses_then row hosts_lower hosts_upper (hosts_lower_miss row m) (hosts_upper_miss row n)))

  hosts_account : (q : ℕ) → q < 32 → account_said after_hosts q ≡ news (hosts_lower ++ hosts_upper) (33 + q) (account_said c q)
  hosts_account q l =
      signs_news false (was levels.Account) after_hosts levels.Account q (account_said c q) l (account_free after_hosts q refl) (λ e words says. account_kept after_hosts q words says refl)
      ∙ sym (news_front (33 + q) (account_said c q) hosts_lower hosts_upper (hosts_upper_miss (33 + q) (λ place h e. omega (arith, l, h, e))))

  hosts_own : (q : ℕ) → q < 32 → host_said after_hosts q ≡ news (hosts_lower ++ hosts_upper) (97 + q) (host_said c q)
  hosts_own q l =
      signs_news true (was levels.Host) after_hosts levels.Host q (host_said c q) l (host_free after_hosts q refl) (λ e words says. all_written (host_said after_hosts q) (host_said c q) e)
      ∙ sym (news_miss (97 + q) (host_said c q) hosts_lower hosts_upper (hosts_lower_miss (97 + q) (λ place h e. omega (arith, l, h, e))))

  hosts_said : AreSaid c (hosts_lower ++ hosts_upper) after_hosts
  hosts_said = record {
    threads = λ q l. hosts_none (1 + q) (thread_said c q) (λ place h e. omega (arith, l, h, e)) (λ place h e. omega (arith, l, h, e));
    accounts = hosts_account;
    users = λ q l. hosts_none (65 + q) (user_said c q) (λ place h e. omega (arith, l, h, e)) (λ place h e. omega (arith, l, h, e));
    hosts = hosts_own;
  }

-- the places of rings are no info rows
rings_said : (c : Containers) (signs : List Sign) → Ascends 8450 14242 (map row_of signs) → AreSaid c signs c
rings_said c signs a = record {
  threads = λ q l. missed (1 + q) (thread_said c q) (omega (arith, l));
  accounts = λ q l. missed (33 + q) (account_said c q) (omega (arith, l));
  users = λ q l. missed (65 + q) (user_said c q) (omega (arith, l));
  hosts = λ q l. missed (97 + q) (host_said c q) (omega (arith, l));
} where
  missed : (row : ℕ) (old : Option (List ℕ)) → row < 8450 → old ≡ news signs row old
  missed row old l = sym (news_none row old signs (ascends_miss row 8450 14242 signs l a))

pub truncation_said : (s : State) (what : Truncation) → AreSaid s.kept.now (work_of_truncation s what).signs (has_truncated s what).kept.now
truncation_said s (Summary kind table) = unsigned s.kept.now
truncation_said s (Events kind table) =
    rings_said s.kept.now (event_signs (is_there s.kept.now.places levels.Thread) kind table) (events_ascend (is_there s.kept.now.places levels.Thread) kind table)
truncation_said s Accounts = accounts_said s.kept.now
truncation_said s Users = users_said s.kept.now
truncation_said s Hosts = hosts_said s.kept.now
truncation_said s DigestSummary = unsigned s.kept.now
truncation_said s SetupActors = unsigned s.kept.now
truncation_said s SetupObjects = unsigned s.kept.now
