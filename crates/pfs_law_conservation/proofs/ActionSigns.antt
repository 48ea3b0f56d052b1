-- An action's signs say of each info row what stands at its place behind the action, and of no other row does that
-- change.
use Rattle.std.proofs.Common.{◌≡◌, refl, ℕ, ◌+◌, ◌*◌, ◌<◌, ◌≤◌, ◌==◌, Bool, true, false, cond, List, [], ◌∷◌, ◌++◌, Option, Some, None, slice_index_or, sym, ap, subst, ◌∙◌, arith}
use Rattle.std.specs.Option.{option_map}
use Rattle.std.specs.Prelude.{IfSome}
use Rattle.std.proofs.lemmas.Bool.{eqb-true}
use Rattle.pfs_admin.proofs.ActionRows.{frees_ascend}
use Rattle.pfs_admin.specs.ConnectionAsks.{account_tag, user_tag, host_tag, upper_tags, connect_work, quit_work, work_of_connect, work_of_quit}
use Rattle.pfs_admin.specs.AdministrationStates.{State, seat_at, seat_in, thread_flags, connected, has_quit}
use Rattle.pfs_admin.specs.Truncations.{free_ring}
use Rattle.pfs_admin.specs.Works.{Sign, Releases, Tags}
use Rattle.pfs_containers.proofs.SlotOwners.{free_filled, filled_others, emptied_none, emptied_others, quit_law}
use Rattle.pfs_containers.specs.Administration.{Containers, Found, found_where, lowest_free, connect_at, session_of, quit_line}
use Rattle.pfs_containers.specs.Connections.{entry_of, entry_at, fill_at, emptied_at}
use Rattle.pfs_containers.specs.Connections.{stepped as places_after}
use Rattle.pfs_containers.specs.PlaceInfos.{thread_info_of, account_info_of, user_info_of, host_info_of}
use Rattle.pfs_containers.specs.ContainerState.{HasPlaces, IsInRange, seat_by, seated}
use Rattle.pfs_containers.specs.declared.containers.Account.{Account}
use Rattle.pfs_containers.specs.declared.containers.Connection.{Connection}
use Rattle.pfs_containers.specs.InfoWords.{thread_words, account_words, name_words}
use Rattle.pfs_law_conservation.specs.InfoRowWords.{thread_said, account_said, user_said, host_said}
use Rattle.pfs_law_conservation.proofs.LevelPlaces.{read_at, level_said, connect_empty, connect_same, quit_empty, quit_same}
use Rattle.pfs_law_conservation.proofs.LevelSigns.{ascends_miss, news_front}
use Rattle.pfs_law_conservation.proofs.InfoNews.{news, news_miss, news_none, misses_then, apart, level_tags, level_misses, level_news}

-- a place that is free says nothing
pub thread_none : (c : Containers) (q : ℕ) → slice_index_or c.places.threads q None ≡ None → thread_said c q ≡ None
thread_none c q e = ap (λ (o : Option Connection). option_map (λ (x : Connection). thread_words (thread_info_of x)) o) e

pub account_none : (c : Containers) (q : ℕ) → slice_index_or c.places.accounts q None ≡ None → account_said c q ≡ None
account_none c q e = ap (λ (o : Option Account). option_map account_words (option_map (account_info_of c q) o)) e

pub user_none : (c : Containers) (q : ℕ) → slice_index_or c.places.users q None ≡ None → user_said c q ≡ None
user_none c q e = ap (λ (o : Option ℕ). option_map name_words (option_map (user_info_of c q) o)) e

pub host_none : (c : Containers) (q : ℕ) → slice_index_or c.places.hosts q None ≡ None → host_said c q ≡ None
host_none c q e = ap (λ (o : Option ℕ). option_map name_words (option_map (host_info_of c q) o)) e

-- what the levels say of a place
abbrev pub account_make : Account → ℕ → ℕ → List ℕ
account_make account now all = account_words (record {
  user_name = account.user_name;
  host_name = account.host_name;
  user = account.user;
  host = account.host;
  current = now;
  total = all;
})

abbrev pub name_make : ℕ → ℕ → ℕ → List ℕ
name_make name now all = name_words (record { name = name; current = now; total = all })

abbrev pub of_account : Connection → Option ℕ
of_account x = x.account

abbrev pub of_user : Connection → Option ℕ
of_user x = x.user

abbrev pub of_host : Connection → Option ℕ
of_host x = x.host

pub account_is : (c : Containers) (place : ℕ) → account_said c place ≡ level_said of_account account_make c.places.accounts c.places.threads c.account_totals place
account_is c place = on (slice_index_or c.places.accounts place None) where
  on : (o : Option Account) → option_map account_words (option_map (account_info_of c place) o) ≡ option_map (λ (account : Account). account_words (account_info_of c place account)) o
  on None = refl
  on (Some account) = refl

pub user_is : (c : Containers) (place : ℕ) → user_said c place ≡ level_said of_user name_make c.places.users c.places.threads c.user_totals place
user_is c place = on (slice_index_or c.places.users place None) where
  on : (o : Option ℕ) → option_map name_words (option_map (user_info_of c place) o) ≡ option_map (λ name. name_words (user_info_of c place name)) o
  on None = refl
  on (Some name) = refl

pub host_is : (c : Containers) (place : ℕ) → host_said c place ≡ level_said of_host name_make c.places.hosts c.places.threads c.host_totals place
host_is c place = on (slice_index_or c.places.hosts place None) where
  on : (o : Option ℕ) → option_map name_words (option_map (host_info_of c place) o) ≡ option_map (λ name. name_words (host_info_of c place name)) o
  on None = refl
  on (Some name) = refl

-- the signs of a session's account, user and host
account_tags : (c : Containers) (own : Option ℕ) → account_tag c own ≡ level_tags 33 (account_said c) own
account_tags c None = refl
account_tags c (Some place) = refl

user_tags : (c : Containers) (own : Option ℕ) → user_tag c own ≡ level_tags 65 (user_said c) own
user_tags c None = refl
user_tags c (Some place) = refl

host_tags : (c : Containers) (own : Option ℕ) → host_tag c own ≡ level_tags 97 (host_said c) own
host_tags c None = refl
host_tags c (Some place) = refl

no_more : (xs : List Sign) → xs ++ [] ≡ xs
no_more [] = refl
no_more (x ∷ xs) = ap (λ (zs : List Sign). x ∷ zs) (no_more xs)

inside : (o : Option ℕ) (n place : ℕ) → IfSome o (λ p. p < n) → o ≡ Some place → place < n
inside o n place l e = subst (λ z. IfSome z (λ p. p < n)) e l

module _ (c : Containers) (x : Connection) (has : HasPlaces 32 32 32 x) where
  abbrev accounts : List Sign
  accounts = level_tags 33 (account_said c) x.account

  abbrev users : List Sign
  users = level_tags 65 (user_said c) x.user

  abbrev hosts : List Sign
  hosts = level_tags 97 (host_said c) x.host

  uppers : upper_tags c x ≡ accounts ++ (users ++ hosts)
  uppers =
      ap (λ (zs : List Sign). zs ++ (user_tag c x.user ++ host_tag c x.host)) (account_tags c x.account)
      ∙ (ap (λ (zs : List Sign). accounts ++ (zs ++ host_tag c x.host)) (user_tags c x.user)
      ∙ ap (λ (zs : List Sign). accounts ++ (users ++ zs)) (host_tags c x.host))

  account_low : (place : ℕ) → x.account ≡ Some place → place < 32
  account_low place e = inside x.account 32 place has.account e

  user_low : (place : ℕ) → x.user ≡ Some place → place < 32
  user_low place e = inside x.user 32 place has.user e

  -- no row of a thread
  pub upper_none : (q : ℕ) (old : Option (List ℕ)) → q < 32 → news (upper_tags c x) (1 + q) old ≡ old
  upper_none q old l =
      ap (λ (zs : List Sign). news zs (1 + q) old) uppers
      ∙ news_none (1 + q) old (accounts ++ (users ++ hosts))
      (misses_then (1 + q) accounts (users ++ hosts) (level_misses 33 (1 + q) (account_said c) x.account (λ place e r. omega (arith, l, r)))
      (misses_then (1 + q) users hosts (level_misses 65 (1 + q) (user_said c) x.user (λ place e r. omega (arith, l, r)))
      (level_misses 97 (1 + q) (host_said c) x.host (λ place e r. omega (arith, l, r)))))

  pub account_news : (q : ℕ) (old : Option (List ℕ)) → q < 32 → (x.account ≡ Some q → account_said c q ≡ None → old ≡ None)
      → ((x.account ≡ Some q → ⊥) → account_said c q ≡ old) → account_said c q ≡ news (upper_tags c x) (33 + q) old
  account_news q old l empty same =
      level_news 33 q (account_said c) x.account old (users ++ hosts)
      (misses_then (33 + q) users hosts (level_misses 65 (33 + q) (user_said c) x.user (λ place e r. omega (arith, l, r)))
      (level_misses 97 (33 + q) (host_said c) x.host (λ place e r. omega (arith, l, r)))) empty same
      ∙ sym (ap (λ (zs : List Sign). news zs (33 + q) old) uppers)

  pub user_news : (q : ℕ) (old : Option (List ℕ)) → q < 32 → (x.user ≡ Some q → user_said c q ≡ None → old ≡ None)
      → ((x.user ≡ Some q → ⊥) → user_said c q ≡ old) → user_said c q ≡ news (upper_tags c x) (65 + q) old
  user_news q old l empty same =
      level_news 65 q (user_said c) x.user old hosts (level_misses 97 (65 + q) (host_said c) x.host (λ place e r. omega (arith, l, r))) empty same
      ∙ (sym (news_miss (65 + q) old accounts (users ++ hosts) (level_misses 33 (65 + q) (account_said c) x.account (λ place e r. let h : place < 32 = account_low place e in omega (arith, h, r))))
      ∙ sym (ap (λ (zs : List Sign). news zs (65 + q) old) uppers))

  pub host_news : (q : ℕ) (old : Option (List ℕ)) → q < 32 → (x.host ≡ Some q → host_said c q ≡ None → old ≡ None)
      → ((x.host ≡ Some q → ⊥) → host_said c q ≡ old) → host_said c q ≡ news (upper_tags c x) (97 + q) old
  host_news q old l empty same =
      level_news 97 q (host_said c) x.host old [] tt empty same
      ∙ (ap (λ (zs : List Sign). news zs (97 + q) old) (no_more hosts)
      ∙ (sym (news_miss (97 + q) old users hosts (level_misses 65 (97 + q) (user_said c) x.user (λ place e r. let h : place < 32 = user_low place e in omega (arith, h, r))))
      ∙ (sym (news_miss (97 + q) old accounts (users ++ hosts) (level_misses 33 (97 + q) (account_said c) x.account (λ place e r. let h : place < 32 = account_low place e in omega (arith, h, r))))
      ∙ sym (ap (λ (zs : List Sign). news zs (97 + q) old) uppers))))

-- the first sign, of the session's slot, is of no other level
past_first : (slot row : ℕ) → slot < 32 → 33 ≤ row → (1 + slot == row) ≡ false
past_first slot row l h = apart (1 + slot) row (λ e. omega (arith, l, h, e))

same_slot : (a b : ℕ) → (1 + a == 1 + b) ≡ (a == b)
same_slot a b = grind arith

not_slot : (a b : ℕ) → (a == b) ≡ false → b ≡ a → ⊥
not_slot a b q e = let t : (a == b) ≡ true = subst (λ z. (a == z) ≡ true) (sym e) (self a) in absurd (let k : true ≡ false = sym t ∙ q in cc) where
  self : (n : ℕ) → (n == n) ≡ true
  self n = grind arith

abbrev thread_text : Option Connection → Option (List ℕ)
thread_text o = option_map (λ (x : Connection). thread_words (thread_info_of x)) o

-- a connect that gets a slot
module _ (c : Containers) (number user host slot : ℕ) (free : lowest_free c.places.threads ≡ Some slot) (range : IsInRange (record { slot = slot; connection = session_of c.places number user host })) where
  abbrev x : Connection
  x = session_of c.places number user host

  abbrev after : Containers
  after = connect_at c number user host (Some slot)

  abbrev signs : List Sign
  signs = Tags (1 + slot) (thread_words (thread_info_of x)) ∷ upper_tags after x

  slot_low : slot < 32
  slot_low = range.slot

  skip : (row : ℕ) (old : Option (List ℕ)) → 33 ≤ row → news signs row old ≡ news (upper_tags after x) row old
  skip row old h = ap (λ b. cond b (Some (thread_words (thread_info_of x))) (news (upper_tags after x) row old)) (past_first slot row slot_low h)

  seat_thread : (q : ℕ) → q < 32 → thread_said after q ≡ news signs (1 + q) (thread_said c q)
  seat_thread q l = on (slot == q) refl where
    on : (b : Bool) → (slot == q) ≡ b → thread_said after q ≡ news signs (1 + q) (thread_said c q)
    on true e =
        ap thread_text (read_at (fill_at slot x c.places.threads) q ∙ (ap (entry_at (fill_at slot x c.places.threads)) (sym (eqb-true slot q e)) ∙ free_filled slot x c.places.threads free))
        ∙ sym (ap (λ b. cond b (Some (thread_words (thread_info_of x))) (news (upper_tags after x) (1 + q) (thread_said c q))) (same_slot slot q ∙ e))
    on false e =
        ap thread_text (read_at (fill_at slot x c.places.threads) q ∙ (filled_others slot q x c.places.threads (not_slot slot q e) ∙ sym (read_at c.places.threads q)))
        ∙ sym (ap (λ b. cond b (Some (thread_words (thread_info_of x))) (news (upper_tags after x) (1 + q) (thread_said c q))) (same_slot slot q ∙ e) ∙ upper_none after x range.places q (thread_said c q) l)

  seat_account : (q : ℕ) → q < 32 → account_said after q ≡ news signs (33 + q) (account_said c q)
  seat_account q l =
      account_news after x range.places q (account_said c q) l
      (λ e n. account_is c q ∙ connect_empty of_account account_make x slot q (entry_of x) c.places.accounts c.places.threads c.account_totals (sym (account_is after q) ∙ n))
      (λ ne. account_is after q ∙ (connect_same of_account account_make x slot q (entry_of x) c.places.accounts c.places.threads c.account_totals free ne ∙ sym (account_is c q)))
      ∙ sym (skip (33 + q) (account_said c q) (omega arith))

  seat_user : (q : ℕ) → q < 32 → user_said after q ≡ news signs (65 + q) (user_said c q)
  seat_user q l =
      user_news after x range.places q (user_said c q) l
      (λ e n. user_is c q ∙ connect_empty of_user name_make x slot q x.user_name c.places.users c.places.threads c.user_totals (sym (user_is after q) ∙ n))
      (λ ne. user_is after q ∙ (connect_same of_user name_make x slot q x.user_name c.places.users c.places.threads c.user_totals free ne ∙ sym (user_is c q)))
      ∙ sym (skip (65 + q) (user_said c q) (omega arith))

  seat_host : (q : ℕ) → q < 32 → host_said after q ≡ news signs (97 + q) (host_said c q)
  seat_host q l =
      host_news after x range.places q (host_said c q) l
      (λ e n. host_is c q ∙ connect_empty of_host name_make x slot q x.host_name c.places.hosts c.places.threads c.host_totals (sym (host_is after q) ∙ n))
      (λ ne. host_is after q ∙ (connect_same of_host name_make x slot q x.host_name c.places.hosts c.places.threads c.host_totals free ne ∙ sym (host_is c q)))
      ∙ sym (skip (97 + q) (host_said c q) (omega arith))

-- a quit of a session that stands in a slot
module _ (c : Containers) (f : Found Connection) (stands : entry_at c.places.threads f.place ≡ Some f.entry) (range : IsInRange (record { slot = f.place; connection = f.entry })) where
  abbrev left : Containers
  left = record c { places = places_after c.places (quit_line (Some f)) }

  abbrev quit_signs : List Sign
  quit_signs = Releases (1 + f.place) ∷ (upper_tags left f.entry ++ free_ring f.place)

  place_low : f.place < 32
  place_low = range.slot

  -- the places of its rings are no info rows
  skip_ring : (row : ℕ) (old : Option (List ℕ)) → row < 8450 → news (upper_tags left f.entry ++ free_ring f.place) row old ≡ news (upper_tags left f.entry) row old
  skip_ring row old l =
      news_front row old (upper_tags left f.entry) (free_ring f.place)
      (ascends_miss row (8450 + 56 * f.place) (8450 + 56 * f.place + 56) (free_ring f.place) (omega (arith, l)) (frees_ascend (8450 + 56 * f.place) 56))

  skip_quit : (row : ℕ) (old : Option (List ℕ)) → 33 ≤ row → row < 8450 → news quit_signs row old ≡ news (upper_tags left f.entry) row old
  skip_quit row old h l = ap (λ b. cond b None (news (upper_tags left f.entry ++ free_ring f.place) row old)) (past_first f.place row place_low h) ∙ skip_ring row old l

  quit_thread : (q : ℕ) → q < 32 → thread_said left q ≡ news quit_signs (1 + q) (thread_said c q)
  quit_thread q l = on (f.place == q) refl where
    on : (b : Bool) → (f.place == q) ≡ b → thread_said left q ≡ news quit_signs (1 + q) (thread_said c q)
    on true e =
        ap thread_text (read_at (emptied_at f.place c.places.threads) q ∙ (ap (entry_at (emptied_at f.place c.places.threads)) (sym (eqb-true f.place q e)) ∙ emptied_none f.place c.places.threads))
        ∙ sym (ap (λ b. cond b None (news (upper_tags left f.entry ++ free_ring f.place) (1 + q) (thread_said c q))) (same_slot f.place q ∙ e))
    on false e =
        ap thread_text (read_at (emptied_at f.place c.places.threads) q ∙ (emptied_others f.place q c.places.threads (not_slot f.place q e) ∙ sym (read_at c.places.threads q)))
        ∙ sym (ap (λ b. cond b None (news (upper_tags left f.entry ++ free_ring f.place) (1 + q) (thread_said c q))) (same_slot f.place q ∙ e) ∙ (skip_ring (1 + q) (thread_said c q) (omega (arith, l)) ∙ upper_none left f.entry range.places q (thread_said c q) l))

  quit_account : (q : ℕ) → q < 32 → account_said left q ≡ news quit_signs (33 + q) (account_said c q)
  quit_account q l =
      account_news left f.entry range.places q (account_said c q) l
      (λ e n. account_is c q ∙ quit_empty of_account account_make f.place q c.places.accounts c.places.threads c.account_totals (sym (account_is left q) ∙ n))
      (λ ne. account_is left q ∙ (quit_same of_account account_make f.entry f.place q c.places.accounts c.places.threads c.account_totals stands ne ∙ sym (account_is c q)))
      ∙ sym (skip_quit (33 + q) (account_said c q) (omega arith) (omega (arith, l)))

  quit_user : (q : ℕ) → q < 32 → user_said left q ≡ news quit_signs (65 + q) (user_said c q)
  quit_user q l =
      user_news left f.entry range.places q (user_said c q) l
      (λ e n. user_is c q ∙ quit_empty of_user name_make f.place q c.places.users c.places.threads c.user_totals (sym (user_is left q) ∙ n))
      (λ ne. user_is left q ∙ (quit_same of_user name_make f.entry f.place q c.places.users c.places.threads c.user_totals stands ne ∙ sym (user_is c q)))
      ∙ sym (skip_quit (65 + q) (user_said c q) (omega arith) (omega (arith, l)))

  quit_host : (q : ℕ) → q < 32 → host_said left q ≡ news quit_signs (97 + q) (host_said c q)
  quit_host q l =
      host_news left f.entry range.places q (host_said c q) l
      (λ e n. host_is c q ∙ quit_empty of_host name_make f.place q c.places.hosts c.places.threads c.host_totals (sym (host_is left q) ∙ n))
      (λ ne. host_is left q ∙ (quit_same of_host name_make f.entry f.place q c.places.hosts c.places.threads c.host_totals stands ne ∙ sym (host_is c q)))
      ∙ sym (skip_quit (97 + q) (host_said c q) (omega arith) (omega (arith, l)))

-- what the rows of the four levels are to say, behind signs
pub record AreSaid (before : Containers) (signs : List Sign) (after : Containers) : Type 0 where
  pub threads : (q : ℕ) → q < 32 → thread_said after q ≡ news signs (1 + q) (thread_said before q)
  pub accounts : (q : ℕ) → q < 32 → account_said after q ≡ news signs (33 + q) (account_said before q)
  pub users : (q : ℕ) → q < 32 → user_said after q ≡ news signs (65 + q) (user_said before q)
  pub hosts : (q : ℕ) → q < 32 → host_said after q ≡ news signs (97 + q) (host_said before q)

pub unsigned : (c : Containers) → AreSaid c [] c
unsigned c = record { threads = λ q l. refl; accounts = λ q l. refl; users = λ q l. refl; hosts = λ q l. refl }

pub connect_said : (s : State) (number user host : ℕ) → IfSome (seat_at s number user host) IsInRange
    → AreSaid s.kept.now (work_of_connect s number user host).signs (connected s number user host).kept.now
connect_said s number user host range = on (lowest_free s.kept.now.places.threads) refl range where
  c : Containers
  c = s.kept.now

  on : (o : Option ℕ) → lowest_free s.kept.now.places.threads ≡ o → IfSome (seat_by s.kept.now number user host o) IsInRange
      → AreSaid s.kept.now (connect_work s.words (thread_flags s user host) (connect_at s.kept.now number user host o) (seat_by s.kept.now number user host o)).signs (connect_at s.kept.now number user host o)
  on None free r = record { threads = λ q l. refl; accounts = λ q l. refl; users = λ q l. refl; hosts = λ q l. refl }
  on (Some slot) free r = record {
    threads = seat_thread s.kept.now number user host slot free r;
    accounts = seat_account s.kept.now number user host slot free r;
    users = seat_user s.kept.now number user host slot free r;
    hosts = seat_host s.kept.now number user host slot free r;
  }

pub quit_said : (s : State) (number : ℕ) → IfSome (seat_in s number) IsInRange
    → AreSaid s.kept.now (work_of_quit s number).signs (has_quit s number).kept.now
quit_said s number range = on (found_where (λ x. x.number == number) s.kept.now.places.threads) refl range where
  on : (o : Option (Found Connection)) → found_where (λ x. x.number == number) s.kept.now.places.threads ≡ o → IfSome (seated o) IsInRange
      → AreSaid s.kept.now (quit_work s.words s.cells (record s.kept.now { places = places_after s.kept.now.places (quit_line o) }) (seated o)).signs (record s.kept.now { places = places_after s.kept.now.places (quit_line o) })
  on None q r = unsigned s.kept.now
  on (Some f) q r = record {
    threads = quit_thread s.kept.now f stands r;
    accounts = quit_account s.kept.now f stands r;
    users = quit_user s.kept.now f stands r;
    hosts = quit_host s.kept.now f stands r;
  } where
    stands : entry_at s.kept.now.places.threads f.place ≡ Some f.entry
    stands = ((quit_law s.kept.now number).0 (record { slot = f.place; connection = f.entry }) (ap seated q)).1.own
