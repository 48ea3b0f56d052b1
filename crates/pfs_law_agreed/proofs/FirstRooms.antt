-- What the administration is behind connects alone, as long as each finds room.
use Rattle.std.proofs.Common.{ℕ, zero, suc, ◌≡◌, ◌+◌, ◌-◌, ◌<◌, ◌≤◌, ◌==◌, Bool, true, false, cond, List, [], ◌∷◌, length, replicate, Option, Some, None, get_or, refl, ap, sym, ◌∙◌, subst, arith}
use Rattle.std.specs.Prelude.{if◌then◌else◌, is_some, slice_set, take}
use Rattle.std.proofs.lemmas.List.{get_or-set_other}
use Rattle.pfs_admin.specs.AdministrationStates.{State, connected, seat_at, thread_flags, words_by}
use Rattle.pfs_admin.specs.Fold.{state_from, state_of, stepped}
use Rattle.pfs_admin.specs.OpeningState.{opened}
use Rattle.pfs_admin.specs.Works.{flagged, set_word, word_at}
use Rattle.pfs_admin.specs.declared.changes.Change.{Change}
use Rattle.pfs_admin.specs.declared.changes.Change.TheVariants as changes
use Rattle.pfs_board.specs.declared.view.Label.{Label}
use Rattle.pfs_classes.specs.declared.setting.Setting.{Setting}
use Rattle.pfs_containers.specs.Administration.{Containers, Found, connect_at, found_or, found_where, is_account, lost_by, lowest_free, missing, named_place, next_place, one_up, session_by, session_of}
use Rattle.pfs_containers.specs.Administration.{connected as seated_in}
use Rattle.pfs_containers.specs.Connections.{entry_of, fill, fill_at}
use Rattle.pfs_containers.specs.ContainerState.{AllEntries, seat_by}
use Rattle.pfs_containers.specs.declared.containers.Account.{Account}
use Rattle.pfs_containers.specs.declared.containers.Connection.{Connection}
use Rattle.pfs_containers.specs.declared.containers.Seated.{Seated}
use Rattle.pfs_levels.specs.declared.answers.Word.{Word}
use Rattle.pfs_law_agreed.specs.FirstPhases.{HasRoom}

abbrev pub IsConnect : Change → Type 0
IsConnect (changes.Connect user host) = Unit {0}
IsConnect _ = ⊥

-- ---- places

-- the first k are taken, the others free
abbrev Filled : {X : Type 0} → ℕ → List (Option X) → Type 0
Filled zero [] = Unit {0}
Filled zero (None ∷ xs) = Filled zero xs
Filled zero (Some x ∷ xs) = ⊥
Filled (suc k) [] = ⊥
Filled (suc k) (None ∷ xs) = ⊥
Filled (suc k) (Some x ∷ xs) = Filled k xs

abbrev free_in : {X : Type 0} → List (Option X) → ℕ
free_in [] = 0
free_in (None ∷ xs) = 1 + free_in xs
free_in (Some x ∷ xs) = free_in xs

filled_free : (X : Type 0) (n : ℕ) → Filled {X = X} 0 (replicate n None)
filled_free X zero = tt
filled_free X (suc n) = filled_free X n

free_all : (X : Type 0) (n : ℕ) → free_in {X = X} (replicate n None) ≡ n
free_all X zero = refl
free_all X (suc n) = let h : free_in {X = X} (replicate n None) ≡ n = free_all X n in omega (arith, h)

length_free : (X : Type 0) (n : ℕ) → length {A = Option X} (replicate n None) ≡ n
length_free X zero = refl
length_free X (suc n) = let h : length {A = Option X} (replicate n None) ≡ n = length_free X n in omega (arith, h)

lowest_of : {X : Type 0} (k : ℕ) (xs : List (Option X)) → Filled k xs → k < length xs → lowest_free xs ≡ Some k
lowest_of zero [] f l = absurd (omega (arith, l))
lowest_of zero (None ∷ xs) f l = refl
lowest_of zero (Some x ∷ xs) f l = absurd f
lowest_of (suc k) [] f l = absurd f
lowest_of (suc k) (None ∷ xs) f l = absurd f
lowest_of (suc k) (Some x ∷ xs) f l = ap next_place (lowest_of k xs f (omega (arith, l)))

filled_next : {X : Type 0} (k : ℕ) (new : X) (xs : List (Option X)) → Filled k xs → k < length xs → Filled (suc k) (fill_at k new xs)
filled_next zero new [] f l = absurd (omega (arith, l))
filled_next zero new (None ∷ xs) f l = f
filled_next zero new (Some x ∷ xs) f l = absurd f
filled_next (suc k) new [] f l = absurd f
filled_next (suc k) new (None ∷ xs) f l = absurd f
filled_next (suc k) new (Some x ∷ xs) f l = filled_next k new xs f (omega (arith, l))

length_filled : {X : Type 0} (n : ℕ) (new : X) (xs : List (Option X)) → length (fill_at n new xs) ≡ length xs
length_filled n new [] = refl
length_filled zero new (x ∷ xs) = refl
length_filled (suc n) new (x ∷ xs) = let h : length (fill_at n new xs) ≡ length xs = length_filled n new xs in omega (arith, h)

free_filled : {X : Type 0} (n : ℕ) (new : X) (xs : List (Option X)) → free_in xs ≤ free_in (fill_at n new xs) + 1
free_filled n new [] = omega arith
free_filled zero new (None ∷ xs) = omega arith
free_filled zero new (Some x ∷ xs) = omega arith
free_filled (suc n) new (None ∷ xs) = let h : free_in xs ≤ free_in (fill_at n new xs) + 1 = free_filled n new xs in omega (arith, h)
free_filled (suc n) new (Some x ∷ xs) = free_filled n new xs

free_fill : {X : Type 0} (o : Option ℕ) (new : X) (xs : List (Option X)) → free_in xs ≤ free_in (fill o new xs) + 1
free_fill None new xs = omega arith
free_fill (Some n) new xs = free_filled n new xs

next_some : (o : Option ℕ) → is_some o ≡ true → is_some (next_place o) ≡ true
next_some None h = h
next_some (Some n) h = refl

lowest_some : {X : Type 0} (xs : List (Option X)) → 1 ≤ free_in xs → is_some (lowest_free xs) ≡ true
lowest_some [] l = absurd (omega (arith, l))
lowest_some (None ∷ xs) l = refl
lowest_some (Some x ∷ xs) l = next_some (lowest_free xs) (lowest_some xs l)

named_some : (name : ℕ) (xs : List (Option ℕ)) → 1 ≤ free_in xs → is_some (named_place name xs) ≡ true
named_some name xs l = by (found_where (λ x. x == name) xs) where
  by : (f : Option (Found ℕ)) → is_some (found_or f (lowest_free xs)) ≡ true
  by None = lowest_some xs l
  by (Some f) = refl

-- ---- accounts, each with its user and its host

abbrev HasBoth : Account → Type 0
HasBoth one = (is_some one.user ≡ true) × (is_some one.host ≡ true)

up_entry : (P : Account → Type 0) (o : Option (Found Account)) (f : Found Account) → ((g : Found Account) → o ≡ Some g → P g.entry) → one_up o ≡ Some f → P f.entry
up_entry P None f h e = absurd (cc)
up_entry P (Some g) f h e = let s : record { place = suc g.place; entry = g.entry } ≡ f = cc in subst (λ (z : Found Account). P z.entry) s (h g refl)

found_entry : (P : Account → Type 0) (test : Account → Bool) (xs : List (Option Account)) → AllEntries P xs → (f : Found Account) → found_where test xs ≡ Some f → P f.entry
found_entry P test [] h f e = absurd (cc)
found_entry P test (None ∷ xs) h f e = up_entry P (found_where test xs) f (found_entry P test xs h) e
found_entry P test (Some x ∷ xs) h f e = at (test x) e (found_entry P test xs h.1) where
  at : (b : Bool) → cond b (Some (record { place = 0; entry = x })) (one_up (found_where test xs)) ≡ Some f → ((g : Found Account) → found_where test xs ≡ Some g → P g.entry) → P f.entry
  at true e go = let s : record { place = 0; entry = x } ≡ f = cc in subst (λ (z : Found Account). P z.entry) s h.0
  at false e go = up_entry P (found_where test xs) f go e

filled_entries : (P : Account → Type 0) (n : ℕ) (new : Account) (xs : List (Option Account)) → P new → AllEntries P xs → AllEntries P (fill_at n new xs)
filled_entries P n new [] p h = tt
filled_entries P zero new (None ∷ xs) p h = (p, h)
filled_entries P zero new (Some x ∷ xs) p h = h
filled_entries P (suc n) new (None ∷ xs) p h = filled_entries P n new xs p h
filled_entries P (suc n) new (Some x ∷ xs) p h = (h.0, filled_entries P n new xs p h.1)

fill_entries : (P : Account → Type 0) (o : Option ℕ) (new : Account) (xs : List (Option Account)) → P new → AllEntries P xs → AllEntries P (fill o new xs)
fill_entries P None new xs p h = h
fill_entries P (Some n) new xs p h = filled_entries P n new xs p h

free_entries : (P : Account → Type 0) (n : ℕ) → AllEntries P (replicate n None)
free_entries P zero = tt
free_entries P (suc n) = free_entries P n

-- ---- the state behind k connects

pub record IsOpen (setting : Setting) (k : ℕ) (s : State) : Type 0 where
  threads : Filled k s.kept.now.places.threads
  room : length s.kept.now.places.threads ≡ setting.limits.thread_instances
  accounts : setting.limits.accounts ≤ free_in s.kept.now.places.accounts + k
  users : setting.limits.users ≤ free_in s.kept.now.places.users + k
  hosts : setting.limits.hosts ≤ free_in s.kept.now.places.hosts + k
  known : AllEntries HasBoth s.kept.now.places.accounts
  pub lost_threads : s.kept.now.lost_threads ≡ 0
  pub lost_accounts : s.kept.now.lost_accounts ≡ 0
  pub lost_users : s.kept.now.lost_users ≡ 0
  pub lost_hosts : s.kept.now.lost_hosts ≡ 0
  pub words : (at : ℕ) → k + 1 ≤ at → word_at s.words at ≡ word_at (opened setting).words at
  pub actors : s.actors ≡ (opened setting).actors
  pub names : s.names ≡ setting.names

pub open_first : (setting : Setting) → IsOpen setting 0 (opened setting)
open_first setting = record {
  threads = filled_free Connection setting.limits.thread_instances;
  room = length_free Connection setting.limits.thread_instances;
  accounts = let e : free_in {X = Account} (replicate setting.limits.accounts None) ≡ setting.limits.accounts = free_all Account setting.limits.accounts in omega (arith, e);
  users = let e : free_in {X = ℕ} (replicate setting.limits.users None) ≡ setting.limits.users = free_all ℕ setting.limits.users in omega (arith, e);
  hosts = let e : free_in {X = ℕ} (replicate setting.limits.hosts None) ≡ setting.limits.hosts = free_all ℕ setting.limits.hosts in omega (arith, e);
  known = free_entries HasBoth setting.limits.accounts;
  lost_threads = refl;
  lost_accounts = refl;
  lost_users = refl;
  lost_hosts = refl;
  words = λ at l. refl;
  actors = refl;
  names = refl;
}

-- a session that has all places
pub record HasAll (x : Connection) : Type 0 where
  pub account : is_some x.account ≡ true
  pub user : is_some x.user ≡ true
  pub host : is_some x.host ≡ true

none_missing : (o : Option ℕ) → is_some o ≡ true → missing o ≡ 0
none_missing None h = absurd (cc)
none_missing (Some n) h = refl

none_lost : (f : Option (Found Account)) (o : Option ℕ) → is_some o ≡ true → lost_by f o ≡ 0
none_lost None o h = none_missing o h
none_lost (Some f) o h = refl

flags_stay : (words : List Word) (at flags w : ℕ) → at < w → word_at (flagged words at flags) w ≡ word_at words w
flags_stay words at flags w l = by ((word_at words at).flags == flags) where
  by : (b : Bool) → word_at (if b then words else slice_set words at (set_word (word_at words at) flags)) w ≡ word_at words w
  by true = refl
  by false = get_or-set_other words at w (set_word (word_at words at) flags) (record { version = 0; flags = 0 }) (λ e. absurd (omega (arith, e, l)))

module _ (setting : Setting) (k number user host : ℕ) (s : State) (is : IsOpen setting k s) (room : HasRoom setting (suc k)) where
  abbrev now : Containers
  now = s.kept.now

  lowest : lowest_free s.kept.now.places.threads ≡ Some k
  lowest = lowest_of k s.kept.now.places.threads is.threads (let e : length s.kept.now.places.threads ≡ setting.limits.thread_instances = is.room in let l : suc k ≤ setting.limits.thread_instances = room.0 in omega (arith, e, l))

  abbrev pub session : Connection
  session = session_of s.kept.now.places number user host

  accounts_free : 1 ≤ free_in s.kept.now.places.accounts
  accounts_free = let e : setting.limits.accounts ≤ free_in s.kept.now.places.accounts + k = is.accounts in let l : suc k ≤ setting.limits.accounts = room.1 in omega (arith, e, l)

  users_free : 1 ≤ free_in s.kept.now.places.users
  users_free = let e : setting.limits.users ≤ free_in s.kept.now.places.users + k = is.users in let l : suc k ≤ setting.limits.users = room.2 in omega (arith, e, l)

  hosts_free : 1 ≤ free_in s.kept.now.places.hosts
  hosts_free = let e : setting.limits.hosts ≤ free_in s.kept.now.places.hosts + k = is.hosts in let l : suc k ≤ setting.limits.hosts = room.3 in omega (arith, e, l)

  pub has_all : HasAll (session_of s.kept.now.places number user host)
  has_all = by (found_where (is_account user host) s.kept.now.places.accounts) refl where
    by : (f : Option (Found Account)) → found_where (is_account user host) s.kept.now.places.accounts ≡ f → HasAll (session_by s.kept.now.places number user host f)
    by None e = record { account = lowest_some s.kept.now.places.accounts accounts_free; user = named_some user s.kept.now.places.users users_free; host = named_some host s.kept.now.places.hosts hosts_free }
    by (Some f) e = let b : HasBoth f.entry = found_entry HasBoth (is_account user host) s.kept.now.places.accounts is.known f e in record { account = refl; user = b.0; host = b.1 }

  -- the session takes the slot k
  pub seat_is : seat_at s number user host ≡ Some (record { slot = k; connection = session_of s.kept.now.places number user host })
  seat_is = ap (seat_by s.kept.now number user host) lowest

  abbrev behind : Option ℕ → State
  behind o = record s {
    kept = record { now = connect_at s.kept.now number user host o; connects = s.kept.connects + 1 };
    words = words_by s.words (thread_flags s user host) (seat_by s.kept.now number user host o);
    actions = s.actions + 1;
  }

  pub open_next : IsOpen setting (suc k) (connected s number user host)
  open_next = subst (λ o. IsOpen setting (suc k) (behind o)) (sym lowest) (record {
    threads = filled_next k session now.places.threads is.threads (let e : length s.kept.now.places.threads ≡ setting.limits.thread_instances = is.room in let l : suc k ≤ setting.limits.thread_instances = room.0 in omega (arith, e, l));
    room = length_filled k session now.places.threads ∙ is.room;
    accounts = (let f : free_in now.places.accounts ≤ free_in (fill session.account (entry_of session) now.places.accounts) + 1 = free_fill session.account (entry_of session) now.places.accounts in let e : setting.limits.accounts ≤ free_in now.places.accounts + k = is.accounts in omega (arith, e, f));
    users = (let f : free_in now.places.users ≤ free_in (fill session.user session.user_name now.places.users) + 1 = free_fill session.user session.user_name now.places.users in let e : setting.limits.users ≤ free_in now.places.users + k = is.users in omega (arith, e, f));
    hosts = (let f : free_in now.places.hosts ≤ free_in (fill session.host session.host_name now.places.hosts) + 1 = free_fill session.host session.host_name now.places.hosts in let e : setting.limits.hosts ≤ free_in now.places.hosts + k = is.hosts in omega (arith, e, f));
    known = fill_entries HasBoth session.account (entry_of session) now.places.accounts (has_all.user, has_all.host) is.known;
    lost_threads = is.lost_threads;
    lost_accounts = sums now.lost_accounts (lost_by found session.account) is.lost_accounts (none_lost found session.account has_all.account);
    lost_users = sums now.lost_users (lost_by found session.user) is.lost_users (none_lost found session.user has_all.user);
    lost_hosts = sums now.lost_hosts (lost_by found session.host) is.lost_hosts (none_lost found session.host has_all.host);
    words = λ at l. flags_stay s.words (1 + k) (thread_flags s user host) at (omega (arith, l)) ∙ is.words at (omega (arith, l));
    actors = is.actors;
    names = is.names;
  }) where
    found : Option (Found Account)
    found = found_where (is_account user host) s.kept.now.places.accounts

    sums : (a b : ℕ) → a ≡ 0 → b ≡ 0 → a + b ≡ 0
    sums a b e f = omega (arith, e, f)

-- ---- along a list of labels

-- the first of these are labels of connects
abbrev pub AreConnects : (Label → Change) → ℕ → List Label → Type 0
AreConnects change zero labels = Unit {0}
AreConnects change (suc n) [] = ⊥
AreConnects change (suc n) (label ∷ labels) = IsConnect (change label) × AreConnects change n labels

pub room_less : (setting : Setting) (a b : ℕ) → a ≤ b → HasRoom setting b → HasRoom setting a
room_less setting a b l r =
    let x : b ≤ setting.limits.thread_instances = r.0 in
    let y : b ≤ setting.limits.accounts = r.1 in
    let z : b ≤ setting.limits.users = r.2 in
    let w : b ≤ setting.limits.hosts = r.3 in
    (omega (arith, l, x), omega (arith, l, y), omega (arith, l, z), omega (arith, l, w))

pub open_after : (setting : Setting) (change : Label → Change) (n k : ℕ) (labels : List Label) (s : State) → AreConnects change n labels → HasRoom setting (k + n) → IsOpen setting k s → IsOpen setting (k + n) (state_from change s (take n labels))
unfolding state_from
open_after setting change zero k labels s c r is = subst (λ m. IsOpen setting m s) (same k) is where
  same : (k : ℕ) → k ≡ k + 0
  same k = omega arith
open_after setting change (suc n) k [] s c r is = absurd c
open_after setting change (suc n) k (label ∷ labels) s c r is = at (change label) refl c.0 (λ t h. open_after setting change n (suc k) labels t c.1 (room_less setting (suc k + n) (k + suc n) (omega arith) r) h) where
  more : (k n : ℕ) → suc k + n ≡ k + suc n
  more k n = omega arith

  at : (what : Change) → change label ≡ what → IsConnect what → ((t : State) → IsOpen setting (suc k) t → IsOpen setting (suc k + n) (state_from change t (take n labels)))
      → IsOpen setting (k + suc n) (state_from change (stepped s label.session what) (take n labels))
  at (changes.Connect user host) e i go = subst (λ m. IsOpen setting m (state_from change (connected s label.session user host) (take n labels))) (more k n) (go (connected s label.session user host) (open_next setting k label.session user host s is (room_less setting (suc k) (k + suc n) (omega arith) r)))
  at changes.Quit e i go = absurd i
  at (changes.Truncate what) e i go = absurd i
  at (changes.Setup what) e i go = absurd i
