-- A connected session is the tenant of its rows.
use Rattle.std.proofs.Common.{◌⊎◌, inl, inr, ◌≡◌, ℕ, zero, suc, ◌+◌, ◌-◌, ◌<◌, ◌≤◌, ◌==◌, Bool, true, false, cond, List, [], ◌∷◌, ◌++◌, length, Option, Some, None, refl, sym, ap, ◌∙◌, subst, arith}
use Rattle.std.specs.Prelude.{unwrap_or}
use Rattle.std.proofs.lemmas.Bool.{eqb-true}
use Rattle.pfs_lemmas.proofs.Options.{none_some, some_same}
use Rattle.pfs_lemmas.proofs.Numbers.{eq_self}
use Rattle.pfs_conservation.specs.Ways.{Step, Rows, steps_of, step_to, before_by, Leads}
use Rattle.pfs_conservation.specs.PlaceFolds.{Place, Thread, Account, User, Host, Global, Session, entry_of, State, ByThread, ByAccount, ByUser, ByHost, ByAll, Line, Connects, Quits, Truncates, FreesAccounts, FreesUsers, FreesHosts, Others, line_takes, entry_at, fill_at, fill, emptied_at, kept_from, stepped, CellRows, ups, thread_ups, thread_owner, account_owner, user_owner, host_owner, owner_of, Lives}
use Rattle.pfs_conservation.specs.AdministrationFold.{Action, Quit, line_of, state_after, state_before}
use Rattle.pfs_conservation.specs.CellHolders.{Seat, Numbering, IsNumbering, rows_of, holder_at, holder_of, takes_by, own_place, own_at, map_row, way_of, IsSmall}
use Rattle.pfs_conservation.specs.Tenures.{IsBy, IsTenant}
use Rattle.pfs_conservation.specs.RowChains.{Change}
use Rattle.pfs_conservation.specs.Removals.{removal}
use Rattle.pfs_conservation.specs.Journeys.{is_from}
use Rattle.pfs_conservation.specs.RowMoves.{goes_to}
use Rattle.pfs_conservation.proofs.WayCases.{up_rows, home_rows, Goes, GoesAll, goes_way, leads_way, In}
use Rattle.pfs_conservation.proofs.RowOwners.{host_account}
use Rattle.pfs_conservation.proofs.Connects.{Sound, sound_after, lives_until}

before_joined : (xs ys : List Step) (row from : ℕ) → before_by (xs ++ ys) row ≡ Some from → (before_by xs row ≡ Some from) ⊎ (before_by ys row ≡ Some from)
before_joined [] ys row from h = inr h
before_joined (x ∷ xs) ys row from h = at (x.to == row) (before_joined xs ys row from) h
  where
    at : (b : Bool) → (before_by (xs ++ ys) row ≡ Some from → (before_by xs row ≡ Some from) ⊎ (before_by ys row ≡ Some from)) → cond b (Some x.from) (before_by (xs ++ ys) row) ≡ Some from → (cond b (Some x.from) (before_by xs row) ≡ Some from) ⊎ (before_by ys row ≡ Some from)
    at true ih h = inl h
    at false ih h = ih h

step_at : (base : ℕ) (to : Option ℕ) (row from : ℕ) → before_by (step_to base to) row ≡ Some from → (to ≡ Some row) × (from ≡ base)
step_at base None row from h = none_some from h
step_at base (Some x) row from h = at (x == row) refl h
  where
    at : (b : Bool) → (x == row) ≡ b → cond b (Some base) None ≡ Some from → (Some x ≡ Some row) × (from ≡ base)
    at true q h = (ap (λ (y : ℕ). Some y) (eqb-true x row q), sym (some_same base from h))
    at false q h = none_some from h

-- what a row of the way is
pub data WayRow (rows : Rows) (row from : ℕ) : Type 0 where
  AtGlobal : row ≡ rows.global → from ≡ unwrap_or rows.host (unwrap_or rows.account rows.home) → WayRow rows row from
  AtHost : rows.host ≡ Some row → from ≡ unwrap_or rows.account rows.home → WayRow rows row from
  AtUser : rows.user ≡ Some row → from ≡ unwrap_or rows.account rows.home → WayRow rows row from
  AtAccount : rows.account ≡ Some row → from ≡ rows.home → WayRow rows row from

pub way_row : (rows : Rows) (row from : ℕ) → before_by (steps_of rows) row ≡ Some from → WayRow rows row from
way_row rows row from h = at (rows.global == row) refl h
  where
    base : ℕ
    base = unwrap_or rows.account rows.home

    lower : (before_by (step_to (unwrap_or rows.account rows.home) rows.user) row ≡ Some from) ⊎ (before_by (step_to rows.home rows.account) row ≡ Some from) → WayRow rows row from
    lower (inl u) = AtUser (step_at (unwrap_or rows.account rows.home) rows.user row from u).0 (step_at (unwrap_or rows.account rows.home) rows.user row from u).1
    lower (inr a) = AtAccount (step_at rows.home rows.account row from a).0 (step_at rows.home rows.account row from a).1

    upper : (before_by (step_to (unwrap_or rows.account rows.home) rows.host) row ≡ Some from) ⊎ (before_by (step_to (unwrap_or rows.account rows.home) rows.user ++ step_to rows.home rows.account) row ≡ Some from) → WayRow rows row from
    upper (inl k) = AtHost (step_at (unwrap_or rows.account rows.home) rows.host row from k).0 (step_at (unwrap_or rows.account rows.home) rows.host row from k).1
    upper (inr more) = lower (before_joined (step_to (unwrap_or rows.account rows.home) rows.user) (step_to rows.home rows.account) row from more)

    at : (b : Bool) → (rows.global == row) ≡ b
        → cond b (Some (unwrap_or rows.host (unwrap_or rows.account rows.home))) (before_by (step_to (unwrap_or rows.account rows.home) rows.host ++ (step_to (unwrap_or rows.account rows.home) rows.user ++ step_to rows.home rows.account)) row) ≡ Some from → WayRow rows row from
    at true q h = AtGlobal (sym (eqb-true rows.global row q)) (sym (some_same (unwrap_or rows.host (unwrap_or rows.account rows.home)) from h))
    at false q h = upper (before_joined (step_to (unwrap_or rows.account rows.home) rows.host) (step_to (unwrap_or rows.account rows.home) rows.user ++ step_to rows.home rows.account) row from h)

abbrev pub Comes : List Step → ℕ → Type 0
Comes steps row = (below : ℕ) × (before_by steps row ≡ Some below)

comes_later : (x : Step) (xs : List Step) (row : ℕ) → Comes xs row → Comes (x ∷ xs) row
comes_later x xs row c = at (x.to == row) c
  where
    at : (b : Bool) → Comes xs row → (below : ℕ) × (cond b (Some x.from) (before_by xs row) ≡ Some below)
    at true c = (x.from, refl)
    at false c = c

comes_right : (xs ys : List Step) (row : ℕ) → Comes ys row → Comes (xs ++ ys) row
comes_right [] ys row c = c
comes_right (x ∷ xs) ys row c = comes_later x (xs ++ ys) row (comes_right xs ys row c)

comes_step : (base : ℕ) (to : Option ℕ) (row : ℕ) (rest : List Step) → to ≡ Some row → Comes (step_to base to ++ rest) row
comes_step base None row rest h = none_some row h
comes_step base (Some x) row rest h = (base, (let is : x ≡ row = some_same x row h in ap (λ (b : Bool). cond {A = Option ℕ} b (Some base) (before_by rest row)) (subst (λ y. (x == y) ≡ true) is (eq_self x))))

nil_right : (xs : List Step) → xs ++ [] ≡ xs
nil_right [] = refl
nil_right (x ∷ xs) = ap (λ ys. x ∷ ys) (nil_right xs)

pub comes_host : (rows : Rows) (h : ℕ) → rows.host ≡ Some h → Comes (steps_of rows) h
comes_host rows h q = comes_later (record { from = unwrap_or rows.host (unwrap_or rows.account rows.home); to = rows.global }) (step_to (unwrap_or rows.account rows.home) rows.host ++ (step_to (unwrap_or rows.account rows.home) rows.user ++ step_to rows.home rows.account)) h
    (comes_step (unwrap_or rows.account rows.home) rows.host h (step_to (unwrap_or rows.account rows.home) rows.user ++ step_to rows.home rows.account) q)

pub comes_user : (rows : Rows) (u : ℕ) → rows.user ≡ Some u → Comes (steps_of rows) u
comes_user rows u q = comes_later (record { from = unwrap_or rows.host (unwrap_or rows.account rows.home); to = rows.global }) (step_to (unwrap_or rows.account rows.home) rows.host ++ (step_to (unwrap_or rows.account rows.home) rows.user ++ step_to rows.home rows.account)) u
    (comes_right (step_to (unwrap_or rows.account rows.home) rows.host) (step_to (unwrap_or rows.account rows.home) rows.user ++ step_to rows.home rows.account) u
    (comes_step (unwrap_or rows.account rows.home) rows.user u (step_to rows.home rows.account) q))

pub before_global : (rows : Rows) → before_by (steps_of rows) rows.global ≡ Some (unwrap_or rows.host (unwrap_or rows.account rows.home))
before_global rows = ap (λ (b : Bool). cond {A = Option ℕ} b (Some (unwrap_or rows.host (unwrap_or rows.account rows.home))) (before_by (step_to (unwrap_or rows.account rows.home) rows.host ++ (step_to (unwrap_or rows.account rows.home) rows.user ++ step_to rows.home rows.account)) rows.global)) (eq_self rows.global)

pub comes_account : (rows : Rows) (a : ℕ) → rows.account ≡ Some a → Comes (steps_of rows) a
comes_account rows a q = comes_later (record { from = unwrap_or rows.host (unwrap_or rows.account rows.home); to = rows.global }) (step_to (unwrap_or rows.account rows.home) rows.host ++ (step_to (unwrap_or rows.account rows.home) rows.user ++ step_to rows.home rows.account)) a
    (comes_right (step_to (unwrap_or rows.account rows.home) rows.host) (step_to (unwrap_or rows.account rows.home) rows.user ++ step_to rows.home rows.account) a
    (comes_right (step_to (unwrap_or rows.account rows.home) rows.user) (step_to rows.home rows.account) a
    (subst (λ steps. Comes steps a) (nil_right (step_to rows.home rows.account)) (comes_step rows.home rows.account a [] q))))

unwrapped : (o : Option ℕ) (d x : ℕ) → x ≡ unwrap_or o d → (o ≡ Some x) ⊎ (x ≡ d)
unwrapped None d x h = inr h
unwrapped (Some y) d x h = inl (ap (λ (z : ℕ). Some z) (sym h))

not_home : {X : Type 0} (from home : ℕ) → (from == home) ≡ false → from ≡ home → X
not_home from home q h = absurd (bad from home q h)
  where
    bad : (a b : ℕ) → (a == b) ≡ false → a ≡ b → ⊥
    bad a b q h = grind (arith, q, h)

pub joins_way : (rows : Rows) (row from : ℕ) → before_by (steps_of rows) row ≡ Some from → (from == rows.home) ≡ false → Comes (steps_of rows) from
joins_way rows row from h away = at (way_row rows row from h)
  where
    base : from ≡ unwrap_or rows.account rows.home → Comes (steps_of rows) from
    base q = by (unwrapped rows.account rows.home from q)
      where
        by : (rows.account ≡ Some from) ⊎ (from ≡ rows.home) → Comes (steps_of rows) from
        by (inl a) = comes_account rows from a
        by (inr k) = not_home from rows.home away k

    top : (rows.host ≡ Some from) ⊎ (from ≡ unwrap_or rows.account rows.home) → Comes (steps_of rows) from
    top (inl k) = comes_host rows from k
    top (inr q) = base q

    at : WayRow rows row from → Comes (steps_of rows) from
    at (AtGlobal is q) = top (unwrapped rows.host (unwrap_or rows.account rows.home) from q)
    at (AtHost is q) = base q
    at (AtUser is q) = base q
    at (AtAccount is q) = not_home from rows.home away q

differ : {X : Type 0} → true ≡ false → X
differ h = absurd (cc)

-- what takes an upper row takes the rows below it
all_host : (line : Line) (h : ℕ) → line_takes line Global ≡ true → line_takes line (Host h) ≡ true
all_host (Truncates ByAll) h q = refl
all_host (Truncates ByThread) h q = differ (sym q)
all_host (Truncates ByAccount) h q = differ (sym q)
all_host (Truncates ByUser) h q = differ (sym q)
all_host (Truncates ByHost) h q = differ (sym q)
all_host FreesAccounts h q = differ (sym q)
all_host FreesUsers h q = differ (sym q)
all_host FreesHosts h q = differ (sym q)
all_host (Connects at new) h q = differ (sym q)
all_host (Quits other) h q = differ (sym q)
all_host Others h q = differ (sym q)

user_account : (line : Line) (u a : ℕ) → line_takes line (User u) ≡ true → line_takes line (Account a) ≡ true
user_account (Truncates ByUser) u a q = refl
user_account (Truncates ByAll) u a q = refl
user_account (Truncates ByThread) u a q = differ (sym q)
user_account (Truncates ByAccount) u a q = differ (sym q)
user_account (Truncates ByHost) u a q = differ (sym q)
user_account FreesUsers u a q = refl
user_account FreesAccounts u a q = differ (sym q)
user_account FreesHosts u a q = differ (sym q)
user_account (Connects at new) u a q = differ (sym q)
user_account (Quits other) u a q = differ (sym q)
user_account Others u a q = differ (sym q)

mapped : (f : ℕ → ℕ) (o : Option ℕ) (row : ℕ) → map_row f o ≡ Some row → (x : ℕ) × (o ≡ Some x) × (f x ≡ row)
mapped f None row h = none_some row h
mapped f (Some x) row h = (x, refl, some_same (f x) row h)

-- how many places there are never changes
fill_at_long : {X : Type 0} (n : ℕ) (new : X) (xs : List (Option X)) → length (fill_at n new xs) ≡ length xs
fill_at_long n new [] = refl
fill_at_long zero new (x ∷ xs) = refl
fill_at_long (suc n) new (x ∷ xs) = ap suc (fill_at_long n new xs)

fill_long : {X : Type 0} (n : Option ℕ) (new : X) (xs : List (Option X)) → length (fill n new xs) ≡ length xs
fill_long None new xs = refl
fill_long (Some n) new xs = fill_at_long n new xs

emptied_long : {X : Type 0} (n : ℕ) (xs : List (Option X)) → length (emptied_at n xs) ≡ length xs
emptied_long n [] = refl
emptied_long zero (x ∷ xs) = refl
emptied_long (suc n) (x ∷ xs) = ap suc (emptied_long n xs)

kept_long : {X : Type 0} (n : ℕ) (used : ℕ → Bool) (xs : List (Option X)) → length (kept_from n used xs) ≡ length xs
kept_long n used [] = refl
kept_long n used (x ∷ xs) = ap suc (kept_long (suc n) used xs)

le_by : (a b : ℕ) → a ≡ b → b ≤ 32 → a ≤ 32
le_by a b q l = omega arith

small_step : (s : State) (line : Line) → IsSmall s → IsSmall (stepped s line)
small_step s (Connects slot x) k = record { threads = le_by (length (fill_at slot x s.threads)) (length s.threads) (fill_at_long slot x s.threads) k.threads; accounts = le_by (length (fill x.account (entry_of x) s.accounts)) (length s.accounts) (fill_long x.account (entry_of x) s.accounts) k.accounts; users = le_by (length (fill x.user x.user_name s.users)) (length s.users) (fill_long x.user x.user_name s.users) k.users; hosts = le_by (length (fill x.host x.host_name s.hosts)) (length s.hosts) (fill_long x.host x.host_name s.hosts) k.hosts }
small_step s (Quits slot) k = record { threads = le_by (length (emptied_at slot s.threads)) (length s.threads) (emptied_long slot s.threads) k.threads; accounts = k.accounts; users = k.users; hosts = k.hosts }
small_step s (Truncates level) k = k
small_step s Others k = k
small_step s FreesAccounts k = record { threads = k.threads; accounts = simp kept_long k.accounts; users = k.users; hosts = k.hosts }
small_step s FreesUsers k = record { threads = k.threads; accounts = simp kept_long k.accounts; users = simp kept_long k.users; hosts = k.hosts }
small_step s FreesHosts k = record { threads = k.threads; accounts = simp kept_long k.accounts; users = k.users; hosts = simp kept_long k.hosts }

pub small_after : (opening : State) → IsSmall opening → (action : ℕ → Action) (n : ℕ) → IsSmall (state_after opening action n)
small_after opening k action zero = k
small_after opening k action (suc n) = small_step (state_after opening action n) (line_of 0 (state_after opening action n) (action (suc n))) (small_after opening k action n)

pub entry_low : {X : Type 0} (xs : List (Option X)) (n : ℕ) (x : X) → entry_at xs n ≡ Some x → suc n ≤ length xs
entry_low [] n x h = absurd (cc)
entry_low (y ∷ ys) zero x h = omega arith
entry_low (y ∷ ys) (suc n) x h = let ih : suc n ≤ length ys = entry_low ys n x h in omega arith

ups_same : (rows : CellRows) (home : ℕ) (account user host : Option ℕ) → ups rows user host ≡ up_rows (record { home = home; account = account; user = map_row rows.user user; host = map_row rows.host host; global = rows.global })
ups_same rows home account None None = refl
ups_same rows home account None (Some h) = refl
ups_same rows home account (Some u) None = refl
ups_same rows home account (Some u) (Some h) = refl

thread_same : (rows : CellRows) (slot number a b : ℕ) (account user host : Option ℕ) → thread_ups rows (record { number = number; user_name = a; host_name = b; account = account; user = user; host = host }) ≡ home_rows (way_of rows slot (record { number = number; user_name = a; host_name = b; account = account; user = user; host = host }))
thread_same rows slot number a b None user host = ups_same rows (rows.thread slot) None user host
thread_same rows slot number a b (Some c) user host = refl

module _ (n : Numbering) (good : IsNumbering n) (opening : State) (ok : Sound opening) (small : IsSmall opening) (action : ℕ → Action) (kind cell slot : ℕ) (x : Session) (connect : ℕ) (quit : Option ℕ) (low : n.is_cell cell ≡ true)
    (here : entry_at (state_after opening action connect).threads slot ≡ Some x) (quiet : (k : ℕ) → suc connect ≤ k → IsBy quit (suc k) → action k ≡ Quit x.number → ⊥) where
  lives_now : Lives (state_after opening action connect) slot x
  lives_now = (sound_after opening ok action connect).lives slot x here

  pub lives_before : (number : ℕ) → suc connect ≤ number → IsBy quit number → Lives (state_before opening action number) slot x
  lives_before zero l b = absurd (omega arith)
  lives_before (suc k) l b =
      let sum : connect + (k - connect) ≡ k = omega arith in
      subst (λ m. Lives (state_after opening action m) slot x) sum (lives_until opening ok action slot x connect here (k - connect) (λ m low high. quiet m low (sooner quit (suc m) (suc k) (omega arith) b)))
    where
      sooner : (q : Option ℕ) (a b : ℕ) → a ≤ b → IsBy q b → IsBy q a
      sooner None a b l h = tt
      sooner (Some q) a b l h = omega arith

  pub slot_low : slot < 32
  slot_low = let a : suc slot ≤ length (state_after opening action connect).threads = entry_low (state_after opening action connect).threads slot x here in let b : length (state_after opening action connect).threads ≤ 32 = (small_after opening small action connect).threads in omega arith

  pub account_low : (a : ℕ) → x.account ≡ Some a → a < 32
  account_low a h = let p : suc a ≤ length (state_after opening action connect).accounts = entry_low (state_after opening action connect).accounts a (entry_of x) (lives_now.account a h) in let b : length (state_after opening action connect).accounts ≤ 32 = (small_after opening small action connect).accounts in omega arith

  pub user_low : (a : ℕ) → x.user ≡ Some a → a < 32
  user_low a h = let p : suc a ≤ length (state_after opening action connect).users = entry_low (state_after opening action connect).users a x.user_name (lives_now.user a h) in let b : length (state_after opening action connect).users ≤ 32 = (small_after opening small action connect).users in omega arith

  pub host_low : (a : ℕ) → x.host ≡ Some a → a < 32
  host_low a h = let p : suc a ≤ length (state_after opening action connect).hosts = entry_low (state_after opening action connect).hosts a x.host_name (lives_now.host a h) in let b : length (state_after opening action connect).hosts ≤ 32 = (small_after opening small action connect).hosts in omega arith

  -- what a row of the session's way is
  pub data Sits (row from : ℕ) : Type 0 where
    SitsGlobal : n.seat row ≡ record { cell = cell; place = Global } → row ≡ n.row cell Global → from ≡ unwrap_or (map_row (rows_of n cell).host x.host) (unwrap_or (map_row (rows_of n cell).account x.account) (n.row cell (Thread slot))) → Sits row from
    SitsHost : (h : ℕ) → x.host ≡ Some h → n.seat row ≡ record { cell = cell; place = Host h } → row ≡ n.row cell (Host h) → from ≡ unwrap_or (map_row (rows_of n cell).account x.account) (n.row cell (Thread slot)) → Sits row from
    SitsUser : (u : ℕ) → x.user ≡ Some u → n.seat row ≡ record { cell = cell; place = User u } → row ≡ n.row cell (User u) → from ≡ unwrap_or (map_row (rows_of n cell).account x.account) (n.row cell (Thread slot)) → Sits row from
    SitsAccount : (a : ℕ) → x.account ≡ Some a → n.seat row ≡ record { cell = cell; place = Account a } → row ≡ n.row cell (Account a) → from ≡ n.row cell (Thread slot) → Sits row from

  pub sits : (row from : ℕ) → before_by (steps_of (way_of (rows_of n cell) slot x)) row ≡ Some from → Sits row from
  sits row from come = at (way_row (way_of (rows_of n cell) slot x) row from come)
    where
      at : WayRow (way_of (rows_of n cell) slot x) row from → Sits row from
      at (AtGlobal is q) = SitsGlobal (ap n.seat is ∙ good.seats cell Global low tt) is q
      at (AtHost is q) = let m : (y : ℕ) × (x.host ≡ Some y) × (n.row cell (Host y) ≡ row) = mapped (rows_of n cell).host x.host row is in
          SitsHost m.0 m.1 (ap n.seat (sym m.2) ∙ good.seats cell (Host m.0) low (host_low m.0 m.1)) (sym m.2) q
      at (AtUser is q) = let m : (y : ℕ) × (x.user ≡ Some y) × (n.row cell (User y) ≡ row) = mapped (rows_of n cell).user x.user row is in
          SitsUser m.0 m.1 (ap n.seat (sym m.2) ∙ good.seats cell (User m.0) low (user_low m.0 m.1)) (sym m.2) q
      at (AtAccount is q) = let m : (y : ℕ) × (x.account ≡ Some y) × (n.row cell (Account y) ≡ row) = mapped (rows_of n cell).account x.account row is in
          SitsAccount m.0 m.1 (ap n.seat (sym m.2) ∙ good.seats cell (Account m.0) low (account_low m.0 m.1)) (sym m.2) q

  pub home_seat : n.seat (n.row cell (Thread slot)) ≡ record { cell = cell; place = Thread slot }
  home_seat = good.seats cell (Thread slot) low slot_low

  pub holds_place : (number : ℕ) → suc connect ≤ number → IsBy quit number → (row from : ℕ) → before_by (steps_of (way_of (rows_of n cell) slot x)) row ≡ Some from → holder_of n opening action number row ≡ Some (own_at n x (n.seat row))
  holds_place number l b row from come = at (sits row from come)
    where
      Held : Seat → Type 0
      Held seat = holder_at n (state_before opening action number) seat ≡ Some (own_at n x seat)

      at : Sits row from → Held (n.seat row)
      at (SitsGlobal q is f) = subst Held (sym q) refl
      at (SitsHost h w q is f) = subst Held (sym q) (ap (owner_of (host_owner (rows_of n cell))) ((lives_before number l b).host h w))
      at (SitsUser u w q is f) = subst Held (sym q) (ap (owner_of user_owner) ((lives_before number l b).user u w))
      at (SitsAccount a w q is f) = subst Held (sym q) (ap (owner_of (account_owner (rows_of n cell))) ((lives_before number l b).account a w))

  pub holds_thread : (number : ℕ) → suc connect ≤ number → IsBy quit number → holder_of n opening action number (n.row cell (Thread slot)) ≡ Some (own_at n x (n.seat (n.row cell (Thread slot))))
  holds_thread number l b = subst (λ (seat : Seat). holder_at n (state_before opening action number) seat ≡ Some (own_at n x seat)) (sym home_seat) (ap (owner_of (thread_owner (rows_of n cell))) (lives_before number l b).thread)

  pub sweeps_way : (number row from : ℕ) → before_by (steps_of (way_of (rows_of n cell) slot x)) row ≡ Some from → (from == n.row cell (Thread slot)) ≡ false → takes_by n opening action kind number row ≡ true → takes_by n opening action kind number from ≡ true
  sweeps_way number row from come away takes = at (sits row from come)
    where
      ln : Line
      ln = line_of kind (state_before opening action number) (action number)

      Taken : Seat → Type 0
      Taken seat = line_takes (line_of kind (state_before opening action number) (action number)) seat.place ≡ true

      base : ((a : ℕ) → line_takes (line_of kind (state_before opening action number) (action number)) (Account a) ≡ true) → from ≡ unwrap_or (map_row (rows_of n cell).account x.account) (n.row cell (Thread slot)) → Taken (n.seat from)
      base all q = by (unwrapped (map_row (rows_of n cell).account x.account) (n.row cell (Thread slot)) from q)
        where
          by : (map_row (rows_of n cell).account x.account ≡ Some from) ⊎ (from ≡ n.row cell (Thread slot)) → Taken (n.seat from)
          by (inl a) = let m : (y : ℕ) × (x.account ≡ Some y) × (n.row cell (Account y) ≡ from) = mapped (rows_of n cell).account x.account from a in
              subst Taken (sym (ap n.seat (sym m.2) ∙ good.seats cell (Account m.0) low (account_low m.0 m.1))) (all m.0)
          by (inr k) = not_home from (n.row cell (Thread slot)) away k

      at : Sits row from → Taken (n.seat from)
      at (SitsGlobal q is f) = top (unwrapped (map_row (rows_of n cell).host x.host) (unwrap_or (map_row (rows_of n cell).account x.account) (n.row cell (Thread slot))) from f)
        where
          all : line_takes (line_of kind (state_before opening action number) (action number)) Global ≡ true
          all = subst Taken q takes

          top : (map_row (rows_of n cell).host x.host ≡ Some from) ⊎ (from ≡ unwrap_or (map_row (rows_of n cell).account x.account) (n.row cell (Thread slot))) → Taken (n.seat from)
          top (inl k) = let m : (y : ℕ) × (x.host ≡ Some y) × (n.row cell (Host y) ≡ from) = mapped (rows_of n cell).host x.host from k in
              subst Taken (sym (ap n.seat (sym m.2) ∙ good.seats cell (Host m.0) low (host_low m.0 m.1))) (all_host (line_of kind (state_before opening action number) (action number)) m.0 all)
          top (inr r) = base (λ a. host_account (line_of kind (state_before opening action number) (action number)) 0 a (all_host (line_of kind (state_before opening action number) (action number)) 0 all)) r
      at (SitsHost h w q is f) = base (λ a. host_account (line_of kind (state_before opening action number) (action number)) h a (subst Taken q takes)) f
      at (SitsUser u w q is f) = base (λ a. user_account (line_of kind (state_before opening action number) (action number)) u a (subst Taken q takes)) f
      at (SitsAccount a w q is f) = not_home from (n.row cell (Thread slot)) away f

  in_rows : (low_bound high : ℕ) (make : ℕ → Place) (o : Option ℕ) → ((y : ℕ) → o ≡ Some y → (low_bound ≤ n.row cell (make y)) × (n.row cell (make y) < high)) → In low_bound high (map_row (λ y. n.row cell (make y)) o)
  in_rows low_bound high make None h = tt
  in_rows low_bound high make (Some y) h = h y refl

  pub goes_all : GoesAll (way_of (rows_of n cell) slot x)
  goes_all = goes_way (n.row cell (Thread slot)) n.accounts n.users n.hosts (map_row (rows_of n cell).account x.account) (map_row (rows_of n cell).user x.user) (map_row (rows_of n cell).host x.host) (n.row cell Global)
      (good.between cell (Thread slot) low slot_low) good.users good.hosts (let g : n.globals ≤ n.row cell Global = good.between cell Global low tt in let k : n.hosts ≤ n.globals = good.globals in omega arith)
      (in_rows n.accounts n.users (λ y. Account y) x.account (λ y q. good.between cell (Account y) low (account_low y q)))
      (in_rows n.users n.hosts (λ y. User y) x.user (λ y q. good.between cell (User y) low (user_low y q)))
      (in_rows n.hosts (n.row cell Global) (λ y. Host y) x.host (λ y q. (let b : (n.hosts ≤ n.row cell (Host y)) × (n.row cell (Host y) < n.globals) = good.between cell (Host y) low (host_low y q) in let g : n.globals ≤ n.row cell Global = good.between cell Global low tt in (b.0, (let c : n.row cell (Host y) < n.globals = b.1 in omega arith)))))

  pub leads_all : Leads (n.row cell (Thread slot)) (steps_of (way_of (rows_of n cell) slot x))
  leads_all = leads_way (n.row cell (Thread slot)) n.accounts n.users n.hosts (map_row (rows_of n cell).account x.account) (map_row (rows_of n cell).user x.user) (map_row (rows_of n cell).host x.host) (n.row cell Global)
      (good.between cell (Thread slot) low slot_low) good.users good.hosts (let g : n.globals ≤ n.row cell Global = good.between cell Global low tt in let k : n.hosts ≤ n.globals = good.globals in omega arith)
      (in_rows n.accounts n.users (λ y. Account y) x.account (λ y q. good.between cell (Account y) low (account_low y q)))
      (in_rows n.users n.hosts (λ y. User y) x.user (λ y q. good.between cell (User y) low (user_low y q)))
      (in_rows n.hosts (n.row cell Global) (λ y. Host y) x.host (λ y q. (let b : (n.hosts ≤ n.row cell (Host y)) × (n.row cell (Host y) < n.globals) = good.between cell (Host y) low (host_low y q) in let g : n.globals ≤ n.row cell Global = good.between cell Global low tt in (b.0, (let c : n.row cell (Host y) < n.globals = b.1 in omega arith)))))

  way : Rows
  way = way_of (rows_of n cell) slot x

  nexts_at : (place : Place) (from row : ℕ) (nexts : List ℕ) → n.seat from ≡ record { cell = cell; place = place } → (own_place (rows_of n cell) x place).nexts ≡ nexts → Goes (way_of (rows_of n cell) slot x) from nexts → goes_to row (own_at n x (n.seat from)).nexts ≡ is_from from (before_by (steps_of (way_of (rows_of n cell) slot x)) row)
  nexts_at place from row nexts q e g = ap (λ (seat : Seat). goes_to row (own_at n x seat).nexts) q ∙ (ap (goes_to row) e ∙ g row)

  some_map : (make : ℕ → Place) (o : Option ℕ) (y row : ℕ) → o ≡ Some y → row ≡ n.row cell (make y) → map_row (λ z. n.row cell (make z)) o ≡ Some row
  some_map make o y row h q = ap (map_row (λ z. n.row cell (make z))) h ∙ ap (λ (r : ℕ). Some r) (sym q)

  nexts_way : (from below row : ℕ) → before_by (steps_of (way_of (rows_of n cell) slot x)) from ≡ Some below → goes_to row (own_at n x (n.seat from)).nexts ≡ is_from from (before_by (steps_of (way_of (rows_of n cell) slot x)) row)
  nexts_way from below row come = at (sits from below come)
    where
      at : Sits from below → goes_to row (own_at n x (n.seat from)).nexts ≡ is_from from (before_by (steps_of (way_of (rows_of n cell) slot x)) row)
      at (SitsGlobal q is f) = nexts_at Global from row [] q refl (subst (λ r. Goes (way_of (rows_of n cell) slot x) r []) (sym is) goes_all.global)
      at (SitsHost h w q is f) = nexts_at (Host h) from row (n.row cell Global ∷ []) q refl (goes_all.host from (some_map (λ y. Host y) x.host h from w is))
      at (SitsUser u w q is f) = nexts_at (User u) from row [] q refl (goes_all.user from (some_map (λ y. User y) x.user u from w is))
      at (SitsAccount a w q is f) = nexts_at (Account a) from row (up_rows (way_of (rows_of n cell) slot x)) q (ups_same (rows_of n cell) (n.row cell (Thread slot)) (map_row (rows_of n cell).account x.account) x.user x.host) (goes_all.account from (some_map (λ y. Account y) x.account a from w is))

  -- a connected session is the tenant of its rows
  pub tenant : (chains : ℕ → List Change) (event : ℕ)
      → ((number : ℕ) → removal event (chains (n.row cell (Thread slot))) ≡ Some number → (suc connect ≤ number) × IsBy quit number)
      → (removal event (chains (n.row cell (Thread slot))) ≡ None → quit ≡ None)
      → IsTenant chains (holder_of n opening action) (takes_by n opening action kind) event (n.row cell (Thread slot)) (steps_of (way_of (rows_of n cell) slot x)) (λ row. own_at n x (n.seat row)) connect quit
  tenant chains event bound unquit = record {
    holds_home = holds_thread;
    holds = λ number row from come l b. holds_place number l b row from come;
    nexts_home = λ row. nexts_at (Thread slot) (n.row cell (Thread slot)) row (home_rows (way_of (rows_of n cell) slot x)) home_seat (thread_same (rows_of n cell) slot x.number x.user_name x.host_name x.account x.user x.host) goes_all.home;
    nexts = nexts_way;
    bound = bound;
    sweeps = sweeps_way;
    joins = joins_way (way_of (rows_of n cell) slot x);
    stays_home = λ none number l. holds_thread number l (subst (λ q. IsBy q number) (sym (unquit none)) tt);
  }
