-- An owner goes only at an action that takes its row, and not while a session of it is connected.
use Rattle.std.proofs.Common.{◌≡◌, ℕ, zero, suc, ◌+◌, ◌==◌, ◌||◌, Bool, true, false, cond, List, [], ◌∷◌, Option, Some, None, refl, sym, ap, ◌∙◌, arith}
use Rattle.std.proofs.lemmas.Bool.{eqb-true, or_left, or_right}
use Rattle.pfs_lemmas.proofs.Numbers.{eq_self}
use Rattle.pfs_conservation.specs.Journeys.{is_from}
use Rattle.pfs_conservation.specs.Tenures.{Owner}
use Rattle.pfs_conservation.specs.PlaceFolds.{Place, Thread, Account, User, Host, Global, Elsewhere, Session, entry_of, State, ByThread, ByAccount, ByUser, ByHost, ByAll, Line, Connects, Quits, Truncates, FreesAccounts, FreesUsers, FreesHosts, Others, line_takes, entry_at, fill_at, fill, emptied_at, kept_from, has_by, in_use, kept_if, stepped, CellRows, thread_owner, account_owner, user_owner, host_owner, owner_of, holder_in, quits, Lives}

pub clash : {X Y : Type 0} (x : X) → ◌≡◌ {A = Option X} None (Some x) → Y
clash x h = absurd (cc)

pub differ : {X : Type 0} → true ≡ false → X
differ h = absurd (cc)

pub fill_at_keeps : {X : Type 0} (n : ℕ) (new : X) (xs : List (Option X)) (t : ℕ) (x : X) → entry_at xs t ≡ Some x → entry_at (fill_at n new xs) t ≡ Some x
fill_at_keeps n new [] t x h = h
fill_at_keeps zero new (None ∷ ys) zero x h = clash x h
fill_at_keeps zero new (Some y ∷ ys) zero x h = h
fill_at_keeps zero new (y ∷ ys) (suc t) x h = h
fill_at_keeps (suc n) new (y ∷ ys) zero x h = h
fill_at_keeps (suc n) new (y ∷ ys) (suc t) x h = fill_at_keeps n new ys t x h

pub fill_keeps : {X : Type 0} (place : Option ℕ) (new : X) (xs : List (Option X)) (t : ℕ) (x : X) → entry_at xs t ≡ Some x → entry_at (fill place new xs) t ≡ Some x
fill_keeps None new xs t x h = h
fill_keeps (Some n) new xs t x h = fill_at_keeps n new xs t x h

pub emptied_is : {X : Type 0} (n : ℕ) (xs : List (Option X)) (t : ℕ) → entry_at (emptied_at n xs) t ≡ cond (t == n) None (entry_at xs t)
emptied_is {X = X} n [] t = at (t == n)
  where
    at : (b : Bool) → ◌≡◌ {A = Option X} None (cond b None None)
    at true = refl
    at false = refl
emptied_is zero (x ∷ xs) zero = refl
emptied_is zero (x ∷ xs) (suc t) = sym (ap (λ b. cond b None (entry_at xs t)) (high_low t))
  where
    high_low : (t : ℕ) → (suc t == 0) ≡ false
    high_low t = grind arith
emptied_is (suc n) (x ∷ xs) zero = sym (ap (λ b. cond b None x) (low_high n))
  where
    low_high : (t : ℕ) → (0 == suc t) ≡ false
    low_high t = grind arith
emptied_is (suc n) (x ∷ xs) (suc t) = emptied_is n xs t ∙ ap (λ b. cond b None (entry_at xs t)) (both t n)
  where
    both : (a b : ℕ) → (a == b) ≡ (suc a == suc b)
    both a b = grind arith

pub kept_is : {X : Type 0} (n : ℕ) (used : ℕ → Bool) (xs : List (Option X)) (t : ℕ) → entry_at (kept_from n used xs) t ≡ kept_if (used (n + t)) (entry_at xs t)
kept_is {X = X} n used [] t = at (used (n + t))
  where
    at : (b : Bool) → ◌≡◌ {A = Option X} None (kept_if b None)
    at true = refl
    at false = refl
kept_is n used (x ∷ xs) zero = ap (λ k. kept_if (used k) x) (plus n)
  where
    plus : (n : ℕ) → n ≡ n + 0
    plus n = omega arith
kept_is n used (x ∷ xs) (suc t) = kept_is (suc n) used xs t ∙ ap (λ k. kept_if (used k) (entry_at xs t)) (plus n t)
  where
    plus : (n t : ℕ) → suc n + t ≡ n + suc t
    plus n t = omega arith

pub kept_at : {X : Type 0} (used : ℕ → Bool) (xs : List (Option X)) (t : ℕ) → entry_at (kept_from 0 used xs) t ≡ kept_if (used t) (entry_at xs t)
kept_at used xs t = kept_is 0 used xs t ∙ ap (λ k. kept_if (used k) (entry_at xs t)) (plus t)
  where
    plus : (n : ℕ) → 0 + n ≡ n
    plus n = omega arith

-- an owner is somebody's
owned : {X : Type 0} (make : X → Owner) (xs ys : List (Option X)) (t : ℕ) (o : Owner) → ((x : X) → entry_at xs t ≡ Some x → entry_at ys t ≡ Some x) → owner_of make (entry_at xs t) ≡ Some o → owner_of make (entry_at ys t) ≡ Some o
owned {X = X} make xs ys t o keeps h = at (entry_at xs t) refl h
  where
    at : (e : Option X) → entry_at xs t ≡ e → owner_of make e ≡ Some o → owner_of make (entry_at ys t) ≡ Some o
    at None q h = clash o h
    at (Some x) q h = ap (owner_of make) (keeps x q) ∙ h

-- an owner goes only at an action that takes its row
pub owner_stays : (rows : CellRows) (s : State) (line : Line) (place : Place) (o : Owner) → holder_in rows s place ≡ Some o → line_takes line place ≡ false → holder_in rows (stepped s line) place ≡ Some o
owner_stays rows s (Connects slot x) (Thread t) o h f = owned (thread_owner rows) s.threads (fill_at slot x s.threads) t o (λ y q. fill_at_keeps slot x s.threads t y q) h
owner_stays rows s (Connects slot x) (Account a) o h f = owned (account_owner rows) s.accounts (fill x.account (entry_of x) s.accounts) a o (λ y q. fill_keeps x.account (entry_of x) s.accounts a y q) h
owner_stays rows s (Connects slot x) (User u) o h f = owned user_owner s.users (fill x.user x.user_name s.users) u o (λ y q. fill_keeps x.user x.user_name s.users u y q) h
owner_stays rows s (Connects slot x) (Host u) o h f = owned (host_owner rows) s.hosts (fill x.host x.host_name s.hosts) u o (λ y q. fill_keeps x.host x.host_name s.hosts u y q) h
owner_stays rows s (Connects slot x) Global o h f = h
owner_stays rows s (Connects slot x) Elsewhere o h f = h
owner_stays rows s (Quits slot) (Thread t) o h f = ap (owner_of (thread_owner rows)) (emptied_is slot s.threads t ∙ ap (λ b. cond b None (entry_at s.threads t)) f) ∙ h
owner_stays rows s (Quits slot) (Account a) o h f = h
owner_stays rows s (Quits slot) (User u) o h f = h
owner_stays rows s (Quits slot) (Host u) o h f = h
owner_stays rows s (Quits slot) Global o h f = h
owner_stays rows s (Quits slot) Elsewhere o h f = h
owner_stays rows s (Truncates level) place o h f = h
owner_stays rows s Others place o h f = h
owner_stays rows s FreesAccounts (Thread t) o h f = h
owner_stays rows s FreesAccounts (Account a) o h f = differ f
owner_stays rows s FreesAccounts (User u) o h f = h
owner_stays rows s FreesAccounts (Host u) o h f = h
owner_stays rows s FreesAccounts Global o h f = h
owner_stays rows s FreesAccounts Elsewhere o h f = h
owner_stays rows s FreesUsers (Thread t) o h f = h
owner_stays rows s FreesUsers (Account a) o h f = differ f
owner_stays rows s FreesUsers (User u) o h f = differ f
owner_stays rows s FreesUsers (Host u) o h f = h
owner_stays rows s FreesUsers Global o h f = h
owner_stays rows s FreesUsers Elsewhere o h f = h
owner_stays rows s FreesHosts (Thread t) o h f = h
owner_stays rows s FreesHosts (Account a) o h f = differ f
owner_stays rows s FreesHosts (User u) o h f = h
owner_stays rows s FreesHosts (Host u) o h f = differ f
owner_stays rows s FreesHosts Global o h f = h
owner_stays rows s FreesHosts Elsewhere o h f = h

-- what a connected session has is in use
pub used : (which : Session → Option ℕ) (threads : List (Option Session)) (slot place : ℕ) (x : Session) → entry_at threads slot ≡ Some x → which x ≡ Some place → in_use which threads place ≡ true
used which [] slot place x t w = clash x t
used which (y ∷ ys) zero place x t w = or_left (has_by which place y) (in_use which ys place) (ap (has_by which place) t ∙ (ap (is_from place) w ∙ eq_self place))
used which (y ∷ ys) (suc slot) place x t w = or_right (has_by which place y) (in_use which ys place) (used which ys slot place x t w)

-- and what is in use a session has
pub record User_of (which : Session → Option ℕ) (threads : List (Option Session)) (place : ℕ) : Type 0 where
  pub slot : ℕ
  pub session : Session
  pub stands : entry_at threads slot ≡ Some session
  pub has : which session ≡ Some place

pub user_of : (which : Session → Option ℕ) (threads : List (Option Session)) (place : ℕ) → in_use which threads place ≡ true → User_of which threads place
user_of which [] place h = differ (sym h)
user_of which (None ∷ ys) place h = let u : User_of which ys place = user_of which ys place h in record { slot = suc u.slot; session = u.session; stands = u.stands; has = u.has }
user_of which (Some y ∷ ys) place h = at (which y) refl h (user_of which ys place)
  where
    at : (o : Option ℕ) → which y ≡ o → (is_from place o || in_use which ys place) ≡ true → (in_use which ys place ≡ true → User_of which ys place) → User_of which (Some y ∷ ys) place
    at None q h ih = let u : User_of which ys place = ih h in record { slot = suc u.slot; session = u.session; stands = u.stands; has = u.has }
    at (Some p) q h ih = by (p == place) refl h
      where
        by : (b : Bool) → (p == place) ≡ b → (b || in_use which ys place) ≡ true → User_of which (Some y ∷ ys) place
        by true e h = record { slot = 0; session = y; stands = refl; has = q ∙ ap (λ (n : ℕ). Some n) (eqb-true p place e) }
        by false e h = let u : User_of which ys place = ih h in record { slot = suc u.slot; session = u.session; stands = u.stands; has = u.has }

pub kept_used : {X : Type 0} (kept : ℕ → Bool) (xs : List (Option X)) (t : ℕ) (x : X) → kept t ≡ true → entry_at xs t ≡ Some x → entry_at (kept_from 0 kept xs) t ≡ Some x
kept_used kept xs t x u h = kept_at kept xs t ∙ (ap (λ b. kept_if b (entry_at xs t)) u ∙ h)

pub record Was {X : Type 0} (kept : ℕ → Bool) (xs : List (Option X)) (t : ℕ) (x : X) : Type 0 where
  pub used : kept t ≡ true
  pub stood : entry_at xs t ≡ Some x

pub kept_was : {X : Type 0} (kept : ℕ → Bool) (xs : List (Option X)) (t : ℕ) (x : X) → entry_at (kept_from 0 kept xs) t ≡ Some x → Was kept xs t x
kept_was kept xs t x h = at (kept t) refl (sym (kept_at kept xs t) ∙ h)
  where
    at : (b : Bool) → kept t ≡ b → kept_if b (entry_at xs t) ≡ Some x → Was kept xs t x
    at true q h = record { used = q; stood = h }
    at false q h = clash x h

-- a session stays connected, and its entries stay, until its quit
pub lives_on : (s : State) (line : Line) (slot : ℕ) (x : Session) → quits slot line ≡ false → Lives s slot x → Lives (stepped s line) slot x
lives_on s (Connects at new) slot x q l = record {
  thread = fill_at_keeps at new s.threads slot x l.thread;
  account = λ a w. fill_keeps new.account (entry_of new) s.accounts a (entry_of x) (l.account a w);
  user = λ a w. fill_keeps new.user new.user_name s.users a x.user_name (l.user a w);
  host = λ a w. fill_keeps new.host new.host_name s.hosts a x.host_name (l.host a w);
}
lives_on s (Quits other) slot x q l = record { thread = emptied_is other s.threads slot ∙ (ap (λ b. cond b None (entry_at s.threads slot)) q ∙ l.thread); account = l.account; user = l.user; host = l.host }
lives_on s (Truncates level) slot x q l = l
lives_on s Others slot x q l = l
lives_on s FreesAccounts slot x q l = record {
  thread = l.thread;
  account = λ a w. kept_used (in_use (λ x. x.account) s.threads) s.accounts a (entry_of x) (used (λ x. x.account) s.threads slot a x l.thread w) (l.account a w);
  user = l.user;
  host = l.host;
}
lives_on s FreesUsers slot x q l = record {
  thread = l.thread;
  account = λ a w. kept_used (in_use (λ x. x.account) s.threads) s.accounts a (entry_of x) (used (λ x. x.account) s.threads slot a x l.thread w) (l.account a w);
  user = λ a w. kept_used (in_use (λ x. x.user) s.threads) s.users a x.user_name (used (λ x. x.user) s.threads slot a x l.thread w) (l.user a w);
  host = l.host;
}
lives_on s FreesHosts slot x q l = record {
  thread = l.thread;
  account = λ a w. kept_used (in_use (λ x. x.account) s.threads) s.accounts a (entry_of x) (used (λ x. x.account) s.threads slot a x l.thread w) (l.account a w);
  user = l.user;
  host = λ a w. kept_used (in_use (λ x. x.host) s.threads) s.hosts a x.host_name (used (λ x. x.host) s.threads slot a x l.thread w) (l.host a w);
}

pub host_account : (line : Line) (h a : ℕ) → line_takes line (Host h) ≡ true → line_takes line (Account a) ≡ true
host_account (Truncates ByHost) h a q = refl
host_account (Truncates ByAll) h a q = refl
host_account (Truncates ByThread) h a q = differ (sym q)
host_account (Truncates ByAccount) h a q = differ (sym q)
host_account (Truncates ByUser) h a q = differ (sym q)
host_account FreesHosts h a q = refl
host_account FreesAccounts h a q = differ (sym q)
host_account FreesUsers h a q = differ (sym q)
host_account (Connects at new) h a q = differ (sym q)
host_account (Quits other) h a q = differ (sym q)
host_account Others h a q = differ (sym q)
