-- By name or by place: a key of the tables by account, user and host shows the same rows.
use Rattle.std.proofs.Common.{◌⊎◌, inl, inr, ◌≡◌, ℕ, zero, suc, ◌+◌, ◌==◌, ◌&&◌, Bool, true, false, cond, List, [], ◌∷◌, ◌++◌, Option, Some, None, refl, sym, ap, ◌∙◌, arith}
use Rattle.std.specs.Prelude.{is_some}
use Rattle.std.proofs.lemmas.Bool.{eqb-true}
use Rattle.pfs_lemmas.proofs.Numbers.{eq_self}
use Rattle.pfs_lemmas.proofs.Bools.{and_first, and_second}
use Rattle.pfs_conservation.specs.Journeys.{is_from}
use Rattle.pfs_conservation.specs.PlaceFolds.{Session, Entry, entry_of, State, Connects, Truncates, Others, entry_at, fill, kept_from, in_use, stepped, CellRows}
use Rattle.pfs_conservation.specs.AdministrationFold.{Action, Connect, Quit, Truncate, Other, Summary, Accounts, Users, Hosts, Found, one_up, found_where, lowest_free, found_or, named_place, is_account, session_by, session_of, connect_line, quit_line, line_of, state_after}
use Rattle.pfs_conservation.specs.KindSummaries.{KeyAccount, KeyUser, KeyHost, passes, listed_from, shown_cell}
use Rattle.pfs_conservation.specs.PlaceRows.{account_place, user_place, host_place, IsApart, Names, names_of, AreApart}
use Rattle.pfs_conservation.proofs.RowOwners.{clash, differ, fill_keeps, kept_was}
use Rattle.pfs_conservation.proofs.Connects.{Stands, found_is, fill_was, Sound, sound_after}

some_is : {X : Type 0} (a b : X) → ◌≡◌ {A = Option X} (Some a) (Some b) → a ≡ b
some_is a b h = cc

-- where nothing is found, nothing passes
found_none : {X : Type 0} (test : X → Bool) (xs : List (Option X)) → found_where test xs ≡ None → (i : ℕ) (x : X) → entry_at xs i ≡ Some x → test x ≡ false
found_none test [] h i x e = clash x e
found_none test (None ∷ xs) h zero x e = clash x e
found_none {X = X} test (None ∷ xs) h (suc i) x e = found_none test xs (up (found_where test xs) h) i x e
  where
    up : (o : Option (Found X)) → one_up o ≡ None → o ≡ None
    up None h = refl
    up (Some f) h = absurd (cc)
found_none {X = X} test (Some y ∷ xs) h i x e = at (test y) refl h i e (λ k j w. found_none test xs k j x w)
  where
    up : (o : Option (Found X)) → one_up o ≡ None → o ≡ None
    up None h = refl
    up (Some f) h = absurd (cc)

    at : (b : Bool) → test y ≡ b → cond b (Some (record { place = 0; entry = y })) (one_up (found_where test xs)) ≡ None → (i : ℕ) → entry_at (Some y ∷ xs) i ≡ Some x → (found_where test xs ≡ None → (j : ℕ) → entry_at xs j ≡ Some x → test x ≡ false) → test x ≡ false
    at true q h i e ih = absurd (cc)
    at false q h zero e ih = ap test (sym (some_is y x e)) ∙ q
    at false q h (suc i) e ih = ih (up (found_where test xs) h) i e

-- what is filled is there already, or has a name of its own
apart_fill : {X K : Type 0} (name : X → K) (xs : List (Option X)) (place : Option ℕ) (new : X) → IsApart name xs
    → ((i : ℕ) → place ≡ Some i → ((y : X) × (entry_at xs i ≡ Some y)) ⊎ ((j : ℕ) (y : X) → entry_at xs j ≡ Some y → name y ≡ name new → ⊥)) → IsApart name (fill place new xs)
apart_fill {X = X} name xs place new ok h i j x y p q e = by (fill_was place new xs i x p) (fill_was place new xs j y q)
  where
    -- a new entry at a place that had one is the old one
    old : (i : ℕ) (x : X) → entry_at (fill place new xs) i ≡ Some x → (z : X) × (entry_at xs i ≡ Some z) → entry_at xs i ≡ Some x
    old i x p z = z.1 ∙ (sym (fill_keeps place new xs i z.0 z.1) ∙ p)

    by : (entry_at xs i ≡ Some x) ⊎ ((place ≡ Some i) × (x ≡ new)) → (entry_at xs j ≡ Some y) ⊎ ((place ≡ Some j) × (y ≡ new)) → i ≡ j
    by (inl a) (inl b) = ok i j x y a b e
    by (inr a) (inr b) = some_is i j (sym a.0 ∙ b.0)
    by (inl a) (inr b) = two (h j b.0)
      where
        two : ((z : X) × (entry_at xs j ≡ Some z)) ⊎ ((k : ℕ) (z : X) → entry_at xs k ≡ Some z → name z ≡ name new → ⊥) → i ≡ j
        two (inl z) = ok i j x y a (old j y q z) e
        two (inr none) = absurd (none i x a (e ∙ ap name b.1))
    by (inr a) (inl b) = two (h i a.0)
      where
        two : ((z : X) × (entry_at xs i ≡ Some z)) ⊎ ((k : ℕ) (z : X) → entry_at xs k ≡ Some z → name z ≡ name new → ⊥) → i ≡ j
        two (inl z) = ok i j x y (old i x p z) b e
        two (inr none) = absurd (none j y b (sym e ∙ ap name a.1))

apart_kept : {X K : Type 0} (name : X → K) (kept : ℕ → Bool) (xs : List (Option X)) → IsApart name xs → IsApart name (kept_from 0 kept xs)
apart_kept name kept xs ok i j x y p q e = ok i j x y (kept_was kept xs i x p).stood (kept_was kept xs j y q).stood e

named_new : (name : ℕ) (xs : List (Option ℕ)) (i : ℕ) → named_place name xs ≡ Some i → ((y : ℕ) × (entry_at xs i ≡ Some y)) ⊎ ((j : ℕ) (y : ℕ) → entry_at xs j ≡ Some y → y ≡ name → ⊥)
named_new name xs i h = at (found_where (λ x. x == name) xs) refl h
  where
    at : (o : Option (Found ℕ)) → found_where (λ x. x == name) xs ≡ o → found_or o (lowest_free xs) ≡ Some i → ((y : ℕ) × (entry_at xs i ≡ Some y)) ⊎ ((j : ℕ) (y : ℕ) → entry_at xs j ≡ Some y → y ≡ name → ⊥)
    at (Some f) q h = inl (f.entry, ap (entry_at xs) (sym (some_is f.place i h)) ∙ (found_is (λ x. x == name) xs f q).stands)
    at None q h = inr (λ j y e w. differ (sym (eq_self y) ∙ (ap (λ z. y == z) w ∙ found_none (λ x. x == name) xs q j y e)))

apart_connects : (s : State) → Sound s → AreApart s → (slot number user host : ℕ) → AreApart (stepped s (Connects slot (session_of s number user host)))
apart_connects s ok apart slot number user host = at (found_where (is_account user host) s.accounts) refl
  where
    at : (o : Option (Found Entry)) → found_where (is_account user host) s.accounts ≡ o → AreApart (stepped s (Connects slot (session_by s number user host o)))
    at None q = record {
      accounts = apart_fill names_of s.accounts (lowest_free s.accounts) (entry_of (session_by s number user host None)) apart.accounts (λ i h. inr (λ j y e w. differ (sym (passes_is y w) ∙ found_none (is_account user host) s.accounts q j y e)));
      users = apart_fill (λ x. x) s.users (named_place user s.users) user apart.users (named_new user s.users);
      hosts = apart_fill (λ x. x) s.hosts (named_place host s.hosts) host apart.hosts (named_new host s.hosts);
    }
      where
        passes_is : (y : Entry) → names_of y ≡ record { user = user; host = host } → is_account user host y ≡ true
        passes_is y w = ap (λ (k : Names). (k.user == user) && (k.host == host)) w ∙ (ap (λ b. b && (host == host)) (eq_self user) ∙ eq_self host)
    at (Some f) q =
        let st : Stands (is_account user host) s.accounts f = found_is (is_account user host) s.accounts f q in
        let x : Session = session_by s number user host (Some f) in
        record {
          accounts = apart_fill names_of s.accounts (Some f.place) (entry_of x) apart.accounts (λ i h. inl (f.entry, ap (entry_at s.accounts) (sym (some_is f.place i h)) ∙ st.stands));
          users = apart_fill (λ x. x) s.users f.entry.user user apart.users (λ i h. inl (f.entry.user_name, ok.user f.place f.entry i st.stands h));
          hosts = apart_fill (λ x. x) s.hosts f.entry.host host apart.hosts (λ i h. inl (f.entry.host_name, ok.host f.place f.entry i st.stands h));
        }

apart_step : (s : State) → Sound s → AreApart s → (action : Action) → AreApart (stepped s (line_of 0 s action))
apart_step s ok apart (Connect number user host) = at (lowest_free s.threads)
  where
    at : (o : Option ℕ) → AreApart (stepped s (connect_line s number user host o))
    at None = apart
    at (Some slot) = apart_connects s ok apart slot number user host
apart_step s ok apart (Quit number) = at (found_where (λ x. x.number == number) s.threads)
  where
    at : (o : Option (Found Session)) → AreApart (stepped s (quit_line o))
    at None = apart
    at (Some f) = record { accounts = apart.accounts; users = apart.users; hosts = apart.hosts }
apart_step s ok apart (Truncate (Summary number level)) = at (number == 0)
  where
    at : (b : Bool) → AreApart (stepped s (cond b (Truncates level) Others))
    at true = apart
    at false = apart
apart_step s ok apart (Truncate Accounts) = record { accounts = apart_kept names_of (in_use (λ x. x.account) s.threads) s.accounts apart.accounts; users = apart.users; hosts = apart.hosts }
apart_step s ok apart (Truncate Users) = record { accounts = apart_kept names_of (in_use (λ x. x.account) s.threads) s.accounts apart.accounts; users = apart_kept (λ x. x) (in_use (λ x. x.user) s.threads) s.users apart.users; hosts = apart.hosts }
apart_step s ok apart (Truncate Hosts) = record { accounts = apart_kept names_of (in_use (λ x. x.account) s.threads) s.accounts apart.accounts; users = apart.users; hosts = apart_kept (λ x. x) (in_use (λ x. x.host) s.threads) s.hosts apart.hosts }
apart_step s ok apart Other = apart

pub apart_after : (opening : State) → Sound opening → AreApart opening → (action : ℕ → Action) (n : ℕ) → AreApart (state_after opening action n)
apart_after opening ok apart action zero = apart
apart_after opening ok apart action (suc n) = apart_step (state_after opening action n) (sound_after opening ok action n) (apart_after opening ok apart action n) (action (suc n))

-- tests that agree list the eqb-true rows
listed_same : {X : Type 0} (f g : X → Bool) (row : ℕ → ℕ) (n : ℕ) (xs : List (Option X)) → ((i : ℕ) (x : X) → entry_at xs i ≡ Some x → f x ≡ g x) → listed_from f row n xs ≡ listed_from g row n xs
listed_same f g row n [] h = refl
listed_same f g row n (None ∷ xs) h = listed_same f g row (suc n) xs (λ i x e. h (suc i) x e)
listed_same f g row n (Some x ∷ xs) h = ap (λ b. cond b (row n ∷ []) [] ++ listed_from f row (suc n) xs) (h 0 x refl) ∙ ap (λ ys. cond (g x) (row n ∷ []) [] ++ ys) (listed_same f g row (suc n) xs (λ i y e. h (suc i) y e))

listed_nil : {X : Type 0} (f : X → Bool) (row : ℕ → ℕ) (n : ℕ) (xs : List (Option X)) → ((i : ℕ) (x : X) → entry_at xs i ≡ Some x → f x ≡ false) → listed_from f row n xs ≡ []
listed_nil f row n [] h = refl
listed_nil f row n (None ∷ xs) h = listed_nil f row (suc n) xs (λ i x e. h (suc i) x e)
listed_nil f row n (Some x ∷ xs) h = ap (λ b. cond b (row n ∷ []) [] ++ listed_from f row (suc n) xs) (h 0 x refl) ∙ listed_nil f row (suc n) xs (λ i y e. h (suc i) y e)

-- one entry passes
listed_only : {X : Type 0} (f : X → Bool) (row : ℕ → ℕ) (n m : ℕ) (xs : List (Option X)) (y : X) → entry_at xs m ≡ Some y → f y ≡ true → ((i : ℕ) (x : X) → entry_at xs i ≡ Some x → f x ≡ true → i ≡ m) → listed_from f row n xs ≡ row (n + m) ∷ []
listed_only f row n m [] y e q h = clash y e
listed_only {X = X} f row n zero (x ∷ xs) y e q h =
    ap (λ o. cond (passes f o) (row n ∷ []) [] ++ listed_from f row (suc n) xs) e ∙ (ap (λ b. cond b (row n ∷ []) [] ++ listed_from f row (suc n) xs) q
    ∙ (ap (λ ys. row n ∷ ys) (listed_nil f row (suc n) xs (λ i z k. none i z k (f z) refl)) ∙ ap (λ k. row k ∷ []) (plus n)))
  where
    plus : (n : ℕ) → n ≡ n + 0
    plus n = omega arith

    none : (i : ℕ) (z : X) → entry_at xs i ≡ Some z → (b : Bool) → f z ≡ b → f z ≡ false
    none i z k false w = w
    none i z k true w = absurd (let bad : suc i ≡ 0 = h (suc i) z k w in omega arith)
listed_only {X = X} f row n (suc m) (x ∷ xs) y e q h = at x refl (listed_only f row (suc n) m xs y e q (λ i z k w. (let s : suc i ≡ suc m = h (suc i) z k w in omega arith)))
  where
    plus : (n m : ℕ) → suc n + m ≡ n + suc m
    plus n m = omega arith

    at : (o : Option X) → x ≡ o → listed_from f row (suc n) xs ≡ row (suc n + m) ∷ [] → cond (passes f x) (row n ∷ []) [] ++ listed_from f row (suc n) xs ≡ row (n + suc m) ∷ []
    at None k ih = ap (λ o. cond (passes f o) (row n ∷ []) [] ++ listed_from f row (suc n) xs) k ∙ (ih ∙ ap (λ k. row k ∷ []) (plus n m))
    at (Some z) k ih = first (f z) refl
      where
        first : (b : Bool) → f z ≡ b → cond (passes f x) (row n ∷ []) [] ++ listed_from f row (suc n) xs ≡ row (n + suc m) ∷ []
        first true w = absurd (let bad : 0 ≡ suc m = h 0 z k w in omega arith)
        first false w = ap (λ o. cond (passes f o) (row n ∷ []) [] ++ listed_from f row (suc n) xs) k ∙ (ap (λ b. cond b (row n ∷ []) [] ++ listed_from f row (suc n) xs) w ∙ (ih ∙ ap (λ k. row k ∷ []) (plus n m)))

nil_right : (xs : List ℕ) → xs ++ [] ≡ xs
nil_right [] = refl
nil_right (x ∷ xs) = ap (λ ys. x ∷ ys) (nil_right xs)

module _ (s : State) (ok : Sound s) (apart : AreApart s) (rows : CellRows) where
  -- a place is the name's where the name stands there
  by_place : (xs : List (Option ℕ)) (u name other : ℕ) (o : Option ℕ) → IsApart (λ x. x) xs → entry_at xs u ≡ Some name → ((v : ℕ) → o ≡ Some v → entry_at xs v ≡ Some other) → (is_some o && (other == name)) ≡ is_from u o
  by_place xs u name other None is_apart at holds = refl
  by_place xs u name other (Some v) is_apart at holds = by (other == name) refl (v == u) refl
    where
      by : (b : Bool) → (other == name) ≡ b → (c : Bool) → (v == u) ≡ c → (other == name) ≡ (v == u)
      by true q true w = q ∙ sym w
      by false q false w = q ∙ sym w
      by true q false w = differ (sym (ap (λ k. k == u) (is_apart v u other name (holds v refl) at (eqb-true other name q)) ∙ eq_self u) ∙ w)
      by false q true w = differ (sym (ap (λ k. k == name) (some_is other name (sym (holds v refl) ∙ (ap (entry_at xs) (eqb-true v u w) ∙ at))) ∙ eq_self name) ∙ q)

  pub user_same : (u name : ℕ) → entry_at s.users u ≡ Some name → shown_cell (KeyUser name) rows s ≡ user_place rows s u
  user_same u name at =
      ap (λ z. z ++ (listed_from (λ e. is_some e.user && (e.user_name == name)) rows.account 0 s.accounts ++ (listed_from (λ x. x == name) rows.user 0 s.users ++ [])))
      (listed_same (λ x. is_some x.user && (x.user_name == name)) (λ x. is_from u x.user) rows.thread 0 s.threads (λ i x e. by_place s.users u name x.user_name x.user apart.users at (λ v w. (ok.lives i x e).user v w)))
      ∙ (ap (λ z. listed_from (λ x. is_from u x.user) rows.thread 0 s.threads ++ (z ++ (listed_from (λ x. x == name) rows.user 0 s.users ++ [])))
      (listed_same (λ e. is_some e.user && (e.user_name == name)) (λ e. is_from u e.user) rows.account 0 s.accounts (λ i x e. by_place s.users u name x.user_name x.user apart.users at (λ v w. ok.user i x v e w)))
      ∙ ap (λ z. listed_from (λ x. is_from u x.user) rows.thread 0 s.threads ++ (listed_from (λ e. is_from u e.user) rows.account 0 s.accounts ++ z))
      (nil_right (listed_from (λ x. x == name) rows.user 0 s.users) ∙ (listed_only (λ x. x == name) rows.user 0 u s.users name at (eq_self name) (λ i x e q. apart.users i u x name e at (eqb-true x name q)) ∙ ap (λ k. rows.user k ∷ []) (plus u))))
    where
      plus : (n : ℕ) → 0 + n ≡ n
      plus n = omega arith

  pub host_same : (u name : ℕ) → entry_at s.hosts u ≡ Some name → shown_cell (KeyHost name) rows s ≡ host_place rows s u
  host_same u name at =
      ap (λ z. z ++ (listed_from (λ e. is_some e.host && (e.host_name == name)) rows.account 0 s.accounts ++ (listed_from (λ x. x == name) rows.host 0 s.hosts ++ [])))
      (listed_same (λ x. is_some x.host && (x.host_name == name)) (λ x. is_from u x.host) rows.thread 0 s.threads (λ i x e. by_place s.hosts u name x.host_name x.host apart.hosts at (λ v w. (ok.lives i x e).host v w)))
      ∙ (ap (λ z. listed_from (λ x. is_from u x.host) rows.thread 0 s.threads ++ (z ++ (listed_from (λ x. x == name) rows.host 0 s.hosts ++ [])))
      (listed_same (λ e. is_some e.host && (e.host_name == name)) (λ e. is_from u e.host) rows.account 0 s.accounts (λ i x e. by_place s.hosts u name x.host_name x.host apart.hosts at (λ v w. ok.host i x v e w)))
      ∙ ap (λ z. listed_from (λ x. is_from u x.host) rows.thread 0 s.threads ++ (listed_from (λ e. is_from u e.host) rows.account 0 s.accounts ++ z))
      (nil_right (listed_from (λ x. x == name) rows.host 0 s.hosts) ∙ (listed_only (λ x. x == name) rows.host 0 u s.hosts name at (eq_self name) (λ i x e q. apart.hosts i u x name e at (eqb-true x name q)) ∙ ap (λ k. rows.host k ∷ []) (plus u))))
    where
      plus : (n : ℕ) → 0 + n ≡ n
      plus n = omega arith

  names_same : (x : Entry) (user host : ℕ) → is_account user host x ≡ true → names_of x ≡ record { user = user; host = host }
  names_same x user host h = ap (λ n. record { user = n; host = x.host_name }) (eqb-true x.user_name user (and_first (x.user_name == user) (x.host_name == host) h)) ∙ ap (λ n. record { user = user; host = n }) (eqb-true x.host_name host (and_second (x.user_name == user) (x.host_name == host) h))

  pub account_same : (a : ℕ) (entry : Entry) → entry_at s.accounts a ≡ Some entry → shown_cell (KeyAccount entry.user_name entry.host_name) rows s ≡ account_place rows s a
  account_same a entry at =
      ap (λ z. z ++ (listed_from (is_account entry.user_name entry.host_name) rows.account 0 s.accounts ++ []))
      (listed_same (λ x. is_some x.account && ((x.user_name == entry.user_name) && (x.host_name == entry.host_name))) (λ x. is_from a x.account) rows.thread 0 s.threads (λ i x e. of_thread x (ok.lives i x e).account x.account refl))
      ∙ ap (λ z. listed_from (λ x. is_from a x.account) rows.thread 0 s.threads ++ z)
      (nil_right (listed_from (is_account entry.user_name entry.host_name) rows.account 0 s.accounts) ∙ (listed_only (is_account entry.user_name entry.host_name) rows.account 0 a s.accounts entry at own (λ i x e q. apart.accounts i a x entry e at (names_same x entry.user_name entry.host_name q)) ∙ ap (λ k. rows.account k ∷ []) (plus a)))
    where
      plus : (n : ℕ) → 0 + n ≡ n
      plus n = omega arith

      own : is_account entry.user_name entry.host_name entry ≡ true
      own = ap (λ b. b && (entry.host_name == entry.host_name)) (eq_self entry.user_name) ∙ eq_self entry.host_name

      of_thread : (x : Session) → ((v : ℕ) → x.account ≡ Some v → entry_at s.accounts v ≡ Some (entry_of x)) → (o : Option ℕ) → x.account ≡ o → (is_some o && ((x.user_name == entry.user_name) && (x.host_name == entry.host_name))) ≡ is_from a o
      of_thread x holds None w = refl
      of_thread x holds (Some v) w = by (is_account entry.user_name entry.host_name (entry_of x)) refl (v == a) refl
        where
          by : (b : Bool) → is_account entry.user_name entry.host_name (entry_of x) ≡ b → (c : Bool) → (v == a) ≡ c → is_account entry.user_name entry.host_name (entry_of x) ≡ (v == a)
          by true q true k = q ∙ sym k
          by false q false k = q ∙ sym k
          by true q false k = differ (sym (ap (λ z. z == a) (apart.accounts v a (entry_of x) entry (holds v w) at (names_same (entry_of x) entry.user_name entry.host_name q)) ∙ eq_self a) ∙ k)
          by false q true k = differ (sym (ap (is_account entry.user_name entry.host_name) (some_is (entry_of x) entry (sym (holds v w) ∙ (ap (entry_at s.accounts) (eqb-true v a k) ∙ at))) ∙ own) ∙ q)
