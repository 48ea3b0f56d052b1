-- What a connect makes stands right after it; a session's and an account's places hold their names, at all times.
use Rattle.std.proofs.Common.{◌⊎◌, inl, inr, ◌≡◌, ℕ, zero, suc, ◌+◌, ◌≤◌, ◌==◌, ◌&&◌, Bool, true, false, cond, List, [], ◌∷◌, Option, Some, None, refl, sym, ap, ◌∙◌, subst, arith}
use Rattle.std.proofs.lemmas.Bool.{eqb-true}
use Rattle.pfs_lemmas.proofs.Bools.{and_first, and_second}
use Rattle.pfs_conservation.specs.PlaceFolds.{Session, Entry, entry_of, State, Line, Connects, Quits, Truncates, FreesAccounts, FreesUsers, FreesHosts, Others, entry_at, fill_at, fill, emptied_at, in_use, stepped, quits, Lives}
use Rattle.pfs_conservation.specs.AdministrationFold.{Action, Connect, Quit, Truncate, Other, Summary, Accounts, Users, Hosts, Found, one_up, found_where, next_place, lowest_free, found_or, named_place, is_account, session_by, session_of, connect_line, quit_line, line_of, state_after}
use Rattle.pfs_conservation.proofs.RowOwners.{clash, fill_at_keeps, fill_keeps, emptied_is, used, User_of, user_of, kept_used, Was, kept_was, lives_on}

some_is : {X : Type 0} (a b : X) → ◌≡◌ {A = Option X} (Some a) (Some b) → a ≡ b
some_is a b h = cc

-- what is found stands there and passes the test
pub record Stands {X : Type 0} (test : X → Bool) (xs : List (Option X)) (f : Found X) : Type 0 where
  pub stands : entry_at xs f.place ≡ Some f.entry
  pub passes : test f.entry ≡ true

pub found_is : {X : Type 0} (test : X → Bool) (xs : List (Option X)) (f : Found X) → found_where test xs ≡ Some f → Stands test xs f
found_is test [] f h = clash f h
found_is {X = X} test (None ∷ xs) f h = up (found_where test xs) refl h (λ g q. found_is test xs g q)
  where
    up : (o : Option (Found X)) → found_where test xs ≡ o → one_up o ≡ Some f → ((g : Found X) → found_where test xs ≡ Some g → Stands test xs g) → Stands test (None ∷ xs) f
    up None q h ih = clash f h
    up (Some g) q h ih = subst (λ k. Stands test (None ∷ xs) k) (some_is (record { place = suc g.place; entry = g.entry }) f h) (record { stands = (ih g q).stands; passes = (ih g q).passes })
found_is {X = X} test (Some x ∷ xs) f h = at (test x) refl h (λ g q. found_is test xs g q)
  where
    up : (o : Option (Found X)) → found_where test xs ≡ o → one_up o ≡ Some f → ((g : Found X) → found_where test xs ≡ Some g → Stands test xs g) → Stands test (Some x ∷ xs) f
    up None q h ih = clash f h
    up (Some g) q h ih = subst (λ k. Stands test (Some x ∷ xs) k) (some_is (record { place = suc g.place; entry = g.entry }) f h) (record { stands = (ih g q).stands; passes = (ih g q).passes })

    at : (b : Bool) → test x ≡ b → cond b (Some (record { place = 0; entry = x })) (one_up (found_where test xs)) ≡ Some f → ((g : Found X) → found_where test xs ≡ Some g → Stands test xs g) → Stands test (Some x ∷ xs) f
    at true q h ih = subst (λ k. Stands test (Some x ∷ xs) k) (some_is (record { place = 0; entry = x }) f h) (record { stands = refl; passes = q })
    at false q h ih = up (found_where test xs) refl h ih

-- a free place that is filled has what it was filled with
free_filled : {X : Type 0} (xs : List (Option X)) (n : ℕ) (new : X) → lowest_free xs ≡ Some n → entry_at (fill_at n new xs) n ≡ Some new
free_filled [] n new h = clash n h
free_filled (None ∷ xs) n new h = subst (λ k. entry_at (fill_at k new (None ∷ xs)) k ≡ Some new) (some_is 0 n h) refl
free_filled (Some x ∷ xs) n new h = up (lowest_free xs) refl h (λ k q. free_filled xs k new q)
  where
    up : (o : Option ℕ) → lowest_free xs ≡ o → next_place o ≡ Some n → ((k : ℕ) → lowest_free xs ≡ Some k → entry_at (fill_at k new xs) k ≡ Some new) → entry_at (fill_at n new (Some x ∷ xs)) n ≡ Some new
    up None q h ih = clash n h
    up (Some k) q h ih = subst (λ m. entry_at (fill_at m new (Some x ∷ xs)) m ≡ Some new) (some_is (suc k) n h) (ih k q)

-- what stands after filling stood before, or is new
fill_at_was : {X : Type 0} (n : ℕ) (new : X) (xs : List (Option X)) (t : ℕ) (x : X) → entry_at (fill_at n new xs) t ≡ Some x → (entry_at xs t ≡ Some x) ⊎ ((t ≡ n) × (x ≡ new))
fill_at_was n new [] t x h = inl h
fill_at_was zero new (None ∷ ys) zero x h = inr (refl, sym (some_is new x h))
fill_at_was zero new (Some y ∷ ys) zero x h = inl h
fill_at_was zero new (y ∷ ys) (suc t) x h = inl h
fill_at_was (suc n) new (y ∷ ys) zero x h = inl h
fill_at_was (suc n) new (y ∷ ys) (suc t) x h = up (fill_at_was n new ys t x h)
  where
    up : (entry_at ys t ≡ Some x) ⊎ ((t ≡ n) × (x ≡ new)) → (entry_at ys t ≡ Some x) ⊎ ((suc t ≡ suc n) × (x ≡ new))
    up (inl q) = inl q
    up (inr q) = inr (ap suc q.0, q.1)

pub fill_was : {X : Type 0} (place : Option ℕ) (new : X) (xs : List (Option X)) (t : ℕ) (x : X) → entry_at (fill place new xs) t ≡ Some x → (entry_at xs t ≡ Some x) ⊎ ((place ≡ Some t) × (x ≡ new))
fill_was None new xs t x h = inl h
fill_was (Some n) new xs t x h = up (fill_at_was n new xs t x h)
  where
    up : (entry_at xs t ≡ Some x) ⊎ ((t ≡ n) × (x ≡ new)) → (entry_at xs t ≡ Some x) ⊎ ((Some n ≡ Some t) × (x ≡ new))
    up (inl q) = inl q
    up (inr q) = inr (ap (λ (k : ℕ). Some k) (sym q.0), q.1)

-- a place by name, once filled, holds the name
named_filled : (name : ℕ) (xs : List (Option ℕ)) (u : ℕ) → named_place name xs ≡ Some u → entry_at (fill (named_place name xs) name xs) u ≡ Some name
named_filled name xs u h = at (found_where (λ x. x == name) xs) refl h
  where
    at : (o : Option (Found ℕ)) → found_where (λ x. x == name) xs ≡ o → found_or o (lowest_free xs) ≡ Some u → entry_at (fill (found_or o (lowest_free xs)) name xs) u ≡ Some name
    at None q h = ap (λ p. entry_at (fill p name xs) u) h ∙ free_filled xs u name h
    at (Some f) q h =
        let s : Stands (λ x. x == name) xs f = found_is (λ x. x == name) xs f q in
        let e : entry_at xs u ≡ Some name = ap (entry_at xs) (sym (some_is f.place u h)) ∙ (s.stands ∙ ap (λ (n : ℕ). Some n) (eqb-true f.entry name s.passes)) in
        fill_at_keeps f.place name xs u name e

-- at all times: a session stands with its entries, and an account's user and host places hold its names
pub record Sound (s : State) : Type 0 where
  pub lives : (t : ℕ) (x : Session) → entry_at s.threads t ≡ Some x → Lives s t x
  pub user : (a : ℕ) (e : Entry) (u : ℕ) → entry_at s.accounts a ≡ Some e → e.user ≡ Some u → entry_at s.users u ≡ Some e.user_name
  pub host : (a : ℕ) (e : Entry) (h : ℕ) → entry_at s.accounts a ≡ Some e → e.host ≡ Some h → entry_at s.hosts h ≡ Some e.host_name

entry_same : (x : Entry) (user host : ℕ) → is_account user host x ≡ true → x ≡ record { user_name = user; host_name = host; user = x.user; host = x.host }
entry_same x user host h =
    ap (λ n. record { user_name = n; host_name = x.host_name; user = x.user; host = x.host }) (eqb-true x.user_name user (and_first (x.user_name == user) (x.host_name == host) h))
    ∙ ap (λ n. record { user_name = user; host_name = n; user = x.user; host = x.host }) (eqb-true x.host_name host (and_second (x.user_name == user) (x.host_name == host) h))

-- right after its connect a session stands with its entries
pub new_lives : (s : State) → Sound s → (slot number user host : ℕ) → lowest_free s.threads ≡ Some slot → Lives (stepped s (Connects slot (session_of s number user host))) slot (session_of s number user host)
new_lives s ok slot number user host free = at (found_where (is_account user host) s.accounts) refl
  where
    at : (o : Option (Found Entry)) → found_where (is_account user host) s.accounts ≡ o → Lives (stepped s (Connects slot (session_by s number user host o))) slot (session_by s number user host o)
    at None q = record {
      thread = free_filled s.threads slot (session_by s number user host None) free;
      account = λ a w. ap (λ p. entry_at (fill p (entry_of (session_by s number user host None)) s.accounts) a) w ∙ free_filled s.accounts a (entry_of (session_by s number user host None)) w;
      user = λ u w. named_filled user s.users u w;
      host = λ h w. named_filled host s.hosts h w;
    }
    at (Some f) q =
        let st : Stands (is_account user host) s.accounts f = found_is (is_account user host) s.accounts f q in
        let x : Session = session_by s number user host (Some f) in
        record {
          thread = free_filled s.threads slot x free;
          account = λ a w. fill_keeps x.account (entry_of x) s.accounts a (entry_of x) (ap (entry_at s.accounts) (sym (some_is f.place a w)) ∙ (st.stands ∙ ap (λ (e : Entry). Some e) (entry_same f.entry user host st.passes)));
          user = λ u w. fill_keeps x.user user s.users u user (ok.user f.place f.entry u st.stands w ∙ ap (λ (n : ℕ). Some n) (eqb-true f.entry.user_name user (and_first (f.entry.user_name == user) (f.entry.host_name == host) st.passes)));
          host = λ h w. fill_keeps x.host host s.hosts h host (ok.host f.place f.entry h st.stands w ∙ ap (λ (n : ℕ). Some n) (eqb-true f.entry.host_name host (and_second (f.entry.user_name == user) (f.entry.host_name == host) st.passes)));
        }

-- each step keeps it
sound_connects : (s : State) → Sound s → (slot : ℕ) (x : Session) → Lives (stepped s (Connects slot x)) slot x → Sound (stepped s (Connects slot x))
sound_connects s ok slot x new = record {
  lives = λ t y h. by t y (fill_at_was slot x s.threads t y h);
  user = λ a e u h w. user_by a e u w (fill_was x.account (entry_of x) s.accounts a e h);
  host = λ a e u h w. host_by a e u w (fill_was x.account (entry_of x) s.accounts a e h);
}
  where
    after : State
    after = stepped s (Connects slot x)

    by : (t : ℕ) (y : Session) → (entry_at s.threads t ≡ Some y) ⊎ ((t ≡ slot) × (y ≡ x)) → Lives (stepped s (Connects slot x)) t y
    by t y (inl q) = lives_on s (Connects slot x) t y refl (ok.lives t y q)
    by t y (inr q) = subst (λ k. Lives (stepped s (Connects slot x)) k y) (sym q.0) (subst (λ z. Lives (stepped s (Connects slot x)) slot z) (sym q.1) new)

    user_by : (a : ℕ) (e : Entry) (u : ℕ) → e.user ≡ Some u → (entry_at s.accounts a ≡ Some e) ⊎ ((x.account ≡ Some a) × (e ≡ entry_of x)) → entry_at (fill x.user x.user_name s.users) u ≡ Some e.user_name
    user_by a e u w (inl q) = fill_keeps x.user x.user_name s.users u e.user_name (ok.user a e u q w)
    user_by a e u w (inr q) = new.user u (sym (ap (λ (z : Entry). z.user) q.1) ∙ w) ∙ ap (λ (z : Entry). Some z.user_name) (sym q.1)

    host_by : (a : ℕ) (e : Entry) (u : ℕ) → e.host ≡ Some u → (entry_at s.accounts a ≡ Some e) ⊎ ((x.account ≡ Some a) × (e ≡ entry_of x)) → entry_at (fill x.host x.host_name s.hosts) u ≡ Some e.host_name
    host_by a e u w (inl q) = fill_keeps x.host x.host_name s.hosts u e.host_name (ok.host a e u q w)
    host_by a e u w (inr q) = new.host u (sym (ap (λ (z : Entry). z.host) q.1) ∙ w) ∙ ap (λ (z : Entry). Some z.host_name) (sym q.1)

-- an account that is in use has the places of a session
used_user : (s : State) → Sound s → (a : ℕ) (e : Entry) (u : ℕ) → in_use (λ x. x.account) s.threads a ≡ true → entry_at s.accounts a ≡ Some e → e.user ≡ Some u → in_use (λ x. x.user) s.threads u ≡ true
used_user s ok a e u q h w =
    let o : User_of (λ x. x.account) s.threads a = user_of (λ x. x.account) s.threads a q in
    let is : e ≡ entry_of o.session = some_is e (entry_of o.session) (sym h ∙ (ok.lives o.slot o.session o.stands).account a o.has) in
    used (λ x. x.user) s.threads o.slot u o.session o.stands (sym (ap (λ (z : Entry). z.user) is) ∙ w)

used_host : (s : State) → Sound s → (a : ℕ) (e : Entry) (u : ℕ) → in_use (λ x. x.account) s.threads a ≡ true → entry_at s.accounts a ≡ Some e → e.host ≡ Some u → in_use (λ x. x.host) s.threads u ≡ true
used_host s ok a e u q h w =
    let o : User_of (λ x. x.account) s.threads a = user_of (λ x. x.account) s.threads a q in
    let is : e ≡ entry_of o.session = some_is e (entry_of o.session) (sym h ∙ (ok.lives o.slot o.session o.stands).account a o.has) in
    used (λ x. x.host) s.threads o.slot u o.session o.stands (sym (ap (λ (z : Entry). z.host) is) ∙ w)

sound_frees : (s : State) (line : Line) → ((t : ℕ) → quits t line ≡ false) → ((t : ℕ) (x : Session) → entry_at (stepped s line).threads t ≡ Some x → entry_at s.threads t ≡ Some x)
    → ((a : ℕ) (e : Entry) (u : ℕ) → entry_at (stepped s line).accounts a ≡ Some e → e.user ≡ Some u → entry_at (stepped s line).users u ≡ Some e.user_name)
    → ((a : ℕ) (e : Entry) (u : ℕ) → entry_at (stepped s line).accounts a ≡ Some e → e.host ≡ Some u → entry_at (stepped s line).hosts u ≡ Some e.host_name) → Sound s → Sound (stepped s line)
sound_frees s line none was users hosts ok = record { lives = λ t x h. lives_on s line t x (none t) (ok.lives t x (was t x h)); user = users; host = hosts }

-- what a resolved line does to a sound state
pub sound_line : (s : State) → Sound s → (line : Line) → ((slot : ℕ) (x : Session) → line ≡ Connects slot x → Lives (stepped s (Connects slot x)) slot x) → Sound (stepped s line)
sound_line s ok (Connects slot x) new = sound_connects s ok slot x (new slot x refl)
sound_line s ok (Quits slot) new = record { lives = λ t x h. by t x h; user = ok.user; host = ok.host }
  where
    by : (t : ℕ) (x : Session) → entry_at (emptied_at slot s.threads) t ≡ Some x → Lives (stepped s (Quits slot)) t x
    by t x h = at (t == slot) refl (sym (emptied_is slot s.threads t) ∙ h)
      where
        at : (b : Bool) → (t == slot) ≡ b → cond b None (entry_at s.threads t) ≡ Some x → Lives (stepped s (Quits slot)) t x
        at true q g = clash x g
        at false q g = lives_on s (Quits slot) t x q (ok.lives t x g)
sound_line s ok (Truncates level) new = ok
sound_line s ok Others new = ok
sound_line s ok FreesAccounts new = sound_frees s FreesAccounts (λ t. refl) (λ t x h. h)
    (λ a e u h w. ok.user a e u (kept_was (in_use (λ x. x.account) s.threads) s.accounts a e h).stood w)
    (λ a e u h w. ok.host a e u (kept_was (in_use (λ x. x.account) s.threads) s.accounts a e h).stood w) ok
sound_line s ok FreesUsers new = sound_frees s FreesUsers (λ t. refl) (λ t x h. h)
    (λ a e u h w. (let k : Was (in_use (λ x. x.account) s.threads) s.accounts a e = kept_was (in_use (λ x. x.account) s.threads) s.accounts a e h in
    kept_used (in_use (λ x. x.user) s.threads) s.users u e.user_name (used_user s ok a e u k.used k.stood w) (ok.user a e u k.stood w)))
    (λ a e u h w. ok.host a e u (kept_was (in_use (λ x. x.account) s.threads) s.accounts a e h).stood w) ok
sound_line s ok FreesHosts new = sound_frees s FreesHosts (λ t. refl) (λ t x h. h)
    (λ a e u h w. ok.user a e u (kept_was (in_use (λ x. x.account) s.threads) s.accounts a e h).stood w)
    (λ a e u h w. (let k : Was (in_use (λ x. x.account) s.threads) s.accounts a e = kept_was (in_use (λ x. x.account) s.threads) s.accounts a e h in
    kept_used (in_use (λ x. x.host) s.threads) s.hosts u e.host_name (used_host s ok a e u k.used k.stood w) (ok.host a e u k.stood w))) ok

connects_slot : (s : State) (number user host : ℕ) (o : Option ℕ) (slot : ℕ) (x : Session) → connect_line s number user host o ≡ Connects slot x → (o ≡ Some slot) × (session_of s number user host ≡ x)
connects_slot s number user host None slot x h = absurd (cc)
connects_slot s number user host (Some t) slot x h = (ap (λ (k : ℕ). Some k) (slot_same t slot (session_of s number user host) x h), session_same t slot (session_of s number user host) x h)
  where
    slot_same : (a b : ℕ) (x y : Session) → Connects a x ≡ Connects b y → a ≡ b
    slot_same a b x y h = cc

    session_same : (a b : ℕ) (x y : Session) → Connects a x ≡ Connects b y → x ≡ y
    session_same a b x y h = cc

-- an action's line connects only at a connect
pub line_new : (kind : ℕ) (s : State) → Sound s → (action : Action) (slot : ℕ) (x : Session) → line_of kind s action ≡ Connects slot x → Lives (stepped s (Connects slot x)) slot x
line_new kind s ok (Connect number user host) slot x h =
    let e : (lowest_free s.threads ≡ Some slot) × (session_of s number user host ≡ x) = connects_slot s number user host (lowest_free s.threads) slot x h in
    subst (λ y. Lives (stepped s (Connects slot y)) slot y) e.1 (new_lives s ok slot number user host e.0)
line_new kind s ok (Quit number) slot x h = at (found_where (λ y. y.number == number) s.threads) h
  where
    at : (o : Option (Found Session)) → quit_line o ≡ Connects slot x → Lives (stepped s (Connects slot x)) slot x
    at None h = absurd (cc)
    at (Some f) h = absurd (cc)
line_new kind s ok (Truncate (Summary number level)) slot x h = at (number == kind) h
  where
    at : (b : Bool) → cond b (Truncates level) Others ≡ Connects slot x → Lives (stepped s (Connects slot x)) slot x
    at true h = absurd (cc)
    at false h = absurd (cc)
line_new kind s ok (Truncate Accounts) slot x h = absurd (cc)
line_new kind s ok (Truncate Users) slot x h = absurd (cc)
line_new kind s ok (Truncate Hosts) slot x h = absurd (cc)
line_new kind s ok Other slot x h = absurd (cc)

pub sound_step : (kind : ℕ) (s : State) → Sound s → (action : Action) → Sound (stepped s (line_of kind s action))
sound_step kind s ok action = sound_line s ok (line_of kind s action) (λ slot x h. line_new kind s ok action slot x h)

pub sound_after : (opening : State) → Sound opening → (action : ℕ → Action) (n : ℕ) → Sound (state_after opening action n)
sound_after opening ok action zero = ok
sound_after opening ok action (suc n) = sound_step 0 (state_after opening action n) (sound_after opening ok action n) (action (suc n))

-- what an action does to the places is the eqb-true for every kind
pub same_step : (kind : ℕ) (s : State) (action : Action) → stepped s (line_of kind s action) ≡ stepped s (line_of 0 s action)
same_step kind s (Connect number user host) = refl
same_step kind s (Quit number) = refl
same_step kind s (Truncate (Summary number level)) = at (number == kind) ∙ sym (at (number == 0))
  where
    at : (b : Bool) → stepped s (cond b (Truncates level) Others) ≡ s
    at true = refl
    at false = refl
same_step kind s (Truncate Accounts) = refl
same_step kind s (Truncate Users) = refl
same_step kind s (Truncate Hosts) = refl
same_step kind s Other = refl

-- a session that is connected isn't disconnected by the quit of another one
pub quits_none : (kind : ℕ) (s : State) (action : Action) (slot : ℕ) (x : Session) → entry_at s.threads slot ≡ Some x → (action ≡ Quit x.number → ⊥) → quits slot (line_of kind s action) ≡ false
quits_none kind s (Connect number user host) slot x h other = at (lowest_free s.threads)
  where
    at : (o : Option ℕ) → quits slot (connect_line s number user host o) ≡ false
    at None = refl
    at (Some t) = refl
quits_none kind s (Quit number) slot x h other = at (found_where (λ y. y.number == number) s.threads) refl
  where
    at : (o : Option (Found Session)) → found_where (λ y. y.number == number) s.threads ≡ o → quits slot (quit_line o) ≡ false
    at None q = refl
    at (Some f) q = by (slot == f.place) refl
      where
        st : Stands (λ y. y.number == number) s.threads f
        st = found_is (λ y. y.number == number) s.threads f q

        by : (b : Bool) → (slot == f.place) ≡ b → (slot == f.place) ≡ false
        by false e = e
        by true e =
            let is : f.entry ≡ x = some_is f.entry x (sym st.stands ∙ (ap (entry_at s.threads) (sym (eqb-true slot f.place e)) ∙ h)) in
            absurd (other (ap (λ n. Quit n) (sym (eqb-true f.entry.number number st.passes) ∙ ap (λ (y : Session). y.number) is)))
quits_none kind s (Truncate (Summary number level)) slot x h other = at (number == kind)
  where
    at : (b : Bool) → quits slot (cond b (Truncates level) Others) ≡ false
    at true = refl
    at false = refl
quits_none kind s (Truncate Accounts) slot x h other = refl
quits_none kind s (Truncate Users) slot x h other = refl
quits_none kind s (Truncate Hosts) slot x h other = refl
quits_none kind s Other slot x h other = refl

-- from its connect to its quit a session stands with its entries
pub lives_until : (opening : State) → Sound opening → (action : ℕ → Action) (slot : ℕ) (x : Session) (connect : ℕ) → entry_at (state_after opening action connect).threads slot ≡ Some x
    → (more : ℕ) → ((n : ℕ) → suc connect ≤ n → n ≤ connect + more → action n ≡ Quit x.number → ⊥) → Lives (state_after opening action (connect + more)) slot x
lives_until opening ok action slot x connect here zero stays = subst (λ n. Lives (state_after opening action n) slot x) (plus connect) ((sound_after opening ok action connect).lives slot x here)
  where
    plus : (n : ℕ) → n ≡ n + 0
    plus n = omega arith
lives_until opening ok action slot x connect here (suc more) stays =
    let ih : Lives (state_after opening action (connect + more)) slot x = lives_until opening ok action slot x connect here more (λ n low high. stays n low (omega arith)) in
    subst (λ n. Lives (state_after opening action n) slot x) (plus connect more)
    (lives_on (state_after opening action (connect + more)) (line_of 0 (state_after opening action (connect + more)) (action (suc (connect + more)))) slot x
    (quits_none 0 (state_after opening action (connect + more)) (action (suc (connect + more))) slot x ih.thread (stays (suc (connect + more)) (omega arith) (omega arith))) ih)
  where
    plus : (a b : ℕ) → suc (a + b) ≡ a + suc b
    plus a b = omega arith
