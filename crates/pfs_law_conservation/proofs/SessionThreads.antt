-- From its connect on a session stands at its slot, and nowhere else, until it quits.
use Rattle.std.proofs.Common.{◌≡◌, refl, ℕ, zero, suc, ◌<◌, ◌≤◌, ◌==◌, Bool, true, false, cond, List, [], ◌∷◌, Option, Some, None, sym, ap, subst, ◌∙◌, ◌⊎◌, inl, inr, arith}
use Rattle.std.specs.Prelude.{unwrap_or}
use Rattle.std.proofs.lemmas.Bool.{eqb-true}
use Rattle.pfs_conservation.specs.AdministrationFold.{Table, Summary, Accounts, Users, Hosts, Action, Connect, Quit, Truncate, Other, Found, found_where, one_up, lowest_free, session_by, session_of, is_account, connect_line, quit_line, table_line, line_of, state_after}
use Rattle.pfs_conservation.specs.PlaceFolds.{State, Session, Quits, Truncates, Others, entry_at, fill_at, emptied_at, Entry}
use Rattle.pfs_conservation.specs.PlaceFolds.{stepped as then_places}
use Rattle.pfs_law_conservation.proofs.EventNumbers.{which}
use Rattle.pfs_law_conservation.proofs.QuitMoves.{IsThere, found_there}

-- what stands in a list behind a change
fill_entry : {X : Type 0} (n : ℕ) (new : X) (xs : List (Option X)) (j : ℕ) (y : X) → entry_at (fill_at n new xs) j ≡ Some y → (entry_at xs j ≡ Some y) ⊎ ((j ≡ n) × (y ≡ new))
fill_entry n new [] j y e = inl e
fill_entry zero new (None ∷ xs) zero y e = inr (refl, (let k : new ≡ y = cc in sym k))
fill_entry zero new (Some x ∷ xs) zero y e = inl e
fill_entry zero new (x ∷ xs) (suc j) y e = inl e
fill_entry (suc n) new (x ∷ xs) zero y e = inl e
fill_entry {X = X} (suc n) new (x ∷ xs) (suc j) y e = on (fill_entry n new xs j y e) where
  on : (entry_at xs j ≡ Some y) ⊎ ((j ≡ n) × (y ≡ new)) → (entry_at xs j ≡ Some y) ⊎ ((suc j ≡ suc n) × (y ≡ new))
  on (inl k) = inl k
  on (inr k) = inr (ap (λ m. suc m) k.0, k.1)

fill_stays : {X : Type 0} (n : ℕ) (new : X) (xs : List (Option X)) (j : ℕ) (y : X) → entry_at xs j ≡ Some y → entry_at (fill_at n new xs) j ≡ Some y
fill_stays n new [] j y e = e
fill_stays {X = X} zero new (x ∷ xs) zero y e = ap (λ (o : Option X). Some (unwrap_or o new)) e
fill_stays zero new (x ∷ xs) (suc j) y e = e
fill_stays (suc n) new (x ∷ xs) zero y e = e
fill_stays (suc n) new (x ∷ xs) (suc j) y e = fill_stays n new xs j y e

emptied_entry : {X : Type 0} (n : ℕ) (xs : List (Option X)) (j : ℕ) (y : X) → entry_at (emptied_at n xs) j ≡ Some y → entry_at xs j ≡ Some y
emptied_entry n [] j y e = e
emptied_entry zero (x ∷ xs) zero y e = absurd (cc)
emptied_entry zero (x ∷ xs) (suc j) y e = e
emptied_entry (suc n) (x ∷ xs) zero y e = e
emptied_entry (suc n) (x ∷ xs) (suc j) y e = emptied_entry n xs j y e

emptied_stays : {X : Type 0} (n : ℕ) (xs : List (Option X)) (j : ℕ) (y : X) → (j ≡ n → ⊥) → entry_at xs j ≡ Some y → entry_at (emptied_at n xs) j ≡ Some y
emptied_stays n [] j y a e = e
emptied_stays zero (x ∷ xs) zero y a e = absurd (a refl)
emptied_stays zero (x ∷ xs) (suc j) y a e = e
emptied_stays (suc n) (x ∷ xs) zero y a e = e
emptied_stays (suc n) (x ∷ xs) (suc j) y a e = emptied_stays n xs j y (λ k. a (ap (λ m. suc m) k)) e

-- who stands somewhere is found
pub found_some : {X : Type 0} (test : X → Bool) (xs : List (Option X)) (j : ℕ) (x : X) → entry_at xs j ≡ Some x → test x ≡ true → (f : Found X) × (found_where test xs ≡ Some f)
found_some test [] j x e t = absurd (cc)
found_some test (None ∷ xs) zero x e t = absurd (cc)
found_some {X = X} test (Some y ∷ xs) zero x e t = (record { place = 0; entry = y }, ap (λ b. cond b (Some (record { place = 0; entry = y })) (one_up (found_where test xs))) (let k : y ≡ x = cc in ap test k ∙ t))
found_some {X = X} test (None ∷ xs) (suc j) x e t = on (found_some test xs j x e t) where
  on : (f : Found X) × (found_where test xs ≡ Some f) → (f : Found X) × (one_up (found_where test xs) ≡ Some f)
  on (f, q) = (record { place = suc f.place; entry = f.entry }, ap one_up q)
found_some {X = X} test (Some y ∷ xs) (suc j) x e t = on (found_some test xs j x e t) (test y) where
  on : (f : Found X) × (found_where test xs ≡ Some f) → (b : Bool) → (f : Found X) × (cond b (Some (record { place = 0; entry = y })) (one_up (found_where test xs)) ≡ Some f)
  on (f, q) true = (record { place = 0; entry = y }, refl)
  on (f, q) false = (record { place = suc f.place; entry = f.entry }, ap one_up q)

number_in : (s : State) (number user host : ℕ) → (session_of s number user host).number ≡ number
number_in s number user host = by (found_where (is_account user host) s.accounts) where
  by : (f : Option (Found Entry)) → (session_by s number user host f).number ≡ number
  by (Some account) = refl
  by None = refl

-- TRUNCATE moves nobody
table_threads : (s : State) (kind : ℕ) (table : Table) → (then_places s (table_line kind table)).threads ≡ s.threads
table_threads s kind (Summary number level) = on (number == kind) where
  on : (b : Bool) → (then_places s (cond b (Truncates level) Others)).threads ≡ s.threads
  on true = refl
  on false = refl
table_threads s kind Accounts = refl
table_threads s kind Users = refl
table_threads s kind Hosts = refl

module _ (opening : State) (acts : ℕ → Action) (session slot connect : ℕ) (x : Session) (own : x.number ≡ session)
    (free : (j : ℕ) (y : Session) → entry_at opening.threads j ≡ Some y → ⊥)
    (seat : entry_at (state_after opening acts connect).threads slot ≡ Some x)
    (only : (k user host : ℕ) → acts k ≡ Connect session user host → k ≡ connect) where
  abbrev threads : ℕ → List (Option Session)
  threads k = (state_after opening acts k).threads

  -- nobody else has the number
  abbrev IsOnly : ℕ → Type 0
  IsOnly k = (j : ℕ) (y : Session) → entry_at (state_after opening acts k).threads j ≡ Some y → y.number ≡ session → (connect ≤ k) × (j ≡ slot)

  later : (k : ℕ) (j : ℕ) → (connect ≤ k) × (j ≡ slot) → (connect ≤ suc k) × (j ≡ slot)
  later k j r = let l : connect ≤ k = r.0 in (omega (arith, l), r.1)

  connects : (k : ℕ) → IsOnly k → (number user host : ℕ) → acts (suc k) ≡ Connect number user host → (o : Option ℕ)
      → ((connect ≡ suc k) → entry_at (then_places (state_after opening acts k) (connect_line (state_after opening acts k) number user host o)).threads slot ≡ Some x)
      → (j : ℕ) (y : Session) → entry_at (then_places (state_after opening acts k) (connect_line (state_after opening acts k) number user host o)).threads j ≡ Some y → y.number ≡ session → (connect ≤ suc k) × (j ≡ slot)
  connects k u number user host a None s j y e n = later k j (u j y e n)
  connects k u number user host a (Some other) s j y e n = on (fill_entry other (session_of (state_after opening acts k) number user host) (state_after opening acts k).threads j y e) where
    new : (j ≡ other) → y ≡ session_of (state_after opening acts k) number user host → (connect ≤ suc k) × (j ≡ slot)
    new q r =
        let m : number ≡ session = sym (number_in (state_after opening acts k) number user host) ∙ (sym (ap (λ (z : Session). z.number) r) ∙ n) in
        let c : suc k ≡ connect = only (suc k) user host (a ∙ ap (λ z. Connect z user host) m) in
        (omega (arith, c), here c (fill_entry other (session_of (state_after opening acts k) number user host) (state_after opening acts k).threads slot x (s (sym c)))) where
          here : suc k ≡ connect → (entry_at (state_after opening acts k).threads slot ≡ Some x) ⊎ ((slot ≡ other) × (x ≡ session_of (state_after opening acts k) number user host)) → j ≡ slot
          here c (inl z) = absurd (let l : connect ≤ k = (u slot x z own).0 in omega (arith, l, c))
          here c (inr z) = q ∙ sym z.0

    on : (entry_at (state_after opening acts k).threads j ≡ Some y) ⊎ ((j ≡ other) × (y ≡ session_of (state_after opening acts k) number user host)) → (connect ≤ suc k) × (j ≡ slot)
    on (inl z) = later k j (u j y z n)
    on (inr z) = new z.0 z.1

  pub only_there : (k : ℕ) → IsOnly k
  only_there zero j y e n = absurd (free j y e)
  only_there (suc k) j y e n = by (acts (suc k)) refl (only_there k) e where
    Q : State
    Q = state_after opening acts k

    quits : (o : Option (Found Session)) → IsOnly k → entry_at (then_places (state_after opening acts k) (quit_line o)).threads j ≡ Some y → (connect ≤ suc k) × (j ≡ slot)
    quits None u e = later k j (u j y e n)
    quits (Some f) u e = later k j (u j y (emptied_entry f.place (state_after opening acts k).threads j y e) n)

    by : (a : Action) → acts (suc k) ≡ a → IsOnly k → entry_at (then_places (state_after opening acts k) (line_of 0 (state_after opening acts k) a)).threads j ≡ Some y → (connect ≤ suc k) × (j ≡ slot)
    by (Connect number user host) a u e =
        connects k u number user host a (lowest_free (state_after opening acts k).threads)
        (λ c. subst (λ z. entry_at (then_places (state_after opening acts k) (line_of 0 (state_after opening acts k) z)).threads slot ≡ Some x) a (subst (λ z. entry_at (state_after opening acts z).threads slot ≡ Some x) c seat))
        j y e n
    by (Quit number) a u e = quits (found_where (λ z. z.number == number) (state_after opening acts k).threads) u e
    by (Truncate table) a u e = later k j (u j y (subst (λ zs. entry_at zs j ≡ Some y) (table_threads (state_after opening acts k) 0 table) e) n)
    by Other a u e = later k j (u j y e n)

  -- and it stays until it quits
  pub stays_there : (quit : ℕ) → ((k : ℕ) → suc connect ≤ k → k < quit → acts k ≡ Quit session → ⊥) → (k : ℕ) → connect ≤ k → k < quit → entry_at (state_after opening acts k).threads slot ≡ Some x
  stays_there quit never zero l m = subst (λ z. entry_at (state_after opening acts z).threads slot ≡ Some x) (let e : connect ≡ zero = omega (arith, l) in e) seat
  stays_there quit never (suc k) l m = on (which connect k) (λ h. stays_there quit never k h (omega (arith, m))) where
    step : (a : Action) → acts (suc k) ≡ a → connect ≤ k → entry_at (state_after opening acts k).threads slot ≡ Some x → entry_at (then_places (state_after opening acts k) (line_of 0 (state_after opening acts k) a)).threads slot ≡ Some x
    step (Connect number user host) a h e = by (lowest_free (state_after opening acts k).threads) where
      by : (o : Option ℕ) → entry_at (then_places (state_after opening acts k) (connect_line (state_after opening acts k) number user host o)).threads slot ≡ Some x
      by None = e
      by (Some other) = fill_stays other (session_of (state_after opening acts k) number user host) (state_after opening acts k).threads slot x e
    step (Quit number) a h e = by (found_where (λ z. z.number == number) (state_after opening acts k).threads) refl where
      by : (o : Option (Found Session)) → found_where (λ z. z.number == number) (state_after opening acts k).threads ≡ o → entry_at (then_places (state_after opening acts k) (quit_line o)).threads slot ≡ Some x
      by None q = e
      by (Some f) q = emptied_stays f.place (state_after opening acts k).threads slot x apart e where
        t : IsThere (λ (z : Session). z.number == number) (state_after opening acts k).threads f
        t = found_there (λ (z : Session). z.number == number) (state_after opening acts k).threads f q

        apart : slot ≡ f.place → ⊥
        apart r =
            let same : x ≡ f.entry = (let z : Some x ≡ Some f.entry = sym e ∙ (ap (λ j. entry_at (state_after opening acts k).threads j) r ∙ t.entry) in cc) in
            let n : session ≡ number = sym own ∙ (ap (λ (z : Session). z.number) same ∙ eqb-true f.entry.number number t.passes) in
            never (suc k) (omega (arith, h)) m (a ∙ ap (λ z. Quit z) (sym n))
    step (Truncate table) a h e = subst (λ zs. entry_at zs slot ≡ Some x) (sym (table_threads (state_after opening acts k) 0 table)) e
    step Other a h e = e

    on : (connect ≤ k) ⊎ (k < connect) → (connect ≤ k → entry_at (state_after opening acts k).threads slot ≡ Some x) → entry_at (state_after opening acts (suc k)).threads slot ≡ Some x
    on (inl h) go = step (acts (suc k)) refl h (go h)
    on (inr h) go = subst (λ z. entry_at (state_after opening acts z).threads slot ≡ Some x) (let e : connect ≡ suc k = omega (arith, h, l) in e) seat

  -- so the quit is of its slot
  pub quits_slot : (kind k : ℕ) → entry_at (state_after opening acts k).threads slot ≡ Some x → line_of kind (state_after opening acts k) (Quit session) ≡ Quits slot
  quits_slot kind k e = on (found_some (λ (z : Session). z.number == session) (state_after opening acts k).threads slot x e (subst (λ z. (x.number == z) ≡ true) own (self x.number))) where
    self : (n : ℕ) → (n == n) ≡ true
    self n = grind arith

    on : (f : Found Session) × (found_where (λ (z : Session). z.number == session) (state_after opening acts k).threads ≡ Some f) → line_of kind (state_after opening acts k) (Quit session) ≡ Quits slot
    on (f, q) =
        let t : IsThere (λ (z : Session). z.number == session) (state_after opening acts k).threads f = found_there (λ (z : Session). z.number == session) (state_after opening acts k).threads f q in
        ap quit_line q ∙ ap (λ z. Quits z) (only_there k f.place f.entry t.entry (eqb-true f.entry.number session t.passes)).1
