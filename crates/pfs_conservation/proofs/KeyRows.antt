-- The rows that a key shows are those that belong to it, each once.
use Rattle.std.proofs.Common.{◌≡◌, ℕ, zero, suc, ◌+◌, ◌*◌, ◌<◌, ◌≤◌, ◌==◌, ◌&&◌, Bool, true, false, cond, List, [], ◌∷◌, ◌++◌, length, Option, Some, None, count_by, refl, sym, ap, ◌∙◌, subst, arith}
use Rattle.std.specs.Prelude.{nat_lt}
use Rattle.std.proofs.lemmas.Bool.{eqb-true}
use Rattle.pfs_lemmas.proofs.Numbers.{eq_self}
use Rattle.pfs_conservation.specs.Tenures.{Owner}
use Rattle.pfs_conservation.specs.PlaceFolds.{Place, Thread, Account, User, Host, Global, Elsewhere, State, entry_at, CellRows, thread_owner, account_owner, user_owner, host_owner, global_owner, owner_of, holder_in}
use Rattle.pfs_conservation.specs.CellHolders.{Seat, Numbering, IsIn, IsNumbering, rows_of, holder_at, IsSmall}
use Rattle.pfs_conservation.specs.KindSummaries.{AreLow, Key, KeyThread, KeyAccount, KeyUser, KeyHost, KeyAll, matches, Shown, shown_by, shows_at, passes, listed_from, shown_cell, shown_in, belongs_to}
use Rattle.pfs_conservation.proofs.MergeTotals.{bit_yes, bit_no}
use Rattle.pfs_conservation.proofs.ChainEvents.{count_cons}
use Rattle.pfs_conservation.proofs.RowOwners.{clash}
use Rattle.pfs_conservation.proofs.Tenancy.{entry_low}

pub count_joined : (r : ℕ) (xs ys : List ℕ) → count_by (λ x. x == r) (xs ++ ys) ≡ count_by (λ x. x == r) xs + count_by (λ x. x == r) ys
count_joined r [] ys = omega arith
count_joined r (x ∷ xs) ys = omega (arith, count_cons (λ z. z == r) x (xs ++ ys), count_cons (λ z. z == r) x xs, count_joined r xs ys)

pub count_if : (r : ℕ) (b : Bool) (xs : List ℕ) → count_by (λ x. x == r) (cond b xs []) ≡ cond b (count_by (λ x. x == r) xs) 0
count_if r true xs = refl
count_if r false xs = refl

one_row : (r x : ℕ) → count_by (λ y. y == r) (x ∷ []) ≡ cond (x == r) 1 0
one_row r x = omega (arith, count_cons (λ y. y == r) x [])

listed_none : {X : Type 0} (test : X → Bool) (row : ℕ → ℕ) (r n : ℕ) (xs : List (Option X)) → ((k : ℕ) → n ≤ k → k < n + length xs → (row k == r) ≡ false) → count_by (λ x. x == r) (listed_from test row n xs) ≡ 0
listed_none test row r n [] h = refl
listed_none test row r n (x ∷ xs) h = at (passes test x) (h n (omega arith) (omega arith)) (listed_none test row r (suc n) xs (λ k a b. h k (omega arith) (omega arith)))
  where
    at : (b : Bool) → (row n == r) ≡ false → count_by (λ y. y == r) (listed_from test row (suc n) xs) ≡ 0 → count_by (λ y. y == r) (cond b (row n ∷ []) [] ++ listed_from test row (suc n) xs) ≡ 0
    at true q ih = omega (arith, ih, count_cons (λ y. y == r) (row n) (listed_from test row (suc n) xs), bit_no (row n == r) q)
    at false q ih = ih

listed_one : {X : Type 0} (test : X → Bool) (row : ℕ → ℕ) (r n i : ℕ) (xs : List (Option X)) → ((k : ℕ) → n ≤ k → k < n + length xs → (row k == r) ≡ (k == n + i)) → count_by (λ x. x == r) (listed_from test row n xs) ≡ cond (passes test (entry_at xs i)) 1 0
listed_one test row r n i [] h = refl
listed_one test row r n zero (x ∷ xs) h = at (passes test x) (h n (omega arith) (omega arith) ∙ here n) (listed_none test row r (suc n) xs (λ k a b. h k (omega arith) (omega arith) ∙ above n k a))
  where
    here : (n : ℕ) → (n == n + 0) ≡ true
    here n = grind arith

    above : (n k : ℕ) → suc n ≤ k → (k == n + 0) ≡ false
    above n k l = grind (arith, l)

    at : (b : Bool) → (row n == r) ≡ true → count_by (λ y. y == r) (listed_from test row (suc n) xs) ≡ 0 → count_by (λ y. y == r) (cond b (row n ∷ []) [] ++ listed_from test row (suc n) xs) ≡ cond b 1 0
    at true q ih = omega (arith, ih, count_cons (λ y. y == r) (row n) (listed_from test row (suc n) xs), bit_yes (row n == r) q)
    at false q ih = ih
listed_one test row r n (suc i) (x ∷ xs) h = at (passes test x) (h n (omega arith) (omega arith) ∙ below n i) (listed_one test row r (suc n) i xs (λ k a b. h k (omega arith) (omega arith) ∙ ap (λ m. k == m) (plus n i)))
  where
    below : (n i : ℕ) → (n == n + suc i) ≡ false
    below n i = grind arith

    plus : (n i : ℕ) → n + suc i ≡ suc n + i
    plus n i = omega arith

    at : (b : Bool) → (row n == r) ≡ false → count_by (λ y. y == r) (listed_from test row (suc n) xs) ≡ cond (passes test (entry_at xs i)) 1 0 → count_by (λ y. y == r) (cond b (row n ∷ []) [] ++ listed_from test row (suc n) xs) ≡ cond (passes test (entry_at xs i)) 1 0
    at true q ih = omega (arith, ih, count_cons (λ y. y == r) (row n) (listed_from test row (suc n) xs), bit_no (row n == r) q)
    at false q ih = ih

module _ (n : Numbering) (good : IsNumbering n) (r : ℕ) where
  -- a row's number is its seat's alone
  pub row_is : (cell : ℕ) (place : Place) → n.is_cell cell ≡ true → IsIn place → n.seat r ≡ record { cell = cell; place = place } → n.row cell place ≡ r
  row_is cell place low within q =
      sym (ap (λ (s : Seat). n.row s.cell s.place) q) ∙ good.rows r (subst (λ (s : Seat). IsIn s.place) (sym q) within)

  pub seat_is : (cell : ℕ) (place : Place) → n.is_cell cell ≡ true → IsIn place → (n.row cell place == r) ≡ true → n.seat r ≡ record { cell = cell; place = place }
  seat_is cell place low within q = ap n.seat (sym (eqb-true (n.row cell place) r q)) ∙ good.seats cell place low within

  pub row_apart : (cell : ℕ) (place : Place) → n.is_cell cell ≡ true → IsIn place → (n.seat r ≡ record { cell = cell; place = place } → ⊥) → (n.row cell place == r) ≡ false
  row_apart cell place low within other = at (n.row cell place == r) refl
    where
      at : (b : Bool) → (n.row cell place == r) ≡ b → (n.row cell place == r) ≡ false
      at true q = absurd (other (seat_is cell place low within q))
      at false q = q

  part_none : {X : Type 0} (test : X → Bool) (cell : ℕ) (make : ℕ → Place) (xs : List (Option X)) → n.is_cell cell ≡ true → ((k : ℕ) → k < 32 → IsIn (make k)) → length xs ≤ 32 → ((k : ℕ) → n.seat r ≡ record { cell = cell; place = make k } → ⊥)
      → count_by (λ x. x == r) (listed_from test (λ k. n.row cell (make k)) 0 xs) ≡ 0
  part_none test cell make xs low within long other = listed_none test (λ k. n.row cell (make k)) r 0 xs (λ k a b. row_apart cell (make k) low (within k (omega arith)) (other k))

  part_one : {X : Type 0} (test : X → Bool) (cell : ℕ) (make : ℕ → Place) (xs : List (Option X)) (m : ℕ) → n.is_cell cell ≡ true → ((k : ℕ) → k < 32 → IsIn (make k)) → length xs ≤ 32 → ((k : ℕ) → make m ≡ make k → m ≡ k) → m < 32 → n.seat r ≡ record { cell = cell; place = make m }
      → count_by (λ x. x == r) (listed_from test (λ k. n.row cell (make k)) 0 xs) ≡ cond (passes test (entry_at xs m)) 1 0
  part_one test cell make xs m low within long inj in_range q = listed_one test (λ k. n.row cell (make k)) r 0 m xs (λ k a b. at k (omega arith) (k == m) refl)
    where
      plus : (m : ℕ) → m ≡ 0 + m
      plus m = omega arith

      seats : (c : ℕ) (p o : Place) → ◌≡◌ {A = Seat} (record { cell = c; place = p }) (record { cell = c; place = o }) → p ≡ o
      seats c p o h = ap (λ (s : Seat). s.place) h

      apart : (a b : ℕ) → (a == b) ≡ false → b ≡ a → ⊥
      apart a b q h = grind (arith, q, h)

      at : (k : ℕ) → k < 32 → (b : Bool) → (k == m) ≡ b → (n.row cell (make k) == r) ≡ (k == 0 + m)
      at k l true e = ap (λ z. n.row cell (make z) == r) (eqb-true k m e) ∙ (ap (λ z. z == r) (row_is cell (make m) low (within m in_range) q) ∙ (eq_self r ∙ (sym e ∙ ap (λ z. k == z) (plus m))))
      at k l false e = row_apart cell (make k) low (within k l) (λ h. apart k m e (inj k (seats cell (make m) (make k) (sym q ∙ h)))) ∙ (sym e ∙ ap (λ z. k == z) (plus m))

  module _ (key : Key) (s : State) (small : IsSmall s) (cell : ℕ) (low : n.is_cell cell ≡ true) where
    rows : CellRows
    rows = rows_of n cell

    threads_of : List ℕ
    threads_of = listed_from (λ x. matches key (thread_owner (rows_of n cell) x)) (rows_of n cell).thread 0 s.threads

    abbrev accounts_of : List ℕ
    accounts_of = listed_from (λ x. matches key (account_owner (rows_of n cell) x)) (rows_of n cell).account 0 s.accounts

    abbrev users_of : List ℕ
    users_of = listed_from (λ x. matches key (user_owner x)) (rows_of n cell).user 0 s.users

    abbrev hosts_of : List ℕ
    hosts_of = listed_from (λ x. matches key (host_owner (rows_of n cell) x)) (rows_of n cell).host 0 s.hosts

    parts : (t a u h g : ℕ) → count_by (λ x. x == r) (listed_from (λ x. matches key (thread_owner (rows_of n cell) x)) (rows_of n cell).thread 0 s.threads) ≡ t → count_by (λ x. x == r) accounts_of ≡ a → count_by (λ x. x == r) users_of ≡ u → count_by (λ x. x == r) hosts_of ≡ h → cond {A = ℕ} (n.row cell Global == r) 1 0 ≡ g
        → count_by (λ x. x == r) (shown_cell key (rows_of n cell) s) ≡ t + (cond (shown_by key).accounts a 0 + (cond (shown_by key).users u 0 + (cond (shown_by key).hosts h 0 + cond (shown_by key).global g 0)))
    parts t a u h g qt qa qu qh qg =
        let T : List ℕ = listed_from (λ x. matches key (thread_owner (rows_of n cell) x)) (rows_of n cell).thread 0 s.threads in
        let k : Shown = shown_by key in
        count_joined r T (cond k.accounts accounts_of [] ++ (cond k.users users_of [] ++ (cond k.hosts hosts_of [] ++ cond k.global (n.row cell Global ∷ []) [])))
        ∙ (ap (λ z. z + count_by (λ x. x == r) (cond k.accounts accounts_of [] ++ (cond k.users users_of [] ++ (cond k.hosts hosts_of [] ++ cond k.global (n.row cell Global ∷ []) [])))) qt
        ∙ ap (λ z. t + z) (count_joined r (cond k.accounts accounts_of []) (cond k.users users_of [] ++ (cond k.hosts hosts_of [] ++ cond k.global (n.row cell Global ∷ []) []))
        ∙ (ap (λ z. z + count_by (λ x. x == r) (cond k.users users_of [] ++ (cond k.hosts hosts_of [] ++ cond k.global (n.row cell Global ∷ []) []))) (count_if r k.accounts accounts_of ∙ ap (λ z. cond k.accounts z 0) qa)
        ∙ ap (λ z. cond k.accounts a 0 + z) (count_joined r (cond k.users users_of []) (cond k.hosts hosts_of [] ++ cond k.global (n.row cell Global ∷ []) [])
        ∙ (ap (λ z. z + count_by (λ x. x == r) (cond k.hosts hosts_of [] ++ cond k.global (n.row cell Global ∷ []) [])) (count_if r k.users users_of ∙ ap (λ z. cond k.users z 0) qu)
        ∙ ap (λ z. cond k.users u 0 + z) (count_joined r (cond k.hosts hosts_of []) (cond k.global (n.row cell Global ∷ []) [])
        ∙ (ap (λ z. z + count_by (λ x. x == r) (cond k.global (n.row cell Global ∷ []) [])) (count_if r k.hosts hosts_of ∙ ap (λ z. cond k.hosts z 0) qh)
        ∙ ap (λ z. cond k.hosts h 0 + z) (count_if r k.global (n.row cell Global ∷ []) ∙ ap (λ z. cond k.global z 0) (one_row r (n.row cell Global) ∙ qg)))))))))

    zeros : (a b c d : Bool) → 0 + (cond {A = ℕ} a 0 0 + (cond {A = ℕ} b 0 0 + (cond {A = ℕ} c 0 0 + cond {A = ℕ} d 0 0))) ≡ 0
    zeros true true true true = refl
    zeros true true true false = refl
    zeros true true false d = at d
      where
        at : (d : Bool) → 0 + (0 + (0 + (0 + cond {A = ℕ} d 0 0))) ≡ 0
        at true = refl
        at false = refl
    zeros true false c d = at c d
      where
        at : (c d : Bool) → 0 + (0 + (0 + (cond {A = ℕ} c 0 0 + cond {A = ℕ} d 0 0))) ≡ 0
        at true true = refl
        at true false = refl
        at false true = refl
        at false false = refl
    zeros false b c d = at b c d
      where
        at : (b c d : Bool) → 0 + (0 + (cond {A = ℕ} b 0 0 + (cond {A = ℕ} c 0 0 + cond {A = ℕ} d 0 0))) ≡ 0
        at true true true = refl
        at true true false = refl
        at true false true = refl
        at true false false = refl
        at false true true = refl
        at false true false = refl
        at false false true = refl
        at false false false = refl

    -- a row of another cell isn't shown
    cell_none : ((p : Place) → n.seat r ≡ record { cell = cell; place = p } → ⊥) → count_by (λ x. x == r) (shown_cell key (rows_of n cell) s) ≡ 0
    cell_none other =
        parts 0 0 0 0 0 (part_none (λ x. matches key (thread_owner (rows_of n cell) x)) cell (λ k. Thread k) s.threads low (λ k l. l) small.threads (λ k. other (Thread k)))
        (part_none (λ x. matches key (account_owner (rows_of n cell) x)) cell (λ k. Account k) s.accounts low (λ k l. l) small.accounts (λ k. other (Account k)))
        (part_none (λ x. matches key (user_owner x)) cell (λ k. User k) s.users low (λ k l. l) small.users (λ k. other (User k)))
        (part_none (λ x. matches key (host_owner (rows_of n cell) x)) cell (λ k. Host k) s.hosts low (λ k l. l) small.hosts (λ k. other (Host k)))
        (bit_no (n.row cell Global == r) (row_apart cell Global low tt (other Global)))
        ∙ zeros (shown_by key).accounts (shown_by key).users (shown_by key).hosts (shown_by key).global

    not_thread : (p : Place) (k : ℕ) → ((k : ℕ) → p ≡ Thread k → ⊥) → n.seat r ≡ record { cell = cell; place = p } → n.seat r ≡ record { cell = cell; place = Thread k } → ⊥
    not_thread p k other q h = other k (ap (λ (s : Seat). s.place) (sym q ∙ h))

    count_threads : (p : Place) → n.seat r ≡ record { cell = cell; place = p } → ((k : ℕ) → p ≡ Thread k → ⊥) → count_by (λ x. x == r) (listed_from (λ x. matches key (thread_owner (rows_of n cell) x)) (rows_of n cell).thread 0 s.threads) ≡ 0
    count_threads p q other = part_none (λ x. matches key (thread_owner (rows_of n cell) x)) cell (λ k. Thread k) s.threads low (λ k l. l) small.threads (λ k h. other k (ap (λ (s : Seat). s.place) (sym q ∙ h)))

    count_accounts : (p : Place) → n.seat r ≡ record { cell = cell; place = p } → ((k : ℕ) → p ≡ Account k → ⊥) → count_by (λ x. x == r) accounts_of ≡ 0
    count_accounts p q other = part_none (λ x. matches key (account_owner (rows_of n cell) x)) cell (λ k. Account k) s.accounts low (λ k l. l) small.accounts (λ k h. other k (ap (λ (s : Seat). s.place) (sym q ∙ h)))

    count_users : (p : Place) → n.seat r ≡ record { cell = cell; place = p } → ((k : ℕ) → p ≡ User k → ⊥) → count_by (λ x. x == r) users_of ≡ 0
    count_users p q other = part_none (λ x. matches key (user_owner x)) cell (λ k. User k) s.users low (λ k l. l) small.users (λ k h. other k (ap (λ (s : Seat). s.place) (sym q ∙ h)))

    count_hosts : (p : Place) → n.seat r ≡ record { cell = cell; place = p } → ((k : ℕ) → p ≡ Host k → ⊥) → count_by (λ x. x == r) hosts_of ≡ 0
    count_hosts p q other = part_none (λ x. matches key (host_owner (rows_of n cell) x)) cell (λ k. Host k) s.hosts low (λ k l. l) small.hosts (λ k h. other k (ap (λ (s : Seat). s.place) (sym q ∙ h)))

    count_global : (p : Place) → n.seat r ≡ record { cell = cell; place = p } → (p ≡ Global → ⊥) → cond {A = ℕ} (n.row cell Global == r) 1 0 ≡ 0
    count_global p q other = bit_no (n.row cell Global == r) (row_apart cell Global low tt (λ h. other (ap (λ (s : Seat). s.place) (sym q ∙ h))))

    -- the one level where the row stands
    only_first : (t : ℕ) (a b c d : Bool) → t + (cond {A = ℕ} a 0 0 + (cond {A = ℕ} b 0 0 + (cond {A = ℕ} c 0 0 + cond {A = ℕ} d 0 0))) ≡ t
    only_first t a b c d = omega (arith, zeros a b c d)

    shows_if : (b : Bool) (m : Bool) (z : ℕ) → z ≡ cond {A = ℕ} m 1 0 → cond b z 0 ≡ cond {A = ℕ} (b && m) 1 0
    shows_if true m z q = q
    shows_if false m z q = refl

    held_passes : {X : Type 0} (make : X → Owner) (e : Option X) (o : Owner) → owner_of make e ≡ Some o → passes (λ x. matches key (make x)) e ≡ matches key o
    held_passes make None o h = clash o h
    held_passes make (Some x) o h = ap (matches key) (some_owner (make x) o h)
      where
        some_owner : (a b : Owner) → ◌≡◌ {A = Option Owner} (Some a) (Some b) → a ≡ b
        some_owner a b h = cc

    held_low : {X : Type 0} (make : X → Owner) (xs : List (Option X)) (m : ℕ) (o : Owner) → length xs ≤ 32 → owner_of make (entry_at xs m) ≡ Some o → m < 32
    held_low {X = X} make xs m o long h = at (entry_at xs m) refl h
      where
        at : (e : Option X) → entry_at xs m ≡ e → owner_of make e ≡ Some o → m < 32
        at None q h = clash o h
        at (Some x) q h = let l : suc m ≤ length xs = entry_low xs m x q in omega arith

    -- a row of this cell is shown where it belongs to the key
    cell_one : (p : Place) (o : Owner) → n.seat r ≡ record { cell = cell; place = p } → holder_in (rows_of n cell) s p ≡ Some o → count_by (λ x. x == r) (shown_cell key (rows_of n cell) s) ≡ cond (shows_at key p && matches key o) 1 0
    cell_one (Thread m) o q h =
        let one : count_by (λ x. x == r) (listed_from (λ x. matches key (thread_owner (rows_of n cell) x)) (rows_of n cell).thread 0 s.threads) ≡ cond {A = ℕ} (matches key o) 1 0 =
        part_one (λ x. matches key (thread_owner (rows_of n cell) x)) cell (λ k. Thread k) s.threads m low (λ k l. l) small.threads (λ k e. thread_same m k e) (held_low (thread_owner (rows_of n cell)) s.threads m o small.threads h) q
        ∙ ap (λ (b : Bool). cond {A = ℕ} b 1 0) (held_passes (thread_owner (rows_of n cell)) (entry_at s.threads m) o h) in
        parts (cond {A = ℕ} (matches key o) 1 0) 0 0 0 0 one (count_accounts (Thread m) q (λ k e. absurd (cc))) (count_users (Thread m) q (λ k e. absurd (cc))) (count_hosts (Thread m) q (λ k e. absurd (cc))) (count_global (Thread m) q (λ e. absurd (cc)))
        ∙ only_first (cond {A = ℕ} (matches key o) 1 0) (shown_by key).accounts (shown_by key).users (shown_by key).hosts (shown_by key).global
      where
        thread_same : (a b : ℕ) → Thread a ≡ Thread b → a ≡ b
        thread_same a b h = cc
    cell_one (Account m) o q h =
        let one : count_by (λ x. x == r) accounts_of ≡ cond {A = ℕ} (matches key o) 1 0 =
        part_one (λ x. matches key (account_owner (rows_of n cell) x)) cell (λ k. Account k) s.accounts m low (λ k l. l) small.accounts (λ k e. account_same m k e) (held_low (account_owner (rows_of n cell)) s.accounts m o small.accounts h) q
        ∙ ap (λ (b : Bool). cond {A = ℕ} b 1 0) (held_passes (account_owner (rows_of n cell)) (entry_at s.accounts m) o h) in
        let k : Shown = shown_by key in
        parts 0 (cond {A = ℕ} (matches key o) 1 0) 0 0 0 (count_threads (Account m) q (λ k e. absurd (cc))) one (count_users (Account m) q (λ k e. absurd (cc))) (count_hosts (Account m) q (λ k e. absurd (cc))) (count_global (Account m) q (λ e. absurd (cc)))
        ∙ (sum (cond k.accounts (cond {A = ℕ} (matches key o) 1 0) 0) k.users k.hosts k.global ∙ shows_if k.accounts (matches key o) (cond {A = ℕ} (matches key o) 1 0) refl)
      where
        account_same : (a b : ℕ) → Account a ≡ Account b → a ≡ b
        account_same a b h = cc

        sum : (z : ℕ) (b c d : Bool) → 0 + (z + (cond {A = ℕ} b 0 0 + (cond {A = ℕ} c 0 0 + cond {A = ℕ} d 0 0))) ≡ z
        sum z b c d = omega (arith, zeros true b c d)
    cell_one (User m) o q h =
        let one : count_by (λ x. x == r) users_of ≡ cond {A = ℕ} (matches key o) 1 0 =
        part_one (λ x. matches key (user_owner x)) cell (λ k. User k) s.users m low (λ k l. l) small.users (λ k e. user_same m k e) (held_low user_owner s.users m o small.users h) q
        ∙ ap (λ (b : Bool). cond {A = ℕ} b 1 0) (held_passes user_owner (entry_at s.users m) o h) in
        let k : Shown = shown_by key in
        parts 0 0 (cond {A = ℕ} (matches key o) 1 0) 0 0 (count_threads (User m) q (λ k e. absurd (cc))) (count_accounts (User m) q (λ k e. absurd (cc))) one (count_hosts (User m) q (λ k e. absurd (cc))) (count_global (User m) q (λ e. absurd (cc)))
        ∙ (sum (cond k.users (cond {A = ℕ} (matches key o) 1 0) 0) k.accounts k.hosts k.global ∙ shows_if k.users (matches key o) (cond {A = ℕ} (matches key o) 1 0) refl)
      where
        user_same : (a b : ℕ) → User a ≡ User b → a ≡ b
        user_same a b h = cc

        sum : (z : ℕ) (b c d : Bool) → 0 + (cond {A = ℕ} b 0 0 + (z + (cond {A = ℕ} c 0 0 + cond {A = ℕ} d 0 0))) ≡ z
        sum z b c d = omega (arith, zeros b true c d)
    cell_one (Host m) o q h =
        let one : count_by (λ x. x == r) hosts_of ≡ cond {A = ℕ} (matches key o) 1 0 =
        part_one (λ x. matches key (host_owner (rows_of n cell) x)) cell (λ k. Host k) s.hosts m low (λ k l. l) small.hosts (λ k e. host_same m k e) (held_low (host_owner (rows_of n cell)) s.hosts m o small.hosts h) q
        ∙ ap (λ (b : Bool). cond {A = ℕ} b 1 0) (held_passes (host_owner (rows_of n cell)) (entry_at s.hosts m) o h) in
        let k : Shown = shown_by key in
        parts 0 0 0 (cond {A = ℕ} (matches key o) 1 0) 0 (count_threads (Host m) q (λ k e. absurd (cc))) (count_accounts (Host m) q (λ k e. absurd (cc))) (count_users (Host m) q (λ k e. absurd (cc))) one (count_global (Host m) q (λ e. absurd (cc)))
        ∙ (sum (cond k.hosts (cond {A = ℕ} (matches key o) 1 0) 0) k.accounts k.users k.global ∙ shows_if k.hosts (matches key o) (cond {A = ℕ} (matches key o) 1 0) refl)
      where
        host_same : (a b : ℕ) → Host a ≡ Host b → a ≡ b
        host_same a b h = cc

        sum : (z : ℕ) (b c d : Bool) → 0 + (cond {A = ℕ} b 0 0 + (cond {A = ℕ} c 0 0 + (z + cond {A = ℕ} d 0 0))) ≡ z
        sum z b c d = omega (arith, zeros b c true d)
    cell_one Global o q h =
        let k : Shown = shown_by key in
        parts 0 0 0 0 1 (count_threads Global q (λ k e. absurd (cc))) (count_accounts Global q (λ k e. absurd (cc))) (count_users Global q (λ k e. absurd (cc))) (count_hosts Global q (λ k e. absurd (cc)))
        (bit_yes (n.row cell Global == r) (ap (λ z. z == r) (row_is cell Global low tt q) ∙ eq_self r))
        ∙ (sum (cond k.global 1 0) k.accounts k.users k.hosts ∙ global_if key o h)
      where
        sum : (z : ℕ) (b c d : Bool) → 0 + (cond {A = ℕ} b 0 0 + (cond {A = ℕ} c 0 0 + (cond {A = ℕ} d 0 0 + z))) ≡ z
        sum z b c d = omega (arith, zeros b c d true)

        global_if : (key : Key) (o : Owner) → Some global_owner ≡ Some o → ◌≡◌ {A = ℕ} (cond (shown_by key).global 1 0) (cond ((shown_by key).global && matches key o) 1 0)
        global_if (KeyThread number slot) o h = refl
        global_if (KeyAccount user host) o h = refl
        global_if (KeyUser user) o h = refl
        global_if (KeyHost host) o h = refl
        global_if KeyAll o h = refl
    cell_one Elsewhere o q h = clash o h

shown_count : (n : Numbering) (good : IsNumbering n) (r : ℕ) (key : Key) (s : State) (small : IsSmall s) (c : ℕ) (p : Place) (o : Owner) → n.seat r ≡ record { cell = c; place = p } → holder_in (rows_of n c) s p ≡ Some o → (cells : List ℕ) → AreLow n cells
    → count_by (λ x. x == r) (shown_in n key cells s) ≡ count_by (λ x. x == c) cells * cond (shows_at key p && matches key o) 1 0
shown_count n good r key s small c p o q h [] lows = omega arith
shown_count n good r key s small c p o q h (cell ∷ cells) lows = at (cell == c) refl (shown_count n good r key s small c p o q h cells lows.1)
  where
    v : ℕ
    v = cond {A = ℕ} (shows_at key p && matches key o) 1 0

    joined : count_by (λ x. x == r) (shown_in n key (cell ∷ cells) s) ≡ count_by (λ x. x == r) (shown_cell key (rows_of n cell) s) + count_by (λ x. x == r) (shown_in n key cells s)
    joined = count_joined r (shown_cell key (rows_of n cell) s) (shown_in n key cells s)

    here : (k : ℕ) → n.is_cell k ≡ true → k ≡ c → count_by (λ x. x == r) (shown_cell key (rows_of n k) s) ≡ cond {A = ℕ} (shows_at key p && matches key o) 1 0
    here k l e = cell_one n good r key s small k l p o (q ∙ ap (λ z. record { cell = z; place = p }) (sym e)) (subst (λ z. holder_in (rows_of n z) s p ≡ Some o) (sym e) h)

    apart : (a b : ℕ) → (a == b) ≡ false → b ≡ a → ⊥
    apart a b q h = grind (arith, q, h)

    times : (a b d k v : ℕ) → a ≡ b + d → b ≡ v → d ≡ k * v → a ≡ (1 + k) * v
    times a b d k v p q r = omega (arith, p, q, r, split k v)
      where
        split : (k v : ℕ) → (1 + k) * v ≡ v + k * v
        split k v = omega arith

    at : (b : Bool) → (cell == c) ≡ b → count_by (λ x. x == r) (shown_in n key cells s) ≡ count_by (λ x. x == c) cells * cond {A = ℕ} (shows_at key p && matches key o) 1 0
        → count_by (λ x. x == r) (shown_in n key (cell ∷ cells) s) ≡ count_by (λ x. x == c) (cell ∷ cells) * cond {A = ℕ} (shows_at key p && matches key o) 1 0
    at true e ih =
        times (count_by (λ x. x == r) (shown_in n key (cell ∷ cells) s)) (count_by (λ x. x == r) (shown_cell key (rows_of n cell) s)) (count_by (λ x. x == r) (shown_in n key cells s)) (count_by (λ x. x == c) cells) (cond {A = ℕ} (shows_at key p && matches key o) 1 0) joined (here cell lows.0 (eqb-true cell c e)) ih
        ∙ ap (λ k. k * cond {A = ℕ} (shows_at key p && matches key o) 1 0) (let one : cond {A = ℕ} (cell == c) 1 0 ≡ 1 = bit_yes (cell == c) e in let cons : count_by (λ x. x == c) (cell ∷ cells) ≡ cond {A = ℕ} (cell == c) 1 0 + count_by (λ x. x == c) cells = count_cons (λ x. x == c) cell cells in omega arith)
    at false e ih =
        joined ∙ (ap (λ z. z + count_by (λ x. x == r) (shown_in n key cells s)) (cell_none n good r key s small cell lows.0 (λ other k. apart cell c e (ap (λ (t : Seat). t.cell) (sym q ∙ k))))
        ∙ ((zero_add (count_by (λ x. x == r) (shown_in n key cells s)) ∙ ih) ∙ ap (λ k. k * cond {A = ℕ} (shows_at key p && matches key o) 1 0) (let none : cond {A = ℕ} (cell == c) 1 0 ≡ 0 = bit_no (cell == c) e in let cons : count_by (λ x. x == c) (cell ∷ cells) ≡ cond {A = ℕ} (cell == c) 1 0 + count_by (λ x. x == c) cells = count_cons (λ x. x == c) cell cells in omega arith)))
      where
        zero_add : (z : ℕ) → 0 + z ≡ z
        zero_add z = omega arith

-- the rows that a key shows are those that belong to it, each once
pub shown_once : (n : Numbering) (good : IsNumbering n) (key : Key) (s : State) (small : IsSmall s) (cells : List ℕ) → AreLow n cells → ((c : ℕ) → count_by (λ x. x == c) cells ≤ 1)
    → (row : ℕ) (owner : Owner) → holder_at n s (n.seat row) ≡ Some owner → count_by (λ r. r == row) (shown_in n key cells s) ≡ cond (belongs_to n key cells row owner) 1 0
shown_once n good key s small cells lows once row owner h =
    shown_count n good row key s small (n.seat row).cell (n.seat row).place owner refl h cells lows
    ∙ by (count_by (λ x. x == (n.seat row).cell) cells) (shows_at key (n.seat row).place && matches key owner) (once (n.seat row).cell)
  where
    by : (k : ℕ) (b : Bool) → k ≤ 1 → k * cond {A = ℕ} b 1 0 ≡ cond {A = ℕ} (nat_lt 0 k && b) 1 0
    by zero b l = omega arith
    by (suc zero) b l = omega arith
    by (suc (suc k)) b l = absurd (omega arith)
