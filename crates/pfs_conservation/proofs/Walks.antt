-- Where an event stands: at the row that it came to and hasn't left.
use Rattle.std.proofs.Common.{◌⊎◌, inl, inr, ◌≡◌, ℕ, suc, ◌+◌, ◌*◌, ◌<◌, ◌≤◌, ◌==◌, ◌&&◌, Bool, true, false, cond, List, [], ◌∷◌, Option, Some, None, count_by, refl, sym, ap, ◌∙◌, subst, arith}
use Rattle.std.specs.Prelude.{nat_lt}
use Rattle.std.proofs.lemmas.Bool.{eqb-true}
use Rattle.pfs_lemmas.proofs.Options.{some_same}
use Rattle.pfs_conservation.specs.RowChains.{Change, Added, Taken, Given, content, found_in, found_by, Below}
use Rattle.pfs_conservation.specs.Removals.{first_take, following, counts_event, is_given, Ascends}
use Rattle.pfs_conservation.specs.Journeys.{times_counted, is_from, first_from_one, leaves_after, Journey, left, came_from, came}
use Rattle.pfs_conservation.proofs.MergeTotals.{bit_yes, bit_no}
use Rattle.pfs_conservation.proofs.EventSums.{token}
use Rattle.pfs_conservation.proofs.ChainEvents.{leaves, stays, comings, quiet_content, quiet_found, Brings, arrive_content, arrive_found, first_after_give, count_cons}

module _ (e : ℕ) (w : ℕ → ℕ → ℕ) where
  -- nothing comes along the chain
  pub record Quiet (cs : List Change) : Type 0 where
    pub none : comings e w cs ≡ 0

  -- the event comes once, by what the test tells
  pub record Arrived (leaving : Option ℕ) (cs : List Change) : Type 0 where
    pub test : Change → Bool
    pub brings : Brings e w test cs
    pub one : comings e w cs ≡ 1
    pub some : 1 ≤ count_by test cs
    pub first : first_take (following test cs) ≡ leaving

module _ (e : ℕ) (w : ℕ → ℕ → ℕ) (leave : ℕ → Option ℕ) where
  -- each give of the chain brings the event where the event leaves its row at that action
  abbrev pub Known : List Change → Type 0
  Known [] = Unit {0}
  Known (Given n row ∷ cs) = (w n row ≡ leaves n (leave row)) × Known cs
  Known (c ∷ cs) = Known cs

  leaves_no : (n : ℕ) (t : Option ℕ) → (t ≡ Some n → ⊥) → leaves n t ≡ 0
  leaves_no n None h = refl
  leaves_no n (Some k) h = bit_no (k == n) (other k n (λ q. h (ap (λ (x : ℕ). Some x) q)))
    where
      other : (a b : ℕ) → (a ≡ b → ⊥) → (a == b) ≡ false
      other a b f = grind (arith, f)

  leaves_yes : (n : ℕ) (t : Option ℕ) → t ≡ Some n → leaves n t ≡ 1
  leaves_yes n t h = ap (leaves n) h ∙ bit_yes (n == n) (self n)
    where
      self : (a : ℕ) → (a == a) ≡ true
      self a = grind arith

  -- which gives of a chain bring the event, told by a test
  pub record Tells (test : Change → Bool) (cs : List Change) : Type 0 where
    pub added : (es : List ℕ) → test (Added es) ≡ false
    pub taken : (n : ℕ) → test (Taken n) ≡ false
    pub given : (n row : ℕ) → leave row ≡ Some n → 1 ≤ count_by (is_given n row) cs → test (Given n row) ≡ true
    pub only : (n row : ℕ) → test (Given n row) ≡ true → leave row ≡ Some n

  tells_rest : (test : Change → Bool) (c : Change) (cs : List Change) → Tells test (c ∷ cs) → Tells test cs
  tells_rest test c cs t = record { added = t.added; taken = t.taken; given = λ n row l some. t.given n row l (omega (arith, count_cons (is_given n row) c cs)); only = t.only }

  given_here : (n row : ℕ) (cs : List Change) → 1 ≤ count_by (is_given n row) (Given n row ∷ cs)
  given_here n row cs = omega (arith, count_cons (is_given n row) (Given n row) cs, bit_yes (is_given n row (Given n row)) (self n row))
    where
      self : (a b : ℕ) → ((a == a) && (b == b)) ≡ true
      self a b = grind arith

  pub comings_told : (test : Change → Bool) (cs : List Change) → Known cs → Tells test cs → comings e w cs ≡ times_counted e cs + count_by test cs
  comings_told test [] k t = refl
  comings_told test (Added es ∷ cs) k t =
      omega (arith, comings_told test cs k (tells_rest test (Added es) cs t), count_cons test (Added es) cs, bit_no (test (Added es)) (t.added es))
  comings_told test (Taken n ∷ cs) k t =
      omega (arith, comings_told test cs k (tells_rest test (Taken n) cs t), count_cons test (Taken n) cs, bit_no (test (Taken n)) (t.taken n))
  comings_told test (Given n row ∷ cs) k t = here (test (Given n row)) refl (comings_told test cs k.1 (tells_rest test (Given n row) cs t))
    where
      here : (b : Bool) → test (Given n row) ≡ b → comings e w cs ≡ times_counted e cs + count_by test cs → w n row + comings e w cs ≡ times_counted e cs + count_by test (Given n row ∷ cs)
      here true q ih =
          omega (arith, ih, k.0 ∙ leaves_yes n (leave row) (t.only n row q), count_cons test (Given n row) cs, bit_yes (test (Given n row)) q)
      here false q ih =
          let none : leave row ≡ Some n → ⊥ = λ l. differ (sym (t.given n row l (given_here n row cs)) ∙ q) in
          omega (arith, ih, k.0 ∙ leaves_no n (leave row) none, count_cons test (Given n row) cs, bit_no (test (Given n row)) q)
        where
          differ : true ≡ false → ⊥
          differ f = cc

  pub brings_told : (test : Change → Bool) (cs : List Change) → Known cs → Tells test cs → Brings e w test cs
  brings_told test [] k t = tt
  brings_told test (Added es ∷ cs) k t = (λ q. absurd (differ (sym q ∙ t.added es)), brings_told test cs k (tells_rest test (Added es) cs t))
    where
      differ : true ≡ false → ⊥
      differ f = cc
  brings_told test (Taken n ∷ cs) k t = (λ q. absurd (differ (sym q ∙ t.taken n)), brings_told test cs k (tells_rest test (Taken n) cs t))
    where
      differ : true ≡ false → ⊥
      differ f = cc
  brings_told test (Given n row ∷ cs) k t = (λ q. k.0 ∙ leaves_yes n (leave row) (t.only n row q), brings_told test cs k.1 (tells_rest test (Given n row) cs t))

  counts_brings : (cs : List Change) → comings e w cs ≤ 1 → Brings e w (counts_event e) cs
  counts_brings [] h = tt
  counts_brings (Added es ∷ cs) h = (λ q. (let some : 1 ≤ count_by (λ x. x == e) es = above (count_by (λ x. x == e) es) q in omega arith), counts_brings cs (omega arith))
    where
      above : (n : ℕ) → nat_lt 0 n ≡ true → 1 ≤ n
      above n q = grind (arith, q)
  counts_brings (Taken n ∷ cs) h = (λ q. absurd (differ q), counts_brings cs (omega arith))
    where
      differ : false ≡ true → ⊥
      differ f = cc
  counts_brings (Given n row ∷ cs) h = (λ q. absurd (differ q), counts_brings cs (omega arith))
    where
      differ : false ≡ true → ⊥
      differ f = cc

  counts_some : (cs : List Change) → 1 ≤ times_counted e cs → 1 ≤ count_by (counts_event e) cs
  counts_some [] h = absurd (omega arith)
  counts_some (Added es ∷ cs) h = here (counts_event e (Added es)) refl (counts_some cs)
    where
      none : (n : ℕ) → nat_lt 0 n ≡ false → n ≡ 0
      none n q = grind (arith, q)

      here : (b : Bool) → counts_event e (Added es) ≡ b → (1 ≤ times_counted e cs → 1 ≤ count_by (counts_event e) cs) → 1 ≤ count_by (counts_event e) (Added es ∷ cs)
      here true q ih = omega (arith, count_cons (counts_event e) (Added es) cs, bit_yes (counts_event e (Added es)) q)
      here false q ih =
          let rest : 1 ≤ count_by (counts_event e) cs = ih (omega (arith, none (count_by (λ x. x == e) es) q)) in
          omega (arith, count_cons (counts_event e) (Added es) cs)
  counts_some (Taken n ∷ cs) h = omega (arith, counts_some cs h, count_cons (counts_event e) (Taken n) cs)
  counts_some (Given n row ∷ cs) h = omega (arith, counts_some cs h, count_cons (counts_event e) (Given n row) cs)

no_test : (cs : List Change) → count_by (λ (c : Change). false) cs ≡ 0
no_test [] = refl
no_test (c ∷ cs) = omega (arith, count_cons (λ (x : Change). false) c cs, no_test cs)

module _ (e : ℕ) (chains : ℕ → List Change) (level : ℕ → ℕ) (rises : (row : ℕ) → Below level (level row) (chains row)) (ascends : (row : ℕ) → Ascends 0 (chains row))
    (is_some : ℕ → ℕ → Type 0) (home : ℕ) (before leave : ℕ → Option ℕ) (j : Journey chains level is_some e home before leave) where
  nothing_told : (w : ℕ → ℕ → ℕ) (row : ℕ) → before row ≡ None → Tells e w leave (λ c. false) (chains row)
  nothing_told w row none = record { added = λ es. refl; taken = λ n. refl; given = λ n from l some. absurd (omega (arith, some, j.gives_only from n row l, ap (λ (b : Option ℕ). cond {A = ℕ} (is_from from b) 1 0) none)); only = λ n from q. absurd (differ q) }
    where
      differ : false ≡ true → ⊥
      differ f = cc

  at_home : (w : ℕ → ℕ → ℕ) → Known e w leave (chains home) → Arrived e w (leave home) (chains home)
  at_home w known = record {
    test = counts_event e;
    brings = counts_brings e w leave (chains home) (omega (arith, one));
    one = one;
    some = counts_some e w leave (chains home) (omega (arith, counted));
    first = sym j.leaves_home;
  }
    where
      self : (a : ℕ) → (a == a) ≡ true
      self a = grind arith

      counted : times_counted e (chains home) ≡ 1
      counted = j.counted home ∙ bit_yes (home == home) (self home)

      one : comings e w (chains home) ≡ 1
      one = omega (arith, comings_told e w leave (λ c. false) (chains home) known (nothing_told w home j.starts), counted, no_test (chains home))

  away_counted : (row : ℕ) → (row == home) ≡ false → times_counted e (chains row) ≡ 0
  away_counted row away = j.counted row ∙ bit_no (row == home) away

  from_none : (w : ℕ → ℕ → ℕ) (row : ℕ) → (row == home) ≡ false → Known e w leave (chains row) → before row ≡ None → Quiet e w (chains row)
  from_none w row away known none = record { none = omega (arith, comings_told e w leave (λ c. false) (chains row) known (nothing_told w row none), away_counted row away, no_test (chains row)) }

  pub from_row : (row from action other : ℕ) → before row ≡ Some from → leave other ≡ Some action → 1 ≤ count_by (is_given action other) (chains row) → from ≡ other
  from_row row from action other come l some = here (from == other) refl
    where
      here : (b : Bool) → (from == other) ≡ b → from ≡ other
      here true q = eqb-true from other q
      here false q = absurd (omega (arith, some, j.gives_only other action row l, ap (λ (b : Option ℕ). cond {A = ℕ} (is_from other b) 1 0) come, bit_no (from == other) q))

  from_waiting : (w : ℕ → ℕ → ℕ) (row from : ℕ) → (row == home) ≡ false → Known e w leave (chains row) → before row ≡ Some from → leave from ≡ None → Quiet e w (chains row)
  from_waiting w row from away known come wait = record { none = omega (arith, comings_told e w leave (λ c. false) (chains row) known tells, away_counted row away, no_test (chains row)) }
    where
      differ : false ≡ true → ⊥
      differ f = cc

      clash : (n : ℕ) → ◌≡◌ {A = Option ℕ} None (Some n) → ⊥
      clash n f = cc

      tells : Tells e w leave (λ c. false) (chains row)
      tells = record {
        added = λ es. refl;
        taken = λ n. refl;
        given = λ n other l some. absurd (clash n (sym wait ∙ (ap leave (from_row row from n other come l some) ∙ l)));
        only = λ n other q. absurd (differ q);
      }

  from_left : (w : ℕ → ℕ → ℕ) (row from m : ℕ) → is_some m from → (row == home) ≡ false → Known e w leave (chains row) → before row ≡ Some from → leave from ≡ Some m → Arrived e w (leave row) (chains row)
  from_left w row from m found away known come went = record {
    test = is_given m from;
    brings = brings_told e w leave (is_given m from) (chains row) known tells;
    one = omega (arith, comings_told e w leave (is_given m from) (chains row) known tells, away_counted row away, once);
    some = omega (arith, once);
    first = first_after_give m from 0 (chains row) (ascends row) (omega (arith, once)) ∙ sym (j.leaves row away ∙ (ap (λ b. leaves_after b leave (chains row)) come ∙ ap (λ t. first_from_one t (chains row)) went));
  }
    where
      self : (a : ℕ) → (a == a) ≡ true
      self a = grind arith

      both : (a b : ℕ) → ((a == a) && (b == b)) ≡ true
      both a b = grind arith

      once : count_by (is_given m from) (chains row) ≡ 1
      once = omega (arith, j.gives from m row come went found, j.gives_only from m row went, ap (λ (b : Option ℕ). cond {A = ℕ} (is_from from b) 1 0) come, bit_yes (from == from) (self from))

      action_is : (n other : ℕ) → from ≡ other → leave other ≡ Some n → n ≡ m
      action_is n other same l = some_same n m (sym l ∙ (ap leave (sym same) ∙ went))

      told : (n other : ℕ) → n ≡ m → from ≡ other → is_given m from (Given n other) ≡ true
      told n other a b = rw (a, ← b) (both m from)

      parts : (a b c d : ℕ) → ((a == c) && (b == d)) ≡ true → (a ≡ c) × (b ≡ d)
      parts a b c d q = grind (arith, q)

      tells : Tells e w leave (is_given m from) (chains row)
      tells = record {
        added = λ es. refl;
        taken = λ n. refl;
        given = λ n other l some. (let same : from ≡ other = from_row row from n other come l some in told n other (action_is n other same l) same);
        only = λ n other q. (let p : (n ≡ m) × (other ≡ from) = parts n other m from q in ap leave p.1 ∙ (went ∙ ap (λ (x : ℕ). Some x) (sym p.0)));
      }

  -- a chain along which each give is known
  pub record Case (w : ℕ → ℕ → ℕ) (row : ℕ) : Type 0 where
    pub here : (Quiet e w (chains row) × (came home before leave row ≡ 0) × (leave row ≡ None)) ⊎ (Arrived e w (leave row) (chains row) × (came home before leave row ≡ 1))

  pub case_of : (w : ℕ → ℕ → ℕ) (row : ℕ) → ((from m : ℕ) → before row ≡ Some from → leave from ≡ Some m → is_some m from) → Known e w leave (chains row) → Case w row
  case_of w row some known = at (row == home) refl
    where
      away_came : (row == home) ≡ false → came home before leave row ≡ came_from (before row) leave
      away_came q = ap (λ (b : Bool). cond {A = ℕ} b 1 (came_from (before row) leave)) q

      from : (q : (row == home) ≡ false) (p : ℕ) (t : Option ℕ) → before row ≡ Some p → leave p ≡ t → Case w row
      from q p None come l = record { here = inl (from_waiting w row p q known come l, away_came q ∙ (ap (λ b. came_from b leave) come ∙ ap left l), j.leaves row q ∙ (ap (λ b. leaves_after b leave (chains row)) come ∙ ap (λ t. first_from_one t (chains row)) l)) }
      from q p (Some m) come l = record { here = inr (from_left w row p m (some p m come l) q known come l, away_came q ∙ (ap (λ b. came_from b leave) come ∙ ap left l)) }

      away : (q : (row == home) ≡ false) (b : Option ℕ) → before row ≡ b → Case w row
      away q None come = record { here = inl (from_none w row q known come, away_came q ∙ ap (λ b. came_from b leave) come, j.leaves row q ∙ ap (λ b. leaves_after b leave (chains row)) come) }
      away q (Some p) come = from q p (leave p) come refl

      at : (b : Bool) → (row == home) ≡ b → Case w row
      at true q = record { here = inr (subst (λ r. Arrived e w (leave r) (chains r)) (sym (eqb-true row home q)) (at_home w (subst (λ r. Known e w leave (chains r)) (eqb-true row home q) known)), ap (λ (b : Bool). cond {A = ℕ} b 1 (came_from (before row) leave)) q) }
      at false q = away q (before row) refl

  -- what each take of a lower level found of the event
  pub Leaves : ℕ → Type 0
  Leaves depth = (n row : ℕ) → level row < depth → found_by (token e) chains depth n row ≡ leaves n (leave row)

  -- where a take found the event, it found something
  abbrev pub FoundSome : ℕ → Type 0
  FoundSome depth = (action row : ℕ) → suc (level row) ≤ depth → found_by (token e) chains depth action row ≡ 1 → is_some action row

  known_below : (depth height : ℕ) (cs : List Change) → height ≤ depth → Below level height cs → Leaves depth → Known e (found_by (token e) chains depth) leave cs
  unfolding Leaves
  known_below depth height [] h b t = tt
  known_below depth height (Added es ∷ cs) h b t = known_below depth height cs h b t
  known_below depth height (Taken n ∷ cs) h b t = known_below depth height cs h b t
  known_below depth height (Given n row ∷ cs) h b t = (t n row (let below : suc (level row) ≤ height = b.0 in omega arith), known_below depth height cs h b.1 t)

  some_below : (depth row : ℕ) → level row ≤ depth → FoundSome depth → Leaves depth → (from m : ℕ) → before row ≡ Some from → leave from ≡ Some m → is_some m from
  unfolding Leaves
  some_below depth row h found_some t from m come went =
      let low : suc (level from) ≤ depth = omega (arith, j.climbs from row come) in
      found_some m from low (t m from low ∙ leaves_yes e (found_by (token e) chains depth) leave m (leave from) went)

  pub leaves_none : Leaves 0
  unfolding Leaves
  leaves_none n row h = absurd (omega arith)

  pub leaves_at_most : (depth : ℕ) → Leaves depth → (n row : ℕ) → suc (level row) ≤ depth → found_by (token e) chains depth n row ≤ 1
  unfolding Leaves
  leaves_at_most depth t n row h = omega (arith, t n row h, most (leave row))
    where
      bit : (b : Bool) → cond b 1 0 ≤ 1
      bit true = omega arith
      bit false = omega arith

      most : (o : Option ℕ) → leaves n o ≤ 1
      most None = omega arith
      most (Some k) = bit (k == n)

  pub leaves_at : (depth : ℕ) → Leaves depth → (n row : ℕ) → suc (level row) ≤ depth → found_by (token e) chains depth n row ≡ leaves n (leave row)
  unfolding Leaves
  leaves_at depth t n row h = t n row h

  pub leaves_step : (depth : ℕ) → FoundSome depth → Leaves depth → Leaves (suc depth)
  unfolding Leaves
  leaves_step depth found_some t n row h = found (case_of w row (some_below depth row (omega arith) found_some t) (known_below depth (level row) (chains row) (omega arith) (rises row) t)).here
    where
      w : ℕ → ℕ → ℕ
      w = found_by (token e) chains depth

      found : (Quiet e w (chains row) × (came home before leave row ≡ 0) × (leave row ≡ None)) ⊎ (Arrived e w (leave row) (chains row) × (came home before leave row ≡ 1)) → found_in (token e) w 0 n (chains row) ≡ leaves n (leave row)
      found (inl q) = omega (arith, quiet_found e w 0 n (chains row) q.0.none, ap (leaves n) q.2)
      found (inr a) = arrive_found e w a.0.test 0 n (chains row) (ascends row) a.0.brings a.0.one a.0.some ∙ ap (leaves n) a.0.first

  -- the event stands in a row where it came and hasn't left
  pub stands : (depth row : ℕ) → level row ≤ depth → FoundSome depth → Leaves depth → content (token e) (found_by (token e) chains depth) (chains row) ≡ came home before leave row * stays (leave row)
  stands depth row h found_some t = at (case_of w row (some_below depth row h found_some t) (known_below depth (level row) (chains row) h (rises row) t)).here
    where
      w : ℕ → ℕ → ℕ
      w = found_by (token e) chains depth

      at : (Quiet e w (chains row) × (came home before leave row ≡ 0) × (leave row ≡ None)) ⊎ (Arrived e w (leave row) (chains row) × (came home before leave row ≡ 1)) → content (token e) w (chains row) ≡ came home before leave row * stays (leave row)
      at (inl q) = rw q.1 (omega (arith, quiet_content e w 0 (chains row) q.0.none))
      at (inr a) = rw a.1 (arrive_content e w a.0.test (chains row) a.0.brings a.0.one a.0.some ∙ (ap stays a.0.first ∙ omega arith))
