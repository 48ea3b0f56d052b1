-- What a session's entries tell of its slot is what its connect printed, which is its first action.
use Rattle.std.proofs.Common.{◌≡◌, refl, ℕ, ◌<◌, ◌≤◌, ◌==◌, Bool, true, false, cond, List, [], ◌∷◌, ◌++◌, Option, Some, None, sym, ap, subst, ◌∙◌, ◌⊎◌, inl, inr, arith}
use Rattle.std.proofs.lemmas.Bool.{eqb-true}
use Rattle.pfs_event.specs.declared.entry.Entry.{Entry}
use Rattle.pfs_event.specs.declared.entry.Entry.TheVariants as says
use Rattle.pfs_model.specs.Actions.{numbers_by, AllAbove, AreRising}
use Rattle.pfs_model.specs.ActionAsks.{Rooms, Answer, IsAnswered, AreAnswered}
use Rattle.pfs_model.specs.Chains.{Each, change_at, action_change}
use Rattle.pfs_model.specs.Contexts.{Context, fresh, subject_of, noted}
use Rattle.pfs_model.specs.EntryPlaces.{Placed, by_session}
use Rattle.pfs_model.specs.declared.changes.Change.{Change}
use Rattle.pfs_law_conservation.specs.RunEvents.{given_by, connects_at, first_of}
use Rattle.pfs_law_conservation.specs.Premises.{IsFirst, AreFirstBehind}
use Rattle.pfs_law_conservation.proofs.EntryWalk.{Comes, Follow, then_told}

abbrev pub rooms_told : Context → Rooms
rooms_told c = record { thread = c.slot; account = c.account; user = c.user; host = c.host }

-- this is the session's first action, a connect that found these rooms; it is at hand or has ended
pub record IsTold (session : ℕ) (rooms : ℕ → Rooms) (whole : List Placed) (action : ℕ) (c : Context) : Type 0 where
  pub first : first_of (given_by connects_at session whole) ≡ Some action
  pub more : List Change
  pub numbers : numbers_by session whole ≡ change_at 0 action ∷ more
  pub found : rooms action ≡ rooms_told c
  pub positive : 1 ≤ action
  pub begun : ((c.action ≡ 0) × (action ≤ c.done)) ⊎ (action ≤ c.action)

abbrev pub IsKnown : ℕ → (ℕ → Rooms) → List Placed → Context → Type 0
IsKnown session rooms whole c = (c.slot ≡ None) ⊎ ((action : ℕ) × IsTold session rooms whole action c)

-- an addition stands behind the connect, where the session connects
abbrev pub IsBehindConnect : ℕ → (ℕ → Rooms) → List Placed → Context → Entry → Type 0
IsBehindConnect session rooms whole c (says.Add row version) = (given_by connects_at session whole ≡ []) ⊎ ((action : ℕ) × IsTold session rooms whole action c)
IsBehindConnect session rooms whole c entry = Unit {0}

-- no entry of the session stands before, or it never connects
abbrev pub IsBefore : ℕ → List Placed → List Placed → Type 0
IsBefore session whole earlier = (by_session session earlier ≡ []) ⊎ (given_by connects_at session whole ≡ [])

abbrev pub IsFirstConnect : ℕ → List Placed → Entry → Type 0
IsFirstConnect session whole (says.Connect action thread account user host) = first_of (given_by connects_at session whole) ≡ Some action
IsFirstConnect session whole entry = Unit {0}

module _ (session : ℕ) (rooms : ℕ → Rooms) (answers : ℕ → Answer) (whole : List Placed) (rising : AreRising (numbers_by session whole)) (positive : (action : ℕ) (more : List Change) → numbers_by session whole ≡ change_at 0 action ∷ more → 1 ≤ action) where
  Told : ℕ → Context → Type 0
  Told action c = IsTold session rooms whole action c

  -- known, with what stands behind
  abbrev IsAhead : List Placed → List Placed → Context → Type 0
  IsAhead earlier ps c = ((c.slot ≡ None) × IsBefore session whole earlier) ⊎ ((action : ℕ) × IsTold session rooms whole action c × AllAbove action (numbers_by session ps))

  abbrev IsWhole : List Placed → List Placed → Type 0
  IsWhole earlier ps = by_session session earlier ≡ [] → (given_by connects_at session whole ≡ given_by connects_at session ps) × (numbers_by session whole ≡ numbers_by session ps)

  above_split : (number : ℕ) (xs ys : List Change) → AllAbove number (xs ++ ys) → AllAbove number xs × AllAbove number ys
  above_split number [] ys a = (tt, a)
  above_split number (x ∷ xs) ys a = let r : AllAbove number xs × AllAbove number ys = above_split number xs ys a.1 in ((a.0, r.0), r.1)

  -- a line later
  turn_done : (action at done : ℕ) → 1 ≤ action → ((at ≡ 0) × (action ≤ done)) ⊎ (action ≤ at) → action ≤ cond (at == 0) done at
  turn_done action at done l (inl h) = ap_done at done h.0 h.1 where
    ap_done : (at done : ℕ) → at ≡ 0 → action ≤ done → action ≤ cond (at == 0) done at
    ap_done at done e k = grind arith
  turn_done action at done l (inr k) = by at done l k where
    by : (at done : ℕ) → 1 ≤ action → action ≤ at → action ≤ cond (at == 0) done at
    by at done l k = grind arith

  told_comes : (action : ℕ) (c d : Context) → Comes c d → IsTold session rooms whole action c → IsTold session rooms whole action d
  told_comes action c d (inl e) t = subst (IsTold session rooms whole action) (sym e) t
  told_comes action c d (inr e) t = subst (IsTold session rooms whole action) (sym e) (record {
    first = t.first;
    more = t.more;
    numbers = t.numbers;
    found = t.found;
    positive = t.positive;
    begun = inl (refl, turn_done action c.action c.done t.positive t.begun);
  })

  none_comes : (c d : Context) → Comes c d → c.slot ≡ None → d.slot ≡ None
  none_comes c d (inl e) n = ap (λ (z : Context). z.slot) e ∙ n
  none_comes c d (inr e) n = ap (λ (z : Context). z.slot) e ∙ n

  ahead_comes : (earlier ps : List Placed) (c d : Context) → Comes c d → IsAhead earlier ps c → IsAhead earlier ps d
  ahead_comes earlier ps c d k (inl n) = inl (none_comes c d k n.0, n.1)
  ahead_comes earlier ps c d k (inr (action, t, a)) = inr (action, told_comes action c d k t, a)

  known : (earlier ps : List Placed) (c : Context) → IsAhead earlier ps c → IsKnown session rooms whole c
  known earlier ps c (inl n) = inl n.0
  known earlier ps c (inr (action, t, a)) = inr (action, t)

  -- behind an entry of the session it connects no more
  no_connects : (earlier ps : List Placed) (x : Placed) (xs : List Placed) → by_session session earlier ≡ x ∷ xs → AreFirstBehind earlier ps → given_by connects_at session ps ≡ []
  no_connects earlier [] x xs e f = refl
  no_connects earlier (p ∷ ps) x xs e f = at (p.session == session) refl (λ y ys h. no_connects (p ∷ earlier) ps y ys h f.1) where
    none : (p.session == session) ≡ true → (e : Entry) → IsFirst earlier p e → connects_at p e ≡ []
    none own (says.Connect action thread account user host) g = absurd (let z : by_session session earlier ≡ [] = subst (λ s. by_session s earlier ≡ []) (eqb-true p.session session own) g in let k : x ∷ xs ≡ [] = sym e ∙ z in cc)
    none own _ g = refl

    at : (b : Bool) → (p.session == session) ≡ b → ((y : Placed) (ys : List Placed) → cond (p.session == session) (p ∷ []) [] ++ by_session session earlier ≡ y ∷ ys → given_by connects_at session ps ≡ []) → cond b (connects_at p p.entry) [] ++ given_by connects_at session ps ≡ []
    at true own go = ap (λ z. z ++ given_by connects_at session ps) (none own p.entry f.0) ∙ go p (by_session session earlier) (ap (λ b. cond b (p ∷ []) [] ++ by_session session earlier) own)
    at false own go = go x xs (ap (λ b. cond b (p ∷ []) [] ++ by_session session earlier) own ∙ e)

  told_act : (p : Placed) (action number : ℕ) → IsTold session rooms whole action p.context → action < number → IsTold session rooms whole action (noted (subject_of p.line) p.context (says.Act number))
  told_act p action number t l = record {
    first = t.first;
    more = t.more;
    numbers = t.numbers;
    found = t.found;
    positive = t.positive;
    begun = inr (omega (arith, l));
  }

  -- what a connect tells
  connected : (earlier ps : List Placed) (p : Placed) → (p.session == session) ≡ true → IsWhole earlier (p ∷ ps) → (action : ℕ) (thread account user host : Option ℕ) → p.entry ≡ says.Connect action thread account user host
      → by_session p.session earlier ≡ [] → rooms action ≡ record { thread = thread; account = account; user = user; host = host }
      → (IsTold session rooms whole action (noted (subject_of p.line) p.context p.entry)) × AllAbove action (numbers_by session ps)
  connected earlier ps p own w action thread account user host e none r = (
    subst (λ z. IsTold session rooms whole action (noted (subject_of p.line) p.context z)) (sym e) (record {
      first = ap first_of (both.0 ∙ (ap (λ b. cond b (connects_at p p.entry) [] ++ given_by connects_at session ps) own ∙ ap (λ z. connects_at p z ++ given_by connects_at session ps) e));
      more = numbers_by session ps;
      numbers = numbers;
      found = r;
      positive = positive action (numbers_by session ps) numbers;
      begun = inr (self action);
    }),
    (subst AreRising numbers rising).0,
  ) where
    self : (n : ℕ) → n ≤ n
    self n = omega arith

    both : (given_by connects_at session whole ≡ given_by connects_at session (p ∷ ps)) × (numbers_by session whole ≡ numbers_by session (p ∷ ps))
    both = w (subst (λ s. by_session s earlier ≡ []) (eqb-true p.session session own) none)

    numbers : numbers_by session whole ≡ change_at 0 action ∷ numbers_by session ps
    numbers = both.1 ∙ (ap (λ b. cond b (action_change p.entry) [] ++ numbers_by session ps) own ∙ ap (λ z. action_change z ++ numbers_by session ps) e)

  own_ahead : (earlier ps : List Placed) (p : Placed) → (p.session == session) ≡ true → IsWhole earlier (p ∷ ps) → AreFirstBehind (p ∷ earlier) ps → (e : Entry) → p.entry ≡ e → IsFirst earlier p e → IsAnswered rooms answers p e → IsAhead earlier (p ∷ ps) p.context
      → IsAhead (p ∷ earlier) ps (noted (subject_of p.line) p.context p.entry) × IsFirstConnect session whole e × IsBehindConnect session rooms whole p.context e
  own_ahead earlier ps p own w o e q f a h = by e q f a h where
    -- where the first entry is no connect
    never : (e : Entry) → p.entry ≡ e → connects_at p e ≡ [] → IsBefore session whole earlier → given_by connects_at session whole ≡ []
    never e q n (inr z) = z
    never e q n (inl z) =
        (w z).0 ∙ (ap (λ b. cond b (connects_at p p.entry) [] ++ given_by connects_at session ps) own ∙ (ap (λ z. z ++ given_by connects_at session ps) (ap (connects_at p) q ∙ n)
        ∙ no_connects (p ∷ earlier) ps p (by_session session earlier) (ap (λ b. cond b (p ∷ []) [] ++ by_session session earlier) own) o))

    behind : (e : Entry) → p.entry ≡ e → connects_at p e ≡ [] → IsAhead earlier (p ∷ ps) p.context → (given_by connects_at session whole ≡ []) ⊎ ((action : ℕ) × IsTold session rooms whole action p.context)
    behind e q n (inl h) = inl (never e q n h.1)
    behind e q n (inr (action, t, a)) = inr (action, t)

    next : Entry → Context
    next e = noted (subject_of p.line) p.context e

    split : (action : ℕ) (e : Entry) → p.entry ≡ e → AllAbove action (numbers_by session (p ∷ ps)) → AllAbove action (action_change e) × AllAbove action (numbers_by session ps)
    split action e q a = above_split action (action_change e) (numbers_by session ps) (subst (λ z. AllAbove action (action_change z ++ numbers_by session ps)) q (subst (λ b. AllAbove action (cond b (action_change p.entry) [] ++ numbers_by session ps)) own a))

    back : (e : Entry) → p.entry ≡ e → IsAhead (p ∷ earlier) ps (noted (subject_of p.line) p.context e) → IsAhead (p ∷ earlier) ps (noted (subject_of p.line) p.context p.entry)
    back e q h = subst (λ z. IsAhead (p ∷ earlier) ps (noted (subject_of p.line) p.context z)) (sym q) h

    -- another entry tells nothing of it
    kept : (e : Entry) → p.entry ≡ e → connects_at p e ≡ [] → (noted (subject_of p.line) p.context e).slot ≡ p.context.slot → ((action : ℕ) → IsTold session rooms whole action p.context → AllAbove action (action_change e) → IsTold session rooms whole action (noted (subject_of p.line) p.context e))
        → IsAhead earlier (p ∷ ps) p.context → IsAhead (p ∷ earlier) ps (noted (subject_of p.line) p.context p.entry)
    kept e q c s go (inl n) = back e q (inl (s ∙ n.0, inr (never e q c n.1)))
    kept e q c s go (inr (action, t, a)) = back e q (inr (action, go action t (split action e q a).0, (split action e q a).1))

    by : (e : Entry) → p.entry ≡ e → IsFirst earlier p e → IsAnswered rooms answers p e → IsAhead earlier (p ∷ ps) p.context → IsAhead (p ∷ earlier) ps (noted (subject_of p.line) p.context p.entry) × IsFirstConnect session whole e × IsBehindConnect session rooms whole p.context e
    by (says.Connect action thread account user host) q f a h =
        let c : IsTold session rooms whole action (noted (subject_of p.line) p.context p.entry) × AllAbove action (numbers_by session ps) = connected earlier ps p own w action thread account user host q f a in
        (inr (action, c.0, c.1), c.0.first, tt)
    by (says.Act number) q f a h = (kept (says.Act number) q refl refl (λ action t l. told_act p action number t l.0) h, tt, tt)
    by (says.Start event verdict consumers thread class table) q f a h = (kept (says.Start event verdict consumers thread class table) q refl refl (λ action t l. record { first = t.first; more = t.more; numbers = t.numbers; found = t.found; positive = t.positive; begun = t.begun }) h, tt, tt)
    by (says.End event last consumers thread) q f a h = (kept (says.End event last consumers thread) q refl refl (λ action t l. record { first = t.first; more = t.more; numbers = t.numbers; found = t.found; positive = t.positive; begun = t.begun }) h, tt, tt)
    by (says.Held row first second) q f a h = (kept (says.Held row first second) q refl refl (λ action t l. record { first = t.first; more = t.more; numbers = t.numbers; found = t.found; positive = t.positive; begun = t.begun }) h, tt, tt)
    by (says.Add row version) q f a h = (kept (says.Add row version) q refl refl (λ action t l. record { first = t.first; more = t.more; numbers = t.numbers; found = t.found; positive = t.positive; begun = t.begun }) h, tt, behind (says.Add row version) q refl h)
    by says.Settle q f a h = (kept says.Settle q refl refl (λ action t l. record { first = t.first; more = t.more; numbers = t.numbers; found = t.found; positive = t.positive; begun = t.begun }) h, tt, tt)
    by (says.Take row version) q f a h = (kept (says.Take row version) q refl refl (λ action t l. record { first = t.first; more = t.more; numbers = t.numbers; found = t.found; positive = t.positive; begun = t.begun }) h, tt, tt)
    by e q f a h = (kept e q refl refl (λ action t l. record { first = t.first; more = t.more; numbers = t.numbers; found = t.found; positive = t.positive; begun = t.begun }) h, tt, tt)

  told_walk : (c : Context) (earlier ps : List Placed) → Follow session c ps → AreFirstBehind earlier ps → AreAnswered rooms answers ps → IsWhole earlier ps → IsAhead earlier ps c
      → Each (λ (p : Placed). (p.session == session) ≡ true → IsKnown session rooms whole p.context × IsFirstConnect session whole p.entry × IsBehindConnect session rooms whole p.context p.entry) ps
  told_walk c earlier [] f o a w h = tt
  told_walk c earlier (p ∷ ps) f o a w h = (
    (λ q. (known earlier (p ∷ ps) p.context (here q), (own_ahead earlier ps p q w o.1 p.entry refl o.0 a.0 (here q)).1, (own_ahead earlier ps p q w o.1 p.entry refl o.0 a.0 (here q)).2)),
    told_walk (then_told session c p) (p ∷ earlier) ps f.1 o.1 a.1 (whole_next (p.session == session) refl) (next (p.session == session) refl),
  ) where
    here : (p.session == session) ≡ true → IsAhead earlier (p ∷ ps) p.context
    here q = ahead_comes earlier (p ∷ ps) c p.context (f.0 q) h

    whole_next : (b : Bool) → (p.session == session) ≡ b → cond b (p ∷ []) [] ++ by_session session earlier ≡ [] → (given_by connects_at session whole ≡ given_by connects_at session ps) × (numbers_by session whole ≡ numbers_by session ps)
    whole_next true q n = absurd (cc)
    whole_next false q n =
        let r : (given_by connects_at session whole ≡ given_by connects_at session (p ∷ ps)) × (numbers_by session whole ≡ numbers_by session (p ∷ ps)) = w n in (
          r.0 ∙ ap (λ b. cond b (connects_at p p.entry) [] ++ given_by connects_at session ps) q,
          r.1 ∙ ap (λ b. cond b (action_change p.entry) [] ++ numbers_by session ps) q,
        )

    before : (q : (p.session == session) ≡ false) → IsBefore session whole earlier → IsBefore session whole (p ∷ earlier)
    before q (inl n) = inl (ap (λ b. cond b (p ∷ []) [] ++ by_session session earlier) q ∙ n)
    before q (inr n) = inr n

    less : (q : (p.session == session) ≡ false) → IsAhead earlier (p ∷ ps) c → IsAhead (p ∷ earlier) ps c
    less q (inl n) = inl (n.0, before q n.1)
    less q (inr (action, t, a)) = inr (action, t, subst (λ b. AllAbove action (cond b (action_change p.entry) [] ++ numbers_by session ps)) q a)

    next : (b : Bool) → (p.session == session) ≡ b → IsAhead (p ∷ earlier) ps (cond b (noted (subject_of p.line) p.context p.entry) c)
    next true q = (own_ahead earlier ps p q w o.1 p.entry refl o.0 a.0 (here q)).0
    next false q = less q h

-- what is known at an entry of the session
pub record IsOwn (session : ℕ) (rooms : ℕ → Rooms) (whole : List Placed) (p : Placed) : Type 0 where
  pub known : IsKnown session rooms whole p.context
  pub first : IsFirstConnect session whole p.entry
  pub behind : IsBehindConnect session rooms whole p.context p.entry

own_each : (session : ℕ) (rooms : ℕ → Rooms) (whole ps : List Placed) → Each (λ (p : Placed). (p.session == session) ≡ true → IsKnown session rooms whole p.context × IsFirstConnect session whole p.entry × IsBehindConnect session rooms whole p.context p.entry) ps
    → Each (λ (p : Placed). (p.session == session) ≡ true → IsOwn session rooms whole p) ps
own_each session rooms whole [] h = tt
own_each session rooms whole (p ∷ ps) h = ((λ q. (let r : IsKnown session rooms whole p.context × IsFirstConnect session whole p.entry × IsBehindConnect session rooms whole p.context p.entry = h.0 q in record { known = r.0; first = r.1; behind = r.2 })), own_each session rooms whole ps h.1)

-- of all entries
pub all_told : (session : ℕ) (rooms : ℕ → Rooms) (answers : ℕ → Answer) (ps : List Placed) → AreRising (numbers_by session ps) → ((action : ℕ) (more : List Change) → numbers_by session ps ≡ change_at 0 action ∷ more → 1 ≤ action)
    → Follow session fresh ps → AreFirstBehind [] ps → AreAnswered rooms answers ps
    → Each (λ (p : Placed). (p.session == session) ≡ true → IsOwn session rooms ps p) ps
all_told session rooms answers ps rising positive f o a = own_each session rooms ps ps (told_walk session rooms answers ps rising positive fresh [] ps f o a (λ n. (refl, refl)) (inl (refl, inl refl)))
