-- Where lines agree plainly, the numbers of actions rise along a session, and never fall along a row or a switch word.
use Rattle.std.proofs.Common.{◌≡◌, refl, ℕ, ◌+◌, ◌<◌, ◌≤◌, ◌==◌, Bool, true, false, cond, List, [], ◌∷◌, ◌++◌, sym, ◌∙◌, ap, subst, ◌⊎◌, inl, inr, arith}
use Rattle.pfs_lemmas.proofs.Numbers.{eq_self}
use Rattle.pfs_event.specs.declared.entry.Entry.{Entry}
use Rattle.pfs_event.specs.declared.entry.Entry.TheVariants as says
use Rattle.pfs_model.specs.declared.changes.Change.{Change}
use Rattle.pfs_model.specs.Contexts.{subject_of}
use Rattle.pfs_model.specs.EntryPlaces.{Placed}
use Rattle.pfs_model.specs.Chains.{each_of, row_change, word_change, change_at}
use Rattle.pfs_model.specs.Actions.{is_acted, Deed, deed_at, deeds_by, set_at, StandsBefore, IsAmong, NeverFall, numbers_by, AllAbove, AreRising}
use Rattle.pfs_model.specs.PlainAgreement.{last_of, AreNext, Agrees, AgreeBehind}
use Rattle.pfs_model.proofs.LineWalks.{top, Walk, IsNoted, noted_is, number_next, top_same, top_new, top_step}
use Rattle.pfs_model.proofs.Members.{among_either}

-- the numbers that follow are above the last one
above : (session n : ℕ) (earlier ps : List Placed) → AgreeBehind earlier ps → n ≤ top earlier → AllAbove n (numbers_by session ps)
above session n earlier [] a h = tt
above session n earlier (p ∷ ps) a h = on (noted_is (subject_of p.line) p.context p.entry) (above session n (p ∷ earlier) ps a.1) where
  goal : List Change → Type 0
  goal cs = AllAbove n (cond (p.session == session) cs [] ++ numbers_by session ps)

  none : (b : Bool) → AllAbove n (numbers_by session ps) → AllAbove n (cond b [] [] ++ numbers_by session ps)
  none true r = r
  none false r = r

  some : (b : Bool) (a : ℕ) → n < a → AllAbove n (numbers_by session ps) → AllAbove n (cond b (change_at 0 a ∷ []) [] ++ numbers_by session ps)
  some true a l r = (l, r)
  some false a l r = r

  on : IsNoted (subject_of p.line) p.context p.entry → (n ≤ top (p ∷ earlier) → AllAbove n (numbers_by session ps)) → AllAbove n (numbers_by session (p ∷ ps))
  on (inl k) go =
      let t : top (p ∷ earlier) ≡ top earlier = top_same earlier p k.0 in
      subst goal (sym k.0) (none (p.session == session) (go (omega (arith, t, h))))
  on (inr k) go =
      let t : top (p ∷ earlier) ≡ k.0 = top_new earlier p k.0 k.1 in
      let up : k.0 ≡ top earlier + 1 = number_next earlier p k.0 a.0 k.1 in
      subst goal (sym k.1) (some (p.session == session) k.0 (omega (arith, up, h)) (go (omega (arith, t, up, h))))

pub rising_numbers : (session : ℕ) (earlier ps : List Placed) → AgreeBehind earlier ps → AreRising (numbers_by session ps)
rising_numbers session earlier [] a = tt
rising_numbers session earlier (p ∷ ps) a = on (noted_is (subject_of p.line) p.context p.entry) (rising_numbers session (p ∷ earlier) ps a.1) where
  goal : List Change → Type 0
  goal cs = AreRising (cond (p.session == session) cs [] ++ numbers_by session ps)

  none : (b : Bool) → AreRising (numbers_by session ps) → AreRising (cond b [] [] ++ numbers_by session ps)
  none true r = r
  none false r = r

  some : (b : Bool) (a : ℕ) → AllAbove a (numbers_by session ps) → AreRising (numbers_by session ps) → AreRising (cond b (change_at 0 a ∷ []) [] ++ numbers_by session ps)
  some true a l r = (l, r)
  some false a l r = r

  on : IsNoted (subject_of p.line) p.context p.entry → AreRising (numbers_by session ps) → AreRising (numbers_by session (p ∷ ps))
  on (inl k) r = subst goal (sym k.0) (none (p.session == session) r)
  on (inr k) r =
      let t : top (p ∷ earlier) ≡ k.0 = top_new earlier p k.0 k.1 in
      subst goal (sym k.1) (some (p.session == session) k.0 (above session k.0 (p ∷ earlier) ps a.1 (omega (arith, t))) r)

-- a deed of the action with this number, between these changes and those
pub record IsDone (before behind : List Change) (number : ℕ) (d : Deed) : Type 0 where
  pub action : d.action ≡ number
  pub low : last_of d.row before ≤ d.version
  pub next : d.releases ≡ false → last_of d.row before < d.version
  pub new : last_of d.row behind ≡ d.version

abbrev pub AreDone : List Change → List Change → ℕ → List Deed → Type 0
AreDone before behind number [] = Unit {0}
AreDone before behind number (d ∷ []) = IsDone before behind number d
AreDone before behind number (d ∷ (e ∷ ds)) = ⊥

pub record IsDeedPlace (f : Entry → List Change) (g : ℕ → Entry → List Deed) (earlier : List Placed) (p : Placed) : Type 0 where
  pub done : AreDone (each_of f earlier) (each_of f (p ∷ earlier)) (top earlier) (g p.context.action p.entry)
  pub grows : (row : ℕ) → last_of row (each_of f earlier) ≤ last_of row (each_of f (p ∷ earlier))
  pub tops : top earlier ≤ top (p ∷ earlier)

abbrev pub DeedWalk : (Entry → List Change) → (ℕ → Entry → List Deed) → List Placed → List Placed → Type 0
DeedWalk f g earlier [] = Unit {0}
DeedWalk f g earlier (p ∷ ps) = IsDeedPlace f g earlier p × DeedWalk f g (p ∷ earlier) ps

one_done : (before behind : List Change) (number : ℕ) (ds : List Deed) (d : Deed) → AreDone before behind number ds → IsAmong d ds → IsDone before behind number d
one_done before behind number [] d a m = absurd m
one_done before behind number (x ∷ []) d a (inl e) = subst (IsDone before behind number) e a
one_done before behind number (x ∷ []) d a (inr m) = absurd m
one_done before behind number (x ∷ (y ∷ ds)) d a m = absurd a

-- what is known of a deed that follows
record IsLater (before : List Change) (number : ℕ) (d : Deed) : Type 0 where
  action : number ≤ d.action
  low : last_of d.row before ≤ d.version
  next : d.releases ≡ false → last_of d.row before < d.version

later : (f : Entry → List Change) (g : ℕ → Entry → List Deed) (earlier ps : List Placed) (d : Deed) → DeedWalk f g earlier ps → IsAmong d (deeds_by g ps) → IsLater (each_of f earlier) (top earlier) d
later f g earlier [] d w m = absurd m
later f g earlier (p ∷ ps) d w m = on (among_either d (g p.context.action p.entry) (deeds_by g ps) m) (later f g (p ∷ earlier) ps d w.1) where
  on : IsAmong d (g p.context.action p.entry) ⊎ IsAmong d (deeds_by g ps) → (IsAmong d (deeds_by g ps) → IsLater (each_of f (p ∷ earlier)) (top (p ∷ earlier)) d) → IsLater (each_of f earlier) (top earlier) d
  on (inl m) go =
      let o : IsDone (each_of f earlier) (each_of f (p ∷ earlier)) (top earlier) d = one_done _ _ _ (g p.context.action p.entry) d w.0.done m in
      let e : d.action ≡ top earlier = o.action in
      record { action = omega (arith, e); low = o.low; next = o.next }
  on (inr m) go =
      let l : IsLater (each_of f (p ∷ earlier)) (top (p ∷ earlier)) d = go m in
      let x : top (p ∷ earlier) ≤ d.action = l.action in
      let y : last_of d.row (each_of f (p ∷ earlier)) ≤ d.version = l.low in
      let t : top earlier ≤ top (p ∷ earlier) = w.0.tops in
      let h : last_of d.row (each_of f earlier) ≤ last_of d.row (each_of f (p ∷ earlier)) = w.0.grows d.row in
      record {
        action = omega (arith, x, t);
        low = omega (arith, y, h);
        next = λ q. let z : last_of d.row (each_of f (p ∷ earlier)) < d.version = l.next q in omega (arith, z, h);
      }

pub never_fall : (f : Entry → List Change) (g : ℕ → Entry → List Deed) (earlier ps : List Placed) → DeedWalk f g earlier ps → NeverFall (deeds_by g ps)
never_fall f g earlier [] w first next m n s = absurd m
never_fall f g earlier (p ∷ ps) w first next m n s = on (among_either first own (deeds_by g ps) m) (among_either next own (deeds_by g ps) n) (never_fall f g (p ∷ earlier) ps w.1 first next) where
  own : List Deed
  own = g p.context.action p.entry

  here : (d : Deed) → IsAmong d own → IsDone (each_of f earlier) (each_of f (p ∷ earlier)) (top earlier) d
  here d m = one_done _ _ _ own d w.0.done m

  -- the other way round nothing stands before
  back : IsAmong next own → IsAmong first (deeds_by g ps) → first.action ≤ next.action
  back n m = by s where
    o : IsDone (each_of f earlier) (each_of f (p ∷ earlier)) (top earlier) next
    o = here next n

    l : IsLater (each_of f (p ∷ earlier)) (top (p ∷ earlier)) first
    l = later f g (p ∷ earlier) ps first w.1 m

    at : last_of first.row (each_of f (p ∷ earlier)) ≡ next.version
    at = ap (λ r. last_of r (each_of f (p ∷ earlier))) s.0 ∙ o.new

    by : StandsBefore first next → first.action ≤ next.action
    by (e, inl lower) = let y : last_of first.row (each_of f (p ∷ earlier)) ≤ first.version = l.low in omega (arith, y, at, lower)
    by (e, inr same) =
        let y : last_of first.row (each_of f (p ∷ earlier)) < first.version = l.next same.1 in
        let v : first.version ≡ next.version = same.0 in
        omega (arith, y, at, v)

  on : IsAmong first own ⊎ IsAmong first (deeds_by g ps) → IsAmong next own ⊎ IsAmong next (deeds_by g ps) → (IsAmong first (deeds_by g ps) → IsAmong next (deeds_by g ps) → StandsBefore first next → first.action ≤ next.action) → first.action ≤ next.action
  on (inl m) (inl n) go = let x : first.action ≡ top earlier = (here first m).action in let y : next.action ≡ top earlier = (here next n).action in omega (arith, x, y)
  on (inl m) (inr n) go =
      let x : first.action ≡ top earlier = (here first m).action in
      let y : top (p ∷ earlier) ≤ next.action = (later f g (p ∷ earlier) ps next w.1 n).action in
      let t : top earlier ≤ top (p ∷ earlier) = w.0.tops in
      omega (arith, x, y, t)
  on (inr m) (inl n) go = back n m
  on (inr m) (inr n) go = go m n s

last_here : (row version : ℕ) (before : List Change) → last_of row (change_at row version ∷ before) ≡ version
last_here row version before = ap (λ b. cond b version (last_of row before)) (eq_self row)

-- a change makes a deed, and a release at the last version does
changed : (row version number : ℕ) (before : List Change) (action : ℕ) → version ≡ last_of row before + 1 → action ≡ number → IsDone before (change_at row version ∷ before) number (record { action = action; row = row; version = version; releases = false })
changed row version number before action v a = record { action = a; low = omega (arith, v); next = λ q. omega (arith, v); new = last_here row version before }

released : (row version number : ℕ) (before : List Change) (action : ℕ) → version ≡ last_of row before → action ≡ number → IsDone before before number (record { action = action; row = row; version = version; releases = true })
released row version number before action v a = record { action = a; low = omega (arith, v); next = λ q. absurd (cc); new = sym v }

row_deeds : (earlier : List Placed) (action : ℕ) (e : Entry) → AreNext (each_of row_change earlier) (row_change e) → Agrees earlier e → (is_acted e ≡ true → action ≡ top earlier) → AreDone (each_of row_change earlier) (row_change e ++ each_of row_change earlier) (top earlier) (deed_at action e)
row_deeds earlier action (says.Take row version) n w a = changed row version _ _ action n.0 (a refl)
row_deeds earlier action (says.Give row version from) n w a = changed row version _ _ action n.0 (a refl)
row_deeds earlier action (says.Tag row version) n w a = changed row version _ _ action n.0 (a refl)
row_deeds earlier action (says.Free row version) n w a = released row version _ _ action w (a refl)
row_deeds earlier action _ n w a = tt

set_deeds : (earlier : List Placed) (action : ℕ) (e : Entry) → AreNext (each_of word_change earlier) (word_change e) → (is_acted e ≡ true → action ≡ top earlier) → AreDone (each_of word_change earlier) (word_change e ++ each_of word_change earlier) (top earlier) (set_at action e)
set_deeds earlier action (says.Set word version flags) n a = changed word version _ _ action n.0 (a refl)
set_deeds earlier action _ n a = tt

-- the last version of a row never falls
pub last_grows : (before changes : List Change) → AreNext before changes → (row : ℕ) → (changes ≡ []) ⊎ ((c : Change) × (changes ≡ c ∷ [])) → last_of row before ≤ last_of row (changes ++ before)
last_grows before changes n row (inl e) = rw e (omega arith)
last_grows before changes n row (inr (c, e)) = rw e (at (c.row == row) refl) where
  n1 : AreNext before (c ∷ [])
  n1 = subst (AreNext before) e n

  at : (b : Bool) → (c.row == row) ≡ b → last_of row before ≤ cond b c.version (last_of row before)
  at true q = let v : c.version ≡ last_of c.row before + 1 = n1.0 in let s : last_of c.row before ≡ last_of row before = ap (λ r. last_of r before) (same c.row row q) in omega (arith, v, s) where
    same : (a b : ℕ) → (a == b) ≡ true → a ≡ b
    same a b q = grind arith
  at false q = omega arith

pub row_one : (e : Entry) → (row_change e ≡ []) ⊎ ((c : Change) × (row_change e ≡ c ∷ []))
row_one (says.Add row version) = inr (change_at row version, refl)
row_one (says.Ring row version) = inr (change_at row version, refl)
row_one (says.Long row version ticket) = inr (change_at row version, refl)
row_one (says.Take row version) = inr (change_at row version, refl)
row_one (says.Give row version from) = inr (change_at row version, refl)
row_one (says.Tag row version) = inr (change_at row version, refl)
row_one _ = inl refl

pub word_one : (e : Entry) → (word_change e ≡ []) ⊎ ((c : Change) × (word_change e ≡ c ∷ []))
word_one (says.Set word version flags) = inr (change_at word version, refl)
word_one _ = inl refl

pub deed_walk : (earlier ps : List Placed) → AgreeBehind earlier ps → Walk earlier ps → DeedWalk row_change deed_at earlier ps
deed_walk earlier [] a w = tt
deed_walk earlier (p ∷ ps) a w = (
  record {
    done = row_deeds earlier p.context.action p.entry a.0.rows a.0.others w.0.acted;
    grows = λ row. last_grows (each_of row_change earlier) (row_change p.entry) a.0.rows row (row_one p.entry);
    tops = top_step earlier p a.0;
  },
  deed_walk (p ∷ earlier) ps a.1 w.1,
)

pub set_walk : (earlier ps : List Placed) → AgreeBehind earlier ps → Walk earlier ps → DeedWalk word_change set_at earlier ps
set_walk earlier [] a w = tt
set_walk earlier (p ∷ ps) a w = (
  record {
    done = set_deeds earlier p.context.action p.entry a.0.words w.0.acted;
    grows = λ row. last_grows (each_of word_change earlier) (word_change p.entry) a.0.words row (word_one p.entry);
    tops = top_step earlier p a.0;
  },
  set_walk (p ∷ earlier) ps a.1 w.1,
)
