-- Where lines agree plainly, what a line names is at or above its floor, and above what was released.
use Rattle.std.proofs.Common.{◌≡◌, refl, ℕ, ◌+◌, ◌<◌, ◌≤◌, ◌==◌, Bool, true, false, ◌&&◌, cond, nat_lt, nat_le, List, [], ◌∷◌, ◌++◌, sym, ◌∙◌, ap, subst, ◌⊎◌, inl, inr, arith}
use Rattle.std.proofs.Math.Nat.{max-le}
use Rattle.std.proofs.lemmas.Bool.{eqb-true}
use Rattle.pfs_model.proofs.EachLists.{each_join}
use Rattle.pfs_lemmas.proofs.Numbers.{eq_self}
use Rattle.pfs_event.specs.declared.entry.Entry.{Entry}
use Rattle.pfs_event.specs.declared.entry.Entry.TheVariants as says
use Rattle.pfs_model.specs.declared.changes.Change.{Change}
use Rattle.pfs_model.specs.EntryPlaces.{Placed, chosen}
use Rattle.pfs_model.specs.Chains.{Each, times, each_of, row_change, word_change, action_change, release_of, change_at, is_of, opens_free}
use Rattle.pfs_model.specs.Floors.{rows_known, by_actions, greatest}
use Rattle.pfs_model.specs.PlainAgreement.{last_of, AreNext, AreLast, Agrees, AgreesWith, AgreeBehind, is_free, stands_free}
use Rattle.pfs_model.proofs.ChainGrowth.{IsGrown, grown_more, row_short, word_short, action_short, onto, times_append}
use Rattle.pfs_model.proofs.LineWalks.{top, Walk, Comes, number_next, top_step, Rising}
use Rattle.pfs_model.proofs.ActionOrder.{last_grows, row_one, word_one}

-- lines that agree, the last first
abbrev pub Agreed : List Placed → Type 0
Agreed [] = Unit {0}
Agreed (p ∷ earlier) = AgreesWith earlier p × Agreed earlier

pub grown_rows : (earlier : List Placed) → Agreed earlier → IsGrown (each_of row_change earlier)
grown_rows [] a = tt
grown_rows (p ∷ earlier) a = grown_more (each_of row_change earlier) (row_change p.entry) (row_short p.entry) a.0.rows (grown_rows earlier a.1)

pub grown_words : (earlier : List Placed) → Agreed earlier → IsGrown (each_of word_change earlier)
grown_words [] a = tt
grown_words (p ∷ earlier) a = grown_more (each_of word_change earlier) (word_change p.entry) (word_short p.entry) a.0.words (grown_words earlier a.1)

pub grown_actions : (earlier : List Placed) → Agreed earlier → IsGrown (each_of action_change earlier)
grown_actions [] a = tt
grown_actions (p ∷ earlier) a = grown_more (each_of action_change earlier) (action_change p.entry) (action_short p.entry) a.0.numbers (grown_actions earlier a.1)

pub each_map : {A : Type 0} (P Q : A → Type 0) → ((x : A) → P x → Q x) → (xs : List A) → Each P xs → Each Q xs
each_map P Q go [] a = tt
each_map P Q go (x ∷ xs) a = (go x a.0, each_map P Q go xs a.1)

-- the same where the facts are known along a list
abbrev pub EachPlace : (Placed → Type 0) → List Placed → Type 0
EachPlace P ps = Each P ps

pub each_chosen_of : (P : Change → Type 0) (f : Entry → List Change) (test : Placed → Bool) (ps : List Placed) → EachPlace (λ p. test p ≡ true → Each P (f p.entry)) ps → Each P (each_of f (chosen test ps))
each_chosen_of P f test [] h = tt
each_chosen_of P f test (p ∷ ps) h = at (test p) refl (each_chosen_of P f test ps h.1) where
  at : (b : Bool) → test p ≡ b → Each P (each_of f (chosen test ps)) → Each P (each_of f (cond b (p ∷ []) [] ++ chosen test ps))
  at true q r = each_join P (f p.entry) (each_of f (chosen test ps)) (h.0 q) r
  at false q r = r

each_onto : (P : Placed → Type 0) (earlier ps : List Placed) → Each P earlier → Each P ps → Each P (onto earlier ps)
each_onto P [] ps a b = b
each_onto P (p ∷ earlier) ps a b = each_onto P earlier (p ∷ ps) a.1 (a.0, b)

pub greatest_most : (row n : ℕ) (cs : List Change) → Each (λ c. c.row ≡ row → c.version ≤ n) cs → greatest row cs ≤ n
greatest_most row n [] a = omega arith
greatest_most row n (c ∷ cs) a = max-le (at (c.row == row) refl) (greatest_most row n cs a.1) where
  at : (b : Bool) → (c.row == row) ≡ b → cond b c.version 0 ≤ n
  at true q = a.0 (eqb-true c.row row q)
  at false q = omega arith

-- what changed is at or below the last version
abbrev pub IsPast : List Change → Change → Type 0
IsPast before c = c.version ≤ last_of c.row before

abbrev pub GrowsTo : List Change → List Change → Type 0
GrowsTo before behind = (row : ℕ) → last_of row before ≤ last_of row behind

pub grows_rows : (earlier : List Placed) (p : Placed) → AgreesWith earlier p → GrowsTo (each_of row_change earlier) (each_of row_change (p ∷ earlier))
grows_rows earlier p a row = last_grows (each_of row_change earlier) (row_change p.entry) a.rows row (row_one p.entry)

pub grows_words : (earlier : List Placed) (p : Placed) → AgreesWith earlier p → GrowsTo (each_of word_change earlier) (each_of word_change (p ∷ earlier))
grows_words earlier p a row = last_grows (each_of word_change earlier) (word_change p.entry) a.words row (word_one p.entry)

past_more : (before behind : List Change) → GrowsTo before behind → (cs : List Change) → Each (IsPast before) cs → Each (IsPast behind) cs
past_more before behind g cs a = each_map (IsPast before) (IsPast behind) (λ c h. let x : last_of c.row before ≤ last_of c.row behind = g c.row in omega (arith, h, x)) cs a

-- a change is at the last version behind it
pub change_past : (before : List Change) (cs : List Change) → (cs ≡ []) ⊎ ((c : Change) × (cs ≡ c ∷ [])) → Each (IsPast (cs ++ before)) cs
change_past before cs (inl e) = subst (λ z. Each (IsPast (z ++ before)) z) (sym e) tt
change_past before cs (inr (c, e)) = subst (λ z. Each (IsPast (z ++ before)) z) (sym e) (at, tt) where
  at : c.version ≤ cond (c.row == c.row) c.version (last_of c.row before)
  at = rw (eq_self c.row) (omega arith)

pub last_past : (before behind : List Change) → GrowsTo before behind → (cs : List Change) → AreLast before cs → Each (IsPast behind) cs
last_past before behind g [] a = tt
last_past before behind g (c ∷ cs) a = let v : c.version ≡ last_of c.row before = a.0 in let x : last_of c.row before ≤ last_of c.row behind = g c.row in (omega (arith, v, x), last_past before behind g cs a.1)

-- all that a line shows its session to have seen of rows is at or below the last versions behind it
pub known_past : (earlier : List Placed) (p : Placed) → AgreesWith earlier p → Each (IsPast (each_of row_change (p ∷ earlier))) (rows_known p.entry)
known_past earlier p a = by p.entry a.rows a.others (change_past (each_of row_change earlier) (row_change p.entry) (row_one p.entry)) where
  by : (e : Entry) → AreNext (each_of row_change earlier) (row_change e) → Agrees earlier e → Each (IsPast (row_change e ++ each_of row_change earlier)) (row_change e) → Each (IsPast (row_change e ++ each_of row_change earlier)) (rows_known e)
  by (says.Held row first second) n w c = absurd w
  by (says.Busy row first second) n w c = absurd w
  by (says.Seen row version) n w c = let v : version ≡ last_of row (each_of row_change earlier) = w.0 in (omega (arith, v), tt)
  by (says.Free row version) n w c = let v : version ≡ last_of row (each_of row_change earlier) = w in (omega (arith, v), tt)
  by _ n w c = c

pub release_past : (earlier : List Placed) (p : Placed) → AgreesWith earlier p → Each (IsPast (each_of row_change (p ∷ earlier))) (release_of p.entry)
release_past earlier p a = by p.entry a.others where
  by : (e : Entry) → Agrees earlier e → Each (IsPast (row_change e ++ each_of row_change earlier)) (release_of e)
  by (says.Free row version) w = let v : version ≡ last_of row (each_of row_change earlier) = w in (omega (arith, v), tt)
  by _ w = tt

-- of lines that agree, each gives what is past
pub all_past : (f : Entry → List Change) (given : Placed → List Change) (grows : (earlier : List Placed) (p : Placed) → AgreesWith earlier p → GrowsTo (each_of f earlier) (each_of f (p ∷ earlier)))
    → ((earlier : List Placed) (p : Placed) → AgreesWith earlier p → Each (IsPast (each_of f (p ∷ earlier))) (given p))
    → (earlier : List Placed) → Agreed earlier → Each (λ p. Each (IsPast (each_of f earlier)) (given p)) earlier
all_past f given grows here [] a = tt
all_past f given grows here (p ∷ earlier) a = (
  here earlier p a.0,
  each_map (λ q. Each (IsPast (each_of f earlier)) (given q)) (λ q. Each (IsPast (each_of f (p ∷ earlier))) (given q)) (λ q h. past_more (each_of f earlier) (each_of f (p ∷ earlier)) (grows earlier p a.0) (given q) h) earlier (all_past f given grows here earlier a.1),
)

pub past_at : (before : List Change) (row : ℕ) (cs : List Change) → Each (IsPast before) cs → Each (λ c. c.row ≡ row → c.version ≤ last_of row before) cs
past_at before row cs a = each_map (IsPast before) (λ c. c.row ≡ row → c.version ≤ last_of row before) (λ c h e. let x : last_of c.row before ≡ last_of row before = ap (λ r. last_of r before) e in omega (arith, h, x)) cs a

-- later lines are in no action up to this number
abbrev pub AllLater : ℕ → List Placed → Type 0
AllLater n ps = Each (λ q. (q.context.action ≡ 0) ⊎ (n < q.context.action)) ps

pub all_later : (n : ℕ) (earlier : List Placed) (p : Placed) (ps : List Placed) → Walk earlier (p ∷ ps) → AgreeBehind earlier (p ∷ ps) → n ≤ top earlier → (p.context.action ≡ 0) ⊎ (n < p.context.action) → AllLater n (p ∷ ps)
all_later n earlier p [] w a h s = (s, tt)
all_later n earlier p (q ∷ ps) w a h s = (s, all_later n (p ∷ earlier) q ps w.1 a.1 more (next w.1.0.comes)) where
  more : n ≤ top (p ∷ earlier)
  more = let t : top earlier ≤ top (p ∷ earlier) = top_step earlier p a.0 in omega (arith, t, h)

  same : (x : ℕ) → q.context.action ≡ x → (x ≡ 0) ⊎ (n < x) → (q.context.action ≡ 0) ⊎ (n < q.context.action)
  same x e (inl z) = inl (e ∙ z)
  same x e (inr z) = inr (omega (arith, e, z))

  next : Comes (p ∷ earlier) q.context.action → (q.context.action ≡ 0) ⊎ (n < q.context.action)
  next (inl z) = inl z
  next (inr (inl z)) = same p.context.action z s
  next (inr (inr z)) = let up : q.context.action ≡ top earlier + 1 = number_next earlier p q.context.action a.0 z in inr (omega (arith, up, h))

-- so nothing of these is by an action up to it
none_later : (P : Change → Type 0) (f : Entry → List Change) (n : ℕ) (ps : List Placed) → AllLater n ps → Each (λ p. nat_lt 0 p.context.action && nat_le p.context.action n ≡ true → Each P (f p.entry)) ps
none_later P f n [] a = tt
none_later P f n (p ∷ ps) a = (λ q. absurd (no p.context.action a.0 q), none_later P f n ps a.1) where
  no : (x : ℕ) → (x ≡ 0) ⊎ (n < x) → nat_lt 0 x && nat_le x n ≡ true → ⊥
  no x (inl z) q = grind arith
  no x (inr z) q = grind arith

-- what actions up to an ended one did stands before
pub by_done : (P : Change → Type 0) (f : Entry → List Change) (n : ℕ) (earlier ps : List Placed) → Each (λ p. Each P (f p.entry)) earlier → AllLater n ps → Each P (each_of f (by_actions n (onto earlier ps)))
by_done P f n earlier ps a l =
    let T : Placed → Bool = λ place. nat_lt 0 place.context.action && nat_le place.context.action n in
    let Q : Placed → Type 0 = λ p. T p ≡ true → Each P (f p.entry) in
    each_chosen_of P f T (onto earlier ps) (each_onto Q earlier ps (each_map (λ p. Each P (f p.entry)) Q (λ p h q. h) earlier a) (none_later P f n ps l))

-- counts over what is chosen
pub times_onto : (test : Change → Bool) (f : Entry → List Change) (choose : Placed → Bool) (earlier ps : List Placed) → times test (each_of f (chosen choose (onto earlier ps))) ≡ times test (each_of f (chosen choose earlier)) + times test (each_of f (chosen choose ps))
times_onto test f choose [] ps = omega arith
times_onto test f choose (p ∷ earlier) ps =
    let e : times test (each_of f (chosen choose (onto earlier (p ∷ ps)))) ≡ times test (each_of f (chosen choose earlier)) + times test (each_of f (chosen choose (p ∷ ps))) = times_onto test f choose earlier (p ∷ ps) in
    let one : times test (each_of f (chosen choose (p ∷ ps))) ≡ times test (each_of f (chosen choose (p ∷ []))) + times test (each_of f (chosen choose ps)) = at (choose p) ps in
    let two : times test (each_of f (chosen choose (p ∷ earlier))) ≡ times test (each_of f (chosen choose (p ∷ []))) + times test (each_of f (chosen choose earlier)) = at (choose p) earlier in
    omega (arith, e, one, two) where
      at : (b : Bool) (ps : List Placed) → times test (each_of f (cond b (p ∷ []) [] ++ chosen choose ps)) ≡ times test (each_of f (cond b (p ∷ []) [] ++ [])) + times test (each_of f (chosen choose ps))
      at true ps = let e : times test (f p.entry ++ each_of f (chosen choose ps)) ≡ times test (f p.entry) + times test (each_of f (chosen choose ps)) = times_append test (f p.entry) (each_of f (chosen choose ps)) in let d : times test (f p.entry ++ []) ≡ times test (f p.entry) + times test [] = times_append test (f p.entry) [] in omega (arith, e, d)
      at false ps = omega arith

pub times_most : (test : Change → Bool) (f : Entry → List Change) (choose : Placed → Bool) (ps : List Placed) → times test (each_of f (chosen choose ps)) ≤ times test (each_of f ps)
times_most test f choose [] = omega arith
times_most test f choose (p ∷ ps) = at (choose p) (times_most test f choose ps) where
  at : (b : Bool) → times test (each_of f (chosen choose ps)) ≤ times test (each_of f ps) → times test (each_of f (cond b (p ∷ []) [] ++ chosen choose ps)) ≤ times test (f p.entry ++ each_of f ps)
  at true h = let e : times test (f p.entry ++ each_of f (chosen choose ps)) ≡ times test (f p.entry) + times test (each_of f (chosen choose ps)) = times_append test (f p.entry) (each_of f (chosen choose ps)) in let d : times test (f p.entry ++ each_of f ps) ≡ times test (f p.entry) + times test (each_of f ps) = times_append test (f p.entry) (each_of f ps) in omega (arith, e, d, h)
  at false h = let d : times test (f p.entry ++ each_of f ps) ≡ times test (f p.entry) + times test (each_of f ps) = times_append test (f p.entry) (each_of f ps) in omega (arith, d, h)

-- all of them are chosen, or none is
pub times_all : (test : Change → Bool) (f : Entry → List Change) (choose : Placed → Bool) (ps : List Placed) → Each (λ p. choose p ≡ true) ps → times test (each_of f (chosen choose ps)) ≡ times test (each_of f ps)
times_all test f choose [] a = refl
times_all test f choose (p ∷ ps) a = rw a.0 (let e : times test (f p.entry ++ each_of f (chosen choose ps)) ≡ times test (f p.entry) + times test (each_of f (chosen choose ps)) = times_append test (f p.entry) (each_of f (chosen choose ps)) in let d : times test (f p.entry ++ each_of f ps) ≡ times test (f p.entry) + times test (each_of f ps) = times_append test (f p.entry) (each_of f ps) in let h : times test (each_of f (chosen choose ps)) ≡ times test (each_of f ps) = times_all test f choose ps a.1 in omega (arith, e, d, h))

pub times_none : (test : Change → Bool) (f : Entry → List Change) (choose : Placed → Bool) (ps : List Placed) → Each (λ p. choose p ≡ false) ps → times test (each_of f (chosen choose ps)) ≡ 0
times_none test f choose [] a = refl
times_none test f choose (p ∷ ps) a = rw a.0 (times_none test f choose ps a.1)

-- later lines are in no earlier phase, earlier ones in none above
pub rising_all : (low phase : ℕ) (ps : List Placed) → low ≤ phase → Rising phase ps → Each (λ p. nat_lt p.phase low ≡ false) ps
rising_all low phase [] h r = tt
rising_all low phase (p ∷ ps) h r = let x : phase ≤ p.phase = r.0 in (no low phase p.phase h x, rising_all low p.phase ps (omega (arith, h, x)) r.1) where
  no : (a b c : ℕ) → a ≤ b → b ≤ c → nat_lt c a ≡ false
  no a b c h x = grind arith

abbrev pub AllUpTo : ℕ → List Placed → Type 0
AllUpTo phase ps = Each (λ p. p.phase ≤ phase) ps

pub up_to_all : (phase : ℕ) (ps : List Placed) → AllUpTo phase ps → Each (λ p. nat_le p.phase phase ≡ true) ps
up_to_all phase ps a = each_map (λ p. p.phase ≤ phase) (λ p. nat_le p.phase phase ≡ true) (λ p h. yes p.phase h) ps a where
  yes : (n : ℕ) → n ≤ phase → nat_le n phase ≡ true
  yes n h = grind arith

pub up_to_more : (low high : ℕ) (ps : List Placed) → low ≤ high → AllUpTo low ps → AllUpTo high ps
up_to_more low high ps h a = each_map (λ p. p.phase ≤ low) (λ p. p.phase ≤ high) (λ p x. omega (arith, h, x)) ps a

-- how an entry leaves a row free or not
abbrev Leaves : Entry → ℕ → Bool → Type 0
Leaves e row b =
    ((c : Change) × (row_change e ≡ c ∷ []) × (release_of e ≡ []) × (stands_free e row b ≡ cond (c.row == row) false b))
    ⊎ (((c : Change) × (release_of e ≡ c ∷ []) × (row_change e ≡ []) × (stands_free e row b ≡ cond (c.row == row) true b))
    ⊎ ((row_change e ≡ []) × (release_of e ≡ []) × (stands_free e row b ≡ b)))

leaves : (e : Entry) (row : ℕ) (b : Bool) → Leaves e row b
leaves (says.Add at version) row b = inl (change_at at version, refl, refl, refl)
leaves (says.Ring at version) row b = inl (change_at at version, refl, refl, refl)
leaves (says.Long at version ticket) row b = inl (change_at at version, refl, refl, refl)
leaves (says.Take at version) row b = inl (change_at at version, refl, refl, refl)
leaves (says.Give at version from) row b = inl (change_at at version, refl, refl, refl)
leaves (says.Tag at version) row b = inl (change_at at version, refl, refl, refl)
leaves (says.Free at version) row b = inr (inl (change_at at version, refl, refl, refl))
leaves _ row b = inr (inr (refl, refl, refl))

-- releases of a row that isn't free are below its last version
pub strict : (earlier : List Placed) (row : ℕ) → Agreed earlier → is_free earlier row ≡ false → Each (λ q. Each (λ c. c.row ≡ row → c.version < last_of row (each_of row_change earlier)) (release_of q.entry)) earlier
strict [] row a f = tt
strict (p ∷ earlier) row a f = on (strict earlier row a.1) (leaves p.entry row (is_free earlier row)) where
  Goal : List Change → Placed → Type 0
  Goal before q = Each (λ c. c.row ≡ row → c.version < last_of row before) (release_of q.entry)

  behind : List Change
  behind = each_of row_change (p ∷ earlier)

  old : Each (λ q. Each (IsPast (each_of row_change earlier)) (release_of q.entry)) earlier
  old = all_past row_change (λ q. release_of q.entry) grows_rows release_past earlier a.1

  same_last : row_change p.entry ≡ [] → last_of row behind ≡ last_of row (each_of row_change earlier)
  same_last q = ap (λ cs. last_of row (cs ++ each_of row_change earlier)) q

  Before : Type 0
  Before = is_free earlier row ≡ false → Each (Goal (each_of row_change earlier)) earlier

  carry : Before → last_of row (each_of row_change earlier) ≤ last_of row behind → is_free earlier row ≡ false → Each (Goal behind) earlier
  carry go h f = each_map (Goal (each_of row_change earlier)) (Goal behind) (λ q g. each_map (λ c. c.row ≡ row → c.version < last_of row (each_of row_change earlier)) (λ c. c.row ≡ row → c.version < last_of row behind) (λ c k e. let x : c.version < last_of row (each_of row_change earlier) = k e in omega (arith, x, h)) (release_of q.entry) g) earlier (go f)

  nothing : release_of p.entry ≡ [] → Goal behind p
  nothing q = subst (λ cs. Each (λ c. c.row ≡ row → c.version < last_of row behind) cs) (sym q) tt

  changed : Before → (c : Change) → row_change p.entry ≡ c ∷ [] → release_of p.entry ≡ [] → (b : Bool) → (c.row == row) ≡ b → cond b false (is_free earlier row) ≡ false → Each (Goal behind) (p ∷ earlier)
  changed go c q r true e f =
      let n : AreNext (each_of row_change earlier) (c ∷ []) = subst (AreNext (each_of row_change earlier)) q a.0.rows in
      let v : c.version ≡ last_of c.row (each_of row_change earlier) + 1 = n.0 in
      let s : c.row ≡ row = eqb-true c.row row e in
      let l : last_of c.row (each_of row_change earlier) ≡ last_of row (each_of row_change earlier) = ap (λ r. last_of r (each_of row_change earlier)) s in
      let now : last_of row behind ≡ c.version = ap (λ cs. last_of row (cs ++ each_of row_change earlier)) q ∙ ap (λ b. cond b c.version (last_of row (each_of row_change earlier))) e in
      (nothing r, each_map (λ q. Each (IsPast (each_of row_change earlier)) (release_of q.entry)) (Goal behind) (λ q g. each_map (IsPast (each_of row_change earlier)) (λ d. d.row ≡ row → d.version < last_of row behind) (λ d k e. let x : last_of d.row (each_of row_change earlier) ≡ last_of row (each_of row_change earlier) = ap (λ r. last_of r (each_of row_change earlier)) e in let y : d.version ≤ last_of d.row (each_of row_change earlier) = k in omega (arith, x, y, now, v, l)) (release_of q.entry) g) earlier old)
  changed go c q r false e f = (nothing r, carry go (grows_rows earlier p a.0 row) f)

  released : Before → (c : Change) → release_of p.entry ≡ c ∷ [] → row_change p.entry ≡ [] → (b : Bool) → (c.row == row) ≡ b → cond b true (is_free earlier row) ≡ false → Each (Goal behind) (p ∷ earlier)
  released go c q r true e f = absurd (cc)
  released go c q r false e f = (subst (λ cs. Each (λ d. d.row ≡ row → d.version < last_of row behind) cs) (sym q) ((λ s. absurd (differ c.row s e)), tt), carry go (grows_rows earlier p a.0 row) f) where
    differ : (x : ℕ) → x ≡ row → (x == row) ≡ false → ⊥
    differ x s e = grind arith

  on : Before → Leaves p.entry row (is_free earlier row) → Each (Goal behind) (p ∷ earlier)
  on go (inl (c, q, r, s)) = changed go c q r (c.row == row) refl (sym s ∙ f)
  on go (inr (inl (c, q, r, s))) = released go c q r (c.row == row) refl (sym s ∙ f)
  on go (inr (inr (q, r, s))) = (nothing r, carry go (grows_rows earlier p a.0 row) (sym s ∙ f))

-- a row that opened free and has no change is free
pub opened_free : (earlier : List Placed) (row : ℕ) → times (is_of row) (each_of row_change earlier) ≡ 0 → opens_free row ≡ true → is_free earlier row ≡ true
opened_free [] row n o = o
opened_free (p ∷ earlier) row n o = on (λ m. opened_free earlier row m o) (leaves p.entry row (is_free earlier row)) where
  split : times (is_of row) (row_change p.entry ++ each_of row_change earlier) ≡ times (is_of row) (row_change p.entry) + times (is_of row) (each_of row_change earlier)
  split = times_append (is_of row) (row_change p.entry) (each_of row_change earlier)

  Before : Type 0
  Before = times (is_of row) (each_of row_change earlier) ≡ 0 → is_free earlier row ≡ true

  before : Before → is_free earlier row ≡ true
  before go = go (omega (arith, split, n))

  on : Before → Leaves p.entry row (is_free earlier row) → stands_free p.entry row (is_free earlier row) ≡ true
  on go (inl (c, q, r, s)) = s ∙ at (c.row == row) refl where
    one : times (is_of row) (row_change p.entry) ≡ cond {A = ℕ} (c.row == row) 1 0 + 0
    one = ap (times (is_of row)) q

    at : (b : Bool) → (c.row == row) ≡ b → cond b false (is_free earlier row) ≡ true
    at true e = let x : cond {A = ℕ} (c.row == row) 1 0 ≡ 1 = ap (λ b. cond {A = ℕ} b 1 0) e in absurd (omega (arith, split, n, one, x))
    at false e = before go
  on go (inr (inl (c, q, r, s))) = s ∙ at (c.row == row) where
    at : (b : Bool) → cond b true (is_free earlier row) ≡ true
    at true = refl
    at false = before go
  on go (inr (inr (q, r, s))) = s ∙ before go
