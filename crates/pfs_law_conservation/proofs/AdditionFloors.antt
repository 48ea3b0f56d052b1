-- An addition stands above each change that an action made up to the session's last one that has ended.
use Rattle.std.proofs.Common.{◌≡◌, refl, ℕ, ◌<◌, ◌≤◌, ◌==◌, ◌&&◌, Bool, true, false, cond, nat_lt, nat_le, List, [], ◌∷◌, ◌++◌, max, sym, ap, subst, ◌∙◌, inl, inr, arith}
use Rattle.std.proofs.lemmas.Bool.{and_parts, eqb-true}
use Rattle.pfs_conservation.specs.RowChains.{Change as Moved, Added, Taken, Given}
use Rattle.pfs_conservation.specs.PrintedChanges.{Tagged, Stands, IsMove, action_of}
use Rattle.pfs_event.specs.declared.entry.Entry.{Entry}
use Rattle.pfs_event.specs.declared.entry.Entry.TheVariants as says
use Rattle.pfs_model.specs.Actions.{IsAmong}
use Rattle.pfs_model.specs.Chains.{Each, row_change, each_of, change_at}
use Rattle.pfs_model.specs.Floors.{by_actions, greatest, floor_of, namings_of, NamingsKeep, AreFlooredBehind}
use Rattle.pfs_model.specs.EntryPlaces.{Placed, chosen}
use Rattle.pfs_model.specs.declared.changes.Change.{Change}
use Rattle.pfs_law_conservation.specs.KindLines.{brought_by, lines_at, all_lines}

-- a change of a row that an action up to this one made, among all changes
greatest_front : (row : ℕ) (xs ys : List Change) → greatest row ys ≤ greatest row (xs ++ ys)
greatest_front row [] ys = omega arith
greatest_front row (x ∷ xs) ys = let l : greatest row ys ≤ greatest row (xs ++ ys) = greatest_front row xs ys in omega (arith, l)

own_greatest : (row at version v n : ℕ) → ((at == row) && (v == version)) ≡ true → version ≤ max (cond (at == row) v 0) n
own_greatest row at version v n q = let e : v ≡ version = eqb-true v version (and_parts (at == row) (v == version) q).1 in rw (and_parts (at == row) (v == version) q).0 (omega (arith, e))

-- moves up to an action are known by then
pub move_known : (number row version : ℕ) (change : Moved) (ps : List Placed) → Stands (all_lines ps) row version change → IsMove change → 1 ≤ action_of change → action_of change ≤ number → version ≤ greatest row (each_of row_change (by_actions number ps))
move_known number row version change [] s m l h = absurd s
move_known number row version change (p ∷ ps) s m l h = by p.entry refl s (λ t. move_known number row version change ps t m l h) where
  Rest : ℕ
  Rest = greatest row (each_of row_change (by_actions number ps))

  Test : Bool
  Test = nat_lt 0 p.context.action && nat_le p.context.action number

  more : (b : Bool) → greatest row (each_of row_change (by_actions number ps)) ≤ greatest row (each_of row_change (cond b (p ∷ []) [] ++ by_actions number ps))
  more true = greatest_front row (row_change p.entry) (each_of row_change (by_actions number ps))
  more false = omega arith

  later : (version ≤ greatest row (each_of row_change (by_actions number ps))) → version ≤ greatest row (each_of row_change (cond (nat_lt 0 p.context.action && nat_le p.context.action number) (p ∷ []) [] ++ by_actions number ps))
  later k = (let w : greatest row (each_of row_change (by_actions number ps)) ≤ greatest row (each_of row_change (cond (nat_lt 0 p.context.action && nat_le p.context.action number) (p ∷ []) [] ++ by_actions number ps)) = more (nat_lt 0 p.context.action && nat_le p.context.action number) in omega (arith, k, w))

  within : (a : ℕ) → 1 ≤ a → a ≤ number → (nat_lt 0 a && nat_le a number) ≡ true
  within a l h = grind arith

  here : (at v : ℕ) (own : Moved) → row_change p.entry ≡ change_at at v ∷ [] → action_of own ≡ p.context.action → ((at == row) && (v == version) ≡ true) × (own ≡ change)
      → version ≤ greatest row (each_of row_change (cond (nat_lt 0 p.context.action && nat_le p.context.action number) (p ∷ []) [] ++ by_actions number ps))
  here at v own e a k =
      let same : action_of change ≡ p.context.action = sym (ap action_of k.1) ∙ a in
      subst (λ b. version ≤ greatest row (each_of row_change (cond b (p ∷ []) [] ++ by_actions number ps))) (sym (within p.context.action (subst (λ n. 1 ≤ n) same l) (subst (λ n. n ≤ number) same h)))
      (subst (λ cs. version ≤ greatest row (cs ++ each_of row_change (by_actions number ps))) (sym e) (own_greatest row at version v (greatest row (each_of row_change (by_actions number ps))) k.0))

  by : (e : Entry) → p.entry ≡ e → Stands (lines_at p e ++ all_lines ps) row version change → (Stands (all_lines ps) row version change → version ≤ greatest row (each_of row_change (by_actions number ps)))
      → version ≤ greatest row (each_of row_change (cond (nat_lt 0 p.context.action && nat_le p.context.action number) (p ∷ []) [] ++ by_actions number ps))
  by (says.Add at v) q (inl k) go = absurd (subst IsMove (sym k.1) m)
  by (says.Add at v) q (inr s) go = later (go s)
  by (says.Take at v) q (inl k) go = here at v _ (ap row_change q) refl k
  by (says.Take at v) q (inr s) go = later (go s)
  by (says.Give at v from) q (inl k) go = here at v _ (ap row_change q) refl k
  by (says.Give at v from) q (inr s) go = later (go s)
  by _ q s go = later (go s)

-- what stands among the chosen stands among all
pub stands_chosen : (test : Placed → Bool) (row version : ℕ) (change : Moved) (ps : List Placed) → Stands (all_lines (chosen test ps)) row version change → Stands (all_lines ps) row version change
stands_chosen test row version change [] s = s
stands_chosen test row version change (p ∷ ps) s = at (test p) s (stands_chosen test row version change ps) where
  join : (xs ys zs : List Tagged) → (Stands ys row version change → Stands zs row version change) → Stands (xs ++ ys) row version change → Stands (xs ++ zs) row version change
  join [] ys zs f s = f s
  join (x ∷ xs) ys zs f (inl h) = inl h
  join (x ∷ xs) ys zs f (inr s) = inr (join xs ys zs f s)

  back : (xs ys : List Tagged) → Stands ys row version change → Stands (xs ++ ys) row version change
  back [] ys s = s
  back (x ∷ xs) ys s = inr (back xs ys s)

  at : (b : Bool) → Stands (all_lines (cond b (p ∷ []) [] ++ chosen test ps)) row version change → (Stands (all_lines (chosen test ps)) row version change → Stands (all_lines ps) row version change) → Stands (lines_at p p.entry ++ all_lines ps) row version change
  at true s go = join (lines_at p p.entry) (all_lines (chosen test ps)) (all_lines ps) go s
  at false s go = back (lines_at p p.entry) (all_lines ps) (go s)

-- the addition that stands somewhere
pub record IsAddition (ps : List Placed) (row version : ℕ) (events : List ℕ) : Type 0 where
  pub place : Placed
  pub among : IsAmong place ps
  pub entry : place.entry ≡ says.Add row version
  pub events_are : brought_by place row ≡ events

pub addition_is : (row version : ℕ) (events : List ℕ) (ps : List Placed) → Stands (all_lines ps) row version (Added events) → IsAddition ps row version events
addition_is row version events [] s = absurd s
addition_is row version events (p ∷ ps) s = by p.entry refl s (addition_is row version events ps) where
  later : IsAddition ps row version events → IsAddition (p ∷ ps) row version events
  later a = record { place = a.place; among = inr a.among; entry = a.entry; events_are = a.events_are }

  same : (at v : ℕ) → ((at == row) && (v == version)) ≡ true → (says.Add at v ≡ says.Add row version)
  same at v q = ap (λ n. says.Add n v) (eqb-true at row (and_parts (at == row) (v == version) q).0) ∙ ap (λ n. says.Add row n) (eqb-true v version (and_parts (at == row) (v == version) q).1)

  by : (e : Entry) → p.entry ≡ e → Stands (lines_at p e ++ all_lines ps) row version (Added events) → (Stands (all_lines ps) row version (Added events) → IsAddition ps row version events) → IsAddition (p ∷ ps) row version events
  by (says.Add at v) q (inl h) go = record {
    place = p;
    among = inl refl;
    entry = q ∙ same at v h.0;
    events_are = (let e : brought_by p at ≡ events = unadd (brought_by p at) events h.1 in ap (brought_by p) (sym (eqb-true at row (and_parts (at == row) (v == version) h.0).0)) ∙ e);
  } where
    unadd : (xs ys : List ℕ) → ◌≡◌ {A = Moved} (Added xs) (Added ys) → xs ≡ ys
    unadd xs ys e = cc
  by (says.Add at v) q (inr s) go = later (go s)
  by (says.Take at v) q (inl h) go = absurd (let k : Taken p.context.action ≡ Added events = h.1 in cc)
  by (says.Take at v) q (inr s) go = later (go s)
  by (says.Give at v from) q (inl h) go = absurd (let k : Given p.context.action from ≡ Added events = h.1 in cc)
  by (says.Give at v from) q (inr s) go = later (go s)
  by _ q s go = later (go s)

-- an addition is above the floor
abbrev pub IsOver : List Placed → Placed → Entry → Type 0
IsOver all p (says.Add row version) = greatest row (each_of row_change (by_actions p.context.done all)) < version
IsOver all p entry = Unit {0}

over_of : (all earlier : List Placed) (p : Placed) (e : Entry) → NamingsKeep all earlier p (namings_of e) → IsOver all p e
over_of all earlier p (says.Add row version) n = (let l : floor_of all earlier p row < version = n.0.0 in last (max (Rattle.pfs_model.specs.Chains.times (Rattle.pfs_model.specs.Chains.is_of row) (each_of row_change (Rattle.pfs_model.specs.EntryPlaces.before_phase p.phase all))) (greatest row (each_of Rattle.pfs_model.specs.Floors.rows_known (Rattle.pfs_model.specs.EntryPlaces.by_session p.session earlier)))) (greatest row (each_of row_change (by_actions p.context.done all))) version l) where
  last : (a b v : ℕ) → max a b < v → b < v
  last a b v l = omega (arith, l)
over_of all earlier p _ n = tt

pub all_over : (all earlier ps : List Placed) → AreFlooredBehind all earlier ps → Each (λ (p : Placed). IsOver all p p.entry) ps
all_over all earlier [] f = tt
all_over all earlier (p ∷ ps) f = (over_of all earlier p p.entry f.0, all_over all (p ∷ earlier) ps f.2)

pub each_chosen : (P : Placed → Type 0) (test : Placed → Bool) (ps : List Placed) → Each P ps → Each P (chosen test ps)
each_chosen P test [] h = tt
each_chosen P test (p ∷ ps) h = at (test p) (each_chosen P test ps h.1) where
  at : (b : Bool) → Each P (chosen test ps) → Each P (cond b (p ∷ []) [] ++ chosen test ps)
  at true r = (h.0, r)
  at false r = r

pub place_among : (P : Placed → Type 0) (p : Placed) (ps : List Placed) → IsAmong p ps → Each P ps → P p
place_among P p [] m h = absurd m
place_among P p (x ∷ ps) (inl e) h = subst P e h.0
place_among P p (x ∷ ps) (inr m) h = place_among P p ps m h.1
