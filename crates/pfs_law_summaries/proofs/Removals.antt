-- An event's removal by its row's chain is the one by the printed additions and takes.
use Rattle.std.proofs.Common.{◌≡◌, refl, ℕ, zero, suc, ◌+◌, ◌<◌, ◌≤◌, ◌==◌, ◌&&◌, ◌⊎◌, inl, inr, Bool, true, false, cond, nat_lt, List, [], ◌∷◌, ◌++◌, length, map, filter, count_by, Option, Some, None, sym, ap, subst, ◌∙◌, arith}
use Rattle.std.proofs.lemmas.List.Sums.{sum_by-cons}
use Rattle.std.proofs.lemmas.Bool.{and_parts, eqb-true}
use Rattle.pfs_conservation.specs.RowChains.{Change, Added, Taken, Given}
use Rattle.pfs_conservation.specs.PrintedChanges.{Kind, Adds, Takes, Gives, Tagged, as_change, change_of, standing, changes_of, chain_from, chain_of, Stands, Within, times_in, times_added}
use Rattle.pfs_conservation.specs.PrintedChanges.{IsAmong as IsChange}
use Rattle.pfs_conservation.specs.Removals.{first_take, following, counts_event, removal}
use Rattle.pfs_event.specs.declared.entry.Entry.{Entry}
use Rattle.pfs_event.specs.declared.entry.Entry.TheVariants as says
use Rattle.pfs_model.specs.Actions.{IsAmong}
use Rattle.pfs_model.specs.Contexts.{Context, brought}
use Rattle.pfs_model.specs.EntryPlaces.{Placed}
use Rattle.pfs_model.specs.SummaryCounts.{Addition, addition, additions_at, additions_of, Taking, takings_of, first_taking, action_of, removal_of}
use Rattle.pfs_model.specs.declared.lines.Opened.{Opened}
use Rattle.pfs_law_conservation.specs.RunEvents.{event_number, Ended, number_of}
use Rattle.pfs_law_conservation.specs.KindLines.{lines_at, all_lines, lines_on}
use Rattle.pfs_law_conservation.proofs.EventNumbers.{number_is}
use Rattle.pfs_law_conservation.proofs.RowLines.{sifted, bit_yes, bit_no}
use Rattle.pfs_law_summaries.specs.Counts.{own_row, removal_behind, removal_in}
use Rattle.pfs_law_summaries.proofs.FirstTakes.{Takes as Takings, IsLeast, least, takes_stand, stands_takes, kept_on, stands_among, among_stands, one_stands, in_range, IsFirst, first_is, which}

count_cons : (n x : ℕ) (xs : List ℕ) → count_by (λ y. y == n) (x ∷ xs) ≡ cond (x == n) 1 0 + count_by (λ y. y == n) xs
count_cons n x xs = sum_by-cons (λ y. cond (y == n) 1 0) x xs

some_of : (n : ℕ) → nat_lt 0 n ≡ true → 1 ≤ n
some_of n q = grind arith

of_some : (n : ℕ) → 1 ≤ n → nat_lt 0 n ≡ true
of_some n l = grind (arith, l)

-- ---- how often lines add an event

-- a line that adds these events
adds_of : (n : ℕ) (line : Tagged) (es : List ℕ) → change_of line ≡ Added es → times_in n line.kind ≡ count_by (λ x. x == n) es
adds_of n line es e = by line.kind e where
  unadd : (xs ys : List ℕ) → ◌≡◌ {A = Change} (Added xs) (Added ys) → xs ≡ ys
  unadd xs ys e = cc

  by : (kind : Kind) → as_change line.action kind ≡ Added es → times_in n kind ≡ count_by (λ x. x == n) es
  by (Adds xs) e = ap (λ l. count_by (λ x. x == n) l) (unadd xs es e)
  by Takes e = absurd (let k : ◌≡◌ {A = Change} (Taken line.action) (Added es) = e in cc)
  by (Gives from) e = absurd (let k : ◌≡◌ {A = Change} (Given line.action from) (Added es) = e in cc)

own_times : (n row : ℕ) (line : Tagged) (v : ℕ) (es : List ℕ) → ((line.row == row) && (line.version == v)) ≡ true → change_of line ≡ Added es → cond (line.row == row) (times_in n line.kind) 0 ≡ count_by (λ x. x == n) es
own_times n row line v es q e = ap (λ b. cond b (times_in n line.kind) 0) (and_parts (line.row == row) (line.version == v) q).0 ∙ adds_of n line es e

pub added_times : (n row v : ℕ) (es : List ℕ) (lines : List Tagged) → Stands lines row v (Added es) → 1 ≤ count_by (λ x. x == n) es → 1 ≤ times_added n lines row
added_times n row v es [] s l = absurd s
added_times n row v es (line ∷ lines) (inl q) l = let k : cond (line.row == row) (times_in n line.kind) 0 ≡ count_by (λ x. x == n) es = own_times n row line v es q.0 q.1 in omega (arith, k, l)
added_times n row v es (line ∷ lines) (inr s) l = let k : 1 ≤ times_added n lines row = added_times n row v es lines s l in omega (arith, k)

-- an event that is added once is added at one version
alone : (n row v w : ℕ) (es fs : List ℕ) (lines : List Tagged) → times_added n lines row ≤ 1 → Stands lines row v (Added es) → 1 ≤ count_by (λ x. x == n) es → Stands lines row w (Added fs) → 1 ≤ count_by (λ x. x == n) fs → v ≡ w
alone n row v w es fs [] few s l t m = absurd s
alone n row v w es fs (line ∷ lines) few (inl q) l (inl r) m = sym (eqb-true line.version v (and_parts (line.row == row) (line.version == v) q.0).1) ∙ eqb-true line.version w (and_parts (line.row == row) (line.version == w) r.0).1
alone n row v w es fs (line ∷ lines) few (inl q) l (inr t) m =
    let k : cond (line.row == row) (times_in n line.kind) 0 ≡ count_by (λ x. x == n) es = own_times n row line v es q.0 q.1 in
    let j : 1 ≤ times_added n lines row = added_times n row w fs lines t m in
    absurd (omega (arith, k, j, l, few))
alone n row v w es fs (line ∷ lines) few (inr s) l (inl r) m =
    let k : cond (line.row == row) (times_in n line.kind) 0 ≡ count_by (λ x. x == n) fs = own_times n row line w fs r.0 r.1 in
    let j : 1 ≤ times_added n lines row = added_times n row v es lines s l in
    absurd (omega (arith, k, j, m, few))
alone n row v w es fs (line ∷ lines) few (inr s) l (inr t) m = alone n row v w es fs lines (omega (arith, few)) s l t m

-- an event that is added stands somewhere
pub record IsAdded (n row : ℕ) (lines : List Tagged) : Type 0 where
  pub version : ℕ
  pub events : List ℕ
  pub stands : Stands lines row version (Added events)
  pub some : 1 ≤ count_by (λ x. x == n) events

some_added : (n row : ℕ) (lines : List Tagged) → 1 ≤ times_added n lines row → IsAdded n row lines
some_added n row [] l = absurd (omega (arith, l))
some_added n row (line ∷ lines) l = at (line.row == row) refl line.kind refl l (some_added n row lines) where
  later : IsAdded n row lines → IsAdded n row (line ∷ lines)
  later a = record { version = a.version; events = a.events; stands = inr a.stands; some = a.some }

  own : (line.row == row) ≡ true → ((line.row == row) && (line.version == line.version)) ≡ true
  own q = grind (arith, q)

  here : (es : List ℕ) → (line.row == row) ≡ true → line.kind ≡ Adds es → (c : Bool) → nat_lt 0 (count_by (λ x. x == n) es) ≡ c → 1 ≤ count_by (λ x. x == n) es + times_added n lines row → (1 ≤ times_added n lines row → IsAdded n row lines) → IsAdded n row (line ∷ lines)
  here es q k true r l go = record { version = line.version; events = es; stands = inl (own q, ap (as_change line.action) k); some = some_of (count_by (λ x. x == n) es) r }
  here es q k false r l go = later (go (none (count_by (λ x. x == n) es) (times_added n lines row) r l)) where
    none : (a b : ℕ) → nat_lt 0 a ≡ false → 1 ≤ a + b → 1 ≤ b
    none a b r l = grind (arith, r, l)

  at : (b : Bool) → (line.row == row) ≡ b → (kind : Kind) → line.kind ≡ kind → 1 ≤ cond b (times_in n kind) 0 + times_added n lines row → (1 ≤ times_added n lines row → IsAdded n row lines) → IsAdded n row (line ∷ lines)
  at true q (Adds es) k l go = here es q k (nat_lt 0 (count_by (λ x. x == n) es)) refl l go
  at true q Takes k l go = later (go (omega (arith, l)))
  at true q (Gives from) k l go = later (go (omega (arith, l)))
  at false q kind k l go = later (go (omega (arith, l)))

-- rows of lines of which some add an event are of those that the lines were chosen by
pub added_passes : (test : ℕ → Bool) (n row : ℕ) (lines : List Tagged) → 1 ≤ times_added n (lines_on test lines) row → test row ≡ true
added_passes test n row lines l = on (some_added n row (lines_on test lines) l) where
  on : IsAdded n row (lines_on test lines) → test row ≡ true
  on a = (sifted test lines row a.version (Added a.events) a.stands).0

-- ---- the additions of an event

module _ (row session index : ℕ) where
  abbrev number : ℕ
  number = event_number session index

  abbrev pub is_own : Addition → Bool
  is_own x = (x.row == row) && ((x.session == session) && (x.event.index == index))

  among_back : (xs ys : List Addition) (x : Addition) → IsAmong x ys → IsAmong x (xs ++ ys)
  among_back [] ys x m = m
  among_back (y ∷ xs) ys x m = inr (among_back xs ys x m)

  among_front : (xs ys : List Addition) (x : Addition) → IsAmong x xs → IsAmong x (xs ++ ys)
  among_front [] ys x m = absurd m
  among_front (y ∷ xs) ys x (inl e) = inl e
  among_front (y ∷ xs) ys x (inr m) = inr (among_front xs ys x m)

  among_either : (xs ys : List Addition) (x : Addition) → IsAmong x (xs ++ ys) → IsAmong x xs ⊎ IsAmong x ys
  among_either [] ys x m = inr m
  among_either (y ∷ xs) ys x (inl e) = inl (inl e)
  among_either (y ∷ xs) ys x (inr m) = up (among_either xs ys x m) where
    up : IsAmong x xs ⊎ IsAmong x ys → IsAmong x (y ∷ xs) ⊎ IsAmong x ys
    up (inl k) = inl (inr k)
    up (inr k) = inr k

  -- an addition of the event
  record IsOwn (xs : List Addition) : Type 0 where
    one : Addition
    among : IsAmong one xs
    own : is_own one ≡ true

  -- what an entry adds
  brings : (s : ℕ) (c : Context) (v : ℕ) (events : List Opened) → 1 ≤ count_by (λ x. x == event_number session index) (map (λ (e : Opened). event_number s e.index) events) → IsOwn (map (addition s c row v) events)
  brings s c v [] l = absurd (omega (arith, l))
  brings s c v (e ∷ events) l =
      at (event_number s e.index == event_number session index) refl (brings s c v events)
    where
      counted : count_by (λ x. x == event_number session index) (map (λ (e : Opened). event_number s e.index) (e ∷ events))
          ≡ cond (event_number s e.index == event_number session index) 1 0 + count_by (λ x. x == event_number session index) (map (λ (e : Opened). event_number s e.index) events)
      counted = count_cons (event_number session index) (event_number s e.index) (map (λ (e : Opened). event_number s e.index) events)

      own : (a b : Bool) → b ≡ true → a ≡ true → (a && b) ≡ true
      own true true p q = refl
      own true false p q = absurd (cc)
      own false b p q = absurd (cc)

      self : (n : ℕ) → (n == n) ≡ true
      self n = grind arith

      at : (b : Bool) → (event_number s e.index == event_number session index) ≡ b → (1 ≤ count_by (λ x. x == event_number session index) (map (λ (e : Opened). event_number s e.index) events) → IsOwn (map (addition s c row v) events)) → IsOwn (map (addition s c row v) (e ∷ events))
      at true q go = record { one = addition s c row v e; among = inl refl; own = own (row == row) ((s == session) && (e.index == index)) (sym (number_is s e.index session index) ∙ q) (self row) }
      at false q go = on (go (omega (arith, counted, l, bit_no (event_number s e.index == event_number session index) q))) where
        on : IsOwn (map (addition s c row v) events) → IsOwn (map (addition s c row v) (e ∷ events))
        on o = record { one = o.one; among = inr o.among; own = o.own }

  brought_back : (s : ℕ) (c : Context) (r v : ℕ) (events : List Opened) (x : Addition) → IsAmong x (map (addition s c r v) events) → is_own x ≡ true
      → ((r == row) && (v == x.version) ≡ true) × (1 ≤ count_by (λ x. x == event_number session index) (map (λ (e : Opened). event_number s e.index) events))
  brought_back s c r v [] x m q = absurd m
  brought_back s c r v (e ∷ events) x (inr m) q =
      let b : ((r == row) && (v == x.version) ≡ true) × (1 ≤ count_by (λ x. x == event_number session index) (map (λ (e : Opened). event_number s e.index) events)) = brought_back s c r v events x m q in
      let l : 1 ≤ count_by (λ x. x == event_number session index) (map (λ (e : Opened). event_number s e.index) events) = b.1 in
      (b.0, omega (arith, l, count_cons (event_number session index) (event_number s e.index) (map (λ (e : Opened). event_number s e.index) events)))
  brought_back s c r v (e ∷ events) x (inl f) q =
      let p : ((r == row) && ((s == session) && (e.index == index))) ≡ true = ap is_own f ∙ q in
      let b : ((r == row) ≡ true) × (((s == session) && (e.index == index)) ≡ true) = and_parts (r == row) ((s == session) && (e.index == index)) p in
      let n : (event_number s e.index == event_number session index) ≡ true = number_is s e.index session index ∙ b.1 in
      (and_self b.0 (ap (λ (y : Addition). y.version) f), omega (arith, bit_yes (event_number s e.index == event_number session index) n, count_cons (event_number session index) (event_number s e.index) (map (λ (e : Opened). event_number s e.index) events)))
    where
      and_self : (r == row) ≡ true → v ≡ x.version → ((r == row) && (v == x.version)) ≡ true
      and_self p q = grind (arith, p, q)

  -- a line that adds the event tells an addition of it
  told : (v : ℕ) (es : List ℕ) (ps : List Placed) → Stands (all_lines ps) row v (Added es) → 1 ≤ count_by (λ x. x == event_number session index) es → IsOwn (additions_of ps)
  told v es [] s l = absurd s
  told v es (p ∷ ps) s l = by p.entry s (λ t. told v es ps t l) where
    unadd : (xs ys : List ℕ) → ◌≡◌ {A = Change} (Added xs) (Added ys) → xs ≡ ys
    unadd xs ys e = cc

    later : (e : Entry) → IsOwn (additions_of ps) → IsOwn (additions_at p.session p.context e ++ additions_of ps)
    later e o = record { one = o.one; among = among_back (additions_at p.session p.context e) (additions_of ps) o.one o.among; own = o.own }

    here : (at w : ℕ) → at ≡ row → (events : List Opened) → IsOwn (map (addition p.session p.context row w) events) → IsOwn (map (addition p.session p.context at w) events ++ additions_of ps)
    here at w e events o = record { one = o.one; among = among_front (map (addition p.session p.context at w) events) (additions_of ps) o.one (subst (λ n. IsAmong o.one (map (addition p.session p.context n w) events)) (sym e) o.among); own = o.own }

    by : (e : Entry) → Stands (lines_at p e ++ all_lines ps) row v (Added es) → (Stands (all_lines ps) row v (Added es) → IsOwn (additions_of ps)) → IsOwn (additions_at p.session p.context e ++ additions_of ps)
    by (says.Add at w) (inl q) go =
        here at w (eqb-true at row (and_parts (at == row) (w == v) q.0).0) (brought p.context at)
        (brings p.session p.context w (brought p.context at) (subst (λ zs. 1 ≤ count_by (λ x. x == event_number session index) zs) (sym (unadd (map (λ (event : Opened). event_number p.session event.index) (brought p.context at)) es q.1)) l))
    by (says.Add at w) (inr k) go = later (says.Add at w) (go k)
    by (says.Take at w) (inl q) go = absurd (let k : ◌≡◌ {A = Change} (Taken p.context.action) (Added es) = q.1 in cc)
    by (says.Take at w) (inr k) go = later (says.Take at w) (go k)
    by (says.Give at w from) (inl q) go = absurd (let k : ◌≡◌ {A = Change} (Given p.context.action from) (Added es) = q.1 in cc)
    by (says.Give at w from) (inr k) go = later (says.Give at w from) (go k)
    by _ k go = go k

  -- and an addition of it is that of such a line
  stands_told : (ps : List Placed) (x : Addition) → IsAmong x (additions_of ps) → is_own x ≡ true → (es : List ℕ) × Stands (all_lines ps) row x.version (Added es) × (1 ≤ count_by (λ x. x == event_number session index) es)
  stands_told [] x m q = absurd m
  stands_told (p ∷ ps) x m q = by p.entry m (λ k. stands_told ps x k q) where
    by : (e : Entry) → IsAmong x (additions_at p.session p.context e ++ additions_of ps) → (IsAmong x (additions_of ps) → (es : List ℕ) × Stands (all_lines ps) row x.version (Added es) × (1 ≤ count_by (λ x. x == event_number session index) es))
        → (es : List ℕ) × Stands (lines_at p e ++ all_lines ps) row x.version (Added es) × (1 ≤ count_by (λ x. x == event_number session index) es)
    by (says.Add at w) m go = on (among_either (map (addition p.session p.context at w) (brought p.context at)) (additions_of ps) x m) where
      on : IsAmong x (map (addition p.session p.context at w) (brought p.context at)) ⊎ IsAmong x (additions_of ps) → (es : List ℕ) × Stands (lines_at p (says.Add at w) ++ all_lines ps) row x.version (Added es) × (1 ≤ count_by (λ x. x == event_number session index) es)
      on (inl k) =
          let b : ((at == row) && (w == x.version) ≡ true) × (1 ≤ count_by (λ x. x == event_number session index) (map (λ (e : Opened). event_number p.session e.index) (brought p.context at))) = brought_back p.session p.context at w (brought p.context at) x k q in
          (map (λ (event : Opened). event_number p.session event.index) (brought p.context at), inl (b.0, refl), b.1)
      on (inr k) = let r : (es : List ℕ) × Stands (all_lines ps) row x.version (Added es) × (1 ≤ count_by (λ x. x == event_number session index) es) = go k in (r.0, inr r.1, r.2)
    by (says.Take at w) m go = let r : (es : List ℕ) × Stands (all_lines ps) row x.version (Added es) × (1 ≤ count_by (λ x. x == event_number session index) es) = go m in (r.0, inr r.1, r.2)
    by (says.Give at w from) m go = let r : (es : List ℕ) × Stands (all_lines ps) row x.version (Added es) × (1 ≤ count_by (λ x. x == event_number session index) es) = go m in (r.0, inr r.1, r.2)
    by _ m go = go m

  -- the first of those that pass
  none_passes : (xs : List Addition) (x : Addition) → IsAmong x xs → is_own x ≡ true → filter is_own xs ≡ [] → ⊥
  none_passes [] x m q e = m
  none_passes (y ∷ xs) x m q e = at (is_own y) refl m e (λ k f. none_passes xs x k q f) where
    at : (b : Bool) → is_own y ≡ b → IsAmong x (y ∷ xs) → cond b (y ∷ filter is_own xs) (filter is_own xs) ≡ [] → (IsAmong x xs → filter is_own xs ≡ [] → ⊥) → ⊥
    at true r m e go = absurd (cc)
    at false r (inl f) e go = absurd (let z : true ≡ false = sym q ∙ (ap is_own (sym f) ∙ r) in cc)
    at false r (inr k) e go = go k e

  first_passes : (xs : List Addition) (x : Addition) (ys : List Addition) → filter is_own xs ≡ x ∷ ys → IsAmong x xs × (is_own x ≡ true)
  first_passes [] x ys e = absurd (cc)
  first_passes (y ∷ xs) x ys e = at (is_own y) refl e (first_passes xs x ys) where
    head : (a b : Addition) (xs zs : List Addition) → a ∷ xs ≡ b ∷ zs → a ≡ b
    head a b xs zs e = cc

    at : (b : Bool) → is_own y ≡ b → cond b (y ∷ filter is_own xs) (filter is_own xs) ≡ x ∷ ys → (filter is_own xs ≡ x ∷ ys → IsAmong x xs × (is_own x ≡ true)) → IsAmong x (y ∷ xs) × (is_own x ≡ true)
    at true r e go = (inl (head y x (filter is_own xs) ys e), ap is_own (sym (head y x (filter is_own xs) ys e)) ∙ r)
    at false r e go = let k : IsAmong x xs × (is_own x ≡ true) = go e in (inr k.0, k.1)

-- ---- the two removals

module _ (test : ℕ → Bool) (ps : List Placed) (row : ℕ) (passes : test row ≡ true) (within : Within (lines_on test (all_lines ps)) (lines_on test (all_lines ps))) (once : (version : ℕ) → length (standing (lines_on test (all_lines ps)) row version) ≤ 1) where
  abbrev lines : List Tagged
  lines = lines_on test (all_lines ps)

  -- what is taken first from a version on
  same_first : (at more : ℕ) → suc at + more ≡ suc (changes_of (lines_on test (all_lines ps)) row) → first_take (chain_from (lines_on test (all_lines ps)) row (suc at) more) ≡ action_of (first_taking row at (takings_of ps))
  same_first at more whole = by (first_take (chain_from lines row (suc at) more)) (first_is lines row once (suc at) more) (first_taking row at (takings_of ps)) (least row at (takings_of ps)) where
    on_line : (w a : ℕ) → Takings row w a (takings_of ps) → Stands (lines_on test (all_lines ps)) row w (Taken a)
    on_line w a t = kept_on test (all_lines ps) row w (Taken a) passes (takes_stand row w a ps t)

    of_line : (w a : ℕ) → Stands (lines_on test (all_lines ps)) row w (Taken a) → Takings row w a (takings_of ps)
    of_line w a s = stands_takes row w a ps (sifted test (all_lines ps) row w (Taken a) s).1

    known : (w a : ℕ) → Stands (lines_on test (all_lines ps)) row w (Taken a) → w < suc at + more
    known w a s = let l : w ≤ changes_of (lines_on test (all_lines ps)) row = (in_range (lines_on test (all_lines ps)) (lines_on test (all_lines ps)) within row w (Taken a) s).1 in omega (arith, l, whole)

    untake : (a b : ℕ) → ◌≡◌ {A = Change} (Taken a) (Taken b) → a ≡ b
    untake a b e = cc

    by : (m : Option ℕ) → IsFirst lines row once (suc at) more m → (o : Option Taking) → IsLeast row at (takings_of ps) o → m ≡ action_of o
    by None f None g = refl
    by None f (Some t) g = absurd (f t.version t.action (let l : at < t.version = g.1 in omega (arith, l)) (known t.version t.action (on_line t.version t.action g.0)) (on_line t.version t.action g.0))
    by (Some a) f None g = absurd (g f.0 a (of_line f.0 a f.2) (let l : suc at ≤ f.0 = f.1 in omega (arith, l)))
    by (Some a) f (Some t) g = on (which t.version f.0 (g.2 f.0 a (of_line f.0 a f.2) (let l : suc at ≤ f.0 = f.1 in omega (arith, l)))) where
      on : (t.version ≡ f.0) ⊎ (suc t.version ≤ f.0) → ◌≡◌ {A = Option ℕ} (Some a) (Some t.action)
      on (inl e) = ap (λ (n : ℕ). Some n) (untake a t.action (one_stands lines row f.0 (Taken a) (Taken t.action) (once f.0) f.2 (subst (λ w. Stands lines row w (Taken t.action)) e (on_line t.version t.action g.0))))
      on (inr l) = absurd (f.3 t.version t.action (let k : at < t.version = g.1 in omega (arith, k)) l (on_line t.version t.action g.0))

  -- what follows the addition of an event
  module _ (n : ℕ) (few : times_added n (lines_on test (all_lines ps)) row ≤ 1) (at : ℕ) (events : List ℕ) (stands : Stands (lines_on test (all_lines ps)) row at (Added events)) (some : 1 ≤ count_by (λ x. x == n) events) where
    follow : (k v more : ℕ) → v ≤ at → suc at + more ≡ v + k → following (counts_event n) (chain_from (lines_on test (all_lines ps)) row v k) ≡ chain_from (lines_on test (all_lines ps)) row (suc at) more
    follow zero v more l whole = absurd (omega (arith, l, whole))
    follow (suc k) v more l whole = by (which v at l) (follow k (suc v) more) where
      Rest : List Change
      Rest = chain_from (lines_on test (all_lines ps)) row (suc v) k

      one_only : (cs : List Change) → length cs ≤ 1 → IsChange (Added events) cs → cs ≡ Added events ∷ []
      one_only [] l h = absurd h
      one_only (c ∷ []) l (inl e) = ap (λ (x : Change). x ∷ []) e
      one_only (c ∷ []) l (inr h) = absurd h
      one_only (c ∷ d ∷ cs) l h = absurd (omega (arith, l))

      no_more : v ≡ at → k ≡ more
      no_more e = omega (arith, e, whole)

      passed : (cs : List Change) → length cs ≤ 1 → ((c : Change) → IsChange c cs → counts_event n c ≡ false) → following (counts_event n) (cs ++ chain_from (lines_on test (all_lines ps)) row (suc v) k) ≡ following (counts_event n) (chain_from (lines_on test (all_lines ps)) row (suc v) k)
      passed [] l h = refl
      passed (c ∷ []) l h = ap (λ b. cond b (chain_from (lines_on test (all_lines ps)) row (suc v) k) (following (counts_event n) (chain_from (lines_on test (all_lines ps)) row (suc v) k))) (h c (inl refl))
      passed (c ∷ d ∷ cs) l h = absurd (omega (arith, l))

      not_it : suc v ≤ at → (c : Change) → IsChange c (standing (lines_on test (all_lines ps)) row v) → counts_event n c ≡ false
      not_it m (Taken a) h = refl
      not_it m (Given a f) h = refl
      not_it m (Added es) h = on (nat_lt 0 (count_by (λ x. x == n) es)) refl where
        on : (b : Bool) → nat_lt 0 (count_by (λ x. x == n) es) ≡ b → b ≡ false
        on false q = refl
        on true q = absurd (let e : v ≡ at = alone n row v at es events (lines_on test (all_lines ps)) few (among_stands (lines_on test (all_lines ps)) row v (Added es) h) (some_of (count_by (λ x. x == n) es) q) stands some in omega (arith, e, m))

      by : (v ≡ at) ⊎ (suc v ≤ at) → (suc v ≤ at → suc at + more ≡ suc v + k → following (counts_event n) (chain_from (lines_on test (all_lines ps)) row (suc v) k) ≡ chain_from (lines_on test (all_lines ps)) row (suc at) more)
          → following (counts_event n) (standing (lines_on test (all_lines ps)) row v ++ chain_from (lines_on test (all_lines ps)) row (suc v) k) ≡ chain_from (lines_on test (all_lines ps)) row (suc at) more
      by (inl e) go =
          ap (λ cs. following (counts_event n) (cs ++ chain_from (lines_on test (all_lines ps)) row (suc v) k)) (one_only (standing (lines_on test (all_lines ps)) row v) (once v) (stands_among (lines_on test (all_lines ps)) row v (Added events) (subst (λ w. Stands (lines_on test (all_lines ps)) row w (Added events)) (sym e) stands)))
          ∙ (ap (λ b. cond b (chain_from (lines_on test (all_lines ps)) row (suc v) k) (following (counts_event n) (chain_from (lines_on test (all_lines ps)) row (suc v) k))) (of_some (count_by (λ x. x == n) events) some)
          ∙ (ap (λ w. chain_from (lines_on test (all_lines ps)) row (suc w) k) e ∙ ap (chain_from (lines_on test (all_lines ps)) row (suc at)) (no_more e)))
      by (inr m) go = passed (standing (lines_on test (all_lines ps)) row v) (once v) (not_it m) ∙ go m (omega (arith, whole))

  -- an event's removal from the row, where it is added to it once
  pub removed_here : (one : Ended) → times_added (number_of one) (lines_on test (all_lines ps)) row ≡ 1
      → removal (number_of one) (chain_of (lines_on test (all_lines ps)) row) ≡ removal_behind ps (filter (is_own row one.session one.event.index) (additions_of ps))
  removed_here one times = on (some_added (number_of one) row (lines_on test (all_lines ps)) (omega (arith, times))) where
    Goal : List Addition → Type 0
    Goal xs = removal (number_of one) (chain_of (lines_on test (all_lines ps)) row) ≡ removal_behind ps xs

    few : times_added (number_of one) (lines_on test (all_lines ps)) row ≤ 1
    few = omega (arith, times)

    rest : (at high : ℕ) → at ≤ high → (more : ℕ) × (suc at + more ≡ 1 + high)
    rest zero high l = (high, omega arith)
    rest (suc at) zero l = absurd (omega (arith, l))
    rest (suc at) (suc high) l = let r : (more : ℕ) × (suc at + more ≡ 1 + high) = rest at high (omega (arith, l)) in let e : suc at + r.0 ≡ 1 + high = r.1 in (r.0, omega (arith, e))

    by : (x : Addition) → IsAmong x (additions_of ps) × (is_own row one.session one.event.index x ≡ true) → removal (number_of one) (chain_of (lines_on test (all_lines ps)) row) ≡ removal_of ps x
    by x m = with_events (stands_told row one.session one.event.index ps x m.0 m.1) where
      row_is : x.row ≡ row
      row_is = eqb-true x.row row (and_parts (x.row == row) ((x.session == one.session) && (x.event.index == one.event.index)) m.1).0

      with_events : (es : List ℕ) × Stands (all_lines ps) row x.version (Added es) × (1 ≤ count_by (λ y. y == number_of one) es) → removal (number_of one) (chain_of (lines_on test (all_lines ps)) row) ≡ removal_of ps x
      with_events s = with_rest (rest x.version (changes_of (lines_on test (all_lines ps)) row) range.1) where
        stands : Stands (lines_on test (all_lines ps)) row x.version (Added s.0)
        stands = kept_on test (all_lines ps) row x.version (Added s.0) passes s.1

        range : (1 ≤ x.version) × (x.version ≤ changes_of (lines_on test (all_lines ps)) row)
        range = in_range (lines_on test (all_lines ps)) (lines_on test (all_lines ps)) within row x.version (Added s.0) stands

        with_rest : (more : ℕ) × (suc x.version + more ≡ 1 + changes_of (lines_on test (all_lines ps)) row) → removal (number_of one) (chain_of (lines_on test (all_lines ps)) row) ≡ removal_of ps x
        with_rest r =
            ap first_take (follow (number_of one) few x.version s.0 stands s.2 (changes_of (lines_on test (all_lines ps)) row) 1 r.0 range.0 r.1)
            ∙ (same_first x.version r.0 (let e : suc x.version + r.0 ≡ 1 + changes_of (lines_on test (all_lines ps)) row = r.1 in omega (arith, e))
            ∙ ap (λ n. action_of (first_taking n x.version (takings_of ps))) (sym row_is))

    on : IsAdded (number_of one) row (lines_on test (all_lines ps)) → Goal (filter (is_own row one.session one.event.index) (additions_of ps))
    on a = cases (filter (is_own row one.session one.event.index) (additions_of ps)) refl where
      o : IsOwn row one.session one.event.index (additions_of ps)
      o = told row one.session one.event.index a.version a.events ps (sifted test (all_lines ps) row a.version (Added a.events) a.stands).1 a.some

      cases : (xs : List Addition) → filter (is_own row one.session one.event.index) (additions_of ps) ≡ xs → Goal xs
      cases [] e = absurd (none_passes row one.session one.event.index (additions_of ps) o.one o.among o.own e)
      cases (x ∷ xs) e = by x (first_passes row one.session one.event.index (additions_of ps) x xs e)

  -- so it is from its own row
  pub removed : (one : Ended) → own_row one ≡ row → times_added (number_of one) (lines_on test (all_lines ps)) row ≡ 1 → removal (number_of one) (chain_of (lines_on test (all_lines ps)) row) ≡ removal_in ps one
  removed one home times =
      removed_here one times ∙ ap (λ r. removal_behind ps (filter (is_own r one.session one.event.index) (additions_of ps))) (sym home)

-- the take by which an event is removed stands
pub removal_stands : (ps : List Placed) (one : Ended) (action : ℕ) → removal_in ps one ≡ Some action → (version : ℕ) × Stands (all_lines ps) (own_row one) version (Taken action)
removal_stands ps one action e = cases (filter (is_own (own_row one) one.session one.event.index) (additions_of ps)) refl e where
  some_is : (a b : ℕ) → ◌≡◌ {A = Option ℕ} (Some a) (Some b) → a ≡ b
  some_is a b h = cc

  taken : (row at : ℕ) (o : Option Taking) → IsLeast row at (takings_of ps) o → action_of o ≡ Some action → (version : ℕ) × Stands (all_lines ps) row version (Taken action)
  taken row at None g e = absurd (cc)
  taken row at (Some t) g e = (t.version, subst (λ n. Stands (all_lines ps) row t.version (Taken n)) (some_is t.action action e) (takes_stand row t.version t.action ps g.0))

  cases : (xs : List Addition) → filter (is_own (own_row one) one.session one.event.index) (additions_of ps) ≡ xs → removal_behind ps xs ≡ Some action → (version : ℕ) × Stands (all_lines ps) (own_row one) version (Taken action)
  cases [] q e = absurd (cc)
  cases (x ∷ xs) q e = by (first_passes (own_row one) one.session one.event.index (additions_of ps) x xs q) where
    by : IsAmong x (additions_of ps) × (is_own (own_row one) one.session one.event.index x ≡ true) → (version : ℕ) × Stands (all_lines ps) (own_row one) version (Taken action)
    by m = taken (own_row one) x.version (first_taking (own_row one) x.version (takings_of ps)) (least (own_row one) x.version (takings_of ps))
        (ap (λ n. action_of (first_taking n x.version (takings_of ps))) (sym (eqb-true x.row (own_row one) (and_parts (x.row == own_row one) ((x.session == one.session) && (x.event.index == one.event.index)) m.1).0)) ∙ e)
