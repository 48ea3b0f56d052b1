-- A session's additions stand before its quit, and the takes of its quit behind.
use Rattle.std.proofs.Common.{◌≡◌, refl, ℕ, ◌+◌, ◌<◌, ◌≤◌, ◌==◌, ◌&&◌, Bool, true, false, cond, nat_lt, List, [], ◌∷◌, ◌++◌, sym, ap, subst, ◌∙◌, ◌⊎◌, inl, inr, arith}
use Rattle.std.proofs.lemmas.Bool.{and_parts, eqb-true}
use Rattle.pfs_conservation.specs.RowChains.{Change as Moved, Added, Taken, Given}
use Rattle.pfs_conservation.specs.PrintedChanges.{Tagged, Adds, Takes, Stands}
use Rattle.pfs_conservation.specs.Prints.{Above, Rises}
use Rattle.pfs_event.specs.declared.entry.Entry.{Entry}
use Rattle.pfs_event.specs.declared.entry.Entry.TheVariants as says
use Rattle.pfs_model.specs.Actions.{IsAmong}
use Rattle.pfs_model.specs.EntryAsks.{is_head}
use Rattle.pfs_model.specs.Chains.{Each, times, change_at, action_change, each_of, is_that}
use Rattle.pfs_model.specs.Contexts.{Context, subject_of, noted}
use Rattle.pfs_model.specs.EntryPlaces.{Placed}
use Rattle.pfs_model.specs.declared.lines.Line.{Line}
use Rattle.pfs_model.proofs.ChainGrowth.{times_append}
use Rattle.pfs_model.proofs.LineWalks.{IsNoted, noted_is}
use Rattle.pfs_law_conservation.specs.RunEvents.{given_by, quits_at, is_quit}
use Rattle.pfs_law_conservation.specs.Premises.{AreLastBehind}
use Rattle.pfs_law_conservation.specs.KindLines.{brought_by, lines_at, all_lines, lines_on}
use Rattle.pfs_law_conservation.proofs.EntryWalk.{Comes, Follow, then_told}
use Rattle.pfs_law_conservation.proofs.LineVersions.{that_self}
use Rattle.pfs_law_conservation.proofs.EventOffers.{Near}
use Rattle.pfs_law_conservation.proofs.ActionJournals.{says_number, says_by, IsSaid}
use Rattle.pfs_law_conservation.proofs.RowLines.{bit_yes}

-- an entry among others, and where it stands
pub record IsSplit (x : Placed) (ps : List Placed) : Type 0 where
  pub before : List Placed
  pub after : List Placed
  pub all : ps ≡ before ++ x ∷ after

pub split_at : (x : Placed) (ps : List Placed) → IsAmong x ps → IsSplit x ps
split_at x [] m = absurd m
split_at x (p ∷ ps) (inl e) = record { before = []; after = ps; all = ap (λ (z : Placed). z ∷ ps) e }
split_at x (p ∷ ps) (inr m) = let s : IsSplit x ps = split_at x ps m in record { before = p ∷ s.before; after = s.after; all = ap (λ (z : List Placed). p ∷ z) s.all }

pub among_split : {A : Type 0} (y x : A) (xs ys : List A) → IsAmong y (xs ++ x ∷ ys) → IsAmong y xs ⊎ ((x ≡ y) ⊎ IsAmong y ys)
among_split y x [] ys (inl e) = inr (inl e)
among_split y x [] ys (inr m) = inr (inr m)
among_split y x (z ∷ xs) ys (inl e) = inl (inl e)
among_split {A = A} y x (z ∷ xs) ys (inr m) = on (among_split y x xs ys m) where
  on : IsAmong y xs ⊎ ((x ≡ y) ⊎ IsAmong y ys) → IsAmong y (z ∷ xs) ⊎ ((x ≡ y) ⊎ IsAmong y ys)
  on (inl m) = inl (inr m)
  on (inr r) = inr r

-- the entries before, the last first
abbrev pub onto : List Placed → List Placed → List Placed
onto earlier [] = earlier
onto earlier (p ∷ ps) = onto (p ∷ earlier) ps

pub last_split : (earlier xs ys : List Placed) → AreLastBehind earlier (xs ++ ys) → AreLastBehind (onto earlier xs) ys
last_split earlier [] ys a = a
last_split earlier (x ∷ xs) ys a = last_split (x ∷ earlier) xs ys a.1

pub near_split : (at : ℕ) (d : Context) (x : Placed) (xs ys : List Placed) → Near at d (xs ++ x ∷ ys) → Near x.session (noted (subject_of x.line) x.context x.entry) ys
near_split at d x [] ys n = n.1
near_split at d x (p ∷ xs) ys n = near_split p.session (noted (subject_of p.line) p.context p.entry) x xs ys n.1

pub follow_front : (session : ℕ) (c : Context) (xs ys : List Placed) → Follow session c (xs ++ ys) → Follow session c xs
follow_front session c [] ys f = tt
follow_front session c (x ∷ xs) ys f = (f.0, follow_front session (then_told session c x) xs ys f.1)

kept_action : (line : Line) (c : Context) (e : Entry) → is_head e ≡ false → (noted (subject_of line) c e).action ≡ c.action
kept_action line c (says.Connect action thread account user host) f = absurd (cc)
kept_action line c (says.Start event verdict consumers thread class table) f = absurd (cc)
kept_action line c (says.End event last consumers thread) f = absurd (cc)
kept_action line c says.Settle f = absurd (cc)
kept_action line c (says.Act action) f = absurd (cc)
kept_action line c (says.Held row first second) f = refl
kept_action line c (says.Add row version) f = refl
kept_action line c (says.Take row version) f = refl
kept_action line c _ f = refl

-- behind its quit a session's entries are all of that action
pub after_quit : (session quit : ℕ) (ps : List Placed) (at : ℕ) (d : Context) (earlier : List Placed) (r : ℕ) (rs : List ℕ) → Near at d ps → AreLastBehind earlier ps → given_by quits_at session earlier ≡ r ∷ rs → ((at == session) ≡ true → d.action ≡ quit)
    → Each (λ (p : Placed). (p.session == session) ≡ true → p.context.action ≡ quit) ps
after_quit session quit [] at d earlier r rs n a e k = tt
after_quit session quit (p ∷ ps) at d earlier r rs n a e k = on (p.session == session) refl (λ s ss f g. after_quit session quit ps p.session (noted (subject_of p.line) p.context p.entry) (p ∷ earlier) s ss n.1 a.1 f g) where
  Go : Type 0
  Go = (s : ℕ) (ss : List ℕ) → given_by quits_at session (p ∷ earlier) ≡ s ∷ ss → ((p.session == session) ≡ true → (noted (subject_of p.line) p.context p.entry).action ≡ quit) → Each (λ (p : Placed). (p.session == session) ≡ true → p.context.action ≡ quit) ps

  silent : (e : Entry) → is_head e ≡ false → quits_at p e ≡ []
  silent (says.Act action) h = absurd (cc)
  silent _ h = refl

  tail : (p.session == session) ≡ true → is_head p.entry ≡ false
  tail own = by (is_head p.entry) refl where
    by : (b : Bool) → is_head p.entry ≡ b → b ≡ false
    by true h = absurd (let z : given_by quits_at session earlier ≡ [] = subst (λ s. given_by quits_at s earlier ≡ []) (eqb-true p.session session own) (a.0 h) in let q : r ∷ rs ≡ [] = sym e ∙ z in cc)
    by false h = refl

  acted : (p.session == session) ≡ true → p.context.action ≡ quit
  acted own =
      let w : (p.session ≡ at) × (p.context ≡ d) = n.0 (tail own) in
      ap (λ (z : Context). z.action) w.1 ∙ k (subst (λ z. (z == session) ≡ true) w.0 own)

  on : (b : Bool) → (p.session == session) ≡ b → Go → ((p.session == session) ≡ true → p.context.action ≡ quit) × Each (λ (p : Placed). (p.session == session) ≡ true → p.context.action ≡ quit) ps
  on true own go = (
    acted,
    go r rs (ap (λ b. cond b (quits_at p p.entry) [] ++ given_by quits_at session earlier) own ∙ (ap (λ z. z ++ given_by quits_at session earlier) (silent p.entry (tail own)) ∙ e))
        (λ q. kept_action p.line p.context p.entry (tail own) ∙ acted own),
  )
  on false own go = (
    acted,
    go r rs (ap (λ b. cond b (quits_at p p.entry) [] ++ given_by quits_at session earlier) own ∙ e) (λ q. absurd (let z : true ≡ false = sym q ∙ own in cc)),
  )

-- before a number is said no entry is of it
pub before_said : (session number : ℕ) (c : Context) (ps : List Placed) → 1 ≤ number → Follow session c ps → (c.action ≡ number → ⊥) → times (is_that (change_at 0 number)) (each_of action_change ps) ≡ 0
    → Each (λ (p : Placed). (p.session == session) ≡ true → p.context.action ≡ number → ⊥) ps
before_said session number c [] l f n z = tt
before_said session number c (p ∷ ps) l f n z = (own, before_said session number (then_told session c p) ps l f.1 (next (p.session == session) refl) rest) where
  a : times (is_that (change_at 0 number)) (action_change p.entry ++ each_of action_change ps) ≡ times (is_that (change_at 0 number)) (action_change p.entry) + times (is_that (change_at 0 number)) (each_of action_change ps)
  a = times_append (is_that (change_at 0 number)) (action_change p.entry) (each_of action_change ps)

  rest : times (is_that (change_at 0 number)) (each_of action_change ps) ≡ 0
  rest = omega (arith, a, z)

  here : times (is_that (change_at 0 number)) (action_change p.entry) ≡ 0
  here = omega (arith, a, z)

  come : (d : Context) → Comes c d → d.action ≡ number → ⊥
  come d (inl e) q = n (sym (ap (λ (z : Context). z.action) e) ∙ q)
  come d (inr e) q = (let k : 0 ≡ number = sym (ap (λ (z : Context). z.action) e) ∙ q in omega (arith, k, l))

  own : (p.session == session) ≡ true → p.context.action ≡ number → ⊥
  own q = come p.context (f.0 q)

  next : (b : Bool) → (p.session == session) ≡ b → (cond b (noted (subject_of p.line) p.context p.entry) c).action ≡ number → ⊥
  next false q e = n e
  next true q e = by (noted_is (subject_of p.line) p.context p.entry) where
    by : IsNoted (subject_of p.line) p.context p.entry → ⊥
    by (inl k) = own q (sym k.1 ∙ e)
    by (inr (m, k, r, s)) =
        let same : m ≡ number = sym r ∙ e in
        let o : times (is_that (change_at 0 number)) (action_change p.entry) ≡ cond {A = ℕ} (is_that (change_at 0 number) (change_at 0 number)) 1 0 + 0 = ap (times (is_that (change_at 0 number))) (k ∙ ap (λ j. change_at 0 j ∷ []) same) in
        let t : cond {A = ℕ} (is_that (change_at 0 number) (change_at 0 number)) 1 0 ≡ 1 = bit_yes (is_that (change_at 0 number) (change_at 0 number)) (that_self 0 number) in
        let h : times (is_that (change_at 0 number)) (action_change p.entry) ≡ 0 = here in
        omega (arith, o, t, h)

-- the entry of a take
pub record IsTake (ps : List Placed) (row version action : ℕ) : Type 0 where
  pub place : Placed
  pub among : IsAmong place ps
  pub entry : place.entry ≡ says.Take row version
  pub action_is : place.context.action ≡ action

pub take_is : (row version action : ℕ) (ps : List Placed) → Stands (all_lines ps) row version (Taken action) → IsTake ps row version action
take_is row version action [] s = absurd s
take_is row version action (p ∷ ps) s = by p.entry refl s (take_is row version action ps) where
  later : IsTake ps row version action → IsTake (p ∷ ps) row version action
  later a = record { place = a.place; among = inr a.among; entry = a.entry; action_is = a.action_is }

  by : (e : Entry) → p.entry ≡ e → Stands (lines_at p e ++ all_lines ps) row version (Taken action) → (Stands (all_lines ps) row version (Taken action) → IsTake ps row version action) → IsTake (p ∷ ps) row version action
  by (says.Add at v) q (inl h) go = absurd (let k : Added (brought_by p at) ≡ Taken action = h.1 in cc)
  by (says.Add at v) q (inr s) go = later (go s)
  by (says.Take at v) q (inl h) go = record {
    place = p;
    among = inl refl;
    entry = q ∙ (ap (λ n. says.Take n v) (eqb-true at row (and_parts (at == row) (v == version) h.0).0) ∙ ap (λ n. says.Take row n) (eqb-true v version (and_parts (at == row) (v == version) h.0).1));
    action_is = untake p.context.action action h.1;
  } where
    untake : (a b : ℕ) → ◌≡◌ {A = Moved} (Taken a) (Taken b) → a ≡ b
    untake a b e = cc
  by (says.Take at v) q (inr s) go = later (go s)
  by (says.Give at v from) q (inl h) go = absurd (let k : Given p.context.action from ≡ Taken action = h.1 in cc)
  by (says.Give at v from) q (inr s) go = later (go s)
  by _ q s go = later (go s)

-- the line of an entry
line_among : (p : Placed) (line : Tagged) (ps : List Placed) → IsAmong p ps → lines_at p p.entry ≡ line ∷ [] → IsAmong line (all_lines ps)
line_among p line [] m e = absurd m
line_among p line (x ∷ ps) (inl q) e = subst (λ zs. IsAmong line (zs ++ all_lines ps)) (sym (ap (λ (z : Placed). lines_at z z.entry) q ∙ e)) (inl refl)
line_among p line (x ∷ ps) (inr m) e = back (lines_at x x.entry) (line_among p line ps m e) where
  back : (xs : List Tagged) → IsAmong line (all_lines ps) → IsAmong line (xs ++ all_lines ps)
  back [] m = m
  back (y ∷ xs) m = inr (back xs m)

line_on : (test : ℕ → Bool) (line : Tagged) (lines : List Tagged) → IsAmong line lines → test line.row ≡ true → IsAmong line (lines_on test lines)
line_on test line [] m t = absurd m
line_on test line (x ∷ lines) (inl e) t = subst (λ b. IsAmong line (cond b (x ∷ []) [] ++ lines_on test lines)) (sym (ap (λ (z : Tagged). test z.row) e ∙ t)) (inl e)
line_on test line (x ∷ lines) (inr m) t = at (test x.row) (line_on test line lines m t) where
  at : (b : Bool) → IsAmong line (lines_on test lines) → IsAmong line (cond b (x ∷ []) [] ++ lines_on test lines)
  at true m = inr m
  at false m = m

on_then : (test : ℕ → Bool) (xs ys : List Tagged) → lines_on test (xs ++ ys) ≡ lines_on test xs ++ lines_on test ys
on_then test [] ys = refl
on_then test (x ∷ xs) ys = at (test x.row) (on_then test xs ys) where
  at : (b : Bool) → lines_on test (xs ++ ys) ≡ lines_on test xs ++ lines_on test ys → cond b (x ∷ []) [] ++ lines_on test (xs ++ ys) ≡ (cond b (x ∷ []) [] ++ lines_on test xs) ++ lines_on test ys
  at true e = ap (λ (z : List Tagged). x ∷ z) e
  at false e = e

all_then : (xs ys : List Placed) → all_lines (xs ++ ys) ≡ all_lines xs ++ all_lines ys
all_then [] ys = refl
all_then (x ∷ xs) ys = ap (λ (z : List Tagged). lines_at x x.entry ++ z) (all_then xs ys) ∙ assoc (lines_at x x.entry) (all_lines xs) (all_lines ys) where
  assoc : (xs ys zs : List Tagged) → xs ++ (ys ++ zs) ≡ (xs ++ ys) ++ zs
  assoc [] ys zs = refl
  assoc (x ∷ xs) ys zs = ap (λ (z : List Tagged). x ∷ z) (assoc xs ys zs)

above_of : (a b : Tagged) (ys : List Tagged) → Above a ys → IsAmong b ys → a.session ≡ b.session → a.row ≡ b.row → a.version < b.version
above_of a b [] h m s r = absurd m
above_of a b (y ∷ ys) h (inl e) s r = subst (λ (z : Tagged). a.session ≡ z.session → a.row ≡ z.row → a.version < z.version) e h.0 s r
above_of a b (y ∷ ys) h (inr m) s r = above_of a b ys h.1 m s r

above_back : (a : Tagged) (xs ys : List Tagged) → Above a (xs ++ ys) → Above a ys
above_back a [] ys h = h
above_back a (x ∷ xs) ys h = above_back a xs ys h.1

rises_order : (a b : Tagged) (xs ys : List Tagged) → Rises (xs ++ ys) → IsAmong a xs → IsAmong b ys → a.session ≡ b.session → a.row ≡ b.row → a.version < b.version
rises_order a b [] ys h m n s r = absurd m
rises_order a b (x ∷ xs) ys h (inl e) n s r = above_of a b ys (subst (λ (z : Tagged). Above z ys) e (above_back x xs ys h.0)) n s r
rises_order a b (x ∷ xs) ys h (inr m) n s r = rises_order a b xs ys h.1 m n s r

-- of two entries of a session and a row the first is below
pub below_behind : (test : ℕ → Bool) (p r : Placed) (row v w : ℕ) (before rest : List Placed) → Rises (lines_on test (all_lines (before ++ rest))) → IsAmong p before → IsAmong r rest → p.entry ≡ says.Add row v → r.entry ≡ says.Take row w → p.session ≡ r.session → test row ≡ true → v < w
below_behind test p r row v w before rest h m n e f s t =
    rises_order (record { session = p.session; action = p.context.action; row = row; version = v; kind = Adds (brought_by p row) }) (record { session = r.session; action = r.context.action; row = row; version = w; kind = Takes })
    (lines_on test (all_lines before)) (lines_on test (all_lines rest)) (subst Rises (ap (lines_on test) (all_then before rest) ∙ on_then test (all_lines before) (all_lines rest)) h)
    (line_on test _ (all_lines before) (line_among p _ before m (ap (lines_at p) e)) t)
    (line_on test _ (all_lines rest) (line_among r _ rest n (ap (lines_at r) f)) t) s refl

-- who says a number
pub record IsSayer (session number : ℕ) (ps : List Placed) : Type 0 where
  pub place : Placed
  pub among : IsAmong place ps
  pub session_is : place.session ≡ session
  pub says : action_change place.entry ≡ change_at 0 number ∷ []

pub sayer_is : (session phase number : ℕ) (ps : List Placed) → IsSaid ps session phase number → IsSayer session number ps
sayer_is session phase number [] l = absurd (omega (arith, l))
sayer_is session phase number (p ∷ ps) l = at (says_by session phase number p) refl l (sayer_is session phase number ps) where
  says_it : (e : Entry) → p.entry ≡ e → says_number number e ≡ true → action_change p.entry ≡ change_at 0 number ∷ []
  says_it (says.Connect action thread account user host) q s = ap action_change q ∙ one ((0 == 0) && (action == number)) refl s where
    one : (b : Bool) → ((0 == 0) && (action == number)) ≡ b → nat_lt 0 (cond {A = ℕ} b 1 0 + 0) ≡ true → change_at 0 action ∷ [] ≡ change_at 0 number ∷ []
    one true r s = ap (λ n. change_at 0 n ∷ []) (eqb-true action number (and_parts (0 == 0) (action == number) r).1)
    one false r s = absurd (cc)
  says_it (says.Act action) q s = ap action_change q ∙ one ((0 == 0) && (action == number)) refl s where
    one : (b : Bool) → ((0 == 0) && (action == number)) ≡ b → nat_lt 0 (cond {A = ℕ} b 1 0 + 0) ≡ true → change_at 0 action ∷ [] ≡ change_at 0 number ∷ []
    one true r s = ap (λ n. change_at 0 n ∷ []) (eqb-true action number (and_parts (0 == 0) (action == number) r).1)
    one false r s = absurd (cc)
  says_it _ q s = absurd (cc)

  later : IsSayer session number ps → IsSayer session number (p ∷ ps)
  later s = record { place = s.place; among = inr s.among; session_is = s.session_is; says = s.says }

  at : (b : Bool) → says_by session phase number p ≡ b → 1 ≤ cond {A = ℕ} b 1 0 + times (says_by session phase number) ps → (IsSaid ps session phase number → IsSayer session number ps) → IsSayer session number (p ∷ ps)
  at true q l go =
      let r : (((p.session == session) && (p.phase == phase)) ≡ true) × (says_number number p.entry ≡ true) = and_parts ((p.session == session) && (p.phase == phase)) (says_number number p.entry) q in
      record { place = p; among = inl refl; session_is = eqb-true p.session session (and_parts (p.session == session) (p.phase == phase) r.0).0; says = says_it p.entry refl r.1 }
  at false q l go = later (go (omega (arith, l)))

-- the entry of a quit
pub record IsQuitting (session number : ℕ) (ps : List Placed) : Type 0 where
  pub place : Placed
  pub among : IsAmong place ps
  pub own : (place.session == session) ≡ true
  pub entry : place.entry ≡ says.Act number
  pub line : is_quit place.line ≡ true

pub quitting_is : (session number : ℕ) (qs : List ℕ) (ps : List Placed) → given_by quits_at session ps ≡ number ∷ qs → IsQuitting session number ps
quitting_is session number qs [] e = absurd (cc)
quitting_is session number qs (p ∷ ps) e = at (p.session == session) refl e (quitting_is session number qs ps) where
  later : IsQuitting session number ps → IsQuitting session number (p ∷ ps)
  later s = record { place = s.place; among = inr s.among; own = s.own; entry = s.entry; line = s.line }

  by : (p.session == session) ≡ true → (e : Entry) → p.entry ≡ e → quits_at p e ++ given_by quits_at session ps ≡ number ∷ qs → (given_by quits_at session ps ≡ number ∷ qs → IsQuitting session number ps) → IsQuitting session number (p ∷ ps)
  by own (says.Act n) q h go = on (is_quit p.line) refl h where
    first : (a b : ℕ) (xs ys : List ℕ) → a ∷ xs ≡ b ∷ ys → a ≡ b
    first a b xs ys r = cc

    on : (b : Bool) → is_quit p.line ≡ b → cond b (n ∷ []) [] ++ given_by quits_at session ps ≡ number ∷ qs → IsQuitting session number (p ∷ ps)
    on true r h = record { place = p; among = inl refl; own = own; entry = q ∙ ap (λ z. says.Act z) (first n number (given_by quits_at session ps) qs h); line = r }
    on false r h = later (go h)
  by own _ q h go = later (go h)

  at : (b : Bool) → (p.session == session) ≡ b → cond b (quits_at p p.entry) [] ++ given_by quits_at session ps ≡ number ∷ qs → (given_by quits_at session ps ≡ number ∷ qs → IsQuitting session number ps) → IsQuitting session number (p ∷ ps)
  at true own h go = by own p.entry refl h go
  at false own h go = later (go h)

-- behind it the session has quit
pub quits_onto : (session : ℕ) (x : Placed) (number : ℕ) (earlier : List Placed) → (x.session == session) ≡ true → quits_at x x.entry ≡ number ∷ [] → given_by quits_at session (x ∷ earlier) ≡ number ∷ given_by quits_at session earlier
quits_onto session x number earlier own e = ap (λ b. cond b (quits_at x x.entry) [] ++ given_by quits_at session earlier) own ∙ ap (λ z. z ++ given_by quits_at session earlier) e
