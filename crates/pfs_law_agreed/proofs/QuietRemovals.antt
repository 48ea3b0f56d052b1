-- Along a quiet phase no row is taken: an event that has ended before stays where it stayed, and each one of the phase
-- stays.
use Rattle.std.proofs.Common.{ℕ, ◌≡◌, ◌+◌, ◌<◌, ◌≤◌, ◌==◌, ◌&&◌, ◌⊎◌, inl, inr, nat_le, nat_lt, max, Bool, true, false, cond, List, [], ◌∷◌, ◌++◌, map, filter, count_by, Option, Some, None, refl, ap, sym, ◌∙◌, subst, arith, append_assoc}
use Rattle.std.proofs.lemmas.Bool.{and_parts, eqb-true}
use Rattle.std.proofs.lemmas.List.Sums.{sum_by-cons}
use Rattle.pfs_event.specs.declared.entry.Entry.{Entry}
use Rattle.pfs_event.specs.declared.entry.Entry.TheVariants as says
use Rattle.pfs_law_conservation.proofs.ChosenLines.{each_map}
use Rattle.pfs_law_conservation.proofs.EventNumbers.{number_is}
use Rattle.pfs_law_conservation.proofs.LineVersions.{chain_range}
use Rattle.pfs_law_conservation.specs.KindLines.{all_lines, lines_at}
use Rattle.pfs_law_conservation.specs.RunEvents.{event_number}
use Rattle.pfs_conservation.specs.PrintedChanges.{times_added}
use Rattle.pfs_law_summaries.specs.Counts.{removal_behind}
use Rattle.pfs_model.proofs.EachLists.{each_join}
use Rattle.pfs_model.specs.Chains.{Each, IsChained, change_at, each_of, is_of, is_that, row_change, times}
use Rattle.pfs_model.specs.Contexts.{Context, brought}
use Rattle.pfs_model.specs.EntryPlaces.{Placed, before_phase}
use Rattle.pfs_model.specs.Floors.{AreFlooredBehind, KeepsAbove, NamingsKeep, Changes, naming, namings_of}
use Rattle.pfs_model.specs.SummaryCounts.{Addition, Taking, action_of, addition, additions_at, additions_of, first_taking, lower_of, removal_of, taking_at, takings_of}
use Rattle.pfs_model.specs.declared.changes.Change.{Change}
use Rattle.pfs_model.specs.declared.lines.Opened.{Opened}
use Rattle.pfs_runs.specs.PhaseFinals.{row_version}
use Rattle.pfs_law_agreed.proofs.QuietLoads.{is_calm}

-- ---- lists

pub times_then : {A : Type 0} (test : A → Bool) (xs ys : List A) → times test (xs ++ ys) ≡ times test xs + times test ys
times_then test [] ys = omega arith
times_then {A} test (x ∷ xs) ys = let h : times test (xs ++ ys) ≡ times test xs + times test ys = times_then test xs ys in omega (arith, h)

pub filter_then : {A : Type 0} (test : A → Bool) (xs ys : List A) → filter test (xs ++ ys) ≡ filter test xs ++ filter test ys
filter_then test [] ys = refl
filter_then {A} test (x ∷ xs) ys = at (test x) (filter_then test xs ys) where
  at : (b : Bool) → filter test (xs ++ ys) ≡ filter test xs ++ filter test ys → cond b (x ∷ filter test (xs ++ ys)) (filter test (xs ++ ys)) ≡ cond b (x ∷ filter test xs) (filter test xs) ++ filter test ys
  at true h = ap (λ (z : List A). x ∷ z) h
  at false h = h

filter_none : (test : Addition → Bool) (xs : List Addition) → times test xs ≡ 0 → filter test xs ≡ []
filter_none test [] e = refl
filter_none test (x ∷ xs) e = at (test x) e (filter_none test xs) where
  at : (b : Bool) → cond {A = ℕ} b 1 0 + times test xs ≡ 0 → (times test xs ≡ 0 → filter test xs ≡ []) → cond b (x ∷ filter test xs) (filter test xs) ≡ []
  at true e go = absurd (omega (arith, e))
  at false e go = go (omega (arith, e))

filter_some : (test : Addition → Bool) (xs : List Addition) → 1 ≤ times test xs → (x : Addition) × (rest : List Addition) × (filter test xs ≡ x ∷ rest)
filter_some test [] l = absurd (omega (arith, l))
filter_some test (x ∷ xs) l = at (test x) l (filter_some test xs) where
  at : (b : Bool) → 1 ≤ cond {A = ℕ} b 1 0 + times test xs → (1 ≤ times test xs → (x : Addition) × (rest : List Addition) × (filter test xs ≡ x ∷ rest)) → (y : Addition) × (rest : List Addition) × (cond b (x ∷ filter test xs) (filter test xs) ≡ y ∷ rest)
  at true l go = (x, filter test xs, refl)
  at false l go = go (omega (arith, l))

each_filter : (P : Addition → Type 0) (test : Addition → Bool) (xs : List Addition) → Each P xs → Each P (filter test xs)
each_filter P test [] h = tt
each_filter P test (x ∷ xs) h = at (test x) (each_filter P test xs h.1) where
  at : (b : Bool) → Each P (filter test xs) → Each P (cond b (x ∷ filter test xs) (filter test xs))
  at true r = (h.0, r)
  at false r = r

additions_then : (xs ys : List Placed) → additions_of (xs ++ ys) ≡ additions_of xs ++ additions_of ys
additions_then [] ys = refl
additions_then (x ∷ xs) ys = ap (λ z. additions_at x.session x.context x.entry ++ z) (additions_then xs ys) ∙ sym (append_assoc (additions_at x.session x.context x.entry) (additions_of xs) (additions_of ys))

-- ---- a calm part takes nothing

calm_taking : (action : ℕ) (e : Entry) → is_calm e ≡ true → taking_at action e ≡ []
calm_taking action (says.Take row version) q = absurd (cc)
calm_taking action _ q = refl

calm_takings : (ps : List Placed) → Each (λ (p : Placed). is_calm p.entry ≡ true) ps → takings_of ps ≡ []
calm_takings [] h = refl
calm_takings (p ∷ ps) h = ap (λ z. z ++ takings_of ps) (calm_taking p.context.action p.entry h.0) ∙ calm_takings ps h.1

takings_same : (xs ys : List Placed) → Each (λ (p : Placed). is_calm p.entry ≡ true) ys → takings_of (xs ++ ys) ≡ takings_of xs
takings_same [] ys h = calm_takings ys h
takings_same (x ∷ xs) ys h = ap (λ z. taking_at x.context.action x.entry ++ z) (takings_same xs ys h)

module _ (test : Addition → Bool) (front news : List Placed) (calm : Each (λ (p : Placed). is_calm p.entry ≡ true) news) where
  split : filter test (additions_of (front ++ news)) ≡ filter test (additions_of front) ++ filter test (additions_of news)
  split = ap (filter test) (additions_then front news) ∙ filter_then test (additions_of front) (additions_of news)

  -- what was added before stays
  pub behind_same : 1 ≤ times test (additions_of front) → removal_behind (front ++ news) (filter test (additions_of (front ++ news))) ≡ removal_behind front (filter test (additions_of front))
  behind_same l = by (filter_some test (additions_of front) l) where
    by : (x : Addition) × (rest : List Addition) × (filter test (additions_of front) ≡ x ∷ rest) → removal_behind (front ++ news) (filter test (additions_of (front ++ news))) ≡ removal_behind front (filter test (additions_of front))
    by s =
        ap (removal_behind (front ++ news)) (split ∙ ap (λ z. z ++ filter test (additions_of news)) s.2)
        ∙ (ap (λ (ts : List Taking). action_of (first_taking (s.0).row (s.0).version ts)) (takings_same front news calm)
        ∙ ap (removal_behind front) (sym s.2))

  -- and what is added now, above each take
  abbrev pub IsLate : Addition → Type 0
  IsLate x = first_taking x.row x.version (takings_of front) ≡ None

  pub behind_none : times test (additions_of front) ≡ 0 → Each IsLate (additions_of news) → removal_behind (front ++ news) (filter test (additions_of (front ++ news))) ≡ None
  behind_none z late =
      ap (removal_behind (front ++ news)) (split ∙ ap (λ xs. xs ++ filter test (additions_of news)) (filter_none test (additions_of front) z))
      ∙ by (filter test (additions_of news)) (each_filter IsLate test (additions_of news) late) where
        by : (xs : List Addition) → Each IsLate xs → removal_behind (front ++ news) xs ≡ None
        by [] h = refl
        by (x ∷ xs) h = ap (λ (ts : List Taking). action_of (first_taking x.row x.version ts)) (takings_same front news calm) ∙ ap action_of h.0

-- ---- takes stand at versions that the row had

abbrev IsIn : List Placed → Taking → Type 0
IsIn ps t = 1 ≤ times (is_that (change_at t.row t.version)) (each_of row_change ps)

that_same : (row version : ℕ) → is_that (change_at row version) (change_at row version) ≡ true
that_same row version = grind arith

takes_in : (ps : List Placed) → Each (IsIn ps) (takings_of ps)
takes_in [] = tt
takes_in (p ∷ ps) = at p.entry (each_map (IsIn ps) (λ (t : Taking). 1 ≤ times (is_that (change_at t.row t.version)) (row_change p.entry ++ each_of row_change ps)) (takings_of ps) (λ t l. more (row_change p.entry) t l) (takes_in ps)) where
  more : (front : List Change) (t : Taking) → IsIn ps t → 1 ≤ times (is_that (change_at t.row t.version)) (front ++ each_of row_change ps)
  more front t l = let s : times (is_that (change_at t.row t.version)) (front ++ each_of row_change ps) ≡ times (is_that (change_at t.row t.version)) front + times (is_that (change_at t.row t.version)) (each_of row_change ps) = times_then (is_that (change_at t.row t.version)) front (each_of row_change ps) in omega (arith, s, l)

  first : (row version : ℕ) → 1 ≤ times (is_that (change_at row version)) (change_at row version ∷ each_of row_change ps)
  first row version = rw (that_same row version) (omega arith)

  at : (e : Entry) → Each (λ (t : Taking). 1 ≤ times (is_that (change_at t.row t.version)) (row_change e ++ each_of row_change ps)) (takings_of ps)
      → Each (λ (t : Taking). 1 ≤ times (is_that (change_at t.row t.version)) (row_change e ++ each_of row_change ps)) (taking_at p.context.action e ++ takings_of ps)
  at (says.Take row version) r = (first row version, r)
  at _ r = r

first_none : (row version : ℕ) (ts : List Taking) → Each (λ (t : Taking). t.row ≡ row → t.version ≤ version) ts → first_taking row version ts ≡ None
first_none row version [] h = refl
first_none row version (t ∷ ts) h = at (t.row == row) refl (nat_lt version t.version) refl (first_none row version ts h.1) where
  at : (x : Bool) → (t.row == row) ≡ x → (y : Bool) → nat_lt version t.version ≡ y → first_taking row version ts ≡ None
      → cond ((t.row == row) && nat_lt version t.version) (Some (lower_of t (first_taking row version ts))) (first_taking row version ts) ≡ None
  at true p true q r = absurd (let l : t.version ≤ version = h.0 (eqb-true t.row row p) in over version t.version q l) where
    over : (a b : ℕ) → nat_lt a b ≡ true → b ≤ a → ⊥
    over a b q l = grind (arith, q, l)
  at true p false q r = ap (λ b. cond b (Some (lower_of t (first_taking row version ts))) (first_taking row version ts)) (ap (λ b. b && nat_lt version t.version) p ∙ q) ∙ r
  at false p y q r = ap (λ b. cond b (Some (lower_of t (first_taking row version ts))) (first_taking row version ts)) (ap (λ b. b && nat_lt version t.version) p) ∙ r

-- ---- an addition stands above the versions that its row had as the phase began

abbrev pub AddsAbove : (ℕ → ℕ) → Entry → Type 0
AddsAbove had (says.Add row version) = had row < version
AddsAbove had entry = Unit {0}

abbrev pub had_before : List Placed → ℕ → ℕ → ℕ
had_before all phase row = times (is_of row) (each_of row_change (before_phase phase all))

above_one : (all earlier : List Placed) (p : Placed) (e : Entry) → NamingsKeep all earlier p (namings_of e) → AddsAbove (had_before all p.phase) e
above_one all earlier p (says.Add row version) keep = least _ _ _ version keep.0.0 where
  least : (a b c v : ℕ) → max (max a b) c < v → a < v
  least a b c v l = omega (arith, l)
above_one all earlier p _ keep = tt

pub adds_above : (all earlier ps : List Placed) → AreFlooredBehind all earlier ps → Each (λ (p : Placed). AddsAbove (had_before all p.phase) p.entry) ps
adds_above all earlier [] f = tt
adds_above all earlier (p ∷ ps) f = (above_one all earlier p p.entry f.0, adds_above all (p ∷ earlier) ps f.2)

module _ (front : List Placed) (chained : IsChained (each_of row_change front)) where
  below : (t : Taking) → IsIn front t → (row : ℕ) → t.row ≡ row → t.version ≤ row_version front row
  below t l row e = subst (λ r. t.version ≤ times (is_of r) (each_of row_change front)) e (chain_range (each_of row_change front) chained (change_at t.row t.version) l).1

  late_one : (row version : ℕ) → row_version front row < version → first_taking row version (takings_of front) ≡ None
  late_one row version l = first_none row version (takings_of front) (each_map (IsIn front) (λ (t : Taking). t.row ≡ row → t.version ≤ version) (takings_of front)
      (λ t i e. let h : t.version ≤ row_version front row = below t i row e in omega (arith, h, l)) (takes_in front))

  late_brought : (session : ℕ) (c : Context) (row version : ℕ) (events : List Opened) → row_version front row < version → Each (λ (x : Addition). first_taking x.row x.version (takings_of front) ≡ None) (map (addition session c row version) events)
  late_brought session c row version [] l = tt
  late_brought session c row version (e ∷ es) l = (late_one row version l, late_brought session c row version es l)

  late_entry : (session : ℕ) (c : Context) (e : Entry) → AddsAbove (row_version front) e → Each (λ (x : Addition). first_taking x.row x.version (takings_of front) ≡ None) (additions_at session c e)
  late_entry session c (says.Add row version) l = late_brought session c row version (brought c row) l
  late_entry session c _ l = tt

  pub all_late : (all : List Placed) (phase : ℕ) → before_phase phase all ≡ front → (ps : List Placed) → Each (λ (p : Placed). ((p.phase == phase) ≡ true) × AddsAbove (had_before all p.phase) p.entry) ps
      → Each (λ (x : Addition). first_taking x.row x.version (takings_of front) ≡ None) (additions_of ps)
  all_late all phase early [] h = tt
  all_late all phase early (p ∷ ps) h =
      each_join _ (additions_at p.session p.context p.entry) (additions_of ps)
      (late_entry p.session p.context p.entry (subst (λ (had : ℕ → ℕ). AddsAbove had p.entry) (ap (λ n. λ row. times (is_of row) (each_of row_change (before_phase n all))) (eqb-true p.phase phase h.0.0) ∙ ap (λ ps. λ row. times (is_of row) (each_of row_change ps)) early) h.0.1))
      (all_late all phase early ps h.1)

-- ---- how often lines add an event

module _ (row session index : ℕ) where
  abbrev pub is_own : Addition → Bool
  is_own x = (x.row == row) && ((x.session == session) && (x.event.index == index))

  count_cons : (n x : ℕ) (xs : List ℕ) → count_by (λ y. y == n) (x ∷ xs) ≡ cond (x == n) 1 0 + count_by (λ y. y == n) xs
  count_cons n x xs = sum_by-cons (λ y. cond (y == n) 1 0) x xs

  Counted : ℕ → List Opened → ℕ
  Counted s events = count_by (λ x. x == event_number session index) (map (λ (e : Opened). event_number s e.index) events)

  own_brought : (s : ℕ) (c : Context) (r v : ℕ) (events : List Opened) (b : Bool) → (r == row) ≡ b → times is_own (map (addition s c r v) events) ≡ cond b (count_by (λ x. x == event_number session index) (map (λ (e : Opened). event_number s e.index) events)) 0
  own_brought s c r v [] true q = refl
  own_brought s c r v [] false q = refl
  own_brought s c r v (e ∷ events) false q =
      let h : times is_own (map (addition s c r v) events) ≡ 0 = own_brought s c r v events false q in
      let z : cond {A = ℕ} ((r == row) && ((s == session) && (e.index == index))) 1 0 ≡ 0 = ap (λ b. cond {A = ℕ} (b && ((s == session) && (e.index == index))) 1 0) q in
      omega (arith, h, z)
  own_brought s c r v (e ∷ events) true q =
      let h : times is_own (map (addition s c r v) events) ≡ count_by (λ x. x == event_number session index) (map (λ (e : Opened). event_number s e.index) events) = own_brought s c r v events true q in
      let z : cond {A = ℕ} ((r == row) && ((s == session) && (e.index == index))) 1 0 ≡ cond {A = ℕ} (event_number s e.index == event_number session index) 1 0 =
      ap (λ b. cond {A = ℕ} (b && ((s == session) && (e.index == index))) 1 0) q ∙ ap (λ b. cond {A = ℕ} b 1 0) (sym (number_is s e.index session index)) in
      let k : count_by (λ x. x == event_number session index) (map (λ (e : Opened). event_number s e.index) (e ∷ events))
      ≡ cond (event_number s e.index == event_number session index) 1 0 + count_by (λ x. x == event_number session index) (map (λ (e : Opened). event_number s e.index) events) =
      count_cons (event_number session index) (event_number s e.index) (map (λ (e : Opened). event_number s e.index) events) in
      omega (arith, h, z, k)

  pub own_times : (ps : List Placed) → times is_own (additions_of ps) ≡ times_added (event_number session index) (all_lines ps) row
  own_times [] = refl
  own_times (p ∷ ps) = at p.entry (own_times ps) where
    at : (e : Entry) → times is_own (additions_of ps) ≡ times_added (event_number session index) (all_lines ps) row → times is_own (additions_at p.session p.context e ++ additions_of ps) ≡ times_added (event_number session index) (lines_at p e ++ all_lines ps) row
    at (says.Add r v) h =
        let s : times is_own (map (addition p.session p.context r v) (brought p.context r) ++ additions_of ps) ≡ times is_own (map (addition p.session p.context r v) (brought p.context r)) + times is_own (additions_of ps) =
        times_then is_own (map (addition p.session p.context r v) (brought p.context r)) (additions_of ps) in
        let o : times is_own (map (addition p.session p.context r v) (brought p.context r)) ≡ cond (r == row) (count_by (λ x. x == event_number session index) (map (λ (e : Opened). event_number p.session e.index) (brought p.context r))) 0 =
        own_brought p.session p.context r v (brought p.context r) (r == row) refl in
        omega (arith, s, o, h)
    at (says.Take r v) h = by (r == row) where
      by : (b : Bool) → times is_own (additions_of ps) ≡ cond {A = ℕ} b 0 0 + times_added (event_number session index) (all_lines ps) row
      by true = omega (arith, h)
      by false = omega (arith, h)
    at (says.Give r v from) h = by (r == row) where
      by : (b : Bool) → times is_own (additions_of ps) ≡ cond {A = ℕ} b 0 0 + times_added (event_number session index) (all_lines ps) row
      by true = omega (arith, h)
      by false = omega (arith, h)
    at _ h = h
