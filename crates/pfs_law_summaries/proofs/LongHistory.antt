-- A place of the long history shows the greatest ticket put there since its last release: of each run.
use Rattle.std.proofs.Common.{◌≡◌, refl, ℕ, ◌+◌, ◌<◌, ◌≤◌, ◌==◌, ◌&&◌, max, nat_le, nat_lt, Bool, true, false, not, cond, List, [], ◌∷◌, ◌++◌, Some, None, sym, ap, subst, ◌∙◌, inl, inr, arith}
use Rattle.std.specs.Prelude.{◌⊎◌}
use Rattle.std.proofs.lemmas.Bool.{eqb-true}
use Rattle.pfs_event.specs.declared.entry.Entry.{Entry}
use Rattle.pfs_event.specs.declared.entry.Entry.TheVariants as says
use Rattle.pfs_journal.specs.declared.report.PhaseParts.{PhaseParts}
use Rattle.pfs_model.proofs.ChainGrowth.{times_append}
use Rattle.pfs_model.specs.Actions.{IsAmong}
use Rattle.pfs_model.specs.Chains.{Each, IsChained, change_at, each_of, is_of, is_that, release_of, row_change, times}
use Rattle.pfs_model.specs.Floors.{AreFlooredBehind, NamingsKeep, by_actions, floor_of, greatest, namings_of, rows_known}
use Rattle.pfs_model.specs.EntryPlaces.{Placed, before_phase, by_session, places, up_to_phase}
use Rattle.pfs_model.specs.Rings.{Ticketed, is_kept, shown_at, ticketed_at}
use Rattle.pfs_model.specs.declared.changes.Change.{Change}
use Rattle.pfs_law_summaries.specs.OrderlyRuns.{run_of, KeptLaw, OrderlyLaw}
use Rattle.pfs_runs.specs.PhaseFinals.{IsFinal}
use Rattle.pfs_runs.specs.Labels.{rooms_at, terms_of}
use Rattle.pfs_runs.specs.ScriptLines.{change_in, facts_in}
use Rattle.pfs_runs.specs.Rules.{flags_by}
use Rattle.pfs_runs.specs.Runs.{all_blocks}
use Rattle.pfs_law_conservation.proofs.AdditionFloors.{place_among}
use Rattle.pfs_law_conservation.proofs.RunEntries.{run_own}
use Rattle.pfs_law_conservation.proofs.ConnectSlots.{slot_low}
use Rattle.pfs_law_conservation.proofs.FirstConnects.{IsKnown, IsOwn}
use Rattle.pfs_law_conservation.proofs.EventNumbers.{which}
use Rattle.pfs_law_conservation.specs.Premises.{AreKept, IsOrderly}
use Rattle.pfs_law_conservation.specs.RunTerms.{Run, entries_to}
use Rattle.pfs_law_summaries.proofs.RingChanges.{is_long, sub}
use Rattle.pfs_law_summaries.proofs.EntryYields.{IsGiven, given_as, given_in, given_more, given_out}
use Rattle.pfs_law_summaries.proofs.ReleaseVersions.{releases_had}
use Rattle.pfs_law_summaries.proofs.HistoryPlaces.{last_version}
use Rattle.pfs_law_summaries.proofs.LastVersions.{IsLasting, lasting_shown, shown_lasting}
use Rattle.pfs_law_summaries.proofs.LastPuts.{among_times, in_chain, of_chain}
use Rattle.pfs_law_summaries.proofs.RunSummaries.{final_then}
use Rattle.pfs_law_summaries.specs.LongHistory.{HasLongs, IsGreatestPut, IsPutSince, LongLaw, LongsLaw, ShowsLong, is_long_row, ticketed}
use Rattle.pfs_model.proofs.Members.{among_either}

-- a put is a change
ticket_change : (row version ticket : ℕ) (e : Entry) → IsAmong (ticketed row version ticket) (ticketed_at e) → IsAmong (change_at row version) (row_change e)
ticket_change row version ticket (says.Long at v t) (inl e) = inl (ap (λ (z : Ticketed). change_at z.row z.version) e)
ticket_change row version ticket (says.Long at v t) (inr m) = absurd m
ticket_change row version ticket _ m = absurd m

ticket_changes : (row version ticket : ℕ) (ps : List Placed) → IsAmong (ticketed row version ticket) (each_of ticketed_at ps) → IsAmong (change_at row version) (each_of row_change ps)
ticket_changes row version ticket ps m = given_as ticketed_at row_change (ticketed row version ticket) (change_at row version) (ticket_change row version ticket) ps m

-- one version of a row has one ticket
one_ticket : (row version first second : ℕ) (e : Entry) → IsAmong (ticketed row version first) (ticketed_at e) → IsAmong (ticketed row version second) (ticketed_at e) → first ≡ second
one_ticket row version first second (says.Long at v t) (inl e) (inl f) = sym (ap (λ (z : Ticketed). z.ticket) e) ∙ ap (λ (z : Ticketed). z.ticket) f
one_ticket row version first second (says.Long at v t) (inl e) (inr m) = absurd m
one_ticket row version first second (says.Long at v t) (inr m) f = absurd m
one_ticket row version first second _ m f = absurd m

same_ticket : (row version first second : ℕ) (ps : List Placed) → times (is_that (change_at row version)) (each_of row_change ps) ≤ 1
    → IsAmong (ticketed row version first) (each_of ticketed_at ps) → IsAmong (ticketed row version second) (each_of ticketed_at ps) → first ≡ second
same_ticket row version first second [] l a b = absurd a
same_ticket row version first second (p ∷ ps) l a b =
    on (among_either (ticketed row version first) (ticketed_at p.entry) (each_of ticketed_at ps) a) (among_either (ticketed row version second) (ticketed_at p.entry) (each_of ticketed_at ps) b)
    (same_ticket row version first second ps) where
      both : times (is_that (change_at row version)) (row_change p.entry ++ each_of row_change ps) ≡ times (is_that (change_at row version)) (row_change p.entry) + times (is_that (change_at row version)) (each_of row_change ps)
      both = times_append (is_that (change_at row version)) (row_change p.entry) (each_of row_change ps)

      now : (ticket : ℕ) → IsAmong (ticketed row version ticket) (ticketed_at p.entry) → 1 ≤ times (is_that (change_at row version)) (row_change p.entry)
      now ticket m = among_times row version (row_change p.entry) (ticket_change row version ticket p.entry m)

      later : (ticket : ℕ) → IsAmong (ticketed row version ticket) (each_of ticketed_at ps) → 1 ≤ times (is_that (change_at row version)) (each_of row_change ps)
      later ticket m = among_times row version (each_of row_change ps) (ticket_changes row version ticket ps m)

      twice : (m n : ℕ) → 1 ≤ m → 1 ≤ n → m + n ≤ 1 → ⊥
      twice m n a b c = omega (arith, a, b, c)

      few : times (is_that (change_at row version)) (row_change p.entry) + times (is_that (change_at row version)) (each_of row_change ps) ≤ 1
      few = subst (λ n. n ≤ 1) both l

      on : IsAmong (ticketed row version first) (ticketed_at p.entry) ⊎ IsAmong (ticketed row version first) (each_of ticketed_at ps)
          → IsAmong (ticketed row version second) (ticketed_at p.entry) ⊎ IsAmong (ticketed row version second) (each_of ticketed_at ps)
          → (times (is_that (change_at row version)) (each_of row_change ps) ≤ 1 → IsAmong (ticketed row version first) (each_of ticketed_at ps) → IsAmong (ticketed row version second) (each_of ticketed_at ps) → first ≡ second) → first ≡ second
      on (inl a) (inl b) go = one_ticket row version first second p.entry a b
      on (inl a) (inr b) go = absurd (twice _ _ (now first a) (later second b) few)
      on (inr a) (inl b) go = absurd (twice _ _ (now second b) (later first a) few)
      on (inr a) (inr b) go = go (small _ _ few) a b where
        small : (m n : ℕ) → m + n ≤ 1 → n ≤ 1
        small m n k = omega (arith, k)

-- at most one change of a chain is at a version
chained_once : (row version : ℕ) (xs : List Change) → IsChained xs → times (is_that (change_at row version)) xs ≤ 1
chained_once row version xs chain = subst (λ n. n ≤ 1) (sym (chain (change_at row version))) (at (nat_lt 0 version && nat_le version (times (is_of row) xs))) where
  at : (b : Bool) → cond {A = ℕ} b 1 0 ≤ 1
  at true = omega arith
  at false = omega arith

-- ---- releases

abbrev is_at_or_above : ℕ → ℕ → Change → Bool
is_at_or_above row low release = (release.row == row) && nat_le low release.version

abbrev is_between : ℕ → ℕ → ℕ → Change → Bool
is_between row low high release = (release.row == row) && nat_le low release.version && nat_lt release.version high

zero_plus : (n : ℕ) → 0 + n ≡ 0 → n ≡ 0
zero_plus n z = omega (arith, z)

plus_zero : (n : ℕ) → n ≡ 0 → 0 + n ≡ 0
plus_zero n z = omega (arith, z)

before_more : (phase at row : ℕ) → phase < at → (ps : List Placed) → last_version (up_to_phase phase ps) row ≤ times (is_of row) (each_of row_change (before_phase at ps))
before_more phase at row l [] = omega arith
before_more phase at row l (p ∷ ps) = on (nat_le p.phase phase) refl (nat_lt p.phase at) refl (before_more phase at row l ps) where
  a : times (is_of row) (row_change p.entry ++ each_of row_change (up_to_phase phase ps)) ≡ times (is_of row) (row_change p.entry) + last_version (up_to_phase phase ps) row
  a = times_append (is_of row) (row_change p.entry) (each_of row_change (up_to_phase phase ps))

  b : times (is_of row) (row_change p.entry ++ each_of row_change (before_phase at ps)) ≡ times (is_of row) (row_change p.entry) + times (is_of row) (each_of row_change (before_phase at ps))
  b = times_append (is_of row) (row_change p.entry) (each_of row_change (before_phase at ps))

  apart : (x y z : ℕ) → nat_le x y ≡ true → y < z → nat_lt x z ≡ true
  apart x y z q k = grind (arith, q, k)

  on : (x : Bool) → nat_le p.phase phase ≡ x → (y : Bool) → nat_lt p.phase at ≡ y → last_version (up_to_phase phase ps) row ≤ times (is_of row) (each_of row_change (before_phase at ps))
      → last_version (cond x (p ∷ []) [] ++ up_to_phase phase ps) row ≤ times (is_of row) (each_of row_change (cond y (p ∷ []) [] ++ before_phase at ps))
  on true q true r ih = omega (arith, a, b, ih)
  on true q false r ih = absurd (let k : true ≡ false = sym (apart p.phase phase at q l) ∙ r in cc)
  on false q true r ih = omega (arith, b, ih)
  on false q false r ih = ih

-- a release behind the phase is at the row's last version by then or above
none_between : (phase row low high : ℕ) (all earlier ps : List Placed) → AreFlooredBehind all earlier ps → high ≤ last_version (up_to_phase phase all) row
    → times (is_at_or_above row low) (each_of release_of (up_to_phase phase ps)) ≡ 0 → times (is_between row low high) (each_of release_of ps) ≡ 0
none_between phase row low high all earlier [] f h z = refl
none_between phase row low high all earlier (p ∷ ps) f h z = on (nat_le p.phase phase) refl z (none_between phase row low high all (p ∷ earlier) ps f.2 h) where
  later : (x y : ℕ) → nat_le x y ≡ false → y < x
  later x y q = grind (arith, q)

  outside : (v : ℕ) → high ≤ v → nat_lt v high ≡ false
  outside v l = grind (arith, l)

  none_if : (a b : Bool) → (a && b && false) ≡ false
  none_if true true = refl
  none_if true false = refl
  none_if false true = refl
  none_if false false = refl

  past : (a b c v : ℕ) → max (max a b) c ≤ v → a ≤ v
  past a b c v l = omega (arith, l)

  -- what is released within the phases
  within : (a b c : Bool) (m n : ℕ) → cond {A = ℕ} (a && b) 1 0 + m ≡ 0 → (m ≡ 0 → n ≡ 0) → cond {A = ℕ} (a && b && c) 1 0 + n ≡ 0
  within true true c m n z go = absurd (omega (arith, z))
  within true false c m n z go = plus_zero n (go (zero_plus m z))
  within false true c m n z go = plus_zero n (go (zero_plus m z))
  within false false c m n z go = plus_zero n (go (zero_plus m z))

  by : (e : Entry) (m : List Change) (n : List Change) → times (is_at_or_above row low) (release_of e ++ m) ≡ 0 → (times (is_at_or_above row low) m ≡ 0 → times (is_between row low high) n ≡ 0) → times (is_between row low high) (release_of e ++ n) ≡ 0
  by (says.Free at v) m n z go = within (at == row) (nat_le low v) (nat_lt v high) (times (is_at_or_above row low) m) (times (is_between row low high) n) z go
  by _ m n z go = go z

  -- and what behind them
  over : (e : Entry) (n : List Change) → phase < p.phase → NamingsKeep all earlier p (namings_of e) → times (is_between row low high) n ≡ 0 → times (is_between row low high) (release_of e ++ n) ≡ 0
  over (says.Free at v) n l k z = step (at == row) refl where
    above : (at == row) ≡ true → high ≤ v
    above q =
        let g : floor_of all earlier p at ≤ v = k.0 in
        let t : times (is_of at) (each_of row_change (before_phase p.phase all)) ≤ v = past (times (is_of at) (each_of row_change (before_phase p.phase all))) (greatest at (each_of rows_known (by_session p.session earlier))) (greatest at (each_of row_change (by_actions p.context.done all))) v g in
        let t2 : times (is_of row) (each_of row_change (before_phase p.phase all)) ≤ v = subst (λ r. times (is_of r) (each_of row_change (before_phase p.phase all)) ≤ v) (eqb-true at row q) t in
        let b : last_version (up_to_phase phase all) row ≤ times (is_of row) (each_of row_change (before_phase p.phase all)) = before_more phase p.phase row l all in
        omega (arith, h, t2, b)

    step : (b : Bool) → (at == row) ≡ b → cond {A = ℕ} ((at == row) && nat_le low v && nat_lt v high) 1 0 + times (is_between row low high) n ≡ 0
    step true q = ap (λ c. cond {A = ℕ} ((at == row) && nat_le low v && c) 1 0 + times (is_between row low high) n) (outside v (above q)) ∙ (ap (λ c. cond {A = ℕ} c 1 0 + times (is_between row low high) n) (none_if (at == row) (nat_le low v)) ∙ plus_zero (times (is_between row low high) n) z)
    step false q = ap (λ c. cond {A = ℕ} (c && nat_le low v && nat_lt v high) 1 0 + times (is_between row low high) n) q ∙ (ap (λ c. cond {A = ℕ} c 1 0 + times (is_between row low high) n) (apart (nat_le low v) (nat_lt v high)) ∙ plus_zero (times (is_between row low high) n) z) where
      apart : (x y : Bool) → (false && x && y) ≡ false
      apart true true = refl
      apart true false = refl
      apart false true = refl
      apart false false = refl
  over _ n l k z = z

  on : (b : Bool) → nat_le p.phase phase ≡ b → times (is_at_or_above row low) (each_of release_of (cond b (p ∷ []) [] ++ up_to_phase phase ps)) ≡ 0
      → (times (is_at_or_above row low) (each_of release_of (up_to_phase phase ps)) ≡ 0 → times (is_between row low high) (each_of release_of ps) ≡ 0) → times (is_between row low high) (release_of p.entry ++ each_of release_of ps) ≡ 0
  on true q z go = by p.entry (each_of release_of (up_to_phase phase ps)) (each_of release_of ps) z go
  on false q z go = over p.entry (each_of release_of ps) (later p.phase phase q) f.0 (go z)

zero_of : (n : ℕ) → (n == 0) ≡ true → n ≡ 0
zero_of n q = eqb-true n 0 q

-- what no release is above at a version, none is above at a later one
kept_later : (row low high : ℕ) → low ≤ high → (rs : List Change) → times (is_at_or_above row low) rs ≡ 0 → times (is_at_or_above row high) rs ≡ 0
kept_later row low high l [] z = refl
kept_later row low high l (r ∷ rs) z = on (r.row == row) (nat_le low r.version) refl (nat_le high r.version) refl z (kept_later row low high l rs) where
  less : (v : ℕ) → nat_le low v ≡ false → nat_le high v ≡ true → ⊥
  less v q k = grind (arith, q, k, l)

  on : (a b : Bool) → nat_le low r.version ≡ b → (c : Bool) → nat_le high r.version ≡ c → cond {A = ℕ} (a && b) 1 0 + times (is_at_or_above row low) rs ≡ 0
      → (times (is_at_or_above row low) rs ≡ 0 → times (is_at_or_above row high) rs ≡ 0) → cond {A = ℕ} (a && c) 1 0 + times (is_at_or_above row high) rs ≡ 0
  on true true p c q z go = absurd (omega (arith, z))
  on true false p true q z go = absurd (less r.version p q)
  on true false p false q z go = plus_zero (times (is_at_or_above row high) rs) (go (zero_plus (times (is_at_or_above row low) rs) z))
  on false b p c q z go = plus_zero (times (is_at_or_above row high) rs) (go (zero_plus (times (is_at_or_above row low) rs) z))

-- ---- of a run

long_low : (row : ℕ) → is_long_row row ≡ true → 10242 ≤ row
long_low row q = on (nat_le 10242 row) refl (sym q) where
  above : (low row : ℕ) → nat_le low row ≡ true → low ≤ row
  above low row q = grind arith

  on : (a : Bool) → nat_le 10242 row ≡ a → true ≡ nat_le 10242 row && nat_lt row 14242 → 10242 ≤ row
  on true a e = above 10242 row a
  on false a e = absurd (let f : true ≡ false = e ∙ ap (λ z. z && nat_lt row 14242) a in cc)

module _ (run : Run) (kept : AreKept run) (orderly : IsOrderly run) (phase row : ℕ) (low : 10242 ≤ row) where
  chain : IsChained (each_of row_change (entries_to run phase))
  chain = kept.rules.joint.rows phase

  had : Each (λ (release : Change). release.row ≡ row → release.version ≤ last_version (entries_to run phase) row) (each_of release_of (entries_to run phase))
  had = releases_had phase row (places run.blocks) [] (places run.blocks) kept.rules.joint.floored

  -- a session's slot is one of 32
  few : (p : Placed) → IsAmong p (entries_to run phase) → (own : ℕ) → p.context.slot ≡ Some own → own < 32
  few p m own e =
      on (place_among (λ (z : Placed). (z.session == p.session) ≡ true → IsOwn p.session (rooms_at run.setting run.change run.labels) (entries_to run phase) z) p (entries_to run phase) m (run_own run kept orderly phase p.session) (eq_self p.session)).known where
        eq_self : (n : ℕ) → (n == n) ≡ true
        eq_self n = grind arith

        on : IsKnown p.session (rooms_at run.setting run.change run.labels) (entries_to run phase) p.context → own < 32
        on (inl n) = absurd (let z : None ≡ Some own = sym n ∙ e in cc)
        on (inr (action, t)) =
            let l : own < run.setting.limits.thread_instances = slot_low run.setting run.change run.labels action own (ap (λ z. z.thread) t.found ∙ e) in
            let m : run.setting.limits.thread_instances ≤ 32 = run.setting.in_range.thread_instances in
            omega (arith, l, m)

  -- each change of the place is a put
  puts : (version : ℕ) → IsAmong (change_at row version) (each_of row_change (entries_to run phase)) → (ticket : ℕ) × IsAmong (ticketed row version ticket) (each_of ticketed_at (entries_to run phase))
  puts version m =
      let g : IsGiven row_change (change_at row version) (entries_to run phase) = given_out row_change (change_at row version) (entries_to run phase) m in
      let e : (ticket : ℕ) × (g.place.entry ≡ says.Long row version ticket) = is_long run kept orderly phase g.place g.among (few g.place g.among) row version low g.gives in
      (e.0, given_in ticketed_at (ticketed row version e.0) g.place (entries_to run phase) g.among (subst (λ z. IsAmong (ticketed row version e.0) (ticketed_at z)) (sym e.1) (inl refl)))

  range : (version ticket : ℕ) → IsAmong (ticketed row version ticket) (each_of ticketed_at (entries_to run phase)) → (1 ≤ version) × (version ≤ last_version (entries_to run phase) row)
  range version ticket m = in_chain row version (each_of row_change (entries_to run phase)) chain (ticket_changes row version ticket (entries_to run phase) m)

  top : 1 ≤ last_version (entries_to run phase) row → (ticket : ℕ) × IsAmong (ticketed row (last_version (entries_to run phase) row) ticket) (each_of ticketed_at (entries_to run phase))
  top l = puts (last_version (entries_to run phase) row) (of_chain row (last_version (entries_to run phase) row) (each_of row_change (entries_to run phase)) chain l (omega arith))

  -- of two puts since the last release the later one has the greater ticket
  rises : (first one second other : ℕ) → IsPutSince (entries_to run phase) row first one → IsAmong (ticketed row second other) (each_of ticketed_at (entries_to run phase)) → first < second → one < other
  rises first one second other p m l =
      kept.rules.risen (ticketed row first one) (ticketed row second other)
      (given_more ticketed_at (ticketed row first one) (entries_to run phase) (places run.blocks) (sub run kept orderly phase) p.put)
      (given_more ticketed_at (ticketed row second other) (entries_to run phase) (places run.blocks) (sub run kept orderly phase) m)
      refl l
      (ap (λ n. not (n == 0)) (none_between phase row first second (places run.blocks) [] (places run.blocks) kept.rules.joint.floored (range second other m).1 (zero_of (times (is_at_or_above row first) (each_of release_of (entries_to run phase))) p.kept)))

  greatest_put : (version : ℕ) → IsLasting (entries_to run phase) row version → (ticket : ℕ) × IsGreatestPut (entries_to run phase) row version ticket
  greatest_put version s = (t.0, record { put = record { put = t.1; kept = s.kept }; greatest = least }) where
    t : (ticket : ℕ) × IsAmong (ticketed row version ticket) (each_of ticketed_at (entries_to run phase))
    t = subst (λ n. (ticket : ℕ) × IsAmong (ticketed row n ticket) (each_of ticketed_at (entries_to run phase))) (sym s.last) (top (subst (λ n. 1 ≤ n) s.last s.positive))

    least : (at other : ℕ) → IsPutSince (entries_to run phase) row at other → other ≤ t.0
    least at other p = on (which version at) where
      on : (version ≤ at) ⊎ (at < version) → other ≤ t.0
      on (inr l) = let k : other < t.0 = rises at other version t.0 p t.1 l in omega (arith, k)
      on (inl l) =
          let h : at ≤ last_version (entries_to run phase) row = (range at other p.put).1 in
          let e : version ≡ last_version (entries_to run phase) row = s.last in
          let q : at ≡ version = omega (arith, h, e, l) in
          let k : other ≡ t.0 = same_ticket row version other t.0 (entries_to run phase) (chained_once row version (each_of row_change (entries_to run phase)) chain) (subst (λ n. IsAmong (ticketed row n other) (each_of ticketed_at (entries_to run phase))) q p.put) t.1 in
          omega (arith, k)

  stands : (version ticket : ℕ) → IsGreatestPut (entries_to run phase) row version ticket → shown_at (entries_to run phase) row ≡ Some version
  stands version ticket p = lasting_shown (entries_to run phase) row (omega (arith, low)) had version (same (which (last_version (entries_to run phase) row) version)) (range version ticket p.put.put).0 p.put.kept where
    same : (last_version (entries_to run phase) row ≤ version) ⊎ (version < last_version (entries_to run phase) row) → version ≡ last_version (entries_to run phase) row
    same (inl l) = let h : version ≤ last_version (entries_to run phase) row = (range version ticket p.put.put).1 in omega (arith, h, l)
    same (inr l) = absurd (let k : ticket < t.0 = rises version ticket (last_version (entries_to run phase) row) t.0 p.put t.1 l in let g : t.0 ≤ ticket = p.greatest (last_version (entries_to run phase) row) t.0 (record { put = t.1; kept = still }) in omega (arith, k, g)) where
      t : (ticket : ℕ) × IsAmong (ticketed row (last_version (entries_to run phase) row) ticket) (each_of ticketed_at (entries_to run phase))
      t = top (omega (arith, l))

      still : is_kept (each_of release_of (entries_to run phase)) (change_at row (last_version (entries_to run phase) row)) ≡ true
      still = ap (λ n. n == 0) (kept_later row version (last_version (entries_to run phase) row) (omega (arith, l)) (each_of release_of (entries_to run phase)) (zero_of (times (is_at_or_above row version) (each_of release_of (entries_to run phase))) p.put.kept))

  pub shows_long : (version : ℕ) → ShowsLong (entries_to run phase) row version
  shows_long version = record {
    greatest = λ s. greatest_put version (shown_lasting (entries_to run phase) row (omega (arith, low)) had version s);
    shown = λ ticket p. stands version ticket p;
  }

pub long_law : LongLaw
long_law run phase kept orderly row own version = shows_long run kept orderly phase row (long_low row own) version

-- of each script
pub longs_law : KeptLaw → OrderlyLaw → LongLaw → LongsLaw
longs_law kept orderly long text setting phases report script run =
    final_then _ _ report.phases one run.finals where
      one : (part : PhaseParts) → IsFinal (run_of setting phases report run).setting (run_of setting phases report run).change run.labels run.content (flags_by (terms_of setting (change_in phases) (facts_in phases) run.labels) (places (all_blocks run.blocks))) (entries_to (run_of setting phases report run) part.number) part
          → HasLongs (run_of setting phases report run) part
      one part final row version own =
          long (run_of setting phases report run) part.number (kept setting phases report run) (orderly text setting phases report script run) row own version
