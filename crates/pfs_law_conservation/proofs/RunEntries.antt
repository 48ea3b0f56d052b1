-- What is known of the entries of a run up to a phase's end.
use Rattle.std.proofs.Common.{◌≡◌, refl, ℕ, zero, suc, ◌+◌, ◌-◌, ◌<◌, ◌≤◌, ◌==◌, Bool, true, false, cond, nat_le, List, [], ◌∷◌, ◌++◌, length, Option, Some, None, sym, ap, subst, ◌∙◌, inl, inr, arith}
use Rattle.std.specs.Prelude.{slice_get, ◌&&◌, IfSome}
use Rattle.std.proofs.lemmas.Bool.{eqb-true}
use Rattle.pfs_model.proofs.EachLists.{each_join}
use Rattle.pfs_conservation.specs.PrintedChanges.{times_added}
use Rattle.pfs_event.specs.Verdicts.{is_let_through}
use Rattle.pfs_event.specs.declared.entry.Entry.{Entry}
use Rattle.pfs_event.specs.declared.entry.Entry.TheVariants as says
use Rattle.pfs_model.specs.Actions.{IsAmong, numbers_by, AllAbove, AreRising}
use Rattle.pfs_model.specs.ActionAsks.{Rooms, Answer, IsAnswered, AreAnswered}
use Rattle.pfs_model.specs.EntryAsks.{digest_row}
use Rattle.pfs_model.specs.Chains.{Each, times, change_at, action_change, each_of, is_of, is_that}
use Rattle.pfs_model.specs.Contexts.{fresh}
use Rattle.pfs_model.specs.EntryPlaces.{Block, Placed, places}
use Rattle.pfs_model.specs.Puts.{AreBroughtBehind}
use Rattle.pfs_model.specs.SetupFlags.{is_digested}
use Rattle.pfs_model.specs.declared.changes.Change.{Change}
use Rattle.pfs_model.specs.declared.lines.Subject.{Subject}
use Rattle.pfs_model.proofs.ChainGrowth.{times_append}
use Rattle.pfs_runs.specs.Labels.{answers_at, label_at, rooms_at}
use Rattle.pfs_law_conservation.specs.RunEvents.{event_number, Ended, number_of, ended_at, ended_first, all_ended}
use Rattle.pfs_law_conservation.specs.Premises.{AreKept, IsOrderly, AreFirstBehind, AreLastBehind, IsActionOf, IsSmall, IsTexted, is_closed}
use Rattle.pfs_law_conservation.specs.RunTerms.{Run, entries_to}
use Rattle.pfs_law_conservation.specs.KindLines.{all_lines}
use Rattle.pfs_law_conservation.proofs.AdditionCounts.{AreWhole, counts_are, ended_once}
use Rattle.pfs_law_conservation.proofs.AdditionFloors.{IsOver, all_over, each_chosen}
use Rattle.pfs_law_conservation.proofs.PhaseEntries.{blocks_to, IsFront, fronts, front_shaped, each_front}
use Rattle.pfs_law_conservation.proofs.IdleAdditions.{IsIdle, all_idle}
use Rattle.pfs_law_conservation.proofs.SingleQuits.{AreActing}
use Rattle.pfs_law_conservation.proofs.HomeRows.{IsLowEnded, home_low, IsLowEntry, all_lines_of, by_sessions, all_low, ended_low}
use Rattle.pfs_law_conservation.proofs.ConnectSlots.{slot_low}
use Rattle.pfs_law_conservation.proofs.EndedSubjects.{all_subjects, ended_subjects}
use Rattle.pfs_law_conservation.proofs.FirstConnects.{IsKnown, IsOwn, all_told}
use Rattle.pfs_law_conservation.proofs.EntryWalk.{Follow, all_followed}
use Rattle.pfs_law_conservation.proofs.LineVersions.{that_self, chain_range}
use Rattle.pfs_law_conservation.proofs.EventNumbers.{times_ended}
use Rattle.pfs_law_conservation.proofs.ConnectLines.{IsApart, all_apart}
use Rattle.pfs_law_conservation.proofs.EventOffers.{home_row, comes_to, comes_beside, brought_front, AreNear, all_near}
use Rattle.pfs_law_conservation.proofs.ActionJournals.{HasNumber, all_said}
use Rattle.pfs_law_conservation.proofs.ActionJournals.{zero_rows}
use Rattle.pfs_law_conservation.proofs.RowLines.{bit_no, bit_yes}
use Rattle.pfs_model.proofs.Members.{among_front}

-- what holds of all entries holds of the first of them
answered_front : (rooms : ℕ → Rooms) (answers : ℕ → Answer) (xs ys : List Placed) → AreAnswered rooms answers (xs ++ ys) → AreAnswered rooms answers xs
answered_front rooms answers [] ys a = tt
answered_front rooms answers (x ∷ xs) ys a = (a.0, answered_front rooms answers xs ys a.1)

first_front : (earlier xs ys : List Placed) → AreFirstBehind earlier (xs ++ ys) → AreFirstBehind earlier xs
first_front earlier [] ys a = tt
first_front earlier (x ∷ xs) ys a = (a.0, first_front (x ∷ earlier) xs ys a.1)

last_front : (earlier xs ys : List Placed) → AreLastBehind earlier (xs ++ ys) → AreLastBehind earlier xs
last_front earlier [] ys a = tt
last_front earlier (x ∷ xs) ys a = (a.0, last_front (x ∷ earlier) xs ys a.1)

assoc : (xs ys zs : List Change) → xs ++ (ys ++ zs) ≡ (xs ++ ys) ++ zs
assoc [] ys zs = refl
assoc (x ∷ xs) ys zs = ap (λ (z : List Change). x ∷ z) (assoc xs ys zs)

pub numbers_then : (session : ℕ) (xs ys : List Placed) → numbers_by session (xs ++ ys) ≡ numbers_by session xs ++ numbers_by session ys
numbers_then session [] ys = refl
numbers_then session (x ∷ xs) ys = ap (λ (z : List Change). cond (x.session == session) (action_change x.entry) [] ++ z) (numbers_then session xs ys) ∙ assoc (cond (x.session == session) (action_change x.entry) []) (numbers_by session xs) (numbers_by session ys)

above_front : (number : ℕ) (xs ys : List Change) → AllAbove number (xs ++ ys) → AllAbove number xs
above_front number [] ys a = tt
above_front number (x ∷ xs) ys a = (a.0, above_front number xs ys a.1)

rising_front : (xs ys : List Change) → AreRising (xs ++ ys) → AreRising xs
rising_front [] ys r = tt
rising_front (x ∷ xs) ys r = (above_front x.version xs ys r.0, rising_front xs ys r.1)

each_front_of : (P : Placed → Type 0) (xs ys : List Placed) → Each P (xs ++ ys) → Each P xs
each_front_of P [] ys h = tt
each_front_of P (x ∷ xs) ys h = (h.0, each_front_of P xs ys h.1)

-- a number of a session is one of all
head_counted : (session : ℕ) (x : Change) (more : List Change) (ps : List Placed) → is_that x x ≡ true → numbers_by session ps ≡ x ∷ more → 1 ≤ times (is_that x) (each_of action_change ps)
head_counted session x more [] t e = absurd (cc)
head_counted session x more (p ∷ ps) t e = at (cond (p.session == session) (action_change p.entry) []) refl (times_append (is_that x) (action_change p.entry) (each_of action_change ps)) e (λ k. head_counted session x more ps t k) where
  own : (b : Bool) (c : Change) (cs : List Change) → cond b (action_change p.entry) [] ≡ c ∷ cs → action_change p.entry ≡ c ∷ cs
  own true c cs q = q
  own false c cs q = absurd (cc)

  at : (zs : List Change) → cond (p.session == session) (action_change p.entry) [] ≡ zs → times (is_that x) (action_change p.entry ++ each_of action_change ps) ≡ times (is_that x) (action_change p.entry) + times (is_that x) (each_of action_change ps)
      → zs ++ numbers_by session ps ≡ x ∷ more → (numbers_by session ps ≡ x ∷ more → 1 ≤ times (is_that x) (each_of action_change ps)) → 1 ≤ times (is_that x) (action_change p.entry ++ each_of action_change ps)
  at [] q a e go = (let l : 1 ≤ times (is_that x) (each_of action_change ps) = go e in omega (arith, a, l))
  at (c ∷ cs) q a e go =
      let s : c ≡ x = first c x (cs ++ numbers_by session ps) more e in
      let f : times (is_that x) (action_change p.entry) ≡ cond {A = ℕ} (is_that x c) 1 0 + times (is_that x) cs = ap (times (is_that x)) (own (p.session == session) c cs q) in
      let o : cond {A = ℕ} (is_that x c) 1 0 ≡ 1 = bit_yes (is_that x c) (subst (λ z. is_that x z ≡ true) (sym s) t) in
      omega (arith, a, f, o) where
        first : (a b : Change) (xs ys : List Change) → a ∷ xs ≡ b ∷ ys → a ≡ b
        first a b xs ys q = cc

low_entries : (rooms : ℕ → Rooms) (answers : ℕ → Answer) (ps : List Placed) → ((number slot : ℕ) → (rooms number).thread ≡ Some slot → slot < 32) → AreAnswered rooms answers ps → Each (λ (p : Placed). IsLowEntry p.entry) ps
low_entries rooms answers [] h a = tt
low_entries rooms answers (p ∷ ps) h a = (by p.entry a.0, low_entries rooms answers ps h a.1) where
  by : (e : Entry) → IsAnswered rooms answers p e → IsLowEntry e
  by (says.Connect action None account user host) r = tt
  by (says.Connect action (Some slot) account user host) r = h action slot (ap (λ (z : Rooms). z.thread) r)
  by _ r = tt

both_each : (P Q : Placed → Type 0) (ps : List Placed) → Each P ps → Each Q ps → Each (λ (p : Placed). P p × Q p) ps
both_each P Q [] a b = tt
both_each P Q (p ∷ ps) a b = ((a.0, b.0), both_each P Q ps a.1 b.1)

known_ended : (rooms : ℕ → Rooms) (whole ps : List Placed) → Each (λ (p : Placed). IsOwn p.session rooms whole p) ps → Each (λ (one : Ended). IsKnown one.session rooms whole one.context) (all_ended ps)
known_ended rooms whole [] h = tt
known_ended rooms whole (p ∷ ps) h = each_join (λ (one : Ended). IsKnown one.session rooms whole one.context) (ended_at p p.entry) (all_ended ps) (by p.entry) (known_ended rooms whole ps h.1) where
  first : (events : List Rattle.pfs_model.specs.declared.lines.Opened.Opened) → Each (λ (one : Ended). IsKnown one.session rooms whole one.context) (ended_first p events)
  first [] = tt
  first (event ∷ events) = (h.0.known, tt)

  by : (e : Entry) → Each (λ (one : Ended). IsKnown one.session rooms whole one.context) (ended_at p e)
  by (says.End event last consumers thread) = first p.context.opened
  by _ = tt

none : (a b c : Bool) → c ≡ false → (a && (b && c)) ≡ false
none true true true q = absurd (cc)
none true true false q = refl
none true false c q = refl
none false b c q = refl

-- what comes by a digest comes to no row of a cell
none_beside : (flags : ℕ → ℕ → ℕ) (number row : ℕ) → row < 8385 → (xs : List Ended) → times (comes_beside flags number row) xs ≡ 0
none_beside flags number row low [] = refl
none_beside flags number row low (x ∷ xs) =
    let e : cond {A = ℕ} (comes_beside flags number row x) 1 0 ≡ 0 = bit_no (comes_beside flags number row x) (none (number_of x == number) (is_digested flags x.context.slot x.event) (digest_row x.event.subject.digest == row) (away x.event.subject.digest)) in
    let ih : times (comes_beside flags number row) xs ≡ 0 = none_beside flags number row low xs in
    omega (arith, e, ih) where
      apart : (a : ℕ) → 8385 ≤ a → (a == row) ≡ false
      apart a l = grind (arith, l, low)

      away : (digest : Option ℕ) → (digest_row digest == row) ≡ false
      away None = apart 8385 (omega arith)
      away (Some digest) = apart (8386 + digest) (omega arith)

-- and what comes by its cell to no row of a digest
none_home : (number row : ℕ) → 8385 ≤ row → (xs : List Ended) → Each IsLowEnded xs → times (comes_to number row) xs ≡ 0
none_home number row high [] h = refl
none_home number row high (x ∷ xs) h =
    let e : cond {A = ℕ} (comes_to number row x) 1 0 ≡ 0 = bit_no (comes_to number row x) (none (number_of x == number) (is_let_through x.event.verdict) (home_row x == row) (apart (home_row x) row (home_low x h.0) high)) in
    let ih : times (comes_to number row) xs ≡ 0 = none_home number row high xs h.1 in
    omega (arith, e, ih) where
      apart : (a b : ℕ) → a < 8385 → 8385 ≤ b → (a == b) ≡ false
      apart a b l m = grind (arith, l, m)

-- a digest that has a place has one of so many
abbrev pub HasText : ℕ → Subject → Type 0
HasText places subject = IfSome subject.digest (λ place. place < places)

own_move : (session : ℕ) (rooms : ℕ → Rooms) (whole : List Placed) (p : Placed) → p.session ≡ session → IsOwn session rooms whole p → IsOwn p.session rooms whole p
own_move session rooms whole p e o = subst (λ s. IsOwn s rooms whole p) (sym e) o

module _ (run : Run) (kept : AreKept run) (orderly : IsOrderly run) (phase : ℕ) where
  front : IsFront phase [] run.blocks
  front = fronts phase run.blocks kept.rules.shaped

  whole : AreWhole run.flags (blocks_to phase run.blocks)
  whole = record {
    shaped = front_shaped phase run.blocks kept.rules.shaped;
    closed = each_front (λ (block : Block). is_closed block.lines ≡ true) phase run.blocks orderly.closed;
    brought = brought_front run.flags [] (places (blocks_to phase run.blocks)) front.rest front.headed (subst (AreBroughtBehind run.flags []) front.all kept.brought);
  }

  -- all entries begin with those up to there
  split : places run.blocks ≡ entries_to run phase ++ front.rest
  split = front.all ∙ ap (λ z. z ++ front.rest) (sym front.same)

  run_comes : (session index row : ℕ) → times_added (event_number session index) (all_lines (entries_to run phase)) row
      ≡ times (comes_to (event_number session index) row) (all_ended (entries_to run phase)) + times (comes_beside run.flags (event_number session index) row) (all_ended (entries_to run phase))
  run_comes session index row =
      subst (λ ps. times_added (event_number session index) (all_lines ps) row ≡ times (comes_to (event_number session index) row) (all_ended ps) + times (comes_beside run.flags (event_number session index) row) (all_ended ps)) (sym front.same)
      (counts_are run.flags (blocks_to phase run.blocks) whole session index row)

  -- to the row of a cell events come by their cell alone
  pub run_counts : (session index row : ℕ) → row < 8385 → times_added (event_number session index) (all_lines (entries_to run phase)) row ≡ times (comes_to (event_number session index) row) (all_ended (entries_to run phase))
  run_counts session index row low =
      let c : times_added (event_number session index) (all_lines (entries_to run phase)) row ≡ times (comes_to (event_number session index) row) (all_ended (entries_to run phase)) + times (comes_beside run.flags (event_number session index) row) (all_ended (entries_to run phase)) = run_comes session index row in
      let z : times (comes_beside run.flags (event_number session index) row) (all_ended (entries_to run phase)) ≡ 0 = none_beside run.flags (event_number session index) row low (all_ended (entries_to run phase)) in
      omega (arith, c, z)

  pub run_once : (session index : ℕ) → times_ended (event_number session index) (all_ended (entries_to run phase)) ≤ 1
  run_once session index = subst (λ ps. times_ended (event_number session index) (all_ended ps) ≤ 1) (sym front.same) (ended_once (blocks_to phase run.blocks) session index)

  pub run_follow : (session : ℕ) → Follow session fresh (entries_to run phase)
  run_follow session = subst (Follow session fresh) (sym front.same) (all_followed session (blocks_to phase run.blocks)).follow

  run_answered : AreAnswered (rooms_at run.setting run.change run.labels) (answers_at run.setting run.change run.labels) (entries_to run phase)
  run_answered = answered_front (rooms_at run.setting run.change run.labels) (answers_at run.setting run.change run.labels) (entries_to run phase) front.rest (subst (AreAnswered (rooms_at run.setting run.change run.labels) (answers_at run.setting run.change run.labels)) split kept.rules.answered)

  -- cells and slots are low
  run_low : Each IsLowEnded (all_ended (entries_to run phase))
  run_low = ended_low (entries_to run phase) (all_low (entries_to run phase) run_follow
      (both_each (λ (p : Placed). IsSmall p.line) (λ (p : Placed). IsLowEntry p.entry) (entries_to run phase)
      (each_front_of (λ (p : Placed). IsSmall p.line) (entries_to run phase) front.rest (subst (Each (λ (p : Placed). IsSmall p.line)) split (all_lines_of IsSmall run.blocks orderly.small)))
      (low_entries (rooms_at run.setting run.change run.labels) (answers_at run.setting run.change run.labels) (entries_to run phase) slots run_answered))) where
        slots : (number slot : ℕ) → (rooms_at run.setting run.change run.labels number).thread ≡ Some slot → slot < 32
        slots number slot q =
            let l : slot < run.setting.limits.thread_instances = slot_low run.setting run.change run.labels number slot q in
            let m : run.setting.limits.thread_instances ≤ 32 = run.setting.in_range.thread_instances in
            omega (arith, l, m)

  pub run_ended_low : Each IsLowEnded (all_ended (entries_to run phase))
  run_ended_low = run_low

  -- and to that of a digest by their digest alone
  pub run_digests : (session index row : ℕ) → 8385 ≤ row → times_added (event_number session index) (all_lines (entries_to run phase)) row ≡ times (comes_beside run.flags (event_number session index) row) (all_ended (entries_to run phase))
  run_digests session index row high =
      let c : times_added (event_number session index) (all_lines (entries_to run phase)) row ≡ times (comes_to (event_number session index) row) (all_ended (entries_to run phase)) + times (comes_beside run.flags (event_number session index) row) (all_ended (entries_to run phase)) = run_comes session index row in
      let z : times (comes_to (event_number session index) row) (all_ended (entries_to run phase)) ≡ 0 = none_home (event_number session index) row high (all_ended (entries_to run phase)) run_low in
      omega (arith, c, z)

  -- a digest's place is one of the setting's
  pub run_texted : Each (λ (one : Ended). HasText (length run.setting.digests) one.event.subject) (all_ended (entries_to run phase))
  run_texted =
      ended_subjects (HasText (length run.setting.digests)) (entries_to run phase)
      (all_subjects (HasText (length run.setting.digests)) (entries_to run phase) run_follow
      (each_front_of (λ (p : Placed). IsTexted (length run.setting.digests) p.line) (entries_to run phase) front.rest
      (subst (Each (λ (p : Placed). IsTexted (length run.setting.digests) p.line)) split (all_lines_of (IsTexted (length run.setting.digests)) run.blocks orderly.texted))))

  pub run_number : (session action : ℕ) (more : List Change) → numbers_by session (entries_to run phase) ≡ change_at 0 action ∷ more → (1 ≤ action) × (action ≤ length (each_of action_change (entries_to run phase)))
  run_number session action more e =
      let l : 1 ≤ times (is_that (change_at 0 action)) (each_of action_change (entries_to run phase)) = head_counted session (change_at 0 action) more (entries_to run phase) (that_self 0 action) e in
      let r : (1 ≤ action) × (action ≤ times (is_of 0) (each_of action_change (entries_to run phase))) = chain_range (each_of action_change (entries_to run phase)) (kept.rules.joint.ordered.numbers phase) (change_at 0 action) l in
      let z : times (is_of 0) (each_of action_change (entries_to run phase)) ≡ length (each_of action_change (entries_to run phase)) = zero_rows (entries_to run phase) in
      let h : action ≤ times (is_of 0) (each_of action_change (entries_to run phase)) = r.1 in
      (r.0, omega (arith, h, z))

  pub run_own : (session : ℕ) → Each (λ (p : Placed). (p.session == session) ≡ true → IsOwn session (rooms_at run.setting run.change run.labels) (entries_to run phase) p) (entries_to run phase)
  run_own session =
      all_told session (rooms_at run.setting run.change run.labels) (answers_at run.setting run.change run.labels) (entries_to run phase)
      (rising_front (numbers_by session (entries_to run phase)) (numbers_by session front.rest) (subst AreRising (ap (numbers_by session) split ∙ numbers_then session (entries_to run phase) front.rest) (kept.rules.joint.ordered.rising session)))
      (λ action more e. (run_number session action more e).0)
      (run_follow session)
      (first_front [] (entries_to run phase) front.rest (subst (AreFirstBehind []) split orderly.first))
      run_answered

  pub run_known : Each (λ (one : Ended). IsKnown one.session (rooms_at run.setting run.change run.labels) (entries_to run phase) one.context) (all_ended (entries_to run phase))
  run_known = known_ended (rooms_at run.setting run.change run.labels) (entries_to run phase) (entries_to run phase)
      (by_sessions (λ (p : Placed). IsOwn p.session (rooms_at run.setting run.change run.labels) (entries_to run phase) p) (entries_to run phase)
      (λ s. moved s (entries_to run phase) (run_own s))) where
        moved : (s : ℕ) (ps : List Placed) → Each (λ (p : Placed). (p.session == s) ≡ true → IsOwn s (rooms_at run.setting run.change run.labels) (entries_to run phase) p) ps
            → Each (λ (p : Placed). (p.session == s) ≡ true → IsOwn p.session (rooms_at run.setting run.change run.labels) (entries_to run phase) p) ps
        moved s [] h = tt
        moved s (p ∷ ps) h = ((λ q. own_move s (rooms_at run.setting run.change run.labels) (entries_to run phase) p (eqb-true p.session s q) (h.0 q)), moved s ps h.1)

  -- the label of a session's first action
  pub run_label : (session action : ℕ) (more : List Change) → numbers_by session (entries_to run phase) ≡ change_at 0 action ∷ more → label_at run.labels action ≡ Some (record { session = session; line = 1 })
  run_label session action more e = by action (run_number session action more e).0 (kept.labelled.each session 0 (change_at 0 action) there) where
    there : slice_get (numbers_by session (places run.blocks)) 0 ≡ Some (change_at 0 action)
    there = ap (λ cs. slice_get cs 0) (ap (numbers_by session) split ∙ (numbers_then session (entries_to run phase) front.rest ∙ ap (λ cs. cs ++ numbers_by session front.rest) e))

    less : (k : ℕ) → suc k - 1 ≡ k
    less k = omega arith

    by : (a : ℕ) → 1 ≤ a → slice_get run.labels (a - 1) ≡ Some (record { session = session; line = 0 + 1 }) → label_at run.labels a ≡ Some (record { session = session; line = 1 })
    by zero l q = absurd (omega (arith, l))
    by (suc k) l q = ap (slice_get run.labels) (sym (less k)) ∙ q

  pub run_acting : AreActing run.change run.labels (places run.blocks) (entries_to run phase)
  run_acting = record {
    sub = λ p m. subst (IsAmong p) (sym split) (among_front p (entries_to run phase) front.rest m);
    labelled = kept.labelled;
    chained = kept.rules.joint.ordered.numbers phase;
    acts = each_front_of (λ (p : Placed). IsActionOf run.change run.labels p.line p.entry) (entries_to run phase) front.rest (subst (Each (λ (p : Placed). IsActionOf run.change run.labels p.line p.entry)) split orderly.actions);
    last = last_front [] (entries_to run phase) front.rest (subst (AreLastBehind []) split orderly.last);
    few = few;
  } where
    lengths : (xs ys : List Placed) → length (each_of action_change xs) ≤ length (each_of action_change (xs ++ ys))
    lengths [] ys = omega arith
    lengths (x ∷ xs) ys = more (action_change x.entry) (lengths xs ys) where
      more : (zs : List Change) → length (each_of action_change xs) ≤ length (each_of action_change (xs ++ ys)) → length (zs ++ each_of action_change xs) ≤ length (zs ++ each_of action_change (xs ++ ys))
      more [] l = l
      more (z ∷ zs) l = (let m : length (zs ++ each_of action_change xs) ≤ length (zs ++ each_of action_change (xs ++ ys)) = more zs l in omega (arith, m))

    few : length (each_of action_change (entries_to run phase)) ≤ length run.labels
    few =
        let l : length (each_of action_change (entries_to run phase)) ≤ length (each_of action_change (entries_to run phase ++ front.rest)) = lengths (entries_to run phase) front.rest in
        let e : length (each_of action_change (places run.blocks)) ≡ length (each_of action_change (entries_to run phase ++ front.rest)) = ap (λ ps. length (each_of action_change ps)) split in
        let f : length run.labels ≡ length (each_of action_change (places run.blocks)) = kept.labelled.few in
        omega (arith, l, e, f)

  pub run_idle : Each IsIdle (entries_to run phase)
  run_idle = each_front_of IsIdle (entries_to run phase) front.rest (subst (Each IsIdle) split (all_idle run.blocks kept.rules.shaped))

  pub run_over : Each (λ (p : Placed). IsOver (places run.blocks) p p.entry) (entries_to run phase)
  run_over = each_chosen (λ (p : Placed). IsOver (places run.blocks) p p.entry) (λ place. nat_le place.phase phase) (places run.blocks) (all_over (places run.blocks) [] (places run.blocks) kept.rules.joint.floored)

  pub run_rising : (session : ℕ) → AreRising (numbers_by session (entries_to run phase))
  run_rising session = rising_front (numbers_by session (entries_to run phase)) (numbers_by session front.rest) (subst AreRising (ap (numbers_by session) split ∙ numbers_then session (entries_to run phase) front.rest) (kept.rules.joint.ordered.rising session))

  pub run_near : AreNear (entries_to run phase)
  run_near = subst AreNear (sym front.same) (all_near (blocks_to phase run.blocks) whole.shaped)

  pub run_apart : Each IsApart (entries_to run phase)
  run_apart = each_front_of IsApart (entries_to run phase) front.rest (subst (Each IsApart) split (all_apart run.blocks kept.rules.shaped))

  pub run_said : Each (HasNumber (places run.blocks)) (entries_to run phase)
  run_said = each_front_of (HasNumber (places run.blocks)) (entries_to run phase) front.rest (subst (Each (HasNumber (places run.blocks))) split (all_said run.blocks kept.rules.shaped))
