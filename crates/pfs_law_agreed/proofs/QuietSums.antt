-- Two runs that agree as a quiet phase begins show the same behind it.
use Rattle.std.proofs.Common.{ℕ, ◌≡◌, ◌+◌, ◌≤◌, ◌==◌, ◌&&◌, ◌||◌, Bool, true, false, cond, List, [], ◌∷◌, ◌++◌, length, map, fold, filter, Option, Some, None, refl, ap, sym, ◌∙◌, subst, arith, append_assoc}
use Rattle.std.specs.Prelude.{is_none, is_some, take}
use Rattle.pfs_admin.specs.Fold.{state_of}
use Rattle.pfs_classes.specs.declared.setting.Setting.{Setting}
use Rattle.pfs_conservation.specs.KindSummaries.{Key, KeyAccount, KeyAll, KeyHost, KeyThread, KeyUser, is_all, leads_key}
use Rattle.pfs_consumers.specs.Tree.{acts_of}
use Rattle.pfs_consumers.specs.declared.Consumer.TheVariants as consumers
use Rattle.pfs_containers.specs.Administration.{Containers}
use Rattle.pfs_event.specs.Verdicts.{is_let_through}
use Rattle.pfs_event.specs.declared.entry.Entry.{Entry}
use Rattle.pfs_event.specs.declared.entry.Entry.TheVariants as says
use Rattle.pfs_event.specs.declared.verdict.Verdict.{Verdict}
use Rattle.pfs_event.specs.declared.verdict.Verdict.TheVariants.{Attributed}
use Rattle.pfs_finals.specs.declared.counters.LostCounters.{LostCounters}
use Rattle.pfs_journal.specs.declared.report.ReportParts.{ReportParts}
use Rattle.pfs_law_conservation.proofs.ChosenLines.{each_both, each_chosen, each_map}
use Rattle.pfs_law_conservation.specs.Premises.{AreKept, IsOrderly}
use Rattle.pfs_law_conservation.specs.RunActions.{names_by}
use Rattle.pfs_law_conservation.specs.RunEvents.{Ended, all_ended, ended_at, ended_first, session_of}
use Rattle.pfs_law_conservation.specs.RunTerms.{Run, entries_to, given_in}
use Rattle.pfs_law_summaries.proofs.UnplacedDigests.{lacks_place, run_lost}
use Rattle.pfs_law_summaries.specs.Counts.{counted_at, leads_to, own_slot}
use Rattle.pfs_law_summaries.specs.DigestSummary.{digested_at}
use Rattle.pfs_law_summaries.specs.OrderlyRuns.{KeptLaw, OrderlyLaw, run_of}
use Rattle.pfs_law_summaries.specs.PhaseSummaries.{past_to}
use Rattle.pfs_model.specs.Chains.{Each, action_change, each_of, times}
use Rattle.pfs_model.specs.Contents.{Facts, amount_of, measure_of}
use Rattle.pfs_model.specs.EntryAsks.{digest_row}
use Rattle.pfs_model.specs.EntryPlaces.{Placed, before_phase, in_phase, places}
use Rattle.pfs_model.specs.SetupFlags.{SeenSetup, has_time, is_digested, is_statement, is_timed, seen_by}
use Rattle.pfs_model.specs.Shapes.{counted_slot}
use Rattle.pfs_model.specs.SummaryCounts.{Addition, Names, additions_of, first_taking, takings_of}
use Rattle.pfs_model.specs.declared.lines.Opened.{Opened}
use Rattle.pfs_model.specs.declared.lines.Subject.{Subject}
use Rattle.pfs_rows.specs.declared.table.TableKind.{TableKind}
use Rattle.pfs_runs.specs.PhaseFinals.{containers_behind, is_digest_lost, is_lost_locker, is_lost_nested, lost_behind, verdict_at}
use Rattle.pfs_runs.specs.Runs.{IsRun, all_blocks}
use Rattle.pfs_runs.specs.ScriptLines.{change_in, facts_in}
use Rattle.pfs_script.specs.declared.blocks.Phase.{Phase}
use Rattle.pfs_stat.specs.Stat.{merge_of, stat_of}
use Rattle.pfs_stat.specs.declared.Stat.{Stat}
use Rattle.pfs_law_agreed.specs.Agreement.{AgreeBehind, AreSameOpen, IsSameKey, IsSameOpen, QuietLaw, ShowTheSame}
use Rattle.pfs_law_agreed.specs.AlignedEvents.{events_in, is_event, starts_event}
use Rattle.pfs_law_agreed.specs.QuietPhases.{IsQuietAt}
use Rattle.pfs_law_agreed.specs.ToldLines.{AreTold, IsTold, ToldLaw}
use Rattle.pfs_law_agreed.proofs.PhaseCuts.{each_event, early}
use Rattle.pfs_law_agreed.proofs.QuietCounts.{counts_fresh, counts_text, digests_grown, ended_then, ends_are, grown, labels_same}
use Rattle.pfs_law_agreed.proofs.QuietLoads.{is_calm}
use Rattle.pfs_law_agreed.proofs.QuietRemovals.{AddsAbove, adds_above, all_late, had_before, times_then}
use Rattle.pfs_law_agreed.proofs.QuietVerdicts.{all_told, calm, up_is}

-- ---- events of two runs

module _ (a b : Run) where
  -- an event that ended in both
  record IsSameEnd (x y : Ended) : Type 0 where
    session : x.session ≡ y.session
    event : IsSameOpen a b x.context.slot y.context.slot x.event y.event
    slot : is_some x.context.slot ≡ is_some y.context.slot
    account : is_some x.context.account ≡ is_some y.context.account
    user : is_some x.context.user ≡ is_some y.context.user
    host : is_some x.context.host ≡ is_some y.context.host

  AreSameEnds : List Ended → List Ended → Type 0
  AreSameEnds [] [] = Unit {0}
  AreSameEnds (x ∷ xs) (y ∷ ys) = IsSameEnd x y × AreSameEnds xs ys
  AreSameEnds _ _ = ⊥

  first_same : (p q : Placed) → IsTold a b p q → (xs ys : List Opened) → AreSameOpen a b p.context.slot q.context.slot xs ys → (us vs : List Ended) → AreSameEnds us vs → AreSameEnds (ended_first p xs ++ us) (ended_first q ys ++ vs)
  unfolding AreSameEnds
  first_same p q t [] [] s us vs r = r
  first_same p q t [] (y ∷ ys) s us vs r = absurd s
  first_same p q t (x ∷ xs) [] s us vs r = absurd s
  first_same p q t (x ∷ xs) (y ∷ ys) s us vs r = (record { session = t.line.session; event = s.0; slot = t.slot; account = t.account; user = t.user; host = t.host }, r)

  entry_same : (p q : Placed) → IsTold a b p q → (e f : Entry) → is_event e ≡ true → is_event f ≡ true → starts_event e ≡ starts_event f → (us vs : List Ended) → AreSameEnds us vs → AreSameEnds (ended_at p e ++ us) (ended_at q f ++ vs)
  entry_same p q t (says.Start n v co th cl ta) (says.Start n' v' co' th' cl' ta') i j s us vs r = r
  entry_same p q t (says.End n l co th) (says.End n' l' co' th') i j s us vs r = first_same p q t p.context.opened q.context.opened t.opened us vs r
  entry_same p q t (says.Start n v co th cl ta) (says.End n' l' co' th') i j s us vs r = absurd (cc)
  entry_same p q t (says.End n l co th) (says.Start n' v' co' th' cl' ta') i j s us vs r = absurd (cc)
  entry_same p q t (says.Start n v co th cl ta) _ i j s us vs r = absurd (cc)
  entry_same p q t (says.End n l co th) _ i j s us vs r = absurd (cc)
  entry_same p q t _ f i j s us vs r = absurd (cc)

  ends_same : (ps qs : List Placed) → AreTold a b ps qs → Each (λ (p : Placed). is_event p.entry ≡ true) ps → Each (λ (p : Placed). is_event p.entry ≡ true) qs → AreSameEnds (all_ended ps) (all_ended qs)
  unfolding AreSameEnds
  ends_same [] [] t h k = tt
  ends_same [] (q ∷ qs) t h k = absurd t
  ends_same (p ∷ ps) [] t h k = absurd t
  ends_same (p ∷ ps) (q ∷ qs) t h k = entry_same p q t.0 p.entry q.entry h.0 k.0 t.0.line.starts (all_ended ps) (all_ended qs) (ends_same ps qs t.1 h.1 k.1)

  -- so what counts of them is the same
  mapped_same : (t u : Ended → Bool) (f g : Ended → Stat) → ((x y : Ended) → IsSameEnd x y → (t x ≡ u y) × (f x ≡ g y)) → (xs ys : List Ended) → AreSameEnds xs ys → map f (filter t xs) ≡ map g (filter u ys)
  unfolding AreSameEnds
  mapped_same t u f g each [] [] s = refl
  mapped_same t u f g each [] (y ∷ ys) s = absurd s
  mapped_same t u f g each (x ∷ xs) [] s = absurd s
  mapped_same t u f g each (x ∷ xs) (y ∷ ys) s = at (u y) (mapped_same t u f g each xs ys s.1) where
    one : (t x ≡ u y) × (f x ≡ g y)
    one = each x y s.0

    at : (c : Bool) → map f (filter t xs) ≡ map g (filter u ys) → map f (cond (t x) (x ∷ filter t xs) (filter t xs)) ≡ map g (cond (u y) (y ∷ filter u ys) (filter u ys))
    at c r = ap (λ z. map f (cond z (x ∷ filter t xs) (filter t xs))) one.0 ∙ by (u y) where
      by : (z : Bool) → map f (cond z (x ∷ filter t xs) (filter t xs)) ≡ map g (cond z (y ∷ filter u ys) (filter u ys))
      by true = ap (λ (w : Stat). w ∷ map f (filter t xs)) one.1 ∙ ap (λ (w : List Stat). g y ∷ w) r
      by false = r

  times_same : (t u : Ended → Bool) → ((x y : Ended) → IsSameEnd x y → t x ≡ u y) → (xs ys : List Ended) → AreSameEnds xs ys → times t xs ≡ times u ys
  unfolding AreSameEnds
  times_same t u each [] [] s = refl
  times_same t u each [] (y ∷ ys) s = absurd s
  times_same t u each (x ∷ xs) [] s = absurd s
  times_same t u each (x ∷ xs) (y ∷ ys) s =
      let e : t x ≡ u y = each x y s.0 in
      let h : times t xs ≡ times u ys = times_same t u each xs ys s.1 in
      ap (λ z. cond {A = ℕ} z 1 0 + times t xs) e ∙ ap (λ n. cond {A = ℕ} (u y) 1 0 + n) h

  verdicts_same : (ps qs : List Placed) → AreTold a b ps qs → each_of verdict_at ps ≡ each_of verdict_at qs
  verdicts_same [] [] t = refl
  verdicts_same [] (q ∷ qs) t = absurd t
  verdicts_same (p ∷ ps) [] t = absurd t
  verdicts_same (p ∷ ps) (q ∷ qs) t = ap (λ z. z ++ each_of verdict_at ps) t.0.verdict ∙ ap (λ z. verdict_at q.entry ++ z) (verdicts_same ps qs t.1)

  -- ---- of one event

  slot_counts : (s t : Option ℕ) (v w : Verdict) → is_some s ≡ is_some t → v ≡ w → is_some (counted_slot s v) ≡ is_some (counted_slot t w)
  slot_counts s t v w e same = subst (λ z. is_some (counted_slot s v) ≡ is_some (counted_slot t z)) same (by v) where
    by : (v : Verdict) → is_some (counted_slot s v) ≡ is_some (counted_slot t v)
    by Attributed = e
    by _ = refl

  module _ (names : ℕ → Names) (x y : Ended) (same : IsSameEnd x y) where
    own_key : (key : Key) → leads_key key (session_of names x) ≡ leads_key key (session_of names y)
    own_key (KeyThread session slot) = ap (λ n. n == session) same.session
    own_key (KeyAccount user host) =
        ap (λ b. b && (((names x.session).user == user) && ((names x.session).host == host))) same.account
        ∙ ap (λ n. is_some y.context.account && (((names n).user == user) && ((names n).host == host))) same.session
    own_key (KeyUser user) = ap (λ b. b && ((names x.session).user == user)) same.user ∙ ap (λ n. is_some y.context.user && ((names n).user == user)) same.session
    own_key (KeyHost host) = ap (λ b. b && ((names x.session).host == host)) same.host ∙ ap (λ n. is_some y.context.host && ((names n).host == host)) same.session
    own_key KeyAll = refl

    other_key : (key other : Key) → IsSameKey key other → (leads_key key (session_of names x) ≡ leads_key other (session_of names y)) × (is_all key ≡ is_all other)
    other_key (KeyThread session slot) (KeyThread other place) k = (ap (λ n. n == session) same.session ∙ ap (λ n. y.session == n) k, refl)
    other_key (KeyAccount user host) (KeyThread other place) k = absurd k
    other_key (KeyUser user) (KeyThread other place) k = absurd k
    other_key (KeyHost host) (KeyThread other place) k = absurd k
    other_key KeyAll (KeyThread other place) k = absurd k
    other_key (KeyThread session slot) (KeyAccount user host) k = absurd k
    other_key (KeyThread session slot) (KeyUser user) k = absurd k
    other_key (KeyThread session slot) (KeyHost host) k = absurd k
    other_key (KeyThread session slot) KeyAll k = absurd k
    other_key (KeyAccount user host) (KeyAccount u h) k = (own_key (KeyAccount user host) ∙ ap (λ (z : Key). leads_key z (session_of names y)) k, refl)
    other_key (KeyUser user) (KeyUser u) k = (own_key (KeyUser user) ∙ ap (λ (z : Key). leads_key z (session_of names y)) k, refl)
    other_key (KeyHost host) (KeyHost h) k = (own_key (KeyHost host) ∙ ap (λ (z : Key). leads_key z (session_of names y)) k, refl)
    other_key KeyAll KeyAll k = (refl, refl)
    other_key key other k = absurd (cc)

    fresh_same : (key other : Key) (cell : ℕ) → IsSameKey key other → counts_fresh names key cell x ≡ counts_fresh names other cell y
    fresh_same key other cell k =
        let o = other_key key other k in
        ap (λ (v : Verdict). is_let_through v && ((x.event.subject.cell == cell) && leads_to names key x)) same.event.verdict
        ∙ (ap (λ (s : Subject). is_let_through y.event.verdict && ((s.cell == cell) && leads_to names key x)) same.event.event.subject
        ∙ (ap (λ z. is_let_through y.event.verdict && ((y.event.subject.cell == cell) && (z || (is_some (own_slot x) && leads_key key (session_of names x))))) o.1
        ∙ (ap (λ z. is_let_through y.event.verdict && ((y.event.subject.cell == cell) && (is_all other || (z && leads_key key (session_of names x))))) (slot_counts x.context.slot y.context.slot x.event.verdict y.event.verdict same.slot same.event.verdict)
        ∙ ap (λ z. is_let_through y.event.verdict && ((y.event.subject.cell == cell) && (is_all other || (is_some (own_slot y) && z)))) o.0)))

    timed_same : (s t : Option ℕ) → is_timed a.flags s x.event ≡ is_timed b.flags t y.event
    timed_same s t =
        ap (λ (z : SeenSetup). has_time z.class && (is_none x.event.subject.table || has_time z.table)) same.event.seen
        ∙ ap (λ (z : Subject). has_time (seen_by b.flags t y.event).class && (is_none z.table || has_time (seen_by b.flags t y.event).table)) same.event.event.subject

    digested_same : is_digested a.flags x.context.slot x.event ≡ is_digested b.flags y.context.slot y.event
    digested_same =
        ap (λ (z : SeenSetup). is_statement x.event.subject.kind && is_let_through x.event.verdict && acts_of z.consumers consumers.StatementsDigest) same.event.seen
        ∙ (ap (λ (v : Verdict). is_statement x.event.subject.kind && is_let_through v && acts_of (seen_by b.flags y.context.slot y.event).consumers consumers.StatementsDigest) same.event.verdict
        ∙ ap (λ (z : Subject). is_statement z.kind && is_let_through y.event.verdict && acts_of (seen_by b.flags y.context.slot y.event).consumers consumers.StatementsDigest) same.event.event.subject)

    text_same : (digest : Option ℕ) → counts_text a.flags digest x ≡ counts_text b.flags digest y
    text_same digest =
        ap (λ z. z && (digest_row x.event.subject.digest == digest_row digest)) digested_same
        ∙ ap (λ (z : Subject). is_digested b.flags y.context.slot y.event && (digest_row z.digest == digest_row digest)) same.event.event.subject

    lacks_same : lacks_place a.flags x ≡ lacks_place b.flags y
    lacks_same = ap (λ z. z && is_none x.event.subject.digest) digested_same ∙ ap (λ (z : Subject). is_digested b.flags y.context.slot y.event && is_none z.digest) same.event.event.subject

    amount_same : (facts : ℕ → ℕ → Facts) (s t : Option ℕ) → stat_of (measure_of (is_timed a.flags s x.event) (facts x.session x.event.index)) ≡ stat_of (measure_of (is_timed b.flags t y.event) (facts y.session y.event.index))
    amount_same facts s t =
        ap (λ z. stat_of (measure_of z (facts x.session x.event.index))) (timed_same s t)
        ∙ (ap (λ n. stat_of (measure_of (is_timed b.flags t y.event) (facts n x.event.index))) same.session
        ∙ ap (λ n. stat_of (measure_of (is_timed b.flags t y.event) (facts y.session n))) same.event.event.index)

-- start and end lines alone end events and have verdicts
none_ended : (p : Placed) (e : Entry) → is_event e ≡ false → (ended_at p e ≡ []) × (verdict_at e ≡ [])
none_ended p (says.Start n v co th cl ta) q = absurd (cc)
none_ended p (says.End n l co th) q = absurd (cc)
none_ended p _ q = (refl, refl)

events_end : (ps : List Placed) → all_ended (events_in ps) ≡ all_ended ps
events_end [] = refl
events_end (p ∷ ps) = at (is_event p.entry) refl (events_end ps) where
  at : (c : Bool) → is_event p.entry ≡ c → all_ended (events_in ps) ≡ all_ended ps → all_ended (cond c (p ∷ []) [] ++ events_in ps) ≡ ended_at p p.entry ++ all_ended ps
  at true q h = ap (λ z. ended_at p p.entry ++ z) h
  at false q h = h ∙ sym (ap (λ z. z ++ all_ended ps) (none_ended p p.entry q).0)

events_judged : (ps : List Placed) → each_of verdict_at (events_in ps) ≡ each_of verdict_at ps
events_judged [] = refl
events_judged (p ∷ ps) = at (is_event p.entry) refl (events_judged ps) where
  at : (c : Bool) → is_event p.entry ≡ c → each_of verdict_at (events_in ps) ≡ each_of verdict_at ps → each_of verdict_at (cond c (p ∷ []) [] ++ events_in ps) ≡ verdict_at p.entry ++ each_of verdict_at ps
  at true q h = ap (λ z. verdict_at p.entry ++ z) h
  at false q h = h ∙ sym (ap (λ z. z ++ each_of verdict_at ps) (none_ended p p.entry q).1)

judged_then : (xs ys : List Placed) → each_of verdict_at (xs ++ ys) ≡ each_of verdict_at xs ++ each_of verdict_at ys
judged_then [] ys = refl
judged_then (x ∷ xs) ys = ap (λ z. verdict_at x.entry ++ z) (judged_then xs ys) ∙ sym (append_assoc (verdict_at x.entry) (each_of verdict_at xs) (each_of verdict_at ys))

-- ---- one run

module _ (setting : Setting) (phases : List Phase) (report : ReportParts) (run : IsRun setting phases report) (kept : AreKept (run_of setting phases report run)) (orderly : IsOrderly (run_of setting phases report run))
    (number : ℕ) (quiet : IsQuietAt (number + 1) 1 phases) where
  abbrev own : Run
  own = run_of setting phases report run

  abbrev all : List Placed
  all = places (all_blocks run.blocks)

  abbrev news : List Placed
  news = in_phase (number + 1) (places (all_blocks run.blocks))

  late : Each (λ (x : Addition). first_taking x.row x.version (takings_of (entries_to (run_of setting phases report run) number)) ≡ None) (additions_of (in_phase (number + 1) (places (all_blocks run.blocks))))
  late =
      all_late (entries_to own number) (run.rules.joint.rows number) all (number + 1) (early number all) news
      (each_chosen (λ (p : Placed). AddsAbove (had_before all p.phase) p.entry) (λ (p : Placed). p.phase == number + 1) all (adds_above all [] all run.rules.joint.floored))

  up : entries_to own (number + 1) ≡ entries_to own number ++ news
  up = up_is setting phases report run kept orderly number quiet

  still : Each (λ (p : Placed). is_calm p.entry ≡ true) news
  still = calm setting phases report run kept orderly number quiet

  sums : (kind : TableKind) (key : Key) (cell : ℕ) → counted_at (past_to (run_of setting phases report run) (number + 1)) kind key cell
      ≡ fold merge_of (counted_at (past_to (run_of setting phases report run) number) kind key cell) (map (λ (one : Ended). amount_of (given_in (run_of setting phases report run)) one.session one.event) (filter (counts_fresh (names_by (change_in phases)) key cell) (all_ended (in_phase (number + 1) (places (all_blocks run.blocks))))))
  sums kind key cell = grown own kept orderly number news up still late refl kind key cell

  texts : (digest : Option ℕ) → digested_at (past_to (run_of setting phases report run) (number + 1)) digest
      ≡ fold merge_of (digested_at (past_to (run_of setting phases report run) number) digest) (map (λ (one : Ended). amount_of (given_in (run_of setting phases report run)) one.session one.event) (filter (counts_text (run_of setting phases report run).flags digest) (all_ended (in_phase (number + 1) (places (all_blocks run.blocks))))))
  texts digest = digests_grown own kept orderly number news up still late refl digest

  containers_same : containers_behind setting (change_in phases) run.labels (entries_to (run_of setting phases report run) (number + 1)) ≡ containers_behind setting (change_in phases) run.labels (entries_to (run_of setting phases report run) number)
  containers_same = ap (λ ls. (state_of setting (change_in phases) ls).kept.now) (labels_same own kept orderly number news up still late refl)

  lost_digests : times is_digest_lost (entries_to (run_of setting phases report run) (number + 1))
      ≡ times is_digest_lost (entries_to (run_of setting phases report run) number) + times (lacks_place (run_of setting phases report run).flags) (all_ended (in_phase (number + 1) (places (all_blocks run.blocks))))
  lost_digests =
      run_lost own (number + 1) kept orderly
      ∙ (ap (λ es. times (lacks_place own.flags) es) (ends_are own kept orderly number news up still late refl)
      ∙ (times_then (lacks_place own.flags) (all_ended (entries_to own number)) (all_ended news)
      ∙ ap (λ n. n + times (lacks_place own.flags) (all_ended news)) (sym (run_lost own number kept orderly))))

  lost_verdicts : (test : Verdict → Bool) → times test (each_of verdict_at (entries_to (run_of setting phases report run) (number + 1)))
      ≡ times test (each_of verdict_at (entries_to (run_of setting phases report run) number)) + times test (each_of verdict_at (in_phase (number + 1) (places (all_blocks run.blocks))))
  lost_verdicts test = ap (λ ps. times test (each_of verdict_at ps)) up ∙ (ap (times test) (judged_then (entries_to own number) news) ∙ times_then test (each_of verdict_at (entries_to own number)) (each_of verdict_at news))

-- ---- both

pub lost_same : (x y : LostCounters) → x.threads ≡ y.threads → x.accounts ≡ y.accounts → x.users ≡ y.users → x.hosts ≡ y.hosts → x.digests ≡ y.digests → x.statements ≡ y.statements → x.waits ≡ y.waits → x ≡ y
lost_same x y t a u h d s w =
    by x.threads y.threads x.accounts y.accounts x.users y.users x.hosts y.hosts x.digests y.digests x.statements y.statements x.waits y.waits t a u h d s w
  where
    made : ℕ → ℕ → ℕ → ℕ → ℕ → ℕ → ℕ → LostCounters
    made a b c d e f g = record { threads = a; accounts = b; users = c; hosts = d; digests = e; statements = f; waits = g }

    by : (a a' b b' c c' d d' e e' f f' g g' : ℕ) → a ≡ a' → b ≡ b' → c ≡ c' → d ≡ d' → e ≡ e' → f ≡ f' → g ≡ g' → made a b c d e f g ≡ made a' b' c' d' e' f' g'
    by a a' b b' c c' d d' e e' f f' g g' p q r s t u v =
        ap (λ n. made n b c d e f g) p ∙ (ap (λ n. made a' n c d e f g) q ∙ (ap (λ n. made a' b' n d e f g) r ∙ (ap (λ n. made a' b' c' n e f g) s ∙ (ap (λ n. made a' b' c' d' n f g) t ∙ (ap (λ n. made a' b' c' d' e' n g) u ∙ ap (λ n. made a' b' c' d' e' f' n) v)))))

pub told_law : KeptLaw → OrderlyLaw → ToldLaw
told_law kept orderly text setting phases report other script run second number quiet agree =
    all_told setting phases report other run second (kept setting phases report run) (orderly text setting phases report script run) (kept setting phases other second) (orderly text setting phases other script second) number quiet agree

pub quiet_law : KeptLaw → OrderlyLaw → QuietLaw
quiet_law kept_law orderly_law text setting phases report other script run second number quiet agree = record { summaries = summaries; digests = digests; lost = lost } where
  a : Run
  a = run_of setting phases report run

  b : Run
  b = run_of setting phases other second

  mine : List Placed
  mine = in_phase (number + 1) (places (all_blocks run.blocks))

  its : List Placed
  its = in_phase (number + 1) (places (all_blocks second.blocks))

  ka : AreKept a
  ka = kept_law setting phases report run

  oa : IsOrderly a
  oa = orderly_law text setting phases report script run

  kb : AreKept b
  kb = kept_law setting phases other second

  ob : IsOrderly b
  ob = orderly_law text setting phases other script second

  told : AreTold a b (events_in mine) (events_in its)
  told = all_told setting phases report other run second ka oa kb ob number quiet agree

  are_events : (ps : List Placed) → Each (λ (p : Placed). is_event p.entry ≡ true) (events_in ps)
  are_events ps = each_map (λ (p : Placed). (is_event p.entry ≡ true) × Unit {0}) (λ (p : Placed). is_event p.entry ≡ true) (events_in ps) (λ p h. h.0) (each_event (λ (p : Placed). Unit {0}) ps (units ps)) where
    units : (ps : List Placed) → Each (λ (p : Placed). Unit {0}) ps
    units [] = tt
    units (p ∷ ps) = (tt, units ps)

  ends : AreSameEnds a b (all_ended mine) (all_ended its)
  ends = subst (λ es. AreSameEnds a b es (all_ended its)) (events_end mine) (subst (AreSameEnds a b (all_ended (events_in mine))) (events_end its) (ends_same a b (events_in mine) (events_in its) told (are_events mine) (are_events its)))

  amounts : (x y : Ended) → IsSameEnd a b x y → amount_of (given_in a) x.session x.event ≡ amount_of (given_in b) y.session y.event
  amounts x y s = amount_same a b (names_by (change_in phases)) x y s (facts_in phases) ((given_in a).slots x.session) ((given_in b).slots y.session)

  summaries : (kind : TableKind) (key place : Key) (cell : ℕ) → IsSameKey key place → counted_at (past_to a (number + 1)) kind key cell ≡ counted_at (past_to b (number + 1)) kind place cell
  summaries kind key place cell k =
      sums setting phases report run ka oa number quiet kind key cell
      ∙ (ap (λ s. fold merge_of s (map (λ (one : Ended). amount_of (given_in a) one.session one.event) (filter (counts_fresh (names_by (change_in phases)) key cell) (all_ended mine)))) (agree.shown.summaries kind key place cell k)
      ∙ (ap (fold merge_of (counted_at (past_to b number) kind place cell))
      (mapped_same a b (counts_fresh (names_by (change_in phases)) key cell) (counts_fresh (names_by (change_in phases)) place cell) (λ (one : Ended). amount_of (given_in a) one.session one.event) (λ (one : Ended). amount_of (given_in b) one.session one.event)
      (λ x y s. (fresh_same a b (names_by (change_in phases)) x y s key place cell k, amounts x y s)) (all_ended mine) (all_ended its) ends)
      ∙ sym (sums setting phases other second kb ob number quiet kind place cell)))

  digests : (digest : Option ℕ) → digested_at (past_to a (number + 1)) digest ≡ digested_at (past_to b (number + 1)) digest
  digests digest =
      texts setting phases report run ka oa number quiet digest
      ∙ (ap (λ s. fold merge_of s (map (λ (one : Ended). amount_of (given_in a) one.session one.event) (filter (counts_text a.flags digest) (all_ended mine)))) (agree.shown.digests digest)
      ∙ (ap (fold merge_of (digested_at (past_to b number) digest))
      (mapped_same a b (counts_text a.flags digest) (counts_text b.flags digest) (λ (one : Ended). amount_of (given_in a) one.session one.event) (λ (one : Ended). amount_of (given_in b) one.session one.event)
      (λ x y s. (text_same a b (names_by (change_in phases)) x y s digest, amounts x y s)) (all_ended mine) (all_ended its) ends)
      ∙ sym (texts setting phases other second kb ob number quiet digest)))

  lost_of : Run → ℕ → LostCounters
  lost_of r n = lost_behind (containers_behind r.setting r.change r.labels (entries_to r n)) (entries_to r n)

  judged : each_of verdict_at mine ≡ each_of verdict_at its
  judged = sym (events_judged mine) ∙ (verdicts_same a b (events_in mine) (events_in its) told ∙ events_judged its)

  by_verdicts : (test : Verdict → Bool) → times test (each_of verdict_at (entries_to a number)) ≡ times test (each_of verdict_at (entries_to b number)) → times test (each_of verdict_at (entries_to a (number + 1))) ≡ times test (each_of verdict_at (entries_to b (number + 1)))
  by_verdicts test e =
      lost_verdicts setting phases report run ka oa number quiet test ∙ (ap (λ n. n + times test (each_of verdict_at mine)) e ∙ (ap (λ vs. times test (each_of verdict_at (entries_to b number)) + times test vs) judged ∙ sym (lost_verdicts setting phases other second kb ob number quiet test)))

  by_containers : (f : Containers → ℕ) → f (containers_behind setting (change_in phases) run.labels (entries_to a number)) ≡ f (containers_behind setting (change_in phases) second.labels (entries_to b number))
      → f (containers_behind setting (change_in phases) run.labels (entries_to a (number + 1))) ≡ f (containers_behind setting (change_in phases) second.labels (entries_to b (number + 1)))
  by_containers f e = ap f (containers_same setting phases report run ka oa number quiet) ∙ (e ∙ sym (ap f (containers_same setting phases other second kb ob number quiet)))

  by_digests : times is_digest_lost (entries_to a (number + 1)) ≡ times is_digest_lost (entries_to b (number + 1))
  by_digests =
      lost_digests setting phases report run ka oa number quiet
      ∙ (ap (λ n. n + times (lacks_place a.flags) (all_ended mine)) (ap (λ (z : LostCounters). z.digests) agree.shown.lost)
      ∙ (ap (λ n. times is_digest_lost (entries_to b number) + n) (times_same a b (lacks_place a.flags) (lacks_place b.flags) (λ x y s. lacks_same a b (names_by (change_in phases)) x y s) (all_ended mine) (all_ended its) ends)
      ∙ sym (lost_digests setting phases other second kb ob number quiet)))

  lost : lost_of a (number + 1) ≡ lost_of b (number + 1)
  lost =
      lost_same (lost_of a (number + 1)) (lost_of b (number + 1))
      (by_containers (λ (c : Containers). c.lost_threads) (ap (λ (z : LostCounters). z.threads) agree.shown.lost))
      (by_containers (λ (c : Containers). c.lost_accounts) (ap (λ (z : LostCounters). z.accounts) agree.shown.lost))
      (by_containers (λ (c : Containers). c.lost_users) (ap (λ (z : LostCounters). z.users) agree.shown.lost))
      (by_containers (λ (c : Containers). c.lost_hosts) (ap (λ (z : LostCounters). z.hosts) agree.shown.lost))
      by_digests
      (by_verdicts is_lost_nested (ap (λ (z : LostCounters). z.statements) agree.shown.lost))
      (by_verdicts is_lost_locker (ap (λ (z : LostCounters). z.waits) agree.shown.lost))
