-- Along a quiet phase both runs tell the same of each start and end.
use Rattle.std.proofs.Common.{ℕ, ◌≡◌, ◌⊎◌, ◌+◌, ◌≤◌, ◌==◌, nat_le, Bool, true, false, cond, List, [], ◌∷◌, ◌++◌, Option, Some, None, refl, ap, sym, ◌∙◌, subst, arith}
use Rattle.std.specs.Prelude.{is_some}
use Rattle.std.proofs.lemmas.Bool.{eqb-true}
use Rattle.pfs_lemmas.proofs.Numbers.{eq_self}
use Rattle.pfs_classes.specs.declared.setting.Setting.{Setting}
use Rattle.pfs_journal.specs.declared.report.ReportParts.{ReportParts}
use Rattle.pfs_law_conservation.proofs.ChosenLines.{each_both, each_chosen, each_map}
use Rattle.pfs_law_conservation.proofs.EntryWalk.{Comes, Follow, all_followed, told_to}
use Rattle.pfs_law_conservation.proofs.PhaseEntries.{IsFront, fronts}
use Rattle.pfs_law_conservation.proofs.PhaseEntries.{blocks_to as front_blocks}
use Rattle.pfs_law_conservation.proofs.RunEntries.{run_follow}
use Rattle.pfs_law_conservation.specs.Premises.{AreKept, IsOrderly}
use Rattle.pfs_law_conservation.specs.RunTerms.{Run, entries_to, terms_by}
use Rattle.pfs_law_summaries.specs.OrderlyRuns.{run_of}
use Rattle.pfs_model.specs.Chains.{Each}
use Rattle.pfs_model.specs.Contexts.{Context, fresh, subject_of}
use Rattle.pfs_model.specs.EntryPlaces.{Block, Placed, in_phase, places, told_by, up_to_phase}
use Rattle.pfs_model.specs.SetupFlags.{AreJudged, IsJudged, loads_of, seen_by, thread_word}
use Rattle.pfs_model.specs.declared.changes.Change.{Change}
use Rattle.pfs_model.specs.declared.lines.Opened.{Opened}
use Rattle.pfs_runs.specs.PhaseFinals.{verdict_at, word_version}
use Rattle.pfs_runs.specs.Runs.{IsRun, all_blocks}
use Rattle.pfs_script.specs.declared.blocks.Phase.{Phase}
use Rattle.pfs_law_agreed.specs.Agreement.{AgreeBehind, AreSameOpen, IsSameOpen, IsSameThread, blocks_to, flags_behind, told_behind}
use Rattle.pfs_law_agreed.specs.ToldLines.{AreTold, IsTold}
use Rattle.pfs_law_agreed.specs.AlignedEvents.{AreAligned, IsSameLine, events_in, is_event}
use Rattle.pfs_law_agreed.specs.QuietPhases.{IsQuietAt, LoadsStood}
use Rattle.pfs_law_agreed.proofs.AlignedEvents.{aligned}
use Rattle.pfs_law_agreed.proofs.PhaseCuts.{HasHome, Home, aligned_chosen, comes_home, each_event, early, events_chosen, follow_back, home_of, homes_kept, up_to_next}
use Rattle.pfs_law_agreed.proofs.PhaseVerdicts.{AreAgreed, AreSeen, ChainedBy, Facts, comes_opened, follow_chain, phase_verdicts}
use Rattle.pfs_law_agreed.proofs.QuietLoads.{Still, is_calm, quiet_loads, quiet_still}
use Rattle.pfs_law_agreed.proofs.SameVerdicts.{SameWord}
use Rattle.pfs_law_agreed.proofs.StartFits.{FitsAt, StartFits, all_fit}

pub blocks_same : (phase : ℕ) (blocks : List Block) → front_blocks phase blocks ≡ blocks_to phase blocks
blocks_same phase [] = refl
blocks_same phase (b ∷ blocks) = ap (λ (z : List Block). cond (nat_le b.phase phase) (b ∷ z) []) (blocks_same phase blocks)

judged_each : (stack : ℕ) (flags : ℕ → ℕ → ℕ) (ps : List Placed) → AreJudged stack flags ps → Each (λ (p : Placed). IsJudged stack flags (subject_of p.line) p.context p.entry) ps
judged_each stack flags [] h = tt
judged_each stack flags (p ∷ ps) h = (h.0, judged_each stack flags ps h.1)

-- ---- one run

module _ (setting : Setting) (phases : List Phase) (report : ReportParts) (run : IsRun setting phases report) (kept : AreKept (run_of setting phases report run)) (orderly : IsOrderly (run_of setting phases report run))
    (number : ℕ) (quiet : IsQuietAt (number + 1) 1 phases) where
  abbrev all : List Placed
  all = places (all_blocks run.blocks)

  -- the phase's entries
  abbrev pub news : List Placed
  news = in_phase (number + 1) (places (all_blocks run.blocks))

  abbrev pub stack_of : ℕ
  stack_of = (terms_by (run_of setting phases report run)).stack

  abbrev pub versions_of : ℕ → ℕ
  versions_of word = word_version (entries_to (run_of setting phases report run) number) word

  pub up_is : entries_to (run_of setting phases report run) (number + 1) ≡ entries_to (run_of setting phases report run) number ++ news
  up_is = up_to_next number (all_blocks run.blocks) run.rules.shaped

  abbrev IsKnown : Placed → Type 0
  IsKnown p = (FitsAt p × IsJudged stack_of (run_of setting phases report run).flags (subject_of p.line) p.context p.entry) × (LoadsStood (places (all_blocks run.blocks)) (number + 1) p × Still (number + 1) p)

  known : Each (λ (p : Placed). ((p.phase == number + 1) ≡ true) × IsKnown p) news
  known =
      each_chosen IsKnown (λ (p : Placed). p.phase == number + 1) all
      (each_both (λ (p : Placed). FitsAt p × IsJudged stack_of (run_of setting phases report run).flags (subject_of p.line) p.context p.entry) (λ (p : Placed). LoadsStood all (number + 1) p × Still (number + 1) p) all
      (each_both FitsAt (λ (p : Placed). IsJudged stack_of (run_of setting phases report run).flags (subject_of p.line) p.context p.entry) all (all_fit (all_blocks run.blocks) run.rules.shaped) (judged_each stack_of (run_of setting phases report run).flags all run.rules.judged))
      (each_both (LoadsStood all (number + 1)) (Still (number + 1)) all (quiet_loads setting phases report run (number + 1) quiet) (quiet_still setting phases report run (number + 1) quiet)))

  pub calm : Each (λ (p : Placed). is_calm p.entry ≡ true) news
  calm = each_map (λ (p : Placed). ((p.phase == number + 1) ≡ true) × IsKnown p) (λ (p : Placed). is_calm p.entry ≡ true) news (λ p h. h.1.1.1 (eqb-true p.phase (number + 1) h.0)) known

  -- a session as the phase begins
  module _ (session : ℕ) where
    abbrev begins : Context
    begins = told_to session fresh (entries_to (run_of setting phases report run) number)

    follows : Follow session begins news
    follows = follow_back session fresh (entries_to (run_of setting phases report run) number) news (subst (Follow session fresh) up_is (run_follow (run_of setting phases report run) kept orderly (number + 1) session))

    comes : Comes begins (told_behind (run_of setting phases report run) number session)
    comes = by (fronts number (all_blocks run.blocks) run.rules.shaped) where
      by : IsFront number [] (all_blocks run.blocks) → Comes begins (told_behind (run_of setting phases report run) number session)
      by f =
          subst (λ (bs : List Block). Comes begins (told_by session fresh bs)) (blocks_same number (all_blocks run.blocks))
          (subst (λ (ps : List Placed). Comes (told_to session fresh ps) (told_by session fresh (front_blocks number (all_blocks run.blocks)))) (sym f.same) (all_followed session (front_blocks number (all_blocks run.blocks))).ends)

    abbrev pub home : Home
    home = home_of (told_behind (run_of setting phases report run) number session)

    pub homes : Each (HasHome session home) news
    homes = homes_kept session home begins news (sym (comes_home begins (told_behind (run_of setting phases report run) number session) comes)) follows calm

    pub chained : ChainedBy session (told_behind (run_of setting phases report run) number session).opened (events_in news)
    chained = subst (λ (xs : List Opened). ChainedBy session xs (events_in news)) (sym (comes_opened begins (told_behind (run_of setting phases report run) number session) comes)) (follow_chain session begins news follows)

    abbrev pub Tells : Placed → Type 0
    Tells p = (is_event p.entry ≡ true) × StartFits p.context.slot (subject_of p.line) p.entry × IsJudged stack_of (run_of setting phases report run).flags (subject_of p.line) p.context p.entry
        × Each (λ (load : Change). load.version ≡ versions_of load.row) (loads_of p) × HasHome session home p

    pub tells : Each Tells (events_in news)
    tells =
        each_map (λ (p : Placed). (is_event p.entry ≡ true) × (((p.phase == number + 1) ≡ true) × IsKnown p) × HasHome session home p) Tells (events_in news)
        (λ p h. (h.0, h.1.1.0.0, h.1.1.0.1, subst (λ ps. Each (λ (load : Change). load.version ≡ word_version ps load.row) (loads_of p)) (early number all) (h.1.1.1.0 (eqb-true p.phase (number + 1) h.1.0)), h.2))
        (each_map (λ (p : Placed). (is_event p.entry ≡ true) × ((((p.phase == number + 1) ≡ true) × IsKnown p) × HasHome session home p)) (λ (p : Placed). (is_event p.entry ≡ true) × (((p.phase == number + 1) ≡ true) × IsKnown p) × HasHome session home p) (events_in news)
        (λ p h. (h.0, h.1.0, h.1.1))
        (each_event (λ (p : Placed). (((p.phase == number + 1) ≡ true) × IsKnown p) × HasHome session home p) news (each_both (λ (p : Placed). ((p.phase == number + 1) ≡ true) × IsKnown p) (HasHome session home) news known homes)))

-- ---- both runs

module _ (setting : Setting) (phases : List Phase) (report other : ReportParts) (run : IsRun setting phases report) (second : IsRun setting phases other)
    (kept : AreKept (run_of setting phases report run)) (orderly : IsOrderly (run_of setting phases report run)) (kept_too : AreKept (run_of setting phases other second)) (orderly_too : IsOrderly (run_of setting phases other second))
    (number : ℕ) (quiet : IsQuietAt (number + 1) 1 phases) (agree : AgreeBehind (run_of setting phases report run) (run_of setting phases other second) number) where
  abbrev a : Run
  a = run_of setting phases report run

  abbrev b : Run
  b = run_of setting phases other second

  abbrev V : ℕ → ℕ
  V word = word_version (entries_to a number) word

  abbrev W : ℕ → ℕ
  W word = word_version (entries_to b number) word

  abbrev pub ours : List Placed
  ours = events_in (in_phase (number + 1) (places (all_blocks run.blocks)))

  abbrev pub theirs : List Placed
  theirs = events_in (in_phase (number + 1) (places (all_blocks second.blocks)))

  pub lines_same : AreAligned ours theirs
  lines_same =
      subst (λ ps. AreAligned ps theirs) (sym (events_chosen (λ (p : Placed). p.phase == number + 1) (places (all_blocks run.blocks))))
      (subst (AreAligned _) (sym (events_chosen (λ (p : Placed). p.phase == number + 1) (places (all_blocks second.blocks))))
      (aligned_chosen (λ m. m == number + 1) (events_in (places (all_blocks run.blocks))) (events_in (places (all_blocks second.blocks))) (aligned setting phases report other run second)))

  thread_same : (slot place : Option ℕ) → IsSameThread a b number slot place → SameWord a.flags b.flags V W thread_word slot place
  thread_same (Some slot) (Some place) s = s
  thread_same None None s = tt
  thread_same (Some slot) None s = absurd (cc)
  thread_same None (Some place) s = absurd (cc)

  module _ (session : ℕ) where
    abbrev c : Context
    c = told_behind a number session

    abbrev d : Context
    d = told_behind b number session

    threads : SameWord a.flags b.flags V W thread_word c.slot d.slot
    threads = thread_same c.slot d.slot (agree.sessions session).thread

    abbrev Seen : List Opened → List Opened → Type 0
    Seen = AreSeen a.flags b.flags V W agree.words (terms_by a).stack session c.slot d.slot threads

    seen_of : (xs ys : List Opened) → AreSameOpen a b c.slot d.slot xs ys → Seen xs ys
    seen_of [] [] s = tt
    seen_of [] (y ∷ ys) s = absurd s
    seen_of (x ∷ xs) [] s = absurd s
    seen_of (x ∷ xs) (y ∷ ys) s = (record { index = s.0.event.index; subject = s.0.event.subject; verdict = s.0.verdict; seen = s.0.seen }, seen_of xs ys s.1)

    open_of : (xs ys : List Opened) → Seen xs ys → AreSameOpen a b c.slot d.slot xs ys
    open_of [] [] s = tt
    open_of [] (y ∷ ys) s = absurd s
    open_of (x ∷ xs) [] s = absurd s
    open_of (x ∷ xs) (y ∷ ys) s = (record { event = record { index = s.0.index; subject = s.0.subject }; verdict = s.0.verdict; seen = s.0.seen }, open_of xs ys s.1)

    own : (p : Placed) → p.session ≡ session → (p.session == session) ≡ true
    own p e = ap (λ n. n == session) e ∙ eq_self session

    agreed : AreAgreed a.flags b.flags V W agree.words (terms_by a).stack session c.slot d.slot threads ours theirs
    agreed =
        phase_verdicts a.flags b.flags V W agree.words (terms_by a).stack session c.slot d.slot threads c.opened d.opened ours theirs lines_same
        (chained setting phases report run kept orderly number quiet session) (chained setting phases other second kept_too orderly_too number quiet session)
        (each_map (Tells setting phases report run kept orderly number quiet session) (Facts a.flags b.flags V W agree.words (terms_by a).stack session c.slot d.slot threads a.flags V c.slot) ours
        (λ p h. record { event = h.0; fits = h.1; judged = h.2; loads = h.3; slot_is = λ e. ap (λ (z : Home). z.slot) (h.4 (own p e)) }) (tells setting phases report run kept orderly number quiet session))
        (each_map (Tells setting phases other second kept_too orderly_too number quiet session) (Facts a.flags b.flags V W agree.words (terms_by a).stack session c.slot d.slot threads b.flags W d.slot) theirs
        (λ p h. record { event = h.0; fits = h.1; judged = h.2; loads = h.3; slot_is = λ e. ap (λ (z : Home). z.slot) (h.4 (own p e)) }) (tells setting phases other second kept_too orderly_too number quiet session))
        (seen_of c.opened d.opened (agree.sessions session).opened)

  -- of a session's own lines
  abbrev Homes : ℕ → List Placed → List Placed → Type 0
  Homes session ps qs = Each (HasHome session (home_of (told_behind a number session))) ps × Each (HasHome session (home_of (told_behind b number session))) qs

  told_all : (ps qs : List Placed) → AreAligned ps qs → ((session : ℕ) → Homes session ps qs)
      → ((session : ℕ) → AreAgreed a.flags b.flags V W agree.words (terms_by a).stack session (c session).slot (d session).slot (threads session) ps qs) → AreTold a b ps qs
  told_all [] [] l h g = tt
  told_all [] (q ∷ qs) l h g = absurd l
  told_all (p ∷ ps) [] l h g = absurd l
  told_all (p ∷ ps) (q ∷ qs) l h g =
      (one, told_all ps qs l.1 (λ s. ((h s).0.1, (h s).1.1)) (λ s. (g s).1)) where
        mine : home_of p.context ≡ home_of (c p.session)
        mine = (h p.session).0.0 (eq_self p.session)

        its : home_of q.context ≡ home_of (d p.session)
        its = (h p.session).1.0 (ap (λ n. n == p.session) (sym l.0.session) ∙ eq_self p.session)

        both : (verdict_at p.entry ≡ verdict_at q.entry) × Seen p.session p.context.opened q.context.opened
        both = (g p.session).0 refl

        slots : p.context.slot ≡ (c p.session).slot
        slots = ap (λ (z : Home). z.slot) mine

        places_too : q.context.slot ≡ (d p.session).slot
        places_too = ap (λ (z : Home). z.slot) its

        some_thread : (x y : Option ℕ) → IsSameThread a b number x y → is_some x ≡ is_some y
        some_thread (Some x) (Some y) s = refl
        some_thread None None s = s
        some_thread (Some x) None s = s
        some_thread None (Some y) s = s

        one : IsTold a b p q
        one = record {
          line = l.0;
          verdict = both.0;
          slot = ap (λ (o : Option ℕ). is_some o) slots ∙ (some_thread (c p.session).slot (d p.session).slot (agree.sessions p.session).thread ∙ sym (ap (λ (o : Option ℕ). is_some o) places_too));
          account = ap (λ (z : Home). is_some z.account) mine ∙ ((agree.sessions p.session).account ∙ sym (ap (λ (z : Home). is_some z.account) its));
          user = ap (λ (z : Home). is_some z.user) mine ∙ ((agree.sessions p.session).user ∙ sym (ap (λ (z : Home). is_some z.user) its));
          host = ap (λ (z : Home). is_some z.host) mine ∙ ((agree.sessions p.session).host ∙ sym (ap (λ (z : Home). is_some z.host) its));
          opened = subst (λ o. AreSameOpen a b o q.context.slot p.context.opened q.context.opened) (sym slots)
              (subst (λ o. AreSameOpen a b (c p.session).slot o p.context.opened q.context.opened) (sym places_too) (open_of p.session p.context.opened q.context.opened both.1));
        }

  home_events : (session : ℕ) (home : Home) (ps : List Placed) → Each (HasHome session home) ps → Each (HasHome session home) (events_in ps)
  home_events session home ps h = each_map (λ (p : Placed). (is_event p.entry ≡ true) × HasHome session home p) (HasHome session home) (events_in ps) (λ p k. k.1) (each_event (HasHome session home) ps h)

  -- each start and end of the phase
  pub all_told : AreTold a b ours theirs
  all_told = told_all ours theirs lines_same
      (λ s. (
        home_events s (home_of (told_behind a number s)) (in_phase (number + 1) (places (all_blocks run.blocks))) (homes setting phases report run kept orderly number quiet s),
        home_events s (home_of (told_behind b number s)) (in_phase (number + 1) (places (all_blocks second.blocks))) (homes setting phases other second kept_too orderly_too number quiet s),
      ))
      agreed
