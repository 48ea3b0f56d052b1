-- Jobs of a phase over a board: each waits for its block as it is handed out, and what it did is its actor's calls.
use Rattle.std.proofs.Common.{ℕ, false, ◌≡◌, ◌+◌, ◌*◌, ◌≤◌, List, [], ◌∷◌, ◌++◌, Option, Some, None, IfSome, IsSome, IsSomeAnd, length, refl, ap, sym, ◌∙◌, subst, arith, All}
use Rattle.std.proofs.lemmas.Bool.{false≢true}
use Rattle.std.proofs.lemmas.List.Elements.{All-head, All-tail}
use Rattle.pfs_actor.specs.ActionAsks.{MayConnect}
use Rattle.pfs_actor.specs.ActorDeeds.{AreLabelled, HaveLed}
use Rattle.pfs_admin.specs.OpeningState.{opening_flags}
use Rattle.pfs_admin.specs.declared.changes.Change.{Change}
use Rattle.pfs_blocks.specs.BlockNeeds.{need_of_block}
use Rattle.pfs_blocks.specs.PlayedBlocks.{HasPlayed, MayEnd}
use Rattle.pfs_board.specs.declared.view.Label.{Label}
use Rattle.pfs_board_root.specs.Roots.{HasSplit, HasTakenIn, RootView, opening_at}
use Rattle.pfs_board_store.specs.RootActors.{Worked}
use Rattle.pfs_classes.specs.declared.setting.Setting.{Setting}
use Rattle.pfs_event.specs.declared.entry.Entry.{Entry}
use Rattle.pfs_jobs.specs.Jobs.{AreWaiting, HasPlayedBlock, HasRun, HaveRun, IsWaiting, MayPlayBlock}
use Rattle.pfs_jobs.specs.declared.jobs.Job.{Job}
use Rattle.pfs_law_plain.specs.LineSteps.{kinds_at}
use Rattle.pfs_law_plain.specs.Spells.{doings_calls}
use Rattle.pfs_law_session.specs.JournalLaws.{AreParts, MayDoAll, entries_of, state_behind}
use Rattle.pfs_levels.specs.Calls.{Call, Opening}
use Rattle.pfs_levels.specs.Views.{Store}
use Rattle.pfs_matching.specs.ObjectRules.{opening_objects}
use Rattle.pfs_model.specs.JournalCuts.{joined}
use Rattle.pfs_play.specs.Errands.{LabelsName, StagesLie, kinds_after}
use Rattle.pfs_runs.specs.SelectAnswers.{Answer}
use Rattle.pfs_runs.specs.ScriptLines.{changes_in}
use Rattle.pfs_script.specs.Marks.{written_out}
use Rattle.pfs_script.specs.declared.blocks.Block.{Block}
use Rattle.pfs_session.specs.SessionStates.{Book, State}
use Rattle.pfs_board_run.specs.BoardRuns.{AllMayRun, HasRunBlock, HasRunPhase, HaveRunBlocks, IsAt, MayRun, newest_first, share_of_each, spare_of, tickets_of}
use Rattle.pfs_board_run.specs.JobLists.{AreHandedOut, AreKnownJobs, AreResults, IsHandedOut, IsPaused, publications_left, tickets_left}
use Rattle.pfs_board_run.specs.declared.board.Ran.{Ran}

some_map : {X : Type 0} (P Q : X → Type 0) (o : Option X) → ((x : X) → P x → Q x) → IsSomeAnd o P → IsSomeAnd o Q
some_map P Q None f h = absurd h
some_map P Q (Some x) f h = f x h

one_waiting : {A : Type 0} (fixed : Setting) (change : Label → Change) (seen : A → Store) (start : Opening) (block : Block) (old : Book) (job : Job A) → MayRun fixed change block old → IsHandedOut seen start block old job → IsWaiting fixed change seen block job
one_waiting fixed change seen start block old job may out = some_map _ _ job.session step out.session
  where
    step : (session : Book) → (session.state ≡ old.state) × (session.journal.entries ≡ old.journal.entries) × ((need_of_block block).entries ≤ session.journal.room) → MayPlayBlock fixed change block session (seen job.actor)
    step session h =
        let e : old.state ≡ session.state = sym h.0 in
        record {
          named = subst (λ (s : State). LabelsName change s.number s.actions (changes_in block)) e may.named;
          connects = subst (λ (s : State). IfSome block.connect (λ names. MayConnect s fixed names.user names.host)) e may.connects;
          may = subst (λ (s : State). MayEnd s.opened.depth (kinds_at s) block.lines) e may.may;
          lie = subst (λ (s : State). StagesLie (kinds_at s)) e may.lie;
          free = ap (λ (s : State). s.held) h.0 ∙ may.free;
          ready = record {
            early = omega (arith, may.early, ap (λ (s : State). s.drawn) h.0);
            rare = omega (arith, may.rare, ap (λ (s : State). s.actions) h.0);
            begun = (start, [], out.began);
            affords = record { left = omega (arith, out.left, may.short, may.few); draws = omega (arith, out.draws, may.short); room = h.2 };
          };
        }

pub all_waiting : {A : Type 0} (fixed : Setting) (change : Label → Change) (seen : A → Store) (opening : ℕ → Opening) (n : ℕ) (blocks : List Block) (olds : List Book) (jobs : List (Job A)) → AllMayRun fixed change blocks olds
    → AreHandedOut seen opening n blocks olds jobs → AreWaiting fixed change seen blocks jobs
all_waiting fixed change seen opening n [] [] [] m o = tt
all_waiting {A} fixed change seen opening n (block ∷ blocks) (old ∷ olds) (job ∷ jobs) m o =
    (one_waiting {A = A} fixed change seen (opening n) block old job m.0 o.0, all_waiting {A = A} fixed change seen opening (n + 1) blocks olds jobs m.1 o.1)
all_waiting fixed change seen opening n [] [] (job ∷ jobs) m o = absurd o
all_waiting fixed change seen opening n [] (old ∷ olds) [] m o = absurd o
all_waiting fixed change seen opening n [] (old ∷ olds) (job ∷ jobs) m o = absurd o
all_waiting fixed change seen opening n (block ∷ blocks) [] [] m o = absurd o
all_waiting fixed change seen opening n (block ∷ blocks) [] (job ∷ jobs) m o = absurd o
all_waiting fixed change seen opening n (block ∷ blocks) (old ∷ olds) [] m o = absurd o

-- a block that was played from an opening with no calls is tied to just the calls that it made
record HasCalls (setting fixed : Setting) (change : Label → Change) (block : Block) (old new : Book) (given : List Answer) (start : Opening) (now : Opening → List Call → Type 0) : Type 0 where
  pub calls : List Call
  pub reached : now start calls
  pub played : HasPlayed setting fixed change block old new [] given (IsAt start []) (IsAt start calls)

calls_of_play : (setting fixed : Setting) (change : Label → Change) (block : Block) (old session new : Book) (before given : List Answer) (start : Opening) (was now : Opening → List Call → Type 0) → session.state ≡ old.state
    → session.journal.entries ≡ old.journal.entries → before ≡ [] → was start [] → HasPlayed setting fixed change block session new before given was now → HasCalls setting fixed change block old new given start now
calls_of_play setting fixed change block old session new before given start was now es ee none opened p =
    let d = p.did in
    let way : HaveLed fixed change session.state d.parts start [] now = d.done.leads start [] opened in
    let calls : List Call = doings_calls way.doings ++ [] in
    let lead : (s : Opening) → (c : List Call) → IsAt start [] s c → HaveLed fixed change old.state d.parts s c (IsAt start calls) = λ s c at.
    subst (λ (z : Opening). HaveLed fixed change old.state d.parts z c (IsAt start calls)) (sym at.0) (subst (λ (z : List Call). HaveLed fixed change old.state d.parts start z (IsAt start calls)) (sym at.1)
    (record { doings = way.doings; parts_are = way.parts_are; labelled = subst (λ (z : State). AreLabelled z way.doings) es way.labelled; folded = way.folded; reached = (refl, refl) })) in
    record {
      calls = calls;
      reached = way.reached;
      played = record {
        over = p.over;
        did = record {
          parts = d.parts;
          asked = d.asked;
          may = subst (λ (z : State). MayDoAll false z d.parts) es d.may;
          over_is = d.over_is;
          given = d.given;
          given_are = d.given_are ∙ ap (λ z. z ++ d.given) none;
          answered = d.answered;
          done = record {
            are_parts = subst (λ (z : State). AreParts z d.parts) es d.done.are_parts;
            state = d.done.state ∙ ap (λ (z : State). state_behind z d.parts) es;
            entries_are = d.done.entries_are ∙ ap (λ (z : List Entry). z ++ joined (entries_of d.parts)) ee;
            leads = lead;
          };
        };
      };
    }

-- what jobs did that all are paused: the calls of their actors, by which these may be taken in, and the rest by what they
-- leave
pub record HaveCalls {A : Type 0} (setting fixed : Setting) (change : Label → Change) (seen : A → Store) (r : RootView) (opening : ℕ → Opening) (n : ℕ) (blocks : List Block) (olds : List Book) (jobs : List (Job A)) : Type 0 where
  pub ws : List Worked
  pub known : AreKnownJobs r seen ws jobs
  pub each : (rans : List Ran) → AreResults jobs rans → HaveRunBlocks setting fixed change opening n blocks olds rans ws
  pub spare : length blocks * share_of_each ≤ publications_left seen jobs + spare_of blocks
  pub tickets : length blocks * share_of_each ≤ tickets_left seen jobs + tickets_of blocks

record HasOneCalls {A : Type 0} (setting fixed : Setting) (change : Label → Change) (seen : A → Store) (start : Opening) (block : Block) (old : Book) (job : Job A) : Type 0 where
  pub calls : List Call
  pub reached : (seen job.actor).reached start calls
  pub each : (ran : Ran) → job.paused ≡ Some ran.paused → job.answers.items ≡ ran.answers.items → HasRunBlock setting fixed change start block old ran (record { start = start; calls = calls })
  pub spare : share_of_each ≤ (seen job.actor).left + (need_of_block block).spare
  pub tickets : share_of_each ≤ (seen job.actor).draws + (need_of_block block).tickets

abbrev book_or : Book → Option Book → Book
book_or a None = a
book_or a (Some b) = b

some_book : (a b : Book) → Some a ≡ Some b → a ≡ b
some_book a b e = ap (λ (o : Option Book). book_or a o) e

one_calls : {A : Type 0} (setting fixed : Setting) (change : Label → Change) (seen : A → Store) (start : Opening) (block : Block) (old : Book) (before job : Job A) → IsHandedOut seen start block old before → HasRun setting fixed change seen block before job
    → IsPaused job → HasOneCalls setting fixed change seen start block old job
one_calls {A} setting fixed change seen start block old before job out run paused = at before.session job.paused refl refl out.session run paused
  where
    at : (s : Option Book) (p : Option Book) → before.session ≡ s → job.paused ≡ p → IsSomeAnd s (λ session. (session.state ≡ old.state) × (session.journal.entries ≡ old.journal.entries) × ((need_of_block block).entries ≤ session.journal.room))
        → IsSomeAnd s (λ session. IfSome p (λ new. HasPlayedBlock setting fixed change block session new before.answers.items job.answers.items (seen before.actor) (seen job.actor))) → IsSome p → HasOneCalls setting fixed change seen start block old job
    at None p es ep h r i = absurd h
    at (Some session) None es ep h r i = absurd (false≢true i)
    at (Some session) (Some new) es ep h r i =
        let d = calls_of_play setting fixed change block old session new before.answers.items job.answers.items start (seen before.actor).reached (seen job.actor).reached h.0 h.1 out.answers out.began r.did in
        record {
          calls = d.calls;
          reached = d.reached;
          each = λ ran is answers.
              let same : new ≡ ran.paused = some_book new ran.paused (sym ep ∙ is) in
              record {
                start_is = refl;
                played = subst (λ (z : Book). HasPlayed setting fixed change block old z [] ran.answers.items (IsAt start []) (IsAt start d.calls)) same
                    (subst (λ (z : List Answer). HasPlayed setting fixed change block old new [] z (IsAt start []) (IsAt start d.calls)) answers d.played);
                kinds = subst (λ (z : Book). kinds_at z.state ≡ kinds_after (kinds_at old.state) (written_out block.lines)) same (r.kinds ∙ ap (λ (z : State). kinds_after (kinds_at z) (written_out block.lines)) h.0);
                lie = subst (λ (z : Book). StagesLie (kinds_at z.state)) same r.lie;
                free = ap (λ (z : Book). z.state.held) (sym same) ∙ r.free;
                drawn = omega (arith, ap (λ (z : Book). z.state.drawn) same, r.within.drawn, ap (λ (z : State). z.drawn) h.0);
                actions = omega (arith, ap (λ (z : Book). z.state.actions) same, r.within.actions, ap (λ (z : State). z.actions) h.0);
                number = ap (λ (z : Book). z.state.number) (sym same) ∙ (r.within.number ∙ ap (λ (z : State). z.number) h.0);
                depth = ap (λ (z : Book). z.state.opened.depth) (sym same) ∙ (r.within.depth ∙ ap (λ (z : State). z.opened.depth) h.0);
              };
          spare = omega (arith, r.within.used.left, out.left);
          tickets = omega (arith, r.within.used.draws, out.draws);
        }

-- the tables of an opening are the root's
abbrev pub AreOf : RootView → (ℕ → Opening) → Type 0
AreOf r opening = (k : ℕ) → ((opening k).board.table ≡ r.board) × ((opening k).switches.table ≡ r.switches) × ((opening k).tickets.table ≡ r.tickets)

pub all_calls : {A : Type 0} (setting fixed : Setting) (change : Label → Change) (seen : A → Store) (r : RootView) (opening : ℕ → Opening) (n : ℕ) (blocks : List Block) (olds : List Book) (before jobs : List (Job A)) → AreOf r opening
    → AreHandedOut seen opening n blocks olds before → HaveRun setting fixed change seen blocks before jobs → All IsPaused jobs → HaveCalls setting fixed change seen r opening n blocks olds jobs
all_calls {A} setting fixed change seen r opening n [] [] [] [] of out run paused = record { ws = []; known = tt; each = none; spare = omega arith; tickets = omega arith }
  where
    none : (rans : List Ran) → AreResults {A = A} [] rans → HaveRunBlocks setting fixed change opening n [] [] rans []
    none [] a = tt
    none (ran ∷ rans) a = absurd a
all_calls {A} setting fixed change seen r opening n (block ∷ blocks) (old ∷ olds) (was ∷ before) (job ∷ jobs) of out run paused =
    let one = one_calls {A = A} setting fixed change seen (opening n) block old was job out.0 run.0 (All-head IsPaused job jobs paused) in
    let rest = all_calls {A = A} setting fixed change seen r opening (n + 1) blocks olds before jobs of out.1 run.1 (All-tail IsPaused job jobs paused) in
    let w : Worked = record { start = opening n; calls = one.calls } in
    record {
      ws = w ∷ rest.ws;
      known = (record { board = (of n).0; switches = (of n).1; tickets = (of n).2; reached = one.reached }, rest.known);
      each = some one rest;
      spare = omega (arith, one.spare, rest.spare);
      tickets = omega (arith, one.tickets, rest.tickets);
    }
  where
    some : (one : HasOneCalls setting fixed change seen (opening n) block old job) (rest : HaveCalls setting fixed change seen r opening (n + 1) blocks olds jobs) (rans : List Ran) → AreResults (job ∷ jobs) rans
        → HaveRunBlocks setting fixed change opening n (block ∷ blocks) (old ∷ olds) rans (record { start = opening n; calls = one.calls } ∷ rest.ws)
    some one rest [] a = absurd a
    some one rest (ran ∷ rans) a = (one.each ran a.0 a.1, rest.each rans a.2)
all_calls setting fixed change seen r opening n [] [] [] (job ∷ jobs) of out run paused = absurd run
all_calls setting fixed change seen r opening n (block ∷ blocks) (old ∷ olds) (was ∷ before) [] of out run paused = absurd run
all_calls setting fixed change seen r opening n [] [] (was ∷ before) jobs of out run paused = absurd out
all_calls setting fixed change seen r opening n [] (old ∷ olds) [] jobs of out run paused = absurd out
all_calls setting fixed change seen r opening n [] (old ∷ olds) (was ∷ before) jobs of out run paused = absurd out
all_calls setting fixed change seen r opening n (block ∷ blocks) [] [] jobs of out run paused = absurd out
all_calls setting fixed change seen r opening n (block ∷ blocks) [] (was ∷ before) jobs of out run paused = absurd out
all_calls setting fixed change seen r opening n (block ∷ blocks) (old ∷ olds) [] jobs of out run paused = absurd out

-- as many jobs as blocks
pub as_many_run : {A : Type 0} (setting fixed : Setting) (change : Label → Change) (seen : A → Store) (blocks : List Block) (before jobs : List (Job A)) → HaveRun setting fixed change seen blocks before jobs → length jobs ≡ length blocks
as_many_run setting fixed change seen [] [] [] run = refl
as_many_run {A} setting fixed change seen (block ∷ blocks) (was ∷ before) (job ∷ jobs) run = omega (arith, as_many_run {A = A} setting fixed change seen blocks before jobs run.1)
as_many_run setting fixed change seen [] [] (job ∷ jobs) run = absurd run
as_many_run setting fixed change seen [] (was ∷ before) jobs run = absurd run
as_many_run setting fixed change seen (block ∷ blocks) [] jobs run = absurd run
as_many_run setting fixed change seen (block ∷ blocks) (was ∷ before) [] run = absurd run

-- the tables of those that were split off are still the root's
pub of_split : (flags : List ℕ) (count p d : ℕ) (old new : RootView) → HasSplit count p d old new → AreOf new (opening_at flags old p d)
of_split flags count p d old new s k = (sym s.board, sym s.switches, sym s.tickets)

-- the calls of all their actors, as the root that handed them out may take them in
pub calls_out : {A : Type 0} (setting fixed : Setting) (change : Label → Change) (seen : A → Store) (flags : List ℕ) (blocks : List Block) (olds : List Book) (before jobs : List (Job A)) (old between : RootView)
    → HasSplit (length blocks) share_of_each share_of_each old between → AreHandedOut seen (opening_at flags old share_of_each share_of_each) 1 blocks olds before → HaveRun setting fixed change seen blocks before jobs → All IsPaused jobs
    → HaveCalls setting fixed change seen between (opening_at flags old share_of_each share_of_each) 1 blocks olds jobs
calls_out {A} setting fixed change seen flags blocks olds before jobs old between split out ran paused =
    all_calls {A = A} setting fixed change seen between (opening_at flags old share_of_each share_of_each) 1 blocks olds before jobs (of_split flags (length blocks) share_of_each share_of_each old between split) out ran paused

-- all in all, once the root has taken them in
pub phase_run : {A : Type 0} (setting fixed : Setting) (change : Label → Change) (seen : A → Store) (blocks : List Block) (olds : List Book) (jobs : List (Job A)) (rans : List Ran) (old between new : RootView)
    → HasSplit (length blocks) share_of_each share_of_each old between
    → HaveCalls setting fixed change seen between (opening_at (opening_flags fixed opening_objects) old share_of_each share_of_each) 1 blocks olds jobs → AreResults jobs rans
    → ((ws : List Worked) → AreKnownJobs between seen ws jobs → HasTakenIn fixed change (newest_first ws) between new) → new.seat.allowance ≡ between.seat.allowance + publications_left seen jobs
    → new.draws.draws ≡ between.draws.draws + tickets_left seen jobs → HasRunPhase setting fixed change blocks olds rans old new
phase_run setting fixed change seen blocks olds jobs rans old between new split calls results taken back draws = record {
  ws = calls.ws;
  each = calls.each rans results;
  between = between;
  split = split;
  taken = taken calls.ws calls.known;
  spare = omega (arith, split.allowance, calls.spare, back);
  tickets = omega (arith, split.left, calls.tickets, draws);
}
