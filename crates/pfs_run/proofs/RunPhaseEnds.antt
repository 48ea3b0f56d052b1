-- A run behind the end of a phase.
use Rattle.std.proofs.Common.{ℕ, suc, ◌≡◌, ◌≤◌, ◌+◌, ◌*◌, ◌^◌, List, [], ◌∷◌, ◌++◌, length, append-nil, length-append, refl, ap, sym, ◌∙◌, subst, arith}
use Rattle.std.specs.List.{flat_map}
use Rattle.std.proofs.lemmas.List.Elements.{All-push}
use Rattle.pfs_admin.specs.AdministrationStates.{State as Administration}
use Rattle.pfs_admin.specs.Fold.{state_of}
use Rattle.pfs_admin.specs.OpeningState.{opening_flags}
use Rattle.pfs_law_plain.specs.Spells.{Spell, calls_of}
use Rattle.pfs_classes.specs.declared.setting.Setting.{Setting}
use Rattle.pfs_law_script.proofs.BlocksAhead.{done_phase}
use Rattle.pfs_law_script.proofs.ReportSpells.{phases_more}
use Rattle.pfs_law_script.specs.BlocksAhead.{NoneIsOver, ahead_of, done_before}
use Rattle.pfs_law_script.specs.Course.{IsCourse, PhasedBlock, numbered}
use Rattle.pfs_law_script.specs.ReportSpells.{ArePhasesTold, AreTold}
use Rattle.pfs_law_report.proofs.SpellCalls.{leads_still}
use Rattle.pfs_law_report.proofs.NextPhase.{AreCounted, end_of, ended_now, ended_last}
use Rattle.pfs_law_report.specs.PhaseEnds.{HasEnded, IsEnd}
use Rattle.pfs_finals.specs.Counters.{counters, lost_row}
use Rattle.pfs_finals.specs.Finals.{all_readings}
use Rattle.pfs_finals.specs.Finals.{AreFinal as AreTables}
use Rattle.pfs_finals.specs.declared.counters.LostCounters.{LostCounters}
use Rattle.pfs_journal.specs.Reports.{IsPhase}
use Rattle.pfs_journal.specs.declared.blocks.BlockReport.{BlockReport}
use Rattle.pfs_journal.specs.declared.report.PhaseParts.{PhaseParts}
use Rattle.pfs_levels.specs.Calls.{Call, Opening}
use Rattle.pfs_board.specs.declared.view.Label.{Label}
use Rattle.pfs_containers.specs.ContainerState.{lost_in}
use Rattle.pfs_containers.specs.declared.containers.Lost.{Lost}
use Rattle.pfs_levels.specs.PlainStore.{AllAnswer, labels_after}
use Rattle.pfs_levels.specs.Views.{Store, Same}
use Rattle.pfs_matching.specs.ObjectRules.{opening_objects}
use Rattle.pfs_model.specs.Chains.{Each, each_of, times}
use Rattle.pfs_reader.specs.Readings.{calls_of as calls_of_readings}
use Rattle.pfs_law_plain.proofs.ReadCalls.{LeadAlike}
use Rattle.pfs_law_plain.specs.RunRules.{entries_of, labels_of}
use Rattle.pfs_runs.specs.PhaseFinals.{is_digest_lost, is_lost_nested, is_lost_locker, verdict_at}
use Rattle.pfs_runs.specs.ScriptLines.{change_in}
use Rattle.pfs_runs.specs.Runs.{AreFinal}
use Rattle.pfs_script.specs.declared.blocks.Block.{Block}
use Rattle.pfs_script.specs.declared.blocks.Phase.{Phase}
use Rattle.pfs_seats.proofs.ReportedPhases.{told_long}
use Rattle.pfs_seats.specs.Seats.{Sits, depth_of, seat_of}
use Rattle.pfs_run.specs.RunPositions.{IsAlong, Standing, position}

-- the spells of phases that are told stand in them
abbrev AreUpTo : ℕ → List Spell → Type 0
AreUpTo most spells = Each (λ spell. spell.phase ≤ most) spells

up_to_then : (most : ℕ) (xs ys : List Spell) → AreUpTo most xs → AreUpTo most ys → AreUpTo most (xs ++ ys)
up_to_then most [] ys a b = b
up_to_then most (x ∷ xs) ys a b = (a.0, up_to_then most xs ys a.1 b)

told_up_to : (setting : Setting) (most number : ℕ) (blocks : List Block) (spells : List Spell) (reports : List BlockReport) → number ≤ most → AreTold setting number blocks spells reports → AreUpTo most spells
told_up_to setting most number [] [] [] low are = tt
told_up_to setting most number [] [] (z ∷ zs) low are = absurd are
told_up_to setting most number [] (y ∷ ys) reports low are = absurd are
told_up_to setting most number (x ∷ xs) [] reports low are = absurd are
told_up_to setting most number (x ∷ xs) (y ∷ ys) [] low are = absurd are
told_up_to setting most number (x ∷ xs) (y ∷ ys) (z ∷ zs) low are = (below y.phase are.0.phase, told_up_to setting most number xs ys zs low are.1) where
  below : (n : ℕ) → n ≡ number → n ≤ most
  below n e = omega (arith, e, low)

phases_up_to : (setting : Setting) (most number : ℕ) (phases : List Phase) (reports : List PhaseParts) (spells : List Spell) → number + length phases ≤ most + 1 → ArePhasesTold setting number phases reports spells → AreUpTo most spells
phases_up_to setting most number [] [] spells low are = subst (AreUpTo most) (sym are) tt
phases_up_to setting most number [] (y ∷ ys) spells low are = absurd are
phases_up_to setting most number (x ∷ xs) [] spells low are = absurd are
phases_up_to setting most number (x ∷ xs) (y ∷ ys) spells low are =
    subst (AreUpTo most) (sym are.2.split)
    (up_to_then most are.0 are.1 (told_up_to setting most number x.blocks are.0 y.blocks (here number (length xs) low) are.2.blocks) (phases_up_to setting most (number + 1) xs ys are.1 (later number (length xs) low) are.3)) where
      here : (n m : ℕ) → n + suc m ≤ most + 1 → n ≤ most
      here n m h = omega (arith, h)

      later : (n m : ℕ) → n + suc m ≤ most + 1 → n + 1 + m ≤ most + 1
      later n m h = omega (arith, h)

-- numbers of phases with one more
numbers_more : (most now : ℕ) (reports : List PhaseParts) (report : PhaseParts) → most ≤ now → report.number ≤ now → AreFinal (λ (r : PhaseParts). r.number ≤ most) reports
    → AreFinal (λ (r : PhaseParts). r.number ≤ now) (reports ++ report ∷ [])
numbers_more most now [] report low one all = (one, tt)
numbers_more most now (r ∷ rs) report low one all = (within r.number all.0, numbers_more most now rs report low one all.1) where
  within : (n : ℕ) → n ≤ most → n ≤ now
  within n h = omega (arith, h, low)

-- of containers it was lost what the counters say
abbrev pub lost_of : LostCounters → Lost
lost_of counters = record { threads = counters.threads; accounts = counters.accounts; users = counters.users; hosts = counters.hosts }

-- what a phase's end leaves: the store, read and no more, and the report
pub record IsEndOf (setting : Setting) (phases : List Phase) (run : Standing) (now : Store) (report : PhaseParts) : Type 0 where
  pub answers : (start : Opening) (calls : List Call) → now.reached start calls → AllAnswer start.flags calls
  pub kept : Same run.store now
  pub number : report.number ≡ length run.ended + 1
  pub blocks : report.blocks ≡ run.told
  pub tables : AreTables setting report.tables run.store.reached now.reached
  pub counters_of : LostCounters
  pub containers : (start : Opening) (calls : List Call) → now.reached start calls → lost_in (state_of setting (change_in phases) (labels_after calls)).kept.now ≡ lost_of counters_of
  pub digests : counters_of.digests ≡ run.lost.digests
  pub statements : counters_of.statements ≡ run.lost.statements
  pub waits : counters_of.waits ≡ run.lost.waits
  pub good : IsPhase report
  pub lost_are : report.lost ≡ flat_map (lost_row setting.classes counters_of) counters

-- the run behind it, with these phases ended and these blocks told
abbrev pub behind : Standing → Store → List PhaseParts → List BlockReport → Standing
behind run store ended told = record run { store = store; ended = ended; told = told }

abbrev pub as_phase : List Block → Phase
as_phase blocks = record { blocks = blocks }

phase_ended : (setting : Setting) (phases before : List Phase) (first : List Block) (after : List Phase) (run : Standing) (now : Store) (report : PhaseParts) → IsAlong setting phases (position before first (ahead_of before [] after)) run
    → IsEndOf setting phases run now report → IsAlong setting phases (position (before ++ as_phase first ∷ []) [] (numbered (1 + length (before ++ as_phase first ∷ [])) after)) (behind run now (run.ended ++ report ∷ []) [])
phase_ended setting phases before first after run now report a e =
    let spells : List Spell = a.earlier ++ a.current in
    let phase : Phase = as_phase first in
    let all : List Phase = before ++ phase ∷ [] in
    let done : List PhasedBlock = done_before before first in
    let same : spells ≡ spells ++ [] = sym (append-nil spells) in
    let further : done ≡ done_before all [] = sym (done_phase before phase) in
    let long : length all ≡ length before + 1 = length-append before (phase ∷ []) in
    let number : report.number ≡ 1 + length before = omega (arith, e.number, told_long setting 1 before run.ended a.earlier a.phases_told) in
    let read : List Call = calls_of_readings (all_readings e.tables.reads) in
    let led : now.reached a.start (read ++ a.calls) = e.tables.calls a.start a.calls a.led in
    let low : AreUpTo report.number spells =
    up_to_then report.number a.earlier a.current (phases_up_to setting report.number 1 before run.ended a.earlier (omega (arith, number)) a.phases_told)
    (told_up_to setting report.number (1 + length before) first a.current run.told (omega (arith, number)) a.blocks_told) in
    let admin : Administration = state_of setting (change_in phases) (labels_of spells) in
    let still : LeadAlike (read ++ a.calls) (calls_of spells) = leads_still (all_readings e.tables.reads) a.calls (calls_of spells) a.alike in
    let lost : lost_in admin.kept.now ≡ lost_of e.counters_of = ap (λ (z : List Label). lost_in (state_of setting (change_in phases) z).kept.now) (sym still.labels) ∙ e.containers a.start (read ++ a.calls) led in
    let counted : AreCounted admin.kept.now spells e.counters_of = record {
      threads = sym (ap (λ (z : Lost). z.threads) lost);
      accounts = sym (ap (λ (z : Lost). z.accounts) lost);
      users = sym (ap (λ (z : Lost). z.users) lost);
      hosts = sym (ap (λ (z : Lost). z.hosts) lost);
      digests = e.digests ∙ a.digests;
      statements = e.statements ∙ a.statements;
      waits = e.waits ∙ a.waits;
    } in
    let answers : AllAnswer (opening_flags setting opening_objects) (read ++ a.calls) = subst (λ z. AllAnswer z (read ++ a.calls)) a.opens (e.answers a.start (read ++ a.calls) led) in
    let is_end : IsEnd setting (change_in phases) spells a.calls report =
    end_of setting (change_in phases) spells a.calls report run.store.reached now.reached admin e.counters_of a.alike e.tables answers refl counted e.lost_are in
    let finals : AreFinal (HasEnded setting (change_in phases) spells) (run.ended ++ report ∷ []) =
    ended_last setting (change_in phases) spells run.ended report a.finals (ended_now setting (change_in phases) spells a.calls report low is_end) in
    let told_now : AreTold setting report.number first a.current report.blocks =
    subst (λ z. AreTold setting report.number first a.current z) (sym e.blocks) (subst (λ n. AreTold setting n first a.current run.told) (sym number) a.blocks_told) in
    record {
      limits = a.limits;
      earlier = spells;
      current = [];
      course = subst (λ z. IsCourse setting (change_in phases) (depth_of phases) (done_before all []) z) same
          (subst (λ z. IsCourse setting (change_in phases) (depth_of phases) z spells) further a.course);
      answer = subst (λ z. AllAnswer (opening_flags setting opening_objects) (calls_of z)) same a.answer;
      none_over = subst (λ z. NoneIsOver z (numbered (1 + length all) after)) same
          (subst (λ n. NoneIsOver spells (numbered n after)) (one_further (length before) (length all) long) a.none_over);
      phases_told = phases_more setting 1 before run.ended a.earlier phase report a.current a.phases_told number told_now;
      blocks_told = tt;
      finals = subst (λ z. AreFinal (HasEnded setting (change_in phases) z) (run.ended ++ report ∷ [])) same finals;
      numbers = numbers_more (length before) (length all) run.ended report (omega (arith, long)) (omega (arith, long, number)) a.numbers;
      good = All-push IsPhase run.ended report a.good e.good;
      start = a.start;
      opens = a.opens;
      calls = read ++ a.calls;
      led = led;
      alike = subst (λ z. LeadAlike (read ++ a.calls) (calls_of z)) same still;
      spare = subst (λ z. 2 ^ 47 ≤ now.left + 340000000 * length z) further (subst (λ z. 2 ^ 47 ≤ z + 340000000 * length done) (sym e.kept.left) a.spare);
      tickets = subst (λ z. 2 ^ 47 ≤ now.draws + 400000 * length z) further (subst (λ z. 2 ^ 47 ≤ z + 400000 * length done) (sym e.kept.draws) a.tickets);
      wide = a.wide;
      seated = λ session one many. subst (λ z. Sits setting phases (done_before all []) z session (seat_of run.seats session)) same
          (subst (λ z. Sits setting phases z spells session (seat_of run.seats session)) further (a.seated session one many));
      digests = subst (λ z. run.lost.digests ≡ times is_digest_lost (entries_of z)) same a.digests;
      statements = subst (λ z. run.lost.statements ≡ times is_lost_nested (each_of verdict_at (entries_of z))) same a.statements;
      waits = subst (λ z. run.lost.waits ≡ times is_lost_locker (each_of verdict_at (entries_of z))) same a.waits;
      few_digests = subst (λ z. run.lost.digests ≤ 1200012 * length z) further a.few_digests;
      few_statements = subst (λ z. run.lost.statements ≤ 200002 * length z) further a.few_statements;
      few_waits = subst (λ z. run.lost.waits ≤ 200002 * length z) further a.few_waits;
    } where
      one_further : (n m : ℕ) → m ≡ n + 1 → 1 + n + 1 ≡ 1 + m
      one_further n m e = omega (arith, e)

-- with that report behind those so far, and no block told
pub ended_along : (setting : Setting) (phases before : List Phase) (first : List Block) (after : List Phase) (run : Standing) (now : Store) (ended_now : List PhaseParts) (told_now : List BlockReport) (report : PhaseParts)
    → IsAlong setting phases (position before first (ahead_of before [] after)) run → IsEndOf setting phases run now report → ended_now ≡ run.ended ++ report ∷ [] → told_now ≡ []
    → IsAlong setting phases (position (before ++ as_phase first ∷ []) [] (numbered (1 + length (before ++ as_phase first ∷ [])) after)) (behind run now ended_now told_now)
ended_along setting phases before first after run now ended_now told_now report a e reports none =
    let along : (reports : List PhaseParts) → List BlockReport → Type 0 = λ reports told. IsAlong setting phases (position (before ++ as_phase first ∷ []) []
    (numbered (1 + length (before ++ as_phase first ∷ [])) after)) (behind run now reports told) in
    subst (λ z. along ended_now z) (sym none) (subst (λ z. along z []) (sym reports) (phase_ended setting phases before first after run now report a e))
