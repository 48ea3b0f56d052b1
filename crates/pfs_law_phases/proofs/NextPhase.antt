-- A run over a board before its first phase, behind one phase more, and behind all.
use Rattle.std.proofs.Common.{ℕ, ◌≡◌, ◌+◌, ◌<◌, ◌≤◌, List, [], ◌∷◌, ◌++◌, length, refl, ap, sym, ◌∙◌, subst, arith, append_assoc, append-nil, length-append}
use Rattle.std.proofs.lemmas.Bool.{false≢true}
use Rattle.pfs_admin.specs.OpeningState.{opening_flags}
use Rattle.pfs_admin.specs.declared.changes.Change.{Change}
use Rattle.pfs_board.specs.declared.view.Label.{Label}
use Rattle.pfs_board_store.specs.RootActors.{calls_of_all}
use Rattle.pfs_classes.specs.declared.setting.Setting.{Setting}
use Rattle.pfs_journal.specs.declared.report.PhaseParts.{PhaseParts}
use Rattle.pfs_law_board.specs.PhaseEnds.{AreAllBut, SharedLaw, all_of}
use Rattle.pfs_law_joint.specs.Phases.{IsShared}
use Rattle.pfs_law_plain.specs.Spells.{Spell}
use Rattle.pfs_law_script.proofs.BlocksAhead.{done_phase, done_whole}
use Rattle.pfs_law_script.specs.BlocksAhead.{NoneIsOver, ReachedLaw}
use Rattle.pfs_law_script.specs.Course.{AreSpellsOf, IsCourse, PhasedBlock, numbered, phased}
use Rattle.pfs_law_script.specs.CourseSteps.{NoCourseLaw}
use Rattle.pfs_law_script.specs.CourseSteps.{OneMoreLaw as BlockLaw}
use Rattle.pfs_law_script.specs.ReportSpells.{ArePhasesTold, AreToldOn}
use Rattle.pfs_law_shared.specs.Shares.{actors_of}
use Rattle.pfs_law_shared.specs.Tickets.{IsPlaced}
use Rattle.pfs_law_threads.specs.Phases.{NoneLaw, OneMoreLaw}
use Rattle.pfs_law_threads.specs.Runs.{HasEnded, RunLaw}
use Rattle.pfs_levels.specs.CallOrder.{AllCalls}
use Rattle.pfs_matching.specs.ObjectRules.{opening_objects}
use Rattle.pfs_model.proofs.EachLists.{each_join}
use Rattle.pfs_model.proofs.Floors.{each_map}
use Rattle.pfs_model.specs.Chains.{Each}
use Rattle.pfs_runs.specs.Runs.{AreFinal}
use Rattle.pfs_runs.specs.ScriptLines.{change_in}
use Rattle.pfs_script.specs.declared.blocks.Block.{Block}
use Rattle.pfs_script.specs.declared.blocks.Phase.{Phase}
use Rattle.pfs_law_phases.specs.Behind.{BeginLaw, EndLaw, NextLaw}
use Rattle.pfs_law_phases.proofs.BoardActors.{actors_then, all_then, but_quiet, but_same, calls_then, single_then}
use Rattle.pfs_law_phases.proofs.PlayedBlocks.{IsWalked, played_here, played_single, walked}

-- spells at the blocks of phases stand in these
phased_low : (most number : ℕ) (blocks : List Block) → number ≤ most → Each (λ (one : PhasedBlock). one.phase ≤ most) (phased number blocks)
phased_low most number [] low = tt
phased_low most number (block ∷ blocks) low = (low, phased_low most number blocks low)

numbered_low : (most number : ℕ) (phases : List Phase) → number + length phases ≤ most + 1 → Each (λ (one : PhasedBlock). one.phase ≤ most) (numbered number phases)
numbered_low most number [] low = tt
numbered_low most number (phase ∷ phases) low =
    each_join (λ (one : PhasedBlock). one.phase ≤ most) (phased number phase.blocks) (numbered (number + 1) phases)
    (phased_low most number phase.blocks (omega (arith, low))) (numbered_low most (number + 1) phases (omega (arith, low)))

spells_low : (most : ℕ) (dones : List PhasedBlock) (spells : List Spell) → Each (λ (one : PhasedBlock). one.phase ≤ most) dones → AreSpellsOf dones spells → Each (λ spell. spell.phase ≤ most) spells
spells_low most [] [] low are = tt
spells_low most [] (spell ∷ spells) low are = absurd are
spells_low most (one ∷ others) [] low are = absurd are
spells_low most (one ∷ others) (spell ∷ spells) low are = (omega (arith, low.0, are.0.phase), spells_low most others spells low.1 are.1)

-- ends of earlier phases stay ends, and there is one more
module _ (setting : Setting) (change : Label → Change) (spells now : List Spell) (most : ℕ) (here : Each (λ spell. spell.phase ≡ 1 + most) now) where
  end_on : (report : PhaseParts) → report.number ≤ most → HasEnded setting change spells report → HasEnded setting change (spells ++ now) report
  end_on report low h = record {
    first = h.first;
    later = h.later ++ now;
    parted = ap (λ z. z ++ now) h.parted ∙ append_assoc h.first h.later now;
    low = h.low;
    high = each_join (λ spell. report.number < spell.phase) h.later now h.high (each_map (λ spell. spell.phase ≡ 1 + most) (λ spell. report.number < spell.phase) (λ spell e. omega (arith, low, e)) now here);
    ended = h.ended;
  }

  ends_on : (reports : List PhaseParts) (report : PhaseParts) → AreFinal (λ (r : PhaseParts). r.number ≤ most) reports → AreFinal (HasEnded setting change spells) reports
      → HasEnded setting change (spells ++ now) report → AreFinal (HasEnded setting change (spells ++ now)) (reports ++ report ∷ [])
  ends_on [] report low ended last = (last, tt)
  ends_on (r ∷ rs) report low ended last = (end_on r low.0 ended.0, ends_on rs report low.1 ended.1 last)

  numbers_on : (reports : List PhaseParts) (report : PhaseParts) → AreFinal (λ (r : PhaseParts). r.number ≤ most) reports → report.number ≡ 1 + most
      → AreFinal (λ (r : PhaseParts). r.number ≤ 1 + most) (reports ++ report ∷ [])
  numbers_on [] report low last = (omega (arith, last), tt)
  numbers_on (r ∷ rs) report low last = (omega (arith, low.0), numbers_on rs report low.1 last)

pub begun : NoCourseLaw → NoneLaw → BeginLaw
begun no_course none = λ setting phases depths switches start.
    record {
      course = (no_course setting (change_in phases) depths).course;
      none_over = λ session over. absurd (false≢true over);
      shared = none (opening_flags setting opening_objects);
      placed = tt;
      single = tt;
      ended = tt;
      theirs = refl;
      told = refl;
      finals = tt;
      numbers = tt;
    }

pub next : SharedLaw → BlockLaw → ReachedLaw → AreToldOn → OneMoreLaw → NextLaw
next shared block_more reached told_on phase_more = λ setting phases depths switches start before phase after run now board report is_board parted playable b d.
    (let change : Label → Change = change_in phases in
    let flags : List ℕ = opening_flags setting opening_objects in
    let spells : List Spell = run.spells in
    let most : ℕ = length before in
    let all : List Phase = before ++ phase ∷ [] in
    let long : length all ≡ 1 + most = length-append before (phase ∷ []) ∙ more most in
    let here : Each (λ spell. spell.phase ≡ 1 + most) now = played_here setting change depths spells before phase.blocks now d.played in
    let low : Each (λ spell. spell.phase ≤ most) spells = spells_low most (numbered 1 before) spells (numbered_low most 1 before (omega arith)) b.course.blocks in
    let w : IsWalked block_more reached setting phases depths before phase after parted playable (spells ++ now) =
    walked block_more reached setting phases depths before phase after parted playable [] phase.blocks spells now refl playable.sessions
    (subst (λ z. IsCourse setting change depths z spells) (sym (done_whole before)) b.course) b.none_over d.played in
    let but : AreAllBut (actors_of spells) (calls_of_all board.own ++ calls_of_all (all_of run.ended)) =
    but_quiet (calls_of_all board.own) (actors_of spells) (calls_of_all (all_of run.ended)) d.ended.own b.theirs in
    let behind : AreAllBut (actors_of spells) (calls_of_all (board.own ++ all_of run.ended)) =
    subst (AreAllBut (actors_of spells)) (sym (calls_then board.own (all_of run.ended))) but in
    let one : IsShared flags (actors_of spells) (actors_of now) =
    subst (IsShared flags (actors_of spells)) d.theirs ((shared setting change switches start (board ∷ run.ended) is_board (d.ended, b.ended)).0 (actors_of spells) behind) in
    record {
      course = subst (λ z. IsCourse setting change depths z (spells ++ now)) (sym (done_phase before phase) ∙ done_whole all) w.course;
      none_over = subst (λ n. NoneIsOver (spells ++ now) (numbered n after)) (after_it most ∙ ap (λ n. 1 + n) (sym long)) w.none_over;
      shared = phase_more flags (1 + most) spells now b.shared (each_map (λ spell. spell.phase ≤ most) (λ spell. spell.phase < 1 + most) (λ spell l. omega (arith, l)) spells low) here one;
      placed = subst (AllCalls (Each IsPlaced)) (sym (actors_then spells now)) (all_then (Each IsPlaced) (actors_of now) (actors_of spells) d.placed b.placed);
      single = single_then spells now b.single (played_single setting change depths spells before phase.blocks now playable.sessions d.played)
          (each_map (λ spell. spell.phase ≤ most) (λ spell. Each (λ (other : Spell). other.session ≡ spell.session → other.phase ≡ spell.phase → ⊥) now)
          (λ spell l. each_map (λ other. other.phase ≡ 1 + most) (λ (other : Spell). other.session ≡ spell.session → other.phase ≡ spell.phase → ⊥) (λ other e f g. absurd (omega (arith, l, e, g))) now here) spells low);
      ended = (d.ended, b.ended);
      theirs = subst (λ z. AreAllBut z (calls_of_all (board.actors ++ (board.own ++ all_of run.ended)))) (sym (actors_then spells now))
          (subst (AreAllBut (actors_of now ++ actors_of spells)) (sym (calls_then board.actors (board.own ++ all_of run.ended) ∙ ap (λ z. z ++ calls_of_all (board.own ++ all_of run.ended)) d.theirs))
          (but_same (actors_of now) (actors_of spells) (calls_of_all (board.own ++ all_of run.ended)) behind));
      told = told_on.phase setting 1 before run.reports spells phase report now b.told d.number d.told;
      finals = ends_on setting change spells now most here run.reports report b.numbers b.finals (record {
        first = spells ++ now;
        later = [];
        parted = sym (append-nil (spells ++ now));
        low = each_join (λ spell. spell.phase ≤ report.number) spells now
            (each_map (λ spell. spell.phase ≤ most) (λ spell. spell.phase ≤ report.number) (λ spell l. omega (arith, l, d.number)) spells low)
            (each_map (λ spell. spell.phase ≡ 1 + most) (λ spell. spell.phase ≤ report.number) (λ spell e. omega (arith, e, d.number)) now here);
        high = tt;
        ended = d.read;
      });
      numbers = subst (λ n. AreFinal (λ (r : PhaseParts). r.number ≤ n) (run.reports ++ report ∷ [])) (sym long) (numbers_on setting change spells now most here run.reports report b.numbers d.number);
    }) where
      more : (n : ℕ) → n + 1 ≡ 1 + n
      more n = omega arith

      after_it : (n : ℕ) → 1 + n + 1 ≡ 1 + (1 + n)
      after_it n = omega arith

pub ended : RunLaw → EndLaw
ended run_law = λ setting phases depths switches start run report b format is.
    run_law setting phases report depths run.spells (record { course = b.course; shared = b.shared; placed = b.placed; single = b.single })
    (subst (λ z. ArePhasesTold setting 1 phases z run.spells) (sym is) b.told) format
    (subst (AreFinal (HasEnded setting (change_in phases) run.spells)) (sym is) b.finals)
