-- A run before its first block.
use Rattle.std.proofs.Common.{ℕ, ◌≡◌, ◌≤◌, ◌-◌, ◌^◌, List, [], length, replicate, Option, None, refl, ap, sym, ◌∙◌, subst, arith}
use Rattle.std.specs.List.{All}
use Rattle.std.proofs.lemmas.List.Elements.{All-nil}
use Rattle.std.proofs.lemmas.List.{get_or-replicate, length-replicate}
use Rattle.pfs_admin.specs.OpeningState.{opening_flags}
use Rattle.pfs_classes.specs.declared.setting.Setting.{Setting}
use Rattle.pfs_law_script.proofs.BlocksAhead.{none_yet}
use Rattle.pfs_law_script.specs.Course.{numbered}
use Rattle.pfs_law_script.specs.CourseSteps.{IsBegun}
use Rattle.pfs_law_script.specs.ReportSpells.{ArePhasesTold, AreTold}
use Rattle.pfs_law_report.proofs.JournalLosses.{started_in}
use Rattle.pfs_law_report.proofs.DigestLosses.{lost_in}
use Rattle.pfs_law_report.specs.PhaseEnds.{HasEnded}
use Rattle.pfs_journal.specs.Reports.{IsPhase}
use Rattle.pfs_journal.specs.declared.report.PhaseParts.{PhaseParts}
use Rattle.pfs_levels.specs.Calls.{Opening, Start}
use Rattle.pfs_matching.specs.ObjectRules.{opening_objects}
use Rattle.pfs_rows.specs.Limits.{AreInRange}
use Rattle.pfs_law_plain.proofs.ReadCalls.{alike_none}
use Rattle.pfs_runs.specs.PhaseFinals.{is_lost_nested, is_lost_locker}
use Rattle.pfs_runs.specs.ScriptLines.{change_in}
use Rattle.pfs_runs.specs.Runs.{AreFinal}
use Rattle.pfs_script.specs.declared.blocks.Phase.{Phase}
use Rattle.pfs_session.specs.SessionStates.{Book}
use Rattle.pfs_seats.specs.Seats.{Sits, depth_of, seat_of}
use Rattle.pfs_run.specs.RunPositions.{IsAlong, Standing, position}

-- no seat is taken
empty_seat : (session : ℕ) (seats : List (Option Book)) → seats ≡ replicate 64 None → 1 ≤ session → session ≤ 64 → seat_of seats session ≡ None
empty_seat session seats e low high = ap (λ z. seat_of z session) e ∙ get_or-replicate 64 (session - 1) None None (omega arith)

sits_empty : (setting : Setting) (phases : List Phase) (session : ℕ) (seat : Option Book) → seat ≡ None → Sits setting phases [] [] session seat
sits_empty setting phases session seat e = subst (Sits setting phases [] [] session) (sym e) refl

pub begun : (setting : Setting) (phases : List Phase) (run : Standing) → AreInRange setting.limits
    → IsBegun setting (change_in phases) (depth_of phases) → ((start : Opening) → start.flags ≡ opening_flags setting opening_objects → run.store.reached start [])
    → run.store.left ≡ 2 ^ 47 → run.store.draws ≡ 2 ^ 47 → run.seats ≡ replicate 64 None
    → run.lost.digests ≡ 0 → run.lost.statements ≡ 0 → run.lost.waits ≡ 0 → run.ended ≡ [] → run.told ≡ [] → IsAlong setting phases (position [] [] (numbered 1 phases)) run
begun setting phases run limits is leads all every empty digests statements waits none nothing =
    let nowhere : Start = record {
      table = record { words = 0; slots = 0; views_name = 0; atom = 0; block = 0; offset = 0; slot_names = [] };
      number = 0;
      stake = 0;
      base = 0;
    } in
    let start : Opening = record { flags = opening_flags setting opening_objects; board = nowhere; switches = nowhere; tickets = nowhere; words = [] } in
    record {
      limits = limits;
      earlier = [];
      current = [];
      course = is.course;
      answer = tt;
      none_over = none_yet (numbered 1 phases);
      phases_told = subst (λ z. ArePhasesTold setting 1 [] z []) (sym none) refl;
      blocks_told = subst (AreTold setting 1 [] []) (sym nothing) tt;
      finals = subst (AreFinal (HasEnded setting (change_in phases) [])) (sym none) tt;
      numbers = subst (AreFinal (λ (report : PhaseParts). report.number ≤ 0)) (sym none) tt;
      good = subst (All IsPhase) (sym none) (All-nil IsPhase);
      start = start;
      opens = refl;
      calls = [];
      led = leads start refl;
      alike = alike_none [];
      spare = omega (arith, all);
      tickets = omega (arith, every);
      wide = ap length empty ∙ length-replicate {A = Option Book} 64 None;
      seated = λ session low high. sits_empty setting phases session (seat_of run.seats session) (empty_seat session run.seats empty low high);
      digests = digests ∙ sym (lost_in []);
      statements = statements ∙ sym (started_in is_lost_nested []);
      waits = waits ∙ sym (started_in is_lost_locker []);
      few_digests = omega (arith, digests);
      few_statements = omega (arith, statements);
      few_waits = omega (arith, waits);
    }
