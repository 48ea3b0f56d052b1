-- All that is known of a run behind one block more.
use Rattle.std.proofs.Common.{ℕ, ◌≡◌, ◌≤◌, ◌<◌, ◌+◌, ◌-◌, ◌==◌, Bool, true, false, cond, List, [], ◌∷◌, ◌++◌, length, Option, Some, None, slice_set, refl, ap, sym, ◌∙◌, subst, append_assoc, append-nil, eq-eqb, arith}
use Rattle.std.proofs.lemmas.Bool.{eqb-true}
use Rattle.std.proofs.lemmas.List.{length-set}
use Rattle.pfs_admin.specs.OpeningState.{opening_flags}
use Rattle.pfs_law_plain.specs.Spells.{Doing, Spell, calls_of, doings_calls}
use Rattle.pfs_blocks.specs.BlockNeeds.{Within, need_of_block}
use Rattle.pfs_classes.specs.declared.setting.Setting.{Setting}
use Rattle.pfs_law_script.specs.BlocksAhead.{NoneIsOver, ahead_of, block_at, done_before}
use Rattle.pfs_law_script.specs.Course.{IsCourse, PhasedBlock, own_blocks, session_at}
use Rattle.pfs_law_script.specs.CourseSteps.{IsOneMore, spell_at}
use Rattle.pfs_law_script.specs.ReportSpells.{AreTold}
use Rattle.pfs_law_script.proofs.BlockChanges.{own_more}
use Rattle.pfs_law_script.proofs.BlocksAhead.{done_block}
use Rattle.pfs_law_script.proofs.ReportSpells.{told_more}
use Rattle.pfs_law_report.specs.LostCounts.{lost_digests, lost_statements, lost_waits}
use Rattle.pfs_law_report.specs.PhaseEnds.{HasEnded}
use Rattle.pfs_law_report.specs.declared.counts.LostEvents.{LostEvents}
use Rattle.pfs_law_report.proofs.JournalLosses.{statements_more, waits_more}
use Rattle.pfs_law_report.proofs.DigestLosses.{digests_more}
use Rattle.pfs_law_report.proofs.SpellCalls.{leads_more}
use Rattle.pfs_law_report.proofs.NextPhase.{all_ended_more}
use Rattle.pfs_law_plain.specs.LineSteps.{kinds_at}
use Rattle.pfs_journal.specs.declared.blocks.BlockReport.{BlockReport}
use Rattle.pfs_journal.specs.declared.report.PhaseParts.{PhaseParts}
use Rattle.pfs_levels.specs.PlainStore.{AllAnswer}
use Rattle.pfs_levels.specs.Views.{Store}
use Rattle.pfs_matching.specs.ObjectRules.{opening_objects}
use Rattle.pfs_model.specs.Chains.{each_of, times}
use Rattle.pfs_law_session.specs.Stints.{resumed}
use Rattle.pfs_play.specs.Errands.{StagesLie, kinds_after}
use Rattle.pfs_law_plain.proofs.ReadCalls.{LeadAlike}
use Rattle.pfs_law_plain.specs.RunRules.{entries_of}
use Rattle.pfs_runs.specs.PhaseFinals.{is_digest_lost, is_lost_nested, is_lost_locker, verdict_at}
use Rattle.pfs_runs.specs.ScriptLines.{change_in}
use Rattle.pfs_runs.specs.Runs.{AreFinal}
use Rattle.pfs_script.specs.Marks.{written_out}
use Rattle.pfs_script.specs.declared.blocks.Block.{Block}
use Rattle.pfs_script.specs.declared.blocks.Phase.{Phase}
use Rattle.pfs_session.specs.SessionStates.{Book, nothing_held}
use Rattle.pfs_seats.proofs.BlockPlaces.{IsHere}
use Rattle.pfs_seats.proofs.ReadySessions.{IsReady}
use Rattle.pfs_seats.proofs.RunSteps.{IsLeft, left_as, other_seat, others_by, own_waits, same_seat}
use Rattle.pfs_seats.specs.Seats.{IsWaiting, Sits, depth_of, seat_of}
use Rattle.pfs_run.specs.RunPositions.{IsAlong, Standing, position}
use Rattle.pfs_run.proofs.RunSteps.{IsDone, more_done}

-- the blocks of a session, with those of one block more
own_then : (before : List Phase) (first : List Block) (block : Block) (session : ℕ) → own_blocks session (done_before before (first ++ block ∷ [])) ≡ own_blocks session (done_before before first) ++ cond (block.session == session) (block ∷ []) []
own_then before first block session = ap (own_blocks session) (done_block before first block) ∙ own_more session (done_before before first) (block_at before block)

further : (before : List Phase) (first : List Block) (block : Block) → length (done_before before first) ≤ length (done_before before (first ++ block ∷ []))
further before first block = let count = more_done before first block in omega (arith, count)

-- all sessions wait
seats_along : (setting : Setting) (phases before : List Phase) (first : List Block) (block : Block) (spells : List Spell) (doings : List Doing) (seats new_seats : List (Option Book)) (waiting : Book)
    → IsOneMore setting (change_in phases) (depth_of phases) (done_before before first) spells (block_at before block) doings → length seats ≡ 64 → 1 ≤ block.session → block.session ≤ 64
    → ((session : ℕ) → 1 ≤ session → session ≤ 64 → Sits setting phases (done_before before first) spells session (seat_of seats session))
    → Sits setting phases (done_before before (first ++ block ∷ [])) (spells ++ spell_at (block_at before block) doings ∷ []) block.session (Some waiting)
    → new_seats ≡ slice_set (slice_set seats (block.session - 1) None) (block.session - 1) (Some waiting)
    → (session : ℕ) → 1 ≤ session → session ≤ 64 → Sits setting phases (done_before before (first ++ block ∷ [])) (spells ++ spell_at (block_at before block) doings ∷ []) session (seat_of new_seats session)
seats_along setting phases before first block spells doings seats new_seats waiting more wide low high old own is = λ session least most. at session least most (block.session == session) refl where
  at : (session : ℕ) → 1 ≤ session → session ≤ 64 → (b : Bool) → (block.session == session) ≡ b → Sits setting phases (done_before before (first ++ block ∷ [])) (spells ++ spell_at (block_at before block) doings ∷ []) session (seat_of new_seats session)
  at session least most true e =
      subst (λ n. Sits setting phases (done_before before (first ++ block ∷ [])) (spells ++ spell_at (block_at before block) doings ∷ []) n (seat_of new_seats n)) (eqb-true block.session session e)
      (subst (λ (seat : Option Book). Sits setting phases (done_before before (first ++ block ∷ [])) (spells ++ spell_at (block_at before block) doings ∷ []) block.session seat)
      (sym (ap (λ (z : List (Option Book)). seat_of z block.session) is ∙ same_seat seats block.session waiting wide low high)) own)
  at session least most false e =
      subst (λ (seat : Option Book). Sits setting phases (done_before before (first ++ block ∷ [])) (spells ++ spell_at (block_at before block) doings ∷ []) session seat)
      (sym (ap (λ (z : List (Option Book)). seat_of z session) is ∙ other_seat seats block.session session waiting low least e))
      (others_by setting phases (done_before before first) (done_before before (first ++ block ∷ [])) spells (spells ++ spell_at (block_at before block) doings ∷ []) session (seat_of seats session)
      (own_then before first block session ∙ (ap (λ b. own_blocks session (done_before before first) ++ cond b (block ∷ []) []) e ∙ append-nil _)) (further before first block) (more.others session e) (old session least most))

-- phases that ended have lower numbers
lower : (most next : ℕ) (reports : List PhaseParts) → next ≡ 1 + most → AreFinal (λ (report : PhaseParts). report.number ≤ most) reports → AreFinal (λ (report : PhaseParts). report.number < next) reports
lower most next [] is low = tt
lower most next (report ∷ reports) is low = (below report.number low.0, lower most next reports is low.1) where
  below : (n : ℕ) → n ≤ most → n < next
  below n h = omega (arith, is, h)

pub next_along : (setting : Setting) (phases before : List Phase) (first : List Block) (block : Block) (others : List Block) (after : List Phase) (run : Standing) (now : Store) (new_seats : List (Option Book)) (new_lost : LostEvents)
    (new_told : List BlockReport) (report : BlockReport) (book paused waiting : Book) → IsHere setting phases before first block others after (done_before before first)
    → (along : IsAlong setting phases (position before first (block_at before block ∷ ahead_of before others after)) run)
    → IsReady setting phases (done_before before first) (along.earlier ++ along.current) block book
    → IsDone setting phases before first block others after (along.earlier ++ along.current) book paused report.answers along.start along.calls now.reached
    → waiting.state ≡ paused.state → waiting.journal.entries ≡ [] → paused.state.held ≡ nothing_held
    → kinds_at paused.state ≡ kinds_after (kinds_at book.state) (written_out block.lines) → StagesLie (kinds_at paused.state)
    → Within (need_of_block block) book paused run.store now → new_seats ≡ slice_set (slice_set run.seats (block.session - 1) None) (block.session - 1) (Some waiting)
    → new_lost.digests ≡ run.lost.digests + lost_digests paused.journal.entries → new_lost.statements ≡ run.lost.statements + lost_statements paused.journal.entries → new_lost.waits ≡ run.lost.waits + lost_waits paused.journal.entries
    → report.session ≡ block.session → report.entries ≡ paused.journal.entries → new_told ≡ run.told ++ report ∷ []
    → IsAlong setting phases (position before (first ++ block ∷ []) (ahead_of before others after)) (record { store = now; seats = new_seats; lost = new_lost; ended = run.ended; told = new_told })
next_along setting phases before first block others after run now new_seats new_lost new_told report book paused waiting
    here along ready done same empty free kinds lie within seats_are digests statements waits reported entries told_is =
    let spells : List Spell = along.earlier ++ along.current in
    let spell : Spell = spell_at (block_at before block) done.doings in
    let all : spells ++ spell ∷ [] ≡ along.earlier ++ (along.current ++ spell ∷ []) = append_assoc along.earlier along.current (spell ∷ []) in
    let count = more_done before first block in
    let short = here.playable.short in
    let low = here.playable.low in
    let high = here.playable.high in
    let course : IsCourse setting (change_in phases) (depth_of phases) (done_before before (first ++ block ∷ [])) (along.earlier ++ (along.current ++ spell ∷ [])) =
    subst (λ (ss : List Spell). IsCourse setting (change_in phases) (depth_of phases) (done_before before (first ++ block ∷ [])) ss) all
    (subst (λ (d : List PhasedBlock). IsCourse setting (change_in phases) (depth_of phases) d (spells ++ spell ∷ [])) (sym (done_block before first block)) done.more.course) in
    let mine : (block.session == block.session) ≡ true = eq-eqb block.session block.session refl in
    let left : IsLeft block book waiting = left_as block book paused waiting same empty free kinds lie within.drawn (omega (arith, within.actions)) within.depth in
    let own : IsWaiting setting phases (done_before before (first ++ block ∷ [])) (spells ++ spell ∷ []) block.session waiting =
    own_waits setting phases before first block others after (done_before before first) (done_before before (first ++ block ∷ [])) spells (spells ++ spell ∷ []) book waiting here ready
    (own_then before first block block.session ∙ ap (λ b. own_blocks block.session (done_before before first) ++ cond b (block ∷ []) []) mine) (omega (arith, count)) (ap resumed (same ∙ done.state) ∙ sym done.more.own) left in
    let sits = seats_along setting phases before first block spells done.doings run.seats new_seats waiting done.more along.wide low high along.seated own seats_are in
    record {
      limits = along.limits;
      earlier = along.earlier;
      current = along.current ++ spell ∷ [];
      course = course;
      answer = subst (λ (ss : List Spell). AllAnswer (opening_flags setting opening_objects) (calls_of ss)) all done.answer;
      none_over = subst (λ (ss : List Spell). NoneIsOver ss (ahead_of before others after)) all done.ahead;
      phases_told = along.phases_told;
      blocks_told = subst (λ (reports : List BlockReport). AreTold setting (1 + length before) (first ++ block ∷ []) (along.current ++ spell ∷ []) reports) (sym told_is)
          (told_more setting (1 + length before) first along.current run.told block spell report along.blocks_told (record { phase = refl; session = refl; reported = reported; entries = entries ∙ done.entries; answers = done.answered }));
      finals = subst (λ (ss : List Spell). AreFinal (HasEnded setting (change_in phases) ss) run.ended) all (all_ended_more setting (change_in phases) spells spell run.ended along.finals (lower (length before) (1 + length before) run.ended refl along.numbers));
      numbers = along.numbers;
      good = along.good;
      start = along.start;
      opens = along.opens;
      calls = doings_calls done.doings ++ along.calls;
      led = done.led;
      alike = subst (λ (ss : List Spell). LeadAlike (doings_calls done.doings ++ along.calls) (calls_of ss)) all (leads_more spells spell along.calls along.alike);
      spare = omega (arith, count, short, here.rare, within.used.left, along.spare);
      tickets = omega (arith, count, short, within.used.draws, along.tickets);
      wide = ap length seats_are ∙ (length-set (slice_set run.seats (block.session - 1) None) (block.session - 1) (Some waiting) ∙ (length-set run.seats (block.session - 1) None ∙ along.wide));
      seated = subst (λ (ss : List Spell). (session : ℕ) → 1 ≤ session → session ≤ 64 → Sits setting phases (done_before before (first ++ block ∷ [])) ss session (seat_of new_seats session)) all sits;
      digests = subst (λ (ss : List Spell). new_lost.digests ≡ times is_digest_lost (entries_of ss)) all (digests_more spells spell (session_at setting (depth_of phases) spells block.session) paused.journal.entries run.lost.digests new_lost.digests done.are_parts done.entries along.digests digests);
      statements = subst (λ (ss : List Spell). new_lost.statements ≡ times is_lost_nested (each_of verdict_at (entries_of ss))) all (statements_more spells spell paused.journal.entries run.lost.statements new_lost.statements done.entries along.statements statements);
      waits = subst (λ (ss : List Spell). new_lost.waits ≡ times is_lost_locker (each_of verdict_at (entries_of ss))) all (waits_more spells spell paused.journal.entries run.lost.waits new_lost.waits done.entries along.waits waits);
      few_digests = omega (arith, count, digests, done.digests, along.few_digests);
      few_statements = omega (arith, count, statements, done.statements, along.few_statements);
      few_waits = omega (arith, count, waits, done.waits, along.few_waits);
    }
