-- A run over a board from one phase to the next, step by step.
use Rattle.std.proofs.Common.{ℕ, ◌≡◌, ◌≤◌, ◌<◌, ◌+◌, ◌*◌, List, [], ◌∷◌, ◌++◌, Option, All, length, length-append, map, refl, ap, sym, ◌∙◌, subst, append_assoc, arith}
use Rattle.std.specs.List.{AllByRecursion, flat_map}
use Rattle.std.proofs.lemmas.List.Elements.{All-from_recursion, All-head, All-push, All-tail}
use Rattle.atomic_table.specs.Seated.{TableId}
use Rattle.pfs_admin.specs.OpeningState.{opening_flags}
use Rattle.pfs_admin.specs.declared.changes.Change.{Change}
use Rattle.pfs_board.specs.Knowledge.{IsWhole}
use Rattle.pfs_board.specs.declared.view.Label.{Label}
use Rattle.pfs_board_admin.specs.LabelWords.{AllKeepWords, version_after}
use Rattle.pfs_board_root.specs.Roots.{RootView, opening_at}
use Rattle.pfs_board_run.specs.BoardRuns.{AllMayRun, HasRunPhase, newest_first, share_of_each}
use Rattle.pfs_board_run.specs.declared.board.Ran.{Ran}
use Rattle.pfs_board_store.specs.RootActors.{AreGathered, Worked, calls_of_all}
use Rattle.pfs_board_store.specs.RootLaws.{IsRunsBoard}
use Rattle.pfs_board_tables.specs.EndTables.{HasReadTables}
use Rattle.pfs_classes.specs.declared.setting.DigestText.{DigestText}
use Rattle.pfs_classes.specs.declared.setting.Setting.{Setting}
use Rattle.pfs_containers.specs.declared.containers.Lost.{Lost}
use Rattle.pfs_finals.specs.Counters.{counters, lost_row}
use Rattle.pfs_journal.specs.Reports.{IsBlock, IsPhase, IsTable, IsText}
use Rattle.pfs_journal.specs.declared.blocks.BlockReport.{BlockReport}
use Rattle.pfs_journal.specs.declared.report.PhaseParts.{PhaseParts}
use Rattle.pfs_journal.specs.declared.values.TableReport.{TableReport}
use Rattle.pfs_law_board.specs.PhaseEnds.{AreAllBut, IsEnded, all_of}
use Rattle.pfs_law_board.specs.PhaseEnds.{Phase as Ended}
use Rattle.pfs_law_phases.proofs.BoardActors.{actors_then, all_then, but_quiet, but_same, calls_then}
use Rattle.pfs_law_phases.proofs.PlayedBlocks.{IsWalked, walked}
use Rattle.pfs_law_phases.specs.Behind.{ArePlayed, IsBehind, NextLaw, Standing, next_of}
use Rattle.pfs_law_phases.specs.Ends.{EndReadLaw}
use Rattle.pfs_law_plain.specs.Spells.{Spell}
use Rattle.pfs_law_report.specs.ReportableRuns.{BlocksLaw, IsNamedTable, IsReportable, NamesLaw, TableNamesLaw, TablesLaw, TextsLaw}
use Rattle.pfs_law_report.specs.declared.counts.LostEvents.{LostEvents}
use Rattle.pfs_law_script.proofs.BlocksAhead.{done_whole, reached}
use Rattle.pfs_law_script.proofs.CourseSteps.{one_more}
use Rattle.pfs_law_script.specs.Course.{AreSpellsOf, IsCourse, PhasedBlock, numbered, phased}
use Rattle.pfs_law_script.specs.PlayableBlocks.{ActionsLaw, FewLaw, IsPlayable, NamedLaw, PlayableLaw}
use Rattle.pfs_law_script.specs.ReportSpells.{AreTold}
use Rattle.pfs_law_shared.specs.Journals.{AgreedLaw}
use Rattle.pfs_law_shared.specs.Shares.{actors_of}
use Rattle.pfs_law_shared.specs.Tickets.{AllPlaced, IsPlaced}
use Rattle.pfs_law_threads.specs.Placed.{PlacedLaw}
use Rattle.pfs_levels.specs.CallOrder.{AllCalls}
use Rattle.pfs_levels.specs.Calls.{Call}
use Rattle.pfs_matching.specs.ObjectRules.{opening_objects}
use Rattle.pfs_model.proofs.EachLists.{each_behind}
use Rattle.pfs_model.proofs.Floors.{each_map}
use Rattle.pfs_model.specs.Chains.{Each}
use Rattle.pfs_runs.specs.ScriptLines.{change_in}
use Rattle.pfs_script.specs.KnownClasses.{AreDistinct}
use Rattle.pfs_script.specs.Scripts.{IsScript}
use Rattle.pfs_script.specs.declared.blocks.Block.{Block}
use Rattle.pfs_script.specs.declared.blocks.Phase.{Phase}
use Rattle.pfs_seats.proofs.BlockPlaces.{IsHere, is_here, is_here_at_once}
use Rattle.pfs_seats.proofs.ReportedPhases.{told_good, told_long}
use Rattle.pfs_seats.specs.Seats.{depth_of}
use Rattle.pfs_session.specs.SessionStates.{Book}
use Rattle.pfs_tickets.specs.Knowledge.{IsWhole as HasAllDraws}
use Rattle.pfs_tickets.specs.declared.view.View.{View as TicketView}
use Rattle.pfs_board_phase.specs.BetweenPhases.{AreLost, IsBetweenPhases, IsSettled, counters_of}
use Rattle.pfs_board_phase.specs.PhaseLaws.{BeginsLaw, IsReportOf, PlayedLaw}
use Rattle.pfs_board_phase.specs.PhaseResults.{AreCounted, AreFew, AreKept, AreReported, HasSeat}
use Rattle.pfs_board_phase.specs.SeatNumbers.{AreNumbered, newest_tables}
use Rattle.pfs_board_phase.specs.TakenSeats.{AreTaken, emptied}
use Rattle.pfs_board_phase.proofs.TakenSeats.{emptied_long}
use Rattle.pfs_board_phase.proofs.PhaseActors.{began, kept_words, opened, shares}
use Rattle.pfs_board_phase.proofs.PhaseEnds.{HasReadAt, board_of, end_read, is_ended, read_at, settled_next}
use Rattle.pfs_board_phase.proofs.PhaseLosses.{few_lost, lost_behind}
use Rattle.pfs_board_phase.proofs.PhaseRoom.{all_low_here, all_may, few_blocks, few_done, further_long, room, spared_next, used}
use Rattle.pfs_board_phase.proofs.PhaseSeats.{all_sit, are_ready, seats_behind, sessions_of}
use Rattle.pfs_board_phase.proofs.SeatNumbers.{actors_long, all_quiet, closed_numbered, newest_then, next_numbered}
use Rattle.pfs_board_phase.proofs.PhaseSpells.{AreReady, HavePlayed, Played, are_of, are_played, are_told, blocks_long, have_played, ran_in, rans_long, spells_in, spells_long, theirs}

-- of two lists of actors, the first
all_front : (P : List Call → Type 0) (xs ys : List (List Call)) → AllCalls P (xs ++ ys) → AllCalls P xs
all_front P [] ys all = tt
all_front P (x ∷ xs) ys all = (all.0, all_front P xs ys all.1)

-- some phase is behind all spells
some_last : (spells : List Spell) → (last : ℕ) × Each (λ spell. spell.phase ≤ last) spells
some_last [] = (0, tt)
some_last (s ∷ ss) =
    let rest = some_last ss in
    (s.phase + rest.0, (omega arith, each_map (λ spell. spell.phase ≤ rest.0) (λ spell. spell.phase ≤ s.phase + rest.0) (λ spell low. omega (arith, low)) ss rest.1))

-- where a phase begins
pub record Begins (setting : Setting) (phases before : List Phase) (phase : Phase) (after : List Phase) (switches : TableId) (root : RootView) (seats : List (Option Book)) (lost : LostEvents) (reports : List PhaseParts) : Type 0 where
  pub between : IsBetweenPhases setting phases switches before (phase ∷ after) root seats lost reports
  pub parted : phases ≡ before ++ phase ∷ after
  pub playable : IsPlayable before phase after
  pub here : (first : List Block) (block : Block) (others : List Block) → phase.blocks ≡ first ++ block ∷ others → IsHere setting phases before first block others after (numbered 1 before)
  pub rare : length (numbered 1 before) ≤ 200000

pub begins : PlayableLaw → FewLaw → NamedLaw → ActionsLaw → (text : List ℕ) (setting : Setting) (phases before : List Phase) (phase : Phase) (after : List Phase) (switches : TableId) (root : RootView) (seats : List (Option Book)) (lost : LostEvents) (reports : List PhaseParts)
    → IsScript text setting phases → phases ≡ before ++ phase ∷ after → IsBetweenPhases setting phases switches before (phase ∷ after) root seats lost reports → Begins setting phases before phase after switches root seats lost reports
begins playable few named actions text setting phases before phase after switches root seats lost reports script parted between = record {
  between = between;
  parted = parted;
  playable = playable text setting phases before phase after script parted;
  here = λ first block others all. is_here_at_once setting phases before first block others after
      (is_here playable few named actions text setting phases before first block others after script (parted ∙ ap (λ (z : List Block). before ++ record { blocks = z } ∷ after) all));
  rare = few_done few text setting phases before (phase ∷ after) script parted;
}

module _ (setting : Setting) (phases before : List Phase) (phase : Phase) (after : List Phase) (switches : TableId) (root : RootView) (seats : List (Option Book)) (lost : LostEvents) (reports : List PhaseParts)
    (b : Begins setting phases before phase after switches root seats lost reports) where
  abbrev change : Label → Change
  change = change_in phases

  abbrev flags : List ℕ
  flags = opening_flags setting opening_objects

  abbrev run : Standing
  run = b.between.run

  abbrev spells : List Spell
  spells = b.between.run.spells

  abbrev done : List PhasedBlock
  done = numbered 1 before

  abbrev s : IsSettled setting change switches b.between.run.ended root
  s = b.between.settled

  -- before its sessions run
  pub has_seats : (first blocks : List Block) → phase.blocks ≡ first ++ blocks → Each HasSeat blocks
  has_seats first [] all = tt
  has_seats first (x ∷ xs) all = (((b.here first x xs all).playable.low, (b.here first x xs all).playable.high), has_seats (first ++ x ∷ []) xs (all ∙ sym (append_assoc first (x ∷ []) xs)))

  pub few_here : length phase.blocks ≤ 65
  few_here = few_blocks phase.blocks b.playable.sessions (all_low_here setting phases before phase after spells b.here [] phase.blocks refl)

  pub ready_here : (books : List Book) → AreTaken setting.limits.statement_stack phases seats phase.blocks books → AreReady setting phases done spells phase.blocks books
  ready_here books taken =
      are_ready setting phases before phase after spells b.here b.between.behind.course.blocks seats [] phase.blocks books refl b.playable.sessions
      (all_sit setting phases before phase after spells b.here b.between.behind.course.blocks seats [] phase.blocks refl b.between.seated) taken

  pub may_here : (books : List Book) → AreTaken setting.limits.statement_stack phases seats phase.blocks books → AllMayRun setting change phase.blocks books
  may_here books taken = all_may setting phases before phase after spells b.here [] phase.blocks books refl b.between.behind.course (ready_here books taken)

  pub room_here : (length phase.blocks * share_of_each < root.seat.allowance) × (length phase.blocks * share_of_each ≤ root.draws.draws)
  room_here = room done phase.blocks root b.between.spared b.rare few_here

  -- behind them
  module _ (books : List Book) (rans : List Ran) (mid : RootView) (taken : AreTaken setting.limits.statement_stack phases seats phase.blocks books) (ran : HasRunPhase setting setting change phase.blocks books rans root mid) where
    abbrev One : Type 0
    One = Played setting phases before after spells

    abbrev ws : List Worked
    ws = newest_first ran.ws

    abbrev actors : List Worked
    actors = ws ++ (s.own ++ all_of run.ended)

    did : HavePlayed setting phases before phase after spells phase.blocks rans ran.ws
    did = have_played setting phases before phase after spells b.here b.between.behind.none_over (opening_at flags root share_of_each share_of_each) 1 [] phase.blocks books rans ran.ws refl (ready_here books taken) ran.each

    abbrev now_of : List One → List Spell
    now_of ones = spells_in setting phases before phase after spells ones

    started : mid.seat.start ≡ root.seat.start
    started = ran.taken.start ∙ ran.split.start

    mid_number : mid.seat.number ≡ 0
    mid_number = ran.taken.number ∙ (ran.split.number ∙ s.number)

    pub mid_gathered : AreGathered actors mid.seat mid.words mid.draws
    mid_gathered = ran.taken.gathered (s.own ++ all_of run.ended) (ran.split.gathered (s.own ++ all_of run.ended) s.gathered)

    pub mid_keeps : AllCalls (AllKeepWords (version_after setting change)) (calls_of_all actors)
    mid_keeps =
        subst (AllCalls (AllKeepWords (version_after setting change))) (sym (calls_then ws (s.own ++ all_of run.ended)))
        (all_then (AllKeepWords (version_after setting change)) (calls_of_all ws) (calls_of_all (s.own ++ all_of run.ended)) (kept_words setting change mid.words.seen ws ran.taken.kept) s.keeps)

    pub mid_whole : IsWhole mid.seat × HasAllDraws mid.draws
    mid_whole =
        let o = opened setting setting change (opening_at flags root share_of_each share_of_each) 1 phase.blocks books rans ran.ws ran.each in
        let used_up = shares flags root 1 ran.ws o.0 in
        (omega (arith, s.whole, ran.split.stake_is, ran.taken.stake_is, used_up.0, o.1), omega (arith, s.all_draws, ran.split.draws_are, ran.taken.draws_are, used_up.1, o.1))

    pub mid_wide : 17 * 14242 ≤ length mid.seat.start
    mid_wide = subst (λ z. 17 * 14242 ≤ length z) (sym started) b.between.board.wide

    pub as_many : length rans ≡ length phase.blocks
    as_many =
        ap length did.rans_are ∙ (rans_long setting phases before phase after spells did.ones ∙ sym (ap length did.blocks_are ∙ blocks_long setting phases before phase after spells did.ones))

    pub few_now : AreFew rans lost
    few_now =
        subst (λ z. AreFew z lost) (sym did.rans_are)
        (few_lost setting phases before phase after spells done did.ones lost b.between.counted b.rare (omega (arith, few_here, ap length did.blocks_are, blocks_long setting phases before phase after spells did.ones)))

    -- behind its end: what is reported and lost, where the sessions wait, and the root, which read and settled
    pub record IsOver (told : List BlockReport) (events : LostEvents) (mid_seats new_seats : List (Option Book)) (tables : List TableReport) (containers : Lost) (new : RootView) (report : PhaseParts) : Type 0 where
      pub reported : AreReported phase.blocks rans told
      pub counts : AreCounted rans lost events
      pub empty : mid_seats ≡ emptied seats phase.blocks
      pub kept : AreKept phase.blocks rans mid_seats new_seats
      pub read : HasReadTables setting change switches actors tables containers mid new
      pub number : report.number ≡ length reports + 1
      pub blocks : report.blocks ≡ told
      pub shown : report.tables ≡ tables
      pub lost_are : report.lost ≡ flat_map (lost_row setting.classes (counters_of containers events)) counters

    module _ (told : List BlockReport) (events : LostEvents) (mid_seats new_seats : List (Option Book)) (tables : List TableReport) (containers : Lost) (new : RootView) (report : PhaseParts)
        (o : IsOver told events mid_seats new_seats tables containers new report) where
      abbrev now : List Spell
      now = now_of did.ones

      abbrev all : List Phase
      all = before ++ phase ∷ []

      abbrev board : Ended
      board = board_of ws s.own

      abbrev start : List ℕ
      start = root.seat.start

      at : HasReadAt setting change switches start actors tables containers new
      at = read_at setting change switches start actors tables containers mid new o.read started mid_number

      long : length (numbered 1 all) ≡ length done + length did.ones
      long = further_long before phase ∙ ap (λ n. length done + n) (ap length did.blocks_are ∙ blocks_long setting phases before phase after spells did.ones)

      lost_now : AreLost (numbered 1 all) (spells ++ now) events
      lost_now = lost_behind setting phases before phase after spells done (numbered 1 all) did.ones lost events b.between.counted (subst (λ z. AreCounted z lost events) did.rans_are o.counts) long

      played_now : ArePlayed setting change (depth_of phases) spells before phase.blocks now
      played_now = subst (λ (z : List Block). ArePlayed setting change (depth_of phases) spells before z now) (sym did.blocks_are) (are_played setting phases before phase after spells did.ones)

      told_now : AreTold setting (1 + length before) phase.blocks now told
      told_now =
          subst (λ (z : List Block). AreTold setting (1 + length before) z now told) (sym did.blocks_are)
          (are_told setting phases before phase after spells did.ones told (subst (λ (z : List Block). AreReported z (map (ran_in setting phases before phase after spells) did.ones) told) did.blocks_are (subst (λ (z : List Ran). AreReported phase.blocks z told) did.rans_are o.reported)))

      theirs_now : calls_of_all ws ≡ actors_of now
      theirs_now = ap (λ (z : List Worked). calls_of_all (newest_first z)) did.actors_are ∙ theirs setting phases before phase after spells did.ones

      began_now : IsEnded setting change switches start (all_of run.ended) board
      began_now =
          let opens = opened setting setting change (opening_at flags root share_of_each share_of_each) 1 phase.blocks books rans ran.ws ran.each in
          is_ended setting change switches run.ended root s ws tables containers new at
          (began setting change mid.words.seen flags root s.first.seat.made s.first.pen.view.seen s.made s.seen 1 ran.ws opens.0 ran.taken.kept)

      but_now : AreAllBut (actors_of (spells ++ now)) (calls_of_all actors)
      but_now =
          let rest : List Worked = s.own ++ all_of run.ended in
          let quiet : AreAllBut (actors_of spells) (calls_of_all s.own ++ calls_of_all (all_of run.ended)) = but_quiet (calls_of_all s.own) (actors_of spells) (calls_of_all (all_of run.ended)) (all_quiet s.own s.alone) b.between.behind.theirs in
          let behind : AreAllBut (actors_of spells) (calls_of_all rest) = subst (AreAllBut (actors_of spells)) (sym (calls_then s.own (all_of run.ended))) quiet in
          subst (λ z. AreAllBut z (calls_of_all actors)) (sym (actors_then spells now))
          (subst (AreAllBut (actors_of now ++ actors_of spells)) (sym (calls_then ws rest ∙ ap (λ z. z ++ calls_of_all rest) theirs_now)) (but_same (actors_of now) (actors_of spells) (calls_of_all rest) behind))

      now_long : length now ≡ length phase.blocks
      now_long = spells_long setting phases before phase after spells did.ones ∙ sym (ap length did.blocks_are ∙ blocks_long setting phases before phase after spells did.ones)

      numbers_now : AreNumbered setting (newest_tables reports) (actors_of (spells ++ now)) (all_of (board ∷ run.ended))
      numbers_now =
          let opens = opened setting setting change (opening_at flags root share_of_each share_of_each) 1 phase.blocks books rans ran.ws ran.each in
          let shown : List (List TableReport) = newest_tables reports in
          let all : AreNumbered setting shown (calls_of_all ws ++ actors_of spells) actors =
          next_numbered setting shown flags root (actors_of spells) ran.ws (s.own ++ all_of run.ended) (actors_long spells ∙ sym b.between.by_number.seats) opens.0 b.between.by_number.theirs in
          subst (λ z. AreNumbered setting shown z actors) (sym (actors_then spells now ∙ ap (λ z. z ++ actors_of spells) (sym theirs_now))) all

      closed_now : AreNumbered setting (newest_tables (reports ++ report ∷ [])) (actors_of (spells ++ now)) ((at.met ∷ (at.reads ∷ at.own)) ++ all_of (board ∷ run.ended))
      closed_now =
          subst (λ z. AreNumbered setting z (actors_of (spells ++ now)) ((at.met ∷ (at.reads ∷ at.own)) ++ all_of (board ∷ run.ended))) (sym (newest_then reports report ∙ ap (λ z. z ∷ newest_tables reports) o.shown))
          (closed_numbered setting tables (newest_tables reports) (actors_of (spells ++ now)) at.met at.reads at.own (all_of (board ∷ run.ended)) at.alone at.meets at.listed numbers_now)

      course_now : IsWalked one_more reached setting phases (depth_of phases) before phase after b.parted b.playable (spells ++ now)
      course_now =
          walked one_more reached setting phases (depth_of phases) before phase after b.parted b.playable [] phase.blocks spells now refl b.playable.sessions
          (subst (λ z. IsCourse setting change (depth_of phases) z spells) (sym (done_whole before)) b.between.behind.course) b.between.behind.none_over played_now

      placed_now : PlacedLaw → AllPlaced now
      placed_now law =
          all_front (Each IsPlaced) (actors_of now) (actors_of spells)
          (subst (AllCalls (Each IsPlaced)) (actors_then spells now) (law setting.limits.statement_stack (depth_of phases) (spells ++ now) b.between.limits.statement_stack course_now.course.are_spells))

      number_now : report.number ≡ 1 + length before
      number_now = omega (arith, o.number, told_long setting 1 before run.reports spells b.between.behind.told, ap length b.between.told)

      next_behind : NextLaw → EndReadLaw → PlacedLaw → IsBehind setting phases (depth_of phases) switches start all after (next_of run now board report)
      next_behind next end law =
          next setting phases (depth_of phases) switches start before phase after run now board report b.between.board b.parted b.playable b.between.behind (record {
            played = played_now;
            placed = placed_now law;
            ended = began_now;
            theirs = theirs_now;
            number = number_now;
            told = subst (λ z. AreTold setting report.number phase.blocks now z) (sym o.blocks) (subst (λ n. AreTold setting n phase.blocks now told) (sym number_now) told_now);
            read = end setting change switches start actors (spells ++ now) report b.between.board but_now (end_read setting change switches start actors tables containers new at (numbered 1 all) (spells ++ now) events lost_now report o.shown o.lost_are);
          })

      -- a report can have it
      pub good_blocks : NextLaw → EndReadLaw → PlacedLaw → AgreedLaw → BlocksLaw → (text : List ℕ) → IsScript text setting phases → All IsBlock told
      good_blocks next end law agreed blocks text script =
          let last = some_last (spells ++ now) in
          let behind = next_behind next end law in
          let agree = agreed flags setting.limits.statement_stack (depth_of phases) (spells ++ now) last.0 course_now.course.are_spells.stints behind.shared last.1 in
          let good : Each (IsReportable setting) now = each_behind (IsReportable setting) spells now (blocks text setting phases (depth_of phases) (spells ++ now) script course_now.course.are_spells agree.journals.shaped course_now.course.folded) in
          let of : AreSpellsOf (phased (1 + length before) phase.blocks) now = subst (λ (z : List Block). AreSpellsOf (phased (1 + length before) z) now) (sym did.blocks_are) (are_of setting phases before phase after spells did.ones) in
          All-from_recursion IsBlock told (told_good setting (1 + length before) phase.blocks now told told_now of good)

      pub good_tables : TablesLaw → All IsText setting.names → All (λ (digest : DigestText). IsText digest.text) setting.digests → All IsNamedTable setting.tables → All IsTable tables
      good_tables law names texts named = subst (All IsTable) (sym at.listed.tables_are) (law setting at.listed.each_read names texts named at.listed.order)

      -- where the next phase begins
      pub next_between : NextLaw → EndReadLaw → PlacedLaw → IsPhase report → (reports_now : List PhaseParts) → reports_now ≡ reports ++ report ∷ [] → IsBetweenPhases setting phases switches all after new new_seats events reports_now
      unfolding settled_next
      next_between next end law good reports_now is =
          let same : new.seat.start ≡ start = o.read.stayed.start ∙ started in
          let further : length (numbered 1 all) ≡ length done + length phase.blocks = further_long before phase in
          record {
            limits = b.between.limits;
            board = subst IsRunsBoard (sym same) b.between.board;
            run = next_of run now board report;
            behind = subst (λ z. IsBehind setting phases (depth_of phases) switches z all after (next_of run now board report)) (sym same) (next_behind next end law);
            told = ap (λ z. z ++ report ∷ []) b.between.told ∙ sym is;
            good = subst (All IsPhase) (sym is) (All-push IsPhase reports report b.between.good good);
            settled = settled_next setting change switches start run.ended board tables containers new at same (o.read.stayed.number ∙ mid_number) o.read.stayed.whole.0 o.read.stayed.whole.1;
            by_number = record { seats = omega (arith, o.read.stayed.seats, ran.taken.seats, ran.split.seats, b.between.by_number.seats, length-append spells now, now_long); theirs = subst (λ z. AreNumbered setting (newest_tables z) (actors_of (spells ++ now)) ((at.met ∷ (at.reads ∷ at.own)) ++ all_of (board ∷ run.ended))) (sym is) closed_now };
            spared = spared_next done (numbered 1 all) phase.blocks root mid new b.between.spared further (used setting phases before phase after spells b.here [] phase.blocks refl) ran.spare ran.tickets o.read.stayed.allowance (ap (λ (z : TicketView). z.draws) o.read.stayed.draws);
            wide = o.kept.wide ∙ (ap length o.empty ∙ (emptied_long seats phase.blocks ∙ b.between.wide));
            seated = seats_behind setting phases before phase after spells did.ones seats mid_seats new_seats did.blocks_are (subst (λ (z : List Block). AreDistinct (sessions_of z)) did.blocks_are b.playable.sessions) (o.empty ∙ ap (emptied seats) did.blocks_are)
                (subst (λ (z : List Block). AreKept z (map (ran_in setting phases before phase after spells) did.ones) mid_seats new_seats) did.blocks_are (subst (λ (z : List Ran). AreKept phase.blocks z mid_seats new_seats) did.rans_are o.kept)) b.between.seated;
            counted = lost_now;
          }

-- so of each phase of any script
each_all : (P : Block → Type 0) (blocks : List Block) → Each P blocks → AllByRecursion P blocks
each_all P [] each = tt
each_all P (x ∷ xs) each = (each.0, each_all P xs each.1)

pub all_each : (blocks : List Block) → All HasSeat blocks → Each HasSeat blocks
all_each [] seats = tt
all_each (x ∷ xs) seats = (All-head HasSeat x xs seats, all_each xs (All-tail HasSeat x xs seats))

pub begins_so : PlayableLaw → FewLaw → NamedLaw → ActionsLaw → BeginsLaw
begins_so playable few named actions = λ text setting phases before phase after switches root seats lost reports script parted between.
    (let b : Begins setting phases before phase after switches root seats lost reports = begins playable few named actions text setting phases before phase after switches root seats lost reports script parted between in
    let space = room_here setting phases before phase after switches root seats lost reports b in
    record {
      wide = between.wide;
      seated = All-from_recursion HasSeat phase.blocks (each_all HasSeat phase.blocks (has_seats setting phases before phase after switches root seats lost reports b [] phase.blocks refl));
      apart = b.playable.sessions;
      room = space.0;
      tickets = space.1;
      may = λ books taken. may_here setting phases before phase after switches root seats lost reports b books taken;
      few = λ books rans mid taken ran. (
        as_many setting phases before phase after switches root seats lost reports b books rans mid taken ran,
        few_now setting phases before phase after switches root seats lost reports b books rans mid taken ran,
      );
    })

pub played_so : PlayableLaw → FewLaw → NamedLaw → ActionsLaw → NextLaw → EndReadLaw → PlacedLaw → AgreedLaw → BlocksLaw → TablesLaw → NamesLaw → TextsLaw → TableNamesLaw → PlayedLaw
unfolding begins
played_so playable few named actions next end placed agreed blocks_law tables_law names texts table_names = λ text setting phases before phase after switches root mid seats kept lost events reports told script parted between p.
    (let b : Begins setting phases before phase after switches root seats lost reports = begins playable few named actions text setting phases before phase after switches root seats lost reports script parted between in
    let all : List Worked = newest_first p.ran.ws ++ (between.settled.own ++ all_of between.run.ended) in
    let over : (tables : List TableReport) (containers : Lost) (new : RootView) (report : PhaseParts) → HasReadTables setting (change_in phases) switches all tables containers mid new → IsReportOf setting reports told tables containers events report
    → IsOver setting phases before phase after switches root seats lost reports b p.books p.rans mid p.taken p.ran told events (emptied seats phase.blocks) kept tables containers new report = λ tables containers new report read of. record {
      reported = p.reported;
      counts = p.counted;
      empty = refl;
      kept = p.seated;
      read = read;
      number = of.number;
      blocks = of.blocks;
      shown = of.shown;
      lost_are = of.counted;
    } in
    let good : (tables : List TableReport) (containers : Lost) (new : RootView) (report : PhaseParts) → HasReadTables setting (change_in phases) switches all tables containers mid new → IsReportOf setting reports told tables containers events report
    → IsPhase report = λ tables containers new report read of. record {
      blocks = subst (All IsBlock) (sym of.blocks)
          (good_blocks setting phases before phase after switches root seats lost reports b p.books p.rans mid p.taken p.ran told events (emptied seats phase.blocks) kept tables containers new report (over tables containers new report read of) next end placed agreed blocks_law text script);
      tables = subst (All IsTable) (sym of.shown)
          (good_tables setting phases before phase after switches root seats lost reports b p.books p.rans mid p.taken p.ran told events (emptied seats phase.blocks) kept tables containers new report (over tables containers new report read of) tables_law (names text setting phases script) (texts text setting phases script) (table_names text setting phases script));
      lost = of.good;
    } in
    record {
      whole = mid_whole setting phases before phase after switches root seats lost reports b p.books p.rans mid p.taken p.ran;
      wide = mid_wide setting phases before phase after switches root seats lost reports b p.books p.rans mid p.taken p.ran;
      actors = all;
      gathered = mid_gathered setting phases before phase after switches root seats lost reports b p.books p.rans mid p.taken p.ran;
      keeps = mid_keeps setting phases before phase after switches root seats lost reports b p.books p.rans mid p.taken p.ran;
      good = good;
      next = λ tables containers new report now read of is.
          next_between setting phases before phase after switches root seats lost reports b p.books p.rans mid p.taken p.ran told events (emptied seats phase.blocks) kept tables containers new report (over tables containers new report read of) next end placed
          (good tables containers new report read of) now is;
    })
