-- A run over a board before its first phase.
use Rattle.std.proofs.Common.{ℕ, ◌≡◌, ◌≤◌, ◌+◌, ◌-◌, ◌*◌, ◌^◌, List, [], ◌∷◌, ◌++◌, None, Option, inr, length, slice_index, replicate, refl, ap, sym, ◌∙◌, subst, arith}
use Rattle.atomic_table.specs.Seated.{TableId}
use Rattle.pfs_admin.specs.OpeningState.{opening_flags}
use Rattle.pfs_admin.specs.declared.changes.Change.{Change}
use Rattle.pfs_board.specs.Knowledge.{IsWhole}
use Rattle.pfs_board.specs.SeatViews.{Known as BoardKnown, Place as BoardPlace}
use Rattle.pfs_board.specs.declared.view.Label.{Label}
use Rattle.pfs_board.specs.declared.view.View.{View}
use Rattle.pfs_board_opening.specs.Opened.{HaveOpened, first_root}
use Rattle.pfs_board_phase.proofs.PhaseEnds.{IsTold}
use Rattle.pfs_board_phase.specs.BetweenPhases.{IsBetweenPhases, IsSettled}
use Rattle.pfs_board_root.specs.Roots.{RootView}
use Rattle.pfs_board_root.specs.Settlements.{HasSettled, own_meet}
use Rattle.pfs_board_store.specs.RootActors.{AreGathered, Worked}
use Rattle.pfs_board_store.specs.RootLaws.{IsRunsBoard}
use Rattle.pfs_classes.specs.declared.setting.Setting.{Setting}
use Rattle.pfs_containers.specs.declared.containers.Lost.{Lost}
use Rattle.pfs_journal.specs.Reports.{IsPhase}
use Rattle.pfs_law_phases.specs.Behind.{BeginLaw, Standing}
use Rattle.pfs_law_report.proofs.DigestLosses.{lost_in}
use Rattle.pfs_law_report.proofs.JournalLosses.{started_in}
use Rattle.pfs_law_report.specs.declared.counts.LostEvents.{LostEvents}
use Rattle.pfs_matching.specs.ObjectRules.{opening_objects}
use Rattle.pfs_runs.specs.PhaseFinals.{is_lost_nested, is_lost_locker}
use Rattle.pfs_runs.specs.ScriptLines.{change_in}
use Rattle.pfs_script.specs.declared.blocks.Phase.{Phase}
use Rattle.pfs_seats.specs.Seats.{Sits, seat_of}
use Rattle.pfs_session.specs.SessionStates.{Book}
use Rattle.pfs_switches.specs.SeatViews.{Known as WordsKnown, Place as WordsPlace}
use Rattle.pfs_switches.specs.declared.view.View.{View as WordView}
use Rattle.pfs_tickets.specs.Knowledge.{IsWhole as HasAllDraws}
use Rattle.pfs_tickets.specs.SeatViews.{Known as TicketsKnown}
use Rattle.pfs_tickets.specs.declared.view.View.{View as TicketView}
use Rattle.std.proofs.lemmas.List.Elements.{All-nil}
use Rattle.std.proofs.lemmas.List.{get_or-replicate, length-replicate}

abbrev pub nothing_lost : LostEvents
nothing_lost = record { digests = 0; statements = 0; waits = 0 }

abbrev no_run : Standing
no_run = record { ended = []; spells = []; reports = [] }

module _ (setting : Setting) (phases : List Phase) (flags : List ℕ) (run : TableId) (lost : Lost) (old new : RootView) (s : HasSettled setting (change_in phases) flags run [] lost old new) (first : old.seat.number ≡ 0)
    (whole : IsWhole new.seat) (draws : HasAllDraws new.draws) where
  pub settled : IsSettled setting (change_in phases) run [] new
  settled =
      let seat : old.seat ≡ new.seat = sym s.seat in
      let told : IsTold setting (change_in phases) run new.seat.start [] new =
      subst (λ (z : View). IsTold setting (change_in phases) run z.start [] (record new { seat = z })) seat (record {
        first = s.ended;
        made = sym (ap (λ (z : View). z.made) s.seat_was);
        seen = λ at. omega (arith, ap (λ (z : WordView). slice_index z.seen at) s.words);
      }) in
      record {
        own = own_meet flags old s.ended.pen.view ∷ [];
        gathered = s.gathered;
        number = ap (λ (z : View). z.number) s.seat ∙ first;
        alone = (record { number = first; quiet = tt }, tt);
        keeps = (((λ some. absurd (omega (arith, some)), λ out. refl), tt), tt);
        first = told.first;
        made = told.made;
        seen = λ at low. told.seen at;
        whole = whole;
        all_draws = draws;
      }

  pub begun_run : BeginLaw → IsRunsBoard old.seat.start → old.seat.seats ≡ 0 → 2 ^ 47 ≤ new.seat.allowance → 2 ^ 47 ≤ new.draws.draws → IsBetweenPhases setting phases run [] phases new (replicate 64 None) nothing_lost []
  unfolding settled
  begun_run begin runs none spare tickets = record {
    limits = setting.in_range;
    board = subst (λ (z : View). IsRunsBoard z.start) (sym s.seat) runs;
    run = no_run;
    behind = begin setting phases _ run new.seat.start;
    told = refl;
    good = All-nil IsPhase;
    settled = settled;
    by_number = record { seats = ap (λ (z : View). z.seats) s.seat ∙ none; theirs = inr (inr (first, record { seen = s.ended.pen.view.seen; calls_are = refl }, (refl, refl))) };
    spared = record { publications = omega (arith, spare); tickets = omega (arith, tickets) };
    wide = length-replicate {A = Option Book} 64 None;
    seated = λ session low high. subst (Sits setting phases [] [] session) (sym (get_or-replicate 64 (session - 1) None None (omega (arith, low, high)))) refl;
    counted = record { digests = sym (lost_in []); statements = sym (started_in is_lost_nested []); waits = sym (started_in is_lost_locker []); few_digests = omega arith; few_statements = omega arith; few_waits = omega arith };
  }

-- the root of tables that were opened for this setting
pub opened_run : BeginLaw → (setting now : Setting) (change : Label → Change) (phases : List Phase) (run : TableId) (board : BoardPlace) (switches : WordsPlace) (tickets : TableId) (b : BoardKnown) (w : WordsKnown) (t : TicketsKnown)
    (lost : Lost) (new : RootView) → setting ≡ now → change ≡ change_in phases → HaveOpened now run board switches tickets b w t
    → HasSettled setting change (opening_flags setting opening_objects) run [] lost (first_root board switches tickets) new → IsWhole new.seat × HasAllDraws new.draws
    → IsBetweenPhases now phases run [] phases new (replicate 64 None) nothing_lost []
opened_run law setting now change phases run board switches tickets b w t lost new e f opened s whole =
    let was : RootView = first_root board switches tickets in
    let named : HasSettled setting (change_in phases) (opening_flags setting opening_objects) run [] lost was new =
    subst (λ (z : Label → Change). HasSettled setting z (opening_flags setting opening_objects) run [] lost was new) f s in
    let here : HasSettled now (change_in phases) (opening_flags now opening_objects) run [] lost was new =
    subst (λ (z : Setting). HasSettled z (change_in phases) (opening_flags z opening_objects) run [] lost was new) e named in
    begun_run now phases (opening_flags now opening_objects) run lost was new here refl whole.0 whole.1 law opened.runs refl (omega (arith, ap (λ (v : View). v.allowance) s.seat)) (omega (arith, ap (λ (v : TicketView). v.draws) s.draws))

pub opened_as : (setting now : Setting) (run : TableId) (board : BoardPlace) (switches : WordsPlace) (tickets : TableId) (b : BoardKnown) (w : WordsKnown) (t : TicketsKnown) → setting ≡ now
    → HaveOpened now run board switches tickets b w t → HaveOpened setting run board switches tickets b w t
opened_as setting now run board switches tickets b w t e o = subst (λ (z : Setting). HaveOpened z run board switches tickets b w t) (sym e) o
