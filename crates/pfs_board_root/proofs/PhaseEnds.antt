-- A root settles a phase.
use Rattle.std.proofs.Common.{ℕ, ◌≡◌, ◌≤◌, List, ◌∷◌, length, refl, ap, sym, ◌∙◌, subst, arith}
use Rattle.atomic_table.specs.Seated.{TableId}
use Rattle.pfs_admin.specs.AdministrationStates.{State}
use Rattle.pfs_admin.specs.OpeningState.{opening_flags}
use Rattle.pfs_admin.specs.declared.changes.Change.{Change}
use Rattle.pfs_board.specs.History.{labels_of}
use Rattle.pfs_board.specs.Knowledge.{held}
use Rattle.pfs_board.specs.SeatViews.{Known as BoardKnown, Place as BoardPlace}
use Rattle.pfs_board.specs.WholeSeats.{History}
use Rattle.pfs_board.specs.declared.view.Label.{Label}
use Rattle.pfs_board.specs.declared.view.View.{View}
use Rattle.pfs_board_admin.specs.Desks.{IsDesk}
use Rattle.pfs_board_admin.specs.LabelWords.{AllKeepWords, version_after}
use Rattle.pfs_board_store.specs.RootActors.{AreGathered, Worked, calls_of_all}
use Rattle.pfs_board_store.specs.RootLaws.{MeetLaw}
use Rattle.pfs_classes.specs.declared.setting.Setting.{Setting}
use Rattle.pfs_containers.specs.ContainerState.{lost_in}
use Rattle.pfs_containers.specs.declared.containers.Lost.{Lost}
use Rattle.pfs_levels.specs.CallOrder.{AllCalls}
use Rattle.pfs_matching.specs.ObjectRules.{opening_objects}
use Rattle.pfs_switches.specs.Knowledge.{met}
use Rattle.pfs_switches.specs.SeatViews.{Known as WordsKnown, Place as WordsPlace, known as known_words}
use Rattle.pfs_switches.specs.SharedKnowledge.{IsTold}
use Rattle.pfs_switches.specs.declared.view.View.{View as WordView}
use Rattle.pfs_tickets.specs.SeatViews.{Known as TicketsKnown}
use Rattle.pfs_tickets.specs.WholeSeats.{IsComplete}
use Rattle.pfs_board_root.specs.Roots.{IsRooted, RootView, root_view}
use Rattle.pfs_board_root.specs.Settlements.{HasSettled, own_meet, own_opening}

module _ (board : BoardPlace) (switches : WordsPlace) (tickets : TableId) (b b' : BoardKnown) (w w' pen : WordsKnown) (t t' : TicketsKnown)
    (eb : b'.view ≡ b.view) (ew : w' ≡ known_words w.switches (met w.view pen.view)) (et : t' ≡ t) where
  pub settled_rooted : (flags : List ℕ) (run : TableId) → b'.board ≡ b.board → 160 ≤ length pen.view.seen → IsRooted flags run board switches tickets b w t → IsRooted flags run board switches tickets b' w' t'
  settled_rooted flags run same wide r = record {
    same_board = same ∙ r.same_board;
    same_words = ap (λ (k : WordsKnown). k.switches) ew ∙ r.same_words;
    same_tickets = ap (λ (k : TicketsKnown). k.tickets) et ∙ r.same_tickets;
    run_is = r.run_is;
    wide = r.wide;
    known = r.known;
    number = ap (λ (v : View). v.number) eb ∙ r.number;
    words_number = ap (λ (k : WordsKnown). k.view.number) ew ∙ r.words_number;
    draws_number = ap (λ (k : TicketsKnown). k.view.number) et ∙ r.draws_number;
    outside = ap (λ (v : View). v.action) eb ∙ r.outside;
    never = ap (λ (v : View). v.after) eb ∙ r.never;
    home = ap (λ (v : View). v.lent) eb ∙ r.home;
    empty = subst (λ (v : View). held v.rows ≡ 0) (sym eb) r.empty;
    rows = subst (λ (v : View). 14242 ≤ length v.rows) (sym eb) r.rows;
    looks = omega (arith, ap (λ (k : WordsKnown). length k.view.seen) ew, wide);
    opened = ap (λ (k : WordsKnown). k.view.start) ew ∙ r.opened;
  }

  pub settles : MeetLaw → (setting : Setting) (change : Label → Change) (run : TableId) → IsRooted (opening_flags setting opening_objects) run board switches tickets b w t
      → (words : List ℕ) (h : History b.view.start words b.view) (admin : State) → IsDesk setting change run (labels_of h.t.log) admin pen
      → IsTold w'.view.start w'.view pen.view → IsComplete t.view → (lost : Lost) → lost ≡ lost_in admin.kept.now
      → (actors : List Worked) → AreGathered actors b.view w.view t.view → AllCalls (AllKeepWords (version_after setting change)) (calls_of_all actors)
      → HasSettled setting change (opening_flags setting opening_objects) run actors lost (root_view board switches tickets b w t) (root_view board switches tickets b' w' t')
  settles law setting change run r words h admin desk told complete lost is actors g keep =
      let flags : List ℕ = opening_flags setting opening_objects in
      let was : RootView = root_view board switches tickets b w t in
      let all : List Worked = own_meet flags was pen.view ∷ actors in
      let more : AreGathered all b.view (met w.view pen.view) t.view = law actors b.view w.view pen.view t.view g (own_opening flags was) refl in
      record {
        ended = record {
          words = words;
          seat = b.view;
          known = w.view;
          draws = t.view;
          gathered = g;
          empty = r.empty;
          history = h;
          admin = admin;
          pen = pen;
          desk = desk;
          told = subst (λ (z : List ℕ). IsTold z (met w.view pen.view) pen.view) (ap (λ (k : WordsKnown). k.view.start) ew ∙ r.opened)
              (subst (λ (z : WordView). IsTold w'.view.start z pen.view) (ap (λ (k : WordsKnown). k.view) ew) told);
          complete = complete;
          keep = keep;
        };
        seat_was = refl;
        words_were = refl;
        draws_were = refl;
        lost_are = is;
        board = refl;
        switches = refl;
        tickets = refl;
        seat = eb;
        words = ap (λ (k : WordsKnown). k.view) ew;
        draws = ap (λ (k : TicketsKnown). k.view) et;
        gathered = subst (λ (v : View). AreGathered all v w'.view t'.view) (sym eb) (subst (λ (k : WordsKnown). AreGathered all b.view k.view t'.view) (sym ew)
            (subst (λ (k : TicketsKnown). AreGathered all b.view (met w.view pen.view) k.view) (sym et) more));
      }
