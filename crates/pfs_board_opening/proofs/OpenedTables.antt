-- The tables of a run open as a run begins, and their root is told an end of no actors.
use Rattle.std.proofs.Common.{ℕ, suc, ◌≡◌, ◌⊎◌, inl, inr, ◌*◌, ◌<◌, ◌≤◌, Bool, true, false, cond, List, [], ◌∷◌, length, replicate, slice_index, refl, ap, sym, ◌∙◌, subst, arith, length-append}
use Rattle.std.proofs.lemmas.Bool.{cases_eq}
use Rattle.atomic_table.specs.Seated.{TableId}
use Rattle.pfs_admin.specs.Fold.{state_from, state_of}
use Rattle.pfs_admin.specs.AdministrationStates.{State}
use Rattle.pfs_admin.specs.OpeningState.{opened, opening_flags}
use Rattle.pfs_admin.specs.declared.changes.Change.{Change}
use Rattle.pfs_admin.proofs.OpeningState.{flags_count}
use Rattle.pfs_board.specs.History.{labels_of, lock_at, total}
use Rattle.pfs_board.specs.Knowledge.{root as board_root}
use Rattle.pfs_board.specs.OpeningWords.{AreOpened, AreWide, IsOpening, OpeningLaw, opening_words as board_words, row_of}
use Rattle.pfs_board.specs.SeatViews.{Known as BoardKnown, Place as BoardPlace, known as known_board}
use Rattle.pfs_board.specs.declared.answers.Opening.{Opening}
use Rattle.pfs_board.specs.declared.view.Change.{Change as Entry}
use Rattle.pfs_board.specs.declared.view.Label.{Label}
use Rattle.pfs_board.specs.declared.view.View.{View}
use Rattle.pfs_board_root.specs.Roots.{RootView}
use Rattle.pfs_board_root.specs.Settlements.{HasSettled}
use Rattle.pfs_board_store.specs.RootLaws.{IsFirstRow, IsRunsBoard, OpenedLaw}
use Rattle.pfs_classes.specs.declared.setting.Setting.{Setting}
use Rattle.pfs_containers.specs.ContainerState.{lost_in}
use Rattle.pfs_containers.specs.declared.containers.Lost.{Lost}
use Rattle.pfs_levels.specs.RowWords.{is_cell, zero_words}
use Rattle.pfs_matching.specs.declared.object_rows.ObjectRow.{ObjectRow}
use Rattle.pfs_switches.specs.Knowledge.{reader, whole}
use Rattle.pfs_switches.specs.OpeningWords.{opening_words}
use Rattle.pfs_switches.specs.SeatViews.{Known as WordsKnown, Place as WordsPlace}
use Rattle.pfs_switches.specs.declared.view.View.{View as WordView}
use Rattle.pfs_tickets.specs.Knowledge.{root as tickets_root}
use Rattle.pfs_tickets.specs.SeatViews.{Known as TicketsKnown, known as known_tickets}
use Rattle.pfs_tickets.specs.declared.view.View.{View as TicketView}
use Rattle.pfs_board_opening.specs.Opened.{AreFresh, HaveOpened, first_root, nothing_lost}

content_wide : (b : Bool) → length (cond {A = List ℕ} b zero_words (replicate 16 0)) ≡ 16
content_wide true = refl
content_wide false = refl

rows_wide : (rows : List Opening) → ((row : ℕ) → row < length rows → length (row_of rows row).content ≡ 16) → AreWide rows
rows_wide [] each = tt
rows_wide (o ∷ os) each = (each 0 (omega arith), rows_wide os (λ row low. each (suc row) (omega (arith, low))))

free_or_not : (b : Bool) (n : ℕ) → n ≡ cond {A = ℕ} b 2 0 → (n ≡ 0) ⊎ (n ≡ 2)
free_or_not true n e = inr e
free_or_not false n e = inl e

-- the rows of a run are opened at version 0
pub at_first : OpeningLaw → (rows : List Opening) → length rows ≡ 14242 → ((row : ℕ) → row < 14242 → IsFirstRow row (row_of rows row))
    → length (board_words rows) ≡ 17 * length rows → IsOpening (board_words rows) 14242
at_first law rows many each long =
    let wide : AreWide rows = rows_wide rows (λ row low. ap (λ (z : List ℕ). length z) (each row (omega (arith, low, many))).1 ∙ content_wide (is_cell row)) in
    let a : AreOpened rows = law rows (omega (arith, many)) wide in
    record {
      long = omega (arith, long, many);
      locks = λ r low. elim (cases_eq r 0) [
        | inl z ↦ inr (ap (λ n. slice_index (board_words rows) (lock_at n)) z ∙ a.first)
        | inr z ↦ free_or_not (row_of rows r).allocated _ (a.locks r (omega (arith, z)) (omega (arith, low, many)))
      ];
    }

-- of words that are fresh
module _ (setting : Setting) (switches : WordsPlace) (seat pen : WordsKnown) (fresh : AreFresh setting switches seat pen) where
  pub have_opened : OpeningLaw → OpenedLaw → (run : TableId) → switches.id ≡ run → (rows : List Opening) → length rows ≡ 14242
      → ((row : ℕ) → row < 14242 → IsFirstRow row (row_of rows row)) → (board : BoardPlace) → board.start ≡ board_words rows
      → length board.start ≡ 17 * length rows → (b : BoardKnown) → b ≡ known_board board.id (board_root board.start)
      → (tickets : TableId) (t : TicketsKnown) → t ≡ known_tickets tickets tickets_root → HaveOpened setting run board switches tickets b seat t
  have_opened words_law law run is rows many each board start long b first tickets t drawer = record {
    run_is = is;
    flags = fresh.flags;
    rows = subst (λ (z : List ℕ). IsOpening z 14242) (sym start) (at_first words_law rows many each (ap (λ (z : List ℕ). length z) (sym start) ∙ long));
    runs = subst IsRunsBoard (sym start) (law rows many each);
    seat_is = first;
    words_are = fresh.seat_is;
    draws_are = drawer;
  }

pub words_wide : (setting : Setting) (objects : List ObjectRow) (start : List ℕ) → start ≡ opening_words (opening_flags setting objects) → 161 ≤ length start
words_wide setting objects start is = omega (arith, ap (λ (z : List ℕ). length z) is, length-append (opening_flags setting objects) (0 ∷ []), flags_count setting objects)

-- what a root is whose parts are known
pub root_is : (board : BoardPlace) (switches : WordsPlace) (tickets : TableId) (r : RootView) → r.board ≡ board.id → r.switches ≡ switches.id → r.tickets ≡ tickets
    → r.seat ≡ board_root board.start → r.words ≡ reader (whole switches.start) → r.draws ≡ tickets_root → r ≡ first_root board switches tickets
root_is board switches tickets r e1 e2 e3 e4 e5 e6 =
    ap (λ (z : TableId). record r { board = z }) e1 ∙ ap (λ (z : TableId). record r { board = board.id; switches = z }) e2
    ∙ ap (λ (z : TableId). record r { board = board.id; switches = switches.id; tickets = z }) e3
    ∙ ap (λ (z : View). record r { board = board.id; switches = switches.id; tickets = tickets; seat = z }) e4
    ∙ ap (λ (z : WordView). record r { board = board.id; switches = switches.id; tickets = tickets; seat = board_root board.start; words = z }) e5
    ∙ ap (λ (z : TicketView). record r { board = board.id; switches = switches.id; tickets = tickets; seat = board_root board.start; words = reader (whole switches.start); draws = z }) e6

no_entry : (log : List Entry) → total (λ (p : Entry). 1) log ≡ 0 → log ≡ []
no_entry [] e = refl
no_entry (p ∷ ps) e = absurd (omega (arith, e))

lost_first : (setting : Setting) (change : Label → Change) → lost_in (state_of setting change []).kept.now ≡ nothing_lost
unfolding state_from
lost_first setting change = refl

-- a root that has taken in nobody is told of none that found no place
pub none_lost : (setting : Setting) (change : Label → Change) (flags : List ℕ) (run : TableId) (lost : Lost) (old new : RootView)
    → HasSettled setting change flags run [] lost old new → old.seat.made ≡ [] → lost ≡ nothing_lost
none_lost setting change flags run lost old new s nothing =
    let made : s.ended.seat.made ≡ [] = ap (λ (v : View). v.made) s.seat_was ∙ nothing in
    let log : s.ended.history.t.log ≡ [] = no_entry _ (sym (s.ended.history.once (λ (p : Entry). 1)) ∙ ap (total (λ (p : Entry). 1)) made) in
    s.lost_are ∙ ap (λ (x : State). lost_in x.kept.now) s.ended.desk.stands ∙ ap (λ (labels : List Label). lost_in (state_of setting change labels).kept.now) (ap labels_of log) ∙ lost_first setting change

pub settled_first : (setting : Setting) (change : Label → Change) (flags : List ℕ) (run : TableId) (board : BoardPlace) (switches : WordsPlace) (tickets : TableId)
    (lost : Lost) (old new : RootView) → old ≡ first_root board switches tickets → HasSettled setting change flags run [] lost old new
    → HasSettled setting change flags run [] nothing_lost (first_root board switches tickets) new
settled_first setting change flags run board switches tickets lost old new is s =
    let first : HasSettled setting change flags run [] lost (first_root board switches tickets) new = subst (λ (r : RootView). HasSettled setting change flags run [] lost r new) is s in
    subst (λ (l : Lost). HasSettled setting change flags run [] l (first_root board switches tickets) new) (none_lost setting change flags run lost _ new first refl) first
