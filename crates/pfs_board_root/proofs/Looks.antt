-- A root looks at a row, or loads a word.
use Rattle.std.proofs.Common.{ℕ, ◌≡◌, ◌+◌, ◌*◌, List, length, slice_set, refl, ap, ◌∙◌, arith}
use Rattle.std.proofs.lemmas.List.{length-set}
use Rattle.atomic_table.specs.Seated.{TableId}
use Rattle.pfs_board.specs.Knowledge.{held, sighted}
use Rattle.pfs_board.specs.ReadAnswers.{IsSeenAs}
use Rattle.pfs_board.specs.SeatViews.{Known as BoardKnown, Place as BoardPlace}
use Rattle.pfs_board.specs.declared.answers.Seen.{Seen}
use Rattle.pfs_board.specs.declared.answers.Seen.TheVariants.{Whole, Free, Busy}
use Rattle.pfs_board.specs.declared.view.Corner.{Corner}
use Rattle.pfs_board.specs.declared.view.Stage.TheVariants.{Idle}
use Rattle.pfs_board.specs.declared.view.View.{View}
use Rattle.pfs_switches.specs.Knowledge.{loaded}
use Rattle.pfs_switches.specs.SeatViews.{Known as WordsKnown, Place as WordsPlace}
use Rattle.pfs_switches.specs.declared.view.View.{View as WordView}
use Rattle.pfs_tickets.specs.SeatViews.{Known as TicketsKnown}
use Rattle.pfs_board_root.specs.Roots.{IsRooted}

-- what a look leaves
record Stays (v w : View) : Type 0 where
  pub number : w.number ≡ v.number
  pub action : w.action ≡ v.action
  pub after : w.after ≡ v.after
  pub lent : w.lent ≡ v.lent
  pub rows : length w.rows ≡ length v.rows

stays_by : (v w z : View) (row : ℕ) (c : Corner) → w ≡ z → z.number ≡ v.number → z.action ≡ v.action → z.after ≡ v.after → z.lent ≡ v.lent → z.rows ≡ slice_set v.rows row c → Stays v w
stays_by v w z row c e n a f l r = record {
  number = ap (λ (x : View). x.number) e ∙ n;
  action = ap (λ (x : View). x.action) e ∙ a;
  after = ap (λ (x : View). x.after) e ∙ f;
  lent = ap (λ (x : View). x.lent) e ∙ l;
  rows = ap (λ (x : View). length x.rows) e ∙ (ap (λ cs. length cs) r ∙ length-set v.rows row c);
}

stays : (v w : View) (row : ℕ) (seen : Seen) → IsSeenAs v row seen w → Stays v w
stays v w row (Whole k found) s = stays_by v w _ row (sighted Idle (4 * k + 2)) s.2 refl refl refl refl refl
stays v w row (Free word) s = stays_by v w _ row (sighted Idle word) s.2 refl refl refl refl refl
stays v w row (Busy first second) s = stays_by v w _ row (sighted Idle second) s.5 refl refl refl refl refl

pub looked_rooted : (flags : List ℕ) (run : TableId) (board : BoardPlace) (switches : WordsPlace) (tickets : TableId) (b b' : BoardKnown) (w : WordsKnown) (t : TicketsKnown) (row : ℕ) (seen : Seen)
    → b'.board ≡ b.board → IsSeenAs b.view row seen b'.view → held b'.view.rows ≡ held b.view.rows → IsRooted flags run board switches tickets b w t → IsRooted flags run board switches tickets b' w t
looked_rooted flags run board switches tickets b b' w t row seen same is hands r =
    let s = stays b.view b'.view row seen is in
    record {
      same_board = same ∙ r.same_board;
      same_words = r.same_words;
      same_tickets = r.same_tickets;
      run_is = r.run_is;
      wide = r.wide;
      known = r.known;
      number = s.number ∙ r.number;
      words_number = r.words_number;
      draws_number = r.draws_number;
      outside = s.action ∙ r.outside;
      never = s.after ∙ r.never;
      home = s.lent ∙ r.home;
      empty = hands ∙ r.empty;
      rows = omega (arith, s.rows, r.rows);
      looks = r.looks;
      opened = r.opened;
    }

pub loaded_rooted : (flags : List ℕ) (run : TableId) (board : BoardPlace) (switches : WordsPlace) (tickets : TableId) (b : BoardKnown) (w w' : WordsKnown) (t : TicketsKnown) (word k to : ℕ)
    → w'.switches ≡ w.switches → w'.view ≡ loaded w.view word k to → IsRooted flags run board switches tickets b w t → IsRooted flags run board switches tickets b w' t
loaded_rooted flags run board switches tickets b w w' t word k to same is r = record {
  same_board = r.same_board;
  same_words = same ∙ r.same_words;
  same_tickets = r.same_tickets;
  run_is = r.run_is;
  wide = r.wide;
  known = r.known;
  number = r.number;
  words_number = ap (λ (x : WordView). x.number) is ∙ r.words_number;
  draws_number = r.draws_number;
  outside = r.outside;
  never = r.never;
  home = r.home;
  empty = r.empty;
  rows = r.rows;
  looks = omega (arith, ap (λ (x : WordView). length x.seen) is, length-set w.view.seen word k, r.looks);
  opened = ap (λ (x : WordView). x.start) is ∙ r.opened;
}
