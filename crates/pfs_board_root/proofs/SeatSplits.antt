-- An actor's seats are split off of a root's.
use Rattle.std.proofs.Common.{ℕ, ◌≡◌, ◌+◌, ◌*◌, ◌/◌, ◌<◌, ◌≤◌, List, [], ◌∷◌, ◌++◌, length, replicate, refl, ap, sym, ◌∙◌, subst, arith, suc-mul, mul-le-mul_right, All}
use Rattle.atomic_table.specs.Seated.{TableId}
use Rattle.std.proofs.lemmas.List.{length-replicate}
use Rattle.std.proofs.lemmas.List.Elements.{All-append, All-cons, All-nil}
use Rattle.pfs_board.specs.Knowledge.{held, newcomer, root as board_root, stake}
use Rattle.pfs_board.proofs.ViewFacts.{held_new}
use Rattle.pfs_board.specs.SeatViews.{Known as BoardKnown, Place as BoardPlace, known as known_board, given, split_off}
use Rattle.pfs_board_store.specs.ActorCalls.{opening_of}
use Rattle.pfs_board_store.specs.RootActors.{AreGathered, Worked}
use Rattle.pfs_board_store.proofs.FreshSeats.{length_off}
use Rattle.pfs_levels.specs.Calls.{Call, Opening}
use Rattle.pfs_switches.specs.Knowledge.{reader, split_left, split_right, whole}
use Rattle.pfs_switches.specs.OpeningWords.{opening_words}
use Rattle.pfs_switches.specs.SeatViews.{Known as WordsKnown, Place as WordsPlace, known as known_words}
use Rattle.pfs_tickets.specs.Knowledge.{left_with, given as tickets_given, root as tickets_root, stake as all_of}
use Rattle.pfs_tickets.specs.SeatViews.{Known as TicketsKnown, known as known_tickets}
use Rattle.pfs_board_store.specs.declared.rows.Seats.{Seats}
use Rattle.pfs_board_root.specs.Roots.{AreSplit, HasSplit, IsRooted, RootView, opening_at, root_of, root_view}

module _ (board : BoardPlace) (switches : WordsPlace) (tickets : TableId) (b b' : BoardKnown) (w w' : WordsKnown) (t t' : TicketsKnown) (p d : ℕ)
    (eb : b' ≡ known_board b.board (split_off b.view p)) (ew : w' ≡ known_words w.switches (split_left w.view)) (et : t' ≡ known_tickets t.tickets (left_with t.view d)) where
  kept_lists : (actors : List Worked) → AreGathered actors b.view w.view t.view → AreGathered actors b'.view w'.view t'.view
  kept_lists actors g =
      let A : BoardKnown → WordsKnown → TicketsKnown → Type 0 = λ x y z. AreGathered actors x.view y.view z.view in
      subst (λ (x : BoardKnown). A x w' t') (sym eb) (subst (λ (y : WordsKnown). A (known_board b.board (split_off b.view p)) y t') (sym ew)
      (subst (λ (z : TicketsKnown). A (known_board b.board (split_off b.view p)) (known_words w.switches (split_left w.view)) z) (sym et)
      (record { tied = g.tied; shown = g.shown; looked = g.looked; loaded = g.loaded; met = g.met; drawn = g.drawn; done = g.done })))

  pub has_split : p < b.view.allowance → d ≤ t.view.draws → stake b'.view + p ≡ stake b.view → HasSplit 1 p d (root_view board switches tickets b w t) (root_view board switches tickets b' w' t')
  has_split some few rest = record {
    board = refl;
    switches = refl;
    tickets = refl;
    start = ap (λ (k : BoardKnown). k.view.start) eb;
    number = ap (λ (k : BoardKnown). k.view.number) eb;
    seats = ap (λ (k : BoardKnown). k.view.seats) eb;
    words_seats = ap (λ (k : WordsKnown). k.view.seats) ew;
    draws_seats = ap (λ (k : TicketsKnown). k.view.seats) et;
    allowance = omega (arith, some, ap (λ (k : BoardKnown). k.view.allowance) eb);
    stake_is = omega (arith, rest);
    left = omega (arith, few, ap (λ (k : TicketsKnown). k.view.draws) et);
    draws_are = omega (arith, few, ap (λ (k : TicketsKnown). k.view.draws) et, ap (λ (k : TicketsKnown). length k.view.tickets) et);
    made = ap (λ (k : BoardKnown). k.view.made) eb;
    seen = ap (λ (k : WordsKnown). k.view.seen) ew;
    gathered = kept_lists;
  }

  pub still_rooted : (flags : List ℕ) (run : TableId) → held b'.view.rows ≡ held b.view.rows → IsRooted flags run board switches tickets b w t → IsRooted flags run board switches tickets b' w' t'
  still_rooted flags run hands r = record {
    same_board = ap (λ (k : BoardKnown). k.board) eb ∙ r.same_board;
    same_words = ap (λ (k : WordsKnown). k.switches) ew ∙ r.same_words;
    same_tickets = ap (λ (k : TicketsKnown). k.tickets) et ∙ r.same_tickets;
    run_is = r.run_is;
    wide = r.wide;
    known = r.known;
    number = ap (λ (k : BoardKnown). k.view.number) eb ∙ r.number;
    words_number = ap (λ (k : WordsKnown). k.view.number) ew ∙ r.words_number;
    draws_number = ap (λ (k : TicketsKnown). k.view.number) et ∙ r.draws_number;
    outside = ap (λ (k : BoardKnown). k.view.action) eb ∙ r.outside;
    never = ap (λ (k : BoardKnown). k.view.after) eb ∙ r.never;
    home = ap (λ (k : BoardKnown). k.view.lent) eb ∙ r.home;
    empty = hands ∙ r.empty;
    rows = omega (arith, ap (λ (k : BoardKnown). length k.view.rows) eb, length_off b.view p, r.rows);
    looks = omega (arith, ap (λ (k : WordsKnown). length k.view.seen) ew, r.looks);
    opened = ap (λ (k : WordsKnown). k.view.start) ew ∙ r.opened;
  }

-- where the new seats begin
pub opens : (flags : List ℕ) (board : BoardPlace) (switches : WordsPlace) (tickets : TableId) (b nb : BoardKnown) (w nw : WordsKnown) (t nt : TicketsKnown) (p d : ℕ)
    → nb ≡ known_board b.board (given b.view p) → nw ≡ known_words w.switches (split_right w.view) → nt ≡ known_tickets t.tickets (tickets_given t.view d) → stake nb.view ≡ p
    → opening_of board.id switches.id tickets flags nb.view nw.view nt.view ≡ opening_at flags (root_view board switches tickets b w t) p d 1
opens flags board switches tickets b nb w nw t nt p d eb ew et st =
    let draws : all_of nt.view ≡ d = omega (arith, ap (λ (k : TicketsKnown). all_of k.view) et) in
    let number : nb.view.number ≡ b.view.seats + 1 = ap (λ (k : BoardKnown). k.view.number) eb in
    let base : nb.view.base ≡ length b.view.made = ap (λ (k : BoardKnown). k.view.base) eb in
    let words_number : nw.view.number ≡ w.view.seats + 1 = ap (λ (k : WordsKnown). k.view.number) ew in
    let seen : nw.view.first ≡ w.view.seen = ap (λ (k : WordsKnown). k.view.first) ew in
    let draws_number : nt.view.number ≡ t.view.seats + 1 = ap (λ (k : TicketsKnown). k.view.number) et in
    λ i. record {
      flags = flags;
      board = record { table = board.id; number = number i; stake = st i; base = base i };
      switches = record { table = switches.id; number = words_number i; stake = 0; base = 0 };
      tickets = record { table = tickets; number = draws_number i; stake = draws i; base = 0 };
      words = seen i;
    }

-- the next one of a root that split off so many begins as the one behind these
pub next_opening : (flags : List ℕ) (old new : RootView) (count p d : ℕ) → HasSplit count p d old new → opening_at flags new p d 1 ≡ opening_at flags old p d (1 + count)
next_opening flags old new count p d s =
    let number : new.seat.seats + 1 ≡ old.seat.seats + (1 + count) = omega (arith, s.seats) in
    let words_number : new.words.seats + 1 ≡ old.words.seats + (1 + count) = omega (arith, s.words_seats) in
    let draws_number : new.draws.seats + 1 ≡ old.draws.seats + (1 + count) = omega (arith, s.draws_seats) in
    let base : length new.seat.made ≡ length old.seat.made = ap (λ z. length z) s.made in
    λ i. record {
      flags = flags;
      board = record { table = s.board i; number = number i; stake = p; base = base i };
      switches = record { table = s.switches i; number = words_number i; stake = 0; base = 0 };
      tickets = record { table = s.tickets i; number = draws_number i; stake = d; base = 0 };
      words = s.seen i;
    }

-- of none, and of one more
pub split_none : (p d : ℕ) (r : RootView) → HasSplit 0 p d r r
split_none p d r = record {
  board = refl;
  switches = refl;
  tickets = refl;
  start = refl;
  number = refl;
  seats = omega arith;
  words_seats = omega arith;
  draws_seats = omega arith;
  allowance = omega arith;
  stake_is = omega arith;
  left = omega arith;
  draws_are = omega arith;
  made = refl;
  seen = refl;
  gathered = λ actors g. g;
}

pub split_more : (n p d : ℕ) (r s u : RootView) → HasSplit n p d r s → HasSplit 1 p d s u → HasSplit (n + 1) p d r u
split_more n p d r s u f g = record {
  board = g.board ∙ f.board;
  switches = g.switches ∙ f.switches;
  tickets = g.tickets ∙ f.tickets;
  start = g.start ∙ f.start;
  number = g.number ∙ f.number;
  seats = omega (arith, f.seats, g.seats);
  words_seats = omega (arith, f.words_seats, g.words_seats);
  draws_seats = omega (arith, f.draws_seats, g.draws_seats);
  allowance = sums n p u.seat.allowance s.seat.allowance r.seat.allowance f.allowance g.allowance;
  stake_is = sums n p (stake u.seat) (stake s.seat) (stake r.seat) f.stake_is g.stake_is;
  left = sums n d u.draws.draws s.draws.draws r.draws.draws f.left g.left;
  draws_are = sums n d (all_of u.draws) (all_of s.draws) (all_of r.draws) f.draws_are g.draws_are;
  made = g.made ∙ f.made;
  seen = g.seen ∙ f.seen;
  gathered = λ actors h. g.gathered actors (f.gathered actors h);
}
  where
    sums : (n p x y z : ℕ) → y + n * p ≡ z → x + 1 * p ≡ y → x + (n + 1) * p ≡ z
    sums n p x y z e f = omega (arith, e, f, suc-mul n p)

-- one more behind those that were split off
pub all_split : {A : Type 0} (reached : A → Opening → List Call → Type 0) (opening : ℕ → Opening) (n : ℕ) (actors : List A) (a : A) → AreSplit reached opening n actors → reached a (opening (n + length actors)) []
    → AreSplit reached opening n (actors ++ a ∷ [])
all_split {A} reached opening n [] a s r = (subst (λ z. reached a (opening z) []) (omega arith) r, tt)
all_split {A} reached opening n (x ∷ actors) a s r = (s.0, all_split {A = A} reached opening (n + 1) actors a s.1 (subst (λ z. reached a (opening z) []) (omega arith) r))

-- the first seats of new tables
pub first_rooted : (flags : List ℕ) (run : TableId) (board : BoardPlace) (switches : WordsPlace) (tickets : TableId) (b : BoardKnown) (w : WordsKnown) (t : TicketsKnown)
    → b ≡ known_board board.id (board_root board.start) → w ≡ known_words switches.id (reader (whole switches.start)) → switches.start ≡ opening_words flags → t ≡ known_tickets tickets tickets_root → switches.id ≡ run
    → (17 * 14242 ≤ length board.start) × (161 ≤ length switches.start) → IsRooted flags run board switches tickets b w t
first_rooted flags run board switches tickets b w t eb ew opening et same sizes = record {
  same_board = ap (λ (k : BoardKnown). k.board) eb;
  same_words = ap (λ (k : WordsKnown). k.switches) ew;
  same_tickets = ap (λ (k : TicketsKnown). k.tickets) et;
  run_is = same;
  wide = sizes.0;
  known = sizes.1;
  number = ap (λ (k : BoardKnown). k.view.number) eb;
  words_number = ap (λ (k : WordsKnown). k.view.number) ew;
  draws_number = ap (λ (k : TicketsKnown). k.view.number) et;
  outside = ap (λ (k : BoardKnown). k.view.action) eb;
  never = ap (λ (k : BoardKnown). k.view.after) eb;
  home = ap (λ (k : BoardKnown). k.view.lent) eb;
  empty = ap (λ (k : BoardKnown). held k.view.rows) eb ∙ held_new (length board.start / 17);
  rows = omega (arith, ap (λ (k : BoardKnown). length k.view.rows) eb, length-replicate (length board.start / 17) newcomer, sizes.0);
  looks = omega (arith, ap (λ (k : WordsKnown). length k.view.seen) ew, zeros (length switches.start), sizes.1);
  opened = ap (λ (k : WordsKnown). k.view.start) ew ∙ opening;
}
  where
    zeros : (n : ℕ) → length (replicate n (let z : ℕ = 0 in z)) ≡ n
    zeros n = length-replicate n 0

-- its seats tell all that it knows
pub same_root : (flags : List ℕ) (run : TableId) (board : BoardPlace) (switches : WordsPlace) (tickets : TableId) (seats : Seats) → IsRooted flags run board switches tickets seats.board seats.switches seats.tickets
    → root_of seats ≡ root_view board switches tickets seats.board seats.switches seats.tickets
same_root flags run board switches tickets seats r = λ i. record {
  board = r.same_board i;
  switches = r.same_words i;
  tickets = r.same_tickets i;
  seat = seats.board.view;
  words = seats.switches.view;
  draws = seats.tickets.view;
}

pub next_split : {A : Type 0} (reached : A → Opening → List Call → Type 0) (flags : List ℕ) (old new : RootView) (count p d : ℕ) (actors : List A) (a : A) → HasSplit count p d old new → length actors ≡ count
    → reached a (opening_at flags new p d 1) [] → AreSplit reached (opening_at flags old p d) 1 actors → AreSplit reached (opening_at flags old p d) 1 (actors ++ a ∷ [])
next_split {A} reached flags old new count p d actors a s many began split =
    let at : opening_at flags new p d 1 ≡ opening_at flags old p d (1 + length actors) = next_opening flags old new count p d s ∙ ap (λ n. opening_at flags old p d (1 + n)) (sym many) in
    all_split {A = A} reached (opening_at flags old p d) 1 actors a split (subst (λ (o : Opening). reached a o []) at began)

pub all_and : {A : Type 0} (P : A → Type 0) (xs : List A) (x : A) → All P xs → P x → All P (xs ++ x ∷ [])
all_and P xs x a p = All-append P xs (x ∷ []) a (All-cons P x [] p (All-nil P))

-- what is given away so often is not more than all
pub share : (i n p x all : ℕ) → i < n → x + i * p ≡ all → n * p < all → p < x
share i n p x all low e some = omega (arith, e, some, suc-mul i p, mul-le-mul_right p low)

pub share_of : (i n p x all : ℕ) → i < n → x + i * p ≡ all → n * p ≤ all → p ≤ x
share_of i n p x all low e some = omega (arith, e, some, suc-mul i p, mul-le-mul_right p low)
