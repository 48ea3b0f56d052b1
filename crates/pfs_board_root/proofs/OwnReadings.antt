-- The root's own readings are one actor more of it, and of what stands.
use Rattle.std.proofs.Common.{ℕ, suc, zero, ◌≡◌, ◌+◌, ◌*◌, ◌<◌, Bool, true, false, cond, List, [], ◌∷◌, ◌++◌, get_or, Some, None, inl, inr, refl, ap, sym, ◌∙◌, subst, arith}
use Rattle.pfs_board.specs.History.{Some_of}
use Rattle.pfs_board.specs.Knowledge.{corner, held, is_holding, newcomer, no_label, stake}
use Rattle.pfs_board.specs.Rule.{lock}
use Rattle.pfs_board.specs.SeatViews.{known as known_board}
use Rattle.pfs_board.specs.WholeSeats.{IsFinalRow}
use Rattle.pfs_board.specs.declared.view.Change.{Change as Changed}
use Rattle.pfs_board.specs.declared.view.Corner.{Corner}
use Rattle.pfs_board.specs.declared.view.Entered.{Entered}
use Rattle.pfs_board.specs.declared.view.Finished.{Finished}
use Rattle.pfs_board.specs.declared.view.Sight.{Sight}
use Rattle.pfs_board.specs.declared.view.Stage.{Stage}
use Rattle.pfs_board.specs.declared.view.Stage.TheVariants.{Idle, Reading, Holding}
use Rattle.pfs_board.specs.declared.view.View.{View}
use Rattle.pfs_board_store.specs.ActorCalls.{HasMade, in_hand}
use Rattle.pfs_board_store.specs.Looks.{AreLooked}
use Rattle.pfs_board_store.specs.RootActors.{AllLooked, AllShown, AreGathered, AreParts, GatherLaw, Worked}
use Rattle.pfs_board_store.specs.Ties.{AreDrawn, AreLoaded, AreMet, AreShown, IsFinished, IsSighted, IsTied}
use Rattle.pfs_law_board.specs.EndReadings.{AreOfEnd}
use Rattle.pfs_levels.specs.Calls.{Call, Adds, Rings, Reads, Loads, Draws, Takes, Puts, Frees, Sets, Enters, Leaves, Meets, Opening, Start, action_in, after_in, hand_in, label_in}
use Rattle.pfs_rows.specs.declared.table.Seen.TheVariants.{Whole, Free}
use Rattle.pfs_rows.specs.declared.table.Seen.TheVariants as sees
use Rattle.pfs_switches.specs.OpeningWords.{opening_words}
use Rattle.pfs_switches.specs.SeatViews.{known as known_words}
use Rattle.pfs_switches.specs.declared.view.Loaded.{Loaded}
use Rattle.pfs_switches.specs.declared.view.Met.{Met}
use Rattle.pfs_switches.specs.declared.view.View.{View as WordView}
use Rattle.pfs_tickets.specs.Knowledge.{stake as all_of}
use Rattle.pfs_tickets.specs.SeatViews.{known as known_tickets}
use Rattle.pfs_tickets.specs.declared.view.Drawn.{Drawn}
use Rattle.pfs_tickets.specs.declared.view.View.{View as TicketView}
use Rattle.pfs_board_root.specs.Roots.{RootView}
use Rattle.pfs_board_root.specs.Readings.{AllAsSeen, AreAbove, HaveRead, LastLaw}
use Rattle.pfs_board_root.proofs.ReadCalls.{quiet_in}

some_right : {A : Type 0} (P : A → Type 0) (xs ys : List A) → Some_of P ys → Some_of P (xs ++ ys)
some_right P [] ys s = s
some_right {A} P (x ∷ xs) ys s = inr (some_right {A = A} P xs ys s)

-- what such calls showed is shown by more
shown_more : (v : View) (start : Start) (mine reads : List Finished) (seen sights : List Sight) (calls : List Call) → AllAsSeen v calls → AreShown start reads sights [] calls → AreShown start (mine ++ reads) (seen ++ sights) [] calls
shown_more v start mine reads seen sights [] a s = tt
shown_more v start mine reads seen sights (Reads row (Whole k found) ∷ calls) a s = ((s.0.0, some_right _ mine reads s.0.1), shown_more v start mine reads seen sights calls a.1 s.1)
shown_more v start mine reads seen sights (Reads row (Free word) ∷ calls) a s = ((s.0.0, s.0.1, some_right _ seen sights s.0.2), shown_more v start mine reads seen sights calls a.1 s.1)
shown_more v start mine reads seen sights (Reads row (sees.Busy first second) ∷ calls) a s = absurd a.0
shown_more v start mine reads seen sights (Loads at to flags ∷ calls) a s = (tt, shown_more v start mine reads seen sights calls a.1 s.1)
shown_more v start mine reads seen sights (Adds row amount answer ∷ calls) a s = absurd a.0
shown_more v start mine reads seen sights (Rings row content answer ∷ calls) a s = absurd a.0
shown_more v start mine reads seen sights (Draws kind ticket ∷ calls) a s = absurd a.0
shown_more v start mine reads seen sights (Meets versions ∷ calls) a s = absurd a.0
shown_more v start mine reads seen sights (Takes row k found ∷ calls) a s = absurd a.0
shown_more v start mine reads seen sights (Puts row content k ∷ calls) a s = absurd a.0
shown_more v start mine reads seen sights (Frees row k ∷ calls) a s = absurd a.0
shown_more v start mine reads seen sights (Sets at to k ∷ calls) a s = absurd a.0
shown_more v start mine reads seen sights (Enters label labels ∷ calls) a s = absurd a.0
shown_more v start mine reads seen sights (Leaves ∷ calls) a s = absurd a.0

shown_by : (v : View) (start : Start) (calls : List Call) (reads : List Finished) (sights : List Sight) → AllAsSeen v calls → AreLooked start calls reads sights → AreShown start reads sights [] calls
unfolding AreLooked
shown_by v start [] reads sights a l = tt
shown_by v start (Reads row (Whole k found) ∷ calls) reads sights a l =
    let read = l.6.0 in
    let rest : AreShown start l.1 l.4 [] calls = shown_by v start calls l.1 l.4 a.1 l.7 in
    subst (λ (z : List Finished). AreShown start z sights [] (Reads row (Whole k found) ∷ calls)) (sym l.2) (subst (λ (z : List Sight). AreShown start (l.0 ++ l.1) z [] (Reads row (Whole k found) ∷ calls)) (sym l.5)
    ((a.0.0, subst (λ (z : List Finished). Some_of (λ (f : Finished). IsFinished start row k (action_in calls) (after_in calls) f × (f.content ≡ found)) (z ++ l.1)) (sym read.1) (inl (read.2, read.3))), shown_more v start l.0 l.1 l.3 l.4 calls a.1 rest))
shown_by v start (Reads row (Free word) ∷ calls) reads sights a l =
    let saw = l.6.1 in
    let rest : AreShown start l.1 l.4 [] calls = shown_by v start calls l.1 l.4 a.1 l.7 in
    subst (λ (z : List Finished). AreShown start z sights [] (Reads row (Free word) ∷ calls)) (sym l.2) (subst (λ (z : List Sight). AreShown start (l.0 ++ l.1) z [] (Reads row (Free word) ∷ calls)) (sym l.5)
    ((a.0.0.0, a.0.3, subst (λ (z : List Sight). Some_of (IsSighted start row word word (action_in calls) (after_in calls)) (z ++ l.4)) (sym saw.1) (inl saw.2)), shown_more v start l.0 l.1 l.3 l.4 calls a.1 rest))
shown_by v start (Reads row (sees.Busy first second) ∷ calls) reads sights a l = absurd a.0
shown_by v start (Loads at to flags ∷ calls) reads sights a l =
    let rest : AreShown start l.1 l.4 [] calls = shown_by v start calls l.1 l.4 a.1 l.7 in
    subst (λ (z : List Finished). AreShown start z sights [] (Loads at to flags ∷ calls)) (sym l.2) (subst (λ (z : List Sight). AreShown start (l.0 ++ l.1) z [] (Loads at to flags ∷ calls)) (sym l.5) (tt, shown_more v start l.0 l.1 l.3 l.4 calls a.1 rest))
shown_by v start (Adds row amount answer ∷ calls) reads sights a l = absurd a.0
shown_by v start (Rings row content answer ∷ calls) reads sights a l = absurd a.0
shown_by v start (Draws kind ticket ∷ calls) reads sights a l = absurd a.0
shown_by v start (Meets versions ∷ calls) reads sights a l = absurd a.0
shown_by v start (Takes row k found ∷ calls) reads sights a l = absurd a.0
shown_by v start (Puts row content k ∷ calls) reads sights a l = absurd a.0
shown_by v start (Frees row k ∷ calls) reads sights a l = absurd a.0
shown_by v start (Sets at to k ∷ calls) reads sights a l = absurd a.0
shown_by v start (Enters label labels ∷ calls) reads sights a l = absurd a.0
shown_by v start (Leaves ∷ calls) reads sights a l = absurd a.0

-- they change, draw and hold nothing
record ChangesNothing (start : Opening) (calls : List Call) : Type 0 where
  pub tied : IsTied start.board calls []
  pub met : AreMet start.switches calls []
  pub drawn : AreDrawn start.tickets calls []
  pub empty : (row : ℕ) → hand_in calls row ≡ None
  pub label : label_in calls ≡ no_label

nothing : (v : View) (start : Opening) (calls : List Call) → AllAsSeen v calls → ChangesNothing start calls
nothing v start [] a = record { tied = refl; met = refl; drawn = refl; empty = λ row. refl; label = refl }
nothing v start (Reads row seen ∷ calls) a = let n = nothing v start calls a.1 in record { tied = n.tied; met = n.met; drawn = n.drawn; empty = n.empty; label = n.label }
nothing v start (Loads at to flags ∷ calls) a = let n = nothing v start calls a.1 in record { tied = n.tied; met = n.met; drawn = n.drawn; empty = n.empty; label = n.label }
nothing v start (Adds row amount answer ∷ calls) a = absurd a.0
nothing v start (Rings row content answer ∷ calls) a = absurd a.0
nothing v start (Draws kind ticket ∷ calls) a = absurd a.0
nothing v start (Meets versions ∷ calls) a = absurd a.0
nothing v start (Takes row k found ∷ calls) a = absurd a.0
nothing v start (Puts row content k ∷ calls) a = absurd a.0
nothing v start (Frees row k ∷ calls) a = absurd a.0
nothing v start (Sets at to k ∷ calls) a = absurd a.0
nothing v start (Enters label labels ∷ calls) a = absurd a.0
nothing v start (Leaves ∷ calls) a = absurd a.0

one_zero : (b : Bool) (n : ℕ) → cond b 1 0 + n ≡ 0 → (b ≡ false) × (n ≡ 0)
one_zero true n e = absurd (omega (arith, e))
one_zero false n e = (refl, omega (arith, e))

-- a seat that holds no row
pub idle_rows : (cs : List Corner) (r : ℕ) → held cs ≡ 0 → is_holding (get_or cs r newcomer).stage ≡ false
idle_rows [] r e = refl
idle_rows (c ∷ cs) zero e = (one_zero (is_holding c.stage) (held cs) e).0
idle_rows (c ∷ cs) (suc r) e = idle_rows cs r (one_zero (is_holding c.stage) (held cs) e).1

hand_none : (s : Stage) → is_holding s ≡ false → in_hand s ≡ None
hand_none Idle e = refl
hand_none (Reading k xs) e = refl
hand_none (Holding k found put) e = cc

not_held : (b : Bool) (P : Type 0) → b ≡ false → b ≡ true → P
not_held b P e f = cc

lists_as : (actors : List Worked) (v v' : View) (w w' : WordView) (t t' : TicketView) → v'.made ≡ v.made → v'.reads ≡ v.reads → v'.sights ≡ v.sights → v'.entered ≡ v.entered → w'.loads ≡ w.loads → w'.meets ≡ w.meets
    → t'.tickets ≡ t.tickets → AreGathered actors v w t → AreGathered actors v' w' t'
lists_as actors v v' w w' t t' em er es ee el ek et g = record {
  tied = subst (λ (z : List Changed). AreParts (λ (a : Worked) (made : List Changed). IsTied a.start.board a.calls made) actors z) (sym em) g.tied;
  shown = subst (λ (z : List Finished). AllShown z v'.sights v'.entered actors) (sym er) (subst (λ (z : List Sight). AllShown v.reads z v'.entered actors) (sym es) (subst (λ (z : List Entered). AllShown v.reads v.sights z actors) (sym ee) g.shown));
  looked = subst (λ (z : List Finished). AllLooked actors z v'.sights) (sym er) (subst (λ (z : List Sight). AllLooked actors v.reads z) (sym es) g.looked);
  loaded = subst (λ (z : List Loaded). AreParts (λ (a : Worked) (loads : List Loaded). AreLoaded a.start a.calls loads) actors z) (sym el) g.loaded;
  met = subst (λ (z : List Met). AreParts (λ (a : Worked) (meets : List Met). AreMet a.start.switches a.calls meets) actors z) (sym ek) g.met;
  drawn = subst (λ (z : List Drawn). AreParts (λ (a : Worked) (tickets : List Drawn). AreDrawn a.start.tickets a.calls tickets) actors z) (sym et) g.drawn;
  done = g.done;
}

module _ (flags : List ℕ) (was now : RootView) (start : Opening) (calls : List Call) (h : HaveRead flags was now start calls) where
  -- what its seats would have, if they had begun with these readings
  abbrev mine : View
  mine = record now.seat { allowance = stake was.seat; made = []; reads = h.reads; sights = h.sights; entered = []; label = no_label; labels = [] }

  abbrev words : WordView
  words = record now.words { loads = h.loads; meets = [] }

  abbrev draws : TicketView
  draws = record was.draws { draws = all_of was.draws; tickets = [] }

  made : was.words.start ≡ opening_words flags → now.seat.action ≡ 0 → now.seat.after ≡ 0 → held now.seat.rows ≡ 0
      → HasMade start calls (known_board was.board mine) (known_words was.switches words) (known_tickets was.tickets draws)
  made opened out never empty =
      let q = quiet_in now.seat calls h.alone in
      let n = nothing now.seat start calls h.alone in
      let hands : (r : ℕ) → in_hand (corner now.seat r).stage ≡ None = λ r. hand_none (corner now.seat r).stage (idle_rows now.seat.rows r empty) in
      record {
        board = ap (λ (o : Opening). o.board.table) (sym h.begun);
        switches = ap (λ (o : Opening). o.switches.table) (sym h.begun);
        tickets = ap (λ (o : Opening). o.tickets.table) (sym h.begun);
        made = record {
          board = record {
            number_is = h.kept.number ∙ ap (λ (o : Opening). o.board.number) (sym h.begun);
            base_is = h.kept.base ∙ ap (λ (o : Opening). o.board.base) (sym h.begun);
            stake_is = omega (arith, ap (λ (o : Opening). o.board.stake) h.begun);
            tied = n.tied;
            shown = shown_by now.seat start.board calls h.reads h.sights h.alone h.looked;
            taken = λ row some is. not_held (is_holding (corner now.seat row).stage) _ (idle_rows now.seat.rows row empty) is;
            hand = λ row some. hands row ∙ sym (n.empty row);
            action = out ∙ sym q.0;
            after = never ∙ sym q.1;
            label = sym n.label;
            labels = λ some. absurd (omega (arith, some, q.0));
            seen = h.tops;
          };
          words = (
            h.kept.words_number ∙ ap (λ (o : Opening). o.switches.number) (sym h.begun),
            h.kept.words_start ∙ (opened ∙ ap (λ (o : Opening). opening_words o.flags) (sym h.begun)),
            h.kept.first ∙ ap (λ (o : Opening). o.words) (sym h.begun),
            h.loaded,
            h.words,
            n.met,
          );
          tickets = (ap (λ (o : Opening). o.tickets.number) (sym h.begun), omega (arith, ap (λ (o : Opening). o.tickets.stake) h.begun), n.drawn);
          rising = h.rising;
          there = h.there;
        };
        looked = h.looked;
        outside = q.0;
        empty = λ row some. n.empty row;
      }

  pub own_gathered : GatherLaw → was.words.start ≡ opening_words flags → now.seat.action ≡ 0 → now.seat.after ≡ 0 → held now.seat.rows ≡ 0 → (actors : List Worked) → AreGathered actors was.seat was.words was.draws
      → AreGathered (record { start = start; calls = calls } ∷ actors) now.seat now.words now.draws
  own_gathered law opened out never empty actors g =
      lists_as (record { start = start; calls = calls } ∷ actors) _ now.seat _ now.words _ now.draws h.kept.made h.reads_are h.sights_are h.kept.entered h.loads_are h.kept.meets (ap (λ (t : TicketView). t.tickets) h.kept.draws)
      (law actors was.seat was.words was.draws g start calls (known_board was.board mine) (known_words was.switches words) (known_tickets was.tickets draws) (made opened out never empty))

-- behind the readings the root is told of the whole history
pub lasts : LastLaw
lasts flags was now start calls read rows words h whole wide = all calls read.alone read.above
  where
    row_of : (r word : ℕ) → (corner now.seat r).fresh ≡ true → (corner now.seat r).last ≡ Some word → lock h.t r ≡ word
    row_of r word f l = (h.fits.corners r).alone whole word f l

    final : (r : ℕ) → r < 14242 → IsFinalRow rows h.t now.seat r
    final r low = h.rows r (omega (arith, low, wide))

    all : (calls : List Call) → AllAsSeen now.seat calls → AreAbove was.words.seen calls → AreOfEnd rows h.t.log was.words.seen calls
    all [] a b = tt
    all (Reads r (Whole k found) ∷ calls) a b =
        let e : lock h.t r ≡ 4 * k + 2 = row_of r (4 * k + 2) a.0.1 a.0.2 in
        let f = final r a.0.0.1 in
        ((a.0.0, omega (arith, e, f.counts), f.allocated (omega (arith, e))), all calls a.1 b)
    all (Reads r (Free word) ∷ calls) a b =
        let e : lock h.t r ≡ word = row_of r word a.0.1 a.0.2 in
        let f = final r a.0.0.1 in
        ((a.0.0, omega (arith, e, f.counts, a.0.3)), all calls a.1 b)
    all (Reads r (sees.Busy first second) ∷ calls) a b = absurd a.0
    all (Loads at to flags ∷ calls) a b = (b.0, all calls a.1 b.1)
    all (Adds r amount answer ∷ calls) a b = absurd a.0
    all (Rings r content answer ∷ calls) a b = absurd a.0
    all (Draws kind ticket ∷ calls) a b = absurd a.0
    all (Meets versions ∷ calls) a b = absurd a.0
    all (Takes r k found ∷ calls) a b = absurd a.0
    all (Puts r content k ∷ calls) a b = absurd a.0
    all (Frees r k ∷ calls) a b = absurd a.0
    all (Sets at to k ∷ calls) a b = absurd a.0
    all (Enters label labels ∷ calls) a b = absurd a.0
    all (Leaves ∷ calls) a b = absurd a.0
