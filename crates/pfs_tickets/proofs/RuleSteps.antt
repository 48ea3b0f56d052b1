-- The steps on a word: a draw, the telling of a number, and the count of a kind.
use Rattle.std.proofs.Common.{◌≡◌, ℕ, eqb, subst, ◌+◌, ◌%◌, ◌^◌, ◌<◌, ◌≤◌, ◌≢◌, List, get_or, set, sym, refl, ap, ◌∙◌, ⊎_elim, arith, length-set, get_or-set_other, get_or-set_same}
use mathlib.Core.Logic.{dite}
use mathlib.Core.Option.{some, none}
use native.Mathlib.Decide.{ℕ_discrete}
use lib.ListN.{get_elem?}
use lib.Seq.{set-get_or}
use prog.Atomic.{either}
use Rattle.atomic_table.specs.Table.{State, Me, step, keeps, Allows}
use Rattle.atomic_table.proofs.Lists.{at_set, exchanged}
use Rattle.pfs_tickets.specs.declared.view.Drawn.{Drawn}
use Rattle.pfs_tickets.specs.declared.view.View.{View}
use Rattle.pfs_tickets.specs.History.{Each, total, count_of, times}
use Rattle.pfs_tickets.specs.Knowledge.{all_draws, stake, IsWhole, ticket_of, drew, told}
use Rattle.pfs_tickets.specs.Plays.{draws, tells, counts}
use Rattle.pfs_tickets.specs.Rule.{Fits, IsKind, Ruled}
use Rattle.pfs_tickets.specs.WholeSeats.{IsComplete}
use Rattle.pfs_tickets.proofs.ListFacts.{each_map, total_set, total_same, total_room, total_alone}
use Rattle.pfs_tickets.proofs.StepNumbers.{numbers_set}
use Rattle.pfs_tickets.proofs.TicketFacts.{count_here, count_other, count_low, times_here, times_else, times_other, times_low, four_kinds}

abbrev pub Counted : ℕ → View → ℕ
Counted k v = count_of k v.tickets

abbrev pub Timed : ℕ → ℕ → View → ℕ
Timed k t v = times k t v.tickets

-- a word that grew
pub fits_up : (ws ws' : List ℕ) → ((k : ℕ) → get_or ws k 0 ≤ get_or ws' k 0) → (v : View) → Fits ws v → Fits ws' v
fits_up ws ws' up v f = record {
  kinds = f.kinds;
  below = each_map (λ (x : Drawn). x.ticket < get_or ws x.kind 0) (λ (x : Drawn). x.ticket < get_or ws' x.kind 0) (λ x h. let u = up x.kind in omega arith) v.tickets f.below;
  rising = f.rising;
  own = f.own;
}

pub fits_set : (ws : List ℕ) (views : List View) (id : ℕ) (w : View) → Fits ws w → ((j : ℕ) (u : View) → get_elem? views j ≡ some u → Fits ws u) → (j : ℕ) (u : View) → get_elem? (set views id w) j ≡ some u → Fits ws u
fits_set ws views id w mine all j u there = ⊎_elim (λ (h : (j ≡ id) × (w ≡ u)). subst (Fits ws) h.1 mine) (λ (h : (j ≢ id) × (get_elem? views j ≡ some u)). all j u h.1) (at_set views id j w u there)

-- a kind of which all views together have what they had
pub kind_same : (ws : List ℕ) (views views' : List View) (k : ℕ) → total (Counted k) views' ≡ total (Counted k) views → ((t : ℕ) → total (Timed k t) views' ≡ total (Timed k t) views) → IsKind ws views k → IsKind ws views' k
kind_same ws views views' k c t g = record { counts = c ∙ g.counts; once = λ n h. t n ∙ g.once n h; never = λ n h. t n ∙ g.never n h }

module _ (S : Type 0) where
  abbrev St : Type 0
  St = State S View

  abbrev pub M : Type 0
  M = Me S View

  abbrev Rule : St → Type 0
  Rule = Ruled {S = S}

  -- what a seat has drawn and has left is no more than all draws
  pub room : (s : St) (r : Rule s) (id : ℕ) (v : View) → get_elem? s.views id ≡ some v → (k : ℕ) → k < 4 → get_or s.words k 0 + v.draws ≤ all_draws
  room s r id v at k inside = let low = count_low k v.tickets in let h = total_room (Counted k) stake (λ u. let l = count_low k u.tickets in omega arith) s.views id v v.draws at (omega arith) in
      let c = (r.kinds k inside).counts in let p = r.paid in omega arith

  -- a step that tells a number
  pub tell_keeps : (slots id : ℕ) (me : M) (a : ℕ) → Allows Rule slots id me 0 (λ n. either (eqb n a) a n) (tells (step slots 0 a a none) me)
  tell_keeps slots id me a s r _ at _ = let v : View = me.0 in let w : View = told v a in let n : ℕ = get_or s.words 0 0 in let f = r.seats id v at in
      let same : either (eqb n a) a n ≡ n = exchanged n a a (λ z. z ≡ n) (λ e. sym e) (λ e. refl) in
      let now : set s.words 0 (either (eqb n a) a n) ≡ s.words = ap (set s.words 0) same ∙ set-get_or s.words 0 0 in (
        w,
        keeps,
        tt,
        subst (λ (ws : List ℕ). Rule record { words = ws; homes = s.homes; views = set s.views id w }) (sym now) record {
          wide = r.wide;
          kinds = λ k low. kind_same s.words s.views (set s.views id w) k (total_same (Counted k) s.views id v w at refl) (λ t. total_same (Timed k t) s.views id v w at refl) (r.kinds k low);
          paid = total_same stake s.views id v w at refl ∙ r.paid;
          seats = fits_set s.words s.views id w record { kinds = f.kinds; below = f.below; rising = f.rising; own = f.own } r.seats;
          numbers = numbers_set s.views id v w at record { live_is = refl; number_is = refl; seats_are = refl; makers_are = λ P _ m. m } r.numbers;
        },
        refl,
      )

  module _ (s : St) (r : Rule s) (id : ℕ) (v : View) (at : get_elem? s.views id ≡ some v) (whole : IsWhole v) where
    alone : (f : View → ℕ) → ((u : View) → f u ≤ stake u) → total f s.views ≡ f v
    alone f low = total_alone f stake low s.views id v at (whole ∙ sym r.paid)

    pub count_whole : (k : ℕ) → k < 4 → get_or s.words k 0 ≡ count_of k v.tickets
    count_whole k low = sym (r.kinds k low).counts ∙ alone (Counted k) (λ u. let l = count_low k u.tickets in omega arith)

    timed : (k t : ℕ) → total (Timed k t) s.views ≡ times k t v.tickets
    timed k t = alone (Timed k t) (λ u. let l = times_low k t u.tickets in omega arith)

    pub complete : IsComplete v
    complete = let f = r.seats id v at in record {
      kinds = f.kinds;
      once = λ k t low h. let c = count_whole k low in sym (timed k t) ∙ (r.kinds k low).once t (omega arith);
      never = λ k t low h. let c = count_whole k low in sym (timed k t) ∙ (r.kinds k low).never t (omega arith);
      rising = f.rising;
      sum = let e = four_kinds v.tickets f.kinds in let w = whole in omega arith;
    }

  -- who has the whole sum reads a word
  pub count_keeps : (slots id : ℕ) (me : M) (q : ℕ) → q < 4 → Allows Rule slots id me q (λ n. n) (counts (step slots q 0 0 none) me)
  count_keeps slots id me q inside s r _ at _ = let v : View = me.0 in (
    v,
    keeps,
    tt,
    subst (λ (ws : List ℕ). Rule record { words = ws; homes = s.homes; views = set s.views id v }) (sym (set-get_or s.words q 0)) record {
      wide = r.wide;
      kinds = λ k low. kind_same s.words s.views (set s.views id v) k (total_same (Counted k) s.views id v v at refl) (λ t. total_same (Timed k t) s.views id v v at refl) (r.kinds k low);
      paid = total_same stake s.views id v v at refl ∙ r.paid;
      seats = fits_set s.words s.views id v (r.seats id v at) r.seats;
      numbers = numbers_set s.views id v v at record { live_is = refl; number_is = refl; seats_are = refl; makers_are = λ P _ m. m } r.numbers;
    },
    (refl, λ whole. (count_whole s r id v at whole q inside, complete s r id v at whole)),
  )

  -- the words after a draw of the kind q, which found n
  module _ (s : St) (r : Rule s) (id : ℕ) (v : View) (at : get_elem? s.views id ≡ some v) (q : ℕ) (inside : q < 4) (some_left : 0 < v.draws) where
    abbrev n : ℕ
    n = get_or s.words q 0

    abbrev w : View
    w = drew v q n

    abbrev ws : List ℕ
    ws = set s.words q (n + 1)

    here : get_or ws q 0 ≡ n + 1
    here = let wide = r.wide in get_or-set_same s.words q (n + 1) 0 (omega arith)

    else : (k : ℕ) → k ≢ q → get_or ws k 0 ≡ get_or s.words k 0
    else k ne = get_or-set_other s.words q k (n + 1) 0 ne

    up : (k : ℕ) → get_or s.words k 0 ≤ get_or ws k 0
    up k = dite (ℕ_discrete k q) (λ e. let a = ap (λ i. get_or s.words i 0) e in let b = ap (λ i. get_or ws i 0) e in let c = here in omega arith) (λ ne. let a = else k ne in omega arith)

    pub above : Each (λ (x : Drawn). x.kind ≡ q → x.ticket < n) v.tickets
    above = each_map (λ (x : Drawn). x.ticket < get_or s.words x.kind 0) (λ (x : Drawn). x.kind ≡ q → x.ticket < n) (λ x h e. let a = ap (λ i. get_or s.words i 0) e in omega arith) v.tickets (r.seats id v at).below

    mine : Fits ws w
    mine = let f = fits_up s.words ws up v (r.seats id v at) in let c = here in record {
      kinds = (inside, f.kinds);
      below = (omega arith, f.below);
      rising = (each_map (λ (x : Drawn). x.kind ≡ q → x.ticket < n) (λ (x : Drawn). x.by ≡ v.number → x.kind ≡ q → x.ticket < n) (λ x h _ e. h e) v.tickets above, f.rising);
      own = λ z. (refl, f.own z);
    }

    -- the kind that was drawn
    drawn_kind : IsKind ws (set s.views id w) q
    drawn_kind = let g = r.kinds q inside in let c = here in record {
      counts = let a = total_set (Counted q) s.views id v w at in let b = count_here (ticket_of v q n) v.tickets q refl in let d = g.counts in omega arith;
      once = λ t low. let a = total_set (Timed q t) s.views id v w at in dite (ℕ_discrete n t)
          (λ e. let b = times_here (ticket_of v q n) v.tickets q t refl e in let d = g.never t (omega arith) in omega arith)
          (λ ne. let b = times_else (ticket_of v q n) v.tickets q t refl ne in let d = g.once t (omega arith) in omega arith);
      never = λ t high. let a = total_set (Timed q t) s.views id v w at in let b = times_else (ticket_of v q n) v.tickets q t refl (λ e. omega arith) in let d = g.never t (omega arith) in omega arith;
    }

    other_kind : (k : ℕ) → k < 4 → k ≢ q → IsKind ws (set s.views id w) k
    other_kind k low ne = let g = r.kinds k low in let c = else k ne in record {
      counts = let a = total_set (Counted k) s.views id v w at in let b = count_other (ticket_of v q n) v.tickets k (λ e. ne (sym e)) in let d = g.counts in omega arith;
      once = λ t h. let a = total_set (Timed k t) s.views id v w at in let b = times_other (ticket_of v q n) v.tickets k t (λ e. ne (sym e)) in let d = g.once t (omega arith) in omega arith;
      never = λ t h. let a = total_set (Timed k t) s.views id v w at in let b = times_other (ticket_of v q n) v.tickets k t (λ e. ne (sym e)) in let d = g.never t (omega arith) in omega arith;
    }

    pub drawn : Rule record { words = ws; homes = s.homes; views = set s.views id w }
    drawn = record {
      wide = length-set s.words q (n + 1) ∙ r.wide;
      kinds = λ k low. dite (ℕ_discrete k q) (λ e. subst (IsKind ws (set s.views id w)) (sym e) drawn_kind) (λ ne. other_kind k low ne);
      paid = let a = total_set stake s.views id v w at in let p = r.paid in omega arith;
      seats = fits_set ws s.views id w mine (λ j u there. fits_up s.words ws up u (r.seats j u there));
      numbers = numbers_set s.views id v w at record { live_is = refl; number_is = refl; seats_are = refl; makers_are = λ P own m. (own, m) } r.numbers;
    }

  one_keeps : (slots id : ℕ) (me : M) (q : ℕ) → q < 4 → 0 < me.0.draws → Allows Rule slots id me q (λ n. (n + 1) % 2 ^ 64) (draws (step slots q 1 0 none) me)
  one_keeps slots id me q inside some_left s r _ at _ = let v : View = me.0 in let n : ℕ = get_or s.words q 0 in let free = room s r id v at q inside in
      let next : (n + 1) % 2 ^ 64 ≡ n + 1 = omega arith in (
        drew v q n,
        keeps,
        tt,
        subst (λ z. Rule record { words = set s.words q z; homes = s.homes; views = set s.views id (drew v q n) }) (sym next) (drawn s r id v at q inside some_left),
        (refl, above s r id v at q inside some_left, (λ whole. count_whole s r id v at whole q inside), free),
      )

  pub draw_keeps : (slots id : ℕ) (me : M) (q x : ℕ) → q < 4 → x ≡ 1 → 0 < me.0.draws → Allows Rule slots id me q (λ n. (n + x) % 2 ^ 64) (draws (step slots q x 0 none) me)
  draw_keeps slots id me q x inside one some_left = subst (λ z. Allows Rule slots id me q (λ n. (n + z) % 2 ^ 64) (draws (step slots q z 0 none) me)) (sym one) (one_keeps slots id me q inside some_left)
