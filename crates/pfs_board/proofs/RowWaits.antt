-- What a seat knows that waits for row 0, and then has it.
use Rattle.std.proofs.Common.{◌≡◌, ℕ, ◌+◌, ◌*◌, ◌/◌, ◌%◌, ◌<◌, ◌≤◌, true, false, List, [], ◌∷◌, length, get_or, set, subst, sym, refl, ap, ◌∙◌, arith, length-set, get_or-set_same}
use Rattle.std.specs.Prelude.{Some}
use Rattle.std.proofs.lemmas.Bool.{cond-false}
use Rattle.pfs_lemmas.proofs.Options.{some_same}
use Rattle.atomic_table.specs.Seated.{TableId}
use Rattle.pfs_board.specs.declared.view.Corner.{Corner}
use Rattle.pfs_board.specs.declared.view.Label.{Label}
use Rattle.pfs_board.specs.declared.view.Stage.TheVariants.{Holding}
use Rattle.pfs_board.specs.declared.view.View.{View}
use Rattle.pfs_board.specs.ActionKnowledge.{HasWaited, HasBegun}
use Rattle.pfs_board.specs.Knowledge.{newcomer, corner, is_holding, held, stake, found_in, sighted, stale, settled}
use Rattle.pfs_board.specs.SeatViews.{IsReady}
use Rattle.pfs_board.specs.SeatDemands.{IsAt, IsCalm}
use Rattle.pfs_board.proofs.CallSteps.{at_next}
use Rattle.pfs_board.proofs.ReadySeats.{settled_calm}
use Rattle.pfs_board.proofs.OwnFacts.{own_begun}
use Rattle.pfs_board.proofs.ViewFacts.{held_set, held_stale, length_stale, one, corners_set, corners_stale, settled_holds}

pub waited_at : (z z' y : TableId) (start : List ℕ) (v w : View) → IsAt z y start v 0 → z' ≡ z → HasWaited v w → IsAt z' y start w 0
waited_at z z' y start v w a e h = at_next z z' y start v w 0 a e (ap (λ (x : View). length x.rows) h.view_is ∙ length-set v.rows 0 (corner w 0)) (ap (λ (x : View). x.live) h.view_is)

pub waited_outside : (v w : View) → HasWaited v w → (v.action ≡ 0) × (v.lent ≡ false) × (held v.rows < v.allowance) → (w.action ≡ 0) × (w.lent ≡ false) × (held w.rows < w.allowance)
waited_outside v w h o = let room = o.2 in let hands = h.hands in let allowance = ap (λ (x : View). x.allowance) h.view_is in (ap (λ (x : View). x.action) h.view_is ∙ o.0, ap (λ (x : View). x.lent) h.view_is ∙ o.1, omega arith)

pub ready_begun : (z : TableId) (v w : View) (label : Label) → 0 < length v.rows → IsReady z (v ∷ []) → HasBegun v label w → IsReady z (w ∷ [])
ready_begun z v w label h r b = let n : ℕ = 4 * length w.labels + 1 in let c : Corner = sighted (Holding (length w.labels) (found_in (corner w 0).stage) []) n in let l = length_stale v.rows in let inside : 0 < length (stale v.rows) = omega arith in
    let rows : w.rows ≡ set (stale v.rows) 0 c = ap (λ (x : View). x.rows) b.view_is in record {
      one = refl;
      live = ap (λ (x : View). x.live) b.view_is ∙ r.live;
      quiet = ap (λ (x : View). x.said) b.view_is;
      still = ap (λ (x : View). x.moving) b.view_is ∙ r.still;
      blank = λ e. let out : w.lent ≡ true = ap (λ (x : View). x.lent) b.view_is in cc;
      wide = ap (λ (xs : List Corner). 17 * length xs) rows ∙ (ap (λ k. 17 * k) (length-set (stale v.rows) 0 c ∙ l) ∙ r.wide);
      calm = λ q. subst (λ (xs : List Corner). IsCalm (get_or xs q newcomer).stage) (sym rows) (corners_set (λ _ (d : Corner). IsCalm d.stage) (stale v.rows) 0 c inside refl (λ p _. corners_stale (λ (d : Corner). IsCalm d.stage) v.rows p (settled_calm (corner v p).stage (r.calm p))) q);
      words = λ q. subst (λ (xs : List Corner). (k : ℕ) → (get_or xs q newcomer).last ≡ Some k → k % 4 < 3) (sym rows)
          (corners_set (λ _ (d : Corner). (k : ℕ) → d.last ≡ Some k → k % 4 < 3) (stale v.rows) 0 c inside (λ k e. let is : n ≡ k = some_same n k e in omega arith) (λ p _. corners_stale (λ (d : Corner). (k : ℕ) → d.last ≡ Some k → k % 4 < 3) v.rows p (r.words p)) q);
      poised = record {
        outside = λ a. let n = ap (λ (x : View). x.action) b.view_is in absurd (omega (arith, a, n));
        inside = λ _. (
          ap (λ (x : View). is_holding (corner x 0).stage) b.view_is ∙ ap (λ (d : Corner). is_holding d.stage) (get_or-set_same (stale v.rows) 0 c newcomer inside),
          ap (λ (x : View). x.lent) b.view_is,
          sym (ap (λ (x : View). x.action) b.view_is),
          (let f = ap (λ (x : View). x.after) b.view_is in let n = ap (λ (x : View). x.action) b.view_is in omega (arith, f, n)),
        );
      };
      tops = λ q. subst (λ (xs : List Corner). (k : ℕ) → (get_or xs q newcomer).fresh ≡ true → (get_or xs q newcomer).last ≡ Some k → (get_or xs q newcomer).seen ≤ k / 4) (sym rows)
          (corners_set (λ _ (d : Corner). (k : ℕ) → d.fresh ≡ true → d.last ≡ Some k → d.seen ≤ k / 4) (stale v.rows) 0 c inside (λ k f e. let is : n ≡ k = some_same n k e in let s : n / 4 ≡ k / 4 = ap (λ z. z / 4) is in omega (arith, s)) (λ p _. corners_stale (λ (d : Corner). (k : ℕ) → d.fresh ≡ true → d.last ≡ Some k → d.seen ≤ k / 4) v.rows p (λ k f. cc)) q);
      own = own_begun v w label h b r.own;
    }

pub hands_begun : (v w : View) (label : Label) → 0 < length v.rows → is_holding (corner v 0).stage ≡ false → HasBegun v label w → (is_holding (corner w 0).stage ≡ true) × (held w.rows ≡ held v.rows + 1) × (stake w ≡ stake v)
hands_begun v w label h free b = let c : Corner = sighted (Holding (length w.labels) (found_in (corner w 0).stage) []) (4 * length w.labels + 1) in let l = length_stale v.rows in let inside : 0 < length (stale v.rows) = omega arith in
    let s = held_set (stale v.rows) 0 c inside in let x : one c ≡ 1 = refl in let same = held_stale v.rows in let rows = ap (λ (y : View). held y.rows) b.view_is in
    let y : one (get_or (stale v.rows) 0 newcomer) ≡ 0 = corners_stale (λ (d : Corner). one d ≡ 0) v.rows 0 (cond-false {A = ℕ} (is_holding (settled (corner v 0).stage)) 1 0 (settled_holds (corner v 0).stage ∙ free)) in (
      ap (λ (y : View). is_holding (corner y 0).stage) b.view_is ∙ ap (λ (d : Corner). is_holding d.stage) (get_or-set_same (stale v.rows) 0 c newcomer inside),
      omega arith,
      ap stake b.view_is,
    )
