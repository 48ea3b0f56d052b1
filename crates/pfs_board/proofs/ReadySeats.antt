-- What holds of a seat between calls, after it was split or joined, or a board opened.
use Rattle.std.proofs.Common.{◌≡◌, ℕ, subst, ◌+◌, ◌*◌, ◌/◌, ◌%◌, ◌<◌, ◌≤◌, true, false, List, [], ◌∷◌, length, get_or, max, set, replicate, sym, refl, ap, ◌∙◌, arith, length-set}
use Rattle.std.specs.Prelude.{Some}
use Rattle.pfs_lemmas.proofs.Options.{some_same}
use Rattle.atomic_table.specs.Seated.{TableId}
use Rattle.pfs_board.specs.declared.answers.Seen.{Seen}
use Rattle.pfs_board.specs.declared.answers.Seen.TheVariants as seen
use Rattle.pfs_board.specs.declared.view.Corner.{Corner}
use Rattle.pfs_board.specs.declared.view.Label.{Label}
use Rattle.pfs_board.specs.declared.view.Stage.{Stage}
use Rattle.pfs_board.specs.declared.view.Stage.TheVariants.{Idle, Reading, Holding}
use Rattle.pfs_board.specs.declared.view.View.{View}
use Rattle.pfs_board.specs.Knowledge.{newcomer, corner, is_holding, settled, told, joined, root, sighted}
use Rattle.pfs_board.specs.SeatViews.{Known, known, first_view, IsReady, HasSeenItsOwn, split_off, given}
use Rattle.pfs_board.specs.ReadAnswers.{IsSeenAs}
use Rattle.pfs_board.specs.SeatDemands.{IsCalm}
use Rattle.pfs_board.proofs.OwnFacts.{own_left, own_both, own_seen}
use Rattle.pfs_board.proofs.ViewFacts.{corners_set, corners_stale, corners_start, corners_merged, length_stale, length_start, length_merged, corner_new, settled_holds}

pub settled_calm : (st : Stage) → IsCalm st → IsCalm (settled st)
settled_calm Idle c = tt
settled_calm (Reading k xs) c = tt
settled_calm (Holding k found put) c = c

-- the view of a seat that a badge became
pub view_of_seat : (z : TableId) (views views' : List View) (v : View) (k : Known) → views' ≡ v ∷ [] → views' ≡ views → known z (first_view views) ≡ k → v ≡ k.view
view_of_seat z views views' v k e f g = sym (ap first_view e) ∙ (ap first_view f ∙ ap (λ (x : Known). x.view) g)

pub ready_view : (z : TableId) (views views' : List View) (v : View) → views' ≡ v ∷ [] → views' ≡ views → IsReady z views → IsReady z (v ∷ [])
ready_view z views views' v e f r = subst (IsReady z) (sym f ∙ e) r

pub ready_left : (z : TableId) (v : View) (a : ℕ) → IsReady z (v ∷ []) → IsReady z (split_off v a ∷ [])
ready_left z v a r = record {
  one = refl;
  live = r.live;
  quiet = refl;
  still = r.still;
  blank = r.blank;
  wide = ap (λ n. 17 * n) (length_stale v.rows) ∙ r.wide;
  calm = λ q. corners_stale (λ c. IsCalm c.stage) v.rows q (settled_calm (corner v q).stage (r.calm q));
  words = λ q. corners_stale (λ c. (n : ℕ) → c.last ≡ Some n → n % 4 < 3) v.rows q (r.words q);
  poised = record {
    outside = λ a. corners_stale (λ c. is_holding c.stage ≡ false) v.rows 0 (settled_holds (corner v 0).stage ∙ r.poised.outside a);
    inside = λ a. let p = r.poised.inside a in (corners_stale (λ c. is_holding c.stage ≡ true) v.rows 0 (settled_holds (corner v 0).stage ∙ p.0), p.1, p.2, p.3);
  };
  tops = λ q. corners_stale (λ c. (n : ℕ) → c.fresh ≡ true → c.last ≡ Some n → c.seen ≤ n / 4) v.rows q (λ n e. cc);
  own = own_left v a r.own;
}

pub ready_right : (z : TableId) (v : View) (a : ℕ) → IsReady z (v ∷ []) → IsReady z (given v a ∷ [])
ready_right z v a r = record {
  one = refl;
  live = refl;
  quiet = refl;
  still = refl;
  blank = λ e. refl;
  wide = ap (λ n. 17 * n) (length_start v.rows) ∙ r.wide;
  calm = λ q. corners_start (λ c. IsCalm c.stage) v.rows q tt;
  words = λ q. corners_start (λ c. (n : ℕ) → c.last ≡ Some n → n % 4 < 3) v.rows q (λ n e. cc);
  poised = record { outside = λ a. corners_start (λ c. is_holding c.stage ≡ false) v.rows 0 refl; inside = λ a. absurd (omega (arith, a)) };
  tops = λ q. corners_start (λ c. (n : ℕ) → c.fresh ≡ true → c.last ≡ Some n → c.seen ≤ n / 4) v.rows q (λ n e. cc);
  own = tt;
}

pub ready_both : (z : TableId) (v w : View) → IsReady z (v ∷ []) → IsReady z (w ∷ []) → IsReady z (joined v w ∷ [])
ready_both z v w r s = let a = r.wide in let b = s.wide in let same : length v.rows ≡ length w.rows = omega arith in record {
  one = refl;
  live = r.live;
  quiet = r.quiet;
  still = r.still;
  blank = r.blank;
  wide = ap (λ n. 17 * n) (length_merged v.rows w.rows) ∙ r.wide;
  calm = λ q. corners_merged (λ c. IsCalm c.stage) v.rows w.rows q same (settled_calm (corner v q).stage (r.calm q));
  words = λ q. corners_merged (λ c. (n : ℕ) → c.last ≡ Some n → n % 4 < 3) v.rows w.rows q same (r.words q);
  poised = record {
    outside = λ a. corners_merged (λ c. is_holding c.stage ≡ false) v.rows w.rows 0 same (settled_holds (corner v 0).stage ∙ r.poised.outside a);
    inside = λ a. let p = r.poised.inside a in (corners_merged (λ c. is_holding c.stage ≡ true) v.rows w.rows 0 same (settled_holds (corner v 0).stage ∙ p.0), p.1, p.2, p.3);
  };
  tops = λ q. corners_merged (λ c. (n : ℕ) → c.fresh ≡ true → c.last ≡ Some n → c.seen ≤ n / 4) v.rows w.rows q same (λ n e. cc);
  own = own_both v w same r.own s.own;
}

length_new : (n : ℕ) → length (replicate n newcomer) ≡ n
length_new Rattle.std.proofs.Common.zero = refl
length_new (Rattle.std.proofs.Common.suc n) = let e = length_new n in omega arith

pub ready_root : (z : TableId) (start : List ℕ) → z.words ≡ length start → length start ≡ 17 * (length start / 17) → IsReady z (root start ∷ [])
ready_root z start w e = let rows : ℕ = length start / 17 in let l = length_new rows in record {
  one = refl;
  live = refl;
  quiet = refl;
  still = refl;
  blank = λ e. refl;
  wide = omega arith;
  calm = λ q. subst (λ (c : Corner). IsCalm c.stage) (sym (corner_new rows q)) tt;
  words = λ q. subst (λ (c : Corner). (n : ℕ) → c.last ≡ Some n → n % 4 < 3) (sym (corner_new rows q)) (λ n e. cc);
  poised = record { outside = λ a. subst (λ (c : Corner). is_holding c.stage ≡ false) (sym (corner_new rows 0)) refl; inside = λ a. absurd (omega (arith, a)) };
  tops = λ q. subst (λ (c : Corner). (n : ℕ) → c.fresh ≡ true → c.last ≡ Some n → c.seen ≤ n / 4) (sym (corner_new rows q)) (λ n e. cc);
  own = tt;
}

-- what is told before a split is what the split reads
pub said_none : (v : View) (a : ℕ) → v.said ≡ [] → told v a ≡ record v { looks = v.looks + 1; said = a ∷ [] }
said_none v a e = ap (λ s. record v { looks = v.looks + 1; said = a ∷ s }) e

-- one row was looked at
pub ready_sighted : (z : TableId) (v w : View) (q n : ℕ) (st : Stage) → q < length v.rows → IsReady z (v ∷ []) → w.rows ≡ set v.rows q (sighted st n) → IsCalm st → n % 4 < 3
    → (q ≡ 0 → is_holding st ≡ is_holding (corner v q).stage) → w.live ≡ v.live → w.said ≡ v.said → w.moving ≡ v.moving → w.lent ≡ v.lent → w.labels ≡ v.labels → w.action ≡ v.action → w.after ≡ v.after
    → HasSeenItsOwn w → IsReady z (w ∷ [])
ready_sighted z v w q n st h r rows calm word zero_same live said moving lent labels action after own = let c : Corner = sighted st n in
    let zero : is_holding (corner w 0).stage ≡ is_holding (corner v 0).stage = subst (λ (xs : List Corner). is_holding (get_or xs 0 newcomer).stage ≡ is_holding (corner v 0).stage) (sym rows)
    (corners_set (λ p (d : Corner). p ≡ 0 → is_holding d.stage ≡ is_holding (corner v p).stage) v.rows q c h zero_same (λ p _ _. refl) 0 refl) in record {
      one = refl;
      live = live ∙ r.live;
      quiet = said ∙ r.quiet;
      still = moving ∙ r.still;
      blank = λ e. labels ∙ r.blank (sym lent ∙ e);
      wide = ap (λ (xs : List Corner). 17 * length xs) rows ∙ (ap (λ k. 17 * k) (length-set v.rows q c) ∙ r.wide);
      calm = λ p. subst (λ (xs : List Corner). IsCalm (get_or xs p newcomer).stage) (sym rows) (corners_set (λ _ (d : Corner). IsCalm d.stage) v.rows q c h calm (λ p _. r.calm p) p);
      words = λ p. subst (λ (xs : List Corner). (k : ℕ) → (get_or xs p newcomer).last ≡ Some k → k % 4 < 3) (sym rows)
          (corners_set (λ _ (d : Corner). (k : ℕ) → d.last ≡ Some k → k % 4 < 3) v.rows q c h (λ k e. subst (λ m. m % 4 < 3) (some_same n k e) word) (λ p _. r.words p) p);
      poised = record {
        outside = λ a. zero ∙ r.poised.outside (sym action ∙ a);
        inside = λ a. let p = r.poised.inside (omega (arith, a, action)) in (zero ∙ p.0, lent ∙ p.1, (ap (λ (xs : List Label). length xs + 1) labels ∙ p.2) ∙ sym action, (ap (λ k. k + 1) after ∙ p.3) ∙ sym action);
      };
      tops = λ p. subst (λ (xs : List Corner). (k : ℕ) → (get_or xs p newcomer).fresh ≡ true → (get_or xs p newcomer).last ≡ Some k → (get_or xs p newcomer).seen ≤ k / 4) (sym rows)
          (corners_set (λ _ (d : Corner). (k : ℕ) → d.fresh ≡ true → d.last ≡ Some k → d.seen ≤ k / 4) v.rows q c h (λ k f e. subst (λ m. n / 4 ≤ m / 4) (some_same n k e) (omega arith)) (λ p _. r.tops p) p);
      own = own;
    }

pub ready_seen : (z : TableId) (v w : View) (q : ℕ) (x : Seen) → q < length v.rows → is_holding (corner v q).stage ≡ false → IsSeenAs v q x w → IsReady z (v ∷ []) → IsReady z (w ∷ [])
ready_seen z v w q (seen.Whole k xs) h free a r = let e = a.2 in
    ready_sighted z v w q (4 * k + 2) Idle h r (ap (λ (x : View). x.rows) e) tt (omega arith) (λ _. sym free) (ap (λ (x : View). x.live) e) (ap (λ (x : View). x.said) e) (ap (λ (x : View). x.moving) e) (ap (λ (x : View). x.lent) e)
    (ap (λ (x : View). x.labels) e) (ap (λ (x : View). x.action) e) (ap (λ (x : View). x.after) e) (own_seen v q (seen.Whole k xs) w h a r.own)
ready_seen z v w q (seen.Free n) h free a r = let e = a.2 in let word = a.0 in
    ready_sighted z v w q n Idle h r (ap (λ (x : View). x.rows) e) tt (omega arith) (λ _. sym free) (ap (λ (x : View). x.live) e) (ap (λ (x : View). x.said) e) (ap (λ (x : View). x.moving) e) (ap (λ (x : View). x.lent) e)
    (ap (λ (x : View). x.labels) e) (ap (λ (x : View). x.action) e) (ap (λ (x : View). x.after) e) (own_seen v q (seen.Free n) w h a r.own)
ready_seen z v w q (seen.Busy m n) h free a r = let e = a.5 in
    ready_sighted z v w q n Idle h r (ap (λ (x : View). x.rows) e) tt a.3 (λ _. sym free) (ap (λ (x : View). x.live) e) (ap (λ (x : View). x.said) e) (ap (λ (x : View). x.moving) e) (ap (λ (x : View). x.lent) e)
    (ap (λ (x : View). x.labels) e) (ap (λ (x : View). x.action) e) (ap (λ (x : View). x.after) e) (own_seen v q (seen.Busy m n) w h a r.own)
