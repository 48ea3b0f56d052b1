-- What a seat has seen covers what it made.
use Rattle.std.proofs.Common.{◌≡◌, ℕ, subst, ◌+◌, ◌*◌, ◌/◌, ◌<◌, ◌≤◌, List, [], length, get_or, set, sym, refl, ap, arith}
use Rattle.pfs_board.specs.declared.answers.Seen.{Seen}
use Rattle.pfs_board.specs.declared.answers.Seen.TheVariants as seen
use Rattle.pfs_board.specs.declared.view.Change.{Change}
use Rattle.pfs_board.specs.declared.view.Corner.{Corner}
use Rattle.pfs_board.specs.declared.view.Label.{Label}
use Rattle.pfs_board.specs.declared.view.Stage.{Stage}
use Rattle.pfs_board.specs.declared.view.Stage.TheVariants.{Idle, Holding}
use Rattle.pfs_board.specs.declared.view.View.{View}
use Rattle.pfs_board.specs.History.{Each}
use Rattle.pfs_board.specs.ActionKnowledge.{HasBegun}
use Rattle.pfs_board.specs.Knowledge.{newcomer, corner, stale, sighted, joined, found_in}
use Rattle.pfs_board.specs.SeatViews.{HasSeenItsOwn, split_off}
use Rattle.pfs_board.specs.ReadAnswers.{IsSeenAs}
use Rattle.pfs_board.proofs.HistoryFacts.{each_map, each_append}
use Rattle.pfs_board.proofs.ViewFacts.{corners_set, corners_stale, corners_merged, length_stale}

-- A seat that made nothing more, and has seen no less of any row
pub own_kept : (v w : View) → w.made ≡ v.made → ((r : ℕ) → (corner v r).seen ≤ (corner w r).seen) → HasSeenItsOwn v → HasSeenItsOwn w
own_kept v w made up own = subst (λ (ps : List Change). Each (λ (p : Change). p.version ≤ (corner w p.row).seen) ps) (sym made)
    (each_map (λ (p : Change). p.version ≤ (corner v p.row).seen) (λ (p : Change). p.version ≤ (corner w p.row).seen) (λ p h. let u = up p.row in omega arith) v.made own)

-- of a row that was turned to a word not below what was seen
pub up_turned : (v w : View) (q n : ℕ) (st : Stage) → q < length v.rows → w.rows ≡ set v.rows q (sighted st n) → (corner v q).seen ≤ n / 4 → (r : ℕ) → (corner v r).seen ≤ (corner w r).seen
up_turned v w q n st h e up r = subst (λ (rows : List Corner). (corner v r).seen ≤ (get_or rows r newcomer).seen) (sym e)
    (corners_set (λ p (d : Corner). (corner v p).seen ≤ d.seen) v.rows q (sighted st n) h up (λ p _. omega arith) r)

pub own_turned : (v w : View) (q n : ℕ) (st : Stage) → q < length v.rows → w.made ≡ v.made → w.rows ≡ set v.rows q (sighted st n) → (corner v q).seen ≤ n / 4 → HasSeenItsOwn v → HasSeenItsOwn w
own_turned v w q n st h made e up own = own_kept v w made (up_turned v w q n st h e up) own

pub own_seen : (v : View) (q : ℕ) (x : Seen) (w : View) → q < length v.rows → IsSeenAs v q x w → HasSeenItsOwn v → HasSeenItsOwn w
own_seen v q (seen.Whole k xs) w h a own = let low = a.0 in own_turned v w q (4 * k + 2) Idle h (ap (λ (x : View). x.made) a.2) (ap (λ (x : View). x.rows) a.2) (omega arith) own
own_seen v q (seen.Free n) w h a own = own_turned v w q n Idle h (ap (λ (x : View). x.made) a.2) (ap (λ (x : View). x.rows) a.2) a.1 own
own_seen v q (seen.Busy m n) w h a own = let low = a.1 in let up = a.2 in own_turned v w q n Idle h (ap (λ (x : View). x.made) a.5) (ap (λ (x : View). x.rows) a.5) (omega arith) own

pub own_left : (v : View) (a : ℕ) → HasSeenItsOwn v → HasSeenItsOwn (split_off v a)
own_left v a own = own_kept v (split_off v a) refl (λ r. corners_stale (λ c. (corner v r).seen ≤ c.seen) v.rows r (omega arith)) own

pub own_both : (v w : View) → length v.rows ≡ length w.rows → HasSeenItsOwn v → HasSeenItsOwn w → HasSeenItsOwn (joined v w)
own_both v w same own others = each_append (λ (p : Change). p.version ≤ (corner (joined v w) p.row).seen) w.made v.made
    (each_map (λ (p : Change). p.version ≤ (corner w p.row).seen) (λ (p : Change). p.version ≤ (corner (joined v w) p.row).seen) (λ p h. corners_merged (λ c. p.version ≤ c.seen) v.rows w.rows p.row same (omega arith)) w.made others)
    (each_map (λ (p : Change). p.version ≤ (corner v p.row).seen) (λ (p : Change). p.version ≤ (corner (joined v w) p.row).seen) (λ p h. corners_merged (λ c. p.version ≤ c.seen) v.rows w.rows p.row same (omega arith)) v.made own)

pub own_begun : (v w : View) (label : Label) → 0 < length v.rows → HasBegun v label w → HasSeenItsOwn v → HasSeenItsOwn w
own_begun v w label h b own = let n : ℕ = 4 * length w.labels + 1 in let c : Corner = sighted (Holding (length w.labels) (found_in (corner w 0).stage) []) n in let l = length_stale v.rows in let later = b.later in
    own_kept v w (ap (λ (x : View). x.made) b.view_is) (λ r. subst (λ (rows : List Corner). (corner v r).seen ≤ (get_or rows r newcomer).seen) (sym (ap (λ (x : View). x.rows) b.view_is))
    (corners_set (λ p (d : Corner). (corner v p).seen ≤ d.seen) (stale v.rows) 0 c (omega arith) (omega arith) (λ p _. corners_stale (λ d. (corner v p).seen ≤ d.seen) v.rows p (omega arith)) r)) own
