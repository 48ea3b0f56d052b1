-- Which rows are in hand after a step.
use Rattle.std.proofs.Common.{◌≡◌, ℕ, ◌+◌, ◌-◌, ◌*◌, ◌/◌, ◌<◌, true, false, List, [], length, set, refl, ap, ◌∙◌, arith}
use Rattle.std.proofs.lemmas.Bool.{cond-false, cond-true}
use Rattle.atomic_table.specs.Seated.{TableId}
use Rattle.pfs_board.specs.declared.answers.Seen.{Seen}
use Rattle.pfs_board.specs.declared.answers.Seen.TheVariants as seen
use Rattle.pfs_board.specs.declared.answers.Taken.{Taken}
use Rattle.pfs_board.specs.declared.answers.Taken.TheVariants.{Mine, Busy}
use Rattle.pfs_board.specs.declared.view.Corner.{Corner}
use Rattle.pfs_board.specs.declared.view.Stage.{Stage}
use Rattle.pfs_board.specs.declared.view.Stage.TheVariants.{Idle, Holding}
use Rattle.pfs_board.specs.declared.view.View.{View}
use Rattle.pfs_board.specs.History.{total, step_of}
use Rattle.pfs_board.specs.Hands.{IsAside, IsHandTaken, IsLetGo}
use Rattle.pfs_board.specs.Knowledge.{corner, is_holding, held, stake, joined, sighted, weighed, published_at, freed_at, version_held, found_in}
use Rattle.pfs_board.specs.SeatViews.{Known, known, first_view, IsReady}
use Rattle.pfs_board.specs.ReadAnswers.{IsSeenAs}
use Rattle.pfs_board.specs.TakeAnswers.{IsTaken}
use Rattle.pfs_board.proofs.HistoryFacts.{total_append}
use Rattle.pfs_board.proofs.ViewFacts.{held_set, one}
use Rattle.pfs_board.proofs.CallSteps.{sight_corner}

-- one row was looked at or let go
aside : (v w : View) (q n : ℕ) → q < length v.rows → is_holding (corner v q).stage ≡ false → w.rows ≡ set v.rows q (sighted Idle n) → stake w ≡ stake v → IsAside v q w
aside v w q n h free e k = let s = held_set v.rows q (sighted Idle n) h in let x : one (sighted Idle n) ≡ 0 = refl in let y : one (corner v q) ≡ 0 = cond-false {A = ℕ} (is_holding (corner v q).stage) 1 0 free in
    let r = ap held e in (ap (λ (c : Corner). c.stage) (sight_corner v w q n Idle h e), omega arith, k)

pub hands_taken : (v : View) (q : ℕ) (x : Taken) (w : View) → q < length v.rows → is_holding (corner v q).stage ≡ false → IsTaken v q x w → IsHandTaken v q x w
hands_taken v q (Mine word content) w h free a = let st : Stage = Holding (word / 4) content [] in let n : ℕ = 4 * (word / 4) + 1 in let e : w.rows ≡ set v.rows q (sighted st n) = ap (λ (x : View). x.rows) a.4 in
    let s = held_set v.rows q (sighted st n) h in let x : one (sighted st n) ≡ 1 = refl in let y : one (corner v q) ≡ 0 = cond-false {A = ℕ} (is_holding (corner v q).stage) 1 0 free in
    let r = ap held e in (ap (λ (c : Corner). c.stage) (sight_corner v w q n st h e), omega arith, ap stake a.4)
hands_taken v q (Busy first second) w h free a = aside v w q second h free (ap (λ (x : View). x.rows) a.5) (ap stake a.5)

pub hands_seen : (v : View) (q : ℕ) (x : Seen) (w : View) → q < length v.rows → is_holding (corner v q).stage ≡ false → IsSeenAs v q x w → IsAside v q w
hands_seen v q (seen.Whole k xs) w h free a = aside v w q (4 * k + 2) h free (ap (λ (x : View). x.rows) a.2) (ap stake a.2)
hands_seen v q (seen.Free n) w h free a = aside v w q n h free (ap (λ (x : View). x.rows) a.2) (ap stake a.2)
hands_seen v q (seen.Busy m n) w h free a = aside v w q n h free (ap (λ (x : View). x.rows) a.5) (ap stake a.5)

pub hands_put : (v w : View) (q : ℕ) (content : List ℕ) → q < length v.rows → 0 < v.allowance → is_holding (corner v q).stage ≡ true → w ≡ published_at (weighed v) q (version_held (corner v q).stage) (found_in (corner v q).stage) content → IsLetGo v q w
hands_put v w q content h some_left held_it a = let n : ℕ = 4 * (version_held (corner v q).stage + 1) + 2 in let e : w.rows ≡ set v.rows q (sighted Idle n) = ap (λ (x : View). x.rows) a in
    let s = held_set v.rows q (sighted Idle n) h in let x : one (sighted Idle n) ≡ 0 = refl in let y : one (corner v q) ≡ 1 = cond-true {A = ℕ} (is_holding (corner v q).stage) 1 0 held_it in
    let r = ap held e in let b : stake w ≡ (v.allowance - 1) + (1 + total step_of v.made) = ap stake a in let k : stake w ≡ stake v = b ∙ omega arith in (ap (λ (c : Corner). c.stage) (sight_corner v w q n Idle h e), omega arith, k)

pub hands_free : (v w : View) (q : ℕ) → q < length v.rows → is_holding (corner v q).stage ≡ true → w ≡ freed_at (weighed v) q (version_held (corner v q).stage) (found_in (corner v q).stage) → IsLetGo v q w
hands_free v w q h held_it a = let n : ℕ = 4 * version_held (corner v q).stage in let e : w.rows ≡ set v.rows q (sighted Idle n) = ap (λ (x : View). x.rows) a in
    let s = held_set v.rows q (sighted Idle n) h in let x : one (sighted Idle n) ≡ 0 = refl in let y : one (corner v q) ≡ 1 = cond-true {A = ℕ} (is_holding (corner v q).stage) 1 0 held_it in
    let r = ap held e in let b : stake w ≡ v.allowance + (0 + total step_of v.made) = ap stake a in let k : stake w ≡ stake v = b ∙ omega arith in (ap (λ (c : Corner). c.stage) (sight_corner v w q n Idle h e), omega arith, k)

-- the seat has a corner for each row of its board
pub has_corner : (z : TableId) (views : List View) (k : Known) (start : List ℕ) (q : ℕ) → known z (first_view views) ≡ k → IsReady z views → z.words ≡ length start → 17 * q < length start → q < length k.view.rows
has_corner z views k start q e r w inside = let b = r.wide in let s = ap (λ (x : Known). length x.view.rows) e in omega arith

pub stake_joined : (v w : View) → stake (joined v w) ≡ stake v + stake w
stake_joined v w = let e = total_append step_of w.made v.made in omega arith
