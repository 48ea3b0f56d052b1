-- What a wait for a row, and a set of a word, leave.
use Rattle.std.proofs.Common.{ℕ, ◌≡◌, ◌-◌, None, ap, sym, ◌∙◌, subst, inl, inr}
use Rattle.std.proofs.lemmas.Bool.{cases_eq}
use Rattle.pfs_board.specs.declared.view.Corner.{Corner}
use Rattle.pfs_board.specs.declared.view.Stage.TheVariants.{Idle}
use Rattle.pfs_board.specs.declared.view.View.{View}
use Rattle.pfs_board.specs.Knowledge.{corner, held, missed, sighted}
use Rattle.pfs_board_store.specs.ActorCalls.{in_hand}
use Rattle.pfs_board_store.proofs.ViewCorners.{other}

-- a look in vain keeps what is in hand
pub hand_missed : (v w : View) (row first second looks : ℕ) → w ≡ record (missed v row first second) { looks = looks } → (corner w row).stage ≡ Idle → in_hand (corner v row).stage ≡ None → (r : ℕ) → in_hand (corner w r).stage ≡ in_hand (corner v r).stage
hand_missed v w row first second looks is idle none r = elim (cases_eq r row) [
  | inl i ↦ let P : ℕ → Type 0 = λ z. in_hand (corner w z).stage ≡ in_hand (corner v z).stage in subst P (sym i) (ap in_hand idle ∙ sym none)
  | inr n ↦ ap (λ (z : Corner). in_hand z.stage) (other v w row r (sighted Idle second) (ap (λ (z : View). z.rows) is) n)
]

pub left_missed : (v w : View) (row first second looks : ℕ) → w ≡ record (missed v row first second) { looks = looks } → held w.rows ≡ held v.rows → w.allowance - held w.rows ≡ v.allowance - held v.rows
left_missed v w row first second looks is h = ap (λ n. w.allowance - n) h ∙ ap (λ (z : View). z.allowance - held v.rows) is
