-- An action begins and ends.
use Rattle.std.proofs.Common.{ℕ, suc, ◌≡◌, ◌+◌, ◌*◌, ◌<◌, ◌≤◌, true, false, cond, get_or, length, slice_set, List, [], ◌∷◌, Some, None, IsSome, refl, ap, sym, ◌∙◌, subst, arith, inl, inr, zero-add}
use Rattle.std.proofs.lemmas.Bool.{cases_eq}
use Rattle.std.proofs.lemmas.List.{get_or-set_other, get_or-set_same, length-map}
use Rattle.std.proofs.Math.ListN as math
use Rattle.pfs_board.specs.declared.view.Corner.{Corner}
use Rattle.pfs_board.specs.declared.view.Entered.{Entered}
use Rattle.pfs_board.specs.declared.view.Label.{Label}
use Rattle.pfs_board.specs.declared.view.Stage.{Stage}
use Rattle.pfs_board.specs.declared.view.Stage.TheVariants.{Idle, Reading, Holding}
use Rattle.pfs_board.specs.declared.view.View.{View}
use Rattle.pfs_board.specs.ActionKnowledge.{HasBegun}
use Rattle.pfs_board.specs.SeatViews.{IsPoised}
use Rattle.pfs_board.specs.Knowledge.{corner, newcomer, is_holding, held, found_in, sighted, settled, stale, stake}
use Rattle.pfs_levels.specs.Calls.{Call, Enters, Start, hand_in}
use Rattle.pfs_levels.specs.CallOrder.{top_in}
use Rattle.pfs_board_store.specs.ActorCalls.{OnBoard, IsFresh, in_hand}
use Rattle.pfs_board_store.proofs.KeptCalls.{all_within, one_more, shown_more}
use Rattle.pfs_board_store.proofs.ViewCorners.{away_if}
use Rattle.pfs_board_store.proofs.CallTies.{held_is, no_true, tied_as, shown_as}

pub holding_not : (s : Stage) → in_hand s ≡ None → is_holding s ≡ false
holding_not Idle h = refl
holding_not (Reading k xs) h = refl
holding_not (Holding k found put) h = cc

pub held_none : (cs : List Corner) → ((r : ℕ) → in_hand (get_or cs r newcomer).stage ≡ None) → held cs ≡ 0
held_none [] h = refl
held_none (c ∷ cs) h = ap (λ b. cond b 1 0 + held cs) (holding_not c.stage (h 0)) ∙ zero-add (held cs) ∙ held_none cs (λ r. h (suc r))

pub held_one : (cs : List Corner) → is_holding (get_or cs 0 newcomer).stage ≡ true → ((r : ℕ) → 0 < r → in_hand (get_or cs r newcomer).stage ≡ None) → held cs ≡ 1
held_one [] h f = absurd (no_true false refl h)
held_one (c ∷ cs) h f = ap (λ b. cond b 1 0 + held cs) h ∙ ap (λ n. 1 + n) (held_none cs (λ r. f (suc r) (omega arith)))

abbrev pub stale_one : Corner → Corner
stale_one c = record c { stage = settled c.stage; fresh = false }

settled_hand : (s : Stage) → in_hand (settled s) ≡ in_hand s
settled_hand Idle = refl
settled_hand (Reading k xs) = refl
settled_hand (Holding k found put) = refl

settled_held : (s : Stage) → is_holding (settled s) ≡ true → (is_holding s ≡ true) × (found_in (settled s) ≡ found_in s)
settled_held Idle h = absurd (no_true false refl h)
settled_held (Reading k xs) h = absurd (no_true false refl h)
settled_held (Holding k found put) h = (refl, refl)

pub entered : (start : Start) (calls : List Call) (v w : View) (label : Label) → 0 < length v.rows → HasBegun v label w → stake w ≡ stake v → OnBoard start calls v → OnBoard start (Enters label w.labels ∷ calls) w
entered start calls v w label wide b stk r =
    let is = b.view_is in
    let more : List Call = Enters label w.labels ∷ calls in
    let n : ℕ = length w.labels in
    let c : Corner = sighted (Holding n (found_in (corner w 0).stage) []) (4 * n + 1) in
    let x : Entered = record { by = v.number; action = n + 1; labels = w.labels } in
    let e : w.rows ≡ slice_set (stale v.rows) 0 c = ap (λ (z : View). z.rows) is in
    let here : corner w 0 ≡ c = ap (λ z. get_or z 0 newcomer) e ∙ get_or-set_same (stale v.rows) 0 c newcomer (omega (arith, length-map v.rows stale_one, wide)) in
    let there : (q : ℕ) → 0 < q → corner w q ≡ stale_one (corner v q) = λ q some. ap (λ z. get_or z q newcomer) e ∙ get_or-set_other (stale v.rows) 0 q c newcomer (λ z. omega (arith, z, some)) ∙ math.get_or-map stale_one v.rows q newcomer in
    record {
      number_is = ap (λ (z : View). z.number) is ∙ r.number_is;
      base_is = ap (λ (z : View). z.base) is ∙ r.base_is;
      stake_is = stk ∙ r.stake_is;
      tied = tied_as start more v.made w.made (ap (λ (z : View). z.made) is) r.tied;
      shown = shown_as start more v.reads w.reads v.sights w.sights (x ∷ v.entered) w.entered (ap (λ (z : View). z.reads) is) (ap (λ (z : View). z.sights) is) (ap (λ (z : View). z.entered) is)
          (inl (r.number_is, refl, refl), shown_more start v.reads v.reads v.sights v.sights v.entered (x ∷ v.entered) (all_within v.reads) (all_within v.sights) (one_more x v.entered) calls r.shown);
      taken = λ q some h.
          let Q : Corner → Type 0 = λ z. is_holding z.stage ≡ true in
          let s = settled_held (corner v q).stage (subst Q (there q some) h) in
          ap (λ (z : Corner). found_in z.stage) (there q some) ∙ s.1 ∙ r.taken q some s.0;
      hand = λ q some. ap (λ (z : Corner). in_hand z.stage) (there q some) ∙ settled_hand (corner v q).stage ∙ r.hand q some ∙ sym (away_if 0 q (Some n) (hand_in calls q) (λ z. omega (arith, z, some)));
      action = ap (λ (z : View). z.action) is;
      after = ap (λ (z : View). z.after) is;
      label = ap (λ (z : View). z.label) is;
      labels = λ _. refl;
      seen = λ q. elim (cases_eq q 0) [
        | inl i ↦ let P : ℕ → Type 0 = λ z. top_in more z ≤ (corner w z).seen in
            let D : Corner → Type 0 = λ z. n ≤ z.seen in
            subst P (sym i) (subst D (sym here) (omega arith))
        | inr i ↦ let D : Corner → Type 0 = λ z. top_in more q ≤ z.seen in
            subst D (sym (there q (omega (arith, i)))) (omega (arith, away_if 0 q n (top_in calls q) i, r.seen q))
      ];
    }

pub fresh_hand : (v : View) → IsFresh v → (r : ℕ) → in_hand (corner v r).stage ≡ None
fresh_hand v f r = ap in_hand (f.idle r)

pub fresh_held : (v : View) → IsFresh v → held v.rows ≡ 0
fresh_held v f = held_none v.rows (fresh_hand v f)

-- no call led to it
pub fresh_on : (start : Start) (v : View) → IsFresh v → v.number ≡ start.number → v.base ≡ start.base → stake v ≡ start.stake → OnBoard start [] v
fresh_on start v f number base stk = record {
  number_is = number;
  base_is = base;
  stake_is = stk;
  tied = f.made;
  shown = tt;
  taken = λ row some h. absurd (no_true (is_holding (corner v row).stage) (holding_not (corner v row).stage (fresh_hand v f row)) h);
  hand = λ row some. fresh_hand v f row;
  action = f.action;
  after = f.after;
  label = f.label;
  labels = λ h. absurd (omega (arith, h));
  seen = λ row. omega arith;
}

-- a seat that doesn't hold row 0 is in no action
pub outside_is : (v : View) → IsPoised v → in_hand (corner v 0).stage ≡ None → v.action ≡ 0
outside_is v p none = elim (cases_eq v.action 0) [
  | inl i ↦ i
  | inr n ↦ absurd (no_true (is_holding (corner v 0).stage) (holding_not (corner v 0).stage none) (p.inside (omega (arith, n))).0)
]

-- a seat that holds row 0 is in one
pub inside_is : (v : View) → IsPoised v → IsSome (in_hand (corner v 0).stage) → 0 < v.action
inside_is v p some = elim (cases_eq v.action 0) [
  | inl i ↦ absurd (no_true (is_holding (corner v 0).stage) (p.outside i) (held_is (corner v 0).stage some))
  | inr n ↦ omega (arith, n)
]
