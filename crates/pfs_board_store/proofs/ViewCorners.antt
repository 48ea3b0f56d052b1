-- A call on one row turns one corner of the seat's view.
use Rattle.std.proofs.Common.{ℕ, ◌≡◌, ◌≢◌, ◌<◌, ◌≤◌, ◌==◌, true, cond, get_or, length, slice_set, List, Some, None, refl, ap, sym, ◌∙◌, subst, arith, eq-eqb, ne_eqb, inl, inr, ⊎_elim}
use Rattle.std.proofs.lemmas.Bool.{cases_eq}
use Rattle.std.proofs.lemmas.List.{get_or-set_other, get_or-set_same, length-set}
use Rattle.pfs_board.specs.declared.view.Corner.{Corner}
use Rattle.pfs_board.specs.declared.view.View.{View}
use Rattle.pfs_board.specs.Knowledge.{corner, newcomer, is_holding, found_in, stake}
use Rattle.pfs_levels.specs.Calls.{IsRing, IsLongPlace, Call, Start, action_in, after_in, label_in, hand_in}
use Rattle.pfs_levels.specs.CallOrder.{top_in}
use Rattle.pfs_board_store.specs.ActorCalls.{OnBoard, in_hand, labels_in}
use Rattle.pfs_board_store.specs.Ties.{IsTied, AreShown, last_found}

pub other : (v w : View) (row r : ℕ) (c : Corner) → w.rows ≡ slice_set v.rows row c → r ≢ row → corner w r ≡ corner v r
other v w row r c e apart = ap (λ z. get_or z r newcomer) e ∙ get_or-set_other v.rows row r c newcomer apart

pub same : (v w : View) (row : ℕ) (c : Corner) → w.rows ≡ slice_set v.rows row c → row < length v.rows → corner w row ≡ c
same v w row c e k = ap (λ z. get_or z row newcomer) e ∙ get_or-set_same v.rows row c newcomer k

-- the view has as many rows as before
pub still_in : (v w : View) (row q : ℕ) (c : Corner) → w.rows ≡ slice_set v.rows row c → q < length v.rows → q < length w.rows
still_in v w row q c e h = omega (arith, h, ap (λ (z : List Corner). length z) e, length-set v.rows row c)

pub here_if : {A : Type 0} (row : ℕ) (k n : A) → cond (row == row) k n ≡ k
here_if row k n = ap (λ b. cond b k n) (eq-eqb row row refl)

pub away_if : {A : Type 0} (row r : ℕ) (k n : A) → r ≢ row → cond (row == r) k n ≡ n
away_if row r k n apart = ap (λ b. cond b k n) (ne_eqb row r (λ z. apart (sym z)))

pub none_some : (a : ℕ) → None ≡ Some a → ⊥
none_some a e = cc

-- What the calls tell of the seat after a call on one row, from what they told before it
pub reach : (start : Start) (calls more : List Call) (v w : View) (row : ℕ) (c : Corner) → row < length v.rows → w.rows ≡ slice_set v.rows row c → w.number ≡ v.number → w.base ≡ v.base → stake w ≡ stake v → OnBoard start calls v
    → IsTied start more w.made → AreShown start w.reads w.sights w.entered more
    → (is_holding c.stage ≡ true → found_in c.stage ≡ last_found more row)
    → ((r : ℕ) → r ≢ row → last_found more r ≡ last_found calls r)
    → (0 < row → in_hand c.stage ≡ hand_in more row)
    → ((r : ℕ) → r ≢ row → hand_in more r ≡ hand_in calls r)
    → ((r : ℕ) → r ≢ row → top_in more r ≡ top_in calls r)
    → top_in more row ≤ c.seen
    → w.action ≡ action_in more → w.after ≡ after_in more → w.label ≡ label_in more → (0 < action_in more → w.labels ≡ labels_in more)
    → OnBoard start more w
reach start calls more v w row c low e num base stk r tied shown found others handed hands tops top act aft lab labs =
    let here : corner w row ≡ c = same v w row c e low in
    record {
      number_is = num ∙ r.number_is;
      base_is = base ∙ r.base_is;
      stake_is = stk ∙ r.stake_is;
      tied = tied;
      shown = shown;
      taken = λ q some h. elim (cases_eq q row) [
        | inl i ↦ let P : ℕ → Type 0 = λ z. found_in (corner w z).stage ≡ last_found more z in
            let Q : Corner → Type 0 = λ z. is_holding z.stage ≡ true in
            let D : Corner → Type 0 = λ z. found_in z.stage ≡ last_found more row in
            let H : ℕ → Type 0 = λ z. is_holding (corner w z).stage ≡ true in
            subst P (sym i) (subst D (sym here) (found (subst Q here (subst H i h))))
        | inr n ↦ let k = other v w row q c e n in
            let P : Corner → Type 0 = λ z. found_in z.stage ≡ last_found more q in
            let Q : Corner → Type 0 = λ z. is_holding z.stage ≡ true in
            subst P (sym k) (r.taken q some (subst Q k h) ∙ sym (others q n))
      ];
      hand = λ q some. elim (cases_eq q row) [
        | inl i ↦ let P : ℕ → Type 0 = λ z. in_hand (corner w z).stage ≡ hand_in more z in
            let D : Corner → Type 0 = λ z. in_hand z.stage ≡ hand_in more row in
            subst P (sym i) (subst D (sym here) (handed (subst (λ z. 0 < z) i some)))
        | inr n ↦ let k = other v w row q c e n in
            ap (λ (z : Corner). in_hand z.stage) k ∙ r.hand q some ∙ sym (hands q n)
      ];
      action = act;
      after = aft;
      label = lab;
      labels = labs;
      seen = λ q. elim (cases_eq q row) [
        | inl i ↦ let P : ℕ → Type 0 = λ z. top_in more z ≤ (corner w z).seen in
            let D : Corner → Type 0 = λ z. top_in more row ≤ z.seen in
            subst P (sym i) (subst D (sym here) top)
        | inr n ↦ let k = other v w row q c e n in
            let D : Corner → Type 0 = λ z. top_in more q ≤ z.seen in
            subst D (sym k) (omega (arith, tops q n, r.seen q))
      ];
    }

-- the place of an event is one of the rows
pub in_range : (row : ℕ) (content : List ℕ) → IsRing row content → row < 14242
in_range row content place = ⊎_elim (λ p. omega (arith, p)) (λ (p : IsLongPlace row content). let q = p.1 in q) place
