-- The moves of the actions are in order, and each is there once.
use Rattle.std.proofs.Common.{inl, inr, ◌≡◌, ℕ, zero, suc, ◌+◌, ◌*◌, ◌≤◌, ◌==◌, ◌&&◌, Bool, true, false, cond, List, [], ◌∷◌, ◌++◌, Option, Some, None, count_by, refl, sym, ap, ◌∙◌, subst, arith}
use Rattle.std.specs.Prelude.{nat_le}
use Rattle.pfs_conservation.specs.RowMoves.{Move, goes_to, AllLater, InOrder, sends}
use Rattle.pfs_conservation.specs.Conservation.{first_moving, AtMost}
use Rattle.pfs_conservation.specs.Tenures.{Owner, Keeps}
use Rattle.pfs_conservation.specs.ActionMoves.{moved_by, moves_of, moves_to, RowsAfter, Ranked, Acts}
use Rattle.pfs_conservation.proofs.MergeTotals.{bit_no}
use Rattle.pfs_conservation.proofs.ChainEvents.{count_cons}

later_joined : (level : ℕ → ℕ) (m : Move) (xs ys : List Move) → AllLater level m xs → AllLater level m ys → AllLater level m (xs ++ ys)
later_joined level m [] ys a b = b
later_joined level m (x ∷ xs) ys a b = (a.0, later_joined level m xs ys a.1 b)

-- all actions of the moves are up to n; from n on
abbrev pub UpTo : ℕ → List Move → Type 0
UpTo n [] = Unit {0}
UpTo n (m ∷ ms) = (m.action ≤ n) × UpTo n ms

abbrev pub From : ℕ → List Move → Type 0
From n [] = Unit {0}
From n (m ∷ ms) = (n ≤ m.action) × From n ms

up_joined : (n : ℕ) (xs ys : List Move) → UpTo n xs → UpTo n ys → UpTo n (xs ++ ys)
up_joined n [] ys a b = b
up_joined n (x ∷ xs) ys a b = (a.0, up_joined n xs ys a.1 b)

from_joined : (n : ℕ) (xs ys : List Move) → From n xs → From n ys → From n (xs ++ ys)
from_joined n [] ys a b = b
from_joined n (x ∷ xs) ys a b = (a.0, from_joined n xs ys a.1 b)

up_more : (n k : ℕ) (ms : List Move) → n ≤ k → UpTo n ms → UpTo k ms
up_more n k [] l u = tt
up_more n k (m ∷ ms) l u = (let first : m.action ≤ n = u.0 in omega arith, up_more n k ms l u.1)

later_from : (level : ℕ → ℕ) (m : Move) (n : ℕ) (ys : List Move) → m.action ≤ n → From (suc n) ys → AllLater level m ys
later_from level m n [] l f = tt
later_from level m n (y ∷ ys) l f = (inl (let next : suc n ≤ y.action = f.0 in omega arith), later_from level m n ys l f.1)

order_joined : (level : ℕ → ℕ) (n : ℕ) (xs ys : List Move) → InOrder level xs → InOrder level ys → UpTo n xs → From (suc n) ys → InOrder level (xs ++ ys)
order_joined level n [] ys a b u f = b
order_joined level n (x ∷ xs) ys a b u f = (a.0, later_joined level x xs ys a.1 (later_from level x n ys u.0 f), order_joined level n xs ys a.2 b u.1 f)

sends_joined : (xs ys : List Move) (action from row : ℕ) → sends (xs ++ ys) action from row ≡ sends xs action from row + sends ys action from row
sends_joined [] ys action from row = omega arith
sends_joined (x ∷ xs) ys action from row = omega (arith, sends_joined xs ys action from row)

module _ (holder : ℕ → ℕ → Option Owner) (takes : ℕ → ℕ → Bool) (level : ℕ → ℕ) (rows : List ℕ) (last : ℕ) (acts : Acts holder takes level rows last) where
  one : ℕ → ℕ → List Move
  one action row = cond (takes action row) (moved_by (holder action row) action row) []

  -- one row's move has this action, this row, and is there where the row is taken and held
  of_up : (action : ℕ) (rs : List ℕ) → UpTo action (moves_of holder takes action rs)
  of_up action [] = tt
  of_up action (r ∷ rs) = up_joined action (cond (takes action r) (moved_by (holder action r) action r) []) (moves_of holder takes action rs) (at (takes action r) (holder action r)) (of_up action rs)
    where
      at : (b : Bool) (o : Option Owner) → UpTo action (cond b (moved_by o action r) [])
      at true None = tt
      at true (Some owner) = (omega arith, tt)
      at false o = tt

  of_from : (action : ℕ) (rs : List ℕ) → From action (moves_of holder takes action rs)
  of_from action [] = tt
  of_from action (r ∷ rs) = from_joined action (cond (takes action r) (moved_by (holder action r) action r) []) (moves_of holder takes action rs) (at (takes action r) (holder action r)) (of_from action rs)
    where
      at : (b : Bool) (o : Option Owner) → From action (cond b (moved_by o action r) [])
      at true None = tt
      at true (Some owner) = (omega arith, tt)
      at false o = tt

  to_up : (n : ℕ) → UpTo n (moves_to holder takes rows n)
  to_up zero = tt
  to_up (suc n) = up_joined (suc n) (moves_to holder takes rows n) (moves_of holder takes (suc n) rows) (up_more n (suc n) (moves_to holder takes rows n) (omega arith) (to_up n)) (of_up (suc n) rows)

  of_later : (action row : ℕ) (to rs : List ℕ) → RowsAfter level row rs → AllLater level (record { action = action; from = row; to = to }) (moves_of holder takes action rs)
  of_later action row to [] a = tt
  of_later action row to (r ∷ rs) a =
      later_joined level (record { action = action; from = row; to = to }) (cond (takes action r) (moved_by (holder action r) action r) []) (moves_of holder takes action rs) (at (takes action r) (holder action r)) (of_later action row to rs a.2)
    where
      at : (b : Bool) (o : Option Owner) → AllLater level (record { action = action; from = row; to = to }) (cond b (moved_by o action r) [])
      at true None = tt
      at true (Some owner) = (inr (refl, a.0, a.1), tt)
      at false o = tt

  pub of_order : (action : ℕ) (rs : List ℕ) → Ranked level rs → InOrder level (moves_of holder takes action rs)
  of_order action [] k = tt
  of_order action (r ∷ rs) k = at (takes action r) (holder action r) refl refl (of_order action rs k.1)
    where
      at : (b : Bool) (o : Option Owner) → takes action r ≡ b → holder action r ≡ o → InOrder level (moves_of holder takes action rs) → InOrder level (cond b (moved_by o action r) [] ++ moves_of holder takes action rs)
      at true None p q ih = ih
      at true (Some owner) p q ih = (acts.climbs action r owner p q, of_later action r owner.nexts rs k.0, ih)
      at false o p q ih = ih

  pub to_order : (n : ℕ) → InOrder level (moves_to holder takes rows n)
  to_order zero = tt
  to_order (suc n) = order_joined level n (moves_to holder takes rows n) (moves_of holder takes (suc n) rows) (to_order n) (of_order (suc n) rows acts.ranked) (to_up n) (of_from (suc n) rows)

  abbrev pub Taking : List Move → Type 0
  Taking [] = Unit {0}
  Taking (m ∷ ms) = (takes m.action m.from ≡ true) × Taking ms

  taking_joined : (xs ys : List Move) → Taking xs → Taking ys → Taking (xs ++ ys)
  taking_joined [] ys a b = b
  taking_joined (x ∷ xs) ys a b = (a.0, taking_joined xs ys a.1 b)

  of_taking : (action : ℕ) (rs : List ℕ) → Taking (moves_of holder takes action rs)
  of_taking action [] = tt
  of_taking action (r ∷ rs) = taking_joined (cond (takes action r) (moved_by (holder action r) action r) []) (moves_of holder takes action rs) (at (takes action r) (holder action r) refl) (of_taking action rs)
    where
      at : (b : Bool) (o : Option Owner) → takes action r ≡ b → Taking (cond b (moved_by o action r) [])
      at true None q = tt
      at true (Some owner) q = (q, tt)
      at false o q = tt

  to_taking : (n : ℕ) → Taking (moves_to holder takes rows n)
  to_taking zero = tt
  to_taking (suc n) = taking_joined (moves_to holder takes rows n) (moves_of holder takes (suc n) rows) (to_taking n) (of_taking (suc n) rows)

  same : (a b : ℕ) → (a == b) ≡ true → a ≡ b
  same a b q = grind (arith, q)

  self : (a : ℕ) → (a == a) ≡ true
  self a = grind arith

  apart : (a b : ℕ) → (a ≡ b → ⊥) → (a == b) ≡ false
  apart a b h = grind (arith, h)

  some_is : (a b : ℕ) → ◌≡◌ {A = Option ℕ} (Some a) (Some b) → a ≡ b
  some_is a b h = cc

  and_left : (a b : Bool) → (a && b) ≡ true → a ≡ true
  and_left true b h = refl
  and_left false b h = h

  first_taking : (ms : List Move) → Taking ms → (least row action : ℕ) → first_moving least row ms ≡ Some action → takes action row ≡ true
  first_taking [] t least row action h = absurd (cc)
  first_taking (m ∷ ms) t least row action h = at ((m.from == row) && nat_le least m.action) refl (first_taking ms t.1 least row action)
    where
      at : (b : Bool) → ((m.from == row) && nat_le least m.action) ≡ b → (first_moving least row ms ≡ Some action → takes action row ≡ true) → takes action row ≡ true
      at true q ih =
          let now : m.action ≡ action = some_is m.action action (rw q at h) in
          let here : m.from ≡ row = same m.from row (and_left (m.from == row) (nat_le least m.action) q) in
          subst (λ a. takes a row ≡ true) now (subst (λ r. takes m.action r ≡ true) here t.0)
      at false q ih = ih (rw q at h)

  first_joined : (least row : ℕ) (xs ys : List Move) (n action : ℕ) → UpTo n xs → n ≤ action → AtMost (first_moving least row ys) action → AtMost (first_moving least row (xs ++ ys)) action
  first_joined least row [] ys n action u l h = h
  first_joined least row (x ∷ xs) ys n action u l h = at ((x.from == row) && nat_le least x.action) (first_joined least row xs ys n action u.1 l h)
    where
      at : (b : Bool) → AtMost (first_moving least row (xs ++ ys)) action → AtMost (cond b (Some x.action) (first_moving least row (xs ++ ys))) action
      at true ih = let low : x.action ≤ n = u.0 in omega arith
      at false ih = ih

  first_kept : (least row : ℕ) (xs ys : List Move) (action : ℕ) → AtMost (first_moving least row xs) action → AtMost (first_moving least row (xs ++ ys)) action
  first_kept least row [] ys action h = absurd h
  first_kept least row (x ∷ xs) ys action h = at ((x.from == row) && nat_le least x.action) h (first_kept least row xs ys action)
    where
      at : (b : Bool) → AtMost (cond b (Some x.action) (first_moving least row xs)) action → (AtMost (first_moving least row xs) action → AtMost (first_moving least row (xs ++ ys)) action) → AtMost (cond b (Some x.action) (first_moving least row (xs ++ ys))) action
      at true g ih = g
      at false g ih = ih g

  of_first : (least action row : ℕ) (owner : Owner) → least ≤ action → takes action row ≡ true → holder action row ≡ Some owner → (rs : List ℕ) → 1 ≤ count_by (λ r. r == row) rs → AtMost (first_moving least row (moves_of holder takes action rs)) action
  of_first least action row owner l t h [] some = absurd (omega arith)
  of_first least action row owner l t h (r ∷ rs) some = at (r == row) refl (of_first least action row owner l t h rs)
    where
      ok_le : (a b : ℕ) → a ≤ b → nat_le a b ≡ true
      ok_le a b q = grind (arith, q)

      skip : (b : Bool) (o : Option Owner) → (r == row) ≡ false → AtMost (first_moving least row (moves_of holder takes action rs)) action → AtMost (first_moving least row (cond b (moved_by o action r) [] ++ moves_of holder takes action rs)) action
      skip true None q ih = ih
      skip true (Some o) q ih = rw q ih
      skip false o q ih = ih

      here : (x : ℕ) → x ≡ row → AtMost (first_moving least row (cond (takes action x) (moved_by (holder action x) action x) [] ++ moves_of holder takes action rs)) action
      here x q = subst (λ y. AtMost (first_moving least row (cond (takes action y) (moved_by (holder action y) action y) [] ++ moves_of holder takes action rs)) action) (sym q)
          (rw (t, h, self row, ok_le least action l) (omega arith))

      at : (b : Bool) → (r == row) ≡ b → (1 ≤ count_by (λ x. x == row) rs → AtMost (first_moving least row (moves_of holder takes action rs)) action) → AtMost (first_moving least row (cond (takes action r) (moved_by (holder action r) action r) [] ++ moves_of holder takes action rs)) action
      at true q ih = here r (same r row q)
      at false q ih = skip (takes action r) (holder action r) q (ih (omega (arith, some, count_cons (λ x. x == row) r rs, bit_no (r == row) q)))

  to_first : (n least row action : ℕ) (owner : Owner) → 1 ≤ action → action ≤ n → least ≤ action → takes action row ≡ true → holder action row ≡ Some owner → AtMost (first_moving least row (moves_to holder takes rows n)) action
  to_first zero least row action owner low high l t h = absurd (omega arith)
  to_first (suc n) least row action owner low high l t h = at (nat_le action n) refl (to_first n least row action owner low)
    where
      yes_le : (a b : ℕ) → nat_le a b ≡ true → a ≤ b
      yes_le a b q = grind (arith, q)

      no_le : (a b : ℕ) → nat_le a b ≡ false → suc b ≤ a
      no_le a b q = grind (arith, q)

      at : (b : Bool) → nat_le action n ≡ b → (action ≤ n → least ≤ action → takes action row ≡ true → holder action row ≡ Some owner → AtMost (first_moving least row (moves_to holder takes rows n)) action) → AtMost (first_moving least row (moves_to holder takes rows n ++ moves_of holder takes (suc n) rows)) action
      at true q ih = first_kept least row (moves_to holder takes rows n) (moves_of holder takes (suc n) rows) action (ih (yes_le action n q) l t h)
      at false q ih =
          let is : action ≡ suc n = omega (arith, no_le action n q) in
          first_joined least row (moves_to holder takes rows n) (moves_of holder takes (suc n) rows) n action (to_up n) (omega arith)
          (subst (λ a. AtMost (first_moving least row (moves_of holder takes a rows)) action) is (of_first least action row owner l t h rows (omega (arith, (acts.within action row t).2))))

  of_sends_other : (k action from row : ℕ) → (k == action) ≡ false → (rs : List ℕ) → sends (moves_of holder takes k rs) action from row ≡ 0
  of_sends_other k action from row apart_now [] = refl
  of_sends_other k action from row apart_now (r ∷ rs) = at (takes k r) (holder k r) (of_sends_other k action from row apart_now rs)
    where
      at : (b : Bool) (o : Option Owner) → sends (moves_of holder takes k rs) action from row ≡ 0 → sends (cond b (moved_by o k r) [] ++ moves_of holder takes k rs) action from row ≡ 0
      at true None ih = ih
      at true (Some owner) ih = rw apart_now (omega arith)
      at false o ih = ih

  of_sends : (action from row : ℕ) (owner : Owner) → takes action from ≡ true → holder action from ≡ Some owner → (rs : List ℕ) → sends (moves_of holder takes action rs) action from row ≡ count_by (λ r. r == from) rs * cond (goes_to row owner.nexts) 1 0
  of_sends action from row owner t h [] = omega arith
  of_sends action from row owner t h (r ∷ rs) = at (r == from) refl (of_sends action from row owner t h rs)
    where
      g : ℕ
      g = cond (goes_to row owner.nexts) 1 0

      skip : (b : Bool) (o : Option Owner) → (r == from) ≡ false → sends (cond b (moved_by o action r) [] ++ moves_of holder takes action rs) action from row ≡ sends (moves_of holder takes action rs) action from row
      skip true None q = refl
      skip true (Some o) q = rw (self action, q) (omega arith)
      skip false o q = refl

      here : (x : ℕ) → x ≡ from → sends (cond (takes action x) (moved_by (holder action x) action x) [] ++ moves_of holder takes action rs) action from row ≡ g + sends (moves_of holder takes action rs) action from row
      here x q = subst (λ y. sends (cond (takes action y) (moved_by (holder action y) action y) [] ++ moves_of holder takes action rs) action from row ≡ g + sends (moves_of holder takes action rs) action from row) (sym q)
          (rw (t, h, self action, self from) refl)

      at : (b : Bool) → (r == from) ≡ b → sends (moves_of holder takes action rs) action from row ≡ count_by (λ x. x == from) rs * g → sends (cond (takes action r) (moved_by (holder action r) action r) [] ++ moves_of holder takes action rs) action from row ≡ count_by (λ x. x == from) (r ∷ rs) * g
      at true q ih = here r (same r from q) ∙ (ap (λ n. g + n) ih ∙ (plus (count_by (λ x. x == from) rs) g ∙ ap (λ n. n * g) (sym (count_cons (λ x. x == from) r rs ∙ ap (λ (b : Bool). cond {A = ℕ} b 1 0 + count_by (λ x. x == from) rs) q))))
        where
          plus : (a b : ℕ) → b + a * b ≡ (1 + a) * b
          plus a b = omega arith
      at false q ih = skip (takes action r) (holder action r) q ∙ (ih ∙ ap (λ n. n * g) (sym (count_cons (λ x. x == from) r rs ∙ (ap (λ (b : Bool). cond {A = ℕ} b 1 0 + count_by (λ x. x == from) rs) q ∙ zero_plus (count_by (λ x. x == from) rs)))))
        where
          zero_plus : (a : ℕ) → 0 + a ≡ a
          zero_plus a = omega arith

  to_sends_none : (n action from row : ℕ) → suc n ≤ action → sends (moves_to holder takes rows n) action from row ≡ 0
  to_sends_none zero action from row l = refl
  to_sends_none (suc n) action from row l =
      omega (arith, sends_joined (moves_to holder takes rows n) (moves_of holder takes (suc n) rows) action from row, to_sends_none n action from row (omega arith), of_sends_other (suc n) action from row (apart (suc n) action (λ q. omega arith)) rows)

  to_sends : (n action from row : ℕ) (owner : Owner) → 1 ≤ action → action ≤ n → takes action from ≡ true → holder action from ≡ Some owner → sends (moves_to holder takes rows n) action from row ≡ cond (goes_to row owner.nexts) 1 0
  to_sends zero action from row owner low high t h = absurd (omega arith)
  to_sends (suc n) action from row owner low high t h = at (suc n == action) refl (to_sends n action from row owner low)
    where
      at : (b : Bool) → (suc n == action) ≡ b → (action ≤ n → takes action from ≡ true → holder action from ≡ Some owner → sends (moves_to holder takes rows n) action from row ≡ cond (goes_to row owner.nexts) 1 0) → sends (moves_to holder takes rows n ++ moves_of holder takes (suc n) rows) action from row ≡ cond (goes_to row owner.nexts) 1 0
      at true q ih =
          let is : suc n ≡ action = same (suc n) action q in
          let here : sends (moves_of holder takes (suc n) rows) action from row ≡ count_by (λ r. r == from) rows * cond (goes_to row owner.nexts) 1 0 =
          subst (λ a. sends (moves_of holder takes a rows) action from row ≡ count_by (λ r. r == from) rows * cond (goes_to row owner.nexts) 1 0) (sym is) (of_sends action from row owner t h rows) in
          let once : count_by (λ r. r == from) rows * cond (goes_to row owner.nexts) 1 0 ≡ cond (goes_to row owner.nexts) 1 0 = ap (λ k. k * cond (goes_to row owner.nexts) 1 0) (acts.within action from t).2 ∙ omega arith in
          omega (arith, sends_joined (moves_to holder takes rows n) (moves_of holder takes (suc n) rows) action from row, to_sends_none n action from row (omega arith), here, once)
      at false q ih =
          let below : action ≤ n = omega (arith, smaller (suc n) action high q) in
          omega (arith, sends_joined (moves_to holder takes rows n) (moves_of holder takes (suc n) rows) action from row, ih below t h, of_sends_other (suc n) action from row q rows)
        where
          smaller : (a b : ℕ) → b ≤ a → (a == b) ≡ false → suc b ≤ a
          smaller a b l q = grind (arith, l, q)

  -- what the administration owes: an owner goes only at an action that takes its row
  pub keeps : ((action row : ℕ) (owner : Owner) → holder action row ≡ Some owner → takes action row ≡ false → holder (suc action) row ≡ Some owner) → Keeps holder takes (moves_to holder takes rows last)
  keeps stays = record {
    stays = stays;
    listed = λ least row action h. first_taking (moves_to holder takes rows last) (to_taking last) least row action h;
    lists = λ least row action owner l t h. to_first last least row action owner (acts.within action row t).0 (acts.within action row t).1 l t h;
    sends = λ action from row owner t h. to_sends last action from row owner (acts.within action from t).0 (acts.within action from t).1 t h;
  }
