-- An event on its way makes a journey.
use Rattle.std.proofs.Common.{◌≡◌, ℕ, suc, ◌≤◌, ◌==◌, Bool, true, false, cond, List, [], ◌∷◌, Option, Some, None, count_by, refl, sym, ap, ◌∙◌, subst, arith}
use Rattle.std.proofs.lemmas.Bool.{eqb-true}
use Rattle.pfs_lemmas.proofs.Options.{none_some, some_same}
use Rattle.pfs_lemmas.proofs.Numbers.{eq_self}
use Rattle.pfs_conservation.specs.RowChains.{Change}
use Rattle.pfs_conservation.specs.Removals.{is_given, removal}
use Rattle.pfs_conservation.specs.Journeys.{is_from, first_from_one, leaves_after, Journey}
use Rattle.pfs_conservation.specs.RowMoves.{Move, AreMoved, InOrder}
use Rattle.pfs_conservation.specs.Ways.{Step, before_by, leave_by, Apart, Leads, StepsClimb, IsPlaced}
use Rattle.pfs_conservation.proofs.MergeTotals.{bit_yes}
use Rattle.pfs_conservation.proofs.ChainOrder.{count_moved, gives_most, gives_least}

-- the row before isn't the row that a step apart leads to
apart_before : (to : ℕ) (steps : List Step) → Apart to steps → (row from : ℕ) → before_by steps row ≡ Some from → (to == from) ≡ false
apart_before to [] a row from h = none_some from h
apart_before to (step ∷ steps) a row from h = at (step.to == row) refl (apart_before to steps a.2 row from)
  where
    at : (b : Bool) → (step.to == row) ≡ b → (before_by steps row ≡ Some from → (to == from) ≡ false) → (to == from) ≡ false
    at true q ih =
        let same : step.from ≡ from = some_same step.from from (sym (ap (λ (b : Bool). cond {A = Option ℕ} b (Some step.from) (before_by steps row)) q) ∙ h) in
        subst (λ x. (to == x) ≡ false) same a.0
    at false q ih = ih (sym (ap (λ (b : Bool). cond {A = Option ℕ} b (Some step.from) (before_by steps row)) q) ∙ h)

pub starts_at : (home : ℕ) (steps : List Step) → Leads home steps → before_by steps home ≡ None
starts_at home [] l = refl
starts_at home (step ∷ steps) l = rw l.0 (starts_at home steps l.3)

pub climbs_before : (level : ℕ → ℕ) (steps : List Step) → StepsClimb level steps → (from row : ℕ) → before_by steps row ≡ Some from → suc (level from) ≤ level row
climbs_before level [] c from row h = none_some from h
climbs_before level (step ∷ steps) c from row h = at (step.to == row) refl (climbs_before level steps c.1 from row)
  where
    at : (b : Bool) → (step.to == row) ≡ b → (before_by steps row ≡ Some from → suc (level from) ≤ level row) → suc (level from) ≤ level row
    at true q ih =
        let same : step.from ≡ from = some_same step.from from (sym (ap (λ (b : Bool). cond {A = Option ℕ} b (Some step.from) (before_by steps row)) q) ∙ h) in
        omega (arith, c.0, ap level same, ap level (eqb-true step.to row q))
    at false q ih = ih (sym (ap (λ (b : Bool). cond {A = Option ℕ} b (Some step.from) (before_by steps row)) q) ∙ h)

module _ (chains : ℕ → List Change) (event home : ℕ) where
  pub home_leaves : (steps : List Step) → Leads home steps → leave_by chains event home steps home ≡ removal event (chains home)
  home_leaves [] l = ap (λ (b : Bool). cond {A = Option ℕ} b (removal event (chains home)) None) (eq_self home)
  home_leaves (step ∷ steps) l = rw l.0 (home_leaves steps l.3)

  pub way_leaves : (steps : List Step) → Leads home steps → (row : ℕ) → (row == home) ≡ false → leave_by chains event home steps row ≡ leaves_after (before_by steps row) (leave_by chains event home steps) (chains row)
  way_leaves [] l row away = ap (λ (b : Bool). cond {A = Option ℕ} b (removal event (chains home)) None) away
  way_leaves (step ∷ steps) l row away = at (step.to == row) refl (way_leaves steps l.3 row away)
    where
      old : ℕ → Option ℕ
      old = leave_by chains event home steps

      new : ℕ → Option ℕ
      new = leave_by chains event home (step ∷ steps)

      kept : (r : ℕ) → (step.to == r) ≡ false → new r ≡ old r
      kept r q = ap (λ (b : Bool). cond {A = Option ℕ} b (first_from_one (old step.from) (chains step.to)) (old r)) q

      moved_on : (b : Option ℕ) → before_by steps row ≡ b → leaves_after b old (chains row) ≡ leaves_after b new (chains row)
      moved_on None q = refl
      moved_on (Some p) q = ap (λ t. first_from_one t (chains row)) (sym (kept p (apart_before step.to steps l.2 row p q)))

      at : (b : Bool) → (step.to == row) ≡ b → old row ≡ leaves_after (before_by steps row) old (chains row)
          → new row ≡ leaves_after (cond (step.to == row) (Some step.from) (before_by steps row)) new (chains row)
      at true q ih =
          ap (λ (b : Bool). cond {A = Option ℕ} b (first_from_one (old step.from) (chains step.to)) (old row)) q
          ∙ (ap (λ r. first_from_one (old step.from) (chains r)) (eqb-true step.to row q)
          ∙ (ap (λ t. first_from_one t (chains row)) (sym (kept step.from l.1))
          ∙ ap (λ (b : Bool). leaves_after (cond b (Some step.from) (before_by steps row)) new (chains row)) (sym q)))
      at false q ih =
          kept row q ∙ (ih ∙ (moved_on (before_by steps row) refl ∙ ap (λ (b : Bool). leaves_after (cond b (Some step.from) (before_by steps row)) new (chains row)) (sym q)))

-- an event on its way makes a journey
pub journey : (chains : ℕ → List Change) (kept : ℕ → ℕ → Bool) (level : ℕ → ℕ) (moves : List Move) → AreMoved chains kept moves → InOrder level moves
    → (event home : ℕ) (steps : List Step) → IsPlaced chains level moves event home steps
    → Journey chains level (λ action row. kept action row ≡ true) event home (before_by steps) (leave_by chains event home steps)
journey chains kept level moves are order event home steps p = record {
  counted = p.counted;
  starts = starts_at home steps p.leads;
  climbs = climbs_before level steps p.climb;
  leaves_home = home_leaves chains event home steps p.leads;
  leaves = way_leaves chains event home steps p.leads;
  gives_only = λ from action row l. omega (arith, p.placed from action row l, gives_most kept action from row moves, count_moved action from (chains row), ap (λ cs. count_by (is_given action from) cs) (are.is row));
  gives = λ from action row come l keeps. omega (
    arith,
    p.placed from action row l,
    gives_least kept action from row level moves order keeps,
    count_moved action from (chains row),
    ap (λ cs. count_by (is_given action from) cs) (are.is row),
    ap (λ (b : Option ℕ). cond {A = ℕ} (is_from from b) 1 0) come,
    bit_yes (from == from) (eq_self from),
  );
}
