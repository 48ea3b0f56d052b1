-- The tickets that the sessions of the phases so far drew are 0, 1 and so on.
use Rattle.std.proofs.Common.{ℕ, zero, suc, ◌≡◌, List, [], ◌∷◌, ◌++◌, refl, ap, sym, ◌∙◌, arith, append_assoc}
use Rattle.pfs_levels.specs.Calls.{Call}
use Rattle.pfs_levels.specs.JointCalls.{total, Draw, draws_by, draws_of, AreDrawn}
use Rattle.pfs_law_plain.specs.Spells.{Spell}
use Rattle.pfs_law_joint.proofs.Sums.{total_then}
use Rattle.pfs_law_shared.specs.Shares.{actors_of, spells_at, spells_before, AreShared}
use Rattle.pfs_law_shared.proofs.ActorSums.{IsAdditive}
use Rattle.pfs_law_shared.proofs.PhaseCounts.{all_over as over_actors}
use Rattle.pfs_law_shared.proofs.PhaseWalks.{over, over_then}
use Rattle.pfs_law_shared.proofs.RisingNumbers.{over_next, before_zero}

-- sums of draws
draws_both : (xs ys : List Call) → draws_of (xs ++ ys) ≡ draws_of xs ++ draws_of ys
unfolding draws_of
draws_both [] ys = refl
draws_both (x ∷ xs) ys = ap (λ z. draws_by x ++ z) (draws_both xs ys) ∙ sym (append_assoc (draws_by x) (draws_of xs) (draws_of ys))

pub draws_add : (h : Draw → ℕ) → IsAdditive (λ calls. total h (draws_of calls))
unfolding total draws_of
draws_add h = record {
  none = refl;
  both = λ xs ys. ap (total h) (draws_both xs ys) ∙ total_then h (draws_of xs) (draws_of ys);
  enters = λ label labels. refl;
  leaves = refl;
  meets = λ versions. refl;
}

-- the tickets that were drawn before a phase
pub record IsBegun (spells : List Spell) (phase : ℕ) : Type 0 where
  pub draws : List Draw
  pub drawn_is : AreDrawn draws
  pub same : (h : Draw → ℕ) → over (λ calls. total h (draws_of calls)) (actors_of (spells_before phase spells)) ≡ total h draws

pub begun : (flags : List ℕ) (spells : List Spell) → AreShared flags spells → (phase : ℕ) → IsBegun spells phase
unfolding total
begun flags spells shared zero = record { draws = []; drawn_is = tt; same = λ h. ap (λ z. over (λ calls. total h (draws_of calls)) (actors_of z)) (before_zero spells) }
begun flags spells shared (suc phase) =
    let now : List (List Call) = actors_of (spells_at phase spells) in
    let before : List (List Call) = actors_of (spells_before phase spells) in
    record {
      draws = (shared phase).draws;
      drawn_is = (shared phase).joint.tickets;
      same = λ h. omega (
        arith,
        over_next (λ calls. total h (draws_of calls)) phase spells,
        over_then (λ calls. total h (draws_of calls)) now before,
        over_actors (λ calls. total h (draws_of calls)) (draws_add h) (now ++ before),
        (shared phase).joint.draws_once h,
      );
    }
