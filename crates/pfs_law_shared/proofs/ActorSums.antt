-- What the actors up to a phase did weighs as what the spells up to it did.
use Rattle.std.proofs.Common.{ℕ, ◌≡◌, ◌+◌, ◌==◌, Bool, true, false, cond, List, [], ◌∷◌, ◌++◌, Option, Some, None, refl, ap, ◌∙◌, arith}
use Rattle.std.specs.Prelude.{nat_lt, nat_le}
use Rattle.pfs_board.specs.declared.view.Label.{Label}
use Rattle.pfs_levels.specs.Calls.{Call, Enters, Leaves, Meets}
use Rattle.pfs_levels.specs.JointCalls.{total, one_if, At, changes_of, Setting, sets_of, all_calls}
use Rattle.pfs_law_session.specs.Deeds.{action_of, part_calls, parts_calls}
use Rattle.pfs_law_plain.specs.Spells.{Doing, Spell, around, doing_calls, doings_calls, parts_in}
use Rattle.pfs_law_joint.proofs.Sums.{total_then}
use Rattle.pfs_law_joint.proofs.MarkSums.{changes_then, sets_then}
use Rattle.pfs_law_shared.specs.Shares.{actors_of, spells_at, spells_before}
use Rattle.pfs_law_shared.proofs.PhaseWeights.{calls_up_to}

-- a weight of lists of calls that adds up, and to which beginning and ending actions, and their meets, add nothing
pub record IsAdditive (weigh : List Call → ℕ) : Type 0 where
  pub none : weigh [] ≡ 0
  pub both : (xs ys : List Call) → weigh (xs ++ ys) ≡ weigh xs + weigh ys
  pub enters : (label : Label) (labels : List Label) → weigh (Enters label labels ∷ []) ≡ 0
  pub leaves : weigh (Leaves ∷ []) ≡ 0
  pub meets : (versions : List ℕ) → weigh (Meets versions ∷ []) ≡ 0

pub changes_add : (h : At → ℕ) → IsAdditive (λ calls. total h (changes_of calls))
unfolding total changes_of
changes_add h = record {
  none = refl;
  both = λ xs ys. ap (total h) (changes_then xs ys) ∙ total_then h (changes_of xs) (changes_of ys);
  enters = λ label labels. refl;
  leaves = refl;
  meets = λ versions. refl;
}

pub sets_add : (h : Setting → ℕ) → IsAdditive (λ calls. total h (sets_of calls))
unfolding total sets_of
sets_add h = record {
  none = refl;
  both = λ xs ys. ap (total h) (sets_then xs ys) ∙ total_then h (sets_of xs) (sets_of ys);
  enters = λ label labels. refl;
  leaves = refl;
  meets = λ versions. refl;
}

pub test_sum : (m n : ℕ) → one_if (m == n) + one_if (nat_lt m n) ≡ one_if (nat_le m n)
test_sum m n = grind arith

pub cond_sum : (a b c : Bool) (w : ℕ) → one_if a + one_if b ≡ one_if c → cond a w 0 + cond b w 0 ≡ cond c w 0
cond_sum true true true w e = absurd (omega (arith, e))
cond_sum true true false w e = absurd (omega (arith, e))
cond_sum true false true w e = omega arith
cond_sum true false false w e = absurd (omega (arith, e))
cond_sum false true true w e = omega arith
cond_sum false true false w e = absurd (omega (arith, e))
cond_sum false false true w e = absurd (omega (arith, e))
cond_sum false false false w e = omega arith

module _ (weigh : List Call → ℕ) (adds : IsAdditive weigh) where
  pub around_sum : (label : Label) (labels : List Label) (met : Option (List ℕ)) (action : Option ℕ) (calls : List Call) → weigh (around label labels met action calls) ≡ weigh calls
  around_sum label labels met None calls = refl
  around_sum label labels (Some versions) (Some number) calls =
      let a = adds.both (Leaves ∷ []) (calls ++ Meets versions ∷ Enters label labels ∷ []) in
      let b = adds.both calls (Meets versions ∷ Enters label labels ∷ []) in
      let c = adds.both (Meets versions ∷ []) (Enters label labels ∷ []) in
      omega (arith, a, b, c, adds.enters label labels, adds.leaves, adds.meets versions)
  around_sum label labels None (Some number) calls =
      let a = adds.both (Leaves ∷ []) (calls ++ Enters label labels ∷ []) in
      let b = adds.both calls (Enters label labels ∷ []) in
      omega (arith, a, b, adds.enters label labels, adds.leaves)

  pub doings_sum : (ds : List Doing) → weigh (doings_calls ds) ≡ weigh (parts_calls (parts_in ds))
  doings_sum [] = refl
  doings_sum (d ∷ ds) =
      let a = adds.both (doings_calls ds) (doing_calls d) in
      let b = adds.both (parts_calls (parts_in ds)) (part_calls d.part) in
      omega (arith, a, b, doings_sum ds, around_sum d.label d.labels d.met (action_of d.part.deed) (part_calls d.part))

  actors_sum : (xs ys : List (List Call)) → weigh (all_calls (xs ++ ys)) ≡ weigh (all_calls xs) + weigh (all_calls ys)
  unfolding all_calls
  actors_sum [] ys = omega (arith, adds.none)
  actors_sum (x ∷ xs) ys =
      let a = adds.both x (all_calls (xs ++ ys)) in
      let b = adds.both x (all_calls xs) in
      omega (arith, a, b, actors_sum xs ys)

  one_sum : (calls : List Call) → weigh (all_calls (calls ∷ [])) ≡ weigh calls
  unfolding all_calls
  one_sum calls = let a = adds.both calls [] in omega (arith, a, adds.none)

  picked_sum : (b : Bool) (spell : Spell) (rest : List Spell)
      → weigh (all_calls (actors_of (cond b (spell ∷ []) [] ++ rest))) ≡ weigh (all_calls (actors_of rest)) + cond b (weigh (parts_calls (parts_in spell.doings))) 0
  picked_sum true spell rest =
      let a = actors_sum (actors_of rest) (doings_calls spell.doings ∷ []) in
      omega (arith, a, one_sum (doings_calls spell.doings), doings_sum spell.doings)
  picked_sum false spell rest = omega arith

  calls_sum : (b : Bool) (xs calls : List Call) → weigh (xs ++ cond b calls []) ≡ weigh xs + cond b (weigh calls) 0
  calls_sum true xs calls = adds.both xs calls
  calls_sum false xs calls = let a = adds.both xs [] in omega (arith, a, adds.none)

  spells_sum : (phase : ℕ) (spells : List Spell)
      → weigh (all_calls (actors_of (spells_at phase spells))) + weigh (all_calls (actors_of (spells_before phase spells))) ≡ weigh (calls_up_to phase spells)
  unfolding all_calls
  spells_sum phase [] = omega (arith, adds.none)
  spells_sum phase (spell ∷ spells) =
      let own : ℕ = weigh (parts_calls (parts_in spell.doings)) in
      let a = picked_sum (spell.phase == phase) spell (spells_at phase spells) in
      let b = picked_sum (nat_lt spell.phase phase) spell (spells_before phase spells) in
      let c = calls_sum (nat_le spell.phase phase) (calls_up_to phase spells) (parts_calls (parts_in spell.doings)) in
      let d = cond_sum (spell.phase == phase) (nat_lt spell.phase phase) (nat_le spell.phase phase) own (test_sum spell.phase phase) in
      omega (arith, a, b, c, d, spells_sum phase spells)

  pub phase_sum : (phase : ℕ) (spells : List Spell)
      → weigh (all_calls (actors_of (spells_at phase spells) ++ actors_of (spells_before phase spells))) ≡ weigh (calls_up_to phase spells)
  phase_sum phase spells = actors_sum (actors_of (spells_at phase spells)) (actors_of (spells_before phase spells)) ∙ spells_sum phase spells
