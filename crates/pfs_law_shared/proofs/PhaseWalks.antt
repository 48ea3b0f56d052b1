-- Sums over what is printed up to a phase, block by block, beside sums over what the sessions did.
use Rattle.std.proofs.Common.{ℕ, ◌≡◌, ◌+◌, ◌≤◌, ◌==◌, Bool, true, false, cond, List, [], ◌∷◌, ◌++◌, refl, ap, sym, ◌∙◌, subst, arith}
use Rattle.std.specs.Prelude.{nat_lt, nat_le}
use Rattle.pfs_levels.specs.Calls.{Call}
use Rattle.pfs_model.specs.Chains.{Each}
use Rattle.pfs_model.specs.Contexts.{Context}
use Rattle.pfs_model.specs.Contexts.{fresh as empty}
use Rattle.pfs_model.specs.EntryPlaces.{Block, Placed, placed_lines, places_behind, told_by, up_to_phase, AreShapedBehind}
use Rattle.pfs_model.specs.JournalCuts.{AreShaped}
use Rattle.pfs_session.specs.SessionStates.{State, fresh}
use Rattle.pfs_law_session.specs.Deeds.{Part}
use Rattle.pfs_law_session.specs.JournalLaws.{AreParts, lines_of, entries_of}
use Rattle.pfs_law_session.specs.Stints.{Stint, block_of, blocks_of, state_by, AreStintsBehind}
use Rattle.pfs_law_session.proofs.Stints.{blocks_more}
use Rattle.pfs_law_plain.specs.SessionNotes.{Sits, ToldLaw}
use Rattle.pfs_law_plain.specs.Spells.{Spell, doings_calls, parts_in, stint_of, stints_of, AreEntered, AllEntered}
use Rattle.pfs_law_shared.specs.Order.{IsNear}
use Rattle.pfs_law_shared.specs.Shares.{actors_of, spells_at, spells_before}
use Rattle.pfs_law_shared.proofs.PhaseWeights.{AllSit, sit_next, chosen_then, lines_up_to}
use Rattle.pfs_law_shared.proofs.ActorSums.{test_sum, cond_sum}

-- a sum over entries adds up along them
pub record IsSum (sum : List Placed → ℕ) : Type 0 where
  pub none : sum [] ≡ 0
  pub both : (xs ys : List Placed) → sum (xs ++ ys) ≡ sum xs + sum ys

-- a relation of numbers that sums keep
pub record IsKept (R : ℕ → ℕ → Type 0) : Type 0 where
  pub none : R 0 0
  pub both : (a b c d : ℕ) → R a b → R c d → R (a + c) (d + b)

pub same_kept : IsKept (λ a b. a ≡ b)
same_kept = record { none = refl; both = λ a b c d p q. omega (arith, p, q) }

pub low_kept : IsKept (λ a b. a ≤ b)
low_kept = record { none = omega arith; both = λ a b c d p q. omega (arith, p, q) }

-- what the spells up to a phase weigh
abbrev pub sum_up_to : (Spell → ℕ) → ℕ → List Spell → ℕ
sum_up_to weigh most [] = 0
sum_up_to weigh most (spell ∷ spells) = sum_up_to weigh most spells + cond (nat_le spell.phase most) (weigh spell) 0

-- what a session's block prints is so related to what it did
abbrev pub IsRelated : (ℕ → ℕ → Type 0) → (List Placed → ℕ) → (Spell → ℕ) → Type 0
IsRelated R sum weigh = (context : Context) (s : State) (spell : Spell) → Sits context s → AreParts s (parts_in spell.doings) → AreEntered s spell.doings → Each IsNear (doings_calls spell.doings)
    → AreShaped context (lines_of (parts_in spell.doings)) (entries_of (parts_in spell.doings))
    → R (sum (placed_lines spell.phase spell.session context (lines_of (parts_in spell.doings)) (entries_of (parts_in spell.doings)))) (weigh spell)

module _ (told : ToldLaw) (R : ℕ → ℕ → Type 0) (kept : IsKept R) (sum : List Placed → ℕ) (is_sum : IsSum sum) (weigh : Spell → ℕ) (related : IsRelated R sum weigh) (most stack : ℕ) (depths : ℕ → ℕ) where
  of_block : (b : Bool) (here : List Placed) (n : ℕ) → R (sum here) n → R (sum (cond b here [])) (cond b n 0)
  of_block true here n r = r
  of_block false here n r = subst (λ z. R z 0) (sym is_sum.none) kept.none

  walk : (earlier : List Stint) (phase : ℕ) (spells : List Spell) → AllSit stack depths earlier → AreStintsBehind stack depths earlier phase (stints_of spells) → AllEntered stack depths earlier spells
      → AreShapedBehind (blocks_of earlier) phase (blocks_of (stints_of spells)) → Each (λ spell. Each IsNear (doings_calls spell.doings)) spells
      → R (sum (up_to_phase most (places_behind (blocks_of earlier) (blocks_of (stints_of spells))))) (sum_up_to weigh most spells)
  unfolding places_behind
  walk earlier phase [] all are entered shaped near = subst (λ z. R z 0) (sym is_sum.none) kept.none
  walk earlier phase (spell ∷ spells) all are entered shaped near =
      let k : ℕ = spell.session in
      let stint : Stint = stint_of spell in
      let ps : List Part = parts_in spell.doings in
      let context : Context = told_by k empty (blocks_of earlier) in
      let s : State = state_by k (fresh k stack (depths k)) earlier in
      let t = told context s ps (all k) are.1.are_parts in
      let here : List Placed = placed_lines spell.phase k context (lines_of ps) (entries_of ps) in
      let later : List Block = blocks_of (stints_of spells) in
      let rest : List Placed = places_behind (blocks_of earlier ++ block_of stint ∷ []) later in
      let more = blocks_more earlier stint in
      let next = subst (λ z. AreShapedBehind z spell.phase later) (sym more) shaped.2 in
      let r = walk (earlier ++ stint ∷ []) spell.phase spells (sit_next stack depths earlier stint all (λ thread q. t.sits thread q)) are.2 entered.1 next near.1 in
      let moved : R (sum (up_to_phase most rest)) (sum_up_to weigh most spells) = subst (λ z. R (sum (up_to_phase most (places_behind z later))) (sum_up_to weigh most spells)) more r in
      let b : Bool = nat_le spell.phase most in
      let own = of_block b here (weigh spell) (related context s spell (all k) are.1.are_parts entered.0 near.0 shaped.1) in
      let split : sum (up_to_phase most (here ++ rest)) ≡ sum (cond b here []) + sum (up_to_phase most rest) =
      ap sum (chosen_then (λ place. nat_le place.phase most) here rest ∙ ap (λ z. z ++ up_to_phase most rest) (lines_up_to most spell.phase k context (lines_of ps) (entries_of ps) b refl))
      ∙ is_sum.both (cond b here []) (up_to_phase most rest) in
      subst (λ z. R z (sum_up_to weigh most spells + cond b (weigh spell) 0)) (sym split)
      (kept.both (sum (cond b here [])) (cond b (weigh spell) 0) (sum (up_to_phase most rest)) (sum_up_to weigh most spells) own moved)

  pub walked : (spells : List Spell) → AreStintsBehind stack depths [] 0 (stints_of spells) → AllEntered stack depths [] spells → AreShapedBehind [] 0 (blocks_of (stints_of spells)) → Each (λ spell. Each IsNear (doings_calls spell.doings)) spells
      → R (sum (up_to_phase most (places_behind [] (blocks_of (stints_of spells))))) (sum_up_to weigh most spells)
  walked spells are entered shaped near = walk [] 0 spells (λ k thread q. q) are entered shaped near

-- sums over actors
abbrev pub over : (List Call → ℕ) → List (List Call) → ℕ
over weigh [] = 0
over weigh (calls ∷ actors) = weigh calls + over weigh actors

module _ (weigh : List Call → ℕ) where
  pub over_then : (xs ys : List (List Call)) → over weigh (xs ++ ys) ≡ over weigh xs + over weigh ys
  over_then [] ys = omega arith
  over_then (x ∷ xs) ys = omega (arith, over_then xs ys)

  pub picked_over : (b : Bool) (spell : Spell) (rest : List Spell) → over weigh (actors_of (cond b (spell ∷ []) [] ++ rest)) ≡ over weigh (actors_of rest) + cond b (weigh (doings_calls spell.doings)) 0
  picked_over true spell rest = let a = over_then (actors_of rest) (doings_calls spell.doings ∷ []) in omega (arith, a)
  picked_over false spell rest = omega arith

  spells_over : (phase : ℕ) (spells : List Spell)
      → over weigh (actors_of (spells_at phase spells)) + over weigh (actors_of (spells_before phase spells)) ≡ sum_up_to (λ spell. weigh (doings_calls spell.doings)) phase spells
  spells_over phase [] = refl
  spells_over phase (spell ∷ spells) =
      let own : ℕ = weigh (doings_calls spell.doings) in
      let a = picked_over (spell.phase == phase) spell (spells_at phase spells) in
      let b = picked_over (nat_lt spell.phase phase) spell (spells_before phase spells) in
      let d = cond_sum (spell.phase == phase) (nat_lt spell.phase phase) (nat_le spell.phase phase) own (test_sum spell.phase phase) in
      omega (arith, a, b, d, spells_over phase spells)

  pub phase_over : (phase : ℕ) (spells : List Spell)
      → over weigh (actors_of (spells_at phase spells) ++ actors_of (spells_before phase spells)) ≡ sum_up_to (λ spell. weigh (doings_calls spell.doings)) phase spells
  phase_over phase spells = over_then (actors_of (spells_at phase spells)) (actors_of (spells_before phase spells)) ∙ spells_over phase spells
