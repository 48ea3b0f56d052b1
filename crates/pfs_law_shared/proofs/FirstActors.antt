-- The sessions up to a phase, as the actors of that phase and of those before it, and beside the sessions behind it.
use Rattle.std.proofs.Common.{ℕ, ◌≡◌, ◌+◌, ◌<◌, ◌≤◌, true, false, cond, List, [], ◌∷◌, ◌++◌, refl, ap, sym, ◌∙◌, arith, append_assoc, append-nil}
use Rattle.std.specs.Prelude.{nat_le}
use Rattle.std.proofs.lemmas.Bool.Decides.{nat_tests}
use Rattle.pfs_levels.specs.Calls.{Call}
use Rattle.pfs_levels.specs.CallOrder.{AllCalls}
use Rattle.pfs_levels.specs.JointCalls.{total, At, Setting, changes_of, sets_of, draws_of, AllAgree, Joint, all_calls}
use Rattle.pfs_model.specs.Chains.{Each}
use Rattle.pfs_law_plain.specs.Spells.{Spell, doings_calls}
use Rattle.pfs_law_joint.specs.Phases.{IsShared}
use Rattle.pfs_law_shared.specs.Shares.{actors_of, spells_at, spells_before}
use Rattle.pfs_law_shared.proofs.ActorSums.{IsAdditive, changes_add, sets_add}
use Rattle.pfs_law_shared.proofs.AgreedCalls.{agree_each, calls_front, calls_back, each_spell}
use Rattle.pfs_law_shared.proofs.DrawnTickets.{draws_add}
use Rattle.pfs_law_shared.proofs.PhaseCounts.{all_over}
use Rattle.pfs_law_shared.proofs.PrintedPuts.{actors_all}
use Rattle.pfs_law_shared.proofs.PhaseWalks.{over, over_then, phase_over, sum_up_to}

up_to : (p most : ℕ) → p ≤ most → nat_le p most ≡ true
up_to p most low = grind (arith, nat_tests)

behind : (p most : ℕ) → most < p → nat_le p most ≡ false
behind p most high = grind (arith, nat_tests)

-- what they weigh, added up
module _ (weigh : List Call → ℕ) where
  abbrev own : Spell → ℕ
  own spell = weigh (doings_calls spell.doings)

  whole_over : (most : ℕ) (spells : List Spell) → Each (λ spell. spell.phase ≤ most) spells → sum_up_to own most spells ≡ over weigh (actors_of spells)
  whole_over most [] low = refl
  whole_over most (spell ∷ spells) low =
      let a = over_then weigh (actors_of spells) (doings_calls spell.doings ∷ []) in
      let b = ap (λ z. cond z (own spell) 0) (up_to spell.phase most low.0) in
      omega (arith, a, b, whole_over most spells low.1)

  none_over : (most : ℕ) (spells : List Spell) → Each (λ spell. most < spell.phase) spells → sum_up_to own most spells ≡ 0
  none_over most [] high = refl
  none_over most (spell ∷ spells) high =
      let b = ap (λ z. cond z (own spell) 0) (behind spell.phase most high.0) in
      omega (arith, b, none_over most spells high.1)

  front_over : (most : ℕ) (first later : List Spell) → Each (λ spell. most < spell.phase) later → sum_up_to own most (first ++ later) ≡ sum_up_to own most first
  front_over most [] later high = none_over most later high
  front_over most (spell ∷ first) later high = ap (λ n. n + cond (nat_le spell.phase most) (own spell) 0) (front_over most first later high)

  pub all_of : (most : ℕ) (spells : List Spell) → Each (λ spell. spell.phase ≤ most) spells
      → over weigh (actors_of (spells_at most spells) ++ actors_of (spells_before most spells)) ≡ over weigh (actors_of spells)
  all_of most spells low = phase_over weigh most spells ∙ whole_over most spells low

  pub first_of : (most : ℕ) (first later : List Spell) → Each (λ spell. spell.phase ≤ most) first → Each (λ spell. most < spell.phase) later
      → over weigh (actors_of (spells_at most (first ++ later)) ++ actors_of (spells_before most (first ++ later))) ≡ over weigh (actors_of first)
  first_of most first later low high = phase_over weigh most (first ++ later) ∙ (front_over most first later high ∙ whole_over most first low)

  -- and of weights that add up along calls
  pub all_sum : IsAdditive weigh → (most : ℕ) (spells : List Spell) → Each (λ spell. spell.phase ≤ most) spells
      → weigh (all_calls (actors_of (spells_at most spells) ++ actors_of (spells_before most spells))) ≡ weigh (all_calls (actors_of spells))
  all_sum adds most spells low =
      all_over weigh adds (actors_of (spells_at most spells) ++ actors_of (spells_before most spells)) ∙ (all_of most spells low ∙ sym (all_over weigh adds (actors_of spells)))

  pub first_sum : IsAdditive weigh → (most : ℕ) (first later : List Spell) → Each (λ spell. spell.phase ≤ most) first → Each (λ spell. most < spell.phase) later
      → weigh (all_calls (actors_of (spells_at most (first ++ later)) ++ actors_of (spells_before most (first ++ later)))) ≡ weigh (all_calls (actors_of first))
  first_sum adds most first later low high =
      all_over weigh adds (actors_of (spells_at most (first ++ later)) ++ actors_of (spells_before most (first ++ later)))
      ∙ (first_of most first later low high ∙ sym (all_over weigh adds (actors_of first)))

-- the actors of all, those of the later ones in front
pub actors_both : (first later : List Spell) → actors_of (first ++ later) ≡ actors_of later ++ actors_of first
actors_both [] later = sym (append-nil (actors_of later))
actors_both (spell ∷ first) later =
    ap (λ z. z ++ doings_calls spell.doings ∷ []) (actors_both first later) ∙ append_assoc (actors_of later) (actors_of first) (doings_calls spell.doings ∷ [])

-- what all have in common at the end of their last phase, as of one list of them
module _ (flags : List ℕ) (content : ℕ → ℕ → List ℕ) (log : List At) (sets : List Setting) where
  agree_join : (xs ys : List Call) → AllAgree flags content log sets xs → AllAgree flags content log sets ys → AllAgree flags content log sets (xs ++ ys)
  agree_join [] ys a b = b
  agree_join (x ∷ xs) ys a b = (a.0, agree_join xs ys a.1 b)

  agree_all : (actors : List (List Call)) → AllCalls (AllAgree flags content log sets) actors → AllAgree flags content log sets (all_calls actors)
  unfolding all_calls
  agree_all [] each = tt
  agree_all (calls ∷ actors) each = agree_join calls (all_calls actors) each.0 (agree_all actors each.1)

pub as_one : (flags : List ℕ) (last : ℕ) (spells : List Spell) → Each (λ spell. spell.phase ≤ last) spells
    → (s : IsShared flags (actors_of (spells_before last spells)) (actors_of (spells_at last spells))) → Joint flags (actors_of spells) s.content s.log s.sets s.draws
as_one flags last spells low s =
    let now : List (List Call) = actors_of (spells_at last spells) in
    let before : List (List Call) = actors_of (spells_before last spells) in
    let P : List Call → Type 0 = AllAgree flags s.content s.log s.sets in
    let each : AllCalls P (now ++ before) = agree_each flags s.content s.log s.sets (now ++ before) s.joint.agrees in
    record {
      chain = s.joint.chain;
      words = s.joint.words;
      tickets = s.joint.tickets;
      opens = s.joint.opens;
      once = λ h. sym (all_sum (λ calls. total h (changes_of calls)) (changes_add h) last spells low) ∙ s.joint.once h;
      sets_once = λ h. sym (all_sum (λ calls. total h (sets_of calls)) (sets_add h) last spells low) ∙ s.joint.sets_once h;
      draws_once = λ h. sym (all_sum (λ calls. total h (draws_of calls)) (draws_add h) last spells low) ∙ s.joint.draws_once h;
      agrees = agree_all flags s.content s.log s.sets (actors_of spells)
          (actors_all P spells (each_spell P last spells low (calls_front P now before each) (calls_back P now before each)));
    }
