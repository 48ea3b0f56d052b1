-- What the other sessions of a phase made is printed by others.
use Rattle.std.proofs.Common.{ℕ, ◌≡◌, ◌+◌, ◌<◌, ◌≤◌, ◌==◌, Bool, true, false, not, cond, ◌&&◌, List, [], ◌∷◌, ◌++◌, refl, ap, ◌∙◌, arith, le-leb, eqb-true}
use Rattle.std.specs.Prelude.{nat_le}
use Rattle.pfs_event.specs.declared.entry.Entry.{Entry}
use Rattle.pfs_levels.specs.Calls.{Call}
use Rattle.pfs_levels.specs.JointCalls.{total, one_if, At, changes_of, all_calls}
use Rattle.pfs_levels.specs.CallOrder.{all_marks, published}
use Rattle.pfs_model.proofs.EachLists.{each_join}
use Rattle.pfs_model.proofs.Floors.{each_map}
use Rattle.pfs_model.specs.Actions.{IsAmong}
use Rattle.pfs_model.specs.Causes.{by_others}
use Rattle.pfs_model.specs.Chains.{Each, times, change_at, row_change, release_of, each_of, is_that}
use Rattle.pfs_model.specs.Contexts.{Context, noted, after, subject_of, turned}
use Rattle.pfs_model.specs.EntryPlaces.{Placed, placed_part, placed_lines, chosen, up_to_phase, AreShapedBehind}
use Rattle.pfs_model.specs.declared.changes.Change.{Change}
use Rattle.pfs_model.specs.declared.lines.Line.{Line}
use Rattle.pfs_session.specs.SessionStates.{State}
use Rattle.pfs_law_session.specs.Deeds.{Part, parts_calls}
use Rattle.pfs_law_session.specs.JournalLaws.{AreParts, lines_of, entries_of}
use Rattle.pfs_law_session.specs.Stints.{blocks_of}
use Rattle.pfs_law_plain.specs.RunRules.{entries_of as all_entries}
use Rattle.pfs_law_plain.specs.SessionNotes.{Sits, ToldLaw}
use Rattle.pfs_law_plain.specs.Spells.{Spell, AreSpells, doings_calls, parts_in, stints_of}
use Rattle.pfs_law_plain.specs.Weights.{put_at, free_at, AreWeighed, WeighedLaw}
use Rattle.pfs_law_joint.proofs.MarkSums.{all_row_sums, off_zero}
use Rattle.pfs_law_shared.specs.Order.{IsNear}
use Rattle.pfs_law_shared.specs.Shares.{actors_of, spells_at}
use Rattle.pfs_law_shared.proofs.ActorSums.{changes_add, doings_sum}
use Rattle.pfs_law_shared.proofs.PhaseChains.{times_then}
use Rattle.pfs_law_shared.proofs.PhaseCounts.{times_among}
use Rattle.pfs_law_shared.proofs.PhaseCounts.{all_over as over_actors}
use Rattle.pfs_law_shared.proofs.PhaseWalks.{IsSum, IsKept, sum_up_to, IsRelated, walked, over, over_then, picked_over}
use Rattle.pfs_law_shared.proofs.PhaseWeights.{chosen_then, each_then}
use Rattle.pfs_law_shared.proofs.PrintedPuts.{longs_of, longs_sum, block_rung}
use Rattle.pfs_law_shared.proofs.TicketedPuts.{rungs}

-- entries of a block are of its phase and its session
abbrev pub IsOf : ℕ → ℕ → Placed → Type 0
IsOf phase session p = (p.phase ≡ phase) × (p.session ≡ session)

part_of : (phase session : ℕ) (line : Line) (context : Context) (es : List Entry) → Each (IsOf phase session) (placed_part phase session line context es)
part_of phase session line context [] = tt
part_of phase session line context (e ∷ es) = ((refl, refl), part_of phase session line (noted (subject_of line) context e) es)

pub lines_are : (phase session : ℕ) (context : Context) (ls : List Line) (parts : List (List Entry)) → Each (IsOf phase session) (placed_lines phase session context ls parts)
lines_are phase session context [] parts = tt
lines_are phase session context (line ∷ ls) [] = tt
lines_are phase session context (line ∷ ls) (part ∷ parts) =
    each_join (IsOf phase session) (placed_part phase session line (turned context) part) (placed_lines phase session (after context line part) ls parts) (part_of phase session line (turned context) part)
    (lines_are phase session (after context line part) ls parts)

sum_then : (weigh : Spell → ℕ) (most : ℕ) (xs ys : List Spell) → sum_up_to weigh most (xs ++ ys) ≡ sum_up_to weigh most xs + sum_up_to weigh most ys
sum_then weigh most [] ys = omega arith
sum_then weigh most (x ∷ xs) ys = omega (arith, sum_then weigh most xs ys)

-- what others make is printed by others
more_kept : IsKept (λ a b. b ≤ a)
more_kept = record { none = omega arith; both = λ a b c d p q. omega (arith, p, q) }

pub chosen_whole : (test : Placed → Bool) (ps : List Placed) → Each (λ p. test p ≡ true) ps → chosen test ps ≡ ps
chosen_whole test [] each = refl
chosen_whole test (p ∷ ps) each = ap (λ b. cond b (p ∷ []) [] ++ chosen test ps) each.0 ∙ ap (λ z. p ∷ z) (chosen_whole test ps each.1)

-- of whatever is printed by a block at least as often as its session made it
module _ (told : ToldLaw) (session : ℕ) (made_in : List Call → ℕ) (printed : List Placed → ℕ) (is_sum : IsSum printed)
    (related : (context : Context) (s : State) (spell : Spell) → Sits context s → AreParts s (parts_in spell.doings)
    → made_in (doings_calls spell.doings) ≤ printed (placed_lines spell.phase spell.session context (lines_of (parts_in spell.doings)) (entries_of (parts_in spell.doings)))) where
  abbrev theirs : Spell → ℕ
  theirs spell = cond (spell.session == session) 0 (made_in (doings_calls spell.doings))

  abbrev printed_by : List Placed → ℕ
  printed_by ps = printed (by_others session ps)

  printed_sum : IsSum printed_by
  printed_sum = record {
    none = is_sum.none;
    both = λ xs ys. ap printed (chosen_then (λ p. not (p.session == session)) xs ys) ∙ is_sum.both (by_others session xs) (by_others session ys);
  }

  printed_related : IsRelated (λ a b. b ≤ a) printed_by theirs
  printed_related = λ context s spell sits are entered near shaped. by context s spell sits are (spell.session == session) refl where
    by : (context : Context) (s : State) (spell : Spell) → Sits context s → AreParts s (parts_in spell.doings) → (b : Bool) → (spell.session == session) ≡ b
        → cond b 0 (made_in (doings_calls spell.doings)) ≤ printed_by (placed_lines spell.phase spell.session context (lines_of (parts_in spell.doings)) (entries_of (parts_in spell.doings)))
    by context s spell sits are true e = omega arith
    by context s spell sits are false e =
        let ps : List Part = parts_in spell.doings in
        let here : List Placed = placed_lines spell.phase spell.session context (lines_of ps) (entries_of ps) in
        let all_theirs : by_others session here ≡ here =
        chosen_whole (λ p. not (p.session == session)) here (each_map (IsOf spell.phase spell.session) (λ p. not (p.session == session) ≡ true) (λ p is. ap (λ n. not (n == session)) is.1 ∙ ap not e) here (lines_are spell.phase spell.session context (lines_of ps) (entries_of ps))) in
        omega (arith, related context s spell sits are, ap printed all_theirs)

  -- other sessions of a phase
  others_over : (phase : ℕ) (xs : List Spell) → Each (λ x. x.session ≡ session → x.phase ≡ phase → ⊥) xs → over made_in (actors_of (spells_at phase xs)) ≤ sum_up_to theirs phase xs
  others_over phase [] apart = omega arith
  others_over phase (x ∷ xs) apart =
      omega (arith, picked_over made_in (x.phase == phase) x (spells_at phase xs), others_over phase xs apart.1, one (x.phase == phase) (x.session == session) refl refl) where
        one : (a b : Bool) → (x.phase == phase) ≡ a → (x.session == session) ≡ b → cond a (made_in (doings_calls x.doings)) 0 ≤ cond (nat_le x.phase phase) (cond b 0 (made_in (doings_calls x.doings))) 0
        one false b p q = omega arith
        one true true p q = absurd (apart.0 (eqb-true x.session session q) (eqb-true x.phase phase p))
        one true false p q = omega (arith, ap (λ t. cond t (made_in (doings_calls x.doings)) 0) (le-leb x.phase phase (omega (arith, eqb-true x.phase phase p))))

  pub others_most : (stack : ℕ) (depths : ℕ → ℕ) (spells earlier later : List Spell) (spell : Spell) → spells ≡ earlier ++ spell ∷ later → AreSpells stack depths spells → AreShapedBehind [] 0 (blocks_of (stints_of spells))
      → Each (λ x. Each IsNear (doings_calls x.doings)) spells → Each (λ x. x.session ≡ session → x.phase ≡ spell.phase → ⊥) earlier → Each (λ x. x.session ≡ session → x.phase ≡ spell.phase → ⊥) later
      → over made_in (actors_of (spells_at spell.phase later) ++ actors_of (spells_at spell.phase earlier)) ≤ printed (by_others session (up_to_phase spell.phase (all_entries spells)))
  others_most stack depths spells earlier later spell split are shaped near before after =
      let f : ℕ = spell.phase in
      let front : List (List Call) = actors_of (spells_at f later) in
      let behind : List (List Call) = actors_of (spells_at f earlier) in
      let w = walked told (λ a b. b ≤ a) more_kept printed_by printed_sum theirs printed_related f stack depths spells are.stints are.entered shaped near in
      let sums : sum_up_to theirs f spells ≡ sum_up_to theirs f earlier + sum_up_to theirs f (spell ∷ later) = ap (sum_up_to theirs f) split ∙ sum_then theirs f earlier (spell ∷ later) in
      omega (arith, over_then made_in front behind, others_over f earlier before, others_over f later after, sums, w)

-- so of changes of rows
module _ (told : ToldLaw) (weighed : WeighedLaw) (session row k : ℕ) where
  abbrev h : At → ℕ
  h x = one_if ((x.row == row) && x.puts && (x.version == k))

  abbrev changes_made : List Call → ℕ
  changes_made calls = total h (changes_of calls)

  abbrev changes_printed : List Placed → ℕ
  changes_printed ps = times (is_that (change_at row k)) (each_of row_change ps)

  changes_sum : IsSum changes_printed
  changes_sum = record { none = refl; both = λ xs ys. ap (times (is_that (change_at row k))) (each_then row_change xs ys) ∙ times_then (is_that (change_at row k)) (each_of row_change xs) (each_of row_change ys) }

  puts_that : (cs : List Change) → total (λ c. h (put_at c)) cs ≡ times (is_that (change_at row k)) cs
  unfolding total
  puts_that [] = refl
  puts_that (c ∷ cs) = omega (arith, puts_that cs, one (c.row == row) (c.version == k)) where
    one : (a b : Bool) → one_if (a && true && b) ≡ cond {A = ℕ} (a && b) 1 0
    one true true = refl
    one true false = refl
    one false b = refl

  frees_none : (cs : List Change) → total (λ c. h (free_at c)) cs ≡ 0
  unfolding total
  frees_none [] = refl
  frees_none (c ∷ cs) = omega (arith, frees_none cs, one (c.row == row) (c.version == k)) where
    one : (a b : Bool) → one_if (a && false && b) ≡ 0
    one true b = refl
    one false b = refl

  changes_related : (context : Context) (s : State) (spell : Spell) → Sits context s → AreParts s (parts_in spell.doings)
      → changes_made (doings_calls spell.doings) ≤ changes_printed (placed_lines spell.phase spell.session context (lines_of (parts_in spell.doings)) (entries_of (parts_in spell.doings)))
  changes_related context s spell sits are =
      let ps : List Part = parts_in spell.doings in
      let here : List Placed = placed_lines spell.phase spell.session context (lines_of ps) (entries_of ps) in
      let w : AreWeighed here (parts_calls ps) = weighed spell.phase spell.session context s ps sits are in
      omega (arith, w.rows h, puts_that (each_of row_change here), frees_none (each_of release_of here), doings_sum changes_made (changes_add h) spell.doings)

  pub others_made : (stack : ℕ) (depths : ℕ → ℕ) (spells earlier later : List Spell) (spell : Spell) → spells ≡ earlier ++ spell ∷ later → 0 < row → AreSpells stack depths spells → AreShapedBehind [] 0 (blocks_of (stints_of spells))
      → Each (λ x. Each IsNear (doings_calls x.doings)) spells → Each (λ x. x.session ≡ session → x.phase ≡ spell.phase → ⊥) earlier → Each (λ x. x.session ≡ session → x.phase ≡ spell.phase → ⊥) later
      → 0 < published (all_marks (actors_of (spells_at spell.phase later) ++ actors_of (spells_at spell.phase earlier))) row k
      → IsAmong (change_at row k) (each_of row_change (by_others session (up_to_phase spell.phase (all_entries spells))))
  others_made stack depths spells earlier later spell split up are shaped near before after some =
      let f : ℕ = spell.phase in
      let front : List (List Call) = actors_of (spells_at f later) in
      let behind : List (List Call) = actors_of (spells_at f earlier) in
      let marks : published (all_marks (front ++ behind)) row k ≡ changes_made (all_calls (front ++ behind)) = all_row_sums h (λ x zero. ap (λ b. one_if (b && x.puts && (x.version == k))) (off_zero row up x zero)) (front ++ behind) in
      let most = others_most told session changes_made changes_printed changes_sum changes_related stack depths spells earlier later spell split are shaped near before after in
      times_among (change_at row k) (each_of row_change (by_others session (up_to_phase f (all_entries spells))))
      (omega (arith, some, marks, over_actors changes_made (changes_add h) (front ++ behind), most))

-- and of puts with this ticket
module _ (told : ToldLaw) (session row ticket : ℕ) (test : ℕ → Bool) where
  pub others_put : (stack : ℕ) (depths : ℕ → ℕ) (spells earlier later : List Spell) (spell : Spell) → spells ≡ earlier ++ spell ∷ later → AreSpells stack depths spells → AreShapedBehind [] 0 (blocks_of (stints_of spells))
      → Each (λ x. Each IsNear (doings_calls x.doings)) spells → Each (λ x. x.session ≡ session → x.phase ≡ spell.phase → ⊥) earlier → Each (λ x. x.session ≡ session → x.phase ≡ spell.phase → ⊥) later
      → over (rungs row ticket test) (actors_of (spells_at spell.phase later) ++ actors_of (spells_at spell.phase earlier)) ≤ longs_of row ticket test (by_others session (up_to_phase spell.phase (all_entries spells)))
  others_put =
      others_most told session (rungs row ticket test) (longs_of row ticket test) (longs_sum row ticket test)
      (λ context s spell sits are. (let same = block_rung spell.phase spell.session context s spell.doings are row ticket test in omega (arith, same)))
