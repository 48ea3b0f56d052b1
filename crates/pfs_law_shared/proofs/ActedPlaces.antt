-- What is printed inside actions, by their numbers: no more than the marks of their actors, and none of it by an action of
-- an earlier phase.
use Rattle.std.proofs.Common.{ℕ, ◌≡◌, ◌+◌, ◌<◌, ◌≤◌, ◌==◌, Bool, true, false, not, cond, ◌&&◌, List, [], ◌∷◌, ◌++◌, Option, Some, None, IfSome, inl, inr, refl, ap, sym, ◌∙◌, subst, arith, eq-eqb, lt-ltb, le-leb}
use Rattle.std.specs.Prelude.{nat_lt, nat_le, ◌⊎◌}
use Rattle.std.proofs.lemmas.Bool.{cases_lt, and_from, false≢true, ltb-true, leb-true}
use Rattle.pfs_lemmas.proofs.Bools.{and_first, and_second}
use Rattle.pfs_event.specs.declared.entry.Entry.{Entry}
use Rattle.pfs_event.specs.declared.entry.Entry.TheVariants as says
use Rattle.pfs_levels.specs.Calls.{Call}
use Rattle.pfs_levels.specs.CallOrder.{marks_of, all_marks, word_marks_of, all_word_marks}
use Rattle.pfs_levels.specs.JointCalls.{total, one_if, At}
use Rattle.pfs_model.specs.Actions.{settings_of, setting_at}
use Rattle.pfs_model.specs.Chains.{Each, row_change, word_change, release_of, each_of}
use Rattle.pfs_model.specs.Contexts.{Context, noted, after, subject_of, turned}
use Rattle.pfs_model.specs.Contexts.{fresh as empty}
use Rattle.pfs_model.specs.EntryPlaces.{Block, Placed, placed_part, placed_lines, places_behind, told_by, chosen, up_to_phase, AreShapedBehind}
use Rattle.pfs_model.specs.Floors.{by_actions}
use Rattle.pfs_model.specs.declared.changes.Change.{Change}
use Rattle.pfs_model.specs.declared.lines.Line.{Line}
use Rattle.pfs_model.specs.declared.lines.Subject.{Subject}
use Rattle.pfs_model.proofs.ActionGuards.{begins}
use Rattle.pfs_model.proofs.EachLists.{each_join, each_front, each_behind}
use Rattle.pfs_model.proofs.Floors.{each_map, each_chosen_of}
use Rattle.pfs_session.specs.SessionStates.{State, fresh}
use Rattle.pfs_session.specs.Turns.{state_after}
use Rattle.pfs_law_session.specs.Deeds.{Part, IsPart, action_of, line_of, part_entries}
use Rattle.pfs_law_session.specs.JournalLaws.{AreParts, lines_of, entries_of}
use Rattle.pfs_law_session.specs.Stints.{Stint, block_of, blocks_of, state_by, AreStintsBehind}
use Rattle.pfs_law_session.proofs.Stints.{blocks_more}
use Rattle.pfs_law_plain.specs.RunRules.{entries_of as all_entries}
use Rattle.pfs_law_plain.specs.SessionNotes.{Sits, ToldLaw}
use Rattle.pfs_law_plain.specs.Spells.{Doing, Spell, AreSpells, doings_calls, parts_in, stint_of, stints_of}
use Rattle.pfs_law_plain.specs.Weights.{put_at, free_at, setting_of, WeighedLaw}
use Rattle.pfs_law_joint.specs.Versions.{at_set}
use Rattle.pfs_law_joint.proofs.Sums.{total_then}
use Rattle.pfs_law_shared.proofs.DoingMarks.{acted, number_of, doings_weigh, doings_sets, doings_marks, doings_words}
use Rattle.pfs_law_shared.proofs.OrderedActions.{marks_over, word_marks_over}
use Rattle.pfs_law_shared.proofs.PartDeeds.{BeginsBy, AllBegin, action_kept, action_begun, IsOwnNumber, numbers, changes, sets, begun}
use Rattle.pfs_law_shared.proofs.RisingNumbers.{AllOver}
use Rattle.pfs_law_shared.proofs.PhaseWalks.{IsSum, low_kept, IsRelated, walked, phase_over}
use Rattle.pfs_law_shared.proofs.PhaseWeights.{AllSit, sit_next}
use Rattle.pfs_law_shared.specs.Order.{IsNear}
use Rattle.pfs_law_shared.specs.Shares.{actors_of, spells_at, spells_before}

-- an entry stands in no action yet, or in that of its line
abbrev pub IsIn : Option ℕ → ℕ → Type 0
IsIn action n = (n ≡ 0) ⊎ IsOwnNumber action n

next_in : (action : Option ℕ) (subject : Option Subject) (context : Context) (e : Entry) → BeginsBy (IsOwnNumber action) e → IsIn action context.action → IsIn action (noted subject context e).action
next_in action subject context e b i = at (begins e) refl where
  at : (t : Bool) → begins e ≡ t → IsIn action (noted subject context e).action
  at true q = inr (action_begun (IsOwnNumber action) subject context e q b)
  at false q = subst (IsIn action) (sym (action_kept subject context e q)) i

places_in : (action : Option ℕ) (phase session : ℕ) (line : Line) (context : Context) (es : List Entry) → AllBegin (IsOwnNumber action) es → IsIn action context.action
    → Each (λ (p : Placed). IsIn action p.context.action) (placed_part phase session line context es)
places_in action phase session line context [] b i = tt
places_in action phase session line context (e ∷ es) b i =
    (i, places_in action phase session line (noted (subject_of line) context e) es b.1 (next_in action (subject_of line) context e b.0 i))

-- changes, releases and sets by their action's number, where there is one
abbrev if_acted : ℕ → ℕ → ℕ
if_acted action n = cond (nat_lt 0 action) n 0

module _ (g : At → ℕ → ℕ) where
  abbrev pub row_weight : Placed → ℕ
  row_weight p = if_acted p.context.action (total (λ c. g (put_at c) p.context.action) (row_change p.entry) + total (λ c. g (free_at c) p.context.action) (release_of p.entry))

  abbrev pub word_weight : Placed → ℕ
  word_weight p = if_acted p.context.action (total (λ s. g (at_set (setting_of s)) p.context.action) (setting_at p.context.action p.entry))

  rows_sum : IsSum (λ ps. total row_weight ps)
  unfolding total
  rows_sum = record { none = refl; both = λ xs ys. total_then row_weight xs ys }

  words_sum : IsSum (λ ps. total word_weight ps)
  unfolding total
  words_sum = record { none = refl; both = λ xs ys. total_then word_weight xs ys }

  -- no more than under the line's number
  low_row : (action : Option ℕ) (p : Placed) → IsIn action p.context.action
      → row_weight p ≤ total (λ c. g (put_at c) (number_of g action)) (row_change p.entry) + total (λ c. g (free_at c) (number_of g action)) (release_of p.entry)
  low_row action p (inl e) = omega (arith, ap (λ b. cond {A = ℕ} b (total (λ c. g (put_at c) p.context.action) (row_change p.entry) + total (λ c. g (free_at c) p.context.action) (release_of p.entry)) 0) (none p.context.action e)) where
    none : (n : ℕ) → n ≡ 0 → nat_lt 0 n ≡ false
    none n e = grind arith
  low_row None p (inr e) = absurd e
  low_row (Some number) p (inr e) =
      subst (λ n. if_acted n (total (λ c. g (put_at c) n) (row_change p.entry) + total (λ c. g (free_at c) n) (release_of p.entry)) ≤ total (λ c. g (put_at c) number) (row_change p.entry) + total (λ c. g (free_at c) number) (release_of p.entry))
      (sym e) (at (nat_lt 0 number)) where
        at : (b : Bool) → cond b (total (λ c. g (put_at c) number) (row_change p.entry) + total (λ c. g (free_at c) number) (release_of p.entry)) 0 ≤ total (λ c. g (put_at c) number) (row_change p.entry) + total (λ c. g (free_at c) number) (release_of p.entry)
        at true = omega arith
        at false = omega arith

  low_word : (action : Option ℕ) (p : Placed) → IsIn action p.context.action → word_weight p ≤ total (λ s. g (at_set (setting_of s)) (number_of g action)) (setting_at p.context.action p.entry)
  low_word action p (inl e) = omega (arith, ap (λ b. cond {A = ℕ} b (total (λ s. g (at_set (setting_of s)) p.context.action) (setting_at p.context.action p.entry)) 0) (none p.context.action e)) where
    none : (n : ℕ) → n ≡ 0 → nat_lt 0 n ≡ false
    none n e = grind arith
  low_word None p (inr e) = absurd e
  low_word (Some number) p (inr e) =
      subst (λ n. if_acted n (total (λ s. g (at_set (setting_of s)) n) (setting_at p.context.action p.entry)) ≤ total (λ s. g (at_set (setting_of s)) number) (setting_at p.context.action p.entry))
      (sym e) (at (nat_lt 0 number)) where
        at : (b : Bool) → cond b (total (λ s. g (at_set (setting_of s)) number) (setting_at p.context.action p.entry)) 0 ≤ total (λ s. g (at_set (setting_of s)) number) (setting_at p.context.action p.entry)
        at true = omega arith
        at false = omega arith

  line_rows : (action : Option ℕ) (ps : List Placed) → Each (λ (p : Placed). IsIn action p.context.action) ps
      → total row_weight ps ≤ total (λ c. g (put_at c) (number_of g action)) (each_of row_change ps) + total (λ c. g (free_at c) (number_of g action)) (each_of release_of ps)
  unfolding total
  line_rows action [] each = omega arith
  line_rows action (p ∷ ps) each =
      let a = total_then (λ c. g (put_at c) (number_of g action)) (row_change p.entry) (each_of row_change ps) in
      let b = total_then (λ c. g (free_at c) (number_of g action)) (release_of p.entry) (each_of release_of ps) in
      omega (arith, a, b, low_row action p each.0, line_rows action ps each.1)

  line_words : (action : Option ℕ) (ps : List Placed) → Each (λ (p : Placed). IsIn action p.context.action) ps → total word_weight ps ≤ total (λ s. g (at_set (setting_of s)) (number_of g action)) (settings_of ps)
  unfolding total
  line_words action [] each = omega arith
  line_words action (p ∷ ps) each =
      let a = total_then (λ s. g (at_set (setting_of s)) (number_of g action)) (setting_at p.context.action p.entry) (settings_of ps) in
      omega (arith, a, low_word action p each.0, line_words action ps each.1)

-- of the lines of a block
module _ (told : ToldLaw) (weighed : WeighedLaw) where
  next_sits : (context : Context) (s : State) (d : Doing) → Sits context s → IsPart s d.part → Sits (after context (line_of d.part.deed) (part_entries d.part)) (state_after s d.part.turns)
  next_sits context s d sits is = (told context s (d.part ∷ []) sits (is, tt)).sits

  own_in : (phase session : ℕ) (context : Context) (s : State) (p : Part) → Sits context s → IsPart s p
      → Each (λ (q : Placed). IsIn (action_of p.deed) q.context.action) (placed_part phase session (line_of p.deed) (turned context) (part_entries p))
  own_in phase session context s p sits is =
      places_in (action_of p.deed) phase session (line_of p.deed) (turned context) (part_entries p)
      (begun told weighed phase session context s p sits is (action_of p.deed) (numbers told weighed phase session context s p sits is)) (inl refl)

  block_rows : (g : At → ℕ → ℕ) (phase session : ℕ) (context : Context) (s : State) (ds : List Doing) → Sits context s → AreParts s (parts_in ds)
      → total (row_weight g) (placed_lines phase session context (lines_of (parts_in ds)) (entries_of (parts_in ds))) ≤ doings_weigh g ds
  unfolding total
  block_rows g phase session context s [] sits are = omega arith
  block_rows g phase session context s (d ∷ ds) sits are =
      let line : Line = line_of d.part.deed in
      let own : List Placed = placed_part phase session line (turned context) (part_entries d.part) in
      let next : Context = after context line (part_entries d.part) in
      let rest : List Placed = placed_lines phase session next (lines_of (parts_in ds)) (entries_of (parts_in ds)) in
      let both = total_then (row_weight g) own rest in
      let here = line_rows g (action_of d.part.deed) own (own_in phase session context s d.part sits are.0) in
      let made = changes told weighed phase session context s d.part sits are.0 (λ x. g x (number_of g (action_of d.part.deed))) in
      omega (arith, both, here, made, block_rows g phase session next (state_after s d.part.turns) ds (next_sits context s d sits are.0) are.1)

  block_words : (g : At → ℕ → ℕ) (phase session : ℕ) (context : Context) (s : State) (ds : List Doing) → Sits context s → AreParts s (parts_in ds)
      → total (word_weight g) (placed_lines phase session context (lines_of (parts_in ds)) (entries_of (parts_in ds))) ≤ doings_sets g ds
  unfolding total
  block_words g phase session context s [] sits are = omega arith
  block_words g phase session context s (d ∷ ds) sits are =
      let line : Line = line_of d.part.deed in
      let own : List Placed = placed_part phase session line (turned context) (part_entries d.part) in
      let next : Context = after context line (part_entries d.part) in
      let rest : List Placed = placed_lines phase session next (lines_of (parts_in ds)) (entries_of (parts_in ds)) in
      let both = total_then (word_weight g) own rest in
      let here = line_words g (action_of d.part.deed) own (own_in phase session context s d.part sits are.0) in
      let made = sets told weighed phase session context s d.part sits are.0 (λ x. g x (number_of g (action_of d.part.deed))) in
      omega (arith, both, here, made, block_words g phase session next (state_after s d.part.turns) ds (next_sits context s d sits are.0) are.1)

  -- each entry of a block is in no action, or in one of a number that all of them have above a bound
  block_over : (bound phase session : ℕ) (context : Context) (s : State) (ds : List Doing) → Sits context s → AreParts s (parts_in ds) → AllOver bound ds
      → Each (λ (q : Placed). (q.context.action ≡ 0) ⊎ (bound < q.context.action)) (placed_lines phase session context (lines_of (parts_in ds)) (entries_of (parts_in ds)))
  block_over bound phase session context s [] sits are up = tt
  block_over bound phase session context s (d ∷ ds) sits are up =
      let line : Line = line_of d.part.deed in
      let own : List Placed = placed_part phase session line (turned context) (part_entries d.part) in
      let next : Context = after context line (part_entries d.part) in
      let rest : List Placed = placed_lines phase session next (lines_of (parts_in ds)) (entries_of (parts_in ds)) in
      let R : Placed → Type 0 = λ q. (q.context.action ≡ 0) ⊎ (bound < q.context.action) in
      each_join R own rest (each_map (λ (q : Placed). IsIn (action_of d.part.deed) q.context.action) R (λ q i. over_one (action_of d.part.deed) q.context.action i up.0) own (own_in phase session context s d.part sits are.0))
      (block_over bound phase session next (state_after s d.part.turns) ds (next_sits context s d sits are.0) are.1 up.1) where
        over_one : (action : Option ℕ) (n : ℕ) → IsIn action n → IfSome action (λ number. bound < number) → (n ≡ 0) ⊎ (bound < n)
        over_one action n (inl e) u = inl e
        over_one None n (inr e) u = absurd e
        over_one (Some number) n (inr e) u = inr (omega (arith, e, u))

  rows_related : (g : At → ℕ → ℕ) → IsRelated (λ a b. a ≤ b) (λ ps. total (row_weight g) ps) (λ spell. total (acted g) (marks_of (doings_calls spell.doings)))
  rows_related g = λ context s spell sits are entered near shaped.
      omega (arith, block_rows g spell.phase spell.session context s spell.doings sits are, doings_marks g s spell.doings are entered)

  words_related : (g : At → ℕ → ℕ) → IsRelated (λ a b. a ≤ b) (λ ps. total (word_weight g) ps) (λ spell. total (acted g) (word_marks_of (doings_calls spell.doings)))
  words_related g = λ context s spell sits are entered near shaped.
      omega (arith, block_words g spell.phase spell.session context s spell.doings sits are, doings_words g s spell.doings are entered)

  -- a fact of the entries of each block, by one of its spell
  module _ (P : Placed → Type 0) (F : Spell → Type 0)
      (of_block : (context : Context) (s : State) (spell : Spell) → Sits context s → AreParts s (parts_in spell.doings) → F spell
      → Each P (placed_lines spell.phase spell.session context (lines_of (parts_in spell.doings)) (entries_of (parts_in spell.doings))))
      (stack : ℕ) (depths : ℕ → ℕ) where
    pub blocks_each : (earlier : List Stint) (phase : ℕ) (spells : List Spell) → AllSit stack depths earlier → AreStintsBehind stack depths earlier phase (stints_of spells) → Each F spells
        → Each P (places_behind (blocks_of earlier) (blocks_of (stints_of spells)))
    unfolding places_behind
    blocks_each earlier phase [] all are facts = tt
    blocks_each earlier phase (spell ∷ spells) all are facts =
        let k : ℕ = spell.session in
        let stint : Stint = stint_of spell in
        let ps : List Part = parts_in spell.doings in
        let context : Context = told_by k empty (blocks_of earlier) in
        let s : State = state_by k (fresh k stack (depths k)) earlier in
        let t = told context s ps (all k) are.1.are_parts in
        let here : List Placed = placed_lines spell.phase k context (lines_of ps) (entries_of ps) in
        let later : List Block = blocks_of (stints_of spells) in
        let rest : List Placed = places_behind (blocks_of earlier ++ block_of stint ∷ []) later in
        let r = blocks_each (earlier ++ stint ∷ []) spell.phase spells (sit_next stack depths earlier stint all (λ thread q. t.sits thread q)) are.2 facts.1 in
        each_join P here rest (of_block context s spell (all k) are.1.are_parts facts.0) (subst (λ z. Each P (places_behind z later)) (blocks_more earlier stint) r)

-- what weighs nothing has nothing that weighs
none_chosen : (w : Placed → ℕ) (test : Placed → Bool) (ps : List Placed) → total w (chosen test ps) ≡ 0 → Each (λ p. test p ≡ true → w p ≡ 0) ps
unfolding total
none_chosen w test [] none = tt
none_chosen w test (p ∷ ps) none = at (test p) refl none (λ rest. none_chosen w test ps rest) where
  at : (b : Bool) → test p ≡ b → total w (cond b (p ∷ []) [] ++ chosen test ps) ≡ 0 → (total w (chosen test ps) ≡ 0 → Each (λ p. test p ≡ true → w p ≡ 0) ps)
      → (test p ≡ true → w p ≡ 0) × Each (λ p. test p ≡ true → w p ≡ 0) ps
  at true q e go = ((λ t. omega (arith, e)), go (omega (arith, e)))
  at false q e go = ((λ t. absurd (false≢true (sym q ∙ t))), go e)

none_each : (B : Change → Bool) (cs : List Change) → total (λ c. one_if (B c)) cs ≡ 0 → Each (λ c. B c ≡ false) cs
unfolding total
none_each B [] none = tt
none_each B (c ∷ cs) none = (at (B c) refl, none_each B cs (omega (arith, none))) where
  at : (b : Bool) → B c ≡ b → B c ≡ false
  at true q = absurd (omega (arith, none, ap one_if q))
  at false q = q

pub each_both : {A : Type 0} (P Q R : A → Type 0) → ((x : A) → P x → Q x → R x) → (xs : List A) → Each P xs → Each Q xs → Each R xs
each_both P Q R so [] p q = tt
each_both P Q R so (x ∷ xs) p q = (so x p.0 q.0, each_both P Q R so xs p.1 q.1)

acted_weight : (n a : ℕ) → 0 < a → if_acted a n ≡ 0 → n ≡ 0
acted_weight n a up e = subst (λ b. cond b n 0 ≡ 0) (lt-ltb 0 a up) e

-- sets, as changes of words
entry_sets : (B : At → Bool) (action : ℕ) (e : Entry) → total (λ s. one_if (B (at_set (setting_of s)))) (setting_at action e) ≡ total (λ c. one_if (B (put_at c))) (word_change e)
unfolding total
entry_sets B action (says.Set word version flags) = refl
entry_sets B action _ = refl

last_false : (a b : Bool) → a ≡ true → (a && b) ≡ false → b ≡ false
last_false true b e f = f
last_false false b e f = absurd (false≢true e)

not_le : (v n : ℕ) → nat_le v n ≡ false → n < v
not_le v n e = grind arith

not_lt : (v n : ℕ) → nat_lt v n ≡ false → n ≤ v
not_lt v n e = grind arith

-- by the actions up to one that has ended
module _ (bound : ℕ → ℕ) (all : List Placed) (over_bound : Each (λ p. (p.context.action ≡ 0) ⊎ (bound p.phase < p.context.action)) all) (phase done : ℕ) (ended : (h : ℕ) → phase < h → done ≤ bound h) where
  abbrev is_by : Placed → Bool
  is_by p = nat_lt 0 p.context.action && nat_le p.context.action done

  by_up : (p : Placed) → is_by p ≡ true → 0 < p.context.action
  by_up p e = ltb-true 0 p.context.action (and_first (nat_lt 0 p.context.action) (nat_le p.context.action done) e)

  -- no action of a later phase is among them
  early : (p : Placed) → is_by p ≡ true → (p.context.action ≡ 0) ⊎ (bound p.phase < p.context.action) → nat_le p.phase phase ≡ true
  early p e (inl z) = absurd (omega (arith, by_up p e, z))
  early p e (inr high) = elim (cases_lt phase p.phase) [
    | inl late ↦ absurd (omega (arith, high, ended p.phase late, leb-true p.context.action done (and_second (nat_lt 0 p.context.action) (nat_le p.context.action done) e)))
    | inr soon ↦ le-leb p.phase phase soon
  ]

  by_each : (w : Placed → ℕ) → total w (up_to_phase phase all) ≡ 0 → Each (λ p. is_by p ≡ true → w p ≡ 0) all
  by_each w none =
      each_both (λ p. nat_le p.phase phase ≡ true → w p ≡ 0) (λ p. (p.context.action ≡ 0) ⊎ (bound p.phase < p.context.action)) (λ p. is_by p ≡ true → w p ≡ 0)
      (λ p zero later e. zero (early p e later)) all (none_chosen w (λ p. nat_le p.phase phase) all none) over_bound

  module _ (B : At → ℕ → Bool) where
    puts_false : (p : Placed) → 0 < p.context.action → row_weight (λ x a. one_if (B x a)) p ≡ 0 → Each (λ c. B (put_at c) p.context.action ≡ false) (row_change p.entry)
    puts_false p up none = none_each (λ c. B (put_at c) p.context.action) (row_change p.entry) (omega (arith, acted_weight (total (λ c. one_if (B (put_at c) p.context.action)) (row_change p.entry) + total (λ c. one_if (B (free_at c) p.context.action)) (release_of p.entry)) p.context.action up none))

    frees_false : (p : Placed) → 0 < p.context.action → row_weight (λ x a. one_if (B x a)) p ≡ 0 → Each (λ c. B (free_at c) p.context.action ≡ false) (release_of p.entry)
    frees_false p up none = none_each (λ c. B (free_at c) p.context.action) (release_of p.entry) (omega (arith, acted_weight (total (λ c. one_if (B (put_at c) p.context.action)) (row_change p.entry) + total (λ c. one_if (B (free_at c) p.context.action)) (release_of p.entry)) p.context.action up none))

    sets_false : (p : Placed) → 0 < p.context.action → word_weight (λ x a. one_if (B x a)) p ≡ 0 → Each (λ c. B (put_at c) p.context.action ≡ false) (word_change p.entry)
    sets_false p up none =
        none_each (λ c. B (put_at c) p.context.action) (word_change p.entry) (sym (entry_sets (λ x. B x p.context.action) p.context.action p.entry) ∙ acted_weight (total (λ s. one_if (B (at_set (setting_of s)) p.context.action)) (setting_at p.context.action p.entry)) p.context.action up none)

    -- whatever the test refuses of them isn't there
    module _ (P : Change → Type 0) where
      pub rows_by : ((c : Change) (a : ℕ) → 0 < a → a ≤ done → B (put_at c) a ≡ false → P c) → total (row_weight (λ x a. one_if (B x a))) (up_to_phase phase all) ≡ 0 → Each P (each_of row_change (by_actions done all))
      rows_by so none =
          each_chosen_of P row_change is_by all (each_map (λ p. is_by p ≡ true → row_weight (λ x a. one_if (B x a)) p ≡ 0) (λ p. is_by p ≡ true → Each P (row_change p.entry))
          (λ p zero e. each_map (λ c. B (put_at c) p.context.action ≡ false) P (λ c f. so c p.context.action (by_up p e) (leb-true p.context.action done (and_second (nat_lt 0 p.context.action) (nat_le p.context.action done) e)) f)
          (row_change p.entry) (puts_false p (by_up p e) (zero e))) all (by_each (row_weight (λ x a. one_if (B x a))) none))

      pub frees_by : ((c : Change) (a : ℕ) → 0 < a → a ≤ done → B (free_at c) a ≡ false → P c) → total (row_weight (λ x a. one_if (B x a))) (up_to_phase phase all) ≡ 0 → Each P (each_of release_of (by_actions done all))
      frees_by so none =
          each_chosen_of P release_of is_by all (each_map (λ p. is_by p ≡ true → row_weight (λ x a. one_if (B x a)) p ≡ 0) (λ p. is_by p ≡ true → Each P (release_of p.entry))
          (λ p zero e. each_map (λ c. B (free_at c) p.context.action ≡ false) P (λ c f. so c p.context.action (by_up p e) (leb-true p.context.action done (and_second (nat_lt 0 p.context.action) (nat_le p.context.action done) e)) f)
          (release_of p.entry) (frees_false p (by_up p e) (zero e))) all (by_each (row_weight (λ x a. one_if (B x a))) none))

      pub sets_by : ((c : Change) (a : ℕ) → 0 < a → a ≤ done → B (put_at c) a ≡ false → P c) → total (word_weight (λ x a. one_if (B x a))) (up_to_phase phase all) ≡ 0 → Each P (each_of word_change (by_actions done all))
      sets_by so none =
          each_chosen_of P word_change is_by all (each_map (λ p. is_by p ≡ true → word_weight (λ x a. one_if (B x a)) p ≡ 0) (λ p. is_by p ≡ true → Each P (word_change p.entry))
          (λ p zero e. each_map (λ c. B (put_at c) p.context.action ≡ false) P (λ c f. so c p.context.action (by_up p e) (leb-true p.context.action done (and_second (nat_lt 0 p.context.action) (nat_le p.context.action done) e)) f)
          (word_change p.entry) (sets_false p (by_up p e) (zero e))) all (by_each (word_weight (λ x a. one_if (B x a))) none))

-- the tests of floors
abbrev pub past_test : ℕ → ℕ → At → ℕ → Bool
past_test row done x a = (x.row == row) && nat_lt 0 a && nat_le a done

abbrev pub reaches : ℕ → ℕ → ℕ → At → ℕ → Bool
reaches row version done x a = past_test row done x a && nat_le version x.version

abbrev pub exceeds : ℕ → ℕ → ℕ → At → ℕ → Bool
exceeds row version done x a = past_test row done x a && nat_lt version x.version

abbrev pub frees_from : ℕ → ℕ → ℕ → At → ℕ → Bool
frees_from row version done x a = past_test row done x a && not x.puts && nat_le version x.version

past_true : (row done : ℕ) (x : At) (a : ℕ) → x.row ≡ row → 0 < a → a ≤ done → past_test row done x a ≡ true
past_true row done x a e up low = and_from ((x.row == row) && nat_lt 0 a) (nat_le a done) (and_from (x.row == row) (nat_lt 0 a) (eq-eqb x.row row e) (lt-ltb 0 a up)) (le-leb a done low)

pub below_version : (row version done : ℕ) (x : At) (a : ℕ) → 0 < a → a ≤ done → reaches row version done x a ≡ false → x.row ≡ row → x.version < version
below_version row version done x a up low f e = not_le version x.version (last_false (past_test row done x a) (nat_le version x.version) (past_true row done x a e up low) f)

pub to_version : (row version done : ℕ) (x : At) (a : ℕ) → 0 < a → a ≤ done → exceeds row version done x a ≡ false → x.row ≡ row → x.version ≤ version
to_version row version done x a up low f e = not_lt version x.version (last_false (past_test row done x a) (nat_lt version x.version) (past_true row done x a e up low) f)

pub freed_below : (row version done : ℕ) (x : At) (a : ℕ) → x.puts ≡ false → 0 < a → a ≤ done → frees_from row version done x a ≡ false → x.row ≡ row → x.version < version
freed_below row version done x a p up low f e =
    not_le version x.version (last_false (past_test row done x a && not x.puts) (nat_le version x.version) (and_from (past_test row done x a) (not x.puts) (past_true row done x a e up low) (ap not p)) f)

-- of all phases
module _ (told : ToldLaw) (weighed : WeighedLaw) (stack : ℕ) (depths : ℕ → ℕ) (spells : List Spell) (are : AreSpells stack depths spells) (shaped : AreShapedBehind [] 0 (blocks_of (stints_of spells)))
    (near : Each (λ spell. Each IsNear (doings_calls spell.doings)) spells) where
  abbrev actors : ℕ → List (List Call)
  actors phase = actors_of (spells_at phase spells) ++ actors_of (spells_before phase spells)

  pub rows_up_to : (g : At → ℕ → ℕ) (phase : ℕ) → total (row_weight g) (up_to_phase phase (all_entries spells)) ≤ total (acted g) (all_marks (actors phase))
  rows_up_to g phase =
      let w = walked told (λ a b. a ≤ b) low_kept (λ ps. total (row_weight g) ps) (rows_sum g) (λ spell. total (acted g) (marks_of (doings_calls spell.doings))) (rows_related told weighed g) phase stack depths spells are.stints are.entered shaped near in
      let m = marks_over (acted g) (actors phase) ∙ phase_over (λ calls. total (acted g) (marks_of calls)) phase spells in
      omega (arith, w, m)

  pub words_up_to : (g : At → ℕ → ℕ) (phase : ℕ) → total (word_weight g) (up_to_phase phase (all_entries spells)) ≤ total (acted g) (all_word_marks (actors phase))
  words_up_to g phase =
      let w = walked told (λ a b. a ≤ b) low_kept (λ ps. total (word_weight g) ps) (words_sum g) (λ spell. total (acted g) (word_marks_of (doings_calls spell.doings))) (words_related told weighed g) phase stack depths spells are.stints are.entered shaped near in
      let m = word_marks_over (acted g) (actors phase) ∙ phase_over (λ calls. total (acted g) (word_marks_of calls)) phase spells in
      omega (arith, w, m)

  -- an action's entries are in one above all of the phases before
  pub all_over : (bound : ℕ → ℕ) → Each (λ spell. AllOver (bound spell.phase) spell.doings) spells → Each (λ p. (p.context.action ≡ 0) ⊎ (bound p.phase < p.context.action)) (all_entries spells)
  all_over bound up =
      blocks_each told weighed (λ p. (p.context.action ≡ 0) ⊎ (bound p.phase < p.context.action)) (λ spell. AllOver (bound spell.phase) spell.doings)
      (λ context s spell sits parts u. lines_over bound spell.phase spell.session context (lines_of (parts_in spell.doings)) (entries_of (parts_in spell.doings)) (block_over told weighed (bound spell.phase) spell.phase spell.session context s spell.doings sits parts u))
      stack depths [] 0 spells (λ k thread q. q) are.stints up where
        -- the phase of a block's entries is its own
        part_over : (bound : ℕ → ℕ) (phase session : ℕ) (line : Line) (context : Context) (es : List Entry) → Each (λ (q : Placed). (q.context.action ≡ 0) ⊎ (bound phase < q.context.action)) (placed_part phase session line context es)
            → Each (λ (q : Placed). (q.context.action ≡ 0) ⊎ (bound q.phase < q.context.action)) (placed_part phase session line context es)
        part_over bound phase session line context [] each = tt
        part_over bound phase session line context (e ∷ es) each = (each.0, part_over bound phase session line (noted (subject_of line) context e) es each.1)

        lines_over : (bound : ℕ → ℕ) (phase session : ℕ) (context : Context) (ls : List Line) (parts : List (List Entry))
            → Each (λ (q : Placed). (q.context.action ≡ 0) ⊎ (bound phase < q.context.action)) (placed_lines phase session context ls parts)
            → Each (λ (q : Placed). (q.context.action ≡ 0) ⊎ (bound q.phase < q.context.action)) (placed_lines phase session context ls parts)
        lines_over bound phase session context [] parts each = tt
        lines_over bound phase session context (line ∷ ls) [] each = tt
        lines_over bound phase session context (line ∷ ls) (part ∷ parts) each =
            let own : List Placed = placed_part phase session line (turned context) part in
            let rest : List Placed = placed_lines phase session (after context line part) ls parts in
            let P : Placed → Type 0 = λ q. (q.context.action ≡ 0) ⊎ (bound phase < q.context.action) in
            each_join (λ q. (q.context.action ≡ 0) ⊎ (bound q.phase < q.context.action)) own rest (part_over bound phase session line (turned context) part (each_front P own rest each))
            (lines_over bound phase session (after context line part) ls parts (each_behind P own rest each))
