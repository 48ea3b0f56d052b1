-- The first of what sessions do: their spells, their calls, and the entries up to a phase.
use Rattle.std.proofs.Common.{ℕ, ◌≡◌, ◌<◌, ◌≤◌, Bool, true, false, cond, List, [], ◌∷◌, ◌++◌, refl, ap, sym, ◌∙◌, subst, arith}
use Rattle.std.specs.Prelude.{nat_le}
use Rattle.std.proofs.lemmas.Bool.Decides.{nat_tests}
use Rattle.std.proofs.lemmas.List.{append_assoc, append-nil}
use Rattle.pfs_law_plain.specs.Spells.{Spell, doings_calls, stint_of, stints_of, calls_of, AllEntered, AreSpells}
use Rattle.pfs_event.specs.declared.entry.Entry.{Entry}
use Rattle.pfs_model.specs.Chains.{Each}
use Rattle.pfs_model.specs.Contexts.{Context, noted, turned, after, subject_of}
use Rattle.pfs_model.specs.EntryPlaces.{Block, Placed, placed_part, placed_lines, places_behind, told_by, chosen, up_to_phase}
use Rattle.pfs_model.specs.Contexts.{fresh as empty}
use Rattle.pfs_model.specs.declared.lines.Line.{Line}
use Rattle.pfs_law_session.specs.Stints.{Stint, block_of, blocks_of, AreStintsBehind}
use Rattle.pfs_law_plain.specs.RunRules.{entries_of}

pub stints_then : (xs ys : List Spell) → stints_of (xs ++ ys) ≡ stints_of xs ++ stints_of ys
stints_then [] ys = refl
stints_then (x ∷ xs) ys = ap (λ z. stint_of x ∷ z) (stints_then xs ys)

blocks_then : (xs ys : List Stint) → blocks_of (xs ++ ys) ≡ blocks_of xs ++ blocks_of ys
blocks_then [] ys = refl
blocks_then (x ∷ xs) ys = ap (λ z. block_of x ∷ z) (blocks_then xs ys)

pub calls_then : (xs ys : List Spell) → calls_of (xs ++ ys) ≡ calls_of ys ++ calls_of xs
calls_then [] ys = sym (append-nil (calls_of ys))
calls_then (x ∷ xs) ys = ap (λ z. z ++ doings_calls x.doings) (calls_then xs ys) ∙ append_assoc (calls_of ys) (calls_of xs) (doings_calls x.doings)

-- the first of them are such spells too
stints_front : (stack : ℕ) (depths : ℕ → ℕ) (earlier : List Stint) (phase : ℕ) (xs ys : List Stint) → AreStintsBehind stack depths earlier phase (xs ++ ys) → AreStintsBehind stack depths earlier phase xs
stints_front stack depths earlier phase [] ys are = tt
stints_front stack depths earlier phase (x ∷ xs) ys are = (are.0, are.1, stints_front stack depths (earlier ++ x ∷ []) x.phase xs ys are.2)

entered_front : (stack : ℕ) (depths : ℕ → ℕ) (earlier : List Stint) (xs ys : List Spell) → AllEntered stack depths earlier (xs ++ ys) → AllEntered stack depths earlier xs
entered_front stack depths earlier [] ys are = tt
entered_front stack depths earlier (x ∷ xs) ys are = (are.0, entered_front stack depths (earlier ++ stint_of x ∷ []) xs ys are.1)

pub spells_front : (stack : ℕ) (depths : ℕ → ℕ) (xs ys : List Spell) → AreSpells stack depths (xs ++ ys) → AreSpells stack depths xs
spells_front stack depths xs ys are = record {
  stints = stints_front stack depths [] 0 (stints_of xs) (stints_of ys) (subst (AreStintsBehind stack depths [] 0) (stints_then xs ys) are.stints);
  entered = entered_front stack depths [] xs ys are.entered;
}

-- entries that all pass a test, or all fail it
abbrev AllTest : (Placed → Bool) → Bool → List Placed → Type 0
AllTest test b ps = Each (λ p. test p ≡ b) ps

test_then : (test : Placed → Bool) (b : Bool) (xs ys : List Placed) → AllTest test b xs → AllTest test b ys → AllTest test b (xs ++ ys)
test_then test b [] ys p q = q
test_then test b (x ∷ xs) ys p q = (p.0, test_then test b xs ys p.1 q)

chosen_then : (test : Placed → Bool) (xs ys : List Placed) → chosen test (xs ++ ys) ≡ chosen test xs ++ chosen test ys
chosen_then test [] ys = refl
chosen_then test (x ∷ xs) ys =
    let own : List Placed = cond (test x) (x ∷ []) [] in
    ap (λ z. own ++ z) (chosen_then test xs ys) ∙ sym (append_assoc own (chosen test xs) (chosen test ys))

chosen_all : (test : Placed → Bool) (ps : List Placed) → AllTest test true ps → chosen test ps ≡ ps
chosen_all test [] a = refl
chosen_all test (p ∷ ps) a = ap (λ b. cond b (p ∷ []) [] ++ chosen test ps) a.0 ∙ ap (λ z. p ∷ z) (chosen_all test ps a.1)

chosen_none : (test : Placed → Bool) (ps : List Placed) → AllTest test false ps → chosen test ps ≡ []
chosen_none test [] a = refl
chosen_none test (p ∷ ps) a = ap (λ b. cond b (p ∷ []) [] ++ chosen test ps) a.0 ∙ chosen_none test ps a.1

abbrev is_up_to : ℕ → Placed → Bool
is_up_to phase place = nat_le place.phase phase

part_test : (most phase session : ℕ) (line : Line) (context : Context) (es : List Entry) (b : Bool) → nat_le phase most ≡ b → AllTest (is_up_to most) b (placed_part phase session line context es)
part_test most phase session line context [] b e = tt
part_test most phase session line context (x ∷ xs) b e = (e, part_test most phase session line (noted (subject_of line) context x) xs b e)

lines_test : (most phase session : ℕ) (context : Context) (lines : List Line) (parts : List (List Entry)) (b : Bool) → nat_le phase most ≡ b → AllTest (is_up_to most) b (placed_lines phase session context lines parts)
lines_test most phase session context [] parts b e = tt
lines_test most phase session context (line ∷ lines) [] b e = tt
lines_test most phase session context (line ∷ lines) (part ∷ parts) b e =
    test_then (is_up_to most) b (placed_part phase session line (turned context) part) (placed_lines phase session (after context line part) lines parts)
    (part_test most phase session line (turned context) part b e) (lines_test most phase session (after context line part) lines parts b e)

blocks_test : (most : ℕ) (earlier blocks : List Block) (b : Bool) → Each (λ block. nat_le block.phase most ≡ b) blocks → AllTest (is_up_to most) b (places_behind earlier blocks)
unfolding places_behind
blocks_test most earlier [] b e = tt
blocks_test most earlier (block ∷ blocks) b e =
    test_then (is_up_to most) b (placed_lines block.phase block.session (told_by block.session empty earlier) block.lines block.parts) (places_behind (earlier ++ block ∷ []) blocks)
    (lines_test most block.phase block.session (told_by block.session empty earlier) block.lines block.parts b e.0) (blocks_test most (earlier ++ block ∷ []) blocks b e.1)

behind_then : (earlier xs ys : List Block) → places_behind earlier (xs ++ ys) ≡ places_behind earlier xs ++ places_behind (earlier ++ xs) ys
unfolding places_behind
behind_then earlier [] ys = ap (λ z. places_behind z ys) (sym (append-nil earlier))
behind_then earlier (x ∷ xs) ys =
    let own : List Placed = placed_lines x.phase x.session (told_by x.session empty earlier) x.lines x.parts in
    let now : List Block = earlier ++ x ∷ [] in
    ap (λ z. own ++ z) (behind_then now xs ys)
    ∙ (ap (λ z. own ++ (places_behind now xs ++ places_behind z ys)) (append_assoc earlier (x ∷ []) xs) ∙ sym (append_assoc own (places_behind now xs) (places_behind (earlier ++ x ∷ xs) ys)))

low_phases : (most : ℕ) (spells : List Spell) → Each (λ spell. spell.phase ≤ most) spells → Each (λ block. nat_le block.phase most ≡ true) (blocks_of (stints_of spells))
low_phases most [] l = tt
low_phases most (spell ∷ spells) l = (yes spell.phase most l.0, low_phases most spells l.1) where
  yes : (m n : ℕ) → m ≤ n → nat_le m n ≡ true
  yes m n h = grind (arith, nat_tests)

high_phases : (most : ℕ) (spells : List Spell) → Each (λ spell. most < spell.phase) spells → Each (λ block. nat_le block.phase most ≡ false) (blocks_of (stints_of spells))
high_phases most [] l = tt
high_phases most (spell ∷ spells) l = (no spell.phase most l.0, high_phases most spells l.1) where
  no : (m n : ℕ) → n < m → nat_le m n ≡ false
  no m n h = grind (arith, nat_tests)

-- the entries up to a phase are those of the spells up to it
pub entries_front : (phase : ℕ) (first later : List Spell) → Each (λ spell. spell.phase ≤ phase) first → Each (λ spell. phase < spell.phase) later
    → up_to_phase phase (entries_of (first ++ later)) ≡ entries_of first
entries_front phase first later low high =
    let xs : List Block = blocks_of (stints_of first) in
    let ys : List Block = blocks_of (stints_of later) in
    let split : blocks_of (stints_of (first ++ later)) ≡ xs ++ ys = ap blocks_of (stints_then first later) ∙ blocks_then (stints_of first) (stints_of later) in
    ap (λ z. up_to_phase phase (places_behind [] z)) split
    ∙ (ap (up_to_phase phase) (behind_then [] xs ys)
    ∙ (chosen_then (is_up_to phase) (places_behind [] xs) (places_behind xs ys)
    ∙ (ap (λ z. z ++ chosen (is_up_to phase) (places_behind xs ys)) (chosen_all (is_up_to phase) (places_behind [] xs) (blocks_test phase [] xs true (low_phases phase first low)))
    ∙ (ap (λ z. places_behind [] xs ++ z) (chosen_none (is_up_to phase) (places_behind xs ys) (blocks_test phase xs ys false (high_phases phase later high))) ∙ append-nil (places_behind [] xs)))))
