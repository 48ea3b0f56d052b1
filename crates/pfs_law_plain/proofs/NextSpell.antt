-- One part more, and one spell more, for whoever runs sessions.
use Rattle.std.proofs.Common.{ℕ, ◌≡◌, ◌≤◌, Bool, false, List, [], ◌∷◌, ◌++◌, refl, ap, sym, ◌∙◌, subst}
use Rattle.std.proofs.lemmas.List.{append_assoc, append-nil}
use Rattle.pfs_session.specs.SessionStates.{fresh}
use Rattle.pfs_law_session.specs.Stints.{Stint, state_by, over_by, IsStint, AreStintsBehind}
use Rattle.pfs_law_plain.specs.Spells.{Spell, doings_calls, parts_in, stint_of, stints_of, calls_of, AreEntered, AllEntered, AreSpells}

pub calls_more : (spells : List Spell) (spell : Spell) → calls_of (spells ++ spell ∷ []) ≡ doings_calls spell.doings ++ calls_of spells
calls_more [] spell = sym (append-nil (doings_calls spell.doings))
calls_more (x ∷ xs) spell = ap (λ z. z ++ doings_calls x.doings) (calls_more xs spell) ∙ append_assoc (doings_calls spell.doings) (calls_of xs) (doings_calls x.doings)

pub stints_of_more : (spells : List Spell) (spell : Spell) → stints_of (spells ++ spell ∷ []) ≡ stints_of spells ++ stint_of spell ∷ []
stints_of_more [] spell = refl
stints_of_more (x ∷ xs) spell = ap (λ z. stint_of x ∷ z) (stints_of_more xs spell)

-- the phase of the last stint
abbrev pub last_phase : ℕ → List Stint → ℕ
last_phase phase [] = phase
last_phase phase (stint ∷ stints) = last_phase stint.phase stints

behind_more : (stack : ℕ) (depths : ℕ → ℕ) (earlier : List Stint) (phase : ℕ) (stints : List Stint) (stint : Stint) → AreStintsBehind stack depths earlier phase stints
    → last_phase phase stints ≤ stint.phase
    → IsStint (over_by stint.session false (earlier ++ stints)) (state_by stint.session (fresh stint.session stack (depths stint.session)) (earlier ++ stints)) stint.parts
    → AreStintsBehind stack depths earlier phase (stints ++ stint ∷ [])
behind_more stack depths earlier phase [] stint are low is =
    (low, subst (λ z. IsStint (over_by stint.session false z) (state_by stint.session (fresh stint.session stack (depths stint.session)) z) stint.parts) (append-nil earlier) is, tt)
behind_more stack depths earlier phase (x ∷ xs) stint are low is = (
  are.0,
  are.1,
  behind_more stack depths (earlier ++ x ∷ []) x.phase xs stint are.2 low
      (subst (λ z. IsStint (over_by stint.session false z) (state_by stint.session (fresh stint.session stack (depths stint.session)) z) stint.parts) (sym (append_assoc earlier (x ∷ []) xs)) is),
)

all_entered_more : (stack : ℕ) (depths : ℕ → ℕ) (earlier : List Stint) (spells : List Spell) (spell : Spell) → AllEntered stack depths earlier spells
    → AreEntered (state_by spell.session (fresh spell.session stack (depths spell.session)) (earlier ++ stints_of spells)) spell.doings → AllEntered stack depths earlier (spells ++ spell ∷ [])
all_entered_more stack depths earlier [] spell are one =
    (subst (λ z. AreEntered (state_by spell.session (fresh spell.session stack (depths spell.session)) z) spell.doings) (append-nil earlier) one, tt)
all_entered_more stack depths earlier (x ∷ xs) spell are one = (
  are.0,
  all_entered_more stack depths (earlier ++ stint_of x ∷ []) xs spell are.1
      (subst (λ z. AreEntered (state_by spell.session (fresh spell.session stack (depths spell.session)) z) spell.doings) (sym (append_assoc earlier (stint_of x ∷ []) (stints_of xs))) one),
)

pub spells_more : (stack : ℕ) (depths : ℕ → ℕ) (spells : List Spell) (spell : Spell) → AreSpells stack depths spells → last_phase 0 (stints_of spells) ≤ spell.phase
    → IsStint (over_by spell.session false (stints_of spells)) (state_by spell.session (fresh spell.session stack (depths spell.session)) (stints_of spells)) (parts_in spell.doings)
    → AreEntered (state_by spell.session (fresh spell.session stack (depths spell.session)) (stints_of spells)) spell.doings → AreSpells stack depths (spells ++ spell ∷ [])
spells_more stack depths spells spell are low is entered = record {
  stints = subst (AreStintsBehind stack depths [] 0) (sym (stints_of_more spells spell)) (behind_more stack depths [] 0 (stints_of spells) (stint_of spell) are.stints low is);
  entered = all_entered_more stack depths [] spells spell are.entered entered;
}
