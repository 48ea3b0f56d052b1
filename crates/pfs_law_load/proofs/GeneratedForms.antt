-- The lines of a generated script.
use Rattle.std.proofs.Common.{ℕ, zero, suc, ◌≡◌, ◌+◌, ◌-◌, ◌*◌, ◌≤◌, ◌<◌, ◌%◌, List, [], ◌∷◌, ◌++◌, length, Some, refl, subst, append_assoc, arith}
use Rattle.std.specs.Prelude.{codes}
use Rattle.std.specs.List.{flat_map, range_with_len}
use Rattle.pfs_gen.specs.Draws.{draw}
use Rattle.pfs_gen.specs.GeneratedScript.{connect_line, script_text, session_line, session_text, spend_line, statement_line, unit_at, unit_text, units_text, wait_line}
use Rattle.pfs_model.specs.Chains.{Each}
use Rattle.pfs_script.specs.declared.forms.Form.{Form}
use Rattle.pfs_script.specs.declared.forms.Form.TheVariants as lines
use Rattle.pfs_law_load.proofs.LineTexts.{Spells, spells_none, spells_on}
use Rattle.pfs_law_load.proofs.SaidLines.{IsInside, SaysInside, inside_none, inside_on, says_connect, says_end, says_phase, says_session, says_spend, says_statement, says_wait}

unit_said : (a b c d : ℕ) → b < 1000 → d < 1000 → SaysInside (unit_text a b c d)
unfolding unit_text
unit_said a b c d before_it in_it =
    let begun = inside_on (statement_line a) (spend_line b) (says_statement a) (says_spend b (omega arith)) in
    let waits = inside_on (statement_line a ++ spend_line b) (wait_line c) begun (says_wait c) in
    let spent = inside_on (statement_line a ++ spend_line b ++ wait_line c) (spend_line d) waits (says_spend d (omega arith)) in
    let ends = inside_on (codes "end\n") (codes "end\n") says_end says_end in
    inside_on (statement_line a ++ spend_line b ++ wait_line c ++ spend_line d) (codes "end\nend\n") spent ends

units_said : (number first count : ℕ) → SaysInside (units_text number first count)
unfolding units_text unit_at
units_said number first zero = inside_none
units_said number first (suc count) =
    inside_on (unit_at number first) (units_text number (first + 1) count)
    (unit_said (draw number (4 * first) % 4) (draw number (4 * first + 1) % 1000) (draw number (4 * first + 2) % 3) (draw number (4 * first + 3) % 1000) (omega arith) (omega arith))
    (units_said number (first + 1) count)

session_said : (number next : ℕ) → 1 ≤ next → next ≤ 8 → SaysInside (session_text number next)
unfolding session_text
session_said number next low high =
    inside_on (session_line next) (units_text number (500 * (next - 1)) 500) (says_session next low high) (units_said number (500 * (next - 1)) 500)

sessions_said : (number count most : ℕ) → most + count ≡ 8 → SaysInside (flat_map (session_text number) (range_with_len (most + 1) count))
sessions_said number zero most e = inside_none
sessions_said number (suc count) most e =
    inside_on (session_text number (most + 1)) (flat_map (session_text number) (range_with_len (most + 1 + 1) count))
    (session_said number (most + 1) (omega arith) (omega (arith, e))) (sessions_said number count (most + 1) (omega (arith, e)))

-- connects alone, and no more than so many
abbrev pub IsConnect : Form → Type 0
IsConnect (lines.Connect session user host) = Unit {0}
IsConnect _ = ⊥

record SaysConnects (text : List ℕ) (count : ℕ) : Type 0 where
  lines : List Form
  connects : Each IsConnect lines
  few : length lines ≤ count
  spells : Spells text lines

connects_said : (count most : ℕ) → most + count ≡ 8 → SaysConnects (flat_map connect_line (range_with_len (most + 1) count)) count
connects_said zero most e = record { lines = []; connects = tt; few = omega arith; spells = spells_none }
connects_said (suc count) most e =
    let one = says_connect (most + 1) (omega arith) (omega (arith, e)) in
    let rest = connects_said count (most + 1) (omega (arith, e)) in
    let line = lines.Connect (Some one.number) one.user one.host in
    record {
      lines = line ∷ rest.lines;
      connects = (tt, rest.connects);
      few = omega (arith, rest.few);
      spells = spells_on (connect_line (most + 1)) (flat_map connect_line (range_with_len (most + 1 + 1) count)) (line ∷ []) rest.lines one.spells rest.spells;
    }

-- a phase of connects, no more than eight, and a phase of lines that start, spend and end
pub record SaysLoad (text : List ℕ) : Type 0 where
  pub first : List Form
  pub second : List Form
  pub connects : Each IsConnect first
  pub few : length first ≤ 8
  pub inside : Each IsInside second
  pub spells : Spells text (lines.Phase ∷ (first ++ lines.Phase ∷ second))

pub script_said : (number : ℕ) → SaysLoad (script_text number)
unfolding script_text
script_said number =
    let connects = flat_map connect_line (range_with_len 1 8) in
    let sessions = flat_map (session_text number) (range_with_len 1 8) in
    let one = connects_said 8 0 refl in
    let two = sessions_said number 8 0 refl in
    let begun = spells_on (codes "phase\n") connects (lines.Phase ∷ []) one.lines says_phase one.spells in
    let again = spells_on (codes "phase\n" ++ connects) (codes "phase\n") (lines.Phase ∷ one.lines) (lines.Phase ∷ []) begun says_phase in
    let whole = spells_on (codes "phase\n" ++ connects ++ codes "phase\n") sessions (lines.Phase ∷ (one.lines ++ lines.Phase ∷ [])) two.lines again two.spells in
    record {
      first = one.lines;
      second = two.lines;
      connects = one.connects;
      few = one.few;
      inside = two.inside;
      spells = subst (λ (all : List Form). Spells (codes "phase\n" ++ connects ++ codes "phase\n" ++ sessions) (lines.Phase ∷ all)) (append_assoc one.lines (lines.Phase ∷ []) two.lines) whole;
    }
