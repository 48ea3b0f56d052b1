-- What the lines of a generated script come to: few of each thing that a script may have.
use Rattle.std.proofs.Common.{ℕ, ◌≡◌, ◌+◌, ◌≤◌, Bool, true, false, ◌||◌, cond, nat_lt, List, [], ◌∷◌, ◌++◌, refl, ap, ◌∙◌, arith}
use Rattle.std.specs.Prelude.{count_by}
use Rattle.std.specs.List.{list_any}
use Rattle.std.proofs.lemmas.Bool.Decides.{nat_tests}
use Rattle.std.proofs.lemmas.Bool.{le-ltb}
use Rattle.pfs_script.specs.declared.forms.Form.{Form}
use Rattle.pfs_script.specs.declared.forms.Form.TheVariants as lines
use Rattle.pfs_script.specs.LineCounts.{is_repeat, is_done, is_in_repeat, counted}
use Rattle.pfs_script.specs.Sessions.{is_phase, is_quit}
use Rattle.pfs_script.specs.Finds.{with_table, tables_of}
use Rattle.pfs_script.specs.Reasons.{is_class, one_each, one_select, weight_of, is_too_long, is_too_much, is_table_too_many}
use Rattle.pfs_script.proofs.LinesBehind.{count_more, any_more, counted_more, counted_none, in_repeat-same}
use Rattle.pfs_script.proofs.NextFinds.{tables_push}
use Rattle.pfs_gen.proofs.GeneratedHeads.{FixesNothing}

-- so many phases; no class, table, SELECT or repeat; and no more than so many lines, nor so much weight
pub record Counts (before : List Form) (phases size : ℕ) : Type 0 where
  pub phase : list_any is_phase before ≡ nat_lt 0 phases
  pub phases_are : count_by is_phase before ≡ phases
  pub classes : count_by is_class before ≡ 0
  pub selects : counted one_select before ≡ 0
  pub lines : counted one_each before ≤ size
  pub weight : counted weight_of before ≤ size
  pub alone : is_in_repeat before ≡ false
  pub tables : tables_of before ≡ []

-- the line is no class, table, SELECT, repeat or `quit`, and fixes nothing but names of sessions
pub record IsSimple (line : Form) : Type 0 where
  pub class : is_class line ≡ false
  pub select : one_select line ≡ 0
  pub repeat : is_repeat line ≡ false
  pub done : is_done line ≡ false
  pub quit : is_quit line ≡ false
  pub table : with_table [] line ≡ []
  pub weighs : 1 ≤ weight_of line
  pub fixes : FixesNothing line

-- the forms of the lines that are generated
abbrev pub IsGenerated : Form → Type 0
IsGenerated lines.Phase = Unit {0}
IsGenerated (lines.Connect session user host) = Unit {0}
IsGenerated (lines.Resume session) = Unit {0}
IsGenerated (lines.Statement class text) = Unit {0}
IsGenerated (lines.Wait class) = Unit {0}
IsGenerated (lines.Spend time) = Unit {0}
IsGenerated lines.End = Unit {0}
IsGenerated _ = ⊥

pub simple : (line : Form) → IsGenerated line → IsSimple line
simple lines.Phase g = record {
  class = refl;
  select = refl;
  repeat = refl;
  done = refl;
  quit = refl;
  table = refl;
  weighs = omega arith;
  fixes = record { limits = λ limits. refl; naming = λ naming. refl; consumers = λ word. refl };
}
simple (lines.Connect session user host) g = record {
  class = refl;
  select = refl;
  repeat = refl;
  done = refl;
  quit = refl;
  table = refl;
  weighs = omega arith;
  fixes = record { limits = λ limits. refl; naming = λ naming. refl; consumers = λ word. refl };
}
simple (lines.Resume session) g = record {
  class = refl;
  select = refl;
  repeat = refl;
  done = refl;
  quit = refl;
  table = refl;
  weighs = omega arith;
  fixes = record { limits = λ limits. refl; naming = λ naming. refl; consumers = λ word. refl };
}
simple (lines.Statement class text) g = record {
  class = refl;
  select = refl;
  repeat = refl;
  done = refl;
  quit = refl;
  table = refl;
  weighs = omega arith;
  fixes = record { limits = λ limits. refl; naming = λ naming. refl; consumers = λ word. refl };
}
simple (lines.Wait class) g = record {
  class = refl;
  select = refl;
  repeat = refl;
  done = refl;
  quit = refl;
  table = refl;
  weighs = omega arith;
  fixes = record { limits = λ limits. refl; naming = λ naming. refl; consumers = λ word. refl };
}
simple (lines.Spend time) g = record {
  class = refl;
  select = refl;
  repeat = refl;
  done = refl;
  quit = refl;
  table = refl;
  weighs = omega arith;
  fixes = record { limits = λ limits. refl; naming = λ naming. refl; consumers = λ word. refl };
}
simple lines.End g = record {
  class = refl;
  select = refl;
  repeat = refl;
  done = refl;
  quit = refl;
  table = refl;
  weighs = omega arith;
  fixes = record { limits = λ limits. refl; naming = λ naming. refl; consumers = λ word. refl };
}
simple _ g = absurd g

pub counts_none : Counts [] 0 0
unfolding tables_of
counts_none = record {
  phase = refl;
  phases_are = refl;
  classes = refl;
  selects = counted_none one_select;
  lines = omega (arith, counted_none one_each);
  weight = omega (arith, counted_none weight_of);
  alone = refl;
  tables = refl;
}

phase_by : (b : Bool) (phases : ℕ) → (nat_lt 0 phases || b) ≡ nat_lt 0 (phases + cond {A = ℕ} b 1 0)
phase_by true phases = grind (arith, nat_tests)
phase_by false phases = grind (arith, nat_tests)

-- with one line more
pub counts_more : (before : List Form) (line : Form) (phases size : ℕ) → Counts before phases size → IsSimple line → Counts (before ++ line ∷ []) (phases + cond {A = ℕ} (is_phase line) 1 0) (size + weight_of line)
counts_more before line phases size c s =
    let none : cond {A = ℕ} (is_class line) 1 0 ≡ 0 = ap {B = ℕ} (λ b. cond {A = ℕ} b 1 0) s.class in
    record {
      phase = rw (any_more is_phase before line, c.phase) (phase_by (is_phase line) phases);
      phases_are = count_more is_phase before line ∙ ap (λ n. n + cond {A = ℕ} (is_phase line) 1 0) c.phases_are;
      classes = omega (arith, count_more is_class before line, c.classes, none);
      selects = omega (arith, counted_more one_select before line s.done, c.selects, s.select);
      lines = omega (arith, counted_more one_each before line s.done, c.lines, s.weighs);
      weight = omega (arith, counted_more weight_of before line s.done, c.weight);
      alone = in_repeat-same before line s.repeat s.done ∙ c.alone;
      tables = tables_push before line ∙ (ap (λ tables. with_table tables line) c.tables ∙ s.table);
    }

-- so a line that makes them so le-ltb has room
pub record HasRoom (before : List Form) (line : Form) : Type 0 where
  pub long : is_too_long before line ≡ false
  pub much : is_too_much before line ≡ false
  pub tables : is_table_too_many before line ≡ false

pub has_room : (before : List Form) (line : Form) (phases size : ℕ) → Counts (before ++ line ∷ []) phases size → phases ≤ 64 → size ≤ 200000 → HasRoom before line
has_room before line phases size c p s = record {
  long = le-ltb 200000 (counted one_each (before ++ line ∷ [])) (omega (arith, c.lines));
  much =
      rw (
        le-ltb 64 (count_by is_phase (before ++ line ∷ [])) (omega (arith, c.phases_are)),
        le-ltb 256 (count_by is_class (before ++ line ∷ [])) (omega (arith, c.classes)),
        le-ltb 256 (counted one_select (before ++ line ∷ [])) (omega (arith, c.selects)),
        le-ltb 5000000 (counted weight_of (before ++ line ∷ [])) (omega (arith, c.weight)),
      )
      refl;
  tables = rw c.tables refl;
}
