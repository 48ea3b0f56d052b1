-- The running totals agree with what the lines come to.
use Rattle.std.proofs.Common.{ℕ, ◌≡◌, ◌≤◌, ◌<◌, ◌+◌, ◌-◌, ◌*◌, ◌^◌, Bool, false, true, ◌||◌, cond, List, [], ◌∷◌, ◌++◌, Option, refl, ap, sym, ◌∙◌, nat_lt, arith}
use Rattle.std.specs.Prelude.{count_by, min, if◌then◌else◌, codes}
use Rattle.std.proofs.lemmas.Bool.Decides.{nat_tests}
use Rattle.std.proofs.lemmas.Bool.{ltb-false}
use Rattle.pfs_script.specs.declared.forms.Form.{Form}
use Rattle.pfs_script.specs.declared.forms.Form.TheVariants as form
use Rattle.pfs_script.specs.declared.totals.Tally.{Tally}
use Rattle.pfs_script.specs.declared.totals.Totals.{Totals}
use Rattle.pfs_script.specs.LineCounts.{counted, is_done, is_repeat, is_in_repeat, once_more, more_times}
use Rattle.pfs_script.specs.CommandFronts.{begins_with}
use Rattle.pfs_script.specs.Reasons.{is_class, is_select, one_select, has_over, is_blockless, is_out_of_place, is_too_long, is_too_much, one_each, weight_of}
use Rattle.pfs_script.specs.Sessions.{is_phase}
use Rattle.pfs_script.specs.ReaderState.{KnowsTally, KnowsTotals, HasCounted, more_with, body_with}
use Rattle.pfs_script.proofs.LinesBehind.{counted_none, counted_with, count_more, more_none, more_more, more_done, pending_none, pending_more, pending_done, in_repeat-begun, in_repeat-same}

none_tally : (tally : Tally) (measure : Form → ℕ) (more : ℕ) → tally.total ≡ 0 → tally.body ≡ 0 → more ≡ 0 → KnowsTally tally measure more []
none_tally tally measure more t b m = record { total = t ∙ sym (counted_none measure); body = rw (b, m) (pending_none measure); low = omega arith }

pub none_knows : (totals : Totals) → totals.lines.total ≡ 0 → totals.lines.body ≡ 0 → totals.selects.total ≡ 0 → totals.selects.body ≡ 0 → totals.weight.total ≡ 0 → totals.weight.body ≡ 0
    → totals.phases ≡ 0 → totals.classes ≡ 0 → totals.more ≡ 0 → KnowsTotals totals []
none_knows totals l lb q qb w wb p c m = record {
  lines = none_tally totals.lines one_each totals.more l lb m;
  selects = none_tally totals.selects one_select totals.more q qb m;
  weight = none_tally totals.weight weight_of totals.more w wb m;
  phases = omega arith;
  classes = omega arith;
  few_lines = omega arith;
  few_selects = omega arith;
  low_weight = omega arith;
  few_phases = omega arith;
  few_classes = omega arith;
  more = m ∙ sym more_none;
  alone = λ h. m;
}

capped : (most number added : ℕ) → most < 2 ^ 64 - 1 → nat_lt most (min (number + min added (2 ^ 64 - 1)) (2 ^ 64 - 1)) ≡ nat_lt most (number + added)
capped most number added high = grind (arith, nat_tests, high)

exact : (most number added after : ℕ) → most < 2 ^ 64 - 1 → after ≡ min (number + min added (2 ^ 64 - 1)) (2 ^ 64 - 1) → nat_lt most (number + added) ≡ false → after ≡ number + added
exact most number added after high is few = grind (arith, nat_tests, high, is, few)

tally_with : (tally : Tally) (measure : Form → ℕ) (more : ℕ) (before : List Form) (line : Form) → KnowsTally tally measure more before
    → counted measure (before ++ line ∷ []) ≡ tally.total + (measure line + (if is_done line then more * tally.body else 0))
tally_with tally measure more before line k =
    counted_with measure before line (more * tally.body) k.body ∙ ap (λ n. n + (measure line + (if is_done line then more * tally.body else 0))) (sym k.total)

-- what a tally is behind one more line, by what its step says
pub record Stepped (tally after : Tally) (line : Form) (own more : ℕ) : Type 0 where
  pub total : after.total ≡ min (tally.total + min (own + (if is_done line then more * tally.body else 0)) (2 ^ 64 - 1)) (2 ^ 64 - 1)
  pub body : after.body ≡ min (body_with line own tally.body) (2 ^ 64 - 1)

tally_over : (tally after : Tally) (measure : Form → ℕ) (more most own : ℕ) (before : List Form) (line : Form) → KnowsTally tally measure more before → own ≡ measure line → most < 2 ^ 63 → Stepped tally after line own more
    → nat_lt most after.total ≡ nat_lt most (counted measure (before ++ line ∷ []))
tally_over tally after measure more most own before line k o high s =
    rw (s.total, o, tally_with tally measure more before line k) (capped most tally.total (measure line + (if is_done line then more * tally.body else 0)) (omega (arith, high)))

count_over : (test : Form → Bool) (most number after : ℕ) (before : List Form) (line : Form) → number ≡ count_by test before → after ≡ number + (if test line then 1 else 0) → nat_lt most after ≡ has_over most test before line
count_over test most number after before line k c = ap (nat_lt most) (omega (arith, count_more test before line, k, c))

or_alike : (a b c d p q r s : Bool) → a ≡ p → b ≡ q → c ≡ r → d ≡ s → (a || (b || (c || d))) ≡ (p || (q || (r || s)))
or_alike a b c d p q r s e f g h = rw (e, f, g, h) refl

both_false : (a b : Bool) → (a || b) ≡ false → (b ≡ false)
both_false true b h = cc
both_false false b h = h

first_false : (a b : Bool) → (a || b) ≡ false → (a ≡ false)
first_false true b h = cc
first_false false b h = refl

few_now : (test : Form → Bool) (most number after : ℕ) (before : List Form) (line : Form) → number ≡ count_by test before → after ≡ number + (if test line then 1 else 0) → has_over most test before line ≡ false → after ≤ most
few_now test most number after before line k c h =
    let few = ltb-false most (count_by test (before ++ line ∷ [])) h in
    omega (arith, few, count_more test before line, k, c)

small : (number after : ℕ) → number < 2 ^ 64 - 1 → after ≡ min number (2 ^ 64 - 1) → after ≡ number
small number after low is = omega (arith, is)

more_other : (line : Form) (more : ℕ) → is_repeat line ≡ false → is_done line ≡ false → more_with line more ≡ more
more_other (form.Repeat times) more r d = cc
more_other form.Done more r d = cc
more_other _ more r d = refl

body_other : (line : Form) (measure body : ℕ) → is_repeat line ≡ false → is_done line ≡ false → body_with line measure body ≡ body + measure
body_other (form.Repeat times) measure body r d = cc
body_other form.Done measure body r d = cc
body_other _ measure body r d = refl

once_other : (line : Form) → is_repeat line ≡ false → once_more line ≡ 0
once_other (form.Repeat times) r = cc
once_other _ r = refl

bodies : (more body added : ℕ) → more * body + more * added ≡ more * (body + added)
bodies more body added = grind arith

nothing : (more body added : ℕ) → more ≡ 0 → more * body + more * added ≡ 0
nothing more body added e = rw e (omega arith)

low_by : (a b : Bool) → cond {A = ℕ} a 10000 (cond {A = ℕ} b 20000 300) ≤ 20000
low_by true b = omega arith
low_by false true = omega arith
low_by false false = omega arith

low_weight_of : (line : Form) → weight_of line ≤ 20000
low_weight_of form.Phase = omega arith
low_weight_of (form.Connect session user host) = omega arith
low_weight_of (form.Sql text) = low_by (begins_with (codes "select") text) (begins_with (codes "truncate") text)
low_weight_of form.Quit = omega arith
low_weight_of (form.Wait class) = omega arith
low_weight_of (form.TableWait class schema name) = omega arith
low_weight_of (form.Statement class text) = omega arith
low_weight_of (form.Transaction access) = omega arith
low_weight_of (form.Stage class) = omega arith
low_weight_of form.StageEnd = omega arith
low_weight_of form.End = omega arith
low_weight_of (form.EndStatement numbers) = omega arith
low_weight_of _ = omega arith

low_one : (b : Bool) → cond {A = ℕ} b 1 0 ≤ 20000
low_one true = omega arith
low_one false = omega arith

low_select_of : (line : Form) → one_select line ≤ 20000
low_select_of line = low_one (is_select line)

module _ (tally after : Tally) (measure : Form → ℕ) (more most : ℕ) (before : List Form) where
  tally_total : (line : Form) (own : ℕ) → KnowsTally tally measure more before → own ≡ measure line → most < 10000000 → nat_lt most (counted measure (before ++ line ∷ [])) ≡ false → Stepped tally after line own more
      → after.total ≡ tally.total + (measure line + (if is_done line then more * tally.body else 0))
  tally_total line own k o high few s =
      exact most tally.total (measure line + (if is_done line then more * tally.body else 0)) after.total (omega (arith, high)) (rw o at s.total) (rw (tally_with tally measure more before line k) at few)

  tally_other : (line : Form) (own : ℕ) → KnowsTally tally measure more before → own ≡ measure line → measure line ≤ 20000 → most < 10000000 → tally.total ≤ most → nat_lt most (counted measure (before ++ line ∷ [])) ≡ false
      → Stepped tally after line own more → more ≡ more_times before → is_repeat line ≡ false → is_done line ≡ false → KnowsTally after measure (more_with line more) (before ++ line ∷ [])
  tally_other line own k o low high under few s m r d =
      let e = tally_total line own k o high few s in
      let body : after.body ≡ tally.body + measure line = small (tally.body + measure line) after.body (omega (arith, k.low, low, high, under)) (rw o at (s.body ∙ ap (λ n. min n (2 ^ 64 - 1)) (body_other line own tally.body r d))) in
      record {
        total = e ∙ sym (tally_with tally measure more before line k);
        body = rw (more_other line more r d, pending_more measure before line d, k.body, sym m, body) (bodies more tally.body (measure line));
        low = omega (arith, e, body, k.low);
      }

  tally_done : (own : ℕ) → KnowsTally tally measure more before → own ≡ measure form.Done → most < 10000000 → nat_lt most (counted measure (before ++ form.Done ∷ [])) ≡ false → Stepped tally after form.Done own more
      → KnowsTally after measure 0 (before ++ form.Done ∷ [])
  tally_done own k o high few s =
      let body : after.body ≡ 0 = omega (arith, s.body) in
      record {
        total = tally_total form.Done own k o high few s ∙ sym (tally_with tally measure more before form.Done k);
        body = rw (pending_done measure before) (omega arith);
        low = omega (arith, body);
      }

  tally_repeat : (times : Option ℕ) (own : ℕ) → KnowsTally tally measure more before → own ≡ measure (form.Repeat times) → most < 10000000 → nat_lt most (counted measure (before ++ form.Repeat times ∷ [])) ≡ false
      → Stepped tally after (form.Repeat times) own more → more ≡ more_times before → more ≡ 0 → KnowsTally after measure (once_more (form.Repeat times)) (before ++ form.Repeat times ∷ [])
  tally_repeat times own k o high few s m none =
      let line = form.Repeat times in
      let body : after.body ≡ 0 = omega (arith, s.body) in
      record {
        total = tally_total line own k o high few s ∙ sym (tally_with tally measure more before line k);
        body = rw (pending_more measure before line refl, k.body, sym m, body) (nothing more tally.body (measure line) none ∙ omega arith);
        low = omega (arith, body);
      }

  pub tally_more : (line : Form) (own : ℕ) → KnowsTally tally measure more before → own ≡ measure line → measure line ≤ 20000 → most < 10000000 → tally.total ≤ most → nat_lt most (counted measure (before ++ line ∷ [])) ≡ false
      → Stepped tally after line own more → more ≡ more_times before → (is_in_repeat before ≡ false → more ≡ 0) → is_out_of_place before line ≡ false → KnowsTally after measure (more_with line more) (before ++ line ∷ [])
  tally_more (form.Repeat times) own k o low high under few s m alone out = tally_repeat times own k o high few s m (alone (both_false (is_blockless before) (is_in_repeat before) out))
  tally_more form.Done own k o low high under few s m alone out = tally_done own k o high few s
  tally_more line own k o low high under few s m alone out = tally_other line own k o low high under few s m refl refl

more_is : (more : ℕ) (before : List Form) (line : Form) → more ≡ more_times before → (is_in_repeat before ≡ false → more ≡ 0) → is_out_of_place before line ≡ false → more_with line more ≡ more_times (before ++ line ∷ [])
more_is more before (form.Repeat times) m alone out =
    let none : more ≡ 0 = alone (both_false (is_blockless before) (is_in_repeat before) out) in
    sym (more_more before (form.Repeat times) refl ∙ omega (arith, m, none))
more_is more before form.Done m alone out = sym (more_done before)
more_is more before line m alone out = m ∙ sym (more_more before line refl ∙ omega (arith, once_other line refl))

alone_is : (more : ℕ) (before : List Form) (line : Form) → (is_in_repeat before ≡ false → more ≡ 0) → is_in_repeat (before ++ line ∷ []) ≡ false → more_with line more ≡ 0
alone_is more before (form.Repeat times) alone h = absurd (let q = in_repeat-begun before (form.Repeat times) refl in cc)
alone_is more before form.Done alone h = refl
alone_is more before line alone h = alone (sym (in_repeat-same before line refl refl) ∙ h)

-- what the reader keeps behind one more line, by what its steps say
pub record Passed (totals after : Totals) (line : Form) (selects weight : ℕ) : Type 0 where
  pub lines : Stepped totals.lines after.lines line 1 totals.more
  pub selects_are : selects ≡ one_select line
  pub selected : Stepped totals.selects after.selects line selects totals.more
  pub weight_is : weight ≡ weight_of line
  pub weighed : Stepped totals.weight after.weight line weight totals.more
  pub phases : after.phases ≡ totals.phases + (if is_phase line then 1 else 0)
  pub classes : after.classes ≡ totals.classes + (if is_class line then 1 else 0)
  pub more : after.more ≡ more_with line totals.more

totals_more : (totals after : Totals) (before : List Form) (line : Form) (selects weight : ℕ) → KnowsTotals totals before → is_out_of_place before line ≡ false → is_too_long before line ≡ false → is_too_much before line ≡ false
    → Passed totals after line selects weight → KnowsTotals after (before ++ line ∷ [])
totals_more totals after before line selects weight k out long much p =
    let over_phases = has_over 64 is_phase before line in
    let over_classes = has_over 256 is_class before line in
    let over_selects = nat_lt 256 (counted one_select (before ++ line ∷ [])) in
    let over_weight = nat_lt 5000000 (counted weight_of (before ++ line ∷ [])) in
    let phases = first_false over_phases (over_classes || (over_selects || over_weight)) much in
    let rest = both_false over_phases (over_classes || (over_selects || over_weight)) much in
    let classes = first_false over_classes (over_selects || over_weight) rest in
    let last = both_false over_classes (over_selects || over_weight) rest in
    let selected = first_false over_selects over_weight last in
    let heavy = both_false over_selects over_weight last in
    let lines = tally_more totals.lines after.lines one_each totals.more 200000 before line 1 k.lines refl (omega arith) (omega arith) k.few_lines long p.lines k.more k.alone out in
    let chosen = tally_more totals.selects after.selects one_select totals.more 256 before line selects k.selects p.selects_are (low_select_of line) (omega arith) k.few_selects selected p.selected k.more k.alone out in
    let weighed = tally_more totals.weight after.weight weight_of totals.more 5000000 before line weight k.weight p.weight_is (low_weight_of line) (omega arith) k.low_weight heavy p.weighed k.more k.alone out in
    record {
      lines = rw p.more lines;
      selects = rw p.more chosen;
      weight = rw p.more weighed;
      phases = omega (arith, count_more is_phase before line, k.phases, p.phases);
      classes = omega (arith, count_more is_class before line, k.classes, p.classes);
      few_lines = rw lines.total (ltb-false 200000 _ long);
      few_selects = rw chosen.total (ltb-false 256 _ selected);
      low_weight = rw weighed.total (ltb-false 5000000 _ heavy);
      few_phases = few_now is_phase 64 totals.phases after.phases before line k.phases p.phases phases;
      few_classes = few_now is_class 256 totals.classes after.classes before line k.classes p.classes classes;
      more = p.more ∙ more_is totals.more before line k.more k.alone out;
      alone = λ h. p.more ∙ alone_is totals.more before line k.alone h;
    }

pub totals_counted : (totals after : Totals) (before : List Form) (line : Form) (selects weight : ℕ) → KnowsTotals totals before → Passed totals after line selects weight → HasCounted after before line
totals_counted totals after before line selects weight k p = record {
  long = tally_over totals.lines after.lines one_each totals.more 200000 1 before line k.lines refl (omega arith) p.lines;
  much = or_alike (nat_lt 64 after.phases) (nat_lt 256 after.classes) (nat_lt 256 after.selects.total) (nat_lt 5000000 after.weight.total) _ _ _ _
      (count_over is_phase 64 totals.phases after.phases before line k.phases p.phases) (count_over is_class 256 totals.classes after.classes before line k.classes p.classes)
      (tally_over totals.selects after.selects one_select totals.more 256 selects before line k.selects p.selects_are (omega arith) p.selected) (tally_over totals.weight after.weight weight_of totals.more 5000000 weight before line k.weight p.weight_is (omega arith) p.weighed);
  knows = λ out long much. totals_more totals after before line selects weight k out long much p;
}
