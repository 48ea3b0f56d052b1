-- How many actions all blocks have together, with each repeat written out: an action weighs as much as 300 lines, and a
-- truncation as 20,000.
use Rattle.std.proofs.Common.{ℕ, zero, suc, ◌≡◌, ◌≤◌, ◌+◌, ◌-◌, ◌*◌, Bool, cond, false, true, List, [], ◌∷◌, ◌++◌, Option, Some, None, nat_lt, refl, ap, ◌∙◌, inl, inr, append-nil, append_assoc, arith}
use Rattle.std.specs.Prelude.{codes, option_map, option_and_then, unwrap_or, ◌||◌}
use Rattle.std.specs.List.{sum_by}
use Rattle.std.proofs.lemmas.Bool.Decides.{nat_tests}
use Rattle.std.proofs.lemmas.List.Sums.{sum_by-cons}
use Rattle.std.proofs.lemmas.Bool.{cases_Bool}
use Rattle.pfs_lemmas.proofs.Numbers.{plus_zero_first}
use Rattle.pfs_lemmas.proofs.Bools.{or_first, or_second}
use Rattle.pfs_classes.specs.declared.classes.ClassRef.{ClassRef}
use Rattle.pfs_play.specs.Errands.{actions_of, actions_on, errand_on, sql_errand}
use Rattle.pfs_play.specs.Errand.{Errand}
use Rattle.pfs_play.proofs.WrittenRepeats.{actions_then, actions_copies}
use Rattle.pfs_script.specs.declared.forms.Form.{Form}
use Rattle.pfs_script.specs.declared.forms.Form.TheVariants as form
use Rattle.pfs_script.specs.declared.blocks.Block.{Block}
use Rattle.pfs_script.specs.declared.blocks.BlockLine.{BlockLine}
use Rattle.pfs_script.specs.declared.blocks.BlockLine.TheVariants as said
use Rattle.pfs_script.specs.declared.blocks.Phase.{Phase}
use Rattle.pfs_script.specs.Marks.{Repeated, copies, written_from, written_out}
use Rattle.pfs_script.specs.LineCounts.{is_done, until_done, again, counted}
use Rattle.pfs_exec.specs.Requests.{request_of}
use Rattle.pfs_exec.specs.declared.requests.Request.{Request}
use Rattle.pfs_exec.specs.declared.requests.Request.TheVariants as requests
use Rattle.pfs_script.specs.CommandFronts.{begins_with}
use Rattle.pfs_script.specs.Reasons.{has_over, is_class, one_select, sql_weight, weight_of}
use Rattle.pfs_script.specs.Finds.{table_number, digest_place}
use Rattle.pfs_script.specs.Sessions.{is_phase, is_session, ends_block}
use Rattle.pfs_script.specs.Blocks.{Sense, sense_of, with_front, block_line, block_lines, blocks_of, phases_of}
use Rattle.pfs_script.specs.Scripts.{IsScript}
use Rattle.pfs_script.proofs.LinesBehind.{counted_none}
use Rattle.pfs_script.proofs.BlockNests.{Stand, stand_of}
use Rattle.pfs_law_script.specs.PlayableBlocks.{actions_among, actions_in, truncations_of, truncations_on, truncations_among, truncations_in, ActionsLaw}
use Rattle.pfs_law_script.proofs.BlockBodies.{first_said, stop_said, last_said}
use Rattle.pfs_law_script.proofs.OwnBlocks.{none_block, connected, resumed}
use Rattle.pfs_law_script.proofs.TruncationTexts.{truncation_weighs}
use Rattle.pfs_law_script.proofs.LineTotals.{NoRepeat, begins, ends, front_some, no_done, plain, times_more, until_other, with_one}

-- what an errand weighs by its action, and lines by theirs
abbrev heft_of : Errand → ℕ
heft_of errand = 300 * actions_of errand + 19700 * truncations_of errand

abbrev heft : List BlockLine → ℕ
heft lines = 300 * actions_on lines + 19700 * truncations_on lines

truncations_then : (xs ys : List BlockLine) → truncations_on (xs ++ ys) ≡ truncations_on xs + truncations_on ys
truncations_then [] ys = omega arith
truncations_then (x ∷ xs) ys = ap (λ n. truncations_of (errand_on x) + n) (truncations_then xs ys) ∙ omega arith

truncations_copies : (times : ℕ) (lines : List BlockLine) → truncations_on (copies times lines) ≡ times * truncations_on lines
unfolding copies
truncations_copies zero lines = omega arith
truncations_copies (suc times) lines = truncations_then lines (copies times lines) ∙ (ap (λ n. truncations_on lines + n) (truncations_copies times lines) ∙ omega arith)

heft_then : (xs ys : List BlockLine) → heft (xs ++ ys) ≡ heft xs + heft ys
heft_then xs ys = omega (arith, actions_then xs ys, truncations_then xs ys)

-- a line's action weighs no more than its form
abbrev IsLight : Option BlockLine → ℕ → Type 0
IsLight None weight = Unit {0}
IsLight (Some line) weight = heft_of (errand_on line) ≤ weight

least : (first second : Bool) → 300 ≤ cond first 10000 (cond second 20000 300)
least true second = omega arith
least false true = omega arith
least false false = omega arith

least_weight : (text : List ℕ) → 300 ≤ sql_weight text
least_weight text = least (begins_with (codes "select") text) (begins_with (codes "truncate") text)

request_light : (text : List ℕ) (request : Request) → request_of text ≡ request → heft_of (sql_errand request) ≤ sql_weight text
request_light text (requests.Truncate what) e = omega (arith, truncation_weighs text what e)
request_light text (requests.Update update) e = omega (arith, least_weight text)
request_light text (requests.Insert insert) e = omega (arith, least_weight text)
request_light text (requests.Delete delete) e = omega (arith, least_weight text)
request_light text (requests.Refused error) e = omega arith
request_light text (requests.Query select) e = omega arith
request_light text (requests.Show select) e = omega (arith, least_weight text)

sql_light : (text : List ℕ) → heft_of (sql_errand (request_of text)) ≤ sql_weight text
sql_light text = request_light text (request_of text) refl

light_class : (starts : ClassRef → BlockLine) (ref : Option ClassRef) (weight : ℕ) → ((one : ClassRef) → heft_of (errand_on (starts one)) ≤ weight) → IsLight (option_map starts ref) weight
light_class starts None weight h = tt
light_class starts (Some one) weight h = h one

light_table : (number : Option ℕ) (ref : Option ClassRef) → IsLight (option_and_then (λ one. option_map (said.TableWait one) number) ref) 8
light_table number None = tt
light_table None (Some one) = tt
light_table (Some number) (Some one) = omega arith

front_few : (one : Option BlockLine) (rest : List BlockLine) (weight : ℕ) → NoRepeat one → IsLight one weight
    → heft (written_from None (with_front one rest)) ≤ heft (written_from None rest) + weight
unfolding written_from
front_few None rest weight plain light = omega arith
front_few (Some (said.Repeat times)) rest weight plain light = absurd plain
front_few (Some line) rest weight plain light = omega (arith, light)

with_one_light : (one : Option BlockLine) (body : List BlockLine) (weight : ℕ) → IsLight one weight → heft (with_one one body) ≤ heft body + weight
with_one_light None body weight light = omega arith
with_one_light (Some line) body weight light = let both = heft_then body (line ∷ []) in omega (arith, both, light)

times_heft : (times actions truncations : ℕ)
    → 300 * (times * actions) + 19700 * (times * truncations) ≡ times * (300 * actions + 19700 * truncations)
times_heft zero actions truncations = omega arith
times_heft (suc times) actions truncations = let less = times_heft times actions truncations in omega (arith, less)

copied : (times : ℕ) (body : List BlockLine) → heft (copies times body) ≤ heft body + (times - 1) * heft body
copied zero body = let all = actions_copies 0 body in let cut = truncations_copies 0 body in omega (arith, all, cut)
copied (suc times) body =
    let all = actions_copies (suc times) body in
    let cut = truncations_copies (suc times) body in
    let each = times_heft times (actions_on body) (truncations_on body) in
    let less : suc times - 1 ≡ times = omega arith in
    rw less (omega (arith, all, cut, each))

-- so many times more than once, what a repeat's lines so far and those up to its `done` weigh
abbrev rounds : ℕ → ℕ → Option (List Form) → ℕ
rounds times body until = unwrap_or (option_map (λ (more : List Form). (times - 1) * (body + sum_by weight_of more)) until) 0

rounds_more : (times body heavier : ℕ) (line : Form) (until : Option (List Form)) → heavier ≤ body + weight_of line
    → rounds times heavier until ≤ rounds times body (option_map (λ more. line ∷ more) until)
rounds_more times body heavier line None h = omega arith
rounds_more times body heavier line (Some more) h =
    times_more (times - 1) (heavier + sum_by weight_of more) (body + sum_by weight_of (line ∷ more)) (omega (arith, h, sum_by-cons weight_of line more))

counted_first : (line : Form) (lines : List Form) → counted weight_of (line ∷ lines) ≡ weight_of line + again weight_of line lines + counted weight_of lines
unfolding counted
counted_first line lines = refl

again_rounds : (times : ℕ) (lines : List Form) (until : Option (List Form)) → until_done lines ≡ until → again weight_of (form.Repeat (Some times)) lines ≡ rounds times 0 until
again_rounds times lines None e = rw e refl
again_rounds times lines (Some more) e = rw e (ap (λ n. (times - 1) * n) (plus_zero_first (sum_by weight_of more)))

module _ (sense : Sense) where
  -- what the blocks that begin among lines, in this phase and in later ones, weigh by their actions
  abbrev ahead : List Form → ℕ
  ahead lines =
      300 * (actions_among (blocks_of sense lines) + actions_in (phases_of sense lines))
      + 19700 * (truncations_among (blocks_of sense lines) + truncations_in (phases_of sense lines))

  ahead_none : ahead [] ≡ 0
  unfolding blocks_of phases_of
  ahead_none = refl

  ahead_inside : (line : Form) (lines : List Form) → ends_block line ≡ false → ahead (line ∷ lines) ≡ ahead lines
  unfolding blocks_of phases_of
  ahead_inside line lines e =
      rw (
        or_first (is_phase line) (is_session line) e,
        none_block sense lines line (or_second (is_phase line) (is_session line) e),
      ) refl

  ahead_ends : (line : Form) (lines : List Form) → ends_block line ≡ true
      → ahead (line ∷ lines) ≤ heft (written_out (block_lines sense lines)) + ahead lines
  unfolding blocks_of phases_of
  ahead_ends form.Phase lines e =
      omega (
        arith,
        sum_by-cons (λ (phase : Phase). actions_among phase.blocks)
            (record { blocks = blocks_of sense lines }) (phases_of sense lines),
        sum_by-cons (λ (phase : Phase). truncations_among phase.blocks)
            (record { blocks = blocks_of sense lines }) (phases_of sense lines),
      )
  ahead_ends (form.Connect (Some session) user host) lines e =
      omega (
        arith,
        sum_by-cons (λ (block : Block). actions_on (written_out block.lines))
            (connected 0 sense session user host lines) (blocks_of sense lines),
        sum_by-cons (λ (block : Block). truncations_on (written_out block.lines))
            (connected 0 sense session user host lines) (blocks_of sense lines),
      )
  ahead_ends (form.Connect None user host) lines e = omega arith
  ahead_ends (form.Resume (Some session)) lines e =
      omega (
        arith,
        sum_by-cons (λ (block : Block). actions_on (written_out block.lines))
            (resumed 0 sense session lines) (blocks_of sense lines),
        sum_by-cons (λ (block : Block). truncations_on (written_out block.lines))
            (resumed 0 sense session lines) (blocks_of sense lines),
      )
  ahead_ends (form.Resume None) lines e = omega arith
  ahead_ends _ lines e = cc

  light : (line : Form) → IsLight (block_line sense line) (weight_of line)
  light (form.Wait class) = light_class said.Wait (sense.class class) 8 (λ one. omega arith)
  light (form.TableWait class schema name) = light_table (table_number sense.tables schema name) (sense.class class)
  light (form.Statement class words) =
      light_class (λ ref. said.Statement ref (digest_place sense.digests words)) (sense.class class) 8 (λ one. omega arith)
  light (form.Transaction access) = omega arith
  light (form.Stage class) = light_class said.Stage (sense.class class) 8 (λ one. omega arith)
  light form.StageEnd = omega arith
  light (form.Spend (Some time)) = omega arith
  light (form.Spend None) = tt
  light form.End = omega arith
  light (form.Sql words) = sql_light words
  light form.Quit = omega arith
  light (form.EndStatement numbers) = omega arith
  light (form.Repeat (Some times)) = omega arith
  light (form.Repeat None) = tt
  light form.Done = omega arith
  light _ = tt

  -- what the actions of the block so far weigh, written out behind the lines so far of a repeat that isn't done
  abbrev written : Option Repeated → List Form → ℕ
  written loop lines = heft (written_from loop (block_lines sense lines))

  abbrev most_of : Option Repeated → List Form → ℕ
  most_of None lines = counted weight_of lines
  most_of (Some loop) lines = heft loop.body + rounds loop.times (heft loop.body) (until_done lines) + counted weight_of lines

  abbrev Few : Option Repeated → List Form → Type 0
  Few loop lines = written loop lines + ahead lines ≤ most_of loop lines

  last_few : (loop : Option Repeated) → Few loop []
  unfolding written_from
  last_few None = rw (last_said sense, ahead_none) (omega arith)
  last_few (Some loop) = rw (last_said sense, ahead_none) (omega arith)

  stop_few : (loop : Option Repeated) (line : Form) (lines : List Form) → ends_block line ≡ true → Few None lines → Few loop (line ∷ lines)
  unfolding written_from
  stop_few None line lines e h = rw (stop_said sense line lines e) (omega (arith, h, ahead_ends line lines e, counted_first line lines))
  stop_few (Some loop) line lines e h = rw (stop_said sense line lines e) (omega (arith, h, ahead_ends line lines e, counted_first line lines))

  none_few : (line : Form) (lines : List Form) → ends_block line ≡ false → NoRepeat (block_line sense line) → Few None lines → Few None (line ∷ lines)
  none_few line lines e p h =
      let front = front_few (block_line sense line) (block_lines sense lines) (weight_of line) p (light line) in
      rw (first_said sense line lines e)
      (omega (arith, h, front, ahead_inside line lines e, counted_first line lines))

  repeat_few : (times : ℕ) (lines : List Form) → Few (Some (record { times = times; body = [] })) lines → Few None (form.Repeat (Some times) ∷ lines)
  repeat_few times lines h =
      let line = form.Repeat (Some times) in
      let rest : heft (written_from (Some (record { times = times; body = [] })) (block_lines sense lines))
      + ahead lines ≤ 0 + rounds times 0 (until_done lines) + counted weight_of lines = h in
      rw (first_said sense line lines refl, begins times (block_lines sense lines))
      (omega (
        arith,
        rest,
        ahead_inside line lines refl,
        counted_first line lines,
        again_rounds times lines (until_done lines) refl,
      ))

  done_few : (loop : Repeated) (lines : List Form) → Few None lines → Few (Some loop) (form.Done ∷ lines)
  done_few loop lines h =
      let joined = heft_then (copies loop.times loop.body) (written_from None (block_lines sense lines)) in
      let rounds_are : (loop.times - 1) * (heft loop.body + 0) ≡ (loop.times - 1) * heft loop.body =
      ap (λ n. (loop.times - 1) * n) (omega arith) in
      rw (first_said sense form.Done lines refl, ends loop (block_lines sense lines))
      (omega (
        arith,
        h,
        copied loop.times loop.body,
        joined,
        rounds_are,
        ahead_inside form.Done lines refl,
        counted_first form.Done lines,
      ))

  some_few : (loop : Repeated) (line : Form) (lines : List Form) → ends_block line ≡ false → is_done line ≡ false
      → ((body : List BlockLine) → Few (Some (record { times = loop.times; body = body })) lines)
      → Few (Some loop) (line ∷ lines)
  some_few loop line lines e d h =
      let body = with_one (block_line sense line) loop.body in
      let few = with_one_light (block_line sense line) loop.body (weight_of line) (light line) in
      let more = rounds_more loop.times (heft loop.body) (heft body) line (until_done lines) few in
      let rest : heft (written_from (Some (record { times = loop.times; body = body })) (block_lines sense lines))
      + ahead lines ≤ heft body + rounds loop.times (heft body) (until_done lines) + counted weight_of lines =
      h body in
      rw (
        first_said sense line lines e,
        front_some (block_line sense line) loop (block_lines sense lines) (no_done sense line d),
        until_other line lines d,
      )
      (omega (arith, rest, few, more, ahead_inside line lines e, counted_first line lines))

  few : (loop : Option Repeated) (lines : List Form) → Few loop lines
  few None [] = last_few None
  few (Some loop) [] = last_few (Some loop)
  few None (form.Repeat (Some times) ∷ lines) = repeat_few times lines (few (Some (record { times = times; body = [] })) lines)
  few None (line ∷ lines) =
      elim (cases_Bool (ends_block line)) [
        | inl e ↦ stop_few None line lines e (few None lines)
        | inr e ↦ none_few line lines e (plain sense line (λ times e. cc)) (few None lines)
      ]
  few (Some loop) (form.Done ∷ lines) = done_few loop lines (few None lines)
  few (Some loop) (line ∷ lines) =
      elim (cases_Bool (ends_block line)) [
        | inl e ↦ stop_few (Some loop) line lines e (few None lines)
        | inr e ↦ some_few loop line lines e refl (λ body. few (Some (record { times = loop.times; body = body })) lines)
      ]

-- the lines of a script weigh at most 5,000,000
weight_so : (number : ℕ) → nat_lt 5000000 number ≡ false → number ≤ 5000000
weight_so number h = grind (arith, nat_tests, h)

weight_behind : (before lines : List Form) → Stand before lines → counted weight_of before ≤ 5000000 → counted weight_of (before ++ lines) ≤ 5000000
weight_behind before [] s h = rw append-nil h
weight_behind before (line ∷ lines) s h =
    let now : List Form = before ++ line ∷ [] in
    let much = s.0.much in
    let third = or_second (nat_lt 256 (counted one_select now)) (nat_lt 5000000 (counted weight_of now))
    (or_second (has_over 256 is_class before line) (nat_lt 256 (counted one_select now) || nat_lt 5000000 (counted weight_of now))
    (or_second (has_over 64 is_phase before line) (has_over 256 is_class before line || (nat_lt 256 (counted one_select now) || nat_lt 5000000 (counted weight_of now))) much)) in
    rw append_assoc at (weight_behind now lines s.1 (weight_so (counted weight_of now) third))

weight_fits : (lines : List Form) → Stand [] lines → counted weight_of lines ≤ 5000000
weight_fits lines s = weight_behind [] lines s (omega (arith, counted_none weight_of))

pub actions : ActionsLaw
unfolding IsScript
actions text setting phases s =
    let lines = s.0 in
    let same = ap {B = ℕ} actions_in s.3 in
    let cut = ap {B = ℕ} truncations_in s.3 in
    omega (arith, same, cut, few (sense_of lines) None lines, weight_fits lines (stand_of [] s.1.0 lines s.1.2))
