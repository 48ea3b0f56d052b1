-- How long the lines of a block are with each repeat written out.
use Rattle.std.proofs.Common.{ℕ, zero, suc, ◌≡◌, ◌≤◌, ◌+◌, ◌-◌, ◌*◌, true, false, List, [], ◌∷◌, ◌++◌, Option, Some, None, refl, ap, length, length-append, ◌⊎◌, inl, inr, arith}
use Rattle.std.specs.Prelude.{option_map, option_and_then, unwrap_or}
use Rattle.std.specs.List.{sum_by}
use Rattle.std.proofs.lemmas.List.Sums.{sum_by-cons}
use Rattle.std.proofs.lemmas.Bool.{cases_Bool}
use Rattle.pfs_lemmas.proofs.Numbers.{plus_zero_first}
use Rattle.pfs_classes.specs.declared.classes.ClassRef.{ClassRef}
use Rattle.pfs_script.specs.declared.forms.Form.{Form}
use Rattle.pfs_script.specs.declared.forms.Form.TheVariants as form
use Rattle.pfs_script.specs.declared.blocks.BlockLine.{BlockLine}
use Rattle.pfs_script.specs.declared.blocks.BlockLine.TheVariants as said
use Rattle.pfs_script.specs.Marks.{Repeated, copies, written_from, written_out}
use Rattle.pfs_script.specs.LineCounts.{is_done, until_done, again, counted}
use Rattle.pfs_script.specs.Reasons.{one_each}
use Rattle.pfs_script.specs.Finds.{table_number, digest_place}
use Rattle.pfs_script.specs.Sessions.{ends_block}
use Rattle.pfs_script.specs.Blocks.{Sense, with_front, block_line, block_lines}

abbrev IsNoRepeat : BlockLine → Type 0
IsNoRepeat (said.Wait class) = Unit {0}
IsNoRepeat (said.TableWait class table) = Unit {0}
IsNoRepeat (said.Statement class digest) = Unit {0}
IsNoRepeat (said.Transaction access) = Unit {0}
IsNoRepeat (said.Stage class) = Unit {0}
IsNoRepeat said.StageEnd = Unit {0}
IsNoRepeat (said.Spend time) = Unit {0}
IsNoRepeat (said.Sql text) = Unit {0}
IsNoRepeat said.Quit = Unit {0}
IsNoRepeat said.End = Unit {0}
IsNoRepeat (said.EndStatement numbers) = Unit {0}
IsNoRepeat said.Done = Unit {0}
IsNoRepeat (said.Repeat times) = ⊥

abbrev IsNoDone : BlockLine → Type 0
IsNoDone (said.Wait class) = Unit {0}
IsNoDone (said.TableWait class table) = Unit {0}
IsNoDone (said.Statement class digest) = Unit {0}
IsNoDone (said.Transaction access) = Unit {0}
IsNoDone (said.Stage class) = Unit {0}
IsNoDone said.StageEnd = Unit {0}
IsNoDone (said.Spend time) = Unit {0}
IsNoDone (said.Sql text) = Unit {0}
IsNoDone said.Quit = Unit {0}
IsNoDone said.End = Unit {0}
IsNoDone (said.EndStatement numbers) = Unit {0}
IsNoDone (said.Repeat times) = Unit {0}
IsNoDone said.Done = ⊥

plain_none : (line : BlockLine) (rest : List BlockLine) → IsNoRepeat line → written_from None (line ∷ rest) ≡ line ∷ written_from None rest
unfolding written_from
plain_none (said.Wait class) rest plain = refl
plain_none (said.TableWait class table) rest plain = refl
plain_none (said.Statement class digest) rest plain = refl
plain_none (said.Transaction access) rest plain = refl
plain_none (said.Stage class) rest plain = refl
plain_none said.StageEnd rest plain = refl
plain_none (said.Spend time) rest plain = refl
plain_none (said.Sql text) rest plain = refl
plain_none said.Quit rest plain = refl
plain_none said.End rest plain = refl
plain_none (said.EndStatement numbers) rest plain = refl
plain_none said.Done rest plain = refl
plain_none (said.Repeat times) rest plain = absurd plain

plain_some : (loop : Repeated) (line : BlockLine) (rest : List BlockLine) → IsNoDone line → written_from (Some loop) (line ∷ rest) ≡ written_from (Some (record { times = loop.times; body = loop.body ++ line ∷ [] })) rest
unfolding written_from
plain_some loop (said.Wait class) rest plain = refl
plain_some loop (said.TableWait class table) rest plain = refl
plain_some loop (said.Statement class digest) rest plain = refl
plain_some loop (said.Transaction access) rest plain = refl
plain_some loop (said.Stage class) rest plain = refl
plain_some loop said.StageEnd rest plain = refl
plain_some loop (said.Spend time) rest plain = refl
plain_some loop (said.Sql text) rest plain = refl
plain_some loop said.Quit rest plain = refl
plain_some loop said.End rest plain = refl
plain_some loop (said.EndStatement numbers) rest plain = refl
plain_some loop (said.Repeat times) rest plain = refl
plain_some loop said.Done rest plain = absurd plain

begins : (times : ℕ) (rest : List BlockLine) → written_from None (said.Repeat times ∷ rest) ≡ written_from (Some (record { times = times; body = [] })) rest
unfolding written_from
begins times rest = refl

ends : (loop : Repeated) (rest : List BlockLine) → written_from (Some loop) (said.Done ∷ rest) ≡ copies loop.times loop.body ++ written_from None rest
unfolding written_from
ends loop rest = refl

nothing : written_from None [] ≡ []
unfolding written_from
nothing = refl

nothing_more : (loop : Repeated) → written_from (Some loop) [] ≡ loop.body
unfolding written_from
nothing_more loop = refl

copy_more : (times body rest : ℕ) → rest ≤ body + (suc times - 1) * body → body + rest ≤ body + (suc (suc times) - 1) * body
copy_more times body rest h = grind (arith, h)

copied : (times : ℕ) (body : List BlockLine) → length (copies times body) ≤ length body + (times - 1) * length body
unfolding copies
copied zero body = omega arith
copied (suc zero) body = omega (arith, length-append body [])
copied (suc (suc times)) body =
    let rest = copied (suc times) body in
    rw (length-append body (copies (suc times) body)) (copy_more times (length body) (length (copies (suc times) body)) rest)

-- one line of a block in front, or none

abbrev NoRepeat : Option BlockLine → Type 0
NoRepeat None = Unit {0}
NoRepeat (Some line) = IsNoRepeat line

abbrev NoDone : Option BlockLine → Type 0
NoDone None = Unit {0}
NoDone (Some line) = IsNoDone line

front_none : (one : Option BlockLine) (rest : List BlockLine) (most : ℕ) → NoRepeat one → length (written_from None rest) ≤ most → length (written_from None (with_front one rest)) ≤ most + 1
front_none None rest most plain h = omega (arith, h)
front_none (Some line) rest most plain h = rw (plain_none line rest plain) (omega (arith, h))

-- so many times more than once, a repeat's lines so far and those up to its `done`
abbrev rounds : ℕ → ℕ → Option (List Form) → ℕ
rounds times body until = unwrap_or (option_map (λ (more : List Form). (times - 1) * (body + length more)) until) 0

front_some : (one : Option BlockLine) (loop : Repeated) (rest : List BlockLine) (most : ℕ) → NoDone one
    → ((body : List BlockLine) → length body ≤ length loop.body + 1 → length (written_from (Some (record { times = loop.times; body = body })) rest) ≤ most) → length (written_from (Some loop) (with_front one rest)) ≤ most
front_some None loop rest most plain h = h loop.body (omega arith)
front_some (Some line) loop rest most plain h = rw (plain_some loop line rest plain) (h (loop.body ++ line ∷ []) (omega (arith, length-append loop.body (line ∷ []))))

times_more : (times a b : ℕ) → a ≤ b → times * a ≤ times * b
times_more times a b h = grind (arith, h)

rounds_more : (times body longer : ℕ) (line : Form) (until : Option (List Form)) → longer ≤ body + 1 → rounds times longer until ≤ rounds times body (option_map (λ more. line ∷ more) until)
rounds_more times body longer line None h = omega arith
rounds_more times body longer line (Some more) h = times_more (times - 1) (longer + length more) (body + suc (length more)) (omega (arith, h))

none_map : (starts : ClassRef → BlockLine) (ref : Option ClassRef) → ((one : ClassRef) → IsNoRepeat (starts one)) → NoRepeat (option_map starts ref)
none_map starts None h = tt
none_map starts (Some one) h = h one

some_map : (starts : ClassRef → BlockLine) (ref : Option ClassRef) → ((one : ClassRef) → IsNoDone (starts one)) → NoDone (option_map starts ref)
some_map starts None h = tt
some_map starts (Some one) h = h one

none_both : (starts : ClassRef → ℕ → BlockLine) (number : Option ℕ) (ref : Option ClassRef) → ((one : ClassRef) (number : ℕ) → IsNoRepeat (starts one number)) → NoRepeat (option_and_then (λ one. option_map (starts one) number) ref)
none_both starts number None h = tt
none_both starts None (Some one) h = tt
none_both starts (Some number) (Some one) h = h one number

some_both : (starts : ClassRef → ℕ → BlockLine) (number : Option ℕ) (ref : Option ClassRef) → ((one : ClassRef) (number : ℕ) → IsNoDone (starts one number)) → NoDone (option_and_then (λ one. option_map (starts one) number) ref)
some_both starts number None h = tt
some_both starts None (Some one) h = tt
some_both starts (Some number) (Some one) h = h one number

counted_first : (line : Form) (lines : List Form) → counted one_each (line ∷ lines) ≡ 1 + again one_each line lines + counted one_each lines
unfolding counted
counted_first line lines = refl

-- each line counts once at least
pub length_counted : (lines : List Form) → length lines ≤ counted one_each lines
length_counted [] = omega arith
length_counted (line ∷ lines) = omega (arith, length_counted lines, counted_first line lines)

sum_ones : (lines : List Form) → sum_by one_each lines ≡ length lines
sum_ones [] = refl
sum_ones (line ∷ lines) = omega (arith, sum_by-cons one_each line lines, sum_ones lines)

again_rounds : (times : ℕ) (lines : List Form) (until : Option (List Form)) → until_done lines ≡ until → again one_each (form.Repeat (Some times)) lines ≡ rounds times 0 until
again_rounds times lines None e = rw e refl
again_rounds times lines (Some more) e = rw e (rw (sum_ones more) (ap (λ n. (times - 1) * n) (plus_zero_first (length more))))

until_other : (line : Form) (lines : List Form) → is_done line ≡ false → until_done (line ∷ lines) ≡ option_map (λ more. line ∷ more) (until_done lines)
until_other line lines d = rw d refl

module _ (sense : Sense) where
  first_said : (line : Form) (lines : List Form) → ends_block line ≡ false → block_lines sense (line ∷ lines) ≡ with_front (block_line sense line) (block_lines sense lines)
  unfolding block_lines
  first_said line lines n = rw n refl

  stop_said : (line : Form) (lines : List Form) → ends_block line ≡ true → block_lines sense (line ∷ lines) ≡ []
  unfolding block_lines
  stop_said line lines n = rw n refl

  last_said : block_lines sense [] ≡ []
  unfolding block_lines
  last_said = refl

  -- the lines, written out behind the lines so far of a repeat that isn't done
  abbrev written : Option Repeated → List Form → ℕ
  written loop lines = length (written_from loop (block_lines sense lines))

  abbrev most_of : Option Repeated → List Form → ℕ
  most_of None lines = counted one_each lines
  most_of (Some loop) lines = length loop.body + rounds loop.times (length loop.body) (until_done lines) + counted one_each lines

  no_repeat : (line : Form) → ((times : ℕ) → line ≡ form.Repeat (Some times) → ⊥) → NoRepeat (block_line sense line)
  no_repeat (form.Wait class) h = none_map said.Wait (sense.class class) (λ one. tt)
  no_repeat (form.TableWait class schema name) h = none_both said.TableWait (table_number sense.tables schema name) (sense.class class) (λ one number. tt)
  no_repeat (form.Statement class text) h = none_map (λ ref. said.Statement ref (digest_place sense.digests text)) (sense.class class) (λ one. tt)
  no_repeat (form.Stage class) h = none_map said.Stage (sense.class class) (λ one. tt)
  no_repeat (form.Spend (Some time)) h = tt
  no_repeat (form.Spend None) h = tt
  no_repeat (form.Repeat (Some times)) h = absurd (h times refl)
  no_repeat (form.Repeat None) h = tt
  no_repeat _ h = tt

  no_done : (line : Form) → is_done line ≡ false → NoDone (block_line sense line)
  no_done (form.Wait class) h = some_map said.Wait (sense.class class) (λ one. tt)
  no_done (form.TableWait class schema name) h = some_both said.TableWait (table_number sense.tables schema name) (sense.class class) (λ one number. tt)
  no_done (form.Statement class text) h = some_map (λ ref. said.Statement ref (digest_place sense.digests text)) (sense.class class) (λ one. tt)
  no_done (form.Stage class) h = some_map said.Stage (sense.class class) (λ one. tt)
  no_done (form.Spend (Some time)) h = tt
  no_done (form.Spend None) h = tt
  no_done (form.Repeat (Some times)) h = tt
  no_done (form.Repeat None) h = tt
  no_done form.Done h = cc
  no_done _ h = tt

  -- a step outside of a repeat
  none_step : (line : Form) (lines : List Form) → ends_block line ≡ false → NoRepeat (block_line sense line) → written None lines ≤ counted one_each lines → written None (line ∷ lines) ≤ counted one_each (line ∷ lines)
  none_step line lines n plain h =
      let step = front_none (block_line sense line) (block_lines sense lines) (counted one_each lines) plain h in
      rw (first_said line lines n, counted_first line lines) (omega (arith, step))

  repeat_step : (times : ℕ) (lines : List Form) → written (Some (record { times = times; body = [] })) lines ≤ most_of (Some (record { times = times; body = [] })) lines
      → written None (form.Repeat (Some times) ∷ lines) ≤ counted one_each (form.Repeat (Some times) ∷ lines)
  repeat_step times lines h =
      let rest : length (written_from (Some (record { times = times; body = [] })) (block_lines sense lines)) ≤ 0 + rounds times 0 (until_done lines) + counted one_each lines = h in
      rw (first_said (form.Repeat (Some times)) lines refl, begins times (block_lines sense lines), counted_first (form.Repeat (Some times)) lines, again_rounds times lines (until_done lines) refl) (omega (arith, rest))

  -- a step inside of one
  done_step : (loop : Repeated) (lines : List Form) → written None lines ≤ counted one_each lines → written (Some loop) (form.Done ∷ lines) ≤ most_of (Some loop) (form.Done ∷ lines)
  done_step loop lines h =
      let copies_short = copied loop.times loop.body in
      let joined = length-append (copies loop.times loop.body) (written_from None (block_lines sense lines)) in
      let rounds_are : (loop.times - 1) * (length loop.body + 0) ≡ (loop.times - 1) * length loop.body = ap (λ n. (loop.times - 1) * n) (omega arith) in
      rw (first_said form.Done lines refl, ends loop (block_lines sense lines), counted_first form.Done lines) (omega (arith, copies_short, joined, rounds_are, h))

  some_step : (loop : Repeated) (line : Form) (lines : List Form) → ends_block line ≡ false → is_done line ≡ false
      → ((body : List BlockLine) → written (Some (record { times = loop.times; body = body })) lines ≤ most_of (Some (record { times = loop.times; body = body })) lines)
      → written (Some loop) (line ∷ lines) ≤ most_of (Some loop) (line ∷ lines)
  some_step loop line lines n d h =
      let most = length loop.body + rounds loop.times (length loop.body) (option_map (λ more. line ∷ more) (until_done lines)) + (1 + counted one_each lines) in
      let each : (body : List BlockLine) → length body ≤ length loop.body + 1 → length (written_from (Some (record { times = loop.times; body = body })) (block_lines sense lines)) ≤ most = λ body short. (
      let more = rounds_more loop.times (length loop.body) (length body) line (until_done lines) short in
      let rest : length (written_from (Some (record { times = loop.times; body = body })) (block_lines sense lines)) ≤ length body + rounds loop.times (length body) (until_done lines) + counted one_each lines = h body in
      omega (arith, more, rest, short)) in
      let step = front_some (block_line sense line) loop (block_lines sense lines) most (no_done line d) each in
      rw (first_said line lines n, until_other line lines d, counted_first line lines) (omega (arith, step))

  stop_step : (loop : Option Repeated) (line : Form) (lines : List Form) → ends_block line ≡ true → written loop (line ∷ lines) ≤ most_of loop (line ∷ lines)
  stop_step None line lines n = rw (stop_said line lines n, nothing) (omega arith)
  stop_step (Some loop) line lines n = rw (stop_said line lines n, nothing_more loop) (omega arith)

  short : (loop : Option Repeated) (lines : List Form) → written loop lines ≤ most_of loop lines
  short None [] = rw (last_said, nothing) (omega arith)
  short (Some loop) [] = rw (last_said, nothing_more loop) (omega arith)
  short None (form.Repeat (Some times) ∷ lines) = repeat_step times lines (short (Some (record { times = times; body = [] })) lines)
  short None (line ∷ lines) =
      elim (cases_Bool (ends_block line)) [
        | inl n ↦ stop_step None line lines n
        | inr n ↦ none_step line lines n (no_repeat line (λ times e. cc)) (short None lines)
      ]
  short (Some loop) (form.Done ∷ lines) = done_step loop lines (short None lines)
  short (Some loop) (line ∷ lines) =
      elim (cases_Bool (ends_block line)) [
        | inl n ↦ stop_step (Some loop) line lines n
        | inr n ↦ some_step loop line lines n refl (λ body. short (Some (record { times = loop.times; body = body })) lines)
      ]

  behind_short : (before lines : List Form) → counted one_each lines ≤ counted one_each (before ++ lines)
  behind_short [] lines = omega arith
  behind_short (line ∷ before) lines = rw (counted_first line (before ++ lines)) (omega (arith, behind_short before lines))

  -- what the lines of a block come to is no more than what all lines do
  pub written_short : (all before lines : List Form) → all ≡ before ++ lines → counted one_each all ≤ 200000 → length (written_out (block_lines sense lines)) ≤ 200000
  written_short all before lines e few =
      let total : counted one_each all ≡ counted one_each (before ++ lines) = ap (counted one_each) e in
      omega (arith, short None lines, behind_short before lines, total, few)
