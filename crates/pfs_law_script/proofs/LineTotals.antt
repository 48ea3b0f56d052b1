-- How many lines all blocks have together, with each repeat written out.
use Rattle.std.proofs.Common.{ℕ, zero, suc, ◌≡◌, ◌≤◌, ◌+◌, ◌-◌, ◌*◌, true, false, List, [], ◌∷◌, ◌++◌, Option, Some, None, refl, ap, length, length-append, inl, inr, arith}
use Rattle.std.specs.Prelude.{option_map, option_and_then, unwrap_or}
use Rattle.std.specs.List.{sum_by}
use Rattle.std.proofs.lemmas.List.Sums.{sum_by-cons}
use Rattle.std.proofs.lemmas.Bool.{cases_Bool}
use Rattle.pfs_lemmas.proofs.Numbers.{plus_zero_first}
use Rattle.pfs_lemmas.proofs.Bools.{or_first, or_second}
use Rattle.pfs_classes.specs.declared.classes.ClassRef.{ClassRef}
use Rattle.pfs_script.specs.declared.forms.Form.{Form}
use Rattle.pfs_script.specs.declared.forms.Form.TheVariants as form
use Rattle.pfs_script.specs.declared.blocks.Block.{Block}
use Rattle.pfs_script.specs.declared.blocks.BlockLine.{BlockLine}
use Rattle.pfs_script.specs.declared.blocks.BlockLine.TheVariants as said
use Rattle.pfs_script.specs.declared.blocks.Phase.{Phase}
use Rattle.pfs_script.specs.Marks.{Repeated, copies, written_from, written_out}
use Rattle.pfs_script.specs.LineCounts.{is_done, until_done, again, counted}
use Rattle.pfs_script.specs.Reasons.{one_each}
use Rattle.pfs_script.specs.Finds.{table_number, digest_place}
use Rattle.pfs_script.specs.Sessions.{is_phase, is_session, ends_block}
use Rattle.pfs_script.specs.Blocks.{Sense, sense_of, with_front, block_line, block_lines, blocks_of, phases_of}
use Rattle.pfs_script.specs.Scripts.{IsScript}
use Rattle.pfs_script.proofs.BlockNests.{stand_of}
use Rattle.pfs_law_script.specs.PlayableBlocks.{written_among, written_in, TotalLaw}
use Rattle.pfs_law_script.proofs.BlockBodies.{first_said, stop_said, last_said}
use Rattle.pfs_law_script.proofs.LineBounds.{few_lines}
use Rattle.pfs_law_script.proofs.OwnBlocks.{none_block, connected, resumed}

-- what stands in front of a line that is no repeat, and of one that ends none

abbrev pub NoRepeat : Option BlockLine → Type 0
NoRepeat (Some (said.Repeat times)) = ⊥
NoRepeat _ = Unit {0}

abbrev pub NoDone : Option BlockLine → Type 0
NoDone (Some said.Done) = ⊥
NoDone _ = Unit {0}

front_none : (one : Option BlockLine) (rest : List BlockLine) → NoRepeat one
    → length (written_from None (with_front one rest)) ≤ length (written_from None rest) + 1
unfolding written_from
front_none None rest plain = omega arith
front_none (Some (said.Repeat times)) rest plain = absurd plain
front_none (Some line) rest plain = omega arith

-- so many times more than once, a repeat's lines so far and those up to its `done`
abbrev rounds : ℕ → ℕ → Option (List Form) → ℕ
rounds times body until =
    unwrap_or (option_map (λ (more : List Form). (times - 1) * (body + length more)) until) 0

-- the lines of a repeat so far, with this one or without
abbrev pub with_one : Option BlockLine → List BlockLine → List BlockLine
with_one None body = body
with_one (Some line) body = body ++ line ∷ []

pub front_some : (one : Option BlockLine) (loop : Repeated) (rest : List BlockLine) → NoDone one
    → written_from (Some loop) (with_front one rest)
    ≡ written_from (Some (record { times = loop.times; body = with_one one loop.body })) rest
unfolding written_from
front_some None loop rest plain = refl
front_some (Some said.Done) loop rest plain = absurd plain
front_some (Some line) loop rest plain = refl

with_one_few : (one : Option BlockLine) (body : List BlockLine) → length (with_one one body) ≤ length body + 1
with_one_few None body = omega arith
with_one_few (Some line) body = omega (arith, length-append body (line ∷ []))

copy_more : (times body rest : ℕ) → rest ≤ body + (suc times - 1) * body
    → body + rest ≤ body + (suc (suc times) - 1) * body
copy_more times body rest h = grind (arith, h)

copied : (times : ℕ) (body : List BlockLine) → length (copies times body) ≤ length body + (times - 1) * length body
unfolding copies
copied zero body = omega arith
copied (suc zero) body = omega (arith, length-append body [])
copied (suc (suc times)) body =
    let rest = copied (suc times) body in
    rw (length-append body (copies (suc times) body))
    (copy_more times (length body) (length (copies (suc times) body)) rest)

pub times_more : (times a b : ℕ) → a ≤ b → times * a ≤ times * b
times_more times a b h = grind (arith, h)

rounds_more : (times body longer : ℕ) (line : Form) (until : Option (List Form)) → longer ≤ body + 1
    → rounds times longer until ≤ rounds times body (option_map (λ more. line ∷ more) until)
rounds_more times body longer line None h = omega arith
rounds_more times body longer line (Some more) h =
    times_more (times - 1) (longer + length more) (body + suc (length more)) (omega (arith, h))

pub counted_first : (line : Form) (lines : List Form)
    → counted one_each (line ∷ lines) ≡ 1 + again one_each line lines + counted one_each lines
unfolding counted
counted_first line lines = refl

sum_ones : (lines : List Form) → sum_by one_each lines ≡ length lines
sum_ones [] = refl
sum_ones (line ∷ lines) = omega (arith, sum_by-cons one_each line lines, sum_ones lines)

again_rounds : (times : ℕ) (lines : List Form) (until : Option (List Form)) → until_done lines ≡ until
    → again one_each (form.Repeat (Some times)) lines ≡ rounds times 0 until
again_rounds times lines None e = rw e refl
again_rounds times lines (Some more) e =
    rw e (rw (sum_ones more) (ap (λ n. (times - 1) * n) (plus_zero_first (length more))))

pub until_other : (line : Form) (lines : List Form) → is_done line ≡ false
    → until_done (line ∷ lines) ≡ option_map (λ more. line ∷ more) (until_done lines)
until_other line lines d = rw d refl

none_class : (starts : ClassRef → BlockLine) (ref : Option ClassRef)
    → ((one : ClassRef) → NoRepeat (Some (starts one)) × NoDone (Some (starts one)))
    → NoRepeat (option_map starts ref) × NoDone (option_map starts ref)
none_class starts None h = (tt, tt)
none_class starts (Some one) h = h one

none_table : (number : Option ℕ) (ref : Option ClassRef)
    → NoRepeat (option_and_then (λ one. option_map (said.TableWait one) number) ref)
    × NoDone (option_and_then (λ one. option_map (said.TableWait one) number) ref)
none_table number None = (tt, tt)
none_table None (Some one) = (tt, tt)
none_table (Some number) (Some one) = (tt, tt)

pub begins : (times : ℕ) (rest : List BlockLine) → written_from None (said.Repeat times ∷ rest)
    ≡ written_from (Some (record { times = times; body = [] })) rest
unfolding written_from
begins times rest = refl

pub ends : (loop : Repeated) (rest : List BlockLine) → written_from (Some loop) (said.Done ∷ rest)
    ≡ copies loop.times loop.body ++ written_from None rest
unfolding written_from
ends loop rest = refl

module _ (sense : Sense) where
  -- the blocks that begin among lines, in this phase and in later ones, written out
  abbrev ahead : List Form → ℕ
  ahead lines = written_among (blocks_of sense lines) + written_in (phases_of sense lines)

  ahead_none : ahead [] ≡ 0
  unfolding blocks_of phases_of
  ahead_none = refl

  ahead_inside : (line : Form) (lines : List Form) → ends_block line ≡ false → ahead (line ∷ lines) ≡ ahead lines
  unfolding blocks_of phases_of
  ahead_inside line lines e =
      rw (
        or_first (is_phase line) (is_session line) e,
        none_block sense lines line (or_second (is_phase line) (is_session line) e),
      ) refl

  ahead_ends : (line : Form) (lines : List Form) → ends_block line ≡ true
      → ahead (line ∷ lines) ≤ length (written_out (block_lines sense lines)) + ahead lines
  unfolding blocks_of phases_of
  ahead_ends form.Phase lines e =
      omega (
        arith,
        sum_by-cons (λ (phase : Phase). written_among phase.blocks)
            (record { blocks = blocks_of sense lines }) (phases_of sense lines),
      )
  ahead_ends (form.Connect (Some session) user host) lines e =
      omega (
        arith,
        sum_by-cons (λ (block : Block). length (written_out block.lines))
            (connected 0 sense session user host lines) (blocks_of sense lines),
      )
  ahead_ends (form.Connect None user host) lines e = omega arith
  ahead_ends (form.Resume (Some session)) lines e =
      omega (
        arith,
        sum_by-cons (λ (block : Block). length (written_out block.lines))
            (resumed 0 sense session lines) (blocks_of sense lines),
      )
  ahead_ends (form.Resume None) lines e = omega arith
  ahead_ends _ lines e = cc

  -- the lines of the block so far, written out behind the lines so far of a repeat that isn't done
  abbrev written : Option Repeated → List Form → ℕ
  written loop lines = length (written_from loop (block_lines sense lines))

  abbrev most_of : Option Repeated → List Form → ℕ
  most_of None lines = counted one_each lines
  most_of (Some loop) lines =
      length loop.body + rounds loop.times (length loop.body) (until_done lines) + counted one_each lines

  abbrev Short : Option Repeated → List Form → Type 0
  Short loop lines = written loop lines + ahead lines ≤ most_of loop lines

  pub plain : (line : Form) → ((times : ℕ) → line ≡ form.Repeat (Some times) → ⊥) → NoRepeat (block_line sense line)
  plain (form.Wait class) h = (none_class said.Wait (sense.class class) (λ one. (tt, tt))).0
  plain (form.TableWait class schema name) h =
      (none_table (table_number sense.tables schema name) (sense.class class)).0
  plain (form.Statement class text) h =
      (none_class (λ ref. said.Statement ref (digest_place sense.digests text)) (sense.class class) (λ one. (tt, tt))).0
  plain (form.Stage class) h = (none_class said.Stage (sense.class class) (λ one. (tt, tt))).0
  plain (form.Spend (Some time)) h = tt
  plain (form.Spend None) h = tt
  plain (form.Repeat (Some times)) h = absurd (h times refl)
  plain (form.Repeat None) h = tt
  plain _ h = tt

  pub no_done : (line : Form) → is_done line ≡ false → NoDone (block_line sense line)
  no_done (form.Wait class) h = (none_class said.Wait (sense.class class) (λ one. (tt, tt))).1
  no_done (form.TableWait class schema name) h =
      (none_table (table_number sense.tables schema name) (sense.class class)).1
  no_done (form.Statement class text) h =
      (none_class (λ ref. said.Statement ref (digest_place sense.digests text)) (sense.class class) (λ one. (tt, tt))).1
  no_done (form.Stage class) h = (none_class said.Stage (sense.class class) (λ one. (tt, tt))).1
  no_done (form.Spend (Some time)) h = tt
  no_done (form.Spend None) h = tt
  no_done (form.Repeat (Some times)) h = tt
  no_done (form.Repeat None) h = tt
  no_done form.Done h = cc
  no_done _ h = tt

  last_short : (loop : Option Repeated) → Short loop []
  unfolding written_from
  last_short None = rw (last_said sense, ahead_none) (omega arith)
  last_short (Some loop) = rw (last_said sense, ahead_none) (omega arith)

  stop_short : (loop : Option Repeated) (line : Form) (lines : List Form) → ends_block line ≡ true → Short None lines
      → Short loop (line ∷ lines)
  unfolding written_from
  stop_short None line lines e h =
      rw (stop_said sense line lines e)
      (omega (arith, h, ahead_ends line lines e, counted_first line lines))
  stop_short (Some loop) line lines e h =
      rw (stop_said sense line lines e)
      (omega (arith, h, ahead_ends line lines e, counted_first line lines))

  none_short : (line : Form) (lines : List Form) → ends_block line ≡ false → NoRepeat (block_line sense line)
      → Short None lines → Short None (line ∷ lines)
  none_short line lines e p h =
      let front = front_none (block_line sense line) (block_lines sense lines) p in
      rw (first_said sense line lines e)
      (omega (arith, h, front, ahead_inside line lines e, counted_first line lines))

  repeat_short : (times : ℕ) (lines : List Form) → Short (Some (record { times = times; body = [] })) lines
      → Short None (form.Repeat (Some times) ∷ lines)
  repeat_short times lines h =
      let line = form.Repeat (Some times) in
      let rest : length (written_from (Some (record { times = times; body = [] })) (block_lines sense lines))
      + ahead lines ≤ 0 + rounds times 0 (until_done lines) + counted one_each lines = h in
      rw (first_said sense line lines refl, begins times (block_lines sense lines))
      (omega (
        arith,
        rest,
        ahead_inside line lines refl,
        counted_first line lines,
        again_rounds times lines (until_done lines) refl,
      ))

  done_short : (loop : Repeated) (lines : List Form) → Short None lines → Short (Some loop) (form.Done ∷ lines)
  done_short loop lines h =
      let joined = length-append (copies loop.times loop.body) (written_from None (block_lines sense lines)) in
      let rounds_are : (loop.times - 1) * (length loop.body + 0) ≡ (loop.times - 1) * length loop.body =
      ap (λ n. (loop.times - 1) * n) (omega arith) in
      rw (first_said sense form.Done lines refl, ends loop (block_lines sense lines))
      (omega (
        arith,
        h,
        copied loop.times loop.body,
        joined,
        rounds_are,
        ahead_inside form.Done lines refl,
        counted_first form.Done lines,
      ))

  some_short : (loop : Repeated) (line : Form) (lines : List Form) → ends_block line ≡ false → is_done line ≡ false
      → ((body : List BlockLine) → Short (Some (record { times = loop.times; body = body })) lines)
      → Short (Some loop) (line ∷ lines)
  some_short loop line lines e d h =
      let body = with_one (block_line sense line) loop.body in
      let few = with_one_few (block_line sense line) loop.body in
      let more = rounds_more loop.times (length loop.body) (length body) line (until_done lines) few in
      let rest : length (written_from (Some (record { times = loop.times; body = body })) (block_lines sense lines))
      + ahead lines ≤ length body + rounds loop.times (length body) (until_done lines) + counted one_each lines =
      h body in
      rw (
        first_said sense line lines e,
        front_some (block_line sense line) loop (block_lines sense lines) (no_done line d),
        until_other line lines d,
      )
      (omega (arith, rest, few, more, ahead_inside line lines e, counted_first line lines))

  short : (loop : Option Repeated) (lines : List Form) → Short loop lines
  short None [] = last_short None
  short (Some loop) [] = last_short (Some loop)
  short None (form.Repeat (Some times) ∷ lines) =
      repeat_short times lines (short (Some (record { times = times; body = [] })) lines)
  short None (line ∷ lines) =
      elim (cases_Bool (ends_block line)) [
        | inl e ↦ stop_short None line lines e (short None lines)
        | inr e ↦ none_short line lines e (plain line (λ times e. cc)) (short None lines)
      ]
  short (Some loop) (form.Done ∷ lines) = done_short loop lines (short None lines)
  short (Some loop) (line ∷ lines) =
      elim (cases_Bool (ends_block line)) [
        | inl e ↦ stop_short (Some loop) line lines e (short None lines)
        | inr e ↦
            some_short loop line lines e refl (λ body. short (Some (record { times = loop.times; body = body })) lines)
      ]

pub total : TotalLaw
unfolding IsScript
total text setting phases s =
    let lines = s.0 in
    let same = ap {B = ℕ} written_in s.3 in
    omega (arith, same, short (sense_of lines) None lines, few_lines lines (stand_of [] s.1.0 lines s.1.2))
