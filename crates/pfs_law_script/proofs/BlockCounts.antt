-- How many blocks a script has, and the names that they give.
use Rattle.std.proofs.Common.{ℕ, ◌≡◌, ◌≤◌, ◌<◌, ◌+◌, ◌==◌, Bool, true, false, List, [], ◌∷◌, ◌++◌, Option, Some, None, IfSome, refl, ap, sym, ◌∙◌, subst, length, slice_get, append_assoc, inl, inr, arith}
use Rattle.std.specs.Prelude.{filter}
use Rattle.std.specs.List.{All, flat_map, sum_by}
use Rattle.std.proofs.lemmas.List.Elements.{All-cons}
use Rattle.std.proofs.lemmas.List.Sums.{sum_by-cons}
use Rattle.std.proofs.lemmas.Option.{slice_get_within}
use Rattle.std.proofs.lemmas.Bool.{cases_Bool}
use Rattle.pfs_script.specs.declared.forms.Form.{Form}
use Rattle.pfs_script.specs.declared.forms.Form.TheVariants as form
use Rattle.pfs_script.specs.declared.blocks.Block.{Block}
use Rattle.pfs_script.specs.declared.blocks.Phase.{Phase}
use Rattle.pfs_script.specs.Blocks.{Sense, sense_of, with_front, block_line, block_lines, block_behind, blocks_of, phases_of}
use Rattle.pfs_script.specs.LineCounts.{counted}
use Rattle.pfs_script.specs.Reasons.{one_each}
use Rattle.pfs_script.specs.Scripts.{IsScript}
use Rattle.pfs_script.specs.SessionNames.{connect_of, names_of}
use Rattle.pfs_script.specs.Sessions.{ends_block, is_phase, is_session}
use Rattle.pfs_script.proofs.BlockNests.{stand_of}
use Rattle.pfs_script.proofs.SessionNames.{are_named}
use Rattle.pfs_law_script.specs.PlayableBlocks.{blocks_in, lines_among, FewLaw, LinesLaw, NamedLaw}
use Rattle.pfs_law_script.proofs.LineBounds.{few_lines}
use Rattle.pfs_law_script.proofs.OwnBlocks.{none_block}
use Rattle.pfs_law_script.proofs.LineTotals.{counted_first}

front_few : {A : Type 0} (one : Option A) (more : List A) → length (with_front one more) ≤ length more + 1
front_few None more = omega arith
front_few (Some one) more = omega arith

few_behind : (sense : Sense) (lines : List Form)
    → blocks_in (phases_of sense lines) + length (blocks_of sense lines) ≤ length lines
unfolding phases_of blocks_of
few_behind sense [] = omega arith
few_behind sense (line ∷ lines) =
    let rest = few_behind sense lines in
    elim (cases_Bool (is_phase line)) [
      | inl p ↦
          let first = sum_by-cons (λ (phase : Phase). length phase.blocks) (record { blocks = blocks_of sense lines })
          (phases_of sense lines) in
          rw p (omega (arith, first, rest))
      | inr p ↦ rw p (omega (arith, rest, front_few (block_behind sense lines line) (blocks_of sense lines)))
    ]

-- the lines of all blocks, and those that stand in the block under way
begun_few : (sense : Sense) (line : Form) (lines : List Form)
    → lines_among (with_front (block_behind sense lines line) (blocks_of sense lines))
    ≤ lines_among (blocks_of sense lines) + length (block_lines sense lines)
begun_few sense (form.Connect (Some number) user host) lines =
    let first = sum_by-cons (λ (block : Block). length block.lines) (record {
      session = number;
      connect = Some (connect_of sense.names user host);
      lines = block_lines sense lines;
    }) (blocks_of sense lines) in
    omega (arith, first)
begun_few sense (form.Connect None user host) lines = omega arith
begun_few sense (form.Resume (Some number)) lines =
    let first = sum_by-cons (λ (block : Block). length block.lines) (record {
      session = number;
      connect = None;
      lines = block_lines sense lines;
    }) (blocks_of sense lines) in
    omega (arith, first)
begun_few sense (form.Resume None) lines = omega arith
begun_few sense line lines = omega arith

abbrev lines_of_phases : List Phase → ℕ
lines_of_phases phases = sum_by (λ (phase : Phase). lines_among phase.blocks) phases

no_session : (line : Form) → ends_block line ≡ false → is_session line ≡ false
no_session (form.Connect session user host) e = cc
no_session (form.Resume session) e = cc
no_session line e = refl

no_phase : (line : Form) → ends_block line ≡ false → is_phase line ≡ false
no_phase form.Phase e = cc
no_phase line e = refl

said_few : (sense : Sense) (lines : List Form)
    → lines_of_phases (phases_of sense lines) + lines_among (blocks_of sense lines) + length (block_lines sense lines)
    ≤ length lines
unfolding phases_of blocks_of block_lines
said_few sense [] = omega arith
said_few sense (line ∷ lines) =
    let rest = said_few sense lines in
    elim (cases_Bool (ends_block line)) [
      | inl e ↦
          elim (cases_Bool (is_phase line)) [
            | inl p ↦
                let first = sum_by-cons (λ (phase : Phase). lines_among phase.blocks) (record { blocks = blocks_of sense lines })
                (phases_of sense lines) in
                rw (e, p) (omega (arith, first, rest))
            | inr p ↦ rw (e, p) (omega (arith, begun_few sense line lines, rest))
          ]
      | inr e ↦
          rw (e, no_phase line e, none_block sense lines line (no_session line e))
          (omega (arith, front_few (block_line sense line) (block_lines sense lines), rest))
    ]

filtered_one : (session : ℕ) (block : Block) (blocks : List Block) (own : Bool) → (block.session == session) ≡ own
    → lines_among (filter (λ (block : Block). block.session == session) blocks) ≤ lines_among blocks
    → lines_among (filter (λ (block : Block). block.session == session) (block ∷ blocks))
    ≤ lines_among (block ∷ blocks)
filtered_one session block blocks true own rest =
    let first = sum_by-cons (λ (block : Block). length block.lines) block blocks in
    let kept = sum_by-cons (λ (block : Block). length block.lines) block
    (filter (λ (block : Block). block.session == session) blocks) in
    rw own (omega (arith, first, kept, rest))
filtered_one session block blocks false own rest =
    let first = sum_by-cons (λ (block : Block). length block.lines) block blocks in
    rw own (omega (arith, first, rest))

filtered_few : (session : ℕ) (blocks : List Block)
    → lines_among (filter (λ (block : Block). block.session == session) blocks) ≤ lines_among blocks
filtered_few session [] = omega arith
filtered_few session (block ∷ blocks) =
    filtered_one session block blocks (block.session == session) refl (filtered_few session blocks)

lines_joined : (xs ys : List Block) → lines_among (xs ++ ys) ≡ lines_among xs + lines_among ys
lines_joined [] ys = omega arith
lines_joined (x ∷ xs) ys =
    let one = sum_by-cons (λ (block : Block). length block.lines) x (xs ++ ys) in
    let two = sum_by-cons (λ (block : Block). length block.lines) x xs in
    omega (arith, one, two, lines_joined xs ys)

lines_flat : (phases : List Phase)
    → lines_among (flat_map (λ (phase : Phase). phase.blocks) phases) ≡ lines_of_phases phases
lines_flat [] = refl
lines_flat (phase ∷ phases) =
    let one = sum_by-cons (λ (phase : Phase). lines_among phase.blocks) phase phases in
    omega (arith, one, lines_joined phase.blocks (flat_map (λ (phase : Phase). phase.blocks) phases), lines_flat phases)

lines_counted : (lines : List Form) → length lines ≤ counted one_each lines
lines_counted [] = omega arith
lines_counted (line ∷ lines) = omega (arith, counted_first line lines, lines_counted lines)

pub few : FewLaw
unfolding IsScript
few text setting phases s =
    let lines = s.0 in
    let same = ap {B = ℕ} blocks_in s.3 in
    omega (
      arith,
      same,
      few_behind (sense_of lines) lines,
      lines_counted lines,
      few_lines lines (stand_of [] s.1.0 lines s.1.2),
    )

pub lines : LinesLaw
unfolding IsScript
lines text setting phases session s =
    let all = s.0 in
    let same = ap {B = ℕ} lines_of_phases s.3 in
    omega (
      arith,
      same,
      filtered_few session (flat_map (λ (phase : Phase). phase.blocks) phases),
      lines_flat phases,
      said_few (sense_of all) all,
      lines_counted all,
      few_lines all (stand_of [] s.1.0 all s.1.2),
    )

-- the place behind a front
behind_front : (before : List Form) (line : Form) (lines : List Form)
    → slice_get (before ++ line ∷ lines) (length before) ≡ Some line
behind_front [] line lines = refl
behind_front (one ∷ before) line lines = behind_front before line lines

pub all_none : {A : Type 0} (P : A → Type 0) → All P []
all_none P k d h = absurd (omega (arith, h))

module _ (all : List Form) where
  abbrev Named : Block → Type 0
  Named block =
      IfSome block.connect (λ names. (names.user < length (names_of all)) × (names.host < length (names_of all)))

  known : (before : List Form) (session : Option ℕ) (user host : List ℕ) (lines : List Form)
      → all ≡ before ++ form.Connect session user host ∷ lines
      → ((connect_of (names_of all) user host).user < length (names_of all))
      × ((connect_of (names_of all) user host).host < length (names_of all))
  known before session user host lines is =
      let there : slice_get all (length before) ≡ Some (form.Connect session user host) =
      ap (λ (z : List Form). slice_get z (length before)) is
      ∙ behind_front before (form.Connect session user host) lines in
      let both = (are_named all).given (length before) session user host there in (
        slice_get_within (names_of all) (connect_of (names_of all) user host).user user both.0,
        slice_get_within (names_of all) (connect_of (names_of all) user host).host host both.1,
      )

  front_named : (before : List Form) (line : Form) (lines : List Form) (more : List Block)
      → all ≡ before ++ line ∷ lines → All Named more
      → All Named (with_front (block_behind (sense_of all) lines line) more)
  front_named before (form.Connect (Some number) user host) lines more is rest =
      All-cons Named _ more (known before (Some number) user host lines is) rest
  front_named before (form.Connect None user host) lines more is rest = rest
  front_named before (form.Resume (Some number)) lines more is rest = All-cons Named _ more tt rest
  front_named before (form.Resume None) lines more is rest = rest
  front_named before line lines more is rest = rest

  blocks_named : (before lines : List Form) → all ≡ before ++ lines → All Named (blocks_of (sense_of all) lines)
  unfolding blocks_of
  blocks_named before [] is = all_none Named
  blocks_named before (line ∷ lines) is =
      let further = is ∙ sym (append_assoc before (line ∷ []) lines) in
      elim (cases_Bool (is_phase line)) [
        | inl p ↦ rw p (all_none Named)
        | inr p ↦
            rw p (front_named before line lines (blocks_of (sense_of all) lines) is
            (blocks_named (before ++ line ∷ []) lines further))
      ]

  abbrev AllNamed : Phase → Type 0
  AllNamed phase = All Named phase.blocks

  phases_named : (before lines : List Form) → all ≡ before ++ lines
      → All AllNamed (phases_of (sense_of all) lines)
  unfolding phases_of
  phases_named before [] is = all_none AllNamed
  phases_named before (line ∷ lines) is =
      let further = is ∙ sym (append_assoc before (line ∷ []) lines) in
      let rest = phases_named (before ++ line ∷ []) lines further in
      elim (cases_Bool (is_phase line)) [
        | inl p ↦ rw p (All-cons AllNamed _ (phases_of (sense_of all) lines) (blocks_named (before ++ line ∷ []) lines further) rest)
        | inr p ↦ rw p rest
      ]

pub named : NamedLaw
unfolding IsScript
named text setting phases s =
    let lines = s.0 in
    subst (λ (names : List (List ℕ)). All (λ phase. All (λ (block : Block). IfSome block.connect
    (λ one. (one.user < length names) × (one.host < length names))) phase.blocks) phases) (sym s.2.names)
    (subst (λ (phases : List Phase). All (AllNamed lines) phases) (sym s.3)
    (phases_named lines [] lines refl))
