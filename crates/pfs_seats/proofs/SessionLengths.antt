-- How many lines a session's blocks have, block by block and phase by phase.
use Rattle.std.proofs.Common.{ℕ, ◌≡◌, ◌+◌, ◌≤◌, ◌<◌, ◌==◌, Bool, true, false, cond, List, [], ◌∷◌, ◌++◌, length, take, drop, get_or, eq-eqb, refl, ap, sym, ◌∙◌, arith}
use Rattle.std.specs.Prelude.{filter}
use Rattle.std.specs.List.{flat_map}
use Rattle.std.proofs.lemmas.Bool.{ne_eqb}
use Rattle.std.proofs.lemmas.List.{take_more, take-append-drop}
use Rattle.std.proofs.lemmas.List.Concat.{flat_map-append}
use Rattle.std.proofs.lemmas.List.Elements.{filter-append}
use Rattle.std.proofs.lemmas.List.Sums.{sum_by-append}
use Rattle.pfs_law_script.specs.PlayableBlocks.{lines_among}
use Rattle.pfs_script.specs.declared.blocks.Block.{Block}
use Rattle.pfs_script.specs.declared.blocks.Phase.{Phase}
use Rattle.pfs_seats.specs.Seats.{depth_of}

abbrev pub lines_own : ℕ → List Block → ℕ
lines_own number blocks = lines_among (filter (λ (block : Block). block.session == number) blocks)

lines_then : (number : ℕ) (xs ys : List Block) → lines_own number (xs ++ ys) ≡ lines_own number xs + lines_own number ys
lines_then number xs ys =
    ap lines_among (filter-append (λ (block : Block). block.session == number) xs ys)
    ∙ sum_by-append (λ (block : Block). length block.lines) (filter (λ (block : Block). block.session == number) xs) (filter (λ (block : Block). block.session == number) ys)

abbrev pub lines_if : Bool → Block → ℕ
lines_if own block = cond own (length block.lines) 0

lines_one : (number : ℕ) (block : Block) → lines_own number (block ∷ []) ≡ lines_if (block.session == number) block
lines_one number block = by_own (block.session == number) refl where
  by_own : (b : Bool) → (block.session == number) ≡ b → lines_own number (block ∷ []) ≡ lines_if b block
  by_own true e =
      let this : lines_own number (block ∷ []) ≡ 0 + length block.lines = ap (λ b. lines_among (cond b (block ∷ []) [])) e in
      omega (arith, this)
  by_own false e = ap (λ b. lines_among (cond b (block ∷ []) [])) e

pub lines_same : (number : ℕ) (block : Block) → block.session ≡ number → lines_if (block.session == number) block ≡ length block.lines
lines_same number block e = ap (λ b. lines_if b block) (eq-eqb block.session number e)

pub lines_other : (number : ℕ) (block : Block) → (block.session ≡ number → ⊥) → lines_if (block.session == number) block ≡ 0
lines_other number block e = ap (λ b. lines_if b block) (ne_eqb block.session number e)

-- over the first blocks, with one more
pub record AreLines (number : ℕ) (blocks : List Block) (i : ℕ) (block : Block) : Type 0 where
  pub more : lines_own number (take (i + 1) blocks) ≡ lines_own number (take i blocks) + lines_if (block.session == number) block
  pub few : lines_own number (take i blocks) + lines_if (block.session == number) block ≤ lines_own number blocks

pub lines_more : (number : ℕ) (blocks : List Block) (i : ℕ) (block : Block) → i < length blocks → block ≡ get_or blocks i block → AreLines number blocks i block
lines_more number blocks i block within is =
    let one : lines_own number (get_or blocks i block ∷ []) ≡ lines_if (block.session == number) block =
    ap (λ z. lines_own number (z ∷ [])) (sym is) ∙ lines_one number block in
    let more : lines_own number (take (i + 1) blocks) ≡ lines_own number (take i blocks) + lines_own number (get_or blocks i block ∷ []) =
    ap (lines_own number) (take_more blocks i block within) ∙ lines_then number (take i blocks) (get_or blocks i block ∷ []) in
    let all : lines_own number (take (i + 1) blocks) + lines_own number (drop (i + 1) blocks) ≡ lines_own number blocks =
    sym (lines_then number (take (i + 1) blocks) (drop (i + 1) blocks)) ∙ ap (lines_own number) (take-append-drop (i + 1) blocks) in
    record { more = omega (arith, more, one); few = omega (arith, more, one, all) }

-- and over the first phases
depth_then : (number : ℕ) (xs ys : List Phase) → depth_of (xs ++ ys) number ≡ depth_of xs number + depth_of ys number
depth_then number xs ys =
    ap (lines_own number) (flat_map-append (λ (phase : Phase). phase.blocks) xs ys)
    ∙ lines_then number (flat_map (λ (phase : Phase). phase.blocks) xs) (flat_map (λ (phase : Phase). phase.blocks) ys)

depth_one : (number : ℕ) (phase : Phase) → depth_of (phase ∷ []) number ≡ lines_own number phase.blocks
depth_one number phase = lines_then number phase.blocks [] ∙ none_more (lines_own number phase.blocks) where
  none_more : (n : ℕ) → n + 0 ≡ n
  none_more n = omega arith

pub record AreDeep (number : ℕ) (phases : List Phase) (i : ℕ) (phase : Phase) : Type 0 where
  pub more : depth_of (take (i + 1) phases) number ≡ depth_of (take i phases) number + lines_own number phase.blocks
  pub few : depth_of (take i phases) number + lines_own number phase.blocks ≤ depth_of phases number

pub depth_more : (number : ℕ) (phases : List Phase) (i : ℕ) (phase : Phase) → i < length phases → phase ≡ get_or phases i phase → AreDeep number phases i phase
depth_more number phases i phase within is =
    let one : depth_of (get_or phases i phase ∷ []) number ≡ lines_own number phase.blocks = ap (λ z. depth_of (z ∷ []) number) (sym is) ∙ depth_one number phase in
    let more : depth_of (take (i + 1) phases) number ≡ depth_of (take i phases) number + depth_of (get_or phases i phase ∷ []) number =
    ap (λ z. depth_of z number) (take_more phases i phase within) ∙ depth_then number (take i phases) (get_or phases i phase ∷ []) in
    let all : depth_of (take (i + 1) phases) number + depth_of (drop (i + 1) phases) number ≡ depth_of phases number =
    sym (depth_then number (take (i + 1) phases) (drop (i + 1) phases)) ∙ ap (λ z. depth_of z number) (take-append-drop (i + 1) phases) in
    record { more = omega (arith, more, one); few = omega (arith, more, one, all) }
