-- How many lines a session's blocks have.
use Rattle.std.proofs.Common.{ℕ, ◌≡◌, ◌≤◌, ◌+◌, ◌==◌, Bool, true, false, List, [], ◌∷◌, ◌++◌, Option, Some, None, refl, ap, length, inl, inr, arith}
use Rattle.std.proofs.lemmas.List.Sums.{sum_by-cons}
use Rattle.std.proofs.lemmas.Bool.{cases_Bool}
use Rattle.pfs_script.specs.declared.forms.Form.{Form}
use Rattle.pfs_script.specs.declared.forms.Form.TheVariants as form
use Rattle.pfs_script.specs.declared.blocks.Block.{Block}
use Rattle.pfs_script.specs.declared.blocks.BlockLine.{BlockLine}
use Rattle.pfs_script.specs.Sessions.{ends_block}
use Rattle.pfs_script.specs.Blocks.{Sense, with_front, block_line, block_lines}
use Rattle.pfs_script.proofs.BlockNests.{Stand}
use Rattle.pfs_script.proofs.FaultlessLines.{Passes}
use Rattle.pfs_law_script.specs.PlayableBlocks.{lines_among}
use Rattle.pfs_law_script.proofs.BlockBodies.{first_said, stop_said, last_said}
use Rattle.pfs_law_script.proofs.OwnBlocks.{blocks_from, from_none, from_phase, from_other, from_connect, from_resume, with_own, connected, resumed}

front_few : (one : Option BlockLine) (more : List BlockLine) → length (with_front one more) ≤ length more + 1
front_few None more = omega arith
front_few (Some line) more = omega arith

pub said_few : (sense : Sense) (lines : List Form) → length (block_lines sense lines) ≤ length lines
unfolding block_lines
said_few sense [] = omega arith
said_few sense (line ∷ lines) =
    elim (cases_Bool (ends_block line)) [
      | inl e ↦ rw e (omega arith)
      | inr e ↦
          rw e (omega (arith, front_few (block_line sense line) (block_lines sense lines), said_few sense lines))
    ]

module _ (number : ℕ) (sense : Sense) where
  -- those that stand in the block so far and those of its blocks to come
  abbrev Few : List Form → Type 0
  Few lines = length (block_lines sense lines) + lines_among (blocks_from number sense lines) ≤ length lines

  with_few : (b : Bool) (block : Block) (blocks : List Block)
      → lines_among (with_own number sense b block blocks) ≤ length block.lines + lines_among blocks
  with_few true block blocks = omega (arith, sum_by-cons (λ (block : Block). length block.lines) block blocks)
  with_few false block blocks = omega arith

  begin_few : (line : Form) (lines : List Form) (block : Block) (b : Bool) → ends_block line ≡ true
      → blocks_from number sense (line ∷ lines) ≡ with_own number sense b block (blocks_from number sense lines)
      → block.lines ≡ block_lines sense lines → Few lines → Few (line ∷ lines)
  begin_few line lines block b e from says few =
      rw (from, stop_said sense line lines e)
      (omega (arith, few, with_few b block (blocks_from number sense lines), ap {B = ℕ} length says))

  end_few : (before lines : List Form) (line : Form) → Passes before line → ends_block line ≡ true → Few lines
      → Few (line ∷ lines)
  end_few before lines form.Phase p e few =
      rw (from_phase number sense lines, stop_said sense form.Phase lines refl) (omega (arith, few))
  end_few before lines (form.Connect (Some session) user host) p e few =
      begin_few (form.Connect (Some session) user host) lines (connected number sense session user host lines)
      (session == number) refl (from_connect number sense session user host lines) refl few
  end_few before lines (form.Resume (Some session)) p e few =
      begin_few (form.Resume (Some session)) lines (resumed number sense session lines) (session == number) refl
      (from_resume number sense session lines) refl few
  end_few before lines (form.Connect None user host) p e few = absurd (let q = p.number in cc)
  end_few before lines (form.Resume None) p e few = absurd (let q = p.number in cc)
  end_few before lines _ p e few = cc

  all_few : (before lines : List Form) → Stand before lines → Few lines
  all_few before [] s = rw (last_said sense, from_none number sense) (omega arith)
  all_few before (line ∷ lines) s =
      let few = all_few (before ++ line ∷ []) lines s.1 in
      elim (cases_Bool (ends_block line)) [
        | inl e ↦ end_few before lines line s.0 e few
        | inr e ↦
            rw (from_other number sense line lines e, first_said sense line lines e)
            (omega (arith, few, front_few (block_line sense line) (block_lines sense lines)))
      ]

  pub blocks_few : (lines : List Form) → Stand [] lines
      → lines_among (blocks_from number sense lines) ≤ length lines
  blocks_few lines s = omega (arith, all_few [] lines s)
