-- The lines of a script name digest texts of its setting.
use Rattle.std.proofs.Common.{ℕ, ◌<◌, List, [], ◌∷◌, Option, Some, None, IfSome, sym, subst, length, inl, inr}
use Rattle.std.specs.Prelude.{option_map, option_and_then}
use Rattle.std.specs.List.{All}
use Rattle.std.proofs.lemmas.List.Elements.{All-cons}
use Rattle.std.proofs.lemmas.Bool.{cases_Bool}
use Rattle.pfs_classes.specs.declared.classes.ClassRef.{ClassRef}
use Rattle.pfs_classes.specs.declared.setting.DigestText.{DigestText}
use Rattle.pfs_script.specs.declared.forms.Form.{Form}
use Rattle.pfs_script.specs.declared.forms.Form.TheVariants as form
use Rattle.pfs_script.specs.declared.blocks.Block.{Block}
use Rattle.pfs_script.specs.declared.blocks.BlockLine.{BlockLine}
use Rattle.pfs_script.specs.declared.blocks.BlockLine.TheVariants as said
use Rattle.pfs_script.specs.declared.blocks.Phase.{Phase}
use Rattle.pfs_script.specs.Blocks.{Sense, sense_of, with_front, block_line, block_lines, block_behind, blocks_of, phases_of}
use Rattle.pfs_script.specs.Finds.{digest_place, table_number}
use Rattle.pfs_script.specs.Scripts.{IsScript}
use Rattle.pfs_script.specs.Sessions.{ends_block, is_phase}
use Rattle.pfs_script.proofs.TextPlaces.{place_within}
use Rattle.pfs_law_script.specs.PlayableBlocks.{IsTextedLine, AreTextedLines, TextedLaw}
use Rattle.pfs_law_script.proofs.BlockCounts.{all_none}

module _ (sense : Sense) (places : ℕ) (known : (text : List ℕ) → IfSome (digest_place sense.digests text) (λ n. n < places)) where
  class_texted : (starts : ClassRef → BlockLine) (ref : Option ClassRef) (more : List BlockLine) → ((one : ClassRef) → IsTextedLine places (starts one)) → AreTextedLines places more
      → AreTextedLines places (with_front (option_map starts ref) more)
  class_texted starts None more such h = h
  class_texted starts (Some ref) more such h = (such ref, h)

  table_texted : (ref : Option ClassRef) (number : Option ℕ) (more : List BlockLine) → AreTextedLines places more
      → AreTextedLines places (with_front (option_and_then (λ one. option_map (said.TableWait one) number) ref) more)
  table_texted None number more h = h
  table_texted (Some ref) None more h = h
  table_texted (Some ref) (Some number) more h = (tt, h)

  line_texted : (line : Form) (more : List BlockLine) → AreTextedLines places more → AreTextedLines places (with_front (block_line sense line) more)
  line_texted (form.Wait class) more h = class_texted said.Wait (sense.class class) more (λ one. tt) h
  line_texted (form.TableWait class schema name) more h = table_texted (sense.class class) (table_number sense.tables schema name) more h
  line_texted (form.Statement class text) more h = class_texted (λ ref. said.Statement ref (digest_place sense.digests text)) (sense.class class) more (λ one. known text) h
  line_texted (form.Stage class) more h = class_texted said.Stage (sense.class class) more (λ one. tt) h
  line_texted (form.Transaction access) more h = (tt, h)
  line_texted form.StageEnd more h = (tt, h)
  line_texted (form.Spend (Some time)) more h = (tt, h)
  line_texted (form.Spend None) more h = h
  line_texted form.End more h = (tt, h)
  line_texted (form.EndStatement numbers) more h = (tt, h)
  line_texted (form.Repeat (Some times)) more h = (tt, h)
  line_texted (form.Repeat None) more h = h
  line_texted (form.Sql text) more h = (tt, h)
  line_texted form.Done more h = (tt, h)
  line_texted form.Quit more h = (tt, h)
  line_texted line more h = h

  lines_texted : (lines : List Form) → AreTextedLines places (block_lines sense lines)
  unfolding block_lines
  lines_texted [] = tt
  lines_texted (line ∷ lines) =
      let rest = lines_texted lines in
      elim (cases_Bool (ends_block line)) [
        | inl e ↦ rw e tt
        | inr e ↦ rw e (line_texted line (block_lines sense lines) rest)
      ]

  abbrev Texted : Block → Type 0
  Texted block = AreTextedLines places block.lines

  front_texted : (line : Form) (lines : List Form) (more : List Block) → All Texted more → All Texted (with_front (block_behind sense lines line) more)
  front_texted (form.Connect (Some number) user host) lines more rest = All-cons Texted _ more (lines_texted lines) rest
  front_texted (form.Connect None user host) lines more rest = rest
  front_texted (form.Resume (Some number)) lines more rest = All-cons Texted _ more (lines_texted lines) rest
  front_texted (form.Resume None) lines more rest = rest
  front_texted line lines more rest = rest

  blocks_texted : (lines : List Form) → All Texted (blocks_of sense lines)
  unfolding blocks_of
  blocks_texted [] = all_none Texted
  blocks_texted (line ∷ lines) =
      let rest = blocks_texted lines in
      elim (cases_Bool (is_phase line)) [
        | inl p ↦ rw p (all_none Texted)
        | inr p ↦ rw p (front_texted line lines (blocks_of sense lines) rest)
      ]

  abbrev AllTexted : Phase → Type 0
  AllTexted phase = All Texted phase.blocks

  phases_texted : (lines : List Form) → All AllTexted (phases_of sense lines)
  unfolding phases_of
  phases_texted [] = all_none AllTexted
  phases_texted (line ∷ lines) =
      let rest = phases_texted lines in
      elim (cases_Bool (is_phase line)) [
        | inl p ↦ rw p (All-cons AllTexted _ (phases_of sense lines) (blocks_texted lines) rest)
        | inr p ↦ rw p rest
      ]

pub texted : TextedLaw
unfolding IsScript
texted text setting phases s =
    let lines = s.0 in
    subst (λ (texts : List DigestText). All (λ phase. All (λ (block : Block). AreTextedLines (length texts) block.lines) phase.blocks) phases) (sym s.2.digests)
    (subst (λ (phases : List Phase). All (AllTexted (sense_of lines) (length (sense_of lines).digests) (place_within lines)) phases) (sym s.3)
    (phases_texted (sense_of lines) (length (sense_of lines).digests) (place_within lines) lines))
