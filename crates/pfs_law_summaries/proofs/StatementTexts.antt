-- A statement's digest text is one of the setting's, or has no place.
use Rattle.std.proofs.Common.{ℕ, zero, suc, ◌<◌, List, [], ◌∷◌, ◌++◌, length, map, Option, Some, None, arith}
use Rattle.std.specs.List.{All}
use Rattle.pfs_model.proofs.EachLists.{each_join}
use Rattle.pfs_model.specs.Chains.{Each}
use Rattle.pfs_model.specs.declared.lines.Line.{Line}
use Rattle.pfs_model.specs.declared.lines.Line.TheVariants as told
use Rattle.pfs_law_script.specs.PlayableBlocks.{IsTextedLine, AreTextedLines}
use Rattle.pfs_law_script.specs.PlayableBlocks.{TextedLaw as TextedBlocks}
use Rattle.pfs_exec.specs.Requests.{request_of}
use Rattle.pfs_exec.specs.declared.requests.Request.{Request}
use Rattle.pfs_exec.specs.declared.requests.Request.TheVariants as requests
use Rattle.pfs_runs.specs.ScriptLines.{lines_in, line_in, connect_lines, sql_line}
use Rattle.pfs_script.specs.declared.blocks.Block.{Block as Said}
use Rattle.pfs_script.specs.declared.blocks.BlockLine.{BlockLine}
use Rattle.pfs_script.specs.declared.blocks.BlockLine.TheVariants as said
use Rattle.pfs_script.specs.declared.blocks.Connect.{Connect}
use Rattle.pfs_script.specs.declared.blocks.Phase.{Phase}
use Rattle.pfs_script.specs.Marks.{Repeated, copies, written_from, written_out}
use Rattle.pfs_law_conservation.specs.Premises.{IsTexted}
use Rattle.pfs_law_summaries.specs.OrderlyRuns.{TextedLaw}
use Rattle.pfs_law_summaries.proofs.BlockEnds.{OfSaid, OfPhase, of_phases}

module _ (places : ℕ) where
  sql_texted : (request : Request) → IsTexted places (sql_line request)
  sql_texted (requests.Refused error) = tt
  sql_texted (requests.Query select) = tt
  sql_texted (requests.Show select) = tt
  sql_texted (requests.Truncate what) = tt
  sql_texted (requests.Update update) = tt
  sql_texted (requests.Insert insert) = tt
  sql_texted (requests.Delete delete) = tt

  line_texted : (line : BlockLine) → IsTextedLine places line → IsTexted places (line_in line)
  line_texted (said.Wait class) known = tt
  line_texted (said.TableWait class table) known = tt
  line_texted (said.Statement class digest) known = known
  line_texted (said.Transaction access) known = tt
  line_texted (said.Stage class) known = tt
  line_texted said.StageEnd known = tt
  line_texted (said.Spend time) known = tt
  line_texted said.End known = tt
  line_texted (said.EndStatement numbers) known = tt
  line_texted said.Quit known = tt
  line_texted (said.Sql text) known = sql_texted (request_of text)
  line_texted (said.Repeat times) known = tt
  line_texted said.Done known = tt

  abbrev Texted : BlockLine → Type 0
  Texted line = IsTextedLine places line

  each_texted : (lines : List BlockLine) → AreTextedLines places lines → Each Texted lines
  each_texted [] q = tt
  each_texted (line ∷ lines) q = (q.0, each_texted lines q.1)

  -- also with each repeat written out
  copies_texted : (times : ℕ) (lines : List BlockLine) → Each Texted lines → Each Texted (copies times lines)
  unfolding copies
  copies_texted zero lines q = tt
  copies_texted (suc times) lines q = each_join Texted lines (copies times lines) q (copies_texted times lines q)

  abbrev IsTextedLoop : Option Repeated → Type 0
  IsTextedLoop None = Unit {0}
  IsTextedLoop (Some loop) = Each Texted loop.body

  written_texted : (start : Option Repeated) (lines : List BlockLine) → IsTextedLoop start → Each Texted lines
      → Each Texted (written_from start lines)
  unfolding written_from
  written_texted None [] l q = tt
  written_texted (Some loop) [] l q = l
  written_texted None (said.Repeat times ∷ lines) l q =
      written_texted (Some (record { times = times; body = [] })) lines tt q.1
  written_texted (Some loop) (said.Done ∷ lines) l q =
      each_join Texted (copies loop.times loop.body) (written_from None lines) (copies_texted loop.times loop.body l)
      (written_texted None lines tt q.1)
  written_texted None (line ∷ lines) l q = (q.0, written_texted None lines tt q.1)
  written_texted (Some loop) (line ∷ lines) l q =
      written_texted (Some (record { times = loop.times; body = loop.body ++ line ∷ [] })) lines
      (each_join Texted loop.body (line ∷ []) l (q.0, tt)) q.1

  -- the lines of a block
  map_texted : (lines : List BlockLine) → Each Texted lines → Each (IsTexted places) (map line_in lines)
  map_texted [] q = tt
  map_texted (line ∷ lines) q = (line_texted line q.0, map_texted lines q.1)

  connect_texted : (connect : Option Connect) → Each (IsTexted places) (connect_lines connect)
  connect_texted None = tt
  connect_texted (Some names) = (tt, tt)

  abbrev AreTextedOf : List Line → Type 0
  AreTextedOf lines = Each (IsTexted places) lines

  block_texted : (block : Said) → AreTextedLines places block.lines → AreTextedOf (lines_in block)
  block_texted block q =
      each_join (IsTexted places) (connect_lines block.connect) (map line_in (written_out block.lines) ++ told.Close ∷ [])
      (connect_texted block.connect)
      (each_join (IsTexted places) (map line_in (written_out block.lines)) (told.Close ∷ [])
      (map_texted (written_out block.lines) (written_texted None block.lines tt (each_texted block.lines q))) (tt, tt))

  within : (k n : ℕ) → k < n → suc k < suc n
  within k n low = omega (arith, low)

  blocks_texted : (blocks : List Said) → All (λ (block : Said). AreTextedLines places block.lines) blocks → Each (OfSaid AreTextedOf) blocks
  blocks_texted [] q = tt
  blocks_texted (block ∷ blocks) q =
      (block_texted block (q zero block (omega arith)), blocks_texted blocks (λ k d low. q (suc k) d (within k (length blocks) low)))

  phases_texted : (phases : List Phase) → All (λ (phase : Phase). All (λ (block : Said). AreTextedLines places block.lines) phase.blocks) phases → Each (OfPhase AreTextedOf) phases
  phases_texted [] q = tt
  phases_texted (phase ∷ phases) q =
      (blocks_texted phase.blocks (q zero phase (omega arith)), phases_texted phases (λ k d low. q (suc k) d (within k (length phases) low)))

pub texted_law : TextedBlocks → TextedLaw
texted_law texted text setting phases report script run =
    of_phases (AreTextedOf (length setting.digests)) 1 phases report.phases run.blocks run.phases_are
    (phases_texted (length setting.digests) phases (texted text setting phases script))
