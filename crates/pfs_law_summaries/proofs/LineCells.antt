-- What a line of a script starts counts in one of 64 cells: its class is one of 62, or that of transactions.
use Rattle.std.proofs.Common.{ℕ, zero, suc, ◌≡◌, ◌≤◌, ◌<◌, ◌+◌, Bool, true, false, List, [], ◌∷◌, ◌++◌, length, map, Option, Some, None, refl, sym, subst, ◌∙◌, arith, append_assoc}
use Rattle.std.specs.List.{All}
use Rattle.pfs_model.proofs.EachLists.{each_join}
use Rattle.pfs_classes.specs.declared.classes.ClassRef.TheVariants as refs
use Rattle.pfs_classes.specs.declared.setting.Setting.{Setting}
use Rattle.pfs_event.specs.declared.kind.EventKind.{EventKind}
use Rattle.pfs_model.specs.Chains.{Each}
use Rattle.pfs_model.specs.declared.lines.Line.{Line}
use Rattle.pfs_model.specs.declared.lines.Line.TheVariants as told
use Rattle.pfs_play.specs.Repeats.{AllMayPlay}
use Rattle.pfs_law_script.specs.PlayableBlocks.{PlayableLaw, IsPlayableBlock, HasBody, end_of, kinds_before, lines_among}
use Rattle.pfs_exec.specs.Requests.{request_of}
use Rattle.pfs_exec.specs.declared.requests.Request.{Request}
use Rattle.pfs_exec.specs.declared.requests.Request.TheVariants as requests
use Rattle.pfs_runs.specs.ScriptLines.{lines_in, line_in, connect_lines, sql_line}
use Rattle.pfs_script.specs.declared.blocks.Access.TheVariants.{ReadWrite, ReadOnly}
use Rattle.pfs_script.specs.declared.blocks.Block.{Block as Said}
use Rattle.pfs_script.specs.declared.blocks.BlockLine.{BlockLine}
use Rattle.pfs_script.specs.declared.blocks.BlockLine.TheVariants as said
use Rattle.pfs_script.specs.declared.blocks.Connect.{Connect}
use Rattle.pfs_script.specs.declared.blocks.Phase.{Phase}
use Rattle.pfs_script.specs.Brackets.{kinds_behind}
use Rattle.pfs_script.specs.Events.{blocks_for}
use Rattle.pfs_script.specs.Marks.{mark_of, Repeated, copies, written_from, written_out}
use Rattle.pfs_script.specs.KnownClasses.{IsKnown}
use Rattle.pfs_script.specs.Scripts.{IsScript}
use Rattle.pfs_law_conservation.specs.Premises.{IsSmall}
use Rattle.pfs_law_summaries.specs.OrderlyRuns.{SmallLaw}
use Rattle.pfs_law_summaries.proofs.BlockEnds.{OfSaid, OfPhase, of_phases}

-- of lines of a script
abbrev SmallLine : BlockLine → Type 0
SmallLine line = IsSmall (line_in line)

abbrev AreSmallLines : List BlockLine → Type 0
AreSmallLines lines = Each SmallLine lines

sql_small : (request : Request) → IsSmall (sql_line request)
sql_small (requests.Refused error) = tt
sql_small (requests.Query select) = tt
sql_small (requests.Show select) = tt
sql_small (requests.Truncate what) = tt
sql_small (requests.Update update) = tt
sql_small (requests.Insert insert) = tt
sql_small (requests.Delete delete) = tt

small_known : (line : BlockLine) → IsKnown 62 line → SmallLine line
small_known (said.Wait (refs.Class id)) known = omega (arith, known)
small_known (said.Wait (refs.Lost kind)) known = omega arith
small_known (said.TableWait (refs.Class id) table) known = omega (arith, known)
small_known (said.TableWait (refs.Lost kind) table) known = omega arith
small_known (said.Statement (refs.Class id) digest) known = omega (arith, known)
small_known (said.Statement (refs.Lost kind) digest) known = omega arith
small_known (said.Transaction ReadWrite) known = omega arith
small_known (said.Transaction ReadOnly) known = omega arith
small_known (said.Stage (refs.Class id)) known = omega (arith, known)
small_known (said.Stage (refs.Lost kind)) known = omega arith
small_known said.StageEnd known = tt
small_known (said.Spend time) known = tt
small_known said.End known = tt
small_known (said.EndStatement numbers) known = tt
small_known said.Quit known = tt
small_known (said.Sql text) known = sql_small (request_of text)
small_known (said.Repeat times) known = tt
small_known said.Done known = tt

may_small : (depth : ℕ) (kinds : List EventKind) (start : Option (List EventKind)) (lines : List BlockLine)
    → AllMayPlay 62 depth kinds start lines → AreSmallLines lines
unfolding AllMayPlay
may_small depth kinds None [] may = tt
may_small depth kinds (Some start) [] may = tt
may_small depth kinds None (said.Repeat times ∷ lines) may = (tt, may_small depth kinds (Some kinds) lines may)
may_small depth kinds (Some start) (said.Done ∷ lines) may = (tt, may_small depth kinds None lines may.1)
may_small depth kinds None (line ∷ lines) may =
    (small_known line may.0.known, may_small depth (kinds_behind (mark_of line) kinds) None lines may.1)
may_small depth kinds (Some start) (line ∷ lines) may =
    (small_known line may.0.known, may_small depth (kinds_behind (mark_of line) kinds) (Some start) lines may.1)

-- also with each repeat written out
copies_small : (times : ℕ) (lines : List BlockLine) → AreSmallLines lines → AreSmallLines (copies times lines)
unfolding copies
copies_small zero lines q = tt
copies_small (suc times) lines q = each_join SmallLine lines (copies times lines) q (copies_small times lines q)

abbrev IsSmallLoop : Option Repeated → Type 0
IsSmallLoop None = Unit {0}
IsSmallLoop (Some loop) = AreSmallLines loop.body

written_small : (start : Option Repeated) (lines : List BlockLine) → IsSmallLoop start → AreSmallLines lines
    → AreSmallLines (written_from start lines)
unfolding written_from
written_small None [] l q = tt
written_small (Some loop) [] l q = l
written_small None (said.Repeat times ∷ lines) l q =
    written_small (Some (record { times = times; body = [] })) lines tt q.1
written_small (Some loop) (said.Done ∷ lines) l q =
    each_join SmallLine (copies loop.times loop.body) (written_from None lines) (copies_small loop.times loop.body l)
    (written_small None lines tt q.1)
written_small None (line ∷ lines) l q = (q.0, written_small None lines tt q.1)
written_small (Some loop) (line ∷ lines) l q =
    written_small (Some (record { times = loop.times; body = loop.body ++ line ∷ [] })) lines
    (each_join SmallLine loop.body (line ∷ []) l (q.0, tt)) q.1

-- the lines of a block
map_small : (lines : List BlockLine) → AreSmallLines lines → Each IsSmall (map line_in lines)
map_small [] q = tt
map_small (line ∷ lines) q = (q.0, map_small lines q.1)

connect_small : (connect : Option Connect) → Each IsSmall (connect_lines connect)
connect_small None = tt
connect_small (Some names) = (tt, tt)

end_small : (quits : Bool) → AreSmallLines (end_of quits)
end_small true = (tt, tt)
end_small false = tt

itself : (n : ℕ) → n ≤ n
itself n = omega arith

body_small : (before after : List Phase) (block : Said) → HasBody before after block → AreSmallLines block.lines
body_small before after block has =
    let depth : ℕ = lines_among (blocks_for block.session before) + length block.lines in
    subst AreSmallLines (sym has.lines)
    (each_join SmallLine has.body (end_of has.quits)
    (may_small depth (kinds_before block.session before) None has.body (has.plays depth (itself depth)))
    (end_small has.quits))

abbrev AreSmallOf : List Line → Type 0
AreSmallOf lines = Each IsSmall lines

block_small : (before after : List Phase) (block : Said) → IsPlayableBlock before after block
    → AreSmallOf (lines_in block)
block_small before after block p =
    each_join IsSmall (connect_lines block.connect) (map line_in (written_out block.lines) ++ told.Close ∷ [])
    (connect_small block.connect)
    (each_join IsSmall (map line_in (written_out block.lines)) (told.Close ∷ [])
    (map_small (written_out block.lines)
    (written_small None block.lines tt (body_small before after block p.body))) (tt, tt))

blocks_small : (before after : List Phase) (blocks : List Said) → All (IsPlayableBlock before after) blocks
    → Each (OfSaid AreSmallOf) blocks
blocks_small before after [] p = tt
blocks_small before after (block ∷ blocks) p = (
  block_small before after block (p zero block (omega arith)),
  blocks_small before after blocks (λ k d low. p (suc k) d (within k (length blocks) low)),
) where
  within : (k n : ℕ) → k < n → suc k < suc n
  within k n low = omega (arith, low)

module _ (playable : PlayableLaw) (text : List ℕ) (setting : Setting) (whole : List Phase)
    (script : IsScript text setting whole) where
  phases_small : (before phases : List Phase) → whole ≡ before ++ phases → Each (OfPhase AreSmallOf) phases
  phases_small before [] e = tt
  phases_small before (phase ∷ phases) e = (
    blocks_small before phases phase.blocks (playable text setting whole before phase phases script e).blocks,
    phases_small (before ++ phase ∷ []) phases (e ∙ sym (append_assoc before (phase ∷ []) phases)),
  )

pub small_law : PlayableLaw → SmallLaw
small_law playable text setting phases report script run =
    of_phases AreSmallOf 1 phases report.phases run.blocks run.phases_are
    (phases_small playable text setting phases script [] phases refl)
