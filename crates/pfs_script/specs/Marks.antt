-- What a line of a block does to the events that are open, and the lines of a block with each repeat written out.
use Rattle.std.specs.Prelude.{ℕ, zero, suc, Bool, true, false, List, [], ◌∷◌, ◌++◌, Option, Some, None}
use Rattle.pfs_event.specs.declared.kind.EventKind.{EventKind}
use Rattle.pfs_event.specs.declared.kind.EventKind.TheVariants as kinds
use Rattle.pfs_script.specs.declared.blocks.BlockLine.{BlockLine}
use Rattle.pfs_script.specs.declared.blocks.BlockLine.TheVariants as lines

-- it opens an event of a kind; it ends the innermost, with its statement where that is a stage; it ends the open
-- stage; or nothing
pub data Mark : Type 0 where
  Opens : EventKind → Mark
  Ends : Mark
  EndsStage : Mark
  Passes : Mark

abbrev pub mark_of : BlockLine → Mark
mark_of (lines.Wait class) = Opens kinds.Wait
mark_of (lines.TableWait class table) = Opens kinds.Wait
mark_of (lines.Statement class digest) = Opens kinds.Statement
mark_of (lines.Transaction access) = Opens kinds.Transaction
mark_of (lines.Stage class) = Opens kinds.Stage
mark_of lines.StageEnd = EndsStage
mark_of (lines.Spend time) = Passes
mark_of (lines.Sql text) = Passes
mark_of lines.Quit = Passes
mark_of lines.End = Ends
mark_of (lines.EndStatement numbers) = Ends
mark_of (lines.Repeat times) = Passes
mark_of lines.Done = Passes

-- how often the lines run that begin here, where the line begins a repeat
abbrev pub repeats_of : BlockLine → Option ℕ
repeats_of (lines.Repeat times) = Some times
repeats_of (lines.Wait class) = None
repeats_of (lines.TableWait class table) = None
repeats_of (lines.Statement class digest) = None
repeats_of (lines.Transaction access) = None
repeats_of (lines.Stage class) = None
repeats_of lines.StageEnd = None
repeats_of (lines.Spend time) = None
repeats_of (lines.Sql text) = None
repeats_of lines.Quit = None
repeats_of lines.End = None
repeats_of (lines.EndStatement numbers) = None
repeats_of lines.Done = None

abbrev pub is_done : BlockLine → Bool
is_done lines.Done = true
is_done (lines.Wait class) = false
is_done (lines.TableWait class table) = false
is_done (lines.Statement class digest) = false
is_done (lines.Transaction access) = false
is_done (lines.Stage class) = false
is_done lines.StageEnd = false
is_done (lines.Spend time) = false
is_done (lines.Sql text) = false
is_done lines.Quit = false
is_done lines.End = false
is_done (lines.EndStatement numbers) = false
is_done (lines.Repeat times) = false

-- the same items so many times
unfoldable pub copies : {Item : Type 0} → ℕ → List Item → List Item
copies zero items = []
copies (suc times) items = items ++ copies times items

-- a repeat: how often its lines run, and those of them so far
pub record Repeated : Type 0 where
  pub times : ℕ
  pub body : List BlockLine

-- the lines from here on, written out, behind the lines so far of a repeat that isn't done; where it is never done
-- they stand once
unfoldable pub written_from : Option Repeated → List BlockLine → List BlockLine
written_from None [] = []
written_from (Some loop) [] = loop.body
written_from None (lines.Repeat times ∷ rest) = written_from (Some (record { times = times; body = [] })) rest
written_from (Some loop) (lines.Done ∷ rest) = copies loop.times loop.body ++ written_from None rest
written_from None (line ∷ rest) = line ∷ written_from None rest
written_from (Some loop) (line ∷ rest) = written_from (Some (record {
  times = loop.times;
  body = loop.body ++ line ∷ [];
})) rest

-- the lines with each repeat written out
abbrev pub written_out : List BlockLine → List BlockLine
written_out block = written_from None block
