-- The phases of a script, their blocks, and what the lines of a block say to its session.
use Rattle.std.specs.Prelude.{ℕ, Bool, true, false, if◌then◌else◌, List, [], ◌∷◌, Option, Some, None, option_map, option_and_then, unwrap_or}
use Rattle.pfs_classes.specs.declared.classes.ClassRef.{ClassRef}
use Rattle.pfs_script.specs.declared.forms.Numbers.{Numbers}
use Rattle.pfs_script.specs.declared.forms.Form.{Form}
use Rattle.pfs_script.specs.declared.forms.Form.TheVariants as form
use Rattle.pfs_script.specs.declared.blocks.BlockLine.{BlockLine}
use Rattle.pfs_script.specs.declared.blocks.BlockLine.TheVariants as said
use Rattle.pfs_script.specs.declared.blocks.StatementNumbers.{StatementNumbers}
use Rattle.pfs_script.specs.declared.blocks.Block.{Block}
use Rattle.pfs_script.specs.declared.blocks.Phase.{Phase}
use Rattle.pfs_classes.specs.declared.setting.TableName.{TableName}
use Rattle.pfs_classes.specs.declared.setting.DigestText.{DigestText}
use Rattle.pfs_script.specs.Sessions.{is_phase, ends_block}
use Rattle.pfs_script.specs.Headings.{head_of, limits_of, resolved}
use Rattle.pfs_script.specs.SessionNames.{names_of, connect_of}
use Rattle.pfs_script.specs.Finds.{table_number, digest_place, tables_of, digests_of}

-- the numbers of a statement's end; one that is over 2^64 - 1 stands on no line of a script
abbrev pub statement_numbers : Numbers → StatementNumbers
statement_numbers numbers = record {
  lock = unwrap_or numbers.lock 0;
  errors = unwrap_or numbers.errors 0;
  warnings = unwrap_or numbers.warnings 0;
  affected = unwrap_or numbers.affected 0;
  sent = unwrap_or numbers.sent 0;
  examined = unwrap_or numbers.examined 0;
}

-- what names and texts of lines stand for: classes, names by id, tables by number, and digest texts by place
pub record Sense : Type 0 where
  pub class : List ℕ → Option ClassRef
  pub names : List (List ℕ)
  pub tables : List TableName
  pub digests : List DigestText

-- under all lines
abbrev pub sense_of : List Form → Sense
sense_of lines = record {
  class = resolved (head_of lines);
  names = names_of lines;
  tables = tables_of lines;
  digests = digests_of (limits_of lines).digests lines;
}

-- what a line says to the session of its block, or that it says nothing; each class that a script starts stands for
-- something, and so does each table
abbrev pub block_line : Sense → Form → Option BlockLine
block_line sense (form.Wait class) = option_map said.Wait (sense.class class)
block_line sense (form.TableWait class schema name) =
    option_and_then (λ ref. option_map (said.TableWait ref) (table_number sense.tables schema name)) (sense.class class)
block_line sense (form.Statement class text) =
    option_map (λ ref. said.Statement ref (digest_place sense.digests text)) (sense.class class)
block_line sense (form.Transaction access) = Some (said.Transaction access)
block_line sense (form.Stage class) = option_map said.Stage (sense.class class)
block_line sense form.StageEnd = Some said.StageEnd
block_line sense (form.Spend time) = option_map said.Spend time
block_line sense form.End = Some said.End
block_line sense (form.Sql text) = Some (said.Sql text)
block_line sense form.Quit = Some said.Quit
block_line sense (form.EndStatement numbers) = Some (said.EndStatement (statement_numbers numbers))
block_line sense (form.Repeat times) = option_map said.Repeat times
block_line sense form.Done = Some said.Done
block_line sense _ = None

-- with an element in front, where there is one
abbrev pub with_front : {A : Type 0} → Option A → List A → List A
with_front None more = more
with_front (Some one) more = one ∷ more

-- what the lines say to their session, up to the next block or phase
unfoldable pub block_lines : Sense → List Form → List BlockLine
block_lines sense [] = []
block_lines sense (line ∷ lines) = if ends_block line then []
    else with_front (block_line sense line) (block_lines sense lines)

-- the block that a line begins, with these lines behind it, under these names: at its first one a session gives its
-- user and host
abbrev pub block_with : List (List ℕ) → List BlockLine → Form → Option Block
block_with names lines (form.Connect session user host) =
    option_map (λ number. record {
      session = number;
      connect = Some (connect_of names user host);
      lines = lines;
    }) session
block_with names lines (form.Resume session) = option_map (λ number. record {
  session = number;
  connect = None;
  lines = lines;
}) session
block_with names lines _ = None

abbrev pub block_behind : Sense → List Form → Form → Option Block
block_behind sense lines line = block_with sense.names (block_lines sense lines) line

-- the blocks of the lines, up to the next phase
unfoldable pub blocks_of : Sense → List Form → List Block
blocks_of sense [] = []
blocks_of sense (line ∷ lines) =
    if is_phase line then [] else with_front (block_behind sense lines line) (blocks_of sense lines)

-- with a phase of these blocks in front, where one begins
abbrev pub with_phase : Bool → List Block → List Phase → List Phase
with_phase true blocks more = record { blocks = blocks } ∷ more
with_phase false blocks more = more

-- the phases of the lines
unfoldable pub phases_of : Sense → List Form → List Phase
phases_of sense [] = []
phases_of sense (line ∷ lines) = with_phase (is_phase line) (blocks_of sense lines) (phases_of sense lines)
