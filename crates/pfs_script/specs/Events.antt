-- The lines of a session over all phases, and its events. Whether an event counts anywhere is no part of it.
use Rattle.std.specs.Prelude.{ℕ, ◌-◌, ◌==◌, List, [], ◌∷◌, map, filter, take, drop, Option, Some, None, option_map}
use Rattle.std.specs.List.{sum_by, flat_map, slice_index_or}
use Rattle.pfs_classes.specs.declared.classes.ClassRef.{ClassRef}
use Rattle.pfs_classes.specs.declared.classes.ClassRef.TheVariants as refs
use Rattle.pfs_event.specs.declared.kind.EventKind.{EventKind}
use Rattle.pfs_event.specs.declared.kind.EventKind.TheVariants as kinds
use Rattle.pfs_script.specs.declared.blocks.Access.{Access}
use Rattle.pfs_script.specs.declared.blocks.Block.{Block}
use Rattle.pfs_script.specs.declared.blocks.BlockLine.{BlockLine}
use Rattle.pfs_script.specs.declared.blocks.BlockLine.TheVariants as lines
use Rattle.pfs_script.specs.declared.blocks.Phase.{Phase}
use Rattle.pfs_script.specs.declared.blocks.StatementNumbers.{StatementNumbers}
use Rattle.pfs_script.specs.Marks.{mark_of, written_out}
use Rattle.pfs_script.specs.Brackets.{Bracket, brackets_of}

-- a session's blocks, phase after phase
abbrev pub blocks_for : ℕ → List Phase → List Block
blocks_for number phases =
    filter (λ (block : Block). block.session == number) (flat_map (λ (phase : Phase). phase.blocks) phases)

-- its lines: those of its blocks one after another, each repeat written out
abbrev pub lines_for : ℕ → List Phase → List BlockLine
lines_for number phases = flat_map (λ (block : Block). written_out block.lines) (blocks_for number phases)

-- the picoseconds that a line lets pass
abbrev pub time_of : BlockLine → ℕ
time_of (lines.Spend time) = time
time_of _ = 0

-- what an event is of: its kind, its class or lost class, the number of its table, the place of its digest text, and
-- how it uses the data
pub record Subject : Type 0 where
  pub kind : EventKind
  pub class : ClassRef
  pub table : Option ℕ
  pub digest : Option ℕ
  pub access : Option Access

-- of a kind and a class, with nothing else
abbrev pub plain_subject : EventKind → ClassRef → Subject
plain_subject kind class = record { kind = kind; class = class; table = None; digest = None; access = None }

-- the event that a line opens; a transaction is of the class 62
abbrev pub subject_of : BlockLine → Option Subject
subject_of (lines.Wait class) = Some (plain_subject kinds.Wait class)
subject_of (lines.TableWait class table) = Some (record {
  kind = kinds.Wait;
  class = class;
  table = Some table;
  digest = None;
  access = None;
})
subject_of (lines.Statement class digest) = Some (record {
  kind = kinds.Statement;
  class = class;
  table = None;
  digest = digest;
  access = None;
})
subject_of (lines.Transaction access) = Some (record {
  kind = kinds.Transaction;
  class = refs.Class 62;
  table = None;
  digest = None;
  access = Some access;
})
subject_of (lines.Stage class) = Some (plain_subject kinds.Stage class)
subject_of _ = None

-- the numbers that stand on a line
abbrev pub no_numbers : StatementNumbers
no_numbers = record { lock = 0; errors = 0; warnings = 0; affected = 0; sent = 0; examined = 0 }

abbrev pub numbers_on : BlockLine → StatementNumbers
numbers_on (lines.EndStatement numbers) = numbers
numbers_on _ = no_numbers

-- they are a statement's
abbrev pub numbers_for : EventKind → StatementNumbers → StatementNumbers
numbers_for kinds.Statement numbers = numbers
numbers_for kinds.Wait numbers = no_numbers
numbers_for kinds.Stage numbers = no_numbers
numbers_for kinds.Transaction numbers = no_numbers

-- an event: the places of its opening and its closing line, what it is of, the picoseconds that passed before it and,
-- where it is closed, in it, and a statement's numbers
pub record Event : Type 0 where
  pub opened : ℕ
  pub closed : Option ℕ
  pub subject : Subject
  pub clock : ℕ
  pub lasted : Option ℕ
  pub numbers : StatementNumbers

abbrev pub line_at : List BlockLine → ℕ → BlockLine
line_at all place = slice_index_or all place lines.Done

-- the picoseconds that the lines from one place up to another let pass
abbrev pub passed_between : List BlockLine → ℕ → ℕ → ℕ
passed_between all opened closed = sum_by time_of (take (closed - opened) (drop opened all))

abbrev pub numbers_at : List BlockLine → EventKind → Option ℕ → StatementNumbers
numbers_at all kind None = no_numbers
numbers_at all kind (Some closed) = numbers_for kind (numbers_on (line_at all closed))

-- the event of a bracket over these lines
abbrev pub event_of : List BlockLine → Bracket → Subject → Event
event_of all bracket subject = record {
  opened = bracket.opened;
  closed = bracket.closed;
  subject = subject;
  clock = passed_between all 0 bracket.opened;
  lasted = option_map (passed_between all bracket.opened) bracket.closed;
  numbers = numbers_at all subject.kind bracket.closed;
}

abbrev pub as_list : Option Event → List Event
as_list None = []
as_list (Some event) = event ∷ []

-- the events of lines, in the order of their openings
unfoldable pub events_of : List BlockLine → List Event
events_of all = flat_map
    (λ (bracket : Bracket). as_list (option_map (event_of all bracket) (subject_of (line_at all bracket.opened))))
    (brackets_of (map mark_of all))

-- the events of a session
abbrev pub events_for : ℕ → List Phase → List Event
events_for number phases = events_of (lines_for number phases)
