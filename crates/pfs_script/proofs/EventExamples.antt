-- Worked examples of a session's lines and events.
use Rattle.std.proofs.Common.{ℕ, ◌≡◌, List, [], ◌∷◌, Some, None, refl}
use Rattle.pfs_classes.specs.declared.classes.ClassRef.TheVariants as refs
use Rattle.pfs_event.specs.declared.kind.EventKind.TheVariants as kinds
use Rattle.pfs_script.specs.declared.blocks.Block.{Block}
use Rattle.pfs_script.specs.declared.blocks.BlockLine.{BlockLine}
use Rattle.pfs_script.specs.declared.blocks.BlockLine.TheVariants as lines
use Rattle.pfs_script.specs.declared.blocks.Phase.{Phase}
use Rattle.pfs_script.specs.declared.blocks.StatementNumbers.{StatementNumbers}
use Rattle.pfs_script.specs.Brackets.{brackets_from, closing_from}
use Rattle.pfs_script.specs.Marks.{copies, written_from}
use Rattle.pfs_script.specs.Events.{no_numbers, plain_subject, lines_for, events_of, events_for}

abbrev block : ℕ → List BlockLine → Block
block session said = record { session = session; connect = None; lines = said }

abbrev phase : List Block → Phase
phase blocks = record { blocks = blocks }

-- session 1 opens a statement in one phase and ends it in the next, while session 2 waits
abbrev two_phases : List Phase
two_phases =
    phase (block 1 (lines.Spend 3 ∷ lines.Statement (refs.Class 17) (Some 0) ∷ lines.Spend 5 ∷ []) ∷ block 2 (lines.Wait (refs.Class 6) ∷ []) ∷ [])
    ∷ phase (block 1 (lines.Repeat 2 ∷ lines.Spend 10 ∷ lines.Done ∷ lines.End ∷ []) ∷ [])
    ∷ []

one_after_another : lines_for 1 two_phases ≡ lines.Spend 3 ∷ lines.Statement (refs.Class 17) (Some 0) ∷ lines.Spend 5 ∷ lines.Spend 10 ∷ lines.Spend 10 ∷ lines.End ∷ []
unfolding written_from copies
one_after_another = refl

-- it lasts over both, and is no event of session 2
across : events_for 1 two_phases
    ≡ record {
      opened = 1;
      closed = Some 5;
      subject = record { kind = kinds.Statement; class = refs.Class 17; table = None; digest = Some 0; access = None };
      clock = 3;
      lasted = Some 25;
      numbers = no_numbers;
    } ∷ []
unfolding written_from copies events_of brackets_from closing_from
across = refl

left_open : events_for 2 two_phases ≡ record { opened = 0; closed = None; subject = plain_subject kinds.Wait (refs.Class 6); clock = 0; lasted = None; numbers = no_numbers } ∷ []
unfolding written_from events_of brackets_from closing_from
left_open = refl

-- the numbers on an end are a statement's: its open stage has none
abbrev six : StatementNumbers
six = record { lock = 1; errors = 2; warnings = 3; affected = 4; sent = 5; examined = 6 }

with_numbers : events_of (lines.Statement (refs.Class 17) None ∷ lines.Stage (refs.Class 12) ∷ lines.Spend 7 ∷ lines.EndStatement six ∷ [])
    ≡ record {
      opened = 0;
      closed = Some 3;
      subject = record { kind = kinds.Statement; class = refs.Class 17; table = None; digest = None; access = None };
      clock = 0;
      lasted = Some 7;
      numbers = six;
    } ∷ record { opened = 1; closed = Some 3; subject = plain_subject kinds.Stage (refs.Class 12); clock = 0; lasted = Some 7; numbers = no_numbers } ∷ []
unfolding events_of brackets_from closing_from
with_numbers = refl
