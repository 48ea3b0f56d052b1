use Rattle.std.proofs.Common.{◌≡◌, List, length}
use Rattle.pfs_script.specs.declared.forms.Form.{Form}
use Rattle.pfs_script.specs.KnownLines.{AreKnown}
use Rattle.pfs_script.specs.ReaderAnswers.{IsBehind}
use Rattle.pfs_script.specs.Scripts.{parts_of, lines_from, script_of}
use Rattle.pfs_script.proofs.reading.read_lines.Given as goal

abbrev pub invariant-loop-line : goal.invariant-loop-line
invariant-loop-line l = (before : List Form) × (lines_from before (parts_of l.rest) ≡ script_of l.fn.bytes) × IsBehind l.reader before
    × AreKnown l.reader.heading l.reader.finds before l.known

abbrev pub decreases-loop-line : goal.decreases-loop-line
decreases-loop-line l = length l.rest
