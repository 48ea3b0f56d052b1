use Rattle.std.proofs.Common.{length}
use Rattle.std.specs.List.{All, flat_map}
use Rattle.pfs_journal.specs.ReportPlaces.{Blocks, step, Leads}
use Rattle.pfs_journal.specs.ReportReadings.{IsRead}
use Rattle.pfs_journal.specs.Reports.{IsBlock}
use Rattle.pfs_journal.specs.Spelling.{block_text}
use Rattle.pfs_journal.proofs.phases.read_blocks.Given as goal

abbrev pub invariant-each_block : goal.invariant-each_block
invariant-each_block l = (IsRead (flat_map block_text l.blocks.items) (All IsBlock l.blocks.items) l.initial.line l.initial.lines.rest.now l.line l.lines.rest.now) × (Leads (step Blocks l.initial.line) l.initial.lines.rest.now l.initial.lines.taken (step Blocks l.line) l.lines.rest.now l.lines.taken)

abbrev pub decreases-each_block : goal.decreases-each_block
decreases-each_block l = length l.lines.rest.now
