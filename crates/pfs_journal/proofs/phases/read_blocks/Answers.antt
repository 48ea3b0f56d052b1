use Rattle.std.proofs.Common.{List, sym, subst}
use Rattle.std.specs.List.{All, flat_map}
use Rattle.pfs_journal.specs.declared.blocks.BlockReport.{BlockReport}
use Rattle.pfs_journal.specs.declared.line.Line.{Line}
use Rattle.pfs_journal.specs.ReportPlaces.{Blocks, step, StopsAfter}
use Rattle.pfs_journal.specs.ReportReadings.{IsRead, Grows}
use Rattle.pfs_journal.specs.Reports.{IsBlock}
use Rattle.pfs_journal.specs.Spelling.{block_text}
use Rattle.pfs_journal.proofs.PartReadings.{read_more}
use Rattle.pfs_journal.proofs.ReaderStops.{passed}
use Rattle.pfs_journal.proofs.phases.read_blocks.Goals as goal

pub each_block-preserved : goal.each_block-preserved
each_block-preserved c = (
  read_more block_text IsBlock c.each_block.blocks.items c.take_block.new.blocks.items c.args.first c.args.lines.now.rest.now c.each_block.line c.each_block.lines.rest.now c.in_ok-line-in-Session.line c.take_block.new.lines.rest.now c.each_block.invariant.0
      (subst (λ (line : Line). Grows block_text IsBlock c.each_block.blocks.items c.take_block.new.blocks.items line c.each_block.lines.rest.now c.in_ok-line-in-Session.line c.take_block.new.lines.rest.now) (sym c.in-Session.is) c.in_ok-line-in-Session.ensures.grows),
  λ at stop. c.each_block.invariant.1 at (subst (λ (line : Line). StopsAfter (step Blocks line) c.each_block.lines.rest.now c.each_block.lines.taken at) (sym c.in-Session.is) (c.in_ok-line-in-Session.ensures.leads at stop)),
)

pub returns-in_err-line-in-Session-clause-stops : goal.returns-in_err-line-in-Session-clause-stops
returns-in_err-line-in-Session-clause-stops c = passed c.from_residual.result c.in_err-line-in-Session.field-0.0 _ _ c.from_residual.ensures (λ at told. c.each_block.invariant.1 at (subst (λ (line : Line). StopsAfter (step Blocks line) c.each_block.lines.rest.now c.each_block.lines.taken at) (sym c.in-Session.is) told)) c.in_err-line-in-Session.ensures.stops

pub returns-in_default-clause-read : goal.returns-in_default-clause-read
returns-in_default-clause-read c = subst (λ (parts : List BlockReport). IsRead (flat_map block_text parts) (All IsBlock parts) c.args.first c.args.lines.now.rest.now c.each_block.line c.each_block.lines.rest.now) (sym c.new.ensures) c.each_block.invariant.0
