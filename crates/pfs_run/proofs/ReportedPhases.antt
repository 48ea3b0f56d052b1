-- The blocks that a phase reports are such as a report can have.
use Rattle.std.proofs.Common.{ℕ, ◌+◌, List, [], ◌++◌, length}
use Rattle.std.specs.List.{All}
use Rattle.std.proofs.lemmas.List.Elements.{All-from_recursion}
use Rattle.pfs_model.proofs.EachLists.{each_behind}
use Rattle.pfs_admin.specs.OpeningState.{opening_flags}
use Rattle.pfs_law_plain.specs.PlainJournals.{AloneLaw}
use Rattle.pfs_classes.specs.declared.setting.Setting.{Setting}
use Rattle.pfs_journal.specs.Reports.{IsBlock}
use Rattle.pfs_matching.specs.ObjectRules.{opening_objects}
use Rattle.pfs_law_script.specs.BlocksAhead.{ahead_of}
use Rattle.pfs_law_script.specs.Course.{AreSpellsOf, phased}
use Rattle.pfs_law_report.specs.ReportableRuns.{BlocksLaw, IsReportable}
use Rattle.pfs_script.specs.Scripts.{IsScript}
use Rattle.pfs_script.specs.declared.blocks.Block.{Block}
use Rattle.pfs_script.specs.declared.blocks.Phase.{Phase}
use Rattle.pfs_seats.proofs.ReportedPhases.{told_good}
use Rattle.pfs_seats.proofs.SelectLines.{behind_phases}
use Rattle.pfs_seats.specs.Seats.{depth_of}
use Rattle.pfs_run.specs.RunPositions.{IsAlong, Standing, position}

pub blocks_good : AloneLaw → BlocksLaw → (text : List ℕ) (setting : Setting) (phases before : List Phase) (first : List Block) (after : List Phase) (run : Standing) → IsScript text setting phases
    → IsAlong setting phases (position before first (ahead_of before [] after)) run → All IsBlock run.told
blocks_good alone law text setting phases before first after run script a =
    let of : AreSpellsOf (phased (1 + length before) first) a.current =
    behind_phases setting 1 before run.ended a.earlier a.current (phased (1 + length before) first) a.phases_told a.course.blocks in
    All-from_recursion IsBlock run.told
    (told_good setting (1 + length before) first a.current run.told a.blocks_told of
    (each_behind (IsReportable setting) a.earlier a.current
    (law text setting phases (depth_of phases) (a.earlier ++ a.current) script a.course.are_spells
    (alone (opening_flags setting opening_objects) setting.limits.statement_stack (depth_of phases)
    (a.earlier ++ a.current) a.course.are_spells a.answer).shaped a.course.folded)))
