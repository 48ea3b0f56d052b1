use Rattle.std.proofs.Common.{◌∙◌, ap}
use Rattle.pfs_model.specs.Contexts.{fresh}
use Rattle.pfs_model.specs.EntryPlaces.{told_by}
use Rattle.pfs_check_cut.specs.CutReports.{block_by}
use Rattle.pfs_check_trail.specs.Trails.{trimmed}
use Rattle.pfs_check_visits.proofs.BlockVisits.{block_visited}
use Rattle.pfs_check_cut.proofs.SessionSteps.{one_more}
use Rattle.pfs_check_visits.proofs.block_visits.visit_block.Goals as goal

pub returns : goal.returns
returns g c = λ case found earlier blocks are known.
    let session = c.args.cut.now.session in
    block_visited (g.V.Visit.rule case found) earlier blocks c.args.cut.now c.args.report.now c.as_slice-lines.result.now c.as_slice-ends.result.now
    (g.V.Visit.knows c.visit_lines.new.visitor case found) c.visit_lines.new.track _ c.in_ok-visited.visited
    c.as_slice-lines.ensures.value c.as_slice-ends.ensures.value
    (λ told. one_more blocks (block_by c.args.cut.now c.args.report.now) c.args.tracks.now c.take_track-track.new.tracks c.keep_track.new.tracks
    c.visit_lines.new.track are told c.take_track-track.ensures.others c.in_ok-keep_track.ensures)
    (c.in_ok-visited.ensures case found earlier (told_by session fresh blocks) (ap trimmed c.take_track-track.ensures.own ∙ are session) known)
