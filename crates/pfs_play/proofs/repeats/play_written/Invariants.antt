use Rattle.std.proofs.Common.{length, ◌-◌, ◌≡◌, ◌≤◌, None, drop}
use Rattle.pfs_law_plain.specs.LineSteps.{kinds_at}
use Rattle.pfs_script.specs.Marks.{written_out}
use Rattle.pfs_play.specs.Repeats.{AllMayPlay, HaveGone}
use Rattle.pfs_play.specs.Errands.{StagesLie, kinds_after}
use Rattle.pfs_play.proofs.repeats.play_written.Given as goal

abbrev pub invariant-loop-at : goal.invariant-loop-at
invariant-loop-at g l = record {
  count : l.at ≤ length l.lines;
  may : AllMayPlay 62 l.session.state.opened.depth (kinds_at l.session.state) None (drop l.at l.lines);
  gone : HaveGone l.setting g.A.Actor.setting g.A.Actor.change (written_out l.lines) (written_out (drop l.at l.lines)) l.fn.session l.session l.fn.answers.items l.answers.items (g.A.Readable.seen l.fn.actor) (g.A.Readable.seen l.actor);
  kinds : kinds_after (kinds_at l.session.state) (written_out (drop l.at l.lines)) ≡ kinds_after (kinds_at l.fn.session.state) (written_out l.lines);
  lie : StagesLie (kinds_at l.session.state);
}

-- proposed from the loop's first test
abbrev pub decreases-loop-at : goal.decreases-loop-at
decreases-loop-at g l = length l.lines - l.at
