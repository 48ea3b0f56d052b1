use Rattle.std.proofs.Common.{◌≡◌}
use Rattle.pfs_law_plain.specs.LineSteps.{kinds_at}
use Rattle.pfs_script.specs.Marks.{copies}
use Rattle.pfs_play.specs.Errands.{HavePlayed, StagesLie}
use Rattle.pfs_play.specs.Needs.{Advanced, need_on}
use Rattle.pfs_play.proofs.repeats.play_times.Given as goal

abbrev pub invariant-loop-round : goal.invariant-loop-round
invariant-loop-round g l = record {
  played : HavePlayed l.setting g.A.Actor.setting g.A.Actor.change (copies l.round l.body) l.fn.session l.session l.fn.answers.items l.answers.items (g.A.Readable.seen l.fn.actor).reached (g.A.Readable.seen l.actor).reached;
  kinds : kinds_at l.session.state ≡ kinds_at l.fn.session.state;
  lie : StagesLie (kinds_at l.session.state);
  advanced : Advanced (need_on (copies l.round l.body)) l.fn.session l.session (g.A.Readable.seen l.fn.actor) (g.A.Readable.seen l.actor);
}
