use Rattle.std.proofs.Common.{◌≡◌, take, drop}
use Rattle.pfs_law_plain.specs.LineSteps.{kinds_at}
use Rattle.pfs_play.specs.Errands.{CanPlay, HavePlayed, StagesLie, kinds_after}
use Rattle.pfs_play.specs.Needs.{Advanced, need_on}
use Rattle.pfs_play.proofs.lines.play_lines.Given as goal

abbrev pub invariant-loop-line : goal.invariant-loop-line
invariant-loop-line g l = record {
  played : HavePlayed l.setting g.A.Actor.setting g.A.Actor.change (take l.line-index l.lines) l.fn.session l.session l.fn.answers.items l.answers.items (g.A.Readable.seen l.fn.actor).reached (g.A.Readable.seen l.actor).reached;
  can : CanPlay 62 l.session.state.opened.depth (kinds_at l.session.state) (drop l.line-index l.lines);
  kinds : kinds_after (kinds_at l.session.state) (drop l.line-index l.lines) ≡ kinds_after (kinds_at l.fn.session.state) l.lines;
  lie : StagesLie (kinds_at l.session.state);
  advanced : Advanced (need_on (take l.line-index l.lines)) l.fn.session l.session (g.A.Readable.seen l.fn.actor) (g.A.Readable.seen l.actor);
}
