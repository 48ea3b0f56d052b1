use Rattle.std.proofs.Common.{◌∙◌, arith}
use Rattle.pfs_play.proofs.ErrandParts.{end_ran}
use Rattle.pfs_play.proofs.HeldBounds.{played_wide}
use Rattle.pfs_play.proofs.events.end.Goals as goal

pub end-requires-clause-affords : goal.end-requires-clause-affords
end-requires-clause-affords g c = record {
  left = omega (arith, c.stage.ensures.used.left, c.requires.affords.left);
  draws = omega (arith, c.stage.ensures.used.draws, c.requires.affords.draws);
  room = omega (arith, c.stage.ensures.used.room, c.requires.affords.room);
}

pub returns-clause-run : goal.returns-clause-run
returns-clause-run g c = λ fixed change. end_ran fixed change c.args.numbers.now c.args.session.now c.stage.new.self c.end.new.self _ _ _ c.stage.ensures.played c.end.ensures.played

pub returns-clause-wide : goal.returns-clause-wide
returns-clause-wide g c =
    played_wide _ c.stage.new.self c.end.new.self (g.R.Readable.seen c.stage.new.rows).reached (g.R.Readable.seen c.end.new.rows).reached c.end.ensures.played
    (played_wide _ c.args.session.now c.stage.new.self (g.R.Readable.seen c.args.rows.now).reached (g.R.Readable.seen c.stage.new.rows).reached c.stage.ensures.played c.requires.wide)

pub returns-clause-used : goal.returns-clause-used
returns-clause-used g c = record {
  left = omega (arith, c.stage.ensures.used.left, c.end.ensures.used.left);
  draws = omega (arith, c.stage.ensures.used.draws, c.end.ensures.used.draws);
  no_more = omega (arith, c.stage.ensures.used.no_more, c.end.ensures.used.no_more);
  hand = λ r. c.end.ensures.used.hand r ∙ c.stage.ensures.used.hand r;
  words = c.end.ensures.used.words ∙ c.stage.ensures.used.words;
  name = c.end.ensures.used.name ∙ c.stage.ensures.used.name;
  room = omega (arith, c.stage.ensures.used.room, c.end.ensures.used.room);
}
