use Rattle.std.proofs.Common.{◌∙◌, sym}
use Rattle.pfs_board_root.proofs.OwnReadings.{own_gathered}
use Rattle.pfs_board_root.proofs.readings.Reading.into_root.Goals as goal

pub returns-clause-gathered : goal.returns-clause-gathered
returns-clause-gathered g c = λ start calls h actors before.
    let t = c.tell.ensures in
    own_gathered _ g.W.Began.was c.args.self.root start calls h c.gathered.ensures (sym h.kept.words_start ∙ t.opened) t.outside.0 t.outside.1 t.empty actors before
