use Rattle.pfs_readsets.proofs.EqualReadings.{rows_are_places}
use Rattle.pfs_readsets.proofs.ReadSteps.{noted_row, noted_word}
use Rattle.pfs_readsets.proofs.read_set.ReadSet.note.Goals as goal

pub returns-in-Slot : goal.returns-in-Slot
returns-in-Slot c = λ scope table before r next.
    let places = rows_are_places c.rows.ensures.found c.rows.ensures.back in
    let n = noted_row places c.args.self.now scope table before c.in-Slot.row c.in-Slot.seen r (rw c.in-Slot.is at next) in
    rw (c.in-Slot.is, c.note_row.ensures n.0) n.1

pub returns-in-Word : goal.returns-in-Word
returns-in-Word c = λ scope table before r next.
    let places = rows_are_places c.rows.ensures.found c.rows.ensures.back in
    let n = noted_word places c.args.self.now scope table before c.in-Word.word c.in-Word.version c.in-Word.flags r (rw c.in-Word.is at next) in
    rw (c.in-Word.is, c.note_word.ensures n.0) n.1
