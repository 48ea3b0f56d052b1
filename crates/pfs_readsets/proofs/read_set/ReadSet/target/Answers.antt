use Rattle.pfs_readsets.proofs.EqualReadings.{rows_are_places}
use Rattle.pfs_readsets.proofs.ReadSteps.{told_row, told_word, told_none}
use Rattle.pfs_readsets.proofs.read_set.ReadSet.target.Goals as goal

pub returns-in-Some : goal.returns-in-Some
returns-in-Some c = λ scope table readings r.
    told_row (rows_are_places c.rows.ensures.found c.rows.ensures.back) c.args.self.now scope table readings r c.in-Some.row c.in-Some.ensures

pub returns-in-Some-next_word : goal.returns-in-Some-next_word
returns-in-Some-next_word c = λ scope table readings r.
    told_word (rows_are_places c.rows.ensures.found c.rows.ensures.back) c.args.self.now scope table readings r c.in-None.ensures c.in-Some-next_word.word c.in-Some-next_word.ensures

pub returns-in-None-next_word : goal.returns-in-None-next_word
returns-in-None-next_word c = λ scope table readings r.
    told_none (rows_are_places c.rows.ensures.found c.rows.ensures.back) c.args.self.now scope table readings r c.in-None.ensures c.in-None-next_word.ensures
