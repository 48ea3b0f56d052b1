use Rattle.std.proofs.Common.{◌∙◌, ap}
use Rattle.std.specs.Option.{option_to_list}
use Rattle.std.proofs.lemmas.Result.{on_ok_weaker}
use Rattle.pfs_check_floors.proofs.CollectFacts.{freed_more, freed_same}
use Rattle.pfs_check_floors.proofs.releases.note_freed.Goals as goal

pub returns-in-Some : goal.returns-in-Some
returns-in-Some c = on_ok_weaker c.keep_first.result
    (λ step places place phase is before.
    freed_more c.args.freed.now c.keep_first.new.freed places place c.args.phase c.in-Some.release phase
    (is ∙ ap option_to_list c.in-Some.is) step before)
    c.keep_first.ensures

pub returns-in-None : goal.returns-in-None
returns-in-None c = λ places place phase is before.
    freed_same c.args.freed.now places place (is ∙ ap option_to_list c.in-None.is) before
