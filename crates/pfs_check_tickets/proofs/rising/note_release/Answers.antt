use Rattle.std.proofs.Common.{sym, ◌∙◌, ap}
use Rattle.std.proofs.lemmas.Result.{on_ok_weaker}
use Rattle.pfs_model.specs.Chains.{release_of}
use Rattle.pfs_check_tickets.proofs.RisingFacts.{freed_more, freed_same}
use Rattle.pfs_check_tickets.proofs.rising.note_release.Goals as goal

pub returns-in-Some : goal.returns-in-Some
returns-in-Some c = on_ok_weaker c.add_release.result
    (λ step earlier place entry before.
    freed_more c.args.releases.now c.add_release.new.releases earlier place c.in-Some.release (ap release_of entry ∙ sym c.in-Some.ensures) step before)
    c.add_release.ensures

pub returns-in-None : goal.returns-in-None
returns-in-None c = λ earlier place entry before. freed_same c.args.releases.now earlier place (ap release_of entry ∙ sym c.in-None.ensures) before
