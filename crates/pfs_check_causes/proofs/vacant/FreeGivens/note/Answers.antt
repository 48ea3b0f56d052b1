use Rattle.std.proofs.Common.{sym, ◌∙◌, ap}
use Rattle.std.specs.Option.{option_to_list}
use Rattle.std.proofs.lemmas.Result.{on_ok_weaker}
use Rattle.pfs_check_floors.proofs.CollectFacts.{phase_more}
use Rattle.pfs_model.specs.Chains.{release_of}
use Rattle.pfs_check_causes.proofs.vacant.FreeGivens.note.Goals as goal

pub returns : goal.returns
returns c = on_ok_weaker c.push_given.result
    (λ more places place phase entry before.
    phase_more release_of places place c.args.phase (option_to_list c.release_in-release.result) c.args.self.now.releases.items
    c.push_given.new.givens.items phase (ap release_of entry ∙ sym c.release_in-release.ensures) more before)
    c.push_given.ensures
