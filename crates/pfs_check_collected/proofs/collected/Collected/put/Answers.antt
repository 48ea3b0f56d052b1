use Rattle.std.proofs.Common.{List, [], ◌∷◌, ◌++◌, subst, sym}
use Rattle.pfs_check_contents.specs.declared.changes.RowChange.{RowChange}
use Rattle.pfs_check_made.specs.MadeChanges.{IsMade}
use Rattle.pfs_check_made.specs.declared.making.Made.{Made}
use Rattle.pfs_check_collected.specs.CollectedChanges.{AreChangesTold}
use Rattle.pfs_check_collected.proofs.CollectSteps.{change_more, nothing_more, unknown_more}
use Rattle.pfs_check_collected.proofs.collected.Collected.put.Goals as goal

pub returns-in-Nothing : goal.returns-in-Nothing
returns-in-Nothing c = λ given all place told is.
    nothing_more given all place c.args.self.now.changes.items c.args.self.now.is_known told
    (subst (λ (z : Made). IsMade given place z) c.in-Nothing.is is)

pub returns-in_ok-push-in-Changed : goal.returns-in_ok-push-in-Changed
returns-in_ok-push-in-Changed c = λ given all place told is.
    subst (λ (z : List RowChange). AreChangesTold given (all ++ place ∷ []) z c.args.self.now.is_known) (sym c.in_ok-push-in-Changed.ensures.items)
    (change_more given all place c.args.self.now.changes.items c.in-Changed.one c.args.self.now.is_known told
    (subst (λ (z : Made). IsMade given place z) c.in-Changed.is is))

pub returns-in-Unknown : goal.returns-in-Unknown
returns-in-Unknown c = λ given all place told is.
    unknown_more given all place c.args.self.now.changes.items (subst (λ (z : Made). IsMade given place z) c.in-Unknown.is is)
