use Rattle.pfs_view.specs.Refusals.{IsNoRefusal}
use Rattle.pfs_view.specs.Views.{IsExplained, IsRefusedAt, IsWrongAt}
use Rattle.pfs_view.proofs.Outcomes.{tells_as}
use Rattle.pfs_view.proofs.WrongLines.{explained_refused, wrong_refused}
use Rattle.pfs_view.proofs.viewing.refuse.Goals as goal

pub returns-in-Ok-Some : goal.returns-in-Ok-Some
returns-in-Ok-Some g c =
    let script = c.args.script.now in
    let bytes = c.args.bytes.now in
    let refusal = c.in-Ok-Some.refusal in
    let told = rw c.in-Ok-Some.field-0-is at c.in-Ok-Some.ensures in
    tells_as (IsExplained script refusal.line refusal.reason) (IsRefusedAt script bytes c.args.at) _ _ _ c.explain.result (explained_refused script bytes c.args.at refusal.line refusal.reason told) c.explain.ensures

pub returns-in-Ok-None : goal.returns-in-Ok-None
returns-in-Ok-None g c =
    let none : IsNoRefusal c.args.bytes.now = rw c.in-Ok-None.field-0-is at c.in-Ok-None.ensures in
    tells_as (IsWrongAt c.args.at) (IsRefusedAt c.args.script.now c.args.bytes.now c.args.at) _ _ _ c.complain.result (wrong_refused c.args.script.now c.args.bytes.now c.args.at none) c.complain.ensures
