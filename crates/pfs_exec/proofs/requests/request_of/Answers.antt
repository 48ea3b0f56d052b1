use Rattle.std.proofs.Common.{rules, ◌≡◌, ◌∙◌, Ok, Err, subst}
use Rattle.pfs_exec.specs.Plans.{IsPlanned}
use Rattle.pfs_sql.specs.Grammar.{Refuses, Says}
use Rattle.pfs_sql.specs.declared.command.Command.{Command}
use Rattle.pfs_exec.specs.Requests.{refused as spec_refused}
use Rattle.pfs_exec.proofs.PlanRequests.{not_planned, not_said, planned}
use Rattle.pfs_exec.proofs.requests.request_of.Goals as goal

pub returns-in-Err-Error : goal.returns-in-Err-Error
returns-in-Err-Error c =
    let refused = subst (λ z. Refuses z ((command : Command) → ¬ Says c.args.text.now command)) c.in-Err-Error.field-0-is c.in-Err-Error.ensures.refused in
    let told : c.refused.result ≡ spec_refused c.in-Err-Error.error = search rules in
    told ∙ not_said c.args.text.now c.in-Err-Error.error refused.0 refused.1

pub returns-in-Ok-Select : goal.returns-in-Ok-Select
returns-in-Ok-Select c =
    c.asks_rows.ensures
    ∙ planned c.one_table.ensures c.args.text.now c.in-Ok.command _ c.in-Ok.ensures.said (subst (λ z. IsPlanned c.in-Ok.command (Ok z)) c.in-Ok-Select.field-0-is c.in-Ok-Select.ensures)

pub returns-in-Ok-Change : goal.returns-in-Ok-Change
returns-in-Ok-Change c =
    c.asks_change.ensures
    ∙ planned c.one_table.ensures c.args.text.now c.in-Ok.command _ c.in-Ok.ensures.said (subst (λ z. IsPlanned c.in-Ok.command (Ok z)) c.in-Ok-Change.field-0-is c.in-Ok-Change.ensures)

pub returns-in-Err-Error-plan : goal.returns-in-Err-Error-plan
returns-in-Err-Error-plan c =
    c.refused-in-Err-Error-plan.ensures
    ∙ not_planned c.one_table.ensures c.args.text.now c.in-Ok.command c.in-Err-Error-plan.error c.in-Ok.ensures.said
    (subst (λ z. IsPlanned c.in-Ok.command (Err z)) c.in-Err-Error-plan.field-0-is c.in-Err-Error-plan.ensures)
