use Rattle.std.proofs.Common.{Err, ◌∙◌, subst}
use Rattle.pfs_script.specs.ReaderAnswers.{Gives}
use Rattle.pfs_script.specs.declared.reading.ScriptFault.{ScriptFault}
use Rattle.pfs_view.proofs.ScriptFits.{fault_told, script_told}
use Rattle.pfs_view.proofs.scripts.script_phases.Goals as goal

pub returns-in-Ok : goal.returns-in-Ok
returns-in-Ok c = script_told c.args.text.now c.in-Ok.script.setting c.in-Ok.script.phases c.in-Ok.ensures

pub returns-in-Err-Bad : goal.returns-in-Err-Bad
returns-in-Err-Bad c =
    let fault = subst (λ (f : ScriptFault). Gives c.args.text.now (Err f)) c.in-Err-Bad.field-0-is c.in-Err-Bad.ensures in
    c.new-in-Err-Bad.ensures
    ∙ (c.new.ensures.items ∙ fault_told c.args.text.now c.in-Err-Bad.field-0-0 c.in-Err-Bad.field-0-1 fault)
