use Rattle.std.proofs.Common.{List, ℕ, ap, sym, subst, ◌∙◌}
use Rattle.pfs_script.specs.Scripts.{IsFirstFault}
use Rattle.pfs_script.specs.ReaderAnswers.{Gives}
use Rattle.pfs_gen.specs.GeneratedScript.{script_text}
use Rattle.pfs_top.proofs.loads.generated.Goals as goal

pub unreachable-requires : goal.unreachable-requires
unreachable-requires c =
    let script = c.is_script.ensures c.args.number in
    let fault = rw (c.in-Err-Bad.is, c.in-Err-Bad.field-0-is) at c.read.ensures in
    c.exact.ensures.excludes (script_text c.args.number) script.0 script.1 c.in-Err-Bad.field-0-0 c.in-Err-Bad.field-0-1 script.2
    (subst (λ (b : List ℕ). IsFirstFault b c.in-Err-Bad.field-0-0 c.in-Err-Bad.field-0-1) (c.deref.ensures.value ∙ c.in_ok-bytes.ensures) fault)
