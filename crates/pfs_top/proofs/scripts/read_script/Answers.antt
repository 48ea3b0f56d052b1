use Rattle.std.proofs.Common.{ℕ, subst, refl}
use Rattle.std.proofs.lemmas.Result.{IfOk-weaker}
use Rattle.pfs_outside.specs.DeviceCalls.{Rose}
use Rattle.pfs_outside.proofs.SourceReads.{gave_all, gave_long}
use Rattle.pfs_script.specs.declared.reasons.Reason.TheVariants.{TooLong}
use Rattle.pfs_top.specs.Commands.{most_bytes, HasFault, HasBadText, HasBadInput}
use Rattle.pfs_top.proofs.Outcomes.{err_weaker, tells_as, ends_told, text_bad, input_long, read_bad, read_past}
use Rattle.pfs_top.proofs.scripts.read_script.Goals as goal

pub returns-in-Ok-clause-script : goal.returns-in-Ok-clause-script
returns-in-Ok-clause-script g c =
    let read = rw (← c.deref.ensures.value) at c.in-Ok.ensures in
    let left = g.S.Source.left c.args.source.now in
    let came = gave_all left (g.S.Source.left c.read_all.new.source) c.deref.result.now read.took.gave read.ended in
    IfOk-weaker c.script_in.result _ _ (λ script is. (c.deref.result.now, (came, read.within), is)) c.script_in.ensures.script

pub returns-in-Ok-clause-told : goal.returns-in-Ok-clause-told
returns-in-Ok-clause-told g c =
    let read = rw (← c.deref.ensures.value) at c.in-Ok.ensures in
    let left = g.S.Source.left c.args.source.now in
    let came = gave_all left (g.S.Source.left c.read_all.new.source) c.deref.result.now read.took.gave read.ended in
    err_weaker _ _ c.script_in.result (λ status told. ends_told _ (HasBadInput left) _ _ _ _ status (tells_as (HasBadText c.deref.result.now) (HasBadInput left) _ _ _ status (text_bad left c.deref.result.now (came, read.within)) told)) c.script_in.ensures.told

pub returns-in-Ok-clause-reads : goal.returns-in-Ok-clause-reads
returns-in-Ok-clause-reads g c =
    let read = rw (← c.deref.ensures.value) at c.in-Ok.ensures in
    err_weaker _ _ c.script_in.result (λ status told. read_bad g.S.Source.left g.S.Source.faults c.args.source.now c.read_all.new.source c.deref.result.now _ _ _ status read told) c.script_in.ensures.told

pub returns-in-Err-TooLong-clause-told : goal.returns-in-Err-TooLong-clause-told
returns-in-Err-TooLong-clause-told g c =
    let read = rw c.in-Err-TooLong.field-0-is at c.in-Err-TooLong.ensures in
    let left = g.S.Source.left c.args.source.now in
    let long = gave_long left (g.S.Source.left c.read_all.new.source) read.bytes most_bytes read.took.gave read.long in
    ends_told _ (HasBadInput left) _ _ _ _ c.complain.result (tells_as (HasFault 0 TooLong) (HasBadInput left) _ _ _ c.complain.result (input_long left long) c.complain.ensures)

pub returns-in-Err-TooLong-clause-reads : goal.returns-in-Err-TooLong-clause-reads
returns-in-Err-TooLong-clause-reads g c =
    let read = rw c.in-Err-TooLong.field-0-is at c.in-Err-TooLong.ensures in
    read_past g.S.Source.left g.S.Source.faults c.args.source.now c.read_all.new.source _ _ _ c.complain.result read c.complain.ensures

pub returns-in-Err-Failed-clause-told : goal.returns-in-Err-Failed-clause-told
returns-in-Err-Failed-clause-told g c =
    let read = rw c.in-Err-Failed.field-0-is at c.in-Err-Failed.ensures in
    let rose = subst (λ (n : ℕ). Rose n (g.S.Source.faults c.read_all.new.source)) read.took.unfailed read.rose in
    (tt, rose, refl)
