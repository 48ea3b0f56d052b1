use Rattle.std.proofs.Common.{ℕ, drop, subst, take, refl}
use Rattle.pfs_outside.specs.DeviceCalls.{Rose}
use Rattle.pfs_outside.proofs.SourceReads.{gave_all, gave_long}
use Rattle.pfs_view.specs.Views.{most_bytes, HasInput, HasView}
use Rattle.pfs_view.proofs.Outcomes.{tells_as, ends_told, input_viewed}
use Rattle.pfs_view.proofs.viewing.view.Goals as goal

pub returns-in-Ok : goal.returns-in-Ok
returns-in-Ok g c =
    let read = rw (← c.deref.ensures.value) at c.in-Ok.ensures in
    let shown = g.R.Rendering.text c.args.rendering.now in
    let left = g.S.Source.left c.args.source.now in
    let came = gave_all left (g.S.Source.left c.read_all.new.source) c.deref.result.now read.took.gave read.ended in
    let count = c.args.script_bytes in
    let bytes = c.deref.result.now in
    record { ends = ends_told shown count left _ _ _ _ c.view_input.result (tells_as (HasView shown (take count bytes) (drop count bytes)) (HasInput shown count left) _ _ _ c.view_input.result (input_viewed shown count left bytes came read.within) c.view_input.ensures) }

pub returns-in-Err-TooLong : goal.returns-in-Err-TooLong
returns-in-Err-TooLong g c =
    let read = rw c.in-Err-TooLong.field-0-is at c.in-Err-TooLong.ensures in
    record { ends = (gave_long (g.S.Source.left c.args.source.now) (g.S.Source.left c.read_all.new.source) read.bytes most_bytes read.took.gave read.long, refl) }

pub returns-in-Err-Failed : goal.returns-in-Err-Failed
returns-in-Err-Failed g c =
    let read = rw c.in-Err-Failed.field-0-is at c.in-Err-Failed.ensures in
    let rose = subst (λ (n : ℕ). Rose n (g.S.Source.faults c.read_all.new.source)) read.took.unfailed read.rose in
    record { ends = (rose, refl) }
