use Rattle.std.proofs.Common.{◌∙◌, ap, ◌-◌, take, drop}
use Rattle.pfs_model.specs.Contexts.{Context, after_entries, subject_of}
use Rattle.pfs_check_trail.specs.Trails.{trimmed}
use Rattle.pfs_check_parts.proofs.LineSteps.{line_stopped, line_noted}
use Rattle.pfs_check_parts.proofs.journals.cut_line.Goals as goal

pub returns-then-not-stop : goal.returns-then-not-stop
returns-then-not-stop c = line_stopped c.args.trail.now c.args.line.now _ c.args.entries.now c.args.at c.cut_at-stop.result
    (c.as_slice.ensures.value ∙ c.in_ok-put_shape.ensures) c.cut_at-stop.ensures.stop c.cut_at-stop.ensures.within
    c.cut_at-stop.ensures.onward c.if-not-stop.true

pub returns : goal.returns
returns c = line_noted c.args.trail.now _ c.args.line.now _ c.args.entries.now c.args.at c.cut_at-stop.result
    (c.as_slice.ensures.value ∙ c.in_ok-put_shape.ensures) c.cut_at-stop.ensures.stop c.cut_at-stop.ensures.within
    c.cut_at-stop.ensures.onward
    (c.in_ok-note_part.ensures ∙ ap (λ (z : Context). trimmed (after_entries (subject_of c.args.line.now) z
    (take (c.cut_at-stop.result.at - c.args.at) (drop c.args.at c.args.entries.now)))) c.turn.ensures)
