use Rattle.std.proofs.Common.{◌∙◌, ap, reverse}
use Rattle.pfs_model.specs.Contexts.{first_of}
use Rattle.pfs_model.specs.EventNumbers.{nesting_of}
use Rattle.pfs_check_trail.proofs.OpenSteps.{first_through}
use Rattle.pfs_check_trail.proofs.open_events.OpenEvents.nesting.Goals as goal

pub returns : goal.returns
returns c = c.last_of.ensures ∙ ap (λ z. first_of (reverse z)) c.as_slice.ensures.value
    ∙ ap first_of c.self.invariant.through_is ∙ first_through (reverse c.self.inside.items.items) ∙ ap nesting_of c.self.view_is
