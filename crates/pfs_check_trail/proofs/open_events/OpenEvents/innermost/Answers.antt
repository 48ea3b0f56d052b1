use Rattle.std.proofs.Common.{◌∙◌, ap}
use Rattle.pfs_model.specs.Contexts.{first_of}
use Rattle.pfs_check_trail.proofs.open_events.OpenEvents.innermost.Goals as goal

pub returns : goal.returns
returns c = c.last_of.ensures ∙ ap first_of c.as_slice.ensures
