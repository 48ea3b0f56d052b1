use Rattle.std.proofs.Common.{ap, ◌∙◌}
use Rattle.pfs_admin.specs.AdministrationStates.{State as Administration}
use Rattle.pfs_containers.specs.ContainerState.{lost_in}
use Rattle.pfs_actor.proofs.plain.PlainActor.lost.Goals as goal

pub returns : goal.returns
returns g c = λ start calls led. c.lost.ensures ∙ ap (λ (z : Administration). lost_in z.kept.now) led.1
