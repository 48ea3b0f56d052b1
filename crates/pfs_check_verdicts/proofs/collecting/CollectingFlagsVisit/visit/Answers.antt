use Rattle.std.proofs.Common.{◌∙◌, ap}
use Rattle.pfs_check_verdicts.specs.PrintedSets.{or_first, set_to}
use Rattle.pfs_check_verdicts.proofs.collecting.CollectingFlagsVisit.visit.Goals as goal

pub returns : goal.returns
returns g c = λ case found earlier context told known. (
  tt,
  record {
    opening_is = known.opening_is;
    sets_are = λ at. c.in_ok-note_set.ensures at ∙ ap (λ z. or_first z (set_to at c.args.entry.now)) (known.sets_are at);
  },
)
