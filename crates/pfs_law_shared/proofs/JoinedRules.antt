-- Sessions at once keep all rules of a run.
use Rattle.std.proofs.Common.{ℕ, List}
use Rattle.pfs_admin.specs.OpeningState.{opening_flags}
use Rattle.pfs_matching.specs.ObjectRules.{opening_objects}
use Rattle.pfs_law_shared.specs.Floors.{FlooredLaw}
use Rattle.pfs_law_shared.specs.Joined.{JoinedLaw}
use Rattle.pfs_law_shared.specs.Order.{AllNear, NearbyLaw}
use Rattle.pfs_law_shared.specs.Rules.{RuledLaw}
use Rattle.pfs_law_shared.specs.Tickets.{ApartLaw, TicketedLaw, RisenLaw}

pub joined : RuledLaw → FlooredLaw → TicketedLaw → RisenLaw → ApartLaw → NearbyLaw → JoinedLaw
joined ruled floored ticketed risen apart nearby = λ setting change facts depths spells last are shared placed single low folded first given.
    (let flags : List ℕ = opening_flags setting opening_objects in
    let stack : ℕ = setting.limits.statement_stack in
    let near : AllNear spells = nearby setting change flags stack depths spells last are folded shared low in
    let kept = ruled setting change facts depths spells last are shared near single low folded first given in
    let floors = floored flags stack depths spells last are shared near single low in
    record {
      labelled = kept.labelled;
      rules = record {
        shaped = kept.rules.shaped;
        joint = record { rows = kept.rules.rows; words = kept.rules.words; ordered = kept.rules.ordered; floored = floors.floored };
        there = kept.rules.there;
        caused = floors.caused;
        judged = kept.rules.judged;
        numbered = kept.rules.numbered;
        answered = kept.rules.answered;
        done = kept.rules.done;
        found = kept.rules.found;
        contents = kept.rules.contents;
        ticketed = ticketed flags stack depths spells last are shared placed single low;
        risen = risen flags stack depths spells last are shared (apart setting change stack depths spells are folded) low;
      };
    })
