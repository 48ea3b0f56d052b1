use Rattle.std.proofs.Common.{subst}
use Rattle.pfs_check_tops.specs.SortedTops.{AreTopsOf}
use Rattle.pfs_check_floors.proofs.collecting.Collected.into_sights.Goals as goal

pub returns : goal.returns
returns c = λ all collected rows words. record {
  rows = record {
    floors = record {
      chained = rows;
      phases = subst (AreTopsOf c.in_ok-row_phases.row_phases) collected.rows.phases c.in_ok-row_phases.ensures;
      actions = subst (AreTopsOf c.in_ok-row_actions.row_actions) collected.rows.actions c.in_ok-row_actions.ensures;
      known = c.none_known.ensures;
    };
    releases = record {
      actions = subst (AreTopsOf c.in_ok-released.released) collected.releases c.in_ok-released.ensures;
      freed = collected.freed;
    };
  };
  words = record {
    chained = words;
    phases = subst (AreTopsOf c.in_ok-word_phases.word_phases) collected.words.phases c.in_ok-word_phases.ensures;
    actions = subst (AreTopsOf c.in_ok-word_actions.word_actions) collected.words.actions c.in_ok-word_actions.ensures;
    known = c.none_known-2.ensures;
  };
}
