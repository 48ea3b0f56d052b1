-- The worked run, by computation.
use Rattle.std.proofs.Common.{refl}
use Rattle.pfs_model.specs.EntryPlaces.{places_behind}
use Rattle.pfs_script.specs.Marks.{written_from}
use Rattle.pfs_law_conservation.specs.ConservationExamples.{WorkedTags}

pub worked : WorkedTags
unfolding places_behind written_from
worked = record {
  numbers = refl;
  waits_are = refl;
  statements_are = refl;
  before = refl;
  wait_events = refl;
  statement_events = refl;
  actions_are = refl;
  actions_before = refl;
  whose_is = refl;
  whose_before = refl;
  nobody = refl;
  cell_chain = refl;
  user_chain = refl;
  removed = refl;
  found_four = refl;
  found_none = refl;
  printed = refl;
  by_user = refl;
  by_host = refl;
  globally = refl;
  by_thread = refl;
  leads = refl;
  covers_thread = refl;
  covers_user = refl;
}
