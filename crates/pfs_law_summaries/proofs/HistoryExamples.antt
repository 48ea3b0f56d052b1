-- The history of two sessions, worked.
use Rattle.std.proofs.Common.{refl}
use Rattle.pfs_model.specs.EntryPlaces.{places_behind}
use Rattle.pfs_law_summaries.specs.HistoryExamples.{WorkedHistory}

pub worked_history : WorkedHistory
unfolding places_behind
worked_history = record {
  first = refl;
  first_shown = refl;
  first_there = record { connected = refl; stays = refl };
  other_kind = refl;
  quit = refl;
  quit_shown = refl;
  gone = λ t. absurd (let e = t.stays in cc);
  second = refl;
  second_shown = refl;
  past = refl;
  many = refl;
  many_shown = refl;
  again_shown = refl;
  freed = refl;
  freed_shown = refl;
  next = refl;
  next_shown = refl;
  there = record { connected = refl; stays = refl };
}
