-- Changes, number by number.
use Rattle.std.proofs.Common.{refl}
use Rattle.pfs_setups.specs.Inserts.{actors_inserted, insert_answer}
use Rattle.pfs_setups.specs.SetupRows.{held_met, rows_met, word_values}
use Rattle.pfs_setups.specs.Updates.{consumers_behind, flags_on, redecided}
use Rattle.pfs_setups.specs.ChangeExamples.{WorkedChanges}

pub worked : WorkedChanges
unfolding flags_on consumers_behind redecided rows_met held_met word_values actors_inserted
worked = record {
  consumer = refl;
  again = refl;
  consumers_met = refl;
  consumers_off = refl;
  thread = refl;
  other_user = refl;
  by_number = refl;
  nobody = refl;
  class = refl;
  unregistered = refl;
  null = refl;
  objects = refl;
  table = refl;
  mysql = refl;
  left = refl;
  off = refl;
  no_table = refl;
  twice = refl;
  stays = refl;
  once = refl;
  full = refl;
  full_twice = refl;
  comes = refl;
}
