-- Words that an update leaves.
use Rattle.std.proofs.Common.{◌≡◌, ◌≢◌, ◌⊎◌, ℕ, ◌+◌, ◌-◌, ◌<◌, ◌≤◌, true, false, ltb, leb, List, Option, None, inl, inr, refl, arith, slice_get, slice_index_or}
use Rattle.std.proofs.lemmas.Bool.{cases_Bool, ne_eqb}
use Rattle.pfs_text.specs.declared.conditions.Test.{Test}
use Rattle.pfs_containers.specs.declared.containers.Connection.{Connection}
use Rattle.pfs_matching.specs.declared.faults.FlagChange.{FlagChange}
use Rattle.pfs_matching.specs.declared.object_rows.ObjectRow.{ObjectRow}
use Rattle.pfs_rows.specs.declared.table.Table.TheVariants.{SetupActors, SetupObjects, SetupInstruments, SetupConsumers, Threads}
use Rattle.pfs_setups.specs.ChangeLaws.{OtherWordsStay}
use Rattle.pfs_setups.specs.SetupRows.{Naming, word_values}
use Rattle.pfs_setups.specs.Updates.{flags_on, redecided}

module _ (n : Naming) (threads : List (Option Connection)) (objects : List ObjectRow) (change : FlagChange) (tests : List Test) (flags : ℕ) where
  consumers_stay : (word : ℕ) → word ≢ 0 → flags_on n threads objects SetupConsumers change tests word flags ≡ flags
  unfolding flags_on
  consumers_stay word other = rw (ne_eqb word 0 other) refl

  sessions_stay : (word : ℕ) → (word < 1) ⊎ (33 ≤ word) → flags_on n threads objects Threads change tests word flags ≡ flags
  unfolding flags_on word_values
  sessions_stay word (inl before) = let out : leb 1 word ≡ false = grind arith in rw out refl
  sessions_stay word (inr behind) =
      let from : leb 1 word ≡ true = grind arith in
      let out : ltb word 33 ≡ false = grind arith in
      rw (from, out) refl

  nobody_stays : (slot : ℕ) → slice_index_or threads slot None ≡ None → flags_on n threads objects Threads change tests (1 + slot) flags ≡ flags
  unfolding flags_on word_values
  nobody_stays slot there =
      let from : leb 1 (1 + slot) ≡ true = grind arith in
      let back : (1 + slot) - 1 ≡ slot = omega arith in
      elim (cases_Bool (ltb (1 + slot) 33)) [
        | inl below ↦ rw (from, below, back, there) refl
        | inr beyond ↦ rw (from, beyond) refl
      ]

  instruments_stay : (word : ℕ) → (word < 33) ⊎ (96 ≤ word) → flags_on n threads objects SetupInstruments change tests word flags ≡ flags
  unfolding flags_on word_values
  instruments_stay word (inl before) = let out : leb 33 word ≡ false = grind arith in rw out refl
  instruments_stay word (inr behind) =
      let from : leb 33 word ≡ true = grind arith in
      let out : ltb word 96 ≡ false = grind arith in
      rw (from, out) refl

  unregistered_stays : (id : ℕ) → slice_index_or n.classes id None ≡ None → flags_on n threads objects SetupInstruments change tests (33 + id) flags ≡ flags
  unfolding flags_on word_values
  unregistered_stays id there =
      let from : leb 33 (33 + id) ≡ true = grind arith in
      let back : (33 + id) - 33 ≡ id = omega arith in
      elim (cases_Bool (ltb (33 + id) 96)) [
        | inl below ↦ rw (from, below, back, there) refl
        | inr beyond ↦ rw (from, beyond) refl
      ]

  objects_stay : (word : ℕ) → word < 96 → flags_on n threads objects SetupObjects change tests word flags ≡ flags
  unfolding flags_on redecided
  objects_stay word before = let out : leb 96 word ≡ false = grind arith in rw out refl

  no_table_stays : (number : ℕ) → slice_get n.tables number ≡ None → flags_on n threads objects SetupObjects change tests (96 + number) flags ≡ flags
  unfolding flags_on redecided
  no_table_stays number there =
      let from : leb 96 (96 + number) ≡ true = grind arith in
      let back : (96 + number) - 96 ≡ number = omega arith in
      rw (from, back, there) refl

  actors_stay : (word : ℕ) → flags_on n threads objects SetupActors change tests word flags ≡ flags
  unfolding flags_on
  actors_stay word = refl

  pub others_stay : OtherWordsStay n threads objects change tests flags
  others_stay = record {
    actors = actors_stay;
    consumers = consumers_stay;
    sessions = sessions_stay;
    nobody = nobody_stays;
    instruments = instruments_stay;
    unregistered = unregistered_stays;
    before_tables = objects_stay;
    no_table = no_table_stays;
  }
