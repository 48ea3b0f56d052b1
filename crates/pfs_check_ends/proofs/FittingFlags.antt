-- What changes the flags of switch words leaves them in 16 bits.
use Rattle.std.proofs.Common.{ℕ, zero, suc, ◌+◌, ◌-◌, ◌<◌, ◌≤◌, ◌==◌, ◌^◌, nat_lt, Bool, true, false, cond, List, [], ◌∷◌, map, Option, Some, None, Result, Ok, Err, arith}
use Rattle.std.specs.Prelude.{bit_and, fold, slice_get, slice_set}
use Rattle.std.specs.List.{range_with_len, slice_index_or}
use Rattle.std.specs.Option.{option_map_or}
use Rattle.std.proofs.lemmas.Nat.{and_le_l, or_lt}
use Rattle.pfs_admin.specs.AdministrationStates.{State, naming_in}
use Rattle.pfs_admin.specs.OpeningState.{class_flags, opening_flags, table_flags, word_flags}
use Rattle.pfs_admin.specs.SetupStatements.{flags_after, objects_after}
use Rattle.pfs_admin.specs.WordChanges.{change_at, changed_up_to, flags_changed, up_to, words_changed}
use Rattle.pfs_admin.specs.Works.{Flagging, flagged, flagging, set_word, word_at}
use Rattle.pfs_admin.specs.declared.changes.SetupStatement.{SetupStatement}
use Rattle.pfs_admin.specs.declared.changes.SetupStatement.TheVariants.{Update as Updates, Insert as Inserts, Delete as Deletes, Show}
use Rattle.pfs_classes.specs.Registry.{class_at}
use Rattle.pfs_classes.specs.declared.classes.Class.{Class}
use Rattle.pfs_classes.specs.declared.setting.Setting.{Setting}
use Rattle.pfs_classes.specs.declared.setting.TableName.{TableName}
use Rattle.pfs_consumers.specs.Tree.{bit_of}
use Rattle.pfs_consumers.specs.declared.Consumer.{Consumer}
use Rattle.pfs_consumers.specs.declared.Consumer.TheVariants as consumer
use Rattle.pfs_containers.specs.declared.containers.Connection.{Connection}
use Rattle.pfs_exec.specs.NewRows.{table_of}
use Rattle.pfs_levels.specs.PlainStore.{word}
use Rattle.pfs_levels.specs.declared.answers.Word.{Word}
use Rattle.pfs_matching.specs.ObjectRules.{table_flags as decided_flags}
use Rattle.pfs_matching.specs.declared.faults.FlagChange.{FlagChange}
use Rattle.pfs_matching.specs.declared.object_rows.ObjectRow.{ObjectRow}
use Rattle.pfs_model.proofs.EachLists.{each_join}
use Rattle.pfs_model.specs.Chains.{Each}
use Rattle.pfs_rows.specs.declared.table.Table.{Table}
use Rattle.pfs_rows.specs.declared.table.Table.TheVariants as tables
use Rattle.pfs_setups.specs.Deletes.{flags_by_rows}
use Rattle.pfs_setups.specs.Inserts.{flags_by_answer, insert_answer}
use Rattle.pfs_setups.specs.SetupRows.{Naming, consumer_meets, is_met, word_values}
use Rattle.pfs_setups.specs.Updates.{consumer_step, consumers_behind, flags_decided, flags_on, redecided, table_of_word, with_bit, with_both, with_consumer}
use Rattle.pfs_tables.specs.PlaceTables.{consumers}
use Rattle.pfs_text.specs.declared.conditions.Test.{Test}
use Rattle.pfs_check_faults.specs.ReportCases.{Case, Findings, flags_in}

abbrev pub Fits : ℕ → Type 0
Fits flags = flags < 2 ^ 16

-- those of each switch word of a report fit
abbrev pub FlagsFit : Case → Findings → Type 0
FlagsFit case found = (at version : ℕ) → Fits (flags_in case found at version)

-- ---- flags

low_bit : (b : Bool) (n : ℕ) → cond {A = ℕ} b n 0 ≤ n
low_bit true n = omega arith
low_bit false n = omega arith

pub pair_fits : (a b : Bool) → Fits (cond {A = ℕ} a 1 0 + cond {A = ℕ} b 2 0)
pair_fits a b = omega (arith, low_bit a 1, low_bit b 2)

either_fits : (b : Bool) (one other : ℕ) → Fits one → Fits other → Fits (cond b one other)
either_fits true one other h k = h
either_fits false one other h k = k

cleared_fits : (flags rest : ℕ) → Fits flags → Fits (bit_and flags rest)
cleared_fits flags rest h = let low = and_le_l flags rest in omega (arith, low, h)

with_bit_fits : (bit flags : ℕ) (on : Option Bool) → 2 ^ bit < 2 ^ 16 → Fits flags → Fits (with_bit bit flags on)
with_bit_fits bit flags None small h = h
with_bit_fits bit flags (Some true) small h = or_lt 16 flags (2 ^ bit) h small
with_bit_fits bit flags (Some false) small h = cleared_fits flags (65535 - 2 ^ bit) h

with_both_fits : (change : FlagChange) (flags : ℕ) → Fits flags → Fits (with_both change flags)
with_both_fits change flags h = with_bit_fits 1 (with_bit 0 flags change.first) change.second (omega arith) (with_bit_fits 0 flags change.first (omega arith) h)

consumer_small : (c : Consumer) → 2 ^ bit_of c < 2 ^ 16
consumer_small consumer.StagesCurrent = omega arith
consumer_small consumer.StagesHistory = omega arith
consumer_small consumer.StagesHistoryLong = omega arith
consumer_small consumer.StatementsCurrent = omega arith
consumer_small consumer.StatementsHistory = omega arith
consumer_small consumer.StatementsHistoryLong = omega arith
consumer_small consumer.TransactionsCurrent = omega arith
consumer_small consumer.TransactionsHistory = omega arith
consumer_small consumer.TransactionsHistoryLong = omega arith
consumer_small consumer.WaitsCurrent = omega arith
consumer_small consumer.WaitsHistory = omega arith
consumer_small consumer.WaitsHistoryLong = omega arith
consumer_small consumer.GlobalInstrumentation = omega arith
consumer_small consumer.ThreadInstrumentation = omega arith
consumer_small consumer.StatementsDigest = omega arith

with_consumer_fits : (on : Option Bool) (flags : ℕ) (c : Consumer) → Fits flags → Fits (with_consumer on flags c)
with_consumer_fits None flags c h = h
with_consumer_fits (Some true) flags c h = or_lt 16 flags (2 ^ bit_of c) h (consumer_small c)
with_consumer_fits (Some false) flags c h = cleared_fits flags (65535 - 2 ^ bit_of c) h

fold_fits : (tests : List Test) (on : Option Bool) (before : ℕ) (cs : List Consumer) (flags : ℕ) → Fits flags → Fits (fold (consumer_step tests on before) flags cs)
fold_fits tests on before [] flags h = h
fold_fits tests on before (c ∷ cs) flags h =
    fold_fits tests on before cs (consumer_step tests on before flags c)
    (either_fits (consumer_meets tests before c) (with_consumer on flags c) flags (with_consumer_fits on flags c h) h)

consumers_fit : (tests : List Test) (on : Option Bool) (flags : ℕ) → Fits flags → Fits (consumers_behind tests on flags)
unfolding consumers_behind
consumers_fit tests on flags h = fold_fits tests on flags consumers flags h

decided_fits : (objects : List ObjectRow) (table : Option TableName) (flags : ℕ) → Fits flags → Fits (option_map_or (flags_decided objects) table flags)
decided_fits objects None flags h = h
decided_fits objects (Some table) flags h = pair_fits (decided_flags objects table.schema table.name).0 (decided_flags objects table.schema table.name).1

redecided_fits : (n : Naming) (objects : List ObjectRow) (at flags : ℕ) → Fits flags → Fits (redecided n objects at flags)
unfolding redecided
redecided_fits n objects at flags h = decided_fits objects (table_of_word n at) flags h

flags_on_fits : (n : Naming) (threads : List (Option Connection)) (objects : List ObjectRow) (table : Table) (change : FlagChange) (tests : List Test) (at flags : ℕ) → Fits flags
    → Fits (flags_on n threads objects table change tests at flags)
unfolding flags_on
flags_on_fits n threads objects tables.SetupConsumers change tests at flags h =
    either_fits (at == 0) (consumers_behind tests change.first flags) flags (consumers_fit tests change.first flags h) h
flags_on_fits n threads objects tables.SetupInstruments change tests at flags h =
    either_fits (is_met tests (word_values n threads tables.SetupInstruments at flags)) (with_both change flags) flags (with_both_fits change flags h) h
flags_on_fits n threads objects tables.Threads change tests at flags h =
    either_fits (is_met tests (word_values n threads tables.Threads at flags)) (with_both change flags) flags (with_both_fits change flags h) h
flags_on_fits n threads objects tables.SetupObjects change tests at flags h = redecided_fits n objects at flags h
flags_on_fits n threads objects _ change tests at flags h = h

rows_fit : (n : Naming) (objects : List ObjectRow) (table : Table) (at flags : ℕ) → Fits flags → Fits (flags_by_rows n objects table at flags)
rows_fit n objects tables.SetupObjects at flags h = redecided_fits n objects at flags h
rows_fit n objects _ at flags h = h

answer_fits : (n : Naming) (objects : List ObjectRow) (table : Table) (answer : Result ℕ ℕ) (at flags : ℕ) → Fits flags → Fits (flags_by_answer n objects table answer at flags)
unfolding flags_by_answer
answer_fits n objects table (Ok count) at flags h = rows_fit n objects table at flags h
answer_fits n objects table (Err error) at flags h = h

-- behind a statement on the setup tables
pub after_fits : (s : State) (what : SetupStatement) (at flags : ℕ) → Fits flags → Fits (flags_after s what at flags)
after_fits s (Updates update) at flags h =
    flags_on_fits (naming_in s) s.kept.now.places.threads (objects_after (Updates update) s.objects) update.table update.change update.tests at flags h
after_fits s (Inserts insert) at flags h =
    answer_fits (naming_in s) (objects_after (Inserts insert) s.objects) (table_of insert.row) (insert_answer s.actors s.objects insert.row) at flags h
after_fits s (Deletes delete) at flags h = rows_fit (naming_in s) (objects_after (Deletes delete) s.objects) delete.table at flags h
after_fits s Show at flags h = h

-- ---- words

abbrev pub AreFit : List Word → Type 0
AreFit words = Each (λ (one : Word). Fits one.flags) words

abbrev pub AreFlaggings : List Flagging → Type 0
AreFlaggings sets = Each (λ (one : Flagging). Fits one.flags) sets

at_fits : (words : List Word) (at : ℕ) → AreFit words → Fits (word_at words at).flags
at_fits [] at h = omega arith
at_fits (one ∷ words) zero h = h.0
at_fits (one ∷ words) (suc at) h = at_fits words at h.1

set_fits : (words : List Word) (at : ℕ) (new : Word) → AreFit words → Fits new.flags → AreFit (slice_set words at new)
set_fits [] at new h k = tt
set_fits (one ∷ words) zero new h k = (k, h.1)
set_fits (one ∷ words) (suc at) new h k = (h.0, set_fits words at new h.1 k)

pub flagged_fits : (words : List Word) (at flags : ℕ) → AreFit words → Fits flags → AreFit (flagged words at flags)
flagged_fits words at flags h k = by ((word_at words at).flags == flags) where
  by : (b : Bool) → AreFit (cond b words (slice_set words at (set_word (word_at words at) flags)))
  by true = h
  by false = set_fits words at (set_word (word_at words at) flags) h k

pub flagging_fits : (words : List Word) (at flags : ℕ) → Fits flags → AreFlaggings (flagging words at flags)
flagging_fits words at flags k = by ((word_at words at).flags == flags) where
  by : (b : Bool) → AreFlaggings (cond b [] (record { word = at; flags = flags } ∷ []))
  by true = tt
  by false = (k, tt)

module _ (change : ℕ → ℕ → ℕ) (fits : (at flags : ℕ) → Fits flags → Fits (change at flags)) (words : List Word) (first : ℕ) (h : AreFit words) where
  here : (n : ℕ) → Fits (change (first + n) (word_at words (first + n)).flags)
  here n = fits (first + n) (word_at words (first + n)).flags (at_fits words (first + n) h)

  up_to_fits : (n : ℕ) → AreFlaggings (up_to (change_at change words first) n)
  up_to_fits zero = tt
  up_to_fits (suc n) =
      each_join (λ (one : Flagging). Fits one.flags) (up_to (change_at change words first) n) (change_at change words first n) (up_to_fits n)
      (flagging_fits words (first + n) (change (first + n) (word_at words (first + n)).flags) (here n))

  pub changed_sets_fit : (count : ℕ) → AreFlaggings (flags_changed change words first count)
  unfolding flags_changed
  changed_sets_fit count = up_to_fits count

  changed_fit : (n : ℕ) → AreFit (changed_up_to change words first n)
  changed_fit zero = h
  changed_fit (suc n) = flagged_fits (changed_up_to change words first n) (first + n) (change (first + n) (word_at words (first + n)).flags) (changed_fit n) (here n)

  pub changed_words_fit : (count : ℕ) → AreFit (words_changed change words first count)
  unfolding words_changed
  changed_words_fit count = changed_fit count

-- ---- at first

class_fits : (class : Option Class) → Fits (class_flags class)
class_fits None = omega arith
class_fits (Some class) = pair_fits class.enabled class.timed

table_fits : (objects : List ObjectRow) (table : Option TableName) → Fits (table_flags objects table)
table_fits objects None = omega arith
table_fits objects (Some table) = pair_fits (decided_flags objects table.schema table.name).0 (decided_flags objects table.schema table.name).1

opening_fits : (setting : Setting) (objects : List ObjectRow) (at : ℕ) → Fits setting.consumers → Fits (word_flags setting objects at)
opening_fits setting objects at h =
    let last = cond (nat_lt at 96) (class_flags (class_at setting.classes (at - 33))) (table_flags objects (slice_get setting.tables (at - 96))) in
    either_fits (at == 0) setting.consumers (cond (nat_lt at 33) 0 last) h
    (either_fits (nat_lt at 33) 0 last (omega arith)
    (either_fits (nat_lt at 96) (class_flags (class_at setting.classes (at - 33))) (table_flags objects (slice_get setting.tables (at - 96)))
    (class_fits (class_at setting.classes (at - 33))) (table_fits objects (slice_get setting.tables (at - 96)))))

each_opening : (setting : Setting) (objects : List ObjectRow) (ats : List ℕ) → Fits setting.consumers → Each Fits (map (word_flags setting objects) ats)
each_opening setting objects [] h = tt
each_opening setting objects (at ∷ ats) h = (opening_fits setting objects at h, each_opening setting objects ats h)

pub first_fit : (setting : Setting) (objects : List ObjectRow) → Fits setting.consumers → Each Fits (opening_flags setting objects)
unfolding opening_flags
first_fit setting objects h = each_opening setting objects (range_with_len 0 160) h

pub index_fits : (flags : List ℕ) (at : ℕ) → Each Fits flags → Fits (slice_index_or flags at 0)
index_fits [] at h = omega arith
index_fits (one ∷ flags) zero h = h.0
index_fits (one ∷ flags) (suc at) h = index_fits flags at h.1

pub words_fit : (flags : List ℕ) → Each Fits flags → AreFit (map (word 0) flags)
words_fit [] h = tt
words_fit (one ∷ flags) h = (h.0, words_fit flags h.1)
