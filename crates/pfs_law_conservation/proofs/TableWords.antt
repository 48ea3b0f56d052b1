-- The word of each table has the flags that the rows of `setup_objects` give it, behind any actions.
use Rattle.std.proofs.Common.{◌≡◌, refl, ℕ, zero, suc, ◌+◌, ◌-◌, ◌<◌, ◌≤◌, ◌==◌, nat_le, nat_lt, if◌then◌else◌, Bool, true, false, List, [], ◌∷◌, map, length, Option, Some, None, slice_index_or, slice_set, slice_get, IfSome, Result, Ok, Err, ne_eqb, eq-eqb, inl, inr, sym, ap, subst, ◌∙◌, arith}
use Rattle.std.specs.Option.{option_map_or}
use Rattle.std.proofs.lemmas.List.{length-map}
use Rattle.std.proofs.lemmas.Bool.{cases_lt, false≢true, eqb-true}
use Rattle.std.proofs.lemmas.List.FromFn.{get_or-map-range_with_len}
use Rattle.pfs_admin.specs.declared.changes.Change.{Change}
use Rattle.pfs_admin.specs.declared.changes.Change.TheVariants.{Connect, Quit, Truncate, Setup}
use Rattle.pfs_admin.specs.declared.changes.SetupStatement.{SetupStatement}
use Rattle.pfs_admin.specs.declared.changes.SetupStatement.TheVariants.{Update as Updates, Insert as Inserts, Delete as Deletes, Show}
use Rattle.pfs_admin.specs.WordChanges.{changed_up_to, words_changed}
use Rattle.pfs_admin.specs.Fold.{stepped, state_from}
use Rattle.pfs_admin.specs.OpeningState.{word_flags, opening_flags, table_flags, class_flags, opened}
use Rattle.pfs_admin.specs.SetupStatements.{first_of, flags_after, most_of, objects_after}
use Rattle.pfs_admin.specs.AdministrationStates.{State, naming_in, words_by, thread_flags, seat_at, seat_in}
use Rattle.pfs_admin.specs.Truncations.{has_truncated, off, off_words}
use Rattle.pfs_admin.specs.Works.{word_at, set_word, flagged}
use Rattle.pfs_admin.proofs.QuitCosts.{len_by}
use Rattle.pfs_admin.proofs.OpeningState.{flags_count, none_on}
use Rattle.pfs_admin.proofs.WordChanges.{changed_length}
use Rattle.pfs_admin.proofs.StatementWords.{each_word}
use Rattle.pfs_exec.specs.declared.changes.NewRow.{NewRow}
use Rattle.pfs_exec.specs.declared.changes.NewRow.TheVariants.{Actor, Object}
use Rattle.pfs_exec.specs.NewRows.{table_of}
use Rattle.pfs_board.specs.declared.view.Label.{Label}
use Rattle.pfs_classes.specs.declared.setting.Setting.{Setting}
use Rattle.pfs_classes.specs.declared.setting.TableName.{TableName}
use Rattle.pfs_classes.specs.Registry.{class_at}
use Rattle.pfs_containers.specs.Administration.{Containers, Found, found_where, lowest_free, session_of, connect_at, quit_line}
use Rattle.pfs_containers.specs.Connections.{emptied_at}
use Rattle.pfs_containers.specs.Connections.{stepped as places_after}
use Rattle.pfs_containers.specs.ContainerState.{AllEntries, seat_by, seated}
use Rattle.pfs_containers.specs.declared.containers.Connection.{Connection}
use Rattle.pfs_containers.specs.declared.containers.Seated.{Seated}
use Rattle.pfs_containers.proofs.PlaceBounds.{free_inside, found_inside, IfFound, IsThere, len_fill_at, len_free}
use Rattle.pfs_levels.specs.PlainStore.{word}
use Rattle.pfs_levels.specs.declared.answers.Word.{Word}
use Rattle.pfs_matching.specs.declared.actor_rows.ActorRow.{ActorRow}
use Rattle.pfs_matching.specs.declared.faults.FlagChange.{FlagChange}
use Rattle.pfs_matching.specs.declared.object_rows.ObjectRow.{ObjectRow}
use Rattle.pfs_matching.specs.KeyedRows.{with_row}
use Rattle.pfs_matching.specs.ObjectRules.{object_key, opening_objects}
use Rattle.pfs_rows.specs.declared.table.Table.{Table}
use Rattle.pfs_rows.specs.declared.table.Table.TheVariants as rows
use Rattle.pfs_setups.proofs.OtherWords.{others_stay}
use Rattle.pfs_setups.specs.Deletes.{flags_by_rows, objects_left}
use Rattle.pfs_setups.specs.Inserts.{added_by, flags_by_answer, insert_answer, objects_inserted}
use Rattle.pfs_setups.specs.SetupRows.{Naming}
use Rattle.pfs_setups.specs.Updates.{flags_decided, flags_on, objects_updated, redecided}
use Rattle.pfs_text.specs.declared.conditions.Test.{Test}
use Rattle.pfs_rows.specs.declared.truncations.Truncation.{Truncation}
use Rattle.pfs_rows.specs.declared.truncations.Truncation.TheVariants.{Events, Summary, DigestSummary, Accounts, Users, Hosts, SetupActors, SetupObjects}
use Rattle.pfs_law_conservation.specs.TruncationLaws.{TableWordsLaw}

-- a word that is set leaves any other
set_other : (words : List Word) (at other : ℕ) (word : Word) → (at ≡ other → ⊥) → word_at (slice_set words at word) other ≡ word_at words other
set_other [] at other word ne = refl
set_other (w ∷ ws) zero zero word ne = absurd (ne refl)
set_other (w ∷ ws) zero (suc other) word ne = refl
set_other (w ∷ ws) (suc at) zero word ne = refl
set_other (w ∷ ws) (suc at) (suc other) word ne = set_other ws at other word (λ e. ne (ap suc e))

other_if : (b : Bool) (words : List Word) (at other flags : ℕ) → (at ≡ other → ⊥)
    → word_at (if b then words else slice_set words at (set_word (word_at words at) flags)) other ≡ word_at words other
other_if true words at other flags ne = refl
other_if false words at other flags ne = set_other words at other (set_word (word_at words at) flags) ne

flagged_other : (words : List Word) (at other flags : ℕ) → (at ≡ other → ⊥) → word_at (flagged words at flags) other ≡ word_at words other
flagged_other words at other flags ne = other_if ((word_at words at).flags == flags) words at other flags ne

-- one that is turned off is off, also where there is none
set_off : (words : List Word) (at version : ℕ) → (word_at (slice_set words at (record { version = version; flags = 0 })) at).flags ≡ 0
set_off [] at version = refl
set_off (w ∷ ws) zero version = refl
set_off (w ∷ ws) (suc at) version = set_off ws at version

off_if : (b : Bool) (words : List Word) (at : ℕ) → ((word_at words at).flags == 0) ≡ b
    → (word_at (if b then words else slice_set words at (set_word (word_at words at) 0)) at).flags ≡ 0
off_if true words at e = eqb-true (word_at words at).flags 0 e
off_if false words at e = set_off words at ((word_at words at).version + 1)

off_own : (words : List Word) (at : ℕ) → (word_at (flagged words at 0) at).flags ≡ 0
off_own words at = off_if ((word_at words at).flags == 0) words at refl

off_all : (words : List Word) (table m : ℕ) → table < m → (word_at (changed_up_to off words 96 m) (96 + table)).flags ≡ 0
off_all words table zero l = absurd (omega (arith, l))
off_all words table (suc m) l = on (table == m) refl (λ k. off_all words table m k) where
  last : List Word
  last = changed_up_to off words 96 m

  differ : (table == m) ≡ false → table ≡ m → ⊥
  differ e q = false≢true (sym e ∙ eq-eqb table m q)

  on : (b : Bool) → (table == m) ≡ b → (table < m → (word_at last (96 + table)).flags ≡ 0) → (word_at (changed_up_to off words 96 (suc m)) (96 + table)).flags ≡ 0
  on true e rest = subst (λ k. (word_at (flagged last (96 + m) 0) (96 + k)).flags ≡ 0) (sym (eqb-true table m e)) (off_own last (96 + m))
  on false e rest =
      ap (λ (w : Word). w.flags) (flagged_other last (96 + m) (96 + table) 0 (λ q. differ e (omega (arith, q))))
      ∙ rest (below (differ e)) where
        below : (table ≡ m → ⊥) → table < m
        below ne = elim (cases_lt table m) [
          | inl k ↦ k
          | inr k ↦ absurd (ne (omega (arith, l, k)))
        ]

pub off_words_all : (words : List Word) (table : ℕ) → table < 64 → (word_at (off_words words) (96 + table)).flags ≡ 0
unfolding words_changed
off_words_all words table l = off_all words table 64 l

off_below : (words : List Word) (at m : ℕ) → at < 96 → word_at (changed_up_to off words 96 m) at ≡ word_at words at
off_below words at zero l = refl
off_below words at (suc m) l = flagged_other (changed_up_to off words 96 m) (96 + m) at 0 (λ q. omega (arith, q, l)) ∙ off_below words at m l

pub off_words_below : (words : List Word) (at : ℕ) → at < 96 → word_at (off_words words) at ≡ word_at words at
unfolding words_changed
off_words_below words at l = off_below words at 64 l

-- a statement decides a table by the rows behind it, where it changes these; a word of no table has been off
decided : (before after : List ObjectRow) (table : Option TableName) (flags : ℕ) → flags ≡ table_flags before table → option_map_or (flags_decided after) table flags ≡ table_flags after table
decided before after None flags e = e
decided before after (Some table) flags e = refl

again : (n : Naming) (before after : List ObjectRow) (table flags : ℕ) → flags ≡ table_flags before (slice_get n.tables table)
    → redecided n after (96 + table) flags ≡ table_flags after (slice_get n.tables table)
unfolding redecided
again n before after table flags e =
    let from : nat_le 96 (96 + table) ≡ true = grind arith in
    let back : (96 + table) - 96 ≡ table = omega arith in
    ap (λ z. option_map_or (flags_decided after) (if z then slice_get n.tables ((96 + table) - 96) else None) flags) from
    ∙ (ap (λ z. option_map_or (flags_decided after) (slice_get n.tables z) flags) back
    ∙ decided before after (slice_get n.tables table) flags e)

by_update : (n : Naming) (threads : List (Option Connection)) (which : Table) (tests : List Test) (change : FlagChange) (objects : List ObjectRow) (table flags : ℕ)
    → flags ≡ table_flags objects (slice_get n.tables table)
    → flags_on n threads (objects_updated which tests change objects) which change tests (96 + table) flags ≡ table_flags (objects_updated which tests change objects) (slice_get n.tables table)
unfolding flags_on
by_update n threads rows.SetupObjects tests change objects table flags e = again n objects (objects_updated rows.SetupObjects tests change objects) table flags e
by_update n threads rows.SetupInstruments tests change objects table flags e = (others_stay n threads objects change tests flags).instruments (96 + table) (inr (omega arith)) ∙ e
by_update n threads rows.SetupConsumers tests change objects table flags e = (others_stay n threads objects change tests flags).consumers (96 + table) (λ q. absurd (omega (arith, q))) ∙ e
by_update n threads rows.Threads tests change objects table flags e = (others_stay n threads objects change tests flags).sessions (96 + table) (inr (omega arith)) ∙ e
by_update n threads rows.SetupActors tests change objects table flags e = e
by_update n threads rows.Accounts tests change objects table flags e = e
by_update n threads rows.Users tests change objects table flags e = e
by_update n threads rows.Hosts tests change objects table flags e = e
by_update n threads (rows.Events kind place) tests change objects table flags e = e
by_update n threads (rows.Summary kind level) tests change objects table flags e = e
by_update n threads rows.DigestSummary tests change objects table flags e = e

by_delete : (n : Naming) (which : Table) (tests : List Test) (objects : List ObjectRow) (table flags : ℕ) → flags ≡ table_flags objects (slice_get n.tables table)
    → flags_by_rows n (objects_left which tests objects) which (96 + table) flags ≡ table_flags (objects_left which tests objects) (slice_get n.tables table)
by_delete n rows.SetupObjects tests objects table flags e = again n objects (objects_left rows.SetupObjects tests objects) table flags e
by_delete n rows.SetupInstruments tests objects table flags e = e
by_delete n rows.SetupConsumers tests objects table flags e = e
by_delete n rows.Threads tests objects table flags e = e
by_delete n rows.SetupActors tests objects table flags e = e
by_delete n rows.Accounts tests objects table flags e = e
by_delete n rows.Users tests objects table flags e = e
by_delete n rows.Hosts tests objects table flags e = e
by_delete n (rows.Events kind place) tests objects table flags e = e
by_delete n (rows.Summary kind level) tests objects table flags e = e
by_delete n rows.DigestSummary tests objects table flags e = e

-- an insertion that fails changes neither rows nor words
by_answer : (n : Naming) (answer : Result ℕ ℕ) (objects : List ObjectRow) (row : ObjectRow) (table flags : ℕ) → flags ≡ table_flags objects (slice_get n.tables table)
    → flags_by_answer n (added_by object_key answer objects row) rows.SetupObjects answer (96 + table) flags ≡ table_flags (added_by object_key answer objects row) (slice_get n.tables table)
unfolding flags_by_answer
by_answer n (Ok count) objects row table flags e = again n objects (with_row object_key row objects) table flags e
by_answer n (Err error) objects row table flags e = e

by_actor : (n : Naming) (answer : Result ℕ ℕ) (objects : List ObjectRow) (word flags : ℕ) → flags_by_answer n objects rows.SetupActors answer word flags ≡ flags
unfolding flags_by_answer
by_actor n (Ok count) objects word flags = refl
by_actor n (Err error) objects word flags = refl

by_insert : (n : Naming) (actors : List ActorRow) (objects : List ObjectRow) (row : NewRow) (table flags : ℕ) → flags ≡ table_flags objects (slice_get n.tables table)
    → flags_by_answer n (objects_inserted objects row) (table_of row) (insert_answer actors objects row) (96 + table) flags ≡ table_flags (objects_inserted objects row) (slice_get n.tables table)
unfolding objects_inserted
by_insert n actors objects (Actor row) table flags e = by_actor n (insert_answer actors objects (Actor row)) objects (96 + table) flags ∙ e
by_insert n actors objects (Object row) table flags e = by_answer n (insert_answer actors objects (Object row)) objects row table flags e

by_statement : (s : State) (what : SetupStatement) (table flags : ℕ) → flags ≡ table_flags s.objects (slice_get s.tables table)
    → flags_after s what (96 + table) flags ≡ table_flags (objects_after what s.objects) (slice_get s.tables table)
by_statement s (Updates update) table flags e = by_update (naming_in s) s.kept.now.places.threads update.table update.tests update.change s.objects table flags e
by_statement s (Inserts insert) table flags e = by_insert (naming_in s) s.actors s.objects insert.row table flags e
by_statement s (Deletes delete) table flags e = by_delete (naming_in s) delete.table delete.tests s.objects table flags e
by_statement s Show table flags e = e

-- what always holds: few slots, all words, the setting's tables, and their words as the rows have it
record Fits (setting : Setting) (s : State) : Type 0 where
  few : length s.kept.now.places.threads ≤ 32
  wide : length s.words ≡ 160
  tables : s.tables ≡ setting.tables
  words : (table : ℕ) → table < 64 → (word_at s.words (96 + table)).flags ≡ table_flags s.objects (slice_get setting.tables table)

-- at first
past_classes : (setting : Setting) (objects : List ObjectRow) (at table : ℕ) → at ≡ 96 + table → word_flags setting objects at ≡ table_flags objects (slice_get setting.tables table)
past_classes setting objects at table e =
    let a : (at == 0) ≡ false = ne_eqb at 0 (λ q. omega (arith, q, e)) in
    let b : nat_lt at 33 ≡ false = not_below at 33 (omega (arith, e)) in
    let c : nat_lt at 96 ≡ false = not_below at 96 (omega (arith, e)) in
    let d : at - 96 ≡ table = omega (arith, e) in
    ap (λ z. if z then setting.consumers else if nat_lt at 33 then 0 else if nat_lt at 96 then class_flags (class_at setting.classes (at - 33)) else table_flags objects (slice_get setting.tables (at - 96))) a
    ∙ (ap (λ z. if z then 0 else if nat_lt at 96 then class_flags (class_at setting.classes (at - 33)) else table_flags objects (slice_get setting.tables (at - 96))) b
    ∙ (ap (λ z. if z then class_flags (class_at setting.classes (at - 33)) else table_flags objects (slice_get setting.tables (at - 96))) c
    ∙ ap (λ z. table_flags objects (slice_get setting.tables z)) d)) where
      not_below : (a b : ℕ) → b ≤ a → nat_lt a b ≡ false
      not_below a b l = grind arith

first_words : (flags : List ℕ) (at : ℕ) → (word_at (map (word 0) flags) at).flags ≡ slice_index_or flags at 0
first_words [] at = refl
first_words (f ∷ flags) zero = refl
first_words (f ∷ flags) (suc at) = first_words flags at

opened_word : (setting : Setting) (objects : List ObjectRow) (at : ℕ) → at < 160 → slice_index_or (opening_flags setting objects) at 0 ≡ word_flags setting objects at
unfolding opening_flags
opened_word setting objects at l = get_or-map-range_with_len (word_flags setting objects) 0 160 at at 0 l (omega arith)

opened_fits : (setting : Setting) → Fits setting (opened setting)
opened_fits setting = record {
  few = omega (arith, len_free Connection setting.limits.thread_instances, setting.in_range.thread_instances);
  wide = length-map (opening_flags setting opening_objects) (word 0) ∙ flags_count setting opening_objects;
  tables = refl;
  words = λ table l.
      first_words (opening_flags setting opening_objects) (96 + table)
      ∙ (opened_word setting opening_objects (96 + table) (omega (arith, l))
      ∙ past_classes setting opening_objects (96 + table) table refl);
}

-- a thread's word is none of a table
thread_apart : (slot table : ℕ) → slot < 32 → 1 + slot ≡ 96 + table → ⊥
thread_apart slot table l e = omega (arith, l, e)

by_seat : (words : List Word) (flags : ℕ) (seat : Option Seated) (table : ℕ) → IfSome seat (λ one. one.slot < 32)
    → word_at (words_by words flags seat) (96 + table) ≡ word_at words (96 + table)
by_seat words flags None table low = refl
by_seat words flags (Some seat) table low = flagged_other words (1 + seat.slot) (96 + table) flags (thread_apart seat.slot table low)

connect_low : (c : Containers) (number user host : ℕ) (slot : Option ℕ) → length c.places.threads ≤ 32 → IfSome slot (λ p. p < length c.places.threads)
    → IfSome (seat_by c number user host slot) (λ one. one.slot < 32)
connect_low c number user host None few low = tt
connect_low c number user host (Some slot) few low = omega (arith, few, low)

any_entries : (xs : List (Option Connection)) → AllEntries (λ x. Unit {0}) xs
any_entries [] = tt
any_entries (None ∷ xs) = any_entries xs
any_entries (Some x ∷ xs) = (tt, any_entries xs)

quit_low : (threads : List (Option Connection)) (found : Option (Found Connection)) → length threads ≤ 32 → IfFound found (IsThere (λ x. Unit {0}) (length threads))
    → IfSome (seated found) (λ one. one.slot < 32)
quit_low threads None few there = tt
quit_low threads (Some found) few there = omega (arith, few, there.0)

-- as many slots behind each action
len_emptied : {X : Type 0} (n : ℕ) (xs : List (Option X)) → length (emptied_at n xs) ≡ length xs
len_emptied n [] = refl
len_emptied zero (x ∷ xs) = refl
len_emptied (suc n) (x ∷ xs) = ap suc (len_emptied n xs)

connect_few : (c : Containers) (number user host : ℕ) (slot : Option ℕ) → length c.places.threads ≤ 32 → length (connect_at c number user host slot).places.threads ≤ 32
connect_few c number user host None few = few
connect_few c number user host (Some slot) few = omega (arith, few, len_fill_at slot (session_of c.places number user host) c.places.threads)

quit_few : (c : Containers) (found : Option (Found Connection)) → length c.places.threads ≤ 32 → length (places_after c.places (quit_line found)).threads ≤ 32
quit_few c None few = few
quit_few c (Some found) few = omega (arith, few, len_emptied found.place c.places.threads)

truncate_fits : (setting : Setting) (s : State) (what : Truncation) → Fits setting s → Fits setting (has_truncated s what)
truncate_fits setting s (Summary kind table) fits = record { few = fits.few; wide = fits.wide; tables = fits.tables; words = fits.words }
truncate_fits setting s (Events kind table) fits = record { few = fits.few; wide = fits.wide; tables = fits.tables; words = fits.words }
truncate_fits setting s Accounts fits = record { few = fits.few; wide = fits.wide; tables = fits.tables; words = fits.words }
truncate_fits setting s Users fits = record { few = fits.few; wide = fits.wide; tables = fits.tables; words = fits.words }
truncate_fits setting s Hosts fits = record { few = fits.few; wide = fits.wide; tables = fits.tables; words = fits.words }
truncate_fits setting s DigestSummary fits = record { few = fits.few; wide = fits.wide; tables = fits.tables; words = fits.words }
truncate_fits setting s SetupActors fits = record { few = fits.few; wide = fits.wide; tables = fits.tables; words = fits.words }
truncate_fits setting s SetupObjects fits = record {
  few = fits.few;
  wide = changed_length off s.words 96 64 ∙ fits.wide;
  tables = fits.tables;
  words = λ table l. off_words_all s.words table l ∙ sym (none_on (slice_get setting.tables table));
}

step_fits : (setting : Setting) (s : State) (session : ℕ) (what : Change) → Fits setting s → Fits setting (stepped s session what)
step_fits setting s session (Connect user host) fits = record {
  few = connect_few s.kept.now session user host (lowest_free s.kept.now.places.threads) fits.few;
  wide = len_by (thread_flags s user host) s.words (seat_at s session user host) ∙ fits.wide;
  tables = fits.tables;
  words = λ table l.
      ap (λ (w : Word). w.flags) (by_seat s.words (thread_flags s user host) (seat_at s session user host) table
      (connect_low s.kept.now session user host (lowest_free s.kept.now.places.threads) fits.few (free_inside s.kept.now.places.threads)))
      ∙ fits.words table l;
}
step_fits setting s session Quit fits = record {
  few = quit_few s.kept.now (found_where (λ x. x.number == session) s.kept.now.places.threads) fits.few;
  wide = len_by 0 s.words (seat_in s session) ∙ fits.wide;
  tables = fits.tables;
  words = λ table l.
      ap (λ (w : Word). w.flags) (by_seat s.words 0 (seat_in s session) table
      (quit_low s.kept.now.places.threads (found_where (λ x. x.number == session) s.kept.now.places.threads) fits.few
      (found_inside (λ x. Unit {0}) (λ x. x.number == session) s.kept.now.places.threads (any_entries s.kept.now.places.threads))))
      ∙ fits.words table l;
}
step_fits setting s session (Truncate what) fits = truncate_fits setting s what fits
step_fits setting s session (Setup what) fits = record {
  few = fits.few;
  wide = changed_length (flags_after s what) s.words (first_of what) (most_of what) ∙ fits.wide;
  tables = fits.tables;
  words = λ table l.
      (each_word s fits.wide what (96 + table) (omega (arith, l))).flags
      ∙ (by_statement s what table (word_at s.words (96 + table)).flags (fits.words table l ∙ ap (λ z. table_flags s.objects (slice_get z table)) (sym fits.tables))
      ∙ ap (λ z. table_flags (objects_after what s.objects) (slice_get z table)) fits.tables);
}

from_fits : (setting : Setting) (change : Label → Change) (s : State) (labels : List Label) → Fits setting s → Fits setting (state_from change s labels)
unfolding state_from
from_fits setting change s [] fits = fits
from_fits setting change s (label ∷ labels) fits =
    from_fits setting change (stepped s label.session (change label)) labels (step_fits setting s label.session (change label) fits)

pub tables_law : TableWordsLaw
tables_law setting change labels table l = (from_fits setting change (opened setting) labels (opened_fits setting)).words table l
