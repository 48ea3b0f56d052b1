-- Each word behind a statement on the setup tables.
use Rattle.std.proofs.Common.{ℕ, zero, suc, ◌≡◌, ◌⊎◌, ◌<◌, ◌≤◌, ◌+◌, ◌-◌, ◌==◌, ltb, leb, Bool, true, false, if◌then◌else◌, List, [], ◌∷◌, Option, Ok, Err, Result, length, slice_set, inl, inr, refl, ap, sym, subst, ◌∙◌, arith}
use Rattle.std.proofs.lemmas.Bool.{ne_eqb, eqb-true, false≢true, eq-eqb}
use Rattle.pfs_containers.specs.declared.containers.Connection.{Connection}
use Rattle.pfs_levels.specs.declared.answers.Word.{Word}
use Rattle.pfs_matching.specs.declared.faults.FlagChange.{FlagChange}
use Rattle.pfs_matching.specs.declared.object_rows.ObjectRow.{ObjectRow}
use Rattle.pfs_rows.specs.declared.table.Table.{Table}
use Rattle.pfs_rows.specs.declared.table.Table.TheVariants.{SetupActors, SetupObjects, SetupInstruments, SetupConsumers, Threads, Accounts, Users, Hosts, Events, Summary, DigestSummary}
use Rattle.pfs_exec.specs.NewRows.{table_of}
use Rattle.pfs_setups.proofs.OtherWords.{others_stay}
use Rattle.pfs_setups.specs.Deletes.{flags_by_rows}
use Rattle.pfs_setups.specs.Inserts.{flags_by_answer, insert_answer}
use Rattle.pfs_setups.specs.ChangeLaws.{OtherWordsStay}
use Rattle.pfs_setups.specs.SetupRows.{Naming}
use Rattle.pfs_text.specs.declared.conditions.Test.{Test}
use Rattle.pfs_setups.specs.Updates.{flags_on, redecided}
use Rattle.pfs_admin.specs.declared.changes.SetupStatement.{SetupStatement}
use Rattle.pfs_admin.specs.declared.changes.SetupStatement.TheVariants.{Update as Updates, Insert as Inserts, Delete as Deletes, Show}
use Rattle.pfs_admin.specs.WordChanges.{changed_up_to, words_changed}
use Rattle.pfs_admin.specs.FoldLaws.{EachWordLaw}
use Rattle.pfs_admin.specs.SetupStatements.{first_of, first_word, flags_after, has_changed, most_of, objects_after, word_count}
use Rattle.pfs_admin.specs.AdministrationStates.{State, naming_in}
use Rattle.pfs_admin.specs.Works.{flagged, set_word, word_at}
use Rattle.pfs_admin.proofs.WordChanges.{changed_past, changed_wide}

-- a word that is set has what it got, and every other stays
set_own : (words : List Word) (at : ℕ) (word : Word) → at < length words → word_at (slice_set words at word) at ≡ word
set_own [] at word l = absurd (omega (arith, l))
set_own (w ∷ ws) zero word l = refl
set_own (w ∷ ws) (suc at) word l = set_own ws at word (omega (arith, l))

set_other : (words : List Word) (at other : ℕ) (word : Word) → (at ≡ other → ⊥) → word_at (slice_set words at word) other ≡ word_at words other
set_other [] at other word ne = refl
set_other (w ∷ ws) zero zero word ne = absurd (ne refl)
set_other (w ∷ ws) zero (suc other) word ne = refl
set_other (w ∷ ws) (suc at) zero word ne = refl
set_other (w ∷ ws) (suc at) (suc other) word ne = set_other ws at other word (λ q. ne (ap suc q))

abbrev changed_word : ℕ → Word → Word
changed_word flags word = if word.flags == flags then word else set_word word flags

own_if : (b : Bool) (words : List Word) (at flags : ℕ) → at < length words
    → word_at (if b then words else slice_set words at (set_word (word_at words at) flags)) at ≡ (if b then word_at words at else set_word (word_at words at) flags)
own_if true words at flags l = refl
own_if false words at flags l = set_own words at (set_word (word_at words at) flags) l

other_if : (b : Bool) (words : List Word) (at other flags : ℕ) → (at ≡ other → ⊥)
    → word_at (if b then words else slice_set words at (set_word (word_at words at) flags)) other ≡ word_at words other
other_if true words at other flags ne = refl
other_if false words at other flags ne = set_other words at other (set_word (word_at words at) flags) ne

module _ (change : ℕ → ℕ → ℕ) (words : List Word) (first : ℕ) where
  abbrev flags_for : ℕ → ℕ
  flags_for at = change at (word_at words at).flags

  before : (n at : ℕ) → at < first → word_at (changed_up_to change words first n) at ≡ word_at words at
  before zero at l = refl
  before (suc n) at l =
      other_if ((word_at (changed_up_to change words first n) (first + n)).flags == flags_for (first + n)) (changed_up_to change words first n) (first + n) at (flags_for (first + n)) (λ q. absurd (omega (arith, q, l)))
      ∙ before n at l

  within : (n k : ℕ) → k < n → first + k < length words
      → word_at (changed_up_to change words first n) (first + k) ≡ changed_word (flags_for (first + k)) (word_at words (first + k))
  within zero k l inside = absurd (omega (arith, l))
  within (suc n) k l inside = on (k == n) refl (λ d. within n k d inside) where
    last : List Word
    last = changed_up_to change words first n

    on : (b : Bool) → (k == n) ≡ b → (k < n → word_at last (first + k) ≡ changed_word (flags_for (first + k)) (word_at words (first + k)))
        → word_at (changed_up_to change words first (suc n)) (first + k) ≡ changed_word (flags_for (first + k)) (word_at words (first + k))
    on true e rest =
        subst (λ m. word_at (flagged last (first + n) (flags_for (first + n))) (first + m) ≡ changed_word (flags_for (first + m)) (word_at words (first + m))) (sym same)
        (own_if ((word_at last (first + n)).flags == flags_for (first + n)) last (first + n) (flags_for (first + n)) low
        ∙ ap (changed_word (flags_for (first + n))) (changed_past change words first n (first + n) (omega arith))) where
          same : k ≡ n
          same = eqb-true k n e

          low : first + n < length last
          low = omega (arith, changed_wide change words first n, same, inside)
    on false e rest =
        other_if ((word_at last (first + n)).flags == flags_for (first + n)) last (first + n) (first + k) (flags_for (first + n)) (λ q. differ (omega (arith, q)))
        ∙ rest (below differ) where
          differ : k ≡ n → ⊥
          differ q = false≢true (sym e ∙ eq-eqb k n q)

          below : (k ≡ n → ⊥) → k < n
          below ne = omega (arith, l, ne)

-- a statement leaves the words that are none of its table's rows
by_rows : (n : Naming) (objects : List ObjectRow) (table : Table) (at flags : ℕ) → (at < first_word table) ⊎ (first_word table + word_count table ≤ at) → at < 160
    → flags_by_rows n objects table at flags ≡ flags
unfolding redecided
by_rows n objects SetupObjects at flags (inl low) l = let out : leb 96 at ≡ false = grind arith in rw out refl
by_rows n objects SetupObjects at flags (inr high) l = absurd (omega (arith, high, l))
by_rows n objects SetupActors at flags o l = refl
by_rows n objects SetupInstruments at flags o l = refl
by_rows n objects SetupConsumers at flags o l = refl
by_rows n objects Threads at flags o l = refl
by_rows n objects Accounts at flags o l = refl
by_rows n objects Users at flags o l = refl
by_rows n objects Hosts at flags o l = refl
by_rows n objects (Events kind table) at flags o l = refl
by_rows n objects (Summary kind table) at flags o l = refl
by_rows n objects DigestSummary at flags o l = refl

by_answer : (n : Naming) (objects : List ObjectRow) (table : Table) (answer : Result ℕ ℕ) (at flags : ℕ) → (at < first_word table) ⊎ (first_word table + word_count table ≤ at) → at < 160
    → flags_by_answer n objects table answer at flags ≡ flags
unfolding flags_by_answer
by_answer n objects table (Ok count) at flags o l = by_rows n objects table at flags o l
by_answer n objects table (Err error) at flags o l = refl

module _ (n : Naming) (threads : List (Option Connection)) (objects : List ObjectRow) (change : FlagChange) (tests : List Test) (flags : ℕ) where
  abbrev stays : OtherWordsStay n threads objects change tests flags
  stays = others_stay n threads objects change tests flags

  by_update : (table : Table) (at : ℕ) → (at < first_word table) ⊎ (first_word table + word_count table ≤ at) → at < 160
      → flags_on n threads objects table change tests at flags ≡ flags
  unfolding flags_on
  by_update SetupConsumers at (inl low) l = absurd (omega (arith, low))
  by_update SetupConsumers at (inr high) l = stays.consumers at (λ q. omega (arith, q, high))
  by_update Threads at (inl low) l = stays.sessions at (inl low)
  by_update Threads at (inr high) l = stays.sessions at (inr high)
  by_update SetupInstruments at (inl low) l = stays.instruments at (inl low)
  by_update SetupInstruments at (inr high) l = stays.instruments at (inr high)
  by_update SetupObjects at (inl low) l = stays.before_tables at low
  by_update SetupObjects at (inr high) l = absurd (omega (arith, high, l))
  by_update SetupActors at o l = stays.actors at
  by_update Accounts at o l = refl
  by_update Users at o l = refl
  by_update Hosts at o l = refl
  by_update (Events kind table) at o l = refl
  by_update (Summary kind table) at o l = refl
  by_update DigestSummary at o l = refl

other_words : (s : State) (what : SetupStatement) (at flags : ℕ) → (at < first_of what) ⊎ (first_of what + most_of what ≤ at) → at < 160
    → flags_after s what at flags ≡ flags
other_words s (Updates u) at flags o l =
    by_update (naming_in s) s.kept.now.places.threads (objects_after (Updates u) s.objects) u.change u.tests flags u.table at o l
other_words s (Inserts i) at flags o l = by_answer (naming_in s) (objects_after (Inserts i) s.objects) (table_of i.row) (insert_answer s.actors s.objects i.row) at flags o l
other_words s (Deletes d) at flags o l = by_rows (naming_in s) (objects_after (Deletes d) s.objects) d.table at flags o l
other_words s Show at flags o l = refl

-- a word that changes as asked, or stays where nothing is asked
word_so : (flags : ℕ) (old new : Word) → new ≡ changed_word flags old
    → (new.flags ≡ flags) × (new.version ≡ (if flags == old.flags then old.version else old.version + 1))
word_so flags old new e = on (old.flags == flags) refl where
  on : (b : Bool) → (old.flags == flags) ≡ b → (new.flags ≡ flags) × (new.version ≡ (if flags == old.flags then old.version else old.version + 1))
  on true q =
      let same : old.flags ≡ flags = eqb-true old.flags flags q in
      let turned : (flags == old.flags) ≡ true = eq-eqb flags old.flags (sym same) in
      let here : new ≡ old = e ∙ ap (λ b. if b then old else set_word old flags) q in
      (ap (λ (w : Word). w.flags) here ∙ same, ap (λ (w : Word). w.version) here ∙ sym (ap (λ b. if b then old.version else old.version + 1) turned))
  on false q =
      let turned : (flags == old.flags) ≡ false = ne_eqb flags old.flags (λ r. false≢true (sym q ∙ eq-eqb old.flags flags (sym r))) in
      let here : new ≡ set_word old flags = e ∙ ap (λ b. if b then old else set_word old flags) q in
      (ap (λ (w : Word). w.flags) here, ap (λ (w : Word). w.version) here ∙ sym (ap (λ b. if b then old.version else old.version + 1) turned))

kept_so : (flags : ℕ) (old : Word) → flags ≡ old.flags → old ≡ changed_word flags old
kept_so flags old e = sym (ap (λ b. if b then old else set_word old flags) (eq-eqb old.flags flags (sym e)))

changed_so : (change : ℕ → ℕ → ℕ) (words : List Word) (first count at : ℕ) → length words ≡ 160 → at < 160
    → ((at < first) ⊎ (first + count ≤ at) → change at (word_at words at).flags ≡ (word_at words at).flags)
    → word_at (words_changed change words first count) at ≡ changed_word (change at (word_at words at).flags) (word_at words at)
unfolding words_changed
changed_so change words first count at wide l stays = by_first (ltb at first) refl where
  by_last : first ≤ at → (b : Bool) → ltb at (first + count) ≡ b → word_at (changed_up_to change words first count) at ≡ changed_word (change at (word_at words at).flags) (word_at words at)
  by_last from true q =
      let there : first + (at - first) ≡ at = omega (arith, from) in
      let low : at < first + count = grind arith in
      subst (λ z. word_at (changed_up_to change words first count) z ≡ changed_word (change z (word_at words z).flags) (word_at words z)) there
      (within change words first count (at - first) (omega (arith, from, low)) (omega (arith, there, wide, l)))
  by_last from false q =
      let high : first + count ≤ at = grind arith in
      changed_past change words first count at high ∙ kept_so _ (word_at words at) (stays (inr high))

  by_first : (b : Bool) → ltb at first ≡ b → word_at (changed_up_to change words first count) at ≡ changed_word (change at (word_at words at).flags) (word_at words at)
  by_first true q =
      let low : at < first = grind arith in
      before change words first count at low ∙ kept_so _ (word_at words at) (stays (inl low))
  by_first false q = by_last (grind arith) (ltb at (first + count)) refl

pub each_word : EachWordLaw
each_word s wide what at l =
    let so = word_so (flags_after s what at (word_at s.words at).flags) (word_at s.words at) (word_at (has_changed s what).words at)
    (changed_so (flags_after s what) s.words (first_of what) (most_of what) at wide l (λ o. other_words s what at (word_at s.words at).flags o l)) in
    record { flags = so.0; version = so.1 }
