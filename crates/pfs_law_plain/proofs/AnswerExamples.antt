-- Two sessions on a store and an administration as they open, in any setting: the first one asks which consumers there
-- are, the second which actors are instrumented. All that the law asks of them holds, and so do their answers.
use Rattle.std.proofs.Common.{ℕ, zero, suc, ◌≡◌, ◌≤◌, ◌+◌, Bool, false, List, [], ◌∷◌, ◌++◌, length, map, filter, slice_index_or, Option, Some, None, refl, ap, sym, ◌∙◌, arith, ne_eqb}
use Rattle.std.proofs.lemmas.List.Sorted.{IsPermutation-refl}
use Rattle.pfs_admin.specs.WordChanges.{flags_changed}
use Rattle.pfs_admin.specs.Fold.{state_from, state_of}
use Rattle.pfs_admin.specs.OpeningState.{opening_flags}
use Rattle.pfs_admin.specs.SetupStatements.{has_changed}
use Rattle.pfs_admin.specs.AdministrationStates.{State as Administration}
use Rattle.pfs_admin.specs.declared.changes.Change.{Change}
use Rattle.pfs_admin.specs.declared.changes.Change.TheVariants.{Setup}
use Rattle.pfs_admin.specs.declared.changes.SetupStatement.TheVariants.{Show}
use Rattle.pfs_law_plain.specs.Spells.{Doing, Spell, AreSpells, stints_of, calls_of, parts_in}
use Rattle.pfs_board.specs.declared.view.Label.{Label}
use Rattle.pfs_classes.specs.declared.setting.Setting.{Setting}
use Rattle.pfs_event.specs.declared.entry.Entry.TheVariants as says
use Rattle.pfs_exec.specs.Selections.{IsAnswer, meets_all, named_columns}
use Rattle.pfs_exec.specs.declared.query.Select.{Select}
use Rattle.pfs_law_plain.specs.ToldAnswers.{Answers}
use Rattle.pfs_levels.specs.JointCalls.{sets_of}
use Rattle.pfs_levels.specs.PlainStore.{AllAnswer, ops_of, slot_after, word_after, labels_after}
use Rattle.pfs_matching.specs.ObjectRules.{opening_objects}
use Rattle.pfs_model.specs.Chains.{Each}
use Rattle.pfs_model.specs.Contents.{Facts}
use Rattle.pfs_law_session.specs.Deeds.{Showing, Querying, Closing, Part, IsPart}
use Rattle.pfs_law_session.specs.JournalLaws.{entries_of as part_entries_of}
use Rattle.pfs_law_session.specs.Stints.{AreStints}
use Rattle.pfs_readsets.proofs.TestedNumbers.{passing_none, passing_no, passing_yes}
use Rattle.pfs_readsets.specs.TablePlaces.{scope_of, has_cell, reads}
use Rattle.pfs_readsets.specs.ReadSets.{IsReadSet, is_whole, on_place, passing, row_test, word_test}
use Rattle.pfs_readsets.specs.declared.target.Target.TheVariants as targets
use Rattle.pfs_rows.specs.Rows.{place_at}
use Rattle.pfs_rows.specs.declared.place.Place.{Place}
use Rattle.pfs_rows.specs.declared.place.Place.TheVariants.{Admin, ThreadInfo, AccountInfo, UserInfo, HostInfo, ThreadCell, AccountCell, UserCell, HostCell, GlobalCell, DigestNull, Digest, Ring, Long}
use Rattle.pfs_rows.specs.declared.table.Reading.{Reading}
use Rattle.pfs_rows.specs.declared.table.Reading.TheVariants as readings
use Rattle.pfs_rows.specs.declared.table.Table.{Table}
use Rattle.pfs_rows.specs.declared.table.Table.TheVariants as tables
use Rattle.pfs_law_plain.specs.ActionFolds.{AreFolded}
use Rattle.pfs_runs.specs.SelectAnswers.{Answer, Selection, Stored, Held, AreAnswers}
use Rattle.pfs_session.specs.Inquiries.{Inquiry, Looks, Remarks, inquiry_calls, inquiry_entry}
use Rattle.pfs_session.specs.SessionStates.{State, fresh, nothing_held}
use Rattle.pfs_session.specs.Turns.{Changes, Inquires, SettlesHeld, Turn, acted}
use Rattle.pfs_session.specs.declared.remarks.Remark.TheVariants as remarks
use Rattle.pfs_setups.specs.HeldRows.{held_rows}
use Rattle.pfs_tables.specs.ListedRows.{listed_rows}
use Rattle.pfs_text.specs.declared.values.RowValue.{RowValue}
use Rattle.pfs_law_plain.proofs.ShownAnswers.{answered}
use Rattle.pfs_law_plain.specs.RunRules.{labels_of, contents_of}
use Rattle.pfs_law_plain.specs.ShownAnswers.{IsAnsweredBy, IsShownIn}

-- some columns of all rows of a table, as they stand
abbrev all_of : Table → List ℕ → Select
all_of table columns = record { table = table; columns = columns; tests = []; order = []; limit = None }

abbrev answer_in : List ℕ → List (List RowValue) → Answer
answer_in columns rows = map (named_columns columns) (filter (meets_all []) rows)

is_answer : (table : Table) (columns : List ℕ) (rows : List (List RowValue)) → IsAnswer (all_of table columns) rows (answer_in columns rows)
is_answer table columns rows =
    let same : List (List RowValue) = filter (meets_all []) rows in
    record { sorted = same; in_order = record { permutation = IsPermutation-refl same; ascending = λ k d low high. refl; stable = λ x. refl }; shown = refl }

-- the consumers' table has word 0 alone
none_pass : (test : ℕ → Bool) (from count : ℕ) → ((k : ℕ) → from ≤ k → test k ≡ false) → passing test from count ≡ []
none_pass test from zero fails = passing_none test from
none_pass test from (suc count) fails = passing_no test from count (fails from (omega arith)) ∙ none_pass test (from + 1) count (λ k low. fails k (omega (arith, low)))

reads_none : (cells : ℕ → Bool) (digests : ℕ) (whole : ℕ → Bool) (place : Place) → reads tables.SetupConsumers cells digests whole place ≡ false
reads_none cells digests whole Admin = refl
reads_none cells digests whole (ThreadInfo thread) = refl
reads_none cells digests whole (AccountInfo account) = refl
reads_none cells digests whole (UserInfo user) = refl
reads_none cells digests whole (HostInfo host) = refl
reads_none cells digests whole (ThreadCell thread cell) = refl
reads_none cells digests whole (AccountCell account cell) = refl
reads_none cells digests whole (UserCell user cell) = refl
reads_none cells digests whole (HostCell host cell) = refl
reads_none cells digests whole (GlobalCell cell) = refl
reads_none cells digests whole DigestNull = refl
reads_none cells digests whole (Digest digest) = refl
reads_none cells digests whole (Ring thread place) = refl
reads_none cells digests whole (Long number place) = refl

place_none : (cells : ℕ → Bool) (digests : ℕ) (whole : ℕ → Bool) (place : Option Place) → on_place (reads tables.SetupConsumers cells digests whole) place ≡ false
place_none cells digests whole None = refl
place_none cells digests whole (Some place) = reads_none cells digests whole place

abbrev flags : Setting → List ℕ
flags setting = opening_flags setting opening_objects

abbrev found : Setting → List Reading
found setting = readings.Word 0 0 (slice_index_or (flags setting) 0 0) ∷ []

is_read : (setting : Setting) → IsReadSet (scope_of setting) tables.SetupConsumers (found setting)
is_read setting =
    let rows : ℕ → Bool = row_test (scope_of setting) tables.SetupConsumers (found setting) in
    let words : ℕ → Bool = word_test (scope_of setting) tables.SetupConsumers (found setting) in
    let no_rows : passing rows 0 14242 ≡ [] =
    none_pass rows 0 14242 (λ k low. place_none (has_cell (scope_of setting) tables.SetupConsumers) (scope_of setting).digests (is_whole (found setting)) (place_at k)) in
    let one_word : passing words 0 160 ≡ 0 ∷ [] =
    passing_yes words 0 159 refl ∙ ap (λ z. 0 ∷ z) (none_pass words (0 + 1) 159 (λ k low. ne_eqb k 0 (λ z. absurd (omega (arith, low, z))))) in
    sym (ap (λ z. map targets.Row z ++ map targets.Word (passing words 0 160)) no_rows ∙ ap (map targets.Word) one_word)

-- what a session does at an inquiry, and at the end of its block
abbrev asks : State → Inquiry → Turn
asks s what = record { step = Inquires what; calls = inquiry_calls what; entries = inquiry_entry what ∷ []; after = s }

abbrev settles : State → Turn
settles s = record { step = SettlesHeld; calls = []; entries = []; after = record s { held = nothing_held } }

abbrev closing : State → Part
closing s = record { deed = Closing; turns = settles s ∷ [] }

-- the first session: NAME and ENABLED of the consumers
abbrev consumers : Setting → Answer
consumers setting = answer_in (0 ∷ 1 ∷ []) (listed_rows setting tables.SetupConsumers (found setting))

abbrev one : Setting → State
one setting = fresh 1 setting.limits.statement_stack 5

abbrev query : Setting → Part
query setting = record {
  deed = Querying (found setting) (length (consumers setting));
  turns = asks (one setting) (Remarks (remarks.Rows (length (consumers setting)))) ∷ asks (one setting) (Looks (readings.Word 0 0 (slice_index_or (flags setting) 0 0)))
      ∷ asks (one setting) (Remarks remarks.Query) ∷ [];
}

abbrev done : Part → Doing
done part = record { part = part; label = record { session = 0; line = 0 }; labels = []; met = None }

abbrev first : Setting → Spell
first setting = record { phase = 0; session = 1; doings = done (query setting) ∷ done (closing (one setting)) ∷ [] }

-- the second one: HOST, USER and ROLE of the actors. It is the only one with actions
abbrev change : Label → Change
change label = Setup Show

abbrev admin : Setting → Administration
admin setting = state_of setting change []

abbrev actors : Setting → Answer
actors setting = answer_in (0 ∷ 1 ∷ 2 ∷ []) (held_rows tables.SetupActors (admin setting).actors (admin setting).objects)

abbrev two : Setting → State
two setting = fresh 2 setting.limits.statement_stack 5

abbrev acts : Setting → Turn
acts setting = record {
  step = Changes (admin setting) Show;
  calls = [];
  entries = says.Act ((admin setting).actions + 1) ∷ [];
  after = acted (two setting) (has_changed (admin setting) Show);
}

abbrev show : Setting → Part
show setting = record {
  deed = Showing (admin setting) (length (actors setting));
  turns = asks (acts setting).after (Remarks (remarks.Rows (length (actors setting)))) ∷ acts setting ∷ settles (two setting) ∷ [];
}

abbrev second : Setting → Spell
second setting = record {
  phase = 0;
  session = 2;
  doings = record { part = show setting; label = record { session = 2; line = 1 }; labels = []; met = None } ∷ done (closing (acts setting).after) ∷ [];
}

abbrev spells : Setting → List Spell
spells setting = first setting ∷ second setting ∷ []

-- they are spells
is_query : (setting : Setting) → IsPart (one setting) (query setting)
is_query setting = record {
  are_turns = (record { calls_are = refl; entries_are = refl; after_is = refl }, (record { calls_are = refl; entries_are = refl; after_is = refl }, (record { calls_are = refl; entries_are = refl; after_is = refl }, tt)));
  steps_are = refl;
}

is_show : (setting : Setting) → IsPart (two setting) (show setting)
unfolding flags_changed
is_show setting = record {
  are_turns = (
    record { calls_are = refl; entries_are = refl; after_is = refl },
    (
      record {
        changes = says.Act ((admin setting).actions + 1) ∷ [];
        works = record { moves = []; made = []; are_moves = refl; signs_are = refl; calls_are = refl; entries_are = refl };
        entries_are = refl;
        after_is = refl;
      },
      (record { unseated = λ e. refl; paid = []; owed_are = refl; calls_are = refl; entries_are = refl; after_is = refl }, tt),
    ),
  );
  steps_are = refl;
}

closes_one : (setting : Setting) → IsPart (one setting) (closing (one setting))
closes_one setting = record { are_turns = (record { unseated = λ e. refl; paid = []; owed_are = refl; calls_are = refl; entries_are = refl; after_is = refl }, tt); steps_are = refl }

closes_two : (setting : Setting) → IsPart (acts setting).after (closing (acts setting).after)
closes_two setting = record { are_turns = (record { unseated = λ e. refl; paid = []; owed_are = refl; calls_are = refl; entries_are = refl; after_is = refl }, tt); steps_are = refl }

are_stints : (setting : Setting) → AreStints setting.limits.statement_stack (λ session. 5) (stints_of (spells setting))
are_stints setting = (
  omega arith,
  record { are_parts = (is_query setting, (closes_one setting, tt)); may = ((refl, (omega arith, tt)), (tt, tt)) },
  (omega arith, record { are_parts = (is_show setting, (closes_two setting, tt)); may = (refl, (tt, tt)) }, tt),
)

are_spells : (setting : Setting) → AreSpells setting.limits.statement_stack (λ session. 5) (spells setting)
unfolding state_from
are_spells setting = record { stints = are_stints setting; entered = ((tt, (tt, tt)), (((refl, refl), (tt, tt)), tt)) }

-- a store as it opens answered them, and the administration that is named is the fold of no actions
answer : (setting : Setting) → AllAnswer (flags setting) (calls_of (spells setting))
unfolding ops_of sets_of slot_after word_after labels_after
answer setting = (refl, ((refl, refl), ((omega arith, refl), tt)))

folded : (setting : Setting) → AreFolded setting change (spells setting)
folded setting = ((tt, (tt, tt)), (((refl, refl), (tt, tt)), tt))

shown : (setting : Setting) (facts : ℕ → ℕ → Facts) → Each (IsShownIn setting change facts (labels_of (spells setting)) (contents_of (spells setting)) (spells setting)) (spells setting)
shown setting facts = answered setting change facts (λ session. 5) (spells setting) (are_spells setting) (answer setting) (folded setting)

-- the SELECTs of their lines, neither end of a block being one, and what they were told
abbrev first_asks : List (Option Selection)
first_asks = Some (Stored (all_of tables.SetupConsumers (0 ∷ 1 ∷ []))) ∷ None ∷ []

abbrev second_asks : List (Option Selection)
second_asks = Some (Held (all_of tables.SetupActors (0 ∷ 1 ∷ 2 ∷ []))) ∷ None ∷ []

first_told : (setting : Setting) → AreAnswers (Answers setting) first_asks (parts_in (first setting).doings) (consumers setting ∷ [])
first_told setting =
    (record { whole = is_read setting; answered = is_answer tables.SetupConsumers (0 ∷ 1 ∷ []) (listed_rows setting tables.SetupConsumers (found setting)); counted = refl }, refl)

second_told : (setting : Setting) → AreAnswers (Answers setting) second_asks (parts_in (second setting).doings) (actors setting ∷ [])
second_told setting = ((is_answer tables.SetupActors (0 ∷ 1 ∷ 2 ∷ []) (held_rows tables.SetupActors (admin setting).actors (admin setting).objects), refl), refl)

-- so their journals answer the same, by the whole run
pub record BothAnswered (setting : Setting) (facts : ℕ → ℕ → Facts) : Type 0 where
  pub consumers_are : AreAnswers (IsAnsweredBy setting change facts (labels_of (spells setting)) (contents_of (spells setting)) (spells setting)) first_asks (part_entries_of (parts_in (first setting).doings)) (consumers setting ∷ [])
  pub actors_are : AreAnswers (IsAnsweredBy setting change facts (labels_of (spells setting)) (contents_of (spells setting)) (spells setting)) second_asks (part_entries_of (parts_in (second setting).doings)) (actors setting ∷ [])

pub both : (setting : Setting) (facts : ℕ → ℕ → Facts) → BothAnswered setting facts
both setting facts =
    let all = shown setting facts in
    record {
      consumers_are = all.0 first_asks (consumers setting ∷ []) (first_told setting);
      actors_are = all.1.0 second_asks (actors setting ∷ []) (second_told setting);
    }
