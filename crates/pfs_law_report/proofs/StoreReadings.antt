-- What tables find in a plain store: whatever was done to it, they can be read, and a phase can end there.
use Rattle.std.proofs.Common.{ℕ, ◌≡◌, ◌+◌, ◌*◌, ◌<◌, ◌≤◌, ◌==◌, zero, suc, Bool, true, false, cond, ◌&&◌, inl, inr, List, [], ◌∷◌, ◌++◌, length, map, refl, ap, sym, ◌∙◌, subst, arith, eq-eqb, ne_eqb}
use Rattle.std.specs.Prelude.{All, Contains, nat_le, nat_lt, ◌||◌}
use Rattle.std.specs.List.{flat_map, list_any}
use Rattle.std.proofs.lemmas.Bool.{cases_lt, false≢true}
use Rattle.std.proofs.lemmas.Bool.Decides.{nat_tests}
use Rattle.std.proofs.lemmas.List.{append_assoc, map-append}
use Rattle.std.proofs.lemmas.List.Elements.{All-nil, All-cons, All-head, All-tail, All-append, All-map, All-weaker, All-contains_itself}
use Rattle.std.proofs.lemmas.List.Folds.{list_any-append}
use Rattle.pfs_lemmas.proofs.Bools.{or_false}
use Rattle.pfs_admin.specs.Fold.{state_of}
use Rattle.pfs_admin.specs.OpeningState.{opening_flags}
use Rattle.pfs_admin.specs.AdministrationStates.{State}
use Rattle.pfs_admin.specs.declared.changes.Change.{Change}
use Rattle.pfs_law_plain.specs.Spells.{Spell, calls_of}
use Rattle.pfs_board.specs.declared.view.Label.{Label}
use Rattle.pfs_classes.specs.declared.setting.Setting.{Setting}
use Rattle.pfs_finals.specs.Counters.{counters, lost_row}
use Rattle.pfs_finals.specs.Finals.{TableRead, all_readings, final_order, table_report}
use Rattle.pfs_journal.specs.declared.report.PhaseParts.{PhaseParts}
use Rattle.pfs_levels.specs.Calls.{Call, Reads, IsRow}
use Rattle.pfs_levels.specs.JointCalls.{sets_of}
use Rattle.pfs_levels.specs.PlainStore.{AllAnswer, Answers, ops_of, slot_after, word_after}
use Rattle.pfs_levels.specs.declared.plain.Slot.{Slot}
use Rattle.pfs_matching.specs.ObjectRules.{opening_objects}
use Rattle.pfs_reader.proofs.Readings.{calls_then as readings_then}
use Rattle.pfs_reader.specs.Readings.{call_of, IsThere}
use Rattle.pfs_reader.specs.Readings.{calls_of as calls_of_readings}
use Rattle.pfs_readsets.proofs.EqualReadings.{RowsArePlaces, rows_same}
use Rattle.pfs_readsets.proofs.Members.{rows_are, words_are}
use Rattle.pfs_readsets.proofs.TestedNumbers.{passing_none, passing_no, passing_yes, passing_same}
use Rattle.pfs_readsets.specs.TablePlaces.{Scope, scope_of, has_cell, reads, reads_word}
use Rattle.pfs_readsets.specs.ReadSets.{IsReadSet, target_of, read_set, reads_row, on_place, is_whole, shows_whole, found_whole, passing, row_test, word_test}
use Rattle.pfs_readsets.specs.declared.target.Target.{Target}
use Rattle.pfs_readsets.specs.declared.target.Target.TheVariants as targets
use Rattle.pfs_rows.specs.Rows.{row_number}
use Rattle.pfs_rows.specs.declared.place.Place.{Place}
use Rattle.pfs_rows.specs.declared.place.Place.TheVariants.{Admin, ThreadInfo, AccountInfo, UserInfo, HostInfo, ThreadCell, AccountCell, UserCell, HostCell, GlobalCell, DigestNull, Digest, Ring, Long}
use Rattle.pfs_rows.specs.declared.table.Reading.{Reading}
use Rattle.pfs_rows.specs.declared.table.Reading.TheVariants as readings
use Rattle.pfs_rows.specs.declared.table.Seen.{Seen}
use Rattle.pfs_rows.specs.declared.table.Seen.TheVariants.{Whole, Free}
use Rattle.pfs_rows.specs.declared.table.Table.{Table}
use Rattle.pfs_rows.specs.declared.table.Table.TheVariants as tables
use Rattle.pfs_law_plain.specs.RunRules.{entries_of, labels_of}
use Rattle.pfs_runs.specs.PhaseFinals.{lost_behind}
use Rattle.pfs_law_report.specs.PhaseEnds.{IsEnd}

-- what is found in a row, and in a word
abbrev seen_by : Bool → Slot → Seen
seen_by there s = cond there (Whole s.version s.content) (Free (4 * s.version))

abbrev slot_in : List Call → ℕ → Slot
slot_in calls row = slot_after (ops_of calls) row

abbrev found_at : List ℕ → List Call → Target → Reading
found_at flags calls (targets.Row row) = readings.Slot row (seen_by (slot_in calls row).allocated (slot_in calls row))
found_at flags calls (targets.Word word) =
    readings.Word word (word_after flags (sets_of calls) word).version (word_after flags (sets_of calls) word).flags

targets_are : (flags : List ℕ) (calls : List Call) (ts : List Target) → map target_of (map (found_at flags calls) ts) ≡ ts
targets_are flags calls [] = refl
targets_are flags calls (targets.Row row ∷ ts) = ap (λ z. targets.Row row ∷ z) (targets_are flags calls ts)
targets_are flags calls (targets.Word word ∷ ts) = ap (λ z. targets.Word word ∷ z) (targets_are flags calls ts)

-- whether a row of so many that pass is found Whole
whole_is : (b : Bool) (s : Slot) → found_whole (seen_by b s) ≡ b
whole_is true s = refl
whole_is false s = refl

first_off : (b w r : Bool) → b ≡ false → ((b && w) || r) ≡ r
first_off b w r e = ap (λ z. (z && w) || r) e

abbrev any_at : List ℕ → List Call → ℕ → List ℕ → Bool
any_at flags calls info rows = list_any (shows_whole info) (map (found_at flags calls) (map targets.Row rows))

any_below : (flags : List ℕ) (calls : List Call) (test : ℕ → Bool) (info from count : ℕ) → info < from → any_at flags calls info (passing test from count) ≡ false
any_below flags calls test info from zero low = ap (any_at flags calls info) (passing_none test from)
any_below flags calls test info from (suc count) low = on (test from) refl (any_below flags calls test info (from + 1) count (omega arith)) where
  on : (b : Bool) → test from ≡ b → any_at flags calls info (passing test (from + 1) count) ≡ false → any_at flags calls info (passing test from (suc count)) ≡ false
  on false e back = ap (any_at flags calls info) (passing_no test from count e) ∙ back
  on true e back =
      ap (any_at flags calls info) (passing_yes test from count e)
      ∙ (first_off (from == info) (found_whole (seen_by (slot_in calls from).allocated (slot_in calls from))) (any_at flags calls info (passing test (from + 1) count)) (ne_eqb from info (λ z. absurd (omega (arith, z, low))))
      ∙ back)

any_in : (flags : List ℕ) (calls : List Call) (test : ℕ → Bool) (info from count : ℕ) → from ≤ info → info < from + count
    → any_at flags calls info (passing test from count) ≡ (test info && (slot_in calls info).allocated)
any_in flags calls test info from zero low high = absurd (omega arith)
any_in flags calls test info from (suc count) low high = elim (cases_lt from info) [
  | inl past ↦ later (test from) refl past (any_in flags calls test info (from + 1) count (omega arith) (omega arith))
  | inr at ↦ let e : from ≡ info = omega arith in here (test from) refl e (any_below flags calls test info (from + 1) count (omega arith))
] where
  later : (b : Bool) → test from ≡ b → from < info → any_at flags calls info (passing test (from + 1) count) ≡ (test info && (slot_in calls info).allocated)
      → any_at flags calls info (passing test from (suc count)) ≡ (test info && (slot_in calls info).allocated)
  later false e past back = ap (any_at flags calls info) (passing_no test from count e) ∙ back
  later true e past back =
      ap (any_at flags calls info) (passing_yes test from count e)
      ∙ (first_off (from == info) (found_whole (seen_by (slot_in calls from).allocated (slot_in calls from))) (any_at flags calls info (passing test (from + 1) count)) (ne_eqb from info (λ z. absurd (omega (arith, z, past))))
      ∙ back)

  here : (b : Bool) → test from ≡ b → from ≡ info → any_at flags calls info (passing test (from + 1) count) ≡ false
      → any_at flags calls info (passing test from (suc count)) ≡ (test info && (slot_in calls info).allocated)
  here false e at none = ap (any_at flags calls info) (passing_no test from count e) ∙ (none ∙ sym (ap (λ z. z && (slot_in calls info).allocated) (ap test (sym at) ∙ e)))
  here true e at none =
      ap (any_at flags calls info) (passing_yes test from count e)
      ∙ (ap (λ z. ((from == info) && found_whole (seen_by (slot_in calls from).allocated (slot_in calls from))) || z) none
      ∙ (ap (λ z. (z && found_whole (seen_by (slot_in calls from).allocated (slot_in calls from))) || false) (eq-eqb from info at)
      ∙ (or_false (found_whole (seen_by (slot_in calls from).allocated (slot_in calls from)))
      ∙ (whole_is (slot_in calls from).allocated (slot_in calls from)
      ∙ (ap (λ z. (slot_in calls z).allocated) at ∙ sym (ap (λ z. z && (slot_in calls info).allocated) (ap test (sym at) ∙ e)))))))

words_off : (flags : List ℕ) (calls : List Call) (info : ℕ) (ws : List ℕ) → list_any (shows_whole info) (map (found_at flags calls) (map targets.Word ws)) ≡ false
words_off flags calls info [] = refl
words_off flags calls info (w ∷ ws) = words_off flags calls info ws

-- whether a table reads an info doesn't depend on what was found
infos_alike : (table : Table) (cells : ℕ → Bool) (n : ℕ) (w v : ℕ → Bool) (place : Place) → row_number place < 129 → reads table cells n w place ≡ reads table cells n v place
infos_alike table cells n w v Admin low = refl
infos_alike table cells n w v (ThreadInfo thread) low = refl
infos_alike table cells n w v (AccountInfo account) low = refl
infos_alike table cells n w v (UserInfo user) low = refl
infos_alike table cells n w v (HostInfo host) low = refl
infos_alike table cells n w v (ThreadCell thread cell) low = absurd (omega arith)
infos_alike table cells n w v (AccountCell account cell) low = absurd (omega arith)
infos_alike table cells n w v (UserCell user cell) low = absurd (omega arith)
infos_alike table cells n w v (HostCell host cell) low = absurd (omega arith)
infos_alike table cells n w v (GlobalCell cell) low = absurd (omega arith)
infos_alike table cells n w v DigestNull low = absurd (omega arith)
infos_alike table cells n w v (Digest digest) low = absurd (omega arith)
infos_alike table cells n w v (Ring thread place) low = absurd (omega arith)
infos_alike table cells n w v (Long number place) low = absurd (omega arith)

info_rows : RowsArePlaces → (table : Table) (cells : ℕ → Bool) (n : ℕ) (w v : ℕ → Bool) (row : ℕ) → row < 129 → reads_row table cells n w row ≡ reads_row table cells n v row
info_rows places table cells n w v row low =
    let p = places row (omega arith) in
    let here : row_number p.0 < 129 = omega (arith, p.2, low) in
    ap (on_place (reads table cells n w)) p.3 ∙ (infos_alike table cells n w v p.0 here ∙ ap (on_place (reads table cells n v)) (sym p.3))

-- so this is what is found Whole of the infos, and what is read by that
abbrev whole_in : Scope → Table → List Call → ℕ → Bool
whole_in scope table calls info = row_test scope table [] info && (slot_in calls info).allocated

abbrev rows_in : Scope → Table → List Call → ℕ → Bool
rows_in scope table calls = reads_row table (has_cell scope table) scope.digests (whole_in scope table calls)

abbrev words_in : Scope → Table → List Call → ℕ → Bool
words_in scope table calls = reads_word table (length scope.classes) (whole_in scope table calls)

abbrev targets_in : Scope → Table → List Call → List Target
targets_in scope table calls = map targets.Row (passing (rows_in scope table calls) 0 14242) ++ map targets.Word (passing (words_in scope table calls) 0 160)

whole_same : RowsArePlaces → (scope : Scope) (table : Table) (flags : List ℕ) (calls : List Call) (info : ℕ) → info < 129
    → is_whole (map (found_at flags calls) (targets_in scope table calls)) info ≡ whole_in scope table calls info
whole_same places scope table flags calls info few =
    let rows : List ℕ = passing (rows_in scope table calls) 0 14242 in
    let words : List ℕ = passing (words_in scope table calls) 0 160 in
    let found : Target → Reading = found_at flags calls in
    ap (list_any (shows_whole info)) (map-append found (map targets.Row rows) (map targets.Word words))
    ∙ (list_any-append (shows_whole info) (map found (map targets.Row rows)) (map found (map targets.Word words))
    ∙ (ap (λ z. any_at flags calls info rows || z) (words_off flags calls info words)
    ∙ (or_false (any_at flags calls info rows)
    ∙ (any_in flags calls (rows_in scope table calls) info 0 14242 (omega arith) (omega arith)
    ∙ ap (λ z. z && (slot_in calls info).allocated) (info_rows places table (has_cell scope table) scope.digests (whole_in scope table calls) (is_whole []) info few)))))

gated : (a b x y : Bool) → (b ≡ true → x ≡ y) → ((a && b) && x) ≡ ((a && b) && y)
gated false b x y h = refl
gated true false x y h = refl
gated true true x y h = h refl

below_33 : (word : ℕ) → nat_lt word 33 ≡ true → word < 129
below_33 word is = let h : word < 33 = grind (arith, nat_tests) in omega arith

words_same : (table : Table) (n : ℕ) (w v : ℕ → Bool) (word : ℕ) → ((info : ℕ) → info < 129 → w info ≡ v info) → reads_word table n w word ≡ reads_word table n v word
words_same tables.SetupInstruments n w v word h = refl
words_same tables.SetupConsumers n w v word h = refl
words_same tables.Threads n w v word h = gated (nat_le 1 word) (nat_lt word 33) (w word) (v word) (λ is. h word (below_33 word is))
words_same _ n w v word h = refl

sets_same : RowsArePlaces → (scope : Scope) (table : Table) (calls : List Call) (rs : List Reading) → ((info : ℕ) → info < 129 → is_whole rs info ≡ whole_in scope table calls info)
    → targets_in scope table calls ≡ read_set scope table rs
sets_same places scope table calls rs whole =
    let same : (info : ℕ) → info < 129 → whole_in scope table calls info ≡ is_whole rs info = λ info few. sym (whole info few) in
    let rows : passing (rows_in scope table calls) 0 14242 ≡ passing (row_test scope table rs) 0 14242 =
    passing_same (rows_in scope table calls) (row_test scope table rs) 0 14242 (λ k low high.
    rows_same places table (has_cell scope table) (has_cell scope table) scope.digests (whole_in scope table calls) (is_whole rs) k (omega (arith, high))
    (record { cells = λ cell few. refl; whole = λ info few low. same info few })) in
    let words : passing (words_in scope table calls) 0 160 ≡ passing (word_test scope table rs) 0 160 =
    passing_same (words_in scope table calls) (word_test scope table rs) 0 160 (λ k low high. words_same table (length scope.classes) (whole_in scope table calls) (is_whole rs) k same) in
    ap (λ z. map targets.Row z ++ map targets.Word (passing (words_in scope table calls) 0 160)) rows ∙ ap (λ z. map targets.Row (passing (row_test scope table rs) 0 14242) ++ map targets.Word z) words

-- a read set names rows but row 0, and words that are there
above_zero : (scope : Scope) (table : Table) (rs : List Reading) (row : ℕ) → row_test scope table rs row ≡ true → 0 < row
above_zero scope table rs zero is = absurd (false≢true is)
above_zero scope table rs (suc row) is = omega arith

member_there : (scope : Scope) (table : Table) (rs : List Reading) (t : Target) → Contains (read_set scope table rs) t → IsThere t
member_there scope table rs (targets.Row row) has = let h = (rows_are scope table rs row).0 has in (above_zero scope table rs row h.1, h.0)
member_there scope table rs (targets.Word word) has = ((words_are scope table rs word).0 has).0

all_there : (scope : Scope) (table : Table) (rs : List Reading) → All IsThere (read_set scope table rs)
all_there scope table rs =
    let ts : List Target = read_set scope table rs in
    All-weaker (Contains ts) IsThere (member_there scope table rs) ts (All-contains_itself ts)

-- the readings of a table
readings_at : Setting → List ℕ → List Call → Table → List Reading
readings_at setting flags calls table = map (found_at flags calls) (targets_in (scope_of setting) table calls)

found_same : RowsArePlaces → (setting : Setting) (flags : List ℕ) (calls : List Call) (table : Table)
    → targets_in (scope_of setting) table calls ≡ read_set (scope_of setting) table (readings_at setting flags calls table)
unfolding readings_at
found_same places setting flags calls table =
    sets_same places (scope_of setting) table calls (map (found_at flags calls) (targets_in (scope_of setting) table calls)) (whole_same places (scope_of setting) table flags calls)

is_read_set : RowsArePlaces → (setting : Setting) (flags : List ℕ) (calls : List Call) (table : Table) → IsReadSet (scope_of setting) table (readings_at setting flags calls table)
unfolding readings_at
is_read_set places setting flags calls table = targets_are flags calls (targets_in (scope_of setting) table calls) ∙ found_same places setting flags calls table

-- each is what stands there
abbrev IsHere : List ℕ → List Call → Reading → Type 0
IsHere flags calls (readings.Slot row seen) = IsRow row × (seen ≡ seen_by (slot_in calls row).allocated (slot_in calls row))
IsHere flags calls (readings.Word word version found) =
    (word < 160) × (version ≡ (word_after flags (sets_of calls) word).version) × (found ≡ (word_after flags (sets_of calls) word).flags)

one_here : (flags : List ℕ) (calls : List Call) (t : Target) → IsThere t → IsHere flags calls (found_at flags calls t)
one_here flags calls (targets.Row row) there = (there, refl)
one_here flags calls (targets.Word word) there = (there, refl, refl)

all_here : RowsArePlaces → (setting : Setting) (flags : List ℕ) (calls : List Call) (table : Table) → All (IsHere flags calls) (readings_at setting flags calls table)
unfolding readings_at
all_here places setting flags calls table =
    let ts : List Target = targets_in (scope_of setting) table calls in
    let there : All IsThere ts =
    subst (All IsThere) (sym (found_same places setting flags calls table)) (all_there (scope_of setting) table (readings_at setting flags calls table)) in
    All-map (IsHere flags calls) (found_at flags calls) ts (All-weaker IsThere (λ t. IsHere flags calls (found_at flags calls t)) (one_here flags calls) ts there)

-- a store to which no more was done answers so, and no more was done to it then
record IsStill (flags : List ℕ) (base calls : List Call) : Type 0 where
  ops : ops_of calls ≡ ops_of base
  sets : sets_of calls ≡ sets_of base
  answers : AllAnswer flags calls

row_answers : (flags : List ℕ) (calls : List Call) (row : ℕ) (s : Slot) (there : Bool) → s.allocated ≡ there → IsRow row → slot_in calls row ≡ s → Answers flags calls (Reads row (seen_by there s))
row_answers flags calls row s true is named same = (named, ap (λ z. z.allocated) same ∙ is, sym (ap (λ z. z.version) same), sym (ap (λ z. z.content) same))
row_answers flags calls row s false is named same = (named, ap (λ z. z.allocated) same ∙ is, sym (ap (λ z. 4 * z.version) same))

read_more : (flags : List ℕ) (base calls : List Call) (r : Reading) → IsStill flags base calls → IsHere flags base r → IsStill flags base (call_of r ∷ calls)
unfolding ops_of sets_of
read_more flags base calls (readings.Slot row seen) u is = record {
  ops = u.ops;
  sets = u.sets;
  answers = (
    subst (λ z. Answers flags calls (Reads row z)) (sym is.1)
        (row_answers flags calls row (slot_in base row) (slot_in base row).allocated refl is.0 (ap (λ z. slot_after z row) u.ops)),
    u.answers,
  );
}
read_more flags base calls (readings.Word at version found) u is = record {
  ops = u.ops;
  sets = u.sets;
  answers = (
    (
      is.0,
      ap (λ z. record { version = z; flags = found }) is.1
          ∙ (ap (λ z. record { version = (word_after flags (sets_of base) at).version; flags = z }) is.2 ∙ sym (ap (λ z. word_after flags z at) u.sets)),
    ),
    u.answers,
  );
}

oldest : (r : Reading) (rs : List Reading) (calls : List Call) → calls_of_readings (r ∷ rs) ++ calls ≡ calls_of_readings rs ++ (call_of r ∷ calls)
oldest r rs calls = ap (λ z. z ++ calls) (readings_then (r ∷ []) rs) ∙ append_assoc (calls_of_readings rs) (call_of r ∷ []) calls

all_answer : (flags : List ℕ) (base : List Call) (rs : List Reading) (calls : List Call) → IsStill flags base calls → All (IsHere flags base) rs → AllAnswer flags (calls_of_readings rs ++ calls)
all_answer flags base [] calls u is = u.answers
all_answer flags base (r ∷ rs) calls u is =
    subst (AllAnswer flags) (sym (oldest r rs calls))
    (all_answer flags base rs (call_of r ∷ calls) (read_more flags base calls r u (All-head (IsHere flags base) r rs is)) (All-tail (IsHere flags base) r rs is))

-- table after table
reads_at : Setting → List ℕ → List Call → List Table → List TableRead
reads_at setting flags calls [] = []
reads_at setting flags calls (table ∷ others) = record { table = table; readings = readings_at setting flags calls table } ∷ reads_at setting flags calls others

tables_are : (setting : Setting) (flags : List ℕ) (calls : List Call) (ts : List Table) → map (λ (read : TableRead). read.table) (reads_at setting flags calls ts) ≡ ts
unfolding reads_at
tables_are setting flags calls [] = refl
tables_are setting flags calls (t ∷ ts) = ap (λ z. t ∷ z) (tables_are setting flags calls ts)

each_read : RowsArePlaces → (setting : Setting) (flags : List ℕ) (calls : List Call) (ts : List Table)
    → All (λ (read : TableRead). IsReadSet (scope_of setting) read.table read.readings) (reads_at setting flags calls ts)
unfolding reads_at
each_read places setting flags calls [] = All-nil (λ (read : TableRead). IsReadSet (scope_of setting) read.table read.readings)
each_read places setting flags calls (t ∷ ts) =
    All-cons (λ (read : TableRead). IsReadSet (scope_of setting) read.table read.readings) (record { table = t; readings = readings_at setting flags calls t }) (reads_at setting flags calls ts)
    (is_read_set places setting flags calls t) (each_read places setting flags calls ts)

each_here : RowsArePlaces → (setting : Setting) (flags : List ℕ) (calls : List Call) (ts : List Table) → All (IsHere flags calls) (all_readings (reads_at setting flags calls ts))
unfolding reads_at
each_here places setting flags calls [] = All-nil (IsHere flags calls)
each_here places setting flags calls (t ∷ ts) =
    All-append (IsHere flags calls) (readings_at setting flags calls t) (all_readings (reads_at setting flags calls ts)) (all_here places setting flags calls t) (each_here places setting flags calls ts)

-- so a phase can end behind any spells, with this report
reads_behind : Setting → List Spell → List TableRead
reads_behind setting spells = reads_at setting (opening_flags setting opening_objects) (calls_of spells) final_order

admin_behind : Setting → (Label → Change) → List Spell → State
admin_behind setting change spells = state_of setting change (labels_of spells)

pub report_behind : Setting → (Label → Change) → List Spell → ℕ → PhaseParts
report_behind setting change spells number = record {
  number = number;
  blocks = [];
  tables = flat_map (table_report setting) (reads_behind setting spells);
  lost = flat_map (lost_row setting.classes (lost_behind (admin_behind setting change spells).kept.now (entries_of spells))) counters;
}

pub numbered : (setting : Setting) (change : Label → Change) (spells : List Spell) (number : ℕ) → (report_behind setting change spells number).number ≡ number
unfolding report_behind
numbered setting change spells number = refl

pub can_end : RowsArePlaces → (setting : Setting) (change : Label → Change) (spells : List Spell) (number : ℕ) → AllAnswer (opening_flags setting opening_objects) (calls_of spells)
    → IsEnd setting change spells (calls_of spells) (report_behind setting change spells number)
unfolding reads_behind admin_behind report_behind
can_end places setting change spells number answers =
    let flags : List ℕ = opening_flags setting opening_objects in
    let calls : List Call = calls_of spells in
    record {
      ops = refl;
      sets = refl;
      reads = reads_behind setting spells;
      answers = all_answer flags calls (all_readings (reads_behind setting spells)) calls (record { ops = refl; sets = refl; answers = answers }) (each_here places setting flags calls final_order);
      order = tables_are setting flags calls final_order;
      each = each_read places setting flags calls final_order;
      tables = refl;
      admin = admin_behind setting change spells;
      stands = refl;
      lost = refl;
    }
