-- What stands under a phase's end is what the journals so far make of rows, words and counters.
use Rattle.std.proofs.Common.{ℕ, ◌≡◌, ◌*◌, ◌<◌, Bool, true, false, cond, not, List, [], ◌∷◌, ◌++◌, slice_index_or, ap, sym, ◌∙◌, subst}
use Rattle.std.specs.Prelude.{All}
use Rattle.std.specs.List.{flat_map}
use Rattle.std.proofs.lemmas.List.{append_assoc}
use Rattle.std.proofs.lemmas.List.Elements.{All-nil, All-cons, All-head, All-tail}
use Rattle.pfs_admin.specs.Fold.{state_of}
use Rattle.pfs_admin.specs.OpeningState.{opening_flags}
use Rattle.pfs_law_plain.specs.Spells.{Spell, calls_of}
use Rattle.pfs_classes.specs.declared.setting.Setting.{Setting}
use Rattle.pfs_finals.specs.Counters.{counters, lost_row}
use Rattle.pfs_finals.specs.Finals.{TableRead, all_readings}
use Rattle.pfs_levels.proofs.PlainChanges.{counts, slot_version, plain_words}
use Rattle.pfs_levels.proofs.ActorFloors.{answers_rest}
use Rattle.pfs_levels.specs.Calls.{Call}
use Rattle.pfs_levels.specs.JointCalls.{changes_of, count, sets_of, flags_at, word_version}
use Rattle.pfs_levels.specs.PlainStore.{AllAnswer, Answers, ops_of, slot_after, word_after, content_at}
use Rattle.pfs_matching.specs.ObjectRules.{opening_objects}
use Rattle.pfs_model.specs.EntryPlaces.{Placed, up_to_phase}
use Rattle.pfs_model.specs.Actions.{settings_of}
use Rattle.pfs_model.specs.Chains.{is_free_after}
use Rattle.pfs_model.specs.SetupFlags.{flags_at as printed_flags}
use Rattle.pfs_reader.proofs.PlainReadings.{all_found}
use Rattle.pfs_reader.proofs.Readings.{calls_then as readings_then}
use Rattle.pfs_reader.specs.PlainReadings.{IsFound}
use Rattle.pfs_reader.specs.Readings.{call_of}
use Rattle.pfs_reader.specs.Readings.{calls_of as calls_of_readings}
use Rattle.pfs_readsets.specs.TablePlaces.{scope_of}
use Rattle.pfs_readsets.specs.ReadSets.{IsReadSet, target_of}
use Rattle.pfs_rows.specs.declared.table.Reading.{Reading}
use Rattle.pfs_rows.specs.declared.table.Reading.TheVariants as readings
use Rattle.pfs_rows.specs.declared.table.Seen.{Seen}
use Rattle.pfs_rows.specs.declared.table.Seen.TheVariants.{Whole, Free}
use Rattle.pfs_rows.specs.declared.table.Seen.TheVariants as sees
use Rattle.pfs_law_plain.proofs.PhaseFronts.{entries_front}
use Rattle.pfs_law_plain.proofs.PhaseStore.{left}
use Rattle.pfs_law_plain.proofs.PlainContents.{still_holds}
use Rattle.pfs_levels.proofs.PlainContents.{word_versions, word_flags}
use Rattle.pfs_law_plain.specs.PhaseStore.{RowIsLeft, WordIsLeft, IsLeft}
use Rattle.pfs_law_plain.specs.RunRules.{entries_of, labels_of, contents_of}
use Rattle.pfs_runs.specs.PhaseFinals.{IsRead, reading_of, row_version, word_version as printed_version, shown_row, lost_behind, containers_behind}
use Rattle.pfs_law_report.specs.PhaseEnds.{EndsLaw}

-- no reading is of row 0, the store's own
abbrev IsNamed : Reading → Type 0
IsNamed (readings.Slot row seen) = 0 < row
IsNamed (readings.Word word version flags) = Unit {0}

one_named : (flags : List ℕ) (calls : List Call) (r : Reading) → Answers flags calls (call_of r) → IsNamed r
one_named flags calls (readings.Slot row (Whole version content)) a = a.0.0
one_named flags calls (readings.Slot row (Free w)) a = a.0.0
one_named flags calls (readings.Slot row (sees.Busy first second)) a = absurd a
one_named flags calls (readings.Word word version found) a = tt

oldest : (r : Reading) (rs : List Reading) (calls : List Call) → calls_of_readings (r ∷ rs) ++ calls ≡ calls_of_readings rs ++ (call_of r ∷ calls)
oldest r rs calls = ap (λ z. z ++ calls) (readings_then (r ∷ []) rs) ∙ append_assoc (calls_of_readings rs) (call_of r ∷ []) calls

all_named : (flags : List ℕ) (rs : List Reading) (calls : List Call) → AllAnswer flags (calls_of_readings rs ++ calls) → All IsNamed rs
all_named flags [] calls a = All-nil IsNamed
all_named flags (r ∷ rs) calls a =
    let b : AllAnswer flags (calls_of_readings rs ++ (call_of r ∷ calls)) = subst (AllAnswer flags) (oldest r rs calls) a in
    let here : AllAnswer flags (call_of r ∷ calls) = answers_rest flags (calls_of_readings rs) (call_of r ∷ calls) b in
    All-cons IsNamed r rs (one_named flags calls r here.0) (all_named flags rs (call_of r ∷ calls) b)

-- a store whose calls did to rows and words what those of some spells did
record IsAlike (calls others : List Call) : Type 0 where
  ops : ops_of calls ≡ ops_of others
  sets : sets_of calls ≡ sets_of others

-- a row is found as it is left
pick : (a f : Bool) (v w : ℕ) (x y : List ℕ) → a ≡ not f → v ≡ w → x ≡ y → cond a (Whole v x) (Free (4 * v)) ≡ cond f (Free (4 * w)) (Whole w y)
pick a true v w x y is same alike = ap (λ b. cond b (Whole v x) (Free (4 * v))) is ∙ ap (λ z. Free (4 * z)) same
pick a false v w x y is same alike = ap (λ b. cond b (Whole v x) (Free (4 * v))) is ∙ (ap (λ z. Whole z x) same ∙ ap (λ z. Whole w z) alike)

row_shown : (calls others : List Call) (printed : List Placed) (content : ℕ → ℕ → List ℕ) (row : ℕ) (seen : Seen) (flags : List ℕ) → IsAlike calls others → 0 < row
    → RowIsLeft printed content row (slot_after (ops_of others) row) → IsFound flags calls (readings.Slot row seen) → seen ≡ shown_row content printed row
row_shown calls others printed content row seen flags alike up l found =
    let n : ℕ = count (changes_of calls) row in
    let version : n ≡ row_version printed row = sym (slot_version calls row up) ∙ (ap (λ z. (slot_after z row).version) alike.ops ∙ l.version) in
    let allocated : (slot_after (ops_of calls) row).allocated ≡ not (is_free_after printed row) = ap (λ z. (slot_after z row).allocated) alike.ops ∙ l.allocated in
    let holds : content_at (ops_of calls) row n ≡ content row (row_version printed row) =
    sym (still_holds [] calls row n (counts calls row up)) ∙ (ap (λ z. (slot_after z row).content) alike.ops ∙ (l.content_is ∙ ap (content row) l.version)) in
    found ∙ pick (slot_after (ops_of calls) row).allocated (is_free_after printed row) n (row_version printed row) (content_at (ops_of calls) row n) (content row (row_version printed row)) allocated version holds

-- and a word
abbrev flags_in : List ℕ → List Placed → ℕ → ℕ → ℕ
flags_in flags all = printed_flags (λ word. slice_index_or flags word 0) (settings_of all)

word_shown : (calls others : List Call) (printed all : List Placed) (at version found : ℕ) (flags : List ℕ) → IsAlike calls others → AllAnswer flags calls
    → WordIsLeft flags printed all at (word_after flags (sets_of others) at) → IsFound flags calls (readings.Word at version found)
    → (version ≡ printed_version printed at) × (found ≡ flags_in flags all at (printed_version printed at))
word_shown calls others printed all at version found flags alike answers l f =
    let counted = plain_words flags calls answers in
    let now : ℕ = word_version (sets_of calls) at in
    let there : now ≡ printed_version printed at = sym (word_versions flags (sets_of calls) at counted) ∙ (ap (λ z. (word_after flags z at).version) alike.sets ∙ l.version) in (
      f.0 ∙ there,
      f.1 ∙ (ap (flags_at flags (sets_of calls) at) f.0
          ∙ (sym (word_flags flags (sets_of calls) at counted)
          ∙ (ap (λ z. (word_after flags z at).flags) alike.sets ∙ (l.ever ∙ ap (flags_in flags all at) l.version)))),
    )

-- so each reading
abbrev IsShown : List ℕ → List Placed → (ℕ → ℕ → List ℕ) → List Placed → Reading → Type 0
IsShown flags all content printed r = r ≡ reading_of content (flags_in flags all) printed (target_of r)

reading_shown : (calls others : List Call) (printed all : List Placed) (content : ℕ → ℕ → List ℕ) (flags : List ℕ) (r : Reading) → IsAlike calls others → AllAnswer flags calls
    → ((row : ℕ) → 0 < row → RowIsLeft printed content row (slot_after (ops_of others) row)) → ((at : ℕ) → WordIsLeft flags printed all at (word_after flags (sets_of others) at))
    → IsNamed r → IsFound flags calls r → IsShown flags all content printed r
reading_shown calls others printed all content flags (readings.Slot row seen) alike answers rows words named found =
    ap (readings.Slot row) (row_shown calls others printed content row seen flags alike named (rows row named) found)
reading_shown calls others printed all content flags (readings.Word at version there) alike answers rows words named found =
    let w = word_shown calls others printed all at version there flags alike answers (words at) found in
    ap (λ z. readings.Word at z there) w.0 ∙ ap (readings.Word at (printed_version printed at)) w.1

-- table by table
part_all : {X : Type 0} (P : X → Type 0) (xs ys : List X) → All P (xs ++ ys) → All P xs × All P ys
part_all P [] ys a = (All-nil P, a)
part_all P (x ∷ xs) ys a =
    let rest = part_all P xs ys (All-tail P x (xs ++ ys) a) in
    (All-cons P x xs (All-head P x (xs ++ ys) a) rest.0, rest.1)

each_read : (setting : Setting) (content : ℕ → ℕ → List ℕ) (flags : List ℕ) (all printed : List Placed) (reads : List TableRead)
    → All (λ (read : TableRead). IsReadSet (scope_of setting) read.table read.readings) reads → All (IsShown flags all content printed) (all_readings reads)
    → All (IsRead setting content (flags_in flags all) printed) reads
each_read setting content flags all printed [] whole shown = All-nil (IsRead setting content (flags_in flags all) printed)
each_read setting content flags all printed (r ∷ rs) whole shown =
    let P : TableRead → Type 0 = λ (read : TableRead). IsReadSet (scope_of setting) read.table read.readings in
    let parts = part_all (IsShown flags all content printed) r.readings (all_readings rs) shown in
    All-cons (IsRead setting content (flags_in flags all) printed) r rs (record { whole = All-head P r rs whole; shown = parts.0 })
    (each_read setting content flags all printed rs (All-tail P r rs whole) parts.1)

pub ends : EndsLaw
ends = λ setting change facts depths first later calls report are answer low high end.
    let flags : List ℕ = opening_flags setting opening_objects in
    let every : List Spell = first ++ later in
    let all : List Placed = entries_of every in
    let printed : List Placed = up_to_phase report.number all in
    let content : ℕ → ℕ → List ℕ = contents_of every in
    let l : IsLeft flags report.number first every = left flags setting.limits.statement_stack depths report.number first later are answer low high in
    let alike : IsAlike calls (calls_of first) = record { ops = end.ops; sets = end.sets } in
    let rs : List Reading = all_readings end.reads in
    let own : AllAnswer flags calls = answers_rest flags (calls_of_readings rs) calls end.answers in
    let found : All (IsFound flags calls) rs = all_found flags rs calls end.answers in
    let named : All IsNamed rs = all_named flags rs calls end.answers in
    let shown : All (IsShown flags all content printed) rs =
    λ k d within. reading_shown calls (calls_of first) printed all content flags (slice_index_or rs k d) alike own l.rows l.words (named k d within) (found k d within) in
    let here : printed ≡ entries_of first = entries_front report.number first later low high in
    let stands : end.admin.kept.now ≡ containers_behind setting change (labels_of every) printed =
    ap (λ z. z.kept.now) end.stands ∙ ap (λ z. (state_of setting change z).kept.now) l.labels in
    record {
      reads = end.reads;
      order = end.order;
      each = each_read setting content flags all printed end.reads end.each shown;
      tables = end.tables;
      lost = end.lost
          ∙ (ap (λ z. flat_map (lost_row setting.classes (lost_behind z (entries_of first))) counters) stands
          ∙ ap (λ z. flat_map (lost_row setting.classes (lost_behind (containers_behind setting change (labels_of every) printed) z)) counters) (sym here));
    }
