-- What stands under the end of a phase, where its sessions ran at once, is what the journals so far make of rows, words
-- and counters.
use Rattle.std.proofs.Common.{ℕ, ◌≡◌, ◌+◌, ◌<◌, ◌≤◌, ◌&&◌, List, [], ◌∷◌, ◌++◌, length, take, slice_index_or, refl, ap, sym, ◌∙◌, subst, arith}
use Rattle.std.specs.Prelude.{All}
use Rattle.std.specs.List.{flat_map}
use Rattle.std.proofs.lemmas.List.Elements.{All-nil, All-cons, All-append, All-head, All-tail}
use Rattle.pfs_admin.specs.Fold.{state_of}
use Rattle.pfs_admin.specs.OpeningState.{opening_flags}
use Rattle.pfs_board.specs.declared.view.Label.{Label}
use Rattle.pfs_classes.specs.declared.setting.Setting.{Setting}
use Rattle.pfs_finals.specs.Counters.{counters, lost_row}
use Rattle.pfs_finals.specs.Finals.{TableRead, all_readings}
use Rattle.pfs_levels.specs.Calls.{Call}
use Rattle.pfs_levels.specs.CallOrder.{Mark, AreNamed, marks_of, all_marks}
use Rattle.pfs_levels.specs.JointCalls.{total, one_if, At, changes_of, count, draws_of, sets_of, word_version, flags_at, AllAgree, Joint, all_calls}
use Rattle.pfs_levels.specs.JointCalls.{Draw, Setting as Set}
use Rattle.pfs_matching.specs.ObjectRules.{opening_objects}
use Rattle.pfs_model.proofs.EachLists.{each_front}
use Rattle.pfs_model.specs.Chains.{Each, action_change, each_of}
use Rattle.pfs_model.specs.EntryPlaces.{Placed, up_to_phase}
use Rattle.pfs_reader.specs.Readings.{call_of, IsThere}
use Rattle.pfs_reader.specs.Readings.{calls_of as calls_of_readings}
use Rattle.pfs_readsets.specs.TablePlaces.{scope_of}
use Rattle.pfs_readsets.specs.ReadSets.{IsReadSet, target_of}
use Rattle.pfs_rows.specs.declared.table.Reading.{Reading}
use Rattle.pfs_rows.specs.declared.table.Reading.TheVariants as readings
use Rattle.pfs_runs.specs.PhaseFinals.{IsRead, reading_of, lost_behind, containers_behind}
use Rattle.pfs_law_plain.proofs.PhaseFronts.{entries_front}
use Rattle.pfs_law_plain.specs.PlainJournals.{printed as printed_flags}
use Rattle.pfs_law_plain.specs.RunRules.{entries_of}
use Rattle.pfs_law_plain.specs.SessionNotes.{ToldLaw}
use Rattle.pfs_law_plain.specs.Spells.{Spell, AreSpells, doings_calls}
use Rattle.pfs_law_plain.specs.Weights.{WeighedLaw}
use Rattle.pfs_law_joint.proofs.Sums.{total_map}
use Rattle.pfs_law_joint.proofs.VersionChains.{mark_count, puts_to}
use Rattle.pfs_law_joint.specs.Contents.{SameLaw}
use Rattle.pfs_law_joint.specs.Deeds.{RowsLaw, WordsLaw}
use Rattle.pfs_law_joint.specs.Phases.{IsShared}
use Rattle.pfs_law_joint.specs.Versions.{ChainLaw, FlagsLaw, MarksLaw, at_mark}
use Rattle.pfs_law_shared.specs.Ends.{EndsLaw, IsSeen}
use Rattle.pfs_law_shared.specs.Journals.{AgreedLaw}
use Rattle.pfs_law_shared.specs.Order.{IsNear, AllNear}
use Rattle.pfs_law_shared.specs.Rules.{of_rows}
use Rattle.pfs_law_shared.specs.Shares.{AreShared, actors_of, spells_at, spells_before}
use Rattle.pfs_law_shared.proofs.ActorSums.{changes_add, sets_add}
use Rattle.pfs_law_shared.proofs.DrawnTickets.{draws_add}
use Rattle.pfs_law_shared.proofs.EndReadings.{IsReadOf, each_reading, no_change, no_set, reading_shown, reads_weigh, same_flags, set_there}
use Rattle.pfs_law_shared.proofs.FirstActors.{actors_both, all_of, as_one, first_of, first_sum}
use Rattle.pfs_law_shared.proofs.FrontLabels.{front_labels, unmarked}
use Rattle.pfs_law_shared.proofs.OrderedActions.{each_actor, each_near, marks_over, numbers_are}
use Rattle.pfs_law_shared.proofs.PhaseCounts.{ArePrinted, all_over, printed_up_to}
use Rattle.pfs_law_shared.proofs.PhaseWalks.{over, over_then}
use Rattle.pfs_law_shared.proofs.PrintedLabels.{named_all, ones}
use Rattle.pfs_law_shared.proofs.PrintedPuts.{actors_all}

-- ---- table by table

part_all : {X : Type 0} (P : X → Type 0) (xs ys : List X) → All P (xs ++ ys) → All P xs × All P ys
part_all P [] ys a = (All-nil P, a)
part_all P (x ∷ xs) ys a =
    let rest = part_all P xs ys (All-tail P x (xs ++ ys) a) in
    (All-cons P x xs (All-head P x (xs ++ ys) a) rest.0, rest.1)

abbrev IsWhole : Setting → TableRead → Type 0
IsWhole setting read = IsReadSet (scope_of setting) read.table read.readings

each_there : (setting : Setting) (reads : List TableRead) → All (IsWhole setting) reads → All (λ (r : Reading). IsThere (target_of r)) (all_readings reads)
each_there setting [] whole = All-nil (λ (r : Reading). IsThere (target_of r))
each_there setting (read ∷ reads) whole =
    All-append (λ (r : Reading). IsThere (target_of r)) read.readings (all_readings reads)
    (set_there (scope_of setting) read.table read.readings (All-head (IsWhole setting) read reads whole)) (each_there setting reads (All-tail (IsWhole setting) read reads whole))

each_read : (setting : Setting) (content : ℕ → ℕ → List ℕ) (flags : ℕ → ℕ → ℕ) (printed : List Placed) (reads : List TableRead)
    → All (IsWhole setting) reads → All (λ (r : Reading). r ≡ reading_of content flags printed (target_of r)) (all_readings reads) → All (IsRead setting content flags printed) reads
each_read setting content flags printed [] whole shown = All-nil (IsRead setting content flags printed)
each_read setting content flags printed (read ∷ reads) whole shown =
    let parts = part_all (λ (r : Reading). r ≡ reading_of content flags printed (target_of r)) read.readings (all_readings reads) shown in
    All-cons (IsRead setting content flags printed) read reads (record { whole = All-head (IsWhole setting) read reads whole; shown = parts.0 })
    (each_read setting content flags printed reads (All-tail (IsWhole setting) read reads whole) parts.1)

-- ---- without the reader

no_draw : (h : Draw → ℕ) (r : Reading) → total h (draws_of (call_of r ∷ [])) ≡ 0
unfolding total draws_of
no_draw h (readings.Slot row seen) = refl
no_draw h (readings.Word word version flags) = refl

module _ (flags : List ℕ) (spells : List Spell) (rs : List Reading) (s : IsShared flags (actors_of spells) (calls_of_readings rs ∷ [])) where
  abbrev own : List Call
  own = calls_of_readings rs

  unread : Joint flags (actors_of spells) s.content s.log s.sets s.draws
  unfolding all_calls
  unread = record {
    chain = s.joint.chain;
    words = s.joint.words;
    tickets = s.joint.tickets;
    opens = s.joint.opens;
    once = λ h.
        (let a : total h (changes_of (own ++ all_calls (actors_of spells))) ≡ total h (changes_of own) + total h (changes_of (all_calls (actors_of spells))) = (changes_add h).both own (all_calls (actors_of spells)) in
        let b : total h (changes_of own) ≡ 0 = reads_weigh (λ calls. total h (changes_of calls)) (changes_add h) (no_change h) rs in
        let c : total h (changes_of (own ++ all_calls (actors_of spells))) ≡ total h s.log = s.joint.once h in
        omega (arith, a, b, c));
    sets_once = λ h.
        (let a : total h (sets_of (own ++ all_calls (actors_of spells))) ≡ total h (sets_of own) + total h (sets_of (all_calls (actors_of spells))) = (sets_add h).both own (all_calls (actors_of spells)) in
        let b : total h (sets_of own) ≡ 0 = reads_weigh (λ calls. total h (sets_of calls)) (sets_add h) (no_set h) rs in
        let c : total h (sets_of (own ++ all_calls (actors_of spells))) ≡ total h s.sets = s.joint.sets_once h in
        omega (arith, a, b, c));
    draws_once = λ h.
        (let a : total h (draws_of (own ++ all_calls (actors_of spells))) ≡ total h (draws_of own) + total h (draws_of (all_calls (actors_of spells))) = (draws_add h).both own (all_calls (actors_of spells)) in
        let b : total h (draws_of own) ≡ 0 = reads_weigh (λ calls. total h (draws_of calls)) (draws_add h) (no_draw h) rs in
        let c : total h (draws_of (own ++ all_calls (actors_of spells))) ≡ total h s.draws = s.joint.draws_once h in
        omega (arith, a, b, c));
    agrees = agree_rest own (all_calls (actors_of spells)) s.joint.agrees;
  } where
    agree_rest : (xs ys : List Call) → AllAgree flags s.content s.log s.sets (xs ++ ys) → AllAgree flags s.content s.log s.sets ys
    agree_rest [] ys a = a
    agree_rest (x ∷ xs) ys a = agree_rest xs ys a.1

  its_own : AllAgree flags s.content s.log s.sets own
  unfolding all_calls
  its_own = agree_first own (all_calls (actors_of spells)) s.joint.agrees where
    agree_first : (xs ys : List Call) → AllAgree flags s.content s.log s.sets (xs ++ ys) → AllAgree flags s.content s.log s.sets xs
    agree_first [] ys a = tt
    agree_first (x ∷ xs) ys a = (a.0, agree_first xs ys a.1)

  unmarked_once : (h : Mark → ℕ) → total h (all_marks (actors_of spells)) ≡ total h s.marks
  unfolding total all_marks
  unmarked_once h = ap (λ z. total h (z ++ all_marks (actors_of spells))) (sym (unmarked rs)) ∙ s.order.once h

-- ---- all of it

module _ (rows : RowsLaw) (words : WordsLaw) (chain : ChainLaw) (marks : MarksLaw) (flagged : FlagsLaw) (same : SameLaw) (agreed : AgreedLaw) (told : ToldLaw) (weighed : WeighedLaw)
    (flags : List ℕ) (stack : ℕ) (depths : ℕ → ℕ) (first later : List Spell) (last number : ℕ) (are : AreSpells stack depths (first ++ later)) (shared : AreShared flags (first ++ later))
    (near : AllNear (first ++ later)) (low : Each (λ spell. spell.phase ≤ last) (first ++ later)) (early : Each (λ spell. spell.phase ≤ number) first) (late : Each (λ spell. number < spell.phase) later)
    (rs : List Reading) (end : IsShared flags (actors_of first) (calls_of_readings rs ∷ [])) where
  abbrev every : List Spell
  every = first ++ later

  abbrev printed : List Placed
  printed = up_to_phase number (entries_of every)

  abbrev calls : List Call
  calls = all_calls (actors_of first)

  -- the history at the phase's end, and the one at the end of all, of the same actors
  now : Joint flags (actors_of first) end.content end.log end.sets end.draws
  now = unread flags first rs end

  grown : Joint flags (actors_of later ++ actors_of first) (shared last).content (shared last).log (shared last).sets (shared last).draws
  grown = subst (λ z. Joint flags z (shared last).content (shared last).log (shared last).sets (shared last).draws) (actors_both first later) (as_one flags last every low (shared last))

  prints : ArePrinted printed calls
  prints =
      let w = printed_up_to told weighed stack depths every are.stints number in
      record {
        rows = λ h. w.rows h ∙ first_sum (λ calls. total h (changes_of calls)) (changes_add h) number first later early late;
        sets = λ h. w.sets h ∙ first_sum (λ calls. total h (sets_of calls)) (sets_add h) number first later early late;
      }

  abbrev of : ℕ → ℕ → ℕ
  of = printed_flags flags (entries_of every)

  same_set : (word version : ℕ) → version ≤ word_version end.sets word → flags_at flags end.sets word version ≡ of word version
  same_set word version few =
      same_flags flagged flags end.sets (shared last).sets (sets_of (all_calls (actors_of later))) now.words grown.words both word version few
      ∙ sym ((agreed flags stack depths every last are.stints shared low).flagged word version)
    where
      both : (h : Set → ℕ) → total h (sets_of (all_calls (actors_of later))) + total h end.sets ≡ total h (shared last).sets
      both h =
          let weigh : List Call → ℕ = λ calls. total h (sets_of calls) in
          let a : total h end.sets ≡ over weigh (actors_of first) = sym (now.sets_once h) ∙ all_over weigh (sets_add h) (actors_of first) in
          let b : total h (shared last).sets ≡ over weigh (actors_of later ++ actors_of first) = sym (grown.sets_once h) ∙ all_over weigh (sets_add h) (actors_of later ++ actors_of first) in
          let c : total h (sets_of (all_calls (actors_of later))) ≡ over weigh (actors_of later) = all_over weigh (sets_add h) (actors_of later) in
          omega (arith, a, b, c, over_then weigh (actors_of later) (actors_of first))

  same_row : (row version : ℕ) → 0 < row → row < 14242 → version ≤ count end.log row → end.content row version ≡ (shared last).content row version
  same_row row version up high few =
      same flags (actors_of first) (actors_of later) end.content (shared last).content end.log (shared last).log end.sets (shared last).sets end.draws (shared last).draws now grown row version up high few

  pub shown : All IsSeen rs → All (λ (r : Reading). IsThere (target_of r)) rs → All (λ (r : Reading). r ≡ reading_of (of_rows (shared last).content) of printed (target_of r)) rs
  shown seen there =
      let reads : All (IsReadOf flags end.content end.log end.sets (changes_of calls) (sets_of calls)) rs =
      each_reading flags end.content end.log end.sets (changes_of calls) (sets_of calls) rs (its_own flags first rs end) end.since.0 in
      λ k d less. reading_shown flags printed calls prints end.content (shared last).content end.log end.sets now.chain now.once now.sets_once same_row of same_set
      (slice_index_or rs k d) (there k d less) (seen k d less) (reads k d less)

  -- the labels
  abbrev ended : At → ℕ
  ended = puts_to 0

  number_over : total (λ m. ended (at_mark m)) (all_marks (actors_of first)) ≡ length (each_of action_change printed)
  number_over =
      let h : Mark → ℕ = λ m. ended (at_mark m) in
      let weigh : List Call → ℕ = λ calls. total h (marks_of calls) in
      let at : List (List Call) = actors_of (spells_at number every) ++ actors_of (spells_before number every) in
      let n = numbers_are rows words chain marks agreed told weighed flags stack depths every last are shared near low number ended (λ x off. ap (λ b. one_if (b && x.puts)) off) in
      let there : total h (shared number).marks ≡ length (each_of action_change printed) = sym (total_map at_mark ended (shared number).marks) ∙ (sym n ∙ ones (each_of action_change printed)) in
      marks_over h (actors_of first) ∙ (sym (first_of weigh number first later early late) ∙ (sym (marks_over h at) ∙ ((shared number).order.once h ∙ there)))

  many : length end.labels ≡ length (each_of action_change printed)
  many = end.order.ended ∙ (sym (mark_count end.marks 0) ∙ (sym (unmarked_once flags first rs end (λ m. ended (at_mark m))) ∙ number_over))

  fewer : length end.labels ≤ length (shared last).labels
  fewer =
      let h : Mark → ℕ = λ m. ended (at_mark m) in
      let weigh : List Call → ℕ = λ calls. total h (marks_of calls) in
      let at : List (List Call) = actors_of (spells_at last every) ++ actors_of (spells_before last every) in
      let some : length end.labels ≡ over weigh (actors_of first) =
      end.order.ended ∙ (sym (mark_count end.marks 0) ∙ (sym (unmarked_once flags first rs end h) ∙ marks_over h (actors_of first))) in
      let all : length (shared last).labels ≡ over weigh (actors_of later ++ actors_of first) =
      (shared last).order.ended ∙ (sym (mark_count (shared last).marks 0) ∙ (sym ((shared last).order.once h) ∙ (marks_over h at ∙ (all_of weigh last every low ∙ ap (over weigh) (actors_both first later))))) in
      omega (arith, some, all, over_then weigh (actors_of later) (actors_of first))

  pub labels : end.labels ≡ take (length (each_of action_change printed)) (shared last).labels
  labels =
      let all : List Label = (shared last).labels in
      let P : List Call → Type 0 = AreNamed all in
      let named : Each (λ spell. P (doings_calls spell.doings)) every = each_actor P every (named_all flags stack depths every last are shared low) in
      let nears : Each (λ spell. Each IsNear (doings_calls spell.doings)) every = each_near every near in
      front_labels end.labels all (actors_of first) end.marks end.order.chain (unmarked_once flags first rs end) end.order.ended fewer
      (actors_all (Each IsNear) first (each_front (λ spell. Each IsNear (doings_calls spell.doings)) first later nears)) end.order.named.1
      (actors_all P first (each_front (λ spell. P (doings_calls spell.doings)) first later named))
      ∙ ap (λ n. take n all) many

pub ends_kept : RowsLaw → WordsLaw → ChainLaw → MarksLaw → FlagsLaw → SameLaw → AgreedLaw → ToldLaw → WeighedLaw → EndsLaw
ends_kept rows words chain marks flagged same agreed told weighed = λ setting change facts depths first later last report are shared near low early late end.
    (let flags : List ℕ = opening_flags setting opening_objects in
    let stack : ℕ = setting.limits.statement_stack in
    let every : List Spell = first ++ later in
    let printed : List Placed = up_to_phase report.number (entries_of every) in
    let all : List Label = (shared last).labels in
    let content : ℕ → ℕ → List ℕ = of_rows (shared last).content in
    let of : ℕ → ℕ → ℕ = printed_flags flags (entries_of every) in
    let rs : List Reading = all_readings end.reads in
    let finds : All (λ (r : Reading). r ≡ reading_of content of printed (target_of r)) rs =
    shown rows words chain marks flagged same agreed told weighed flags stack depths first later last report.number are shared near low early late rs end.common end.seen (each_there setting end.reads end.each) in
    let front : end.common.labels ≡ take (length (each_of action_change printed)) all =
    labels rows words chain marks flagged same agreed told weighed flags stack depths first later last report.number are shared near low early late rs end.common in
    let here : printed ≡ entries_of first = entries_front report.number first later early late in
    let stands : end.admin.kept.now ≡ containers_behind setting change all printed =
    ap (λ z. z.kept.now) end.stands ∙ ap (λ z. (state_of setting change z).kept.now) front in
    record {
      reads = end.reads;
      order = end.order;
      each = each_read setting content of printed end.reads end.each finds;
      tables = end.tables;
      lost = end.lost
          ∙ (ap (λ z. flat_map (lost_row setting.classes (lost_behind z (entries_of first))) counters) stands
          ∙ ap (λ z. flat_map (lost_row setting.classes (lost_behind (containers_behind setting change all printed) z)) counters) (sym here));
    })
