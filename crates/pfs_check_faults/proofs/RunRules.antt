-- All rules are kept exactly where a report is a run.
use Rattle.std.proofs.Common.{◌≡◌, refl, ℕ, ◌<◌, Bool, true, false, cond, List, [], ◌∷◌, ◌++◌, sym, ◌∙◌, ap}
use Rattle.pfs_event.specs.declared.entry.Entry.{Entry}
use Rattle.pfs_event.specs.declared.entry.Entry.TheVariants as says
use Rattle.pfs_journal.specs.declared.report.PhaseParts.{PhaseParts}
use Rattle.pfs_model.specs.ActionAsks.{Asked, Did, DoAsAsked, Flagged, Flagging, Freed, Frees, Gave, Move, Sign, Tagged, Tags, Took, did, flagged_by, given_to, moved_by, of_action, signed_by}
use Rattle.pfs_model.specs.Causes.{AreCausedBehind, ShowsCause}
use Rattle.pfs_model.specs.Chains.{each_of}
use Rattle.pfs_model.specs.EntryPlaces.{Placed, places}
use Rattle.pfs_model.specs.Rings.{is_reading_line}
use Rattle.pfs_runs.specs.Runs.{AreFinal, IsRun, all_blocks}
use Rattle.pfs_runs.specs.PhaseFinals.{IsFinal}
use Rattle.pfs_runs.specs.ScriptLines.{change_in}
use Rattle.pfs_check_faults.specs.declared.rules.Rule.{Rule}
use Rattle.pfs_check_faults.specs.declared.rules.Rule.TheVariants as rules
use Rattle.pfs_check_faults.proofs.SlotFacts.{slots_there}
use Rattle.pfs_check_faults.specs.ActionFaults.{SetAsAsked, flagging_at, moving_at}
use Rattle.pfs_check_faults.specs.EntryFaults.{EventCauseAt, QueryCauseAt}
use Rattle.pfs_check_faults.specs.Judgements.{IsGood, Keeps, LostOf, RunLaw, TablesOf, so_far}
use Rattle.pfs_check_faults.specs.ReportCases.{AllHave, Case, Findings, entries_of, flags_in, terms_in}

-- of what was done the sets, and the rest
pub flaggings : List Did → List Did
flaggings [] = []
flaggings (Flagged word flags ∷ others) = Flagged word flags ∷ flaggings others
flaggings (Took row ∷ others) = flaggings others
flaggings (Gave row from ∷ others) = flaggings others
flaggings (Freed row ∷ others) = flaggings others
flaggings (Tagged row ∷ others) = flaggings others

pub movings : List Did → List Did
movings [] = []
movings (Flagged word flags ∷ others) = movings others
movings (Took row ∷ others) = Took row ∷ movings others
movings (Gave row from ∷ others) = Gave row from ∷ movings others
movings (Freed row ∷ others) = Freed row ∷ movings others
movings (Tagged row ∷ others) = Tagged row ∷ movings others

pub flaggings_append : (xs ys : List Did) → flaggings (xs ++ ys) ≡ flaggings xs ++ flaggings ys
unfolding flaggings
flaggings_append [] ys = refl
flaggings_append (Flagged word flags ∷ xs) ys = ap (λ z. Flagged word flags ∷ z) (flaggings_append xs ys)
flaggings_append (Took row ∷ xs) ys = flaggings_append xs ys
flaggings_append (Gave row from ∷ xs) ys = flaggings_append xs ys
flaggings_append (Freed row ∷ xs) ys = flaggings_append xs ys
flaggings_append (Tagged row ∷ xs) ys = flaggings_append xs ys

pub movings_append : (xs ys : List Did) → movings (xs ++ ys) ≡ movings xs ++ movings ys
unfolding movings
movings_append [] ys = refl
movings_append (Flagged word flags ∷ xs) ys = movings_append xs ys
movings_append (Took row ∷ xs) ys = ap (λ z. Took row ∷ z) (movings_append xs ys)
movings_append (Gave row from ∷ xs) ys = ap (λ z. Gave row from ∷ z) (movings_append xs ys)
movings_append (Freed row ∷ xs) ys = ap (λ z. Freed row ∷ z) (movings_append xs ys)
movings_append (Tagged row ∷ xs) ys = ap (λ z. Tagged row ∷ z) (movings_append xs ys)

flagging_did : (entry : Entry) → flaggings (did entry) ≡ flagging_at entry
unfolding flaggings
flagging_did (says.Take row version) = refl
flagging_did (says.Give row version from) = refl
flagging_did (says.Free row version) = refl
flagging_did (says.Tag row version) = refl
flagging_did (says.Set word version flags) = refl
flagging_did _ = refl

moving_did : (entry : Entry) → movings (did entry) ≡ moving_at entry
unfolding movings
moving_did (says.Take row version) = refl
moving_did (says.Give row version from) = refl
moving_did (says.Free row version) = refl
moving_did (says.Tag row version) = refl
moving_did (says.Set word version flags) = refl
moving_did _ = refl

flagging_all : (places : List Placed) → flaggings (each_of did places) ≡ each_of flagging_at places
unfolding flaggings
flagging_all [] = refl
flagging_all (place ∷ places) =
    flaggings_append (did place.entry) (each_of did places)
    ∙ ap (λ z. z ++ flaggings (each_of did places)) (flagging_did place.entry)
    ∙ ap (λ z. flagging_at place.entry ++ z) (flagging_all places)

moving_all : (places : List Placed) → movings (each_of did places) ≡ each_of moving_at places
unfolding movings
moving_all [] = refl
moving_all (place ∷ places) =
    movings_append (did place.entry) (each_of did places)
    ∙ ap (λ z. z ++ movings (each_of did places)) (moving_did place.entry)
    ∙ ap (λ z. moving_at place.entry ++ z) (moving_all places)

given_flaggings : (from : ℕ) (rows : List ℕ) → flaggings (given_to from rows) ≡ []
unfolding flaggings
given_flaggings from [] = refl
given_flaggings from (row ∷ rows) = given_flaggings from rows

given_movings : (from : ℕ) (rows : List ℕ) → movings (given_to from rows) ≡ given_to from rows
unfolding movings
given_movings from [] = refl
given_movings from (row ∷ rows) = ap (λ z. Gave row from ∷ z) (given_movings from rows)

moved_flaggings : (counted : ℕ → Bool) (moves : List Move) → flaggings (moved_by counted moves) ≡ []
unfolding flaggings
moved_flaggings counted [] = refl
moved_flaggings counted (move ∷ moves) = at (counted move.from) (moved_flaggings counted moves) where
  at : (b : Bool) → flaggings (moved_by counted moves) ≡ []
      → flaggings (cond b (given_to move.from move.to) [] ++ moved_by counted moves) ≡ []
  at true more =
      flaggings_append (given_to move.from move.to) (moved_by counted moves)
      ∙ ap (λ z. z ++ flaggings (moved_by counted moves)) (given_flaggings move.from move.to) ∙ more
  at false more = more

moved_movings : (counted : ℕ → Bool) (moves : List Move) → movings (moved_by counted moves) ≡ moved_by counted moves
unfolding movings
moved_movings counted [] = refl
moved_movings counted (move ∷ moves) = ap (λ z. Took move.from ∷ z) (at (counted move.from) (moved_movings counted moves)) where
  at : (b : Bool) → movings (moved_by counted moves) ≡ moved_by counted moves
      → movings (cond b (given_to move.from move.to) [] ++ moved_by counted moves)
      ≡ cond b (given_to move.from move.to) [] ++ moved_by counted moves
  at true more =
      movings_append (given_to move.from move.to) (moved_by counted moves)
      ∙ ap (λ z. z ++ movings (moved_by counted moves)) (given_movings move.from move.to)
      ∙ ap (λ z. given_to move.from move.to ++ z) more
  at false more = more

signed_flaggings : (signs : List Sign) → flaggings (signed_by signs) ≡ []
unfolding flaggings
signed_flaggings [] = refl
signed_flaggings (Frees row ∷ signs) = signed_flaggings signs
signed_flaggings (Tags row ∷ signs) = signed_flaggings signs

signed_movings : (signs : List Sign) → movings (signed_by signs) ≡ signed_by signs
unfolding movings
signed_movings [] = refl
signed_movings (Frees row ∷ signs) = ap (λ z. Freed row ∷ z) (signed_movings signs)
signed_movings (Tags row ∷ signs) = ap (λ z. Tagged row ∷ z) (signed_movings signs)

flagged_flaggings : (sets : List Flagging) → flaggings (flagged_by sets) ≡ flagged_by sets
unfolding flaggings
flagged_flaggings [] = refl
flagged_flaggings (one ∷ others) = ap (λ z. Flagged one.word one.flags ∷ z) (flagged_flaggings others)

flagged_movings : (sets : List Flagging) → movings (flagged_by sets) ≡ []
unfolding movings
flagged_movings [] = refl
flagged_movings (one ∷ others) = flagged_movings others

nothing : (xs : List Did) → xs ++ [] ≡ xs
nothing [] = refl
nothing (x ∷ xs) = ap (λ z. x ∷ z) (nothing xs)

pub set_as_asked : (asked : ℕ → Asked) (counted : ℕ → ℕ → Bool) (all : List Placed) → DoAsAsked asked counted all → SetAsAsked asked all
set_as_asked asked counted all done number h =
    sym (flagging_all (of_action number all)) ∙ ap flaggings (done number h)
    ∙ flaggings_append (moved_by (counted number) (asked number).moves) (signed_by (asked number).signs ++ flagged_by (asked number).sets)
    ∙ ap (λ z. z ++ flaggings (signed_by (asked number).signs ++ flagged_by (asked number).sets)) (moved_flaggings (counted number) (asked number).moves)
    ∙ flaggings_append (signed_by (asked number).signs) (flagged_by (asked number).sets)
    ∙ ap (λ z. z ++ flaggings (flagged_by (asked number).sets)) (signed_flaggings (asked number).signs)
    ∙ flagged_flaggings (asked number).sets

pub moves_as_asked : (asked : ℕ → Asked) (counted : ℕ → ℕ → Bool) (all : List Placed) → DoAsAsked asked counted all → (number : ℕ) → 0 < number
    → each_of moving_at (of_action number all) ≡ moved_by (counted number) (asked number).moves ++ signed_by (asked number).signs
moves_as_asked asked counted all done number h =
    sym (moving_all (of_action number all)) ∙ ap movings (done number h)
    ∙ movings_append (moved_by (counted number) (asked number).moves) (signed_by (asked number).signs ++ flagged_by (asked number).sets)
    ∙ ap (λ z. z ++ movings (signed_by (asked number).signs ++ flagged_by (asked number).sets)) (moved_movings (counted number) (asked number).moves)
    ∙ ap (λ z. moved_by (counted number) (asked number).moves ++ z)
    (movings_append (signed_by (asked number).signs) (flagged_by (asked number).sets)
    ∙ ap (λ z. z ++ movings (flagged_by (asked number).sets)) (signed_movings (asked number).signs)
    ∙ ap (λ z. signed_by (asked number).signs ++ z) (flagged_movings (asked number).sets)
    ∙ nothing (signed_by (asked number).signs))

-- the causes of events and those of queries are all causes
events_caused : (all earlier places : List Placed) → AreCausedBehind all earlier places → AllHave (EventCauseAt all) earlier places
events_caused all earlier [] h = tt
events_caused all earlier (place ∷ places) h = (λ e. h.0, events_caused all (place ∷ earlier) places h.1)

queries_caused : (all earlier places : List Placed) → AreCausedBehind all earlier places → AllHave (QueryCauseAt all) earlier places
queries_caused all earlier [] h = tt
queries_caused all earlier (place ∷ places) h = (λ e. h.0, queries_caused all (place ∷ earlier) places h.1)

all_caused : (all earlier places : List Placed) → AllHave (EventCauseAt all) earlier places → AllHave (QueryCauseAt all) earlier places
    → AreCausedBehind all earlier places
all_caused all earlier [] a b = tt
all_caused all earlier (place ∷ places) a b =
    (at (is_reading_line place.line) refl, all_caused all (place ∷ earlier) places a.1 b.1) where
      at : (x : Bool) → is_reading_line place.line ≡ x → ShowsCause all earlier place place.entry
      at true e = b.0 e
      at false e = a.0 e

-- what stands under a phase's end, by what was found
abbrev FinalOf : Case → Findings → PhaseParts → Type 0
FinalOf case found report =
    IsFinal case.setting (change_in case.phases) found.labels found.content (flags_in case found) (so_far found report) report

final_map : (P Q : PhaseParts → Type 0) → ((report : PhaseParts) → P report → Q report) → (reports : List PhaseParts)
    → AreFinal P reports → AreFinal Q reports
final_map P Q f [] h = tt
final_map P Q f (report ∷ reports) h = (f report h.0, final_map P Q f reports h.1)

final_join : (P Q R : PhaseParts → Type 0) → ((report : PhaseParts) → P report → Q report → R report) → (reports : List PhaseParts)
    → AreFinal P reports → AreFinal Q reports → AreFinal R reports
final_join P Q R f [] a b = tt
final_join P Q R f (report ∷ reports) a b = (f report a.0 b.0, final_join P Q R f reports a.1 b.1)

abbrev found_by : (case : Case) → IsRun case.setting case.phases case.report → Findings
found_by case run = record { blocks = run.blocks; labels = run.labels; counted = run.counted; content = run.content }

run_keeps : (case : Case) (run : IsRun case.setting case.phases case.report) (rule : Rule) → Keeps rule case (found_by case run)
run_keeps case run rules.Shape = record { phases_are = run.phases_are; shaped = run.rules.shaped }
run_keeps case run rules.Actions = record {
  numbers = run.rules.joint.ordered.numbers;
  rising = run.rules.joint.ordered.rising;
  labelled = run.labelled;
}
run_keeps case run rules.Chain = run.rules.joint.rows
run_keeps case run rules.Setup = record {
  words = run.rules.joint.words;
  sets = run.rules.joint.ordered.sets;
  asked = set_as_asked (terms_in case (found_by case run)).asked run.counted (entries_of (found_by case run)) run.rules.done;
}
run_keeps case run rules.Seen = record {
  floored = run.rules.joint.floored;
  there = run.rules.there;
  slots = slots_there case.setting (change_in case.phases) run.labels (terms_in case (found_by case run)).answers
      (all_blocks run.blocks) run.rules.answered;
}
run_keeps case run rules.Verdict = run.rules.judged
run_keeps case run rules.Numbers = record { numbered = run.rules.numbered; answered = run.rules.answered }
run_keeps case run rules.Moves = record {
  deeds = run.rules.joint.ordered.deeds;
  done = run.rules.done;
  found_is = run.rules.found;
  contents = run.rules.contents;
}
run_keeps case run rules.Rings = record {
  brought = run.brought;
  ticketed = run.rules.ticketed;
  risen = run.rules.risen;
  caused = events_caused (entries_of (found_by case run)) [] (entries_of (found_by case run)) run.rules.caused;
}
run_keeps case run rules.Queries = record {
  caused = queries_caused (entries_of (found_by case run)) [] (entries_of (found_by case run)) run.rules.caused;
  answered = run.answered;
}
run_keeps case run rules.Tables =
    final_map (FinalOf case (found_by case run)) (TablesOf case (found_by case run))
    (λ report h. record { reads = h.reads; order = h.order; each = h.each; are = h.tables }) case.report.phases run.finals
run_keeps case run rules.Lost =
    final_map (FinalOf case (found_by case run)) (LostOf case (found_by case run)) (λ report h. h.lost) case.report.phases run.finals

is_run : (case : Case) → case.report.format ≡ 1 → IsGood case → IsRun case.setting case.phases case.report
is_run case format good = record {
  format = format;
  blocks = good.found.blocks;
  labels = good.found.labels;
  counted = good.found.counted;
  content = good.found.content;
  phases_are = (good.keeps rules.Shape).phases_are;
  labelled = (good.keeps rules.Actions).labelled;
  rules = record {
    shaped = (good.keeps rules.Shape).shaped;
    joint = record {
      rows = good.keeps rules.Chain;
      words = (good.keeps rules.Setup).words;
      ordered = record {
        numbers = (good.keeps rules.Actions).numbers;
        rising = (good.keeps rules.Actions).rising;
        deeds = (good.keeps rules.Moves).deeds;
        sets = (good.keeps rules.Setup).sets;
      };
      floored = (good.keeps rules.Seen).floored;
    };
    there = (good.keeps rules.Seen).there;
    caused = all_caused (entries_of good.found) [] (entries_of good.found) (good.keeps rules.Rings).caused (good.keeps rules.Queries).caused;
    judged = good.keeps rules.Verdict;
    numbered = (good.keeps rules.Numbers).numbered;
    answered = (good.keeps rules.Numbers).answered;
    done = (good.keeps rules.Moves).done;
    found = (good.keeps rules.Moves).found_is;
    contents = (good.keeps rules.Moves).contents;
    ticketed = (good.keeps rules.Rings).ticketed;
    risen = (good.keeps rules.Rings).risen;
  };
  brought = (good.keeps rules.Rings).brought;
  answered = (good.keeps rules.Queries).answered;
  finals = final_join (TablesOf case good.found) (LostOf case good.found) (FinalOf case good.found)
      (λ report tables lost. record {
        reads = tables.reads;
        order = tables.order;
        each = tables.each;
        tables = tables.are;
        lost = lost;
      }) case.report.phases (good.keeps rules.Tables) (good.keeps rules.Lost);
}

pub run_law : RunLaw
run_law case =
    (λ run. (run.format, record { found = found_by case run; keeps = run_keeps case run }), λ h. is_run case h.0 h.1)
