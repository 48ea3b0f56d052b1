-- The first fault under the ends of phases.
use Rattle.std.proofs.Common.{◌≡◌, refl, ℕ, ◌+◌, ◌<◌, ◌≤◌, List, [], ◌∷◌, ◌++◌, drop, get_or, length, map, take, sym, ◌∙◌, ap, subst, arith, inl, inr, Some}
use Rattle.std.specs.List.{flat_map}
use Rattle.std.proofs.lemmas.List.{at_drop_more, length-append, length-map, take-append-drop, take_all, take_more}
use Rattle.pfs_journal.specs.ReportLines.{block_lines, phase_lines, table_lines}
use Rattle.pfs_journal.specs.declared.line.Line.TheVariants as says
use Rattle.pfs_journal.specs.declared.report.PhaseParts.{PhaseParts}
use Rattle.pfs_journal.specs.declared.values.LostReport.{LostReport}
use Rattle.pfs_model.specs.Contents.{AreContents}
use Rattle.pfs_readsets.proofs.EqualReadings.{RowsArePlaces}
use Rattle.pfs_runs.specs.Rules.{given_by}
use Rattle.pfs_runs.specs.Runs.{AreFinal, all_blocks}
use Rattle.pfs_runs.specs.ScriptLines.{change_in}
use Rattle.pfs_check_faults.specs.declared.rules.Rule.TheVariants as rules
use Rattle.pfs_check_faults.specs.FinalFaults.{LostFail, SomeEndFails, TablesFail, behind_final, lost_due}
use Rattle.pfs_check_faults.specs.Judgements.{IsFirstFault, KeepBefore, Keeps, LostOf, TablesOf, WithContents, so_far}
use Rattle.pfs_check_faults.specs.ReportCases.{Case, Findings, entries_of, flags_in, terms_in}
use Rattle.pfs_check_line_numbers.specs.LineCounts.{result_lines}
use Rattle.pfs_check_finals.specs.Differences.{DifferAt}
use Rattle.pfs_check_finals.specs.EndTables.{AreDue, AreTablesAsked, shown_by}
use Rattle.pfs_check_finals.proofs.DueTables.{are_due, due_are, one_due}
use Rattle.pfs_check_finals.proofs.ListDifferences.{alike_before, differ_within, not_alike}

-- the lines of phases behind a front
behind_front : (front : List PhaseParts) (first : ℕ) (one : PhaseParts) → first + length (flat_map phase_lines (one ∷ front)) ≡ first + length (phase_lines one) + length (flat_map phase_lines front)
behind_front front first one = omega (arith, length-append (phase_lines one) (flat_map phase_lines front))

-- a fault of one of the phases
some_end : (fails : PhaseParts → ℕ → ℕ → Type 0) (front : List PhaseParts) (report : PhaseParts) (behind : List PhaseParts) (first line : ℕ)
    → fails report (first + length (flat_map phase_lines front)) line → SomeEndFails fails (front ++ report ∷ behind) first line
some_end fails [] report behind first line f = inl (subst (λ z. fails report z line) (let e : first + 0 ≡ first = omega arith in e) f)
some_end fails (one ∷ front) report behind first line f =
    inr (some_end fails front report behind (first + length (phase_lines one)) line (subst (λ z. fails report z line) (behind_front front first one) f))

-- a fault stands behind the line of its phase
abbrev StandsBehind : (PhaseParts → ℕ → ℕ → Type 0) → Type 0
StandsBehind fails = (one : PhaseParts) (from line : ℕ) → fails one from line → from < line

later_high : (fails : PhaseParts → ℕ → ℕ → Type 0) → StandsBehind fails → (reports : List PhaseParts) (first line : ℕ) → SomeEndFails fails reports first line → first ≤ line
later_high fails high [] first line f = absurd f
later_high fails high (one ∷ reports) first line (inl f) = let low = high one first line f in omega (arith, low)
later_high fails high (one ∷ reports) first line (inr f) = let low = later_high fails high reports (first + length (phase_lines one)) line f in omega (arith, low)

-- before the first fault there is none
none_before : (fails : PhaseParts → ℕ → ℕ → Type 0) (keeps : PhaseParts → Type 0) → StandsBehind fails
    → ((one : PhaseParts) (from line : ℕ) → keeps one → fails one from line → ⊥) → (front : List PhaseParts) → AreFinal keeps front
    → (report : PhaseParts) (behind : List PhaseParts) (first line : ℕ)
    → ((other : ℕ) → other < line → fails report (first + length (flat_map phase_lines front)) other → ⊥)
    → line ≤ first + length (flat_map phase_lines front) + length (phase_lines report) → (other : ℕ) → other < line
    → SomeEndFails fails (front ++ report ∷ behind) first other → ⊥
none_before fails keeps high sound [] kept report behind first line here low other less (inl f) = here other less (subst (λ z. fails report z other) (let e : first ≡ first + 0 = omega arith in e) f)
none_before fails keeps high sound [] kept report behind first line here low other less (inr f) =
    let later = later_high fails high behind (first + length (phase_lines report)) other f in
    omega (arith, low, less, later)
none_before fails keeps high sound (one ∷ front) kept report behind first line here low other less (inl f) = sound one first other kept.0 f
none_before fails keeps high sound (one ∷ front) kept report behind first line here low other less (inr f) =
    none_before fails keeps high sound front kept.1 report behind (first + length (phase_lines one)) line
    (λ other less f. here other less (subst (λ z. fails report z other) (sym (behind_front front first one)) f))
    (subst (λ z. line ≤ z + length (phase_lines report)) (behind_front front first one) low) other less f

-- the lines behind `final` are lines of the phase
results_fit : (report : PhaseParts) (first : ℕ) → behind_final first report + length (flat_map table_lines report.tables) + length report.lost ≡ first + length (phase_lines report)
results_fit report first =
    let all : length (phase_lines report) ≡ 1 + (length (flat_map block_lines report.blocks) + length (result_lines report)) =
    (let n : length (phase_lines report) ≡ 1 + length (flat_map block_lines report.blocks ++ result_lines report) = omega arith in n)
    ∙ ap (λ z. 1 + z) (length-append (flat_map block_lines report.blocks) (result_lines report)) in
    omega (arith, all, length-append (flat_map table_lines report.tables) (map says.Lost report.lost), length-map report.lost says.Lost)

all_keep : (some other : PhaseParts → Type 0) → ((one : PhaseParts) → some one → other one) → (reports : List PhaseParts) → AreFinal some reports → AreFinal other reports
all_keep some other to [] all = tt
all_keep some other to (one ∷ reports) all = (to one all.0, all_keep some other to reports all.1)

-- the tables of each phase are those that are due
pub tables_kept : (case : Case) (found : Findings) → KeepBefore rules.Tables case found
    → AreFinal (λ (one : PhaseParts). AreDue case.setting (shown_by case found found.content one.number) one.tables) case.report.phases → Keeps rules.Tables case found
tables_kept case found keeps all =
    all_keep (λ (one : PhaseParts). AreDue case.setting (shown_by case found found.content one.number) one.tables) (TablesOf case found)
    (λ one due. due_are case.setting found.content (flags_in case found) (so_far found one) one.tables due) case.report.phases all

-- a phase whose tables aren't
abbrev pub FailsBy : Case → Findings → (ℕ → ℕ → List ℕ) → PhaseParts → ℕ → ℕ → Type 0
FailsBy case found content report first line = TablesFail case.setting content (flags_in case found) (so_far found report) report first line

pub tables_wrong : RowsArePlaces → (case : Case) (found : Findings) (front behind : List PhaseParts) (one : PhaseParts) (first last line : ℕ) → KeepBefore rules.Tables case found
    → case.report.phases ≡ front ++ one ∷ behind → first ≡ 2 + length (flat_map phase_lines front) → last ≡ first + 1 + length (flat_map block_lines one.blocks)
    → WithContents case found (λ content. AreFinal (λ (one : PhaseParts). AreDue case.setting (shown_by case found content one.number) one.tables) front)
    → WithContents case found (λ content. AreTablesAsked case.setting (shown_by case found content one.number) last one.tables (Some line))
    → IsFirstFault rules.Tables case found line
tables_wrong places case found front behind one first last line keeps phases begins ends kept asked = record {
  fails = λ content are. subst (λ z. SomeEndFails (FailsBy case found content) z 2 line) (sym phases)
      (some_end (FailsBy case found content) front one behind 2 line (subst (λ z. FailsBy case found content one z line) begins (fails content are)));
  first = λ other less some.
      none_before (FailsBy case found found.content) (λ (one : PhaseParts). AreDue case.setting (shown_by case found found.content one.number) one.tables)
      (λ report from line f. omega (arith, f.line_is))
      (λ report from line due f. f.wrong (record {
        due = report.tables;
        right = due_are case.setting found.content (flags_in case found) (so_far found report) report.tables due;
        alike = refl;
      })) front (kept found.content own) one behind 2 line
      (λ other less f. here other less (subst (λ z. FailsBy case found found.content one z other) (sym begins) f))
      low other less (subst (λ z. SomeEndFails (FailsBy case found found.content) z 2 other) phases (some found.content own));
} where
  own : AreContents (given_by (terms_in case found) (all_blocks found.blocks)) found.content (entries_of found)
  own = (keeps rules.Moves (omega arith)).contents

  fails : (content : ℕ → ℕ → List ℕ) → AreContents (given_by (terms_in case found) (all_blocks found.blocks)) content (entries_of found) → FailsBy case found content one first line
  fails content are =
      let told = asked content are in record {
        at = told.2;
        line_is = told.3 ∙ omega (arith, ends);
        within = differ_within (flat_map table_lines told.0) (flat_map table_lines one.tables) told.2 told.4;
        wrong = λ upto.
            let same : upto.due ≡ told.0 =
            one_due places case.setting (shown_by case found content one.number) upto.due told.0
            (are_due case.setting content (flags_in case found) (so_far found one) upto.due upto.right) told.1 in
            not_alike (flat_map table_lines told.0) (flat_map table_lines one.tables) told.2 told.4
            (ap (λ z. take (told.2 + 1) (flat_map table_lines z)) (sym same) ∙ upto.alike);
      }

  here : (other : ℕ) → other < line → FailsBy case found found.content one first other → ⊥
  here other less f =
      let told = asked found.content own in
      let low : f.at < told.2 = omega (arith, less, told.3, f.line_is, ends) in
      f.wrong (record {
        due = told.0;
        right = due_are case.setting found.content (flags_in case found) (so_far found one) told.0 told.1;
        alike = alike_before (flat_map table_lines told.0) (flat_map table_lines one.tables) told.2 f.at told.4 low;
      })

  low : line ≤ 2 + length (flat_map phase_lines front) + length (phase_lines one)
  low =
      let told = asked found.content own in
      let within = differ_within (flat_map table_lines told.0) (flat_map table_lines one.tables) told.2 told.4 in
      omega (arith, told.3, ends, begins, within, results_fit one first)

-- the counters of each phase are those that are due
pub lost_kept : (case : Case) (found : Findings) → AreFinal (LostOf case found) case.report.phases → Keeps rules.Lost case found
lost_kept case found all = all

abbrev pub CountersFail : Case → Findings → PhaseParts → ℕ → ℕ → Type 0
CountersFail case found report first line = LostFail (lost_due case.setting (change_in case.phases) found.labels (so_far found report)) report first line

pub lost_wrong : (case : Case) (found : Findings) (front behind : List PhaseParts) (one : PhaseParts) (first from at line : ℕ)
    → case.report.phases ≡ front ++ one ∷ behind → first ≡ 2 + length (flat_map phase_lines front)
    → from + length one.lost ≡ first + length (phase_lines one) → AreFinal (LostOf case found) front → line ≡ from + at
    → DifferAt (lost_due case.setting (change_in case.phases) found.labels (so_far found one)) one.lost at → IsFirstFault rules.Lost case found line
lost_wrong case found front behind one first from at line phases begins ends kept is differ = record {
  fails = subst (λ z. SomeEndFails (CountersFail case found) z 2 line) (sym phases)
      (some_end (CountersFail case found) front one behind 2 line (subst (λ z. CountersFail case found one z line) begins fails));
  first = λ other less some.
      none_before (CountersFail case found) (LostOf case found)
      (λ report from line f. omega (arith, f.line_is))
      (λ report from line due f. f.wrong (ap (take (f.at + 1)) (sym due))) front kept one behind 2 line
      (λ other less f. here other less (subst (λ z. CountersFail case found one z other) (sym begins) f))
      (omega (arith, is, ends, begins, differ_within due one.lost at differ)) other less (subst (λ z. SomeEndFails (CountersFail case found) z 2 other) phases some);
} where
  due : List LostReport
  due = lost_due case.setting (change_in case.phases) found.labels (so_far found one)

  fails : CountersFail case found one first line
  fails = record {
    at = at;
    line_is = omega (arith, is, ends, results_fit one first);
    within = differ_within due one.lost at differ;
    wrong = λ alike. not_alike due one.lost at differ alike;
  }

  here : (other : ℕ) → other < line → CountersFail case found one first other → ⊥
  here other less f =
      let low : f.at < at = omega (arith, less, is, ends, f.line_is, results_fit one first) in
      f.wrong (alike_before due one.lost at f.at differ low)

-- one phase more is as it should be, and the phases around one
pub final_more : (keeps : PhaseParts → Type 0) (phases : List PhaseParts) (at : ℕ) (one : PhaseParts) → at < length phases → one ≡ get_or phases at one
    → AreFinal keeps (take at phases) → keeps one → AreFinal keeps (take (at + 1) phases)
final_more keeps phases at one low is kept more =
    subst (AreFinal keeps) (sym (take_more phases at one low)) (then (take at phases) kept) where
      then : (xs : List PhaseParts) → AreFinal keeps xs → AreFinal keeps (xs ++ get_or phases at one ∷ [])
      then [] all = (subst keeps is more, tt)
      then (x ∷ xs) all = (all.0, then xs all.1)

pub final_all : (keeps : PhaseParts → Type 0) (phases : List PhaseParts) (at : ℕ) → length phases ≤ at → AreFinal keeps (take at phases) → AreFinal keeps phases
final_all keeps phases at high kept = subst (AreFinal keeps) (take_all at phases high) kept

pub around : (phases : List PhaseParts) (at : ℕ) (one : PhaseParts) → at < length phases → one ≡ get_or phases at one
    → phases ≡ take at phases ++ one ∷ drop (at + 1) phases
around phases at one low is =
    sym (take-append-drop at phases) ∙ ap (λ z. take at phases ++ z) (at_drop_more (λ (z : List PhaseParts). z) phases at one low)
    ∙ ap (λ z. take at phases ++ z ∷ drop (at + 1) phases) (sym is)
