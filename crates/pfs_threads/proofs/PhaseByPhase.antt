-- A run goes from phase to phase.
use Rattle.std.proofs.Common.{ℕ, suc, ◌≡◌, ◌+◌, ◌<◌, ◌≤◌, List, [], ◌∷◌, ◌++◌, Option, length, take, drop, get_or, ap, sym, ◌∙◌, subst, arith}
use Rattle.std.proofs.Math.ListN.{drop_of_length-le}
use Rattle.std.proofs.Math.Seq.{drop-cons}
use Rattle.std.proofs.lemmas.List.{take_all, take_more, take-append-drop}
use Rattle.atomic_table.specs.Seated.{TableId}
use Rattle.pfs_admin.specs.OpeningState.{opening_flags}
use Rattle.pfs_board_phase.specs.BetweenPhases.{IsBetweenPhases}
use Rattle.pfs_board_phase.specs.SeatNumbers.{AreNumbered, newest_tables}
use Rattle.pfs_board_root.specs.Roots.{RootView, root_of}
use Rattle.pfs_board_store.specs.declared.rows.Seats.{Seats}
use Rattle.pfs_classes.specs.declared.setting.Setting.{Setting}
use Rattle.pfs_journal.specs.declared.report.PhaseParts.{PhaseParts}
use Rattle.pfs_journal.specs.declared.report.ReportParts.{ReportParts}
use Rattle.pfs_law_board.specs.PhaseEnds.{all_of}
use Rattle.pfs_law_phases.specs.Behind.{EndLaw}
use Rattle.pfs_law_report.specs.declared.counts.LostEvents.{LostEvents}
use Rattle.pfs_law_script.specs.ReportSpells.{ArePhasesTold}
use Rattle.pfs_law_shared.specs.Shares.{actors_of}
use Rattle.pfs_matching.specs.ObjectRules.{opening_objects}
use Rattle.pfs_runs.specs.Runs.{IsRun}
use Rattle.pfs_script.specs.declared.blocks.Phase.{Phase}
use Rattle.pfs_seats.specs.Seats.{depth_of}
use Rattle.pfs_session.specs.SessionStates.{Book}
use Rattle.pfs_switches.specs.OpeningWords.{opening_words}
use Rattle.pfs_threads.specs.Records.{HasRecorded}

-- what of a list lies ahead of one of its elements, with it, and behind
ahead : {A : Type 0} (xs : List A) (i : ℕ) (x : A) → i < length xs → x ≡ get_or xs i x → drop i xs ≡ x ∷ drop (i + 1) xs
ahead {A} xs i x within is = drop-cons xs i x within ∙ (ap (λ y. y ∷ drop (suc i) xs) (sym is) ∙ ap (λ n. x ∷ drop n xs) (one_more i)) where
  one_more : (n : ℕ) → suc n ≡ n + 1
  one_more n = omega arith

pub whole_is : {A : Type 0} (xs : List A) (i : ℕ) (x : A) → i < length xs → x ≡ get_or xs i x → xs ≡ take i xs ++ x ∷ drop (i + 1) xs
whole_is {A} xs i x within is = sym (take-append-drop i xs) ∙ ap (λ z. take i xs ++ z) (ahead xs i x within is)

-- where a run stands, by how many phases lie behind it
module _ (setting : Setting) (phases : List Phase) (run : TableId) (root : RootView) (seats : List (Option Book)) (lost : LostEvents) (reports : List PhaseParts) where
  abbrev pub IsAt : ℕ → Type 0
  IsAt i = IsBetweenPhases setting phases run (take i phases) (drop i phases) root seats lost reports

  pub before_phase : (i : ℕ) (phase : Phase) → i < length phases → phase ≡ get_or phases i phase → IsAt i → IsBetweenPhases setting phases run (take i phases) (phase ∷ drop (i + 1) phases) root seats lost reports
  before_phase i phase within is at = subst (λ (z : List Phase). IsBetweenPhases setting phases run (take i phases) z root seats lost reports) (ahead phases i phase within is) at

  pub behind_phase : (i : ℕ) (phase : Phase) → i < length phases → phase ≡ get_or phases i phase → IsBetweenPhases setting phases run (take i phases ++ phase ∷ []) (drop (i + 1) phases) root seats lost reports → IsAt (i + 1)
  behind_phase i phase within is between =
      let more : take i phases ++ phase ∷ [] ≡ take (i + 1) phases = ap (λ (y : Phase). take i phases ++ y ∷ []) is ∙ sym (take_more phases i phase within) in
      subst (λ (z : List Phase). IsBetweenPhases setting phases run z (drop (i + 1) phases) root seats lost reports) more between

  -- behind the last one
  module _ (i : ℕ) (long : length phases ≤ i) (at : IsAt i) (report : ReportParts) (told : report.phases ≡ reports) where
    last : IsBetweenPhases setting phases run phases [] root seats lost reports
    last =
        subst (λ (z : List Phase). IsBetweenPhases setting phases run phases z root seats lost reports) (drop_of_length-le phases long)
        (subst (λ (z : List Phase). IsBetweenPhases setting phases run z (drop i phases) root seats lost reports) (take_all i phases long) at)

    pub is_run : EndLaw → report.format ≡ 1 → IsRun setting phases report
    is_run law format = law setting phases (depth_of phases) run root.seat.start last.run report last.behind format (told ∙ sym last.told)

    pub has_recorded : (named : Setting) (store : Seats) → named ≡ setting → root_of store ≡ root → store.switches.view.start ≡ opening_words (opening_flags named opening_objects) → HasRecorded setting phases report store
    has_recorded named store same is opened =
        let b : IsBetweenPhases setting phases run phases [] (root_of store) seats lost reports =
        subst (λ (r : RootView). IsBetweenPhases setting phases run phases [] r seats lost reports) (sym is) last in
        record {
          board = b.board;
          words = opened ∙ ap (λ (z : Setting). opening_words (opening_flags z opening_objects)) same;
          whole = (b.settled.whole, b.settled.all_draws);
          spells = b.run.spells;
          course = b.behind.course;
          told = subst (λ z. ArePhasesTold setting 1 phases z b.run.spells) (b.told ∙ sym told) b.behind.told;
          actors = b.settled.own ++ all_of b.run.ended;
          by_number = subst (λ z. AreNumbered setting (newest_tables z) (actors_of b.run.spells) (b.settled.own ++ all_of b.run.ended)) (sym told) b.by_number.theirs;
          gathered = b.settled.gathered;
        }
