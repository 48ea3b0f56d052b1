-- No action of a run writes an info row twice, so the store has what each of them writes.
use Rattle.std.proofs.Common.{◌≡◌, ℕ, List, [], Option, Some, None, sym, subst, inl, inr}
use Rattle.std.specs.Prelude.{IfSome}
use Rattle.pfs_admin.proofs.ActionRows.{connect_rows, quit_rows}
use Rattle.pfs_admin.specs.AdministrationStates.{State, connected, has_quit, seat_at, seat_in, thread_flags}
use Rattle.pfs_admin.specs.ConnectionAsks.{connect_work, quit_work}
use Rattle.pfs_admin.specs.Fold.{state_of}
use Rattle.pfs_admin.specs.Truncations.{is_there, kept_behind, truncation_signs}
use Rattle.pfs_admin.specs.declared.changes.Change.{Change}
use Rattle.pfs_admin.specs.declared.changes.Change.TheVariants.{Connect, Quit, Truncate, Setup}
use Rattle.pfs_board.specs.declared.view.Label.{Label}
use Rattle.pfs_classes.specs.declared.setting.Setting.{Setting}
use Rattle.pfs_containers.specs.ContainerState.{IsInRange}
use Rattle.pfs_containers.specs.declared.containers.Seated.{Seated}
use Rattle.pfs_law_plain.proofs.SessionPlaces.{fold_well, seat_at_in, seat_in_in}
use Rattle.pfs_law_plain.proofs.TruncationRows.{AreInfosOrRings, signs_split}
use Rattle.pfs_runs.specs.Labels.{work_for}
use Rattle.pfs_check_blank.specs.AllAsked.{AreWritten, HaveWords}

of_state : (setting : Setting) (change : Label → Change) (labels : List Label) (session : ℕ) (what : Change) (contents : List (List ℕ))
    → AreWritten (work_for (state_of setting change labels) session what).signs contents
    → HaveWords contents (work_for (state_of setting change labels) session what).signs
of_state setting change labels session (Connect user host) contents written =
    by_seat (seat_at s session user host) (seat_at_in s.kept.now session user host (fold_well setting change labels)) written where
      s : State
      s = state_of setting change labels

      by_seat : (seat : Option Seated) → IfSome seat IsInRange
          → AreWritten (connect_work s.words (thread_flags s user host) (connected s session user host).kept.now seat).signs contents
          → HaveWords contents (connect_work s.words (thread_flags s user host) (connected s session user host).kept.now seat).signs
      by_seat None h w = tt
      by_seat (Some seat) h w = w 1 129 (connect_rows s.words (thread_flags s user host) (connected s session user host).kept.now seat h)
of_state setting change labels session Quit contents written =
    by_seat (seat_in s session) (seat_in_in s.kept.now session (fold_well setting change labels)) written where
      s : State
      s = state_of setting change labels

      by_seat : (seat : Option Seated) → IfSome seat IsInRange → AreWritten (quit_work s.words s.cells (has_quit s session).kept.now seat).signs contents
          → HaveWords contents (quit_work s.words s.cells (has_quit s session).kept.now seat).signs
      by_seat None h w = tt
      by_seat (Some seat) h w = w 1 10242 (quit_rows s.words [] (has_quit s session).kept.now seat h tt).1
of_state setting change labels session (Truncate what) contents written =
    by_split (signs_split (is_there s.kept.now.places) (kept_behind s.kept what).now what) where
      s : State
      s = state_of setting change labels

      by_split : AreInfosOrRings (truncation_signs (is_there s.kept.now.places) (kept_behind s.kept what).now what)
          → HaveWords contents (truncation_signs (is_there s.kept.now.places) (kept_behind s.kept what).now what)
      by_split (inl ascend) = written 1 129 ascend
      by_split (inr both) = written 8450 14242 both.0
of_state setting change labels session (Setup what) contents written = tt

pub have_words : (setting : Setting) (change : Label → Change) (labels : List Label) (session : ℕ) (what : Change) (s : State) (contents : List (List ℕ))
    → s ≡ state_of setting change labels → AreWritten (work_for s session what).signs contents → HaveWords contents (work_for s session what).signs
have_words setting change labels session what s contents stands written =
    subst (λ z. HaveWords contents (work_for z session what).signs) (sym stands)
    (of_state setting change labels session what contents (subst (λ z. AreWritten (work_for z session what).signs contents) stands written))
