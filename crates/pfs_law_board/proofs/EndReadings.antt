-- The root's readings of what stands at an end are not below what all actors before left.
use Rattle.std.proofs.Common.{ℕ, ◌≡◌, ◌==◌, ◌<◌, ◌≤◌, ◌&&◌, not, true, List, [], ◌∷◌, ◌++◌, slice_index, inl, inr, refl, ap, sym, ◌∙◌, subst, arith}
use Rattle.std.specs.Prelude.{◌⊎◌}
use Rattle.std.proofs.lemmas.Bool.{cases_lt}
use Rattle.pfs_lemmas.proofs.Bools.{true_not_false}
use Rattle.pfs_admin.specs.Fold.{StandsFor}
use Rattle.pfs_admin.specs.OpeningState.{opening_flags}
use Rattle.pfs_board.specs.History.{is_free, labels_of, version}
use Rattle.pfs_board.specs.declared.view.Change.{Change as Entry}
use Rattle.pfs_board.specs.declared.view.Label.{Label}
use Rattle.pfs_board_admin.specs.DeskLaws.{SharedLaw as SetsLaw}
use Rattle.pfs_board_store.proofs.ChangeOrder.{counts}
use Rattle.pfs_board_store.specs.ActorPhases.{SinceLaw}
use Rattle.pfs_board_store.specs.RootActors.{Worked, ats_of, calls_of_all, marks_in}
use Rattle.pfs_board_store.specs.RootLaws.{JointLaw, OrderLaw, content_of, settings_in}
use Rattle.pfs_law_joint.proofs.MarkSums.{count_is}
use Rattle.pfs_law_joint.specs.Phases.{IsShared}
use Rattle.pfs_levels.specs.Calls.{Call, Adds, Rings, Reads, Loads, Draws, Takes, Puts, Frees, Sets, Enters, Leaves, Meets}
use Rattle.pfs_levels.specs.JointCalls.{At, Setting as WordSet, all_calls, changes_of, count, frees_at, one_if, total, word_version}
use Rattle.pfs_levels.specs.PhaseFloors.{AreSince}
use Rattle.pfs_matching.specs.ObjectRules.{opening_objects}
use Rattle.pfs_rows.specs.declared.table.Seen.TheVariants.{Whole, Free}
use Rattle.pfs_rows.specs.declared.table.Seen.TheVariants as sees
use Rattle.pfs_law_board.proofs.LastReleases.{freed}
use Rattle.pfs_law_board.proofs.QuietActors.{none_left_out, same_changes, same_labels, same_sets, shared_but, then_quiet}
use Rattle.pfs_law_board.proofs.SharedPhases.{SetsOf, joint_of, order_of, set_low, set_none}
use Rattle.pfs_law_board.specs.EndReadings.{AreOfEnd, ReadLaw}
use Rattle.pfs_law_board.specs.PhaseEnds.{AreAllBut, IsQuiet}

-- they change nothing
end_quiet : (start : List ℕ) (log : List Entry) (seen : List ℕ) (calls : List Call) → AreOfEnd start log seen calls → IsQuiet calls
end_quiet start log seen [] e = tt
end_quiet start log seen (Reads row (Whole k found) ∷ calls) e = end_quiet start log seen calls e.1
end_quiet start log seen (Reads row (Free word) ∷ calls) e = end_quiet start log seen calls e.1
end_quiet start log seen (Reads row (sees.Busy first second) ∷ calls) e = absurd e.0
end_quiet start log seen (Loads at k flags ∷ calls) e = end_quiet start log seen calls e.1
end_quiet start log seen (Meets versions ∷ calls) e = absurd e.0
end_quiet start log seen (Adds row amount answer ∷ calls) e = absurd e.0
end_quiet start log seen (Rings row content answer ∷ calls) e = absurd e.0
end_quiet start log seen (Draws kind ticket ∷ calls) e = absurd e.0
end_quiet start log seen (Takes row k found ∷ calls) e = absurd e.0
end_quiet start log seen (Puts row content k ∷ calls) e = absurd e.0
end_quiet start log seen (Frees row k ∷ calls) e = absurd e.0
end_quiet start log seen (Sets at to k ∷ calls) e = absurd e.0
end_quiet start log seen (Enters label labels ∷ calls) e = absurd e.0
end_quiet start log seen (Leaves ∷ calls) e = absurd e.0

-- where these are all changes and sets, the rows at their last versions, and the words not above what was seen of them
module _ (start : List ℕ) (log : List Entry) (seen : List ℕ) (changes : List At) (sets : List WordSet) (many : (row : ℕ) → 0 < row → count changes row ≡ version log row)
    (stands : (row : ℕ) → row < 14242 → 0 < frees_at changes row (version log row) → is_free start log row ≡ true) (low : (at : ℕ) → word_version sets at ≤ slice_index seen at) where
  end_since : (calls : List Call) → AreOfEnd start log seen calls → AreSince changes sets calls
  end_since [] e = tt
  end_since (Reads row (Whole k found) ∷ calls) e =
      let last : k ≡ version log row = e.0.1 in
      let up : 0 < row = e.0.0.0 in (
        (omega (arith, many row up, last), λ some is. true_not_false (is_free start log row) (stands row e.0.0.1 (subst (λ z. 0 < frees_at changes row z) last some)) e.0.2),
        end_since calls e.1,
      )
  end_since (Reads row (Free word) ∷ calls) e =
      let up : 0 < row = e.0.0.0 in
      (omega (arith, many row up, e.0.1), end_since calls e.1)
  end_since (Reads row (sees.Busy first second) ∷ calls) e = absurd e.0
  end_since (Loads at k flags ∷ calls) e = (omega (arith, low at, e.0), end_since calls e.1)
  end_since (Meets versions ∷ calls) e = absurd e.0
  end_since (Adds row amount answer ∷ calls) e = absurd e.0
  end_since (Rings row content answer ∷ calls) e = absurd e.0
  end_since (Draws kind ticket ∷ calls) e = absurd e.0
  end_since (Takes row k found ∷ calls) e = absurd e.0
  end_since (Puts row content k ∷ calls) e = absurd e.0
  end_since (Frees row k ∷ calls) e = absurd e.0
  end_since (Sets at to k ∷ calls) e = absurd e.0
  end_since (Enters label labels ∷ calls) e = absurd e.0
  end_since (Leaves ∷ calls) e = absurd e.0

pub reads : JointLaw → OrderLaw → SinceLaw → SetsLaw → ReadLaw
reads joint ordered later shared setting change switches start before own a some runs e but =
    let was : List (List Call) = calls_of_all before in
    let theirs : List (List Call) = calls_of_all (own ++ before) in
    let all : List Worked = a ∷ (own ++ before) in
    let log : List Entry = e.last.history.t.log in
    let seen : List ℕ = e.first.pen.view.seen in
    let j = joint_of joint ordered later shared setting change switches start runs all e.last in
    let o = order_of joint ordered later shared setting change switches start runs all e.last in
    let quiet : IsQuiet a.calls = end_quiet start log seen a.calls e.seen in
    let left : AreAllBut theirs (a.calls ∷ theirs) = then_quiet (a.calls ∷ []) theirs theirs (quiet, tt) (none_left_out theirs) in
    let fewer : AreAllBut was theirs = subst (AreAllBut was) (sym (own_then own)) (then_quiet (calls_of_all own) was was e.quiet (none_left_out was)) in
    let once : (h : At → ℕ) → total h (changes_of (all_calls theirs)) ≡ total h (ats_of log) = λ h. ap (total h) (same_changes theirs (a.calls ∷ theirs) left) ∙ j.1.once h in
    let many : (row : ℕ) → 0 < row → count (changes_of (all_calls theirs)) row ≡ version log row = λ row up. count_is (ats_of log) (changes_of (all_calls theirs)) row once ∙ counts start log row up in
    let stands : (row : ℕ) → row < 14242 → 0 < frees_at (changes_of (all_calls theirs)) row (version log row) → is_free start log row ≡ true = λ row there up.
    freed start row log e.last.history.chain (runs.free row there) (omega (arith, up, once (λ x. one_if ((x.row == row) && not x.puts && (x.version == version log row))))) in
    let low : (at : ℕ) → word_version (SetsOf theirs) at ≤ slice_index seen at = λ at. subst (λ (z : List WordSet). word_version z at ≤ slice_index seen at) (same_sets was theirs fewer) (low_at at (cases_lt at 160)) in
    let shared : IsShared (opening_flags setting opening_objects) theirs (a.calls ∷ []) = record {
      content = content_of start log;
      log = ats_of log;
      sets = settings_in e.last.pen.view.sets;
      draws = j.0;
      marks = marks_in log;
      words = o.0;
      labels = labels_of log;
      joint = j.1;
      order = o.1;
      since = (end_since start log seen (changes_of (all_calls theirs)) (SetsOf theirs) many stands low a.calls e.seen, tt);
    } in
    let labels = same_labels (opening_flags setting opening_objects) some theirs (a.calls ∷ []) but shared in
    (shared_but (opening_flags setting opening_objects) some theirs (a.calls ∷ []) but shared, subst (λ (z : List Label). StandsFor setting change z e.last.admin) (sym labels) e.last.desk.stands)
  where
    own_then : (xs : List Worked) → calls_of_all (xs ++ before) ≡ calls_of_all xs ++ calls_of_all before
    own_then [] = refl
    own_then (x ∷ xs) = ap (λ z. x.calls ∷ z) (own_then xs)

    low_at : (at : ℕ) → (at < 160) ⊎ (160 ≤ at) → word_version (SetsOf (calls_of_all before)) at ≤ slice_index e.first.pen.view.seen at
    low_at at (inl less) = set_low joint ordered later shared setting change switches start runs before e.first at less
    low_at at (inr high) = omega (arith, set_none joint ordered later shared setting change switches start runs before e.first at high)
