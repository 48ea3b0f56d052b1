-- The worked faults.
use Rattle.std.proofs.Common.{◌≡◌, refl, ℕ, ◌<◌, ◌≤◌, Option, Some, None, ap, arith}
use Rattle.pfs_model.specs.Cuts.{behind, cut}
use Rattle.pfs_model.specs.EntryPlaces.{places_behind}
use Rattle.pfs_model.specs.JournalCuts.{joined, parts_of}
use Rattle.pfs_script.specs.Marks.{written_from}
use Rattle.pfs_check_faults.specs.FaultExamples.{WorkedCases, WorkedShapes}
use Rattle.pfs_check_faults.specs.ShapeFaults.{blocks_cut, phases_cut}

pub worked_shapes : WorkedShapes
unfolding joined written_from parts_of cut behind blocks_cut phases_cut
worked_shapes = record {
  whole = refl;
  entry_missing = refl;
  entry_more = refl;
  entries_swapped = refl;
  other_session = refl;
  block_missing = refl;
  block_more = refl;
  other_phase = refl;
  phase_missing = refl;
}

one_is_none : ◌≡◌ {A = ℕ} 1 0 → ⊥
one_is_none e = omega (arith, e)

five_above : 5 ≤ 2 → ⊥
five_above h = omega (arith, h)

none_above : 0 < 0 → ⊥
none_above h = omega (arith, h)

one_below : 1 ≤ 0 → ⊥
one_below h = omega (arith, h)

number : Option ℕ → ℕ
number None = 0
number (Some n) = n

two_next : ◌≡◌ {A = Option ℕ} (Some 2) (Some 1) → ⊥
unfolding number
two_next e = let f : ◌≡◌ {A = ℕ} 2 1 = ap number e in omega (arith, f)

pub worked_faults : WorkedCases
unfolding joined written_from places_behind
worked_faults setting = record {
  said_twice = (26, refl, λ h. one_is_none h.numbered.0.first);
  said_above = (26, refl, λ h. five_above h.numbered.0.had);
  written_twice = (3, refl, λ h. one_is_none h.0.first);
  written_first = (2, refl, λ h. none_above h.0.above);
  seen_below = (5, refl, λ h. one_below h.words.2.0);
  numbered_above = (5, refl, λ h. two_next h.numbered);
}
