use Rattle.std.proofs.Common.{◌≡◌, ℕ, List, map, take}
use Rattle.std.specs.Prelude.{All}
use Rattle.pfs_model.specs.EntryPlaces.{Placed}
use Rattle.pfs_readsets.specs.ReadProgress.{Reached}
use Rattle.pfs_readsets.specs.TablePlaces.{scope_of}
use Rattle.pfs_runs.specs.SelectAnswers.{IsShown}
use Rattle.pfs_session.specs.Inquiries.{reading_entry}
use Rattle.pfs_check_answers.specs.SelectReadings.{NamesHad}
use Rattle.pfs_check_answers.proofs.walking.walk_entries.Given as goal

abbrev pub invariant-loop-at : goal.invariant-loop-at
invariant-loop-at g l = record {
  reached : Reached l.set (scope_of l.setting) l.fn.table l.readings.items;
  told : map reading_entry l.readings.items ≡ take l.at l.entries;
  shown : (all : List Placed) (content : ℕ → ℕ → List ℕ) (flags : ℕ → ℕ → ℕ) → g.V.Versions.knows l.fn.versions all content flags → All (NamesHad all) l.entries
      → All (IsShown content flags) l.readings.items;
}
