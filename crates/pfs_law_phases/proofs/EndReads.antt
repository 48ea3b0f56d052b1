-- What the root of a board read behind a phase is its end.
use Rattle.std.proofs.Common.{ℕ, List, [], ◌∷◌, ◌++◌, sym, subst}
use Rattle.std.specs.Prelude.{All}
use Rattle.std.proofs.lemmas.List.Elements.{All-nil, All-cons}
use Rattle.pfs_admin.specs.Fold.{StandsFor}
use Rattle.pfs_admin.specs.OpeningState.{opening_flags}
use Rattle.pfs_board.specs.declared.view.Change.{Change as Entry}
use Rattle.pfs_board_store.specs.RootActors.{calls_of_all}
use Rattle.pfs_finals.specs.Finals.{all_readings}
use Rattle.pfs_law_board.specs.EndReadings.{AreOfEnd, ReadLaw}
use Rattle.pfs_law_board.specs.PhaseEnds.{AreAllBut}
use Rattle.pfs_law_joint.specs.Phases.{IsShared}
use Rattle.pfs_law_shared.specs.Ends.{IsSeen}
use Rattle.pfs_law_shared.specs.Shares.{actors_of}
use Rattle.pfs_levels.specs.Calls.{Call}
use Rattle.pfs_matching.specs.ObjectRules.{opening_objects}
use Rattle.pfs_reader.proofs.Readings.{calls_then}
use Rattle.pfs_reader.specs.Readings.{call_of}
use Rattle.pfs_reader.specs.Readings.{calls_of as calls_of_readings}
use Rattle.pfs_rows.specs.declared.table.Reading.{Reading}
use Rattle.pfs_rows.specs.declared.table.Reading.TheVariants as readings
use Rattle.pfs_rows.specs.declared.table.Seen.TheVariants as sees
use Rattle.pfs_law_phases.specs.Ends.{EndReadLaw}
use Rattle.pfs_law_phases.proofs.BoardActors.{but_quiet, calls_then as workers_then}

-- nobody held what was read of an end
module _ (start : List ℕ) (log : List Entry) (words : List ℕ) where
  front : (xs ys : List Call) → AreOfEnd start log words (xs ++ ys) → AreOfEnd start log words xs × AreOfEnd start log words ys
  front [] ys are = (tt, are)
  front (x ∷ xs) ys are = let rest = front xs ys are.1 in ((are.0, rest.0), rest.1)

  one_seen : (r : Reading) → AreOfEnd start log words (call_of r ∷ []) → IsSeen r
  one_seen (readings.Slot row (sees.Whole k found)) are = tt
  one_seen (readings.Slot row (sees.Free word)) are = tt
  one_seen (readings.Slot row (sees.Busy first second)) are = are.0
  one_seen (readings.Word word version flags) are = tt

  all_seen : (rs : List Reading) → AreOfEnd start log words (calls_of_readings rs) → All IsSeen rs
  all_seen [] are = All-nil IsSeen
  all_seen (r ∷ rs) are =
      let parts = front (calls_of_readings rs) (call_of r ∷ []) (subst (AreOfEnd start log words) (calls_then (r ∷ []) rs) are) in
      All-cons IsSeen r rs (one_seen r parts.1) (all_seen rs parts.0)

pub end_read : ReadLaw → EndReadLaw
end_read read_law = λ setting change switches start before spells report is_board but e.
    (let flags : List ℕ = opening_flags setting opening_objects in
    let theirs : AreAllBut (actors_of spells) (calls_of_all (e.own ++ before)) =
    subst (AreAllBut (actors_of spells)) (sym (workers_then e.own before)) (but_quiet (calls_of_all e.own) (actors_of spells) (calls_of_all before) e.read.quiet but) in
    let given : (shared : IsShared flags (actors_of spells) (calls_of_readings (all_readings e.each_read) ∷ [])) × StandsFor setting change shared.labels e.read.last.admin =
    subst (λ z. (shared : IsShared flags (actors_of spells) (z ∷ [])) × StandsFor setting change shared.labels e.read.last.admin) e.calls
    (read_law setting change switches start before e.own e.reads (actors_of spells) is_board e.read theirs) in
    record {
      reads = e.each_read;
      common = given.0;
      seen = all_seen start e.read.last.history.t.log e.read.first.pen.view.seen (all_readings e.each_read)
          (subst (AreOfEnd start e.read.last.history.t.log e.read.first.pen.view.seen) e.calls e.read.seen);
      order = e.order;
      each = e.sets;
      tables = e.tables;
      admin = e.read.last.admin;
      stands = given.1;
      lost = e.lost;
    })
