use Rattle.std.proofs.Common.{◌++◌, refl, sym, ap, subst}
use Rattle.pfs_model.specs.Chains.{word_change}
use Rattle.pfs_model.specs.Floors.{loads_in, rows_known}
use Rattle.pfs_model.specs.SetupFlags.{loads_of}
use Rattle.pfs_check_floors.specs.KnownFloors.{AreRaised}
use Rattle.pfs_check_floors.specs.RowNames.{rows_shown}
use Rattle.pfs_check_floors.proofs.FloorFacts.{known_more}
use Rattle.pfs_check_floors.proofs.sights.Sights.note.Goals as goal

pub returns : goal.returns
returns c = λ all earlier place session entry loads known. record {
  rows = record {
    floors = record {
      chained = known.rows.floors.chained;
      phases = known.rows.floors.phases;
      actions = known.rows.floors.actions;
      known = known_more rows_shown (rows_known place.entry) earlier place c.args.self.now.rows.floors.known c.note_rows.new.known
          c.args.session (λ rest. refl) session
          (subst (AreRaised c.args.self.now.rows.floors.known c.note_rows.new.known c.args.session) (sym (ap rows_known entry))
          c.in_ok-note_rows.ensures)
          known.rows.floors.known;
    };
    releases = known.rows.releases;
  };
  words = record {
    chained = known.words.chained;
    phases = known.words.phases;
    actions = known.words.actions;
    known = known_more loads_in (loads_of place ++ word_change place.entry) earlier place c.args.self.now.words.known
        c.note_loads.new.known c.args.session (λ rest. refl) session
        (subst (AreRaised c.args.self.now.words.known c.note_loads.new.known c.args.session) loads c.in_ok-note_loads.ensures)
        known.words.known;
  };
}
