-- The end of a phase as the root of a board was told it and read it, and the root behind it.
use Rattle.std.proofs.Common.{ℕ, ◌≡◌, ◌≤◌, List, [], ◌∷◌, ◌++◌, length, slice_index, ap, sym, ◌∙◌, subst}
use Rattle.std.specs.List.{flat_map}
use Rattle.atomic_table.specs.Seated.{TableId}
use Rattle.pfs_admin.specs.declared.changes.Change.{Change}
use Rattle.pfs_board.specs.History.{Each}
use Rattle.pfs_board.specs.Knowledge.{IsWhole}
use Rattle.pfs_board.specs.declared.view.Label.{Label}
use Rattle.pfs_board_admin.specs.LabelWords.{AllKeepWords, version_after}
use Rattle.pfs_board_root.specs.Roots.{RootView}
use Rattle.pfs_board_store.specs.RootActors.{AreGathered, Worked, calls_of_all}
use Rattle.pfs_board_tables.specs.EndTables.{AreListed, HasMet, HasReadTables}
use Rattle.pfs_classes.specs.declared.setting.Setting.{Setting}
use Rattle.pfs_containers.specs.ContainerState.{lost_in}
use Rattle.pfs_containers.specs.declared.containers.Lost.{Lost}
use Rattle.pfs_finals.specs.Counters.{counters, lost_row}
use Rattle.pfs_journal.specs.declared.report.PhaseParts.{PhaseParts}
use Rattle.pfs_journal.specs.declared.values.TableReport.{TableReport}
use Rattle.pfs_law_board.specs.EndReadings.{IsRead}
use Rattle.pfs_law_board.specs.PhaseEnds.{BeganBehind, IsEnded, PhaseEnd, all_of}
use Rattle.pfs_law_board.specs.PhaseEnds.{Phase as Ended}
use Rattle.pfs_law_phases.specs.Ends.{IsEndRead}
use Rattle.pfs_law_plain.specs.Spells.{Spell}
use Rattle.pfs_law_report.proofs.NextPhase.{counted_is}
use Rattle.pfs_law_report.specs.declared.counts.LostEvents.{LostEvents}
use Rattle.pfs_law_script.specs.Course.{PhasedBlock}
use Rattle.pfs_levels.specs.CallOrder.{AllCalls}
use Rattle.pfs_tickets.specs.Knowledge.{IsWhole as HasAllDraws}
use Rattle.pfs_board_phase.specs.BetweenPhases.{AreLost, IsSettled, counters_of}
use Rattle.pfs_board_phase.specs.SeatNumbers.{IsOwn}
use Rattle.pfs_board_phase.proofs.SeatNumbers.{all_own, all_quiet}

-- with the root's number, which is 0
same_number : (number : ℕ) (ws : List Worked) → Each (λ (w : Worked). w.start.board.number ≡ number) ws → number ≡ 0 → Each (λ (w : Worked). w.start.board.number ≡ 0) ws
same_number number [] each zero = tt
same_number number (w ∷ ws) each zero = (each.0 ∙ zero, same_number number ws each.1 zero)

-- the phase, as a root that has settled has it
abbrev pub board_of : List Worked → List Worked → Ended
board_of actors own = record { actors = actors; own = own }

module _ (setting : Setting) (change : Label → Change) (switches : TableId) where
  -- the tables as they were read on a board that began so
  pub record HasReadAt (start : List ℕ) (before : List Worked) (tables : List TableReport) (lost : Lost) (new : RootView) : Type 0 where
    pub own : List Worked
    pub reads : Worked
    pub met : Worked
    pub read : IsRead setting change switches start before own reads
    pub listed : AreListed setting tables reads.calls
    pub meets : Each HasMet (met ∷ own)
    pub lost_are : lost ≡ lost_in read.last.admin.kept.now
    pub gathered : AreGathered (met ∷ (reads ∷ (own ++ before))) new.seat new.words new.draws
    pub alone : Each IsOwn (met ∷ (reads ∷ own))
    pub keep : AllCalls (AllKeepWords (version_after setting change)) (calls_of_all (met ∷ (reads ∷ (own ++ before))))
    pub made : new.seat.made ≡ read.first.seat.made
    pub seen : (at : ℕ) → slice_index read.first.pen.view.seen at ≤ slice_index new.words.seen at

  pub read_at : (start : List ℕ) (before : List Worked) (tables : List TableReport) (lost : Lost) (old new : RootView) → HasReadTables setting change switches before tables lost old new → old.seat.start ≡ start → old.seat.number ≡ 0
      → HasReadAt start before tables lost new
  read_at start before tables lost old new t e zero = subst (λ z. HasReadAt z before tables lost new) e (record {
    own = t.own;
    reads = t.reads;
    met = t.met;
    read = t.read;
    listed = t.listed;
    meets = t.meets;
    lost_are = t.lost_are;
    gathered = t.gathered;
    alone = all_own (t.met ∷ (t.reads ∷ t.own)) (same_number old.seat.number (t.met ∷ (t.reads ∷ t.own)) t.numbers zero) t.quiet;
    keep = t.keep;
    made = t.made;
    seen = t.seen;
  })

  -- the phase ended, and the root was told so
  pub is_ended : (ended : List Ended) (r : RootView) (s : IsSettled setting change switches ended r) (actors : List Worked) (tables : List TableReport) (lost : Lost) (new : RootView)
      → HasReadAt r.seat.start (actors ++ (s.own ++ all_of ended)) tables lost new → Each (BeganBehind (length s.first.seat.made) s.first.pen.view.seen) actors
      → IsEnded setting change switches r.seat.start (all_of ended) (board_of actors s.own)
  is_ended ended r s actors tables lost new t began = record { first = s.first; last = t.read.first; own = all_quiet s.own s.alone; began = began }

  -- what it read is the report's end
  pub end_read : (start : List ℕ) (before : List Worked) (tables : List TableReport) (lost : Lost) (new : RootView) → HasReadAt start before tables lost new
      → (done : List PhasedBlock) (spells : List Spell) (events : LostEvents) → AreLost done spells events
      → (report : PhaseParts) → report.tables ≡ tables → report.lost ≡ flat_map (lost_row setting.classes (counters_of lost events)) counters → IsEndRead setting change switches start before spells report
  end_read start before tables lost new t done spells events are report same counted = record {
    own = t.own;
    reads = t.reads;
    read = t.read;
    each_read = t.listed.each_read;
    calls = t.listed.calls_are;
    order = t.listed.order;
    sets = t.listed.sets;
    tables = same ∙ t.listed.tables_are;
    lost = counted ∙ ap (λ z. flat_map (lost_row setting.classes z) counters) (counted_is t.read.last.admin.kept.now spells (counters_of lost events) (record {
      threads = ap (λ (z : Lost). z.threads) t.lost_are;
      accounts = ap (λ (z : Lost). z.accounts) t.lost_are;
      users = ap (λ (z : Lost). z.users) t.lost_are;
      hosts = ap (λ (z : Lost). z.hosts) t.lost_are;
      digests = are.digests;
      statements = are.statements;
      waits = are.waits;
    }));
  }

  -- an end of these actors, which says this of the root behind it
  pub record IsTold (start : List ℕ) (before : List Worked) (new : RootView) : Type 0 where
    pub first : PhaseEnd setting change switches start before
    pub made : new.seat.made ≡ first.seat.made
    pub seen : (at : ℕ) → slice_index first.pen.view.seen at ≤ slice_index new.words.seen at

  -- the root has settled again
  unfoldable pub settled_next : (start : List ℕ) (ended : List Ended) (board : Ended) (tables : List TableReport) (lost : Lost) (new : RootView) → HasReadAt start (all_of (board ∷ ended)) tables lost new → new.seat.start ≡ start → new.seat.number ≡ 0
      → IsWhole new.seat → HasAllDraws new.draws → IsSettled setting change switches (board ∷ ended) new
  settled_next start ended board tables lost new t same zero whole draws =
      let before : List Worked = all_of (board ∷ ended) in
      let told : IsTold new.seat.start before new = subst (λ (z : List ℕ). IsTold z before new) (sym same) (record { first = t.read.first; made = t.made; seen = t.seen }) in
      record {
        own = t.met ∷ (t.reads ∷ t.own);
        gathered = t.gathered;
        number = zero;
        alone = t.alone;
        keeps = t.keep;
        first = told.first;
        made = told.made;
        seen = λ at low. told.seen at;
        whole = whole;
        all_draws = draws;
      }
