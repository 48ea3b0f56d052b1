-- A root reads a report's tables between two settlements.
use Rattle.std.proofs.Common.{ℕ, ◌≡◌, ◌*◌, ◌≤◌, true, List, [], ◌∷◌, ◌++◌, length, slice_index, refl, ap, sym, ◌∙◌, subst, arith, append-nil}
use Rattle.atomic_table.specs.Seated.{TableId}
use Rattle.pfs_admin.specs.AdministrationStates.{State}
use Rattle.pfs_admin.specs.OpeningState.{opening_flags}
use Rattle.pfs_admin.specs.declared.changes.Change.{Change}
use Rattle.pfs_board.specs.Knowledge.{IsWhole}
use Rattle.pfs_board.specs.declared.view.Label.{Label}
use Rattle.pfs_board.specs.declared.view.View.{View}
use Rattle.pfs_board_admin.specs.LabelWords.{AllKeepWords, version_after}
use Rattle.pfs_board_root.specs.Readings.{AllAsSeen, HaveRead, LastLaw}
use Rattle.pfs_board_root.specs.Roots.{RootView}
use Rattle.pfs_board_root.specs.Settlements.{HasSettled, own_meet}
use Rattle.pfs_board_store.specs.RootActors.{AreGathered, Worked, calls_of_all}
use Rattle.pfs_board_store.specs.RootLaws.{has_met}
use Rattle.pfs_classes.specs.declared.setting.Setting.{Setting}
use Rattle.pfs_containers.specs.ContainerState.{lost_in}
use Rattle.pfs_containers.specs.declared.containers.Lost.{Lost}
use Rattle.pfs_finals.specs.Finals.{AreFinal, all_readings}
use Rattle.pfs_journal.specs.declared.values.TableReport.{TableReport}
use Rattle.pfs_law_board.specs.EndReadings.{AreOfEnd, IsRead}
use Rattle.pfs_law_board.specs.PhaseEnds.{IsQuiet, PhaseEnd}
use Rattle.pfs_levels.specs.CallOrder.{AllCalls}
use Rattle.pfs_levels.specs.Calls.{Call, Adds, Rings, Reads, Loads, Draws, Takes, Puts, Frees, Sets, Enters, Leaves, Meets, Opening}
use Rattle.pfs_matching.specs.ObjectRules.{opening_objects}
use Rattle.pfs_reader.specs.Readings.{calls_of as calls_of_readings}
use Rattle.pfs_switches.specs.declared.view.View.{View as WordView}
use Rattle.pfs_tickets.specs.Knowledge.{IsWhole as HasAllDraws}
use Rattle.pfs_tickets.specs.declared.view.View.{View as TicketView}
use Rattle.pfs_board_tables.specs.EndTables.{HasReadAlone, HasReadTables}

-- calls outside all actions that changed nothing keep to the words of labels
record IsIdle (versions : List Label → ℕ → ℕ) (calls : List Call) : Type 0 where
  pub met : has_met calls ≡ true
  pub quiet : IsQuiet calls
  pub keep : AllKeepWords versions calls

readings_idle : (versions : List Label → ℕ → ℕ) (v : View) (calls : List Call) → AllAsSeen v calls → IsIdle versions calls
readings_idle versions v [] a = record { met = refl; quiet = tt; keep = tt }
readings_idle versions v (Reads row seen ∷ calls) a = let i = readings_idle versions v calls a.1 in record { met = i.met; quiet = i.quiet; keep = (tt, i.keep) }
readings_idle versions v (Loads at to flags ∷ calls) a = let i = readings_idle versions v calls a.1 in record { met = i.met; quiet = i.quiet; keep = ((a.0, i.met), i.keep) }
readings_idle versions v (Adds row amount answer ∷ calls) a = absurd a.0
readings_idle versions v (Rings row content answer ∷ calls) a = absurd a.0
readings_idle versions v (Draws kind ticket ∷ calls) a = absurd a.0
readings_idle versions v (Meets seen ∷ calls) a = absurd a.0
readings_idle versions v (Takes row k found ∷ calls) a = absurd a.0
readings_idle versions v (Puts row content k ∷ calls) a = absurd a.0
readings_idle versions v (Frees row k ∷ calls) a = absurd a.0
readings_idle versions v (Sets at to k ∷ calls) a = absurd a.0
readings_idle versions v (Enters label labels ∷ calls) a = absurd a.0
readings_idle versions v (Leaves ∷ calls) a = absurd a.0

meet_idle : (versions : List Label → ℕ → ℕ) (seen : List ℕ) → IsIdle versions (Meets seen ∷ [])
meet_idle versions seen = record { met = refl; quiet = tt; keep = ((λ some. absurd (omega (arith, some)), λ out. refl), tt) }

-- both ends are of one board
record IsReadAs (setting : Setting) (change : Label → Change) (run : TableId) (start : List ℕ) (before own : List Worked) (reads : Worked) (first : PhaseEnd setting change run start before) (admin : State) : Type 0 where
  pub read : IsRead setting change run start before own reads
  pub first_is : read.first ≡ first
  pub admin_is : read.last.admin ≡ admin

read_as : (setting : Setting) (change : Label → Change) (run : TableId) (start on : List ℕ) (before own : List Worked) (reads : Worked) → on ≡ start → (first : PhaseEnd setting change run start before)
    (last : PhaseEnd setting change run on (reads ∷ (own ++ before))) → AllCalls IsQuiet (calls_of_all own) → AreOfEnd on last.history.t.log first.pen.view.seen reads.calls
    → IsReadAs setting change run start before own reads first last.admin
read_as setting change run start on before own reads e first last quiet seen =
    let P : List ℕ → Type 0 = λ z. (f : PhaseEnd setting change run z before) → AreOfEnd on last.history.t.log f.pen.view.seen reads.calls → IsReadAs setting change run z before own reads f last.admin in
    let here : P on = λ f s. record { read = record { first = f; last = last; quiet = quiet; seen = s }; first_is = refl; admin_is = refl } in
    subst P e here first seen

module _ (setting : Setting) (change : Label → Change) (run : TableId) (actors : List Worked) (tables : List TableReport) (before lost : Lost) (old r s new : RootView)
    (a : HasSettled setting change (opening_flags setting opening_objects) run actors before old r) (h : HasReadAlone setting (opening_flags setting opening_objects) tables r s)
    (b : HasSettled setting change (opening_flags setting opening_objects) run (h.reads ∷ (own_meet (opening_flags setting opening_objects) old a.ended.pen.view ∷ actors)) lost s new) where
  abbrev flags : List ℕ
  flags = opening_flags setting opening_objects

  -- the root's own meet behind the phase
  abbrev own : Worked
  own = own_meet flags old a.ended.pen.view

  start_is : s.seat.start ≡ old.seat.start
  start_is = h.read.kept.start ∙ ap (λ (v : View). v.start) a.seat

  -- what it read is of what stands at the second end
  of_end : LastLaw → 17 * 14242 ≤ length old.seat.start → AreOfEnd s.seat.start b.ended.history.t.log a.ended.pen.view.seen h.reads.calls
  of_end law wide =
      let read : HaveRead flags r (record s { seat = b.ended.seat }) h.reads.start h.reads.calls =
      subst (λ (v : View). HaveRead flags r (record s { seat = v }) h.reads.start h.reads.calls) (sym b.seat_was) h.read in
      let whole : IsWhole b.ended.seat = subst IsWhole (sym b.seat_was) h.whole in
      let known : r.words.seen ≡ a.ended.pen.view.seen = ap (λ (w : WordView). w.seen) a.words in
      subst (λ z. AreOfEnd s.seat.start b.ended.history.t.log z h.reads.calls) known
      (law flags r (record s { seat = b.ended.seat }) h.reads.start h.reads.calls read s.seat.start b.ended.words b.ended.history whole (omega (arith, wide, ap length start_is)))

  pub reads_tables : LastLaw → 17 * 14242 ≤ length old.seat.start → HasAllDraws old.draws → AllCalls (AllKeepWords (version_after setting change)) (calls_of_all actors) → HasReadTables setting change run actors tables lost old new
  reads_tables law wide draws keep =
      let versions : List Label → ℕ → ℕ = version_after setting change in
      let idle : IsIdle versions h.reads.calls = readings_idle versions s.seat h.reads.calls h.read.alone in
      let first_idle : IsIdle versions own.calls = meet_idle versions a.ended.pen.view.seen in
      let last_idle = meet_idle versions b.ended.pen.view.seen in
      let x = read_as setting change run old.seat.start s.seat.start actors (own ∷ []) h.reads start_is a.ended b.ended (first_idle.quiet, tt) (of_end law wide) in
      let left : new.draws ≡ old.draws = b.draws ∙ (h.read.kept.draws ∙ a.draws) in
      record {
        own = own ∷ [];
        reads = h.reads;
        met = own_meet flags s b.ended.pen.view;
        read = x.read;
        listed = h.listed;
        meets = (record { seen = b.ended.pen.view.seen; calls_are = refl }, (record { seen = a.ended.pen.view.seen; calls_are = refl }, tt));
        lost_are = b.lost_are ∙ ap (λ (z : State). lost_in z.kept.now) (sym x.admin_is);
        gathered = b.gathered;
        numbers = (
          h.read.kept.number ∙ ap (λ (v : View). v.number) a.seat,
          (ap (λ (o : Opening). o.board.number) h.read.begun ∙ ap (λ (v : View). v.number) a.seat, (refl, tt)),
        );
        quiet = (last_idle.quiet, (idle.quiet, (first_idle.quiet, tt)));
        keep = (last_idle.keep, (idle.keep, (first_idle.keep, keep)));
        made = ap (λ (v : View). v.made) b.seat ∙ (h.read.kept.made ∙ (ap (λ (v : View). v.made) a.seat
            ∙ (sym (ap (λ (v : View). v.made) a.seat_was) ∙ sym (ap (λ (f : PhaseEnd setting change run old.seat.start actors). f.seat.made) x.first_is))));
        seen = λ at. omega (
          arith,
          ap (λ (f : PhaseEnd setting change run old.seat.start actors). slice_index f.pen.view.seen at) x.first_is,
          ap (λ (w : WordView). slice_index w.seen at) a.words,
          h.read.kept.seen at,
          ap (λ (w : WordView). slice_index w.seen at) b.words_were,
          b.ended.told.meets.0.least_is at,
          ap (λ (w : WordView). slice_index w.seen at) b.words,
        );
        stayed = record {
          board = b.board ∙ (h.read.kept.board ∙ a.board);
          switches = b.switches ∙ (h.read.kept.switches ∙ a.switches);
          tickets = b.tickets ∙ (h.read.kept.tickets ∙ a.tickets);
          start = ap (λ (v : View). v.start) b.seat ∙ start_is;
          number = ap (λ (v : View). v.number) b.seat ∙ (h.read.kept.number ∙ ap (λ (v : View). v.number) a.seat);
          seats = ap (λ (v : View). v.seats) b.seat ∙ (h.read.kept.seats ∙ ap (λ (v : View). v.seats) a.seat);
          allowance = ap (λ (v : View). v.allowance) b.seat ∙ (h.read.kept.allowance ∙ ap (λ (v : View). v.allowance) a.seat);
          draws = left;
          whole = (subst IsWhole (sym b.seat) h.whole, subst (λ (t : TicketView). HasAllDraws t) (sym left) draws);
        };
      }

-- the same by what the calls say, of a setting by another name
module _ (setting now : Setting) (change : Label → Change) (run : TableId) (tables : List TableReport) (before lost : Lost) (old r s new : RootView)
    (settles : (actors : List Worked) → AreGathered actors old.seat old.words old.draws → AllCalls (AllKeepWords (version_after setting change)) (calls_of_all actors)
    → HasSettled setting change (opening_flags setting opening_objects) run actors before old r)
    (settles_on : (actors : List Worked) → AreGathered actors s.seat s.words s.draws → AllCalls (AllKeepWords (version_after setting change)) (calls_of_all actors)
    → HasSettled setting change (opening_flags setting opening_objects) run actors lost s new) where
  pub all_read : LastLaw → setting ≡ now → 17 * 14242 ≤ length old.seat.start → HasAllDraws old.draws → HasReadAlone now (opening_flags setting opening_objects) tables r s
      → (actors : List Worked) → AreGathered actors old.seat old.words old.draws → AllCalls (AllKeepWords (version_after now change)) (calls_of_all actors) → HasReadTables now change run actors tables lost old new
  all_read law e wide draws has actors g keep =
      let P : Setting → Type 0 = λ z. HasReadAlone z (opening_flags setting opening_objects) tables r s → AllCalls (AllKeepWords (version_after z change)) (calls_of_all actors) → HasReadTables z change run actors tables lost old new in
      let here : P setting = λ h kept.
      let versions : List Label → ℕ → ℕ = version_after setting change in
      let a = settles actors g kept in
      let own : Worked = own_meet (opening_flags setting opening_objects) old a.ended.pen.view in
      let b = settles_on (h.reads ∷ (own ∷ actors)) (h.gathered (own ∷ actors) a.gathered) ((readings_idle versions s.seat h.reads.calls h.read.alone).keep, ((meet_idle versions a.ended.pen.view.seen).keep, kept)) in
      reads_tables setting change run actors tables before lost old r s new a h b law wide draws kept in
      subst P e here has keep

-- what a root reads alone, by its reading's calls
pub reads_alone : (setting : Setting) (flags : List ℕ) (tables : List TableReport) (was old new : RootView) (start : Opening) (first last : Opening → List Call → Type 0) → was ≡ old → first start [] → AreFinal setting tables first last
    → ((o : Opening) → (calls : List Call) → last o calls → HaveRead flags was new o calls)
    → ((o : Opening) → (calls : List Call) → last o calls → (actors : List Worked) → AreGathered actors was.seat was.words was.draws → AreGathered (record { start = o; calls = calls } ∷ actors) new.seat new.words new.draws)
    → IsWhole new.seat → HasReadAlone setting flags tables old new
reads_alone setting flags tables was old new start first last e began f read gathered whole =
    let calls : List Call = calls_of_readings (all_readings f.reads) in
    let reached : last start calls = subst (λ z. last start z) (append-nil calls) (f.calls start [] began) in
    subst (λ (z : RootView). HasReadAlone setting flags tables z new) e (record {
      reads = record { start = start; calls = calls };
      read = read start calls reached;
      listed = record { each_read = f.reads; calls_are = refl; order = f.order_is; sets = f.each; tables_are = f.tables_are };
      gathered = λ actors g. gathered start calls reached actors g;
      whole = whole;
    })
