-- Two sessions at once, of which one ends a wait with ticket 0 behind the 1,000th of the other: what they do. Both
-- connect first; then the one starts and ends a wait, and the other so many, one after another.
use Rattle.std.proofs.Common.{ℕ, ◌≡◌, ◌+◌, ◌==◌, Bool, cond, nat_lt, zero, suc, true, false, List, [], ◌∷◌, ◌++◌, map, Some, None, inl, replicate, refl, ap, sym, ◌∙◌, arith, append_assoc, lt-ltb, ne_eqb}
use Rattle.std.proofs.lemmas.Bool.{false≢true}
use Rattle.std.specs.Prelude.{if◌then◌else◌}
use Rattle.std.proofs.lemmas.Grind.{merely}
use Rattle.pfs_admin.specs.ConnectionAsks.{work_of_connect}
use Rattle.pfs_admin.specs.Fold.{state_from, state_of}
use Rattle.pfs_admin.specs.OpeningState.{opening_flags, cells_of, cells_of_kind, kinds_of, opened}
use Rattle.pfs_admin.specs.AdministrationStates.{KindCells, connected}
use Rattle.pfs_admin.specs.AdministrationStates.{State as Administration}
use Rattle.pfs_admin.specs.declared.changes.Change.{Change}
use Rattle.pfs_admin.specs.declared.changes.Change.TheVariants.{Connect}
use Rattle.pfs_board.specs.declared.view.Label.{Label}
use Rattle.pfs_classes.proofs.RegisterNames.{known_from}
use Rattle.pfs_classes.specs.Builtins.{builtin_of}
use Rattle.pfs_classes.specs.Registry.{registered}
use Rattle.pfs_classes.specs.declared.setting.Setting.{Setting}
use Rattle.pfs_containers.specs.ContainerState.{opening as nobody}
use Rattle.pfs_event.specs.declared.entry.Entry.TheVariants as says
use Rattle.pfs_event.specs.declared.kind.EventKind.TheVariants as kinds
use Rattle.pfs_event.specs.declared.open.Open.{Open}
use Rattle.pfs_event.specs.declared.verdict.Verdict.TheVariants.{Attributed}
use Rattle.pfs_levels.specs.Calls.{Call, Adds, Rings, Loads, Draws}
use Rattle.pfs_levels.specs.PlainStore.{word}
use Rattle.pfs_levels.specs.declared.answers.Added.TheVariants.{Counted}
use Rattle.pfs_levels.specs.declared.answers.RingPut.{RingPut}
use Rattle.pfs_levels.specs.declared.answers.RingPut.TheVariants as told
use Rattle.pfs_matching.specs.ActorRules.{opening_actors}
use Rattle.pfs_matching.specs.ObjectRules.{opening_objects}
use Rattle.pfs_model.specs.Causes.{long_row}
use Rattle.pfs_model.specs.Rings.{current_row}
use Rattle.pfs_model.specs.SetupFlags.{thread_word}
use Rattle.pfs_rings.specs.Offers.{offered, put_entry}
use Rattle.pfs_rings.specs.declared.puts.Put.{Put}
use Rattle.pfs_rings.specs.declared.puts.Put.TheVariants as puts
use Rattle.pfs_session.specs.Ends.{no_numbers, amount_of, ended_event}
use Rattle.pfs_session.specs.Starts.{started}
use Rattle.pfs_session.specs.SessionStates.{State, fresh, nothing_held, held_row}
use Rattle.pfs_session.specs.Turns.{StartsEvent, EndsEvent, Turn}
use Rattle.pfs_session.specs.declared.setup.Setup.{Setup}
use Rattle.pfs_setups.specs.SetupRows.{naming_of}
use Rattle.pfs_stat.specs.declared.Stat.{Stat}
use Rattle.pfs_law_session.specs.Deeds.{Starting, Ending, Closing, IsPart}
use Rattle.pfs_law_session.specs.JournalLaws.{AreParts, MayDoAll}
use Rattle.pfs_law_session.specs.Stints.{AreStints, resumed}
use Rattle.pfs_law_plain.specs.ActionFolds.{AreFolded, AllConnectFirst, DoingsFolded, DoingsConnectFirst}
use Rattle.pfs_law_plain.specs.Spells.{Doing, Spell, AreSpells, AreEntered, doings_calls, parts_in, stints_of}
use Rattle.pfs_law_shared.proofs.Examples.{limits, in_range, names, comes, same_limits, label, cells_by_kind, made_first, connect_turn, connect_part, done, close_turn, closes, wait}
use Rattle.pfs_law_shared.specs.Order.{AreSingle}
use Rattle.pfs_law_shared.specs.Shares.{spells_at, spells_before}

-- instrumentation is on, and waits go to their current places and to the long history
unfoldable pub setting : Setting
setting = record {
  names = names;
  classes = builtin_of names limits;
  tables = [];
  digests = [];
  limits = limits;
  consumers = 14848;
  in_range = in_range;
  same_limits = same_limits;
  come = merely comes;
  known = known_from names (builtin_of names limits) comes;
  few_tables = omega arith;
  few_digests = omega arith;
}

abbrev pub flags : List ℕ
flags = 14848 ∷ (replicate 32 0 ++ 3 ∷ 3 ∷ 3 ∷ (replicate 59 0 ++ 3 ∷ replicate 64 0))

pub flags_are : opening_flags setting opening_objects ≡ flags
unfolding setting opening_flags registered
flags_are = refl

abbrev pub change : Label → Change
change l = if l.session == 1 then Connect 0 1 else Connect 1 0

abbrev opening : Administration
opening = record {
  kept = nobody limits;
  words = map (word 0) flags;
  actors = opening_actors;
  objects = opening_objects;
  names = names;
  classes = (naming_of setting).classes;
  tables = [];
  cells = 0 ∷ 1 ∷ 2 ∷ 62 ∷ 63 ∷ [];
  kinds = cells_by_kind;
  actions = 0;
}

abbrev between : Administration
between = connected opening 1 0 1

cells_are : cells_of setting.classes ≡ 0 ∷ 1 ∷ 2 ∷ 62 ∷ 63 ∷ []
unfolding setting registered
cells_are = refl

kinds_are : kinds_of setting ≡ cells_by_kind
unfolding setting registered kinds_of cells_of_kind
kinds_are = refl

opened_is : opened setting ≡ opening
unfolding setting
opened_is =
    ap (λ (z : List ℕ). record { kept = nobody limits; words = map (word 0) z; actors = opening_actors; objects = opening_objects; names = names; classes = (naming_of setting).classes; tables = []; cells = cells_of setting.classes; kinds = kinds_of setting; actions = 0 }) flags_are
    ∙ (ap (λ (z : List ℕ). record { kept = nobody limits; words = map (word 0) flags; actors = opening_actors; objects = opening_objects; names = names; classes = (naming_of setting).classes; tables = []; cells = z; kinds = kinds_of setting; actions = 0 }) cells_are
    ∙ ap (λ (z : KindCells). record { kept = nobody limits; words = map (word 0) flags; actors = opening_actors; objects = opening_objects; names = names; classes = (naming_of setting).classes; tables = []; cells = 0 ∷ 1 ∷ 2 ∷ 62 ∷ 63 ∷ []; kinds = z; actions = 0 }) kinds_are)

first_fold : opening ≡ state_of setting change []
unfolding state_from
first_fold = sym opened_is

second_fold : between ≡ state_of setting change (label 1 1 ∷ [])
unfolding state_from
second_fold = ap (λ (z : Administration). connected z 1 0 1) (sym opened_is)

-- a wait of the session in a slot, and its words: as it starts, as it has ended, and with a ticket
abbrev seen : Setup
seen = record { consumers = word 0 14848; thread = word 1 3; class = word 0 3; table = None }

abbrev pub open_wait : ℕ → ℕ → Open
open_wait slot number = record {
  kind = kinds.Wait;
  verdict = Attributed;
  event = record {
    session = slot + 1;
    number = number;
    last = 0;
    class = 0;
    link = 0;
    nesting = 0;
    parent = 0;
    start = 0;
    duration = 0;
    lock = 0;
    errors = 0;
    warnings = 0;
    affected = 0;
    sent = 0;
    examined = 0;
    ticket = 0;
    timed = true;
    read_only = false;
    class_fits = omega arith;
    link_fits = omega arith;
    nesting_fits = omega arith;
  };
  digested = false;
  placed = true;
}

abbrev pub begun_words : ℕ → ℕ → List ℕ
begun_words slot number = offered (open_wait slot number).event None

abbrev pub ended_words : ℕ → ℕ → List ℕ
ended_words slot number = offered (ended_event (open_wait slot number) number 0 no_numbers) None

abbrev pub long_words : ℕ → ℕ → ℕ → List ℕ
long_words slot number ticket = offered (ended_event (open_wait slot number) number 0 no_numbers) (Some ticket)

abbrev pub amount : Stat
amount = amount_of (open_wait 0 1) 0 no_numbers

-- it starts, and ends
abbrev start_calls : ℕ → ℕ → ℕ → List Call
start_calls slot number version =
    Rings (current_row slot kinds.Wait 0) (begun_words slot number) (told.Done version) ∷ Loads 33 0 3 ∷ Loads (thread_word slot) 1 3 ∷ Loads 0 0 14848 ∷ []

abbrev start_turn : ℕ → ℕ → ℕ → State → Turn
start_turn slot number version s = record {
  step = StartsEvent wait;
  calls = start_calls slot number version;
  entries = says.Start (Some number) Attributed (Some 0) (Some 1) (Some 0) None ∷ says.Ring (current_row slot kinds.Wait 0) version ∷ [];
  after = started s (open_wait slot number);
}

abbrev added_calls : ℕ → ℕ → List Call
added_calls slot counted = Adds (held_row slot 0) amount (Counted (held_row slot 0) counted) ∷ Loads (thread_word slot) 1 3 ∷ Loads 0 0 14848 ∷ []

abbrev ring_calls : ℕ → ℕ → ℕ → ℕ → RingPut → List Call
ring_calls slot number version ticket answer =
    Rings (long_row 0 ticket) (long_words slot number ticket) answer ∷ Draws 0 ticket ∷ Rings (current_row slot kinds.Wait 0) (ended_words slot number) (told.Done version) ∷ []

abbrev waited : State → State
waited s = record s { opened = record s.opened { events = [] }; held = nothing_held }

abbrev end_turn : ℕ → ℕ → ℕ → ℕ → ℕ → RingPut → Put → State → Turn
end_turn slot number version counted ticket answer put s = record {
  step = EndsEvent no_numbers;
  calls = ring_calls slot number version ticket answer ++ added_calls slot counted;
  entries = says.End (Some number) (Some number) (Some 0) (Some 1) ∷ says.Add (held_row slot 0) counted ∷ says.Ring (current_row slot kinds.Wait 0) version ∷ put_entry put ∷ [];
  after = waited s;
}

-- the session whose wait comes late
abbrev first_seated : State
first_seated = (connect_turn opening 0 1 (fresh 1 2 5)).after

abbrev pub first : Spell
first = record {
  phase = 0;
  session = 1;
  doings = record { part = connect_part opening 0 1 (fresh 1 2 5); label = label 1 1; labels = []; met = None } ∷ done Closing (close_turn first_seated) ∷ [];
}

abbrev first_back : State
first_back = resumed (close_turn first_seated).after

abbrev first_waits : State
first_waits = started first_back (open_wait 0 1)

abbrev late_turn : Turn
late_turn = end_turn 0 1 2 1 0 (told.Late 1000 1) (puts.Late 10242 0 1000) first_waits

abbrev pub third : Spell
third = record {
  phase = 1;
  session = 1;
  doings = done (Starting wait) (start_turn 0 1 1 first_back) ∷ done (Ending no_numbers) late_turn ∷ done Closing (close_turn late_turn.after) ∷ [];
}

-- the one that waits so often
abbrev second_seated : State
second_seated = (connect_turn between 1 0 (fresh 2 2 5)).after

abbrev pub second : Spell
second = record {
  phase = 0;
  session = 2;
  doings = record { part = connect_part between 1 0 (fresh 2 2 5); label = label 2 1; labels = label 1 1 ∷ []; met = None } ∷ done Closing (close_turn second_seated) ∷ [];
}

abbrev second_back : State
second_back = resumed (close_turn second_seated).after

-- behind so many waits
abbrev behind : ℕ → State
behind k = record second_back { drawn = k }

-- two versions of the current place for each
abbrev pub double : ℕ → ℕ
double zero = zero
double (suc k) = suc (suc (double k))

abbrev starts : ℕ → Turn
starts k = start_turn 1 (k + 1) (suc (double k)) (behind k)

abbrev ends : ℕ → Turn
ends k = end_turn 1 (k + 1) (suc (suc (double k))) (k + 1) (k + 1) (told.Done 1) (puts.Done (long_row 0 (k + 1)) 1 (Some (k + 1))) (started (behind k) (open_wait 1 (k + 1)))

-- from there on so many more
unfoldable pub waits : ℕ → ℕ → List Doing
waits k zero = done Closing (close_turn (behind k)) ∷ []
waits k (suc n) = done (Starting wait) (starts k) ∷ done (Ending no_numbers) (ends k) ∷ waits (k + 1) n

abbrev pub fourth : ℕ → Spell
fourth n = record { phase = 1; session = 2; doings = waits 0 n }

abbrev pub spells : ℕ → List Spell
spells n = first ∷ second ∷ third ∷ fourth n ∷ []

-- the calls of so many waits, newest first
unfoldable pub called : ℕ → List Call
called zero = []
called (suc k) =
    Rings (long_row 0 (k + 1)) (long_words 1 (k + 1) (k + 1)) (told.Done 1) ∷ Draws 0 (k + 1) ∷ Rings 8506 (ended_words 1 (k + 1)) (told.Done (suc (suc (double k))))
    ∷ Adds 193 amount (Counted 193 (k + 1)) ∷ Loads 2 1 3 ∷ Loads 0 0 14848 ∷ Rings 8506 (begun_words 1 (k + 1)) (told.Done (suc (double k))) ∷ Loads 33 0 3 ∷ Loads 2 1 3 ∷ Loads 0 0 14848 ∷ called k

one_behind : (k : ℕ) → suc k ≡ k + 1
one_behind k = omega arith

all_behind : (k n : ℕ) → n + (k + 1) ≡ suc n + k
all_behind k n = omega arith

none_before : (k : ℕ) → k ≡ 0 + k
none_before k = omega arith

none_behind : (n : ℕ) → n + 0 ≡ n
none_behind n = omega arith

calls_from : (k n : ℕ) → doings_calls (waits k n) ++ called k ≡ called (n + k)
unfolding waits called
calls_from k zero = ap called (none_before k)
calls_from k (suc n) =
    append_assoc (doings_calls (waits (k + 1) n) ++ (ends k).calls) (starts k).calls (called k)
    ∙ (append_assoc (doings_calls (waits (k + 1) n)) (ends k).calls ((starts k).calls ++ called k)
    ∙ (ap (λ z. doings_calls (waits (k + 1) n) ++ called z) (one_behind k) ∙ (calls_from (k + 1) n ∙ ap called (all_behind k n))))

nothing_more : (xs : List Call) → xs ++ [] ≡ xs
nothing_more [] = refl
nothing_more (x ∷ xs) = ap (λ z. x ∷ z) (nothing_more xs)

none_called : [] ≡ called 0
unfolding called
none_called = refl

pub calls_are : (n : ℕ) → doings_calls (waits 0 n) ≡ called n
calls_are n = sym (nothing_more (doings_calls (waits 0 n))) ∙ (ap (λ z. doings_calls (waits 0 n) ++ z) none_called ∙ (calls_from 0 n ∙ ap called (none_behind n)))

-- each part is one
first_connects : IsPart (fresh 1 2 5) (connect_part opening 0 1 (fresh 1 2 5))
first_connects = record {
  are_turns = ((record { moves = []; made = made_first (work_of_connect opening 1 0 1).signs; are_moves = refl; signs_are = refl; calls_are = refl; entries_are = refl }, refl), tt);
  steps_are = refl;
}

second_connects : IsPart (fresh 2 2 5) (connect_part between 1 0 (fresh 2 2 5))
second_connects = record {
  are_turns = ((record { moves = []; made = made_first (work_of_connect between 2 1 0).signs; are_moves = refl; signs_are = refl; calls_are = refl; entries_are = refl }, refl), tt);
  steps_are = refl;
}

late_starts : IsPart first_back (record { deed = Starting wait; turns = start_turn 0 1 1 first_back ∷ [] })
late_starts = record {
  are_turns = (
    record {
      begun_calls = Loads 33 0 3 ∷ Loads 1 1 3 ∷ Loads 0 0 14848 ∷ [];
      begun_entries = says.Start (Some 1) Attributed (Some 0) (Some 1) (Some 0) None ∷ [];
      begins = record {
        seen = Some seen;
        what = open_wait 0 1;
        loaded = record { there = refl; table_is = refl };
        calls_are = refl;
        opened = record { kind = refl; verdict_is = refl; session_is = refl; number = refl; class = refl; digested_is = refl; placed_is = refl; link = refl; lies_in = refl; start = refl; timed_is = refl; read_only = refl; unfilled = record { last = refl; duration = refl; numbers = refl; ticket = refl } };
        entries_are = refl;
        after_is = refl;
      };
      current = Some (puts.Done 8450 1 None);
      put_calls = Rings 8450 (begun_words 0 1) (told.Done 1) ∷ [];
      put_is = record { answer = told.Done 1; says = refl; calls_are = refl };
      calls_are = refl;
      entries_are = refl;
    },
    tt,
  );
  steps_are = refl;
}

starts_are : (k : ℕ) → IsPart (behind k) (record { deed = Starting wait; turns = starts k ∷ [] })
starts_are k = record {
  are_turns = (
    record {
      begun_calls = Loads 33 0 3 ∷ Loads 2 1 3 ∷ Loads 0 0 14848 ∷ [];
      begun_entries = says.Start (Some (k + 1)) Attributed (Some 0) (Some 1) (Some 0) None ∷ [];
      begins = record {
        seen = Some seen;
        what = open_wait 1 (k + 1);
        loaded = record { there = refl; table_is = refl };
        calls_are = refl;
        opened = record { kind = refl; verdict_is = refl; session_is = refl; number = refl; class = refl; digested_is = refl; placed_is = refl; link = refl; lies_in = refl; start = refl; timed_is = refl; read_only = refl; unfilled = record { last = refl; duration = refl; numbers = refl; ticket = refl } };
        entries_are = refl;
        after_is = refl;
      };
      current = Some (puts.Done 8506 (suc (double k)) None);
      put_calls = Rings 8506 (begun_words 1 (k + 1)) (told.Done (suc (double k))) ∷ [];
      put_is = record { answer = told.Done (suc (double k)); says = refl; calls_are = refl };
      calls_are = refl;
      entries_are = refl;
    },
    tt,
  );
  steps_are = refl;
}

-- an end, whatever became of its put to the long history
ends_late : IsPart first_waits (record { deed = Ending no_numbers; turns = late_turn ∷ [] })
ends_late = record {
  are_turns = (
    record {
      what = open_wait 0 1;
      others = [];
      innermost = refl;
      ends = record {
        among = waited first_waits;
        added_calls = added_calls 0 1;
        added_entries = says.End (Some 1) (Some 1) (Some 0) (Some 1) ∷ says.Add 129 1 ∷ [];
        ring_calls = ring_calls 0 1 2 0 (told.Late 1000 1);
        ring_entries = says.Ring 8450 2 ∷ says.Late 10242 0 1000 ∷ [];
        adds = record {
          between = waited first_waits;
          counted_calls = added_calls 0 1;
          counted_entries = says.End (Some 1) (Some 1) (Some 0) (Some 1) ∷ says.Add 129 1 ∷ [];
          digested_calls = [];
          digested_entries = [];
          counts = record { consumers = word 0 14848; thread = word 1 3; answer = Counted 129 1; row_is = refl; calls_are = refl; entries_are = refl; after_is = refl };
          digests = record { calls_are = refl; entries_are = refl; after_is = refl };
          calls_are = refl;
          entries_are = refl;
        };
        puts = record {
          current = Some (puts.Done 8450 2 None);
          history = None;
          long = Some (puts.Late 10242 0 1000);
          current_calls = Rings 8450 (ended_words 0 1) (told.Done 2) ∷ [];
          history_calls = [];
          long_calls = Rings 10242 (long_words 0 1 0) (told.Late 1000 1) ∷ Draws 0 0 ∷ [];
          current_is = record { answer = told.Done 2; says = refl; calls_are = refl };
          history_is = (refl, refl);
          long_is = record { ticket = 0; at = record { answer = told.Late 1000 1; says = (refl, omega arith); calls_are = refl } };
          calls_are = refl;
          entries_are = refl;
          after_is = refl;
        };
        calls_are = refl;
        entries_are = refl;
      };
    },
    tt,
  );
  steps_are = refl;
}

ends_are : (k : ℕ) → IsPart (started (behind k) (open_wait 1 (k + 1))) (record { deed = Ending no_numbers; turns = ends k ∷ [] })
ends_are k = record {
  are_turns = (
    record {
      what = open_wait 1 (k + 1);
      others = [];
      innermost = refl;
      ends = record {
        among = waited (started (behind k) (open_wait 1 (k + 1)));
        added_calls = added_calls 1 (k + 1);
        added_entries = says.End (Some (k + 1)) (Some (k + 1)) (Some 0) (Some 1) ∷ says.Add 193 (k + 1) ∷ [];
        ring_calls = ring_calls 1 (k + 1) (suc (suc (double k))) (k + 1) (told.Done 1);
        ring_entries = says.Ring 8506 (suc (suc (double k))) ∷ says.Long (long_row 0 (k + 1)) 1 (k + 1) ∷ [];
        adds = record {
          between = waited (started (behind k) (open_wait 1 (k + 1)));
          counted_calls = added_calls 1 (k + 1);
          counted_entries = says.End (Some (k + 1)) (Some (k + 1)) (Some 0) (Some 1) ∷ says.Add 193 (k + 1) ∷ [];
          digested_calls = [];
          digested_entries = [];
          counts = record { consumers = word 0 14848; thread = word 1 3; answer = Counted 193 (k + 1); row_is = refl; calls_are = refl; entries_are = refl; after_is = refl };
          digests = record { calls_are = refl; entries_are = refl; after_is = refl };
          calls_are = refl;
          entries_are = refl;
        };
        puts = record {
          current = Some (puts.Done 8506 (suc (suc (double k))) None);
          history = None;
          long = Some (puts.Done (long_row 0 (k + 1)) 1 (Some (k + 1)));
          current_calls = Rings 8506 (ended_words 1 (k + 1)) (told.Done (suc (suc (double k)))) ∷ [];
          history_calls = [];
          long_calls = Rings (long_row 0 (k + 1)) (long_words 1 (k + 1) (k + 1)) (told.Done 1) ∷ Draws 0 (k + 1) ∷ [];
          current_is = record { answer = told.Done (suc (suc (double k))); says = refl; calls_are = refl };
          history_is = (refl, refl);
          long_is = record { ticket = k + 1; at = record { answer = told.Done 1; says = refl; calls_are = refl } };
          calls_are = refl;
          entries_are = refl;
          after_is = refl;
        };
        calls_are = refl;
        entries_are = refl;
      };
    },
    tt,
  );
  steps_are = refl;
}

-- so are all of them
parts_are : (k n : ℕ) → AreParts (behind k) (parts_in (waits k n))
unfolding waits
parts_are k zero = (closes (behind k) refl, tt)
parts_are k (suc n) = (starts_are k, (ends_are k, parts_are (k + 1) n))

may_do : (k n : ℕ) → MayDoAll false (behind k) (parts_in (waits k n))
unfolding waits
may_do k zero = (tt, tt)
may_do k (suc n) = ((refl, record { cell = λ class e. inl (cc) }), (refl, may_do (k + 1) n))

are_entered : (k n : ℕ) → AreEntered (behind k) (waits k n)
unfolding waits
are_entered k zero = (tt, tt)
are_entered k (suc n) = (tt, (tt, are_entered (k + 1) n))

are_stints : (n : ℕ) → AreStints 2 (λ session. 5) (stints_of (spells n))
are_stints n = (
  omega arith,
  record { are_parts = (first_connects, (closes first_seated refl, tt)); may = ((refl, refl, refl, omega arith), (tt, tt)) },
  (
    omega arith,
    record { are_parts = (second_connects, (closes second_seated refl, tt)); may = ((refl, refl, refl, omega arith), (tt, tt)) },
    (
      omega arith,
      record { are_parts = (late_starts, (ends_late, (closes late_turn.after refl, tt))); may = ((refl, record { cell = λ class e. inl (cc) }), (refl, (tt, tt))) },
      (omega arith, record { are_parts = parts_are 0 n; may = may_do 0 n }, tt),
    ),
  ),
)

pub are_spells : (n : ℕ) → AreSpells 2 (λ session. 5) (spells n)
are_spells n = record {
  stints = are_stints n;
  entered = (((refl, refl), (tt, tt)), (((refl, refl), (tt, tt)), ((tt, (tt, (tt, tt))), (are_entered 0 n, tt))));
}

doings_folded : (k n : ℕ) → DoingsFolded setting change (waits k n)
unfolding waits
doings_folded k zero = (tt, tt)
doings_folded k (suc n) = (tt, (tt, doings_folded (k + 1) n))

pub are_folded : (n : ℕ) → AreFolded setting change (spells n)
are_folded n = (((first_fold, refl), (tt, tt)), (((second_fold, refl), (tt, tt)), ((tt, (tt, (tt, tt))), (doings_folded 0 n, tt))))

doings_connect : (k n : ℕ) → DoingsConnectFirst (waits k n)
unfolding waits
doings_connect k zero = (tt, tt)
doings_connect k (suc n) = (tt, (tt, doings_connect (k + 1) n))

pub connect_first : (n : ℕ) → AllConnectFirst (spells n)
connect_first n = ((refl, (tt, tt)), ((refl, (tt, tt)), ((tt, (tt, (tt, tt))), (doings_connect 0 n, tt))))

pub are_single : (n : ℕ) → AreSingle (spells n)
are_single n = (((λ e f. absurd (omega (arith, e))), ((λ e f. absurd (omega (arith, f))), ((λ e f. absurd (omega (arith, e))), tt))), (((λ e f. absurd (omega (arith, e))), ((λ e f. absurd (omega (arith, f))), tt)), (((λ e f. absurd (omega (arith, e))), tt), (tt, tt))))

-- no later phase has any of them
pub later_before : (m n : ℕ) → spells_before (suc (suc n)) (spells m) ≡ spells m
later_before m n =
    by (nat_lt 0 (suc (suc n))) (nat_lt 1 (suc (suc n))) (lt-ltb 0 (suc (suc n)) (omega arith)) (lt-ltb 1 (suc (suc n)) (omega arith)) where
      by : (a b : Bool) → a ≡ true → b ≡ true → cond a (first ∷ []) [] ++ (cond a (second ∷ []) [] ++ (cond b (third ∷ []) [] ++ (cond b (fourth m ∷ []) [] ++ []))) ≡ spells m
      by true true p q = refl
      by true false p q = absurd (false≢true q)
      by false b p q = absurd (false≢true p)

pub later_at : (m n : ℕ) → spells_at (suc (suc n)) (spells m) ≡ []
later_at m n = by (0 == suc (suc n)) (1 == suc (suc n)) (ne_eqb 0 (suc (suc n)) (λ e. omega (arith, e))) (ne_eqb 1 (suc (suc n)) (λ e. omega (arith, e))) where
  by : (a b : Bool) → a ≡ false → b ≡ false → cond a (first ∷ []) [] ++ (cond a (second ∷ []) [] ++ (cond b (third ∷ []) [] ++ (cond b (fourth m ∷ []) [] ++ []))) ≡ []
  by false false p q = refl
  by false true p q = absurd (false≢true (sym q))
  by true b p q = absurd (false≢true (sym p))
