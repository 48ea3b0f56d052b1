-- Two sessions at once, worked: both connect; then the first one truncates the summary of the waits by thread, while a
-- wait of the second is held at a cell that it has in hand. The second settles it in an action of its own, and adds a
-- further wait behind that, above what the first one's action left. All that the laws ask of them holds.
use Rattle.std.proofs.Common.{ℕ, ◌≡◌, ◌+◌, ◌-◌, ◌<◌, ◌≤◌, ◌==◌, ◌&&◌, Bool, zero, suc, true, false, cond, List, [], ◌∷◌, ◌++◌, map, Option, Some, None, Contains, inl, replicate, slice_set, refl, ap, sym, ◌∙◌, subst, arith, lit<, lit≤, lt-ltb, ne_eqb, eqb-true}
use Rattle.std.specs.Prelude.{codes, if◌then◌else◌, nat_lt}
use Rattle.std.proofs.lemmas.Grind.{merely}
use Rattle.std.proofs.lemmas.Bool.{false≢true}
use Rattle.std.proofs.lemmas.List.Elements.{Contains-append_left, Contains-push}
use Rattle.pfs_admin.specs.ConnectionAsks.{work_of_connect, connect_entry, placed_of}
use Rattle.pfs_admin.specs.Fold.{state_from, state_of}
use Rattle.pfs_admin.specs.FoldLaws.{row_of}
use Rattle.pfs_admin.specs.OpeningState.{opening_flags, cells_of, cells_of_kind, kinds_of, opened}
use Rattle.pfs_admin.specs.AdministrationStates.{KindCells, seat_at, connected}
use Rattle.pfs_admin.specs.AdministrationStates.{State as Administration}
use Rattle.pfs_admin.specs.Truncations.{level_asks, work_of_truncation, has_truncated}
use Rattle.pfs_admin.specs.Works.{Sign, Made, signs_calls, signs_entries, flagging_calls, flagging_entries}
use Rattle.pfs_admin.specs.declared.changes.Change.{Change}
use Rattle.pfs_admin.specs.declared.changes.Change.TheVariants.{Connect, Truncate}
use Rattle.pfs_board.specs.declared.view.Label.{Label}
use Rattle.pfs_classes.proofs.RegisterNames.{known_from}
use Rattle.pfs_classes.specs.Builtins.{Row, builtins, builtin_of, HasBuiltins}
use Rattle.pfs_classes.specs.Registry.{registered}
use Rattle.pfs_classes.specs.Settings.{ComesFrom, builtin}
use Rattle.pfs_classes.specs.declared.setting.Setting.{Setting}
use Rattle.pfs_containers.specs.ContainerState.{opening as nobody}
use Rattle.pfs_event.specs.declared.entry.Entry.TheVariants as says
use Rattle.pfs_event.specs.declared.kind.EventKind.TheVariants as kinds
use Rattle.pfs_event.specs.declared.open.Open.{Open}
use Rattle.pfs_event.specs.declared.verdict.Verdict.TheVariants.{Attributed}
use Rattle.pfs_levels.specs.Calls.{Call, Adds, Loads, Puts}
use Rattle.pfs_levels.specs.CallOrder.{marked, marks_of, all_marks, word_marks_of, all_word_marks, IsCaused, Order}
use Rattle.pfs_levels.specs.JointCalls.{total, count, changes_of, sets_of, word_version, flags_at, draws_of, all_calls, Joint}
use Rattle.pfs_levels.specs.Moves.{ask, Move, AreMoves, moves_calls, moves_entries}
use Rattle.pfs_levels.specs.PlainStore.{word}
use Rattle.pfs_levels.specs.RowWords.{merged, zero_words, opening_content}
use Rattle.pfs_levels.specs.declared.answers.Added.TheVariants.{Counted, Held}
use Rattle.pfs_matching.specs.ActorRules.{opening_actors}
use Rattle.pfs_matching.specs.ObjectRules.{opening_objects}
use Rattle.pfs_model.specs.Chains.{Each}
use Rattle.pfs_model.specs.Contents.{Facts}
use Rattle.pfs_model.specs.declared.lines.Subject.{Subject}
use Rattle.pfs_rows.specs.Limits.{AreInRange}
use Rattle.pfs_rows.specs.declared.limits.Limits.{Limits}
use Rattle.pfs_rows.specs.declared.table.SummaryTable.TheVariants.{ByThread}
use Rattle.pfs_rows.specs.declared.table.TableKind.TheVariants.{Waits, Stages}
use Rattle.pfs_rows.specs.declared.truncations.Truncation.{Truncation}
use Rattle.pfs_rows.specs.declared.truncations.Truncation.TheVariants.{Summary}
use Rattle.pfs_session.proofs.EndFrames.{ends_undigested, starts_unplaced}
use Rattle.pfs_session.proofs.HeldAmounts.{nothing_owed}
use Rattle.pfs_session.specs.Ends.{no_numbers, amount_of}
use Rattle.pfs_session.specs.Settlements.{Paid, owed_from, owed_in, owed_by_state, settle_head, paid_calls, paid_entries}
use Rattle.pfs_session.specs.Starts.{started}
use Rattle.pfs_session.specs.SessionStates.{State, fresh, nothing_held}
use Rattle.pfs_session.specs.Turns.{StartsEvent, EndsEvent, SettlesHeld, Connects, Truncates, Turn, acted}
use Rattle.pfs_session.specs.declared.setup.Setup.{Setup}
use Rattle.pfs_setups.specs.SetupRows.{naming_of}
use Rattle.pfs_stat.specs.declared.Stat.{Stat}
use Rattle.pfs_law_session.proofs.StepFacts.{given}
use Rattle.pfs_law_session.specs.Amounts.{AllFacts, at_first}
use Rattle.pfs_law_session.specs.Deeds.{Deed, Connecting, Starting, Ending, Truncating, Closing, Part, IsPart}
use Rattle.pfs_law_session.specs.Stints.{AreStints, parts_by, resumed}
use Rattle.pfs_law_plain.specs.ActionFolds.{AreFolded, AllConnectFirst}
use Rattle.pfs_law_plain.specs.Spells.{Doing, Spell, AreSpells, doings_calls, stints_of}
use Rattle.pfs_law_joint.specs.Phases.{IsShared}
use Rattle.pfs_law_shared.specs.Joined.{AreJoined, JoinedLaw}
use Rattle.pfs_law_shared.specs.Order.{AreSingle}
use Rattle.pfs_law_shared.specs.Rules.{of_rows}
use Rattle.pfs_law_shared.specs.Shares.{actors_of, spells_at, spells_before, AreShared}
use Rattle.pfs_law_shared.specs.Tickets.{AllPlaced}

-- two slots, and one place of each other kind; room for one class of files, and for those that are always there
abbrev pub limits : Limits
limits = record {
  thread_instances = 2;
  accounts = 1;
  users = 1;
  hosts = 1;
  digests = 0;
  statement_stack = 2;
  mutex_classes = 0;
  rwlock_classes = 0;
  cond_classes = 0;
  file_classes = 1;
  socket_classes = 0;
  stage_classes = 0;
  statement_classes = 0;
}

pub in_range : AreInRange limits
in_range = record {
  thread_instances = omega arith;
  accounts = omega arith;
  users = omega arith;
  hosts = omega arith;
  digests = omega arith;
  statement_stack_least = omega arith;
  statement_stack = omega arith;
  mutex_classes = omega arith;
  rwlock_classes = omega arith;
  cond_classes = omega arith;
  file_classes = omega arith;
  socket_classes = omega arith;
  stage_classes = omega arith;
  statement_classes = omega arith;
}

-- the names of the built-in classes alone; users and hosts have some of them
abbrev pub names : List (List ℕ)
names = map (λ row. row.name) builtins ++ codes "transaction" ∷ []

contains_name : (rows : List Row) (row : Row) → Contains rows row → Contains (map (λ one. one.name) rows) row.name
contains_name [] row (k, within, is) = absurd (omega (arith, within))
contains_name (first ∷ rows) row (zero, within, is) = (zero, omega arith, ap (λ (z : Row). z.name) is)
contains_name (first ∷ rows) row (suc k, within, is) =
    let rest : Contains (map (λ one. one.name) rows) row.name = contains_name rows row (k, omega (arith, within), is) in
    (suc rest.0, omega (arith, rest.1), rest.2)

has_builtins : HasBuiltins names
has_builtins = record {
  rows = λ row has. Contains-append_left (map (λ one. one.name) builtins) (codes "transaction" ∷ []) row.name (contains_name builtins row has);
  transaction = Contains-push (map (λ one. one.name) builtins) (codes "transaction");
}

pub comes : ComesFrom names (builtin_of names limits)
comes = builtin limits in_range has_builtins

pub same_limits : (builtin_of names limits).limits ≡ limits
unfolding registered
same_limits = refl

-- instrumentation is on
unfoldable pub setting : Setting
setting = record {
  names = names;
  classes = builtin_of names limits;
  tables = [];
  digests = [];
  limits = limits;
  consumers = 12288;
  in_range = in_range;
  same_limits = same_limits;
  come = merely comes;
  known = known_from names (builtin_of names limits) comes;
  few_tables = omega arith;
  few_digests = omega arith;
}

-- what each word opens with: the consumers, the threads, and the classes that are there
abbrev flags : List ℕ
flags = 12288 ∷ (replicate 32 0 ++ 3 ∷ 3 ∷ 3 ∷ (replicate 59 0 ++ 3 ∷ replicate 64 0))

flags_are : opening_flags setting opening_objects ≡ flags
unfolding setting opening_flags registered
flags_are = refl

abbrev pub label : ℕ → ℕ → Label
label session line = record { session = session; line = line }

-- each session connects first; then the first one empties the waits, and the second one the stages, of which there are none
abbrev waits : Truncation
waits = Summary Waits ByThread

abbrev stages : Truncation
stages = Summary Stages ByThread

abbrev change : Label → Change
change l = if l.line == 1 then (if l.session == 1 then Connect 0 1 else Connect 1 0) else (if l.session == 1 then Truncate waits else Truncate stages)

-- the three classes are of waits
abbrev pub cells_by_kind : KindCells
cells_by_kind = record { waits = 0 ∷ 1 ∷ 2 ∷ []; stages = []; statements = []; transactions = 62 ∷ 63 ∷ []; digests = 0 }

-- the administration before each of the four actions
abbrev opening : Administration
opening = record {
  kept = nobody limits;
  words = map (word 0) flags;
  actors = opening_actors;
  objects = opening_objects;
  names = names;
  classes = (naming_of setting).classes;
  tables = [];
  cells = 0 ∷ 1 ∷ 2 ∷ 62 ∷ 63 ∷ [];
  kinds = cells_by_kind;
  actions = 0;
}

abbrev between : Administration
between = connected opening 1 0 1

abbrev last : Administration
last = connected between 2 1 0

abbrev behind : Administration
behind = has_truncated last waits

cells_are : cells_of setting.classes ≡ 0 ∷ 1 ∷ 2 ∷ 62 ∷ 63 ∷ []
unfolding setting registered
cells_are = refl

kinds_are : kinds_of setting ≡ cells_by_kind
unfolding setting registered kinds_of cells_of_kind
kinds_are = refl

opened_is : opened setting ≡ opening
unfolding setting
opened_is =
    ap (λ (z : List ℕ). record { kept = nobody limits; words = map (word 0) z; actors = opening_actors; objects = opening_objects; names = names; classes = (naming_of setting).classes; tables = []; cells = cells_of setting.classes; kinds = kinds_of setting; actions = 0 }) flags_are
    ∙ (ap (λ (z : List ℕ). record { kept = nobody limits; words = map (word 0) flags; actors = opening_actors; objects = opening_objects; names = names; classes = (naming_of setting).classes; tables = []; cells = z; kinds = kinds_of setting; actions = 0 }) cells_are
    ∙ ap (λ (z : KindCells). record { kept = nobody limits; words = map (word 0) flags; actors = opening_actors; objects = opening_objects; names = names; classes = (naming_of setting).classes; tables = []; cells = 0 ∷ 1 ∷ 2 ∷ 62 ∷ 63 ∷ []; kinds = z; actions = 0 }) kinds_are)

first_fold : opening ≡ state_of setting change []
unfolding state_from
first_fold = sym opened_is

second_fold : between ≡ state_of setting change (label 1 1 ∷ [])
unfolding state_from
second_fold = ap (λ (z : Administration). connected z 1 0 1) (sym opened_is)

third_fold : last ≡ state_of setting change (label 1 1 ∷ label 2 1 ∷ [])
unfolding state_from
third_fold = ap (λ (z : Administration). connected (connected z 1 0 1) 2 1 0) (sym opened_is)

fourth_fold : behind ≡ state_of setting change (label 1 1 ∷ label 2 1 ∷ label 1 2 ∷ [])
unfolding state_from
fourth_fold = ap (λ (z : Administration). has_truncated (connected (connected z 1 0 1) 2 1 0) waits) (sym opened_is)

-- what was written first to rows that nobody had written
abbrev pub made_first : List Sign → List Made
made_first [] = []
made_first (sign ∷ signs) = made_first signs ++ record { sign = sign; version = 0; found = opening_content (row_of sign) } ∷ []

abbrev pub connect_turn : Administration → ℕ → ℕ → State → Turn
connect_turn admin user host s = record {
  step = Connects admin user host;
  calls = flagging_calls admin.words (work_of_connect admin s.number user host).flags ++ (signs_calls (made_first (work_of_connect admin s.number user host).signs) ++ []);
  entries = connect_entry (admin.actions + 1) (seat_at admin s.number user host)
      ∷ ([] ++ (signs_entries (made_first (work_of_connect admin s.number user host).signs) ++ flagging_entries admin.words (work_of_connect admin s.number user host).flags));
  after = record (acted s (connected admin s.number user host)) { place = placed_of (seat_at admin s.number user host) };
}

abbrev pub connect_part : Administration → ℕ → ℕ → State → Part
connect_part admin user host s = record { deed = Connecting admin user host; turns = connect_turn admin user host s ∷ [] }

abbrev pub done : Deed → Turn → Doing
done deed turn = record { part = record { deed = deed; turns = turn ∷ [] }; label = label 0 0; labels = []; met = None }

abbrev pub close_turn : State → Turn
close_turn s = record { step = SettlesHeld; calls = []; entries = []; after = record s { held = nothing_held } }

-- a truncation takes these rows, and gives nothing on
abbrev truncate_turn : Administration → Truncation → List Move → State → Turn
truncate_turn admin what moves s = record {
  step = Truncates admin what;
  calls = flagging_calls admin.words (work_of_truncation admin what).flags ++ ([] ++ moves_calls moves);
  entries = (says.Act (admin.actions + 1) ∷ ([] ++ (moves_entries moves ++ ([] ++ flagging_entries admin.words (work_of_truncation admin what).flags)))) ++ says.Reply 0 ∷ [];
  after = acted s (has_truncated admin what);
}

abbrev emptied : ℕ → Move
emptied from = record { from = from; before = 0; version = 1; found = zero_words; gifts = [] }

abbrev moves : List Move
moves = emptied 195 ∷ emptied 194 ∷ emptied 193 ∷ emptied 131 ∷ emptied 130 ∷ emptied 129 ∷ []

-- the first session
abbrev first_seated : State
first_seated = (connect_turn opening 0 1 (fresh 1 2 5)).after

abbrev first : Spell
first = record {
  phase = 0;
  session = 1;
  doings = record { part = connect_part opening 0 1 (fresh 1 2 5); label = label 1 1; labels = []; met = None } ∷ done Closing (close_turn first_seated) ∷ [];
}

abbrev first_back : State
first_back = resumed (close_turn first_seated).after

abbrev first_truncates : Turn
first_truncates = truncate_turn last waits moves (close_turn first_back).after

abbrev third : Spell
third = record {
  phase = 1;
  session = 1;
  doings = record {
    part = record { deed = Truncating last waits; turns = first_truncates ∷ close_turn first_back ∷ [] };
    label = label 1 2;
    labels = label 1 1 ∷ label 2 1 ∷ [];
    met = None;
  } ∷ done Closing (close_turn first_truncates.after) ∷ [];
}

-- the second one
abbrev second_seated : State
second_seated = (connect_turn between 1 0 (fresh 2 2 5)).after

abbrev second : Spell
second = record {
  phase = 0;
  session = 2;
  doings = record { part = connect_part between 1 0 (fresh 2 2 5); label = label 2 1; labels = label 1 1 ∷ []; met = None } ∷ done Closing (close_turn second_seated) ∷ [];
}

abbrev second_back : State
second_back = resumed (close_turn second_seated).after

-- a wait of class 0 starts and ends
abbrev pub wait : Subject
wait = record { kind = kinds.Wait; class = Some 0; cell = 0; table = None; digest = None }

abbrev seen : Setup
seen = record { consumers = word 0 12288; thread = word 1 3; class = word 0 3; table = None }

abbrev open_wait : ℕ → Open
open_wait number = record {
  kind = kinds.Wait;
  verdict = Attributed;
  event = record {
    session = 2;
    number = number;
    last = 0;
    class = 0;
    link = 0;
    nesting = 0;
    parent = 0;
    start = 0;
    duration = 0;
    lock = 0;
    errors = 0;
    warnings = 0;
    affected = 0;
    sent = 0;
    examined = 0;
    ticket = 0;
    timed = true;
    read_only = false;
    class_fits = omega arith;
    link_fits = omega arith;
    nesting_fits = omega arith;
  };
  digested = false;
  placed = false;
}

abbrev amount : ℕ → Stat
amount number = amount_of (open_wait number) 0 no_numbers

abbrev start_turn : ℕ → State → Turn
start_turn number s = record {
  step = StartsEvent wait;
  calls = Loads 33 0 3 ∷ Loads 2 1 3 ∷ Loads 0 0 12288 ∷ [];
  entries = says.Start (Some number) Attributed (Some 0) (Some 1) (Some 0) None ∷ [];
  after = started s (open_wait number);
}

abbrev second_waits : State
second_waits = started second_back (open_wait 1)

-- it is held
abbrev held_turn : Turn
held_turn = record {
  step = EndsEvent no_numbers;
  calls = Adds 193 (amount 1) (Held 193 1 1) ∷ Loads 2 1 3 ∷ Loads 0 0 12288 ∷ [];
  entries = says.End (Some 1) (Some 1) (Some 0) (Some 1) ∷ says.Held 193 1 1 ∷ [];
  after = record second_waits { opened = record second_waits.opened { events = [] }; held = slice_set nothing_held 0 (Some (amount 1)) };
}

-- and settled in the session's own action
abbrev paid : List Paid
paid = record { owed = record { row = 193; amount = amount 1 }; version = 1; found = zero_words } ∷ []

abbrev settle_turn : Turn
settle_turn = record {
  step = SettlesHeld;
  calls = paid_calls paid;
  entries = says.Settle ∷ paid_entries paid;
  after = record held_turn.after { held = nothing_held };
}

abbrev second_truncates : Turn
second_truncates = truncate_turn behind stages [] settle_turn.after

-- a further wait is counted
abbrev waits_again : State
waits_again = started second_truncates.after (open_wait 2)

abbrev counted_turn : Turn
counted_turn = record {
  step = EndsEvent no_numbers;
  calls = Adds 193 (amount 2) (Counted 193 3) ∷ Loads 2 1 3 ∷ Loads 0 0 12288 ∷ [];
  entries = says.End (Some 2) (Some 2) (Some 0) (Some 1) ∷ says.Add 193 3 ∷ [];
  after = record waits_again { opened = record waits_again.opened { events = [] }; held = nothing_held };
}

abbrev fourth : Spell
fourth = record {
  phase = 1;
  session = 2;
  doings = done (Starting wait) (start_turn 1 second_back) ∷ done (Ending no_numbers) held_turn
      ∷ record {
        part = record { deed = Truncating behind stages; turns = second_truncates ∷ settle_turn ∷ [] };
        label = label 2 2;
        labels = label 1 1 ∷ label 2 1 ∷ label 1 2 ∷ [];
        met = None;
      }
      ∷ done (Starting wait) (start_turn 2 second_truncates.after) ∷ done (Ending no_numbers) counted_turn ∷ done Closing (close_turn counted_turn.after) ∷ [];
}

abbrev spells : List Spell
spells = first ∷ second ∷ third ∷ fourth ∷ []

-- each part is one
first_connects : IsPart (fresh 1 2 5) (connect_part opening 0 1 (fresh 1 2 5))
first_connects = record {
  are_turns = ((record { moves = []; made = made_first (work_of_connect opening 1 0 1).signs; are_moves = refl; signs_are = refl; calls_are = refl; entries_are = refl }, refl), tt);
  steps_are = refl;
}

second_connects : IsPart (fresh 2 2 5) (connect_part between 1 0 (fresh 2 2 5))
second_connects = record {
  are_turns = ((record { moves = []; made = made_first (work_of_connect between 2 1 0).signs; are_moves = refl; signs_are = refl; calls_are = refl; entries_are = refl }, refl), tt);
  steps_are = refl;
}

pub closes : (s : State) → s.held ≡ nothing_held → IsPart s (record { deed = Closing; turns = close_turn s ∷ [] })
closes s h =
    let none : owed_by_state s ≡ [] = ap (λ z. owed_in s.place.thread z) h ∙ nothing_owed s.place.thread in
    record {
      are_turns = (record { unseated = λ e. h; paid = []; owed_are = sym none; calls_are = refl; entries_are = ap (λ z. settle_head z ++ []) (sym none); after_is = refl }, tt);
      steps_are = refl;
    }

moves_are : AreMoves (work_of_truncation last waits).moves moves
unfolding level_asks
moves_are = (ask 129 (2177 ∷ []) ∷ ask 130 (2178 ∷ []) ∷ ask 131 (2179 ∷ []) ∷ ask 193 (8321 ∷ []) ∷ ask 194 (8322 ∷ []) ∷ [], (ask 195 (8323 ∷ []), (refl, (record { from_is = refl; next = refl; gifts_are = tt; to_is = refl }, (ask 129 (2177 ∷ []) ∷ ask 130 (2178 ∷ []) ∷ ask 131 (2179 ∷ []) ∷ ask 193 (8321 ∷ []) ∷ [], (ask 194 (8322 ∷ []), (refl, (record { from_is = refl; next = refl; gifts_are = tt; to_is = refl }, (ask 129 (2177 ∷ []) ∷ ask 130 (2178 ∷ []) ∷ ask 131 (2179 ∷ []) ∷ [], (ask 193 (8321 ∷ []), (refl, (record { from_is = refl; next = refl; gifts_are = tt; to_is = refl }, (ask 129 (2177 ∷ []) ∷ ask 130 (2178 ∷ []) ∷ [], (ask 131 (2179 ∷ []), (refl, (record { from_is = refl; next = refl; gifts_are = tt; to_is = refl }, (ask 129 (2177 ∷ []) ∷ [], (ask 130 (2178 ∷ []), (refl, (record { from_is = refl; next = refl; gifts_are = tt; to_is = refl }, ([], (ask 129 (2177 ∷ []), (refl, (record { from_is = refl; next = refl; gifts_are = tt; to_is = refl }, refl))))))))))))))))))))))))

first_empties : IsPart first_back (record { deed = Truncating last waits; turns = first_truncates ∷ close_turn first_back ∷ [] })
first_empties = record {
  are_turns = (
    record {
      changes = says.Act 3 ∷ ([] ++ (moves_entries moves ++ []));
      works = record { moves = moves; made = []; are_moves = moves_are; signs_are = refl; calls_are = refl; entries_are = refl };
      entries_are = refl;
      after_is = refl;
    },
    (closes first_back refl).are_turns,
  );
  steps_are = refl;
}

wait_starts : IsPart second_back (record { deed = Starting wait; turns = start_turn 1 second_back ∷ [] })
wait_starts = record {
  are_turns = (
    starts_unplaced _ _ _ _ _ (record {
      seen = Some seen;
      what = open_wait 1;
      loaded = record { there = refl; table_is = refl };
      calls_are = refl;
      opened = record { kind = refl; verdict_is = refl; session_is = refl; number = refl; class = refl; digested_is = refl; placed_is = refl; link = refl; lies_in = refl; start = refl; timed_is = refl; read_only = refl; unfilled = record { last = refl; duration = refl; numbers = refl; ticket = refl } };
      entries_are = refl;
      after_is = refl;
    }) refl,
    tt,
  );
  steps_are = refl;
}

wait_is_held : IsPart second_waits (record { deed = Ending no_numbers; turns = held_turn ∷ [] })
wait_is_held = record {
  are_turns = (
    record {
      what = open_wait 1;
      others = [];
      innermost = refl;
      ends = ends_undigested second_waits 1 (open_wait 1) [] no_numbers _ _ held_turn.after refl refl
          (record { consumers = word 0 12288; thread = word 1 3; answer = Held 193 1 1; row_is = refl; calls_are = refl; entries_are = refl; after_is = refl });
    },
    tt,
  );
  steps_are = refl;
}

owed : owed_by_state held_turn.after ≡ record { row = 193; amount = amount 1 } ∷ []
unfolding owed_from
owed = refl

settles_then : IsPart held_turn.after (record { deed = Truncating behind stages; turns = second_truncates ∷ settle_turn ∷ [] })
unfolding level_asks
settles_then = record {
  are_turns = (
    record {
      changes = says.Act 4 ∷ [];
      works = record { moves = []; made = []; are_moves = refl; signs_are = refl; calls_are = refl; entries_are = refl };
      entries_are = refl;
      after_is = refl;
    },
    (record { unseated = λ e. absurd (none_some e); paid = paid; owed_are = sym owed; calls_are = refl; entries_are = ap (λ z. settle_head z ++ paid_entries paid) (sym owed); after_is = refl }, tt),
  );
  steps_are = refl;
} where
  none_some : ◌≡◌ {A = Option ℕ} (Some 1) None → ⊥
  none_some e = cc

waits_anew : IsPart second_truncates.after (record { deed = Starting wait; turns = start_turn 2 second_truncates.after ∷ [] })
waits_anew = record {
  are_turns = (
    starts_unplaced _ _ _ _ _ (record {
      seen = Some seen;
      what = open_wait 2;
      loaded = record { there = refl; table_is = refl };
      calls_are = refl;
      opened = record { kind = refl; verdict_is = refl; session_is = refl; number = refl; class = refl; digested_is = refl; placed_is = refl; link = refl; lies_in = refl; start = refl; timed_is = refl; read_only = refl; unfilled = record { last = refl; duration = refl; numbers = refl; ticket = refl } };
      entries_are = refl;
      after_is = refl;
    }) refl,
    tt,
  );
  steps_are = refl;
}

wait_is_counted : IsPart waits_again (record { deed = Ending no_numbers; turns = counted_turn ∷ [] })
wait_is_counted = record {
  are_turns = (
    record {
      what = open_wait 2;
      others = [];
      innermost = refl;
      ends = ends_undigested waits_again 1 (open_wait 2) [] no_numbers _ _ counted_turn.after refl refl
          (record { consumers = word 0 12288; thread = word 1 3; answer = Counted 193 3; row_is = refl; calls_are = refl; entries_are = refl; after_is = refl });
    },
    tt,
  );
  steps_are = refl;
}

are_stints : AreStints 2 (λ session. 5) (stints_of spells)
are_stints = (
  omega arith,
  record { are_parts = (first_connects, (closes first_seated refl, tt)); may = ((refl, refl, refl, omega arith), (tt, tt)) },
  (
    omega arith,
    record { are_parts = (second_connects, (closes second_seated refl, tt)); may = ((refl, refl, refl, omega arith), (tt, tt)) },
    (
      omega arith,
      record { are_parts = (first_empties, (closes first_truncates.after refl, tt)); may = (refl, (tt, tt)) },
      (
        omega arith,
        record {
          are_parts = (wait_starts, (wait_is_held, (settles_then, (waits_anew, (wait_is_counted, (closes counted_turn.after refl, tt))))));
          may = ((refl, record { cell = λ class e. inl (cc) }), (refl, (refl, ((refl, record { cell = λ class e. inl (cc) }), (refl, (tt, tt))))));
        },
        tt,
      ),
    ),
  ),
)

are_spells : AreSpells 2 (λ session. 5) spells
are_spells = record {
  stints = are_stints;
  entered = (((refl, refl), (tt, tt)), (((refl, refl), (tt, tt)), (((refl, refl), (tt, tt)), ((tt, (tt, ((refl, refl), (tt, (tt, (tt, tt)))))), tt))));
}

are_folded : AreFolded setting change spells
are_folded = (((first_fold, refl), (tt, tt)), (((second_fold, refl), (tt, tt)), (((third_fold, refl), (tt, tt)), ((tt, (tt, ((fourth_fold, refl), (tt, (tt, (tt, tt)))))), tt))))

connect_first : AllConnectFirst spells
connect_first = ((refl, (tt, tt)), ((refl, (tt, tt)), ((tt, (tt, tt)), ((tt, (tt, (tt, (tt, (tt, (tt, tt)))))), tt))))

-- what stands in a row at a version, by all that was put there
abbrev pub stands : List Call → ℕ → ℕ → List ℕ
stands [] row version = opening_content row
stands (Puts at content k ∷ calls) row version = cond ((at == row) && (k == version)) content (stands calls row version)
stands (Adds at more (Counted r k) ∷ calls) row version = cond ((r == row) && (k == version)) (merged (stands calls row (k - 1)) more) (stands calls row version)
stands (_ ∷ calls) row version = stands calls row version

abbrev pub IsAnew : Call → Type 0
IsAnew (Puts at content k) = 0 < k
IsAnew (Adds at more (Counted r k)) = 0 < k
IsAnew _ = Unit {0}

pub opens : (calls : List Call) → Each IsAnew calls → (row : ℕ) → stands calls row 0 ≡ opening_content row
opens [] anew row = refl
opens (Puts at content k ∷ calls) anew row = by (at == row) (k == 0) refl (opens calls anew.1 row) where
  by : (a b : Bool) → (k == 0) ≡ b → stands calls row 0 ≡ opening_content row → cond (a && b) content (stands calls row 0) ≡ opening_content row
  by false b e rest = rest
  by true false e rest = rest
  by true true e rest = absurd (omega (arith, anew.0, eqb-true k 0 e))
opens (Adds at more (Counted r k) ∷ calls) anew row = by (r == row) (k == 0) refl (opens calls anew.1 row) where
  by : (a b : Bool) → (k == 0) ≡ b → stands calls row 0 ≡ opening_content row → cond (a && b) (merged (stands calls row (k - 1)) more) (stands calls row 0) ≡ opening_content row
  by false b e rest = rest
  by true false e rest = rest
  by true true e rest = absurd (omega (arith, anew.0, eqb-true k 0 e))
opens (_ ∷ calls) anew row = opens calls anew.1 row

-- the actors of the two phases
abbrev before : List (List Call)
before = doings_calls second.doings ∷ doings_calls first.doings ∷ []

abbrev now : List (List Call)
now = doings_calls fourth.doings ∷ doings_calls third.doings ∷ []

abbrev begun : List Call
begun = doings_calls second.doings ++ doings_calls first.doings

abbrev all : List Call
all = doings_calls fourth.doings ++ (doings_calls third.doings ++ begun)

abbrev labels : List Label
labels = label 1 1 ∷ label 2 1 ∷ label 1 2 ∷ label 2 2 ∷ []

begun_anew : Each IsAnew begun
begun_anew = (tt, (tt, (lit< tt, (tt, (tt, (tt, (tt, (lit< tt, (tt, (lit< tt, (tt, (lit< tt, (tt, (lit< tt, (tt, (tt, tt))))))))))))))))

all_anew : Each IsAnew all
all_anew = (lit< tt, (tt, (tt, (tt, (tt, (tt, (tt, (lit< tt, (tt, (tt, (tt, (tt, (tt, (tt, (tt, (tt, (tt, (lit< tt, (tt, (lit< tt, (tt, (lit< tt, (tt, (lit< tt, (tt, (lit< tt, (tt, (lit< tt, (tt, (tt, (tt, (tt, (lit< tt, (tt, (tt, (tt, (tt, (lit< tt, (tt, (lit< tt, (tt, (lit< tt, (tt, (lit< tt, (tt, (tt, tt))))))))))))))))))))))))))))))))))))))))))))))

-- both connect
first_joint : Joint flags before (stands begun) (changes_of (all_calls before)) (sets_of (all_calls before)) []
unfolding total count changes_of sets_of word_version flags_at draws_of all_calls
first_joint = record {
  chain = (refl, (refl, (refl, (refl, (refl, tt)))));
  words = (refl, (refl, tt));
  tickets = tt;
  opens = λ row up low. opens begun begun_anew row;
  once = λ h. refl;
  sets_once = λ h. refl;
  draws_once = λ h. refl;
  agrees = (tt, (refl, (refl, ((refl, lit≤ tt), (tt, (tt, (refl, (refl, ((refl, lit≤ tt), (refl, ((refl, lit≤ tt), (refl, ((refl, lit≤ tt), (refl, ((refl, lit≤ tt), (tt, tt))))))))))))))));
}

first_order : Order before (all_marks before) (all_word_marks before) (label 1 1 ∷ label 2 1 ∷ [])
unfolding total marked marks_of all_marks word_marks_of all_word_marks
first_order = record {
  chain = (refl, (refl, (refl, (refl, (refl, (refl, (refl, tt)))))));
  word_chain = (refl, (refl, tt));
  ordered = (refl, (refl, (refl, (refl, (refl, (refl, (refl, tt)))))));
  once = λ h. refl;
  words_once = λ h. refl;
  ended = refl;
  floored = ((tt, (refl, (refl, (refl, (tt, tt))))), ((tt, (refl, (refl, (refl, (refl, (refl, (refl, (refl, (refl, (refl, (tt, tt))))))))))), tt));
  rising = ((lit< tt, (lit< tt, (lit< tt, (lit≤ tt, (lit≤ tt, tt))))), ((lit< tt, (lit< tt, (lit< tt, (lit≤ tt, (lit< tt, (lit≤ tt, (lit< tt, (lit≤ tt, (lit< tt, (lit≤ tt, (lit≤ tt, tt))))))))))), tt));
  there = ((tt, (lit< tt, (lit< tt, (lit< tt, (tt, tt))))), ((tt, (lit< tt, (lit< tt, (lit< tt, (lit< tt, (lit< tt, (lit< tt, (lit< tt, (lit< tt, (lit< tt, (tt, tt))))))))))), tt));
  caused = ((tt, (tt, (tt, (tt, (tt, tt))))), ((tt, (tt, (tt, (tt, (tt, (tt, (tt, (tt, (tt, (tt, (tt, tt))))))))))), tt));
  named = ((refl, (tt, (tt, (tt, ((label 2 1 ∷ [], refl), tt))))), ((refl, (tt, (tt, (tt, (tt, (tt, (tt, (tt, (tt, (tt, ((label 1 1 ∷ label 2 1 ∷ [], refl), tt))))))))))), tt));
}

first_shared : IsShared flags [] before
unfolding count changes_of sets_of word_version all_calls
first_shared = record {
  content = stands begun;
  log = changes_of (all_calls before);
  sets = sets_of (all_calls before);
  draws = [];
  marks = all_marks before;
  words = all_word_marks before;
  labels = label 1 1 ∷ label 2 1 ∷ [];
  joint = first_joint;
  order = first_order;
  since = ((tt, (lit< tt, (lit< tt, (lit≤ tt, (tt, tt))))), ((tt, (lit< tt, (lit< tt, (lit≤ tt, (lit< tt, (lit≤ tt, (lit< tt, (lit≤ tt, (lit< tt, (lit≤ tt, (tt, tt))))))))))), tt));
}

-- then they are at once
joint : Joint flags (now ++ before) (stands all) (changes_of (all_calls (now ++ before))) (sets_of (all_calls (now ++ before))) []
unfolding total count changes_of sets_of word_version flags_at draws_of all_calls
joint = record {
  chain = (refl, (refl, (refl, (refl, (refl, (refl, (refl, (refl, (refl, (refl, (refl, (refl, (refl, tt)))))))))))));
  words = (refl, (refl, tt));
  tickets = tt;
  opens = λ row up low. opens all all_anew row;
  once = λ h. refl;
  sets_once = λ h. refl;
  draws_once = λ h. refl;
  agrees = ((2, (refl, refl)), ((refl, lit≤ tt), ((refl, lit≤ tt), ((refl, lit≤ tt), ((refl, lit≤ tt), ((refl, lit≤ tt), (tt, (refl, ((refl, lit≤ tt), (tt, (tt, ((refl, lit≤ tt), ((refl, lit≤ tt), ((refl, lit≤ tt), ((refl, lit≤ tt), ((refl, lit≤ tt), (tt, (refl, ((refl, lit≤ tt), (refl, ((refl, lit≤ tt), (refl, ((refl, lit≤ tt), (refl, ((refl, lit≤ tt), (refl, ((refl, lit≤ tt), (refl, ((refl, lit≤ tt), (tt, (tt, (refl, (refl, ((refl, lit≤ tt), (tt, (tt, (refl, (refl, ((refl, lit≤ tt), (refl, ((refl, lit≤ tt), (refl, ((refl, lit≤ tt), (refl, ((refl, lit≤ tt), (tt, tt))))))))))))))))))))))))))))))))))))))))))))));
}

was_held : IsCaused (all_marks (now ++ before)) (marks_of (doings_calls fourth.doings)) 193 1 1 0
unfolding total marked marks_of all_marks
was_held = record {
  states = (lit< tt, lit< tt);
  order = inl (refl, refl);
  known = lit≤ tt;
  floor = refl;
  between = refl;
  first_dirty = λ dirty. inl (refl, lit< tt);
  second_dirty = λ dirty. inl (refl, lit< tt);
  second_free = λ free. absurd (omega (arith, free));
}

order : Order (now ++ before) (all_marks (now ++ before)) (all_word_marks (now ++ before)) labels
unfolding total marked marks_of all_marks word_marks_of all_word_marks
order = record {
  chain = (refl, (refl, (refl, (refl, (refl, (refl, (refl, (refl, (refl, (refl, (refl, (refl, (refl, (refl, (refl, (refl, (refl, tt)))))))))))))))));
  word_chain = (refl, (refl, tt));
  ordered = (refl, (refl, (refl, (refl, (refl, (refl, (refl, (refl, (refl, (refl, (refl, (refl, (refl, (refl, (refl, (refl, (refl, tt)))))))))))))))));
  once = λ h. refl;
  words_once = λ h. refl;
  ended = refl;
  floored = ((refl, (refl, (refl, (refl, (refl, (refl, (tt, (refl, (refl, (tt, (tt, (refl, (refl, (refl, (refl, (refl, tt)))))))))))))))), ((tt, (refl, (refl, (refl, (refl, (refl, (refl, (refl, (refl, (refl, (refl, (refl, (refl, (tt, tt)))))))))))))), ((tt, (refl, (refl, (refl, (tt, tt))))), ((tt, (refl, (refl, (refl, (refl, (refl, (refl, (refl, (refl, (refl, (tt, tt))))))))))), tt))));
  rising = ((lit< tt, (lit≤ tt, (lit≤ tt, (lit≤ tt, (lit≤ tt, (lit≤ tt, (lit< tt, (lit< tt, (lit≤ tt, (lit≤ tt, ((lit≤ tt, lit≤ tt), (lit≤ tt, (lit≤ tt, (lit≤ tt, (lit≤ tt, (lit≤ tt, tt)))))))))))))))), ((lit< tt, (lit< tt, (lit≤ tt, (lit< tt, (lit≤ tt, (lit< tt, (lit≤ tt, (lit< tt, (lit≤ tt, (lit< tt, (lit≤ tt, (lit< tt, (lit≤ tt, (lit≤ tt, tt)))))))))))))), ((lit< tt, (lit< tt, (lit< tt, (lit≤ tt, (lit≤ tt, tt))))), ((lit< tt, (lit< tt, (lit< tt, (lit≤ tt, (lit< tt, (lit≤ tt, (lit< tt, (lit≤ tt, (lit< tt, (lit≤ tt, (lit≤ tt, tt))))))))))), tt))));
  there = ((lit< tt, (lit< tt, (lit< tt, (lit< tt, (lit< tt, (lit< tt, (tt, (lit< tt, (lit< tt, (tt, (lit< tt, (lit< tt, (lit< tt, (lit< tt, (lit< tt, (lit< tt, tt)))))))))))))))), ((tt, (lit< tt, (lit< tt, (lit< tt, (lit< tt, (lit< tt, (lit< tt, (lit< tt, (lit< tt, (lit< tt, (lit< tt, (lit< tt, (lit< tt, (tt, tt)))))))))))))), ((tt, (lit< tt, (lit< tt, (lit< tt, (tt, tt))))), ((tt, (lit< tt, (lit< tt, (lit< tt, (lit< tt, (lit< tt, (lit< tt, (lit< tt, (lit< tt, (lit< tt, (tt, tt))))))))))), tt))));
  caused = ((tt, (tt, (tt, (tt, (tt, (tt, (tt, (tt, (tt, (tt, (was_held, (tt, (tt, (tt, (tt, (tt, tt)))))))))))))))), ((tt, (tt, (tt, (tt, (tt, (tt, (tt, (tt, (tt, (tt, (tt, (tt, (tt, (tt, tt)))))))))))))), ((tt, (tt, (tt, (tt, (tt, tt))))), ((tt, (tt, (tt, (tt, (tt, (tt, (tt, (tt, (tt, (tt, (tt, tt))))))))))), tt))));
  named = ((tt, (tt, (tt, (tt, (tt, (tt, (refl, (tt, (tt, ((label 2 2 ∷ [], refl), (tt, (tt, (tt, (tt, (tt, (tt, tt)))))))))))))))), ((refl, (tt, (tt, (tt, (tt, (tt, (tt, (tt, (tt, (tt, (tt, (tt, (tt, ((label 1 2 ∷ label 2 2 ∷ [], refl), tt)))))))))))))), ((refl, (tt, (tt, (tt, ((label 2 1 ∷ label 1 2 ∷ label 2 2 ∷ [], refl), tt))))), ((refl, (tt, (tt, (tt, (tt, (tt, (tt, (tt, (tt, (tt, ((label 1 1 ∷ label 2 1 ∷ label 1 2 ∷ label 2 2 ∷ [], refl), tt))))))))))), tt))));
}

shared : IsShared flags before now
unfolding count changes_of sets_of word_version all_calls
shared = record {
  content = stands all;
  log = changes_of (all_calls (now ++ before));
  sets = sets_of (all_calls (now ++ before));
  draws = [];
  marks = all_marks (now ++ before);
  words = all_word_marks (now ++ before);
  labels = labels;
  joint = joint;
  order = order;
  since = ((lit< tt, (lit≤ tt, (lit≤ tt, (lit≤ tt, (lit≤ tt, (lit≤ tt, (tt, (lit< tt, (lit≤ tt, (tt, (lit≤ tt, (lit≤ tt, (lit≤ tt, (lit≤ tt, (lit≤ tt, (lit≤ tt, tt)))))))))))))))), ((tt, (lit< tt, (lit≤ tt, (lit< tt, (lit≤ tt, (lit< tt, (lit≤ tt, (lit< tt, (lit≤ tt, (lit< tt, (lit≤ tt, (lit< tt, (lit≤ tt, (tt, tt)))))))))))))), tt));
}

-- in later phases nothing is done
later : IsShared flags (now ++ before) []
later = record {
  content = stands all;
  log = changes_of (all_calls (now ++ before));
  sets = sets_of (all_calls (now ++ before));
  draws = [];
  marks = all_marks (now ++ before);
  words = all_word_marks (now ++ before);
  labels = labels;
  joint = joint;
  order = order;
  since = tt;
}

later_before : (n : ℕ) → spells_before (suc (suc n)) spells ≡ spells
later_before n =
    by (nat_lt 0 (suc (suc n))) (nat_lt 1 (suc (suc n))) (lt-ltb 0 (suc (suc n)) (omega arith)) (lt-ltb 1 (suc (suc n)) (omega arith)) where
      by : (a b : Bool) → a ≡ true → b ≡ true → cond a (first ∷ []) [] ++ (cond a (second ∷ []) [] ++ (cond b (third ∷ []) [] ++ (cond b (fourth ∷ []) [] ++ []))) ≡ spells
      by true true p q = refl
      by true false p q = absurd (false≢true q)
      by false b p q = absurd (false≢true p)

later_at : (n : ℕ) → spells_at (suc (suc n)) spells ≡ []
later_at n = by (0 == suc (suc n)) (1 == suc (suc n)) (ne_eqb 0 (suc (suc n)) (λ e. omega (arith, e))) (ne_eqb 1 (suc (suc n)) (λ e. omega (arith, e))) where
  by : (a b : Bool) → a ≡ false → b ≡ false → cond a (first ∷ []) [] ++ (cond a (second ∷ []) [] ++ (cond b (third ∷ []) [] ++ (cond b (fourth ∷ []) [] ++ []))) ≡ []
  by false false p q = refl
  by false true p q = absurd (false≢true (sym q))
  by true b p q = absurd (false≢true (sym p))

are_shared : AreShared flags spells
are_shared zero = first_shared
are_shared (suc zero) = shared
are_shared (suc (suc n)) =
    subst (λ z. IsShared flags (actors_of z) (actors_of (spells_at (suc (suc n)) spells))) (sym (later_before n)) (subst (λ z. IsShared flags (now ++ before) (actors_of z)) (sym (later_at n)) later)

pub all_shared : AreShared (opening_flags setting opening_objects) spells
all_shared = subst (λ z. AreShared z spells) (sym flags_are) are_shared

all_placed : AllPlaced spells
all_placed = ((tt, (tt, (tt, (tt, (tt, (tt, (tt, (tt, (tt, (tt, (tt, (tt, (tt, (tt, (tt, (tt, tt)))))))))))))))), ((tt, (tt, (tt, (tt, (tt, (tt, (tt, (tt, (tt, (tt, (tt, (tt, (tt, (tt, tt)))))))))))))), ((tt, (tt, (tt, (tt, (tt, tt))))), ((tt, (tt, (tt, (tt, (tt, (tt, (tt, (tt, (tt, (tt, (tt, tt))))))))))), tt))))

are_single : AreSingle spells
are_single = (((λ e f. absurd (omega (arith, e))), ((λ e f. absurd (omega (arith, f))), ((λ e f. absurd (omega (arith, e))), tt))), (((λ e f. absurd (omega (arith, e))), ((λ e f. absurd (omega (arith, f))), tt)), (((λ e f. absurd (omega (arith, e))), tt), (tt, tt))))

-- their facts are those of their steps
abbrev facts : ℕ → ℕ → Facts
facts session = (given (parts_by session (stints_of spells))).0

have_facts : (session : ℕ) → AllFacts (facts session) at_first (parts_by session (stints_of spells))
have_facts session = (given (parts_by session (stints_of spells))).1

-- so they keep all rules of a run
pub worked : JoinedLaw → AreJoined setting change facts (all_shared 1).labels (of_rows (all_shared 1).content) spells
unfolding setting
worked joined =
    joined setting change facts (λ session. 5) spells 1 are_spells all_shared all_placed are_single (lit≤ tt, (lit≤ tt, (lit≤ tt, (lit≤ tt, tt)))) are_folded connect_first have_facts
