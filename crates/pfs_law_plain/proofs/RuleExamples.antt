-- Two sessions, worked: the first connects and a wait of it is counted, the second connects and finds no account, and in
-- the next phase the first one ends. All that the laws ask of them holds.
use Rattle.std.proofs.Common.{ℕ, ◌≡◌, ◌+◌, ◌==◌, zero, suc, true, false, List, [], ◌∷◌, ◌++◌, map, Some, None, Contains, inl, replicate, refl, ap, sym, ◌∙◌, subst, arith}
use Rattle.std.specs.Prelude.{codes, drop, if◌then◌else◌, nat_lt}
use Rattle.std.proofs.lemmas.Grind.{merely}
use Rattle.std.proofs.lemmas.List.Elements.{Contains-append_left, Contains-push}
use Rattle.pfs_admin.specs.ConnectionAsks.{work_of_connect, work_of_quit, connect_entry, placed_of}
use Rattle.pfs_admin.specs.Fold.{state_from, state_of}
use Rattle.pfs_admin.specs.FoldLaws.{row_of}
use Rattle.pfs_admin.specs.OpeningState.{opening_flags, cells_of, cells_of_kind, kinds_of, opened}
use Rattle.pfs_admin.specs.AdministrationStates.{KindCells, seat_at, connected, has_quit}
use Rattle.pfs_admin.specs.AdministrationStates.{State as Administration}
use Rattle.pfs_admin.specs.Truncations.{free_rows}
use Rattle.pfs_admin.specs.Works.{Sign, Releases, Tags, Made, Work, signs_calls, signs_entries, flagging_calls, flagging_entries}
use Rattle.pfs_admin.specs.declared.changes.Change.{Change}
use Rattle.pfs_admin.specs.declared.changes.Change.TheVariants.{Connect, Quit}
use Rattle.pfs_law_plain.specs.Spells.{Doing, Spell, AreSpells, stints_of, calls_of}
use Rattle.pfs_board.specs.declared.view.Label.{Label}
use Rattle.pfs_classes.proofs.RegisterNames.{known_from}
use Rattle.pfs_classes.specs.Builtins.{Row, builtins, builtin_of, HasBuiltins}
use Rattle.pfs_classes.specs.Registry.{registered}
use Rattle.pfs_classes.specs.Settings.{ComesFrom, builtin}
use Rattle.pfs_classes.specs.declared.setting.Setting.{Setting}
use Rattle.pfs_containers.specs.ContainerState.{opening as nobody}
use Rattle.pfs_event.specs.declared.entry.Entry.TheVariants as says
use Rattle.pfs_event.specs.declared.kind.EventKind.TheVariants as kinds
use Rattle.pfs_event.specs.declared.open.Open.{Open}
use Rattle.pfs_event.specs.declared.verdict.Verdict.TheVariants.{Attributed}
use Rattle.pfs_levels.specs.Calls.{Call, Adds, Leaves, Loads, Sets}
use Rattle.pfs_levels.specs.RowWords.{merged, zero_words, opening_content}
use Rattle.pfs_levels.specs.JointCalls.{sets_of}
use Rattle.pfs_levels.specs.Moves.{ask, Gift, Move, AreMoves, moves_calls, moves_entries}
use Rattle.pfs_levels.specs.PlainStore.{AllAnswer, Answers, ops_of, slot_after, word_after, labels_after, word}
use Rattle.pfs_levels.specs.declared.answers.Added.TheVariants.{Counted}
use Rattle.pfs_matching.specs.ActorRules.{opening_actors}
use Rattle.pfs_matching.specs.ObjectRules.{opening_objects}
use Rattle.pfs_model.specs.Contents.{Facts}
use Rattle.pfs_model.specs.declared.lines.Subject.{Subject}
use Rattle.pfs_law_session.proofs.StepFacts.{given}
use Rattle.pfs_law_session.specs.Amounts.{AllFacts, at_first}
use Rattle.pfs_law_session.specs.Deeds.{Deed, Connecting, Starting, Ending, Quitting, Closing, Part, IsPart}
use Rattle.pfs_law_session.specs.Stints.{AreStints, parts_by, resumed}
use Rattle.pfs_rows.specs.Limits.{AreInRange}
use Rattle.pfs_rows.specs.declared.limits.Limits.{Limits}
use Rattle.pfs_session.proofs.EndFrames.{ends_undigested, starts_unplaced}
use Rattle.pfs_session.proofs.HeldAmounts.{nothing_owed}
use Rattle.pfs_session.specs.Ends.{no_numbers, amount_of}
use Rattle.pfs_session.specs.Settlements.{owed_in, owed_by_state, settle_head}
use Rattle.pfs_session.specs.Starts.{started}
use Rattle.pfs_session.specs.SessionStates.{State, fresh, nothing_held, no_place}
use Rattle.pfs_session.specs.Turns.{StartsEvent, EndsEvent, SettlesHeld, Connects, Quits, Turn, acted}
use Rattle.pfs_session.specs.declared.setup.Setup.{Setup}
use Rattle.pfs_setups.specs.SetupRows.{naming_of}
use Rattle.pfs_stat.specs.Stat.{MergeIsMonoid}
use Rattle.pfs_law_plain.proofs.UnwrittenPlaces.{are_low, freed_calls, frees_answer}
use Rattle.pfs_law_plain.proofs.PhaseStore.{left}
use Rattle.pfs_law_plain.proofs.RunRules.{ruled}
use Rattle.pfs_law_plain.specs.ActionFolds.{AreFolded, AllConnectFirst}
use Rattle.pfs_law_plain.specs.PhaseStore.{IsLeft}
use Rattle.pfs_law_plain.specs.RunRules.{IsRuled}
use Rattle.pfs_law_plain.specs.PlainJournals.{IsAlone}
use Rattle.pfs_law_plain.proofs.PlainJournals.{alone}

-- two slots, and one place of each other kind; room for one class of files, and for those that are always there
abbrev pub limits : Limits
limits = record {
  thread_instances = 2;
  accounts = 1;
  users = 1;
  hosts = 1;
  digests = 0;
  statement_stack = 2;
  mutex_classes = 0;
  rwlock_classes = 0;
  cond_classes = 0;
  file_classes = 1;
  socket_classes = 0;
  stage_classes = 0;
  statement_classes = 0;
}

pub in_range : AreInRange limits
in_range = record {
  thread_instances = omega arith;
  accounts = omega arith;
  users = omega arith;
  hosts = omega arith;
  digests = omega arith;
  statement_stack_least = omega arith;
  statement_stack = omega arith;
  mutex_classes = omega arith;
  rwlock_classes = omega arith;
  cond_classes = omega arith;
  file_classes = omega arith;
  socket_classes = omega arith;
  stage_classes = omega arith;
  statement_classes = omega arith;
}

-- the names of the built-in classes alone; users and hosts have some of them
abbrev pub names : List (List ℕ)
names = map (λ row. row.name) builtins ++ codes "transaction" ∷ []

contains_name : (rows : List Row) (row : Row) → Contains rows row → Contains (map (λ one. one.name) rows) row.name
contains_name [] row (k, within, is) = absurd (omega (arith, within))
contains_name (first ∷ rows) row (zero, within, is) = (zero, omega arith, ap (λ (z : Row). z.name) is)
contains_name (first ∷ rows) row (suc k, within, is) =
    let rest : Contains (map (λ one. one.name) rows) row.name = contains_name rows row (k, omega (arith, within), is) in
    (suc rest.0, omega (arith, rest.1), rest.2)

has_builtins : HasBuiltins names
has_builtins = record {
  rows = λ row has. Contains-append_left (map (λ one. one.name) builtins) (codes "transaction" ∷ []) row.name (contains_name builtins row has);
  transaction = Contains-push (map (λ one. one.name) builtins) (codes "transaction");
}

pub comes : ComesFrom names (builtin_of names limits)
comes = builtin limits in_range has_builtins

pub same_limits : (builtin_of names limits).limits ≡ limits
unfolding registered
same_limits = refl

-- instrumentation is on
unfoldable pub setting : Setting
setting = record {
  names = names;
  classes = builtin_of names limits;
  tables = [];
  digests = [];
  limits = limits;
  consumers = 12288;
  in_range = in_range;
  same_limits = same_limits;
  come = merely comes;
  known = known_from names (builtin_of names limits) comes;
  few_tables = omega arith;
  few_digests = omega arith;
}

-- what each word opens with: the consumers, the threads, and the classes that are there
abbrev pub flags : List ℕ
flags = 12288 ∷ (replicate 32 0 ++ 3 ∷ 3 ∷ 3 ∷ (replicate 59 0 ++ 3 ∷ replicate 64 0))

flags_are : opening_flags setting opening_objects ≡ flags
unfolding setting opening_flags registered
flags_are = refl

abbrev pub label : ℕ → ℕ → Label
label session line = record { session = session; line = line }

-- each session connects first; the first one ends then
abbrev pub change : Label → Change
change l = if l.line == 1 then (if l.session == 1 then Connect 0 1 else Connect 1 0) else Quit

-- the three classes are of waits
abbrev pub cells_by_kind : KindCells
cells_by_kind = record { waits = 0 ∷ 1 ∷ 2 ∷ []; stages = []; statements = []; transactions = 62 ∷ 63 ∷ []; digests = 0 }

-- the administration before each of the three actions
abbrev pub opening : Administration
opening = record {
  kept = nobody limits;
  words = map (word 0) flags;
  actors = opening_actors;
  objects = opening_objects;
  names = names;
  classes = (naming_of setting).classes;
  tables = [];
  cells = 0 ∷ 1 ∷ 2 ∷ 62 ∷ 63 ∷ [];
  kinds = cells_by_kind;
  actions = 0;
}

abbrev pub between : Administration
between = connected opening 1 0 1

abbrev pub last : Administration
last = connected between 2 1 0

cells_are : cells_of setting.classes ≡ 0 ∷ 1 ∷ 2 ∷ 62 ∷ 63 ∷ []
unfolding setting registered
cells_are = refl

kinds_are : kinds_of setting ≡ cells_by_kind
unfolding setting registered kinds_of cells_of_kind
kinds_are = refl

opened_is : opened setting ≡ opening
unfolding setting
opened_is =
    ap (λ (z : List ℕ). record { kept = nobody limits; words = map (word 0) z; actors = opening_actors; objects = opening_objects; names = names; classes = (naming_of setting).classes; tables = []; cells = cells_of setting.classes; kinds = kinds_of setting; actions = 0 }) flags_are
    ∙ (ap (λ (z : List ℕ). record { kept = nobody limits; words = map (word 0) flags; actors = opening_actors; objects = opening_objects; names = names; classes = (naming_of setting).classes; tables = []; cells = z; kinds = kinds_of setting; actions = 0 }) cells_are
    ∙ ap (λ (z : KindCells). record { kept = nobody limits; words = map (word 0) flags; actors = opening_actors; objects = opening_objects; names = names; classes = (naming_of setting).classes; tables = []; cells = 0 ∷ 1 ∷ 2 ∷ 62 ∷ 63 ∷ []; kinds = z; actions = 0 }) kinds_are)

first_fold : opening ≡ state_of setting change []
unfolding state_from
first_fold = sym opened_is

second_fold : between ≡ state_of setting change (label 1 1 ∷ [])
unfolding state_from
second_fold = ap (λ (z : Administration). connected z 1 0 1) (sym opened_is)

last_fold : last ≡ state_of setting change (label 1 1 ∷ label 2 1 ∷ [])
unfolding state_from
last_fold = ap (λ (z : Administration). connected (connected z 1 0 1) 2 1 0) (sym opened_is)

-- what was written first to rows that nobody had written
abbrev pub made_first : List Sign → List Made
made_first [] = []
made_first (sign ∷ signs) = made_first signs ++ record { sign = sign; version = 0; found = opening_content (row_of sign) } ∷ []

abbrev pub connect_turn : Administration → ℕ → ℕ → State → Turn
connect_turn admin user host s = record {
  step = Connects admin user host;
  calls = flagging_calls admin.words (work_of_connect admin s.number user host).flags ++ (signs_calls (made_first (work_of_connect admin s.number user host).signs) ++ []);
  entries = connect_entry (admin.actions + 1) (seat_at admin s.number user host)
      ∷ ([] ++ (signs_entries (made_first (work_of_connect admin s.number user host).signs) ++ flagging_entries admin.words (work_of_connect admin s.number user host).flags));
  after = record (acted s (connected admin s.number user host)) { place = placed_of (seat_at admin s.number user host) };
}

abbrev pub connect_part : Administration → ℕ → ℕ → State → Part
connect_part admin user host s = record { deed = Connecting admin user host; turns = connect_turn admin user host s ∷ [] }

abbrev pub done : Deed → Turn → Doing
done deed turn = record { part = record { deed = deed; turns = turn ∷ [] }; label = label 0 0; labels = []; met = None }

-- a wait of class 0 starts and ends
abbrev pub wait : Subject
wait = record { kind = kinds.Wait; class = Some 0; cell = 0; table = None; digest = None }

abbrev pub seen : Setup
seen = record { consumers = word 0 12288; thread = word 1 3; class = word 0 3; table = None }

abbrev pub first_seated : State
first_seated = (connect_turn opening 0 1 (fresh 1 2 5)).after

abbrev pub open_wait : Open
open_wait = record {
  kind = kinds.Wait;
  verdict = Attributed;
  event = record {
    session = 1;
    number = 1;
    last = 0;
    class = 0;
    link = 0;
    nesting = 0;
    parent = 0;
    start = 0;
    duration = 0;
    lock = 0;
    errors = 0;
    warnings = 0;
    affected = 0;
    sent = 0;
    examined = 0;
    ticket = 0;
    timed = true;
    read_only = false;
    class_fits = omega arith;
    link_fits = omega arith;
    nesting_fits = omega arith;
  };
  digested = false;
  placed = false;
}

abbrev pub first_waits : State
first_waits = started first_seated open_wait

abbrev pub start_turn : Turn
start_turn = record {
  step = StartsEvent wait;
  calls = Loads 33 0 3 ∷ Loads 1 1 3 ∷ Loads 0 0 12288 ∷ [];
  entries = says.Start (Some 1) Attributed (Some 0) (Some 1) (Some 0) None ∷ [];
  after = first_waits;
}

abbrev pub end_turn : Turn
end_turn = record {
  step = EndsEvent no_numbers;
  calls = Adds 129 (amount_of open_wait 0 no_numbers) (Counted 129 1) ∷ Loads 1 1 3 ∷ Loads 0 0 12288 ∷ [];
  entries = says.End (Some 1) (Some 1) (Some 0) (Some 1) ∷ says.Add 129 1 ∷ [];
  after = record first_waits { opened = record first_waits.opened { events = [] }; held = nothing_held };
}

abbrev pub close_turn : State → Turn
close_turn s = record { step = SettlesHeld; calls = []; entries = []; after = record s { held = nothing_held } }

abbrev pub first : Spell
first = record {
  phase = 0;
  session = 1;
  doings = record { part = connect_part opening 0 1 (fresh 1 2 5); label = label 1 1; labels = []; met = None }
      ∷ done (Starting wait) start_turn ∷ done (Ending no_numbers) end_turn ∷ done Closing (close_turn end_turn.after) ∷ [];
}

abbrev pub second_seated : State
second_seated = (connect_turn between 1 0 (fresh 2 2 5)).after

abbrev pub second : Spell
second = record {
  phase = 0;
  session = 2;
  doings = record { part = connect_part between 1 0 (fresh 2 2 5); label = label 2 1; labels = label 1 1 ∷ []; met = None } ∷ done Closing (close_turn second_seated) ∷ [];
}

-- the first session ends: its cells go up, of which one has counted something; newest first
abbrev pub work : Work
work = work_of_quit last 1

abbrev pub emptied : ℕ → ℕ → List ℕ → List Gift → Move
emptied from before found gifts = record { from = from; before = before; version = before + 1; found = found; gifts = gifts }

abbrev pub moves : List Move
moves = emptied 192 0 zero_words [] ∷ emptied 191 0 zero_words [] ∷ emptied 131 0 zero_words [] ∷ emptied 130 0 zero_words []
    ∷ emptied 129 1 (merged zero_words (amount_of open_wait 0 no_numbers)) (record { to = 2177; before = 0; version = 1; there = zero_words } ∷ []) ∷ []

-- what its connect wrote, and nobody wrote to the places of its rings
abbrev pub written : List Sign → ℕ → List ℕ
written [] row = []
written (Releases released ∷ signs) row = written signs row
written (Tags tagged words ∷ signs) row = if tagged == row then words else written signs row

abbrev pub next_made : Sign → Made
next_made sign =
    if nat_lt (row_of sign) 129 then record { sign = sign; version = 1; found = written (work_of_connect opening 1 0 1).signs (row_of sign) }
    else record { sign = sign; version = 0; found = opening_content (row_of sign) }

abbrev pub made_next : List Sign → List Made
made_next [] = []
made_next (sign ∷ signs) = made_next signs ++ next_made sign ∷ []

abbrev pub back : State
back = resumed (close_turn end_turn.after).after

abbrev pub settled : State
settled = record back { held = nothing_held }

abbrev pub quit_turn : Turn
quit_turn = record {
  step = Quits last;
  calls = flagging_calls last.words work.flags ++ (signs_calls (made_next work.signs) ++ moves_calls moves);
  entries = says.Act 3 ∷ (moves_entries moves ++ (signs_entries (made_next work.signs) ++ flagging_entries last.words work.flags));
  after = record (acted settled (has_quit last 1)) { place = no_place };
}

abbrev pub third : Spell
third = record {
  phase = 1;
  session = 1;
  doings = record {
    part = record { deed = Quitting last; turns = quit_turn ∷ close_turn back ∷ [] };
    label = label 1 2;
    labels = label 1 1 ∷ label 2 1 ∷ [];
    met = None;
  } ∷ done Closing (close_turn quit_turn.after) ∷ [];
}

abbrev pub spells : List Spell
spells = first ∷ second ∷ third ∷ []

first_connects : IsPart (fresh 1 2 5) (connect_part opening 0 1 (fresh 1 2 5))
first_connects = record {
  are_turns = ((record { moves = []; made = made_first (work_of_connect opening 1 0 1).signs; are_moves = refl; signs_are = refl; calls_are = refl; entries_are = refl }, refl), tt);
  steps_are = refl;
}

wait_starts : IsPart first_seated (record { deed = Starting wait; turns = start_turn ∷ [] })
wait_starts = record {
  are_turns = (
    starts_unplaced _ _ _ _ _ (record {
      seen = Some seen;
      what = open_wait;
      loaded = record { there = refl; table_is = refl };
      calls_are = refl;
      opened = record { kind = refl; verdict_is = refl; session_is = refl; number = refl; class = refl; digested_is = refl; placed_is = refl; link = refl; lies_in = refl; start = refl; timed_is = refl; read_only = refl; unfilled = record { last = refl; duration = refl; numbers = refl; ticket = refl } };
      entries_are = refl;
      after_is = refl;
    }) refl,
    tt,
  );
  steps_are = refl;
}

wait_ends : IsPart first_waits (record { deed = Ending no_numbers; turns = end_turn ∷ [] })
wait_ends = record {
  are_turns = (
    record {
      what = open_wait;
      others = [];
      innermost = refl;
      ends = ends_undigested first_waits 0 open_wait [] no_numbers _ _ end_turn.after refl refl
          (record { consumers = word 0 12288; thread = word 1 3; answer = Counted 129 1; row_is = refl; calls_are = refl; entries_are = refl; after_is = refl });
    },
    tt,
  );
  steps_are = refl;
}

closes : (s : State) → s.held ≡ nothing_held → IsPart s (record { deed = Closing; turns = close_turn s ∷ [] })
closes s h =
    let none : owed_by_state s ≡ [] = ap (λ z. owed_in s.place.thread z) h ∙ nothing_owed s.place.thread in
    record {
      are_turns = (record { unseated = λ e. h; paid = []; owed_are = sym none; calls_are = refl; entries_are = ap (λ z. settle_head z ++ []) (sym none); after_is = refl }, tt);
      steps_are = refl;
    }

second_connects : IsPart (fresh 2 2 5) (connect_part between 1 0 (fresh 2 2 5))
second_connects = record {
  are_turns = ((record { moves = []; made = made_first (work_of_connect between 2 1 0).signs; are_moves = refl; signs_are = refl; calls_are = refl; entries_are = refl }, refl), tt);
  steps_are = refl;
}

moves_are : AreMoves work.moves moves
moves_are = (ask 129 (2177 ∷ []) ∷ ask 130 (2178 ∷ []) ∷ ask 131 (2179 ∷ []) ∷ ask 191 (2239 ∷ []) ∷ [], (ask 192 (2240 ∷ []), (refl, (record { from_is = refl; next = refl; gifts_are = tt; to_is = refl }, (ask 129 (2177 ∷ []) ∷ ask 130 (2178 ∷ []) ∷ ask 131 (2179 ∷ []) ∷ [], (ask 191 (2239 ∷ []), (refl, (record { from_is = refl; next = refl; gifts_are = tt; to_is = refl }, (ask 129 (2177 ∷ []) ∷ ask 130 (2178 ∷ []) ∷ [], (ask 131 (2179 ∷ []), (refl, (record { from_is = refl; next = refl; gifts_are = tt; to_is = refl }, (ask 129 (2177 ∷ []) ∷ [], (ask 130 (2178 ∷ []), (refl, (record { from_is = refl; next = refl; gifts_are = tt; to_is = refl }, ([], (ask 129 (2177 ∷ []), (refl, (record { from_is = refl; next = refl; gifts_are = (refl, tt); to_is = refl }, refl))))))))))))))))))))

first_quits : IsPart back (record { deed = Quitting last; turns = quit_turn ∷ close_turn back ∷ [] })
unfolding free_rows
first_quits = record {
  are_turns = (
    (record { moves = moves; made = made_next work.signs; are_moves = moves_are; signs_are = refl; calls_are = refl; entries_are = refl }, refl),
    (closes back refl).are_turns,
  );
  steps_are = refl;
}

are_stints : AreStints 2 (λ session. 5) (stints_of spells)
are_stints = (
  omega arith,
  record {
    are_parts = (first_connects, (wait_starts, (wait_ends, (closes end_turn.after refl, tt))));
    may = ((refl, refl, refl, omega arith), ((refl, record { cell = λ class e. inl (cc) }), (refl, (tt, tt))));
  },
  (
    omega arith,
    record { are_parts = (second_connects, (closes second_seated refl, tt)); may = ((refl, refl, refl, omega arith), (tt, tt)) },
    (omega arith, record { are_parts = (first_quits, (closes quit_turn.after refl, tt)); may = ((refl, refl), (tt, tt)) }, tt),
  ),
)

pub are_spells : AreSpells 2 (λ session. 5) spells
are_spells = record { stints = are_stints; entered = (((refl, refl), (tt, (tt, (tt, tt)))), (((refl, refl), (tt, tt)), (((refl, refl), (tt, tt)), tt))) }

pub are_folded : AreFolded setting change spells
are_folded = (((first_fold, refl), (tt, (tt, (tt, tt)))), (((second_fold, refl), (tt, tt)), (((last_fold, refl), (tt, tt)), tt)))

pub connect_first : AllConnectFirst spells
connect_first = ((refl, (tt, (tt, (tt, tt)))), ((refl, (tt, tt)), ((tt, (tt, tt)), tt)))

-- all calls but the last ones, which release the places of the first session's rings, turn its thread off and end its
-- quit
abbrev former_calls : List Call
former_calls = drop 114 (calls_of spells)

former_low : are_low (ops_of former_calls) ≡ true
unfolding free_rows ops_of
former_low = refl

former_answer : AllAnswer flags former_calls
unfolding free_rows ops_of sets_of slot_after word_after labels_after
former_answer = (((omega arith, omega arith), refl, refl), (((omega arith, omega arith), refl, refl, refl), (((omega arith, omega arith), refl, refl), (((omega arith, omega arith), refl, refl, refl), (((omega arith, omega arith), refl, refl), (((omega arith, omega arith), refl, refl, refl), (((omega arith, omega arith), refl, refl), (((omega arith, omega arith), refl, refl, refl), (((omega arith, omega arith), refl, refl), (((omega arith, omega arith), refl, refl, refl), (((omega arith, omega arith), refl, refl), (((omega arith, omega arith), refl, refl, refl), (((omega arith, omega arith), refl, refl), (((omega arith, omega arith), refl, refl, refl), (((omega arith, omega arith), refl, refl), (((omega arith, omega arith), refl, refl, refl), (((omega arith, omega arith), refl, refl), (((omega arith, omega arith), refl, refl, refl), (((omega arith, omega arith), refl, refl), (((omega arith, omega arith), refl, refl, refl), ((refl, refl), (refl, ((omega arith, refl), (((omega arith, omega arith), refl, refl), (((omega arith, omega arith), refl, refl, refl), ((refl, refl), (((omega arith, omega arith), refl, refl, refl), ((omega arith, refl), ((omega arith, refl), ((omega arith, refl), ((omega arith, refl), ((omega arith, refl), (refl, ((omega arith, refl), (((omega arith, omega arith), refl, refl), (((omega arith, omega arith), refl, refl, refl), (((omega arith, omega arith), refl, refl), (((omega arith, omega arith), refl, refl, refl), (((omega arith, omega arith), refl, refl), (((omega arith, omega arith), refl, refl, refl), (((omega arith, omega arith), refl, refl), (((omega arith, omega arith), refl, refl, refl), ((refl, refl), tt)))))))))))))))))))))))))))))))))))))))))))

freed_answer : AllAnswer flags (freed_calls 56 ++ former_calls)
freed_answer = frees_answer flags 56 former_calls (omega arith) former_low former_answer

calls_are : calls_of spells ≡ Leaves ∷ Sets 1 0 2 ∷ (freed_calls 56 ++ former_calls)
unfolding free_rows
calls_are = refl

quit_ends : Answers flags (Sets 1 0 2 ∷ (freed_calls 56 ++ former_calls)) Leaves
unfolding free_rows ops_of slot_after
quit_ends = refl

thread_off : Answers flags (freed_calls 56 ++ former_calls) (Sets 1 0 2)
unfolding free_rows sets_of word_after
thread_off = (omega arith, refl)

two_more : (x y : Call) (calls rest : List Call) → calls ≡ x ∷ y ∷ rest → Answers flags (y ∷ rest) x → Answers flags rest y → AllAnswer flags rest → AllAnswer flags calls
two_more x y calls rest e a b c = subst (AllAnswer flags) (sym e) (a, (b, c))

answer_so : AllAnswer flags (calls_of spells)
answer_so = two_more Leaves (Sets 1 0 2) (calls_of spells) (freed_calls 56 ++ former_calls) calls_are quit_ends thread_off freed_answer

pub answers : AllAnswer (opening_flags setting opening_objects) (calls_of spells)
answers = subst (λ z. AllAnswer z (calls_of spells)) (sym flags_are) answer_so

-- their facts are those of their steps
abbrev pub facts : ℕ → ℕ → Facts
facts session = (given (parts_by session (stints_of spells))).0

have_facts : (session : ℕ) → AllFacts (facts session) at_first (parts_by session (stints_of spells))
have_facts session = (given (parts_by session (stints_of spells))).1

-- so their journals have in common what the law of sessions one after another says
pub worked_alone : IsAlone 2 (opening_flags setting opening_objects) (stints_of spells)
worked_alone = alone (opening_flags setting opening_objects) 2 (λ session. 5) spells are_spells answers

-- they keep the rules of a run, and the first phase leaves the store as the other law says
pub worked : MergeIsMonoid → IsRuled setting change facts spells
unfolding setting
worked m = ruled m setting change facts (λ session. 5) spells are_spells answers are_folded connect_first have_facts

pub worked_left : IsLeft (opening_flags setting opening_objects) 0 (first ∷ second ∷ []) spells
worked_left = left (opening_flags setting opening_objects) 2 (λ session. 5) 0 (first ∷ second ∷ []) (third ∷ []) are_spells answers (omega arith, (omega arith, tt)) (omega arith, tt)
