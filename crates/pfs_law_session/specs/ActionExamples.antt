-- Two sessions of one account connect, and the first one ends: a wait that it has counted goes up to the account.
use Rattle.std.specs.Prelude.{ℕ, zero, suc, ◌≡◌, ◌<◌, ◌≤◌, ◌+◌, ◌==◌, ◌&&◌, nat_lt, if◌then◌else◌, true, List, [], ◌∷◌, ◌++◌, None, replicate}
use Rattle.pfs_admin.specs.ConnectionAsks.{work_of_connect, work_of_quit, connect_entry, placed_of}
use Rattle.pfs_admin.specs.Examples.{start}
use Rattle.pfs_admin.specs.FoldLaws.{row_of}
use Rattle.pfs_admin.specs.AdministrationStates.{connected, has_quit, seat_at}
use Rattle.pfs_admin.specs.AdministrationStates.{State as Administration}
use Rattle.pfs_admin.specs.Works.{Sign, Releases, Tags, Made, Work, signs_calls, signs_entries, flagging_calls, flagging_entries}
use Rattle.pfs_event.specs.declared.entry.Entry.TheVariants as says
use Rattle.pfs_levels.specs.RowWords.{merged, zero_words}
use Rattle.pfs_levels.specs.Moves.{Gift, Move, moves_calls, moves_entries}
use Rattle.pfs_model.specs.ActionAsks.{Asked, Did, Took, Gave, Freed, Tagged, Flagged, asked_of}
use Rattle.pfs_model.specs.Chains.{Each, times}
use Rattle.pfs_model.specs.Contents.{Given}
use Rattle.pfs_model.specs.EntryPlaces.{places}
use Rattle.pfs_law_session.specs.Amounts.{AllContentsAgree}
use Rattle.pfs_law_session.specs.Deeds.{Connecting, Quitting, Part}
use Rattle.pfs_law_session.specs.Stints.{Stint, AreStints, blocks_of, resumed}
use Rattle.pfs_session.specs.SessionStates.{State, fresh, nothing_held}
use Rattle.pfs_session.specs.SessionStates.{no_place}
use Rattle.pfs_session.specs.Turns.{Connects, Quits, SettlesHeld, Turn, acted}
use Rattle.pfs_stat.specs.Stat.{stat_of, words_of, stat_of_words}
use Rattle.pfs_law_session.specs.Demands.{Orders, asked_by, no_rows, rooms_of}
use Rattle.pfs_law_session.specs.AllActions.{IsOrdered, AreActions, all_numbers, nothing_asked, IsAsked}
use Rattle.pfs_law_session.specs.Takes.{IsSeatedStint}
use Rattle.pfs_law_session.specs.Orders.{orders_of, words_of_all}

-- the administration before each of the three actions, and what they are to do
abbrev pub second : Administration
second = connected start 1 0 1

abbrev pub third : Administration
third = connected second 2 0 1

abbrev pub first_work : Work
first_work = work_of_connect start 1 0 1

abbrev pub second_work : Work
second_work = work_of_connect second 2 0 1

abbrev pub third_work : Work
third_work = work_of_quit third 1

-- what an action writes to a row
abbrev pub written : List Sign → ℕ → List ℕ
written [] row = []
written (Releases released ∷ signs) row = written signs row
written (Tags tagged words ∷ signs) row = if tagged == row then words else written signs row

abbrev pub info_words : ℕ → ℕ → List ℕ
info_words action row =
    if action == 1 then written first_work.signs row
    else if action == 2 then written second_work.signs row
    else written third_work.signs row

-- a wait of 40
abbrev pub one_wait : List ℕ
one_wait = words_of (stat_of (record {
  timed = true;
  wait = 40;
  lock = 0;
  errors = 0;
  warnings = 0;
  affected = 0;
  sent = 0;
  examined = 0;
}))

-- the thread of the second session is written by the second action alone, its account by all three; version 5 of the
-- first one's cell has the wait, and version 4 of the account's has it too
abbrev pub content : ℕ → ℕ → List ℕ
content row version =
    if nat_lt row 129 then
    if version == 0 then replicate 16 0
    else info_words (if row == 2 then 2 else version) row
    else if (row == 129) && (version == 5) then one_wait
    else if (row == 2177) && (version == 4) then merged zero_words (stat_of_words one_wait)
    else zero_words

-- signs that were made, newest first, of rows at these versions
abbrev pub made_at : (ℕ → ℕ) → List Sign → List Made
made_at versions [] = []
made_at versions (sign ∷ signs) = made_at versions signs ++ record {
  sign = sign;
  version = versions (row_of sign);
  found = content (row_of sign) (versions (row_of sign));
} ∷ []

abbrev pub first_made : List Made
first_made = made_at (λ row. 0) first_work.signs

abbrev pub second_made : List Made
second_made = made_at (λ row. if row == 2 then 0 else 1) second_work.signs

abbrev pub third_made : List Made
third_made = made_at (λ row. if row == 1 then 1 else if nat_lt row 129 then 2 else 0) third_work.signs

abbrev pub emptied : ℕ → ℕ → List Gift → Move
emptied from before gifts = record {
  from = from;
  before = before;
  version = before + 1;
  found = content from before;
  gifts = gifts;
}

-- the first session's three cells, of which one has counted something; newest first
abbrev pub third_moves : List Move
third_moves = emptied 192 0 [] ∷ emptied 191 0 []
    ∷ emptied 129 5 (record { to = 2177; before = 3; version = 4; there = zero_words } ∷ []) ∷ []

abbrev pub state_behind : State → Administration → State
state_behind s admin = record (acted s (connected admin s.number 0 1)) {
  place = placed_of (seat_at admin s.number 0 1);
}

abbrev pub connect_turn : State → Administration → Work → List Made → Turn
connect_turn s admin work made = record {
  step = Connects admin 0 1;
  calls = flagging_calls admin.words work.flags ++ signs_calls made;
  entries = connect_entry (admin.actions + 1) (seat_at admin s.number 0 1)
      ∷ (signs_entries made ++ flagging_entries admin.words work.flags);
  after = state_behind s admin;
}

abbrev pub connect_part : State → Administration → Work → List Made → Part
connect_part s admin work made = record {
  deed = Connecting admin 0 1;
  turns = connect_turn s admin work made ∷ [];
}

abbrev pub one : State
one = fresh 1 10 8

abbrev pub two : State
two = fresh 2 10 8

-- as it goes on in the next phase
abbrev pub connected_one : State
connected_one = resumed (state_behind one start)

abbrev pub settled_one : State
settled_one = record connected_one { held = nothing_held }

abbrev pub quit_part : Part
quit_part = record {
  deed = Quitting third;
  turns = record {
    step = Quits third;
    calls = flagging_calls third.words third_work.flags ++ (signs_calls third_made ++ moves_calls third_moves);
    entries = says.Act 3 ∷ (moves_entries third_moves
        ++ (signs_entries third_made ++ flagging_entries third.words third_work.flags));
    after = record (acted settled_one (has_quit third 1)) { place = no_place };
  } ∷ record { step = SettlesHeld; calls = []; entries = []; after = settled_one } ∷ [];
}

-- both connect in phase 1, and the first one ends in phase 2
abbrev pub stints : List Stint
stints = record {
  phase = 1;
  session = 1;
  parts = connect_part one start first_work first_made ∷ [];
} ∷ record {
  phase = 1;
  session = 2;
  parts = connect_part two second second_work second_made ∷ [];
} ∷ record { phase = 2; session = 1; parts = quit_part ∷ [] } ∷ []

abbrev pub asked : ℕ → Asked
asked number =
    if 1 == number then asked_by first_work
    else if 2 == number then asked_by second_work
    else if 3 == number then asked_by third_work
    else nothing_asked

abbrev pub orders : Orders
orders = record {
  asked = asked;
  rooms = λ number. rooms_of (placed_of (if number == 1 then seat_at start 1 0 1 else seat_at second 2 0 1));
  answers = λ number. no_rows;
  counted = λ number row. row == 129;
}

abbrev pub given : Given
given = record {
  flags = λ word version. 0;
  slots = λ session. None;
  facts = λ session index. record {
    start = 0;
    duration = 0;
    lock = 0;
    errors = 0;
    warnings = 0;
    affected = 0;
    sent = 0;
    examined = 0;
  };
  info_words = info_words;
}

-- rows that are released one after another
abbrev pub freed : ℕ → ℕ → List Did
freed first zero = []
freed first (suc n) = Freed first ∷ freed (suc first) n

pub record WorkedRun : Type 0 where
  -- the premises are met: each session goes on as its last stint left it, what is done agrees with the contents and the
  -- orders, each number is that of one action, and the places are in range
  pub chained : AreStints 10 (λ session. 8) stints
  pub ordered : Each (IsOrdered orders given content) stints
  pub actions : AreActions orders.asked (all_numbers stints)
  pub seated : Each IsSeatedStint stints
  pub agreed : Each (λ stint. AllContentsAgree content stint.parts) stints
  pub few : (number : ℕ) → 0 < number → times (λ n. n == number) (all_numbers stints) ≤ 1
  -- so it is done, by these orders and by those of the parts themselves
  pub run : IsAsked orders given content (places (blocks_of stints))
  pub whole : (given : Given) → given.info_words ≡ words_of_all stints
      → IsAsked (orders_of content stints) given content (places (blocks_of stints))
  -- the wait goes up; the other two cells had counted nothing; then the infos, the 56 places of the thread's rings, and
  -- its flags
  pub quit : asked_of (orders.counted 3) (orders.asked 3)
      ≡ Took 129 ∷ Gave 2177 129 ∷ Took 191 ∷ Took 192 ∷ Freed 1 ∷ Tagged 33 ∷ Tagged 65 ∷ Tagged 97
      ∷ (freed 8450 56 ++ Flagged 1 0 ∷ [])
