-- The lines of a worked run: of its two sessions with entries one finds no account, has four waits that count and a
-- statement, and quits in the second phase; the other finds no slot.
use Rattle.std.specs.Prelude.{ℕ, ◌≡◌, ◌+◌, ◌%◌, ◌^◌, ◌==◌, nat_lt, Bool, true, List, [], ◌∷◌, map, Some, None}
use Rattle.pfs_conservation.specs.ActionMoves.{moves_of}
use Rattle.pfs_conservation.specs.AdministrationFold.{Action, Connect, Quit, numbered, state_after}
use Rattle.pfs_conservation.specs.RowChains.{Added, Taken, Given, Sums, content, found_by}
use Rattle.pfs_conservation.specs.PrintedChanges.{Adds, Takes, Gives, Tagged, chain_of}
use Rattle.pfs_conservation.specs.Prints.{printed_by, prints_all}
use Rattle.pfs_conservation.specs.Removals.{removal}
use Rattle.pfs_conservation.specs.CellHolders.{Limits, opened_by, holder_of, takes_by}
use Rattle.pfs_conservation.specs.KindSummaries.{KeyThread, KeyUser, KeyHost, KeyAll, Whose, OfSession, Aside, shown_in, leads_at, covers_to}
use Rattle.pfs_model.specs.EntryPlaces.{Placed, up_to_phase}
use Rattle.pfs_runs.specs.ScriptLines.{change_in}
use Rattle.pfs_runs.specs.RunExamples.{all, phases, labels}
use Rattle.pfs_law_conservation.specs.RunActions.{labels_so_far, actions_of, names_by}
use Rattle.pfs_law_conservation.specs.KindRows.{board, kind_rows_from}
use Rattle.pfs_law_conservation.specs.RunEvents.{event_number, events_in, whose_in}
use Rattle.pfs_law_conservation.specs.KindLines.{lines_in}

-- waits count in the first two cells, statements in the next
abbrev pub is_wait : ℕ → Bool
is_wait cell = nat_lt cell 2

abbrev pub is_statement : ℕ → Bool
is_statement cell = cell == 2

-- the waits are the fourth to the seventh event that the session started, the statement is its first one
abbrev pub wait : ℕ → ℕ
wait index = event_number 1 (index + 2)

abbrev pub adds : ℕ → ℕ → ℕ → Tagged
adds row version event = record { session = 1; action = 0; row = row; version = version; kind = Adds (event ∷ []) }

abbrev pub takes : ℕ → ℕ → Tagged
takes row version = record { session = 1; action = 3; row = row; version = version; kind = Takes }

abbrev pub gives : ℕ → ℕ → ℕ → Tagged
gives row version from = record { session = 1; action = 3; row = row; version = version; kind = Gives from }

abbrev pub first_phase : List Placed
first_phase = up_to_phase 1 all

abbrev pub limits : Limits
limits = record { threads = 1; accounts = 0; users = 1; hosts = 1 }

-- the actions up to a phase
abbrev pub actions : ℕ → List Action
actions phase = actions_of (change_in phases) (labels_so_far labels (up_to_phase phase all))

abbrev pub whose : ℕ → ℕ → Whose
whose phase = whose_in (names_by (change_in phases)) (up_to_phase phase all)

-- the lines of the waits up to the second phase
abbrev pub waits : List Tagged
waits = lines_in is_wait (up_to_phase 2 all)

-- how many events there are
abbrev pub counting : Sums ℕ
counting = record { nothing = 0; merge = λ a b. (a + b) % 2 ^ 64; of_event = λ event. 1 }

abbrev pub found : ℕ → ℕ → ℕ
found = found_by counting (chain_of waits) 4

abbrev pub stands : ℕ → ℕ
stands row = content counting found (chain_of waits row)

abbrev pub WorkedNumbers : Type 0
WorkedNumbers = map wait (1 ∷ 2 ∷ 3 ∷ 4 ∷ []) ≡ 14 ∷ 18 ∷ 22 ∷ 26 ∷ []

pub record WorkedTags : Type 0 where
  -- event 2 * index + 1 of session 1, times 2
  pub numbers : WorkedNumbers
  -- the innermost wait ends first, and each counts in the thread's cell; the quit gives what it took there to the user
  -- and the host, and nothing of the cell that has counted nothing
  pub waits_are : waits
      ≡ adds 129 1 26 ∷ adds 129 2 22 ∷ adds 129 3 18 ∷ adds 129 4 14 ∷ takes 129 5 ∷ gives 4225 1 129
      ∷ gives 6273 1 129 ∷ takes 130 1 ∷ []
  pub statements_are : lines_in is_statement (up_to_phase 2 all)
      ≡ adds 131 1 2 ∷ takes 131 2 ∷ gives 4227 1 131 ∷ gives 6275 1 131 ∷ []
  pub before : lines_in is_statement first_phase ≡ adds 131 1 2 ∷ []
  -- the events, as they ended; those that were lost are none
  pub wait_events : events_in is_wait first_phase ≡ 26 ∷ 22 ∷ 18 ∷ 14 ∷ []
  pub statement_events : events_in is_statement first_phase ≡ 2 ∷ []
  -- the actions; in the third phase another session comes
  pub actions_are : actions 3 ≡ Connect 1 0 1 ∷ Connect 2 0 1 ∷ Quit 1 ∷ Connect 3 0 1 ∷ []
  pub actions_before : actions 1 ≡ Connect 1 0 1 ∷ Connect 2 0 1 ∷ []
  -- whose the first wait is: in the first phase its session has not quit
  pub whose_is : whose 2 26
      ≡ OfSession 0 0 (record {
        number = 1;
        user_name = 0;
        host_name = 1;
        account = None;
        user = Some 0;
        host = Some 0;
      }) 1 (Some 3)
  pub whose_before : whose 1 26
      ≡ OfSession 0 0 (record {
        number = 1;
        user_name = 0;
        host_name = 1;
        account = None;
        user = Some 0;
        host = Some 0;
      }) 1 None
  pub nobody : whose 2 27 ≡ Aside 0
  -- chains of rows, and what takes the first wait from its cell
  pub cell_chain : chain_of waits 129
      ≡ Added (26 ∷ []) ∷ Added (22 ∷ []) ∷ Added (18 ∷ []) ∷ Added (14 ∷ []) ∷ Taken 3 ∷ []
  pub user_chain : chain_of waits 4225 ≡ Given 3 129 ∷ []
  pub removed : removal 26 (chain_of waits 129) ≡ Some 3
  -- the quit found four waits in one cell and none in the other, and prints just what it was to move
  pub found_four : found 3 129 ≡ 4
  pub found_none : found 3 130 ≡ 0
  pub printed : printed_by waits 3
      ≡ prints_all (λ action row. nat_lt 0 (found action row))
      (moves_of (holder_of (board is_wait) (opened_by limits) (numbered (actions 3)))
      (takes_by (board is_wait) (opened_by limits) (numbered (actions 3)) 0) 3 (kind_rows_from is_wait 129 64))
  -- what the rows show then: four waits by user, by host and globally, and none by the thread, which is gone
  pub by_user : map stands (shown_in (board is_wait) (KeyUser 0) (0 ∷ []) (state_after (opened_by limits) (numbered (actions 2)) 3))
      ≡ 4 ∷ []
  pub by_host : map stands (shown_in (board is_wait) (KeyHost 1) (0 ∷ []) (state_after (opened_by limits) (numbered (actions 2)) 3))
      ≡ 4 ∷ []
  pub globally : map stands (shown_in (board is_wait) KeyAll (0 ∷ []) (state_after (opened_by limits) (numbered (actions 2)) 3))
      ≡ 4 ∷ 0 ∷ []
  pub by_thread : map stands (shown_in (board is_wait) (KeyThread 1 0) (0 ∷ []) (state_after (opened_by limits) (numbered (actions 2)) 3))
      ≡ []
  pub leads : leads_at (KeyUser 0) (0 ∷ []) (whose 2 26) ≡ true
  pub covers_thread : covers_to 0 (KeyThread 1 0) (opened_by limits) (numbered (actions 2)) 3 ≡ 3 ∷ []
  pub covers_user : covers_to 0 (KeyUser 0) (opened_by limits) (numbered (actions 2)) 3 ≡ []
