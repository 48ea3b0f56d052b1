-- Which events count for two sessions of one user, worked: the first has an account and quits; the second finds none,
-- and its TRUNCATE of the waits by host takes its row between two of its waits.
use Rattle.std.specs.Prelude.{ℕ, ◌≡◌, ◌+◌, ◌*◌, false, List, [], ◌∷◌, ◌++◌, map, Some, None}
use Rattle.pfs_conservation.specs.AdministrationFold.{Action, Connect, Quit, Truncate, Summary}
use Rattle.pfs_conservation.specs.PlaceFolds.{ByHost}
use Rattle.pfs_conservation.specs.KindSummaries.{Key, KeyThread, KeyAccount, KeyUser, KeyHost, KeyAll}
use Rattle.pfs_event.specs.declared.entry.Entry.{Entry}
use Rattle.pfs_event.specs.declared.entry.Entry.TheVariants as says
use Rattle.pfs_event.specs.declared.kind.EventKind.TheVariants as kinds
use Rattle.pfs_event.specs.declared.verdict.Verdict.{Verdict}
use Rattle.pfs_event.specs.declared.verdict.Verdict.TheVariants.{Attributed, Aside, OffClass}
use Rattle.pfs_model.specs.Contents.{Facts}
use Rattle.pfs_model.specs.EntryPlaces.{Block, places}
use Rattle.pfs_model.specs.declared.lines.Line.TheVariants as lines
use Rattle.pfs_model.specs.declared.lines.Subject.{Subject}
use Rattle.pfs_rows.specs.declared.table.TableKind.TheVariants.{Waits}
use Rattle.pfs_stat.specs.Stat.{zero_of}
use Rattle.pfs_law_conservation.specs.RunEvents.{Ended}
use Rattle.pfs_law_summaries.specs.Counts.{Past, counted_events, counted_at}

-- a wait of the class 6
abbrev pub wait : Subject
wait = record { kind = kinds.Wait; class = Some 6; cell = 6; table = None; digest = None }

abbrev pub starts : ℕ → Verdict → List Entry
starts number verdict = says.Start (Some number) verdict (Some 0) (Some 0) (Some 0) None ∷ []

abbrev pub ends : ℕ → ℕ → ℕ → List Entry
ends number row version = says.End (Some number) (Some number) (Some 0) (Some 0) ∷ says.Add row version ∷ []

-- the first session has the slot 0 and the first account, user and host; the second has the slot 1, no account, the
-- same user and another host
abbrev pub first_phase : List Block
first_phase =
    record {
      phase = 1;
      session = 1;
      lines = lines.Connect ∷ lines.Start wait ∷ lines.End ∷ [];
      parts = (says.Connect 1 (Some 0) (Some 0) (Some 0) (Some 0) ∷ []) ∷ starts 1 Attributed ∷ ends 1 135 1 ∷ [];
    }
    -- its second wait is counted aside, and its third is of a class that is off
    ∷ record {
      phase = 1;
      session = 2;
      lines =
          lines.Connect ∷ lines.Start wait ∷ lines.End ∷ lines.Start wait ∷ lines.End ∷ lines.Start wait ∷ lines.End
          ∷ [];
      parts =
          (says.Connect 2 (Some 1) None (Some 0) (Some 1) ∷ []) ∷ starts 1 Attributed ∷ ends 1 199 1 ∷ starts 2 Aside
          ∷ ends 2 8327 1 ∷ (says.Start None OffClass (Some 0) (Some 0) (Some 0) None ∷ [])
          ∷ (says.End None None None None ∷ []) ∷ [];
    }
    ∷ []

abbrev pub quitting : Block
quitting = record {
  phase = 2;
  session = 1;
  lines = lines.Quit ∷ [];
  parts = (says.Act 3 ∷ says.Take 135 2 ∷ says.Give 2183 1 135 ∷ []) ∷ [];
}

abbrev pub emptying : Block
emptying = record {
  phase = 2;
  session = 2;
  lines = lines.Start wait ∷ lines.End ∷ lines.Change ∷ lines.Start wait ∷ lines.End ∷ [];
  parts =
      starts 3 Attributed ∷ ends 3 199 2
      ∷ (says.Act 4 ∷ says.Take 199 3 ∷ says.Give 4231 1 199 ∷ says.Give 8327 2 199 ∷ says.Reply 0 ∷ [])
      ∷ starts 4 Attributed ∷ ends 4 199 4 ∷ [];
}

-- the events last 100 times the session and the position among its starts
abbrev pub facts : ℕ → ℕ → Facts
facts session index = record {
  start = 0;
  duration = 100 * session + index;
  lock = 0;
  errors = 0;
  warnings = 0;
  affected = 0;
  sent = 0;
  examined = 0;
}

abbrev pub past : List Action → List Block → Past
past actions blocks = record {
  names = λ session. record { user = 24; host = 30 + session };
  actions = actions;
  clears = λ action. false;
  entries = places blocks;
  given = record { flags = λ word version. 3; slots = λ session. None; facts = facts; info_words = λ action row. [] };
}

abbrev pub before : Past
before = past (Connect 1 24 31 ∷ Connect 2 24 32 ∷ []) first_phase

abbrev pub quit : Past
quit = past (Connect 1 24 31 ∷ Connect 2 24 32 ∷ Quit 1 ∷ []) (first_phase ++ quitting ∷ [])

abbrev pub behind : Past
behind = past (Connect 1 24 31 ∷ Connect 2 24 32 ∷ Quit 1 ∷ Truncate (Summary 0 ByHost) ∷ [])
    (first_phase ++ quitting ∷ emptying ∷ [])

-- the session of each event and its position among the session's starts
abbrev pub events_of : Past → Key → ℕ → List (ℕ × ℕ)
events_of past key cell = map (λ (one : Ended). (one.session, one.event.index)) (counted_events past Waits key cell)

pub record WorkedCounts : Type 0 where
  -- at first each attributed wait counts for its session, and for the names that this has a place for
  pub first_thread : events_of before (KeyThread 1 0) 6 ≡ (1, 0) ∷ []
  pub second_thread : events_of before (KeyThread 2 1) 6 ≡ (2, 0) ∷ []
  pub account : events_of before (KeyAccount 24 31) 6 ≡ (1, 0) ∷ []
  pub no_account : events_of before (KeyAccount 24 32) 6 ≡ []
  pub user : events_of before (KeyUser 24) 6 ≡ (1, 0) ∷ (2, 0) ∷ []
  pub first_host : events_of before (KeyHost 31) 6 ≡ (1, 0) ∷ []
  pub second_host : events_of before (KeyHost 32) 6 ≡ (2, 0) ∷ []
  -- and globally the one aside counts too, but not that of a class that is off
  pub all : events_of before KeyAll 6 ≡ (1, 0) ∷ (2, 0) ∷ (2, 1) ∷ []
  pub other_cell : events_of before KeyAll 7 ≡ []
  pub other_user : events_of before (KeyUser 25) 6 ≡ []
  -- behind the quit the first session's counts no more by thread, and by its names still
  pub left_thread : events_of quit (KeyThread 1 0) 6 ≡ []
  pub left_account : events_of quit (KeyAccount 24 31) 6 ≡ (1, 0) ∷ []
  pub stayed_thread : events_of quit (KeyThread 2 1) 6 ≡ (2, 0) ∷ []
  -- then the quit and the TRUNCATE took both rows: by thread just the last wait counts, which was added later
  pub quit_thread : events_of behind (KeyThread 1 0) 6 ≡ []
  pub emptied_thread : events_of behind (KeyThread 2 1) 6 ≡ (2, 4) ∷ []
  -- the TRUNCATE covers hosts and accounts, also where the event's row was taken by the quit before
  pub emptied_account : events_of behind (KeyAccount 24 31) 6 ≡ []
  pub emptied_host : events_of behind (KeyHost 31) 6 ≡ []
  pub other_host : events_of behind (KeyHost 32) 6 ≡ (2, 4) ∷ []
  -- and neither users nor all
  pub kept_user : events_of behind (KeyUser 24) 6 ≡ (1, 0) ∷ (2, 0) ∷ (2, 3) ∷ (2, 4) ∷ []
  pub kept_all : events_of behind KeyAll 6 ≡ (1, 0) ∷ (2, 0) ∷ (2, 1) ∷ (2, 3) ∷ (2, 4) ∷ []
  -- what they add up to
  pub user_sums : counted_at behind Waits (KeyUser 24) 6
      ≡ record zero_of { count = 4; sum = 707; min = 100; max = 204 }
  pub account_sums : counted_at behind Waits (KeyAccount 24 31) 6 ≡ zero_of
