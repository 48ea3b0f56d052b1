-- Worked examples: which events count in a summary row, and what it shows.
use Rattle.std.proofs.Common.{◌≡◌, refl, ℕ, cond, List, [], ◌∷◌, length, ◌==◌}
use Rattle.std.specs.Prelude.{Option, Some, None}
use Rattle.pfs_event.specs.declared.entry.Entry.TheVariants as says
use Rattle.pfs_event.specs.declared.verdict.Verdict.TheVariants.{Attributed, Aside}
use Rattle.pfs_rows.specs.declared.table.Table.{Table}
use Rattle.pfs_rows.specs.declared.table.Table.TheVariants as tables
use Rattle.pfs_rows.specs.declared.table.TableKind.TheVariants.{Waits, Statements}
use Rattle.pfs_rows.specs.declared.table.SummaryTable.TheVariants.{ByThread, ByAccount, Global}
use Rattle.pfs_stat.specs.Stat.{zero_of}
use Rattle.pfs_model.specs.declared.lines.Line.TheVariants as lines
use Rattle.pfs_model.specs.declared.lines.Opened.{Opened}
use Rattle.pfs_model.specs.Contents.{Facts, amount_by}
use Rattle.pfs_model.specs.Contexts.{fresh}
use Rattle.pfs_model.specs.EntryPlaces.{Block, Placed, places, places_behind}
use Rattle.pfs_model.specs.SummaryCounts.{action_of, Taking, first_taking, removal_of, addition, KeyThread, KeyAccount, KeyUser, KeyHost, KeyGlobal, Names, is_of_class, counted_in, counted_in_digest, summary_of}
use Rattle.pfs_model.proofs.ExampleEntries.{binlog, waiting, selecting, acted, flags_of_all}

-- an event is taken out of its cell by the first take above it, whatever stands first in the report
abbrev takings : List Taking
takings = record { action = 7; row = 135; version = 9 } ∷ record { action = 4; row = 135; version = 5 } ∷ record { action = 3; row = 135; version = 2 } ∷ record { action = 2; row = 136; version = 4 } ∷ []

first_above : action_of (first_taking 135 3 takings) ≡ Some 4
first_above = refl

not_the_first : action_of (first_taking 135 3 takings) ≡ Some 7 → ⊥
not_the_first same = cc

never_taken : action_of (first_taking 135 9 takings) ≡ None
never_taken = refl

-- TRUNCATE by thread moves an event's numbers up: it counts by account and globally still, and by thread no more
abbrev truncated : List Block
truncated = record {
  phase = 1;
  session = 1;
  lines = lines.Connect ∷ lines.Start binlog ∷ lines.End ∷ lines.Change ∷ [];
  parts =
      (says.Connect 1 (Some 0) (Some 0) (Some 0) (Some 0) ∷ says.Set 1 1 3 ∷ [])
      ∷ (says.Start (Some 1) Attributed (Some 0) (Some 1) (Some 0) None ∷ [])
      ∷ (says.End (Some 1) (Some 1) (Some 0) (Some 1) ∷ says.Add 135 1 ∷ [])
      ∷ (says.Act 2 ∷ says.Take 135 2 ∷ says.Give 2183 1 135 ∷ says.Reply 0 ∷ [])
      ∷ [];
} ∷ []

abbrev truncates_at : ℕ → Table → ℕ → Option Table
truncates_at number table action = cond (action == number) (Some table) None

abbrev names : ℕ → Names
names session = record { user = 5; host = 6 }

by_thread_none : length (counted_in (places truncated) names (truncates_at 2 (tables.Summary Waits ByThread)) 2 Waits (is_of_class 6) (KeyThread 1)) ≡ 0
unfolding places_behind
by_thread_none = refl

by_thread_before : length (counted_in (places truncated) names (truncates_at 2 (tables.Summary Waits ByThread)) 1 Waits (is_of_class 6) (KeyThread 1)) ≡ 1
unfolding places_behind
by_thread_before = refl

by_account_one : length (counted_in (places truncated) names (truncates_at 2 (tables.Summary Waits ByThread)) 2 Waits (is_of_class 6) (KeyAccount 5 6)) ≡ 1
unfolding places_behind
by_account_one = refl

globally_one : length (counted_in (places truncated) names (truncates_at 2 (tables.Summary Waits ByThread)) 2 Waits (is_of_class 6) KeyGlobal) ≡ 1
unfolding places_behind
globally_one = refl

-- An event that a session in slot 0 added to a row, with its account or without; and how many of a journal count by
-- account, by user, by host or globally behind 3 actions, of which the second truncates a table.
abbrev added : ℕ → Option ℕ → ℕ → ℕ → Opened → Placed
added session account row version event = record {
  phase = 1;
  session = session;
  line = lines.End;
  context = record fresh { slot = Some 0; account = account; user = Some 0; host = Some 0; ended = Some event };
  entry = says.Add row version;
}

abbrev by_account : Table → List Placed → ℕ
by_account table all = length (counted_in all names (truncates_at 2 table) 3 Waits (is_of_class 6) (KeyAccount 5 6))

abbrev by_user : Table → List Placed → ℕ
by_user table all = length (counted_in all names (truncates_at 2 table) 3 Waits (is_of_class 6) (KeyUser 5))

abbrev by_host : Table → List Placed → ℕ
by_host table all = length (counted_in all names (truncates_at 2 table) 3 Waits (is_of_class 6) (KeyHost 6))

abbrev globally : Table → List Placed → ℕ
globally table all = length (counted_in all names (truncates_at 2 table) 3 Waits (is_of_class 6) KeyGlobal)

-- session 2's action takes what session 1 added before it, and not what it adds behind: that was held, and counts after
-- the truncation that covers it
abbrev around : List Placed
around = added 1 (Some 0) 135 1 waiting ∷ added 1 (Some 0) 135 3 waiting ∷ acted 2 2 (says.Take 135 2) ∷ []

behind_it : by_account (tables.Summary Waits ByAccount) around ≡ 1
behind_it = refl

-- TRUNCATE by account covers neither users nor hosts, and no other kind's does
both_by_user : by_user (tables.Summary Waits ByAccount) around ≡ 2
both_by_user = refl

both_by_host : by_host (tables.Summary Waits ByAccount) around ≡ 2
both_by_host = refl

other_kind : by_account (tables.Summary Statements ByAccount) around ≡ 2
other_kind = refl

-- that of the table `accounts` covers accounts alone, and the global one all
accounts_covered : by_account tables.Accounts around ≡ 1
accounts_covered = refl

accounts_by_user : by_user tables.Accounts around ≡ 2
accounts_by_user = refl

global_by_user : by_user (tables.Summary Waits Global) around ≡ 1
global_by_user = refl

-- an event that action 3 is the first to take counts still, though action 2 covers it
abbrev taken_later : List Placed
taken_later = added 1 (Some 0) 135 1 waiting ∷ acted 1 3 (says.Take 135 2) ∷ []

taken_by : removal_of taken_later (addition 1 (record fresh { slot = Some 0 }) 135 1 waiting) ≡ Some 3
taken_by = refl

covered_before : globally (tables.Summary Waits Global) taken_later ≡ 1
covered_before = refl

-- and one that action 1 took counts no more, since action 2 covers it where its numbers went
taken_earlier : globally (tables.Summary Waits Global) (added 1 (Some 0) 135 1 waiting ∷ acted 1 1 (says.Take 135 2) ∷ []) ≡ 0
taken_earlier = refl

-- without its account's place an event leads to its user still; an event aside leads to the global row alone
no_account : by_account tables.Hosts (added 1 None 135 1 waiting ∷ []) ≡ 0
no_account = refl

no_account_by_user : by_user tables.Hosts (added 1 None 135 1 waiting ∷ []) ≡ 1
no_account_by_user = refl

aside_by_user : by_user tables.Hosts (added 1 (Some 0) 8327 1 (record waiting { verdict = Aside }) ∷ []) ≡ 0
aside_by_user = refl

aside_globally : globally tables.Hosts (added 1 (Some 0) 8327 1 (record waiting { verdict = Aside }) ∷ []) ≡ 1
aside_globally = refl

-- in a digest's row count the events that were added to it and whose digest has it, but for those that TRUNCATE of the
-- digests took
abbrev digests : List Placed
digests = added 1 (Some 0) 8386 1 selecting ∷ acted 2 2 (says.Take 8386 2) ∷ added 2 (Some 0) 8386 3 selecting ∷ added 2 (Some 0) 8387 1 selecting ∷ []

digest_truncated : length (counted_in_digest digests (truncates_at 2 tables.DigestSummary) 2 8386) ≡ 1
digest_truncated = refl

digest_before : length (counted_in_digest digests (truncates_at 2 tables.DigestSummary) 1 8386) ≡ 2
digest_before = refl

other_digest : length (counted_in_digest digests (truncates_at 2 tables.DigestSummary) 2 8387) ≡ 0
other_digest = refl

-- a summary row shows the merge of what counts there: here a wait of 5 and one of 7
abbrev facts : ℕ → ℕ → Facts
facts session index = record { start = 0; duration = cond (session == 1) 5 7; lock = 0; errors = 0; warnings = 0; affected = 0; sent = 0; examined = 0 }

abbrev two_waits : List Placed
two_waits = added 1 (Some 0) 135 1 waiting ∷ added 2 (Some 0) 199 1 waiting ∷ []

summary : summary_of (amount_by (flags_of_all 28888 3 3 3) (λ session. Some 0) facts) (counted_in two_waits names (λ action. None) 2 Waits (is_of_class 6) KeyGlobal) ≡ record zero_of { count = 2; sum = 12; min = 5; max = 7 }
summary = refl

-- and of one session's row its own alone
by_session : summary_of (amount_by (flags_of_all 28888 3 3 3) (λ session. Some 0) facts) (counted_in two_waits names (λ action. None) 2 Waits (is_of_class 6) (KeyThread 2)) ≡ record zero_of { count = 1; sum = 7; min = 7; max = 7 }
by_session = refl

-- where nothing counts it counts nothing
empty : summary_of (amount_by (flags_of_all 28888 3 3 3) (λ session. Some 0) facts) (counted_in two_waits names (λ action. None) 2 Waits (is_of_class 7) KeyGlobal) ≡ zero_of
empty = refl
