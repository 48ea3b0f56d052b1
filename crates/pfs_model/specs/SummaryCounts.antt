-- What counts in a summary row: the events that lead to its key, but for those that a covering action took.
use Rattle.std.specs.Prelude.{ℕ, zero, suc, ◌==◌, nat_lt, nat_le, Bool, true, false, ◌&&◌, ◌||◌, not, cond, List, [], ◌∷◌, ◌++◌, map, filter, fold, Option, Some, None, is_some}
use Rattle.pfs_stat.specs.declared.Stat.{Stat}
use Rattle.pfs_stat.specs.Stat.{zero_of, merge_of}
use Rattle.pfs_event.specs.declared.entry.Entry.{Entry}
use Rattle.pfs_event.specs.declared.entry.Entry.TheVariants as says
use Rattle.pfs_rows.specs.declared.table.TableKind.{TableKind}
use Rattle.pfs_rows.specs.declared.table.TableKind.TheVariants.{Waits, Stages, Statements, Transactions}
use Rattle.pfs_rows.specs.declared.table.SummaryTable.{SummaryTable}
use Rattle.pfs_rows.specs.declared.table.SummaryTable.TheVariants.{ByAccount, ByUser, ByHost, Global}
use Rattle.pfs_rows.specs.declared.table.Table.{Table}
use Rattle.pfs_rows.specs.declared.table.Table.TheVariants as tables
use Rattle.pfs_model.specs.declared.lines.Opened.{Opened}
use Rattle.pfs_model.specs.Contexts.{Context, brought}
use Rattle.pfs_model.specs.EntryPlaces.{Placed}
use Rattle.pfs_model.specs.SetupFlags.{is_attributed}
use Rattle.pfs_model.specs.EntryAsks.{digest_row}

-- an event as it was added to a row: with its session's places, and the version of the addition
pub record Addition : Type 0 where
  pub session : ℕ
  pub event : Opened
  pub account : Option ℕ
  pub user : Option ℕ
  pub host : Option ℕ
  pub row : ℕ
  pub version : ℕ

abbrev pub addition : ℕ → Context → ℕ → ℕ → Opened → Addition
addition session context row version event = record {
  session = session;
  event = event;
  account = context.account;
  user = context.user;
  host = context.host;
  row = row;
  version = version;
}

abbrev pub additions_at : ℕ → Context → Entry → List Addition
additions_at session context (says.Add row version) = map (addition session context row version) (brought context row)
additions_at session context entry = []

-- every event that was added to a row, once for each row
abbrev pub additions_of : List Placed → List Addition
additions_of [] = []
additions_of (place ∷ places) = additions_at place.session place.context place.entry ++ additions_of places

-- the rows of digests: 8385 for the texts without a place, then one for each place
abbrev pub is_digest_row : ℕ → Bool
is_digest_row row = nat_le 8385 row && nat_lt row 8450

-- a take of a row: its action, and its version
pub record Taking : Type 0 where
  pub action : ℕ
  pub row : ℕ
  pub version : ℕ

abbrev pub taking_at : ℕ → Entry → List Taking
taking_at action (says.Take row version) = record { action = action; row = row; version = version } ∷ []
taking_at action entry = []

abbrev pub takings_of : List Placed → List Taking
takings_of [] = []
takings_of (place ∷ places) = taking_at place.context.action place.entry ++ takings_of places

-- the lower of two takes, by version
abbrev pub lower_of : Taking → Option Taking → Taking
lower_of taking None = taking
lower_of taking (Some other) = cond (nat_lt other.version taking.version) other taking

abbrev pub first_taking : ℕ → ℕ → List Taking → Option Taking
first_taking row version [] = None
first_taking row version (taking ∷ takings) =
    cond ((taking.row == row) && nat_lt version taking.version)
    (Some (lower_of taking (first_taking row version takings))) (first_taking row version takings)

abbrev pub action_of : Option Taking → Option ℕ
action_of None = None
action_of (Some taking) = Some taking.action

-- the action that takes an event out of the row that it was added to: the first one that takes the row at a version
-- above the addition's
abbrev pub removal_of : List Placed → Addition → Option ℕ
removal_of all one = action_of (first_taking one.row one.version (takings_of all))

-- a row of a summary: of a session, of an account's or a user's or a host's names (as ids), of all, or of a digest's
-- place
pub data Key : Type 0 where
  KeyThread : ℕ → Key
  KeyAccount : ℕ → ℕ → Key
  KeyUser : ℕ → Key
  KeyHost : ℕ → Key
  KeyGlobal : Key

-- the ids of a session's names
pub record Names : Type 0 where
  pub user : ℕ
  pub host : ℕ

-- the event leads to the key at its level: all but the global one want an attributed event, and those of names a
-- place that the session has
abbrev pub leads_to : (ℕ → Names) → Key → Addition → Bool
leads_to names (KeyThread session) one = is_attributed one.event.verdict && (one.session == session)
leads_to names (KeyAccount user host) one =
    is_attributed one.event.verdict && is_some one.account && ((names one.session).user == user)
    && ((names one.session).host == host)
leads_to names (KeyUser user) one =
    is_attributed one.event.verdict && is_some one.user && ((names one.session).user == user)
leads_to names (KeyHost host) one =
    is_attributed one.event.verdict && is_some one.host && ((names one.session).host == host)
leads_to names KeyGlobal one = true

abbrev pub is_class : ℕ → Option ℕ → Bool
is_class class None = false
is_class class (Some other) = other == class

-- the event is one of the class's, added to a cell
abbrev pub is_of_class : ℕ → Addition → Bool
is_of_class class one = is_class class one.event.subject.class && not (is_digest_row one.row)

-- and one of those that a cell has: READ WRITE and READ ONLY transactions have one each
abbrev pub is_of_cell : ℕ → Addition → Bool
is_of_cell cell one = (one.event.subject.cell == cell) && not (is_digest_row one.row)

abbrev pub is_same_kind : TableKind → TableKind → Bool
is_same_kind Waits Waits = true
is_same_kind Stages Stages = true
is_same_kind Statements Statements = true
is_same_kind Transactions Transactions = true
is_same_kind _ _ = false

-- TRUNCATE of a summary at this level empties cells at the key's level, or below it
abbrev pub covers_level : Key → SummaryTable → Bool
covers_level (KeyThread session) level = true
covers_level (KeyAccount user host) ByAccount = true
covers_level (KeyAccount user host) ByUser = true
covers_level (KeyAccount user host) ByHost = true
covers_level (KeyAccount user host) Global = true
covers_level (KeyUser user) ByUser = true
covers_level (KeyUser user) Global = true
covers_level (KeyHost host) ByHost = true
covers_level (KeyHost host) Global = true
covers_level KeyGlobal Global = true
covers_level _ _ = false

-- TRUNCATE of these tables covers an event at the key of a kind's summary. By thread every take of the event's cell
-- does, a quit's too.
abbrev pub covers : Key → TableKind → Option Table → Bool
covers (KeyThread session) kind table = true
covers key kind (Some (tables.Summary other level)) = is_same_kind kind other && covers_level key level
covers (KeyAccount user host) kind (Some tables.Accounts) = true
covers (KeyAccount user host) kind (Some tables.Users) = true
covers (KeyAccount user host) kind (Some tables.Hosts) = true
covers (KeyUser user) kind (Some tables.Users) = true
covers (KeyHost host) kind (Some tables.Hosts) = true
covers key kind table = false

-- one of the actions from this number up to n passes the test
abbrev pub some_action : (ℕ → Bool) → ℕ → ℕ → Bool
some_action test from zero = false
some_action test from (suc n) = (nat_le from (suc n) && test (suc n)) || some_action test from n

-- an event stays where no action takes it, or none from then on up to n covers
abbrev pub stays_counted : (ℕ → Bool) → ℕ → Option ℕ → Bool
stays_counted covering n None = true
stays_counted covering n (Some first) = not (some_action covering first n)

-- the events of a class, or of a cell, that count in a summary row after n actions; `truncates` says which table an
-- action truncates, if any
abbrev pub counted_in : List Placed → (ℕ → Names) → (ℕ → Option Table) → ℕ → TableKind → (Addition → Bool) → Key
    → List Addition
counted_in all names truncates n kind test key =
    filter (λ one. test one && leads_to names key one
    && stays_counted (λ action. covers key kind (truncates action)) n (removal_of all one)) (additions_of all)

-- and in a digest's row, by its row's number: those whose digest has that row
abbrev pub is_digest_summary : Option Table → Bool
is_digest_summary (Some tables.DigestSummary) = true
is_digest_summary _ = false

abbrev pub counted_in_digest : List Placed → (ℕ → Option Table) → ℕ → ℕ → List Addition
counted_in_digest all truncates n row =
    filter (λ one. (one.row == row) && (digest_row one.event.subject.digest == row)
    && stays_counted (λ action. is_digest_summary (truncates action)) n (removal_of all one)) (additions_of all)

-- the numbers of a summary row: what the events that count there add, merged
abbrev pub summary_of : (ℕ → Opened → Stat) → List Addition → Stat
summary_of amount counted = fold merge_of zero_of (map (λ one. amount one.session one.event) counted)
