-- Each line of a session starts one event at most, so a block says of few that they were lost.
use Rattle.std.proofs.Common.{ℕ, suc, ◌≡◌, ◌≤◌, ◌+◌, Bool, true, false, List, [], ◌∷◌, ◌++◌, length, Option, Some, None, refl, ap, sym, ◌∙◌, subst, length-append, arith}
use Rattle.pfs_admin.specs.ConnectionAsks.{work_of_connect, work_of_quit}
use Rattle.pfs_admin.specs.SetupStatements.{reply_to, work_of_statement}
use Rattle.pfs_admin.specs.AdministrationStates.{State as Administration, seat_at}
use Rattle.pfs_admin.specs.Truncations.{work_of_truncation}
use Rattle.pfs_admin.specs.Works.{Work, flagging_entries, signs_entries}
use Rattle.pfs_admin.specs.declared.changes.Reply.{Reply}
use Rattle.pfs_admin.specs.declared.changes.Reply.TheVariants as replies
use Rattle.pfs_admin.specs.declared.changes.SetupStatement.{SetupStatement}
use Rattle.pfs_admin.specs.declared.changes.SetupStatement.TheVariants.{Update, Insert, Delete, Show}
use Rattle.pfs_law_script.specs.Course.{asks_of, connecting}
use Rattle.pfs_law_report.specs.LostCounts.{started}
use Rattle.pfs_law_report.proofs.StartLosses.{started_one, started_then}
use Rattle.pfs_event.specs.Verdicts.{is_let_through}
use Rattle.pfs_event.specs.declared.entry.Entry.{Entry}
use Rattle.pfs_event.specs.declared.entry.Entry.TheVariants as says
use Rattle.pfs_event.specs.declared.open.Open.{Open}
use Rattle.pfs_event.specs.declared.verdict.Verdict.{Verdict}
use Rattle.pfs_levels.specs.Calls.{Call}
use Rattle.pfs_levels.specs.Moves.{moves_entries}
use Rattle.pfs_levels.specs.declared.answers.Added.{Added}
use Rattle.pfs_levels.specs.declared.answers.Added.TheVariants.{Counted, Held}
use Rattle.pfs_levels.specs.declared.answers.Word.{Word}
use Rattle.pfs_model.specs.JournalCuts.{joined}
use Rattle.pfs_law_session.proofs.ActionShapes.{AreAll, connect_plain, quiet_plains, work_quiet}
use Rattle.pfs_law_session.proofs.RingPuts.{is_ring, put_ring, ring_plain, rings_of}
use Rattle.pfs_law_session.proofs.LinePieces.{is_plain}
use Rattle.pfs_law_session.proofs.SettlementEntries.{ArePlain, settle_plain}
use Rattle.pfs_law_session.proofs.LineEntries.{ends_by, has_stage}
use Rattle.pfs_law_session.specs.Deeds.{Deed, Connecting, Starting, Staging, StageEnding, Ending, Spending, Quitting, Truncating, Changing, Showing, Querying, Refusing, Closing, Part, looks, part_entries, remark, steps_for}
use Rattle.pfs_law_session.specs.JournalLaws.{AreParts, entries_of}
use Rattle.pfs_play.specs.Errands.{AreFor, asks_on}
use Rattle.pfs_rows.specs.declared.table.Reading.{Reading}
use Rattle.pfs_rows.specs.declared.table.Reading.TheVariants as readings
use Rattle.pfs_rows.specs.declared.table.Seen.TheVariants as seen
use Rattle.pfs_script.specs.declared.blocks.BlockLine.{BlockLine}
use Rattle.pfs_script.specs.declared.blocks.Connect.{Connect}
use Rattle.pfs_session.specs.Ends.{EndsIn, EndsAdded, EndsCounted, EndsThrough, DigestsIn, added_entry}
use Rattle.pfs_session.specs.Inquiries.{Inquiry, Looks, Remarks, inquiry_entry}
use Rattle.pfs_session.specs.EventPuts.{put_entries}
use Rattle.pfs_session.specs.Settlements.{owed_by_state}
use Rattle.pfs_session.specs.SessionStates.{State}
use Rattle.pfs_session.specs.Turns.{Step, StartsEvent, EndsEvent, Spends, SettlesHeld, Connects, Quits, Truncates, Changes, Inquires, Does, Works, Turn, AreTurns, reply_entries, state_after, stage_ends, steps_of, turns_entries}
use Rattle.pfs_session.specs.declared.events.Numbers.{Numbers}
use Rattle.pfs_session.specs.declared.remarks.Remark.TheVariants.{Query, Rows, Refused}

-- entries that start no event say of none that it was lost
plain_one : (test : Verdict → Bool) (e : Entry) → is_plain e ≡ true → started test (e ∷ []) ≡ 0
plain_one test (says.Start _ _ _ _ _ _) plain = cc
plain_one test _ plain = refl

plain_none : (test : Verdict → Bool) (es : List Entry) → ArePlain es → started test es ≡ 0
plain_none test [] plain = refl
plain_none test (e ∷ es) plain =
    let both = started_then test (e ∷ []) es in
    let one = plain_one test e plain.0 in
    let rest = plain_none test es plain.1 in
    omega (arith, both, one, rest)

-- how many events steps start
abbrev starts_in : Step → ℕ
starts_in (StartsEvent subject) = 1
starts_in (EndsEvent numbers) = 0
starts_in (Spends time) = 0
starts_in SettlesHeld = 0
starts_in (Connects admin user host) = 0
starts_in (Quits admin) = 0
starts_in (Truncates admin what) = 0
starts_in (Changes admin what) = 0
starts_in (Inquires what) = 0

abbrev starts_of : List Step → ℕ
starts_of [] = 0
starts_of (step ∷ steps) = starts_in step + starts_of steps

starts_then : (xs ys : List Step) → starts_of (xs ++ ys) ≡ starts_of xs + starts_of ys
starts_then [] ys = omega arith
starts_then (x ∷ xs) ys = omega (arith, starts_then xs ys)

added_none : (test : Verdict → Bool) (event last consumers thread : Option ℕ) (answer : Added) → started test (says.End event last consumers thread ∷ added_entry answer ∷ []) ≡ 0
added_none test event last consumers thread (Counted row version) = refl
added_none test event last consumers thread (Held row first second) = refl

counted_none : (test : Verdict → Bool) (s : State) (slot : ℕ) (what : Open) (others : List Open) (numbers : Numbers) (calls : List Call) (entries : List Entry) (after : State) → EndsCounted s slot what others numbers calls entries after
    → started test entries ≡ 0
counted_none test s slot what others numbers calls entries after e =
    ap (started test) e.entries_are ∙ added_none test (Some what.event.number) (Some s.drawn) (Some e.consumers.version) (Some e.thread.version) e.answer

answer_none : (test : Verdict → Bool) (answer : Added) → started test (added_entry answer ∷ []) ≡ 0
answer_none test (Counted row version) = refl
answer_none test (Held row first second) = refl

digest_none : (test : Verdict → Bool) (b : Bool) (s : State) (slot : ℕ) (what : Open) (numbers : Numbers) (calls : List Call) (entries : List Entry) (after : State) → DigestsIn b s slot what numbers calls entries after → started test entries ≡ 0
digest_none test false s slot what numbers calls entries after d = ap (started test) d.entries_are
digest_none test true s slot what numbers calls entries after d = ap (started test) d.entries_are ∙ answer_none test d.answer

added_none_all : (test : Verdict → Bool) (s : State) (slot : ℕ) (what : Open) (others : List Open) (numbers : Numbers) (calls : List Call) (entries : List Entry) (after : State) → EndsAdded s slot what others numbers calls entries after
    → started test entries ≡ 0
added_none_all test s slot what others numbers calls entries after e =
    let first = counted_none test s slot what others numbers e.counted_calls e.counted_entries e.between e.counts in
    let second = digest_none test what.digested e.between slot what numbers e.digested_calls e.digested_entries after e.digests in
    let both = started_then test e.counted_entries e.digested_entries in
    let all = ap (started test) e.entries_are in
    omega (arith, first, second, both, all)

-- entries of puts
rings_none : (test : Verdict → Bool) (es : List Entry) → AreAll true is_ring es → started test es ≡ 0
rings_none test es ringed = plain_none test es (all_plain es ringed) where
  all_plain : (es : List Entry) → AreAll true is_ring es → ArePlain es
  all_plain [] q = tt
  all_plain (e ∷ es) q = (ring_plain e q.0, all_plain es q.1)

through_none : (test : Verdict → Bool) (s : State) (slot : ℕ) (what : Open) (others : List Open) (numbers : Numbers) (calls : List Call) (entries : List Entry) (after : State) → EndsThrough s slot what others numbers calls entries after
    → started test entries ≡ 0
through_none test s slot what others numbers calls entries after e =
    let first = added_none_all test s slot what others numbers e.added_calls e.added_entries e.among e.adds in
    let second = rings_none test e.ring_entries (rings_of e.among slot what numbers _ _ e.ring_calls e.ring_entries after e.puts) in
    let both = started_then test e.added_entries e.ring_entries in
    let all = ap (started test) e.entries_are in
    omega (arith, first, second, both, all)

ends_none : (test : Verdict → Bool) (s after : State) (slot : Option ℕ) (through : Bool) (what : Open) (others : List Open) (numbers : Numbers) (calls : List Call) (entries : List Entry) → EndsIn s slot through what others numbers calls entries after
    → started test entries ≡ 0
ends_none test s after slot false what others numbers calls entries e = ap (started test) e.entries_are
ends_none test s after None true what others numbers calls entries e = absurd e
ends_none test s after (Some n) true what others numbers calls entries e = through_none test s n what others numbers calls entries after e

works_none : (test : Verdict → Bool) (work : Work) (words : List Word) (head : Entry) (calls : List Call) (entries : List Entry) → is_plain head ≡ true → Works work words (head ∷ []) calls entries → started test entries ≡ 0
works_none test work words head calls entries plain w =
    ap (started test) w.entries_are ∙ plain_none test (head ∷ (moves_entries w.moves ++ (signs_entries w.made ++ flagging_entries words work.flags))) (plain, quiet_plains _ (work_quiet w.moves w.made words work.flags))

reply_none : (test : Verdict → Bool) (what : SetupStatement) (reply : Reply) → started test (reply_entries what reply) ≡ 0
reply_none test Show reply = refl
reply_none test (Update update) (replies.Changed count) = refl
reply_none test (Update update) (replies.Error error) = refl
reply_none test (Insert insert) (replies.Changed count) = refl
reply_none test (Insert insert) (replies.Error error) = refl
reply_none test (Delete delete) (replies.Changed count) = refl
reply_none test (Delete delete) (replies.Error error) = refl

inquiry_none : (test : Verdict → Bool) (what : Inquiry) → started test (inquiry_entry what ∷ []) ≡ 0
inquiry_none test (Looks (readings.Slot row (seen.Whole version content))) = refl
inquiry_none test (Looks (readings.Slot row (seen.Free word))) = refl
inquiry_none test (Looks (readings.Slot row (seen.Busy first second))) = refl
inquiry_none test (Looks (readings.Word word version flags)) = refl
inquiry_none test (Remarks Query) = refl
inquiry_none test (Remarks (Rows count)) = refl
inquiry_none test (Remarks (Refused error)) = refl

step_few : (test : Verdict → Bool) (s after : State) (step : Step) (calls : List Call) (entries : List Entry) → Does s step calls entries after → started test entries ≤ starts_in step
step_few test s after (StartsEvent subject) calls entries d =
    let rings : List Entry = put_entries d.current in
    let none = rings_none test rings (put_ring d.current) in
    let both = started_then test d.begun_entries rings in
    let all = ap (started test) d.entries_are in
    let one : started test d.begun_entries ≤ 1 = subst (λ (es : List Entry). started test es ≤ 1) (sym d.begins.entries_are) (started_one test _) in
    omega (arith, none, both, all, one)
step_few test s after (EndsEvent numbers) calls entries d = let e = ends_none test s after s.place.thread (is_let_through d.what.verdict) d.what d.others numbers calls entries d.ends in omega (arith, e)
step_few test s after (Spends time) calls entries d = let e = ap (started test) d.1 in omega (arith, e)
step_few test s after SettlesHeld calls entries d = let e = ap (started test) d.entries_are ∙ plain_none test _ (settle_plain (owed_by_state s) d.paid) in omega (arith, e)
step_few test s after (Connects admin user host) calls entries d =
    let e = works_none test (work_of_connect admin s.number user host) admin.words _ calls entries (connect_plain (admin.actions + 1) (seat_at admin s.number user host)) d.0 in omega (arith, e)
step_few test s after (Quits admin) calls entries d = let e = works_none test (work_of_quit admin s.number) admin.words _ calls entries refl d.0 in omega (arith, e)
step_few test s after (Truncates admin what) calls entries d =
    let changes = works_none test (work_of_truncation admin what) admin.words _ calls d.changes refl d.works in
    let both = started_then test d.changes (says.Reply 0 ∷ []) in
    let answer = plain_one test (says.Reply 0) refl in
    let e = ap (started test) d.entries_are in
    omega (arith, changes, both, answer, e)
step_few test s after (Changes admin what) calls entries d =
    let changes = works_none test (work_of_statement admin what) admin.words _ calls d.changes refl d.works in
    let both = started_then test d.changes (reply_entries what (reply_to admin what)) in
    let answer = reply_none test what (reply_to admin what) in
    let e = ap (started test) d.entries_are in
    omega (arith, changes, both, answer, e)
step_few test s after (Inquires what) calls entries d = let e = ap (started test) d.entries_are ∙ inquiry_none test what in omega (arith, e)

turns_few : (test : Verdict → Bool) (s : State) (turns : List Turn) → AreTurns s turns → started test (turns_entries turns) ≤ starts_of (steps_of turns)
turns_few test s [] are = omega arith
turns_few test s (turn ∷ turns) are =
    let both = started_then test (turns_entries turns) turn.entries in
    let steps = starts_then (steps_of turns) (turn.step ∷ []) in
    omega (arith, both, steps, turns_few test s turns are.1, step_few test (state_after s turns) turn.after turn.step turn.calls turn.entries are.0)

-- a stage that ends starts no event
stage_by : (events : List Open) (b : Bool) → has_stage events ≡ b → starts_of (stage_ends events) ≡ 0
stage_by events true has = ap starts_of (ends_by events true has)
stage_by events false has = ap starts_of (ends_by events false has)

stage_none : (events : List Open) → starts_of (stage_ends events) ≡ 0
stage_none events = stage_by events (has_stage events) refl

looks_none : (readings : List Reading) → starts_of (looks readings) ≡ 0
looks_none [] = refl
looks_none (reading ∷ readings) = ap (λ z. 0 + z) (looks_none readings)

deed_few : (s : State) (deed : Deed) → starts_of (steps_for s deed) ≤ 1
deed_few s (Connecting admin user host) = omega arith
deed_few s (Starting subject) = omega arith
deed_few s (Staging subject) = omega (arith, starts_then (stage_ends s.opened.events) (StartsEvent subject ∷ []), stage_none s.opened.events)
deed_few s StageEnding = omega (arith, starts_then (stage_ends s.opened.events) [], stage_none s.opened.events)
deed_few s (Ending numbers) = omega (arith, starts_then (stage_ends s.opened.events) (EndsEvent numbers ∷ []), stage_none s.opened.events)
deed_few s (Spending time) = omega arith
deed_few s (Quitting admin) = omega arith
deed_few s (Truncating admin what) = omega arith
deed_few s (Changing admin what) = omega arith
deed_few s (Showing admin count) = omega arith
deed_few s (Querying readings count) = omega (arith, starts_then (looks readings) (remark (Rows count) ∷ []), looks_none readings)
deed_few s (Refusing error) = omega arith
deed_few s Closing = omega arith

parts_few : (test : Verdict → Bool) (s : State) (parts : List Part) → AreParts s parts → started test (joined (entries_of parts)) ≤ length parts
unfolding joined
parts_few test s [] are = omega arith
parts_few test s (p ∷ ps) are =
    let both = started_then test (part_entries p) (joined (entries_of ps)) in
    let steps = ap starts_of are.0.steps_are in
    omega (arith, both, steps, turns_few test s p.turns are.0.are_turns, deed_few s p.deed, parts_few test (state_after s p.turns) ps are.1)

-- a block asks for a deed for each line, one for its connect and one for its end
for_length : (asks : List (Administration → Deed)) (parts : List Part) → AreFor asks parts → length parts ≡ length asks
for_length [] [] are = refl
for_length [] (p ∷ ps) are = absurd are
for_length (ask ∷ asks) [] are = absurd are
for_length (ask ∷ asks) (p ∷ ps) are = ap suc (for_length asks ps are.1)

connect_few : (names : Option Connect) → length (connecting names) ≤ 1
connect_few None = omega arith
connect_few (Some names) = omega arith

asks_length : (lines : List BlockLine) → length (asks_on lines) ≡ length lines
asks_length [] = refl
asks_length (line ∷ lines) = ap suc (asks_length lines)

pub block_short : (parts : List Part) (names : Option Connect) (lines : List BlockLine) → AreFor (asks_of names lines) parts → length lines ≤ 200000 → length parts ≤ 200002
block_short parts names lines are short =
    let closing : List (Administration → Deed) = (λ admin. Closing) ∷ [] in
    let count = for_length (asks_of names lines) parts are in
    let sum = length-append (connecting names) (asks_on lines ++ closing) in
    let more = length-append (asks_on lines) closing in
    omega (arith, count, sum, more, asks_length lines, connect_few names, short)

pub block_few : (test : Verdict → Bool) (s : State) (parts : List Part) (names : Option Connect) (lines : List BlockLine) → AreParts s parts → AreFor (asks_of names lines) parts → length lines ≤ 200000
    → started test (joined (entries_of parts)) ≤ 200002
block_few test s parts names lines are asked short = omega (arith, block_short parts names lines asked short, parts_few test s parts are)
