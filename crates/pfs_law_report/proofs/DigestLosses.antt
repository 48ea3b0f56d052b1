-- How many digests entries say were lost, entry by entry and line by line, and that all lines together say so of just
-- those that the journals do.
use Rattle.std.proofs.Common.{ℕ, suc, ◌≡◌, ◌+◌, ◌≤◌, Bool, true, false, cond, List, [], ◌∷◌, ◌++◌, length, Option, Some, None, refl, ap, sym, ◌∙◌, arith}
use Rattle.std.proofs.lemmas.Bool.{false≢true}
use Rattle.pfs_lemmas.proofs.Numbers.{plus_zero_first}
use Rattle.pfs_lemmas.proofs.Bools.{cond_at_most_one}
use Rattle.pfs_admin.specs.ConnectionAsks.{work_of_connect, work_of_quit, connect_entry}
use Rattle.pfs_admin.specs.SetupStatements.{reply_to, work_of_statement}
use Rattle.pfs_admin.specs.AdministrationStates.{seat_at}
use Rattle.pfs_admin.specs.declared.changes.Reply.{Reply}
use Rattle.pfs_admin.specs.declared.changes.Reply.TheVariants as replies
use Rattle.pfs_admin.specs.declared.changes.SetupStatement.{SetupStatement}
use Rattle.pfs_admin.specs.declared.changes.SetupStatement.TheVariants.{Update, Insert, Delete, Show}
use Rattle.pfs_law_plain.proofs.InnerEntries.{IsInner, AreInner, paid_same}
use Rattle.pfs_law_plain.proofs.StepNotes.{IsActed, acted, truncated_acted}
use Rattle.pfs_law_plain.specs.Spells.{Spell, parts_in, stints_of}
use Rattle.pfs_containers.specs.declared.containers.Seated.{Seated}
use Rattle.pfs_event.specs.Verdicts.{is_let_through}
use Rattle.pfs_event.specs.declared.entry.Entry.{Entry}
use Rattle.pfs_event.specs.declared.entry.Entry.TheVariants as says
use Rattle.pfs_event.specs.declared.open.Open.{Open}
use Rattle.pfs_event.specs.declared.verdict.Verdict.{Verdict}
use Rattle.pfs_levels.specs.Calls.{Call}
use Rattle.pfs_levels.specs.declared.answers.Added.{Added}
use Rattle.pfs_levels.specs.declared.answers.Added.TheVariants.{Counted, Held}
use Rattle.pfs_levels.specs.declared.answers.Word.{Word}
use Rattle.pfs_model.specs.Chains.{times}
use Rattle.pfs_model.specs.Contexts.{Context, noted, turned, after, subject_of}
use Rattle.pfs_model.specs.Contexts.{fresh as empty}
use Rattle.pfs_model.specs.JournalCuts.{joined}
use Rattle.pfs_model.specs.EntryPlaces.{Block, Placed, placed_part, placed_lines, places_behind, told_by}
use Rattle.pfs_model.specs.Shapes.{is_stage}
use Rattle.pfs_model.specs.declared.lines.Line.{Line}
use Rattle.pfs_law_session.proofs.ActionShapes.{AreAll}
use Rattle.pfs_law_session.proofs.RingPuts.{is_ring, put_ring, rings_of}
use Rattle.pfs_law_session.specs.Deeds.{Deed, Connecting, Starting, Staging, StageEnding, Ending, Spending, Quitting, Truncating, Changing, Showing, Querying, Refusing, Closing, Part, IsPart, line_of, looks, part_entries, remark, steps_for}
use Rattle.pfs_law_session.specs.JournalLaws.{AreParts, lines_of}
use Rattle.pfs_law_session.specs.JournalLaws.{entries_of as entries_of_parts}
use Rattle.pfs_law_session.specs.Stints.{blocks_of}
use Rattle.pfs_rows.specs.declared.table.Reading.{Reading}
use Rattle.pfs_rows.specs.declared.table.Reading.TheVariants as readings
use Rattle.pfs_rows.specs.declared.table.Seen.TheVariants as seen
use Rattle.pfs_law_plain.specs.RunRules.{entries_of}
use Rattle.pfs_runs.specs.PhaseFinals.{ends_events, is_digest_lost, is_unplaced}
use Rattle.pfs_session.specs.Ends.{EndsIn, EndsAdded, EndsThrough, DigestsIn, added_entry, no_numbers}
use Rattle.pfs_session.specs.Inquiries.{Inquiry, Looks, Remarks, inquiry_entry}
use Rattle.pfs_session.specs.EventPuts.{put_entries}
use Rattle.pfs_session.specs.Settlements.{Paid, owed_by, owed_by_state, paid_entries, settle_head}
use Rattle.pfs_session.specs.Starts.{start_entry}
use Rattle.pfs_session.specs.SessionStates.{State, Owed}
use Rattle.pfs_session.specs.Turns.{Step, StartsEvent, EndsEvent, Spends, SettlesHeld, Connects, Quits, Truncates, Changes, Inquires, Does, Turn, AreTurns, reply_entries, state_after, steps_of, turns_entries, stage_ends}
use Rattle.pfs_session.specs.declared.events.Numbers.{Numbers}
use Rattle.pfs_session.specs.declared.remarks.Remark.TheVariants.{Query, Rows, Refused}
use Rattle.pfs_session.specs.declared.setup.Setup.{Setup}
use Rattle.pfs_law_report.proofs.StartLosses.{times_then}
use Rattle.pfs_law_report.specs.LostCounts.{ends_behind, unplaced_in, lost_digests, journal_of}

-- numbers
regroup : (a b c : ℕ) → a + (b + c) ≡ (a + b) + c
regroup a b c = omega arith

sum_none : (a b : ℕ) → a ≡ 0 → b ≡ 0 → a + b ≡ 0
sum_none a b p q = omega (arith, p, q)

-- what additions behind all these entries bring
abbrev pub behind_all : Bool → List Entry → Bool
behind_all ends [] = ends
behind_all ends (x ∷ xs) = behind_all (ends_behind ends x) xs

pub behind_last : (ends : Bool) (xs : List Entry) (x : Entry) → behind_all ends (xs ++ x ∷ []) ≡ ends_behind (behind_all ends xs) x
behind_last ends [] x = refl
behind_last ends (y ∷ ys) x = behind_last (ends_behind ends y) ys x

pub unplaced_then : (ends : Bool) (xs ys : List Entry) → unplaced_in ends (xs ++ ys) ≡ unplaced_in ends xs + unplaced_in (behind_all ends xs) ys
unplaced_then ends [] ys = plus_zero_first (unplaced_in ends ys)
unplaced_then ends (x ∷ xs) ys =
    ap (λ z. cond (is_unplaced ends x) 1 0 + z) (unplaced_then (ends_behind ends x) xs ys)
    ∙ regroup (cond (is_unplaced ends x) 1 0) (unplaced_in (ends_behind ends x) xs) (unplaced_in (behind_all (ends_behind ends x) xs) ys)

pub unplaced_last : (ends : Bool) (xs : List Entry) (x : Entry) → unplaced_in ends (xs ++ x ∷ []) ≡ unplaced_in ends xs + cond (is_unplaced (behind_all ends xs) x) 1 0
unplaced_last ends xs x = unplaced_then ends xs (x ∷ []) ∙ ap (λ z. unplaced_in ends xs + z) (none_last (cond (is_unplaced (behind_all ends xs) x) 1 0)) where
  none_last : (n : ℕ) → n + 0 ≡ n
  none_last n = omega arith

pub unplaced_few : (ends : Bool) (xs : List Entry) → unplaced_in ends xs ≤ length xs
unplaced_few ends [] = omega arith
unplaced_few ends (x ∷ xs) = most (cond (is_unplaced ends x) 1 0) (unplaced_in (ends_behind ends x) xs) (length xs) (cond_at_most_one (is_unplaced ends x)) (unplaced_few (ends_behind ends x) xs) where
  most : (a b n : ℕ) → a ≤ 1 → b ≤ n → a + b ≤ suc n
  most a b n p q = omega (arith, p, q)

-- the same of a line, in which an event ends or not
abbrev pub brought_in : Bool → List Entry → ℕ
brought_in ends [] = 0
brought_in ends (x ∷ xs) = cond (is_unplaced ends x) 1 0 + brought_in ends xs

brought_then : (ends : Bool) (xs ys : List Entry) → brought_in ends (xs ++ ys) ≡ brought_in ends xs + brought_in ends ys
brought_then ends [] ys = plus_zero_first (brought_in ends ys)
brought_then ends (x ∷ xs) ys =
    ap (λ z. cond (is_unplaced ends x) 1 0 + z) (brought_then ends xs ys) ∙ regroup (cond (is_unplaced ends x) 1 0) (brought_in ends xs) (brought_in ends ys)

none_one : (x : Entry) → ◌≡◌ {A = ℕ} (cond (is_unplaced false x) 1 0) 0
none_one (says.Add row version) = refl
none_one (says.Held row first second) = refl
none_one _ = refl

brought_none : (xs : List Entry) → brought_in false xs ≡ 0
brought_none [] = refl
brought_none (x ∷ xs) = sum_none (cond (is_unplaced false x) 1 0) (brought_in false xs) (none_one x) (brought_none xs)

-- entries that change rows and words, behind no end
inner_one : (x : Entry) → IsInner x → ends_behind false x ≡ false
inner_one (says.Add row version) i = refl
inner_one (says.Take row version) i = refl
inner_one (says.Give row version from) i = refl
inner_one (says.Tag row version) i = refl
inner_one (says.Free row version) i = refl
inner_one (says.Set word version flags) i = refl
inner_one (says.Reply number) i = refl
inner_one (says.Error number) i = refl
inner_one _ i = absurd i

inner_none : (xs : List Entry) → AreInner xs → unplaced_in false xs ≡ 0
inner_none [] i = refl
inner_none (x ∷ xs) i =
    sum_none (cond (is_unplaced false x) 1 0) (unplaced_in (ends_behind false x) xs) (none_one x) (ap (λ b. unplaced_in b xs) (inner_one x i.0) ∙ inner_none xs i.1)

-- an action, and what is settled, say of none that it was lost
act_none : (ends : Bool) (number : ℕ) (calls : List Call) (entries : List Entry) → IsActed (says.Act number) calls entries → unplaced_in ends entries ≡ 0
act_none ends number calls entries a = ap (unplaced_in ends) a.entries_are ∙ sum_none 0 (unplaced_in false a.rest) refl (inner_none a.rest a.same.inner)

connect_none : (ends : Bool) (action : ℕ) (seat : Option Seated) (calls : List Call) (entries : List Entry) → IsActed (connect_entry action seat) calls entries → unplaced_in ends entries ≡ 0
connect_none ends action None calls entries a = ap (unplaced_in ends) a.entries_are ∙ sum_none 0 (unplaced_in false a.rest) refl (inner_none a.rest a.same.inner)
connect_none ends action (Some seat) calls entries a = ap (unplaced_in ends) a.entries_are ∙ sum_none 0 (unplaced_in false a.rest) refl (inner_none a.rest a.same.inner)

-- nor does a statement's answer, or an inquiry
reply_none : (ends : Bool) (what : SetupStatement) (reply : Reply) → unplaced_in ends (reply_entries what reply) ≡ 0
reply_none ends Show reply = refl
reply_none ends (Update update) (replies.Changed count) = refl
reply_none ends (Update update) (replies.Error error) = refl
reply_none ends (Insert insert) (replies.Changed count) = refl
reply_none ends (Insert insert) (replies.Error error) = refl
reply_none ends (Delete delete) (replies.Changed count) = refl
reply_none ends (Delete delete) (replies.Error error) = refl

inquiry_none : (ends : Bool) (what : Inquiry) → unplaced_in ends (inquiry_entry what ∷ []) ≡ 0
inquiry_none ends (Looks (readings.Slot row (seen.Whole version content))) = refl
inquiry_none ends (Looks (readings.Slot row (seen.Free word))) = refl
inquiry_none ends (Looks (readings.Slot row (seen.Busy first second))) = refl
inquiry_none ends (Looks (readings.Word word version flags)) = refl
inquiry_none ends (Remarks Query) = refl
inquiry_none ends (Remarks (Rows count)) = refl
inquiry_none ends (Remarks (Refused error)) = refl

-- where nothing is owed nothing is paid
not_empty : (xs : List Owed) (x : Owed) → (xs ++ x ∷ []) ≡ [] → ⊥
not_empty [] x e = absurd (cc)
not_empty (y ∷ ys) x e = absurd (cc)

paid_none : (ends : Bool) (ps : List Paid) → owed_by ps ≡ [] → unplaced_in ends (paid_entries ps) ≡ 0
paid_none ends [] e = refl
paid_none ends (p ∷ ps) e = absurd (not_empty (owed_by ps) p.owed e)

settle_none : (ends : Bool) (owed : List Owed) (ps : List Paid) → owed_by ps ≡ owed → unplaced_in ends (settle_head owed ++ paid_entries ps) ≡ 0
settle_none ends [] ps e = paid_none ends ps e
settle_none ends (o ∷ os) ps e = sum_none 0 (unplaced_in false (paid_entries ps)) refl (inner_none (paid_entries ps) (paid_same ps).inner)

-- nor do entries of puts, which begin and end nothing
ring_none : (ends : Bool) (e : Entry) → is_ring e ≡ true → ◌≡◌ {A = ℕ} (cond (is_unplaced ends e) 1 0) 0
ring_none ends (says.Ring row version) q = refl
ring_none ends (says.Long row version ticket) q = refl
ring_none ends (says.Busy row first second) q = refl
ring_none ends (says.Late row ticket greater) q = refl
ring_none ends _ q = absurd (false≢true q)

pub rings_none : (ends : Bool) (es : List Entry) → AreAll true is_ring es → unplaced_in ends es ≡ 0
rings_none ends [] q = refl
rings_none ends (e ∷ es) q = sum_none (cond (is_unplaced ends e) 1 0) (unplaced_in (ends_behind ends e) es) (ring_none ends e q.0) (rings_none (ends_behind ends e) es q.1)

rings_bring : (ends : Bool) (es : List Entry) → AreAll true is_ring es → brought_in ends es ≡ 0
rings_bring ends [] q = refl
rings_bring ends (e ∷ es) q = sum_none (cond (is_unplaced ends e) 1 0) (brought_in ends es) (ring_none ends e q.0) (rings_bring ends es q.1)

-- so behind others they say no more than those
rings_same : (ends : Bool) (entries es rings : List Entry) → entries ≡ es ++ rings → AreAll true is_ring rings → unplaced_in ends es ≡ brought_in true es → unplaced_in ends entries ≡ brought_in true entries
rings_same ends entries es rings e q s =
    ap (unplaced_in ends) e
    ∙ (unplaced_then ends es rings
    ∙ (ap (λ z. unplaced_in ends es + z) (rings_none (behind_all ends es) rings q)
    ∙ (ap (λ z. z + 0) s
    ∙ (ap (λ z. brought_in true es + z) (sym (rings_bring true rings q)) ∙ (sym (brought_then true es rings) ∙ ap (brought_in true) (sym e))))))

-- nor does a start
start_none : (ends : Bool) (v : Verdict) (n : ℕ) (seen : Option Setup) → unplaced_in ends (start_entry v n seen ∷ []) ≡ 0
start_none ends v n None = refl
start_none ends v n (Some seen) = refl

start_brings : (ends : Bool) (v : Verdict) (n : ℕ) (seen : Option Setup) → brought_in ends (start_entry v n seen ∷ []) ≡ 0
start_brings ends v n None = refl
start_brings ends v n (Some seen) = refl

-- an end says it of what it brings, whatever stands before it
end_same : (ends : Bool) (event last consumers thread : Option ℕ) (answer : Added) → unplaced_in ends (says.End event last consumers thread ∷ added_entry answer ∷ []) ≡ brought_in true (says.End event last consumers thread ∷ added_entry answer ∷ [])
end_same ends event last consumers thread (Counted row version) = refl
end_same ends event last consumers thread (Held row first second) = refl

both_same : (ends : Bool) (event last consumers thread : Option ℕ) (answer digest : Added)
    → unplaced_in ends (says.End event last consumers thread ∷ added_entry answer ∷ added_entry digest ∷ []) ≡ brought_in true (says.End event last consumers thread ∷ added_entry answer ∷ added_entry digest ∷ [])
both_same ends event last consumers thread (Counted row version) (Counted r v) = refl
both_same ends event last consumers thread (Counted row version) (Held r f s) = refl
both_same ends event last consumers thread (Held row first second) (Counted r v) = refl
both_same ends event last consumers thread (Held row first second) (Held r f s) = refl

same_as : (ends : Bool) (entries es : List Entry) → entries ≡ es → unplaced_in ends es ≡ brought_in true es → unplaced_in ends entries ≡ brought_in true entries
same_as ends entries es e s = ap (unplaced_in ends) e ∙ (s ∙ ap (brought_in true) (sym e))

-- the entries of an event that is counted
abbrev counted_of : State → Open → Word → Word → Added → List Entry
counted_of s what consumers thread answer = says.End (Some what.event.number) (Some s.drawn) (Some consumers.version) (Some thread.version) ∷ added_entry answer ∷ []

added_same : (ends : Bool) (s : State) (slot : ℕ) (what : Open) (others : List Open) (numbers : Numbers) (calls : List Call) (entries : List Entry) (after : State) → EndsAdded s slot what others numbers calls entries after
    → unplaced_in ends entries ≡ brought_in true entries
added_same ends s slot what others numbers calls entries after x = by what.digested x.digests where
  by : (b : Bool) → DigestsIn b x.between slot what numbers x.digested_calls x.digested_entries after → unplaced_in ends entries ≡ brought_in true entries
  by false d =
      same_as ends entries _ (x.entries_are ∙ (ap (λ z. z ++ x.digested_entries) x.counts.entries_are ∙ ap (λ z. counted_of s what x.counts.consumers x.counts.thread x.counts.answer ++ z) d.entries_are))
      (end_same ends (Some what.event.number) (Some s.drawn) (Some x.counts.consumers.version) (Some x.counts.thread.version) x.counts.answer)
  by true d =
      same_as ends entries _ (x.entries_are ∙ (ap (λ z. z ++ x.digested_entries) x.counts.entries_are ∙ ap (λ z. counted_of s what x.counts.consumers x.counts.thread x.counts.answer ++ z) d.entries_are))
      (both_same ends (Some what.event.number) (Some s.drawn) (Some x.counts.consumers.version) (Some x.counts.thread.version) x.counts.answer d.answer)

through_same : (ends : Bool) (s : State) (slot : ℕ) (what : Open) (others : List Open) (numbers : Numbers) (calls : List Call) (entries : List Entry) (after : State) → EndsThrough s slot what others numbers calls entries after
    → unplaced_in ends entries ≡ brought_in true entries
through_same ends s slot what others numbers calls entries after x =
    rings_same ends entries x.added_entries x.ring_entries x.entries_are (rings_of x.among slot what numbers _ _ x.ring_calls x.ring_entries after x.puts)
    (added_same ends s slot what others numbers x.added_calls x.added_entries x.among x.adds)

ends_same : (ends : Bool) (s : State) (slot : Option ℕ) (through : Bool) (what : Open) (others : List Open) (numbers : Numbers) (calls : List Call) (entries : List Entry) (after : State) → EndsIn s slot through what others numbers calls entries after
    → unplaced_in ends entries ≡ brought_in true entries
ends_same ends s slot false what others numbers calls entries after e = same_as ends entries _ e.entries_are refl
ends_same ends s None true what others numbers calls entries after e = absurd e
ends_same ends s (Some slot) true what others numbers calls entries after e = through_same ends s slot what others numbers calls entries after e

-- how many of these steps end an event, and how many neither start nor end one
abbrev pub ends_at : Step → ℕ
ends_at (EndsEvent numbers) = 1
ends_at (StartsEvent subject) = 0
ends_at (Spends time) = 0
ends_at SettlesHeld = 0
ends_at (Connects admin user host) = 0
ends_at (Quits admin) = 0
ends_at (Truncates admin what) = 0
ends_at (Changes admin what) = 0
ends_at (Inquires what) = 0

abbrev others_at : Step → ℕ
others_at (EndsEvent numbers) = 0
others_at (StartsEvent subject) = 0
others_at (Spends time) = 1
others_at SettlesHeld = 1
others_at (Connects admin user host) = 1
others_at (Quits admin) = 1
others_at (Truncates admin what) = 1
others_at (Changes admin what) = 1
others_at (Inquires what) = 1

abbrev pub sum_of : (Step → ℕ) → List Step → ℕ
sum_of count [] = 0
sum_of count (step ∷ steps) = count step + sum_of count steps

pub sum_then : (count : Step → ℕ) (xs ys : List Step) → sum_of count (xs ++ ys) ≡ sum_of count xs + sum_of count ys
sum_then count [] ys = plus_zero_first (sum_of count ys)
sum_then count (x ∷ xs) ys = ap (λ z. count x + z) (sum_then count xs ys) ∙ regroup (count x) (sum_of count xs) (sum_of count ys)

some_none : ◌≡◌ {A = ℕ} 1 0 → ⊥
some_none e = absurd (omega (arith, e))

pub step_none : (ends : Bool) (s : State) (step : Step) (calls : List Call) (entries : List Entry) (after : State) → Does s step calls entries after → ends_at step ≡ 0 → unplaced_in ends entries ≡ 0
step_none ends s (EndsEvent numbers) calls entries after d e = absurd (some_none e)
step_none ends s (StartsEvent subject) calls entries after d e =
    let rings : List Entry = put_entries d.current in
    ap (unplaced_in ends) d.entries_are
    ∙ (unplaced_then ends d.begun_entries rings
    ∙ sum_none (unplaced_in ends d.begun_entries) (unplaced_in (behind_all ends d.begun_entries) rings)
    (ap (unplaced_in ends) d.begins.entries_are ∙ start_none ends _ _ d.begins.seen) (rings_none (behind_all ends d.begun_entries) rings (put_ring d.current)))
step_none ends s (Spends time) calls entries after d e = ap (unplaced_in ends) d.1
step_none ends s SettlesHeld calls entries after d e = ap (unplaced_in ends) d.entries_are ∙ settle_none ends (owed_by_state s) d.paid d.owed_are
step_none ends s (Connects admin user host) calls entries after d e =
    connect_none ends (admin.actions + 1) (seat_at admin s.number user host) calls entries
    (acted (work_of_connect admin s.number user host) admin.words (connect_entry (admin.actions + 1) (seat_at admin s.number user host)) calls entries d.0)
step_none ends s (Quits admin) calls entries after d e =
    act_none ends (admin.actions + 1) calls entries (acted (work_of_quit admin s.number) admin.words (says.Act (admin.actions + 1)) calls entries d.0)
step_none ends s (Truncates admin what) calls entries after d e = act_none ends (admin.actions + 1) calls entries (truncated_acted s admin what calls entries after d)
step_none ends s (Changes admin what) calls entries after d e =
    let answer : List Entry = reply_entries what (reply_to admin what) in
    ap (unplaced_in ends) d.entries_are
    ∙ (unplaced_then ends d.changes answer
    ∙ sum_none (unplaced_in ends d.changes) (unplaced_in (behind_all ends d.changes) answer)
    (act_none ends (admin.actions + 1) calls d.changes (acted (work_of_statement admin what) admin.words (says.Act (admin.actions + 1)) calls d.changes d.works)) (reply_none (behind_all ends d.changes) what (reply_to admin what)))
step_none ends s (Inquires what) calls entries after d e = ap (unplaced_in ends) d.entries_are ∙ inquiry_none ends what

step_same : (ends : Bool) (s : State) (step : Step) (calls : List Call) (entries : List Entry) (after : State) → Does s step calls entries after → others_at step ≡ 0 → unplaced_in ends entries ≡ brought_in true entries
step_same ends s (EndsEvent numbers) calls entries after d e = ends_same ends s s.place.thread (is_let_through d.what.verdict) d.what d.others numbers calls entries after d.ends
step_same ends s (StartsEvent subject) calls entries after d e =
    rings_same ends entries d.begun_entries (put_entries d.current) d.entries_are (put_ring d.current)
    (same_as ends d.begun_entries _ d.begins.entries_are (start_none ends _ _ d.begins.seen ∙ sym (start_brings true _ _ d.begins.seen)))
step_same ends s (Spends time) calls entries after d e = absurd (some_none e)
step_same ends s SettlesHeld calls entries after d e = absurd (some_none e)
step_same ends s (Connects admin user host) calls entries after d e = absurd (some_none e)
step_same ends s (Quits admin) calls entries after d e = absurd (some_none e)
step_same ends s (Truncates admin what) calls entries after d e = absurd (some_none e)
step_same ends s (Changes admin what) calls entries after d e = absurd (some_none e)
step_same ends s (Inquires what) calls entries after d e = absurd (some_none e)

-- of none in none
left_none : (a b : ℕ) → a + (b + 0) ≡ 0 → a ≡ 0
left_none a b e = omega (arith, e)

last_none : (a b : ℕ) → a + (b + 0) ≡ 0 → b ≡ 0
last_none a b e = omega (arith, e)

turns_none : (ends : Bool) (s : State) (turns : List Turn) → AreTurns s turns → sum_of ends_at (steps_of turns) ≡ 0 → unplaced_in ends (turns_entries turns) ≡ 0
turns_none ends s [] are none = refl
turns_none ends s (t ∷ ts) are none =
    let both : sum_of ends_at (steps_of ts) + (ends_at t.step + 0) ≡ 0 = sym (sum_then ends_at (steps_of ts) (t.step ∷ [])) ∙ none in
    unplaced_then ends (turns_entries ts) t.entries
    ∙ sum_none (unplaced_in ends (turns_entries ts)) (unplaced_in (behind_all ends (turns_entries ts)) t.entries)
    (turns_none ends s ts are.1 (left_none (sum_of ends_at (steps_of ts)) (ends_at t.step) both))
    (step_none (behind_all ends (turns_entries ts)) (state_after s ts) t.step t.calls t.entries t.after are.0 (last_none (sum_of ends_at (steps_of ts)) (ends_at t.step) both))

turns_same : (ends : Bool) (s : State) (turns : List Turn) → AreTurns s turns → sum_of others_at (steps_of turns) ≡ 0 → unplaced_in ends (turns_entries turns) ≡ brought_in true (turns_entries turns)
turns_same ends s [] are none = refl
turns_same ends s (t ∷ ts) are none =
    let both : sum_of others_at (steps_of ts) + (others_at t.step + 0) ≡ 0 = sym (sum_then others_at (steps_of ts) (t.step ∷ [])) ∙ none in
    let front = turns_same ends s ts are.1 (left_none (sum_of others_at (steps_of ts)) (others_at t.step) both) in
    let last = step_same (behind_all ends (turns_entries ts)) (state_after s ts) t.step t.calls t.entries t.after are.0 (last_none (sum_of others_at (steps_of ts)) (others_at t.step) both) in
    unplaced_then ends (turns_entries ts) t.entries
    ∙ (ap (λ z. z + unplaced_in (behind_all ends (turns_entries ts)) t.entries) front
    ∙ (ap (λ z. brought_in true (turns_entries ts) + z) last ∙ sym (brought_then true (turns_entries ts) t.entries)))

-- a stage that ends neither starts an event nor does anything else
stage_none : (events : List Open) (rest : List Step) → sum_of others_at (stage_ends events ++ rest) ≡ sum_of others_at rest
stage_none [] rest = refl
stage_none (what ∷ events) rest = by_test (is_stage what.kind) where
  by_test : (b : Bool) → sum_of others_at (cond b (EndsEvent no_numbers ∷ []) [] ++ rest) ≡ sum_of others_at rest
  by_test true = sym (plus_zero_first (sum_of others_at rest))
  by_test false = refl

-- readings end none
looks_none : (readings : List Reading) (rest : List Step) → sum_of ends_at (looks readings ++ rest) ≡ sum_of ends_at rest
looks_none [] rest = refl
looks_none (reading ∷ readings) rest = sym (plus_zero_first (sum_of ends_at (looks readings ++ rest))) ∙ looks_none readings rest

pub query_none : (readings : List Reading) (count : ℕ) → sum_of ends_at (remark Query ∷ (looks readings ++ remark (Rows count) ∷ [])) ≡ 0
query_none readings count = ap (λ z. 0 + z) (looks_none readings (remark (Rows count) ∷ []))

-- so a line says it of what it brings, where an event ends in it
pub part_brings : (ends : Bool) (s : State) (p : Part) → IsPart s p → unplaced_in ends (part_entries p) ≡ brought_in (ends_events (line_of p.deed)) (part_entries p)
part_brings ends s p is = by p.deed is.steps_are where
  quiet : sum_of ends_at (steps_of p.turns) ≡ 0 → unplaced_in ends (part_entries p) ≡ brought_in false (part_entries p)
  quiet none = turns_none ends s p.turns is.are_turns none ∙ sym (brought_none (part_entries p))

  loud : sum_of others_at (steps_of p.turns) ≡ 0 → unplaced_in ends (part_entries p) ≡ brought_in true (part_entries p)
  loud none = turns_same ends s p.turns is.are_turns none

  by : (deed : Deed) → steps_of p.turns ≡ steps_for s deed → unplaced_in ends (part_entries p) ≡ brought_in (ends_events (line_of deed)) (part_entries p)
  by (Connecting admin user host) e = quiet (ap (sum_of ends_at) e)
  by (Starting subject) e = quiet (ap (sum_of ends_at) e)
  by (Staging subject) e = loud (ap (sum_of others_at) e ∙ stage_none s.opened.events (StartsEvent subject ∷ []))
  by StageEnding e = loud (ap (sum_of others_at) e ∙ stage_none s.opened.events [])
  by (Ending numbers) e = loud (ap (sum_of others_at) e ∙ stage_none s.opened.events (EndsEvent numbers ∷ []))
  by (Spending time) e = quiet (ap (sum_of ends_at) e)
  by (Quitting admin) e = quiet (ap (sum_of ends_at) e)
  by (Truncating admin what) e = quiet (ap (sum_of ends_at) e)
  by (Changing admin what) e = quiet (ap (sum_of ends_at) e)
  by (Showing admin count) e = quiet (ap (sum_of ends_at) e)
  by (Querying readings count) e = quiet (ap (sum_of ends_at) e ∙ query_none readings count)
  by (Refusing error) e = quiet (ap (sum_of ends_at) e)
  by Closing e = quiet (ap (sum_of ends_at) e)

abbrev pub brought_by : List Part → ℕ
brought_by [] = 0
brought_by (p ∷ ps) = brought_in (ends_events (line_of p.deed)) (part_entries p) + brought_by ps

parts_bring : (ends : Bool) (s : State) (ps : List Part) → AreParts s ps → unplaced_in ends (joined (entries_of_parts ps)) ≡ brought_by ps
unfolding joined
parts_bring ends s [] are = refl
parts_bring ends s (p ∷ ps) are =
    let rest : List Entry = joined (entries_of_parts ps) in
    let now : Bool = behind_all ends (part_entries p) in
    unplaced_then ends (part_entries p) rest
    ∙ (ap (λ z. z + unplaced_in now rest) (part_brings ends s p are.0)
    ∙ ap (λ z. brought_in (ends_events (line_of p.deed)) (part_entries p) + z) (parts_bring now (state_after s p.turns) ps are.1))

-- and so do the journals
part_lost : (phase session : ℕ) (line : Line) (context : Context) (es : List Entry) → times is_digest_lost (placed_part phase session line context es) ≡ brought_in (ends_events line) es
part_lost phase session line context [] = refl
part_lost phase session line context (e ∷ es) = ap (λ z. cond (is_unplaced (ends_events line) e) 1 0 + z) (part_lost phase session line (noted (subject_of line) context e) es)

block_lost : (phase session : ℕ) (context : Context) (ps : List Part) → times is_digest_lost (placed_lines phase session context (lines_of ps) (entries_of_parts ps)) ≡ brought_by ps
block_lost phase session context [] = refl
block_lost phase session context (p ∷ ps) =
    let own : List Placed = placed_part phase session (line_of p.deed) (turned context) (part_entries p) in
    let rest : List Placed = placed_lines phase session (after context (line_of p.deed) (part_entries p)) (lines_of ps) (entries_of_parts ps) in
    times_then is_digest_lost own rest
    ∙ (ap (λ z. z + times is_digest_lost rest) (part_lost phase session (line_of p.deed) (turned context) (part_entries p))
    ∙ ap (λ z. brought_in (ends_events (line_of p.deed)) (part_entries p) + z) (block_lost phase session (after context (line_of p.deed) (part_entries p)) ps))

-- spell by spell
abbrev pub all_brought : List Spell → ℕ
all_brought [] = 0
all_brought (s ∷ ss) = brought_by (parts_in s.doings) + all_brought ss

lost_behind : (earlier : List Block) (spells : List Spell) → times is_digest_lost (places_behind earlier (blocks_of (stints_of spells))) ≡ all_brought spells
unfolding places_behind
lost_behind earlier [] = refl
lost_behind earlier (s ∷ ss) =
    let parts : List Part = parts_in s.doings in
    let context : Context = told_by s.session empty earlier in
    let block : Block = record { phase = s.phase; session = s.session; lines = lines_of parts; parts = entries_of_parts parts } in
    let own : List Placed = placed_lines s.phase s.session context (lines_of parts) (entries_of_parts parts) in
    let rest : List Placed = places_behind (earlier ++ block ∷ []) (blocks_of (stints_of ss)) in
    times_then is_digest_lost own rest
    ∙ (ap (λ z. z + times is_digest_lost rest) (block_lost s.phase s.session context parts)
    ∙ ap (λ z. brought_by parts + z) (lost_behind (earlier ++ block ∷ []) ss))

pub lost_in : (spells : List Spell) → times is_digest_lost (entries_of spells) ≡ all_brought spells
lost_in spells = lost_behind [] spells

brought_last : (spells : List Spell) (spell : Spell) → all_brought (spells ++ spell ∷ []) ≡ all_brought spells + brought_by (parts_in spell.doings)
brought_last [] spell = swap (brought_by (parts_in spell.doings)) where
  swap : (n : ℕ) → n + 0 ≡ 0 + n
  swap n = omega arith
brought_last (s ∷ ss) spell =
    ap (λ z. brought_by (parts_in s.doings) + z) (brought_last ss spell) ∙ regroup (brought_by (parts_in s.doings)) (all_brought ss) (brought_by (parts_in spell.doings))

-- with one spell more there are those of its journal more
pub digests_more : (spells : List Spell) (spell : Spell) (from : State) (entries : List Entry) (before now : ℕ) → AreParts from (parts_in spell.doings) → entries ≡ journal_of spell
    → before ≡ times is_digest_lost (entries_of spells) → now ≡ before + lost_digests entries → now ≡ times is_digest_lost (entries_of (spells ++ spell ∷ []))
digests_more spells spell from entries before now are wrote was is =
    let own : lost_digests entries ≡ brought_by (parts_in spell.doings) = ap lost_digests wrote ∙ parts_bring false from (parts_in spell.doings) are in
    is
    ∙ (ap (λ z. z + lost_digests entries) (was ∙ lost_in spells)
    ∙ (ap (λ z. all_brought spells + z) own ∙ (sym (brought_last spells spell) ∙ sym (lost_in (spells ++ spell ∷ [])))))
