-- Each line of a session ends two events at most, so a block says of few digests that they were lost.
use Rattle.std.proofs.Common.{ℕ, ◌≤◌, ◌*◌, Bool, true, false, cond, List, [], ◌∷◌, length, Option, Some, None, refl, ap, length-append, arith}
use Rattle.pfs_law_script.specs.Course.{asks_of}
use Rattle.pfs_play.specs.Errands.{AreFor}
use Rattle.pfs_law_report.proofs.DigestLosses.{behind_all, ends_at, query_none, step_none, rings_none, sum_of, sum_then, unplaced_few, unplaced_then}
use Rattle.pfs_law_report.specs.LostCounts.{lost_digests, unplaced_in}
use Rattle.pfs_event.specs.Verdicts.{is_let_through}
use Rattle.pfs_event.specs.declared.entry.Entry.{Entry}
use Rattle.pfs_event.specs.declared.open.Open.{Open}
use Rattle.pfs_levels.specs.Calls.{Call}
use Rattle.pfs_model.specs.JournalCuts.{joined}
use Rattle.pfs_model.specs.Shapes.{is_stage}
use Rattle.pfs_law_session.proofs.RingPuts.{rings_of}
use Rattle.pfs_law_session.specs.Deeds.{Deed, Connecting, Starting, Staging, StageEnding, Ending, Spending, Quitting, Truncating, Changing, Showing, Querying, Refusing, Closing, Part, part_entries, steps_for}
use Rattle.pfs_law_session.specs.JournalLaws.{AreParts, entries_of}
use Rattle.pfs_script.specs.declared.blocks.BlockLine.{BlockLine}
use Rattle.pfs_script.specs.declared.blocks.Connect.{Connect}
use Rattle.pfs_session.specs.Ends.{EndsIn, EndsAdded, DigestsIn, no_numbers}
use Rattle.pfs_session.specs.SessionStates.{State}
use Rattle.pfs_session.specs.Turns.{Step, StartsEvent, EndsEvent, Spends, SettlesHeld, Connects, Quits, Truncates, Changes, Inquires, Does, Turn, AreTurns, state_after, stage_ends, steps_of, turns_entries}
use Rattle.pfs_session.specs.declared.events.Numbers.{Numbers}
use Rattle.pfs_seats.proofs.LostEventBounds.{block_short}

digest_long : (b : Bool) (s : State) (slot : ℕ) (what : Open) (numbers : Numbers) (calls : List Call) (entries : List Entry) (after : State) → DigestsIn b s slot what numbers calls entries after → length entries ≤ 1
digest_long false s slot what numbers calls entries after d = let e = ap length d.entries_are in omega (arith, e)
digest_long true s slot what numbers calls entries after d = let e = ap length d.entries_are in omega (arith, e)

added_long : (s : State) (slot : ℕ) (what : Open) (others : List Open) (numbers : Numbers) (calls : List Call) (entries : List Entry) (after : State) → EndsAdded s slot what others numbers calls entries after → length entries ≤ 3
added_long s slot what others numbers calls entries after x =
    let all = ap length x.entries_are in
    let both = length-append x.counted_entries x.digested_entries in
    let counted = ap length x.counts.entries_are in
    omega (arith, all, both, counted, digest_long what.digested x.between slot what numbers x.digested_calls x.digested_entries after x.digests)

-- entries of puts, behind those, say it of none
ends_few : (ends : Bool) (s : State) (slot : Option ℕ) (through : Bool) (what : Open) (others : List Open) (numbers : Numbers) (calls : List Call) (entries : List Entry) (after : State) → EndsIn s slot through what others numbers calls entries after
    → unplaced_in ends entries ≤ 3
ends_few ends s slot false what others numbers calls entries after x = let e = ap length x.entries_are in omega (arith, e, unplaced_few ends entries)
ends_few ends s None true what others numbers calls entries after x = absurd x
ends_few ends s (Some slot) true what others numbers calls entries after x =
    let all = ap (unplaced_in ends) x.entries_are in
    let both = unplaced_then ends x.added_entries x.ring_entries in
    let none = rings_none (behind_all ends x.added_entries) x.ring_entries (rings_of x.among slot what numbers _ _ x.ring_calls x.ring_entries after x.puts) in
    omega (arith, all, both, none, unplaced_few ends x.added_entries, added_long s slot what others numbers x.added_calls x.added_entries x.among x.adds)

step_few : (ends : Bool) (s : State) (step : Step) (calls : List Call) (entries : List Entry) (after : State) → Does s step calls entries after → unplaced_in ends entries ≤ 3 * ends_at step
step_few ends s (EndsEvent numbers) calls entries after d =
    omega (arith, ends_few ends s s.place.thread (is_let_through d.what.verdict) d.what d.others numbers calls entries after d.ends)
step_few ends s (StartsEvent subject) calls entries after d = let e = step_none ends s (StartsEvent subject) calls entries after d refl in omega (arith, e)
step_few ends s (Spends time) calls entries after d = let e = step_none ends s (Spends time) calls entries after d refl in omega (arith, e)
step_few ends s SettlesHeld calls entries after d = let e = step_none ends s SettlesHeld calls entries after d refl in omega (arith, e)
step_few ends s (Connects admin user host) calls entries after d = let e = step_none ends s (Connects admin user host) calls entries after d refl in omega (arith, e)
step_few ends s (Quits admin) calls entries after d = let e = step_none ends s (Quits admin) calls entries after d refl in omega (arith, e)
step_few ends s (Truncates admin what) calls entries after d = let e = step_none ends s (Truncates admin what) calls entries after d refl in omega (arith, e)
step_few ends s (Changes admin what) calls entries after d = let e = step_none ends s (Changes admin what) calls entries after d refl in omega (arith, e)
step_few ends s (Inquires what) calls entries after d = let e = step_none ends s (Inquires what) calls entries after d refl in omega (arith, e)

turns_few : (ends : Bool) (s : State) (turns : List Turn) → AreTurns s turns → unplaced_in ends (turns_entries turns) ≤ 3 * sum_of ends_at (steps_of turns)
turns_few ends s [] are = omega arith
turns_few ends s (t ∷ ts) are =
    let both = unplaced_then ends (turns_entries ts) t.entries in
    let steps = sum_then ends_at (steps_of ts) (t.step ∷ []) in
    omega (arith, both, steps, turns_few ends s ts are.1, step_few (behind_all ends (turns_entries ts)) (state_after s ts) t.step t.calls t.entries t.after are.0)

stage_few : (events : List Open) → sum_of ends_at (stage_ends events) ≤ 1
stage_few [] = omega arith
stage_few (what ∷ events) = by_test (is_stage what.kind) where
  by_test : (b : Bool) → sum_of ends_at (cond b (EndsEvent no_numbers ∷ []) []) ≤ 1
  by_test true = omega arith
  by_test false = omega arith

deed_few : (s : State) (deed : Deed) → sum_of ends_at (steps_for s deed) ≤ 2
deed_few s (Connecting admin user host) = omega arith
deed_few s (Starting subject) = omega arith
deed_few s (Staging subject) = omega (arith, sum_then ends_at (stage_ends s.opened.events) (StartsEvent subject ∷ []), stage_few s.opened.events)
deed_few s StageEnding = omega (arith, sum_then ends_at (stage_ends s.opened.events) [], stage_few s.opened.events)
deed_few s (Ending numbers) = omega (arith, sum_then ends_at (stage_ends s.opened.events) (EndsEvent numbers ∷ []), stage_few s.opened.events)
deed_few s (Spending time) = omega arith
deed_few s (Quitting admin) = omega arith
deed_few s (Truncating admin what) = omega arith
deed_few s (Changing admin what) = omega arith
deed_few s (Showing admin count) = omega arith
deed_few s (Querying readings count) = omega (arith, query_none readings count)
deed_few s (Refusing error) = omega arith
deed_few s Closing = omega arith

parts_few : (ends : Bool) (s : State) (parts : List Part) → AreParts s parts → unplaced_in ends (joined (entries_of parts)) ≤ 6 * length parts
unfolding joined
parts_few ends s [] are = omega arith
parts_few ends s (p ∷ ps) are =
    let both = unplaced_then ends (part_entries p) (joined (entries_of ps)) in
    let steps = ap (sum_of ends_at) are.0.steps_are in
    omega (arith, both, steps, turns_few ends s p.turns are.0.are_turns, deed_few s p.deed, parts_few (behind_all ends (part_entries p)) (state_after s p.turns) ps are.1)

pub block_digests : (s : State) (parts : List Part) (names : Option Connect) (lines : List BlockLine) → AreParts s parts → AreFor (asks_of names lines) parts → length lines ≤ 200000 → lost_digests (joined (entries_of parts)) ≤ 1200012
block_digests s parts names lines are asked short = omega (arith, block_short parts names lines asked short, parts_few false s parts are)
