-- What a session writes at a step that is no action.
use Rattle.std.proofs.Common.{ℕ, ◌≡◌, Bool, true, false, List, [], ◌∷◌, ◌++◌, Option, Some, None, refl, sym, subst}
use Rattle.std.specs.Prelude.{if◌then◌else◌}
use Rattle.std.proofs.lemmas.Bool.{false≢true}
use Rattle.pfs_event.specs.Verdicts.{is_let_through}
use Rattle.pfs_event.specs.declared.entry.Entry.{Entry}
use Rattle.pfs_event.specs.declared.entry.Entry.TheVariants as says
use Rattle.pfs_event.specs.declared.open.Open.{Open}
use Rattle.pfs_event.specs.declared.verdict.Verdict.{Verdict}
use Rattle.pfs_levels.specs.Calls.{Call}
use Rattle.pfs_levels.specs.declared.answers.Added.{Added}
use Rattle.pfs_levels.specs.declared.answers.Added.TheVariants.{Counted, Held}
use Rattle.pfs_model.specs.Shapes.{is_stage}
use Rattle.pfs_model.specs.declared.lines.Subject.{Subject}
use Rattle.pfs_law_session.proofs.ActionShapes.{AreAll}
use Rattle.pfs_law_session.proofs.RingPuts.{is_ring, put_ring, rings_of}
use Rattle.pfs_law_session.specs.Deeds.{Deed, Connecting, Starting, Staging, StageEnding, Ending, Spending, Quitting, Truncating, Changing, Showing, Querying, Refusing, Closing, looks, remark, steps_for}
use Rattle.pfs_rows.specs.declared.table.Reading.{Reading}
use Rattle.pfs_rows.specs.declared.table.Reading.TheVariants as readings
use Rattle.pfs_rows.specs.declared.table.Seen.TheVariants as seen
use Rattle.pfs_session.specs.Ends.{Ends, EndsIn, EndsAdded, DigestsIn, added_entry, no_numbers}
use Rattle.pfs_session.specs.Inquiries.{Inquiry, Looks, Remarks, inquiry_entry, reading_entry}
use Rattle.pfs_session.specs.declared.remarks.Remark.TheVariants as remarks
use Rattle.pfs_session.specs.Settlements.{Paid, paid_entries, pay_entries, settle_head}
use Rattle.pfs_session.specs.EventPuts.{put_entries}
use Rattle.pfs_session.specs.Starts.{Begins, start_entry}
use Rattle.pfs_session.specs.SessionStates.{State, Owed}
use Rattle.pfs_session.specs.Turns.{Step, StartsEvent, EndsEvent, Spends, SettlesHeld, Connects, Quits, Truncates, Changes, Inquires, Does, Turn, AreTurns, state_after, steps_of, turns_entries, stage_ends}
use Rattle.pfs_session.specs.declared.events.Numbers.{Numbers}
use Rattle.pfs_session.specs.declared.setup.Setup.{Setup}
use Rattle.pfs_law_session.proofs.ActionPieces.{is_calm, AreCalm, calm_then}

start_calm : (verdict : Verdict) (number : ℕ) (seen : Option Setup) → is_calm (start_entry verdict number seen) ≡ true
start_calm verdict number None = refl
start_calm verdict number (Some seen) = refl

added_calm : (answer : Added) → is_calm (added_entry answer) ≡ true
added_calm (Counted row version) = refl
added_calm (Held row first second) = refl

paid_calm : (ps : List Paid) → AreCalm (paid_entries ps)
paid_calm [] = tt
paid_calm (p ∷ ps) = calm_then (paid_entries ps) (pay_entries p) (paid_calm ps) (refl, tt)

settle_calm : (owed : List Owed) (ps : List Paid) → AreCalm (settle_head owed ++ paid_entries ps)
settle_calm [] ps = paid_calm ps
settle_calm (o ∷ os) ps = (refl, paid_calm ps)

digests_calm : (b : Bool) (s : State) (slot : ℕ) (what : Open) (numbers : Numbers) (calls : List Call) (entries : List Entry) (after : State)
    → DigestsIn b s slot what numbers calls entries after → AreCalm entries
digests_calm false s slot what numbers calls entries after d = subst AreCalm (sym d.entries_are) tt
digests_calm true s slot what numbers calls entries after d = subst AreCalm (sym d.entries_are) (added_calm d.answer, tt)

ring_calm : (e : Entry) → is_ring e ≡ true → is_calm e ≡ true
ring_calm (says.Ring row version) q = refl
ring_calm (says.Long row version ticket) q = refl
ring_calm (says.Busy row first second) q = refl
ring_calm (says.Late row ticket greater) q = refl
ring_calm _ q = absurd (false≢true q)

rings_calm : (es : List Entry) → AreAll true is_ring es → AreCalm es
rings_calm [] a = tt
rings_calm (e ∷ es) a = (ring_calm e a.0, rings_calm es a.1)

added_is_calm : (s : State) (slot : ℕ) (what : Open) (others : List Open) (numbers : Numbers) (calls : List Call) (entries : List Entry) (after : State)
    → EndsAdded s slot what others numbers calls entries after → AreCalm entries
added_is_calm s slot what others numbers calls entries after x =
    subst AreCalm (sym x.entries_are)
    (calm_then x.counted_entries x.digested_entries (subst AreCalm (sym x.counts.entries_are) (refl, (added_calm x.counts.answer, tt)))
    (digests_calm what.digested x.between slot what numbers x.digested_calls x.digested_entries after x.digests))

begins_calm : (s : State) (subject : Subject) (calls : List Call) (entries : List Entry) (after : State) → Begins s subject calls entries after → AreCalm entries
begins_calm s subject calls entries after b = subst AreCalm (sym b.entries_are) (start_calm _ _ b.seen, tt)

ends_calm : (s : State) (numbers : Numbers) (calls : List Call) (entries : List Entry) (after : State) → Ends s numbers calls entries after → AreCalm entries
ends_calm s numbers calls entries after e = by_case s.place.thread (is_let_through e.what.verdict) e.ends where
  by_case : (slot : Option ℕ) (b : Bool) → EndsIn s slot b e.what e.others numbers calls entries after → AreCalm entries
  by_case slot false x = subst AreCalm (sym x.entries_are) (refl, tt)
  by_case None true x = absurd x
  by_case (Some slot) true x =
      subst AreCalm (sym x.entries_are)
      (calm_then x.added_entries x.ring_entries (added_is_calm s slot e.what e.others numbers x.added_calls x.added_entries x.among x.adds)
      (rings_calm x.ring_entries (rings_of x.among slot e.what numbers _ _ x.ring_calls x.ring_entries after x.puts)))

-- all but a refusal
abbrev pub is_calm_inquiry : Inquiry → Bool
is_calm_inquiry (Looks reading) = true
is_calm_inquiry (Remarks remarks.Query) = true
is_calm_inquiry (Remarks (remarks.Rows count)) = true
is_calm_inquiry (Remarks (remarks.Refused error)) = false

reading_calm : (reading : Reading) → is_calm (reading_entry reading) ≡ true
reading_calm (readings.Slot row (seen.Whole version content)) = refl
reading_calm (readings.Slot row (seen.Free word)) = refl
reading_calm (readings.Slot row (seen.Busy first second)) = refl
reading_calm (readings.Word word version flags) = refl

inquiry_calm : (what : Inquiry) → is_calm_inquiry what ≡ true → is_calm (inquiry_entry what) ≡ true
inquiry_calm (Looks reading) q = reading_calm reading
inquiry_calm (Remarks remarks.Query) q = refl
inquiry_calm (Remarks (remarks.Rows count)) q = refl
inquiry_calm (Remarks (remarks.Refused error)) q = absurd (false≢true q)

abbrev pub is_idle : Step → Bool
is_idle (Connects admin user host) = false
is_idle (Quits admin) = false
is_idle (Truncates admin what) = false
is_idle (Changes admin what) = false
is_idle (Inquires what) = is_calm_inquiry what
is_idle _ = true

pub does_calm : (s : State) (step : Step) (calls : List Call) (entries : List Entry) (after : State) → is_idle step ≡ true → Does s step calls entries after → AreCalm entries
does_calm s (StartsEvent subject) calls entries after i d =
    subst AreCalm (sym d.entries_are)
    (calm_then d.begun_entries (put_entries d.current) (begins_calm s subject d.begun_calls d.begun_entries after d.begins) (rings_calm (put_entries d.current) (put_ring d.current)))
does_calm s (EndsEvent numbers) calls entries after i d = ends_calm s numbers calls entries after d
does_calm s (Spends time) calls entries after i d = subst AreCalm (sym d.1) tt
does_calm s SettlesHeld calls entries after i d = subst AreCalm (sym d.entries_are) (settle_calm _ d.paid)
does_calm s (Connects admin user host) calls entries after i d = absurd (false≢true i)
does_calm s (Quits admin) calls entries after i d = absurd (false≢true i)
does_calm s (Truncates admin what) calls entries after i d = absurd (false≢true i)
does_calm s (Changes admin what) calls entries after i d = absurd (false≢true i)
does_calm s (Inquires what) calls entries after i d = subst AreCalm (sym d.entries_are) (inquiry_calm what i, tt)

abbrev pub AreIdleSteps : List Step → Type 0
AreIdleSteps [] = Unit {0}
AreIdleSteps (x ∷ xs) = (is_idle x ≡ true) × AreIdleSteps xs

idle_then : (xs ys : List Step) → AreIdleSteps xs → AreIdleSteps ys → AreIdleSteps (xs ++ ys)
idle_then [] ys a b = b
idle_then (x ∷ xs) ys a b = (a.0, idle_then xs ys a.1 b)

idle_front : (xs ys : List Step) → AreIdleSteps (xs ++ ys) → AreIdleSteps xs
idle_front [] ys a = tt
idle_front (x ∷ xs) ys a = (a.0, idle_front xs ys a.1)

idle_back : (xs ys : List Step) → AreIdleSteps (xs ++ ys) → AreIdleSteps ys
idle_back [] ys a = a
idle_back (x ∷ xs) ys a = idle_back xs ys a.1

pub turns_calm : (s : State) (turns : List Turn) → AreTurns s turns → AreIdleSteps (steps_of turns) → AreCalm (turns_entries turns)
turns_calm s [] are idle = tt
turns_calm s (t ∷ ts) are idle =
    let own = idle_back (steps_of ts) (t.step ∷ []) idle in
    calm_then (turns_entries ts) t.entries (turns_calm s ts are.1 (idle_front (steps_of ts) (t.step ∷ []) idle)) (does_calm (state_after s ts) t.step t.calls t.entries t.after own.0 are.0)

stage_idle : (events : List Open) → AreIdleSteps (stage_ends events)
stage_idle [] = tt
stage_idle (what ∷ events) = by_test (is_stage what.kind) where
  by_test : (b : Bool) → AreIdleSteps (if b then EndsEvent no_numbers ∷ [] else [])
  by_test true = (refl, tt)
  by_test false = tt

looks_idle : (found : List Reading) → AreIdleSteps (looks found)
looks_idle [] = tt
looks_idle (reading ∷ found) = (refl, looks_idle found)

-- a line that is no action, and whose text isn't refused
abbrev pub IsIdleDeed : Deed → Type 0
IsIdleDeed (Connecting admin user host) = ⊥
IsIdleDeed (Quitting admin) = ⊥
IsIdleDeed (Truncating admin what) = ⊥
IsIdleDeed (Changing admin what) = ⊥
IsIdleDeed (Showing admin count) = ⊥
IsIdleDeed (Refusing error) = ⊥
IsIdleDeed (Querying found count) = Unit {0}
IsIdleDeed (Starting subject) = Unit {0}
IsIdleDeed (Staging subject) = Unit {0}
IsIdleDeed StageEnding = Unit {0}
IsIdleDeed (Ending numbers) = Unit {0}
IsIdleDeed (Spending time) = Unit {0}
IsIdleDeed Closing = Unit {0}

pub deed_idle : (s : State) (deed : Deed) → IsIdleDeed deed → AreIdleSteps (steps_for s deed)
deed_idle s (Connecting admin user host) e = absurd e
deed_idle s (Starting subject) e = (refl, tt)
deed_idle s (Staging subject) e = idle_then (stage_ends s.opened.events) (StartsEvent subject ∷ []) (stage_idle s.opened.events) (refl, tt)
deed_idle s StageEnding e = idle_then (stage_ends s.opened.events) [] (stage_idle s.opened.events) tt
deed_idle s (Ending numbers) e = idle_then (stage_ends s.opened.events) (EndsEvent numbers ∷ []) (stage_idle s.opened.events) (refl, tt)
deed_idle s (Spending time) e = (refl, tt)
deed_idle s (Quitting admin) e = absurd e
deed_idle s (Truncating admin what) e = absurd e
deed_idle s (Changing admin what) e = absurd e
deed_idle s (Showing admin count) e = absurd e
deed_idle s (Querying found count) e = (refl, idle_then (looks found) (remark (remarks.Rows count) ∷ []) (looks_idle found) (refl, tt))
deed_idle s (Refusing error) e = absurd e
deed_idle s Closing e = (refl, tt)
