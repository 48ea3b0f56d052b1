-- The calls of a session's steps neither begin nor end an action.
use Rattle.std.proofs.Common.{ℕ, ◌≡◌, Bool, true, false, List, [], ◌∷◌, ◌++◌, Option, Some, None, refl, ap, sym, ◌∙◌, subst}
use Rattle.pfs_admin.specs.ConnectionAsks.{work_of_connect, work_of_quit}
use Rattle.pfs_admin.specs.SetupStatements.{work_of_statement}
use Rattle.pfs_admin.specs.Truncations.{work_of_truncation}
use Rattle.pfs_admin.specs.Works.{Sign, Releases, Tags, Made, Flagging, signs_calls, made_calls, flagging_calls, Work}
use Rattle.pfs_law_plain.specs.Notes.{Note, Wrote, Freed, Found, Vacant, Refused, Overdue, Switched, Saw, Acted, told, all_told}
use Rattle.pfs_law_plain.proofs.NextNotes.{acts}
use Rattle.pfs_event.specs.Verdicts.{is_let_through}
use Rattle.pfs_event.specs.declared.entry.Entry.{Entry}
use Rattle.pfs_event.specs.declared.event.Event.{Event}
use Rattle.pfs_event.specs.declared.open.Open.{Open}
use Rattle.pfs_levels.specs.Calls.{Call, Adds, Rings, Reads, Loads, Draws, Takes, Puts, Frees, Sets, Enters, Leaves, Meets, label_in}
use Rattle.pfs_levels.specs.Moves.{Gift, Move, gift_calls, move_calls, moves_calls}
use Rattle.pfs_levels.specs.PlainStore.{labels_after}
use Rattle.pfs_levels.specs.declared.answers.Added.TheVariants.{Counted, Held}
use Rattle.pfs_levels.specs.declared.answers.RingPut.TheVariants.{Done, Busy, Late}
use Rattle.pfs_levels.specs.declared.answers.Word.{Word}
use Rattle.pfs_rings.specs.declared.puts.Put.{Put}
use Rattle.pfs_rings.specs.declared.rings.Ring.{Ring}
use Rattle.pfs_rings.specs.declared.rings.Ring.TheVariants.{Current, History, Long}
use Rattle.pfs_rows.specs.declared.table.Reading.TheVariants as readings
use Rattle.pfs_rows.specs.declared.table.Seen.TheVariants as seen
use Rattle.pfs_session.specs.Ends.{Ends, EndsIn, EndsThrough, DigestsIn, PutsAtEnd}
use Rattle.pfs_session.specs.Inquiries.{Inquiry, Looks, Remarks, inquiry_calls}
use Rattle.pfs_session.specs.EventPuts.{PutAt, PutIf, PutIn, depth_of}
use Rattle.pfs_session.specs.Settlements.{Paid, paid_calls, pay_calls}
use Rattle.pfs_session.specs.Starts.{load_calls, table_calls}
use Rattle.pfs_session.specs.SessionStates.{State}
use Rattle.pfs_session.specs.Turns.{Step, StartsEvent, EndsEvent, Spends, SettlesHeld, Connects, Quits, Truncates, Changes, Inquires, Does, Works, Turn, AreTurns, state_after, turns_calls}
use Rattle.pfs_session.specs.declared.events.Numbers.{Numbers}
use Rattle.pfs_session.specs.declared.setup.Setup.{Setup}
use Rattle.pfs_stat.specs.declared.Stat.{Stat}
use Rattle.pfs_model.specs.Chains.{change_at}

abbrev pub IsWithin : Call → Type 0
IsWithin (Enters label labels) = ⊥
IsWithin Leaves = ⊥
IsWithin (Adds row amount answer) = Unit {0}
IsWithin (Rings row content answer) = Unit {0}
IsWithin (Reads row seen) = Unit {0}
IsWithin (Loads at version found) = Unit {0}
IsWithin (Draws kind ticket) = Unit {0}
IsWithin (Takes row version found) = Unit {0}
IsWithin (Puts row content version) = Unit {0}
IsWithin (Frees row version) = Unit {0}
IsWithin (Sets at found version) = Unit {0}
IsWithin (Meets versions) = Unit {0}

abbrev pub AreWithin : List Call → Type 0
AreWithin [] = Unit {0}
AreWithin (call ∷ calls) = IsWithin call × AreWithin calls

within_then : (xs ys : List Call) → AreWithin xs → AreWithin ys → AreWithin (xs ++ ys)
within_then [] ys a b = b
within_then (x ∷ xs) ys a b = (a.0, within_then xs ys a.1 b)

gifts_within : (amount : Stat) (gs : List Gift) → AreWithin (gift_calls amount gs)
gifts_within amount [] = tt
gifts_within amount (g ∷ gs) = within_then (gift_calls amount gs) _ (gifts_within amount gs) (tt, (tt, tt))

moves_within : (ms : List Move) → AreWithin (moves_calls ms)
moves_within [] = tt
moves_within (m ∷ ms) = within_then (move_calls m) (moves_calls ms) (within_then (gift_calls _ m.gifts) _ (gifts_within _ m.gifts) (tt, (tt, tt))) (moves_within ms)

made_within : (sign : Sign) (version : ℕ) (found : List ℕ) → AreWithin (made_calls (record { sign = sign; version = version; found = found }))
made_within (Releases row) version found = (tt, (tt, tt))
made_within (Tags row content) version found = (tt, (tt, tt))

signs_within : (ms : List Made) → AreWithin (signs_calls ms)
signs_within [] = tt
signs_within (m ∷ ms) = within_then (made_calls m) (signs_calls ms) (made_within m.sign m.version m.found) (signs_within ms)

flags_within : (words : List Word) (fs : List Flagging) → AreWithin (flagging_calls words fs)
flags_within words [] = tt
flags_within words (f ∷ fs) = within_then (flagging_calls words fs) (Sets f.word f.flags _ ∷ []) (flags_within words fs) (tt, tt)

works_within : (work : Work) (words : List Word) (head : List Entry) (calls : List Call) (entries : List Entry) → Works work words head calls entries → AreWithin calls
works_within work words head calls entries w =
    subst AreWithin (sym w.calls_are)
    (within_then (flagging_calls words work.flags) (signs_calls w.made ++ moves_calls w.moves) (flags_within words work.flags)
    (within_then (signs_calls w.made) (moves_calls w.moves) (signs_within w.made) (moves_within w.moves)))

paid_within : (ps : List Paid) → AreWithin (paid_calls ps)
paid_within [] = tt
paid_within (p ∷ ps) = within_then (pay_calls p) (paid_calls ps) (tt, (tt, tt)) (paid_within ps)

table_within : (table : Option ℕ) (seen : Option Word) → AreWithin (table_calls table seen)
table_within (Some table) (Some word) = (tt, tt)
table_within (Some table) None = tt
table_within None word = tt

loads_within : (slot class table : Option ℕ) (seen : Option Setup) → AreWithin (load_calls slot class table seen)
loads_within (Some slot) (Some class) table (Some seen) = within_then (table_calls table seen.table) _ (table_within table seen.table) (tt, (tt, (tt, tt)))
loads_within (Some slot) (Some class) table None = tt
loads_within (Some slot) None table seen = tt
loads_within None class table seen = tt

digest_within : (b : Bool) (s : State) (slot : ℕ) (what : Open) (numbers : Numbers) (calls : List Call) (entries : List Entry) (after : State) → DigestsIn b s slot what numbers calls entries after → AreWithin calls
digest_within false s slot what numbers calls entries after d = subst AreWithin (sym d.calls_are) tt
digest_within true s slot what numbers calls entries after d = subst AreWithin (sym d.calls_are) (tt, tt)

-- puts to rings
at_within : (row : ℕ) (ticket : Option ℕ) (head : List Call) (event : Event) (put : Put) (calls : List Call) → PutAt row ticket head event put calls → AreWithin head → AreWithin calls
at_within row ticket head event put calls x h = subst AreWithin (sym x.calls_are) (tt, h)

if_within : (due : Bool) (ring : Ring) (event : Event) (put : Option Put) (calls : List Call) → PutIf due ring event put calls → AreWithin calls
if_within false ring event put calls x = subst AreWithin (sym x.1) tt
if_within true ring event None calls x = absurd x
if_within true (Current slot kind depth) event (Some put) calls x = at_within _ None [] event put calls x tt
if_within true (History slot kind place) event (Some put) calls x = at_within _ None [] event put calls x tt
if_within true (Long kind) event (Some put) calls x = at_within _ _ _ event put calls x.at (tt, tt)

in_within : (slot : Option ℕ) (what : Open) (depth : ℕ) (event : Event) (put : Option Put) (calls : List Call) → PutIn slot what depth event put calls → AreWithin calls
in_within None what depth event put calls x = subst AreWithin (sym x.1) tt
in_within (Some slot) what depth event put calls x = if_within what.placed (Current slot what.kind depth) event put calls x

puts_within : (s : State) (slot : ℕ) (what : Open) (numbers : Numbers) (consumers thread : ℕ) (calls : List Call) (entries : List Entry) (after : State)
    → PutsAtEnd s slot what numbers consumers thread calls entries after → AreWithin calls
puts_within s slot what numbers consumers thread calls entries after x =
    subst AreWithin (sym x.calls_are)
    (within_then x.long_calls (x.history_calls ++ x.current_calls) (if_within _ _ _ x.long x.long_calls x.long_is)
    (within_then x.history_calls x.current_calls (if_within _ _ _ x.history x.history_calls x.history_is) (if_within _ _ _ x.current x.current_calls x.current_is)))

through_within : (s : State) (slot : ℕ) (what : Open) (others : List Open) (numbers : Numbers) (calls : List Call) (entries : List Entry) (after : State) → (x : EndsThrough s slot what others numbers calls entries after)
    → AreWithin (x.ring_calls ++ x.added_calls)
through_within s slot what others numbers calls entries after x =
    let e = x.adds in
    within_then x.ring_calls x.added_calls (puts_within x.among slot what numbers _ _ x.ring_calls x.ring_entries after x.puts)
    (subst AreWithin (sym e.calls_are)
    (within_then e.digested_calls e.counted_calls (digest_within what.digested e.between slot what numbers e.digested_calls e.digested_entries x.among e.digests)
    (subst AreWithin (sym e.counts.calls_are) (tt, (tt, (tt, tt))))))

ends_within : (s : State) (numbers : Numbers) (calls : List Call) (entries : List Entry) (after : State) → Ends s numbers calls entries after → AreWithin calls
ends_within s numbers calls entries after e = by_case s.place.thread (is_let_through e.what.verdict) e.ends where
  by_case : (slot : Option ℕ) (b : Bool) → EndsIn s slot b e.what e.others numbers calls entries after → AreWithin calls
  by_case slot false x = subst AreWithin (sym x.calls_are) tt
  by_case None true x = absurd x
  by_case (Some slot) true x = subst AreWithin (sym x.calls_are) (through_within s slot e.what e.others numbers calls entries after x)

inquiry_within : (what : Inquiry) → AreWithin (inquiry_calls what)
inquiry_within (Looks (readings.Slot row found)) = (tt, tt)
inquiry_within (Looks (readings.Word word version flags)) = (tt, tt)
inquiry_within (Remarks remark) = tt

does_within : (s : State) (step : Step) (calls : List Call) (entries : List Entry) (after : State) → Does s step calls entries after → AreWithin calls
does_within s (StartsEvent subject) calls entries after d =
    let b = d.begins in
    subst AreWithin (sym d.calls_are)
    (within_then d.put_calls d.begun_calls (in_within s.place.thread b.what (depth_of b.what.kind s.opened.events) b.what.event d.current d.put_calls d.put_is)
    (subst AreWithin (sym b.calls_are) (loads_within s.place.thread subject.class subject.table b.seen)))
does_within s (EndsEvent numbers) calls entries after d = ends_within s numbers calls entries after d
does_within s (Spends time) calls entries after d = subst AreWithin (sym d.0) tt
does_within s SettlesHeld calls entries after d = subst AreWithin (sym d.calls_are) (paid_within d.paid)
does_within s (Connects admin user host) calls entries after d = works_within (work_of_connect admin s.number user host) admin.words _ calls entries d.0
does_within s (Quits admin) calls entries after d = works_within (work_of_quit admin s.number) admin.words _ calls entries d.0
does_within s (Truncates admin what) calls entries after d = works_within (work_of_truncation admin what) admin.words _ calls d.changes d.works
does_within s (Changes admin what) calls entries after d = works_within (work_of_statement admin what) admin.words _ calls d.changes d.works
does_within s (Inquires what) calls entries after d = subst AreWithin (sym d.calls_are) (inquiry_within what)

abbrev pub TurnsWithin : List Turn → Type 0
TurnsWithin [] = Unit {0}
TurnsWithin (t ∷ ts) = AreWithin t.calls × TurnsWithin ts

pub turns_within : (s : State) (turns : List Turn) → AreTurns s turns → TurnsWithin turns
turns_within s [] are = tt
turns_within s (t ∷ ts) are = (does_within (state_after s ts) t.step t.calls t.entries t.after are.0, turns_within s ts are.1)

pub calls_within : (turns : List Turn) → TurnsWithin turns → AreWithin (turns_calls turns)
calls_within [] w = tt
calls_within (t ∷ ts) w = within_then t.calls (turns_calls ts) w.0 (calls_within ts w.1)

-- such calls add no label, and leave that of the action under way
pub no_label_more : (calls past : List Call) → AreWithin calls → labels_after (calls ++ past) ≡ labels_after past
unfolding labels_after
no_label_more [] past w = refl
no_label_more (Enters label labels ∷ calls) past w = absurd w.0
no_label_more (Leaves ∷ calls) past w = absurd w.0
no_label_more (Adds row amount answer ∷ calls) past w = no_label_more calls past w.1
no_label_more (Rings row content answer ∷ calls) past w = no_label_more calls past w.1
no_label_more (Reads row seen ∷ calls) past w = no_label_more calls past w.1
no_label_more (Loads at v found ∷ calls) past w = no_label_more calls past w.1
no_label_more (Draws kind ticket ∷ calls) past w = no_label_more calls past w.1
no_label_more (Takes row v found ∷ calls) past w = no_label_more calls past w.1
no_label_more (Puts row content v ∷ calls) past w = no_label_more calls past w.1
no_label_more (Frees row v ∷ calls) past w = no_label_more calls past w.1
no_label_more (Sets at to v ∷ calls) past w = no_label_more calls past w.1
no_label_more (Meets versions ∷ calls) past w = no_label_more calls past w.1

pub same_label : (calls past : List Call) → AreWithin calls → label_in (calls ++ past) ≡ label_in past
same_label [] past w = refl
same_label (Enters label labels ∷ calls) past w = absurd w.0
same_label (Leaves ∷ calls) past w = absurd w.0
same_label (Adds row amount answer ∷ calls) past w = same_label calls past w.1
same_label (Rings row content answer ∷ calls) past w = same_label calls past w.1
same_label (Reads row seen ∷ calls) past w = same_label calls past w.1
same_label (Loads at v found ∷ calls) past w = same_label calls past w.1
same_label (Draws kind ticket ∷ calls) past w = same_label calls past w.1
same_label (Takes row v found ∷ calls) past w = same_label calls past w.1
same_label (Puts row content v ∷ calls) past w = same_label calls past w.1
same_label (Frees row v ∷ calls) past w = same_label calls past w.1
same_label (Sets at to v ∷ calls) past w = same_label calls past w.1
same_label (Meets versions ∷ calls) past w = same_label calls past w.1

-- numbers of actions among notes
pub acts_then : (xs ys : List Note) → acts (xs ++ ys) ≡ acts xs ++ acts ys
acts_then [] ys = refl
acts_then (Acted number ∷ xs) ys = ap (λ z. change_at 0 number ∷ z) (acts_then xs ys)
acts_then (Wrote row version ∷ xs) ys = acts_then xs ys
acts_then (Freed row version ∷ xs) ys = acts_then xs ys
acts_then (Switched word version flags ∷ xs) ys = acts_then xs ys
acts_then (Saw word version ∷ xs) ys = acts_then xs ys
acts_then (Found row version ∷ xs) ys = acts_then xs ys
acts_then (Vacant row ∷ xs) ys = acts_then xs ys
acts_then (Refused row first second ∷ xs) ys = acts_then xs ys
acts_then (Overdue row ticket ∷ xs) ys = acts_then xs ys

call_acts : (call : Call) → IsWithin call → acts (told call) ≡ []
call_acts (Enters label labels) w = absurd w
call_acts Leaves w = absurd w
call_acts (Adds row amount (Counted r v)) w = refl
call_acts (Adds row amount (Held r v u)) w = refl
call_acts (Rings row content (Done v)) w = refl
call_acts (Rings row content (Busy v u)) w = refl
call_acts (Rings row content (Late t v)) w = refl
call_acts (Reads row (seen.Whole version content)) w = refl
call_acts (Reads row (seen.Free word)) w = refl
call_acts (Reads row (seen.Busy first second)) w = refl
call_acts (Loads at v found) w = refl
call_acts (Draws kind ticket) w = refl
call_acts (Takes row v found) w = refl
call_acts (Puts row content v) w = refl
call_acts (Frees row v) w = refl
call_acts (Sets at to v) w = refl
call_acts (Meets versions) w = refl

pub no_acts : (calls : List Call) → AreWithin calls → acts (all_told calls) ≡ []
unfolding all_told
no_acts [] w = refl
no_acts (call ∷ calls) w = acts_then (all_told calls) (told call) ∙ (ap (λ z. z ++ acts (told call)) (no_acts calls w.1) ∙ call_acts call w.0)
