-- Each put of the long history that is printed with its ticket stands at the place of the ticket.
use Rattle.std.proofs.Common.{ℕ, ◌≡◌, ◌<◌, ◌≤◌, ◌+◌, ◌%◌, Bool, true, false, List, [], ◌∷◌, ◌++◌, Option, Some, None, ap, sym, subst, arith}
use Rattle.std.proofs.lemmas.List.{append_assoc}
use Rattle.pfs_admin.specs.ConnectionAsks.{connect_entry, work_of_connect, work_of_quit}
use Rattle.pfs_admin.specs.SetupStatements.{reply_to, work_of_statement}
use Rattle.pfs_admin.specs.AdministrationStates.{seat_at}
use Rattle.pfs_admin.specs.Truncations.{work_of_truncation}
use Rattle.pfs_admin.specs.Works.{Sign, Releases, Tags, Made, Flagging, Work, signs_entries, sign_entry, flagging_entries}
use Rattle.pfs_admin.specs.declared.changes.Reply.{Reply}
use Rattle.pfs_admin.specs.declared.changes.Reply.TheVariants as replies
use Rattle.pfs_admin.specs.declared.changes.SetupStatement.{SetupStatement}
use Rattle.pfs_admin.specs.declared.changes.SetupStatement.TheVariants.{Update, Insert, Delete, Show}
use Rattle.pfs_containers.specs.declared.containers.Seated.{Seated}
use Rattle.pfs_event.specs.Verdicts.{is_let_through}
use Rattle.pfs_event.specs.declared.entry.Entry.{Entry}
use Rattle.pfs_event.specs.declared.entry.Entry.TheVariants as says
use Rattle.pfs_event.specs.declared.event.Event.{Event}
use Rattle.pfs_event.specs.declared.open.Open.{Open}
use Rattle.pfs_event.specs.declared.verdict.Verdict.{Verdict}
use Rattle.pfs_levels.specs.Calls.{Call}
use Rattle.pfs_levels.specs.Moves.{Gift, Move, gift_entries, moves_entries, move_entries}
use Rattle.pfs_levels.specs.declared.answers.Added.{Added}
use Rattle.pfs_levels.specs.declared.answers.Added.TheVariants.{Counted, Held}
use Rattle.pfs_levels.specs.declared.answers.RingPut.{RingPut}
use Rattle.pfs_levels.specs.declared.answers.RingPut.TheVariants as told
use Rattle.pfs_levels.specs.declared.answers.Word.{Word}
use Rattle.pfs_model.specs.Causes.{long_row, kind_of_row}
use Rattle.pfs_model.specs.Contexts.{Context, subject_of, noted, turned, after, fresh as empty}
use Rattle.pfs_model.specs.EntryPlaces.{Block, Placed, places, places_behind, placed_part, placed_lines, told_by}
use Rattle.pfs_model.specs.Rings.{ring_number}
use Rattle.pfs_model.specs.declared.lines.Line.{Line}
use Rattle.pfs_law_session.specs.Deeds.{Part, line_of, part_entries}
use Rattle.pfs_law_session.specs.JournalLaws.{AreParts, lines_of, entries_of}
use Rattle.pfs_law_session.specs.Stints.{Stint, block_of, blocks_of, AreDone, AreStints, AreStintsBehind}
use Rattle.pfs_rings.specs.Offers.{Says}
use Rattle.pfs_rings.specs.declared.puts.Put.{Put}
use Rattle.pfs_rings.specs.declared.rings.Ring.{Ring}
use Rattle.pfs_rings.specs.declared.rings.Ring.TheVariants.{Current, History, Long}
use Rattle.pfs_rows.specs.declared.table.Reading.TheVariants as readings
use Rattle.pfs_rows.specs.declared.table.Seen.TheVariants as seen
use Rattle.pfs_session.specs.Ends.{EndsIn, EndsThrough, DigestsIn, PutsAtEnd, added_entry}
use Rattle.pfs_session.specs.Inquiries.{Inquiry, Looks, Remarks, inquiry_entry}
use Rattle.pfs_session.specs.EventPuts.{PutAt, PutLong, PutIf, PutIn, put_entries, depth_of}
use Rattle.pfs_session.specs.Settlements.{Paid, owed_by_state, paid_entries, pay_entries, settle_head}
use Rattle.pfs_session.specs.Starts.{start_entry}
use Rattle.pfs_session.specs.SessionStates.{State, Owed}
use Rattle.pfs_session.specs.Turns.{Step, StartsEvent, EndsEvent, Spends, SettlesHeld, Connects, Quits, Truncates, Changes, Inquires, Does, Works, Turn, AreTurns, reply_entries, state_after, turns_entries}
use Rattle.pfs_session.specs.declared.events.Numbers.{Numbers}
use Rattle.pfs_session.specs.declared.remarks.Remark.TheVariants.{Query, Rows, Refused}
use Rattle.pfs_session.specs.declared.setup.Setup.{Setup}

abbrev pub AreLater : ℕ → List Placed → Type 0
AreLater phase [] = Unit {0}
AreLater phase (p ∷ ps) = (phase ≤ p.phase) × AreLater p.phase ps

abbrev pub IsOwn : Entry → Type 0
IsOwn (says.Long row version ticket) = row ≡ long_row (kind_of_row row) ticket
IsOwn (says.Late row ticket greater) = row ≡ long_row (kind_of_row row) ticket
IsOwn entry = Unit {0}

abbrev pub AreOwn : List Entry → Type 0
AreOwn [] = Unit {0}
AreOwn (e ∷ es) = IsOwn e × AreOwn es

own_then : (es fs : List Entry) → AreOwn es → AreOwn fs → AreOwn (es ++ fs)
own_then [] fs a b = b
own_then (e ∷ es) fs a b = (a.0, own_then es fs a.1 b)

abbrev pub ArePlacesOwn : List Placed → Type 0
ArePlacesOwn [] = Unit {0}
ArePlacesOwn (p ∷ ps) = IsOwn p.entry × ArePlacesOwn ps

places_then : (xs ys : List Placed) → ArePlacesOwn xs → ArePlacesOwn ys → ArePlacesOwn (xs ++ ys)
places_then [] ys a b = b
places_then (x ∷ xs) ys a b = (a.0, places_then xs ys a.1 b)

-- the kind of a place is the one whose ticket it has
kind_is : (kind ticket : ℕ) → long_row kind ticket ≡ long_row (kind_of_row (long_row kind ticket)) ticket
kind_is kind ticket =
    let low : ticket % 1000 < 1000 = omega arith in
    let same : kind_of_row (long_row kind ticket) ≡ kind = omega (arith, low) in
    ap (λ k. long_row k ticket) (sym same)

-- a put
long_own : (kind : ℕ) (event : Event) (put : Put) (calls : List Call) → PutLong kind event put calls → AreOwn (put_entries (Some put))
long_own kind event put calls x = by_answer x.at.answer x.at.says where
  by_answer : (answer : RingPut) → Says (long_row kind x.ticket) (Some x.ticket) answer put → AreOwn (put_entries (Some put))
  by_answer (told.Done version) e = subst (λ z. AreOwn (put_entries (Some z))) (sym e) (kind_is kind x.ticket, tt)
  by_answer (told.Busy first second) e = subst (λ z. AreOwn (put_entries (Some z))) (sym e) (tt, tt)
  by_answer (told.Late greater version) e = subst (λ z. AreOwn (put_entries (Some z))) (sym e.0) (kind_is kind x.ticket, tt)

short_own : (row : ℕ) (event : Event) (put : Put) (calls : List Call) → PutAt row None [] event put calls → AreOwn (put_entries (Some put))
short_own row event put calls x = by_answer x.answer x.says where
  by_answer : (answer : RingPut) → Says row None answer put → AreOwn (put_entries (Some put))
  by_answer (told.Done version) e = subst (λ z. AreOwn (put_entries (Some z))) (sym e) (tt, tt)
  by_answer (told.Busy first second) e = subst (λ z. AreOwn (put_entries (Some z))) (sym e) (tt, tt)
  by_answer (told.Late greater version) e = absurd e

put_own : (ring : Ring) (event : Event) (put : Put) (calls : List Call) → PutIf true ring event (Some put) calls → AreOwn (put_entries (Some put))
put_own (Current slot kind depth) event put calls x = short_own _ event put calls x
put_own (History slot kind place) event put calls x = short_own _ event put calls x
put_own (Long kind) event put calls x = long_own (ring_number kind) event put calls x

if_own : (due : Bool) (ring : Ring) (event : Event) (put : Option Put) (calls : List Call) → PutIf due ring event put calls → AreOwn (put_entries put)
if_own false ring event put calls x = subst (λ z. AreOwn (put_entries z)) (sym x.0) tt
if_own true ring event None calls x = tt
if_own true ring event (Some put) calls x = put_own ring event put calls x

in_own : (slot : Option ℕ) (what : Open) (depth : ℕ) (event : Event) (put : Option Put) (calls : List Call) → PutIn slot what depth event put calls → AreOwn (put_entries put)
in_own None what depth event put calls x = subst (λ z. AreOwn (put_entries z)) (sym x.0) tt
in_own (Some slot) what depth event put calls x = if_own what.placed (Current slot what.kind depth) event put calls x

puts_own : (s : State) (slot : ℕ) (what : Open) (numbers : Numbers) (consumers thread : ℕ) (calls : List Call) (entries : List Entry) (after : State)
    → PutsAtEnd s slot what numbers consumers thread calls entries after → AreOwn entries
puts_own s slot what numbers consumers thread calls entries after x =
    subst AreOwn (sym x.entries_are)
    (own_then (put_entries x.current) (put_entries x.history ++ put_entries x.long) (if_own _ _ _ x.current x.current_calls x.current_is)
    (own_then (put_entries x.history) (put_entries x.long) (if_own _ _ _ x.history x.history_calls x.history_is) (if_own _ _ _ x.long x.long_calls x.long_is)))

-- a step
added_own : (answer : Added) → IsOwn (added_entry answer)
added_own (Counted row version) = tt
added_own (Held row first second) = tt

start_own : (verdict : Verdict) (number : ℕ) (seen : Option Setup) → IsOwn (start_entry verdict number seen)
start_own verdict number None = tt
start_own verdict number (Some seen) = tt

digest_own : (b : Bool) (s : State) (slot : ℕ) (what : Open) (numbers : Numbers) (calls : List Call) (entries : List Entry) (after : State) → DigestsIn b s slot what numbers calls entries after → AreOwn entries
digest_own false s slot what numbers calls entries after x = subst AreOwn (sym x.entries_are) tt
digest_own true s slot what numbers calls entries after x = subst AreOwn (sym x.entries_are) (added_own x.answer, tt)

through_own : (s : State) (slot : ℕ) (what : Open) (others : List Open) (numbers : Numbers) (calls : List Call) (entries : List Entry) (after : State) → EndsThrough s slot what others numbers calls entries after → AreOwn entries
through_own s slot what others numbers calls entries after x =
    let e = x.adds in
    let counted : AreOwn e.counted_entries = subst AreOwn (sym e.counts.entries_are) (tt, (added_own e.counts.answer, tt)) in
    let digested : AreOwn e.digested_entries = digest_own what.digested e.between slot what numbers e.digested_calls e.digested_entries x.among e.digests in
    let added : AreOwn x.added_entries = subst AreOwn (sym e.entries_are) (own_then e.counted_entries e.digested_entries counted digested) in
    subst AreOwn (sym x.entries_are) (own_then x.added_entries x.ring_entries added (puts_own x.among slot what numbers _ _ x.ring_calls x.ring_entries after x.puts))

ends_own : (s : State) (slot : Option ℕ) (b : Bool) (what : Open) (others : List Open) (numbers : Numbers) (calls : List Call) (entries : List Entry) (after : State) → EndsIn s slot b what others numbers calls entries after
    → AreOwn entries
ends_own s slot false what others numbers calls entries after x = subst AreOwn (sym x.entries_are) (tt, tt)
ends_own s None true what others numbers calls entries after x = absurd x
ends_own s (Some slot) true what others numbers calls entries after x = through_own s slot what others numbers calls entries after x

pays_own : (ps : List Paid) → AreOwn (paid_entries ps)
pays_own [] = tt
pays_own (p ∷ ps) = own_then (paid_entries ps) (pay_entries p) (pays_own ps) (tt, tt)

settle_own : (owed : List Owed) (ps : List Paid) → AreOwn (settle_head owed ++ paid_entries ps)
settle_own [] ps = pays_own ps
settle_own (one ∷ others) ps = (tt, pays_own ps)

-- an action's work
gifts_own : (from : ℕ) (gs : List Gift) → AreOwn (gift_entries from gs)
gifts_own from [] = tt
gifts_own from (g ∷ gs) = (tt, gifts_own from gs)

moves_own : (ms : List Move) → AreOwn (moves_entries ms)
moves_own [] = tt
moves_own (m ∷ ms) = own_then (moves_entries ms) (move_entries m) (moves_own ms) (tt, gifts_own m.from m.gifts)

sign_own : (sign : Sign) (version : ℕ) → IsOwn (sign_entry sign version)
sign_own (Releases row) version = tt
sign_own (Tags row content) version = tt

signs_own : (ms : List Made) → AreOwn (signs_entries ms)
signs_own [] = tt
signs_own (m ∷ ms) = own_then (signs_entries ms) (sign_entry m.sign m.version ∷ []) (signs_own ms) (sign_own m.sign m.version, tt)

sets_own : (words : List Word) (fs : List Flagging) → AreOwn (flagging_entries words fs)
sets_own words [] = tt
sets_own words (f ∷ fs) = (tt, sets_own words fs)

works_own : (work : Work) (words : List Word) (head : Entry) (calls : List Call) (entries : List Entry) → IsOwn head → Works work words (head ∷ []) calls entries → AreOwn entries
works_own work words head calls entries h w =
    subst AreOwn (sym w.entries_are) (
      h,
      own_then (moves_entries w.moves) (signs_entries w.made ++ flagging_entries words work.flags) (moves_own w.moves)
          (own_then (signs_entries w.made) (flagging_entries words work.flags) (signs_own w.made) (sets_own words work.flags)),
    )

connect_own : (action : ℕ) (seat : Option Seated) → IsOwn (connect_entry action seat)
connect_own action None = tt
connect_own action (Some seat) = tt

reply_own : (what : SetupStatement) (reply : Reply) → AreOwn (reply_entries what reply)
reply_own Show reply = tt
reply_own (Update update) (replies.Changed count) = (tt, tt)
reply_own (Update update) (replies.Error error) = (tt, tt)
reply_own (Insert insert) (replies.Changed count) = (tt, tt)
reply_own (Insert insert) (replies.Error error) = (tt, tt)
reply_own (Delete delete) (replies.Changed count) = (tt, tt)
reply_own (Delete delete) (replies.Error error) = (tt, tt)

inquiry_own : (what : Inquiry) → IsOwn (inquiry_entry what)
inquiry_own (Looks (readings.Slot row (seen.Whole version content))) = tt
inquiry_own (Looks (readings.Slot row (seen.Free word))) = tt
inquiry_own (Looks (readings.Slot row (seen.Busy first second))) = tt
inquiry_own (Looks (readings.Word word version flags)) = tt
inquiry_own (Remarks Query) = tt
inquiry_own (Remarks (Rows count)) = tt
inquiry_own (Remarks (Refused error)) = tt

does_own : (s : State) (step : Step) (calls : List Call) (entries : List Entry) (after : State) → Does s step calls entries after → AreOwn entries
does_own s (StartsEvent subject) calls entries after d =
    subst AreOwn (sym d.entries_are)
    (own_then d.begun_entries (put_entries d.current) (subst AreOwn (sym d.begins.entries_are) (start_own _ _ d.begins.seen, tt))
    (in_own s.place.thread d.begins.what (depth_of d.begins.what.kind s.opened.events) d.begins.what.event d.current d.put_calls d.put_is))
does_own s (EndsEvent numbers) calls entries after d = ends_own s s.place.thread (is_let_through d.what.verdict) d.what d.others numbers calls entries after d.ends
does_own s (Spends time) calls entries after d = subst AreOwn (sym d.1) tt
does_own s SettlesHeld calls entries after d = subst AreOwn (sym d.entries_are) (settle_own (owed_by_state s) d.paid)
does_own s (Connects admin user host) calls entries after d =
    works_own (work_of_connect admin s.number user host) admin.words (connect_entry (admin.actions + 1) (seat_at admin s.number user host)) calls entries
    (connect_own (admin.actions + 1) (seat_at admin s.number user host)) d.0
does_own s (Quits admin) calls entries after d = works_own (work_of_quit admin s.number) admin.words (says.Act (admin.actions + 1)) calls entries tt d.0
does_own s (Truncates admin what) calls entries after d =
    subst AreOwn (sym d.entries_are)
    (own_then d.changes (says.Reply 0 ∷ []) (works_own (work_of_truncation admin what) admin.words (says.Act (admin.actions + 1)) calls d.changes tt d.works) (tt, tt))
does_own s (Changes admin what) calls entries after d =
    subst AreOwn (sym d.entries_are)
    (own_then d.changes (reply_entries what (reply_to admin what)) (works_own (work_of_statement admin what) admin.words (says.Act (admin.actions + 1)) calls d.changes tt d.works) (reply_own what (reply_to admin what)))
does_own s (Inquires what) calls entries after d = subst AreOwn (sym d.entries_are) (inquiry_own what, tt)

turns_own : (s : State) (turns : List Turn) → AreTurns s turns → AreOwn (turns_entries turns)
turns_own s [] are = tt
turns_own s (t ∷ ts) are = own_then (turns_entries ts) t.entries (turns_own s ts are.1) (does_own (state_after s ts) t.step t.calls t.entries t.after are.0)

-- all blocks
part_own : (phase session : ℕ) (line : Line) (context : Context) (es : List Entry) → AreOwn es → ArePlacesOwn (placed_part phase session line context es)
part_own phase session line context [] a = tt
part_own phase session line context (e ∷ es) a = (a.0, part_own phase session line (noted (subject_of line) context e) es a.1)

lines_own : (phase session : ℕ) (context : Context) (s : State) (ps : List Part) → AreParts s ps → ArePlacesOwn (placed_lines phase session context (lines_of ps) (entries_of ps))
lines_own phase session context s [] are = tt
lines_own phase session context s (p ∷ ps) are =
    let line : Line = line_of p.deed in
    places_then (placed_part phase session line (turned context) (part_entries p)) _ (part_own phase session line (turned context) (part_entries p) (turns_own s p.turns are.0.are_turns))
    (lines_own phase session (after context line (part_entries p)) (state_after s p.turns) ps are.1)

blocks_own : (earlier : List Block) (stints : List Stint) → AreDone stints → ArePlacesOwn (places_behind earlier (blocks_of stints))
unfolding places_behind
blocks_own earlier [] are = tt
blocks_own earlier (stint ∷ stints) are =
    places_then _ (places_behind (earlier ++ block_of stint ∷ []) (blocks_of stints))
    (lines_own stint.phase stint.session (told_by stint.session empty earlier) are.0.from stint.parts are.0.are_parts) (blocks_own (earlier ++ block_of stint ∷ []) stints are.1)

pub all_own : (stints : List Stint) → AreDone stints → ArePlacesOwn (places (blocks_of stints))
all_own stints are = blocks_own [] stints are

-- the phases of the entries never fall
later_lower : (low phase : ℕ) (ps : List Placed) → low ≤ phase → AreLater phase ps → AreLater low ps
later_lower low phase [] h l = tt
later_lower low phase (p ∷ ps) h l = (omega (arith, h, l.0), l.1)

part_later : (low phase session : ℕ) (line : Line) (context : Context) (es : List Entry) (rest : List Placed) → low ≤ phase → AreLater phase rest
    → AreLater low (placed_part phase session line context es ++ rest)
part_later low phase session line context [] rest h l = later_lower low phase rest h l
part_later low phase session line context (e ∷ es) rest h l = (h, part_later phase phase session line (noted (subject_of line) context e) es rest (omega arith) l)

lines_later : (low phase session : ℕ) (context : Context) (ps : List Part) (rest : List Placed) → low ≤ phase → AreLater phase rest
    → AreLater low (placed_lines phase session context (lines_of ps) (entries_of ps) ++ rest)
lines_later low phase session context [] rest h l = later_lower low phase rest h l
lines_later low phase session context (p ∷ ps) rest h l =
    let line : Line = line_of p.deed in
    let here : List Placed = placed_part phase session line (turned context) (part_entries p) in
    let others : List Placed = placed_lines phase session (after context line (part_entries p)) (lines_of ps) (entries_of ps) in
    subst (AreLater low) (sym (append_assoc here others rest))
    (part_later low phase session line (turned context) (part_entries p) (others ++ rest) h
    (lines_later phase phase session (after context line (part_entries p)) ps rest (omega arith) l))

blocks_later : (stack : ℕ) (depths : ℕ → ℕ) (before : List Block) (earlier : List Stint) (low : ℕ) (stints : List Stint) → AreStintsBehind stack depths earlier low stints
    → AreLater low (places_behind before (blocks_of stints))
unfolding places_behind
blocks_later stack depths before earlier low [] are = tt
blocks_later stack depths before earlier low (stint ∷ stints) are =
    lines_later low stint.phase stint.session (told_by stint.session empty before) stint.parts (places_behind (before ++ block_of stint ∷ []) (blocks_of stints)) are.0
    (blocks_later stack depths (before ++ block_of stint ∷ []) (earlier ++ stint ∷ []) stint.phase stints are.2)

pub all_later : (stack : ℕ) (depths : ℕ → ℕ) (stints : List Stint) → AreStints stack depths stints → AreLater 0 (places (blocks_of stints))
all_later stack depths stints are = blocks_later stack depths [] [] 0 stints are
