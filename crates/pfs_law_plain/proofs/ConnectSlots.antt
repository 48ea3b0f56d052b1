-- A session's slot is the one that its connect printed, since it connects once, with its first action.
use Rattle.std.proofs.Common.{ℕ, ◌≡◌, ◌+◌, ◌<◌, ◌==◌, Bool, true, false, cond, List, [], ◌∷◌, ◌++◌, length, Option, Some, None, refl, ap, sym, ◌∙◌, subst, arith}
use Rattle.std.specs.Prelude.{IfSome}
use Rattle.std.proofs.lemmas.Bool.{eqb-true}
use Rattle.pfs_admin.specs.ConnectionAsks.{work_of_connect, work_of_quit, connect_entry, placed_of}
use Rattle.pfs_admin.specs.SetupStatements.{reply_to, work_of_statement}
use Rattle.pfs_admin.specs.AdministrationStates.{seat_at}
use Rattle.pfs_admin.specs.declared.changes.Reply.{Reply}
use Rattle.pfs_admin.specs.declared.changes.Reply.TheVariants as replies
use Rattle.pfs_admin.specs.declared.changes.SetupStatement.{SetupStatement}
use Rattle.pfs_admin.specs.declared.changes.SetupStatement.TheVariants.{Update, Insert, Delete, Show}
use Rattle.pfs_law_plain.proofs.InnerEntries.{entries_then, inner_slots, paid_same}
use Rattle.pfs_law_plain.proofs.StepNotes.{IsActed, acted, truncated_acted}
use Rattle.pfs_law_plain.specs.Spells.{Doing, Spell, parts_in, stints_of}
use Rattle.pfs_board.specs.declared.view.Label.{Label}
use Rattle.pfs_containers.specs.declared.containers.Seated.{Seated}
use Rattle.pfs_event.specs.Verdicts.{is_let_through}
use Rattle.pfs_event.specs.declared.entry.Entry.{Entry}
use Rattle.pfs_event.specs.declared.entry.Entry.TheVariants as says
use Rattle.pfs_event.specs.declared.open.Open.{Open}
use Rattle.pfs_event.specs.declared.verdict.Verdict.{Verdict}
use Rattle.pfs_levels.specs.Calls.{Call}
use Rattle.pfs_levels.specs.declared.answers.Added.{Added}
use Rattle.pfs_levels.specs.declared.answers.Added.TheVariants.{Counted, Held}
use Rattle.pfs_model.specs.Contexts.{Context, noted, turned, after, after_entries, subject_of}
use Rattle.pfs_model.specs.EntryPlaces.{after_lines, told_by}
use Rattle.pfs_model.specs.Shapes.{is_stage}
use Rattle.pfs_model.specs.declared.lines.Subject.{Subject}
use Rattle.pfs_law_session.proofs.JournalLines.{turns_number}
use Rattle.pfs_law_session.proofs.RingPuts.{put_ring, rings_keep, rings_of}
use Rattle.pfs_law_session.specs.Amounts.{IsPlaced, AllPlaced}
use Rattle.pfs_law_session.specs.Deeds.{Deed, Connecting, Starting, Staging, StageEnding, Ending, Spending, Quitting, Truncating, Changing, Showing, Querying, Refusing, Closing, Part, line_of, looks, part_entries, action_of, remark, steps_for}
use Rattle.pfs_law_session.specs.JournalLaws.{AreParts, lines_of, entries_of}
use Rattle.pfs_law_session.specs.Stints.{Stint, blocks_of, parts_by, AreDone}
use Rattle.pfs_rows.specs.declared.table.Reading.{Reading}
use Rattle.pfs_rows.specs.declared.table.Reading.TheVariants as readings
use Rattle.pfs_rows.specs.declared.table.Seen.TheVariants as seen
use Rattle.pfs_session.specs.Ends.{Ends, EndsIn, EndsThrough, EndsCounted, DigestsIn, added_entry, no_numbers}
use Rattle.pfs_session.specs.Inquiries.{Inquiry, Looks, Remarks, inquiry_entry}
use Rattle.pfs_session.specs.EventPuts.{put_entries}
use Rattle.pfs_session.specs.Settlements.{Paid, paid_entries, settle_head}
use Rattle.pfs_session.specs.Starts.{start_entry}
use Rattle.pfs_session.specs.SessionStates.{State, Owed}
use Rattle.pfs_session.specs.Turns.{Step, StartsEvent, EndsEvent, Spends, SettlesHeld, Connects, Quits, Truncates, Changes, Inquires, Does, Turn, AreTurns, reply_entries, state_after, steps_of, turns_entries, stage_ends}
use Rattle.pfs_session.specs.declared.events.Numbers.{Numbers}
use Rattle.pfs_session.specs.declared.remarks.Remark.TheVariants.{Query, Rows, Refused}
use Rattle.pfs_session.specs.declared.setup.Setup.{Setup}
use Rattle.pfs_law_plain.specs.ActionFolds.{ConnectsFirst, DoingsConnectFirst, AllConnectFirst}
use Rattle.pfs_law_plain.proofs.ActionCounts.{AreLined, AllLined, more_made, one_of, actions_in}

-- the slot of a session of this number behind a step
abbrev slot_by : ℕ → Option ℕ → Step → Option ℕ
slot_by number slot (Connects admin user host) = (placed_of (seat_at admin number user host)).thread
slot_by number slot (Quits admin) = slot
slot_by number slot (Truncates admin what) = slot
slot_by number slot (Changes admin what) = slot
slot_by number slot (Inquires what) = slot
slot_by number slot (StartsEvent subject) = slot
slot_by number slot (EndsEvent numbers) = slot
slot_by number slot (Spends time) = slot
slot_by number slot SettlesHeld = slot

abbrev slots_by : ℕ → Option ℕ → List Step → Option ℕ
slots_by number slot [] = slot
slots_by number slot (step ∷ steps) = slots_by number (slot_by number slot step) steps

slots_then : (number : ℕ) (slot : Option ℕ) (xs ys : List Step) → slots_by number slot (xs ++ ys) ≡ slots_by number (slots_by number slot xs) ys
slots_then number slot [] ys = refl
slots_then number slot (x ∷ xs) ys = slots_then number (slot_by number slot x) xs ys

start_slot : (subject : Option Subject) (context : Context) (v : Verdict) (n : ℕ) (seen : Option Setup) → (noted subject context (start_entry v n seen)).slot ≡ context.slot
start_slot subject context v n None = refl
start_slot subject context v n (Some seen) = refl

added_slot : (subject : Option Subject) (context : Context) (answer : Added) → (noted subject context (added_entry answer)).slot ≡ context.slot
added_slot subject context (Counted r v) = refl
added_slot subject context (Held r v w) = refl

connect_slot : (subject : Option Subject) (context : Context) (action : ℕ) (seat : Option Seated) → (noted subject context (connect_entry action seat)).slot ≡ (placed_of seat).thread
connect_slot subject context action None = refl
connect_slot subject context action (Some seat) = refl

slot_as : (subject : Option Subject) (context : Context) (entries es : List Entry) (slot : Option ℕ) → entries ≡ es → (after_entries subject context es).slot ≡ slot → (after_entries subject context entries).slot ≡ slot
slot_as subject context entries es slot e s = ap (λ z. (after_entries subject context z).slot) e ∙ s

counted_slot : (subject : Option Subject) (context : Context) (s : State) (slot : ℕ) (what : Open) (others : List Open) (numbers : Numbers) (calls : List Call) (entries : List Entry) (after : State) → EndsCounted s slot what others numbers calls entries after
    → (after_entries subject context entries).slot ≡ context.slot
counted_slot subject context s slot what others numbers calls entries after x = slot_as subject context entries _ context.slot x.entries_are
    (added_slot subject (noted subject context (says.End (Some what.event.number) (Some s.drawn) (Some x.consumers.version) (Some x.thread.version))) x.answer)

digest_slot : (subject : Option Subject) (context : Context) (b : Bool) (s : State) (slot : ℕ) (what : Open) (numbers : Numbers) (calls : List Call) (entries : List Entry) (after : State) → DigestsIn b s slot what numbers calls entries after
    → (after_entries subject context entries).slot ≡ context.slot
digest_slot subject context false s slot what numbers calls entries after d = slot_as subject context entries _ context.slot d.entries_are refl
digest_slot subject context true s slot what numbers calls entries after d = slot_as subject context entries _ context.slot d.entries_are (added_slot subject context d.answer)

through_slot : (subject : Option Subject) (context : Context) (s : State) (slot : ℕ) (what : Open) (others : List Open) (numbers : Numbers) (calls : List Call) (entries : List Entry) (after : State)
    → (x : EndsThrough s slot what others numbers calls entries after) → (after_entries subject context (x.added_entries ++ x.ring_entries)).slot ≡ context.slot
through_slot subject context s slot what others numbers calls entries after x =
    let e = x.adds in
    let mid : Context = after_entries subject context e.counted_entries in
    let added : Context = after_entries subject context x.added_entries in
    ap (λ (z : Context). z.slot) (entries_then subject context x.added_entries x.ring_entries)
    ∙ (ap (λ (z : Context). z.slot) (rings_keep subject added x.ring_entries (rings_of x.among slot what numbers _ _ x.ring_calls x.ring_entries after x.puts))
    ∙ (ap (λ z. (after_entries subject context z).slot) e.entries_are
    ∙ (ap (λ (z : Context). z.slot) (entries_then subject context e.counted_entries e.digested_entries)
    ∙ (digest_slot subject mid what.digested e.between slot what numbers e.digested_calls e.digested_entries x.among e.digests
    ∙ counted_slot subject context s slot what others numbers e.counted_calls e.counted_entries e.between e.counts))))

ends_slot : (subject : Option Subject) (context : Context) (s : State) (numbers : Numbers) (calls : List Call) (entries : List Entry) (after : State) → Ends s numbers calls entries after
    → (after_entries subject context entries).slot ≡ context.slot
ends_slot subject context s numbers calls entries after e = by_case s.place.thread (is_let_through e.what.verdict) e.ends where
  by_case : (slot : Option ℕ) (b : Bool) → EndsIn s slot b e.what e.others numbers calls entries after → (after_entries subject context entries).slot ≡ context.slot
  by_case slot false x = slot_as subject context entries _ context.slot x.entries_are refl
  by_case None true x = absurd x
  by_case (Some slot) true x = slot_as subject context entries _ context.slot x.entries_are (through_slot subject context s slot e.what e.others numbers calls entries after x)

settle_slot : (subject : Option Subject) (context : Context) (owed : List Owed) (ps : List Paid) → (after_entries subject context (settle_head owed ++ paid_entries ps)).slot ≡ context.slot
settle_slot subject context [] ps = inner_slots subject context (paid_entries ps) (paid_same ps).inner
settle_slot subject context (o ∷ os) ps = inner_slots subject (noted subject context says.Settle) (paid_entries ps) (paid_same ps).inner

acted_slot : (subject : Option Subject) (context : Context) (head : Entry) (calls : List Call) (entries : List Entry) (slot : Option ℕ) → (noted subject context head).slot ≡ slot → IsActed head calls entries
    → (after_entries subject context entries).slot ≡ slot
acted_slot subject context head calls entries slot e a = slot_as subject context entries _ slot a.entries_are (inner_slots subject (noted subject context head) a.rest a.same.inner ∙ e)

reply_slot : (subject : Option Subject) (context : Context) (what : SetupStatement) (reply : Reply) → (after_entries subject context (reply_entries what reply)).slot ≡ context.slot
reply_slot subject context Show reply = refl
reply_slot subject context (Update update) (replies.Changed count) = refl
reply_slot subject context (Update update) (replies.Error error) = refl
reply_slot subject context (Insert insert) (replies.Changed count) = refl
reply_slot subject context (Insert insert) (replies.Error error) = refl
reply_slot subject context (Delete delete) (replies.Changed count) = refl
reply_slot subject context (Delete delete) (replies.Error error) = refl

inquiry_slot : (subject : Option Subject) (context : Context) (what : Inquiry) → (noted subject context (inquiry_entry what)).slot ≡ context.slot
inquiry_slot subject context (Looks (readings.Slot row (seen.Whole version content))) = refl
inquiry_slot subject context (Looks (readings.Slot row (seen.Free word))) = refl
inquiry_slot subject context (Looks (readings.Slot row (seen.Busy first second))) = refl
inquiry_slot subject context (Looks (readings.Word word version flags)) = refl
inquiry_slot subject context (Remarks Query) = refl
inquiry_slot subject context (Remarks (Rows count)) = refl
inquiry_slot subject context (Remarks (Refused error)) = refl

does_slot : (subject : Option Subject) (context : Context) (s : State) (step : Step) (calls : List Call) (entries : List Entry) (after : State) → Does s step calls entries after
    → (after_entries subject context entries).slot ≡ slot_by s.number context.slot step
does_slot subject context s (StartsEvent what) calls entries after d =
    let begun : Context = after_entries subject context d.begun_entries in
    slot_as subject context entries _ context.slot d.entries_are
    (ap (λ (z : Context). z.slot) (entries_then subject context d.begun_entries (put_entries d.current) ∙ rings_keep subject begun (put_entries d.current) (put_ring d.current))
    ∙ slot_as subject context d.begun_entries _ context.slot d.begins.entries_are (start_slot subject context _ _ d.begins.seen))
does_slot subject context s (EndsEvent numbers) calls entries after d = ends_slot subject context s numbers calls entries after d
does_slot subject context s (Spends time) calls entries after d = slot_as subject context entries _ context.slot d.1 refl
does_slot subject context s SettlesHeld calls entries after d = slot_as subject context entries _ context.slot d.entries_are (settle_slot subject context _ d.paid)
does_slot subject context s (Connects admin user host) calls entries after d =
    acted_slot subject context (connect_entry (admin.actions + 1) (seat_at admin s.number user host)) calls entries _ (connect_slot subject context (admin.actions + 1) (seat_at admin s.number user host))
    (acted (work_of_connect admin s.number user host) admin.words (connect_entry (admin.actions + 1) (seat_at admin s.number user host)) calls entries d.0)
does_slot subject context s (Quits admin) calls entries after d =
    acted_slot subject context (says.Act (admin.actions + 1)) calls entries context.slot refl (acted (work_of_quit admin s.number) admin.words (says.Act (admin.actions + 1)) calls entries d.0)
does_slot subject context s (Truncates admin what) calls entries after d =
    acted_slot subject context (says.Act (admin.actions + 1)) calls entries context.slot refl (truncated_acted s admin what calls entries after d)
does_slot subject context s (Changes admin what) calls entries after d =
    let mid : Context = after_entries subject context d.changes in
    slot_as subject context entries _ context.slot d.entries_are
    (ap (λ (z : Context). z.slot) (entries_then subject context d.changes (reply_entries what (reply_to admin what)))
    ∙ (reply_slot subject mid what (reply_to admin what)
    ∙ acted_slot subject context (says.Act (admin.actions + 1)) calls d.changes context.slot refl (acted (work_of_statement admin what) admin.words (says.Act (admin.actions + 1)) calls d.changes d.works)))
does_slot subject context s (Inquires what) calls entries after d = slot_as subject context entries _ context.slot d.entries_are (inquiry_slot subject context what)

turns_slot : (subject : Option Subject) (context : Context) (s : State) (turns : List Turn) → AreTurns s turns → (after_entries subject context (turns_entries turns)).slot ≡ slots_by s.number context.slot (steps_of turns)
turns_slot subject context s [] are = refl
turns_slot subject context s (t ∷ ts) are =
    let mid : Context = after_entries subject context (turns_entries ts) in
    ap (λ (z : Context). z.slot) (entries_then subject context (turns_entries ts) t.entries)
    ∙ (does_slot subject mid (state_after s ts) t.step t.calls t.entries t.after are.0
    ∙ (ap (λ z. slot_by z mid.slot t.step) (turns_number s ts are.1)
    ∙ (ap (λ z. slot_by s.number z t.step) (turns_slot subject context s ts are.1) ∙ sym (slots_then s.number context.slot (steps_of ts) (t.step ∷ [])))))

-- behind a line
abbrev pub slot_behind : ℕ → Option ℕ → Deed → Option ℕ
slot_behind number slot (Connecting admin user host) = (placed_of (seat_at admin number user host)).thread
slot_behind number slot (Quitting admin) = slot
slot_behind number slot (Truncating admin what) = slot
slot_behind number slot (Changing admin what) = slot
slot_behind number slot (Showing admin count) = slot
slot_behind number slot (Querying readings count) = slot
slot_behind number slot (Refusing error) = slot
slot_behind number slot (Starting subject) = slot
slot_behind number slot (Staging subject) = slot
slot_behind number slot StageEnding = slot
slot_behind number slot (Ending numbers) = slot
slot_behind number slot (Spending time) = slot
slot_behind number slot Closing = slot

abbrev pub slots_behind : ℕ → Option ℕ → List Part → Option ℕ
slots_behind number slot [] = slot
slots_behind number slot (p ∷ ps) = slots_behind number (slot_behind number slot p.deed) ps

stage_slots : (number : ℕ) (slot : Option ℕ) (events : List Open) (rest : List Step) → slots_by number slot (stage_ends events ++ rest) ≡ slots_by number slot rest
stage_slots number slot [] rest = refl
stage_slots number slot (what ∷ events) rest = by_test (is_stage what.kind) where
  by_test : (b : Bool) → slots_by number slot (cond b (EndsEvent no_numbers ∷ []) [] ++ rest) ≡ slots_by number slot rest
  by_test true = refl
  by_test false = refl

looks_slots : (number : ℕ) (slot : Option ℕ) (readings : List Reading) (rest : List Step) → slots_by number slot (looks readings ++ rest) ≡ slots_by number slot rest
looks_slots number slot [] rest = refl
looks_slots number slot (reading ∷ readings) rest = looks_slots number slot readings rest

deed_slot : (s : State) (slot : Option ℕ) (deed : Deed) → slots_by s.number slot (steps_for s deed) ≡ slot_behind s.number slot deed
deed_slot s slot (Connecting admin user host) = refl
deed_slot s slot (Quitting admin) = refl
deed_slot s slot (Truncating admin what) = refl
deed_slot s slot (Changing admin what) = refl
deed_slot s slot (Showing admin count) = refl
deed_slot s slot (Querying readings count) = looks_slots s.number slot readings (remark (Rows count) ∷ [])
deed_slot s slot (Refusing error) = refl
deed_slot s slot (Starting subject) = refl
deed_slot s slot (Staging subject) = stage_slots s.number slot s.opened.events (StartsEvent subject ∷ [])
deed_slot s slot StageEnding = stage_slots s.number slot s.opened.events []
deed_slot s slot (Ending numbers) = stage_slots s.number slot s.opened.events (EndsEvent numbers ∷ [])
deed_slot s slot (Spending time) = refl
deed_slot s slot Closing = refl

parts_slot : (context : Context) (s : State) (ps : List Part) → AreParts s ps → (after_lines context (lines_of ps) (entries_of ps)).slot ≡ slots_behind s.number context.slot ps
parts_slot context s [] are = refl
parts_slot context s (p ∷ ps) are =
    let subject : Option Subject = subject_of (line_of p.deed) in
    let next : Context = after context (line_of p.deed) (part_entries p) in
    let here : next.slot ≡ slot_behind s.number context.slot p.deed =
    turns_slot subject (turned context) s p.turns are.0.are_turns ∙ (ap (slots_by s.number context.slot) are.0.steps_are ∙ deed_slot s context.slot p.deed) in
    parts_slot next (state_after s p.turns) ps are.1
    ∙ (ap (λ z. slots_behind z next.slot ps) (turns_number s p.turns are.0.are_turns) ∙ ap (λ z. slots_behind s.number z ps) here)

behind_then : (number : ℕ) (slot : Option ℕ) (xs ys : List Part) → slots_behind number slot (xs ++ ys) ≡ slots_behind number (slots_behind number slot xs) ys
behind_then number slot [] ys = refl
behind_then number slot (x ∷ xs) ys = behind_then number (slot_behind number slot x.deed) xs ys

pub told_slot : (session : ℕ) (context : Context) (stints : List Stint) → AreDone stints → (told_by session context (blocks_of stints)).slot ≡ slots_behind session context.slot (parts_by session stints)
told_slot session context [] done = refl
told_slot session context (stint ∷ stints) done = at (stint.session == session) refl (λ now. told_slot session now stints done.1) where
  at : (b : Bool) → (stint.session == session) ≡ b
      → ((now : Context) → (told_by session now (blocks_of stints)).slot ≡ slots_behind session now.slot (parts_by session stints))
      → (told_by session (cond b (after_lines context (lines_of stint.parts) (entries_of stint.parts)) context) (blocks_of stints)).slot
      ≡ slots_behind session context.slot (cond b stint.parts [] ++ parts_by session stints)
  at true e rest =
      let now : Context = after_lines context (lines_of stint.parts) (entries_of stint.parts) in
      let own : now.slot ≡ slots_behind session context.slot stint.parts =
      parts_slot context done.0.from stint.parts done.0.are_parts ∙ ap (λ z. slots_behind z context.slot stint.parts) (done.0.number_is ∙ eqb-true stint.session session e) in
      rest now
      ∙ (ap (λ z. slots_behind session z (parts_by session stints)) own ∙ sym (behind_then session context.slot stint.parts (parts_by session stints)))
  at false e rest = rest context

-- all that a session does, through all its stints
abbrev pub own_doings : ℕ → List Spell → List Doing
own_doings session [] = []
own_doings session (spell ∷ spells) = cond (spell.session == session) spell.doings [] ++ own_doings session spells

parts_join : (xs ys : List Doing) → parts_in (xs ++ ys) ≡ parts_in xs ++ parts_in ys
parts_join [] ys = refl
parts_join (x ∷ xs) ys = ap (λ z. x.part ∷ z) (parts_join xs ys)

pub own_parts : (session : ℕ) (spells : List Spell) → parts_by session (stints_of spells) ≡ parts_in (own_doings session spells)
own_parts session [] = refl
own_parts session (spell ∷ spells) =
    at (spell.session == session) (own_parts session spells) ∙ sym (parts_join (cond (spell.session == session) spell.doings []) (own_doings session spells)) where
      at : (b : Bool) → parts_by session (stints_of spells) ≡ parts_in (own_doings session spells) → cond b (parts_in spell.doings) [] ++ parts_by session (stints_of spells) ≡ parts_in (cond b spell.doings []) ++ parts_in (own_doings session spells)
      at true e = ap (λ z. parts_in spell.doings ++ z) e
      at false e = e

lined_then : (session made made2 : ℕ) (xs ys : List Doing) → made2 ≡ made + actions_in xs → AreLined session made xs → AreLined session made2 ys → AreLined session made (xs ++ ys)
lined_then session made made2 [] ys e a b = subst (λ z. AreLined session z ys) (e ∙ zero_more made) b where
  zero_more : (n : ℕ) → n + 0 ≡ n
  zero_more n = omega arith
lined_then session made made2 (x ∷ xs) ys e a b =
    (a.0, lined_then session (made + one_of (action_of x.part.deed)) made2 xs ys (omega (arith, e)) a.1 b)

pub own_lined : (session : ℕ) (made : ℕ → ℕ) (spells : List Spell) → AllLined made spells → AreLined session (made session) (own_doings session spells)
own_lined session made [] l = tt
own_lined session made (spell ∷ spells) l = at (spell.session == session) refl (own_lined session (more_made made spell) spells l.1) where
  at : (b : Bool) → (spell.session == session) ≡ b → AreLined session (more_made made spell session) (own_doings session spells) → AreLined session (made session) (cond b spell.doings [] ++ own_doings session spells)
  at true e rest =
      lined_then session (made session) (more_made made spell session) spell.doings (own_doings session spells) (ap (λ b. made session + cond b (actions_in spell.doings) 0) e)
      (subst (λ z. AreLined z (made z) spell.doings) (eqb-true spell.session session e) l.0) rest
  at false e rest =
      subst (λ z. AreLined session z (own_doings session spells)) (ap (λ b. made session + cond b (actions_in spell.doings) 0) e ∙ zero_more (made session)) rest where
        zero_more : (n : ℕ) → n + 0 ≡ n
        zero_more n = omega arith

first_then : (xs ys : List Doing) → DoingsConnectFirst xs → DoingsConnectFirst ys → DoingsConnectFirst (xs ++ ys)
first_then [] ys a b = b
first_then (x ∷ xs) ys a b = (a.0, first_then xs ys a.1 b)

own_first : (session : ℕ) (spells : List Spell) → AllConnectFirst spells → DoingsConnectFirst (own_doings session spells)
own_first session [] f = tt
own_first session (spell ∷ spells) f = first_then (cond (spell.session == session) spell.doings []) (own_doings session spells) (at (spell.session == session)) (own_first session spells f.1) where
  at : (b : Bool) → DoingsConnectFirst (cond b spell.doings [])
  at true = f.0
  at false = tt

-- behind its first action it connects no more
record IsSettled (session : ℕ) (slot : Option ℕ) (ds : List Doing) : Type 0 where
  pub same : slots_behind session slot (parts_in ds) ≡ slot
  pub placed : (any : Option ℕ) → AllPlaced any session (parts_in ds)

no_connect : (session made : ℕ) (label : Label) (labels : List Label) (deed : Deed) (slot any : Option ℕ) → 0 < made
    → IfSome (action_of deed) (λ number. (number ≡ length labels + 1) × (label ≡ record { session = session; line = made + 1 })) → ConnectsFirst label deed
    → (slot_behind session slot deed ≡ slot) × IsPlaced any session deed
no_connect session made label labels (Connecting admin user host) slot any up l f =
    let line : label.line ≡ made + 1 = ap (λ (z : Label). z.line) l.1 in
    absurd (omega (arith, line, f, up))
no_connect session made label labels (Quitting admin) slot any up l f = (refl, tt)
no_connect session made label labels (Truncating admin what) slot any up l f = (refl, tt)
no_connect session made label labels (Changing admin what) slot any up l f = (refl, tt)
no_connect session made label labels (Showing admin count) slot any up l f = (refl, tt)
no_connect session made label labels (Querying readings count) slot any up l f = (refl, tt)
no_connect session made label labels (Refusing error) slot any up l f = (refl, tt)
no_connect session made label labels (Starting subject) slot any up l f = (refl, tt)
no_connect session made label labels (Staging subject) slot any up l f = (refl, tt)
no_connect session made label labels StageEnding slot any up l f = (refl, tt)
no_connect session made label labels (Ending numbers) slot any up l f = (refl, tt)
no_connect session made label labels (Spending time) slot any up l f = (refl, tt)
no_connect session made label labels Closing slot any up l f = (refl, tt)

settled : (session made : ℕ) (slot : Option ℕ) (ds : List Doing) → 0 < made → AreLined session made ds → DoingsConnectFirst ds → IsSettled session slot ds
settled session made slot [] up l f = record { same = refl; placed = λ any. tt }
settled session made slot (d ∷ ds) up l f =
    let r : IsSettled session slot ds = settled session (made + one_of (action_of d.part.deed)) slot ds (omega (arith, up)) l.1 f.1 in
    record {
      same = ap (λ z. slots_behind session z (parts_in ds)) (no_connect session made d.label d.labels d.part.deed slot slot up l.0 f.0).0 ∙ r.same;
      placed = λ any. ((no_connect session made d.label d.labels d.part.deed slot any up l.0 f.0).1, r.placed any);
    }

placed_by : (session : ℕ) (slot : Option ℕ) (ds : List Doing) → AreLined session 0 ds → DoingsConnectFirst ds → AllPlaced (slots_behind session slot (parts_in ds)) session (parts_in ds)
placed_by session slot [] l f = tt
placed_by session slot (d ∷ ds) l f = by_deed d.part.deed l.1 f.0 (λ m. placed_by session slot ds m f.1) where
  quiet : (deed : Deed) → AllPlaced (slots_behind session slot (parts_in ds)) session (parts_in ds) → ((any : Option ℕ) → IsPlaced any session deed) → IsPlaced (slots_behind session slot (parts_in ds)) session deed × AllPlaced (slots_behind session slot (parts_in ds)) session (parts_in ds)
  quiet deed rest any = (any (slots_behind session slot (parts_in ds)), rest)

  by_deed : (deed : Deed) → AreLined session (0 + one_of (action_of deed)) ds → ConnectsFirst d.label deed
      → (AreLined session 0 ds → AllPlaced (slots_behind session slot (parts_in ds)) session (parts_in ds))
      → IsPlaced (slots_behind session (slot_behind session slot deed) (parts_in ds)) session deed × AllPlaced (slots_behind session (slot_behind session slot deed) (parts_in ds)) session (parts_in ds)
  by_deed (Connecting admin user host) l c rest =
      let s : IsSettled session (placed_of (seat_at admin session user host)).thread ds = settled session 1 (placed_of (seat_at admin session user host)).thread ds (omega arith) l f.1 in
      (sym s.same, s.placed (slots_behind session (placed_of (seat_at admin session user host)).thread (parts_in ds)))
  by_deed (Quitting admin) l c rest =
      let s : IsSettled session slot ds = settled session 1 slot ds (omega arith) l f.1 in
      (tt, s.placed (slots_behind session slot (parts_in ds)))
  by_deed (Truncating admin what) l c rest =
      let s : IsSettled session slot ds = settled session 1 slot ds (omega arith) l f.1 in
      (tt, s.placed (slots_behind session slot (parts_in ds)))
  by_deed (Changing admin what) l c rest =
      let s : IsSettled session slot ds = settled session 1 slot ds (omega arith) l f.1 in
      (tt, s.placed (slots_behind session slot (parts_in ds)))
  by_deed (Showing admin count) l c rest =
      let s : IsSettled session slot ds = settled session 1 slot ds (omega arith) l f.1 in
      (tt, s.placed (slots_behind session slot (parts_in ds)))
  by_deed (Querying readings count) l c rest = quiet (Querying readings count) (rest l) (λ any. tt)
  by_deed (Refusing error) l c rest = quiet (Refusing error) (rest l) (λ any. tt)
  by_deed (Starting subject) l c rest = quiet (Starting subject) (rest l) (λ any. tt)
  by_deed (Staging subject) l c rest = quiet (Staging subject) (rest l) (λ any. tt)
  by_deed StageEnding l c rest = quiet StageEnding (rest l) (λ any. tt)
  by_deed (Ending numbers) l c rest = quiet (Ending numbers) (rest l) (λ any. tt)
  by_deed (Spending time) l c rest = quiet (Spending time) (rest l) (λ any. tt)
  by_deed Closing l c rest = quiet Closing (rest l) (λ any. tt)

-- so each session is placed in the slot that its journal tells
pub all_placed : (session : ℕ) (context : Context) (made : ℕ → ℕ) (spells : List Spell) → made session ≡ 0 → AreDone (stints_of spells) → AllLined made spells → AllConnectFirst spells
    → AllPlaced (told_by session context (blocks_of (stints_of spells))).slot session (parts_by session (stints_of spells))
all_placed session context made spells none done l f =
    let ds : List Doing = own_doings session spells in
    let lined : AreLined session 0 ds = subst (λ z. AreLined session z ds) none (own_lined session made spells l) in
    let e : parts_by session (stints_of spells) ≡ parts_in ds = own_parts session spells in
    subst (λ z. AllPlaced z session (parts_by session (stints_of spells))) (sym (told_slot session context (stints_of spells) done))
    (subst (λ z. AllPlaced (slots_behind session context.slot z) session z) (sym e) (placed_by session context.slot ds lined (own_first session spells f)))
