-- Each step of a session brings what is due: to the summary rows and those of digests, and to the places of rings.
use Rattle.std.proofs.Common.{ℕ, ◌≡◌, ◌<◌, ◌+◌, ◌&&◌, Bool, true, false, cond, List, [], ◌∷◌, ◌++◌, length, ◌%◌, ◌*◌, Option, Some, None, eq-eqb, refl, ap, sym, ◌∙◌, subst, zero-add}
use Rattle.std.proofs.lemmas.Bool.{true≢false, false≢true}
use Rattle.std.proofs.lemmas.List.{append_assoc}
use Rattle.pfs_admin.specs.ConnectionAsks.{connect_entry}
use Rattle.pfs_admin.specs.AdministrationStates.{State as Administration}
use Rattle.pfs_admin.specs.SetupStatements.{reply_to, work_of_statement}
use Rattle.pfs_admin.specs.Truncations.{work_of_truncation}
use Rattle.pfs_admin.specs.Works.{Work, signs_entries, flagging_entries}
use Rattle.pfs_admin.specs.declared.changes.Reply.{Reply}
use Rattle.pfs_admin.specs.declared.changes.SetupStatement.{SetupStatement}
use Rattle.pfs_admin.specs.declared.changes.SetupStatement.TheVariants.{Update, Insert, Delete, Show}
use Rattle.pfs_consumers.specs.Tree.{acts_of}
use Rattle.pfs_consumers.specs.declared.Consumer.{Consumer}
use Rattle.pfs_containers.specs.declared.containers.Seated.{Seated}
use Rattle.pfs_event.specs.Verdicts.{is_let_through}
use Rattle.pfs_event.specs.declared.entry.Entry.{Entry}
use Rattle.pfs_event.specs.declared.entry.Entry.TheVariants as says
use Rattle.pfs_event.specs.declared.event.Event.{Event}
use Rattle.pfs_event.specs.declared.kind.EventKind.{EventKind}
use Rattle.pfs_event.specs.declared.kind.EventKind.TheVariants as kinds
use Rattle.pfs_event.specs.declared.open.Open.{Open}
use Rattle.pfs_event.specs.declared.verdict.Verdict.{Verdict}
use Rattle.pfs_levels.specs.Calls.{Call, row_in}
use Rattle.pfs_levels.specs.Moves.{moves_entries}
use Rattle.pfs_levels.specs.declared.answers.Added.{Added}
use Rattle.pfs_levels.specs.declared.answers.Added.TheVariants.{Counted, Held}
use Rattle.pfs_levels.specs.declared.answers.Word.{Word}
use Rattle.pfs_model.specs.EntryAsks.{cell_row, digest_row, is_connect, is_head}
use Rattle.pfs_model.specs.Contexts.{Context, noted, after_entries}
use Rattle.pfs_model.specs.Puts.{Due, Adds, Puts, PutsLong, due_if, is_paid, current_due, dues_at_start, ArePaid}
use Rattle.pfs_model.specs.Rings.{ring_number, current_row, history_row, history_put, place_of_start}
use Rattle.pfs_model.specs.SetupFlags.{is_digested, is_offered_current, is_offered_at_end, is_statement, is_wait, has_history, history_consumer, long_consumer, thread_word}
use Rattle.pfs_model.specs.Shapes.{counted_slot}
use Rattle.pfs_model.specs.declared.lines.Opened.{Opened}
use Rattle.pfs_model.specs.declared.lines.Subject.{Subject}
use Rattle.pfs_law_session.proofs.ActionShapes.{AreAll, all_then, is_quiet, reply_last, connect_fits, connect_plain, quiet_plains, work_quiet}
use Rattle.pfs_law_session.proofs.CommonState.{same_count}
use Rattle.pfs_law_session.proofs.EndEntries.{Innermost, innermost_of, counted_cell, summary_row, digest_of_number, added_to, ended_from}
use Rattle.pfs_law_session.proofs.LinePieces.{is_plain}
use Rattle.pfs_law_session.proofs.RingPuts.{is_ring, rings_of, put_ring, ring_behind, ring_plain}
use Rattle.pfs_law_session.proofs.SettlementEntries.{ArePlain, settle_plain}
use Rattle.pfs_law_session.proofs.StartEntries.{loads_behind}
use Rattle.pfs_law_session.proofs.StartLoads.{consumers_in, thread_in, class_in, table_in, event_of, start_as, start_offered}
use Rattle.pfs_law_session.specs.Agreement.{LoadsAgree, AreAlike, Agrees}
use Rattle.pfs_rings.specs.RingPlaces.{depths}
use Rattle.pfs_rings.specs.declared.puts.Put.{Put}
use Rattle.pfs_session.proofs.EndFrames.{added_leaves}
use Rattle.pfs_session.specs.Ends.{Ends, EndsIn, EndsThrough, DigestsIn, added_entry, cell_in, ended_event}
use Rattle.pfs_session.specs.EventPuts.{ArePlaced, PutIn, depth_of, goes_on, put_entries}
use Rattle.pfs_session.specs.Settlements.{Settles, Paid, owed_by, owed_by_state, settle_head, pay_entries, paid_entries}
use Rattle.pfs_session.specs.Starts.{Starts, verdict_in, if_through}
use Rattle.pfs_session.specs.SessionStates.{State, Owed, next_of}
use Rattle.pfs_session.specs.Turns.{Truncated, Changed, Works, reply_entries}
use Rattle.pfs_session.specs.declared.events.Numbers.{Numbers}
use Rattle.pfs_session.specs.declared.nexts.Nexts.{Nexts}
use Rattle.pfs_rows.specs.declared.truncations.Truncation.{Truncation}
use Rattle.pfs_law_script.proofs.HistoryDues.{Marks, more, all_more, more_then, IsHome, own_dues, history_by, PaidAt, front_of, AllPaid, front_then, paid_then}
use Rattle.pfs_law_script.proofs.RingDues.{Fits, pays_then, current_paid, history_paid, long_is_paid, current_fits, rings_fit}

-- entries that bring what is due, begin a line or an event where there are some, and leave these next places
pub record Brings (flags : ℕ → ℕ → ℕ) (home : Option ℕ) (subject : Option Subject) (context : Context) (marks : Marks) (entries : List Entry) (nexts : Nexts) : Type 0 where
  pub paid : AllPaid flags home subject context marks entries
  pub headed : front_of entries ≡ []
  pub fits : Fits (all_more home subject context entries marks) nexts

-- a put to a place of a thread
abbrev is_put : Entry → Bool
is_put (says.Ring row version) = true
is_put _ = false

-- entries that are none add nothing
none_more : (home : Option ℕ) (context : Context) (e : Entry) (marks : Marks) (kind : EventKind) → is_put e ≡ false → more home context e marks kind ≡ marks kind
none_more None context e marks kind q = refl
none_more (Some own) context e marks kind q = by_slot context.slot e q where
  by_slot : (slot : Option ℕ) (e : Entry) → is_put e ≡ false → length (history_put own (ring_number kind) slot e) + marks kind ≡ marks kind
  by_slot None e q = zero-add (marks kind)
  by_slot (Some slot) (says.Ring row version) q = absurd (true≢false q)
  by_slot (Some slot) _ q = zero-add (marks kind)

pub none_all_more : (home : Option ℕ) (subject : Option Subject) (context : Context) (es : List Entry) (marks : Marks) (kind : EventKind) → AreAll false is_put es → all_more home subject context es marks kind ≡ marks kind
none_all_more home subject context [] marks kind q = refl
none_all_more home subject context (e ∷ es) marks kind q = none_all_more home subject (noted subject context e) es (more home context e marks) kind q.1 ∙ none_more home context e marks kind q.0

none_fits : (home : Option ℕ) (subject : Option Subject) (context : Context) (es : List Entry) (marks : Marks) (nexts : Nexts) → AreAll false is_put es → Fits marks nexts → Fits (all_more home subject context es marks) nexts
none_fits home subject context es marks nexts q fits = λ kind. ap (λ n. n % 10) (none_all_more home subject context es marks kind q) ∙ fits kind

-- entries that start and end no event
plain_paid_at : (flags : ℕ → ℕ → ℕ) (home : Option ℕ) (subject : Option Subject) (context : Context) (marks : Marks) (e : Entry) (behind : List Entry) → is_plain e ≡ true → PaidAt flags home subject context marks e behind
plain_paid_at flags home subject context marks (says.Start _ _ _ _ _ _) behind q = cc
plain_paid_at flags home subject context marks (says.End _ _ _ _) behind q = cc
plain_paid_at flags home subject context marks _ behind q = tt

plain_paid : (flags : ℕ → ℕ → ℕ) (home : Option ℕ) (subject : Option Subject) (context : Context) (marks : Marks) (es : List Entry) → ArePlain es → AllPaid flags home subject context marks es
plain_paid flags home subject context marks [] q = tt
plain_paid flags home subject context marks (e ∷ es) q =
    (plain_paid_at flags home subject context marks e (front_of es) q.0, plain_paid flags home subject (noted subject context e) (more home context e marks) es q.1)

-- entries that begin nothing
all_front : (es : List Entry) → AreAll false is_head es → front_of es ≡ es
all_front [] q = refl
all_front (e ∷ es) q = ap (λ b. cond b [] (e ∷ front_of es)) q.0 ∙ ap (λ (z : List Entry). e ∷ z) (all_front es q.1)

each_all : (b c : Bool) (test other : Entry → Bool) → ((e : Entry) → test e ≡ b → other e ≡ c) → (es : List Entry) → AreAll b test es → AreAll c other es
each_all b c test other f [] q = tt
each_all b c test other f (e ∷ es) q = (f e q.0, each_all b c test other f es q.1)

quiet_no_put : (e : Entry) → is_quiet e ≡ true → is_put e ≡ false
quiet_no_put (says.Ring row version) q = absurd (false≢true q)
quiet_no_put _ q = refl

connect_no_put : (action : ℕ) (seat : Option Seated) → is_put (connect_entry action seat) ≡ false
connect_no_put action None = refl
connect_no_put action (Some seat) = refl

replies_quiet : (what : SetupStatement) (reply : Reply) → AreAll true is_quiet (reply_entries what reply)
replies_quiet (Update update) reply = ((reply_last reply).quiet, tt)
replies_quiet (Insert insert) reply = ((reply_last reply).quiet, tt)
replies_quiet (Delete delete) reply = ((reply_last reply).quiet, tt)
replies_quiet Show reply = tt

connect_head : (e : Entry) → is_connect e ≡ true → is_head e ≡ true
connect_head (says.Connect _ _ _ _ _) q = refl
connect_head _ q = cc

-- settling
not_none : {A : Type 0} (xs : List A) (x : A) → xs ++ x ∷ [] ≡ [] → ⊥
not_none [] x e = absurd (cc)
not_none (y ∷ ys) x e = absurd (cc)

none_paid : (ps : List Paid) → owed_by ps ≡ [] → paid_entries ps ≡ []
none_paid [] e = refl
none_paid (p ∷ ps) e = absurd (not_none (owed_by ps) p.owed e)

settled_front : (owed : List Owed) (ps : List Paid) → owed_by ps ≡ owed → front_of (settle_head owed ++ paid_entries ps) ≡ []
settled_front [] ps e = ap front_of (none_paid ps e)
settled_front (one ∷ others) ps e = refl

paid_no_put : (ps : List Paid) → AreAll false is_put (paid_entries ps)
paid_no_put [] = tt
paid_no_put (p ∷ ps) = all_then false is_put (paid_entries ps) (pay_entries p) (paid_no_put ps) (refl, tt)

settle_no_put : (owed : List Owed) (ps : List Paid) → AreAll false is_put (settle_head owed ++ paid_entries ps)
settle_no_put [] ps = paid_no_put ps
settle_no_put (one ∷ others) ps = (refl, paid_no_put ps)

-- an end
added_head : (answer : Added) → is_head (added_entry answer) ≡ false
added_head (Counted row version) = refl
added_head (Held row first second) = refl

added_plain : (answer : Added) → is_plain (added_entry answer) ≡ true
added_plain (Counted row version) = refl
added_plain (Held row first second) = refl

added_no_put : (answer : Added) → is_put (added_entry answer) ≡ false
added_no_put (Counted row version) = refl
added_no_put (Held row first second) = refl

pays_row : (row : ℕ) (answer : Added) → row_in answer ≡ row → is_paid (Adds row) (added_entry answer) ≡ true
pays_row row (Counted at version) e = eq-eqb at row e
pays_row row (Held at first second) e = eq-eqb at row e

plain_all : (es : List Entry) → AreAll true is_ring es → ArePlain es
plain_all [] q = tt
plain_all (e ∷ es) q = (ring_plain e q.0, plain_all es q.1)

plain_both : (es fs : List Entry) → ArePlain es → ArePlain fs → ArePlain (es ++ fs)
plain_both [] fs p q = q
plain_both (e ∷ es) fs p q = (p.0, plain_both es fs p.1 q)

-- a current place is the same by the journal and by the session
place_same : (flags : ℕ → ℕ → ℕ) (slot : Option ℕ) (own : ℕ) (kind other : EventKind) (events : List Opened) (others : List Open) → kind ≡ other → AreAlike flags slot events others
    → place_of_start own kind events ≡ current_row own other (depth_of other others)
place_same flags slot own kind other events others e are = by_kind kind ∙ ap (λ (z : EventKind). current_row own z (depth_of z others)) e where
  by_kind : (kind : EventKind) → place_of_start own kind events ≡ current_row own kind (depth_of kind others)
  by_kind kinds.Wait = ap (current_row own kinds.Wait) (same_count flags slot is_wait events others are)
  by_kind kinds.Stage = refl
  by_kind kinds.Statement = ap (current_row own kinds.Statement) (same_count flags slot is_statement events others are)
  by_kind kinds.Transaction = refl

module _ (flags : ℕ → ℕ → ℕ) (home : Option ℕ) (subject : Option Subject) (context : Context) (marks : Marks) where
  pub brings_none : (nexts : Nexts) → Fits marks nexts → Brings flags home subject context marks [] nexts
  brings_none nexts fits = record { paid = tt; headed = refl; fits = fits }

  pub brings_then : (es fs : List Entry) (mid nexts : Nexts) → Brings flags home subject context marks es mid
      → ((m : Marks) → Fits m mid → Brings flags home subject (after_entries subject context es) m fs nexts) → Brings flags home subject context marks (es ++ fs) nexts
  brings_then es fs mid nexts a go =
      let behind : Marks = all_more home subject context es marks in
      let b : Brings flags home subject (after_entries subject context es) behind fs nexts = go behind a.fits in
      record {
        paid = paid_then flags home subject context marks es fs b.headed a.paid b.paid;
        headed = front_then es fs b.headed ∙ a.headed;
        fits = subst (λ (z : Marks). Fits z nexts) (sym (more_then home subject context es fs marks)) b.fits;
      }

  plain_brings : (e : Entry) (es : List Entry) (nexts : Nexts) → is_head e ≡ true → is_plain e ≡ true → ArePlain es → is_put e ≡ false → AreAll false is_put es → Fits marks nexts
      → Brings flags home subject context marks (e ∷ es) nexts
  plain_brings e es nexts head plain all put none fits = record {
    paid = plain_paid flags home subject context marks (e ∷ es) (plain, all);
    headed = ap (λ b. cond b [] (e ∷ front_of es)) head;
    fits = none_fits home subject context (e ∷ es) marks nexts (put, none) fits;
  }

  pub works_bring : (work : Work) (words : List Word) (head : Entry) (calls : List Call) (entries : List Entry) (nexts : Nexts) → is_head head ≡ true → is_plain head ≡ true → is_put head ≡ false
      → Works work words (head ∷ []) calls entries → Fits marks nexts → Brings flags home subject context marks entries nexts
  works_bring work words head calls entries nexts is plain put w fits =
      let rest : List Entry = moves_entries w.moves ++ (signs_entries w.made ++ flagging_entries words work.flags) in
      let quiet : AreAll true is_quiet rest = work_quiet w.moves w.made words work.flags in
      subst (λ (z : List Entry). Brings flags home subject context marks z nexts) (sym w.entries_are)
      (plain_brings head rest nexts is plain (quiet_plains rest quiet) put (each_all true false is_quiet is_put quiet_no_put rest quiet) fits)

  pub connect_brings : (work : Work) (words : List Word) (action : ℕ) (seat : Option Seated) (calls : List Call) (entries : List Entry) (nexts : Nexts)
      → Works work words (connect_entry action seat ∷ []) calls entries → Fits marks nexts → Brings flags home subject context marks entries nexts
  connect_brings work words action seat calls entries nexts w fits =
      works_bring work words (connect_entry action seat) calls entries nexts (connect_head _ (connect_fits action seat)) (connect_plain action seat) (connect_no_put action seat) w fits

  -- entries of an action, and behind them those that answer it
  acted_bring : (work : Work) (words : List Word) (action : ℕ) (calls : List Call) (changed tail : List Entry) (nexts : Nexts) → Works work words (says.Act action ∷ []) calls changed
      → AreAll true is_quiet tail → Fits marks nexts → Brings flags home subject context marks (changed ++ tail) nexts
  acted_bring work words action calls changed tail nexts w last fits =
      let own : List Entry = moves_entries w.moves ++ (signs_entries w.made ++ flagging_entries words work.flags) in
      let quiet : AreAll true is_quiet (own ++ tail) = all_then true is_quiet own tail (work_quiet w.moves w.made words work.flags) last in
      subst (λ (z : List Entry). Brings flags home subject context marks z nexts) (sym (ap (λ (z : List Entry). z ++ tail) w.entries_are))
      (plain_brings (says.Act action) (own ++ tail) nexts refl refl (quiet_plains _ quiet) refl (each_all true false is_quiet is_put quiet_no_put _ quiet) fits)

  -- a truncation's answer stands behind what it changes
  pub truncated_bring : (s : State) (admin : Administration) (what : Truncation) (calls : List Call) (entries : List Entry) (after : State) (nexts : Nexts)
      → Truncated s admin what calls entries after → Fits marks nexts → Brings flags home subject context marks entries nexts
  truncated_bring s admin what calls entries after nexts d fits =
      subst (λ (z : List Entry). Brings flags home subject context marks z nexts) (sym d.entries_are)
      (acted_bring (work_of_truncation admin what) admin.words (admin.actions + 1) calls d.changes (says.Reply 0 ∷ []) nexts d.works (refl, tt) fits)

  -- so does that of a statement on the setup tables, and behind it whatever is told of its rows
  pub changed_bring : (s : State) (admin : Administration) (what : SetupStatement) (calls : List Call) (entries : List Entry) (after : State) (more : List Entry) (nexts : Nexts)
      → Changed s admin what calls entries after → AreAll true is_quiet more → Fits marks nexts → Brings flags home subject context marks (entries ++ more) nexts
  changed_bring s admin what calls entries after more nexts d last fits =
      let answer : List Entry = reply_entries what (reply_to admin what) in
      subst (λ (z : List Entry). Brings flags home subject context marks z nexts) (sym (ap (λ (z : List Entry). z ++ more) d.entries_are ∙ append_assoc d.changes answer more))
      (acted_bring (work_of_statement admin what) admin.words (admin.actions + 1) calls d.changes (answer ++ more) nexts d.works
      (all_then true is_quiet answer more (replies_quiet what (reply_to admin what)) last) fits)

  -- entries of inquiries, of which the first begins a line
  pub quiet_brings : (e : Entry) (es : List Entry) (nexts : Nexts) → is_head e ≡ true → AreAll true is_quiet (e ∷ es) → Fits marks nexts → Brings flags home subject context marks (e ∷ es) nexts
  quiet_brings e es nexts head quiet fits =
      let plain : ArePlain (e ∷ es) = quiet_plains (e ∷ es) quiet in
      let none : AreAll false is_put (e ∷ es) = each_all true false is_quiet is_put quiet_no_put (e ∷ es) quiet in
      plain_brings e es nexts head plain.0 plain.1 none.0 none.1 fits

  pub settles_bring : (s : State) (calls : List Call) (entries : List Entry) (after : State) → Settles s calls entries after → Fits marks s.nexts → Brings flags home subject context marks entries after.nexts
  settles_bring s calls entries after d fits =
      let owed : List Owed = owed_by_state s in
      let next : Fits marks after.nexts = subst (λ (z : State). Fits marks z.nexts) (sym d.after_is) fits in
      subst (λ (z : List Entry). Brings flags home subject context marks z after.nexts) (sym d.entries_are)
      (record {
        paid = plain_paid flags home subject context marks (settle_head owed ++ paid_entries d.paid) (settle_plain owed d.paid);
        headed = settled_front owed d.paid d.owed_are;
        fits = none_fits home subject context (settle_head owed ++ paid_entries d.paid) marks after.nexts (settle_no_put owed d.paid) next;
      })

-- a start, with what becomes of its put
module _ (flags : ℕ → ℕ → ℕ) (home : Option ℕ) (context : Context) (marks : Marks) (s : State) (what : Subject) (calls : List Call) (entries : List Entry) (after : State) (a : Agrees flags context s)
    (seat : IsHome home s.place.thread) (d : Starts s what calls entries after) (deep : d.begins.what.placed ≡ true → depth_of d.begins.what.kind s.opened.events < depths d.begins.what.kind)
    (loads : LoadsAgree flags calls) (fits : Fits marks s.nexts) where
  abbrev verdict : Verdict
  verdict = verdict_in s what d.begins.seen

  abbrev Start : Entry
  Start = says.Start (if_through verdict (s.drawn + 1)) verdict (consumers_in d.begins.seen) (thread_in d.begins.seen) (class_in d.begins.seen) (table_in d.begins.seen)

  abbrev started_event : Opened
  started_event = event_of what verdict context.begun (s.drawn + 1) d.begins.seen

  started_entries : entries ≡ Start ∷ put_entries d.current
  started_entries = d.entries_are ∙ (ap (λ z. z ++ put_entries d.current) d.begins.entries_are ∙ ap (λ (z : Entry). z ∷ put_entries d.current) (start_as verdict (s.drawn + 1) d.begins.seen))

  own_offer : is_offered_current flags s.place.thread started_event ≡ d.begins.what.placed
  own_offer =
      start_offered flags s.place.thread what verdict context.begun (s.drawn + 1) d.begins.seen what.class refl d.begins.loaded
      (subst (LoadsAgree flags) d.begins.calls_are (loads_behind flags d.put_calls d.begun_calls (subst (LoadsAgree flags) d.calls_are loads)))
      ∙ sym d.begins.opened.placed_is

  abbrev StartPaid : Option ℕ → Type 0
  StartPaid slot = ArePaid (dues_at_start flags slot (started_event ∷ context.opened)) (put_entries d.current)

  start_paid : (slot : Option ℕ) → s.place.thread ≡ slot → PutIn slot d.begins.what (depth_of d.begins.what.kind s.opened.events) d.begins.what.event d.current d.put_calls → StartPaid slot
  start_paid None q x = subst (λ (z : Option Put). ArePaid [] (put_entries z)) (sym x.0) tt
  start_paid (Some slot) q x =
      let offered : is_offered_current flags (Some slot) started_event ≡ d.begins.what.placed = ap (λ (z : Option ℕ). is_offered_current flags z started_event) (sym q) ∙ own_offer in
      let place : place_of_start slot what.kind context.opened ≡ current_row slot d.begins.what.kind (depth_of d.begins.what.kind s.opened.events) =
      place_same flags s.place.thread slot what.kind d.begins.what.kind context.opened s.opened.events (sym d.begins.opened.kind) a.opened in
      subst (λ (z : List Due). ArePaid z (put_entries d.current)) (sym (ap (λ (b : Bool). due_if b (Puts (place_of_start slot what.kind context.opened))) offered ∙ ap (λ n. due_if d.begins.what.placed (Puts n)) place))
      (current_paid d.begins.what.placed slot d.begins.what.kind (depth_of d.begins.what.kind s.opened.events) d.begins.what.event d.current d.put_calls x)

  start_fits : (slot : Option ℕ) → s.place.thread ≡ slot → PutIn slot d.begins.what (depth_of d.begins.what.kind s.opened.events) d.begins.what.event d.current d.put_calls
      → (m : Marks) → Fits m s.nexts → Fits (all_more home (Some what) (noted (Some what) context Start) (put_entries d.current) m) s.nexts
  start_fits None q x m f = subst (λ (z : Option Put). Fits (all_more home (Some what) (noted (Some what) context Start) (put_entries z) m) s.nexts) (sym x.0) f
  start_fits (Some slot) q x m f =
      current_fits home (Some what) (noted (Some what) context Start) slot (seat slot q) (a.slot ∙ q) d.begins.what.placed d.begins.what.kind (depth_of d.begins.what.kind s.opened.events) d.begins.what.event
      d.current d.put_calls m s.nexts deep x f

  pub starts_bring : Brings flags home (Some what) context marks entries after.nexts
  starts_bring =
      let rings : List Entry = put_entries d.current in
      let ringed : AreAll true is_ring rings = put_ring d.current in
      let first : Fits (more home context Start marks) s.nexts = λ kind. ap (λ n. n % 10) (none_more home context Start marks kind refl) ∙ fits kind in
      let behind : Fits (all_more home (Some what) context (Start ∷ rings) marks) s.nexts = start_fits s.place.thread refl d.put_is (more home context Start marks) first in
      let paid : StartPaid context.slot = subst StartPaid (sym a.slot) (start_paid s.place.thread refl d.put_is) in
      let front : front_of rings ≡ rings = all_front rings (each_all true false is_ring is_head ring_behind rings ringed) in
      subst (λ (z : List Entry). Brings flags home (Some what) context marks z after.nexts) (sym started_entries)
      (subst (λ (z : State). Brings flags home (Some what) context marks (Start ∷ rings) z.nexts) (sym d.begins.after_is) (record {
        paid = (
          subst (ArePaid (dues_at_start flags context.slot (started_event ∷ context.opened))) (sym front) paid,
          plain_paid flags home (Some what) (noted (Some what) context Start) (more home context Start marks) rings (plain_all rings ringed),
        );
        headed = refl;
        fits = behind;
      }))

-- an end, with what becomes of its additions and puts
module _ (flags : ℕ → ℕ → ℕ) (home : Option ℕ) (subject : Option Subject) (context : Context) (marks : Marks) (s : State) (numbers : Numbers) (calls : List Call) (entries : List Entry) (after : State)
    (a : Agrees flags context s) (seat : IsHome home s.place.thread) (placed : ArePlaced s.opened.events) (d : Ends s numbers calls entries after) (loads : LoadsAgree flags calls) (fits : Fits marks s.nexts) where
  inner : Innermost flags s.place.thread context.opened d.what d.others
  inner = innermost_of flags s.place.thread context.opened d.what d.others (subst (AreAlike flags s.place.thread context.opened) d.innermost a.opened)

  deep_inner : d.what.placed ≡ true → depth_of d.what.kind d.others < depths d.what.kind
  deep_inner = (subst ArePlaced d.innermost placed).0

  seat_here : IsHome home context.slot
  seat_here = λ own q. seat own (sym a.slot ∙ q)

  -- what is due where an event ends that is let through, or isn't
  dues_are : (c t : Option ℕ) (b : Bool) → is_let_through d.what.verdict ≡ b
      → own_dues flags context.slot marks context.opened c t
      ≡ cond b (Adds (cell_row (counted_slot context.slot inner.event.verdict) inner.event.subject.cell)
      ∷ (due_if (is_digested flags context.slot inner.event) (Adds (digest_row inner.event.subject.digest))
      ++ (current_due flags context.slot inner.event inner.rest ++ history_by flags context.slot marks inner.event c t))) []
  dues_are c t b q =
      let dues : List Due = Adds (cell_row (counted_slot context.slot inner.event.verdict) inner.event.subject.cell)
      ∷ (due_if (is_digested flags context.slot inner.event) (Adds (digest_row inner.event.subject.digest))
      ++ (current_due flags context.slot inner.event inner.rest ++ history_by flags context.slot marks inner.event c t)) in
      ap (λ (z : List Opened). own_dues flags context.slot marks z c t) inner.is
      ∙ ap (λ (z : Bool). cond z dues []) (ap is_let_through inner.alike.verdict ∙ q)

  silent : is_let_through d.what.verdict ≡ false → entries ≡ says.End None None None None ∷ [] → after.nexts ≡ s.nexts → Brings flags home subject context marks entries after.nexts
  silent t e same =
      subst (λ (z : List Entry). Brings flags home subject context marks z after.nexts) (sym e) (record {
        paid = ((subst (λ (z : List Due). ArePaid z []) (sym (dues_are None None false t)) tt, seat_here), tt);
        headed = refl;
        fits = none_fits home subject context (says.End None None None None ∷ []) marks after.nexts (refl, tt) (subst (λ (z : Nexts). Fits marks z) (sym same) fits);
      })

  -- one that is let through, in the slot
  module _ (slot : ℕ) (q : s.place.thread ≡ Some slot) (t : is_let_through d.what.verdict ≡ true) (x : EndsThrough s slot d.what d.others numbers calls entries after) where
    abbrev consumers : Word
    consumers = x.adds.counts.consumers

    abbrev thread : Word
    thread = x.adds.counts.thread

    abbrev End : Entry
    End = says.End (Some d.what.event.number) (Some s.drawn) (Some consumers.version) (Some thread.version)

    abbrev answer : Entry
    answer = added_entry x.adds.counts.answer

    abbrev kind : EventKind
    kind = d.what.kind

    abbrev at_history : Bool
    at_history = goes_on d.what.placed (history_consumer kind) consumers.flags thread.flags

    abbrev at_long : Bool
    at_long = goes_on d.what.placed (long_consumer kind) consumers.flags thread.flags

    -- the flags that its end loaded
    count_loads : LoadsAgree flags x.adds.counted_calls
    count_loads =
        loads_behind flags x.adds.digested_calls x.adds.counted_calls
        (subst (LoadsAgree flags) x.adds.calls_are (loads_behind flags x.ring_calls x.added_calls (subst (LoadsAgree flags) x.calls_are loads)))

    words_loaded : (thread.flags ≡ flags (thread_word slot) thread.version) × (consumers.flags ≡ flags 0 consumers.version)
    words_loaded = let l = subst (LoadsAgree flags) x.adds.counts.calls_are count_loads in (l.1.0, l.1.1.0)

    among_is : x.among ≡ record s { opened = record s.opened { events = d.others }; held = x.among.held }
    among_is = added_leaves s slot d.what d.others numbers x.added_calls x.added_entries x.among x.adds

    -- each part of what is due
    offered : is_offered_current flags (Some slot) inner.event ≡ d.what.placed
    offered = ap (λ (z : Option ℕ). is_offered_current flags z inner.event) (sym q) ∙ inner.alike.placed

    goes : (ring : EventKind → Consumer) → is_offered_at_end ring flags (Some slot) inner.event (Some consumers.version) (Some thread.version) ≡ goes_on d.what.placed (ring kind) consumers.flags thread.flags
    goes ring =
        ap (λ (z : Bool). z && acts_of (flags 0 consumers.version) (ring inner.event.subject.kind) && has_history (flags (thread_word slot) thread.version)) offered
        ∙ (ap (λ (z : EventKind). d.what.placed && acts_of (flags 0 consumers.version) (ring z) && has_history (flags (thread_word slot) thread.version)) inner.alike.kind
        ∙ (ap (λ n. d.what.placed && acts_of n (ring kind) && has_history (flags (thread_word slot) thread.version)) (sym words_loaded.1)
        ∙ ap (λ n. d.what.placed && acts_of consumers.flags (ring kind) && has_history n) (sym words_loaded.0)))

    abbrev current_at : ℕ
    current_at = current_row slot kind (depth_of kind x.among.opened.events)

    abbrev history_at : ℕ
    history_at = history_row slot (ring_number kind) (next_of kind x.among.nexts)

    current_is : current_due flags context.slot inner.event inner.rest ≡ due_if d.what.placed (Puts current_at)
    current_is =
        ap (λ (z : Option ℕ). current_due flags z inner.event inner.rest) (a.slot ∙ q)
        ∙ (ap (λ (b : Bool). due_if b (Puts (place_of_start slot inner.event.subject.kind inner.rest))) offered
        ∙ ap (λ n. due_if d.what.placed (Puts n))
        (place_same flags s.place.thread slot inner.event.subject.kind kind inner.rest d.others inner.alike.kind inner.rest_alike
        ∙ ap (λ (z : State). current_row slot kind (depth_of kind z.opened.events)) (sym among_is)))

    history_place : history_row slot (ring_number inner.event.subject.kind) (marks inner.event.subject.kind) ≡ history_at
    history_place =
        ap (λ (z : EventKind). history_row slot (ring_number z) (marks z)) inner.alike.kind
        ∙ (ap (λ n. 8450 + 56 * slot + 16 + 10 * ring_number kind + n) (fits kind)
        ∙ ap (λ (z : State). history_row slot (ring_number kind) (next_of kind z.nexts)) (sym among_is))

    histories_are : history_by flags context.slot marks inner.event (Some consumers.version) (Some thread.version)
        ≡ due_if at_history (Puts history_at) ++ due_if at_long (PutsLong (ring_number kind))
    histories_are =
        let k : EventKind = inner.event.subject.kind in
        ap (λ (z : Option ℕ). history_by flags z marks inner.event (Some consumers.version) (Some thread.version)) (a.slot ∙ q)
        ∙ (ap (λ (b : Bool). due_if b (Puts (history_row slot (ring_number k) (marks k)))
        ++ due_if (is_offered_at_end long_consumer flags (Some slot) inner.event (Some consumers.version) (Some thread.version)) (PutsLong (ring_number k))) (goes history_consumer)
        ∙ (ap (λ (b : Bool). due_if at_history (Puts (history_row slot (ring_number k) (marks k))) ++ due_if b (PutsLong (ring_number k))) (goes long_consumer)
        ∙ (ap (λ n. due_if at_history (Puts n) ++ due_if at_long (PutsLong (ring_number k))) history_place
        ∙ ap (λ (z : EventKind). due_if at_history (Puts history_at) ++ due_if at_long (PutsLong (ring_number z))) inner.alike.kind)))

    digested_is : is_digested flags context.slot inner.event ≡ d.what.digested
    digested_is = ap (λ (z : Option ℕ). is_digested flags z inner.event) a.slot ∙ inner.alike.digested

    abbrev due_rings : List Due
    due_rings = due_if d.what.placed (Puts current_at) ++ (due_if at_history (Puts history_at) ++ due_if at_long (PutsLong (ring_number kind)))

    abbrev due_row : Due
    due_row = Adds (cell_row (counted_slot context.slot inner.event.verdict) inner.event.subject.cell)

    abbrev due_digest : List Due
    due_digest = due_if d.what.digested (Adds (digest_row inner.event.subject.digest))

    through_dues : own_dues flags context.slot marks context.opened (Some consumers.version) (Some thread.version) ≡ due_row ∷ (due_digest ++ due_rings)
    through_dues =
        dues_are (Some consumers.version) (Some thread.version) true t
        ∙ (ap (λ (b : Bool). due_row ∷ (due_if b (Adds (digest_row inner.event.subject.digest))
        ++ (current_due flags context.slot inner.event inner.rest ++ history_by flags context.slot marks inner.event (Some consumers.version) (Some thread.version)))) digested_is
        ∙ (ap (λ (z : List Due). due_row ∷ (due_digest ++ (z ++ history_by flags context.slot marks inner.event (Some consumers.version) (Some thread.version)))) current_is
        ∙ ap (λ (z : List Due). due_row ∷ (due_digest ++ (due_if d.what.placed (Puts current_at) ++ z))) histories_are))

    -- and what pays it
    row_at : row_in x.adds.counts.answer ≡ cell_row (counted_slot context.slot inner.event.verdict) inner.event.subject.cell
    row_at =
        let cell : inner.event.subject.cell ≡ cell_in d.what = counted_cell flags s.place.thread inner.event d.what t inner.alike.counted in
        x.adds.counts.row_is ∙ (summary_row slot d.what inner.event.verdict inner.event.subject.cell inner.alike.verdict cell t
        ∙ ap (λ z. cell_row (counted_slot z inner.event.verdict) inner.event.subject.cell) (sym (a.slot ∙ q)))

    rings_paid : ArePaid due_rings x.ring_entries
    rings_paid =
        let p = x.puts in
        let event : Event = ended_event d.what x.among.drawn x.among.clock numbers in
        subst (ArePaid due_rings) (sym p.entries_are)
        (pays_then (due_if d.what.placed (Puts current_at)) (due_if at_history (Puts history_at) ++ due_if at_long (PutsLong (ring_number kind))) (put_entries p.current) (put_entries p.history ++ put_entries p.long)
        (current_paid d.what.placed slot kind (depth_of kind x.among.opened.events) event p.current p.current_calls p.current_is)
        (pays_then (due_if at_history (Puts history_at)) (due_if at_long (PutsLong (ring_number kind))) (put_entries p.history) (put_entries p.long)
        (history_paid at_history slot kind (next_of kind x.among.nexts) event p.history p.history_calls p.history_is)
        (long_is_paid at_long kind event p.long p.long_calls p.long_is)))

    -- a digested statement's addition, where there is one
    record DigestIs (digested : List Entry) : Type 0 where
      paid : ArePaid due_digest digested
      plain : ArePlain digested
      unheaded : AreAll false is_head digested
      unput : AreAll false is_put digested
      slot_is : (c : Context) → (after_entries subject c digested).slot ≡ c.slot

    digest_is : DigestIs x.adds.digested_entries
    digest_is = by_digest d.what.digested refl x.adds.digests where
      by_digest : (b : Bool) → d.what.digested ≡ b → DigestsIn b x.adds.between slot d.what numbers x.adds.digested_calls x.adds.digested_entries x.among → DigestIs x.adds.digested_entries
      by_digest false n y = subst DigestIs (sym y.entries_are) (record {
        paid = subst (λ (b : Bool). ArePaid (due_if b (Adds (digest_row inner.event.subject.digest))) []) (sym n) tt;
        plain = tt;
        unheaded = tt;
        unput = tt;
        slot_is = λ c. refl;
      })
      by_digest true n y =
          let there : row_in y.answer ≡ digest_row inner.event.subject.digest = y.row_is ∙ digest_of_number slot d.what (digest_row inner.event.subject.digest) (inner.alike.digest n) in
          subst DigestIs (sym y.entries_are) (record {
            paid = subst (λ (b : Bool). ArePaid (due_if b (Adds (digest_row inner.event.subject.digest))) (added_entry y.answer ∷ [])) (sym n) (pays_row _ y.answer there, tt);
            plain = (added_plain y.answer, tt);
            unheaded = (added_head y.answer, tt);
            unput = (added_no_put y.answer, tt);
            slot_is = λ c. (added_to subject c y.answer).slot;
          })

    through : Brings flags home subject context marks entries after.nexts
    through =
        let digested : List Entry = x.adds.digested_entries in
        let rings : List Entry = x.ring_entries in
        let own : List Entry = answer ∷ digested in
        let ringed : AreAll true is_ring rings = rings_of x.among slot d.what numbers _ _ x.ring_calls rings after x.puts in
        let whole : entries ≡ (End ∷ own) ++ rings =
        x.entries_are ∙ ap (λ (z : List Entry). z ++ rings) (x.adds.entries_are ∙ ap (λ (z : List Entry). z ++ digested) x.adds.counts.entries_are) in
        let mid : Context = noted subject context End in
        let next : Context = noted subject mid answer in
        let behind : Context = after_entries subject next digested in
        let slot_behind : behind.slot ≡ Some slot =
        digest_is.slot_is next ∙ ((added_to subject mid x.adds.counts.answer).slot ∙ ((ended_from subject context (Some d.what.event.number) (Some s.drawn) (Some consumers.version) (Some thread.version)).slot ∙ (a.slot ∙ q))) in
        let front_marks : Marks = all_more home subject context (End ∷ own) marks in
        let front_fits : Fits front_marks s.nexts = none_fits home subject context (End ∷ own) marks s.nexts (refl, (added_no_put x.adds.counts.answer, digest_is.unput)) fits in
        let among_fits : Fits front_marks x.among.nexts = subst (λ (z : State). Fits front_marks z.nexts) (sym among_is) front_fits in
        let deep : d.what.placed ≡ true → depth_of d.what.kind x.among.opened.events < depths d.what.kind =
        subst (λ (z : State). d.what.placed ≡ true → depth_of d.what.kind z.opened.events < depths d.what.kind) (sym among_is) deep_inner in
        let last : Fits (all_more home subject behind rings front_marks) after.nexts =
        rings_fit home subject behind slot (seat slot q) slot_behind x.among d.what numbers _ _ x.ring_calls rings after front_marks deep x.puts among_fits in
        let unheaded : AreAll false is_head (own ++ rings) =
        all_then false is_head own rings (added_head x.adds.counts.answer, digest_is.unheaded) (each_all true false is_ring is_head ring_behind rings ringed) in
        let pays : ArePaid (due_row ∷ (due_digest ++ due_rings)) (own ++ rings) = (pays_row _ x.adds.counts.answer row_at, pays_then due_digest due_rings digested rings digest_is.paid rings_paid) in
        let due : ArePaid (own_dues flags context.slot marks context.opened (Some consumers.version) (Some thread.version)) (front_of (own ++ rings)) =
        subst (ArePaid (own_dues flags context.slot marks context.opened (Some consumers.version) (Some thread.version))) (sym (all_front (own ++ rings) unheaded))
        (subst (λ (z : List Due). ArePaid z (own ++ rings)) (sym through_dues) pays) in
        subst (λ (z : List Entry). Brings flags home subject context marks z after.nexts) (sym whole) (record {
          paid = (
            (due, seat_here),
            plain_paid flags home subject mid (more home context End marks) (own ++ rings) (plain_both own rings (added_plain x.adds.counts.answer, digest_is.plain) (plain_all rings ringed)),
          );
          headed = refl;
          fits = subst (λ (z : Marks). Fits z after.nexts) (sym (more_then home subject context (End ∷ own) rings marks)) last;
        })

  by_case : (slot : Option ℕ) → s.place.thread ≡ slot → (b : Bool) → is_let_through d.what.verdict ≡ b → EndsIn s slot b d.what d.others numbers calls entries after
      → Brings flags home subject context marks entries after.nexts
  by_case slot q false t x = silent t x.entries_are (ap (λ (z : State). z.nexts) x.after_is)
  by_case None q true t x = absurd x
  by_case (Some slot) q true t x = through slot q t x

  pub ends_bring : Brings flags home subject context marks entries after.nexts
  ends_bring = by_case s.place.thread refl (is_let_through d.what.verdict) refl d.ends
