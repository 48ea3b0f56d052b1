-- Of each step: its puts to the long history stand right behind the draws of their tickets, and its entries print the
-- tickets that its calls put.
use Rattle.std.proofs.Common.{ℕ, zero, suc, ◌≡◌, ◌+◌, ◌-◌, ◌*◌, Bool, true, false, cond, List, [], ◌∷◌, ◌++◌, Option, Some, None, ne_eqb, refl, ap, sym, ◌∙◌, subst, arith}
use Rattle.std.specs.Option.{option_map}
use Rattle.std.specs.Prelude.{slice_index}
use Rattle.std.proofs.lemmas.List.{append-nil}
use Rattle.pfs_admin.specs.ConnectionAsks.{work_of_connect, work_of_quit, connect_work, quit_work, connect_entry, tag_of, account_tag, user_tag, host_tag, upper_tags}
use Rattle.pfs_admin.specs.AdministrationStates.{seat_at, seat_in, connected, has_quit, thread_flags}
use Rattle.pfs_admin.specs.AdministrationStates.{State as Administration}
use Rattle.pfs_admin.specs.WordChanges.{up_to}
use Rattle.pfs_admin.specs.Truncations.{freed_at, free_rows, free_ring, free_slot, free_threads, event_signs, current_first, current_count, sign_at, place_sign, content_at, first_row, level_signs, truncation_signs, is_there, kept_behind, work_of_truncation}
use Rattle.pfs_admin.specs.SetupStatements.{reply_to, work_of_statement}
use Rattle.pfs_admin.specs.declared.changes.Reply.{Reply}
use Rattle.pfs_admin.specs.declared.changes.Reply.TheVariants as replies
use Rattle.pfs_admin.specs.declared.changes.SetupStatement.{SetupStatement}
use Rattle.pfs_admin.specs.declared.changes.SetupStatement.TheVariants.{Update, Insert, Delete, Show}
use Rattle.pfs_admin.specs.Works.{Sign, Releases, Tags, Made, Work, Flagging, signs_of, signs_calls, signs_entries, sign_calls, sign_entry, made_calls, made_entries, flagging_calls, flagging_entries}
use Rattle.pfs_containers.specs.Administration.{Containers}
use Rattle.pfs_containers.specs.PlaceInfos.{account_info_at, user_info_at, host_info_at}
use Rattle.pfs_containers.specs.declared.containers.Connection.{Connection}
use Rattle.pfs_containers.specs.declared.containers.Seated.{Seated}
use Rattle.pfs_containers.specs.InfoWords.{account_words, name_words}
use Rattle.pfs_containers.specs.declared.infos.AccountInfo.{AccountInfo}
use Rattle.pfs_containers.specs.declared.infos.NameInfo.{NameInfo}
use Rattle.pfs_event.specs.Verdicts.{is_let_through}
use Rattle.pfs_event.specs.declared.entry.Entry.{Entry}
use Rattle.pfs_event.specs.declared.entry.Entry.TheVariants as says
use Rattle.pfs_event.specs.declared.event.Event.{Event}
use Rattle.pfs_event.specs.declared.open.Open.{Open}
use Rattle.pfs_event.specs.declared.verdict.Verdict.{Verdict}
use Rattle.pfs_levels.specs.Calls.{Call, Adds, Rings, Loads, Draws}
use Rattle.pfs_levels.specs.Moves.{Gift, Move, gift_calls, gift_entries, move_calls, move_entries, moves_calls, moves_entries}
use Rattle.pfs_levels.specs.declared.answers.Added.{Added}
use Rattle.pfs_levels.specs.declared.answers.Added.TheVariants.{Counted, Held}
use Rattle.pfs_levels.specs.declared.answers.RingPut.{RingPut}
use Rattle.pfs_levels.specs.declared.answers.RingPut.TheVariants as told
use Rattle.pfs_levels.specs.declared.answers.Word.{Word}
use Rattle.pfs_levels.specs.declared.places.Level.{Level}
use Rattle.pfs_levels.specs.declared.places.Level.TheVariants as levels
use Rattle.pfs_model.specs.Causes.{long_row}
use Rattle.pfs_model.specs.Rings.{Ticketed, ticketed_at, ring_number, current_row, history_row}
use Rattle.pfs_model.specs.declared.lines.Subject.{Subject}
use Rattle.pfs_rings.specs.Offers.{Says, offered, put_entry}
use Rattle.pfs_rings.specs.declared.puts.Put.{Put}
use Rattle.pfs_rings.specs.declared.rings.Ring.{Ring}
use Rattle.pfs_rings.specs.declared.rings.Ring.TheVariants.{Current, History, Long}
use Rattle.pfs_rows.specs.declared.table.EventTable.{EventTable}
use Rattle.pfs_rows.specs.declared.table.EventTable.TheVariants as events
use Rattle.pfs_rows.specs.declared.table.TableKind.{TableKind}
use Rattle.pfs_rows.specs.Tables.{kind_number}
use Rattle.pfs_stat.specs.declared.Stat.{Stat}
use Rattle.pfs_session.specs.Ends.{EndsIn, EndsThrough, EndsCounted, DigestsIn, PutsAtEnd, added_entry}
use Rattle.pfs_rows.specs.declared.table.Reading.TheVariants as readings
use Rattle.pfs_rows.specs.declared.table.Seen.TheVariants as seen
use Rattle.pfs_session.specs.Inquiries.{Inquiry, Looks, Remarks, inquiry_calls, inquiry_entry}
use Rattle.pfs_session.specs.declared.remarks.Remark.TheVariants as remarks
use Rattle.pfs_session.specs.EventPuts.{PutAt, PutIf, PutIn, PutLong, put_entries}
use Rattle.pfs_session.specs.Settlements.{Paid, pay_calls, pay_entries, paid_calls, paid_entries, settle_head, owed_by_state}
use Rattle.pfs_session.specs.Starts.{Starts, load_calls, table_calls, start_entry}
use Rattle.pfs_session.specs.SessionStates.{State, Owed}
use Rattle.pfs_session.specs.Turns.{Step, StartsEvent, EndsEvent, Spends, SettlesHeld, Connects, Quits, Truncates, Changes, Inquires, Does, Works, reply_entries, Turn, AreTurns, state_after, turns_calls, turns_entries}
use Rattle.pfs_session.specs.declared.events.Numbers.{Numbers}
use Rattle.pfs_session.specs.declared.setup.Setup.{Setup}
use Rattle.pfs_rows.specs.declared.truncations.Truncation.{Truncation}
use Rattle.pfs_rows.specs.declared.truncations.Truncation.TheVariants as truncates
use Rattle.pfs_law_plain.proofs.TicketDraws.{pending, ArePaired, paired_then, all_ticketed, ticketed_if, ticketed_then}

-- the tickets that entries print
abbrev pub tickets_in : List Entry → List Ticketed
tickets_in [] = []
tickets_in (e ∷ es) = ticketed_at e ++ tickets_in es

pub tickets_then : (es fs : List Entry) → tickets_in (es ++ fs) ≡ tickets_in es ++ tickets_in fs
tickets_then [] fs = refl
tickets_then (e ∷ es) fs = ap (λ z. ticketed_at e ++ z) (tickets_then es fs) ∙ sym (append_three (ticketed_at e) (tickets_in es) (tickets_in fs)) where
  append_three : (xs ys zs : List Ticketed) → (xs ++ ys) ++ zs ≡ xs ++ (ys ++ zs)
  append_three [] ys zs = refl
  append_three (x ∷ xs) ys zs = ap (λ z. x ∷ z) (append_three xs ys zs)

-- calls and entries that are paired, and print what is put
pub record IsTicketed (calls : List Call) (entries : List Entry) : Type 0 where
  pub paired : ArePaired None calls
  pub same : tickets_in entries ≡ all_ticketed calls

pub ticketed_as : (calls cs : List Call) (entries es : List Entry) → calls ≡ cs → entries ≡ es → IsTicketed cs es → IsTicketed calls entries
ticketed_as calls cs entries es p q t = subst (λ z. IsTicketed z entries) (sym p) (subst (IsTicketed cs) (sym q) t)

pub ticketed_both : (c1 c2 : List Call) (e1 e2 : List Entry) → IsTicketed c1 e1 → IsTicketed c2 e2 → IsTicketed (c2 ++ c1) (e1 ++ e2)
ticketed_both c1 c2 e1 e2 a b = record {
  paired = paired_then None c2 c1 b.paired a.paired;
  same = tickets_then e1 e2 ∙ (ap (λ z. z ++ tickets_in e2) a.same ∙ (ap (λ z. all_ticketed c1 ++ z) b.same ∙ sym (ticketed_then c2 c1)));
}

pub nothing_ticketed : IsTicketed [] []
nothing_ticketed = record { paired = tt; same = refl }

-- puts
short_ticketed : (row : ℕ) (event : Event) (put : Put) (calls : List Call) → PutAt row None [] event put calls → IsTicketed calls (put_entry put ∷ [])
short_ticketed row event put calls x = by_answer x.answer x.says x.calls_are where
  by_answer : (answer : RingPut) → Says row None answer put → calls ≡ Rings row (offered event None) answer ∷ [] → IsTicketed calls (put_entry put ∷ [])
  by_answer (told.Done version) e c = ticketed_as calls _ _ (says.Ring row version ∷ []) c (ap (λ z. put_entry z ∷ []) e) (record { paired = tt; same = refl })
  by_answer (told.Busy first second) e c = ticketed_as calls _ _ (says.Busy row first second ∷ []) c (ap (λ z. put_entry z ∷ []) e) (record { paired = tt; same = refl })
  by_answer (told.Late greater version) e c = absurd e

waiting_none : (row ticket : ℕ) → pending row (ticket + 1) ≡ Some (record { row = row; word = ticket + 1 })
waiting_none row ticket = ap (λ b. cond b None (Some (record { row = row; word = ticket + 1 }))) (ne_eqb (ticket + 1) 0 (λ e. absurd (omega (arith, e))))

printed_one : (row version ticket : ℕ) → record { row = row; version = version; ticket = ticket } ∷ [] ≡ ticketed_if row version (ticket + 1)
printed_one row version ticket =
    let less : ticket ≡ ticket + 1 - 1 = omega arith in
    ap (λ z. record { row = row; version = version; ticket = z } ∷ []) less
    ∙ sym (ap (λ b. cond b [] (record { row = row; version = version; ticket = ticket + 1 - 1 } ∷ [])) (ne_eqb (ticket + 1) 0 (λ e. absurd (omega (arith, e)))))

long_paired : (kind ticket : ℕ) (event : Event) (answer : RingPut) → ArePaired None (Rings (long_row kind ticket) (offered event (Some ticket)) answer ∷ Draws kind ticket ∷ [])
long_paired kind ticket event answer = subst (λ z. ArePaired z (Draws kind ticket ∷ [])) (sym (waiting_none (long_row kind ticket) ticket)) (refl, refl, tt)

far_ticketed : (kind : ℕ) (event : Event) (put : Put) (calls : List Call) → PutLong kind event put calls → IsTicketed calls (put_entry put ∷ [])
far_ticketed kind event put calls x = by_answer x.at.answer x.at.says x.at.calls_are where
  row : ℕ
  row = long_row kind x.ticket

  by_answer : (answer : RingPut) → Says row (Some x.ticket) answer put → calls ≡ Rings row (offered event (Some x.ticket)) answer ∷ Draws kind x.ticket ∷ [] → IsTicketed calls (put_entry put ∷ [])
  by_answer (told.Done version) e c =
      ticketed_as calls _ _ (says.Long row version x.ticket ∷ []) c (ap (λ z. put_entry z ∷ []) e)
      (record { paired = long_paired kind x.ticket event (told.Done version); same = printed_one row version x.ticket })
  by_answer (told.Busy first second) e c =
      ticketed_as calls _ _ (says.Busy row first second ∷ []) c (ap (λ z. put_entry z ∷ []) e) (record { paired = long_paired kind x.ticket event (told.Busy first second); same = refl })
  by_answer (told.Late greater version) e c =
      ticketed_as calls _ _ (says.Late row x.ticket greater ∷ []) c (ap (λ z. put_entry z ∷ []) e.0) (record { paired = long_paired kind x.ticket event (told.Late greater version); same = refl })

none_ticketed : (put : Option Put) (calls : List Call) → (put ≡ None) × (calls ≡ []) → IsTicketed calls (put_entries put)
none_ticketed put calls x = ticketed_as calls [] (put_entries put) [] x.1 (ap put_entries x.0) nothing_ticketed

put_ticketed : (due : Bool) (ring : Ring) (event : Event) (put : Option Put) (calls : List Call) → PutIf due ring event put calls → IsTicketed calls (put_entries put)
put_ticketed false ring event put calls x = none_ticketed put calls x
put_ticketed true ring event None calls x = absurd x
put_ticketed true (Current thread kind depth) event (Some put) calls x = short_ticketed (current_row thread kind depth) event put calls x
put_ticketed true (History thread kind place) event (Some put) calls x = short_ticketed (history_row thread (ring_number kind) place) event put calls x
put_ticketed true (Long kind) event (Some put) calls x = far_ticketed (ring_number kind) event put calls x

place_ticketed : (slot : Option ℕ) (what : Open) (depth : ℕ) (event : Event) (put : Option Put) (calls : List Call) → PutIn slot what depth event put calls → IsTicketed calls (put_entries put)
place_ticketed None what depth event put calls x = none_ticketed put calls x
place_ticketed (Some slot) what depth event put calls x = put_ticketed what.placed (Current slot what.kind depth) event put calls x

puts_ticketed : (s : State) (slot : ℕ) (what : Open) (numbers : Numbers) (consumers thread : ℕ) (calls : List Call) (entries : List Entry) (after : State)
    → PutsAtEnd s slot what numbers consumers thread calls entries after → IsTicketed calls entries
puts_ticketed s slot what numbers consumers thread calls entries after x =
    let a = put_ticketed _ _ _ x.current x.current_calls x.current_is in
    let b = put_ticketed _ _ _ x.history x.history_calls x.history_is in
    let c = put_ticketed _ _ _ x.long x.long_calls x.long_is in
    let two = ticketed_both x.current_calls x.history_calls (put_entries x.current) (put_entries x.history) a b in
    let three = ticketed_both (x.history_calls ++ x.current_calls) x.long_calls (put_entries x.current ++ put_entries x.history) (put_entries x.long) two c in
    ticketed_as calls _ entries _ x.calls_are (x.entries_are ∙ sym (regroup (put_entries x.current) (put_entries x.history) (put_entries x.long))) three where
      regroup : (xs ys zs : List Entry) → (xs ++ ys) ++ zs ≡ xs ++ (ys ++ zs)
      regroup [] ys zs = refl
      regroup (x ∷ xs) ys zs = ap (λ z. x ∷ z) (regroup xs ys zs)

-- starts and ends
loads_ticketed : (table : Option ℕ) (word : Option Word) (a b c d e f g h i : ℕ)
    → IsTicketed (table_calls table word ++ (Loads a b c ∷ Loads d e f ∷ Loads g h i ∷ [])) []
loads_ticketed (Some table) (Some word) a b c d e f g h i = record { paired = tt; same = refl }
loads_ticketed (Some table) None a b c d e f g h i = record { paired = tt; same = refl }
loads_ticketed None word a b c d e f g h i = record { paired = tt; same = refl }

setup_ticketed : (slot class table : Option ℕ) (seen : Option Setup) → IsTicketed (load_calls slot class table seen) []
setup_ticketed (Some slot) (Some class) table (Some seen) = loads_ticketed table seen.table _ _ _ _ _ _ _ _ _
setup_ticketed (Some slot) (Some class) table None = nothing_ticketed
setup_ticketed (Some slot) None table seen = nothing_ticketed
setup_ticketed None class table seen = nothing_ticketed

start_printed : (v : Verdict) (n : ℕ) (seen : Option Setup) → tickets_in (start_entry v n seen ∷ []) ≡ []
start_printed v n None = refl
start_printed v n (Some seen) = refl

starts_ticketed : (s : State) (subject : Subject) (calls : List Call) (entries : List Entry) (after : State) → Starts s subject calls entries after → IsTicketed calls entries
starts_ticketed s subject calls entries after x =
    let b = x.begins in
    let loads : IsTicketed x.begun_calls [] = subst (λ z. IsTicketed z []) (sym b.calls_are) (setup_ticketed s.place.thread subject.class subject.table b.seen) in
    let first : IsTicketed x.begun_calls x.begun_entries = record {
      paired = loads.paired;
      same = ap tickets_in b.entries_are ∙ (start_printed _ _ b.seen ∙ loads.same);
    } in
    ticketed_as calls _ entries _ x.calls_are x.entries_are
    (ticketed_both x.begun_calls x.put_calls x.begun_entries (put_entries x.current) first (place_ticketed s.place.thread b.what _ b.what.event x.current x.put_calls x.put_is))

added_ticketed : (row : ℕ) (amount : Stat) (answer : Added) → IsTicketed (Adds row amount answer ∷ []) (added_entry answer ∷ [])
added_ticketed row amount (Counted r v) = record { paired = tt; same = refl }
added_ticketed row amount (Held r v w) = record { paired = tt; same = refl }

counted_ticketed : (s : State) (slot : ℕ) (what : Open) (others : List Open) (numbers : Numbers) (calls : List Call) (entries : List Entry) (after : State)
    → EndsCounted s slot what others numbers calls entries after → IsTicketed calls entries
counted_ticketed s slot what others numbers calls entries after x =
    ticketed_as calls _ entries _ x.calls_are x.entries_are (ticketed_both (Loads _ _ _ ∷ Loads _ _ _ ∷ []) (Adds _ _ x.answer ∷ []) (says.End _ _ _ _ ∷ []) (added_entry x.answer ∷ [])
    (record { paired = tt; same = refl }) (added_ticketed _ _ x.answer))

digest_ticketed : (b : Bool) (s : State) (slot : ℕ) (what : Open) (numbers : Numbers) (calls : List Call) (entries : List Entry) (after : State)
    → DigestsIn b s slot what numbers calls entries after → IsTicketed calls entries
digest_ticketed false s slot what numbers calls entries after x = ticketed_as calls [] entries [] x.calls_are x.entries_are nothing_ticketed
digest_ticketed true s slot what numbers calls entries after x = ticketed_as calls _ entries _ x.calls_are x.entries_are (added_ticketed _ _ x.answer)

through_ticketed : (s : State) (slot : ℕ) (what : Open) (others : List Open) (numbers : Numbers) (calls : List Call) (entries : List Entry) (after : State)
    → EndsThrough s slot what others numbers calls entries after → IsTicketed calls entries
through_ticketed s slot what others numbers calls entries after x =
    let e = x.adds in
    let a = counted_ticketed s slot what others numbers e.counted_calls e.counted_entries e.between e.counts in
    let b = digest_ticketed what.digested e.between slot what numbers e.digested_calls e.digested_entries x.among e.digests in
    let both = ticketed_as x.added_calls _ x.added_entries _ e.calls_are e.entries_are (ticketed_both e.counted_calls e.digested_calls e.counted_entries e.digested_entries a b) in
    ticketed_as calls _ entries _ x.calls_are x.entries_are
    (ticketed_both x.added_calls x.ring_calls x.added_entries x.ring_entries both (puts_ticketed x.among slot what numbers _ _ x.ring_calls x.ring_entries after x.puts))

ends_ticketed : (s : State) (slot : Option ℕ) (b : Bool) (what : Open) (others : List Open) (numbers : Numbers) (calls : List Call) (entries : List Entry) (after : State)
    → EndsIn s slot b what others numbers calls entries after → IsTicketed calls entries
ends_ticketed s slot false what others numbers calls entries after x = ticketed_as calls [] entries _ x.calls_are x.entries_are (record { paired = tt; same = refl })
ends_ticketed s None true what others numbers calls entries after x = absurd x
ends_ticketed s (Some slot) true what others numbers calls entries after x = through_ticketed s slot what others numbers calls entries after x

-- settling
paid_ticketed : (ps : List Paid) → IsTicketed (paid_calls ps) (paid_entries ps)
paid_ticketed [] = nothing_ticketed
paid_ticketed (p ∷ ps) = ticketed_both (paid_calls ps) (pay_calls p) (paid_entries ps) (pay_entries p) (paid_ticketed ps) (record { paired = (refl, tt); same = refl })

settle_ticketed : (owed : List Owed) (ps : List Paid) → IsTicketed (paid_calls ps) (settle_head owed ++ paid_entries ps)
settle_ticketed [] ps = paid_ticketed ps
settle_ticketed (one ∷ others) ps = let r = paid_ticketed ps in record { paired = r.paired; same = r.same }

-- actions: no info row has a ticket
abbrev HasNoTicket : Sign → Type 0
HasNoTicket (Releases row) = Unit {0}
HasNoTicket (Tags row content) = slice_index content 15 ≡ 0

abbrev HaveNoTickets : List Sign → Type 0
HaveNoTickets [] = Unit {0}
HaveNoTickets (sign ∷ signs) = HasNoTicket sign × HaveNoTickets signs

both_none : (xs ys : List Sign) → HaveNoTickets xs → HaveNoTickets ys → HaveNoTickets (xs ++ ys)
both_none [] ys a b = b
both_none (x ∷ xs) ys a b = (a.0, both_none xs ys a.1 b)

front_none : (xs ys : List Sign) → HaveNoTickets (xs ++ ys) → HaveNoTickets xs
front_none [] ys a = tt
front_none (x ∷ xs) ys a = (a.0, front_none xs ys a.1)

back_none : (xs ys : List Sign) → HaveNoTickets (xs ++ ys) → HaveNoTickets ys
back_none [] ys a = a
back_none (x ∷ xs) ys a = back_none xs ys a.1

up_none : (f : ℕ → List Sign) (n : ℕ) → ((k : ℕ) → HaveNoTickets (f k)) → HaveNoTickets (up_to f n)
up_none f zero each = tt
up_none f (suc n) each = both_none (up_to f n) (f n) (up_none f n each) (each n)

rows_none : (first count : ℕ) → HaveNoTickets (free_rows first count)
unfolding free_rows
rows_none first count = up_none (freed_at first) count (λ k. (tt, tt))

slot_none : (there : ℕ → Bool) (first count slot : ℕ) → HaveNoTickets (free_slot there first count slot)
slot_none there first count slot = by_there (there slot) where
  by_there : (b : Bool) → HaveNoTickets (cond b (free_rows (8450 + 56 * slot + first) count) [])
  by_there true = rows_none (8450 + 56 * slot + first) count
  by_there false = tt

threads_none : (there : ℕ → Bool) (first count : ℕ) → HaveNoTickets (free_threads there first count)
unfolding free_threads
threads_none there first count = up_none (free_slot there first count) 32 (slot_none there first count)

events_none : (there : ℕ → Bool) (kind : TableKind) (table : EventTable) → HaveNoTickets (event_signs there kind table)
events_none there kind events.Current = threads_none there (current_first kind) (current_count kind)
events_none there kind events.History = threads_none there (16 + 10 * kind_number kind) 10
events_none there kind events.HistoryLong = rows_none (10242 + 1000 * kind_number kind) 1000

account_none : (row : ℕ) (info : Option AccountInfo) → HaveNoTickets (tag_of row (option_map account_words info))
account_none row None = tt
account_none row (Some info) = (refl, tt)

name_none : (row : ℕ) (info : Option NameInfo) → HaveNoTickets (tag_of row (option_map name_words info))
name_none row None = tt
name_none row (Some info) = (refl, tt)

uppers_none : (c : Containers) (x : Connection) → HaveNoTickets (upper_tags c x)
uppers_none c x = both_none (account_tag c x.account) (user_tag c x.user ++ host_tag c x.host) (account x.account) (both_none (user_tag c x.user) (host_tag c x.host) (user x.user) (host x.host)) where
  account : (place : Option ℕ) → HaveNoTickets (account_tag c place)
  account None = tt
  account (Some place) = account_none (33 + place) (account_info_at c place)

  user : (place : Option ℕ) → HaveNoTickets (user_tag c place)
  user None = tt
  user (Some place) = name_none (65 + place) (user_info_at c place)

  host : (place : Option ℕ) → HaveNoTickets (host_tag c place)
  host None = tt
  host (Some place) = name_none (97 + place) (host_info_at c place)

connect_none : (admin : Administration) (number user host : ℕ) → HaveNoTickets (work_of_connect admin number user host).signs
connect_none admin number user host = by_seat (seat_at admin number user host) where
  by_seat : (seat : Option Seated) → HaveNoTickets (connect_work admin.words (thread_flags admin user host) (connected admin number user host).kept.now seat).signs
  by_seat None = tt
  by_seat (Some seat) = (refl, uppers_none (connected admin number user host).kept.now seat.connection)

quit_none : (admin : Administration) (number : ℕ) → HaveNoTickets (work_of_quit admin number).signs
quit_none admin number = by_seat (seat_in admin number) where
  by_seat : (seat : Option Seated) → HaveNoTickets (quit_work admin.words admin.cells (has_quit admin number).kept.now seat).signs
  by_seat None = tt
  by_seat (Some seat) =
      (tt, both_none (upper_tags (has_quit admin number).kept.now seat.connection) (free_ring seat.slot) (uppers_none (has_quit admin number).kept.now seat.connection) (rows_none (8450 + 56 * seat.slot) 56))

-- the content of a place's row
abbrev ContentNone : Option (List ℕ) → Type 0
ContentNone None = Unit {0}
ContentNone (Some content) = slice_index content 15 ≡ 0

mapped_none : {A : Type 0} (f : A → List ℕ) (x : Option A) → ((a : A) → slice_index (f a) 15 ≡ 0) → ContentNone (option_map f x)
mapped_none f None each = tt
mapped_none f (Some a) each = each a

content_none : (c : Containers) (level : Level) (place : ℕ) → ContentNone (content_at c level place)
content_none c levels.Thread place = mapped_none _ _ (λ a. refl)
content_none c levels.Account place = mapped_none account_words _ (λ a. refl)
content_none c levels.User place = mapped_none name_words _ (λ a. refl)
content_none c levels.Host place = mapped_none name_words _ (λ a. refl)

place_none : (written was : Bool) (row : ℕ) (content : Option (List ℕ)) → ContentNone content → HaveNoTickets (place_sign written was row content)
place_none written false row content n = tt
place_none written true row None n = (tt, tt)
place_none false true row (Some content) n = tt
place_none true true row (Some content) n = (n, tt)

level_none : (written : Bool) (was : ℕ → Bool) (after : Containers) (level : Level) → HaveNoTickets (level_signs written was after level)
unfolding level_signs
level_none written was after level =
    up_none (sign_at written was after level) 32 (λ k. place_none written (was k) (first_row level + k) (content_at after level k) (content_none after level k))

truncation_none : (was : Level → ℕ → Bool) (after : Containers) (what : Truncation) → HaveNoTickets (truncation_signs was after what)
truncation_none was after (truncates.Events kind table) = events_none (is_there after.places levels.Thread) kind table
truncation_none was after (truncates.Summary kind table) = tt
truncation_none was after truncates.DigestSummary = tt
truncation_none was after truncates.Accounts = level_none true (was levels.Account) after levels.Account
truncation_none was after truncates.Users =
    both_none (level_signs false (was levels.Account) after levels.Account) (level_signs true (was levels.User) after levels.User)
    (level_none false (was levels.Account) after levels.Account) (level_none true (was levels.User) after levels.User)
truncation_none was after truncates.Hosts =
    both_none (level_signs false (was levels.Account) after levels.Account) (level_signs true (was levels.Host) after levels.Host)
    (level_none false (was levels.Account) after levels.Account) (level_none true (was levels.Host) after levels.Host)
truncation_none was after truncates.SetupActors = tt
truncation_none was after truncates.SetupObjects = tt

sign_ticketed : (sign : Sign) (version : ℕ) (found : List ℕ) → HasNoTicket sign → IsTicketed (sign_calls sign version found) (sign_entry sign version ∷ [])
sign_ticketed (Releases row) version found n = record { paired = tt; same = refl }
sign_ticketed (Tags row content) version found n = record { paired = (n, tt); same = refl }

signs_ticketed : (ms : List Made) → HaveNoTickets (signs_of ms) → IsTicketed (signs_calls ms) (signs_entries ms)
signs_ticketed [] n = nothing_ticketed
signs_ticketed (m ∷ ms) n =
    ticketed_both (signs_calls ms) (made_calls m) (signs_entries ms) (made_entries m) (signs_ticketed ms (front_none (signs_of ms) (m.sign ∷ []) n))
    (sign_ticketed m.sign m.version m.found (back_none (signs_of ms) (m.sign ∷ []) n).0)

gifts_ticketed : (amount : Stat) (from : ℕ) (gs : List Gift) → IsTicketed (gift_calls amount gs) (gift_entries from gs)
gifts_ticketed amount from [] = nothing_ticketed
gifts_ticketed amount from (g ∷ gs) =
    ticketed_both _ (gift_calls amount gs) (says.Give g.to g.version from ∷ []) (gift_entries from gs) (record { paired = (refl, tt); same = refl }) (gifts_ticketed amount from gs)

moves_ticketed : (ms : List Move) → IsTicketed (moves_calls ms) (moves_entries ms)
moves_ticketed [] = nothing_ticketed
moves_ticketed (m ∷ ms) =
    ticketed_both (moves_calls ms) (move_calls m) (moves_entries ms) (move_entries m) (moves_ticketed ms)
    (ticketed_both _ (gift_calls _ m.gifts) (says.Take m.from m.version ∷ []) (gift_entries m.from m.gifts) (record { paired = (refl, tt); same = refl }) (gifts_ticketed _ m.from m.gifts))

sets_ticketed : (words : List Word) (fs : List Flagging) → IsTicketed (flagging_calls words fs) (flagging_entries words fs)
sets_ticketed words [] = nothing_ticketed
sets_ticketed words (f ∷ fs) = ticketed_both _ (flagging_calls words fs) (says.Set _ _ _ ∷ []) (flagging_entries words fs) (record { paired = tt; same = refl }) (sets_ticketed words fs)

works_ticketed : (work : Work) (words : List Word) (head : Entry) (calls : List Call) (entries : List Entry) → ticketed_at head ≡ [] → HaveNoTickets work.signs → Works work words (head ∷ []) calls entries
    → IsTicketed calls entries
works_ticketed work words head calls entries plain none w =
    let m = moves_ticketed w.moves in
    let s = signs_ticketed w.made (subst HaveNoTickets (sym w.signs_are) none) in
    let f = sets_ticketed words work.flags in
    let ms = ticketed_both (moves_calls w.moves) (signs_calls w.made) (moves_entries w.moves) (signs_entries w.made) m s in
    let all = ticketed_both (signs_calls w.made ++ moves_calls w.moves) (flagging_calls words work.flags) (moves_entries w.moves ++ signs_entries w.made) (flagging_entries words work.flags) ms f in
    ticketed_as calls _ entries _ w.calls_are (w.entries_are ∙ ap (λ z. head ∷ z) (sym (regroup (moves_entries w.moves) (signs_entries w.made) (flagging_entries words work.flags))))
    (record { paired = all.paired; same = ap (λ z. z ++ tickets_in ((moves_entries w.moves ++ signs_entries w.made) ++ flagging_entries words work.flags)) plain ∙ all.same }) where
      regroup : (xs ys zs : List Entry) → (xs ++ ys) ++ zs ≡ xs ++ (ys ++ zs)
      regroup [] ys zs = refl
      regroup (x ∷ xs) ys zs = ap (λ z. x ∷ z) (regroup xs ys zs)

connect_printed : (action : ℕ) (seat : Option Seated) → ticketed_at (connect_entry action seat) ≡ []
connect_printed action None = refl
connect_printed action (Some seat) = refl

replies_printed : (what : SetupStatement) (reply : Reply) → tickets_in (reply_entries what reply) ≡ []
replies_printed (Update update) (replies.Changed count) = refl
replies_printed (Update update) (replies.Error error) = refl
replies_printed (Insert insert) (replies.Changed count) = refl
replies_printed (Insert insert) (replies.Error error) = refl
replies_printed (Delete delete) (replies.Changed count) = refl
replies_printed (Delete delete) (replies.Error error) = refl
replies_printed Show reply = refl

inquiry_ticketed : (what : Inquiry) → IsTicketed (inquiry_calls what) (inquiry_entry what ∷ [])
inquiry_ticketed (Looks (readings.Slot row (seen.Whole version content))) = record { paired = tt; same = refl }
inquiry_ticketed (Looks (readings.Slot row (seen.Free word))) = record { paired = tt; same = refl }
inquiry_ticketed (Looks (readings.Slot row (seen.Busy first second))) = record { paired = tt; same = refl }
inquiry_ticketed (Looks (readings.Word word version flags)) = record { paired = tt; same = refl }
inquiry_ticketed (Remarks remarks.Query) = record { paired = tt; same = refl }
inquiry_ticketed (Remarks (remarks.Rows count)) = record { paired = tt; same = refl }
inquiry_ticketed (Remarks (remarks.Refused error)) = record { paired = tt; same = refl }

does_ticketed : (s : State) (step : Step) (calls : List Call) (entries : List Entry) (after : State) → Does s step calls entries after → IsTicketed calls entries
does_ticketed s (StartsEvent subject) calls entries after d = starts_ticketed s subject calls entries after d
does_ticketed s (EndsEvent numbers) calls entries after d = ends_ticketed s s.place.thread (is_let_through d.what.verdict) d.what d.others numbers calls entries after d.ends
does_ticketed s (Spends time) calls entries after d = ticketed_as calls [] entries [] d.0 d.1 nothing_ticketed
does_ticketed s SettlesHeld calls entries after d = ticketed_as calls _ entries _ d.calls_are d.entries_are (settle_ticketed (owed_by_state s) d.paid)
does_ticketed s (Connects admin user host) calls entries after d =
    works_ticketed (work_of_connect admin s.number user host) admin.words _ calls entries (connect_printed _ (seat_at admin s.number user host)) (connect_none admin s.number user host) d.0
does_ticketed s (Quits admin) calls entries after d = works_ticketed (work_of_quit admin s.number) admin.words _ calls entries refl (quit_none admin s.number) d.0
does_ticketed s (Truncates admin what) calls entries after d =
    let t = works_ticketed (work_of_truncation admin what) admin.words _ calls d.changes refl (truncation_none (is_there admin.kept.now.places) (kept_behind admin.kept what).now what) d.works in
    ticketed_as calls calls entries _ refl d.entries_are (record { paired = t.paired; same = tickets_then d.changes (says.Reply 0 ∷ []) ∙ (append-nil (tickets_in d.changes) ∙ t.same) })
does_ticketed s (Changes admin what) calls entries after d =
    let t = works_ticketed (work_of_statement admin what) admin.words _ calls d.changes refl tt d.works in
    let answer : List Entry = reply_entries what (reply_to admin what) in
    ticketed_as calls calls entries _ refl d.entries_are (record {
      paired = t.paired;
      same = tickets_then d.changes answer
          ∙ (ap (λ z. tickets_in d.changes ++ z) (replies_printed what (reply_to admin what)) ∙ (append-nil (tickets_in d.changes) ∙ t.same));
    })
does_ticketed s (Inquires what) calls entries after d = ticketed_as calls _ entries _ d.calls_are d.entries_are (inquiry_ticketed what)

pub turns_ticketed : (s : State) (turns : List Turn) → AreTurns s turns → IsTicketed (turns_calls turns) (turns_entries turns)
turns_ticketed s [] are = nothing_ticketed
turns_ticketed s (t ∷ ts) are =
    ticketed_both (turns_calls ts) t.calls (turns_entries ts) t.entries (turns_ticketed s ts are.1) (does_ticketed (state_after s ts) t.step t.calls t.entries t.after are.0)
