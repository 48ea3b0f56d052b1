-- Starts, ends and actions as steps, from what their parts do.
use Rattle.std.proofs.Common.{ℕ, ◌≡◌, ◌<◌, ◌≤◌, ◌+◌, ◌^◌, ◌&&◌, Bool, true, false, List, [], ◌∷◌, ◌++◌, Option, Some, None, length, refl, ap, sym, ◌∙◌, subst, arith}
use Rattle.std.proofs.lemmas.Bool.{false≢true}
use Rattle.std.specs.Prelude.{IfSome, IsSome}
use Rattle.std.proofs.lemmas.List.{append_assoc}
use Rattle.pfs_admin.proofs.SignLists.{worked_behind, worked_nothing}
use Rattle.pfs_admin.specs.WordChanges.{flags_changed, words_changed}
use Rattle.pfs_admin.specs.ConnectionAsks.{work_of_connect, work_of_quit, connect_entry, placed_of}
use Rattle.pfs_admin.specs.AdministrationStates.{State as Administration}
use Rattle.pfs_admin.specs.AdministrationStates.{connected, has_quit, seat_at}
use Rattle.pfs_admin.specs.Truncations.{work_of_truncation, has_truncated}
use Rattle.pfs_rows.specs.declared.truncations.Truncation.{Truncation}
use Rattle.pfs_admin.specs.Works.{Work, Worked, signs_calls, signs_entries, flagging_calls, flagging_entries}
use Rattle.pfs_admin.specs.declared.admin.Placed.{Placed}
use Rattle.pfs_containers.specs.ContainerState.{lost_in}
use Rattle.pfs_containers.specs.declared.containers.Lost.{Lost}
use Rattle.pfs_event.specs.Verdicts.{is_let_through}
use Rattle.pfs_event.specs.declared.entry.Entry.{Entry}
use Rattle.pfs_event.specs.declared.entry.Entry.TheVariants as says
use Rattle.pfs_event.specs.declared.kind.EventKind.{EventKind}
use Rattle.pfs_event.specs.declared.open.Open.{Open}
use Rattle.pfs_event.specs.declared.verdict.Verdict.{Verdict}
use Rattle.pfs_levels.specs.Calls.{Call, Opening, Goes, Loads, Adds}
use Rattle.pfs_event.specs.Logs.{Journal}
use Rattle.pfs_levels.specs.Moves.{Did, moves_calls, moves_entries}
use Rattle.pfs_levels.proofs.MoveLists.{did_none, did_then}
use Rattle.pfs_levels.specs.declared.answers.Added.{Added}
use Rattle.pfs_levels.specs.declared.answers.Word.{Word}
use Rattle.pfs_model.specs.SetupFlags.{is_wait, is_statement}
use Rattle.pfs_model.specs.declared.lines.Subject.{Subject}
use Rattle.pfs_stat.specs.declared.Stat.{Stat}
use Rattle.pfs_session.specs.RowAmounts.{Brings}
use Rattle.pfs_event.specs.declared.event.Event.{Event}
use Rattle.pfs_model.specs.SetupFlags.{history_consumer, long_consumer}
use Rattle.pfs_rings.specs.declared.puts.Put.{Put}
use Rattle.pfs_rings.specs.declared.rings.Ring.TheVariants.{Current, History, Long}
use Rattle.pfs_session.specs.SessionInvariant.{IsKept}
use Rattle.pfs_session.specs.EventPuts.{AreNexts, ArePlaced, HasPut, HasPutIn, PutIf, depth_of, goes_on, is_placed_by, moved_by, put_entries, StandInRings}
use Rattle.pfs_session.specs.declared.nexts.Nexts.{Nexts}
use Rattle.pfs_session.specs.Ends.{EndsIn, EndsThrough, EndsAdded, EndsCounted, EndsSilently, AddsTo, AddsNothing, DigestsIn, HasCounted, HasDigested, HasPuts, PutsAtEnd, Finished, ended_event, amount_of, cell_number, digest_number, added_entry, added_entries, with_held, without_innermost}
use Rattle.pfs_session.specs.Settlements.{PaysAll, owed_in, owed_by_state}
use Rattle.pfs_session.specs.Starts.{Starts, Begins, IsLoaded, IsOpened, load_calls, start_entry, started, verdict_seen, verdict_in, is_timed_by, is_digested_by}
use Rattle.pfs_session.specs.SessionStates.{State, Book, held_row, held_at, next_of, count_open, one_if, AreAround, AreSeated, AreSilent, AreHeldFor, no_place, nothing_held}
use Rattle.pfs_admin.specs.SetupStatements.{has_changed, reply_to, work_of_statement}
use Rattle.pfs_admin.specs.declared.changes.Reply.{Reply}
use Rattle.pfs_admin.specs.declared.changes.SetupStatement.{SetupStatement}
use Rattle.pfs_admin.specs.declared.changes.SetupStatement.TheVariants.{Show}
use Rattle.pfs_reader.specs.Readings.{call_of}
use Rattle.pfs_rows.specs.declared.table.Reading.{Reading}
use Rattle.pfs_session.specs.Inquiries.{Looks, reading_entry}
use Rattle.pfs_session.specs.Turns.{StartsEvent, EndsEvent, SettlesHeld, Connects, Quits, Truncates, Changes, Inquires, Played, Works, answer_entries, is_answered, looks_at, reply_entries, stage_ends, stage_steps}
use Rattle.pfs_session.specs.declared.events.Numbers.{Numbers}
use Rattle.pfs_session.specs.declared.outcomes.Ended.{Ended}
use Rattle.pfs_session.specs.declared.setup.Setup.{Setup}
use Rattle.pfs_session.proofs.StepLists.{played_one, played_then}

verdict_counts : (s : State) (subject : Subject) (seen : Option Setup) (statements waits : ℕ) → statements ≡ count_open is_statement s.opened.events
    → waits ≡ count_open is_wait s.opened.events → verdict_seen s.stack s.place.thread subject seen statements waits ≡ verdict_in s subject seen
verdict_counts s subject seen statements waits a b =
    ap (λ z. verdict_seen s.stack s.place.thread subject seen z waits) a
    ∙ ap (λ z. verdict_seen s.stack s.place.thread subject seen (count_open is_statement s.opened.events) z) b

pub start_played : (old at new : Book) (entry : Entry) (subject : Subject) (seen : Option Setup) (verdict : Verdict) (timed digested placed : Bool) (what : Open) (statements waits depth : ℕ)
    (current : Option Put) (was mid now : Opening → List Call → Type 0)
    → IsLoaded old.state.place.thread subject.class subject.table seen → statements ≡ count_open is_statement old.state.opened.events
    → waits ≡ count_open is_wait old.state.opened.events → verdict ≡ verdict_seen old.state.stack old.state.place.thread subject seen statements waits
    → timed ≡ is_timed_by subject seen → digested ≡ is_digested_by subject verdict seen → placed ≡ is_placed_by subject verdict seen
    → IsOpened old.state.number old.state.drawn old.state.clock old.state.opened.events subject verdict timed digested placed what
    → at.state ≡ started old.state what → entry ≡ start_entry verdict (old.state.drawn + 1) seen
    → at.journal.entries ≡ old.journal.entries ++ entry ∷ [] → Goes was mid (load_calls old.state.place.thread subject.class subject.table seen)
    → depth ≡ depth_of subject.kind old.state.opened.events → HasPutIn at.state.place.thread what depth current at.journal new.journal mid now → new.state ≡ at.state
    → Played (StartsEvent subject ∷ []) old new was now
start_played old at new entry subject seen verdict timed digested placed what statements waits depth current was mid now loaded a b v t d p opened state e entries goes deep put last =
    let s : State = old.state in
    let loads : List Call = load_calls s.place.thread subject.class subject.table seen in
    let same : verdict ≡ verdict_in s subject seen = v ∙ verdict_counts s subject seen statements waits a b in
    let P : Verdict → Type 0 = λ z. IsOpened s.number s.drawn s.clock s.opened.events subject z timed digested placed what in
    let Q : Bool → Type 0 = λ z. IsOpened s.number s.drawn s.clock s.opened.events subject (verdict_in s subject seen) z digested placed what in
    let R : Bool → Type 0 = λ z. IsOpened s.number s.drawn s.clock s.opened.events subject (verdict_in s subject seen) (is_timed_by subject seen) z placed what in
    let T : Bool → Type 0 = λ z. IsOpened s.number s.drawn s.clock s.opened.events subject (verdict_in s subject seen) (is_timed_by subject seen) (is_digested_by subject (verdict_in s subject seen) seen) z what in
    let begins : Begins s subject loads (entry ∷ []) (started s what) = record {
      seen = seen;
      what = what;
      loaded = loaded;
      calls_are = refl;
      opened = subst T (p ∙ ap (λ z. is_placed_by subject z seen) same) (subst R (d ∙ ap (λ z. is_digested_by subject z seen) same) (subst Q t (subst P same opened)));
      entries_are = ap (λ z. z ∷ []) (e ∙ ap (λ z. start_entry z (s.drawn + 1) seen) same);
      after_is = refl;
    } in
    let M : Option ℕ → Type 0 = λ z. HasPutIn z what depth current at.journal new.journal mid now in
    let N : ℕ → Type 0 = λ n. HasPutIn s.place.thread what n current at.journal new.journal mid now in
    let kind : depth ≡ depth_of what.kind s.opened.events = deep ∙ ap (λ z. depth_of z s.opened.events) (sym opened.kind) in
    let h = subst N kind (subst M (ap (λ (z : State). z.place.thread) state) put) in
    let turn : Starts s subject (h.calls ++ loads) (entry ∷ put_entries current) (started s what) = record {
      begun_calls = loads;
      begun_entries = entry ∷ [];
      begins = begins;
      current = current;
      put_calls = h.calls;
      put_is = h.put_is;
      calls_are = refl;
      entries_are = refl;
    } in
    played_one (StartsEvent subject) (h.calls ++ loads) (entry ∷ put_entries current) (started s what) old new was now turn (last ∙ state)
    (did_then loads h.calls (entry ∷ []) (put_entries current) old.journal at.journal new.journal was mid now (record { entries_are = entries; goes = goes }) h.did)

-- an event that is out of the nest is counted: two loads, its entry, and the addition
pub count_done : (old new : Book) (slot cell : ℕ) (consumers thread : Word) (answer : Added) (amount : Stat) (what : Open) (numbers : Numbers) (mid : Journal)
    (here there : List (Option Stat)) (was a b now : Opening → List Call → Type 0)
    → old.state.place.thread ≡ Some slot → Goes was a (Loads 0 consumers.version consumers.flags ∷ [])
    → Goes a b (Loads (1 + slot) thread.version thread.flags ∷ [])
    → mid.entries ≡ old.journal.entries ++ says.End (Some what.event.number) (Some old.state.drawn) (Some consumers.version) (Some thread.version) ∷ []
    → cell ≡ cell_number what → amount ≡ amount_of what old.state.clock numbers → here ≡ old.state.held
    → Brings slot cell amount here there answer mid new.journal b now
    → new.state ≡ record old.state { held = there } → HasCounted old new what numbers answer consumers.flags thread.flags was now
count_done old new slot cell consumers thread answer amount what numbers mid here there was a b now seat l0 l1 m c e h br state =
    let End : Entry = says.End (Some what.event.number) (Some old.state.drawn) (Some consumers.version) (Some thread.version) in
    let P : ℕ → Type 0 = λ z. Brings slot z amount here there answer mid new.journal b now in
    let Q : Stat → Type 0 = λ z. Brings slot (cell_number what) z here there answer mid new.journal b now in
    let R : List (Option Stat) → Type 0 = λ z. Brings slot (cell_number what) (amount_of what old.state.clock numbers) z there answer mid new.journal b now in
    let br2 = subst R h (subst Q e (subst P c br)) in
    record {
      slot = slot;
      calls = _;
      entries = End ∷ added_entry answer ∷ [];
      slot_is = seat;
      counts = record {
        consumers = consumers;
        thread = thread;
        answer = answer;
        row_is = br2.row_is;
        calls_are = refl;
        entries_are = refl;
        after_is = state ∙ ap (λ z. record old.state { held = z }) br2.held_is;
      };
      answer_is = refl;
      consumers_is = refl;
      thread_is = refl;
      did = record {
        entries_are = br2.did.entries_are ∙ (ap (λ z. z ++ added_entry answer ∷ []) m ∙ append_assoc old.journal.entries (End ∷ []) (added_entry answer ∷ []));
        goes = λ start calls h0. br2.did.goes start _ (l1 start _ (l0 start calls h0));
      };
    }

-- it is added to its digest's row, where it is a digested statement
pub digest_done : (old new : Book) (slot cell : ℕ) (answer : Added) (amount : Stat) (what : Open) (numbers : Numbers)
    (here there : List (Option Stat)) (was now : Opening → List Call → Type 0)
    → old.state.place.thread ≡ Some slot → what.digested ≡ true → cell ≡ digest_number what → amount ≡ amount_of what old.state.clock numbers
    → here ≡ old.state.held → Brings slot cell amount here there answer old.journal new.journal was now
    → new.state ≡ record old.state { held = there } → HasDigested old new what numbers (Some answer) was now
digest_done old new slot cell answer amount what numbers here there was now seat digested c e h br state =
    let P : ℕ → Type 0 = λ z. Brings slot z amount here there answer old.journal new.journal was now in
    let Q : Stat → Type 0 = λ z. Brings slot (digest_number what) z here there answer old.journal new.journal was now in
    let R : List (Option Stat) → Type 0 = λ z. Brings slot (digest_number what) (amount_of what old.state.clock numbers) z there answer old.journal new.journal was now in
    let br2 = subst R h (subst Q e (subst P c br)) in
    let calls : List Call = Adds (held_row slot (digest_number what)) (with_held (held_at old.state.held (digest_number what)) (amount_of what old.state.clock numbers)) answer ∷ [] in
    let own : AddsTo old.state slot (digest_number what) (amount_of what old.state.clock numbers) calls (added_entry answer ∷ []) new.state = record {
      answer = answer;
      row_is = br2.row_is;
      calls_are = refl;
      entries_are = refl;
      after_is = state ∙ ap (λ z. record old.state { held = z }) br2.held_is;
    } in
    let B : Bool → Type 0 = λ b. DigestsIn b old.state slot what numbers calls (added_entry answer ∷ []) new.state in
    record { slot = slot; calls = calls; slot_is = seat; digests = subst B (sym digested) own; did = br2.did }

pub digest_none : (old new : Book) (slot : ℕ) (what : Open) (numbers : Numbers) (was : Opening → List Call → Type 0)
    → old.state.place.thread ≡ Some slot → what.digested ≡ false → new ≡ old → HasDigested old new what numbers None was was
digest_none old new slot what numbers was seat digested same =
    let B : Bool → Type 0 = λ b. DigestsIn b old.state slot what numbers [] [] new.state in
    let own : AddsNothing old.state [] [] new.state = record { calls_are = refl; entries_are = refl; after_is = ap (λ (b : Book). b.state) same } in
    record {
      slot = slot;
      calls = [];
      slot_is = seat;
      digests = subst B (sym digested) own;
      did = subst (λ (b : Book). Did [] [] old.journal b.journal was was) (sym same) (did_none old.journal was);
    }

-- an event that has ended is put to its rings, one behind the other
pub puts_done : (at old new : Book) (slot depth place : ℕ) (what : Open) (numbers : Numbers) (consumers thread : ℕ) (event : Event) (first second : Bool)
    (current history long : Option Put) (a b : Journal) (nexts : Nexts) (was m n now : Opening → List Call → Type 0)
    → at ≡ old → at.state.place.thread ≡ Some slot → event ≡ ended_event what at.state.drawn at.state.clock numbers
    → depth ≡ depth_of what.kind at.state.opened.events → place ≡ next_of what.kind at.state.nexts
    → first ≡ goes_on what.placed (history_consumer what.kind) consumers thread → second ≡ goes_on what.placed (long_consumer what.kind) consumers thread
    → HasPut what.placed (Current slot what.kind depth) event current at.journal a was m
    → HasPut first (History slot what.kind place) event history a b m n → HasPut second (Long what.kind) event long b new.journal n now
    → nexts ≡ moved_by what.kind history at.state.nexts → new.state ≡ record at.state { nexts = nexts }
    → HasPuts old new what numbers consumers thread current history long was now
puts_done at old new slot depth place what numbers consumers thread event first second current history long a b nexts was m n now same seat e d p f g x y z moves state =
    let s : State = at.state in
    let own : Event = ended_event what s.drawn s.clock numbers in
    let D : ℕ → Type 0 = λ k. PutIf what.placed (Current slot what.kind k) own current x.calls in
    let E : Event → Type 0 = λ k. PutIf what.placed (Current slot what.kind depth) k current x.calls in
    let F : Bool → Type 0 = λ k. PutIf k (History slot what.kind (next_of what.kind s.nexts)) own history y.calls in
    let G : ℕ → Type 0 = λ k. PutIf first (History slot what.kind k) own history y.calls in
    let H : Event → Type 0 = λ k. PutIf first (History slot what.kind place) k history y.calls in
    let I : Bool → Type 0 = λ k. PutIf k (Long what.kind) own long z.calls in
    let J : Event → Type 0 = λ k. PutIf second (Long what.kind) k long z.calls in
    let puts : PutsAtEnd s slot what numbers consumers thread (z.calls ++ (y.calls ++ x.calls)) (put_entries current ++ (put_entries history ++ put_entries long)) new.state = record {
      current = current;
      history = history;
      long = long;
      current_calls = x.calls;
      history_calls = y.calls;
      long_calls = z.calls;
      current_is = subst D d (subst E e x.put_is);
      history_is = subst F f (subst G p (subst H e y.put_is));
      long_is = subst I g (subst J e z.put_is);
      calls_are = refl;
      entries_are = refl;
      after_is = state ∙ ap (λ k. record s { nexts = k }) moves;
    } in
    let two : Did (y.calls ++ x.calls) (put_entries current ++ put_entries history) at.journal b was n =
    did_then x.calls y.calls (put_entries current) (put_entries history) at.journal a b was m n x.did y.did in
    let three : Did (z.calls ++ (y.calls ++ x.calls)) ((put_entries current ++ put_entries history) ++ put_entries long) at.journal new.journal was now =
    did_then (y.calls ++ x.calls) z.calls (put_entries current ++ put_entries history) (put_entries long) at.journal b new.journal was n now two z.did in
    let B : Book → Type 0 = λ k. HasPuts k new what numbers consumers thread current history long was now in
    subst B same (record {
      slot = slot;
      calls = z.calls ++ (y.calls ++ x.calls);
      entries = put_entries current ++ (put_entries history ++ put_entries long);
      slot_is = seat;
      puts = puts;
      current_is = refl;
      history_is = refl;
      long_is = refl;
      did = subst (λ k. Did (z.calls ++ (y.calls ++ x.calls)) k at.journal new.journal was now)
          (append_assoc (put_entries current) (put_entries history) (put_entries long)) three;
    })

same_slot : {m n : ℕ} → Some m ≡ Some n → m ≡ n
same_slot {m} {n} e = grind (arith, e)

-- of an event that wasn't offered to its current place nothing is put
pub puts_none : (at : Book) (what : Open) (numbers : Numbers) (consumers thread : ℕ) (was : Opening → List Call → Type 0) (seat : Option ℕ) → at.state.place.thread ≡ seat → IsSome seat
    → what.placed ≡ false → HasPuts at at what numbers consumers thread None None None was was
puts_none at what numbers consumers thread was None e there off = absurd (false≢true there)
puts_none at what numbers consumers thread was (Some slot) e there off =
    let s : State = at.state in
    let own : Event = ended_event what s.drawn s.clock numbers in
    let C : Bool → Type 0 = λ b. PutIf b (Current slot what.kind (depth_of what.kind s.opened.events)) own None [] in
    let H : Bool → Type 0 = λ b. PutIf (goes_on b (history_consumer what.kind) consumers thread) (History slot what.kind (next_of what.kind s.nexts)) own None [] in
    let L : Bool → Type 0 = λ b. PutIf (goes_on b (long_consumer what.kind) consumers thread) (Long what.kind) own None [] in
    record {
      slot = slot;
      calls = [];
      entries = [];
      slot_is = e;
      puts = record {
        current = None;
        history = None;
        long = None;
        current_calls = [];
        history_calls = [];
        long_calls = [];
        current_is = subst C (sym off) (refl, refl);
        history_is = subst H (sym off) (refl, refl);
        long_is = subst L (sym off) (refl, refl);
        calls_are = refl;
        entries_are = refl;
        after_is = refl;
      };
      current_is = refl;
      history_is = refl;
      long_is = refl;
      did = did_none at.journal was;
    }

-- all of them, one behind the other
pub finish_all : (old mid at new : Book) (what : Open) (numbers : Numbers) (consumers thread : ℕ) (summary : Added) (digest : Option Added) (current history long : Option Put)
    (was m n now : Opening → List Call → Type 0)
    → HasCounted old mid what numbers summary consumers thread was m → HasDigested mid at what numbers digest m n → at.state ≡ record mid.state { held = at.state.held }
    → HasPuts at new what numbers consumers thread current history long n now → StandInRings current history long
    → Finished old new what numbers (record { summary = summary; digest = digest; current = current; history = history; long = long }) was now
finish_all old mid at new what numbers consumers thread summary digest current history long was m n now c d rest p stand =
    let place : mid.state.place.thread ≡ old.state.place.thread = ap (λ (k : State). k.place.thread) c.counts.after_is in
    let further : at.state.place.thread ≡ mid.state.place.thread = ap (λ (k : State). k.place.thread) rest in
    let slot : d.slot ≡ c.slot = same_slot (sym d.slot_is ∙ (place ∙ c.slot_is)) in
    let last : p.slot ≡ c.slot = same_slot (sym p.slot_is ∙ (further ∙ (place ∙ c.slot_is))) in
    let S : ℕ → Type 0 = λ k. DigestsIn what.digested mid.state k what numbers d.calls (added_entries digest) at.state in
    let T : ℕ → Type 0 = λ k. PutsAtEnd at.state k what numbers consumers thread p.calls p.entries new.state in
    let U : ℕ → Type 0 = λ k. PutsAtEnd at.state c.slot what numbers k thread p.calls p.entries new.state in
    let V : ℕ → Type 0 = λ k. PutsAtEnd at.state c.slot what numbers c.counts.consumers.flags k p.calls p.entries new.state in
    let adds : EndsAdded old.state c.slot what old.state.opened.events numbers (d.calls ++ c.calls) (c.entries ++ added_entries digest) at.state = record {
      between = mid.state;
      counted_calls = c.calls;
      counted_entries = c.entries;
      digested_calls = d.calls;
      digested_entries = added_entries digest;
      counts = c.counts;
      digests = subst S slot d.digests;
      calls_are = refl;
      entries_are = refl;
    } in
    record {
      slot = c.slot;
      calls = p.calls ++ (d.calls ++ c.calls);
      entries = (c.entries ++ added_entries digest) ++ p.entries;
      slot_is = c.slot_is;
      ends = record {
        among = at.state;
        added_calls = d.calls ++ c.calls;
        added_entries = c.entries ++ added_entries digest;
        ring_calls = p.calls;
        ring_entries = p.entries;
        adds = adds;
        puts = subst V (sym c.thread_is) (subst U (sym c.consumers_is) (subst T last p.puts));
        calls_are = refl;
        entries_are = refl;
      };
      summary_is = c.answer_is;
      digest_is = refl;
      puts_are = p.puts.entries_are
          ∙ (ap (λ k. put_entries k ++ (put_entries p.puts.history ++ put_entries p.puts.long)) p.current_is
          ∙ (ap (λ k. put_entries current ++ (put_entries k ++ put_entries p.puts.long)) p.history_is
          ∙ ap (λ k. put_entries current ++ (put_entries history ++ put_entries k)) p.long_is));
      stand = stand;
      did = did_then (d.calls ++ c.calls) p.calls (c.entries ++ added_entries digest) p.entries old.journal at.journal new.journal was n now
          (did_then c.calls d.calls c.entries (added_entries digest) old.journal mid.journal at.journal was m n c.did d.did) p.did;
    }

pub end_through : (old mid new : Book) (what : Open) (numbers : Numbers) (answer : Ended) (was now : Opening → List Call → Type 0)
    → old.state.opened.events ≡ what ∷ mid.state.opened.events → mid.state ≡ without_innermost old.state → mid.journal ≡ old.journal
    → is_let_through what.verdict ≡ true → Finished mid new what numbers answer was now → Played (EndsEvent numbers ∷ []) old new was now
end_through old mid new what numbers answer was now inner same journal through f =
    let P : State → Type 0 = λ m. EndsThrough m f.slot what mid.state.opened.events numbers f.calls f.entries new.state in
    let e = subst P same f.ends in
    let counts : EndsCounted old.state f.slot what mid.state.opened.events numbers e.adds.counted_calls e.adds.counted_entries e.adds.between = record {
      consumers = e.adds.counts.consumers;
      thread = e.adds.counts.thread;
      answer = e.adds.counts.answer;
      row_is = e.adds.counts.row_is;
      calls_are = e.adds.counts.calls_are;
      entries_are = e.adds.counts.entries_are;
      after_is = e.adds.counts.after_is;
    } in
    let adds : EndsAdded old.state f.slot what mid.state.opened.events numbers e.added_calls e.added_entries e.among = record {
      between = e.adds.between;
      counted_calls = e.adds.counted_calls;
      counted_entries = e.adds.counted_entries;
      digested_calls = e.adds.digested_calls;
      digested_entries = e.adds.digested_entries;
      counts = counts;
      digests = e.adds.digests;
      calls_are = e.adds.calls_are;
      entries_are = e.adds.entries_are;
    } in
    let own : EndsThrough old.state f.slot what mid.state.opened.events numbers f.calls f.entries new.state = record {
      among = e.among;
      added_calls = e.added_calls;
      added_entries = e.added_entries;
      ring_calls = e.ring_calls;
      ring_entries = e.ring_entries;
      adds = adds;
      puts = e.puts;
      calls_are = e.calls_are;
      entries_are = e.entries_are;
    } in
    let seat : Some f.slot ≡ old.state.place.thread = sym f.slot_is ∙ ap (λ (m : State). m.place.thread) same in
    let Q : Option ℕ → Type 0 = λ o. EndsIn old.state o true what mid.state.opened.events numbers f.calls f.entries new.state in
    let R : Bool → Type 0 = λ t. EndsIn old.state old.state.place.thread t what mid.state.opened.events numbers f.calls f.entries new.state in
    let J : Journal → Type 0 = λ j. Did f.calls f.entries j new.journal was now in
    played_one (EndsEvent numbers) f.calls f.entries new.state old new was now
    (record { what = what; others = mid.state.opened.events; innermost = inner; ends = subst R (sym through) (subst Q seat own) })
    refl (subst J journal f.did)

pub end_silent : (old mid new : Book) (what : Open) (numbers : Numbers) (was : Opening → List Call → Type 0)
    → old.state.opened.events ≡ what ∷ mid.state.opened.events → mid.state ≡ without_innermost old.state → mid.journal ≡ old.journal
    → is_let_through what.verdict ≡ false → new.state ≡ mid.state → new.journal.entries ≡ mid.journal.entries ++ says.End None None None None ∷ []
    → Played (EndsEvent numbers ∷ []) old new was was
end_silent old mid new what numbers was inner same journal silent state entries =
    let others : List Open = mid.state.opened.events in
    let after : new.state ≡ record old.state { opened = record old.state.opened { events = others } } =
    state ∙ (same ∙ ap (λ z. record old.state { opened = record old.state.opened { events = z } }) (sym (ap (λ (m : State). m.opened.events) same))) in
    let own : EndsSilently old.state others [] (says.End None None None None ∷ []) new.state = record { calls_are = refl; entries_are = refl; after_is = after } in
    let R : Bool → Type 0 = λ t. EndsIn old.state old.state.place.thread t what others numbers [] (says.End None None None None ∷ []) new.state in
    played_one (EndsEvent numbers) [] (says.End None None None None ∷ []) new.state old new was was
    (record { what = what; others = others; innermost = inner; ends = subst R (sym silent) own })
    refl (record { entries_are = entries ∙ ap (λ (j : Journal). j.entries ++ says.End None None None None ∷ []) journal; goes = λ start calls h. h })

-- a session without a slot holds nothing
pub none_held : (thread : Option ℕ) (held : List (Option Stat)) → AreHeldFor thread held → thread ≡ None → held ≡ nothing_held
none_held thread held h e = subst (λ t. AreHeldFor t held) e h

held_for : (thread : Option ℕ) (held : List (Option Stat)) → held ≡ nothing_held → AreHeldFor thread held
held_for None held e = e
held_for (Some slot) held e = tt

pub settle_played : (old new : Book) (was now : Opening → List Call → Type 0) → AreHeldFor old.state.place.thread old.state.held
    → PaysAll (owed_by_state old.state) old.journal new.journal was now
    → new.state ≡ record old.state { held = nothing_held } → Played (SettlesHeld ∷ []) old new was now
settle_played old new was now seated p state =
    let s : State = old.state in
    played_one SettlesHeld _ _ (record s { held = nothing_held }) old new was now
    (record {
      unseated = none_held s.place.thread s.held seated;
      paid = p.paid;
      owed_are = p.owed_are;
      calls_are = refl;
      entries_are = refl;
      after_is = refl;
    }) state p.did

works_of : (work : Work) (words : List Word) (head : List Entry) (old new : Journal) (was now : Opening → List Call → Type 0) (w : Worked work words head old new was now)
    → Works work words head (flagging_calls words work.flags ++ (signs_calls w.made ++ moves_calls w.moves))
    (head ++ (moves_entries w.moves ++ (signs_entries w.made ++ flagging_entries words work.flags)))
works_of work words head old new was now w = record {
  moves = w.moves;
  made = w.made;
  are_moves = w.are_moves;
  signs_are = w.signs_are;
  calls_are = refl;
  entries_are = refl;
}

-- a session with these actions behind it, at this place
abbrev pub placed_at : State → Placed → ℕ → Lost → State
placed_at s place number lost = record s { place = place; actions = s.actions + 1; last = Some (record { number = number; lost = lost }) }

placed_same : (s : State) (p q : Placed) (m n : ℕ) (k l : Lost) → p ≡ q → m ≡ n → k ≡ l → placed_at s p m k ≡ placed_at s q n l
placed_same s p q m n k l e f g = ap (λ z. placed_at s z m k) e ∙ (ap (λ z. placed_at s q z k) f ∙ ap (λ z. placed_at s q n z) g)

pub connect_played : (old new : Book) (admin after : Administration) (user host : ℕ) (placed : Placed) (number : ℕ) (lost : Lost) (was now : Opening → List Call → Type 0)
    → Worked (work_of_connect admin old.state.number user host) admin.words (connect_entry (admin.actions + 1) (seat_at admin old.state.number user host) ∷ [])
    old.journal new.journal was now
    → after ≡ connected admin old.state.number user host → placed ≡ placed_of (seat_at admin old.state.number user host) → number ≡ after.actions
    → lost ≡ lost_in after.kept.now → new.state ≡ placed_at old.state placed number lost → Played (Connects admin user host ∷ []) old new was now
connect_played old new admin after user host placed number lost was now w step p n l state =
    let s : State = old.state in
    let at : Administration = connected admin s.number user host in
    let mid : State = placed_at s (placed_of (seat_at admin s.number user host)) at.actions (lost_in at.kept.now) in
    played_one (Connects admin user host) _ _ mid old new was now
    (works_of _ _ _ _ _ _ _ w, refl)
    (state ∙ placed_same s _ _ _ _ _ _ p (n ∙ ap (λ (z : Administration). z.actions) step) (l ∙ ap (λ (z : Administration). lost_in z.kept.now) step))
    w.did

pub quit_played : (old new : Book) (mid : Journal) (admin after : Administration) (number action : ℕ) (lost : Lost) (was now : Opening → List Call → Type 0)
    → action ≡ admin.actions + 1 → mid.entries ≡ old.journal.entries ++ says.Act action ∷ []
    → Worked (work_of_quit admin old.state.number) admin.words [] mid new.journal was now
    → after ≡ has_quit admin old.state.number → number ≡ after.actions → lost ≡ lost_in after.kept.now
    → new.state ≡ placed_at old.state no_place number lost → Played (Quits admin ∷ []) old new was now
quit_played old new mid admin after number action lost was now a m w step n l state =
    let s : State = old.state in
    let at : Administration = has_quit admin s.number in
    let end : State = placed_at s no_place at.actions (lost_in at.kept.now) in
    let all = worked_behind (work_of_quit admin s.number) admin.words (says.Act (admin.actions + 1)) old.journal mid new.journal was now
    (m ∙ ap (λ z. old.journal.entries ++ says.Act z ∷ []) a) w in
    played_one (Quits admin) _ _ end old new was now
    (works_of _ _ _ _ _ _ _ all, refl)
    (state ∙ placed_same s _ _ _ _ _ _ refl (n ∙ ap (λ (z : Administration). z.actions) step) (l ∙ ap (λ (z : Administration). lost_in z.kept.now) step))
    all.did

pub truncation_played : (old new : Book) (mid last : Journal) (admin after : Administration) (what : Truncation) (number action : ℕ) (lost : Lost) (was now : Opening → List Call → Type 0)
    → action ≡ admin.actions + 1 → mid.entries ≡ old.journal.entries ++ says.Act action ∷ []
    → Worked (work_of_truncation admin what) admin.words [] mid last was now → new.journal.entries ≡ last.entries ++ says.Reply 0 ∷ []
    → after ≡ has_truncated admin what → number ≡ after.actions → lost ≡ lost_in after.kept.now
    → new.state ≡ placed_at old.state old.state.place number lost → Played (Truncates admin what ∷ []) old new was now
truncation_played old new mid last admin after what number action lost was now a m w reply step n l state =
    let s : State = old.state in
    let at : Administration = has_truncated admin what in
    let end : State = placed_at s s.place at.actions (lost_in at.kept.now) in
    let all = worked_behind (work_of_truncation admin what) admin.words (says.Act (admin.actions + 1)) old.journal mid last was now
    (m ∙ ap (λ z. old.journal.entries ++ says.Act z ∷ []) a) w in
    played_one (Truncates admin what) _ _ end old new was now
    (record { changes = _; works = works_of _ _ _ _ _ _ _ all; entries_are = refl; after_is = refl })
    (state ∙ placed_same s _ _ _ _ _ _ refl (n ∙ ap (λ (z : Administration). z.actions) step) (l ∙ ap (λ (z : Administration). lost_in z.kept.now) step))
    (record {
      entries_are = reply ∙ (ap (λ z. z ++ says.Reply 0 ∷ []) all.did.entries_are ∙ append_assoc old.journal.entries _ (says.Reply 0 ∷ []));
      goes = all.did.goes;
    })

pub statement_played : (old new : Book) (mid last : Journal) (admin after : Administration) (what : SetupStatement) (answered : Bool) (reply : Reply) (number action : ℕ) (lost : Lost)
    (was now : Opening → List Call → Type 0)
    → action ≡ admin.actions + 1 → mid.entries ≡ old.journal.entries ++ says.Act action ∷ []
    → Worked (work_of_statement admin what) admin.words [] mid last was now → answered ≡ is_answered what → reply ≡ reply_to admin what
    → new.journal.entries ≡ last.entries ++ answer_entries answered reply
    → after ≡ has_changed admin what → number ≡ after.actions → lost ≡ lost_in after.kept.now
    → new.state ≡ placed_at old.state old.state.place number lost → Played (Changes admin what ∷ []) old new was now
statement_played old new mid last admin after what answered reply number action lost was now a m w b r told step n l state =
    let s : State = old.state in
    let at : Administration = has_changed admin what in
    let end : State = placed_at s s.place at.actions (lost_in at.kept.now) in
    let all = worked_behind (work_of_statement admin what) admin.words (says.Act (admin.actions + 1)) old.journal mid last was now
    (m ∙ ap (λ z. old.journal.entries ++ says.Act z ∷ []) a) w in
    let answer : answer_entries answered reply ≡ reply_entries what (reply_to admin what) =
    ap (λ z. answer_entries z reply) b ∙ ap (answer_entries (is_answered what)) r in
    played_one (Changes admin what) _ _ end old new was now
    (record { changes = _; works = works_of _ _ _ _ _ _ _ all; entries_are = refl; after_is = refl })
    (state ∙ placed_same s _ _ _ _ _ _ refl (n ∙ ap (λ (z : Administration). z.actions) step) (l ∙ ap (λ (z : Administration). lost_in z.kept.now) step))
    (record {
      entries_are = told ∙ (ap (λ z. last.entries ++ z) answer ∙ (ap (λ z. z ++ reply_entries what (reply_to admin what)) all.did.entries_are
          ∙ append_assoc old.journal.entries _ (reply_entries what (reply_to admin what))));
      goes = all.did.goes;
    })

-- a SELECT asks for nothing
pub shown_work : (admin : Administration) (what : SetupStatement) (log : Journal) (was : Opening → List Call → Type 0) → what ≡ Show
    → Worked (work_of_statement admin what) admin.words [] log log was was
unfolding flags_changed
shown_work admin what log was e = subst (λ z. Worked (work_of_statement admin z) admin.words [] log log was was) (sym e) (worked_nothing admin.words log was)

pub shown_words : (admin : Administration) → (has_changed admin Show).words ≡ admin.words
unfolding words_changed
shown_words admin = refl

-- a reading is one call and one entry
pub looked : (old new : Book) (reading : Reading) (was now : Opening → List Call → Type 0)
    → Goes was now (call_of reading ∷ []) → new.state ≡ old.state → new.journal.entries ≡ old.journal.entries ++ reading_entry reading ∷ []
    → Played (looks_at (Some reading)) old new was now
looked old new reading was now goes state entries =
    played_one (Inquires (Looks reading)) _ _ old.state old new was now
    (record { calls_are = refl; entries_are = refl; after_is = refl })
    state
    (record { entries_are = entries; goes = goes })

-- the same of a session that is known by another name
pub connect_from : (at old new : Book) (admin after : Administration) (user host : ℕ) (placed : Placed) (number : ℕ) (lost : Lost) (was now : Opening → List Call → Type 0)
    → at ≡ old → Worked (work_of_connect admin at.state.number user host) admin.words (connect_entry (admin.actions + 1) (seat_at admin at.state.number user host) ∷ [])
    at.journal new.journal was now
    → after ≡ connected admin at.state.number user host → placed ≡ placed_of (seat_at admin at.state.number user host) → number ≡ after.actions
    → lost ≡ lost_in after.kept.now → new.state ≡ placed_at at.state placed number lost → Played (Connects admin user host ∷ []) old new was now
connect_from at old new admin after user host placed number lost was now e w step p n l state =
    subst (λ b. Played (Connects admin user host ∷ []) b new was now) e
    (connect_played at new admin after user host placed number lost was now w step p n l state)

pub quit_from : (at old new : Book) (mid : Journal) (admin after : Administration) (number action : ℕ) (lost : Lost) (was now : Opening → List Call → Type 0)
    → at ≡ old → action ≡ admin.actions + 1 → mid.entries ≡ at.journal.entries ++ says.Act action ∷ []
    → Worked (work_of_quit admin at.state.number) admin.words [] mid new.journal was now
    → after ≡ has_quit admin at.state.number → number ≡ after.actions → lost ≡ lost_in after.kept.now
    → new.state ≡ placed_at at.state no_place number lost → Played (Quits admin ∷ []) old new was now
quit_from at old new mid admin after number action lost was now e a m w step n l state =
    subst (λ b. Played (Quits admin ∷ []) b new was now) e (quit_played at new mid admin after number action lost was now a m w step n l state)

pub truncation_from : (at old new : Book) (mid last : Journal) (admin after : Administration) (what : Truncation) (number action : ℕ) (lost : Lost) (was now : Opening → List Call → Type 0)
    → at ≡ old → action ≡ admin.actions + 1 → mid.entries ≡ at.journal.entries ++ says.Act action ∷ []
    → Worked (work_of_truncation admin what) admin.words [] mid last was now → new.journal.entries ≡ last.entries ++ says.Reply 0 ∷ []
    → after ≡ has_truncated admin what → number ≡ after.actions → lost ≡ lost_in after.kept.now
    → new.state ≡ placed_at at.state at.state.place number lost → Played (Truncates admin what ∷ []) old new was now
truncation_from at old new mid last admin after what number action lost was now e a m w reply step n l state =
    subst (λ b. Played (Truncates admin what ∷ []) b new was now) e
    (truncation_played at new mid last admin after what number action lost was now a m w reply step n l state)

pub statement_from : (at old new : Book) (mid last : Journal) (admin after : Administration) (what : SetupStatement) (answered : Bool) (reply : Reply) (number action : ℕ) (lost : Lost)
    (was now : Opening → List Call → Type 0)
    → at ≡ old → action ≡ admin.actions + 1 → mid.entries ≡ at.journal.entries ++ says.Act action ∷ []
    → Worked (work_of_statement admin what) admin.words [] mid last was now → answered ≡ is_answered what → reply ≡ reply_to admin what
    → new.journal.entries ≡ last.entries ++ answer_entries answered reply
    → after ≡ has_changed admin what → number ≡ after.actions → lost ≡ lost_in after.kept.now
    → new.state ≡ placed_at at.state at.state.place number lost → Played (Changes admin what ∷ []) old new was now
statement_from at old new mid last admin after what answered reply number action lost was now e a m w b r told step n l state =
    subst (λ z. Played (Changes admin what ∷ []) z new was now) e
    (statement_played at new mid last admin after what answered reply number action lost was now a m w b r told step n l state)

pub settle_from : (at old new : Book) (held there : List (Option Stat)) (was now : Opening → List Call → Type 0) → at ≡ old
    → AreHeldFor at.state.place.thread at.state.held → held ≡ at.state.held
    → PaysAll (owed_in at.state.place.thread held) at.journal new.journal was now → there ≡ nothing_held → new.state ≡ record at.state { held = there }
    → Played (SettlesHeld ∷ []) old new was now
settle_from at old new held there was now e seated h p none state =
    let P : List (Option Stat) → Type 0 = λ z. PaysAll (owed_in at.state.place.thread z) at.journal new.journal was now in
    subst (λ b. Played (SettlesHeld ∷ []) b new was now) e
    (settle_played at new was now seated (subst P h p) (state ∙ ap (λ z. record at.state { held = z }) none))

pub count_from : (at old new : Book) (slot cell : ℕ) (consumers thread : Word) (answer : Added) (amount : Stat) (what : Open) (numbers : Numbers) (mid : Journal)
    (here there last : List (Option Stat)) (was a b now : Opening → List Call → Type 0)
    → at ≡ old → at.state.place.thread ≡ Some slot → Goes was a (Loads 0 consumers.version consumers.flags ∷ [])
    → Goes a b (Loads (1 + slot) thread.version thread.flags ∷ [])
    → mid.entries ≡ at.journal.entries ++ says.End (Some what.event.number) (Some at.state.drawn) (Some consumers.version) (Some thread.version) ∷ []
    → cell ≡ cell_number what → amount ≡ amount_of what at.state.clock numbers → here ≡ at.state.held
    → Brings slot cell amount here there answer mid new.journal b now
    → last ≡ there → new.state ≡ record at.state { held = last } → HasCounted old new what numbers answer consumers.flags thread.flags was now
count_from at old new slot cell consumers thread answer amount what numbers mid here there last was a b now same seat l0 l1 m c e h br is state =
    subst (λ z. HasCounted z new what numbers answer consumers.flags thread.flags was now) same
    (count_done at new slot cell consumers thread answer amount what numbers mid here there was a b now seat l0 l1 m c e h br
    (state ∙ ap (λ z. record at.state { held = z }) is))

pub digest_from : (at old new : Book) (slot cell : ℕ) (answer : Added) (amount : Stat) (what : Open) (numbers : Numbers)
    (here there last : List (Option Stat)) (was now : Opening → List Call → Type 0)
    → at ≡ old → at.state.place.thread ≡ Some slot → what.digested ≡ true → cell ≡ digest_number what → amount ≡ amount_of what at.state.clock numbers
    → here ≡ at.state.held → Brings slot cell amount here there answer at.journal new.journal was now
    → last ≡ there → new.state ≡ record at.state { held = last } → HasDigested old new what numbers (Some answer) was now
digest_from at old new slot cell answer amount what numbers here there last was now same seat digested c e h br is state =
    subst (λ z. HasDigested z new what numbers (Some answer) was now) same
    (digest_done at new slot cell answer amount what numbers here there was now seat digested c e h br
    (state ∙ ap (λ z. record at.state { held = z }) is))

one_small : (b : Bool) → one_if b ≤ 1
one_small true = omega arith
one_small false = omega arith

-- how many events are open of a kind
count_few : (test : EventKind → Bool) (events : List Open) → count_open test events ≤ length events
count_few test [] = omega arith
count_few test (what ∷ events) = omega (arith, count_few test events, one_small (is_let_through what.verdict && test what.kind))

-- one more event of a kind that is open is a number of 64 bits
pub count_fits : (test : EventKind → Bool) (events : List Open) (count one depth : ℕ) (b : Bool) → count ≡ count_open test events → one ≡ one_if b → length events < depth
    → depth < 2 ^ 64 → count + one < 2 ^ 64
count_fits test events count one depth b e f low fits = omega (arith, e, f, low, fits, count_few test events, one_small b)

-- a session with nothing open keeps what always holds wherever it is connected
seated_by : (thread : Option ℕ) (events : List Open) → events ≡ [] → IfSome thread (λ n. n < 32) → AreSeated thread events
seated_by None events e low = subst AreSilent (sym e) tt
seated_by (Some slot) events e low = low

pub kept_elsewhere : (s after : State) (statements waits : ℕ) → s.opened.events ≡ [] → s.place.thread ≡ None
    → IfSome after.place.thread (λ n. n < 32) → after.opened ≡ s.opened → after.held ≡ s.held → after.stack ≡ s.stack → after.nexts ≡ s.nexts
    → IsKept s statements waits → IsKept after statements waits
kept_elsewhere s after statements waits e nowhere low o h d n k = record {
  statements_are = k.statements_are ∙ ap (λ z. count_open is_statement z.events) (sym o);
  waits_are = k.waits_are ∙ ap (λ z. count_open is_wait z.events) (sym o);
  nested = subst (λ z. AreAround z.events) (sym o) k.nested;
  seated = seated_by after.place.thread after.opened.events (ap (λ z. z.events) o ∙ e) low;
  held_wide = ap length h ∙ k.held_wide;
  held_seated = held_for after.place.thread after.held (h ∙ none_held s.place.thread s.held k.held_seated nowhere);
  stack_few = omega (arith, d, k.stack_few);
  placed = subst (λ z. ArePlaced z.events) (sym o) k.placed;
  nexts_few = subst AreNexts (sym n) k.nexts_few;
}

pub stage_from : (old mid new : Book) (what : Option Subject) (subject : Subject) (was at now : Opening → List Call → Type 0) → what ≡ Some subject
    → Played (stage_ends old.state.opened.events) old mid was at → Played (StartsEvent subject ∷ []) mid new at now
    → Played (stage_steps old.state.opened.events what) old new was now
stage_from old mid new what subject was at now e p q =
    subst (λ z. Played (stage_steps old.state.opened.events z) old new was now) (sym e)
    (played_then (stage_ends old.state.opened.events) (StartsEvent subject ∷ []) old mid new was at now p q)
