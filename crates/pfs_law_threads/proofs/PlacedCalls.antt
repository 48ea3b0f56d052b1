-- What a session puts goes to a place of its thread's ring, or to the long place of its ticket.
use Rattle.std.proofs.Common.{ℕ, ◌≡◌, ◌+◌, ◌-◌, ◌*◌, ◌%◌, ◌<◌, ◌≤◌, ◌==◌, Bool, true, false, cond, List, [], ◌∷◌, ◌++◌, slice_index, Option, Some, None, IfSome, inl, inr, refl, ap, sym, ◌∙◌, subst, arith, eqb-true}
use Rattle.std.specs.Prelude.{◌⊎◌}
use Rattle.pfs_admin.specs.AdministrationStates.{seat_at}
use Rattle.pfs_admin.specs.ConnectionAsks.{placed_of, work_of_connect, work_of_quit}
use Rattle.pfs_admin.specs.SetupStatements.{work_of_statement}
use Rattle.pfs_admin.specs.Truncations.{work_of_truncation}
use Rattle.pfs_admin.specs.Works.{Sign, Releases, Tags, Made, Flagging, Work, signs_calls, made_calls, flagging_calls}
use Rattle.pfs_board.specs.declared.view.Label.{Label}
use Rattle.pfs_event.specs.Verdicts.{is_let_through}
use Rattle.pfs_event.specs.declared.entry.Entry.{Entry}
use Rattle.pfs_event.specs.declared.event.Event.{Event}
use Rattle.pfs_event.specs.declared.kind.EventKind.{EventKind}
use Rattle.pfs_event.specs.declared.kind.EventKind.TheVariants as kinds
use Rattle.pfs_event.specs.declared.open.Open.{Open}
use Rattle.pfs_levels.specs.Calls.{Call, Adds, Rings, Reads, Loads, Draws, Takes, Puts, Frees, Sets, Enters, Leaves, Meets, IsRing}
use Rattle.pfs_levels.specs.CallOrder.{AllCalls}
use Rattle.pfs_levels.specs.Moves.{Gift, Move, gift_calls, move_calls, moves_calls}
use Rattle.pfs_levels.specs.declared.answers.Word.{Word}
use Rattle.pfs_model.proofs.EachLists.{each_join, each_front, each_behind}
use Rattle.pfs_model.specs.Causes.{long_row}
use Rattle.pfs_model.specs.Chains.{Each}
use Rattle.pfs_model.specs.Rings.{current_row, history_row, ring_number}
use Rattle.pfs_model.specs.Shapes.{is_stage}
use Rattle.pfs_model.specs.declared.lines.Subject.{Subject}
use Rattle.pfs_rings.specs.Offers.{offered}
use Rattle.pfs_rings.specs.RingPlaces.{depths}
use Rattle.pfs_rings.specs.declared.puts.Put.{Put}
use Rattle.pfs_rings.specs.declared.rings.Ring.{Ring}
use Rattle.pfs_rings.specs.declared.rings.Ring.TheVariants.{Current, History, Long}
use Rattle.pfs_rows.specs.declared.table.Reading.{Reading}
use Rattle.pfs_rows.specs.declared.table.Reading.TheVariants as readings
use Rattle.pfs_session.proofs.EndFrames.{added_leaves, through_leaves}
use Rattle.pfs_session.proofs.OfferedPlaces.{start_deep}
use Rattle.pfs_session.specs.Ends.{Ends, EndsIn, EndsThrough, DigestsIn, PutsAtEnd, no_numbers}
use Rattle.pfs_session.specs.EventPuts.{ArePlaced, PutIf, PutIn, depth_of, is_placed_by}
use Rattle.pfs_session.specs.Inquiries.{Inquiry, Looks, Remarks, inquiry_calls}
use Rattle.pfs_session.specs.SessionStates.{State, fresh}
use Rattle.pfs_session.specs.Settlements.{Paid, paid_calls, pay_calls}
use Rattle.pfs_session.specs.Starts.{Begins, Starts, load_calls, table_calls, verdict_in}
use Rattle.pfs_session.specs.Turns.{Step, StartsEvent, EndsEvent, Spends, SettlesHeld, Connects, Quits, Truncates, Changes, Inquires, Does, Works, Turn, AreTurns, state_after, steps_of, turns_calls, stage_ends}
use Rattle.pfs_session.specs.declared.events.Numbers.{Numbers}
use Rattle.pfs_session.specs.declared.setup.Setup.{Setup}
use Rattle.pfs_stat.specs.declared.Stat.{Stat}
use Rattle.pfs_law_session.proofs.Stints.{state_more}
use Rattle.pfs_law_session.specs.Deeds.{MayDo, is_over, Deed, Connecting, Starting, Staging, StageEnding, Ending, Spending, Quitting, Truncating, Changing, Showing, Querying, Refusing, Closing, Part, action_of, looks, steps_for, part_calls}
use Rattle.pfs_law_session.specs.JournalLaws.{AreParts, MayDoAll, state_behind}
use Rattle.pfs_law_session.specs.Stints.{Stint, state_by, over_by, resumed, AreStintsBehind}
use Rattle.pfs_law_plain.specs.Spells.{Doing, Spell, AreSpells, around, entering, doing_calls, doings_calls, parts_in, stint_of, stints_of}
use Rattle.pfs_law_shared.specs.Shares.{actors_of}
use Rattle.pfs_law_shared.specs.Tickets.{AllPlaced, IsPlaced}
use Rattle.pfs_law_threads.specs.Placed.{PlacedLaw}

abbrev AreAt : List Call → Type 0
AreAt calls = Each IsPlaced calls

join : (xs ys : List Call) → AreAt xs → AreAt ys → AreAt (xs ++ ys)
join xs ys a b = each_join IsPlaced xs ys a b

-- calls that put nothing to a ring
gifts_at : (amount : Stat) (gs : List Gift) → AreAt (gift_calls amount gs)
gifts_at amount [] = tt
gifts_at amount (g ∷ gs) = join (gift_calls amount gs) _ (gifts_at amount gs) (tt, (tt, tt))

moves_at : (ms : List Move) → AreAt (moves_calls ms)
moves_at [] = tt
moves_at (m ∷ ms) = join (move_calls m) (moves_calls ms) (join (gift_calls _ m.gifts) _ (gifts_at _ m.gifts) (tt, (tt, tt))) (moves_at ms)

made_at : (sign : Sign) (version : ℕ) (found : List ℕ) → AreAt (made_calls (record { sign = sign; version = version; found = found }))
made_at (Releases row) version found = (tt, (tt, tt))
made_at (Tags row content) version found = (tt, (tt, tt))

signs_at : (ms : List Made) → AreAt (signs_calls ms)
signs_at [] = tt
signs_at (m ∷ ms) = join (made_calls m) (signs_calls ms) (made_at m.sign m.version m.found) (signs_at ms)

flags_at : (words : List Word) (fs : List Flagging) → AreAt (flagging_calls words fs)
flags_at words [] = tt
flags_at words (f ∷ fs) = join (flagging_calls words fs) (Sets f.word f.flags _ ∷ []) (flags_at words fs) (tt, tt)

works_at : (work : Work) (words : List Word) (head : List Entry) (calls : List Call) (entries : List Entry) → Works work words head calls entries → AreAt calls
works_at work words head calls entries w =
    subst AreAt (sym w.calls_are)
    (join (flagging_calls words work.flags) (signs_calls w.made ++ moves_calls w.moves) (flags_at words work.flags)
    (join (signs_calls w.made) (moves_calls w.moves) (signs_at w.made) (moves_at w.moves)))

paid_at : (ps : List Paid) → AreAt (paid_calls ps)
paid_at [] = tt
paid_at (p ∷ ps) = join (pay_calls p) (paid_calls ps) (tt, (tt, tt)) (paid_at ps)

table_at : (table : Option ℕ) (seen : Option Word) → AreAt (table_calls table seen)
table_at (Some table) (Some word) = (tt, tt)
table_at (Some table) None = tt
table_at None word = tt

loads_at : (slot class table : Option ℕ) (seen : Option Setup) → AreAt (load_calls slot class table seen)
loads_at (Some slot) (Some class) table (Some seen) = join (table_calls table seen.table) _ (table_at table seen.table) (tt, (tt, (tt, tt)))
loads_at (Some slot) (Some class) table None = tt
loads_at (Some slot) None table seen = tt
loads_at None class table seen = tt

digest_at : (b : Bool) (s : State) (slot : ℕ) (what : Open) (numbers : Numbers) (calls : List Call) (entries : List Entry) (after : State) → DigestsIn b s slot what numbers calls entries after → AreAt calls
digest_at false s slot what numbers calls entries after d = subst AreAt (sym d.calls_are) tt
digest_at true s slot what numbers calls entries after d = subst AreAt (sym d.calls_are) (tt, tt)

inquiry_at : (what : Inquiry) → AreAt (inquiry_calls what)
inquiry_at (Looks (readings.Slot row found)) = (tt, tt)
inquiry_at (Looks (readings.Word word version flags)) = (tt, tt)
inquiry_at (Remarks remark) = tt

-- a place of a ring: of one of 32 threads, and of those that its kind has
abbrev IsThere : Ring → Type 0
IsThere (Current thread kind depth) = (thread < 32) × (depth < depths kind)
IsThere (History thread kind place) = thread < 32
IsThere (Long kind) = Unit {0}

current_at : (thread : ℕ) (kind : EventKind) (depth : ℕ) → thread < 32 → depth < depths kind → (8450 ≤ current_row thread kind depth) × (current_row thread kind depth < 10242)
current_at thread kinds.Wait depth t d = (omega arith, omega (arith, t, d))
current_at thread kinds.Stage depth t d = (omega arith, omega (arith, t))
current_at thread kinds.Statement depth t d = (omega arith, omega (arith, t, d))
current_at thread kinds.Transaction depth t d = (omega arith, omega (arith, t))

kind_low : (kind : EventKind) → ring_number kind < 4
kind_low kinds.Wait = omega arith
kind_low kinds.Stage = omega arith
kind_low kinds.Statement = omega arith
kind_low kinds.Transaction = omega arith

history_at : (thread : ℕ) (kind : EventKind) (place : ℕ) → thread < 32 → (8450 ≤ history_row thread (ring_number kind) place) × (history_row thread (ring_number kind) place < 10242)
history_at thread kind place t = (omega arith, omega (arith, t, kind_low kind))

long_at : (kind : EventKind) (ticket : ℕ) (event : Event) → IsRing (long_row (ring_number kind) ticket) (offered event (Some ticket))
long_at kind ticket event = inr (omega arith, omega (arith, kind_low kind), omega arith, omega arith)

put_at : (due : Bool) (ring : Ring) (event : Event) (put : Option Put) (calls : List Call) → (due ≡ true → IsThere ring) → PutIf due ring event put calls → AreAt calls
put_at false ring event put calls there x = subst AreAt (sym x.1) tt
put_at true ring event None calls there x = absurd x
put_at true (Current thread kind depth) event (Some put) calls there x =
    let t = there refl in
    subst AreAt (sym x.calls_are) (inl (current_at thread kind depth t.0 t.1), tt)
put_at true (History thread kind place) event (Some put) calls there x = subst AreAt (sym x.calls_are) (inl (history_at thread kind place (there refl)), tt)
put_at true (Long kind) event (Some put) calls there x = subst AreAt (sym x.at.calls_are) (long_at kind x.ticket event, (tt, tt))

-- a session in one of 32 slots, or in none, whose open events have the places that they are offered to
record Keeps (number : ℕ) (s : State) : Type 0 where
  pub number_is : s.number ≡ number
  pub low : IfSome s.place.thread (λ slot. slot < 32)
  pub stack : s.stack ≤ 10
  pub placed : ArePlaced s.opened.events

keeps_as : (number : ℕ) (s t : State) → Keeps number s → t.number ≡ s.number → t.stack ≡ s.stack → t.opened.events ≡ s.opened.events → IfSome t.place.thread (λ slot. slot < 32) → Keeps number t
keeps_as number s t k n m e low = record { number_is = n ∙ k.number_is; low = low; stack = subst (λ z. z ≤ 10) (sym m) k.stack; placed = subst ArePlaced (sym e) k.placed }

record IsDone (number : ℕ) (calls : List Call) (after : State) : Type 0 where
  pub at : AreAt calls
  pub keeps : Keeps number after

-- a start
begun_deep : (s : State) (what : Subject) (calls : List Call) (entries : List Entry) (after : State) → s.stack ≤ 10 → (b : Begins s what calls entries after) → b.what.placed ≡ true → depth_of b.what.kind s.opened.events < depths b.what.kind
begun_deep s what calls entries after few b q =
    start_deep s.stack s.opened.events s.place.thread what b.seen (verdict_in s what b.seen) _ _ (is_placed_by what (verdict_in s what b.seen) b.seen) b.what refl refl few refl refl b.opened.placed_is b.opened.kind q

place_at : (slot : Option ℕ) (what : Open) (depth : ℕ) (event : Event) (put : Option Put) (calls : List Call) → IfSome slot (λ n. n < 32) → (what.placed ≡ true → depth < depths what.kind) → PutIn slot what depth event put calls → AreAt calls
place_at None what depth event put calls low deep x = subst AreAt (sym x.1) tt
place_at (Some slot) what depth event put calls low deep x = put_at what.placed (Current slot what.kind depth) event put calls (λ q. (low, deep q)) x

started_at : (number : ℕ) (s : State) (subject : Subject) (calls : List Call) (entries : List Entry) (after : State) → Keeps number s → Starts s subject calls entries after → IsDone number calls after
started_at number s subject calls entries after k d =
    let b = d.begins in
    let deep = begun_deep s subject d.begun_calls d.begun_entries after k.stack b in
    record {
      at = subst AreAt (sym d.calls_are)
          (join d.put_calls d.begun_calls (place_at s.place.thread b.what (depth_of b.what.kind s.opened.events) b.what.event d.current d.put_calls k.low deep d.put_is)
          (subst AreAt (sym b.calls_are) (loads_at s.place.thread subject.class subject.table b.seen)));
      keeps = record {
        number_is = ap (λ (z : State). z.number) b.after_is ∙ k.number_is;
        low = subst (λ z. IfSome z (λ n. n < 32)) (sym (ap (λ (z : State). z.place.thread) b.after_is)) k.low;
        stack = subst (λ (z : State). z.stack ≤ 10) (sym b.after_is) k.stack;
        placed = subst (λ (z : State). ArePlaced z.opened.events) (sym b.after_is) (deep, k.placed);
      };
    }

-- an end
through_at : (s : State) (slot : ℕ) (what : Open) (others : List Open) (numbers : Numbers) (calls : List Call) (entries : List Entry) (after : State) → slot < 32 → (what.placed ≡ true → depth_of what.kind others < depths what.kind)
    → EndsThrough s slot what others numbers calls entries after → AreAt calls
through_at s slot what others numbers calls entries after low deep x =
    let e = x.adds in
    let p = x.puts in
    let among : x.among.opened.events ≡ others = ap (λ (z : State). z.opened.events) (added_leaves s slot what others numbers x.added_calls x.added_entries x.among e) in
    let there : what.placed ≡ true → (slot < 32) × (depth_of what.kind x.among.opened.events < depths what.kind) = λ q. (low, subst (λ (z : List Open). depth_of what.kind z < depths what.kind) (sym among) (deep q)) in
    let rings : AreAt x.ring_calls = subst AreAt (sym p.calls_are)
    (join p.long_calls (p.history_calls ++ p.current_calls) (put_at _ (Long what.kind) _ p.long p.long_calls (λ q. tt) p.long_is)
    (join p.history_calls p.current_calls (put_at _ _ _ p.history p.history_calls (λ q. low) p.history_is) (put_at _ _ _ p.current p.current_calls there p.current_is))) in
    subst AreAt (sym x.calls_are) (join x.ring_calls x.added_calls rings (subst AreAt (sym e.calls_are)
    (join e.digested_calls e.counted_calls (digest_at what.digested e.between slot what numbers e.digested_calls e.digested_entries x.among e.digests) (subst AreAt (sym e.counts.calls_are) (tt, (tt, (tt, tt)))))))

module _ (number : ℕ) (s after : State) (what : Open) (others : List Open) (numbers : Numbers) (calls : List Call) (entries : List Entry) (k : Keeps number s) (inner : s.opened.events ≡ what ∷ others) where
  own : ArePlaced (what ∷ others)
  own = subst ArePlaced inner k.placed

  of : (t : State) → t.number ≡ s.number → t.stack ≡ s.stack → t.opened.events ≡ others → t.place.thread ≡ s.place.thread → Keeps number t
  of t n m e p = record {
    number_is = n ∙ k.number_is;
    low = subst (λ z. IfSome z (λ slot. slot < 32)) (sym p) k.low;
    stack = subst (λ z. z ≤ 10) (sym m) k.stack;
    placed = subst ArePlaced (sym e) own.1;
  }

  ended_at : (slot : Option ℕ) (b : Bool) → s.place.thread ≡ slot → EndsIn s slot b what others numbers calls entries after → IsDone number calls after
  ended_at slot false q x = record {
    at = subst AreAt (sym x.calls_are) tt;
    keeps = of after (ap (λ (z : State). z.number) x.after_is) (ap (λ (z : State). z.stack) x.after_is) (ap (λ (z : State). z.opened.events) x.after_is) (ap (λ (z : State). z.place.thread) x.after_is);
  }
  ended_at None true q x = absurd x
  ended_at (Some slot) true q x =
      let l = through_leaves s slot what others numbers calls entries after x in
      record {
        at = through_at s slot what others numbers calls entries after (subst (λ z. IfSome z (λ n. n < 32)) q k.low) own.0 x;
        keeps = of after (ap (λ (z : State). z.number) l) (ap (λ (z : State). z.stack) l) (ap (λ (z : State). z.opened.events) l) (ap (λ (z : State). z.place.thread) l);
      }

-- a connect gets one of the slots
abbrev IsSeat : ℕ → Step → Type 0
IsSeat number (Connects admin user host) = IfSome (placed_of (seat_at admin number user host)).thread (λ n. n < 32)
IsSeat number (StartsEvent subject) = Unit {0}
IsSeat number (EndsEvent numbers) = Unit {0}
IsSeat number (Spends time) = Unit {0}
IsSeat number SettlesHeld = Unit {0}
IsSeat number (Quits admin) = Unit {0}
IsSeat number (Truncates admin what) = Unit {0}
IsSeat number (Changes admin what) = Unit {0}
IsSeat number (Inquires what) = Unit {0}

does_at : (number : ℕ) (s : State) (step : Step) (calls : List Call) (entries : List Entry) (after : State) → Keeps number s → IsSeat number step → Does s step calls entries after → IsDone number calls after
does_at number s (StartsEvent subject) calls entries after k g d = started_at number s subject calls entries after k d
does_at number s (EndsEvent numbers) calls entries after k g d = ended_at number s after d.what d.others numbers calls entries k d.innermost s.place.thread (is_let_through d.what.verdict) refl d.ends
does_at number s (Spends time) calls entries after k g d = record { at = subst AreAt (sym d.0) tt; keeps = subst (Keeps number) (sym d.2) (keeps_as number s _ k refl refl refl k.low) }
does_at number s SettlesHeld calls entries after k g d = record { at = subst AreAt (sym d.calls_are) (paid_at d.paid); keeps = subst (Keeps number) (sym d.after_is) (keeps_as number s _ k refl refl refl k.low) }
does_at number s (Connects admin user host) calls entries after k g d =
    let low = subst (λ n. IfSome (placed_of (seat_at admin n user host)).thread (λ slot. slot < 32)) (sym k.number_is) g in
    record { at = works_at (work_of_connect admin s.number user host) admin.words _ calls entries d.0; keeps = subst (Keeps number) (sym d.1) (keeps_as number s _ k refl refl refl low) }
does_at number s (Quits admin) calls entries after k g d =
    record { at = works_at (work_of_quit admin s.number) admin.words _ calls entries d.0; keeps = subst (Keeps number) (sym d.1) (keeps_as number s _ k refl refl refl tt) }
does_at number s (Truncates admin what) calls entries after k g d =
    record { at = works_at (work_of_truncation admin what) admin.words _ calls d.changes d.works; keeps = subst (Keeps number) (sym d.after_is) (keeps_as number s _ k refl refl refl k.low) }
does_at number s (Changes admin what) calls entries after k g d =
    record { at = works_at (work_of_statement admin what) admin.words _ calls d.changes d.works; keeps = subst (Keeps number) (sym d.after_is) (keeps_as number s _ k refl refl refl k.low) }
does_at number s (Inquires what) calls entries after k g d = record { at = subst AreAt (sym d.calls_are) (inquiry_at what); keeps = subst (Keeps number) (sym d.after_is) k }

abbrev AreSeats : ℕ → List Step → Type 0
AreSeats number steps = Each (IsSeat number) steps

turns_at : (number : ℕ) (s : State) (turns : List Turn) → AreTurns s turns → AreSeats number (steps_of turns) → Keeps number s → IsDone number (turns_calls turns) (state_after s turns)
turns_at number s [] are seats k = record { at = tt; keeps = k }
turns_at number s (t ∷ ts) are seats k =
    let r = turns_at number s ts are.1 (each_front (IsSeat number) (steps_of ts) (t.step ∷ []) seats) k in
    let d = does_at number (state_after s ts) t.step t.calls t.entries t.after r.keeps (each_behind (IsSeat number) (steps_of ts) (t.step ∷ []) seats).0 are.0 in
    record { at = join t.calls (turns_calls ts) d.at r.at; keeps = d.keeps }

-- the steps of a deed
stages_seat : (number : ℕ) (events : List Open) → AreSeats number (stage_ends events)
stages_seat number [] = tt
stages_seat number (what ∷ events) = by (is_stage what.kind) where
  by : (b : Bool) → AreSeats number (cond b (EndsEvent no_numbers ∷ []) [])
  by true = (tt, tt)
  by false = tt

looks_seat : (number : ℕ) (found : List Reading) → AreSeats number (looks found)
looks_seat number [] = tt
looks_seat number (reading ∷ found) = (tt, looks_seat number found)

deed_seat : (number : ℕ) (over : Bool) (s : State) (deed : Deed) → s.number ≡ number → MayDo over s deed → AreSeats number (steps_for s deed)
deed_seat number over s (Connecting admin user host) e may = (subst (λ n. IfSome (placed_of (seat_at admin n user host)).thread (λ slot. slot < 32)) e may.3, tt)
deed_seat number over s (Quitting admin) e may = (tt, (tt, tt))
deed_seat number over s (Truncating admin what) e may = (tt, (tt, tt))
deed_seat number over s (Changing admin what) e may = (tt, (tt, tt))
deed_seat number over s (Showing admin count) e may = (tt, (tt, (tt, tt)))
deed_seat number over s (Starting subject) e may = (tt, tt)
deed_seat number over s (Staging subject) e may = each_join (IsSeat number) (stage_ends s.opened.events) _ (stages_seat number s.opened.events) (tt, tt)
deed_seat number over s StageEnding e may = each_join (IsSeat number) (stage_ends s.opened.events) [] (stages_seat number s.opened.events) tt
deed_seat number over s (Ending numbers) e may = each_join (IsSeat number) (stage_ends s.opened.events) _ (stages_seat number s.opened.events) (tt, tt)
deed_seat number over s (Spending time) e may = (tt, tt)
deed_seat number over s (Querying found count) e may = (tt, each_join (IsSeat number) (looks found) _ (looks_seat number found) (tt, tt))
deed_seat number over s (Refusing error) e may = (tt, tt)
deed_seat number over s Closing e may = (tt, tt)

around_at : (label : Label) (labels : List Label) (met : Option (List ℕ)) (action : Option ℕ) (calls : List Call) → AreAt calls → AreAt (around label labels met action calls)
around_at label labels met None calls a = a
around_at label labels None (Some number) calls a = (tt, join calls (entering label labels None) a (tt, tt))
around_at label labels (Some versions) (Some number) calls a = (tt, join calls (entering label labels (Some versions)) a (tt, (tt, tt)))

-- of a session's block, and of all of them
block_at : (number : ℕ) (over : Bool) (s : State) (ds : List Doing) → AreParts s (parts_in ds) → MayDoAll over s (parts_in ds) → Keeps number s → IsDone number (doings_calls ds) (state_behind s (parts_in ds))
block_at number over s [] are may k = record { at = tt; keeps = k }
block_at number over s (d ∷ ds) are may k =
    let part : Part = d.part in
    let mine = turns_at number s part.turns are.0.are_turns (subst (AreSeats number) (sym are.0.steps_are) (deed_seat number over s part.deed k.number_is may.0)) k in
    let r = block_at number (is_over over part.deed) (state_after s part.turns) ds are.1 may.1 mine.keeps in
    record { at = join (doings_calls ds) (doing_calls d) r.at (around_at d.label d.labels d.met (action_of part.deed) (part_calls part) mine.at); keeps = r.keeps }

spells_at : (stack : ℕ) (room : ℕ → ℕ) (earlier : List Stint) (phase : ℕ) (spells : List Spell) → AreStintsBehind stack room earlier phase (stints_of spells)
    → ((session : ℕ) → Keeps session (state_by session (fresh session stack (room session)) earlier)) → Each (λ spell. AreAt (doings_calls spell.doings)) spells
spells_at stack room earlier phase [] are keeps = tt
spells_at stack room earlier phase (spell ∷ spells) are keeps =
    let n : ℕ = spell.session in
    let mine = block_at n (over_by n false earlier) (state_by n (fresh n stack (room n)) earlier) spell.doings are.1.are_parts are.1.may (keeps n) in
    (mine.at, spells_at stack room (earlier ++ stint_of spell ∷ []) spell.phase spells are.2 (next mine.keeps)) where
      next : Keeps spell.session (state_behind (state_by spell.session (fresh spell.session stack (room spell.session)) earlier) (parts_in spell.doings))
          → (session : ℕ) → Keeps session (state_by session (fresh session stack (room session)) (earlier ++ stint_of spell ∷ []))
      next mine session = subst (Keeps session) (sym (state_more session (fresh session stack (room session)) earlier (stint_of spell))) (by (spell.session == session) refl) where
        by : (b : Bool) → (spell.session == session) ≡ b
            → Keeps session (cond b (resumed (state_behind (state_by session (fresh session stack (room session)) earlier) (parts_in spell.doings))) (state_by session (fresh session stack (room session)) earlier))
        by true e =
            subst (λ z. Keeps z (resumed (state_behind (state_by z (fresh z stack (room z)) earlier) (parts_in spell.doings)))) (eqb-true spell.session session e)
            (record { number_is = mine.number_is; low = mine.low; stack = mine.stack; placed = mine.placed })
        by false e = keeps session

actors_at : (spells : List Spell) → Each (λ spell. AreAt (doings_calls spell.doings)) spells → AllCalls AreAt (actors_of spells)
actors_at [] e = tt
actors_at (spell ∷ spells) e = both (actors_of spells) (doings_calls spell.doings ∷ []) (actors_at spells e.1) (e.0, tt) where
  both : (xs ys : List (List Call)) → AllCalls AreAt xs → AllCalls AreAt ys → AllCalls AreAt (xs ++ ys)
  both [] ys a b = b
  both (x ∷ xs) ys a b = (a.0, both xs ys a.1 b)

pub all_placed : PlacedLaw
all_placed = λ stack room spells few are.
    actors_at spells (spells_at stack room [] 0 spells are.stints (λ session. record { number_is = refl; low = tt; stack = few; placed = tt }))
