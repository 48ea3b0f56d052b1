-- What sessions of the fold name is there, and nothing that they add, settle or put is a place of the long history.
use Rattle.std.proofs.Common.{ℕ, ◌≡◌, ◌+◌, ◌*◌, ◌<◌, ◌≤◌, ◌==◌, Bool, true, false, cond, if◌then◌else◌, List, [], ◌∷◌, ◌++◌, length, Option, Some, None, IfSome, refl, sym, ◌∙◌, subst, arith, eqb-true}
use Rattle.std.specs.Prelude.{nat_lt}
use Rattle.std.proofs.lemmas.List.{length-set}
use Rattle.pfs_admin.specs.AdministrationStates.{seat_at}
use Rattle.pfs_admin.specs.ConnectionAsks.{placed_of, work_of_connect, work_of_quit}
use Rattle.pfs_admin.specs.SetupStatements.{work_of_statement}
use Rattle.pfs_admin.specs.Truncations.{work_of_truncation}
use Rattle.pfs_admin.specs.Works.{Sign, Releases, Tags, Made, Flagging, Work, signs_of, signs_calls, made_calls, flagging_calls}
use Rattle.pfs_admin.specs.declared.changes.Change.{Change}
use Rattle.pfs_board.specs.declared.view.Label.{Label}
use Rattle.pfs_classes.specs.declared.setting.Setting.{Setting}
use Rattle.pfs_containers.specs.ContainerState.{IsInRange}
use Rattle.pfs_containers.specs.declared.containers.Seated.{Seated}
use Rattle.pfs_event.specs.Verdicts.{is_let_through}
use Rattle.pfs_event.specs.declared.entry.Entry.{Entry}
use Rattle.pfs_event.specs.declared.event.Event.{Event}
use Rattle.pfs_event.specs.declared.kind.EventKind.{EventKind}
use Rattle.pfs_event.specs.declared.kind.EventKind.TheVariants as kinds
use Rattle.pfs_event.specs.declared.open.Open.{Open}
use Rattle.pfs_levels.specs.CallOrder.{AreThere, IsThere}
use Rattle.pfs_levels.specs.Calls.{Call, Adds, Rings, Reads, Loads, Draws, Takes, Puts, Frees, Sets, Enters, Leaves, Meets, row_in}
use Rattle.pfs_levels.specs.Moves.{Ask, Gift, Move, IsMove, AreMoves, due, receivers, gift_calls, move_calls, moves_calls}
use Rattle.pfs_levels.specs.declared.answers.Added.TheVariants.{Counted, Held}
use Rattle.pfs_levels.specs.declared.answers.Word.{Word}
use Rattle.pfs_model.proofs.EachLists.{each_join, each_front, each_behind}
use Rattle.pfs_model.proofs.Floors.{each_map}
use Rattle.pfs_model.specs.Chains.{Each}
use Rattle.pfs_model.specs.Rings.{current_row}
use Rattle.pfs_rings.specs.declared.puts.Put.{Put}
use Rattle.pfs_rings.specs.declared.rings.Ring.{Ring}
use Rattle.pfs_rings.specs.declared.rings.Ring.TheVariants.{Current, History, Long}
use Rattle.pfs_rows.specs.declared.table.Reading.{Reading}
use Rattle.pfs_rows.specs.declared.table.Reading.TheVariants as readings
use Rattle.pfs_session.specs.Ends.{EndsIn, EndsThrough, EndsAdded, DigestsIn, amount_of, with_held, still_held, cell_number, digest_number, no_numbers}
use Rattle.pfs_session.specs.EventPuts.{PutIf, PutIn}
use Rattle.pfs_session.specs.Inquiries.{Inquiry, Looks, Remarks, inquiry_calls}
use Rattle.pfs_session.specs.SessionStates.{State, Owed, fresh, nothing_held, held_row, held_at}
use Rattle.pfs_session.specs.Settlements.{Paid, owed_by, owed_from, owed_in, paid_calls, pay_calls}
use Rattle.pfs_session.specs.Starts.{Starts, load_calls, table_calls}
use Rattle.pfs_session.specs.Turns.{Step, StartsEvent, EndsEvent, Spends, SettlesHeld, Connects, Quits, Truncates, Changes, Inquires, Does, Works, Turn, AreTurns, state_after, steps_of, turns_calls, stage_ends}
use Rattle.pfs_session.specs.declared.events.Numbers.{Numbers}
use Rattle.pfs_session.specs.declared.setup.Setup.{Setup}
use Rattle.pfs_model.specs.Shapes.{is_stage}
use Rattle.pfs_model.specs.declared.lines.Subject.{Subject}
use Rattle.pfs_stat.specs.declared.Stat.{Stat}
use Rattle.pfs_law_session.proofs.EndEntries.{cell_fits, digest_fits}
use Rattle.pfs_law_session.proofs.Stints.{state_more}
use Rattle.pfs_law_session.specs.Deeds.{AreOfStore, MayDo, is_over, Deed, Connecting, Starting, Staging, StageEnding, Ending, Spending, Quitting, Truncating, Changing, Showing, Querying, Refusing, Closing, Part, action_of, looks, steps_for, part_calls}
use Rattle.pfs_law_session.specs.JournalLaws.{AreParts, MayDoAll, state_behind}
use Rattle.pfs_law_session.specs.Stints.{Stint, state_by, over_by, resumed, AreStintsBehind}
use Rattle.pfs_law_plain.specs.ActionFolds.{FoldsTo, DoingsFolded, AreFolded}
use Rattle.pfs_law_plain.specs.Spells.{Doing, Spell, AreSpells, around, entering, doing_calls, doings_calls, parts_in, stint_of, stints_of}
use Rattle.pfs_law_shared.specs.Order.{IsNear, NearbyLaw}
use Rattle.pfs_law_shared.specs.Shares.{actors_of, spells_at, spells_before}
use Rattle.pfs_law_shared.specs.Tickets.{IsApart, ApartLaw}
use Rattle.pfs_law_shared.proofs.ActedPlaces.{each_both}
use Rattle.pfs_law_shared.proofs.AgreedCalls.{calls_front, calls_back, each_spell}
use Rattle.pfs_law_shared.proofs.LowAsks.{IsLowRow, IsLowAsk, IsLowSign, IsLowWork, connect_low, quit_low, truncation_low, IsOfFold, of_fold}
use Rattle.pfs_law_shared.proofs.PrintedPuts.{actors_all}

-- a session in a slot that there is, which holds amounts for the rows that there are
pub record IsSeated (s : State) : Type 0 where
  pub low : IfSome s.place.thread (λ slot. slot < 32)
  pub wide : length s.held ≡ 193

-- a call names no row 0, and what it adds or puts is no place of the long history
abbrev IsLow : Call → Type 0
IsLow (Adds at amount answer) = IsLowRow (row_in answer)
IsLow (Puts row content version) = IsLowRow row
IsLow (Rings row content answer) = 0 < row
IsLow (Reads row seen) = 0 < row
IsLow (Takes row version found) = 0 < row
IsLow (Frees row version) = 0 < row
IsLow _ = Unit {0}

abbrev AreLow : List Call → Type 0
AreLow calls = Each IsLow calls

held_low : (slot cell : ℕ) → slot < 32 → cell < 193 → IsLowRow (held_row slot cell)
held_low slot cell s c = by (nat_lt cell 64) refl where
  by : (b : Bool) → nat_lt cell 64 ≡ b → IsLowRow (if b then 129 + 64 * slot + cell else 8257 + cell)
  by true e = (omega arith, omega (arith, s, c))
  by false e = (omega arith, omega (arith, c))

-- events
loads_apart : (slot class table : Option ℕ) (seen : Option Setup) → AreLow (load_calls slot class table seen)
loads_apart (Some slot) (Some class) table (Some seen) = each_join IsLow (table_calls table seen.table) _ (tables table seen.table) (tt, (tt, (tt, tt))) where
  tables : (table : Option ℕ) (word : Option Word) → AreLow (table_calls table word)
  tables (Some table) (Some word) = (tt, tt)
  tables (Some table) None = tt
  tables None word = tt
loads_apart (Some slot) (Some class) table None = tt
loads_apart (Some slot) None table seen = tt
loads_apart None class table seen = tt

put_apart : (due : Bool) (ring : Ring) (event : Event) (put : Option Put) (calls : List Call) → PutIf due ring event put calls → AreLow calls
put_apart false ring event put calls x = subst AreLow (sym x.1) tt
put_apart true ring event None calls x = absurd x
put_apart true (Current thread kind depth) event (Some put) calls x = subst AreLow (sym x.calls_are) (current kind, tt) where
  current : (kind : EventKind) → 0 < current_row thread kind depth
  current kinds.Wait = omega arith
  current kinds.Stage = omega arith
  current kinds.Statement = omega arith
  current kinds.Transaction = omega arith
put_apart true (History thread kind place) event (Some put) calls x = subst AreLow (sym x.calls_are) (omega arith, tt)
put_apart true (Long kind) event (Some put) calls x = subst AreLow (sym x.at.calls_are) (omega arith, (tt, tt))

place_apart : (slot : Option ℕ) (what : Open) (depth : ℕ) (event : Event) (put : Option Put) (calls : List Call) → PutIn slot what depth event put calls → AreLow calls
place_apart None what depth event put calls x = subst AreLow (sym x.1) tt
place_apart (Some slot) what depth event put calls x = put_apart what.placed (Current slot what.kind depth) event put calls x

-- what became of a step
pub record IsDone (calls : List Call) (after : State) : Type 0 where
  pub apart : AreLow calls
  pub seated : IsSeated after

started_apart : (s : State) (subject : Subject) (calls : List Call) (entries : List Entry) (after : State) → Starts s subject calls entries after → IsSeated s → IsDone calls after
started_apart s subject calls entries after x seated =
    let b = x.begins in
    record {
      apart = subst AreLow (sym x.calls_are)
          (each_join IsLow x.put_calls x.begun_calls (place_apart s.place.thread b.what _ b.what.event x.current x.put_calls x.put_is)
          (subst AreLow (sym b.calls_are) (loads_apart s.place.thread subject.class subject.table b.seen)));
      seated = subst IsSeated (sym b.after_is) (record { low = seated.low; wide = seated.wide });
    }

module _ (slot : ℕ) (low : slot < 32) where
  abbrev IsAt : State → Type 0
  IsAt s = (s.place.thread ≡ Some slot) × (length s.held ≡ 193)

  record IsAdded (calls : List Call) (after : State) : Type 0 where
    pub apart : AreLow calls
    pub at : IsAt after

  digested : (b : Bool) (s : State) (what : Open) (numbers : Numbers) (calls : List Call) (entries : List Entry) (after : State) → DigestsIn b s slot what numbers calls entries after → IsAt s → IsAdded calls after
  digested false s what numbers calls entries after x at = record { apart = subst AreLow (sym x.calls_are) tt; at = subst IsAt (sym x.after_is) at }
  digested true s what numbers calls entries after x at =
      let row : IsLowRow (row_in x.answer) = subst IsLowRow (sym x.row_is) (held_low slot (digest_number what) low (digest_fits what nothing_held refl)) in
      record {
        apart = subst AreLow (sym x.calls_are) (row, tt);
        at = subst IsAt (sym x.after_is) (at.0, length-set s.held (digest_number what) (still_held (with_held (held_at s.held (digest_number what)) (amount_of what s.clock numbers)) x.answer) ∙ at.1);
      }

  added : (s : State) (what : Open) (others : List Open) (numbers : Numbers) (calls : List Call) (entries : List Entry) (after : State) → EndsAdded s slot what others numbers calls entries after → IsAt s → IsAdded calls after
  added s what others numbers calls entries after e at =
      let c = e.counts in
      let row : IsLowRow (row_in c.answer) = subst IsLowRow (sym c.row_is) (held_low slot (cell_number what) low (cell_fits what nothing_held refl)) in
      let between : IsAt e.between = subst IsAt (sym c.after_is) (at.0, length-set s.held (cell_number what) (still_held (with_held (held_at s.held (cell_number what)) (amount_of what s.clock numbers)) c.answer) ∙ at.1) in
      let d = digested what.digested e.between what numbers e.digested_calls e.digested_entries after e.digests between in
      record {
        apart = subst AreLow (sym e.calls_are) (each_join IsLow e.digested_calls e.counted_calls d.apart (subst AreLow (sym c.calls_are) (row, (tt, (tt, tt)))));
        at = d.at;
      }

  through : (s : State) (what : Open) (others : List Open) (numbers : Numbers) (calls : List Call) (entries : List Entry) (after : State) → EndsThrough s slot what others numbers calls entries after → IsAt s → IsAdded calls after
  through s what others numbers calls entries after x at =
      let a = added s what others numbers x.added_calls x.added_entries x.among x.adds at in
      let p = x.puts in
      let rings : AreLow x.ring_calls = subst AreLow (sym p.calls_are)
      (each_join IsLow p.long_calls (p.history_calls ++ p.current_calls) (put_apart _ _ _ p.long p.long_calls p.long_is)
      (each_join IsLow p.history_calls p.current_calls (put_apart _ _ _ p.history p.history_calls p.history_is) (put_apart _ _ _ p.current p.current_calls p.current_is))) in
      record { apart = subst AreLow (sym x.calls_are) (each_join IsLow x.ring_calls x.added_calls rings a.apart); at = subst IsAt (sym p.after_is) a.at }

ended_apart : (s : State) (slot : Option ℕ) (b : Bool) (what : Open) (others : List Open) (numbers : Numbers) (calls : List Call) (entries : List Entry) (after : State) → s.place.thread ≡ slot
    → EndsIn s slot b what others numbers calls entries after → IsSeated s → IsDone calls after
ended_apart s slot false what others numbers calls entries after e x seated =
    record { apart = subst AreLow (sym x.calls_are) tt; seated = subst IsSeated (sym x.after_is) (record { low = seated.low; wide = seated.wide }) }
ended_apart s None true what others numbers calls entries after e x seated = absurd x
ended_apart s (Some slot) true what others numbers calls entries after e x seated =
    let low : slot < 32 = subst (λ z. IfSome z (λ n. n < 32)) e seated.low in
    let t = through slot low s what others numbers calls entries after x (e, seated.wide) in
    record { apart = t.apart; seated = record { low = subst (λ z. IfSome z (λ n. n < 32)) (sym t.at.0) low; wide = t.at.1 } }

-- what is settled
owed_low : (slot cell : ℕ) (held : List (Option Stat)) → slot < 32 → cell + length held ≤ 193 → Each (λ (o : Owed). IsLowRow o.row) (owed_from slot cell held)
unfolding owed_from
owed_low slot cell [] s few = tt
owed_low slot cell (None ∷ held) s few = owed_low slot (cell + 1) held s (omega (arith, few))
owed_low slot cell (Some amount ∷ held) s few = (held_low slot cell s (omega (arith, few)), owed_low slot (cell + 1) held s (omega (arith, few)))

state_owed : (slot : Option ℕ) (held : List (Option Stat)) → IfSome slot (λ n. n < 32) → length held ≡ 193 → Each (λ (o : Owed). IsLowRow o.row) (owed_in slot held)
state_owed None held s wide = tt
state_owed (Some slot) held s wide = owed_low slot 0 held s (omega (arith, wide))

paid_apart : (ps : List Paid) → Each (λ (o : Owed). IsLowRow o.row) (owed_by ps) → AreLow (paid_calls ps)
paid_apart [] low = tt
paid_apart (p ∷ ps) low =
    let own : IsLowRow p.owed.row = (each_behind (λ (o : Owed). IsLowRow o.row) (owed_by ps) (p.owed ∷ []) low).0 in
    each_join IsLow (pay_calls p) (paid_calls ps) (own, (own.0, tt)) (paid_apart ps (each_front (λ (o : Owed). IsLowRow o.row) (owed_by ps) (p.owed ∷ []) low))

-- works
gifts_apart : (amount : Stat) (gs : List Gift) → Each IsLowRow (receivers gs) → AreLow (gift_calls amount gs)
gifts_apart amount [] low = tt
gifts_apart amount (g ∷ gs) low = each_join IsLow (gift_calls amount gs) _ (gifts_apart amount gs low.1) (low.0, (low.0.0, tt))

due_low : (found to : List ℕ) → Each IsLowRow to → Each IsLowRow (due found to)
due_low found to low = by _ where
  by : (b : Bool) → Each IsLowRow (if b then [] else to)
  by true = tt
  by false = low

move_apart : (a : Ask) (m : Move) → IsMove a m → IsLowAsk a → AreLow (move_calls m)
move_apart a m is low =
    let from : IsLowRow m.from = subst IsLowRow (sym is.from_is) low.0 in
    each_join IsLow (gift_calls _ m.gifts) _ (gifts_apart _ m.gifts (subst (Each IsLowRow) (sym is.to_is) (due_low m.found a.to low.1)))
    (from, (from.0, tt))

moves_apart : (asks : List Ask) (ms : List Move) → AreMoves asks ms → Each IsLowAsk asks → AreLow (moves_calls ms)
moves_apart asks [] are low = tt
moves_apart asks (m ∷ ms) are low =
    let before : List Ask = are.0 in
    let last : Ask = are.1.0 in
    let split : Each IsLowAsk (before ++ last ∷ []) = subst (Each IsLowAsk) are.1.1.0 low in
    each_join IsLow (move_calls m) (moves_calls ms) (move_apart last m are.1.1.1.0 (each_behind IsLowAsk before (last ∷ []) split).0)
    (moves_apart before ms are.1.1.1.1 (each_front IsLowAsk before (last ∷ []) split))

made_apart : (sign : Sign) (version : ℕ) (found : List ℕ) → IsLowSign sign → AreLow (made_calls (record { sign = sign; version = version; found = found }))
made_apart (Releases row) version found low = (low, (low, tt))
made_apart (Tags row content) version found low = (low, (low.0, tt))

signs_apart : (ms : List Made) → Each IsLowSign (signs_of ms) → AreLow (signs_calls ms)
signs_apart [] low = tt
signs_apart (m ∷ ms) low =
    each_join IsLow (made_calls m) (signs_calls ms) (made_apart m.sign m.version m.found (each_behind IsLowSign (signs_of ms) (m.sign ∷ []) low).0) (signs_apart ms (each_front IsLowSign (signs_of ms) (m.sign ∷ []) low))

sets_apart : (words : List Word) (fs : List Flagging) → AreLow (flagging_calls words fs)
sets_apart words [] = tt
sets_apart words (f ∷ fs) = each_join IsLow (flagging_calls words fs) _ (sets_apart words fs) (tt, tt)

works_apart : (work : Work) (words : List Word) (head : List Entry) (calls : List Call) (entries : List Entry) → IsLowWork work → Works work words head calls entries → AreLow calls
works_apart work words head calls entries low w =
    subst AreLow (sym w.calls_are)
    (each_join IsLow (flagging_calls words work.flags) (signs_calls w.made ++ moves_calls w.moves) (sets_apart words work.flags)
    (each_join IsLow (signs_calls w.made) (moves_calls w.moves) (signs_apart w.made (subst (Each IsLowSign) (sym w.signs_are) low.1)) (moves_apart work.moves w.moves w.are_moves low.0)))

-- an inquiry of what the store has
abbrev IsOfStore : Inquiry → Type 0
IsOfStore (Looks reading) = AreOfStore (reading ∷ [])
IsOfStore (Remarks what) = Unit {0}

inquiry_apart : (what : Inquiry) → IsOfStore what → AreLow (inquiry_calls what)
inquiry_apart (Looks (readings.Slot row found)) there = (there.0.0, tt)
inquiry_apart (Looks (readings.Word word version flags)) there = (tt, tt)
inquiry_apart (Remarks what) there = tt

-- steps by an administration of the fold, and readings of what there is
module _ (setting : Setting) where
  abbrev IsFoldStep : Step → Type 0
  IsFoldStep (Connects admin user host) = IsOfFold setting admin
  IsFoldStep (Quits admin) = IsOfFold setting admin
  IsFoldStep (Truncates admin what) = IsOfFold setting admin
  IsFoldStep (Changes admin what) = Unit {0}
  IsFoldStep (StartsEvent subject) = Unit {0}
  IsFoldStep (EndsEvent numbers) = Unit {0}
  IsFoldStep (Spends time) = Unit {0}
  IsFoldStep SettlesHeld = Unit {0}
  IsFoldStep (Inquires what) = IsOfStore what

  seat_low : (seat : Option Seated) → IfSome seat IsInRange → IfSome (placed_of seat).thread (λ slot. slot < 32)
  seat_low None r = tt
  seat_low (Some seat) r = r.slot

  does_apart : (s : State) (step : Step) (calls : List Call) (entries : List Entry) (after : State) → IsFoldStep step → Does s step calls entries after → IsSeated s → IsDone calls after
  does_apart s (StartsEvent subject) calls entries after f d seated = started_apart s subject calls entries after d seated
  does_apart s (EndsEvent numbers) calls entries after f d seated =
      ended_apart s s.place.thread (is_let_through d.what.verdict) d.what d.others numbers calls entries after refl d.ends seated
  does_apart s (Spends time) calls entries after f d seated = record { apart = subst AreLow (sym d.0) tt; seated = subst IsSeated (sym d.2) (record { low = seated.low; wide = seated.wide }) }
  does_apart s SettlesHeld calls entries after f d seated = record {
    apart = subst AreLow (sym d.calls_are) (paid_apart d.paid (subst (Each (λ (o : Owed). IsLowRow o.row)) (sym d.owed_are) (state_owed s.place.thread s.held seated.low seated.wide)));
    seated = subst IsSeated (sym d.after_is) (record { low = seated.low; wide = refl });
  }
  does_apart s (Connects admin user host) calls entries after f d seated =
      let w = connect_low admin s.number user host f.well in
      record {
        apart = works_apart (work_of_connect admin s.number user host) admin.words _ calls entries w.0 d.0;
        seated = subst IsSeated (sym d.1) (record { low = seat_low (seat_at admin s.number user host) w.1; wide = seated.wide });
      }
  does_apart s (Quits admin) calls entries after f d seated = record {
    apart = works_apart (work_of_quit admin s.number) admin.words _ calls entries (quit_low setting admin f.well f.cells f.kinds s.number) d.0;
    seated = subst IsSeated (sym d.1) (record { low = tt; wide = seated.wide });
  }
  does_apart s (Truncates admin what) calls entries after f d seated = record {
    apart = works_apart (work_of_truncation admin what) admin.words _ calls d.changes (truncation_low setting admin f.well f.cells f.kinds what) d.works;
    seated = subst IsSeated (sym d.after_is) (record { low = seated.low; wide = seated.wide });
  }
  does_apart s (Changes admin what) calls entries after f d seated = record {
    apart = works_apart (work_of_statement admin what) admin.words _ calls d.changes (tt, tt) d.works;
    seated = subst IsSeated (sym d.after_is) (record { low = seated.low; wide = seated.wide });
  }
  does_apart s (Inquires what) calls entries after f d seated =
      record { apart = subst AreLow (sym d.calls_are) (inquiry_apart what f); seated = subst IsSeated (sym d.after_is) seated }

  turns_apart : (s : State) (turns : List Turn) → AreTurns s turns → Each IsFoldStep (steps_of turns) → IsSeated s → IsDone (turns_calls turns) (state_after s turns)
  turns_apart s [] are folds seated = record { apart = tt; seated = seated }
  turns_apart s (t ∷ ts) are folds seated =
      let r = turns_apart s ts are.1 (each_front IsFoldStep (steps_of ts) (t.step ∷ []) folds) seated in
      let d = does_apart (state_after s ts) t.step t.calls t.entries t.after (each_behind IsFoldStep (steps_of ts) (t.step ∷ []) folds).0 are.0 r.seated in
      record { apart = each_join IsLow t.calls (turns_calls ts) d.apart r.apart; seated = d.seated }

  -- the steps of a deed
  stages_fold : (events : List Open) → Each IsFoldStep (stage_ends events)
  stages_fold [] = tt
  stages_fold (what ∷ events) = by (is_stage what.kind) where
    by : (b : Bool) → Each IsFoldStep (if b then EndsEvent no_numbers ∷ [] else [])
    by true = (tt, tt)
    by false = tt

  looks_fold : (found : List Reading) → AreOfStore found → Each IsFoldStep (looks found)
  looks_fold [] there = tt
  looks_fold (reading ∷ found) there = ((there.0, tt), looks_fold found there.1)

  module _ (change : Label → Change) (label : Label) (labels : List Label) where
    deed_fold : (over : Bool) (s : State) (deed : Deed) → MayDo over s deed → FoldsTo setting change label labels deed → Each IsFoldStep (steps_for s deed)
    deed_fold over s (Connecting admin user host) may f = (of_fold setting change labels admin f.0, tt)
    deed_fold over s (Quitting admin) may f = (tt, (of_fold setting change labels admin f.0, tt))
    deed_fold over s (Truncating admin what) may f = (tt, (of_fold setting change labels admin f.0, tt))
    deed_fold over s (Changing admin what) may f = (tt, (tt, tt))
    deed_fold over s (Showing admin count) may f = (tt, (tt, (tt, tt)))
    deed_fold over s (Starting subject) may f = (tt, tt)
    deed_fold over s (Staging subject) may f = each_join IsFoldStep (stage_ends s.opened.events) _ (stages_fold s.opened.events) (tt, tt)
    deed_fold over s StageEnding may f = each_join IsFoldStep (stage_ends s.opened.events) [] (stages_fold s.opened.events) tt
    deed_fold over s (Ending numbers) may f = each_join IsFoldStep (stage_ends s.opened.events) _ (stages_fold s.opened.events) (tt, tt)
    deed_fold over s (Spending time) may f = (tt, tt)
    deed_fold over s (Querying found count) may f = (tt, each_join IsFoldStep (looks found) _ (looks_fold found may.1) (tt, tt))
    deed_fold over s (Refusing error) may f = (tt, tt)
    deed_fold over s Closing may f = (tt, tt)

  around_apart : (label : Label) (labels : List Label) (met : Option (List ℕ)) (action : Option ℕ) (calls : List Call) → AreLow calls → AreLow (around label labels met action calls)
  around_apart label labels met None calls a = a
  around_apart label labels None (Some number) calls a = (tt, each_join IsLow calls (entering label labels None) a (tt, tt))
  around_apart label labels (Some versions) (Some number) calls a = (tt, each_join IsLow calls (entering label labels (Some versions)) a (tt, (tt, tt)))

  -- of a session's block, and of all of them
  block_apart : (change : Label → Change) (over : Bool) (s : State) (ds : List Doing) → AreParts s (parts_in ds) → MayDoAll over s (parts_in ds) → DoingsFolded setting change ds → IsSeated s → IsDone (doings_calls ds) (state_behind s (parts_in ds))
  block_apart change over s [] are may folds seated = record { apart = tt; seated = seated }
  block_apart change over s (d ∷ ds) are may folds seated =
      let part : Part = d.part in
      let own = turns_apart s part.turns are.0.are_turns (subst (Each IsFoldStep) (sym are.0.steps_are) (deed_fold change d.label d.labels over s part.deed may.0 folds.0)) seated in
      let r = block_apart change (is_over over part.deed) (state_after s part.turns) ds are.1 may.1 folds.1 own.seated in
      record { apart = each_join IsLow (doings_calls ds) (doing_calls d) r.apart (around_apart d.label d.labels d.met (action_of part.deed) (part_calls part) own.apart); seated = r.seated }

  spells_apart : (change : Label → Change) (stack : ℕ) (depths : ℕ → ℕ) (earlier : List Stint) (phase : ℕ) (spells : List Spell) → AreStintsBehind stack depths earlier phase (stints_of spells) → AreFolded setting change spells
      → ((session : ℕ) → IsSeated (state_by session (fresh session stack (depths session)) earlier)) → Each (λ spell. AreLow (doings_calls spell.doings)) spells
  spells_apart change stack depths earlier phase [] are folds seated = tt
  spells_apart change stack depths earlier phase (spell ∷ spells) are folds seated =
      let k : ℕ = spell.session in
      let own = block_apart change (over_by k false earlier) (state_by k (fresh k stack (depths k)) earlier) spell.doings are.1.are_parts are.1.may folds.0 (seated k) in
      (own.apart, spells_apart change stack depths (earlier ++ stint_of spell ∷ []) spell.phase spells are.2 folds.1 (next own.seated)) where
        next : IsSeated (state_behind (state_by spell.session (fresh spell.session stack (depths spell.session)) earlier) (parts_in spell.doings))
            → (session : ℕ) → IsSeated (state_by session (fresh session stack (depths session)) (earlier ++ stint_of spell ∷ []))
        next own session = subst IsSeated (sym (state_more session (fresh session stack (depths session)) earlier (stint_of spell))) (by (spell.session == session) refl) where
          by : (b : Bool) → (spell.session == session) ≡ b
              → IsSeated (cond b (resumed (state_behind (state_by session (fresh session stack (depths session)) earlier) (parts_in spell.doings))) (state_by session (fresh session stack (depths session)) earlier))
          by true e =
              subst (λ z. IsSeated (resumed (state_behind (state_by z (fresh z stack (depths z)) earlier) (parts_in spell.doings)))) (eqb-true spell.session session e) (record { low = own.low; wide = own.wide })
          by false e = seated session

-- so nothing that they add or put is a place of the long history
low_apart : (call : Call) → IsLow call → IsApart call
low_apart (Adds at amount (Counted row version)) low = low.1
low_apart (Adds at amount (Held row first second)) low = tt
low_apart (Puts row content version) low = low.1
low_apart _ low = tt

each_low : (setting : Setting) (change : Label → Change) (stack : ℕ) (depths : ℕ → ℕ) (spells : List Spell) → AreSpells stack depths spells → AreFolded setting change spells → Each (λ spell. AreLow (doings_calls spell.doings)) spells
each_low setting change stack depths spells are folds = spells_apart setting change stack depths [] 0 spells are.stints folds (λ session. record { low = tt; wide = refl })

pub all_apart : ApartLaw
all_apart = λ setting change stack depths spells are folds.
    actors_all (Each IsApart) spells (each_map (λ spell. AreLow (doings_calls spell.doings)) (λ spell. Each IsApart (doings_calls spell.doings)) (λ spell low. each_map IsLow IsApart low_apart (doings_calls spell.doings) low) spells
    (each_low setting change stack depths spells are folds))

-- and what they name is there
low_near : (call : Call) → IsLow call → IsThere call → IsNear call
low_near (Adds at amount (Counted row version)) low there = (low.0, omega (arith, low.1))
low_near (Adds at amount (Held row first second)) low there = (low.0, omega (arith, low.1))
low_near (Rings row content answer) low there = (low, there)
low_near (Reads row seen) low there = (low, there)
low_near (Loads word version found) low there = there
low_near (Draws kind ticket) low there = tt
low_near (Takes row version found) low there = (low, there)
low_near (Puts row content version) low there = (low.0, there)
low_near (Frees row version) low there = (low, there)
low_near (Sets word found version) low there = there
low_near (Enters label labels) low there = tt
low_near Leaves low there = tt
low_near (Meets versions) low there = tt

calls_near : (calls : List Call) → AreLow calls → AreThere calls → Each IsNear calls
calls_near [] low there = tt
calls_near (call ∷ calls) low there = (low_near call low.0 there.0, calls_near calls low.1 there.1)

pub all_near : NearbyLaw
all_near = λ setting change flags stack depths spells last are folds shared few.
    (let there : Each (λ spell. AreThere (doings_calls spell.doings)) spells =
    each_spell AreThere last spells few (calls_front AreThere (actors_of (spells_at last spells)) (actors_of (spells_before last spells)) (shared last).order.there)
    (calls_back AreThere (actors_of (spells_at last spells)) (actors_of (spells_before last spells)) (shared last).order.there) in
    actors_all (Each IsNear) spells (each_both (λ spell. AreLow (doings_calls spell.doings)) (λ spell. AreThere (doings_calls spell.doings)) (λ spell. Each IsNear (doings_calls spell.doings))
    (λ spell low named. calls_near (doings_calls spell.doings) low named) spells (each_low setting change stack depths spells are folds) there))
