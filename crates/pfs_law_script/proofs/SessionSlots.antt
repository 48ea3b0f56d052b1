-- What a session keeps step by step: its number, its one slot, and that each open event that is offered to its current
-- place has one.
use Rattle.std.proofs.Common.{ℕ, ◌≡◌, ◌<◌, ◌≤◌, Bool, true, false, List, [], ◌∷◌, ◌++◌, Option, Some, None, refl, ap, sym, ◌∙◌, subst}
use Rattle.pfs_admin.specs.ConnectionAsks.{placed_of}
use Rattle.pfs_admin.specs.AdministrationStates.{seat_at}
use Rattle.pfs_event.specs.Verdicts.{is_let_through}
use Rattle.pfs_event.specs.declared.entry.Entry.{Entry}
use Rattle.pfs_event.specs.declared.kind.EventKind.{EventKind}
use Rattle.pfs_event.specs.declared.kind.EventKind.TheVariants as kinds
use Rattle.pfs_event.specs.declared.open.Open.{Open}
use Rattle.pfs_levels.specs.Calls.{Call}
use Rattle.pfs_model.specs.declared.lines.Subject.{Subject}
use Rattle.pfs_law_session.specs.Amounts.{IsPlaced}
use Rattle.pfs_law_session.specs.Deeds.{Deed, Connecting, Starting, Staging, StageEnding, Ending, Spending, Quitting, Truncating, Changing, Showing, Querying, Refusing, Closing, Part, IsPart, looks, remark, steps_for}
use Rattle.pfs_rings.specs.RingPlaces.{depths}
use Rattle.pfs_rows.specs.declared.table.Reading.{Reading}
use Rattle.pfs_session.proofs.EndFrames.{through_leaves}
use Rattle.pfs_session.proofs.OfferedPlaces.{start_deep}
use Rattle.pfs_session.specs.Ends.{EndsIn}
use Rattle.pfs_session.specs.EventPuts.{ArePlaced, depth_of, is_placed_by}
use Rattle.pfs_session.specs.Starts.{Begins, verdict_in}
use Rattle.pfs_session.specs.SessionStates.{State}
use Rattle.pfs_session.specs.Turns.{Step, StartsEvent, EndsEvent, Spends, SettlesHeld, Connects, Quits, Truncates, Changes, Inquires, Turn, Does, AreTurns, state_after, steps_of, stage_ends}
use Rattle.pfs_session.specs.declared.events.Numbers.{Numbers}
use Rattle.pfs_session.specs.declared.remarks.Remark.TheVariants.{Rows}
use Rattle.pfs_law_script.proofs.HistoryDues.{IsHome}

pub record Keeps (home : Option ℕ) (number : ℕ) (s : State) : Type 0 where
  pub number_is : s.number ≡ number
  pub seat : IsHome home s.place.thread
  pub stack : s.stack ≤ 10
  pub placed : ArePlaced s.opened.events

-- a start has a current place for an event that it offers there
pub begun_deep : (s : State) (what : Subject) (calls : List Call) (entries : List Entry) (after : State) → s.stack ≤ 10 → (b : Begins s what calls entries after) → b.what.placed ≡ true
    → depth_of b.what.kind s.opened.events < depths b.what.kind
begun_deep s what calls entries after few b q =
    start_deep s.stack s.opened.events s.place.thread what b.seen (verdict_in s what b.seen) _ _ (is_placed_by what (verdict_in s what b.seen) b.seen) b.what refl refl few refl refl b.opened.placed_is b.opened.kind q

-- a connect gets the session's slot
abbrev pub GetsHome : Option ℕ → ℕ → Step → Type 0
GetsHome home number (Connects admin user host) = (placed_of (seat_at admin number user host)).thread ≡ home
GetsHome home number (StartsEvent subject) = Unit {0}
GetsHome home number (EndsEvent numbers) = Unit {0}
GetsHome home number (Spends time) = Unit {0}
GetsHome home number SettlesHeld = Unit {0}
GetsHome home number (Quits admin) = Unit {0}
GetsHome home number (Truncates admin what) = Unit {0}
GetsHome home number (Changes admin what) = Unit {0}
GetsHome home number (Inquires what) = Unit {0}

-- another state with the same number, stack and open events
keeps_as : (home : Option ℕ) (number : ℕ) (s t : State) → Keeps home number s → t.number ≡ s.number → t.stack ≡ s.stack → t.opened.events ≡ s.opened.events → IsHome home t.place.thread → Keeps home number t
keeps_as home number s t k n m e seat = record {
  number_is = n ∙ k.number_is;
  seat = seat;
  stack = subst (λ z. z ≤ 10) (sym m) k.stack;
  placed = subst ArePlaced (sym e) k.placed;
}

nowhere_home : (home : Option ℕ) → IsHome home None
nowhere_home home = λ own q. cc

end_keeps : (home : Option ℕ) (number : ℕ) (s after : State) (what : Open) (others : List Open) (numbers : Numbers) (calls : List Call) (entries : List Entry) → Keeps home number s → s.opened.events ≡ what ∷ others
    → (slot : Option ℕ) (b : Bool) → EndsIn s slot b what others numbers calls entries after → Keeps home number after
end_keeps home number s after what others numbers calls entries k inner slot b x = by_case slot b x where
  rest : ArePlaced others
  rest = (subst ArePlaced inner k.placed).1

  of : (t : State) → t.number ≡ s.number → t.stack ≡ s.stack → t.opened.events ≡ others → t.place.thread ≡ s.place.thread → Keeps home number t
  of t n m e p = record {
    number_is = n ∙ k.number_is;
    seat = subst (IsHome home) (sym p) k.seat;
    stack = subst (λ z. z ≤ 10) (sym m) k.stack;
    placed = subst ArePlaced (sym e) rest;
  }

  by_case : (slot : Option ℕ) (b : Bool) → EndsIn s slot b what others numbers calls entries after → Keeps home number after
  by_case slot false x =
      of after (ap (λ (z : State). z.number) x.after_is) (ap (λ (z : State). z.stack) x.after_is) (ap (λ (z : State). z.opened.events) x.after_is) (ap (λ (z : State). z.place.thread) x.after_is)
  by_case None true x = absurd x
  by_case (Some slot) true x =
      let l = through_leaves s slot what others numbers calls entries after x in
      of after (ap (λ (z : State). z.number) l) (ap (λ (z : State). z.stack) l) (ap (λ (z : State). z.opened.events) l) (ap (λ (z : State). z.place.thread) l)

pub does_keeps : (home : Option ℕ) (number : ℕ) (s : State) (step : Step) (calls : List Call) (entries : List Entry) (after : State) → Keeps home number s → GetsHome home number step → Does s step calls entries after
    → Keeps home number after
does_keeps home number s (StartsEvent subject) calls entries after k g d =
    let b = d.begins in
    let e = b.after_is in
    record {
      number_is = ap (λ (z : State). z.number) e ∙ k.number_is;
      seat = subst (IsHome home) (sym (ap (λ (z : State). z.place.thread) e)) k.seat;
      stack = subst (λ (z : State). z.stack ≤ 10) (sym e) k.stack;
      placed = subst (λ (z : State). ArePlaced z.opened.events) (sym e) (begun_deep s subject _ _ after k.stack b, k.placed);
    }
does_keeps home number s (EndsEvent numbers) calls entries after k g d =
    end_keeps home number s after d.what d.others numbers calls entries k d.innermost s.place.thread (is_let_through d.what.verdict) d.ends
does_keeps home number s (Spends time) calls entries after k g d =
    subst (Keeps home number) (sym d.2) (keeps_as home number s _ k refl refl refl k.seat)
does_keeps home number s SettlesHeld calls entries after k g d =
    subst (Keeps home number) (sym d.after_is) (keeps_as home number s _ k refl refl refl k.seat)
does_keeps home number s (Connects admin user host) calls entries after k g d =
    let placed : (placed_of (seat_at admin s.number user host)).thread ≡ home = ap (λ n. (placed_of (seat_at admin n user host)).thread) k.number_is ∙ g in
    subst (Keeps home number) (sym d.1) (keeps_as home number s _ k refl refl refl (λ own q. sym placed ∙ q))
does_keeps home number s (Quits admin) calls entries after k g d = subst (Keeps home number) (sym d.1) (keeps_as home number s _ k refl refl refl (nowhere_home home))
does_keeps home number s (Truncates admin what) calls entries after k g d = subst (Keeps home number) (sym d.after_is) (keeps_as home number s _ k refl refl refl k.seat)
does_keeps home number s (Changes admin what) calls entries after k g d = subst (Keeps home number) (sym d.after_is) (keeps_as home number s _ k refl refl refl k.seat)
does_keeps home number s (Inquires what) calls entries after k g d = subst (Keeps home number) (sym d.after_is) k

-- the steps of turns, one behind the other
abbrev pub AllGetHome : Option ℕ → ℕ → List Step → Type 0
AllGetHome home number [] = Unit {0}
AllGetHome home number (step ∷ steps) = GetsHome home number step × AllGetHome home number steps

get_front : (home : Option ℕ) (number : ℕ) (xs ys : List Step) → AllGetHome home number (xs ++ ys) → AllGetHome home number xs
get_front home number [] ys g = tt
get_front home number (x ∷ xs) ys g = (g.0, get_front home number xs ys g.1)

get_back : (home : Option ℕ) (number : ℕ) (xs ys : List Step) → AllGetHome home number (xs ++ ys) → AllGetHome home number ys
get_back home number [] ys g = g
get_back home number (x ∷ xs) ys g = get_back home number xs ys g.1

pub turns_keep : (home : Option ℕ) (number : ℕ) (s : State) (turns : List Turn) → Keeps home number s → AllGetHome home number (steps_of turns) → AreTurns s turns → Keeps home number (state_after s turns)
turns_keep home number s [] k g are = k
turns_keep home number s (turn ∷ turns) k g are =
    let before : Keeps home number (state_after s turns) = turns_keep home number s turns k (get_front home number (steps_of turns) (turn.step ∷ []) g) are.1 in
    does_keeps home number (state_after s turns) turn.step turn.calls turn.entries turn.after before (get_back home number (steps_of turns) (turn.step ∷ []) g).0 are.0

-- those of a deed
stage_home : (home : Option ℕ) (number : ℕ) (events : List Open) (more : List Step) → AllGetHome home number more → AllGetHome home number (stage_ends events ++ more)
stage_home home number [] more g = g
stage_home home number (what ∷ events) more g = by_kind what.kind where
  by_kind : (kind : EventKind) → AllGetHome home number (stage_ends (record what { kind = kind } ∷ events) ++ more)
  by_kind kinds.Wait = g
  by_kind kinds.Stage = (tt, g)
  by_kind kinds.Statement = g
  by_kind kinds.Transaction = g

looks_home : (home : Option ℕ) (number : ℕ) (found : List Reading) (more : List Step) → AllGetHome home number more → AllGetHome home number (looks found ++ more)
looks_home home number [] more g = g
looks_home home number (reading ∷ found) more g = (tt, looks_home home number found more g)

deed_home : (home : Option ℕ) (number : ℕ) (s : State) (deed : Deed) → IsPlaced home number deed → AllGetHome home number (steps_for s deed)
deed_home home number s (Connecting admin user host) p = (p, tt)
deed_home home number s (Starting subject) p = (tt, tt)
deed_home home number s (Staging subject) p = stage_home home number s.opened.events (StartsEvent subject ∷ []) (tt, tt)
deed_home home number s StageEnding p = stage_home home number s.opened.events [] tt
deed_home home number s (Ending numbers) p = stage_home home number s.opened.events (EndsEvent numbers ∷ []) (tt, tt)
deed_home home number s (Spending time) p = (tt, tt)
deed_home home number s (Quitting admin) p = (tt, (tt, tt))
deed_home home number s (Truncating admin what) p = (tt, (tt, tt))
deed_home home number s (Changing admin what) p = (tt, (tt, tt))
deed_home home number s (Showing admin count) p = (tt, (tt, (tt, tt)))
deed_home home number s (Querying found count) p = (tt, looks_home home number found (remark (Rows count) ∷ []) (tt, tt))
deed_home home number s (Refusing error) p = (tt, tt)
deed_home home number s Closing p = (tt, tt)

pub part_keeps : (home : Option ℕ) (number : ℕ) (s : State) (p : Part) → Keeps home number s → IsPlaced home number p.deed → IsPart s p → Keeps home number (state_after s p.turns)
part_keeps home number s p k placed is =
    turns_keep home number s p.turns k (subst (AllGetHome home number) (sym is.steps_are) (deed_home home number s p.deed placed)) is.are_turns
