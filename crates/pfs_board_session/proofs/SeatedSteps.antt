-- What an actor's seat did is what the actor did: its calls outside of actions, and its actions.
use Rattle.std.proofs.Common.{ℕ, ◌≡◌, ◌≤◌, ◌+◌, ◌-◌, ◌<◌, true, List, [], ◌∷◌, ◌++◌, Option, Some, None, Result, Ok, Err, length, refl, ap, sym, ◌∙◌, subst, arith, append_assoc, append-nil}
use Rattle.std.specs.Prelude.{IfOk, IfSome, IsSomeAnd, OnErr}
use Rattle.atomic_table.specs.Seated.{TableId}
use Rattle.pfs_actor.specs.ActionAsks.{MayAct}
use Rattle.pfs_actor.specs.ActorDeeds.{HasActed, HasBrokenOff, HasDone, HasShown}
use Rattle.pfs_admin.specs.AdministrationStates.{State as Administration}
use Rattle.pfs_admin.specs.Fold.{StandsFor}
use Rattle.pfs_admin.specs.declared.changes.Change.{Change}
use Rattle.pfs_admin.specs.declared.changes.Change.TheVariants.{Setup}
use Rattle.pfs_admin.specs.declared.changes.SetupStatement.TheVariants.{Show}
use Rattle.pfs_board.specs.Knowledge.{corner, held}
use Rattle.pfs_board.specs.declared.view.Label.{Label}
use Rattle.pfs_board_admin.specs.LabelWords.{AllKeepWords, version_after}
use Rattle.pfs_board_store.specs.ActorCalls.{IsReached, in_hand}
use Rattle.pfs_board_store.specs.Looks.{AreLooked}
use Rattle.pfs_board_store.specs.RootLaws.{has_met}
use Rattle.pfs_board_store.specs.declared.rows.BoardRows.{BoardRows}
use Rattle.pfs_classes.specs.declared.setting.Setting.{Setting}
use Rattle.pfs_event.specs.Logs.{Journal}
use Rattle.pfs_event.specs.declared.entry.Entry.{Entry}
use Rattle.pfs_exec.specs.declared.query.Select.{Select}
use Rattle.pfs_law_plain.proofs.InnerCalls.{AreWithin, calls_within, turns_within}
use Rattle.pfs_law_plain.specs.ActionFolds.{FoldsTo}
use Rattle.pfs_law_plain.specs.Spells.{around, label_of}
use Rattle.pfs_law_session.proofs.FewTurns.{OneTurn, one_turn}
use Rattle.pfs_law_session.proofs.LineEntries.{does_at}
use Rattle.pfs_law_session.specs.Deeds.{Deed, Part, Showing, action_of, part_entries, steps_for}
use Rattle.pfs_levels.specs.Calls.{Call, Adds, Rings, Reads, Loads, Draws, Takes, Puts, Frees, Sets, Enters, Leaves, Meets, Goes, Opening, action_in}
use Rattle.pfs_levels.specs.Views.{Kept, Same, Store, Used}
use Rattle.pfs_model.specs.JournalCuts.{joined}
use Rattle.pfs_session.specs.SessionStates.{Book, State}
use Rattle.pfs_session.specs.Settlements.{Paid, Settles, paid_calls}
use Rattle.pfs_session.specs.Turns.{AreTurns, Played, SettlesHeld, Step, Turn, steps_of, turns_calls}
use Rattle.pfs_text.specs.declared.values.RowValue.{RowValue}
use Rattle.pfs_board_session.specs.SeatedViews.{IsBetween, MeetsInside, draws_of, left_of, seated}
use Rattle.pfs_board_session.specs.SessionActions.{HasLed, IsIdle, action_calls, shown_steps}
use Rattle.pfs_board_session.specs.SessionActions as over

-- calls that an actor makes outside of its actions
abbrev pub IsOutside : Call → Type 0
IsOutside (Loads at version flags) = at < 160
IsOutside (Sets at flags version) = ⊥
IsOutside (Meets versions) = ⊥
IsOutside (Enters label labels) = ⊥
IsOutside Leaves = ⊥
IsOutside (Adds row amount answer) = Unit {0}
IsOutside (Rings row content answer) = Unit {0}
IsOutside (Reads row seen) = Unit {0}
IsOutside (Draws kind ticket) = Unit {0}
IsOutside (Takes row version found) = Unit {0}
IsOutside (Puts row content version) = Unit {0}
IsOutside (Frees row version) = Unit {0}

abbrev pub AreOutside : List Call → Type 0
AreOutside [] = Unit {0}
AreOutside (call ∷ calls) = IsOutside call × AreOutside calls

-- behind them it stands as it stood before
record StandsOn (versions : List Label → ℕ → ℕ) (calls more : List Call) : Type 0 where
  pub action : action_in more ≡ action_in calls
  pub met : has_met more ≡ has_met calls
  pub inside : MeetsInside calls → MeetsInside more
  pub keeps : has_met calls ≡ true → AllKeepWords versions calls → AllKeepWords versions more

stands_on : (versions : List Label → ℕ → ℕ) (its calls : List Call) → AreOutside its → StandsOn versions calls (its ++ calls)
stands_on versions [] calls are = record { action = refl; met = refl; inside = λ i. i; keeps = λ m k. k }
stands_on versions (Loads at version flags ∷ its) calls are =
    let s = stands_on versions its calls are.1 in
    record { action = s.action; met = s.met; inside = s.inside; keeps = λ m k. ((are.0, s.met ∙ m), s.keeps m k) }
stands_on versions (Sets at flags version ∷ its) calls are = absurd are.0
stands_on versions (Meets seen ∷ its) calls are = absurd are.0
stands_on versions (Enters label labels ∷ its) calls are = absurd are.0
stands_on versions (Leaves ∷ its) calls are = absurd are.0
stands_on versions (Adds row amount answer ∷ its) calls are = let s = stands_on versions its calls are.1 in record { action = s.action; met = s.met; inside = s.inside; keeps = λ m k. (tt, s.keeps m k) }
stands_on versions (Rings row content answer ∷ its) calls are = let s = stands_on versions its calls are.1 in record { action = s.action; met = s.met; inside = s.inside; keeps = λ m k. (tt, s.keeps m k) }
stands_on versions (Reads row seen ∷ its) calls are = let s = stands_on versions its calls are.1 in record { action = s.action; met = s.met; inside = s.inside; keeps = λ m k. (tt, s.keeps m k) }
stands_on versions (Draws kind ticket ∷ its) calls are = let s = stands_on versions its calls are.1 in record { action = s.action; met = s.met; inside = s.inside; keeps = λ m k. (tt, s.keeps m k) }
stands_on versions (Takes row version found ∷ its) calls are = let s = stands_on versions its calls are.1 in record { action = s.action; met = s.met; inside = s.inside; keeps = λ m k. (tt, s.keeps m k) }
stands_on versions (Puts row content version ∷ its) calls are = let s = stands_on versions its calls are.1 in record { action = s.action; met = s.met; inside = s.inside; keeps = λ m k. (tt, s.keeps m k) }
stands_on versions (Frees row version ∷ its) calls are = let s = stands_on versions its calls are.1 in record { action = s.action; met = s.met; inside = s.inside; keeps = λ m k. (tt, s.keeps m k) }

-- what settles is done outside of actions too
paid_outside : (paid : List Paid) → AreOutside (paid_calls paid)
paid_outside [] = tt
paid_outside (p ∷ paid) = (tt, (tt, paid_outside paid))

settling_outside : (s : State) (turns : List Turn) → AreTurns s turns → steps_of turns ≡ SettlesHeld ∷ [] → AreOutside (turns_calls turns)
settling_outside s turns are e =
    let o : OneTurn turns SettlesHeld = one_turn turns SettlesHeld e in
    let t : Turn = o.turn in
    let ours : AreTurns s (t ∷ []) = subst (AreTurns s) o.is are in
    let settles : Settles s t.calls t.entries t.after = does_at s t SettlesHeld o.step_is ours.0 in
    subst AreOutside (sym (ap turns_calls o.is ∙ (append-nil t.calls ∙ settles.calls_are))) (paid_outside settles.paid)

-- calls that neither begin nor end an action are inside it, behind its meet
record StaysIn (calls more : List Call) : Type 0 where
  pub action : action_in more ≡ action_in calls
  pub met : has_met calls ≡ true → has_met more ≡ true
  pub inside : 0 < action_in calls → MeetsInside calls → MeetsInside more

stays_in : (its calls : List Call) → AreWithin its → StaysIn calls (its ++ calls)
stays_in [] calls w = record { action = refl; met = λ m. m; inside = λ a i. i }
stays_in (Enters label labels ∷ its) calls w = absurd w.0
stays_in (Leaves ∷ its) calls w = absurd w.0
stays_in (Meets versions ∷ its) calls w = let s = stays_in its calls w.1 in record { action = s.action; met = λ m. refl; inside = λ a i. (omega (arith, a, s.action), s.inside a i) }
stays_in (Adds row amount answer ∷ its) calls w = let s = stays_in its calls w.1 in record { action = s.action; met = s.met; inside = s.inside }
stays_in (Rings row content answer ∷ its) calls w = let s = stays_in its calls w.1 in record { action = s.action; met = s.met; inside = s.inside }
stays_in (Reads row seen ∷ its) calls w = let s = stays_in its calls w.1 in record { action = s.action; met = s.met; inside = s.inside }
stays_in (Draws kind ticket ∷ its) calls w = let s = stays_in its calls w.1 in record { action = s.action; met = s.met; inside = s.inside }
stays_in (Takes row version found ∷ its) calls w = let s = stays_in its calls w.1 in record { action = s.action; met = s.met; inside = s.inside }
stays_in (Puts row content version ∷ its) calls w = let s = stays_in its calls w.1 in record { action = s.action; met = s.met; inside = s.inside }
stays_in (Frees row version ∷ its) calls w = let s = stays_in its calls w.1 in record { action = s.action; met = s.met; inside = s.inside }
stays_in (Loads at version flags ∷ its) calls w = let s = stays_in its calls w.1 in record { action = s.action; met = s.met; inside = s.inside }
stays_in (Sets at flags version ∷ its) calls w = let s = stays_in its calls w.1 in record { action = s.action; met = s.met; inside = s.inside }

-- an action's calls as a doing has them
around_calls : (label : Label) (labels : List Label) (seen : List ℕ) (number : ℕ) (its calls : List Call) → around label labels (Some seen) (Some number) its ++ calls ≡ action_calls label labels seen its calls
around_calls label labels seen number its calls = ap (λ (z : List Call). Leaves ∷ z) (append_assoc its (Meets seen ∷ Enters label labels ∷ []) calls)

joined_one : (entries : List Entry) → joined (entries ∷ []) ≡ entries
unfolding joined
joined_one entries = append-nil entries

-- a seat as contracts see it
abbrev pub store_of : {V : Type 0} → BoardRows V → Store
store_of s = record {
  reached = λ start calls. (s.board.now.id ≡ start.board.table) × (s.switches.now.id ≡ start.switches.table) × (s.tickets.now ≡ start.tickets.table) × IsReached start calls s.seat.view s.words.view s.draws.view
      × AreLooked start.board calls s.seat.view.reads s.seat.view.sights;
  hand = λ row. in_hand (corner s.seat.view row).stage;
  left = s.seat.view.allowance - held s.seat.view.rows;
  draws = s.draws.view.draws;
  words = None;
  name = 0;
}

-- no row of the seat is in hand
pub idle_there : (S : Type 0) (seen : S → Store) (held : Option S) (was : S) → held ≡ Some was → IsSomeAnd held (λ rows. (row : ℕ) → (seen rows).hand row ≡ None) → (row : ℕ) → (seen was).hand row ≡ None
idle_there S seen held was there idle = subst (λ (o : Option S). IsSomeAnd o (λ rows. (row : ℕ) → (seen rows).hand row ≡ None)) there idle

pub left_at : (S : Type 0) (seen : S → Store) (held : Option S) (was : S) → held ≡ Some was → left_of seen held ≡ (seen was).left
left_at S seen held was there = ap (left_of seen) there

-- what led to the actor led to its seat
pub begun_there : (S : Type 0) (setting : Setting) (change : Label → Change) (switches : TableId) (seen : S → Store) (held : Option S) (was : S) → held ≡ Some was
    → (start : Opening) × (calls : List Call) × (seated setting change switches seen held).reached start calls → (start : Opening) × (calls : List Call) × ((seen was).reached start calls) × (start.switches.table ≡ switches)
begun_there S setting change switches seen held was there led =
    let P : Option S → Type 0 = λ o. IsSomeAnd o (λ rows. IsBetween setting change switches (seen rows).reached led.0 led.1) in
    let b : IsBetween setting change switches (seen was).reached led.0 led.1 = subst P there led.2 in
    (led.0, led.1, b.reached, b.same)

-- so it may begin an action
pub idle_at : (S : Type 0) (seen : S → Store) (setting : Setting) (change : Label → Change) (switches : TableId) (held : Option S) (was : S) → held ≡ Some was → (spent entries : ℕ) (session : Book) → IsSomeAnd held (λ rows. (row : ℕ) → (seen rows).hand row ≡ None)
    → MayAct spent entries (seated setting change switches seen held) session.journal → IsIdle spent entries (seen was) session
idle_at S seen setting change switches held was there spent entries session idle acts = record {
  hand = idle_there S seen held was there idle;
  left = omega (arith, left_at S seen held was there, acts.affords.left);
  room = acts.affords.room;
}

module _ (S : Type 0) (setting : Setting) (change : Label → Change) (switches : TableId) (seen : S → Store) (held : Option S) (was now : S) (there : held ≡ Some was) where
  abbrev before : Store
  before = seated setting change switches seen held

  abbrev behind : Store
  behind = seated setting change switches seen (Some now)

  -- what led to the actor led to its seat
  at_seat : (start : Opening) (calls : List Call) → before.reached start calls → IsBetween setting change switches (seen was).reached start calls
  at_seat start calls h = subst (λ (o : Option S). IsSomeAnd o (λ rows. IsBetween setting change switches (seen rows).reached start calls)) there h

  left_there : left_of seen held ≡ (seen was).left
  left_there = ap (left_of seen) there

  draws_there : draws_of seen held ≡ (seen was).draws
  draws_there = ap (draws_of seen) there

  pub goes_on : (its : List Call) → AreOutside its → Goes (seen was).reached (seen now).reached its → Goes before.reached behind.reached its
  goes_on its are goes = λ start calls h.
      let b = at_seat start calls h in
      let s = stands_on (version_after setting change) its calls are in
      record {
        reached = goes start calls b.reached;
        same = b.same;
        outside = s.action ∙ b.outside;
        met = s.met ∙ b.met;
        inside = s.inside b.inside;
        keeps = s.keeps b.met b.keeps;
      }

  pub kept_on : (spent drawn : ℕ) → Kept spent drawn (seen was) (seen now) → Kept spent drawn before behind
  kept_on spent drawn k = record {
    left = omega (arith, left_there, k.left);
    draws = omega (arith, draws_there, k.draws);
    no_more = omega (arith, draws_there, k.no_more);
    hand = λ r. refl;
    words = refl;
    name = refl;
  }

  pub same_on : Same (seen was) (seen now) → Same before behind
  same_on s = record { left = s.left ∙ sym left_there; draws = s.draws ∙ sym draws_there; hand = λ r. refl; words = refl; name = refl }

  pub used_on : (spent entries : ℕ) (old new : Journal) → (seen was).left ≤ (seen now).left + spent → (seen now).draws ≡ (seen was).draws → old.room ≤ new.room + entries → Used spent 0 entries before behind old new
  used_on spent entries old new left draws room = record {
    left = omega (arith, left_there, left);
    draws = omega (arith, draws_there, draws);
    no_more = omega (arith, draws_there, draws);
    hand = λ r. refl;
    words = refl;
    name = refl;
    room = room;
  }

  pub used_all : (spent entries : ℕ) (old new : Journal) → Used spent 0 entries (seen was) (seen now) old new → Used spent 0 entries before behind old new
  used_all spent entries old new u = record {
    left = omega (arith, left_there, u.left);
    draws = omega (arith, draws_there, u.draws);
    no_more = omega (arith, draws_there, u.no_more);
    hand = λ r. refl;
    words = refl;
    name = refl;
    room = u.room;
  }

  pub settled : (old new : Book) → Played (SettlesHeld ∷ []) old new (seen was).reached (seen now).reached → Played (SettlesHeld ∷ []) old new before.reached behind.reached
  settled old new p = record {
    turns = p.turns;
    are_turns = p.are_turns;
    steps_are = p.steps_are;
    state_is = p.state_is;
    did = record {
      entries_are = p.did.entries_are;
      goes = goes_on (turns_calls p.turns) (settling_outside old.state p.turns p.are_turns p.steps_are) p.did.goes;
    };
  }

  -- behind an action the actor stands between two again
  led_on : (s : State) (turns : List Turn) (admin : Administration) (start : Opening) (calls : List Call) → AreTurns s turns → before.reached start calls
      → (led : HasLed setting change (label_of s) admin (turns_calls turns) start calls (seen now).reached) → behind.reached start (action_calls (label_of s) led.labels led.seen (turns_calls turns) calls)
  led_on s turns admin start calls are h led =
      let b = at_seat start calls h in
      let stays = stays_in (turns_calls turns) (Meets led.seen ∷ Enters (label_of s) led.labels ∷ calls) (calls_within turns (turns_within s turns are)) in
      record {
        reached = led.reached;
        same = b.same;
        outside = refl;
        met = stays.met refl;
        inside = stays.inside (omega arith) (omega arith, b.inside);
        keeps = led.keeps b.outside b.keeps;
      }

  has_done : (deed : Deed) (count : ℕ) (steps : Administration → List Step) (old new : Book) → (acted : over.HasActed setting change steps old new (seen was).reached (seen now).reached) → action_of deed ≡ Some count
      → steps acted.admin ≡ steps_for old.state deed → ((labels : List Label) → StandsFor setting change labels acted.admin → FoldsTo setting change (label_of old.state) labels deed)
      → HasDone setting change ((record { deed = deed; turns = acted.turns }) ∷ []) old new before.reached behind.reached
  has_done deed count steps old new acted acts does folds =
      let its : Part = record { deed = deed; turns = acted.turns } in
      let label : Label = label_of old.state in
      record {
        are_parts = (record { are_turns = acted.are_turns; steps_are = acted.steps_are ∙ does }, tt);
        state = acted.state_is;
        entries_are = acted.entries_are ∙ ap (λ (z : List Entry). old.journal.entries ++ z) (sym (joined_one (part_entries its)));
        leads = λ start calls h.
            let b = at_seat start calls h in
            let led : HasLed setting change label acted.admin (turns_calls acted.turns) start calls (seen now).reached = acted.leads start calls b.reached in
            record {
              doings = (record { part = its; label = label; labels = led.labels; met = Some led.seen }) ∷ [];
              parts_are = refl;
              labelled = (subst (λ (n : Option ℕ). IfSome n (λ k. label ≡ label)) (sym acts) refl, tt);
              folded = (folds led.labels led.stands, tt);
              reached = subst (λ (n : Option ℕ). behind.reached start (around label led.labels (Some led.seen) n (turns_calls acted.turns) ++ calls)) (sym acts)
                  (subst (λ (z : List Call). behind.reached start z) (sym (around_calls label led.labels led.seen count (turns_calls acted.turns) calls)) (led_on old.state acted.turns acted.admin start calls acted.are_turns h led));
            };
      }

  pub has_acted : (make : Administration → Deed) (count : ℕ) (steps : Administration → List Step) (old new : Book) → (acted : over.HasActed setting change steps old new (seen was).reached (seen now).reached) → action_of (make acted.admin) ≡ Some count
      → steps acted.admin ≡ steps_for old.state (make acted.admin) → ((labels : List Label) → StandsFor setting change labels acted.admin → FoldsTo setting change (label_of old.state) labels (make acted.admin))
      → HasActed setting change make old new before.reached behind.reached
  has_acted make count steps old new acted acts does folds = record {
    admin = acted.admin;
    part = record { deed = make acted.admin; turns = acted.turns };
    deed_is = refl;
    done = has_done (make acted.admin) count steps old new acted acts does folds;
  }

  pub has_shown : {E : Type 0} (query : Select) (answer : Result (List (List RowValue)) E) (old new : Book) → change (label_of old.state) ≡ Setup Show → over.HasShown setting change query answer old new (seen was).reached (seen now).reached
      → IfOk answer (λ rows. HasShown setting change query rows old new before.reached behind.reached)
  has_shown {E} query (Err fault) old new named shown = tt
  has_shown {E} query (Ok rows) old new named shown =
      let admin : Administration = shown.acted.admin in
      record {
        admin = admin;
        part = record { deed = Showing admin (length rows); turns = shown.acted.turns };
        deed_is = refl;
        answered = shown.answered;
        done = has_done (Showing admin (length rows)) (admin.actions + 1) (shown_steps {E = E} (Ok rows)) old new shown.acted refl refl (λ labels is. (is, named));
      }

  pub has_broken_off : {E : Type 0} (query : Select) (answer : Result (List (List RowValue)) E) (old new : Book) → change (label_of old.state) ≡ Setup Show → over.HasShown setting change query answer old new (seen was).reached (seen now).reached
      → OnErr answer (HasBrokenOff setting change old new before.reached behind.reached)
  has_broken_off query (Ok rows) old new named shown = tt
  has_broken_off query (Err fault) old new named shown =
      let acted = shown.acted in
      record {
        admin = acted.admin;
        turns = acted.turns;
        are_turns = acted.are_turns;
        steps_are = acted.steps_are;
        state_is = acted.state_is;
        entries_are = acted.entries_are;
        named = named;
        leads = λ start calls h.
            let b = at_seat start calls h in
            let led : HasLed setting change (label_of old.state) acted.admin (turns_calls acted.turns) start calls (seen now).reached = acted.leads start calls b.reached in (
              led.labels,
              Some led.seen,
              led.stands,
              led_on old.state acted.turns acted.admin start calls acted.are_turns h led,
            );
      }
