-- A session keeps its number, and counts its actions.
use Rattle.std.proofs.Common.{ℕ, ◌≡◌, ◌+◌, ◌==◌, Bool, true, false, cond, List, [], ◌∷◌, ◌++◌, length, Option, Some, None, eq-eqb, refl, ap, sym, ◌∙◌, subst, arith}
use Rattle.std.specs.Prelude.{IfSome}
use Rattle.std.proofs.lemmas.Bool.{eqb-true}
use Rattle.pfs_law_plain.specs.Spells.{Doing, Spell, parts_in, stint_of, stints_of, label_of, IsEntered, AreEntered, AllEntered}
use Rattle.pfs_board.specs.declared.view.Label.{Label}
use Rattle.pfs_event.specs.Verdicts.{is_let_through}
use Rattle.pfs_event.specs.declared.entry.Entry.{Entry}
use Rattle.pfs_event.specs.declared.open.Open.{Open}
use Rattle.pfs_levels.specs.Calls.{Call}
use Rattle.pfs_model.specs.Shapes.{is_stage}
use Rattle.pfs_law_session.proofs.JournalLines.{parts_number, turns_number}
use Rattle.pfs_law_session.proofs.Stints.{state_more}
use Rattle.pfs_law_session.specs.Deeds.{Deed, Connecting, Starting, Staging, StageEnding, Ending, Spending, Quitting, Truncating, Changing, Showing, Querying, Refusing, Closing, Part, IsPart, action_of, looks, remark, steps_for}
use Rattle.pfs_law_session.specs.JournalLaws.{AreParts, state_behind}
use Rattle.pfs_law_session.specs.Stints.{Stint, resumed, state_by, AreStintsBehind}
use Rattle.pfs_rows.specs.declared.table.Reading.{Reading}
use Rattle.pfs_session.proofs.EndFrames.{through_leaves}
use Rattle.pfs_session.specs.Ends.{Ends, EndsIn, no_numbers}
use Rattle.pfs_session.specs.SessionStates.{State, fresh}
use Rattle.pfs_session.specs.Turns.{Step, StartsEvent, EndsEvent, Spends, SettlesHeld, Connects, Quits, Truncates, Changes, Inquires, Does, Turn, AreTurns, state_after, steps_of, stage_ends}
use Rattle.pfs_session.specs.declared.events.Numbers.{Numbers}
use Rattle.pfs_session.specs.declared.remarks.Remark.TheVariants.{Rows}

abbrev pub acts_at : Step → ℕ
acts_at (Connects admin user host) = 1
acts_at (Quits admin) = 1
acts_at (Truncates admin what) = 1
acts_at (StartsEvent subject) = 0
acts_at (EndsEvent numbers) = 0
acts_at (Spends time) = 0
acts_at SettlesHeld = 0
acts_at (Changes admin what) = 1
acts_at (Inquires what) = 0

abbrev acts_in : List Step → ℕ
acts_in [] = 0
acts_in (step ∷ steps) = acts_at step + acts_in steps

acts_then : (xs ys : List Step) → acts_in (xs ++ ys) ≡ acts_in xs + acts_in ys
acts_then [] ys = omega arith
acts_then (x ∷ xs) ys = let e : acts_in (xs ++ ys) ≡ acts_in xs + acts_in ys = acts_then xs ys in omega arith

-- one where there is an action
abbrev pub one_of : Option ℕ → ℕ
one_of None = 0
one_of (Some number) = 1

abbrev pub actions_in : List Doing → ℕ
actions_in [] = 0
actions_in (d ∷ ds) = one_of (action_of d.part.deed) + actions_in ds

ends_actions : (s : State) (numbers : Numbers) (calls : List Call) (entries : List Entry) (after : State) → Ends s numbers calls entries after → after.actions ≡ s.actions
ends_actions s numbers calls entries after e = by_case s.place.thread (is_let_through e.what.verdict) e.ends where
  by_case : (slot : Option ℕ) (b : Bool) → EndsIn s slot b e.what e.others numbers calls entries after → after.actions ≡ s.actions
  by_case slot false x = ap (λ (z : State). z.actions) x.after_is
  by_case None true x = absurd x
  by_case (Some slot) true x = ap (λ (z : State). z.actions) (through_leaves s slot e.what e.others numbers calls entries after x)

none_more : (x y : ℕ) → x ≡ y → x ≡ y + 0
none_more x y e = omega (arith, e)

does_actions : (s : State) (step : Step) (calls : List Call) (entries : List Entry) (after : State) → Does s step calls entries after → after.actions ≡ s.actions + acts_at step
does_actions s (StartsEvent subject) calls entries after d = none_more _ _ (ap (λ (z : State). z.actions) d.begins.after_is)
does_actions s (EndsEvent numbers) calls entries after d = none_more _ _ (ends_actions s numbers calls entries after d)
does_actions s (Spends time) calls entries after d = none_more _ _ (ap (λ (z : State). z.actions) d.2)
does_actions s SettlesHeld calls entries after d = none_more _ _ (ap (λ (z : State). z.actions) d.after_is)
does_actions s (Connects admin user host) calls entries after d = ap (λ (z : State). z.actions) d.1
does_actions s (Quits admin) calls entries after d = ap (λ (z : State). z.actions) d.1
does_actions s (Truncates admin what) calls entries after d = ap (λ (z : State). z.actions) d.after_is
does_actions s (Changes admin what) calls entries after d = ap (λ (z : State). z.actions) d.after_is
does_actions s (Inquires what) calls entries after d = none_more _ _ (ap (λ (z : State). z.actions) d.after_is)

turns_actions : (s : State) (turns : List Turn) → AreTurns s turns → (state_after s turns).actions ≡ s.actions + acts_in (steps_of turns)
turns_actions s [] are = omega arith
turns_actions s (t ∷ ts) are =
    let r : (state_after s ts).actions ≡ s.actions + acts_in (steps_of ts) = turns_actions s ts are.1 in
    let d : t.after.actions ≡ (state_after s ts).actions + acts_at t.step = does_actions (state_after s ts) t.step t.calls t.entries t.after are.0 in
    let e : acts_in (steps_of ts ++ t.step ∷ []) ≡ acts_in (steps_of ts) + (acts_at t.step + 0) = acts_then (steps_of ts) (t.step ∷ []) in
    omega arith

stage_none : (events : List Open) → acts_in (stage_ends events) ≡ 0
stage_none [] = refl
stage_none (what ∷ events) = by_test (is_stage what.kind) where
  by_test : (b : Bool) → acts_in (cond b (EndsEvent no_numbers ∷ []) []) ≡ 0
  by_test true = refl
  by_test false = refl

looks_none : (readings : List Reading) → acts_in (looks readings) ≡ 0
looks_none [] = refl
looks_none (reading ∷ readings) = ap (λ z. 0 + z) (looks_none readings)

steps_act : (s : State) (deed : Deed) → acts_in (steps_for s deed) ≡ one_of (action_of deed)
steps_act s (Connecting admin user host) = refl
steps_act s (Quitting admin) = refl
steps_act s (Truncating admin what) = refl
steps_act s (Changing admin what) = refl
steps_act s (Showing admin count) = refl
steps_act s (Querying readings count) = ap (λ z. 0 + z) (acts_then (looks readings) (remark (Rows count) ∷ []) ∙ ap (λ z. z + 0) (looks_none readings))
steps_act s (Refusing error) = refl
steps_act s (Starting subject) = refl
steps_act s (Staging subject) = acts_then (stage_ends s.opened.events) (StartsEvent subject ∷ []) ∙ ap (λ z. z + 0) (stage_none s.opened.events)
steps_act s StageEnding = acts_then (stage_ends s.opened.events) [] ∙ ap (λ z. z + 0) (stage_none s.opened.events)
steps_act s (Ending numbers) = acts_then (stage_ends s.opened.events) (EndsEvent numbers ∷ []) ∙ ap (λ z. z + 0) (stage_none s.opened.events)
steps_act s (Spending time) = refl
steps_act s Closing = refl

part_actions : (s : State) (p : Part) → IsPart s p → (state_after s p.turns).actions ≡ s.actions + one_of (action_of p.deed)
part_actions s p is = turns_actions s p.turns is.are_turns ∙ ap (λ z. s.actions + z) (ap acts_in is.steps_are ∙ steps_act s p.deed)

-- each action has its session's label, by how many it made before
abbrev pub AreLined : ℕ → ℕ → List Doing → Type 0
AreLined session made [] = Unit {0}
AreLined session made (d ∷ ds) =
    IfSome (action_of d.part.deed) (λ number. (number ≡ length d.labels + 1) × (d.label ≡ record { session = session; line = made + 1 }))
    × AreLined session (made + one_of (action_of d.part.deed)) ds

record IsLined (session made : ℕ) (s : State) (ds : List Doing) : Type 0 where
  pub lined : AreLined session made ds
  pub actions : (state_behind s (parts_in ds)).actions ≡ made + actions_in ds

entered_lined : (s : State) (session made : ℕ) (label : Label) (labels : List Label) (deed : Deed) → s.number ≡ session → s.actions ≡ made → IsEntered s label labels deed
    → IfSome (action_of deed) (λ number. (number ≡ length labels + 1) × (label ≡ record { session = session; line = made + 1 }))
entered_lined s session made label labels deed n m e = by_action (action_of deed) e where
  by_action : (action : Option ℕ) → IfSome action (λ number. (number ≡ length labels + 1) × (label ≡ label_of s))
      → IfSome action (λ number. (number ≡ length labels + 1) × (label ≡ record { session = session; line = made + 1 }))
  by_action None f = tt
  by_action (Some number) f = (
    f.0,
    f.1 ∙ (ap (λ z. record { session = z; line = s.actions + 1 }) n ∙ ap (λ z. record { session = session; line = z + 1 }) m),
  )

doings_lined : (session made : ℕ) (s : State) (ds : List Doing) → s.number ≡ session → s.actions ≡ made → AreParts s (parts_in ds) → AreEntered s ds → IsLined session made s ds
doings_lined session made s [] n m are entered = record { lined = tt; actions = omega (arith, m) }
doings_lined session made s (d ∷ ds) n m are entered =
    let next : State = state_after s d.part.turns in
    let one : ℕ = one_of (action_of d.part.deed) in
    let r : IsLined session (made + one) next ds =
    doings_lined session (made + one) next ds (turns_number s d.part.turns are.0.are_turns ∙ n) (part_actions s d.part are.0 ∙ ap (λ z. z + one) m) are.1 entered.1 in
    let e : (state_behind next (parts_in ds)).actions ≡ made + one + actions_in ds = r.actions in
    record { lined = (entered_lined s session made d.label d.labels d.part.deed n m entered.0, r.lined); actions = omega arith }

-- of all sessions
abbrev pub more_made : (ℕ → ℕ) → Spell → ℕ → ℕ
more_made made spell session = made session + cond (spell.session == session) (actions_in spell.doings) 0

abbrev pub AllLined : (ℕ → ℕ) → List Spell → Type 0
AllLined made [] = Unit {0}
AllLined made (spell ∷ spells) = AreLined spell.session (made spell.session) spell.doings × AllLined (more_made made spell) spells

record Keeps (made : ℕ → ℕ) (session : ℕ) (s : State) : Type 0 where
  pub number : s.number ≡ session
  pub actions : s.actions ≡ made session

abbrev AllKeep : ℕ → (ℕ → ℕ) → (ℕ → ℕ) → List Stint → Type 0
AllKeep stack depths made earlier = (k : ℕ) → Keeps made k (state_by k (fresh k stack (depths k)) earlier)

keep_next : (stack : ℕ) (depths made : ℕ → ℕ) (earlier : List Stint) (spell : Spell) → AllKeep stack depths made earlier
    → Keeps (more_made made spell) spell.session (resumed (state_behind (state_by spell.session (fresh spell.session stack (depths spell.session)) earlier) (parts_in spell.doings)))
    → AllKeep stack depths (more_made made spell) (earlier ++ stint_of spell ∷ [])
keep_next stack depths made earlier spell all next =
    λ k. subst (Keeps (more_made made spell) k) (sym (state_more k (fresh k stack (depths k)) earlier (stint_of spell))) (at k (spell.session == k) refl) where
      at : (k : ℕ) (b : Bool) → (spell.session == k) ≡ b
          → Keeps (more_made made spell) k (cond b (resumed (state_behind (state_by k (fresh k stack (depths k)) earlier) (parts_in spell.doings))) (state_by k (fresh k stack (depths k)) earlier))
      at k true e =
          subst (λ z. Keeps (more_made made spell) z (resumed (state_behind (state_by z (fresh z stack (depths z)) earlier) (parts_in spell.doings)))) (eqb-true spell.session k e) next
      at k false e = record {
        number = (all k).number;
        actions = (all k).actions ∙ (none_more (made k) (made k) refl ∙ ap (λ b. made k + cond b (actions_in spell.doings) 0) (sym e));
      }

own_made : (made : ℕ → ℕ) (spell : Spell) → more_made made spell spell.session ≡ made spell.session + actions_in spell.doings
own_made made spell = ap (λ b. made spell.session + cond b (actions_in spell.doings) 0) (eq-eqb spell.session spell.session refl)

lined_behind : (stack : ℕ) (depths made : ℕ → ℕ) (earlier : List Stint) (phase : ℕ) (spells : List Spell) → AllKeep stack depths made earlier
    → AreStintsBehind stack depths earlier phase (stints_of spells) → AllEntered stack depths earlier spells → AllLined made spells
lined_behind stack depths made earlier phase [] keep are entered = tt
lined_behind stack depths made earlier phase (spell ∷ spells) keep are entered =
    let k : ℕ = spell.session in
    let s : State = state_by k (fresh k stack (depths k)) earlier in
    let l : IsLined k (made k) s spell.doings = doings_lined k (made k) s spell.doings (keep k).number (keep k).actions are.1.are_parts entered.0 in
    let next : Keeps (more_made made spell) k (resumed (state_behind s (parts_in spell.doings))) = record {
      number = parts_number s (parts_in spell.doings) are.1.are_parts ∙ (keep k).number;
      actions = l.actions ∙ sym (own_made made spell);
    } in (
      l.lined,
      lined_behind stack depths (more_made made spell) (earlier ++ stint_of spell ∷ []) spell.phase spells (keep_next stack depths made earlier spell keep next) are.2 entered.1,
    )

-- at first no session has made any
abbrev pub none_made : ℕ → ℕ
none_made session = 0

pub all_lined : (stack : ℕ) (depths : ℕ → ℕ) (spells : List Spell) → AreStintsBehind stack depths [] 0 (stints_of spells) → AllEntered stack depths [] spells → AllLined none_made spells
all_lined stack depths spells are entered = lined_behind stack depths none_made [] 0 spells (λ k. record { number = refl; actions = refl }) are entered
