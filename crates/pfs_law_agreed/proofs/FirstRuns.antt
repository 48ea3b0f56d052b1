-- A run behind a first phase of connects, each of which finds room.
use Rattle.std.proofs.Common.{ℕ, zero, suc, ◌≡◌, ◌+◌, ◌-◌, ◌<◌, ◌≤◌, ◌==◌, ◌&&◌, nat_le, nat_lt, Bool, true, false, cond, List, [], ◌∷◌, ◌++◌, length, Option, Some, None, refl, ap, sym, ◌∙◌, subst, arith}
use Rattle.std.specs.Prelude.{is_some, slice_get, take}
use Rattle.std.proofs.lemmas.Bool.{and_parts, eqb-true}
use Rattle.pfs_admin.specs.AdministrationStates.{State, seat_at}
use Rattle.pfs_admin.specs.ConnectionAsks.{placed_of}
use Rattle.pfs_admin.specs.Fold.{state_of}
use Rattle.pfs_admin.specs.OpeningState.{opened}
use Rattle.pfs_admin.specs.declared.changes.Change.{Change as Asked}
use Rattle.pfs_admin.specs.declared.changes.Change.TheVariants as changes
use Rattle.pfs_board.specs.declared.view.Label.{Label}
use Rattle.pfs_classes.specs.declared.setting.Setting.{Setting}
use Rattle.pfs_containers.specs.declared.containers.Connection.{Connection}
use Rattle.pfs_containers.specs.declared.containers.Seated.{Seated}
use Rattle.pfs_event.specs.declared.entry.Entry.{Entry}
use Rattle.pfs_event.specs.declared.entry.Entry.TheVariants as says
use Rattle.pfs_event.specs.declared.verdict.Verdict.{Verdict}
use Rattle.pfs_journal.specs.declared.report.ReportParts.{ReportParts}
use Rattle.pfs_law_conservation.proofs.ActionJournals.{zero_rows}
use Rattle.pfs_law_conservation.proofs.ChosenLines.{each_both, each_chosen, each_map}
use Rattle.pfs_law_conservation.proofs.LineVersions.{chain_range, that_self}
use Rattle.pfs_law_conservation.proofs.PhaseEntries.{IsFront, front_shaped, fronts}
use Rattle.pfs_law_conservation.proofs.PhaseEntries.{blocks_to as front_blocks}
use Rattle.pfs_law_conservation.specs.Premises.{AreKept, IsActionOf, IsChangeOf, IsLabelOf, IsOrderly}
use Rattle.pfs_law_conservation.specs.RunEvents.{Ended, all_ended, ended_at}
use Rattle.pfs_law_conservation.specs.RunTerms.{Run, entries_to}
use Rattle.pfs_law_session.specs.Demands.{rooms_of}
use Rattle.pfs_law_summaries.specs.OrderlyRuns.{run_of}
use Rattle.pfs_model.specs.ActionAsks.{Answer, AreAnswered, IsAnswered, Rooms}
use Rattle.pfs_model.specs.Chains.{Each, action_change, change_at, each_of, is_of, is_that, times}
use Rattle.pfs_model.specs.Contexts.{Context, fresh}
use Rattle.pfs_model.specs.EntryAsks.{is_connect}
use Rattle.pfs_model.specs.EntryPlaces.{AreShapedBehind, Block, Placed, places, places_behind, told_by}
use Rattle.pfs_model.specs.declared.changes.Change.{Change}
use Rattle.pfs_model.specs.declared.lines.Line.{Line}
use Rattle.pfs_model.specs.declared.lines.Line.TheVariants as told
use Rattle.pfs_runs.specs.Labels.{answers_at, before_action, label_at, rooms_at, rooms_for, rooms_of_label}
use Rattle.pfs_runs.specs.PhaseFinals.{containers_behind, verdict_at}
use Rattle.pfs_runs.specs.Runs.{IsRun, all_blocks}
use Rattle.pfs_runs.specs.ScriptLines.{change_in}
use Rattle.pfs_script.specs.declared.blocks.Phase.{Phase}
use Rattle.pfs_law_agreed.specs.Agreement.{blocks_to, told_behind}
use Rattle.pfs_law_agreed.specs.FirstPhases.{HasRoom, IsConnecting, connects_of}
use Rattle.pfs_law_agreed.proofs.FirstEntries.{IsFirstPlace, IsHome, IsOpening, IsSeat, IsSeatAt, few_actions, first_places, homes_told, is_first, opening_of, seated_by}
use Rattle.pfs_law_agreed.proofs.FirstRooms.{AreConnects, HasAll, IsConnect, IsOpen, has_all, open_after, open_first, room_less, seat_is}
use Rattle.pfs_law_agreed.proofs.QuietRemovals.{times_then}
use Rattle.pfs_law_agreed.proofs.QuietVerdicts.{blocks_same}

-- ---- lists

-- the numbers of actions that entries begin are among those of all
actions_in : (ps : List Placed) → Each (λ (p : Placed). (n : ℕ) → action_change p.entry ≡ change_at 0 n ∷ [] → 1 ≤ times (is_that (change_at 0 n)) (each_of action_change ps)) ps
actions_in [] = tt
actions_in (p ∷ ps) = (
  first,
  each_map (λ (q : Placed). (n : ℕ) → action_change q.entry ≡ change_at 0 n ∷ [] → 1 ≤ times (is_that (change_at 0 n)) (each_of action_change ps)) (λ (q : Placed). (n : ℕ) → action_change q.entry ≡ change_at 0 n ∷ [] → 1 ≤ times (is_that (change_at 0 n)) (action_change p.entry ++ each_of action_change ps)) ps
      (λ q h n e. (let l : 1 ≤ times (is_that (change_at 0 n)) (each_of action_change ps) = h n e in let s : times (is_that (change_at 0 n)) (action_change p.entry ++ each_of action_change ps) ≡ times (is_that (change_at 0 n)) (action_change p.entry) + times (is_that (change_at 0 n)) (each_of action_change ps) = times_then (is_that (change_at 0 n)) (action_change p.entry) (each_of action_change ps) in omega (arith, l, s)))
      (actions_in ps),
) where
  first : (n : ℕ) → action_change p.entry ≡ change_at 0 n ∷ [] → 1 ≤ times (is_that (change_at 0 n)) (action_change p.entry ++ each_of action_change ps)
  first n e = subst (λ (cs : List Change). 1 ≤ times (is_that (change_at 0 n)) (cs ++ each_of action_change ps)) (sym e) (rw (that_self 0 n) (omega arith))

answered_each : (rooms : ℕ → Rooms) (answers : ℕ → Answer) (ps : List Placed) → AreAnswered rooms answers ps → Each (λ (p : Placed). IsAnswered rooms answers p p.entry) ps
answered_each rooms answers [] h = tt
answered_each rooms answers (p ∷ ps) h = (h.0, answered_each rooms answers ps h.1)

pub none_end : (ps : List Placed) → Each IsFirstPlace ps → (all_ended ps ≡ []) × (each_of verdict_at ps ≡ [])
none_end [] h = (refl, refl)
none_end (p ∷ ps) h =
    let rest : (all_ended ps ≡ []) × (each_of verdict_at ps ≡ []) = none_end ps h.1 in
    let one : (ended_at p p.entry ≡ []) × (verdict_at p.entry ≡ []) = by p.entry h.0.0 in
    (ap (λ (z : List Ended). z ++ all_ended ps) one.0 ∙ rest.0, ap (λ (z : List Verdict). z ++ each_of verdict_at ps) one.1 ∙ rest.1) where
      by : (e : Entry) → is_first e ≡ true → (ended_at p e ≡ []) × (verdict_at e ≡ [])
      by (says.Start n v co th cl ta) q = absurd (cc)
      by (says.End n l co th) q = absurd (cc)
      by _ q = (refl, refl)

change_connects : (what : Asked) → IsChangeOf told.Connect what → IsConnect what
change_connects (changes.Connect user host) i = tt
change_connects changes.Quit i = absurd i
change_connects (changes.Truncate what) i = absurd i
change_connects (changes.Setup what) i = absurd i

-- an action's label, which connects
pub record HasLabel (change : Label → Asked) (labels : List Label) (n : ℕ) : Type 0 where
  pub label : Label
  pub at : label_at labels n ≡ Some label
  pub connects : IsConnect (change label)

label_here : (change : Label → Asked) (labels : List Label) (n : ℕ) (o : Option Label) → label_at labels n ≡ o → IsLabelOf change told.Connect o → HasLabel change labels n
label_here change labels n None e i = absurd i
label_here change labels n (Some label) e i = record { label = label; at = e; connects = change_connects (change label) i }

place_label : (change : Label → Asked) (labels : List Label) (p : Placed) (e : Entry) → p.entry ≡ e → IsFirstPlace p → IsActionOf change labels p.line e → (n : ℕ) → action_change e ≡ change_at 0 n ∷ [] → HasLabel change labels n
place_label change labels p (says.Act action) q f a n c = absurd (let z : true ≡ false = sym f.0 ∙ ap is_first q in cc)
place_label change labels p (says.Connect action th ac us ho) q f a n c =
    let same : action ≡ n = number (change_at 0 action) (change_at 0 n) c in
    subst (HasLabel change labels) same (label_here change labels action (label_at labels action) refl (subst (λ (l : Line). IsLabelOf change l (label_at labels action)) (f.1 (ap is_connect q)) a)) where
      number : (x y : Change) → x ∷ [] ≡ y ∷ [] → x.version ≡ y.version
      number x y c = let s : x ≡ y = cc in ap (λ (z : Change). z.version) s
place_label change labels p _ q f a n c = absurd (cc)

find_label : (change : Label → Asked) (labels : List Label) (n : ℕ) (ps : List Placed) → Each (λ (p : Placed). (n : ℕ) → action_change p.entry ≡ change_at 0 n ∷ [] → HasLabel change labels n) ps → 1 ≤ times (is_that (change_at 0 n)) (each_of action_change ps) → HasLabel change labels n
find_label change labels n [] h l = absurd (omega (arith, l))
find_label change labels n (p ∷ ps) h l = at p.entry h.0 l (find_label change labels n ps h.1) where
  one : (a : ℕ) → ((m : ℕ) → change_at 0 a ∷ [] ≡ change_at 0 m ∷ [] → HasLabel change labels m) → 1 ≤ times (is_that (change_at 0 n)) (change_at 0 a ∷ each_of action_change ps) → (1 ≤ times (is_that (change_at 0 n)) (each_of action_change ps) → HasLabel change labels n) → HasLabel change labels n
  one a g l go = on (a == n) refl l where
    on : (b : Bool) → (a == n) ≡ b → 1 ≤ cond {A = ℕ} ((0 == 0) && b) 1 0 + times (is_that (change_at 0 n)) (each_of action_change ps) → HasLabel change labels n
    on true q l = subst (HasLabel change labels) (eqb-true a n q) (g a refl)
    on false q l = go (omega (arith, l))

  at : (e : Entry) → ((m : ℕ) → action_change e ≡ change_at 0 m ∷ [] → HasLabel change labels m) → 1 ≤ times (is_that (change_at 0 n)) (action_change e ++ each_of action_change ps) → (1 ≤ times (is_that (change_at 0 n)) (each_of action_change ps) → HasLabel change labels n) → HasLabel change labels n
  at (says.Connect action th ac us ho) g l go = one action g l go
  at (says.Act action) g l go = one action g l go
  at _ g l go = go l

are_connects : (change : Label → Asked) (n : ℕ) (labels : List Label) → ((i : ℕ) → i < n → (label : Label) × (slice_get labels i ≡ Some label) × IsConnect (change label)) → AreConnects change n labels
are_connects change zero labels h = tt
are_connects change (suc n) [] h = absurd (none (h 0 (omega arith))) where
  none : (label : Label) × (◌≡◌ {A = Option Label} None (Some label)) × IsConnect (change label) → ⊥
  none x = absurd (let e = x.1 in cc)
are_connects change (suc n) (l ∷ labels) h = (first (h 0 (omega arith)), are_connects change n labels (λ i b. h (suc i) (omega (arith, b)))) where
  first : (label : Label) × (◌≡◌ {A = Option Label} (Some l) (Some label)) × IsConnect (change label) → IsConnect (change l)
  first x = let s : l ≡ x.0 = some l x.0 x.1 in subst (λ (z : Label). IsConnect (change z)) (sym s) x.2 where
    some : (a b : Label) → ◌≡◌ {A = Option Label} (Some a) (Some b) → a ≡ b
    some a b e = cc

connects_less : (change : Label → Asked) (j n : ℕ) (labels : List Label) → j ≤ n → AreConnects change n labels → AreConnects change j labels
connects_less change zero n labels l h = tt
connects_less change (suc j) zero labels l h = absurd (omega (arith, l))
connects_less change (suc j) (suc n) [] l h = absurd h
connects_less change (suc j) (suc n) (x ∷ labels) l h = (h.0, connects_less change j n labels (omega (arith, l)) h.1)

-- a connect finds all rooms, at the slot below its number
pub record HasRooms (rooms : Rooms) (n : ℕ) : Type 0 where
  pub thread : rooms.thread ≡ Some (n - 1)
  pub account : is_some rooms.account ≡ true
  pub user : is_some rooms.user ≡ true
  pub host : is_some rooms.host ≡ true

rooms_found : (setting : Setting) (k number : ℕ) (what : Asked) (s : State) → IsOpen setting k s → HasRoom setting (suc k) → IsConnect what → HasRooms (rooms_for s number what) (suc k)
rooms_found setting k number (changes.Connect user host) s is room c =
    subst (λ (seat : Option Seated). HasRooms (rooms_of (placed_of seat)) (suc k)) (sym (seat_is setting k number user host s is room))
    (let h = has_all setting k number user host s is room in record { thread = ap (λ (n : ℕ). Some n) (less k); account = h.account; user = h.user; host = h.host }) where
      less : (k : ℕ) → k ≡ suc k - 1
      less k = omega arith
rooms_found setting k number changes.Quit s is room c = absurd c
rooms_found setting k number (changes.Truncate what) s is room c = absurd c
rooms_found setting k number (changes.Setup what) s is room c = absurd c

seat_of_rooms : (rooms : Rooms) (action : ℕ) (th ac us ho : Option ℕ) → rooms ≡ record { thread = th; account = ac; user = us; host = ho } → HasRooms rooms action → IsSeat (says.Connect action th ac us ho)
seat_of_rooms rooms action th ac us ho e h =
    (sym (ap (λ (r : Rooms). r.thread) e) ∙ h.thread, sym (ap (λ (r : Rooms). is_some r.account) e) ∙ h.account, sym (ap (λ (r : Rooms). is_some r.user) e) ∙ h.user, sym (ap (λ (r : Rooms). is_some r.host) e) ∙ h.host)

module _ (setting : Setting) (phase : Phase) (phases : List Phase) (report : ReportParts) (run : IsRun setting (phase ∷ phases) report) (kept : AreKept (run_of setting (phase ∷ phases) report run))
    (orderly : IsOrderly (run_of setting (phase ∷ phases) report run)) (connecting : IsConnecting phase) (room : HasRoom setting (connects_of phase.blocks)) where
  abbrev pub own : Run
  own = run_of setting (phase ∷ phases) report run

  abbrev pub change : Label → Asked
  change = change_in (phase ∷ phases)

  abbrev pub all : List Placed
  all = places (all_blocks run.blocks)

  abbrev pub front : List Placed
  front = entries_to (run_of setting (phase ∷ phases) report run) 1

  abbrev pub count : ℕ
  count = length (each_of action_change (entries_to (run_of setting (phase ∷ phases) report run) 1))

  opening : IsOpening phase.blocks (all_blocks run.blocks)
  opening = opening_of phase phases report.phases run.blocks run.phases_are connecting

  front_is : front ≡ places_behind [] opening.first
  front_is = by (fronts 1 (all_blocks run.blocks) run.rules.shaped) where
    by : IsFront 1 [] (all_blocks run.blocks) → front ≡ places_behind [] opening.first
    by f = f.same ∙ ap (places_behind []) opening.is

  shaped : AreShapedBehind [] 0 opening.first
  shaped = subst (AreShapedBehind [] 0) opening.is (front_shaped 1 (all_blocks run.blocks) run.rules.shaped)

  pub firsts : Each IsFirstPlace front
  firsts = subst (Each IsFirstPlace) (sym front_is) (first_places [] 0 phase.blocks opening.first opening.plain shaped)

  pub enough : HasRoom setting count
  enough = room_less setting count (connects_of phase.blocks) (subst (λ ps. length (each_of action_change ps) ≤ connects_of phase.blocks) (sym front_is) (few_actions [] 0 phase.blocks opening.first opening.plain shaped)) room

  pub each_front_of : (P : Placed → Type 0) → Each P all → Each P front
  each_front_of P h = each_map (λ (p : Placed). (nat_le p.phase 1 ≡ true) × P p) P front (λ p k. k.1) (each_chosen P (λ (p : Placed). nat_le p.phase 1) all h)

  labelled : Each (λ (p : Placed). (n : ℕ) → action_change p.entry ≡ change_at 0 n ∷ [] → HasLabel change run.labels n) front
  labelled =
      each_map (λ (p : Placed). IsFirstPlace p × IsActionOf change run.labels p.line p.entry) (λ (p : Placed). (n : ℕ) → action_change p.entry ≡ change_at 0 n ∷ [] → HasLabel change run.labels n) front
      (λ p h. place_label change run.labels p p.entry refl h.0 h.1) (each_both IsFirstPlace (λ (p : Placed). IsActionOf change run.labels p.line p.entry) front firsts (each_front_of (λ (p : Placed). IsActionOf change run.labels p.line p.entry) orderly.actions))

  pub label_of : (n : ℕ) → 1 ≤ n → n ≤ count → HasLabel change run.labels n
  label_of n l h = find_label change run.labels n front labelled (by (nat_lt 0 n && nat_le n (times (is_of 0) (each_of action_change front))) (within n (times (is_of 0) (each_of action_change front)) l (let z : times (is_of 0) (each_of action_change front) ≡ count = zero_rows front in omega (arith, z, h))) (run.rules.joint.ordered.numbers 1 (change_at 0 n))) where
    within : (a m : ℕ) → 1 ≤ a → a ≤ m → (nat_lt 0 a && nat_le a m) ≡ true
    within a m l h = grind arith

    by : (b : Bool) → b ≡ true → times (is_that (change_at 0 n)) (each_of action_change front) ≡ cond b 1 0 → 1 ≤ times (is_that (change_at 0 n)) (each_of action_change front)
    by true q e = omega (arith, e)
    by false q e = absurd (cc)

  pub connects : AreConnects change count run.labels
  connects = are_connects change count run.labels (λ i l. (let h = label_of (suc i) (omega arith) (omega (arith, l)) in (h.label, h.at, h.connects)))

  abbrev pub state_at : ℕ → State
  state_at j = state_of setting change (take j run.labels)

  pub open_at : (j : ℕ) → j ≤ count → IsOpen setting j (state_at j)
  open_at j l = subst (λ m. IsOpen setting m (state_at j)) (none j) (open_after setting change j 0 run.labels (opened setting) (connects_less change j count run.labels l connects) (room_less setting (0 + j) count (omega (arith, l)) enough) (open_first setting)) where
    none : (j : ℕ) → 0 + j ≡ j
    none j = omega arith

  pub range : Each (λ (p : Placed). (n : ℕ) → action_change p.entry ≡ change_at 0 n ∷ [] → (1 ≤ n) × (n ≤ count)) front
  range = each_map (λ (p : Placed). (n : ℕ) → action_change p.entry ≡ change_at 0 n ∷ [] → 1 ≤ times (is_that (change_at 0 n)) (each_of action_change front)) (λ (p : Placed). (n : ℕ) → action_change p.entry ≡ change_at 0 n ∷ [] → (1 ≤ n) × (n ≤ count)) front
      (λ p h n e. (let r : (1 ≤ n) × (n ≤ times (is_of 0) (each_of action_change front)) = chain_range (each_of action_change front) (run.rules.joint.ordered.numbers 1) (change_at 0 n) (h n e) in let b : n ≤ times (is_of 0) (each_of action_change front) = r.1 in let z : times (is_of 0) (each_of action_change front) ≡ count = zero_rows front in (r.0, omega (arith, b, z))))
      (actions_in front)

  rooms_are : (n : ℕ) → 1 ≤ n → n ≤ count → HasRooms (rooms_at setting change run.labels n) n
  rooms_are zero l h = absurd (omega (arith, l))
  rooms_are (suc k) l h = by (label_of (suc k) l h) where
    less : (k : ℕ) → k ≡ suc k - 1
    less k = omega arith

    by : HasLabel change run.labels (suc k) → HasRooms (rooms_at setting change run.labels (suc k)) (suc k)
    by x =
        subst (λ (o : Option Label). HasRooms (rooms_of_label change (before_action setting change run.labels (suc k)) o) (suc k)) (sym x.at)
        (subst (λ j. HasRooms (rooms_for (state_at j) x.label.session (change x.label)) (suc k)) (less k) (rooms_found setting k x.label.session (change x.label) (state_at k) (open_at k (omega (arith, h))) (room_less setting (suc k) count h enough) x.connects))

  pub seats : Each IsSeatAt front
  seats =
      each_map (λ (p : Placed). ((n : ℕ) → action_change p.entry ≡ change_at 0 n ∷ [] → (1 ≤ n) × (n ≤ count)) × IsAnswered (rooms_at setting change run.labels) (answers_at setting change run.labels) p p.entry) IsSeatAt front
      (λ p h. by p p.entry h.0 h.1)
      (each_both (λ (p : Placed). (n : ℕ) → action_change p.entry ≡ change_at 0 n ∷ [] → (1 ≤ n) × (n ≤ count)) (λ (p : Placed). IsAnswered (rooms_at setting change run.labels) (answers_at setting change run.labels) p p.entry) front range
      (each_front_of (λ (p : Placed). IsAnswered (rooms_at setting change run.labels) (answers_at setting change run.labels) p p.entry) (answered_each (rooms_at setting change run.labels) (answers_at setting change run.labels) all run.rules.answered))) where
        by : (p : Placed) (e : Entry) → ((n : ℕ) → action_change e ≡ change_at 0 n ∷ [] → (1 ≤ n) × (n ≤ count)) → IsAnswered (rooms_at setting change run.labels) (answers_at setting change run.labels) p e → IsSeat e
        by p (says.Connect action th ac us ho) r a = seat_of_rooms (rooms_at setting change run.labels action) action th ac us ho a (rooms_are action (r action refl).0 (r action refl).1)
        by p _ r a = tt

  -- what a session has behind the phase
  pub homes : (session : ℕ) → IsHome (seated_by session phase.blocks false) (told_behind (run_of setting (phase ∷ phases) report run) 1 session)
  homes session =
      subst (λ (bs : List Block). IsHome (seated_by session phase.blocks false) (told_by session fresh bs)) (sym opening.is ∙ blocks_same 1 (all_blocks run.blocks))
      (homes_told session [] 0 phase.blocks opening.first false opening.plain shaped (subst (Each IsSeatAt) front_is seats) (record { slot = refl; account = refl; user = refl; host = refl; opened = refl }))
