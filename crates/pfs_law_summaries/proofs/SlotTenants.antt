-- Of two sessions that had one slot the one that connected first has quit before the other connected, and released the
-- slot's ring at or above its puts: of each run.
use Rattle.std.proofs.Common.{◌≡◌, refl, ℕ, zero, suc, ◌+◌, ◌-◌, ◌*◌, ◌<◌, ◌≤◌, ◌==◌, ◌&&◌, Bool, true, false, cond, nat_le, nat_lt, List, [], ◌∷◌, ◌++◌, length, max, take, Option, Some, None, sym, ap, subst, ◌∙◌, inl, inr, arith}
use Rattle.std.specs.Prelude.{slice_get, ◌⊎◌}
use Rattle.std.proofs.lemmas.Bool.{eqb-true}
use Rattle.pfs_admin.specs.ConnectionAsks.{quit_work, upper_tags, work_of_quit}
use Rattle.pfs_admin.specs.Fold.{state_of}
use Rattle.pfs_admin.specs.AdministrationStates.{has_quit, seat_in}
use Rattle.pfs_admin.specs.AdministrationStates.{State as Admin}
use Rattle.pfs_admin.specs.WordChanges.{up_to}
use Rattle.pfs_admin.specs.Truncations.{free_ring, free_rows, freed_at}
use Rattle.pfs_admin.specs.Works.{Releases, Tags, Work}
use Rattle.pfs_admin.specs.Works.{Sign as Said}
use Rattle.pfs_admin.specs.declared.changes.Change.{Change}
use Rattle.pfs_admin.specs.declared.changes.Change.TheVariants as changes
use Rattle.pfs_law_session.specs.Demands.{signs_asked}
use Rattle.pfs_board.specs.declared.view.Label.{Label}
use Rattle.pfs_conservation.specs.AdministrationFold.{Action, Connect, Found, Quit, found_where, numbered, state_after}
use Rattle.pfs_conservation.specs.PlaceFolds.{Session, State, entry_at}
use Rattle.pfs_conservation.specs.CellHolders.{opened_by}
use Rattle.pfs_containers.specs.ContainerState.{seated}
use Rattle.pfs_containers.specs.declared.containers.Seated.{Seated}
use Rattle.pfs_event.specs.declared.entry.Entry.{Entry}
use Rattle.pfs_event.specs.declared.entry.Entry.TheVariants as says
use Rattle.pfs_model.specs.Actions.{AllAbove, AreRising, IsAmong, is_acted, numbers_by}
use Rattle.pfs_model.specs.ActionAsks.{Did, Freed, asked_of, did, of_action, signed_by}
use Rattle.pfs_model.specs.Chains.{Each, action_change, change_at, each_of, is_of, is_that, release_of, row_change, times}
use Rattle.pfs_model.specs.Contexts.{Context, fresh, noted, subject_of}
use Rattle.pfs_model.specs.Floors.{AllBelow, AreFlooredBehind, NamingsKeep, by_actions, floor_of, greatest, namings_of, rows_known}
use Rattle.pfs_model.specs.EntryPlaces.{Placed, before_phase, by_session, places}
use Rattle.pfs_model.specs.declared.changes.Change.{Change as Numbered}
use Rattle.pfs_model.specs.declared.lines.Line.{Line}
use Rattle.pfs_model.specs.declared.lines.Line.TheVariants as lines
use Rattle.pfs_model.proofs.ChainGrowth.{times_append}
use Rattle.pfs_law_conservation.proofs.InfoActions.{asked_among}
use Rattle.pfs_model.proofs.Members.{among_back, among_either}
use Rattle.pfs_runs.specs.Labels.{asked_at, label_at, rooms_at, work_at, work_for, work_of_label}
use Rattle.pfs_law_conservation.proofs.AdditionOrder.{IsQuitting, IsSayer, IsSplit, after_quit, before_said, follow_front, last_split, near_split, onto, quits_onto, quitting_is, sayer_is, split_at}
use Rattle.pfs_law_conservation.proofs.AdditionOrder.{among_split as among_around}
use Rattle.pfs_law_conservation.proofs.ConnectLines.{IsApart, is_act, is_connecting}
use Rattle.pfs_law_conservation.proofs.AdditionFloors.{place_among}
use Rattle.pfs_law_conservation.proofs.SingleQuits.{IsActed, IsIndexed, acted_of, no_other_quit, said_index}
use Rattle.pfs_law_conservation.proofs.RunEntries.{run_acting, run_apart, run_follow, run_label, run_near, run_number, run_own, run_rising, run_said}
use Rattle.pfs_law_conservation.proofs.ConnectSlots.{IsSeated, seated_there, session_in}
use Rattle.pfs_law_conservation.proofs.SessionThreads.{found_some, only_there, stays_there}
use Rattle.pfs_law_conservation.proofs.EntryWalk.{Follow}
use Rattle.pfs_law_conservation.proofs.FirstConnects.{IsFirstConnect, IsOwn, IsTold, rooms_told}
use Rattle.pfs_law_conservation.proofs.LineVersions.{chain_one, chain_range, that_self}
use Rattle.pfs_law_conservation.proofs.PlaceFolds.{fold_places, front_front, front_length}
use Rattle.pfs_law_conservation.proofs.ActionPhases.{early_did}
use Rattle.pfs_law_conservation.proofs.EventNumbers.{which}
use Rattle.pfs_law_conservation.proofs.EventOffers.{Near}
use Rattle.pfs_law_conservation.proofs.QuitMoves.{IsThere, found_there}
use Rattle.pfs_law_conservation.proofs.ActionJournals.{HasNumber, IsSaid, all_said, zero_rows}
use Rattle.pfs_law_conservation.proofs.RowLines.{bit_yes}
use Rattle.pfs_law_conservation.specs.RunActions.{action_for}
use Rattle.pfs_law_conservation.specs.KindRows.{limits_of}
use Rattle.pfs_law_conservation.specs.RunEvents.{connects_at, first_of, given_by, is_quit, quit_in, quits_at}
use Rattle.pfs_law_conservation.specs.Premises.{AreKept, AreLastBehind, IsActionOf, IsChangeOf, IsLabelOf, IsOrderly}
use Rattle.pfs_law_conservation.specs.RunTerms.{Run, actions_to, entries_to}
use Rattle.pfs_law_summaries.proofs.RingChanges.{floors, idles}
use Rattle.pfs_law_summaries.proofs.IdlePuts.{IsIdle}
use Rattle.pfs_law_summaries.proofs.Rounds.{is_ring}
use Rattle.pfs_law_summaries.proofs.SlotSessions.{action_names, connects_line}
use Rattle.pfs_law_summaries.proofs.SummaryPlaces.{none_stands}
use Rattle.pfs_law_conservation.proofs.ActionNumbers.{said_counts, none_before, own_number, above_among, quit_change, some_of, label_same}

-- ---- what a quit releases

-- all places of a ring
signs_then : (d : Did) (xs ys : List Said) → IsAmong d (signed_by (signs_asked ys)) → IsAmong d (signed_by (signs_asked (xs ++ ys)))
signs_then d [] ys m = m
signs_then d (Releases row ∷ xs) ys m = inr (signs_then d xs ys m)
signs_then d (Tags row content ∷ xs) ys m = inr (signs_then d xs ys m)

signs_front : (d : Did) (xs ys : List Said) → IsAmong d (signed_by (signs_asked xs)) → IsAmong d (signed_by (signs_asked (xs ++ ys)))
signs_front d [] ys m = absurd m
signs_front d (Releases row ∷ xs) ys (inl e) = inl e
signs_front d (Releases row ∷ xs) ys (inr m) = inr (signs_front d xs ys m)
signs_front d (Tags row content ∷ xs) ys (inl e) = inl e
signs_front d (Tags row content ∷ xs) ys (inr m) = inr (signs_front d xs ys m)

rows_up : (first count row : ℕ) → first ≤ row → row < first + count → IsAmong (Freed row) (signed_by (signs_asked (up_to (freed_at first) count)))
rows_up first zero row l h = absurd (omega (arith, l, h))
rows_up first (suc n) row l h = on (which (first + n) row) (λ k. rows_up first n row l k) where
  on : (first + n ≤ row) ⊎ (row < first + n) → (row < first + n → IsAmong (Freed row) (signed_by (signs_asked (up_to (freed_at first) n)))) → IsAmong (Freed row) (signed_by (signs_asked (up_to (freed_at first) (suc n))))
  on (inl k) go = let e : first + n ≡ row = omega (arith, k, h) in signs_then (Freed row) (up_to (freed_at first) n) (freed_at first n) (inl (ap (λ z. Freed z) e))
  on (inr k) go = signs_front (Freed row) (up_to (freed_at first) n) (freed_at first n) (go k)

ring_freed : (slot row : ℕ) → 8450 + 56 * slot ≤ row → row < 8450 + 56 * slot + 56 → IsAmong (Freed row) (signed_by (signs_asked (free_ring slot)))
unfolding free_rows
ring_freed slot row l h = rows_up (8450 + 56 * slot) 56 row l h

quit_frees : (s : Admin) (session row : ℕ) (seat : Seated) → seat_in s session ≡ Some seat → 8450 + 56 * seat.slot ≤ row → row < 8450 + 56 * seat.slot + 56
    → IsAmong (Freed row) (signed_by (signs_asked (quit_work s.words s.cells (has_quit s session).kept.now (seat_in s session)).signs))
quit_frees s session row seat q l h =
    subst (λ o. IsAmong (Freed row) (signed_by (signs_asked (quit_work s.words s.cells (has_quit s session).kept.now o).signs))) (sym q)
    (inr (signs_then (Freed row) (upper_tags (has_quit s session).kept.now seat.connection) (free_ring seat.slot) (ring_freed seat.slot row l h)))

-- the entry of a release
pub record IsFreeing (row action : ℕ) (ps : List Placed) : Type 0 where
  pub place : Placed
  pub version : ℕ
  pub among : IsAmong place ps
  pub entry : place.entry ≡ says.Free row version
  pub action_is : place.context.action ≡ action

freeing : (row action : ℕ) (ps : List Placed) → IsAmong (Freed row) (each_of did (of_action action ps)) → IsFreeing row action ps
freeing row action [] m = absurd m
freeing row action (p ∷ ps) m = on (p.context.action == action) refl m (λ k. freeing row action ps k) where
  Go : Type 0
  Go = IsAmong (Freed row) (each_of did (of_action action ps)) → IsFreeing row action ps

  later : IsFreeing row action ps → IsFreeing row action (p ∷ ps)
  later f = record { place = f.place; version = f.version; among = inr f.among; entry = f.entry; action_is = f.action_is }

  same_row : (a b : ℕ) → Freed a ≡ Freed b → a ≡ b
  same_row a b e = cc

  here : (e : Entry) → p.entry ≡ e → p.context.action ≡ action → IsAmong (Freed row) (did e) → IsFreeing row action (p ∷ ps)
  here (says.Free at v) q a (inl e) = record { place = p; version = v; among = inl refl; entry = q ∙ ap (λ z. says.Free z v) (same_row at row e); action_is = a }
  here (says.Free at v) q a (inr m) = absurd m
  here (says.Take at v) q a (inl e) = absurd (cc)
  here (says.Take at v) q a (inr m) = absurd m
  here (says.Give at v from) q a (inl e) = absurd (cc)
  here (says.Give at v from) q a (inr m) = absurd m
  here (says.Tag at v) q a (inl e) = absurd (cc)
  here (says.Tag at v) q a (inr m) = absurd m
  here (says.Set word v flags) q a (inl e) = absurd (cc)
  here (says.Set word v flags) q a (inr m) = absurd m
  here _ q a m = absurd m

  on : (b : Bool) → (p.context.action == action) ≡ b → IsAmong (Freed row) (each_of did (cond b (p ∷ []) [] ++ of_action action ps)) → Go → IsFreeing row action (p ∷ ps)
  on true q m go = split (among_either (Freed row) (did p.entry) (each_of did (of_action action ps)) m) where
    split : IsAmong (Freed row) (did p.entry) ⊎ IsAmong (Freed row) (each_of did (of_action action ps)) → IsFreeing row action (p ∷ ps)
    split (inl m) = here p.entry refl (eqb-true p.context.action action q) m
    split (inr m) = later (go m)
  on false q m go = later (go m)

-- ---- at or above what its session put there before

greatest_among : (row version : ℕ) (xs : List Numbered) → IsAmong (change_at row version) xs → version ≤ greatest row xs
greatest_among row version [] m = absurd m
greatest_among row version (x ∷ xs) (inl e) =
    subst (λ (z : Numbered). version ≤ max (cond {A = ℕ} (z.row == row) z.version 0) (greatest row xs)) (sym e)
    (subst (λ b. version ≤ max (cond {A = ℕ} b version 0) (greatest row xs)) (sym (self row)) (omega arith)) where
      self : (n : ℕ) → (n == n) ≡ true
      self n = grind arith
greatest_among row version (x ∷ xs) (inr m) = let l : version ≤ greatest row xs = greatest_among row version xs m in omega (arith, l)

known_among : (session row version : ℕ) (p : Placed) (earlier : List Placed) → IsAmong p earlier → p.session ≡ session → p.entry ≡ says.Ring row version → IsAmong (change_at row version) (each_of rows_known (by_session session earlier))
known_among session row version p [] m s e = absurd m
known_among session row version p (x ∷ xs) (inl q) s e =
    subst (λ b. IsAmong (change_at row version) (each_of rows_known (cond b (x ∷ []) [] ++ by_session session xs))) (sym own)
    (subst (λ z. IsAmong (change_at row version) (rows_known z ++ each_of rows_known (by_session session xs))) (sym (ap (λ (z : Placed). z.entry) q ∙ e)) (inl refl)) where
      self : (n : ℕ) → (n == n) ≡ true
      self n = grind arith

      own : (x.session == session) ≡ true
      own = subst (λ n. (n == session) ≡ true) (sym (ap (λ (z : Placed). z.session) q ∙ s)) (self session)
known_among session row version p (x ∷ xs) (inr m) s e = on (x.session == session) (known_among session row version p xs m s e) where
  on : (b : Bool) → IsAmong (change_at row version) (each_of rows_known (by_session session xs)) → IsAmong (change_at row version) (each_of rows_known (cond b (x ∷ []) [] ++ by_session session xs))
  on true m = among_back (change_at row version) (rows_known x.entry) (each_of rows_known (by_session session xs)) m
  on false m = m

floored_split : (all earlier xs ys : List Placed) → AreFlooredBehind all earlier (xs ++ ys) → AreFlooredBehind all (onto earlier xs) ys
floored_split all earlier [] ys f = f
floored_split all earlier (x ∷ xs) ys f = floored_split all (x ∷ earlier) xs ys f.2

onto_among : (p : Placed) (earlier xs : List Placed) → IsAmong p xs ⊎ IsAmong p earlier → IsAmong p (onto earlier xs)
onto_among p earlier [] (inl m) = absurd m
onto_among p earlier [] (inr m) = m
onto_among p earlier (x ∷ xs) (inl (inl e)) = onto_among p (x ∷ earlier) xs (inr (inl e))
onto_among p earlier (x ∷ xs) (inl (inr m)) = onto_among p (x ∷ earlier) xs (inl m)
onto_among p earlier (x ∷ xs) (inr m) = onto_among p (x ∷ earlier) xs (inr (inr m))

freed_above : (all earlier ys : List Placed) (p f : Placed) (row version at : ℕ) → AreFlooredBehind all earlier ys → IsAmong p earlier → IsAmong f ys → p.session ≡ f.session
    → p.entry ≡ says.Ring row version → f.entry ≡ says.Free row at → version ≤ at
freed_above all earlier [] p f row version at fl m n s e g = absurd n
freed_above all earlier (y ∷ ys) p f row version at fl m (inl q) s e g = below (subst (λ z. NamingsKeep all earlier y (namings_of z)) (ap (λ (z : Placed). z.entry) q ∙ g) fl.0) where
  seen : version ≤ greatest row (each_of rows_known (by_session y.session earlier))
  seen = greatest_among row version (each_of rows_known (by_session y.session earlier)) (known_among y.session row version p earlier m (s ∙ sym (ap (λ (z : Placed). z.session) q)) e)

  below : NamingsKeep all earlier y (namings_of (says.Free row at)) → version ≤ at
  below n = let l : floor_of all earlier y row ≤ at = n.0 in
      middle (times (is_of row) (each_of row_change (before_phase y.phase all))) (greatest row (each_of rows_known (by_session y.session earlier))) (greatest row (each_of row_change (by_actions y.context.done all))) l seen where
        middle : (a b c : ℕ) → max (max a b) c ≤ at → version ≤ b → version ≤ at
        middle a b c l s = omega (arith, l, s)
freed_above all earlier (y ∷ ys) p f row version at fl m (inr n) s e g = freed_above all (y ∷ earlier) ys p f row version at fl.2 (inr m) n s e g

-- ---- and a put is above what was released by its session's last action

abbrev pub IsClear : List Placed → Placed → Entry → Type 0
IsClear all p (says.Ring row version) = AllBelow row version (each_of release_of (by_actions p.context.done all))
IsClear all p entry = Unit {0}

clear_of : (all earlier : List Placed) (p : Placed) (e : Entry) → NamingsKeep all earlier p (namings_of e) → IsClear all p e
clear_of all earlier p (says.Ring row version) n = n.0.1.released
clear_of all earlier p _ n = tt

pub all_clear : (all earlier ps : List Placed) → AreFlooredBehind all earlier ps → Each (λ (p : Placed). IsClear all p p.entry) ps
all_clear all earlier [] f = tt
all_clear all earlier (p ∷ ps) f = (clear_of all earlier p p.entry f.0, all_clear all (p ∷ earlier) ps f.2)

by_among : (number : ℕ) (f : Placed) (all : List Placed) → IsAmong f all → 0 < f.context.action → f.context.action ≤ number → IsAmong f (by_actions number all)
by_among number f [] m l h = absurd m
by_among number f (x ∷ xs) (inl e) l h = subst (λ b. IsAmong f (cond b (x ∷ []) [] ++ by_actions number xs)) (sym (ap (λ (z : Placed). nat_lt 0 z.context.action && nat_le z.context.action number) e ∙ both f.context.action number l h)) (inl e) where
  both : (a n : ℕ) → 0 < a → a ≤ n → (nat_lt 0 a && nat_le a n) ≡ true
  both a n l h = grind arith
by_among number f (x ∷ xs) (inr m) l h = among_back f (cond (nat_lt 0 x.context.action && nat_le x.context.action number) (x ∷ []) []) (by_actions number xs) (by_among number f xs m l h)

pub release_among : (row version : ℕ) (f : Placed) (xs : List Placed) → IsAmong f xs → f.entry ≡ says.Free row version → IsAmong (change_at row version) (each_of release_of xs)
release_among row version f [] m e = absurd m
release_among row version f (x ∷ xs) (inl q) e = subst (λ z. IsAmong (change_at row version) (release_of z ++ each_of release_of xs)) (sym (ap (λ (z : Placed). z.entry) q ∙ e)) (inl refl)
release_among row version f (x ∷ xs) (inr m) e = among_back (change_at row version) (release_of x.entry) (each_of release_of xs) (release_among row version f xs m e)

below_among : (row version at : ℕ) (xs : List Numbered) → AllBelow row version xs → IsAmong (change_at row at) xs → at < version
below_among row version at [] a m = absurd m
below_among row version at (x ∷ xs) a (inl e) = let l : x.version < version = a.0 (ap (λ (z : Numbered). z.row) e) in let k : x.version ≡ at = ap (λ (z : Numbered). z.version) e in omega (arith, l, k)
below_among row version at (x ∷ xs) a (inr m) = below_among row version at xs a.1 m

-- ---- of a run

-- a session that stands at a slot behind the action by which it connected
pub record IsTenant (run : Run) (phase session slot action : ℕ) : Type 0 where
  pub first : first_of (given_by connects_at session (entries_to run phase)) ≡ Some action
  pub positive : 1 ≤ action
  pub within : action ≤ length (each_of action_change (entries_to run phase))
  pub who : Session
  pub number : who.number ≡ session
  pub stands : entry_at (state_after (opened_by (limits_of run.setting)) (numbered (actions_to run phase)) action).threads slot ≡ Some who

module _ (run : Run) (kept : AreKept run) (orderly : IsOrderly run) (phase : ℕ) where
  abbrev ps : List Placed
  ps = entries_to run phase

  abbrev all : List Placed
  all = places run.blocks

  abbrev many : ℕ
  many = length (each_of action_change (entries_to run phase))

  abbrev acts : ℕ → Action
  acts = numbered (actions_to run phase)

  abbrev opening : State
  opening = opened_by (limits_of run.setting)

  less : (k : ℕ) → suc k - 1 ≡ k
  less k = omega arith

  -- the label of an action that a session says
  pub label_of : (p : Placed) (k : ℕ) → IsAmong p (places run.blocks) → action_change p.entry ≡ change_at 0 (suc k) ∷ [] → (line : ℕ) × (slice_get run.labels k ≡ Some (record { session = p.session; line = line }))
  label_of p k m e =
      let i : IsIndexed (suc k) (numbers_by p.session (places run.blocks)) = said_index (suc k) p (places run.blocks) m e in
      (i.index + 1, ap (slice_get run.labels) (sym (less k)) ∙ kept.labelled.each p.session i.index (change_at 0 (suc k)) i.there)

  pub said_range : (p : Placed) (number : ℕ) → IsAmong p (entries_to run phase) → action_change p.entry ≡ change_at 0 number ∷ [] → (1 ≤ number) × (number ≤ length (each_of action_change (entries_to run phase)))
  said_range p number m e =
      let r : (1 ≤ number) × (number ≤ times (is_of 0) (each_of action_change (entries_to run phase))) = chain_range (each_of action_change (entries_to run phase)) (kept.rules.joint.ordered.numbers phase) (change_at 0 number) (said_counts number p (entries_to run phase) m e) in
      let z : times (is_of 0) (each_of action_change (entries_to run phase)) ≡ length (each_of action_change (entries_to run phase)) = zero_rows (entries_to run phase) in
      let h : number ≤ times (is_of 0) (each_of action_change (entries_to run phase)) = r.1 in
      (r.0, omega (arith, h, z))

  firsts : (session : ℕ) → Each (λ (p : Placed). (p.session == session) ≡ true → IsFirstConnect session (entries_to run phase) p.entry) (entries_to run phase)
  firsts session = each (entries_to run phase) (run_own run kept orderly phase session) where
    each : (qs : List Placed) → Each (λ (p : Placed). (p.session == session) ≡ true → IsOwn session (rooms_at run.setting run.change run.labels) (entries_to run phase) p) qs
        → Each (λ (p : Placed). (p.session == session) ≡ true → IsFirstConnect session (entries_to run phase) p.entry) qs
    each [] h = tt
    each (p ∷ qs) h = ((λ z. (h.0 z).first), each qs h.1)

  -- a session connects once
  only_connect : (session action : ℕ) → first_of (given_by connects_at session (entries_to run phase)) ≡ Some action → (k user host : ℕ) → numbered (actions_to run phase) k ≡ Connect session user host → k ≡ action
  only_connect session action first k user host q = on (acted_of run.change run.labels (places run.blocks) (entries_to run phase) (run_acting run kept orderly phase) k (Connect session user host) q (λ e. absurd (cc))) where
    on : (label : Label) × IsActed run.change run.labels (entries_to run phase) k label × (action_for label.session (run.change label) ≡ Connect session user host) → k ≡ action
    on (label, a, e) = by a.said.place.entry refl a.said.says where
      p : Placed
      p = a.said.place

      names : (label.session ≡ session) × (run.change label ≡ changes.Connect user host)
      names = action_names label.session session user host (run.change label) e

      same : (n : ℕ) → ◌≡◌ {A = List Numbered} (change_at 0 n ∷ []) (change_at 0 k ∷ []) → n ≡ k
      same n f = let h : change_at 0 n ≡ change_at 0 k = cc in ap (λ (z : Numbered). z.version) h

      own : (p.session == session) ≡ true
      own = subst (λ n. (n == session) ≡ true) (sym (a.session ∙ names.0)) (self session) where
        self : (n : ℕ) → (n == n) ≡ true
        self n = grind arith

      by : (x : Entry) → p.entry ≡ x → action_change x ≡ change_at 0 k ∷ [] → k ≡ action
      by (says.Connect n thread account user_place host_place) f g =
          let c : first_of (given_by connects_at session (entries_to run phase)) ≡ Some n = subst (IsFirstConnect session (entries_to run phase)) f (place_among (λ (p : Placed). (p.session == session) ≡ true → IsFirstConnect session (entries_to run phase) p.entry) p (entries_to run phase) a.said.among (firsts session) own) in
          sym (same n g) ∙ (let z : Some n ≡ Some action = sym c ∙ first in cc)
      by (says.Act n) f g =
          let h : IsLabelOf run.change p.line (label_at run.labels n) = subst (IsActionOf run.change run.labels p.line) f (place_among (λ (p : Placed). IsActionOf run.change run.labels p.line p.entry) p (entries_to run phase) a.said.among (run_acting run kept orderly phase).acts) in
          let i : IsChangeOf p.line (run.change label) = subst (IsLabelOf run.change p.line) (ap (label_at run.labels) (same n g) ∙ a.at) h in
          let c : is_connecting p.line ≡ true = connects_line p.line user host (subst (IsChangeOf p.line) names.1 i) in
          absurd (let z : true ≡ false = sym (ap is_act f) ∙ place_among IsApart p (entries_to run phase) a.said.among (run_apart run kept orderly phase) c in cc)
      by _ f g = absurd (cc)

  -- no quit has the number 0
  pub none_quit : (session : ℕ) → quit_in (entries_to run phase) session ≡ Some 0 → ⊥
  none_quit session q = on (some_of (given_by quits_at session (entries_to run phase)) 0 q) where
    on : (rest : List ℕ) × (given_by quits_at session (entries_to run phase) ≡ 0 ∷ rest) → ⊥
    on (rest, e) =
        let x : IsQuitting session 0 (entries_to run phase) = quitting_is session 0 rest (entries_to run phase) e in
        let l : 1 ≤ 0 = (said_range x.place 0 x.among (ap action_change x.entry)).0 in
        omega (arith, l)

  none_free : (j : ℕ) (y : Session) → entry_at (opened_by (limits_of run.setting)).threads j ≡ Some y → ⊥
  none_free j y e = none_stands run.setting.limits.thread_instances j y e

  -- it stays there until it quits
  stays : (session slot action : ℕ) → IsTenant run phase session slot action → (quit : ℕ) → ((k : ℕ) → suc action ≤ k → k < quit → numbered (actions_to run phase) k ≡ Quit session → ⊥) → (k : ℕ) → action ≤ k → k < quit
      → (who : Session) × (who.number ≡ session) × (entry_at (state_after (opened_by (limits_of run.setting)) (numbered (actions_to run phase)) k).threads slot ≡ Some who)
  stays session slot action t quit never k l h = (
    t.who,
    t.number,
    stays_there opening acts session slot action t.who t.number none_free t.stands (λ j user host e. only_connect session action t.first j user host e) quit never k l h,
  )

  quits_at_number : (session slot action : ℕ) → IsTenant run phase session slot action → (k : ℕ) → suc action ≤ k → numbered (actions_to run phase) k ≡ Quit session → quit_in (entries_to run phase) session ≡ Some k
  quits_at_number session slot action t k l e = no_other_quit run.change run.labels (places run.blocks) (entries_to run phase) (run_acting run kept orderly phase) session action (firsts session) t.first k l e

  -- so of two at one slot the one that connected first quits before the other connects
  pub quits_before : (first next slot a b : ℕ) → IsTenant run phase first slot a → IsTenant run phase next slot b → (first ≡ next → ⊥) → a ≤ b → (q : ℕ) × (quit_in (entries_to run phase) first ≡ Some q) × (q ≤ b)
  quits_before first next slot a b t u ne l = on (quit_in (entries_to run phase) first) refl where
    clash : ((k : ℕ) → suc a ≤ k → k < suc b → numbered (actions_to run phase) k ≡ Quit first → ⊥) → ⊥
    clash never = by (stays first slot a t (suc b) never b l (omega arith)) where
      by : (who : Session) × (who.number ≡ first) × (entry_at (state_after (opened_by (limits_of run.setting)) (numbered (actions_to run phase)) b).threads slot ≡ Some who) → ⊥
      by (who, n, e) = ne (sym n ∙ (ap (λ (z : Session). z.number) (let s : Some who ≡ Some u.who = sym e ∙ u.stands in same who u.who s) ∙ u.number)) where
        same : (x y : Session) → Some x ≡ Some y → x ≡ y
        same x y e = cc

    on : (o : Option ℕ) → quit_in (entries_to run phase) first ≡ o → (q : ℕ) × (quit_in (entries_to run phase) first ≡ Some q) × (q ≤ b)
    on None e = absurd (clash (λ k m h z. (let f : None ≡ Some k = sym e ∙ quits_at_number first slot a t k m z in cc)))
    on (Some q) e = at (which q b) where
      number : (m n : ℕ) → Some m ≡ Some n → m ≡ n
      number m n f = cc

      at : (q ≤ b) ⊎ (b < q) → (q : ℕ) × (quit_in (entries_to run phase) first ≡ Some q) × (q ≤ b)
      at (inl m) = (q, e, m)
      at (inr m) = absurd (clash (λ k n h z. (let f : q ≡ k = number q k (sym e ∙ quits_at_number first slot a t k n z) in omega (arith, f, h, m))))

  -- who has a slot by what its entries tell
  pub tenant_at : (session slot action : ℕ) (c : Context) → c.slot ≡ Some slot → IsTold session (rooms_at run.setting run.change run.labels) (entries_to run phase) action c → IsTenant run phase session slot action
  tenant_at session slot action c e t = record {
    first = t.first;
    positive = t.positive;
    within = (run_number run kept orderly phase session action t.more t.numbers).1;
    who = session_in run.setting run.change run.labels session (seat session slot action c e t).user (seat session slot action c e t).host (rooms_told c);
    number = refl;
    stands = (seat session slot action c e t).stands;
  } where
    seat : (session slot action : ℕ) (c : Context) → c.slot ≡ Some slot → IsTold session (rooms_at run.setting run.change run.labels) (entries_to run phase) action c
        → IsSeated run.setting run.change run.labels (length (each_of action_change (entries_to run phase))) action slot (rooms_told c) (record { session = session; line = 1 })
    seat session slot action c e t =
        seated_there run.setting run.change run.labels (length (each_of action_change (entries_to run phase))) action (record { session = session; line = 1 }) slot (rooms_told c) (run_number run kept orderly phase session action t.more t.numbers).1 (run_acting run kept orderly phase).few
        (run_label run kept orderly phase session action t.more t.numbers) t.found e

  -- what stands about a quit
  pub record IsQuit (session action k : ℕ) : Type 0 where
    pub place : IsQuitting session (suc k) (entries_to run phase)
    pub rest : List ℕ
    pub quits : given_by quits_at session (entries_to run phase) ≡ suc k ∷ rest
    pub within : suc k ≤ length (each_of action_change (entries_to run phase))
    pub label : Label
    pub at : slice_get run.labels k ≡ Some label
    pub of_session : label.session ≡ session
    pub change_is : run.change label ≡ changes.Quit
    pub later : action ≤ k

  apart : (user host : ℕ) → changes.Connect user host ≡ changes.Quit → ⊥
  apart user host e = cc

  quit_is : (session action slot k : ℕ) (c : Context) → c.slot ≡ Some slot → IsTold session (rooms_at run.setting run.change run.labels) (entries_to run phase) action c → quit_in (entries_to run phase) session ≡ Some (suc k) → IsQuit session action k
  quit_is session action slot k c slotted t q = record {
    place = x;
    rest = first.0;
    quits = first.1;
    within = (said_range x.place (suc k) x.among says_it).1;
    label = record { session = x.place.session; line = l.0 };
    at = l.1;
    of_session = session_is;
    change_is = change_is;
    later = later;
  } where
    first : (rest : List ℕ) × (given_by quits_at session (entries_to run phase) ≡ suc k ∷ rest)
    first = some_of (given_by quits_at session (entries_to run phase)) (suc k) q

    x : IsQuitting session (suc k) (entries_to run phase)
    x = quitting_is session (suc k) first.0 (entries_to run phase) first.1

    says_it : action_change x.place.entry ≡ change_at 0 (suc k) ∷ []
    says_it = ap action_change x.entry

    session_is : x.place.session ≡ session
    session_is = eqb-true x.place.session session x.own

    l : (line : ℕ) × (slice_get run.labels k ≡ Some (record { session = x.place.session; line = line }))
    l = label_of x.place k ((run_acting run kept orderly phase).sub x.place x.among) says_it

    change_is : run.change (record { session = x.place.session; line = l.0 }) ≡ changes.Quit
    change_is =
        let h : IsLabelOf run.change x.place.line (slice_get run.labels k) = subst (IsActionOf run.change run.labels x.place.line) x.entry (place_among (λ (p : Placed). IsActionOf run.change run.labels p.line p.entry) x.place (entries_to run phase) x.among (run_acting run kept orderly phase).acts) in
        quit_change x.place.line (run.change (record { session = x.place.session; line = l.0 })) x.line (subst (IsLabelOf run.change x.place.line) l.1 h)

    seat : IsSeated run.setting run.change run.labels (length (each_of action_change (entries_to run phase))) action slot (rooms_told c) (record { session = session; line = 1 })
    seat =
        seated_there run.setting run.change run.labels (length (each_of action_change (entries_to run phase))) action (record { session = session; line = 1 }) slot (rooms_told c) (run_number run kept orderly phase session action t.more t.numbers).1 (run_acting run kept orderly phase).few
        (run_label run kept orderly phase session action t.more t.numbers) t.found slotted

    later : action ≤ k
    later = on (subst (IsAmong (change_at 0 (suc k))) t.numbers (own_number (suc k) session x.place (entries_to run phase) x.among x.own says_it)) where
      on : IsAmong (change_at 0 (suc k)) (change_at 0 action ∷ t.more) → action ≤ k
      on (inr m) = (let h : action < suc k = above_among action (change_at 0 (suc k)) t.more (subst AreRising t.numbers (run_rising run kept orderly phase session)).0 m in omega (arith, h))
      on (inl e) =
          let n : action ≡ suc k = ap (λ (z : Numbered). z.version) e in
          let a : slice_get run.labels k ≡ Some (record { session = session; line = 1 }) = sym (ap (label_at run.labels) n) ∙ run_label run kept orderly phase session action t.more t.numbers in
          let s : record { session = x.place.session; line = l.0 } ≡ record { session = session; line = 1 } = label_same (slice_get run.labels k) (record { session = x.place.session; line = l.0 }) (record { session = session; line = 1 }) l.1 a in
          absurd (apart seat.user seat.host (sym seat.connects ∙ (ap run.change (sym s) ∙ change_is)))

  -- the quit releases the places of its slot's ring
  quit_freeing : (session action slot k row : ℕ) → IsTenant run phase session slot action → quit_in (entries_to run phase) session ≡ Some (suc k) → IsQuit session action k → 8450 + 56 * slot ≤ row → row < 8450 + 56 * slot + 56 → IsFreeing row (suc k) (entries_to run phase)
  quit_freeing session action slot k row t q u low high = freeing row (suc k) (entries_to run phase) (subst (IsAmong (Freed row)) (sym does) (asked_among (Freed row) (run.counted (suc k)) (work_at run.setting run.change run.labels (suc k)) signed)) where
    S : Admin
    S = state_of run.setting run.change (take k run.labels)

    few : length (each_of action_change (entries_to run phase)) ≤ length run.labels
    few = (run_acting run kept orderly phase).few

    places_same : (state_of run.setting run.change (take k run.labels)).kept.now.places ≡ state_after (opened_by (limits_of run.setting)) (numbered (actions_to run phase)) k
    places_same =
        let n : length (take (length (each_of action_change (entries_to run phase))) run.labels) ≡ length (each_of action_change (entries_to run phase)) = front_length run.labels (length (each_of action_change (entries_to run phase))) few in
        let w : suc k ≤ length (each_of action_change (entries_to run phase)) = u.within in
        sym (ap (λ ls. (state_of run.setting run.change ls).kept.now.places) (front_front run.labels (length (each_of action_change (entries_to run phase))) k (omega (arith, w))))
        ∙ fold_places run.setting run.change (take (length (each_of action_change (entries_to run phase))) run.labels) k (omega (arith, w, n))

    never : (j : ℕ) → suc action ≤ j → j < suc k → numbered (actions_to run phase) j ≡ Quit session → ⊥
    never j l h e =
        let r : j ≡ suc k = (let s : Some j ≡ Some (suc k) = sym (quits_at_number session slot action t j l e) ∙ q in cc) in
        omega (arith, r, h)

    still : entry_at (state_after (opened_by (limits_of run.setting)) (numbered (actions_to run phase)) k).threads slot ≡ Some t.who
    still = stays_there opening acts session slot action t.who t.number none_free t.stands (λ j user host e. only_connect session action t.first j user host e) (suc k) never k u.later (omega arith)

    passes : (t.who.number == session) ≡ true
    passes = subst (λ n. (n == session) ≡ true) (sym t.number) (self session) where
      self : (n : ℕ) → (n == n) ≡ true
      self n = grind arith

    found : (f : Found Session) × (found_where (λ (z : Session). z.number == session) (state_after (opened_by (limits_of run.setting)) (numbered (actions_to run phase)) k).threads ≡ Some f)
    found = found_some (λ (z : Session). z.number == session) (state_after opening acts k).threads slot t.who still passes

    at_slot : found.0.place ≡ slot
    at_slot =
        let h : IsThere (λ (z : Session). z.number == session) (state_after opening acts k).threads found.0 = found_there (λ (z : Session). z.number == session) (state_after opening acts k).threads found.0 found.1 in
        (only_there opening acts session slot action t.who t.number none_free t.stands (λ j user host e. only_connect session action t.first j user host e) k found.0.place found.0.entry h.entry (eqb-true found.0.entry.number session h.passes)).1

    seat_is : seat_in (state_of run.setting run.change (take k run.labels)) session ≡ Some (record { slot = found.0.place; connection = found.0.entry })
    seat_is = ap (λ (s : State). seated (found_where (λ (z : Session). z.number == session) s.threads)) places_same ∙ ap seated found.1

    work_is : work_at run.setting run.change run.labels (suc k) ≡ work_of_quit S session
    work_is =
        ap (λ n. work_of_label run.change (state_of run.setting run.change (take n run.labels)) (slice_get run.labels k)) (less k)
        ∙ (ap (work_of_label run.change S) u.at
        ∙ (ap (work_for S u.label.session) u.change_is ∙ ap (λ s. work_of_quit S s) u.of_session))

    signed : IsAmong (Freed row) (signed_by (signs_asked (work_at run.setting run.change run.labels (suc k)).signs))
    signed =
        subst (λ (w : Work). IsAmong (Freed row) (signed_by (signs_asked w.signs))) (sym work_is)
        (quit_frees S session row (record { slot = found.0.place; connection = found.0.entry }) seat_is (omega (arith, at_slot, low)) (omega (arith, at_slot, high)))

    does : each_of did (of_action (suc k) (entries_to run phase)) ≡ asked_of (run.counted (suc k)) (asked_at run.setting run.change run.labels (suc k))
    does =
        early_did phase (places run.blocks) kept.rules.joint.ordered.numbers (suc k) (omega arith) u.within (all_said run.blocks kept.rules.shaped)
        ∙ kept.rules.done (suc k) (omega arith)

  -- a put of a session that has quit: what its quit released there is at or above it
  pub record IsReleased (row version action : ℕ) : Type 0 where
    pub place : Placed
    pub at : ℕ
    pub among : IsAmong place (entries_to run phase)
    pub entry : place.entry ≡ says.Free row at
    pub action_is : place.context.action ≡ action
    pub above : version ≤ at

  pub released : (p : Placed) → IsAmong p (entries_to run phase) → (slot row version action k : ℕ) → p.entry ≡ says.Ring row version → p.context.slot ≡ Some slot → 8450 + 56 * slot ≤ row → row < 8450 + 56 * slot + 56
      → IsTold p.session (rooms_at run.setting run.change run.labels) (entries_to run phase) action p.context → quit_in (entries_to run phase) p.session ≡ Some (suc k) → IsReleased row version (suc k)
  released p m slot row version action k e slotted low high t q = record { place = f.place; at = f.version; among = f.among; entry = f.entry; action_is = f.action_is; above = above } where
    session : ℕ
    session = p.session

    u : IsQuit p.session action k
    u = quit_is p.session action slot k p.context slotted t q

    f : IsFreeing row (suc k) (entries_to run phase)
    f = quit_freeing p.session action slot k row (tenant_at p.session slot action p.context slotted t) q u low high

    x : Placed
    x = u.place.place

    says_it : action_change x.entry ≡ change_at 0 (suc k) ∷ []
    says_it = ap action_change u.place.entry

    s : IsSplit x (entries_to run phase)
    s = split_at x (entries_to run phase) u.place.among

    self : (n : ℕ) → (n == n) ≡ true
    self n = grind arith

    -- the release is of the session that quits
    freer : f.place.session ≡ p.session
    freer = on (place_among (HasNumber (places run.blocks)) f.place (entries_to run phase) f.among (run_said run kept orderly phase)) where
      on : HasNumber (places run.blocks) f.place → f.place.session ≡ p.session
      on (inl n) = absurd (let z : true ≡ false = sym (ap is_acted f.entry) ∙ n.1 in cc)
      on (inr said) =
          let y : IsSayer f.place.session (suc k) (places run.blocks) = sayer_is f.place.session f.place.phase (suc k) (places run.blocks) (subst (λ n. IsSaid (places run.blocks) f.place.session f.place.phase n) f.action_is said) in
          let l : (line : ℕ) × (slice_get run.labels k ≡ Some (record { session = y.place.session; line = line })) = label_of y.place k y.among y.says in
          let e : record { session = y.place.session; line = l.0 } ≡ u.label = label_same (slice_get run.labels k) (record { session = y.place.session; line = l.0 }) u.label l.1 u.at in
          sym y.session_is ∙ (ap (λ (z : Label). z.session) e ∙ u.of_session)

    behind : Each (λ (z : Placed). (z.session == p.session) ≡ true → z.context.action ≡ suc k) s.after
    behind = after_quit p.session (suc k) s.after x.session (noted (subject_of x.line) x.context x.entry) (x ∷ onto [] s.before) (suc k) (given_by quits_at p.session (onto [] s.before))
        (near_split 0 fresh x s.before s.after (subst (Near 0 fresh) s.all (run_near run kept orderly phase 0 fresh)))
        (last_split [] s.before (x ∷ s.after) (subst (AreLastBehind []) s.all (run_acting run kept orderly phase).last)).1
        (quits_onto p.session x (suc k) (onto [] s.before) u.place.own (ap (quits_at x) u.place.entry ∙ ap (λ b. cond b (suc k ∷ []) []) u.place.line))
        (λ q. ap (λ z. (noted (subject_of x.line) x.context z).action) u.place.entry)

    earlier : Each (λ (z : Placed). (z.session == p.session) ≡ true → z.context.action ≡ suc k → ⊥) s.before
    earlier = before_said p.session (suc k) fresh s.before (omega arith) (follow_front p.session fresh s.before (x ∷ s.after) (subst (Follow p.session fresh) s.all (run_follow run kept orderly phase p.session)))
        (λ e. (let z : 0 ≡ suc k = e in omega (arith, z)))
        (none_before (suc k) x s.before s.after says_it (subst (λ qs. times (is_that (change_at 0 (suc k))) (each_of action_change qs) ≤ 1) s.all (chain_one (each_of action_change (entries_to run phase)) (kept.rules.joint.ordered.numbers phase) (change_at 0 (suc k)))))

    put_before : IsAmong p s.before
    put_before = on (among_around p x s.before s.after (subst (IsAmong p) s.all m)) where
      on : IsAmong p s.before ⊎ ((x ≡ p) ⊎ IsAmong p s.after) → IsAmong p s.before
      on (inl m) = m
      on (inr (inl z)) = absurd (let w : says.Act (suc k) ≡ says.Ring row version = sym u.place.entry ∙ (ap (λ (z : Placed). z.entry) z ∙ e) in cc)
      on (inr (inr n)) =
          absurd (let z : p.context.action ≡ suc k = place_among (λ (z : Placed). (z.session == p.session) ≡ true → z.context.action ≡ suc k) p s.after n behind (self p.session) in
          let w : p.context.action ≡ 0 = place_among IsIdle p (entries_to run phase) m (idles run kept orderly phase) (ap is_ring e) in
          omega (arith, z, w))

    freed_behind : IsAmong f.place s.after
    freed_behind = on (among_around f.place x s.before s.after (subst (IsAmong f.place) s.all f.among)) where
      on : IsAmong f.place s.before ⊎ ((x ≡ f.place) ⊎ IsAmong f.place s.after) → IsAmong f.place s.after
      on (inl m) = absurd (place_among (λ (z : Placed). (z.session == p.session) ≡ true → z.context.action ≡ suc k → ⊥) f.place s.before m earlier (subst (λ n. (n == p.session) ≡ true) (sym freer) (self p.session)) f.action_is)
      on (inr (inl z)) = absurd (let w : says.Act (suc k) ≡ says.Free row f.version = sym u.place.entry ∙ (ap (λ (z : Placed). z.entry) z ∙ f.entry) in cc)
      on (inr (inr m)) = m

    above : version ≤ f.version
    above = freed_above (places run.blocks) (onto [] s.before) (x ∷ s.after) p f.place row version f.version
        (floored_split (places run.blocks) [] s.before (x ∷ s.after) (subst (AreFlooredBehind (places run.blocks) []) s.all (floors run kept orderly phase)))
        (onto_among p [] s.before (inl put_before)) (inr freed_behind) (sym freer) e f.entry

  -- a put of a session that connected behind it is above that
  pub above_released : (g : Placed) → IsAmong g (entries_to run phase) → (row version was action number : ℕ) → g.entry ≡ says.Ring row version
      → IsTold g.session (rooms_at run.setting run.change run.labels) (entries_to run phase) action g.context → 0 < number → number ≤ action → (r : IsReleased row was number) → r.at < version
  above_released g m row version was action number e t l h r =
      below_among row version r.at (each_of release_of (by_actions g.context.done (places run.blocks))) clear
      (release_among row r.at r.place (by_actions g.context.done (places run.blocks))
      (by_among g.context.done r.place (places run.blocks) ((run_acting run kept orderly phase).sub r.place r.among) (subst (λ n. 0 < n) (sym r.action_is) l) (let d : action ≤ g.context.done = done t.begun in let a : r.place.context.action ≡ number = r.action_is in omega (arith, a, h, d)))
      r.entry) where
        idle : g.context.action ≡ 0
        idle = place_among IsIdle g (entries_to run phase) m (idles run kept orderly phase) (ap is_ring e)

        done : ((g.context.action ≡ 0) × (action ≤ g.context.done)) ⊎ (action ≤ g.context.action) → action ≤ g.context.done
        done (inl b) = b.1
        done (inr b) = absurd (let z : g.context.action ≡ 0 = idle in let p : 1 ≤ action = t.positive in omega (arith, b, z, p))

        clear : AllBelow row version (each_of release_of (by_actions g.context.done (places run.blocks)))
        clear = subst (IsClear (places run.blocks) g) e (place_among (λ (p : Placed). IsClear (places run.blocks) p p.entry) g (entries_to run phase) m (all_clear (places run.blocks) [] (entries_to run phase) (floors run kept orderly phase)))
