-- Behind its connect a session stands at the slot that the connect printed, with the places printed there.
use Rattle.std.proofs.Common.{◌≡◌, refl, ℕ, zero, suc, ◌-◌, ◌<◌, ◌≤◌, List, [], ◌∷◌, length, take, Option, Some, None, sym, ap, subst, ◌∙◌, arith}
use Rattle.std.specs.Prelude.{slice_get, unwrap_or}
use Rattle.pfs_admin.specs.ConnectionAsks.{placed_of}
use Rattle.pfs_admin.specs.Fold.{state_of}
use Rattle.pfs_admin.specs.declared.changes.Change.{Change}
use Rattle.pfs_admin.specs.declared.changes.Change.TheVariants as changes
use Rattle.pfs_law_session.specs.Demands.{rooms_of}
use Rattle.pfs_board.specs.declared.view.Label.{Label}
use Rattle.pfs_classes.specs.declared.setting.Setting.{Setting}
use Rattle.pfs_conservation.specs.AdministrationFold.{Action, numbered, line_of, state_after, lowest_free, next_place, session_by, session_of, connect_line, Found, found_where, is_account}
use Rattle.pfs_conservation.specs.PlaceFolds.{State, Session, Line, Connects, Quits, Truncates, FreesAccounts, FreesUsers, FreesHosts, Others, entry_at, fill_at, emptied_at, Entry}
use Rattle.pfs_conservation.specs.PlaceFolds.{stepped as then_places}
use Rattle.pfs_conservation.specs.CellHolders.{all_free, opened_by}
use Rattle.pfs_containers.specs.Administration.{Containers}
use Rattle.pfs_containers.specs.ContainerState.{seat_by}
use Rattle.pfs_model.specs.ActionAsks.{Rooms}
use Rattle.pfs_runs.specs.Labels.{rooms_for, rooms_of_label, label_at, rooms_at}
use Rattle.pfs_law_conservation.specs.RunActions.{actions_of, action_for}
use Rattle.pfs_law_conservation.specs.KindRows.{limits_of}
use Rattle.pfs_law_conservation.proofs.PlaceFolds.{fold_places, numbered_at, front_get, front_front, front_length}

-- the lowest free place is free, and one of the places
pub free_there : {X : Type 0} (xs : List (Option X)) (n : ℕ) → lowest_free xs ≡ Some n → (entry_at xs n ≡ None) × (n < length xs)
free_there [] n q = absurd (cc)
free_there (None ∷ xs) zero q = (refl, omega arith)
free_there (None ∷ xs) (suc n) q = absurd (let e : zero ≡ suc n = cc in omega (arith, e))
free_there {X = X} (Some x ∷ xs) n q = on (lowest_free xs) refl q (free_there xs) where
  on : (o : Option ℕ) → lowest_free xs ≡ o → next_place o ≡ Some n → ((m : ℕ) → lowest_free xs ≡ Some m → (entry_at xs m ≡ None) × (m < length xs)) → (entry_at (Some x ∷ xs) n ≡ None) × (n < length (Some x ∷ xs))
  on None e q go = absurd (cc)
  on (Some m) e q go =
      let s : suc m ≡ n = cc in
      subst (λ k. (entry_at (Some x ∷ xs) k ≡ None) × (k < length (Some x ∷ xs))) s ((go m e).0, (let l : m < length xs = (go m e).1 in omega (arith, l)))

filled_there : {X : Type 0} (n : ℕ) (new : X) (xs : List (Option X)) → entry_at xs n ≡ None → n < length xs → entry_at (fill_at n new xs) n ≡ Some new
filled_there n new [] e l = absurd (omega (arith, l))
filled_there {X = X} zero new (x ∷ xs) e l = ap (λ (o : Option X). Some (unwrap_or o new)) e
filled_there (suc n) new (x ∷ xs) e l = filled_there n new xs e (omega (arith, l))

-- as many slots as at first
filled_length : {X : Type 0} (n : ℕ) (new : X) (xs : List (Option X)) → length (fill_at n new xs) ≡ length xs
filled_length n new [] = refl
filled_length zero new (x ∷ xs) = omega arith
filled_length (suc n) new (x ∷ xs) = (let e : length (fill_at n new xs) ≡ length xs = filled_length n new xs in omega (arith, e))

emptied_length : {X : Type 0} (n : ℕ) (xs : List (Option X)) → length (emptied_at n xs) ≡ length xs
emptied_length n [] = refl
emptied_length zero (x ∷ xs) = omega arith
emptied_length (suc n) (x ∷ xs) = (let e : length (emptied_at n xs) ≡ length xs = emptied_length n xs in omega (arith, e))

step_slots : (s : State) (line : Line) → length (then_places s line).threads ≡ length s.threads
step_slots s (Connects slot x) = filled_length slot x s.threads
step_slots s (Quits slot) = emptied_length slot s.threads
step_slots s FreesAccounts = refl
step_slots s FreesUsers = refl
step_slots s FreesHosts = refl
step_slots s (Truncates level) = refl
step_slots s Others = refl

pub slots_stay : (opening : State) (action : ℕ → Action) (n : ℕ) → length (state_after opening action n).threads ≡ length opening.threads
slots_stay opening action zero = refl
slots_stay opening action (suc n) = step_slots (state_after opening action n) (line_of 0 (state_after opening action n) (action (suc n))) ∙ slots_stay opening action n

free_length : (X : Type 0) (n : ℕ) → length (all_free {X = X} n) ≡ n
free_length X zero = refl
free_length X (suc n) = (let e : length (all_free {X = X} n) ≡ n = free_length X n in omega (arith, e))

label_within : (labels : List Label) (k : ℕ) (label : Label) → slice_get labels k ≡ Some label → k < length labels
label_within [] k label q = absurd (cc)
label_within (x ∷ xs) zero label q = omega arith
label_within (x ∷ xs) (suc k) label q = (let l : k < length xs = label_within xs k label q in omega (arith, l))

suc_less : (k : ℕ) → suc k - 1 ≡ k
suc_less k = omega arith

-- where a connect finds room
seat_slot : (c : Containers) (number user host slot : ℕ) (o : Option ℕ) → (rooms_of (placed_of (seat_by c number user host o))).thread ≡ Some slot → o ≡ Some slot
seat_slot c number user host slot None q = absurd (cc)
seat_slot c number user host slot (Some other) q = q

module _ (setting : Setting) (change : Label → Change) (labels : List Label) where
  -- a slot that a connect prints is one of the slots
  for_change : (k : ℕ) (label : Label) (what : Change) (slot : ℕ) → k < length labels → (rooms_for (state_of setting change (take k labels)) label.session what).thread ≡ Some slot → slot < length (opened_by (limits_of setting)).threads
  for_change k label (changes.Connect user host) slot l q =
      let f : lowest_free (state_of setting change (take k labels)).kept.now.places.threads ≡ Some slot = seat_slot (state_of setting change (take k labels)).kept.now label.session user host slot (lowest_free (state_of setting change (take k labels)).kept.now.places.threads) q in
      let t : slot < length (state_of setting change (take k labels)).kept.now.places.threads = (free_there (state_of setting change (take k labels)).kept.now.places.threads slot f).1 in
      let p : length (state_of setting change (take k labels)).kept.now.places.threads ≡ length (state_after (opened_by (limits_of setting)) (numbered (actions_of change labels)) k).threads
      = ap (λ (s : State). length s.threads) (fold_places setting change labels k (omega (arith, l))) in
      let s : length (state_after (opened_by (limits_of setting)) (numbered (actions_of change labels)) k).threads ≡ length (opened_by (limits_of setting)).threads = slots_stay (opened_by (limits_of setting)) (numbered (actions_of change labels)) k in
      omega (arith, t, p, s)
  for_change k label changes.Quit slot l q = absurd (cc)
  for_change k label (changes.Truncate what) slot l q = absurd (cc)
  for_change k label (changes.Setup what) slot l q = absurd (cc)

  pub slot_low : (number slot : ℕ) → (rooms_at setting change labels number).thread ≡ Some slot → slot < setting.limits.thread_instances
  slot_low zero slot q = absurd (cc)
  slot_low (suc k) slot q = on (slice_get labels k) refl q where
    on : (o : Option Label) → slice_get labels k ≡ o → (rooms_of_label change (state_of setting change (take (suc k - 1) labels)) o).thread ≡ Some slot → slot < setting.limits.thread_instances
    on None e q = absurd (cc)
    on (Some label) e q =
        let l : slot < length (opened_by (limits_of setting)).threads = for_change k label (change label) slot (label_within labels k label e) (subst (λ n. (rooms_for (state_of setting change (take n labels)) label.session (change label)).thread ≡ Some slot) (suc_less k) q) in
        let f : length (opened_by (limits_of setting)).threads ≡ setting.limits.thread_instances = free_length Session setting.limits.thread_instances in
        omega (arith, l, f)

  -- a session that connects with names
  abbrev pub session_in : ℕ → ℕ → ℕ → Rooms → Session
  session_in number user host rooms = record {
    number = number;
    user_name = user;
    host_name = host;
    account = rooms.account;
    user = rooms.user;
    host = rooms.host;
  }

  seated_is : (c : Containers) (number user host slot : ℕ) (o : Option ℕ) → o ≡ Some slot → session_of c.places number user host ≡ session_in number user host (rooms_of (placed_of (seat_by c number user host o)))
  seated_is c number user host slot None q = absurd (cc)
  seated_is c number user host slot (Some other) q = by (found_where (is_account user host) c.places.accounts) where
    by : (f : Option (Found Entry)) → session_by c.places number user host f ≡ record {
      number = number;
      user_name = user;
      host_name = host;
      account = (session_by c.places number user host f).account;
      user = (session_by c.places number user host f).user;
      host = (session_by c.places number user host f).host;
    }
    by (Some account) = refl
    by None = refl

  connect_step : (s : State) (number user host slot : ℕ) (o : Option ℕ) → lowest_free s.threads ≡ o → o ≡ Some slot → entry_at (then_places s (connect_line s number user host o)).threads slot ≡ Some (session_of s number user host)
  connect_step s number user host slot None f q = absurd (cc)
  connect_step s number user host slot (Some other) f q =
      let e : other ≡ slot = cc in
      let t : (entry_at s.threads slot ≡ None) × (slot < length s.threads) = free_there s.threads slot (f ∙ q) in
      subst (λ n. entry_at (fill_at n (session_of s number user host) s.threads) slot ≡ Some (session_of s number user host)) (sym e) (filled_there slot (session_of s number user host) s.threads t.0 t.1)

  connected_there : (m k : ℕ) (label : Label) (user host slot : ℕ) → k < m → m ≤ length labels → slice_get labels k ≡ Some label → change label ≡ changes.Connect user host
      → (rooms : Rooms) → rooms_for (state_of setting change (take k labels)) label.session (changes.Connect user host) ≡ rooms → rooms.thread ≡ Some slot
      → entry_at (state_after (opened_by (limits_of setting)) (numbered (actions_of change (take m labels))) (suc k)).threads slot ≡ Some (session_in label.session user host rooms)
  connected_there m k label user host slot l w e f rooms r t =
      ap (λ (a : Action). entry_at (then_places Q (line_of 0 Q a)).threads slot) (numbered_at change (take m labels) k label (front_get labels m k l ∙ e) ∙ ap (action_for label.session) f)
      ∙ (connect_step Q label.session user host slot (lowest_free Q.threads) refl free
      ∙ ap (λ z. Some z) (ap (λ (s : State). session_of s label.session user host) (sym places) ∙ (seated_is S label.session user host slot (lowest_free S.places.threads) there ∙ ap (session_in label.session user host) r))) where
        S : Containers
        S = (state_of setting change (take k labels)).kept.now

        Q : State
        Q = state_after (opened_by (limits_of setting)) (numbered (actions_of change (take m labels))) k

        places : S.places ≡ Q
        places =
            let n : length (take m labels) ≡ m = front_length labels m w in
            sym (ap (λ ls. (state_of setting change ls).kept.now.places) (front_front labels m k (omega (arith, l)))) ∙ fold_places setting change (take m labels) k (omega (arith, l, n))

        there : lowest_free S.places.threads ≡ Some slot
        there = seat_slot S label.session user host slot (lowest_free S.places.threads) (ap (λ (z : Rooms). z.thread) r ∙ t)

        free : lowest_free Q.threads ≡ Some slot
        free = ap (λ (s : State). lowest_free s.threads) (sym places) ∙ there

  -- behind the action of a label that prints a slot
  pub record IsSeated (m number slot : ℕ) (rooms : Rooms) (label : Label) : Type 0 where
    pub user : ℕ
    pub host : ℕ
    pub connects : change label ≡ changes.Connect user host
    pub stands : entry_at (state_after (opened_by (limits_of setting)) (numbered (actions_of change (take m labels))) number).threads slot ≡ Some (session_in label.session user host rooms)

  pub seated_there : (m number : ℕ) (label : Label) (slot : ℕ) (rooms : Rooms) → number ≤ m → m ≤ length labels → label_at labels number ≡ Some label → rooms_at setting change labels number ≡ rooms → rooms.thread ≡ Some slot
      → IsSeated m number slot rooms label
  seated_there m zero label slot rooms l w e r t = absurd (cc)
  seated_there m (suc k) label slot rooms l w e r t = by (change label) refl (sym (ap (rooms_of_label change (state_of setting change (take k labels))) e) ∙ (sym (ap (λ n. rooms_of_label change (state_of setting change (take n labels)) (slice_get labels k)) (suc_less k)) ∙ r)) where
    by : (what : Change) → change label ≡ what → rooms_for (state_of setting change (take k labels)) label.session (change label) ≡ rooms → IsSeated m (suc k) slot rooms label
    by (changes.Connect user host) q r = record {
      user = user;
      host = host;
      connects = q;
      stands = connected_there m k label user host slot (omega (arith, l)) w e q rooms (sym (ap (rooms_for (state_of setting change (take k labels)) label.session) q) ∙ r) t;
    }
    by changes.Quit q r = absurd (let z : None ≡ Some slot = ap (λ (z : Rooms). z.thread) (sym (ap (rooms_for (state_of setting change (take k labels)) label.session) q) ∙ r) ∙ t in cc)
    by (changes.Truncate what) q r = absurd (let z : None ≡ Some slot = ap (λ (z : Rooms). z.thread) (sym (ap (rooms_for (state_of setting change (take k labels)) label.session) q) ∙ r) ∙ t in cc)
    by (changes.Setup what) q r = absurd (let z : None ≡ Some slot = ap (λ (z : Rooms). z.thread) (sym (ap (rooms_for (state_of setting change (take k labels)) label.session) q) ∙ r) ∙ t in cc)
