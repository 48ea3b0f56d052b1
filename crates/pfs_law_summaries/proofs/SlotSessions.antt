-- Whoever stands at a slot is the session whose connect printed it.
use Rattle.std.proofs.Common.{◌⊎◌, inl, inr, ◌≡◌, ℕ, zero, suc, ◌-◌, ◌<◌, ◌≤◌, ◌==◌, Bool, true, false, cond, List, [], ◌∷◌, ◌++◌, length, take, Option, Some, None, refl, sym, ap, subst, ◌∙◌, arith}
use Rattle.pfs_admin.specs.ConnectionAsks.{placed_of}
use Rattle.pfs_admin.specs.Fold.{state_of}
use Rattle.pfs_admin.specs.declared.changes.Change.{Change}
use Rattle.pfs_admin.specs.declared.changes.Change.TheVariants as changes
use Rattle.pfs_law_session.specs.Demands.{rooms_of}
use Rattle.pfs_board.specs.declared.view.Label.{Label}
use Rattle.pfs_conservation.proofs.Connects.{fill_was}
use Rattle.pfs_conservation.specs.AdministrationFold.{Action, Connect, Quit, Truncate, Other, Summary, Accounts, Users, Hosts, Found, connect_line, quit_line, found_where, line_of, lowest_free, numbered, session_by, session_of, state_after, is_account}
use Rattle.pfs_conservation.specs.PlaceFolds.{Entry as Account, Session, State, Truncates, Others, emptied_at, entry_at, stepped}
use Rattle.pfs_conservation.specs.CellHolders.{opened_by}
use Rattle.pfs_containers.specs.Administration.{Containers}
use Rattle.pfs_containers.specs.ContainerState.{seat_by}
use Rattle.pfs_containers.specs.declared.containers.Connection.{Connection}
use Rattle.pfs_event.specs.declared.entry.Entry.{Entry}
use Rattle.pfs_event.specs.declared.entry.Entry.TheVariants as says
use Rattle.pfs_model.specs.Actions.{IsAmong}
use Rattle.pfs_model.specs.ActionAsks.{Rooms, Answer, IsAnswered, AreAnswered}
use Rattle.pfs_model.specs.Chains.{Each, change_at, action_change, each_of}
use Rattle.pfs_model.specs.Contexts.{Context, fresh, subject_of, noted}
use Rattle.pfs_model.specs.EntryPlaces.{Block, Placed, by_session, places, told_by}
use Rattle.pfs_model.specs.declared.changes.Change.{Change as Numbered}
use Rattle.pfs_model.specs.declared.lines.Line.{Line}
use Rattle.pfs_model.specs.declared.lines.Line.TheVariants as lines
use Rattle.pfs_model.specs.declared.lines.Subject.{Subject}
use Rattle.pfs_runs.specs.Labels.{answers_at, label_at, rooms_at, rooms_for, rooms_of_label}
use Rattle.pfs_runs.specs.Rules.{slot_in}
use Rattle.pfs_law_conservation.proofs.ConnectLines.{IsApart, is_act, is_connecting, all_apart}
use Rattle.pfs_law_conservation.proofs.AdditionFloors.{place_among}
use Rattle.pfs_law_conservation.proofs.SingleQuits.{AreActing, IsActed, acted_of}
use Rattle.pfs_law_conservation.proofs.RunEntries.{run_acting}
use Rattle.pfs_law_conservation.proofs.EntryWalk.{Comes, Follow, then_told, told_to, all_followed}
use Rattle.pfs_law_conservation.proofs.PlaceFolds.{truncation_connects, fold_places, front_front, front_length, length_as}
use Rattle.pfs_law_conservation.proofs.LastSlots.{lasting}
use Rattle.pfs_law_conservation.specs.RunActions.{action_for, places_behind}
use Rattle.pfs_law_conservation.specs.KindRows.{limits_of}
use Rattle.pfs_law_conservation.specs.Premises.{AreKept, IsOrderly, IsChangeOf, IsLabelOf, IsActionOf, AreFirstBehind}
use Rattle.pfs_law_conservation.specs.RunTerms.{Run, actions_to, entries_to}
use Rattle.pfs_law_summaries.proofs.SummaryPlaces.{none_stands}

-- ---- who stands at a slot was put there by a connect

pub record IsConnected (opening : State) (action : ℕ → Action) (n slot : ℕ) (x : Connection) : Type 0 where
  pub before : ℕ
  pub low : before < n
  pub user : ℕ
  pub host : ℕ
  pub connects : action (suc before) ≡ Connect x.number user host
  pub free : lowest_free (state_after opening action before).threads ≡ Some slot

emptied_was : {X : Type 0} (place : ℕ) (xs : List (Option X)) (t : ℕ) (x : X) → entry_at (emptied_at place xs) t ≡ Some x → entry_at xs t ≡ Some x
emptied_was place [] t x h = h
emptied_was zero (o ∷ xs) zero x h = absurd (cc)
emptied_was zero (o ∷ xs) (suc t) x h = h
emptied_was (suc place) (o ∷ xs) zero x h = h
emptied_was (suc place) (o ∷ xs) (suc t) x h = emptied_was place xs t x h

number_of : (s : State) (number user host : ℕ) (o : Option (Found Account)) → (session_by s number user host o).number ≡ number
number_of s number user host None = refl
number_of s number user host (Some account) = refl

connected : (opening : State) → ((i : ℕ) (x : Connection) → entry_at opening.threads i ≡ Some x → ⊥) → (action : ℕ → Action) (n slot : ℕ) (x : Connection) → entry_at (state_after opening action n).threads slot ≡ Some x → IsConnected opening action n slot x
connected opening none action zero slot x h = absurd (none slot x h)
connected opening none action (suc n) slot x h = by (action (suc n)) refl h (λ g. connected opening none action n slot x g) where
  s : State
  s = state_after opening action n

  later : IsConnected opening action n slot x → IsConnected opening action (suc n) slot x
  later c = record {
    before = c.before;
    low = let l : c.before < n = c.low in omega (arith, l);
    user = c.user;
    host = c.host;
    connects = c.connects;
    free = c.free;
  }

  by : (a : Action) → action (suc n) ≡ a → entry_at (stepped (state_after opening action n) (line_of 0 (state_after opening action n) (action (suc n)))).threads slot ≡ Some x
      → (entry_at (state_after opening action n).threads slot ≡ Some x → IsConnected opening action n slot x) → IsConnected opening action (suc n) slot x
  by (Connect number user host) q h old = at (lowest_free (state_after opening action n).threads) refl (ap (λ a. entry_at (stepped (state_after opening action n) (line_of 0 (state_after opening action n) a)).threads slot) (sym q) ∙ h) where
    at : (o : Option ℕ) → lowest_free (state_after opening action n).threads ≡ o → entry_at (stepped (state_after opening action n) (connect_line (state_after opening action n) number user host o)).threads slot ≡ Some x → IsConnected opening action (suc n) slot x
    at None f g = later (old g)
    at (Some there) f g = on (fill_was (Some there) (session_of (state_after opening action n) number user host) (state_after opening action n).threads slot x g) where
      on : (entry_at (state_after opening action n).threads slot ≡ Some x) ⊎ ((◌≡◌ {A = Option ℕ} (Some there) (Some slot)) × (x ≡ session_of (state_after opening action n) number user host)) → IsConnected opening action (suc n) slot x
      on (inl e) = later (old e)
      on (inr e) =
          let m : x.number ≡ number = ap (λ (z : Connection). z.number) e.1 ∙ number_of (state_after opening action n) number user host (found_where (is_account user host) (state_after opening action n).accounts) in
          record {
            before = n;
            low = omega arith;
            user = user;
            host = host;
            connects = q ∙ ap (λ k. Connect k user host) (sym m);
            free = f ∙ e.0;
          }
  by (Quit number) q h old = at (found_where (λ (y : Connection). y.number == number) (state_after opening action n).threads) (ap (λ a. entry_at (stepped (state_after opening action n) (line_of 0 (state_after opening action n) a)).threads slot) (sym q) ∙ h) where
    at : (o : Option (Found Session)) → entry_at (stepped (state_after opening action n) (quit_line o)).threads slot ≡ Some x → IsConnected opening action (suc n) slot x
    at None g = later (old g)
    at (Some f) g = later (old (emptied_was f.place (state_after opening action n).threads slot x g))
  by (Truncate (Summary number level)) q h old = at (number == 0) (ap (λ a. entry_at (stepped (state_after opening action n) (line_of 0 (state_after opening action n) a)).threads slot) (sym q) ∙ h) where
    at : (b : Bool) → entry_at (stepped (state_after opening action n) (cond b (Truncates level) Others)).threads slot ≡ Some x → IsConnected opening action (suc n) slot x
    at true g = later (old g)
    at false g = later (old g)
  by (Truncate Accounts) q h old = later (old (ap (λ a. entry_at (stepped (state_after opening action n) (line_of 0 (state_after opening action n) a)).threads slot) (sym q) ∙ h))
  by (Truncate Users) q h old = later (old (ap (λ a. entry_at (stepped (state_after opening action n) (line_of 0 (state_after opening action n) a)).threads slot) (sym q) ∙ h))
  by (Truncate Hosts) q h old = later (old (ap (λ a. entry_at (stepped (state_after opening action n) (line_of 0 (state_after opening action n) a)).threads slot) (sym q) ∙ h))
  by Other q h old = later (old (ap (λ a. entry_at (stepped (state_after opening action n) (line_of 0 (state_after opening action n) a)).threads slot) (sym q) ∙ h))

-- ---- what a session's slot is at the end is what its connect printed

abbrev Prints : Option ℕ → Entry → Type 0
Prints slot (says.Connect action thread account user host) = slot ≡ thread
Prints slot entry = Unit {0}

module _ (session : ℕ) where
  told_walk : (c : Context) (earlier ps : List Placed) → Follow session c ps → AreFirstBehind earlier ps → Each (λ (p : Placed). (p.session == session) ≡ true → Prints (told_to session c ps).slot p.entry) ps
  told_walk c earlier [] f a = tt
  told_walk c earlier (p ∷ ps) f a = (head, told_walk (then_told session c p) (p ∷ earlier) ps f.1 a.1) where
    longer : (p.session == session) ≡ true → 1 ≤ length (by_session session (p ∷ earlier))
    longer q =
        let e : by_session session (p ∷ earlier) ≡ p ∷ by_session session earlier = ap (λ z. cond z (p ∷ []) [] ++ by_session session earlier) q in
        let l : length (by_session session (p ∷ earlier)) ≡ suc (length (by_session session earlier)) = ap (λ (xs : List Placed). length xs) e in
        omega (arith, l)

    head : (p.session == session) ≡ true → Prints (told_to session (then_told session c p) ps).slot p.entry
    head q = by p.entry refl where
      still : (told_to session (then_told session c p) ps).slot ≡ (then_told session c p).slot
      still = (lasting session (then_told session c p) (p ∷ earlier) ps f.1 a.1 (λ slot e. longer q)).still (longer q)

      by : (e : Entry) → p.entry ≡ e → Prints (told_to session (then_told session c p) ps).slot e
      by (says.Connect action thread account user host) w =
          still
          ∙ (ap (λ b. (cond b (noted (subject_of p.line) p.context p.entry) c).slot) q
          ∙ (ap (λ x. (noted (subject_of p.line) p.context x).slot) w ∙ printed (subject_of p.line))) where
            printed : (s : Option Subject) → (noted s p.context (says.Connect action thread account user host)).slot ≡ thread
            printed s = refl
      by _ w = tt

slot_printed : (blocks : List Block) → AreFirstBehind [] (places blocks) → (session : ℕ) → Each (λ (p : Placed). (p.session == session) ≡ true → Prints (slot_in blocks session) p.entry) (places blocks)
slot_printed blocks a session =
    subst (λ (o : Option ℕ). Each (λ (p : Placed). (p.session == session) ≡ true → Prints o p.entry) (places blocks)) (sym ends) (told_walk session fresh [] (places blocks) (all_followed session blocks).follow a) where
      comes_slot : (c d : Context) → Comes c d → d.slot ≡ c.slot
      comes_slot c d (inl e) = ap (λ (z : Context). z.slot) e
      comes_slot c d (inr e) = ap (λ (z : Context). z.slot) e

      ends : slot_in blocks session ≡ (told_to session fresh (places blocks)).slot
      ends = comes_slot (told_to session fresh (places blocks)) (told_by session fresh blocks) (all_followed session blocks).ends

pub each_answered : (rooms : ℕ → Rooms) (answers : ℕ → Answer) (ps : List Placed) → AreAnswered rooms answers ps → Each (λ (p : Placed). IsAnswered rooms answers p p.entry) ps
each_answered rooms answers [] h = tt
each_answered rooms answers (p ∷ ps) h = (h.0, each_answered rooms answers ps h.1)

-- the room of a connect that found a slot
room_is : (c : Containers) (number user host slot : ℕ) (o : Option ℕ) → o ≡ Some slot → (rooms_of (placed_of (seat_by c number user host o))).thread ≡ Some slot
room_is c number user host slot None q = absurd (cc)
room_is c number user host slot (Some other) q = q

pub action_names : (session number user host : ℕ) (what : Change) → action_for session what ≡ Connect number user host → (session ≡ number) × (what ≡ changes.Connect user host)
action_names session number user host (changes.Connect u h) e = (cc, (let a : u ≡ user = cc in let b : h ≡ host = cc in cc))
action_names session number user host changes.Quit e = absurd (cc)
action_names session number user host (changes.Truncate what) e = absurd (truncation_connects what number user host e)
action_names session number user host (changes.Setup what) e = absurd (cc)

pub connects_line : (line : Line) (user host : ℕ) → IsChangeOf line (changes.Connect user host) → is_connecting line ≡ true
connects_line lines.Connect user host h = refl
connects_line lines.Quit user host h = absurd h
connects_line _ user host h = absurd h

pub seated : (run : Run) (phase : ℕ) → AreKept run → IsOrderly run → (slot : ℕ) (x : Connection) → entry_at (places_behind run.setting (actions_to run phase)).threads slot ≡ Some x → slot_in run.blocks x.number ≡ Some slot
seated run phase kept orderly slot x h = on (connected (opened_by (limits_of run.setting)) (none_stands run.setting.limits.thread_instances) (numbered (actions_to run phase)) (length (actions_to run phase)) slot x h) where
  acting : AreActing run.change run.labels (places run.blocks) (entries_to run phase)
  acting = run_acting run kept orderly phase

  many : ℕ
  many = length (each_of action_change (entries_to run phase))

  on : IsConnected (opened_by (limits_of run.setting)) (numbered (actions_to run phase)) (length (actions_to run phase)) slot x → slot_in run.blocks x.number ≡ Some slot
  on c = told (acted_of run.change run.labels (places run.blocks) (entries_to run phase) acting (suc c.before) (Connect x.number c.user c.host) c.connects (λ e. absurd (cc))) where
    told : (label : Label) × IsActed run.change run.labels (entries_to run phase) (suc c.before) label × (action_for label.session (run.change label) ≡ Connect x.number c.user c.host) → slot_in run.blocks x.number ≡ Some slot
    told (label, acted, e) = by p.entry refl acted.said.says where
      p : Placed
      p = acted.said.place

      names : (label.session ≡ x.number) × (run.change label ≡ changes.Connect c.user c.host)
      names = action_names label.session x.number c.user c.host (run.change label) e

      own : (p.session == x.number) ≡ true
      own = subst (λ n. (n == x.number) ≡ true) (sym (acted.session ∙ names.0)) (self x.number) where
        self : (n : ℕ) → (n == n) ≡ true
        self n = grind arith

      among : IsAmong p (places run.blocks)
      among = acting.sub p acted.said.among

      same : (n : ℕ) → ◌≡◌ {A = List Numbered} (change_at 0 n ∷ []) (change_at 0 (suc c.before) ∷ []) → n ≡ suc c.before
      same n f = let h : change_at 0 n ≡ change_at 0 (suc c.before) = cc in ap (λ (z : Numbered). z.version) h

      fact : IsActionOf run.change run.labels p.line p.entry
      fact = place_among (λ (p : Placed). IsActionOf run.change run.labels p.line p.entry) p (places run.blocks) among orderly.actions

      line_connects : (n : ℕ) → n ≡ suc c.before → IsLabelOf run.change p.line (label_at run.labels n) → is_connecting p.line ≡ true
      line_connects n f h =
          connects_line p.line c.user c.host (subst (IsChangeOf p.line) names.1 (subst (IsLabelOf run.change p.line) (ap (label_at run.labels) f ∙ acted.at) h))

      less : (k : ℕ) → suc k - 1 ≡ k
      less k = omega arith

      -- where the administration found room
      rooms_are : (rooms_at run.setting run.change run.labels (suc c.before)).thread ≡ Some slot
      rooms_are =
          ap (λ n. (rooms_of_label run.change (state_of run.setting run.change (take n run.labels)) (label_at run.labels (suc c.before))).thread) (less c.before)
          ∙ (ap (λ o. (rooms_of_label run.change (state_of run.setting run.change (take c.before run.labels)) o).thread) acted.at
          ∙ (ap (λ w. (rooms_for (state_of run.setting run.change (take c.before run.labels)) label.session w).thread) names.1
          ∙ room_is (state_of run.setting run.change (take c.before run.labels)).kept.now label.session c.user c.host slot (lowest_free (state_of run.setting run.change (take c.before run.labels)).kept.now.places.threads) free)) where
            few : many ≤ length run.labels
            few = acting.few

            length_is : length (actions_to run phase) ≡ many
            length_is = length_as (λ (l : Label). action_for l.session (run.change l)) (take many run.labels) ∙ front_length run.labels many few

            low : c.before < many
            low = let l : c.before < length (actions_to run phase) = c.low in omega (arith, l, length_is)

            places_same : (state_of run.setting run.change (take c.before run.labels)).kept.now.places ≡ state_after (opened_by (limits_of run.setting)) (numbered (actions_to run phase)) c.before
            places_same =
                let n : length (take many run.labels) ≡ many = front_length run.labels many few in
                sym (ap (λ ls. (state_of run.setting run.change ls).kept.now.places) (front_front run.labels many c.before (omega (arith, low)))) ∙ fold_places run.setting run.change (take many run.labels) c.before (omega (arith, low, n))

            free : lowest_free (state_of run.setting run.change (take c.before run.labels)).kept.now.places.threads ≡ Some slot
            free = ap (λ (s : State). lowest_free s.threads) places_same ∙ c.free

      by : (y : Entry) → p.entry ≡ y → action_change y ≡ change_at 0 (suc c.before) ∷ [] → slot_in run.blocks x.number ≡ Some slot
      by (says.Act n) f g =
          let l : is_connecting p.line ≡ true = line_connects n (same n g) (subst (IsActionOf run.change run.labels p.line) f fact) in
          let a : is_act p.entry ≡ false = place_among IsApart p (places run.blocks) among (all_apart run.blocks kept.rules.shaped) l in
          absurd (let z : true ≡ false = sym (ap is_act f) ∙ a in cc)
      by (says.Connect n thread account user host) f g =
          let printed : slot_in run.blocks x.number ≡ thread = subst (Prints (slot_in run.blocks x.number)) f (place_among (λ (p : Placed). (p.session == x.number) ≡ true → Prints (slot_in run.blocks x.number) p.entry) p (places run.blocks) among (slot_printed run.blocks orderly.first x.number) own) in
          let answered : rooms_at run.setting run.change run.labels n ≡ record { thread = thread; account = account; user = user; host = host }
          = subst (IsAnswered (rooms_at run.setting run.change run.labels) (answers_at run.setting run.change run.labels) p) f (place_among (λ (p : Placed). IsAnswered (rooms_at run.setting run.change run.labels) (answers_at run.setting run.change run.labels) p p.entry) p (places run.blocks) among (each_answered (rooms_at run.setting run.change run.labels) (answers_at run.setting run.change run.labels) (places run.blocks) kept.rules.answered)) in
          printed ∙ (sym (ap (λ (r : Rooms). r.thread) answered) ∙ (ap (λ k. (rooms_at run.setting run.change run.labels k).thread) (same n g) ∙ rooms_are))
      by _ f g = absurd (cc)
