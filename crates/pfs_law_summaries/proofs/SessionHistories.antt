-- The places of a history are its session's, where the session is there: of each run.
use Rattle.std.proofs.Common.{◌≡◌, refl, ℕ, zero, suc, ◌+◌, ◌*◌, ◌<◌, ◌≤◌, ◌==◌, ◌&&◌, ◌||◌, Bool, true, false, cond, nat_le, nat_lt, List, [], ◌∷◌, ◌++◌, length, Option, Some, None, sym, ap, subst, ◌∙◌, inl, inr, arith}
use Rattle.std.specs.Prelude.{slice_get, ◌⊎◌}
use Rattle.std.proofs.lemmas.Bool.{leb-true, ltb-true, and_parts, eqb-true}
use Rattle.pfs_lemmas.proofs.Numbers.{eq_self}
use Rattle.pfs_event.specs.declared.entry.Entry.{Entry}
use Rattle.pfs_event.specs.declared.entry.Entry.TheVariants as says
use Rattle.pfs_model.specs.Actions.{IsAmong}
use Rattle.pfs_model.specs.ActionAsks.{IsAnswered, Rooms}
use Rattle.pfs_model.specs.Chains.{Each, action_change, change_at, each_of, is_free_after, is_that, opens_free, release_of, row_change, times}
use Rattle.pfs_model.specs.EntryPlaces.{Placed, by_session, places}
use Rattle.pfs_model.specs.Rings.{history_put, history_puts, is_history_row}
use Rattle.pfs_model.specs.declared.changes.Change.{Change}
use Rattle.pfs_model.proofs.Members.{among_back, among_either}
use Rattle.pfs_runs.specs.Labels.{answers_at, rooms_at, terms_of}
use Rattle.pfs_law_conservation.proofs.AdditionFloors.{place_among}
use Rattle.pfs_law_conservation.proofs.RunEntries.{run_acting, run_own}
use Rattle.pfs_law_conservation.proofs.ConnectSlots.{IsSeated, seated_there, session_in, slot_low}
use Rattle.pfs_law_conservation.proofs.FirstConnects.{IsFirstConnect, IsKnown, IsOwn, IsTold}
use Rattle.pfs_law_conservation.proofs.EventNumbers.{which}
use Rattle.pfs_law_conservation.specs.RunEvents.{connects_at, first_of, given_by, quit_in}
use Rattle.pfs_law_conservation.specs.Premises.{AreKept, IsOrderly}
use Rattle.pfs_law_conservation.specs.RunTerms.{Run, entries_to}
use Rattle.pfs_law_summaries.proofs.RingChanges.{IsPutIn, is_put, put_in, sub}
use Rattle.pfs_law_summaries.proofs.ReleaseVersions.{releases_had}
use Rattle.pfs_law_summaries.proofs.HistoryPlaces.{last_version}
use Rattle.pfs_law_summaries.proofs.LastPuts.{among_times, of_chain}
use Rattle.pfs_law_summaries.proofs.HistoryOwners.{IsBelow, IsOwned, puts_by}
use Rattle.pfs_law_summaries.proofs.OwnHistories.{owned_shown}
use Rattle.pfs_law_summaries.proofs.SlotSessions.{each_answered}
use Rattle.pfs_law_summaries.proofs.SlotTenants.{IsReleased, IsTenant, above_released, label_of, none_quit, quits_before, release_among, released, said_range, tenant_at}
use Rattle.pfs_law_summaries.specs.ThreadHistories.{HistoryLaw, IsThere, slots_at, HasHistories, HistoriesLaw}
use Rattle.pfs_journal.specs.declared.report.PhaseParts.{PhaseParts}
use Rattle.pfs_law_summaries.specs.OrderlyRuns.{run_of, KeptLaw, OrderlyLaw}
use Rattle.pfs_runs.specs.PhaseFinals.{IsFinal}
use Rattle.pfs_runs.specs.ScriptLines.{change_in, facts_in}
use Rattle.pfs_runs.specs.Rules.{flags_by}
use Rattle.pfs_runs.specs.Runs.{all_blocks}
use Rattle.pfs_law_summaries.proofs.RunSummaries.{final_then}

-- the entry of a change
pub record IsChanging (change : Change) (ps : List Placed) : Type 0 where
  pub place : Placed
  pub among : IsAmong place ps
  pub changes : IsAmong change (row_change place.entry)

changing : (change : Change) (ps : List Placed) → IsAmong change (each_of row_change ps) → IsChanging change ps
changing change [] m = absurd m
changing change (p ∷ ps) m = on (among_either change (row_change p.entry) (each_of row_change ps) m) (changing change ps) where
  on : IsAmong change (row_change p.entry) ⊎ IsAmong change (each_of row_change ps) → (IsAmong change (each_of row_change ps) → IsChanging change ps) → IsChanging change (p ∷ ps)
  on (inl a) go = record { place = p; among = inl refl; changes = a }
  on (inr b) go = let r : IsChanging change ps = go b in record { place = r.place; among = inr r.among; changes = r.changes }

-- the entry of a session's put
pub record IsPutting (session slot row version : ℕ) (ps : List Placed) : Type 0 where
  pub place : Placed
  pub among : IsAmong place ps
  pub own : place.session ≡ session
  pub slot_is : place.context.slot ≡ Some slot
  pub entry : place.entry ≡ says.Ring row version

putting : (session slot kind row version : ℕ) (ps : List Placed) → IsAmong (change_at row version) (history_puts slot kind (by_session session ps)) → IsPutting session slot row version ps
putting session slot kind row version [] m = absurd m
putting session slot kind row version (p ∷ ps) m = at (p.session == session) refl m (putting session slot kind row version ps) where
  Rest : Type 0
  Rest = IsAmong (change_at row version) (history_puts slot kind (by_session session ps)) → IsPutting session slot row version ps

  later : IsPutting session slot row version ps → IsPutting session slot row version (p ∷ ps)
  later r = record { place = r.place; among = inr r.among; own = r.own; slot_is = r.slot_is; entry = r.entry }

  ring : (at v : ℕ) → change_at at v ≡ change_at row version → says.Ring at v ≡ says.Ring row version
  ring at v e = ap (λ z. says.Ring z v) (ap (λ (c : Change). c.row) e) ∙ ap (λ z. says.Ring row z) (ap (λ (c : Change). c.version) e)

  here : (p.session == session) ≡ true → (o : Option ℕ) → p.context.slot ≡ o → (e : Entry) → p.entry ≡ e → IsAmong (change_at row version) (history_put slot kind o e) → IsPutting session slot row version (p ∷ ps)
  here q None s e is m = absurd m
  here q (Some own) s (says.Ring at v) is m = on (own == slot) refl (is_history_row slot kind at) m where
    on : (a : Bool) → (own == slot) ≡ a → (b : Bool) → IsAmong (change_at row version) (cond (a && b) (change_at at v ∷ []) []) → IsPutting session slot row version (p ∷ ps)
    on true r true (inl e) = record { place = p; among = inl refl; own = eqb-true p.session session q; slot_is = s ∙ ap (λ z. Some z) (eqb-true own slot r); entry = is ∙ ring at v e }
    on true r true (inr m) = absurd m
    on true r false m = absurd m
    on false r b m = absurd m
  here q (Some own) s _ is m = absurd m

  at : (b : Bool) → (p.session == session) ≡ b → IsAmong (change_at row version) (history_puts slot kind (cond b (p ∷ []) [] ++ by_session session ps)) → Rest → IsPutting session slot row version (p ∷ ps)
  at false q m go = later (go m)
  at true q m go = split (among_either (change_at row version) (history_put slot kind p.context.slot p.entry) (history_puts slot kind (by_session session ps)) m) where
    split : IsAmong (change_at row version) (history_put slot kind p.context.slot p.entry) ⊎ IsAmong (change_at row version) (history_puts slot kind (by_session session ps)) → IsPutting session slot row version (p ∷ ps)
    split (inl a) = here q p.context.slot refl p.entry refl a
    split (inr b) = later (go b)

put_among : (session slot kind row version : ℕ) (p : Placed) (ps : List Placed) → IsAmong p ps → (p.session == session) ≡ true → p.context.slot ≡ Some slot → p.entry ≡ says.Ring row version → is_history_row slot kind row ≡ true
    → IsAmong (change_at row version) (history_puts slot kind (by_session session ps))
put_among session slot kind row version p [] m q s e h = absurd m
put_among session slot kind row version p (x ∷ ps) (inl k) q s e h =
    subst (λ b. IsAmong (change_at row version) (history_puts slot kind (cond b (x ∷ []) [] ++ by_session session ps))) (sym (ap (λ (z : Placed). z.session == session) k ∙ q))
    (subst (λ cs. IsAmong (change_at row version) (cs ++ history_puts slot kind (by_session session ps))) (sym put) (inl refl)) where
      put : history_put slot kind x.context.slot x.entry ≡ change_at row version ∷ []
      put =
          ap (λ o. history_put slot kind o x.entry) (ap (λ (z : Placed). z.context.slot) k ∙ s)
          ∙ (ap (history_put slot kind (Some slot)) (ap (λ (z : Placed). z.entry) k ∙ e)
          ∙ (ap (λ b. cond (b && is_history_row slot kind row) (change_at row version ∷ []) []) (eq_self slot) ∙ ap (λ b. cond b (change_at row version ∷ []) []) h))
put_among session slot kind row version p (x ∷ ps) (inr m) q s e h = on (x.session == session) (put_among session slot kind row version p ps m q s e h) where
  on : (b : Bool) → IsAmong (change_at row version) (history_puts slot kind (by_session session ps)) → IsAmong (change_at row version) (history_puts slot kind (cond b (x ∷ []) [] ++ by_session session ps))
  on true a = among_back (change_at row version) (history_put slot kind x.context.slot x.entry) (history_puts slot kind (by_session session ps)) a
  on false a = a

each_of_all : (P : Change → Type 0) (xs : List Change) → ((x : Change) → IsAmong x xs → P x) → Each P xs
each_of_all P [] h = tt
each_of_all P (x ∷ xs) h = (h x (inl refl), each_of_all P xs (λ y m. h y (inr m)))

-- the entry of a connect that printed a slot
pub record IsConnecting (session slot : ℕ) (ps : List Placed) : Type 0 where
  pub place : Placed
  pub among : IsAmong place ps
  pub own : (place.session == session) ≡ true
  pub action : ℕ
  pub account : Option ℕ
  pub user : Option ℕ
  pub host : Option ℕ
  pub entry : place.entry ≡ says.Connect action (Some slot) account user host

connecting : (session slot : ℕ) (rest : List ℕ) (ps : List Placed) → given_by slots_at session ps ≡ slot ∷ rest → IsConnecting session slot ps
connecting session slot rest [] e = absurd (cc)
connecting session slot rest (p ∷ ps) e = at (p.session == session) refl e (connecting session slot rest ps) where
  later : IsConnecting session slot ps → IsConnecting session slot (p ∷ ps)
  later r = record { place = r.place; among = inr r.among; own = r.own; action = r.action; account = r.account; user = r.user; host = r.host; entry = r.entry }

  first : (a b : ℕ) (xs ys : List ℕ) → a ∷ xs ≡ b ∷ ys → a ≡ b
  first a b xs ys r = cc

  by : (p.session == session) ≡ true → (e : Entry) → p.entry ≡ e → slots_at p e ++ given_by slots_at session ps ≡ slot ∷ rest → (given_by slots_at session ps ≡ slot ∷ rest → IsConnecting session slot ps) → IsConnecting session slot (p ∷ ps)
  by own (says.Connect action (Some thread) account user host) q h go =
      record { place = p; among = inl refl; own = own; action = action; account = account; user = user; host = host; entry = q ∙ ap (λ z. says.Connect action (Some z) account user host) (first thread slot (given_by slots_at session ps) rest h) }
  by own (says.Connect action None account user host) q h go = later (go h)
  by own _ q h go = later (go h)

  at : (b : Bool) → (p.session == session) ≡ b → cond b (slots_at p p.entry) [] ++ given_by slots_at session ps ≡ slot ∷ rest → (given_by slots_at session ps ≡ slot ∷ rest → IsConnecting session slot ps) → IsConnecting session slot (p ∷ ps)
  at true own h go = by own p.entry refl h go
  at false own h go = later (go h)

history_range : (slot kind row : ℕ) → is_history_row slot kind row ≡ true → kind < 4 → (8450 + 56 * slot ≤ row) × (row < 8450 + 56 * slot + 56)
history_range slot kind row q few =
    let b : (nat_le (8450 + 56 * slot + 16 + 10 * kind) row ≡ true) × (nat_lt row (8450 + 56 * slot + 26 + 10 * kind) ≡ true) = and_parts (nat_le (8450 + 56 * slot + 16 + 10 * kind) row) (nat_lt row (8450 + 56 * slot + 26 + 10 * kind)) q in
    let l : 8450 + 56 * slot + 16 + 10 * kind ≤ row = leb-true (8450 + 56 * slot + 16 + 10 * kind) row b.0 in
    let h : row < 8450 + 56 * slot + 26 + 10 * kind = ltb-true row (8450 + 56 * slot + 26 + 10 * kind) b.1 in
    (omega (arith, l), omega (arith, h, few))

same_slot : (own slot row : ℕ) → 8450 + 56 * own ≤ row → row < 8450 + 56 * own + 56 → 8450 + 56 * slot ≤ row → row < 8450 + 56 * slot + 56 → own ≡ slot
same_slot own slot row a b c d = omega (arith, a, b, c, d)

-- a row without a change, and one whose last version is released
pub opening_free : (m v row : ℕ) → v ≡ 0 → 8450 ≤ row → nat_lt 0 m || ((v == 0) && opens_free row) ≡ true
opening_free m v row e l = ap (λ z. nat_lt 0 m || ((z == 0) && opens_free row)) e ∙ (ap (λ z. nat_lt 0 m || z) (opens row l) ∙ either (nat_lt 0 m)) where
  high : (row : ℕ) → 8450 ≤ row → nat_le 8450 row ≡ true
  high row l = grind arith

  either : (b : Bool) → b || true ≡ true
  either true = refl
  either false = refl

  opens : (row : ℕ) → 8450 ≤ row → opens_free row ≡ true
  opens row l = ap (λ z. (nat_lt 0 row && nat_lt row 129) || z) (high row l) ∙ either (nat_lt 0 row && nat_lt row 129)

yes_free : (m v : ℕ) (b : Bool) → 1 ≤ m → nat_lt 0 m || ((v == 0) && b) ≡ true
yes_free m v b l = ap (λ z. z || ((v == 0) && b)) (positive m l) where
  positive : (m : ℕ) → 1 ≤ m → nat_lt 0 m ≡ true
  positive m l = grind arith

had_of : (row version last : ℕ) (xs : List Change) → Each (λ (release : Change). release.row ≡ row → release.version ≤ last) xs → IsAmong (change_at row version) xs → version ≤ last
had_of row version last [] h m = absurd m
had_of row version last (x ∷ xs) h (inl e) = let l : x.version ≤ last = h.0 (ap (λ (c : Change). c.row) e) in let k : x.version ≡ version = ap (λ (c : Change). c.version) e in omega (arith, l, k)
had_of row version last (x ∷ xs) h (inr m) = had_of row version last xs h.1 m

module _ (run : Run) (kept : AreKept run) (orderly : IsOrderly run) (phase session slot kind : ℕ) (few : kind < 4) (there : IsThere (entries_to run phase) session slot) where
  connects : IsConnecting session slot (entries_to run phase)
  connects = connecting session slot [] (entries_to run phase) there.connected

  abbrev rooms : Rooms
  rooms = record { thread = Some slot; account = connects.account; user = connects.user; host = connects.host }

  answered : rooms_at run.setting run.change run.labels connects.action ≡ record { thread = Some slot; account = connects.account; user = connects.user; host = connects.host }
  answered =
      subst (IsAnswered (rooms_at run.setting run.change run.labels) (answers_at run.setting run.change run.labels) connects.place) connects.entry
      (place_among (λ (p : Placed). IsAnswered (rooms_at run.setting run.change run.labels) (answers_at run.setting run.change run.labels) p p.entry) connects.place (places run.blocks) (sub run kept orderly phase connects.place connects.among) (each_answered (rooms_at run.setting run.change run.labels) (answers_at run.setting run.change run.labels) (places run.blocks) kept.rules.answered))

  slot_few : slot < 32
  slot_few =
      let l : slot < run.setting.limits.thread_instances = slot_low run.setting run.change run.labels connects.action slot (ap (λ (z : Rooms). z.thread) answered) in
      let m : run.setting.limits.thread_instances ≤ 32 = run.setting.in_range.thread_instances in
      omega (arith, l, m)

  -- the session stands at the slot from its connect on
  tenant : (n : ℕ) → connects.action ≡ n → IsTenant run phase session slot n
  tenant zero e = absurd (let r : 1 ≤ connects.action = (said_range run kept orderly phase connects.place connects.action connects.among (ap action_change connects.entry)).0 in omega (arith, r, e))
  tenant (suc k) e = record {
    first = first;
    positive = omega arith;
    within = within;
    who = session_in run.setting run.change run.labels connects.place.session seat.user seat.host rooms;
    number = eqb-true connects.place.session session connects.own;
    stands = seat.stands;
  } where
    says_it : action_change connects.place.entry ≡ change_at 0 (suc k) ∷ []
    says_it = ap action_change connects.entry ∙ ap (λ n. change_at 0 n ∷ []) e

    within : suc k ≤ length (each_of action_change (entries_to run phase))
    within = (said_range run kept orderly phase connects.place (suc k) connects.among says_it).1

    first : first_of (given_by connects_at session (entries_to run phase)) ≡ Some (suc k)
    first =
        subst (IsFirstConnect session (entries_to run phase)) connects.entry
        (place_among (λ (p : Placed). (p.session == session) ≡ true → IsOwn session (rooms_at run.setting run.change run.labels) (entries_to run phase) p) connects.place (entries_to run phase) connects.among (run_own run kept orderly phase session) connects.own).first
        ∙ ap (λ n. Some n) e

    l : (line : ℕ) × (slice_get run.labels k ≡ Some (record { session = connects.place.session; line = line }))
    l = label_of run kept orderly phase connects.place k (sub run kept orderly phase connects.place connects.among) says_it

    seat : IsSeated run.setting run.change run.labels (length (each_of action_change (entries_to run phase))) (suc k) slot rooms (record { session = connects.place.session; line = l.0 })
    seat =
        seated_there run.setting run.change run.labels (length (each_of action_change (entries_to run phase))) (suc k) (record { session = connects.place.session; line = l.0 }) slot rooms within (run_acting run kept orderly phase).few l.1
        (sym (ap (rooms_at run.setting run.change run.labels) e) ∙ answered) refl

  -- what a put's session told of its slot
  told : (p : Placed) → IsAmong p (entries_to run phase) → (own : ℕ) → p.context.slot ≡ Some own → (action : ℕ) × IsTold p.session (rooms_at run.setting run.change run.labels) (entries_to run phase) action p.context
  told p m own e =
      on (place_among (λ (z : Placed). (z.session == p.session) ≡ true → IsOwn p.session (rooms_at run.setting run.change run.labels) (entries_to run phase) z) p (entries_to run phase) m (run_own run kept orderly phase p.session) (eq_self p.session)).known where
        on : IsKnown p.session (rooms_at run.setting run.change run.labels) (entries_to run phase) p.context → (action : ℕ) × IsTold p.session (rooms_at run.setting run.change run.labels) (entries_to run phase) action p.context
        on (inl n) = absurd (let z : None ≡ Some own = sym n ∙ e in cc)
        on (inr t) = t

  -- it has not quit
  no_quit : (q : ℕ) → quit_in (entries_to run phase) session ≡ Some q → ⊥
  no_quit q e = absurd (let z : None ≡ Some q = sym (ap first_of there.stays) ∙ e in cc)

  -- another session that had the slot quit before it connected, and released its puts
  pub record IsPast (row version b : ℕ) : Type 0 where
    pub number : ℕ
    pub positive : 0 < number
    pub before : number ≤ b
    pub freed : IsReleased run kept orderly phase row version number

  past : (p : Placed) → IsAmong p (entries_to run phase) → (row version : ℕ) → p.entry ≡ says.Ring row version → p.context.slot ≡ Some slot → 8450 + 56 * slot ≤ row → row < 8450 + 56 * slot + 56 → (p.session ≡ session → ⊥)
      → (b : ℕ) → IsTenant run phase session slot b → IsPast row version b
  past p m row version e s l h ne b u = by (told p m slot s) where
    by : (action : ℕ) × IsTold p.session (rooms_at run.setting run.change run.labels) (entries_to run phase) action p.context → IsPast row version b
    by (action, t) = on (which action b) where
      here : IsTenant run phase p.session slot action
      here = tenant_at run kept orderly phase p.session slot action p.context s t

      quits : (q : ℕ) × (quit_in (entries_to run phase) p.session ≡ Some q) × (q ≤ b) → IsPast row version b
      quits (zero, q, k) = absurd (none_quit run kept orderly phase p.session q)
      quits (suc n, q, k) = record { number = suc n; positive = omega arith; before = k; freed = released run kept orderly phase p m slot row version action n e s l h t q }

      on : (action ≤ b) ⊎ (b < action) → IsPast row version b
      on (inl k) = quits (quits_before run kept orderly phase p.session session slot action b here u ne k)
      on (inr k) = absurd (let r : (q : ℕ) × (quit_in (entries_to run phase) session ≡ Some q) × (q ≤ action) = quits_before run kept orderly phase session p.session slot b action u here (λ z. ne (sym z)) (omega (arith, k)) in no_quit r.0 r.1)

  -- a change of a place of the history
  module _ (row : ℕ) (own : is_history_row slot kind row ≡ true) where
    range : (8450 + 56 * slot ≤ row) × (row < 8450 + 56 * slot + 56)
    range = history_range slot kind row own few

    high : row < 10242
    high = let h : row < 8450 + 56 * slot + 56 = range.1 in let s : slot < 32 = slot_few in omega (arith, h, s)

    low : 8450 ≤ row
    low = let l : 8450 + 56 * slot ≤ row = range.0 in omega (arith, l)

    ring : (version : ℕ) (c : IsChanging (change_at row version) (entries_to run phase)) → c.place.entry ≡ says.Ring row version
    ring version c = is_put run kept orderly phase c.place c.among row version low high c.changes

    slotted : (version : ℕ) (c : IsChanging (change_at row version) (entries_to run phase)) → c.place.context.slot ≡ Some slot
    slotted version c =
        let i : IsPutIn c.place row = put_in run kept orderly phase c.place c.among row version (ring version c) in
        i.slot ∙ ap (λ z. Some z) (same_slot i.own slot row i.low i.high range.0 range.1)

    not_own : (version : ℕ) (c : IsChanging (change_at row version) (entries_to run phase)) → (c.place.session == session) ≡ false → c.place.session ≡ session → ⊥
    not_own version c q e = absurd (let z : true ≡ false = sym (subst (λ n. (n == session) ≡ true) (sym e) (eq_self session)) ∙ q in cc)

    below : (version : ℕ) (c : IsChanging (change_at row version) (entries_to run phase)) → (c.place.session == session) ≡ false → IsBelow (change_at row version) (puts_by (entries_to run phase) session slot kind)
    below version c q = each_of_all (λ (other : Change). other.row ≡ row → version < other.version) (puts_by (entries_to run phase) session slot kind) one where
      one : (other : Change) → IsAmong other (puts_by (entries_to run phase) session slot kind) → other.row ≡ row → version < other.version
      one other m e = by (told g.place g.among slot g.slot_is) where
        g : IsPutting session slot row other.version (entries_to run phase)
        g = putting session slot kind row other.version (entries_to run phase) (subst (λ n. IsAmong (change_at n other.version) (puts_by (entries_to run phase) session slot kind)) e m)

        by : (action : ℕ) × IsTold g.place.session (rooms_at run.setting run.change run.labels) (entries_to run phase) action g.place.context → version < other.version
        by (action, t) =
            let u : IsTenant run phase session slot action = subst (λ s. IsTenant run phase s slot action) g.own (tenant_at run kept orderly phase g.place.session slot action g.place.context g.slot_is t) in
            let x : IsPast row version action = past c.place c.among row version (ring version c) (slotted version c) range.0 range.1 (not_own version c q) action u in
            let a : x.freed.at < other.version = above_released run kept orderly phase g.place g.among row other.version version action x.number g.entry t x.positive x.before x.freed in
            let v : version ≤ x.freed.at = x.freed.above in
            omega (arith, a, v)

    owns : (version : ℕ) → IsAmong (change_at row version) (each_of row_change (entries_to run phase))
        → IsAmong (change_at row version) (puts_by (entries_to run phase) session slot kind) ⊎ IsBelow (change_at row version) (puts_by (entries_to run phase) session slot kind)
    owns version m = on (c.place.session == session) refl where
      c : IsChanging (change_at row version) (entries_to run phase)
      c = changing (change_at row version) (entries_to run phase) m

      on : (b : Bool) → (c.place.session == session) ≡ b → IsAmong (change_at row version) (puts_by (entries_to run phase) session slot kind) ⊎ IsBelow (change_at row version) (puts_by (entries_to run phase) session slot kind)
      on true q = inl (put_among session slot kind row version c.place (entries_to run phase) c.among q (slotted version c) (ring version c) own)
      on false q = inr (below version c q)

    -- one that has no put of the session is FREE
    idle : ((version : ℕ) → IsAmong (change_at row version) (puts_by (entries_to run phase) session slot kind) → ⊥) → is_free_after (entries_to run phase) row ≡ true
    idle none = on (which 1 last) where
      last : ℕ
      last = last_version (entries_to run phase) row

      frees : ℕ
      frees = times (is_that (change_at row (last_version (entries_to run phase) row))) (each_of release_of (entries_to run phase))

      top : 1 ≤ last_version (entries_to run phase) row → IsChanging (change_at row (last_version (entries_to run phase) row)) (entries_to run phase)
      top l = changing (change_at row last) (entries_to run phase) (of_chain row last (each_of row_change (entries_to run phase)) (kept.rules.joint.rows phase) l (omega arith))

      gone : (c : IsChanging (change_at row (last_version (entries_to run phase) row)) (entries_to run phase)) → (b : Bool) → (c.place.session == session) ≡ b → is_free_after (entries_to run phase) row ≡ true
      gone c true q = absurd (none last (put_among session slot kind row last c.place (entries_to run phase) c.among q (slotted last c) (ring last c) own))
      gone c false q = yes_free frees last (opens_free row) stands where
        x : IsPast row (last_version (entries_to run phase) row) connects.action
        x = past c.place c.among row last (ring last c) (slotted last c) range.0 range.1 (not_own last c q) connects.action (tenant connects.action refl)

        release : IsAmong (change_at row x.freed.at) (each_of release_of (entries_to run phase))
        release = release_among row x.freed.at x.freed.place (entries_to run phase) x.freed.among x.freed.entry

        same : x.freed.at ≡ last_version (entries_to run phase) row
        same =
            let l : x.freed.at ≤ last_version (entries_to run phase) row = had_of row x.freed.at last (each_of release_of (entries_to run phase)) (releases_had phase row (places run.blocks) [] (places run.blocks) kept.rules.joint.floored) release in
            let h : last_version (entries_to run phase) row ≤ x.freed.at = x.freed.above in
            omega (arith, l, h)

        stands : 1 ≤ times (is_that (change_at row (last_version (entries_to run phase) row))) (each_of release_of (entries_to run phase))
        stands = among_times row last (each_of release_of (entries_to run phase)) (subst (λ n. IsAmong (change_at row n) (each_of release_of (entries_to run phase))) same release)

      on : (1 ≤ last_version (entries_to run phase) row) ⊎ (last_version (entries_to run phase) row < 1) → is_free_after (entries_to run phase) row ≡ true
      on (inl l) = gone (top l) ((top l).place.session == session) refl
      on (inr l) = opening_free frees last row (omega (arith, l)) low

  pub owned : IsOwned (entries_to run phase) session slot kind
  owned = record { own = λ row version own m. owns row own version m; idle = λ row own none. idle row own none }

-- so each run's histories are shown
pub history_law : HistoryLaw
history_law run phase session slot kept orderly there kind few row own version =
    owned_shown run phase session slot kept orderly there.connected kind (owned run kept orderly phase session slot kind few there) row own version

-- of each script
pub histories_law : KeptLaw → OrderlyLaw → HistoryLaw → HistoriesLaw
histories_law kept orderly history text setting phases report script run =
    final_then _ _ report.phases one run.finals where
      one : (part : PhaseParts) → IsFinal (run_of setting phases report run).setting (run_of setting phases report run).change run.labels run.content (flags_by (terms_of setting (change_in phases) (facts_in phases) run.labels) (places (all_blocks run.blocks))) (entries_to (run_of setting phases report run) part.number) part
          → HasHistories (run_of setting phases report run) part
      one part final session slot kind row version there few own =
          history (run_of setting phases report run) part.number session slot (kept setting phases report run) (orderly text setting phases report script run) there kind few row own version
