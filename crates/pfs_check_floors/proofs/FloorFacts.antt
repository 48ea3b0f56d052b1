-- The floors of rows, or of switch words.
use Rattle.std.proofs.Common.{◌≡◌, refl, ℕ, ◌-◌, ◌<◌, ◌≤◌, ◌==◌, max, Bool, true, false, ◌&&◌, cond, nat_lt, nat_le, List, [], ◌∷◌, ◌++◌, sym, ◌∙◌, ap, subst, arith}
use Rattle.std.specs.Prelude.{unwrap_or}
use Rattle.std.specs.BTreeMap.{BTreeMap}
use Rattle.std.proofs.lemmas.Bool.{eqb-true, leb-false, leb-true, ltb-false, ltb-true}
use Rattle.std.proofs.lemmas.Bool.Decides.{nat_tests}
use Rattle.pfs_event.specs.declared.entry.Entry.{Entry}
use Rattle.pfs_check_tops.specs.Greatest.{greatest_up_to}
use Rattle.pfs_model.specs.declared.changes.Change.{Change}
use Rattle.pfs_model.specs.Chains.{AreChained, change_at, each_of, is_of, times}
use Rattle.pfs_model.specs.EntryPlaces.{Placed, before_phase, by_session, up_to_phase}
use Rattle.pfs_model.specs.Floors.{by_actions, greatest}
use Rattle.pfs_check_floors.specs.declared.floors.Seat.{Seat}
use Rattle.pfs_check_floors.specs.declared.floors.SessionRow.{SessionRow}
use Rattle.pfs_check_floors.specs.KeyedGivens.{action_of, by_action, by_phase, in_action, in_any, phase_of}
use Rattle.pfs_check_floors.specs.KnownFloors.{AreRaised, IsSeatOf, Tells, begun_by, floor_by, had_by, is_same_seat, known_at}
use Rattle.pfs_check_floors.proofs.GreatestFacts.{chain_top, greatest_append, keyed_tops, top_greatest}

none_before : (all : List Placed) (phase : ℕ) → phase ≡ 0 → before_phase phase all ≡ []
none_before [] phase e = refl
none_before (p ∷ ps) phase e = at (nat_lt p.phase phase) (low p.phase phase e) (none_before ps phase e) where
  low : (m n : ℕ) → n ≡ 0 → nat_lt m n ≡ false
  low m n e = grind (arith, nat_tests)

  at : (b : Bool) → b ≡ false → before_phase phase ps ≡ [] → cond b (p ∷ []) [] ++ before_phase phase ps ≡ []
  at true q h = absurd (cc)
  at false q h = h

-- as the first phase begins
pub first_start : (given : Entry → List Change) (all : List Placed) (row phase : ℕ) → phase ≡ 0 → 0 ≡ begun_by given all phase row
first_start given all row phase e = sym (ap (λ z. times (is_of row) (each_of given z)) (none_before all phase e))

-- before a phase is up to the one before
before_is : (all : List Placed) (phase : ℕ) → 0 < phase → before_phase phase all ≡ up_to_phase (phase - 1) all
before_is [] phase h = refl
before_is (p ∷ ps) phase h =
    ap (λ z. cond z (p ∷ []) [] ++ before_phase phase ps) (same p.phase phase h)
    ∙ ap (λ z. cond (nat_le p.phase (phase - 1)) (p ∷ []) [] ++ z) (before_is ps phase h) where
      same : (m n : ℕ) → 0 < n → nat_lt m n ≡ nat_le m (n - 1)
      same m n h = grind (arith, nat_tests)

pub had_is : (given : Entry → List Change) (all : List Placed) (row phase : ℕ) → AreChained given all
    → unwrap_or (greatest_up_to row phase (by_phase given all)) 0 ≡ had_by given all phase row
had_is given all row phase chained =
    ap (λ o. unwrap_or o 0) (keyed_tops in_any phase_of given all row phase)
    ∙ top_greatest row (each_of given (up_to_phase phase all))
    ∙ chain_top (each_of given (up_to_phase phase all)) (chained phase) row

pub start_is : (given : Entry → List Change) (all : List Placed) (row phase : ℕ) → 0 < phase → AreChained given all
    → unwrap_or (greatest_up_to row (phase - 1) (by_phase given all)) 0 ≡ begun_by given all phase row
start_is given all row phase h chained =
    had_is given all row (phase - 1) chained ∙ sym (ap (λ z. times (is_of row) (each_of given z)) (before_is all phase h))

pub acted_is : (given : Entry → List Change) (all : List Placed) (row n : ℕ)
    → unwrap_or (greatest_up_to row n (by_action given all)) 0 ≡ greatest row (each_of given (by_actions n all))
acted_is given all row n =
    ap (λ o. unwrap_or o 0) (keyed_tops in_action action_of given all row n) ∙ top_greatest row (each_of given (by_actions n all))

pub floor_is : (given : Entry → List Change) (shown : List Placed → List Change) (all earlier : List Placed) (place : Placed) (seat : Seat)
    (row s k g : ℕ) → IsSeatOf seat place → s ≡ begun_by given all seat.phase row → k ≡ greatest row (shown (by_session seat.session earlier))
    → g ≡ greatest row (each_of given (by_actions seat.done all)) → max (max s k) g ≡ floor_by given shown all earlier place row
floor_is given shown all earlier place seat row s k g at sis kis gis =
    ap (λ z. max (max z k) g) (sis ∙ ap (λ z. begun_by given all z row) at.phase)
    ∙ ap (λ z. max (max (begun_by given all place.phase row) z) g) (kis ∙ ap (λ z. greatest row (shown (by_session z earlier))) at.session)
    ∙ ap (λ z. max (max (begun_by given all place.phase row) (greatest row (shown (by_session place.session earlier)))) z)
    (gis ∙ ap (λ z. greatest row (each_of given (by_actions z all))) at.done)

pub between : (low version high floor had : ℕ) (b : Bool) → low ≡ floor → high ≡ had → b ≡ (nat_le low version && nat_le version high)
    → Tells ((floor ≤ version) × (version ≤ had)) b
between low version high floor had b p q r =
    subst (Tells ((floor ≤ version) × (version ≤ had))) (sym r) (on (nat_le low version) (nat_le version high) refl refl) where
      on : (x y : Bool) → nat_le low version ≡ x → nat_le version high ≡ y → Tells ((floor ≤ version) × (version ≤ had)) (x && y)
      on true true l m = (omega (arith, p, leb-true low version l), omega (arith, q, leb-true version high m))
      on true false l m = λ both. omega (arith, q, leb-false version high m, both.1)
      on false y l m = λ both. omega (arith, p, leb-false low version l, both.0)

pub behind : (low version high floor had : ℕ) (b : Bool) → low ≡ floor → high ≡ had → b ≡ (nat_lt low version && nat_le version high)
    → Tells ((floor < version) × (version ≤ had)) b
behind low version high floor had b p q r =
    subst (Tells ((floor < version) × (version ≤ had))) (sym r) (on (nat_lt low version) (nat_le version high) refl refl) where
      on : (x y : Bool) → nat_lt low version ≡ x → nat_le version high ≡ y → Tells ((floor < version) × (version ≤ had)) (x && y)
      on true true l m = (omega (arith, p, ltb-true low version l), omega (arith, q, leb-true version high m))
      on true false l m = λ both. omega (arith, q, leb-false version high m, both.1)
      on false y l m = λ both. omega (arith, p, ltb-false low version l, both.0)

-- one row that a session has seen, nothing, and more than one
pub raised_one : (old new : BTreeMap SessionRow ℕ) (session row version : ℕ)
    → ((seat : SessionRow) → known_at new seat
    ≡ cond (is_same_seat (record { session = session; row = row }) seat) (max (known_at old (record { session = session; row = row })) version) (known_at old seat))
    → AreRaised old new session (change_at row version ∷ [])
raised_one old new session row version step seat = step seat ∙ on (session == seat.session) (row == seat.row) refl refl where
  P : ℕ → SessionRow
  P s = record { session = s; row = row }

  Q : ℕ → SessionRow
  Q r = record { session = seat.session; row = r }

  on : (a b : Bool) → (session == seat.session) ≡ a → (row == seat.row) ≡ b
      → cond (a && b) (max (known_at old (record { session = session; row = row })) version) (known_at old seat)
      ≡ max (known_at old seat) (cond a (max (cond b version 0) 0) 0)
  on true true e f =
      let same : known_at old (P session) ≡ known_at old (Q seat.row) =
      ap (λ z. known_at old (P z)) (eqb-true session seat.session e) ∙ ap (λ z. known_at old (Q z)) (eqb-true row seat.row f) in
      ap (λ z. max z version) same ∙ most (known_at old (Q seat.row)) version where
        most : (m n : ℕ) → max m n ≡ max m (max n 0)
        most m n = omega arith
  on true false e f = plain (known_at old seat) where
    plain : (m : ℕ) → m ≡ max m (max 0 0)
    plain m = omega arith
  on false b e f = plain (known_at old seat) where
    plain : (m : ℕ) → m ≡ max m 0
    plain m = omega arith

pub raised_none : (known : BTreeMap SessionRow ℕ) (session : ℕ) → AreRaised known known session []
raised_none known session seat = on (session == seat.session) (known_at known seat) where
  on : (b : Bool) (m : ℕ) → m ≡ max m (cond {A = ℕ} b 0 0)
  on true m = omega arith
  on false m = omega arith

pub raised_both : (old mid new : BTreeMap SessionRow ℕ) (session : ℕ) (cs ds : List Change) → AreRaised old mid session cs → AreRaised mid new session ds
    → AreRaised old new session (cs ++ ds)
raised_both old mid new session cs ds first then seat =
    then seat
    ∙ ap (λ z. max z (cond (session == seat.session) (greatest seat.row ds) 0)) (first seat)
    ∙ on (session == seat.session) (known_at old seat) (greatest seat.row cs) (greatest seat.row ds) (greatest seat.row (cs ++ ds)) (greatest_append seat.row cs ds) where
      on : (b : Bool) (k m n g : ℕ) → g ≡ max m n → max (max k (cond b m 0)) (cond b n 0) ≡ max k (cond b g 0)
      on true k m n g e = omega (arith, e)
      on false k m n g e = omega arith

-- what a session knows behind an entry
pub known_more : (shown : List Placed → List Change) (own : List Change) (earlier : List Placed) (place : Placed) (old new : BTreeMap SessionRow ℕ)
    (session : ℕ) → ((rest : List Placed) → shown (place ∷ rest) ≡ own ++ shown rest) → place.session ≡ session → AreRaised old new session own
    → ((seat : SessionRow) → known_at old seat ≡ greatest seat.row (shown (by_session seat.session earlier)))
    → (seat : SessionRow) → known_at new seat ≡ greatest seat.row (shown (by_session seat.session (place ∷ earlier)))
known_more shown own earlier place old new session step same raised before seat =
    raised seat ∙ ap (λ z. max (known_at old seat) (cond (z == seat.session) (greatest seat.row own) 0)) (sym same)
    ∙ on (place.session == seat.session) (before seat) where
      on : (b : Bool) → known_at old seat ≡ greatest seat.row (shown (by_session seat.session earlier))
          → max (known_at old seat) (cond b (greatest seat.row own) 0)
          ≡ greatest seat.row (shown (cond b (place ∷ []) [] ++ by_session seat.session earlier))
      on true e =
          let more : greatest seat.row (shown (place ∷ by_session seat.session earlier))
          ≡ max (greatest seat.row own) (greatest seat.row (shown (by_session seat.session earlier))) =
          ap (greatest seat.row) (step (by_session seat.session earlier)) ∙ greatest_append seat.row own (shown (by_session seat.session earlier)) in
          omega (arith, e, more)
      on false e = omega (arith, e)
