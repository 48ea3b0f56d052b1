-- The actions of the phases up to one: their numbers, and what they set.
use Rattle.std.proofs.Common.{◌≡◌, refl, ℕ, ◌+◌, ◌<◌, ◌≤◌, inl, inr, ◌==◌, Bool, true, false, ◌&&◌, cond, nat_lt, nat_le, List, [], ◌∷◌, ◌++◌, sym, ◌∙◌, ap, subst, arith}
use Rattle.std.proofs.lemmas.Bool.Decides.{nat_tests}
use Rattle.pfs_event.specs.declared.entry.Entry.{Entry}
use Rattle.pfs_event.specs.declared.entry.Entry.TheVariants as says
use Rattle.pfs_model.proofs.ChainGrowth.{times_append}
use Rattle.pfs_model.specs.declared.changes.Change.{Change}
use Rattle.pfs_model.specs.ActionAsks.{of_action}
use Rattle.pfs_model.specs.Actions.{Deed, IsAmong, is_acted, set_at, setting_at, sets_of, settings_of}
use Rattle.pfs_model.specs.Chains.{AreChained, Each, IsChained, action_change, change_at, each_of, is_of, is_that, times}
use Rattle.pfs_model.specs.EntryPlaces.{Placed, chosen, up_to_phase}
use Rattle.pfs_check_faults.proofs.ChainFacts.{all_phases, among_times, bit_yes, that_self, top}
use Rattle.pfs_check_faults.proofs.MemberCounts.{among_left, among_right, one_bit, same_is}
use Rattle.pfs_check_setup.proofs.BegunActions.{Begun, HasBegun}

-- how many actions begin up to a phase
abbrev pub acts_up_to : ℕ → List Placed → ℕ
acts_up_to phase all = times (is_of 0) (each_of action_change (up_to_phase phase all))

low_of : (n m : ℕ) → n ≤ m → nat_le n m ≡ true
low_of n m h = grind (arith, nat_tests)

of_low : (n m : ℕ) → nat_le n m ≡ true → n ≤ m
of_low n m h = grind (arith, nat_tests)

of_less : (n m : ℕ) → nat_lt n m ≡ true → n < m
of_less n m h = grind (arith, nat_tests)

among_chosen : (test : Placed → Bool) (p : Placed) (ps : List Placed) → IsAmong p ps → test p ≡ true → IsAmong p (chosen test ps)
among_chosen test p [] i e = absurd i
among_chosen test p (q ∷ ps) (inl same) e = at (test q) (ap test same ∙ e) where
  at : (b : Bool) → b ≡ true → IsAmong p (cond b (q ∷ []) [] ++ chosen test ps)
  at true f = inl same
  at false f = absurd (cc)
among_chosen test p (q ∷ ps) (inr i) e = among_right p (cond (test q) (q ∷ []) []) (chosen test ps) (among_chosen test p ps i e)

pub among_each : (given : Entry → List Change) (p : Placed) (c : Change) (ps : List Placed) → IsAmong p ps → given p.entry ≡ c ∷ []
    → IsAmong c (each_of given ps)
among_each given p c [] i e = absurd i
among_each given p c (q ∷ ps) (inl same) e =
    among_left c (given q.entry) (each_of given ps) (subst (IsAmong c) (sym (ap (λ (z : Placed). given z.entry) same ∙ e)) (inl refl))
among_each given p c (q ∷ ps) (inr i) e = among_right c (given q.entry) (each_of given ps) (among_each given p c ps i e)

-- the number of an action that begins up to a phase
pub begun_within : (all : List Placed) (phase at number : ℕ) → AreChained action_change all → Begun all at number → at ≤ phase
    → (0 < number) × (number ≤ acts_up_to phase all)
begun_within all phase at number chained b low =
    let there : IsAmong b.place (up_to_phase phase all) =
    among_chosen (λ place. nat_le place.phase phase) b.place all b.there (low_of b.place.phase phase (omega (arith, low, b.phase_is))) in
    let some : 0 < times (is_that (change_at 0 number)) (each_of action_change (up_to_phase phase all)) =
    among_times (change_at 0 number) (each_of action_change (up_to_phase phase all)) (among_each action_change b.place (change_at 0 number) (up_to_phase phase all) there b.says_it) in
    let bits : (nat_lt 0 number ≡ true) × (nat_le number (acts_up_to phase all) ≡ true) =
    bit_yes (nat_lt 0 number) (nat_le number (acts_up_to phase all)) (omega (arith, some, chained phase (change_at 0 number))) in
    (of_less 0 number bits.0, of_low number (acts_up_to phase all) bits.1)

-- one that stands behind a phase isn't counted up to it
later_more : (given : Entry → List Change) (test : Change → Bool) (phase : ℕ) (p : Placed) (c : Change) (ps : List Placed) → IsAmong p ps
    → nat_le p.phase phase ≡ false → given p.entry ≡ c ∷ [] → test c ≡ true
    → times test (each_of given (up_to_phase phase ps)) < times test (each_of given ps)
later_more given test phase p c [] i f e t = absurd i
later_more given test phase p c (q ∷ ps) (inl same) f e t = at (nat_le q.phase phase) (ap (λ (z : Placed). nat_le z.phase phase) same ∙ f) where
  here : times test (given q.entry) ≡ 1
  here = ap (λ (z : Placed). times test (given z.entry)) same ∙ ap (times test) e ∙ ap (λ z. cond {A = ℕ} z 1 0 + 0) t

  few : (qs : List Placed) → times test (each_of given (up_to_phase phase qs)) ≤ times test (each_of given qs)
  few [] = omega arith
  few (r ∷ qs) = by (nat_le r.phase phase) (few qs) (times_append test (given r.entry) (each_of given qs)) where
    by : (b : Bool) → times test (each_of given (up_to_phase phase qs)) ≤ times test (each_of given qs)
        → times test (given r.entry ++ each_of given qs) ≡ times test (given r.entry) + times test (each_of given qs)
        → times test (each_of given (cond b (r ∷ []) [] ++ up_to_phase phase qs)) ≤ times test (given r.entry ++ each_of given qs)
    by true h s = let more : times test (given r.entry ++ each_of given (up_to_phase phase qs)) ≡ times test (given r.entry) + times test (each_of given (up_to_phase phase qs)) =
        times_append test (given r.entry) (each_of given (up_to_phase phase qs)) in omega (arith, h, s, more)
    by false h s = omega (arith, h, s)

  at : (b : Bool) → b ≡ false → times test (each_of given (cond b (q ∷ []) [] ++ up_to_phase phase ps)) < times test (given q.entry ++ each_of given ps)
  at true g = absurd (cc)
  at false g = omega (arith, here, few ps, times_append test (given q.entry) (each_of given ps))
later_more given test phase p c (q ∷ ps) (inr i) f e t =
    at (nat_le q.phase phase) (later_more given test phase p c ps i f e t) (times_append test (given q.entry) (each_of given ps)) where
      at : (b : Bool) → times test (each_of given (up_to_phase phase ps)) < times test (each_of given ps)
          → times test (given q.entry ++ each_of given ps) ≡ times test (given q.entry) + times test (each_of given ps)
          → times test (each_of given (cond b (q ∷ []) [] ++ up_to_phase phase ps)) < times test (given q.entry ++ each_of given ps)
      at true h s = let more : times test (given q.entry ++ each_of given (up_to_phase phase ps)) ≡ times test (given q.entry) + times test (each_of given (up_to_phase phase ps)) =
          times_append test (given q.entry) (each_of given (up_to_phase phase ps)) in omega (arith, h, s, more)
      at false h s = omega (arith, h, s)

pub whole_actions : (all : List Placed) → AreChained action_change all → IsChained (each_of action_change all)
whole_actions all chained = subst (λ z. IsChained (each_of action_change z)) (all_phases all) (chained (top all))

pub once_begun : (all : List Placed) (number : ℕ) → AreChained action_change all → times (is_that (change_at 0 number)) (each_of action_change all) ≤ 1
once_begun all number chained =
    omega (arith, whole_actions all chained (change_at 0 number), one_bit (nat_lt 0 number && nat_le number (times (is_of 0) (each_of action_change all))))

-- and the phase of an action with such a number
pub begun_before : (all : List Placed) (phase at number : ℕ) → AreChained action_change all → Begun all at number → 0 < number
    → number ≤ acts_up_to phase all → at ≤ phase
begun_before all phase at number chained b above high = by (nat_le b.place.phase phase) refl where
  one : times (is_that (change_at 0 number)) (each_of action_change (up_to_phase phase all)) ≡ 1
  one = chained phase (change_at 0 number) ∙ bit number (acts_up_to phase all) above high where
    bit : (n m : ℕ) → 0 < n → n ≤ m → cond {A = ℕ} (nat_lt 0 n && nat_le n m) 1 0 ≡ 1
    bit n m h k = grind (arith, nat_tests)

  by : (t : Bool) → nat_le b.place.phase phase ≡ t → at ≤ phase
  by true e = omega (arith, of_low b.place.phase phase e, b.phase_is)
  by false e =
      absurd (omega (
        arith,
        one,
        once_begun all number chained,
        later_more action_change (is_that (change_at 0 number)) phase b.place (change_at 0 number) all b.there e b.says_it (that_self (change_at 0 number)),
      ))

-- the sets up to a phase are by actions that begin up to there
pub within_phase : (all : List Placed) (phase : ℕ) (ps : List Placed) → AreChained action_change all → Each (HasBegun all) ps → (deed : Deed)
    → IsAmong deed (sets_of (up_to_phase phase ps)) → (0 < deed.action) × (deed.action ≤ acts_up_to phase all)
within_phase all phase [] chained h deed i = absurd i
within_phase all phase (p ∷ ps) chained h deed i =
    at (nat_le p.phase phase) refl i (within_phase all phase ps chained h.1 deed) where
      front : (entry : Entry) → (is_acted entry ≡ true → Begun all p.phase p.context.action) → p.phase ≤ phase
          → IsAmong deed (set_at p.context.action entry ++ sets_of (up_to_phase phase ps))
          → (IsAmong deed (sets_of (up_to_phase phase ps)) → (0 < deed.action) × (deed.action ≤ acts_up_to phase all))
          → (0 < deed.action) × (deed.action ≤ acts_up_to phase all)
      front (says.Set word version flags) begun low (inl e) go =
          subst (λ (z : Deed). (0 < z.action) × (z.action ≤ acts_up_to phase all)) e
          (begun_within all phase p.phase p.context.action chained (begun refl) low)
      front (says.Set word version flags) begun low (inr j) go = go j
      front _ begun low j go = go j

      at : (b : Bool) → nat_le p.phase phase ≡ b → IsAmong deed (sets_of (cond b (p ∷ []) [] ++ up_to_phase phase ps))
          → (IsAmong deed (sets_of (up_to_phase phase ps)) → (0 < deed.action) × (deed.action ≤ acts_up_to phase all))
          → (0 < deed.action) × (deed.action ≤ acts_up_to phase all)
      at true e j go = front p.entry h.0 (of_low p.phase phase e) j go
      at false e j go = go j

-- and those of such actions all stand there
pub outside_phase : (all : List Placed) (phase : ℕ) (test : Deed → Bool) (ps : List Placed) → AreChained action_change all → Each (HasBegun all) ps
    → ((deed : Deed) → test deed ≡ true → (0 < deed.action) × (deed.action ≤ acts_up_to phase all))
    → times test (sets_of (up_to_phase phase ps)) ≡ times test (sets_of ps)
outside_phase all phase test [] chained h within = refl
outside_phase all phase test (p ∷ ps) chained h within =
    at (nat_le p.phase phase) refl (outside_phase all phase test ps chained h.1 within)
    (times_append test (set_at p.context.action p.entry) (sets_of ps)) where
      none : (entry : Entry) → (is_acted entry ≡ true → Begun all p.phase p.context.action) → nat_le p.phase phase ≡ false
          → times test (set_at p.context.action entry) ≡ 0
      none (says.Set word version flags) begun f = by (test own) refl where
        own : Deed
        own = record { action = p.context.action; row = word; version = version; releases = false }

        by : (b : Bool) → test own ≡ b → cond {A = ℕ} b 1 0 + 0 ≡ 0
        by false e = refl
        by true e =
            let in_range : (0 < p.context.action) × (p.context.action ≤ acts_up_to phase all) = within own e in
            let low : p.phase ≤ phase = begun_before all phase p.phase p.context.action chained (begun refl) in_range.0 in_range.1 in
            absurd (wrong (sym (low_of p.phase phase low) ∙ f)) where
              wrong : true ≡ false → ⊥
              wrong g = cc
      none _ begun f = refl

      at : (b : Bool) → nat_le p.phase phase ≡ b → times test (sets_of (up_to_phase phase ps)) ≡ times test (sets_of ps)
          → times test (set_at p.context.action p.entry ++ sets_of ps) ≡ times test (set_at p.context.action p.entry) + times test (sets_of ps)
          → times test (sets_of (cond b (p ∷ []) [] ++ up_to_phase phase ps)) ≡ times test (set_at p.context.action p.entry ++ sets_of ps)
      at true e rest s =
          let more : times test (set_at p.context.action p.entry ++ sets_of (up_to_phase phase ps))
          ≡ times test (set_at p.context.action p.entry) + times test (sets_of (up_to_phase phase ps)) =
          times_append test (set_at p.context.action p.entry) (sets_of (up_to_phase phase ps)) in
          omega (arith, rest, s, more)
      at false e rest s = omega (arith, rest, s, none p.entry h.0 e)

-- an action of a number that isn't there sets nothing
pub none_settings : (all : List Placed) (number : ℕ) (ps : List Placed) → AreChained action_change all → Each (HasBegun all) ps
    → acts_up_to (top all) all < number → ((p : Placed) → IsAmong p ps → p.phase ≤ top all) → settings_of (of_action number ps) ≡ []
none_settings all number [] chained h above within = refl
none_settings all number (p ∷ ps) chained h above within =
    at (p.context.action == number) refl (none_settings all number ps chained h.1 above (λ q i. within q (inr i))) where
      none : p.context.action ≡ number → (entry : Entry) → (is_acted entry ≡ true → Begun all p.phase p.context.action)
          → setting_at p.context.action entry ++ settings_of (of_action number ps) ≡ settings_of (of_action number ps)
      none e (says.Set word version flags) begun =
          absurd (omega (arith, e, above, (begun_within all (top all) p.phase p.context.action chained (begun refl) (within p (inl refl))).1))
      none e _ begun = refl

      at : (b : Bool) → (p.context.action == number) ≡ b → settings_of (of_action number ps) ≡ []
          → settings_of (cond b (p ∷ []) [] ++ of_action number ps) ≡ []
      at true e rest = none (same_is p.context.action number e) p.entry h.0 ∙ rest
      at false e rest = rest

chosen_passes : (test : Placed → Bool) (p : Placed) (ps : List Placed) → IsAmong p (chosen test ps) → test p ≡ true
chosen_passes test p [] i = absurd i
chosen_passes test p (q ∷ ps) i = at (test q) refl i (chosen_passes test p ps) where
  at : (b : Bool) → test q ≡ b → IsAmong p (cond b (q ∷ []) [] ++ chosen test ps) → (IsAmong p (chosen test ps) → test p ≡ true) → test p ≡ true
  at true e (inl same) go = ap test (sym same) ∙ e
  at true e (inr j) go = go j
  at false e j go = go j

pub under_top : (ps : List Placed) (p : Placed) → IsAmong p ps → p.phase ≤ top ps
under_top ps p i =
    of_low p.phase (top ps)
    (chosen_passes (λ (place : Placed). nat_le place.phase (top ps)) p ps (subst (λ z. IsAmong p z) (sym (all_phases ps)) i))
