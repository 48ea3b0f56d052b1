-- Where the sets of each action are those that are due, the rule is kept.
use Rattle.std.proofs.Common.{◌≡◌, refl, ℕ, zero, suc, ◌+◌, ◌-◌, ◌<◌, ◌≤◌, inl, inr, ◌==◌, Bool, true, false, ◌&&◌, cond, nat_lt, nat_le, List, [], ◌∷◌, ◌++◌, map, sym, ◌∙◌, ap, subst, arith}
use Rattle.std.proofs.lemmas.Bool.Decides.{nat_tests}
use Rattle.pfs_event.specs.declared.entry.Entry.{Entry}
use Rattle.pfs_event.specs.declared.entry.Entry.TheVariants as says
use Rattle.pfs_model.proofs.ChainGrowth.{times_append}
use Rattle.pfs_model.specs.ActionAsks.{Asked, Did, Flagged, Flagging, flagged_by, of_action}
use Rattle.pfs_model.specs.Actions.{Deed, IsAmong, NeverFall, Setting, StandsBefore, set_at, setting_at, settings_of, sets_of}
use Rattle.pfs_model.specs.Chains.{AreChained, Each, action_change, each_of, is_of, times, word_change}
use Rattle.pfs_model.specs.EntryPlaces.{Placed, up_to_phase}
use Rattle.pfs_check_faults.proofs.ChainFacts.{all_phases, top}
use Rattle.pfs_check_faults.proofs.MemberCounts.{same_is, self_is, some_times, times_same}
use Rattle.pfs_check_faults.proofs.SetCounts.{deeds_changes, earlier_asked}
use Rattle.pfs_check_faults.specs.ActionFaults.{SetAsAsked, flagging_at, sets_asked, sets_due, sets_due_of}
use Rattle.pfs_check_setup.proofs.ActionPhases.{acts_up_to, outside_phase, within_phase}
use Rattle.pfs_check_setup.proofs.BegunActions.{HasBegun}

pub record AreDue (asked : ℕ → Asked) (all : List Placed) : Type 0 where
  pub due : (number : ℕ) → 0 < number → sets_due asked number ≡ settings_of (of_action number all)
  pub once : (number word : ℕ) → times (λ (one : Flagging). one.word == word) (asked number).sets ≤ 1
  pub begun : Each (HasBegun all) all
  pub actions : AreChained action_change all

-- what was done, without its version
did_of : Setting → Did
did_of s = Flagged s.word s.flags

settings_did : (ps : List Placed) → map did_of (settings_of ps) ≡ each_of flagging_at ps
unfolding did_of
settings_did [] = refl
settings_did (p ∷ ps) = front p.entry (settings_did ps) where
  front : (entry : Entry) → map did_of (settings_of ps) ≡ each_of flagging_at ps
      → map did_of (setting_at p.context.action entry ++ settings_of ps) ≡ flagging_at entry ++ each_of flagging_at ps
  front (says.Set word version flags) e = ap (λ z. Flagged word flags ∷ z) e
  front _ e = e

due_did : (asked : ℕ → Asked) (number : ℕ) (sets : List Flagging) → map did_of (sets_due_of asked number sets) ≡ flagged_by sets
unfolding did_of
due_did asked number [] = refl
due_did asked number (one ∷ others) = ap (λ z. Flagged one.word one.flags ∷ z) (due_did asked number others)

pub set_as_asked : (asked : ℕ → Asked) (all : List Placed) → AreDue asked all → SetAsAsked asked all
set_as_asked asked all h number positive =
    sym (settings_did (of_action number all)) ∙ ap (map did_of) (sym (h.due number positive)) ∙ due_did asked number (asked number).sets

-- the sets of an action of a word at a version
abbrev is_at : ℕ → ℕ → Deed → Bool
is_at word version deed = (deed.row == word) && (deed.version == version)

abbrev sets_at : ℕ → ℕ → Setting → Bool
sets_at word version one = (one.word == word) && (one.version == version)

here_sets : (word version number action : ℕ) (b : Bool) → (action == number) ≡ b → (entry : Entry)
    → times (λ (deed : Deed). is_at word version deed && (deed.action == number)) (set_at action entry)
    ≡ cond b (times (sets_at word version) (setting_at action entry)) 0
here_sets word version number action b e (says.Set at v flags) = by b e ((at == word) && (v == version)) where
  by : (b : Bool) → (action == number) ≡ b → (w : Bool) → cond {A = ℕ} (w && (action == number)) 1 0 + 0 ≡ cond b (cond w 1 0 + 0) 0
  by true e true = rw e refl
  by true e false = refl
  by false e true = rw e refl
  by false e false = refl
here_sets word version number action true e _ = refl
here_sets word version number action false e _ = refl

action_sets : (word version number : ℕ) (ps : List Placed)
    → times (λ (deed : Deed). is_at word version deed && (deed.action == number)) (sets_of ps)
    ≡ times (sets_at word version) (settings_of (of_action number ps))
action_sets word version number [] = refl
action_sets word version number (p ∷ ps) = at (p.context.action == number) refl (action_sets word version number ps)
    (times_append own (set_at p.context.action p.entry) (sets_of ps)) where
      own : Deed → Bool
      own deed = is_at word version deed && (deed.action == number)

      at : (b : Bool) → (p.context.action == number) ≡ b
          → times (λ (deed : Deed). is_at word version deed && (deed.action == number)) (sets_of ps) ≡ times (sets_at word version) (settings_of (of_action number ps))
          → times own (set_at p.context.action p.entry ++ sets_of ps) ≡ times own (set_at p.context.action p.entry) + times own (sets_of ps)
          → times (λ (deed : Deed). is_at word version deed && (deed.action == number)) (set_at p.context.action p.entry ++ sets_of ps)
          ≡ times (sets_at word version) (settings_of (cond b (p ∷ []) [] ++ of_action number ps))
      at true e h sum =
          let here : times own (set_at p.context.action p.entry) ≡ times (sets_at word version) (setting_at p.context.action p.entry) =
          here_sets word version number p.context.action true e p.entry in
          let more : times (sets_at word version) (setting_at p.context.action p.entry ++ settings_of (of_action number ps))
          ≡ times (sets_at word version) (setting_at p.context.action p.entry) + times (sets_at word version) (settings_of (of_action number ps)) =
          times_append (sets_at word version) (setting_at p.context.action p.entry) (settings_of (of_action number ps)) in
          omega (arith, h, sum, here, more)
      at false e h sum =
          let here : times own (set_at p.context.action p.entry) ≡ 0 = here_sets word version number p.context.action false e p.entry in
          omega (arith, h, sum, here)

-- of those that are due
due_sets : (asked : ℕ → Asked) (word version number : ℕ) (sets : List Flagging)
    → times (sets_at word version) (sets_due_of asked number sets)
    ≡ cond ((sets_asked asked word (number - 1) + 1) == version) (times (λ (one : Flagging). one.word == word) sets) 0
due_sets asked word version number [] = none ((sets_asked asked word (number - 1) + 1) == version) where
  none : (b : Bool) → 0 ≡ cond {A = ℕ} b 0 0
  none true = refl
  none false = refl
due_sets asked word version number (one ∷ others) =
    at (one.word == word) refl ((sets_asked asked word (number - 1) + 1) == version) refl (due_sets asked word version number others) where
      at : (a : Bool) → (one.word == word) ≡ a → (b : Bool) → ((sets_asked asked word (number - 1) + 1) == version) ≡ b
          → times (sets_at word version) (sets_due_of asked number others) ≡ cond b (times (λ (one : Flagging). one.word == word) others) 0
          → cond {A = ℕ} (a && ((sets_asked asked one.word (number - 1) + 1) == version)) 1 0 + times (sets_at word version) (sets_due_of asked number others)
          ≡ cond b (cond {A = ℕ} a 1 0 + times (λ (one : Flagging). one.word == word) others) 0
      at false e true f h = omega (arith, h)
      at false e false f h = omega (arith, h)
      at true e b f h =
          let same : ((sets_asked asked one.word (number - 1) + 1) == version) ≡ b =
          ap (λ z. (sets_asked asked z (number - 1) + 1) == version) (same_is one.word word e) ∙ f in
          ap (λ z. cond {A = ℕ} z 1 0 + times (sets_at word version) (sets_due_of asked number others)) same ∙ by b h where
            by : (b : Bool) → times (sets_at word version) (sets_due_of asked number others) ≡ cond b (times (λ (one : Flagging). one.word == word) others) 0
                → cond {A = ℕ} b 1 0 + times (sets_at word version) (sets_due_of asked number others)
                ≡ cond b (1 + times (λ (one : Flagging). one.word == word) others) 0
            by true h = ap (λ z. 1 + z) h
            by false h = omega (arith, h)

-- so an action has one of a word where it asks for it, at the version behind those of the actions before it
number_sets : (asked : ℕ → Asked) (all : List Placed) → AreDue asked all → (word version number : ℕ) → 0 < number
    → times (λ (deed : Deed). is_at word version deed && (deed.action == number)) (sets_of all)
    ≡ cond ((sets_asked asked word (number - 1) + 1) == version) (times (λ (one : Flagging). one.word == word) (asked number).sets) 0
number_sets asked all h word version number positive =
    action_sets word version number all ∙ ap (times (sets_at word version)) (sym (h.due number positive))
    ∙ due_sets asked word version number (asked number).sets

abbrev by_first : ℕ → ℕ → ℕ → Deed → Bool
by_first word version number deed = is_at word version deed && (nat_lt 0 deed.action && nat_le deed.action number)

bits_more : (r : Bool) (action m : ℕ)
    → cond {A = ℕ} (r && (nat_lt 0 action && nat_le action (suc m))) 1 0
    ≡ cond (r && (action == suc m)) 1 0 + cond (r && (nat_lt 0 action && nat_le action m)) 1 0
bits_more false action m = refl
bits_more true action m = grind (arith, nat_tests)

first_more : (word version m : ℕ) (deeds : List Deed)
    → times (by_first word version (suc m)) deeds
    ≡ times (λ (deed : Deed). is_at word version deed && (deed.action == suc m)) deeds + times (by_first word version m) deeds
first_more word version m [] = refl
first_more word version m (deed ∷ deeds) =
    omega (arith, bits_more (is_at word version deed) deed.action m, first_more word version m deeds)

none_first : (word version : ℕ) (deeds : List Deed) → times (by_first word version 0) deeds ≡ 0
none_first word version [] = refl
none_first word version (deed ∷ deeds) = omega (arith, bit (is_at word version deed) deed.action, none_first word version deeds) where
  bit : (r : Bool) (action : ℕ) → cond {A = ℕ} (r && (nat_lt 0 action && nat_le action 0)) 1 0 ≡ 0
  bit false action = refl
  bit true action = grind (arith, nat_tests)

-- of so many actions there is a set of a word at each version up to how often they ask for it
first_sets : (asked : ℕ → Asked) (all : List Placed) → AreDue asked all → (word version m : ℕ)
    → times (by_first word version m) (sets_of all) ≡ cond (nat_lt 0 version && nat_le version (sets_asked asked word m)) 1 0
first_sets asked all h word version zero = none_first word version (sets_of all) ∙ bit version where
  bit : (v : ℕ) → 0 ≡ cond {A = ℕ} (nat_lt 0 v && nat_le v 0) 1 0
  bit v = grind (arith, nat_tests)
first_sets asked all h word version (suc m) =
    let last : suc m - 1 ≡ m = omega arith in
    let here : times (λ (deed : Deed). is_at word version deed && (deed.action == suc m)) (sets_of all)
    ≡ cond ((sets_asked asked word m + 1) == version) (times (λ (one : Flagging). one.word == word) (asked (suc m)).sets) 0 =
    number_sets asked all h word version (suc m) (omega arith)
    ∙ ap (λ n. cond ((sets_asked asked word n + 1) == version) (times (λ (one : Flagging). one.word == word) (asked (suc m)).sets) 0) last in
    first_more word version m (sets_of all)
    ∙ ap (λ z. z + times (by_first word version m) (sets_of all)) here
    ∙ ap (λ z. cond ((sets_asked asked word m + 1) == version) (times (λ (one : Flagging). one.word == word) (asked (suc m)).sets) 0 + z)
    (first_sets asked all h word version m)
    ∙ bit (times (λ (one : Flagging). one.word == word) (asked (suc m)).sets) (sets_asked asked word m) (h.once (suc m) word) where
      bit : (t s : ℕ) → t ≤ 1 → cond {A = ℕ} ((s + 1) == version) t 0 + cond (nat_lt 0 version && nat_le version s) 1 0
          ≡ cond (nat_lt 0 version && nat_le version (t + s)) 1 0
      bit zero s b = off ((s + 1) == version) where
        off : (c : Bool) → cond {A = ℕ} c 0 0 + cond (nat_lt 0 version && nat_le version s) 1 0 ≡ cond (nat_lt 0 version && nat_le version (zero + s)) 1 0
        off true = grind (arith, nat_tests)
        off false = grind (arith, nat_tests)
      bit (suc zero) s b = grind (arith, nat_tests)
      bit (suc (suc t)) s b = absurd (omega (arith, b))

both_true : (a b : Bool) → a ≡ true → b ≡ true → a && b ≡ true
both_true true true e f = refl
both_true true false e f = f
both_true false b e f = e

right_of : (a b : Bool) → a && b ≡ true → b ≡ true
right_of true b e = e
right_of false b e = absurd (cc)

add_true : (a b : Bool) → b ≡ true → a ≡ a && b
add_true true b e = sym e
add_true false b e = refl

range_true : (n m : ℕ) → (0 < n) × (n ≤ m) → (nat_lt 0 n && nat_le n m) ≡ true
range_true n m h = both_true (nat_lt 0 n) (nat_le n m) (less h.0) (low h.1) where
  less : 0 < n → nat_lt 0 n ≡ true
  less p = grind (arith, nat_tests)

  low : n ≤ m → nat_le n m ≡ true
  low p = grind (arith, nat_tests)

range_of : (n m : ℕ) → (nat_lt 0 n && nat_le n m) ≡ true → (0 < n) × (n ≤ m)
range_of n m e = on (nat_lt 0 n) (nat_le n m) refl refl e where
  on : (a b : Bool) → nat_lt 0 n ≡ a → nat_le n m ≡ b → a && b ≡ true → (0 < n) × (n ≤ m)
  on true true p q e = (less p, low q) where
    less : nat_lt 0 n ≡ true → 0 < n
    less p = grind (arith, nat_tests)

    low : nat_le n m ≡ true → n ≤ m
    low q = grind (arith, nat_tests)
  on true false p q e = absurd (cc)
  on false b p q e = absurd (cc)

-- what is counted up to a phase is what its actions set
phase_sets : (asked : ℕ → Asked) (all : List Placed) → AreDue asked all → (phase : ℕ) (test : Deed → Bool)
    → times test (sets_of (up_to_phase phase all))
    ≡ times (λ (deed : Deed). test deed && (nat_lt 0 deed.action && nat_le deed.action (acts_up_to phase all))) (sets_of all)
phase_sets asked all h phase test =
    times_same test within (sets_of (up_to_phase phase all)) (λ deed i. add_true (test deed) (nat_lt 0 deed.action && nat_le deed.action (acts_up_to phase all))
    (range_true deed.action (acts_up_to phase all) (within_phase all phase all h.actions h.begun deed i)))
    ∙ outside_phase all phase within all h.actions h.begun
    (λ deed e. range_of deed.action (acts_up_to phase all) (right_of (test deed) (nat_lt 0 deed.action && nat_le deed.action (acts_up_to phase all)) e)) where
      within : Deed → Bool
      within deed = test deed && (nat_lt 0 deed.action && nat_le deed.action (acts_up_to phase all))

pub chained : (asked : ℕ → Asked) (all : List Placed) → AreDue asked all → AreChained word_change all
chained asked all h phase c =
    sym (deeds_changes (λ row version. (row == c.row) && (version == c.version)) (up_to_phase phase all))
    ∙ phase_sets asked all h phase (is_at c.row c.version)
    ∙ first_sets asked all h c.row c.version (acts_up_to phase all)
    ∙ ap (λ z. cond (nat_lt 0 c.version && nat_le c.version z) 1 0) (sym count) where
      count : times (is_of c.row) (each_of word_change (up_to_phase phase all)) ≡ sets_asked asked c.row (acts_up_to phase all)
      count =
          sym (deeds_changes (λ row version. row == c.row) (up_to_phase phase all))
          ∙ phase_sets asked all h phase (λ deed. deed.row == c.row)
          ∙ earlier_asked asked all (set_as_asked asked all h) c.row (acts_up_to phase all)

-- along a word the actions never fall
no_release : (ps : List Placed) (deed : Deed) → IsAmong deed (sets_of ps) → deed.releases ≡ false
no_release [] deed i = absurd i
no_release (p ∷ ps) deed i = front p.entry i (no_release ps deed) where
  front : (entry : Entry) → IsAmong deed (set_at p.context.action entry ++ sets_of ps) → (IsAmong deed (sets_of ps) → deed.releases ≡ false) → deed.releases ≡ false
  front (says.Set word version flags) (inl e) go = ap (λ (z : Deed). z.releases) (sym e)
  front (says.Set word version flags) (inr j) go = go j
  front _ j go = go j

asked_more : (asked : ℕ → Asked) (word number : ℕ) → 0 < number
    → sets_asked asked word number ≡ times (λ (one : Flagging). one.word == word) (asked number).sets + sets_asked asked word (number - 1)
asked_more asked word zero h = absurd (omega (arith, h))
asked_more asked word (suc n) h =
    let last : n ≡ suc n - 1 = omega arith in
    ap (λ z. times (λ (one : Flagging). one.word == word) (asked (suc n)).sets + sets_asked asked word z) last

never_less : (asked : ℕ → Asked) (word low more : ℕ) → sets_asked asked word low ≤ sets_asked asked word (more + low)
never_less asked word low zero = subst (λ z. sets_asked asked word low ≤ sets_asked asked word z) is (omega arith) where
  is : low ≡ 0 + low
  is = omega arith
never_less asked word low (suc more) =
    let rest : sets_asked asked word low ≤ sets_asked asked word (more + low) = never_less asked word low more in
    subst (λ z. sets_asked asked word low ≤ sets_asked asked word z) is (omega (arith, rest)) where
      is : suc (more + low) ≡ suc more + low
      is = omega arith

up_to : (asked : ℕ → Asked) (word low high : ℕ) → low ≤ high → sets_asked asked word low ≤ sets_asked asked word high
up_to asked word low high h =
    let sum : (high - low) + low ≡ high = omega (arith, h) in
    subst (λ z. sets_asked asked word low ≤ sets_asked asked word z) sum (never_less asked word low (high - low))

pub record IsNextSet (asked : ℕ → Asked) (deed : Deed) : Type 0 where
  pub positive : 0 < deed.action
  pub version_is : deed.version ≡ sets_asked asked deed.row (deed.action - 1) + 1
  pub asks : 0 < times (λ (one : Flagging). one.word == deed.row) (asked deed.action).sets

next_set : (asked : ℕ → Asked) (all : List Placed) → AreDue asked all → (deed : Deed) → IsAmong deed (sets_of all) → IsNextSet asked deed
next_set asked all h deed i = on ((sets_asked asked deed.row (deed.action - 1) + 1) == deed.version) refl some where
  positive : 0 < deed.action
  positive = (within_phase all (top all) all h.actions h.begun deed (subst (λ z. IsAmong deed (sets_of z)) (sym (all_phases all)) i)).0

  some : 0 < cond ((sets_asked asked deed.row (deed.action - 1) + 1) == deed.version) (times (λ (one : Flagging). one.word == deed.row) (asked deed.action).sets) 0
  some =
      subst (λ z. 0 < z) (number_sets asked all h deed.row deed.version deed.action positive)
      (some_times (λ (other : Deed). is_at deed.row deed.version other && (other.action == deed.action)) deed (sets_of all) i
      (rw (self_is deed.row, self_is deed.version, self_is deed.action) refl))

  on : (b : Bool) → ((sets_asked asked deed.row (deed.action - 1) + 1) == deed.version) ≡ b
      → 0 < cond b (times (λ (one : Flagging). one.word == deed.row) (asked deed.action).sets) 0 → IsNextSet asked deed
  on true e some = record {
    positive = positive;
    version_is = sym (same_is (sets_asked asked deed.row (deed.action - 1) + 1) deed.version e);
    asks = some;
  }
  on false e some = absurd (omega (arith, some))

pub never_fall : (asked : ℕ → Asked) (all : List Placed) → AreDue asked all → NeverFall (sets_of all)
never_fall asked all h first next i j before = at (nat_le first.action next.action) refl before where
  one : IsNextSet asked first
  one = next_set asked all h first i

  other : IsNextSet asked next
  other = next_set asked all h next j

  at : (b : Bool) → nat_le first.action next.action ≡ b → StandsBefore first next → first.action ≤ next.action
  at true e before = grind (arith, nat_tests)
  at false e (same, inl low) =
      let high : next.action < first.action = above e in
      let word : sets_asked asked next.row (next.action - 1) ≡ sets_asked asked first.row (next.action - 1) = ap (λ z. sets_asked asked z (next.action - 1)) (sym same) in
      let asks : 0 < times (λ (one : Flagging). one.word == first.row) (asked next.action).sets =
      subst (λ z. 0 < times (λ (one : Flagging). one.word == z) (asked next.action).sets) (sym same) other.asks in
      absurd (omega (
        arith,
        low,
        one.version_is,
        other.version_is,
        word,
        asks,
        asked_more asked first.row next.action other.positive,
        up_to asked first.row next.action (first.action - 1) (omega (arith, high)),
      )) where
        above : nat_le first.action next.action ≡ false → next.action < first.action
        above e = grind (arith, nat_tests)
  at false e (same, inr stays) = absurd (wrong (sym (no_release all next j) ∙ stays.2)) where
    wrong : false ≡ true → ⊥
    wrong f = cc
