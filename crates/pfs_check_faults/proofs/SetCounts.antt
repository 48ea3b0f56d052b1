-- Where each action sets what it asks for, each set has the next version of its word along the actions.
use Rattle.std.proofs.Common.{◌≡◌, refl, ℕ, zero, suc, ◌+◌, ◌-◌, ◌<◌, ◌≤◌, inl, inr, ◌==◌, Bool, true, false, ◌&&◌, cond, nat_lt, nat_le, List, [], ◌∷◌, ◌++◌, sym, ◌∙◌, ap, subst, arith}
use Rattle.std.proofs.lemmas.Bool.Decides.{nat_tests}
use Rattle.pfs_event.specs.declared.entry.Entry.{Entry}
use Rattle.pfs_event.specs.declared.entry.Entry.TheVariants as says
use Rattle.pfs_model.proofs.ChainGrowth.{times_append}
use Rattle.pfs_model.specs.declared.changes.Change.{Change}
use Rattle.pfs_model.specs.ActionAsks.{Asked, Did, Flagged, Flagging, Freed, Gave, Tagged, Took, flagged_by, of_action}
use Rattle.pfs_model.specs.Actions.{Deed, IsAmong, NeverFall, Setting, is_acted, set_at, setting_at, settings_of, sets_of}
use Rattle.pfs_model.specs.Chains.{AreChained, Each, IsChained, change_at, each_of, is_of, is_that, times, word_change}
use Rattle.pfs_model.specs.EntryPlaces.{Placed}
use Rattle.pfs_check_faults.proofs.ActedEntries.{HasAction}
use Rattle.pfs_check_faults.proofs.ChainFacts.{all_phases, among_times, bit_yes, rows_below, top, upto_ones}
use Rattle.pfs_check_faults.proofs.MemberCounts.{among_left, among_right, each_among, once_same, one_bit, same_is, same_test, self_is, some_times, times_same}
use Rattle.pfs_check_faults.specs.ActionFaults.{SetAsAsked, flagging_at, sets_asked, sets_due, sets_due_of}

-- a set of a word: by an action, by those from 1 up to one, at a version, up to a version
abbrev by_action : ℕ → ℕ → Deed → Bool
by_action word number deed = (deed.row == word) && (deed.action == number)

abbrev by_earlier : ℕ → ℕ → Deed → Bool
by_earlier word number deed = (deed.row == word) && (nat_lt 0 deed.action && nat_le deed.action number)

abbrev at_version : ℕ → ℕ → Deed → Bool
at_version word version deed = (deed.row == word) && (deed.version == version)

abbrev up_to_version : ℕ → ℕ → Deed → Bool
up_to_version word version deed = (deed.row == word) && nat_le deed.version version

abbrev is_flag : ℕ → Did → Bool
is_flag word (Flagged at flags) = at == word
is_flag word (Took row) = false
is_flag word (Gave row from) = false
is_flag word (Freed row) = false
is_flag word (Tagged row) = false

pub flags_times : (word : ℕ) (sets : List Flagging) → times (is_flag word) (flagged_by sets) ≡ times (λ (one : Flagging). one.word == word) sets
flags_times word [] = refl
flags_times word (one ∷ others) = ap (λ z. cond (one.word == word) 1 0 + z) (flags_times word others)

-- the sets that an action has
acts_here : (word number action : ℕ) (b : Bool) → (action == number) ≡ b → (entry : Entry)
    → times (by_action word number) (set_at action entry) ≡ cond b (times (is_flag word) (flagging_at entry)) 0
acts_here word number action b e (says.Set at version flags) = by b e (at == word) where
  by : (b : Bool) → (action == number) ≡ b → (w : Bool) → cond {A = ℕ} (w && (action == number)) 1 0 + 0 ≡ cond b (cond w 1 0 + 0) 0
  by true e true = rw e refl
  by true e false = refl
  by false e true = rw e refl
  by false e false = refl
acts_here word number action true e _ = refl
acts_here word number action false e _ = refl

pub acts_times : (word number : ℕ) (ps : List Placed)
    → times (by_action word number) (sets_of ps) ≡ times (is_flag word) (each_of flagging_at (of_action number ps))
acts_times word number [] = refl
acts_times word number (p ∷ ps) = at (p.context.action == number) refl (acts_times word number ps)
    (times_append (by_action word number) (set_at p.context.action p.entry) (sets_of ps)) where
      at : (b : Bool) → (p.context.action == number) ≡ b
          → times (by_action word number) (sets_of ps) ≡ times (is_flag word) (each_of flagging_at (of_action number ps))
          → times (by_action word number) (set_at p.context.action p.entry ++ sets_of ps)
          ≡ times (by_action word number) (set_at p.context.action p.entry) + times (by_action word number) (sets_of ps)
          → times (by_action word number) (set_at p.context.action p.entry ++ sets_of ps)
          ≡ times (is_flag word) (each_of flagging_at (cond b (p ∷ []) [] ++ of_action number ps))
      at true e h sum =
          let here : times (by_action word number) (set_at p.context.action p.entry) ≡ times (is_flag word) (flagging_at p.entry) =
          acts_here word number p.context.action true e p.entry in
          let more : times (is_flag word) (flagging_at p.entry ++ each_of flagging_at (of_action number ps))
          ≡ times (is_flag word) (flagging_at p.entry) + times (is_flag word) (each_of flagging_at (of_action number ps)) =
          times_append (is_flag word) (flagging_at p.entry) (each_of flagging_at (of_action number ps)) in
          omega (arith, h, sum, here, more)
      at false e h sum =
          let here : times (by_action word number) (set_at p.context.action p.entry) ≡ 0 = acts_here word number p.context.action false e p.entry in
          omega (arith, h, sum, here)

-- one action more
bits_more : (r : Bool) (action m : ℕ)
    → cond {A = ℕ} (r && (nat_lt 0 action && nat_le action (suc m))) 1 0
    ≡ cond (r && (action == suc m)) 1 0 + cond (r && (nat_lt 0 action && nat_le action m)) 1 0
bits_more false action m = refl
bits_more true action m = grind (arith, nat_tests)

pub earlier_more : (word m : ℕ) (deeds : List Deed)
    → times (by_earlier word (suc m)) deeds ≡ times (by_action word (suc m)) deeds + times (by_earlier word m) deeds
earlier_more word m [] = refl
earlier_more word m (deed ∷ deeds) =
    omega (arith, bits_more (deed.row == word) deed.action m, earlier_more word m deeds)

pub none_earlier : (word : ℕ) (deeds : List Deed) → times (by_earlier word 0) deeds ≡ 0
none_earlier word [] = refl
none_earlier word (deed ∷ deeds) = omega (arith, bit (deed.row == word) deed.action, none_earlier word deeds) where
  bit : (r : Bool) (action : ℕ) → cond {A = ℕ} (r && (nat_lt 0 action && nat_le action 0)) 1 0 ≡ 0
  bit false action = refl
  bit true action = grind (arith, nat_tests)

-- so many sets are asked for by the actions up to one as they have
pub earlier_asked : (asked : ℕ → Asked) (all : List Placed) → SetAsAsked asked all → (word m : ℕ)
    → times (by_earlier word m) (sets_of all) ≡ sets_asked asked word m
earlier_asked asked all set word zero = none_earlier word (sets_of all)
earlier_asked asked all set word (suc m) =
    let more : times (by_earlier word (suc m)) (sets_of all) ≡ times (by_action word (suc m)) (sets_of all) + times (by_earlier word m) (sets_of all) =
    earlier_more word m (sets_of all) in
    let here : times (by_action word (suc m)) (sets_of all) ≡ times (λ (one : Flagging). one.word == word) (asked (suc m)).sets =
    acts_times word (suc m) all ∙ ap (times (is_flag word)) (set (suc m) (omega arith)) ∙ flags_times word (asked (suc m)).sets in
    let rest : times (by_earlier word m) (sets_of all) ≡ sets_asked asked word m = earlier_asked asked all set word m in
    omega (arith, more, here, rest)

-- deeds and changes are counted alike
pub deeds_changes : (test : ℕ → ℕ → Bool) (ps : List Placed)
    → times (λ (deed : Deed). test deed.row deed.version) (sets_of ps) ≡ times (λ (change : Change). test change.row change.version) (each_of word_change ps)
deeds_changes test [] = refl
deeds_changes test (p ∷ ps) =
    times_append (λ (deed : Deed). test deed.row deed.version) (set_at p.context.action p.entry) (sets_of ps)
    ∙ ap (λ z. z + times (λ (deed : Deed). test deed.row deed.version) (sets_of ps)) (here p.entry)
    ∙ ap (λ z. times (λ (change : Change). test change.row change.version) (word_change p.entry) + z) (deeds_changes test ps)
    ∙ sym (times_append (λ (change : Change). test change.row change.version) (word_change p.entry) (each_of word_change ps)) where
      here : (entry : Entry) → times (λ (deed : Deed). test deed.row deed.version) (set_at p.context.action entry)
          ≡ times (λ (change : Change). test change.row change.version) (word_change entry)
      here (says.Set word version flags) = refl
      here _ = refl

pub whole_chain : (all : List Placed) → AreChained word_change all → IsChained (each_of word_change all)
whole_chain all chained = subst (λ z. IsChained (each_of word_change z)) (all_phases all) (chained (top all))

-- of a word that has a set at version m + 1, m have a lower one
pub versions_below : (cs : List Change) → IsChained cs → (word m : ℕ) → 0 < times (is_that (change_at word (m + 1))) cs
    → times (λ (c : Change). (c.row == word) && nat_le c.version m) cs ≡ m
versions_below cs chain word m some =
    sym (rows_below word m cs (each_among _ cs positive)) ∙ upto_ones m _ one where
      bits : (c : Change) → 0 < times (is_that c) cs → (nat_lt 0 c.version ≡ true) × (nat_le c.version (times (is_of c.row) cs) ≡ true)
      bits c h = bit_yes _ _ (omega (arith, h, chain c))

      positive : (c : Change) → IsAmong c cs → 0 < c.version
      positive c i = low c.version (bits c (among_times c cs i)).0 where
        low : (v : ℕ) → nat_lt 0 v ≡ true → 0 < v
        low v e = grind (arith, nat_tests)

      most : m + 1 ≤ times (is_of word) cs
      most = high (m + 1) (times (is_of word) cs) (bits (change_at word (m + 1)) some).1 where
        high : (v n : ℕ) → nat_le v n ≡ true → v ≤ n
        high v n e = grind (arith, nat_tests)

      one : (v : ℕ) → 0 < v → v ≤ m → times (is_that (change_at word v)) cs ≡ 1
      one v a b = chain (change_at word v) ∙ bit (times (is_of word) cs) (omega (arith, b, most)) where
        bit : (n : ℕ) → v ≤ n → cond {A = ℕ} (nat_lt 0 v && nat_le v n) 1 0 ≡ 1
        bit n h = grind (arith, nat_tests)

-- a set is by an action
pub deed_positive : (ps : List Placed) → Each HasAction ps → (deed : Deed) → IsAmong deed (sets_of ps) → 0 < deed.action
deed_positive [] h deed i = absurd i
deed_positive (p ∷ ps) h deed i = at p.entry h.0 i (deed_positive ps h.1 deed) where
  at : (entry : Entry) → (is_acted entry ≡ true → 0 < p.context.action) → IsAmong deed (set_at p.context.action entry ++ sets_of ps)
      → (IsAmong deed (sets_of ps) → 0 < deed.action) → 0 < deed.action
  at (says.Set word version flags) a (inl e) go = subst (λ (z : Deed). 0 < z.action) e (a refl)
  at (says.Set word version flags) a (inr j) go = go j
  at _ a j go = go j

-- What is known of the sets of words.
pub record AreSets (asked : ℕ → Asked) (all : List Placed) : Type 0 where
  pub set : SetAsAsked asked all
  pub chained : AreChained word_change all
  pub fall : NeverFall (sets_of all)
  pub acted : Each HasAction all
  pub once : (number word : ℕ) → times (λ (one : Flagging). one.word == word) (asked number).sets ≤ 1

-- of two sets of a word the one with the lower version is by the lower action
pub same_order : (asked : ℕ → Asked) (all : List Placed) → AreSets asked all → (word m k : ℕ) (own : Deed) → IsAmong own (sets_of all)
    → own.row ≡ word → own.version ≡ m + 1 → own.action ≡ k + 1 → (deed : Deed) → IsAmong deed (sets_of all)
    → up_to_version word m deed ≡ by_earlier word k deed
same_order asked all h word m k own i row version action deed j = at (deed.row == word) refl where
  acts_once : times (by_action word (k + 1)) (sets_of all) ≤ 1
  acts_once =
      let e : times (by_action word (k + 1)) (sets_of all) ≡ times (λ (one : Flagging). one.word == word) (asked (k + 1)).sets =
      acts_times word (k + 1) all ∙ ap (times (is_flag word)) (h.set (k + 1) (omega arith)) ∙ flags_times word (asked (k + 1)).sets in
      omega (arith, e, h.once (k + 1) word)

  versions_once : times (at_version word (m + 1)) (sets_of all) ≤ 1
  versions_once =
      let e : times (at_version word (m + 1)) (sets_of all) ≡ times (is_that (change_at word (m + 1))) (each_of word_change all) =
      deeds_changes (λ r v. (r == word) && (v == m + 1)) all in
      let f : times (is_that (change_at word (m + 1))) (each_of word_change all) ≤ 1 =
      omega (arith, whole_chain all h.chained (change_at word (m + 1)), one_bit (nat_lt 0 (m + 1) && nat_le (m + 1) (times (is_of word) (each_of word_change all)))) in
      omega (arith, e, f)

  positive : 0 < deed.action
  positive = deed_positive all h.acted deed j

  both_true : (a b : Bool) → a ≡ true → b ≡ true → a && b ≡ true
  both_true true true e f = refl
  both_true true false e f = f
  both_true false b e f = e

  at : (r : Bool) → (deed.row == word) ≡ r → r && nat_le deed.version m ≡ r && (nat_lt 0 deed.action && nat_le deed.action k)
  at false e = refl
  at true e = by (nat_le deed.version m) refl where
    same_row : deed.row ≡ own.row
    same_row = same_is deed.row word e ∙ sym row

    -- it isn't of the same action
    other_action : deed.version ≤ m → deed.action ≡ k + 1 → ⊥
    other_action low a =
        let s : deed ≡ own = once_same (by_action word (k + 1)) deed own (sets_of all) acts_once j i
        (both_true (deed.row == word) (deed.action == (k + 1)) e (same_test deed.action (k + 1) a))
        (both_true (own.row == word) (own.action == (k + 1)) (same_test own.row word row) (same_test own.action (k + 1) action)) in
        let v : deed.version ≡ own.version = ap (λ (z : Deed). z.version) s in omega (arith, low, v, version)

    by : (b : Bool) → nat_le deed.version m ≡ b → b ≡ (nat_lt 0 deed.action && nat_le deed.action k)
    by true q =
        let low : deed.version ≤ m = grind (arith, nat_tests) in
        let most : deed.action ≤ own.action = h.fall deed own j i (same_row, inl (omega (arith, low, version))) in
        let less : deed.action ≤ k = under deed.action (omega (arith, most, action)) (other_action low) in
        let above_none : 0 < deed.action = positive in
        sym (both_true (nat_lt 0 deed.action) (nat_le deed.action k) (grind (arith, nat_tests)) (grind (arith, nat_tests))) where
          under : (a : ℕ) → a ≤ k + 1 → (a ≡ k + 1 → ⊥) → a ≤ k
          under a l n = split (a == (k + 1)) refl where
            split : (b : Bool) → (a == (k + 1)) ≡ b → a ≤ k
            split true s = absurd (n (same_is a (k + 1) s))
            split false s = grind (arith, nat_tests)
    by false q = above (deed.version == (m + 1)) refl where
      high : k + 1 ≤ deed.action → false ≡ (nat_lt 0 deed.action && nat_le deed.action k)
      high l = sym (off (nat_lt 0 deed.action) (nat_le deed.action k) (grind (arith, nat_tests))) where
        off : (a b : Bool) → b ≡ false → a && b ≡ false
        off true b e = e
        off false b e = refl

      above : (b : Bool) → (deed.version == (m + 1)) ≡ b → false ≡ (nat_lt 0 deed.action && nat_le deed.action k)
      above true s =
          let d : deed ≡ own = once_same (at_version word (m + 1)) deed own (sets_of all) versions_once j i
          (both_true (deed.row == word) (deed.version == (m + 1)) e s)
          (both_true (own.row == word) (own.version == (m + 1)) (same_test own.row word row) (same_test own.version (m + 1) version)) in
          let a : deed.action ≡ own.action = ap (λ (z : Deed). z.action) d in high (omega (arith, a, action))
      above false s =
          let more : m + 1 < deed.version = grind (arith, nat_tests) in
          let most : own.action ≤ deed.action = h.fall own deed i j (sym same_row, inl (omega (arith, more, version))) in
          high (omega (arith, most, action))

-- a set has the version behind those of the actions before it
pub next_version : (asked : ℕ → Asked) (all : List Placed) → AreSets asked all → (m k : ℕ) (own : Deed) → IsAmong own (sets_of all)
    → own.version ≡ m + 1 → own.action ≡ k + 1 → own.version ≡ sets_asked asked own.row k + 1
next_version asked all h m k own i version action =
    let some : 0 < times (at_version own.row (m + 1)) (sets_of all) =
    some_times (at_version own.row (m + 1)) own (sets_of all) i (rw (self_is own.row, same_test own.version (m + 1) version) refl) in
    let same : times (at_version own.row (m + 1)) (sets_of all) ≡ times (is_that (change_at own.row (m + 1))) (each_of word_change all) =
    deeds_changes (λ r v. (r == own.row) && (v == m + 1)) all in
    let below : times (λ (c : Change). (c.row == own.row) && nat_le c.version m) (each_of word_change all) ≡ m =
    versions_below (each_of word_change all) (whole_chain all h.chained) own.row m (omega (arith, some, same)) in
    let deeds : times (up_to_version own.row m) (sets_of all) ≡ times (λ (c : Change). (c.row == own.row) && nat_le c.version m) (each_of word_change all) =
    deeds_changes (λ r v. (r == own.row) && nat_le v m) all in
    let order : times (up_to_version own.row m) (sets_of all) ≡ times (by_earlier own.row k) (sets_of all) =
    times_same (up_to_version own.row m) (by_earlier own.row k) (sets_of all)
    (same_order asked all h own.row m k own i refl version action) in
    omega (arith, version, below, deeds, order, earlier_asked asked all h.set own.row k)

pub set_version : (asked : ℕ → Asked) (all : List Placed) → AreSets asked all → (number : ℕ) (own : Deed) → IsAmong own (sets_of all)
    → own.action ≡ number → own.version ≡ sets_asked asked own.row (number - 1) + 1
set_version asked all h number own i action =
    next_version asked all h (own.version - 1) (number - 1) own i (omega (arith, above)) (omega (arith, positive, action)) where
      positive : 0 < own.action
      positive = deed_positive all h.acted own i

      above : 0 < own.version
      above =
          let some : 0 < times (at_version own.row own.version) (sets_of all) =
          some_times (at_version own.row own.version) own (sets_of all) i (rw (self_is own.row, self_is own.version) refl) in
          let same : times (at_version own.row own.version) (sets_of all) ≡ times (is_that (change_at own.row own.version)) (each_of word_change all) =
          deeds_changes (λ r v. (r == own.row) && (v == own.version)) all in
          low own.version (bit_yes (nat_lt 0 own.version) (nat_le own.version (times (is_of own.row) (each_of word_change all))) (omega (arith, some, same, whole_chain all h.chained (change_at own.row own.version)))).0 where
            low : (v : ℕ) → nat_lt 0 v ≡ true → 0 < v
            low v e = grind (arith, nat_tests)

-- the sets that are due for what was done
pub due_of : (ℕ → Asked) → ℕ → List Did → List Setting
due_of asked number [] = []
due_of asked number (Flagged word flags ∷ others) = record {
  action = number;
  word = word;
  version = sets_asked asked word (number - 1) + 1;
  flags = flags;
} ∷ due_of asked number others
due_of asked number (Took row ∷ others) = due_of asked number others
due_of asked number (Gave row from ∷ others) = due_of asked number others
due_of asked number (Freed row ∷ others) = due_of asked number others
due_of asked number (Tagged row ∷ others) = due_of asked number others

pub due_flags : (asked : ℕ → Asked) (number : ℕ) (sets : List Flagging) → due_of asked number (flagged_by sets) ≡ sets_due_of asked number sets
unfolding due_of
due_flags asked number [] = refl
due_flags asked number (one ∷ others) = ap (λ z. record {
  action = number;
  word = one.word;
  version = sets_asked asked one.word (number - 1) + 1;
  flags = one.flags;
} ∷ z) (due_flags asked number others)

pub settings_due : (asked : ℕ → Asked) (number : ℕ) (ps : List Placed)
    → ((own : Deed) → IsAmong own (sets_of ps) → own.action ≡ number → own.version ≡ sets_asked asked own.row (number - 1) + 1)
    → settings_of (of_action number ps) ≡ due_of asked number (each_of flagging_at (of_action number ps))
unfolding due_of
settings_due asked number [] h = refl
settings_due asked number (p ∷ ps) h =
    at (p.context.action == number) refl (settings_due asked number ps (λ own i. h own (among_right own (set_at p.context.action p.entry) (sets_of ps) i))) where
      front : p.context.action ≡ number → (entry : Entry) → ((own : Deed) → IsAmong own (set_at p.context.action entry) → own.action ≡ number → own.version ≡ sets_asked asked own.row (number - 1) + 1)
          → (settings : List Setting) (dids : List Did) → settings ≡ due_of asked number dids
          → setting_at p.context.action entry ++ settings ≡ due_of asked number (flagging_at entry ++ dids)
      front a (says.Set word version flags) v settings dids e =
          ap (λ z. record { action = z; word = word; version = version; flags = flags } ∷ settings) a
          ∙ ap (λ z. record { action = number; word = word; version = z; flags = flags } ∷ settings) (v _ (inl refl) a)
          ∙ ap (λ z. record { action = number; word = word; version = sets_asked asked word (number - 1) + 1; flags = flags } ∷ z) e
      front a _ v settings dids e = e

      at : (b : Bool) → (p.context.action == number) ≡ b
          → settings_of (of_action number ps) ≡ due_of asked number (each_of flagging_at (of_action number ps))
          → settings_of (cond b (p ∷ []) [] ++ of_action number ps)
          ≡ due_of asked number (each_of flagging_at (cond b (p ∷ []) [] ++ of_action number ps))
      at true e rest =
          front (same_is p.context.action number e) p.entry (λ own i. h own (among_left own (set_at p.context.action p.entry) (sets_of ps) i))
          (settings_of (of_action number ps)) (each_of flagging_at (of_action number ps)) rest
      at false e rest = rest

-- So the sets of an action are those that are due.
pub sets_are : (asked : ℕ → Asked) (all : List Placed) → AreSets asked all → (number : ℕ) → 0 < number
    → sets_due asked number ≡ settings_of (of_action number all)
sets_are asked all h number positive =
    sym (settings_due asked number all (λ own i. set_version asked all h number own i)
    ∙ ap (due_of asked number) (h.set number positive) ∙ due_flags asked number (asked number).sets)
