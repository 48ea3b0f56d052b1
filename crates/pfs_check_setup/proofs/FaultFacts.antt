-- The first line at which the sets of actions fail.
use Rattle.std.proofs.Common.{◌≡◌, refl, ℕ, zero, suc, ◌+◌, ◌<◌, ◌≤◌, inl, inr, ◌==◌, Bool, true, false, ◌&&◌, cond, nat_lt, nat_le, List, [], ◌∷◌, ◌++◌, get_or, length, map, take, sym, ◌∙◌, ap, subst, arith, Option, Some, None}
use Rattle.std.specs.Prelude.{◌⊎◌, slice_get}
use Rattle.std.proofs.lemmas.Bool.Decides.{nat_tests}
use Rattle.std.proofs.lemmas.List.{length-append}
use Rattle.std.proofs.lemmas.Option.{same_Some, slice_get-get_or}
use Rattle.std.specs.BTreeMap.{BTreeMap, get}
use Rattle.pfs_event.specs.declared.entry.Entry.{Entry}
use Rattle.pfs_event.specs.declared.entry.Entry.TheVariants as says
use Rattle.pfs_journal.specs.declared.report.ReportParts.{ReportParts}
use Rattle.pfs_model.proofs.ChainGrowth.{times_append}
use Rattle.pfs_model.specs.ActionAsks.{Asked, Flagging, of_action}
use Rattle.pfs_model.specs.Actions.{IsAmong, settings_of}
use Rattle.pfs_model.specs.Chains.{AreChained, action_change, change_at, each_of, is_of, is_that, times}
use Rattle.pfs_model.specs.EntryPlaces.{Placed}
use Rattle.pfs_check_faults.proofs.ChainFacts.{among_times, bit_yes, that_self}
use Rattle.pfs_check_faults.proofs.MemberCounts.{among_right}
use Rattle.pfs_check_faults.specs.ActionFaults.{BeginsAt, BeginsOn, SetsFail, moving_at, sets_due}
use Rattle.pfs_check_faults.specs.ReportCases.{entry_lines}
use Rattle.pfs_check_versions.specs.LinkTests.{change_cmp}
use Rattle.pfs_check_versions.specs.VersionRules.{IsFound, StandsAt}
use Rattle.pfs_check_versions.specs.declared.changes.Made.{Made}
use Rattle.pfs_check_versions.specs.declared.judging.Versions.{Versions}
use Rattle.pfs_check_orders.specs.ActionOrders.{entries_in}
use Rattle.pfs_check_orders.specs.declared.orders.Order.{Order}
use Rattle.pfs_check_setup.specs.DueSets.{AreAskedFor, Differs, IsFirstDifference, is_set_of}
use Rattle.pfs_check_setup.specs.PrintedActions.{count_in, sets_in, setting_by}
use Rattle.pfs_check_setup.specs.SetupRules.{AreActionsAsked, AreOrdered, FailsFirst, IsActionAsked, IsOrdered, KnowsActions, lower_line}
use Rattle.pfs_check_setup.specs.declared.printed.PrintedActions.{PrintedActions}
use Rattle.pfs_check_setup.specs.declared.sets.WordSet.{WordSet}
use Rattle.pfs_check_setup.proofs.ActionPhases.{once_begun, whole_actions}
use Rattle.pfs_check_setup.proofs.CompareFacts.{settings_differ}

-- the numbers of actions are of row 0
action_row : (entry : Entry) → times (is_of 0) (action_change entry) ≡ length (action_change entry)
action_row (says.Connect action thread account user host) = refl
action_row (says.Act action) = refl
action_row _ = refl

pub all_actions : (ps : List Placed) → times (is_of 0) (each_of action_change ps) ≡ length (each_of action_change ps)
all_actions [] = refl
all_actions (p ∷ ps) =
    times_append (is_of 0) (action_change p.entry) (each_of action_change ps)
    ∙ ap (λ z. z + times (is_of 0) (each_of action_change ps)) (action_row p.entry)
    ∙ ap (λ z. length (action_change p.entry) + z) (all_actions ps)
    ∙ sym (length-append (action_change p.entry) (each_of action_change ps))

-- where an action begins
begins_there : (number : ℕ) (ps : List Placed) (at : ℕ) (p : Placed) → slice_get ps at ≡ Some p → action_change p.entry ≡ change_at 0 number ∷ []
    → BeginsAt number ps at
begins_there number [] at p e a = absurd (cc)
begins_there number (q ∷ ps) zero p e a = ap (λ (z : Placed). action_change z.entry) (same_Some q p e) ∙ a
begins_there number (q ∷ ps) (suc at) p e a = begins_there number ps at p e a

begins_among : (number : ℕ) (ps : List Placed) (at : ℕ) → BeginsAt number ps at → IsAmong (change_at 0 number) (each_of action_change ps)
begins_among number [] at b = absurd b
begins_among number (q ∷ ps) zero b = subst (λ z. IsAmong (change_at 0 number) (z ++ each_of action_change ps)) (sym b) (inl refl)
begins_among number (q ∷ ps) (suc at) b =
    among_right (change_at 0 number) (action_change q.entry) (each_of action_change ps) (begins_among number ps at b)

begins_once : (number : ℕ) (ps : List Placed) (at other : ℕ) → times (is_that (change_at 0 number)) (each_of action_change ps) ≤ 1
    → BeginsAt number ps at → BeginsAt number ps other → at ≡ other
begins_once number [] at other few b c = absurd b
begins_once number (q ∷ ps) zero zero few b c = refl
begins_once number (q ∷ ps) zero (suc other) few b c = absurd (twice q ps other few b c) where
  twice : (q : Placed) (ps : List Placed) (other : ℕ) → times (is_that (change_at 0 number)) (each_of action_change (q ∷ ps)) ≤ 1
      → action_change q.entry ≡ change_at 0 number ∷ [] → BeginsAt number ps other → ⊥
  twice q ps other few b c =
      let one : times (is_that (change_at 0 number)) (action_change q.entry) ≡ 1 =
      ap (times (is_that (change_at 0 number))) b ∙ ap (λ z. cond {A = ℕ} z 1 0 + 0) (that_self (change_at 0 number)) in
      omega (
        arith,
        few,
        one,
        times_append (is_that (change_at 0 number)) (action_change q.entry) (each_of action_change ps),
        among_times (change_at 0 number) (each_of action_change ps) (begins_among number ps other c),
      )
begins_once number (q ∷ ps) (suc at) zero few b c = absurd (twice q ps at few c b) where
  twice : (q : Placed) (ps : List Placed) (other : ℕ) → times (is_that (change_at 0 number)) (each_of action_change (q ∷ ps)) ≤ 1
      → action_change q.entry ≡ change_at 0 number ∷ [] → BeginsAt number ps other → ⊥
  twice q ps other few b c =
      let one : times (is_that (change_at 0 number)) (action_change q.entry) ≡ 1 =
      ap (times (is_that (change_at 0 number))) b ∙ ap (λ z. cond {A = ℕ} z 1 0 + 0) (that_self (change_at 0 number)) in
      omega (
        arith,
        few,
        one,
        times_append (is_that (change_at 0 number)) (action_change q.entry) (each_of action_change ps),
        among_times (change_at 0 number) (each_of action_change ps) (begins_among number ps other c),
      )
begins_once number (q ∷ ps) (suc at) (suc other) few b c =
    ap suc (begins_once number ps at other (omega (arith, few, times_append (is_that (change_at 0 number)) (action_change q.entry) (each_of action_change ps))) b c)

begins_same : (report : ReportParts) (all : List Placed) (number one other : ℕ) → AreChained action_change all
    → BeginsOn report all number one → BeginsOn report all number other → one ≡ other
begins_same report all number one other chained b c =
    same_Some one other (sym b.2 ∙ ap (slice_get (entry_lines report)) (begins_once number all b.0 c.0 (once_begun all number chained) b.1 c.1) ∙ c.2)

number_within : (all : List Placed) (number at : ℕ) → AreChained action_change all → BeginsAt number all at → number ≤ length (each_of action_change all)
number_within all number at chained b =
    let some : 0 < times (is_that (change_at 0 number)) (each_of action_change all) =
    among_times (change_at 0 number) (each_of action_change all) (begins_among number all at b) in
    let bits : (nat_lt 0 number ≡ true) × (nat_le number (times (is_of 0) (each_of action_change all)) ≡ true) =
    bit_yes (nat_lt 0 number) (nat_le number (times (is_of 0) (each_of action_change all))) (omega (arith, some, whole_actions all chained (change_at 0 number))) in
    omega (arith, low number (times (is_of 0) (each_of action_change all)) bits.1, all_actions all) where
      low : (n m : ℕ) → nat_le n m ≡ true → n ≤ m
      low n m e = grind (arith, nat_tests)

-- and each action begins somewhere
pub stands_somewhere : (all : List Placed) (number : ℕ) → AreChained action_change all → 0 < number → number ≤ length (each_of action_change all)
    → times (is_that (change_at 0 number)) (each_of action_change all) ≡ 0 → ⊥
stands_somewhere all number chained above high none =
    let one : times (is_that (change_at 0 number)) (each_of action_change all) ≡ 1 =
    whole_actions all chained (change_at 0 number) ∙ bit number (times (is_of 0) (each_of action_change all)) above (omega (arith, high, all_actions all)) in
    omega (arith, none, one) where
      bit : (n m : ℕ) → 0 < n → n ≤ m → cond {A = ℕ} (nat_lt 0 n && nat_le n m) 1 0 ≡ 1
      bit n m h k = grind (arith, nat_tests)

-- the sets of an action, as the model has them
pub model_differs : (report : ReportParts) (asked : ℕ → Asked) (all : List Placed) (printed : PrintedActions) (actions : Versions) (number : ℕ)
    (due own : List WordSet) (at : Option ℕ) → KnowsActions report all printed actions → map (setting_by number) due ≡ sets_due asked number
    → own ≡ sets_in printed.sets number → IsFirstDifference due own at
    → IsFirstDifference (sets_due asked number) (settings_of (of_action number all)) at
model_differs report asked all printed actions number due own at knows is same d =
    subst (λ z. IsFirstDifference z (settings_of (of_action number all)) at) is
    (subst (λ z. IsFirstDifference (map (setting_by number) due) z at) (ap (map (setting_by number)) same ∙ knows.printed_are.sets number)
    (settings_differ number due own at d))

-- the fault of an action
pub fault_is : (report : ReportParts) (asked : ℕ → Asked) (all : List Placed) (printed : PrintedActions) (actions : Versions) (number at line : ℕ)
    (made : Made) → KnowsActions report all printed actions → 0 < number
    → Differs (sets_due asked number) (settings_of (of_action number all)) at
    → get change_cmp actions.made (change_at 0 number) ≡ Some made → line ≡ made.line + 1 + count_in printed.changes number + at
    → FailsFirst report asked all (λ other. other ≡ number) line
fault_is report asked all printed actions number at line made knows positive differs e on =
    record { fails = fault; first = before } where
      stands : StandsAt action_change report all (change_at 0 number) made
      stands = subst (IsFound action_change report all (change_at 0 number)) e (knows.index.each (change_at 0 number))

      begins : BeginsOn report all number made.line
      begins = (stands.at, begins_there number all stands.at stands.place stands.there stands.gives, stands.line)

      line_is : line ≡ made.line + 1 + length (each_of moving_at (of_action number all)) + at
      line_is = on ∙ ap (λ z. made.line + 1 + z + at) (knows.printed_are.changes number)

      fault : SetsFail report asked all line
      fault = record {
        number = number;
        begins = made.line;
        at = at;
        positive = positive;
        begins_is = begins;
        line_is = line_is;
        within = differs.within;
        wrong = differs.wrong;
      }

      before : (other : ℕ) → other < line → (f : SetsFail report asked all other) → f.number ≡ number → ⊥
      before other less f own =
          let there : BeginsOn report all number f.begins = subst (λ z. BeginsOn report all z f.begins) own f.begins_is in
          let here : f.begins ≡ made.line = begins_same report all number f.begins made.line knows.chained there begins in
          let few : length (each_of moving_at (of_action f.number all)) ≡ length (each_of moving_at (of_action number all)) =
          ap (λ z. length (each_of moving_at (of_action z all))) own in
          let low : f.at < at = omega (arith, less, line_is, f.line_is, here, few) in
          f.wrong (subst (λ z. take (f.at + 1) (sets_due asked z) ≡ take (f.at + 1) (settings_of (of_action z all))) (sym own) (differs.before f.at low))

-- one action more
pub counted_more : (asked : ℕ → Asked) (entries : List Entry) (order : Order) (before : ℕ) (old new : BTreeMap ℕ ℕ) → IsOrdered asked entries order before
    → AreAskedFor asked old before → ((word : ℕ) → count_in new word ≡ times (is_set_of word) (entries_in entries order) + count_in old word)
    → AreAskedFor asked new (suc before)
counted_more asked entries order before old new is are grown = record {
  each =
      λ word. grown word ∙ ap (λ z. z + count_in old word) (is.words word)
      ∙ ap (λ z. times (λ (one : Flagging). one.word == word) (asked (suc before)).sets + z) (are.each word);
}

pub none_counted : (asked : ℕ → Asked) (counts : BTreeMap ℕ ℕ) → ((key : ℕ) → count_in counts key ≡ 0) → AreAskedFor asked counts 0
none_counted asked counts none = record { each = none }

pub ordered_at : (asked : ℕ → Asked) (all : List Placed) (entries : List Entry) (orders : List Order) (before : ℕ) (fill : Order)
    → AreOrdered asked all entries orders → before < length orders → IsOrdered asked entries (get_or orders before fill) before
ordered_at asked all entries orders before fill ordered h =
    ordered.each before (get_or orders before fill) (slice_get-get_or orders before fill h)

pub none_asked_yet : (report : ReportParts) (asked : ℕ → Asked) (all : List Placed) → AreActionsAsked report asked all 0 None
none_asked_yet report asked all number positive low = absurd (omega (arith, positive, low))

last_or : (number count : ℕ) → number ≤ suc count → (number ≤ count) ⊎ (number ≡ suc count)
last_or number count h = at (number == suc count) refl where
  at : (t : Bool) → (number == suc count) ≡ t → (number ≤ count) ⊎ (number ≡ suc count)
  at true e = inr (grind (arith, nat_tests))
  at false e = inl (grind (arith, nat_tests))

kept_fails : (report : ReportParts) (asked : ℕ → Asked) (all : List Placed) (line number : ℕ) (f : SetsFail report asked all line) → f.number ≡ number
    → sets_due asked number ≡ settings_of (of_action number all) → ⊥
kept_fails report asked all line number f same e =
    f.wrong (ap (take (f.at + 1)) (subst (λ z. sets_due asked z ≡ settings_of (of_action z all)) (sym same) e))

pub one_asked : (report : ReportParts) (asked : ℕ → Asked) (all : List Placed) (count : ℕ) (one other : Option ℕ)
    → AreActionsAsked report asked all count one → IsActionAsked report asked all (suc count) other
    → AreActionsAsked report asked all (suc count) (lower_line one other)
one_asked report asked all count None None a b = λ number positive low. by number positive (last_or number count low) where
  by : (number : ℕ) → 0 < number → (number ≤ count) ⊎ (number ≡ suc count) → sets_due asked number ≡ settings_of (of_action number all)
  by number positive (inl less) = a number positive less
  by number positive (inr same) = subst (λ z. sets_due asked z ≡ settings_of (of_action z all)) (sym same) b
one_asked report asked all count None (Some line) a b = record {
  fails = b.fails;
  first = λ other less f mine. by other less f (last_or f.number count mine);
} where
  by : (other : ℕ) → other < line → (f : SetsFail report asked all other) → (f.number ≤ count) ⊎ (f.number ≡ suc count) → ⊥
  by other less f (inl low) = kept_fails report asked all other f.number f refl (a f.number f.positive low)
  by other less f (inr same) = b.first other less f same
one_asked report asked all count (Some line) None a b = record {
  fails = a.fails;
  first = λ other less f mine. by other less f (last_or f.number count mine);
} where
  by : (other : ℕ) → other < line → (f : SetsFail report asked all other) → (f.number ≤ count) ⊎ (f.number ≡ suc count) → ⊥
  by other less f (inl low) = a.first other less f low
  by other less f (inr same) = kept_fails report asked all other (suc count) f same b
one_asked report asked all count (Some line) (Some next) a b = at (nat_le line next) refl where
  by : (other : ℕ) → other < line → other < next → (f : SetsFail report asked all other) → (f.number ≤ count) ⊎ (f.number ≡ suc count) → ⊥
  by other less more f (inl low) = a.first other less f low
  by other less more f (inr same) = b.first other more f same

  at : (t : Bool) → nat_le line next ≡ t → FailsFirst report asked all (λ number. number ≤ suc count) (cond t line next)
  at true e = record {
    fails = a.fails;
    first = λ other less f mine. by other less (up other less) f (last_or f.number count mine);
  } where
    up : (other : ℕ) → other < line → other < next
    up other less = grind (arith, nat_tests)
  at false e = record {
    fails = b.fails;
    first = λ other less f mine. by other (up other less) less f (last_or f.number count mine);
  } where
    up : (other : ℕ) → other < next → other < line
    up other less = grind (arith, nat_tests)

-- all of them: there are no others
pub fails_within : (report : ReportParts) (asked : ℕ → Asked) (all : List Placed) (line : ℕ) → AreChained action_change all
    → (f : SetsFail report asked all line) → f.number ≤ length (each_of action_change all)
fails_within report asked all line chained f = number_within all f.number f.begins_is.0 chained f.begins_is.1

pub fewer_asked : (report : ReportParts) (asked : ℕ → Asked) (all : List Placed) (low high : ℕ) (line : Option ℕ) → low ≤ high
    → AreActionsAsked report asked all high line → AreActionsAsked report asked all low line
fewer_asked report asked all low high None h a = λ number positive less. a number positive (omega (arith, less, h))
fewer_asked report asked all low high (Some line) h a = record {
  fails = a.fails;
  first = λ other less f mine. a.first other less f (omega (arith, mine, h));
}
