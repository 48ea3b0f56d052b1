-- The first line at which the changes of actions fail.
use Rattle.std.proofs.Common.{◌≡◌, refl, ℕ, zero, suc, ◌+◌, ◌<◌, ◌≤◌, ◌⊎◌, inl, inr, ◌==◌, Bool, true, false, ◌&&◌, cond, nat_lt, nat_le, List, [], ◌∷◌, ◌++◌, get_or, length, sym, ◌∙◌, ap, subst, arith, Option, Some, None}
use Rattle.std.specs.Prelude.{Vec, slice_get}
use Rattle.std.specs.BTreeMap.{BTreeMap, get}
use Rattle.std.specs.declared.alloc.Global.{Global}
use Rattle.std.proofs.lemmas.Bool.Decides.{nat_tests}
use Rattle.std.proofs.lemmas.List.{length-append}
use Rattle.std.proofs.lemmas.Option.{same_Some, slice_get-get_or}
use Rattle.pfs_event.specs.declared.entry.Entry.{Entry}
use Rattle.pfs_event.specs.declared.entry.Entry.TheVariants as says
use Rattle.pfs_journal.specs.declared.report.ReportParts.{ReportParts}
use Rattle.pfs_model.proofs.ChainGrowth.{times_append}
use Rattle.pfs_model.specs.ActionAsks.{Asked}
use Rattle.pfs_model.specs.Actions.{IsAmong}
use Rattle.pfs_model.specs.Chains.{AreChained, IsChained, action_change, change_at, each_of, is_of, is_that, times}
use Rattle.pfs_model.specs.Contents.{Given}
use Rattle.pfs_model.specs.EntryPlaces.{Placed}
use Rattle.pfs_check_contents.specs.declared.shelf.Shelf.{Shelf}
use Rattle.pfs_check_faults.proofs.ChainFacts.{all_phases, among_times, bit_yes, that_self, top}
use Rattle.pfs_check_faults.proofs.MemberCounts.{among_right, one_bit}
use Rattle.pfs_check_faults.specs.ActionFaults.{BeginsAt, BeginsOn, MovesFail, MovesUpTo}
use Rattle.pfs_check_faults.specs.ReportCases.{entry_lines}
use Rattle.pfs_check_versions.specs.LinkTests.{change_cmp}
use Rattle.pfs_check_versions.specs.VersionRules.{IsFound, StandsAt}
use Rattle.pfs_check_versions.specs.declared.changes.Made.{Made}
use Rattle.pfs_check_versions.specs.declared.judging.Versions.{Versions}
use Rattle.pfs_check_orders.specs.ActionOrders.{entries_in}
use Rattle.pfs_check_orders.specs.declared.orders.Order.{Order}
use Rattle.pfs_check_moves.specs.AskedMoves.{AreOrdered, IsOrdered}
use Rattle.pfs_check_moves.specs.DueMoves.{IsFirstMiss, due_of}
use Rattle.pfs_check_moves.specs.FoundTakes.{counted_by}
use Rattle.pfs_check_moves.specs.MovesRules.{AreActionsMoved, AreMoved, FailsAt, FailsFirst, IsActionMoved, KnowsMoves, lower_line, own_moves}
use Rattle.pfs_check_moves.proofs.MissFacts.{are_moved, fails_at, moved_up_to}

pub whole_actions : (all : List Placed) → AreChained action_change all → IsChained (each_of action_change all)
whole_actions all chained = subst (λ z. IsChained (each_of action_change z)) (all_phases all) (chained (top all))

once_begun : (all : List Placed) (number : ℕ) → AreChained action_change all → times (is_that (change_at 0 number)) (each_of action_change all) ≤ 1
once_begun all number chained =
    omega (arith, whole_actions all chained (change_at 0 number), one_bit (nat_lt 0 number && nat_le number (times (is_of 0) (each_of action_change all))))

-- the numbers of actions are of row 0
action_row : (entry : Entry) → times (is_of 0) (action_change entry) ≡ length (action_change entry)
action_row (says.Connect action thread account user host) = refl
action_row (says.Act action) = refl
action_row _ = refl

pub all_actions : (ps : List Placed) → times (is_of 0) (each_of action_change ps) ≡ length (each_of action_change ps)
all_actions [] = refl
all_actions (p ∷ ps) =
    times_append (is_of 0) (action_change p.entry) (each_of action_change ps)
    ∙ ap (λ z. z + times (is_of 0) (each_of action_change ps)) (action_row p.entry)
    ∙ ap (λ z. length (action_change p.entry) + z) (all_actions ps)
    ∙ sym (length-append (action_change p.entry) (each_of action_change ps))

-- where an action begins
begins_there : (number : ℕ) (ps : List Placed) (at : ℕ) (p : Placed) → slice_get ps at ≡ Some p → action_change p.entry ≡ change_at 0 number ∷ []
    → BeginsAt number ps at
begins_there number [] at p e a = absurd (cc)
begins_there number (q ∷ ps) zero p e a = ap (λ (z : Placed). action_change z.entry) (same_Some q p e) ∙ a
begins_there number (q ∷ ps) (suc at) p e a = begins_there number ps at p e a

begins_among : (number : ℕ) (ps : List Placed) (at : ℕ) → BeginsAt number ps at → IsAmong (change_at 0 number) (each_of action_change ps)
begins_among number [] at b = absurd b
begins_among number (q ∷ ps) zero b = subst (λ z. IsAmong (change_at 0 number) (z ++ each_of action_change ps)) (sym b) (inl refl)
begins_among number (q ∷ ps) (suc at) b =
    among_right (change_at 0 number) (action_change q.entry) (each_of action_change ps) (begins_among number ps at b)

begins_twice : (number : ℕ) (q : Placed) (ps : List Placed) (at : ℕ) → times (is_that (change_at 0 number)) (each_of action_change (q ∷ ps)) ≤ 1
    → action_change q.entry ≡ change_at 0 number ∷ [] → BeginsAt number ps at → ⊥
begins_twice number q ps at few b c =
    let one : times (is_that (change_at 0 number)) (action_change q.entry) ≡ 1 =
    ap (times (is_that (change_at 0 number))) b ∙ ap (λ z. cond {A = ℕ} z 1 0 + 0) (that_self (change_at 0 number)) in
    omega (
      arith,
      few,
      one,
      times_append (is_that (change_at 0 number)) (action_change q.entry) (each_of action_change ps),
      among_times (change_at 0 number) (each_of action_change ps) (begins_among number ps at c),
    )

begins_once : (number : ℕ) (ps : List Placed) (at other : ℕ) → times (is_that (change_at 0 number)) (each_of action_change ps) ≤ 1
    → BeginsAt number ps at → BeginsAt number ps other → at ≡ other
begins_once number [] at other few b c = absurd b
begins_once number (q ∷ ps) zero zero few b c = refl
begins_once number (q ∷ ps) zero (suc other) few b c = absurd (begins_twice number q ps other few b c)
begins_once number (q ∷ ps) (suc at) zero few b c = absurd (begins_twice number q ps at few c b)
begins_once number (q ∷ ps) (suc at) (suc other) few b c =
    ap suc (begins_once number ps at other (omega (arith, few, times_append (is_that (change_at 0 number)) (action_change q.entry) (each_of action_change ps))) b c)

begins_same : (report : ReportParts) (all : List Placed) (number one other : ℕ) → AreChained action_change all
    → BeginsOn report all number one → BeginsOn report all number other → one ≡ other
begins_same report all number one other chained b c =
    same_Some one other (sym b.2 ∙ ap (slice_get (entry_lines report)) (begins_once number all b.0 c.0 (once_begun all number chained) b.1 c.1) ∙ c.2)

low_of : (n m : ℕ) → nat_le n m ≡ true → n ≤ m
low_of n m e = grind (arith, nat_tests)

number_within : (all : List Placed) (number at : ℕ) → AreChained action_change all → BeginsAt number all at → number ≤ length (each_of action_change all)
number_within all number at chained b =
    let some : 0 < times (is_that (change_at 0 number)) (each_of action_change all) =
    among_times (change_at 0 number) (each_of action_change all) (begins_among number all at b) in
    let bits : (nat_lt 0 number ≡ true) × (nat_le number (times (is_of 0) (each_of action_change all)) ≡ true) =
    bit_yes (nat_lt 0 number) (nat_le number (times (is_of 0) (each_of action_change all))) (omega (arith, some, whole_actions all chained (change_at 0 number))) in
    omega (arith, low_of number (times (is_of 0) (each_of action_change all)) bits.1, all_actions all)

-- and each action begins somewhere
pub stands_somewhere : (all : List Placed) (number : ℕ) → AreChained action_change all → 0 < number → number ≤ length (each_of action_change all)
    → times (is_that (change_at 0 number)) (each_of action_change all) ≡ 0 → ⊥
stands_somewhere all number chained above high none =
    let one : times (is_that (change_at 0 number)) (each_of action_change all) ≡ 1 =
    whole_actions all chained (change_at 0 number) ∙ bit number (times (is_of 0) (each_of action_change all)) above (omega (arith, high, all_actions all)) in
    omega (arith, none, one) where
      bit : (n m : ℕ) → 0 < n → n ≤ m → cond {A = ℕ} (nat_lt 0 n && nat_le n m) 1 0 ≡ 1
      bit n m h k = grind (arith, nat_tests)

-- the fault of an action
pub fault_is : (report : ReportParts) (given : Given) (shelf : Shelf) (asked : ℕ → Asked) (all : List Placed) (printed : BTreeMap ℕ (Vec Entry Global))
    (actions : Versions) (number at line : ℕ) (made : Made) → KnowsMoves report given shelf all printed actions → 0 < number
    → FailsAt given asked all number at → get change_cmp actions.made (change_at 0 number) ≡ Some made → line ≡ made.line + 1 + at
    → FailsFirst report given asked all (λ other. other ≡ number) line
fault_is report given shelf asked all printed actions number at line made knows positive fails e on = record { fails = fault; first = before } where
  stands : StandsAt action_change report all (change_at 0 number) made
  stands = subst (IsFound action_change report all (change_at 0 number)) e (knows.index.each (change_at 0 number))

  begins : BeginsOn report all number made.line
  begins = (stands.at, begins_there number all stands.at stands.place stands.there stands.gives, stands.line)

  fault : MovesFail report given asked all line
  fault = record {
    number = number;
    begins = made.line;
    at = at;
    positive = positive;
    begins_is = begins;
    line_is = on;
    within = fails.within;
    wrong = fails.wrong;
  }

  before : (other : ℕ) → other < line → (f : MovesFail report given asked all other) → f.number ≡ number → ⊥
  before other less f own =
      let there : BeginsOn report all number f.begins = subst (λ z. BeginsOn report all z f.begins) own f.begins_is in
      let here : f.begins ≡ made.line = begins_same report all number f.begins made.line knows.chained there begins in
      let low : f.at < at = omega (arith, less, on, f.line_is, here) in
      f.wrong (subst (λ z. MovesUpTo given asked all z f.at) (sym own) (fails.before f.at low))

-- by what is printed of it, and by its order
module _ (report : ReportParts) (given : Given) (shelf : Shelf) (asked : ℕ → Asked) (all : List Placed) (printed : BTreeMap ℕ (Vec Entry Global))
    (actions : Versions) (entries : List Entry) (order : Order) (before : ℕ) (own : List Entry) (knows : KnowsMoves report given shelf all printed actions)
    (is : own ≡ own_moves all (suc before)) (ordered : IsOrdered asked entries order before) where
  pub missed : (at : ℕ) → IsFirstMiss shelf (counted_by shelf own) (due_of (counted_by shelf own) (entries_in entries order)) own (Some at)
      → FailsAt given asked all (suc before) at
  missed at miss =
      fails_at given shelf all knows.kept knows.before asked (suc before) (due_of (counted_by shelf (own_moves all (suc before))) (entries_in entries order)) at
      (ordered.tell (counted_by shelf (own_moves all (suc before)))) (ordered.dues (counted_by shelf (own_moves all (suc before))))
      (subst (λ z. IsFirstMiss shelf (counted_by shelf z) (due_of (counted_by shelf z) (entries_in entries order)) z (Some at)) is miss)

  pub none_missed : IsFirstMiss shelf (counted_by shelf own) (due_of (counted_by shelf own) (entries_in entries order)) own None
      → AreMoved shelf asked all (suc before)
  none_missed zip =
      are_moved shelf asked all (suc before) (due_of (counted_by shelf (own_moves all (suc before))) (entries_in entries order))
      (ordered.dues (counted_by shelf (own_moves all (suc before))))
      (subst (λ z. IsFirstMiss shelf (counted_by shelf z) (due_of (counted_by shelf z) (entries_in entries order)) z None) is zip)

pub ordered_at : (asked : ℕ → Asked) (all : List Placed) (entries : List Entry) (orders : List Order) (before : ℕ) (fill : Order)
    → AreOrdered asked all entries orders → before < length orders → IsOrdered asked entries (get_or orders before fill) before
ordered_at asked all entries orders before fill ordered h =
    ordered.each before (get_or orders before fill) (slice_get-get_or orders before fill h)

-- one action more
pub none_asked_yet : (report : ReportParts) (given : Given) (shelf : Shelf) (asked : ℕ → Asked) (all : List Placed) → AreActionsMoved report given shelf asked all 0 None
none_asked_yet report given shelf asked all number positive low = absurd (omega (arith, positive, low))

last_or : (number count : ℕ) → number ≤ suc count → (number ≤ count) ⊎ (number ≡ suc count)
last_or number count h = at (number == suc count) refl where
  at : (t : Bool) → (number == suc count) ≡ t → (number ≤ count) ⊎ (number ≡ suc count)
  at true e = inr (grind (arith, nat_tests))
  at false e = inl (grind (arith, nat_tests))

module _ (report : ReportParts) (given : Given) (shelf : Shelf) (asked : ℕ → Asked) (all : List Placed) (printed : BTreeMap ℕ (Vec Entry Global))
    (actions : Versions) (knows : KnowsMoves report given shelf all printed actions) where
  pub kept_fails : (line number : ℕ) (f : MovesFail report given asked all line) → f.number ≡ number → AreMoved shelf asked all number → ⊥
  kept_fails line number f same moved =
      f.wrong (subst (λ z. MovesUpTo given asked all z f.at) (sym same) (moved_up_to given shelf all knows.kept knows.before asked number moved f.at))

  pub one_asked : (count : ℕ) (one other : Option ℕ) → AreActionsMoved report given shelf asked all count one
      → IsActionMoved report given shelf asked all (suc count) other
      → AreActionsMoved report given shelf asked all (suc count) (lower_line one other)
  one_asked count None None a b = λ number positive low. by number positive (last_or number count low) where
    by : (number : ℕ) → 0 < number → (number ≤ count) ⊎ (number ≡ suc count) → AreMoved shelf asked all number
    by number positive (inl less) = a number positive less
    by number positive (inr same) = subst (AreMoved shelf asked all) (sym same) b
  one_asked count None (Some line) a b = record {
    fails = b.fails;
    first = λ other less f mine. by other less f (last_or f.number count mine);
  } where
    by : (other : ℕ) → other < line → (f : MovesFail report given asked all other) → (f.number ≤ count) ⊎ (f.number ≡ suc count) → ⊥
    by other less f (inl low) = kept_fails other f.number f refl (a f.number f.positive low)
    by other less f (inr same) = b.first other less f same
  one_asked count (Some line) None a b = record {
    fails = a.fails;
    first = λ other less f mine. by other less f (last_or f.number count mine);
  } where
    by : (other : ℕ) → other < line → (f : MovesFail report given asked all other) → (f.number ≤ count) ⊎ (f.number ≡ suc count) → ⊥
    by other less f (inl low) = a.first other less f low
    by other less f (inr same) = kept_fails other (suc count) f same b
  one_asked count (Some line) (Some next) a b = at (nat_le line next) refl where
    by : (other : ℕ) → other < line → other < next → (f : MovesFail report given asked all other) → (f.number ≤ count) ⊎ (f.number ≡ suc count) → ⊥
    by other less more f (inl low) = a.first other less f low
    by other less more f (inr same) = b.first other more f same

    at : (t : Bool) → nat_le line next ≡ t → FailsFirst report given asked all (λ number. number ≤ suc count) (cond t line next)
    at true e = record {
      fails = a.fails;
      first = λ other less f mine. by other less (up other less) f (last_or f.number count mine);
    } where
      up : (other : ℕ) → other < line → other < next
      up other less = grind (arith, nat_tests)
    at false e = record {
      fails = b.fails;
      first = λ other less f mine. by other (up other less) less f (last_or f.number count mine);
    } where
      up : (other : ℕ) → other < next → other < line
      up other less = grind (arith, nat_tests)

-- all of them: there are no others
pub fails_within : (report : ReportParts) (given : Given) (asked : ℕ → Asked) (all : List Placed) (line : ℕ) → AreChained action_change all
    → (f : MovesFail report given asked all line) → f.number ≤ length (each_of action_change all)
fails_within report given asked all line chained f = number_within all f.number f.begins_is.0 chained f.begins_is.1

pub fewer_asked : (report : ReportParts) (given : Given) (shelf : Shelf) (asked : ℕ → Asked) (all : List Placed) (low high : ℕ) (line : Option ℕ) → low ≤ high
    → AreActionsMoved report given shelf asked all high line → AreActionsMoved report given shelf asked all low line
fewer_asked report given shelf asked all low high None h a = λ number positive less. a number positive (omega (arith, less, h))
fewer_asked report given shelf asked all low high (Some line) h a = record {
  fails = a.fails;
  first = λ other less f mine. a.first other less f (omega (arith, mine, h));
}
