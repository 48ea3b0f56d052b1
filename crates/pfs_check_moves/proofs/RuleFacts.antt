-- The eighth rule of a report.
use Rattle.std.proofs.Common.{◌≡◌, refl, ℕ, zero, suc, ◌+◌, ◌-◌, ◌<◌, ◌≤◌, ◌⊎◌, inl, inr, ◌==◌, not, Bool, true, false, ◌&&◌, cond, nat_lt, nat_le, List, [], ◌∷◌, ◌++◌, length, sym, ◌∙◌, ap, subst, arith, append_assoc, Option, Some, None}
use Rattle.std.specs.BTreeMap.{BTreeMap}
use Rattle.std.specs.Prelude.{Vec}
use Rattle.std.specs.declared.alloc.Global.{Global}
use Rattle.std.proofs.lemmas.Bool.Decides.{nat_tests}
use Rattle.pfs_event.specs.declared.entry.Entry.{Entry}
use Rattle.pfs_event.specs.declared.entry.Entry.TheVariants as says
use Rattle.pfs_journal.specs.declared.report.ReportParts.{ReportParts}
use Rattle.pfs_stat.specs.Stat.{stat_of_words}
use Rattle.pfs_model.specs.declared.changes.Change.{Change}
use Rattle.pfs_model.specs.ActionAsks.{Asked, asked_of, did, flagged_by, moved_by, of_action, signed_by}
use Rattle.pfs_model.specs.Actions.{Deed, IsAmong, NeverFall, deed_at, deeds_of, is_acted}
use Rattle.pfs_model.specs.Chains.{AreChained, Each, IsChained, action_change, change_at, each_of, is_of, is_that, row_change, times}
use Rattle.pfs_model.specs.Contents.{AreFoundAsCounted, IsFoundAsCounted}
use Rattle.pfs_model.specs.EntryPlaces.{Placed}
use Rattle.pfs_runs.specs.Runs.{all_blocks}
use Rattle.pfs_runs.specs.ScriptLines.{change_in}
use Rattle.pfs_check_contents.specs.declared.shelf.Shelf.{Shelf}
use Rattle.pfs_check_contents.specs.KeptContents.{IsHad}
use Rattle.pfs_check_faults.specs.declared.rules.Rule.TheVariants as rules
use Rattle.pfs_check_faults.proofs.ActedEntries.{HasAction, SaysAbove, blocks_acted}
use Rattle.pfs_check_faults.proofs.ChainFacts.{all_phases, among_times, bit_yes, that_is, top}
use Rattle.pfs_check_faults.proofs.MemberCounts.{among_left, among_right, each_among, each_at, self_is}
use Rattle.pfs_check_faults.specs.ActionFaults.{IsPredecessor, MovesFail, NeverFallsAt, flagging_at, moving_at}
use Rattle.pfs_check_faults.specs.Judgements.{Fails, IsFirstFault, KeepBefore}
use Rattle.pfs_check_faults.specs.ReportCases.{Case, Findings, Lacks, LacksOn, entries_of, terms_in}
use Rattle.pfs_law_acted.specs.ActedParts.{ActedLaw, IdleLaw}
use Rattle.pfs_law_made.specs.MadeContents.{IsKeptAsMade, KeptLaw}
use Rattle.pfs_check_orders.specs.declared.orders.Orders.{Orders}
use Rattle.pfs_check_versions.specs.declared.judging.Versions.{Versions}
use Rattle.pfs_check_visits.specs.ReportVisits.{IsFirstLacking}
use Rattle.pfs_check_moves.specs.AskedMoves.{AreOrdered}
use Rattle.pfs_check_moves.specs.FoundTakes.{FindsAs}
use Rattle.pfs_check_moves.specs.MovesRules.{AreActionsMoved, AreMoved, AreOrdersIn, IsShelfIn, KeepsMovesBy, KnowsMoves, counted_of, given_in, lower_of, own_moves}
use Rattle.pfs_check_moves.specs.PrintedMoves.{is_moving, moving}
use Rattle.pfs_check_moves.proofs.DueFacts.{none_asked, order_at}
use Rattle.pfs_check_moves.proofs.FaultFacts.{all_actions, fails_within, kept_fails, whole_actions}

pub actions_chained : (case : Case) (found : Findings) → KeepBefore rules.Moves case found → AreChained action_change (entries_of found)
actions_chained case found keeps = (keeps rules.Actions (omega arith)).numbers

-- there are as many orders as actions
pub are_ordered : (case : Case) (found : Findings) (orders : Orders) → KeepBefore rules.Moves case found → AreOrdersIn case found orders
    → AreOrdered (terms_in case found).asked (entries_of found) orders.entries.entries orders.orders.items
are_ordered case found orders keeps are = record {
  count = are.count ∙ (keeps rules.Actions (omega arith)).labelled.few;
  each = order_at case.setting (change_in case.phases) found.labels orders.entries.entries orders.orders.items are;
}

-- what is kept is what is made, and what is taken had the version before
pub is_kept : KeptLaw → (case : Case) (found : Findings) (shelf : Shelf) → IsShelfIn case found shelf → IsKeptAsMade (given_in case found) (entries_of found) shelf
is_kept law case found shelf is = law (given_in case found) (entries_of found) is.changes shelf is.made_of is.orderly is.shelf_is

-- what is changed had the version before
some_among : (change : Change) (changes : List Change) → 0 < times (is_that change) changes → IsAmong change changes
some_among change [] l = absurd (omega (arith, l))
some_among change (c ∷ cs) l = on (is_that change c) refl l (some_among change cs) where
  on : (b : Bool) → is_that change c ≡ b → 0 < cond b 1 0 + times (is_that change) cs → (0 < times (is_that change) cs → IsAmong change cs)
      → IsAmong change (c ∷ cs)
  on true e l go = inl (that_is change c e)
  on false e l go = inr (go (omega (arith, l)))

list_among : (ps : List Placed) (p : Placed) (change : Change) → IsAmong p ps → row_change p.entry ≡ change ∷ [] → IsAmong change (each_of row_change ps)
list_among [] p change i e = absurd i
list_among (q ∷ qs) p change (inl same) e =
    among_left change (row_change q.entry) (each_of row_change qs)
    (subst (IsAmong change) (sym (ap (λ (z : Placed). row_change z.entry) same ∙ e)) (inl refl))
list_among (q ∷ qs) p change (inr i) e = among_right change (row_change q.entry) (each_of row_change qs) (list_among qs p change i e)

pub had_before : (case : Case) (found : Findings) → KeepBefore rules.Moves case found → (place : Placed) (row version : ℕ)
    → IsAmong place (entries_of found) → place.entry ≡ says.Take row version → IsHad (entries_of found) row (version - 1)
had_before case found keeps place row version i e = by (version - 1 == 0) refl where
  chained : IsChained (each_of row_change (entries_of found))
  chained = subst (λ z. IsChained (each_of row_change z)) (all_phases (entries_of found)) (keeps rules.Chain (omega arith) (top (entries_of found)))

  bits : (nat_lt 0 version ≡ true) × (nat_le version (times (is_of row) (each_of row_change (entries_of found))) ≡ true)
  bits =
      bit_yes (nat_lt 0 version) (nat_le version (times (is_of row) (each_of row_change (entries_of found))))
      (omega (
        arith,
        chained (change_at row version),
        among_times (change_at row version) (each_of row_change (entries_of found)) (list_among (entries_of found) place (change_at row version) i (ap row_change e)),
      ))

  by : (b : Bool) → (version - 1 == 0) ≡ b → IsHad (entries_of found) row (version - 1)
  by true z = inl (grind (arith, nat_tests))
  by false z =
      inr (some_among (change_at row (version - 1)) (each_of row_change (entries_of found))
      (omega (arith, chained (change_at row (version - 1)), bit (version - 1) version (times (is_of row) (each_of row_change (entries_of found))) z refl bits.1))) where
        bit : (n v m : ℕ) → (n == 0) ≡ false → n ≡ v - 1 → nat_le v m ≡ true → cond {A = ℕ} (nat_lt 0 n && nat_le n m) 1 0 ≡ 1
        bit n v m z q h = grind (arith, nat_tests)

-- where they never fall, no entry falls
deed_among : (all : List Placed) (p : Placed) (deed : Deed) → IsAmong p all → IsAmong deed (deed_at p.context.action p.entry) → IsAmong deed (deeds_of all)
deed_among [] p deed i j = absurd i
deed_among (q ∷ qs) p deed (inl e) j =
    among_left deed (deed_at q.context.action q.entry) (deeds_of qs) (subst (λ (z : Placed). IsAmong deed (deed_at z.context.action z.entry)) (sym e) j)
deed_among (q ∷ qs) p deed (inr i) j = among_right deed (deed_at q.context.action q.entry) (deeds_of qs) (deed_among qs p deed i j)

none_falls_at : (all earlier : List Placed) (p : Placed) → NeverFall (deeds_of all) → IsAmong p all → NeverFallsAt all earlier p
none_falls_at all earlier p never i =
    each_among (λ (next : Deed). (first : Deed) → IsPredecessor (deeds_of all) first next → first.action ≤ next.action) (deed_at p.context.action p.entry)
    (λ next j first pred. by next (deed_among all p next i j) first pred pred.before.1) where
      by : (next : Deed) → IsAmong next (deeds_of all) → (first : Deed) → (pred : IsPredecessor (deeds_of all) first next)
          → (first.version < next.version) ⊎ ((first.version ≡ next.version) × (first.releases ≡ false) × (next.releases ≡ true))
          ⊎ ((first.version ≡ next.version) × (first.releases ≡ true) × (next.releases ≡ true) × (first.action < next.action))
          → first.action ≤ next.action
      by next j first pred (inl less) = never first next pred.there j (pred.before.0, inl less)
      by next j first pred (inr (inl free)) = never first next pred.there j (pred.before.0, inr free)
      by next j first pred (inr (inr twice)) = let low : first.action < next.action = twice.3 in omega (arith, low)

none_lacks : (fact : List Placed → Placed → Type 0) (earlier ps : List Placed) (at : ℕ) → ((earlier : List Placed) (p : Placed) → IsAmong p ps → fact earlier p)
    → Lacks fact earlier ps at → ⊥
none_lacks fact earlier [] at h l = l
none_lacks fact earlier (p ∷ ps) zero h l = l (h earlier p (inl refl))
none_lacks fact earlier (p ∷ ps) (suc at) h l = none_lacks fact (p ∷ earlier) ps at (λ before q i. h before q (inr i)) l

none_falls : (report : ReportParts) (all : List Placed) (line : ℕ) → NeverFall (deeds_of all) → LacksOn report (NeverFallsAt all) all line → ⊥
none_falls report all line never l = none_lacks (NeverFallsAt all) [] all l.0 (λ earlier p i. none_falls_at all earlier p never i) l.2

pub moves_wrong : (case : Case) (found : Findings) (shelf : Shelf) (orders : Orders) (report : ReportParts) (line : ℕ) → case.report ≡ report
    → KeepBefore rules.Moves case found → NeverFall (deeds_of (entries_of found)) → AreOrdersIn case found orders
    → AreActionsMoved report (given_in case found) shelf (terms_in case found).asked (entries_of found) (length orders.orders.items) (Some line)
    → IsFirstFault rules.Moves case found line
moves_wrong case found shelf orders report line same keeps never are asked = record {
  fails = inr (subst (λ z. MovesFail z (given_in case found) (terms_in case found).asked (entries_of found) line) (sym same) asked.fails);
  first = λ other less fault. first other less fault;
} where
  few : length orders.orders.items ≡ length (each_of action_change (entries_of found))
  few = are.count ∙ (keeps rules.Actions (omega arith)).labelled.few

  first : (other : ℕ) → other < line → Fails rules.Moves case found other → ⊥
  first other less (inl l) = none_falls case.report (entries_of found) other never l
  first other less (inr f) =
      let fault : MovesFail report (given_in case found) (terms_in case found).asked (entries_of found) other =
      subst (λ z. MovesFail z (given_in case found) (terms_in case found).asked (entries_of found) other) same f in
      asked.first other less fault
      (omega (arith, few, fails_within report (given_in case found) (terms_in case found).asked (entries_of found) other (actions_chained case found keeps) fault))

-- the changes of all actions are those that they ask for
high_of : (n m : ℕ) → nat_le n m ≡ false → m < n
high_of n m e = grind (arith, nat_tests)

low_of : (n m : ℕ) → nat_le n m ≡ true → n ≤ m
low_of n m e = grind (arith, nat_tests)

none_says : (all : List Placed) (number : ℕ) → AreChained action_change all → length (each_of action_change all) < number
    → times (is_that (change_at 0 number)) (each_of action_change all) ≡ 0
none_says all number chained high =
    whole_actions all chained (change_at 0 number) ∙ bit number (times (is_of 0) (each_of action_change all)) (omega (arith, high, all_actions all)) where
      bit : (n m : ℕ) → m < n → cond {A = ℕ} (nat_lt 0 n && nat_le n m) 1 0 ≡ 0
      bit n m h = grind (arith, nat_tests)

idle_moved : (shelf : Shelf) (asked : ℕ → Asked) (all : List Placed) (number : ℕ) → of_action number all ≡ [] → (asked number).moves ≡ [] → (asked number).signs ≡ []
    → AreMoved shelf asked all number
idle_moved shelf asked all number own moves signs = record {
  alike = ap (λ z. moved_by (counted_of shelf all number) z ++ signed_by (asked number).signs) moves ∙ ap signed_by signs
      ∙ sym (ap (each_of moving_at) own);
  found = subst (Each (FindsAs shelf (counted_of shelf all number))) (sym (ap moving own)) tt;
}

-- a take is found as the kept content says
moving_among : (ps : List Placed) (number : ℕ) (p : Placed) → IsAmong p ps → is_moving p.entry ≡ true → p.context.action ≡ number
    → IsAmong p.entry (moving (of_action number ps))
moving_among [] number p i m a = absurd i
moving_among (q ∷ ps) number p (inl e) m a = here (q.context.action == number) (is_moving q.entry) same (ap (λ (z : Placed). is_moving z.entry) e ∙ m) where
  same : (q.context.action == number) ≡ true
  same = ap (λ z. z == number) (ap (λ (z : Placed). z.context.action) e ∙ a) ∙ self_is number

  here : (b c : Bool) → b ≡ true → c ≡ true → IsAmong p.entry (moving (cond b (q ∷ []) [] ++ of_action number ps))
  here true true f g = subst (λ z. IsAmong p.entry (cond z (q.entry ∷ []) [] ++ moving (of_action number ps)))
      (sym (ap (λ (z : Placed). is_moving z.entry) e ∙ m)) (inl (ap (λ (z : Placed). z.entry) e))
  here true false f g = absurd (cc)
  here false c f g = absurd (cc)
moving_among (q ∷ ps) number p (inr i) m a = at (q.context.action == number) (moving_among ps number p i m a) where
  at : (b : Bool) → IsAmong p.entry (moving (of_action number ps)) → IsAmong p.entry (moving (cond b (q ∷ []) [] ++ of_action number ps))
  at true j = among_right p.entry (cond (is_moving q.entry) (q.entry ∷ []) []) (moving (of_action number ps)) j
  at false j = j

module _ (case : Case) (found : Findings) (shelf : Shelf) (is : IsShelfIn case found shelf) (keeps : KeepBefore rules.Moves case found)
    (moved : (number : ℕ) → 0 < number → AreMoved shelf (terms_in case found).asked (entries_of found) number)
    (before : (place : Placed) (row version : ℕ) → IsAmong place (entries_of found) → place.entry ≡ says.Take row version → IsHad (entries_of found) row (version - 1)) where
  above : Each SaysAbove (entries_of found)
  above = each_among SaysAbove (entries_of found) (λ p i. each_among (λ (change : Change). 0 < change.version) (action_change p.entry) (λ change j. positive p change i j)) where
    in_all : (ps : List Placed) (p : Placed) (change : Change) → IsAmong p ps → IsAmong change (action_change p.entry) → IsAmong change (each_of action_change ps)
    in_all [] p change i j = absurd i
    in_all (q ∷ ps) p change (inl e) j =
        among_left change (action_change q.entry) (each_of action_change ps) (subst (λ (z : Placed). IsAmong change (action_change z.entry)) (sym e) j)
    in_all (q ∷ ps) p change (inr i) j = among_right change (action_change q.entry) (each_of action_change ps) (in_all ps p change i j)

    less_of : (n m : ℕ) → nat_lt n m ≡ true → n < m
    less_of n m e = grind (arith, nat_tests)

    positive : (p : Placed) (change : Change) → IsAmong p (entries_of found) → IsAmong change (action_change p.entry) → 0 < change.version
    positive p change i j =
        let some : 0 < times (is_that change) (each_of action_change (entries_of found)) =
        among_times change (each_of action_change (entries_of found)) (in_all (entries_of found) p change i j) in
        let bits : (nat_lt 0 change.version ≡ true) × (nat_le change.version (times (is_of change.row) (each_of action_change (entries_of found))) ≡ true) =
        bit_yes (nat_lt 0 change.version) (nat_le change.version (times (is_of change.row) (each_of action_change (entries_of found))))
        (omega (arith, some, whole_actions (entries_of found) (actions_chained case found keeps) change)) in
        less_of 0 change.version bits.0

  acted : Each HasAction (entries_of found)
  acted = blocks_acted [] (all_blocks found.blocks) 0 (keeps rules.Shape (omega arith)).shaped above

  found_one : (p : Placed) (entry : Entry) → p.entry ≡ entry → IsAmong p (entries_of found)
      → IsFoundAsCounted is.shelf_is.content (counted_of shelf (entries_of found)) p.context.action entry
  found_one p (says.Take row version) e i =
      each_at (FindsAs shelf (counted_of shelf (entries_of found) p.context.action)) (says.Take row version) (own_moves (entries_of found) p.context.action)
      (moved p.context.action (each_at HasAction p (entries_of found) acted i (ap is_acted e))).found
      (subst (λ z. IsAmong z (own_moves (entries_of found) p.context.action)) e
      (moving_among (entries_of found) p.context.action p i (ap is_moving e) refl))
      ∙ ap (λ z. not ((stat_of_words z).count == 0))
      (is.shelf_is.only is.shelf_is.content is.shelf_is.are row (version - 1) (before p row version i e))
  found_one p _ e i = tt

  found_all : (ps : List Placed) → ((p : Placed) → IsAmong p ps → IsAmong p (entries_of found))
      → AreFoundAsCounted is.shelf_is.content (counted_of shelf (entries_of found)) ps
  found_all [] within = tt
  found_all (p ∷ ps) within = (found_one p p.entry refl (within p (inl refl)), found_all ps (λ q i. within q (inr i)))

  done : ActedLaw → (number : ℕ) → 0 < number
      → each_of did (of_action number (entries_of found)) ≡ asked_of (counted_of shelf (entries_of found) number) ((terms_in case found).asked number)
  done law number positive =
      law (all_blocks found.blocks) number (keeps rules.Shape (omega arith)).shaped (actions_chained case found keeps) positive
      ∙ ap (λ z. z ++ each_of flagging_at (of_action number (entries_of found))) (sym (moved number positive).alike)
      ∙ ap (λ z. (moved_by (counted_of shelf (entries_of found) number) ((terms_in case found).asked number).moves ++ signed_by ((terms_in case found).asked number).signs) ++ z)
      ((keeps rules.Setup (omega arith)).asked number positive)
      ∙ append_assoc (moved_by (counted_of shelf (entries_of found) number) ((terms_in case found).asked number).moves)
      (signed_by ((terms_in case found).asked number).signs) (flagged_by ((terms_in case found).asked number).sets)

  pub keeps_moves : ActedLaw → NeverFall (deeds_of (entries_of found)) → KeepsMovesBy case found shelf
  keeps_moves law never = record {
    contents = is.shelf_is;
    keeps = record {
      deeds = never;
      done = done law;
      found_is = found_all (entries_of found) (λ p i. i);
      contents = is.shelf_is.are;
    };
  }

pub moves_kept : ActedLaw → IdleLaw → (case : Case) (found : Findings) (shelf : Shelf) (orders : Orders) (report : ReportParts)
    → KeepBefore rules.Moves case found → NeverFall (deeds_of (entries_of found)) → IsShelfIn case found shelf → AreOrdersIn case found orders
    → AreActionsMoved report (given_in case found) shelf (terms_in case found).asked (entries_of found) (length orders.orders.items) None
    → KeepsMovesBy case found shelf
moves_kept law idle case found shelf orders report keeps never is are asked =
    keeps_moves case found shelf is keeps moved (had_before case found keeps) law never where
      few : length orders.orders.items ≡ length (each_of action_change (entries_of found))
      few = are.count ∙ (keeps rules.Actions (omega arith)).labelled.few

      moved : (number : ℕ) → 0 < number → AreMoved shelf (terms_in case found).asked (entries_of found) number
      moved number positive = at (nat_le number (length orders.orders.items)) refl where
        at : (b : Bool) → nat_le number (length orders.orders.items) ≡ b → AreMoved shelf (terms_in case found).asked (entries_of found) number
        at true e = asked number positive (low_of number (length orders.orders.items) e)
        at false e =
            let high : length orders.orders.items < number = high_of number (length orders.orders.items) e in
            let none = none_asked case.setting (change_in case.phases) found.labels number (omega (arith, high, are.count)) in
            idle_moved shelf (terms_in case found).asked (entries_of found) number
            (idle (all_blocks found.blocks) number (keeps rules.Shape (omega arith)).shaped positive
            (none_says (entries_of found) number (actions_chained case found keeps) (omega (arith, high, few)))) none.0 none.1

-- where they fall, the first line is the lower of both
pub fallen : (case : Case) (found : Findings) (shelf : Shelf) (orders : Orders) (report : ReportParts) (printed : BTreeMap ℕ (Vec Entry Global)) (actions : Versions)
    (fall : ℕ) (line : Option ℕ) → case.report ≡ report → KeepBefore rules.Moves case found → AreOrdersIn case found orders
    → KnowsMoves report (given_in case found) shelf (entries_of found) printed actions
    → IsFirstLacking case.report (NeverFallsAt (entries_of found)) (entries_of found) fall
    → AreActionsMoved report (given_in case found) shelf (terms_in case found).asked (entries_of found) (length orders.orders.items) line
    → IsFirstFault rules.Moves case found (lower_of fall line)
fallen case found shelf orders report printed actions fall line same keeps are knows lacks asked = on line asked where
  few : length orders.orders.items ≡ length (each_of action_change (entries_of found))
  few = are.count ∙ (keeps rules.Actions (omega arith)).labelled.few

  here : (other : ℕ) → MovesFail case.report (given_in case found) (terms_in case found).asked (entries_of found) other
      → MovesFail report (given_in case found) (terms_in case found).asked (entries_of found) other
  here other f = subst (λ z. MovesFail z (given_in case found) (terms_in case found).asked (entries_of found) other) same f

  within : (other : ℕ) → (f : MovesFail report (given_in case found) (terms_in case found).asked (entries_of found) other) → f.number ≤ length orders.orders.items
  within other f =
      omega (arith, few, fails_within report (given_in case found) (terms_in case found).asked (entries_of found) other (actions_chained case found keeps) f)

  on : (line : Option ℕ) → AreActionsMoved report (given_in case found) shelf (terms_in case found).asked (entries_of found) (length orders.orders.items) line
      → IsFirstFault rules.Moves case found (lower_of fall line)
  on None asked = record { fails = inl lacks.fails; first = λ other less fault. by other less fault } where
    by : (other : ℕ) → other < fall → Fails rules.Moves case found other → ⊥
    by other less (inl l) = lacks.first other less l
    by other less (inr f) =
        kept_fails report (given_in case found) shelf (terms_in case found).asked (entries_of found) printed actions knows other (here other f).number (here other f) refl
        (asked (here other f).number (here other f).positive (within other (here other f)))
  on (Some line) asked = at (nat_le line fall) refl where
    by : (other : ℕ) → other < line → other < fall → Fails rules.Moves case found other → ⊥
    by other less low (inl l) = lacks.first other low l
    by other less low (inr f) = asked.first other less (here other f) (within other (here other f))

    at : (b : Bool) → nat_le line fall ≡ b → IsFirstFault rules.Moves case found (cond b line fall)
    at true e = record {
      fails = inr (subst (λ z. MovesFail z (given_in case found) (terms_in case found).asked (entries_of found) line) (sym same) asked.fails);
      first = λ other less fault. by other less (up other less) fault;
    } where
      up : (other : ℕ) → other < line → other < fall
      up other less = grind (arith, nat_tests)
    at false e = record { fails = inl lacks.fails; first = λ other less fault. by other (up other less) less fault } where
      up : (other : ℕ) → other < fall → other < line
      up other less = grind (arith, nat_tests)
