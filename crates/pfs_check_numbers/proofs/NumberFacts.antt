-- The seventh rule of an entry, and of a report.
use Rattle.std.proofs.Common.{◌≡◌, refl, ℕ, zero, suc, ◌+◌, Bool, true, false, ◌&&◌, List, [], ◌∷◌, length, sym, ◌∙◌, ap, subst, arith, Option, Some, None}
use Rattle.std.specs.Prelude.{slice_get}
use Rattle.pfs_board.specs.declared.view.Label.{Label}
use Rattle.pfs_event.specs.declared.entry.Entry.{Entry}
use Rattle.pfs_event.specs.declared.entry.Entry.TheVariants as says
use Rattle.pfs_journal.specs.declared.report.ReportParts.{ReportParts}
use Rattle.pfs_model.specs.ActionAsks.{Answer, AreAnswered, Failed, IsAnswered, Replied, Rooms, answer_at}
use Rattle.pfs_model.specs.declared.lines.Line.{Line}
use Rattle.pfs_model.specs.declared.lines.Line.TheVariants as lines
use Rattle.pfs_model.specs.EntryPlaces.{Placed}
use Rattle.pfs_model.specs.EventNumbers.{AreNumbered, IsNumbered}
use Rattle.pfs_runs.specs.Labels.{answer_of_label, before_action, rooms_of_label}
use Rattle.pfs_runs.specs.ScriptLines.{change_in, facts_in}
use Rattle.pfs_check_faults.specs.declared.rules.Rule.TheVariants as rules
use Rattle.pfs_check_faults.specs.EntryFaults.{NumbersAt}
use Rattle.pfs_check_faults.specs.Judgements.{IsFirstFault, Keeps}
use Rattle.pfs_check_faults.specs.ReportCases.{AllHave, Case, Findings, LacksOn, entries_of, terms_in}
use Rattle.pfs_check_orders.specs.ActionOrders.{TermsLaw}
use Rattle.pfs_check_orders.specs.declared.orders.Order.{Order}
use Rattle.pfs_check_orders.specs.declared.orders.Orders.{Orders}
use Rattle.pfs_check_numbers.specs.OrderAnswers.{AreOrdersOf, answer_if, answers_in, rooms_if, rooms_in}
use Rattle.pfs_check_visits.specs.ReportVisits.{IsAsked}
use Rattle.pfs_check_walk.specs.NumberTests.{Tells}
use Rattle.pfs_check_walk.specs.Walks.{IsVisited}

-- what the orders say of an action is what a run goes by
none_there : {A B : Type 0} (xs : List A) (ys : List B) (at : ℕ) → length xs ≡ length ys → slice_get xs at ≡ None → slice_get ys at ≡ None
none_there [] [] at h e = refl
none_there [] (y ∷ ys) at h e = absurd (omega (arith, h))
none_there (x ∷ xs) [] at h e = absurd (omega (arith, h))
none_there (x ∷ xs) (y ∷ ys) zero h e = absurd (cc)
none_there (x ∷ xs) (y ∷ ys) (suc at) h e = none_there xs ys at (omega (arith, h)) e

pub rooms_are : TermsLaw → (case : Case) (found : Findings) (orders : Orders) → AreOrdersOf case found orders → (number : ℕ)
    → rooms_in orders.orders.items number ≡ (terms_in case found).rooms number
rooms_are law case found orders are zero = refl
rooms_are law case found orders are (suc before) = at (slice_get orders.orders.items before) refl where
  next : before + 1 ≡ suc before
  next = omega arith

  at : (order : Option Order) → slice_get orders.orders.items before ≡ order → rooms_if order ≡ (terms_in case found).rooms (suc before)
  at None e = sym (ap (λ z. rooms_of_none z) (none_there orders.orders.items found.labels before are.count e)) where
    rooms_of_none : Option Label → Rooms
    rooms_of_none z = rooms_of_label (change_in case.phases) (before_action case.setting (change_in case.phases) found.labels (suc before)) z
  at (Some order) e =
      (law case.setting (change_in case.phases) (facts_in case.phases) found.labels orders.entries.entries orders.orders.items are before order e).rooms
      ∙ ap (terms_in case found).rooms next

pub answers_are : TermsLaw → (case : Case) (found : Findings) (orders : Orders) → AreOrdersOf case found orders → (number : ℕ)
    → answers_in orders.orders.items number ≡ (terms_in case found).answers number
answers_are law case found orders are zero = refl
answers_are law case found orders are (suc before) = at (slice_get orders.orders.items before) refl where
  next : before + 1 ≡ suc before
  next = omega arith

  at : (order : Option Order) → slice_get orders.orders.items before ≡ order → answer_if order ≡ (terms_in case found).answers (suc before)
  at None e = sym (ap (λ z. answer_of_none z) (none_there orders.orders.items found.labels before are.count e)) where
    answer_of_none : Option Label → Answer
    answer_of_none z = answer_of_label (change_in case.phases) (before_action case.setting (change_in case.phases) found.labels (suc before)) z
  at (Some order) e =
      (law case.setting (change_in case.phases) (facts_in case.phases) found.labels orders.entries.entries orders.orders.items are before order e).answers
      ∙ ap (terms_in case found).answers next

-- of an entry, where the orders say the same as what a run goes by
answered_by : (rooms others : ℕ → Rooms) (answers anothers : ℕ → Answer) → ((number : ℕ) → rooms number ≡ others number)
    → ((number : ℕ) → answers number ≡ anothers number) → (place : Placed) (entry : Entry)
    → IsAnswered rooms answers place entry → IsAnswered others anothers place entry
answered_by rooms others answers anothers same alike place (says.Connect action thread account user host) h = sym (same action) ∙ h
answered_by rooms others answers anothers same alike place (says.Reply number) h = at place.line h where
  at : (line : Line) → answer_at answers line place.context.action ≡ Replied number → answer_at anothers line place.context.action ≡ Replied number
  at (lines.Refused error) h = h
  at _ h = sym (alike place.context.action) ∙ h
answered_by rooms others answers anothers same alike place (says.Error number) h = at place.line h where
  at : (line : Line) → answer_at answers line place.context.action ≡ Failed number → answer_at anothers line place.context.action ≡ Failed number
  at (lines.Refused error) h = h
  at _ h = sym (alike place.context.action) ∙ h
answered_by rooms others answers anothers same alike place _ h = h

-- what is asked of an entry tells the rule
pub numbers_tell : TermsLaw → (case : Case) (found : Findings) (orders : Orders) → AreOrdersOf case found orders
    → (earlier : List Placed) (place : Placed) (a b : Bool) → Tells (IsNumbered place.context place.entry) a
    → Tells (IsAnswered (rooms_in orders.orders.items) (answers_in orders.orders.items) place place.entry) b
    → Tells (NumbersAt (terms_in case found).rooms (terms_in case found).answers earlier place) (a && b)
numbers_tell law case found orders are earlier place true true t u = record {
  numbered = t;
  answered =
      answered_by (rooms_in orders.orders.items) (terms_in case found).rooms (answers_in orders.orders.items) (terms_in case found).answers
      (rooms_are law case found orders are) (answers_are law case found orders are) place place.entry u;
}
numbers_tell law case found orders are earlier place true false t u = λ h.
    u (answered_by (terms_in case found).rooms (rooms_in orders.orders.items) (terms_in case found).answers (answers_in orders.orders.items)
    (λ number. sym (rooms_are law case found orders are number)) (λ number. sym (answers_are law case found orders are number))
    place place.entry h.answered)
numbers_tell law case found orders are earlier place false b t u = λ h. t h.numbered

pub tells_number : (earlier : List Placed) (place : Placed) (b : Bool)
    → IsVisited (λ before at. IsNumbered at.context at.entry) earlier place (λ before. Unit {0}) b → Tells (IsNumbered place.context place.entry) b
tells_number earlier place true v = v.0
tells_number earlier place false v = v

pub answered_of : (orders items : List Order) (place : Placed) (b : Bool) → orders ≡ items
    → Tells (IsAnswered (rooms_in orders) (answers_in orders) place place.entry) b
    → Tells (IsAnswered (rooms_in items) (answers_in items) place place.entry) b
answered_of orders items place b e = subst (λ z. Tells (IsAnswered (rooms_in z) (answers_in z) place place.entry) b) e

pub visited_by : (case : Case) (found : Findings) (orders : Orders) (earlier : List Placed) (place : Placed) (a b kept : Bool)
    → TermsLaw → AreOrdersOf case found orders → Tells (IsNumbered place.context place.entry) a
    → Tells (IsAnswered (rooms_in orders.orders.items) (answers_in orders.orders.items) place place.entry) b → kept ≡ (a && b)
    → IsVisited (NumbersAt (terms_in case found).rooms (terms_in case found).answers) earlier place (λ before. AreOrdersOf case found orders) kept
visited_by case found orders earlier place a b kept law are t u same =
    subst (IsVisited Rule earlier place (λ before. AreOrdersOf case found orders)) (sym same)
    (on (a && b) (numbers_tell law case found orders are earlier place a b t u)) where
      Rule : List Placed → Placed → Type 0
      Rule = NumbersAt (terms_in case found).rooms (terms_in case found).answers

      on : (both : Bool) → Tells (Rule earlier place) both → IsVisited Rule earlier place (λ before. AreOrdersOf case found orders) both
      on true t = (t, are)
      on false t = t

numbered : (rooms : ℕ → Rooms) (answers : ℕ → Answer) (earlier places : List Placed) → AllHave (NumbersAt rooms answers) earlier places → AreNumbered places
numbered rooms answers earlier [] h = tt
numbered rooms answers earlier (p ∷ ps) h = (h.0.numbered, numbered rooms answers (p ∷ earlier) ps h.1)

answered : (rooms : ℕ → Rooms) (answers : ℕ → Answer) (earlier places : List Placed) → AllHave (NumbersAt rooms answers) earlier places → AreAnswered rooms answers places
answered rooms answers earlier [] h = tt
answered rooms answers earlier (p ∷ ps) h = (h.0.answered, answered rooms answers (p ∷ earlier) ps h.1)

-- of a report
pub numbers_kept : (case : Case) (found : Findings) (report : ReportParts) (all : List Placed) (knows : List Placed → Type 0) → entries_of found ≡ all
    → IsAsked report (NumbersAt (terms_in case found).rooms (terms_in case found).answers) all knows None → Keeps rules.Numbers case found
numbers_kept case found report all knows e asked = record {
  numbered = numbered (terms_in case found).rooms (terms_in case found).answers [] (entries_of found) kept;
  answered = answered (terms_in case found).rooms (terms_in case found).answers [] (entries_of found) kept;
} where
  kept : AllHave (NumbersAt (terms_in case found).rooms (terms_in case found).answers) [] (entries_of found)
  kept = subst (AllHave (NumbersAt (terms_in case found).rooms (terms_in case found).answers) []) (sym e) asked.0

pub numbers_wrong : (case : Case) (found : Findings) (report : ReportParts) (all : List Placed) (knows : List Placed → Type 0) (line : ℕ)
    → case.report ≡ report → entries_of found ≡ all
    → IsAsked report (NumbersAt (terms_in case found).rooms (terms_in case found).answers) all knows (Some line)
    → IsFirstFault rules.Numbers case found line
numbers_wrong case found report all knows line same e asked = record {
  fails = here line asked.fails;
  first = λ other less fails. asked.first other less (there_is other fails);
} where
  Rule : List Placed → Placed → Type 0
  Rule = NumbersAt (terms_in case found).rooms (terms_in case found).answers

  here : (line : ℕ) → LacksOn report Rule all line → LacksOn case.report Rule (entries_of found) line
  here line l =
      subst (λ z. LacksOn z Rule (entries_of found) line) (sym same)
      (subst (λ z. LacksOn report Rule z line) (sym e) l)

  there_is : (line : ℕ) → LacksOn case.report Rule (entries_of found) line → LacksOn report Rule all line
  there_is line l =
      subst (λ z. LacksOn report Rule z line) e
      (subst (λ z. LacksOn z Rule (entries_of found) line) same l)
