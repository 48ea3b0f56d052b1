-- What is asked of an entry by the orders of the actions, and what it means that the seventh rule was asked.
use Rattle.std.specs.Prelude.{ℕ, zero, suc, List, slice_get, Option, Some, None}
use Rattle.pfs_law_session.specs.Demands.{answer_by, no_rows, rooms_of}
use Rattle.pfs_law_session.specs.Orders.{no_rooms}
use Rattle.pfs_model.specs.ActionAsks.{Answer, Rooms}
use Rattle.pfs_runs.specs.ScriptLines.{change_in}
use Rattle.pfs_check_faults.specs.declared.rules.Rule.TheVariants as rules
use Rattle.pfs_check_faults.specs.Judgements.{IsFirstFault, Keeps}
use Rattle.pfs_check_faults.specs.ReportCases.{Case, Findings}
use Rattle.pfs_check_orders.specs.ActionOrders.{AreOrders}
use Rattle.pfs_check_orders.specs.declared.orders.Order.{Order}
use Rattle.pfs_check_orders.specs.declared.orders.Orders.{Orders}
use Rattle.pfs_check_numbers.specs.declared.judging.NumbersRule.{NumbersRule}
use Rattle.pfs_check_numbers.specs.declared.judging.NumbersRule.TheVariants.{Kept, Wrong}

-- these are the orders of the actions of a case, by the labels that were found
abbrev pub AreOrdersOf : Case → Findings → Orders → Type 0
AreOrdersOf case found orders =
    AreOrders case.setting (change_in case.phases) found.labels orders.entries.entries orders.orders.items

-- the order of the action of a number, counted from 1; none where there is no such action
abbrev pub order_at : List Order → ℕ → Option Order
order_at orders zero = None
order_at orders (suc before) = slice_get orders before

abbrev pub rooms_if : Option Order → Rooms
rooms_if None = no_rooms
rooms_if (Some order) = rooms_of order.placed

abbrev pub answer_if : Option Order → Answer
answer_if None = no_rows
answer_if (Some order) = answer_by order.reply

-- where each action finds room, and what it is answered
abbrev pub rooms_in : List Order → ℕ → Rooms
rooms_in orders number = rooms_if (order_at orders number)

abbrev pub answers_in : List Order → ℕ → Answer
answers_in orders number = answer_if (order_at orders number)

-- the rule is kept, with the same orders, or this is the first line at which it fails
abbrev pub IsNumbersJudged : Case → Findings → NumbersRule → Type 0
IsNumbersJudged case found (Kept orders) = Keeps rules.Numbers case found × AreOrdersOf case found orders
IsNumbersJudged case found (Wrong line) = IsFirstFault rules.Numbers case found line
