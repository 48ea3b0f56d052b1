-- What an order of an action asks for beside its sets.
use Rattle.std.proofs.Common.{◌≡◌, refl, ℕ, zero, suc, ◌+◌, ◌-◌, ◌<◌, ◌≤◌, Bool, true, false, cond, List, [], ◌∷◌, ◌++◌, drop, length, min, take, sym, ◌∙◌, ap, subst, arith, append_assoc, Some, None}
use Rattle.std.specs.Prelude.{slice_get}
use Rattle.std.specs.List.{flat_map}
use Rattle.std.proofs.lemmas.List.{append-nil}
use Rattle.std.proofs.lemmas.Option.{same_Some}
use Rattle.pfs_admin.specs.AdministrationStates.{State}
use Rattle.pfs_admin.specs.Fold.{state_of}
use Rattle.pfs_admin.specs.Works.{Flagging as Wanted, Work, flagging_entries}
use Rattle.pfs_admin.specs.declared.changes.Change.{Change}
use Rattle.pfs_board.specs.declared.view.Label.{Label}
use Rattle.pfs_classes.specs.declared.setting.Setting.{Setting}
use Rattle.pfs_event.specs.declared.entry.Entry.{Entry}
use Rattle.pfs_event.specs.declared.entry.Entry.TheVariants as says
use Rattle.pfs_law_session.specs.Demands.{asked_by}
use Rattle.pfs_levels.specs.declared.answers.Word.{Word}
use Rattle.pfs_model.specs.ActionAsks.{Asked, Did, Flagged, Freed, Frees, Gave, Move, Sign, Tagged, Tags, Took, did, given_to, moved_by, signed_by}
use Rattle.pfs_model.specs.Chains.{Each}
use Rattle.pfs_runs.specs.Labels.{asked_at, work_for, work_of_label}
use Rattle.pfs_check_blank.specs.AllAsked.{AreAsked, TellsOne, every}
use Rattle.pfs_check_orders.specs.ActionOrders.{AreOrders, IsOrder, entries_in}
use Rattle.pfs_check_orders.specs.declared.orders.Order.{Order}
use Rattle.pfs_check_moves.specs.AskedMoves.{IsOrdered}
use Rattle.pfs_check_moves.specs.DueMoves.{due_of, is_due}

-- of what may be asked for, what is
keep : (ℕ → Bool) → List Did → List Did
keep counted [] = []
keep counted (Took row ∷ others) = Took row ∷ keep counted others
keep counted (Gave row from ∷ others) = cond (counted from) (Gave row from ∷ []) [] ++ keep counted others
keep counted (Freed row ∷ others) = Freed row ∷ keep counted others
keep counted (Tagged row ∷ others) = Tagged row ∷ keep counted others
keep counted (Flagged word flags ∷ others) = keep counted others

keep_join : (counted : ℕ → Bool) (xs ys : List Did) → keep counted (xs ++ ys) ≡ keep counted xs ++ keep counted ys
unfolding keep
keep_join counted [] ys = refl
keep_join counted (Took row ∷ xs) ys = ap (λ z. Took row ∷ z) (keep_join counted xs ys)
keep_join counted (Gave row from ∷ xs) ys =
    ap (λ z. cond (counted from) (Gave row from ∷ []) [] ++ z) (keep_join counted xs ys)
    ∙ sym (append_assoc (cond (counted from) (Gave row from ∷ []) []) (keep counted xs) (keep counted ys))
keep_join counted (Freed row ∷ xs) ys = ap (λ z. Freed row ∷ z) (keep_join counted xs ys)
keep_join counted (Tagged row ∷ xs) ys = ap (λ z. Tagged row ∷ z) (keep_join counted xs ys)
keep_join counted (Flagged word flags ∷ xs) ys = keep_join counted xs ys

keep_given : (counted : ℕ → Bool) (from : ℕ) (rows : List ℕ) → keep counted (given_to from rows) ≡ cond (counted from) (given_to from rows) []
unfolding keep
keep_given counted from [] = at (counted from) where
  at : (b : Bool) → [] ≡ cond b (given_to from []) []
  at true = refl
  at false = refl
keep_given counted from (row ∷ rows) = at (counted from) (keep_given counted from rows) where
  at : (b : Bool) → keep counted (given_to from rows) ≡ cond b (given_to from rows) []
      → cond b (Gave row from ∷ []) [] ++ keep counted (given_to from rows) ≡ cond b (Gave row from ∷ given_to from rows) []
  at true e = ap (λ z. Gave row from ∷ z) e
  at false e = e

keep_moved : (counted : ℕ → Bool) (moves : List Move) → keep counted (moved_by every moves) ≡ moved_by counted moves
unfolding keep
keep_moved counted [] = refl
keep_moved counted (move ∷ moves) =
    ap (λ z. Took move.from ∷ z)
    (keep_join counted (given_to move.from move.to) (moved_by every moves)
    ∙ ap (λ z. z ++ keep counted (moved_by every moves)) (keep_given counted move.from move.to)
    ∙ ap (λ z. cond (counted move.from) (given_to move.from move.to) [] ++ z) (keep_moved counted moves))

keep_signed : (counted : ℕ → Bool) (signs : List Sign) → keep counted (signed_by signs) ≡ signed_by signs
unfolding keep
keep_signed counted [] = refl
keep_signed counted (Frees row ∷ signs) = ap (λ z. Freed row ∷ z) (keep_signed counted signs)
keep_signed counted (Tags row ∷ signs) = ap (λ z. Tagged row ∷ z) (keep_signed counted signs)

-- so the entries that are due do what is asked for
due_did : (counted : ℕ → Bool) (entries : List Entry) → flat_map did (due_of counted entries) ≡ keep counted (flat_map did entries)
unfolding keep
due_did counted [] = refl
due_did counted (entry ∷ entries) = at entry (due_did counted entries) where
  at : (entry : Entry) → flat_map did (due_of counted entries) ≡ keep counted (flat_map did entries)
      → flat_map did (cond (is_due counted entry) (entry ∷ []) [] ++ due_of counted entries) ≡ keep counted (did entry ++ flat_map did entries)
  at (says.Take row version) e = ap (λ z. Took row ∷ z) e
  at (says.Give row version from) e = give (counted from) where
    give : (b : Bool) → flat_map did (cond b (says.Give row version from ∷ []) [] ++ due_of counted entries)
        ≡ cond b (Gave row from ∷ []) [] ++ keep counted (flat_map did entries)
    give true = ap (λ z. Gave row from ∷ z) e
    give false = e
  at (says.Free row version) e = ap (λ z. Freed row ∷ z) e
  at (says.Tag row version) e = ap (λ z. Tagged row ∷ z) e
  at (says.Set word version flags) e = e
  at _ e = e

due_join : (counted : ℕ → Bool) (xs ys : List Entry) → due_of counted (xs ++ ys) ≡ due_of counted xs ++ due_of counted ys
due_join counted [] ys = refl
due_join counted (x ∷ xs) ys =
    ap (λ z. cond (is_due counted x) (x ∷ []) [] ++ z) (due_join counted xs ys)
    ∙ sym (append_assoc (cond (is_due counted x) (x ∷ []) []) (due_of counted xs) (due_of counted ys))

due_sets : (counted : ℕ → Bool) (words : List Word) (flags : List Wanted) → due_of counted (flagging_entries words flags) ≡ []
due_sets counted words [] = refl
due_sets counted words (one ∷ others) = due_sets counted words others

due_tell : (counted : ℕ → Bool) (entries : List Entry) → Each TellsOne entries → Each TellsOne (due_of counted entries)
due_tell counted [] h = tt
due_tell counted (entry ∷ entries) h = at (is_due counted entry) (due_tell counted entries h.1) where
  at : (b : Bool) → Each TellsOne (due_of counted entries) → Each TellsOne (cond b (entry ∷ []) [] ++ due_of counted entries)
  at true rest = (h.0, rest)
  at false rest = rest

-- of an action's order
order_due : (asked : ℕ → Asked) (work : Work) (words : List Word) (entries : List Entry) (order : Order) (before : ℕ)
    → asked (suc before) ≡ asked_by work → order.end ≤ length entries → AreAsked work words (entries_in entries order)
    → IsOrdered asked entries order before
order_due asked work words entries order before is within are = record { within = within; dues = dues; tell = tell } where
  only : (counted : ℕ → Bool) → due_of counted (entries_in entries order) ≡ due_of counted are.changes
  only counted =
      ap (due_of counted) are.entries_are ∙ due_join counted are.changes (flagging_entries words work.flags)
      ∙ ap (λ z. due_of counted are.changes ++ z) (due_sets counted words work.flags) ∙ append-nil (due_of counted are.changes)

  dues : (counted : ℕ → Bool) → flat_map did (due_of counted (entries_in entries order))
      ≡ moved_by counted (asked (suc before)).moves ++ signed_by (asked (suc before)).signs
  dues counted =
      ap (flat_map did) (only counted) ∙ due_did counted are.changes ∙ ap (keep counted) are.changes_are
      ∙ keep_join counted (moved_by every (asked_by work).moves) (signed_by (asked_by work).signs)
      ∙ ap (λ z. z ++ keep counted (signed_by (asked_by work).signs)) (keep_moved counted (asked_by work).moves)
      ∙ ap (λ z. moved_by counted (asked_by work).moves ++ z) (keep_signed counted (asked_by work).signs)
      ∙ ap (λ (z : Asked). moved_by counted z.moves ++ signed_by z.signs) (sym is)

  tell : (counted : ℕ → Bool) → Each TellsOne (due_of counted (entries_in entries order))
  tell counted = subst (Each TellsOne) (sym (only counted)) (due_tell counted are.changes are.tell)

there : {A B : Type 0} (xs : List A) (ys : List B) (at : ℕ) (y : B) → length ys ≡ length xs → slice_get ys at ≡ Some y → (x : A) × (slice_get xs at ≡ Some x)
there [] (y ∷ ys) at z h e = absurd (omega (arith, h))
there [] [] zero z h e = absurd (cc)
there [] [] (suc at) z h e = absurd (cc)
there (x ∷ xs) [] at z h e = absurd (omega (arith, h))
there (x ∷ xs) (y ∷ ys) zero z h e = (x, refl)
there (x ∷ xs) (y ∷ ys) (suc at) z h e = there xs ys at z (omega (arith, h)) e

-- of the orders of all actions
pub order_at : (setting : Setting) (change : Label → Change) (labels : List Label) (entries : List Entry) (orders : List Order)
    → AreOrders setting change labels entries orders → (before : ℕ) (order : Order) → slice_get orders before ≡ Some order
    → IsOrdered (asked_at setting change labels) entries order before
order_at setting change labels entries orders are before order e =
    let found = there labels orders before order are.count e in
    let label : Label = found.0 in
    let s : State = state_of setting change (take before labels) in
    let is : IsOrder s label.session (change label) entries order = are.each before label order found.1 e in
    let last : suc before - 1 ≡ before = omega arith in
    let asks : asked_at setting change labels (suc before) ≡ asked_by (work_for s label.session (change label)) =
    ap (λ z. asked_by (work_of_label change (state_of setting change (take (suc before - 1) labels)) z)) found.1
    ∙ ap (λ n. asked_by (work_for (state_of setting change (take n labels)) label.session (change label))) last in
    order_due (asked_at setting change labels) (work_for s label.session (change label)) s.words entries order before asks is.within is.asked

-- an action that isn't there changes nothing
pub none_asked : (setting : Setting) (change : Label → Change) (labels : List Label) (number : ℕ) → length labels < number
    → ((asked_at setting change labels number).moves ≡ []) × ((asked_at setting change labels number).signs ≡ [])
none_asked setting change labels zero h = absurd (omega (arith, h))
none_asked setting change labels (suc before) h = (
  ap (λ z. (asked_by (work_of_label change (state_of setting change (take (suc before - 1) labels)) z)).moves) (past labels before (omega (arith, h))),
  ap (λ z. (asked_by (work_of_label change (state_of setting change (take (suc before - 1) labels)) z)).signs) (past labels before (omega (arith, h))),
) where
  past : (xs : List Label) (n : ℕ) → length xs ≤ n → slice_get xs n ≡ None
  past [] n h = refl
  past (x ∷ xs) zero h = absurd (omega (arith, h))
  past (x ∷ xs) (suc n) h = past xs n (omega (arith, h))

-- entries one after another, from the first on
first_left : (es : List Entry) (place : ℕ) (entry : Entry) → slice_get es place ≡ Some entry → drop place es ≡ entry ∷ drop (suc place) es
first_left [] place entry e = absurd (cc)
first_left (x ∷ es) zero entry e = ap (λ z. z ∷ es) (same_Some x entry e)
first_left (x ∷ es) (suc place) entry e = first_left es place entry e

part_first : (es : List Entry) (place end : ℕ) (entry : Entry) → place < end → slice_get es place ≡ Some entry
    → take (end - place) (drop place es) ≡ entry ∷ take (end - (place + 1)) (drop (place + 1) es)
part_first es place end entry less e =
    ap (λ z. take z (drop place es)) more ∙ ap (take (suc (end - (place + 1)))) (first_left es place entry e)
    ∙ ap (λ z. entry ∷ take (end - (place + 1)) (drop z es)) next where
      more : end - place ≡ suc (end - (place + 1))
      more = omega (arith, less)

      next : suc place ≡ place + 1
      next = omega arith

none_left : (es : List Entry) (place end : ℕ) → end ≤ place → take (end - place) (drop place es) ≡ []
none_left es place end h = ap (λ z. take z (drop place es)) none where
  none : end - place ≡ 0
  none = omega (arith, h)

order_end : (end count : ℕ) → end ≤ count → min end count ≡ end
order_end end count h = omega (arith, h)

-- the changes that are due, with that of one entry more
pub due_more : (counted : ℕ → Bool) (es : List Entry) (place end : ℕ) (entry : Entry) (old new all : List Entry) → place < end
    → slice_get es place ≡ Some entry → new ≡ old ++ cond (is_due counted entry) (entry ∷ []) []
    → old ++ due_of counted (take (end - place) (drop place es)) ≡ all
    → new ++ due_of counted (take (end - (place + 1)) (drop (place + 1) es)) ≡ all
due_more counted es place end entry old new all less e grown so =
    ap (λ z. z ++ due_of counted (take (end - (place + 1)) (drop (place + 1) es))) grown
    ∙ append_assoc old (cond (is_due counted entry) (entry ∷ []) []) (due_of counted (take (end - (place + 1)) (drop (place + 1) es)))
    ∙ ap (λ z. old ++ due_of counted z) (sym (part_first es place end entry less e)) ∙ so

pub due_whole : (counted : ℕ → Bool) (es : List Entry) (order : Order) (place end : ℕ) (due : List Entry) → end ≤ place
    → end ≡ min order.end (length es) → due ++ due_of counted (take (end - place) (drop place es)) ≡ due_of counted (take (end - order.start) (drop order.start es))
    → order.end ≤ length es → due ≡ due_of counted (entries_in es order)
due_whole counted es order place end due over is so within =
    sym (append-nil due) ∙ ap (λ z. due ++ due_of counted z) (sym (none_left es place end over)) ∙ so
    ∙ ap (λ z. due_of counted (take (z - order.start) (drop order.start es))) (is ∙ order_end order.end (length es) within)
