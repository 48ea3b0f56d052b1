-- What an order of an action asks to set.
use Rattle.std.proofs.Common.{◌≡◌, refl, ℕ, zero, suc, ◌+◌, ◌-◌, ◌<◌, ◌≤◌, ◌==◌, Bool, true, false, cond, List, [], ◌∷◌, ◌++◌, drop, length, map, min, take, sym, ◌∙◌, ap, arith, Some, None}
use Rattle.std.specs.Prelude.{slice_get}
use Rattle.std.proofs.lemmas.Option.{same_Some}
use Rattle.std.specs.BTreeMap.{BTreeMap}
use Rattle.std.specs.List.{flat_map}
use Rattle.pfs_admin.specs.AdministrationStates.{State}
use Rattle.pfs_admin.specs.Fold.{state_of}
use Rattle.pfs_admin.specs.Works.{Flagging as Wanted, Work, flagging_entries}
use Rattle.pfs_admin.specs.declared.changes.Change.{Change}
use Rattle.pfs_board.specs.declared.view.Label.{Label}
use Rattle.pfs_classes.specs.declared.setting.Setting.{Setting}
use Rattle.pfs_event.specs.declared.entry.Entry.{Entry}
use Rattle.pfs_event.specs.declared.entry.Entry.TheVariants as says
use Rattle.pfs_law_session.specs.Demands.{asked_by, sets_asked as wanted_sets}
use Rattle.pfs_levels.specs.declared.answers.Word.{Word}
use Rattle.pfs_model.proofs.ChainGrowth.{times_append}
use Rattle.pfs_model.specs.ActionAsks.{Asked, Did, Flagged, Flagging, Freed, Frees, Gave, Move, Sign, Tagged, Tags, Took, did, given_to, moved_by, signed_by}
use Rattle.pfs_model.specs.Chains.{times}
use Rattle.pfs_runs.specs.Labels.{asked_at, work_for, work_of_label}
use Rattle.pfs_check_blank.specs.AllAsked.{AreAsked, every}
use Rattle.pfs_check_faults.specs.ActionFaults.{sets_asked, sets_due, sets_due_of}
use Rattle.pfs_check_orders.specs.ActionOrders.{AreOrders, IsOrder, entries_in}
use Rattle.pfs_check_orders.specs.declared.orders.Order.{Order}
use Rattle.pfs_check_setup.specs.DueSets.{AreAskedFor, due_at, dues_by, is_set_of}
use Rattle.pfs_check_setup.specs.PrintedActions.{count_in, setting_by}
use Rattle.pfs_check_setup.specs.SetupRules.{IsOrdered}
use Rattle.pfs_check_setup.specs.declared.sets.WordSet.{WordSet}

-- a set is told as one
is_flag : Did → Bool
is_flag (Flagged word flags) = true
is_flag (Took row) = false
is_flag (Gave row from) = false
is_flag (Freed row) = false
is_flag (Tagged row) = false

given_none : (from : ℕ) (rows : List ℕ) → times is_flag (given_to from rows) ≡ 0
unfolding is_flag
given_none from [] = refl
given_none from (row ∷ rows) = let rest : times is_flag (given_to from rows) ≡ 0 = given_none from rows in omega (arith, rest)

moved_none : (moves : List Move) → times is_flag (moved_by every moves) ≡ 0
unfolding is_flag
moved_none [] = refl
moved_none (move ∷ moves) =
    let rest : times is_flag (moved_by every moves) ≡ 0 = moved_none moves in
    omega (arith, rest, given_none move.from move.to, times_append is_flag (given_to move.from move.to) (moved_by every moves))

signed_none : (signs : List Sign) → times is_flag (signed_by signs) ≡ 0
unfolding is_flag
signed_none [] = refl
signed_none (Frees row ∷ signs) = let rest : times is_flag (signed_by signs) ≡ 0 = signed_none signs in omega (arith, rest)
signed_none (Tags row ∷ signs) = let rest : times is_flag (signed_by signs) ≡ 0 = signed_none signs in omega (arith, rest)

both_none : (moves : List Move) (signs : List Sign) → times is_flag (moved_by every moves ++ signed_by signs) ≡ 0
both_none moves signs = omega (arith, times_append is_flag (moved_by every moves) (signed_by signs), moved_none moves, signed_none signs)

none_front : (a b sum : ℕ) → sum ≡ 0 → sum ≡ a + b → b ≡ 0
none_front a b sum e f = omega (arith, e, f)

-- so no entry before the sets asks for one
dues_behind : (counts : BTreeMap ℕ ℕ) (changes rest : List Entry) → times is_flag (flat_map did changes) ≡ 0
    → dues_by counts (changes ++ rest) ≡ dues_by counts rest
unfolding is_flag
dues_behind counts [] rest e = refl
dues_behind counts (entry ∷ changes) rest e = at entry e (λ h. dues_behind counts changes rest h) where
  left : (entry : Entry) → times is_flag (did entry ++ flat_map did changes) ≡ 0 → times is_flag (flat_map did changes) ≡ 0
  left entry e = none_front (times is_flag (did entry)) (times is_flag (flat_map did changes)) (times is_flag (did entry ++ flat_map did changes)) e
      (times_append is_flag (did entry) (flat_map did changes))

  at : (entry : Entry) → times is_flag (did entry ++ flat_map did changes) ≡ 0
      → (times is_flag (flat_map did changes) ≡ 0 → dues_by counts (changes ++ rest) ≡ dues_by counts rest)
      → due_at counts entry ++ dues_by counts (changes ++ rest) ≡ dues_by counts rest
  at (says.Set word version flags) e go = absurd (omega (arith, e))
  at entry e go = go (left entry e)

words_behind : (word : ℕ) (changes rest : List Entry) → times is_flag (flat_map did changes) ≡ 0
    → times (is_set_of word) (changes ++ rest) ≡ times (is_set_of word) rest
unfolding is_flag
words_behind word [] rest e = refl
words_behind word (entry ∷ changes) rest e = at entry e (λ h. words_behind word changes rest h) where
  left : (entry : Entry) → times is_flag (did entry ++ flat_map did changes) ≡ 0 → times is_flag (flat_map did changes) ≡ 0
  left entry e = none_front (times is_flag (did entry)) (times is_flag (flat_map did changes)) (times is_flag (did entry ++ flat_map did changes)) e
      (times_append is_flag (did entry) (flat_map did changes))

  at : (entry : Entry) → times is_flag (did entry ++ flat_map did changes) ≡ 0
      → (times is_flag (flat_map did changes) ≡ 0 → times (is_set_of word) (changes ++ rest) ≡ times (is_set_of word) rest)
      → cond {A = ℕ} (is_set_of word entry) 1 0 + times (is_set_of word) (changes ++ rest) ≡ times (is_set_of word) rest
  at (says.Set one version flags) e go = absurd (omega (arith, e))
  at entry e go = let same : times (is_set_of word) (changes ++ rest) ≡ times (is_set_of word) rest = go (left entry e) in omega (arith, same)

-- the sets themselves
dues_wanted : (asked : ℕ → Asked) (counts : BTreeMap ℕ ℕ) (before : ℕ) (words : List Word) (wanted : List Wanted) → AreAskedFor asked counts before
    → map (setting_by (suc before)) (dues_by counts (flagging_entries words wanted)) ≡ sets_due_of asked (suc before) (wanted_sets wanted)
dues_wanted asked counts before words [] are = refl
dues_wanted asked counts before words (one ∷ others) are =
    let last : before ≡ suc before - 1 = omega arith in
    let version : count_in counts one.word ≡ sets_asked asked one.word (suc before - 1) = are.each one.word ∙ ap (sets_asked asked one.word) last in
    ap (λ z. record { action = suc before; word = one.word; version = z + 1; flags = one.flags } ∷ map (setting_by (suc before)) (dues_by counts (flagging_entries words others))) version
    ∙ ap (λ z. record { action = suc before; word = one.word; version = sets_asked asked one.word (suc before - 1) + 1; flags = one.flags } ∷ z)
    (dues_wanted asked counts before words others are)

words_wanted : (word : ℕ) (words : List Word) (wanted : List Wanted)
    → times (is_set_of word) (flagging_entries words wanted) ≡ times (λ (one : Flagging). one.word == word) (wanted_sets wanted)
words_wanted word words [] = refl
words_wanted word words (one ∷ others) = ap (λ z. cond {A = ℕ} (one.word == word) 1 0 + z) (words_wanted word words others)

-- of an action's order
pub order_due : (asked : ℕ → Asked) (work : Work) (words : List Word) (entries : List Entry) (order : Order) (before : ℕ)
    → asked (suc before) ≡ asked_by work → order.end ≤ length entries → AreAsked work words (entries_in entries order)
    → IsOrdered asked entries order before
order_due asked work words entries order before is within are = record { within = within; dues = dues; words = counted } where
  none : times is_flag (flat_map did are.changes) ≡ 0
  none = ap (times is_flag) are.changes_are ∙ both_none (asked_by work).moves (asked_by work).signs

  dues : (counts : BTreeMap ℕ ℕ) → AreAskedFor asked counts before
      → map (setting_by (suc before)) (dues_by counts (entries_in entries order)) ≡ sets_due asked (suc before)
  dues counts known =
      ap (λ z. map (setting_by (suc before)) (dues_by counts z)) are.entries_are
      ∙ ap (map (setting_by (suc before))) (dues_behind counts are.changes (flagging_entries words work.flags) none)
      ∙ dues_wanted asked counts before words work.flags known
      ∙ ap (λ z. sets_due_of asked (suc before) z.sets) (sym is)

  counted : (word : ℕ) → times (is_set_of word) (entries_in entries order) ≡ times (λ (one : Flagging). one.word == word) (asked (suc before)).sets
  counted word =
      ap (times (is_set_of word)) are.entries_are ∙ words_behind word are.changes (flagging_entries words work.flags) none
      ∙ words_wanted word words work.flags ∙ ap (λ z. times (λ (one : Flagging). one.word == word) z.sets) (sym is)

there : {A B : Type 0} (xs : List A) (ys : List B) (at : ℕ) (y : B) → length ys ≡ length xs → slice_get ys at ≡ Some y → (x : A) × (slice_get xs at ≡ Some x)
there [] (y ∷ ys) at z h e = absurd (omega (arith, h))
there [] [] zero z h e = absurd (cc)
there [] [] (suc at) z h e = absurd (cc)
there (x ∷ xs) [] at z h e = absurd (omega (arith, h))
there (x ∷ xs) (y ∷ ys) zero z h e = (x, refl)
there (x ∷ xs) (y ∷ ys) (suc at) z h e = there xs ys at z (omega (arith, h)) e

-- of the orders of all actions
pub order_at : (setting : Setting) (change : Label → Change) (labels : List Label) (entries : List Entry) (orders : List Order)
    → AreOrders setting change labels entries orders → (before : ℕ) (order : Order) → slice_get orders before ≡ Some order
    → IsOrdered (asked_at setting change labels) entries order before
order_at setting change labels entries orders are before order e =
    let found = there labels orders before order are.count e in
    let label : Label = found.0 in
    let s : State = state_of setting change (take before labels) in
    let is : IsOrder s label.session (change label) entries order = are.each before label order found.1 e in
    let last : suc before - 1 ≡ before = omega arith in
    let asks : asked_at setting change labels (suc before) ≡ asked_by (work_for s label.session (change label)) =
    ap (λ z. asked_by (work_of_label change (state_of setting change (take (suc before - 1) labels)) z)) found.1
    ∙ ap (λ n. asked_by (work_for (state_of setting change (take n labels)) label.session (change label))) last in
    order_due (asked_at setting change labels) (work_for s label.session (change label)) s.words entries order before asks is.within is.asked

-- an action that isn't there sets nothing
pub none_asked : (setting : Setting) (change : Label → Change) (labels : List Label) (number : ℕ) → length labels < number
    → sets_due (asked_at setting change labels) number ≡ []
none_asked setting change labels zero h = absurd (omega (arith, h))
none_asked setting change labels (suc before) h =
    ap (λ z. sets_due_of (asked_at setting change labels) (suc before) (asked_by (work_of_label change (state_of setting change (take (suc before - 1) labels)) z)).sets)
    (past labels before (omega (arith, h))) where
      past : (xs : List Label) (n : ℕ) → length xs ≤ n → slice_get xs n ≡ None
      past [] n h = refl
      past (x ∷ xs) zero h = absurd (omega (arith, h))
      past (x ∷ xs) (suc n) h = past xs n (omega (arith, h))

-- entries one after another, from the first on
first_left : (es : List Entry) (place : ℕ) (entry : Entry) → slice_get es place ≡ Some entry → drop place es ≡ entry ∷ drop (suc place) es
first_left [] place entry e = absurd (cc)
first_left (x ∷ es) zero entry e = ap (λ z. z ∷ es) (same_Some x entry e)
first_left (x ∷ es) (suc place) entry e = first_left es place entry e

part_first : (es : List Entry) (place end : ℕ) (entry : Entry) → place < end → slice_get es place ≡ Some entry
    → take (end - place) (drop place es) ≡ entry ∷ take (end - (place + 1)) (drop (place + 1) es)
part_first es place end entry less e =
    ap (λ z. take z (drop place es)) more ∙ ap (take (suc (end - (place + 1)))) (first_left es place entry e)
    ∙ ap (λ z. entry ∷ take (end - (place + 1)) (drop z es)) next where
      more : end - place ≡ suc (end - (place + 1))
      more = omega (arith, less)

      next : suc place ≡ place + 1
      next = omega arith

none_left : (es : List Entry) (place end : ℕ) → end ≤ place → take (end - place) (drop place es) ≡ []
none_left es place end h = ap (λ z. take z (drop place es)) none where
  none : end - place ≡ 0
  none = omega (arith, h)

order_end : (end count : ℕ) → end ≤ count → min end count ≡ end
order_end end count h = omega (arith, h)

append_more : (xs ys zs : List WordSet) → (xs ++ ys) ++ zs ≡ xs ++ (ys ++ zs)
append_more [] ys zs = refl
append_more (x ∷ xs) ys zs = ap (λ z. x ∷ z) (append_more xs ys zs)

append_none : (xs : List WordSet) → xs ++ [] ≡ xs
append_none [] = refl
append_none (x ∷ xs) = ap (λ z. x ∷ z) (append_none xs)

-- the sets that are due, with those of one entry more
pub due_more : (counts : BTreeMap ℕ ℕ) (es : List Entry) (place end : ℕ) (entry : Entry) (old new all : List WordSet) → place < end
    → slice_get es place ≡ Some entry → new ≡ old ++ due_at counts entry → old ++ dues_by counts (take (end - place) (drop place es)) ≡ all
    → new ++ dues_by counts (take (end - (place + 1)) (drop (place + 1) es)) ≡ all
due_more counts es place end entry old new all less e grown so =
    ap (λ z. z ++ dues_by counts (take (end - (place + 1)) (drop (place + 1) es))) grown
    ∙ append_more old (due_at counts entry) (dues_by counts (take (end - (place + 1)) (drop (place + 1) es)))
    ∙ ap (λ z. old ++ dues_by counts z) (sym (part_first es place end entry less e)) ∙ so

pub due_whole : (counts : BTreeMap ℕ ℕ) (es : List Entry) (order : Order) (place end : ℕ) (due : List WordSet) → end ≤ place
    → end ≡ min order.end (length es) → due ++ dues_by counts (take (end - place) (drop place es)) ≡ dues_by counts (take (end - order.start) (drop order.start es))
    → order.end ≤ length es → due ≡ dues_by counts (entries_in es order)
due_whole counts es order place end due over is so within =
    sym (append_none due) ∙ ap (λ z. due ++ dues_by counts z) (sym (none_left es place end over)) ∙ so
    ∙ ap (λ z. dues_by counts (take (z - order.start) (drop order.start es))) (is ∙ order_end order.end (length es) within)

-- and so the words that are counted
pub words_more : (es : List Entry) (place end : ℕ) (entry : Entry) (old new all : ℕ → ℕ) → place < end → slice_get es place ≡ Some entry
    → ((word : ℕ) → new word ≡ cond (is_set_of word entry) 1 0 + old word)
    → ((word : ℕ) → times (is_set_of word) (take (end - place) (drop place es)) + old word ≡ all word)
    → (word : ℕ) → times (is_set_of word) (take (end - (place + 1)) (drop (place + 1) es)) + new word ≡ all word
words_more es place end entry old new all less e grown so word =
    let here : times (is_set_of word) (take (end - place) (drop place es))
    ≡ cond {A = ℕ} (is_set_of word entry) 1 0 + times (is_set_of word) (take (end - (place + 1)) (drop (place + 1) es)) =
    ap (times (is_set_of word)) (part_first es place end entry less e) in
    omega (arith, here, grown word, so word)

pub words_whole : (es : List Entry) (order : Order) (place end : ℕ) (first last : ℕ → ℕ) → end ≤ place → end ≡ min order.end (length es)
    → ((word : ℕ) → times (is_set_of word) (take (end - place) (drop place es)) + last word
    ≡ times (is_set_of word) (take (end - order.start) (drop order.start es)) + first word)
    → order.end ≤ length es → (word : ℕ) → last word ≡ times (is_set_of word) (entries_in es order) + first word
words_whole es order place end first last over is so within word =
    let none : times (is_set_of word) (take (end - place) (drop place es)) ≡ 0 = ap (times (is_set_of word)) (none_left es place end over) in
    let whole : times (is_set_of word) (take (end - order.start) (drop order.start es)) ≡ times (is_set_of word) (entries_in es order) =
    ap (λ z. times (is_set_of word) (take (z - order.start) (drop order.start es))) (is ∙ order_end order.end (length es) within) in
    omega (arith, none, whole, so word)
