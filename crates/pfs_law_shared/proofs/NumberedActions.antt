-- What the action of a number gives, where each number up to the last is that of just one action, in whatever order.
use Rattle.std.proofs.Common.{ℕ, zero, suc, ◌≡◌, ◌+◌, ◌<◌, ◌≤◌, ◌==◌, Bool, true, false, cond, ◌&&◌, List, [], ◌∷◌, ◌++◌, length, Option, Some, None, slice_get, inl, inr, refl, ap, sym, ◌∙◌, subst, arith, append-nil, length-append, eq-eqb, ne_eqb, le-leb}
use Rattle.std.specs.Prelude.{nat_lt, nat_le, if◌then◌else◌}
use Rattle.std.proofs.lemmas.Bool.{cases_eq, cases_lt}
use Rattle.pfs_admin.specs.Works.{Work}
use Rattle.pfs_admin.specs.declared.changes.Change.{Change}
use Rattle.pfs_board.specs.declared.view.Label.{Label}
use Rattle.pfs_classes.specs.declared.setting.Setting.{Setting}
use Rattle.pfs_event.specs.declared.entry.Entry.{Entry}
use Rattle.pfs_event.specs.declared.entry.Entry.TheVariants as says
use Rattle.pfs_levels.specs.JointCalls.{one_if}
use Rattle.pfs_model.specs.Chains.{Each, IsChained, times, is_of, is_that, action_change, change_at, each_of}
use Rattle.pfs_model.specs.EntryPlaces.{Placed, placed_lines, up_to_phase, AreShapedBehind}
use Rattle.pfs_law_session.specs.AllActions.{nothing_asked, numbers_of, all_numbers}
use Rattle.pfs_law_session.specs.Deeds.{Part, action_of}
use Rattle.pfs_law_session.specs.Demands.{asked_by, no_rows, number_of, number_or_none}
use Rattle.pfs_law_session.specs.JournalLaws.{lines_of, entries_of}
use Rattle.pfs_law_session.specs.Orders.{Acting, actings_of, all_actings, of_number, no_rooms, no_words, answer_for, asked_for, room_for, words_for, signed_words}
use Rattle.pfs_law_session.specs.Stints.{Stint, blocks_of}
use Rattle.pfs_law_plain.proofs.PhaseFronts.{entries_front}
use Rattle.pfs_law_plain.specs.RunRules.{entries_of as all_entries}
use Rattle.pfs_law_plain.specs.SessionNotes.{ToldLaw}
use Rattle.pfs_law_plain.specs.Spells.{Spell, AreSpells, parts_in, stints_of}
use Rattle.pfs_runs.specs.Labels.{before_action, work_of_label, rooms_of_label, answer_of_label, label_at, asked_at, rooms_at, answers_at, words_at}
use Rattle.pfs_law_shared.specs.Order.{AllNear}
use Rattle.pfs_law_shared.proofs.ActionNotes.{acts, act_by, acts_of, places_acts, parts_acts}
use Rattle.pfs_law_plain.proofs.LabelWork.{KnownActing}
use Rattle.pfs_law_shared.proofs.OrderedActions.{each_near}
use Rattle.pfs_law_shared.proofs.PhaseChains.{times_then}
use Rattle.pfs_law_shared.proofs.PhaseWalks.{IsSum, same_kept, sum_up_to, IsRelated, walked}
use Rattle.pfs_law_shared.proofs.PhaseWeights.{each_then}

abbrev pub often : ℕ → List ℕ → ℕ
often number numbers = times (λ m. m == number) numbers

-- numbers of lines, as the entries print them
often_then : (number : ℕ) (xs ys : List ℕ) → often number (xs ++ ys) ≡ often number xs + often number ys
often_then number [] ys = omega arith
often_then number (x ∷ xs) ys = omega (arith, often_then number xs ys)

part_often : (number : ℕ) → 0 < number → (ps : List Part) → times (is_that (change_at 0 number)) (acts_of ps) ≡ often number (numbers_of ps)
part_often number up [] = refl
part_often number up (p ∷ ps) = by (action_of p.deed) (part_often number up ps) where
  by : (action : Option ℕ) → times (is_that (change_at 0 number)) (acts_of ps) ≡ often number (numbers_of ps)
      → times (is_that (change_at 0 number)) (act_by action ++ acts_of ps) ≡ cond (number_or_none action == number) 1 0 + often number (numbers_of ps)
  by None e = e ∙ sym (ap (λ b. cond {A = ℕ} b 1 0 + often number (numbers_of ps)) (ne_eqb 0 number (λ z. omega (arith, up, z))) ∙ none (often number (numbers_of ps))) where
    none : (n : ℕ) → 0 + n ≡ n
    none n = omega arith
  by (Some own) e = ap (λ n. cond (own == number) 1 0 + n) e

numbers_sum : (number : ℕ) → IsSum (λ ps. times (is_that (change_at 0 number)) (each_of action_change ps))
numbers_sum number = record {
  none = refl;
  both = λ xs ys. ap (times (is_that (change_at 0 number))) (each_then action_change xs ys) ∙ times_then (is_that (change_at 0 number)) (each_of action_change xs) (each_of action_change ys);
}

numbers_related : ToldLaw → (number : ℕ) → 0 < number → IsRelated (λ a b. a ≡ b) (λ ps. times (is_that (change_at 0 number)) (each_of action_change ps)) (λ spell. often number (numbers_of (parts_in spell.doings)))
numbers_related told number up = λ context s spell sits are entered near shaped.
    (let ps : List Part = parts_in spell.doings in
    let placed : List Placed = placed_lines spell.phase spell.session context (lines_of ps) (entries_of ps) in
    let t = (told context s ps sits are).same spell.phase spell.session in
    ap (times (is_that (change_at 0 number))) (places_acts placed ∙ (ap acts t ∙ parts_acts s ps are)) ∙ part_often number up ps)

all_often : (number last : ℕ) (spells : List Spell) → Each (λ spell. spell.phase ≤ last) spells → sum_up_to (λ spell. often number (numbers_of (parts_in spell.doings))) last spells ≡ often number (all_numbers (stints_of spells))
all_often number last [] low = refl
all_often number last (spell ∷ spells) low =
    let own : ℕ = often number (numbers_of (parts_in spell.doings)) in
    let t = often_then number (numbers_of (parts_in spell.doings)) (all_numbers (stints_of spells)) in
    omega (arith, t, ap (λ b. cond b own 0) (le-leb spell.phase last low.0), all_often number last spells low.1)

-- all printed numbers are of row 0
entry_zero : (e : Entry) → times (is_of 0) (action_change e) ≡ length (action_change e)
entry_zero (says.Connect action thread account user host) = refl
entry_zero (says.Act action) = refl
entry_zero _ = refl

all_zero : (ps : List Placed) → times (is_of 0) (each_of action_change ps) ≡ length (each_of action_change ps)
all_zero [] = refl
all_zero (p ∷ ps) =
    let a = times_then (is_of 0) (action_change p.entry) (each_of action_change ps) in
    let b = length-append (action_change p.entry) (each_of action_change ps) in
    omega (arith, a, b, entry_zero p.entry, all_zero ps)

-- so each number up to the last is that of one action, and no other number is one
pub record AreNumbered (last : ℕ) (numbers : List ℕ) : Type 0 where
  pub each : (number : ℕ) → 0 < number → often number numbers ≡ one_if (nat_lt 0 number && nat_le number last)

pub numbered : ToldLaw → (stack : ℕ) (depths : ℕ → ℕ) (spells : List Spell) (last count : ℕ) → AreSpells stack depths spells → AllNear spells → Each (λ spell. spell.phase ≤ last) spells
    → AreShapedBehind [] 0 (blocks_of (stints_of spells)) → IsChained (each_of action_change (up_to_phase last (all_entries spells))) → count ≡ length (each_of action_change (all_entries spells)) → AreNumbered count (all_numbers (stints_of spells))
numbered told stack depths spells last count are near low shaped chain few = record { each = each } where
  whole : up_to_phase last (all_entries spells) ≡ all_entries spells
  whole = subst (λ z. up_to_phase last (all_entries z) ≡ all_entries spells) (append-nil spells) (entries_front last spells [] low tt)

  each : (number : ℕ) → 0 < number → often number (all_numbers (stints_of spells)) ≡ one_if (nat_lt 0 number && nat_le number count)
  each number up =
      let w = walked told (λ a b. a ≡ b) same_kept (λ ps. times (is_that (change_at 0 number)) (each_of action_change ps)) (numbers_sum number) (λ spell. often number (numbers_of (parts_in spell.doings))) (numbers_related told number up) last stack depths spells are.stints are.entered shaped (each_near spells near) in
      let n : times (is_of 0) (each_of action_change (up_to_phase last (all_entries spells))) ≡ count = all_zero (up_to_phase last (all_entries spells)) ∙ (ap (λ z. length (each_of action_change z)) whole ∙ sym few) in
      sym (w ∙ all_often number last spells low) ∙ (chain (change_at 0 number) ∙ ap (λ z. one_if (nat_lt 0 number && nat_le number z)) n)

-- what the action of a number gives
abbrev number_in : Acting → ℕ
number_in one = number_of one.deed

abbrev numbers_in : List Acting → List ℕ
numbers_in [] = []
numbers_in (one ∷ others) = number_in one ∷ numbers_in others

parts_numbers : (session : ℕ) (ps : List Part) (rest : List Acting) → numbers_in (actings_of session ps ++ rest) ≡ numbers_of ps ++ numbers_in rest
parts_numbers session [] rest = refl
parts_numbers session (p ∷ ps) rest = ap (λ z. number_of p.deed ∷ z) (parts_numbers session ps rest)

stints_numbers : (stints : List Stint) → numbers_in (all_actings stints) ≡ all_numbers stints
stints_numbers [] = refl
stints_numbers (stint ∷ stints) = parts_numbers stint.session stint.parts (all_actings stints) ∙ ap (λ z. numbers_of stint.parts ++ z) (stints_numbers stints)

abbrev IsGiven : {A : Type 0} → (Acting → A) → (ℕ → A) → Acting → Type 0
IsGiven give value one = give one ≡ value (number_in one)

found : {A : Type 0} (give : Acting → A) (none : A) (value : ℕ → A) (ones : List Acting) → Each (IsGiven give value) ones → (n : ℕ) → 0 < often n (numbers_in ones) → of_number give none ones n ≡ value n
found give none value [] each n some = absurd (omega (arith, some))
found {A} give none value (one ∷ others) each n some = elim (cases_eq (number_in one) n) [
  | inl e ↦ ap (λ b. if b then give one else of_number give none others n) (eq-eqb (number_in one) n e) ∙ (each.0 ∙ ap value e)
  | inr e ↦ ap (λ b. if b then give one else of_number give none others n) (ne_eqb (number_in one) n e)
      ∙ found give none value others each.1 n (omega (arith, some, ap (λ b. cond {A = ℕ} b 1 0) (ne_eqb (number_in one) n e)))
]

found_none : {A : Type 0} (give : Acting → A) (none : A) (value : ℕ → A) (ones : List Acting) → Each (IsGiven give value) ones → (n : ℕ) → none ≡ value n → of_number give none ones n ≡ value n
found_none give none value [] each n e = e
found_none {A} give none value (one ∷ others) each n e = elim (cases_eq (number_in one) n) [
  | inl z ↦ ap (λ b. if b then give one else of_number give none others n) (eq-eqb (number_in one) n z) ∙ (each.0 ∙ ap value z)
  | inr z ↦ ap (λ b. if b then give one else of_number give none others n) (ne_eqb (number_in one) n z) ∙ found_none give none value others each.1 n e
]

pub unique : (last : ℕ) (stints : List Stint) → AreNumbered last (all_numbers stints) → (number : ℕ) → 0 < number → times (λ n. n == number) (all_numbers stints) ≤ 1
unique last stints are number up = few (nat_lt 0 number && nat_le number last) (are.each number up) where
  few : (b : Bool) → often number (all_numbers stints) ≡ one_if b → often number (all_numbers stints) ≤ 1
  few true e = omega (arith, e)
  few false e = omega (arith, e)

same_functions : {A : Type 0} (f g : ℕ → A) → ((n : ℕ) → f n ≡ g n) → f ≡ g
same_functions f g e = λ i n. e n i

get_past : (labels : List Label) (n : ℕ) → length labels ≤ n → slice_get labels n ≡ None
get_past [] n low = refl
get_past (x ∷ xs) zero low = absurd (omega (arith, low))
get_past (x ∷ xs) (suc n) low = get_past xs n (omega (arith, low))

label_past : (labels : List Label) (n : ℕ) → length labels < n → label_at labels n ≡ None
label_past labels zero low = absurd (omega (arith, low))
label_past labels (suc n) low = get_past labels n (omega (arith, low))

each_given : {A : Type 0} (setting : Setting) (change : Label → Change) (all : List Label) (give : Acting → A) (value : ℕ → A) (ones : List Acting)
    → ((one : Acting) → KnownActing setting change all one → IsGiven give value one) → Each (KnownActing setting change all) ones → Each (IsGiven give value) ones
each_given setting change all give value [] f k = tt
each_given setting change all give value (one ∷ others) f k = (f one k.0, each_given setting change all give value others f k.1)

some_there : (number last : ℕ) (numbers : List ℕ) → AreNumbered last numbers → 0 < number → number ≤ last → 0 < often number numbers
some_there number last numbers are up low = omega (arith, are.each number up, yes number last up low) where
  yes : (m n : ℕ) → 0 < m → m ≤ n → one_if (nat_lt 0 m && nat_le m n) ≡ 1
  yes m n up low = grind (arith, up, low)

by_number : {A : Type 0} (setting : Setting) (change : Label → Change) (all : List Label) (give : Acting → A) (none : A) (value : ℕ → A) (stints : List Stint)
    → AreNumbered (length all) (all_numbers stints) → Each (KnownActing setting change all) (all_actings stints) → ((one : Acting) → KnownActing setting change all one → IsGiven give value one)
    → ((n : ℕ) → label_at all n ≡ None → none ≡ value n) → of_number give none (all_actings stints) ≡ value
by_number {A} setting change all give none value stints are known gives nothing =
    let each : Each (IsGiven give value) (all_actings stints) = each_given setting change all give value (all_actings stints) gives known in
    same_functions (of_number give none (all_actings stints)) value (λ n. at each n) where
      at : Each (IsGiven give value) (all_actings stints) → (n : ℕ) → of_number give none (all_actings stints) n ≡ value n
      at each zero = found_none give none value (all_actings stints) each zero (nothing zero refl)
      at each (suc n) = elim (cases_lt n (length all)) [
        | inl low ↦ found give none value (all_actings stints) each (suc n) (subst (λ z. 0 < often (suc n) z) (sym (stints_numbers stints)) (some_there (suc n) (length all) (all_numbers stints) are (omega arith) (omega (arith, low))))
        | inr past ↦ found_none give none value (all_actings stints) each (suc n) (nothing (suc n) (label_past all (suc n) (omega (arith, past))))
      ]

module _ (setting : Setting) (change : Label → Change) (all : List Label) (stints : List Stint) (are : AreNumbered (length all) (all_numbers stints)) (known : Each (KnownActing setting change all) (all_actings stints)) where
  pub asked_are : of_number asked_for nothing_asked (all_actings stints) ≡ asked_at setting change all
  asked_are =
      by_number setting change all asked_for nothing_asked (asked_at setting change all) stints are known (λ one k. ap asked_by k.work)
      (λ n none. sym (ap (λ z. asked_by (work_of_label change (before_action setting change all n) z)) none))

  pub rooms_are : of_number room_for no_rooms (all_actings stints) ≡ rooms_at setting change all
  rooms_are =
      by_number setting change all room_for no_rooms (rooms_at setting change all) stints are known (λ one k. k.rooms)
      (λ n none. sym (ap (λ z. rooms_of_label change (before_action setting change all n) z) none))

  pub answers_are : of_number answer_for no_rows (all_actings stints) ≡ answers_at setting change all
  answers_are =
      by_number setting change all answer_for no_rows (answers_at setting change all) stints are known (λ one k. k.answers)
      (λ n none. sym (ap (λ z. answer_of_label change (before_action setting change all n) z) none))

  pub words_are : of_number words_for no_words (all_actings stints) ≡ words_at setting change all
  words_are =
      by_number setting change all words_for no_words (words_at setting change all) stints are known (λ one k. ap (λ (z : Work). signed_words z.signs) k.work)
      (λ n none. sym (ap (λ z. signed_words (work_of_label change (before_action setting change all n) z).signs) none))
