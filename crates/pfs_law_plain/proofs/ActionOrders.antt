-- So the orders of all actions are those of their labels.
use Rattle.std.proofs.Common.{ℕ, zero, suc, ◌≡◌, ◌<◌, ◌≤◌, List, [], ◌∷◌, length, None, refl, ap, sym, arith}
use Rattle.std.specs.Prelude.{slice_get}
use Rattle.pfs_admin.specs.Works.{Work}
use Rattle.pfs_admin.specs.declared.changes.Change.{Change}
use Rattle.pfs_law_session.specs.Demands.{asked_by, no_rows}
use Rattle.pfs_law_session.specs.AllActions.{nothing_asked}
use Rattle.pfs_law_session.specs.Orders.{Acting, of_number, no_rooms, no_words, answer_for, asked_for, room_for, words_for, signed_words}
use Rattle.pfs_board.specs.declared.view.Label.{Label}
use Rattle.pfs_classes.specs.declared.setting.Setting.{Setting}
use Rattle.pfs_model.specs.Chains.{Each}
use Rattle.pfs_runs.specs.Labels.{before_action, work_of_label, rooms_of_label, answer_of_label, label_at, asked_at, rooms_at, answers_at, words_at}
use Rattle.pfs_law_plain.proofs.NumberedActions.{AreNumbers, IsGiven, found, found_none}
use Rattle.pfs_law_plain.proofs.LabelWork.{KnownActing}

same_functions : {A : Type 0} (f g : ℕ → A) → ((n : ℕ) → f n ≡ g n) → f ≡ g
same_functions f g e = λ i n. e n i

get_past : (labels : List Label) (n : ℕ) → length labels ≤ n → slice_get labels n ≡ None
get_past [] n low = refl
get_past (x ∷ xs) zero low = absurd (omega (arith, low))
get_past (x ∷ xs) (suc n) low = get_past xs n (omega (arith, low))

label_past : (labels : List Label) (n : ℕ) → length labels < n → label_at labels n ≡ None
label_past labels zero low = absurd (omega (arith, low))
label_past labels (suc n) low = get_past labels n (omega (arith, low))

-- what is given of lines is what their numbers give
each_given : {A : Type 0} (setting : Setting) (change : Label → Change) (all : List Label) (give : Acting → A) (value : ℕ → A) (ones : List Acting)
    → ((one : Acting) → KnownActing setting change all one → IsGiven give value one) → Each (KnownActing setting change all) ones → Each (IsGiven give value) ones
each_given setting change all give value [] f k = tt
each_given setting change all give value (one ∷ others) f k = (f one k.0, each_given setting change all give value others f k.1)

by_number : {A : Type 0} (setting : Setting) (change : Label → Change) (all : List Label) (give : Acting → A) (none : A) (value : ℕ → A) (ones : List Acting)
    → AreNumbers 0 (length all) ones → Each (KnownActing setting change all) ones → ((one : Acting) → KnownActing setting change all one → IsGiven give value one)
    → ((n : ℕ) → label_at all n ≡ None → none ≡ value n) → of_number give none ones ≡ value
by_number {A} setting change all give none value ones are known gives nothing =
    let each : Each (IsGiven give value) ones = each_given setting change all give value ones gives known in
    same_functions (of_number give none ones) value (λ n. at each n) where
      at : Each (IsGiven give value) ones → (n : ℕ) → of_number give none ones n ≡ value n
      at each zero = found_none give none value ones each (nothing 0 refl)
      at each (suc n) = found give none value 0 (length all) ones are each (λ m past. nothing m (label_past all m past)) (suc n) (omega arith)

pub asked_are : (setting : Setting) (change : Label → Change) (all : List Label) (ones : List Acting) → AreNumbers 0 (length all) ones → Each (KnownActing setting change all) ones
    → of_number asked_for nothing_asked ones ≡ asked_at setting change all
asked_are setting change all ones are known =
    by_number setting change all asked_for nothing_asked (asked_at setting change all) ones are known (λ one k. ap asked_by k.work)
    (λ n none. sym (ap (λ z. asked_by (work_of_label change (before_action setting change all n) z)) none))

pub rooms_are : (setting : Setting) (change : Label → Change) (all : List Label) (ones : List Acting) → AreNumbers 0 (length all) ones → Each (KnownActing setting change all) ones
    → of_number room_for no_rooms ones ≡ rooms_at setting change all
rooms_are setting change all ones are known =
    by_number setting change all room_for no_rooms (rooms_at setting change all) ones are known (λ one k. k.rooms)
    (λ n none. sym (ap (λ z. rooms_of_label change (before_action setting change all n) z) none))

pub answers_are : (setting : Setting) (change : Label → Change) (all : List Label) (ones : List Acting) → AreNumbers 0 (length all) ones → Each (KnownActing setting change all) ones
    → of_number answer_for no_rows ones ≡ answers_at setting change all
answers_are setting change all ones are known =
    by_number setting change all answer_for no_rows (answers_at setting change all) ones are known (λ one k. k.answers)
    (λ n none. sym (ap (λ z. answer_of_label change (before_action setting change all n) z) none))

pub words_are : (setting : Setting) (change : Label → Change) (all : List Label) (ones : List Acting) → AreNumbers 0 (length all) ones → Each (KnownActing setting change all) ones
    → of_number words_for no_words ones ≡ words_at setting change all
words_are setting change all ones are known =
    by_number setting change all words_for no_words (words_at setting change all) ones are known (λ one k. ap (λ (z : Work). signed_words z.signs) k.work)
    (λ n none. sym (ap (λ z. signed_words (work_of_label change (before_action setting change all n) z).signs) none))
