-- An action sets no word twice.
use Rattle.std.proofs.Common.{◌≡◌, refl, ℕ, zero, suc, ◌+◌, ◌≤◌, ◌==◌, Bool, true, false, cond, List, [], ◌∷◌, ◌++◌, Option, Some, None, ap, subst, arith}
use Rattle.std.specs.Prelude.{if◌then◌else◌}
use Rattle.std.proofs.lemmas.Bool.Decides.{nat_tests}
use Rattle.pfs_admin.specs.AdministrationStates.{State, has_quit, seat_at, seat_in, thread_flags, connected}
use Rattle.pfs_admin.specs.ConnectionAsks.{connect_work, quit_work}
use Rattle.pfs_containers.specs.declared.containers.Seated.{Seated}
use Rattle.pfs_containers.specs.Administration.{Containers}
use Rattle.pfs_admin.specs.Truncations.{truncation_flags}
use Rattle.pfs_rows.specs.declared.truncations.Truncation.{Truncation}
use Rattle.pfs_rows.specs.declared.truncations.Truncation.TheVariants.{SetupObjects}
use Rattle.pfs_admin.specs.WordChanges.{change_at, flags_changed, up_to}
use Rattle.pfs_admin.specs.Works.{Flagging, flagging, word_at}
use Rattle.pfs_admin.specs.declared.changes.Change.{Change}
use Rattle.pfs_admin.specs.declared.changes.Change.TheVariants.{Connect, Quit, Truncate, Setup}
use Rattle.pfs_board.specs.declared.view.Label.{Label}
use Rattle.pfs_classes.specs.declared.setting.Setting.{Setting}
use Rattle.pfs_law_session.specs.Demands.{sets_asked}
use Rattle.pfs_levels.specs.declared.answers.Word.{Word}
use Rattle.pfs_model.proofs.ChainGrowth.{times_append}
use Rattle.pfs_model.specs.ActionAsks.{Flagging as Asked}
use Rattle.pfs_model.specs.Chains.{times}
use Rattle.pfs_check_faults.proofs.MemberCounts.{one_bit}
use Rattle.pfs_runs.specs.Labels.{asked_at, before_action, label_at, work_at, work_for, work_of_label}

-- how often a word stands
abbrev of_word : ℕ → List Flagging → ℕ
of_word word sets = times (λ (one : Flagging). one.word == word) sets

abbrev Once : List Flagging → Type 0
Once sets = (word : ℕ) → of_word word sets ≤ 1

-- one word at most
flagging_most : (words : List Word) (at flags word : ℕ) → of_word word (flagging words at flags) ≤ cond {A = ℕ} (at == word) 1 0
flagging_most words at flags word = by ((word_at words at).flags == flags) where
  by : (b : Bool) → of_word word (if b then [] else record { word = at; flags = flags } ∷ []) ≤ cond {A = ℕ} (at == word) 1 0
  by true = omega arith
  by false = omega arith

flagging_once : (words : List Word) (at flags : ℕ) → Once (flagging words at flags)
flagging_once words at flags word = omega (arith, flagging_most words at flags word, one_bit (at == word))

-- the words of a range, each once, and none from its end on
pub record Ranged (first count word : ℕ) (sets : List Flagging) : Type 0 where
  pub once : of_word word sets ≤ 1
  pub below : first + count ≤ word → of_word word sets ≡ 0

ranged : (change : ℕ → ℕ → ℕ) (words : List Word) (first count word : ℕ) → Ranged first count word (up_to (change_at change words first) count)
ranged change words first zero word = record { once = omega arith; below = λ h. refl }
ranged change words first (suc n) word = at ((first + n) == word) refl (ranged change words first n word) where
  at : (b : Bool) → ((first + n) == word) ≡ b → Ranged first n word (up_to (change_at change words first) n)
      → Ranged first (suc n) word (up_to (change_at change words first) n ++ change_at change words first n)
  at b e r =
      let sum : of_word word (up_to (change_at change words first) n ++ change_at change words first n)
      ≡ of_word word (up_to (change_at change words first) n) + of_word word (change_at change words first n) =
      times_append (λ (one : Flagging). one.word == word) (up_to (change_at change words first) n) (change_at change words first n) in
      let most : of_word word (change_at change words first n) ≤ cond {A = ℕ} ((first + n) == word) 1 0 =
      flagging_most words (first + n) (change (first + n) (word_at words (first + n)).flags) word in
      by b e sum most where
        by : (b : Bool) → ((first + n) == word) ≡ b
            → of_word word (up_to (change_at change words first) n ++ change_at change words first n)
            ≡ of_word word (up_to (change_at change words first) n) + of_word word (change_at change words first n)
            → of_word word (change_at change words first n) ≤ cond {A = ℕ} ((first + n) == word) 1 0
            → Ranged first (suc n) word (up_to (change_at change words first) n ++ change_at change words first n)
        by true e sum most =
            let same : first + n ≡ word = grind (arith, nat_tests) in
            let none : of_word word (up_to (change_at change words first) n) ≡ 0 = r.below (omega (arith, same)) in
            let bit : cond {A = ℕ} ((first + n) == word) 1 0 ≤ 1 = one_bit ((first + n) == word) in
            record { once = omega (arith, sum, most, none, bit); below = λ h. absurd (omega (arith, same, h)) }
        by false e sum most =
            let zero_here : of_word word (change_at change words first n) ≤ 0 =
            subst (λ z. of_word word (change_at change words first n) ≤ cond {A = ℕ} z 1 0) e most in
            record {
              once = omega (arith, sum, zero_here, r.once);
              below = λ h. omega (arith, sum, zero_here, r.below (omega (arith, h)));
            }

changed_once : (change : ℕ → ℕ → ℕ) (words : List Word) (first count : ℕ) → Once (flags_changed change words first count)
unfolding flags_changed
changed_once change words first count word = (ranged change words first count word).once

truncation_once : (words : List Word) (what : Truncation) → Once (truncation_flags words what)
truncation_once words SetupObjects = changed_once _ words 96 64
truncation_once words _ = λ word. omega arith

connect_once : (words : List Word) (flags : ℕ) (after : Containers) (seat : Option Seated) → Once (connect_work words flags after seat).flags
connect_once words flags after None = λ word. omega arith
connect_once words flags after (Some seat) = flagging_once words (1 + seat.slot) flags

quit_once : (words : List Word) (cells : List ℕ) (after : Containers) (seat : Option Seated) → Once (quit_work words cells after seat).flags
quit_once words cells after None = λ word. omega arith
quit_once words cells after (Some seat) = flagging_once words (1 + seat.slot) 0

work_once : (s : State) (session : ℕ) (change : Change) → Once (work_for s session change).flags
work_once s session (Connect user host) = connect_once s.words (thread_flags s user host) (connected s session user host).kept.now (seat_at s session user host)
work_once s session Quit = quit_once s.words s.cells (has_quit s session).kept.now (seat_in s session)
work_once s session (Truncate what) = truncation_once s.words what
work_once s session (Setup what) = changed_once _ s.words _ _

label_once : (change : Label → Change) (s : State) (label : Option Label) → Once (work_of_label change s label).flags
label_once change s None = λ word. omega arith
label_once change s (Some label) = work_once s label.session (change label)

same_times : (word : ℕ) (sets : List Flagging) → times (λ (one : Asked). one.word == word) (sets_asked sets) ≡ of_word word sets
same_times word [] = refl
same_times word (one ∷ others) = ap (λ z. cond (one.word == word) 1 0 + z) (same_times word others)

-- of what an action asks for
pub sets_once : (setting : Setting) (change : Label → Change) (labels : List Label) (number word : ℕ)
    → times (λ (one : Asked). one.word == word) (asked_at setting change labels number).sets ≤ 1
sets_once setting change labels number word =
    let same : _ = same_times word (work_at setting change labels number).flags in
    let once : of_word word (work_at setting change labels number).flags ≤ 1 =
    label_once change (before_action setting change labels number) (label_at labels number) word in
    omega (arith, same, once)
