-- The worked phases and runs.
use Rattle.std.proofs.Common.{ℕ, ◌≡◌, ◌+◌, ◌*◌, ◌==◌, ◌⊎◌, Bool, true, false, cond, List, [], ◌∷◌, refl, ap, sym, ◌∙◌, subst, arith}
use Rattle.std.proofs.lemmas.Bool.{eqb-true}
use Rattle.pfs_admin.specs.Fold.{state_from}
use Rattle.pfs_admin.specs.OpeningState.{opened}
use Rattle.pfs_classes.specs.declared.setting.Setting.{Setting}
use Rattle.pfs_law_conservation.specs.RunTerms.{entries_to}
use Rattle.pfs_model.specs.Contexts.{fresh}
use Rattle.pfs_model.specs.EntryPlaces.{after_lines, places_behind}
use Rattle.pfs_runs.specs.PhaseFinals.{containers_behind, lost_behind}
use Rattle.pfs_script.specs.Marks.{written_from}
use Rattle.pfs_law_agreed.specs.Agreement.{AgreeBehind, IsSameSession, flags_behind, told_behind}
use Rattle.pfs_law_agreed.specs.AgreedExamples.{WorkedAgreement, WorkedScripts, change_by, connected_block, in_order, label_of, one_other, three, turned}
use Rattle.pfs_law_agreed.specs.FirstPhases.{HasRoom}
use Rattle.pfs_law_agreed.proofs.FirstRooms.{IsOpen, open_after, open_first}
use Rattle.pfs_law_agreed.proofs.QuietSums.{lost_same}

pub worked_phases : WorkedScripts
unfolding written_from
worked_phases class = record {
  connecting = (refl, (refl, tt));
  two = refl;
  quiet = ((λ e. absurd (omega (arith, e))), ((λ e. (refl, (refl, tt))), tt));
  connects = λ h. absurd (let z = (h.0 refl).0 in cc);
  quits = λ h. absurd (let z = (h.1.0 refl).0 in cc);
  waits = λ h. absurd (let z = h.0 in cc);
}

swapped : (a b : ℕ) → a + (b + 0) ≡ b + (a + 0)
swapped a b = omega arith

module _ (setting : Setting) (room : HasRoom setting 2) where
  words : (word : ℕ) → flags_behind (in_order setting) 1 word ≡ flags_behind (turned setting three) 1 word
  unfolding places_behind
  words word = ap (λ n. 3 * n) (swapped (cond (1 == word) 1 0) (cond (2 == word) 1 0))

  sessions : (session : ℕ) → IsSameSession (in_order setting) (turned setting three) 1 (told_behind (in_order setting) 1 session) (told_behind (turned setting three) 1 session)
  unfolding places_behind
  sessions session = at (1 == session) (2 == session) refl refl where
    at : (x y : Bool) → (1 == session) ≡ x → (2 == session) ≡ y
        → IsSameSession (in_order setting) (turned setting three) 1
        (cond y (after_lines (cond x (after_lines fresh (connected_block 1 1 0).lines (connected_block 1 1 0).parts) fresh) (connected_block 2 2 1).lines (connected_block 2 2 1).parts) (cond x (after_lines fresh (connected_block 1 1 0).lines (connected_block 1 1 0).parts) fresh))
        (cond y (after_lines (cond x (after_lines fresh (connected_block 1 2 1).lines (connected_block 1 2 1).parts) fresh) (connected_block 2 1 0).lines (connected_block 2 1 0).parts) (cond x (after_lines fresh (connected_block 1 2 1).lines (connected_block 1 2 1).parts) fresh))
    at true true p q = absurd (let e : 1 ≡ session = eqb-true 1 session p in let f : 2 ≡ session = eqb-true 2 session q in omega (arith, e, f))
    at true false p q = record { thread = refl; account = refl; user = refl; host = refl; opened = tt }
    at false true p q = record { thread = refl; account = refl; user = refl; host = refl; opened = tt }
    at false false p q = record { thread = refl; account = refl; user = refl; host = refl; opened = tt }

  none_lost : (one other : ℕ) → IsOpen setting 2 (state_from change_by (opened setting) (label_of one ∷ label_of other ∷ []))
  none_lost one other = open_after setting change_by 2 0 (label_of one ∷ label_of other ∷ []) (opened setting) (tt, (tt, tt)) room (open_first setting)

  lost : lost_behind (containers_behind setting change_by (in_order setting).labels (entries_to (in_order setting) 1)) (entries_to (in_order setting) 1)
      ≡ lost_behind (containers_behind setting change_by (turned setting three).labels (entries_to (turned setting three) 1)) (entries_to (turned setting three) 1)
  unfolding places_behind
  lost =
      let x = none_lost 1 2 in
      let y = none_lost 2 1 in
      lost_same (lost_behind (containers_behind setting change_by (in_order setting).labels (entries_to (in_order setting) 1)) (entries_to (in_order setting) 1))
      (lost_behind (containers_behind setting change_by (turned setting three).labels (entries_to (turned setting three) 1)) (entries_to (turned setting three) 1))
      (x.lost_threads ∙ sym y.lost_threads) (x.lost_accounts ∙ sym y.lost_accounts) (x.lost_users ∙ sym y.lost_users) (x.lost_hosts ∙ sym y.lost_hosts) refl refl refl

  agree : AgreeBehind (in_order setting) (turned setting three) 1
  unfolding places_behind
  agree = record { words = λ word h. words word; sessions = sessions; shown = record { summaries = λ kind key place cell k. refl; digests = λ digest. refl; lost = lost } }

  differ : AgreeBehind (in_order setting) (turned setting one_other) 1 → ⊥
  unfolding places_behind
  differ h = absurd (let z : 3 ≡ 1 = (h.sessions 1).thread in omega (arith, z))

pub worked : WorkedAgreement
worked setting room = record { agree = agree setting room; differ = differ setting room }
