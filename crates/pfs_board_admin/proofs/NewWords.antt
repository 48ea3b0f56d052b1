-- What the writer of new words knows.
use Rattle.std.proofs.Common.{ℕ, zero, suc, ◌≡◌, ◌+◌, List, [], ◌∷◌, ◌++◌, length, map, replicate, slice_index, refl, ap, sym, ◌∙◌}
use Rattle.std.proofs.lemmas.List.{append_assoc, length-append}
use Rattle.atomic_table.specs.Seated.{TableId}
use Rattle.pfs_matching.specs.ObjectRules.{opening_objects}
use Rattle.pfs_admin.specs.declared.changes.Change.{Change}
use Rattle.pfs_admin.specs.Fold.{state_from}
use Rattle.pfs_admin.specs.OpeningState.{opening_flags, opened}
use Rattle.pfs_admin.specs.AdministrationStates.{State}
use Rattle.pfs_admin.proofs.OpeningState.{flags_count}
use Rattle.pfs_board.specs.declared.view.Label.{Label}
use Rattle.pfs_classes.specs.declared.setting.Setting.{Setting}
use Rattle.pfs_levels.specs.PlainStore.{word}
use Rattle.pfs_board_store.specs.WriterWords.{words_from, words_of}
use Rattle.pfs_switches.specs.declared.view.Setting.{Setting as WordSetting}
use Rattle.pfs_switches.specs.declared.view.View.{View}
use Rattle.pfs_switches.specs.History.{flags_at}
use Rattle.pfs_switches.specs.SeatViews.{Known}
use Rattle.pfs_switches.specs.OpeningWords.{opening_words}
use Rattle.pfs_board_admin.specs.Desks.{IsDesk, opening_pen, sets_from}

zero_at : (n k : ℕ) → slice_index (replicate n 0) k ≡ 0
zero_at zero k = refl
zero_at (suc n) zero = refl
zero_at (suc n) (suc k) = zero_at n k

entry_at : (before : List ℕ) (x : ℕ) (rest : List ℕ) → slice_index (before ++ x ∷ rest) (length before) ≡ x
entry_at [] x rest = refl
entry_at (y ∷ before) x rest = entry_at before x rest

-- the words from a place on, of a writer who has set none
fresh_from : (before rest : List ℕ) (n : ℕ) (v : View) → v.sets ≡ [] → v.start ≡ before ++ (rest ++ 0 ∷ []) → ((k : ℕ) → slice_index v.seen k ≡ 0) → n ≡ length before
    → words_from (length rest) n v ≡ map (word 0) rest
unfolding words_from
fresh_from before [] n v none start seen e = refl
fresh_from before (x ∷ rest) n v none start seen e =
    let here : slice_index v.start n ≡ x = ap (λ (s : List ℕ). slice_index s n) start ∙ (ap (λ k. slice_index (before ++ (x ∷ (rest ++ 0 ∷ []))) k) e ∙ entry_at before x (rest ++ 0 ∷ [])) in
    let flags : flags_at v.start v.sets n (slice_index v.seen n) ≡ x = ap (λ (s : List WordSetting). flags_at v.start s n (slice_index v.seen n)) none ∙ here in
    let more : words_from (length rest) (n + 1) v ≡ map (word 0) rest =
    fresh_from (before ++ x ∷ []) rest (n + 1) v none (start ∙ sym (append_assoc before (x ∷ []) (rest ++ 0 ∷ []))) seen
    (ap (λ k. k + 1) e ∙ sym (length-append before (x ∷ []))) in
    (λ j. record { version = seen n j; flags = flags j } ∷ more j)

pub fresh_words : (flags : List ℕ) → length flags ≡ 160 → words_of (opening_pen flags) ≡ map (word 0) flags
fresh_words flags count =
    ap (λ n. words_from n 0 (opening_pen flags)) (sym count)
    ∙ fresh_from [] flags 0 (opening_pen flags) refl refl (λ k. zero_at (length (opening_words flags)) k) refl

pub fresh_desk : (setting : Setting) (change : Label → Change) (switches : TableId) (admin : State) (pen : Known) → admin ≡ opened setting
    → pen.view ≡ opening_pen (opening_flags setting opening_objects) → pen.switches ≡ switches → IsDesk setting change switches [] admin pen
unfolding state_from sets_from
fresh_desk setting change switches admin pen is fresh same = record {
  stands = is;
  words_are = ap words_of fresh
      ∙ (fresh_words (opening_flags setting opening_objects) (flags_count setting opening_objects) ∙ sym (ap (λ (s : State). s.words) is));
  sets = ap (λ (v : View). v.sets) fresh;
  same = same;
}
