-- What an action tells of the words keeps its actor to those of its labels.
use Rattle.std.proofs.Common.{ℕ, zero, suc, ◌≡◌, ◌+◌, ◌==◌, ◌<◌, ◌≤◌, Bool, true, false, cond, List, [], ◌∷◌, ◌++◌, Some, length, slice_index, slice_set, refl, ap, sym, ◌∙◌, subst, inl, inr, arith, append_assoc}
use Rattle.std.proofs.lemmas.Bool.{cases_eq}
use Rattle.std.proofs.lemmas.List.{get_or-set_other, get_or-set_same}
use Rattle.pfs_admin.specs.AdministrationStates.{State}
use Rattle.pfs_admin.specs.WordChanges.{change_at, changed_up_to, flags_changed, up_to, words_changed}
use Rattle.pfs_admin.specs.Works.{Flagging, Sign, Releases, Tags, Made, sign_calls, signs_calls, word_at, set_word, flagged, flagging, flagging_calls}
use Rattle.pfs_admin.proofs.WordChanges.{changed_past, changed_wide}
use Rattle.pfs_board.specs.declared.view.Label.{Label}
use Rattle.pfs_levels.specs.declared.answers.Word.{Word}
use Rattle.pfs_levels.specs.Calls.{Call, Takes, Puts, Frees, Sets, known_version}
use Rattle.pfs_levels.specs.Moves.{Gift, gift_calls, Move, move_calls, moves_calls}
use Rattle.pfs_board_store.proofs.WriterWords.{known_word}
use Rattle.pfs_board_store.proofs.ViewCorners.{here_if, away_if}
use Rattle.pfs_board_store.specs.RootLaws.{has_met}
use Rattle.pfs_stat.specs.declared.Stat.{Stat}
use Rattle.pfs_stat.specs.Stat.{stat_of_words}
use Rattle.pfs_board_admin.specs.LabelWords.{version_after, sets_since, present, AllKeepWords, AreAsKnown}
use Rattle.pfs_board_admin.specs.DeskLaws.{BegunLaw, WorkLaw, LeftLaw}

pub begun : BegunLaw
begun setting change switches label labels calls admin pen outside keeps is =
    let mine : (at : ℕ) → version_after setting change labels at ≡ known_version (Some admin.words) at = λ at. sym (ap (λ (s : State). known_version (Some s.words) at) is.stands) in
    let seen : (at : ℕ) → at < 160 → known_version (Some admin.words) at ≡ slice_index pen.view.seen at = λ at low.
    sym (ap (λ ws. known_version (Some ws) at) is.words_are) ∙ known_word at pen.view low in (
      ((λ some at low. let e = mine at in let f = seen at low in omega (arith, e, f), λ e. absurd (omega (arith, e))), (outside, keeps)),
      λ at low. let e = mine at in omega (arith, e),
    )

-- calls that take, publish and release rows
abbrev pub AreQuiet : List Call → Type 0
AreQuiet [] = Unit {0}
AreQuiet (Takes row version found ∷ calls) = AreQuiet calls
AreQuiet (Puts row content version ∷ calls) = AreQuiet calls
AreQuiet (Frees row version ∷ calls) = AreQuiet calls
AreQuiet (call ∷ calls) = ⊥

pub quiet_both : (xs ys : List Call) → AreQuiet xs → AreQuiet ys → AreQuiet (xs ++ ys)
quiet_both [] ys q r = r
quiet_both (Takes row version found ∷ xs) ys q r = quiet_both xs ys q r
quiet_both (Puts row content version ∷ xs) ys q r = quiet_both xs ys q r
quiet_both (Frees row version ∷ xs) ys q r = quiet_both xs ys q r
quiet_both (x ∷ xs) ys q r = absurd q

sign_quiet : (sign : Sign) (version : ℕ) (found : List ℕ) → AreQuiet (sign_calls sign version found)
sign_quiet (Releases row) version found = tt
sign_quiet (Tags row content) version found = tt

pub signs_quiet : (made : List Made) → AreQuiet (signs_calls made)
signs_quiet [] = tt
signs_quiet (m ∷ made) = quiet_both (sign_calls m.sign m.version m.found) (signs_calls made) (sign_quiet m.sign m.version m.found) (signs_quiet made)

gifts_quiet : (amount : Stat) (gifts : List Gift) → AreQuiet (gift_calls amount gifts)
gifts_quiet amount [] = tt
gifts_quiet amount (g ∷ gifts) = quiet_both (gift_calls amount gifts) _ (gifts_quiet amount gifts) tt

pub moves_quiet : (moves : List Move) → AreQuiet (moves_calls moves)
moves_quiet [] = tt
moves_quiet (m ∷ moves) = quiet_both (move_calls m) (moves_calls moves) (quiet_both (gift_calls (stat_of_words m.found) m.gifts) _ (gifts_quiet (stat_of_words m.found) m.gifts) tt) (moves_quiet moves)

-- they change nothing of the words
pub record IsStill (versions : List Label → ℕ → ℕ) (calls more : List Call) : Type 0 where
  pub keeps : AllKeepWords versions calls → AllKeepWords versions more
  pub met : has_met more ≡ has_met calls
  pub same : (at : ℕ) → present versions more at ≡ present versions calls at

pub still : (versions : List Label → ℕ → ℕ) (xs calls : List Call) → AreQuiet xs → IsStill versions calls (xs ++ calls)
still versions [] calls q = record { keeps = λ k. k; met = refl; same = λ at. refl }
still versions (Takes row version found ∷ xs) calls q = let i = still versions xs calls q in record { keeps = λ k. (tt, i.keeps k); met = i.met; same = i.same }
still versions (Puts row content version ∷ xs) calls q = let i = still versions xs calls q in record { keeps = λ k. (tt, i.keeps k); met = i.met; same = i.same }
still versions (Frees row version ∷ xs) calls q = let i = still versions xs calls q in record { keeps = λ k. (tt, i.keeps k); met = i.met; same = i.same }
still versions (x ∷ xs) calls q = absurd q

set_known : (versions : List Label → ℕ → ℕ) (calls : List Call) (words : List Word) (at to q : ℕ) → at < length words → ((z : ℕ) → z < 160 → present versions calls z ≡ known_version (Some words) z) → at < 160 → q < 160
    → present versions (Sets at to (known_version (Some words) at + 1) ∷ calls) q ≡ known_version (Some (slice_set words at (set_word (word_at words at) to))) q
set_known versions calls words at to q low known here less =
    let new : Word = set_word (word_at words at) to in
    elim (cases_eq q at) [
      | inl e ↦
          let Q : ℕ → Type 0 = λ z. present versions (Sets at to (known_version (Some words) at + 1) ∷ calls) z ≡ known_version (Some (slice_set words at new)) z in
          let now : known_version (Some (slice_set words at new)) at ≡ known_version (Some words) at + 1 = ap (λ (w : Word). w.version) (get_or-set_same words at new (record { version = 0; flags = 0 }) low) in
          subst Q (sym e) (omega (arith, known at here, now, here_if at (sets_since calls at + 1) (sets_since calls at)))
      | inr apart ↦
          let now : known_version (Some (slice_set words at new)) q ≡ known_version (Some words) q = ap (λ (w : Word). w.version) (get_or-set_other words at q new (record { version = 0; flags = 0 }) apart) in
          omega (arith, known q less, now, away_if at q (sets_since calls q + 1) (sets_since calls q) apart)
    ]

-- behind such calls an actor has kept to the words of its labels, which are these
record HasKept (versions : List Label → ℕ → ℕ) (calls : List Call) (words : List Word) : Type 0 where
  pub keeps : AllKeepWords versions calls
  pub known : AreAsKnown versions calls words
  pub met : has_met calls ≡ true

-- a word that none of the flaggings before set
flag : (versions : List Label → ℕ → ℕ) (calls : List Call) (words now : List Word) (at to : ℕ) (b : Bool) → at < 160 → length now ≡ 160 → word_at now at ≡ word_at words at → HasKept versions calls now
    → HasKept versions (flagging_calls words (cond b [] (record { word = at; flags = to } ∷ [])) ++ calls) (cond b now (slice_set now at (set_word (word_at now at) to)))
flag versions calls words now at to true low wide same has = has
flag versions calls words now at to false low wide same has = record {
  keeps = ((low, has.met, ap (λ (w : Word). w.version + 1) (sym same) ∙ ap (λ n. n + 1) (sym (has.known at low))), has.keeps);
  known = λ q less. set_known versions calls now at to q (omega (arith, low, wide)) has.known low less;
  met = has.met;
}

calls_behind : (words : List Word) (xs ys : List Flagging) (calls : List Call) → flagging_calls words (xs ++ ys) ++ calls ≡ flagging_calls words ys ++ (flagging_calls words xs ++ calls)
calls_behind words [] ys calls = refl
calls_behind words (x ∷ xs) ys calls =
    let set : Call = Sets x.word x.flags ((word_at words x.word).version + 1) in
    append_assoc (flagging_calls words (xs ++ ys)) (set ∷ []) calls
    ∙ (calls_behind words xs ys (set ∷ calls) ∙ ap (λ z. flagging_calls words ys ++ z) (sym (append_assoc (flagging_calls words xs) (set ∷ []) calls)))

-- so many words, one after another
flags_kept : (versions : List Label → ℕ → ℕ) (calls : List Call) (words : List Word) (to : ℕ → ℕ → ℕ) (first n : ℕ) → first + n ≤ 160 → length words ≡ 160 → HasKept versions calls words
    → HasKept versions (flagging_calls words (up_to (change_at to words first) n) ++ calls) (changed_up_to to words first n)
flags_kept versions calls words to first zero low wide has = has
flags_kept versions calls words to first (suc n) low wide has =
    let at : ℕ = first + n in
    let flags : ℕ = to at (word_at words at).flags in
    let xs : List Flagging = up_to (change_at to words first) n in
    let before : List Word = changed_up_to to words first n in
    let same : word_at before at ≡ word_at words at = changed_past to words first n at (omega arith) in
    let P : Bool → Type 0 = λ b. HasKept versions (flagging_calls words (flagging words at flags) ++ (flagging_calls words xs ++ calls)) (cond b before (slice_set before at (set_word (word_at before at) flags))) in
    let Q : List Call → Type 0 = λ z. HasKept versions z (flagged before at flags) in
    subst Q (sym (calls_behind words xs (flagging words at flags) calls))
    (subst P (ap (λ (w : Word). w.flags == flags) (sym same))
    (flag versions (flagging_calls words xs ++ calls) words before at flags ((word_at words at).flags == flags) (omega (arith, low)) (changed_wide to words first n ∙ wide) same
    (flags_kept versions calls words to first n (omega (arith, low)) wide has)))

pub work : WorkLaw
unfolding flags_changed words_changed
work setting change calls words to first count made moves low wide met keeps known its is =
    let versions = version_after setting change in
    let quiet : List Call = signs_calls made ++ moves_calls moves in
    let i = still versions quiet calls (quiet_both (signs_calls made) (moves_calls moves) (signs_quiet made) (moves_quiet moves)) in
    let set : List Call = flagging_calls words (up_to (change_at to words first) count) in
    let P : List Call → Type 0 = λ z. AllKeepWords versions z × AreAsKnown versions z (changed_up_to to words first count) in
    let has = flags_kept versions (quiet ++ calls) words to first count low wide (record { keeps = i.keeps keeps; known = λ q less. i.same q ∙ known q less; met = i.met ∙ met }) in
    subst P (sym (append_assoc set quiet calls) ∙ ap (λ z. z ++ calls) (sym is)) (has.keeps, has.known)

pub left : LeftLaw
left setting change switches calls next later keeps known is = (
  λ at low. known at low ∙ ap (λ (s : State). known_version (Some s.words) at) is.stands,
  keeps,
)
