-- What a set of a word changes of the words as the writer knows them.
use Rattle.std.proofs.Common.{ℕ, zero, suc, ◌≡◌, ◌≢◌, ◌+◌, ◌<◌, ◌==◌, cond, get_or, length, slice_set, slice_index, ◌∷◌, refl, ap, sym, ◌∙◌, arith, eq-eqb, ne_eqb, Some, zero-add}
use Rattle.std.proofs.lemmas.List.{get_or-set_other, get_or-set_same}
use Rattle.pfs_levels.specs.declared.answers.Word.{Word}
use Rattle.pfs_levels.specs.Calls.{known_version}
use Rattle.pfs_board_store.specs.WriterWords.{words_from, words_of}
use Rattle.pfs_switches.specs.History.{flags_at}
use Rattle.pfs_switches.specs.Knowledge.{was_set}
use Rattle.pfs_switches.specs.declared.view.View.{View}

abbrev word_of : View → ℕ → Word
word_of w i = record { version = slice_index w.seen i; flags = flags_at w.start w.sets i (slice_index w.seen i) }

abbrev no_word : Word
no_word = record { version = 0; flags = 0 }

pub word_at : (n i q : ℕ) (w : View) → q < n → get_or (words_from n i w) q no_word ≡ word_of w (i + q)
unfolding words_from
word_at zero i q w h = absurd (omega (arith, h))
word_at (suc n) i zero w h = ap (word_of w) (let e : i ≡ i + 0 = omega arith in e)
word_at (suc n) i (suc q) w h = word_at n (i + 1) q w (omega (arith, h)) ∙ ap (word_of w) (let e : i + 1 + q ≡ i + suc q = omega arith in e)

word_kept : (w : View) (word k flags i : ℕ) → i ≢ word → word_of (was_set w word k flags) i ≡ word_of w i
word_kept w word k flags i apart = let seen : slice_index (slice_set w.seen word k) i ≡ slice_index w.seen i = get_or-set_other w.seen word i k 0 apart in
    let at : (v : ℕ) → flags_at w.start (was_set w word k flags).sets i v ≡ flags_at w.start w.sets i v = λ v. ap (λ b. cond b (cond (k == v) flags (flags_at w.start w.sets i v)) (flags_at w.start w.sets i v)) (ne_eqb word i (λ e. apart (sym e))) in
    (λ j. record { version = seen j; flags = flags_at w.start (was_set w word k flags).sets i (seen j) }) ∙ (λ j. record { version = slice_index w.seen i; flags = at (slice_index w.seen i) j })

word_new : (w : View) (word k flags : ℕ) → word < length w.seen → word_of (was_set w word k flags) word ≡ record { version = k; flags = flags }
word_new w word k flags h = let seen : slice_index (slice_set w.seen word k) word ≡ k = get_or-set_same w.seen word k 0 h in
    let at : flags_at w.start (was_set w word k flags).sets word k ≡ flags = ap (λ b. cond b (cond (k == k) flags (flags_at w.start w.sets word k)) (flags_at w.start w.sets word k)) (eq-eqb word word refl) ∙ ap (λ b. cond b flags (flags_at w.start w.sets word k)) (eq-eqb k k refl) in
    (λ j. record { version = seen j; flags = flags_at w.start (was_set w word k flags).sets word (seen j) }) ∙ (λ j. record { version = k; flags = at j })

words_kept : (n i word k flags : ℕ) (w : View) → word < i → words_from n i (was_set w word k flags) ≡ words_from n i w
unfolding words_from
words_kept zero i word k flags w h = refl
words_kept (suc n) i word k flags w h = (λ j. word_kept w word k flags i (λ e. omega (arith, e, h)) j ∷ words_kept n (i + 1) word k flags w (omega (arith, h)) j)

pub words_set : (n i q k flags : ℕ) (w : View) → q < n → i + q < length w.seen → words_from n i (was_set w (i + q) k flags) ≡ slice_set (words_from n i w) q (record { version = k; flags = flags })
unfolding words_from
words_set zero i q k flags w h low = absurd (omega (arith, h))
words_set (suc n) i zero k flags w h low = let e : i + 0 ≡ i = omega arith in
    (λ j. (ap (λ z. word_of (was_set w z k flags) i) e ∙ word_new w i k flags (omega (arith, low))) j ∷ (ap (λ z. words_from n (i + 1) (was_set w z k flags)) e ∙ words_kept n (i + 1) i k flags w (omega arith)) j)
words_set (suc n) i (suc q) k flags w h low = let e : i + suc q ≡ i + 1 + q = omega arith in
    (λ j. word_kept w (i + suc q) k flags i (λ z. omega (arith, z)) j ∷ (ap (λ z. words_from n (i + 1) (was_set w z k flags)) e ∙ words_set n (i + 1) q k flags w (omega (arith, h)) (omega (arith, low))) j)

pub known_word : (q : ℕ) (w : View) → q < 160 → known_version (Some (words_of w)) q ≡ slice_index w.seen q
known_word q w h = ap (λ (x : Word). x.version) (word_at 160 0 q w h) ∙ ap (λ i. slice_index w.seen i) (zero-add q)

pub word_was_set : (q k flags : ℕ) (w : View) → q < 160 → q < length w.seen → words_of (was_set w q k flags) ≡ slice_set (words_of w) q (record { version = k; flags = flags })
word_was_set q k flags w h low = ap (λ z. words_of (was_set w z k flags)) (sym (zero-add q)) ∙ words_set 160 0 q k flags w h (let e = zero-add q in omega (arith, low, e))
