-- One step on through quotes and comments.
use Rattle.std.proofs.Common.{◌≡◌, ◌≢◌, ℕ, ◌+◌, ◌<◌, ◌≤◌, true, false, nat_eq, List, [], ◌∷◌, length, get_or, drop, slice_index, Option, None, Some, refl, ap, sym, ◌∙◌, inl, inr, arith}
use Rattle.std.specs.Prelude.{codes, ◌==◌, ◌&&◌, nat_lt, if◌then◌else◌}
use Rattle.std.specs.List.{starts_with}
use Rattle.std.proofs.lemmas.List.{drop_more, drop_all}
use Rattle.std.proofs.lemmas.Bool.{lt-ltb, ltb-true, ne_eqb, eq-eqb, cases_lt, and_parts}
use Rattle.pfs_lexer.specs.QuotePairs.{is_pair, more, quoted_len, pair_at}
use Rattle.pfs_lexer.specs.Comments.{comment_len}

pub more-more : (m n : ℕ) (o : Option ℕ) → more m (more n o) ≡ more (m + n) o
more-more m n None = refl
more-more m n (Some k) = ap Some (omega arith)

pub more-to : (m n k : ℕ) (o : Option ℕ) → m + n ≡ k → more m (more n o) ≡ more k o
more-to m n k o e = more-more m n o ∙ ap (λ x. more x o) e

pub quoted-pair : (q b c : ℕ) (xs : List ℕ) → is_pair q b c ≡ true → quoted_len q (b ∷ c ∷ xs) ≡ more 2 (quoted_len q xs)
unfolding quoted_len
quoted-pair q b c xs e = ap (λ t. if t then more 2 (quoted_len q xs) else if b == q then Some 1 else more 1 (quoted_len q (c ∷ xs))) e

pub quoted-end : (q b c : ℕ) (xs : List ℕ) → is_pair q b c ≡ false → (b == q) ≡ true → quoted_len q (b ∷ c ∷ xs) ≡ Some 1
unfolding quoted_len
quoted-end q b c xs e f =
    ap (λ t. if t then more 2 (quoted_len q xs) else if b == q then Some 1 else more 1 (quoted_len q (c ∷ xs))) e
    ∙ ap (λ t. if t then Some 1 else more 1 (quoted_len q (c ∷ xs))) f

pub quoted-other : (q b c : ℕ) (xs : List ℕ) → is_pair q b c ≡ false → (b == q) ≡ false → quoted_len q (b ∷ c ∷ xs) ≡ more 1 (quoted_len q (c ∷ xs))
unfolding quoted_len
quoted-other q b c xs e f =
    ap (λ t. if t then more 2 (quoted_len q xs) else if b == q then Some 1 else more 1 (quoted_len q (c ∷ xs))) e
    ∙ ap (λ t. if t then Some 1 else more 1 (quoted_len q (c ∷ xs))) f

pub last-end : (q b : ℕ) → (b == q) ≡ true → quoted_len q (b ∷ []) ≡ Some 1
unfolding quoted_len
last-end q b e = ap (λ t. if t then Some 1 else None) e

pub last-other : (q b : ℕ) → (b == q) ≡ false → quoted_len q (b ∷ []) ≡ more 1 (quoted_len q [])
unfolding quoted_len
last-other q b e = ap (λ t. if t then Some 1 else None) e

-- two bytes are there
here_two : (xs : List ℕ) (i : ℕ) → i + 1 < length xs → drop i xs ≡ get_or xs i 0 ∷ get_or xs (i + 1) 0 ∷ drop (i + 2) xs
here_two xs i h =
    let next : drop (i + 1) xs ≡ get_or xs (i + 1) 0 ∷ drop (i + 1 + 1) xs = drop_more xs (i + 1) 0 h in
    let two : i + 1 + 1 ≡ i + 2 = omega arith in
    drop_more xs i 0 (omega arith) ∙ ap (λ r. get_or xs i 0 ∷ r) (next ∙ ap (λ k. get_or xs (i + 1) 0 ∷ drop k xs) two)

-- the last byte is there
here_last : (xs : List ℕ) (i : ℕ) → i < length xs → length xs ≤ i + 1 → drop i xs ≡ get_or xs i 0 ∷ []
here_last xs i h k = drop_more xs i 0 h ∙ ap (λ r. get_or xs i 0 ∷ r) (drop_all (i + 1) xs k)

not_pair : (q : ℕ) (xs : List ℕ) (i : ℕ) → pair_at q xs i ≡ false → i + 1 < length xs → is_pair q (slice_index xs i) (slice_index xs (i + 1)) ≡ false
not_pair q xs i e h = ap (λ t. t && is_pair q (slice_index xs i) (slice_index xs (i + 1))) (sym (lt-ltb (i + 1) (length xs) h)) ∙ e

pub pair-within : (q : ℕ) (xs : List ℕ) (i : ℕ) → pair_at q xs i ≡ true → i + 1 < length xs
pair-within q xs i e =
    ltb-true (i + 1) (length xs) (and_parts (nat_lt (i + 1) (length xs)) (is_pair q (slice_index xs i) (slice_index xs (i + 1))) e).0

pub step-pair : (q : ℕ) (xs : List ℕ) (i : ℕ) → pair_at q xs i ≡ true → quoted_len q (drop i xs) ≡ more 2 (quoted_len q (drop (i + 2) xs))
step-pair q xs i e =
    let parts = and_parts (nat_lt (i + 1) (length xs)) (is_pair q (slice_index xs i) (slice_index xs (i + 1))) e in
    ap (quoted_len q) (here_two xs i (ltb-true (i + 1) (length xs) parts.0)) ∙ quoted-pair q _ _ _ parts.1

pub step-end : (q : ℕ) (xs : List ℕ) (i : ℕ) → i < length xs → pair_at q xs i ≡ false → slice_index xs i ≡ q → quoted_len q (drop i xs) ≡ Some 1
step-end q xs i h e f =
    elim (cases_lt (i + 1) (length xs)) [
      | inl more ↦ ap (quoted_len q) (here_two xs i more) ∙ quoted-end q _ _ _ (not_pair q xs i e more) (eq-eqb _ _ f)
      | inr last ↦ ap (quoted_len q) (here_last xs i h last) ∙ last-end q _ (eq-eqb _ _ f)
    ]

pub step-other : (q : ℕ) (xs : List ℕ) (i : ℕ) → i < length xs → pair_at q xs i ≡ false → slice_index xs i ≢ q → quoted_len q (drop i xs) ≡ more 1 (quoted_len q (drop (i + 1) xs))
step-other q xs i h e f =
    elim (cases_lt (i + 1) (length xs)) [
      | inl there ↦
          ap (quoted_len q) (here_two xs i there)
          ∙ quoted-other q _ _ _ (not_pair q xs i e there) (ne_eqb _ _ f)
          ∙ ap (λ r. more 1 (quoted_len q r)) (sym (two_left xs i there))
      | inr last ↦
          ap (quoted_len q) (here_last xs i h last) ∙ last-other q _ (ne_eqb _ _ f)
          ∙ ap (λ r. more 1 (quoted_len q r)) (sym (drop_all (i + 1) xs last))
    ]
  where
    two_left : (xs : List ℕ) (i : ℕ) → i + 1 < length xs → drop (i + 1) xs ≡ get_or xs (i + 1) 0 ∷ drop (i + 2) xs
    two_left xs i h =
        let two : i + 1 + 1 ≡ i + 2 = omega arith in
        drop_more xs (i + 1) 0 h ∙ ap (λ k. get_or xs (i + 1) 0 ∷ drop k xs) two

pub quoted-none : (q : ℕ) → quoted_len q [] ≡ None
unfolding quoted_len
quoted-none q = refl

pub quoted-past : (q : ℕ) (xs : List ℕ) (i : ℕ) → length xs ≤ i → quoted_len q (drop i xs) ≡ None
quoted-past q xs i h = ap (quoted_len q) (drop_all i xs h) ∙ quoted-none q

pub comment-close : (b : ℕ) (xs : List ℕ) → starts_with nat_eq (b ∷ xs) (codes "*/") ≡ true → comment_len (b ∷ xs) ≡ Some 2
unfolding comment_len
comment-close b xs e = ap (λ t. if t then Some 2 else more 1 (comment_len xs)) e

pub comment-on : (b : ℕ) (xs : List ℕ) → starts_with nat_eq (b ∷ xs) (codes "*/") ≡ false → comment_len (b ∷ xs) ≡ more 1 (comment_len xs)
unfolding comment_len
comment-on b xs e = ap (λ t. if t then Some 2 else more 1 (comment_len xs)) e

pub comment-none : comment_len [] ≡ None
unfolding comment_len
comment-none = refl

pub step-close : (xs : List ℕ) (i : ℕ) → i < length xs → starts_with nat_eq (drop i xs) (codes "*/") ≡ true → comment_len (drop i xs) ≡ Some 2
step-close xs i h e =
    let here = drop_more xs i 0 h in
    ap comment_len here ∙ comment-close _ _ (ap (λ r. starts_with nat_eq r (codes "*/")) (sym here) ∙ e)

pub step-on : (xs : List ℕ) (i : ℕ) → i < length xs → starts_with nat_eq (drop i xs) (codes "*/") ≡ false → comment_len (drop i xs) ≡ more 1 (comment_len (drop (i + 1) xs))
step-on xs i h e =
    let here = drop_more xs i 0 h in
    ap comment_len here ∙ comment-on _ _ (ap (λ r. starts_with nat_eq r (codes "*/")) (sym here) ∙ e)

pub comment-past : (xs : List ℕ) (i : ℕ) → length xs ≤ i → comment_len (drop i xs) ≡ None
comment-past xs i h = ap comment_len (drop_all i xs h) ∙ comment-none
