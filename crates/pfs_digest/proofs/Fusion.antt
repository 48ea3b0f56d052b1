-- One pass with a stack gives what the steps give, one after the other.
use Rattle.std.proofs.Common.{◌≡◌, ◌⊎◌, ℕ, zero, suc, ◌+◌, ◌-◌, Bool, true, false, List, [], ◌∷◌, length, take, drop, reverse, refl, ap, sym, ◌∙◌, subst, inl, inr, arith}
use Rattle.std.specs.Prelude.{◌&&◌, None, if◌then◌else◌}
use Rattle.std.specs.List.{prefix_len, suffix_len}
use Rattle.std.proofs.lemmas.Bool.{cases_Bool, cond_both, and_parts, and_left, false≢true, cond-true, cond-false}
use Rattle.std.proofs.lemmas.List.{reverse-reverse}
use Rattle.std.proofs.lemmas.List.Sums.{prefix_len-le-length}
use Rattle.std.proofs.lemmas.List.{length-reverse}
use Rattle.pfs_digest.specs.declared.pieces.Shape.{Shape}
use Rattle.pfs_digest.specs.declared.pieces.Shape.TheVariants.{Value, Single, Several}
use Rattle.pfs_digest.specs.declared.pieces.Piece.{Piece}
use Rattle.pfs_digest.specs.declared.pieces.Piece.TheVariants.{One, Run, Open, Close, Comma, Semicolon, Plain}
use Rattle.pfs_digest.specs.Reduction.{is_semicolon, is_comma, same_shape, is_one, joined, bracketed, without_last, reduced}
use Rattle.pfs_digest.specs.Stack.{is_of, awaits, put, brackets, closed_by, pushed}
use Rattle.pfs_digest.proofs.ListFolds.{left, right, onto, onto-nil, left-is}
use Rattle.pfs_digest.proofs.Joins.{join_one, tops, is_run, NoRun, joined-is, joined-free}
use Rattle.pfs_digest.proofs.BracketPasses.{is_open, shut, bracket_one, bracketed-is, bracketed-free}
use Rattle.pfs_digest.proofs.StackSteps.{reverse-cut}

-- the steps on lists in reverse
abbrev values : List Piece → List Piece
values pieces = right (join_one Value) pieces

abbrev groups : List Piece → List Piece
groups pieces = right bracket_one pieces

abbrev singles : List Piece → List Piece
singles pieces = right (join_one Single) pieces

abbrev severals : List Piece → List Piece
severals pieces = right (join_one Several) pieces

abbrev pub push_one : Piece → List Piece → List Piece
push_one piece stack = pushed stack piece

-- a piece as the tokens make them
abbrev pub is_base : Piece → Bool
is_base (One Value) = true
is_base (One Single) = false
is_base (One Several) = false
is_base (Run shape) = false
is_base piece = true

abbrev pub AllBase : List Piece → Type 0
AllBase [] = Unit {0}
AllBase (piece ∷ pieces) = (is_base piece ≡ true) × AllBase pieces

one-is : (shape : Shape) (piece : Piece) → is_one shape piece ≡ true → piece ≡ One shape
one-is Value (One Value) e = refl
one-is Single (One Single) e = refl
one-is Several (One Several) e = refl
one-is shape piece e = absurd (false≢true e)

awaits-tops : (shape : Shape) (piece : Piece) (below : List Piece) → awaits shape (piece ∷ below) ≡ (is_comma piece && tops (is_of shape) below)
awaits-tops shape Comma [] = refl
awaits-tops shape Comma (second ∷ below) = refl
awaits-tops shape piece below = refl

-- what a step on the list in reverse keeps of a place that waits for the shape
record Keeps (shape : Shape) (step : List Piece → List Piece) : Type 0 where
  pub waits : (pieces : List Piece) → awaits shape (step pieces) ≡ awaits shape pieces
  pub drops : (pieces : List Piece) → awaits shape pieces ≡ true → drop 2 (step pieces) ≡ step (drop 2 pieces)

tops-joined : (test : Piece → Bool) (shape : Shape) → test (One shape) ≡ test (Run shape) → (pieces : List Piece) → tops test (right (join_one shape) pieces) ≡ tops test pieces
tops-joined test shape same [] = refl
tops-joined test shape same (piece ∷ pieces) =
    let stack = right (join_one shape) pieces in
    cond_both (is_one shape piece && awaits shape stack) (Run shape ∷ drop 2 stack) (piece ∷ stack) (λ r. tops test r ≡ test piece)
    (λ both. sym same ∙ ap test (sym (one-is shape piece (and_parts (is_one shape piece) (awaits shape stack) both).0)))
    (λ _. refl)

waits-joined : (shape other : Shape) (pieces : List Piece) → awaits shape (right (join_one other) pieces) ≡ awaits shape pieces
waits-joined shape other [] = refl
waits-joined shape other (piece ∷ pieces) =
    let stack = right (join_one other) pieces in
    cond_both (is_one other piece && awaits other stack) (Run other ∷ drop 2 stack) (piece ∷ stack) (λ r. awaits shape r ≡ awaits shape (piece ∷ pieces))
    (λ both. ap (λ p. awaits shape (p ∷ pieces)) (sym (one-is other piece (and_parts (is_one other piece) (awaits other stack) both).0)))
    (λ _.
    awaits-tops shape piece stack
    ∙ ap (λ t. is_comma piece && t) (tops-joined (is_of shape) other refl pieces)
    ∙ sym (awaits-tops shape piece pieces))

same-eq : (shape other : Shape) → same_shape shape other ≡ true → shape ≡ other
same-eq Value Value e = refl
same-eq Single Single e = refl
same-eq Several Several e = refl
same-eq shape other e = absurd (false≢true e)

apart : (shape other : Shape) (piece : Piece) → same_shape other shape ≡ false → is_of shape piece ≡ true → is_one other piece ≡ false
apart shape other (One third) e is = ap (same_shape other) (sym (same-eq shape third is)) ∙ e
apart shape other piece e is = refl

-- a stack that waits for the shape
record Waits (shape : Shape) (pieces : List Piece) : Type 0 where
  pub piece : Piece
  pub below : List Piece
  pub is : pieces ≡ Comma ∷ piece ∷ below
  pub of : is_of shape piece ≡ true

waits-is : (shape : Shape) (pieces : List Piece) → awaits shape pieces ≡ true → Waits shape pieces
waits-is shape (Comma ∷ piece ∷ below) e = record { piece = piece; below = below; is = refl; of = e }
waits-is shape pieces e = absurd (false≢true e)

joined-past : (other : Shape) (piece : Piece) (stack : List Piece) → is_one other piece ≡ false → join_one other piece stack ≡ piece ∷ stack
joined-past other piece stack e = cond-false _ _ _ (and_left (is_one other piece) (awaits other stack) e)

joined-keeps : (shape other : Shape) → same_shape other shape ≡ false → Keeps shape (right (join_one other))
joined-keeps shape other e = record {
  waits = waits-joined shape other;
  drops = λ pieces a.
      let w = waits-is shape pieces a in
      ap (λ p. drop 2 (right (join_one other) p)) w.is
      ∙ ap (λ r. drop 2 (Comma ∷ r)) (joined-past other w.piece (right (join_one other) w.below) (apart shape other w.piece e w.of))
      ∙ ap (λ p. right (join_one other) (drop 2 p)) (sym w.is);
}

-- what stands before the step with brackets
brackets-cases : (stack : List Piece) → (brackets stack ≡ None) ⊎ (((below : List Piece) × (stack ≡ One Value ∷ Open ∷ below)) ⊎ ((below : List Piece) × (stack ≡ Run Value ∷ Open ∷ below)))
brackets-cases (One Value ∷ Open ∷ below) = inr (inl (below, refl))
brackets-cases (Run Value ∷ Open ∷ below) = inr (inr (below, refl))
brackets-cases stack = inl refl

-- the top after a `)`
shut-top : (P : List Piece → Type 0) (stack : List Piece) → P (Close ∷ stack) → ((below : List Piece) → P (One Single ∷ below)) → ((below : List Piece) → P (One Several ∷ below)) → P (shut (brackets stack) stack)
shut-top P stack close single several = elim (brackets-cases stack) [
  | inl none ↦ subst (λ o. P (shut o stack)) (sym none) close
  | inr some ↦ elim some [
    | inl one ↦ subst (λ s. P (shut (brackets s) s)) (sym one.1) (single one.0)
    | inr run ↦ subst (λ s. P (shut (brackets s) s)) (sym run.1) (several run.0)
  ]
]

tops-bracketed : (test : Piece → Bool) → test (One Single) ≡ test Close → test (One Several) ≡ test Close → (pieces : List Piece) → tops test (groups pieces) ≡ tops test pieces
tops-bracketed test single several [] = refl
tops-bracketed test single several (Close ∷ pieces) =
    shut-top (λ r. tops test r ≡ test Close) (groups pieces) refl (λ below. single) (λ below. several)
tops-bracketed test single several (piece ∷ pieces) = refl

waits-bracketed : (pieces : List Piece) → awaits Value (groups pieces) ≡ awaits Value pieces
waits-bracketed [] = refl
waits-bracketed (Close ∷ pieces) = shut-top (λ r. awaits Value r ≡ false) (groups pieces) refl (λ below. refl) (λ below. refl)
waits-bracketed (piece ∷ pieces) =
    awaits-tops Value piece (groups pieces)
    ∙ ap (λ t. is_comma piece && t) (tops-bracketed (is_of Value) refl refl pieces)
    ∙ sym (awaits-tops Value piece pieces)

bracket-past : (piece : Piece) (stack : List Piece) → is_of Value piece ≡ true → bracket_one piece stack ≡ piece ∷ stack
bracket-past Close stack e = absurd (false≢true e)
bracket-past piece stack e = refl

bracketed-keeps : Keeps Value (right bracket_one)
bracketed-keeps = record {
  waits = waits-bracketed;
  drops = λ pieces a.
      let w = waits-is Value pieces a in
      ap (λ p. drop 2 (groups p)) w.is
      ∙ ap (λ r. drop 2 (Comma ∷ r)) (bracket-past w.piece (groups w.below) w.of)
      ∙ ap (λ p. groups (drop 2 p)) (sym w.is);
}

keeps-both : (shape : Shape) (first second : List Piece → List Piece) → Keeps shape first → Keeps shape second → Keeps shape (λ pieces. second (first pieces))
keeps-both shape first second a b = record {
  waits = λ pieces. b.waits (first pieces) ∙ a.waits pieces;
  drops = λ pieces is. b.drops (first pieces) (a.waits pieces ∙ is) ∙ ap second (a.drops pieces is);
}

-- the shape on a stack that a step made
put-through : (shape : Shape) (step : List Piece → List Piece) → Keeps shape step → (pieces : List Piece) → put shape (step pieces) ≡ (if awaits shape pieces then Run shape ∷ step (drop 2 pieces) else One shape ∷ step pieces)
put-through shape step keeps pieces = elim (cases_Bool (awaits shape pieces)) [
  | inl is ↦
      cond-true (awaits shape (step pieces)) _ _ (keeps.waits pieces ∙ is)
      ∙ ap (λ r. Run shape ∷ r) (keeps.drops pieces is)
      ∙ sym (cond-true (awaits shape pieces) _ _ is)
  | inr is ↦
      cond-false (awaits shape (step pieces)) _ _ (keeps.waits pieces ∙ is)
      ∙ sym (cond-false (awaits shape pieces) _ _ is)
]

through : (F : List Piece → List Piece) (b : Bool) (x y : List Piece) → F (if b then x else y) ≡ (if b then F x else F y)
through F true x y = refl
through F false x y = refl

-- what the steps behind the first make
abbrev behind : List Piece → List Piece
behind pieces = severals (singles (groups pieces))

behind-keeps : Keeps Value behind
behind-keeps =
    keeps-both Value (λ p. singles (groups p)) severals
    (keeps-both Value groups singles bracketed-keeps (joined-keeps Value Single refl)) (joined-keeps Value Several refl)

step-value : (pieces : List Piece) → put Value (behind pieces) ≡ behind (join_one Value (One Value) pieces)
step-value pieces =
    put-through Value behind behind-keeps pieces
    ∙ sym (through behind (awaits Value pieces) (Run Value ∷ drop 2 pieces) (One Value ∷ pieces))

step-single : (pieces : List Piece) → put Single (severals pieces) ≡ severals (join_one Single (One Single) pieces)
step-single pieces =
    put-through Single severals (joined-keeps Single Several refl) pieces
    ∙ sym (through severals (awaits Single pieces) (Run Single ∷ drop 2 pieces) (One Single ∷ pieces))

brackets-by : (piece : Piece) (stack : List Piece) → brackets (piece ∷ stack) ≡ (if tops is_open stack then brackets (piece ∷ Open ∷ []) else None)
brackets-by (One Value) [] = refl
brackets-by (One Value) (Open ∷ below) = refl
brackets-by (One Value) (other ∷ below) = refl
brackets-by (Run Value) [] = refl
brackets-by (Run Value) (Open ∷ below) = refl
brackets-by (Run Value) (other ∷ below) = refl
brackets-by piece [] = refl
brackets-by piece (Open ∷ below) = refl
brackets-by piece (other ∷ below) = refl

-- a step that makes no value keeps what a `)` ends
brackets-joined : (shape : Shape) → ((below : List Piece) → brackets (One shape ∷ below) ≡ None) → ((below : List Piece) → brackets (Run shape ∷ below) ≡ None) → (pieces : List Piece) → brackets (right (join_one shape) pieces) ≡ brackets pieces
brackets-joined shape one run [] = refl
brackets-joined shape one run (piece ∷ pieces) =
    let stack = right (join_one shape) pieces in
    cond_both (is_one shape piece && awaits shape stack) (Run shape ∷ drop 2 stack) (piece ∷ stack) (λ r. brackets r ≡ brackets (piece ∷ pieces))
    (λ both.
    run (drop 2 stack) ∙ sym (one pieces)
    ∙ ap (λ p. brackets (p ∷ pieces)) (sym (one-is shape piece (and_parts (is_one shape piece) (awaits shape stack) both).0)))
    (λ _.
    brackets-by piece stack
    ∙ ap (λ t. if t then brackets (piece ∷ Open ∷ []) else None) (tops-joined is_open shape refl pieces)
    ∙ sym (brackets-by piece pieces))

-- what the steps behind the brackets make
abbrev over : List Piece → List Piece
over pieces = severals (singles pieces)

step-close : (pieces : List Piece) → closed_by (brackets (over pieces)) (over pieces) ≡ over (bracket_one Close pieces)
step-close pieces = elim (brackets-cases pieces) [
  | inl none ↦
      let still : brackets (over pieces) ≡ None =
      brackets-joined Several (λ _. refl) (λ _. refl) (singles pieces)
      ∙ brackets-joined Single (λ _. refl) (λ _. refl) pieces ∙ none in
      ap (λ o. closed_by o (over pieces)) still ∙ ap (λ o. over (shut o pieces)) (sym none)
  | inr some ↦ elim some [
    | inl one ↦
        subst (λ p. closed_by (brackets (over p)) (over p) ≡ over (bracket_one Close p)) (sym one.1) (step-single (singles one.0))
    | inr run ↦
        subst (λ p. closed_by (brackets (over p)) (over p) ≡ over (bracket_one Close p)) (sym run.1) refl
  ]
]

step-all : (piece : Piece) (pieces : List Piece) → is_base piece ≡ true → pushed (behind pieces) piece ≡ behind (join_one Value piece pieces)
unfolding pushed
step-all (One Value) pieces base = step-value pieces
step-all Close pieces base = step-close (groups pieces)
step-all Open pieces base = refl
step-all Comma pieces base = refl
step-all Semicolon pieces base = refl
step-all (Plain token) pieces base = refl
step-all piece pieces base = absurd (false≢true base)

-- the pass and the steps on a list in reverse
fused : (pieces : List Piece) → AllBase pieces → right push_one pieces ≡ behind (values pieces)
fused [] base = refl
fused (piece ∷ pieces) base =
    ap (push_one piece) (fused pieces base.1) ∙ step-all piece (values pieces) base.0

-- the `;` at the end, in reverse
abbrev trimmed : List Piece → List Piece
trimmed pieces = drop (prefix_len is_semicolon pieces) pieces

trimmed-none : (pieces : List Piece) → tops is_semicolon pieces ≡ false → trimmed pieces ≡ pieces
trimmed-none [] e = refl
trimmed-none (piece ∷ pieces) e =
    ap (λ n. drop n (piece ∷ pieces)) (cond-false (is_semicolon piece) (1 + prefix_len is_semicolon pieces) 0 e)

trimmed-more : (pieces : List Piece) → trimmed (Semicolon ∷ pieces) ≡ trimmed pieces
trimmed-more pieces =
    let one : 1 + prefix_len is_semicolon pieces ≡ suc (prefix_len is_semicolon pieces) = omega arith in
    ap (λ n. drop n (Semicolon ∷ pieces)) one

tops-whole : (pieces : List Piece) → tops is_semicolon (behind (values pieces)) ≡ tops is_semicolon pieces
tops-whole pieces =
    tops-joined is_semicolon Several refl (singles (groups (values pieces)))
    ∙ tops-joined is_semicolon Single refl (groups (values pieces))
    ∙ tops-bracketed is_semicolon refl refl (values pieces)
    ∙ tops-joined is_semicolon Value refl pieces

trimmed-none_both : (piece : Piece) (pieces : List Piece) → is_semicolon piece ≡ false → trimmed (behind (values (piece ∷ pieces))) ≡ behind (values (trimmed (piece ∷ pieces)))
trimmed-none_both piece pieces e =
    trimmed-none (behind (values (piece ∷ pieces))) (tops-whole (piece ∷ pieces) ∙ e)
    ∙ ap (λ p. behind (values p)) (sym (trimmed-none (piece ∷ pieces) e))

trimmed-whole : (pieces : List Piece) → trimmed (behind (values pieces)) ≡ behind (values (trimmed pieces))
trimmed-whole [] = refl
trimmed-whole (Semicolon ∷ pieces) =
    trimmed-more (behind (values pieces)) ∙ trimmed-whole pieces ∙ ap (λ p. behind (values p)) (sym (trimmed-more pieces))
trimmed-whole (piece ∷ pieces) = trimmed-none_both piece pieces refl

without-last-is : (pieces : List Piece) → reverse (without_last pieces) ≡ trimmed (reverse pieces)
without-last-is pieces =
    reverse-cut (suffix_len is_semicolon pieces) pieces
    (omega (arith, prefix_len-le-length is_semicolon (reverse pieces), length-reverse pieces))

base-onto : (pieces others : List Piece) → AllBase pieces → AllBase others → AllBase (onto pieces others)
base-onto [] others base more = more
base-onto (piece ∷ pieces) others base more = base-onto pieces (piece ∷ others) base.1 (base.0, more)

base-take : (n : ℕ) (pieces : List Piece) → AllBase pieces → AllBase (take n pieces)
base-take zero pieces base = tt
base-take (suc n) [] base = tt
base-take (suc n) (piece ∷ pieces) base = (base.0, base-take n pieces base.1)

base-no_run : (shape : Shape) (piece : Piece) → is_base piece ≡ true → is_run shape piece ≡ false
base-no_run shape (Run other) base = absurd (false≢true base)
base-no_run shape piece base = refl

base-free : (shape : Shape) (pieces : List Piece) → AllBase pieces → NoRun shape pieces
base-free shape [] base = tt
base-free shape (piece ∷ pieces) base = (base-no_run shape piece base.0, base-free shape pieces base.1)

-- the steps on a list and on the list in reverse
steps-are : (pieces : List Piece) → AllBase pieces → behind (values (reverse pieces)) ≡ reverse (joined Several (joined Single (bracketed (joined Value pieces))))
steps-are pieces base =
    let first = joined Value pieces in
    let second = bracketed first in
    let third = joined Single second in
    let free : (shape : Shape) → same_shape shape Value ≡ false → NoRun shape second = λ shape apart. bracketed-free shape first (joined-free shape Value 0 pieces apart (base-free shape pieces base)) in
    ap behind (joined-is Value pieces (base-free Value pieces base))
    ∙ ap over (bracketed-is first)
    ∙ ap severals (joined-is Single second (free Single refl))
    ∙ joined-is Several third (joined-free Several Single 0 second refl (free Several refl))

-- a stack that one pass made, without the `;` at its end, is the reduced list
pub reduced-is : (pieces stack : List Piece) → AllBase pieces → reverse stack ≡ left push_one [] pieces → without_last stack ≡ reduced pieces
reduced-is pieces stack base made =
    let backward : AllBase (reverse pieces) = subst AllBase (onto-nil pieces) (base-onto pieces [] base tt) in
    let cut : AllBase (without_last pieces) = base-take (length pieces - suffix_len is_semicolon pieces) pieces base in
    let same : reverse (without_last stack) ≡ reverse (reduced pieces) =
    without-last-is stack
    ∙ ap trimmed (made ∙ left-is push_one pieces ∙ fused (reverse pieces) backward)
    ∙ trimmed-whole (reverse pieces)
    ∙ ap (λ p. behind (values p)) (sym (without-last-is pieces))
    ∙ steps-are (without_last pieces) cut in
    sym (reverse-reverse (without_last stack)) ∙ ap reverse same ∙ reverse-reverse (reduced pieces)
