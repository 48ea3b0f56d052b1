-- Making the longest runs short, on the whole list and in one pass, is the same.
use Rattle.std.proofs.Common.{◌≡◌, ℕ, zero, suc, ◌+◌, ◌*◌, Bool, true, false, List, [], ◌∷◌, drop, reverse, refl, ap, sym, ◌∙◌, subst, arith}
use Rattle.std.specs.Prelude.{◌&&◌, nat_lt, if◌then◌else◌}
use Rattle.std.proofs.lemmas.Bool.{cases_Bool, cond_both, and_parts, and_from, and_left, and_right, cond-true, cond-false, lt-ltb, false≢true}
use Rattle.std.proofs.Common.{inl, inr}
use Rattle.pfs_digest.specs.declared.pieces.Shape.{Shape}
use Rattle.pfs_digest.specs.declared.pieces.Shape.TheVariants.{Value, Single, Several}
use Rattle.pfs_digest.specs.declared.pieces.Piece.{Piece}
use Rattle.pfs_digest.specs.declared.pieces.Piece.TheVariants.{One, Run, Open, Close, Comma, Semicolon, Plain}
use Rattle.pfs_digest.specs.Reduction.{is_comma, same_shape, is_one, repeats, follows, joined_from, joined}
use Rattle.pfs_digest.specs.Stack.{is_of, awaits}
use Rattle.pfs_digest.proofs.ListFolds.{left, right, onto, onto-nil, left-is}

-- one piece onto the stack
abbrev pub join_one : Shape → Piece → List Piece → List Piece
join_one shape piece stack = if is_one shape piece && awaits shape stack then Run shape ∷ drop 2 stack else piece ∷ stack

-- the top of the stack passes the test
abbrev pub tops : (Piece → Bool) → List Piece → Bool
tops test [] = false
tops test (piece ∷ below) = test piece

-- the piece is a run of the shape
abbrev pub is_run : Shape → Piece → Bool
is_run shape (Run other) = same_shape shape other
is_run shape piece = false

-- no piece is a run of the shape
abbrev pub NoRun : Shape → List Piece → Type 0
NoRun shape [] = Unit {0}
NoRun shape (piece ∷ pieces) = (is_run shape piece ≡ false) × NoRun shape pieces

same-is : (shape : Shape) → same_shape shape shape ≡ true
same-is Value = refl
same-is Single = refl
same-is Several = refl

one-of : (shape : Shape) (piece : Piece) → is_one shape piece ≡ true → is_of shape piece ≡ true
one-of shape (One other) e = e
one-of shape (Run other) e = absurd (false≢true e)
one-of shape Open e = absurd (false≢true e)
one-of shape Close e = absurd (false≢true e)
one-of shape Comma e = absurd (false≢true e)
one-of shape Semicolon e = absurd (false≢true e)
one-of shape (Plain token) e = absurd (false≢true e)

not-of : (shape : Shape) (piece : Piece) → is_run shape piece ≡ false → is_one shape piece ≡ false → is_of shape piece ≡ false
not-of shape (One other) r e = e
not-of shape (Run other) r e = r
not-of shape Open r e = refl
not-of shape Close r e = refl
not-of shape Comma r e = refl
not-of shape Semicolon r e = refl
not-of shape (Plain token) r e = refl

of-no_comma : (shape : Shape) (piece : Piece) → is_of shape piece ≡ true → is_comma piece ≡ false
of-no_comma shape (One other) e = refl
of-no_comma shape (Run other) e = refl
of-no_comma shape Open e = absurd (false≢true e)
of-no_comma shape Close e = refl
of-no_comma shape Comma e = absurd (false≢true e)
of-no_comma shape Semicolon e = refl
of-no_comma shape (Plain token) e = refl

comma-no_one : (shape : Shape) (piece : Piece) → is_comma piece ≡ true → (is_one shape piece ≡ false) × (is_of shape piece ≡ false)
comma-no_one shape (One other) e = absurd (false≢true e)
comma-no_one shape (Run other) e = absurd (false≢true e)
comma-no_one shape Open e = absurd (false≢true e)
comma-no_one shape Close e = absurd (false≢true e)
comma-no_one shape Comma e = (refl, refl)
comma-no_one shape Semicolon e = absurd (false≢true e)
comma-no_one shape (Plain token) e = absurd (false≢true e)

-- what awaits has a comma on the top, and the shape below
awaits-is : (shape : Shape) (first second : Piece) (below : List Piece) → awaits shape (first ∷ second ∷ below) ≡ (is_comma first && is_of shape second)
awaits-is shape (One other) second below = refl
awaits-is shape (Run other) second below = refl
awaits-is shape Open second below = refl
awaits-is shape Close second below = refl
awaits-is shape Comma second below = refl
awaits-is shape Semicolon second below = refl
awaits-is shape (Plain token) second below = refl

awaits-no_comma : (shape : Shape) (first : Piece) (below : List Piece) → is_comma first ≡ false → awaits shape (first ∷ below) ≡ false
awaits-no_comma shape (One other) below e = refl
awaits-no_comma shape (Run other) below e = refl
awaits-no_comma shape Open below e = refl
awaits-no_comma shape Close below e = refl
awaits-no_comma shape Comma below e = absurd (cc e)
awaits-no_comma shape Semicolon below e = refl
awaits-no_comma shape (Plain token) below e = refl

awaits-alone : (shape : Shape) (first : Piece) → awaits shape (first ∷ []) ≡ false
awaits-alone shape (One other) = refl
awaits-alone shape (Run other) = refl
awaits-alone shape Open = refl
awaits-alone shape Close = refl
awaits-alone shape Comma = refl
awaits-alone shape Semicolon = refl
awaits-alone shape (Plain token) = refl

awaits-top : (shape : Shape) (first : Piece) (below : List Piece) → tops (is_of shape) below ≡ false → awaits shape (first ∷ below) ≡ false
awaits-top shape first [] e = awaits-alone shape first
awaits-top shape first (second ∷ below) e =
    awaits-is shape first second below ∙ and_right (is_comma first) (is_of shape second) e

-- nothing on the stack goes on with the shape
pub record Settled (shape : Shape) (stack : List Piece) : Type 0 where
  pub top : tops (is_of shape) stack ≡ false
  pub end : awaits shape stack ≡ false

push-other : (shape : Shape) (piece : Piece) (stack : List Piece) → is_one shape piece ≡ false → join_one shape piece stack ≡ piece ∷ stack
push-other shape piece stack e = cond-false _ _ _ (and_left (is_one shape piece) (awaits shape stack) e)

push-alone : (shape : Shape) (piece : Piece) (stack : List Piece) → awaits shape stack ≡ false → join_one shape piece stack ≡ piece ∷ stack
push-alone shape piece stack e = cond-false _ _ _ (and_right (is_one shape piece) (awaits shape stack) e)

push-joins : (shape : Shape) (piece : Piece) (stack : List Piece) → is_one shape piece ≡ true → awaits shape stack ≡ true → join_one shape piece stack ≡ Run shape ∷ drop 2 stack
push-joins shape piece stack e a = cond-true _ _ _ (and_from (is_one shape piece) (awaits shape stack) e a)

-- the pieces that come of a run that a piece begins
abbrev pub begun : Shape → Piece → ℕ → List Piece → List Piece
begun shape piece count pieces = (if nat_lt 0 count then Run shape else piece) ∷ joined_from shape (2 * count) pieces

from-none : (shape : Shape) (covered : ℕ) → joined_from shape covered [] ≡ []
unfolding joined_from
from-none shape zero = refl
from-none shape (suc covered) = refl

from-past : (shape : Shape) (covered : ℕ) (piece : Piece) (pieces : List Piece) → joined_from shape (suc covered) (piece ∷ pieces) ≡ joined_from shape covered pieces
unfolding joined_from
from-past shape covered piece pieces = refl

from-cons : (shape : Shape) (piece : Piece) (pieces : List Piece) → joined_from shape 0 (piece ∷ pieces) ≡ begun shape piece (follows shape piece pieces) pieces
unfolding joined_from
from-cons shape piece pieces = refl

from-covered : (shape : Shape) (covered : ℕ) (first second : Piece) (pieces : List Piece) → joined_from shape (2 * (1 + covered)) (first ∷ second ∷ pieces) ≡ joined_from shape (2 * covered) pieces
unfolding joined_from
from-covered shape covered first second pieces =
    let two : 2 * (1 + covered) ≡ suc (suc (2 * covered)) = omega arith in
    ap (λ n. joined_from shape n (first ∷ second ∷ pieces)) two

from-one : (shape : Shape) (piece : Piece) (pieces : List Piece) → is_one shape piece ≡ true → joined_from shape 0 (piece ∷ pieces) ≡ begun shape piece (repeats shape pieces) pieces
from-one shape piece pieces e =
    from-cons shape piece pieces
    ∙ ap (λ n. begun shape piece n pieces) (cond-true (is_one shape piece) (repeats shape pieces) 0 e)

from-other : (shape : Shape) (piece : Piece) (pieces : List Piece) → is_one shape piece ≡ false → joined_from shape 0 (piece ∷ pieces) ≡ piece ∷ joined_from shape 0 pieces
from-other shape piece pieces e =
    from-cons shape piece pieces
    ∙ ap (λ n. begun shape piece n pieces) (cond-false (is_one shape piece) (repeats shape pieces) 0 e)

-- the pass over pieces, where nothing on the stack goes on with the shape, and where the shape is on the top
pub record Passes (shape : Shape) (pieces : List Piece) : Type 0 where
  pub settled : (stack : List Piece) → Settled shape stack → left (join_one shape) stack pieces ≡ onto (joined_from shape 0 pieces) stack
  pub begun_by : (top : Piece) (stack : List Piece) → is_of shape top ≡ true → left (join_one shape) (top ∷ stack) pieces ≡ onto (begun shape top (repeats shape pieces) pieces) stack

-- from the pass over the pieces behind it, the pass over a piece that settles
settle : (shape : Shape) (piece : Piece) (pieces stack : List Piece) → Passes shape pieces → is_run shape piece ≡ false → awaits shape stack ≡ false → (is_comma piece ≡ true → tops (is_of shape) stack ≡ false) → left (join_one shape) stack (piece ∷ pieces) ≡ onto (joined_from shape 0 (piece ∷ pieces)) stack
settle shape piece pieces stack passes no_run end comma = elim (cases_Bool (is_one shape piece)) [
  | inl one ↦
      ap (λ s. left (join_one shape) s pieces) (push-alone shape piece stack end)
      ∙ passes.begun_by piece stack (one-of shape piece one)
      ∙ ap (λ r. onto r stack) (sym (from-one shape piece pieces one))
  | inr other ↦
      let not_on : awaits shape (piece ∷ stack) ≡ false = elim (cases_Bool (is_comma piece)) [
        | inl is ↦ awaits-top shape piece stack (comma is)
        | inr no_comma ↦ awaits-no_comma shape piece stack no_comma
      ] in
      ap (λ s. left (join_one shape) s pieces) (push-other shape piece stack other)
      ∙ passes.settled (piece ∷ stack) (record { top = not-of shape piece no_run other; end = not_on })
      ∙ ap (λ r. onto r stack) (sym (from-other shape piece pieces other))
]

from-single : (shape : Shape) (piece : Piece) → joined_from shape 0 (piece ∷ []) ≡ piece ∷ []
from-single shape piece = elim (cases_Bool (is_one shape piece)) [
  | inl one ↦ from-one shape piece [] one ∙ ap (λ r. piece ∷ r) (from-none shape 0)
  | inr other ↦ from-other shape piece [] other ∙ ap (λ r. piece ∷ r) (from-none shape 0)
]

same-choice : (b : Bool) (piece : Piece) → (if b then piece else piece) ≡ piece
same-choice true piece = refl
same-choice false piece = refl

-- a `,` and the shape behind the shape
on-pair : (shape : Shape) (top first second : Piece) (pieces stack : List Piece) → Passes shape pieces → is_of shape top ≡ true → is_comma first ≡ true → is_one shape second ≡ true → left (join_one shape) (top ∷ stack) (first ∷ second ∷ pieces) ≡ onto (begun shape top (1 + repeats shape pieces) (first ∷ second ∷ pieces)) stack
on-pair shape top first second pieces stack beyond is comma one =
    let count = repeats shape pieces in
    let waits : awaits shape (first ∷ top ∷ stack) ≡ true = awaits-is shape first top stack ∙ and_from (is_comma first) (is_of shape top) comma is in
    let some : nat_lt 0 (1 + count) ≡ true = lt-ltb 0 (1 + count) (omega arith) in
    ap (λ s. left (join_one shape) (join_one shape second s) pieces) (push-alone shape first (top ∷ stack) (awaits-no_comma shape top stack (of-no_comma shape top is)))
    ∙ ap (λ s. left (join_one shape) s pieces) (push-joins shape second (first ∷ top ∷ stack) one waits)
    ∙ beyond.begun_by (Run shape) stack (same-is shape)
    ∙ ap (λ p. onto (p ∷ joined_from shape (2 * count) pieces) stack) (same-choice (nat_lt 0 count) (Run shape))
    ∙ ap (λ r. onto (Run shape ∷ r) stack) (sym (from-covered shape count first second pieces))
    ∙ ap (λ b. onto ((if b then Run shape else top) ∷ joined_from shape (2 * (1 + count)) (first ∷ second ∷ pieces)) stack) (sym some)

-- something else behind the shape
on-other : (shape : Shape) (top first second : Piece) (pieces stack : List Piece) → Passes shape (second ∷ pieces) → Passes shape pieces → is_run shape first ≡ false → is_run shape second ≡ false → is_of shape top ≡ true → (is_comma first && is_one shape second) ≡ false → left (join_one shape) (top ∷ stack) (first ∷ second ∷ pieces) ≡ onto (joined_from shape 0 (first ∷ second ∷ pieces)) (top ∷ stack)
on-other shape top first second pieces stack behind beyond no_first no_second is no_pair = elim (cases_Bool (is_comma first)) [
  | inl comma ↦
      let other : is_one shape second ≡ false = ap (λ t. t && is_one shape second) (sym comma) ∙ no_pair in
      let no_one = comma-no_one shape first comma in
      ap (λ s. left (join_one shape) (join_one shape second s) pieces) (push-alone shape first (top ∷ stack) (awaits-no_comma shape top stack (of-no_comma shape top is)))
      ∙ ap (λ s. left (join_one shape) s pieces) (push-other shape second (first ∷ top ∷ stack) other)
      ∙ beyond.settled (second ∷ first ∷ top ∷ stack) (record { top = not-of shape second no_second other; end = awaits-top shape second (first ∷ top ∷ stack) no_one.1 })
      ∙ ap (λ r. onto (first ∷ r) (top ∷ stack)) (sym (from-other shape second pieces other))
      ∙ ap (λ r. onto r (top ∷ stack)) (sym (from-other shape first (second ∷ pieces) no_one.0))
  | inr no_comma ↦
      settle shape first (second ∷ pieces) (top ∷ stack) behind no_first (awaits-no_comma shape top stack (of-no_comma shape top is))
      (λ comma. absurd (false≢true (sym no_comma ∙ comma)))
]

repeats-pair : (shape : Shape) (first second : Piece) (pieces : List Piece) (b : Bool) → (is_comma first && is_one shape second) ≡ b → repeats shape (first ∷ second ∷ pieces) ≡ (if b then 1 + repeats shape pieces else 0)
repeats-pair shape first second pieces b e = ap (λ t. if t then 1 + repeats shape pieces else 0) e

pub passes : (shape : Shape) (pieces : List Piece) → NoRun shape pieces → Passes shape pieces
passes shape [] free = record {
  settled = λ stack is. ap (λ r. onto r stack) (sym (from-none shape 0));
  begun_by = λ top stack is. ap (λ r. onto (top ∷ r) stack) (sym (from-none shape 0));
}
passes shape (first ∷ []) free =
    let behind = passes shape [] free.1 in
    record {
      settled = λ stack is. settle shape first [] stack behind free.0 is.end (λ _. is.top);
      begun_by = λ top stack is.
          push-alone shape first (top ∷ stack) (awaits-no_comma shape top stack (of-no_comma shape top is))
          ∙ ap (λ r. onto (top ∷ r) stack) (sym (from-single shape first));
    }
passes shape (first ∷ second ∷ pieces) free =
    let behind = passes shape (second ∷ pieces) free.1 in
    let beyond = passes shape pieces free.1.1 in
    record {
      settled = λ stack is. settle shape first (second ∷ pieces) stack behind free.0 is.end (λ _. is.top);
      begun_by = λ top stack is. elim (cases_Bool (is_comma first && is_one shape second)) [
        | inl pair ↦
            let parts = and_parts (is_comma first) (is_one shape second) pair in
            on-pair shape top first second pieces stack beyond is parts.0 parts.1
            ∙ ap (λ n. onto (begun shape top n (first ∷ second ∷ pieces)) stack) (sym (repeats-pair shape first second pieces true pair))
        | inr other ↦
            on-other shape top first second pieces stack behind beyond free.0 free.1.0 is other
            ∙ ap (λ n. onto (begun shape top n (first ∷ second ∷ pieces)) stack) (sym (repeats-pair shape first second pieces false other))
      ];
    }

-- the whole list, and the pass over it in reverse
pub joined-is : (shape : Shape) (pieces : List Piece) → NoRun shape pieces → right (join_one shape) (reverse pieces) ≡ reverse (joined shape pieces)
joined-is shape pieces free =
    sym (left-is (join_one shape) pieces)
    ∙ (passes shape pieces free).settled [] (record { top = refl; end = refl })
    ∙ onto-nil (joined shape pieces)

-- no run of another shape comes of it
pub joined-free : (shape other : Shape) (covered : ℕ) (pieces : List Piece) → same_shape shape other ≡ false → NoRun shape pieces → NoRun shape (joined_from other covered pieces)
joined-free shape other covered [] apart free = subst (NoRun shape) (sym (from-none other covered)) tt
joined-free shape other (suc covered) (piece ∷ pieces) apart free =
    subst (NoRun shape) (sym (from-past other covered piece pieces)) (joined-free shape other covered pieces apart free.1)
joined-free shape other zero (piece ∷ pieces) apart free =
    let count = follows other piece pieces in
    let head : is_run shape (if nat_lt 0 count then Run other else piece) ≡ false = cond_both (nat_lt 0 count) (Run other) piece (λ p. is_run shape p ≡ false) (λ _. apart) (λ _. free.0) in
    subst (NoRun shape) (sym (from-cons other piece pieces)) (head, joined-free shape other (2 * count) pieces apart free.1)
