-- Brackets on the whole list and in one pass are the same.
use Rattle.std.proofs.Common.{◌≡◌, Bool, true, false, List, [], ◌∷◌, drop, reverse, refl, ap, sym, ◌∙◌}
use Rattle.std.specs.Prelude.{Option, None, Some}
use Rattle.std.proofs.lemmas.Bool.{false≢true}
use Rattle.pfs_digest.specs.declared.pieces.Shape.{Shape}
use Rattle.pfs_digest.specs.declared.pieces.Shape.TheVariants.{Value, Single, Several}
use Rattle.pfs_digest.specs.declared.pieces.Piece.{Piece}
use Rattle.pfs_digest.specs.declared.pieces.Piece.TheVariants.{One, Run, Open, Close}
use Rattle.pfs_digest.specs.Reduction.{bracketed}
use Rattle.pfs_digest.specs.Stack.{brackets}
use Rattle.pfs_digest.proofs.ListFolds.{left, right, onto, onto-nil, left-is}
use Rattle.pfs_digest.proofs.Joins.{tops, NoRun}

abbrev pub is_open : Piece → Bool
is_open Open = true
is_open piece = false

-- the shape in brackets, or a `)` more
abbrev pub shut : Option Shape → List Piece → List Piece
shut None stack = Close ∷ stack
shut (Some shape) stack = One shape ∷ drop 2 stack

-- one piece onto the stack
abbrev pub bracket_one : Piece → List Piece → List Piece
bracket_one Close stack = shut (brackets stack) stack
bracket_one piece stack = piece ∷ stack

-- a piece on something other than `(` ends no brackets
bracket-apart : (piece : Piece) (stack : List Piece) → tops is_open stack ≡ false → brackets (piece ∷ stack) ≡ None
bracket-apart (One Value) (Open ∷ stack) e = absurd (false≢true (sym e))
bracket-apart (Run Value) (Open ∷ stack) e = absurd (false≢true (sym e))
bracket-apart piece stack e = refl

record Brackets (pieces : List Piece) : Type 0 where
  pub settled : (stack : List Piece) → tops is_open stack ≡ false → brackets stack ≡ None → left bracket_one stack pieces ≡ onto (bracketed pieces) stack
  pub opened : (stack : List Piece) → left bracket_one (Open ∷ stack) pieces ≡ onto (bracketed (Open ∷ pieces)) stack

-- a piece that is no bracket
bracket-settle : (piece : Piece) (pieces stack : List Piece) → Brackets pieces → tops is_open stack ≡ false → is_open piece ≡ false → left bracket_one (piece ∷ stack) pieces ≡ onto (piece ∷ bracketed pieces) stack
bracket-settle piece pieces stack behind top other = behind.settled (piece ∷ stack) other (bracket-apart piece stack top)

passes : (pieces : List Piece) → Brackets pieces
unfolding bracketed
passes [] = record { settled = λ stack top end. refl; opened = λ stack. refl }
passes (Open ∷ pieces) =
    let behind = passes pieces in
    record {
      settled = λ stack top end. behind.opened stack;
      opened = λ stack. behind.opened (Open ∷ stack);
    }
passes (Close ∷ pieces) =
    let behind = passes pieces in
    record {
      settled = λ stack top end. ap (λ o. left bracket_one (shut o stack) pieces) end ∙ behind.settled (Close ∷ stack) refl refl;
      opened = λ stack. behind.settled (Close ∷ Open ∷ stack) refl refl;
    }
passes (One Value ∷ []) =
    record { settled = λ stack top end. refl; opened = λ stack. refl }
passes (One Value ∷ Close ∷ pieces) =
    let behind = passes (Close ∷ pieces) in
    let beyond = passes pieces in
    record {
      settled = λ stack top end. bracket-settle (One Value) (Close ∷ pieces) stack behind top refl;
      opened = λ stack. beyond.settled (One Single ∷ stack) refl refl;
    }
passes (One Value ∷ Open ∷ pieces) =
    let behind = passes (Open ∷ pieces) in
    let beyond = passes pieces in
    record {
      settled = λ stack top end. bracket-settle (One Value) (Open ∷ pieces) stack behind top refl;
      opened = λ stack. beyond.opened (One Value ∷ Open ∷ stack);
    }
passes (One Value ∷ piece ∷ pieces) =
    let behind = passes (piece ∷ pieces) in
    let beyond = passes pieces in
    record {
      settled = λ stack top end. bracket-settle (One Value) (piece ∷ pieces) stack behind top refl;
      opened = λ stack. bracket-settle piece pieces (One Value ∷ Open ∷ stack) beyond refl refl;
    }
passes (Run Value ∷ []) =
    record { settled = λ stack top end. refl; opened = λ stack. refl }
passes (Run Value ∷ Close ∷ pieces) =
    let behind = passes (Close ∷ pieces) in
    let beyond = passes pieces in
    record {
      settled = λ stack top end. bracket-settle (Run Value) (Close ∷ pieces) stack behind top refl;
      opened = λ stack. beyond.settled (One Several ∷ stack) refl refl;
    }
passes (Run Value ∷ Open ∷ pieces) =
    let behind = passes (Open ∷ pieces) in
    let beyond = passes pieces in
    record {
      settled = λ stack top end. bracket-settle (Run Value) (Open ∷ pieces) stack behind top refl;
      opened = λ stack. beyond.opened (Run Value ∷ Open ∷ stack);
    }
passes (Run Value ∷ piece ∷ pieces) =
    let behind = passes (piece ∷ pieces) in
    let beyond = passes pieces in
    record {
      settled = λ stack top end. bracket-settle (Run Value) (piece ∷ pieces) stack behind top refl;
      opened = λ stack. bracket-settle piece pieces (Run Value ∷ Open ∷ stack) beyond refl refl;
    }
passes (piece ∷ pieces) =
    let behind = passes pieces in
    record {
      settled = λ stack top end. bracket-settle piece pieces stack behind top refl;
      opened = λ stack. behind.settled (piece ∷ Open ∷ stack) refl refl;
    }

-- the whole list, and the pass over it in reverse
pub bracketed-is : (pieces : List Piece) → right bracket_one (reverse pieces) ≡ reverse (bracketed pieces)
bracketed-is pieces =
    sym (left-is bracket_one pieces) ∙ (passes pieces).settled [] refl refl ∙ onto-nil (bracketed pieces)

-- no run comes of it
pub bracketed-free : (shape : Shape) (pieces : List Piece) → NoRun shape pieces → NoRun shape (bracketed pieces)
unfolding bracketed
bracketed-free shape [] free = tt
bracketed-free shape (Open ∷ One Value ∷ Close ∷ pieces) free = (refl, bracketed-free shape pieces free.1.1.1)
bracketed-free shape (Open ∷ Run Value ∷ Close ∷ pieces) free = (refl, bracketed-free shape pieces free.1.1.1)
bracketed-free shape (piece ∷ pieces) free = (free.0, bracketed-free shape pieces free.1)
