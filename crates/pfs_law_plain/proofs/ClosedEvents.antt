-- The events that a mark closes, by their brackets; and that those which are open opened among the marks.
use Rattle.std.proofs.Common.{ℕ, ◌≡◌, ◌<◌, true, List, length, Option, Some, None, refl, arith, ap}
use Rattle.std.specs.Prelude.{slice_get}
use Rattle.std.proofs.lemmas.Bool.{eqb-true}
use Rattle.pfs_model.specs.Chains.{Each}
use Rattle.pfs_script.specs.Brackets.{Bracket, brackets_of, Opening, opening_of, is_unclosed, closes_at, open_in, closed_at}
use Rattle.pfs_script.specs.Marks.{Mark}
use Rattle.pfs_law_plain.proofs.BracketCounts.{standing, each_as, each_map, each_filter, each_reverse, each_at}

-- an event that closes at this place: its bracket, and where that stands among all
pub record IsClosed (marks : List Mark) (at : ℕ) (opening : Opening) : Type 0 where
  pub index : ℕ
  pub bracket : Bracket
  pub there : slice_get (brackets_of marks) index ≡ Some bracket
  pub closed : bracket.closed ≡ Some at
  pub is : opening_of bracket ≡ opening

closed_some : (at : ℕ) (closed : Option ℕ) → closes_at at closed ≡ true → closed ≡ Some at
closed_some at None q = cc
closed_some at (Some other) q = ap Some (eqb-true other at q)

abbrev IsThere : List Mark → Bracket → Type 0
IsThere marks b = (i : ℕ) × (slice_get (brackets_of marks) i ≡ Some b)

pub closing : (marks : List Mark) (at : ℕ) → Each (IsClosed marks at) (closed_at marks at)
closing marks at =
    each_reverse (IsClosed marks at) _
    (each_map (IsClosed marks at) opening_of _
    (each_as (λ (b : Bracket). IsThere marks b × (closes_at at b.closed ≡ true)) (λ (b : Bracket). IsClosed marks at (opening_of b)) _
    (λ b found. record { index = found.0.0; bracket = b; there = found.0.1; closed = closed_some at b.closed found.1; is = refl })
    (each_filter (IsThere marks) (λ (b : Bracket). closes_at at b.closed) (brackets_of marks) (each_at (brackets_of marks)))))

pub open_below : (marks : List Mark) → Each (λ opening. opening.place < length marks) (open_in marks)
open_below marks =
    each_reverse (λ opening. opening.place < length marks) _
    (each_map (λ opening. opening.place < length marks) opening_of _
    (each_as (λ (b : Bracket). IsThere marks b × (is_unclosed b.closed ≡ true)) (λ (b : Bracket). b.opened < length marks) _
    (λ b found. let stands = standing 0 marks found.0.0 b found.0.1 in omega (arith, stands.1))
    (each_filter (IsThere marks) (λ (b : Bracket). is_unclosed b.closed) (brackets_of marks) (each_at (brackets_of marks)))))
