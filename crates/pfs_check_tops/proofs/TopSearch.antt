-- The top of a row up to a number, looked up.
use Rattle.std.proofs.Common.{◌≡◌, refl, ℕ, ◌+◌, ◌-◌, ◌<◌, ◌≤◌, Bool, true, false, nat_lt, List, length, get_or, sym, ◌∙◌, arith, Some, None}
use Rattle.std.specs.Prelude.{slice_get}
use Rattle.std.proofs.lemmas.Bool.Decides.{nat_tests}
use Rattle.std.proofs.lemmas.Option.{slice_get-get_or, slice_get_within}
use Rattle.pfs_check_tops.proofs.TopValues.{IsGreatest, IsTop}
use Rattle.pfs_check_tops.specs.declared.tops.Given.{Given}
use Rattle.pfs_check_tops.specs.SortedTops.{AreInOrder, AreTops, Covers, IsBehind, IsGiven, IsOneOf, IsUpTo, IsWithin, Parts, within_test}

within_yes : (row at : ℕ) (top : Given) → within_test row at top ≡ true → IsWithin row at top
within_yes row at top e = record { row_is = grind (arith, nat_tests); at_is = λ q. grind (arith, nat_tests) }

within_no : (row at : ℕ) (top : Given) → within_test row at top ≡ false → IsBehind row at top
within_no row at top e = record { row_is = grind (arith, nat_tests); at_is = λ q. grind (arith, nat_tests) }

pub no_parts : (tops : List Given) (row at n : ℕ) → n ≡ length tops → Parts tops row at 0 n
no_parts tops row at n e = record {
  below = λ i top h g. absurd (omega (arith, h));
  above = λ i top h g. absurd (omega (arith, h, e, slice_get_within tops i top g));
}

pub low_part : (tops : List Given) (row at low high middle : ℕ) (d : Given) → middle < length tops → AreInOrder tops
    → within_test row at (get_or tops middle d) ≡ true → Parts tops row at low high → Parts tops row at (middle + 1) high
low_part tops row at low high middle d h order t before = record { below = below; above = before.above } where
  there : slice_get tops middle ≡ Some (get_or tops middle d)
  there = slice_get-get_or tops middle d h

  below : (i : ℕ) (top : Given) → i < middle + 1 → slice_get tops i ≡ Some top → IsWithin row at top
  below i top l g =
      let mine : IsWithin row at (get_or tops middle d) = within_yes row at (get_or tops middle d) t in
      let up : IsUpTo top (get_or tops middle d) = order i middle top (get_or tops middle d) (omega (arith, l)) g there in
      record {
        row_is = omega (arith, up.row, mine.row_is);
        at_is = λ e.
            let same : top.row ≡ (get_or tops middle d).row = omega (arith, up.row, mine.row_is, e) in
            omega (arith, up.at same, mine.at_is (sym same ∙ e));
      }

pub high_part : (tops : List Given) (row at low high middle : ℕ) (d : Given) → middle < length tops → AreInOrder tops
    → within_test row at (get_or tops middle d) ≡ false → Parts tops row at low high → Parts tops row at low middle
high_part tops row at low high middle d h order t before = record { below = before.below; above = above } where
  there : slice_get tops middle ≡ Some (get_or tops middle d)
  there = slice_get-get_or tops middle d h

  above : (i : ℕ) (top : Given) → middle ≤ i → slice_get tops i ≡ Some top → IsBehind row at top
  above i top l g =
      let mine : IsBehind row at (get_or tops middle d) = within_no row at (get_or tops middle d) t in
      let up : IsUpTo (get_or tops middle d) top = order middle i (get_or tops middle d) top l there g in
      record {
        row_is = omega (arith, up.row, mine.row_is);
        at_is = λ e.
            let same : (get_or tops middle d).row ≡ row = omega (arith, up.row, mine.row_is, e) in
            omega (arith, up.at (same ∙ sym e), mine.at_is same);
      }

-- all of the row are behind the number, where none is before
pub none_up_to : (tops givens : List Given) (row at : ℕ) → AreTops tops givens → Parts tops row at 0 0 → IsTop givens row at None
none_up_to tops givens row at all parts one i e =
    let here : Covers tops one = all.covers one i in
    let behind : IsBehind row at here.top = parts.above here.place here.top (omega arith) here.there in
    omega (arith, behind.at_is (here.row ∙ e), here.at)

-- or the last before is of another row
pub other_row : (tops givens : List Given) (row at place : ℕ) (d : Given) → AreTops tops givens → Parts tops row at place place → 0 < place
    → place ≤ length tops → ((get_or tops (place - 1) d).row ≡ row → ⊥) → IsTop givens row at None
other_row tops givens row at place d all parts some within apart one i e = on (nat_lt here.place place) refl where
  here : Covers tops one
  here = all.covers one i

  last : slice_get tops (place - 1) ≡ Some (get_or tops (place - 1) d)
  last = slice_get-get_or tops (place - 1) d (omega (arith, some, within))

  on : (b : Bool) → nat_lt here.place place ≡ b → at < one.at
  on true f =
      let before : here.place ≤ place - 1 = grind (arith, nat_tests) in
      let up : IsUpTo here.top (get_or tops (place - 1) d) = all.order here.place (place - 1) here.top (get_or tops (place - 1) d) before here.there last in
      let most : IsWithin row at (get_or tops (place - 1) d) = parts.below (place - 1) (get_or tops (place - 1) d) (omega (arith, some)) last in
      absurd (apart (omega (arith, up.row, most.row_is, here.row, e)))
  on false f =
      let after : place ≤ here.place = grind (arith, nat_tests) in
      let behind : IsBehind row at here.top = parts.above here.place here.top after here.there in
      omega (arith, behind.at_is (here.row ∙ e), here.at)

-- or it is the greatest
pub greatest_there : (tops givens : List Given) (row at place : ℕ) (d : Given) → AreTops tops givens → Parts tops row at place place → 0 < place
    → place ≤ length tops → (get_or tops (place - 1) d).row ≡ row → IsGreatest givens row at (get_or tops (place - 1) d).version
greatest_there tops givens row at place d all parts some within own = record {
  most = most;
  one = given.one;
  there = given.there;
  row_is = given.row ∙ own;
  at_is = omega (arith, given.at, low.at_is own);
  version_is = given.version;
} where
  last : slice_get tops (place - 1) ≡ Some (get_or tops (place - 1) d)
  last = slice_get-get_or tops (place - 1) d (omega (arith, some, within))

  given : IsGiven givens (get_or tops (place - 1) d)
  given = all.given (place - 1) (get_or tops (place - 1) d) last

  low : IsWithin row at (get_or tops (place - 1) d)
  low = parts.below (place - 1) (get_or tops (place - 1) d) (omega (arith, some)) last

  most : (one : Given) → IsOneOf one givens → one.row ≡ row → one.at ≤ at → one.version ≤ (get_or tops (place - 1) d).version
  most one i e l = on (nat_lt here.place place) refl where
    here : Covers tops one
    here = all.covers one i

    on : (b : Bool) → nat_lt here.place place ≡ b → one.version ≤ (get_or tops (place - 1) d).version
    on true f =
        let before : here.place ≤ place - 1 = grind (arith, nat_tests) in
        let rise : here.top.version ≤ (get_or tops (place - 1) d).version =
        all.rising here.place (place - 1) here.top (get_or tops (place - 1) d) before here.there last (here.row ∙ e ∙ sym own) in
        omega (arith, rise, here.version)
    on false f =
        let after : place ≤ here.place = grind (arith, nat_tests) in
        let behind : IsBehind row at here.top = parts.above here.place here.top after here.there in
        absurd (omega (arith, behind.at_is (here.row ∙ e), here.at, l))
