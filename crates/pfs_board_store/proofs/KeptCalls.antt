-- What a seat has kept of its calls stays kept when its lists grow.
use Rattle.std.proofs.Common.{ℕ, List, [], ◌∷◌, inl, inr, ⊎_elim}
use Rattle.pfs_board.specs.declared.view.Entered.{Entered}
use Rattle.pfs_board.specs.declared.view.Finished.{Finished}
use Rattle.pfs_board.specs.declared.view.Sight.{Sight}
use Rattle.pfs_board.specs.History.{Some_of}
use Rattle.pfs_levels.specs.Calls.{Call, Adds, Rings, Reads, Loads, Draws, Takes, Puts, Frees, Sets, Enters, Leaves, Meets, Start, action_in, after_in}
use Rattle.pfs_levels.specs.declared.answers.Added.TheVariants.{Counted, Held}
use Rattle.pfs_levels.specs.declared.answers.RingPut.TheVariants.{Done, Busy, Late}
use Rattle.pfs_rows.specs.declared.table.Seen.TheVariants.{Whole, Free}
use Rattle.pfs_rows.specs.declared.table.Seen.TheVariants as sees
use Rattle.pfs_board_store.specs.Ties.{WasOlder, IsShown, AreShown}

-- each fact of some entry of one list is one of some entry of the other
abbrev pub Within : {A : Type 0} → List A → List A → Type 1
Within {A} xs ys = (P : A → Type 0) → Some_of P xs → Some_of P ys

pub all_within : {A : Type 0} (xs : List A) → Within xs xs
all_within xs P h = h

pub one_more : {A : Type 0} (x : A) (xs : List A) → Within xs (x ∷ xs)
one_more x xs P h = inr h

module _ (start : Start) (reads reads' : List Finished) (sights sights' : List Sight) (entered entered' : List Entered) (f : Within reads reads') (g : Within sights sights') (h : Within entered entered') where
  older_more : (row version : ℕ) (content : List ℕ) (action after : ℕ) → WasOlder start reads sights row version content action after → WasOlder start reads' sights' row version content action after
  older_more row version content action after o = ⊎_elim (λ x. inl (g _ x)) (λ x. inr (f _ x)) o

  shown_one : (calls : List Call) (call : Call) → IsShown start reads sights entered calls call → IsShown start reads' sights' entered' calls call
  shown_one calls (Adds row amount (Held r first second)) s = (s.0, s.1, g _ s.2)
  shown_one calls (Adds row amount (Counted r version)) s = tt
  shown_one calls (Rings row content (Done version)) s = λ long. let o = s long in (o.0, o.1, older_more row o.0 content (action_in calls) (after_in calls) o.2)
  shown_one calls (Rings row content (Busy first second)) s = (s.0, s.1, g _ s.2)
  shown_one calls (Rings row content (Late ticket version)) s = (s.0, f _ s.1)
  shown_one calls (Reads row (Whole version found)) s = (s.0, f _ s.1)
  shown_one calls (Reads row (Free word)) s = (s.0, s.1, g _ s.2)
  shown_one calls (Reads row (sees.Busy first second)) s = (s.0, s.1, g _ s.2)
  shown_one calls (Enters label labels) s = h _ s
  shown_one calls (Loads at version flags) s = tt
  shown_one calls (Draws kind ticket) s = tt
  shown_one calls (Meets versions) s = tt
  shown_one calls (Takes row version found) s = tt
  shown_one calls (Puts row content version) s = tt
  shown_one calls (Frees row version) s = tt
  shown_one calls (Sets at flags version) s = tt
  shown_one calls Leaves s = tt

  pub shown_more : (calls : List Call) → AreShown start reads sights entered calls → AreShown start reads' sights' entered' calls
  shown_more [] s = tt
  shown_more (call ∷ calls) s = (shown_one calls call s.0, shown_more calls s.1)
