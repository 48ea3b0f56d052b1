-- What sessions hold for rows, entry by entry, and what an addition brings.
use Rattle.std.proofs.Common.{◌≡◌, refl, ℕ, ◌==◌, Bool, true, false, ◌&&◌, cond, List, [], ◌∷◌, ◌++◌, map, sym, ◌∙◌, ap, subst, arith, Option, Some, None}
use Rattle.std.specs.Prelude.{fold}
use Rattle.std.specs.BTreeMap.{get}
use Rattle.std.proofs.lemmas.Bool.{eqb-true}
use Rattle.std.proofs.lemmas.Bool.Decides.{nat_tests}
use Rattle.pfs_event.specs.declared.entry.Entry.{Entry}
use Rattle.pfs_event.specs.declared.entry.Entry.TheVariants as says
use Rattle.pfs_stat.specs.declared.Stat.{Stat}
use Rattle.pfs_stat.specs.Stat.{MergeIsMonoid, merge_of, stat_of_words, words_of}
use Rattle.pfs_model.specs.declared.lines.Opened.{Opened}
use Rattle.pfs_model.specs.Contents.{Given, amount_of, content_after, merged}
use Rattle.pfs_model.specs.Contexts.{Context, Waiting, brought, held_else, held_for, own_event, own_wait}
use Rattle.pfs_model.specs.EntryPlaces.{Placed}
use Rattle.pfs_check_contents.specs.declared.held.HeldAmounts.{HeldAmounts}
use Rattle.pfs_check_contents.specs.declared.held.HeldAt.{HeldAt}
use Rattle.pfs_check_contents.specs.HeldEvents.{AddLaw, AreHeld, amount_in, brought_in, held_at, held_cmp, is_held_at, own_amount, waiting_behind, waiting_in}
use Rattle.pfs_check_contents.specs.RowEffects.{both_in, in_one, with_amount}

-- amounts that are added one after another are added in one
merged_in : MergeIsMonoid → (here : Stat) (amounts : List Stat) → merged here amounts ≡ with_amount here (in_one amounts)
merged_in law here [] = refl
merged_in law here (amount ∷ amounts) = merged_in law (merge_of here amount) amounts ∙ on (in_one amounts) where
  on : (more : Option Stat) → with_amount (merge_of here amount) more ≡ with_amount here (both_in (Some amount) more)
  on None = refl
  on (Some other) = law.associates here amount other

pub added : MergeIsMonoid → AddLaw
added law given earlier place row version e w content here = ap (content_after given content place place.context here) e
    ∙ ap (λ waiting. words_of (merged (stat_of_words here) (map (amount_of given place.session) (own_event place.context.ended ++ held_for row waiting)))) w
    ∙ ap words_of (merged_in law (stat_of_words here) (map (amount_of given place.session) (own_event place.context.ended ++ held_for row (waiting_in earlier place.session))))

-- the event that has just ended, and what is held
pub own_and : (given : Given) (session : ℕ) (ended : Option Opened) (events : List Opened)
    → amount_in given session (own_event ended ++ events) ≡ both_in (own_amount given session ended) (amount_in given session events)
own_and given session None events = refl
own_and given session (Some event) events = refl

pub brought_is : (given : Given) (earlier : List Placed) (place : Placed) (held : HeldAmounts) (session row : ℕ) (own amount : Option Stat)
    → place.session ≡ session → own ≡ own_amount given place.session place.context.ended → AreHeld given earlier held
    → amount ≡ both_in own (get held_cmp held.kept (held_at session row)) → amount ≡ brought_in given earlier place row
brought_is given earlier place held session row own amount s o are e =
    e ∙ ap (λ z. both_in z (get held_cmp held.kept (held_at session row))) o
    ∙ ap (λ z. both_in (own_amount given place.session place.context.ended) (get held_cmp held.kept (held_at z row))) (sym s)
    ∙ ap (both_in (own_amount given place.session place.context.ended)) (are.each place.session row)
    ∙ sym (own_and given place.session place.context.ended (held_for row (waiting_in earlier place.session)))

-- what is held for a row behind an entry
held_own : (row other : ℕ) (ended : Option Opened) (waiting : List Waiting)
    → held_for other (own_wait row ended ++ waiting) ≡ cond (row == other) (own_event ended) [] ++ held_for other waiting
held_own row other None waiting = on (row == other) where
  on : (b : Bool) → held_for other waiting ≡ cond b [] [] ++ held_for other waiting
  on true = refl
  on false = refl
held_own row other (Some event) waiting = refl

held_left : (row other : ℕ) (waiting : List Waiting) → held_for other (held_else row waiting) ≡ cond (row == other) [] (held_for other waiting)
held_left row other [] = on (row == other) where
  on : (b : Bool) → held_for other [] ≡ cond b [] (held_for other [])
  on true = refl
  on false = refl
held_left row other (one ∷ others) = on (one.row == row) (row == other) refl refl (held_left row other others) where
  same : (a b c : ℕ) → (a == b) ≡ true → (a == c) ≡ (b == c)
  same a b c e = ap (λ z. z == c) (eqb-true a b e)

  on : (a b : Bool) → (one.row == row) ≡ a → (row == other) ≡ b → held_for other (held_else row others) ≡ cond b [] (held_for other others)
      → held_for other (cond a [] (one ∷ []) ++ held_else row others) ≡ cond b [] (cond (one.row == other) (one.event ∷ []) [] ++ held_for other others)
  on true true p q h = h
  on true false p q h = h ∙ sym (ap (λ z. cond z (one.event ∷ []) [] ++ held_for other others) (same one.row row other p ∙ q))
  on false false p q h = ap (λ z. cond (one.row == other) (one.event ∷ []) [] ++ z) h
  on false true p q h = ap (λ z. cond z (one.event ∷ []) [] ++ held_for other (held_else row others)) (differ p q) ∙ h where
    differ : (one.row == row) ≡ false → (row == other) ≡ true → (one.row == other) ≡ false
    differ p q = sym (ap (λ z. one.row == z) (eqb-true row other q)) ∙ p

at_self : (n : ℕ) → (n == n) ≡ true
at_self n = grind (arith, nat_tests)

same_back : (m n : ℕ) → (m == n) ≡ (n == m)
same_back m n = grind (arith, nat_tests)

-- an entry that holds
pub held_more : (given : Given) (earlier : List Placed) (place : Placed) (old new : HeldAmounts) (session row first second : ℕ) (own : Option Stat) → place.session ≡ session
    → place.entry ≡ says.Held row first second → own ≡ own_amount given place.session place.context.ended
    → ((other : HeldAt) → get held_cmp new.kept other ≡ cond (is_held_at other (held_at session row)) (both_in own (get held_cmp old.kept other)) (get held_cmp old.kept other))
    → AreHeld given earlier old → AreHeld given (place ∷ earlier) new
held_more given earlier place old new session row first second own s e o step are = record { each = each } where
  each : (at number : ℕ) → get held_cmp new.kept (held_at at number) ≡ amount_in given at (held_for number (waiting_in (place ∷ earlier) at))
  each at number = step (held_at at number) ∙ on (at == session) (number == row) refl refl where
    mine : (at == session) ≡ true → place.session ≡ at
    mine p = s ∙ sym (eqb-true at session p)

    here : (a : Bool) → (at == session) ≡ a → (place.session == at) ≡ a
    here a p = ap (λ z. z == at) s ∙ same_back session at ∙ p

    on : (a b : Bool) → (at == session) ≡ a → (number == row) ≡ b
        → cond (a && b) (both_in own (get held_cmp old.kept (held_at at number))) (get held_cmp old.kept (held_at at number))
        ≡ amount_in given at (held_for number (waiting_in (place ∷ earlier) at))
    on false b p q = are.each at number ∙ sym (ap (λ z. amount_in given at (held_for number (cond z (waiting_behind place.entry place.context.ended (waiting_in earlier at)) (waiting_in earlier at)))) (here false p))
    on true b p q = by b q ∙ sym (
        ap (λ z. amount_in given at (held_for number (cond z (waiting_behind place.entry place.context.ended (waiting_in earlier at)) (waiting_in earlier at)))) (here true p)
        ∙ ap (λ z. amount_in given at (held_for number (waiting_behind z place.context.ended (waiting_in earlier at)))) e
        ∙ ap (amount_in given at) (held_own row number place.context.ended (waiting_in earlier at))
        ∙ ap (λ z. amount_in given at (cond z (own_event place.context.ended) [] ++ held_for number (waiting_in earlier at))) (same_back row number ∙ q)) where
          by : (b : Bool) → (number == row) ≡ b → cond b (both_in own (get held_cmp old.kept (held_at at number))) (get held_cmp old.kept (held_at at number))
              ≡ amount_in given at (cond b (own_event place.context.ended) [] ++ held_for number (waiting_in earlier at))
          by false q = are.each at number
          by true q =
              ap (both_in own) (are.each at number)
              ∙ ap (λ z. both_in z (amount_in given at (held_for number (waiting_in earlier at)))) (o ∙ ap (λ z. own_amount given z place.context.ended) (mine p))
              ∙ sym (own_and given at place.context.ended (held_for number (waiting_in earlier at)))

-- an addition, behind which nothing is held
pub held_less : (given : Given) (earlier : List Placed) (place : Placed) (old new : HeldAmounts) (session row version : ℕ) → place.session ≡ session
    → place.entry ≡ says.Add row version
    → ((other : HeldAt) → get held_cmp new.kept other ≡ cond (is_held_at other (held_at session row)) None (get held_cmp old.kept other))
    → AreHeld given earlier old → AreHeld given (place ∷ earlier) new
held_less given earlier place old new session row version s e step are = record { each = each } where
  each : (at number : ℕ) → get held_cmp new.kept (held_at at number) ≡ amount_in given at (held_for number (waiting_in (place ∷ earlier) at))
  each at number = step (held_at at number) ∙ on (at == session) (number == row) refl refl where
    here : (a : Bool) → (at == session) ≡ a → (place.session == at) ≡ a
    here a p = ap (λ z. z == at) s ∙ same_back session at ∙ p

    on : (a b : Bool) → (at == session) ≡ a → (number == row) ≡ b
        → cond (a && b) None (get held_cmp old.kept (held_at at number)) ≡ amount_in given at (held_for number (waiting_in (place ∷ earlier) at))
    on false b p q = are.each at number ∙ sym (ap (λ z. amount_in given at (held_for number (cond z (waiting_behind place.entry place.context.ended (waiting_in earlier at)) (waiting_in earlier at)))) (here false p))
    on true b p q = by b q ∙ sym (
        ap (λ z. amount_in given at (held_for number (cond z (waiting_behind place.entry place.context.ended (waiting_in earlier at)) (waiting_in earlier at)))) (here true p)
        ∙ ap (λ z. amount_in given at (held_for number (waiting_behind z place.context.ended (waiting_in earlier at)))) e
        ∙ ap (amount_in given at) (held_left row number (waiting_in earlier at))
        ∙ ap (λ z. amount_in given at (cond z [] (held_for number (waiting_in earlier at)))) (same_back row number ∙ q)) where
          by : (b : Bool) → (number == row) ≡ b → cond b None (get held_cmp old.kept (held_at at number))
              ≡ amount_in given at (cond b [] (held_for number (waiting_in earlier at)))
          by false q = are.each at number
          by true q = refl

-- nothing else changes what is held
abbrev pub KeepsHeld : Entry → Type 0
KeepsHeld entry = (ended : Option Opened) (waiting : List Waiting) → waiting_behind entry ended waiting ≡ waiting

pub held_same : (given : Given) (earlier : List Placed) (place : Placed) (held : HeldAmounts) → KeepsHeld place.entry
    → AreHeld given earlier held → AreHeld given (place ∷ earlier) held
held_same given earlier place held keeps are = record { each = each } where
  each : (at number : ℕ) → get held_cmp held.kept (held_at at number) ≡ amount_in given at (held_for number (waiting_in (place ∷ earlier) at))
  each at number = are.each at number ∙ ap (λ z. amount_in given at (held_for number z)) (on (place.session == at)) where
    on : (b : Bool) → waiting_in earlier at ≡ cond b (waiting_behind place.entry place.context.ended (waiting_in earlier at)) (waiting_in earlier at)
    on true = sym (keeps place.context.ended (waiting_in earlier at))
    on false = refl
