-- What is taken in an action, entry by entry.
use Rattle.std.proofs.Common.{◌≡◌, refl, ℕ, zero, suc, ◌<◌, ◌==◌, Bool, true, false, cond, List, [], ◌∷◌, sym, ◌∙◌, ap, subst, ◌⊎◌, inl, inr, arith, None}
use Rattle.std.specs.Prelude.{Option}
use Rattle.std.proofs.lemmas.Bool.{eqb-true}
use Rattle.std.proofs.lemmas.Bool.Decides.{nat_tests}
use Rattle.pfs_event.specs.declared.entry.Entry.{Entry}
use Rattle.pfs_event.specs.declared.entry.Entry.TheVariants as says
use Rattle.pfs_model.specs.declared.changes.Change.{Change}
use Rattle.pfs_model.specs.declared.lines.Subject.{Subject}
use Rattle.pfs_model.specs.Actions.{IsAmong, is_acted}
use Rattle.pfs_model.specs.Chains.{action_change, change_at}
use Rattle.pfs_model.specs.Contexts.{Context, noted, subject_of}
use Rattle.pfs_model.specs.EntryPlaces.{Placed, places}
use Rattle.pfs_model.proofs.LineWalks.{IsNoted, noted_is}
use Rattle.pfs_law_contexts.specs.TakenSources.{AreTakenBehind, IsTakenLast, SourceLaw, in_action, source_of, taken_behind, taken_in}
use Rattle.pfs_law_contexts.specs.ToldContexts.{AreToldBehind, ContextLaw, GoesOn, HasBegun, left_by, left_in}
use Rattle.pfs_law_contexts.proofs.NumberedActions.{among_each, positive}

-- before an action has its number nothing is taken, and behind it what is kept was
record IsKept (context : Context) (kept : Option Change) : Type 0 where
  none : context.action ≡ 0 → source_of context ≡ None
  some : 0 < context.action → source_of context ≡ kept

in_none : (action : ℕ) (source : Option Change) → action ≡ 0 → in_action action source ≡ None
in_none action source e = ap (λ z. cond (z == 0) None source) e

in_some : (action : ℕ) (source : Option Change) → 0 < action → in_action action source ≡ source
in_some zero source h = absurd (omega (arith, h))
in_some (suc action) source h = ap (λ b. cond b None source) (apart action) where
  apart : (n : ℕ) → (suc n == 0) ≡ false
  apart n = grind (arith, nat_tests)

by_number : (action : ℕ) (source kept : Option Change) → (action ≡ 0 → source ≡ None) → (0 < action → source ≡ kept) → source ≡ in_action action kept
by_number zero source kept n s = n refl ∙ sym (in_none zero kept refl)
by_number (suc action) source kept n s = s (omega arith) ∙ sym (in_some (suc action) kept (omega arith))

-- so the source at an entry is known
source_here : (left context : Context) (kept : Option Change) → GoesOn left context → IsKept left kept → source_of context ≡ in_action context.action kept
source_here left context kept (inl e) k =
    by_number context.action (source_of context) kept
    (λ q. ap source_of e ∙ k.none (ap (λ (z : Context). z.action) (sym e) ∙ q))
    (λ q. ap source_of e ∙ k.some (subst (λ (z : Context). 0 < z.action) e q))
source_here left context kept (inr e) k =
    ap source_of e ∙ sym (in_none context.action kept (ap (λ (z : Context). z.action) e))

-- and what it leaves
source_noted : (subject : Option Subject) (context : Context) (entry : Entry) → source_of (noted subject context entry) ≡ taken_behind entry (source_of context)
source_noted subject context (says.Take row version) = refl
source_noted subject context (says.Connect action thread account user host) = refl
source_noted subject context (says.Act action) = refl
source_noted subject context (says.Start event verdict consumers thread class table) = refl
source_noted subject context (says.End event last consumers thread) = refl
source_noted subject context (says.Held row first second) = refl
source_noted subject context (says.Add row version) = refl
source_noted subject context says.Settle = refl
source_noted subject context _ = refl

takes : (entry : Entry) → (is_acted entry ≡ true) ⊎ ((source : Option Change) → taken_behind entry source ≡ source)
takes (says.Take row version) = inl refl
takes _ = inr (λ source. refl)

kept_next : (subject : Option Subject) (context : Context) (entry : Entry) (kept : Option Change) → source_of context ≡ in_action context.action kept
    → (is_acted entry ≡ true → 0 < context.action) → ((n : ℕ) → action_change entry ≡ change_at 0 n ∷ [] → 0 < n)
    → IsKept (noted subject context entry) (taken_behind entry (in_action context.action kept))
kept_next subject context entry kept here acted numbered = record {
  none = λ q. source_noted subject context entry ∙ none (noted_is subject context entry) q (takes entry);
  some = λ q. source_noted subject context entry ∙ ap (taken_behind entry) here;
} where
  none : IsNoted subject context entry → (noted subject context entry).action ≡ 0 → (is_acted entry ≡ true) ⊎ ((source : Option Change) → taken_behind entry source ≡ source)
      → taken_behind entry (source_of context) ≡ None
  none (inl k) q (inl a) = let some : 0 < context.action = acted a in let same : (noted subject context entry).action ≡ context.action = k.1 in absurd (omega (arith, some, same, q))
  none (inl k) q (inr stays) = stays (source_of context) ∙ here ∙ in_none context.action kept (sym k.1 ∙ q)
  none (inr (n, says, same, done)) q t = let some : 0 < n = numbered n says in absurd (omega (arith, some, same, q))

-- along all entries
abbrev AllKept : List Placed → Type 0
AllKept earlier = (session : ℕ) → IsKept (left_in earlier session) (taken_in earlier session)

-- the numbers that stand here are above 0
abbrev AreAbove : List Placed → Type 0
AreAbove places = (place : Placed) (n : ℕ) → IsAmong place places → action_change place.entry ≡ change_at 0 n ∷ [] → 0 < n

kept_more : (earlier : List Placed) (place : Placed) → AllKept earlier → IsTakenLast earlier place → (is_acted place.entry ≡ true → 0 < place.context.action)
    → ((n : ℕ) → action_change place.entry ≡ change_at 0 n ∷ [] → 0 < n) → AllKept (place ∷ earlier)
kept_more earlier place all here acted numbered session = at (place.session == session) refl where
  at : (b : Bool) → (place.session == session) ≡ b
      → IsKept (cond b (left_by place) (left_in earlier session)) (cond b (taken_behind place.entry (in_action place.context.action (taken_in earlier session))) (taken_in earlier session))
  at true e = kept_next (subject_of place.line) place.context place.entry (taken_in earlier session)
      (here ∙ ap (λ z. in_action place.context.action (taken_in earlier z)) (eqb-true place.session session e)) acted numbered
  at false e = all session

along : (earlier xs : List Placed) → AllKept earlier → AreToldBehind earlier xs → AreAbove earlier → AreAbove xs → AreTakenBehind earlier xs
along earlier [] all told before above = tt
along earlier (x ∷ xs) all told before above =
    (here, along (x ∷ earlier) xs (kept_more earlier x all here acted numbered) told.1 more (λ place n i. above place n (inr i))) where
      here : IsTakenLast earlier x
      here = source_here (left_in earlier x.session) x.context (taken_in earlier x.session) told.0.goes (all x.session)

      acted : is_acted x.entry ≡ true → 0 < x.context.action
      acted e = let h : HasBegun earlier x.session x.context.action = told.0.begun e in before h.place x.context.action h.there h.says

      numbered : (n : ℕ) → action_change x.entry ≡ change_at 0 n ∷ [] → 0 < n
      numbered n says = above x n (inl refl) says

      more : AreAbove (x ∷ earlier)
      more place n (inl e) says = numbered n (ap (λ (z : Placed). action_change z.entry) e ∙ says)
      more place n (inr i) says = before place n i says

pub sources : ContextLaw → SourceLaw
sources law blocks shaped chained =
    along [] (places blocks) (λ session. record { none = λ q. refl; some = λ q. refl }) (law blocks shaped) (λ place n i. absurd i)
    (λ place n i says. positive action_change (places blocks) chained (change_at 0 n)
    (among_each action_change place (places blocks) (change_at 0 n) i (subst (IsAmong (change_at 0 n)) (sym says) (inl refl))))
