-- What is made of rows is what each content of the entries has.
use Rattle.std.proofs.Common.{◌≡◌, ◌≢◌, refl, ℕ, ◌+◌, ◌-◌, List, [], ◌∷◌, inl, inr, sym, ◌∙◌, ap, subst, arith}
use Rattle.pfs_event.specs.declared.entry.Entry.{Entry}
use Rattle.pfs_event.specs.declared.entry.Entry.TheVariants as says
use Rattle.pfs_model.specs.declared.changes.Change.{Change}
use Rattle.pfs_model.specs.Actions.{IsAmong}
use Rattle.pfs_model.specs.Chains.{change_at, row_change}
use Rattle.pfs_model.specs.Contents.{AllContents, AreContents, Given, IsContent, IsNext, content_after}
use Rattle.pfs_model.specs.Contexts.{Context}
use Rattle.pfs_model.specs.EntryPlaces.{Placed}
use Rattle.pfs_check_faults.specs.ActionFaults.{Changes, Gives, IsMade, Opens}

pub head : {x y : Change} → (x ∷ []) ≡ (y ∷ []) → x ≡ y
head {x} {y} e = ap (λ changes. first changes x) e where
  first : List Change → Change → Change
  first [] d = d
  first (c ∷ cs) d = c

there : (given : Given) (content : ℕ → ℕ → List ℕ) (all : List Placed) (place : Placed) → AllContents given content all → IsAmong place all
    → IsContent given content place place.entry
there given content [] place h i = absurd i
there given content (p ∷ ps) place h (inl e) = subst (λ (z : Placed). IsContent given content z z.entry) e h.0
there given content (p ∷ ps) place h (inr i) = there given content ps place h.1 i

-- the content behind a change is made of the one before
abbrev Follows : Given → (ℕ → ℕ → List ℕ) → Placed → Change → Type 0
Follows given content place change =
    IsNext content (λ here. content_after given content place place.context here place.entry) change.row change.version

follows : (given : Given) (content : ℕ → ℕ → List ℕ) (place : Placed) (entry : Entry) (change : Change) → row_change entry ≡ change ∷ []
    → IsContent given content place entry → Follows given content place change
follows given content place (says.Add row version) change e h = subst (Follows given content place) (head e) h
follows given content place (says.Take row version) change e h = subst (Follows given content place) (head e) h
follows given content place (says.Give row version from) change e h = subst (Follows given content place) (head e) h.1
follows given content place (says.Tag row version) change e h = subst (Follows given content place) (head e) h
follows given content place (says.Ring row version) change e h = subst (Follows given content place) (head e) h
follows given content place (says.Long row version ticket) change e h = subst (Follows given content place) (head e) h
follows given content place _ change e h = absurd (cc)

next : (given : Given) (content : ℕ → ℕ → List ℕ) (place : Placed) (row before : ℕ) → Follows given content place (change_at row (before + 1))
    → content row (before + 1) ≡ content_after given content place place.context (content row before) place.entry
next given content place row before n =
    n.2 ∙ ap (λ z. content_after given content place place.context (content row z) place.entry) same where
      same : n.0 ≡ before
      same = let e : before + 1 ≡ n.0 + 1 = n.1 in omega (arith, e)

-- only a give goes by the contents of other rows
plain : (given : Given) (one other : ℕ → ℕ → List ℕ) (place : Placed) (context : Context) (here : List ℕ) (entry : Entry) (row version : ℕ)
    → row_change entry ≡ change_at row version ∷ [] → ((from : ℕ) → entry ≢ says.Give row version from)
    → content_after given one place context here entry ≡ content_after given other place context here entry
plain given one other place context here (says.Give at number from) row version e never =
    absurd (never from (ap (λ (c : Change). says.Give c.row c.version from) (head e)))
plain given one other place context here (says.Add at number) row version e never = refl
plain given one other place context here (says.Take at number) row version e never = refl
plain given one other place context here (says.Tag at number) row version e never = refl
plain given one other place context here (says.Ring at number) row version e never = refl
plain given one other place context here (says.Long at number ticket) row version e never = refl
plain given one other place context here _ row version e never = refl

gift : (given : Given) (content : ℕ → ℕ → List ℕ) (place : Placed) (here source : List ℕ) (row version from : ℕ) (entry : Entry)
    → entry ≡ says.Give row version from → content from (place.context.source_version - 1) ≡ source
    → content_after given content place place.context here entry ≡ content_after given (λ other version. source) place place.context here entry
gift given content place here source row version from entry give s =
    ap (content_after given content place place.context here) give
    ∙ ap (λ z. content_after given (λ other version. z) place place.context here (says.Give row version from)) s
    ∙ sym (ap (content_after given (λ other version. source) place place.context here) give)

pub only_content : (given : Given) (content : ℕ → ℕ → List ℕ) (all : List Placed) → AreContents given content all
    → {row version : ℕ} {words : List ℕ} → IsMade given all row version words → content row version ≡ words
only_content given content all are (Opens row words e) = are.opens row ∙ sym e
only_content given content all are (Changes place row before here words among change never made e) =
    next given content place row before (follows given content place place.entry (change_at row (before + 1)) change (there given content all place are.made among))
    ∙ ap (λ z. content_after given content place place.context z place.entry) (only_content given content all are made)
    ∙ plain given content (λ other version. []) place place.context here place.entry row (before + 1) change never ∙ sym e
only_content given content all are (Gives place row before from here source words among give own made taken e) =
    next given content place row before (follows given content place place.entry (change_at row (before + 1)) (ap row_change give) (there given content all place are.made among))
    ∙ ap (λ z. content_after given content place place.context z place.entry) (only_content given content all are made)
    ∙ gift given content place here source row (before + 1) from place.entry give (only_content given content all are taken) ∙ sym e
