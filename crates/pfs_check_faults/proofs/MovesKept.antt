-- Where actions do as they ask, by the contents, no change of theirs is wrong.
use Rattle.std.proofs.Common.{◌≡◌, refl, ℕ, zero, suc, ◌+◌, ◌-◌, ◌≢◌, inl, inr, ◌==◌, Bool, true, false, cond, not, List, [], ◌∷◌, ◌++◌, map, take, sym, ◌∙◌, ap, subst, arith}
use Rattle.std.proofs.lemmas.Bool.Decides.{nat_tests}
use Rattle.pfs_event.specs.declared.entry.Entry.{Entry}
use Rattle.pfs_event.specs.declared.entry.Entry.TheVariants as says
use Rattle.pfs_journal.specs.declared.report.ReportParts.{ReportParts}
use Rattle.pfs_model.specs.declared.changes.Change.{Change}
use Rattle.pfs_model.specs.ActionAsks.{Asked, Did, DoAsAsked, of_action}
use Rattle.pfs_model.specs.Actions.{IsAmong}
use Rattle.pfs_model.specs.Chains.{Each, change_at, row_change}
use Rattle.pfs_model.specs.Contents.{AllContents, AreContents, AreFoundAsCounted, Given, IsContent, IsFoundAsCounted, IsNext, content_after}
use Rattle.pfs_model.specs.Contexts.{Context}
use Rattle.pfs_model.specs.EntryPlaces.{Placed}
use Rattle.pfs_stat.specs.Stat.{stat_of_words}
use Rattle.pfs_check_faults.proofs.RunRules.{moves_as_asked}
use Rattle.pfs_check_faults.specs.ActionFaults.{Changes, FindsWhatIsMade, Gives, IsMade, MovesFail, Opens, moves_in, moving_at}

head : {x y : Change} → (x ∷ []) ≡ (y ∷ []) → x ≡ y
head {x} {y} e = ap (λ cs. first cs x) e where
  first : List Change → Change → Change
  first [] d = d
  first (c ∷ cs) d = c

content_of : (given : Given) (content : ℕ → ℕ → List ℕ) (all : List Placed) (place : Placed) → AllContents given content all
    → IsAmong place all → IsContent given content place place.entry
content_of given content [] place h i = absurd i
content_of given content (p ∷ ps) place h (inl e) = subst (λ (z : Placed). IsContent given content z z.entry) e h.0
content_of given content (p ∷ ps) place h (inr i) = content_of given content ps place h.1 i

-- the content behind a change is made of the one before
abbrev Made : Given → (ℕ → ℕ → List ℕ) → Placed → Change → Type 0
Made given content place change =
    IsNext content (λ here. content_after given content place place.context here place.entry) change.row change.version

next_of : (given : Given) (content : ℕ → ℕ → List ℕ) (place : Placed) (entry : Entry) (change : Change)
    → row_change entry ≡ change ∷ [] → IsContent given content place entry → Made given content place change
next_of given content place (says.Add row version) change e h = subst (Made given content place) (head e) h
next_of given content place (says.Take row version) change e h = subst (Made given content place) (head e) h
next_of given content place (says.Give row version from) change e h = subst (Made given content place) (head e) h.1
next_of given content place (says.Tag row version) change e h = subst (Made given content place) (head e) h
next_of given content place (says.Ring row version) change e h = subst (Made given content place) (head e) h
next_of given content place (says.Long row version ticket) change e h = subst (Made given content place) (head e) h
next_of given content place _ change e h = absurd (cc)

after_one : (given : Given) (content : ℕ → ℕ → List ℕ) (place : Placed) (row before : ℕ)
    → Made given content place (change_at row (before + 1))
    → content row (before + 1) ≡ content_after given content place place.context (content row before) place.entry
after_one given content place row before next =
    next.2 ∙ ap (λ z. content_after given content place place.context (content row z) place.entry) same where
      same : next.0 ≡ before
      same = let e : before + 1 ≡ next.0 + 1 = next.1 in omega (arith, e)

-- only a give goes by other contents
plain : (given : Given) (one other : ℕ → ℕ → List ℕ) (place : Placed) (context : Context) (here : List ℕ) (entry : Entry)
    (row version : ℕ) → row_change entry ≡ change_at row version ∷ [] → ((from : ℕ) → entry ≢ says.Give row version from)
    → content_after given one place context here entry ≡ content_after given other place context here entry
plain given one other place context here (says.Give at number from) row version e other_than =
    absurd (other_than from (ap (λ (c : Change). says.Give c.row c.version from) (head e)))
plain given one other place context here (says.Add at number) row version e other_than = refl
plain given one other place context here (says.Take at number) row version e other_than = refl
plain given one other place context here (says.Tag at number) row version e other_than = refl
plain given one other place context here (says.Ring at number) row version e other_than = refl
plain given one other place context here (says.Long at number ticket) row version e other_than = refl
plain given one other place context here _ row version e other_than = refl

-- what is made of a row is its content
pub made_is : (given : Given) (content : ℕ → ℕ → List ℕ) (all : List Placed) → AreContents given content all
    → {row version : ℕ} {words : List ℕ} → IsMade given all row version words → content row version ≡ words
made_is given content all contents (Opens row words e) = contents.opens row ∙ sym e
made_is given content all contents (Changes place row before here words among change other_than made e) =
    after_one given content place row before
    (next_of given content place place.entry (change_at row (before + 1)) change (content_of given content all place contents.made among))
    ∙ ap (λ z. content_after given content place place.context z place.entry) (made_is given content all contents made)
    ∙ plain given content (λ other version. []) place place.context here place.entry row (before + 1) change other_than
    ∙ sym e
made_is given content all contents (Gives place row before from here source words among give own made taken e) =
    after_one given content place row before
    (next_of given content place place.entry (change_at row (before + 1)) (ap row_change give) (content_of given content all place contents.made among))
    ∙ ap (λ z. content_after given content place place.context z place.entry) (made_is given content all contents made)
    ∙ of_give place.entry give (made_is given content all contents taken)
    ∙ sym e where
      of_give : (entry : Entry) → entry ≡ says.Give row (before + 1) from → content from (place.context.source_version - 1) ≡ source
          → content_after given content place place.context here entry
          ≡ content_after given (λ other version. source) place place.context here entry
      of_give entry q s =
          ap (content_after given content place place.context here) q ∙ by_source (content from (place.context.source_version - 1)) s
          ∙ sym (ap (content_after given (λ other version. source) place place.context here) q) where
            by_source : (z : List ℕ) → z ≡ source → content_after given (λ other version. z) place place.context here (says.Give row (before + 1) from)
                ≡ content_after given (λ other version. source) place place.context here (says.Give row (before + 1) from)
            by_source z s = ap (λ y. content_after given (λ other version. y) place place.context here (says.Give row (before + 1) from)) s

finds_one : (given : Given) (content : ℕ → ℕ → List ℕ) (counted : ℕ → ℕ → Bool) (all : List Placed) (action : ℕ) (entry : Entry)
    → AreContents given content all → IsFoundAsCounted content counted action entry → FindsWhatIsMade given all (counted action) entry
finds_one given content counted all action (says.Take row version) contents found = λ words made.
    found ∙ ap (λ z. not ((stat_of_words z).count == 0)) (made_is given content all contents made)
finds_one given content counted all action _ contents found = tt

finds : (given : Given) (content : ℕ → ℕ → List ℕ) (counted : ℕ → ℕ → Bool) (all ps : List Placed) (number : ℕ)
    → AreContents given content all → AreFoundAsCounted content counted ps
    → Each (λ (place : Placed). FindsWhatIsMade given all (counted number) place.entry) (of_action number ps)
finds given content counted all [] number contents found = tt
finds given content counted all (p ∷ ps) number contents found =
    at (p.context.action == number) refl (finds given content counted all ps number contents found.1) where
      same : (a : ℕ) → (a == number) ≡ true → a ≡ number
      same a e = grind (arith, nat_tests)

      at : (b : Bool) → (p.context.action == number) ≡ b
          → Each (λ (place : Placed). FindsWhatIsMade given all (counted number) place.entry) (of_action number ps)
          → Each (λ (place : Placed). FindsWhatIsMade given all (counted number) place.entry) (cond b (p ∷ []) [] ++ of_action number ps)
      at true e h = (
        subst (λ z. FindsWhatIsMade given all (counted z) p.entry) (same p.context.action e)
            (finds_one given content counted all p.context.action p.entry contents found.0),
        h,
      )
      at false e h = h

each_taken : (fact : Placed → Type 0) (n : ℕ) (ps : List Placed) → Each fact ps → Each fact (take n ps)
each_taken fact zero ps h = tt
each_taken fact (suc n) [] h = tt
each_taken fact (suc n) (p ∷ ps) h = (h.0, each_taken fact n ps h.1)

each_moves : (fact : Placed → Type 0) (ps : List Placed) → Each fact ps → Each fact (moves_in ps)
each_moves fact [] h = tt
each_moves fact (p ∷ ps) h = times_over (moving_at p.entry) (each_moves fact ps h.1) where
  times_over : (ds : List Did) → Each fact (moves_in ps) → Each fact (map (λ _. p) ds ++ moves_in ps)
  times_over [] rest = rest
  times_over (d ∷ ds) rest = (h.0, times_over ds rest)

pub none_moves_wrong : (report : ReportParts) (given : Given) (asked : ℕ → Asked) (counted : ℕ → ℕ → Bool) (content : ℕ → ℕ → List ℕ)
    (all : List Placed) (line : ℕ) → DoAsAsked asked counted all → AreFoundAsCounted content counted all → AreContents given content all
    → MovesFail report given asked all line → ⊥
none_moves_wrong report given asked counted content all line done found contents fail =
    fail.wrong (record {
      counted = counted fail.number;
      found = each_taken (λ (place : Placed). FindsWhatIsMade given all (counted fail.number) place.entry) (fail.at + 1)
          (moves_in (of_action fail.number all)) (each_moves (λ (place : Placed). FindsWhatIsMade given all (counted fail.number) place.entry)
          (of_action fail.number all) (finds given content counted all all fail.number contents found));
      alike = ap (take (fail.at + 1)) (sym (moves_as_asked asked counted all done fail.number fail.positive));
    })
