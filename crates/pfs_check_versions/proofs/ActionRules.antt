-- What the tests of all actions say of a report, by the second rule.
use Rattle.std.proofs.Common.{◌≡◌, refl, ℕ, zero, suc, ◌+◌, ◌-◌, ◌<◌, ◌≤◌, ◌==◌, min, Bool, true, false, cond, List, [], ◌∷◌, ◌++◌, length, map, take, sym, ◌∙◌, ap, subst, arith, Option, Some, inl, inr}
use Rattle.std.specs.Prelude.{slice_get, ◌↔◌, ◌⊎◌}
use Rattle.std.proofs.lemmas.Bool.{cases_lt, eqb-false, eqb-true}
use Rattle.std.proofs.lemmas.List.{length-append, length-map, map-append, take_all}
use Rattle.std.proofs.lemmas.Option.{same_Some, slice_get_within}
use Rattle.pfs_board.specs.declared.view.Label.{Label}
use Rattle.pfs_event.specs.declared.entry.Entry.{Entry}
use Rattle.pfs_event.specs.declared.entry.Entry.TheVariants as says
use Rattle.pfs_journal.specs.declared.report.ReportParts.{ReportParts}
use Rattle.pfs_lemmas.proofs.Numbers.{eq_self}
use Rattle.pfs_model.proofs.EachLists.{each_behind, each_front, each_join}
use Rattle.pfs_model.specs.declared.changes.Change.{Change}
use Rattle.pfs_model.specs.Actions.{numbers_by}
use Rattle.pfs_model.specs.Chains.{Each, action_change, change_at, each_of, times}
use Rattle.pfs_model.specs.EntryPlaces.{Placed, up_to_phase}
use Rattle.pfs_runs.specs.Labels.{AreLabels}
use Rattle.pfs_check_faults.specs.EntryFaults.{ActsAt, ChainLaw, LinksAt, RisesAt, RisingLaw}
use Rattle.pfs_check_faults.specs.Judgements.{IsFirstFault, KeepsActions}
use Rattle.pfs_check_faults.specs.ReportCases.{AllHave, Case, Findings, LacksOn, entries_of}
use Rattle.pfs_check_faults.specs.declared.rules.Rule.TheVariants as rules
use Rattle.pfs_check_versions.specs.declared.changes.PlacedChange.{PlacedChange}
use Rattle.pfs_check_versions.specs.declared.links.Links.{Links}
use Rattle.pfs_check_versions.specs.ActionLabels.{AreLabelled, IsAction, own_changes}
use Rattle.pfs_check_versions.specs.LinkTests.{AreKept, AreLinked, IsLinkedIn, LinkedAt}
use Rattle.pfs_check_versions.specs.PlacedChanges.{changes_at, changes_of, placed_at}
use Rattle.pfs_check_versions.specs.PrintedEntries.{Printed, printed_in}
use Rattle.pfs_check_versions.specs.RisingTests.{AreRisen, RisesAtPlace, RisesIn}
use Rattle.pfs_check_versions.specs.VersionRules.{IsIndex, with_labels}
use Rattle.pfs_check_versions.proofs.ChainRules.{IsFirstOn, LinksLike, action_short, all_found, all_link, first_line, links_none, links_rule, links_some, no_link, nothing_alike}
use Rattle.pfs_check_versions.proofs.LabelSteps.{own_append}
use Rattle.pfs_check_versions.proofs.PlacedFacts.{LacksThere, all_have, counted_alike, first_lacks}
use Rattle.pfs_check_versions.proofs.PrintedPlaces.{ArePrinted, IsPrinted}

-- an action is linked, and rises
record IsActed (whole before : List PlacedChange) (one : PlacedChange) : Type 0 where
  pub linked : IsLinkedIn whole before one
  pub rises : RisesIn before one

-- the numbers of a session that are all below one
abbrev AreBelow : ℕ → List Change → Type 0
AreBelow number numbers = Each (λ (before : Change). before.version < number) numbers

abbrev AreOwnBelow : ℕ → ℕ → List PlacedChange → Type 0
AreOwnBelow session number before = Each (λ (other : PlacedChange). other.session ≡ session → other.change.version < number) before

record ActsLike (earlier : List Placed) (before : List PlacedChange) : Type 0 where
  pub links : LinksLike action_change earlier before
  pub own : (session number : ℕ) → AreBelow number (numbers_by session earlier) ↔ AreOwnBelow session number before

acts_nothing : ActsLike [] []
acts_nothing = record { links = nothing_alike action_change; own = λ session number. ((λ h. tt), (λ h. tt)) }

acts_none : (all earlier : List Placed) (before : List PlacedChange) (p : Placed) (t : Printed) → ActsLike earlier before → IsPrinted p t
    → action_change t.entry ≡ [] → ActsAt all earlier p × ActsLike (p ∷ earlier) before
acts_none all earlier before p t like is e = (
  record {
    numbered = no_link action_change all earlier p t is e;
    rises = subst (Each (λ (number : Change). AreBelow number.version (numbers_by p.session earlier))) (sym gives) tt;
  },
  record { links = links_none action_change earlier before p t like.links is e; own = own },
) where
  gives : action_change p.entry ≡ []
  gives = ap action_change is.entry ∙ e

  none : (b : Bool) (xs : List Change) → xs ≡ [] → cond b xs [] ≡ []
  none true xs q = q
  none false xs q = refl

  own : (session number : ℕ) → AreBelow number (cond (p.session == session) (action_change p.entry) [] ++ numbers_by session earlier) ↔ AreOwnBelow session number before
  own session number =
      subst (λ z. AreBelow number (z ++ numbers_by session earlier) ↔ AreOwnBelow session number before)
      (sym (none (p.session == session) (action_change p.entry) gives)) (like.own session number)

acts_some : (all earlier : List Placed) (whole before : List PlacedChange)
    → ((earlier : List Placed) (before : List PlacedChange) (p : Placed) (t : Printed) (c : Change) → LinksLike action_change earlier before → IsPrinted p t
    → action_change t.entry ≡ c ∷ [] → IsLinkedIn whole before (placed_at t c) ↔ LinksAt action_change all earlier p)
    → (p : Placed) (t : Printed) (c : Change) → ActsLike earlier before → IsPrinted p t → action_change t.entry ≡ c ∷ []
    → (IsActed whole before (placed_at t c) ↔ ActsAt all earlier p) × ActsLike (p ∷ earlier) (before ++ placed_at t c ∷ [])
acts_some all earlier whole before linking p t c like is e =
    ((to, from), record { links = links_some action_change earlier before p t c like.links is e; own = own }) where
      gives : action_change p.entry ≡ c ∷ []
      gives = ap action_change is.entry ∙ e

      to : IsActed whole before (placed_at t c) → ActsAt all earlier p
      to acted = record {
        numbered = (linking earlier before p t c like.links is e).0 acted.linked;
        rises = subst (Each (λ (number : Change). AreBelow number.version (numbers_by p.session earlier))) (sym gives)
            ((like.own p.session c.version).1 (subst (λ z. AreOwnBelow z c.version before) (sym is.session) acted.rises), tt);
      }

      from : ActsAt all earlier p → IsActed whole before (placed_at t c)
      from acts = record {
        linked = (linking earlier before p t c like.links is e).1 acts.numbered;
        rises = subst (λ z. AreOwnBelow z c.version before) is.session
            ((like.own p.session c.version).0 (subst (Each (λ (number : Change). AreBelow number.version (numbers_by p.session earlier))) gives acts.rises).0);
      }

      own_at : (session number : ℕ) (b : Bool) → (p.session == session) ≡ b
          → AreBelow number (cond b (c ∷ []) [] ++ numbers_by session earlier) ↔ AreOwnBelow session number (before ++ placed_at t c ∷ [])
      own_at session number true q = (
        (λ h. each_join (λ (other : PlacedChange). other.session ≡ session → other.change.version < number) before (placed_at t c ∷ [])
            ((like.own session number).0 h.1) ((λ s. h.0), tt)),
        (λ h. (
          (each_behind (λ (other : PlacedChange). other.session ≡ session → other.change.version < number) before (placed_at t c ∷ []) h).0
              (sym is.session ∙ eqb-true p.session session q),
          (like.own session number).1 (each_front (λ (other : PlacedChange). other.session ≡ session → other.change.version < number) before (placed_at t c ∷ []) h),
        )),
      )
      own_at session number false q = (
        (λ h. each_join (λ (other : PlacedChange). other.session ≡ session → other.change.version < number) before (placed_at t c ∷ [])
            ((like.own session number).0 h) ((λ s. absurd (eqb-false p.session session q (is.session ∙ s))), tt)),
        (λ h. (like.own session number).1 (each_front (λ (other : PlacedChange). other.session ≡ session → other.change.version < number) before (placed_at t c ∷ []) h)),
      )

      own : (session number : ℕ) → AreBelow number (cond (p.session == session) (action_change p.entry) [] ++ numbers_by session earlier)
          ↔ AreOwnBelow session number (before ++ placed_at t c ∷ [])
      own session number =
          subst (λ z. AreBelow number (cond (p.session == session) z [] ++ numbers_by session earlier) ↔ AreOwnBelow session number (before ++ placed_at t c ∷ []))
          (sym gives) (own_at session number (p.session == session) refl)

all_act : (all : List Placed) (ts : List Printed) → ArePrinted all ts
    → ((k : ℕ) (one : PlacedChange) → slice_get (changes_of action_change ts) k ≡ Some one → IsActed (changes_of action_change ts) (take k (changes_of action_change ts)) one)
    → AllHave (ActsAt all) [] all
all_act all ts are acted =
    all_have action_change action_short (ActsAt all) (IsActed (changes_of action_change ts)) ActsLike (λ earlier before p t. acts_none all earlier before p t)
    (λ earlier before p t c. acts_some all earlier (changes_of action_change ts) before
    (links_rule action_change all (changes_of action_change ts) (counted_alike action_change all ts are)) p t c)
    (changes_of action_change ts) acted all ts [] [] are acts_nothing refl

first_unacted : (all : List Placed) (ts : List Printed) → ArePrinted all ts → (place : ℕ) (one : PlacedChange)
    → slice_get (changes_of action_change ts) place ≡ Some one
    → ((k : ℕ) (other : PlacedChange) → k < place → slice_get (changes_of action_change ts) k ≡ Some other
    → IsActed (changes_of action_change ts) (take k (changes_of action_change ts)) other)
    → (IsActed (changes_of action_change ts) (take place (changes_of action_change ts)) one → ⊥)
    → LacksThere (ActsAt all) [] all ts one.line
first_unacted all ts are place one g acted lacks =
    first_lacks action_change action_short (ActsAt all) (IsActed (changes_of action_change ts)) ActsLike (λ earlier before p t. acts_none all earlier before p t)
    (λ earlier before p t c. acts_some all earlier (changes_of action_change ts) before
    (links_rule action_change all (changes_of action_change ts) (counted_alike action_change all ts are)) p t c)
    (changes_of action_change ts) place one g acted lacks all ts [] [] are acts_nothing refl (omega arith)

have_rises : (all earlier ps : List Placed) → AllHave (ActsAt all) earlier ps → AllHave RisesAt earlier ps
have_rises all earlier [] h = tt
have_rises all earlier (p ∷ ps) h = (h.0.rises, have_rises all (p ∷ earlier) ps h.1)

have_links : (all earlier ps : List Placed) → AllHave (ActsAt all) earlier ps → AllHave (LinksAt action_change all) earlier ps
have_links all earlier [] h = tt
have_links all earlier (p ∷ ps) h = (h.0.numbered, have_links all (p ∷ earlier) ps h.1)

-- both tests, up to the first place where one fails
acted_before : (cs : List PlacedChange) (links : Links) (risen place : ℕ) → AreLinked cs links → AreRisen cs risen → place ≡ min links.place risen
    → (k : ℕ) (one : PlacedChange) → k < place → slice_get cs k ≡ Some one → IsActed cs (take k cs) one
acted_before cs links risen place linked rises e k one h g =
    record { linked = linked.linked k (omega (arith, h, e)) one g; rises = rises.risen k (omega (arith, h, e)) one g }

unacted : (cs : List PlacedChange) (links : Links) (risen place : ℕ) (one : PlacedChange) → AreLinked cs links → AreRisen cs risen
    → place ≡ min links.place risen → place < length cs → slice_get cs place ≡ Some one → IsActed cs (take place cs) one → ⊥
unacted cs links risen place one linked rises e h g acted = on (cases_lt links.place risen) where
  same : (other : PlacedChange) → slice_get cs place ≡ Some other → one ≡ other
  same other q = same_Some one other (sym g ∙ q)

  on : (links.place < risen) ⊎ (risen ≤ links.place) → ⊥
  on (inl l) =
      let here : place ≡ links.place = omega (arith, e, l) in
      linked.broken (omega (arith, h, here))
      (subst (LinkedAt cs) here (λ other q. subst (IsLinkedIn cs (take place cs)) (same other q) acted.linked))
  on (inr l) =
      let here : place ≡ risen = omega (arith, e, l) in
      rises.falls (omega (arith, h, here))
      (subst (RisesAtPlace cs) here (λ other q. subst (RisesIn (take place cs)) (same other q) acted.rises))

-- labels of all actions
length_alike : (ps : List Placed) (ts : List Printed) → ArePrinted ps ts → length (changes_of action_change ts) ≡ length (each_of action_change ps)
length_alike [] [] are = refl
length_alike [] (t ∷ ts) are = absurd are
length_alike (p ∷ ps) [] are = absurd are
length_alike (p ∷ ps) (t ∷ ts) are =
    let mine : length (changes_at action_change t) ≡ length (action_change t.entry) = length-map (action_change t.entry) (placed_at t) in
    let same : length (action_change p.entry) ≡ length (action_change t.entry) = ap (λ z. length (action_change z)) are.0.entry in
    omega (
      arith,
      mine,
      same,
      length_alike ps ts are.1,
      length-append (changes_at action_change t) (changes_of action_change ts),
      length-append (action_change p.entry) (each_of action_change ps),
    )

abbrev change_in : PlacedChange → Change
change_in one = one.change

own_placed : (session : ℕ) (t : Printed) (cs : List Change)
    → map change_in (own_changes session (map (placed_at t) cs)) ≡ cond (t.session == session) cs []
own_placed session t cs = at (t.session == session) refl cs where
  at : (b : Bool) → (t.session == session) ≡ b → (cs : List Change) → map change_in (own_changes session (map (placed_at t) cs)) ≡ cond b cs []
  at true e [] = refl
  at true e (c ∷ cs) =
      ap (λ z. map change_in (cond z (placed_at t c ∷ []) [] ++ own_changes session (map (placed_at t) cs))) e
      ∙ ap (λ z. c ∷ z) (at true e cs)
  at false e [] = refl
  at false e (c ∷ cs) =
      ap (λ z. map change_in (cond z (placed_at t c ∷ []) [] ++ own_changes session (map (placed_at t) cs))) e ∙ at false e cs

numbers_alike : (session : ℕ) (ps : List Placed) (ts : List Printed) → ArePrinted ps ts
    → numbers_by session ps ≡ map change_in (own_changes session (changes_of action_change ts))
numbers_alike session [] [] are = refl
numbers_alike session [] (t ∷ ts) are = absurd are
numbers_alike session (p ∷ ps) [] are = absurd are
numbers_alike session (p ∷ ps) (t ∷ ts) are =
    ap (λ z. cond (z == session) (action_change p.entry) [] ++ numbers_by session ps) are.0.session
    ∙ ap (λ z. cond (t.session == session) (action_change z) [] ++ numbers_by session ps) are.0.entry
    ∙ ap (λ z. z ++ numbers_by session ps) (sym (own_placed session t (action_change t.entry)))
    ∙ ap (λ z. map change_in (own_changes session (changes_at action_change t)) ++ z) (numbers_alike session ps ts are.1)
    ∙ sym (map-append change_in (own_changes session (changes_at action_change t)) (own_changes session (changes_of action_change ts)))
    ∙ sym (ap (map change_in) (own_append session (changes_at action_change t) (changes_of action_change ts)))

get_mapped : (xs : List PlacedChange) (i : ℕ) (number : Change) → slice_get (map change_in xs) i ≡ Some number
    → (one : PlacedChange) × (slice_get xs i ≡ Some one) × (one.change ≡ number)
get_mapped [] i number g = absurd (cc)
get_mapped (x ∷ xs) zero number g = (x, refl, same_Some x.change number g)
get_mapped (x ∷ xs) (suc i) number g = get_mapped xs i number g

are_labels : (all : List Placed) (ts : List Printed) (labels : List Label) → ArePrinted all ts → AreLabelled (changes_of action_change ts) labels
    → AreLabels labels all
are_labels all ts labels are labelled = record { few = labelled.few ∙ length_alike all ts are; each = each } where
  each : (session i : ℕ) (number : Change) → slice_get (numbers_by session all) i ≡ Some number
      → slice_get labels (number.version - 1) ≡ Some (record { session = session; line = i + 1 })
  each session i number g =
      let here : (one : PlacedChange) × (slice_get (own_changes session (changes_of action_change ts)) i ≡ Some one) × (one.change ≡ number) =
      get_mapped (own_changes session (changes_of action_change ts)) i number (sym (ap (λ z. slice_get z i) (numbers_alike session all ts are)) ∙ g) in
      ap (λ (z : Change). slice_get labels (z.version - 1)) (sym here.2) ∙ labelled.each session i here.0 here.1

-- actions are versions of row 0
row_none : (t : Printed) (e : Entry) → Each IsAction (map (placed_at t) (action_change e))
row_none t (says.Connect action thread account user host) = (refl, tt)
row_none t (says.Act action) = (refl, tt)
row_none t _ = tt

pub rows_none : (ts : List Printed) → Each IsAction (changes_of action_change ts)
rows_none [] = tt
rows_none (t ∷ ts) = each_join IsAction (changes_at action_change t) (changes_of action_change ts) (row_none t t.entry) (rows_none ts)

-- where both tests hold of all
pub acts_linked : (cs : List PlacedChange) (links : Links) (risen place : ℕ) → AreLinked cs links → place ≡ min links.place risen → length cs ≤ place
    → (other : ℕ) → other < length cs → LinkedAt cs other
acts_linked cs links risen place linked e h other m = linked.linked other (omega (arith, m, h, e))

-- The second rule is kept, with these labels, and the actions begin where they are kept.
pub acts_kept : ChainLaw → RisingLaw → (case : Case) (found : Findings) (cs : List PlacedChange) (links : Links) (risen place : ℕ) (labels : List Label)
    → cs ≡ changes_of action_change (printed_in case.report) → ArePrinted (entries_of found) (printed_in case.report) → AreLinked cs links
    → AreRisen cs risen → place ≡ min links.place risen → length cs ≤ place → AreLabelled cs labels
    → KeepsActions (with_labels found labels) × IsIndex action_change case.report (entries_of found) links.made
acts_kept chain rising case found cs links risen place labels is are linked rises e h labelled =
    let whole : List PlacedChange = changes_of action_change (printed_in case.report) in
    let all : AreLinked whole links = subst (λ z. AreLinked z links) is linked in
    let ups : AreRisen whole risen = subst (λ z. AreRisen z risen) is rises in
    let reach : length whole ≤ place = subst (λ z. length z ≤ place) is h in
    let act : AllHave (ActsAt (entries_of found)) [] (entries_of found) =
    all_act (entries_of found) (printed_in case.report) are
    (λ k one g. acted_before whole links risen place all ups e k one (omega (arith, slice_get_within whole k one g, reach)) g) in (
      record {
        numbers = (chain action_change action_short (entries_of found)).1 (have_links (entries_of found) [] (entries_of found) act);
        rising = (rising (entries_of found)).1 (have_rises (entries_of found) [] (entries_of found) act);
        labelled = are_labels (entries_of found) (printed_in case.report) labels are (subst (λ z. AreLabelled z labels) is labelled);
      },
      all_found action_change action_short case.report (entries_of found) are links.made
          (subst (AreKept links.made) (take_all links.place whole (omega (arith, reach, e))) all.kept),
    )

-- Or this is the first line at which it fails.
pub acts_wrong : (case : Case) (found : Findings) (cs : List PlacedChange) (links : Links) (risen place : ℕ) (one : PlacedChange)
    → cs ≡ changes_of action_change (printed_in case.report) → ArePrinted (entries_of found) (printed_in case.report) → AreLinked cs links
    → AreRisen cs risen → place ≡ min links.place risen → place < length cs → slice_get cs place ≡ Some one
    → IsFirstFault rules.Actions case found one.line
acts_wrong case found cs links risen place one is are linked rises e h g =
    let whole : List PlacedChange = changes_of action_change (printed_in case.report) in
    let all : AreLinked whole links = subst (λ z. AreLinked z links) is linked in
    let ups : AreRisen whole risen = subst (λ z. AreRisen z risen) is rises in
    let within : place < length whole = subst (λ z. place < length z) is h in
    let there : slice_get whole place ≡ Some one = sym (ap (λ z. slice_get z place) is) ∙ g in
    let first : IsFirstOn (LacksOn case.report (ActsAt (entries_of found)) (entries_of found)) one.line =
    first_line case.report (ActsAt (entries_of found)) (entries_of found) one.line
    (first_unacted (entries_of found) (printed_in case.report) are place one there (acted_before whole links risen place all ups e)
    (unacted whole links risen place one all ups e within there)) in
    record { fails = first.fails_there; first = first.first }
