-- What the tests of all changes say of a report, by the third rule.
use Rattle.std.proofs.Common.{◌≡◌, refl, ℕ, ◌+◌, ◌<◌, ◌≤◌, cond, List, [], ◌∷◌, ◌++◌, length, map, take, sym, ◌∙◌, ap, subst, arith, Option, Some, None, inl, inr}
use Rattle.std.specs.Prelude.{slice_get, ◌↔◌, ◌⊎◌}
use Rattle.std.specs.BTreeMap.{BTreeMap, get}
use Rattle.std.proofs.lemmas.Bool.{cases_lt}
use Rattle.std.proofs.lemmas.List.{take_all}
use Rattle.std.proofs.lemmas.Option.{same_Some, slice_get_within}
use Rattle.pfs_event.specs.declared.entry.Entry.{Entry}
use Rattle.pfs_event.specs.declared.entry.Entry.TheVariants as says
use Rattle.pfs_journal.specs.declared.report.ReportParts.{ReportParts}
use Rattle.pfs_journal.specs.ReportLines.{report_lines}
use Rattle.pfs_model.proofs.ChainGrowth.{times_append}
use Rattle.pfs_model.specs.declared.changes.Change.{Change}
use Rattle.pfs_model.specs.Chains.{AreChained, Each, action_change, each_of, is_of, is_that, row_change, times}
use Rattle.pfs_model.specs.EntryPlaces.{Placed, up_to_phase}
use Rattle.pfs_check_faults.specs.EntryFaults.{ChainLaw, IsLinked, LinksAt}
use Rattle.pfs_check_faults.specs.Judgements.{IsFirstFault}
use Rattle.pfs_check_faults.specs.ReportCases.{AllHave, Case, Findings, Lacks, LacksOn, StandsOn, entries_of, entry_lines, is_entry_line}
use Rattle.pfs_check_faults.specs.declared.rules.Rule.TheVariants as rules
use Rattle.pfs_check_walk.proofs.EntryWalks.{first_lacks as lacks_at, none_before}
use Rattle.pfs_check_walk.specs.Walks.{LacksFirst}
use Rattle.pfs_check_versions.specs.declared.changes.Made.{Made}
use Rattle.pfs_check_versions.specs.declared.changes.PlacedChange.{PlacedChange}
use Rattle.pfs_check_versions.specs.declared.links.Links.{Links}
use Rattle.pfs_check_versions.specs.LinkTests.{AreKept, AreLinked, IsKept, IsLinkedIn, LinkedAt, change_cmp, is_same, is_up_to, made_at}
use Rattle.pfs_check_versions.specs.PlacedChanges.{AreInOrder, changes_of, placed_at}
use Rattle.pfs_check_versions.specs.PrintedEntries.{Printed, printed_in}
use Rattle.pfs_check_versions.specs.VersionRules.{IsFound, IsIndex}
use Rattle.pfs_check_versions.proofs.ChangeOrder.{order_low, phases_order}
use Rattle.pfs_check_line_numbers.proofs.EntryNumbers.{lines_rise}
use Rattle.pfs_check_versions.proofs.LineNumbers.{line_of, printed_lines}
use Rattle.pfs_check_versions.proofs.PlacedFacts.{FoundAt, IsShort, LacksThere, all_have, counted_alike, first_lacks, found_at, times_alike}
use Rattle.pfs_check_versions.proofs.PrintedPlaces.{ArePrinted, IsPrinted}

pub row_short : IsShort row_change
row_short (says.Add row version) = omega arith
row_short (says.Ring row version) = omega arith
row_short (says.Long row version ticket) = omega arith
row_short (says.Take row version) = omega arith
row_short (says.Give row version from) = omega arith
row_short (says.Tag row version) = omega arith
row_short _ = omega arith

pub action_short : IsShort action_change
action_short (says.Connect action thread account user host) = omega arith
action_short (says.Act action) = omega arith
action_short _ = omega arith

-- what is gathered of a report stands in the order of its phases
pub in_order : (given : Entry → List Change) (cs : List PlacedChange) (report : ReportParts) → cs ≡ changes_of given (printed_in report) → AreInOrder 0 cs
in_order given cs report e =
    subst (AreInOrder 0) (sym e) (order_low 0 1 (changes_of given (printed_in report)) (omega arith) (phases_order given 2 1 report.phases))

-- the first of a report's lines with this fault
pub record IsFirstOn (fails : ℕ → Type 0) (line : ℕ) : Type 0 where
  pub fails_there : fails line
  pub first : (other : ℕ) → other < line → fails other → ⊥

-- the line of the first entry that lacks a fact
pub first_line : (report : ReportParts) (rule : List Placed → Placed → Type 0) (all : List Placed) (line : ℕ)
    → LacksThere rule [] all (printed_in report) line → IsFirstOn (LacksOn report rule all) line
first_line report rule all line l = record {
  fails_there = (l.at, stands, lacks_at rule [] all l.at l.lacks);
  first = λ other less f. on other less f.0 f.1 f.2 (cases_lt f.0 l.at);
} where
  stands : StandsOn report l.at line
  stands = ap (λ z. slice_get z l.at) (printed_lines report) ∙ l.stands

  on : (other : ℕ) → other < line → (at : ℕ) → StandsOn report at other → Lacks rule [] all at → (at < l.at) ⊎ (l.at ≤ at) → ⊥
  on other less at s k (inl h) = none_before rule [] all l.at l.lacks at h k
  on other less at s k (inr h) =
      let rise : line ≤ other = lines_rise is_entry_line 1 (report_lines report) l.at at line other stands s h in omega (arith, less, rise)

-- entries, the last first, give these changes
pub record LinksLike (given : Entry → List Change) (earlier : List Placed) (before : List PlacedChange) : Type 0 where
  pub times_is : (change : Change) → times (is_that change) (each_of given earlier) ≡ times (is_same change) before

pub links_none : (given : Entry → List Change) (earlier : List Placed) (before : List PlacedChange) (p : Placed) (t : Printed)
    → LinksLike given earlier before → IsPrinted p t → given t.entry ≡ [] → LinksLike given (p ∷ earlier) before
links_none given earlier before p t like is e = record {
  times_is = λ change. ap (λ z. times (is_that change) (z ++ each_of given earlier)) (ap given is.entry ∙ e) ∙ like.times_is change;
}

pub links_some : (given : Entry → List Change) (earlier : List Placed) (before : List PlacedChange) (p : Placed) (t : Printed) (c : Change)
    → LinksLike given earlier before → IsPrinted p t → given t.entry ≡ c ∷ [] → LinksLike given (p ∷ earlier) (before ++ placed_at t c ∷ [])
links_some given earlier before p t c like is e = record { times_is = at } where
  at : (change : Change) → times (is_that change) (given p.entry ++ each_of given earlier) ≡ times (is_same change) (before ++ placed_at t c ∷ [])
  at change =
      let front : times (is_that change) (given p.entry ++ each_of given earlier) ≡ cond (is_that change c) 1 0 + times (is_that change) (each_of given earlier) =
      ap (λ z. times (is_that change) (z ++ each_of given earlier)) (ap given is.entry ∙ e) in
      let back : times (is_same change) (before ++ placed_at t c ∷ []) ≡ times (is_same change) before + (cond (is_that change c) 1 0 + 0) =
      times_append (is_same change) before (placed_at t c ∷ []) in
      omega (arith, front, back, like.times_is change)

pub links_rule : (given : Entry → List Change) (all : List Placed) (whole : List PlacedChange)
    → ((row phase : ℕ) → times (is_of row) (each_of given (up_to_phase phase all)) ≡ times (is_up_to row phase) whole)
    → (earlier : List Placed) (before : List PlacedChange) (p : Placed) (t : Printed) (c : Change) → LinksLike given earlier before → IsPrinted p t
    → given t.entry ≡ c ∷ [] → IsLinkedIn whole before (placed_at t c) ↔ LinksAt given all earlier p
links_rule given all whole counts earlier before p t c like is e = (to, from) where
  gives : given p.entry ≡ c ∷ []
  gives = ap given is.entry ∙ e

  many : times (is_of c.row) (each_of given (up_to_phase p.phase all)) ≡ times (is_up_to c.row t.phase) whole
  many = counts c.row p.phase ∙ ap (λ z. times (is_up_to c.row z) whole) is.phase

  to : IsLinkedIn whole before (placed_at t c) → LinksAt given all earlier p
  to l = subst (Each (IsLinked given all earlier p)) (sym gives) (
    record { above = l.above; had = omega (arith, l.had, many); first = like.times_is c ∙ l.first },
    tt,
  )

  from : LinksAt given all earlier p → IsLinkedIn whole before (placed_at t c)
  from l =
      let one : IsLinked given all earlier p c = (subst (Each (IsLinked given all earlier p)) gives l).0 in
      record { above = one.above; had = omega (arith, one.had, many); first = sym (like.times_is c) ∙ one.first }

pub no_link : (given : Entry → List Change) (all earlier : List Placed) (p : Placed) (t : Printed) → IsPrinted p t → given t.entry ≡ [] → LinksAt given all earlier p
no_link given all earlier p t is e = subst (Each (IsLinked given all earlier p)) (sym (ap given is.entry ∙ e)) tt

pub nothing_alike : (given : Entry → List Change) → LinksLike given [] []
nothing_alike given = record { times_is = λ change. refl }

links_of_none : (given : Entry → List Change) (all : List Placed) → (earlier : List Placed) (before : List PlacedChange) (p : Placed) (t : Printed)
    → LinksLike given earlier before → IsPrinted p t → given t.entry ≡ [] → LinksAt given all earlier p × LinksLike given (p ∷ earlier) before
links_of_none given all earlier before p t like is e = (no_link given all earlier p t is e, links_none given earlier before p t like is e)

links_of_some : (given : Entry → List Change) (all : List Placed) (whole : List PlacedChange)
    → ((row phase : ℕ) → times (is_of row) (each_of given (up_to_phase phase all)) ≡ times (is_up_to row phase) whole)
    → (earlier : List Placed) (before : List PlacedChange) (p : Placed) (t : Printed) (c : Change) → LinksLike given earlier before → IsPrinted p t
    → given t.entry ≡ c ∷ [] → (IsLinkedIn whole before (placed_at t c) ↔ LinksAt given all earlier p) × LinksLike given (p ∷ earlier) (before ++ placed_at t c ∷ [])
links_of_some given all whole counts earlier before p t c like is e =
    (links_rule given all whole counts earlier before p t c like is e, links_some given earlier before p t c like is e)

-- Where all changes are linked, the chain law applies.
pub all_link : (given : Entry → List Change) → IsShort given → (all : List Placed) (ts : List Printed) → ArePrinted all ts
    → ((place : ℕ) → place < length (changes_of given ts) → LinkedAt (changes_of given ts) place) → AllHave (LinksAt given all) [] all
all_link given short all ts are linked =
    all_have given short (LinksAt given all) (IsLinkedIn (changes_of given ts)) (LinksLike given) (links_of_none given all)
    (links_of_some given all (changes_of given ts) (counted_alike given all ts are)) (changes_of given ts)
    (λ k one g. linked k (slice_get_within (changes_of given ts) k one g) one g) all ts [] [] are (nothing_alike given) refl

pub first_unlinked : (given : Entry → List Change) → IsShort given → (all : List Placed) (ts : List Printed) → ArePrinted all ts
    → (place : ℕ) (one : PlacedChange) → slice_get (changes_of given ts) place ≡ Some one
    → ((other : ℕ) → other < place → LinkedAt (changes_of given ts) other) → (LinkedAt (changes_of given ts) place → ⊥)
    → LacksThere (LinksAt given all) [] all ts one.line
first_unlinked given short all ts are place one g linked broken =
    first_lacks given short (LinksAt given all) (IsLinkedIn (changes_of given ts)) (LinksLike given) (links_of_none given all)
    (links_of_some given all (changes_of given ts) (counted_alike given all ts are)) (changes_of given ts) place one g
    (λ k other l h. linked k l other h) (λ f. broken (λ other h. one_there other h f)) all ts [] [] are (nothing_alike given) refl (omega arith) where
      one_there : (other : PlacedChange) → slice_get (changes_of given ts) place ≡ Some other
          → IsLinkedIn (changes_of given ts) (take place (changes_of given ts)) one
          → IsLinkedIn (changes_of given ts) (take place (changes_of given ts)) other
      one_there other h f = subst (IsLinkedIn (changes_of given ts) (take place (changes_of given ts))) (same_Some one other (sym g ∙ h)) f

-- where changes stand
pub all_found : (given : Entry → List Change) → IsShort given → (report : ReportParts) (all : List Placed) → ArePrinted all (printed_in report)
    → (made : BTreeMap Change Made) → AreKept made (changes_of given (printed_in report)) → IsIndex given report all made
all_found given short report all are made kept = record { each = λ change. on change (get change_cmp made change) (kept.each change) } where
  on : (change : Change) (o : Option Made) → IsKept (changes_of given (printed_in report)) change o → IsFound given report all change o
  on change None k = times_alike given all (printed_in report) are change ∙ k
  on change (Some m) k =
      let found : FoundAt given all (printed_in report) (made_at m change) = found_at given short all (printed_in report) are (made_at m change) k in
      record {
        at = found.at;
        place = found.place;
        there = found.there;
        gives = found.gives;
        line = ap (λ z. slice_get z found.at) (printed_lines report) ∙ found.line;
        phase = found.phase;
        session = found.session;
      }

-- The third rule is kept, and the changes stand where they are kept.
pub chain_kept : ChainLaw → (case : Case) (found : Findings) (cs : List PlacedChange) (links : Links)
    → cs ≡ changes_of row_change (printed_in case.report) → ArePrinted (entries_of found) (printed_in case.report) → AreLinked cs links
    → length cs ≤ links.place
    → AreChained row_change (entries_of found) × IsIndex row_change case.report (entries_of found) links.made
chain_kept law case found cs links is are linked h =
    let whole : List PlacedChange = changes_of row_change (printed_in case.report) in
    let all : AreLinked whole links = subst (λ z. AreLinked z links) is linked in
    let reach : length whole ≤ links.place = subst (λ z. length z ≤ links.place) is h in (
      (law row_change row_short (entries_of found)).1
          (all_link row_change row_short (entries_of found) (printed_in case.report) are (λ place m. all.linked place (omega (arith, m, reach)))),
      all_found row_change row_short case.report (entries_of found) are links.made
          (subst (AreKept links.made) (take_all links.place whole reach) all.kept),
    )

-- Or this is the first line at which it fails.
pub chain_wrong : (case : Case) (found : Findings) (cs : List PlacedChange) (links : Links) (one : PlacedChange)
    → cs ≡ changes_of row_change (printed_in case.report) → ArePrinted (entries_of found) (printed_in case.report) → AreLinked cs links
    → links.place < length cs → slice_get cs links.place ≡ Some one → IsFirstFault rules.Chain case found one.line
chain_wrong case found cs links one is are linked h g =
    let whole : List PlacedChange = changes_of row_change (printed_in case.report) in
    let all : AreLinked whole links = subst (λ z. AreLinked z links) is linked in
    let within : links.place < length whole = subst (λ z. links.place < length z) is h in
    let there : slice_get whole links.place ≡ Some one = sym (ap (λ z. slice_get z links.place) is) ∙ g in
    let first : IsFirstOn (LacksOn case.report (LinksAt row_change (entries_of found)) (entries_of found)) one.line =
    first_line case.report (LinksAt row_change (entries_of found)) (entries_of found) one.line
    (first_unlinked row_change row_short (entries_of found) (printed_in case.report) are links.place one there all.linked (all.broken within)) in
    record { fails = first.fails_there; first = first.first }
