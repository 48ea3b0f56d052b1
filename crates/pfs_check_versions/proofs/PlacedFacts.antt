-- A fact of the changes of a report, as a fact of its entries.
use Rattle.std.proofs.Common.{◌≡◌, refl, ℕ, zero, suc, ◌+◌, ◌<◌, ◌≤◌, ◌==◌, Bool, true, false, ◌&&◌, cond, nat_le, List, [], ◌∷◌, ◌++◌, length, map, take, sym, ◌∙◌, ap, subst, arith, append_assoc, Option, Some, inl, inr}
use Rattle.std.specs.Prelude.{slice_get, ◌↔◌, ◌⊎◌}
use Rattle.std.proofs.lemmas.Bool.{cases_lt}
use Rattle.std.proofs.lemmas.List.{append-nil, length-append, length_push, take_at}
use Rattle.std.proofs.lemmas.Option.{same_Some, slice_get_within}
use Rattle.pfs_event.specs.declared.entry.Entry.{Entry}
use Rattle.pfs_model.proofs.ChainGrowth.{times_append}
use Rattle.pfs_model.proofs.Members.{among_either}
use Rattle.pfs_model.specs.declared.changes.Change.{Change}
use Rattle.pfs_model.specs.Actions.{IsAmong}
use Rattle.pfs_model.specs.Chains.{each_of, is_of, is_that, times}
use Rattle.pfs_model.specs.EntryPlaces.{Placed, up_to_phase}
use Rattle.pfs_check_faults.specs.ReportCases.{AllHave}
use Rattle.pfs_check_walk.specs.Walks.{LacksFirst}
use Rattle.pfs_check_versions.specs.declared.changes.PlacedChange.{PlacedChange}
use Rattle.pfs_check_versions.specs.LinkTests.{is_same, is_up_to}
use Rattle.pfs_check_versions.specs.PlacedChanges.{changes_at, changes_of, placed_at}
use Rattle.pfs_check_versions.specs.PrintedEntries.{Printed}
use Rattle.pfs_check_versions.proofs.LineNumbers.{line_of}
use Rattle.pfs_check_versions.proofs.PrintedPlaces.{ArePrinted, IsPrinted}

-- an entry gives one change at most
abbrev pub IsShort : (Entry → List Change) → Type 0
IsShort given = (entry : Entry) → length (given entry) ≤ 1

bit_true : (x : Bool) (n : ℕ) → cond {A = ℕ} (x && true) 1 0 + n ≡ cond {A = ℕ} x 1 0 + n
bit_true true n = refl
bit_true false n = refl

bit_false : (x : Bool) (n : ℕ) → cond {A = ℕ} (x && false) 1 0 + n ≡ n
bit_false true n = omega arith
bit_false false n = omega arith

up_to_phase_of : (row phase : ℕ) (t : Printed) (cs : List Change) → nat_le t.phase phase ≡ true
    → times (is_up_to row phase) (map (placed_at t) cs) ≡ times (is_of row) cs
up_to_phase_of row phase t [] e = refl
up_to_phase_of row phase t (c ∷ cs) e =
    ap (λ z. cond {A = ℕ} ((c.row == row) && z) 1 0 + times (is_up_to row phase) (map (placed_at t) cs)) e
    ∙ bit_true (c.row == row) (times (is_up_to row phase) (map (placed_at t) cs))
    ∙ ap (λ z. cond {A = ℕ} (c.row == row) 1 0 + z) (up_to_phase_of row phase t cs e)

none_up_to : (row phase : ℕ) (t : Printed) (cs : List Change) → nat_le t.phase phase ≡ false
    → times (is_up_to row phase) (map (placed_at t) cs) ≡ 0
none_up_to row phase t [] e = refl
none_up_to row phase t (c ∷ cs) e =
    ap (λ z. cond {A = ℕ} ((c.row == row) && z) 1 0 + times (is_up_to row phase) (map (placed_at t) cs)) e
    ∙ bit_false (c.row == row) (times (is_up_to row phase) (map (placed_at t) cs))
    ∙ none_up_to row phase t cs e

-- changes of a row up to a phase are counted alike
pub counted_alike : (given : Entry → List Change) (ps : List Placed) (ts : List Printed) → ArePrinted ps ts → (row phase : ℕ)
    → times (is_of row) (each_of given (up_to_phase phase ps)) ≡ times (is_up_to row phase) (changes_of given ts)
counted_alike given [] [] are row phase = refl
counted_alike given [] (t ∷ ts) are row phase = absurd are
counted_alike given (p ∷ ps) [] are row phase = absurd are
counted_alike given (p ∷ ps) (t ∷ ts) are row phase =
    at (nat_le p.phase phase) (ap (λ z. nat_le z phase) are.0.phase) (counted_alike given ps ts are.1 row phase)
    ∙ sym (times_append (is_up_to row phase) (changes_at given t) (changes_of given ts)) where
      at : (b : Bool) → b ≡ nat_le t.phase phase
          → times (is_of row) (each_of given (up_to_phase phase ps)) ≡ times (is_up_to row phase) (changes_of given ts)
          → times (is_of row) (each_of given (cond b (p ∷ []) [] ++ up_to_phase phase ps))
          ≡ times (is_up_to row phase) (changes_at given t) + times (is_up_to row phase) (changes_of given ts)
      at true e more =
          times_append (is_of row) (given p.entry) (each_of given (up_to_phase phase ps))
          ∙ ap (λ z. times (is_of row) (given z) + times (is_of row) (each_of given (up_to_phase phase ps))) are.0.entry
          ∙ ap (λ z. z + times (is_of row) (each_of given (up_to_phase phase ps))) (sym (up_to_phase_of row phase t (given t.entry) (sym e)))
          ∙ ap (λ z. times (is_up_to row phase) (changes_at given t) + z) more
      at false e more =
          let none : times (is_up_to row phase) (changes_at given t) ≡ 0 = none_up_to row phase t (given t.entry) (sym e) in
          omega (arith, none, more)

same_of : (change : Change) (t : Printed) (cs : List Change) → times (is_same change) (map (placed_at t) cs) ≡ times (is_that change) cs
same_of change t [] = refl
same_of change t (c ∷ cs) = ap (λ z. cond {A = ℕ} (is_that change c) 1 0 + z) (same_of change t cs)

-- and how often one stands
pub times_alike : (given : Entry → List Change) (ps : List Placed) (ts : List Printed) → ArePrinted ps ts → (change : Change)
    → times (is_that change) (each_of given ps) ≡ times (is_same change) (changes_of given ts)
times_alike given [] [] are change = refl
times_alike given [] (t ∷ ts) are change = absurd are
times_alike given (p ∷ ps) [] are change = absurd are
times_alike given (p ∷ ps) (t ∷ ts) are change =
    times_append (is_that change) (given p.entry) (each_of given ps)
    ∙ ap (λ z. times (is_that change) (given z) + times (is_that change) (each_of given ps)) are.0.entry
    ∙ ap (λ z. z + times (is_that change) (each_of given ps)) (sym (same_of change t (given t.entry)))
    ∙ ap (λ z. times (is_same change) (changes_at given t) + z) (times_alike given ps ts are.1 change)
    ∙ sym (times_append (is_same change) (changes_at given t) (changes_of given ts))

get_at : {A : Type 0} (xs : List A) (x : A) (ys : List A) → slice_get (xs ++ x ∷ ys) (length xs) ≡ Some x
get_at [] x ys = refl
get_at (y ∷ xs) x ys = get_at xs x ys

-- What the changes have is had by the entries, one by one: `Like` says of entries, the last first, that these changes are
-- what they give.
pub all_have : (given : Entry → List Change) → IsShort given → (rule : List Placed → Placed → Type 0) (Fact : List PlacedChange → PlacedChange → Type 0)
    (Like : List Placed → List PlacedChange → Type 0)
    → ((earlier : List Placed) (before : List PlacedChange) (p : Placed) (t : Printed) → Like earlier before → IsPrinted p t → given t.entry ≡ []
    → rule earlier p × Like (p ∷ earlier) before)
    → ((earlier : List Placed) (before : List PlacedChange) (p : Placed) (t : Printed) (c : Change) → Like earlier before → IsPrinted p t
    → given t.entry ≡ c ∷ [] → (Fact before (placed_at t c) ↔ rule earlier p) × Like (p ∷ earlier) (before ++ placed_at t c ∷ []))
    → (whole : List PlacedChange) → ((k : ℕ) (one : PlacedChange) → slice_get whole k ≡ Some one → Fact (take k whole) one)
    → (ps : List Placed) (ts : List Printed) (earlier : List Placed) (before : List PlacedChange) → ArePrinted ps ts → Like earlier before
    → whole ≡ before ++ changes_of given ts → AllHave rule earlier ps
all_have given short rule Fact Like none some whole facts [] [] earlier before are like same = tt
all_have given short rule Fact Like none some whole facts [] (t ∷ ts) earlier before are like same = absurd are
all_have given short rule Fact Like none some whole facts (p ∷ ps) [] earlier before are like same = absurd are
all_have given short rule Fact Like none some whole facts (p ∷ ps) (t ∷ ts) earlier before are like same =
    at (given t.entry) refl (short t.entry)
    (λ next l s. all_have given short rule Fact Like none some whole facts ps ts (p ∷ earlier) next are.1 l s) where
      at : (cs : List Change) → given t.entry ≡ cs → length cs ≤ 1
          → ((next : List PlacedChange) → Like (p ∷ earlier) next → whole ≡ next ++ changes_of given ts → AllHave rule (p ∷ earlier) ps)
          → AllHave rule earlier (p ∷ ps)
      at [] e s go =
          let here : rule earlier p × Like (p ∷ earlier) before = none earlier before p t like are.0 e in
          (here.0, go before here.1 (same ∙ ap (λ z. before ++ (map (placed_at t) z ++ changes_of given ts)) e))
      at (c ∷ []) e s go =
          let here : (Fact before (placed_at t c) ↔ rule earlier p) × Like (p ∷ earlier) (before ++ placed_at t c ∷ []) = some earlier before p t c like are.0 e in
          let is : whole ≡ before ++ placed_at t c ∷ changes_of given ts = same ∙ ap (λ z. before ++ (map (placed_at t) z ++ changes_of given ts)) e in
          let front : take (length before) whole ≡ before =
          ap (take (length before)) is ∙ take_at before (placed_at t c ∷ changes_of given ts) (length before) refl in
          let found : slice_get whole (length before) ≡ Some (placed_at t c) =
          ap (λ z. slice_get z (length before)) is ∙ get_at before (placed_at t c) (changes_of given ts) in (
            here.0.0 (subst (λ z. Fact z (placed_at t c)) front (facts (length before) (placed_at t c) found)),
            go (before ++ placed_at t c ∷ []) here.1 (is ∙ sym (append_assoc before (placed_at t c ∷ []) (changes_of given ts))),
          )
      at (c ∷ (d ∷ cs)) e s go = absurd (omega arith)

-- the entry of this line is the first that lacks it
pub record LacksThere (rule : List Placed → Placed → Type 0) (earlier ps : List Placed) (ts : List Printed) (line : ℕ) : Type 0 where
  pub at : ℕ
  pub stands : slice_get (map line_of ts) at ≡ Some line
  pub lacks : LacksFirst rule earlier ps at

-- and the first change that lacks it is that of the first entry
pub first_lacks : (given : Entry → List Change) → IsShort given → (rule : List Placed → Placed → Type 0)
    (Fact : List PlacedChange → PlacedChange → Type 0) (Like : List Placed → List PlacedChange → Type 0)
    → ((earlier : List Placed) (before : List PlacedChange) (p : Placed) (t : Printed) → Like earlier before → IsPrinted p t → given t.entry ≡ []
    → rule earlier p × Like (p ∷ earlier) before)
    → ((earlier : List Placed) (before : List PlacedChange) (p : Placed) (t : Printed) (c : Change) → Like earlier before → IsPrinted p t
    → given t.entry ≡ c ∷ [] → (Fact before (placed_at t c) ↔ rule earlier p) × Like (p ∷ earlier) (before ++ placed_at t c ∷ []))
    → (whole : List PlacedChange) (place : ℕ) (one : PlacedChange) → slice_get whole place ≡ Some one
    → ((k : ℕ) (other : PlacedChange) → k < place → slice_get whole k ≡ Some other → Fact (take k whole) other)
    → (Fact (take place whole) one → ⊥)
    → (ps : List Placed) (ts : List Printed) (earlier : List Placed) (before : List PlacedChange) → ArePrinted ps ts → Like earlier before
    → whole ≡ before ++ changes_of given ts → length before ≤ place → LacksThere rule earlier ps ts one.line
first_lacks given short rule Fact Like none some whole place one g facts lacks [] [] earlier before are like same l =
    absurd (omega (arith, slice_get_within whole place one g, ap length same, length-append before [], l))
first_lacks given short rule Fact Like none some whole place one g facts lacks [] (t ∷ ts) earlier before are like same l = absurd are
first_lacks given short rule Fact Like none some whole place one g facts lacks (p ∷ ps) [] earlier before are like same l = absurd are
first_lacks given short rule Fact Like none some whole place one g facts lacks (p ∷ ps) (t ∷ ts) earlier before are like same l =
    at (given t.entry) refl (short t.entry)
    (λ next k s m. first_lacks given short rule Fact Like none some whole place one g facts lacks ps ts (p ∷ earlier) next are.1 k s m) where
      at : (cs : List Change) → given t.entry ≡ cs → length cs ≤ 1
          → ((next : List PlacedChange) → Like (p ∷ earlier) next → whole ≡ next ++ changes_of given ts → length next ≤ place
          → LacksThere rule (p ∷ earlier) ps ts one.line)
          → LacksThere rule earlier (p ∷ ps) (t ∷ ts) one.line
      at [] e s go =
          let here : rule earlier p × Like (p ∷ earlier) before = none earlier before p t like are.0 e in
          let more : LacksThere rule (p ∷ earlier) ps ts one.line =
          go before here.1 (same ∙ ap (λ z. before ++ (map (placed_at t) z ++ changes_of given ts)) e) l in
          record { at = suc more.at; stands = more.stands; lacks = (here.0, more.lacks) }
      at (c ∷ []) e s go =
          let here : (Fact before (placed_at t c) ↔ rule earlier p) × Like (p ∷ earlier) (before ++ placed_at t c ∷ []) = some earlier before p t c like are.0 e in
          let is : whole ≡ before ++ placed_at t c ∷ changes_of given ts = same ∙ ap (λ z. before ++ (map (placed_at t) z ++ changes_of given ts)) e in
          let front : take (length before) whole ≡ before =
          ap (take (length before)) is ∙ take_at before (placed_at t c ∷ changes_of given ts) (length before) refl in
          let found : slice_get whole (length before) ≡ Some (placed_at t c) =
          ap (λ z. slice_get z (length before)) is ∙ get_at before (placed_at t c) (changes_of given ts) in
          on here is front found (cases_lt (length before) place) where
            on : (Fact before (placed_at t c) ↔ rule earlier p) × Like (p ∷ earlier) (before ++ placed_at t c ∷ [])
                → whole ≡ before ++ placed_at t c ∷ changes_of given ts → take (length before) whole ≡ before
                → slice_get whole (length before) ≡ Some (placed_at t c) → (length before < place) ⊎ (place ≤ length before)
                → LacksThere rule earlier (p ∷ ps) (t ∷ ts) one.line
            on here is front found (inl h) =
                let more : LacksThere rule (p ∷ earlier) ps ts one.line =
                go (before ++ placed_at t c ∷ []) here.1 (is ∙ sym (append_assoc before (placed_at t c ∷ []) (changes_of given ts)))
                (omega (arith, h, length_push before (placed_at t c))) in
                record {
                  at = suc more.at;
                  stands = more.stands;
                  lacks = (here.0.0 (subst (λ z. Fact z (placed_at t c)) front (facts (length before) (placed_at t c) h found)), more.lacks);
                }
            on here is front found (inr h) =
                let there : place ≡ length before = omega (arith, h, l) in
                let same_one : placed_at t c ≡ one = same_Some (placed_at t c) one (sym found ∙ ap (slice_get whole) (sym there) ∙ g) in
                record {
                  at = 0;
                  stands = ap (λ (z : PlacedChange). Some z.line) same_one;
                  lacks = λ r. lacks (subst (λ z. Fact (take z whole) one) (sym there) (subst (λ z. Fact z one) (sym front) (subst (Fact before) same_one (here.0.1 r))));
                }
      at (c ∷ (d ∷ cs)) e s go = absurd (omega arith)

-- where a change stands among the entries
pub record FoundAt (given : Entry → List Change) (ps : List Placed) (ts : List Printed) (one : PlacedChange) : Type 0 where
  pub at : ℕ
  pub place : Placed
  pub there : slice_get ps at ≡ Some place
  pub gives : given place.entry ≡ one.change ∷ []
  pub line : slice_get (map line_of ts) at ≡ Some one.line
  pub phase : place.phase ≡ one.phase
  pub session : place.session ≡ one.session

pub found_at : (given : Entry → List Change) → IsShort given → (ps : List Placed) (ts : List Printed) → ArePrinted ps ts → (one : PlacedChange)
    → IsAmong one (changes_of given ts) → FoundAt given ps ts one
found_at given short [] [] are one i = absurd i
found_at given short [] (t ∷ ts) are one i = absurd are
found_at given short (p ∷ ps) [] are one i = absurd are
found_at given short (p ∷ ps) (t ∷ ts) are one i =
    on (among_either one (changes_at given t) (changes_of given ts) i) (found_at given short ps ts are.1 one) where
      here : (cs : List Change) → given t.entry ≡ cs → length cs ≤ 1 → IsAmong one (map (placed_at t) cs) → FoundAt given (p ∷ ps) (t ∷ ts) one
      here [] e s m = absurd m
      here (c ∷ []) e s (inl q) = record {
        at = 0;
        place = p;
        there = refl;
        gives = ap given are.0.entry ∙ e ∙ ap (λ (z : PlacedChange). z.change ∷ []) q;
        line = ap (λ (z : PlacedChange). Some z.line) q;
        phase = are.0.phase ∙ ap (λ (z : PlacedChange). z.phase) q;
        session = are.0.session ∙ ap (λ (z : PlacedChange). z.session) q;
      }
      here (c ∷ []) e s (inr m) = absurd m
      here (c ∷ (d ∷ cs)) e s m = absurd (omega arith)

      on : IsAmong one (changes_at given t) ⊎ IsAmong one (changes_of given ts) → (IsAmong one (changes_of given ts) → FoundAt given ps ts one)
          → FoundAt given (p ∷ ps) (t ∷ ts) one
      on (inl m) go = here (given t.entry) refl (short t.entry) m
      on (inr m) go =
          let rest : FoundAt given ps ts one = go m in
          record {
            at = suc rest.at;
            place = rest.place;
            there = rest.there;
            gives = rest.gives;
            line = rest.line;
            phase = rest.phase;
            session = rest.session;
          }
