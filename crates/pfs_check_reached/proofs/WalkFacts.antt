-- A walk over changes: what is kept is made, and each change that isn't kept is to be tried or waits.
use Rattle.std.proofs.Common.{◌≡◌, ◌≢◌, refl, ℕ, zero, suc, ◌+◌, ◌-◌, ◌<◌, ◌≤◌, ◌==◌, ◌&&◌, Bool, true, false, cond, List, [], ◌∷◌, ◌++◌, length, sym, ◌∙◌, ap, subst, ◌⊎◌, inl, inr, arith, Option, Some, None}
use Rattle.std.specs.Prelude.{Vec, slice_get}
use Rattle.std.specs.declared.alloc.Global.{Global}
use Rattle.std.specs.BTreeMap.{BTreeMap, get}
use Rattle.std.specs.List.{AllZip}
use Rattle.std.proofs.lemmas.Bool.{eqb-true}
use Rattle.std.proofs.lemmas.Bool.Decides.{nat_tests}
use Rattle.std.proofs.lemmas.Option.{same_Some, slice_get_within}
use Rattle.pfs_event.specs.declared.entry.Entry.{Entry}
use Rattle.pfs_event.specs.declared.entry.Entry.TheVariants as says
use Rattle.pfs_law_replay.specs.SingleChanges.{OnceLaw}
use Rattle.pfs_model.specs.declared.changes.Change.{Change}
use Rattle.pfs_model.specs.Actions.{IsAmong}
use Rattle.pfs_model.specs.Chains.{AreChained, change_at, is_that, row_change}
use Rattle.pfs_model.specs.Contents.{Given, opening_words}
use Rattle.pfs_model.specs.EntryPlaces.{Placed}
use Rattle.pfs_model.proofs.Members.{among_back, among_front}
use Rattle.pfs_check_contents.specs.declared.changes.Effect.{Effect}
use Rattle.pfs_check_contents.specs.declared.changes.Effect.TheVariants as effects
use Rattle.pfs_check_contents.specs.declared.changes.RowChange.{RowChange}
use Rattle.pfs_check_contents.specs.ChangeReplays.{change_of}
use Rattle.pfs_check_contents.specs.KeptContents.{change_cmp}
use Rattle.pfs_check_contents.specs.OrderlyChanges.{StandsAt}
use Rattle.pfs_check_contents.specs.PlacedChanges.{AreMadeOf, IsChangeOf, IsPlain, IsSourceOf, changing, is_changing, is_some_of}
use Rattle.pfs_check_contents.specs.RowEffects.{effect_on}
use Rattle.pfs_check_faults.specs.ActionFaults.{Changes, Gives, IsMade, Opens}
use Rattle.pfs_check_reached.specs.MadeWords.{AreReached, told_in}
use Rattle.pfs_check_reached.specs.ReachedChanges.{AreOpen, AreSound, GivesFrom, IsNew, IsSource, IsTold, Needs, Waits, waits_in}
use Rattle.pfs_check_reached.specs.declared.reached.Reached.{Reached}
use Rattle.pfs_check_reached.proofs.MadeOnce.{same_made}

pub head : {x y : Change} → (x ∷ []) ≡ (y ∷ []) → x ≡ y
head {x} {y} e = ap (λ changes. first changes x) e where
  first : List Change → Change → Change
  first [] d = d
  first (c ∷ cs) d = c

-- tests of changes
both_true : (a b : Bool) → a && b ≡ true → (a ≡ true) × (b ≡ true)
both_true true true e = (refl, refl)
both_true true false e = absurd (cc)
both_true false b e = absurd (cc)

that_is : (wanted change : Change) → is_that wanted change ≡ true → wanted ≡ change
that_is wanted change e =
    let h : ((change.row == wanted.row) ≡ true) × ((change.version == wanted.version) ≡ true) =
    both_true (change.row == wanted.row) (change.version == wanted.version) e in
    let row : change.row ≡ wanted.row = eqb-true change.row wanted.row h.0 in
    let version : change.version ≡ wanted.version = eqb-true change.version wanted.version h.1 in
    ap (λ z. change_at z wanted.version) (sym row) ∙ ap (λ z. change_at change.row z) (sym version)

that_self : (change : Change) → is_that change change ≡ true
that_self change = rw (self change.row, self change.version) refl where
  self : (n : ℕ) → (n == n) ≡ true
  self n = grind (arith, nat_tests)

zero_is : (n : ℕ) → (n == 0) ≡ true → n ≡ 0
zero_is n e = grind (arith, nat_tests)

some_is : (n : ℕ) → (n == 0) ≡ false → n ≡ (n - 1) + 1
some_is n e = grind (arith, nat_tests)

-- the entry that a change is of, and the change that an entry is
of_entry : (given : Given) (xs : List Placed) (ys : List RowChange) (i : ℕ) (one : RowChange) → AllZip (IsChangeOf given) xs ys → StandsAt ys i one
    → (place : Placed) × IsAmong place xs × IsChangeOf given place one
of_entry given [] [] i one z g = absurd (cc)
of_entry given [] (y ∷ ys) i one z g = absurd z
of_entry given (x ∷ xs) [] i one z g = absurd z
of_entry given (x ∷ xs) (y ∷ ys) zero one z g = (x, inl refl, subst (IsChangeOf given x) (same_Some y one g) z.0)
of_entry given (x ∷ xs) (y ∷ ys) (suc i) one z g =
    let h : (place : Placed) × IsAmong place xs × IsChangeOf given place one = of_entry given xs ys i one z.1 g in (h.0, inr h.1, h.2)

pub of_change : (given : Given) (xs : List Placed) (ys : List RowChange) (place : Placed) → AllZip (IsChangeOf given) xs ys → IsAmong place xs
    → (i : ℕ) × (one : RowChange) × StandsAt ys i one × IsChangeOf given place one
of_change given [] ys place z i = absurd i
of_change given (x ∷ xs) [] place z i = absurd z
of_change given (x ∷ xs) (y ∷ ys) place z (inl e) = (zero, y, refl, subst (λ (p : Placed). IsChangeOf given p y) e z.0)
of_change given (x ∷ xs) (y ∷ ys) place z (inr i) =
    let h : (i : ℕ) × (one : RowChange) × StandsAt ys i one × IsChangeOf given place one = of_change given xs ys place z.1 i in (suc h.0, h.1, h.2, h.3)

pub changing_there : (xs : List Placed) (place : Placed) (change : Change) → IsAmong place xs → row_change place.entry ≡ change ∷ [] → IsAmong place (changing xs)
changing_there [] place change i e = absurd i
changing_there (x ∷ xs) place change (inl q) e =
    subst (λ z. IsAmong place (cond z (x ∷ []) [] ++ changing xs)) (sym (ap (λ (z : Placed). is_changing z) q ∙ ap is_some_of e)) (inl q)
changing_there (x ∷ xs) place change (inr i) e = among_back place (cond (is_changing x) (x ∷ []) []) (changing xs) (changing_there xs place change i e)

changing_own : (xs : List Placed) (place : Placed) → IsAmong place (changing xs) → IsAmong place xs
changing_own [] place i = absurd i
changing_own (x ∷ xs) place i = on (is_changing x) i (changing_own xs place) where
  on : (b : Bool) → IsAmong place (cond b (x ∷ []) [] ++ changing xs) → (IsAmong place (changing xs) → IsAmong place xs) → IsAmong place (x ∷ xs)
  on true (inl e) rest = inl e
  on true (inr j) rest = inr (rest j)
  on false j rest = inr (rest j)

parts : (x : ℕ) (xs ys : List ℕ) → IsAmong x (xs ++ ys) → IsAmong x xs ⊎ IsAmong x ys
parts x [] ys i = inr i
parts x (y ∷ xs) ys (inl e) = inl (inl e)
parts x (y ∷ xs) ys (inr i) = on (parts x xs ys i) where
  on : IsAmong x xs ⊎ IsAmong x ys → IsAmong x (y ∷ xs) ⊎ IsAmong x ys
  on (inl j) = inl (inr j)
  on (inr j) = inr j

-- a change whose needs are made is made
plain_effect : (effect : Effect) (one other : ℕ → ℕ → List ℕ) (here : List ℕ) → IsPlain effect → effect_on effect one here ≡ effect_on effect other here
plain_effect (effects.Add amount) one other here p = refl
plain_effect effects.Take one other here p = refl
plain_effect (effects.Give from version) one other here p = absurd p
plain_effect (effects.Put words) one other here p = refl

module _ (given : Given) (all : List Placed) (changes : List RowChange) (made : AreMadeOf given all changes) where
  new_made : (i : ℕ) (one : RowChange) (before : ℕ) (here source words : List ℕ) → StandsAt changes i one → one.version ≡ before + 1
      → IsMade given all one.row before here → ((from version : ℕ) → one.effect ≡ effects.Give from version → IsMade given all from (version - 1) source)
      → words ≡ effect_on one.effect (λ row version. source) here → IsMade given all one.row (before + 1) words
  new_made i one before here source words g v m has e = on place.entry refl is.change is.source where
    found : (place : Placed) × IsAmong place (changing all) × IsChangeOf given place one
    found = of_entry given (changing all) changes i one made g

    place : Placed
    place = found.0

    among : IsAmong place all
    among = changing_own all place found.1

    is : IsChangeOf given place one
    is = found.2

    change_is : row_change place.entry ≡ change_at one.row (before + 1) ∷ []
    change_is = is.change ∙ ap (λ z. change_at one.row z ∷ []) v

    by_change : ((from : ℕ) → place.entry ≢ says.Give one.row (before + 1) from) → IsPlain one.effect → IsMade given all one.row (before + 1) words
    by_change never p =
        Changes place one.row before here words among change_is never m
        (e ∙ plain_effect one.effect (λ row version. source) (λ other version. []) here p ∙ sym (is.effect (λ other version. []) here))

    on : (entry : Entry) → place.entry ≡ entry → row_change entry ≡ change_of one ∷ [] → IsSourceOf place.context entry one.effect
        → IsMade given all one.row (before + 1) words
    on (says.Give row version from) q c s =
        let at : change_at row version ≡ change_at one.row (before + 1) = head (c ∙ ap (λ z. change_at one.row z ∷ []) v) in
        Gives place one.row before from here source words among (q ∙ ap (λ (z : Change). says.Give z.row z.version from) at) s.0 m
        (has from place.context.source_version s.1) (e ∙ sym (is.effect (λ other version. source) here))
    on (says.Add row version) q c s = by_change (λ from f. absurd (cc)) s
    on (says.Take row version) q c s = by_change (λ from f. absurd (cc)) s
    on (says.Tag row version) q c s = by_change (λ from f. absurd (cc)) s
    on (says.Ring row version) q c s = by_change (λ from f. absurd (cc)) s
    on (says.Long row version ticket) q c s = by_change (λ from f. absurd (cc)) s
    on _ q c s = absurd (cc)

-- one change more is kept
module _ (changes : List RowChange) (old new : BTreeMap Change (List ℕ)) (one : RowChange) (place : ℕ) (words : List ℕ)
    (grown : (other : Change) → get change_cmp new other ≡ cond (is_that other (change_of one)) (Some words) (get change_cmp old other))
    (there : StandsAt changes place one) (new_is : IsNew old one words) where
  told_more : (row version : ℕ) (w : List ℕ) → told_in old row version ≡ Some w → (u : List ℕ) × (told_in new row version ≡ Some u)
  told_more row version w e =
      on (version == 0) (is_that (change_at row version) (change_of one)) e where
        on : (a b : Bool) → cond a (Some (opening_words row)) (get change_cmp old (change_at row version)) ≡ Some w
            → (u : List ℕ) × (cond a (Some (opening_words row)) (get change_cmp new (change_at row version)) ≡ Some u)
        on true b f = (w, f)
        on false b f = by (is_that (change_at row version) (change_of one)) (grown (change_at row version)) where
          by : (b : Bool) → get change_cmp new (change_at row version) ≡ cond b (Some words) (get change_cmp old (change_at row version))
              → (u : List ℕ) × (get change_cmp new (change_at row version) ≡ Some u)
          by true g = (words, g)
          by false g = (w, g ∙ f)

  told_self : IsTold new one
  told_self = by (one.version == 0) refl
      (grown (change_of one) ∙ ap (λ b. cond b (Some words) (get change_cmp old (change_of one))) (that_self (change_of one))) where
        by : (a : Bool) → (one.version == 0) ≡ a → get change_cmp new (change_of one) ≡ Some words → IsTold new one
        by true f g = record { words = opening_words one.row; told = ap (λ z. cond z (Some (opening_words one.row)) (get change_cmp new (change_of one))) f }
        by false f g = record { words = words; told = ap (λ z. cond z (Some (opening_words one.row)) (get change_cmp new (change_of one))) f ∙ g }

  told_other : (key : Change) → is_that key (change_of one) ≡ false → told_in new key.row key.version ≡ told_in old key.row key.version
  told_other key e =
      ap (cond (key.version == 0) (Some (opening_words key.row)))
      (grown key ∙ ap (λ b. cond b (Some words) (get change_cmp old key)) e)

  pub sound_more : AreSound changes old → AreSound changes new
  sound_more sound given all made row version w e =
      on (version == 0) refl e where
        opening : version ≡ 0 → Some (opening_words row) ≡ Some w → IsMade given all row version w
        opening z f = subst (λ n. IsMade given all row n w) (sym z) (Opens row w (same_words (opening_words row) w f)) where
          same_words : (u w : List ℕ) → Some u ≡ Some w → w ≡ u
          same_words u w f = cc

        has : (from v : ℕ) → one.effect ≡ effects.Give from v → IsMade given all from (v - 1) new_is.source
        has from v q = sound given all made from (v - 1) new_is.source (subst (λ z. IsSource old z new_is.source) q new_is.source_is)

        own : (version == 0) ≡ false → change_at row version ≡ change_of one → Some words ≡ Some w → IsMade given all row version w
        own a q f =
            let version_is : version ≡ one.version = ap (λ (z : Change). z.version) q in
            let some : one.version ≡ (one.version - 1) + 1 = some_is one.version (ap (λ z. z == 0) (sym version_is) ∙ a) in
            let h : IsMade given all one.row ((one.version - 1) + 1) words =
            new_made given all changes made place one (one.version - 1) new_is.here new_is.source words there some
            (sound given all made one.row (one.version - 1) new_is.here new_is.here_is) has new_is.words_are in
            subst (λ (z : Change). IsMade given all z.row z.version w) (sym q)
            (subst (IsMade given all one.row one.version) (same_Some words w f) (subst (λ n. IsMade given all one.row n words) (sym some) h))

        on : (a : Bool) → (version == 0) ≡ a → cond a (Some (opening_words row)) (get change_cmp new (change_at row version)) ≡ Some w → IsMade given all row version w
        on true a f = opening (zero_is version a) f
        on false a f = by (is_that (change_at row version) (change_of one)) refl (sym (grown (change_at row version)) ∙ f) where
          by : (b : Bool) → is_that (change_at row version) (change_of one) ≡ b → cond b (Some words) (get change_cmp old (change_at row version)) ≡ Some w
              → IsMade given all row version w
          by true b g = own a (that_is (change_at row version) (change_of one) b) g
          by false b g =
              sound given all made row version w (ap (λ z. cond z (Some (opening_words row)) (get change_cmp old (change_at row version))) a ∙ g)

  pub open_made : (waiting waiting2 : BTreeMap Change (Vec ℕ Global)) (ready ready2 : List ℕ) → ready2 ≡ ready ++ waits_in waiting (change_of one)
      → ((other : Change) → is_that other (change_of one) ≡ false → waits_in waiting2 other ≡ waits_in waiting other)
      → AreOpen changes old waiting (ready ++ place ∷ []) → AreOpen changes new waiting2 ready2
  open_made waiting waiting2 ready ready2 more others opened i two g = on (opened i two g) where
    front : IsAmong i ready → IsAmong i ready2
    front j = subst (IsAmong i) (sym more) (among_front i ready (waits_in waiting (change_of one)) j)

    behind : IsAmong i (waits_in waiting (change_of one)) → IsAmong i ready2
    behind j = subst (IsAmong i) (sym more) (among_back i ready (waits_in waiting (change_of one)) j)

    own : place ≡ i → IsTold new two
    own e = subst (IsTold new) (same_Some one two (sym there ∙ ap (slice_get changes) e ∙ g)) told_self

    popped : IsAmong i ready ⊎ ((place ≡ i) ⊎ ⊥) → IsTold new two ⊎ (IsAmong i ready2 ⊎ Waits new waiting2 i two)
    popped (inl j) = inr (inl (front j))
    popped (inr (inl e)) = inl (own e)
    popped (inr (inr j)) = absurd j

    wakes : (w : Waits old waiting i two) → (b : Bool) → is_that w.key (change_of one) ≡ b → IsTold new two ⊎ (IsAmong i ready2 ⊎ Waits new waiting2 i two)
    wakes w true e = inr (inl (behind (subst (λ (z : Change). IsAmong i (waits_in waiting z)) (that_is w.key (change_of one) e) w.there)))
    wakes w false e = inr (inr (record {
      key = w.key;
      there = subst (IsAmong i) (sym (others w.key e)) w.there;
      needs = w.needs;
      untold = told_other w.key e ∙ w.untold;
    }))

    on : IsTold old two ⊎ (IsAmong i (ready ++ place ∷ []) ⊎ Waits old waiting i two) → IsTold new two ⊎ (IsAmong i ready2 ⊎ Waits new waiting2 i two)
    on (inl t) = let h : (u : List ℕ) × (told_in new two.row two.version ≡ Some u) = told_more two.row two.version t.words t.told in inl (record { words = h.0; told = h.1 })
    on (inr (inl j)) = popped (parts i ready (place ∷ []) j)
    on (inr (inr w)) = wakes w (is_that w.key (change_of one)) refl

-- one that waits
pub open_waits : (changes : List RowChange) (kept : BTreeMap Change (List ℕ)) (waiting waiting2 : BTreeMap Change (Vec ℕ Global)) (ready : List ℕ) (place : ℕ)
    (one : RowChange) (key : Change) → StandsAt changes place one → Needs one key → told_in kept key.row key.version ≡ None
    → ((other : Change) → waits_in waiting2 other ≡ cond (is_that other key) (waits_in waiting key ++ place ∷ []) (waits_in waiting other))
    → AreOpen changes kept waiting (ready ++ place ∷ []) → AreOpen changes kept waiting2 ready
open_waits changes kept waiting waiting2 ready place one key there needs untold grown opened i two g = on (opened i two g) where
  own : place ≡ i → Waits kept waiting2 i two
  own e = record {
    key = key;
    there = subst (IsAmong i) (sym (grown key ∙ ap (λ b. cond b (waits_in waiting key ++ place ∷ []) (waits_in waiting key)) (that_self key)))
        (among_back i (waits_in waiting key) (place ∷ []) (inl e));
    needs = subst (λ z. Needs z key) (same_Some one two (sym there ∙ ap (slice_get changes) e ∙ g)) needs;
    untold = untold;
  }

  popped : IsAmong i ready ⊎ ((place ≡ i) ⊎ ⊥) → IsTold kept two ⊎ (IsAmong i ready ⊎ Waits kept waiting2 i two)
  popped (inl j) = inr (inl j)
  popped (inr (inl e)) = inr (inr (own e))
  popped (inr (inr j)) = absurd j

  stays : (w : Waits kept waiting i two) → (b : Bool) → is_that w.key key ≡ b → IsAmong i (waits_in waiting2 w.key)
  stays w true e =
      subst (IsAmong i) (sym (grown w.key ∙ ap (λ b. cond b (waits_in waiting key ++ place ∷ []) (waits_in waiting w.key)) e))
      (among_front i (waits_in waiting key) (place ∷ []) (subst (λ (z : Change). IsAmong i (waits_in waiting z)) (that_is w.key key e) w.there))
  stays w false e = subst (IsAmong i) (sym (grown w.key ∙ ap (λ b. cond b (waits_in waiting key ++ place ∷ []) (waits_in waiting w.key)) e)) w.there

  on : IsTold kept two ⊎ (IsAmong i (ready ++ place ∷ []) ⊎ Waits kept waiting i two) → IsTold kept two ⊎ (IsAmong i ready ⊎ Waits kept waiting2 i two)
  on (inl t) = inl t
  on (inr (inl j)) = popped (parts i ready (place ∷ []) j)
  on (inr (inr w)) = inr (inr (record { key = w.key; there = stays w (is_that w.key key) refl; needs = w.needs; untold = w.untold }))

-- a place at which no change stands
pub past_all : (xs : List RowChange) (n : ℕ) → length xs ≤ n → slice_get xs n ≡ None
past_all [] n h = refl
past_all (x ∷ xs) zero h = absurd (omega (arith, h))
past_all (x ∷ xs) (suc n) h = past_all xs n (omega (arith, h))

pub open_none : (changes : List RowChange) (kept : BTreeMap Change (List ℕ)) (waiting : BTreeMap Change (Vec ℕ Global)) (ready : List ℕ) (place : ℕ)
    → slice_get changes place ≡ None → AreOpen changes kept waiting (ready ++ place ∷ []) → AreOpen changes kept waiting ready
open_none changes kept waiting ready place none opened i two g = on (opened i two g) where
  no : place ≡ i → ⊥
  no e = wrong (sym none ∙ ap (slice_get changes) e ∙ g) where
    wrong : None ≡ Some two → ⊥
    wrong q = cc

  popped : IsAmong i ready ⊎ ((place ≡ i) ⊎ ⊥) → IsTold kept two ⊎ (IsAmong i ready ⊎ Waits kept waiting i two)
  popped (inl j) = inr (inl j)
  popped (inr (inl e)) = absurd (no e)
  popped (inr (inr j)) = absurd j

  on : IsTold kept two ⊎ (IsAmong i (ready ++ place ∷ []) ⊎ Waits kept waiting i two) → IsTold kept two ⊎ (IsAmong i ready ⊎ Waits kept waiting i two)
  on (inl t) = inl t
  on (inr (inl j)) = popped (parts i ready (place ∷ []) j)
  on (inr (inr w)) = inr (inr w)

-- all places below one
pub place_more : (places new : List ℕ) (at : ℕ) → new ≡ places ++ at ∷ [] → ((place : ℕ) → place < at → IsAmong place places)
    → (place : ℕ) → place < at + 1 → IsAmong place new
place_more places new at more all place low = subst (IsAmong place) (sym more) (on (place == at) refl) where
  on : (b : Bool) → (place == at) ≡ b → IsAmong place (places ++ at ∷ [])
  on true e = among_back place places (at ∷ []) (inl (sym (eqb-true place at e)))
  on false e = among_front place places (at ∷ []) (all place (less place at low e)) where
    less : (m n : ℕ) → m < n + 1 → (m == n) ≡ false → m < n
    less m n l f = grind (arith, nat_tests)

-- at first all are to be tried, and nothing is kept
pub walked_first : (changes : List RowChange) (kept : BTreeMap Change (List ℕ)) (waiting : BTreeMap Change (Vec ℕ Global)) (ready : List ℕ)
    → ((change : Change) → get change_cmp kept change ≡ None) → ((place : ℕ) → place < length changes → IsAmong place ready)
    → AreSound changes kept × AreOpen changes kept waiting ready
walked_first changes kept waiting ready none all = (sound, λ place one g. inr (inl (all place (slice_get_within changes place one g)))) where
  sound : AreSound changes kept
  sound given places made row version words e = on (version == 0) refl e where
    on : (a : Bool) → (version == 0) ≡ a → cond a (Some (opening_words row)) (get change_cmp kept (change_at row version)) ≡ Some words → IsMade given places row version words
    on true a f = subst (λ n. IsMade given places row n words) (sym (zero_is version a)) (Opens row words (sym (same_Some (opening_words row) words f)))
    on false a f = absurd (no (sym (none (change_at row version)) ∙ f)) where
      no : None ≡ Some words → ⊥
      no q = cc

-- where none is to be tried any more, just that is kept which is made
module _ (law : OnceLaw) (changes : List RowChange) (kept : BTreeMap Change (List ℕ)) (waiting : BTreeMap Change (Vec ℕ Global)) (sound : AreSound changes kept)
    (opened : AreOpen changes kept waiting []) (given : Given) (all : List Placed) (made : AreMadeOf given all changes) (chained : AreChained row_change all) where
  found : (place : Placed) (row version : ℕ) → IsAmong place all → row_change place.entry ≡ change_at row version ∷ []
      → (i : ℕ) × (one : RowChange) × StandsAt changes i one × IsChangeOf given place one
  found place row version among e = of_change given (changing all) changes place made (changing_there all place (change_at row version) among e)

  none_told : (words : List ℕ) (told : Option (List ℕ)) → told ≡ None → told ≡ Some words → ⊥
  none_told words told e f = wrong (sym e ∙ f) where
    wrong : None ≡ Some words → ⊥
    wrong q = cc

  -- a change is kept where all that it needs is
  kept_one : (i : ℕ) (one : RowChange) (row before : ℕ) (words : List ℕ) → StandsAt changes i one → change_of one ≡ change_at row (before + 1)
      → ((key : Change) → Needs one key → told_in kept key.row key.version ≡ None → ⊥) → IsMade given all row (before + 1) words
      → told_in kept row (before + 1) ≡ Some words
  kept_one i one row before words g is told m = on (opened i one g) where
    on : IsTold kept one ⊎ (IsAmong i [] ⊎ Waits kept waiting i one) → told_in kept row (before + 1) ≡ Some words
    on (inl t) =
        let here : told_in kept row (before + 1) ≡ Some t.words = subst (λ (z : Change). told_in kept z.row z.version ≡ Some t.words) is t.told in
        here ∙ ap Some (same_made given all (law all chained) (sound given all made row (before + 1) t.words here) m refl refl)
    on (inr (inl j)) = absurd j
    on (inr (inr w)) = absurd (told w.key w.needs w.untold)

  row_before : (one : RowChange) (row before : ℕ) → change_of one ≡ change_at row (before + 1) → change_at one.row (one.version - 1) ≡ change_at row before
  row_before one row before is =
      ap (λ (z : Change). change_at z.row (z.version - 1)) is ∙ ap (change_at row) (less before) where
        less : (n : ℕ) → (n + 1) - 1 ≡ n
        less n = omega arith

  no_gift : (entry : Entry) (place : Placed) (row version : ℕ) (effect : Effect) (key : Change) → row_change entry ≡ change_at row version ∷ []
      → ((from : ℕ) → entry ≢ says.Give row version from) → IsSourceOf place.context entry effect → GivesFrom effect key → ⊥
  no_gift (says.Give at n from) place row version effect key c never s f = never from (ap (λ (z : Change). says.Give z.row z.version from) (head c))
  no_gift (says.Add at n) place row version effect key c never s f = plain effect s f where
    plain : (effect : Effect) → IsPlain effect → GivesFrom effect key → ⊥
    plain (effects.Give from v) s f = s
    plain _ s f = f
  no_gift (says.Take at n) place row version effect key c never s f = plain effect s f where
    plain : (effect : Effect) → IsPlain effect → GivesFrom effect key → ⊥
    plain (effects.Give from v) s f = s
    plain _ s f = f
  no_gift (says.Tag at n) place row version effect key c never s f = plain effect s f where
    plain : (effect : Effect) → IsPlain effect → GivesFrom effect key → ⊥
    plain (effects.Give from v) s f = s
    plain _ s f = f
  no_gift (says.Ring at n) place row version effect key c never s f = plain effect s f where
    plain : (effect : Effect) → IsPlain effect → GivesFrom effect key → ⊥
    plain (effects.Give from v) s f = s
    plain _ s f = f
  no_gift (says.Long at n ticket) place row version effect key c never s f = plain effect s f where
    plain : (effect : Effect) → IsPlain effect → GivesFrom effect key → ⊥
    plain (effects.Give from v) s f = s
    plain _ s f = f
  no_gift _ place row version effect key c never s f = absurd (cc)

  gift_is : (entry : Entry) (place : Placed) (row version from : ℕ) (effect : Effect) (key : Change) → entry ≡ says.Give row version from
      → IsSourceOf place.context entry effect → GivesFrom effect key → key ≡ change_at from (place.context.source_version - 1)
  gift_is (says.Give at n source) place row version from effect key e s f =
      subst (λ z. GivesFrom z key) s.1 f ∙ ap (λ z. change_at z (place.context.source_version - 1)) (source_is e) where
        source_is : says.Give at n source ≡ says.Give row version from → source ≡ from
        source_is q = cc
  gift_is _ place row version from effect key e s f = absurd (cc)

  only : {row version : ℕ} {words : List ℕ} → IsMade given all row version words → told_in kept row version ≡ Some words
  only (Opens row words e) = ap Some (sym e)
  only (Changes place row before here words among change never m e) =
      change_kept (found place row (before + 1) among change) (only m) where
        change_kept : (i : ℕ) × (one : RowChange) × StandsAt changes i one × IsChangeOf given place one → told_in kept row before ≡ Some here
            → told_in kept row (before + 1) ≡ Some words
        change_kept (i, one, g, is) told = kept_one i one row before words g own needs (Changes place row before here words among change never m e) where
          own : change_of one ≡ change_at row (before + 1)
          own = head (sym is.change ∙ change)

          needs : (key : Change) → Needs one key → told_in kept key.row key.version ≡ None → ⊥
          needs key (inl k) none =
              none_told here (told_in kept row before)
              (subst (λ (z : Change). told_in kept z.row z.version ≡ None) (k ∙ row_before one row before own) none) told
          needs key (inr k) none = no_gift place.entry place row (before + 1) one.effect key change never is.source k
  only (Gives place row before from here source words among give own m taken e) =
      give_kept (found place row (before + 1) among (ap row_change give)) (only m) (only taken) where
        give_kept : (i : ℕ) × (one : RowChange) × StandsAt changes i one × IsChangeOf given place one → told_in kept row before ≡ Some here
            → told_in kept from (place.context.source_version - 1) ≡ Some source → told_in kept row (before + 1) ≡ Some words
        give_kept (i, one, g, is) told source_told = kept_one i one row before words g change needs (Gives place row before from here source words among give own m taken e) where
          change : change_of one ≡ change_at row (before + 1)
          change = head (sym is.change ∙ ap row_change give)

          needs : (key : Change) → Needs one key → told_in kept key.row key.version ≡ None → ⊥
          needs key (inl k) none =
              none_told here (told_in kept row before)
              (subst (λ (z : Change). told_in kept z.row z.version ≡ None) (k ∙ row_before one row before change) none) told
          needs key (inr k) none =
              none_told source (told_in kept from (place.context.source_version - 1))
              (subst (λ (z : Change). told_in kept z.row z.version ≡ None) (gift_is place.entry place row (before + 1) from one.effect key give is.source k) none) source_told

pub are_reached : (law : OnceLaw) (changes : List RowChange) (reached : Reached) (waiting : BTreeMap Change (Vec ℕ Global)) → AreSound changes reached.kept
    → AreOpen changes reached.kept waiting [] → AreReached changes reached
are_reached law changes reached waiting sound opened given all made chained = record {
  made = sound given all made;
  only = λ row version words m. only law changes reached.kept waiting sound opened given all made chained m;
}
