-- What the changes make of rows is what is kept.
use Rattle.std.proofs.Common.{◌≡◌, ◌≢◌, refl, ℕ, zero, suc, ◌+◌, ◌-◌, ◌<◌, ◌≤◌, ◌==◌, not, Bool, true, false, cond, List, [], ◌∷◌, ◌++◌, sym, ◌∙◌, ap, subst, ◌⊎◌, inl, inr, arith, add-one}
use Rattle.std.specs.List.{AllZip}
use Rattle.std.proofs.lemmas.Bool.{cases_lt}
use Rattle.std.proofs.lemmas.Option.{same_Some}
use Rattle.pfs_event.specs.declared.entry.Entry.{Entry}
use Rattle.pfs_event.specs.declared.entry.Entry.TheVariants as says
use Rattle.pfs_stat.specs.Stat.{stat_of_words}
use Rattle.pfs_model.specs.declared.changes.Change.{Change}
use Rattle.pfs_model.specs.Actions.{IsAmong}
use Rattle.pfs_model.specs.Chains.{change_at, each_of, row_change}
use Rattle.pfs_model.specs.Contents.{Given, content_after, opening_words}
use Rattle.pfs_model.specs.EntryPlaces.{Placed}
use Rattle.pfs_model.proofs.Members.{among_back, among_front}
use Rattle.pfs_check_contents.specs.declared.changes.Effect.{Effect}
use Rattle.pfs_check_contents.specs.declared.changes.Effect.TheVariants as effects
use Rattle.pfs_check_contents.specs.declared.changes.RowChange.{RowChange}
use Rattle.pfs_check_contents.specs.ChangeReplays.{change_of}
use Rattle.pfs_check_contents.specs.KeptContents.{IsHad, content_at}
use Rattle.pfs_check_contents.specs.OrderlyChanges.{AreOrderly, ComesBefore, HasBefore, HasTaken, StandsAt}
use Rattle.pfs_check_contents.specs.PlacedChanges.{AreMadeOf, IsChangeOf, IsSourceOf, changing, is_changing, is_some_of}
use Rattle.pfs_check_faults.specs.ActionFaults.{Changes, FindsWhatIsMade, Gives, IsMade, Opens}
use Rattle.pfs_law_made.specs.MadeContents.{BeforeLaw, FindsLaw, KeptLaw, counts_at}
use Rattle.pfs_law_made.proofs.OnlyContents.{head, only_content}

-- an entry that changes a row is among those that do, and these are entries
changing_there : (xs : List Placed) (place : Placed) (change : Change) → IsAmong place xs → row_change place.entry ≡ change ∷ [] → IsAmong place (changing xs)
changing_there [] place change i e = absurd i
changing_there (x ∷ xs) place change (inl q) e =
    subst (λ z. IsAmong place (cond z (x ∷ []) [] ++ changing xs)) (sym (ap (λ (z : Placed). is_changing z) q ∙ ap is_some_of e)) (inl q)
changing_there (x ∷ xs) place change (inr i) e = among_back place (cond (is_changing x) (x ∷ []) []) (changing xs) (changing_there xs place change i e)

changing_own : (xs : List Placed) (place : Placed) → IsAmong place (changing xs) → IsAmong place xs
changing_own [] place i = absurd i
changing_own (x ∷ xs) place i = on (is_changing x) i (changing_own xs place) where
  on : (b : Bool) → IsAmong place (cond b (x ∷ []) [] ++ changing xs) → (IsAmong place (changing xs) → IsAmong place xs) → IsAmong place (x ∷ xs)
  on true (inl e) rest = inl e
  on true (inr j) rest = inr (rest j)
  on false j rest = inr (rest j)

-- the entry that a change is of
of_entry : (given : Given) (xs : List Placed) (ys : List RowChange) (i : ℕ) (one : RowChange) → AllZip (IsChangeOf given) xs ys → StandsAt ys i one
    → (place : Placed) × IsAmong place xs × IsChangeOf given place one
of_entry given [] [] i one z g = absurd (cc)
of_entry given [] (y ∷ ys) i one z g = absurd z
of_entry given (x ∷ xs) [] i one z g = absurd z
of_entry given (x ∷ xs) (y ∷ ys) zero one z g = (x, inl refl, subst (IsChangeOf given x) (same_Some y one g) z.0)
of_entry given (x ∷ xs) (y ∷ ys) (suc i) one z g =
    let h : (place : Placed) × IsAmong place xs × IsChangeOf given place one = of_entry given xs ys i one z.1 g in (h.0, inr h.1, h.2)

-- the change that an entry is
of_change : (given : Given) (xs : List Placed) (ys : List RowChange) (place : Placed) → AllZip (IsChangeOf given) xs ys → IsAmong place xs
    → (i : ℕ) × (one : RowChange) × StandsAt ys i one × IsChangeOf given place one
of_change given [] ys place z i = absurd i
of_change given (x ∷ xs) [] place z i = absurd z
of_change given (x ∷ xs) (y ∷ ys) place z (inl e) = (zero, y, refl, subst (λ (p : Placed). IsChangeOf given p y) e z.0)
of_change given (x ∷ xs) (y ∷ ys) place z (inr i) =
    let h : (i : ℕ) × (one : RowChange) × StandsAt ys i one × IsChangeOf given place one = of_change given xs ys place z.1 i in (suc h.0, h.1, h.2, h.3)

-- a change of entries is that of one of them
of_list : (xs : List Placed) (change : Change) → IsAmong change (each_of row_change xs)
    → (place : Placed) × IsAmong place xs × (row_change place.entry ≡ change ∷ [])
of_list [] change i = absurd i
of_list (x ∷ xs) change i = on (row_change x.entry) (one x.entry) refl i (of_list xs change) where
  one : (entry : Entry) → (row_change entry ≡ []) ⊎ ((c : Change) × (row_change entry ≡ c ∷ []))
  one (says.Add row version) = inr (change_at row version, refl)
  one (says.Ring row version) = inr (change_at row version, refl)
  one (says.Long row version ticket) = inr (change_at row version, refl)
  one (says.Take row version) = inr (change_at row version, refl)
  one (says.Give row version from) = inr (change_at row version, refl)
  one (says.Tag row version) = inr (change_at row version, refl)
  one _ = inl refl

  behind : (place : Placed) × IsAmong place xs × (row_change place.entry ≡ change ∷ []) → (place : Placed) × IsAmong place (x ∷ xs) × (row_change place.entry ≡ change ∷ [])
  behind h = (h.0, inr h.1, h.2)

  on : (cs : List Change) → (cs ≡ []) ⊎ ((c : Change) × (cs ≡ c ∷ [])) → row_change x.entry ≡ cs → IsAmong change (cs ++ each_of row_change xs)
      → (IsAmong change (each_of row_change xs) → (place : Placed) × IsAmong place xs × (row_change place.entry ≡ change ∷ []))
      → (place : Placed) × IsAmong place (x ∷ xs) × (row_change place.entry ≡ change ∷ [])
  on [] k q j go = behind (go j)
  on (c ∷ cs) (inl k) q j go = absurd (cc)
  on (c ∷ []) (inr k) q (inl e) go = (x, inl refl, q ∙ ap (λ z. z ∷ []) e)
  on (c ∷ []) (inr k) q (inr j) go = behind (go j)
  on (c ∷ d ∷ cs) (inr k) q j go = absurd (no k.1) where
    no : c ∷ d ∷ cs ≡ k.0 ∷ [] → ⊥
    no e = cc

to_list : (xs : List Placed) (place : Placed) (change : Change) → IsAmong place xs → row_change place.entry ≡ change ∷ [] → IsAmong change (each_of row_change xs)
to_list [] place change i e = absurd i
to_list (x ∷ xs) place change (inl q) e =
    among_front change (row_change x.entry) (each_of row_change xs) (subst (IsAmong change) (sym (ap (λ (z : Placed). row_change z.entry) q ∙ e)) (inl refl))
to_list (x ∷ xs) place change (inr i) e = among_back change (row_change x.entry) (each_of row_change xs) (to_list xs place change i e)

-- something is made of a row at a version
abbrev Made : Given → List Placed → ℕ → ℕ → Type 0
Made given all row version = (words : List ℕ) × IsMade given all row version words

module _ (given : Given) (all : List Placed) (changes : List RowChange) (made : AreMadeOf given all changes) (ord : AreOrderly changes) where
  -- what an effect gives of another row is made
  abbrev HasMade : Effect → Type 0
  HasMade effect = (from version : ℕ) → effect ≡ effects.Give from version → Made given all from (version - 1)

  -- one change more
  step : (i : ℕ) (one : RowChange) (before : ℕ) → StandsAt changes i one → one.version ≡ before + 1 → Made given all one.row before → HasMade one.effect
      → Made given all one.row (before + 1)
  step i one before g v m has = on place.entry refl is.change is.source where
    found : (place : Placed) × IsAmong place (changing all) × IsChangeOf given place one
    found = of_entry given (changing all) changes i one made g

    place : Placed
    place = found.0

    among : IsAmong place all
    among = changing_own all place found.1

    is : IsChangeOf given place one
    is = found.2

    change_is : row_change place.entry ≡ change_at one.row (before + 1) ∷ []
    change_is = is.change ∙ ap (λ z. change_at one.row z ∷ []) v

    by_change : ((from : ℕ) → place.entry ≢ says.Give one.row (before + 1) from) → Made given all one.row (before + 1)
    by_change other = (
      content_after given (λ other version. []) place place.context m.0 place.entry,
      Changes place one.row before m.0 (content_after given (λ other version. []) place place.context m.0 place.entry) among change_is other m.1 refl,
    )

    on : (entry : Entry) → place.entry ≡ entry → row_change entry ≡ change_of one ∷ [] → IsSourceOf place.context entry one.effect
        → Made given all one.row (before + 1)
    on (says.Give row version from) e c source =
        let source_made : Made given all from (place.context.source_version - 1) = has from place.context.source_version source.1 in
        let at : change_at row version ≡ change_at one.row (before + 1) = head (c ∙ ap (λ z. change_at one.row z ∷ []) v) in (
          content_after given (λ other version. source_made.0) place place.context m.0 place.entry,
          Gives place one.row before from m.0 source_made.0 (content_after given (λ other version. source_made.0) place place.context m.0 place.entry) among
              (e ∙ ap (λ (z : Change). says.Give z.row z.version from) at) source.0 m.1 source_made.1 refl,
        )
    on (says.Add row version) e c source = by_change (λ from q. absurd (cc))
    on (says.Take row version) e c source = by_change (λ from q. absurd (cc))
    on (says.Tag row version) e c source = by_change (λ from q. absurd (cc))
    on (says.Ring row version) e c source = by_change (λ from q. absurd (cc))
    on (says.Long row version ticket) e c source = by_change (λ from q. absurd (cc))
    on _ e c source = absurd (cc)

  -- the change of a row at a version below another's
  abbrev Below : RowChange → ℕ → Type 0
  Below one version = (i : ℕ) × (other : RowChange) × StandsAt changes i other × (other.row ≡ one.row) × (other.version ≡ version)

  below : (more version i : ℕ) (one : RowChange) → StandsAt changes i one → one.version ≡ suc version + more → Below one (suc version)
  below zero version i one g e = (i, one, g, refl, omega (arith, e))
  below (suc more) version i one g e =
      on (ord.chained i one g (omega (arith, e))) (λ b f. below more version b.place b.before b.there f) where
        on : (b : HasBefore changes one) → ((b : HasBefore changes one) → b.before.version ≡ suc version + more → Below b.before (suc version)) → Below one (suc version)
        on b go = also (go b (omega (arith, e, b.version_is))) where
          also : Below b.before (suc version) → Below one (suc version)
          also h = (h.0, h.1, h.2, h.3 ∙ b.row_is, h.4)

  -- along a row each version is made, where those of actions are
  climb : (i : ℕ) (one : RowChange) (most : ℕ) → StandsAt changes i one → most ≤ one.version
      → ((j : ℕ) (other : RowChange) → StandsAt changes j other → other.row ≡ one.row → other.version ≤ most → 0 < other.action → Made given all other.row other.version)
      → (version : ℕ) → version ≤ most → Made given all one.row version
  climb i one most g l acted zero low = (opening_words one.row, Opens one.row (opening_words one.row) refl)
  climb i one most g l acted (suc version) low =
      by (cases_lt 0 b.1.action) (climb i one most g l acted version (omega (arith, low))) where
        b : Below one (suc version)
        b = below (one.version - suc version) version i one g (omega (arith, l, low))

        row_is : b.1.row ≡ one.row
        row_is = b.3

        version_is : b.1.version ≡ suc version
        version_is = b.4

        idle : b.1.action ≤ 0 → HasMade b.1.effect
        idle none from at e =
            let t : HasTaken changes from at b.1.action b.0 = ord.sourced b.0 b.1 from at b.2 e in
            let some : 0 < t.source.action = t.acted in
            absurd (no t.source.action some t.place t.comes) where
              no : (n : ℕ) → 0 < n → (place : ℕ) → ComesBefore n place b.1.action b.0 → ⊥
              no n some place (inl less) = omega (arith, less, none)
              no n some place (inr same) = let e : n ≡ b.1.action = same.0 in omega (arith, e, none, some)

        by : (0 < b.1.action) ⊎ (b.1.action ≤ 0) → Made given all one.row version → Made given all one.row (suc version)
        by (inl some) rest =
            let h : Made given all b.1.row b.1.version = acted b.0 b.1 b.2 row_is (omega (arith, version_is, low)) some in
            subst (λ z. Made given all z (suc version)) row_is (subst (Made given all b.1.row) version_is h)
        by (inr none) rest =
            let h : Made given all b.1.row (version + 1) =
            step b.0 b.1 version b.2 (omega (arith, version_is)) (subst (λ z. Made given all z version) (sym row_is) rest) (idle none) in
            subst (λ z. Made given all one.row z) (add-one version) (subst (λ z. Made given all z (version + 1)) row_is h)

  -- all that actions made before a place
  abbrev AllBefore : ℕ → ℕ → Type 0
  AllBefore action at = (i : ℕ) (one : RowChange) → StandsAt changes i one → 0 < one.action → ComesBefore one.action i action at
      → (version : ℕ) → version ≤ one.version → Made given all one.row version

  own : (i : ℕ) (one : RowChange) → StandsAt changes i one → 0 < one.action → AllBefore one.action i → (version : ℕ) → version ≤ one.version → Made given all one.row version
  own i one g some before version low = on one.version refl (ord.positive i one g) where
    on : (v : ℕ) → one.version ≡ v → 0 < v → Made given all one.row version
    on zero e l = absurd (omega (arith, l))
    on (suc last) e l = by (cases_lt version (suc last)) where
      acted : (j : ℕ) (other : RowChange) → StandsAt changes j other → other.row ≡ one.row → other.version ≤ last → 0 < other.action → Made given all other.row other.version
      acted j other h r m a = before j other h a (ord.rises j i other one h g r (omega (arith, m, e)) a some) other.version (omega arith)

      up_to : (version : ℕ) → version ≤ last → Made given all one.row version
      up_to = climb i one last g (omega (arith, e)) acted

      has : HasMade one.effect
      has from at q =
          let t : HasTaken changes from at one.action i = ord.sourced i one from at g q in
          let v : t.source.version ≡ at = t.version_is in
          subst (λ z. Made given all z (at - 1)) t.row_is (before t.place t.source t.there t.acted t.comes (at - 1) (omega (arith, v)))

      by : (version < suc last) ⊎ (suc last ≤ version) → Made given all one.row version
      by (inl less) = up_to version (omega (arith, less))
      by (inr most) =
          subst (Made given all one.row) (omega (arith, most, low, e)) (step i one last g (omega (arith, e)) (up_to last (omega arith)) has)

  along : (action : ℕ) → AllBefore action 0 → (at : ℕ) → AllBefore action at
  along action first zero i one g some comes = first i one g some comes
  along action first (suc at) i one g some comes = by (along action first at) comes where
    here : AllBefore action at → one.action ≡ action → i ≡ at → AllBefore one.action i
    here rest e q = subst (λ z. AllBefore one.action z) (sym q) (subst (λ z. AllBefore z at) (sym e) rest)

    by : AllBefore action at → ComesBefore one.action i action (suc at) → (version : ℕ) → version ≤ one.version → Made given all one.row version
    by rest (inl less) = rest i one g some (inl less)
    by rest (inr same) = on (cases_lt i at) where
      on : (i < at) ⊎ (at ≤ i) → (version : ℕ) → version ≤ one.version → Made given all one.row version
      on (inl less) = rest i one g some (inr (same.0, less))
      on (inr most) = let low : i < suc at = same.1 in own i one g some (here rest same.0 (omega (arith, most, low)))

  from_first : (action : ℕ) → AllBefore action 0
  from_first zero i one g some (inl less) = absurd (omega (arith, less))
  from_first zero i one g some (inr same) = let low : i < 0 = same.1 in absurd (omega (arith, low))
  from_first (suc action) i one g some comes = along action (from_first action) (suc i) i one g some (by comes) where
    by : ComesBefore one.action i (suc action) 0 → ComesBefore one.action i action (suc i)
    by (inr same) = let low : i < 0 = same.1 in absurd (omega (arith, low))
    by (inl less) = on (cases_lt one.action action) where
      on : (one.action < action) ⊎ (action ≤ one.action) → ComesBefore one.action i action (suc i)
      on (inl lower) = inl lower
      on (inr most) = inr (omega (arith, most, less), omega arith)

  pub each_made : (i : ℕ) (one : RowChange) → StandsAt changes i one → (version : ℕ) → version ≤ one.version → Made given all one.row version
  each_made i one g = climb i one one.version g (omega arith) acted where
    acted : (j : ℕ) (other : RowChange) → StandsAt changes j other → other.row ≡ one.row → other.version ≤ one.version → 0 < other.action
        → Made given all other.row other.version
    acted j other h r l some = along other.action (from_first other.action) (suc j) j other h some (inr (refl, omega arith)) other.version (omega arith)

  found_change : (place : Placed) (change : Change) → IsAmong place all → row_change place.entry ≡ change ∷ []
      → (i : ℕ) × (one : RowChange) × StandsAt changes i one × (change_of one ≡ change)
  found_change place change i e =
      let h : (i : ℕ) × (one : RowChange) × StandsAt changes i one × IsChangeOf given place one =
      of_change given (changing all) changes place made (changing_there all place change i e) in
      (h.0, h.1, h.2, head (sym h.3.change ∙ e))

  pub had_made : (row version : ℕ) → IsHad all row version → Made given all row version
  had_made row version (inl e) = subst (Made given all row) (sym e) (opening_words row, Opens row (opening_words row) refl)
  had_made row version (inr i) =
      let p : (place : Placed) × IsAmong place all × (row_change place.entry ≡ change_at row version ∷ []) = of_list all (change_at row version) i in
      let h : (i : ℕ) × (one : RowChange) × StandsAt changes i one × (change_of one ≡ change_at row version) = found_change p.0 (change_at row version) p.1 p.2 in
      subst (λ (z : Change). Made given all z.row z.version) h.3 (each_made h.0 h.1 h.2 h.1.version (omega arith))

  pub had_before : (place : Placed) (row version : ℕ) → IsAmong place all → row_change place.entry ≡ change_at row version ∷ [] → IsHad all row (version - 1)
  had_before place row version i e = by (cases_lt 1 version) where
    h : (i : ℕ) × (one : RowChange) × StandsAt changes i one × (change_of one ≡ change_at row version)
    h = found_change place (change_at row version) i e

    version_is : h.1.version ≡ version
    version_is = ap (λ (z : Change). z.version) h.3

    by : (1 < version) ⊎ (version ≤ 1) → IsHad all row (version - 1)
    by (inr low) = inl (omega (arith, low))
    by (inl more) =
        let b : HasBefore changes h.1 = ord.chained h.0 h.1 h.2 (omega (arith, more, version_is)) in
        let v : b.before.version + 1 ≡ h.1.version = b.version_is in
        let p : (place : Placed) × IsAmong place (changing all) × IsChangeOf given place b.before = of_entry given (changing all) changes b.place b.before made b.there in
        let e : change_of b.before ≡ change_at row (version - 1) =
        ap (λ z. change_at z b.before.version) (b.row_is ∙ ap (λ (z : Change). z.row) h.3) ∙ ap (change_at row) (omega (arith, v, version_is)) in
        inr (to_list all p.0 (change_at row (version - 1)) (changing_own all p.0 p.1) (p.2.change ∙ ap (λ z. z ∷ []) e))

-- what is made was had
made_had : (given : Given) (all : List Placed) (row version : ℕ) (words : List ℕ) → IsMade given all row version words → IsHad all row version
made_had given all row version words m = on m where
  on : {r v : ℕ} {w : List ℕ} → IsMade given all r v w → IsHad all r v
  on (Opens r w e) = inl refl
  on (Changes place r before here w among change other made e) = inr (to_list all place (change_at r (before + 1)) among change)
  on (Gives place r before from here source w among give own made taken e) = inr (to_list all place (change_at r (before + 1)) among (ap row_change give))

pub kept : KeptLaw
kept given all changes shelf made ord is = record { made = made_kept; only = only } where
  only : (row version : ℕ) (words : List ℕ) → IsMade given all row version words → content_at shelf row version ≡ words
  only row version words m =
      is.only is.content is.are row version (made_had given all row version words m) ∙ only_content given is.content all is.are m

  made_kept : (row version : ℕ) → IsHad all row version → IsMade given all row version (content_at shelf row version)
  made_kept row version had =
      let h : Made given all row version = had_made given all changes made ord row version had in
      subst (IsMade given all row version) (sym (only row version h.0 h.1)) h.1

pub before : BeforeLaw
before given all changes place row version made ord = had_before given all changes made ord place row version

pub finds : FindsLaw
finds given all shelf counted row version is had = (one, other) where
  one : FindsWhatIsMade given all counted (says.Take row version) → counted row ≡ counts_at shelf row (version - 1)
  one found = found (content_at shelf row (version - 1)) (is.made row (version - 1) had)

  other : counted row ≡ counts_at shelf row (version - 1) → FindsWhatIsMade given all counted (says.Take row version)
  other e words m = e ∙ ap (λ z. not ((stat_of_words z).count == 0)) (is.only row (version - 1) words m)
