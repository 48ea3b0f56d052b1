-- The changes of a report that keeps its rules are orderly.
use Rattle.std.proofs.Common.{◌≡◌, refl, ℕ, zero, suc, ◌+◌, ◌-◌, ◌<◌, ◌≤◌, ◌==◌, Bool, true, false, cond, List, [], ◌∷◌, ◌++◌, length, map, sym, ◌∙◌, ap, subst, ◌⊎◌, inl, inr, arith, Some}
use Rattle.std.specs.Prelude.{slice_get}
use Rattle.std.specs.Option.{option_map}
use Rattle.std.specs.List.{AllZip}
use Rattle.std.proofs.lemmas.Bool.{cases_lt}
use Rattle.std.proofs.lemmas.Option.{same_Some, slice_get-map}
use Rattle.pfs_event.specs.declared.entry.Entry.{Entry}
use Rattle.pfs_event.specs.declared.entry.Entry.TheVariants as says
use Rattle.pfs_model.specs.declared.changes.Change.{Change}
use Rattle.pfs_model.specs.Actions.{AllAbove, Deed, IsAmong, deed_at, numbers_by}
use Rattle.pfs_model.specs.Chains.{IsChained, action_change, change_at, each_of, is_that, row_change, times}
use Rattle.pfs_model.specs.Contents.{Given}
use Rattle.pfs_model.specs.EntryPlaces.{Block, Placed, places}
use Rattle.pfs_model.specs.Floors.{AreFlooredBehind, NamingsKeep, namings_of}
use Rattle.pfs_model.proofs.ChainGrowth.{times_append}
use Rattle.pfs_model.proofs.LineWalks.{past}
use Rattle.pfs_model.proofs.Members.{among_back, among_front}
use Rattle.pfs_law_replay.specs.EarlierChanges.{BelowLaw, RisesLaw}
use Rattle.pfs_check_contents.specs.declared.changes.Effect.{Effect}
use Rattle.pfs_check_contents.specs.declared.changes.Effect.TheVariants as effects
use Rattle.pfs_check_contents.specs.declared.changes.RowChange.{RowChange}
use Rattle.pfs_check_contents.specs.ChangeReplays.{change_of}
use Rattle.pfs_check_contents.specs.OrderlyChanges.{AreOrderly, ComesBefore, HasBefore, HasTaken}
use Rattle.pfs_check_contents.specs.PlacedChanges.{AreMadeOf, IsChangeOf, IsPlain, IsSourceOf, acting, changing, is_changing}
use Rattle.pfs_check_contents.proofs.PickedPlaces.{among_at, at_among}
use Rattle.pfs_check_contents.proofs.ReplayedChanges.{same_changes}
use Rattle.pfs_law_orderly.specs.RuledChanges.{AreRuled, OrderlyLaw}
use Rattle.pfs_law_orderly.proofs.ChangingEntries.{changing_own, changing_there, each_changing}
use Rattle.pfs_law_orderly.proofs.PlacedWalks.{IsPlaced, IsTakenIn, Walked, all_walked}
use Rattle.pfs_law_orderly.proofs.RowChains.{all_chained, chain_before, chain_few, chain_positive, chain_single, that_self}

-- an entry of a list, with those before it and those behind it
pub record IsSplit (all : List Placed) (index : ℕ) (place : Placed) : Type 0 where
  pub front : List Placed
  pub back : List Placed
  pub whole : all ≡ front ++ place ∷ back
  pub many : length (changing front) ≡ index

split_at : (all : List Placed) (index : ℕ) (place : Placed) → slice_get (changing all) index ≡ Some place → IsSplit all index place
split_at [] index place g = absurd (cc)
split_at (p ∷ ps) index place g = on (is_changing p) refl index g (split_at ps) where
  more : (b : Bool) → is_changing p ≡ b → (index n : ℕ) → index ≡ length (cond b (p ∷ []) []) + n → IsSplit ps n place → IsSplit (p ∷ ps) index place
  more b e index n q s = record {
    front = p ∷ s.front;
    back = s.back;
    whole = ap (λ z. p ∷ z) s.whole;
    many = ap (λ z. length (cond z (p ∷ []) [] ++ changing s.front)) e ∙ both b s.many ∙ sym q;
  } where
    both : (b : Bool) → length (changing s.front) ≡ n → length (cond b (p ∷ []) [] ++ changing s.front) ≡ length (cond b (p ∷ []) []) + n
    both true m = omega (arith, m)
    both false m = omega (arith, m)

  on : (b : Bool) → is_changing p ≡ b → (index : ℕ) → slice_get (cond b (p ∷ []) [] ++ changing ps) index ≡ Some place
      → ((index : ℕ) (place : Placed) → slice_get (changing ps) index ≡ Some place → IsSplit ps index place) → IsSplit (p ∷ ps) index place
  on true e zero g rest = record { front = []; back = ps; whole = ap (λ z. z ∷ ps) (same_Some p place g); many = refl }
  on true e (suc n) g rest = more true e (suc n) n (omega arith) (rest n place g)
  on false e index g rest = more false e index index (omega arith) (rest index place g)

changing_append : (xs ys : List Placed) → changing (xs ++ ys) ≡ changing xs ++ changing ys
changing_append [] ys = refl
changing_append (x ∷ xs) ys = on (is_changing x) (changing_append xs ys) where
  on : (b : Bool) → changing (xs ++ ys) ≡ changing xs ++ changing ys
      → cond b (x ∷ []) [] ++ changing (xs ++ ys) ≡ (cond b (x ∷ []) [] ++ changing xs) ++ changing ys
  on true e = ap (λ z. x ∷ z) e
  on false e = e

get_joined : {A : Type 0} (xs ys : List A) (i : ℕ) (x : A) → slice_get xs i ≡ Some x → slice_get (xs ++ ys) i ≡ Some x
get_joined [] ys i x g = absurd (cc)
get_joined (y ∷ xs) ys zero x g = g
get_joined (y ∷ xs) ys (suc i) x g = get_joined xs ys i x g

get_first : {A : Type 0} (xs ys : List A) (i : ℕ) (x : A) → i < length xs → slice_get (xs ++ ys) i ≡ Some x → slice_get xs i ≡ Some x
get_first [] ys i x l g = absurd (omega (arith, l))
get_first (y ∷ xs) ys zero x l g = g
get_first (y ∷ xs) ys (suc i) x l g = get_first xs ys i x (omega (arith, l)) g

-- a change among those before an entry has a lower place, and the other way
front_low : (all : List Placed) (index : ℕ) (place other : Placed) (change : Change) (s : IsSplit all index place) → IsAmong other s.front
    → row_change other.entry ≡ change ∷ [] → (at : ℕ) × (at < index) × (slice_get (changing all) at ≡ Some other)
front_low all index place other change s i e = on (changing_there s.front other i) where
  on : (row_change other.entry ≡ []) ⊎ IsAmong other (changing s.front) → (at : ℕ) × (at < index) × (slice_get (changing all) at ≡ Some other)
  on (inl none) = absurd (no (sym none ∙ e)) where
    no : [] ≡ change ∷ [] → ⊥
    no q = cc
  on (inr j) =
      let h : (at : ℕ) × (at < length (changing s.front)) × (slice_get (changing s.front) at ≡ Some other) = among_at (changing s.front) other j in
      let l : h.0 < length (changing s.front) = h.1 in
      let many : length (changing s.front) ≡ index = s.many in (
        h.0,
        omega (arith, l, many),
        ap (λ z. slice_get z h.0) (ap changing s.whole ∙ changing_append s.front (place ∷ s.back))
            ∙ get_joined (changing s.front) (changing (place ∷ s.back)) h.0 other h.2,
      )

low_front : (all : List Placed) (index at : ℕ) (place other : Placed) (s : IsSplit all index place) → at < index → slice_get (changing all) at ≡ Some other
    → IsAmong other s.front
low_front all index at place other s l g =
    let many : length (changing s.front) ≡ index = s.many in
    changing_own s.front other
    (at_among (changing s.front) at other (get_first (changing s.front) (changing (place ∷ s.back)) at other (omega (arith, l, many))
    (ap (λ z. slice_get z at) (sym (ap changing s.whole ∙ changing_append s.front (place ∷ s.back))) ∙ g)))

among_past : (other : Placed) (earlier xs : List Placed) → IsAmong other earlier → IsAmong other (past earlier xs)
among_past other earlier [] i = i
among_past other earlier (x ∷ xs) i = among_past other (x ∷ earlier) xs (inr i)

front_past : (other : Placed) (earlier xs : List Placed) → IsAmong other xs → IsAmong other (past earlier xs)
front_past other earlier [] i = absurd i
front_past other earlier (x ∷ xs) (inl e) = among_past other (x ∷ earlier) xs (inl e)
front_past other earlier (x ∷ xs) (inr i) = front_past other (x ∷ earlier) xs i

past_front : (other : Placed) (earlier xs : List Placed) → IsAmong other (past earlier xs) → IsAmong other earlier ⊎ IsAmong other xs
past_front other earlier [] i = inl i
past_front other earlier (x ∷ xs) i = on (past_front other (x ∷ earlier) xs i) where
  on : IsAmong other (x ∷ earlier) ⊎ IsAmong other xs → IsAmong other earlier ⊎ IsAmong other (x ∷ xs)
  on (inl (inl e)) = inr (inl e)
  on (inl (inr j)) = inl j
  on (inr j) = inr (inr j)

-- what holds along the entries holds of one
walked_at : (earlier front back : List Placed) (place : Placed) → Walked earlier (front ++ place ∷ back) → IsPlaced (past earlier front) place
walked_at earlier [] back place w = w.0
walked_at earlier (x ∷ front) back place w = walked_at (x ∷ earlier) front back place w.1

floored_at : (all earlier front back : List Placed) (place : Placed) → AreFlooredBehind all earlier (front ++ place ∷ back)
    → NamingsKeep all (past earlier front) place (namings_of place.entry)
floored_at all earlier [] back place f = f.0
floored_at all earlier (x ∷ front) back place f = floored_at all (x ∷ earlier) front back place f.2

-- the change at a place and the entry that it is of
zip_there : (given : Given) (xs : List Placed) (ys : List RowChange) (i : ℕ) (one : RowChange) → AllZip (IsChangeOf given) xs ys → slice_get ys i ≡ Some one
    → (place : Placed) × (slice_get xs i ≡ Some place) × IsChangeOf given place one
zip_there given [] [] i one z g = absurd (cc)
zip_there given [] (y ∷ ys) i one z g = absurd z
zip_there given (x ∷ xs) [] i one z g = absurd z
zip_there given (x ∷ xs) (y ∷ ys) zero one z g = (x, refl, subst (IsChangeOf given x) (same_Some y one g) z.0)
zip_there given (x ∷ xs) (y ∷ ys) (suc i) one z g = zip_there given xs ys i one z.1 g

zip_back : (given : Given) (xs : List Placed) (ys : List RowChange) (i : ℕ) (place : Placed) → AllZip (IsChangeOf given) xs ys → slice_get xs i ≡ Some place
    → (one : RowChange) × (slice_get ys i ≡ Some one) × IsChangeOf given place one
zip_back given [] [] i place z g = absurd (cc)
zip_back given [] (y ∷ ys) i place z g = absurd z
zip_back given (x ∷ xs) [] i place z g = absurd z
zip_back given (x ∷ xs) (y ∷ ys) zero place z g = (y, refl, subst (λ p. IsChangeOf given p y) (same_Some x place g) z.0)
zip_back given (x ∷ xs) (y ∷ ys) (suc i) place z g = zip_back given xs ys i place z.1 g

-- an action's change has its number, and is a deed
acting_is : (action : ℕ) (entry : Entry) → 0 < acting action entry → (deed : Deed) × (deed_at action entry ≡ deed ∷ []) × (acting action entry ≡ action)
acting_is action (says.Take row version) l = (record { action = action; row = row; version = version; releases = false }, refl, refl)
acting_is action (says.Give row version from) l = (record { action = action; row = row; version = version; releases = false }, refl, refl)
acting_is action (says.Tag row version) l = (record { action = action; row = row; version = version; releases = false }, refl, refl)
acting_is action _ l = absurd (omega (arith, l))

-- entries that say the same number are the same
some_said : (change : Change) (xs : List Placed) (one : Placed) → IsAmong one xs → action_change one.entry ≡ change ∷ [] → 1 ≤ times (is_that change) (each_of action_change xs)
some_said change [] one i e = absurd i
some_said change (x ∷ xs) one (inl q) e =
    let own : times (is_that change) (action_change x.entry) ≡ 1 = ap (times (is_that change)) (ap (λ (z : Placed). action_change z.entry) q ∙ e) ∙ ap (λ b. cond b 1 0 + 0) (that_self change) in
    let all : times (is_that change) (action_change x.entry ++ each_of action_change xs) ≡ times (is_that change) (action_change x.entry) + times (is_that change) (each_of action_change xs) =
    times_append (is_that change) (action_change x.entry) (each_of action_change xs) in
    omega (arith, own, all)
some_said change (x ∷ xs) one (inr i) e =
    let rest : 1 ≤ times (is_that change) (each_of action_change xs) = some_said change xs one i e in
    let all : times (is_that change) (action_change x.entry ++ each_of action_change xs) ≡ times (is_that change) (action_change x.entry) + times (is_that change) (each_of action_change xs) =
    times_append (is_that change) (action_change x.entry) (each_of action_change xs) in
    omega (arith, rest, all)

one_said : (change : Change) (xs : List Placed) (one other : Placed) → times (is_that change) (each_of action_change xs) ≤ 1 → IsAmong one xs → IsAmong other xs
    → action_change one.entry ≡ change ∷ [] → action_change other.entry ≡ change ∷ [] → one ≡ other
one_said change [] one other few i j e f = absurd i
one_said change (x ∷ xs) one other few i j e f = on i j (one_said change xs one other) where
  all : times (is_that change) (action_change x.entry ++ each_of action_change xs) ≡ times (is_that change) (action_change x.entry) + times (is_that change) (each_of action_change xs)
  all = times_append (is_that change) (action_change x.entry) (each_of action_change xs)

  own : (p : Placed) → x ≡ p → action_change p.entry ≡ change ∷ [] → times (is_that change) (action_change x.entry) ≡ 1
  own p q e = ap (times (is_that change)) (ap (λ (z : Placed). action_change z.entry) q ∙ e) ∙ ap (λ b. cond b 1 0 + 0) (that_self change)

  twice : (p q : Placed) → x ≡ p → action_change p.entry ≡ change ∷ [] → IsAmong q xs → action_change q.entry ≡ change ∷ [] → ⊥
  twice p q r e j f = omega (arith, own p r e, some_said change xs q j f, all, few)

  on : (x ≡ one) ⊎ IsAmong one xs → (x ≡ other) ⊎ IsAmong other xs
      → (times (is_that change) (each_of action_change xs) ≤ 1 → IsAmong one xs → IsAmong other xs → action_change one.entry ≡ change ∷ []
      → action_change other.entry ≡ change ∷ [] → one ≡ other) → one ≡ other
  on (inl p) (inl q) rest = sym p ∙ q
  on (inl p) (inr k) rest = absurd (twice one other p e k f)
  on (inr h) (inl q) rest = absurd (twice other one q f h e)
  on (inr h) (inr k) rest = rest (omega (arith, all, few)) h k e f

-- the numbers of the actions are above 0, and rise along each session
said_above : (xs : List Placed) → ((c : Change) → IsAmong c (each_of action_change xs) → 0 < c.version) → (session : ℕ) → AllAbove 0 (numbers_by session xs)
said_above [] h session = tt
said_above (x ∷ xs) h session =
    on (x.session == session) (said_above xs (λ c i. h c (among_back c (action_change x.entry) (each_of action_change xs) i)) session) where
      parts : (cs ds : List Change) → ((c : Change) → IsAmong c (cs ++ ds) → 0 < c.version) → AllAbove 0 (numbers_by session xs) → AllAbove 0 (cs ++ numbers_by session xs)
      parts [] ds h r = r
      parts (c ∷ cs) ds h r = (h c (inl refl), parts cs ds (λ d i. h d (inr i)) r)

      on : (b : Bool) → AllAbove 0 (numbers_by session xs) → AllAbove 0 (cond b (action_change x.entry) [] ++ numbers_by session xs)
      on true r = parts (action_change x.entry) (each_of action_change xs) h r
      on false r = r

map_back : (xs : List RowChange) (i : ℕ) (c : Change) → slice_get (map change_of xs) i ≡ Some c → (one : RowChange) × (slice_get xs i ≡ Some one) × (change_of one ≡ c)
map_back [] i c g = absurd (cc)
map_back (x ∷ xs) zero c g = (x, refl, same_Some (change_of x) c g)
map_back (x ∷ xs) (suc i) c g = map_back xs i c g

change_head : {x y : Change} → (x ∷ []) ≡ (y ∷ []) → x ≡ y
change_head {x} {y} e = ap (λ changes. first changes x) e where
  first : List Change → Change → Change
  first [] d = d
  first (c ∷ cs) d = c

module _ (given : Given) (blocks : List Block) (changes : List RowChange) (ruled : AreRuled blocks) (made : AreMadeOf given (places blocks) changes) (rise : RisesLaw) (below : BelowLaw) where
  same : each_of row_change (places blocks) ≡ map change_of changes
  same = sym (each_changing (places blocks)) ∙ same_changes given (changing (places blocks)) changes made

  chained : IsChained (map change_of changes)
  chained = subst IsChained same (all_chained row_change (places blocks) ruled.rows)

  at_change : (i : ℕ) (one : RowChange) → slice_get changes i ≡ Some one → slice_get (map change_of changes) i ≡ Some (change_of one)
  at_change i one g = slice_get-map change_of changes i ∙ ap (option_map change_of) g

  positive : (c : Change) → IsAmong c (each_of action_change (places blocks)) → 0 < c.version
  positive c i =
      let h : (at : ℕ) × (at < length (each_of action_change (places blocks))) × (slice_get (each_of action_change (places blocks)) at ≡ Some c) =
      among_at (each_of action_change (places blocks)) c i in
      chain_positive (each_of action_change (places blocks)) (all_chained action_change (places blocks) ruled.numbers) h.0 c h.2

  walked : Walked [] (places blocks)
  walked = all_walked blocks ruled.shaped (λ session. record { above = said_above (places blocks) positive session; rising = ruled.rising session })

  placed : (index : ℕ) (place : Placed) (s : IsSplit (places blocks) index place) → IsPlaced (past [] s.front) place
  placed index place s = walked_at [] s.front s.back place (subst (Walked []) s.whole walked)

  whole_among : (index : ℕ) (place other : Placed) (s : IsSplit (places blocks) index place) → IsAmong other s.front → IsAmong other (places blocks)
  whole_among index place other s i = subst (IsAmong other) (sym s.whole) (among_front other s.front (place ∷ s.back) i)

  own_among : (index : ℕ) (place : Placed) (s : IsSplit (places blocks) index place) → IsAmong place (places blocks)
  own_among index place s = subst (IsAmong place) (sym s.whole) (among_back place s.front (place ∷ s.back) (inl refl))

  earlier_among : (index : ℕ) (place other : Placed) (s : IsSplit (places blocks) index place) → IsAmong other (past [] s.front) → IsAmong other s.front
  earlier_among index place other s i = on (past_front other [] s.front i) where
    on : IsAmong other [] ⊎ IsAmong other s.front → IsAmong other s.front
    on (inl j) = absurd j
    on (inr j) = j

  -- entries in one action are of one session
  one_session : (i j : ℕ) (p q : Placed) (s : IsSplit (places blocks) i p) (t : IsSplit (places blocks) j q) → 0 < p.context.action → p.context.action ≡ q.context.action
      → q.session ≡ p.session
  one_session i j p q s t some e =
      let mine : (x : Placed) × IsAmong x (past [] s.front) × (x.session ≡ p.session) × (action_change x.entry ≡ change_at 0 p.context.action ∷ []) = (placed i p s).begun some in
      let yours : (x : Placed) × IsAmong x (past [] t.front) × (x.session ≡ q.session) × (action_change x.entry ≡ change_at 0 q.context.action ∷ []) =
      (placed j q t).begun (omega (arith, some, e)) in
      let one : mine.0 ≡ yours.0 = one_said (change_at 0 p.context.action) (places blocks) mine.0 yours.0
      (chain_few (each_of action_change (places blocks)) (all_chained action_change (places blocks) ruled.numbers) (change_at 0 p.context.action))
      (whole_among i p mine.0 s (earlier_among i p mine.0 s mine.1)) (whole_among j q yours.0 t (earlier_among j q yours.0 t yours.1)) mine.3
      (yours.3 ∙ ap (λ z. change_at 0 z ∷ []) (sym e)) in
      sym yours.2 ∙ ap (λ (z : Placed). z.session) (sym one) ∙ mine.2

  comes : (i j : ℕ) (one next : RowChange) → slice_get changes i ≡ Some one → slice_get changes j ≡ Some next → one.row ≡ next.row → one.version < next.version
      → 0 < one.action → 0 < next.action → ComesBefore one.action i next.action j
  comes i j one next g h r l a b = on (cases_lt one.action next.action) (cases_lt i j) where
    mine : (place : Placed) × (slice_get (changing (places blocks)) i ≡ Some place) × IsChangeOf given place one
    mine = zip_there given (changing (places blocks)) changes i one made g

    yours : (place : Placed) × (slice_get (changing (places blocks)) j ≡ Some place) × IsChangeOf given place next
    yours = zip_there given (changing (places blocks)) changes j next made h

    s : IsSplit (places blocks) i mine.0
    s = split_at (places blocks) i mine.0 mine.1

    t : IsSplit (places blocks) j yours.0
    t = split_at (places blocks) j yours.0 yours.1

    of_mine : (deed : Deed) × (deed_at mine.0.context.action mine.0.entry ≡ deed ∷ []) × (acting mine.0.context.action mine.0.entry ≡ mine.0.context.action)
    of_mine = acting_is mine.0.context.action mine.0.entry (subst (λ z. 0 < z) mine.2.action a)

    of_yours : (deed : Deed) × (deed_at yours.0.context.action yours.0.entry ≡ deed ∷ []) × (acting yours.0.context.action yours.0.entry ≡ yours.0.context.action)
    of_yours = acting_is yours.0.context.action yours.0.entry (subst (λ z. 0 < z) yours.2.action b)

    mine_is : one.action ≡ mine.0.context.action
    mine_is = mine.2.action ∙ of_mine.2

    yours_is : next.action ≡ yours.0.context.action
    yours_is = yours.2.action ∙ of_yours.2

    up : one.action ≤ next.action
    up =
        let low : mine.0.context.action ≤ yours.0.context.action =
        below (places blocks) yours.0 mine.0 (change_of next) (change_of one) of_yours.0 of_mine.0 ruled.deeds (own_among j yours.0 t) (own_among i mine.0 s)
        yours.2.change mine.2.change r of_yours.1 of_mine.1 l in
        omega (arith, low, mine_is, yours_is)

    back : one.action ≡ next.action → j < i → ⊥
    back e m =
        let front : IsAmong yours.0 s.front = low_front (places blocks) i j mine.0 yours.0 s m yours.1 in
        let session : yours.0.session ≡ mine.0.session = one_session i j mine.0 yours.0 s t (subst (λ z. 0 < z) mine_is a) (sym mine_is ∙ e ∙ yours_is) in
        let low : next.version < one.version =
        rise (places blocks) (past [] s.front) mine.0 yours.0 (change_of one) (change_of next)
        (floored_at (places blocks) [] s.front s.back mine.0 (subst (AreFlooredBehind (places blocks) []) s.whole ruled.floored))
        (front_past yours.0 [] s.front front) session mine.2.change yours.2.change (sym r) in
        omega (arith, low, l)

    on : (one.action < next.action) ⊎ (next.action ≤ one.action) → (i < j) ⊎ (j ≤ i) → ComesBefore one.action i next.action j
    on (inl less) c = inl less
    on (inr most) (inl less) = inr (omega (arith, up, most), less)
    on (inr most) (inr high) = by (cases_lt j i) where
      by : (j < i) ⊎ (i ≤ j) → ComesBefore one.action i next.action j
      by (inl less) = absurd (back (omega (arith, up, most)) less)
      by (inr low) =
          let e : i ≡ j = omega (arith, high, low) in
          let v : one.version ≡ next.version = ap (λ (z : RowChange). z.version) (same_Some one next (sym g ∙ ap (slice_get changes) e ∙ h)) in
          absurd (omega (arith, v, l))

  source_of : (i : ℕ) (one : RowChange) (from version : ℕ) (place : Placed) (entry : Entry) → slice_get (changing (places blocks)) i ≡ Some place → place.entry ≡ entry
      → one.action ≡ acting place.context.action entry → IsSourceOf place.context entry one.effect → one.effect ≡ effects.Give from version
      → HasTaken changes from version one.action i
  source_of i one from version place (says.Give row at other) g p a source e =
      let s : IsSplit (places blocks) i place = split_at (places blocks) i place g in
      let give : effects.Give other place.context.source_version ≡ effects.Give from version = sym source.1 ∙ e in
      let row_is : other ≡ from = ap (λ z. given_row z) give in
      let version_is : place.context.source_version ≡ version = ap (λ z. given_version z) give in
      let taken : IsTakenIn (past [] s.front) place.context other = (placed i place s).source other source.0 in
      let h : (at : ℕ) × (at < i) × (slice_get (changing (places blocks)) at ≡ Some taken.place) =
      front_low (places blocks) i place taken.place (change_at other place.context.source_version) s
      (earlier_among i place taken.place s taken.there) (ap row_change taken.take_is) in
      let c : (x : RowChange) × (slice_get changes h.0 ≡ Some x) × IsChangeOf given taken.place x = zip_back given (changing (places blocks)) changes h.0 taken.place made h.2 in
      let change : change_of c.0 ≡ change_at other place.context.source_version = change_head (sym c.2.change ∙ ap row_change taken.take_is) in
      let action : c.0.action ≡ taken.place.context.action = c.2.action ∙ ap (acting taken.place.context.action) taken.take_is in
      record {
        place = h.0;
        source = c.0;
        there = c.1;
        row_is = ap (λ (z : Change). z.row) change ∙ row_is;
        version_is = ap (λ (z : Change). z.version) change ∙ version_is;
        acted = omega (arith, taken.acted, action);
        comes = before c.0.action h.0 taken.place.context.action place.context.action action taken.low h.1 a;
      } where
        given_row : Effect → ℕ
        given_row (effects.Give from version) = from
        given_row _ = 0

        given_version : Effect → ℕ
        given_version (effects.Give from version) = version
        given_version _ = 0

        before : (x at m n : ℕ) → x ≡ m → m ≤ n → at < i → one.action ≡ n → ComesBefore x at one.action i
        before x at m n e l low f = by (cases_lt x one.action) where
          by : (x < one.action) ⊎ (one.action ≤ x) → ComesBefore x at one.action i
          by (inl less) = inl less
          by (inr most) = inr (omega (arith, e, l, f, most), low)
  source_of i one from version place _ g p a source e = absurd (plain one.effect source e) where
    plain : (effect : Effect) → IsPlain effect → effect ≡ effects.Give from version → ⊥
    plain (effects.Give x y) s e = s
    plain _ s e = absurd (cc)

  are_orderly : AreOrderly changes
  are_orderly = record {
    positive = λ i one g. chain_positive (map change_of changes) chained i (change_of one) (at_change i one g);
    single = λ i j one next g h e. chain_single (map change_of changes) chained i j (change_of one) (at_change i one g) (at_change j next h ∙ ap Some (sym e));
    chained = before;
    rises = comes;
    sourced = λ i one from version g e.
        let mine : (place : Placed) × (slice_get (changing (places blocks)) i ≡ Some place) × IsChangeOf given place one =
        zip_there given (changing (places blocks)) changes i one made g in
        source_of i one from version mine.0 mine.0.entry mine.1 refl mine.2.action mine.2.source e;
  } where
    before : (i : ℕ) (one : RowChange) → slice_get changes i ≡ Some one → 1 < one.version → HasBefore changes one
    before i one g more =
        let h : (j : ℕ) × (slice_get (map change_of changes) j ≡ Some (change_at one.row (one.version - 1))) =
        chain_before (map change_of changes) chained i (change_of one) (at_change i one g) more in
        let c : (x : RowChange) × (slice_get changes h.0 ≡ Some x) × (change_of x ≡ change_at one.row (one.version - 1)) =
        map_back changes h.0 (change_at one.row (one.version - 1)) h.1 in
        let version : c.0.version ≡ one.version - 1 = ap (λ (z : Change). z.version) c.2 in
        record { place = h.0; before = c.0; there = c.1; row_is = ap (λ (z : Change). z.row) c.2; version_is = omega (arith, version, more) }

pub orderly : RisesLaw → BelowLaw → OrderlyLaw
orderly rise below given blocks changes ruled made = are_orderly given blocks changes ruled made rise below
