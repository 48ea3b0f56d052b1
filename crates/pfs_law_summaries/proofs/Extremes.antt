-- What the events of a row add up to: how many they are, and the least and the greatest of their waits.
use Rattle.std.proofs.Common.{◌≡◌, refl, ℕ, ◌+◌, ◌-◌, ◌^◌, ◌%◌, ◌<◌, ◌≤◌, Bool, true, false, cond, nat_le, List, [], ◌∷◌, ◌++◌, length, map, fold, min, max, sym, ap, subst, ◌∙◌, arith}
use Rattle.std.specs.Prelude.{All, Contains, if◌then◌else◌}
use Rattle.std.proofs.lemmas.List.Elements.{All-nil, All-cons, All-head, All-tail, All-contains, All-weaker}
use Rattle.pfs_model.specs.Contents.{Given, Facts, measure_of, amount_of}
use Rattle.pfs_model.specs.SetupFlags.{is_timed}
use Rattle.pfs_stat.specs.Stat.{merge_of, merge_all, stat_of, zero_of}
use Rattle.pfs_stat.specs.declared.Stat.{Stat}
use Rattle.pfs_summaries.specs.RowValues.{timed_number}
use Rattle.pfs_law_conservation.specs.RunEvents.{Ended}
use Rattle.pfs_law_summaries.specs.Extremes.{timed_waits, AreExtremes}
use Rattle.pfs_law_summaries.proofs.ListMembers.{first, later}

-- ---- the least and the greatest of a list

abbrev pub least_in : List ℕ → ℕ
least_in [] = 2 ^ 64 - 1
least_in (w ∷ ws) = min w (least_in ws)

abbrev pub greatest_in : List ℕ → ℕ
greatest_in [] = 0
greatest_in (w ∷ ws) = max w (greatest_in ws)

least_low : (ws : List ℕ) → least_in ws ≤ 2 ^ 64 - 1
least_low [] = omega arith
least_low (w ∷ ws) = let l : least_in ws ≤ 2 ^ 64 - 1 = least_low ws in omega (arith, l)

pub least_joined : (xs ys : List ℕ) → least_in (xs ++ ys) ≡ min (least_in xs) (least_in ys)
least_joined [] ys = let l : least_in ys ≤ 2 ^ 64 - 1 = least_low ys in omega (arith, l)
least_joined (x ∷ xs) ys = let e : least_in (xs ++ ys) ≡ min (least_in xs) (least_in ys) = least_joined xs ys in omega (arith, e)

pub greatest_joined : (xs ys : List ℕ) → greatest_in (xs ++ ys) ≡ max (greatest_in xs) (greatest_in ys)
greatest_joined [] ys = omega arith
greatest_joined (x ∷ xs) ys = let e : greatest_in (xs ++ ys) ≡ max (greatest_in xs) (greatest_in ys) = greatest_joined xs ys in omega (arith, e)

all_above : (ws : List ℕ) → All (λ w. least_in ws ≤ w) ws
all_above [] = All-nil (λ w. least_in [] ≤ w)
all_above (w ∷ ws) = All-cons (λ v. least_in (w ∷ ws) ≤ v) w ws (omega arith) (All-weaker (λ v. least_in ws ≤ v) (λ v. least_in (w ∷ ws) ≤ v) (λ v l. (let k : least_in ws ≤ v = l in omega (arith, k))) ws (all_above ws))

all_under : (ws : List ℕ) → All (λ w. w ≤ greatest_in ws) ws
all_under [] = All-nil (λ w. w ≤ greatest_in [])
all_under (w ∷ ws) = All-cons (λ v. v ≤ greatest_in (w ∷ ws)) w ws (omega arith) (All-weaker (λ v. v ≤ greatest_in ws) (λ v. v ≤ greatest_in (w ∷ ws)) (λ v l. (let k : v ≤ greatest_in ws = l in omega (arith, k))) ws (all_under ws))

least_member : (w : ℕ) (ws : List ℕ) → All (λ v. v < 2 ^ 64) (w ∷ ws) → Contains (w ∷ ws) (least_in (w ∷ ws))
least_member w [] h = subst (Contains (w ∷ [])) (let l : w < 2 ^ 64 = All-head (λ v. v < 2 ^ 64) w [] h in omega (arith, l)) (first w [])
least_member w (v ∷ ws) h = at (nat_le w (least_in (v ∷ ws))) refl (least_member v ws (All-tail (λ v. v < 2 ^ 64) w (v ∷ ws) h)) where
  low : (a b : ℕ) → nat_le a b ≡ true → a ≡ min a b
  low a b q = grind arith

  high : (a b : ℕ) → nat_le a b ≡ false → b ≡ min a b
  high a b q = grind arith

  at : (b : Bool) → nat_le w (least_in (v ∷ ws)) ≡ b → Contains (v ∷ ws) (least_in (v ∷ ws)) → Contains (w ∷ v ∷ ws) (least_in (w ∷ v ∷ ws))
  at true q c = subst (Contains (w ∷ v ∷ ws)) (low w (least_in (v ∷ ws)) q) (first w (v ∷ ws))
  at false q c = subst (Contains (w ∷ v ∷ ws)) (high w (least_in (v ∷ ws)) q) (later w (v ∷ ws) (least_in (v ∷ ws)) c)

greatest_member : (w : ℕ) (ws : List ℕ) → Contains (w ∷ ws) (greatest_in (w ∷ ws))
greatest_member w [] = subst (Contains (w ∷ [])) (omega arith) (first w [])
greatest_member w (v ∷ ws) = at (nat_le (greatest_in (v ∷ ws)) w) refl (greatest_member v ws) where
  high : (a b : ℕ) → nat_le b a ≡ true → a ≡ max a b
  high a b q = grind arith

  low : (a b : ℕ) → nat_le b a ≡ false → b ≡ max a b
  low a b q = grind arith

  at : (b : Bool) → nat_le (greatest_in (v ∷ ws)) w ≡ b → Contains (v ∷ ws) (greatest_in (v ∷ ws)) → Contains (w ∷ v ∷ ws) (greatest_in (w ∷ v ∷ ws))
  at true q c = subst (Contains (w ∷ v ∷ ws)) (high w (greatest_in (v ∷ ws)) q) (first w (v ∷ ws))
  at false q c = subst (Contains (w ∷ v ∷ ws)) (low w (greatest_in (v ∷ ws)) q) (later w (v ∷ ws) (greatest_in (v ∷ ws)) c)

none_contained : (w : ℕ) → Contains [] w → ⊥
none_contained w c = All-contains (λ (v : ℕ). ⊥) [] w (All-nil (λ (v : ℕ). ⊥)) c

-- ---- what a row shows of them

pub extremes : (ws : List ℕ) (stat : Stat) → All (λ w. w < 2 ^ 64) ws → stat.min ≡ least_in ws → stat.max ≡ greatest_in ws → AreExtremes ws stat
extremes ws stat low p q = record { none = λ e. (nothing stat.min e, nothing stat.max e); some = some } where
  zero_shown : (a b n : ℕ) → a ≡ 2 ^ 64 - 1 → b ≡ 0 → (if nat_le a b then n else 0) ≡ 0
  zero_shown a b n p q = at (nat_le a b) refl where
    over : nat_le a b ≡ true → a ≤ b
    over r = grind (arith, r)

    at : (c : Bool) → nat_le a b ≡ c → (if c then n else 0) ≡ 0
    at true r = absurd (let l : a ≤ b = over r in omega (arith, l, p, q))
    at false r = refl

  nothing : (n : ℕ) → ws ≡ [] → timed_number stat n ≡ 0
  nothing n e = zero_shown stat.min stat.max n (p ∙ ap least_in e) (q ∙ ap greatest_in e)

  shown : (n : ℕ) → stat.min ≤ stat.max → n ≡ timed_number stat n
  shown n l = at (nat_le stat.min stat.max) (under stat.min stat.max l) where
    under : (a b : ℕ) → a ≤ b → nat_le a b ≡ true
    under a b l = grind (arith, l)

    at : (c : Bool) → c ≡ true → n ≡ (if c then n else 0)
    at true r = refl
    at false r = absurd (cc)

  members : (ws : List ℕ) (w : ℕ) → Contains ws w → All (λ w. w < 2 ^ 64) ws → Contains ws (least_in ws) × Contains ws (greatest_in ws)
  members [] w c h = absurd (none_contained w c)
  members (v ∷ vs) w c h = (least_member v vs h, greatest_member v vs)

  some : (w : ℕ) → Contains ws w → Contains ws (timed_number stat stat.min) × Contains ws (timed_number stat stat.max) × (timed_number stat stat.min ≤ w) × (w ≤ timed_number stat stat.max)
  some w c =
      let a : least_in ws ≤ w = All-contains (λ w. least_in ws ≤ w) ws w (all_above ws) c in
      let b : w ≤ greatest_in ws = All-contains (λ w. w ≤ greatest_in ws) ws w (all_under ws) c in
      let l : stat.min ≤ stat.max = (omega (arith, a, b, p, q)) in
      let m : Contains ws (least_in ws) × Contains ws (greatest_in ws) = members ws w c low in (
        subst (Contains ws) (sym p ∙ shown stat.min l) m.0,
        subst (Contains ws) (sym q ∙ shown stat.max l) m.1,
        subst (λ n. n ≤ w) (sym p ∙ shown stat.min l) a,
        subst (λ n. w ≤ n) (sym q ∙ shown stat.max l) b,
      )

-- ---- what events add up to

module _ (given : Given) where
  abbrev adds : Ended → Stat
  adds one = amount_of given one.session one.event

  pub least_is : (xs : List Ended) (here : Stat) → here.min ≤ 2 ^ 64 - 1 → (fold merge_of here (map (λ one. amount_of given one.session one.event) xs)).min ≡ min here.min (least_in (timed_waits given xs))
  least_is [] here l = omega (arith, l)
  least_is (x ∷ xs) here l = at (is_timed given.flags (given.slots x.session) x.event) (λ there m. least_is xs there m) where
    facts : Facts
    facts = given.facts x.session x.event.index

    joined : (a b c : ℕ) → min (min a b) c ≡ min a (min b c)
    joined a b c = omega arith

    dropped : (a c : ℕ) → a ≤ 2 ^ 64 - 1 → min (min a (2 ^ 64 - 1)) c ≡ min a c
    dropped a c l = omega (arith, l)

    lower : (a b : ℕ) → a ≤ 2 ^ 64 - 1 → min a b ≤ 2 ^ 64 - 1
    lower a b l = omega (arith, l)

    at : (b : Bool) → ((there : Stat) → there.min ≤ 2 ^ 64 - 1 → (fold merge_of there (map (λ one. amount_of given one.session one.event) xs)).min ≡ min there.min (least_in (timed_waits given xs)))
        → (fold merge_of (merge_of here (stat_of (measure_of b (given.facts x.session x.event.index)))) (map (λ one. amount_of given one.session one.event) xs)).min
        ≡ min here.min (least_in (cond b ((given.facts x.session x.event.index).duration ∷ []) [] ++ timed_waits given xs))
    at true go = go (merge_of here (stat_of (measure_of true (given.facts x.session x.event.index)))) (lower here.min (given.facts x.session x.event.index).duration l) ∙ joined here.min (given.facts x.session x.event.index).duration (least_in (timed_waits given xs))
    at false go = go (merge_of here (stat_of (measure_of false (given.facts x.session x.event.index)))) (lower here.min (2 ^ 64 - 1) l) ∙ dropped here.min (least_in (timed_waits given xs)) l

  pub greatest_is : (xs : List Ended) (here : Stat) → (fold merge_of here (map (λ one. amount_of given one.session one.event) xs)).max ≡ max here.max (greatest_in (timed_waits given xs))
  greatest_is [] here = omega arith
  greatest_is (x ∷ xs) here = at (is_timed given.flags (given.slots x.session) x.event) (λ there. greatest_is xs there) where
    joined : (a b c : ℕ) → max (max a b) c ≡ max a (max b c)
    joined a b c = omega arith

    dropped : (a c : ℕ) → max (max a 0) c ≡ max a c
    dropped a c = omega arith

    at : (b : Bool) → ((there : Stat) → (fold merge_of there (map (λ one. amount_of given one.session one.event) xs)).max ≡ max there.max (greatest_in (timed_waits given xs)))
        → (fold merge_of (merge_of here (stat_of (measure_of b (given.facts x.session x.event.index)))) (map (λ one. amount_of given one.session one.event) xs)).max
        ≡ max here.max (greatest_in (cond b ((given.facts x.session x.event.index).duration ∷ []) [] ++ timed_waits given xs))
    at true go = go (merge_of here (stat_of (measure_of true (given.facts x.session x.event.index)))) ∙ joined here.max (given.facts x.session x.event.index).duration (greatest_in (timed_waits given xs))
    at false go = go (merge_of here (stat_of (measure_of false (given.facts x.session x.event.index)))) ∙ dropped here.max (greatest_in (timed_waits given xs))

  pub count_is : (xs : List Ended) (here : Stat) → here.count + length xs < 2 ^ 64 → (fold merge_of here (map (λ one. amount_of given one.session one.event) xs)).count ≡ here.count + length xs
  count_is [] here l = omega arith
  count_is (x ∷ xs) here l =
      let e : (here.count + 1) % 2 ^ 64 ≡ here.count + 1 = (omega (arith, l)) in
      count_is xs (merge_of here (amount_of given x.session x.event)) (omega (arith, e, l)) ∙ (omega (arith, e))

  pub waits_joined : (xs ys : List Ended) → timed_waits given (xs ++ ys) ≡ timed_waits given xs ++ timed_waits given ys
  waits_joined [] ys = refl
  waits_joined (x ∷ xs) ys = at (is_timed given.flags (given.slots x.session) x.event) (waits_joined xs ys) where
    at : (b : Bool) → timed_waits given (xs ++ ys) ≡ timed_waits given xs ++ timed_waits given ys
        → cond b ((given.facts x.session x.event.index).duration ∷ []) [] ++ timed_waits given (xs ++ ys)
        ≡ (cond b ((given.facts x.session x.event.index).duration ∷ []) [] ++ timed_waits given xs) ++ timed_waits given ys
    at true e = ap (λ (l : List ℕ). (given.facts x.session x.event.index).duration ∷ l) e
    at false e = e

  pub waits_low : ((session index : ℕ) → (given.facts session index).duration < 2 ^ 64) → (xs : List Ended) → All (λ w. w < 2 ^ 64) (timed_waits given xs)
  waits_low h [] = All-nil (λ w. w < 2 ^ 64)
  waits_low h (x ∷ xs) = at (is_timed given.flags (given.slots x.session) x.event) (waits_low h xs) where
    at : (b : Bool) → All (λ w. w < 2 ^ 64) (timed_waits given xs) → All (λ w. w < 2 ^ 64) (cond b ((given.facts x.session x.event.index).duration ∷ []) [] ++ timed_waits given xs)
    at true r = All-cons (λ w. w < 2 ^ 64) (given.facts x.session x.event.index).duration (timed_waits given xs) (h x.session x.event.index) r
    at false r = r

  -- two rows put together are of the events of both
  pub both_extremes : ((session index : ℕ) → (given.facts session index).duration < 2 ^ 64) → (xs ys : List Ended)
      → AreExtremes (timed_waits given (xs ++ ys)) (merge_of (merge_all (map (λ one. amount_of given one.session one.event) xs)) (merge_all (map (λ one. amount_of given one.session one.event) ys)))
  both_extremes h xs ys =
      extremes (timed_waits given (xs ++ ys)) (merge_of (merge_all (map (λ one. amount_of given one.session one.event) xs)) (merge_all (map (λ one. amount_of given one.session one.event) ys))) (waits_low h (xs ++ ys))
      (let p : (merge_all (map (λ one. amount_of given one.session one.event) xs)).min ≡ min (2 ^ 64 - 1) (least_in (timed_waits given xs)) = least_is xs zero_of (omega arith) in
      let q : (merge_all (map (λ one. amount_of given one.session one.event) ys)).min ≡ min (2 ^ 64 - 1) (least_in (timed_waits given ys)) = least_is ys zero_of (omega arith) in
      let e : least_in (timed_waits given (xs ++ ys)) ≡ min (least_in (timed_waits given xs)) (least_in (timed_waits given ys)) = ap least_in (waits_joined xs ys) ∙ least_joined (timed_waits given xs) (timed_waits given ys) in
      let a : least_in (timed_waits given xs) ≤ 2 ^ 64 - 1 = least_low (timed_waits given xs) in
      omega (arith, p, q, e, a))
      (let p : (merge_all (map (λ one. amount_of given one.session one.event) xs)).max ≡ max 0 (greatest_in (timed_waits given xs)) = greatest_is xs zero_of in
      let q : (merge_all (map (λ one. amount_of given one.session one.event) ys)).max ≡ max 0 (greatest_in (timed_waits given ys)) = greatest_is ys zero_of in
      let e : greatest_in (timed_waits given (xs ++ ys)) ≡ max (greatest_in (timed_waits given xs)) (greatest_in (timed_waits given ys)) = ap greatest_in (waits_joined xs ys) ∙ greatest_joined (timed_waits given xs) (timed_waits given ys) in
      omega (arith, p, q, e))

  pub one_extremes : ((session index : ℕ) → (given.facts session index).duration < 2 ^ 64) → (xs : List Ended) → AreExtremes (timed_waits given xs) (merge_all (map (λ one. amount_of given one.session one.event) xs))
  one_extremes h xs =
      extremes (timed_waits given xs) (merge_all (map (λ one. amount_of given one.session one.event) xs)) (waits_low h xs)
      (let p : (merge_all (map (λ one. amount_of given one.session one.event) xs)).min ≡ min (2 ^ 64 - 1) (least_in (timed_waits given xs)) = least_is xs zero_of (omega arith) in
      let a : least_in (timed_waits given xs) ≤ 2 ^ 64 - 1 = least_low (timed_waits given xs) in
      omega (arith, p, a))
      (let p : (merge_all (map (λ one. amount_of given one.session one.event) xs)).max ≡ max 0 (greatest_in (timed_waits given xs)) = greatest_is xs zero_of in omega (arith, p))
