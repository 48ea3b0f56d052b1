-- Numbers that stand once, as a fact of each entry, and the other way.
use Rattle.std.proofs.Common.{◌≡◌, refl, ℕ, zero, suc, ◌+◌, ◌<◌, ◌≤◌, ◌==◌, Bool, true, false, ◌&&◌, cond, nat_lt, nat_le, List, [], ◌∷◌, ◌++◌, length, sym, ◌∙◌, ap, subst, arith, inl, inr}
use Rattle.std.proofs.lemmas.Bool.Decides.{nat_tests}
use Rattle.pfs_event.specs.declared.entry.Entry.{Entry}
use Rattle.pfs_event.specs.declared.entry.Entry.TheVariants as says
use Rattle.pfs_model.proofs.ChainGrowth.{times_append}
use Rattle.pfs_model.proofs.EachLists.{each_join}
use Rattle.pfs_model.specs.declared.changes.Change.{Change}
use Rattle.pfs_model.specs.Actions.{IsAmong}
use Rattle.pfs_model.specs.Chains.{AreChained, Each, IsChained, action_change, change_at, each_of, is_of, is_that, row_change, times}
use Rattle.pfs_model.specs.EntryPlaces.{Placed, chosen, up_to_phase}
use Rattle.pfs_check_faults.proofs.MemberCounts.{each_among, one_bit, same_is, self_is}
use Rattle.pfs_check_faults.specs.EntryFaults.{ChainLaw, IsLinked, LinksAt}
use Rattle.pfs_check_faults.specs.ReportCases.{AllHave}

-- the values of f at 1 to n, added up
pub upto : ℕ → (ℕ → ℕ) → ℕ
upto zero f = 0
upto (suc n) f = f (suc n) + upto n f

upto_add : (n : ℕ) (f g : ℕ → ℕ) → upto n (λ v. f v + g v) ≡ upto n f + upto n g
unfolding upto
upto_add zero f g = refl
upto_add (suc n) f g = let more : upto n (λ v. f v + g v) ≡ upto n f + upto n g = upto_add n f g in omega arith

upto_none : (n : ℕ) (f : ℕ → ℕ) → ((v : ℕ) → 0 < v → v ≤ n → f v ≡ 0) → upto n f ≡ 0
unfolding upto
upto_none zero f h = refl
upto_none (suc n) f h =
    let more : upto n f ≡ 0 = upto_none n f (λ v a b. h v a (omega arith)) in omega (arith, h (suc n) (omega arith) (omega arith))

-- one of them is 1, and the others 0
upto_one : (n x : ℕ) (f : ℕ → ℕ) → 0 < x → x ≤ n → f x ≡ 1 → ((v : ℕ) → (v ≡ x → ⊥) → f v ≡ 0) → upto n f ≡ 1
unfolding upto
upto_one zero x f a b one none = absurd (omega arith)
upto_one (suc n) x f a b one none = at (x == suc n) refl (λ c. upto_one n x f a c one none) where
  at : (t : Bool) → (x == suc n) ≡ t → (x ≤ n → upto n f ≡ 1) → f (suc n) + upto n f ≡ 1
  at true q go =
      let same : x ≡ suc n = grind (arith, nat_tests) in
      let last : f (suc n) ≡ 1 = rw (← same) one in
      let rest : upto n f ≡ 0 = upto_none n f (λ v c d. none v (λ e. omega arith)) in omega arith
  at false q go =
      let less : x ≤ n = grind (arith, nat_tests) in
      let last : f (suc n) ≡ 0 = none (suc n) (λ e. omega arith) in
      let rest : upto n f ≡ 1 = go less in omega arith

upto_most : (n : ℕ) (f : ℕ → ℕ) → ((v : ℕ) → f v ≤ 1) → upto n f ≤ n
unfolding upto
upto_most zero f h = omega arith
upto_most (suc n) f h = let more : upto n f ≤ n = upto_most n f h in omega (arith, h (suc n))

-- where none is above 1 and they add up to n, each is 1
upto_full : (n : ℕ) (f : ℕ → ℕ) → ((v : ℕ) → f v ≤ 1) → upto n f ≡ n → (v : ℕ) → 0 < v → v ≤ n → f v ≡ 1
unfolding upto
upto_full zero f h full v a b = absurd (omega arith)
upto_full (suc n) f h full v a b = at (v == suc n) refl (λ q c. upto_full n f h q v a c) where
  most : upto n f ≤ n
  most = upto_most n f h

  at : (t : Bool) → (v == suc n) ≡ t → (upto n f ≡ n → v ≤ n → f v ≡ 1) → f v ≡ 1
  at true q go =
      let same : v ≡ suc n = grind (arith, nat_tests) in
      let last : f (suc n) ≡ 1 = omega (arith, h (suc n), most, full) in rw same last
  at false q go =
      let less : v ≤ n = grind (arith, nat_tests) in
      let rest : upto n f ≡ n = omega (arith, h (suc n), most, full) in go rest less

pub that_is : (c d : Change) → is_that c d ≡ true → d ≡ c
that_is c d h = at (d.row == c.row) (d.version == c.version) refl refl h where
  joined : d.row ≡ c.row → d.version ≡ c.version → d ≡ c
  joined e f =
      let P : ℕ → Change = λ r. record { row = r; version = d.version } in
      let Q : ℕ → Change = λ v. record { row = c.row; version = v } in ap P e ∙ ap Q f

  at : (a b : Bool) → (d.row == c.row) ≡ a → (d.version == c.version) ≡ b → a && b ≡ true → d ≡ c
  at true true q r h = joined (same_is d.row c.row q) (same_is d.version c.version r)
  at true false q r h = absurd (cc)
  at false b q r h = absurd (cc)

pub that_self : (c : Change) → is_that c c ≡ true
that_self c = rw (self_is c.row, self_is c.version) refl

pub among_times : (c : Change) (cs : List Change) → IsAmong c cs → 0 < times (is_that c) cs
among_times c [] i = absurd i
among_times c (d ∷ cs) (inl e) = rw (ap (is_that c) e ∙ that_self c) (omega arith)
among_times c (d ∷ cs) (inr i) = let more : 0 < times (is_that c) cs = among_times c cs i in omega arith

pub upto_ones : (n : ℕ) (f : ℕ → ℕ) → ((v : ℕ) → 0 < v → v ≤ n → f v ≡ 1) → upto n f ≡ n
unfolding upto
upto_ones zero f h = refl
upto_ones (suc n) f h =
    let more : upto n f ≡ n = upto_ones n f (λ v a b. h v a (omega arith)) in
    let here : f (suc n) ≡ 1 = h (suc n) (omega arith) (omega arith) in omega (arith, more, here)

-- a change of the row is at one version from 1 to n, any other at none
row_one : (row n : ℕ) (c : Change) → (c.row ≡ row → (0 < c.version) × (c.version ≤ n))
    → upto n (λ v. cond (is_that (change_at row v) c) 1 0) ≡ cond (is_of row c) 1 0
row_one row n c h = at (c.row == row) refl where
  other : (v : ℕ) → (v ≡ c.version → ⊥) → cond {A = ℕ} ((c.row == row) && (c.version == v)) 1 0 ≡ 0
  other v ne = off (c.row == row) (c.version == v) (grind (arith, nat_tests)) where
    off : (a b : Bool) → b ≡ false → cond {A = ℕ} (a && b) 1 0 ≡ 0
    off true b q = rw q refl
    off false b q = refl

  at : (t : Bool) → (c.row == row) ≡ t → upto n (λ v. cond ((c.row == row) && (c.version == v)) 1 0) ≡ cond {A = ℕ} t 1 0
  at true q =
      let bounds : (0 < c.version) × (c.version ≤ n) = h (same_is c.row row q) in
      upto_one n c.version (λ v. cond ((c.row == row) && (c.version == v)) 1 0) bounds.0 bounds.1 (rw (q, self_is c.version) refl) other
  at false q = upto_none n _ (λ v a b. rw q refl)

row_all : (row n : ℕ) (cs : List Change) → Each (λ (c : Change). c.row ≡ row → (0 < c.version) × (c.version ≤ n)) cs
    → upto n (λ v. times (is_that (change_at row v)) cs) ≡ times (is_of row) cs
row_all row n [] h = upto_none n _ (λ v a b. refl)
row_all row n (c ∷ cs) h =
    upto_add n (λ v. cond (is_that (change_at row v) c) 1 0) (λ v. times (is_that (change_at row v)) cs)
    ∙ ap (λ z. z + upto n (λ v. times (is_that (change_at row v)) cs)) (row_one row n c h.0)
    ∙ ap (λ z. cond (is_of row c) 1 0 + z) (row_all row n cs h.1)

-- the same, where changes may be above n
row_below : (row n : ℕ) (c : Change) → 0 < c.version
    → upto n (λ v. cond (is_that (change_at row v) c) 1 0) ≡ cond ((c.row == row) && nat_le c.version n) 1 0
row_below row n c h = at (c.row == row) (nat_le c.version n) refl refl where
  other : (v : ℕ) → (v ≡ c.version → ⊥) → cond {A = ℕ} ((c.row == row) && (c.version == v)) 1 0 ≡ 0
  other v ne = off (c.row == row) (c.version == v) (grind (arith, nat_tests)) where
    off : (a b : Bool) → b ≡ false → cond {A = ℕ} (a && b) 1 0 ≡ 0
    off true b q = rw q refl
    off false b q = refl

  at : (s t : Bool) → (c.row == row) ≡ s → nat_le c.version n ≡ t
      → upto n (λ v. cond ((c.row == row) && (c.version == v)) 1 0) ≡ cond {A = ℕ} (s && t) 1 0
  at true true q r =
      upto_one n c.version (λ v. cond ((c.row == row) && (c.version == v)) 1 0) h (grind (arith, nat_tests)) (rw (q, self_is c.version) refl) other
  at true false q r =
      upto_none n _ (λ v a b. other v (λ e. above v e b)) where
        above : (v : ℕ) → v ≡ c.version → v ≤ n → ⊥
        above v e b = grind (arith, nat_tests)
  at false t q r = upto_none n _ (λ v a b. rw q refl)

pub rows_below : (row n : ℕ) (cs : List Change) → Each (λ (c : Change). 0 < c.version) cs
    → upto n (λ v. times (is_that (change_at row v)) cs) ≡ times (λ (c : Change). (c.row == row) && nat_le c.version n) cs
rows_below row n [] h = upto_none n _ (λ v a b. refl)
rows_below row n (c ∷ cs) h =
    upto_add n (λ v. cond (is_that (change_at row v) c) 1 0) (λ v. times (is_that (change_at row v)) cs)
    ∙ ap (λ z. z + upto n (λ v. times (is_that (change_at row v)) cs)) (row_below row n c h.0)
    ∙ ap (λ z. cond ((c.row == row) && nat_le c.version n) 1 0 + z) (rows_below row n cs h.1)

-- outside 1 to n it stands nowhere
never : (c : Change) (cs : List Change) → Each (λ (d : Change). d ≡ c → ⊥) cs → times (is_that c) cs ≡ 0
never c [] h = refl
never c (d ∷ cs) h = at (is_that c d) refl (never c cs h.1) where
  at : (b : Bool) → is_that c d ≡ b → times (is_that c) cs ≡ 0 → cond {A = ℕ} b 1 0 + times (is_that c) cs ≡ 0
  at true q e = absurd (h.0 (that_is c d q))
  at false q e = omega arith

-- numbers of which none stands twice, and none is above how many there are
chained_list : (cs : List Change) → ((c : Change) → times (is_that c) cs ≤ 1)
    → Each (λ (c : Change). (0 < c.version) × (c.version ≤ times (is_of c.row) cs)) cs → IsChained cs
chained_list cs once within c = at (nat_lt 0 c.version) (nat_le c.version (times (is_of c.row) cs)) refl refl where
  of_row : (n : ℕ) → n ≡ times (is_of c.row) cs → (ds : List Change)
      → Each (λ (d : Change). (0 < d.version) × (d.version ≤ times (is_of d.row) cs)) ds
      → Each (λ (d : Change). d.row ≡ c.row → (0 < d.version) × (d.version ≤ n)) ds
  of_row n e [] h = tt
  of_row n e (d ∷ ds) h =
      ((λ same. (h.0.0, subst (λ z. d.version ≤ z) (ap (λ r. times (is_of r) cs) same ∙ sym e) h.0.1)), of_row n e ds h.1)

  out : ((0 < c.version) × (c.version ≤ times (is_of c.row) cs) → ⊥) → (ds : List Change)
      → Each (λ (d : Change). (0 < d.version) × (d.version ≤ times (is_of d.row) cs)) ds → Each (λ (d : Change). d ≡ c → ⊥) ds
  out else_where [] h = tt
  out else_where (d ∷ ds) h = ((λ e. else_where (subst (λ (z : Change). (0 < z.version) × (z.version ≤ times (is_of z.row) cs)) e h.0)), out else_where ds h.1)

  at : (a b : Bool) → nat_lt 0 c.version ≡ a → nat_le c.version (times (is_of c.row) cs) ≡ b → times (is_that c) cs ≡ cond {A = ℕ} (a && b) 1 0
  at true true p q =
      upto_full (times (is_of c.row) cs) (λ v. times (is_that (change_at c.row v)) cs) (λ v. once (change_at c.row v))
      (row_all c.row (times (is_of c.row) cs) cs (of_row (times (is_of c.row) cs) refl cs within)) c.version
      (grind (arith, nat_tests)) (grind (arith, nat_tests))
  at true false p q = never c cs (out (λ h. let l : c.version ≤ times (is_of c.row) cs = h.1 in grind (arith, nat_tests)) cs within)
  at false b p q = never c cs (out (λ h. let l : 0 < c.version = h.0 in grind (arith, nat_tests)) cs within)

-- how often a test holds of what some entries give
counted : (Entry → List Change) → (Change → Bool) → List Placed → ℕ
counted given test ps = times test (each_of given ps)

counted_one : (given : Entry → List Change) (test : Change → Bool) (p : Placed) (ps : List Placed)
    → counted given test (p ∷ ps) ≡ times test (given p.entry) + counted given test ps
unfolding counted
counted_one given test p ps = times_append test (given p.entry) (each_of given ps)

-- a choice of entries gives no more than all
few : (given : Entry → List Change) (test : Change → Bool) (t : Placed → Bool) (ps : List Placed)
    → counted given test (chosen t ps) ≤ counted given test ps
few given test t [] = omega arith
few given test t (p ∷ ps) = at (t p) (few given test t ps) (counted_one given test p ps) where
  at : (b : Bool) → counted given test (chosen t ps) ≤ counted given test ps
      → counted given test (p ∷ ps) ≡ times test (given p.entry) + counted given test ps
      → counted given test (cond b (p ∷ []) [] ++ chosen t ps) ≤ counted given test (p ∷ ps)
  at true h e =
      let more : counted given test (p ∷ chosen t ps) ≡ times test (given p.entry) + counted given test (chosen t ps) =
      counted_one given test p (chosen t ps) in
      omega (arith, e, h, more)
  at false h e = omega (arith, e, h)

-- those of fewer phases no more than those of more
fewer : (given : Entry → List Change) (test : Change → Bool) (low high : ℕ) (ps : List Placed) → low ≤ high
    → counted given test (up_to_phase low ps) ≤ counted given test (up_to_phase high ps)
fewer given test low high [] h = omega arith
fewer given test low high (p ∷ ps) h =
    at (nat_le p.phase low) (nat_le p.phase high) refl refl (fewer given test low high ps h)
    (counted_one given test p (up_to_phase low ps)) (counted_one given test p (up_to_phase high ps)) where
      at : (a b : Bool) → nat_le p.phase low ≡ a → nat_le p.phase high ≡ b
          → counted given test (up_to_phase low ps) ≤ counted given test (up_to_phase high ps)
          → counted given test (p ∷ up_to_phase low ps) ≡ times test (given p.entry) + counted given test (up_to_phase low ps)
          → counted given test (p ∷ up_to_phase high ps) ≡ times test (given p.entry) + counted given test (up_to_phase high ps)
          → counted given test (cond a (p ∷ []) [] ++ up_to_phase low ps) ≤ counted given test (cond b (p ∷ []) [] ++ up_to_phase high ps)
      at true true q r e x y = omega (arith, e, x, y)
      at true false q r e x y = absurd (no p.phase q r) where
        no : (n : ℕ) → nat_le n low ≡ true → nat_le n high ≡ false → ⊥
        no n q r = grind (arith, nat_tests)
      at false true q r e x y = omega (arith, e, x, y)
      at false false q r e x y = e

-- an entry's own are among those up to its phase
own : (given : Entry → List Change) (test : Change → Bool) (p : Placed) (ps : List Placed)
    → times test (given p.entry) ≤ counted given test (up_to_phase p.phase (p ∷ ps))
own given test p ps = at (nat_le p.phase p.phase) (self p.phase) (counted_one given test p (up_to_phase p.phase ps)) where
  self : (n : ℕ) → nat_le n n ≡ true
  self n = grind (arith, nat_tests)

  at : (b : Bool) → b ≡ true → counted given test (p ∷ up_to_phase p.phase ps) ≡ times test (given p.entry) + counted given test (up_to_phase p.phase ps)
      → times test (given p.entry) ≤ counted given test (cond b (p ∷ []) [] ++ up_to_phase p.phase ps)
  at true q e = omega (arith, e)
  at false q e = absurd (cc)

-- all phases are at most this one
pub top : List Placed → ℕ
top [] = 0
top (p ∷ ps) = p.phase + top ps

whole : (high : ℕ) (ps : List Placed) → top ps ≤ high → up_to_phase high ps ≡ ps
unfolding top
whole high [] h = refl
whole high (p ∷ ps) h = at (nat_le p.phase high) (low p.phase (omega arith)) (whole high ps (omega arith)) where
  low : (n : ℕ) → n ≤ high → nat_le n high ≡ true
  low n h = grind (arith, nat_tests)

  at : (b : Bool) → b ≡ true → up_to_phase high ps ≡ ps → cond b (p ∷ []) [] ++ up_to_phase high ps ≡ p ∷ ps
  at true q e = ap (λ z. p ∷ z) e
  at false q e = absurd (cc)

pub all_phases : (ps : List Placed) → up_to_phase (top ps) ps ≡ ps
all_phases ps = whole (top ps) ps (omega arith)

pub bit_yes : (a b : Bool) → 0 < cond {A = ℕ} (a && b) 1 0 → (a ≡ true) × (b ≡ true)
bit_yes true true h = (refl, refl)
bit_yes true false h = absurd (omega arith)
bit_yes false b h = absurd (omega arith)

-- what is chained stands at most once
chained_once : (given : Entry → List Change) (all : List Placed) → AreChained given all → (c : Change) → counted given (is_that c) all ≤ 1
unfolding counted
chained_once given all chained c =
    let e : times (is_that c) (each_of given (up_to_phase (top all) all))
    ≡ cond (nat_lt 0 c.version && nat_le c.version (times (is_of c.row) (each_of given (up_to_phase (top all) all)))) 1 0 = chained (top all) c in
    let f : times (is_that c) (each_of given (up_to_phase (top all) all)) ≡ times (is_that c) (each_of given all) =
    ap (λ z. times (is_that c) (each_of given z)) (all_phases all) in
    omega (arith, e, f, one_bit (nat_lt 0 c.version && nat_le c.version (times (is_of c.row) (each_of given (up_to_phase (top all) all)))))

-- where so many stand before, and the rest from here on
links : (given : Entry → List Change) (all earlier ps : List Placed) → AreChained given all
    → ((test : Change → Bool) → counted given test all ≡ counted given test earlier + counted given test ps)
    → ((phase : ℕ) (test : Change → Bool) → counted given test (up_to_phase phase ps) ≤ counted given test (up_to_phase phase all))
    → AllHave (LinksAt given all) earlier ps
unfolding counted
links given all earlier [] chained split within = tt
links given all earlier (p ∷ ps) chained split within =
    (each_among (IsLinked given all earlier p) (given p.entry) here, links given all (p ∷ earlier) ps chained next further) where
      next : (test : Change → Bool) → counted given test all ≡ counted given test (p ∷ earlier) + counted given test ps
      next test = omega (arith, split test, counted_one given test p earlier, counted_one given test p ps)

      further : (phase : ℕ) (test : Change → Bool) → counted given test (up_to_phase phase ps) ≤ counted given test (up_to_phase phase all)
      further phase test = at (nat_le p.phase phase) (within phase test) (counted_one given test p (up_to_phase phase ps)) where
        at : (b : Bool) → counted given test (cond b (p ∷ []) [] ++ up_to_phase phase ps) ≤ counted given test (up_to_phase phase all)
            → counted given test (p ∷ up_to_phase phase ps) ≡ times test (given p.entry) + counted given test (up_to_phase phase ps)
            → counted given test (up_to_phase phase ps) ≤ counted given test (up_to_phase phase all)
        at true h e = omega (arith, h, e)
        at false h e = h

      here : (c : Change) → IsAmong c (given p.entry) → IsLinked given all earlier p c
      here c i =
          let some : 0 < times (is_that c) (given p.entry) = among_times c (given p.entry) i in
          let had : times (is_that c) (given p.entry) ≤ counted given (is_that c) (up_to_phase p.phase (p ∷ ps)) = own given (is_that c) p ps in
          let most : counted given (is_that c) (up_to_phase p.phase (p ∷ ps)) ≤ counted given (is_that c) (up_to_phase p.phase all) = within p.phase (is_that c) in
          let is : times (is_that c) (each_of given (up_to_phase p.phase all))
          ≡ cond (nat_lt 0 c.version && nat_le c.version (times (is_of c.row) (each_of given (up_to_phase p.phase all)))) 1 0 = chained p.phase c in
          let bits : (nat_lt 0 c.version ≡ true) × (nat_le c.version (times (is_of c.row) (each_of given (up_to_phase p.phase all))) ≡ true) =
          bit_yes _ _ (omega (arith, some, had, most, is)) in
          record {
            above = low c.version bits.0;
            had = high c.version (times (is_of c.row) (each_of given (up_to_phase p.phase all))) bits.1;
            first = omega (arith, some, split (is_that c), counted_one given (is_that c) p ps, chained_once given all chained c);
          } where
            low : (v : ℕ) → nat_lt 0 v ≡ true → 0 < v
            low v e = grind (arith, nat_tests)

            high : (v n : ℕ) → nat_le v n ≡ true → v ≤ n
            high v n e = grind (arith, nat_tests)

-- of a list with one change at most
one_of : (test : Change → Bool) (cs : List Change) → length cs ≤ 1 → times test cs ≤ 1
one_of test [] h = omega arith
one_of test (c ∷ []) h = let m : cond {A = ℕ} (test c) 1 0 ≤ 1 = one_bit (test c) in omega (arith, m)
one_of test (c ∷ (d ∷ cs)) h = absurd (omega arith)

-- one that stands before doesn't stand again
none_of : (given : Entry → List Change) (all earlier : List Placed) (p : Placed) (c : Change) (cs : List Change)
    → 0 < times (is_that c) (each_of given earlier) → Each (IsLinked given all earlier p) cs → times (is_that c) cs ≡ 0
none_of given all earlier p c [] some h = refl
none_of given all earlier p c (d ∷ cs) some h = at (is_that c d) refl (none_of given all earlier p c cs some h.1) where
  at : (b : Bool) → is_that c d ≡ b → times (is_that c) cs ≡ 0 → cond {A = ℕ} b 1 0 + times (is_that c) cs ≡ 0
  at true q e =
      let none : times (is_that c) (each_of given earlier) ≡ 0 =
      subst (λ (z : Change). times (is_that z) (each_of given earlier) ≡ 0) (that_is c d q) h.0.first in
      absurd (omega (arith, none, some))
  at false q e = omega arith

none_more : (given : Entry → List Change) (all earlier ps : List Placed) (c : Change) → 0 < counted given (is_that c) earlier
    → AllHave (LinksAt given all) earlier ps → counted given (is_that c) ps ≡ 0
unfolding counted
none_more given all earlier [] c some h = refl
none_more given all earlier (p ∷ ps) c some h =
    let here : times (is_that c) (given p.entry) ≡ 0 = none_of given all earlier p c (given p.entry) some h.0 in
    let rest : counted given (is_that c) ps ≡ 0 =
    none_more given all (p ∷ earlier) ps c (omega (arith, some, counted_one given (is_that c) p earlier)) h.1 in
    omega (arith, here, rest, counted_one given (is_that c) p ps)

once : (given : Entry → List Change) → ((entry : Entry) → length (given entry) ≤ 1) → (all earlier ps : List Placed) (c : Change)
    → AllHave (LinksAt given all) earlier ps → counted given (is_that c) ps ≤ 1
unfolding counted
once given short all earlier [] c h = omega arith
once given short all earlier (p ∷ ps) c h =
    at (nat_lt 0 (times (is_that c) (given p.entry))) refl (once given short all (p ∷ earlier) ps c h.1) where
      at : (b : Bool) → nat_lt 0 (times (is_that c) (given p.entry)) ≡ b → counted given (is_that c) ps ≤ 1 → counted given (is_that c) (p ∷ ps) ≤ 1
      at true q e =
          let some : 0 < times (is_that c) (given p.entry) = grind (arith, nat_tests) in
          let rest : counted given (is_that c) ps ≡ 0 =
          none_more given all (p ∷ earlier) ps c (omega (arith, some, counted_one given (is_that c) p earlier)) h.1 in
          omega (arith, rest, one_of (is_that c) (given p.entry) (short p.entry), counted_one given (is_that c) p ps)
      at false q e =
          let none : times (is_that c) (given p.entry) ≡ 0 = grind (arith, nat_tests) in
          omega (arith, none, e, counted_one given (is_that c) p ps)

-- each is within the number of its row's changes up to a phase
within_phase : (given : Entry → List Change) (all earlier ps : List Placed) (phase : ℕ) → AllHave (LinksAt given all) earlier ps
    → Each (λ (c : Change). (0 < c.version) × (c.version ≤ times (is_of c.row) (each_of given (up_to_phase phase all)))) (each_of given (up_to_phase phase ps))
unfolding counted
within_phase given all earlier [] phase h = tt
within_phase given all earlier (p ∷ ps) phase h = at (nat_le p.phase phase) refl (within_phase given all (p ∷ earlier) ps phase h.1) where
  Fits : Change → Type 0
  Fits c = (0 < c.version) × (c.version ≤ times (is_of c.row) (each_of given (up_to_phase phase all)))

  fit : p.phase ≤ phase → (cs : List Change) → Each (IsLinked given all earlier p) cs
      → Each (λ (c : Change). (0 < c.version) × (c.version ≤ times (is_of c.row) (each_of given (up_to_phase phase all)))) cs
  fit low [] l = tt
  fit low (c ∷ cs) l =
      let more : times (is_of c.row) (each_of given (up_to_phase p.phase all)) ≤ times (is_of c.row) (each_of given (up_to_phase phase all)) =
      fewer given (is_of c.row) p.phase phase all low in
      let had : c.version ≤ times (is_of c.row) (each_of given (up_to_phase p.phase all)) = l.0.had in
      ((l.0.above, omega (arith, more, had)), fit low cs l.1)

  at : (b : Bool) → nat_le p.phase phase ≡ b
      → Each (λ (c : Change). (0 < c.version) × (c.version ≤ times (is_of c.row) (each_of given (up_to_phase phase all)))) (each_of given (up_to_phase phase ps))
      → Each (λ (c : Change). (0 < c.version) × (c.version ≤ times (is_of c.row) (each_of given (up_to_phase phase all)))) (each_of given (cond b (p ∷ []) [] ++ up_to_phase phase ps))
  at true q e = each_join _ (given p.entry) (each_of given (up_to_phase phase ps)) (fit (low p.phase q) (given p.entry) h.0) e where
    low : (n : ℕ) → nat_le n phase ≡ true → n ≤ phase
    low n q = grind (arith, nat_tests)
  at false q e = e

pub chain_law : ChainLaw
unfolding counted
chain_law given short all = (
  (λ chained. links given all [] all chained (λ test. omega arith) (λ phase test. omega arith)),
  (λ h phase. chained_list (each_of given (up_to_phase phase all))
      (λ c. let a : counted given (is_that c) (up_to_phase phase all) ≤ counted given (is_that c) all = few given (is_that c) _ all in
      let b : counted given (is_that c) all ≤ 1 = once given short all [] all c h in omega (arith, a, b))
      (within_phase given all [] all phase h)),
)

pub row_one_change : (entry : Entry) → length (row_change entry) ≤ 1
row_one_change (says.Add row version) = omega arith
row_one_change (says.Ring row version) = omega arith
row_one_change (says.Long row version ticket) = omega arith
row_one_change (says.Take row version) = omega arith
row_one_change (says.Give row version from) = omega arith
row_one_change (says.Tag row version) = omega arith
row_one_change _ = omega arith

pub action_one_change : (entry : Entry) → length (action_change entry) ≤ 1
action_one_change (says.Connect action thread account user host) = omega arith
action_one_change (says.Act action) = omega arith
action_one_change _ = omega arith
