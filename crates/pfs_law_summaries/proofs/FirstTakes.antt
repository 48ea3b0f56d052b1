-- The first take above a version, as the printed takes and as a row's chain have it.
use Rattle.std.proofs.Common.{◌≡◌, refl, ℕ, zero, suc, ◌+◌, ◌<◌, ◌≤◌, ◌==◌, ◌&&◌, ◌⊎◌, inl, inr, Bool, true, false, cond, nat_lt, List, [], ◌∷◌, ◌++◌, length, Option, Some, None, sym, ap, subst, ◌∙◌, arith}
use Rattle.std.proofs.lemmas.Bool.{and_parts, eq-eqb, eqb-true, lt-ltb, ltb-false, ltb-true}
use Rattle.pfs_conservation.specs.RowChains.{Change, Added, Taken, Given}
use Rattle.pfs_conservation.specs.PrintedChanges.{Tagged, change_of, is_at, standing, changes_of, chain_from, Stands, Within}
use Rattle.pfs_conservation.specs.PrintedChanges.{IsAmong as IsChange}
use Rattle.pfs_conservation.specs.Removals.{first_take}
use Rattle.pfs_event.specs.declared.entry.Entry.{Entry}
use Rattle.pfs_event.specs.declared.entry.Entry.TheVariants as says
use Rattle.pfs_model.specs.EntryPlaces.{Placed}
use Rattle.pfs_model.specs.SummaryCounts.{Taking, taking_at, takings_of, lower_of, first_taking}
use Rattle.pfs_law_conservation.specs.KindLines.{lines_at, all_lines, lines_on}

-- an action takes a row at a version
abbrev pub Takes : ℕ → ℕ → ℕ → List Taking → Type 0
Takes row version action [] = ⊥
Takes row version action (t ∷ ts) = ((t.row ≡ row) × (t.version ≡ version) × (t.action ≡ action)) ⊎ Takes row version action ts

-- what the first one above a version is
abbrev pub IsLeast : ℕ → ℕ → List Taking → Option Taking → Type 0
IsLeast row version ts None = (w a : ℕ) → Takes row w a ts → version < w → ⊥
IsLeast row version ts (Some t) = Takes row t.version t.action ts × (version < t.version) × ((w a : ℕ) → Takes row w a ts → version < w → t.version ≤ w)

pub least : (row version : ℕ) (ts : List Taking) → IsLeast row version ts (first_taking row version ts)
least row version [] = λ w a h l. h
least row version (x ∷ ts) = at ((x.row == row) && nat_lt version x.version) refl (first_taking row version ts) (least row version ts) where
  not_here : (w a : ℕ) → ((x.row == row) && nat_lt version x.version) ≡ false → (x.row ≡ row) × (x.version ≡ w) × (x.action ≡ a) → version < w → ⊥
  not_here w a q h l =
      let r : (x.row == row) ≡ true = eq-eqb x.row row h.0 in
      let v : nat_lt version x.version ≡ true = lt-ltb version x.version (let e : x.version ≡ w = h.1 in omega (arith, e, l)) in
      absurd (let z : true ≡ false = sym (ap (λ b. b && nat_lt version x.version) r ∙ v) ∙ q in cc)

  own : ((x.row == row) && nat_lt version x.version) ≡ true → Takes row x.version x.action (x ∷ ts)
  own q = inl (eqb-true x.row row (and_parts (x.row == row) (nat_lt version x.version) q).0, refl, refl)

  high : ((x.row == row) && nat_lt version x.version) ≡ true → version < x.version
  high q = ltb-true version x.version (and_parts (x.row == row) (nat_lt version x.version) q).1

  alone : ((w a : ℕ) → Takes row w a ts → version < w → ⊥) → (w a : ℕ) → Takes row w a (x ∷ ts) → version < w → x.version ≤ w
  alone f w a (inl h) l = let e : x.version ≡ w = h.1 in omega (arith, e)
  alone f w a (inr k) l = absurd (f w a k l)

  later : (t : Taking) → t.version < x.version → ((w a : ℕ) → Takes row w a ts → version < w → t.version ≤ w) → (w a : ℕ) → Takes row w a (x ∷ ts) → version < w → t.version ≤ w
  later t m f w a (inl h) l = let e : x.version ≡ w = h.1 in omega (arith, e, m)
  later t m f w a (inr k) l = f w a k l

  first : (t : Taking) → x.version ≤ t.version → ((w a : ℕ) → Takes row w a ts → version < w → t.version ≤ w) → (w a : ℕ) → Takes row w a (x ∷ ts) → version < w → x.version ≤ w
  first t m f w a (inl h) l = let e : x.version ≡ w = h.1 in omega (arith, e)
  first t m f w a (inr k) l = let n : t.version ≤ w = f w a k l in omega (arith, n, m)

  none : ((x.row == row) && nat_lt version x.version) ≡ false → ((w a : ℕ) → Takes row w a ts → version < w → ⊥) → (w a : ℕ) → Takes row w a (x ∷ ts) → version < w → ⊥
  none q f w a (inl h) l = not_here w a q h l
  none q f w a (inr k) l = f w a k l

  others : (t : Taking) → ((x.row == row) && nat_lt version x.version) ≡ false → ((w a : ℕ) → Takes row w a ts → version < w → t.version ≤ w) → (w a : ℕ) → Takes row w a (x ∷ ts) → version < w → t.version ≤ w
  others t q f w a (inl h) l = absurd (not_here w a q h l)
  others t q f w a (inr k) l = f w a k l

  lower : (t : Taking) → ((x.row == row) && nat_lt version x.version) ≡ true → IsLeast row version ts (Some t) → (c : Bool) → nat_lt t.version x.version ≡ c → IsLeast row version (x ∷ ts) (Some (cond c t x))
  lower t q f true r = (inr f.0, f.1, later t (ltb-true t.version x.version r) f.2)
  lower t q f false r = (own q, high q, first t (ltb-false t.version x.version r) f.2)

  at : (b : Bool) → ((x.row == row) && nat_lt version x.version) ≡ b → (o : Option Taking) → IsLeast row version ts o → IsLeast row version (x ∷ ts) (cond b (Some (lower_of x o)) o)
  at true q None f = (own q, high q, alone f)
  at true q (Some t) f = lower t q f (nat_lt t.version x.version) refl
  at false q None f = none q f
  at false q (Some t) f = (inr f.0, f.1, others t q f.2)

-- the printed takes are those of the lines
pub takes_stand : (row version action : ℕ) (ps : List Placed) → Takes row version action (takings_of ps) → Stands (all_lines ps) row version (Taken action)
takes_stand row version action [] h = h
takes_stand row version action (p ∷ ps) h = by p.entry h (takes_stand row version action ps) where
  own : (a v : ℕ) → a ≡ row → v ≡ version → ((a == row) && (v == version)) ≡ true
  own a v p q = grind (arith, p, q)

  by : (e : Entry) → Takes row version action (taking_at p.context.action e ++ takings_of ps) → (Takes row version action (takings_of ps) → Stands (all_lines ps) row version (Taken action)) → Stands (lines_at p e ++ all_lines ps) row version (Taken action)
  by (says.Take at v) (inl q) go = inl (own at v q.0 q.1, ap (λ (n : ℕ). Taken n) q.2)
  by (says.Take at v) (inr k) go = inr (go k)
  by (says.Add at v) h go = inr (go h)
  by (says.Give at v from) h go = inr (go h)
  by _ h go = go h

pub stands_takes : (row version action : ℕ) (ps : List Placed) → Stands (all_lines ps) row version (Taken action) → Takes row version action (takings_of ps)
stands_takes row version action [] h = h
stands_takes row version action (p ∷ ps) h = by p.entry h (stands_takes row version action ps) where
  untake : (a b : ℕ) → ◌≡◌ {A = Change} (Taken a) (Taken b) → a ≡ b
  untake a b e = cc

  by : (e : Entry) → Stands (lines_at p e ++ all_lines ps) row version (Taken action) → (Stands (all_lines ps) row version (Taken action) → Takes row version action (takings_of ps)) → Takes row version action (taking_at p.context.action e ++ takings_of ps)
  by (says.Take at v) (inl q) go = inl (eqb-true at row (and_parts (at == row) (v == version) q.0).0, eqb-true v version (and_parts (at == row) (v == version) q.0).1, untake p.context.action action q.1)
  by (says.Take at v) (inr k) go = inr (go k)
  by (says.Add at v) (inl q) go = absurd (let e : ◌≡◌ {A = Change} (Added _) (Taken action) = q.1 in cc)
  by (says.Add at v) (inr k) go = go k
  by (says.Give at v from) (inl q) go = absurd (let e : ◌≡◌ {A = Change} (Given p.context.action from) (Taken action) = q.1 in cc)
  by (says.Give at v from) (inr k) go = go k
  by _ h go = go h

-- a line of a row that passes is one of those that pass
pub kept_on : (test : ℕ → Bool) (lines : List Tagged) (row version : ℕ) (change : Change) → test row ≡ true → Stands lines row version change → Stands (lines_on test lines) row version change
kept_on test [] row version change t s = s
kept_on test (line ∷ lines) row version change t s = at (test line.row) refl s (kept_on test lines row version change t) where
  at : (b : Bool) → test line.row ≡ b → ((is_at line row version ≡ true) × (change_of line ≡ change)) ⊎ Stands lines row version change → (Stands lines row version change → Stands (lines_on test lines) row version change) → Stands (cond b (line ∷ []) [] ++ lines_on test lines) row version change
  at true q (inl h) go = inl h
  at true q (inr k) go = inr (go k)
  at false q (inl h) go = absurd (let e : line.row ≡ row = eqb-true line.row row (and_parts (line.row == row) (line.version == version) h.0).0 in let z : true ≡ false = sym (ap test e ∙ t) ∙ q in cc)
  at false q (inr k) go = go k

-- ---- what stands at a version

pub stands_among : (lines : List Tagged) (row v : ℕ) (c : Change) → Stands lines row v c → IsChange c (standing lines row v)
stands_among [] row v c h = h
stands_among (l ∷ ls) row v c (inl q) = rw q.0 (inl q.1)
stands_among (l ∷ ls) row v c (inr h) = at (is_at l row v) (stands_among ls row v c h) where
  at : (b : Bool) → IsChange c (standing ls row v) → IsChange c (cond b (change_of l ∷ []) [] ++ standing ls row v)
  at true k = inr k
  at false k = k

pub among_stands : (lines : List Tagged) (row v : ℕ) (c : Change) → IsChange c (standing lines row v) → Stands lines row v c
among_stands [] row v c h = h
among_stands (l ∷ ls) row v c h = at (is_at l row v) refl h (among_stands ls row v c) where
  at : (b : Bool) → is_at l row v ≡ b → IsChange c (cond b (change_of l ∷ []) [] ++ standing ls row v) → (IsChange c (standing ls row v) → Stands ls row v c) → Stands (l ∷ ls) row v c
  at true q (inl e) go = inl (q, e)
  at true q (inr k) go = inr (go k)
  at false q k go = inr (go k)

-- one change at most stands at a version
pub one_stands : (lines : List Tagged) (row v : ℕ) (c d : Change) → length (standing lines row v) ≤ 1 → Stands lines row v c → Stands lines row v d → c ≡ d
one_stands lines row v c d once s t = by (standing lines row v) once (stands_among lines row v c s) (stands_among lines row v d t) where
  by : (cs : List Change) → length cs ≤ 1 → IsChange c cs → IsChange d cs → c ≡ d
  by [] l h k = absurd h
  by (x ∷ []) l (inl h) (inl k) = sym h ∙ k
  by (x ∷ []) l (inl h) (inr k) = absurd k
  by (x ∷ []) l (inr h) k = absurd h
  by (x ∷ y ∷ cs) l h k = absurd (omega (arith, l))

-- each line's version is one of the row's
pub in_range : (all lines : List Tagged) → Within all lines → (row v : ℕ) (c : Change) → Stands lines row v c → (1 ≤ v) × (v ≤ changes_of all row)
in_range all [] w row v c s = absurd s
in_range all (l ∷ ls) w row v c (inr s) = in_range all ls w.2 row v c s
in_range all (l ∷ ls) w row v c (inl q) =
    let e : l.row ≡ row = eqb-true l.row row (and_parts (l.row == row) (l.version == v) q.0).0 in
    let f : l.version ≡ v = eqb-true l.version v (and_parts (l.row == row) (l.version == v) q.0).1 in
    (subst (λ n. 1 ≤ n) f w.0, subst (λ n. n ≤ changes_of all row) f (subst (λ n. l.version ≤ changes_of all n) e w.1))

-- a version from this one on is this one or a later one
pub which : (v w : ℕ) → v ≤ w → (v ≡ w) ⊎ (suc v ≤ w)
which v w l = on (v == w) refl where
  apart : (a b : ℕ) → a ≤ b → (a == b) ≡ false → suc a ≤ b
  apart a b l q = grind (arith, l, q)

  on : (b : Bool) → (v == w) ≡ b → (v ≡ w) ⊎ (suc v ≤ w)
  on true q = inl (eqb-true v w q)
  on false q = inr (apart v w l q)

module _ (lines : List Tagged) (row : ℕ) (once : (version : ℕ) → length (standing lines row version) ≤ 1) where
  -- what the first take of a piece of the chain is
  abbrev pub IsFirst : ℕ → ℕ → Option ℕ → Type 0
  IsFirst v k None = (w a : ℕ) → v ≤ w → w < v + k → Stands lines row w (Taken a) → ⊥
  IsFirst v k (Some a) = (u : ℕ) × (v ≤ u) × Stands lines row u (Taken a) × ((w b : ℕ) → v ≤ w → w < u → Stands lines row w (Taken b) → ⊥)

  pub first_is : (v k : ℕ) → IsFirst v k (first_take (chain_from lines row v k))
  first_is v zero = λ w a l m s. absurd (omega (arith, l, m))
  first_is v (suc k) = at (standing lines row v) refl (once v) (first_take (chain_from lines row (suc v) k)) refl (first_is (suc v) k) where
    skip : ((a : ℕ) → Stands lines row v (Taken a) → ⊥) → (o : Option ℕ) → IsFirst (suc v) k o → IsFirst v (suc k) o
    skip never None f = λ w a l m s. here w a l m s (which v w l) where
      here : (w a : ℕ) → v ≤ w → w < v + suc k → Stands lines row w (Taken a) → (v ≡ w) ⊎ (suc v ≤ w) → ⊥
      here w a l m s (inl e) = never a (subst (λ n. Stands lines row n (Taken a)) (sym e) s)
      here w a l m s (inr n) = f w a n (omega (arith, m)) s
    skip never (Some a) f = (f.0, (let l : suc v ≤ f.0 = f.1 in omega (arith, l)), f.2, λ w b l m s. here w b l m s (which v w l)) where
      here : (w b : ℕ) → v ≤ w → w < f.0 → Stands lines row w (Taken b) → (v ≡ w) ⊎ (suc v ≤ w) → ⊥
      here w b l m s (inl e) = never b (subst (λ n. Stands lines row n (Taken b)) (sym e) s)
      here w b l m s (inr n) = f.3 w b n m s

    none_of : (cs : List Change) → standing lines row v ≡ cs → ((a : ℕ) → IsChange (Taken a) cs → ⊥) → (a : ℕ) → Stands lines row v (Taken a) → ⊥
    none_of cs q never a s = never a (subst (IsChange (Taken a)) q (stands_among lines row v (Taken a) s))

    no_added : (es : List ℕ) (a : ℕ) → IsChange (Taken a) (Added es ∷ []) → ⊥
    no_added es a (inl e) = absurd (cc)
    no_added es a (inr e) = absurd e

    no_given : (n g a : ℕ) → IsChange (Taken a) (Given n g ∷ []) → ⊥
    no_given n g a (inl e) = absurd (cc)
    no_given n g a (inr e) = absurd e

    at : (cs : List Change) → standing lines row v ≡ cs → length cs ≤ 1 → (o : Option ℕ) → first_take (chain_from lines row (suc v) k) ≡ o → IsFirst (suc v) k o → IsFirst v (suc k) (first_take (cs ++ chain_from lines row (suc v) k))
    at [] q l o e f = subst (IsFirst v (suc k)) (sym e) (skip (none_of [] q (λ a h. h)) o f)
    at (Added es ∷ []) q l o e f = subst (IsFirst v (suc k)) (sym e) (skip (none_of (Added es ∷ []) q (no_added es)) o f)
    at (Given n g ∷ []) q l o e f = subst (IsFirst v (suc k)) (sym e) (skip (none_of (Given n g ∷ []) q (no_given n g)) o f)
    at (Taken n ∷ []) q l o e f = (v, omega arith, among_stands lines row v (Taken n) (subst (IsChange (Taken n)) (sym q) (inl refl)), λ w b l m s. absurd (omega (arith, l, m)))
    at (c ∷ d ∷ cs) q l o e f = absurd (omega (arith, l))
