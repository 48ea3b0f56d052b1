-- What stands in a row is the total of what stands there of each event.
use Rattle.std.proofs.Common.{◌≡◌, ℕ, zero, suc, ◌+◌, ◌<◌, ◌≤◌, ◌==◌, Bool, true, false, cond, List, [], ◌∷◌, fold, refl, sym, ap, ◌∙◌, arith}
use Rattle.pfs_conservation.specs.RowChains.{Change, Added, Taken, Given, Sums, with_event, changed, content, found_in, found_by, Finds, Below}
use Rattle.pfs_conservation.specs.Conservation.{Once, AddsOnce}
use Rattle.pfs_conservation.proofs.MergeTotals.{Merges, total, total_add, total_none, total_one}

-- how often one event stands somewhere
abbrev pub token : ℕ → Sums ℕ
token e = record { nothing = 0; merge = λ a b. a + b; of_event = λ x. cond (x == e) 1 0 }

module _ {A : Type 0} (s : Sums A) (m : Merges s) (all : List ℕ) (found : ℕ → ℕ → A) (founds : ℕ → ℕ → ℕ → ℕ) where
  -- what each give of the chain brings is the total of what it brings of each event
  pub Agree : List Change → Type 0
  Agree [] = Unit {0}
  Agree (Added es ∷ cs) = Once all es × Agree cs
  Agree (Taken n ∷ cs) = Agree cs
  Agree (Given n row ∷ cs) = (found n row ≡ total s (λ e. founds e n row) all) × Agree cs

  added_total : (w : ℕ → ℕ) (es : List ℕ) → Once all es → fold (with_event s) (total s w all) es ≡ total s (λ e. fold (with_event (token e)) (w e) es) all
  added_total w [] h = refl
  added_total w (x ∷ es) h =
      ap (λ y. fold (with_event s) (s.merge (total s w all) y) es) (sym (total_one s m x all h.0))
      ∙ (ap (λ y. fold (with_event s) y es) (sym (total_add s m w (λ e. cond (x == e) 1 0) all))
      ∙ added_total (λ e. w e + cond (x == e) 1 0) es h.1)

  pub content_total : (w : ℕ → ℕ) (cs : List Change) → Agree cs → fold (changed s found) (total s w all) cs ≡ total s (λ e. fold (changed (token e) (founds e)) (w e) cs) all
  unfolding Agree
  content_total w [] h = refl
  content_total w (Added es ∷ cs) h =
      ap (λ y. fold (changed s found) y cs) (added_total w es h.0) ∙ content_total (λ e. fold (with_event (token e)) (w e) es) cs h.1
  content_total w (Taken n ∷ cs) h =
      ap (λ y. fold (changed s found) y cs) (sym (total_none s m all)) ∙ content_total (λ e. 0) cs h
  content_total w (Given n row ∷ cs) h =
      ap (λ y. fold (changed s found) (s.merge (total s w all) y) cs) h.0
      ∙ (ap (λ y. fold (changed s found) y cs) (sym (total_add s m w (λ e. founds e n row) all))
      ∙ content_total (λ e. w e + founds e n row) cs h.1)

  pub found_total : (w : ℕ → ℕ) (action : ℕ) (cs : List Change) → Agree cs → found_in s found (total s w all) action cs ≡ total s (λ e. found_in (token e) (founds e) (w e) action cs) all
  unfolding Agree
  found_total w action [] h = sym (total_none s m all)
  found_total w action (Added es ∷ cs) h =
      ap (λ y. found_in s found y action cs) (added_total w es h.0) ∙ found_total (λ e. fold (with_event (token e)) (w e) es) action cs h.1
  found_total w action (Taken n ∷ cs) h = taken (n == action) refl (found_total (λ e. 0) action cs h)
    where
      taken : (b : Bool) → (n == action) ≡ b → found_in s found (total s (λ e. 0) all) action cs ≡ total s (λ e. found_in (token e) (founds e) 0 action cs) all
          → cond (n == action) (total s w all) (found_in s found s.nothing action cs) ≡ total s (λ e. cond (n == action) (w e) (found_in (token e) (founds e) 0 action cs)) all
      taken true q ih = rw q refl
      taken false q ih = rw q (ap (λ y. found_in s found y action cs) (sym (total_none s m all)) ∙ ih)
  found_total w action (Given n row ∷ cs) h =
      ap (λ y. found_in s found (s.merge (total s w all) y) action cs) h.0
      ∙ (ap (λ y. found_in s found y action cs) (sym (total_add s m w (λ e. founds e n row) all))
      ∙ found_total (λ e. w e + founds e n row) action cs h.1)

module _ {A : Type 0} (s : Sums A) (m : Merges s) (all : List ℕ) (chains : ℕ → List Change) (level : ℕ → ℕ) (rises : (row : ℕ) → Below level (level row) (chains row)) (once : (row : ℕ) → AddsOnce all (chains row)) (found : ℕ → ℕ → A) (finds : Finds s chains found) where
  abbrev pub IsTotal : ℕ → Type 0
  IsTotal depth = (n row : ℕ) → level row < depth → found n row ≡ total s (λ e. found_by (token e) chains depth n row) all

  agree : (depth height : ℕ) (cs : List Change) → height ≤ depth → Below level height cs → AddsOnce all cs → IsTotal depth → Agree s m all found (λ e n row. found_by (token e) chains depth n row) cs
  unfolding Agree
  agree depth height [] h b o t = tt
  agree depth height (Added es ∷ cs) h b o t = (o.0, agree depth height cs h b o.1 t)
  agree depth height (Taken n ∷ cs) h b o t = agree depth height cs h b o t
  agree depth height (Given n row ∷ cs) h b o t = (t n row (let low : suc (level row) ≤ height = b.0 in omega arith), agree depth height cs h b.1 o t)

  pub natural : (depth : ℕ) → IsTotal depth
  natural zero n row h = absurd (omega arith)
  natural (suc depth) n row h =
      finds.is n row
      ∙ (ap (λ x. found_in s found x n (chains row)) (sym (total_none s m all))
      ∙ found_total s m all found (λ e k r. found_by (token e) chains depth k r) (λ e. 0) n (chains row)
      (agree depth (level row) (chains row) (omega arith) (rises row) (once row) (natural depth)))

  -- what stands in a row is the total of what stands there of each event
  pub content_natural : (depth row : ℕ) → level row ≤ depth → content s found (chains row) ≡ total s (λ e. content (token e) (found_by (token e) chains depth) (chains row)) all
  content_natural depth row h =
      ap (λ x. fold (changed s found) x (chains row)) (sym (total_none s m all))
      ∙ content_total s m all found (λ e k r. found_by (token e) chains depth k r) (λ e. 0) (chains row)
      (agree depth (level row) (chains row) h (rises row) (once row) (natural depth))

-- the rows' takes found by depth find what their own gives brought
abbrev pub Same : {A : Type 0} → (ℕ → ℕ → A) → (ℕ → ℕ → A) → List Change → Type 0
Same f g [] = Unit {0}
Same f g (Given n row ∷ cs) = (f n row ≡ g n row) × Same f g cs
Same f g (c ∷ cs) = Same f g cs

found_same : {A : Type 0} (s : Sums A) (f g : ℕ → ℕ → A) (here : A) (n : ℕ) (cs : List Change) → Same f g cs → found_in s f here n cs ≡ found_in s g here n cs
found_same s f g here n [] h = refl
found_same s f g here n (Added es ∷ cs) h = found_same s f g (fold (with_event s) here es) n cs h
found_same s f g here n (Taken k ∷ cs) h = ap (λ x. cond (k == n) here x) (found_same s f g s.nothing n cs h)
found_same s f g here n (Given k row ∷ cs) h = ap (λ x. found_in s f (s.merge here x) n cs) h.0 ∙ found_same s f g (s.merge here (g k row)) n cs h.1

module _ {A : Type 0} (s : Sums A) (chains : ℕ → List Change) (level : ℕ → ℕ) (rises : (row : ℕ) → Below level (level row) (chains row)) where
  IsStable : ℕ → Type 0
  IsStable depth = (n row : ℕ) → level row < depth → found_by s chains depth n row ≡ found_by s chains (suc depth) n row

  same : (depth height : ℕ) (cs : List Change) → height ≤ depth → Below level height cs → IsStable depth → Same (found_by s chains depth) (found_by s chains (suc depth)) cs
  unfolding IsStable
  same depth height [] h b t = tt
  same depth height (Added es ∷ cs) h b t = same depth height cs h b t
  same depth height (Taken n ∷ cs) h b t = same depth height cs h b t
  same depth height (Given n row ∷ cs) h b t = (t n row (let low : suc (level row) ≤ height = b.0 in omega arith), same depth height cs h b.1 t)

  stable : (depth : ℕ) → IsStable depth
  unfolding IsStable
  stable zero n row h = absurd (omega arith)
  stable (suc depth) n row h = found_same s (found_by s chains depth) (found_by s chains (suc depth)) s.nothing n (chains row) (same depth (level row) (chains row) (omega arith) (rises row) (stable depth))

  pub found_is : (depth n row : ℕ) → level row < depth → found_by s chains depth n row ≡ found_in s (found_by s chains depth) s.nothing n (chains row)
  unfolding IsStable
  found_is depth n row h = stable depth n row h
