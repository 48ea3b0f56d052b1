-- What follows from a history alone.
use Rattle.std.proofs.Common.{◌≡◌, ℕ, eqb, subst, eq-eqb, ne_eqb, ◌+◌, ◌-◌, ◌<◌, ◌≤◌, ◌≢◌, ◌⊎◌, Bool, true, false, cond, not, List, [], ◌∷◌, ◌++◌, length, sym, refl, ap, ◌∙◌, inl, inr, ⊎_elim, arith, length-append}
use Rattle.std.proofs.Common.{append-nil}
use Rattle.std.specs.Prelude.{nat_lt}
use Rattle.std.proofs.lemmas.Bool.Decides.{nat_tests}
use Rattle.std.proofs.lemmas.Bool.{cases_Bool, cond-false, cond-true, le-ltb}
use mathlib.Core.Logic.{dite}
use native.Mathlib.Decide.{ℕ_discrete}
use Rattle.pfs_board.specs.declared.view.Change.{Change}
use Rattle.pfs_board.specs.declared.view.Label.{Label}
use Rattle.pfs_board.specs.History.{total, Each, Some_of, lock_at, step_of, version, stands, stood, is_free, IsFreedAt, labels_of, Follows, IsChain, Rises, oldest, level, version_of, shows_to, Floor}

module _ {A : Type 0} where
  pub each_map : (P Q : A → Type 0) → ((x : A) → P x → Q x) → (xs : List A) → Each P xs → Each Q xs
  each_map P Q f [] e = tt
  each_map P Q f (x ∷ xs) e = (f x e.0, each_map P Q f xs e.1)

  pub each_both : (P Q R : A → Type 0) → ((x : A) → P x → Q x → R x) → (xs : List A) → Each P xs → Each Q xs → Each R xs
  each_both P Q R f [] e g = tt
  each_both P Q R f (x ∷ xs) e g = (f x e.0 g.0, each_both P Q R f xs e.1 g.1)

  pub each_append : (P : A → Type 0) (xs ys : List A) → Each P xs → Each P ys → Each P (xs ++ ys)
  each_append P [] ys e f = f
  each_append P (x ∷ xs) ys e f = (e.0, each_append P xs ys e.1 f)

  pub some_map : (P Q : A → Type 0) → ((x : A) → P x → Q x) → (xs : List A) → Some_of P xs → Some_of Q xs
  some_map P Q f [] e = absurd e
  some_map P Q f (x ∷ xs) e = ⊎_elim (λ p. inl (f x p)) (λ p. inr (some_map P Q f xs p)) e

  pub total_append : (h : A → ℕ) (xs ys : List A) → total h (xs ++ ys) ≡ total h xs + total h ys
  total_append h [] ys = omega arith
  total_append h (x ∷ xs) ys = let e = total_append h xs ys in omega arith

pub version_here : (p : Change) (ps : List Change) (r : ℕ) → p.row ≡ r → version (p ∷ ps) r ≡ version ps r + step_of p
version_here p ps r h = cond-true (eqb p.row r) (version ps r + step_of p) (version ps r) (eq-eqb p.row r h)

pub version_other : (p : Change) (ps : List Change) (r : ℕ) → p.row ≢ r → version (p ∷ ps) r ≡ version ps r
version_other p ps r h = cond-false (eqb p.row r) (version ps r + step_of p) (version ps r) (ne_eqb p.row r h)

pub step_put : (p : Change) → p.puts ≡ true → step_of p ≡ 1
step_put p e = cond-true p.puts 1 0 e

pub step_release : (p : Change) → p.puts ≡ false → step_of p ≡ 0
step_release p e = cond-false p.puts 1 0 e

pub level_put : (p : Change) → p.puts ≡ true → level p ≡ p.version
level_put p e = cond-true p.puts p.version (p.version + 1) e

pub level_release : (p : Change) → p.puts ≡ false → level p ≡ p.version + 1
level_release p e = cond-false p.puts p.version (p.version + 1) e

pub version_more : (p : Change) (ps : List Change) (r : ℕ) → version ps r ≤ version (p ∷ ps) r
version_more p ps r = dite (ℕ_discrete p.row r) (λ e. let v = version_here p ps r e in omega arith) (λ n. let v = version_other p ps r n in omega arith)

pub labels_other : (p : Change) (ps : List Change) → p.row ≢ 0 → labels_of (p ∷ ps) ≡ labels_of ps
labels_other p ps n = cond-false (eqb p.row 0) _ (labels_of ps) (ne_eqb p.row 0 n)

pub labels_release : (p : Change) (ps : List Change) → p.row ≡ 0 → p.puts ≡ false → labels_of (p ∷ ps) ≡ labels_of ps
labels_release p ps h e = cond-true (eqb p.row 0) _ (labels_of ps) (eq-eqb p.row 0 h) ∙ cond-false p.puts _ (labels_of ps) e

pub labels_put : (p : Change) (ps : List Change) → p.row ≡ 0 → p.puts ≡ true → labels_of (p ∷ ps) ≡ labels_of ps ++ p.label ∷ []
labels_put p ps h e = cond-true (eqb p.row 0) _ (labels_of ps) (eq-eqb p.row 0 h) ∙ cond-true p.puts (labels_of ps ++ p.label ∷ []) (labels_of ps) e

-- an entry takes no label back
pub labels_more : (p : Change) (ps : List Change) → (more : List Label) × (labels_of (p ∷ ps) ≡ labels_of ps ++ more)
labels_more p ps = dite (ℕ_discrete p.row 0)
    (λ e. ⊎_elim (λ puts. (p.label ∷ [], labels_put p ps e puts)) (λ releases. ([], labels_release p ps e releases ∙ sym (append-nil (labels_of ps)))) (cases_Bool p.puts))
    (λ n. ([], labels_other p ps n ∙ sym (append-nil (labels_of ps))))

-- there are as many labels as row 0 has publications
pub length_labels : (log : List Change) → length (labels_of log) ≡ version log 0
length_labels [] = refl
length_labels (p ∷ ps) = let e = length_labels ps in dite (ℕ_discrete p.row 0)
    (λ h. ⊎_elim
    (λ puts. let l = ap (length {A = Label}) (labels_put p ps h puts) in let a = length-append (labels_of ps) (p.label ∷ []) in let v = version_here p ps 0 h in let s = step_put p puts in omega arith)
    (λ releases. let l = ap (length {A = Label}) (labels_release p ps h releases) in let v = version_here p ps 0 h in let s = step_release p releases in omega arith)
    (cases_Bool p.puts))
    (λ n. let l = ap (length {A = Label}) (labels_other p ps n) in let v = version_other p ps 0 n in omega arith)

pub version_below_total : (log : List Change) (r : ℕ) → version log r ≤ total step_of log
version_below_total [] r = omega arith
version_below_total (p ∷ ps) r = let b = version_below_total ps r in let x : ℕ = step_of p in let a : ℕ = total step_of ps in
    dite (ℕ_discrete p.row r) (λ e. let v : version (p ∷ ps) r ≡ version ps r + x = version_here p ps r e in let g : version (p ∷ ps) r ≤ x + a = omega arith in g)
    (λ n. let v = version_other p ps r n in let g : version (p ∷ ps) r ≤ x + a = omega arith in g)

module _ (start : List ℕ) where
  pub stands_other : (p : Change) (ps : List Change) (r i : ℕ) → p.row ≢ r → stands start (p ∷ ps) r i ≡ stands start ps r i
  stands_other p ps r i h = cond-false (eqb p.row r) _ (stands start ps r i) (ne_eqb p.row r h)

  pub stands_put : (p : Change) (ps : List Change) (r i : ℕ) → p.row ≡ r → p.puts ≡ true → stands start (p ∷ ps) r i ≡ Rattle.std.specs.Prelude.slice_index p.put i
  stands_put p ps r i h e = cond-true (eqb p.row r) _ _ (eq-eqb p.row r h) ∙ cond-true p.puts _ _ e

  pub stands_release : (p : Change) (ps : List Change) (r i : ℕ) → p.row ≡ r → p.puts ≡ false → stands start (p ∷ ps) r i ≡ stands start ps r i
  stands_release p ps r i h e = cond-true (eqb p.row r) _ _ (eq-eqb p.row r h) ∙ cond-false p.puts _ (stands start ps r i) e

  pub free_other : (p : Change) (ps : List Change) (r : ℕ) → p.row ≢ r → is_free start (p ∷ ps) r ≡ is_free start ps r
  free_other p ps r h = cond-false (eqb p.row r) _ (is_free start ps r) (ne_eqb p.row r h)

  pub free_here : (p : Change) (ps : List Change) (r : ℕ) → p.row ≡ r → is_free start (p ∷ ps) r ≡ not p.puts
  free_here p ps r h = cond-true (eqb p.row r) (not p.puts) _ (eq-eqb p.row r h)

  stood_other : (p : Change) (ps : List Change) (r k i : ℕ) → p.row ≢ r → stood start (p ∷ ps) r k i ≡ stood start ps r k i
  stood_other p ps r k i h = cond-false (eqb p.row r) _ (stood start ps r k i) (ne_eqb p.row r h)

  stood_release : (p : Change) (ps : List Change) (r k i : ℕ) → p.row ≡ r → p.puts ≡ false → stood start (p ∷ ps) r k i ≡ stood start ps r k i
  stood_release p ps r k i h e = cond-true (eqb p.row r) _ _ (eq-eqb p.row r h) ∙ cond-false p.puts _ (stood start ps r k i) e

  stood_at : (p : Change) (ps : List Change) (r k i : ℕ) → p.row ≡ r → p.puts ≡ true → p.version ≡ k → stood start (p ∷ ps) r k i ≡ Rattle.std.specs.Prelude.slice_index p.put i
  stood_at p ps r k i h e v = cond-true (eqb p.row r) _ _ (eq-eqb p.row r h) ∙ (cond-true p.puts _ _ e ∙ cond-true (eqb p.version k) _ _ (eq-eqb p.version k v))

  stood_below : (p : Change) (ps : List Change) (r k i : ℕ) → p.row ≡ r → p.puts ≡ true → p.version ≢ k → stood start (p ∷ ps) r k i ≡ stood start ps r k i
  stood_below p ps r k i h e v = cond-true (eqb p.row r) _ _ (eq-eqb p.row r h) ∙ (cond-true p.puts _ _ e ∙ cond-false (eqb p.version k) _ (stood start ps r k i) (ne_eqb p.version k v))

  -- an entry changes nothing at versions that were there before
  pub stood_before : (p : Change) (ps : List Change) (r k i : ℕ) → Follows start ps p → k ≤ version ps r → stood start (p ∷ ps) r k i ≡ stood start ps r k i
  stood_before p ps r k i f below = dite (ℕ_discrete p.row r)
      (λ e. ⊎_elim (λ puts. stood_below p ps r k i e puts (λ same. let n = f.numbered in let s = step_put p puts in let a = ap (version ps) e in omega arith))
      (λ releases. stood_release p ps r k i e releases) (cases_Bool p.puts))
      (λ n. stood_other p ps r k i n)

  pub stood_now : (log : List Change) (r i : ℕ) → IsChain start log → stood start log r (version log r) i ≡ stands start log r i
  stood_now [] r i c = refl
  stood_now (p ∷ ps) r i c = let f = c.0 in dite (ℕ_discrete p.row r)
      (λ e. ⊎_elim (λ puts. let v = version_here p ps r e in let a = ap (version ps) e in let n = f.numbered in stood_at p ps r (version (p ∷ ps) r) i e puts (omega arith) ∙ sym (stands_put p ps r i e puts))
      (λ releases. let v : version (p ∷ ps) r ≡ version ps r = version_here p ps r e ∙ (ap (λ z. version ps r + z) (step_release p releases) ∙ omega arith) in
      stood_release p ps r (version (p ∷ ps) r) i e releases ∙ (ap (λ k. stood start ps r k i) v ∙ (stood_now ps r i c.1 ∙ sym (cond-true (eqb p.row r) _ _ (eq-eqb p.row r e) ∙ cond-false p.puts _ (stands start ps r i) releases)))) (cases_Bool p.puts))
      (λ n. stood_other p ps r (version (p ∷ ps) r) i n ∙ (ap (λ k. stood start ps r k i) (version_other p ps r n) ∙ (stood_now ps r i c.1 ∙ sym (stands_other p ps r i n))))

  pub below_all : (log : List Change) (r : ℕ) → IsChain start log → Each (λ (p : Change). p.row ≡ r → version_of p ≤ version log r) log
  below_all [] r c = tt
  below_all (p ∷ ps) r c = let n = c.0.numbered in (
    (λ e. let v = version_here p ps r e in let a = ap (version ps) e in omega arith),
    each_map (λ (q : Change). q.row ≡ r → version_of q ≤ version ps r) (λ (q : Change). q.row ≡ r → version_of q ≤ version (p ∷ ps) r) (λ q b e. let m = version_more p ps r in let l = b e in omega arith) ps (below_all ps r c.1),
  )

  pub level_next : (q : Change) → level q ≤ version_of q + 1
  level_next q = ⊎_elim (λ e. let l = level_put q e in omega arith) (λ e. let l = level_release q e in omega arith) (cases_Bool q.puts)

  not_true : (b : Bool) → not b ≡ false → b ≡ true
  not_true true e = refl
  not_true false e = cc

  not_false : (b : Bool) → not b ≡ true → b ≡ false
  not_false true e = cc
  not_false false e = refl

  -- a row that is not free was published since each release
  pub level_all : (log : List Change) (r : ℕ) → IsChain start log → is_free start log r ≡ false → Each (λ (p : Change). p.row ≡ r → level p ≤ version log r) log
  level_all [] r c not_free = tt
  level_all (p ∷ ps) r c not_free = let n = c.0.numbered in dite (ℕ_discrete p.row r)
      (λ e. let puts : p.puts ≡ true = not_true p.puts (sym (free_here p ps r e) ∙ not_free) in let v = version_here p ps r e in let a = ap (version ps) e in let s = step_put p puts in let l = level_put p puts in (
        (λ _. omega arith),
        each_map (λ (q : Change). q.row ≡ r → version_of q ≤ version ps r) (λ (q : Change). q.row ≡ r → level q ≤ version (p ∷ ps) r) (λ q b e. let m = b e in let x = level_next q in omega arith) ps (below_all ps r c.1),
      ))
      (λ other. let v = version_other p ps r other in (
        (λ e. absurd (other e)),
        each_map (λ (q : Change). q.row ≡ r → level q ≤ version ps r) (λ (q : Change). q.row ≡ r → level q ≤ version (p ∷ ps) r) (λ q b e. let m = b e in omega arith) ps (level_all ps r c.1 (sym (free_other p ps r other) ∙ not_free)),
      ))

  pub freed_more : (p : Change) (ps : List Change) (r k : ℕ) → IsFreedAt start ps r k → IsFreedAt start (p ∷ ps) r k
  freed_more p ps r k f = ⊎_elim (λ s. inl (inr s)) (λ t. inr t) f

  test_eq : (a b : ℕ) → eqb a b ≡ true → a ≡ b
  test_eq a b e = grind (arith, nat_tests)

  -- a release at the last version is the row's last entry
  pub freed_last : (log : List Change) (r : ℕ) → IsChain start log → IsFreedAt start log r (version log r) → is_free start log r ≡ true
  freed_last [] r c (inl none) = absurd none
  freed_last [] r c (inr opened) = eq-eqb _ 0 opened.1
  freed_last (p ∷ ps) r c f = dite (ℕ_discrete p.row r)
      (λ e. ⊎_elim (λ puts. absurd (later e puts f)) (λ releases. free_here p ps r e ∙ ap not releases) (cases_Bool p.puts))
      (λ n. free_other p ps r n ∙ freed_last ps r c.1 (subst (IsFreedAt start ps r) (version_other p ps r n) (before n (version (p ∷ ps) r) f))) where
        before : p.row ≢ r → (k : ℕ) → IsFreedAt start (p ∷ ps) r k → IsFreedAt start ps r k
        before n k (inl (inl here)) = absurd (n here.0)
        before n k (inl (inr there)) = inl there
        before n k (inr opened) = inr opened

        below : (k : ℕ) (qs : List Change) → Each (λ (q : Change). q.row ≡ r → version_of q ≤ k) qs → Some_of (λ (q : Change). (q.row ≡ r) × (q.puts ≡ false) × (q.version ≡ k + 1)) qs → ⊥
        below k [] b s = s
        below k (q ∷ qs) b (inl here) = let l : q.version ≤ k = b.0 here.0 in let v : q.version ≡ k + 1 = here.2 in absurd (omega (arith, l, v))
        below k (q ∷ qs) b (inr there) = below k qs b.1 there

        up : p.row ≡ r → p.puts ≡ true → version (p ∷ ps) r ≡ version ps r + 1
        up e puts = let v = version_here p ps r e in let s = step_put p puts in omega arith

        later : p.row ≡ r → p.puts ≡ true → IsFreedAt start (p ∷ ps) r (version (p ∷ ps) r) → ⊥
        later e puts (inl (inl here)) = let x : true ≡ false = sym puts ∙ here.1 in cc
        later e puts (inl (inr there)) = below (version ps r) ps (below_all ps r c.1) (subst (λ k. Some_of (λ (q : Change). (q.row ≡ r) × (q.puts ≡ false) × (q.version ≡ k)) ps) (up e puts) there)
        later e puts (inr opened) = let z : version (p ∷ ps) r ≡ 0 = opened.0 in let u = up e puts in absurd (omega (arith, z, u))

  -- a row that was never published and isn't free opened allocated
  pub never_opened : (log : List Change) (r : ℕ) → IsChain start log → version log r ≡ 0 → is_free start log r ≡ false → Rattle.std.specs.Prelude.slice_index start (lock_at r) ≢ 0
  never_opened [] r c none f = λ e. let x : true ≡ false = sym (eq-eqb _ 0 e) ∙ f in cc
  never_opened (p ∷ ps) r c none f = dite (ℕ_discrete p.row r)
      (λ e. let puts : p.puts ≡ true = not_true p.puts (sym (free_here p ps r e) ∙ f) in let v = version_here p ps r e in let s = step_put p puts in absurd (omega (arith, v, s, none)))
      (λ n. never_opened ps r c.1 (sym (version_other p ps r n) ∙ none) (sym (free_other p ps r n) ∙ f))

  pub freed_now : (log : List Change) (r : ℕ) → IsChain start log → is_free start log r ≡ true → IsFreedAt start log r (version log r)
  freed_now [] r c f = inr (refl, test_eq _ 0 f)
  freed_now (p ∷ ps) r c f = dite (ℕ_discrete p.row r)
      (λ e. let rel : p.puts ≡ false = not_false p.puts (sym (free_here p ps r e) ∙ f) in inl (inl (e, rel, c.0.numbered ∙ (ap (λ z. version ps z + step_of p) e ∙ sym (version_here p ps r e)))))
      (λ n. subst (λ k. IsFreedAt start (p ∷ ps) r k) (sym (version_other p ps r n)) (freed_more p ps r (version ps r) (freed_now ps r c.1 (sym (free_other p ps r n) ∙ f))))

pub oldest_more : (n : ℕ) (p : Change) (ps : List Change) → n ≤ length ps → oldest n (p ∷ ps) ≡ oldest n ps
oldest_more n p ps h = cond-false (nat_lt (length ps) n) (p ∷ ps) (oldest n ps) (le-ltb (length ps) n h)

pub oldest_append : (n : ℕ) (qs ps : List Change) → n ≤ length ps → oldest n (qs ++ ps) ≡ oldest n ps
oldest_append n [] ps h = refl
oldest_append n (q ∷ qs) ps h = let e = length-append qs ps in oldest_more n q (qs ++ ps) (omega arith) ∙ oldest_append n qs ps h

pub each_oldest : (P : Change → Type 0) (n : ℕ) (ps : List Change) → Each P ps → Each P (oldest n ps)
each_oldest P n [] e = tt
each_oldest P n (p ∷ ps) e = ⊎_elim (λ t. subst (Each P) (sym (cond-true (nat_lt (length ps) n) (p ∷ ps) (oldest n ps) t)) e)
    (λ t. subst (Each P) (sym (cond-false (nat_lt (length ps) n) (p ∷ ps) (oldest n ps) t)) (each_oldest P n ps e.1)) (cases_Bool (nat_lt (length ps) n))

-- Of the changes that one seat has nothing is above k where nothing in the history is: how far each is above k is its weight
module _ (f : Change → ℕ) (r k : ℕ) where
  excess : Change → ℕ
  excess p = cond (eqb p.row r) (f p - k) 0

  none_over : (ps : List Change) → Each (λ (p : Change). p.row ≡ r → f p ≤ k) ps → total excess ps ≡ 0
  unfolding excess
  none_over [] e = refl
  none_over (p ∷ ps) e = let rest = none_over ps e.1 in dite (ℕ_discrete p.row r)
      (λ h. let b = e.0 h in let x : excess p ≡ 0 = cond-true (eqb p.row r) (f p - k) 0 (eq-eqb p.row r h) ∙ omega arith in omega arith)
      (λ n. let x : excess p ≡ 0 = cond-false (eqb p.row r) (f p - k) 0 (ne_eqb p.row r n) in omega arith)

  over_none : (ps : List Change) → total excess ps ≤ 0 → Each (λ (p : Change). p.row ≡ r → f p ≤ k) ps
  unfolding excess
  over_none [] e = tt
  over_none (p ∷ ps) e = (
    (λ h. let x : excess p ≡ f p - k = cond-true (eqb p.row r) (f p - k) 0 (eq-eqb p.row r h) in omega arith),
    over_none ps (omega arith),
  )

  pub of_all : (had log : List Change) → ((h : Change → ℕ) → total h had ≤ total h log) → Each (λ (p : Change). p.row ≡ r → f p ≤ k) log → Each (λ (p : Change). p.row ≡ r → f p ≤ k) had
  of_all had log sub e = let z = none_over log e in let s = sub excess in over_none had (omega arith)

module _ (f : Change → ℕ) (log had : List Change) (row k after base : ℕ) where
  pub floor_new : after ≤ version log 0 → base ≤ length had → ((h : Change → ℕ) → total h had ≤ total h log) → Each (λ (p : Change). p.row ≡ row → f p ≤ k) log → Floor f log had row k after base
  floor_new a b sub e = record {
    ended = a;
    split_at = b;
    actions = each_map (λ (p : Change). p.row ≡ row → f p ≤ k) (λ (p : Change). p.row ≡ row → 0 < p.action → p.action ≤ after → f p ≤ k) (λ p g h _ _. g h) log e;
    first = each_oldest (λ (p : Change). p.row ≡ row → f p ≤ k) base had (of_all f row k had log sub e);
  }

  pub floor_log : (p : Change) → (p.action ≡ 0) ⊎ (p.action ≡ version log 0 + 1) → Floor f log had row k after base → Floor f (p ∷ log) had row k after base
  floor_log p act o = let a = o.ended in let m = version_more p log 0 in record {
    ended = omega arith;
    split_at = o.split_at;
    actions = ((λ _ some_action below. absurd (⊎_elim (λ z. omega arith) (λ z. omega arith) act)), o.actions);
    first = o.first;
  }

  pub floor_had : (had' : List Change) → length had ≤ length had' → oldest base had' ≡ oldest base had → Floor f log had row k after base → Floor f log had' row k after base
  floor_had had' long same o = let b = o.split_at in record {
    ended = o.ended;
    split_at = omega arith;
    actions = o.actions;
    first = subst (Each (λ (p : Change). p.row ≡ row → f p ≤ k)) (sym same) o.first;
  }

-- What a history says of actions
module _ (start : List ℕ) where
  pub actions_below : (log : List Change) → IsChain start log → Each (λ (p : Change). p.action ≤ version log 0 + 1) log
  actions_below [] c = tt
  actions_below (p ∷ ps) c = let m = version_more p ps 0 in (
    ⊎_elim (λ z. omega arith) (λ z. omega arith) c.0.inside,
    each_map (λ (q : Change). q.action ≤ version ps 0 + 1) (λ (q : Change). q.action ≤ version (p ∷ ps) 0 + 1) (λ q b. omega arith) ps (actions_below ps c.1),
  )

  pub rises : (log : List Change) → IsChain start log → Rises log
  rises [] c = tt
  rises (p ∷ ps) c = (
    (λ some_action. each_map (λ (q : Change). q.action ≤ version ps 0 + 1) (λ (q : Change). q.row ≡ p.row → q.action ≤ p.action) (λ q b _. ⊎_elim (λ z. absurd (omega arith)) (λ z. omega arith) c.0.inside) ps (actions_below ps c.1)),
    rises ps c.1,
  )

  pub afters_below : (log : List Change) → IsChain start log → Each (λ (p : Change). p.after ≤ version log 0) log
  afters_below [] c = tt
  afters_below (p ∷ ps) c = let m = version_more p ps 0 in let a = c.0.after_it in (
    omega arith,
    each_map (λ (q : Change). q.after ≤ version ps 0) (λ (q : Change). q.after ≤ version (p ∷ ps) 0) (λ q b. omega arith) ps (afters_below ps c.1),
  )

  level_now : (p : Change) (ps : List Change) → Follows start ps p → level p ≡ version ps p.row + 1
  level_now p ps f = let n = f.numbered in ⊎_elim (λ g. let l = level_put p g in let s = step_put p g in omega arith) (λ g. let l = level_release p g in let s = step_release p g in omega arith) (cases_Bool p.puts)

  -- an entry is not below those before it
  pub shows_next : (p e : Change) (v : ℕ) → e.version ≤ v → p.version ≡ v + step_of p → shows_to p e ≤ p.version
  shows_next p e v low at = ⊎_elim
      (λ g. let s = step_put p g in let l = level_next start e in let is : shows_to p e ≡ level e = cond-true p.puts (level e) e.version g in omega (arith, s, l, is, at, low))
      (λ g. let s = step_release p g in let is : shows_to p e ≡ e.version = cond-false p.puts (level e) e.version g in omega (arith, s, is, at, low)) (cases_Bool p.puts)

  shows_self : (p : Change) → shows_to p p ≤ p.version
  shows_self p = ⊎_elim
      (λ g. let l = level_put p g in let is : shows_to p p ≡ level p = cond-true p.puts (level p) p.version g in omega (arith, l, is))
      (λ g. let is : shows_to p p ≡ p.version = cond-false p.puts (level p) p.version g in omega (arith, is)) (cases_Bool p.puts)

  -- no entry is below what the actions did that had ended before it
  pub above_actions : (log : List Change) → IsChain start log → Each (λ (p : Change). Each (λ (e : Change). e.row ≡ p.row → 0 < e.action → e.action ≤ p.after → shows_to p e ≤ p.version) log) log
  above_actions [] c = tt
  above_actions (q ∷ ps) c = (
    (
      (λ _ _ _. shows_self q),
      each_map (λ (e : Change). e.row ≡ q.row → version_of e ≤ version ps q.row) (λ (e : Change). e.row ≡ q.row → 0 < e.action → e.action ≤ q.after → shows_to q e ≤ q.version) (λ e b h _ _. shows_next q e (version ps q.row) (b h) c.0.numbered) ps (below_all start ps q.row c.1),
    ),
    each_both (λ (p : Change). p.after ≤ version ps 0) (λ (p : Change). Each (λ (e : Change). e.row ≡ p.row → 0 < e.action → e.action ≤ p.after → shows_to p e ≤ p.version) ps)
        (λ (p : Change). Each (λ (e : Change). e.row ≡ p.row → 0 < e.action → e.action ≤ p.after → shows_to p e ≤ p.version) (q ∷ ps))
        (λ p b rest. ((λ _ some_action low. absurd (⊎_elim (λ z. omega arith) (λ z. omega arith) c.0.inside)), rest)) ps (afters_below ps c.1) (above_actions ps c.1),
  )
