-- Which rows of cells are passed over in the order of their numbers, and what is merged of them.
use Rattle.std.proofs.Common.{◌≡◌, ℕ, zero, suc, ◌+◌, ◌*◌, ◌<◌, ◌≤◌, ◌==◌, Bool, true, false, cond, List, [], ◌∷◌, ◌++◌, length, map, Option, Some, None, refl, sym, ap, ◌∙◌, arith}
use Rattle.std.specs.List.{filter_map}
use Rattle.std.proofs.lemmas.Bool.{eqb-true}
use Rattle.pfs_conservation.specs.PlaceFolds.{entry_at}
use Rattle.pfs_conservation.specs.KindSummaries.{passes, listed_from}
use Rattle.pfs_readsets.specs.ReadSets.{passing}
use Rattle.pfs_readsets.proofs.TestedNumbers.{passing_none, passing_no, passing_yes, passing_split}

-- none of the numbers passes
pub passing_nothing : (test : ℕ → Bool) (from count : ℕ) → ((i : ℕ) → i < count → test (from + i) ≡ false) → passing test from count ≡ []
passing_nothing test from zero none = passing_none test from
passing_nothing test from (suc count) none =
    passing_no test from count (let z : from + 0 ≡ from = omega arith in ap test (sym z) ∙ none 0 (omega arith))
    ∙ passing_nothing test (from + 1) count (λ i l. let e : from + 1 + i ≡ from + (suc i) = omega arith in ap test e ∙ none (suc i) (omega arith))

-- of these numbers one may pass, and no other
pub passing_one : (test : ℕ → Bool) (from count at : ℕ) (wanted : Bool) → at < count → test (from + at) ≡ wanted
    → ((i : ℕ) → i < count → (i ≡ at → ⊥) → test (from + i) ≡ false) → passing test from count ≡ cond wanted ((from + at) ∷ []) []
passing_one test from zero at wanted low is others = absurd (omega arith)
passing_one test from (suc count) zero wanted low is others = here wanted refl where
  z : from + 0 ≡ from
  z = omega arith

  rest : passing test (from + 1) count ≡ []
  rest = passing_nothing test (from + 1) count (λ i l. let e : from + 1 + i ≡ from + suc i = omega arith in ap test e ∙ others (suc i) (omega arith) (λ q. absurd (omega arith)))

  here : (b : Bool) → wanted ≡ b → passing test from (suc count) ≡ cond wanted ((from + 0) ∷ []) []
  here true q =
      passing_yes test from count (ap test (sym z) ∙ (is ∙ q))
      ∙ (ap (λ (k : List ℕ). from ∷ k) rest ∙ (ap (λ k. k ∷ []) (sym z) ∙ ap (λ b. cond b ((from + 0) ∷ []) []) (sym q)))
  here false q = passing_no test from count (ap test (sym z) ∙ (is ∙ q)) ∙ (rest ∙ ap (λ b. cond b ((from + 0) ∷ []) []) (sym q))
passing_one test from (suc count) (suc at) wanted low is others =
    passing_no test from count (let z : from + 0 ≡ from = omega arith in ap test (sym z) ∙ others 0 (omega arith) (λ q. absurd (omega arith)))
    ∙ (passing_one test (from + 1) count at wanted (omega arith) (let e : from + 1 + at ≡ from + suc at = omega arith in ap test e ∙ is) (λ i l q. let e : from + 1 + i ≡ from + suc i = omega arith in ap test e ∙ others (suc i) (omega arith) (λ w. q (omega (arith, w))))
    ∙ (let e : from + 1 + at ≡ from + suc at = omega arith in ap (λ k. cond wanted (k ∷ []) []) e))

-- the rows of so many places whose numbers pass
abbrev pub picked : (ℕ → Bool) → (ℕ → ℕ) → ℕ → ℕ → List ℕ
picked wanted row place zero = []
picked wanted row place (suc more) = cond {A = List ℕ} (wanted place) (row place ∷ []) [] ++ picked wanted row (suc place) more

-- of each place's 64 cells one may pass, and no other
pub passing_blocks : (test : ℕ → Bool) (base cell : ℕ) (wanted : ℕ → Bool) → cell < 64 → (place more : ℕ)
    → ((t : ℕ) → place ≤ t → t < place + more → (i : ℕ) → i < 64 → (i ≡ cell → ⊥) → test (base + 64 * t + i) ≡ false)
    → ((t : ℕ) → place ≤ t → t < place + more → test (base + 64 * t + cell) ≡ wanted t)
    → passing test (base + 64 * place) (64 * more) ≡ picked wanted (λ t. base + 64 * t + cell) place more
passing_blocks test base cell wanted low place zero others is = passing_none test (base + 64 * place)
passing_blocks test base cell wanted low place (suc more) others is =
    let e : 64 * suc more ≡ 64 + 64 * more = omega arith in
    let f : base + 64 * place + 64 ≡ base + 64 * suc place = omega arith in
    ap (λ n. passing test (base + 64 * place) n) e
    ∙ (passing_split test (base + 64 * place) 64 (64 * more)
    ∙ (ap (λ (l : List ℕ). l ++ passing test (base + 64 * place + 64) (64 * more)) (passing_one test (base + 64 * place) 64 cell (wanted place) low (is place (omega arith) (omega arith)) (others place (omega arith) (omega arith)))
    ∙ ap (λ (l : List ℕ). cond (wanted place) ((base + 64 * place + cell) ∷ []) [] ++ l) (ap (λ n. passing test n (64 * more)) f
    ∙ passing_blocks test base cell wanted low (suc place) more (λ t a b. others t (omega (arith, a)) (omega (arith, b))) (λ t a b. is t (omega (arith, a)) (omega (arith, b))))))

pub picked_nothing : (wanted : ℕ → Bool) (row : ℕ → ℕ) (place more : ℕ) → ((i : ℕ) → i < more → wanted (place + i) ≡ false) → picked wanted row place more ≡ []
picked_nothing wanted row place zero none = refl
picked_nothing wanted row place (suc more) none =
    ap (λ b. cond b (row place ∷ []) [] ++ picked wanted row (suc place) more) (let z : place + 0 ≡ place = omega arith in ap wanted (sym z) ∙ none 0 (omega arith))
    ∙ picked_nothing wanted row (suc place) more (λ i l. let e : suc place + i ≡ place + suc i = omega arith in ap wanted e ∙ none (suc i) (omega arith))

-- places are listed where what stands there passes
pub picked_listed : {X : Type 0} (f : X → Bool) (wanted : ℕ → Bool) (row : ℕ → ℕ) (place more : ℕ) (xs : List (Option X)) → length xs ≤ more
    → ((i : ℕ) → i < more → wanted (place + i) ≡ passes f (entry_at xs i)) → picked wanted row place more ≡ listed_from f row place xs
picked_listed f wanted row place more [] few is = picked_nothing wanted row place more is
picked_listed f wanted row place zero (x ∷ xs) few is = absurd (omega (arith, few))
picked_listed {X} f wanted row place (suc more) (x ∷ xs) few is =
    ap (λ b. cond b (row place ∷ []) [] ++ picked wanted row (suc place) more) (let z : place + 0 ≡ place = omega arith in ap wanted (sym z) ∙ is 0 (omega arith))
    ∙ ap (λ (l : List ℕ). cond (passes f x) (row place ∷ []) [] ++ l) (picked_listed f wanted row (suc place) more xs (omega (arith, few)) (λ i l. let e : suc place + i ≡ place + suc i = omega arith in ap wanted e ∙ is (suc i) (omega arith)))

-- what is found of the numbers that pass, where it is found
pub found_passing : {T X : Type 0} (found : T → Option X) (target : ℕ → T) (test good : ℕ → Bool) (stands : ℕ → X) (from count : ℕ)
    → ((row : ℕ) → from ≤ row → row < from + count → test row ≡ true → found (target row) ≡ cond (good row) (Some (stands row)) None)
    → ((row : ℕ) → from ≤ row → row < from + count → good row ≡ true → test row ≡ true)
    → filter_map found (map target (passing test from count)) ≡ map stands (passing good from count)
found_passing {T} {X} found target test good stands from zero finds goods =
    ap (λ l. filter_map found (map target l)) (passing_none test from) ∙ ap (map stands) (sym (passing_none good from))
found_passing {T} {X} found target test good stands from (suc count) finds goods =
    at (test from) (good from) refl refl (found_passing found target test good stands (from + 1) count (λ row a b. finds row (omega (arith, a)) (omega (arith, b))) (λ row a b. goods row (omega (arith, a)) (omega (arith, b)))) where
      at : (t g : Bool) → test from ≡ t → good from ≡ g → filter_map found (map target (passing test (from + 1) count)) ≡ map stands (passing good (from + 1) count)
          → filter_map found (map target (passing test from (suc count))) ≡ map stands (passing good from (suc count))
      at true true p q rest =
          ap (λ l. filter_map found (map target l)) (passing_yes test from count p)
          ∙ (push (found (target from)) (stands from) (finds from (omega arith) (omega arith) p ∙ ap (λ b. cond b (Some (stands from)) None) q)
          ∙ (ap (λ (l : List X). stands from ∷ l) rest ∙ ap (map stands) (sym (passing_yes good from count q)))) where
            push : (o : Option X) (x : X) → found (target from) ≡ Some x → filter_map found (target from ∷ map target (passing test (from + 1) count)) ≡ x ∷ filter_map found (map target (passing test (from + 1) count))
            push o x e = rw e refl
      at true false p q rest =
          ap (λ l. filter_map found (map target l)) (passing_yes test from count p)
          ∙ (pass (finds from (omega arith) (omega arith) p ∙ ap (λ b. cond b (Some (stands from)) None) q)
          ∙ (rest ∙ ap (map stands) (sym (passing_no good from count q)))) where
            pass : found (target from) ≡ None → filter_map found (target from ∷ map target (passing test (from + 1) count)) ≡ filter_map found (map target (passing test (from + 1) count))
            pass e = rw e refl
      at false true p q rest = absurd (let w : true ≡ false = sym (goods from (omega arith) (omega arith) q) ∙ p in cc)
      at false false p q rest =
          ap (λ l. filter_map found (map target l)) (passing_no test from count p)
          ∙ (rest ∙ ap (map stands) (sym (passing_no good from count q)))

-- one place is wanted alone
pub picked_only : (wanted : ℕ → Bool) (row : ℕ → ℕ) (at place more : ℕ) → place ≤ at → at < place + more → wanted at ≡ true → ((i : ℕ) → (i ≡ at → ⊥) → wanted i ≡ false) → picked wanted row place more ≡ row at ∷ []
picked_only wanted row at place zero low high is others = absurd (omega (arith, low, high))
picked_only wanted row at place (suc more) low high is others =
    on (place == at) refl (λ l. picked_only wanted row at (suc place) more (omega (arith, l)) (omega (arith, high)) is others) where
      past : (a b : ℕ) → (a == b) ≡ false → a ≤ b → a < b
      past a b h l = grind (arith, h, l)

      on : (b : Bool) → (place == at) ≡ b → (place < at → picked wanted row (suc place) more ≡ row at ∷ []) → picked wanted row place (suc more) ≡ row at ∷ []
      on true e back =
          let same : place ≡ at = eqb-true place at e in
          ap (λ b. cond b (row place ∷ []) [] ++ picked wanted row (suc place) more) (ap wanted same ∙ is)
          ∙ (ap (λ (l : List ℕ). row place ∷ l) (picked_nothing wanted row (suc place) more (λ i l. others (suc place + i) (λ q. absurd (omega (arith, q, same))))) ∙ ap (λ p. row p ∷ []) same)
      on false e back =
          ap (λ b. cond b (row place ∷ []) [] ++ picked wanted row (suc place) more) (others place (λ q. absurd (let w : place < at = past place at e low in omega (arith, w, q))))
          ∙ back (past place at e low)
