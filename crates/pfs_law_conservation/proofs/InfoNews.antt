-- What the signs of an action make of an info row: the last that was said there, or what is said now.
use Rattle.std.proofs.Common.{◌≡◌, refl, ℕ, ◌+◌, ◌==◌, Bool, true, false, cond, List, [], ◌∷◌, ◌++◌, Option, Some, None, sym, ap, subst, ◌∙◌, arith}
use Rattle.pfs_admin.specs.ConnectionAsks.{tag_of}
use Rattle.pfs_admin.specs.FoldLaws.{row_of}
use Rattle.pfs_admin.specs.Works.{Sign, Releases, Tags}
use Rattle.pfs_model.specs.Chains.{Each}

abbrev pub news : List Sign → ℕ → Option (List ℕ) → Option (List ℕ)
news [] row old = old
news (Releases at ∷ signs) row old = cond (at == row) None (news signs row old)
news (Tags at words ∷ signs) row old = cond (at == row) (Some words) (news signs row old)

-- signs of other rows
abbrev pub Misses : ℕ → List Sign → Type 0
Misses row signs = Each (λ sign. (row_of sign == row) ≡ false) signs

pub news_miss : (row : ℕ) (old : Option (List ℕ)) (xs ys : List Sign) → Misses row xs → news (xs ++ ys) row old ≡ news ys row old
news_miss row old [] ys m = refl
news_miss row old (Releases at ∷ xs) ys m = ap (λ b. cond b None (news (xs ++ ys) row old)) m.0 ∙ news_miss row old xs ys m.1
news_miss row old (Tags at words ∷ xs) ys m = ap (λ b. cond b (Some words) (news (xs ++ ys) row old)) m.0 ∙ news_miss row old xs ys m.1

pub news_none : (row : ℕ) (old : Option (List ℕ)) (xs : List Sign) → Misses row xs → news xs row old ≡ old
news_none row old [] m = refl
news_none row old (Releases at ∷ xs) m = ap (λ b. cond b None (news xs row old)) m.0 ∙ news_none row old xs m.1
news_none row old (Tags at words ∷ xs) m = ap (λ b. cond b (Some words) (news xs row old)) m.0 ∙ news_none row old xs m.1

pub misses_then : (row : ℕ) (xs ys : List Sign) → Misses row xs → Misses row ys → Misses row (xs ++ ys)
misses_then row [] ys m n = n
misses_then row (x ∷ xs) ys m n = (m.0, misses_then row xs ys m.1 n)

-- the signs of a level: its row, where the session has a place there
abbrev pub level_tags : ℕ → (ℕ → Option (List ℕ)) → Option ℕ → List Sign
level_tags base said None = []
level_tags base said (Some place) = tag_of (base + place) (said place)

tag_misses : (row at : ℕ) (content : Option (List ℕ)) → (at == row) ≡ false → Misses row (tag_of at content)
tag_misses row at None n = tt
tag_misses row at (Some words) n = (n, tt)

pub apart : (a b : ℕ) → (a ≡ b → ⊥) → (a == b) ≡ false
apart a b n = on (a == b) refl where
  is : (x y : ℕ) → (x == y) ≡ true → x ≡ y
  is x y q = grind arith

  on : (d : Bool) → (a == b) ≡ d → d ≡ false
  on true q = absurd (n (is a b q))
  on false q = refl

-- the rows of another level
pub level_misses : (base row : ℕ) (said : ℕ → Option (List ℕ)) (own : Option ℕ) → ((place : ℕ) → own ≡ Some place → base + place ≡ row → ⊥) → Misses row (level_tags base said own)
level_misses base row said None n = tt
level_misses base row said (Some place) n = tag_misses row (base + place) (said place) (apart (base + place) row (n place refl))

-- what the signs of its level make of a row
pub level_news : (base place : ℕ) (said : ℕ → Option (List ℕ)) (own : Option ℕ) (old : Option (List ℕ)) (rest : List Sign) → Misses (base + place) rest
    → (own ≡ Some place → said place ≡ None → old ≡ None)
    → ((own ≡ Some place → ⊥) → said place ≡ old)
    → said place ≡ news (level_tags base said own ++ rest) (base + place) old
level_news base place said None old rest m empty same = same (λ e. absurd (cc)) ∙ sym (news_none (base + place) old rest m)
level_news base place said (Some own) old rest m empty same = on (own == place) refl where
  is : (x y : ℕ) → (x == y) ≡ true → x ≡ y
  is x y q = grind arith

  self : (x : ℕ) → (x == x) ≡ true
  self x = grind arith

  not_is : (x y : ℕ) → (x == y) ≡ false → x ≡ y → ⊥
  not_is x y q e = let t : (x == y) ≡ true = subst (λ z. (x == z) ≡ true) e (self x) in absurd (cc)

  plus : (a b c : ℕ) → a + b ≡ a + c → b ≡ c
  plus a b c e = omega (arith, e)

  inner : (a b : ℕ) → ◌≡◌ {A = Option ℕ} (Some a) (Some b) → a ≡ b
  inner a b e = cc

  here : (o : Option (List ℕ)) → said place ≡ o → (said place ≡ None → old ≡ None) → said place ≡ news (tag_of (base + place) o ++ rest) (base + place) old
  here None q none = q ∙ (sym (none q) ∙ sym (news_none (base + place) old rest m))
  here (Some words) q none = q ∙ ap (λ b. cond b (Some words) (news rest (base + place) old)) (sym (self (base + place)))

  on : (b : Bool) → (own == place) ≡ b → said place ≡ news (tag_of (base + own) (said own) ++ rest) (base + place) old
  on true q =
      let e : own ≡ place = is own place q in
      subst (λ z. said place ≡ news (tag_of (base + z) (said z) ++ rest) (base + place) old) (sym e) (here (said place) refl (empty (ap Some e)))
  on false q =
      same (λ e. not_is own place q (inner own place e))
      ∙ sym (news_miss (base + place) old (tag_of (base + own) (said own)) rest (tag_misses (base + place) (base + own) (said own) (apart (base + own) (base + place) (λ e. not_is own place q (plus base own place e))))
      ∙ news_none (base + place) old rest m)
