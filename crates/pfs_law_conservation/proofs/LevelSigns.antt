-- The info rows of a level, place by place: each has its own row, and is signed once at most.
use Rattle.std.proofs.Common.{◌≡◌, refl, ℕ, zero, suc, ◌+◌, ◌<◌, ◌≤◌, ◌==◌, Bool, true, false, cond, nat_lt, List, [], ◌∷◌, ◌++◌, map, ne_eqb, Option, Some, None, sym, ap, subst, ◌∙◌, arith}
use Rattle.std.proofs.lemmas.Bool.{eqb-true, eqb-true as is_equal, ltb-false, ltb-true}
use Rattle.pfs_lemmas.proofs.Numbers.{eq_self}
use Rattle.pfs_admin.specs.FoldLaws.{row_of}
use Rattle.pfs_admin.specs.WordChanges.{up_to}
use Rattle.pfs_admin.specs.Truncations.{is_there, event_signs, place_sign, first_row, content_at, sign_at, level_signs, truncation_signs}
use Rattle.pfs_admin.specs.Works.{Sign, Releases, Tags}
use Rattle.pfs_containers.specs.Administration.{Containers}
use Rattle.pfs_levels.specs.Flushes.{Ascends}
use Rattle.pfs_levels.specs.declared.places.Level.{Level}
use Rattle.pfs_levels.specs.declared.places.Level.TheVariants as levels
use Rattle.pfs_model.proofs.ChainGrowth.{times_append}
use Rattle.pfs_model.specs.Chains.{times}
use Rattle.pfs_law_plain.proofs.TruncationRows.{events_ascend}
use Rattle.pfs_rows.specs.declared.truncations.Truncation.{Truncation}
use Rattle.pfs_rows.specs.declared.truncations.Truncation.TheVariants.{Events, Summary, DigestSummary, Accounts, Users, Hosts, SetupActors, SetupObjects}
use Rattle.pfs_law_conservation.proofs.InfoActions.{signs_at}
use Rattle.pfs_law_conservation.proofs.InfoNews.{news, Misses, news_miss, news_none, misses_then, apart}

-- signs of other rows, behind and counted
pub news_front : (row : ℕ) (old : Option (List ℕ)) (xs ys : List Sign) → Misses row ys → news (xs ++ ys) row old ≡ news xs row old
news_front row old [] ys m = news_none row old ys m
news_front row old (Releases at ∷ xs) ys m = ap (λ z. cond (at == row) None z) (news_front row old xs ys m)
news_front row old (Tags at words ∷ xs) ys m = ap (λ z. cond (at == row) (Some words) z) (news_front row old xs ys m)

times_none : (row : ℕ) (xs : List Sign) → Misses row xs → times (signs_at row) xs ≡ 0
times_none row [] m = refl
times_none row (x ∷ xs) m =
    let e : times (signs_at row) xs ≡ 0 = times_none row xs m.1 in
    ap (λ b. cond {A = ℕ} b 1 0 + times (signs_at row) xs) m.0 ∙ (omega (arith, e))

misses_up_to : (row : ℕ) (f : ℕ → List Sign) (n : ℕ) → ((place : ℕ) → place < n → Misses row (f place)) → Misses row (up_to f n)
misses_up_to row f zero m = tt
misses_up_to row f (suc n) m = misses_then row (up_to f n) (f n) (misses_up_to row f n (λ place l. m place (omega (arith, l)))) (m n (omega arith))

not_equal : (a b : ℕ) → (a == b) ≡ false → a ≡ b → ⊥
not_equal a b q e = let t : (a == b) ≡ true = subst (λ z. (a == z) ≡ true) e (eq_self a) in absurd (cc)

-- places each of which has its own row
module _ (first : ℕ) (f : ℕ → List Sign) (own : (place row : ℕ) → (first + place ≡ row → ⊥) → Misses row (f place)) where
  up_news : (q : ℕ) (old : Option (List ℕ)) (n : ℕ) → q < n → news (up_to f n) (first + q) old ≡ news (f q) (first + q) old
  up_news q old zero l = absurd (omega (arith, l))
  up_news q old (suc n) l = at (nat_lt q n) refl (up_news q old n) where
    at : (b : Bool) → nat_lt q n ≡ b → (q < n → news (up_to f n) (first + q) old ≡ news (f q) (first + q) old) → news (up_to f n ++ f n) (first + q) old ≡ news (f q) (first + q) old
    at true e go =
        let low : q < n = ltb-true q n e in
        news_front (first + q) old (up_to f n) (f n) (own n (first + q) (λ r. omega (arith, low, r))) ∙ go low
    at false e go =
        let high : n ≤ q = ltb-false q n e in
        let same : n ≡ q = omega (arith, high, l) in
        news_miss (first + q) old (up_to f n) (f n) (misses_up_to (first + q) f n (λ place h. own place (first + q) (λ r. omega (arith, high, h, r))))
        ∙ ap (λ z. news (f z) (first + q) old) same

  up_once : ((place row : ℕ) → times (signs_at row) (f place) ≤ 1) → (row n : ℕ) → times (signs_at row) (up_to f n) ≤ 1
  up_once one row zero = omega arith
  up_once one row (suc n) = at (first + n == row) refl (up_once one row n) where
    both : times (signs_at row) (up_to f n ++ f n) ≡ times (signs_at row) (up_to f n) + times (signs_at row) (f n)
    both = times_append (signs_at row) (up_to f n) (f n)

    at : (b : Bool) → (first + n == row) ≡ b → times (signs_at row) (up_to f n) ≤ 1 → times (signs_at row) (up_to f n ++ f n) ≤ 1
    at true e few =
        let here : first + n ≡ row = is_equal (first + n) row e in
        let none : times (signs_at row) (up_to f n) ≡ 0 = times_none row (up_to f n) (misses_up_to row f n (λ place h. own place row (λ r. omega (arith, here, h, r)))) in
        omega (arith, both, none, one n row)
    at false e few =
        let none : times (signs_at row) (f n) ≡ 0 = times_none row (f n) (own n row (not_equal (first + n) row e)) in
        omega (arith, both, none, few)

-- the sign of a place
place_misses : (written was : Bool) (at row : ℕ) (content : Option (List ℕ)) → (at ≡ row → ⊥) → Misses row (place_sign written was at content)
place_misses written false at row content n = tt
place_misses written true at row None n = (apart at row n, tt)
place_misses false true at row (Some words) n = tt
place_misses true true at row (Some words) n = (apart at row n, tt)

one_most : (b : Bool) → cond {A = ℕ} b 1 0 + 0 ≤ 1
one_most true = omega arith
one_most false = omega arith

place_once : (written was : Bool) (at row : ℕ) (content : Option (List ℕ)) → times (signs_at row) (place_sign written was at content) ≤ 1
place_once written false at row content = omega arith
place_once written true at row None = one_most (at == row)
place_once false true at row (Some words) = omega arith
place_once true true at row (Some words) = one_most (at == row)

place_news : (written was : Bool) (row : ℕ) (content old : Option (List ℕ)) → (was ≡ false → content ≡ old) → (written ≡ false → (words : List ℕ) → content ≡ Some words → content ≡ old)
    → content ≡ news (place_sign written was row content) row old
place_news written false row content old free left = free refl
place_news written true row None old free left = sym (ap (λ b. cond b None old) (eq_self row))
place_news false true row (Some words) old free left = left refl words refl
place_news true true row (Some words) old free left = sym (ap (λ b. cond b (Some words) old) (eq_self row))

-- the signs of a level
module _ (written : Bool) (was : ℕ → Bool) (after : Containers) (level : Level) where
  own_sign : (place row : ℕ) → (first_row level + place ≡ row → ⊥) → Misses row (sign_at written was after level place)
  own_sign place row n = place_misses written (was place) (first_row level + place) row (content_at after level place) n

  -- what they make of a row of the level
  pub signs_news : (q : ℕ) (old : Option (List ℕ)) → q < 32 → (was q ≡ false → content_at after level q ≡ old)
      → (written ≡ false → (words : List ℕ) → content_at after level q ≡ Some words → content_at after level q ≡ old)
      → content_at after level q ≡ news (level_signs written was after level) (first_row level + q) old
  unfolding level_signs
  signs_news q old l free left =
      place_news written (was q) (first_row level + q) (content_at after level q) old free left
      ∙ sym (up_news (first_row level) (sign_at written was after level) own_sign q old 32 l)

  pub signs_miss : (row : ℕ) → ((place : ℕ) → place < 32 → first_row level + place ≡ row → ⊥) → Misses row (level_signs written was after level)
  unfolding level_signs
  signs_miss row n = misses_up_to row (sign_at written was after level) 32 (λ place l. own_sign place row (n place l))

  pub signs_once : (row : ℕ) → times (signs_at row) (level_signs written was after level) ≤ 1
  unfolding level_signs
  signs_once row =
      up_once (first_row level) (sign_at written was after level) own_sign (λ place row. place_once written (was place) (first_row level + place) row (content_at after level place)) row 32

-- of two levels, the first of which is that of accounts, and the second has the rows from 65 on
two_once : (row : ℕ) (xs ys : List Sign) → times (signs_at row) xs ≤ 1 → times (signs_at row) ys ≤ 1 → (65 ≤ row → Misses row xs) → (row < 65 → Misses row ys) → times (signs_at row) (xs ++ ys) ≤ 1
two_once row xs ys a b high low = at (nat_lt row 65) refl where
  both : times (signs_at row) (xs ++ ys) ≡ times (signs_at row) xs + times (signs_at row) ys
  both = times_append (signs_at row) xs ys

  at : (c : Bool) → nat_lt row 65 ≡ c → times (signs_at row) (xs ++ ys) ≤ 1
  at true e = let none : times (signs_at row) ys ≡ 0 = times_none row ys (low (ltb-true row 65 e)) in omega (arith, both, none, a)
  at false e = let none : times (signs_at row) xs ≡ 0 = times_none row xs (high (ltb-false row 65 e)) in omega (arith, both, none, b)

-- rows that ascend: one below them is missed, and each is signed once
pub ascends_miss : (row low high : ℕ) (signs : List Sign) → row < low → Ascends low high (map row_of signs) → Misses row signs
ascends_miss row low high [] l a = tt
ascends_miss row low high (x ∷ xs) l a =
    (ne_eqb (row_of x) row (λ q. absurd (omega (arith, q, l, a.0))), ascends_miss row (row_of x + 1) high xs (omega (arith, l, a.0)) a.1.1)

ascends_once : (row low high : ℕ) (signs : List Sign) → Ascends low high (map row_of signs) → times (signs_at row) signs ≤ 1
ascends_once row low high [] a = omega arith
ascends_once row low high (x ∷ xs) a = at (row_of x == row) refl (ascends_once row (row_of x + 1) high xs a.1.1) where
  at : (b : Bool) → (row_of x == row) ≡ b → times (signs_at row) xs ≤ 1 → (cond b 1 0 + times (signs_at row) xs) ≤ 1
  at true e rest =
      let none : times (signs_at row) xs ≡ 0 = times_none row xs (ascends_miss row (row_of x + 1) high xs (omega (arith, eqb-true (row_of x) row e)) a.1.1) in
      omega (arith, none)
  at false e rest = omega (arith, rest)

-- a truncation signs no row twice
pub truncation_once : (row : ℕ) (was : Level → ℕ → Bool) (after : Containers) (what : Truncation) → times (signs_at row) (truncation_signs was after what) ≤ 1
truncation_once row was after (Summary kind table) = omega arith
truncation_once row was after (Events kind table) =
    ascends_once row 8450 14242 (event_signs (is_there after.places levels.Thread) kind table) (events_ascend (is_there after.places levels.Thread) kind table)
truncation_once row was after Accounts = signs_once true (was levels.Account) after levels.Account row
truncation_once row was after Users =
    two_once row (level_signs false (was levels.Account) after levels.Account) (level_signs true (was levels.User) after levels.User) (signs_once false (was levels.Account) after levels.Account row) (signs_once true (was levels.User) after levels.User row)
    (λ l. signs_miss false (was levels.Account) after levels.Account row (λ place h e. omega (arith, l, h, e)))
    (λ l. signs_miss true (was levels.User) after levels.User row (λ place h e. omega (arith, l, h, e)))
truncation_once row was after Hosts =
    two_once row (level_signs false (was levels.Account) after levels.Account) (level_signs true (was levels.Host) after levels.Host) (signs_once false (was levels.Account) after levels.Account row) (signs_once true (was levels.Host) after levels.Host row)
    (λ l. signs_miss false (was levels.Account) after levels.Account row (λ place h e. omega (arith, l, h, e)))
    (λ l. signs_miss true (was levels.Host) after levels.Host row (λ place h e. omega (arith, l, h, e)))
truncation_once row was after DigestSummary = omega arith
truncation_once row was after SetupActors = omega arith
truncation_once row was after SetupObjects = omega arith
