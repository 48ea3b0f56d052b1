-- Info rows place by place, and flags that say where something stood.
use Rattle.std.proofs.Common.{ℕ, zero, suc, ◌≡◌, ◌<◌, ◌≤◌, ◌+◌, ◌-◌, Bool, true, false, cond, List, ◌++◌, refl, ap, ◌∙◌, arith}
use Rattle.pfs_containers.specs.Connections.{State}
use Rattle.pfs_containers.specs.Administration.{Containers}
use Rattle.pfs_levels.specs.declared.places.Level.{Level}
use Rattle.pfs_levels.specs.declared.places.Level.TheVariants as levels
use Rattle.pfs_admin.specs.declared.remaining.Standing.{Standing}
use Rattle.pfs_rows.specs.declared.truncations.Truncation.{Truncation}
use Rattle.pfs_rows.specs.declared.truncations.Truncation.TheVariants.{Events, Summary, DigestSummary, Accounts, Users, Hosts, SetupActors, SetupObjects}
use Rattle.pfs_admin.specs.WordChanges.{up_to}
use Rattle.pfs_admin.specs.Truncations.{count_up_to, standing, sign_at, place_sign, first_row, content_at, level_signs, truncation_signs, signs_most, is_there, was_by, IsStanding}

pub count_next : (test : ℕ → Bool) (n : ℕ) → count_up_to test (n + 1) ≡ count_up_to test n + cond (test n) 1 0
count_next test n = let next : n + 1 ≡ suc n = omega arith in ap (count_up_to test) next

count_grows : (test : ℕ → Bool) (n more : ℕ) → count_up_to test n ≤ count_up_to test (n + more)
count_grows test n zero = let same : n ≡ n + 0 = omega arith in omega (arith, ap (count_up_to test) same)
count_grows test n (suc more) =
    let next : n + suc more ≡ suc (n + more) = omega arith in
    omega (arith, ap (count_up_to test) next, count_grows test n more)

pub count_front : (test : ℕ → Bool) (n : ℕ) → n ≤ 32 → count_up_to test n ≤ standing test
unfolding standing
count_front test n l = let same : n + (32 - n) ≡ 32 = omega (arith, l) in omega (arith, count_grows test n (32 - n), ap (count_up_to test) same)

pub count_whole : (test : ℕ → Bool) (n : ℕ) → n ≡ 32 → count_up_to test n ≡ standing test
unfolding standing
count_whole test n e = ap (count_up_to test) e

pub signs_whole : (written : Bool) (was : ℕ → Bool) (after : Containers) (level : Level) (n : ℕ) → n ≡ 32
    → up_to (sign_at written was after level) n ≡ level_signs written was after level
unfolding level_signs
signs_whole written was after level n e = ap (up_to (sign_at written was after level)) e

-- what is enough for a place more
pub enough_places : (test : ℕ → Bool) (n have now : ℕ) → n + 1 ≤ 32 → standing test ≤ have → have ≤ now + count_up_to test n → cond (test n) 1 0 ≤ now
enough_places test n have now l fits used = omega (arith, count_next test n, count_front test (n + 1) l, fits, used)

-- flags that say where something stands say the same as the state
up_same : {X : Type 0} (f g : ℕ → List X) (n : ℕ) → ((k : ℕ) → k < n → f k ≡ g k) → up_to f n ≡ up_to g n
up_same f g zero same = refl
up_same f g (suc n) same =
    ap (λ z. z ++ f n) (up_same f g n (λ k l. same k (omega (arith, l)))) ∙ ap (λ z. up_to g n ++ z) (same n (omega arith))

count_same : (f g : ℕ → Bool) (n : ℕ) → ((k : ℕ) → k < n → f k ≡ g k) → count_up_to f n ≡ count_up_to g n
count_same f g zero same = refl
count_same f g (suc n) same =
    ap (λ z. z + cond (f n) 1 0) (count_same f g n (λ k l. same k (omega (arith, l)))) ∙ ap (λ z. count_up_to g n + cond z 1 0) (same n (omega arith))

level_same : (written : Bool) (f g : ℕ → Bool) (after : Containers) (level : Level) → ((k : ℕ) → k < 32 → f k ≡ g k)
    → level_signs written f after level ≡ level_signs written g after level
unfolding level_signs
level_same written f g after level same =
    up_same (sign_at written f after level) (sign_at written g after level) 32
    (λ k l. ap (λ z. place_sign written z (first_row level + k) (content_at after level k)) (same k l))

standing_same : (f g : ℕ → Bool) → ((k : ℕ) → k < 32 → f k ≡ g k) → standing f ≡ standing g
unfolding standing
standing_same f g same = count_same f g 32 same

pub signs_same : (s : State) (there : Standing) (after : Containers) (what : Truncation) → IsStanding s there
    → truncation_signs (was_by there) after what ≡ truncation_signs (is_there s) after what
signs_same s there after (Events kind table) is = refl
signs_same s there after (Summary kind table) is = refl
signs_same s there after DigestSummary is = refl
signs_same s there after SetupActors is = refl
signs_same s there after SetupObjects is = refl
signs_same s there after Accounts is = level_same true (was_by there levels.Account) (is_there s levels.Account) after levels.Account is.accounts
signs_same s there after Users is =
    ap (λ z. z ++ level_signs true (was_by there levels.User) after levels.User)
    (level_same false (was_by there levels.Account) (is_there s levels.Account) after levels.Account is.accounts)
    ∙ ap (λ z. level_signs false (is_there s levels.Account) after levels.Account ++ z)
    (level_same true (was_by there levels.User) (is_there s levels.User) after levels.User is.users)
signs_same s there after Hosts is =
    ap (λ z. z ++ level_signs true (was_by there levels.Host) after levels.Host)
    (level_same false (was_by there levels.Account) (is_there s levels.Account) after levels.Account is.accounts)
    ∙ ap (λ z. level_signs false (is_there s levels.Account) after levels.Account ++ z)
    (level_same true (was_by there levels.Host) (is_there s levels.Host) after levels.Host is.hosts)

pub most_same : (s : State) (there : Standing) (what : Truncation) → IsStanding s there → signs_most (was_by there) what ≡ signs_most (is_there s) what
most_same s there (Events kind table) is = refl
most_same s there (Summary kind table) is = refl
most_same s there DigestSummary is = refl
most_same s there SetupActors is = refl
most_same s there SetupObjects is = refl
most_same s there Accounts is = standing_same (was_by there levels.Account) (is_there s levels.Account) is.accounts
most_same s there Users is =
    let accounts = standing_same (was_by there levels.Account) (is_there s levels.Account) is.accounts in
    let users = standing_same (was_by there levels.User) (is_there s levels.User) is.users in
    ap (λ z. z + standing (was_by there levels.User)) accounts ∙ ap (λ z. standing (is_there s levels.Account) + z) users
most_same s there Hosts is =
    let accounts = standing_same (was_by there levels.Account) (is_there s levels.Account) is.accounts in
    let hosts = standing_same (was_by there levels.Host) (is_there s levels.Host) is.hosts in
    ap (λ z. z + standing (was_by there levels.Host)) accounts ∙ ap (λ z. standing (is_there s levels.Account) + z) hosts
