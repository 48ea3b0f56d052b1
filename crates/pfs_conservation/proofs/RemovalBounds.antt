-- An event's removal lies between the connect and the quit of its session.
use Rattle.std.proofs.Common.{◌≡◌, ℕ, suc, ◌+◌, ◌*◌, ◌≤◌, ◌==◌, Bool, true, false, cond, List, [], ◌∷◌, Option, Some, None, count_by, refl, sym, ap, arith}
use Rattle.pfs_lemmas.proofs.Options.{none_some, some_same}
use Rattle.pfs_conservation.specs.RowChains.{Change, Added, Taken, Given}
use Rattle.pfs_conservation.specs.Removals.{first_take, following, counts_event, removal, Ascends}
use Rattle.pfs_conservation.specs.Conservation.{takes_of}
use Rattle.pfs_conservation.specs.Tenures.{IsBy}
use Rattle.pfs_conservation.proofs.MergeTotals.{bit_no}
use Rattle.pfs_conservation.proofs.ChainEvents.{count_cons}

-- the changes are none that an action up to this one made
abbrev pub AfterAction : ℕ → List Change → Type 0
AfterAction action [] = Unit {0}
AfterAction action (Added events ∷ changes) = AfterAction action changes
AfterAction action (Taken number ∷ changes) = (suc action ≤ number) × AfterAction action changes
AfterAction action (Given number from ∷ changes) = (suc action ≤ number) × AfterAction action changes

-- the quit, where there is one, is among the takes of the changes
abbrev pub QuitIn : Option ℕ → List Change → Type 0
QuitIn None changes = Unit {0}
QuitIn (Some quit) changes = 1 ≤ count_by (λ t. t == quit) (takes_of changes)

after_connect : (connect action : ℕ) (cs : List Change) → AfterAction connect cs → first_take cs ≡ Some action → suc connect ≤ action
after_connect connect action [] a h = none_some action h
after_connect connect action (Added es ∷ cs) a h = after_connect connect action cs a h
after_connect connect action (Given n row ∷ cs) a h = after_connect connect action cs a.1 h
after_connect connect action (Taken n ∷ cs) a h = let first : suc connect ≤ n = a.0 in omega (arith, some_same n action h)

takes_from : (key t : ℕ) (cs : List Change) → Ascends key cs → 1 ≤ count_by (λ c. c == t) (takes_of cs) → key ≤ 2 * t + 1
takes_from key t [] a h = absurd (omega arith)
takes_from key t (Added es ∷ cs) a h = takes_from key t cs a h
takes_from key t (Given n row ∷ cs) a h = let low : key ≤ 2 * n = a.0 in let rest : 2 * n ≤ 2 * t + 1 = takes_from (2 * n) t cs a.1 h in omega arith
takes_from key t (Taken n ∷ cs) a h = at (n == t) refl (takes_from (2 * n + 2) t cs a.1)
  where
    same : (a b : ℕ) → (a == b) ≡ true → a ≡ b
    same a b q = grind (arith, q)

    at : (b : Bool) → (n == t) ≡ b → (1 ≤ count_by (λ c. c == t) (takes_of cs) → 2 * n + 2 ≤ 2 * t + 1) → key ≤ 2 * t + 1
    at true q ih = let low : key ≤ 2 * n + 1 = a.0 in omega (arith, same n t q)
    at false q ih = let low : key ≤ 2 * n + 1 = a.0 in let rest : 2 * n + 2 ≤ 2 * t + 1 = ih (omega (arith, h, count_cons (λ c. c == t) n (takes_of cs), bit_no (n == t) q)) in omega arith

by_quit : (key quit action : ℕ) (cs : List Change) → Ascends key cs → 1 ≤ count_by (λ t. t == quit) (takes_of cs) → first_take cs ≡ Some action → action ≤ quit
by_quit key quit action [] a m h = none_some action h
by_quit key quit action (Added es ∷ cs) a m h = by_quit key quit action cs a m h
by_quit key quit action (Given n row ∷ cs) a m h = by_quit (2 * n) quit action cs a.1 m h
by_quit key quit action (Taken n ∷ cs) a m h =
    let low : 2 * n ≤ 2 * quit + 1 = takes_from (2 * n) quit (Taken n ∷ cs) (omega arith, a.1) m in
    omega (arith, some_same n action h)

ascends_following : (test : Change → Bool) (key : ℕ) (cs : List Change) → Ascends key cs → (k : ℕ) × Ascends k (following test cs)
ascends_following test key [] a = (0, tt)
ascends_following test key (Added es ∷ cs) a = at (test (Added es)) (ascends_following test key cs a)
  where
    at : (b : Bool) → ((k : ℕ) × Ascends k (following test cs)) → (k : ℕ) × Ascends k (cond b cs (following test cs))
    at true ih = (key, a)
    at false ih = ih
ascends_following test key (Taken n ∷ cs) a = at (test (Taken n)) (ascends_following test (2 * n + 2) cs a.1)
  where
    at : (b : Bool) → ((k : ℕ) × Ascends k (following test cs)) → (k : ℕ) × Ascends k (cond b cs (following test cs))
    at true ih = (2 * n + 2, a.1)
    at false ih = ih
ascends_following test key (Given n row ∷ cs) a = at (test (Given n row)) (ascends_following test (2 * n) cs a.1)
  where
    at : (b : Bool) → ((k : ℕ) × Ascends k (following test cs)) → (k : ℕ) × Ascends k (cond b cs (following test cs))
    at true ih = (2 * n, a.1)
    at false ih = ih

-- what follows an event's addition is by later actions than its connect, and its quit takes the row there
pub bound_from : (chain : List Change) (event connect : ℕ) (quit : Option ℕ) → Ascends 0 chain → AfterAction connect (following (counts_event event) chain) → QuitIn quit (following (counts_event event) chain)
    → (action : ℕ) → removal event chain ≡ Some action → (suc connect ≤ action) × IsBy quit action
bound_from chain event connect quit a after has action h = (after_connect connect action (following (counts_event event) chain) after h, by quit has)
  where
    by : (q : Option ℕ) → QuitIn q (following (counts_event event) chain) → IsBy q action
    by None m = tt
    by (Some q) m = let k : (k : ℕ) × Ascends k (following (counts_event event) chain) = ascends_following (counts_event event) 0 chain a in by_quit k.0 q action (following (counts_event event) chain) k.1 m h

no_takes : (cs : List Change) → first_take cs ≡ None → takes_of cs ≡ []
no_takes [] h = refl
no_takes (Added es ∷ cs) h = no_takes cs h
no_takes (Given n row ∷ cs) h = no_takes cs h
no_takes (Taken n ∷ cs) h = none_some n (sym h)

pub unquit_from : (chain : List Change) (event : ℕ) (quit : Option ℕ) → QuitIn quit (following (counts_event event) chain) → removal event chain ≡ None → quit ≡ None
unquit_from chain event None has h = refl
unquit_from chain event (Some q) has h = absurd (omega (arith, has, ap (λ ts. count_by (λ t. t == q) ts) (no_takes (following (counts_event event) chain) h)))
