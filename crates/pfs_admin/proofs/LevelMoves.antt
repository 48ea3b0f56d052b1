-- Levels that are emptied place by place, and moves one after another.
use Rattle.std.proofs.Common.{ℕ, zero, suc, ◌≡◌, ◌≤◌, ◌+◌, ◌-◌, List, [], ◌++◌, refl, ap, arith}
use Rattle.pfs_containers.specs.Connections.{State}
use Rattle.pfs_levels.specs.declared.places.Level.{Level}
use Rattle.pfs_levels.specs.Calls.{Call, Opening}
use Rattle.pfs_event.specs.Logs.{Journal}
use Rattle.pfs_levels.specs.Moves.{Ask, ask, Moved, Stays, cost}
use Rattle.pfs_levels.specs.Views.{Store}
use Rattle.pfs_rows.specs.declared.place.Place.TheVariants.{GlobalCell}
use Rattle.pfs_rows.specs.Rows.{row_number}
use Rattle.pfs_levels.proofs.FlushSteps.{cost_then, stays_more}
use Rattle.pfs_levels.proofs.MoveLists.{moved_none}
use Rattle.pfs_admin.specs.WordChanges.{up_to}
use Rattle.pfs_admin.specs.Truncations.{asks_at, level_asks, digest_ask, digest_asks}

pub up_next : {X : Type 0} (f : ℕ → List X) (n : ℕ) → up_to f (n + 1) ≡ up_to f n ++ f n
up_next f n = let next : n + 1 ≡ suc n = omega arith in ap (up_to f) next

grown : (f : ℕ → List Ask) (n more : ℕ) → cost (up_to f n) ≤ cost (up_to f (n + more))
grown f n zero = let same : n ≡ n + 0 = omega arith in omega (arith, ap (λ z. cost (up_to f z)) same)
grown f n (suc more) =
    let next : n + suc more ≡ suc (n + more) = omega arith in
    omega (arith, ap (λ z. cost (up_to f z)) next, cost_then (up_to f (n + more)) (f (n + more)), grown f n more)

up_fits : (f : ℕ → List Ask) (n most : ℕ) → n ≤ most → cost (up_to f n) ≤ cost (up_to f most)
up_fits f n most l = let same : n + (most - n) ≡ most = omega (arith, l) in omega (arith, grown f n (most - n), ap (λ z. cost (up_to f z)) same)

pub level_front : (s : State) (cells : List ℕ) (level : Level) (n : ℕ) → n ≤ 32 → cost (up_to (asks_at s cells level) n) ≤ cost (level_asks s cells level)
unfolding level_asks
level_front s cells level n l = up_fits (asks_at s cells level) n 32 l

pub level_whole : (s : State) (cells : List ℕ) (level : Level) (n : ℕ) → n ≡ 32 → up_to (asks_at s cells level) n ≡ level_asks s cells level
unfolding level_asks
level_whole s cells level n e = ap (up_to (asks_at s cells level)) e

pub moved_nothing : (log : Journal) (was : Opening → List Call → Type 0) → Moved [] log log was was
moved_nothing log was = moved_none log was

pub stays_nothing : (count : ℕ) (s : Store) (log : Journal) → Stays count s s log log
stays_nothing count s log = record {
  left = omega arith;
  draws = omega arith;
  no_more = omega arith;
  hand = λ r. refl;
  words = refl;
  name = refl;
  room = omega arith;
}

-- what is enough for both is enough for the first, and what that leaves for the second
pub first_fits : (xs ys : List Ask) (have : ℕ) → cost (xs ++ ys) ≤ have → cost xs ≤ have
first_fits xs ys have l = omega (arith, cost_then xs ys, l)

pub next_fits : (xs ys : List Ask) (have now : ℕ) → cost (xs ++ ys) ≤ have → have ≤ now + cost xs → cost ys ≤ now
next_fits xs ys have now l used = omega (arith, cost_then xs ys, l, used)

pub stays_both : (xs ys : List Ask) (a b c : Store) (old at new : Journal)
    → Stays (cost xs) a b old at → Stays (cost ys) b c at new → Stays (cost (xs ++ ys)) a c old new
stays_both xs ys a b c old at new p q = stays_more xs ys (xs ++ ys) a b c old at new refl p q

-- a global cell that is cleared
abbrev pub clearing : ℕ → Ask
clearing cell = ask (row_number (GlobalCell cell)) []

-- the rows of the first places of digests, and of all
pub digests_front : (places n : ℕ) → n ≤ places + 1 → cost (up_to digest_ask n) ≤ cost (digest_asks places)
unfolding digest_asks
digests_front places n l = up_fits digest_ask n (places + 1) l

pub digests_whole : (places n : ℕ) → n ≡ places + 1 → up_to digest_ask n ≡ digest_asks places
unfolding digest_asks
digests_whole places n e = ap (up_to digest_ask) e
