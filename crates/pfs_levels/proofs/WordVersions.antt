-- What an actor's calls named of a word never falls along calls that rise: not behind a meet with the writer either.
use Rattle.std.proofs.Common.{ℕ, ◌≡◌, ◌<◌, ◌≤◌, ◌==◌, true, false, Bool, cond, List, [], ◌∷◌, ◌++◌, refl, ap, arith}
use Rattle.std.proofs.lemmas.Bool.{eqb-true}
use Rattle.pfs_levels.specs.Calls.{Call, Adds, Rings, Reads, Loads, Draws, Takes, Puts, Frees, Sets, Enters, Leaves, Meets}
use Rattle.pfs_levels.specs.CallOrder.{top_word, AreRising, LoadsAfterMeet}

step_named : (b : Bool) (v t u : ℕ) → (b ≡ true → t ≤ v) → u ≤ t → u ≤ cond b v t
step_named true v t u h low = omega (arith, h refl, low)
step_named false v t u h low = low

pub named_grows : (more calls : List Call) (at : ℕ) → at < 160 → AreRising (more ++ calls) → top_word calls at ≤ top_word (more ++ calls) at
named_grows [] calls at up r = omega arith
named_grows (Loads w v flags ∷ more) calls at up r =
    step_named (w == at) v (top_word (more ++ calls) at) (top_word calls at) (λ b. omega (arith, r.0, ap (top_word (more ++ calls)) (eqb-true w at b))) (named_grows more calls at up r.1)
named_grows (Sets w flags v ∷ more) calls at up r =
    step_named (w == at) v (top_word (more ++ calls) at) (top_word calls at) (λ b. omega (arith, r.0, ap (top_word (more ++ calls)) (eqb-true w at b))) (named_grows more calls at up r.1)
named_grows (Meets versions ∷ more) calls at up r = omega (arith, r.0 at up, named_grows more calls at up r.1)
named_grows (Adds row amount answer ∷ more) calls at up r = named_grows more calls at up r.1
named_grows (Rings row content answer ∷ more) calls at up r = named_grows more calls at up r.1
named_grows (Reads row seen ∷ more) calls at up r = named_grows more calls at up r.1
named_grows (Draws kind ticket ∷ more) calls at up r = named_grows more calls at up r.1
named_grows (Takes row version found ∷ more) calls at up r = named_grows more calls at up r.1
named_grows (Puts row content version ∷ more) calls at up r = named_grows more calls at up r.1
named_grows (Frees row version ∷ more) calls at up r = named_grows more calls at up r.1
named_grows (Enters label labels ∷ more) calls at up r = named_grows more calls at up r.1
named_grows (Leaves ∷ more) calls at up r = named_grows more calls at up r.1

pub loads_after_a_meet : LoadsAfterMeet
loads_after_a_meet more calls versions at version flags up r = omega (arith, r.0, named_grows more (Meets versions ∷ calls) at up r.1)
