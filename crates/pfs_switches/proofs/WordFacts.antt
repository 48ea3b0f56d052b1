-- Flags as words.
use Rattle.std.proofs.Common.{◌≡◌, ℕ, zero, suc, ◌+◌, ◌<◌, List, [], ◌∷◌, ◌++◌, get_or, map, take, sym, ap, ◌∙◌, arith, length-append}
use mathlib.Core.Option.{some, some-injective, some-ne-none}
use lib.ListN.{get_elem?}
use Rattle.pfs_switches.specs.OpeningWords.{parts}

take_suc : (ws : List ℕ) (i a : ℕ) → get_elem? ws i ≡ some a → map parts (take (suc i) ws) ≡ map parts (take i ws) ++ parts a ∷ []
take_suc [] i a e = absurd (some-ne-none a (sym e))
take_suc (w ∷ ws) zero a e = ap (λ z. parts z ∷ []) (some-injective w a e)
take_suc (w ∷ ws) (suc i) a e = ap (λ z. parts w ∷ z) (take_suc ws i a e)

-- the words up to one more
pub take_more : (ws : List ℕ) (i a : ℕ) → get_elem? ws i ≡ some a → map parts (take (i + 1) ws) ≡ map parts (take i ws) ++ parts a ∷ []
take_more ws i a e = let n : i + 1 ≡ suc i = omega arith in ap (λ k. map parts (take k ws)) n ∙ take_suc ws i a e
