-- Lists of sets that have one number are one list.
use Rattle.std.proofs.Common.{ℕ, zero, suc, ◌≡◌, ◌<◌, List, [], ◌∷◌, refl, ap, arith}
use Rattle.pfs_switches.specs.declared.view.Setting.{Setting}
use Rattle.pfs_board_store.specs.WriterWords.{both, number_of}

both_some : (a b : ℕ) → 0 < both a b
unfolding both
both_some zero b = omega arith
both_some (suc a) b = let some = both_some a b in omega (arith, some)

both_same : (a b c d : ℕ) → both a b ≡ both c d → (a ≡ c) × (b ≡ d)
unfolding both
both_same zero b zero d e = (refl, omega (arith, e))
both_same zero b (suc c) d e = absurd (omega (arith, e))
both_same (suc a) b zero d e = absurd (omega (arith, e))
both_same (suc a) b (suc c) d e =
    let half : both a b ≡ both c d = omega (arith, e) in
    let same = both_same a b c d half in
    (ap (λ n. suc n) same.0, same.1)

pub numbered : (some other : List Setting) → number_of some ≡ number_of other → some ≡ other
unfolding number_of
numbered [] [] e = refl
numbered [] (s ∷ ss) e = let some = both_some s.word (both s.version (both s.flags (number_of ss))) in absurd (omega (arith, e, some))
numbered (s ∷ ss) [] e = let some = both_some s.word (both s.version (both s.flags (number_of ss))) in absurd (omega (arith, e, some))
numbered (s ∷ ss) (t ∷ ts) e =
    let words = both_same s.word (both s.version (both s.flags (number_of ss))) t.word (both t.version (both t.flags (number_of ts))) e in
    let versions = both_same s.version (both s.flags (number_of ss)) t.version (both t.flags (number_of ts)) words.1 in
    let flags = both_same s.flags (number_of ss) t.flags (number_of ts) versions.1 in
    let rest = numbered ss ts flags.1 in
    (λ j. record { word = words.0 j; version = versions.0 j; flags = flags.0 j } ∷ rest j)
