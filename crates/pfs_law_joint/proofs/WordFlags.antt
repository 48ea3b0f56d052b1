-- The flags of a word at a version don't depend on the order in which the sets are told.
use Rattle.std.proofs.Common.{ℕ, ◌≡◌, ◌+◌, ◌≤◌, ◌==◌, Bool, true, false, cond, ◌&&◌, List, [], ◌∷◌, map, slice_index_or, refl, ap, sym, ◌∙◌, arith, zero-add}
use Rattle.std.specs.Prelude.{nat_lt, nat_le, if◌then◌else◌}
use Rattle.pfs_levels.specs.JointCalls.{total, one_if, Setting, AreWordsCounted, flags_at, count}
use Rattle.pfs_law_joint.specs.Versions.{makes, FlagsLaw, at_set}
use Rattle.pfs_law_joint.proofs.Sums.{total_map, one_low}
use Rattle.pfs_law_joint.proofs.VersionChains.{log_chain, sets_counted}

abbrev is_set : ℕ → ℕ → Setting → Bool
is_set word k s = (s.word == word) && (s.version == k)

abbrev often : ℕ → ℕ → List Setting → ℕ
often word k sets = total (λ s. one_if (is_set word k s)) sets

abbrev value : ℕ → ℕ → Setting → ℕ
value word k s = cond (is_set word k s) s.flags 0

no_value : (ss : List Setting) (word k : ℕ) → often word k ss ≡ 0 → total (value word k) ss ≡ 0
unfolding total
no_value [] word k none = refl
no_value (s ∷ ss) word k none = at (λ still. no_value ss word k still) (is_set word k s) none where
  at : (often word k ss ≡ 0 → total (value word k) ss ≡ 0) → (b : Bool) → one_if b + often word k ss ≡ 0 → cond b s.flags 0 + total (value word k) ss ≡ 0
  at behind true none = absurd (omega (arith, none))
  at behind false none = omega (arith, behind (omega (arith, none)))

-- of one set at the version the flags are its own, and of none the opening ones
flags_sum : (flags : List ℕ) (ss : List Setting) (word k : ℕ) → often word k ss ≤ 1
    → flags_at flags ss word k ≡ cond (often word k ss == 0) (slice_index_or flags word 0) (total (value word k) ss)
unfolding total flags_at
flags_sum flags [] word k few = refl
flags_sum flags (s ∷ ss) word k few = at (λ still. flags_sum flags ss word k still) (is_set word k s) few where
  at : (often word k ss ≤ 1 → flags_at flags ss word k ≡ cond (often word k ss == 0) (slice_index_or flags word 0) (total (value word k) ss)) → (b : Bool) → one_if b + often word k ss ≤ 1
      → (if b then s.flags else flags_at flags ss word k) ≡ cond ((one_if b + often word k ss) == 0) (slice_index_or flags word 0) (cond b s.flags 0 + total (value word k) ss)
  at behind true few =
      let none : often word k ss ≡ 0 = omega (arith, few) in
      let last : s.flags + 0 ≡ s.flags = omega arith in
      sym (ap (λ n. cond ((1 + n) == 0) (slice_index_or flags word 0) (s.flags + total (value word k) ss)) none
      ∙ (ap (λ n. s.flags + n) (no_value ss word k none) ∙ last))
  at behind false few =
      behind (omega (arith, few))
      ∙ sym (ap (λ n. cond (n == 0) (slice_index_or flags word 0) (0 + total (value word k) ss)) (zero-add (often word k ss))
      ∙ ap (λ n. cond (often word k ss == 0) (slice_index_or flags word 0) n) (zero-add (total (value word k) ss)))

few_sets : (sets : List Setting) (word k : ℕ) → AreWordsCounted sets → often word k sets ≤ 1
few_sets sets word k counted =
    let a = total_map at_set (λ x. one_if (makes word k x)) sets in
    let b = log_chain (map at_set sets) word k (sets_counted sets counted) in
    omega (arith, a, b, one_low (nat_lt 0 k && nat_le k (count (map at_set sets) word)))

pub flags_told : FlagsLaw
flags_told = λ flags sets some counted same word k.
    (let n : often word k some ≡ often word k sets = same (λ s. one_if (is_set word k s)) in
    let v : total (value word k) some ≡ total (value word k) sets = same (value word k) in
    let few = few_sets sets word k counted in
    flags_sum flags some word k (omega (arith, few, n))
    ∙ (ap (λ z. cond (z == 0) (slice_index_or flags word 0) (total (value word k) some)) n
    ∙ (ap (λ z. cond (often word k sets == 0) (slice_index_or flags word 0) z) v ∙ sym (flags_sum flags sets word k few))))
