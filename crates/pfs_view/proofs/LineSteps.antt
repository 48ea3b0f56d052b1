-- Lines of a text, byte by byte.
use Rattle.std.proofs.Common.{ℕ, zero, suc, ◌≡◌, ◌+◌, ◌-◌, ◌<◌, ◌≤◌, Bool, true, false, List, [], ◌∷◌, length, get_or, drop, refl, ap, sym, ◌∙◌, arith}
use Rattle.std.specs.Prelude.{◌==◌, if◌then◌else◌}
use Rattle.std.proofs.lemmas.List.{drop_all, drop_more}
use Rattle.pfs_view.specs.ScriptLines.{behind_lines}

-- a text from a place on begins with what is there
parted : (text : List ℕ) (i byte : ℕ) → i < length text → byte ≡ get_or text i 0 → drop i text ≡ byte ∷ drop (i + 1) text
parted text i byte within is = drop_more text i 0 within ∙ ap (λ (b : ℕ). b ∷ drop (i + 1) text) (sym is)

behind_if : (feed : Bool) (n m : ℕ) (rest : List ℕ) → m ≡ n → (if feed then behind_lines n rest else behind_lines (suc n) rest) ≡ behind_lines (if feed then m else suc n) rest
behind_if true n m rest is = ap (λ (k : ℕ). behind_lines k rest) (sym is)
behind_if false n m rest is = refl

behind_byte : (left byte : ℕ) (rest : List ℕ) → 0 < left → behind_lines left (byte ∷ rest) ≡ behind_lines (if byte == 10 then left - 1 else left) rest
behind_byte zero byte rest some = absurd (omega (arith, some))
behind_byte (suc n) byte rest some = behind_if (byte == 10) n (suc n - 1) rest (omega arith)

pub behind_more : (left count i byte : ℕ) (text : List ℕ) → 0 < left → i < length text → byte ≡ get_or text i 0 → behind_lines left (drop i text) ≡ behind_lines count text
    → behind_lines (if byte == 10 then left - 1 else left) (drop (i + 1) text) ≡ behind_lines count text
behind_more left count i byte text some within is so = sym (behind_byte left byte (drop (i + 1) text) some) ∙ (ap (behind_lines left) (sym (parted text i byte within is)) ∙ so)

behind_none : (left : ℕ) → behind_lines left [] ≡ []
behind_none zero = refl
behind_none (suc n) = refl

pub behind_all : (left count i : ℕ) (text : List ℕ) → length text ≤ i → behind_lines left (drop i text) ≡ behind_lines count text → [] ≡ behind_lines count text
behind_all left count i text past so = sym (ap (behind_lines left) (drop_all i text past) ∙ behind_none left) ∙ so
