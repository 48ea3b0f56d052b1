-- A hash in hexadecimal digits is a text of a report.
use Rattle.std.proofs.Common.{ℕ, zero, suc, ◌≡◌, ◌<◌, ◌/◌, ◌%◌, Bool, true, ◌&&◌, List, [], ◌∷◌, inl, inr, refl, arith}
use Rattle.std.specs.Prelude.{slice_index}
use Rattle.std.specs.Int.{byte_at, bytes_high_first, to_be_bytes, w32}
use Rattle.std.specs.List.{All}
use Rattle.std.proofs.lemmas.Bool.{and_parts, cases_lt}
use Rattle.std.proofs.lemmas.List.Elements.{All-nil, All-cons, All-append, All-head, All-tail}
use Rattle.hex.specs.Hex.{encode_lower, encode_with, lower_digits}
use Rattle.sha2.specs.Sha256.{digest_bytes, final_hash, initial_hash_256, sha256}
use Rattle.pfs_journal.specs.Reports.{IsText, is_text_byte}

abbrev IsByte : ℕ → Type 0
IsByte b = b < 256

-- a hash has bytes
byte_low : (k n : ℕ) → byte_at k n < 256
byte_low zero n = omega arith
byte_low (suc k) n = omega arith

words_low : (k n : ℕ) → All IsByte (bytes_high_first k n)
words_low zero n = All-nil IsByte
words_low (suc k) n = All-cons IsByte (byte_at k n) (bytes_high_first k n) (byte_low k n) (words_low k n)

digest_low : (h : List ℕ) (n : ℕ) → All IsByte (digest_bytes h n)
unfolding digest_bytes
digest_low h zero = All-nil IsByte
digest_low h (suc n) = All-append IsByte (digest_bytes h n) (to_be_bytes w32 (slice_index h n)) (digest_low h n) (words_low 4 (slice_index h n))

hash_low : (text : List ℕ) → All IsByte (sha256 text)
unfolding sha256
hash_low text = digest_low (final_hash initial_hash_256 text) 8

-- each digit is a byte of a text
abbrev all_tested : ℕ → Bool
all_tested zero = true
all_tested (suc n) = is_text_byte (slice_index lower_digits n) && all_tested n

tested_at : (n k : ℕ) → all_tested n ≡ true → k < n → is_text_byte (slice_index lower_digits k) ≡ true
tested_at zero k h lt = absurd (omega (arith, lt))
tested_at (suc n) k h lt =
    let parts = and_parts (is_text_byte (slice_index lower_digits n)) (all_tested n) h in
    elim (cases_lt k n) [
      | inl below ↦ tested_at n k parts.1 below
      | inr top ↦
          let e : k ≡ n = omega (arith, top, lt) in
          rw e parts.0
    ]

digit_text : (d : ℕ) → d < 16 → is_text_byte (slice_index lower_digits d) ≡ true
digit_text d lt = tested_at 16 d refl lt

digits_text : (bytes : List ℕ) → All IsByte bytes → IsText (encode_with lower_digits bytes)
unfolding encode_with
digits_text [] low = All-nil (λ b. is_text_byte b ≡ true)
digits_text (b ∷ bytes) low =
    let own : b < 256 = All-head IsByte b bytes low in
    All-cons (λ b. is_text_byte b ≡ true) (slice_index lower_digits (b / 16)) (slice_index lower_digits (b % 16) ∷ encode_with lower_digits bytes) (digit_text (b / 16) (omega (arith, own)))
    (All-cons (λ b. is_text_byte b ≡ true) (slice_index lower_digits (b % 16)) (encode_with lower_digits bytes) (digit_text (b % 16) (omega arith)) (digits_text bytes (All-tail IsByte b bytes low)))

pub hash_text : (text : List ℕ) → IsText (encode_lower (sha256 text))
hash_text text = digits_text (sha256 text) (hash_low text)
