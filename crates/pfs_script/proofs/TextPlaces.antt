-- The place of a statement's digest text is one of those that the texts have, and below what a script may allow.
use Rattle.std.proofs.Common.{ℕ, ◌≡◌, ◌<◌, ◌≤◌, List, length, Option, Some, None, Result, Ok, Err, refl, arith}
use Rattle.std.specs.Prelude.{IfSome, position}
use Rattle.std.proofs.lemmas.List.Quantifiers.{position-Some}
use Rattle.pfs_classes.specs.declared.setting.DigestText.{DigestText}
use Rattle.pfs_digest.specs.Digest.{digest_text_of}
use Rattle.pfs_lexer.specs.declared.tokens.LexFault.{LexFault}
use Rattle.pfs_script.specs.declared.forms.Form.{Form}
use Rattle.pfs_script.specs.Finds.{digest_place, digests_of, has_text, of_text, place_of}
use Rattle.pfs_script.specs.Headings.{limits_of}
use Rattle.pfs_script.proofs.AppearanceOrder.{are_digests}

module _ (texts : List DigestText) (most : ℕ) (few : length texts ≤ most) where
  below : (shown : List ℕ) (place : ℕ) → position (has_text shown) texts ≡ Some place → place < most
  below shown place e =
      let within : place < length texts = (position-Some (has_text shown) texts place (of_text shown) e).0 in
      omega (arith, within, few)

  placed : (shown : List ℕ) (found : Option ℕ) → position (has_text shown) texts ≡ found → IfSome found (λ n. n < most)
  placed shown None e = tt
  placed shown (Some place) e = below shown place e

  due_placed : (due : Result (List ℕ) LexFault) → IfSome (place_of texts due) (λ n. n < most)
  due_placed (Err fault) = tt
  due_placed (Ok shown) = placed shown (position (has_text shown) texts) refl

-- so of each statement
pub place_known : (lines : List Form) (text : List ℕ) (most : ℕ) → (limits_of lines).digests ≤ most
    → IfSome (digest_place (digests_of (limits_of lines).digests lines) text) (λ n. n < most)
place_known lines text most low =
    due_placed (digests_of (limits_of lines).digests lines) most (omega (arith, (are_digests lines).few, low)) (digest_text_of text)

-- and within the texts that have one
pub place_within : (lines : List Form) (text : List ℕ)
    → IfSome (digest_place (digests_of (limits_of lines).digests lines) text) (λ n. n < length (digests_of (limits_of lines).digests lines))
place_within lines text =
    due_placed (digests_of (limits_of lines).digests lines) (length (digests_of (limits_of lines).digests lines)) (omega arith) (digest_text_of text)
