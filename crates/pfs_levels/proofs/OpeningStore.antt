-- A plain store as it opens.
use Rattle.std.proofs.Common.{ℕ, zero, suc, ◌≡◌, ◌<◌, List, [], ◌∷◌, map, slice_index_or, length, ap, sym, ◌∙◌, arith, refl}
use Rattle.std.proofs.lemmas.List.{get_or-map}
use Rattle.pfs_levels.specs.declared.plain.Slot.{Slot}
use Rattle.pfs_levels.specs.declared.answers.Word.{Word}
use Rattle.pfs_levels.specs.JointCalls.{sets_of, draws_of, drawn}
use Rattle.pfs_levels.specs.PlainStore.{IsAt, word, slot_at, word_at, opening_slot, slot_after, word_after, ops_of}

abbrev no_tickets : List ℕ
no_tickets = 0 ∷ 0 ∷ 0 ∷ 0 ∷ []

zeros : (kind : ℕ) → slice_index_or no_tickets kind 0 ≡ 0
zeros zero = refl
zeros (suc zero) = refl
zeros (suc (suc zero)) = refl
zeros (suc (suc (suc zero))) = refl
zeros (suc (suc (suc (suc kind)))) = refl

pub opened : (slots : List Slot) (words : List Word) (flags from : List ℕ) → length flags ≡ 160 → from ≡ flags → ((row : ℕ) → row < 14242 → slot_at slots row ≡ opening_slot row) → words ≡ map (word 0) flags → IsAt slots words (0 ∷ 0 ∷ 0 ∷ 0 ∷ []) from []
unfolding slot_after word_after ops_of sets_of draws_of drawn
opened slots words flags from wide same each w = record {
  slots_are = each;
  words_are = λ at low. ap (λ x. word_at x at) w ∙ get_or-map (word 0) flags at 0 _ (omega arith) ∙ ap (λ x. word 0 (slice_index_or x at 0)) (sym same);
  tickets_are = λ kind low. zeros kind;
  answers = tt;
}

opens_all : (flags : List ℕ) (at : ℕ) → (word_at (map (word 0) flags) at).version ≡ 0
opens_all [] at = refl
opens_all (x ∷ xs) zero = refl
opens_all (x ∷ xs) (suc at) = opens_all xs at

-- each word opens at version 0
pub word_opens : (words : List Word) (flags : List ℕ) (at : ℕ) → words ≡ map (word 0) flags → (word_at words at).version ≡ 0
word_opens words flags at w = ap (λ x. (word_at x at).version) w ∙ opens_all flags at
