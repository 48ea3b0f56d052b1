-- The texts that a block of a script asks, and how far they are written out.
use Rattle.std.specs.Prelude.{ℕ, ◌≡◌, List, [], ◌∷◌, ◌++◌, map, length, Option, Some, None}
use Rattle.std.specs.Borrow.{Bor}
use Rattle.std.specs.List.{flat_map}
use Rattle.pfs_script.specs.declared.blocks.BlockLine.{BlockLine}
use Rattle.pfs_script.specs.declared.blocks.BlockLine.TheVariants as said
use Rattle.pfs_script.specs.Marks.{written_from, written_out}
use Rattle.pfs_view.specs.declared.texts.Repeat.{Repeat}

-- the text of a line of SQL, nothing of any other
abbrev pub text_on : BlockLine → List (List ℕ)
text_on (said.Sql text) = text ∷ []
text_on _ = []

-- the texts of the lines in order, each repeat written out
unfoldable pub texts_of : List BlockLine → List (List ℕ)
texts_of lines = flat_map text_on (written_out lines)

-- the texts that these are
abbrev pub bytes_of : List (Bor (List ℕ)) → List (List ℕ)
bytes_of texts = map (λ (text : Bor (List ℕ)). text.now) texts

-- what a line adds
pub record AddedTexts (line : BlockLine) (old new : List (Bor (List ℕ))) : Type 0 where
  pub added : List (Bor (List ℕ))
  pub texts_are : new ≡ old ++ added
  pub added_is : bytes_of added ≡ text_on line

-- the whole has these texts first, the last of them those of a repeat so far, and then what the rest makes
pub record IsRepeated (whole : List (List ℕ)) (repeat : Repeat) (texts : List (Bor (List ℕ))) (rest : List BlockLine) : Type 0 where
  pub front : List (Bor (List ℕ))
  pub own : List (Bor (List ℕ))
  pub body : List BlockLine
  pub begins : length front ≡ repeat.start
  pub texts_are : texts ≡ front ++ own
  pub own_is : bytes_of own ≡ flat_map text_on body
  pub ahead : bytes_of front ++ flat_map text_on (written_from (Some (record { times = repeat.times; body = body })) rest) ≡ whole

abbrev pub IsWritten : List (List ℕ) → Option Repeat → List (Bor (List ℕ)) → List BlockLine → Type 0
IsWritten whole None texts rest = bytes_of texts ++ flat_map text_on (written_from None rest) ≡ whole
IsWritten whole (Some repeat) texts rest = IsRepeated whole repeat texts rest
