-- What the words behind the program's name ask for.
use Rattle.std.specs.Prelude.{ℕ, ◌≡◌, ◌<◌, ◌^◌, ◌⊎◌, List, [], ◌∷◌, map, codes, string_bytes, String}
use Rattle.std.specs.Str.Parse.{IsNumeral, digits_value}
use Rattle.std.specs.declared.alloc.Global.{Global}

-- there is one word, this one
abbrev pub IsWord : List ℕ → List (String Global) → Type 0
IsWord word words = map string_bytes words ≡ word ∷ []

-- the script of the source is to be run
abbrev pub AsksRun : List (String Global) → Type 0
AsksRun words = IsWord (codes "run") words

-- the same, its sessions one after another on one thread
abbrev pub AsksPlain : List (String Global) → Type 0
AsksPlain words = IsWord (codes "plain") words

-- the generated script of a number is to be run: behind `load` stand decimal digits, and zeros may lead them
pub record AsksLoad (words : List (String Global)) (number : ℕ) : Type 0 where
  pub digits : List ℕ
  pub are : map string_bytes words ≡ codes "load" ∷ digits ∷ []
  pub numeral : IsNumeral 10 digits
  pub value : digits_value 10 digits ≡ number
  pub fits : number < 2 ^ 64

-- a script is to be read
abbrev pub AsksScript : List (String Global) → Type 0
AsksScript words = AsksRun words ⊎ AsksPlain words

-- the words are one of the commands
abbrev pub IsCommand : List (String Global) → Type 0
IsCommand words = AsksScript words ⊎ ((number : ℕ) × AsksLoad words number)
