-- What interning does to a list of texts. The id of a text is its place in the list.
use Rattle.std.specs.Prelude.{◌≡◌, ℕ, ◌≤◌, List, [], ◌∷◌, ◌++◌, length, Contains, Some, ◌⊎◌, ◌↔◌, map, slice_get, String, string_bytes, if◌then◌else◌}
use Rattle.std.specs.List.{list_any, position_or_len}
use Rattle.std.specs.Str.{bytes_eq}
use Rattle.std.specs.BTreeMap.{BTreeMap, get_by_text}

-- the texts of a `Names`: none twice, none over 1,024 bytes, at most 65,536
pub record AreNames (texts : List (List ℕ)) : Type 0 where
  pub distinct : (i j : ℕ) (text : List ℕ) → slice_get texts i ≡ Some text → slice_get texts j ≡ Some text → i ≡ j
  pub short : (text : List ℕ) → Contains texts text → length text ≤ 1024
  pub few : length texts ≤ 65536

-- the id of a text among names: its first place, or the number of names
abbrev pub id_of : List (List ℕ) → List ℕ → ℕ
id_of texts text = position_or_len (λ one. bytes_eq one text) texts

-- names with one text interned
unfoldable pub interned : List (List ℕ) → List ℕ → List (List ℕ)
interned texts text = if list_any (λ one. bytes_eq one text) texts then texts else texts ++ text ∷ []

-- a text that was there changes nothing, and a new one stands at the end
abbrev pub Interns : List (List ℕ) → List (List ℕ) → List ℕ → Type 0
Interns old new text = (Contains old text × (new ≡ old)) ⊎ (¬ Contains old text × (new ≡ old ++ text ∷ []))

-- the look-up by text gives each text its place and finds nothing else, and the texts keep within the limits
module _ {Y Z : Type 0} where
  pub record Agrees (texts : List (String Y)) (ids : BTreeMap (String Z) ℕ) : Type 0 where
    pub places : (text : List ℕ) (id : ℕ) → (get_by_text ids text ≡ Some id)
        ↔ (slice_get (map string_bytes texts) id ≡ Some text)
    pub short : (text : List ℕ) → Contains (map string_bytes texts) text → length text ≤ 1024
    pub few : length texts ≤ 65536

-- the two ways to say what interning does agree, and so do the two ways to say what an id is
pub record InterningAgrees : Type 0 where
  pub interns : (old new : List (List ℕ)) (text : List ℕ) → Interns old new text ↔ (new ≡ interned old text)
  pub ids : (texts : List (List ℕ)) (id : ℕ) (text : List ℕ) → AreNames texts → (slice_get texts id ≡ Some text)
      ↔ (Contains texts text × (id ≡ id_of texts text))
