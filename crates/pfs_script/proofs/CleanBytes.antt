-- The bytes of a script are ASCII, and so are those of a part of it.
use Rattle.std.proofs.Common.{ℕ, zero, suc, ◌≡◌, true, ◌&&◌, nat_lt, List, [], ◌∷◌, length, drop, refl, arith}
use Rattle.std.specs.Prelude.{nat_le}
use Rattle.std.specs.List.{list_all}
use Rattle.std.specs.Str.{IsUtf8}
use Rattle.std.proofs.lemmas.Bool.{and_parts, and_from}
use Rattle.std.proofs.lemmas.Bool.Decides.{nat_tests}
use Rattle.std.proofs.lemmas.Str.{IsUtf8-from_ascii}
use Rattle.pfs_script.specs.ScriptWords.{is_script_byte, is_name_byte, is_name}
use Rattle.pfs_script.proofs.BuiltinNames.{is_low, ascii_from}

low_byte : (byte : ℕ) → is_script_byte byte ≡ true → is_low byte ≡ true
low_byte byte h = grind (arith, nat_tests, h)

low_all : (text : List ℕ) → list_all is_script_byte text ≡ true → list_all is_low text ≡ true
low_all [] h = refl
low_all (byte ∷ text) h =
    let both = and_parts (is_script_byte byte) (list_all is_script_byte text) h in
    and_from (is_low byte) (list_all is_low text) (low_byte byte both.0) (low_all text both.1)

pub clean_utf8 : (text : List ℕ) → list_all is_script_byte text ≡ true → IsUtf8 text
clean_utf8 text h = IsUtf8-from_ascii text (ascii_from text (low_all text h))

pub clean_drop : (n : ℕ) (text : List ℕ) → list_all is_script_byte text ≡ true → list_all is_script_byte (drop n text) ≡ true
clean_drop zero text h = h
clean_drop (suc n) [] h = refl
clean_drop (suc n) (byte ∷ text) h = clean_drop n text (and_parts (is_script_byte byte) (list_all is_script_byte text) h).1

-- a user's or a host's name has such bytes alone
clean_byte : (byte : ℕ) → is_name_byte byte ≡ true → is_script_byte byte ≡ true
clean_byte byte h = grind (arith, nat_tests, h)

clean_all : (text : List ℕ) → list_all is_name_byte text ≡ true → list_all is_script_byte text ≡ true
clean_all [] h = refl
clean_all (byte ∷ text) h =
    let both = and_parts (is_name_byte byte) (list_all is_name_byte text) h in
    and_from (is_script_byte byte) (list_all is_script_byte text) (clean_byte byte both.0) (clean_all text both.1)

pub name_clean : (most : ℕ) (name : List ℕ) → is_name most name ≡ true → list_all is_script_byte name ≡ true
unfolding is_name
name_clean most name h = clean_all name (and_parts (nat_lt 0 (length name) && nat_le (length name) most) (list_all is_name_byte name) h).1
