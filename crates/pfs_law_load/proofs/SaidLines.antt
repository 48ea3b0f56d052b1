-- What each line of a generated script says.
use Rattle.std.proofs.Common.{ℕ, zero, suc, ◌≡◌, ◌+◌, ◌≤◌, ◌<◌, ◌%◌, ◌^◌, ◌==◌, Bool, true, false, cond, nat_lt, List, [], ◌∷◌, ◌++◌, length, Some, Ok, refl, ap, arith}
use Rattle.std.specs.Prelude.{codes, decimal, option_map, drop}
use Rattle.std.specs.List.{list_all}
use Rattle.std.specs.Str.Parse.{AllDigits, IsNumeral, digits_value}
use Rattle.std.proofs.lemmas.Bool.{and_parts, and_from}
use Rattle.std.proofs.lemmas.Bool.Decides.{nat_tests}
use Rattle.std.proofs.lemmas.Fmt.{decimal_digit, decimal_is_IsNumeral, decimal_by_steps}
use Rattle.std.proofs.lemmas.Iterator.Adapters.{position_from-zero}
use Rattle.pfs_classes.specs.Kinds.{kind_of}
use Rattle.pfs_gen.specs.GeneratedScript.{connect_line, session_line, spend_line, statement_line, wait_line}
use Rattle.pfs_model.proofs.EachLists.{each_join}
use Rattle.pfs_model.specs.Chains.{Each}
use Rattle.pfs_script.specs.Forms.{bare_form, block_form, connect_form, form, is_silent, long_form, session_form, spend_form, start_class, start_class_with, start_form, words_form}
use Rattle.pfs_script.specs.Numerals.{is_digit, is_numeral, number_of}
use Rattle.pfs_script.specs.ScriptWords.{is_name, is_script_byte, is_space, rest_of, word_of}
use Rattle.pfs_script.specs.declared.forms.Form.{Form}
use Rattle.pfs_script.specs.declared.forms.Form.TheVariants as lines
use Rattle.pfs_law_load.proofs.LineTexts.{Spells, spells_line, spells_none, spells_on}

-- lines of the second phase
abbrev pub IsInside : Form → Type 0
IsInside (lines.Resume session) = Unit {0}
IsInside (lines.Statement class text) = Unit {0}
IsInside (lines.Wait class) = Unit {0}
IsInside (lines.Spend time) = Unit {0}
IsInside lines.End = Unit {0}
IsInside _ = ⊥

-- the text says such lines alone
pub record SaysInside (text : List ℕ) : Type 0 where
  pub lines : List Form
  pub inside : Each IsInside lines
  pub spells : Spells text lines

pub inside_none : SaysInside []
inside_none = record { lines = []; inside = tt; spells = spells_none }

pub inside_on : (first second : List ℕ) → SaysInside first → SaysInside second → SaysInside (first ++ second)
inside_on first second f g = record {
  lines = f.lines ++ g.lines;
  inside = each_join IsInside f.lines g.lines f.inside g.inside;
  spells = spells_on first second f.lines g.lines f.spells g.spells;
}

inside_line : (text raw : List ℕ) (line : Form) → IsInside line → text ≡ raw ++ 10 ∷ [] → form raw ≡ Ok line → SaysInside text
inside_line text raw line inside ended said = record {
  lines = line ∷ [];
  inside = (inside, tt);
  spells = spells_line text raw line ended said;
}

statement_by : (first second third : Bool) → SaysInside (cond first (codes "start statement/sql/select SELECT * FROM orders WHERE id = 10\n")
    (cond second (codes "start statement/sql/insert INSERT INTO orders VALUES (1, 2)\n")
    (cond third (codes "start statement/sql/update UPDATE orders SET quantity = 3 WHERE id = 10\n")
    (codes "start statement/sql/delete DELETE FROM orders WHERE id IN (1, 2, 3)\n"))))
unfolding form is_silent words_form word_of rest_of long_form start_form start_class_with kind_of
statement_by true second third = inside_line _ (codes "start statement/sql/select SELECT * FROM orders WHERE id = 10") (lines.Statement (codes "statement/sql/select") (codes "SELECT * FROM orders WHERE id = 10")) tt refl refl
statement_by false true third = inside_line _ (codes "start statement/sql/insert INSERT INTO orders VALUES (1, 2)") (lines.Statement (codes "statement/sql/insert") (codes "INSERT INTO orders VALUES (1, 2)")) tt refl refl
statement_by false false true = inside_line _ (codes "start statement/sql/update UPDATE orders SET quantity = 3 WHERE id = 10") (lines.Statement (codes "statement/sql/update") (codes "UPDATE orders SET quantity = 3 WHERE id = 10")) tt refl refl
statement_by false false false = inside_line _ (codes "start statement/sql/delete DELETE FROM orders WHERE id IN (1, 2, 3)") (lines.Statement (codes "statement/sql/delete") (codes "DELETE FROM orders WHERE id IN (1, 2, 3)")) tt refl refl

pub says_statement : (a : ℕ) → SaysInside (statement_line a)
unfolding statement_line
says_statement a = statement_by (a == 0) (a == 1) (a == 2)

wait_by : (first second : Bool) → SaysInside (cond first (codes "start wait/io/file/sql/binlog\n") (cond second (codes "start wait/io/file/innodb/innodb_data_file\n") (codes "start wait/io/file/innodb/innodb_log_file\n")))
unfolding form is_silent words_form word_of rest_of long_form start_form start_class kind_of
wait_by true second = inside_line _ (codes "start wait/io/file/sql/binlog") (lines.Wait (codes "wait/io/file/sql/binlog")) tt refl refl
wait_by false true = inside_line _ (codes "start wait/io/file/innodb/innodb_data_file") (lines.Wait (codes "wait/io/file/innodb/innodb_data_file")) tt refl refl
wait_by false false = inside_line _ (codes "start wait/io/file/innodb/innodb_log_file") (lines.Wait (codes "wait/io/file/innodb/innodb_log_file")) tt refl refl

pub says_wait : (c : ℕ) → SaysInside (wait_line c)
unfolding wait_line
says_wait c = wait_by (c == 0) (c == 1)

pub says_end : SaysInside (codes "end\n")
unfolding form is_silent words_form word_of rest_of bare_form
says_end = inside_line _ (codes "end") lines.End tt refl refl

pub says_phase : Spells (codes "phase\n") (lines.Phase ∷ [])
unfolding form is_silent words_form word_of rest_of bare_form
says_phase = spells_line _ (codes "phase") lines.Phase refl refl

-- ---- decimal numbers

push_clean : (ds : List ℕ) (digit : ℕ) → list_all is_script_byte ds ≡ true → digit < 10 → list_all is_script_byte (ds ++ (48 + digit) ∷ []) ≡ true
push_clean [] digit h d = grind (arith, nat_tests, d)
push_clean (byte ∷ ds) digit h d =
    let parts = and_parts (is_script_byte byte) (list_all is_script_byte ds) h in
    and_from (is_script_byte byte) (list_all is_script_byte (ds ++ (48 + digit) ∷ [])) parts.0 (push_clean ds digit parts.1 d)

decimal_clean : (n : ℕ) → n < 2 ^ 64 → list_all is_script_byte (decimal n) ≡ true
decimal_clean n h = decimal_by_steps (λ n ds. list_all is_script_byte ds ≡ true) (λ n low. push_clean [] n refl low) (λ n ds high clean. push_clean ds (n % 10) clean (omega arith)) n h

digits_test : (ds : List ℕ) → AllDigits 10 ds → list_all is_digit ds ≡ true
digits_test [] h = refl
digits_test (byte ∷ ds) h = and_from (is_digit byte) (list_all is_digit ds) (grind (arith, nat_tests, h.0)) (digits_test ds h.1)

numeral_by : (ds : List ℕ) (n : ℕ) → IsNumeral 10 ds → digits_value 10 ds ≡ n → n < 2 ^ 64 → number_of ds ≡ Some (Some n)
unfolding number_of is_numeral
numeral_by ds n is value low =
    let some : nat_lt 0 (length ds) ≡ true = grind (arith, nat_tests, is.0) in
    let small : nat_lt n 18446744073709551616 ≡ true = grind (arith, nat_tests, low) in
    rw (some, digits_test ds is.1, value, small) refl

number_is : (n : ℕ) → n < 2 ^ 64 → number_of (decimal n) ≡ Some (Some n)
number_is n low = let is = decimal_is_IsNumeral n low in numeral_by (decimal n) n is.0 is.1 low

spoken : (ds : List ℕ) → is_silent (codes "spend " ++ ds) ≡ false
unfolding is_silent
spoken ds = grind (arith, nat_tests)

rest_spend : (ds : List ℕ) → rest_of (codes "spend " ++ ds) ≡ Some ds
unfolding rest_of
rest_spend ds = ap (option_map (λ at. drop (at + 1) (codes "spend " ++ ds))) (position_from-zero is_space (codes "spend " ++ ds))

spend_is : (ds : List ℕ) (n : ℕ) → list_all is_script_byte ds ≡ true → number_of ds ≡ Some (Some n) → form (codes "spend " ++ ds) ≡ Ok (lines.Spend (Some n))
unfolding form words_form word_of long_form block_form spend_form
spend_is ds n clean number = rw (spoken ds, clean, rest_spend ds, number) refl

pub says_spend : (n : ℕ) → n < 2 ^ 64 → SaysInside (spend_line n)
unfolding spend_line
says_spend n low = inside_line _ (codes "spend " ++ decimal n) (lines.Spend (Some n)) tt refl (spend_is (decimal n) n (decimal_clean n low) (number_is n low))

pub says_session : (number : ℕ) → 1 ≤ number → number ≤ 8 → SaysInside (session_line number)
unfolding session_line form is_silent words_form word_of rest_of long_form session_form number_of is_numeral
says_session zero low high = absurd (omega arith)
says_session (suc zero) low high = inside_line _ (codes "session 1") (lines.Resume (Some 1)) tt (rw (decimal_digit 1 (omega arith)) refl) refl
says_session (suc (suc zero)) low high = inside_line _ (codes "session 2") (lines.Resume (Some 2)) tt (rw (decimal_digit 2 (omega arith)) refl) refl
says_session (suc (suc (suc zero))) low high = inside_line _ (codes "session 3") (lines.Resume (Some 3)) tt (rw (decimal_digit 3 (omega arith)) refl) refl
says_session (suc (suc (suc (suc zero)))) low high = inside_line _ (codes "session 4") (lines.Resume (Some 4)) tt (rw (decimal_digit 4 (omega arith)) refl) refl
says_session (suc (suc (suc (suc (suc zero))))) low high = inside_line _ (codes "session 5") (lines.Resume (Some 5)) tt (rw (decimal_digit 5 (omega arith)) refl) refl
says_session (suc (suc (suc (suc (suc (suc zero)))))) low high = inside_line _ (codes "session 6") (lines.Resume (Some 6)) tt (rw (decimal_digit 6 (omega arith)) refl) refl
says_session (suc (suc (suc (suc (suc (suc (suc zero))))))) low high = inside_line _ (codes "session 7") (lines.Resume (Some 7)) tt (rw (decimal_digit 7 (omega arith)) refl) refl
says_session (suc (suc (suc (suc (suc (suc (suc (suc zero)))))))) low high = inside_line _ (codes "session 8") (lines.Resume (Some 8)) tt (rw (decimal_digit 8 (omega arith)) refl) refl
says_session (suc (suc (suc (suc (suc (suc (suc (suc (suc more))))))))) low high = absurd (omega arith)

-- ---- a session that connects, by names of its own
pub record SaysConnect (text : List ℕ) : Type 0 where
  pub number : ℕ
  pub user : List ℕ
  pub host : List ℕ
  pub spells : Spells text (lines.Connect (Some number) user host ∷ [])

connect_line_is : (text raw : List ℕ) (number : ℕ) (user host : List ℕ) → text ≡ raw ++ 10 ∷ [] → form raw ≡ Ok (lines.Connect (Some number) user host) → SaysConnect text
connect_line_is text raw number user host ended said = record {
  number = number;
  user = user;
  host = host;
  spells = spells_line text raw (lines.Connect (Some number) user host) ended said;
}

pub says_connect : (number : ℕ) → 1 ≤ number → number ≤ 8 → SaysConnect (connect_line number)
unfolding connect_line form is_silent words_form word_of rest_of long_form session_form number_of is_numeral connect_form is_name
says_connect zero low high = absurd (omega arith)
says_connect (suc zero) low high = connect_line_is _ (codes "session 1 u1 h1") 1 (codes "u1") (codes "h1") (rw (decimal_digit 1 (omega arith)) refl) refl
says_connect (suc (suc zero)) low high = connect_line_is _ (codes "session 2 u2 h0") 2 (codes "u2") (codes "h0") (rw (decimal_digit 2 (omega arith), decimal_digit 0 (omega arith)) refl) refl
says_connect (suc (suc (suc zero))) low high = connect_line_is _ (codes "session 3 u3 h1") 3 (codes "u3") (codes "h1") (rw (decimal_digit 3 (omega arith), decimal_digit 1 (omega arith)) refl) refl
says_connect (suc (suc (suc (suc zero)))) low high = connect_line_is _ (codes "session 4 u0 h0") 4 (codes "u0") (codes "h0") (rw (decimal_digit 4 (omega arith), decimal_digit 0 (omega arith)) refl) refl
says_connect (suc (suc (suc (suc (suc zero))))) low high = connect_line_is _ (codes "session 5 u1 h1") 5 (codes "u1") (codes "h1") (rw (decimal_digit 5 (omega arith), decimal_digit 1 (omega arith)) refl) refl
says_connect (suc (suc (suc (suc (suc (suc zero)))))) low high = connect_line_is _ (codes "session 6 u2 h0") 6 (codes "u2") (codes "h0") (rw (decimal_digit 6 (omega arith), decimal_digit 2 (omega arith), decimal_digit 0 (omega arith)) refl) refl
says_connect (suc (suc (suc (suc (suc (suc (suc zero))))))) low high = connect_line_is _ (codes "session 7 u3 h1") 7 (codes "u3") (codes "h1") (rw (decimal_digit 7 (omega arith), decimal_digit 3 (omega arith), decimal_digit 1 (omega arith)) refl) refl
says_connect (suc (suc (suc (suc (suc (suc (suc (suc zero)))))))) low high = connect_line_is _ (codes "session 8 u0 h0") 8 (codes "u0") (codes "h0") (rw (decimal_digit 8 (omega arith), decimal_digit 0 (omega arith)) refl) refl
says_connect (suc (suc (suc (suc (suc (suc (suc (suc (suc more))))))))) low high = absurd (omega arith)
