-- What each line of a generated script says.
use Rattle.std.proofs.Common.{ℕ, zero, suc, ◌≡◌, ◌+◌, ◌≤◌, ◌<◌, ◌%◌, ◌^◌, ◌==◌, Bool, true, false, cond, nat_lt, List, [], ◌∷◌, ◌++◌, length, Some, Ok, refl, ap, arith}
use Rattle.std.specs.Prelude.{codes, decimal, option_map, drop}
use Rattle.std.specs.List.{list_all}
use Rattle.std.specs.Str.Parse.{AllDigits, IsNumeral, digits_value}
use Rattle.std.proofs.lemmas.Bool.{and_parts, and_from}
use Rattle.std.proofs.lemmas.Bool.Decides.{nat_tests}
use Rattle.std.proofs.lemmas.Fmt.{decimal_digit, decimal_is_IsNumeral, decimal_by_steps}
use Rattle.std.proofs.lemmas.Iterator.Adapters.{position_from-zero}
use Rattle.pfs_lexer.specs.Comments.{comment_len}
use Rattle.pfs_lexer.specs.QuotePairs.{quoted_len}
use Rattle.pfs_lexer.specs.Numbers.{fraction_len, sign_len, exponent_len, decimal_len, hex_len}
use Rattle.pfs_lexer.specs.Operators.{operator_len}
use Rattle.pfs_lexer.specs.Fronts.{token_of, front_of}
use Rattle.pfs_lexer.specs.TextItems.{items_from}
use Rattle.pfs_classes.specs.Kinds.{kind_of}
use Rattle.pfs_script.specs.declared.forms.Form.{Form}
use Rattle.pfs_script.specs.declared.forms.Form.TheVariants as lines
use Rattle.pfs_script.specs.Numerals.{is_digit, is_numeral, number_of}
use Rattle.pfs_script.specs.ScriptWords.{is_script_byte, is_space, word_of, rest_of, is_name}
use Rattle.pfs_script.specs.Headings.{is_builtin, is_known}
use Rattle.pfs_script.specs.Finds.{is_refused}
use Rattle.pfs_script.specs.Forms.{is_silent, connect_form, session_form, start_class, start_class_with, start_form, spend_form, bare_form, block_form, long_form, words_form, form}
use Rattle.pfs_script.specs.Reasons.{is_unknown}
use Rattle.pfs_gen.specs.GeneratedScript.{statement_line, wait_line, spend_line, session_line, connect_line}
use Rattle.pfs_gen.proofs.TextPasses.{Says}

-- a statement whose class is known, and whose text the lexer takes
pub record SaysStatement (text : List ℕ) : Type 0 where
  pub class : List ℕ
  pub statement : List ℕ
  pub says : Says text (lines.Statement class statement)
  pub known : (before : List Form) → is_unknown before (lines.Statement class statement) ≡ false
  pub taken : is_refused statement ≡ false

-- a wait whose class is known
pub record SaysWait (text : List ℕ) : Type 0 where
  pub class : List ℕ
  pub says : Says text (lines.Wait class)
  pub known : (before : List Form) → is_unknown before (lines.Wait class) ≡ false

select_is : form (codes "start statement/sql/select SELECT * FROM orders WHERE id = 10") ≡ Ok (lines.Statement (codes "statement/sql/select") (codes "SELECT * FROM orders WHERE id = 10"))
unfolding form is_silent words_form word_of rest_of long_form start_form start_class_with kind_of
select_is = refl

insert_is : form (codes "start statement/sql/insert INSERT INTO orders VALUES (1, 2)") ≡ Ok (lines.Statement (codes "statement/sql/insert") (codes "INSERT INTO orders VALUES (1, 2)"))
unfolding form is_silent words_form word_of rest_of long_form start_form start_class_with kind_of
insert_is = refl

update_is : form (codes "start statement/sql/update UPDATE orders SET quantity = 3 WHERE id = 10") ≡ Ok (lines.Statement (codes "statement/sql/update") (codes "UPDATE orders SET quantity = 3 WHERE id = 10"))
unfolding form is_silent words_form word_of rest_of long_form start_form start_class_with kind_of
update_is = refl

delete_is : form (codes "start statement/sql/delete DELETE FROM orders WHERE id IN (1, 2, 3)") ≡ Ok (lines.Statement (codes "statement/sql/delete") (codes "DELETE FROM orders WHERE id IN (1, 2, 3)"))
unfolding form is_silent words_form word_of rest_of long_form start_form start_class_with kind_of
delete_is = refl

select_taken : is_refused (codes "SELECT * FROM orders WHERE id = 10") ≡ false
unfolding items_from front_of token_of operator_len hex_len decimal_len fraction_len exponent_len sign_len quoted_len comment_len
select_taken = refl

insert_taken : is_refused (codes "INSERT INTO orders VALUES (1, 2)") ≡ false
unfolding items_from front_of token_of operator_len hex_len decimal_len fraction_len exponent_len sign_len quoted_len comment_len
insert_taken = refl

update_taken : is_refused (codes "UPDATE orders SET quantity = 3 WHERE id = 10") ≡ false
unfolding items_from front_of token_of operator_len hex_len decimal_len fraction_len exponent_len sign_len quoted_len comment_len
update_taken = refl

delete_taken : is_refused (codes "DELETE FROM orders WHERE id IN (1, 2, 3)") ≡ false
unfolding items_from front_of token_of operator_len hex_len decimal_len fraction_len exponent_len sign_len quoted_len comment_len
delete_taken = refl

statement_known : (before : List Form) (text : List ℕ) → is_unknown before (lines.Statement (codes "statement/sql/select") text) ≡ false
unfolding is_known is_builtin
statement_known before text = refl

insert_known : (before : List Form) (text : List ℕ) → is_unknown before (lines.Statement (codes "statement/sql/insert") text) ≡ false
unfolding is_known is_builtin
insert_known before text = refl

update_known : (before : List Form) (text : List ℕ) → is_unknown before (lines.Statement (codes "statement/sql/update") text) ≡ false
unfolding is_known is_builtin
update_known before text = refl

delete_known : (before : List Form) (text : List ℕ) → is_unknown before (lines.Statement (codes "statement/sql/delete") text) ≡ false
unfolding is_known is_builtin
delete_known before text = refl

statement_by : (first second third : Bool) → SaysStatement (cond first (codes "start statement/sql/select SELECT * FROM orders WHERE id = 10\n")
    (cond second (codes "start statement/sql/insert INSERT INTO orders VALUES (1, 2)\n")
    (cond third (codes "start statement/sql/update UPDATE orders SET quantity = 3 WHERE id = 10\n")
    (codes "start statement/sql/delete DELETE FROM orders WHERE id IN (1, 2, 3)\n"))))
statement_by true second third = record { class = _; statement = _; says = record { raw = _; ended = refl; said = select_is }; known = λ before. statement_known before (codes "SELECT * FROM orders WHERE id = 10"); taken = select_taken }
statement_by false true third = record { class = _; statement = _; says = record { raw = _; ended = refl; said = insert_is }; known = λ before. insert_known before (codes "INSERT INTO orders VALUES (1, 2)"); taken = insert_taken }
statement_by false false true = record { class = _; statement = _; says = record { raw = _; ended = refl; said = update_is }; known = λ before. update_known before (codes "UPDATE orders SET quantity = 3 WHERE id = 10"); taken = update_taken }
statement_by false false false = record { class = _; statement = _; says = record { raw = _; ended = refl; said = delete_is }; known = λ before. delete_known before (codes "DELETE FROM orders WHERE id IN (1, 2, 3)"); taken = delete_taken }

pub says_statement : (a : ℕ) → SaysStatement (statement_line a)
unfolding statement_line
says_statement a = statement_by (a == 0) (a == 1) (a == 2)

binlog_is : form (codes "start wait/io/file/sql/binlog") ≡ Ok (lines.Wait (codes "wait/io/file/sql/binlog"))
unfolding form is_silent words_form word_of rest_of long_form start_form start_class kind_of
binlog_is = refl

data_is : form (codes "start wait/io/file/innodb/innodb_data_file") ≡ Ok (lines.Wait (codes "wait/io/file/innodb/innodb_data_file"))
unfolding form is_silent words_form word_of rest_of long_form start_form start_class kind_of
data_is = refl

log_is : form (codes "start wait/io/file/innodb/innodb_log_file") ≡ Ok (lines.Wait (codes "wait/io/file/innodb/innodb_log_file"))
unfolding form is_silent words_form word_of rest_of long_form start_form start_class kind_of
log_is = refl

binlog_known : (before : List Form) → is_unknown before (lines.Wait (codes "wait/io/file/sql/binlog")) ≡ false
unfolding is_known is_builtin
binlog_known before = refl

data_known : (before : List Form) → is_unknown before (lines.Wait (codes "wait/io/file/innodb/innodb_data_file")) ≡ false
unfolding is_known is_builtin
data_known before = refl

log_known : (before : List Form) → is_unknown before (lines.Wait (codes "wait/io/file/innodb/innodb_log_file")) ≡ false
unfolding is_known is_builtin
log_known before = refl

wait_by : (first second : Bool) → SaysWait (cond first (codes "start wait/io/file/sql/binlog\n") (cond second (codes "start wait/io/file/innodb/innodb_data_file\n") (codes "start wait/io/file/innodb/innodb_log_file\n")))
wait_by true second = record { class = _; says = record { raw = _; ended = refl; said = binlog_is }; known = binlog_known }
wait_by false true = record { class = _; says = record { raw = _; ended = refl; said = data_is }; known = data_known }
wait_by false false = record { class = _; says = record { raw = _; ended = refl; said = log_is }; known = log_known }

pub says_wait : (c : ℕ) → SaysWait (wait_line c)
unfolding wait_line
says_wait c = wait_by (c == 0) (c == 1)

pub says_end : Says (codes "end\n") lines.End
unfolding form is_silent words_form word_of rest_of bare_form
says_end = record { raw = codes "end"; ended = refl; said = refl }

pub says_phase : Says (codes "phase\n") lines.Phase
unfolding form is_silent words_form word_of rest_of bare_form
says_phase = record { raw = codes "phase"; ended = refl; said = refl }

-- decimal numbers

push_clean : (ds : List ℕ) (digit : ℕ) → list_all is_script_byte ds ≡ true → digit < 10 → list_all is_script_byte (ds ++ (48 + digit) ∷ []) ≡ true
push_clean [] digit h d = grind (arith, nat_tests, d)
push_clean (byte ∷ ds) digit h d =
    let parts = and_parts (is_script_byte byte) (list_all is_script_byte ds) h in
    and_from (is_script_byte byte) (list_all is_script_byte (ds ++ (48 + digit) ∷ [])) parts.0 (push_clean ds digit parts.1 d)

decimal_clean : (n : ℕ) → n < 2 ^ 64 → list_all is_script_byte (decimal n) ≡ true
decimal_clean n h = decimal_by_steps (λ n ds. list_all is_script_byte ds ≡ true) (λ n low. push_clean [] n refl low) (λ n ds high clean. push_clean ds (n % 10) clean (omega arith)) n h

digits_test : (ds : List ℕ) → AllDigits 10 ds → list_all is_digit ds ≡ true
digits_test [] h = refl
digits_test (byte ∷ ds) h = and_from (is_digit byte) (list_all is_digit ds) (grind (arith, nat_tests, h.0)) (digits_test ds h.1)

numeral_by : (ds : List ℕ) (n : ℕ) → IsNumeral 10 ds → digits_value 10 ds ≡ n → n < 2 ^ 64 → number_of ds ≡ Some (Some n)
unfolding number_of is_numeral
numeral_by ds n is value low =
    let some : nat_lt 0 (length ds) ≡ true = grind (arith, nat_tests, is.0) in
    let small : nat_lt n 18446744073709551616 ≡ true = grind (arith, nat_tests, low) in
    rw (some, digits_test ds is.1, value, small) refl

number_is : (n : ℕ) → n < 2 ^ 64 → number_of (decimal n) ≡ Some (Some n)
number_is n low = let is = decimal_is_IsNumeral n low in numeral_by (decimal n) n is.0 is.1 low

spoken : (ds : List ℕ) → is_silent (codes "spend " ++ ds) ≡ false
unfolding is_silent
spoken ds = grind (arith, nat_tests)

rest_spend : (ds : List ℕ) → rest_of (codes "spend " ++ ds) ≡ Some ds
unfolding rest_of
rest_spend ds = ap (option_map (λ at. drop (at + 1) (codes "spend " ++ ds))) (position_from-zero is_space (codes "spend " ++ ds))

spend_is : (ds : List ℕ) (n : ℕ) → list_all is_script_byte ds ≡ true → number_of ds ≡ Some (Some n) → form (codes "spend " ++ ds) ≡ Ok (lines.Spend (Some n))
unfolding form words_form word_of long_form block_form spend_form
spend_is ds n clean number = rw (spoken ds, clean, rest_spend ds, number) refl

pub says_spend : (n : ℕ) → n < 2 ^ 64 → Says (spend_line n) (lines.Spend (Some n))
unfolding spend_line
says_spend n low = record {
  raw = codes "spend " ++ decimal n;
  ended = refl;
  said = spend_is (decimal n) n (decimal_clean n low) (number_is n low);
}

-- a session that connects, by names of its own
pub record SaysConnect (text : List ℕ) (number : ℕ) : Type 0 where
  pub user : List ℕ
  pub host : List ℕ
  pub says : Says text (lines.Connect (Some number) user host)

connect_one : form (codes "session 1 u1 h1") ≡ Ok (lines.Connect (Some 1) (codes "u1") (codes "h1"))
unfolding form is_silent words_form word_of rest_of long_form session_form number_of is_numeral connect_form is_name
connect_one = refl

connect_two : form (codes "session 2 u2 h0") ≡ Ok (lines.Connect (Some 2) (codes "u2") (codes "h0"))
unfolding form is_silent words_form word_of rest_of long_form session_form number_of is_numeral connect_form is_name
connect_two = refl

connect_three : form (codes "session 3 u3 h1") ≡ Ok (lines.Connect (Some 3) (codes "u3") (codes "h1"))
unfolding form is_silent words_form word_of rest_of long_form session_form number_of is_numeral connect_form is_name
connect_three = refl

connect_four : form (codes "session 4 u0 h0") ≡ Ok (lines.Connect (Some 4) (codes "u0") (codes "h0"))
unfolding form is_silent words_form word_of rest_of long_form session_form number_of is_numeral connect_form is_name
connect_four = refl

connect_five : form (codes "session 5 u1 h1") ≡ Ok (lines.Connect (Some 5) (codes "u1") (codes "h1"))
unfolding form is_silent words_form word_of rest_of long_form session_form number_of is_numeral connect_form is_name
connect_five = refl

connect_six : form (codes "session 6 u2 h0") ≡ Ok (lines.Connect (Some 6) (codes "u2") (codes "h0"))
unfolding form is_silent words_form word_of rest_of long_form session_form number_of is_numeral connect_form is_name
connect_six = refl

connect_seven : form (codes "session 7 u3 h1") ≡ Ok (lines.Connect (Some 7) (codes "u3") (codes "h1"))
unfolding form is_silent words_form word_of rest_of long_form session_form number_of is_numeral connect_form is_name
connect_seven = refl

connect_eight : form (codes "session 8 u0 h0") ≡ Ok (lines.Connect (Some 8) (codes "u0") (codes "h0"))
unfolding form is_silent words_form word_of rest_of long_form session_form number_of is_numeral connect_form is_name
connect_eight = refl

pub says_connect : (number : ℕ) → 1 ≤ number → number ≤ 8 → SaysConnect (connect_line number) number
unfolding connect_line
says_connect zero low high = absurd (omega arith)
says_connect (suc zero) low high = record { user = _; host = _; says = record { raw = codes "session 1 u1 h1"; ended = rw (decimal_digit 1 (omega arith)) refl; said = connect_one } }
says_connect (suc (suc zero)) low high = record { user = _; host = _; says = record { raw = codes "session 2 u2 h0"; ended = rw (decimal_digit 2 (omega arith), decimal_digit 0 (omega arith)) refl; said = connect_two } }
says_connect (suc (suc (suc zero))) low high = record { user = _; host = _; says = record { raw = codes "session 3 u3 h1"; ended = rw (decimal_digit 3 (omega arith), decimal_digit 1 (omega arith)) refl; said = connect_three } }
says_connect (suc (suc (suc (suc zero)))) low high = record { user = _; host = _; says = record { raw = codes "session 4 u0 h0"; ended = rw (decimal_digit 4 (omega arith), decimal_digit 0 (omega arith)) refl; said = connect_four } }
says_connect (suc (suc (suc (suc (suc zero))))) low high = record { user = _; host = _; says = record { raw = codes "session 5 u1 h1"; ended = rw (decimal_digit 5 (omega arith), decimal_digit 1 (omega arith)) refl; said = connect_five } }
says_connect (suc (suc (suc (suc (suc (suc zero)))))) low high = record { user = _; host = _; says = record { raw = codes "session 6 u2 h0"; ended = rw (decimal_digit 6 (omega arith), decimal_digit 2 (omega arith), decimal_digit 0 (omega arith)) refl; said = connect_six } }
says_connect (suc (suc (suc (suc (suc (suc (suc zero))))))) low high = record { user = _; host = _; says = record { raw = codes "session 7 u3 h1"; ended = rw (decimal_digit 7 (omega arith), decimal_digit 3 (omega arith), decimal_digit 1 (omega arith)) refl; said = connect_seven } }
says_connect (suc (suc (suc (suc (suc (suc (suc (suc zero)))))))) low high = record { user = _; host = _; says = record { raw = codes "session 8 u0 h0"; ended = rw (decimal_digit 8 (omega arith), decimal_digit 0 (omega arith)) refl; said = connect_eight } }
says_connect (suc (suc (suc (suc (suc (suc (suc (suc (suc more))))))))) low high = absurd (omega arith)

pub says_session : (number : ℕ) → 1 ≤ number → number ≤ 8 → Says (session_line number) (lines.Resume (Some number))
unfolding session_line form is_silent words_form word_of rest_of long_form session_form number_of is_numeral
says_session zero low high = absurd (omega arith)
says_session (suc zero) low high = record { raw = codes "session 1"; ended = rw (decimal_digit 1 (omega arith)) refl; said = refl }
says_session (suc (suc zero)) low high = record { raw = codes "session 2"; ended = rw (decimal_digit 2 (omega arith)) refl; said = refl }
says_session (suc (suc (suc zero))) low high = record { raw = codes "session 3"; ended = rw (decimal_digit 3 (omega arith)) refl; said = refl }
says_session (suc (suc (suc (suc zero)))) low high = record { raw = codes "session 4"; ended = rw (decimal_digit 4 (omega arith)) refl; said = refl }
says_session (suc (suc (suc (suc (suc zero))))) low high = record { raw = codes "session 5"; ended = rw (decimal_digit 5 (omega arith)) refl; said = refl }
says_session (suc (suc (suc (suc (suc (suc zero)))))) low high = record { raw = codes "session 6"; ended = rw (decimal_digit 6 (omega arith)) refl; said = refl }
says_session (suc (suc (suc (suc (suc (suc (suc zero))))))) low high = record { raw = codes "session 7"; ended = rw (decimal_digit 7 (omega arith)) refl; said = refl }
says_session (suc (suc (suc (suc (suc (suc (suc (suc zero)))))))) low high = record { raw = codes "session 8"; ended = rw (decimal_digit 8 (omega arith)) refl; said = refl }
says_session (suc (suc (suc (suc (suc (suc (suc (suc (suc more))))))))) low high = absurd (omega arith)
