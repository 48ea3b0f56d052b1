-- Worked texts, by computation.
use Rattle.std.proofs.Common.{◌≡◌, ◌∙◌, List, [], ◌∷◌, Result, Ok, Err, refl}
use Rattle.std.specs.Prelude.{codes}
use Rattle.pfs_lexer.specs.declared.tokens.TokenKind.TheVariants.{String, Number, Word, Operator}
use Rattle.pfs_lexer.specs.declared.tokens.Token.{Token}
use Rattle.pfs_lexer.specs.declared.tokens.LexFault.{LexFault}
use Rattle.pfs_lexer.specs.declared.tokens.LexFault.TheVariants as faults
use Rattle.pfs_lexer.specs.Comments.{comment_len}
use Rattle.pfs_lexer.specs.QuotePairs.{quoted_len}
use Rattle.pfs_lexer.specs.Numbers.{fraction_len, sign_len, exponent_len, decimal_len, hex_len}
use Rattle.pfs_lexer.specs.Operators.{operator_len}
use Rattle.pfs_lexer.specs.Fronts.{token_of, front_of}
use Rattle.pfs_lexer.specs.TextItems.{token_at, items_from, items_of}
use Rattle.pfs_lexer.specs.Accounts.{Accounts}
use Rattle.pfs_lexer.proofs.UniqueItems.{one_reading}

-- the longest operator stands there
pub longest_operator : items_of (codes "a<=>1") ≡ Ok (token_at Word 0 1) ∷ Ok (token_at Operator 1 3) ∷ Ok (token_at Number 4 1) ∷ []
unfolding items_from front_of token_of operator_len hex_len decimal_len fraction_len exponent_len sign_len
longest_operator = refl

-- `--` with a letter behind it begins no comment
pub no_comment : items_of (codes "--a") ≡ Ok (token_at Operator 0 1) ∷ Ok (token_at Operator 1 1) ∷ Ok (token_at Word 2 1) ∷ []
unfolding items_from front_of token_of operator_len
no_comment = refl

-- a string doesn't end at a doubled quote, nor at the end of the text
pub open_string : items_of (codes "b 'a''") ≡ Ok (token_at Word 0 1) ∷ Err (faults.OpenString 2) ∷ []
unfolding items_from front_of token_of quoted_len
open_string = refl

-- a `/` that is part of `/*` doesn't end the comment
pub open_comment : items_of (codes "/*/") ≡ Err (faults.OpenComment 0) ∷ []
unfolding items_from front_of comment_len
open_comment = refl

-- three readings that nothing accounts for: a comment that the text ends with, read as operators
abbrev dashes : List (Result Token LexFault)
dashes = Ok (token_at Operator 0 1) ∷ Ok (token_at Operator 1 1) ∷ []

no_token : items_of (codes "--") ≡ []
unfolding items_from front_of
no_token = refl

pub no_dashes : ¬ Accounts 0 (codes "--") dashes
no_dashes accounts = let clash : dashes ≡ [] = one_reading (codes "--") dashes accounts ∙ no_token in cc

-- a comment, read as operators and a word
abbrev stars : List (Result Token LexFault)
stars = Ok (token_at Operator 0 1) ∷ Ok (token_at Operator 1 1) ∷ Ok (token_at Word 3 1) ∷ Ok (token_at Operator 5 1) ∷ Ok (token_at Operator 6 1) ∷ []

comment_alone : items_of (codes "/* a */") ≡ []
unfolding items_from front_of comment_len
comment_alone = refl

pub no_stars : ¬ Accounts 0 (codes "/* a */") stars
no_stars accounts = let clash : stars ≡ [] = one_reading (codes "/* a */") stars accounts ∙ comment_alone in cc

-- a string that goes on with its doubled quote, read as a string and an open one
abbrev halves : List (Result Token LexFault)
halves = Ok (token_at String 0 5) ∷ Err (faults.OpenString 5) ∷ []

open_alone : items_of (codes "'abc''") ≡ Err (faults.OpenString 0) ∷ []
unfolding items_from front_of token_of quoted_len
open_alone = refl

pub no_halves : ¬ Accounts 0 (codes "'abc''") halves
no_halves accounts = let clash : halves ≡ Err (faults.OpenString 0) ∷ [] = one_reading (codes "'abc''") halves accounts ∙ open_alone in cc
