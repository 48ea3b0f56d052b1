-- A statement has a digest text exactly where the lexer doesn't refuse it.
use Rattle.std.proofs.Common.{ℕ, ◌≡◌, Bool, true, false, not, List, [], ◌∷◌, Option, Some, None, Result, Ok, Err, refl, sym, ap, ◌∙◌}
use Rattle.std.specs.Prelude.{is_none, is_some}
use Rattle.std.specs.List.{list_any}
use Rattle.std.specs.Result.{result_ok}
use Rattle.pfs_lexer.specs.declared.tokens.LexFault.{LexFault}
use Rattle.pfs_lexer.specs.declared.tokens.Token.{Token}
use Rattle.pfs_lexer.specs.TextItems.{items_of}
use Rattle.pfs_digest.specs.Digest.{before, tokens_of, text_of, digest_text_of}
use Rattle.pfs_script.specs.declared.forms.Form.{Form}
use Rattle.pfs_script.specs.declared.forms.Form.TheVariants as form
use Rattle.pfs_script.specs.Finds.{is_fault, is_refused, shown_of}
use Rattle.pfs_script.specs.Reasons.{is_bad_statement}

before_none : (token : Token) (tokens : Result (List Token) LexFault) → is_none (result_ok tokens) ≡ is_none (result_ok (before token tokens))
before_none token (Ok tokens) = refl
before_none token (Err fault) = refl

tokens_none : (items : List (Result Token LexFault)) → list_any is_fault items ≡ is_none (result_ok (tokens_of items))
unfolding tokens_of
tokens_none [] = refl
tokens_none (Ok token ∷ items) = tokens_none items ∙ before_none token (tokens_of items)
tokens_none (Err fault ∷ items) = refl

text_none : (text : List ℕ) (tokens : Result (List Token) LexFault) → is_none (result_ok tokens) ≡ is_none (result_ok (text_of text tokens))
text_none text (Ok tokens) = refl
text_none text (Err fault) = refl

pub refused_is : (text : List ℕ) → is_refused text ≡ is_none (result_ok (digest_text_of text))
unfolding digest_text_of
refused_is text = tokens_none (items_of text) ∙ text_none text (tokens_of (items_of text))

none_by : (none : Bool) (shown : Option (List ℕ)) → is_some shown ≡ not none → none ≡ is_none shown
none_by true None e = refl
none_by true (Some one) e = cc
none_by false None e = cc
none_by false (Some one) e = refl

-- so a statement is bad exactly where it has no digest text
pub bad_is : (line : Form) (class text : List ℕ) (shown : Option (List ℕ)) (none : Bool) → line ≡ form.Statement class text → shown ≡ shown_of line → is_some shown ≡ not none → none ≡ is_bad_statement line
bad_is line class text shown none is e h = none_by none shown h ∙ (ap (λ (one : Option (List ℕ)). is_none one) e ∙ rw is (sym (refused_is text)))
