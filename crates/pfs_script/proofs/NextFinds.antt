-- The tables and digest texts with one line more.
use Rattle.std.proofs.Common.{ℕ, ◌≡◌, ◌≤◌, ◌<◌, ◌+◌, Bool, true, false, ◌&&◌, cond, nat_lt, List, [], ◌∷◌, ◌++◌, length, Result, Ok, Err, refl, sym, ap, ◌∙◌, arith}
use Rattle.std.specs.Prelude.{fold, is_some, position}
use Rattle.std.specs.List.{list_all}
use Rattle.std.proofs.lemmas.Bool.{and_parts, le-ltb, ltb-false}
use Rattle.std.proofs.lemmas.Bool.Decides.{nat_tests}
use Rattle.std.proofs.lemmas.List.Sums.{fold_push}
use Rattle.pfs_lexer.specs.declared.tokens.LexFault.{LexFault}
use Rattle.pfs_digest.specs.Digest.{digest_text_of}
use Rattle.pfs_classes.specs.declared.setting.Setting.{Setting}
use Rattle.pfs_classes.specs.declared.setting.TableName.{TableName}
use Rattle.pfs_classes.specs.declared.setting.DigestText.{DigestText}
use Rattle.pfs_script.specs.declared.finds.Finds.{Finds}
use Rattle.pfs_script.specs.declared.forms.Form.{Form}
use Rattle.pfs_script.specs.declared.forms.Form.TheVariants as form
use Rattle.pfs_rows.specs.declared.limits.Limits.{Limits}
use Rattle.pfs_script.specs.Headings.{Head, head_of, limits_behind, limits_of, is_before_limits, StandsIn}
use Rattle.pfs_script.specs.Finds.{has_text, of_text, add_digest, with_digest, with_table, tables_of, digests_of}
use Rattle.pfs_script.specs.declared.drafts.Owner.{Owner}
use Rattle.pfs_script.specs.Drafts.{with_owner}
use Rattle.pfs_script.specs.SessionNames.{names_of, head_named}
use Rattle.pfs_script.specs.Scripts.{IsSetting}
use Rattle.pfs_script.specs.Reasons.{is_table_too_many}
use Rattle.pfs_script.specs.ReaderState.{KnowsFinds}
use Rattle.pfs_script.specs.ReaderAnswers.{AreOwners}
use Rattle.pfs_script.proofs.HeadPasses.{limits_push}

pub tables_push : (before : List Form) (line : Form) → tables_of (before ++ line ∷ []) ≡ with_table (tables_of before) line
unfolding tables_of
tables_push before line = fold_push with_table [] before line

pub digests_push : (most : ℕ) (before : List Form) (line : Form) → digests_of most (before ++ line ∷ []) ≡ with_digest most (digests_of most before) line
unfolding digests_of
digests_push most before line = fold_push (with_digest most) [] before line

-- silent lines and limits bring in no text
quiet_step : (most : ℕ) (digests : List DigestText) (line : Form) → is_before_limits line ≡ true → with_digest most digests line ≡ digests
quiet_step most digests (form.Statement class text) q = cc
quiet_step most digests _ q = refl

quiet_fold : (most : ℕ) (digests : List DigestText) (lines : List Form) → list_all is_before_limits lines ≡ true → fold (with_digest most) digests lines ≡ digests
quiet_fold most digests [] q = refl
quiet_fold most digests (line ∷ lines) q =
    let both = and_parts (is_before_limits line) (list_all is_before_limits lines) q in
    ap (λ (one : List DigestText). fold (with_digest most) one lines) (quiet_step most digests line both.0) ∙ quiet_fold most digests lines both.1

quiet : (most : ℕ) (lines : List Form) → list_all is_before_limits lines ≡ true → digests_of most lines ≡ []
unfolding digests_of
quiet most lines q = quiet_fold most [] lines q

same_limits : (before : List Form) (line : Form) → limits_behind (limits_of before) line ≡ limits_of before → limits_of (before ++ line ∷ []) ≡ limits_of before
same_limits before line e = limits_push before line ∙ e

digests_more : (before : List Form) (line : Form) (digests after : List DigestText) → StandsIn before line → digests ≡ digests_of (limits_of before).digests before
    → after ≡ with_digest (limits_of before).digests digests line → after ≡ digests_of (limits_of (before ++ line ∷ [])).digests (before ++ line ∷ [])
digests_more before (form.Limit name value) digests after stands k a =
    let most = (limits_of (before ++ form.Limit name value ∷ [])).digests in
    a ∙ (k ∙ (quiet (limits_of before).digests before stands ∙ sym (digests_push most before (form.Limit name value) ∙ quiet most before stands)))
digests_more before line digests after stands k a =
    a ∙ (ap (λ (all : List DigestText). with_digest (limits_of before).digests all line) k
    ∙ (sym (digests_push (limits_of before).digests before line) ∙ ap (λ (limits : Limits). digests_of limits.digests (before ++ line ∷ [])) (sym (same_limits before line refl))))

pub head_limits : (lines : List Form) → (head_of lines).limits ≡ limits_of lines
unfolding head_of
head_limits lines = refl

pub finds_more : (finds after : Finds) (before : List Form) (line : Form) → KnowsFinds finds before → StandsIn before line → is_table_too_many before line ≡ false
    → (most : ℕ) → most ≡ (head_of before).limits.digests → after.tables ≡ with_table finds.tables line → after.digests ≡ with_digest most finds.digests line → KnowsFinds after (before ++ line ∷ [])
finds_more finds after before line k stands few most m t d =
    let tables : after.tables ≡ tables_of (before ++ line ∷ []) = t ∙ (ap (λ (all : List TableName). with_table all line) k.tables ∙ sym (tables_push before line)) in
    record {
      tables = tables;
      few_tables = rw tables (ltb-false 64 _ few);
      digests = digests_more before line finds.digests after.digests stands k.digests (d ∙ ap (λ n. with_digest n finds.digests line) (m ∙ ap (λ (limits : Limits). limits.digests) (head_limits before)));
    }

none_tables : tables_of [] ≡ []
unfolding tables_of
none_tables = refl

none_digests : (most : ℕ) → digests_of most [] ≡ []
unfolding digests_of
none_digests most = refl

pub none_finds : (finds : Finds) → finds.tables ≡ [] → finds.digests ≡ [] → KnowsFinds finds []
none_finds finds t d = record {
  tables = t ∙ sym none_tables;
  few_tables = rw t (omega arith);
  digests = d ∙ sym (none_digests (limits_of []).digests);
}

-- there are no more digest texts than the limit lets there be

push_length : (digests : List DigestText) (one : DigestText) → length (digests ++ one ∷ []) ≡ length digests + 1
push_length [] one = refl
push_length (first ∷ digests) one = omega (arith, push_length digests one)

few_by : (most : ℕ) (digests : List DigestText) (one : DigestText) (found room : Bool) → nat_lt (length digests) most ≡ room → length digests ≤ most → length (cond found digests (cond room (digests ++ one ∷ []) digests)) ≤ most
few_by most digests one true room e few = few
few_by most digests one false true e few = let low : length digests < most = grind (arith, nat_tests, e) in omega (arith, low, push_length digests one)
few_by most digests one false false e few = few

few_added : (most : ℕ) (digests : List DigestText) (shown : Result (List ℕ) LexFault) → length digests ≤ most → length (add_digest most digests shown) ≤ most
few_added most digests (Ok shown) few = few_by most digests (of_text shown) (is_some (position (has_text shown) digests)) (nat_lt (length digests) most) refl few
few_added most digests (Err fault) few = few

few_step : (most : ℕ) (digests : List DigestText) (line : Form) → length digests ≤ most → length (with_digest most digests line) ≤ most
few_step most digests (form.Statement class text) few = few_added most digests (digest_text_of text) few
few_step most digests _ few = few

few_fold : (most : ℕ) (digests : List DigestText) (lines : List Form) → length digests ≤ most → length (fold (with_digest most) digests lines) ≤ most
few_fold most digests [] few = few
few_fold most digests (line ∷ lines) few = few_fold most (with_digest most digests line) lines (few_step most digests line few)

pub few_digests : (most : ℕ) (lines : List Form) → length (digests_of most lines) ≤ most
unfolding digests_of
few_digests most lines = few_fold most [] lines (omega arith)

-- whether a table is one too many, by what the reader has found
pub too_many_of : (finds : Finds) (before : List Form) (line : Form) (result : Bool) → KnowsFinds finds before
    → (nat_lt 64 (length finds.tables) ≡ false → result ≡ nat_lt 64 (length (with_table finds.tables line))) → result ≡ is_table_too_many before line
too_many_of finds before line result k told =
    told (le-ltb 64 (length finds.tables) k.few_tables)
    ∙ (ap (λ (tables : List TableName). nat_lt 64 (length (with_table tables line))) k.tables
    ∙ ap (λ (tables : List TableName). nat_lt 64 (length tables)) (sym (tables_push before line)))

-- what was found has few enough digest texts for a setting
pub few_found : (head : Head) (finds : Finds) (lines : List Form) → head ≡ head_of lines → KnowsFinds finds lines → length finds.digests ≤ head.limits.digests
few_found head finds lines h k =
    let most : head.limits.digests ≡ (limits_of lines).digests = ap (λ (one : Head). one.limits.digests) h ∙ ap (λ (limits : Limits). limits.digests) (head_limits lines) in
    let found : length finds.digests ≡ length (digests_of (limits_of lines).digests lines) = ap (λ (digests : List DigestText). length digests) k.digests in
    omega (arith, most, found, few_digests (limits_of lines).digests lines)

-- interning leaves the limit of digest texts
pub few_named : (head named : Head) (finds : Finds) (lines : List Form) (names : List (List ℕ)) → head ≡ head_of lines → KnowsFinds finds lines → named ≡ head_named head names → length finds.digests ≤ named.limits.digests
few_named head named finds lines names h k n =
    let few = few_found head finds lines h k in
    let same : named.limits.digests ≡ head.limits.digests = ap (λ (one : Head). one.limits.digests) n in
    omega arith

-- the names behind those of classes are those of the owners
pub names_as : (head : Head) (lines : List Form) (owners : List Owner) → head ≡ head_of lines → AreOwners owners lines → fold with_owner head.names owners ≡ names_of lines
unfolding names_of
names_as head lines owners h o = ap (λ (one : Head). fold with_owner one.names owners) h ∙ o (head_of lines).names

-- the setting of what was found, with the names of users and hosts behind those of classes
pub setting_as : (head named : Head) (finds : Finds) (lines : List Form) (owners : List Owner) (setting : Setting) → head ≡ head_of lines → KnowsFinds finds lines → named ≡ head_named head (fold with_owner head.names owners) → AreOwners owners lines
    → setting.names ≡ named.names → setting.classes ≡ named.classes → setting.tables ≡ finds.tables → setting.digests ≡ finds.digests → setting.limits ≡ named.limits → setting.consumers ≡ named.consumers → IsSetting lines setting
setting_as head named finds lines owners setting h k n o names classes tables digests limits consumers = record {
  names = names ∙ (ap (λ (one : Head). one.names) n ∙ names_as head lines owners h o);
  classes = classes ∙ (ap (λ (one : Head). one.classes) n ∙ ap (λ (one : Head). one.classes) h);
  tables = tables ∙ k.tables;
  digests = digests ∙ k.digests;
  limits = limits ∙ (ap (λ (one : Head). one.limits) n ∙ ap (λ (one : Head). one.limits) h);
  consumers = consumers ∙ (ap (λ (one : Head). one.consumers) n ∙ ap (λ (one : Head). one.consumers) h);
}
