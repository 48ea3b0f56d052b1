-- A line's text says one thing alone.
use Rattle.std.proofs.Common.{ℕ, ◌≡◌, true, eqb, List, [], ◌∷◌, ◌++◌, length, drop, Option, Some, None, Ok, append_assoc, sym, ap, subst, ◌∙◌, refl}
use Rattle.std.specs.Prelude.{codes, decimal, not}
use Rattle.std.specs.List.{All, flat_map}
use Rattle.std.specs.Str.Parse.{IsNumeral, digits_value}
use Rattle.std.proofs.lemmas.Fmt.{decimal_is_IsNumeral}
use Rattle.std.proofs.lemmas.List.Elements.{All-head, All-tail, All-nil, All-cons}
use Rattle.pfs_text.specs.QuotedTexts.{quoted}
use Rattle.pfs_text.proofs.QuoteLaws.{quotes_are_exact}
use Rattle.pfs_event.specs.declared.entry.Entry.{Entry}
use Rattle.pfs_event.specs.declared.entry.Entry.TheVariants as entry
use Rattle.pfs_event.specs.declared.verdict.Verdict.{Verdict}
use Rattle.pfs_event.specs.Verdicts.{verdict_name}
use Rattle.pfs_text.specs.declared.values.RowValue.{RowValue}
use Rattle.pfs_text.specs.declared.values.RowValue.TheVariants as value
use Rattle.pfs_journal.specs.declared.line.Line.{Line}
use Rattle.pfs_journal.specs.declared.line.Line.TheVariants as says
use Rattle.pfs_journal.specs.declared.values.LostReport.{LostReport}
use Rattle.pfs_journal.specs.SingleLines.{line_text, IsGoodLine}
use Rattle.pfs_journal.specs.Reports.{IsName}
use Rattle.pfs_journal.specs.Spelling.{field_text, optional_text, value_text}
use Rattle.pfs_journal.specs.LineWords.{front_word, behind_word, IsBehind, Leads, Fits, FitsField, FitsValue, optional_word, verdict_of, entry_word, entry_numbers, entry_rest, line_word, line_rest, plain_says}
use Rattle.pfs_journal.proofs.WordReadings.{word_front, entry_says, dash_no_numeral, field_leads, field_some, fields_behind, name_leads, verdict_told, verdict_leads, clean_told, number_clean}
use Rattle.pfs_journal.proofs.ValueReadings.{behind_plain, plain_only, text_rest, null_no_number, value_some}
use Rattle.pfs_journal.proofs.Guesses.{IsPlain, apart, row_told, table_told, lost_told, start_told, plain_told, line_clean}
use Rattle.pfs_journal.proofs.LastLines.{no_feed}
use Rattle.pfs_journal.proofs.LineFeeds.{feedless}
use Rattle.std.proofs.lemmas.Bool.{false≢true, and_parts}
use Rattle.pfs_journal.proofs.LineReadings.{values_behind, line_behind, line_is}

-- a word and what stands behind it are told from the text
lead_told : (word behind w b bytes : List ℕ) → Leads word behind bytes → Leads w b bytes → (word ≡ w) × (behind ≡ b)
lead_told word behind w b bytes x y =
    let here : word ++ behind ≡ w ++ b = ap (drop 1) (sym x.text ∙ y.text) in
    let one = word_front word behind x.clean x.stops in
    let two = word_front w b y.clean y.stops in
    (sym one.0 ∙ (ap front_word here ∙ two.0), sym one.1 ∙ (ap behind_word here ∙ two.1))

number_of : (m n : Option ℕ) → FitsField m → FitsField n → optional_word m ≡ optional_word n → m ≡ n
number_of None None p q e = refl
number_of None (Some n) p q e = absurd (dash_no_numeral (subst (λ (w : List ℕ). IsNumeral 10 w) (sym e) (decimal_is_IsNumeral n q).0))
number_of (Some m) None p q e = absurd (dash_no_numeral (subst (λ (w : List ℕ). IsNumeral 10 w) e (decimal_is_IsNumeral m p).0))
number_of (Some m) (Some n) p q e = ap Some (sym (decimal_is_IsNumeral m p).1 ∙ (ap (digits_value 10) e ∙ (decimal_is_IsNumeral n q).1))

-- numbers behind a word are told from the text
numbers_told : (ms ns : List (Option ℕ)) → All FitsField ms → All FitsField ns → flat_map optional_text ms ≡ flat_map optional_text ns → ms ≡ ns
numbers_told [] [] p q e = refl
numbers_told [] (n ∷ ns) p q e = absurd (field_some n (flat_map optional_text ns) (sym e))
numbers_told (m ∷ ms) [] p q e = absurd (field_some m (flat_map optional_text ms) e)
numbers_told (m ∷ ms) (n ∷ ns) p q e =
    let bytes = flat_map optional_text (n ∷ ns) in
    let x = field_leads bytes m (flat_map optional_text ms) (All-head FitsField m ms p) (fields_behind ms) (sym e) in
    let y = field_leads bytes n (flat_map optional_text ns) (All-head FitsField n ns q) (fields_behind ns) refl in
    let told = lead_told (optional_word m) (flat_map optional_text ms) (optional_word n) (flat_map optional_text ns) bytes x y in
    let first = number_of m n (All-head FitsField m ms p) (All-head FitsField n ns q) told.0 in
    let more = numbers_told ms ns (All-tail FitsField m ms p) (All-tail FitsField n ns q) told.1 in
    ap (λ (k : Option ℕ). k ∷ ms) first ∙ ap (λ (ks : List (Option ℕ)). n ∷ ks) more

null_leads : (behind : List ℕ) → IsBehind behind → Leads (codes "NULL") behind (value_text value.Null ++ behind)
unfolding value_text
null_leads behind stops = record { clean = clean_told (codes "NULL") refl; stops = stops; text = refl }

number_leads : (n : ℕ) (behind : List ℕ) → Fits n → IsBehind behind → Leads (decimal n) behind (value_text (value.Number n) ++ behind)
unfolding value_text field_text
number_leads n behind fits stops = record { clean = number_clean n fits; stops = stops; text = refl }

null_numeral : (n : ℕ) → Fits n → ¬ (codes "NULL" ≡ decimal n)
null_numeral n fits e = null_no_number (codes "NULL") n fits refl e

text_leads : (text behind : List ℕ) → value_text (value.Text text) ++ behind ≡ 32 ∷ (quoted text ++ behind)
unfolding value_text
text_leads text behind = refl

text_told : (text : List ℕ) (w : RowValue) (b d : List ℕ) → FitsValue w → IsBehind b → IsBehind d → value_text (value.Text text) ++ b ≡ value_text w ++ d → (value.Text text ≡ w) × (b ≡ d)
text_told text w b d fits one two e =
    let bytes = quoted text ++ b in
    let here : 32 ∷ bytes ≡ value_text w ++ d = sym (text_leads text b) ∙ e in
    let found = plain_only w bytes d (length (quoted text)) fits here (text, b, refl, refl, behind_plain b one) in
    let rest = text_rest bytes found.0 d (here ∙ ap (λ (v : RowValue). value_text v ++ d) found.1) in
    let same = quotes_are_exact.one_text text found.0 b d (behind_plain b one) (behind_plain d two) rest in
    (ap value.Text same.0 ∙ sym found.1, same.1)

-- a value and what stands behind it are told from the text
value_told : (v w : RowValue) (b d : List ℕ) → FitsValue v → FitsValue w → IsBehind b → IsBehind d → value_text v ++ b ≡ value_text w ++ d → (v ≡ w) × (b ≡ d)
value_told (value.Text text) w b d p q one two e = text_told text w b d q one two e
value_told v (value.Text text) b d p q one two e = let told = text_told text v d b p two one (sym e) in (sym told.0, sym told.1)
value_told value.Null value.Null b d p q one two e =
    let told = lead_told (codes "NULL") b (codes "NULL") d (value_text value.Null ++ d) (subst (λ (z : List ℕ). Leads (codes "NULL") b z) e (null_leads b one)) (null_leads d two) in
    (refl, told.1)
value_told value.Null (value.Number n) b d p q one two e =
    let told = lead_told (codes "NULL") b (decimal n) d (value_text (value.Number n) ++ d) (subst (λ (z : List ℕ). Leads (codes "NULL") b z) e (null_leads b one)) (number_leads n d q two) in
    absurd (null_numeral n q told.0)
value_told (value.Number m) value.Null b d p q one two e =
    let told = lead_told (decimal m) b (codes "NULL") d (value_text value.Null ++ d) (subst (λ (z : List ℕ). Leads (decimal m) b z) e (number_leads m b p one)) (null_leads d two) in
    absurd (null_numeral m p (sym told.0))
value_told (value.Number m) (value.Number n) b d p q one two e =
    let told = lead_told (decimal m) b (decimal n) d (value_text (value.Number n) ++ d) (subst (λ (z : List ℕ). Leads (decimal m) b z) e (number_leads m b p one)) (number_leads n d q two) in
    let same : Some m ≡ Some n = number_of (Some m) (Some n) p q told.0 in
    let is : m ≡ n = cc same in
    (ap value.Number is, told.1)

values_told : (vs ws : List RowValue) → All FitsValue vs → All FitsValue ws → flat_map value_text vs ≡ flat_map value_text ws → vs ≡ ws
values_told [] [] p q e = refl
values_told [] (w ∷ ws) p q e = absurd (value_some w (flat_map value_text ws) (sym e))
values_told (v ∷ vs) [] p q e = absurd (value_some v (flat_map value_text vs) e)
values_told (v ∷ vs) (w ∷ ws) p q e =
    let told = value_told v w (flat_map value_text vs) (flat_map value_text ws) (All-head FitsValue v vs p) (All-head FitsValue w ws q) (values_behind vs) (values_behind ws) e in
    let more = values_told vs ws (All-tail FitsValue v vs p) (All-tail FitsValue w ws q) told.1 in
    ap (λ (k : RowValue). k ∷ vs) told.0 ∙ ap (λ (ks : List RowValue). w ∷ ks) more

abbrev the_counter : List ℕ → ℕ → LostReport
the_counter name number = record { name = name; number = number }

one_field : (n : ℕ) → Fits n → All FitsField (Some n ∷ [])
one_field n fits = All-cons FitsField (Some n) [] fits (All-nil FitsField)

counter_told : (l m : LostReport) → IsName l.name → Fits l.number → IsName m.name → Fits m.number → line_rest (says.Lost l) ≡ line_rest (says.Lost m) → l ≡ m
counter_told l m good fits good' fits' e =
    let bytes = line_rest (says.Lost m) in
    let x = name_leads l.name (flat_map optional_text (Some l.number ∷ [])) bytes good (fields_behind (Some l.number ∷ [])) (sym e) in
    let y = name_leads m.name (flat_map optional_text (Some m.number ∷ [])) bytes good' (fields_behind (Some m.number ∷ [])) refl in
    let told = lead_told l.name (flat_map optional_text (Some l.number ∷ [])) m.name (flat_map optional_text (Some m.number ∷ [])) bytes x y in
    let number : l.number ≡ m.number = cc (numbers_told (Some l.number ∷ []) (Some m.number ∷ []) (one_field l.number fits) (one_field m.number fits') told.1) in
    ap (λ (name : List ℕ). the_counter name l.number) told.0 ∙ ap (the_counter m.name) number

abbrev rest_of : Option ℕ → Verdict → List (Option ℕ) → List ℕ
rest_of event v ns = optional_text event ++ ((codes " " ++ verdict_name v) ++ flat_map optional_text ns)

verdict_told_by : (v w : Verdict) → verdict_name v ≡ verdict_name w → v ≡ w
verdict_told_by v w e = let same : Some v ≡ Some w = sym (verdict_told v) ∙ (ap verdict_of e ∙ verdict_told w) in cc same

record SameStart (a b : Option ℕ) (v w : Verdict) (ns ms : List (Option ℕ)) : Type 0 where
  event : a ≡ b
  verdict : v ≡ w
  numbers : ns ≡ ms

begin_told : (event event' : Option ℕ) (v v' : Verdict) (ns ns' : List (Option ℕ)) → FitsField event → FitsField event' → All FitsField ns → All FitsField ns' → rest_of event v ns ≡ rest_of event' v' ns' → SameStart event event' v v' ns ns'
begin_told event event' v v' ns ns' p p' q q' e =
    let bytes = rest_of event' v' ns' in
    let mid = (codes " " ++ verdict_name v) ++ flat_map optional_text ns in
    let mid' = (codes " " ++ verdict_name v') ++ flat_map optional_text ns' in
    let first = lead_told (optional_word event) mid (optional_word event') mid' bytes (field_leads bytes event mid p refl (sym e)) (field_leads bytes event' mid' p' refl refl) in
    let second = lead_told (verdict_name v) (flat_map optional_text ns) (verdict_name v') (flat_map optional_text ns') mid' (verdict_leads v ns mid' (sym first.1)) (verdict_leads v' ns' mid' refl) in
    record { event = number_of event event' p p' first.0; verdict = verdict_told_by v v' second.0; numbers = numbers_told ns ns' q q' second.1 }

-- a start is told from what stands behind its word
start_same : (event event' : Option ℕ) (v v' : Verdict) (p q s t p' q' s' t' : Option ℕ) → All FitsField (event ∷ p ∷ q ∷ s ∷ t ∷ []) → All FitsField (event' ∷ p' ∷ q' ∷ s' ∷ t' ∷ [])
    → entry_rest (entry.Start event v p q s t) ≡ entry_rest (entry.Start event' v' p' q' s' t') → entry.Start event v p q s t ≡ entry.Start event' v' p' q' s' t'
start_same event event' v v' p q s t p' q' s' t' fits fits' e =
    let ns = p ∷ q ∷ s ∷ t ∷ [] in
    let ns' = p' ∷ q' ∷ s' ∷ t' ∷ [] in
    let same = begin_told event event' v v' ns ns' (All-head FitsField event ns fits) (All-head FitsField event' ns' fits') (All-tail FitsField event ns fits) (All-tail FitsField event' ns' fits') e in
    let first = same.event in
    let verdict = same.verdict in
    let numbers = same.numbers in
    cc

-- a line that is told by its word and its numbers
plain_same : (a b : Line) (ns : List (Option ℕ)) → IsPlain (line_word a) → plain_says (line_word a) ns ≡ Some a → line_rest a ≡ flat_map optional_text ns → All FitsField ns → IsGoodLine b → line_word a ≡ line_word b → line_rest a ≡ line_rest b → Some a ≡ Some b
plain_same a b ns plain said rest fits good word same =
    plain_told b (line_word a) (line_rest a) (Some a) word plain good.fits same
    (λ ms fits_ms size is. sym said ∙ ap (plain_says (line_word a)) (numbers_told ns ms fits fits_ms (sym rest ∙ is)))

entry_same : (e : Entry) (b : Line) → All FitsField (entry_numbers e) → IsGoodLine b → entry_word e ≡ line_word b → entry_rest e ≡ line_rest b → Some (says.Entry e) ≡ Some b
entry_same (entry.Start event v p q s t) b fits good word same =
    start_told b (codes "start") (entry_rest (entry.Start event v p q s t)) (Some (says.Entry (entry.Start event v p q s t))) word refl good.fits same
    (λ event' v' p' q' s' t' fits' is. ap (λ (e : Entry). Some (says.Entry e)) (start_same event event' v v' p q s t p' q' s' t' fits fits' is))
entry_same e b fits good word same =
    plain_same (says.Entry e) b (entry_numbers e) (record { row = (apart e).row; table = (apart e).table; lost = (apart e).lost; start = refl }) (entry_says e refl) refl fits good word same

word_same : (a b : Line) → IsGoodLine a → IsGoodLine b → line_word a ≡ line_word b → line_rest a ≡ line_rest b → Some a ≡ Some b
word_same (says.Entry e) b x y word same = entry_same e b x.fits y word same
word_same (says.Row vs) b x y word same =
    row_told {Stop = ℕ} b (codes "row") (flat_map value_text vs) (Ok (Some (says.Row vs))) word refl y.fits same
    (λ ws fits is. ap (λ (z : List RowValue). Some (says.Row z)) (values_told vs ws x.fits fits is))
word_same (says.Table name) b x y word same =
    table_told {Stop = ℕ} b (codes "table") (line_rest (says.Table name)) (Ok (Some (says.Table name))) word refl y.can same
    (λ n good is. let here : 32 ∷ name ≡ 32 ∷ n = is in let it : name ≡ n = cc here in ap (λ (z : List ℕ). Some (says.Table z)) it)
word_same (says.Lost l) b x y word same =
    lost_told {Stop = ℕ} b (codes "lost") (line_rest (says.Lost l)) (Ok (Some (says.Lost l))) word refl y.can y.fits same
    (λ m good fits is. ap (λ (z : LostReport). Some (says.Lost z)) (counter_told l m x.can (All-head FitsField (Some l.number) [] x.fits) good fits is))
word_same (says.Head format) b x y word same = plain_same (says.Head format) b (Some format ∷ []) (record { row = refl; table = refl; lost = refl; start = refl }) refl refl x.fits y word same
word_same (says.Phase number) b x y word same = plain_same (says.Phase number) b (Some number ∷ []) (record { row = refl; table = refl; lost = refl; start = refl }) refl refl x.fits y word same
word_same (says.Session number) b x y word same = plain_same (says.Session number) b (Some number ∷ []) (record { row = refl; table = refl; lost = refl; start = refl }) refl refl x.fits y word same
word_same says.Final b x y word same = plain_same says.Final b [] (record { row = refl; table = refl; lost = refl; start = refl }) refl refl x.fits y word same
word_same says.End b x y word same = plain_same says.End b [] (record { row = refl; table = refl; lost = refl; start = refl }) refl refl x.fits y word same

-- the body of a line's text says one thing alone
pub body_told : (a b : Line) → IsGoodLine a → IsGoodLine b → line_word a ++ line_rest a ≡ line_word b ++ line_rest b → a ≡ b
body_told a b x y e =
    let one = word_front (line_word a) (line_rest a) (line_clean a) (line_behind a) in
    let two = word_front (line_word b) (line_rest b) (line_clean b) (line_behind b) in
    let same = word_same a b x y (sym one.0 ∙ (ap front_word e ∙ two.0)) (sym one.1 ∙ (ap behind_word e ∙ two.1)) in
    cc same

behind_same : (body body' more more' : List ℕ) → no_feed body ≡ true → no_feed body' ≡ true → body ++ 10 ∷ more ≡ body' ++ 10 ∷ more' → (body ≡ body') × (more ≡ more')
unfolding no_feed
behind_same [] [] more more' p q e = (refl, cc e)
behind_same [] (b ∷ body') more more' p q e =
    let first : 10 ≡ b = cc e in
    absurd (false≢true (ap (λ (k : ℕ). not (eqb k 10)) first ∙ (and_parts (not (eqb b 10)) (no_feed body') q).0))
behind_same (b ∷ body) [] more more' p q e =
    let first : b ≡ 10 = cc e in
    absurd (false≢true (sym (ap (λ (k : ℕ). not (eqb k 10)) first) ∙ (and_parts (not (eqb b 10)) (no_feed body) p).0))
behind_same (b ∷ body) (b' ∷ body') more more' p q e =
    let first : b ≡ b' = cc e in
    let rest : body ++ 10 ∷ more ≡ body' ++ 10 ∷ more' = cc e in
    let told = behind_same body body' more more' (and_parts (not (eqb b 10)) (no_feed body) p).1 (and_parts (not (eqb b' 10)) (no_feed body') q).1 rest in
    (ap (λ (k : ℕ). k ∷ body) first ∙ ap (λ (z : List ℕ). b' ∷ z) told.0, told.1)

pub line_body : (line : Line) (more : List ℕ) → line_text line ++ more ≡ (line_word line ++ line_rest line) ++ 10 ∷ more
line_body line more = ap (λ (z : List ℕ). z ++ more) (line_is line) ∙ append_assoc (line_word line ++ line_rest line) (codes "\n") more

-- what is in front of the first line feed is a line's text, and what stands behind it is told
pub front_told : (line : Line) (more body behind : List ℕ) → IsGoodLine line → no_feed body ≡ true → line_text line ++ more ≡ body ++ 10 ∷ behind → (line_word line ++ line_rest line ≡ body) × (more ≡ behind)
front_told line more body behind good clean e = behind_same (line_word line ++ line_rest line) body more behind (feedless line good.can) clean (sym (line_body line more) ∙ e)

-- a line in front of a text, and what stands behind it, are told from the text
pub one_line : (a b : Line) (more more' : List ℕ) → IsGoodLine a → IsGoodLine b → line_text a ++ more ≡ line_text b ++ more' → (a ≡ b) × (more ≡ more')
one_line a b more more' x y e =
    let told = front_told a more (line_word b ++ line_rest b) more' x (feedless b y.can) (e ∙ line_body b more') in
    (body_told a b x y told.0, told.1)
