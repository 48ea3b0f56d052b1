-- What is told from the words of a line.
use Rattle.std.proofs.Common.{ℕ, zero, suc, ◌≡◌, ◌+◌, ◌<◌, ◌≤◌, ◌^◌, Bool, true, false, eqb, cond, List, [], ◌∷◌, ◌++◌, length, take, drop, Option, Some, None, append-nil, sym, ap, subst, ◌∙◌, refl, arith}
use Rattle.std.specs.Prelude.{codes, not, ◌&&◌, decimal}
use Rattle.std.specs.List.{All, flat_map, prefix_len}
use Rattle.std.proofs.lemmas.List.Elements.{All-head, All-tail, All-nil, All-cons}
use Rattle.pfs_event.specs.declared.entry.Entry.{Entry}
use Rattle.pfs_event.specs.declared.entry.Entry.TheVariants as entry
use Rattle.pfs_event.specs.declared.verdict.Verdict.{Verdict}
use Rattle.pfs_event.specs.declared.verdict.Verdict.TheVariants.{LostThread, LostClass, OffGlobal, OffClass, OffTable, OffThread, LostNested, LostLocker, Aside, Attributed}
use Rattle.pfs_event.specs.Verdicts.{verdict_name}
use Rattle.pfs_journal.specs.declared.line.Line.TheVariants as says
use Rattle.pfs_journal.specs.LineWords.{is_word_byte, front_word, behind_word, IsBehind, Leads, verdict_of, plain_says, entry_word, entry_numbers, optional_word, dash_of, FitsField}
use Rattle.std.specs.Str.Parse.{IsNumeral, digits_value}
use Rattle.std.proofs.lemmas.Fmt.{decimal_is_IsNumeral}
use Rattle.std.proofs.lemmas.Bool.{false≢true}
use Rattle.std.proofs.lemmas.Bool.Decides.{Decides-eqb}
use Rattle.std.specs.Prelude.{MatchOption, ◌≢◌, ◌-◌}
use Rattle.std.specs.Char.{digit_value}
use Rattle.std.specs.Str.Parse.{AllDigits}
use Rattle.std.specs.Option.{SomeIff}
use Rattle.pfs_journal.specs.LineWords.{Fits}
use Rattle.pfs_journal.specs.Reports.{IsName, is_name_byte}
use Rattle.pfs_journal.specs.Spelling.{field_text, optional_text}
use Rattle.pfs_journal.proofs.ItemReadings.{ItemsRead, items_more, items_left, items_end}
use Rattle.std.proofs.Math.Seq.{take-suc-set}
use Rattle.std.proofs.Math.ListN.{set}
use Rattle.pfs_lemmas.proofs.Numbers.{one_plus}

front_step : (x : ℕ) (t : List ℕ) → is_word_byte x ≡ true → front_word (x ∷ t) ≡ x ∷ front_word t
front_step x t e =
    ap (λ (v : Bool). take (cond v (1 + prefix_len is_word_byte t) 0) (x ∷ t)) e
    ∙ ap (λ (n : ℕ). take n (x ∷ t)) (one_plus (prefix_len is_word_byte t))

behind_step : (x : ℕ) (t : List ℕ) → is_word_byte x ≡ true → behind_word (x ∷ t) ≡ behind_word t
behind_step x t e =
    ap (λ (v : Bool). drop (cond v (1 + prefix_len is_word_byte t) 0) (x ∷ t)) e
    ∙ ap (λ (n : ℕ). drop n (x ∷ t)) (one_plus (prefix_len is_word_byte t))

-- a word in front is found, and what stands behind it
pub word_front : (w b : List ℕ) → All (λ b. is_word_byte b ≡ true) w → IsBehind b → (front_word (w ++ b) ≡ w) × (behind_word (w ++ b) ≡ b)
word_front [] [] clean stops = (refl, refl)
word_front [] (x ∷ b) clean stops = subst (λ (y : ℕ). (front_word (y ∷ b) ≡ []) × (behind_word (y ∷ b) ≡ y ∷ b)) (sym stops) (refl, refl)
word_front (x ∷ w) b clean stops =
    let first = All-head (λ b. is_word_byte b ≡ true) x w clean in
    let more = word_front w b (All-tail (λ b. is_word_byte b ≡ true) x w clean) stops in
    (front_step x (w ++ b) first ∙ ap (λ (z : List ℕ). x ∷ z) more.0, behind_step x (w ++ b) first ∙ more.1)

pub verdict_told : (v : Verdict) → verdict_of (verdict_name v) ≡ Some v
verdict_told LostThread = refl
verdict_told LostClass = refl
verdict_told OffGlobal = refl
verdict_told OffClass = refl
verdict_told OffTable = refl
verdict_told OffThread = refl
verdict_told LostNested = refl
verdict_told LostLocker = refl
verdict_told Aside = refl
verdict_told Attributed = refl

pub dash_no_numeral : ¬ IsNumeral 10 (codes "-")
dash_no_numeral n = omega (arith, n.1.0)

pub number_told : (word : List ℕ) (n : ℕ) (number : Option ℕ) → IsNumeral 10 word → n ≡ digits_value 10 word → FitsField number → word ≡ optional_word number → Some (Some n) ≡ Some number
number_told word n None numeral is fits same = absurd (dash_no_numeral (subst (λ (w : List ℕ). IsNumeral 10 w) same numeral))
number_told word n (Some m) numeral is fits same =
    ap (λ (k : ℕ). Some (Some k)) (is ∙ (ap (digits_value 10) same ∙ (decimal_is_IsNumeral m fits).1))

pub dash_told : (word : List ℕ) (number : Option ℕ) → ¬ (IsNumeral 10 word × (digits_value 10 word < 2 ^ 64)) → FitsField number → word ≡ optional_word number → dash_of word ≡ Some number
dash_told word None not fits same = ap dash_of same
dash_told word (Some m) not fits same =
    let known = decimal_is_IsNumeral m fits in
    absurd (not (subst (λ (w : List ℕ). IsNumeral 10 w × (digits_value 10 w < 2 ^ 64)) (sym same) (known.0, subst (λ (k : ℕ). k < 2 ^ 64) (sym known.1) fits)))

abbrev pub is_start : Entry → Bool
is_start (entry.Start event verdict a b c d) = true
is_start _ = false

pub entry_says : (e : Entry) → is_start e ≡ false → plain_says (entry_word e) (entry_numbers e) ≡ Some (says.Entry e)
entry_says (entry.Start event verdict a b c d) plain = absurd (false≢true (sym plain))
entry_says (entry.Connect action thread account user host) plain = refl
entry_says (entry.End event last consumers thread) plain = refl
entry_says (entry.Add row version) plain = refl
entry_says (entry.Held row first second) plain = refl
entry_says (entry.Ring row version) plain = refl
entry_says (entry.Long row version ticket) plain = refl
entry_says (entry.Busy row first second) plain = refl
entry_says (entry.Late row ticket greater) plain = refl
entry_says entry.Settle plain = refl
entry_says (entry.Act action) plain = refl
entry_says (entry.Take row version) plain = refl
entry_says (entry.Give row version source) plain = refl
entry_says (entry.Tag row version) plain = refl
entry_says (entry.Free row version) plain = refl
entry_says (entry.Set word version flags) plain = refl
entry_says (entry.Reply number) plain = refl
entry_says (entry.Error number) plain = refl
entry_says entry.Query plain = refl
entry_says (entry.Seen row version) plain = refl
entry_says (entry.Vacant row) plain = refl
entry_says (entry.Saw word version) plain = refl
entry_says (entry.Rows number) plain = refl

abbrev IsClean : List ℕ → Type 0
IsClean word = All (λ b. is_word_byte b ≡ true) word

-- a byte that passes a test that a space doesn't is in a word
in_word : (test : ℕ → Bool) → test 32 ≡ false → (b : ℕ) → test b ≡ true → is_word_byte b ≡ true
in_word test none b h = by_value (eqb b 32) refl
  where
    by_value : (v : Bool) → eqb b 32 ≡ v → is_word_byte b ≡ true
    by_value true e = let same : b ≡ 32 = (Decides-eqb b 32).0 e in absurd (false≢true (sym none ∙ (ap test (sym same) ∙ h)))
    by_value false e = ap not e

clean_by : (test : ℕ → Bool) → test 32 ≡ false → (bs : List ℕ) → All (λ b. test b ≡ true) bs → IsClean bs
clean_by test none [] all = All-nil (λ b. is_word_byte b ≡ true)
clean_by test none (b ∷ bs) all = All-cons (λ x. is_word_byte x ≡ true) b bs (in_word test none b (All-head (λ x. test x ≡ true) b bs all)) (clean_by test none bs (All-tail (λ x. test x ≡ true) b bs all))

pub name_clean : (name : List ℕ) → IsName name → IsClean name
name_clean name good = clean_by is_name_byte refl name good.bytes

digit_clean : (b : ℕ) → digit_value b < 10 → is_word_byte b ≡ true
digit_clean b h = by_value (eqb b 32) refl
  where
    by_value : (v : Bool) → eqb b 32 ≡ v → is_word_byte b ≡ true
    by_value true e = let same : b ≡ 32 = (Decides-eqb b 32).0 e in absurd (space_no_digit (subst (λ (k : ℕ). digit_value k < 10) same h))
      where
        space_no_digit : ¬ (digit_value 32 < 10)
        space_no_digit h = omega (arith, h)
    by_value false e = ap not e

digits_clean : (bs : List ℕ) → AllDigits 10 bs → IsClean bs
digits_clean [] all = All-nil (λ b. is_word_byte b ≡ true)
digits_clean (b ∷ bs) all = All-cons (λ x. is_word_byte x ≡ true) b bs (digit_clean b all.0) (digits_clean bs all.1)

pub number_clean : (n : ℕ) → Fits n → IsClean (decimal n)
number_clean n fits = digits_clean (decimal n) (decimal_is_IsNumeral n fits).0.1

-- the same as a test
abbrev pub clean_test : List ℕ → Bool
clean_test [] = true
clean_test (b ∷ bs) = is_word_byte b && clean_test bs

clean_more : (b : ℕ) (bs : List ℕ) (v w : Bool) → is_word_byte b ≡ v → clean_test bs ≡ w → (v && w) ≡ true → (is_word_byte b ≡ true) × (clean_test bs ≡ true)
clean_more b bs true true e f h = (e, f)
clean_more b bs true false e f h = absurd (false≢true h)
clean_more b bs false w e f h = absurd (false≢true h)

pub clean_told : (bs : List ℕ) → clean_test bs ≡ true → IsClean bs
clean_told [] h = All-nil (λ b. is_word_byte b ≡ true)
clean_told (b ∷ bs) h = let both = clean_more b bs (is_word_byte b) (clean_test bs) refl refl h in All-cons (λ x. is_word_byte x ≡ true) b bs both.0 (clean_told bs both.1)

optional_clean : (number : Option ℕ) → FitsField number → IsClean (optional_word number)
optional_clean None fits = clean_told (codes "-") refl
optional_clean (Some n) fits = number_clean n fits

field_is : (number : Option ℕ) (behind : List ℕ) → optional_text number ++ behind ≡ 32 ∷ (optional_word number ++ behind)
unfolding field_text
field_is None behind = refl
field_is (Some n) behind = refl

pub field_leads : (bytes : List ℕ) (number : Option ℕ) (behind : List ℕ) → FitsField number → IsBehind behind → bytes ≡ optional_text number ++ behind → Leads (optional_word number) behind bytes
field_leads bytes number behind fits stops same = record { clean = optional_clean number fits; stops = stops; text = same ∙ field_is number behind }

-- numbers behind a word begin with a space
pub fields_behind : (numbers : List (Option ℕ)) → IsBehind (flat_map optional_text numbers)
unfolding field_text
fields_behind [] = tt
fields_behind (None ∷ numbers) = refl
fields_behind (Some n ∷ numbers) = refl

pub field_some : (number : Option ℕ) (more : List ℕ) → optional_text number ++ more ≢ []
field_some number more e = let x : 32 ∷ (optional_word number ++ more) ≡ [] = sym (field_is number more) ∙ e in absurd (cc)

take_whole : (xs : List ℕ) (n : ℕ) → length xs ≤ n → take n xs ≡ xs
take_whole [] zero h = refl
take_whole [] (suc n) h = refl
take_whole (x ∷ xs) zero h = absurd (omega (arith, h))
take_whole (x ∷ xs) (suc n) h = ap (λ (z : List ℕ). x ∷ z) (take_whole xs n (omega (arith, h)))

-- the word behind a space is found
pub next_told : (bytes word behind w b : List ℕ) → Leads word behind bytes → w ≡ front_word (drop 1 bytes) → b ≡ behind_word (drop 1 bytes) → (w ≡ word) × (b ≡ behind)
next_told bytes word behind w b leads w_is b_is =
    let rest : drop 1 bytes ≡ word ++ behind = ap (drop 1) leads.text in
    let told = word_front word behind leads.clean leads.stops in
    (w_is ∙ (ap front_word rest ∙ told.0), b_is ∙ (ap behind_word rest ∙ told.1))

pub rest_whole : (bytes : List ℕ) → take (length bytes - 1) (drop 1 bytes) ≡ drop 1 bytes
rest_whole [] = take_whole [] (0 - 1) (omega arith)
rest_whole (b ∷ bytes) = take_whole bytes (length (b ∷ bytes) - 1) (omega arith)

-- a number more was read
pub fields_more : (ns numbers : List (Option ℕ)) (place : ℕ) (rest behind : List ℕ) (number : Option ℕ) → ItemsRead optional_text FitsField ns (take place numbers) rest → rest ≢ [] → place < length numbers
    → ((n : Option ℕ) (b : List ℕ) → FitsField n → IsBehind b → rest ≡ optional_text n ++ b → (number ≡ n) × (behind ≡ b)) → ItemsRead optional_text FitsField ns (take (place + 1) (set numbers place number)) behind
fields_more ns numbers place rest behind number r some inside told =
    subst (λ (got : List (Option ℕ)). ItemsRead optional_text FitsField ns got behind) (sym grown)
    (items_more optional_text FitsField ns (take place numbers) rest behind number r some (λ x more fit is. told x (flat_map optional_text more) fit (fields_behind more) is))
  where
    grown : take (place + 1) (set numbers place number) ≡ take place numbers ++ number ∷ []
    grown = let one : place + 1 ≡ suc place = omega arith in ap (λ (k : ℕ). take k (set numbers place number)) one ∙ take-suc-set numbers place number inside

length_take_five : (xs : List (Option ℕ)) → length xs ≡ 5 → length (take 5 xs) ≡ 5
length_take_five (a ∷ b ∷ c ∷ d ∷ e ∷ xs) h = refl
length_take_five [] h = absurd (omega (arith, h))
length_take_five (a ∷ []) h = absurd (omega (arith, h))
length_take_five (a ∷ b ∷ []) h = absurd (omega (arith, h))
length_take_five (a ∷ b ∷ c ∷ []) h = absurd (omega (arith, h))
length_take_five (a ∷ b ∷ c ∷ d ∷ []) h = absurd (omega (arith, h))

-- five numbers were read, and there are no more
pub five_told : {X : Type 0} (o : Option X) (f : X → List (Option ℕ)) (ns numbers : List (Option ℕ)) (rest : List ℕ) → ItemsRead optional_text FitsField ns (take 5 numbers) rest → length numbers ≡ 5 → length ns ≤ 5 → MatchOption o (rest ≢ []) (λ x. (rest ≡ []) × (f x ≡ take 5 numbers))
    → MatchOption o ⊥ (λ x. f x ≡ ns)
five_told None f ns numbers rest r size few told =
    let less = items_left optional_text FitsField ns (take 5 numbers) rest r told in
    let five = length_take_five numbers size in
    omega (arith, less, five, few)
five_told (Some x) f ns numbers rest r size few told = told.1 ∙ items_end optional_text FitsField ns (take 5 numbers) rest field_some r told.0

pub read_told : (word : List ℕ) (n : ℕ) (r : Option ℕ) → SomeIff r (IsNumeral 10 word × (digits_value 10 word < 2 ^ 64)) (digits_value 10 word) → Fits n → word ≡ decimal n → r ≡ Some n
read_told word n None none fits same =
    let known = decimal_is_IsNumeral n fits in
    absurd (none (subst (λ (w : List ℕ). IsNumeral 10 w × (digits_value 10 w < 2 ^ 64)) (sym same) (known.0, subst (λ (k : ℕ). k < 2 ^ 64) (sym known.1) fits)))
read_told word n (Some m) some fits same = ap (λ (k : ℕ). Some k) (some.1 ∙ (ap (digits_value 10) same ∙ (decimal_is_IsNumeral n fits).1))

verdict_clean : (v : Verdict) → clean_test (verdict_name v) ≡ true
verdict_clean LostThread = refl
verdict_clean LostClass = refl
verdict_clean OffGlobal = refl
verdict_clean OffClass = refl
verdict_clean OffTable = refl
verdict_clean OffThread = refl
verdict_clean LostNested = refl
verdict_clean LostLocker = refl
verdict_clean Aside = refl
verdict_clean Attributed = refl

pub verdict_leads : (v : Verdict) (numbers : List (Option ℕ)) (bytes : List ℕ) → bytes ≡ 32 ∷ (verdict_name v ++ flat_map optional_text numbers) → Leads (verdict_name v) (flat_map optional_text numbers) bytes
verdict_leads v numbers bytes same = record { clean = clean_told (verdict_name v) (verdict_clean v); stops = fields_behind numbers; text = same }

pub name_leads : (name behind bytes : List ℕ) → IsName name → IsBehind behind → bytes ≡ 32 ∷ (name ++ behind) → Leads name behind bytes
name_leads name behind bytes good stops same = record { clean = name_clean name good; stops = stops; text = same }

pub table_same : (bytes name : List ℕ) → bytes ≡ 32 ∷ name → bytes ≡ 32 ∷ (name ++ [])
table_same bytes name same = same ∙ ap (λ (z : List ℕ). 32 ∷ z) (sym (append-nil name))

pub no_some : {X : Type 0} (x : X) → None ≡ Some x → ⊥
no_some x e = absurd (cc)

pub fits_four : (a b c d : Option ℕ) → All FitsField (a ∷ b ∷ c ∷ d ∷ []) → FitsField a × FitsField b × FitsField c × FitsField d
fits_four a b c d fits =
    let second = All-tail FitsField a (b ∷ c ∷ d ∷ []) fits in
    let third = All-tail FitsField b (c ∷ d ∷ []) second in
    let fourth = All-tail FitsField c (d ∷ []) third in
    (All-head FitsField a (b ∷ c ∷ d ∷ []) fits, All-head FitsField b (c ∷ d ∷ []) second, All-head FitsField c (d ∷ []) third, All-head FitsField d [] fourth)
