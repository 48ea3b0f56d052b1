-- What the reader keeps stays true with one line more.
use Rattle.std.proofs.Common.{ℕ, ◌≡◌, ◌⊎◌, inl, inr, Bool, true, false, ◌||◌, not, List, [], ◌∷◌, ◌++◌, Option, refl, sym, ap, ◌∙◌, append_assoc}
use Rattle.std.specs.Prelude.{fold, option_map, option_and_then}
use Rattle.std.specs.List.{list_any, list_all}
use Rattle.std.proofs.lemmas.Bool.{false≢true, not-false}
use Rattle.std.proofs.lemmas.List.Folds.{list_any-append, list_all-append}
use Rattle.pfs_lemmas.proofs.Bools.{or_first}
use Rattle.pfs_classes.specs.declared.setting.TableName.{TableName}
use Rattle.pfs_classes.specs.declared.setting.DigestText.{DigestText}
use Rattle.pfs_script.specs.declared.blocks.BlockLine.{BlockLine}
use Rattle.pfs_script.specs.declared.blocks.BlockLine.TheVariants as said
use Rattle.pfs_script.specs.declared.drafts.Drafts.{Drafts}
use Rattle.pfs_script.specs.declared.finds.Finds.{Finds}
use Rattle.pfs_script.specs.declared.forms.Form.{Form}
use Rattle.pfs_script.specs.declared.forms.Form.TheVariants as form
use Rattle.pfs_script.specs.Blocks.{Sense, sense_of, block_line, phases_of}
use Rattle.pfs_script.specs.LineCounts.{is_repeat, is_in_repeat}
use Rattle.pfs_script.specs.Drafts.{phases_behind}
use Rattle.pfs_script.specs.Finds.{with_table, with_digest}
use Rattle.pfs_script.specs.Headings.{head_of, resolved, is_before_limits}
use Rattle.pfs_script.specs.Reasons.{is_blockless, is_out_of_place}
use Rattle.pfs_script.specs.ReaderState.{KnowsFinds}
use Rattle.pfs_script.specs.ReaderAnswers.{SayAlike, AreDrafted, AreSettled, is_ahead}
use Rattle.pfs_script.specs.Senses.{class_in, number_in, IsSettled}
use Rattle.pfs_script.specs.Sessions.{is_phase, session_behind, session_now}
use Rattle.pfs_script.proofs.FaultlessLines.{Passes}
use Rattle.pfs_script.proofs.HeadPasses.{idle_push}
use Rattle.pfs_script.proofs.StableLines.{settled_more, settled_new}

-- lines that may stand before the first phase

any_push : (test : Form → Bool) (before : List Form) (line : Form) (here : Bool) → list_any test before ≡ here → list_any test (before ++ line ∷ []) ≡ (here || (test line || false))
any_push test before line here e = list_any-append test before (line ∷ []) ∙ ap (λ (b : Bool). b || (test line || false)) e

pub any_stays : (test : Form → Bool) (before : List Form) (line : Form) → list_any test before ≡ true → list_any test (before ++ line ∷ []) ≡ true
any_stays test before line e = any_push test before line true e

or_parts : (a b : Bool) → (a || (b || false)) ≡ false → (a ≡ false) × (b ≡ false)
or_parts true b e = cc
or_parts false true e = cc
or_parts false false e = (refl, refl)

any_parts : (test : Form → Bool) (before : List Form) (line : Form) → list_any test (before ++ line ∷ []) ≡ false → (list_any test before ≡ false) × (test line ≡ false)
any_parts test before line e = or_parts (list_any test before) (test line) (sym (list_any-append test before (line ∷ [])) ∙ e)

all_push : (test : Form → Bool) (before : List Form) (line : Form) → list_all test before ≡ true → test line ≡ true → list_all test (before ++ line ∷ []) ≡ true
all_push test before line all one = list_all-append test before (line ∷ []) ∙ rw (all, one) refl

-- they begin no session, no repeat and no phase

ahead_session : (lines : List Form) → list_all is_ahead lines ≡ true → fold session_behind 0 lines ≡ 0
ahead_session [] e = refl
ahead_session (form.Silent ∷ lines) e = ahead_session lines e
ahead_session (form.Limit name value ∷ lines) e = ahead_session lines e
ahead_session (form.Class name kind enabled timed ∷ lines) e = ahead_session lines e
ahead_session (form.Consumer name on ∷ lines) e = ahead_session lines e
ahead_session (form.Instrument pattern enabled timed ∷ lines) e = ahead_session lines e
ahead_session (_ ∷ lines) e = cc

ahead_blockless : (lines : List Form) → list_all is_ahead lines ≡ true → is_blockless lines ≡ true
unfolding session_now
ahead_blockless lines e = rw (ahead_session lines e) refl

ahead_repeat : (lines : List Form) → list_all is_ahead lines ≡ true → list_any is_repeat lines ≡ false
ahead_repeat [] e = refl
ahead_repeat (form.Silent ∷ lines) e = ahead_repeat lines e
ahead_repeat (form.Limit name value ∷ lines) e = ahead_repeat lines e
ahead_repeat (form.Class name kind enabled timed ∷ lines) e = ahead_repeat lines e
ahead_repeat (form.Consumer name on ∷ lines) e = ahead_repeat lines e
ahead_repeat (form.Instrument pattern enabled timed ∷ lines) e = ahead_repeat lines e
ahead_repeat (_ ∷ lines) e = cc

limits_ahead : (lines : List Form) → list_all is_before_limits lines ≡ true → list_any is_phase lines ≡ false
limits_ahead [] e = refl
limits_ahead (form.Silent ∷ lines) e = limits_ahead lines e
limits_ahead (form.Limit name value ∷ lines) e = limits_ahead lines e
limits_ahead (_ ∷ lines) e = cc

no_block : (before : List Form) → list_all is_ahead before ≡ true → is_blockless before ≡ false → ⊥
no_block before all out = false≢true (sym out ∙ ahead_blockless before all)

ahead_line : (before : List Form) (line : Form) → list_all is_ahead before ≡ true → list_any is_phase before ≡ false → is_out_of_place before line ≡ false → is_phase line ≡ false → is_ahead line ≡ true
ahead_line before form.Silent all none place here = refl
ahead_line before (form.Limit name value) all none place here = refl
ahead_line before (form.Class name kind enabled timed) all none place here = refl
ahead_line before (form.Consumer name on) all none place here = refl
ahead_line before (form.Instrument pattern enabled timed) all none place here = refl
ahead_line before form.Phase all none place here = cc
ahead_line before (form.Connect session user host) all none place here =
    let out = or_first (not (list_any is_phase before)) (is_in_repeat before) place in
    absurd (false≢true (sym none ∙ not-false (list_any is_phase before) out))
ahead_line before (form.Resume session) all none place here =
    let out = or_first (not (list_any is_phase before)) (is_in_repeat before) place in
    absurd (false≢true (sym none ∙ not-false (list_any is_phase before) out))
ahead_line before form.Done all none place here =
    let out : is_in_repeat before ≡ false = rw (ahead_repeat before all) refl in
    absurd (false≢true (sym out ∙ not-false (is_in_repeat before) place))
ahead_line before form.Quit all none place here = absurd (no_block before all (or_first (is_blockless before) (is_in_repeat before) place))
ahead_line before (form.Repeat times) all none place here = absurd (no_block before all (or_first (is_blockless before) (is_in_repeat before) place))
ahead_line before _ all none place here = absurd (no_block before all place)

pub ahead_more : (before : List Form) (line : Form) → is_out_of_place before line ≡ false → (list_any is_phase before ≡ false → list_all is_ahead before ≡ true)
    → list_any is_phase (before ++ line ∷ []) ≡ false → list_all is_ahead (before ++ line ∷ []) ≡ true
ahead_more before line place old none =
    let parts = any_parts is_phase before line none in
    all_push is_ahead before line (old parts.0) (ahead_line before line (old parts.0) parts.0 place parts.1)

-- a line fixes nothing, or there is no phase yet and it names no table and no text
abbrev pub Idles : List Form → Form → Type 0
Idles before line = (head_of before ≡ head_of (before ++ line ∷ []))
    ⊎ ((list_any is_phase before ≡ false) × ((most : ℕ) (tables : List TableName) (digests : List DigestText) → IsSettled most tables digests line))

pub idles : (before : List Form) (line : Form) → Passes before line → Idles before line
idles before (form.Limit name value) p = inr (limits_ahead before (not-false (list_all is_before_limits before) p.place), λ most tables digests. tt)
idles before (form.Class name kind enabled timed) p = inr (p.place, λ most tables digests. tt)
idles before (form.Consumer name on) p = inr (p.place, λ most tables digests. tt)
idles before (form.Instrument pattern enabled timed) p = inr (p.place, λ most tables digests. tt)
idles before form.Silent p = inl (idle_push before form.Silent (λ limits. refl, λ word. refl, λ naming. refl))
idles before line p = inl (idle_push before line (λ limits. refl, λ word. refl, λ naming. refl))

-- what the line's class stands for stays
pub class_stays : (before : List Form) (line : Form) → class_in (resolved (head_of before)) line ≡ class_in (resolved (head_of (before ++ line ∷ []))) line
class_stays before (form.Wait class) = ap (λ head. resolved head class) (idle_push before (form.Wait class) (λ limits. refl, λ word. refl, λ naming. refl))
class_stays before (form.TableWait class schema name) = ap (λ head. resolved head class) (idle_push before (form.TableWait class schema name) (λ limits. refl, λ word. refl, λ naming. refl))
class_stays before (form.Statement class text) = ap (λ head. resolved head class) (idle_push before (form.Statement class text) (λ limits. refl, λ word. refl, λ naming. refl))
class_stays before (form.Stage class) = ap (λ head. resolved head class) (idle_push before (form.Stage class) (λ limits. refl, λ word. refl, λ naming. refl))
class_stays before _ = refl

-- lines stay settled

settled_all : (most : ℕ) (finds after : Finds) (line : Form) → after.tables ≡ with_table finds.tables line → after.digests ≡ with_digest most finds.digests line → (lines : List Form) → AreSettled most finds lines → AreSettled most after lines
settled_all most finds after line t d [] s = tt
settled_all most finds after line t d (one ∷ lines) s = (rw (t, d) (settled_more most finds.tables finds.digests line one s.0).0, settled_all most finds after line t d lines s.1)

settled_push : (most : ℕ) (finds : Finds) (lines : List Form) (line : Form) → AreSettled most finds lines → IsSettled most finds.tables finds.digests line → AreSettled most finds (lines ++ line ∷ [])
settled_push most finds [] line s one = (one, tt)
settled_push most finds (first ∷ lines) line s one = (s.0, settled_push most finds lines line s.1 one)

pub settled_last : (most : ℕ) (finds : Finds) (lines : List Form) (line : Form) → AreSettled most finds (lines ++ line ∷ []) → IsSettled most finds.tables finds.digests line
settled_last most finds [] line s = s.0
settled_last most finds (first ∷ lines) line s = settled_last most finds lines line s.1

settled_ahead : (most : ℕ) (finds : Finds) (lines : List Form) → list_all is_ahead lines ≡ true → AreSettled most finds lines
settled_ahead most finds [] e = tt
settled_ahead most finds (form.Silent ∷ lines) e = (tt, settled_ahead most finds lines e)
settled_ahead most finds (form.Limit name value ∷ lines) e = (tt, settled_ahead most finds lines e)
settled_ahead most finds (form.Class name kind enabled timed ∷ lines) e = (tt, settled_ahead most finds lines e)
settled_ahead most finds (form.Consumer name on ∷ lines) e = (tt, settled_ahead most finds lines e)
settled_ahead most finds (form.Instrument pattern enabled timed ∷ lines) e = (tt, settled_ahead most finds lines e)
settled_ahead most finds (_ ∷ lines) e = cc

pub settled_behind : (most more : ℕ) (finds after : Finds) (before : List Form) (line : Form) → Idles before line → (head_of before ≡ head_of (before ++ line ∷ []) → more ≡ most) → (list_any is_phase before ≡ false → list_all is_ahead before ≡ true)
    → after.tables ≡ with_table finds.tables line → after.digests ≡ with_digest most finds.digests line → AreSettled most finds before → AreSettled more after (before ++ line ∷ [])
settled_behind most more finds after before line (inl same) limit ahead t d s =
    rw (limit same) (settled_push most after before line (settled_all most finds after line t d before s) (rw (t, d) (settled_new most finds.tables finds.digests line)))
settled_behind most more finds after before line (inr (none, free)) limit ahead t d s =
    settled_push more after before line (settled_ahead more after before (ahead none)) (free more after.tables after.digests)

-- lines go on saying the same

same_said : (one other : Sense) (line : Form) → ((name : List ℕ) → one.class name ≡ other.class name) → number_in one.tables one.digests line ≡ number_in other.tables other.digests line → block_line one line ≡ block_line other line
same_said one other (form.Wait class) c n = ap (option_map said.Wait) (c class)
same_said one other (form.TableWait class schema name) c n =
    ap (λ number. option_and_then (λ ref. option_map (said.TableWait ref) number) (one.class class)) n
    ∙ ap (option_and_then (λ ref. option_map (said.TableWait ref) (number_in other.tables other.digests (form.TableWait class schema name)))) (c class)
same_said one other (form.Statement class text) c n =
    ap (λ number. option_map (λ ref. said.Statement ref number) (one.class class)) n
    ∙ ap (option_map (λ ref. said.Statement ref (number_in other.tables other.digests (form.Statement class text)))) (c class)
same_said one other (form.Stage class) c n = ap (option_map said.Stage) (c class)
same_said one other _ c n = refl

pub say_refl : (sense : Sense) (lines : List Form) → SayAlike sense sense lines
say_refl sense [] = tt
say_refl sense (line ∷ lines) = (refl, say_refl sense lines)

say_trans : (a b c : Sense) (lines : List Form) → SayAlike a b lines → SayAlike b c lines → SayAlike a c lines
say_trans a b c [] p q = tt
say_trans a b c (line ∷ lines) p q = (p.0 ∙ q.0, say_trans a b c lines p.1 q.1)

say_parts : (a b : Sense) (lines : List Form) (line : Form) → SayAlike a b (lines ++ line ∷ []) → SayAlike a b lines × (block_line a line ≡ block_line b line)
say_parts a b [] line s = (tt, s.0)
say_parts a b (first ∷ lines) line s = let rest = say_parts a b lines line s.1 in ((s.0, rest.0), rest.1)

say_ahead : (a b : Sense) (lines : List Form) → list_all is_ahead lines ≡ true → SayAlike a b lines
say_ahead a b [] e = tt
say_ahead a b (form.Silent ∷ lines) e = (refl, say_ahead a b lines e)
say_ahead a b (form.Limit name value ∷ lines) e = (refl, say_ahead a b lines e)
say_ahead a b (form.Class name kind enabled timed ∷ lines) e = (refl, say_ahead a b lines e)
say_ahead a b (form.Consumer name on ∷ lines) e = (refl, say_ahead a b lines e)
say_ahead a b (form.Instrument pattern enabled timed ∷ lines) e = (refl, say_ahead a b lines e)
say_ahead a b (_ ∷ lines) e = cc

say_settled : (most : ℕ) (finds after : Finds) (a b : Sense) (line : Form) → after.tables ≡ with_table finds.tables line → after.digests ≡ with_digest most finds.digests line → ((name : List ℕ) → a.class name ≡ b.class name)
    → after.tables ≡ a.tables → after.digests ≡ a.digests → finds.tables ≡ b.tables → finds.digests ≡ b.digests → (lines : List Form) → AreSettled most finds lines → SayAlike a b lines
say_settled most finds after a b line t d c at ad bt bd [] s = tt
say_settled most finds after a b line t d c at ad bt bd (one ∷ lines) s =
    let kept = (settled_more most finds.tables finds.digests line one s.0).1 in
    let new : number_in a.tables a.digests one ≡ number_in (with_table finds.tables line) (with_digest most finds.digests line) one = rw (sym at ∙ t, sym ad ∙ d) refl in
    let old : number_in finds.tables finds.digests one ≡ number_in b.tables b.digests one = rw (sym bt, sym bd) refl in
    (same_said a b one c (new ∙ (kept ∙ old)), say_settled most finds after a b line t d c at ad bt bd lines s.1)

pub say_behind : (most : ℕ) (finds after : Finds) (before : List Form) (line : Form) → Idles before line → (list_any is_phase before ≡ false → list_all is_ahead before ≡ true) → KnowsFinds finds before → KnowsFinds after (before ++ line ∷ [])
    → after.tables ≡ with_table finds.tables line → after.digests ≡ with_digest most finds.digests line → AreSettled most finds before → SayAlike (sense_of (before ++ line ∷ [])) (sense_of before) before
say_behind most finds after before line (inl same) ahead k m t d s =
    say_settled most finds after (sense_of (before ++ line ∷ [])) (sense_of before) line t d (λ name. ap (λ head. resolved head name) (sym same)) m.tables m.digests k.tables k.digests before s
say_behind most finds after before line (inr (none, free)) ahead k m t d s = say_ahead (sense_of (before ++ line ∷ [])) (sense_of before) before (ahead none)

-- and the drafts are what they make
pub drafted_more : (drafts after : Drafts) (before : List Form) (line : Form) (told : Option BlockLine) → AreDrafted drafts before → SayAlike (sense_of (before ++ line ∷ [])) (sense_of before) before
    → told ≡ block_line (sense_of (before ++ line ∷ [])) line
    → ((sense : Sense) (lines : List Form) → told ≡ block_line sense line → phases_behind sense drafts (line ∷ lines) ≡ phases_behind sense after lines)
    → AreDrafted after (before ++ line ∷ [])
drafted_more drafts after before line told old stays own pass sense lines alike =
    let parts = say_parts sense (sense_of (before ++ line ∷ [])) before line alike in
    ap (λ (all : List Form). phases_of sense all) (append_assoc before (line ∷ []) lines)
    ∙ (old sense (line ∷ lines) (say_trans sense (sense_of (before ++ line ∷ [])) (sense_of before) before parts.0 stays)
    ∙ pass sense lines (own ∙ sym parts.1))
