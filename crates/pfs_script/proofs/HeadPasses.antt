-- The head behind one more line.
use Rattle.std.proofs.Common.{◌≡◌, ℕ, Bool, true, List, [], ◌∷◌, ◌++◌, Option, Some, None, refl, sym, ap, ◌∙◌, subst}
use Rattle.std.specs.Prelude.{fold}
use Rattle.std.specs.List.{list_all}
use Rattle.std.proofs.lemmas.Bool.{false≢true, and_parts}
use Rattle.std.proofs.lemmas.List.Sums.{fold_push}
use Rattle.pfs_rows.specs.declared.limits.Limit.{Limit}
use Rattle.pfs_rows.specs.declared.limits.Limits.{Limits}
use Rattle.pfs_rows.specs.Limits.{default_limits}
use Rattle.pfs_classes.specs.declared.kind.Kind.{Kind}
use Rattle.pfs_script.specs.declared.forms.Form.{Form}
use Rattle.pfs_script.specs.declared.forms.Form.TheVariants as form
use Rattle.pfs_script.specs.Headings.{Naming, Head, named_limit, set_limit, limits_behind, limits_of, named_consumer, set_consumer, consumers_behind, consumers_of, naming_behind, naming_under, naming_of, naming_in, with_class, with_flags_like, head_with, head_under, head_of, limited, is_before_limits, StandsIn}

pub limits_push : (before : List Form) (line : Form) → limits_of (before ++ line ∷ []) ≡ limits_behind (limits_of before) line
unfolding limits_of
limits_push before line = fold_push limits_behind default_limits before line

consumers_push : (before : List Form) (line : Form) → consumers_of (before ++ line ∷ []) ≡ consumers_behind (consumers_of before) line
unfolding consumers_of
consumers_push before line = fold_push consumers_behind 28888 before line

naming_push : (before : List Form) (line : Form) → limits_behind (limits_of before) line ≡ limits_of before → naming_of (before ++ line ∷ []) ≡ naming_behind (naming_of before) line
unfolding naming_of
naming_push before line same =
    ap (λ (limits : Limits). fold naming_behind (naming_under limits) (before ++ line ∷ [])) (limits_push before line ∙ same)
    ∙ fold_push naming_behind (naming_under (limits_of before)) before line

-- a line that is no limit
pub head_push : (before : List Form) (line : Form) → limits_behind (limits_of before) line ≡ limits_of before
    → head_with (naming_behind (naming_of before) line) (limits_of before) (consumers_behind (consumers_of before) line) ≡ head_of (before ++ line ∷ [])
unfolding head_of
head_push before line same =
    ap (λ (naming : Naming). head_with naming (limits_of before) (consumers_behind (consumers_of before) line)) (sym (naming_push before line same))
    ∙ (ap (λ (limits : Limits). head_with (naming_of (before ++ line ∷ [])) limits (consumers_behind (consumers_of before) line)) (sym (limits_push before line ∙ same))
    ∙ ap (λ word. head_with (naming_of (before ++ line ∷ [])) (limits_of (before ++ line ∷ [])) word) (sym (consumers_push before line)))

-- lines that name and set no class
quiet_step : (naming : Naming) (line : Form) → is_before_limits line ≡ true → naming_behind naming line ≡ naming
quiet_step naming form.Silent quiet = refl
quiet_step naming (form.Class name kind enabled timed) quiet = absurd (false≢true quiet)
quiet_step naming (form.Instrument pattern enabled timed) quiet = absurd (false≢true quiet)
quiet_step naming _ quiet = refl

quiet_fold : (naming : Naming) (lines : List Form) → list_all is_before_limits lines ≡ true → fold naming_behind naming lines ≡ naming
quiet_fold naming [] quiet = refl
quiet_fold naming (line ∷ lines) quiet =
    let both = and_parts (is_before_limits line) (list_all is_before_limits lines) quiet in
    ap (λ (one : Naming). fold naming_behind one lines) (quiet_step naming line both.0) ∙ quiet_fold naming lines both.1

naming_quiet : (before : List Form) → list_all is_before_limits before ≡ true → naming_of before ≡ naming_under (limits_of before)
unfolding naming_of
naming_quiet before quiet = quiet_fold (naming_under (limits_of before)) before quiet

naming_limited : (before : List Form) (name : List ℕ) (value : Option ℕ) → list_all is_before_limits before ≡ true
    → naming_of (before ++ form.Limit name value ∷ []) ≡ naming_under (limits_of (before ++ form.Limit name value ∷ []))
unfolding naming_of
naming_limited before name value quiet =
    let under : Naming = naming_under (limits_of (before ++ form.Limit name value ∷ [])) in
    fold_push naming_behind under before (form.Limit name value) ∙ quiet_fold under before quiet

abbrev pub limits_with : Option Limit → Option ℕ → Limits → Limits
limits_with o (Some value) limits = set_limit o value limits
limits_with o None limits = limits

limits_line : (limits : Limits) (name : List ℕ) (value : Option ℕ) → limits_behind limits (form.Limit name value) ≡ limits_with (named_limit name) value limits
limits_line limits name (Some value) = refl
limits_line limits name None = refl

limited_by : (naming : Naming) (limits : Limits) (consumers : ℕ) (o : Option Limit) (value : Option ℕ) → naming ≡ naming_under limits
    → limited (head_with naming limits consumers) o value ≡ head_under (limits_with o value limits) consumers
limited_by naming limits consumers (Some one) (Some value) e = refl
limited_by naming limits consumers (Some one) None e = ap (λ (n : Naming). head_with n limits consumers) e
limited_by naming limits consumers None (Some value) e = ap (λ (n : Naming). head_with n limits consumers) e
limited_by naming limits consumers None None e = ap (λ (n : Naming). head_with n limits consumers) e

-- a limit behind silent lines and limits
pub limit_push : (before : List Form) (name : List ℕ) (value : Option ℕ) → list_all is_before_limits before ≡ true → limited (head_of before) (named_limit name) value ≡ head_of (before ++ form.Limit name value ∷ [])
unfolding head_of
limit_push before name value quiet =
    let line : Form = form.Limit name value in
    let made : limits_of (before ++ line ∷ []) ≡ limits_with (named_limit name) value (limits_of before) = limits_push before line ∙ limits_line (limits_of before) name value in
    limited_by (naming_of before) (limits_of before) (consumers_of before) (named_limit name) value (naming_quiet before quiet)
    ∙ (ap (λ (limits : Limits). head_under limits (consumers_of before)) (sym made)
    ∙ (ap (λ (naming : Naming). head_with naming (limits_of (before ++ line ∷ [])) (consumers_of before)) (sym (naming_limited before name value quiet))
    ∙ ap (λ word. head_with (naming_of (before ++ line ∷ [])) (limits_of (before ++ line ∷ [])) word) (sym (consumers_push before line))))

pub class_push : (before : List Form) (name : List ℕ) (kind : Kind) (enabled timed : Bool)
    → head_with (with_class (naming_in (head_of before)) name kind enabled timed) (head_of before).limits (head_of before).consumers ≡ head_of (before ++ form.Class name kind enabled timed ∷ [])
unfolding head_of
class_push before name kind enabled timed = head_push before (form.Class name kind enabled timed) refl

pub instrument_push : (before : List Form) (pattern : List ℕ) (enabled timed : Bool)
    → head_with (with_flags_like (naming_in (head_of before)) pattern enabled timed) (head_of before).limits (head_of before).consumers ≡ head_of (before ++ form.Instrument pattern enabled timed ∷ [])
unfolding head_of
instrument_push before pattern enabled timed = head_push before (form.Instrument pattern enabled timed) refl

pub consumer_push : (before : List Form) (name : List ℕ) (on : Bool)
    → record (head_of before) { consumers = set_consumer (named_consumer name) on (head_of before).consumers } ≡ head_of (before ++ form.Consumer name on ∷ [])
unfolding head_of
consumer_push before name on = head_push before (form.Consumer name on) refl

-- the line fixes nothing
abbrev pub IsIdle : Form → Type 0
IsIdle line = ((limits : Limits) → limits_behind limits line ≡ limits) × ((word : ℕ) → consumers_behind word line ≡ word) × ((naming : Naming) → naming_behind naming line ≡ naming)

pub idle_push : (before : List Form) (line : Form) → IsIdle line → head_of before ≡ head_of (before ++ line ∷ [])
unfolding head_of
idle_push before line (no_limit, no_consumer, no_class) =
    ap (λ (naming : Naming). head_with naming (limits_of before) (consumers_of before)) (sym (no_class (naming_of before)))
    ∙ (ap (λ word. head_with (naming_behind (naming_of before) line) (limits_of before) word) (sym (no_consumer (consumers_of before)))
    ∙ head_push before line (no_limit (limits_of before)))

-- an arm of the line's match, whose text was taken as bytes
pub limit_step : (before : List Form) (line : Form) (name bytes : List ℕ) (value : Option ℕ) (head after : Head) → line ≡ form.Limit name value → bytes ≡ name → after ≡ limited head (named_limit bytes) value
    → StandsIn before line → head ≡ head_of before → after ≡ head_of (before ++ line ∷ [])
limit_step before line name bytes value head after is same made stands known =
    made ∙ (ap (λ (one : Head). limited one (named_limit bytes) value) known
    ∙ (ap (λ (text : List ℕ). limited (head_of before) (named_limit text) value) same
    ∙ (limit_push before name value (subst (λ (one : Form). StandsIn before one) is stands)
    ∙ ap (λ (one : Form). head_of (before ++ one ∷ [])) (sym is))))

pub class_step : (before : List Form) (line : Form) (name bytes : List ℕ) (kind : Kind) (enabled timed : Bool) (head after : Head) → line ≡ form.Class name kind enabled timed → bytes ≡ name
    → after ≡ head_with (with_class (naming_in head) bytes kind enabled timed) head.limits head.consumers → head ≡ head_of before → after ≡ head_of (before ++ line ∷ [])
class_step before line name bytes kind enabled timed head after is same made known =
    made ∙ (ap (λ (one : Head). head_with (with_class (naming_in one) bytes kind enabled timed) one.limits one.consumers) known
    ∙ (ap (λ (text : List ℕ). head_with (with_class (naming_in (head_of before)) text kind enabled timed) (head_of before).limits (head_of before).consumers) same
    ∙ (class_push before name kind enabled timed ∙ ap (λ (one : Form). head_of (before ++ one ∷ [])) (sym is))))

pub instrument_step : (before : List Form) (line : Form) (pattern bytes : List ℕ) (enabled timed : Bool) (head after : Head) → line ≡ form.Instrument pattern enabled timed → bytes ≡ pattern
    → after ≡ head_with (with_flags_like (naming_in head) bytes enabled timed) head.limits head.consumers → head ≡ head_of before → after ≡ head_of (before ++ line ∷ [])
instrument_step before line pattern bytes enabled timed head after is same made known =
    made ∙ (ap (λ (one : Head). head_with (with_flags_like (naming_in one) bytes enabled timed) one.limits one.consumers) known
    ∙ (ap (λ (text : List ℕ). head_with (with_flags_like (naming_in (head_of before)) text enabled timed) (head_of before).limits (head_of before).consumers) same
    ∙ (instrument_push before pattern enabled timed ∙ ap (λ (one : Form). head_of (before ++ one ∷ [])) (sym is))))

pub consumer_step : (before : List Form) (line : Form) (name bytes : List ℕ) (on : Bool) (head after : Head) → line ≡ form.Consumer name on → bytes ≡ name
    → after ≡ record head { consumers = set_consumer (named_consumer bytes) on head.consumers } → head ≡ head_of before → after ≡ head_of (before ++ line ∷ [])
consumer_step before line name bytes on head after is same made known =
    made ∙ (ap (λ (one : Head). record one { consumers = set_consumer (named_consumer bytes) on one.consumers }) known
    ∙ (ap (λ (text : List ℕ). record (head_of before) { consumers = set_consumer (named_consumer text) on (head_of before).consumers }) same
    ∙ (consumer_push before name on ∙ ap (λ (one : Form). head_of (before ++ one ∷ [])) (sym is))))

-- a line of another form
pub idle_line : (line : Form) → ((name : List ℕ) (value : Option ℕ) → line ≡ form.Limit name value → ⊥) → ((name : List ℕ) (kind : Kind) (enabled timed : Bool) → line ≡ form.Class name kind enabled timed → ⊥)
    → ((name : List ℕ) (on : Bool) → line ≡ form.Consumer name on → ⊥) → ((pattern : List ℕ) (enabled timed : Bool) → line ≡ form.Instrument pattern enabled timed → ⊥) → IsIdle line
idle_line (form.Limit name value) no_limit no_class no_consumer no_instrument = absurd (no_limit name value refl)
idle_line (form.Class name kind enabled timed) no_limit no_class no_consumer no_instrument = absurd (no_class name kind enabled timed refl)
idle_line (form.Consumer name on) no_limit no_class no_consumer no_instrument = absurd (no_consumer name on refl)
idle_line (form.Instrument pattern enabled timed) no_limit no_class no_consumer no_instrument = absurd (no_instrument pattern enabled timed refl)
idle_line form.Silent no_limit no_class no_consumer no_instrument = (λ limits. refl, λ word. refl, λ naming. refl)
idle_line _ no_limit no_class no_consumer no_instrument = (λ limits. refl, λ word. refl, λ naming. refl)

pub idle_step : (before : List Form) (line : Form) (head : Head) → IsIdle line → head ≡ head_of before → head ≡ head_of (before ++ line ∷ [])
idle_step before line head idle known = known ∙ idle_push before line idle
