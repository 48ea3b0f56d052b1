-- The one pass over a text finds exactly its lines, or exactly its first fault.
use Rattle.std.proofs.Common.{ℕ, ◌≡◌, ◌+◌, ◌<◌, ◌⊎◌, inl, inr, Bool, true, false, cond, List, [], ◌∷◌, ◌++◌, length, Result, Ok, Err, sym, ap, ◌∙◌, subst, refl, arith, append_assoc, append-nil, length-append}
use Rattle.pfs_script.specs.declared.forms.Form.{Form}
use Rattle.pfs_script.specs.declared.reasons.Reason.{Reason}
use Rattle.pfs_script.specs.declared.reasons.Reason.TheVariants.{OutOfPlace}
use Rattle.pfs_script.specs.LineCounts.{is_in_repeat}
use Rattle.pfs_script.specs.Reasons.{next}
use Rattle.pfs_script.specs.Blocks.{sense_of, phases_of}
use Rattle.pfs_script.specs.Scripts.{parts_of, Begins, IsText, IsScript, IsFirstFault, IsSetting, AreAlike, IsBad, Fault, lines_from, script_of, open_reason, IsExact}
use Rattle.pfs_classes.specs.declared.setting.Setting.{Setting}
use Rattle.pfs_script.specs.declared.blocks.Phase.{Phase}
use Rattle.pfs_script.proofs.FirstLines.{some_parts}
use Rattle.pfs_script.proofs.PassSteps.{says_line, says_fault, says_all, says_undone, says_open}

result_cases : {A B : Type 0} (r : Result A B) → ((x : A) × (r ≡ Ok x)) ⊎ ((y : B) × (r ≡ Err y))
result_cases (Ok x) = inl (x, refl)
result_cases (Err y) = inr (y, refl)

some_more : (raws : List (List ℕ)) (bad : List ℕ) (more : List (List ℕ)) → 0 < length (raws ++ bad ∷ more)
some_more raws bad more = omega (arith, length-append raws (bad ∷ more))

-- lines that begin a script, and nothing behind them, are what the pass gives
lines_are_found : (before : List Form) (raws : List (List ℕ)) (lines : List Form) → Begins before raws lines → is_in_repeat (before ++ lines) ≡ false → lines_from before (raws ++ [] ∷ []) ≡ Ok (before ++ lines)
lines_are_found before [] [] b done = says_all before [] refl (rw append-nil at done) ∙ ap Ok (sym (append-nil before))
lines_are_found before [] (line ∷ lines) b done = absurd b
lines_are_found before (raw ∷ raws) [] b done = absurd b
lines_are_found before (raw ∷ raws) (line ∷ lines) b done =
    says_line before raw (raws ++ [] ∷ []) line (some_more raws [] []) b.0
    ∙ (lines_are_found (before ++ line ∷ []) raws lines b.1 (ap is_in_repeat (append_assoc before (line ∷ []) lines) ∙ done) ∙ ap Ok (append_assoc before (line ∷ []) lines))

-- a faulty part behind lines that begin a script is what the pass stops at
fault_is_found : (before : List Form) (raws : List (List ℕ)) (lines : List Form) (bad : List ℕ) (more : List (List ℕ)) (reason : Reason) (number : ℕ) → number ≡ length before + length raws + 1 → Begins before raws lines → IsBad (before ++ lines) bad more reason → lines_from before (raws ++ bad ∷ more) ≡ Err (record { number = number; reason = reason })
fault_is_found before [] [] [] [] reason number n b h =
    says_undone before [] number (omega arith) refl (ap is_in_repeat (sym (append-nil before)) ∙ h.0) ∙ ap (λ r. Err (record { number = number; reason = r })) (sym h.1)
fault_is_found before [] [] (byte ∷ bytes) [] reason number n b h = says_open before (byte ∷ bytes) number (omega arith) (omega arith) ∙ ap (λ r. Err (record { number = number; reason = r })) (sym h)
fault_is_found before [] [] bad (part ∷ parts) reason number n b h = says_fault before bad (part ∷ parts) reason number (omega arith) (omega arith) (rw append-nil at h)
fault_is_found before [] (line ∷ lines) bad more reason number n b h = absurd b
fault_is_found before (raw ∷ raws) [] bad more reason number n b h = absurd b
fault_is_found before (raw ∷ raws) (line ∷ lines) bad more reason number n b h =
    says_line before raw (raws ++ bad ∷ more) line (some_more raws bad more) b.0
    ∙ fault_is_found (before ++ line ∷ []) raws lines bad more reason number (omega (arith, length-append before (line ∷ []))) b.1 (subst (λ z. IsBad z bad more reason) (sym (append_assoc before (line ∷ []) lines)) h)

-- lines that the pass gives do begin a script
pub record Found (before : List Form) (parts : List (List ℕ)) (all : List Form) : Type 0 where
  pub lines : List Form
  pub raws : List (List ℕ)
  pub together : all ≡ before ++ lines
  pub are_all : parts ≡ raws ++ [] ∷ []
  pub begin : Begins before raws lines
  pub done : is_in_repeat all ≡ false

found_end : (before all : List Form) (b : Bool) → is_in_repeat before ≡ b → cond {A = Result (List Form) Fault} b (Err (record { number = length before + 1; reason = OutOfPlace })) (Ok before) ≡ Ok all → Found before ([] ∷ []) all
found_end before all true is e = cc
found_end before all false is e =
    let q : before ≡ all = cc in
    record { lines = []; raws = []; together = sym q ∙ sym (append-nil before); are_all = refl; begin = tt; done = ap is_in_repeat (sym q) ∙ is }

found_lines : (before : List Form) (parts : List (List ℕ)) (all : List Form) → 0 < length parts → lines_from before parts ≡ Ok all → Found before parts all
unfolding lines_from
found_lines before [] all h e = absurd (omega arith)
found_lines before ([] ∷ []) all h e = found_end before all (is_in_repeat before) refl e
found_lines before ((byte ∷ bytes) ∷ []) all h e = cc
found_lines before (bytes ∷ (more ∷ parts)) all h e =
    elim (result_cases (next before bytes)) [
      | inl w ↦
          let rest = found_lines (before ++ w.0 ∷ []) (more ∷ parts) all (omega arith) (sym (says_line before bytes (more ∷ parts) w.0 (omega arith) w.1) ∙ e) in
          record {
            lines = w.0 ∷ rest.lines;
            raws = bytes ∷ rest.raws;
            together = rest.together ∙ append_assoc before (w.0 ∷ []) rest.lines;
            are_all = ap (λ z. bytes ∷ z) rest.are_all;
            begin = (w.1, rest.begin);
            done = rest.done;
          }
      | inr w ↦ let q = says_fault before bytes (more ∷ parts) w.0 (length before + 1) refl (omega arith) w.1 in cc
    ]

-- a fault that the pass gives stands behind lines that begin a script
pub record FoundFault (before : List Form) (parts : List (List ℕ)) (number : ℕ) (reason : Reason) : Type 0 where
  pub raws : List (List ℕ)
  pub lines : List Form
  pub bad : List ℕ
  pub more : List (List ℕ)
  pub number_is : number ≡ length before + length raws + 1
  pub are_all : parts ≡ raws ++ bad ∷ more
  pub begin : Begins before raws lines
  pub is_bad : IsBad (before ++ lines) bad more reason

same_fault : (m n : ℕ) (r s : Reason) → ◌≡◌ {A = Result (List Form) Fault} (Err (record { number = m; reason = r })) (Err (record { number = n; reason = s })) → (m ≡ n) × (r ≡ s)
same_fault m n r s e =
    let q : ◌≡◌ {A = Fault} (record { number = m; reason = r }) (record { number = n; reason = s }) = cc in
    (ap (λ (f : Fault). f.number) q, ap (λ (f : Fault). f.reason) q)

undone_end : (before : List Form) (number : ℕ) (reason : Reason) (b : Bool) → is_in_repeat before ≡ b
    → cond {A = Result (List Form) Fault} b (Err (record { number = length before + 1; reason = OutOfPlace })) (Ok before) ≡ Err (record { number = number; reason = reason }) → FoundFault before ([] ∷ []) number reason
undone_end before number reason true is e =
    let q = same_fault (length before + 1) number OutOfPlace reason e in
    record { raws = []; lines = []; bad = []; more = []; number_is = omega (arith, q.0); are_all = refl; begin = tt; is_bad = (ap is_in_repeat (append-nil before) ∙ is, sym q.1) }
undone_end before number reason false is e = cc

found_fault : (before : List Form) (parts : List (List ℕ)) (number : ℕ) (reason : Reason) → 0 < length parts → lines_from before parts ≡ Err (record { number = number; reason = reason }) → FoundFault before parts number reason
unfolding lines_from
found_fault before [] number reason h e = absurd (omega arith)
found_fault before ([] ∷ []) number reason h e = undone_end before number reason (is_in_repeat before) refl e
found_fault before ((byte ∷ bytes) ∷ []) number reason h e =
    let q = same_fault (length before + 1) number (open_reason (byte ∷ bytes)) reason e in
    record { raws = []; lines = []; bad = byte ∷ bytes; more = []; number_is = omega (arith, q.0); are_all = refl; begin = tt; is_bad = sym q.1 }
found_fault before (bytes ∷ (more ∷ parts)) number reason h e =
    elim (result_cases (next before bytes)) [
      | inl w ↦
          let rest = found_fault (before ++ w.0 ∷ []) (more ∷ parts) number reason (omega arith) (sym (says_line before bytes (more ∷ parts) w.0 (omega arith) w.1) ∙ e) in
          record {
            raws = bytes ∷ rest.raws;
            lines = w.0 ∷ rest.lines;
            bad = rest.bad;
            more = rest.more;
            number_is = omega (arith, rest.number_is, length-append before (w.0 ∷ []));
            are_all = ap (λ z. bytes ∷ z) rest.are_all;
            begin = (w.1, rest.begin);
            is_bad = subst (λ z. IsBad z rest.bad rest.more reason) (append_assoc before (w.0 ∷ []) rest.lines) rest.is_bad;
          }
      | inr w ↦
          let q = same_fault (length before + 1) number w.0 reason (sym (says_fault before bytes (more ∷ parts) w.0 (length before + 1) refl (omega arith) w.1) ∙ e) in
          record { raws = []; lines = []; bad = bytes; more = more ∷ parts; number_is = omega (arith, q.0); are_all = refl; begin = tt; is_bad = rw append-nil (w.1 ∙ ap Err q.1) }
    ]

-- the pass gives the lines of a text that says them, and nothing else
pub text_is_found : (text : List ℕ) (lines : List Form) → IsText text lines → script_of text ≡ Ok lines
text_is_found text lines s = rw s.1 (lines_are_found [] s.0 lines s.2 s.3)

pub found_text : (text : List ℕ) (lines : List Form) → script_of text ≡ Ok lines → IsText text lines
found_text text lines e = let f = found_lines [] (parts_of text) lines (some_parts _ text) e in (f.raws, f.are_all, subst (λ z. Begins [] f.raws z) (sym f.together) f.begin, f.done)

-- the pass stops at the first fault, and at nothing else
pub first_is_found : (text : List ℕ) (number : ℕ) (reason : Reason) → IsFirstFault text number reason → script_of text ≡ Err (record { number = number; reason = reason })
unfolding IsFirstFault
first_is_found text number reason s = rw s.5 (fault_is_found [] s.0 s.1 s.2 s.3 reason number (omega (arith, s.4)) s.6 s.7)

pub found_first : (text : List ℕ) (number : ℕ) (reason : Reason) → script_of text ≡ Err (record { number = number; reason = reason }) → IsFirstFault text number reason
unfolding IsFirstFault
found_first text number reason e = let f = found_fault [] (parts_of text) number reason (some_parts _ text) e in (f.raws, f.lines, f.bad, f.more, omega (arith, f.number_is), f.are_all, f.begin, f.is_bad)

-- the parts of a script
pub script_made : (text : List ℕ) (lines : List Form) (setting : Setting) (phases : List Phase) → IsText text lines → IsSetting lines setting
    → phases ≡ phases_of (sense_of lines) lines → IsScript text setting phases
unfolding IsScript
script_made text lines setting phases t s p = (lines, t, s, p)

same_lines : (a b : List Form) → ◌≡◌ {A = Result (List Form) Fault} (Ok a) (Ok b) → a ≡ b
same_lines a b e = cc

not_both : (a : List Form) (f : Fault) → ◌≡◌ {A = Result (List Form) Fault} (Ok a) (Err f) → ⊥
not_both a f e = cc

-- two settings of the same lines
alike : (lines : List Form) (a b : Setting) → IsSetting lines a → IsSetting lines b → AreAlike a b
alike lines a b s t = record {
  names = s.names ∙ sym t.names;
  classes = s.classes ∙ sym t.classes;
  tables = s.tables ∙ sym t.tables;
  digests = s.digests ∙ sym t.digests;
  limits = s.limits ∙ sym t.limits;
  consumers = s.consumers ∙ sym t.consumers;
}

excludes : (text : List ℕ) (setting : Setting) (phases : List Phase) (number : ℕ) (reason : Reason) → IsScript text setting phases → IsFirstFault text number reason → ⊥
unfolding IsScript
excludes text setting phases number reason s f = not_both s.0 _ (sym (text_is_found text s.0 s.1) ∙ first_is_found text number reason f)

one_script : (text : List ℕ) (a b : Setting) (p q : List Phase) → IsScript text a p → IsScript text b q → AreAlike a b × (p ≡ q)
unfolding IsScript
one_script text a b p q s t =
    let e = same_lines s.0 t.0 (sym (text_is_found text s.0 s.1) ∙ text_is_found text t.0 t.1) in
    (alike s.0 a b s.2 (subst (λ z. IsSetting z b) (sym e) t.2), s.3 ∙ (rw e refl ∙ sym t.3))

pub exactly : IsExact
exactly = record {
  excludes = excludes;
  one_fault = λ text m n r s a b. same_fault m n r s (sym (first_is_found text m r a) ∙ first_is_found text n s b);
  one_script = one_script;
}
