-- The lines that are known with one line more.
use Rattle.std.proofs.Common.{ℕ, ◌≡◌, ◌<◌, ◌&&◌, ◌||◌, inl, inr, Bool, true, false, List, [], ◌∷◌, ◌++◌, Option, Some, None, Ok, Err, get_or, length, refl, sym, ap, ◌∙◌, subst}
use Rattle.std.specs.Prelude.{◌==◌, All, slice_get}
use Rattle.std.specs.Cmp.Lexicographic.{pointwise, bytes_decides}
use Rattle.std.proofs.lemmas.Bool.{false≢true}
use Rattle.std.proofs.lemmas.List.Elements.{All-push}
use Rattle.std.proofs.lemmas.Option.{get_or_from_slice_get}
use Rattle.pfs_lemmas.proofs.Bools.{and_first}
use Rattle.pfs_rows.specs.declared.limits.Limits.{Limits}
use Rattle.pfs_classes.specs.declared.classes.ClassRef.{ClassRef}
use Rattle.pfs_classes.specs.declared.setting.TableName.{TableName}
use Rattle.pfs_classes.specs.declared.setting.DigestText.{DigestText}
use Rattle.pfs_script.specs.declared.finds.Finds.{Finds}
use Rattle.pfs_script.specs.declared.forms.Form.{Form}
use Rattle.pfs_script.specs.declared.known.KnownLine.{KnownLine}
use Rattle.pfs_script.specs.declared.known.KnownLines.{KnownLines}
use Rattle.pfs_script.specs.declared.reading.Reader.{Reader}
use Rattle.pfs_script.specs.declared.reading.ScriptFault.{ScriptFault}
use Rattle.pfs_script.specs.declared.reading.ScriptFault.TheVariants.{Bad, NoMemory}
use Rattle.pfs_script.specs.declared.reasons.Reason.{Reason}
use Rattle.pfs_script.specs.Finds.{with_table, with_digest, digests_of}
use Rattle.pfs_script.specs.Forms as forms
use Rattle.pfs_script.specs.Headings.{Head, head_of, limits_of, resolved}
use Rattle.pfs_script.specs.KnownLines.{IsAt, IsKnown, AreKnown}
use Rattle.pfs_script.specs.Reasons.{fault_of, next}
use Rattle.pfs_script.specs.ReaderAnswers.{IsBehind, Takes, Says}
use Rattle.pfs_script.specs.Senses.{class_in, number_in}
use Rattle.pfs_script.specs.Sessions.{is_phase}
use Rattle.pfs_script.proofs.FaultlessLines.{passes}
use Rattle.pfs_script.proofs.NextFinds.{head_limits, tables_push, digests_push}
use Rattle.pfs_script.proofs.StableLines.{settled_more}
use Rattle.pfs_script.proofs.ReaderSteps.{Idles, idles, any_stays, class_stays, settled_last}

module _ (old new : Reader) (before : List Form) (line : Form) (b : IsBehind old before) (m : IsBehind new (before ++ line ∷ [])) where
  more_tables : new.finds.tables ≡ with_table old.finds.tables line
  more_tables = m.finds.tables ∙ (tables_push before line ∙ ap (λ (all : List TableName). with_table all line) (sym b.finds.tables))

  more_digests : head_of before ≡ head_of (before ++ line ∷ []) → new.finds.digests ≡ with_digest old.heading.limits.digests old.finds.digests line
  more_digests same =
      let limits : limits_of (before ++ line ∷ []) ≡ limits_of before = sym (head_limits (before ++ line ∷ [])) ∙ (ap (λ (one : Head). one.limits) (sym same) ∙ head_limits before) in
      let most : limits_of before ≡ old.heading.limits = sym (ap (λ (one : Head). one.limits) b.head ∙ head_limits before) in
      m.finds.digests
      ∙ (ap (λ (one : Limits). digests_of one.digests (before ++ line ∷ [])) limits
      ∙ (digests_push (limits_of before).digests before line
      ∙ (ap (λ (all : List DigestText). with_digest (limits_of before).digests all line) (sym b.finds.digests)
      ∙ ap (λ (one : Limits). with_digest one.digests old.finds.digests line) most)))

  known_by : (bytes : List ℕ) (one : KnownLine) → Idles before line → IsKnown old.heading old.finds before bytes one → IsKnown new.heading new.finds (before ++ line ∷ []) bytes one
  known_by bytes one (inr (none, free)) k = absurd (false≢true (sym none ∙ k.behind))
  known_by bytes one (inl same) k =
      let head : new.heading ≡ old.heading = m.head ∙ (sym same ∙ sym b.head) in
      let kept = settled_more old.heading.limits.digests old.finds.tables old.finds.digests line one.form k.found.1 in
      record {
        said = k.said;
        kind = k.kind;
        class = k.class ∙ ap (λ (h : Head). class_in (resolved h) one.form) (sym head);
        found = rw (ap (λ (h : Head). h.limits.digests) head, more_tables, more_digests same) (kept.1 ∙ k.found.0, kept.0, k.found.2);
        behind = any_stays is_phase before line k.behind;
      }

  -- those that are known stay so
  pub known_more : (known : KnownLines) → fault_of before line ≡ None → AreKnown old.heading old.finds before known → AreKnown new.heading new.finds (before ++ line ∷ []) known
  known_more known none k i one within = let stands = get_or known.lines.items i one in known_by stands.text stands (idles before line (passes before line none)) (k i one within)

  -- and the line is known
  pub known_new : (bytes text : List ℕ) (class : Option ClassRef) (number : Option ℕ) → fault_of before line ≡ None → forms.form bytes ≡ Ok line → forms.HasItsKind line
      → class ≡ class_in (resolved old.heading) line → (starts many : Bool) → (new.place.front.has_phase && (starts || many)) ≡ true → number ≡ number_in new.finds.tables new.finds.digests line
      → text ≡ bytes → IsKnown new.heading new.finds (before ++ line ∷ []) text (record { text = text; form = line; class = class; number = number })
  known_new bytes text class number none said kind c starts many wanted n same = subst (λ (t : List ℕ). IsKnown new.heading new.finds (before ++ line ∷ []) t (record { text = t; form = line; class = class; number = number })) (sym same) (record {
    said = said;
    kind = kind;
    class = c ∙ (ap (λ (h : Head). class_in (resolved h) line) b.head ∙ (class_stays before line ∙ ap (λ (h : Head). class_in (resolved h) line) (sym m.head)));
    found = (sym n, settled_last new.heading.limits.digests new.finds before line m.settled, (passes before line none).statement);
    behind = sym m.place.front.phase ∙ and_first new.place.front.has_phase (starts || many) wanted;
  })

-- what is known of the line at a place
pub known_is : (heading : Head) (finds : Finds) (before : List Form) (known : KnownLines) (bytes : List ℕ) (place : ℕ) (line : KnownLine) → IsAt known bytes place → slice_get known.lines.items place ≡ Some line
    → AreKnown heading finds before known → IsKnown heading finds before bytes line
known_is heading finds before known bytes place line at stands k =
    let there : IsKnown heading finds before line.text line = subst (λ (one : KnownLine). IsKnown heading finds before one.text one) (get_or_from_slice_get known.lines.items place line line stands) (k place line at.0) in
    subst (λ (text : List ℕ). IsKnown heading finds before text line) (at.1 line stands) there

-- the same lines are known
pub known_same : (heading : Head) (finds : Finds) (before : List Form) (known more : KnownLines) → more.lines.items ≡ known.lines.items → AreKnown heading finds before known → AreKnown heading finds before more
known_same heading finds before known more same k = subst (λ (lines : List KnownLine). All (λ (line : KnownLine). IsKnown heading finds before line.text line) lines) (sym same) k

-- with a line that is kept
pub known_kept : (new : Reader) (before : List Form) (known more : KnownLines) (line : KnownLine) → more.lines.items ≡ known.lines.items ++ line ∷ [] → AreKnown new.heading new.finds before known
    → IsKnown new.heading new.finds before line.text line → AreKnown new.heading new.finds before more
known_kept new before known more line keeps k one =
    subst (λ (lines : List KnownLine). All (λ (line : KnownLine). IsKnown new.heading new.finds before line.text line) lines) (sym keeps) (All-push (λ (line : KnownLine). IsKnown new.heading new.finds before line.text line) known.lines.items line k one)

-- a line at a place whose text is the same
pub is_there : (known : KnownLines) (bytes : List ℕ) (place : ℕ) (line : KnownLine) → place < length known.lines.items → line ≡ get_or known.lines.items place line → pointwise ◌==◌ line.text bytes ≡ true → IsAt known bytes place
is_there known bytes place line within stands same = (
  within,
  λ (other : KnownLine) is. ap (λ (one : KnownLine). one.text) (sym (get_or_from_slice_get known.lines.items place other line is) ∙ sym stands) ∙ (bytes_decides line.text bytes).0 same,
)

-- what the answer to a line tells of its bytes

pub next_says : (before : List Form) (bytes : List ℕ) (line : Form) → forms.form bytes ≡ Ok line → fault_of before line ≡ None → next before bytes ≡ Ok line
unfolding next
next_says before bytes line f none = rw (f, none) refl

next_some : (before : List Form) (bytes : List ℕ) (line : Form) (reason : Reason) → forms.form bytes ≡ Ok line → fault_of before line ≡ Some reason → next before bytes ≡ Err reason
unfolding next
next_some before bytes line reason f some = rw (f, some) refl

pub next_unsaid : (before : List Form) (bytes : List ℕ) (reason : Reason) → forms.form bytes ≡ Err reason → next before bytes ≡ Err reason
unfolding next
next_unsaid before bytes reason f = rw f refl

pub says_fault : (new after : Reader) (known : KnownLines) (before : List Form) (bytes : List ℕ) (line : Form) (fault : ScriptFault) → forms.form bytes ≡ Ok line → Takes new before line (Err fault) → Says after known before bytes (Err fault)
says_fault new after known before bytes line (Bad number reason) f t = (t.0, next_some before bytes line reason f t.1)
says_fault new after known before bytes line NoMemory f t = tt
