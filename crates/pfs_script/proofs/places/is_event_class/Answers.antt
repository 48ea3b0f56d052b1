use Rattle.std.proofs.Common.{ℕ, ◌≡◌, ◌∙◌, Bool, false, true, not, List, sym, ap}
use Rattle.std.specs.Prelude.{is_some}
use Rattle.std.specs.Str.{bytes_eq}
use Rattle.pfs_script.specs.Headings.{Head, head_of, resolved, is_known}
use Rattle.pfs_script.specs.declared.forms.Form.{Form}
use Rattle.pfs_script.proofs.HeadLemmas.{knows_resolved}
use Rattle.pfs_script.proofs.places.is_event_class.Goals as goal

known_as : (named : Bool) (head : Head) (before : List Form) (name : List ℕ) → named ≡ is_some (resolved head name) → head ≡ head_of before → named ≡ is_known before name
known_as named head before name e h = e ∙ (ap (λ (one : Head). is_some (resolved one name)) h ∙ knows_resolved before name)

pub returns-then-is_named : goal.returns-then-is_named
returns-then-is_named c before e =
    let known : is_known before c.args.name.now ≡ true = sym (known_as c.args.is_named c.args.heading.now before c.args.name.now c.requires e) ∙ c.if-is_named.true in
    rw known (c.ne.ensures ∙ ap (λ (text : List ℕ). not (bytes_eq c.args.name.now text)) c.as_slice.ensures)

pub returns-else-is_named : goal.returns-else-is_named
returns-else-is_named c before e =
    let known : is_known before c.args.name.now ≡ false = sym (known_as c.args.is_named c.args.heading.now before c.args.name.now c.requires e) ∙ c.if-is_named.false in
    rw known c.if-is_named.false
