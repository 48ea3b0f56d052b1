use Rattle.std.proofs.Common.{ℕ, List, ◌≡◌, ◌<◌, length, get_or, ap, subst, sym, ◌∙◌}
use Rattle.std.specs.Prelude.{◌==◌}
use Rattle.std.specs.Cmp.Lexicographic.{pointwise}
use Rattle.pfs_script.specs.declared.known.KnownLine.{KnownLine}
use Rattle.pfs_script.proofs.KnownLines.{is_there}
use Rattle.pfs_script.proofs.known.KnownLines.is_at.Goals as goal

pub returns-in-Some : goal.returns-in-Some
returns-in-Some c same =
    let line = c.in-Some.line.now in
    let found = c.in-Some.ensures.lookup in
    let within = subst (λ (lines : List KnownLine). c.args.place < length lines) c.deref.ensures.value found.3.0 in
    let stands = subst (λ (lines : List KnownLine). line ≡ get_or lines c.args.place line) c.deref.ensures.value found.1 in
    is_there c.args.self.now c.args.bytes.now c.args.place line within stands (ap (λ (text : List ℕ). pointwise ◌==◌ line.text text) (sym c.new.ensures) ∙ (sym c.eq.ensures ∙ same))
