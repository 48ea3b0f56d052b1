use Rattle.std.proofs.Common.{ℕ, List, ◌++◌, ap, append_assoc, sym, ◌∙◌}
use Rattle.std.specs.Prelude.{codes, decimal}
use Rattle.pfs_view.specs.Refusals.{line_words}
use Rattle.pfs_view.proofs.refusals.put_line_words.Goals as goal

pub returns : goal.returns
unfolding line_words
returns c =
    let before = c.args.out.now.items in
    let front = codes "Line " in
    let number = decimal c.args.line in
    let back = codes " is the first faulty line: " in
    c.in_ok-extend_from_slice-2.ensures.items
    ∙ (ap (λ (z : List ℕ). z ++ back) (c.in_ok-put_u64.ensures.ok ∙ ap (λ (z : List ℕ). z ++ number) c.in_ok-extend_from_slice.ensures.items)
    ∙ (append_assoc (before ++ front) number back
    ∙ (append_assoc before front (number ++ back)
    ∙ ap (λ (z : List ℕ). before ++ z) (sym (append_assoc front number back)))))
