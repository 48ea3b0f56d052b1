use Rattle.std.proofs.Common.{refl, ◌++◌, ◌∙◌, List, ℕ}
use Rattle.std.specs.Prelude.{codes, decimal}
use Rattle.pfs_view.proofs.RefusalReadings.{refusal_cut}
use Rattle.pfs_view.proofs.refusals.guess.Goals as goal

-- what stands behind the line's number, and behind the first words
behind_line : ℕ → List ℕ
behind_line reason = codes " reason " ++ (decimal reason ++ codes "\n")

pub returns : goal.returns
unfolding behind_line
returns c = λ line reason low high is.
    let numbers = c.in_ok-numbers.ensures (decimal line ++ behind_line reason) (is ∙ refusal_cut line reason) in
    let first = c.in_ok-line.ensures line (behind_line reason) low refl numbers in
    let number = c.in_ok-number.ensures (decimal reason ++ codes "\n") first.1 in
    let second = c.in_ok-reason.ensures reason (codes "\n") high refl number in
    (first.0, second.0)

pub returns-in_err-numbers : goal.returns-in_err-numbers
unfolding behind_line
returns-in_err-numbers c = λ line reason low high is.
    rw c.from_residual.ensures (c.in_err-numbers.ensures (decimal line ++ behind_line reason) (is ∙ refusal_cut line reason))

pub returns-in_err-line : goal.returns-in_err-line
unfolding behind_line
returns-in_err-line c = λ line reason low high is.
    let numbers = c.in_ok-numbers.ensures (decimal line ++ behind_line reason) (is ∙ refusal_cut line reason) in
    rw c.from_residual-in_err-line.ensures (c.in_err-line.ensures line (behind_line reason) low refl numbers)

pub returns-in_err-number : goal.returns-in_err-number
unfolding behind_line
returns-in_err-number c = λ line reason low high is.
    let numbers = c.in_ok-numbers.ensures (decimal line ++ behind_line reason) (is ∙ refusal_cut line reason) in
    let first = c.in_ok-line.ensures line (behind_line reason) low refl numbers in
    rw c.from_residual-in_err-number.ensures (c.in_err-number.ensures (decimal reason ++ codes "\n") first.1)

pub returns-in_err-reason : goal.returns-in_err-reason
unfolding behind_line
returns-in_err-reason c = λ line reason low high is.
    let numbers = c.in_ok-numbers.ensures (decimal line ++ behind_line reason) (is ∙ refusal_cut line reason) in
    let first = c.in_ok-line.ensures line (behind_line reason) low refl numbers in
    let number = c.in_ok-number.ensures (decimal reason ++ codes "\n") first.1 in
    rw c.from_residual-in_err-reason.ensures (c.in_err-reason.ensures reason (codes "\n") high refl number)
