use Rattle.std.proofs.Common.{◌≡◌, ℕ, ◌+◌, ◌-◌, Bool, true, false, not, List, length, take, drop, Option, None, Some, refl, sym, ap, ◌∙◌, subst, arith, length-drop}
use Rattle.std.proofs.lemmas.Bool.{false≢true}
use Rattle.std.proofs.Math.Seq.{take-length}
use Rattle.pfs_text.specs.ScanSteps.{MayBeginAt}
use Rattle.pfs_text.proofs.Literals.{no_later, later_moves}
use Rattle.pfs_text.proofs.pattern.later_start.Goals as goal

all_left : (n : ℕ) (xs : List ℕ) → take (length xs - n) (drop n xs) ≡ drop n xs
all_left n xs = ap (λ (m : ℕ). take m (drop n xs)) (sym (length-drop n xs)) ∙ take-length (drop n xs)

-- what was found in the rests of pattern and text
in_rests : (pattern text : List ℕ) (m n : ℕ) (found : Option ℕ) → MayBeginAt (take (length pattern - m) (drop m pattern)) (take (length text - n) (drop n text)) found → MayBeginAt (drop m pattern) (drop n text) found
in_rests pattern text m n found told =
    subst (λ (xs : List ℕ). MayBeginAt (drop m pattern) xs found) (all_left n text)
    (subst (λ (xs : List ℕ). MayBeginAt xs (take (length text - n) (drop n text)) found) (all_left m pattern) told)

is_true : (b : Bool) → not b ≡ false → b ≡ true
is_true true e = refl
is_true false e = absurd (false≢true (sym e))

pub returns-in-None : goal.returns-in-None
returns-in-None c =
    let none = in_rests c.args.pattern.now c.args.text.now c.args.scan.begin (c.args.scan.start + 1) None c.in-None.ensures in
    (λ no. absurd (false≢true no), λ fits. absurd (no_later c.args.pattern.now c.args.text.now c.args.scan c.requires.stuck none fits))

pub returns-in-Some : goal.returns-in-Some
returns-in-Some c =
    let found = in_rests c.args.pattern.now c.args.text.now c.args.scan.begin (c.args.scan.start + 1) (Some c.in-Some.skipped) c.in-Some.ensures in
    let within = c.requires.stands.in_text in
    later_moves c.args.pattern.now c.args.text.now c.args.scan c.in-Some.skipped c.requires.stands (is_true c.args.scan.moves c.if-not-scan.false) (omega arith) c.requires.stuck found
