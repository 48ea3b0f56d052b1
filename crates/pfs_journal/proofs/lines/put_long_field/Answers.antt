use Rattle.std.proofs.Common.{rules, suc, ◌≡◌, ◌++◌, ◌∷◌, [], ℕ, ◌+◌, ◌-◌, ◌<◌, ◌≤◌, List, Result, Ok, Err, OnOk, cond, length, take, drop, get_or, replicate, append-nil, ap, refl, sym, ◌∙◌, arith, length-drop}
use Rattle.std.proofs.Math.Seq.{drop-cons}
use Rattle.std.proofs.lemmas.Fmt.{length-decimal-le}
use Rattle.std.proofs.lemmas.List.{get_or-replicate, get_or-take, take_all}
use Rattle.std.specs.Result.{is_ok}
use Rattle.pfs_journal.specs.Spelling.{field_text}
use Rattle.pfs_journal.proofs.lines.put_long_field.Goals as goal

-- digits at the end of 21 spaces stand behind a space
behind_space : (digits spaces field : List ℕ) (start : ℕ) → start + length digits ≡ 21 → length digits ≤ 20 → drop start field ≡ digits ++ drop 21 spaces → take start field ≡ take start spaces
    → spaces ≡ replicate 21 32 → length field ≡ 21 → drop (start - 1) field ≡ 32 ∷ digits
behind_space digits spaces field start long few behind before are whole =
    let within : start - 1 < length field = omega arith in
    let low : start - 1 < start = omega arith in
    let next : suc (start - 1) ≡ start = omega arith in
    let none : drop 21 spaces ≡ [] = ap (drop 21) are in
    let space : get_or field (start - 1) 0 ≡ 32 =
    sym (get_or-take start field (start - 1) 0 low) ∙ (ap (λ z. get_or z (start - 1) 0) before
    ∙ (get_or-take start spaces (start - 1) 0 low ∙ (ap (λ z. get_or z (start - 1) 0) are ∙ get_or-replicate 21 (start - 1) 32 0 (omega arith)))) in
    drop-cons field (start - 1) 0 within
    ∙ (ap (λ b. b ∷ drop (suc (start - 1)) field) space ∙ ap (λ z. 32 ∷ z) (ap (λ n. drop n field) next ∙ (behind ∙ (ap (λ z. digits ++ z) none ∙ append-nil digits))))

pub write_digits-start-requires : goal.write_digits-start-requires
write_digits-start-requires c = search (rules, length-decimal-le 20)

pub overflow_sub-start : goal.overflow_sub-start
overflow_sub-start c = omega (arith, c.write_digits-start.ensures.start, length-decimal-le 20 c.args.number (omega arith) (omega arith) (omega arith))

where_ok : {A E : Type 0} (r : Result A E) (line now piece text : List ℕ) → now ≡ cond (is_ok r) (line ++ piece) line → piece ≡ text → OnOk r (now ≡ line ++ text)
where_ok (Ok x) line now piece text is same = is ∙ ap (λ z. line ++ z) same
where_ok (Err e) line now piece text is same = tt

pub returns : goal.returns
unfolding field_text
returns c =
    let w = c.write_digits-start in
    let e = c.extend_from_slice in
    let from : ℕ = w.result - 1 in
    let all : take (21 - from) (drop from w.new.buf) ≡ drop from w.new.buf = take_all (21 - from) (drop from w.new.buf) (omega (arith, length-drop from w.new.buf, w.auto.buf)) in
    where_ok e.result c.args.line.now.items e.new.self.items (take (21 - from) (drop from w.new.buf)) _ e.ensures.items
    (all ∙ behind_space _ _ w.new.buf w.result w.ensures.start (length-decimal-le 20 c.args.number (omega arith) (omega arith) (omega arith)) w.ensures.written w.ensures.before refl (omega (arith, w.auto.buf)))
