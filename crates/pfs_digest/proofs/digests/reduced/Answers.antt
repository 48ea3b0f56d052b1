use Rattle.std.proofs.Common.{[], ap, reverse, refl, ◌∙◌}
use Rattle.pfs_lexer.specs.TextItems.{items_of}
use Rattle.pfs_digest.specs.TokenPieces.{piece_of}
use Rattle.pfs_digest.specs.Stack.{finished}
use Rattle.pfs_digest.proofs.PassAnswers.{on-token, on-fault, on-end}
use Rattle.pfs_digest.proofs.digests.reduced.Goals as goal

pub tokens-preserved : goal.tokens-preserved
tokens-preserved c =
    let text = c.args.text.now in
    let same = c.as_bytes.ensures.value in
    on-token text (reverse c.tokens.stack.items) (reverse c.push.new.stack.items) c.in-Ok.token c.piece_of.result c.in-Some.item c.tokens.lexer c.next.new.self (finished text [] (items_of text))
    c.tokens.invariant c.in-Some.ensures.first c.in-Ok.is
    (c.piece_of.ensures ∙ ap (λ bytes. piece_of bytes c.in-Ok.token) same)
    c.in_ok-push-in-Ok.ensures

pub returns-in-Err : goal.returns-in-Err
returns-in-Err c =
    let text = c.args.text.now in
    on-fault text (reverse c.tokens.stack.items) c.in-Err.fault c.in-Some.item c.tokens.lexer c.next.new.self (finished text [] (items_of text))
    c.tokens.invariant c.in-Some.ensures.first c.in-Err.is

pub returns : goal.returns
returns c =
    let text = c.args.text.now in
    on-end text (reverse c.tokens.stack.items) c.tokens.lexer (finished text [] (items_of text)) c.tokens.invariant (c.in_default.ensures.none refl)
