use Rattle.std.proofs.Common.{◌≡◌, sym, subst}
use Rattle.std.proofs.lemmas.List.Elements.{All-push}
use Rattle.st80_code.specs.Decoding.{line_at}
use Rattle.st80_code.proofs.CoverLaws.{cover_more}
use Rattle.st80_code.proofs.decoding.lines.Goals as goal

-- the next line begins where the code is covered so far
pub loop-at-preserved : goal.loop-at-preserved
loop-at-preserved c =
    let line = c.decode-line.ensures in
    let covers = cover_more 0 _ _ _ c.loop-at.invariant.1 line.begins line.some in
    let each = All-push (λ line. line ≡ line_at c.args.code.now line.at) _ _ c.loop-at.invariant.2 (subst (λ n. c.decode-line.result ≡ line_at c.args.code.now n) (sym line.begins) line.line) in
    (line.within, rw c.in_ok-push.ensures.items covers, rw c.in_ok-push.ensures.items each)
