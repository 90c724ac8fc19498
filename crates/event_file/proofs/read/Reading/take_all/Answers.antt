use Rattle.std.proofs.Common.{◌+◌, ◌++◌, ◌∷◌, List, ℕ, drop, get_or, subst, sym, ap, ◌∙◌, Err}
use Rattle.event_file.specs.Text.{IsBadAt}
use Rattle.event_file.specs.Reading.{begun_text}
use Rattle.event_file.proofs.ReadLaws.{passed, text-at}
use Rattle.event_file.proofs.read.Reading.take_all.Goals as goal

pub returns-in_err-take-clause-bad : goal.returns-in_err-take-clause-bad
returns-in_err-take-clause-bad c = λ line rest was.
    let fault = passed c.from_residual.result c.in_err-take.field-0.0 _ c.from_residual.ensures.1 was in
    let i = c.loop-byte.byte-index in
    let bytes = c.args.bytes.now in
    let bad = c.in_err-take.ensures.bad line (drop (i + 1) bytes ++ rest) (ap (λ f. Err f) fault) in
    subst (IsBadAt line) (ap (λ (s : List ℕ). s ++ get_or bytes i 0 ∷ (drop (i + 1) bytes ++ rest)) c.loop-byte.invariant ∙ sym (text-at (begun_text c.args.self.now) bytes rest i c.loop-byte-test.true)) bad
