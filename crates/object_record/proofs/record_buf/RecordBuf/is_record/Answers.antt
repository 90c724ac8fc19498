use Rattle.std.proofs.Common.{◌≡◌, ℕ, List, sym, ap, subst, ◌∙◌}
use Rattle.object_record.specs.Buffer.{long_at, raw_of, HasRecord}
use Rattle.std.proofs.lemmas.Bool.{eqb-true, eq-eqb}
use Rattle.object_record.proofs.record_buf.RecordBuf.is_record.Goals as goal

pub returns-then-long_at-get : goal.returns-then-long_at-get
unfolding raw_of
returns-then-long_at-get c =
    let same : long_at c.args.self.now 0 ≡ c.args.name = ap (λ (t : List ℕ). long_at t 0) (sym (c.deref.ensures.value ∙ c.self.view_is)) ∙ sym c.long_at.ensures ∙ c.if-long_at-get.true ∙ c.get.ensures.value in
    let view = c.deref-then-long_at-get.ensures.value ∙ c.self.view_is in
    (λ yes. (subst HasRecord view (c.is_laid.ensures.0 yes), same), λ h. c.is_laid.ensures.1 (subst HasRecord (sym view) h.0))

pub returns-else-long_at-get : goal.returns-else-long_at-get
unfolding raw_of
returns-else-long_at-get c =
    (λ yes. absurd (c.if-long_at-get.false (eqb-true _ _ yes)), λ h. eq-eqb _ _ (c.long_at.ensures ∙ ap (λ (t : List ℕ). long_at t 0) (c.deref.ensures.value ∙ c.self.view_is) ∙ h.1 ∙ sym c.get.ensures.value))
