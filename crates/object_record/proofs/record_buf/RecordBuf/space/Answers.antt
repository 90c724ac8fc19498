use Rattle.std.proofs.Common.{◌≡◌, ℕ, List, ◌++◌, take, drop, length, ◌∙◌, ap, refl}
use Rattle.long_names.specs.declared.limits.TheConstants.{LONGEST_RECORD}
use Rattle.object_record.proofs.record_buf.RecordBuf.space.Goals as goal

pub returns : goal.returns
returns c =
    let len : c.self.inside.bytes.len ≡ LONGEST_RECORD = c.self.inside.bytes.ok.0 ∙ c.self.invariant in
    ((refl, λ w. ap (λ (n : ℕ). take n (w ++ drop (length w) c.self.inside.bytes.items)) len ∙ ap (λ (t : List ℕ). take LONGEST_RECORD (w ++ drop (length w) t)) c.self.view_is), record { lends = tt; bytes = c.deref_mut.ensures.value ∙ c.self.view_is; len = ap length c.deref_mut.ensures.value ∙ c.self.invariant })
