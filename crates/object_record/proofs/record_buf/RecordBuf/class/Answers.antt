use Rattle.std.proofs.Common.{◌≡◌, ℕ, List, ◌∙◌, ap, sym, subst}
use Rattle.std.specs.Prelude.{IfSome, Option}
use Rattle.long_names.specs.Names.{IsName}
use Rattle.object_record.specs.Buffer.{long_at, raw_of}
use Rattle.object_record.proofs.record_buf.RecordBuf.class.Goals as goal

pub unwrap-requires : goal.unwrap-requires
unfolding raw_of
unwrap-requires c =
    let same : c.long_at.result ≡ long_at c.args.self.now 4 = c.long_at.ensures ∙ ap (λ (t : List ℕ). long_at t 4) (c.deref.ensures.value ∙ c.self.view_is) in
    c.new.ensures.name.1 (subst IsName (sym same) c.requires.is.class.0)

pub returns : goal.returns
unfolding raw_of
returns c =
    let same : c.long_at.result ≡ long_at c.args.self.now 4 = c.long_at.ensures ∙ ap (λ (t : List ℕ). long_at t 4) (c.deref.ensures.value ∙ c.self.view_is) in
    let P : Option ℕ → Type 0 = λ o. IfSome o (λ n. n ≡ c.long_at.result) in
    subst P c.unwrap.ensures c.new.ensures.value ∙ same
