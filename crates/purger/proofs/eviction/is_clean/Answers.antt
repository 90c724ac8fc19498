use Rattle.std.proofs.Common.{◌≡◌, true, false, Bool, ap, sym, ◌∙◌, IsTrue, refl}
use Rattle.std.proofs.Common.{not}
use Rattle.object_table.specs.declared.entry.Entry.{Entry}
use Rattle.leaf_lambda.specs.Parts.{core_of}
use Rattle.purger.proofs.eviction.is_clean.Goals as goal

pub used_entry-e-requires : goal.used_entry-e-requires
unfolding core_of
used_entry-e-requires c = c.requires.used

clean-of : (e f : Entry) → e ≡ f → e.flags.fresh ≡ false → IsTrue (not e.flags.changed) → (f.flags.fresh ≡ false) × (f.flags.changed ≡ false)
clean-of e f is fresh h = (ap (λ (e : Entry). e.flags.fresh) (sym is) ∙ fresh, ap (λ (e : Entry). e.flags.changed) (sym is) ∙ go e.flags.changed h)
  where
    go : (b : Bool) → IsTrue (not b) → b ≡ false
    go true h = absurd (cc)
    go false h = refl

pub returns : goal.returns
unfolding core_of
returns c = record { clean = λ h. clean-of c.used_entry-e.result _ c.used_entry-e.ensures c.if-e.false h }
