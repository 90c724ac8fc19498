use Rattle.std.proofs.Common.{◌≡◌, ℕ, true, false, Bool, refl, sym, ◌∙◌, ap, arith}
use Rattle.std.proofs.Common.{not, eqb}
use Rattle.std.proofs.lemmas.Grind.{common_steps}
use Rattle.long_names.specs.Record.{kind_number}
use Rattle.leaf_lambda.proofs.ValueLaws.{same-kind}
use Rattle.core_view.proofs.Core.{placed-used}
use Rattle.object_table.specs.declared.entry.Entry.{Entry}
use Rattle.leaf_lambda.specs.Parts.{core_of}
use Rattle.leaf_lambda.proofs.parts.is_copy.Goals as goal

pub used_entry-e-requires : goal.used_entry-e-requires
unfolding core_of
used_entry-e-requires c = placed-used ((core_of c.args.p.now).entries c.args.s.0).state c.args.at.place c.requires.place

no : false ≡ true → ⊥
no e = cc

not-true : (b : Bool) → not b ≡ true → b ≡ true → ⊥
not-true true e f = cc
not-true false e f = cc

not-false : (b : Bool) → not b ≡ false → b ≡ true
not-false true e = refl
not-false false e = cc

eqb-same : (n m : ℕ) → n ≡ m → eqb n m ≡ true
eqb-same n m e = grind (arith, common_steps)

eqb-is : (n m : ℕ) → eqb n m ≡ true → n ≡ m
eqb-is n m e = grind (arith, common_steps)

pub returns-then-ne : goal.returns-then-ne
unfolding core_of
returns-then-ne c = (
  λ is. absurd (no is),
  λ copy. absurd (not-true (eqb c.name.result c.used_entry-e.result.name) (sym c.ne.ensures ∙ c.if-ne.true)
      (eqb-same c.name.result c.used_entry-e.result.name (c.name.ensures ∙ copy.same_name ∙ ap (λ (e : Entry). e.name) (sym c.used_entry-e.ensures)))),
)

pub returns-then-number_of : goal.returns-then-number_of
unfolding core_of
returns-then-number_of c = (λ is. absurd (no is), λ copy. absurd (c.if-number_of.true (c.number_of.ensures ∙ ap kind_number (c.kind.ensures ∙ copy.same_kind ∙ ap (λ (e : Entry). e.kind) (sym c.used_entry-e.ensures)) ∙ sym c.number_of-2.ensures)))

pub returns-then-len-e : goal.returns-then-len-e
unfolding core_of
returns-then-len-e c = (λ is. absurd (no is), λ copy. absurd (c.if-len-e.true (c.len.ensures ∙ copy.same_len ∙ ap (λ (e : Entry). e.len) (sym c.used_entry-e.ensures))))

pub returns : goal.returns
unfolding core_of
returns c = (
  λ is. record {
    record_there = c.requires.record;
    same_name = sym c.name.ensures ∙ eqb-is c.name.result c.used_entry-e.result.name (not-false (eqb c.name.result c.used_entry-e.result.name) (sym c.ne.ensures ∙ c.if-ne.false)) ∙ ap (λ (e : Entry). e.name) c.used_entry-e.ensures;
    same_kind = sym c.kind.ensures ∙ same-kind c.kind.result c.used_entry-e.result.kind (sym c.number_of.ensures ∙ c.if-number_of.false ∙ c.number_of-2.ensures) ∙ ap (λ (e : Entry). e.kind) c.used_entry-e.ensures;
    same_len = sym c.len.ensures ∙ c.if-len-e.false ∙ ap (λ (e : Entry). e.len) c.used_entry-e.ensures;
    same_fields = sym c.field_count.ensures ∙ eqb-is c.field_count.result c.field_total.result is ∙ c.field_total.ensures;
  },
  λ copy. eqb-same c.field_count.result c.field_total.result (c.field_count.ensures ∙ copy.same_fields ∙ sym c.field_total.ensures),
)
