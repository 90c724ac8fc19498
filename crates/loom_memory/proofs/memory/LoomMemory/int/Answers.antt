use Rattle.std.proofs.Common.{◌≡◌, ℕ, [], sym, ◌∙◌, ap, subst, arith}
use Rattle.std.proofs.lemmas.Grind.{common_steps}
use Rattle.std.proofs.Math.Path.{fun_ext}
use Rattle.long_names.specs.State.{set_register}
use Rattle.long_names.specs.declared.value.Value.{Value}
use Rattle.long_names.specs.declared.value.Value.TheVariants.{Int}
use Rattle.long_names.specs.Words.{IsSmallInteger}
use Rattle.object_memory.proofs.ShapeLaws.{small_number}
use Rattle.object_memory.specs.Told.{Told, IsReady}
use Rattle.leaf_lambda.specs.Parts.{core_of}
use Rattle.loom_memory.specs.Memory.{loom_told}
use Rattle.loom_memory.proofs.RegLaws.{ready-put}
use Rattle.loom_memory.proofs.WordLaws.{number-means}
use Rattle.core_view.specs.Words.{meant}
use Rattle.loom_memory.proofs.memory.LoomMemory.int.Goals as goal

pub returns-clause-told : goal.returns-clause-told
returns-clause-told g c = c.put_number.ensures.told ∙ ap (λ (v : Value). record (loom_told g.H.Host c.args.self.now) { regs = set_register (loom_told g.H.Host c.args.self.now).regs c.args.to v })
    (number-means (core_of c.args.self.now.pager.levels.parts).entries c.short_int-w.result c.args.v c.short_int-w.ensures.odd (let is = small_number c.args.v c.requires.range in c.short_int-w.ensures.value (subst IsSmallInteger (sym is) c.requires.range) ∙ is))

-- a register that has the value already
kept : (regs : ℕ → Value) (to k : ℕ) (v : Value) → regs to ≡ v → regs k ≡ set_register regs to v k
kept regs to k v is = grind (arith, common_steps)

stays : (t : Told) (to : ℕ) (v : Value) → t.regs to ≡ v → t ≡ (record t { regs = set_register t.regs to v })
stays t to v is = ap (λ (regs : ℕ → Value). record t { regs = regs }) (fun_ext (λ k. kept t.regs to k v is))

pub returns-then-word_of-w-clause-told : goal.returns-then-word_of-w-clause-told
unfolding loom_told
returns-then-word_of-w-clause-told g c =
    let m = c.args.self.now in
    let number = small_number c.args.v c.requires.range in
    stays (loom_told g.H.Host m) c.args.to (Int c.args.v) (ap (meant (core_of m.pager.levels.parts).entries [] 0) (sym c.word_of.ensures.word ∙ c.if-word_of-w.true)
    ∙ number-means (core_of m.pager.levels.parts).entries c.short_int-w.result c.args.v c.short_int-w.ensures.odd (c.short_int-w.ensures.value (subst IsSmallInteger (sym number) c.requires.range) ∙ number))

pub returns-clause-fit : goal.returns-clause-fit
returns-clause-fit g c = record {
  sound = c.put_number.ensures.leaves.sound;
  ready = λ ready. subst (λ (t : Told). IsReady t) (sym (returns-clause-told g c)) (ready-put (loom_told g.H.Host c.args.self.now) c.args.to (Int c.args.v) (λ k e told. (cc)) ready);
  lender = c.put_number.ensures.leaves.lender;
  outside = c.put_number.ensures.leaves.outside;
}

pub returns-clause-steady : goal.returns-clause-steady
returns-clause-steady g c = c.put_number.ensures.steady

pub returns-then-word_of-w-clause-stays : goal.returns-then-word_of-w-clause-stays
returns-then-word_of-w-clause-stays g c = λ on named. on
