use Rattle.std.proofs.Common.{◌≡◌, ◌+◌, ◌<◌, ◌≤◌, ◌&&◌, ℕ, pos, nat_le, nat_lt, cond, eqb, refl, sym, ◌∙◌, ap, arith}
use Rattle.std.proofs.lemmas.Grind.{common_steps}
use Rattle.long_names.specs.declared.value.Value.{Value}
use Rattle.long_names.specs.declared.value.Value.TheVariants.{Int}
use Rattle.long_names.specs.State.{set_register}
use Rattle.object_memory.specs.Told.{Told}
use Rattle.contexts.proofs.registers.clear.Goals as goal

-- a register that is among those up to one, with this one
one_more : (from r k : ℕ) (v : Value) → from ≤ r → cond (eqb k r) (Int (pos 0)) (cond (nat_le from k && nat_lt k r) (Int (pos 0)) v) ≡ cond (nat_le from k && nat_lt k (r + 1)) (Int (pos 0)) v
one_more from r k v low = grind (arith, common_steps)

none_yet : (from k : ℕ) (v : Value) → v ≡ cond (nat_le from k && nat_lt k from) (Int (pos 0)) v
none_yet from k v = grind (arith, common_steps)

-- the loop ended, or did not begin
all_done : (from to r k : ℕ) (v : Value) → from ≤ r → to ≤ r → (from ≤ to → r ≤ to) → (to < r → r ≤ from) → cond (nat_le from k && nat_lt k r) (Int (pos 0)) v ≡ cond (nat_le from k && nat_lt k to) (Int (pos 0)) v
all_done from to r k v a b c d = grind (arith, common_steps)

-- after a turn
cleared : (a b c : Told) (from r q k : ℕ) → q ≡ r → from ≤ r → c ≡ (record b { regs = set_register b.regs q (Int (pos 0)) }) → b.regs k ≡ cond (nat_le from k && nat_lt k r) (Int (pos 0)) (a.regs k) → c.regs k ≡ cond (nat_le from k && nat_lt k (r + 1)) (Int (pos 0)) (a.regs k)
cleared a b c from r q k is low put here =
    ap (λ (t : Told). t.regs k) put ∙ ap (λ x. cond (eqb k x) (Int (pos 0)) (b.regs k)) is ∙ ap (λ v. cond (eqb k r) (Int (pos 0)) v) here ∙ one_more from r k (a.regs k) low

still : (a b c : Told) (q : ℕ) (v : Value) → b ≡ (record a { regs = b.regs }) → c ≡ (record b { regs = set_register b.regs q v }) → c ≡ (record a { regs = c.regs })
still a b c q v e f =
    let both : c ≡ (record a { regs = set_register b.regs q v }) = f ∙ ap (λ (t : Told). record t { regs = set_register b.regs q v }) e in
    both ∙ sym (ap (λ (t : Told). record a { regs = t.regs }) f)

pub loop-r-init : goal.loop-r-init
loop-r-init g c = record {
  regs = λ k. none_yet c.args.from k _;
  rest = refl;
  past = λ high. omega arith;
  fit = record { sound = c.requires.fit.sound; ready = c.requires.fit.ready };
  lender = refl;
  outside = refl;
}

pub loop-r-preserved : goal.loop-r-preserved
loop-r-preserved g c =
    let here = c.loop-r.invariant in
    let put = c.int.ensures in
    let told = g.M.ObjectMemory.told in
    record {
      regs = λ k. cleared (told c.args.m.now) (told c.loop-r.m) (told c.int.new.self) c.args.from c.loop-r.r c.new.result k c.new.ensures c.loop-r.auto.r put.told (here.regs k);
      rest = still (told c.args.m.now) (told c.loop-r.m) (told c.int.new.self) c.new.result (Int (pos 0)) here.rest put.told;
      past = λ high. (let low = c.loop-r-test.true in omega arith);
      fit = record { sound = put.fit.sound; ready = put.fit.ready here.fit.ready };
      lender = put.fit.lender ∙ here.lender;
      outside = put.fit.outside ∙ here.outside;
    }

pub returns-clause-regs : goal.returns-clause-regs
returns-clause-regs g c = λ k.
    let here = c.loop-r.invariant in
    here.regs k ∙ all_done c.args.from c.args.to c.loop-r.r k _ c.loop-r.auto.r (omega (arith, c.loop-r-test.false)) c.loop-r.auto.r-end here.past
