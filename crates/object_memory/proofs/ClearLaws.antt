-- Registers that are cleared one after another.
use Rattle.std.proofs.Common.{◌≡◌, ◌+◌, ◌<◌, ◌≤◌, ◌&&◌, ℕ, pos, nat_le, nat_lt, cond, eqb, sym, ◌∙◌, ap, arith}
use Rattle.std.proofs.lemmas.Grind.{common_steps}
use Rattle.long_names.specs.declared.value.Value.{Value}
use Rattle.long_names.specs.declared.value.Value.TheVariants.{Int}
use Rattle.long_names.specs.State.{set_register}
use Rattle.object_memory.specs.Told.{Told}

-- a register that is among those up to one, with this one
one_more : (from r k : ℕ) (v : Value) → from ≤ r → cond (eqb k r) (Int (pos 0)) (cond (nat_le from k && nat_lt k r) (Int (pos 0)) v) ≡ cond (nat_le from k && nat_lt k (r + 1)) (Int (pos 0)) v
one_more from r k v low = grind (arith, common_steps)

pub none_yet : (from k : ℕ) (v : Value) → v ≡ cond (nat_le from k && nat_lt k from) (Int (pos 0)) v
none_yet from k v = grind (arith, common_steps)

-- the loop ended, or did not begin
pub all_done : (from to r k : ℕ) (v : Value) → from ≤ r → to ≤ r → (from ≤ to → r ≤ to) → (to < r → r ≤ from) → cond (nat_le from k && nat_lt k r) (Int (pos 0)) v ≡ cond (nat_le from k && nat_lt k to) (Int (pos 0)) v
all_done from to r k v a b c d = grind (arith, common_steps)

-- after a turn
pub cleared : (a b c : Told) (from r q k : ℕ) → q ≡ r → from ≤ r → c ≡ (record b { regs = set_register b.regs q (Int (pos 0)) }) → b.regs k ≡ cond (nat_le from k && nat_lt k r) (Int (pos 0)) (a.regs k) → c.regs k ≡ cond (nat_le from k && nat_lt k (r + 1)) (Int (pos 0)) (a.regs k)
cleared a b c from r q k is low put here =
    ap (λ (t : Told). t.regs k) put ∙ ap (λ x. cond (eqb k x) (Int (pos 0)) (b.regs k)) is ∙ ap (λ v. cond (eqb k r) (Int (pos 0)) v) here ∙ one_more from r k (a.regs k) low

-- nothing but registers has changed
pub still : (a b c : Told) (q : ℕ) (v : Value) → b ≡ (record a { regs = b.regs }) → c ≡ (record b { regs = set_register b.regs q v }) → c ≡ (record a { regs = c.regs })
still a b c q v e f =
    let both : c ≡ (record a { regs = set_register b.regs q v }) = f ∙ ap (λ (t : Told). record t { regs = set_register b.regs q v }) e in
    both ∙ sym (ap (λ (t : Told). record a { regs = t.regs }) f)
