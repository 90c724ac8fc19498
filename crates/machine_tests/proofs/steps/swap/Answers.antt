use Rattle.std.proofs.Common.{◌≡◌, zero, suc, ℕ, ◌<◌, Option, Some, None, refl, sym, ap, ◌∙◌, arith}
use Rattle.long_names.specs.State.{set_slot}
use Rattle.object_memory.specs.Told.{Told}
use Rattle.object_memory.proofs.Callers.{may_swap}
use Rattle.machine_tests.proofs.steps.swap.Goals as goal

-- no slot has a name once all three were emptied
emptied : (now slots : ℕ → Option ℕ) (n i : ℕ) → now ≡ set_slot (set_slot (set_slot slots 0 None) 1 None) 2 None → i < 3 → now i ≡ Some n → ⊥
emptied now slots n i e low is = go i low (sym (ap (λ (f : ℕ → Option ℕ). f i) e) ∙ is)
  where
    go : (i : ℕ) → i < 3 → set_slot (set_slot (set_slot slots 0 None) 1 None) 2 None i ≡ Some n → ⊥
    go zero low e = let no : ◌≡◌ {A = Option ℕ} None (Some n) = e in cc
    go (suc zero) low e = let no : ◌≡◌ {A = Option ℕ} None (Some n) = e in cc
    go (suc (suc zero)) low e = let no : ◌≡◌ {A = Option ℕ} None (Some n) = e in cc
    go (suc (suc (suc i))) low e = absurd (omega arith)

pub swap-requires-clause-may : goal.swap-requires-clause-may
swap-requires-clause-may g c =
    let t = g.M.ObjectMemory.told c.args.m.now in
    let u = g.M.ObjectMemory.told c.unpin-3.new.self in
    let slots : u.slots ≡ set_slot (set_slot (set_slot t.slots 0 None) 1 None) 2 None = ap (λ (v : Told). v.slots) c.unpin-3.ensures.told ∙ ap (λ (v : Told). set_slot v.slots 2 None) c.unpin-2.ensures.told ∙ ap (λ (v : Told). set_slot (set_slot v.slots 1 None) 2 None) c.unpin.ensures.told in
    may_swap u c.args.a c.args.b (c.unpin-3.ensures.fit.ready (c.unpin-2.ensures.fit.ready (c.unpin.ensures.fit.ready c.requires.fit.ready))) (c.if-not-is_name.ensures.0 refl) (c.if-not-is_name-2.ensures.0 refl) (λ i low is. emptied u.slots t.slots _ i slots low is) (λ i low is. emptied u.slots t.slots _ i slots low is)
