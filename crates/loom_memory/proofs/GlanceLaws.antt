-- Calls that only look at a register and its entry: what they find is a part of the register's object, and nothing comes in for it.
use Rattle.std.proofs.Common.{◌≡◌, ◌≢◌, ℕ, true, false, [], Option, Some, None, IsTrue, refl, sym, ◌∙◌, ap, subst, inl, inr}
use Rattle.std.specs.Option.{is_some}
use Rattle.std.specs.Prelude.{IfNone, IsSome, ◌⊎◌}
use Rattle.long_names.specs.declared.value.Value.{Value}
use Rattle.long_names.specs.declared.object.Body.{Body}
use Rattle.long_names.specs.State.{name_at, part_at, IsRef}
use Rattle.loom_host.specs.declared.outside.Host.{Ghosts}
use Rattle.loom_host.specs.declared.outside.Role.TheVariants.{Work}
use Rattle.object_table.specs.Entries.{is_short, place_of}
use Rattle.disk_objects.specs.Function.{disk_of}
use Rattle.core_view.specs.Words.{meant}
use Rattle.core_view.specs.Held.{object_at}
use Rattle.core_view.proofs.Words.{meant-odd, meant-short}
use Rattle.leaf_lambda.specs.Parts.{core_of}
use Rattle.loom_memory.specs.declared.memory.LoomMemory.{LoomMemory}
use Rattle.loom_memory.specs.Bodies.{OfBody}
use Rattle.loom_memory.specs.Memory.{loom_told, word_in, IsSound}
use Rattle.loom_memory.specs.Residents.{is_resident}
use Rattle.loom_memory.proofs.BodyLaws.{part-here}
use Rattle.loom_memory.proofs.FieldLaws.{told-tells}
use Rattle.loom_memory.proofs.GentleLaws.{resident-at}
use Rattle.loom_memory.proofs.LoadLaws.{object-loaded}
use Rattle.loom_memory.proofs.WordLaws.{odd-else}

register-is : {H : Type 0} (host : Ghosts H) (m : LoomMemory H host) (of w : ℕ) → w ≡ word_in m.regs of → (loom_told host m).regs of ≡ meant (core_of m.pager.levels.parts).entries [] 0 w
unfolding loom_told
register-is {H} host m of w same = ap (meant (core_of m.pager.levels.parts).entries [] 0) (sym same)

some-is : (o : Option ℕ) → IsSome o → (p : ℕ) × (o ≡ Some p)
some-is None some = absurd (cc)
some-is (Some p) some = (p, refl)

-- what was found in the body is so of the object of the register
found-there : {H : Type 0} (host : Ghosts H) (m : LoomMemory H host) (of w p : ℕ) (part : Body → Option ℕ) (found : Option ℕ) → IsSound host m → w ≡ word_in m.regs of → place_of ((core_of m.pager.levels.parts).entries w).state ≡ Some p → OfBody (core_of m.pager.levels.parts) w (λ b. found ≡ part b) → IsTrue (loom_told host m).tells → part_at (loom_told host m).heap ((loom_told host m).regs of) part ≡ found
unfolding loom_told
found-there {H} host m of w p part found sound same at body told =
    let disk = disk_of host m.pager.levels.disk.host.now m.pager.levels.disk.rest in
    part-here (loom_told host m) of (object_at (core_of m.pager.levels.parts) disk ((core_of m.pager.levels.parts).entries w) p) part found
    (object-loaded (host.tells Work) (core_of m.pager.levels.parts) disk m.ledger.next w p ((loom_told host m).regs of) (told-tells host m told) m.pager.levels.whole.parts.core at (register-is host m of w same)) (sym (body disk p at))

pub found-told : {H : Type 0} (host : Ghosts H) (m : LoomMemory H host) (of w : ℕ) (part : Body → Option ℕ) (found : Option ℕ) → IsSound host m → w ≡ word_in m.regs of → IsSome (place_of ((core_of m.pager.levels.parts).entries w).state) → OfBody (core_of m.pager.levels.parts) w (λ b. found ≡ part b) → IsTrue (loom_told host m).tells → part_at (loom_told host m).heap ((loom_told host m).regs of) part ≡ found
found-told {H} host m of w part found sound same there body =
    let at = some-is (place_of ((core_of m.pager.levels.parts).entries w).state) there in
    found-there host m of w at.0 part found sound same at.1 body

-- where nothing was found, the object isn't in the core, or has no such part
pub none-told : {H : Type 0} (host : Ghosts H) (m : LoomMemory H host) (of w : ℕ) (part : Body → Option ℕ) (found : Option ℕ) → IsSound host m → w ≡ word_in m.regs of → IsRef ((loom_told host m).regs of) → OfBody (core_of m.pager.levels.parts) w (λ b. found ≡ part b)
    → IfNone found ((is_resident m (name_at ((loom_told host m).regs of)) ≡ false) ⊎ (IsTrue (loom_told host m).tells → part_at (loom_told host m).heap ((loom_told host m).regs of) part ≡ None))
none-told {H} host m of w part (Some n) sound same ref body = tt
none-told {H} host m of w part None sound same ref body = go (place_of ((core_of m.pager.levels.parts).entries w).state) refl
  where
    go : (o : Option ℕ) → place_of ((core_of m.pager.levels.parts).entries w).state ≡ o → (is_resident m (name_at ((loom_told host m).regs of)) ≡ false) ⊎ (IsTrue (loom_told host m).tells → part_at (loom_told host m).heap ((loom_told host m).regs of) part ≡ None)
    go None e = inl (resident-at host m of w sound ref same ∙ ap (λ (o : Option ℕ). is_some o) e)
    go (Some p) e = inr (found-there host m of w p part None sound same e body)

-- a number has no parts
pub number-told : {H : Type 0} (host : Ghosts H) (m : LoomMemory H host) (of w : ℕ) (part : Body → Option ℕ) → w ≡ word_in m.regs of → w ≢ 0 → is_short w ≡ false → part_at (loom_told host m).heap ((loom_told host m).regs of) part ≡ None
number-told {H} host m of w part same some off =
    ap (λ (v : Value). part_at (loom_told host m).heap v part) (register-is host m of w same ∙ meant-odd (core_of m.pager.levels.parts).entries [] 0 w (odd-else w some off))

pub name-told : {H : Type 0} (host : Ghosts H) (m : LoomMemory H host) (of w : ℕ) → w ≡ word_in m.regs of → is_short w ≡ true → IsRef ((loom_told host m).regs of)
name-told {H} host m of w same short = subst IsRef (sym (register-is host m of w same ∙ meant-short (core_of m.pager.levels.parts).entries [] 0 w short)) tt
