-- A Damaged names the object of the access.
use Rattle.std.proofs.Common.{◌≡◌, ℕ, ◌+◌, Bool, List, refl, sym, ◌∙◌, ap, subst, inr, Result, Ok, Err}
use Rattle.std.specs.Result.{IfErr}
use Rattle.long_names.specs.Objects.{body_words}
use Rattle.loom_host.specs.declared.outside.DiskFault.{DiskFault}
use Rattle.loom_host.specs.declared.outside.DiskFault.TheVariants as fault
use Rattle.object_memory.specs.declared.fault.MemFault.{MemFault}
use Rattle.object_memory.specs.declared.fault.MemFault.TheVariants.{Damaged, CoreFull, WorkFull, WorkFault, NamesSpent, Said, Memory}
use Rattle.object_memory.specs.declared.fault.Need.{Need}
use Rattle.object_record.specs.Buffer.{raw_of}
use Rattle.object_record.specs.Objects.{object_in}
use Rattle.disk_objects.specs.declared.rest.DiskRest.{DiskRest}
use Rattle.leaf_lambda.specs.declared.parts.Parts.{Parts}
use Rattle.leaf_lambda.specs.Parts.{core_of}
use Rattle.purger.specs.declared.eviction.TheConstants.{NOWHERE}
use Rattle.purger.specs.Purge.{IsReadFault, IsReadDamage, HasRoom}
use Rattle.loom_memory.specs.declared.memory.LoomMemory.{LoomMemory}
use Rattle.long_names.specs.State.{name_at, IsRef}
use Rattle.loom_host.specs.declared.outside.Host.{Ghosts}
use Rattle.object_memory.specs.Told.{Told}
use Rattle.loom_memory.specs.Makings.{HasThinned}
use Rattle.loom_memory.specs.Memory.{loom_told, word_in, IsRefusalOf, IsSound}
use Rattle.loom_memory.proofs.GentleLaws.{entry-at}
use Rattle.loom_memory.specs.Damage.{IsDamageOf, IsDamaged, IsUndamaged, words_read}

-- the name of a register's object, after a step that thins the heap
thinned-name : {H : Type 0} (host : Ghosts H) (m u : LoomMemory H host) (of s : ℕ) → IsSound host u → HasThinned (loom_told host m) (loom_told host u) → IsRef ((loom_told host m).regs of) → s ≡ word_in u.regs of → name_at ((loom_told host m).regs of) ≡ ((core_of u.pager.levels.parts).entries s).name
thinned-name {H} host m u of s sound thin ref same =
    let regs : (loom_told host u).regs of ≡ (loom_told host m).regs of = ap (λ (t : Told). t.regs of) thin.same in
    ap name_at (sym regs ∙ (entry-at host u of s sound (subst IsRef (sym regs) ref) same).name)

-- what was read can't be so
pub nowhere-damage : (rest : DiskRest) (name : ℕ) (r : MemFault) → r ≡ Damaged NOWHERE name → IsDamageOf rest name r
nowhere-damage rest name r is = subst (IsDamageOf rest name) (sym is) (inr refl, refl)

-- it couldn't be read
pub refusal-damage : (tells : Bool) (before now : ℕ) (rest after : DiskRest) (name : ℕ) (f : DiskFault) (r x : MemFault) → IsReadFault tells before now f → IsReadDamage rest name f → after ≡ rest → IsRefusalOf f r → x ≡ r → IsDamageOf after name x
refusal-damage tells before now rest after name (fault.Work count) r x cause damage kept is same = subst (IsDamageOf after name) (sym (same ∙ is)) tt
refusal-damage tells before now rest after name (fault.Full held room) r x cause damage kept is same = absurd cause
refusal-damage tells before now rest after name (fault.Damaged place about) r x cause damage kept is same =
    subst (IsDamageOf after name) (sym (same ∙ is)) (subst (λ (d : DiskRest). IsDamageOf d name (Damaged place about)) (sym kept) damage)

-- there is no room
pub full-damage : (rest : DiskRest) (name : ℕ) (r : MemFault) → (need : Need) × (r ≡ CoreFull need) → IsDamageOf rest name r
full-damage rest name r is = subst (IsDamageOf rest name) (sym is.1) tt

-- under another name of the object
pub damage-name : {T : Type 0} (r : Result T MemFault) (rest : DiskRest) (n k : ℕ) → n ≡ k → IfErr r (IsDamageOf rest n) → IfErr r (IsDamageOf rest k)
damage-name {T} (Ok x) rest n k same is = tt
damage-name {T} (Err f) rest n k same is = subst (λ (z : ℕ). IsDamageOf rest z f) same is

-- after the record was read
pub damage-read : {T H : Type 0} {host : Ghosts H} (r : Result T MemFault) (m u n : LoomMemory H host) (s words : ℕ) → u.pager.levels.parts ≡ m.pager.levels.parts → n.buf ≡ u.buf → 4 + body_words (object_in (raw_of u.buf)).body ≡ words
    → IfErr r (λ f. HasRoom u.pager.levels.parts words 27 → IsDamageOf n.pager.levels.disk.rest ((core_of u.pager.levels.parts).entries s).name f) → IsDamaged m n ((core_of m.pager.levels.parts).entries s).name r
damage-read {T} {H} {host} (Ok x) m u n s words parts buf size is = tt
damage-read {T} {H} {host} (Err f) m u n s words parts buf size is = λ room.
    let words_is : words_read n ≡ words = ap (λ (bytes : List ℕ). 4 + body_words (object_in (raw_of bytes)).body) buf ∙ size in
    let there : HasRoom u.pager.levels.parts words 27 = subst (λ (p : Parts). HasRoom p words 27) (sym parts) (subst (λ (k : ℕ). HasRoom m.pager.levels.parts k 27) words_is room) in
    subst (λ (p : Parts). IsDamageOf n.pager.levels.disk.rest ((core_of p).entries s).name f) parts (is there)

-- room is as before a step that did nothing
pub room-same : {H : Type 0} {host : Ghosts H} (m u : LoomMemory H host) (words : ℕ) → u ≡ m → HasRoom m.pager.levels.parts words 27 → HasRoom u.pager.levels.parts words 27
room-same {H} {host} m u words same room = subst (λ (z : LoomMemory H host). HasRoom z.pager.levels.parts words 27) (sym same) room

-- what the object of a register lacks
pub amiss-damage : {H : Type 0} (host : Ghosts H) (m u : LoomMemory H host) (of s : ℕ) (rest : DiskRest) (r : MemFault) → IsSound host u → HasThinned (loom_told host m) (loom_told host u) → IsRef ((loom_told host m).regs of) → s ≡ word_in u.regs of → r ≡ Damaged NOWHERE ((core_of u.pager.levels.parts).entries s).name
    → IsDamageOf rest (name_at ((loom_told host m).regs of)) r
amiss-damage {H} host m u of s rest r sound thin ref same is =
    nowhere-damage rest (name_at ((loom_told host m).regs of)) r (is ∙ ap (Damaged NOWHERE) (sym (thinned-name host m u of s sound thin ref same)))

pub thinned-damage : {T H : Type 0} (r : Result T MemFault) (host : Ghosts H) (m u : LoomMemory H host) (of s : ℕ) (rest : DiskRest) (room : Type 0) → IsSound host u → HasThinned (loom_told host m) (loom_told host u) → IsRef ((loom_told host m).regs of) → s ≡ word_in u.regs of → IfErr r (IsDamageOf rest ((core_of u.pager.levels.parts).entries s).name)
    → IfErr r (λ f. room → IsDamageOf rest (name_at ((loom_told host m).regs of)) f)
thinned-damage {T} {H} (Ok x) host m u of s rest room sound thin ref same is = tt
thinned-damage {T} {H} (Err f) host m u of s rest room sound thin ref same is = λ there. subst (λ (k : ℕ). IsDamageOf rest k f) (sym (thinned-name host m u of s sound thin ref same)) is

-- it isn't Damaged
undamaged-each : (rest : DiskRest) (name : ℕ) (f : MemFault) → IsUndamaged f → IsDamageOf rest name f
undamaged-each rest name (Damaged place about) none = absurd none
undamaged-each rest name (CoreFull need) none = tt
undamaged-each rest name (WorkFull live room) none = tt
undamaged-each rest name (WorkFault count) none = tt
undamaged-each rest name NamesSpent none = tt
undamaged-each rest name (Said count) none = tt
undamaged-each rest name Memory none = tt

pub undamaged-of : {T H : Type 0} {host : Ghosts H} (r : Result T MemFault) (m n : LoomMemory H host) (name : ℕ) → IfErr r IsUndamaged → IsDamaged m n name r
undamaged-of {T} {H} {host} (Ok x) m n name none = tt
undamaged-of {T} {H} {host} (Err f) m n name none = λ room. undamaged-each n.pager.levels.disk.rest name f none
