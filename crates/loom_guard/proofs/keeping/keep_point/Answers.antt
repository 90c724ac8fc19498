-- The disk is joined again, and taken apart behind: each of these leaves the host as it was.
use Rattle.std.proofs.Common.{◌≡◌, ◌+◌, rules, sym, ◌∙◌, subst}
use Rattle.image_memory.specs.Image.{HasImage}
use Rattle.image_memory.proofs.EndLaws.{ended-exact, ended-holds}
use Rattle.image_reader.specs.Loaded.{heap_on}
use Rattle.long_names.specs.Kept.{kept, no_roots}
use Rattle.checkpoint.specs.Keeping.{serial_of}
use Rattle.loom_host.specs.Work.{IsWorkRead}
use Rattle.machine_run.specs.States.{model_state, state_left}
use Rattle.loom_run.specs.Meanings.{meanings}
use Rattle.loom_guard.specs.Turns.{IsKeepRefusal}
use Rattle.loom_guard.proofs.KeepingLaws.{ended-again, kept-heap, kept-image, stops-again}
use Rattle.loom_guard.proofs.keeping.keep_point.Goals as goal

-- what holds of the host where keeping left it, holds at the end
same-host : {H : Type 0} (now mid end : H) (P : H → Type 0) → end ≡ mid → mid ≡ now → P now → P end
same-host now mid end P same back x = subst P (sym same) (subst P (sym back) x)

pub keep_disk-kept-requires-clause-stands : goal.keep_disk-kept-requires-clause-stands
keep_disk-kept-requires-clause-stands g c = λ told.
    let d = c.again-disk.result in
    let e = c.requires.ended told in
    ended-holds g.H.Host d.host.now d.rest c.args.next e.0 (ended-again g.H.Host c.args.host.now d.host.now c.args.rest d.rest c.args.next e.0 c.again-disk.ensures.now c.again-disk.ensures.rest e.1) told

pub keep_disk-kept-requires-clause-exact : goal.keep_disk-kept-requires-clause-exact
keep_disk-kept-requires-clause-exact g c = λ told.
    let d = c.again-disk.result in
    let e = c.requires.ended told in
    ended-exact g.H.Host d.host.now d.rest c.args.next e.0 (ended-again g.H.Host c.args.host.now d.host.now c.args.rest d.rest c.args.next e.0 c.again-disk.ensures.now c.again-disk.ensures.rest e.1)

pub returns-in-Ok-clause-image : goal.returns-in-Ok-clause-image
returns-in-Ok-clause-image g c =
    let host = g.H.Host in
    let end = c.keep_disk-kept.new.disk.host.now in
    let did = rw (c.again-disk.ensures.now, c.again-disk.ensures.rest) at c.keep_disk-kept.ensures in
    let ok = rw (c.again-disk.ensures.now, c.again-disk.ensures.rest) at c.in-Ok.ensures.loaded in
    let name = c.apart-host.ensures.host ∙ c.keep_disk-kept.ensures.same_host ∙ c.again-disk.ensures.host in
    same-host end c.apart-host.result.0.now _ (λ h. HasImage host h c.apart-host.result.1 c.in-Ok.loaded) (search (rules, sym name)) c.apart-host.ensures.now
    (kept-image host c.args.host.now end c.args.rest c.apart-host.result.1 c.args.next c.args.state.now c.in-Ok.loaded c.requires.even ok.0 ok.1 did.read (c.apart-host.ensures.rest ∙ did.rest) c.requires.ended)

pub returns-in-Ok-clause-kept : goal.returns-in-Ok-clause-kept
returns-in-Ok-clause-kept g c = λ work left ended.
    let host = g.H.Host in
    let end = c.keep_disk-kept.new.disk.host.now in
    let x = c.in-Ok.loaded in
    let did = rw (c.again-disk.ensures.now, c.again-disk.ensures.rest) at c.keep_disk-kept.ensures in
    let ok = rw (c.again-disk.ensures.now, c.again-disk.ensures.rest) at c.in-Ok.ensures.loaded in
    let name = c.apart-host.ensures.host ∙ c.keep_disk-kept.ensures.same_host ∙ c.again-disk.ensures.host in
    same-host end c.apart-host.result.0.now _ (λ h. (heap_on host h c.apart-host.result.1 x.next ≡ kept left no_roots) × (model_state x.state ≡ state_left (kept left no_roots) (model_state c.args.state.now))) (search (rules, sym name)) c.apart-host.ensures.now
    (kept-heap host c.args.host.now end c.args.rest c.apart-host.result.1 c.args.next c.args.state.now x left ok.0 (ok.1 work) did.read (c.apart-host.ensures.rest ∙ did.rest) ended)

pub returns-in-Ok-clause-read : goal.returns-in-Ok-clause-read
returns-in-Ok-clause-read g c =
    let host = g.H.Host in
    let did = rw (c.again-disk.ensures.now, c.again-disk.ensures.rest) at c.keep_disk-kept.ensures in
    let name = c.apart-host.ensures.host ∙ c.keep_disk-kept.ensures.same_host ∙ c.again-disk.ensures.host in
    same-host c.keep_disk-kept.new.disk.host.now c.apart-host.result.0.now _ (λ h. IsWorkRead host c.args.host.now h) (search (rules, sym name)) c.apart-host.ensures.now did.read

pub returns-in-Err-clause-read : goal.returns-in-Err-clause-read
returns-in-Err-clause-read g c =
    let host = g.H.Host in
    let did = rw (c.again-disk.ensures.now, c.again-disk.ensures.rest) at c.keep_disk-kept.ensures in
    let name = c.apart-host.ensures.host ∙ c.keep_disk-kept.ensures.same_host ∙ c.again-disk.ensures.host in
    same-host c.keep_disk-kept.new.disk.host.now c.apart-host.result.0.now _ (λ h. IsWorkRead host c.args.host.now h) (search (rules, sym name)) c.apart-host.ensures.now did.read

pub returns-in-Err-clause-refused : goal.returns-in-Err-clause-refused
returns-in-Err-clause-refused g c =
    let host = g.H.Host in
    let fault = rw c.again-disk.ensures.now at c.in-Err.ensures.refused in
    let name = c.apart-host.ensures.host ∙ c.keep_disk-kept.ensures.same_host ∙ c.again-disk.ensures.host in
    same-host c.keep_disk-kept.new.disk.host.now c.apart-host.result.0.now _ (λ h. IsKeepRefusal host.tells (meanings host c.args.host.now) (meanings host h) (g.V.Vault.faults c.args.vault.now) (g.V.Vault.faults c.keep_disk-kept.new.vault) c.in-Err.status) (search (rules, sym name)) c.apart-host.ensures.now fault

pub returns-in-Ok-clause-stops : goal.returns-in-Ok-clause-stops
returns-in-Ok-clause-stops g c = λ told.
    let d = c.again-disk.result in
    stops-again g.H.Host c.args.host.now d.host.now c.args.rest d.rest c.args.next (serial_of c.args.last + 1) c.args.state.now (g.V.Vault.state c.args.vault.now) (g.V.Vault.state c.keep_disk-kept.new.vault) c.again-disk.ensures.now c.again-disk.ensures.rest (c.keep_disk-kept.ensures.stops told)

pub returns-in-Err-clause-stops : goal.returns-in-Err-clause-stops
returns-in-Err-clause-stops g c = λ told.
    let d = c.again-disk.result in
    stops-again g.H.Host c.args.host.now d.host.now c.args.rest d.rest c.args.next (serial_of c.args.last + 1) c.args.state.now (g.V.Vault.state c.args.vault.now) (g.V.Vault.state c.keep_disk-kept.new.vault) c.again-disk.ensures.now c.again-disk.ensures.rest (c.keep_disk-kept.ensures.stops told)
