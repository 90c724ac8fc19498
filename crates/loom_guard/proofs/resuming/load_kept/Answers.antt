-- The image is loaded over a host that stands over the host, and that is given up at the end, and leaves the host as it left it.
use Rattle.std.proofs.Common.{◌≡◌, refl, rules, subst, sym, ◌∙◌, ap}
use Rattle.loom_host.specs.Outside.{RoleState}
use Rattle.loom_host.specs.declared.outside.Role.TheVariants.{Image, Work}
use Rattle.image_reader.specs.Loaded.{heap_on}
use Rattle.image_memory.specs.Image.{HasImage}
use Rattle.loom_words.specs.Command.{row_for}
use Rattle.loom_run.specs.Meanings.{IsLeft, LeavesBut, meanings}
use Rattle.loom_run.specs.Stages.{Reading, roles_at}
use Rattle.loom_run.specs.Steps.{IsRead, IsRefusal, IsSameFile}
use Rattle.loom_guard.proofs.ResumingLaws.{file-slice, image-slice, judged-slice, leaves-slice, never-slice, read-slice, refused-slice, stands}
use Rattle.loom_guard.proofs.resuming.load_kept.Goals as goal

same-host : {H : Type 0} (now end : H) (P : H → Type 0) → end ≡ now → P now → P end
same-host now end P same x = subst P (sym same) x

pub returns-in-Ok-clause-others : goal.returns-in-Ok-clause-others
returns-in-Ok-clause-others g c =
    let host = g.H.Host in
    let old = c.args.host.now in
    let now = c.into_host-host.result.now in
    let loading = c.load_over-loaded.ensures.loading in
    let put = (loading.image refl).put ∙ ap (λ (s : RoleState). s.put) c.new-over.ensures.image in
    let back = c.into_host-host.ensures in
    let name = back.same_host _ (host.roles old Image) (host.faults old Image) put in
    let is = stands host _ old now c.new-over.result c.load_over-loaded.new.host _ c.args.image.now refl refl c.new-over.ensures.roles back.roles
    c.new-over.ensures.faults back.faults (back.image_left _ (host.roles old Image) (host.faults old Image) put) (back.image_faults _ (host.roles old Image) (host.faults old Image) put)
    c.new-over.ensures.image refl refl loading in
    same-host now _ (λ h. LeavesBut (roles_at Reading) (meanings host old) (meanings host h)) (search (rules, sym name)) (leaves-slice host _ old now _ _ _ is)

pub returns-in-Ok-clause-imageless : goal.returns-in-Ok-clause-imageless
returns-in-Ok-clause-imageless g c =
    let host = g.H.Host in
    let old = c.args.host.now in
    let now = c.into_host-host.result.now in
    let loading = c.load_over-loaded.ensures.loading in
    let put = (loading.image refl).put ∙ ap (λ (s : RoleState). s.put) c.new-over.ensures.image in
    let back = c.into_host-host.ensures in
    let name = back.same_host _ (host.roles old Image) (host.faults old Image) put in
    let is = stands host _ old now c.new-over.result c.load_over-loaded.new.host _ c.args.image.now refl refl c.new-over.ensures.roles back.roles
    c.new-over.ensures.faults back.faults (back.image_left _ (host.roles old Image) (host.faults old Image) put) (back.image_faults _ (host.roles old Image) (host.faults old Image) put)
    c.new-over.ensures.image refl refl loading in
    same-host now _ (λ h. IsLeft Image (meanings host old) (meanings host h)) (search (rules, sym name)) is.left

pub returns-in-Ok-clause-file : goal.returns-in-Ok-clause-file
returns-in-Ok-clause-file g c = λ work.
    let host = g.H.Host in
    let old = c.args.host.now in
    let now = c.into_host-host.result.now in
    let loading = c.load_over-loaded.ensures.loading in
    let put = (loading.image refl).put ∙ ap (λ (s : RoleState). s.put) c.new-over.ensures.image in
    let back = c.into_host-host.ensures in
    let name = back.same_host _ (host.roles old Image) (host.faults old Image) put in
    let is = stands host _ old now c.new-over.result c.load_over-loaded.new.host _ c.args.image.now refl refl c.new-over.ensures.roles back.roles
    c.new-over.ensures.faults back.faults (back.image_left _ (host.roles old Image) (host.faults old Image) put) (back.image_faults _ (host.roles old Image) (host.faults old Image) put)
    c.new-over.ensures.image refl refl loading in
    same-host now _ (λ h. IsSameFile (host.roles old Work) (host.roles h Work)) (search (rules, sym name)) (file-slice host _ old now _ _ _ is work)

pub returns-in-Err-clause-others : goal.returns-in-Err-clause-others
returns-in-Err-clause-others g c =
    let host = g.H.Host in
    let old = c.args.host.now in
    let now = c.into_host-host.result.now in
    let loading = c.load_over-loaded.ensures.loading in
    let put = (loading.image refl).put ∙ ap (λ (s : RoleState). s.put) c.new-over.ensures.image in
    let back = c.into_host-host.ensures in
    let name = back.same_host _ (host.roles old Image) (host.faults old Image) put in
    let is = stands host _ old now c.new-over.result c.load_over-loaded.new.host _ c.args.image.now refl refl c.new-over.ensures.roles back.roles
    c.new-over.ensures.faults back.faults (back.image_left _ (host.roles old Image) (host.faults old Image) put) (back.image_faults _ (host.roles old Image) (host.faults old Image) put)
    c.new-over.ensures.image refl refl loading in
    same-host now _ (λ h. LeavesBut (roles_at Reading) (meanings host old) (meanings host h)) (search (rules, sym name)) (leaves-slice host _ old now _ _ _ is)

pub returns-in-Err-clause-imageless : goal.returns-in-Err-clause-imageless
returns-in-Err-clause-imageless g c =
    let host = g.H.Host in
    let old = c.args.host.now in
    let now = c.into_host-host.result.now in
    let loading = c.load_over-loaded.ensures.loading in
    let put = (loading.image refl).put ∙ ap (λ (s : RoleState). s.put) c.new-over.ensures.image in
    let back = c.into_host-host.ensures in
    let name = back.same_host _ (host.roles old Image) (host.faults old Image) put in
    let is = stands host _ old now c.new-over.result c.load_over-loaded.new.host _ c.args.image.now refl refl c.new-over.ensures.roles back.roles
    c.new-over.ensures.faults back.faults (back.image_left _ (host.roles old Image) (host.faults old Image) put) (back.image_faults _ (host.roles old Image) (host.faults old Image) put)
    c.new-over.ensures.image refl refl loading in
    same-host now _ (λ h. IsLeft Image (meanings host old) (meanings host h)) (search (rules, sym name)) is.left

pub returns-in-Err-clause-file : goal.returns-in-Err-clause-file
returns-in-Err-clause-file g c = λ work.
    let host = g.H.Host in
    let old = c.args.host.now in
    let now = c.into_host-host.result.now in
    let loading = c.load_over-loaded.ensures.loading in
    let put = (loading.image refl).put ∙ ap (λ (s : RoleState). s.put) c.new-over.ensures.image in
    let back = c.into_host-host.ensures in
    let name = back.same_host _ (host.roles old Image) (host.faults old Image) put in
    let is = stands host _ old now c.new-over.result c.load_over-loaded.new.host _ c.args.image.now refl refl c.new-over.ensures.roles back.roles
    c.new-over.ensures.faults back.faults (back.image_left _ (host.roles old Image) (host.faults old Image) put) (back.image_faults _ (host.roles old Image) (host.faults old Image) put)
    c.new-over.ensures.image refl refl loading in
    same-host now _ (λ h. IsSameFile (host.roles old Work) (host.roles h Work)) (search (rules, sym name)) (file-slice host _ old now _ _ _ is work)

pub returns-in-Err-clause-refused : goal.returns-in-Err-clause-refused
returns-in-Err-clause-refused g c =
    let host = g.H.Host in
    let old = c.args.host.now in
    let now = c.into_host-host.result.now in
    let loading = c.load_over-loaded.ensures.loading in
    let put = (loading.image refl).put ∙ ap (λ (s : RoleState). s.put) c.new-over.ensures.image in
    let back = c.into_host-host.ensures in
    let name = back.same_host _ (host.roles old Image) (host.faults old Image) put in
    let is = stands host _ old now c.new-over.result c.load_over-loaded.new.host _ c.args.image.now refl refl c.new-over.ensures.roles back.roles
    c.new-over.ensures.faults back.faults (back.image_left _ (host.roles old Image) (host.faults old Image) put) (back.image_faults _ (host.roles old Image) (host.faults old Image) put)
    c.new-over.ensures.image refl refl loading in
    let row = row_for c.args.command.now in
    same-host now _ (λ h. IsRefusal host.tells (meanings host old) (meanings host h) row Reading c.status_of_load.result) (search (rules, sym name))
    (rw c.status_of_load.ensures (refused-slice host _ old now _ _ _ is row c.args.command.now.room c.in-Err.fault refl c.in-Err.ensures.fault))

pub returns-in-Err-clause-never : goal.returns-in-Err-clause-never
returns-in-Err-clause-never g c =
    let host = g.H.Host in
    let old = c.args.host.now in
    let now = c.into_host-host.result.now in
    let loading = c.load_over-loaded.ensures.loading in
    let put = (loading.image refl).put ∙ ap (λ (s : RoleState). s.put) c.new-over.ensures.image in
    let back = c.into_host-host.ensures in
    let name = back.same_host _ (host.roles old Image) (host.faults old Image) put in
    let is = stands host _ old now c.new-over.result c.load_over-loaded.new.host _ c.args.image.now refl refl c.new-over.ensures.roles back.roles
    c.new-over.ensures.faults back.faults (back.image_left _ (host.roles old Image) (host.faults old Image) put) (back.image_faults _ (host.roles old Image) (host.faults old Image) put)
    c.new-over.ensures.image refl refl loading in
    rw c.status_of_load.ensures (never-slice host _ old now _ _ _ is c.args.command.now.room c.in-Err.fault c.in-Err.ensures.fault)

pub returns-in-Err-clause-judged : goal.returns-in-Err-clause-judged
returns-in-Err-clause-judged g c =
    let host = g.H.Host in
    let old = c.args.host.now in
    let now = c.into_host-host.result.now in
    let loading = c.load_over-loaded.ensures.loading in
    let put = (loading.image refl).put ∙ ap (λ (s : RoleState). s.put) c.new-over.ensures.image in
    let back = c.into_host-host.ensures in
    let name = back.same_host _ (host.roles old Image) (host.faults old Image) put in
    let is = stands host _ old now c.new-over.result c.load_over-loaded.new.host _ c.args.image.now refl refl c.new-over.ensures.roles back.roles
    c.new-over.ensures.faults back.faults (back.image_left _ (host.roles old Image) (host.faults old Image) put) (back.image_faults _ (host.roles old Image) (host.faults old Image) put)
    c.new-over.ensures.image refl refl loading in
    rw c.status_of_load.ensures (judged-slice host _ old now _ _ _ is c.args.command.now.room c.in-Err.fault c.in-Err.ensures.fault)

pub returns-in-Ok-clause-image : goal.returns-in-Ok-clause-image
returns-in-Ok-clause-image g c =
    let host = g.H.Host in
    let old = c.args.host.now in
    let now = c.into_host-host.result.now in
    let loading = c.load_over-loaded.ensures.loading in
    let put = (loading.image refl).put ∙ ap (λ (s : RoleState). s.put) c.new-over.ensures.image in
    let back = c.into_host-host.ensures in
    let name = back.same_host _ (host.roles old Image) (host.faults old Image) put in
    let is = stands host _ old now c.new-over.result c.load_over-loaded.new.host _ c.args.image.now refl refl c.new-over.ensures.roles back.roles
    c.new-over.ensures.faults back.faults (back.image_left _ (host.roles old Image) (host.faults old Image) put) (back.image_faults _ (host.roles old Image) (host.faults old Image) put)
    c.new-over.ensures.image refl refl loading in
    same-host now _ (λ h. HasImage host h c.in-Ok.kept.0 c.in-Ok.kept.1) (search (rules, sym name)) (image-slice host _ old now _ _ _ is c.in-Ok.kept.0 c.in-Ok.kept.1 c.in-Ok.ensures.image)

pub returns-in-Ok-clause-read : goal.returns-in-Ok-clause-read
returns-in-Ok-clause-read g c = λ work.
    let host = g.H.Host in
    let old = c.args.host.now in
    let now = c.into_host-host.result.now in
    let loading = c.load_over-loaded.ensures.loading in
    let put = (loading.image refl).put ∙ ap (λ (s : RoleState). s.put) c.new-over.ensures.image in
    let back = c.into_host-host.ensures in
    let name = back.same_host _ (host.roles old Image) (host.faults old Image) put in
    let is = stands host _ old now c.new-over.result c.load_over-loaded.new.host _ c.args.image.now refl refl c.new-over.ensures.roles back.roles
    c.new-over.ensures.faults back.faults (back.image_left _ (host.roles old Image) (host.faults old Image) put) (back.image_faults _ (host.roles old Image) (host.faults old Image) put)
    c.new-over.ensures.image refl refl loading in
    let x = c.in-Ok.ensures.loads in
    let kept = c.in-Ok.kept in
    let room = c.args.command.now.room in
    same-host now _ (λ h. IsRead c.args.image.now room kept.1.state (heap_on host h kept.0 kept.1.next)) (search (rules, sym name)) (read-slice host _ old now _ _ _ is room kept.0 kept.1 x.0 x.1 x.2 x.3 work)
