use Rattle.std.proofs.Common.{[], Ok, IsTrue, refl, sym, ◌∙◌, ap, subst, arith}
use Rattle.loom_host.specs.declared.outside.Role.TheVariants.{Work, Transcript}
use Rattle.image_reader.specs.Loaded.{heap_on}
use Rattle.blue_model.specs.declared.cpu.Cpu.{Cpu}
use Rattle.machine_run.specs.States.{model_state}
use Rattle.checkpoint.specs.Keeping.{serial_of}
use Rattle.checkpoint.proofs.HistoryLaws.{keeps-gives, keeps-still}
use Rattle.guarded_run.specs.Course.{guarded_course}
use Rattle.guarded_run.specs.Legs.{guarded_first}
use Rattle.loom_words.specs.Command.{row_for}
use Rattle.loom_run.specs.Meanings.{meanings}
use Rattle.loom_run.specs.Stages.{Running, roles_at}
use Rattle.loom_run.proofs.Frames.{leaves-all}
use Rattle.loom_guard.specs.declared.guarded.Turn.{Turn}
use Rattle.loom_guard.specs.Legs.{FromDisk}
use Rattle.loom_guard.specs.Turns.{IsKeptImage, TurnKeeps, TurnLeaves}
use Rattle.loom_guard.proofs.StretchLaws.{file-then, leaves-then}
use Rattle.loom_guard.proofs.TurnLaws.{begins-here, checkpoint-first, legs-stop, serial-first, stop-first}
use Rattle.loom_guard.proofs.VaultLaws.{has-last}
use Rattle.loom_guard.proofs.guarded.run_legs.Goals as goal

pub turns-init : goal.turns-init
turns-init g c =
    let host = g.H.Host in
    let row = row_for c.args.command.now in
    let lines = c.args.events.now in
    let old = c.args.host.now in
    let x = c.args.loaded.now in
    let last = serial_of c.args.last in
    record {
      image = c.requires.image;
      room = c.requires.room;
      few = omega (arith, ap (λ (cpu : Cpu). cpu.ran) c.at_rest-cpu.ensures);
      last = c.requires.last;
      from = λ work. begins-here host old c.args.rest x row lines last c.at_rest-cpu.result c.requires.image work;
      keeps = λ told. keeps-still (g.V.Vault.state c.args.vault.now) c.args.last (IsKeptImage (host.tells Work) lines row.steps (guarded_first last (host.roles old Transcript).put (model_state x.state) (heap_on host old c.args.rest x.next))) (c.requires.last told);
      file = λ work. refl;
      others = leaves-all (roles_at Running) (meanings host old);
      calm = refl;
    }

-- ---- the machine was kept

pub turns-preserved : goal.turns-preserved
turns-preserved g c =
    let host = g.H.Host in
    let row = row_for c.args.command.now in
    let lines = c.args.events.now in
    let old = c.args.host.now in
    let x = c.args.loaded.now in
    let said = (host.roles old Transcript).put in
    let heap = heap_on host old c.args.rest x.next in
    let run = guarded_first (serial_of c.args.last) said (model_state x.state) heap in
    let course = guarded_course lines row.steps (serial_of c.args.last) (model_state x.state) heap in
    let mid = c.turns.host in
    let new = c.take_turn.new.host in
    let inv = c.turns.invariant in
    let turn = subst (TurnLeaves host new row lines (serial_of c.turns.kept) c.take_turn.new.cpu (FromDisk host.tells row c.turns.first lines (serial_of c.turns.kept) c.turns.cpu (host.roles mid Transcript).put c.turns.image.state (heap_on host mid c.turns.disk c.turns.image.next))) c.in-Ok-Kept.field-0-is c.in-Ok-Kept.ensures.leaves in
    record {
      image = turn.0;
      room = turn.1;
      few = c.take_turn.ensures.few;
      last = λ told. (let keeps = (subst (λ (t : Turn). TurnKeeps (g.V.Vault.state c.args.vault.now) (g.V.Vault.state c.take_turn.new.vault) c.turns.kept (IsKeptImage (host.tells Work) lines row.steps run) (Ok t)) c.in-Ok-Kept.field-0-is (c.in-Ok-Kept.ensures.vault told (g.V.Vault.state c.args.vault.now) (meanings host old) run course inv.from (inv.keeps told))) in keeps.1);
      from = λ work. turn.4 (meanings host old) run course (inv.from work);
      keeps = λ told. (let keeps = (subst (λ (t : Turn). TurnKeeps (g.V.Vault.state c.args.vault.now) (g.V.Vault.state c.take_turn.new.vault) c.turns.kept (IsKeptImage (host.tells Work) lines row.steps run) (Ok t)) c.in-Ok-Kept.field-0-is (c.in-Ok-Kept.ensures.vault told (g.V.Vault.state c.args.vault.now) (meanings host old) run course inv.from (inv.keeps told))) in keeps.0);
      file = λ work. file-then (host.roles old Work) (host.roles mid Work) (host.roles new Work) (inv.file work) (c.take_turn.ensures.file work);
      others = leaves-then (roles_at Running) (meanings host old) (meanings host mid) (meanings host new) inv.others c.take_turn.ensures.others;
      calm = c.in-Ok-Kept.ensures.calm ∙ inv.calm;
    }

pub turns-smaller : goal.turns-smaller
turns-smaller g c =
    let host = g.H.Host in
    let row = row_for c.args.command.now in
    let lines = c.args.events.now in
    let old = c.args.host.now in
    let x = c.args.loaded.now in
    let said = (host.roles old Transcript).put in
    let heap = heap_on host old c.args.rest x.next in
    let run = guarded_first (serial_of c.args.last) said (model_state x.state) heap in
    let course = guarded_course lines row.steps (serial_of c.args.last) (model_state x.state) heap in
    let mid = c.turns.host in
    let new = c.take_turn.new.host in
    let inv = c.turns.invariant in
    let turn = subst (TurnLeaves host new row lines (serial_of c.turns.kept) c.take_turn.new.cpu (FromDisk host.tells row c.turns.first lines (serial_of c.turns.kept) c.turns.cpu (host.roles mid Transcript).put c.turns.image.state (heap_on host mid c.turns.disk c.turns.image.next))) c.in-Ok-Kept.field-0-is c.in-Ok-Kept.ensures.leaves in
    let next = turn.2 in
    let below = turn.3 in
    omega (arith, next, below)

-- ---- the run ended

pub returns-in-Ok-Ended : goal.returns-in-Ok-Ended
returns-in-Ok-Ended g c =
    let host = g.H.Host in
    let row = row_for c.args.command.now in
    let lines = c.args.events.now in
    let old = c.args.host.now in
    let x = c.args.loaded.now in
    let said = (host.roles old Transcript).put in
    let heap = heap_on host old c.args.rest x.next in
    let run = guarded_first (serial_of c.args.last) said (model_state x.state) heap in
    let course = guarded_course lines row.steps (serial_of c.args.last) (model_state x.state) heap in
    let mid = c.turns.host in
    let new = c.take_turn.new.host in
    let inv = c.turns.invariant in
    let turn = subst (TurnLeaves host new row lines (serial_of c.turns.kept) c.take_turn.new.cpu (FromDisk host.tells row c.turns.first lines (serial_of c.turns.kept) c.turns.cpu (host.roles mid Transcript).put c.turns.image.state (heap_on host mid c.turns.disk c.turns.image.next))) c.in-Ok-Ended.field-0-is c.in-Ok-Ended.ensures.leaves in
    record {
      counted = turn.0;
      parked = turn.1;
      through = (turn.2.0, turn.2.1, λ work. (turn.2.2 (meanings host old) run course (inv.from work)).0);
      legs =
          let kept = λ (told : IsTrue g.V.Vault.tells). (subst (λ (t : Turn). TurnKeeps (g.V.Vault.state c.args.vault.now) (g.V.Vault.state c.take_turn.new.vault) c.turns.kept (IsKeptImage (host.tells Work) lines row.steps run) (Ok t)) c.in-Ok-Ended.field-0-is (c.in-Ok-Ended.ensures.vault told (g.V.Vault.state c.args.vault.now) (meanings host old) run course inv.from (inv.keeps told))) in (
            serial_of c.turns.kept,
            λ told.
                keeps-gives (g.V.Vault.state c.args.vault.now) (g.V.Vault.state c.take_turn.new.vault) (serial_of c.turns.kept) (IsKeptImage (host.tells Work) lines row.steps run) (IsKeptImage (host.tells Work) lines row.steps (guarded_first (serial_of c.args.last) [] (model_state x.state) heap))
                (λ serial image is work. checkpoint-first lines row.steps (serial_of c.args.last) said (model_state x.state) heap serial image (is work)) (kept told).0,
            record {
              has = λ told. has-last (g.V.Vault.state c.take_turn.new.vault) c.turns.kept (serial_of c.turns.kept) (kept told).1 refl;
              serial = λ work. sym (serial-first lines row.steps (serial_of c.args.last) said (model_state x.state) heap) ∙ (turn.2.2 (meanings host old) run course (inv.from work)).1;
            },
            tt,
          );
      file = λ work. file-then (host.roles old Work) (host.roles mid Work) (host.roles new Work) (inv.file work) (c.take_turn.ensures.file work);
      others = leaves-then (roles_at Running) (meanings host old) (meanings host mid) (meanings host new) inv.others c.take_turn.ensures.others;
      vault_later = (let calm = inv.calm in let high = c.take_turn.ensures.later in omega (arith, calm, high));
      calm = c.in-Ok-Ended.ensures.calm ∙ inv.calm;
    }

-- ---- it was stopped

pub returns-in-Err : goal.returns-in-Err
returns-in-Err g c =
    let host = g.H.Host in
    let row = row_for c.args.command.now in
    let lines = c.args.events.now in
    let old = c.args.host.now in
    let x = c.args.loaded.now in
    let said = (host.roles old Transcript).put in
    let heap = heap_on host old c.args.rest x.next in
    let run = guarded_first (serial_of c.args.last) said (model_state x.state) heap in
    let course = guarded_course lines row.steps (serial_of c.args.last) (model_state x.state) heap in
    let mid = c.turns.host in
    let new = c.take_turn.new.host in
    let inv = c.turns.invariant in
    record {
      counted = tt;
      parked = tt;
      through = tt;
      legs = (
        serial_of c.turns.kept,
        λ told.
            keeps-gives (g.V.Vault.state c.args.vault.now) (g.V.Vault.state c.take_turn.new.vault) (serial_of c.turns.kept) (IsKeptImage (host.tells Work) lines row.steps run) (IsKeptImage (host.tells Work) lines row.steps (guarded_first (serial_of c.args.last) [] (model_state x.state) heap))
            (λ serial image is work. checkpoint-first lines row.steps (serial_of c.args.last) said (model_state x.state) heap serial image (is work))
            (c.in-Err.ensures.vault told (g.V.Vault.state c.args.vault.now) (meanings host old) run course inv.from (inv.keeps told)).0,
        tt,
        (
          λ told. (c.in-Err.ensures.vault told (g.V.Vault.state c.args.vault.now) (meanings host old) run course inv.from (inv.keeps told)).1,
          stop-first host.tells (meanings host old) (meanings host new) (g.V.Vault.faults c.args.vault.now) (g.V.Vault.faults c.take_turn.new.vault) row lines (serial_of c.args.last) said (model_state x.state) heap course (serial_of c.turns.kept) c.in-Err.status
              (legs-stop host.tells (meanings host old) (meanings host mid) (meanings host new) (g.V.Vault.faults c.args.vault.now) (g.V.Vault.faults c.turns.vault) (g.V.Vault.faults c.take_turn.new.vault) row lines (FromDisk host.tells row c.turns.first lines (serial_of c.turns.kept) c.turns.cpu (host.roles mid Transcript).put c.turns.image.state (heap_on host mid c.turns.disk c.turns.image.next))
              course (serial_of c.turns.kept) c.in-Err.status inv.others.later inv.calm c.in-Err.ensures.ends run inv.from),
        ),
      );
      file = λ work. file-then (host.roles old Work) (host.roles mid Work) (host.roles new Work) (inv.file work) (c.take_turn.ensures.file work);
      others = leaves-then (roles_at Running) (meanings host old) (meanings host mid) (meanings host new) inv.others c.take_turn.ensures.others;
      vault_later = (let calm = inv.calm in let high = c.take_turn.ensures.later in omega (arith, calm, high));
      calm = tt;
    }
