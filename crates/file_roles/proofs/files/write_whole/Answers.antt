use Rattle.std.proofs.Common.{refl, rules}
use Rattle.file_roles.specs.Open.{not_of}
use Rattle.file_roles.proofs.OpenLaws.{leaves-same, leaves-then, leaves-unwritten, leaves-wrote}
use Rattle.file_roles.proofs.files.write_whole.Goals as goal

pub loop-done-init : goal.loop-done-init
loop-done-init g c = record { within = search rules; leaves = λ told way used. leaves-same (not_of _) _ _ refl }

pub returns-in_err-done : goal.returns-in_err-done
returns-in_err-done g c told way used =
    let before = c.loop-done.invariant.leaves told way used in
    leaves-then (not_of _) _ _ _ before (leaves-unwritten c.args.used.now _ _ way (before.puts.uses _ _ used) (c.in_err-done.ensures.failed told))

pub loop-done-preserved : goal.loop-done-preserved
loop-done-preserved g c = record {
  within = search rules;
  leaves = λ told way used.
      let before = c.loop-done.invariant.leaves told way used in
      leaves-then (not_of _) _ _ _ before (leaves-wrote c.args.used.now _ _ _ way (before.puts.uses _ _ used) (λ o is place. (c.in_ok-done.ensures.written told o is place).does));
}
