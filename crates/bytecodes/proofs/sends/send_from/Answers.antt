use Rattle.std.proofs.Common.{refl}
use Rattle.object_memory.proofs.LooksLaws.{Looks-put}
use Rattle.blue_model.specs.Sends.{send_from}
use Rattle.contexts.proofs.RegisterLaws.{put_serves}
use Rattle.contexts.proofs.ServesLaws.{serves_then, serves_exit}
use Rattle.bytecodes.proofs.KeepLaws.{keeps_after}
use Rattle.bytecodes.proofs.sends.send_from.Goals as goal

pub returns-in_err-find_or_tell-clause-serves : goal.returns-in_err-find_or_tell-clause-serves
unfolding send_from
returns-in_err-find_or_tell-clause-serves g c =
    let ready = c.copy.ensures.fit.ready c.requires.fit.ready in
    let class = (Looks-put _ _ 4 _ c.copy.ensures.told).regs 11 refl in
    serves_then _ (put_serves 4 10 refl c.requires.fit.ready ready c.copy.ensures.told)
    (serves_then _ (c.set_arguments.ensures.serves _ ready)
    (serves_exit _ _ (rw class at c.in_err-find_or_tell.ensures.serves) c.from_residual.ensures.1))

pub returns-clause-serves : goal.returns-clause-serves
unfolding send_from
returns-clause-serves g c =
    let ready = c.copy.ensures.fit.ready c.requires.fit.ready in
    let class = (Looks-put _ _ 4 _ c.copy.ensures.told).regs 11 refl in
    serves_then _ (put_serves 4 10 refl c.requires.fit.ready ready c.copy.ensures.told)
    (serves_then _ (c.set_arguments.ensures.serves _ ready)
    (serves_then _ (rw class at c.in_ok-find_or_tell.ensures.serves) c.execute.ensures.serves))

pub returns-clause-keeps : goal.returns-clause-keeps
returns-clause-keeps g c = keeps_after _ _ _ (λ may. (c.set_arguments.ensures.serves _ (c.copy.ensures.fit.ready c.requires.fit.ready)).vault (c.in_ok-find_or_tell.ensures.serves.vault may)) c.execute.ensures.keeps
