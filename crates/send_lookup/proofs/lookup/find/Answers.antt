use Rattle.std.proofs.Common.{refl, ◌∙◌}
use Rattle.object_memory.proofs.LooksLaws.{Looks-put, not_among}
use Rattle.blue_model.specs.Lookup.{find, put_found}
use Rattle.contexts.proofs.ServesLaws.{serves_then, serves_stop, exits}
use Rattle.contexts.proofs.Steps.{register_then, done_serves}
use Rattle.contexts.proofs.RegisterLaws.{put_serves}
use Rattle.contexts.proofs.PeekLaws.{found_one, found_none}
use Rattle.send_lookup.proofs.RowLaws.{when_true, when_false, found_method, no_pair, asked_lookup, below_asked}
use Rattle.send_lookup.proofs.lookup.find.Goals as goal

pub returns-then-ask_cache-clause-serves : goal.returns-then-ask_cache-clause-serves
returns-then-ask_cache-clause-serves g c = λ cpu.
    let ready = c.requires.fit.ready in
    found_method c.args.class ready c.ask_cache.ensures.fit.ready (when_true _ _ _ c.if-ask_cache.true c.ask_cache.ensures.found)

pub returns-then-ask_cache-clause-cached : goal.returns-then-ask_cache-clause-cached
returns-then-ask_cache-clause-cached g c = λ has. (refl, when_true _ _ _ c.if-ask_cache.true c.ask_cache.ensures.found)

pub returns-then-ask_cache-clause-others : goal.returns-then-ask_cache-clause-others
returns-then-ask_cache-clause-others g c = λ r low apart. (Looks-put _ _ 5 _ (when_true _ _ _ c.if-ask_cache.true c.ask_cache.ensures.found).told).regs r (not_among 5 r apart)

pub returns-in_err-look_up_whole-clause-serves : goal.returns-in_err-look_up_whole-clause-serves
unfolding find
returns-in_err-look_up_whole-clause-serves g c = λ cpu.
    register_then 4 _ refl (exits _ c.from_residual.ensures.1 (serves_stop _ (asked_lookup c.args.class 4 (when_false _ _ _ c.if-ask_cache.false c.ask_cache.ensures.found) (c.in_err-look_up_whole.ensures.serves cpu))))

pub returns-in_err-look_up_whole-clause-cached : goal.returns-in_err-look_up_whole-clause-cached
returns-in_err-look_up_whole-clause-cached g c = λ has. absurd (no_pair _ _ c.args.class 4 (when_false _ _ _ c.if-ask_cache.false c.ask_cache.ensures.found) has)

pub returns-then-not-branch-clause-serves : goal.returns-then-not-branch-clause-serves
unfolding find put_found
returns-then-not-branch-clause-serves g c = λ cpu.
    let found = c.in_ok-look_up_whole.ensures in
    register_then 4 _ refl (serves_then _ (asked_lookup c.args.class 4 (when_false _ _ _ c.if-ask_cache.false c.ask_cache.ensures.found) (found_none _ _ c.if-not-branch.true (found.serves cpu))) (done_serves found.fit.ready))

pub returns-then-not-branch-clause-cached : goal.returns-then-not-branch-clause-cached
returns-then-not-branch-clause-cached g c = λ has. absurd (no_pair _ _ c.args.class 4 (when_false _ _ _ c.if-ask_cache.false c.ask_cache.ensures.found) has)

pub returns-then-not-branch-clause-others : goal.returns-then-not-branch-clause-others
returns-then-not-branch-clause-others g c = λ r low apart. below_asked _ _ (g.M.ObjectMemory.told c.look_up_whole.new.m) c.args.class 4 (when_false _ _ _ c.if-ask_cache.false c.ask_cache.ensures.found) c.in_ok-look_up_whole.ensures.others r low

pub returns-clause-serves : goal.returns-clause-serves
unfolding find put_found
returns-clause-serves g c = λ cpu.
    let found = c.in_ok-look_up_whole.ensures in
    let ready = c.copy.ensures.fit.ready found.fit.ready in
    register_then 4 _ refl (serves_then _ (asked_lookup c.args.class 4 (when_false _ _ _ c.if-ask_cache.false c.ask_cache.ensures.found) (found_one _ _ c.if-not-branch.false (found.serves cpu))) (serves_then _ (put_serves 5 22 refl found.fit.ready ready c.copy.ensures.told) (done_serves ready)))

pub returns-clause-cached : goal.returns-clause-cached
returns-clause-cached g c = λ has. absurd (no_pair _ _ c.args.class 4 (when_false _ _ _ c.if-ask_cache.false c.ask_cache.ensures.found) has)

pub returns-clause-others : goal.returns-clause-others
returns-clause-others g c = λ r low apart. (Looks-put _ _ 5 _ c.copy.ensures.told).regs r (not_among 5 r apart) ∙ below_asked _ _ (g.M.ObjectMemory.told c.look_up_whole.new.m) c.args.class 4 (when_false _ _ _ c.if-ask_cache.false c.ask_cache.ensures.found) c.in_ok-look_up_whole.ensures.others r low
