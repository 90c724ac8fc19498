use Rattle.std.proofs.Common.{[], ◌∷◌, refl, arith}
use Rattle.object_memory.proofs.LooksLaws.{Looks-put, below_among}
use Rattle.send_lookup.proofs.RowLaws.{when_true, when_false, found_serves, no_pair, asked_lookup, asked_others}
use Rattle.send_lookup.proofs.lookup.look_up.Goals as goal

pub returns-then-ask_cache-clause-serves : goal.returns-then-ask_cache-clause-serves
returns-then-ask_cache-clause-serves g c = λ cpu.
    let ready = c.requires.fit.ready in
    found_serves 22 c.args.class c.args.selector (omega arith) ready c.ask_cache.ensures.fit.ready (when_true _ _ _ c.if-ask_cache.true c.ask_cache.ensures.found)

pub returns-then-ask_cache-clause-cached : goal.returns-then-ask_cache-clause-cached
returns-then-ask_cache-clause-cached g c = λ has. (refl, when_true _ _ _ c.if-ask_cache.true c.ask_cache.ensures.found)

pub returns-then-ask_cache-clause-others : goal.returns-then-ask_cache-clause-others
returns-then-ask_cache-clause-others g c = λ r low. (Looks-put _ _ 22 _ (when_true _ _ _ c.if-ask_cache.true c.ask_cache.ensures.found).told).regs r (below_among 19 (22 ∷ []) r low refl)

pub returns-clause-serves : goal.returns-clause-serves
returns-clause-serves g c = λ cpu. asked_lookup c.args.class c.args.selector (when_false _ _ _ c.if-ask_cache.false c.ask_cache.ensures.found) (c.look_up_whole.ensures.serves cpu)

pub returns-clause-cached : goal.returns-clause-cached
returns-clause-cached g c = λ has. absurd (no_pair _ _ c.args.class c.args.selector (when_false _ _ _ c.if-ask_cache.false c.ask_cache.ensures.found) has)

pub returns-clause-others : goal.returns-clause-others
returns-clause-others g c = asked_others _ _ (g.M.ObjectMemory.told c.look_up_whole.new.m) c.args.class c.args.selector c.look_up_whole.result (when_false _ _ _ c.if-ask_cache.false c.ask_cache.ensures.found) c.look_up_whole.ensures.others
