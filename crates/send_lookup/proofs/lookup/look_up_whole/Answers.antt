use Rattle.std.proofs.Common.{[], ◌∷◌, refl, sym, ◌∙◌}
use Rattle.object_memory.proofs.LooksLaws.{below_among}
use Rattle.contexts.proofs.Steps.{read_first}
use Rattle.contexts.proofs.PeekLaws.{exits_found}
use Rattle.send_lookup.proofs.PathLaws.{on_path_at, walks_one, walks_none}
use Rattle.send_lookup.proofs.RowLaws.{put_serves_lookup, put_regs, begins}
use Rattle.send_lookup.proofs.lookup.look_up_whole.Goals as goal

pub returns-in_err-go_up-clause-serves : goal.returns-in_err-go_up-clause-serves
returns-in_err-go_up-clause-serves g c = λ cpu.
    let r0 = c.requires.fit.ready in
    let r1 = c.copy.ensures.fit.ready r0 in
    let r2 = c.copy-2.ensures.fit.ready r1 in
    let r3 = c.copy-3.ensures.fit.ready r2 in
    let r4 = c.begin_path.ensures.fit.ready r3 in
    let start = begins _ _ _ _ _ c.args.class c.args.selector c.requires.selector r0 r1 r2 r3 r4 c.copy.ensures.told c.copy-2.ensures.told c.copy-3.ensures.told c.begin_path.ensures.told in
    exits_found _ _ c.from_residual.ensures.1 (read_first r0 start.quiet (rw (start.from, start.sought) at (c.in_err-go_up.ensures.walks cpu).serves))

pub returns-then-not-branch-clause-serves : goal.returns-then-not-branch-clause-serves
returns-then-not-branch-clause-serves g c = λ cpu.
    let r0 = c.requires.fit.ready in
    let r1 = c.copy.ensures.fit.ready r0 in
    let r2 = c.copy-2.ensures.fit.ready r1 in
    let r3 = c.copy-3.ensures.fit.ready r2 in
    let r4 = c.begin_path.ensures.fit.ready r3 in
    let start = begins _ _ _ _ _ c.args.class c.args.selector c.requires.selector r0 r1 r2 r3 r4 c.copy.ensures.told c.copy-2.ensures.told c.copy-3.ensures.told c.begin_path.ensures.told in
    read_first r0 start.quiet (rw (start.from, start.sought) at (walks_none _ _ c.if-not-branch.true (c.in_ok-go_up.ensures.walks cpu)).serves)

pub returns-then-not-branch-clause-others : goal.returns-then-not-branch-clause-others
returns-then-not-branch-clause-others g c = λ r low.
    let r0 = c.requires.fit.ready in
    let r1 = c.copy.ensures.fit.ready r0 in
    let r2 = c.copy-2.ensures.fit.ready r1 in
    let r3 = c.copy-3.ensures.fit.ready r2 in
    let r4 = c.begin_path.ensures.fit.ready r3 in
    let start = begins _ _ _ _ _ c.args.class c.args.selector c.requires.selector r0 r1 r2 r3 r4 c.copy.ensures.told c.copy-2.ensures.told c.copy-3.ensures.told c.begin_path.ensures.told in
    c.in_ok-go_up.ensures.passes.regs r (below_among 19 (20 ∷ 21 ∷ 22 ∷ []) r low refl) ∙ start.others r low

-- class, selector and method are on the path
pub cache_put-requires-clause-class : goal.cache_put-requires-clause-class
cache_put-requires-clause-class g c =
    let r0 = c.requires.fit.ready in
    let r1 = c.copy.ensures.fit.ready r0 in
    let r2 = c.copy-2.ensures.fit.ready r1 in
    let r3 = c.copy-3.ensures.fit.ready r2 in
    let r4 = c.begin_path.ensures.fit.ready r3 in
    let start = begins _ _ _ _ _ c.args.class c.args.selector c.requires.selector r0 r1 r2 r3 r4 c.copy.ensures.told c.copy-2.ensures.told c.copy-3.ensures.told c.begin_path.ensures.told in
    let up = c.in_ok-go_up.ensures in
    on_path_at (g.M.ObjectMemory.told c.go_up.new.m) _ _ (sym (up.passes.regs 19 refl ∙ start.first)) (up.class c.if-not-branch.false)

pub cache_put-requires-clause-selector : goal.cache_put-requires-clause-selector
cache_put-requires-clause-selector g c =
    let up = c.in_ok-go_up.ensures in
    on_path_at (g.M.ObjectMemory.told c.go_up.new.m) _ _ (sym (up.passes.regs 23 refl)) (up.selector c.if-not-branch.false)

pub cache_put-requires-clause-method : goal.cache_put-requires-clause-method
cache_put-requires-clause-method g c = c.in_ok-go_up.ensures.method c.if-not-branch.false

pub returns-clause-serves : goal.returns-clause-serves
returns-clause-serves g c = λ cpu.
    let r0 = c.requires.fit.ready in
    let r1 = c.copy.ensures.fit.ready r0 in
    let r2 = c.copy-2.ensures.fit.ready r1 in
    let r3 = c.copy-3.ensures.fit.ready r2 in
    let r4 = c.begin_path.ensures.fit.ready r3 in
    let start = begins _ _ _ _ _ c.args.class c.args.selector c.requires.selector r0 r1 r2 r3 r4 c.copy.ensures.told c.copy-2.ensures.told c.copy-3.ensures.told c.begin_path.ensures.told in
    let up = c.in_ok-go_up.ensures in
    let yes = c.if-not-branch.false in
    let put = put_serves_lookup c.cache_put.result 19 23 22 _ _ (up.passes.regs 19 refl ∙ start.first) (up.passes.regs 23 refl) up.fit.ready (c.cache_put.ensures.fit.ready up.fit.ready) (up.class yes) (up.selector yes) (up.method yes) c.cache_put.ensures.put (walks_one _ _ yes (up.walks cpu)) in
    read_first r0 start.quiet (rw (start.from, start.sought) at put)

pub returns-clause-others : goal.returns-clause-others
returns-clause-others g c = λ r low.
    let r0 = c.requires.fit.ready in
    let r1 = c.copy.ensures.fit.ready r0 in
    let r2 = c.copy-2.ensures.fit.ready r1 in
    let r3 = c.copy-3.ensures.fit.ready r2 in
    let r4 = c.begin_path.ensures.fit.ready r3 in
    let start = begins _ _ _ _ _ c.args.class c.args.selector c.requires.selector r0 r1 r2 r3 r4 c.copy.ensures.told c.copy-2.ensures.told c.copy-3.ensures.told c.begin_path.ensures.told in
    put_regs _ _ c.cache_put.result 19 23 22 r c.cache_put.ensures.put ∙ c.in_ok-go_up.ensures.passes.regs r (below_among 19 (20 ∷ 21 ∷ 22 ∷ []) r low refl) ∙ start.others r low
