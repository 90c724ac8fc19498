use Rattle.std.proofs.Common.{Some, None, sym, ◌∙◌}
use Rattle.method_cache.specs.Found.{found}
use Rattle.method_cache.proofs.CacheLaws.{found_in_row, method_of, no_method}
use Rattle.method_cache.proofs.cache.Cache.find.Goals as goal

pub returns-in_default : goal.returns-in_default
unfolding found
returns-in_default c = sym (found_in_row c.args.self.now.rows c.row_number.result c.args.class c.args.selector None c.row_number.ensures c.in_default.is)

pub returns-then-row-selector : goal.returns-then-row-selector
unfolding found
returns-then-row-selector c =
    sym (found_in_row c.args.self.now.rows c.row_number.result c.args.class c.args.selector (Some c.in-Some.row) c.row_number.ensures c.in-Some.is
    ∙ method_of c.in-Some.row c.args.class c.args.selector c.if-row-class.true c.if-row-selector.true)

pub returns-else-row-class : goal.returns-else-row-class
unfolding found
returns-else-row-class c =
    sym (found_in_row c.args.self.now.rows c.row_number.result c.args.class c.args.selector (Some c.in-Some.row) c.row_number.ensures c.in-Some.is
    ∙ no_method c.in-Some.row c.args.class c.args.selector c.else-row-class.either)
