use Rattle.std.proofs.Common.{Some, slice_set, subst, sym, arith}
use Rattle.method_cache.specs.declared.cache.Row.{Row}
use Rattle.method_cache.specs.Found.{found, place_of, method_in, IsPut}
use Rattle.method_cache.proofs.CacheLaws.{put_in, row_at}
use Rattle.method_cache.proofs.cache.Cache.put.Goals as goal

pub returns : goal.returns
unfolding found
returns c =
    let row : Row = record { class = c.args.class; selector = c.args.selector; method = c.args.method } in
    let rows = c.args.self.now.rows in
    subst (λ i. IsPut (λ a b. method_in (row_at rows (place_of a b)) a b) (λ a b. method_in (row_at (slice_set rows i (Some row)) (place_of a b)) a b) c.args.class c.args.selector c.args.method)
    (sym c.row_number.ensures) (put_in rows row (omega arith))
