use Rattle.std.proofs.Common.{rules}
use Rattle.checkpoint.proofs.Losses.{torn-filled}
use Rattle.checkpoint.proofs.losing.lose_one.Goals as goal

pub returns : goal.returns
returns c = torn-filled _ _ c.args.range.place c.args.range.len c.min-from.result c.min-n.result c.args.fill (search rules) (search rules) c.fill_piece.ensures
