-- The shifts cut the word out of the two.
use Rattle.bit_rows.proofs.BitLemmas.{left_bit-cut}
use Rattle.bit_rows.proofs.word.source_word.Goals as goal

pub returns : goal.returns
returns c j h = left_bit-cut c.args.first c.args.second c.args.skew j c.ranges.second.fits c.requires h
