use Rattle.std.proofs.Common.{arith}
use Rattle.image_format.proofs.ImageLaws.{bytes_of_all}
use Rattle.image_format.proofs.Windows.{record_more, record_broken, record_long}
use Rattle.image_format.proofs.laws.a_window_decides.Goals as goal

pub returns-clause-record : goal.returns-clause-record
returns-clause-record c = record_more

pub returns-clause-broken : goal.returns-clause-broken
returns-clause-broken c = record_broken

pub returns-clause-long : goal.returns-clause-long
returns-clause-long c = λ bytes h fits long e. record_long bytes h (bytes_of_all bytes fits) (omega (arith, long)) e
