-- What a buffer is once its bytes, which it lent, were filled.
use Rattle.std.specs.Prelude.{ℕ, List}
use Rattle.std.specs.Borrow.{Lends, MutBor, Fml, Array, u8}
use Rattle.object_record.specs.Filling.{filled_with}
use Rattle.object_record.specs.contracts.record_buf.RecordBuf.{the_row}

abbrev pub LendsBytes : MutBor (List ℕ) → MutBor (List ℕ) → Fml
LendsBytes buffer bytes = Lends the_row (Array u8 0) buffer bytes (filled_with buffer.now)
