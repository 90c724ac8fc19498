-- The making of a large integer, and its end as an answer.
use Rattle.std.specs.Prelude.{ℕ, ℤ, List, length}
use Rattle.long_names.specs.declared.value.Value.{Value}
use Rattle.long_names.specs.Objects.{OfBytes}
use Rattle.blue_model.specs.declared.answer.Answer.{Answer}
use Rattle.blue_model.specs.Machine.{Rule, ◌>>=◌, ◌>>◌, done, make}
use Rattle.blue_model.specs.Trials.{answer}
use Rattle.blue_model.specs.LargeInts.{put_bytes, large_answer}

-- a new object of this class and these bytes
unfoldable pub make_bytes_of : List ℕ → Value → Rule Value
make_bytes_of bytes class = do
  large ← make class (OfBytes (length bytes))
  put_bytes large bytes
  done large

-- a number is answered
abbrev pub answer_number : ℤ → Rule Answer
answer_number z = large_answer z >>= answer 1
