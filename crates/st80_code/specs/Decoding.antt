-- Which instruction the bytes of a method's code are (chapter 28 of the Blue Book, the table of bytecodes).
use Rattle.std.specs.Prelude.{◌≡◌, ℕ, pos, ◌-ℤ◌, ◌+◌, ◌-◌, ◌*◌, ◌/◌, ◌%◌, ◌<◌, ◌==◌, nat_le, min, Bool, true, false, List, [], ◌∷◌, length, Option, Some, None, slice_get, slice_index, if◌then◌else◌}
use Rattle.st80_code.specs.declared.instruction.Place.{Place}
use Rattle.st80_code.specs.declared.instruction.Place.TheVariants.{ReceiverVariable, Temporary, Literal, LiteralVariable}
use Rattle.st80_code.specs.declared.instruction.Constant.{Constant}
use Rattle.st80_code.specs.declared.instruction.Constant.TheVariants as constant
use Rattle.st80_code.specs.declared.instruction.Instruction.{Instruction}
use Rattle.st80_code.specs.declared.instruction.Instruction.TheVariants.{Push, Store, StoreAndPop, PushConstant, PushActiveContext, Pop, Duplicate, Return, ReturnTop, ReturnTopFromBlock, Jump, JumpOnTrue, JumpOnFalse, Send, SendSuper, SendSpecial, Unused, Cut}
use Rattle.st80_code.specs.declared.instruction.Line.{Line}

-- ---- what the byte behind the first says

-- the instruction that a following byte makes, if there is one
abbrev pub with_next : Option ℕ → (ℕ → Instruction) → Instruction
with_next None f = Cut
with_next (Some n) f = f n

-- one of four by the kind, with the number
abbrev pub place_of : ℕ → Place
place_of n = if n / 64 == 0 then ReceiverVariable (n % 64) else (if n / 64 == 1 then Temporary (n % 64) else (if n / 64 == 2 then Literal (n % 64) else LiteralVariable (n % 64)))

-- 128 to 130: push, store, store and pop. A literal can't be stored into
abbrev pub extended_by : ℕ → ℕ → Instruction
extended_by b n = if b == 128 then Push (place_of n) else (if n / 64 == 2 then Unused else (if b == 129 then Store (place_of n) else StoreAndPop (place_of n)))

abbrev pub extended_of : ℕ → Option ℕ → Instruction
extended_of b n = with_next n (extended_by b)

-- a send, or one to super
abbrev pub sent : Bool → ℕ → ℕ → Instruction
sent is_super literal arguments = if is_super then SendSuper literal arguments else Send literal arguments

-- literal and number of arguments in one byte
abbrev pub single_extended : Bool → Option ℕ → Instruction
single_extended is_super n = with_next n (λ n. sent is_super (n % 32) (n / 32))

-- the number of arguments in one byte, and the literal in the next
abbrev pub double_extended : Bool → Option ℕ → Option ℕ → Instruction
double_extended is_super n m = with_next n (λ n. with_next m (λ m. sent is_super m n))

-- ---- the table

-- 112 to 119
abbrev pub constant_of : ℕ → Constant
constant_of i = if i == 0 then constant.Receiver else (if i == 1 then constant.True else (if i == 2 then constant.False else (if i == 3 then constant.Nil else (if i == 4 then constant.MinusOne else (if i == 5 then constant.Zero else (if i == 6 then constant.One else constant.Two))))))

-- pushes and stores of variables and constants: 0 to 119
unfoldable pub plain_of : ℕ → Instruction
plain_of b =
    if nat_le b 15 then Push (ReceiverVariable b) else
    (if nat_le b 31 then Push (Temporary (b - 16)) else
    (if nat_le b 63 then Push (Literal (b - 32)) else
    (if nat_le b 95 then Push (LiteralVariable (b - 64)) else
    (if nat_le b 103 then StoreAndPop (ReceiverVariable (b - 96)) else
    (if nat_le b 111 then StoreAndPop (Temporary (b - 104)) else
    PushConstant (constant_of (b - 112)))))))

-- returns, the extended bytes, and the stack: 120 to 143
unfoldable pub middle_of : ℕ → Option ℕ → Option ℕ → Instruction
middle_of b n m =
    if nat_le b 123 then Return (constant_of (b - 120)) else
    (if b == 124 then ReturnTop else
    (if b == 125 then ReturnTopFromBlock else
    (if nat_le b 127 then Unused else
    (if nat_le b 130 then extended_of b n else
    (if b == 131 then single_extended false n else
    (if b == 132 then double_extended false n m else
    (if b == 133 then single_extended true n else
    (if b == 134 then double_extended true n m else
    (if b == 135 then Pop else
    (if b == 136 then Duplicate else
    (if b == 137 then PushActiveContext else Unused)))))))))))

-- long jumps: 160 to 175
unfoldable pub long_jump_of : ℕ → Option ℕ → Instruction
long_jump_of b n = with_next n (λ n.
    if nat_le b 167 then Jump (pos ((b - 160) * 256 + n) -ℤ pos 1024) else
    (if nat_le b 171 then JumpOnTrue (pos ((b - 168) * 256 + n)) else
    JumpOnFalse (pos ((b - 172) * 256 + n))))

-- jumps: 144 to 175
unfoldable pub jump_of : ℕ → Option ℕ → Instruction
jump_of b n =
    if nat_le b 151 then Jump (pos (b - 143)) else
    (if nat_le b 159 then JumpOnFalse (pos (b - 151)) else long_jump_of b n)

-- sends: 176 to 255
unfoldable pub send_of : ℕ → Instruction
send_of b =
    if nat_le b 207 then SendSpecial (b - 176) else
    (if nat_le b 223 then Send (b - 208) 0 else
    (if nat_le b 239 then Send (b - 224) 1 else Send (b - 240) 2))

-- the instruction of a byte, with the two behind it, if they are there
unfoldable pub instruction_of : ℕ → Option ℕ → Option ℕ → Instruction
instruction_of b n m =
    if nat_le b 119 then plain_of b else
    (if nat_le b 143 then middle_of b n m else
    (if nat_le b 175 then jump_of b n else send_of b))

-- how many bytes it has
unfoldable pub length_of : ℕ → ℕ
length_of b =
    if b == 132 then 3 else
    (if b == 134 then 3 else
    (if nat_le b 127 then 1 else
    (if nat_le b 134 then 2 else
    (if nat_le b 159 then 1 else
    (if nat_le b 175 then 2 else 1)))))

-- ---- lines

-- the instruction that begins at a byte of the code; what the code ends within has the bytes that are there
unfoldable pub line_at : List ℕ → ℕ → Line
line_at code at = record { at = at; len = min (length_of (slice_index code at)) (length code - at); instruction = instruction_of (slice_index code at) (slice_get code (at + 1)) (slice_get code (at + 2)) }

-- the lines cover the bytes from one place to another: each begins where the one before ends, and has a byte
pub record IsAtFront (start : ℕ) (line : Line) : Type 0 where
  pub begins : line.at ≡ start
  pub some : 0 < line.len

abbrev pub Covers : ℕ → List Line → ℕ → Type 0
Covers start [] end = start ≡ end
Covers start (l ∷ ls) end = IsAtFront start l × Covers (start + l.len) ls end
