-- The bytes of an instruction (chapter 28): short forms first.
use Rattle.std.specs.Prelude.{ℕ, ◌+◌, ◌-◌, ◌*◌, ◌/◌, ◌%◌, ◌==◌, ◌&&◌, Bool, true, false, not, nat_lt, nat_le, List, [], ◌∷◌, ◌++◌, Option, Some, None, min, fold, flat_map, find, is_some, if◌then◌else◌}
use Rattle.st80_tree.specs.declared.tree.Constant.{Constant}
use Rattle.st80_tree.specs.declared.tree.Constant.TheVariants as constant
use Rattle.st80_compile.specs.declared.step.Place.{Place}
use Rattle.st80_compile.specs.declared.step.Place.TheVariants.{OfReceiver, OfHome, OfFrame, OfAssociation}
use Rattle.st80_compile.specs.declared.step.Op.{Op}
use Rattle.st80_compile.specs.declared.step.Op.TheVariants.{Push, PushConstant, PushContext, Store, StorePop, Pop, Duplicate, Message, Special, Jump, Over, Back, Branch, ReturnConstant, ReturnTop, ReturnFromBlock}
use Rattle.st80_compile.specs.declared.step.Step.{Step}
use Rattle.st80_compile.specs.declared.bytes.Bytes.{Bytes}
use Rattle.st80_compile.specs.declared.bytes.Bytes.TheVariants.{One, Two, Three}
use Rattle.st80_compile.specs.declared.bytes.Refusal.{Refusal}
use Rattle.st80_compile.specs.declared.bytes.Refusal.TheVariants.{FieldTooFar, UnknownTemporary, UnknownLiteral, JumpTooLong}

-- one to three bytes in order, and how many they are
abbrev pub listed : Bytes → List ℕ
listed (One a) = a ∷ []
listed (Two a b) = a ∷ b ∷ []
listed (Three a b c) = a ∷ b ∷ c ∷ []

abbrev pub counted : Bytes → ℕ
counted (One a) = 1
counted (Two a b) = 2
counted (Three a b c) = 3

-- the order of 112 to 119, of which the first four have returns at 120 to 123
abbrev pub number_of : Constant → ℕ
number_of constant.Receiver = 0
number_of constant.True = 1
number_of constant.False = 2
number_of constant.Nil = 3
number_of constant.MinusOne = 4
number_of constant.Zero = 5
number_of constant.One = 6
number_of constant.Two = 7

-- the byte behind 128 to 130: a kind in the upper two bits, and a number
abbrev pub extended : Place → ℕ
extended (OfReceiver n) = n % 64
extended (OfHome n) = 64 + n % 64
extended (OfFrame n) = 128 + n % 64
extended (OfAssociation n) = 192 + n % 64

abbrev pub push_bytes : Place → Bytes
push_bytes (OfReceiver n) = if nat_lt n 16 then One n else Two 128 (n % 64)
push_bytes (OfHome n) = if nat_lt n 16 then One (16 + n) else Two 128 (64 + n % 64)
push_bytes (OfFrame n) = if nat_lt n 32 then One (32 + n) else Two 128 (128 + n % 64)
push_bytes (OfAssociation n) = if nat_lt n 32 then One (64 + n) else Two 128 (192 + n % 64)

abbrev pub pop_bytes : Place → Bytes
pop_bytes (OfReceiver n) = if nat_lt n 8 then One (96 + n) else Two 130 (n % 64)
pop_bytes (OfHome n) = if nat_lt n 8 then One (104 + n) else Two 130 (64 + n % 64)
pop_bytes (OfFrame n) = Two 130 (128 + n % 64)
pop_bytes (OfAssociation n) = Two 130 (192 + n % 64)

-- the send of a literal: one byte for the first sixteen with up to two arguments, two bytes up to 31 and seven, and three
abbrev pub message_bytes : Bool → ℕ → ℕ → Bytes
message_bytes to_super i n =
    if not to_super && (nat_lt i 16 && nat_lt n 3) then One (208 + 16 * n + i) else
    (if nat_lt i 32 && nat_lt n 8
    then Two (if to_super then 133 else 131) (32 * n + i)
    else Three (if to_super then 134 else 132) n (i % 64))

-- a jump that one byte holds
abbrev pub is_short : ℕ → Bool
is_short n = nat_lt 0 n && nat_lt n 9

-- a jump in two bytes, by the first that there is of its kind
abbrev pub long_bytes : ℕ → ℕ → Bytes
long_bytes base n = Two (base + n / 256 % 4) (n % 256)

abbrev pub branch_bytes : Bool → ℕ → Bytes
branch_bytes on n = if on then (if is_short n then One (151 + n) else long_bytes 172 n) else long_bytes 168 n

abbrev pub jump_bytes : ℕ → Bytes
jump_bytes n = if is_short n then One (143 + n) else long_bytes 164 n

abbrev pub bytes_of : Op → Bytes
bytes_of (Push place) = push_bytes place
bytes_of (PushConstant c) = One (112 + number_of c)
bytes_of PushContext = One 137
bytes_of (Store place) = Two 129 (extended place)
bytes_of (StorePop place) = pop_bytes place
bytes_of Pop = One 135
bytes_of Duplicate = One 136
bytes_of (Message to_super i n) = message_bytes to_super i n
bytes_of (Special s) = One (176 + s % 32)
bytes_of (Jump n) = jump_bytes n
bytes_of (Over n) = long_bytes 164 n
bytes_of (Back n) = long_bytes 160 (1024 - n)
bytes_of (Branch on n) = branch_bytes on n
bytes_of (ReturnConstant c) = One (120 + number_of c % 4)
bytes_of ReturnTop = One 124
bytes_of ReturnFromBlock = One 125

abbrev pub width : Op → ℕ
width o = counted (bytes_of o)

-- ---- what no bytes can say

abbrev pub place_refusal : ℕ → ℕ → Place → Option Refusal
place_refusal temporaries literals (OfReceiver n) = if nat_lt n 64 then None else Some FieldTooFar
place_refusal temporaries literals (OfHome n) = if nat_lt n temporaries then None else Some UnknownTemporary
place_refusal temporaries literals (OfFrame n) = if nat_lt n literals then None else Some UnknownLiteral
place_refusal temporaries literals (OfAssociation n) = if nat_lt n literals then None else Some UnknownLiteral

abbrev pub jump_refusal : ℕ → ℕ → Option Refusal
jump_refusal most n = if nat_le n most then None else Some JumpTooLong

-- why an instruction has no bytes in a method with so many temporaries and literals, of which there are at most 31 and 63
abbrev pub op_refusal : ℕ → ℕ → Op → Option Refusal
op_refusal temporaries literals (Push place) = place_refusal temporaries literals place
op_refusal temporaries literals (PushConstant c) = None
op_refusal temporaries literals PushContext = None
op_refusal temporaries literals (Store place) = place_refusal temporaries literals place
op_refusal temporaries literals (StorePop place) = place_refusal temporaries literals place
op_refusal temporaries literals Pop = None
op_refusal temporaries literals Duplicate = None
op_refusal temporaries literals (Message to_super i n) = if nat_lt i literals then None else Some UnknownLiteral
op_refusal temporaries literals (Special s) = None
op_refusal temporaries literals (Jump n) = jump_refusal 1023 n
op_refusal temporaries literals (Over n) = jump_refusal 1023 n
op_refusal temporaries literals (Back n) = jump_refusal 1024 n
op_refusal temporaries literals (Branch on n) = jump_refusal 1023 n
op_refusal temporaries literals (ReturnConstant c) = None
op_refusal temporaries literals ReturnTop = None
op_refusal temporaries literals ReturnFromBlock = None

-- ---- of a list of them

-- how many bytes; more than 1,024 count as 1,025, over which no jump goes
abbrev pub far : List Step → ℕ
far steps = min (fold (λ n step. min n 1025 + width step.op) 0 steps) 1025

abbrev pub spelled : List Step → List ℕ
spelled steps = flat_map (λ step. listed (bytes_of step.op)) steps

-- the first that has no bytes says why
abbrev pub first_of : Option Refusal → Option Refusal → Option Refusal
first_of (Some r) rest = Some r
first_of None rest = rest

abbrev pub at_step : ℕ → ℕ → Option Step → Option Refusal
at_step temporaries literals None = None
at_step temporaries literals (Some step) = op_refusal temporaries literals step.op

abbrev pub refusal_of : ℕ → ℕ → List Step → Option Refusal
refusal_of temporaries literals steps =
    at_step temporaries literals (find (λ step. is_some (op_refusal temporaries literals step.op)) steps)
