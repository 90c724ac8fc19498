-- Code whose instructions have the heights of the stack that they say, and whose jumps land on instructions.
use Rattle.std.specs.Prelude.{◌≡◌, ℕ, zero, suc, ◌+◌, ◌-◌, ◌<◌, ◌≤◌, ◌⊎◌, Bool, nat_lt, List, [], ◌∷◌, Option, Some, None, All, length, if◌then◌else◌}
use Rattle.st80_tree.specs.declared.tree.Method.{Method}
use Rattle.st80_compile.specs.declared.step.Place.{Place}
use Rattle.st80_compile.specs.declared.step.Place.TheVariants.{OfReceiver, OfHome, OfFrame, OfAssociation}
use Rattle.st80_compile.specs.declared.step.Op.{Op}
use Rattle.st80_compile.specs.declared.step.Op.TheVariants.{Push, PushConstant, PushContext, Store, StorePop, Pop, Duplicate, Message, Special, Jump, Over, Back, Branch, ReturnConstant, ReturnTop, ReturnFromBlock}
use Rattle.st80_compile.specs.declared.step.Step.{Step}
use Rattle.st80_compile.specs.Frame.{special_arguments}
use Rattle.st80_compile.specs.declared.compiler.Compiled.{Compiled}
use Rattle.st80_compile.specs.Bytes.{width, op_refusal}
use Rattle.st80_compile.specs.Compiled.{rise}

-- how many bytes
abbrev pub size : List Step → ℕ
size [] = 0
size (s ∷ rest) = width s.op + size rest

-- the height at a byte: of the instruction that begins there, or behind the last one
unfoldable pub label : ℕ → List Step → ℕ → Option ℕ
label e [] zero = Some e
label e [] (suc p) = None
label e (s ∷ rest) zero = Some s.height
label e (s ∷ rest) (suc p) = if nat_lt (suc p) (width s.op) then None else label e rest (suc p - width s.op)

-- h is n more than m, as far as heights count
abbrev pub IsMore : ℕ → ℕ → ℕ → Type 0
IsMore n m h = (h ≡ m + n) ⊎ (255 ≤ h)

-- an instruction at height h goes on at byte q with n values more, or fewer
abbrev pub Gains : (ℕ → Option ℕ) → ℕ → ℕ → ℕ → Type 0
Gains at q h n = (m : ℕ) × IsMore n h m × (at q ≡ Some m)

abbrev pub Drops : (ℕ → Option ℕ) → ℕ → ℕ → ℕ → Type 0
Drops at q h n = (m : ℕ) × IsMore n m h × (at q ≡ Some m)

-- wherever an instruction goes, another begins, or the code ends, with as many values as it leaves. q is the byte behind it
abbrev pub Runs : (ℕ → Option ℕ) → ℕ → ℕ → Op → Type 0
Runs at q h (Push place) = Gains at q h 1
Runs at q h (PushConstant c) = Gains at q h 1
Runs at q h PushContext = Gains at q h 1
Runs at q h (Store place) = Gains at q h 0
Runs at q h (StorePop place) = Drops at q h 1
Runs at q h Pop = Drops at q h 1
Runs at q h Duplicate = Gains at q h 1
Runs at q h (Message to_super i n) = Drops at q h n
Runs at q h (Special s) = Drops at q h (special_arguments s)
Runs at q h (Jump n) = n ≤ 1023 → at (q + n) ≡ Some h
-- behind it a block's code begins, with the block's arguments
Runs at q h (Over n) = ((k : ℕ) × (at q ≡ Some k)) × (n ≤ 1023 → at (q + n) ≡ Some h)
Runs at q h (Back n) = n ≤ 1024 → (p : ℕ) × (p + n ≡ q) × (at p ≡ Some h)
Runs at q h (Branch on n) = (m : ℕ) × IsMore 1 m h × (at q ≡ Some m) × (n ≤ 1023 → at (q + n) ≡ Some m)
Runs at q h (ReturnConstant c) = Unit {0}
Runs at q h ReturnTop = 1 ≤ h
Runs at q h ReturnFromBlock = 1 ≤ h

abbrev pub RunFrom : (ℕ → Option ℕ) → ℕ → List Step → Type 0
RunFrom at p [] = Unit {0}
RunFrom at p (s ∷ rest) = Runs at (p + width s.op) s.height s.op × RunFrom at (p + width s.op) rest

-- code that ends with height e, if it is left at its end
abbrev pub AreSound : ℕ → List Step → Type 0
AreSound e steps = RunFrom (label e steps) 0 steps

-- sound code that begins with height h, and ends with height e
pub record IsPart (e h : ℕ) (steps : List Step) : Type 0 where
  pub sound : AreSound e steps
  pub begins : label e steps 0 ≡ Some h

-- ---- literals

abbrev pub PlaceHas : ℕ → Place → Type 0
PlaceHas n (OfReceiver i) = Unit {0}
PlaceHas n (OfHome i) = Unit {0}
PlaceHas n (OfFrame i) = i < n
PlaceHas n (OfAssociation i) = i < n

-- the literal that an instruction names is one of n
abbrev pub HasLiteral : ℕ → Op → Type 0
HasLiteral n (Push place) = PlaceHas n place
HasLiteral n (PushConstant c) = Unit {0}
HasLiteral n PushContext = Unit {0}
HasLiteral n (Store place) = PlaceHas n place
HasLiteral n (StorePop place) = PlaceHas n place
HasLiteral n Pop = Unit {0}
HasLiteral n Duplicate = Unit {0}
HasLiteral n (Message to_super i k) = i < n
HasLiteral n (Special s) = Unit {0}
HasLiteral n (Jump d) = Unit {0}
HasLiteral n (Over d) = Unit {0}
HasLiteral n (Back d) = Unit {0}
HasLiteral n (Branch on d) = Unit {0}
HasLiteral n (ReturnConstant c) = Unit {0}
HasLiteral n ReturnTop = Unit {0}
HasLiteral n ReturnFromBlock = Unit {0}

abbrev pub AllHave : ℕ → List Step → Type 0
AllHave n [] = Unit {0}
AllHave n (s ∷ rest) = HasLiteral n s.op × AllHave n rest

-- ---- what was made

-- how many fields a context has behind its first six
abbrev pub room_of : Bool → ℕ
room_of large = if large then 32 else 12

-- what holds of the code of a method with these literals
pub record IsWithin (m : Method) (frame : List ℕ) (steps : List Step) (made : Compiled) : Type 0 where
  -- a header counts them
  pub few_temporaries : m.temporaries ≤ 31
  pub few_literals : length frame ≤ 63
  -- each literal and each temporary that is named is there, and each jump has bytes
  pub named : All (λ s. op_refusal m.temporaries (length frame) s.op ≡ None) steps
  -- no instruction pushes past its context, not even with what doesNotUnderstand: and cannotReturn: take
  pub room : All (λ s. s.height + rise s.op ≤ room_of made.is_large) steps
