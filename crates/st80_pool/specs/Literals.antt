-- Which literal an entry of a pool stands for.
use Rattle.std.specs.Prelude.{◌≡◌, ℕ, Bool, List, Some, slice_get}
use Rattle.st80_pool.specs.declared.pool.Entry.{Entry}
use Rattle.st80_pool.specs.declared.pool.Entry.TheVariants as entry

-- a literal, or a variable that methods share
pub data Literal : Type 0 where
  Symbol : (bytes : List ℕ) → Literal
  Integer : (is_negative : Bool) → (amount : ℕ) → Literal
  Character : (code : ℕ) → Literal
  Text : (bytes : List ℕ) → Literal
  Array : (numbers : List ℕ) → Literal
  Shared : (number : ℕ) → Literal

abbrev pub literal_of : Entry → Literal
literal_of (entry.Symbol bytes) = Symbol bytes.items
literal_of (entry.Integer is_negative amount) = Integer is_negative amount
literal_of (entry.Character code) = Character code
literal_of (entry.Text bytes) = Text bytes.items
literal_of (entry.Array numbers) = Array numbers.items
literal_of (entry.Shared number) = Shared number

-- an entry that stands for this literal has this number
pub record IsNumbered (entries : List Entry) (literal : Literal) (number : ℕ) : Type 0 where
  pub entry : Entry
  pub at : slice_get entries number ≡ Some entry
  pub is : literal_of entry ≡ literal
