-- The words in which people read what went wrong.
use Rattle.std.specs.Prelude.{ℕ, List, [], ◌∷◌, codes}
use Rattle.blue_model.specs.declared.cause.Cause.{Cause}
use Rattle.blue_model.specs.declared.cause.Cause.TheVariants as cause
use Rattle.loom_host.specs.declared.outside.Role.{Role}
use Rattle.loom_host.specs.declared.outside.Role.TheVariants as role
use Rattle.st80_explain.specs.declared.columns.Expected.{Expected}
use Rattle.st80_explain.specs.declared.columns.Expected.TheVariants as expected
use Rattle.st80_explain.specs.declared.kinds.FileKind.{FileKind}
use Rattle.st80_explain.specs.declared.kinds.FileKind.TheVariants as kind

-- what a cause of `stuck` is called, and what it means
abbrev pub cause_name : Cause → List ℕ
cause_name cause.Pointer = codes "Pointer"
cause_name cause.Unused = codes "Unused"
cause_name cause.Stack = codes "Stack"
cause_name cause.Shape = codes "Shape"
cause_name cause.NotUnderstood = codes "NotUnderstood"
cause_name cause.NoProcess = codes "NoProcess"
cause_name cause.Chain = codes "Chain"

abbrev pub cause_meaning : Cause → List ℕ
cause_meaning cause.Pointer = codes "a byte is to be fetched, or a jump goes, outside the method's code. A method ends with a return"
cause_meaning cause.Unused = codes "the byte is no instruction, or stores into a literal"
cause_meaning cause.Stack = codes "a value is taken from an empty stack, pushed on a full one, or a temporary is read that the context doesn't have"
cause_meaning cause.Shape = codes "an object that is read is of another kind, has too few fields, or has a value of another sort in one of them"
cause_meaning cause.NotUnderstood = codes "a message was sent that no class understands, and the class has no doesNotUnderstand: either"
cause_meaning cause.NoProcess = codes "the active process waits, ends or suspends itself, and no other process is ready"
cause_meaning cause.Chain = codes "a class has more than 1,023 superclasses: their chain probably goes round"

-- what a file is called by its kind, with its article
abbrev pub kind_text : FileKind → List ℕ
kind_text kind.Empty = codes "an empty file"
kind_text kind.Image = codes "an image"
kind_text kind.Text = codes "the text of an image"
kind_text kind.Picture = codes "a picture (PBM)"
kind_text kind.Png = codes "a picture (PNG)"
kind_text kind.Vault = codes "a vault with a checkpoint"
kind_text kind.Events = codes "an event file"
kind_text kind.Other = codes "none of the files that this program writes"

-- what should have stood at a place of a text
abbrev pub expected_text : Expected → List ℕ
expected_text expected.Loom = codes "the word loom, in lower case"
expected_text expected.Number = codes "a number from 0 to 4294967295, without a sign and without a zero in front"
expected_text expected.Name = codes "the number of an object, without a sign and without a zero in front"
expected_text expected.Class = codes "a class: the number of an object, even and not 0"
expected_text expected.Kind = codes "pointers, words, bytes or method"
expected_text expected.Value = codes "a value: the number of an object, even and not 0, or a SmallInteger as 5i, from -16384i to 16383i"
expected_text expected.Word = codes "a word of four digits 0 to 9 and a to f, in lower case"
expected_text expected.Byte = codes "a byte of two digits 0 to 9 and a to f, in lower case"
expected_text expected.Header = codes "a method's header: a SmallInteger as 5i, from -16384i to 16383i"
expected_text expected.LiteralOrCode = codes "a literal, as 5i or the number of an object, or the word code"
expected_text expected.End = codes "the end of the line"
expected_text expected.Newline = codes "a newline: each line ends with one, and has at most 1,048,576 bytes before it"

-- what a role is
abbrev pub role_text : Role → List ℕ
role_text role.Image = codes "the image"
role_text role.Events = codes "the event file"
role_text role.Work = codes "the work file"
role_text role.Saved = codes "the file that is saved"
role_text role.Display = codes "the picture"
role_text role.Transcript = codes "what the image says"
role_text role.Notes = codes "the last line"

-- ---- all of each
abbrev pub all_causes : List Cause
all_causes = cause.Pointer ∷ cause.Unused ∷ cause.Stack ∷ cause.Shape ∷ cause.NotUnderstood ∷ cause.NoProcess ∷ cause.Chain ∷ []

abbrev pub all_kinds : List FileKind
all_kinds = kind.Empty ∷ kind.Image ∷ kind.Text ∷ kind.Picture ∷ kind.Png ∷ kind.Vault ∷ kind.Events ∷ kind.Other ∷ []

abbrev pub all_expected : List Expected
all_expected = expected.Loom ∷ expected.Number ∷ expected.Name ∷ expected.Class ∷ expected.Kind ∷ expected.Value ∷ expected.Word ∷ expected.Byte ∷ expected.Header ∷ expected.LiteralOrCode ∷ expected.End ∷ expected.Newline ∷ []

abbrev pub all_roles : List Role
all_roles = role.Image ∷ role.Events ∷ role.Work ∷ role.Saved ∷ role.Display ∷ role.Transcript ∷ role.Notes ∷ []
