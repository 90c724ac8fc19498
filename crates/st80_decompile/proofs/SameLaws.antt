-- What holds of what was made of a tree holds of what is the same.
use Rattle.std.proofs.Common.{ℕ, List, sym, ◌∙◌}
use Rattle.st80_tree.specs.declared.tree.Method.{Method}
use Rattle.st80_compile.specs.declared.step.Step.{Step}
use Rattle.st80_compile.specs.declared.compiler.Answers.{Answers}
use Rattle.st80_compile.specs.declared.compiler.Answers.TheVariants as form
use Rattle.st80_compile.specs.declared.compiler.Compiled.{Compiled}
use Rattle.st80_compile.specs.Compiled.{frame_of, steps_of, IsCode, IsQuick, IsCompiled}
use Rattle.st80_decompile.specs.Decompiled.{AreSame}

same-code : (m : Method) (frame : List ℕ) (steps : List Step) (a b : Compiled) → AreSame a b → IsCode m frame steps a → IsCode m frame steps b
same-code m frame steps a b s x = record {
  answers = sym s.answers ∙ x.answers;
  accepted = x.accepted;
  arguments = sym s.arguments ∙ x.arguments;
  temporaries = sym s.temporaries ∙ x.temporaries;
  primitive = sym s.primitive ∙ x.primitive;
  large = sym s.is_large ∙ x.large;
  supers = sym s.sends_super ∙ x.supers;
  literals = sym s.literals ∙ x.literals;
  code = sym s.code ∙ x.code;
}

same-quick : (quick : Answers) (a b : Compiled) → AreSame a b → IsQuick quick a → IsQuick quick b
same-quick quick a b s x = record {
  answers = sym s.answers ∙ x.answers;
  literals = sym s.literals ∙ x.literals;
  code = sym s.code ∙ x.code;
}

pub same_compiled : (answers : Answers) (m : Method) (a b : Compiled) → AreSame a b → IsCompiled answers m a → IsCompiled answers m b
same_compiled form.Code m a b s x = same-code m (frame_of m) (steps_of (frame_of m) m) a b s x
same_compiled form.Receiver m a b s x = same-quick form.Receiver a b s x
same_compiled (form.Field n) m a b s x = same-quick (form.Field n) a b s x
