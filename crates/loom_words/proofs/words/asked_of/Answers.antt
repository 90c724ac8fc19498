-- The words behind the word of a command that were read are that command's.
use Rattle.std.proofs.Common.{◌∙◌, ◌∷◌, ap, codes, subst, sym}
use Rattle.loom_words.proofs.Rows.{asked-asm, asked-list, asked-make, asked-trace, make-of_texts, paths-of_texts, trace-of_texts}
use Rattle.loom_words.specs.Command.{make_for, paths_for, row_for}
use Rattle.loom_words.specs.Words.{ArePaths, IsMake, IsTrace, texts_of}
use Rattle.loom_words.proofs.words.asked_of.Goals as goal

pub returns-in-Some-clause-asked : goal.returns-in-Some-clause-asked
returns-in-Some-clause-asked c =
    let is : IsMake (texts_of c.args.words.now) (make_for c.in_ok-making_of.field-0) = record {
      words_are = c.in-Some.ensures.some ∙ ap (λ ws. codes "make" ∷ ws) c.in_ok-making_of.ensures.words;
      number = c.in_ok-making_of.ensures.limits;
    }
    in (asked-make _ _ is, make-of_texts _ _ is, c.in_ok-making_of.ensures.limits)

pub returns-in-Some-behind-clause-asked : goal.returns-in-Some-behind-clause-asked
returns-in-Some-behind-clause-asked c =
    let is : ArePaths (codes "list") (texts_of c.args.words.now) (paths_for c.in_ok-conversion_of.field-0) = record {
      words_are = c.in-Some-behind.ensures.some ∙ ap (λ ws. codes "list" ∷ ws) c.in_ok-conversion_of.ensures.words;
      apart = c.in_ok-conversion_of.ensures.apart;
    }
    in (asked-list _ _ is, paths-of_texts (codes "list") _ _ is)

pub returns-in-Some-behind-2-clause-asked : goal.returns-in-Some-behind-2-clause-asked
returns-in-Some-behind-2-clause-asked c =
    let is : ArePaths (codes "asm") (texts_of c.args.words.now) (paths_for c.in_ok-conversion_of-2.field-0) = record {
      words_are = c.in-Some-behind-2.ensures.some ∙ ap (λ ws. codes "asm" ∷ ws) c.in_ok-conversion_of-2.ensures.words;
      apart = c.in_ok-conversion_of-2.ensures.apart;
    }
    in (asked-asm _ _ is, paths-of_texts (codes "asm") _ _ is)

pub returns-in-Some-behind-3-clause-asked : goal.returns-in-Some-behind-3-clause-asked
returns-in-Some-behind-3-clause-asked c =
    let is : IsTrace (texts_of c.args.words.now) (row_for c.in_ok-tracing_of.field-0) = subst (λ ws. IsTrace ws (row_for c.in_ok-tracing_of.field-0)) (sym c.in-Some-behind-3.ensures.some) c.in_ok-tracing_of.ensures.row
    in (asked-trace _ _ is, trace-of_texts _ _ is, c.in_ok-tracing_of.ensures.limits)
