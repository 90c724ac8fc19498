-- The words of a list that grows.
use Rattle.std.proofs.Common.{◌≡◌, ℕ, ◌<◌, List, [], ◌∷◌, ◌++◌, length, refl, ◌∙◌, sym, ap, arith, length-append}
use Rattle.blue_model.specs.declared.event.Event.{Event}
use Rattle.blue_model.specs.declared.event.Event.TheVariants.{Word, Purge, Compact}
use Rattle.blue_model.specs.declared.event.Line.{Line}
use Rattle.blue_model.specs.Devices.{input_words, words_before}
use Rattle.event_file.specs.declared.limits.TheConstants.{MOST_LINES}
use Rattle.event_file.specs.Inside.{IsList}

before-append : (event : Event) (xs ys : List ℕ) → words_before event (xs ++ ys) ≡ words_before event xs ++ ys
before-append (Word w) xs ys = refl
before-append Purge xs ys = refl
before-append Compact xs ys = refl

pub words-last : (lines : List Line) (line : Line) → input_words (lines ++ line ∷ []) ≡ input_words lines ++ words_before line.event []
words-last [] line = refl
words-last (l ∷ lines) line = ap (words_before l.event) (words-last lines line) ∙ before-append l.event (input_words lines) (words_before line.event [])

pub list-last : (lines : List Line) (words : List ℕ) (line : Line) → IsList lines words → length lines < MOST_LINES → IsList (lines ++ line ∷ []) (words ++ words_before line.event [])
list-last lines words line is room = record {
  few = omega (arith, length-append lines (line ∷ []));
  words_are = ap (λ (ws : List ℕ). ws ++ words_before line.event []) is.words_are ∙ sym (words-last lines line);
}
