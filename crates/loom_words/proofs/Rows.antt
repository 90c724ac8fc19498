-- The words that are a run's, and those of each other command.
use Rattle.std.specs.Prelude.{◌≢◌, ◌⊎◌, if◌then◌else◌, String}
use Rattle.std.proofs.Common.{◌≡◌, ◌↔◌, ◌+◌, ◌≤◌, ◌<◌, ◌^◌, ℕ, List, [], ◌∷◌, ◌++◌, Bool, true, false, Option, None, Some, Result, Err, IfErr, inl, inr, length, refl, sym, ap, subst, ◌∙◌, arith, codes, decimal}
use Rattle.std.proofs.lemmas.Slice.Eq.{bytes_eq-Decides}
use Rattle.std.proofs.lemmas.Bool.Decides.{nat_tests}
use Rattle.std.specs.Str.{bytes_eq}
use Rattle.std.specs.Str.Parse.{digits_value}
use Rattle.loom_words.proofs.Numbers.{number-decimal, number-least, number-most, decimal-number, decimal-value}
use Rattle.loom_gen.specs.declared.generator.TheConstants.{LAST_NUMBER}
use Rattle.loom_words.specs.Words.{ArePaths, Check, IsMake, IsRow, IsTrace, MakeRow, Paths, Row, ToAssemble, ToList, ToMake, ToRun, ToTrace, Verb, anything, bad_from, bad_in, bad_word, begins_with, error_of, file_checks, number_checks, texts_of, is_asm, is_from, is_list, is_make, is_none_at, is_number, is_run, make_of, make_row, path_checks, paths_of, row_asked, row_of, run_checks, run_row, trace_checks, trace_row, trace_row_of, is_trace, verb_of}
use Rattle.loom_words.specs.declared.words.TheConstants.{LEAST_CORE, MOST_CORE, LEAST_ENTRIES, MOST_ENTRIES, LEAST_ROOM, MOST_ROOM, MOST_STEPS}

pub differs : (x y : List ℕ) → bytes_eq x y ≡ false → x ≢ y
differs x y e = grind (arith, nat_tests, bytes_eq-Decides)

pub unlike : (x y : List ℕ) → x ≢ y → bytes_eq x y ≡ false
unlike x y e = grind (arith, nat_tests, bytes_eq-Decides)

-- a word that is none of some others
pub none-one : (p : Bool) → (if p then false else true) ≡ true → p ≡ false
none-one true h = absurd (cc)
none-one false h = refl

pub none-more : (p q : Bool) → (if p then false else q) ≡ true → (p ≡ false) × (q ≡ true)
none-more true q h = absurd (cc)
none-more false q h = (refl, h)

-- words of which none is bad, one after the other
taken-if : (at : ℕ) (b : Bool) (x : Option ℕ) → (if b then x else Some at) ≡ None → (b ≡ true) × (x ≡ None)
taken-if at true x h = (refl, h)
taken-if at false x h = absurd (cc)

-- a word that passes stands in front, and none of the others is bad
pub take-word : {P : Type 0} (at : ℕ) (check : Check) (checks : List Check) (all words : List (List ℕ)) → bad_from at (check ∷ checks) all words ≡ None
    → ((word : List ℕ) (others : List (List ℕ)) → words ≡ word ∷ others → check all word ≡ true → bad_from (at + 1) checks all others ≡ None → P) → P
take-word at check checks all [] h next = absurd (cc)
take-word at check checks all (word ∷ words) h next =
    let both = taken-if at (check all word) (bad_from (at + 1) checks all words) h
    in next word words refl both.0 both.1

pub take-end : (at : ℕ) (all words : List (List ℕ)) → bad_from at [] all words ≡ None → words ≡ []
take-end at all [] h = refl
take-end at all (word ∷ words) h = absurd (cc)

pub flip : (x y : List ℕ) → x ≢ y → y ≢ x
flip x y e = λ same. e (sym same)

pub is-word : (text word : List ℕ) → bytes_eq word text ≡ true → word ≡ text
is-word text word e = grind (arith, nat_tests, bytes_eq-Decides)

-- a word that passes isn't the first bad one
pub right-word : (at : ℕ) (check : Check) (checks : List Check) (all : List (List ℕ)) (word : List ℕ) (words others : List (List ℕ)) → words ≡ word ∷ others → check all word ≡ true
    → bad_from at (check ∷ checks) all words ≡ bad_from (at + 1) checks all others
right-word at check checks all word words others is right =
    subst (λ ws. bad_from at (check ∷ checks) all ws ≡ bad_from (at + 1) checks all others) (sym is) (rw right refl)

-- the first word decides: where it isn't the command's it is bad
pub bad-first : (text : List ℕ) (checks : List Check) (words : List (List ℕ)) → begins_with text words ≡ false → bad_in ((λ earlier word. bytes_eq word text) ∷ checks) words ≡ Some 1
bad-first text checks [] other = refl
bad-first text checks (word ∷ words) other = rw other refl

-- ---- the numbers of a run

abbrev pub steps_checks : List Check
steps_checks = is_from 0 MOST_STEPS ∷ []

abbrev pub room_checks : List Check
room_checks = is_from LEAST_ROOM MOST_ROOM ∷ steps_checks

abbrev pub entries_checks : List Check
entries_checks = is_from LEAST_ENTRIES MOST_ENTRIES ∷ room_checks

-- these words begin with numbers within the limits of a run
pub record BeginsNumbers (words : List (List ℕ)) (core entries room steps : ℕ) (others : List (List ℕ)) : Type 0 where
  pub is : words ≡ decimal core ∷ decimal entries ∷ decimal room ∷ decimal steps ∷ others
  pub core_within : (LEAST_CORE ≤ core) × (core ≤ MOST_CORE)
  pub entries_within : (LEAST_ENTRIES ≤ entries) × (entries ≤ MOST_ENTRIES)
  pub room_within : (LEAST_ROOM ≤ room) × (room ≤ MOST_ROOM)
  pub steps_within : steps ≤ MOST_STEPS

pub right-number : (at least most n : ℕ) (checks : List Check) (all words others : List (List ℕ)) → most < 2 ^ 32 → least ≤ n → n ≤ most → words ≡ decimal n ∷ others
    → bad_from at (is_from least most ∷ checks) all words ≡ bad_from (at + 1) checks all others
right-number at least most n checks all words others small low high is =
    right-word at (is_from least most) checks all (decimal n) words others is (decimal-number least most n small low high)

-- the words behind the first numbers, one after the other
pub right-core : (at n : ℕ) (checks : List Check) (all words others : List (List ℕ)) → (LEAST_CORE ≤ n) × (n ≤ MOST_CORE) → words ≡ decimal n ∷ others
    → bad_from at (number_checks ++ checks) all words ≡ bad_from (at + 1) (entries_checks ++ checks) all others
right-core at n checks all words others within is = right-number at LEAST_CORE MOST_CORE n (entries_checks ++ checks) all words others (omega arith) within.0 within.1 is

pub right-entries : (at n : ℕ) (checks : List Check) (all words others : List (List ℕ)) → (LEAST_ENTRIES ≤ n) × (n ≤ MOST_ENTRIES) → words ≡ decimal n ∷ others
    → bad_from (at + 1) (entries_checks ++ checks) all words ≡ bad_from (at + 2) (room_checks ++ checks) all others
right-entries at n checks all words others within is =
    let next : at + 1 + 1 ≡ at + 2 = omega arith
    in right-number (at + 1) LEAST_ENTRIES MOST_ENTRIES n (room_checks ++ checks) all words others (omega arith) within.0 within.1 is ∙ ap (λ at. bad_from at (room_checks ++ checks) all others) next

pub right-room : (at n : ℕ) (checks : List Check) (all words others : List (List ℕ)) → (LEAST_ROOM ≤ n) × (n ≤ MOST_ROOM) → words ≡ decimal n ∷ others
    → bad_from (at + 2) (room_checks ++ checks) all words ≡ bad_from (at + 3) (steps_checks ++ checks) all others
right-room at n checks all words others within is =
    let next : at + 2 + 1 ≡ at + 3 = omega arith
    in right-number (at + 2) LEAST_ROOM MOST_ROOM n (steps_checks ++ checks) all words others (omega arith) within.0 within.1 is ∙ ap (λ at. bad_from at (steps_checks ++ checks) all others) next

right-steps : (at n : ℕ) (checks : List Check) (all words others : List (List ℕ)) → n ≤ MOST_STEPS → words ≡ decimal n ∷ others
    → bad_from (at + 3) (steps_checks ++ checks) all words ≡ bad_from (at + 4) checks all others
right-steps at n checks all words others within is =
    let next : at + 3 + 1 ≡ at + 4 = omega arith
    in right-number (at + 3) 0 MOST_STEPS n checks all words others (omega arith) (omega arith) within is ∙ ap (λ at. bad_from at checks all others) next

-- behind the numbers only another word may be bad
pub right-numbers : (at : ℕ) (checks : List Check) (all words : List (List ℕ)) (core entries room steps : ℕ) (others : List (List ℕ)) → BeginsNumbers words core entries room steps others
    → bad_from at (number_checks ++ checks) all words ≡ bad_from (at + 4) checks all others
right-numbers at checks all words core entries room steps others begins =
    let w3 : List (List ℕ) = decimal steps ∷ others
    in let w2 : List (List ℕ) = decimal room ∷ w3
    in let w1 : List (List ℕ) = decimal entries ∷ w2
    in right-core at core checks all words w1 begins.core_within begins.is
    ∙ right-entries at entries checks all w1 w2 begins.entries_within refl
    ∙ right-room at room checks all w2 w3 begins.room_within refl
    ∙ right-steps at steps checks all w3 others begins.steps_within refl

-- words that pass as numbers are the decimals of those that they state
decimals-are : (g h i j : List ℕ) (others : List (List ℕ)) (core entries room steps : ℕ) → g ≡ decimal core → h ≡ decimal entries → i ≡ decimal room → j ≡ decimal steps
    → g ∷ h ∷ i ∷ j ∷ others ≡ decimal core ∷ decimal entries ∷ decimal room ∷ decimal steps ∷ others
decimals-are g h i j others core entries room steps is_core is_entries is_room is_steps = rw (is_core, is_entries, is_room, is_steps) refl

four-numbers : (g h i j : List ℕ) (words others : List (List ℕ)) → words ≡ g ∷ h ∷ i ∷ j ∷ others
    → is_number LEAST_CORE MOST_CORE g ≡ true → is_number LEAST_ENTRIES MOST_ENTRIES h ≡ true → is_number LEAST_ROOM MOST_ROOM i ≡ true → is_number 0 MOST_STEPS j ≡ true
    → BeginsNumbers words (digits_value 10 g) (digits_value 10 h) (digits_value 10 i) (digits_value 10 j) others
four-numbers g h i j words others are core entries room steps = record {
  is = are ∙ decimals-are g h i j others (digits_value 10 g) (digits_value 10 h) (digits_value 10 i) (digits_value 10 j)
      (sym (number-decimal LEAST_CORE MOST_CORE g (omega arith) core))
      (sym (number-decimal LEAST_ENTRIES MOST_ENTRIES h (omega arith) entries))
      (sym (number-decimal LEAST_ROOM MOST_ROOM i (omega arith) room))
      (sym (number-decimal 0 MOST_STEPS j (omega arith) steps));
  core_within = (number-least LEAST_CORE MOST_CORE g core, number-most LEAST_CORE MOST_CORE g core);
  entries_within = (number-least LEAST_ENTRIES MOST_ENTRIES h entries, number-most LEAST_ENTRIES MOST_ENTRIES h entries);
  room_within = (number-least LEAST_ROOM MOST_ROOM i room, number-most LEAST_ROOM MOST_ROOM i room);
  steps_within = number-most 0 MOST_STEPS j steps;
}

pub take-numbers : {P : Type 0} (at : ℕ) (checks : List Check) (all words : List (List ℕ)) → bad_from at (number_checks ++ checks) all words ≡ None
    → ((core entries room steps : ℕ) (others : List (List ℕ)) → BeginsNumbers words core entries room steps others → bad_from (at + 4) checks all others ≡ None → P) → P
take-numbers at checks all words right next =
    let second : at + 1 + 1 ≡ at + 2 = omega arith
    in let third : at + 2 + 1 ≡ at + 3 = omega arith
    in let fourth : at + 3 + 1 ≡ at + 4 = omega arith
    in take-word at (is_from LEAST_CORE MOST_CORE) (entries_checks ++ checks) all words right (λ g w1 is1 core h1.
    take-word (at + 1) (is_from LEAST_ENTRIES MOST_ENTRIES) (room_checks ++ checks) all w1 h1 (λ h w2 is2 entries h2.
    take-word (at + 2) (is_from LEAST_ROOM MOST_ROOM) (steps_checks ++ checks) all w2 (subst (λ at. bad_from at (room_checks ++ checks) all w2 ≡ None) second h2) (λ i w3 is3 room h3.
    take-word (at + 3) (is_from 0 MOST_STEPS) checks all w3 (subst (λ at. bad_from at (steps_checks ++ checks) all w3 ≡ None) third h3) (λ j w4 is4 steps h4.
    let four : words ≡ g ∷ h ∷ i ∷ j ∷ w4 = is1 ∙ ap (λ ws. g ∷ ws) (is2 ∙ ap (λ ws. h ∷ ws) (is3 ∙ ap (λ ws. i ∷ ws) is4))
    in next (digits_value 10 g) (digits_value 10 h) (digits_value 10 i) (digits_value 10 j) w4 (four-numbers g h i j words w4 four core entries room steps) (subst (λ at. bad_from at checks all w4 ≡ None) fourth h4)))))

-- ---- the files of a run

-- these words begin with files that may stand beside each other
pub record BeginsFiles (words : List (List ℕ)) (image events work saved display : List ℕ) (others : List (List ℕ)) : Type 0 where
  pub is : words ≡ image ∷ events ∷ work ∷ saved ∷ display ∷ others
  pub work_apart : (work ≢ image) × (work ≢ events) × (work ≢ saved) × (work ≢ display)
  pub display_apart : (display ≢ image) × (display ≢ events) × (display ≢ saved)

files-right : (checks : List Check) (command image events work saved display : List ℕ) (others : List (List ℕ))
    → (work ≢ image) × (work ≢ events) × (work ≢ saved) × (work ≢ display) → (display ≢ image) × (display ≢ events) × (display ≢ saved)
    → bad_from 2 (file_checks ++ checks) (command ∷ image ∷ events ∷ work ∷ saved ∷ display ∷ others) (image ∷ events ∷ work ∷ saved ∷ display ∷ others)
    ≡ bad_from 7 checks (command ∷ image ∷ events ∷ work ∷ saved ∷ display ∷ others) others
files-right checks command image events work saved display others apart other =
    rw (
      unlike work image apart.0,
      unlike work events apart.1,
      unlike saved work (flip work saved apart.2),
      unlike display image other.0,
      unlike display events other.1,
      unlike display work (flip work display apart.3),
      unlike display saved other.2,
    ) refl

-- behind the files only another word may be bad
pub right-files : (checks : List Check) (command : List ℕ) (words : List (List ℕ)) (image events work saved display : List ℕ) (others : List (List ℕ)) → BeginsFiles words image events work saved display others
    → bad_from 2 (file_checks ++ checks) (command ∷ words) words ≡ bad_from 7 checks (command ∷ words) others
right-files checks command words image events work saved display others begins =
    subst (λ ws. bad_from 2 (file_checks ++ checks) (command ∷ ws) ws ≡ bad_from 7 checks (command ∷ ws) others) (sym begins.is) (
    files-right checks command image events work saved display others begins.work_apart begins.display_apart)

-- the tests of a word that is apart from others, over words of which the first five stand there
work-apart : (a b c d e f : List ℕ) (others : List (List ℕ)) → is_none_at (1 ∷ 2 ∷ []) (a ∷ b ∷ c ∷ d ∷ e ∷ f ∷ others) d ≡ true → (d ≢ b) × (d ≢ c)
work-apart a b c d e f others h =
    let first = none-more (bytes_eq d b) (if bytes_eq d c then false else true) h
    in (differs d b first.0, differs d c (none-one (bytes_eq d c) first.1))

saved-apart : (a b c d e f : List ℕ) (others : List (List ℕ)) → is_none_at (3 ∷ []) (a ∷ b ∷ c ∷ d ∷ e ∷ f ∷ others) e ≡ true → e ≢ d
saved-apart a b c d e f others h = differs e d (none-one (bytes_eq e d) h)

pub display-apart : (a b c d e f : List ℕ) (others : List (List ℕ)) → is_none_at (1 ∷ 2 ∷ 3 ∷ 4 ∷ []) (a ∷ b ∷ c ∷ d ∷ e ∷ f ∷ others) f ≡ true → (f ≢ b) × (f ≢ c) × (f ≢ d) × (f ≢ e)
display-apart a b c d e f others h =
    let first = none-more (bytes_eq f b) (if bytes_eq f c then false else if bytes_eq f d then false else if bytes_eq f e then false else true) h
    in let second = none-more (bytes_eq f c) (if bytes_eq f d then false else if bytes_eq f e then false else true) first.1
    in let third = none-more (bytes_eq f d) (if bytes_eq f e then false else true) second.1
    in (differs f b first.0, differs f c second.0, differs f d third.0, differs f e (none-one (bytes_eq f e) third.1))

five-files : (a b c d e f : List ℕ) (words others : List (List ℕ)) → words ≡ b ∷ c ∷ d ∷ e ∷ f ∷ others
    → is_none_at (1 ∷ 2 ∷ []) (a ∷ words) d ≡ true → is_none_at (3 ∷ []) (a ∷ words) e ≡ true → is_none_at (1 ∷ 2 ∷ 3 ∷ 4 ∷ []) (a ∷ words) f ≡ true
    → BeginsFiles words b c d e f others
five-files a b c d e f words others are work saved display =
    let first = work-apart a b c d e f others (subst (λ ws. is_none_at (1 ∷ 2 ∷ []) (a ∷ ws) d ≡ true) are work)
    in let second = saved-apart a b c d e f others (subst (λ ws. is_none_at (3 ∷ []) (a ∷ ws) e ≡ true) are saved)
    in let third = display-apart a b c d e f others (subst (λ ws. is_none_at (1 ∷ 2 ∷ 3 ∷ 4 ∷ []) (a ∷ ws) f ≡ true) are display)
    in record { is = are; work_apart = (first.0, first.1, flip e d second, flip f d third.2); display_apart = (third.0, third.1, third.3) }

pub take-files : {P : Type 0} (checks : List Check) (command : List ℕ) (words : List (List ℕ)) → bad_from 2 (file_checks ++ checks) (command ∷ words) words ≡ None
    → ((image events work saved display : List ℕ) (others : List (List ℕ)) → BeginsFiles words image events work saved display others → bad_from 7 checks (command ∷ words) others ≡ None → P) → P
take-files checks command words right next =
    let display_checks : List Check = is_none_at (1 ∷ 2 ∷ 3 ∷ 4 ∷ []) ∷ checks
    in let saved_checks : List Check = is_none_at (3 ∷ []) ∷ display_checks
    in let work_checks : List Check = is_none_at (1 ∷ 2 ∷ []) ∷ saved_checks
    in take-word 2 anything (anything ∷ work_checks) (command ∷ words) words right (λ b w2 is2 _ h2.
    take-word 3 anything work_checks (command ∷ words) w2 h2 (λ c w3 is3 _ h3.
    take-word 4 (is_none_at (1 ∷ 2 ∷ [])) saved_checks (command ∷ words) w3 h3 (λ d w4 is4 work h4.
    take-word 5 (is_none_at (3 ∷ [])) display_checks (command ∷ words) w4 h4 (λ e w5 is5 saved h5.
    take-word 6 (is_none_at (1 ∷ 2 ∷ 3 ∷ 4 ∷ [])) checks (command ∷ words) w5 h5 (λ f w6 is6 display h6.
    let five : words ≡ b ∷ c ∷ d ∷ e ∷ f ∷ w6 = is2 ∙ ap (λ ws. b ∷ ws) (is3 ∙ ap (λ ws. c ∷ ws) (is4 ∙ ap (λ ws. d ∷ ws) (is5 ∙ ap (λ ws. e ∷ ws) is6)))
    in next b c d e f w6 (five-files command b c d e f words w6 five work saved display) h6)))))

-- ---- the words of a run

-- words that are a row state its numbers
pub row-of_texts : (words : List (List ℕ)) (row : Row) → IsRow words row → row ≡ row_of words
row-of_texts words row is =
    subst (λ ws. row ≡ row_of ws) (sym is.words_are) (rw (decimal-value row.core (omega (arith, is.core.1)), decimal-value row.entries (omega (arith, is.entries.1)), decimal-value row.room (omega (arith, is.room.1)), decimal-value row.steps (omega (arith, is.steps))) refl)

-- files, and numbers behind them, are a row
pub row-of_parts : (words w2 : List (List ℕ)) (image events work saved display : List ℕ) (w7 : List (List ℕ)) (core entries room steps : ℕ) → words ≡ codes "run" ∷ w2
    → BeginsFiles w2 image events work saved display w7 → BeginsNumbers w7 core entries room steps []
    → IsRow words record { image = image; events = events; work = work; saved = saved; display = display; core = core; entries = entries; room = room; steps = steps }
row-of_parts words w2 image events work saved display w7 core entries room steps is files numbers = record {
  words_are = is ∙ ap (λ ws. codes "run" ∷ ws) (files.is ∙ ap (λ ws. image ∷ events ∷ work ∷ saved ∷ display ∷ ws) numbers.is);
  core = numbers.core_within;
  entries = numbers.entries_within;
  room = numbers.room_within;
  steps = numbers.steps_within;
  work_apart = files.work_apart;
  display_apart = files.display_apart;
}

-- behind `run` only another word may be bad
pub right-run : (words others : List (List ℕ)) → words ≡ codes "run" ∷ others → bad_in run_row words ≡ bad_from 2 run_checks (codes "run" ∷ others) others
right-run words others is = subst (λ ws. bad_in run_row ws ≡ bad_from 2 run_checks (codes "run" ∷ others) others) (sym is) refl

-- words of which none is bad are a row
pub row-from_words : (words : List (List ℕ)) → bad_in run_row words ≡ None → IsRow words (row_of words)
row-from_words words right =
    take-word 1 is_run run_checks words words right (λ a w1 is1 command h1.
    take-files number_checks a w1 (subst (λ ws. bad_from 2 run_checks ws w1 ≡ None) is1 h1) (λ image events work saved display w6 files h6.
    take-numbers 7 [] (a ∷ w1) w6 h6 (λ core entries room steps w10 numbers h10.
    let named : words ≡ codes "run" ∷ w1 = is1 ∙ ap (λ x. x ∷ w1) (is-word (codes "run") a command)
    in let last : BeginsNumbers w6 core entries room steps [] = subst (λ ws. BeginsNumbers w6 core entries room steps ws) (take-end 11 (a ∷ w1) w10 h10) numbers
    in let is = row-of_parts words w1 image events work saved display w6 core entries room steps named files last
    in subst (λ row. IsRow words row) (row-of_texts words _ is) is)))

-- and of a row none is bad
row-files : (words : List (List ℕ)) (row : Row) → IsRow words row
    → BeginsFiles (row.image ∷ row.events ∷ row.work ∷ row.saved ∷ row.display ∷ decimal row.core ∷ decimal row.entries ∷ decimal row.room ∷ decimal row.steps ∷ []) row.image row.events row.work row.saved row.display (decimal row.core ∷ decimal row.entries ∷ decimal row.room ∷ decimal row.steps ∷ [])
row-files words row is = record { is = refl; work_apart = is.work_apart; display_apart = is.display_apart }

pub row-to_words : (words : List (List ℕ)) (row : Row) → IsRow words row → bad_in run_row words ≡ None
row-to_words words row is =
    let w7 : List (List ℕ) = decimal row.core ∷ decimal row.entries ∷ decimal row.room ∷ decimal row.steps ∷ []
    in let w2 : List (List ℕ) = row.image ∷ row.events ∷ row.work ∷ row.saved ∷ row.display ∷ w7
    in let numbers : BeginsNumbers w7 row.core row.entries row.room row.steps [] = record { is = refl; core_within = is.core; entries_within = is.entries; room_within = is.room; steps_within = is.steps }
    in subst (λ ws. bad_in run_row ws ≡ None) (sym is.words_are) (
    right-files number_checks (codes "run") w2 row.image row.events row.work row.saved row.display w7 (row-files words row is)
    ∙ right-numbers 7 [] (codes "run" ∷ w2) w7 row.core row.entries row.room row.steps [] numbers)

-- what a refusal says of the words
pub refused-at : {T : Type 0} (r : Result T ℕ) (e at : ℕ) (bad : Option ℕ) → (y : ℕ) × (r ≡ Err y) × (y ≡ e) → e ≡ at → bad ≡ Some at → error_of r ≡ bad
refused-at r e at bad is same is_bad = rw (is.1, is.2, same, is_bad) refl

pub refused-if : {T : Type 0} (r : Result T ℕ) (e at : ℕ) (bad : Option ℕ) → (y : ℕ) × (r ≡ Err y) × (y ≡ e) → e ≡ at → bad ≡ Some at → IfErr r (λ at. bad ≡ Some at)
refused-if r e at bad is same is_bad = rw (is.1, is.2, same) is_bad

-- words behind the row
pub texts-none : {Z : Type 0} (words : List (String Z)) → length words ≡ 0 → texts_of words ≡ []
texts-none [] none = refl
texts-none (word ∷ words) none = absurd (omega arith)

pub extra-word : {Z : Type 0} (at : ℕ) (all : List (List ℕ)) (words : List (String Z)) → 0 < length words → bad_from at [] all (texts_of words) ≡ Some at
extra-word at all [] some = absurd (omega arith)
extra-word at all (word ∷ words) some = refl

-- and none
pub end-of_words : {Z : Type 0} (at : ℕ) (all : List (List ℕ)) (words : List (String Z)) → length words ≡ 0 → bad_from at [] all (texts_of words) ≡ None
end-of_words at all [] none = refl
end-of_words at all (word ∷ words) none = absurd (omega arith)

-- ---- the words of a making

abbrev pub made_checks : List Check
made_checks = anything ∷ []

abbrev pub make_checks : List Check
make_checks = is_from 0 LAST_NUMBER ∷ made_checks

-- behind `make` a number may be bad, and behind the number its file may be missing
right-make : (all others : List (List ℕ)) → all ≡ codes "make" ∷ others → bad_in make_row all ≡ bad_from 2 make_checks all others
right-make all others is = right-word 1 is_make make_checks all (codes "make") all others is refl

pub right-image : (n : ℕ) (all words others : List (List ℕ)) → n ≤ LAST_NUMBER → words ≡ decimal n ∷ others → bad_from 2 make_checks all words ≡ bad_from 3 made_checks all others
right-image n all words others low is = right-number 2 0 LAST_NUMBER n made_checks all words others (omega arith) (omega arith) low is

pub right-file : (file : List ℕ) (all words others : List (List ℕ)) → words ≡ file ∷ others → bad_from 3 made_checks all words ≡ bad_from 4 [] all others
right-file file all words others is = right-word 3 anything [] all file words others is refl

pub make-to_words : (words : List (List ℕ)) (row : MakeRow) → IsMake words row → bad_in make_row words ≡ None
make-to_words words row is =
    let w3 : List (List ℕ) = row.file ∷ []
    in let w2 : List (List ℕ) = decimal row.number ∷ w3
    in right-make words w2 is.words_are ∙ right-image row.number words w2 w3 is.number refl ∙ right-file row.file words w3 [] refl

three-make : (a b c : List ℕ) → bytes_eq a (codes "make") ≡ true → is_number 0 LAST_NUMBER b ≡ true → IsMake (a ∷ b ∷ c ∷ []) (make_of (a ∷ b ∷ c ∷ []))
three-make a b c make number =
    let command : a ≡ codes "make" = grind (arith, nat_tests, bytes_eq-Decides)
    in record { words_are = rw (command, number-decimal 0 LAST_NUMBER b (omega arith) number) refl; number = number-most 0 LAST_NUMBER b number }

pub make-from_words : (words : List (List ℕ)) → bad_in make_row words ≡ None → IsMake words (make_of words)
make-from_words words right =
    take-word 1 is_make make_checks words words right (λ a w1 is1 make h1.
    take-word 2 (is_from 0 LAST_NUMBER) made_checks words w1 h1 (λ b w2 is2 number h2.
    take-word 3 anything [] words w2 h2 (λ c w3 is3 _ h3.
    let three : words ≡ a ∷ b ∷ c ∷ [] = is1 ∙ ap (λ ws. a ∷ ws) (is2 ∙ ap (λ ws. b ∷ ws) (is3 ∙ ap (λ ws. c ∷ ws) (take-end 4 words w3 h3)))
    in subst (λ ws. IsMake ws (make_of ws)) (sym three) (three-make a b c make number))))

pub make-of_texts : (words : List (List ℕ)) (row : MakeRow) → IsMake words row → row ≡ make_of words
make-of_texts words row is = subst (λ ws. row ≡ make_of ws) (sym is.words_are) (rw (decimal-value row.number (let low = is.number in omega (arith, low))) refl)

-- ---- the words of a listing and of an assembling

abbrev source_checks : List Check
source_checks = is_none_at (1 ∷ []) ∷ is_none_at (2 ∷ []) ∷ []

-- behind the word of the command each file is right that isn't the work file
paths-right : (command source work target : List ℕ) (others : List (List ℕ)) → work ≢ source → work ≢ target
    → bad_from 2 path_checks (command ∷ source ∷ work ∷ target ∷ others) (source ∷ work ∷ target ∷ others) ≡ bad_from 5 [] (command ∷ source ∷ work ∷ target ∷ others) others
paths-right command source work target others from_source from_target = rw (unlike work source from_source, unlike target work (flip work target from_target)) refl

pub right-paths : (command source work target : List ℕ) (words others : List (List ℕ)) → words ≡ source ∷ work ∷ target ∷ others → work ≢ source → work ≢ target → bad_from 2 path_checks (command ∷ words) words ≡ bad_from 5 [] (command ∷ words) others
right-paths command source work target words others is from_source from_target = subst (λ ws. bad_from 2 path_checks (command ∷ ws) ws ≡ bad_from 5 [] (command ∷ ws) others) (sym is) (paths-right command source work target others from_source from_target)

pub paths-to_words : (check : Check) (command : List ℕ) (words : List (List ℕ)) (row : Paths) → check words command ≡ true → ArePaths command words row → bad_in (check ∷ path_checks) words ≡ None
paths-to_words check command words row passes is =
    right-word 1 check path_checks words command words (row.source ∷ row.work ∷ row.target ∷ []) is.words_are passes
    ∙ ap (λ all. bad_from 2 path_checks all (row.source ∷ row.work ∷ row.target ∷ [])) is.words_are
    ∙ paths-right command row.source row.work row.target [] is.apart.0 is.apart.1

source-apart : (a b c d : List ℕ) (others : List (List ℕ)) → is_none_at (1 ∷ []) (a ∷ b ∷ c ∷ d ∷ others) c ≡ true → c ≢ b
source-apart a b c d others h = differs c b (none-one (bytes_eq c b) h)

target-apart : (a b c d : List ℕ) (others : List (List ℕ)) → is_none_at (2 ∷ []) (a ∷ b ∷ c ∷ d ∷ others) d ≡ true → d ≢ c
target-apart a b c d others h = differs d c (none-one (bytes_eq d c) h)

pub paths-from_words : (check : Check) (command : List ℕ) (words : List (List ℕ)) → ((word : List ℕ) → check words word ≡ true → word ≡ command) → bad_in (check ∷ path_checks) words ≡ None → ArePaths command words (paths_of words)
paths-from_words check command words is_command right =
    take-word 1 check path_checks words words right (λ a w1 is1 first h1.
    take-word 2 anything source_checks words w1 h1 (λ b w2 is2 _ h2.
    take-word 3 (is_none_at (1 ∷ [])) (is_none_at (2 ∷ []) ∷ []) words w2 h2 (λ c w3 is3 work h3.
    take-word 4 (is_none_at (2 ∷ [])) [] words w3 h3 (λ d w4 is4 target h4.
    let four : words ≡ a ∷ b ∷ c ∷ d ∷ [] = is1 ∙ ap (λ ws. a ∷ ws) (is2 ∙ ap (λ ws. b ∷ ws) (is3 ∙ ap (λ ws. c ∷ ws) (is4 ∙ ap (λ ws. d ∷ ws) (take-end 5 words w4 h4))))
    in let from_source : c ≢ b = source-apart a b c d [] (subst (λ ws. is_none_at (1 ∷ []) ws c ≡ true) four work)
    in let from_target : d ≢ c = target-apart a b c d [] (subst (λ ws. is_none_at (2 ∷ []) ws d ≡ true) four target)
    in let named : a ≡ command = is_command a first
    in subst (λ ws. ArePaths command ws (paths_of ws)) (sym four) record { words_are = ap (λ (x : List ℕ). x ∷ b ∷ c ∷ d ∷ []) named; apart = (from_source, flip d c from_target) }))))

-- ---- the words of a trace

-- these words begin with files that may stand beside each other
pub record BeginsTrace (words : List (List ℕ)) (image events work text : List ℕ) (others : List (List ℕ)) : Type 0 where
  pub is : words ≡ image ∷ events ∷ work ∷ text ∷ others
  pub work_apart : (work ≢ image) × (work ≢ events) × (work ≢ text)
  pub text_apart : (text ≢ image) × (text ≢ events)

trace-files : (command image events work text : List ℕ) (others : List (List ℕ)) → (work ≢ image) × (work ≢ events) × (work ≢ text) → (text ≢ image) × (text ≢ events)
    → bad_from 2 trace_checks (command ∷ image ∷ events ∷ work ∷ text ∷ others) (image ∷ events ∷ work ∷ text ∷ others) ≡ bad_from 6 number_checks (command ∷ image ∷ events ∷ work ∷ text ∷ others) others
trace-files command image events work text others apart other =
    rw (unlike work image apart.0, unlike work events apart.1, unlike text image other.0, unlike text events other.1, unlike text work (flip work text apart.2)) refl

-- behind the files of a trace only a number may be bad
pub right-trace : (command : List ℕ) (words : List (List ℕ)) (image events work text : List ℕ) (others : List (List ℕ)) → BeginsTrace words image events work text others
    → bad_from 2 trace_checks (command ∷ words) words ≡ bad_from 6 number_checks (command ∷ words) others
right-trace command words image events work text others begins =
    subst (λ ws. bad_from 2 trace_checks (command ∷ ws) ws ≡ bad_from 6 number_checks (command ∷ ws) others) (sym begins.is) (
    trace-files command image events work text others begins.work_apart begins.text_apart)

work-trace : (a b c d e : List ℕ) (others : List (List ℕ)) → is_none_at (1 ∷ 2 ∷ []) (a ∷ b ∷ c ∷ d ∷ e ∷ others) d ≡ true → (d ≢ b) × (d ≢ c)
work-trace a b c d e others h =
    let first = none-more (bytes_eq d b) (if bytes_eq d c then false else true) h
    in (differs d b first.0, differs d c (none-one (bytes_eq d c) first.1))

text-trace : (a b c d e : List ℕ) (others : List (List ℕ)) → is_none_at (1 ∷ 2 ∷ 3 ∷ []) (a ∷ b ∷ c ∷ d ∷ e ∷ others) e ≡ true → (e ≢ b) × (e ≢ c) × (e ≢ d)
text-trace a b c d e others h =
    let first = none-more (bytes_eq e b) (if bytes_eq e c then false else if bytes_eq e d then false else true) h
    in let second = none-more (bytes_eq e c) (if bytes_eq e d then false else true) first.1
    in (differs e b first.0, differs e c second.0, differs e d (none-one (bytes_eq e d) second.1))

four-files : (a b c d e : List ℕ) (words others : List (List ℕ)) → words ≡ b ∷ c ∷ d ∷ e ∷ others
    → is_none_at (1 ∷ 2 ∷ []) (a ∷ words) d ≡ true → is_none_at (1 ∷ 2 ∷ 3 ∷ []) (a ∷ words) e ≡ true → BeginsTrace words b c d e others
four-files a b c d e words others are work text =
    let first = work-trace a b c d e others (subst (λ ws. is_none_at (1 ∷ 2 ∷ []) (a ∷ ws) d ≡ true) are work)
    in let second = text-trace a b c d e others (subst (λ ws. is_none_at (1 ∷ 2 ∷ 3 ∷ []) (a ∷ ws) e ≡ true) are text)
    in record { is = are; work_apart = (first.0, first.1, flip e d second.2); text_apart = (second.0, second.1) }

take-trace : {P : Type 0} (command : List ℕ) (words : List (List ℕ)) → bad_from 2 trace_checks (command ∷ words) words ≡ None
    → ((image events work text : List ℕ) (others : List (List ℕ)) → BeginsTrace words image events work text others → bad_from 6 number_checks (command ∷ words) others ≡ None → P) → P
take-trace command words right next =
    let text_checks : List Check = is_none_at (1 ∷ 2 ∷ 3 ∷ []) ∷ number_checks
    in let work_checks : List Check = is_none_at (1 ∷ 2 ∷ []) ∷ text_checks
    in take-word 2 anything (anything ∷ work_checks) (command ∷ words) words right (λ b w2 is2 _ h2.
    take-word 3 anything work_checks (command ∷ words) w2 h2 (λ c w3 is3 _ h3.
    take-word 4 (is_none_at (1 ∷ 2 ∷ [])) text_checks (command ∷ words) w3 h3 (λ d w4 is4 work h4.
    take-word 5 (is_none_at (1 ∷ 2 ∷ 3 ∷ [])) number_checks (command ∷ words) w4 h4 (λ e w5 is5 text h5.
    let four : words ≡ b ∷ c ∷ d ∷ e ∷ w5 = is2 ∙ ap (λ ws. b ∷ ws) (is3 ∙ ap (λ ws. c ∷ ws) (is4 ∙ ap (λ ws. d ∷ ws) is5))
    in next b c d e w5 (four-files command b c d e words w5 four work text) h5))))

-- words that are a trace state its numbers
pub trace-of_texts : (words : List (List ℕ)) (row : Row) → IsTrace words row → row ≡ trace_row_of words
trace-of_texts words row is =
    subst (λ ws. row ≡ trace_row_of ws) (sym is.words_are) (rw (decimal-value row.core (omega (arith, is.core.1)), decimal-value row.entries (omega (arith, is.entries.1)), decimal-value row.room (omega (arith, is.room.1)), decimal-value row.steps (omega (arith, is.steps)), sym is.undrawn) refl)

-- files, and numbers behind them, are a trace
pub trace-of_parts : (words w2 : List (List ℕ)) (image events work text : List ℕ) (w6 : List (List ℕ)) (core entries room steps : ℕ) → words ≡ codes "trace" ∷ w2
    → BeginsTrace w2 image events work text w6 → BeginsNumbers w6 core entries room steps []
    → IsTrace words record { image = image; events = events; work = work; saved = text; display = []; core = core; entries = entries; room = room; steps = steps }
trace-of_parts words w2 image events work text w6 core entries room steps is files numbers = record {
  words_are = is ∙ ap (λ ws. codes "trace" ∷ ws) (files.is ∙ ap (λ ws. image ∷ events ∷ work ∷ text ∷ ws) numbers.is);
  undrawn = refl;
  core = numbers.core_within;
  entries = numbers.entries_within;
  room = numbers.room_within;
  steps = numbers.steps_within;
  work_apart = files.work_apart;
  saved_apart = files.text_apart;
}

pub trace-from_words : (words : List (List ℕ)) → bad_in trace_row words ≡ None → IsTrace words (trace_row_of words)
trace-from_words words right =
    take-word 1 is_trace trace_checks words words right (λ a w1 is1 command h1.
    take-trace a w1 (subst (λ ws. bad_from 2 trace_checks ws w1 ≡ None) is1 h1) (λ image events work text w5 files h5.
    take-numbers 6 [] (a ∷ w1) w5 h5 (λ core entries room steps w9 numbers h9.
    let named : words ≡ codes "trace" ∷ w1 = is1 ∙ ap (λ x. x ∷ w1) (is-word (codes "trace") a command)
    in let last : BeginsNumbers w5 core entries room steps [] = subst (λ ws. BeginsNumbers w5 core entries room steps ws) (take-end 10 (a ∷ w1) w9 h9) numbers
    in let is = trace-of_parts words w1 image events work text w5 core entries room steps named files last
    in subst (λ row. IsTrace words row) (trace-of_texts words _ is) is)))

-- and of a trace none is bad
pub trace-to_words : (words : List (List ℕ)) (row : Row) → IsTrace words row → bad_in trace_row words ≡ None
trace-to_words words row is =
    let w6 : List (List ℕ) = decimal row.core ∷ decimal row.entries ∷ decimal row.room ∷ decimal row.steps ∷ []
    in let w2 : List (List ℕ) = row.image ∷ row.events ∷ row.work ∷ row.saved ∷ w6
    in let numbers : BeginsNumbers w6 row.core row.entries row.room row.steps [] = record { is = refl; core_within = is.core; entries_within = is.entries; room_within = is.room; steps_within = is.steps }
    in let files : BeginsTrace w2 row.image row.events row.work row.saved w6 = record { is = refl; work_apart = is.work_apart; text_apart = is.saved_apart }
    in subst (λ ws. bad_in trace_row ws ≡ None) (sym is.words_are) (
    right-trace (codes "trace") w2 row.image row.events row.work row.saved w6 files
    ∙ right-numbers 6 [] (codes "trace" ∷ w2) w6 row.core row.entries row.room row.steps [] numbers)

-- ---- the words of each

abbrev IsOne : List (List ℕ) → Type 0
IsOne words = IsRow words (row_of words) ⊎ (IsMake words (make_of words) ⊎ (ArePaths (codes "list") words (paths_of words) ⊎ (ArePaths (codes "asm") words (paths_of words) ⊎ IsTrace words (trace_row_of words))))

right-from : (words : List (List ℕ)) (verb : Verb) → bad_in (row_asked verb) words ≡ None → IsOne words
right-from words ToRun right = inl (row-from_words words right)
right-from words ToMake right = inr (inl (make-from_words words right))
right-from words ToList right = inr (inr (inl (paths-from_words is_list (codes "list") words (is-word (codes "list")) right)))
right-from words ToAssemble right = inr (inr (inr (inl (paths-from_words is_asm (codes "asm") words (is-word (codes "asm")) right))))
right-from words ToTrace right = inr (inr (inr (inr (trace-from_words words right))))

pub asked-row : (words : List (List ℕ)) (row : Row) → IsRow words row → verb_of words ≡ ToRun
asked-row words row is = ap verb_of is.words_are

pub asked-make : (words : List (List ℕ)) (row : MakeRow) → IsMake words row → verb_of words ≡ ToMake
asked-make words row is = ap verb_of is.words_are

pub asked-list : (words : List (List ℕ)) (row : Paths) → ArePaths (codes "list") words row → verb_of words ≡ ToList
asked-list words row is = ap verb_of is.words_are

pub asked-asm : (words : List (List ℕ)) (row : Paths) → ArePaths (codes "asm") words row → verb_of words ≡ ToAssemble
asked-asm words row is = ap verb_of is.words_are

pub asked-trace : (words : List (List ℕ)) (row : Row) → IsTrace words row → verb_of words ≡ ToTrace
asked-trace words row is = ap verb_of is.words_are

pub paths-of_texts : (command : List ℕ) (words : List (List ℕ)) (row : Paths) → ArePaths command words row → row ≡ paths_of words
paths-of_texts command words row is = subst (λ ws. row ≡ paths_of ws) (sym is.words_are) refl

-- the first word decides the row
pub bad-make : (words others : List (List ℕ)) → words ≡ codes "make" ∷ others → bad_word words ≡ bad_from 2 make_checks words others
bad-make words others is = ap (λ verb. bad_in (row_asked verb) words) (ap verb_of is) ∙ right-make words others is

pub bad-list : (words others : List (List ℕ)) → words ≡ codes "list" ∷ others → bad_word words ≡ bad_from 2 path_checks words others
bad-list words others is = ap (λ verb. bad_in (row_asked verb) words) (ap verb_of is) ∙ right-word 1 is_list path_checks words (codes "list") words others is refl

pub bad-asm : (words others : List (List ℕ)) → words ≡ codes "asm" ∷ others → bad_word words ≡ bad_from 2 path_checks words others
bad-asm words others is = ap (λ verb. bad_in (row_asked verb) words) (ap verb_of is) ∙ right-word 1 is_asm path_checks words (codes "asm") words others is refl

pub bad-trace : (words others : List (List ℕ)) → words ≡ codes "trace" ∷ others → bad_word words ≡ bad_from 2 trace_checks words others
bad-trace words others is = ap (λ verb. bad_in (row_asked verb) words) (ap verb_of is) ∙ right-word 1 is_trace trace_checks words (codes "trace") words others is refl

pub asks-run : (words : List (List ℕ)) → begins_with (codes "make") words ≡ false → begins_with (codes "list") words ≡ false → begins_with (codes "asm") words ≡ false → begins_with (codes "trace") words ≡ false → verb_of words ≡ ToRun
asks-run words make list asm trace = rw (make, list, asm, trace) refl

pub bad-run : (words : List (List ℕ)) → verb_of words ≡ ToRun → bad_word words ≡ bad_in run_row words
bad-run words asks = ap (λ verb. bad_in (row_asked verb) words) asks

right-to : (words : List (List ℕ)) → IsOne words → bad_word words ≡ None
right-to words (inl is) = ap (λ verb. bad_in (row_asked verb) words) (asked-row words (row_of words) is) ∙ row-to_words words (row_of words) is
right-to words (inr (inl is)) = ap (λ verb. bad_in (row_asked verb) words) (asked-make words (make_of words) is) ∙ make-to_words words (make_of words) is
right-to words (inr (inr (inl is))) = ap (λ verb. bad_in (row_asked verb) words) (asked-list words (paths_of words) is) ∙ paths-to_words is_list (codes "list") words (paths_of words) refl is
right-to words (inr (inr (inr (inl is)))) = ap (λ verb. bad_in (row_asked verb) words) (asked-asm words (paths_of words) is) ∙ paths-to_words is_asm (codes "asm") words (paths_of words) refl is
right-to words (inr (inr (inr (inr is)))) = ap (λ verb. bad_in (row_asked verb) words) (asked-trace words (trace_row_of words) is) ∙ trace-to_words words (trace_row_of words) is

pub right-same : (words : List (List ℕ)) → (bad_word words ≡ None) ↔ IsOne words
right-same words = (right-from words (verb_of words), right-to words)

pub ruleset row_rules = (right-same)
