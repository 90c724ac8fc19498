-- The words of a guarded run, and those of a resumed one.
use Rattle.std.specs.Prelude.{◌≢◌, ◌⊎◌, if◌then◌else◌}
use Rattle.std.proofs.Common.{◌≡◌, ◌↔◌, ℕ, List, [], ◌∷◌, ◌++◌, Bool, true, false, None, Some, inl, inr, refl, sym, ap, subst, ◌∙◌, arith, codes, decimal}
use Rattle.std.specs.Str.{bytes_eq}
use Rattle.loom_words.proofs.Numbers.{decimal-value}
use Rattle.loom_words.proofs.Rows.{BeginsFiles, BeginsNumbers, differs, display-apart, flip, is-word, none-more, none-one, right-files, right-numbers, right-word, take-end, take-files, take-numbers, take-word, unlike}
use Rattle.loom_words.specs.Kept.{Else, IsGuard, IsResume, KeptVerb, ToGuard, ToResume, bad_kept, bad_kept_as, guard_checks, guard_row, guard_row_of, is_guard, is_resume, kept_verb_of, resume_checks, resume_row, resume_row_of, vault_checks, vault_of}
use Rattle.loom_words.specs.Words.{Check, Row, anything, bad_from, bad_in, is_none_at, number_checks}

-- ---- a word that is none of the files of a run

abbrev pub apart_check : Check
apart_check = is_none_at (1 ∷ 2 ∷ 3 ∷ 4 ∷ 5 ∷ [])

abbrev pub apart_checks : List Check
apart_checks = apart_check ∷ []

vault-apart : (a b c d e f g : List ℕ) (others : List (List ℕ)) → apart_check (a ∷ b ∷ c ∷ d ∷ e ∷ f ∷ others) g ≡ true → (g ≢ b) × (g ≢ c) × (g ≢ d) × (g ≢ e) × (g ≢ f)
vault-apart a b c d e f g others h =
    let first = none-more (bytes_eq g b) (if bytes_eq g c then false else if bytes_eq g d then false else if bytes_eq g e then false else if bytes_eq g f then false else true) h
    in let second = none-more (bytes_eq g c) (if bytes_eq g d then false else if bytes_eq g e then false else if bytes_eq g f then false else true) first.1
    in let third = none-more (bytes_eq g d) (if bytes_eq g e then false else if bytes_eq g f then false else true) second.1
    in let fourth = none-more (bytes_eq g e) (if bytes_eq g f then false else true) third.1
    in (differs g b first.0, differs g c second.0, differs g d third.0, differs g e fourth.0, differs g f (none-one (bytes_eq g f) fourth.1))

pub files-apart : (command : List ℕ) (words : List (List ℕ)) (image events work saved display vault : List ℕ) (others : List (List ℕ)) → BeginsFiles words image events work saved display others
    → apart_check (command ∷ words) vault ≡ true → (vault ≢ image) × (vault ≢ events) × (vault ≢ work) × (vault ≢ saved) × (vault ≢ display)
files-apart command words image events work saved display vault others begins h =
    vault-apart command image events work saved display vault others (subst (λ ws. apart_check (command ∷ ws) vault ≡ true) begins.is h)

apart-right : (command image events work saved display vault : List ℕ) (others : List (List ℕ)) → (vault ≢ image) × (vault ≢ events) × (vault ≢ work) × (vault ≢ saved) × (vault ≢ display)
    → apart_check (command ∷ image ∷ events ∷ work ∷ saved ∷ display ∷ others) vault ≡ true
apart-right command image events work saved display vault others apart =
    rw (unlike vault image apart.0, unlike vault events apart.1, unlike vault work apart.2, unlike vault saved apart.3, unlike vault display apart.4) refl

-- such a word, as it is told of the files alone
pub apart-told : (command : List ℕ) (words : List (List ℕ)) (image events work saved display vault : List ℕ) (others : List (List ℕ)) (b : Bool) → words ≡ image ∷ events ∷ work ∷ saved ∷ display ∷ others
    → apart_check (command ∷ image ∷ events ∷ work ∷ saved ∷ display ∷ others) vault ≡ b → apart_check (command ∷ words) vault ≡ b
apart-told command words image events work saved display vault others b is h = subst (λ ws. apart_check (command ∷ ws) vault ≡ b) (sym is) h

-- a word that doesn't pass is the first bad one
pub wrong-word : (at : ℕ) (check : Check) (checks : List Check) (all : List (List ℕ)) (word : List ℕ) (words others : List (List ℕ)) → words ≡ word ∷ others → check all word ≡ false
    → bad_from at (check ∷ checks) all words ≡ Some at
wrong-word at check checks all word words others is wrong = subst (λ ws. bad_from at (check ∷ checks) all ws ≡ Some at) (sym is) (rw wrong refl)

-- ---- the words of a guarded run

-- words that are a guarded run state its numbers
pub guard-of_texts : (words : List (List ℕ)) (row : Row) (vault : List ℕ) → IsGuard words row vault → (row ≡ guard_row_of words) × (vault ≡ vault_of words)
guard-of_texts words row vault is =
    subst (λ ws. (row ≡ guard_row_of ws) × (vault ≡ vault_of ws)) (sym is.words_are) (rw (decimal-value row.core (omega (arith, is.core.1)), decimal-value row.entries (omega (arith, is.entries.1)), decimal-value row.room (omega (arith, is.room.1)), decimal-value row.steps (omega (arith, is.steps))) (refl, refl))

pub asked-guard : (words : List (List ℕ)) (row : Row) (vault : List ℕ) → IsGuard words row vault → kept_verb_of words ≡ ToGuard
asked-guard words row vault is = ap kept_verb_of is.words_are

-- files, numbers behind them, and a vault are a guarded run
pub guard-of_parts : (words w2 : List (List ℕ)) (image events work saved display : List ℕ) (w7 : List (List ℕ)) (core entries room steps : ℕ) (w11 : List (List ℕ)) (vault : List ℕ) → words ≡ codes "guard" ∷ w2
    → BeginsFiles w2 image events work saved display w7 → BeginsNumbers w7 core entries room steps w11 → w11 ≡ vault ∷ [] → apart_check (codes "guard" ∷ w2) vault ≡ true
    → IsGuard words record { image = image; events = events; work = work; saved = saved; display = display; core = core; entries = entries; room = room; steps = steps } vault
guard-of_parts words w2 image events work saved display w7 core entries room steps w11 vault is files numbers last apart = record {
  words_are = is ∙ ap (λ ws. codes "guard" ∷ ws) (files.is ∙ ap (λ ws. image ∷ events ∷ work ∷ saved ∷ display ∷ ws) (numbers.is
      ∙ ap (λ ws. decimal core ∷ decimal entries ∷ decimal room ∷ decimal steps ∷ ws) last));
  core = numbers.core_within;
  entries = numbers.entries_within;
  room = numbers.room_within;
  steps = numbers.steps_within;
  work_apart = files.work_apart;
  display_apart = files.display_apart;
  vault_apart = files-apart (codes "guard") w2 image events work saved display vault w7 files apart;
}

-- words of which none is bad are a guarded run
pub guard-from_words : (words : List (List ℕ)) → bad_in guard_row words ≡ None → IsGuard words (guard_row_of words) (vault_of words)
guard-from_words words right =
    take-word 1 is_guard guard_checks words words right (λ a w1 is1 command h1.
    let name : a ≡ codes "guard" = is-word (codes "guard") a command
    in let named : words ≡ codes "guard" ∷ w1 = is1 ∙ ap (λ x. x ∷ w1) name
    in take-files (number_checks ++ apart_checks) (codes "guard") w1 (subst (λ ws. bad_from 2 guard_checks ws w1 ≡ None) named h1) (λ image events work saved display w6 files h6.
    take-numbers 7 apart_checks (codes "guard" ∷ w1) w6 h6 (λ core entries room steps w10 numbers h10.
    take-word 11 apart_check [] (codes "guard" ∷ w1) w10 h10 (λ vault w11 is11 apart h11.
    let last : w10 ≡ vault ∷ [] = is11 ∙ ap (λ ws. vault ∷ ws) (take-end 12 (codes "guard" ∷ w1) w11 h11)
    in let is = guard-of_parts words w1 image events work saved display w6 core entries room steps w10 vault named files numbers last apart
    in let texts = guard-of_texts words _ vault is
    in subst (λ row. IsGuard words row (vault_of words)) texts.0 (subst (λ v. IsGuard words record { image = image; events = events; work = work; saved = saved; display = display; core = core; entries = entries; room = room; steps = steps } v) texts.1 is)))))

-- and of a guarded run none is bad
guard-to_words : (words : List (List ℕ)) (row : Row) (vault : List ℕ) → IsGuard words row vault → bad_in guard_row words ≡ None
guard-to_words words row vault is =
    let w11 : List (List ℕ) = vault ∷ []
    in let w7 : List (List ℕ) = decimal row.core ∷ decimal row.entries ∷ decimal row.room ∷ decimal row.steps ∷ w11
    in let w2 : List (List ℕ) = row.image ∷ row.events ∷ row.work ∷ row.saved ∷ row.display ∷ w7
    in let numbers : BeginsNumbers w7 row.core row.entries row.room row.steps w11 = record { is = refl; core_within = is.core; entries_within = is.entries; room_within = is.room; steps_within = is.steps }
    in let files : BeginsFiles w2 row.image row.events row.work row.saved row.display w7 = record { is = refl; work_apart = is.work_apart; display_apart = is.display_apart }
    in subst (λ ws. bad_in guard_row ws ≡ None) (sym is.words_are) (
    right-files (number_checks ++ apart_checks) (codes "guard") w2 row.image row.events row.work row.saved row.display w7 files
    ∙ right-numbers 7 apart_checks (codes "guard" ∷ w2) w7 row.core row.entries row.room row.steps w11 numbers
    ∙ right-word 11 apart_check [] (codes "guard" ∷ w2) vault w11 [] refl (apart-right (codes "guard") row.image row.events row.work row.saved row.display vault w7 is.vault_apart))

-- ---- the words of a resumed run

-- these words begin with a vault and files that may stand beside each other
pub record BeginsVault (words : List (List ℕ)) (vault events work saved display : List ℕ) (others : List (List ℕ)) : Type 0 where
  pub is : words ≡ vault ∷ events ∷ work ∷ saved ∷ display ∷ others
  pub work_apart : (work ≢ events) × (work ≢ saved) × (work ≢ display)
  pub display_apart : (display ≢ events) × (display ≢ saved)
  pub vault_apart : (vault ≢ events) × (vault ≢ work) × (vault ≢ saved) × (vault ≢ display)

vault-right : (checks : List Check) (command vault events work saved display : List ℕ) (others : List (List ℕ))
    → (work ≢ events) × (work ≢ saved) × (work ≢ display) → (display ≢ events) × (display ≢ saved) → (vault ≢ events) × (vault ≢ work) × (vault ≢ saved) × (vault ≢ display)
    → bad_from 2 (vault_checks ++ checks) (command ∷ vault ∷ events ∷ work ∷ saved ∷ display ∷ others) (vault ∷ events ∷ work ∷ saved ∷ display ∷ others)
    ≡ bad_from 7 checks (command ∷ vault ∷ events ∷ work ∷ saved ∷ display ∷ others) others
vault-right checks command vault events work saved display others from_work from_display from_vault =
    rw (
      unlike events vault (flip vault events from_vault.0),
      unlike work vault (flip vault work from_vault.1),
      unlike work events from_work.0,
      unlike saved vault (flip vault saved from_vault.2),
      unlike saved work (flip work saved from_work.1),
      unlike display vault (flip vault display from_vault.3),
      unlike display events from_display.0,
      unlike display work (flip work display from_work.2),
      unlike display saved from_display.1,
    ) refl

-- behind them only another word may be bad
pub right-vault : (checks : List Check) (command : List ℕ) (words : List (List ℕ)) (vault events work saved display : List ℕ) (others : List (List ℕ)) → BeginsVault words vault events work saved display others
    → bad_from 2 (vault_checks ++ checks) (command ∷ words) words ≡ bad_from 7 checks (command ∷ words) others
right-vault checks command words vault events work saved display others begins =
    subst (λ ws. bad_from 2 (vault_checks ++ checks) (command ∷ ws) ws ≡ bad_from 7 checks (command ∷ ws) others) (sym begins.is) (
    vault-right checks command vault events work saved display others begins.work_apart begins.display_apart begins.vault_apart)

-- the tests of a word that is apart from one other, and from two
one-apart : (x a : List ℕ) → (if bytes_eq x a then false else true) ≡ true → x ≢ a
one-apart x a h = differs x a (none-one (bytes_eq x a) h)

two-apart : (x a b : List ℕ) → (if bytes_eq x a then false else if bytes_eq x b then false else true) ≡ true → (x ≢ a) × (x ≢ b)
two-apart x a b h =
    let first = none-more (bytes_eq x a) (if bytes_eq x b then false else true) h
    in (differs x a first.0, one-apart x b first.1)

five-files : (a b c d e f : List ℕ) (words others : List (List ℕ)) → words ≡ b ∷ c ∷ d ∷ e ∷ f ∷ others → is_none_at (1 ∷ []) (a ∷ words) c ≡ true
    → is_none_at (1 ∷ 2 ∷ []) (a ∷ words) d ≡ true → is_none_at (1 ∷ 3 ∷ []) (a ∷ words) e ≡ true → is_none_at (1 ∷ 2 ∷ 3 ∷ 4 ∷ []) (a ∷ words) f ≡ true
    → BeginsVault words b c d e f others
five-files a b c d e f words others are events work saved display =
    let of_events : c ≢ b = one-apart c b (subst (λ ws. is_none_at (1 ∷ []) (a ∷ ws) c ≡ true) are events)
    in let of_work : (d ≢ b) × (d ≢ c) = two-apart d b c (subst (λ ws. is_none_at (1 ∷ 2 ∷ []) (a ∷ ws) d ≡ true) are work)
    in let of_saved : (e ≢ b) × (e ≢ d) = two-apart e b d (subst (λ ws. is_none_at (1 ∷ 3 ∷ []) (a ∷ ws) e ≡ true) are saved)
    in let of_display = display-apart a b c d e f others (subst (λ ws. is_none_at (1 ∷ 2 ∷ 3 ∷ 4 ∷ []) (a ∷ ws) f ≡ true) are display)
    in record {
      is = are;
      work_apart = (of_work.1, flip e d of_saved.1, flip f d of_display.2);
      display_apart = (of_display.1, of_display.3);
      vault_apart = (flip c b of_events, flip d b of_work.0, flip e b of_saved.0, flip f b of_display.0);
    }

take-vault : {P : Type 0} (checks : List Check) (command : List ℕ) (words : List (List ℕ)) → bad_from 2 (vault_checks ++ checks) (command ∷ words) words ≡ None
    → ((vault events work saved display : List ℕ) (others : List (List ℕ)) → BeginsVault words vault events work saved display others → bad_from 7 checks (command ∷ words) others ≡ None → P) → P
take-vault checks command words right next =
    let display_checks : List Check = is_none_at (1 ∷ 2 ∷ 3 ∷ 4 ∷ []) ∷ checks
    in let saved_checks : List Check = is_none_at (1 ∷ 3 ∷ []) ∷ display_checks
    in let work_checks : List Check = is_none_at (1 ∷ 2 ∷ []) ∷ saved_checks
    in take-word 2 anything (is_none_at (1 ∷ []) ∷ work_checks) (command ∷ words) words right (λ b w2 is2 _ h2.
    take-word 3 (is_none_at (1 ∷ [])) work_checks (command ∷ words) w2 h2 (λ c w3 is3 events h3.
    take-word 4 (is_none_at (1 ∷ 2 ∷ [])) saved_checks (command ∷ words) w3 h3 (λ d w4 is4 work h4.
    take-word 5 (is_none_at (1 ∷ 3 ∷ [])) display_checks (command ∷ words) w4 h4 (λ e w5 is5 saved h5.
    take-word 6 (is_none_at (1 ∷ 2 ∷ 3 ∷ 4 ∷ [])) checks (command ∷ words) w5 h5 (λ f w6 is6 display h6.
    let five : words ≡ b ∷ c ∷ d ∷ e ∷ f ∷ w6 = is2 ∙ ap (λ ws. b ∷ ws) (is3 ∙ ap (λ ws. c ∷ ws) (is4 ∙ ap (λ ws. d ∷ ws) (is5 ∙ ap (λ ws. e ∷ ws) is6)))
    in next b c d e f w6 (five-files command b c d e f words w6 five events work saved display) h6)))))

-- words that are a resumed run state its numbers
pub resume-of_texts : (words : List (List ℕ)) (row : Row) (vault : List ℕ) → IsResume words row vault → (row ≡ resume_row_of words) × (vault ≡ vault_of words)
resume-of_texts words row vault is =
    subst (λ ws. (row ≡ resume_row_of ws) × (vault ≡ vault_of ws)) (sym is.words_are) (rw (decimal-value row.core (omega (arith, is.core.1)), decimal-value row.entries (omega (arith, is.entries.1)), decimal-value row.room (omega (arith, is.room.1)), decimal-value row.steps (omega (arith, is.steps)), sym is.imageless) (refl, refl))

pub asked-resume : (words : List (List ℕ)) (row : Row) (vault : List ℕ) → IsResume words row vault → kept_verb_of words ≡ ToResume
asked-resume words row vault is = ap kept_verb_of is.words_are

-- a vault, files, and numbers behind them are a resumed run
resume-of_parts : (words w2 : List (List ℕ)) (vault events work saved display : List ℕ) (w7 : List (List ℕ)) (core entries room steps : ℕ) → words ≡ codes "resume" ∷ w2
    → BeginsVault w2 vault events work saved display w7 → BeginsNumbers w7 core entries room steps []
    → IsResume words record { image = []; events = events; work = work; saved = saved; display = display; core = core; entries = entries; room = room; steps = steps } vault
resume-of_parts words w2 vault events work saved display w7 core entries room steps is files numbers = record {
  words_are = is ∙ ap (λ ws. codes "resume" ∷ ws) (files.is ∙ ap (λ ws. vault ∷ events ∷ work ∷ saved ∷ display ∷ ws) numbers.is);
  imageless = refl;
  core = numbers.core_within;
  entries = numbers.entries_within;
  room = numbers.room_within;
  steps = numbers.steps_within;
  work_apart = files.work_apart;
  display_apart = files.display_apart;
  vault_apart = files.vault_apart;
}

-- words of which none is bad are a resumed run
pub resume-from_words : (words : List (List ℕ)) → bad_in resume_row words ≡ None → IsResume words (resume_row_of words) (vault_of words)
resume-from_words words right =
    take-word 1 is_resume resume_checks words words right (λ a w1 is1 command h1.
    let name : a ≡ codes "resume" = is-word (codes "resume") a command
    in let named : words ≡ codes "resume" ∷ w1 = is1 ∙ ap (λ x. x ∷ w1) name
    in take-vault number_checks (codes "resume") w1 (subst (λ ws. bad_from 2 resume_checks ws w1 ≡ None) named h1) (λ vault events work saved display w6 files h6.
    take-numbers 7 [] (codes "resume" ∷ w1) w6 h6 (λ core entries room steps w10 numbers h10.
    let last : BeginsNumbers w6 core entries room steps [] = subst (λ ws. BeginsNumbers w6 core entries room steps ws) (take-end 11 (codes "resume" ∷ w1) w10 h10) numbers
    in let is = resume-of_parts words w1 vault events work saved display w6 core entries room steps named files last
    in let texts = resume-of_texts words _ vault is
    in subst (λ row. IsResume words row (vault_of words)) texts.0 (subst (λ v. IsResume words record { image = []; events = events; work = work; saved = saved; display = display; core = core; entries = entries; room = room; steps = steps } v) texts.1 is))))

-- and of a resumed run none is bad
resume-to_words : (words : List (List ℕ)) (row : Row) (vault : List ℕ) → IsResume words row vault → bad_in resume_row words ≡ None
resume-to_words words row vault is =
    let w7 : List (List ℕ) = decimal row.core ∷ decimal row.entries ∷ decimal row.room ∷ decimal row.steps ∷ []
    in let w2 : List (List ℕ) = vault ∷ row.events ∷ row.work ∷ row.saved ∷ row.display ∷ w7
    in let numbers : BeginsNumbers w7 row.core row.entries row.room row.steps [] = record { is = refl; core_within = is.core; entries_within = is.entries; room_within = is.room; steps_within = is.steps }
    in let files : BeginsVault w2 vault row.events row.work row.saved row.display w7 = record { is = refl; work_apart = is.work_apart; display_apart = is.display_apart; vault_apart = is.vault_apart }
    in subst (λ ws. bad_in resume_row ws ≡ None) (sym is.words_are) (
    right-vault number_checks (codes "resume") w2 vault row.events row.work row.saved row.display w7 files
    ∙ right-numbers 7 [] (codes "resume" ∷ w2) w7 row.core row.entries row.room row.steps [] numbers)

-- ---- the words of each

abbrev IsEither : List (List ℕ) → Type 0
IsEither words = (kept_verb_of words ≡ Else) ⊎ (IsGuard words (guard_row_of words) (vault_of words) ⊎ IsResume words (resume_row_of words) (vault_of words))

right-from : (words : List (List ℕ)) (verb : KeptVerb) → kept_verb_of words ≡ verb → bad_kept_as verb words ≡ None → IsEither words
right-from words ToGuard asks right = inr (inl (guard-from_words words right))
right-from words ToResume asks right = inr (inr (resume-from_words words right))
right-from words Else asks right = inl asks

right-to : (words : List (List ℕ)) → IsEither words → bad_kept words ≡ None
right-to words (inl asks) = ap (λ verb. bad_kept_as verb words) asks
right-to words (inr (inl is)) = ap (λ verb. bad_kept_as verb words) (asked-guard words (guard_row_of words) (vault_of words) is) ∙ guard-to_words words (guard_row_of words) (vault_of words) is
right-to words (inr (inr is)) = ap (λ verb. bad_kept_as verb words) (asked-resume words (resume_row_of words) (vault_of words) is) ∙ resume-to_words words (resume_row_of words) (vault_of words) is

pub right-kept : (words : List (List ℕ)) → (bad_kept words ≡ None) ↔ IsEither words
right-kept words = (right-from words (kept_verb_of words) refl, right-to words)

pub ruleset kept_rules = (right-kept)
