-- The law of thinning, for forms, blits and devices.
use Rattle.blue_model.specs.Forms.{Form, Extent, count_of, form_by, form_where, form_of}
use Rattle.blue_model.specs.BitBlt.{Asked, some_form, form_or_nil, words_or, copy, copy_bits}
use Rattle.blue_model.specs.Devices.{semaphore_or_nil, put_semaphore, set_input, input_semaphore, take_word, input_word, keep_machine, put_tick, tick_words, set_timer, signal_at_tick, show_form, be_display, string_text, say_string, join_queue, take_event, take_line, take_lines, events_due, fire, check_timer, due, display_form, display_row, picture_of, picture}
use Rattle.blue_model.specs.declared.event.Event.{Event}
use Rattle.blue_model.specs.declared.event.Event.TheVariants as event
use Rattle.blue_model.specs.declared.event.Line.{Line}
use Rattle.std.specs.Option.{option_map_or}
use Rattle.long_names.specs.declared.value.Value.{Value}
use Rattle.long_names.specs.State.{DISPLAY}
use Rattle.blue_model.specs.declared.cause.Cause.TheVariants.{Shape}
use Rattle.std.specs.Prelude.{if◌then◌else◌}
use Rattle.std.proofs.Common.{◌≡◌, ℕ, Bool, true, false, List, [], ◌∷◌, Option, Some, None, refl, ap, subst}
use Rattle.blue_model.specs.Machine.{Rule}
use Rattle.blue_model.specs.Alike.{Lost, IsKept, IsKeptMaybe, IsPlain, Lawful}
use Rattle.blue_model.specs.declared.answer.Answer.{Answer}
use Rattle.blue_model.specs.Trials.{◌>>?◌, where_some}
use Rattle.blue_model.proofs.RuleLaws.{law-stack, law-pop, law-signal, law-number_object, law-answer}
use Rattle.blue_model.proofs.LawSteps.{lawful, trying, then_plain, then_value, try_plain, law_pick, law_done, law_numbers, law_failed, law_part, law_peek, done_plain, law_then, law_peek_value, law_register, law_given, law_put_register, law_put_words, then_maybe, try_value}
use Rattle.blue_model.proofs.AlikeLaws.{kept_int}
use Rattle.blue_model.proofs.WithinLaws.{within_field}

-- ---- forms

-- the form's bits aren't lost
pub record IsKeptForm (w : Lost) (o : Option Form) : Type 0 where
  pub kept : (f : Form) → o ≡ Some f → IsKept w f.bits

pub record IsKeptChoice (w : Lost) (o : Option (Option Form)) : Type 0 where
  pub kept : (f : Option Form) → o ≡ Some f → IsKeptForm w f

law-count_of : {w : Lost} (bits : Option Value) → IsKeptMaybe w bits → Lawful w IsPlain (count_of bits)
law-count_of {w} None k = done_plain None
law-count_of {w} (Some bits) k = law_peek _ bits (k.kept bits refl)

form-kept : (w : Lost) (enough : Extent → ℕ → Bool) (bits : Option Value) (count : Option ℕ) (extent : Option Extent) → IsKeptMaybe w bits → IsKeptForm w (form_by enough bits count extent)
form-kept w enough (Some bits) (Some count) (Some extent) k = by_test (enough extent count)
  where
    by_test : (b : Bool) → IsKeptForm w (if b then Some (record { bits = bits; width = extent.width; height = extent.height }) else None)
    by_test true = record { kept = λ f e. (let same : bits ≡ f.bits = ap (λ (o : Option Form). option_map_or (λ (x : Form). x.bits) o bits) e in subst (IsKept w) same (k.kept bits refl)) }
    by_test false = record { kept = λ f e. absurd (cc) }
form-kept w enough None count extent k = record { kept = λ f e. absurd (cc) }
form-kept w enough (Some bits) None extent k = record { kept = λ f e. absurd (cc) }
form-kept w enough (Some bits) (Some count) None k = record { kept = λ f e. absurd (cc) }

pub law-form_where : {w : Lost} (enough : Extent → ℕ → Bool) (v : Value) → IsKept w v → Lawful w (IsKeptForm w) (form_where enough v)
unfolding form_where
law-form_where {w} enough v k = then_maybe _ (law_peek_value _ v (within_field _ _) k) (λ bits b. then_plain _ (law-count_of bits b) (λ count. then_plain _ (law_peek _ v k) (λ extent. law_done _ (form-kept w enough bits count extent b))))

pub law-form_of : {w : Lost} (v : Value) → IsKept w v → Lawful w (IsKeptForm w) (form_of v)
unfolding form_of
law-form_of {w} v k = law-form_where _ v k

try_form : {w : Lost} {p : Rule (Option Form)} (k : Form → Rule Answer) → Lawful w (IsKeptForm w) p → ((f : Form) → IsKept w f.bits → Lawful w IsPlain (k f)) → Lawful w IsPlain (p >>? k)
unfolding ◌>>?◌ where_some
try_form {w} {p} k first f = law_then _ first by_form
  where
    by_form : (o : Option Form) → IsKeptForm w o → Lawful w IsPlain (where_some o k)
    by_form None h = law_failed
    by_form (Some a) h = f a (h.kept a refl)

try_choice : {w : Lost} {p : Rule (Option (Option Form))} (k : Option Form → Rule Answer) → Lawful w (IsKeptChoice w) p → ((f : Option Form) → IsKeptForm w f → Lawful w IsPlain (k f)) → Lawful w IsPlain (p >>? k)
unfolding ◌>>?◌ where_some
try_choice {w} {p} k first f = law_then _ first by_form
  where
    by_form : (o : Option (Option Form)) → IsKeptChoice w o → Lawful w IsPlain (where_some o k)
    by_form None h = law_failed
    by_form (Some a) h = f a (h.kept a refl)

-- ---- blits

choice-kept : (w : Lost) (f : Option Form) → IsKeptForm w f → IsKeptChoice w (some_form f)
choice-kept w None k = record { kept = λ f e. absurd (cc) }
choice-kept w (Some form) k = record { kept = λ f e. (let same : Some form ≡ f = ap (λ (o : Option (Option Form)). option_map_or (λ (x : Option Form). x) o (Some form)) e in subst (IsKeptForm w) same k) }

law-form_or_nil : {w : Lost} (shape : Value → Rule (Option Form)) (v : Value) → Lawful w (IsKeptForm w) (shape v) → Lawful w (IsKeptChoice w) (form_or_nil shape v)
unfolding form_or_nil
law-form_or_nil {w} shape v f = law_pick _ _ _ (law_done _ (record { kept = λ o e. (let same : None ≡ o = ap (λ (x : Option (Option Form)). option_map_or (λ (y : Option Form). y) x None) e in subst (IsKeptForm w) same (record { kept = λ g q. absurd (cc) })) })) (law_then _ f (λ o k. law_done _ (choice-kept w o k)))

law-words_or : {w : Lost} (others : List ℕ) (form : Option Form) → IsKeptForm w form → Lawful w IsPlain (words_or others form)
law-words_or {w} others None k = done_plain others
law-words_or {w} others (Some f) k = law_part _ _ f.bits (k.kept f refl)

pub law-copy : {w : Lost} (q : Asked) (dest : Form) (source tone : Option Form) → IsKept w dest.bits → IsKeptForm w source → IsKeptForm w tone → Lawful w IsPlain (copy q dest source tone)
unfolding copy
law-copy {w} q dest source tone k l j = then_plain _ (law_part _ _ dest.bits k) (λ words. then_plain _ (law-words_or _ source l) (λ from. then_plain _ (law-words_or _ tone j) (λ halftone. law_put_words dest.bits _ k)))

pub law-copy_bits : {w : Lost} → Lawful w IsPlain copy_bits
unfolding copy_bits
law-copy_bits {w} = then_value _ (law-stack 0) (λ blit b. try_plain _ (law_peek _ blit b) (λ q. try_value _ (law_peek_value _ blit (within_field _ _) b) (λ dest_form d. try_form _ (law-form_of dest_form d) (λ dest kept.
    try_value _ (law_peek_value _ blit (within_field _ _) b) (λ source_form s. try_choice _ (law-form_or_nil _ source_form (law-form_of source_form s)) (λ source from.
    try_value _ (law_peek_value _ blit (within_field _ _) b) (λ tone_form t. try_choice _ (law-form_or_nil _ tone_form (law-form_where _ tone_form t)) (λ tone halftone.
    then_plain _ (law-copy q dest source tone kept from halftone) (λ _. done_plain _)))))))))

-- ---- devices

law-semaphore_or_nil : {w : Lost} (v : Value) → IsKept w v → Lawful w IsPlain (semaphore_or_nil v)
unfolding semaphore_or_nil
law-semaphore_or_nil {w} v k = search (lawful, trying) depth 14

law-put_semaphore : {w : Lost} (r : ℕ) (v : Value) (there : Bool) → IsKept w v → Lawful w IsPlain (put_semaphore r v there)
unfolding put_semaphore
law-put_semaphore {w} r v true k = law_put_register r v k
law-put_semaphore {w} r v false k = law_put_register r _ (kept_int _)

law-set_input : {w : Lost} (v : Value) (there : Bool) → IsKept w v → Lawful w IsPlain (set_input v there)
unfolding set_input
law-set_input {w} v there k = search (lawful, law-put_semaphore, law-pop) depth 16

pub law-input_semaphore : {w : Lost} → Lawful w IsPlain input_semaphore
unfolding input_semaphore
law-input_semaphore {w} = search (lawful, trying, law-stack, law-semaphore_or_nil, law-set_input) depth 16

law-take_word : {w : Lost} (word : ℕ) → Lawful w IsPlain (take_word word)
unfolding take_word
law-take_word {w} word = search (lawful, law-number_object, law-answer) depth 16

pub law-input_word : {w : Lost} (events : List Line) → Lawful w IsPlain (input_word events)
unfolding input_word
law-input_word {w} events = search (lawful, trying, law-take_word) depth 14

law-put_tick : {w : Lost} (v : Value) (tick : ℕ) → IsKept w v → Lawful w IsPlain (put_tick v tick)
unfolding put_tick
law-put_tick {w} v tick k = search lawful depth 14

pub law-keep_machine : {w : Lost} → Lawful w IsPlain keep_machine
unfolding keep_machine
law-keep_machine {w} = search (lawful, trying, law-stack) depth 16

pub law-tick_words : {w : Lost} → Lawful w IsPlain tick_words
unfolding tick_words
law-tick_words {w} = search (lawful, trying, law-stack, law-put_tick, law-pop) depth 18

law-set_timer : {w : Lost} (v : Value) (there : Bool) (tick : ℕ) → IsKept w v → Lawful w IsPlain (set_timer v there tick)
unfolding set_timer
law-set_timer {w} v there tick k = search (lawful, law-put_semaphore, law-pop) depth 16

pub law-signal_at_tick : {w : Lost} → Lawful w IsPlain signal_at_tick
unfolding signal_at_tick
law-signal_at_tick {w} = search (lawful, trying, law-stack, law-semaphore_or_nil, law-set_timer) depth 20

law-show_form : {w : Lost} (v : Value) → IsKept w v → Lawful w IsPlain (show_form v)
unfolding show_form
law-show_form {w} v k = search lawful depth 14

pub law-be_display : {w : Lost} → Lawful w IsPlain be_display
unfolding be_display
law-be_display {w} = then_value _ (law-stack 0) (λ form k. try_form _ (law-form_of form k) (λ shape s. law-show_form form k))

law-string_text : {w : Lost} (v : Value) → IsKept w v → Lawful w IsPlain (string_text v)
unfolding string_text
law-string_text {w} v k = search (lawful, trying) depth 14

pub law-say_string : {w : Lost} → Lawful w IsPlain say_string
unfolding say_string
law-say_string {w} = search (lawful, trying, law-stack, law-string_text, law-pop) depth 18

-- ---- before a bytecode

law-join_queue : {w : Lost} → Lawful w IsPlain join_queue
unfolding join_queue
law-join_queue {w} = search (lawful, law-signal) depth 16

law-take_event : {w : Lost} (event : Event) → Lawful w IsPlain (take_event event)
law-take_event (event.Word word) = law-join_queue
law-take_event event.Purge = done_plain tt
law-take_event event.Compact = done_plain tt

law-take_line : {w : Lost} (line : Line) → Lawful w IsPlain (take_line line)
unfolding take_line
law-take_line {w} line = search (lawful, law-take_event) depth 14

law-take_lines : {w : Lost} (count : ℕ) (lines : List Line) → Lawful w IsPlain (take_lines count lines)
law-take_lines {w} count [] = done_plain tt
law-take_lines {w} count (line ∷ lines) = law_pick _ _ _ (then_plain _ (law-take_line line) (λ _. law-take_lines count lines)) (done_plain tt)

law-events_due : {w : Lost} (events : List Line) → Lawful w IsPlain (events_due events)
unfolding events_due
law-events_due {w} events = search (lawful, law-take_lines) depth 12

law-fire : {w : Lost} → Lawful w IsPlain fire
unfolding fire
law-fire {w} = search (lawful, law-signal) depth 18

law-check_timer : {w : Lost} → Lawful w IsPlain check_timer
unfolding check_timer
law-check_timer {w} = search (lawful, law-fire) depth 14

pub law-due : {w : Lost} (events : List Line) → Lawful w IsPlain (due events)
unfolding due
law-due {w} events = search (lawful, law-events_due, law-check_timer) depth 12

-- ---- the picture

pub law-display_form : {w : Lost} → Lawful w (IsKeptForm w) display_form
unfolding display_form
law-display_form {w} = then_plain _ law_numbers (λ cpu. then_value _ (law_register DISPLAY) (λ form k. law_pick _ _ _ (law-form_of form k) (law_done None (record { kept = λ f e. absurd (cc) }))))

pub law-display_row : {w : Lost} (y : ℕ) → Lawful w IsPlain (display_row y)
unfolding display_row
law-display_row {w} y = law_then _ law-display_form (λ shape k. law_then _ (law_given (λ (f : Form). IsKept w f.bits) Shape shape (λ f e. k.kept f e)) (λ form j. then_plain _ (law_part _ _ form.bits j) (λ words. done_plain _)))

law-picture_of : {w : Lost} (form : Option Form) → IsKeptForm w form → Lawful w IsPlain (picture_of form)
law-picture_of {w} None k = done_plain []
law-picture_of {w} (Some form) k = then_plain _ (law_part _ _ form.bits (k.kept form refl)) (λ words. done_plain _)

pub law-picture : {w : Lost} → Lawful w IsPlain picture
unfolding picture
law-picture {w} = law_then _ law-display_form (λ form k. law-picture_of form k)
