-- Rows of a picture, and the whole.
-- A picture is drawn by rows, each of which serves a rule that only looks (`row_leaves`, `picture_leaves` of `blue_model`), so
-- the machine that the memory stands for is one all through the loop.
use Rattle.std.proofs.Common.{◌≡◌, ℕ, zero, suc, ◌<◌, ◌≤◌, ◌+◌, ◌*◌, ◌/◌, ◌%◌, nat_lt, cond, Bool, true, false, List, [], ◌∷◌, ◌++◌, length, map, take, drop, get_or, Option, Some, None, Result, Ok, Err, IsTrue, refl, sym, ◌∙◌, ap, ap₂, subst, arith, append_assoc, mul-le-mul_left}
use Rattle.std.specs.Prelude.{unwrap_or, IfOk}
use Rattle.std.specs.List.{range_with_len, concat}
use Rattle.std.specs.Option.{option_and_then}
use Rattle.std.specs.Result.{IsErrAnd}
use Rattle.std.proofs.lemmas.Result.{err_from_is_err_and}
use Rattle.std.proofs.lemmas.List.{get_or-take, get_or-drop, append-nil}
use Rattle.std.proofs.lemmas.List.FromFn.{map-range_with_len_more}
use borrow.Author.Tests.{ltb-true}
use Rattle.long_names.specs.declared.value.Value.{Value}
use Rattle.long_names.specs.Objects.{words_of}
use Rattle.long_names.specs.State.{object_at, part_at}
use Rattle.object_memory.specs.Told.{Told, IsReady}
use Rattle.object_memory.specs.Shape.{HasPartAt, Looks}
use Rattle.object_memory.specs.Contract.{IsLater}
use Rattle.object_memory.proofs.LaterLaws.{IsLater-refl, IsLater-trans}
use Rattle.object_memory.proofs.LooksLaws.{Looks-refl, part_looked, has_looked}
use Rattle.long_names.specs.Access.{answered, answer_of, ReadWords}
use Rattle.long_names.specs.Access as access
use Rattle.blue_model.specs.declared.cause.Cause.TheVariants.{Shape}
use Rattle.blue_model.specs.declared.cpu.Cpu.{Cpu}
use Rattle.blue_model.specs.Machine.{Outcome, Go, Halt, Spent, Rule, done, part}
use Rattle.blue_model.specs.BitBlt.{words_in}
use Rattle.blue_model.specs.Forms.{Form, row_words, bit, left_bit, pixel, padded_pixel, number_of, row_byte, row_bytes, picture_head, picture_text}
use Rattle.blue_model.specs.Devices.{display_form, display_row, picture_of, picture}
use Rattle.contexts.specs.declared.stop.Stop.{Stop}
use Rattle.contexts.specs.declared.stop.Stop.TheVariants.{Stuck}
use Rattle.contexts.specs.Serves.{Gives, Serves, SaidNothing}
use Rattle.contexts.proofs.ServesLaws.{serves_then, serves_stop, said_nothing}
use Rattle.contexts.proofs.Steps.{done_serves, read_first, given_then, given_stuck}
use Rattle.contexts.proofs.ReadLaws.{quiet, read_serves}
use Rattle.devices.specs.declared.fault.PictureFault.{PictureFault}
use Rattle.devices.specs.declared.fault.PictureFault.TheVariants as fault
use Rattle.devices.specs.Inside.{form_in, HasRows, ReadsRow, words_told, row_at, HasWords, bits_found}
use Rattle.devices.specs.Pictures.{HasGone, IsUndrawn, DrawnBy, front_found, extent_of_form, IsShown, HasRow}

-- ---- the words of a row

number_same : (f g : ℕ → ℕ) → ((i : ℕ) → f i ≡ g i) → (k : ℕ) → number_of f k ≡ number_of g k
number_same f g same zero = refl
number_same f g same (suc k) = ap₂ (λ a b. 2 * a + b) (number_same f g same k) (same k)

map_same : (f g : ℕ → ℕ) → ((i : ℕ) → f i ≡ g i) → (xs : List ℕ) → map f xs ≡ map g xs
map_same f g same [] = refl
map_same f g same (x ∷ xs) = ap₂ (λ (a : ℕ) (others : List ℕ). a ∷ others) (same x) (map_same f g same xs)

-- word k of a row
row_word : (words : List ℕ) (at n k : ℕ) → k < n → get_or (take n (drop at words)) k 0 ≡ get_or words (at + k) 0
row_word words at n k low = get_or-take n (drop at words) k 0 low ∙ get_or-drop at words k 0

-- a pixel of the row is one of the form
pixel_in_row : (words : List ℕ) (width x y : ℕ) → x < width → pixel width (row_at width words y) x 0 ≡ pixel width words x y
unfolding bit
pixel_in_row words width x y low =
    let rw_y = row_words width * y in
    let flat : 16 * row_words width * y ≡ 16 * (row_words width * y) = grind arith in
    let none : 16 * row_words width * 0 + x ≡ x = omega arith in
    let word : (16 * row_words width * y + x) / 16 ≡ row_words width * y + x / 16 = omega (arith, flat) in
    let place : (16 * row_words width * y + x) % 16 ≡ x % 16 = omega (arith, flat) in
    ap (bit (row_at width words y)) none
    ∙ ap (λ w. left_bit w (x % 16)) (row_word words (row_words width * y) (row_words width) (x / 16) (omega arith))
    ∙ sym (ap₂ (λ k p. left_bit (get_or words k 0) p) word place)

padded_in_row : (words : List ℕ) (width y x : ℕ) → padded_pixel width (row_at width words y) 0 x ≡ padded_pixel width words y x
padded_in_row words width y x = go (nat_lt x width) refl
  where
    go : (b : Bool) → nat_lt x width ≡ b → cond b (pixel width (row_at width words y) x 0) 0 ≡ cond b (pixel width words x y) 0
    go true e = pixel_in_row words width x y (ltb-true x width e)
    go false e = refl

pub row_is : (words : List ℕ) (width y : ℕ) → row_bytes width (row_at width words y) 0 ≡ row_bytes width words y
unfolding row_bytes
row_is words width y = map_same (row_byte width (row_at width words y) 0) (row_byte width words y) (λ j. number_same _ _ (λ i. padded_in_row words width y (8 * j + i)) 8) (range_with_len 0 ((width + 7) / 8))

-- ---- the words that are told

pub words_are : {t : Told} {r : ℕ} {P : List ℕ → Type 0} → HasPartAt t r words_of P → IsTrue t.tells → part_at t.heap (t.regs r) words_of ≡ Some (words_told t r)
words_are has told = let it = has.there told in it.1 ∙ ap (λ x. Some (unwrap_or x [])) (sym it.1)

pub words_found : {t : Told} {r : ℕ} {P : List ℕ → Type 0} → HasPartAt t r words_of P → IsTrue t.tells → option_and_then words_in (object_at t.heap (t.regs r)) ≡ Some (words_told t r)
unfolding words_in
words_found has told = words_are has told

-- what is read of them
pub words_read : {t : Told} {P : List ℕ → Type 0} (at n : ℕ) (out : List ℕ) → HasPartAt t 13 words_of P → IsTrue t.tells → answer_of t.heap t.regs (ReadWords 13 at n) ≡ Some (access.OfRun out) → out ≡ take n (drop at (words_told t 13))
words_read {t} at n out has told answer =
    let read = sym (ap (answered (λ words. access.OfRun (take n (drop at words)))) (words_are has told)) ∙ answer in
    cc

-- and stay after reads
pub words_stay : (t u : Told) → IsReady u → Looks [] t u → IsTrue t.tells → words_told u 13 ≡ words_told t 13
words_stay t u ready looks told = ap (λ x. unwrap_or x []) (part_looked [] t u 13 words_of ready looks refl told)

-- a row of those that are there
pub row_there : (t u : Told) (width height y : ℕ) → IsReady u → Looks [] t u → HasRows t 13 (width, height) → y < height → HasWords u width y
row_there t u width height y ready looks rows low =
    let all = has_looked [] t u 13 words_of (λ words. row_words width * height ≤ length words) ready looks refl rows in
    let below : row_words width * y + row_words width ≤ row_words width * height = let scaled = mul-le-mul_left (row_words width) low in grind arith in
    record { name = all.name; there = λ told. (let it = all.there told in (it.0, it.1, (let enough = it.2 in omega arith))) }

-- ---- rows, one after the other

concat_last : (xs : List (List ℕ)) (x : List ℕ) → concat (xs ++ x ∷ []) ≡ concat xs ++ x
concat_last [] x = append-nil x
concat_last (y ∷ xs) x = ap (λ s. y ++ s) (concat_last xs x) ∙ sym (append_assoc y (concat xs) x)

pub rows_more : (width y : ℕ) (words front text row : List ℕ) → text ≡ front ++ concat (map (row_bytes width words) (range_with_len 0 y)) → row ≡ row_bytes width words y → text ++ row ≡ front ++ concat (map (row_bytes width words) (range_with_len 0 (y + 1)))
rows_more width y words front text row before is =
    ap₂ (λ (s r : List ℕ). s ++ r) before is
    ∙ append_assoc front (concat (map (row_bytes width words) (range_with_len 0 y))) (row_bytes width words y)
    ∙ ap (λ s. front ++ s) (sym (concat_last (map (row_bytes width words) (range_with_len 0 y)) (row_bytes width words y)) ∙ ap concat (sym (map-range_with_len_more (row_bytes width words) 0 y y (omega arith))))

-- ---- the picture

done_told : {A : Type 0} {t : Told} {cpu : Cpu} (a b : A) → IsReady t → (IsTrue t.tells → a ≡ b) → Serves t cpu t cpu (done a) (Ok b)
unfolding done
done_told {A} {t} {cpu} a b ready same =
    let s : Serves t cpu t cpu (done a) (Ok a) = done_serves ready in
    record { later = s.later; ready = ready; reason = tt; counts = s.counts; vault = s.vault; silent = s.silent; model = λ told m st. (same told, st) }

module _ {t u : Told} {cpu : Cpu} (width height : ℕ) (form : Serves t cpu u cpu display_form (Ok (form_in (Some (width, height)) (u.regs 13)))) (ready : IsReady u) where
  pub drawn : (w : Told) (text : List ℕ) → IsReady w → Looks [] u w → HasRows u 13 (width, height) → (IsTrue u.tells → text ≡ picture_head width height ++ concat (map (row_bytes width (words_told u 13)) (range_with_len 0 height))) → Serves t cpu w cpu picture (Ok text)
  unfolding picture picture_text
  drawn w text later looks rows is =
      serves_then picture_of form (serves_then _ (read_serves [] Shape words_in 13 (words_told u 13) refl ready later looks (words_found rows)) (done_told _ text later (λ told. sym (is (sym looks.later.tells ∙ told)))))

  drawn_stop : (v w : Told) (stop : Stop) → IsReady v → Looks [] u v → ((cpu : Cpu) → Serves v cpu w cpu (part Shape words_in (v.regs 13)) (Err stop)) → Serves t cpu w cpu picture (Err stop)
  unfolding picture
  drawn_stop v w stop later looks s =
      serves_then picture_of form (serves_stop _ (read_first ready (quiet [] u v refl ready later looks) (subst (λ (x : Value). Serves v cpu w cpu (part Shape words_in x) (Err stop)) (looks.regs 13 refl) (s cpu))))

  has_gone : (v : Told) (text : List ℕ) (o : Outcome (List ℕ)) → Gives v cpu (Ok text) o → HasGone o
  has_gone v text (Go bytes m log) goes = tt
  has_gone v text (Halt c log) goes = goes
  has_gone v text (Spent log) goes = goes

  -- memory is asked for once the form is known, and the words of its bits can be read then
  drawn_not : (v w : Told) → IsReady v → Looks [] u v → HasRows u 13 (width, height) → IsLater v w → SaidNothing v w → IsUndrawn t cpu w
  drawn_not v w ready_then looks rows later silent =
      let early = IsLater-trans t u v form.later looks.later in
      let whole = drawn v _ ready_then looks rows (λ told. refl) in
      record {
        later = IsLater-trans t v w early later;
        silent = said_nothing t v w early (said_nothing t u v form.later form.silent looks.transcript) silent;
        model = λ told m st. has_gone v _ (picture m) (whole.model told m st);
      }

  pub row_fails : (v w : Told) (f : PictureFault) → IsReady v → Looks [] u v → HasRows u 13 (width, height) → ReadsRow v w (Err f) → DrawnBy t cpu w (Err f)
  row_fails v w (fault.Stop stop) later looks rows s = drawn_stop v w stop later looks s
  row_fails v w fault.Memory later looks rows s = drawn_not v w later looks rows s.0 s.1

  pub head_fails : HasRows u 13 (width, height) → DrawnBy t cpu u (Err fault.Memory)
  head_fails rows = drawn_not u u ready (Looks-refl u) rows (IsLater-refl u) (λ speaks. refl)

-- no form is the display
pub drawn_none : {t u : Told} {cpu : Cpu} (text : List ℕ) → text ≡ [] → Serves t cpu u cpu display_form (Ok None) → Serves t cpu u cpu picture (Ok text)
unfolding picture
drawn_none {t} {u} {cpu} text none form = serves_then picture_of form (done_told _ text form.ready (λ told. sym none))

pub form_fails : {t u : Told} {cpu : Cpu} {stop : Stop} → Serves t cpu u cpu display_form (Err stop) → DrawnBy t cpu u (Err (fault.Stop stop))
unfolding picture
form_fails form = serves_stop picture_of form

-- the exits of a `?`
pub exits_drawn : (t u : Told) (cpu : Cpu) (f : PictureFault) (r : Result (List ℕ) PictureFault) → IsErrAnd r (λ y. y ≡ f) → DrawnBy t cpu u (Err f) → DrawnBy t cpu u r
exits_drawn t u cpu f r is s =
    let q = err_from_is_err_and r is in
    subst (λ x. DrawnBy t cpu u x) (sym (q.1 ∙ ap (λ y. Err y) q.2)) s

pub exits_row : (t u : Told) (f : PictureFault) (r : Result (Unit {0}) PictureFault) → IsErrAnd r (λ y. y ≡ f) → ReadsRow t u (Err f) → ReadsRow t u r
exits_row t u f r is s =
    let q = err_from_is_err_and r is in
    subst (λ x. ReadsRow t u x) (sym (q.1 ∙ ap (λ y. Err y) q.2)) s

pub exits_bits : {old new : Told} {cpu : Cpu} {rule : Rule (List ℕ)} {e : Stop} (r : Result ℕ Stop) (words : List ℕ) → IsErrAnd r (λ y. y ≡ e) → Serves old cpu new cpu rule (Err e) → Serves old cpu new cpu rule (bits_found r words)
exits_bits {old} {new} {cpu} {rule} {e} r words is s =
    let q = err_from_is_err_and r is in
    subst (λ (x : Result ℕ Stop). Serves old cpu new cpu rule (bits_found x words)) (sym (q.1 ∙ ap (λ y. Err y) q.2)) s

pub exits_front : {old new : Told} {cpu : Cpu} {rule : Rule (List ℕ)} {e : Stop} (r : Result ℕ Stop) (out : List ℕ) → IsErrAnd r (λ y. y ≡ e) → Serves old cpu new cpu rule (Err e) → Serves old cpu new cpu rule (front_found r out)
exits_front {old} {new} {cpu} {rule} {e} r out is s =
    let q = err_from_is_err_and r is in
    subst (λ (x : Result ℕ Stop). Serves old cpu new cpu rule (front_found x out)) (sym (q.1 ∙ ap (λ y. Err y) q.2)) s

-- ---- columns and rows

pub extent_back : (e : Option (ℕ × ℕ)) (bits : Value) → e ≡ extent_of_form (form_in e bits)
extent_back None bits = refl
extent_back (Some e) bits = refl

-- ---- one row

-- no form is the display
pub row_none : {t u : Told} {cpu : Cpu} (y : ℕ) → Serves t cpu u cpu display_form (Ok None) → Serves t cpu u cpu (display_row y) (Err (Stuck Shape))
unfolding display_row
row_none y form = serves_then _ form (given_stuck None _ (λ told. refl))

-- the form has this row
pub row_missing : {t u : Told} {cpu : Cpu} (y width height : ℕ) (bits : Value) → Serves t cpu u cpu display_form (Ok (form_in (Some (width, height)) bits)) → (IsTrue t.tells → IsShown t cpu y) → height ≤ y → Serves t cpu u cpu (display_row y) (Err (Stuck Shape))
row_missing {t} {u} {cpu} y width height bits form shown past = record {
  later = form.later;
  ready = tt;
  reason = tt;
  counts = tt;
  vault = tt;
  silent = form.silent;
  model = λ told m st. absurd (never (display_form m) (shown told m st) (form.model told m st));
}
  where
    never : (o : Outcome (Option Form)) → HasRow y o → Gives u cpu (Ok (form_in (Some (width, height)) bits)) o → ⊥
    never (Go (Some f) m log) low goes = let same : f ≡ (record { bits = bits; width = width; height = height }) = let e = goes.0 in cc in let tall = ap (λ (x : Form). x.height) same in absurd (omega arith)
    never (Go None m log) low goes = low
    never (Halt c log) low goes = low
    never (Spent log) low goes = low

-- and it is drawn, or its bits can't be read
pub row_drawn : {t u w : Told} {cpu : Cpu} (r : Result ℕ Stop) (out : List ℕ) (y width height : ℕ) → Serves t cpu u cpu display_form (Ok (form_in (Some (width, height)) (u.regs 13))) → Serves u cpu w cpu (part Shape words_in (u.regs 13)) (bits_found r (words_told u 13)) → (IsTrue u.tells → IfOk r (λ n. take n out ≡ row_bytes width (words_told u 13) y)) → Serves t cpu w cpu (display_row y) (front_found r out)
unfolding display_row
row_drawn (Ok n) out y width height form s is = serves_then _ form (given_then Shape (Some _) _ _ (λ told. refl) (serves_then _ s (done_told _ (take n out) s.ready (λ told. sym (is (sym s.later.tells ∙ told))))))
row_drawn (Err e) out y width height form s is = serves_then _ form (given_then Shape (Some _) _ _ (λ told. refl) (serves_stop _ s))
